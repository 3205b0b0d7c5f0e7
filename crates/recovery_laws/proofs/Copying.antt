-- A recovery reads at its source and writes at its target: an answer to it changes nothing at an attached backend, and leaves another a
-- store of the tables.
use Rattle.std.proofs.Common.{◌≡◌, ◌≢◌, ℕ, ℤ, Bool, true, false, List, refl, sym, ap, subst, ◌∙◌}
use Rattle.std.specs.Prelude.{if◌then◌else◌, slice_get, Option, Some, None}
use Rattle.std.specs.FinMap as fin
use Rattle.schema.specs.declared.catalogue.TableDef.{TableDef}
use Rattle.schema.specs.Allowed.{AreAllowed}
use Rattle.catalogue.specs.declared.checked.Checked.{Checked}
use Rattle.sql_eval.specs.declared.row.Row.{Row}
use Rattle.backend_trait.specs.Typed.{IsStored, AreAllStored}
use Rattle.outcomes.specs.Stored as sets
use Rattle.outcomes.proofs.Shaped.{rows_shaped}
use Rattle.outcomes.proofs.StoredRows.{laid_stored, left_stored}
use Rattle.backend_trait.specs.declared.request.Request.{Request}
use Rattle.backend_trait.specs.declared.request.Request.TheVariants as requests
use Rattle.backend_trait.specs.declared.answer.Answer.{Answer}
use Rattle.backend_trait.specs.Keys.{Place, place_order}
use Rattle.backend_trait.specs.Rows.{Changes, with_at}
use Rattle.backend_trait.specs.Effect.{Given, Fails, Gives, effect_of, table_in}
use Rattle.backend_trait.specs.Runnable.{IsRunnable}
use Rattle.backend_trait.specs.Store.{Live, Transaction, Absent, Alive, Dead, Store, view_of, next_for, begun, given_to, made_stale, where_live, settled, committed_by, drawn, answered, is_refusal, refused, acted}
use Rattle.backend_trait.proofs.RowLaws.{get-joined_changes, change_over}
use Rattle.online_recovery.specs.declared.standing.Side.TheVariants.{Target}
use Rattle.online_recovery.specs.declared.standing.Task.{Task}
use Rattle.online_recovery.specs.declared.standing.Task.TheVariants.{OpeningSource, OpeningTarget, Reading, Emptying, Filling, Committing, Leaving, OpeningNumbers, ReadingSerial, LockingSerial, SettingSerial, ClosingNumbers}
use Rattle.online_recovery.specs.State.{side_of}
use Rattle.online_recovery.specs.Copies.{all_rows_in}
use Rattle.online_recovery.specs.Rules.{request_of}
use Rattle.one_copy_model.specs.World.{World}
use Rattle.one_copy_model.specs.Chains.{AreShaped}
use Rattle.one_copy_model.proofs.Places.{each_at, with_at-other}
use Rattle.one_copy_laws.proofs.ActsEffects.{no_numbers}
use Rattle.recovery_laws.specs.Pool.{store_left}
use Rattle.recovery_laws.specs.Ready.{IsSpare}
use Rattle.recovery_laws.specs.Steps.{RunsIn}

-- At the source.

abbrev pub ReadsOnly : List TableDef → Request → Type 0
ReadsOnly tables requests.TakeSnapshot = Unit {0}
ReadsOnly tables (requests.Run checked) = (table : ℕ) × (checked ≡ all_rows_in tables table)
ReadsOnly tables (requests.Lock table) = ⊥
ReadsOnly tables requests.Commit = ⊥
ReadsOnly tables requests.Rollback = Unit {0}
ReadsOnly tables (requests.ReadSerial table) = Unit {0}
ReadsOnly tables (requests.SetSerial table n) = ⊥

pub source_reads : (tables : List TableDef) (task : Task) → (side_of task ≡ Target → ⊥) → ReadsOnly tables (request_of tables task)
source_reads tables OpeningSource never = tt
source_reads tables OpeningTarget never = absurd (never refl)
source_reads tables (Reading table) never = (table, refl)
source_reads tables (Emptying table rows) never = absurd (never refl)
source_reads tables (Filling table rows left) never = absurd (never refl)
source_reads tables Committing never = absurd (never refl)
source_reads tables Leaving never = tt
source_reads tables OpeningNumbers never = absurd (never refl)
source_reads tables (ReadingSerial table) never = tt
source_reads tables (LockingSerial table n) never = absurd (never refl)
source_reads tables (SettingSerial table n) never = absurd (never refl)
source_reads tables ClosingNumbers never = absurd (never refl)

module _ (st : Store) (s : ℕ) (x : Transaction) where
  abbrev seen : Store
  seen = record st { transaction = with_at st.transaction s x }

  back : (y : Transaction) → with_at (with_at (with_at st.transaction s x) s y) s (st.transaction s) ≡ st.transaction
  back y = λ i o. same o i
    where
      same : (o : ℕ) → with_at (with_at (with_at st.transaction s x) s y) s (st.transaction s) o ≡ st.transaction o
      same = each_at (λ o z. z ≡ st.transaction o) (with_at (with_at st.transaction s x) s y) s (st.transaction s) refl
          (λ o other. with_at-other (with_at st.transaction s x) s y o other ∙ with_at-other st.transaction s x o other)

  abbrev Same : Store → Type 0
  Same new = store_left st new s ≡ st

  pub settled_same : (y : Transaction) (next : ℕ → Option ℤ) → next ≡ st.next → Same (record (settled seen s y) { next = next })
  settled_same y next e =
      ap (λ (f : ℕ → Transaction). record st { transaction = f; next = next }) (back y)
      ∙ ap (λ (n : ℕ → Option ℤ). record st { next = n }) e

  draws_none : (tables : List TableDef) (request : Request) → ReadsOnly tables request → drawn st.tables st.next request ≡ st.next
  draws_none tables requests.TakeSnapshot reads = refl
  draws_none tables (requests.Run checked) reads = ap (λ (c : Checked). drawn st.tables st.next (requests.Run c)) reads.1 ∙ no_numbers st.tables st.next (all_rows_in tables reads.0) refl
  draws_none tables (requests.Lock table) reads = absurd reads
  draws_none tables requests.Commit reads = absurd reads
  draws_none tables requests.Rollback reads = refl
  draws_none tables (requests.ReadSerial table) reads = refl
  draws_none tables (requests.SetSerial table n) reads = absurd reads

  answered_same : (tables : List TableDef) (request : Request) → ReadsOnly tables request → Same (answered seen s request)
  answered_same tables requests.TakeSnapshot reads = settled_same (Alive (begun st.rows)) st.next refl
  answered_same tables (requests.Run checked) reads =
      settled_same (where_live (λ t. given_to (effect_of st.tables checked (view_of t) (next_for st.next (table_in checked))).given t) (seen.transaction s)) (drawn st.tables st.next (requests.Run checked))
      (draws_none tables (requests.Run checked) reads)
  answered_same tables (requests.Lock table) reads = absurd reads
  answered_same tables requests.Commit reads = absurd reads
  answered_same tables requests.Rollback reads = settled_same Absent st.next refl
  answered_same tables (requests.ReadSerial table) reads = settled_same (seen.transaction s) st.next refl
  answered_same tables (requests.SetSerial table n) reads = absurd reads

  pub read_same : (tables : List TableDef) (request : Request) (answer : Answer) → ReadsOnly tables request → Same (acted seen s request answer)
  read_same tables request answer reads = by (is_refusal answer)
    where
      by : (v : Bool) → Same (if v then refused seen s request else answered seen s request)
      by true = settled_same Dead (drawn st.tables st.next request) (draws_none tables request reads)
      by false = answered_same tables request reads

-- At another backend.

pub record AreStoredIn (tables : List TableDef) (x : Transaction) : Type 0 where
  pub base : (l : Live) → x ≡ Alive l → AreAllStored tables l.base
  pub changes : (l : Live) (p : Place) (row : Row) → x ≡ Alive l → fin.get l.changes p ≡ Some (Some row) → IsStored (slice_get tables p.table) p.key row

pub absent_stored : (tables : List TableDef) → AreStoredIn tables Absent
absent_stored tables = record { base = λ l e. absurd (let z : Absent ≡ Alive l = e in cc); changes = λ l p row e. absurd (let z : Absent ≡ Alive l = e in cc) }

dead_stored : (tables : List TableDef) → AreStoredIn tables Dead
dead_stored tables = record { base = λ l e. absurd (let z : Dead ≡ Alive l = e in cc); changes = λ l p row e. absurd (let z : Dead ≡ Alive l = e in cc) }

-- of one live transaction
alive_stored : (tables : List TableDef) (u : Live) → AreAllStored tables u.base → ((p : Place) (row : Row) → fin.get u.changes p ≡ Some (Some row) → IsStored (slice_get tables p.table) p.key row)
    → AreStoredIn tables (Alive u)
alive_stored tables u base changes = record {
  base = λ l e. subst (λ (z : Live). AreAllStored tables z.base) (let same : u ≡ l = cc in same) base;
  changes = λ l p row e is. changes p row (ap (λ (z : Live). fin.get z.changes p) (let same : u ≡ l = cc in same) ∙ is);
}

-- and what it sees
pub view_stored : (tables : List TableDef) (x : Transaction) → AreStoredIn tables x → (l : Live) → x ≡ Alive l → AreAllStored tables (view_of l)
view_stored tables x h l is = laid_stored tables l.base l.changes (h.base l is) (λ q row f. h.changes l q row is f)

stored_in : (st : Store) → AreShaped st → (s : ℕ) → AreStoredIn st.tables (st.transaction s)
stored_in st shaped s = record { base = shaped.bases s; changes = shaped.changes s }

pub with_stored : (st : Store) → AreShaped st → (s : ℕ) (x : Transaction) → AreStoredIn st.tables x → AreShaped (record st { transaction = with_at st.transaction s x })
with_stored st shaped s x stored =
    let each : (o : ℕ) → AreStoredIn st.tables (with_at st.transaction s x o) = each_at (λ o z. AreStoredIn st.tables z) st.transaction s x stored (λ o other. stored_in st shaped o) in
    record { rows = shaped.rows; bases = λ o. (each o).base; changes = λ o. (each o).changes }

-- what an answer leaves of a store: the tables and the loss, rows of the tables, and no transaction of others that was not there
record IsLeft (st new : Store) (s : ℕ) : Type 0 where
  tables : new.tables ≡ st.tables
  lost : new.lost ≡ st.lost
  shaped : AreShaped new
  none : (o : ℕ) → o ≢ s → st.transaction o ≡ Absent → new.transaction o ≡ Absent

module _ (st : Store) (s : ℕ) (shaped : AreShaped st) where
  settled_left : (y : Transaction) (next : ℕ → Option ℤ) → AreStoredIn st.tables y → IsLeft st (record (settled st s y) { next = next }) s
  settled_left y next stored =
      let w : AreShaped (record st { transaction = with_at st.transaction s y }) = with_stored st shaped s y stored in
      record {
        tables = refl;
        lost = refl;
        shaped = record { rows = shaped.rows; bases = w.bases; changes = w.changes };
        none = λ o other e. with_at-other st.transaction s y o other ∙ e;
      }

  -- a statement's result
  joined_at : (left : Changes) (u : Live) → sets.AreLeftStored st.tables left → st.transaction s ≡ Alive u → (q : Place) (row : Row) (c : Option (Option Row)) → fin.get left q ≡ c
      → change_over c (fin.get u.changes q) ≡ Some (Some row) → IsStored (slice_get st.tables q.table) q.key row
  joined_at left u stored live q row None e f = shaped.changes s u q row live f
  joined_at left u stored live q row (Some c) e f = stored q row (e ∙ f)

  given_stored : (checked : Checked) → IsRunnable st.tables checked → AreAllowed st.tables → (u : Live) → st.transaction s ≡ Alive u → (given : Given)
      → (effect_of st.tables checked (view_of u) (next_for st.next (table_in checked))).given ≡ given → AreStoredIn st.tables (Alive (given_to given u))
  given_stored checked runs allowed u live (Fails code) e = alive_stored st.tables u (shaped.bases s u live) (λ p row. shaped.changes s u p row live)
  given_stored checked runs allowed u live (Gives answer left places) e =
      let seen_stored : AreAllStored st.tables (view_of u) = laid_stored st.tables u.base u.changes (shaped.bases s u live) (λ q row f. shaped.changes s u q row live f) in
      let left_here : sets.AreLeftStored st.tables left =
      left_stored st.tables (view_of u) left (rows_shaped st.tables checked (view_of u) runs seen_stored allowed (next_for st.next (table_in checked)) answer left places e) in
      alive_stored st.tables (given_to (Gives answer left places) u) (shaped.bases s u live)
      (λ q row f. joined_at left u left_here live q row (fin.get left q) refl (sym (get-joined_changes left u.changes q) ∙ f))

  ran_stored : (checked : Checked) → IsRunnable st.tables checked → AreAllowed st.tables → (x : Transaction) → st.transaction s ≡ x
      → AreStoredIn st.tables (where_live (λ t. given_to (effect_of st.tables checked (view_of t) (next_for st.next (table_in checked))).given t) x)
  ran_stored checked runs allowed Absent e = absent_stored st.tables
  ran_stored checked runs allowed (Alive u) e = given_stored checked runs allowed u e (effect_of st.tables checked (view_of u) (next_for st.next (table_in checked))).given refl
  ran_stored checked runs allowed Dead e = dead_stored st.tables

  -- the lock of a table
  locked_stored : (f : Live → Live) → ((u : Live) → (f u).base ≡ u.base) → ((u : Live) → (f u).changes ≡ u.changes) → (x : Transaction) → AreStoredIn st.tables x → AreStoredIn st.tables (where_live f x)
  locked_stored f base changes Absent h = h
  locked_stored f base changes (Alive u) h =
      alive_stored st.tables (f u) (subst (AreAllStored st.tables) (sym (base u)) (h.base u refl))
      (λ p row e. h.changes u p row refl (ap (λ (c : Changes). fin.get c p) (sym (changes u)) ∙ e))
  locked_stored f base changes Dead h = h

  -- a commit
  stale_none : (f : Live → Live) (x : Transaction) → x ≡ Absent → where_live f x ≡ Absent
  stale_none f x e = ap (where_live f) e

  committed_left : (x : Transaction) → st.transaction s ≡ x → IsLeft st (committed_by st s x) s
  committed_left Absent e = settled_left Absent st.next (absent_stored st.tables)
  committed_left Dead e = settled_left Absent st.next (absent_stored st.tables)
  committed_left (Alive u) e =
      let each : (o : ℕ) → AreStoredIn st.tables (with_at (λ k. where_live (made_stale u.changes) (st.transaction k)) s Absent o) =
      each_at (λ o z. AreStoredIn st.tables z) (λ k. where_live (made_stale u.changes) (st.transaction k)) s Absent (absent_stored st.tables)
      (λ o other. locked_stored (made_stale u.changes) (λ v. refl) (λ v. refl) (st.transaction o) (stored_in st shaped o)) in
      record {
        tables = refl;
        lost = refl;
        shaped = record {
          rows = laid_stored st.tables st.rows u.changes shaped.rows (λ q row f. shaped.changes s u q row e f);
          bases = λ o. (each o).base;
          changes = λ o. (each o).changes;
        };
        none = λ o other never. with_at-other (λ k. where_live (made_stale u.changes) (st.transaction k)) s Absent o other ∙ stale_none (made_stale u.changes) (st.transaction o) never;
      }

  answered_left : (request : Request) → RunsIn st.tables request → AreAllowed st.tables → IsLeft st (answered st s request) s
  answered_left requests.TakeSnapshot runs allowed = settled_left (Alive (begun st.rows)) st.next (alive_stored st.tables (begun st.rows) shaped.rows (λ p row e. absurd (let z : None ≡ Some (Some row) = sym (fin.get-empty place_order p) ∙ e in cc)))
  answered_left (requests.Run checked) runs allowed = settled_left _ (drawn st.tables st.next (requests.Run checked)) (ran_stored checked runs allowed (st.transaction s) refl)
  answered_left (requests.Lock table) runs allowed = settled_left _ st.next (locked_stored _ (λ u. refl) (λ u. refl) (st.transaction s) (stored_in st shaped s))
  answered_left requests.Commit runs allowed = committed_left (st.transaction s) refl
  answered_left requests.Rollback runs allowed = settled_left Absent st.next (absent_stored st.tables)
  answered_left (requests.ReadSerial table) runs allowed = settled_left (st.transaction s) st.next (stored_in st shaped s)
  answered_left (requests.SetSerial table n) runs allowed = settled_left (st.transaction s) (with_at st.next table (Some n)) (stored_in st shaped s)

  acted_left : (request : Request) (answer : Answer) → RunsIn st.tables request → AreAllowed st.tables → IsLeft st (acted st s request answer) s
  acted_left request answer runs allowed = by (is_refusal answer)
    where
      by : (v : Bool) → IsLeft st (if v then refused st s request else answered st s request) s
      by true = settled_left Dead (drawn st.tables st.next request) (dead_stored st.tables)
      by false = answered_left request runs allowed

-- a store with the transaction of a recovery in it, and what its answer leaves of it to the sessions, and to the recovery
module _ (w : World) (b s : ℕ) (x : Transaction) (request : Request) (answer : Answer) (tables : (w.store b).tables ≡ w.tables) (shaped : AreShaped (w.store b))
    (stored : AreStoredIn w.tables x) (runs : RunsIn w.tables request) (allowed : AreAllowed w.tables) where
  abbrev st : Store
  st = w.store b

  abbrev full : Store
  full = record st { transaction = with_at st.transaction s x }

  abbrev new : Store
  new = acted full s request answer

  left : IsLeft full new s
  left = acted_left full s (with_stored st shaped s x (subst (λ (ts : List TableDef). AreStoredIn ts x) (sym tables) stored)) request answer
      (subst (λ (ts : List TableDef). RunsIn ts request) (sym tables) runs) (subst AreAllowed (sym tables) allowed)

  pub spare : IsSpare w b (store_left st new s)
  spare = record {
    tables = left.tables ∙ tables;
    shaped =
        let mine : AreStoredIn new.tables (st.transaction s) = subst (λ (ts : List TableDef). AreStoredIn ts (st.transaction s)) (sym left.tables) (stored_in st shaped s) in
        let q : AreShaped (record new { transaction = with_at new.transaction s (st.transaction s) }) = with_stored new left.shaped s (st.transaction s) mine in
        record { rows = q.rows; bases = q.bases; changes = q.changes };
    asks = λ o p e. (e, λ kept. sym left.lost ∙ kept);
    unasked = λ o e. e;
    none = each_at (λ o z. st.transaction o ≡ Absent → z ≡ Absent) new.transaction s (st.transaction s) (λ e. e)
        (λ o other e. left.none o other (with_at-other st.transaction s x o other ∙ e));
  }

  pub still_stored : AreStoredIn w.tables (new.transaction s)
  still_stored = subst (λ (ts : List TableDef). AreStoredIn ts (new.transaction s)) (left.tables ∙ tables) (stored_in new left.shaped s)
