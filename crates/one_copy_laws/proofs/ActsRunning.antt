-- A statement gives its result.
use Rattle.std.proofs.Common.{◌≡◌, ℕ, ℤ, true, false, List, [], ◌∷◌, refl, sym, ap, ◌∙◌, subst, inl, inr}
use Rattle.std.specs.Prelude.{◌==◌, if◌then◌else◌, Option, Some, None, is_some, slice_get}
use Rattle.std.specs.FinMap as fin
use Rattle.std.proofs.lemmas.Bool.Decides.{eqb_tells}
use Rattle.one_copy_model.specs.Places.{asks_as, asks_of}
use Rattle.std.proofs.lemmas.List.{append-nil}
use Rattle.pool_base.specs.declared.session_id.SessionId.{SessionId}
use Rattle.pool_base.specs.declared.backend_id.BackendId.{BackendId}
use Rattle.schema.specs.declared.catalogue.TableDef.{TableDef}
use Rattle.schema.specs.Allowed.{AreAllowed}
use Rattle.catalogue.specs.declared.checked.Checked.{Checked}
use Rattle.classifier.specs.Classes.{lock_of}
use Rattle.sql_eval.specs.declared.row.Row.{Row}
use Rattle.backend_trait.specs.Typed.{IsStored, AreAllStored}
use Rattle.outcomes.specs.Stored as sets
use Rattle.outcomes.proofs.Shaped.{answer_shaped, rows_shaped}
use Rattle.outcomes.proofs.StoredRows.{laid_stored, left_stored}
use Rattle.backend_trait.specs.declared.answer.Answer.{Answer}
use Rattle.backend_trait.specs.declared.answer.Answer.TheVariants as answers
use Rattle.backend_trait.specs.declared.request.Request.{Request}
use Rattle.backend_trait.specs.declared.request.Request.TheVariants as requests
use Rattle.backend_trait.specs.Keys.{Place}
use Rattle.backend_trait.specs.Rows.{Changes, no_changes, joined_changes}
use Rattle.backend_trait.specs.Effect.{Conflicts, Given, Fails, Gives, these_places, has_place, table_in}
use Rattle.backend_trait.specs.Runnable.{IsRunnable, is_of_run}
use Rattle.backend_trait.specs.Store.{Live, Transaction, Absent, Alive, Dead, Pending, Store, WhereLive, held_by, view_of, next_for, where_live, with_places, given_to, drawn_by, answered, refused, acted, is_refusal}
use Rattle.backend_trait.specs.Acts.{IsFree, IsFresh, MayGive, MayRun, IsOf, given_of}
use Rattle.backend_trait.proofs.RowLaws.{get-joined_changes, change_over}
use Rattle.session_machine.specs.declared.machine.Stage.{Stage}
use Rattle.session_machine.specs.declared.machine.Stage.TheVariants.{Reading, Running}
use Rattle.session_machine.specs.declared.machine.Point.TheVariants.{Waiting}
use Rattle.session_machine.specs.declared.work.Work.{Work}
use Rattle.session_machine.specs.Rules.{request_of}
use Rattle.one_copy_model.specs.declared.event.Event.TheVariants.{Act}
use Rattle.one_copy_model.specs.Deaths.{stage_at}
use Rattle.one_copy_model.specs.Tracking.{Tracked, single, tracked_after}
use Rattle.one_copy_model.specs.Chains.{IsHeard, IsResult, IsResultOf, is_unposted}
use Rattle.one_copy_model.specs.Orders.{IsClassed, IsClassedIn, runs_at_once}
use Rattle.one_copy_model.specs.Standing.{Fallen, Ahead, same, Alike, Stands, ahead_by, standing_in, leaving_of}
use Rattle.one_copy_model.specs.Invariant.{Invariant, IsHere, numbers_behind}
use Rattle.one_copy_model.specs.Facts.{Shared}
use Rattle.one_copy_model.proofs.Made.{ahead_made, made_by}
use Rattle.one_copy_model.proofs.Tables.{tables_there}
use Rattle.one_copy_model.proofs.Turning.{facts_of}
use Rattle.one_copy_laws.proofs.ChainsChaining.{class_in as class_of}
use Rattle.session_machine.specs.declared.work.Class.{Class}
use Rattle.session_machine.specs.declared.work.Class.TheVariants as classes
use Rattle.one_copy_laws.proofs.MarksWanting.{unlocked}
use Rattle.one_copy_laws.specs.Acted.{InsertedBehind}
use Rattle.one_copy_laws.proofs.ActsActing.{is_leaving, facts_behind, act_lands, stands_was}
use Rattle.one_copy_laws.proofs.ActsSettling.{settles, IsSettled, settled_acts, calm_numbers, calm_ahead}
use Rattle.one_copy_laws.proofs.ActsBeginning.{acted_is, settled_alive}
use Rattle.one_copy_laws.proofs.ActsHolding.{in_either, in_left, in_right, split_places, one_alive}
use Rattle.one_copy_laws.proofs.ActsEffects.{no_numbers, given_alike, reads_nothing, changed_wanted, none_joined}

-- what a result leaves of a transaction
abbrev pub given_more : Changes → List Place → Live → Live
given_more changes places u = record { base = u.base; changes = joined_changes changes u.changes; held = with_places u.held places; stale = u.stale }

-- the table of answers gives a result where the effect does, where nothing wanted is stale, and nobody else holds it
pub may_result : (st : Store) (s : ℕ) (crossed : Type 0) (checked : Checked) (answer : Answer) → is_refusal answer ≡ false → MayRun st s crossed checked answer
    → WhereLive (st.transaction s) (λ k. MayGive st s k answer (given_of st checked k))
may_result st s crossed checked answers.Began plain may = absurd may
may_result st s crossed checked (answers.Rows rows) plain may = may
may_result st s crossed checked (answers.Count n) plain may = may
may_result st s crossed checked answers.Locked plain may = absurd may
may_result st s crossed checked answers.Done plain may = absurd may
may_result st s crossed checked (answers.Serial n) plain may = absurd may
may_result st s crossed checked (answers.Refused code) plain may = absurd (let z : true ≡ false = plain in cc)

pub record Results (st : Store) (s : ℕ) (checked : Checked) (answer : Answer) (u : Live) : Type 0 where
  pub changes : Changes
  pub places : List Place
  pub gives : given_of st checked u ≡ Gives answer changes places
  pub fresh : IsFresh (these_places places) u
  pub free : IsFree st s (these_places places)

pub results_of : (st : Store) (s : ℕ) (checked : Checked) (answer : Answer) (u : Live) (given : Given) → given_of st checked u ≡ given → MayGive st s u answer given → Results st s checked answer u
results_of st s checked answer u (Fails code) e may = absurd may
results_of st s checked answer u (Gives result changes places) e may =
    record { changes = changes; places = places; gives = e ∙ ap (λ r. Gives r changes places) (sym may.0); fresh = may.1; free = may.2 }

plain_act : (st : Store) (s : ℕ) (request : Request) (answer : Answer) → is_refusal answer ≡ false → answered st s request ≡ acted st s request answer
plain_act st s request answer plain = sym (ap (λ v. if v then refused st s request else answered st s request) plain)

-- of transactions that are alike the results are
pub alike_given : (changes : Changes) (places : List Place) (u k : Live) → Alike (Alive u) (Alive k) → Alike (Alive (given_more changes places u)) (Alive (given_more changes places k))
alike_given changes places u k a = (a.0, ap (joined_changes changes) a.1, ap (λ w. with_places w places) a.2)

module _ (t : Tracked) (h : Invariant t) (s : SessionId) (b : BackendId) (p : Pending) (waits : (t.world.store b.number).pending s.number ≡ Some p)
    (stage : Stage) (at : BackendId) (waiting : (t.world.machine s.number).point ≡ Waiting stage at) (number : at.number ≡ b.number)
    (checked : Checked) (is : p.request ≡ requests.Run checked) (asks : requests.Run checked ≡ request_of stage) (answer : Answer) (plain : is_refusal answer ≡ false)
    (allowed : AreAllowed t.world.tables) (runnable : IsRunnable t.world.tables checked)
    (u : Live) (live : (t.world.store b.number).transaction s.number ≡ Alive u) (r : Results (t.world.store b.number) s.number checked answer u)
    (still : is_leaving (standing_in stage None) ≡ false) where
  abbrev st : Store
  st = t.world.store b.number

  abbrev v : Live
  v = given_more r.changes r.places u

  abbrev next : ℕ → Option ℤ
  next = drawn_by st.tables checked st.next

  w : Shared t.world.tables t.world.gate.attached.bits t.history t.world.store t.world.machine t.world.mail
  w = (facts_of t h).shared

  runs_here : IsRunnable st.tables checked
  runs_here = subst (λ (ts : List TableDef). IsRunnable ts checked) (sym (h.tables b.number)) runnable

  seen_stored : AreAllStored st.tables (view_of u)
  seen_stored = laid_stored st.tables u.base u.changes ((w.shaped b.number).bases s.number u live) (λ q row e. (w.shaped b.number).changes s.number u q row live e)

  pub form_run : is_of_run checked answer ≡ true
  form_run = answer_shaped st.tables checked (view_of u) runs_here seen_stored (next_for st.next (table_in checked)) answer r.changes r.places r.gives

  left_here : sets.AreLeftStored st.tables r.changes
  left_here = left_stored st.tables (view_of u) r.changes
      (rows_shaped st.tables checked (view_of u) runs_here seen_stored (subst AreAllowed (sym (h.tables b.number)) allowed) (next_for st.next (table_in checked)) answer r.changes r.places r.gives)

  joined_at : (q : Place) (row : Row) (c : Option (Option Row)) → fin.get r.changes q ≡ c → change_over c (fin.get u.changes q) ≡ Some (Some row) → IsStored (slice_get st.tables q.table) q.key row
  joined_at q row None e f = (w.shaped b.number).changes s.number u q row live f
  joined_at q row (Some c) e f = left_here q row (e ∙ f)

  joined_some : (q : Place) (c : Option (Option Row)) → fin.get r.changes q ≡ c → is_some (change_over c (fin.get u.changes q)) ≡ true → IsHere t.world b.number → has_place v.held q ≡ true
  joined_some q None e f in_it = in_left u.held.places r.places q ((w.sound b.number in_it).changed s.number u q live f)
  joined_some q (Some c) e f in_it = in_right u.held.places r.places q
      (changed_wanted st.tables checked (view_of u) (next_for st.next (table_in checked)) answer r.changes r.places q r.gives (ap is_some e))

  module _ (form : IsOf (request_of stage) answer) (posted : is_unposted stage ≡ false) (heard : IsHere t.world b.number → IsHeard (single t) s.number stage answer)
      (stands : IsHere t.world b.number → Stands (single t) s.number (leaving_of t.world.tables s.number t.history) (standing_in stage (Some answer)) (Alive v) ((single t).transaction s.number))
      (numbers : IsHere t.world b.number → (table : ℕ) → ((o : ℕ) (work : Work) → ¬ (InsertedBehind t s.number b.number answer o table work)) → next table ≡ (single t).next table)
      (ahead : IsHere t.world b.number → (o table : ℕ) (work : Work) → InsertedBehind t s.number b.number answer o table work → next table ≡ numbers_behind (single t) o work table) where
    result_settled : IsSettled t s b stage answer (Alive v)
    result_settled = record {
      still = still;
      form = form;
      posted = posted;
      bases = λ l e. subst (λ (z : Live). AreAllStored st.tables z.base) (one_alive v l e) ((w.shaped b.number).bases s.number u live);
      changes = λ l q row e f. joined_at q row (fin.get r.changes q) refl (sym (get-joined_changes r.changes u.changes q) ∙ ap (λ (z : Live). fin.get z.changes q) (one_alive v l e) ∙ f);
      closes = λ in_it l e is. absurd (let z : requests.Run checked ≡ requests.Commit = asks ∙ ap request_of e in cc);
      heard = heard;
      stands = stands;
      reasons = λ in_it by code e f. absurd (let z : true ≡ false = sym (ap is_refusal f) ∙ plain in cc);
      apart = λ in_it o other c. elim (split_places u.held r.places (held_by (st.transaction o)) c) [
        | inl held ↦ (w.sound b.number in_it).apart s.number o (λ same. other (sym same)) (subst (λ z. Conflicts (held_by z) (held_by (st.transaction o))) (sym live) held)
        | inr wants ↦ r.free o other wants
      ];
      changed = λ in_it l q e f. ap (λ (z : Live). has_place z.held q) (sym (one_alive v l e))
          ∙ joined_some q (fin.get r.changes q) refl (sym (ap is_some (get-joined_changes r.changes u.changes q)) ∙ ap (λ (z : Live). is_some (fin.get z.changes q)) (one_alive v l e) ∙ f) in_it;
      fresh = λ in_it l q e f. ap (λ (z : Live). z.stale q) (sym (one_alive v l e)) ∙ elim (in_either u.held.places r.places q (ap (λ (z : Live). has_place z.held q) (one_alive v l e) ∙ f)) [
        | inl held ↦ (w.sound b.number in_it).fresh s.number u q live held
        | inr wanted ↦ r.fresh q wanted
      ];
      stale = λ in_it l k e f. (u, live, ap (λ (z : Live). z.stale) (one_alive v l e));
    }

    abbrev x : Store
    x = settles st s.number (Alive v) next

    left_by : x ≡ answered st s.number (requests.Run checked)
    left_by = sym (ap (λ z. settles st s.number (where_live (λ k. given_to (given_of st checked k) k) z) next) live ∙ ap (λ g. settles st s.number (Alive (given_to g u)) next) r.gives)

    pub result_holds : Invariant (tracked_after t (Act s b answer))
    result_holds =
        act_lands t s b answer x h (left_by ∙ plain_act st s.number (requests.Run checked) answer plain ∙ acted_is st s.number answer p (requests.Run checked) waits is)
        (facts_behind t h s b p waits stage at waiting number answer (is ∙ asks) x (settled_acts t h s b p waits stage at waiting number answer (Alive v) next result_settled numbers ahead))
        (λ in_it o lives was. settled_alive st s.number (Alive v) next o (λ e. refl) was)

-- where the single run is alike, it gives the same
pub alike_of : (u : Live) (z : Transaction) → Alike (Alive u) z → (k : Live) × (z ≡ Alive k) × Alike (Alive u) (Alive k)
alike_of u (Alive k) a = (k, refl, a)
alike_of u Absent a = absurd a
alike_of u Dead a = absurd a

pub result_there : (there : Store) (s : ℕ) (checked : Checked) (answer : Answer) (k : Live) (changes : Changes) (places : List Place) → there.transaction s ≡ Alive k
    → given_of there checked k ≡ Gives answer changes places → IsResultOf there s checked answer
result_there there s checked answer k changes places is gives =
    subst (λ z. WhereLive z (λ k. IsResult answer (given_of there checked k))) (sym is) (subst (IsResult answer) (sym gives) refl)

pub runs_plain : (tables : List TableDef) (work : Work) (class : Class) → IsClassed tables work → work.class ≡ class → runs_at_once class ≡ true → lock_of work.statement.body ≡ None
runs_plain tables work classes.LockingRead c is once = unlocked tables work classes.LockingRead c is refl
runs_plain tables work (classes.Write verb) c is once = unlocked tables work (classes.Write verb) c is refl
runs_plain tables work classes.Read c is once = absurd (let z : false ≡ true = once in cc)
runs_plain tables work (classes.SerialInsert table) c is once = absurd (let z : false ≡ true = once in cc)

-- it is asked there as here
pub runs_as : (work : Work) (class : Class) → work.class ≡ class → runs_at_once class ≡ true → asks_of work ≡ requests.Run work.statement
runs_as work classes.LockingRead c e = ap (asks_as work.statement) c
runs_as work (classes.Write verb) c e = ap (asks_as work.statement) c
runs_as work classes.Read c e = absurd (let z : false ≡ true = e in cc)
runs_as work (classes.SerialInsert table) c e = absurd (let z : false ≡ true = e in cc)

pub itself : (n : ℕ) → (n == n) ≡ true
itself n = elim (eqb_tells n n) [ inl p ↦ p.0 | inr p ↦ absurd (p.1 refl) ]

-- a read leaves its transaction as it was
read_same : (changes : Changes) (places : List Place) (u : Live) → changes ≡ no_changes → places ≡ [] → given_more changes places u ≡ u
read_same changes places u none nothing =
    ap (λ c. given_more c places u) none ∙ ap (λ ps. given_more no_changes ps u) nothing
    ∙ ap (λ c. record { base = u.base; changes = c; held = with_places u.held []; stale = u.stale }) (none_joined u.changes)
    ∙ ap (λ ps. record { base = u.base; changes = u.changes; held = record { places = ps; tables = u.held.tables }; stale = u.stale }) (append-nil u.held.places)

-- a statement that takes no lock first, where the transaction stands as there
module _ (t : Tracked) (h : Invariant t) (s : SessionId) (b : BackendId) (checked : Checked) (answer : Answer) (plain : lock_of checked.body ≡ None)
    (u : Live) (r : Results (t.world.store b.number) s.number checked answer u) (was : Alike (Alive u) ((single t).transaction s.number)) where
  abbrev k : Live
  k = (alike_of u ((single t).transaction s.number) was).0

  alive_there : (single t).transaction s.number ≡ Alive k
  alive_there = (alike_of u ((single t).transaction s.number) was).1

  both : Alike (Alive u) (Alive k)
  both = (alike_of u ((single t).transaction s.number) was).2

  gives_there : given_of (single t) checked k ≡ Gives answer r.changes r.places
  gives_there = sym (given_alike (t.world.store b.number) (single t) checked u k (h.tables b.number ∙ sym (tables_there t.world.tables t.history)) plain both.0 both.1) ∙ r.gives

  pub plain_result : IsResultOf (single t) s.number checked answer
  plain_result = result_there (single t) s.number checked answer k r.changes r.places alive_there gives_there

  pub plain_ahead : Alike (Alive (given_more r.changes r.places u)) (ahead_by (single t) s.number (requests.Run checked ∷ []) ((single t).transaction s.number))
  plain_ahead =
      subst (Alike (Alive (given_more r.changes r.places u)))
      (sym (ahead_made (single t) s.number (requests.Run checked ∷ []) ((single t).transaction s.number)
      ∙ ap (made_by (single t).tables (single t).rows (single t).next (requests.Run checked)) alive_there
      ∙ ap (λ g. Alive (given_to g k)) gives_there))
      (alike_given r.changes r.places u k both)

module _ (t : Tracked) (h : Invariant t) (s : SessionId) (b : BackendId) (p : Pending) (waits : (t.world.store b.number).pending s.number ≡ Some p)
    (at : BackendId) (number : at.number ≡ b.number) (answer : Answer) (plain : is_refusal answer ≡ false) (allowed : AreAllowed t.world.tables)
    (u : Live) (live : (t.world.store b.number).transaction s.number ≡ Alive u) where
  -- a read
  pub read_holds : (work : Work) (ticket : ℕ) → (t.world.machine s.number).point ≡ Waiting (Reading work ticket) at → p.request ≡ requests.Run work.statement
      → Results (t.world.store b.number) s.number work.statement answer u → Invariant (tracked_after t (Act s b answer))
  read_holds work ticket waiting is r =
      let stage : Stage = Reading work ticket in
      let c : IsClassedIn t.world.tables stage = class_of t.world.tables (t.world.machine s.number).point stage (ap stage_at waiting) (h.classed s.number) in
      let free : lock_of work.statement.body ≡ None = unlocked t.world.tables work classes.Read c.0 c.1 refl in
      let none = reads_nothing (t.world.store b.number).tables work.statement (view_of u) (next_for (t.world.store b.number).next (table_in work.statement)) answer r.changes r.places (sym c.0.class ∙ c.1) r.gives in
      let same_v : given_more r.changes r.places u ≡ u = read_same r.changes r.places u none.0 none.1 in
      let was : IsHere t.world b.number → Alike (Alive u) ((single t).transaction s.number) =
      λ in_it. subst (λ z. Alike z ((single t).transaction s.number)) live (stands_was t h s b p waits stage at waiting number answer in_it) in
      let form = form_run t h s b p waits stage at waiting number work.statement is refl answer plain allowed c.0.runnable u live r refl in
      let still : drawn_by (t.world.store b.number).tables work.statement (t.world.store b.number).next ≡ (t.world.store b.number).next = no_numbers (t.world.store b.number).tables (t.world.store b.number).next work.statement free in
      result_holds t h s b p waits stage at waiting number work.statement is refl answer plain allowed c.0.runnable u live r refl form refl
      (λ in_it. record { form = form; posted = refl; result = λ e. plain_result t h s b work.statement answer free u r (was in_it) })
      (λ in_it. subst (λ z. Stands (single t) s.number (leaving_of t.world.tables s.number t.history) z (Alive (given_more r.changes r.places u)) ((single t).transaction s.number)) (sym (ap (λ v. if v then Fallen else same) plain))
      (subst (λ z. Alike (Alive z) ((single t).transaction s.number)) (sym same_v) (was in_it)))
      (λ in_it table none. ap (λ f. f table) still ∙ calm_numbers t h s b p waits stage at waiting number answer refl in_it table none)
      (λ in_it o table other i. ap (λ f. f table) still ∙ calm_ahead t h s b p waits stage at waiting number answer refl in_it o table other i)

  -- a locking read or a write that draws no number
  pub run_holds : (work : Work) → (t.world.machine s.number).point ≡ Waiting (Running work) at → p.request ≡ requests.Run work.statement
      → Results (t.world.store b.number) s.number work.statement answer u → Invariant (tracked_after t (Act s b answer))
  run_holds work waiting is r =
      let stage : Stage = Running work in
      let c : IsClassedIn t.world.tables stage = class_of t.world.tables (t.world.machine s.number).point stage (ap stage_at waiting) (h.classed s.number) in
      let free : lock_of work.statement.body ≡ None = runs_plain t.world.tables work work.class c.0 refl c.1 in
      let was : IsHere t.world b.number → Alike (Alive u) ((single t).transaction s.number) =
      λ in_it. subst (λ z. Alike z ((single t).transaction s.number)) live (stands_was t h s b p waits stage at waiting number answer in_it) in
      let form = form_run t h s b p waits stage at waiting number work.statement is refl answer plain allowed c.0.runnable u live r refl in
      let still : drawn_by (t.world.store b.number).tables work.statement (t.world.store b.number).next ≡ (t.world.store b.number).next = no_numbers (t.world.store b.number).tables (t.world.store b.number).next work.statement free in
      result_holds t h s b p waits stage at waiting number work.statement is refl answer plain allowed c.0.runnable u live r refl form refl
      (λ in_it. record { form = form; posted = refl; result = λ e. plain_result t h s b work.statement answer free u r (was in_it) })
      (λ in_it. subst (λ z. Stands (single t) s.number (leaving_of t.world.tables s.number t.history) z (Alive (given_more r.changes r.places u)) ((single t).transaction s.number))
      (sym (ap (λ v. if v then Fallen else Ahead (requests.Run work.statement ∷ [])) plain))
      (plain_ahead t h s b work.statement answer free u r (was in_it)))
      (λ in_it table none. ap (λ f. f table) still ∙ calm_numbers t h s b p waits stage at waiting number answer refl in_it table none)
      (λ in_it o table other i. ap (λ f. f table) still ∙ calm_ahead t h s b p waits stage at waiting number answer refl in_it o table other i)
