-- The locks of serial inserts under way, read off the attached backends. Who is live in the single run is alive at one of them: what it
-- holds there it holds here too, and here it has the lock of its insert. So where a session has a table's lock at each attached backend
-- nobody else who is live there has an insert of that table under way, or holds there what the lock conflicts with.
use Rattle.std.proofs.Common.{◌≡◌, ◌≢◌, ℕ, Bool, true, false, List, [], ◌∷◌, refl, sym, ap, ◌∙◌, subst, inl, inr}
use Rattle.std.specs.Prelude.{◌⊎◌, ◌==◌, Option, Some, None, if◌then◌else◌}
use Rattle.std.proofs.lemmas.Bool.Decides.{eqb_tells}
use Rattle.schema.specs.declared.catalogue.TableDef.{TableDef}
use Rattle.backend_trait.specs.declared.request.Request.{Request}
use Rattle.backend_trait.specs.declared.request.Request.TheVariants as requests
use Rattle.backend_trait.specs.declared.answer.Answer.{Answer}
use Rattle.backend_trait.specs.Keys.{Place}
use Rattle.backend_trait.specs.Rows.{with_at}
use Rattle.backend_trait.specs.Effect.{Wants, nothing, both_wants, Conflicts, same_place, same_table, table_left, table_right, is_among, Given, Fails, Gives, effect_of, table_in}
use Rattle.backend_trait.specs.Store.{Live, Transaction, Absent, Alive, Dead, Store, held_by, table_lock, with_places, given_to, view_of, next_for, is_refusal}
use Rattle.backend_trait.proofs.Telling.{or_left}
use Rattle.backend_trait.proofs.Among.{among_both}
use Rattle.backend_trait.proofs.Among.{to_right}
use Rattle.session_machine.specs.declared.work.Work.{Work}
use Rattle.session_machine.specs.declared.work.Class.{Class}
use Rattle.session_machine.specs.declared.work.Class.TheVariants as classes
use Rattle.session_machine.specs.declared.machine.GatePhase.{GatePhase}
use Rattle.session_machine.specs.declared.machine.GatePhase.TheVariants as phases
use Rattle.session_machine.specs.declared.machine.Machine.{Machine}
use Rattle.session_machine.specs.declared.machine.Stage.{Stage}
use Rattle.session_machine.specs.declared.machine.Stage.TheVariants.{Opening, Reading, Running, Locking, Inserting, Committing, Closing, RollingBack}
use Rattle.session_machine.specs.declared.machine.Point.{Point}
use Rattle.session_machine.specs.declared.machine.Point.TheVariants.{LeaveSnapshotDue, UnwindDue, LeaveCommitDue, FinishDue}
use Rattle.one_copy_model.specs.declared.deed.Entry.{Entry}
use Rattle.one_copy_model.specs.SingleRun.{store_after}
use Rattle.one_copy_model.specs.Places.{asks_as, asks_of}
use Rattle.one_copy_model.specs.Deaths.{is_live, stage_at}
use Rattle.one_copy_model.specs.Tracking.{Told, Tracked, single}
use Rattle.one_copy_model.specs.Standing.{Standing, Nowhere, Fresh, Ahead, Leaving, Fallen, Ending, ahead_by, Alike, Stands, told_in, standing_in, standing_open, standing_at, standing_by, leaving_of}
use Rattle.one_copy_model.specs.Invariant.{Invariant, IsHere, IsSound, inserting_in, Inserts, HaveLocks}
use Rattle.one_copy_model.specs.Own.{told_by, stand, IsIn, Own}
use Rattle.one_copy_model.proofs.Places.{same_or_other, each_at}
use Rattle.one_copy_model.proofs.Made.{made_by, made_all, ahead_made}
use Rattle.one_copy_model.proofs.Locks.{no_right}
use Rattle.one_copy_model.proofs.Turning.{facts_of, live_there}
use Rattle.one_copy_model.proofs.Livings.{alive_where, live_is, stands_live}
use Rattle.one_copy_laws.proofs.LooksEndings.{same_test}

-- conflicts
pub swapped : (a b : Wants) → Conflicts a b → Conflicts b a
swapped a b (same_place p x y) = same_place p y x
swapped a b (same_table k x y) = same_table k y x
swapped a b (table_left p x y) = table_right p y x
swapped a b (table_right p x y) = table_left p y x

equal_of : (k table : ℕ) → (k == table) ≡ true → k ≡ table
equal_of k table e = elim (eqb_tells k table) [ inl p ↦ p.1 | inr p ↦ absurd (let z : false ≡ true = sym p.0 ∙ e in cc) ]

-- who has a table's lock is in the way of whoever wants what the lock conflicts with
pub locks_out : (held w : Wants) (table : ℕ) → held.tables table ≡ true → Conflicts w (table_lock table) → Conflicts w held
locks_out held w table locked (same_place p x y) = absurd (let z : false ≡ true = y in cc)
locks_out held w table locked (same_table k x y) = same_table k x (ap held.tables (equal_of k table y) ∙ locked)
locks_out held w table locked (table_left p x y) = absurd (let z : false ≡ true = y in cc)
locks_out held w table locked (table_right p x y) = table_right p x (ap held.tables (equal_of p.table table y) ∙ locked)

-- what alike transactions hold
pub alike_held : (x y : Transaction) → Alike x y → held_by x ≡ held_by y
alike_held (Alive l) (Alive u) a = a.2
alike_held x y a = absurd a

pub alike_holds : (x y : Transaction) → Alike x y → (w : Wants) → Conflicts w (held_by y) → Conflicts w (held_by x)
alike_holds x y a w c = subst (Conflicts w) (sym (alike_held x y a)) c

live_or_idle : (x : Transaction) → (is_live x ≡ true) ⊎ (held_by x ≡ nothing)
live_or_idle Absent = inr refl
live_or_idle (Alive t) = inl refl
live_or_idle Dead = inr refl

-- a run and a lock only add to what is held
abbrev adds : Request → Bool
adds (requests.Run checked) = true
adds (requests.Lock table) = true
adds request = false

abbrev AllAdd : List Request → Type 0
AllAdd [] = Unit {0}
AllAdd (request ∷ before) = (adds request ≡ true) × AllAdd before

abbrev Adds : Standing → Type 0
Adds (Ahead asked) = AllAdd asked
Adds standing = Unit {0}

told_each : (P : Standing → Type 0) (before behind : Standing) (told : Option Answer) → P before → P behind → P Fallen → P (told_in before behind told)
told_each P before behind None x y fallen = x
told_each P before behind (Some answer) x y fallen = by (is_refusal answer)
  where
    by : (v : Bool) → P (if v then Fallen else behind)
    by true = fallen
    by false = y

asks_add : (work : Work) → adds (asks_of work) ≡ true
asks_add work = by work.class
  where
    by : (class : Class) → adds (asks_as work.statement class) ≡ true
    by classes.Read = refl
    by classes.LockingRead = refl
    by (classes.Write verb) = refl
    by (classes.SerialInsert table) = refl

standing_adds : (stage : Stage) (told : Option Answer) → Adds (standing_in stage told)
standing_adds (Opening work) told = told_each Adds Nowhere Fresh told tt tt tt
standing_adds (Reading work ticket) told = told_each Adds (Ahead []) (Ahead []) told tt tt tt
standing_adds (Running work) told = told_each Adds (Ahead []) (Ahead (requests.Run work.statement ∷ [])) told tt (refl, tt) tt
standing_adds (Locking work table) told = told_each Adds (Ahead []) (Ahead (requests.Lock table ∷ [])) told tt (refl, tt) tt
standing_adds (Inserting work posted) told =
    told_each Adds (Ahead (asks_of work ∷ [])) (Ahead (requests.Run work.statement ∷ asks_of work ∷ [])) told (asks_add work, tt) (refl, (asks_add work, tt)) tt
standing_adds Committing told = told_each Adds Leaving Nowhere told tt tt tt
standing_adds Closing told = told_each Adds Ending Nowhere told tt tt tt
standing_adds (RollingBack ending) told = told_each Adds Ending Nowhere told tt tt tt

open_adds : (phase : GatePhase) → Adds (standing_open phase)
open_adds phases.Out = tt
open_adds phases.InSnapshot = tt
open_adds (phases.Live changed written) = tt
open_adds phases.InCommit = tt

at_adds : (phase : GatePhase) (point : Point) → Adds (standing_at phase point)
at_adds phase (LeaveSnapshotDue work) = tt
at_adds phase (UnwindDue ending) = tt
at_adds phase (LeaveCommitDue ending) = tt
at_adds phase (FinishDue ending) = tt
at_adds phase point = open_adds phase

by_adds : (phase : GatePhase) (point : Point) (found : Option Stage) (told : Option Answer) → Adds (standing_by phase point found told)
by_adds phase point (Some stage) told = standing_adds stage told
by_adds phase point None told = at_adds phase point

more_places : (held w : Wants) (places : List Place) → Conflicts w held → Conflicts w (with_places held places)
more_places held w places (same_place p x y) = same_place p x (among_both held.places places p ∙ or_left (is_among held.places p) (is_among places p) y)
more_places held w places (same_table k x y) = same_table k x y
more_places held w places (table_left p x y) = table_left p x (among_both held.places places p ∙ or_left (is_among held.places p) (is_among places p) y)
more_places held w places (table_right p x y) = table_right p x y

given_adds : (given : Given) (t : Live) (w : Wants) → Conflicts w t.held → Conflicts w (given_to given t).held
given_adds (Fails code) t w c = c
given_adds (Gives answer changes places) t w c = more_places t.held w places c

given_locks : (given : Given) (t : Live) (table : ℕ) → t.held.tables table ≡ true → (given_to given t).held.tables table ≡ true
given_locks (Fails code) t table e = e
given_locks (Gives answer changes places) t table e = e

made_adds : (st : Store) (request : Request) (x : Transaction) (w : Wants) → adds request ≡ true → Conflicts w (held_by x) → Conflicts w (held_by (made_by st.tables st.rows st.next request x))
made_adds st (requests.Run checked) (Alive t) w e c = given_adds (effect_of st.tables checked (view_of t) (next_for st.next (table_in checked))).given t w c
made_adds st (requests.Run checked) Absent w e c = c
made_adds st (requests.Run checked) Dead w e c = c
made_adds st (requests.Lock table) (Alive t) w e c = to_right w (table_lock table) t.held c
made_adds st (requests.Lock table) Absent w e c = c
made_adds st (requests.Lock table) Dead w e c = c
made_adds st request x w e c = absurd (let z : false ≡ true = e in cc)

all_adds : (st : Store) (asked : List Request) (x : Transaction) (w : Wants) → AllAdd asked → Conflicts w (held_by x) → Conflicts w (held_by (made_all st.tables st.rows st.next asked x))
all_adds st [] x w a c = c
all_adds st (request ∷ before) x w a c = made_adds st request (made_all st.tables st.rows st.next before x) w a.0 (all_adds st before x w a.1 c)

-- a lock is held behind its request, and behind the run
abbrev Locked : ℕ → Standing → Type 0
Locked table (Ahead asked) = (st : Store) (x : Live) → (held_by (made_all st.tables st.rows st.next asked (Alive x))).tables table ≡ true
Locked table standing = Unit {0}

lock_locks : (table : ℕ) → Locked table (Ahead (requests.Lock table ∷ []))
lock_locks table st x = or_left (table == table) (x.held.tables table) (same_test table)

run_locks : (work : Work) (table : ℕ) → Locked table (Ahead (requests.Run work.statement ∷ requests.Lock table ∷ []))
run_locks work table st x =
    let u : Live = record x { held = both_wants (table_lock table) x.held } in
    given_locks (effect_of st.tables work.statement (view_of u) (next_for st.next (table_in work.statement))).given u table (lock_locks table st x)

insert_locks : (phase : GatePhase) (point : Point) (found : Option Stage) (told : Option Answer) (work : Work) (table : ℕ) → inserting_in found ≡ Some work → work.class ≡ classes.SerialInsert table
    → Locked table (standing_by phase point found told)
insert_locks phase point (Some (Inserting own posted)) told work table e class =
    let same : own ≡ work = (let z : Some own ≡ Some work = e in cc) in
    let asks : asks_of own ≡ requests.Lock table = ap (λ (x : Work). asks_of x) same ∙ ap (asks_as work.statement) class in
    told_each (Locked table) (Ahead (asks_of own ∷ [])) (Ahead (requests.Run own.statement ∷ asks_of own ∷ [])) told
    (subst (λ (r : Request). Locked table (Ahead (r ∷ []))) (sym asks) (lock_locks table))
    (subst (λ (r : Request). Locked table (Ahead (requests.Run own.statement ∷ r ∷ []))) (sym asks) (run_locks own table)) tt
insert_locks phase point found told work table e class = absurd (let z : None ≡ Some work = e in cc)

-- who is ahead of the single run by a lock alone has it
pub lock_here : (st : Store) (o table : ℕ) (here there : Transaction) → Alike here (ahead_by st o (requests.Lock table ∷ []) there) → (held_by here).tables table ≡ true
lock_here st o table here there a = by here there (subst (Alike here) (ahead_made st o (requests.Lock table ∷ []) there) a)
  where
    by : (x y : Transaction) → Alike x (made_by st.tables st.rows st.next (requests.Lock table) y) → (held_by x).tables table ≡ true
    by (Alive l) (Alive u) a = ap (λ (w : Wants). w.tables table) a.2 ∙ or_left (table == table) (u.held.tables table) (same_test table)
    by (Alive l) Absent a = absurd a
    by (Alive l) Dead a = absurd a
    by Absent y a = absurd a
    by Dead y a = absurd a

-- what a session holds in a single store it holds in the store of a backend too, and there it has the lock of its insert
pub record IsBacked (st here : Store) (m : Machine) (o : ℕ) : Type 0 where
  pub holds : (w : Wants) → Conflicts w (held_by (st.transaction o)) → Conflicts w (held_by (here.transaction o))
  pub locked : (table : ℕ) → Inserts m table → (held_by (here.transaction o)).tables table ≡ true

pub backed_own : (tables : List TableDef) (attached : ℕ) (history : List Entry) (here : ℕ → Store) (m : Machine) (mail : ℕ → Option Answer) (told : Option Told) (done : ℕ → Bool) (live : Bool) (o : ℕ)
    → Own tables attached history here m mail told done live o → (b : ℕ) → IsIn attached b
    → is_live ((store_after tables history).transaction o) ≡ true → is_live ((here b).transaction o) ≡ true → IsBacked (store_after tables history) (here b) m o
backed_own tables attached history here m mail told done live o own b in_it lives alive =
    let st : Store = store_after tables history in
    let stands : Stands st o (leaving_of tables o history) (stand m mail b) ((here b).transaction o) (st.transaction o) = own.stands b in_it in
    let x : (asked : List Request) × (stand m mail b ≡ Ahead asked) = stands_live st o (leaving_of tables o history) (stand m mail b) ((here b).transaction o) (st.transaction o) stands alive lives in
    let alike : Alike ((here b).transaction o) (ahead_by st o x.0 (st.transaction o)) = subst (λ (y : Standing). Stands st o (leaving_of tables o history) y ((here b).transaction o) (st.transaction o)) x.1 stands in
    let made : ahead_by st o x.0 (st.transaction o) ≡ made_all st.tables st.rows st.next x.0 (st.transaction o) = ahead_made st o x.0 (st.transaction o) in
    let u : (v : Live) × (st.transaction o ≡ Alive v) = live_is (st.transaction o) lives in
    record {
      holds = λ w c.
          alike_holds ((here b).transaction o) (ahead_by st o x.0 (st.transaction o)) alike w
          (subst (λ (y : Transaction). Conflicts w (held_by y)) (sym made)
          (all_adds st x.0 (st.transaction o) w (subst Adds x.1 (by_adds m.session.gate m.point (stage_at m.point) (told_by m mail b))) c));
      locked = λ table i.
          let locks : Locked table (Ahead x.0) = subst (Locked table) x.1 (insert_locks m.session.gate m.point (stage_at m.point) (told_by m mail b) i.work table i.inserting i.at) in
          ap (λ (w : Wants). w.tables table) (alike_held ((here b).transaction o) (ahead_by st o x.0 (st.transaction o)) alike)
          ∙ ap (λ (y : Transaction). (held_by y).tables table) (made ∙ ap (made_all st.tables st.rows st.next x.0) u.1) ∙ locks st u.0;
    }

-- so who is live in the single run, in whatever moment the invariant holds
pub backed_where : (t : Tracked) (h : Invariant t) (o : ℕ) → is_live ((single t).transaction o) ≡ true → (b : ℕ) × IsHere t.world b × IsBacked (single t) (t.world.store b) (t.world.machine o) o
backed_where t h o live =
    let a = alive_where t.world o (h.alive o live) in (
      a.0,
      a.1,
      backed_own t.world.tables t.world.gate.attached.bits t.history t.world.store (t.world.machine o) (t.world.mail o) (t.orders o) (t.done o) (live_there t o) o ((facts_of t h).own o) a.0 a.1 live a.2,
    )

-- The insert of a session begins: it has the table's lock at each attached backend, and everybody else who is live in the single run is
-- backed at one of them.
module _ (st : Store) (attached : ℕ) (here : ℕ → Store) (machine : ℕ → Machine) (s : ℕ) (n : Machine) (table : ℕ)
    (sound : (b : ℕ) → IsIn attached b → IsSound (here b))
    (backed : (o : ℕ) → o ≢ s → is_live (st.transaction o) ≡ true → (b : ℕ) × IsIn attached b × IsBacked st (here b) (machine o) o)
    (mine : (b : ℕ) → IsIn attached b → (held_by ((here b).transaction s)).tables table ≡ true)
    (begins : (k : ℕ) → Inserts n k → k ≡ table) where
  nobody_inserts : (o : ℕ) → o ≢ s → is_live (st.transaction o) ≡ true → Inserts (machine o) table → ⊥
  nobody_inserts o other live i =
      let x = backed o other live in
      (sound x.0 x.1).apart o s other (same_table table (x.2.locked table i) (mine x.0 x.1))

  nobody_holds : (o : ℕ) → o ≢ s → Conflicts (table_lock table) (held_by (st.transaction o)) → ⊥
  nobody_holds o other c = elim (live_or_idle (st.transaction o)) [
    | inl live ↦
        let x = backed o other live in
        (sound x.0 x.1).apart o s other
        (locks_out (held_by ((here x.0).transaction s)) (held_by ((here x.0).transaction o)) table (mine x.0 x.1)
        (swapped (table_lock table) (held_by ((here x.0).transaction o)) (x.2.holds (table_lock table) c)))
    | inr none ↦ no_right (table_lock table) (subst (Conflicts (table_lock table)) none c)
  ]

  abbrev Mine : ℕ → ℕ → Type 0
  Mine a k = ((a ≡ s) × (k ≡ table)) ⊎ ((a ≢ s) × Inserts (machine a) k)

  inserts_at : (a k : ℕ) → Inserts (with_at machine s n a) k → Mine a k
  inserts_at a k = each_at (λ o x. Inserts x k → Mine o k) machine s n (λ i. inl (refl, begins k i)) (λ o other i. inr (other, i)) a

  module _ (h : HaveLocks st machine) where
    alone_by : (a o k : ℕ) → is_live (st.transaction a) ≡ true → is_live (st.transaction o) ≡ true → Mine a k → Mine o k → a ≡ o
    alone_by a o k live there (inl x) (inl y) = x.0 ∙ sym y.0
    alone_by a o k live there (inl x) (inr y) = absurd (nobody_inserts o y.0 there (subst (Inserts (machine o)) x.1 y.1))
    alone_by a o k live there (inr x) (inl y) = absurd (nobody_inserts a x.0 live (subst (Inserts (machine a)) y.1 x.1))
    alone_by a o k live there (inr x) (inr y) = h.alone a o k live there x.1 y.1

    free_by : (a o k : ℕ) → a ≢ o → is_live (st.transaction a) ≡ true → Mine a k → Conflicts (table_lock k) (held_by (st.transaction o)) → ⊥
    free_by a o k apart live (inl x) c = nobody_holds o (λ e. apart (x.0 ∙ sym e)) (subst (λ (j : ℕ). Conflicts (table_lock j) (held_by (st.transaction o))) x.1 c)
    free_by a o k apart live (inr x) c = h.free a o k apart live x.1 c

    pub locks_set : HaveLocks st (with_at machine s n)
    locks_set = record {
      alone = λ a o k live there i j. alone_by a o k live there (inserts_at a k i) (inserts_at o k j);
      free = λ a o k apart live i c. free_by a o k apart live (inserts_at a k i) c;
    }

-- The transaction of a session holds more than before in the single run, and no more than at each attached backend; where it is live and
-- inserts, it was so before.
module _ (old new : Store) (attached : ℕ) (here : ℕ → Store) (machine : ℕ → Machine) (s : ℕ) (n : Machine)
    (others : (o : ℕ) → o ≢ s → new.transaction o ≡ old.transaction o)
    (sound : (b : ℕ) → IsIn attached b → IsSound (here b))
    (backed : (o : ℕ) → o ≢ s → is_live (old.transaction o) ≡ true → (b : ℕ) × IsIn attached b × IsBacked old (here b) (machine o) o)
    (grows : (b : ℕ) (w : Wants) → IsIn attached b → Conflicts w (held_by (new.transaction s)) → Conflicts w (held_by ((here b).transaction s)))
    (own : (table : ℕ) → is_live (new.transaction s) ≡ true → Inserts n table → (is_live (old.transaction s) ≡ true) × Inserts (machine s) table) where
  was : (table o : ℕ) → is_live (new.transaction o) ≡ true → Inserts (with_at machine s n o) table → (is_live (old.transaction o) ≡ true) × Inserts (machine o) table
  was table = each_at (λ o x. is_live (new.transaction o) ≡ true → Inserts x table → (is_live (old.transaction o) ≡ true) × Inserts (machine o) table) machine s n
      (own table)
      (λ o other live i. (ap is_live (sym (others o other)) ∙ live, i))

  -- who inserts has the lock at a backend at which the session holds all that it holds there now
  out_of_way : (a table : ℕ) → a ≢ s → is_live (old.transaction a) ≡ true → Inserts (machine a) table → Conflicts (table_lock table) (held_by (new.transaction s)) → ⊥
  out_of_way a table other live i c =
      let x = backed a other live in
      (sound x.0 x.1).apart s a (λ e. other (sym e))
      (locks_out (held_by ((here x.0).transaction a)) (held_by ((here x.0).transaction s)) table (x.2.locked table i)
      (swapped (table_lock table) (held_by ((here x.0).transaction s)) (grows x.0 (table_lock table) x.1 c)))

  pub locks_grown : HaveLocks old machine → HaveLocks new (with_at machine s n)
  locks_grown h = record {
    alone = λ a o table live there i j.
        let x = was table a live i in
        let y = was table o there j in
        h.alone a o table x.0 y.0 x.1 y.1;
    free = λ a o table apart live i c.
        let x = was table a live i in
        elim (same_or_other o s) [
          | inl e ↦ out_of_way a table (λ is. apart (is ∙ sym e)) x.0 x.1 (subst (λ (j : ℕ). Conflicts (table_lock table) (held_by (new.transaction j))) e c)
          | inr other ↦ h.free a o table apart x.0 x.1 (subst (λ (z : Transaction). Conflicts (table_lock table) (held_by z)) (others o other) c)
        ];
  }
