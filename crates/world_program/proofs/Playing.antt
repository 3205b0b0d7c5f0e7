-- A world that is fit stays so, and what a schedule's front leads to goes on.
use Rattle.std.proofs.Common.{◌≡◌, ◌+◌, ◌≤◌, ◌==◌, ℕ, zero, suc, Bool, true, false, List, [], ◌∷◌, length, take, Some, None, refl, sym, ap, ◌∙◌, subst, arith}
use Rattle.std.specs.Prelude.{Option, Result, Ok, Err, IsErrAnd, if◌then◌else◌, slice_get}
use Rattle.schema.specs.declared.catalogue.TableDef.{TableDef}
use Rattle.pool_base.specs.declared.backend_id.BackendId.{BackendId}
use Rattle.pool_base.specs.declared.backend_set.BackendSet.{BackendSet}
use Rattle.backend_trait.specs.declared.request.Request.{Request}
use Rattle.backend_trait.specs.declared.request.Request.TheVariants as requests
use Rattle.backend_trait.specs.declared.answer.Answer.{Answer}
use Rattle.backend_trait.specs.Rows.{with_at}
use Rattle.backend_trait.specs.Store.{Store, Pending, Transaction, Absent, Alive, Dead, refused, answered, committed_by, is_refusal}
use Rattle.backend_trait.specs.Acting.{acted_by}
use Rattle.plain_store.specs.Kept.{IsKept}
use Rattle.session_machine.specs.declared.action.SessionEvent.{SessionEvent}
use Rattle.session_machine.specs.declared.action.SessionEvent.TheVariants as events
use Rattle.session_machine.specs.declared.action.Action.TheVariants as actions
use Rattle.session_machine.specs.declared.machine.ReadPolicy.{ReadPolicy}
use Rattle.session_machine.specs.declared.machine.Stage.{Stage}
use Rattle.session_machine.specs.declared.machine.Stage.TheVariants.{Opening, Reading, Running, Locking, Inserting, Committing, Closing, RollingBack}
use Rattle.session_machine.specs.declared.machine.Point.{Point}
use Rattle.session_machine.specs.declared.machine.Point.TheVariants.{Resting, EnterDue, LookDue, PostDue, Waiting, LostDue, SplitDue, ChooseDue, ShowDue, LeaveSnapshotDue, UnwindDue, EnterCommitDue, LeaveCommitDue, FinishDue, ReplyDue, EndDue}
use Rattle.session_machine.specs.declared.machine.Session.{Session}
use Rattle.session_machine.specs.declared.machine.Machine.{Machine}
use Rattle.session_machine.specs.Allowed.{MayHappen as MachineMay}
use Rattle.session_machine.specs.Rules.{action_at, request_of, after as machine_after}
use Rattle.one_copy_model.specs.declared.event.Event.{Event}
use Rattle.one_copy_model.specs.declared.event.Event.TheVariants.{Of, Act, Lost}
use Rattle.one_copy_model.specs.World.{World, first_world, stores_after, after, after_all, Lets, MayHappen, IsSchedule, FailsAt}
use Rattle.world_program.specs.declared.fault.ReplayFault.{ReplayFault}
use Rattle.world_program.specs.declared.fault.ReplayFault.TheVariants as faults
use Rattle.world_program.specs.Alike.{tidy, AreAlike}
use Rattle.world_program.specs.UnderWay.{run_at, CanRun, IsFit, IsPostKept}
use Rattle.world_program.proofs.Alike.{point_is, may_alike, after_alike}
use Rattle.world_program.proofs.UnderWay.{IsOrdered, event_keeps}

-- No answer changes a store's tables.

committed_tables : (st : Store) (s : ℕ) (x : Transaction) → (committed_by st s x).tables ≡ st.tables
committed_tables st s Absent = refl
committed_tables st s (Alive t) = refl
committed_tables st s Dead = refl

answered_tables : (st : Store) (s : ℕ) (request : Request) → (answered st s request).tables ≡ st.tables
answered_tables st s requests.TakeSnapshot = refl
answered_tables st s (requests.Run checked) = refl
answered_tables st s (requests.Lock table) = refl
answered_tables st s requests.Commit = committed_tables st s (st.transaction s)
answered_tables st s requests.Rollback = refl
answered_tables st s (requests.ReadSerial table) = refl
answered_tables st s (requests.SetSerial table n) = refl

told_tables : (t : Bool) (st : Store) (s : ℕ) (request : Request) → (if t then refused st s request else answered st s request).tables ≡ st.tables
told_tables true st s request = refl
told_tables false st s request = answered_tables st s request

acted_tables : (st : Store) (s : ℕ) (answer : Answer) (x : Option Pending) → (acted_by st s answer x).tables ≡ st.tables
acted_tables st s answer None = refl
acted_tables st s answer (Some p) = told_tables (is_refusal answer) st s p.request

-- one store changes, and keeps its tables
one_tables : (tables : List TableDef) (store : ℕ → Store) (at : ℕ) (st : Store) → ((b : ℕ) → (store b).tables ≡ tables) → st.tables ≡ tables → (b : ℕ) → (with_at store at st b).tables ≡ tables
one_tables tables store at st all one b = go (b == at)
  where
    go : (t : Bool) → (if t then st else store b).tables ≡ tables
    go true = one
    go false = all b

session_tables : (w : World) (s : ℕ) (event : SessionEvent) → IsFit w → (b : ℕ) → (stores_after w.tables w.store s event b).tables ≡ w.tables
session_tables w s (events.Ordered order) fit b = fit.stores b
session_tables w s (events.Called call answer) fit b = fit.stores b
session_tables w s (events.Posted at request) fit b = one_tables w.tables w.store at.number _ fit.stores (fit.stores at.number) b
session_tables w s (events.Taken at answer) fit b = fit.stores b
session_tables w s (events.Faulted at before later) fit b = fit.stores b
session_tables w s (events.Detached at cause answer) fit b = fit.stores b
session_tables w s (events.Swapped at) fit b = one_tables w.tables w.store at.number _ fit.stores refl b
session_tables w s (events.Replied outcome status) fit b = fit.stores b
session_tables w s events.Ended fit b = fit.stores b

-- The statement under way.

ordered_there : (w : World) (s : ℕ) (event : SessionEvent) → Lets w s event → IsOrdered w.tables (w.machine s).session event
ordered_there w s (events.Ordered order) lets = lets
ordered_there w s (events.Called call answer) lets = tt
ordered_there w s (events.Posted b request) lets = tt
ordered_there w s (events.Taken b answer) lets = tt
ordered_there w s (events.Faulted b before later) lets = tt
ordered_there w s (events.Detached b cause answer) lets = tt
ordered_there w s (events.Swapped b) lets = tt
ordered_there w s (events.Replied outcome status) lets = tt
ordered_there w s events.Ended lets = tt

one_runs : (tables : List TableDef) (machine : ℕ → Machine) (at : ℕ) (m : Machine) → ((s : ℕ) → CanRun tables (machine s).point) → CanRun tables m.point → (s : ℕ) → CanRun tables (with_at machine at m s).point
one_runs tables machine at m all one s = go (s == at)
  where
    go : (t : Bool) → CanRun tables (if t then m else machine s).point
    go true = one
    go false = all s

pub fit_after : (w : World) (e : Event) → IsFit w → MayHappen w e → IsFit (after w e)
fit_after w (Of s event) fit may = record {
  under_way =
      one_runs w.tables w.machine s.number (machine_after (w.machine s.number) event) fit.under_way
      (event_keeps w.tables (w.machine s.number).session (w.machine s.number).point event (ordered_there w s.number event may.1) (fit.under_way s.number));
  stores = session_tables w s.number event fit;
}
fit_after w (Act s b answer) fit may = record {
  under_way = fit.under_way;
  stores =
      one_tables w.tables w.store b.number _ fit.stores
      (acted_tables (w.store b.number) s.number answer ((w.store b.number).pending s.number) ∙ fit.stores b.number);
}
fit_after w (Lost b) fit may = record { under_way = fit.under_way; stores = one_tables w.tables w.store b.number _ fit.stores (fit.stores b.number) }

pub fit_first : (tables : List TableDef) (policy : ReadPolicy) (attached : BackendSet) → IsFit (first_world tables policy attached)
fit_first tables policy attached = record { under_way = λ s. tt; stores = λ b. refl }

pub fit_all : (w : World) (es : List Event) → IsFit w → IsSchedule w es → IsFit (after_all w es)
fit_all w [] fit s = fit
fit_all w (e ∷ es) fit s = fit_all (after w e) es (fit_after w e fit s.0) s.1

pub fit_alike : (v w : World) → AreAlike v w → IsFit w → IsFit v
fit_alike v w alike fit = record {
  under_way = λ s.
      let same : (v.machine s).point ≡ (w.machine s).point =
      sym (point_is (v.machine s).session (v.machine s).point)
      ∙ (ap (λ (x : World). (x.machine s).point) alike ∙ point_is (w.machine s).session (w.machine s).point) in
      let tables : w.tables ≡ v.tables = sym (ap (λ (x : World). x.tables) alike) in
      subst (λ (ts : List TableDef). CanRun ts (v.machine s).point) tables
      (subst (λ (p : Point). CanRun w.tables p) (sym same) (fit.under_way s));
  stores = λ b.
      ap (λ (x : World). (x.store b).tables) alike ∙ (fit.stores b ∙ sym (ap (λ (x : World). x.tables) alike));
}

-- what a session posts can be run
asked_kept : (tables : List TableDef) (stage : Stage) → IsKept tables (run_at stage) → IsKept tables (Some (request_of stage))
asked_kept tables (Opening work) kept = tt
asked_kept tables (Reading work ticket) kept = kept
asked_kept tables (Running work) kept = kept
asked_kept tables (Locking work table) kept = tt
asked_kept tables (Inserting work posted) kept = kept
asked_kept tables Committing kept = tt
asked_kept tables Closing kept = tt
asked_kept tables (RollingBack ending) kept = tt

due_kept : (tables : List TableDef) (s : Session) (p : Point) (b : BackendId) (request : Request) → CanRun tables p → action_at s p ≡ actions.Post b request → IsKept tables (Some request)
due_kept tables s (PostDue stage at) b request kept due =
    let same : request_of stage ≡ request = cc in subst (λ (r : Request). IsKept tables (Some r)) same (asked_kept tables stage kept)
due_kept tables s Resting b request kept due = absurd (cc)
due_kept tables s (EnterDue work) b request kept due = absurd (cc)
due_kept tables s (LookDue stage) b request kept due = absurd (cc)
due_kept tables s (Waiting stage at) b request kept due = absurd (cc)
due_kept tables s (LostDue stage at before later) b request kept due = absurd (cc)
due_kept tables s (SplitDue stage best own among more) b request kept due = absurd (cc)
due_kept tables s (ChooseDue work) b request kept due = absurd (cc)
due_kept tables s ShowDue b request kept due = absurd (cc)
due_kept tables s (LeaveSnapshotDue work) b request kept due = absurd (cc)
due_kept tables s (UnwindDue ending) b request kept due = absurd (cc)
due_kept tables s EnterCommitDue b request kept due = absurd (cc)
due_kept tables s (LeaveCommitDue ending) b request kept due = absurd (cc)
due_kept tables s (FinishDue ending) b request kept due = absurd (cc)
due_kept tables s (ReplyDue outcome) b request kept due = absurd (cc)
due_kept tables s EndDue b request kept due = absurd (cc)

pub post_kept : (w : World) (s : ℕ) (event : SessionEvent) → IsFit w → MachineMay (w.machine s) event → IsPostKept w event
post_kept w s (events.Ordered order) fit may = tt
post_kept w s (events.Called call answer) fit may = tt
post_kept w s (events.Posted b request) fit may =
    subst (λ (ts : List TableDef). IsKept ts (Some request)) (sym (fit.stores b.number))
    (due_kept w.tables (w.machine s).session (w.machine s).point b request (fit.under_way s) may)
post_kept w s (events.Taken b answer) fit may = tt
post_kept w s (events.Faulted b before later) fit may = tt
post_kept w s (events.Detached b cause answer) fit may = tt
post_kept w s (events.Swapped b) fit may = tt
post_kept w s (events.Replied outcome status) fit may = tt
post_kept w s events.Ended fit may = tt

-- The front of a list of events.

abbrev pub IsFront : World → List Event → ℕ → World → Type 0
IsFront w es n v = IsSchedule w (take n es) × AreAlike v (after_all w (take n es))

next_may : (w : World) (es : List Event) (n : ℕ) (e : Event) → slice_get es n ≡ Some e → IsSchedule w (take n es) → MayHappen (after_all w (take n es)) e
    → IsSchedule w (take (suc n) es) × (after_all w (take (suc n) es) ≡ after (after_all w (take n es)) e)
next_may w [] n e is s may = absurd (cc)
next_may w (x ∷ xs) zero e is s may =
    let same : x ≡ e = cc in
    ((subst (λ (y : Event). MayHappen w y) (sym same) may, tt), ap (λ (y : Event). after w y) same)
next_may w (x ∷ xs) (suc n) e is s may = let rest = next_may (after w x) xs n e is s.1 may in ((s.0, rest.0), rest.1)

next_not : (w : World) (es : List Event) (n : ℕ) (e : Event) → slice_get es n ≡ Some e → IsSchedule w (take n es) → (MayHappen (after_all w (take n es)) e → ⊥) → FailsAt w es n
next_not w [] n e is s not = absurd (cc)
next_not w (x ∷ xs) zero e is s not = let same : x ≡ e = cc in λ may. not (subst (λ (y : Event). MayHappen w y) same may)
next_not w (x ∷ xs) (suc n) e is s not = (s.0, next_not (after w x) xs n e is s.1 not)

pub front_fit : (w v : World) (es : List Event) (n : ℕ) → IsFit w → IsFront w es n v → IsFit v
front_fit w v es n fit front = fit_alike v (after_all w (take n es)) front.1 (fit_all w (take n es) fit front.0)

pub front_next : (w v next : World) (es : List Event) (n : ℕ) (e : Event) → slice_get es n ≡ Some e → IsFront w es n v → MayHappen v e → AreAlike next (after v e) → IsFront w es (n + 1) next
front_next w v next es n e is front may alike =
    subst (λ k. IsFront w es k next) (let k : suc n ≡ n + 1 = omega arith in k) (
    let there = next_may w es n e is front.0 (may_alike v (after_all w (take n es)) e front.1 may) in
    (there.0, alike ∙ (after_alike v (after_all w (take n es)) e front.1 ∙ ap tidy (sym there.1))))

pub front_fails : (w v : World) (es : List Event) (n : ℕ) (e : Event) → slice_get es n ≡ Some e → IsFront w es n v → (MayHappen v e → ⊥) → FailsAt w es n
front_fails w v es n e is front not =
    next_not w es n e is front.0 (λ may. not (may_alike (after_all w (take n es)) v e (sym front.1) may))

pub whole : (w v : World) (es : List Event) (n : ℕ) → n ≤ length es → length es ≤ n → IsFront w es n v → IsSchedule w es × AreAlike v (after_all w es)
whole w v es n within past there =
    let front : IsFront w es (length es) v = subst (λ k. IsFront w es k v) (at_end n (length es) within past) there in
    let all : take (length es) es ≡ es = take_all es in
    (subst (λ (xs : List Event). IsSchedule w xs) all front.0, front.1 ∙ ap (λ (xs : List Event). tidy (after_all w xs)) all)
  where
    at_end : (a b : ℕ) → a ≤ b → b ≤ a → a ≡ b
    at_end a b less more = omega (arith, less, more)

    take_all : (xs : List Event) → take (length xs) xs ≡ xs
    take_all [] = refl
    take_all (x ∷ xs) = ap (λ (ys : List Event). x ∷ ys) (take_all xs)

-- want of memory names no event
pub no_memory : {A : Type 0} (result : Result A ReplayFault) → IsErrAnd result (λ (fault : ReplayFault). fault ≡ faults.NoMemory) → (m : ℕ) → result ≡ Err (faults.Event m) → ⊥
no_memory (Ok x) is m e = is
no_memory (Err fault) is m e = let same : fault ≡ faults.NoMemory = is in let other : Err fault ≡ Err (faults.Event m) = e in cc
