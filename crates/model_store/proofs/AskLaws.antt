-- Which requests a session may post, by its seat.
use Rattle.std.proofs.Common.{◌≡◌, ℕ, Bool, true, false, List, get_or, refl, sym, ap, ◌∙◌, subst}
use Rattle.std.specs.Prelude.{ℤ, ◌↔◌, Option, Some, None, IsSome, IsTrue, slice_get}
use Rattle.catalogue.specs.declared.checked.Checked.{Checked}
use Rattle.schema.specs.declared.catalogue.TableDef.{TableDef}
use Rattle.backend_trait.specs.declared.request.Request.{Request}
use Rattle.backend_trait.specs.declared.request.Request.TheVariants as requests
use Rattle.backend_trait.specs.Runnable.{IsRunnable}
use Rattle.backend_trait.specs.Effect.{Wants, nothing}
use Rattle.backend_trait.specs.Store.{Store, Transaction, Absent, WhereLive, IsLocked, MayPost, MayRunIn, MaySetIn}
use Rattle.classifier.specs.Classes.{lock_of}
use Rattle.outcomes.specs.declared.change.ChangeSet.{ChangeSet}
use Rattle.model_store.specs.declared.phase.Work.{Work}
use Rattle.model_store.specs.declared.phase.Phase.{Phase}
use Rattle.model_store.specs.declared.phase.Phase.TheVariants as phases
use Rattle.model_store.specs.declared.phase.Run.{Run}
use Rattle.model_store.specs.declared.phase.Waiting.{Waiting}
use Rattle.model_store.specs.declared.phase.Waiting.TheVariants as waits
use Rattle.model_store.specs.declared.seat.Seat.{Seat}
use Rattle.model_store.specs.Phases.{transaction_of, request_of, pending_of, fits, is_open, held_of, held_by_phase, MayBeSet, IsGivenAt}
use Rattle.model_store.specs.Seats.{transaction_in, pending_in, store_of}
use Rattle.model_store.specs.Acting.{admits, is_absent, MayRunAt, MaySetAt}

absent_is : (log : List ChangeSet) (phase : Phase) → (is_absent phase ≡ true) ↔ (transaction_of log phase ≡ Absent)
absent_is log phases.Absent = (λ e. refl, λ e. refl)
absent_is log (phases.Open work) = (λ e. absurd (let f : false ≡ true = e in cc), λ e. absurd (cc))
absent_is log phases.Dead = (λ e. absurd (let f : false ≡ true = e in cc), λ e. absurd (cc))

open_is : (log : List ChangeSet) (phase : Phase) → (is_open phase ≡ true) ↔ WhereLive (transaction_of log phase) (λ t. Unit {0})
open_is log phases.Absent = (λ e. absurd (let f : false ≡ true = e in cc), λ h. absurd h)
open_is log (phases.Open work) = (λ e. tt, λ h. refl)
open_is log phases.Dead = (λ e. absurd (let f : false ≡ true = e in cc), λ h. absurd h)

run_is : (st : Store) (log : List ChangeSet) (phase : Phase) (checked : Checked) → MayRunAt st.tables phase checked ↔ WhereLive (transaction_of log phase) (MayRunIn st checked)
run_is st log phases.Absent checked = (λ h. absurd h, λ h. absurd h)
run_is st log (phases.Open work) checked = (λ h. h, λ h. h)
run_is st log phases.Dead checked = (λ h. absurd h, λ h. absurd h)

not_held : (next : Option ℤ) (table : ℕ) (n : ℤ) (A : Type 0) → MaySetAt next nothing table n → A
not_held next table n A may = absurd (let f : false ≡ true = may.locked in cc)

set_is : (st : Store) (log : List ChangeSet) (phase : Phase) (table : ℕ) (n : ℤ) → MaySetAt (st.next table) (held_by_phase phase) table n ↔ WhereLive (transaction_of log phase) (MaySetIn st table n)
set_is st log phases.Absent table n = (λ may. not_held (st.next table) table n _ may, λ h. absurd h)
set_is st log (phases.Open work) table n = (
  λ may. record { counted = may.counted; locked = may.locked; positive = may.positive },
  λ h. record { counted = h.counted; locked = h.locked; positive = h.positive },
)
set_is st log phases.Dead table n = (λ may. not_held (st.next table) table n _ may, λ h. absurd h)

-- what its seat admits is what a session may post
admits_is : (st : Store) (log : List ChangeSet) (phase : Phase) (at : ℕ) (request : Request) → st.transaction at ≡ transaction_of log phase → admits st.next st.tables phase request ↔ MayPost st at request
admits_is st log phase at requests.TakeSnapshot own =
    let both = absent_is log phase in (λ h. own ∙ both.0 h, λ h. both.1 (sym own ∙ h))
admits_is st log phase at (requests.Run checked) own =
    subst (λ (x : Transaction). MayRunAt st.tables phase checked ↔ WhereLive x (MayRunIn st checked)) (sym own) (run_is st log phase checked)
admits_is st log phase at (requests.Lock table) own =
    subst (λ (x : Transaction). (is_open phase ≡ true) ↔ WhereLive x (λ t. Unit {0})) (sym own) (open_is log phase)
admits_is st log phase at requests.Commit own =
    subst (λ (x : Transaction). (is_open phase ≡ true) ↔ WhereLive x (λ t. Unit {0})) (sym own) (open_is log phase)
admits_is st log phase at requests.Rollback own = (λ h. h, λ h. h)
admits_is st log phase at (requests.ReadSerial table) own = (λ h. h, λ h. h)
admits_is st log phase at (requests.SetSerial table n) own =
    subst (λ (x : Transaction). MaySetAt (st.next table) (held_by_phase phase) table n ↔ WhereLive x (MaySetIn st table n)) (sym own) (set_is st log phase table n)

pub may_admit : (numbers : ℕ → Option ℤ) (tables : List TableDef) (log : List ChangeSet) (seats : List Seat) (lost : Bool) (at : ℕ) (seat : Seat) (request : Request) → slice_get seats at ≡ Some seat
    → admits numbers tables seat.phase request ↔ MayPost (store_of numbers tables log seats lost) at request
may_admit numbers tables log seats lost at seat request there = admits_is (store_of numbers tables log seats lost) log seat.phase at request (ap (transaction_in log) there)

some_pending : (waiting : Option Waiting) → IsSome waiting ↔ IsSome (pending_of waiting)
some_pending None = (λ h. h, λ h. h)
some_pending (Some waiting) = (λ h. refl, λ h. refl)

-- what waits in a seat is pending
pub pending_is : (seats : List Seat) (at : ℕ) (seat : Seat) → slice_get seats at ≡ Some seat → IsSome seat.waiting ↔ IsSome (pending_in (slice_get seats at))
pending_is seats at seat there = subst (λ (x : Option Seat). IsSome seat.waiting ↔ IsSome (pending_in x)) (sym there) (some_pending seat.waiting)

idle_is : (waiting : Option Waiting) (b : Bool) → (IsTrue b ↔ IsSome waiting) → b ≡ false → pending_of waiting ≡ None
idle_is None b told fails = refl
idle_is (Some waiting) b told fails = absurd (let f : true ≡ false = sym (told.1 refl) ∙ fails in cc)

pub idle_pending : (seats : List Seat) (at : ℕ) (seat : Seat) (b : Bool) → slice_get seats at ≡ Some seat → (IsTrue b ↔ IsSome seat.waiting) → b ≡ false → pending_in (slice_get seats at) ≡ None
idle_pending seats at seat b there told fails = ap pending_in there ∙ idle_is seat.waiting b told fails

busy_is : (waiting : Option Waiting) (b : Bool) → (IsTrue b ↔ IsSome waiting) → b ≡ true → pending_of waiting ≡ None → ⊥
busy_is None b told holds none = let f : false ≡ true = told.0 holds in cc
busy_is (Some waiting) b told holds none = cc

pub busy_pending : (seats : List Seat) (at : ℕ) (seat : Seat) (b : Bool) → slice_get seats at ≡ Some seat → (IsTrue b ↔ IsSome seat.waiting) → b ≡ true → pending_in (slice_get seats at) ≡ None → ⊥
busy_pending seats at seat b there told holds none = busy_is seat.waiting b told holds (sym (ap pending_in there) ∙ none)

-- ---- a statement in a live transaction

pub lock_none : (held : Wants) (lock told : Option ℕ) → told ≡ lock → told ≡ None → IsTrue true ↔ IsLocked held lock
lock_none held lock told same none = subst (λ (l : Option ℕ). IsTrue true ↔ IsLocked held l) (sym none ∙ same) (λ e. tt, λ h. refl)

pub lock_some : (work : Work) (lock told : Option ℕ) (table at : ℕ) → told ≡ lock → told ≡ Some table → at ≡ table → IsTrue (get_or work.locks at false) ↔ IsLocked (held_of work) lock
lock_some work lock told table at same some from =
    subst (λ (l : Option ℕ). IsTrue (get_or work.locks at false) ↔ IsLocked (held_of work) l) (sym some ∙ same)
    (subst (λ (n : ℕ). IsTrue (get_or work.locks at false) ↔ (get_or work.locks n false ≡ true)) from (λ h. h, λ h. h))

module _ (tables : List TableDef) (phase : Phase) (work : Work) (checked : Checked) (locked : Bool) (open_there : phase ≡ phases.Open work) (has : IsTrue locked ↔ IsLocked (held_of work) (lock_of checked.body)) where
  pub run_told : (runs : Bool) → (IsTrue runs ↔ IsRunnable tables checked) → locked ≡ true → IsTrue runs ↔ MayRunAt tables phase checked
  run_told runs told holds = subst (λ (p : Phase). IsTrue runs ↔ MayRunAt tables p checked) (sym open_there) (λ e. (told.0 e, has.0 holds), λ h. told.1 h.0)

  pub run_unlocked : locked ≡ false → IsTrue locked ↔ MayRunAt tables phase checked
  run_unlocked fails =
      subst (λ (p : Phase). IsTrue locked ↔ MayRunAt tables p checked) (sym open_there)
      (λ e. absurd (let f : false ≡ true = sym fails ∙ e in cc), λ h. absurd (let f : true ≡ false = sym (has.1 h.1) ∙ fails in cc))

-- a statement that may be run is runnable, in a live transaction
pub may_run_there : (tables : List TableDef) (phase : Phase) (work : Work) (checked : Checked) → phase ≡ phases.Open work → MayRunAt tables phase checked → IsRunnable tables checked
may_run_there tables phase work checked is may = let there = subst (λ (p : Phase). MayRunAt tables p checked) is may in there.0

-- what is admitted of a request that is known
pub admits_told : (numbers : ℕ → Option ℤ) (tables : List TableDef) (phase : Phase) (request known : Request) (b : Bool) → request ≡ known → IsTrue b ↔ admits numbers tables phase known → IsTrue b ↔ admits numbers tables phase request
admits_told numbers tables phase request known b is told = subst (λ (r : Request). IsTrue b ↔ admits numbers tables phase r) (sym is) told

-- ---- a request that is admitted fits the transaction

waiting_fits : (numbers : ℕ → Option ℤ) (tables : List TableDef) (phase : Phase) (waiting : Waiting) → admits numbers tables phase (request_of waiting) → fits phase (Some waiting) ≡ true
waiting_fits numbers tables phases.Absent waits.Snapshot may = refl
waiting_fits numbers tables (phases.Open work) waits.Snapshot may = may
waiting_fits numbers tables phases.Dead waits.Snapshot may = may
waiting_fits numbers tables phases.Absent (waits.Run run) may = absurd may
waiting_fits numbers tables (phases.Open work) (waits.Run run) may = refl
waiting_fits numbers tables phases.Dead (waits.Run run) may = absurd may
waiting_fits numbers tables phases.Absent (waits.Lock table) may = may
waiting_fits numbers tables (phases.Open work) (waits.Lock table) may = refl
waiting_fits numbers tables phases.Dead (waits.Lock table) may = may
waiting_fits numbers tables phases.Absent waits.Commit may = may
waiting_fits numbers tables (phases.Open work) waits.Commit may = refl
waiting_fits numbers tables phases.Dead waits.Commit may = may
waiting_fits numbers tables phases.Absent waits.Rollback may = refl
waiting_fits numbers tables (phases.Open work) waits.Rollback may = refl
waiting_fits numbers tables phases.Dead waits.Rollback may = refl
waiting_fits numbers tables phases.Absent (waits.ReadSerial table) may = refl
waiting_fits numbers tables (phases.Open work) (waits.ReadSerial table) may = refl
waiting_fits numbers tables phases.Dead (waits.ReadSerial table) may = refl
waiting_fits numbers tables phases.Absent (waits.SetSerial table n) may = may.locked
waiting_fits numbers tables (phases.Open work) (waits.SetSerial table n) may = refl
waiting_fits numbers tables phases.Dead (waits.SetSerial table n) may = may.locked

pub admitted_fits : (numbers : ℕ → Option ℤ) (tables : List TableDef) (phase : Phase) (request : Request) (waiting : Waiting) → request ≡ request_of waiting → admits numbers tables phase request → fits phase (Some waiting) ≡ true
admitted_fits numbers tables phase request waiting is may = waiting_fits numbers tables phase waiting (subst (admits numbers tables phase) is may)

pub open_fits : (phase : Phase) (run : Run) → is_open phase ≡ true → fits phase (Some (waits.Run run)) ≡ true
open_fits phases.Absent run live = live
open_fits (phases.Open work) run live = refl
open_fits phases.Dead run live = live

-- what a statement gives that waits, in a phase and a seat that are these
pub given_moved : (numbers : ℕ → Option ℤ) (tables : List TableDef) (log : List ChangeSet) (p q : Phase) (v w : Option Waiting) → q ≡ p → w ≡ v → IsGivenAt numbers tables log p v → IsGivenAt numbers tables log q w
given_moved numbers tables log p q v w same waits_is given =
    subst (λ (x : Phase). IsGivenAt numbers tables log x w) (sym same) (subst (λ (y : Option Waiting). IsGivenAt numbers tables log p y) (sym waits_is) given)

-- what is read is there, and what is set may be
pub read_given : (numbers : ℕ → Option ℤ) (tables : List TableDef) (log : List ChangeSet) (old new : Phase) (request : Request) (table : ℕ) (waiting : Option Waiting) → new ≡ old → waiting ≡ Some (waits.ReadSerial table)
    → request ≡ requests.ReadSerial table → admits numbers tables old request → IsGivenAt numbers tables log new waiting
read_given numbers tables log old new request table waiting same waits_is is may =
    subst (λ (w : Option Waiting). IsGivenAt numbers tables log new w) (sym waits_is) (subst (admits numbers tables old) is may)

pub set_given : (numbers : ℕ → Option ℤ) (tables : List TableDef) (log : List ChangeSet) (old new : Phase) (request : Request) (table : ℕ) (n : ℤ) (waiting : Option Waiting) → new ≡ old → waiting ≡ Some (waits.SetSerial table n)
    → request ≡ requests.SetSerial table n → admits numbers tables old request → IsGivenAt numbers tables log new waiting
set_given numbers tables log old new request table n waiting same waits_is is may =
    let here : MaySetAt (numbers table) (held_by_phase old) table n = subst (admits numbers tables old) is may in
    subst (λ (w : Option Waiting). IsGivenAt numbers tables log new w) (sym waits_is)
    (subst (λ (p : Phase). MayBeSet (held_by_phase p) table n) (sym same) (record { locked = here.locked; positive = here.positive }))

pub may_set_as : (numbers : ℕ → Option ℤ) (phase : Phase) (table : ℕ) (m n : ℤ) (next : Option ℤ) (b : Bool) → m ≡ n → next ≡ numbers table → IsTrue b ↔ MaySetAt next (held_by_phase phase) table m → IsTrue b ↔ MaySetAt (numbers table) (held_by_phase phase) table n
may_set_as numbers phase table m n next b same is told =
    subst (λ (k : ℤ). IsTrue b ↔ MaySetAt (numbers table) (held_by_phase phase) table k) same (subst (λ (x : Option ℤ). IsTrue b ↔ MaySetAt x (held_by_phase phase) table m) is told)
