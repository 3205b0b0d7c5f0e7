-- The program tells exactly what a session may post.
use Rattle.std.proofs.Common.{◌≡◌, Bool, true, false, List, refl, sym, ap, ◌∙◌, subst}
use Rattle.std.specs.Prelude.{ℕ, ℤ, ◌↔◌, Option, Some, None, slice_get}
use Rattle.schema.specs.declared.catalogue.TableDef.{TableDef}
use Rattle.catalogue.specs.declared.checked.Checked.{Checked}
use Rattle.classifier.specs.Classes.{lock_of}
use Rattle.backend_trait.specs.declared.request.Request.{Request}
use Rattle.backend_trait.specs.declared.request.Request.TheVariants as requests
use Rattle.backend_trait.specs.Store.{Transaction, Absent, Alive, Dead, Store, WhereLive, IsLocked, MayRunIn, MaySetIn, MayPost}
use Rattle.outcomes.specs.Next.{next_of}
use Rattle.plain_store.specs.declared.data.Work.{Work}
use Rattle.plain_store.specs.declared.data.Phase.{Phase}
use Rattle.plain_store.specs.declared.data.Phase.TheVariants as phases
use Rattle.plain_store.specs.declared.data.Database.{Database}
use Rattle.plain_store.specs.Phases.{held_of, transaction_in, request_at, mark_in, pending_of}
use Rattle.plain_store.specs.Meaning.{store_of}
use Rattle.plain_store.specs.States.{phase_in}
use Rattle.plain_store.specs.Deciding.{is_live, is_absent, has_its_lock, locks_table, MayRunAt, MaySetAt, Admits, is_idle}
use Rattle.backend_trait.proofs.Telling.{Tells, never}

pub idle_told : (waits : Option Request) (mark : Bool) → Tells (is_idle waits) (pending_of waits mark ≡ None)
idle_told None mark = (λ e. refl, λ e. refl)
idle_told (Some request) mark = never _ (λ e. absurd (cc))

absent_told : (x : Option Phase) → Tells (is_absent (phase_in x)) (transaction_in x ≡ Absent)
absent_told None = (λ e. refl, λ e. refl)
absent_told (Some phases.Absent) = (λ e. refl, λ e. refl)
absent_told (Some (phases.Alive work)) = never _ (λ e. absurd (cc))
absent_told (Some phases.Dead) = never _ (λ e. absurd (cc))

live_told : (x : Option Phase) → Tells (is_live (phase_in x)) (WhereLive (transaction_in x) (λ t. Unit {0}))
live_told None = never _ (λ h. h)
live_told (Some phases.Absent) = never _ (λ h. h)
live_told (Some (phases.Alive work)) = (λ e. tt, λ h. refl)
live_told (Some phases.Dead) = never _ (λ h. h)

lock_told : (work : Work) (table : Option ℕ) → Tells (has_its_lock (phases.Alive work) table) (IsLocked (held_of work) table)
lock_told work None = (λ e. tt, λ h. refl)
lock_told work (Some table) = (λ e. e, λ h. h)

not_live : (tables : List TableDef) (phase : Phase) (checked : Checked) (A : Type 0) → is_live phase ≡ false → MayRunAt tables phase checked → A
not_live tables phase checked A dead may = absurd (let f : false ≡ true = sym dead ∙ may.live in cc)

run_as : (st : Store) (checked : Checked) (x : Option Phase) → MayRunAt st.tables (phase_in x) checked ↔ WhereLive (transaction_in x) (MayRunIn st checked)
run_as st checked None = (λ may. not_live st.tables phases.Absent checked _ refl may, λ h. absurd h)
run_as st checked (Some phases.Absent) = (λ may. not_live st.tables phases.Absent checked _ refl may, λ h. absurd h)
run_as st checked (Some (phases.Alive work)) = (
  λ may. (may.runnable, (lock_told work (lock_of checked.body)).0 may.locked),
  λ h. record { live = refl; locked = (lock_told work (lock_of checked.body)).1 h.1; runnable = h.0 },
)
run_as st checked (Some phases.Dead) = (λ may. not_live st.tables phases.Dead checked _ refl may, λ h. absurd h)

-- it may set a number
unlocked : (x : Phase) (next : Option ℤ) (table : ℕ) (n : ℤ) (A : Type 0) → locks_table x table ≡ false → MaySetAt next x table n → A
unlocked x next table n A is may = absurd (let f : false ≡ true = sym is ∙ may.locked in cc)

set_as : (st : Store) (table : ℕ) (n : ℤ) (x : Option Phase) → MaySetAt (st.next table) (phase_in x) table n ↔ WhereLive (transaction_in x) (MaySetIn st table n)
set_as st table n None = (λ may. unlocked phases.Absent (st.next table) table n _ refl may, λ h. absurd h)
set_as st table n (Some phases.Absent) = (λ may. unlocked phases.Absent (st.next table) table n _ refl may, λ h. absurd h)
set_as st table n (Some (phases.Alive work)) = (
  λ may. record { counted = may.counted; locked = may.locked; positive = may.positive },
  λ h. record { counted = h.counted; locked = h.locked; positive = h.positive },
)
set_as st table n (Some phases.Dead) = (λ may. unlocked phases.Dead (st.next table) table n _ refl may, λ h. absurd h)

-- what is admitted of a session may be posted
pub admitted : (d : Database) (s : ℕ) (request : Request) → Admits (next_of d.numbers) d.catalogue (phase_in (slice_get d.phases.items s)) request ↔ MayPost (store_of d) s request
admitted d s requests.TakeSnapshot = absent_told (slice_get d.phases.items s)
admitted d s (requests.Run checked) = run_as (store_of d) checked (slice_get d.phases.items s)
admitted d s (requests.Lock table) = live_told (slice_get d.phases.items s)
admitted d s requests.Commit = live_told (slice_get d.phases.items s)
admitted d s requests.Rollback = (λ h. h, λ h. h)
admitted d s (requests.ReadSerial table) = (λ h. h, λ h. h)
admitted d s (requests.SetSerial table n) = set_as (store_of d) table n (slice_get d.phases.items s)

-- with the phase and the request as they are read
pub admitted_here : (d : Database) (s : ℕ) (phase : Phase) (request : Request) (b : Bool) → slice_get d.phases.items s ≡ Some phase → Tells b (Admits (next_of d.numbers) d.catalogue phase request)
    → Tells b (MayPost (store_of d) s request)
admitted_here d s phase request b is told =
    let same : phase ≡ phase_in (slice_get d.phases.items s) = sym (ap phase_in is) in
    let post = admitted d s request in (
      λ e. post.0 (subst (λ (p : Phase). Admits (next_of d.numbers) d.catalogue p request) same (told.0 e)),
      λ h. told.1 (subst (λ (p : Phase). Admits (next_of d.numbers) d.catalogue p request) (sym same) (post.1 h)),
    )

pub idle_here : (d : Database) (s : ℕ) (waits : Option Request) → slice_get d.requests.items s ≡ Some waits → Tells (is_idle waits) ((store_of d).pending s ≡ None)
idle_here d s waits is =
    subst (λ (w : Option Request). Tells (is_idle w) ((store_of d).pending s ≡ None)) (ap request_at is) (idle_told (request_at (slice_get d.requests.items s)) (mark_in (slice_get d.crossed.items s)))
