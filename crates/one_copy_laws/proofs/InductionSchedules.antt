-- By induction over a schedule the invariant holds at each of its moments, and what is said of schedules follows.
use Rattle.std.proofs.Common.{◌≡◌, ℕ, ◌<◌, List, [], ◌∷◌, refl, sym, subst}
use Rattle.pool_base.specs.declared.backend_set.BackendSet.{BackendSet}
use Rattle.schema.specs.declared.catalogue.TableDef.{TableDef}
use Rattle.schema.specs.Allowed.{AreAllowed}
use Rattle.session_machine.specs.declared.action.SessionEvent.{SessionEvent}
use Rattle.session_machine.specs.declared.action.SessionEvent.TheVariants as events
use Rattle.session_machine.specs.declared.machine.ReadPolicy.{ReadPolicy}
use Rattle.session_machine.specs.Allowed.{MayHappen as MachineMay}
use Rattle.one_copy_model.specs.declared.event.Event.{Event}
use Rattle.one_copy_model.specs.declared.event.Event.TheVariants.{Of, Act, Lost}
use Rattle.one_copy_model.specs.World.{World, first_world, after, IsSchedule, MayHappen}
use Rattle.one_copy_model.specs.Tracking.{Tracked, first_tracked, tracked_after, tracked_all}
use Rattle.one_copy_model.specs.Statement.{AlwaysAgree, CommitsAreDone, OneCopy}
use Rattle.one_copy_model.specs.Invariant.{AlwaysHolds, Invariant}
use Rattle.one_copy_model.proofs.FollowingLaws.{acknowledged, one_copy as one_copy_follows}
use Rattle.one_copy_model.proofs.InvariantLaws.{agree, holds_first}
use Rattle.one_copy_laws.specs.Caused.{AreCaused, IsCaused, IsCausedAt}
use Rattle.one_copy_laws.proofs.InductionEvents.{event_kept}

-- no event changes the tables
same_tables : (w : World) (e : Event) → (after w e).tables ≡ w.tables
same_tables w (Of s event) = refl
same_tables w (Act s b answer) = refl
same_tables w (Lost b) = refl

holds_on : (t : Tracked) (es : List Event) → Invariant t → AreAllowed t.world.tables → IsSchedule t.world es → AlwaysHolds t es
holds_on t [] h allowed may = h
holds_on t (e ∷ es) h allowed may = (
  h,
  holds_on (tracked_after t e) es (event_kept t e h allowed may.0)
      (subst AreAllowed (sym (same_tables t.world e)) allowed) may.1,
)

at_last : (t : Tracked) (es : List Event) → AlwaysHolds t es → Invariant (tracked_all t es)
at_last t [] h = h
at_last t (e ∷ es) h = at_last (tracked_after t e) es h.1

-- a detachment comes where it is due, and there it has its cause
caused_at : (t : Tracked) (s : ℕ) (event : SessionEvent) → Invariant t → MachineMay (t.world.machine s) event → IsCausedAt (t.world.machine s) event
caused_at t s (events.Detached b cause answer) h may = h.causes s b cause may.0
caused_at t s event h may = tt

caused : (t : Tracked) (e : Event) → Invariant t → MayHappen t.world e → IsCaused t.world e
caused t (Of s event) h may = caused_at t s.number event h may.0
caused t (Act s b answer) h may = tt
caused t (Lost b) h may = tt

all_caused : (t : Tracked) (es : List Event) → IsSchedule t.world es → AlwaysHolds t es → AreCaused t.world es
all_caused t [] may h = tt
all_caused t (e ∷ es) may h = (caused t e h.0 may.0, all_caused (tracked_after t e) es may.1 h.1)

pub always : (tables : List TableDef) (policy : ReadPolicy) (attached : BackendSet) (es : List Event) → AreAllowed tables → attached.bits < 256
    → IsSchedule (first_world tables policy attached) es → AlwaysHolds (first_tracked tables policy attached) es
always tables policy attached es allowed few may =
    holds_on (first_tracked tables policy attached) es (holds_first tables policy attached few) allowed may

pub one_copy : (tables : List TableDef) (policy : ReadPolicy) (attached : BackendSet) (es : List Event) → AreAllowed tables → attached.bits < 256
    → OneCopy tables policy attached es
one_copy tables policy attached es allowed few =
    λ may. one_copy_follows tables policy attached es may (always tables policy attached es allowed few may)

pub agreement : (tables : List TableDef) (policy : ReadPolicy) (attached : BackendSet) (es : List Event) → AreAllowed tables → attached.bits < 256
    → AlwaysAgree tables policy attached es
agreement tables policy attached es allowed few = λ may.
    agree (tracked_all (first_tracked tables policy attached) es)
    (at_last (first_tracked tables policy attached) es (always tables policy attached es allowed few may))

pub commits_done : (tables : List TableDef) (policy : ReadPolicy) (attached : BackendSet) (es : List Event) → AreAllowed tables → attached.bits < 256
    → CommitsAreDone tables policy attached es
commits_done tables policy attached es allowed few =
    λ may. acknowledged tables policy attached es may (always tables policy attached es allowed few may)

pub causes : (tables : List TableDef) (policy : ReadPolicy) (attached : BackendSet) (es : List Event) → AreAllowed tables → attached.bits < 256
    → IsSchedule (first_world tables policy attached) es → AreCaused (first_world tables policy attached) es
causes tables policy attached es allowed few may =
    all_caused (first_tracked tables policy attached) es may (always tables policy attached es allowed few may)
