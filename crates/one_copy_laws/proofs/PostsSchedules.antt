-- By induction over a schedule: behind it each post that is due at an attached backend meets its store's condition.
use Rattle.std.proofs.Common.{◌≡◌, ◌<◌, false, true, List, [], ◌∷◌, refl, sym, subst}
use Rattle.pool_base.specs.declared.backend_set.BackendSet.{BackendSet}
use Rattle.schema.specs.declared.catalogue.TableDef.{TableDef}
use Rattle.schema.specs.Allowed.{AreAllowed}
use Rattle.session_machine.specs.declared.machine.ReadPolicy.{ReadPolicy}
use Rattle.one_copy_model.specs.declared.event.Event.{Event}
use Rattle.one_copy_model.specs.declared.event.Event.TheVariants.{Of, Act, Lost}
use Rattle.one_copy_model.specs.World.{World, first_world, after, after_all, IsSchedule}
use Rattle.one_copy_model.specs.Tracking.{Tracked, first_tracked, tracked_after}
use Rattle.one_copy_model.specs.Invariant.{Invariant}
use Rattle.one_copy_model.proofs.InvariantLaws.{holds_first}
use Rattle.one_copy_laws.proofs.InductionEvents.{event_kept}
use Rattle.one_copy_laws.specs.Posts.{AreAwaited, PostsMeet}
use Rattle.one_copy_laws.proofs.PostsKeeping.{event_awaits}
use Rattle.one_copy_laws.proofs.PostsMeeting.{posts_met}
use Rattle.one_copy_laws.proofs.PostsSteps.{no_close}

same_tables : (w : World) (e : Event) → (after w e).tables ≡ w.tables
same_tables w (Of s event) = refl
same_tables w (Act s b answer) = refl
same_tables w (Lost b) = refl

awaited_first : (tables : List TableDef) (policy : ReadPolicy) (attached : BackendSet) → AreAwaited (first_world tables policy attached)
awaited_first tables policy attached s = record {
  closing = λ b in_it e told. absurd (no_close e refl);
  waiting = λ b in_it waits. absurd (let z : false ≡ true = waits in cc);
}

meets_behind : (t : Tracked) (es : List Event) → Invariant t → AreAwaited t.world → AreAllowed t.world.tables → IsSchedule t.world es
    → PostsMeet (after_all t.world es)
meets_behind t [] h a allowed may = posts_met t h a
meets_behind t (e ∷ es) h a allowed may =
    meets_behind (tracked_after t e) es (event_kept t e h allowed may.0) (event_awaits t e h a may.0)
    (subst AreAllowed (sym (same_tables t.world e)) allowed) may.1

pub schedules_meet : (tables : List TableDef) (policy : ReadPolicy) (attached : BackendSet) (es : List Event) → AreAllowed tables → attached.bits < 256
    → IsSchedule (first_world tables policy attached) es → PostsMeet (after_all (first_world tables policy attached) es)
schedules_meet tables policy attached es allowed few may =
    meets_behind (first_tracked tables policy attached) es (holds_first tables policy attached few) (awaited_first tables policy attached) allowed may
