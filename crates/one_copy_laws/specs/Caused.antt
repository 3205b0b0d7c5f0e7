-- The detachments of a schedule have their causes.
use Rattle.std.specs.Prelude.{List, [], ◌∷◌}
use Rattle.session_machine.specs.declared.action.SessionEvent.{SessionEvent}
use Rattle.session_machine.specs.declared.action.SessionEvent.TheVariants as events
use Rattle.session_machine.specs.declared.machine.Machine.{Machine}
use Rattle.one_copy_model.specs.declared.event.Event.{Event}
use Rattle.one_copy_model.specs.declared.event.Event.TheVariants.{Of, Act, Lost}
use Rattle.one_copy_model.specs.World.{World, after}
use Rattle.one_copy_model.specs.Statement.{HasCause}

-- a detachment at a session has its cause there
abbrev pub IsCausedAt : Machine → SessionEvent → Type 0
IsCausedAt m (events.Detached b cause answer) = HasCause m b cause
IsCausedAt m event = Unit {0}

abbrev pub IsCaused : World → Event → Type 0
IsCaused w (Of s event) = IsCausedAt (w.machine s.number) event
IsCaused w (Act s b answer) = Unit {0}
IsCaused w (Lost b) = Unit {0}

-- each detachment of a list of events, where it comes
abbrev pub AreCaused : World → List Event → Type 0
AreCaused w [] = Unit {0}
AreCaused w (e ∷ es) = IsCaused w e × AreCaused (after w e) es
