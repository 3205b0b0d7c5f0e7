use Rattle.std.proofs.Common.{List}
use Rattle.session_wire.specs.declared.wire.WireStep.{WireStep}
use Rattle.session_wire.specs.Shown.{View, shown}
use Rattle.session_wire.specs.Cuts.{Takes}
use Rattle.session_wire.specs.Steps.{IsNext, Leads}
use Rattle.session_wire.specs.Waiting.{work}
use Rattle.session_wire.proofs.wire.Wire.next.Given as goal

abbrev pub invariant-loop-step : goal.invariant-loop-step
invariant-loop-step l = Takes (shown l.fn.self) (shown l.self)
    × ((mids : List View) (step : WireStep) (new : View) → Leads l.tables l.moment (shown l.self) mids step new → IsNext l.tables l.moment (shown l.fn.self) step new)

abbrev pub decreases-loop-step : goal.decreases-loop-step
decreases-loop-step l = work (shown l.self)
