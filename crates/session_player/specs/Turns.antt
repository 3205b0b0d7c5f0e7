-- Where a session's turn ends.
use Rattle.std.specs.Prelude.{◌≡◌, Option, Some, None}
use Rattle.pgproto.specs.declared.line.Mark.{Mark}
use Rattle.session_seat.specs.declared.step.Step.{Step}
use Rattle.session_seat.specs.declared.step.Step.TheVariants as step
use Rattle.session_player.specs.declared.round.TurnEnd.{TurnEnd}
use Rattle.session_player.specs.declared.round.TurnEnd.TheVariants.{Marked, Waits, Rests, Closed}
use Rattle.session_player.specs.Marks.{StopsAt}

-- behind an event a turn goes on, but at the mark
abbrev pub EndsAtMark : Option Mark → Option Mark → Option TurnEnd → Type 0
EndsAtMark until mark None = StopsAt until mark → ⊥
EndsAtMark until mark (Some end) = StopsAt until mark × (end ≡ Marked)

-- a step that was taken whole: a place begins a recovery that is ordered
abbrev pub IsTaken : Step → Type 0
IsTaken (step.Did mark) = Unit {0}
IsTaken step.Waits = Unit {0}
IsTaken step.Idle = Unit {0}
IsTaken step.Closed = Unit {0}
IsTaken (step.Recovers moment number) = ⊥

-- how a turn ends behind a step; None: it goes on
abbrev pub EndsBehind : Option Mark → Step → Option TurnEnd → Type 0
EndsBehind until (step.Did mark) end = EndsAtMark until mark end
EndsBehind until step.Waits end = end ≡ Some Waits
EndsBehind until step.Idle end = end ≡ Some Rests
EndsBehind until step.Closed end = end ≡ Some Closed
EndsBehind until (step.Recovers moment number) end = ⊥
