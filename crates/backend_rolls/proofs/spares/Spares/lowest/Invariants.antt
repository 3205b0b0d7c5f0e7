use Rattle.backend_rolls.specs.Spares.{IsNoneFree}
use Rattle.backend_rolls.proofs.spares.Spares.lowest.Given as goal

abbrev pub invariant-loop-box_number : goal.invariant-loop-box_number
invariant-loop-box_number l = IsNoneFree l.self l.from l.box_number
