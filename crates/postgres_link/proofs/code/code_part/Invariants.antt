use Rattle.std.proofs.Common.{◌≡◌, length}
use Rattle.postgres_link.specs.Asked.{code_part}
use Rattle.postgres_link.proofs.code.code_part.Given as goal

abbrev pub invariant-loop-rest : goal.invariant-loop-rest
invariant-loop-rest l = code_part l.rest ≡ code_part l.parts

abbrev pub decreases-loop-rest : goal.decreases-loop-rest
decreases-loop-rest l = length l.rest
