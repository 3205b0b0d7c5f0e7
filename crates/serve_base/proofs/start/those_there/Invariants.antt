use Rattle.serve_base.specs.Start.{IsAttachedUpTo, is_there}
use Rattle.serve_base.proofs.start.those_there.Given as goal

abbrev pub invariant-loop-number : goal.invariant-loop-number
invariant-loop-number l = IsAttachedUpTo (is_there l.up.bits l.absent.bits) l.there.bits l.number
