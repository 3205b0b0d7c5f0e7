use Rattle.std.proofs.Common.{◌≡◌, map, take}
use Rattle.pgproto.specs.Script.{value_of}
use Rattle.pgproto.proofs.message.values_of.Given as goal

-- the values so far
abbrev pub invariant-loop-value : goal.invariant-loop-value
invariant-loop-value l = l.found ≡ map value_of (take l.value-index l.values)
