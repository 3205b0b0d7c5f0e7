use Rattle.std.proofs.Common.{◌≡◌, ◌++◌, map, drop}
use Rattle.pg_values.specs.Kinds.{oid_number}
use Rattle.wire_extended.proofs.describing.numbers_of.Given as goal

abbrev pub invariant-loop-kind : goal.invariant-loop-kind
invariant-loop-kind l = map oid_number l.kinds ≡ l.numbers ++ map oid_number (drop l.kind-index l.kinds)
