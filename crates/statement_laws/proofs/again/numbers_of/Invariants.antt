use Rattle.std.proofs.Common.{◌≡◌, map, take}
use Rattle.pg_values.specs.Kinds.{oid_number}
use Rattle.statement_laws.proofs.again.numbers_of.Given as goal

abbrev pub invariant-loop-kind : goal.invariant-loop-kind
invariant-loop-kind l = l.made ≡ map oid_number (take l.kind-index l.kind-items)
