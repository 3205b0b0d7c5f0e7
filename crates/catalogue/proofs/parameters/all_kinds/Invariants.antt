use Rattle.std.proofs.Common.{◌≡◌, map, take}
use Rattle.typed_sql.specs.Places.{or_text}
use Rattle.catalogue.proofs.parameters.all_kinds.Given as goal

abbrev pub invariant-loop-kind : goal.invariant-loop-kind
invariant-loop-kind l = l.kinds ≡ map or_text (take l.kind-index l.known.items)
