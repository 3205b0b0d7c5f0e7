use Rattle.std.proofs.Common.{◌≡◌, map, take}
use Rattle.checked_sql.specs.Sound.{chain_kind}
use Rattle.checked_sql.proofs.kinds.kind_of_sum.Given as goal

abbrev pub invariant-loop-part : goal.invariant-loop-part
invariant-loop-part l = l.kind ≡ chain_kind l.fn.first (map (λ x. x.part.kind) (take l.part-index l.parts))
