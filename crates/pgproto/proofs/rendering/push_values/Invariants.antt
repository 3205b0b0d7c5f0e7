use Rattle.std.proofs.Common.{◌≡◌, ◌++◌, string_bytes, take, codes}
use Rattle.std.specs.List.{flat_map}
use Rattle.pgproto.specs.Rendering.{value_form}
use Rattle.pgproto.proofs.rendering.push_values.Given as goal

abbrev pub invariant-loop-value : goal.invariant-loop-value
invariant-loop-value l = string_bytes l.onto ≡ string_bytes l.initial.onto ++ flat_map (λ y. codes ", " ++ value_form y) (take l.value-index l.others)
