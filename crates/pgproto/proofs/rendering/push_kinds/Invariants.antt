use Rattle.std.proofs.Common.{◌≡◌, ◌++◌, string_bytes, take, codes}
use Rattle.std.specs.List.{flat_map}
use Rattle.std.specs.Fmt.{decimal}
use Rattle.pgproto.proofs.rendering.push_kinds.Given as goal

abbrev pub invariant-loop-kind : goal.invariant-loop-kind
invariant-loop-kind l = string_bytes l.onto ≡ string_bytes l.initial.onto ++ flat_map (λ y. codes " " ++ decimal y) (take l.kind-index l.others)
