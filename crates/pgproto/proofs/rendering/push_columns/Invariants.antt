use Rattle.std.proofs.Common.{◌≡◌, ◌++◌, string_bytes, take, codes}
use Rattle.std.specs.List.{flat_map}
use Rattle.pgproto.specs.Rendering.{column_form}
use Rattle.pgproto.proofs.rendering.push_columns.Given as goal

abbrev pub invariant-loop-field : goal.invariant-loop-field
invariant-loop-field l = string_bytes l.onto ≡ string_bytes l.initial.onto ++ flat_map (λ y. codes ", " ++ column_form y) (take l.field-index l.others)
