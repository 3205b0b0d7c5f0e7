use Rattle.std.proofs.Common.{◌++◌, ◌∷◌, string_bytes, w64, ap, ◌∙◌}
use Rattle.std.specs.Fmt.{signed_decimal}
use Rattle.std.proofs.lemmas.Int.{to_z-of_z}
use Rattle.journal.proofs.Growing.{grown, onward}
use Rattle.journal.proofs.orders.push_set_serial.Goals as goal

pub returns : goal.returns
returns c =
    let same = to_z-of_z w64 c.args.next c.ranges.next in
    onward c.push_typed.result c.push_typed.ensures
    (λ is. grown _ _ _ _ _ c.in_ok-push_table.ensures (is ∙ ap (λ n. string_bytes c.push_table.new.onto ++ (32 ∷ signed_decimal n)) same))
