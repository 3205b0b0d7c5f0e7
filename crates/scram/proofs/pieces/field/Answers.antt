use Rattle.std.proofs.Common.{List, ℕ, Bor}
use Rattle.scram.proofs.Parts.{field_of_cut}
use Rattle.scram.proofs.pieces.field.Goals as goal

pub returns : goal.returns
returns c =
    field_of_cut {X = Bor (List ℕ) × Bor (List ℕ)} (λ x. x.0.now) (λ x. x.1.now) c.args.mark c.args.front.now c.in_ok-after.field-0.now c.args.bytes.now c.cut.result c.in_ok-after.ensures c.cut.ensures
