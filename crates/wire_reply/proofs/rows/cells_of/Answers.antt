use Rattle.std.proofs.Common.{◌≡◌, [], drop, sym, subst, drop_of_length-le}
use Rattle.std.proofs.lemmas.List.{append-nil}
use Rattle.wire_reply.specs.Rows.{AreCells}
use Rattle.wire_reply.proofs.rows.cells_of.Goals as goal

pub returns : goal.returns
returns c =
    let over : drop c.loop-value.value-index c.args.cells.now ≡ [] = drop_of_length-le c.args.cells.now c.loop-value-test.false in
    subst (λ xs. AreCells c.args.formats.now 0 c.args.cells.now xs) (append-nil c.loop-value.made)
    (c.loop-value.invariant.1 [] (subst (λ xs. AreCells c.args.formats.now c.loop-value.value-index xs []) (sym over) tt))
