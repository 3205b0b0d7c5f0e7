use Rattle.std.proofs.Common.{◌≡◌, [], drop, sym, subst, drop_of_length-le}
use Rattle.std.proofs.lemmas.List.{append-nil}
use Rattle.wire_extended.specs.Giving.{EachIsRow}
use Rattle.wire_extended.proofs.executing.kept_rows.Goals as goal

pub returns : goal.returns
returns c =
    let over : drop c.loop-row.row-index c.args.rows.now ≡ [] = drop_of_length-le c.args.rows.now c.loop-row-test.false in
    subst (λ kept. EachIsRow c.args.formats.now c.args.rows.now kept) (append-nil c.loop-row.kept)
    (c.loop-row.invariant [] (subst (λ xs. EachIsRow c.args.formats.now xs []) (sym over) tt))
