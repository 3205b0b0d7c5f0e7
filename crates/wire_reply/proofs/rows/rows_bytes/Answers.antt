use Rattle.std.proofs.Common.{◌≡◌, ◌++◌, [], drop, refl, sym, subst, drop_of_length-le}
use Rattle.std.proofs.lemmas.List.{append-nil}
use Rattle.wire_reply.specs.Rows.{AreRows}
use Rattle.wire_reply.proofs.RowSteps.{rows_step}
use Rattle.wire_reply.proofs.rows.rows_bytes.Goals as goal

pub loop-row-preserved : goal.loop-row-preserved
loop-row-preserved c = λ more rest. subst (λ bytes. AreRows c.args.formats.now c.args.rows.now (bytes ++ more)) (sym c.in_ok-append.ensures.ok)
    (rows_step c.args.formats.now c.args.rows.now c.loop-row.row-index c.row-item.result c.loop-row.bytes c.in_ok-row_bytes.field-0
    c.loop-row-test.true c.row-item.is c.in_ok-row_bytes.ensures c.loop-row.invariant more rest)

pub returns : goal.returns
returns c =
    let over : drop c.loop-row.row-index c.args.rows.now ≡ [] = drop_of_length-le c.args.rows.now c.loop-row-test.false in
    subst (λ bytes. AreRows c.args.formats.now c.args.rows.now bytes) (append-nil c.loop-row.bytes)
    (c.loop-row.invariant [] (subst (λ xs. AreRows c.args.formats.now xs []) (sym over) refl))
