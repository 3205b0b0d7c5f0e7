use Rattle.std.proofs.Common.{◌≡◌, ◌++◌, [], drop, refl, sym, subst, drop_of_length-le}
use Rattle.std.proofs.lemmas.List.{append-nil}
use Rattle.wire_nodes.specs.Nodes.{AreNodeRows}
use Rattle.wire_nodes.proofs.NodeRows.{rows_step}
use Rattle.wire_nodes.proofs.nodes.rows.Goals as goal

pub loop-at-preserved : goal.loop-at-preserved
loop-at-preserved c = λ more rest. subst (λ bytes. AreNodeRows c.args.attached.bits c.args.lowest 0 c.args.nodes.now (bytes ++ more)) (sym c.in_ok-append.ensures.ok)
    (rows_step c.args.attached.bits c.args.lowest c.args.nodes.now c.loop-at.at c.index-nodes-at.result c.loop-at.bytes c.in_ok-row.field-0
    c.loop-at-test.true c.index-nodes-at.is c.in_ok-row.ensures c.loop-at.invariant more rest)

pub returns : goal.returns
returns c =
    let over : drop c.loop-at.at c.args.nodes.now ≡ [] = drop_of_length-le c.args.nodes.now c.loop-at-test.false in
    subst (λ bytes. AreNodeRows c.args.attached.bits c.args.lowest 0 c.args.nodes.now bytes) (append-nil c.loop-at.bytes)
    (c.loop-at.invariant [] (subst (λ xs. AreNodeRows c.args.attached.bits c.args.lowest c.loop-at.at xs []) (sym over) refl))
