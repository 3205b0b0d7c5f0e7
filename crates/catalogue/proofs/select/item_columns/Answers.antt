use Rattle.std.proofs.Common.{List, ℕ, [], ◌∷◌, ◌++◌, ap, ◌∙◌, arith}
use Rattle.std.specs.Prelude.{slice_get}
use Rattle.catalogue.specs.declared.checked.ColumnDesc.{ColumnDesc}
use Rattle.catalogue.specs.Statements.{column_desc}
use Rattle.catalogue.proofs.ColumnLemmas.{one_longer, columns_next, columns_out, columns_whole}
use Rattle.catalogue.proofs.select.item_columns.Goals as goal

pub loop-item-preserved : goal.loop-item-preserved
loop-item-preserved c = (
  one_longer c.push.new.self c.loop-item.made _ c.loop-item.item-index c.in_ok-push-in-Some.ensures.ok c.loop-item.invariant.0,
  columns_next c.args.items.now c.args.exprs.now c.loop-item.item-index c.loop-item.made c.loop-item.invariant.1
      c.item-item.result c.in-Some.expr.now c.push.new.self (omega arith) c.item-item.is
      (c.in-Some.ensures ∙ ap (slice_get c.args.exprs.now) (c.len.ensures ∙ c.loop-item.invariant.0))
      (c.in_ok-push-in-Some.ensures.ok ∙ ap (λ (n : List ℕ). c.loop-item.made ++ column_desc n c.in-Some.expr.now.kind ∷ []) c.in_ok-name-in-Some.ensures),
)

pub returns-in-None : goal.returns-in-None
returns-in-None c =
    columns_out c.args.items.now c.args.exprs.now c.loop-item.item-index c.loop-item.made c.loop-item.invariant.1
    (c.in-None.ensures ∙ ap (slice_get c.args.exprs.now) (c.len.ensures ∙ c.loop-item.invariant.0))

pub returns : goal.returns
returns c =
    columns_whole c.args.items.now c.args.exprs.now c.loop-item.item-index c.loop-item.made c.loop-item.invariant.1 (omega arith)
