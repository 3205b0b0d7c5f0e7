use Rattle.std.proofs.Common.{List, ℕ, Option, ◌+◌, take, sym, subst}
use Rattle.std.specs.List.{AllZip}
use Rattle.play.specs.Answering.{IsCellText}
use Rattle.play.proofs.RowLemmas.{zip_more}
use Rattle.play.proofs.replies.row_values.Goals as goal

pub loop-value-preserved : goal.loop-value-preserved
loop-value-preserved c =
    subst (λ (texts : List (Option (List ℕ))). AllZip IsCellText (take (c.loop-value.value-index + 1) c.args.cells.now) texts) (sym c.in_ok-push.ensures.ok)
    (zip_more IsCellText c.args.cells.now c.loop-value.value-index c.value-item.result c.loop-value.values c.in_ok-cell_text.field-0 c.loop-value-test.true c.value-item.is c.loop-value.invariant c.in_ok-cell_text.ensures)
