use Rattle.std.proofs.Common.{List, subst}
use Rattle.std.specs.List.{AllZip}
use Rattle.pg_values.specs.declared.value.Value.{Value}
use Rattle.play.specs.Answering.{IsCellText}
use Rattle.play.proofs.RowLemmas.{row_fits, row_is}
use Rattle.play.proofs.replies.row_message.Goals as goal

pub returns-clause-row : goal.returns-clause-row
returns-clause-row c = row_is c.args.row.now c.in_ok-values.values (subst (λ (cells : List Value). AllZip IsCellText cells c.in_ok-values.values) c.as_slice.ensures c.in_ok-values.ensures)

pub returns-clause-fits : goal.returns-clause-fits
returns-clause-fits c = λ few small.
    row_fits c.args.row.now c.in_ok-values.values (subst (λ (cells : List Value). AllZip IsCellText cells c.in_ok-values.values) c.as_slice.ensures c.in_ok-values.ensures) few small
