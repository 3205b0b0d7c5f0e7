use Rattle.std.proofs.Common.{refl, arith}
use Rattle.schema.specs.declared.catalogue.ColumnDef.{ColumnDef}
use Rattle.typed_sql.specs.declared.typed.TypedForm.TheVariants as form
use Rattle.typed_sql.specs.Typing.{typed}
use Rattle.catalogue.specs.Statements.{columns_from}
use Rattle.catalogue.proofs.Numbering.{numbers_next, numbers_whole}
use Rattle.catalogue.proofs.select.all_columns.Goals as goal

pub loop-column-preserved : goal.loop-column-preserved
loop-column-preserved c = (
  omega arith,
  numbers_next columns_from (λ k (x : ColumnDef). typed x.kind (form.Column k)) c.args.columns.now c.loop-column.column-index c.loop-column.made
      c.loop-column.number c.column-item.result c.push.new.self (λ k y ys. refl)
      (omega arith) c.column-item.is c.loop-column.invariant.0 c.loop-column.invariant.1 c.in_ok-push.ensures.ok,
)

pub returns : goal.returns
returns c =
    numbers_whole columns_from (λ k (x : ColumnDef). typed x.kind (form.Column k)) c.args.columns.now c.loop-column.column-index c.loop-column.made
    refl (omega arith) c.loop-column.invariant.1
