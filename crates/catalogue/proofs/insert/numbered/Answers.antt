use Rattle.std.proofs.Common.{map, refl, ap, ◌∙◌, arith}
use Rattle.std.proofs.lemmas.List.{map-append}
use Rattle.schema.specs.declared.catalogue.ColumnDef.{ColumnDef}
use Rattle.catalogue.specs.Statements.{numbered_from}
use Rattle.catalogue.specs.Targets.{target_of}
use Rattle.catalogue.proofs.Numbering.{numbers_next, numbers_whole}
use Rattle.catalogue.proofs.insert.numbered.Goals as goal

pub loop-column-preserved : goal.loop-column-preserved
loop-column-preserved c = (
  omega arith,
  numbers_next numbered_from (λ k (x : ColumnDef). (k, x)) c.args.columns.now c.loop-column.column-index (map target_of c.loop-column.given)
      c.loop-column.number c.column-item.result (map target_of c.push.new.self) (λ k y ys. refl)
      (omega arith) c.column-item.is c.loop-column.invariant.0 c.loop-column.invariant.1
      (ap (map target_of) c.in_ok-push.ensures.ok ∙ map-append target_of c.loop-column.given _),
)

pub returns : goal.returns
returns c =
    numbers_whole numbered_from (λ k (x : ColumnDef). (k, x)) c.args.columns.now c.loop-column.column-index (map target_of c.loop-column.given)
    refl (omega arith) c.loop-column.invariant.1
