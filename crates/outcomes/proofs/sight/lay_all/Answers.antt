use Rattle.std.proofs.Common.{map, arith, Bor}
use Rattle.sql_eval.specs.declared.effect.Change.{Change}
use Rattle.outcomes.specs.Sights.{all_laid, rows_at}
use Rattle.outcomes.proofs.Ordered.{all_were_laid, laid_more}
use Rattle.outcomes.proofs.sight.lay_all.Goals as goal

pub loop-change-preserved : goal.loop-change-preserved
loop-change-preserved c = record {
  sorted = c.in_ok-lay.ensures.sorted;
  laid =
      laid_more (λ (d : Bor Change). d.now) c.args.changes.now c.loop-change.change-index c.change-item.result (rows_at c.loop-change.rows.items) (rows_at c.lay.new.rows.items)
      (all_laid (rows_at c.args.rows.now.items) (map (λ (d : Bor Change). d.now) c.args.changes.now)) (omega arith) c.change-item.is c.loop-change.invariant.laid c.in_ok-lay.ensures.laid;
}

pub returns-clause-laid : goal.returns-clause-laid
returns-clause-laid c =
    all_were_laid (λ (d : Bor Change). d.now) c.args.changes.now c.loop-change.change-index (rows_at c.loop-change.rows.items)
    (all_laid (rows_at c.args.rows.now.items) (map (λ (d : Bor Change). d.now) c.args.changes.now)) (omega arith) c.loop-change.invariant.laid
