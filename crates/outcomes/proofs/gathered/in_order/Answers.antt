use Rattle.std.proofs.Common.{map, Bor}
use Rattle.sql_eval.specs.declared.effect.Change.{Change}
use Rattle.outcomes.proofs.Ordered.{gathered_laid}
use Rattle.outcomes.proofs.gathered.in_order.Goals as goal

pub returns : goal.returns
returns c = λ rows.
    gathered_laid rows c.args.log.now c.args.own.now (map (λ (d : Bor Change). d.now) c.in_ok-all.all.items) (map (λ (d : Bor Change). d.now) c.gather.new.all.items)
    (map (λ (d : Bor Change). d.now) c.put_in_order.new.all.items) c.in_ok-all.ensures c.in_ok-gather.ensures c.put_in_order.ensures
