use Rattle.std.proofs.Common.{◌++◌, List, map, ap, sym, ◌∙◌, Bor}
use Rattle.std.proofs.lemmas.List.{append-nil, drop_all}
use Rattle.sql_eval.specs.declared.effect.Change.{Change}
use Rattle.outcomes.specs.declared.change.ChangeSet.{ChangeSet}
use Rattle.outcomes.specs.Gathered.{changes_in}
use Rattle.outcomes.proofs.Ordered.{sets_more}
use Rattle.outcomes.proofs.gathered.gather_sets.Goals as goal

pub loop-set-init : goal.loop-set-init
loop-set-init c = ap (λ (all : List (Bor Change)). map (λ (d : Bor Change). d.now) all ++ changes_in c.args.log.now) c.new-all.ensures.items

pub loop-set-preserved : goal.loop-set-preserved
loop-set-preserved c =
    sets_more c.args.log.now c.loop-set.set-index c.set-item.result (map (λ (d : Bor Change). d.now) c.loop-set.all.items) (map (λ (d : Bor Change). d.now) c.gather.new.all.items)
    c.as_slice.result.now c.loop-set-test.true c.set-item.is c.loop-set.invariant c.in_ok-gather.ensures c.as_slice.ensures.value

pub returns : goal.returns
returns c =
    let front = map (λ (d : Bor Change). d.now) c.loop-set.all.items in
    sym (append-nil front)
    ∙ (ap (λ (sets : List ChangeSet). front ++ changes_in sets) (sym (drop_all c.loop-set.set-index c.args.log.now c.loop-set-test.false)) ∙ c.loop-set.invariant)
