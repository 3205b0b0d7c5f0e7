use Rattle.std.proofs.Common.{◌≡◌, arith, rules, subst}
use Rattle.outcomes.proofs.NextLaws.{AreFirst, none_first, one_first, all_first}
use Rattle.outcomes.proofs.serials.first_numbers.Goals as goal

pub loop-table-init : goal.loop-table-init
loop-table-init c = none_first c.args.catalogue.now _ (omega arith)

pub loop-table-preserved : goal.loop-table-preserved
loop-table-preserved c = one_first c.args.catalogue.now c.loop-table.all c.loop-table.table _ (omega arith) (search (rules, c.first_number.ensures, c.table.ensures)) c.loop-table.invariant

pub returns : goal.returns
returns c =
    let same : c.loop-table.table ≡ 256 = omega arith in
    all_first c.args.catalogue.now c.loop-table.all c.requires (subst (AreFirst c.args.catalogue.now c.loop-table.all) same c.loop-table.invariant)
