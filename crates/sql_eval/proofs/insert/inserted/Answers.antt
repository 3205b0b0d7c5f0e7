use Rattle.std.proofs.Common.{◌≡◌, [], List, ap, sym, ◌∙◌, subst, arith, to_z, of_z, w64}
use Rattle.std.specs.Prelude.{ℤ, Some}
use Rattle.std.proofs.lemmas.Int.{ints, to_z-of_z}
use Rattle.catalogue.specs.declared.checked.TypedCell.{TypedCell}
use Rattle.sql_eval.specs.declared.effect.Change.{Change}
use Rattle.sql_eval.specs.Reads.{alone}
use Rattle.sql_eval.specs.Walks.{Coded, GivesAs}
use Rattle.sql_eval.specs.Inserts.{all_draws, is_spent, last_serial, rows_given, serial_kind}
use Rattle.sql_eval.proofs.Drawing.{none_drawn, all_drawn, spent_given, rows_put}
use Rattle.sql_eval.proofs.insert.inserted.Goals as goal

pub all_draws-draws-requires : goal.all_draws-draws-requires
all_draws-draws-requires g c = omega (arith, c.requires.few, ap all_draws c.as_slice-rows.ensures)

pub is_spent-requires : goal.is_spent-requires
is_spent-requires g c = record {
  next = omega (arith, ints, c.requires.next);
  few = omega (arith, c.requires.few, c.all_draws-draws.ensures, ap all_draws c.as_slice-rows.ensures);
}

pub returns-then-is_spent-clause-draws : goal.returns-then-is_spent-clause-draws
returns-then-is_spent-clause-draws g c =
    let view = g.V.TableView.rows c.args.view.now in
    let table = c.args.table.now in
    let insert = c.args.insert.now in
    let next = c.args.next in
    let same = to_z-of_z _ next c.ranges.next in
    let draws = c.all_draws-draws.result in
    let last = last_serial (serial_kind (Some table)) in
    let draws_are : draws ≡ all_draws insert.rows = c.all_draws-draws.ensures ∙ ap all_draws c.as_slice-rows.ensures in
    let test = ap (is_spent last next) (sym draws_are) ∙ (ap (λ (m : ℤ). is_spent last m draws) (sym same) ∙ (sym c.is_spent.ensures.spent ∙ c.if-is_spent.true)) in
    sym (none_drawn view (Some table) next insert test)

pub returns-then-is_spent-clause-given : goal.returns-then-is_spent-clause-given
returns-then-is_spent-clause-given g c =
    let view = g.V.TableView.rows c.args.view.now in
    let table = c.args.table.now in
    let insert = c.args.insert.now in
    let next = c.args.next in
    let same = to_z-of_z _ next c.ranges.next in
    let draws = c.all_draws-draws.result in
    let last = last_serial (serial_kind (Some table)) in
    let draws_are : draws ≡ all_draws insert.rows = c.all_draws-draws.ensures ∙ ap all_draws c.as_slice-rows.ensures in
    let test = ap (is_spent last next) (sym draws_are) ∙ (ap (λ (m : ℤ). is_spent last m draws) (sym same) ∙ (sym c.is_spent.ensures.spent ∙ c.if-is_spent.true)) in
    spent_given view (Some table) next insert test

pub insertions-requires : goal.insertions-requires
insertions-requires g c = record {
  few = omega (arith, c.requires.few, ap all_draws c.as_slice-rows.ensures);
  fits = omega (arith, ints, c.all_draws-draws.ensures, c.is_spent.ensures.enough c.if-is_spent.false);
}

pub returns-clause-draws : goal.returns-clause-draws
returns-clause-draws g c =
    let view = g.V.TableView.rows c.args.view.now in
    let table = c.args.table.now in
    let insert = c.args.insert.now in
    let next = c.args.next in
    let same = to_z-of_z _ next c.ranges.next in
    let draws = c.all_draws-draws.result in
    let last = last_serial (serial_kind (Some table)) in
    let draws_are : draws ≡ all_draws insert.rows = c.all_draws-draws.ensures ∙ ap all_draws c.as_slice-rows.ensures in
    let test = ap (is_spent last next) (sym draws_are) ∙ (ap (λ (m : ℤ). is_spent last m draws) (sym same) ∙ (sym c.is_spent.ensures.spent ∙ c.if-is_spent.false)) in
    draws_are ∙ sym (all_drawn view (Some table) next insert test)

pub returns-clause-given : goal.returns-clause-given
returns-clause-given g c =
    let view = g.V.TableView.rows c.args.view.now in
    let table = c.args.table.now in
    let insert = c.args.insert.now in
    let next = c.args.next in
    let same = to_z-of_z _ next c.ranges.next in
    let draws = c.all_draws-draws.result in
    let last = last_serial (serial_kind (Some table)) in
    let draws_are : draws ≡ all_draws insert.rows = c.all_draws-draws.ensures ∙ ap all_draws c.as_slice-rows.ensures in
    let test = ap (is_spent last next) (sym draws_are) ∙ (ap (λ (m : ℤ). is_spent last m draws) (sym same) ∙ (sym c.is_spent.ensures.spent ∙ c.if-is_spent.false)) in
    subst (λ (o : Coded (List Change)). GivesAs (λ (cs : List Change). cs) c.insertions.result o) (sym (rows_put view (Some table) next insert test))
    (subst (λ (m : ℤ). GivesAs (λ (cs : List Change). cs) c.insertions.result (rows_given alone view insert.table table.columns table.key [] m insert.rows)) same
    (subst (λ (rows : List (List TypedCell)). GivesAs (λ (cs : List Change). cs) c.insertions.result (rows_given alone view insert.table table.columns table.key [] (to_z w64 (of_z w64 next)) rows))
    c.as_slice-rows.ensures c.insertions.ensures))
