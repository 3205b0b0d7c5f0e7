use Rattle.std.proofs.Common.{rules, ◌∙◌, SFits, w64}
use Rattle.std.proofs.lemmas.Int.{to_z-of_z}
use Rattle.outcomes.proofs.Giving.{read_fails, read_gives, write_fails, write_gives}
use Rattle.outcomes.proofs.outcome.outcome_on.Goals as goal

pub returns-in-Ok : goal.returns-in-Ok
returns-in-Ok g c =
    read_gives c.args.catalogue.now c.args.statement.now (g.V.TableView.rows c.args.view.now) c.args.next c.read_given.result c.in-Read.read c.in-Ok.given c.in-Read.is
    c.in-Ok.ensures c.read_given.ensures

pub returns-in-Err : goal.returns-in-Err
returns-in-Err g c =
    read_fails c.args.catalogue.now c.args.statement.now (g.V.TableView.rows c.args.view.now) c.args.next c.failed.result c.in-Read.read c.in-Err.fault c.in-Read.is
    c.in-Err.ensures c.failed.ensures

pub returns-in-Ok-eval_write : goal.returns-in-Ok-eval_write
returns-in-Ok-eval_write g c =
    let fits : SFits w64 c.number_from.result = search rules in
    write_gives c.args.catalogue.now c.args.statement.now (g.V.TableView.rows c.args.view.now) c.args.next c.write_given.result c.in-Ok-eval_write.given
    _ (to_z-of_z w64 c.number_from.result fits ∙ c.number_from.ensures) c.in-Ok-eval_write.ensures c.write_given.ensures

pub returns-in-Err-eval_write : goal.returns-in-Err-eval_write
returns-in-Err-eval_write g c =
    let fits : SFits w64 c.number_from.result = search rules in
    write_fails c.args.catalogue.now c.args.statement.now (g.V.TableView.rows c.args.view.now) c.args.next c.failed-in-Err-eval_write.result c.in-Err-eval_write.fault
    _ (to_z-of_z w64 c.number_from.result fits ∙ c.number_from.ensures) c.in-Err-eval_write.ensures c.failed-in-Err-eval_write.ensures
