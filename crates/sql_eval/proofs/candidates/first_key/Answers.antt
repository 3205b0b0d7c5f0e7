use Rattle.std.proofs.Common.{ap, sym, ◌∙◌, Bor}
use Rattle.std.specs.Option.{option_map}
use Rattle.sql_eval.specs.declared.row.Row.{Row}
use Rattle.sql_eval.proofs.Ranks.{first_there}
use Rattle.sql_eval.proofs.candidates.first_key.Goals as goal

pub returns-in-Some : goal.returns-in-Some
returns-in-Some g c =
    first_there (g.V.TableView.rows c.args.view.now) c.args.table c.args.key c.requires c.in-Some.row.now
    (sym c.after.ensures ∙ ap (option_map (λ (r : Bor Row). r.now)) c.in-Some.is) c.get.result c.get.ensures
