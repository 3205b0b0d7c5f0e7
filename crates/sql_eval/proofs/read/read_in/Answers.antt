use Rattle.std.proofs.Common.{ℕ, subst}
use Rattle.std.specs.Prelude.{Option}
use Rattle.sql_eval.specs.Effects.{IsKeyedAt}
use Rattle.sql_eval.proofs.read.read_in.Goals as goal

pub read_table-requires-clause-keyed : goal.read_table-requires-clause-keyed
read_table-requires-clause-keyed g c =
    subst (λ (o : Option ℕ). IsKeyedAt c.args.catalogue.now (g.V.TableView.rows c.args.view.now) o) c.in-Some.is c.requires

pub returns-in-None : goal.returns-in-None
returns-in-None g c = c.read_alone.ensures (g.V.TableView.rows c.args.view.now)
