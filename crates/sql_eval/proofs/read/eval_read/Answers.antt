use Rattle.std.proofs.Common.{sym, subst}
use Rattle.std.specs.Prelude.{pos}
use Rattle.catalogue.specs.declared.checked.CheckedBody.{CheckedBody}
use Rattle.sql_eval.specs.Reads.{alone, read_in}
use Rattle.sql_eval.specs.Effects.{effect_of, IsRead, IsKeyedAt, table_in}
use Rattle.sql_eval.proofs.read.eval_read.Goals as goal

pub read_in-requires : goal.read_in-requires
read_in-requires g c =
    subst (λ (b : CheckedBody). IsKeyedAt c.args.catalogue.now (g.V.TableView.rows c.args.view.now) (table_in b)) c.in-Read.is c.requires.keyed

pub returns : goal.returns
returns g c =
    let view = g.V.TableView.rows c.args.view.now in
    subst (λ (b : CheckedBody). IsRead c.answered.result (effect_of alone c.args.catalogue.now b view (pos 1))) (sym c.in-Read.is)
    (c.answered.ensures (read_in alone view c.in-Read.read) c.read_in.ensures)
