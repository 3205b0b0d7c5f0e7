use Rattle.std.proofs.Common.{ℕ, List, map, sym, subst, Bor}
use Rattle.sql_eval.specs.declared.row.Row.{Row}
use Rattle.sql_eval.specs.declared.effect.ReadEffect.{ReadEffect}
use Rattle.sql_eval.specs.Views.{IsKeyedBy}
use Rattle.sql_eval.specs.Walks.{Coded, GivesAs}
use Rattle.sql_eval.specs.Seeking.{AreRowsBut, IsKeptOut}
use Rattle.sql_eval.proofs.Reading.{table_read}
use Rattle.sql_eval.proofs.read.read_table.Goals as goal

pub candidates-requires : goal.candidates-requires
candidates-requires g c =
    subst (λ (k : ℕ). IsKeyedBy (g.V.TableView.rows c.args.view.now) c.args.table k) (sym c.key_column-key.ensures) c.requires.keyed

pub returns : goal.returns
returns g c =
    let now = λ (r : Bor Row). r.now in
    let view = g.V.TableView.rows c.args.view.now in
    let key = c.key_column-key.result in
    subst (λ (o : Coded ReadEffect). GivesAs (λ (e : ReadEffect). e) c.read_rows.result o)
    (table_read now key c.as_slice.result.now view c.args.read.now c.args.table c.requires.named
    (subst (λ (rs : List (Bor Row)). AreRowsBut (IsKeptOut c.args.read.now.filter) view c.args.table key (map now rs)) (sym c.as_slice.ensures.value) c.in_ok-rows.ensures))
    c.read_rows.ensures
