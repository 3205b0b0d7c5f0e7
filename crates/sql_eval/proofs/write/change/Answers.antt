use Rattle.std.proofs.Common.{List, ap, sym, ◌∙◌, subst, Bor}
use Rattle.std.specs.Prelude.{Option}
use Rattle.schema.specs.declared.catalogue.ColumnDef.{ColumnDef}
use Rattle.schema.specs.declared.catalogue.TableDef.{TableDef}
use Rattle.sql_eval.specs.declared.row.Row.{Row}
use Rattle.sql_eval.specs.declared.effect.Change.{Change}
use Rattle.sql_eval.specs.Views.{IsKeyed, columns_of, entry_of}
use Rattle.sql_eval.specs.Reads.{alone}
use Rattle.sql_eval.specs.Walks.{Coded, GivesAs, made, walked}
use Rattle.sql_eval.specs.Stored.{change_in, change_of}
use Rattle.sql_eval.specs.Effects.{Writes, IsWrite}
use Rattle.sql_eval.specs.Seeking.{IsKeptOut}
use Rattle.sql_eval.proofs.Sifting.{change_passes, walk_of_rows}
use Rattle.sql_eval.proofs.write.change.Goals as goal

pub candidates-requires : goal.candidates-requires
candidates-requires g c =
    subst (λ (t : Option TableDef). IsKeyed (g.V.TableView.rows c.args.view.now) c.args.change.now.table t) (sym c.table_of-table.ensures) c.requires.keyed

pub returns : goal.returns
returns g c =
    let view = g.V.TableView.rows c.args.view.now in
    let change = c.args.change.now in
    let table = c.table_of-table.result.now in
    let now = λ (r : Bor Row). r.now in
    subst (λ (t : Option TableDef). IsWrite c.written.result (record { draws = 0; given = made Writes (change_in alone view (columns_of t) change) })) c.table_of-table.ensures
    (c.written.ensures (change_in alone view table.columns change)
    (subst (λ (o : Coded (List Change)). GivesAs (λ (cs : List Change). cs) c.changes.result o)
    (ap (λ (columns : List ColumnDef). walked (λ (r : Bor Row). change_of alone columns change (entry_of table.key r.now)) c.as_slice.result.now) c.as_slice-columns.ensures
    ∙ (ap (λ (rs : List (Bor Row)). walked (λ (r : Bor Row). change_of alone table.columns change (entry_of table.key r.now)) rs) c.as_slice.ensures.value
    ∙ walk_of_rows (change_of alone table.columns change) (IsKeptOut change.filter) (change_passes table.columns change)
    now c.in_ok-rows.rows.items view change.table table.key c.in_ok-rows.ensures)) c.changes.ensures))
