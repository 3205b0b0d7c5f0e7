use Rattle.std.proofs.Common.{List, ap, sym, ◌∙◌, subst, Bor}
use Rattle.std.specs.Prelude.{Option}
use Rattle.schema.specs.declared.catalogue.TableDef.{TableDef}
use Rattle.sql_eval.specs.declared.row.Row.{Row}
use Rattle.sql_eval.specs.declared.effect.Change.{Change}
use Rattle.sql_eval.specs.Views.{IsKeyed, entry_of}
use Rattle.sql_eval.specs.Reads.{alone}
use Rattle.sql_eval.specs.Walks.{Coded, GivesAs, walked}
use Rattle.sql_eval.specs.Stored.{remove_in, removal_of}
use Rattle.sql_eval.specs.Seeking.{IsKeptOut}
use Rattle.sql_eval.proofs.Sifting.{removal_passes, walk_of_rows}
use Rattle.sql_eval.proofs.write.remove.Goals as goal

pub candidates-requires : goal.candidates-requires
candidates-requires g c =
    subst (λ (t : Option TableDef). IsKeyed (g.V.TableView.rows c.args.view.now) c.args.remove.now.table t) (sym c.table_of-table.ensures) c.requires.keyed

pub returns : goal.returns
returns g c =
    let view = g.V.TableView.rows c.args.view.now in
    let remove = c.args.remove.now in
    let key = c.table_of-table.result.now.key in
    let now = λ (r : Bor Row). r.now in
    c.written.ensures (remove_in alone view remove)
    (subst (λ (o : Coded (List Change)). GivesAs (λ (cs : List Change). cs) c.removals.result o)
    (ap (λ (rs : List (Bor Row)). walked (λ (r : Bor Row). removal_of alone remove (entry_of key r.now)) rs) c.as_slice.ensures.value
    ∙ walk_of_rows (removal_of alone remove) (IsKeptOut remove.filter) (removal_passes remove) now c.in_ok-rows.rows.items view remove.table key c.in_ok-rows.ensures) c.removals.ensures)
