use Rattle.std.proofs.Common.{◌≡◌, map, subst, Bor}
use Rattle.std.specs.Prelude.{IfSome, Option}
use Rattle.pg_values.specs.declared.value.Value.{Value}
use Rattle.sql_eval.specs.declared.row.Row.{Row}
use Rattle.sql_eval.specs.Views.{Entry, entries_in}
use Rattle.sql_eval.specs.Seeking.{AreRowsBut, IsKeptOut, IsMissed, Seeks}
use Rattle.sql_eval.proofs.Asking.{if_fine}
use Rattle.sql_eval.proofs.Sifting.{sought_rows, whole_rows}
use Rattle.sql_eval.proofs.candidates.candidates.Goals as goal

pub returns-in-Some : goal.returns-in-Some
returns-in-Some g c =
    let view = g.V.TableView.rows c.args.view.now in
    let filter = c.args.filter.now in
    let constant = c.in-Some.constant.now in
    if_fine c.rows_at.result (λ rows. AreRowsBut (IsMissed constant) view c.args.table c.args.key (map (λ (r : Bor Row). r.now) rows.items))
    (λ rows. AreRowsBut (IsKeptOut filter) view c.args.table c.args.key (map (λ (r : Bor Row). r.now) rows.items))
    (λ rows but. sought_rows filter c.args.key constant
    (subst (λ (o : Option (Bor Value)). IfSome o (λ (v : Bor Value). Seeks filter c.args.key v.now)) c.in-Some.is c.sought.ensures)
    view c.args.table (map (λ (r : Bor Row). r.now) rows.items) c.requires but) c.rows_at.ensures

pub returns-in-None : goal.returns-in-None
returns-in-None g c =
    let view = g.V.TableView.rows c.args.view.now in
    let filter = c.args.filter.now in
    if_fine c.rows_of.result (λ rows. map (λ (r : Bor Row). r.now) rows.items ≡ map (λ (e : Entry). e.row) (entries_in view c.args.table))
    (λ rows. AreRowsBut (IsKeptOut filter) view c.args.table c.args.key (map (λ (r : Bor Row). r.now) rows.items))
    (λ rows are. whole_rows (IsKeptOut filter) (λ (r : Bor Row). r.now) rows.items view c.args.table c.args.key c.requires are) c.rows_of.ensures
