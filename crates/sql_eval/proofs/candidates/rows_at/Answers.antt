use Rattle.std.proofs.Common.{◌≡◌, List, map, sym, ◌∙◌, subst, Bor}
use Rattle.std.specs.Prelude.{IfSome, Option}
use Rattle.std.specs.FinMap.{get}
use Rattle.std.specs.Option.{option_to_list}
use Rattle.pg_values.specs.declared.value.Value.{Value}
use Rattle.sql_eval.specs.declared.row.Row.{Row}
use Rattle.sql_eval.specs.Views.{Entry, entries_in, place}
use Rattle.sql_eval.specs.Seeking.{AreRowsBut, IsMissed, IsSole}
use Rattle.sql_eval.proofs.Asking.{if_fine}
use Rattle.sql_eval.proofs.Ranks.{null_left, sole_left}
use Rattle.sql_eval.proofs.Sifting.{whole_rows}
use Rattle.sql_eval.proofs.candidates.rows_at.Goals as goal

pub returns-then-is_null : goal.returns-then-is_null
returns-then-is_null g c =
    let view = g.V.TableView.rows c.args.view.now in
    let constant = c.args.constant.now in
    subst (λ (rs : List (Bor Row)). AreRowsBut (IsMissed constant) view c.args.table c.args.key (map (λ (r : Bor Row). r.now) rs)) (sym c.new.ensures.items)
    (null_left view c.args.table c.args.key constant (sym c.is_null.ensures ∙ c.if-is_null.true))

pub returns-then-is_text_key : goal.returns-then-is_text_key
returns-then-is_text_key g c =
    let view = g.V.TableView.rows c.args.view.now in
    let constant = c.args.constant.now in
    if_fine c.row_at.result (λ rows. map (λ (r : Bor Row). r.now) rows.items ≡ option_to_list (get view (place c.args.table constant)))
    (λ rows. AreRowsBut (IsMissed constant) view c.args.table c.args.key (map (λ (r : Bor Row). r.now) rows.items))
    (λ rows are. sole_left constant constant view c.args.table c.args.key (map (λ (r : Bor Row). r.now) rows.items) c.requires
    (c.is_text_key.ensures c.if-is_text_key.true) are) c.row_at.ensures

pub returns-in-Some : goal.returns-in-Some
returns-in-Some g c =
    let view = g.V.TableView.rows c.args.view.now in
    let constant = c.args.constant.now in
    let own = c.in-Some.own in
    if_fine c.row_at-in-Some.result (λ rows. map (λ (r : Bor Row). r.now) rows.items ≡ option_to_list (get view (place c.args.table own)))
    (λ rows. AreRowsBut (IsMissed constant) view c.args.table c.args.key (map (λ (r : Bor Row). r.now) rows.items))
    (λ rows are. sole_left own constant view c.args.table c.args.key (map (λ (r : Bor Row). r.now) rows.items) c.requires
    (subst (λ (o : Option Value). IfSome o (λ (k : Value). IsSole view c.args.table k constant)) c.in-Some.is c.number_key.ensures) are) c.row_at-in-Some.ensures

pub returns-in-None : goal.returns-in-None
returns-in-None g c =
    let view = g.V.TableView.rows c.args.view.now in
    let constant = c.args.constant.now in
    if_fine c.rows_of.result (λ rows. map (λ (r : Bor Row). r.now) rows.items ≡ map (λ (e : Entry). e.row) (entries_in view c.args.table))
    (λ rows. AreRowsBut (IsMissed constant) view c.args.table c.args.key (map (λ (r : Bor Row). r.now) rows.items))
    (λ rows are. whole_rows (IsMissed constant) (λ (r : Bor Row). r.now) rows.items view c.args.table c.args.key c.requires are) c.rows_of.ensures
