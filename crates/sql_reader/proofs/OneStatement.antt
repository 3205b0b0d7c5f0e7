-- The laws of each statement, from those of its parts.
use Rattle.std.proofs.Common.{ℕ, List, [], ◌∷◌, Option, None, refl, subst, sym, arith, inl, inr}
use Rattle.std.specs.Prelude.{codes}
use Rattle.sql_tokens.specs.declared.fault.Awaited.TheVariants.{Statement as Wanted}
use Rattle.sql_tokens.proofs.Good.{Any}
use Rattle.sql_tokens.specs.declared.token.Token.{Token}
use Rattle.sql_tokens.specs.declared.token.Token.TheVariants as token
use Rattle.sql_tree.specs.declared.expr.Expr.{Expr, Column}
use Rattle.sql_tree.specs.declared.statement.Statement.{Statement}
use Rattle.sql_tree.specs.declared.statement.Statement.TheVariants as statement
use Rattle.sql_expr.specs.Grammar.{ExprOf, Behind as ExprBehind, comma}
use Rattle.sql_expr.specs.Reading.{expr_at, after_comma}
use Rattle.sql_expr.proofs.Ends.{EndsOr, comma_marks, comma_stays, comma_stops}
use Rattle.sql_expr.proofs.Laws.{good_expr}
use Rattle.sql_expr.proofs.Places.{told_expr, name_or}
use Rattle.sql_expr.proofs.Refusals.{blank}
use Rattle.sql_expr.proofs.Same.{same_expr}
use Rattle.sql_reader.specs.Parts.{Done, Then, Behind, Listed}
use Rattle.sql_reader.specs.Steps.{done, both, behind, listed}
use Rattle.sql_reader.specs.Words.{from_word, where_word, set_word, equal_mark, name_token, plain_name, work_word, isolation_word, level_word, repeatable_word, read_word, transaction_word, after_from, after_where, after_set, after_equal, after_name, after_plain, after_work, after_isolation, after_level, after_repeatable, after_read, after_transaction}
use Rattle.sql_reader.specs.Grammar.{NameOf, FilterOf, delete_of, DeleteOf, set_item, SetOf, update_of, UpdateOf, WorkOf, IsolationOf, always, BeginOf, StartOf, EndingOf, ShowOf}
use Rattle.sql_reader.specs.Reading.{name_at, filter_at, delete_at, set_at, update_at, work_at, isolation_at, begin_at, start_at, ending_at, show_at}
use Rattle.sql_reader.proofs.Stage.{Stage, Keyed, stage_narrow, stage_done, stage_made, stage_then, stage_one, stage_behind, stage_maybe, stage_listed}
use Rattle.sql_reader.proofs.Keyed.{from_keyed, where_keyed, set_keyed, equal_keyed, name_keyed, plain_keyed, work_keyed, isolation_keyed, level_keyed, repeatable_keyed, read_keyed, transaction_keyed}
use Rattle.sql_reader.proofs.Ends.{EndsFilter, EndsSets, EndsUpdate, EndsWork, EndsIsolation, EndsBegin, where_stops}

pub expr_stage : Stage ExprOf expr_at EndsOr
expr_stage = record {
  takes = λ d. (good_expr d).takes;
  again = λ d. (good_expr d).again;
  most = λ d ts a rest h. omega (arith, (good_expr d).less ts a rest h);
  told = told_expr;
  same = same_expr;
  more = token.Name blank ∷ [];
  tree = Column None [];
  goes_on = λ d k h. name_or (ExprBehind d) k;
}

pub name_stage : Stage (λ d. NameOf) (λ d. name_at) Any
name_stage = stage_one after_name name_token (λ n d. Done n.text) (λ n d. done n.text) Any name_keyed (λ n. stage_done n.text) Wanted blank

pub filter_stage : Stage FilterOf filter_at EndsFilter
filter_stage = stage_maybe after_where where_word (λ _. ExprOf) (λ _. expr_at) EndsOr where_keyed (λ _. expr_stage)

-- ---- DELETE

pub delete_stage : Stage DeleteOf delete_at EndsFilter
delete_stage = stage_made delete_of (λ d. Behind from_word (Then NameOf (FilterOf d))) (λ d. behind after_from Wanted (both name_at (filter_at d))) EndsFilter
    (stage_behind after_from from_word (λ d. Then NameOf (FilterOf d)) (λ d. both name_at (filter_at d)) EndsFilter from_keyed
    (stage_then (λ d. NameOf) (λ d. name_at) Any FilterOf filter_at EndsFilter name_stage filter_stage (λ d mid b rest h e. tt)) Wanted)

-- ---- UPDATE

set_stage : Stage SetOf set_at EndsOr
set_stage = stage_made set_item (λ d. Then NameOf (Behind equal_mark (ExprOf d))) (λ d. both name_at (behind after_equal Wanted (expr_at d))) EndsOr
    (stage_then (λ d. NameOf) (λ d. name_at) Any (λ d. Behind equal_mark (ExprOf d)) (λ d. behind after_equal Wanted (expr_at d)) EndsOr name_stage
    (stage_behind after_equal equal_mark ExprOf expr_at EndsOr equal_keyed expr_stage Wanted) (λ d mid b rest h e. tt))

pub comma_keyed : Keyed after_comma comma
comma_keyed = record { are = comma_marks; stays = comma_stays }

sets_stage : Stage (λ d. Listed comma (SetOf d)) (λ d. listed after_comma (set_at d)) EndsSets
sets_stage = stage_listed after_comma comma SetOf set_at EndsOr comma_keyed refl set_stage (λ m. comma_stops)

filter_begins : (d : ℕ) (mid : List Token) (o : Option Expr) (rest : List Token) → FilterOf d mid o rest → EndsUpdate rest → EndsSets mid
filter_begins d mid o rest (inl h) e = subst EndsSets (sym h.0) (e.0.0, e.1)
filter_begins d mid o rest (inr h) e = subst EndsSets (sym h.1.2) (where_stops h.1.1)

pub update_stage : Stage UpdateOf update_at EndsUpdate
update_stage = stage_made update_of (λ d. Then NameOf (Behind set_word (Then (Listed comma (SetOf d)) (FilterOf d)))) (λ d. both name_at (behind after_set Wanted (both (listed after_comma (set_at d)) (filter_at d)))) EndsUpdate
    (stage_then (λ d. NameOf) (λ d. name_at) Any (λ d. Behind set_word (Then (Listed comma (SetOf d)) (FilterOf d))) (λ d. behind after_set Wanted (both (listed after_comma (set_at d)) (filter_at d))) EndsUpdate name_stage
    (stage_behind after_set set_word (λ d. Then (Listed comma (SetOf d)) (FilterOf d)) (λ d. both (listed after_comma (set_at d)) (filter_at d)) EndsUpdate set_keyed
    (stage_then (λ d. Listed comma (SetOf d)) (λ d. listed after_comma (set_at d)) EndsSets FilterOf filter_at EndsUpdate sets_stage
    (stage_narrow FilterOf filter_at EndsFilter EndsUpdate (λ k e. e.0) filter_stage) filter_begins) Wanted) (λ d mid b rest h e. tt))

-- ---- control

pub work_stage : Stage (λ d. WorkOf) (λ d. work_at) EndsWork
work_stage = stage_maybe after_work work_word (λ _ d. Done tt) (λ _ d. done tt) Any work_keyed (λ _. stage_done tt)

pub isolation_stage : Stage (λ d. IsolationOf) (λ d. isolation_at) EndsIsolation
isolation_stage = stage_maybe after_isolation isolation_word (λ _ d. Behind level_word (Behind repeatable_word (Behind read_word (Done tt)))) (λ _ d. behind after_level Wanted (behind after_repeatable Wanted (behind after_read Wanted (done tt)))) Any isolation_keyed
    (λ _. stage_behind after_level level_word (λ d. Behind repeatable_word (Behind read_word (Done tt))) (λ d. behind after_repeatable Wanted (behind after_read Wanted (done tt))) Any level_keyed
    (stage_behind after_repeatable repeatable_word (λ d. Behind read_word (Done tt)) (λ d. behind after_read Wanted (done tt)) Any repeatable_keyed
    (stage_behind after_read read_word (λ d. Done tt) (λ d. done tt) Any read_keyed (stage_done tt) Wanted) Wanted) Wanted)

isolation_begins : (d : ℕ) (mid : List Token) (o : Option (Unit {0})) (rest : List Token) → IsolationOf mid o rest → EndsBegin rest → EndsWork mid
isolation_begins d mid o rest (inl h) e = subst EndsWork (sym h.0) (tt, e.1)
isolation_begins d mid o rest (inr h) e = subst EndsWork (sym h.1.2) (tt, refl)

pub begin_stage : Stage (λ d. BeginOf) (λ d. begin_at) EndsBegin
begin_stage = stage_made (always statement.Begin) (λ d. Then WorkOf IsolationOf) (λ d. both work_at isolation_at) EndsBegin
    (stage_then (λ d. WorkOf) (λ d. work_at) EndsWork (λ d. IsolationOf) (λ d. isolation_at) EndsBegin work_stage
    (stage_narrow (λ d. IsolationOf) (λ d. isolation_at) EndsIsolation EndsBegin (λ k e. e.0) isolation_stage) isolation_begins)

pub start_stage : Stage (λ d. StartOf) (λ d. start_at) EndsIsolation
start_stage = stage_made (always statement.Begin) (λ d. Behind transaction_word IsolationOf) (λ d. behind after_transaction Wanted isolation_at) EndsIsolation
    (stage_behind after_transaction transaction_word (λ d. IsolationOf) (λ d. isolation_at) EndsIsolation transaction_keyed isolation_stage Wanted)

pub ending_stage : (s : Statement) → Stage (λ d. EndingOf s) (λ d. ending_at s) EndsWork
ending_stage s = stage_made (always s) (λ d. WorkOf) (λ d. work_at) EndsWork work_stage

-- ---- SHOW

pub show_stage : Stage (λ d. ShowOf) (λ d. show_at) Any
show_stage = stage_behind (after_plain (codes "pool_nodes")) (plain_name (codes "pool_nodes")) (λ d. Done statement.ShowNodes) (λ d. done statement.ShowNodes) Any (plain_keyed (codes "pool_nodes")) (stage_done statement.ShowNodes) Wanted
