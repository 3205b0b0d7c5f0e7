-- Where the reader of statements fails, what it awaits is due; and it fails so behind each beginning of a statement.
use Rattle.std.proofs.Common.{◌≡◌, ℕ, pos, suc, Bool as Boolean, true, false, cond, List, [], ◌∷◌, ◌++◌, length, Option, Some, None, Result, Ok, Err, refl, sym, ap, subst, ◌∙◌, inl, inr}
use Rattle.std.specs.Prelude.{codes, nat_le}
use Rattle.std.proofs.lemmas.Bool.{le-leb, leb-true}
use Rattle.sql_tokens.specs.declared.fault.Awaited.{Awaited}
use Rattle.sql_tokens.specs.declared.fault.Awaited.TheVariants.{Operand, End, Statement as Wanted, Values, Backend}
use Rattle.sql_tokens.specs.declared.fault.Fault.{Fault}
use Rattle.sql_tokens.specs.declared.fault.Fault.TheVariants.{Syntax}
use Rattle.sql_tokens.specs.Grammar.{Form}
use Rattle.sql_tokens.specs.Reading.{◌>>=◌, Parse}
use Rattle.sql_tokens.proofs.Good.{Has, Any, Stops, HasMark, has_map}
use Rattle.sql_tokens.specs.declared.mark.Mark.TheVariants as mark
use Rattle.sql_tokens.specs.declared.token.Token.{Token}
use Rattle.sql_tokens.specs.declared.token.Token.TheVariants as token
use Rattle.sql_tokens.specs.declared.word.Word.TheVariants as word
use Rattle.sql_tree.specs.declared.expr.Expr.{Expr}
use Rattle.sql_tree.specs.declared.statement.Cell.{Cell}
use Rattle.sql_tree.specs.declared.statement.Cell.TheVariants.{Fill}
use Rattle.sql_tree.specs.declared.statement.Statement.{Statement}
use Rattle.sql_tree.specs.declared.statement.Statement.TheVariants as statement
use Rattle.sql_expr.specs.Grammar.{ExprOf, comma}
use Rattle.sql_expr.specs.Reading.{expr_at, after_comma, prim_with, un_with, product_with, sum_with, cat_with, mem_with, cmp_with, test_with, not_with, and_with, or_with}
use Rattle.sql_expr.proofs.Ends.{EndsOr, comma_stops, close_stops, comma_marks}
use Rattle.sql_reader.specs.Parts.{Done, Then, Made, Behind, Listed}
use Rattle.sql_reader.specs.Steps.{done, both, made, one_of, either_step, behind, listed}
use Rattle.sql_reader.specs.Words.{from_word, where_word, into_word, values_word, set_word, level_word, repeatable_word, read_word, isolation_word, transaction_word, default_word, open_mark, close_mark, equal_mark, work_word, name_token, plain_name, after_from, after_where, after_into, after_values, after_set, after_level, after_repeatable, after_read, after_isolation, after_transaction, after_default, after_open, after_close, after_equal, after_work, after_name, after_plain}
use Rattle.sql_reader.specs.Grammar.{NameOf, kept, Closed, FilterOf, delete_of, DeleteOf, set_item, SetOf, update_of, UpdateOf, WorkOf, IsolationOf, always, BeginOf, StartOf, EndingOf, ShowOf, BackendOf, recover_of, RecoverOf, given_cell, CellOf, RowOf, ColumnsOf, insert_of, InsertOf}
use Rattle.sql_reader.specs.Reading.{name_at, filter_at, delete_at, set_at, update_at, work_at, isolation_at, begin_at, start_at, ending_at, show_at, backend_at, recover_at, closed, cell_at, row_at, columns_at, insert_at}
use Rattle.sql_reader.proofs.Ends.{EndsFilter, EndsSets, EndsUpdate, EndsWork, EndsIsolation, EndsBegin, where_stops}
use Rattle.sql_reader.proofs.Keyed.{from_keyed, where_keyed, into_keyed, values_keyed, set_keyed, level_keyed, repeatable_keyed, read_keyed, isolation_keyed, transaction_keyed, default_keyed, open_keyed, close_keyed, equal_keyed, work_keyed, name_keyed, plain_keyed}
use Rattle.sql_profile.specs.Beginnings.{Beginning, AtOnce, Nothing, ThenBegun, BehindBegun}
use Rattle.sql_profile.specs.Expressions.{ExprBegun}
use Rattle.sql_profile.specs.Statements.{Further, ListedBegun, ClosedBegun, FilterBegun, DeleteBegun, SetBegun, UpdateBegun, IsolationBegun, BeginBegun, StartBegun, RecoverBegun, RowBegun, ColumnsBegun, InsertBegun}
use Rattle.sql_profile.proofs.Begins.{Frame, Halts, at_once, mapped, Begins, begins_narrow, begins_made, begins_done, begins_then, begins_maybe, begins_needed, begins_free, begins_behind, begins_listed, at_once_follows, mark_follows}
use Rattle.sql_profile.proofs.Expressions.{bad, bad_ends, two, begins_expr}

-- ---- parts that several statements have

-- a name, where this is awaited
pub begins_name : (v : Awaited) → Begins bad NameOf (one_of after_name v (λ n. done n.text)) Any (AtOnce v)
begins_name v = begins_needed bad after_name name_token (λ n. Done n.text) (λ n. done n.text) Any name_keyed.are (λ n. begins_done bad n.text) v refl

pub begins_filter : (d : ℕ) → Begins bad (FilterOf d) (filter_at d) EndsFilter (FilterBegun d)
begins_filter d = begins_maybe bad after_where where_word (λ _. ExprOf d) (λ _. expr_at d) EndsOr (λ _. ExprBegun d) where_keyed.are (λ _. begins_expr d)

-- ")"
begins_close : (v : Awaited) → Begins bad (Behind close_mark (Done {A = Unit {0}} tt)) (behind after_close v (done {A = Unit {0}} tt)) Any (AtOnce v)
begins_close v = begins_needed bad after_close close_mark (λ _. Done {A = Unit {0}} tt) (λ _. done {A = Unit {0}} tt) Any close_keyed.are (λ _. begins_done bad tt) v refl

begins_closed : {A : Type 0} (R : Form Token A) (p : Parse Token A) (Ends : List Token → Type 0) (D : Beginning Token) → ((after : List Token) → Ends (token.Mark mark.Close ∷ after)) → Ends (bad ∷ []) → Begins bad R p Ends D → (v : Awaited) → Begins bad (Closed R) (closed v p) Any (ClosedBegun v R D)
begins_closed {A} R p Ends D stop over one v = begins_made bad (Then R (Behind close_mark (Done {A = Unit {0}} tt))) (both p (behind after_close v (done {A = Unit {0}} tt))) Any (ClosedBegun v R D)
    (begins_then bad R p Ends D (Behind close_mark (Done {A = Unit {0}} tt)) (behind after_close v (done {A = Unit {0}} tt)) Any (AtOnce v) one (begins_close v) (λ mid b rest h e. subst Ends (sym h.2) (stop h.1)) (λ w mid d. at_once_follows bad Ends v w mid over d)) (kept {A = A})

-- ---- DELETE

pub begins_delete : (d : ℕ) → Begins bad (DeleteOf d) (delete_at d) EndsFilter (DeleteBegun d)
begins_delete d = begins_made bad (Behind from_word (Then NameOf (FilterOf d))) (behind after_from Wanted (both name_at (filter_at d))) EndsFilter (DeleteBegun d)
    (begins_behind bad after_from from_word (Then NameOf (FilterOf d)) (both name_at (filter_at d)) EndsFilter (ThenBegun NameOf Further (FilterBegun d)) from_keyed.are
    (begins_then bad NameOf name_at Any Further (FilterOf d) (filter_at d) EndsFilter (FilterBegun d) (begins_name Wanted) (begins_filter d) (λ mid b rest h e. tt) (λ w mid h. tt)) Wanted refl) delete_of

-- ---- UPDATE

begins_set : (d : ℕ) → Begins bad (SetOf d) (set_at d) EndsOr (SetBegun d)
begins_set d = begins_made bad (Then NameOf (Behind equal_mark (ExprOf d))) (both name_at (behind after_equal Wanted (expr_at d))) EndsOr (SetBegun d)
    (begins_then bad NameOf name_at Any Further (Behind equal_mark (ExprOf d)) (behind after_equal Wanted (expr_at d)) EndsOr (BehindBegun Wanted equal_mark (ExprBegun d)) (begins_name Wanted)
    (begins_behind bad after_equal equal_mark (ExprOf d) (expr_at d) EndsOr (ExprBegun d) equal_keyed.are (begins_expr d) Wanted refl) (λ mid b rest h e. tt) (λ w mid h. tt)) set_item

begins_sets : (d : ℕ) → Begins bad (Listed comma (SetOf d)) (listed after_comma (set_at d)) EndsSets (ListedBegun comma (SetOf d) (SetBegun d))
begins_sets d = begins_listed bad after_comma comma (SetOf d) (set_at d) EndsOr (SetBegun d) comma_marks (begins_set d) (λ m. comma_stops)

filter_ends : (d : ℕ) (mid : List Token) (o : Option Expr) (rest : List Token) → FilterOf d mid o rest → EndsUpdate rest → EndsSets mid
filter_ends d mid o rest (inl h) e = subst EndsSets (sym h.0) (e.0.0, e.1)
filter_ends d mid o rest (inr h) e = subst EndsSets (sym h.1.2) (where_stops h.1.1)

pub begins_update : (d : ℕ) → Begins bad (UpdateOf d) (update_at d) EndsUpdate (UpdateBegun d)
begins_update d = begins_made bad (Then NameOf (Behind set_word (Then (Listed comma (SetOf d)) (FilterOf d)))) (both name_at (behind after_set Wanted (both (listed after_comma (set_at d)) (filter_at d)))) EndsUpdate (UpdateBegun d)
    (begins_then bad NameOf name_at Any Further (Behind set_word (Then (Listed comma (SetOf d)) (FilterOf d))) (behind after_set Wanted (both (listed after_comma (set_at d)) (filter_at d))) EndsUpdate
    (BehindBegun Wanted set_word (ThenBegun (Listed comma (SetOf d)) (ListedBegun comma (SetOf d) (SetBegun d)) (FilterBegun d))) (begins_name Wanted)
    (begins_behind bad after_set set_word (Then (Listed comma (SetOf d)) (FilterOf d)) (both (listed after_comma (set_at d)) (filter_at d)) EndsUpdate (ThenBegun (Listed comma (SetOf d)) (ListedBegun comma (SetOf d) (SetBegun d)) (FilterBegun d)) set_keyed.are
    (begins_then bad (Listed comma (SetOf d)) (listed after_comma (set_at d)) EndsSets (ListedBegun comma (SetOf d) (SetBegun d)) (FilterOf d) (filter_at d) EndsUpdate (FilterBegun d) (begins_sets d)
    (begins_narrow bad (FilterOf d) (filter_at d) EndsFilter (FilterBegun d) (begins_filter d) EndsUpdate (λ k e. e.0)) (filter_ends d)
    (λ w mid h. mark_follows bad EndsSets where_word (λ _. ExprBegun d) w mid (λ _. where_stops) h)) Wanted refl)
    (λ mid b rest h e. tt) (λ w mid h. tt)) update_of

-- ---- control

begins_work : Begins bad WorkOf work_at EndsWork Nothing
begins_work = begins_free bad after_work work_word (λ _. Done tt) (λ _. done tt) Any work_keyed.are (λ _. begins_done bad tt)

begins_isolation : Begins bad IsolationOf isolation_at EndsIsolation IsolationBegun
begins_isolation = begins_maybe bad after_isolation isolation_word (λ _. Behind level_word (Behind repeatable_word (Behind read_word (Done tt)))) (λ _. behind after_level Wanted (behind after_repeatable Wanted (behind after_read Wanted (done tt)))) Any
    (λ _. BehindBegun Wanted level_word (BehindBegun Wanted repeatable_word Further)) isolation_keyed.are
    (λ _. begins_behind bad after_level level_word (Behind repeatable_word (Behind read_word (Done tt))) (behind after_repeatable Wanted (behind after_read Wanted (done tt))) Any (BehindBegun Wanted repeatable_word Further) level_keyed.are
    (begins_behind bad after_repeatable repeatable_word (Behind read_word (Done tt)) (behind after_read Wanted (done tt)) Any Further repeatable_keyed.are
    (begins_needed bad after_read read_word (λ _. Done tt) (λ _. done tt) Any read_keyed.are (λ _. begins_done bad tt) Wanted refl) Wanted refl) Wanted refl)

isolation_ends : (mid : List Token) (o : Option (Unit {0})) (rest : List Token) → IsolationOf mid o rest → EndsBegin rest → EndsWork mid
isolation_ends mid o rest (inl h) e = subst EndsWork (sym h.0) (tt, e.1)
isolation_ends mid o rest (inr h) e = subst EndsWork (sym h.1.2) (tt, refl)

pub begins_begin : Begins bad BeginOf begin_at EndsBegin BeginBegun
begins_begin = begins_made bad (Then WorkOf IsolationOf) (both work_at isolation_at) EndsBegin BeginBegun
    (begins_then bad WorkOf work_at EndsWork Nothing IsolationOf isolation_at EndsBegin IsolationBegun begins_work
    (begins_narrow bad IsolationOf isolation_at EndsIsolation IsolationBegun begins_isolation EndsBegin (λ k e. e.0)) isolation_ends
    (λ w mid h. mark_follows bad EndsWork isolation_word (λ _. BehindBegun Wanted level_word (BehindBegun Wanted repeatable_word Further)) w mid (λ _ after. (tt, refl)) h)) (always statement.Begin)

pub begins_start : Begins bad StartOf start_at EndsIsolation StartBegun
begins_start = begins_made bad (Behind transaction_word IsolationOf) (behind after_transaction Wanted isolation_at) EndsIsolation StartBegun
    (begins_behind bad after_transaction transaction_word IsolationOf isolation_at EndsIsolation IsolationBegun transaction_keyed.are begins_isolation Wanted refl) (always statement.Begin)

pub begins_ending : (s : Statement) → Begins bad (EndingOf s) (ending_at s) EndsWork Nothing
begins_ending s = begins_made bad WorkOf work_at EndsWork Nothing begins_work (always s)

-- ---- SHOW, PGPOOL RECOVER

pub begins_show : Begins bad ShowOf show_at Any Further
begins_show = begins_needed bad (after_plain (codes "pool_nodes")) (plain_name (codes "pool_nodes")) (λ _. Done statement.ShowNodes) (λ _. done statement.ShowNodes) Any (plain_keyed (codes "pool_nodes")).are (λ _. begins_done bad statement.ShowNodes) Wanted refl

module _ (n : ℕ) (ts : List Token) where
  in_range : (b : Boolean) → nat_le n 255 ≡ b → Has (cond {A = Result (ℕ × List Token) Fault} b (Ok (n, ts)) (Err (Syntax (suc (length ts)) Backend))) (BackendOf (token.Number (pos n) ∷ ts))
  in_range true e = (refl, leb-true n 255 e)
  in_range false e = tt

  range_halts : (b : Boolean) → Halts (AtOnce Backend) (token.Number (pos n) ∷ ts) (cond {A = Result (ℕ × List Token) Fault} b (Ok (n, ts)) (Err (Syntax (suc (length ts)) Backend)))
  range_halts true = tt
  range_halts false = at_once Backend (token.Number (pos n) ∷ ts)

backend_takes : (ts : List Token) → Has (backend_at ts) (BackendOf ts)
backend_takes (token.Number (pos n) ∷ ts) = in_range n ts (nat_le n 255) refl
backend_takes _ = tt

backend_halts : (ts : List Token) → Halts (AtOnce Backend) ts (backend_at ts)
backend_halts (token.Number (pos n) ∷ ts) = range_halts n ts (nat_le n 255)
backend_halts ts = at_once Backend ts

begins_backend : Begins bad BackendOf backend_at Any (AtOnce Backend)
begins_backend = record {
  takes = backend_takes;
  again = λ ts b rest h ends. rw (h.0, le-leb b 255 h.1) refl;
  frames = λ ts b rest h. record { used = token.Number (pos b) ∷ []; parts = h.0; framed = λ other. (refl, h.1) };
  halts = backend_halts;
  met = λ w ts d. rw (d.0, d.1) refl;
}

pub begins_recover : Begins bad RecoverOf recover_at Any RecoverBegun
begins_recover = begins_made bad (Behind (plain_name (codes "recover")) BackendOf) (behind (after_plain (codes "recover")) Wanted backend_at) Any RecoverBegun
    (begins_behind bad (after_plain (codes "recover")) (plain_name (codes "recover")) BackendOf backend_at Any (AtOnce Backend) (plain_keyed (codes "recover")).are begins_backend Wanted refl) recover_of

-- ---- INSERT

no_default : (d : ℕ) (after : List Token) → expr_at d (token.Word word.Default ∷ after) ≡ Err (Syntax (suc (length after)) Operand)
unfolding prim_with un_with product_with sum_with cat_with mem_with cmp_with test_with not_with and_with or_with
no_default d after = refl

module _ (d : ℕ) where
  cell_takes : (ts : List Token) (o : Option (Unit {0} × List Token)) → HasMark o (λ s after. ts ≡ default_word s ∷ after) → Has (either_step (λ _. done Fill) (made given_cell (expr_at d)) ts o) (CellOf d ts)
  cell_takes ts None h = has_map (made given_cell (expr_at d) ts) (Made given_cell (ExprOf d) ts) (CellOf d ts) ((begins_made bad (ExprOf d) (expr_at d) EndsOr (ExprBegun d) (begins_expr d) given_cell).takes ts) (λ a rest r. inr r)
  cell_takes ts (Some m) h = inl (m.0, m.1, h, (refl, refl))

  no_mark : (ts : List Token) (c : Cell) (rest : List Token) (o : Option (Unit {0} × List Token)) → HasMark o (λ s after. ts ≡ default_word s ∷ after) → made given_cell (expr_at d) ts ≡ Ok (c, rest) → either_step (λ _. done Fill) (made given_cell (expr_at d)) ts o ≡ Ok (c, rest)
  no_mark ts c rest None h is = is
  no_mark ts c rest (Some m) h is =
      let e : made given_cell (expr_at d) ts ≡ Err (Syntax (suc (length m.1)) Operand) = ap (made given_cell (expr_at d)) h ∙ ap (λ (r : Result (Expr × List Token) Fault). r >>= λ x. Ok (given_cell x.0, x.1)) (no_default d m.1) in
      absurd cc

  cell_again : (ts : List Token) (c : Cell) (rest : List Token) → CellOf d ts c rest → EndsOr rest → cell_at d ts ≡ Ok (c, rest)
  cell_again ts c rest (inl h) ends = rw (h.2, h.3.0, h.3.1) refl
  cell_again ts c rest (inr h) ends = no_mark ts c rest (after_default ts) (default_keyed.are.found ts) ((begins_made bad (ExprOf d) (expr_at d) EndsOr (ExprBegun d) (begins_expr d) given_cell).again ts c rest h ends)

  cell_frames : (ts : List Token) (c : Cell) (rest : List Token) → CellOf d ts c rest → Frame (CellOf d) ts c rest
  cell_frames ts c rest (inl h) = record { used = token.Word word.Default ∷ []; parts = h.2 ∙ ap (λ (l : List Token). token.Word word.Default ∷ l) h.3.0; framed = λ other. inl (tt, other, refl, (refl, h.3.1)) }
  cell_frames ts c rest (inr h) = let f = (begins_expr d).frames ts h.0 rest h.1 in record { used = f.used; parts = f.parts; framed = λ other. inr (h.0, f.framed other, h.2) }

  cell_halts : (ts : List Token) (o : Option (Unit {0} × List Token)) → Halts (ExprBegun d) ts (either_step (λ _. done Fill) (made given_cell (expr_at d)) ts o)
  cell_halts ts None = mapped (ExprBegun d) ts (expr_at d ts) (λ x. (given_cell x.0, x.1)) ((begins_expr d).halts ts)
  cell_halts ts (Some m) = tt

  cell_met : (w : Awaited) (ts : List Token) → expr_at d (ts ++ bad ∷ []) ≡ Err (Syntax 1 w) → cell_at d (ts ++ bad ∷ []) ≡ Err (Syntax 1 w)
  cell_met w [] h = rw h refl
  cell_met w (token.Word word.Default ∷ ts) h = absurd (two (expr_at d (token.Word word.Default ∷ (ts ++ bad ∷ []))) ts w Operand h (no_default d (ts ++ bad ∷ [])))
  cell_met w (t ∷ ts) h = rw h refl

  begins_cell : Begins bad (CellOf d) (cell_at d) EndsOr (ExprBegun d)
  begins_cell = record { takes = λ ts. cell_takes ts (after_default ts) (default_keyed.are.found ts); again = cell_again; frames = cell_frames; halts = λ ts. cell_halts ts (after_default ts); met = λ w ts e. cell_met w ts ((begins_expr d).met w ts e) }

  begins_cells : Begins bad (Listed comma (CellOf d)) (listed after_comma (cell_at d)) EndsSets (ListedBegun comma (CellOf d) (ExprBegun d))
  begins_cells = begins_listed bad after_comma comma (CellOf d) (cell_at d) EndsOr (ExprBegun d) comma_marks begins_cell (λ m. comma_stops)

  begins_row : Begins bad (RowOf d) (row_at d) Any (RowBegun d)
  begins_row = begins_behind bad after_open open_mark (Closed (Listed comma (CellOf d))) (closed End (listed after_comma (cell_at d))) Any (ClosedBegun End (Listed comma (CellOf d)) (ListedBegun comma (CellOf d) (ExprBegun d))) open_keyed.are
      (begins_closed (Listed comma (CellOf d)) (listed after_comma (cell_at d)) EndsSets (ListedBegun comma (CellOf d) (ExprBegun d)) close_stops (bad_ends, refl) begins_cells End) Wanted refl

  begins_rows : Begins bad (Listed comma (RowOf d)) (listed after_comma (row_at d)) (Stops Any after_comma) (ListedBegun comma (RowOf d) (RowBegun d))
  begins_rows = begins_listed bad after_comma comma (RowOf d) (row_at d) Any (RowBegun d) comma_marks begins_row (λ m after. tt)

begins_names : Begins bad (Listed comma NameOf) (listed after_comma name_at) (Stops Any after_comma) (ListedBegun comma NameOf Further)
begins_names = begins_listed bad after_comma comma NameOf name_at Any Further comma_marks (begins_name Wanted) (λ m after. tt)

begins_columns : Begins bad ColumnsOf columns_at (Stops Any after_open) ColumnsBegun
begins_columns = begins_maybe bad after_open open_mark (λ _. Closed (Listed comma NameOf)) (λ _. closed Wanted (listed after_comma name_at)) Any (λ _. ClosedBegun Wanted (Listed comma NameOf) (ListedBegun comma NameOf Further)) open_keyed.are
    (λ _. begins_closed (Listed comma NameOf) (listed after_comma name_at) (Stops Any after_comma) (ListedBegun comma NameOf Further) (λ after. (tt, refl)) (tt, refl) begins_names Wanted)

values_follows : (d : ℕ) (w : Awaited) (mid : List Token) → BehindBegun Values values_word (ListedBegun comma (RowOf d) (RowBegun d)) w mid → Stops Any after_open (mid ++ bad ∷ [])
values_follows d w mid (inl h) = at_once_follows bad (Stops Any after_open) Values w mid (tt, refl) h
values_follows d w mid (inr h) = mark_follows bad (Stops Any after_open) values_word (λ _. ListedBegun comma (RowOf d) (RowBegun d)) w mid (λ _ after. (tt, refl)) h

pub begins_insert : (d : ℕ) → Begins bad (InsertOf d) (insert_at d) (Stops Any after_comma) (InsertBegun d)
begins_insert d = begins_made bad (Behind into_word (Then NameOf (Then ColumnsOf (Behind values_word (Listed comma (RowOf d)))))) (behind after_into Wanted (both name_at (both columns_at (behind after_values Values (listed after_comma (row_at d)))))) (Stops Any after_comma) (InsertBegun d)
    (begins_behind bad after_into into_word (Then NameOf (Then ColumnsOf (Behind values_word (Listed comma (RowOf d))))) (both name_at (both columns_at (behind after_values Values (listed after_comma (row_at d))))) (Stops Any after_comma)
    (ThenBegun NameOf Further (ThenBegun ColumnsOf ColumnsBegun (BehindBegun Values values_word (ListedBegun comma (RowOf d) (RowBegun d))))) into_keyed.are
    (begins_then bad NameOf name_at Any Further (Then ColumnsOf (Behind values_word (Listed comma (RowOf d)))) (both columns_at (behind after_values Values (listed after_comma (row_at d)))) (Stops Any after_comma)
    (ThenBegun ColumnsOf ColumnsBegun (BehindBegun Values values_word (ListedBegun comma (RowOf d) (RowBegun d)))) (begins_name Wanted)
    (begins_then bad ColumnsOf columns_at (Stops Any after_open) ColumnsBegun (Behind values_word (Listed comma (RowOf d))) (behind after_values Values (listed after_comma (row_at d))) (Stops Any after_comma) (BehindBegun Values values_word (ListedBegun comma (RowOf d) (RowBegun d))) begins_columns
    (begins_behind bad after_values values_word (Listed comma (RowOf d)) (listed after_comma (row_at d)) (Stops Any after_comma) (ListedBegun comma (RowOf d) (RowBegun d)) values_keyed.are (begins_rows d) Values refl)
    (λ mid b rest h e. subst (Stops Any after_open) (sym h.2) (tt, refl)) (values_follows d))
    (λ mid b rest h e. tt) (λ w mid h. tt)) Wanted refl) insert_of
