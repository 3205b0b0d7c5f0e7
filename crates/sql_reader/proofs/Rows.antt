-- The laws of PGPOOL RECOVER and of INSERT.
use Rattle.std.proofs.Common.{◌≡◌, ℕ, pos, suc, Bool as Boolean, true, false, cond, List, [], ◌∷◌, length, Result, Ok, Err, refl, ap, subst, sym, arith, inr}
use Rattle.std.specs.Prelude.{codes, nat_le}
use Rattle.std.proofs.lemmas.Bool.{le-leb, leb-true}
use Rattle.sql_tokens.specs.declared.fault.Awaited.{Awaited}
use Rattle.sql_tokens.specs.declared.fault.Awaited.TheVariants.{Statement as Wanted, Backend, Operand, Values, End}
use Rattle.sql_tokens.specs.declared.fault.Fault.{Fault}
use Rattle.sql_tokens.specs.declared.fault.Fault.TheVariants.{Syntax}
use Rattle.sql_tokens.specs.Grammar.{Form}
use Rattle.sql_tokens.specs.Reading.{Parse}
use Rattle.sql_tokens.proofs.Good.{Has, Any, Stops}
use Rattle.sql_tokens.proofs.Told.{Told, takes, refuses, by_none, by_head}
use Rattle.sql_tokens.specs.declared.mark.Mark.TheVariants as mark
use Rattle.sql_tokens.specs.declared.token.Token.{Token}
use Rattle.sql_tokens.specs.declared.token.Token.TheVariants as token
use Rattle.sql_tokens.specs.declared.word.Word.TheVariants as word
use Rattle.sql_tree.specs.declared.statement.Cell.TheVariants.{Fill}
use Rattle.sql_expr.specs.Grammar.{ExprOf, comma}
use Rattle.sql_expr.specs.Reading.{expr_at, after_comma, prim_with, un_with, product_with, sum_with, cat_with, mem_with, cmp_with, test_with, not_with, and_with, or_with}
use Rattle.sql_expr.proofs.Ends.{EndsOr, comma_stops, close_stops}
use Rattle.sql_reader.specs.Parts.{Done, Behind, Listed}
use Rattle.sql_reader.specs.Steps.{done, behind, listed}
use Rattle.sql_reader.specs.Words.{close_mark, open_mark, default_word, into_word, values_word, plain_name, after_close, after_open, after_default, after_into, after_values, after_plain}
use Rattle.sql_reader.specs.Grammar.{NameOf, kept, Closed, BackendOf, recover_of, RecoverOf, given_cell, CellOf, RowOf, ColumnsOf, insert_of, InsertOf}
use Rattle.sql_reader.specs.Reading.{name_at, closed, backend_at, recover_at, cell_at, row_at, columns_at, insert_at}
use Rattle.sql_reader.proofs.Stage.{Stage, stage_narrow, stage_done, stage_made, stage_then, stage_behind, stage_maybe, stage_either, stage_listed}
use Rattle.sql_reader.proofs.Keyed.{close_keyed, open_keyed, default_keyed, into_keyed, values_keyed, plain_keyed}
use Rattle.sql_reader.proofs.OneStatement.{expr_stage, name_stage, comma_keyed}

-- ---- PGPOOL RECOVER

module _ (n : ℕ) (ts : List Token) where
  in_range : (b : Boolean) → nat_le n 255 ≡ b → Has (cond {A = Result (ℕ × List Token) Fault} b (Ok (n, ts)) (Err (Syntax (suc (length ts)) Backend))) (BackendOf (token.Number (pos n) ∷ ts))
  in_range true e = (refl, leb-true n 255 e)
  in_range false e = tt

  number_told : (b : Boolean) → nat_le n 255 ≡ b → Told true BackendOf backend_at Any (token.Number (pos n) ∷ ts) (cond {A = Result (ℕ × List Token) Fault} b (Ok (n, ts)) (Err (Syntax (suc (length ts)) Backend)))
  number_told true e = takes (token.Number (pos n)) BackendOf backend_at ts n (λ other. rw e refl) (λ other. (refl, leb-true n 255 e))
  number_told false e = refuses BackendOf backend_at Any Backend (token.Number (pos n) ∷ ts) (by_head (token.Number (pos n)) backend_at (λ o. Err (Syntax (length o) Backend)) (λ more. rw e refl)) (token.Number (pos 0) ∷ []) 0 (λ k h. (refl, omega arith))

backend_takes : (ts : List Token) → Has (backend_at ts) (BackendOf ts)
backend_takes (token.Number (pos n) ∷ ts) = in_range n ts (nat_le n 255) refl
backend_takes _ = tt

backend_told : (ts : List Token) → Told true BackendOf backend_at Any ts (backend_at ts)
backend_told (token.Number (pos n) ∷ ts) = number_told n ts (nat_le n 255) refl
backend_told [] = refuses BackendOf backend_at Any Backend [] (by_none backend_at (λ o. Err (Syntax (length o) Backend)) refl) (token.Number (pos 0) ∷ []) 0 (λ k h. (refl, omega arith))
backend_told (t ∷ ts) = refuses BackendOf backend_at Any Backend (t ∷ ts) (by_head t backend_at (λ o. Err (Syntax (length o) Backend)) (λ more. refl)) (token.Number (pos 0) ∷ []) 0 (λ k h. (refl, omega arith))

backend_stage : Stage (λ d. BackendOf) (λ d. backend_at) Any
backend_stage = record {
  takes = λ d ts. backend_takes ts;
  again = λ d ts b rest h ends. rw (h.0, le-leb b 255 h.1) refl;
  most = λ d ts b rest h. omega (arith, ap length h.0);
  told = λ d ts. backend_told ts;
  same = λ d ts. inr refl;
  more = token.Number (pos 0) ∷ [];
  tree = 0;
  goes_on = λ d k h. (refl, omega arith);
}

pub recover_stage : Stage (λ d. RecoverOf) (λ d. recover_at) Any
recover_stage = stage_made recover_of _ _ Any (stage_behind (after_plain (codes "recover")) (plain_name (codes "recover")) _ _ Any (plain_keyed (codes "recover")) backend_stage Wanted)

-- ---- INSERT

pub stage_closed : {A : Type 0} (R : ℕ → Form Token A) (p : ℕ → Parse Token A) (Ends : List Token → Type 0) → ((after : List Token) → Ends (token.Mark mark.Close ∷ after)) → Stage R p Ends → (awaited : Awaited) → Stage (λ d. Closed (R d)) (λ d. closed awaited (p d)) Any
stage_closed {A} R p Ends stop one awaited = stage_made (kept {A = A}) _ _ Any
    (stage_then R p Ends (λ d. Behind close_mark (Done tt)) (λ d. behind after_close awaited (done tt)) Any one
    (stage_behind after_close close_mark (λ d. Done tt) (λ d. done tt) Any close_keyed (stage_done tt) awaited)
    (λ d mid b rest h e. subst Ends (sym h.2) (stop h.1)))

no_default : (d : ℕ) (after : List Token) → expr_at d (token.Word word.Default ∷ after) ≡ Err (Syntax (suc (length after)) Operand)
unfolding prim_with un_with product_with sum_with cat_with mem_with cmp_with test_with not_with and_with or_with
no_default d after = refl

cell_stage : Stage CellOf cell_at EndsOr
cell_stage = stage_either after_default default_word (λ _ d. Done Fill) (λ _ d. done Fill) EndsOr default_keyed (λ _. stage_narrow (λ d. Done Fill) (λ d. done Fill) Any EndsOr (λ k h. tt) (stage_done Fill)) _ _
    (stage_made given_cell ExprOf expr_at EndsOr expr_stage)
    (λ d s after. (Syntax (suc (length after)) Operand, rw (no_default d after) refl))

row_stage : Stage RowOf row_at Any
row_stage = stage_behind after_open open_mark _ _ Any open_keyed (stage_closed (λ d. Listed comma (CellOf d)) (λ d. listed after_comma (cell_at d)) (Stops EndsOr after_comma) close_stops (stage_listed after_comma comma CellOf cell_at EndsOr comma_keyed refl cell_stage (λ m. comma_stops)) End) Wanted

columns_stage : Stage (λ d. ColumnsOf) (λ d. columns_at) (Stops Any after_open)
columns_stage = stage_maybe after_open open_mark (λ _ d. Closed (Listed comma NameOf)) (λ _ d. closed Wanted (listed after_comma name_at)) Any open_keyed (λ _. stage_closed (λ d. Listed comma NameOf) (λ d. listed after_comma name_at) (Stops Any after_comma) (λ after. (tt, refl)) (stage_listed after_comma comma (λ d. NameOf) (λ d. name_at) Any comma_keyed refl name_stage (λ m after. tt)) Wanted)

rows_stage : Stage (λ d. Behind values_word (Listed comma (RowOf d))) (λ d. behind after_values Values (listed after_comma (row_at d))) (Stops Any after_comma)
rows_stage = stage_behind after_values values_word _ _ (Stops Any after_comma) values_keyed (stage_listed after_comma comma RowOf row_at Any comma_keyed refl row_stage (λ m after. tt)) Values

pub insert_stage : Stage InsertOf insert_at (Stops Any after_comma)
insert_stage = stage_made insert_of _ _ (Stops Any after_comma)
    (stage_behind after_into into_word _ _ (Stops Any after_comma) into_keyed
    (stage_then (λ d. NameOf) (λ d. name_at) Any _ _ (Stops Any after_comma) name_stage
    (stage_then (λ d. ColumnsOf) (λ d. columns_at) (Stops Any after_open) _ _ (Stops Any after_comma) columns_stage rows_stage (λ d mid b rest h e. subst (Stops Any after_open) (sym h.2) (tt, refl)))
    (λ d mid b rest h e. tt)) Wanted)
