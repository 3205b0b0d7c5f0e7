-- A reader of expressions that may nest deeper gives the same, but for TooDeep.
use Rattle.std.proofs.Common.{ℕ, zero, suc, List, ◌∷◌, Option, Some, None, refl, inl, inr}
use Rattle.sql_tokens.specs.Grammar.{part}
use Rattle.sql_tokens.specs.Reading.{Parse}
use Rattle.sql_tokens.proofs.Depth.{Same, after_same, same_then, same_last, same_chained}
use Rattle.sql_tokens.specs.declared.mark.Mark.TheVariants as mark
use Rattle.sql_tokens.specs.declared.token.Name.{Name}
use Rattle.sql_tokens.specs.declared.token.Token.{Token}
use Rattle.sql_tokens.specs.declared.token.Token.TheVariants as token
use Rattle.sql_tokens.specs.declared.word.Word.TheVariants as word
use Rattle.sql_tree.specs.declared.expr.Comparison.{Comparison}
use Rattle.sql_tree.specs.declared.expr.Comparison.TheVariants as comparison
use Rattle.sql_tree.specs.declared.expr.Expr.{Expr}
use Rattle.sql_expr.specs.declared.opening.Function.{Function}
use Rattle.sql_expr.specs.declared.opening.Opening.{Opening}
use Rattle.sql_expr.specs.declared.opening.Opening.TheVariants as opening
use Rattle.sql_expr.specs.Grammar.{or_of, and_of, tests_of, concat_of, sum_of, product_of, list_of, sum_part, product_part}
use Rattle.sql_expr.specs.Reading.{after_or, after_and, after_is, after_comma, after_bars, after_sign, after_factor_sign, in_at, nullity_at, function_of, call_with, named_with, prim_with, un_with, product_with, sum_with, cat_with, items_with, list_with, mem_rest, mem_with, compared_with, cmp_rest, cmp_with, test_with, not_with, and_with, or_with, minus_with, negated_with, behind}

module _ (b c : Opening → Parse Token Expr) (same : (o : Opening) (ts : List Token) → Same (b o ts) (c o ts)) where
  same_call : (n : Name) (f : Option Function) (ts : List Token) → Same (call_with b n f ts) (call_with c n f ts)
  same_call n None ts = inr refl
  same_call n (Some f) ts = same (opening.Call f) ts

  same_named : (n : Name) (ts : List Token) → Same (named_with b n ts) (named_with c n ts)
  unfolding named_with
  same_named n (token.Mark mark.Open ∷ ts) = same_call n (function_of n) ts
  same_named n _ = inr refl

  same_prim : (ts : List Token) → Same (prim_with b ts) (prim_with c ts)
  unfolding prim_with
  same_prim (token.Name n ∷ ts) = same_named n ts
  same_prim (token.Mark mark.Open ∷ ts) = same_last (b opening.Parenthesis ts) (c opening.Parenthesis ts) _ (same opening.Parenthesis ts)
  same_prim _ = inr refl

  same_un : (ts : List Token) → Same (un_with b ts) (un_with c ts)
  unfolding un_with
  same_un (token.Mark mark.Minus ∷ ts) = same opening.Minus ts
  same_un ts = same_prim ts

  same_product : (ts : List Token) → Same (product_with b ts) (product_with c ts)
  unfolding product_with
  same_product ts = same_chained after_factor_sign product_part (un_with b) (un_with c) product_of (un_with b) (un_with c) same_un same_un ts

  same_sum : (ts : List Token) → Same (sum_with b ts) (sum_with c ts)
  unfolding sum_with
  same_sum ts = same_chained after_sign sum_part (product_with b) (product_with c) sum_of (product_with b) (product_with c) same_product same_product ts

  same_cat : (ts : List Token) → Same (cat_with b ts) (cat_with c ts)
  unfolding cat_with
  same_cat ts = same_chained after_bars part (sum_with b) (sum_with c) concat_of (sum_with b) (sum_with c) same_sum same_sum ts

  same_items : (ts : List Token) → Same (items_with b ts) (items_with c ts)
  unfolding items_with
  same_items ts = same_chained after_comma part (b opening.Parenthesis) (c opening.Parenthesis) list_of (b opening.Parenthesis) (c opening.Parenthesis) (same opening.Parenthesis) (same opening.Parenthesis) ts

  same_list : (ts : List Token) → Same (list_with b ts) (list_with c ts)
  unfolding list_with
  same_list (token.Mark mark.Open ∷ ts) = same_last (items_with b ts) (items_with c ts) _ (same_items ts)
  same_list _ = inr refl

  same_rest : (e : Expr) (ts : List Token) → Same (mem_rest b e ts) (mem_rest c e ts)
  unfolding mem_rest
  same_rest e (token.Word word.In ∷ ts) = same_last (list_with b ts) (list_with c ts) _ (same_list ts)
  same_rest e (token.Word word.Not ∷ ts) = after_same (in_at ts) _ _ (λ o. same_last (list_with b o.1) (list_with c o.1) _ (same_list o.1))
  same_rest e _ = inr refl

  same_mem : (ts : List Token) → Same (mem_with b ts) (mem_with c ts)
  unfolding mem_with
  same_mem ts = same_then (cat_with b ts) (cat_with c ts) _ _ (same_cat ts) (λ x. same_rest x.0 x.1)

  same_right : (k : Comparison) (e : Expr) (ts : List Token) → Same (compared_with b k e ts) (compared_with c k e ts)
  same_right k e ts = same_last (mem_with b ts) (mem_with c ts) _ (same_mem ts)

  same_cmp_rest : (e : Expr) (ts : List Token) → Same (cmp_rest b e ts) (cmp_rest c e ts)
  unfolding cmp_rest
  same_cmp_rest e (token.Mark mark.Equal ∷ ts) = same_right comparison.Equal e ts
  same_cmp_rest e (token.Mark mark.Unequal ∷ ts) = same_right comparison.Unequal e ts
  same_cmp_rest e (token.Mark mark.Less ∷ ts) = same_right comparison.Less e ts
  same_cmp_rest e (token.Mark mark.AtMost ∷ ts) = same_right comparison.AtMost e ts
  same_cmp_rest e (token.Mark mark.Greater ∷ ts) = same_right comparison.Greater e ts
  same_cmp_rest e (token.Mark mark.AtLeast ∷ ts) = same_right comparison.AtLeast e ts
  same_cmp_rest e _ = inr refl

  same_cmp : (ts : List Token) → Same (cmp_with b ts) (cmp_with c ts)
  unfolding cmp_with
  same_cmp ts = same_then (mem_with b ts) (mem_with c ts) _ _ (same_mem ts) (λ x. same_cmp_rest x.0 x.1)

  same_test : (ts : List Token) → Same (test_with b ts) (test_with c ts)
  unfolding test_with
  same_test ts = same_chained after_is part nullity_at nullity_at tests_of (cmp_with b) (cmp_with c) (λ ts. inr refl) same_cmp ts

  same_not : (ts : List Token) → Same (not_with b ts) (not_with c ts)
  unfolding not_with
  same_not (token.Word word.Not ∷ ts) = same opening.Not ts
  same_not ts = same_test ts

  same_and : (ts : List Token) → Same (and_with b ts) (and_with c ts)
  unfolding and_with
  same_and ts = same_chained after_and part (not_with b) (not_with c) and_of (not_with b) (not_with c) same_not same_not ts

  pub same_or : (ts : List Token) → Same (or_with b ts) (or_with c ts)
  unfolding or_with
  same_or ts = same_chained after_or part (and_with b) (and_with c) or_of (and_with b) (and_with c) same_and same_and ts

  pub same_minus : (ts : List Token) → Same (minus_with b ts) (minus_with c ts)
  unfolding minus_with
  same_minus (token.Least ∷ ts) = inr refl
  same_minus ts = same_last (un_with b ts) (un_with c ts) _ (same_un ts)

  pub same_negated : (ts : List Token) → Same (negated_with b ts) (negated_with c ts)
  same_negated ts = same_last (not_with b ts) (not_with c ts) _ (same_not ts)

pub same_behind : (d : ℕ) (o : Opening) (ts : List Token) → Same (behind d o ts) (behind (suc d) o ts)
unfolding behind
same_behind zero o ts = inl tt
same_behind (suc d) opening.Minus ts = same_minus (behind d) (behind (suc d)) (same_behind d) ts
same_behind (suc d) opening.Not ts = same_negated (behind d) (behind (suc d)) (same_behind d) ts
same_behind (suc d) opening.Parenthesis ts = same_or (behind d) (behind (suc d)) (same_behind d) ts
same_behind (suc d) (opening.Call f) ts = inr refl

pub same_expr : (d : ℕ) (ts : List Token) → Same (or_with (behind d) ts) (or_with (behind (suc d)) ts)
same_expr d ts = same_or (behind d) (behind (suc d)) (same_behind d) ts
