-- What is read is of the grammar, and what is of the grammar is read, level by level.
use Rattle.std.proofs.Common.{◌≡◌, ℕ, zero, suc, ◌<◌, List, ◌∷◌, length, Option, Some, None, Ok, refl, ap, subst, ◌∙◌, arith, inl, inr}
use Rattle.sql_tokens.specs.Grammar.{Form, ChainedOf, part}
use Rattle.sql_tokens.specs.Reading.{◌>>=◌, Parse}
use Rattle.sql_tokens.proofs.Good.{Has, Any, Good, then_has, has_map, good_chained}
use Rattle.sql_tokens.specs.declared.mark.Mark.TheVariants as mark
use Rattle.sql_tokens.specs.declared.token.Name.{Name}
use Rattle.sql_tokens.specs.declared.token.Token.{Token}
use Rattle.sql_tokens.specs.declared.token.Token.TheVariants as token
use Rattle.sql_tokens.specs.declared.word.Word.TheVariants as word
use Rattle.sql_tree.specs.declared.expr.Comparison.{Comparison}
use Rattle.sql_tree.specs.declared.expr.Comparison.TheVariants as comparison
use Rattle.sql_tree.specs.declared.expr.Expr.{Expr, Not, Minus, Column}
use Rattle.sql_expr.specs.declared.opening.Function.{Function}
use Rattle.sql_expr.specs.declared.opening.Opening.{Opening}
use Rattle.sql_expr.specs.declared.opening.Opening.TheVariants as opening
use Rattle.sql_expr.specs.Grammar.{and_word, bars, comma, is_word, or_word, or_of, and_of, tests_of, concat_of, sum_of, product_of, list_of, sum_part, product_part, sign, factor_sign, comparison_mark, IsPlain, function_word, PrimOf, number, string, truth, falsehood, null, parameter, column, qualified, parenthesis, current, call, moment, UnOf, negative, prim, ProductOf, SumOf, CatOf, ListOf, MemOf, cat, within, without, CmpOf, mem, compared, NullityOf, TestOf, NotOf, negated, test, AndOf, OrOf, MinusOf, Behind}
use Rattle.sql_expr.specs.Reading.{after_or, after_and, after_is, after_comma, after_bars, after_sign, after_factor_sign, close_at, in_at, name_at, string_at, nullity_at, function_of, call_with, named_with, prim_with, un_with, product_with, sum_with, cat_with, items_with, list_with, mem_rest, mem_with, compared_with, cmp_rest, cmp_with, test_with, not_with, and_with, or_with, minus_with, negated_with, behind}
use Rattle.sql_expr.proofs.Ends.{after_member, after_comparison, after_not, after_minus, after_least, EndsUn, EndsProduct, EndsSum, EndsCat, EndsMem, EndsCmp, EndsTest, EndsAnd, EndsOr, EndsItems, EndsOf, factor_stops, sign_stops, bars_stop, in_stops, not_stops, comparison_stops, is_stops, and_stops, or_stops, comma_stops, close_stops, or_marks, and_marks, is_marks, comma_marks, bars_marks, sign_marks, factor_marks}
use Rattle.sql_expr.proofs.Pieces.{NameOf, StringOf, CloseOf, InOf, close_takes, in_takes, name_takes, string_takes, good_nullity, good_called, Calls, function_found, function_again}

module _ (B : Opening → Form Token Expr) (b : Opening → Parse Token Expr) (good : (o : Opening) → Good (B o) (b o) (EndsOf o)) where
  -- ---- operands

  call_takes : (n : Name) (ts : List Token) (f : Option Function) → Calls n f → Has (call_with b n f ts) (PrimOf B (token.Name n ∷ token.Mark mark.Open ∷ ts))
  call_takes n ts None h = column n refl refl
  call_takes n ts (Some f) h = has_map (b (opening.Call f) ts) (B (opening.Call f) ts) (PrimOf B (token.Name n ∷ token.Mark mark.Open ∷ ts)) ((good (opening.Call f)).takes ts) (λ e rest d. call f n ts refl h d)

  named_takes : (n : Name) (ts : List Token) → Has (named_with b n ts) (PrimOf B (token.Name n ∷ ts))
  unfolding named_with
  named_takes n (token.Mark mark.Dot ∷ ts) = then_has (name_at ts) _ (NameOf ts) _ (name_takes ts) (λ x h. qualified n h.0 (ap (λ (l : List Token). token.Name n ∷ token.Mark mark.Dot ∷ l) h.1) (ap (λ (t : List ℕ). Column (Some n.text) t) h.2))
  named_takes n (token.Mark mark.Open ∷ ts) = call_takes n ts (function_of n) (function_found n)
  named_takes n ts = column n refl refl

  prim_takes : (ts : List Token) → Has (prim_with b ts) (PrimOf B ts)
  unfolding prim_with
  prim_takes (token.Number n ∷ ts) = number n refl refl
  prim_takes (token.Str s ∷ ts) = string s refl refl
  prim_takes (token.Param n ∷ ts) = parameter n refl refl
  prim_takes (token.Name n ∷ ts) = named_takes n ts
  prim_takes (token.Mark mark.Open ∷ ts) = then_has (b opening.Parenthesis ts) _ (B opening.Parenthesis ts) _ ((good opening.Parenthesis).takes ts) (λ x d. then_has (close_at x.1) _ (CloseOf x.1) _ (close_takes x.1) (λ y h. parenthesis ts refl (subst (B opening.Parenthesis ts x.0) h d)))
  prim_takes (token.Word word.True ∷ ts) = truth refl refl
  prim_takes (token.Word word.False ∷ ts) = falsehood refl refl
  prim_takes (token.Word word.Null ∷ ts) = null refl refl
  prim_takes (token.Word word.CurrentTimestamp ∷ ts) = current refl refl
  prim_takes (token.Word word.Timestamptz ∷ ts) = then_has (string_at ts) _ (StringOf ts) _ (string_takes ts) (λ x h. moment x.0 (ap (λ (l : List Token). token.Word word.Timestamptz ∷ l) h) refl)
  prim_takes _ = tt

  named_ends : (n : Name) (rest : List Token) → EndsUn rest → named_with b n rest ≡ Ok (Column None n.text, rest)
  unfolding named_with
  named_ends n (token.Mark mark.Dot ∷ rest) h = absurd cc
  named_ends n (token.Mark mark.Open ∷ rest) h = absurd cc
  named_ends n rest h = refl

  called_again : (f : Function) (n : Name) (mid : List Token) (e : Expr) (rest : List Token) → IsPlain (function_word f) n → B (opening.Call f) mid e rest → named_with b n (token.Mark mark.Open ∷ mid) ≡ Ok (e, rest)
  unfolding named_with
  called_again f n mid e rest plain d = ap (λ (o : Option Function). call_with b n o mid) (function_again f n plain) ∙ (good (opening.Call f)).again mid e rest d tt

  qualified_again : (q n : Name) (rest : List Token) → named_with b q (token.Mark mark.Dot ∷ token.Name n ∷ rest) ≡ Ok (Column (Some q.text) n.text, rest)
  unfolding named_with
  qualified_again q n rest = refl

  prim_again : (ts : List Token) (e : Expr) (rest : List Token) → PrimOf B ts e rest → EndsUn rest → prim_with b ts ≡ Ok (e, rest)
  unfolding prim_with
  prim_again ts e rest (number n h k) ends = rw (h, k) refl
  prim_again ts e rest (string s h k) ends = rw (h, k) refl
  prim_again ts e rest (truth h k) ends = rw (h, k) refl
  prim_again ts e rest (falsehood h k) ends = rw (h, k) refl
  prim_again ts e rest (null h k) ends = rw (h, k) refl
  prim_again ts e rest (parameter n h k) ends = rw (h, k) refl
  prim_again ts e rest (column n h k) ends = rw (h, k) (named_ends n rest ends)
  prim_again ts e rest (qualified q n h k) ends = rw (h, k) (qualified_again q n rest)
  prim_again ts e rest (parenthesis mid h d) ends = rw (h, (good opening.Parenthesis).again mid e (token.Mark mark.Close ∷ rest) d (close_stops rest).0) refl
  prim_again ts e rest (current h k) ends = rw (h, k) refl
  prim_again ts e rest (call f n mid h plain d) ends = rw h (called_again f n mid e rest plain d)
  prim_again ts e rest (moment s h k) ends = rw (h, k) refl

  prim_less : (ts : List Token) (e : Expr) (rest : List Token) → PrimOf B ts e rest → length rest < length ts
  prim_less ts e rest (number n h k) = omega (arith, ap length h)
  prim_less ts e rest (string s h k) = omega (arith, ap length h)
  prim_less ts e rest (truth h k) = omega (arith, ap length h)
  prim_less ts e rest (falsehood h k) = omega (arith, ap length h)
  prim_less ts e rest (null h k) = omega (arith, ap length h)
  prim_less ts e rest (parameter n h k) = omega (arith, ap length h)
  prim_less ts e rest (column n h k) = omega (arith, ap length h)
  prim_less ts e rest (qualified q n h k) = omega (arith, ap length h)
  prim_less ts e rest (parenthesis mid h d) = omega (arith, ap length h, (good opening.Parenthesis).less mid e (token.Mark mark.Close ∷ rest) d)
  prim_less ts e rest (current h k) = omega (arith, ap length h)
  prim_less ts e rest (call f n mid h plain d) = omega (arith, ap length h, (good (opening.Call f)).less mid e rest d)
  prim_less ts e rest (moment s h k) = omega (arith, ap length h)

  -- what no operand begins with
  Begins : List Token → Type 0
  Begins ts = (after_minus ts ≡ None) × (after_least ts ≡ None) × (after_not ts ≡ None)

  prim_begins : (ts : List Token) (e : Expr) (rest : List Token) → PrimOf B ts e rest → Begins ts
  unfolding Begins
  prim_begins ts e rest (number n h k) = rw h (refl, refl, refl)
  prim_begins ts e rest (string s h k) = rw h (refl, refl, refl)
  prim_begins ts e rest (truth h k) = rw h (refl, refl, refl)
  prim_begins ts e rest (falsehood h k) = rw h (refl, refl, refl)
  prim_begins ts e rest (null h k) = rw h (refl, refl, refl)
  prim_begins ts e rest (parameter n h k) = rw h (refl, refl, refl)
  prim_begins ts e rest (column n h k) = rw h (refl, refl, refl)
  prim_begins ts e rest (qualified q n h k) = rw h (refl, refl, refl)
  prim_begins ts e rest (parenthesis mid h d) = rw h (refl, refl, refl)
  prim_begins ts e rest (current h k) = rw h (refl, refl, refl)
  prim_begins ts e rest (call f n mid h plain d) = rw h (refl, refl, refl)
  prim_begins ts e rest (moment s h k) = rw h (refl, refl, refl)

  un_takes : (ts : List Token) → Has (un_with b ts) (UnOf B ts)
  unfolding un_with
  un_takes (token.Mark mark.Minus ∷ ts) = has_map (b opening.Minus ts) (B opening.Minus ts) (UnOf B (token.Mark mark.Minus ∷ ts)) ((good opening.Minus).takes ts) (λ e rest d. negative ts refl d)
  un_takes ts = has_map (prim_with b ts) (PrimOf B ts) (UnOf B ts) (prim_takes ts) (λ e rest h. prim h)

  un_skips : (ts : List Token) → after_minus ts ≡ None → un_with b ts ≡ prim_with b ts
  unfolding un_with
  un_skips (token.Mark mark.Minus ∷ ts) h = absurd cc
  un_skips ts h = refl

  un_again : (ts : List Token) (e : Expr) (rest : List Token) → UnOf B ts e rest → EndsUn rest → un_with b ts ≡ Ok (e, rest)
  unfolding un_with Begins
  un_again ts e rest (negative mid h d) ends = rw h ((good opening.Minus).again mid e rest d ends)
  un_again ts e rest (prim h) ends = un_skips ts (prim_begins ts e rest h).0 ∙ prim_again ts e rest h ends

  un_less : (ts : List Token) (e : Expr) (rest : List Token) → UnOf B ts e rest → length rest < length ts
  un_less ts e rest (negative mid h d) = omega (arith, ap length h, (good opening.Minus).less mid e rest d)
  un_less ts e rest (prim h) = prim_less ts e rest h

  un_begins : (ts : List Token) (e : Expr) (rest : List Token) → UnOf B ts e rest → (after_least ts ≡ None) × (after_not ts ≡ None)
  unfolding Begins
  un_begins ts e rest (negative mid h d) = rw h (refl, refl)
  un_begins ts e rest (prim h) = let p = prim_begins ts e rest h in (p.1, p.2)

  pub good_un : Good (UnOf B) (un_with b) EndsUn
  good_un = record { takes = un_takes; again = un_again; less = un_less }

  -- ---- chains of operators

  pub good_product : Good (ProductOf B) (product_with b) EndsProduct
  unfolding ProductOf product_with
  good_product = good_chained after_factor_sign factor_sign product_part (UnOf B) (un_with b) EndsUn factor_marks good_un factor_stops product_of (UnOf B) (un_with b) EndsUn good_un factor_stops (λ k h. h)

  pub good_sum : Good (SumOf B) (sum_with b) EndsSum
  unfolding SumOf sum_with
  good_sum = good_chained after_sign sign sum_part (ProductOf B) (product_with b) EndsProduct sign_marks good_product sign_stops sum_of (ProductOf B) (product_with b) EndsProduct good_product sign_stops (λ k h. h)

  pub good_cat : Good (CatOf B) (cat_with b) EndsCat
  unfolding CatOf cat_with
  good_cat = good_chained after_bars bars part (SumOf B) (sum_with b) EndsSum bars_marks good_sum (λ _. bars_stop) concat_of (SumOf B) (sum_with b) EndsSum good_sum (λ _. bars_stop) (λ k h. h)

  cat_begins : (ts : List Token) (e : Expr) (rest : List Token) → CatOf B ts e rest → after_not ts ≡ None
  unfolding ProductOf SumOf CatOf
  cat_begins ts e rest h = (un_begins ts h.3.3.0 h.3.3.1 h.3.3.3).1

  -- ---- lists

  Items : Form Token (List Expr)
  Items = ChainedOf comma part (B opening.Parenthesis) list_of (B opening.Parenthesis)

  good_items : Good Items (items_with b) EndsItems
  unfolding Items items_with
  good_items = good_chained after_comma comma part (B opening.Parenthesis) (b opening.Parenthesis) EndsOr comma_marks (good opening.Parenthesis) (λ _. comma_stops) list_of (B opening.Parenthesis) (b opening.Parenthesis) EndsOr (good opening.Parenthesis) (λ _. comma_stops) (λ k h. h)

  list_takes : (ts : List Token) → Has (list_with b ts) (ListOf B ts)
  unfolding Items ListOf list_with
  list_takes (token.Mark mark.Open ∷ ts) = then_has (items_with b ts) _ (Items ts) _ (good_items.takes ts) (λ y c. then_has (close_at y.1) _ (CloseOf y.1) _ (close_takes y.1) (λ z k. (ts, refl, subst (Items ts y.0) k c)))
  list_takes _ = tt

  list_again : (ts : List Token) (xs : List Expr) (rest : List Token) → ListOf B ts xs rest → Any rest → list_with b ts ≡ Ok (xs, rest)
  unfolding Items ListOf list_with
  list_again ts xs rest h any = rw (h.1, good_items.again h.0 xs (token.Mark mark.Close ∷ rest) h.2 (close_stops rest)) refl

  list_less : (ts : List Token) (xs : List Expr) (rest : List Token) → ListOf B ts xs rest → length rest < length ts
  unfolding Items ListOf
  list_less ts xs rest h = omega (arith, ap length h.1, good_items.less h.0 xs (token.Mark mark.Close ∷ rest) h.2)

  pub good_list : Good (ListOf B) (list_with b) Any
  good_list = record { takes = list_takes; again = list_again; less = list_less }

  rest_takes : (ts mid : List Token) (e : Expr) → CatOf B ts e mid → Has (mem_rest b e mid) (MemOf B ts)
  unfolding mem_rest
  rest_takes ts (token.Word word.In ∷ mid) e d = then_has (list_with b mid) _ (ListOf B mid) _ (list_takes mid) (λ l h. within e mid l.0 d h refl)
  rest_takes ts (token.Word word.Not ∷ mid) e d = then_has (in_at mid) _ (InOf mid) _ (in_takes mid) (λ o k. then_has (list_with b o.1) _ (ListOf B o.1) _ (list_takes o.1) (λ l h. without e o.1 l.0 (subst (λ (x : List Token). CatOf B ts e (token.Word word.Not ∷ x)) k d) h refl))
  rest_takes ts mid e d = cat d

  rest_ends : (e : Expr) (rest : List Token) → after_member rest ≡ None → mem_rest b e rest ≡ Ok (e, rest)
  unfolding mem_rest
  rest_ends e (token.Word word.In ∷ rest) h = absurd cc
  rest_ends e (token.Word word.Not ∷ rest) h = absurd cc
  rest_ends e rest h = refl

  mem_takes : (ts : List Token) → Has (mem_with b ts) (MemOf B ts)
  unfolding mem_with
  mem_takes ts = then_has (cat_with b ts) _ (CatOf B ts) _ (good_cat.takes ts) (λ x d. rest_takes ts x.1 x.0 d)

  mem_again : (ts : List Token) (e : Expr) (rest : List Token) → MemOf B ts e rest → EndsMem rest → mem_with b ts ≡ Ok (e, rest)
  unfolding mem_with mem_rest
  mem_again ts e rest (cat h) ends = rw (good_cat.again ts e rest h ends.0) (rest_ends e rest ends.1)
  mem_again ts e rest (within x mid xs h k q) ends = rw (good_cat.again ts x (token.Word word.In ∷ mid) h (in_stops mid), list_again mid xs rest k tt, q) refl
  mem_again ts e rest (without x mid xs h k q) ends = rw (good_cat.again ts x (token.Word word.Not ∷ token.Word word.In ∷ mid) h (not_stops (token.Word word.In ∷ mid)), list_again mid xs rest k tt, q) refl

  mem_less : (ts : List Token) (e : Expr) (rest : List Token) → MemOf B ts e rest → length rest < length ts
  mem_less ts e rest (cat h) = good_cat.less ts e rest h
  mem_less ts e rest (within x mid xs h k q) = omega (arith, good_cat.less ts x (token.Word word.In ∷ mid) h, list_less mid xs rest k)
  mem_less ts e rest (without x mid xs h k q) = omega (arith, good_cat.less ts x (token.Word word.Not ∷ token.Word word.In ∷ mid) h, list_less mid xs rest k)

  pub good_mem : Good (MemOf B) (mem_with b) EndsMem
  good_mem = record { takes = mem_takes; again = mem_again; less = mem_less }

  mem_begins : (ts : List Token) (e : Expr) (rest : List Token) → MemOf B ts e rest → after_not ts ≡ None
  mem_begins ts e rest (cat h) = cat_begins ts e rest h
  mem_begins ts e rest (within x mid xs h k q) = cat_begins ts x (token.Word word.In ∷ mid) h
  mem_begins ts e rest (without x mid xs h k q) = cat_begins ts x (token.Word word.Not ∷ token.Word word.In ∷ mid) h

  -- ---- comparisons

  right_takes : (c : Comparison) (ts mid : List Token) (e : Expr) → MemOf B ts e (comparison_mark c ∷ mid) → Has (compared_with b c e mid) (CmpOf B ts)
  right_takes c ts mid e d = then_has (mem_with b mid) _ (MemOf B mid) _ (mem_takes mid) (λ y h. compared c e y.0 mid d h refl)

  cmp_rest_takes : (ts mid : List Token) (e : Expr) → MemOf B ts e mid → Has (cmp_rest b e mid) (CmpOf B ts)
  unfolding cmp_rest
  cmp_rest_takes ts (token.Mark mark.Equal ∷ mid) e d = right_takes comparison.Equal ts mid e d
  cmp_rest_takes ts (token.Mark mark.Unequal ∷ mid) e d = right_takes comparison.Unequal ts mid e d
  cmp_rest_takes ts (token.Mark mark.Less ∷ mid) e d = right_takes comparison.Less ts mid e d
  cmp_rest_takes ts (token.Mark mark.AtMost ∷ mid) e d = right_takes comparison.AtMost ts mid e d
  cmp_rest_takes ts (token.Mark mark.Greater ∷ mid) e d = right_takes comparison.Greater ts mid e d
  cmp_rest_takes ts (token.Mark mark.AtLeast ∷ mid) e d = right_takes comparison.AtLeast ts mid e d
  cmp_rest_takes ts mid e d = mem d

  cmp_rest_ends : (e : Expr) (rest : List Token) → after_comparison rest ≡ None → cmp_rest b e rest ≡ Ok (e, rest)
  unfolding cmp_rest
  cmp_rest_ends e (token.Mark mark.Equal ∷ rest) h = absurd cc
  cmp_rest_ends e (token.Mark mark.Unequal ∷ rest) h = absurd cc
  cmp_rest_ends e (token.Mark mark.Less ∷ rest) h = absurd cc
  cmp_rest_ends e (token.Mark mark.AtMost ∷ rest) h = absurd cc
  cmp_rest_ends e (token.Mark mark.Greater ∷ rest) h = absurd cc
  cmp_rest_ends e (token.Mark mark.AtLeast ∷ rest) h = absurd cc
  cmp_rest_ends e rest h = refl

  pub cmp_rest_goes : (c : Comparison) (e : Expr) (mid : List Token) → cmp_rest b e (comparison_mark c ∷ mid) ≡ compared_with b c e mid
  unfolding cmp_rest
  cmp_rest_goes comparison.Equal e mid = refl
  cmp_rest_goes comparison.Unequal e mid = refl
  cmp_rest_goes comparison.Less e mid = refl
  cmp_rest_goes comparison.AtMost e mid = refl
  cmp_rest_goes comparison.Greater e mid = refl
  cmp_rest_goes comparison.AtLeast e mid = refl

  cmp_takes : (ts : List Token) → Has (cmp_with b ts) (CmpOf B ts)
  unfolding cmp_with
  cmp_takes ts = then_has (mem_with b ts) _ (MemOf B ts) _ (mem_takes ts) (λ x d. cmp_rest_takes ts x.1 x.0 d)

  cmp_again : (ts : List Token) (e : Expr) (rest : List Token) → CmpOf B ts e rest → EndsCmp rest → cmp_with b ts ≡ Ok (e, rest)
  unfolding cmp_with
  cmp_again ts e rest (mem h) ends = rw (mem_again ts e rest h ends.0) (cmp_rest_ends e rest ends.1)
  cmp_again ts e rest (compared c x y mid h k q) ends = rw (mem_again ts x (comparison_mark c ∷ mid) h (comparison_stops c mid)) (cmp_rest_goes c x mid ∙ rw (mem_again mid y rest k ends.0, q) refl)

  cmp_less : (ts : List Token) (e : Expr) (rest : List Token) → CmpOf B ts e rest → length rest < length ts
  cmp_less ts e rest (mem h) = mem_less ts e rest h
  cmp_less ts e rest (compared c x y mid h k q) = omega (arith, mem_less ts x (comparison_mark c ∷ mid) h, mem_less mid y rest k)

  pub good_cmp : Good (CmpOf B) (cmp_with b) EndsCmp
  good_cmp = record { takes = cmp_takes; again = cmp_again; less = cmp_less }

  cmp_begins : (ts : List Token) (e : Expr) (rest : List Token) → CmpOf B ts e rest → after_not ts ≡ None
  cmp_begins ts e rest (mem h) = mem_begins ts e rest h
  cmp_begins ts e rest (compared c x y mid h k q) = mem_begins ts x (comparison_mark c ∷ mid) h

  -- ---- conditions

  pub good_test : Good (TestOf B) (test_with b) EndsTest
  unfolding TestOf test_with
  good_test = good_chained after_is is_word part NullityOf nullity_at Any is_marks good_nullity (λ _ after. tt) tests_of (CmpOf B) (cmp_with b) EndsCmp good_cmp (λ _. is_stops) (λ k h. tt)

  test_begins : (ts : List Token) (e : Expr) (rest : List Token) → TestOf B ts e rest → after_not ts ≡ None
  unfolding TestOf
  test_begins ts e rest h = cmp_begins ts h.0 h.1 h.3

  not_takes : (ts : List Token) → Has (not_with b ts) (NotOf B ts)
  unfolding not_with
  not_takes (token.Word word.Not ∷ ts) = has_map (b opening.Not ts) (B opening.Not ts) (NotOf B (token.Word word.Not ∷ ts)) ((good opening.Not).takes ts) (λ e rest d. negated ts refl d)
  not_takes ts = has_map (test_with b ts) (TestOf B ts) (NotOf B ts) (good_test.takes ts) (λ e rest h. test h)

  not_skips : (ts : List Token) → after_not ts ≡ None → not_with b ts ≡ test_with b ts
  unfolding not_with
  not_skips (token.Word word.Not ∷ ts) h = absurd cc
  not_skips ts h = refl

  not_again : (ts : List Token) (e : Expr) (rest : List Token) → NotOf B ts e rest → EndsTest rest → not_with b ts ≡ Ok (e, rest)
  unfolding not_with
  not_again ts e rest (negated mid h d) ends = rw h ((good opening.Not).again mid e rest d ends)
  not_again ts e rest (test h) ends = not_skips ts (test_begins ts e rest h) ∙ good_test.again ts e rest h ends

  not_less : (ts : List Token) (e : Expr) (rest : List Token) → NotOf B ts e rest → length rest < length ts
  not_less ts e rest (negated mid h d) = omega (arith, ap length h, (good opening.Not).less mid e rest d)
  not_less ts e rest (test h) = good_test.less ts e rest h

  pub good_not : Good (NotOf B) (not_with b) EndsTest
  good_not = record { takes = not_takes; again = not_again; less = not_less }

  pub good_and : Good (AndOf B) (and_with b) EndsAnd
  unfolding AndOf and_with
  good_and = good_chained after_and and_word part (NotOf B) (not_with b) EndsTest and_marks good_not (λ _. and_stops) and_of (NotOf B) (not_with b) EndsTest good_not (λ _. and_stops) (λ k h. h)

  pub good_or : Good (OrOf B) (or_with b) EndsOr
  unfolding OrOf or_with
  good_or = good_chained after_or or_word part (AndOf B) (and_with b) EndsAnd or_marks good_and (λ _. or_stops) or_of (AndOf B) (and_with b) EndsAnd good_and (λ _. or_stops) (λ k h. h)

  -- ---- what stands behind a token that begins a nesting

  minus_takes : (ts : List Token) → Has (minus_with b ts) (MinusOf B ts)
  unfolding minus_with
  minus_takes (token.Least ∷ ts) = inl (refl, refl)
  minus_takes ts = then_has (un_with b ts) _ (UnOf B ts) _ (un_takes ts) (λ x h. inr (x.0, h, refl))

  minus_skips : (ts : List Token) → after_least ts ≡ None → minus_with b ts ≡ (un_with b ts >>= λ x. Ok (Minus x.0, x.1))
  unfolding minus_with
  minus_skips (token.Least ∷ ts) h = absurd cc
  minus_skips ts h = refl

  minus_again : (ts : List Token) (e : Expr) (rest : List Token) → MinusOf B ts e rest → EndsUn rest → minus_with b ts ≡ Ok (e, rest)
  unfolding minus_with
  minus_again ts e rest (inl h) ends = rw (h.0, h.1) refl
  minus_again ts e rest (inr h) ends = minus_skips ts (un_begins ts h.0 rest h.1).0 ∙ rw (un_again ts h.0 rest h.1 ends, h.2) refl

  minus_less : (ts : List Token) (e : Expr) (rest : List Token) → MinusOf B ts e rest → length rest < length ts
  minus_less ts e rest (inl h) = omega (arith, ap length h.0)
  minus_less ts e rest (inr h) = un_less ts h.0 rest h.1

  pub good_minus : Good (MinusOf B) (minus_with b) EndsUn
  good_minus = record { takes = minus_takes; again = minus_again; less = minus_less }

  pub good_negated : Good (λ ts e rest. (x : Expr) × NotOf B ts x rest × (e ≡ Not x)) (negated_with b) EndsTest
  good_negated = record {
    takes = λ ts. then_has (not_with b ts) _ (NotOf B ts) _ (not_takes ts) (λ x h. (x.0, h, refl));
    again = λ ts e rest h ends. rw (not_again ts h.0 rest h.1 ends, h.2) refl;
    less = λ ts e rest h. not_less ts h.0 rest h.1;
  }

-- at each number of nestings
pub good_behind : (d : ℕ) (o : Opening) → Good (Behind d o) (behind d o) (EndsOf o)
unfolding Behind behind
good_behind zero o = record { takes = λ ts. tt; again = λ ts e rest h ends. absurd h; less = λ ts e rest h. absurd h }
good_behind (suc d) opening.Minus = good_minus (Behind d) (behind d) (good_behind d)
good_behind (suc d) opening.Not = good_negated (Behind d) (behind d) (good_behind d)
good_behind (suc d) opening.Parenthesis = good_or (Behind d) (behind d) (good_behind d)
good_behind (suc d) (opening.Call f) = good_called f

pub good_expr : (d : ℕ) → Good (OrOf (Behind d)) (or_with (behind d)) EndsOr
good_expr d = good_or (Behind d) (behind d) (good_behind d)
