-- Each level fails at the first token at which no text of it can go on, or that passes the limit.
use Rattle.std.proofs.Common.{◌≡◌, ℕ, zero, suc, Bool as Boolean, true, false, List, [], ◌∷◌, length, Option, Some, None, Ok, Err, refl, ap, subst, ◌∙◌, inl, inr, ◌⊎◌}
use Rattle.sql_tokens.specs.declared.fault.Awaited.TheVariants.{Operand, Word}
use Rattle.sql_tokens.specs.declared.fault.Fault.TheVariants.{Syntax}
use Rattle.sql_tokens.specs.Grammar.{Form, ChainedOf, part}
use Rattle.sql_tokens.specs.Reading.{◌>>=◌, Parse}
use Rattle.sql_tokens.proofs.Good.{Any}
use Rattle.sql_tokens.proofs.Told.{Told, told_then, told_map, takes, refuses, stops, behind as taking, otherwise, narrowed, loosened, by_none, by_head}
use Rattle.sql_tokens.proofs.Chains.{chained_told}
use Rattle.sql_tokens.specs.declared.mark.Mark.TheVariants as mark
use Rattle.sql_tokens.specs.declared.token.Name.{Name}
use Rattle.sql_tokens.specs.declared.token.Token.{Token}
use Rattle.sql_tokens.specs.declared.token.Token.TheVariants as token
use Rattle.sql_tokens.specs.declared.word.Word.TheVariants as word
use Rattle.sql_tree.specs.declared.expr.Comparison.{Comparison}
use Rattle.sql_tree.specs.declared.expr.Comparison.TheVariants as comparison
use Rattle.sql_tree.specs.declared.expr.Expr.{Expr, Not, Compare, Member, Minus, Int, Str, Bool, Null, Param, Column, CurrentTimestamp, Moment}
use Rattle.sql_expr.specs.declared.opening.Function.{Function}
use Rattle.sql_expr.specs.declared.opening.Opening.{Opening}
use Rattle.sql_expr.specs.declared.opening.Opening.TheVariants as opening
use Rattle.sql_expr.specs.Grammar.{and_word, bars, comma, is_word, or_word, least, or_of, and_of, tests_of, concat_of, sum_of, product_of, list_of, sum_part, product_part, sign, factor_sign, comparison_mark, function_tree, PrimOf, number, string, truth, falsehood, null, parameter, column, qualified, parenthesis, current, call, moment, UnOf, negative, prim, ProductOf, SumOf, CatOf, ListOf, MemOf, cat, within, without, CmpOf, mem, compared, NullityOf, TestOf, NotOf, negated, test, AndOf, OrOf, MinusOf, Behind}
use Rattle.sql_expr.specs.Reading.{after_or, after_and, after_is, after_comma, after_bars, after_sign, after_factor_sign, close_at, in_at, name_at, string_at, nullity_at, called_at, function_of, call_with, named_with, prim_with, un_with, product_with, sum_with, cat_with, items_with, list_with, member_with, mem_rest, mem_with, compared_with, cmp_rest, cmp_with, test_with, not_with, and_with, or_with, minus_with, negated_with, behind}
use Rattle.sql_expr.proofs.Ends.{EndsUn, EndsProduct, EndsSum, EndsCat, EndsMem, EndsCmp, EndsTest, EndsAnd, EndsOr, EndsItems, EndsOf, close_stops, or_marks, and_marks, is_marks, comma_marks, bars_marks, sign_marks, factor_marks, or_stays, and_stays, is_stays, comma_stays, bars_stay, sign_stays, factor_stays}
use Rattle.sql_expr.proofs.Pieces.{NameOf, StringOf, CloseOf, InOf, CalledOf, Calls, function_found}
use Rattle.sql_expr.proofs.Refusals.{blank, close_told, in_told, name_told, string_told, nullity_told, called_told}

-- a reader and then ")"
abbrev pub Closed : {A : Type 0} → Form Token A → Form Token A
Closed R ts a rest = R ts a (token.Mark mark.Close ∷ rest)

abbrev pub closed : {A : Type 0} → Parse Token A → Parse Token A
closed p ts = p ts >>= λ x. close_at x.1 >>= λ y. Ok (x.0, y.1)

module _ {A : Type 0} (among : Boolean) (R : Form Token A) (p : Parse Token A) (Ends : List Token → Type 0) (ends : (k : List Token) → Ends (token.Mark mark.Close ∷ k)) (told : (ts : List Token) → Told among R p Ends ts (p ts)) where
  Then : A → Form Token A
  Then a mid b rest = (mid ≡ token.Mark mark.Close ∷ rest) × (b ≡ a)

  pub closed_told : (ts : List Token) → Told among (Closed R) (closed p) Any ts (closed p ts)
  unfolding Then
  closed_told ts = told_then among R p Ends Then (λ x. close_at x.1 >>= λ y. Ok (x.0, y.1)) (Closed R) (closed p) Any (λ ts. refl)
      (λ ts mid rest a b d e. rw e.1 (subst (R ts a) e.0 d))
      (λ a. record { more = token.Mark mark.Close ∷ []; tree = a; ends = λ k h. ends k; goes_on = λ k h. (refl, refl) })
      ts (told ts) (λ a mid. told_map true CloseOf close_at Any (λ _. a) (Then a) (λ m. close_at m >>= λ y. Ok (a, y.1)) (λ ts. refl) (λ ts u rest h. (h, refl)) mid (close_told mid))

module _ (B : Opening → Form Token Expr) (b : Opening → Parse Token Expr) (told : (o : Opening) (ts : List Token) → Told false (B o) (b o) (EndsOf o) ts (b o ts))
    (plain : (k : List Token) → B opening.Parenthesis (token.Name blank ∷ k) (Column None []) k) where
  -- ---- operands

  -- what stands behind a name
  NamedOf : Name → Form Token Expr
  NamedOf n ts e rest = PrimOf B (token.Name n ∷ ts) e rest

  call_told : (n : Name) (ts : List Token) (o : Option Function) → function_of n ≡ o → Told true (NamedOf n) (named_with b n) EndsUn (token.Mark mark.Open ∷ ts) (call_with b n o ts)
  unfolding NamedOf named_with
  call_told n ts None e = stops (NamedOf n) (named_with b n) (token.Mark mark.Open ∷ ts) (Column None n.text) (by_head (token.Mark mark.Open) (named_with b n) (λ o. Ok (Column None n.text, o)) (λ more. ap (λ (f : Option Function). call_with b n f more) e)) (λ other. column n refl refl)
  call_told n ts (Some f) e =
      let calls : Calls n (Some f) = subst (Calls n) e (function_found n) in
      taking false (token.Mark mark.Open) (NamedOf n) (B (opening.Call f)) (named_with b n) (b (opening.Call f)) EndsUn ts (b (opening.Call f) ts) (λ other. ap (λ (g : Option Function). call_with b n g other) e) (λ m a rest h. call f n m refl calls h)
      (narrowed false (B (opening.Call f)) (b (opening.Call f)) Any EndsUn (λ k h. tt) ts (b (opening.Call f) ts) (told (opening.Call f) ts))

  -- what stands behind a name and a point
  FieldOf : Name → Form Token Expr
  FieldOf n m e rest = (x : List ℕ) × NameOf m x rest × (e ≡ Column (Some n.text) x)

  field_at : Name → Parse Token Expr
  field_at n m = name_at m >>= λ x. Ok (Column (Some n.text) x.0, x.1)

  named_told : (n : Name) (ts : List Token) → Told true (NamedOf n) (named_with b n) EndsUn ts (named_with b n ts)
  unfolding NamedOf named_with FieldOf field_at
  named_told n (token.Mark mark.Dot ∷ ts) = taking true (token.Mark mark.Dot) (NamedOf n) (FieldOf n) (named_with b n) (field_at n) EndsUn ts (field_at n ts) (λ other. refl)
      (λ m e rest h. qualified n h.1.0 (ap (λ (l : List Token). token.Name n ∷ token.Mark mark.Dot ∷ l) h.1.1) (h.2 ∙ ap (λ (x : List ℕ). Column (Some n.text) x) h.1.2))
      (told_map true NameOf name_at EndsUn (λ x. Column (Some n.text) x) (FieldOf n) (field_at n) (λ ts. refl) (λ ts a rest h. (a, h, refl)) ts (narrowed true NameOf name_at Any EndsUn (λ k h. tt) ts (name_at ts) (name_told ts)))
  named_told n (token.Mark mark.Open ∷ ts) = call_told n ts (function_of n) refl
  named_told n [] = stops (NamedOf n) (named_with b n) [] (Column None n.text) (by_none (named_with b n) (λ o. Ok (Column None n.text, o)) refl) (λ other. column n refl refl)
  named_told n (t ∷ ts) = stops (NamedOf n) (named_with b n) (t ∷ ts) (Column None n.text) (by_head t (named_with b n) (λ o. Ok (Column None n.text, o)) (λ more. refl)) (λ other. column n refl refl)

  -- what stands behind TIMESTAMPTZ
  MomentOf : Form Token Expr
  MomentOf m e rest = (s : List ℕ) × StringOf m s rest × (e ≡ Moment s)

  moment_at : Parse Token Expr
  moment_at m = string_at m >>= λ s. Ok (Moment s.0, s.1)

  moment_told : (ts : List Token) → Told true MomentOf moment_at EndsUn ts (moment_at ts)
  unfolding MomentOf moment_at
  moment_told ts = told_map true StringOf string_at EndsUn (λ s. Moment s) MomentOf moment_at (λ ts. refl) (λ ts a rest h. (a, h, refl)) ts (narrowed true StringOf string_at Any EndsUn (λ k h. tt) ts (string_at ts) (string_told ts))

  inner_told : (ts : List Token) → Told false (Closed (B opening.Parenthesis)) (closed (b opening.Parenthesis)) EndsUn ts (closed (b opening.Parenthesis) ts)
  inner_told ts = narrowed false (Closed (B opening.Parenthesis)) (closed (b opening.Parenthesis)) Any EndsUn (λ k h. tt) ts (closed (b opening.Parenthesis) ts) (closed_told false (B opening.Parenthesis) (b opening.Parenthesis) EndsOr (λ k. (close_stops k).0) (told opening.Parenthesis) ts)

  prim_told : (ts : List Token) → Told true (PrimOf B) (prim_with b) EndsUn ts (prim_with b ts)
  unfolding prim_with NamedOf MomentOf moment_at
  prim_told (token.Number n ∷ ts) = takes (token.Number n) (PrimOf B) (prim_with b) ts (Int n) (λ other. refl) (λ other. number n refl refl)
  prim_told (token.Str s ∷ ts) = takes (token.Str s) (PrimOf B) (prim_with b) ts (Str s) (λ other. refl) (λ other. string s refl refl)
  prim_told (token.Param n ∷ ts) = takes (token.Param n) (PrimOf B) (prim_with b) ts (Param n) (λ other. refl) (λ other. parameter n refl refl)
  prim_told (token.Name n ∷ ts) = taking true (token.Name n) (PrimOf B) (NamedOf n) (prim_with b) (named_with b n) EndsUn ts (named_with b n ts) (λ other. refl) (λ m a rest h. h) (named_told n ts)
  prim_told (token.Mark mark.Open ∷ ts) = taking false (token.Mark mark.Open) (PrimOf B) (Closed (B opening.Parenthesis)) (prim_with b) (closed (b opening.Parenthesis)) EndsUn ts (closed (b opening.Parenthesis) ts) (λ other. refl) (λ m a rest h. parenthesis m refl h) (inner_told ts)
  prim_told (token.Word word.True ∷ ts) = takes (token.Word word.True) (PrimOf B) (prim_with b) ts (Bool true) (λ other. refl) (λ other. truth refl refl)
  prim_told (token.Word word.False ∷ ts) = takes (token.Word word.False) (PrimOf B) (prim_with b) ts (Bool false) (λ other. refl) (λ other. falsehood refl refl)
  prim_told (token.Word word.Null ∷ ts) = takes (token.Word word.Null) (PrimOf B) (prim_with b) ts Null (λ other. refl) (λ other. null refl refl)
  prim_told (token.Word word.CurrentTimestamp ∷ ts) = takes (token.Word word.CurrentTimestamp) (PrimOf B) (prim_with b) ts CurrentTimestamp (λ other. refl) (λ other. current refl refl)
  prim_told (token.Word word.Timestamptz ∷ ts) = taking true (token.Word word.Timestamptz) (PrimOf B) MomentOf (prim_with b) moment_at EndsUn ts (moment_at ts) (λ other. refl) (λ m e rest h. moment h.0 (ap (λ (l : List Token). token.Word word.Timestamptz ∷ l) h.1) h.2) (moment_told ts)
  prim_told [] = refuses (PrimOf B) (prim_with b) EndsUn Operand [] (by_none (prim_with b) (λ o. Err (Syntax (length o) Operand)) refl) (token.Name blank ∷ []) (Column None []) (λ k h. column blank refl refl)
  prim_told (t ∷ ts) = refuses (PrimOf B) (prim_with b) EndsUn Operand (t ∷ ts) (by_head t (prim_with b) (λ o. Err (Syntax (length o) Operand)) (λ more. refl)) (token.Name blank ∷ []) (Column None []) (λ k h. column blank refl refl)

  un_told : (ts : List Token) → Told true (UnOf B) (un_with b) EndsUn ts (un_with b ts)
  unfolding un_with
  un_told (token.Mark mark.Minus ∷ ts) = taking false (token.Mark mark.Minus) (UnOf B) (B opening.Minus) (un_with b) (b opening.Minus) EndsUn ts (b opening.Minus ts) (λ other. refl) (λ m a rest h. negative m refl h) (told opening.Minus ts)
  un_told [] = otherwise (UnOf B) (PrimOf B) (un_with b) (prim_with b) EndsUn [] (prim_with b []) (by_none (un_with b) (prim_with b) refl) (λ m a rest h. prim h) (prim_told [])
  un_told (t ∷ ts) = otherwise (UnOf B) (PrimOf B) (un_with b) (prim_with b) EndsUn (t ∷ ts) (prim_with b (t ∷ ts)) (by_head t (un_with b) (prim_with b) (λ more. refl)) (λ m a rest h. prim h) (prim_told (t ∷ ts))

  -- ---- chains of operators

  product_told : (ts : List Token) → Told true (ProductOf B) (product_with b) EndsProduct ts (product_with b ts)
  unfolding ProductOf product_with
  product_told ts = chained_told true after_factor_sign factor_sign product_part (UnOf B) (un_with b) EndsUn factor_marks un_told refl factor_stays product_of true (UnOf B) (un_with b) EndsUn un_told (λ k h. h) ts

  sum_told : (ts : List Token) → Told true (SumOf B) (sum_with b) EndsSum ts (sum_with b ts)
  unfolding SumOf sum_with
  sum_told ts = chained_told true after_sign sign sum_part (ProductOf B) (product_with b) EndsProduct sign_marks product_told refl sign_stays sum_of true (ProductOf B) (product_with b) EndsProduct product_told (λ k h. h) ts

  cat_told : (ts : List Token) → Told true (CatOf B) (cat_with b) EndsCat ts (cat_with b ts)
  unfolding CatOf cat_with
  cat_told ts = chained_told true after_bars bars part (SumOf B) (sum_with b) EndsSum bars_marks sum_told refl bars_stay concat_of true (SumOf B) (sum_with b) EndsSum sum_told (λ k h. h) ts

  -- ---- lists

  Items : Form Token (List Expr)
  Items = ChainedOf comma part (B opening.Parenthesis) list_of (B opening.Parenthesis)

  items_told : (ts : List Token) → Told false Items (items_with b) EndsItems ts (items_with b ts)
  unfolding Items items_with
  items_told ts = chained_told false after_comma comma part (B opening.Parenthesis) (b opening.Parenthesis) EndsOr comma_marks (told opening.Parenthesis) refl comma_stays list_of false (B opening.Parenthesis) (b opening.Parenthesis) EndsOr (told opening.Parenthesis) (λ k h. h) ts

  -- the shortest list
  one_item : (k : List Token) → ListOf B (token.Mark mark.Open ∷ token.Name blank ∷ token.Mark mark.Close ∷ k) (Column None [] ∷ []) k
  unfolding ListOf
  one_item k = (token.Name blank ∷ token.Mark mark.Close ∷ k, refl, (Column None [], token.Mark mark.Close ∷ k, [], plain (token.Mark mark.Close ∷ k), refl, refl))

  list_told : (ts : List Token) → Told true (ListOf B) (list_with b) Any ts (list_with b ts)
  unfolding Items ListOf list_with
  list_told (token.Mark mark.Open ∷ ts) = taking false (token.Mark mark.Open) (ListOf B) (Closed Items) (list_with b) (closed (items_with b)) Any ts (closed (items_with b) ts) (λ other. refl) (λ m xs rest h. (m, refl, h)) (closed_told false Items (items_with b) EndsItems close_stops items_told ts)
  list_told [] = refuses (ListOf B) (list_with b) Any Word [] (by_none (list_with b) (λ o. Err (Syntax (length o) Word)) refl) (token.Mark mark.Open ∷ token.Name blank ∷ token.Mark mark.Close ∷ []) (Column None [] ∷ []) (λ k h. one_item k)
  list_told (t ∷ ts) = refuses (ListOf B) (list_with b) Any Word (t ∷ ts) (by_head t (list_with b) (λ o. Err (Syntax (length o) Word)) (λ more. refl)) (token.Mark mark.Open ∷ token.Name blank ∷ token.Mark mark.Close ∷ []) (Column None [] ∷ []) (λ k h. one_item k)

  -- a list behind [NOT] IN
  Listed : Expr → Boolean → Form Token Expr
  Listed x denied m e rest = (xs : List Expr) × ListOf B m xs rest × (e ≡ Member x denied xs)

  listed_told : (x : Expr) (denied : Boolean) (ts : List Token) → Told true (Listed x denied) (member_with b x denied) EndsMem ts (member_with b x denied ts)
  unfolding Listed
  listed_told x denied ts = told_map true (ListOf B) (list_with b) EndsMem (Member x denied) (Listed x denied) (member_with b x denied) (λ ts. refl) (λ ts xs rest h. (xs, h, refl)) ts (narrowed true (ListOf B) (list_with b) Any EndsMem (λ k h. tt) ts (list_with b ts) (list_told ts))

  -- IN and a list behind NOT
  InListed : Expr → Form Token Expr
  InListed x m e rest = (k : List Token) × (m ≡ token.Word word.In ∷ k) × Listed x true k e rest

  in_listed : Expr → Parse Token Expr
  in_listed x m = in_at m >>= λ o. member_with b x true o.1

  in_listed_told : (x : Expr) (ts : List Token) → Told true (InListed x) (in_listed x) EndsMem ts (in_listed x ts)
  unfolding InListed in_listed Listed
  in_listed_told x ts = told_then true InOf in_at Any (λ _. Listed x true) (λ o. member_with b x true o.1) (InListed x) (in_listed x) EndsMem (λ ts. refl)
      (λ ts mid rest a e d h. (mid, d, h))
      (λ _. record { more = token.Mark mark.Open ∷ token.Name blank ∷ token.Mark mark.Close ∷ []; tree = Member x true (Column None [] ∷ []); ends = λ k h. tt; goes_on = λ k h. (Column None [] ∷ [], one_item k, refl) })
      ts (in_told ts) (λ _ mid. listed_told x true mid)

  -- what stands behind a value that may be looked for in a list
  MemRest : Expr → Form Token Expr
  MemRest x mid e rest =
      ((mid ≡ rest) × (e ≡ x))
      ⊎ (((m : List Token) × (mid ≡ token.Word word.In ∷ m) × Listed x false m e rest)
      ⊎ ((m : List Token) × (mid ≡ token.Word word.Not ∷ m) × InListed x m e rest))

  rest_told : (x : Expr) (ts : List Token) → Told true (MemRest x) (mem_rest b x) EndsMem ts (mem_rest b x ts)
  unfolding MemRest mem_rest in_listed
  rest_told x (token.Word word.In ∷ ts) = taking true (token.Word word.In) (MemRest x) (Listed x false) (mem_rest b x) (member_with b x false) EndsMem ts (member_with b x false ts) (λ other. refl) (λ m e rest h. inr (inl (m, refl, h))) (listed_told x false ts)
  rest_told x (token.Word word.Not ∷ ts) = taking true (token.Word word.Not) (MemRest x) (InListed x) (mem_rest b x) (in_listed x) EndsMem ts (in_listed x ts) (λ other. refl) (λ m e rest h. inr (inr (m, refl, h))) (in_listed_told x ts)
  rest_told x [] = stops (MemRest x) (mem_rest b x) [] x (by_none (mem_rest b x) (λ o. Ok (x, o)) refl) (λ other. inl (refl, refl))
  rest_told x (t ∷ ts) = stops (MemRest x) (mem_rest b x) (t ∷ ts) x (by_head t (mem_rest b x) (λ o. Ok (x, o)) (λ more. refl)) (λ other. inl (refl, refl))

  mem_built : (ts mid rest : List Token) (x e : Expr) → CatOf B ts x mid → MemRest x mid e rest → MemOf B ts e rest
  unfolding MemRest Listed InListed
  mem_built ts mid rest x e d (inl h) = cat (rw h.1 (subst (CatOf B ts x) h.0 d))
  mem_built ts mid rest x e d (inr (inl h)) = within x h.0 h.2.0 (subst (CatOf B ts x) h.1 d) h.2.1 h.2.2
  mem_built ts mid rest x e d (inr (inr h)) = without x h.2.0 h.2.2.0 (subst (λ (l : List Token). CatOf B ts x (token.Word word.Not ∷ l)) h.2.1 (subst (CatOf B ts x) h.1 d)) h.2.2.1 h.2.2.2

  mem_told : (ts : List Token) → Told true (MemOf B) (mem_with b) EndsMem ts (mem_with b ts)
  unfolding mem_with MemRest
  mem_told ts = told_then true (CatOf B) (cat_with b) EndsCat MemRest (λ x. mem_rest b x.0 x.1) (MemOf B) (mem_with b) EndsMem (λ ts. refl) mem_built
      (λ x. record { more = []; tree = x; ends = λ k h. h.0; goes_on = λ k h. inl (refl, refl) })
      ts (cat_told ts) (λ x mid. rest_told x mid)

  -- ---- comparisons

  Right : Comparison → Expr → Form Token Expr
  Right c x m e rest = (y : Expr) × MemOf B m y rest × (e ≡ Compare c x y)

  right_told : (c : Comparison) (x : Expr) (ts : List Token) → Told true (Right c x) (compared_with b c x) EndsCmp ts (compared_with b c x ts)
  unfolding Right
  right_told c x ts = told_map true (MemOf B) (mem_with b) EndsCmp (λ y. Compare c x y) (Right c x) (compared_with b c x) (λ ts. refl) (λ ts y rest h. (y, h, refl)) ts (narrowed true (MemOf B) (mem_with b) EndsMem EndsCmp (λ k h. h.0) ts (mem_with b ts) (mem_told ts))

  CmpRest : Expr → Form Token Expr
  CmpRest x mid e rest = ((mid ≡ rest) × (e ≡ x)) ⊎ ((c : Comparison) × (m : List Token) × (mid ≡ comparison_mark c ∷ m) × Right c x m e rest)

  cmp_rest_told : (x : Expr) (ts : List Token) → Told true (CmpRest x) (cmp_rest b x) EndsCmp ts (cmp_rest b x ts)
  unfolding CmpRest cmp_rest
  cmp_rest_told x (token.Mark mark.Equal ∷ ts) = taking true (token.Mark mark.Equal) (CmpRest x) (Right comparison.Equal x) (cmp_rest b x) (compared_with b comparison.Equal x) EndsCmp ts (compared_with b comparison.Equal x ts) (λ other. refl) (λ m e rest h. inr (comparison.Equal, m, refl, h)) (right_told comparison.Equal x ts)
  cmp_rest_told x (token.Mark mark.Unequal ∷ ts) = taking true (token.Mark mark.Unequal) (CmpRest x) (Right comparison.Unequal x) (cmp_rest b x) (compared_with b comparison.Unequal x) EndsCmp ts (compared_with b comparison.Unequal x ts) (λ other. refl) (λ m e rest h. inr (comparison.Unequal, m, refl, h)) (right_told comparison.Unequal x ts)
  cmp_rest_told x (token.Mark mark.Less ∷ ts) = taking true (token.Mark mark.Less) (CmpRest x) (Right comparison.Less x) (cmp_rest b x) (compared_with b comparison.Less x) EndsCmp ts (compared_with b comparison.Less x ts) (λ other. refl) (λ m e rest h. inr (comparison.Less, m, refl, h)) (right_told comparison.Less x ts)
  cmp_rest_told x (token.Mark mark.AtMost ∷ ts) = taking true (token.Mark mark.AtMost) (CmpRest x) (Right comparison.AtMost x) (cmp_rest b x) (compared_with b comparison.AtMost x) EndsCmp ts (compared_with b comparison.AtMost x ts) (λ other. refl) (λ m e rest h. inr (comparison.AtMost, m, refl, h)) (right_told comparison.AtMost x ts)
  cmp_rest_told x (token.Mark mark.Greater ∷ ts) = taking true (token.Mark mark.Greater) (CmpRest x) (Right comparison.Greater x) (cmp_rest b x) (compared_with b comparison.Greater x) EndsCmp ts (compared_with b comparison.Greater x ts) (λ other. refl) (λ m e rest h. inr (comparison.Greater, m, refl, h)) (right_told comparison.Greater x ts)
  cmp_rest_told x (token.Mark mark.AtLeast ∷ ts) = taking true (token.Mark mark.AtLeast) (CmpRest x) (Right comparison.AtLeast x) (cmp_rest b x) (compared_with b comparison.AtLeast x) EndsCmp ts (compared_with b comparison.AtLeast x ts) (λ other. refl) (λ m e rest h. inr (comparison.AtLeast, m, refl, h)) (right_told comparison.AtLeast x ts)
  cmp_rest_told x [] = stops (CmpRest x) (cmp_rest b x) [] x (by_none (cmp_rest b x) (λ o. Ok (x, o)) refl) (λ other. inl (refl, refl))
  cmp_rest_told x (t ∷ ts) = stops (CmpRest x) (cmp_rest b x) (t ∷ ts) x (by_head t (cmp_rest b x) (λ o. Ok (x, o)) (λ more. refl)) (λ other. inl (refl, refl))

  cmp_built : (ts mid rest : List Token) (x e : Expr) → MemOf B ts x mid → CmpRest x mid e rest → CmpOf B ts e rest
  unfolding CmpRest Right
  cmp_built ts mid rest x e d (inl h) = mem (rw h.1 (subst (MemOf B ts x) h.0 d))
  cmp_built ts mid rest x e d (inr h) = compared h.0 x h.3.0 h.1 (subst (MemOf B ts x) h.2 d) h.3.1 h.3.2

  cmp_told : (ts : List Token) → Told true (CmpOf B) (cmp_with b) EndsCmp ts (cmp_with b ts)
  unfolding cmp_with CmpRest
  cmp_told ts = told_then true (MemOf B) (mem_with b) EndsMem CmpRest (λ x. cmp_rest b x.0 x.1) (CmpOf B) (cmp_with b) EndsCmp (λ ts. refl) cmp_built
      (λ x. record { more = []; tree = x; ends = λ k h. h.0; goes_on = λ k h. inl (refl, refl) })
      ts (mem_told ts) (λ x mid. cmp_rest_told x mid)

  -- ---- conditions

  test_told : (ts : List Token) → Told true (TestOf B) (test_with b) EndsTest ts (test_with b ts)
  unfolding TestOf test_with
  test_told ts = chained_told true after_is is_word part NullityOf nullity_at Any is_marks nullity_told refl is_stays tests_of true (CmpOf B) (cmp_with b) EndsCmp cmp_told (λ k h. tt) ts

  not_told : (ts : List Token) → Told true (NotOf B) (not_with b) EndsTest ts (not_with b ts)
  unfolding not_with
  not_told (token.Word word.Not ∷ ts) = taking false (token.Word word.Not) (NotOf B) (B opening.Not) (not_with b) (b opening.Not) EndsTest ts (b opening.Not ts) (λ other. refl) (λ m a rest h. negated m refl h) (told opening.Not ts)
  not_told [] = otherwise (NotOf B) (TestOf B) (not_with b) (test_with b) EndsTest [] (test_with b []) (by_none (not_with b) (test_with b) refl) (λ m a rest h. test h) (test_told [])
  not_told (t ∷ ts) = otherwise (NotOf B) (TestOf B) (not_with b) (test_with b) EndsTest (t ∷ ts) (test_with b (t ∷ ts)) (by_head t (not_with b) (test_with b) (λ more. refl)) (λ m a rest h. test h) (test_told (t ∷ ts))

  and_told : (ts : List Token) → Told true (AndOf B) (and_with b) EndsAnd ts (and_with b ts)
  unfolding AndOf and_with
  and_told ts = chained_told true after_and and_word part (NotOf B) (not_with b) EndsTest and_marks not_told refl and_stays and_of true (NotOf B) (not_with b) EndsTest not_told (λ k h. h) ts

  pub or_told : (ts : List Token) → Told true (OrOf B) (or_with b) EndsOr ts (or_with b ts)
  unfolding OrOf or_with
  or_told ts = chained_told true after_or or_word part (AndOf B) (and_with b) EndsAnd or_marks and_told refl or_stays or_of true (AndOf B) (and_with b) EndsAnd and_told (λ k h. h) ts

  -- ---- what stands behind a token that begins a nesting

  Negative : Form Token Expr
  Negative ts e rest = (x : Expr) × UnOf B ts x rest × (e ≡ Minus x)

  negative_at : Parse Token Expr
  negative_at ts = un_with b ts >>= λ x. Ok (Minus x.0, x.1)

  negative_told : (ts : List Token) → Told true Negative negative_at EndsUn ts (negative_at ts)
  unfolding Negative negative_at
  negative_told ts = told_map true (UnOf B) (un_with b) EndsUn (λ x. Minus x) Negative negative_at (λ ts. refl) (λ ts a rest h. (a, h, refl)) ts (un_told ts)

  pub minus_told : (ts : List Token) → Told true (MinusOf B) (minus_with b) EndsUn ts (minus_with b ts)
  unfolding minus_with Negative negative_at
  minus_told (token.Least ∷ ts) = takes token.Least (MinusOf B) (minus_with b) ts (Int least) (λ other. refl) (λ other. inl (refl, refl))
  minus_told [] = otherwise (MinusOf B) Negative (minus_with b) negative_at EndsUn [] (negative_at []) (by_none (minus_with b) negative_at refl) (λ m a rest h. inr h) (negative_told [])
  minus_told (t ∷ ts) = otherwise (MinusOf B) Negative (minus_with b) negative_at EndsUn (t ∷ ts) (negative_at (t ∷ ts)) (by_head t (minus_with b) negative_at (λ more. refl)) (λ m a rest h. inr h) (negative_told (t ∷ ts))

  pub negated_told : (ts : List Token) → Told true (λ ts e rest. (x : Expr) × NotOf B ts x rest × (e ≡ Not x)) (negated_with b) EndsTest ts (negated_with b ts)
  negated_told ts = told_map true (NotOf B) (not_with b) EndsTest (λ x. Not x) (λ ts e rest. (x : Expr) × NotOf B ts x rest × (e ≡ Not x)) (negated_with b) (λ ts. refl) (λ ts a rest h. (a, h, refl)) ts (not_told ts)

-- a name is a text of each level
module _ (B : Opening → Form Token Expr) where
  name_un : (k : List Token) → UnOf B (token.Name blank ∷ k) (Column None []) k
  name_un k = prim (column blank refl refl)

  name_cat : (k : List Token) → CatOf B (token.Name blank ∷ k) (Column None []) k
  unfolding ProductOf SumOf CatOf
  name_cat k =
      let product : ProductOf B (token.Name blank ∷ k) (Column None []) k = (Column None [], k, [], name_un k, refl, refl) in
      let sum : SumOf B (token.Name blank ∷ k) (Column None []) k = (Column None [], k, [], product, refl, refl) in
      (Column None [], k, [], sum, refl, refl)

  name_not : (k : List Token) → NotOf B (token.Name blank ∷ k) (Column None []) k
  unfolding TestOf
  name_not k = test (Column None [], k, [], mem (cat (name_cat k)), refl, refl)

  pub name_or : (k : List Token) → OrOf B (token.Name blank ∷ k) (Column None []) k
  unfolding AndOf OrOf
  name_or k =
      let conjunction : AndOf B (token.Name blank ∷ k) (Column None []) k = (Column None [], k, [], name_not k, refl, refl) in
      (Column None [], k, [], conjunction, refl, refl)

name_behind : (d : ℕ) (k : List Token) → Behind (suc d) opening.Parenthesis (token.Name blank ∷ k) (Column None []) k
unfolding Behind
name_behind d k = name_or (Behind d) k

-- The form may nest one deeper here than the reader, so that a text can always be completed.
pub told_behind : (d : ℕ) (o : Opening) (ts : List Token) → Told false (Behind (suc d) o) (behind d o) (EndsOf o) ts (behind d o ts)
unfolding Behind behind
told_behind zero opening.Minus ts = record { used = []; rest = ts; begun = tt; parts = refl; left_is = refl; same = λ other. refl; more = token.Name blank ∷ []; tree = Minus (Column None []); goes_on = λ k h. inr (Column None [], name_un (Behind zero) k, refl) }
told_behind zero opening.Not ts = record { used = []; rest = ts; begun = tt; parts = refl; left_is = refl; same = λ other. refl; more = token.Name blank ∷ []; tree = Not (Column None []); goes_on = λ k h. (Column None [], name_not (Behind zero) k, refl) }
told_behind zero opening.Parenthesis ts = record { used = []; rest = ts; begun = tt; parts = refl; left_is = refl; same = λ other. refl; more = token.Name blank ∷ []; tree = Column None []; goes_on = λ k h. name_or (Behind zero) k }
told_behind zero (opening.Call f) ts = record { used = []; rest = ts; begun = tt; parts = refl; left_is = refl; same = λ other. refl; more = token.Mark mark.Close ∷ []; tree = function_tree f; goes_on = λ k h. (refl, refl) }
told_behind (suc d) opening.Minus ts = loosened false (MinusOf (Behind (suc d))) (minus_with (behind d)) EndsUn ts (minus_with (behind d) ts) (minus_told (Behind (suc d)) (behind d) (told_behind d) (name_behind d) ts)
told_behind (suc d) opening.Not ts = loosened false (λ ts e rest. (x : Expr) × NotOf (Behind (suc d)) ts x rest × (e ≡ Not x)) (negated_with (behind d)) EndsTest ts (negated_with (behind d) ts) (negated_told (Behind (suc d)) (behind d) (told_behind d) (name_behind d) ts)
told_behind (suc d) opening.Parenthesis ts = loosened false (OrOf (Behind (suc d))) (or_with (behind d)) EndsOr ts (or_with (behind d) ts) (or_told (Behind (suc d)) (behind d) (told_behind d) (name_behind d) ts)
told_behind (suc d) (opening.Call f) ts = loosened false (CalledOf f) (called_at f) Any ts (called_at f ts) (called_told f ts)

pub told_expr : (d : ℕ) (ts : List Token) → Told true (OrOf (Behind (suc d))) (or_with (behind d)) EndsOr ts (or_with (behind d) ts)
told_expr d ts = or_told (Behind (suc d)) (behind d) (told_behind d) (name_behind d) ts
