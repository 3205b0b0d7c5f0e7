-- Where the reader of expressions fails, what it awaits is due; and it fails so behind each beginning of an expression.
use Rattle.std.proofs.Common.{◌≡◌, ℕ, zero, suc, Bool as Boolean, true, false, List, [], ◌∷◌, ◌++◌, length, Option, Some, None, Result, Ok, Err, refl, sym, ap, subst, ◌∙◌, append_assoc, inl, inr, arith, length-append}
use Rattle.sql_tokens.specs.declared.fault.Awaited.{Awaited}
use Rattle.sql_tokens.specs.declared.fault.Awaited.TheVariants.{Operand, Word, Arguments, Close}
use Rattle.sql_tokens.specs.declared.fault.Fault.{Fault}
use Rattle.sql_tokens.specs.declared.fault.Fault.TheVariants.{Syntax}
use Rattle.sql_tokens.specs.Grammar.{Form, part}
use Rattle.sql_tokens.specs.Reading.{◌>>=◌, Parse}
use Rattle.sql_tokens.proofs.Good.{Any, Good}
use Rattle.sql_tokens.specs.declared.mark.Mark.TheVariants as mark
use Rattle.sql_tokens.specs.declared.token.Name.{Name}
use Rattle.sql_tokens.specs.declared.token.Token.{Token}
use Rattle.sql_tokens.specs.declared.token.Token.TheVariants as token
use Rattle.sql_tokens.specs.declared.token.TokenFault.TheVariants as fault
use Rattle.sql_tokens.specs.declared.word.Word.TheVariants as word
use Rattle.sql_tree.specs.declared.expr.Comparison.{Comparison}
use Rattle.sql_tree.specs.declared.expr.Comparison.TheVariants as comparison
use Rattle.sql_tree.specs.declared.expr.Expr.{Expr, Not, Minus, Compare, Member, Column, Moment}
use Rattle.sql_expr.specs.declared.opening.Function.{Function}
use Rattle.sql_expr.specs.declared.opening.Opening.{Opening}
use Rattle.sql_expr.specs.declared.opening.Opening.TheVariants as opening
use Rattle.sql_expr.specs.Grammar.{and_word, bars, comma, is_word, or_word, or_of, and_of, tests_of, concat_of, sum_of, product_of, list_of, sum_part, product_part, sign, factor_sign, comparison_mark, IsPlain, function_word, PrimOf, number, string, truth, falsehood, null, parameter, column, qualified, parenthesis, current, call, moment, UnOf, negative, prim, ProductOf, SumOf, CatOf, ListOf, MemOf, cat, within, without, CmpOf, mem, compared, NullityOf, TestOf, NotOf, negated, test, AndOf, OrOf, MinusOf, Behind}
use Rattle.sql_expr.specs.Reading.{after_or, after_and, after_is, after_comma, after_bars, after_sign, after_factor_sign, close_at, in_at, null_at, name_at, string_at, nullity_at, called_at, function_of, call_with, named_with, prim_with, un_with, product_with, sum_with, cat_with, items_with, list_with, member_with, mem_rest, mem_with, compared_with, cmp_rest, cmp_with, test_with, not_with, and_with, or_with, minus_with, negated_with, behind}
use Rattle.sql_expr.proofs.Ends.{EndsUn, EndsProduct, EndsSum, EndsCat, EndsMem, EndsCmp, EndsTest, EndsAnd, EndsOr, EndsItems, EndsOf, factor_stops, sign_stops, bars_stop, in_stops, not_stops, comparison_stops, is_stops, and_stops, or_stops, comma_stops, or_marks, and_marks, is_marks, comma_marks, bars_marks, sign_marks, factor_marks}
use Rattle.sql_expr.proofs.Pieces.{Calls, function_found, function_again, good_nullity}
use Rattle.sql_expr.proofs.Laws.{good_un, good_list, good_mem, good_cmp, good_not, good_minus, good_negated, good_behind}
use Rattle.sql_profile.specs.Beginnings.{Beginning, AtOnce, ThenBegun, MarkBegun}
use Rattle.sql_profile.specs.Expressions.{PrimBegun, operand, point, inner, arguments, timestamp, UnBegun, minus, unsigned, ProductBegun, SumBegun, CatBegun, EntriesOf, EntriesBegun, ListBegun, InBegun, in_list, not_alone, not_in_list, MemBegun, CmpBegun, NullityBegun, TestBegun, NotBegun, not_begun, test_begun, AndBegun, OrBegun, NestBegun, ExprBegun}
use Rattle.sql_profile.proofs.Begins.{Frame, Halts, at_once, widened, mapped, prefixed, then_halts, Begins, passed, begins_chain}

-- a byte that is no token is of no text
abbrev pub bad : Token
bad = token.Fault fault.Bad

pub bad_ends : EndsOr (bad ∷ [])
bad_ends = ((((((((refl, refl), refl), refl), refl), refl), refl), refl), refl)

-- a token and one more are not one
pub two : {X : Type 0} (r : Result X Fault) (more : List Token) (w v : Awaited) → r ≡ Err (Syntax 1 w) → r ≡ Err (Syntax (suc (length (more ++ bad ∷ []))) v) → ⊥
two r more w v h k = absurd (omega (arith, (let e : 1 ≡ suc (length (more ++ bad ∷ [])) = cc in e), length-append more (bad ∷ [])))

-- ---- one token

close_halts : (ts : List Token) → Halts (AtOnce Close) ts (close_at ts)
close_halts (token.Mark mark.Close ∷ ts) = tt
close_halts ts = at_once Close ts

name_halts : (ts : List Token) → Halts (AtOnce Word) ts (name_at ts)
name_halts (token.Name n ∷ ts) = tt
name_halts ts = at_once Word ts

string_halts : (ts : List Token) → Halts (AtOnce Word) ts (string_at ts)
string_halts (token.Str s ∷ ts) = tt
string_halts ts = at_once Word ts

null_halts : (ts : List Token) → Halts (AtOnce Word) ts (null_at ts)
null_halts (token.Word word.Null ∷ ts) = tt
null_halts ts = at_once Word ts

called_halts : (f : Function) (ts : List Token) → Halts (AtOnce Arguments) ts (called_at f ts)
called_halts f (token.Mark mark.Close ∷ ts) = tt
called_halts f ts = at_once Arguments ts

nullity_halts : (ts : List Token) → Halts NullityBegun ts (nullity_at ts)
nullity_halts (token.Word word.Null ∷ ts) = tt
nullity_halts (token.Word word.Not ∷ ts) = prefixed (token.Word word.Not) (AtOnce Word) NullityBegun ts (null_at ts >>= λ x. Ok (true, x.1)) (λ w u d. inr (u, refl, d)) (mapped (AtOnce Word) ts (null_at ts) (λ x. (true, x.1)) (null_halts ts))
nullity_halts ts = record { used = []; rest = ts; parts = refl; left_is = refl; due = inl (refl, refl) }

nullity_frames : (ts : List Token) (a : Boolean) (rest : List Token) → NullityOf ts a rest → Frame NullityOf ts a rest
nullity_frames ts a rest (inl h) = record { used = token.Word word.Null ∷ []; parts = h.0; framed = λ other. inl (refl, h.1) }
nullity_frames ts a rest (inr h) = record { used = token.Word word.Not ∷ token.Word word.Null ∷ []; parts = h.0; framed = λ other. inr (refl, h.1) }

nullity_met : (w : Awaited) (ts : List Token) → NullityBegun w ts → nullity_at (ts ++ bad ∷ []) ≡ Err (Syntax 1 w)
nullity_met w ts (inl h) = rw (h.0, h.1) refl
nullity_met w ts (inr h) = rw (h.1, h.2.0, h.2.1) refl

begins_nullity : Begins bad NullityOf nullity_at Any NullityBegun
begins_nullity = record { takes = good_nullity.takes; again = good_nullity.again; frames = nullity_frames; halts = nullity_halts; met = nullity_met }

-- what was read, and ")" behind it
abbrev close_behind : {A : Type 0} → Result (A × List Token) Fault → Result (A × List Token) Fault
close_behind r = r >>= λ x. close_at x.1 >>= λ y. Ok (x.0, y.1)

module _ (B : Opening → Form Token Expr) (b : Opening → Parse Token Expr) (D : Opening → Beginning Token) (good : (o : Opening) → Good (B o) (b o) (EndsOf o)) (each : (o : Opening) → Begins bad (B o) (b o) (EndsOf o) (D o)) where
  -- a text, where ")" is due behind it
  closed : {A : Type 0} (R : Form Token A) (p : Parse Token A) (Ends : List Token → Type 0) (E : Beginning Token) → Begins bad R p Ends E → Ends (bad ∷ []) → (w : Awaited) (ts : List Token) → ThenBegun R E (AtOnce Close) w ts
      → close_behind (p (ts ++ bad ∷ [])) ≡ Err (Syntax 1 w)
  closed R p Ends E one ends w ts (inl d) = rw (one.met w ts d) refl
  closed R p Ends E one ends w ts (inr h) =
      let r : R ts h.0 [] = subst (λ (m : List Token). R ts h.0 m) h.3.0 h.2 in
      rw (passed bad R p Ends E one ts h.0 [] (bad ∷ []) r ends, h.3.1) refl

  -- ---- operands

  prim_frames : (ts : List Token) (e : Expr) (rest : List Token) → PrimOf B ts e rest → Frame (PrimOf B) ts e rest
  prim_frames ts e rest (number n h k) = record { used = token.Number n ∷ []; parts = h; framed = λ other. number n refl k }
  prim_frames ts e rest (string s h k) = record { used = token.Str s ∷ []; parts = h; framed = λ other. string s refl k }
  prim_frames ts e rest (truth h k) = record { used = token.Word word.True ∷ []; parts = h; framed = λ other. truth refl k }
  prim_frames ts e rest (falsehood h k) = record { used = token.Word word.False ∷ []; parts = h; framed = λ other. falsehood refl k }
  prim_frames ts e rest (null h k) = record { used = token.Word word.Null ∷ []; parts = h; framed = λ other. null refl k }
  prim_frames ts e rest (parameter n h k) = record { used = token.Param n ∷ []; parts = h; framed = λ other. parameter n refl k }
  prim_frames ts e rest (column n h k) = record { used = token.Name n ∷ []; parts = h; framed = λ other. column n refl k }
  prim_frames ts e rest (qualified q n h k) = record { used = token.Name q ∷ token.Mark mark.Dot ∷ token.Name n ∷ []; parts = h; framed = λ other. qualified q n refl k }
  prim_frames ts e rest (parenthesis mid h d) =
      let f = (each opening.Parenthesis).frames mid e (token.Mark mark.Close ∷ rest) d in
      record {
        used = token.Mark mark.Open ∷ (f.used ++ token.Mark mark.Close ∷ []);
        parts = h ∙ ap (λ (l : List Token). token.Mark mark.Open ∷ l) (f.parts ∙ sym (append_assoc f.used (token.Mark mark.Close ∷ []) rest));
        framed = λ other. parenthesis ((f.used ++ token.Mark mark.Close ∷ []) ++ other) refl (subst (λ (l : List Token). B opening.Parenthesis l e (token.Mark mark.Close ∷ other)) (sym (append_assoc f.used (token.Mark mark.Close ∷ []) other)) (f.framed (token.Mark mark.Close ∷ other)));
      }
  prim_frames ts e rest (current h k) = record { used = token.Word word.CurrentTimestamp ∷ []; parts = h; framed = λ other. current refl k }
  prim_frames ts e rest (call g n mid h plain d) =
      let f = (each (opening.Call g)).frames mid e rest d in
      record { used = token.Name n ∷ token.Mark mark.Open ∷ f.used; parts = h ∙ ap (λ (l : List Token). token.Name n ∷ token.Mark mark.Open ∷ l) f.parts; framed = λ other. call g n (f.used ++ other) refl plain (f.framed other) }
  prim_frames ts e rest (moment s h k) = record { used = token.Word word.Timestamptz ∷ token.Str s ∷ []; parts = h; framed = λ other. moment s refl k }

  -- what begins behind a name
  Named : Name → Beginning Token
  Named n w u = PrimBegun B D w (token.Name n ∷ u)

  call_halts : (n : Name) (ts : List Token) (f : Option Function) → Calls n f → Halts (Named n) (token.Mark mark.Open ∷ ts) (call_with b n f ts)
  unfolding Named
  call_halts n ts None h = tt
  call_halts n ts (Some f) h = prefixed (token.Mark mark.Open) (D (opening.Call f)) (Named n) ts (b (opening.Call f) ts) (λ w u d. arguments f n u refl h d) ((each (opening.Call f)).halts ts)

  named_halts : (n : Name) (ts : List Token) → Halts (Named n) ts (named_with b n ts)
  unfolding named_with Named
  named_halts n (token.Mark mark.Dot ∷ ts) = prefixed (token.Mark mark.Dot) (AtOnce Word) (Named n) ts (name_at ts >>= λ m. Ok (Column (Some n.text) m.0, m.1)) (λ w u d. point n u refl d) (mapped (AtOnce Word) ts (name_at ts) (λ m. (Column (Some n.text) m.0, m.1)) (name_halts ts))
  named_halts n (token.Mark mark.Open ∷ ts) = call_halts n ts (function_of n) (function_found n)
  named_halts n ts = tt

  Inner : Beginning Token
  Inner = ThenBegun (B opening.Parenthesis) (D opening.Parenthesis) (AtOnce Close)

  inner_halts : (ts : List Token) → Halts Inner ts (close_behind (b opening.Parenthesis ts))
  unfolding Inner
  inner_halts ts = then_halts (B opening.Parenthesis) (D opening.Parenthesis) (AtOnce Close) (each opening.Parenthesis).frames ts (b opening.Parenthesis ts) (λ x. close_at x.1 >>= λ y. Ok (x.0, y.1)) ((each opening.Parenthesis).takes ts) ((each opening.Parenthesis).halts ts)
      (λ a mid. mapped (AtOnce Close) mid (close_at mid) (λ y. (a, y.1)) (close_halts mid))

  prim_halts : (ts : List Token) → Halts (PrimBegun B D) ts (prim_with b ts)
  unfolding prim_with Named Inner
  prim_halts (token.Number n ∷ ts) = tt
  prim_halts (token.Str s ∷ ts) = tt
  prim_halts (token.Param n ∷ ts) = tt
  prim_halts (token.Name n ∷ ts) = prefixed (token.Name n) (Named n) (PrimBegun B D) ts (named_with b n ts) (λ w u d. d) (named_halts n ts)
  prim_halts (token.Mark mark.Open ∷ ts) = prefixed (token.Mark mark.Open) Inner (PrimBegun B D) ts (close_behind (b opening.Parenthesis ts)) (λ w u d. inner u refl d) (inner_halts ts)
  prim_halts (token.Word word.True ∷ ts) = tt
  prim_halts (token.Word word.False ∷ ts) = tt
  prim_halts (token.Word word.Null ∷ ts) = tt
  prim_halts (token.Word word.CurrentTimestamp ∷ ts) = tt
  prim_halts (token.Word word.Timestamptz ∷ ts) = prefixed (token.Word word.Timestamptz) (AtOnce Word) (PrimBegun B D) ts (string_at ts >>= λ s. Ok (Moment s.0, s.1)) (λ w u d. timestamp u refl d) (mapped (AtOnce Word) ts (string_at ts) (λ s. (Moment s.0, s.1)) (string_halts ts))
  prim_halts ts = record { used = []; rest = ts; parts = refl; left_is = refl; due = operand (refl, refl) }

  field_met : (n : Name) (w : Awaited) (mid : List Token) → AtOnce Word w mid → named_with b n (token.Mark mark.Dot ∷ (mid ++ bad ∷ [])) ≡ Err (Syntax 1 w)
  unfolding named_with
  field_met n w mid k = rw (k.0, k.1) refl

  call_met : (f : Function) (n : Name) (w : Awaited) (mid : List Token) → IsPlain (function_word f) n → D (opening.Call f) w mid → named_with b n (token.Mark mark.Open ∷ (mid ++ bad ∷ [])) ≡ Err (Syntax 1 w)
  unfolding named_with
  call_met f n w mid plain d = ap (λ (o : Option Function). call_with b n o (mid ++ bad ∷ [])) (function_again f n plain) ∙ (each (opening.Call f)).met w mid d

  prim_met : (w : Awaited) (ts : List Token) → PrimBegun B D w ts → prim_with b (ts ++ bad ∷ []) ≡ Err (Syntax 1 w)
  unfolding prim_with
  prim_met w ts (operand h) = rw (h.0, h.1) refl
  prim_met w ts (point n mid h k) = rw h (field_met n w mid k)
  prim_met w ts (inner mid h d) = rw h (closed (B opening.Parenthesis) (b opening.Parenthesis) EndsOr (D opening.Parenthesis) (each opening.Parenthesis) bad_ends w mid d)
  prim_met w ts (arguments f n mid h plain d) = rw h (call_met f n w mid plain d)
  prim_met w ts (timestamp mid h k) = rw (h, k.0, k.1) refl

  un_frames : (ts : List Token) (e : Expr) (rest : List Token) → UnOf B ts e rest → Frame (UnOf B) ts e rest
  un_frames ts e rest (negative mid h d) =
      let f = (each opening.Minus).frames mid e rest d in
      record { used = token.Mark mark.Minus ∷ f.used; parts = h ∙ ap (λ (l : List Token). token.Mark mark.Minus ∷ l) f.parts; framed = λ other. negative (f.used ++ other) refl (f.framed other) }
  un_frames ts e rest (prim h) = let f = prim_frames ts e rest h in record { used = f.used; parts = f.parts; framed = λ other. prim (f.framed other) }

  un_halts : (ts : List Token) → Halts (UnBegun B D) ts (un_with b ts)
  unfolding un_with
  un_halts (token.Mark mark.Minus ∷ ts) = prefixed (token.Mark mark.Minus) (D opening.Minus) (UnBegun B D) ts (b opening.Minus ts) (λ w u d. minus u refl d) ((each opening.Minus).halts ts)
  un_halts ts = widened (PrimBegun B D) (UnBegun B D) ts (prim_with b ts) (λ w u d. unsigned d) (prim_halts ts)

  un_skips : (w : Awaited) (ts : List Token) → PrimBegun B D w ts → un_with b (ts ++ bad ∷ []) ≡ prim_with b (ts ++ bad ∷ [])
  unfolding un_with
  un_skips w ts (operand h) = rw h.0 refl
  un_skips w ts (point n mid h k) = rw h refl
  un_skips w ts (inner mid h d) = rw h refl
  un_skips w ts (arguments f n mid h plain d) = rw h refl
  un_skips w ts (timestamp mid h k) = rw h refl

  un_met : (w : Awaited) (ts : List Token) → UnBegun B D w ts → un_with b (ts ++ bad ∷ []) ≡ Err (Syntax 1 w)
  unfolding un_with
  un_met w ts (minus mid h d) = rw h ((each opening.Minus).met w mid d)
  un_met w ts (unsigned h) = un_skips w ts h ∙ prim_met w ts h

  begins_un : Begins bad (UnOf B) (un_with b) EndsUn (UnBegun B D)
  begins_un = record { takes = (good_un B b good).takes; again = (good_un B b good).again; frames = un_frames; halts = un_halts; met = un_met }

  -- ---- chains of operators

  begins_product : Begins bad (ProductOf B) (product_with b) EndsProduct (ProductBegun B D)
  unfolding ProductOf product_with ProductBegun
  begins_product = begins_chain bad after_factor_sign factor_sign product_part (UnOf B) (un_with b) EndsUn (UnBegun B D) product_of (UnOf B) (un_with b) EndsUn (UnBegun B D) factor_marks begins_un begins_un factor_stops factor_stops (λ k h. h)

  begins_sum : Begins bad (SumOf B) (sum_with b) EndsSum (SumBegun B D)
  unfolding SumOf sum_with SumBegun
  begins_sum = begins_chain bad after_sign sign sum_part (ProductOf B) (product_with b) EndsProduct (ProductBegun B D) sum_of (ProductOf B) (product_with b) EndsProduct (ProductBegun B D) sign_marks begins_product begins_product sign_stops sign_stops (λ k h. h)

  begins_cat : Begins bad (CatOf B) (cat_with b) EndsCat (CatBegun B D)
  unfolding CatOf cat_with CatBegun
  begins_cat = begins_chain bad after_bars bars part (SumOf B) (sum_with b) EndsSum (SumBegun B D) concat_of (SumOf B) (sum_with b) EndsSum (SumBegun B D) bars_marks begins_sum begins_sum (λ _. bars_stop) (λ _. bars_stop) (λ k h. h)

  -- ---- lists

  begins_entries : Begins bad (EntriesOf B) (items_with b) EndsItems (EntriesBegun B D)
  unfolding items_with
  begins_entries = begins_chain bad after_comma comma part (B opening.Parenthesis) (b opening.Parenthesis) EndsOr (D opening.Parenthesis) list_of (B opening.Parenthesis) (b opening.Parenthesis) EndsOr (D opening.Parenthesis) comma_marks (each opening.Parenthesis) (each opening.Parenthesis) (λ _. comma_stops) (λ _. comma_stops) (λ k h. h)

  list_frames : (ts : List Token) (xs : List Expr) (rest : List Token) → ListOf B ts xs rest → Frame (ListOf B) ts xs rest
  unfolding ListOf
  list_frames ts xs rest h =
      let f = begins_entries.frames h.0 xs (token.Mark mark.Close ∷ rest) h.2 in
      record {
        used = token.Mark mark.Open ∷ (f.used ++ token.Mark mark.Close ∷ []);
        parts = h.1 ∙ ap (λ (l : List Token). token.Mark mark.Open ∷ l) (f.parts ∙ sym (append_assoc f.used (token.Mark mark.Close ∷ []) rest));
        framed = λ other. ((f.used ++ token.Mark mark.Close ∷ []) ++ other, refl, subst (λ (l : List Token). EntriesOf B l xs (token.Mark mark.Close ∷ other)) (sym (append_assoc f.used (token.Mark mark.Close ∷ []) other)) (f.framed (token.Mark mark.Close ∷ other)));
      }

  Closing : Beginning Token
  Closing = ThenBegun (EntriesOf B) (EntriesBegun B D) (AtOnce Close)

  list_halts : (ts : List Token) → Halts (ListBegun B D) ts (list_with b ts)
  unfolding list_with ListBegun Closing
  list_halts (token.Mark mark.Open ∷ ts) = prefixed (token.Mark mark.Open) Closing (ListBegun B D) ts (close_behind (items_with b ts)) (λ w u d. inr (u, refl, d))
      (then_halts (EntriesOf B) (EntriesBegun B D) (AtOnce Close) begins_entries.frames ts (items_with b ts) (λ y. close_at y.1 >>= λ z. Ok (y.0, z.1)) (begins_entries.takes ts) (begins_entries.halts ts) (λ a mid. mapped (AtOnce Close) mid (close_at mid) (λ z. (a, z.1)) (close_halts mid)))
  list_halts ts = record { used = []; rest = ts; parts = refl; left_is = refl; due = inl (refl, refl) }

  list_met : (w : Awaited) (ts : List Token) → ListBegun B D w ts → list_with b (ts ++ bad ∷ []) ≡ Err (Syntax 1 w)
  unfolding list_with ListBegun
  list_met w ts (inl h) = rw (h.0, h.1) refl
  list_met w ts (inr h) = rw h.1 (closed (EntriesOf B) (items_with b) EndsItems (EntriesBegun B D) begins_entries (bad_ends, refl) w h.0 h.2)

  begins_list : Begins bad (ListOf B) (list_with b) Any (ListBegun B D)
  begins_list = record { takes = (good_list B b good).takes; again = (good_list B b good).again; frames = list_frames; halts = list_halts; met = list_met }

  -- ---- [NOT] IN

  -- behind NOT
  Denied : Beginning Token
  Denied w u = InBegun B D w (token.Word word.Not ∷ u)

  denied_halts : (e : Expr) (ts : List Token) → Halts Denied ts (in_at ts >>= λ o. member_with b e true o.1)
  unfolding Denied
  denied_halts e (token.Word word.In ∷ ts) = prefixed (token.Word word.In) (ListBegun B D) Denied ts (member_with b e true ts) (λ w u d. not_in_list u refl d) (mapped (ListBegun B D) ts (list_with b ts) (λ l. (Member e true l.0, l.1)) (list_halts ts))
  denied_halts e ts = record { used = []; rest = ts; parts = refl; left_is = refl; due = not_alone [] refl (refl, refl) }

  rest_halts : (e : Expr) (ts : List Token) → Halts (InBegun B D) ts (mem_rest b e ts)
  unfolding mem_rest Denied
  rest_halts e (token.Word word.In ∷ ts) = prefixed (token.Word word.In) (ListBegun B D) (InBegun B D) ts (member_with b e false ts) (λ w u d. in_list u refl d) (mapped (ListBegun B D) ts (list_with b ts) (λ l. (Member e false l.0, l.1)) (list_halts ts))
  rest_halts e (token.Word word.Not ∷ ts) = prefixed (token.Word word.Not) Denied (InBegun B D) ts (in_at ts >>= λ o. member_with b e true o.1) (λ w u d. d) (denied_halts e ts)
  rest_halts e ts = tt

  rest_met : (e : Expr) (w : Awaited) (ts : List Token) → InBegun B D w ts → mem_rest b e (ts ++ bad ∷ []) ≡ Err (Syntax 1 w)
  unfolding mem_rest
  rest_met e w ts (in_list mid h d) = rw (h, list_met w mid d) refl
  rest_met e w ts (not_alone mid h d) = rw (h, d.0, d.1) refl
  rest_met e w ts (not_in_list mid h d) = rw (h, list_met w mid d) refl

  in_starts : (w : Awaited) (ts : List Token) → InBegun B D w ts → EndsCat (ts ++ bad ∷ [])
  in_starts w ts (in_list mid h d) = subst (λ (l : List Token). EndsCat (l ++ bad ∷ [])) (sym h) (in_stops (mid ++ bad ∷ []))
  in_starts w ts (not_alone mid h d) = subst (λ (l : List Token). EndsCat (l ++ bad ∷ [])) (sym h) (not_stops (mid ++ bad ∷ []))
  in_starts w ts (not_in_list mid h d) = subst (λ (l : List Token). EndsCat (l ++ bad ∷ [])) (sym h) (not_stops (token.Word word.In ∷ (mid ++ bad ∷ [])))

  mem_frames : (ts : List Token) (e : Expr) (rest : List Token) → MemOf B ts e rest → Frame (MemOf B) ts e rest
  mem_frames ts e rest (cat h) = let f = begins_cat.frames ts e rest h in record { used = f.used; parts = f.parts; framed = λ other. cat (f.framed other) }
  mem_frames ts e rest (within x mid xs h k q) =
      let f = begins_cat.frames ts x (token.Word word.In ∷ mid) h in
      let g = list_frames mid xs rest k in
      record {
        used = f.used ++ token.Word word.In ∷ g.used;
        parts = f.parts ∙ ap (λ (l : List Token). f.used ++ token.Word word.In ∷ l) g.parts ∙ sym (append_assoc f.used (token.Word word.In ∷ g.used) rest);
        framed = λ other. within x (g.used ++ other) xs (subst (λ (l : List Token). CatOf B l x (token.Word word.In ∷ (g.used ++ other))) (sym (append_assoc f.used (token.Word word.In ∷ g.used) other)) (f.framed (token.Word word.In ∷ (g.used ++ other)))) (g.framed other) q;
      }
  mem_frames ts e rest (without x mid xs h k q) =
      let f = begins_cat.frames ts x (token.Word word.Not ∷ token.Word word.In ∷ mid) h in
      let g = list_frames mid xs rest k in
      record {
        used = f.used ++ token.Word word.Not ∷ token.Word word.In ∷ g.used;
        parts = f.parts ∙ ap (λ (l : List Token). f.used ++ token.Word word.Not ∷ token.Word word.In ∷ l) g.parts ∙ sym (append_assoc f.used (token.Word word.Not ∷ token.Word word.In ∷ g.used) rest);
        framed = λ other. without x (g.used ++ other) xs (subst (λ (l : List Token). CatOf B l x (token.Word word.Not ∷ token.Word word.In ∷ (g.used ++ other))) (sym (append_assoc f.used (token.Word word.Not ∷ token.Word word.In ∷ g.used) other)) (f.framed (token.Word word.Not ∷ token.Word word.In ∷ (g.used ++ other)))) (g.framed other) q;
      }

  mem_halts : (ts : List Token) → Halts (MemBegun B D) ts (mem_with b ts)
  unfolding mem_with MemBegun
  mem_halts ts = then_halts (CatOf B) (CatBegun B D) (InBegun B D) begins_cat.frames ts (cat_with b ts) (λ x. mem_rest b x.0 x.1) (begins_cat.takes ts) (begins_cat.halts ts) (λ e mid. rest_halts e mid)

  mem_met : (w : Awaited) (ts : List Token) → MemBegun B D w ts → mem_with b (ts ++ bad ∷ []) ≡ Err (Syntax 1 w)
  unfolding mem_with MemBegun
  mem_met w ts (inl d) = rw (begins_cat.met w ts d) refl
  mem_met w ts (inr h) = rw (passed bad (CatOf B) (cat_with b) EndsCat (CatBegun B D) begins_cat ts h.0 h.1 (bad ∷ []) h.2 (in_starts w h.1 h.3)) (rest_met h.0 w h.1 h.3)

  begins_mem : Begins bad (MemOf B) (mem_with b) EndsMem (MemBegun B D)
  begins_mem = record { takes = (good_mem B b good).takes; again = (good_mem B b good).again; frames = mem_frames; halts = mem_halts; met = mem_met }

  -- ---- comparisons

  Right : Beginning Token
  Right = MarkBegun comparison_mark (λ _. MemBegun B D)

  right_halts : (c : Comparison) (e : Expr) (ts : List Token) → Halts Right (comparison_mark c ∷ ts) (compared_with b c e ts)
  unfolding Right
  right_halts c e ts = prefixed (comparison_mark c) (MemBegun B D) Right ts (compared_with b c e ts) (λ w u d. (c, u, refl, d)) (mapped (MemBegun B D) ts (mem_with b ts) (λ y. (Compare c e y.0, y.1)) (mem_halts ts))

  cmp_rest_halts : (e : Expr) (ts : List Token) → Halts Right ts (cmp_rest b e ts)
  unfolding cmp_rest
  cmp_rest_halts e (token.Mark mark.Equal ∷ ts) = right_halts comparison.Equal e ts
  cmp_rest_halts e (token.Mark mark.Unequal ∷ ts) = right_halts comparison.Unequal e ts
  cmp_rest_halts e (token.Mark mark.Less ∷ ts) = right_halts comparison.Less e ts
  cmp_rest_halts e (token.Mark mark.AtMost ∷ ts) = right_halts comparison.AtMost e ts
  cmp_rest_halts e (token.Mark mark.Greater ∷ ts) = right_halts comparison.Greater e ts
  cmp_rest_halts e (token.Mark mark.AtLeast ∷ ts) = right_halts comparison.AtLeast e ts
  cmp_rest_halts e ts = tt

  cmp_frames : (ts : List Token) (e : Expr) (rest : List Token) → CmpOf B ts e rest → Frame (CmpOf B) ts e rest
  cmp_frames ts e rest (mem h) = let f = mem_frames ts e rest h in record { used = f.used; parts = f.parts; framed = λ other. mem (f.framed other) }
  cmp_frames ts e rest (compared c x y mid h k q) =
      let f = mem_frames ts x (comparison_mark c ∷ mid) h in
      let g = mem_frames mid y rest k in
      record {
        used = f.used ++ comparison_mark c ∷ g.used;
        parts = f.parts ∙ ap (λ (l : List Token). f.used ++ comparison_mark c ∷ l) g.parts ∙ sym (append_assoc f.used (comparison_mark c ∷ g.used) rest);
        framed = λ other. compared c x y (g.used ++ other) (subst (λ (l : List Token). MemOf B l x (comparison_mark c ∷ (g.used ++ other))) (sym (append_assoc f.used (comparison_mark c ∷ g.used) other)) (f.framed (comparison_mark c ∷ (g.used ++ other)))) (g.framed other) q;
      }

  cmp_halts : (ts : List Token) → Halts (CmpBegun B D) ts (cmp_with b ts)
  unfolding cmp_with CmpBegun Right
  cmp_halts ts = then_halts (MemOf B) (MemBegun B D) Right mem_frames ts (mem_with b ts) (λ x. cmp_rest b x.0 x.1) (begins_mem.takes ts) (mem_halts ts) (λ e mid. cmp_rest_halts e mid)

  right_goes : (c : Comparison) (e : Expr) (mid : List Token) → cmp_rest b e (comparison_mark c ∷ mid) ≡ compared_with b c e mid
  unfolding cmp_rest
  right_goes comparison.Equal e mid = refl
  right_goes comparison.Unequal e mid = refl
  right_goes comparison.Less e mid = refl
  right_goes comparison.AtMost e mid = refl
  right_goes comparison.Greater e mid = refl
  right_goes comparison.AtLeast e mid = refl

  right_met : (e : Expr) (w : Awaited) (ts : List Token) (c : Comparison) (mid : List Token) → ts ≡ comparison_mark c ∷ mid → MemBegun B D w mid → cmp_rest b e (ts ++ bad ∷ []) ≡ Err (Syntax 1 w)
  right_met e w ts c mid h d =
      ap (λ (l : List Token). cmp_rest b e (l ++ bad ∷ [])) h ∙ right_goes c e (mid ++ bad ∷ []) ∙ ap (λ (r : Result (Expr × List Token) Fault). r >>= λ y. Ok (Compare c e y.0, y.1)) (mem_met w mid d)

  cmp_met : (w : Awaited) (ts : List Token) → CmpBegun B D w ts → cmp_with b (ts ++ bad ∷ []) ≡ Err (Syntax 1 w)
  unfolding cmp_with CmpBegun
  cmp_met w ts (inl d) = rw (mem_met w ts d) refl
  cmp_met w ts (inr h) =
      let ends : EndsMem (h.1 ++ bad ∷ []) = subst (λ (l : List Token). EndsMem (l ++ bad ∷ [])) (sym h.3.2) (comparison_stops h.3.0 (h.3.1 ++ bad ∷ [])) in
      rw (passed bad (MemOf B) (mem_with b) EndsMem (MemBegun B D) begins_mem ts h.0 h.1 (bad ∷ []) h.2 ends) (right_met h.0 w h.1 h.3.0 h.3.1 h.3.2 h.3.3)

  begins_cmp : Begins bad (CmpOf B) (cmp_with b) EndsCmp (CmpBegun B D)
  begins_cmp = record { takes = (good_cmp B b good).takes; again = (good_cmp B b good).again; frames = cmp_frames; halts = cmp_halts; met = cmp_met }

  -- ---- conditions

  begins_test : Begins bad (TestOf B) (test_with b) EndsTest (TestBegun B D)
  unfolding TestOf test_with TestBegun
  begins_test = begins_chain bad after_is is_word part NullityOf nullity_at Any NullityBegun tests_of (CmpOf B) (cmp_with b) EndsCmp (CmpBegun B D) is_marks begins_nullity begins_cmp (λ _ after. tt) (λ _. is_stops) (λ k h. tt)

  not_frames : (ts : List Token) (e : Expr) (rest : List Token) → NotOf B ts e rest → Frame (NotOf B) ts e rest
  not_frames ts e rest (negated mid h d) =
      let f = (each opening.Not).frames mid e rest d in
      record { used = token.Word word.Not ∷ f.used; parts = h ∙ ap (λ (l : List Token). token.Word word.Not ∷ l) f.parts; framed = λ other. negated (f.used ++ other) refl (f.framed other) }
  not_frames ts e rest (test h) = let f = begins_test.frames ts e rest h in record { used = f.used; parts = f.parts; framed = λ other. test (f.framed other) }

  not_halts : (ts : List Token) → Halts (NotBegun B D) ts (not_with b ts)
  unfolding not_with
  not_halts (token.Word word.Not ∷ ts) = prefixed (token.Word word.Not) (D opening.Not) (NotBegun B D) ts (b opening.Not ts) (λ w u d. not_begun u refl d) ((each opening.Not).halts ts)
  not_halts ts = widened (TestBegun B D) (NotBegun B D) ts (test_with b ts) (λ w u d. test_begun d) (begins_test.halts ts)

  no_not : (after : List Token) → test_with b (token.Word word.Not ∷ after) ≡ Err (Syntax (suc (length after)) Operand)
  unfolding prim_with un_with product_with sum_with cat_with mem_with cmp_with test_with
  no_not after = refl

  test_met : (w : Awaited) (ts : List Token) → test_with b (ts ++ bad ∷ []) ≡ Err (Syntax 1 w) → not_with b (ts ++ bad ∷ []) ≡ Err (Syntax 1 w)
  unfolding not_with
  test_met w [] h = h
  test_met w (token.Word word.Not ∷ ts) h = absurd (two (test_with b (token.Word word.Not ∷ (ts ++ bad ∷ []))) ts w Operand h (no_not (ts ++ bad ∷ [])))
  test_met w (t ∷ ts) h = h

  not_met : (w : Awaited) (ts : List Token) → NotBegun B D w ts → not_with b (ts ++ bad ∷ []) ≡ Err (Syntax 1 w)
  unfolding not_with
  not_met w ts (not_begun mid h d) = rw h ((each opening.Not).met w mid d)
  not_met w ts (test_begun h) = test_met w ts (begins_test.met w ts h)

  begins_not : Begins bad (NotOf B) (not_with b) EndsTest (NotBegun B D)
  begins_not = record { takes = (good_not B b good).takes; again = (good_not B b good).again; frames = not_frames; halts = not_halts; met = not_met }

  begins_and : Begins bad (AndOf B) (and_with b) EndsAnd (AndBegun B D)
  unfolding AndOf and_with AndBegun
  begins_and = begins_chain bad after_and and_word part (NotOf B) (not_with b) EndsTest (NotBegun B D) and_of (NotOf B) (not_with b) EndsTest (NotBegun B D) and_marks begins_not begins_not (λ _. and_stops) (λ _. and_stops) (λ k h. h)

  pub begins_or : Begins bad (OrOf B) (or_with b) EndsOr (OrBegun B D)
  unfolding OrOf or_with OrBegun
  begins_or = begins_chain bad after_or or_word part (AndOf B) (and_with b) EndsAnd (AndBegun B D) or_of (AndOf B) (and_with b) EndsAnd (AndBegun B D) or_marks begins_and begins_and (λ _. or_stops) (λ _. or_stops) (λ k h. h)

  -- ---- what stands behind a token that begins a nesting

  minus_frames : (ts : List Token) (e : Expr) (rest : List Token) → MinusOf B ts e rest → Frame (MinusOf B) ts e rest
  minus_frames ts e rest (inl h) = record { used = token.Least ∷ []; parts = h.0; framed = λ other. inl (refl, h.1) }
  minus_frames ts e rest (inr h) = let f = un_frames ts h.0 rest h.1 in record { used = f.used; parts = f.parts; framed = λ other. inr (h.0, f.framed other, h.2) }

  minus_halts : (ts : List Token) → Halts (UnBegun B D) ts (minus_with b ts)
  unfolding minus_with
  minus_halts (token.Least ∷ ts) = tt
  minus_halts ts = mapped (UnBegun B D) ts (un_with b ts) (λ x. (Minus x.0, x.1)) (un_halts ts)

  no_least : (after : List Token) → un_with b (token.Least ∷ after) ≡ Err (Syntax (suc (length after)) Operand)
  unfolding prim_with un_with
  no_least after = refl

  minus_met : (w : Awaited) (ts : List Token) → un_with b (ts ++ bad ∷ []) ≡ Err (Syntax 1 w) → minus_with b (ts ++ bad ∷ []) ≡ Err (Syntax 1 w)
  unfolding minus_with
  minus_met w [] h = rw h refl
  minus_met w (token.Least ∷ ts) h = absurd (two (un_with b (token.Least ∷ (ts ++ bad ∷ []))) ts w Operand h (no_least (ts ++ bad ∷ [])))
  minus_met w (t ∷ ts) h = rw h refl

  pub begins_minus : Begins bad (MinusOf B) (minus_with b) EndsUn (UnBegun B D)
  begins_minus = record { takes = (good_minus B b good).takes; again = (good_minus B b good).again; frames = minus_frames; halts = minus_halts; met = λ w ts d. minus_met w ts (un_met w ts d) }

  Negated : Form Token Expr
  Negated ts e rest = (x : Expr) × NotOf B ts x rest × (e ≡ Not x)

  negated_frames : (ts : List Token) (e : Expr) (rest : List Token) → Negated ts e rest → Frame Negated ts e rest
  unfolding Negated
  negated_frames ts e rest h = let f = not_frames ts h.0 rest h.1 in record { used = f.used; parts = f.parts; framed = λ other. (h.0, f.framed other, h.2) }

  pub begins_negated : Begins bad (λ ts e rest. (x : Expr) × NotOf B ts x rest × (e ≡ Not x)) (negated_with b) EndsTest (NotBegun B D)
  unfolding Negated
  begins_negated = record { takes = (good_negated B b good).takes; again = (good_negated B b good).again; frames = negated_frames; halts = λ ts. mapped (NotBegun B D) ts (not_with b ts) (λ x. (Not x.0, x.1)) (not_halts ts); met = λ w ts d. rw (not_met w ts d) refl }

-- at each number of nestings
pub begins_nested : (d : ℕ) (o : Opening) → Begins bad (Behind d o) (behind d o) (EndsOf o) (NestBegun d o)
unfolding Behind behind NestBegun
begins_nested zero o = record { takes = (good_behind zero o).takes; again = (good_behind zero o).again; frames = λ ts e rest h. absurd h; halts = λ ts. tt; met = λ w ts d. absurd d }
begins_nested (suc d) opening.Minus = begins_minus (Behind d) (behind d) (NestBegun d) (good_behind d) (begins_nested d)
begins_nested (suc d) opening.Not = begins_negated (Behind d) (behind d) (NestBegun d) (good_behind d) (begins_nested d)
begins_nested (suc d) opening.Parenthesis = begins_or (Behind d) (behind d) (NestBegun d) (good_behind d) (begins_nested d)
begins_nested (suc d) (opening.Call f) = record {
  takes = (good_behind (suc d) (opening.Call f)).takes;
  again = (good_behind (suc d) (opening.Call f)).again;
  frames = λ ts e rest h. record { used = token.Mark mark.Close ∷ []; parts = h.0; framed = λ other. (refl, h.1) };
  halts = called_halts f;
  met = λ w ts d. rw (d.0, d.1) refl;
}

pub begins_expr : (d : ℕ) → Begins bad (OrOf (Behind d)) (or_with (behind d)) EndsOr (ExprBegun d)
begins_expr d = begins_or (Behind d) (behind d) (NestBegun d) (good_behind d) (begins_nested d)
