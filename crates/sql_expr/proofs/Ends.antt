-- What may follow each level of the grammar, and the marks of its chains.
use Rattle.std.proofs.Common.{◌≡◌, Bool as Boolean, true, false, List, [], ◌∷◌, Some, None, refl}
use Rattle.sql_tokens.specs.Reading.{Marks}
use Rattle.sql_tokens.proofs.Good.{Any, Stops, HasMark, AreMarks}
use Rattle.sql_tokens.proofs.Told.{head, by_none, by_head}
use Rattle.sql_tokens.specs.declared.mark.Mark.TheVariants as mark
use Rattle.sql_tokens.specs.declared.token.Token.{Token}
use Rattle.sql_tokens.specs.declared.token.Token.TheVariants as token
use Rattle.sql_tokens.specs.declared.word.Word.TheVariants as word
use Rattle.sql_tree.specs.declared.expr.Comparison.{Comparison}
use Rattle.sql_tree.specs.declared.expr.Comparison.TheVariants as comparison
use Rattle.sql_tree.specs.declared.expr.ProductSign.{ProductSign}
use Rattle.sql_tree.specs.declared.expr.ProductSign.TheVariants as product_sign
use Rattle.sql_expr.specs.declared.opening.Opening.{Opening}
use Rattle.sql_expr.specs.declared.opening.Opening.TheVariants as opening
use Rattle.sql_expr.specs.Grammar.{and_word, bars, comma, is_word, or_word, sign, factor_sign, comparison_mark}
use Rattle.sql_expr.specs.Reading.{after_or, after_and, after_is, after_comma, after_bars, after_sign, after_factor_sign}

abbrev pub after_name : Marks Token (Unit {0})
after_name (token.Mark mark.Dot ∷ ts) = Some (tt, ts)
after_name (token.Mark mark.Open ∷ ts) = Some (tt, ts)
after_name _ = None

abbrev pub after_member : Marks Token (Unit {0})
after_member (token.Word word.In ∷ ts) = Some (tt, ts)
after_member (token.Word word.Not ∷ ts) = Some (tt, ts)
after_member _ = None

abbrev pub after_comparison : Marks Token Comparison
after_comparison (token.Mark mark.Equal ∷ ts) = Some (comparison.Equal, ts)
after_comparison (token.Mark mark.Unequal ∷ ts) = Some (comparison.Unequal, ts)
after_comparison (token.Mark mark.Less ∷ ts) = Some (comparison.Less, ts)
after_comparison (token.Mark mark.AtMost ∷ ts) = Some (comparison.AtMost, ts)
after_comparison (token.Mark mark.Greater ∷ ts) = Some (comparison.Greater, ts)
after_comparison (token.Mark mark.AtLeast ∷ ts) = Some (comparison.AtLeast, ts)
after_comparison _ = None

abbrev pub after_not : Marks Token (Unit {0})
after_not (token.Word word.Not ∷ ts) = Some (tt, ts)
after_not _ = None

abbrev pub after_minus : Marks Token (Unit {0})
after_minus (token.Mark mark.Minus ∷ ts) = Some (tt, ts)
after_minus _ = None

abbrev pub after_least : Marks Token (Unit {0})
after_least (token.Least ∷ ts) = Some (tt, ts)
after_least _ = None

-- ---- what a level does not go on at

abbrev pub EndsUn : List Token → Type 0
EndsUn rest = after_name rest ≡ None

abbrev pub EndsProduct : List Token → Type 0
EndsProduct = Stops EndsUn after_factor_sign

abbrev pub EndsSum : List Token → Type 0
EndsSum = Stops EndsProduct after_sign

abbrev pub EndsCat : List Token → Type 0
EndsCat = Stops EndsSum after_bars

abbrev pub EndsMem : List Token → Type 0
EndsMem = Stops EndsCat after_member

abbrev pub EndsCmp : List Token → Type 0
EndsCmp = Stops EndsMem after_comparison

abbrev pub EndsTest : List Token → Type 0
EndsTest = Stops EndsCmp after_is

abbrev pub EndsAnd : List Token → Type 0
EndsAnd = Stops EndsTest after_and

abbrev pub EndsOr : List Token → Type 0
EndsOr = Stops EndsAnd after_or

abbrev pub EndsItems : List Token → Type 0
EndsItems = Stops EndsOr after_comma

abbrev pub EndsOf : Opening → List Token → Type 0
EndsOf opening.Minus = EndsUn
EndsOf opening.Not = EndsTest
EndsOf opening.Parenthesis = EndsOr
EndsOf (opening.Call f) = Any

-- ---- what ends a level

pub factor_stops : (m : ProductSign) (after : List Token) → EndsUn (factor_sign m ∷ after)
factor_stops product_sign.Times after = refl
factor_stops product_sign.Over after = refl
factor_stops product_sign.Rest after = refl

pub sign_stops : (m : Boolean) (after : List Token) → EndsProduct (sign m ∷ after)
sign_stops false after = (refl, refl)
sign_stops true after = (refl, refl)

pub bars_stop : (after : List Token) → EndsSum (token.Mark mark.Bars ∷ after)
bars_stop after = ((refl, refl), refl)

pub in_stops : (after : List Token) → EndsCat (token.Word word.In ∷ after)
in_stops after = (((refl, refl), refl), refl)

pub not_stops : (after : List Token) → EndsCat (token.Word word.Not ∷ after)
not_stops after = (((refl, refl), refl), refl)

pub comparison_stops : (c : Comparison) (after : List Token) → EndsMem (comparison_mark c ∷ after)
comparison_stops comparison.Equal after = ((((refl, refl), refl), refl), refl)
comparison_stops comparison.Unequal after = ((((refl, refl), refl), refl), refl)
comparison_stops comparison.Less after = ((((refl, refl), refl), refl), refl)
comparison_stops comparison.AtMost after = ((((refl, refl), refl), refl), refl)
comparison_stops comparison.Greater after = ((((refl, refl), refl), refl), refl)
comparison_stops comparison.AtLeast after = ((((refl, refl), refl), refl), refl)

pub is_stops : (after : List Token) → EndsCmp (token.Word word.Is ∷ after)
is_stops after = (((((refl, refl), refl), refl), refl), refl)

pub and_stops : (after : List Token) → EndsTest (token.Word word.And ∷ after)
and_stops after = ((((((refl, refl), refl), refl), refl), refl), refl)

pub or_stops : (after : List Token) → EndsAnd (token.Word word.Or ∷ after)
or_stops after = (((((((refl, refl), refl), refl), refl), refl), refl), refl)

pub comma_stops : (after : List Token) → EndsOr (token.Mark mark.Comma ∷ after)
comma_stops after = ((((((((refl, refl), refl), refl), refl), refl), refl), refl), refl)

pub close_stops : (after : List Token) → EndsItems (token.Mark mark.Close ∷ after)
close_stops after = (((((((((refl, refl), refl), refl), refl), refl), refl), refl), refl), refl)

pub end_stops : EndsOr []
end_stops = ((((((((refl, refl), refl), refl), refl), refl), refl), refl), refl)

-- ---- the marks of the chains are their tokens

pub or_marks : AreMarks after_or or_word
or_marks = record { found = found; again = λ m after. refl } where
  found : (ts : List Token) → HasMark (after_or ts) (λ m after. ts ≡ token.Word word.Or ∷ after)
  found (token.Word word.Or ∷ ts) = refl
  found _ = tt

pub and_marks : AreMarks after_and and_word
and_marks = record { found = found; again = λ m after. refl } where
  found : (ts : List Token) → HasMark (after_and ts) (λ m after. ts ≡ token.Word word.And ∷ after)
  found (token.Word word.And ∷ ts) = refl
  found _ = tt

pub is_marks : AreMarks after_is is_word
is_marks = record { found = found; again = λ m after. refl } where
  found : (ts : List Token) → HasMark (after_is ts) (λ m after. ts ≡ token.Word word.Is ∷ after)
  found (token.Word word.Is ∷ ts) = refl
  found _ = tt

pub comma_marks : AreMarks after_comma comma
comma_marks = record { found = found; again = λ m after. refl } where
  found : (ts : List Token) → HasMark (after_comma ts) (λ m after. ts ≡ token.Mark mark.Comma ∷ after)
  found (token.Mark mark.Comma ∷ ts) = refl
  found _ = tt

pub bars_marks : AreMarks after_bars bars
bars_marks = record { found = found; again = λ m after. refl } where
  found : (ts : List Token) → HasMark (after_bars ts) (λ m after. ts ≡ token.Mark mark.Bars ∷ after)
  found (token.Mark mark.Bars ∷ ts) = refl
  found _ = tt

pub sign_marks : AreMarks after_sign sign
sign_marks = record { found = found; again = again } where
  found : (ts : List Token) → HasMark (after_sign ts) (λ m after. ts ≡ sign m ∷ after)
  found (token.Mark mark.Plus ∷ ts) = refl
  found (token.Mark mark.Minus ∷ ts) = refl
  found _ = tt

  again : (m : Boolean) (after : List Token) → after_sign (sign m ∷ after) ≡ Some (m, after)
  again false after = refl
  again true after = refl

pub factor_marks : AreMarks after_factor_sign factor_sign
factor_marks = record { found = found; again = again } where
  found : (ts : List Token) → HasMark (after_factor_sign ts) (λ m after. ts ≡ factor_sign m ∷ after)
  found (token.Mark mark.Star ∷ ts) = refl
  found (token.Mark mark.Slash ∷ ts) = refl
  found (token.Mark mark.Percent ∷ ts) = refl
  found _ = tt

  again : (m : ProductSign) (after : List Token) → after_factor_sign (factor_sign m ∷ after) ≡ Some (m, after)
  again product_sign.Times after = refl
  again product_sign.Over after = refl
  again product_sign.Rest after = refl

-- ---- whether a mark is there is told by the first token

pub or_stays : (ts other : List Token) → head other ≡ head ts → after_or ts ≡ None → after_or other ≡ None
or_stays [] other h n = by_none after_or (λ _. None) refl other h
or_stays (token.Word word.Or ∷ ts) other h n = absurd cc
or_stays (t ∷ ts) other h n = by_head t after_or (λ _. None) (λ more. refl) other h

pub and_stays : (ts other : List Token) → head other ≡ head ts → after_and ts ≡ None → after_and other ≡ None
and_stays [] other h n = by_none after_and (λ _. None) refl other h
and_stays (token.Word word.And ∷ ts) other h n = absurd cc
and_stays (t ∷ ts) other h n = by_head t after_and (λ _. None) (λ more. refl) other h

pub is_stays : (ts other : List Token) → head other ≡ head ts → after_is ts ≡ None → after_is other ≡ None
is_stays [] other h n = by_none after_is (λ _. None) refl other h
is_stays (token.Word word.Is ∷ ts) other h n = absurd cc
is_stays (t ∷ ts) other h n = by_head t after_is (λ _. None) (λ more. refl) other h

pub comma_stays : (ts other : List Token) → head other ≡ head ts → after_comma ts ≡ None → after_comma other ≡ None
comma_stays [] other h n = by_none after_comma (λ _. None) refl other h
comma_stays (token.Mark mark.Comma ∷ ts) other h n = absurd cc
comma_stays (t ∷ ts) other h n = by_head t after_comma (λ _. None) (λ more. refl) other h

pub bars_stay : (ts other : List Token) → head other ≡ head ts → after_bars ts ≡ None → after_bars other ≡ None
bars_stay [] other h n = by_none after_bars (λ _. None) refl other h
bars_stay (token.Mark mark.Bars ∷ ts) other h n = absurd cc
bars_stay (t ∷ ts) other h n = by_head t after_bars (λ _. None) (λ more. refl) other h

pub sign_stays : (ts other : List Token) → head other ≡ head ts → after_sign ts ≡ None → after_sign other ≡ None
sign_stays [] other h n = by_none after_sign (λ _. None) refl other h
sign_stays (token.Mark mark.Plus ∷ ts) other h n = absurd cc
sign_stays (token.Mark mark.Minus ∷ ts) other h n = absurd cc
sign_stays (t ∷ ts) other h n = by_head t after_sign (λ _. None) (λ more. refl) other h

pub factor_stays : (ts other : List Token) → head other ≡ head ts → after_factor_sign ts ≡ None → after_factor_sign other ≡ None
factor_stays [] other h n = by_none after_factor_sign (λ _. None) refl other h
factor_stays (token.Mark mark.Star ∷ ts) other h n = absurd cc
factor_stays (token.Mark mark.Slash ∷ ts) other h n = absurd cc
factor_stays (token.Mark mark.Percent ∷ ts) other h n = absurd cc
factor_stays (t ∷ ts) other h n = by_head t after_factor_sign (λ _. None) (λ more. refl) other h
