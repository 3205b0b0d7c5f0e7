-- What is told of a text that the reader refuses: a name is short, and a place is one of the text or its end.
use Rattle.std.proofs.Common.{◌≡◌, ◌≤◌, ◌-◌, ℕ, List, [], ◌∷◌, length, take, codes, Option, Some, None, IfSome, refl, sym, subst, arith}
use Rattle.std.specs.Prelude.{Bool as Truth, true, false, reverse, slice_get}
use Rattle.std.specs.List.{AllByRecursion}
use Rattle.sql_tokens.specs.declared.fault.Awaited.{Awaited}
use Rattle.sql_tokens.specs.declared.fault.Awaited.TheVariants as awaits
use Rattle.sql_tokens.specs.declared.mark.Mark.TheVariants as mark
use Rattle.sql_tokens.specs.declared.token.Placed.{Placed}
use Rattle.sql_tokens.specs.declared.token.Token.{Token}
use Rattle.sql_tokens.specs.declared.token.Token.TheVariants as token
use Rattle.sql_tokens.specs.declared.token.TokenFault.TheVariants as fault
use Rattle.sql_tokens.specs.declared.word.Word.{Word}
use Rattle.sql_tokens.specs.declared.word.Word.TheVariants as word
use Rattle.sql_tokens.specs.Words.{spelling}
use Rattle.sql_reader.specs.declared.text_fault.TextFault.{TextFault}
use Rattle.sql_reader.specs.declared.text_fault.TextFault.TheVariants as text_fault
use Rattle.sql_reader.specs.Rules.{name_where, numeric_literal, callee, opened, is_operand, called, joined, ordered_by_expression, behind_word, is_listed, listed_word, other_marks}
use Rattle.sql_reader.specs.Refusal.{first_of, name_at, named, told_at, told, place_or, place_of}
use Rattle.sql_reader.specs.declared.fault.SqlFault.{SqlFault}
use Rattle.sql_reader.specs.declared.fault.SqlFault.TheVariants.{Syntax, Outside, TooLong, NoMemory}
use Rattle.sql_reader.specs.Text.{IsRefusedBy, fault_of, told_of, tokens_of, places_of}
use Rattle.statement_laws.specs.Told.{IsTold}
use Rattle.statement_laws.proofs.Steps.{is_told, tested}
use Rattle.statement_laws.proofs.Tokens.{AreTold, Back, IsAt, Own, at_told, place_at, text_told}

-- what a fault of a text of this size tells
abbrev Sound : ℕ → SqlFault → Type 0
Sound size (Syntax place) = place ≤ size
Sound size (Outside name place) = IsTold name
Sound size TooLong = Unit {0}
Sound size NoMemory = Unit {0}

-- ---- the rules that name what stands where a text fails

abbrev Named : Option (List ℕ) → Type 0
Named o = IfSome o IsTold

spelled : (w : Word) → is_told (spelling w) ≡ true
spelled word.Abort = refl
spelled _ = refl

spelling_told : (w : Word) → IsTold (spelling w)
spelling_told w = tested (spelling w) (spelled w)

where_told : (is : Truth) (name : List ℕ) → IsTold name → Named (name_where is name)
where_told true name short = short
where_told false name short = tt

numeric_told : (awaited : Awaited) (t : Token) → Named (numeric_literal awaited t)
numeric_told awaited (token.Fault fault.Fraction) = tested (codes "numeric literal") refl
numeric_told awaited (token.Fault fault.OutOfRange) = tested (codes "numeric literal") refl
numeric_told awaited token.Least = tested (codes "numeric literal") refl
numeric_told awaits.Backend (token.Number n) = tested (codes "numeric literal") refl
numeric_told _ _ = tt

callee_told : (awaited : Awaited) (before : List Token) → Back (token.Mark mark.Open ∷ before) → Named (callee awaited before)
callee_told awaited (token.Name n ∷ before) back = where_told (is_operand awaited before) n.text back.0
callee_told awaited (token.Word word.CurrentTimestamp ∷ before) back = spelling_told word.CurrentTimestamp
callee_told awaited (token.Word word.Timestamptz ∷ before) back = spelling_told word.Timestamptz
callee_told _ _ back = tt

opened_told : (t : Token) (before : List Token) → Back (t ∷ before) → Named (opened before)
opened_told t (token.Mark mark.Open ∷ token.Name n ∷ before) back = back.1.0
opened_told t _ back = tt

called_told : (awaited : Awaited) (t : Token) (before : List Token) → Back (t ∷ before) → Named (called awaited t before)
called_told awaits.Star t before back = tested (codes "count") refl
called_told awaits.Arguments t before back = opened_told t before back
called_told awaited (token.Mark mark.Open) before back = callee_told awaited before back
called_told _ _ before back = tt

joined_told : (t : Token) (before : List Token) → Named (joined t before)
joined_told (token.Mark mark.Comma) (token.Name n ∷ token.Word word.From ∷ before) = tested (codes "join") refl
joined_told _ _ = tt

ordered_told : (awaited : Awaited) → Named (ordered_by_expression awaited)
ordered_told awaits.Item = tested (codes "order by expression") refl
ordered_told _ = tt

behind_told : (before : List Token) → Named (behind_word before)
behind_told (token.Word word.Set ∷ before) = spelling_told word.Set
behind_told (token.Word word.Show ∷ before) = spelling_told word.Show
behind_told _ = tt

listed_told : (awaited : Awaited) (t : Token) → Named (listed_word awaited t)
listed_told awaited (token.Word w) = where_told (is_listed awaited w) (spelling w) (spelling_told w)
listed_told _ _ = tt

marks_told : (t : Token) → Own t → Named (other_marks t)
marks_told (token.Fault (fault.Run run)) own = own
marks_told _ own = tt

first_told : (names : List (Option (List ℕ))) → AllByRecursion Named names → Named (first_of names)
first_told [] all = tt
first_told (Some name ∷ others) all = all.0
first_told (None ∷ others) all = first_told others all.1

name_told : (awaited : Awaited) (t : Token) (before : List Token) → IsAt before t → Named (name_at awaited t before)
name_told awaited t before at =
    first_told (numeric_literal awaited t ∷ called awaited t before ∷ joined t before ∷ ordered_by_expression awaited ∷ behind_word before ∷ listed_word awaited t ∷ other_marks t ∷ [])
    (numeric_told awaited t, (called_told awaited t before at.1, (joined_told t before, (ordered_told awaited, (behind_told before, (listed_told awaited t, (marks_told t at.0, tt)))))))

-- ---- what is told

module _ (size : ℕ) where
  named_sound : (o : Option (List ℕ)) (place : ℕ) → Named o → place ≤ size → Sound size (fault_of (named o place))
  named_sound None place short within = within
  named_sound (Some name) place short within = short

  at_sound : (awaited : Awaited) (t : Token) (before : List Token) (place : ℕ) → IsAt before t → place ≤ size → Sound size (fault_of (told_at awaited t before place))
  at_sound awaited (token.Fault fault.Bad) before place at within = within
  at_sound awaited (token.Fault fault.LongName) before place at within = tt
  at_sound awaited (token.Fault fault.LargeParam) before place at within = tt
  at_sound awaited (token.Fault fault.TooMany) before place at within = tt
  at_sound awaited t before place at within = named_sound (name_at awaited t before) place (name_told awaited t before at) within

  told_sound : (awaited : Awaited) (o : Option Token) (before : List Token) (place : ℕ) → IfSome o (IsAt before) → place ≤ size → Sound size (fault_of (told awaited o before place))
  told_sound awaited None before place at within = named_sound (behind_word before) place (behind_told before) within
  told_sound awaited (Some t) before place at within = at_sound awaited t before place at within

  place_within : (o : Option ℕ) → IfSome o (λ k. k ≤ size) → place_or size o ≤ size
  place_within None is = omega arith
  place_within (Some k) is = is

  fault_sound : (placed : List Placed) (f : TextFault) → AreTold size placed → Sound size (told_of (tokens_of placed) (places_of placed) size f)
  fault_sound placed (text_fault.Syntax left awaited) are =
      let at = length (tokens_of placed) - left in
      let i = length (places_of placed) - left in
      told_sound awaited (slice_get (tokens_of placed) at) (reverse (take at (tokens_of placed))) (place_of (places_of placed) size left) (at_told (tokens_of placed) at are.0 are.1.0)
      (place_within (slice_get (places_of placed) i) (place_at size (places_of placed) i are.1.1))
  fault_sound placed (text_fault.WithoutFrom left) are =
      let i = length (places_of placed) - left in
      place_within (slice_get (places_of placed) i) (place_at size (places_of placed) i are.1.1)
  fault_sound placed (text_fault.TooDeep left) are = tt
  fault_sound placed (text_fault.TooMany left) are = tt

pub name_is_told : (text name : List ℕ) (place : ℕ) → IsRefusedBy text (Outside name place) → IsTold name
name_is_told text name place (placed, tokens, (f, wrong, is)) =
    subst (Sound (length text)) (sym is) (fault_sound (length text) placed f (text_told text placed tokens))

pub place_is_within : (text : List ℕ) (place : ℕ) → IsRefusedBy text (Syntax place) → place ≤ length text
place_is_within text place (placed, tokens, (f, wrong, is)) =
    subst (Sound (length text)) (sym is) (fault_sound (length text) placed f (text_told text placed tokens))
