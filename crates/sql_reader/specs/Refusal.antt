-- What a refused text is told: the first rule that fits decides.
use Rattle.std.specs.Prelude.{◌-◌, ℕ, List, [], ◌∷◌, reverse, length, take, slice_get, Option, Some, None}
use Rattle.sql_tokens.specs.declared.fault.Awaited.{Awaited}
use Rattle.sql_tokens.specs.declared.token.Token.{Token}
use Rattle.sql_tokens.specs.declared.token.Token.TheVariants as token
use Rattle.sql_tokens.specs.declared.token.TokenFault.TheVariants as fault
use Rattle.sql_reader.specs.declared.refusal.Refusal.{Refusal}
use Rattle.sql_reader.specs.declared.refusal.Refusal.TheVariants.{Syntax, Outside, TooLong}
use Rattle.sql_reader.specs.Rules.{numeric_literal, called, joined, ordered_by_expression, behind_word, listed_word, other_marks}

-- the first name that is given
abbrev pub first_of : List (Option (List ℕ)) → Option (List ℕ)
first_of [] = None
first_of (Some name ∷ others) = Some name
first_of (None ∷ others) = first_of others

-- the name of the first rule that fits a token
abbrev pub name_at : Awaited → Token → List Token → Option (List ℕ)
name_at awaited token before = first_of (numeric_literal awaited token ∷ called awaited token before ∷ joined token before
    ∷ ordered_by_expression awaited ∷ behind_word before ∷ listed_word awaited token ∷ other_marks token ∷ [])

-- a name is told with its place, and else the place alone
abbrev pub named : Option (List ℕ) → ℕ → Refusal
named None place = Syntax place
named (Some name) place = Outside name place

-- at a token: it is none, or passes a limit, or is named by the first rule that fits
abbrev pub told_at : Awaited → Token → List Token → ℕ → Refusal
told_at _ (token.Fault fault.Bad) _ place = Syntax place
told_at _ (token.Fault fault.LongName) _ _ = TooLong
told_at _ (token.Fault fault.LargeParam) _ _ = TooLong
told_at _ (token.Fault fault.TooMany) _ _ = TooLong
told_at awaited token before place = named (name_at awaited token before) place

-- at the token, or at the end of the text, which is the place of SET and SHOW directly before it alone
abbrev pub told : Awaited → Option Token → List Token → ℕ → Refusal
told awaited (Some token) before place = told_at awaited token before place
told awaited None before place = named (behind_word before) place

-- this place, or the end of a text of this size
abbrev pub place_or : ℕ → Option ℕ → ℕ
place_or size None = size
place_or size (Some place) = place

-- the place of the token from which on so many are left, or the end of the text where none is
abbrev pub place_of : List ℕ → ℕ → ℕ → ℕ
place_of places size left = place_or size (slice_get places (length places - left))

-- a text of this size, with these tokens and their places, fails where so many tokens are left
abbrev pub refusal_of : List Token → List ℕ → ℕ → ℕ → Awaited → Refusal
refusal_of tokens places size left awaited = let at = length tokens - left in
    told awaited (slice_get tokens at) (reverse (take at tokens)) (place_of places size left)
