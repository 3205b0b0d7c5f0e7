-- What a refused text is told, without the reader: where its tokens go wrong, and what is due there.
use Rattle.std.specs.Prelude.{◌≡◌, ℕ, List, length}
use Rattle.sql_tokens.specs.declared.token.Placed.{Placed}
use Rattle.sql_tokens.specs.declared.token.Token.{Token}
use Rattle.sql_tokens.specs.Tokens.{TokensOf}
use Rattle.sql_reader.specs.declared.text_fault.TextFault.{TextFault}
use Rattle.sql_reader.specs.declared.text_fault.TextFault.TheVariants as text_fault
use Rattle.sql_reader.specs.TextGrammar.{IsWithoutFrom, IsTooMany}
use Rattle.sql_reader.specs.Refusal.{place_of}
use Rattle.sql_reader.specs.declared.fault.SqlFault.{SqlFault}
use Rattle.sql_reader.specs.declared.fault.SqlFault.TheVariants.{NoMemory}
use Rattle.sql_reader.specs.Text.{tokens_of, places_of, told_of, GoesWrong}
use Rattle.sql_profile.specs.Texts.{IsDue}

-- where a token is refused this is due
abbrev pub DueAt : List Token → TextFault → Type 0
DueAt tokens (text_fault.Syntax left awaited) = IsDue 64 tokens left awaited
DueAt tokens _ = Unit {0}

-- The text goes wrong, and this is told of it by the rules, which see what is due there. Want of memory is no fault of a text.
abbrev pub IsNamedBy : List ℕ → SqlFault → Type 0
IsNamedBy text NoMemory = Unit {0}
IsNamedBy text e = (placed : List Placed) × TokensOf text placed × (fault : TextFault) × GoesWrong (tokens_of placed) fault
    × DueAt (tokens_of placed) fault × (e ≡ told_of (tokens_of placed) (places_of placed) (length text) fault)

-- Statements that may stand stand before a SELECT of `*` or `count(*)` without FROM, and the `*` or `count` is at this byte.
abbrev pub LacksFromAt : List ℕ → ℕ → Type 0
LacksFromAt text place = (placed : List Placed) × TokensOf text placed × (left : ℕ) × IsWithoutFrom 64 (tokens_of placed) left
    × (place ≡ place_of (places_of placed) (length text) left)

-- As many statements as a text may have stand, each of them may stand, and one more begins.
abbrev pub HasTooMany : List ℕ → Type 0
HasTooMany text = (placed : List Placed) × TokensOf text placed × (left : ℕ) × IsTooMany 64 (tokens_of placed) left
