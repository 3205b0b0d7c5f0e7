-- What is due behind the beginning of a text.
use Rattle.std.specs.Prelude.{◌≡◌, ℕ, List, ◌++◌, length}
use Rattle.sql_tokens.specs.declared.fault.Awaited.{Awaited}
use Rattle.sql_tokens.specs.declared.fault.Awaited.TheVariants.{End}
use Rattle.sql_tokens.specs.declared.token.Token.{Token}
use Rattle.sql_reader.specs.Words.{semicolon_mark}
use Rattle.sql_reader.specs.Grammar.{verb_token}
use Rattle.sql_reader.specs.TextGrammar.{PartOf, TextOf}
use Rattle.sql_profile.specs.Beginnings.{Beginning, AtOnce, ThenBegun, MarkBegun}
use Rattle.sql_profile.specs.Statements.{ListedBegun, VerbBegun}

abbrev pub PartBegun : ℕ → Beginning Token
PartBegun depth = MarkBegun verb_token (VerbBegun depth)

-- a statement begins in the text, or it is whole, and its end is due
abbrev pub TextBegun : ℕ → Beginning Token
TextBegun depth = ThenBegun (TextOf depth) (ListedBegun semicolon_mark (PartOf depth) (PartBegun depth)) (AtOnce End)

-- The tokens before the one from which on this many are left begin a text, and behind them this is due.
pub record IsDue (depth : ℕ) (tokens : List Token) (left : ℕ) (awaited : Awaited) : Type 0 where
  pub front : List Token
  pub rest : List Token
  pub parts : tokens ≡ front ++ rest
  pub left_is : length rest ≡ left
  pub due : TextBegun depth awaited front
