-- The grammar of texts, and the two rules of a text that its lines do not say.
use Rattle.std.specs.Prelude.{◌≡◌, ◌<◌, ◌⊎◌, ℕ, suc, Bool as Boolean, false, List, [], ◌∷◌, ◌++◌, length, All, Option, Some, None, is_none, codes}
use Rattle.sql_tokens.specs.Grammar.{Form}
use Rattle.sql_tokens.specs.declared.mark.Mark.TheVariants as mark
use Rattle.sql_tokens.specs.declared.token.Token.{Token}
use Rattle.sql_tokens.specs.declared.token.Token.TheVariants as token
use Rattle.sql_tokens.specs.declared.word.Word.TheVariants as word
use Rattle.sql_tree.specs.declared.statement.SelectList.{SelectList}
use Rattle.sql_tree.specs.declared.statement.SelectList.TheVariants as list
use Rattle.sql_tree.specs.declared.statement.Statement.{Statement}
use Rattle.sql_tree.specs.declared.statement.Statement.TheVariants as statement
use Rattle.sql_reader.specs.declared.verb.Verb.{Verb}
use Rattle.sql_reader.specs.Parts.{Made, Maybe, Listed}
use Rattle.sql_reader.specs.Words.{semicolon_mark, plain_name}
use Rattle.sql_reader.specs.Grammar.{verb_token, BehindVerb, Bound}

-- ---- text = [stmt] { ";" [stmt] }

abbrev pub PartOf : ℕ → Form Token (Option Statement)
PartOf depth = Maybe verb_token (BehindVerb depth)

-- the statements that are there
abbrev pub written : List (Option Statement) → List Statement
written [] = []
written (None ∷ others) = written others
written (Some s ∷ others) = s ∷ written others

abbrev pub TextOf : ℕ → Form Token (List Statement)
TextOf depth = Made written (Listed semicolon_mark (PartOf depth))

-- ts is a text of these statements, in which at most this many nestings of an expression are open at once
abbrev pub IsTextWithin : ℕ → List Token → List Statement → Type 0
IsTextWithin depth ts statements = TextOf depth ts statements []

-- ts is a text of these statements, however deep it nests
abbrev pub IsText : List Token → List Statement → Type 0
IsText ts statements = (depth : ℕ) × IsTextWithin depth ts statements

-- these statements and a `;`, or nothing, and then rest
abbrev pub FrontOf : ℕ → Form Token (List Statement)
FrontOf depth ts before rest = ((ts ≡ rest) × (before ≡ [])) ⊎ TextOf depth ts before (token.Mark mark.Semicolon ∷ rest)

-- ---- a SELECT of `*` or `count(*)` has FROM

abbrev pub is_bare_list : SelectList → Option (List ℕ) → Boolean
is_bare_list list.Star table = is_none table
is_bare_list list.Count table = is_none table
is_bare_list (list.Items items) table = false

-- a SELECT of `*` or `count(*)` without FROM
abbrev pub is_bare : Statement → Boolean
is_bare (statement.Select s) = is_bare_list s.list s.table
is_bare _ = false

abbrev pub HaveFrom : List Statement → Type 0
HaveFrom = All (λ s. is_bare s ≡ false)

-- the tokens are `*`, or `count(*)`
abbrev pub IsRows : List Token → Type 0
IsRows ts = (ts ≡ token.Mark mark.Star ∷ []) ⊎ (ts ≡ plain_name (codes "count") tt ∷ token.Mark mark.Open ∷ token.Mark mark.Star ∷ token.Mark mark.Close ∷ [])

-- Statements that may stand stand before it, fewer than the limit. Then come SELECT, the `*` or `count(*)` from which on
-- this many tokens are left, and `;` or the end.
pub record IsWithoutFrom (depth : ℕ) (ts : List Token) (left : ℕ) : Type 0 where
  pub before : List Statement
  pub rows : List Token
  pub after : List Token
  pub front : FrontOf depth ts before (token.Word word.Select ∷ (rows ++ after))
  pub have : HaveFrom before
  pub room : length before < 256
  pub are : IsRows rows
  pub ends : Bound after
  pub left_is : length (rows ++ after) ≡ left

-- ---- a text has at most 256 statements

-- 256 statements that may stand stand before the token from which on this many are left, and it begins one more.
pub record IsTooMany (depth : ℕ) (ts : List Token) (left : ℕ) : Type 0 where
  pub before : List Statement
  pub verb : Verb
  pub after : List Token
  pub front : FrontOf depth ts before (verb_token verb ∷ after)
  pub have : HaveFrom before
  pub full : length before ≡ 256
  pub left_is : suc (length after) ≡ left
