-- The rules that name what stands where a text fails. A rule sees what was awaited there, the token that fails, and the
-- tokens before it, the nearest first; where it fits it gives a name. What was awaited is never the token that fails.
use Rattle.std.specs.Prelude.{ℕ, Bool, true, false, not, List, ◌∷◌, Option, Some, None, codes}
use Rattle.sql_tokens.specs.declared.fault.Awaited.{Awaited}
use Rattle.sql_tokens.specs.declared.fault.Awaited.TheVariants as awaits
use Rattle.sql_tokens.specs.declared.mark.Mark.TheVariants as mark
use Rattle.sql_tokens.specs.declared.token.Token.{Token}
use Rattle.sql_tokens.specs.declared.token.Token.TheVariants as token
use Rattle.sql_tokens.specs.declared.token.TokenFault.TheVariants as fault
use Rattle.sql_tokens.specs.declared.word.Word.{Word}
use Rattle.sql_tokens.specs.declared.word.Word.TheVariants as word
use Rattle.sql_tokens.specs.Words.{spelling, is_outside}

-- the name, where this is so
abbrev pub name_where : Bool → List ℕ → Option (List ℕ)
name_where true name = Some name
name_where false name = None

-- ---- a number with a point or an exponent, or a whole number out of range

abbrev pub numeric_literal : Awaited → Token → Option (List ℕ)
numeric_literal _ (token.Fault fault.Fraction) = Some (codes "numeric literal")
numeric_literal _ (token.Fault fault.OutOfRange) = Some (codes "numeric literal")
numeric_literal _ token.Least = Some (codes "numeric literal")
numeric_literal awaits.Backend (token.Number _) = Some (codes "numeric literal")
numeric_literal _ _ = None

-- ---- `(` in an expression behind a name, CURRENT_TIMESTAMP or the word of a type; another token than `*` behind
-- ---- `count(`, and than `)` behind `now(` and `transaction_timestamp(`

-- the nearest reserved word, ASC and DESC apart, is BY: columns of an ORDER BY stand here
abbrev pub in_order : List Token → Bool
in_order (token.Word word.By ∷ _) = true
in_order (token.Word word.Asc ∷ before) = in_order before
in_order (token.Word word.Desc ∷ before) = in_order before
in_order (token.Word _ ∷ _) = false
in_order (_ ∷ before) = in_order before
in_order _ = false

-- a name behind these is none of an expression: AS gives it, it is the table of a FROM, SHOW shows it, rows are ordered by it
abbrev pub is_apart : List Token → Bool
is_apart (token.Word word.As ∷ _) = true
is_apart (token.Word word.From ∷ _) = true
is_apart (token.Word word.Show ∷ _) = true
is_apart before = in_order before

-- a name behind these is one of an expression: a parenthesis of an expression is open, or an expression may end behind it
abbrev pub is_operand : Awaited → List Token → Bool
is_operand awaits.Close _ = true
is_operand awaits.End before = not (is_apart before)
is_operand _ _ = false

abbrev pub callee : Awaited → List Token → Option (List ℕ)
callee awaited (token.Name n ∷ before) = name_where (is_operand awaited before) n.text
callee _ (token.Word word.CurrentTimestamp ∷ _) = Some (spelling word.CurrentTimestamp)
callee _ (token.Word word.Timestamptz ∷ _) = Some (spelling word.Timestamptz)
callee _ _ = None

-- the name before the `(` that stands last
abbrev pub opened : List Token → Option (List ℕ)
opened (token.Mark mark.Open ∷ token.Name n ∷ _) = Some n.text
opened _ = None

abbrev pub called : Awaited → Token → List Token → Option (List ℕ)
called awaits.Star _ _ = Some (codes "count")
called awaits.Arguments _ before = opened before
called awaited (token.Mark mark.Open) before = callee awaited before
called _ _ _ = None

-- ---- `,` directly behind the table of a FROM

abbrev pub joined : Token → List Token → Option (List ℕ)
joined (token.Mark mark.Comma) (token.Name _ ∷ token.Word word.From ∷ _) = Some (codes "join")
joined _ _ = None

-- ---- no name, where a column of an ORDER BY begins

abbrev pub ordered_by_expression : Awaited → Option (List ℕ)
ordered_by_expression awaits.Item = Some (codes "order by expression")
ordered_by_expression _ = None

-- ---- a word of the outside list, or what stands directly behind SET or SHOW

abbrev pub behind_word : List Token → Option (List ℕ)
behind_word (token.Word word.Set ∷ _) = Some (spelling word.Set)
behind_word (token.Word word.Show ∷ _) = Some (spelling word.Show)
behind_word _ = None

-- a SELECT here stands within an expression, or in place of VALUES
abbrev pub is_query : Awaited → Bool
is_query awaits.Operand = true
is_query awaits.Word = true
is_query awaits.Arguments = true
is_query awaits.Close = true
is_query awaits.Values = true
is_query _ = false

abbrev pub is_listed : Awaited → Word → Bool
is_listed awaited word.Select = is_query awaited
is_listed _ word.Set = true
is_listed _ word.Show = true
is_listed _ w = is_outside w

abbrev pub listed_word : Awaited → Token → Option (List ℕ)
listed_word awaited (token.Word w) = name_where (is_listed awaited w) (spelling w)
listed_word _ _ = None

-- ---- a run of marks that is no mark: the bytes of it that the token has, which are 63 at most

abbrev pub other_marks : Token → Option (List ℕ)
other_marks (token.Fault (fault.Run run)) = Some run
other_marks _ = None
