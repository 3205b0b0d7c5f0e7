-- Texts of SQL: the statements of one, and what is told of one that is refused.
use Rattle.std.specs.Prelude.{◌≡◌, ◌≤◌, ℕ, List, length, map, Result, Ok, Err}
use Rattle.sql_tokens.specs.Grammar.{IsPlace, IsTooDeep}
use Rattle.sql_tokens.specs.declared.token.Placed.{Placed}
use Rattle.sql_tokens.specs.declared.token.Token.{Token}
use Rattle.sql_tokens.specs.Tokens.{TokensOf}
use Rattle.sql_tree.specs.declared.statement.Statement.{Statement}
use Rattle.sql_reader.specs.declared.text_fault.TextFault.{TextFault}
use Rattle.sql_reader.specs.declared.text_fault.TextFault.TheVariants as text_fault
use Rattle.sql_reader.specs.TextGrammar.{IsText, IsTextWithin, HaveFrom, IsWithoutFrom, IsTooMany}
use Rattle.sql_reader.specs.declared.refusal.Refusal.{Refusal}
use Rattle.sql_reader.specs.declared.refusal.Refusal.TheVariants as refusal
use Rattle.sql_reader.specs.Refusal.{place_of, refusal_of}
use Rattle.sql_reader.specs.declared.fault.SqlFault.{SqlFault}
use Rattle.sql_reader.specs.declared.fault.SqlFault.TheVariants.{Syntax, Outside, TooLong, NoMemory}

-- the tokens alone, and their places alone
abbrev pub tokens_of : List Placed → List Token
tokens_of = map (λ p. p.token)

abbrev pub places_of : List Placed → List ℕ
places_of = map (λ p. p.place)

-- the tokens are a text of these statements, within the limits
abbrev pub AreRead : List Placed → List Statement → Type 0
AreRead placed all = IsTextWithin 64 (tokens_of placed) all × (length all ≤ 256) × HaveFrom all

-- the text is one of these statements, within the limits
abbrev pub IsTextOf : List ℕ → List Statement → Type 0
IsTextOf text all = (placed : List Placed) × TokensOf text placed × AreRead placed all

-- this is read, unless memory runs out
abbrev pub IsReadAs : Result (List Statement) SqlFault → List Statement → Type 0
IsReadAs (Ok read) all = read ≡ all
IsReadAs (Err NoMemory) all = Unit {0}
IsReadAs (Err _) all = ⊥

-- ---- what is told

abbrev pub fault_of : Refusal → SqlFault
fault_of (refusal.Syntax place) = Syntax place
fault_of (refusal.Outside name place) = Outside name place
fault_of refusal.TooLong = TooLong

-- of a fault among these tokens with their places, in a text of this size
abbrev pub told_of : List Token → List ℕ → ℕ → TextFault → SqlFault
told_of tokens places size (text_fault.Syntax left awaited) = fault_of (refusal_of tokens places size left awaited)
told_of tokens places size (text_fault.WithoutFrom left) = Syntax (place_of places size left)
told_of tokens places size (text_fault.TooDeep left) = TooLong
told_of tokens places size (text_fault.TooMany left) = TooLong

-- where the tokens go wrong, without the reader: no text goes on; `*` or `count(*)` without FROM; a nesting or a statement
-- beyond the limit
abbrev pub GoesWrong : List Token → TextFault → Type 0
GoesWrong tokens (text_fault.Syntax left awaited) = IsPlace IsText tokens left
GoesWrong tokens (text_fault.WithoutFrom left) = IsWithoutFrom 64 tokens left
GoesWrong tokens (text_fault.TooDeep left) = IsTooDeep IsText (IsTextWithin 64) tokens left
GoesWrong tokens (text_fault.TooMany left) = IsTooMany 64 tokens left

-- the tokens go wrong so that a text of this size is told this; want of memory is no fault of a text
abbrev pub AreRefusedBy : List Placed → ℕ → SqlFault → Type 0
AreRefusedBy placed size NoMemory = Unit {0}
AreRefusedBy placed size e = (fault : TextFault) × GoesWrong (tokens_of placed) fault
    × (e ≡ told_of (tokens_of placed) (places_of placed) size fault)

-- so does the text
abbrev pub IsRefusedBy : List ℕ → SqlFault → Type 0
IsRefusedBy text NoMemory = Unit {0}
IsRefusedBy text e = (placed : List Placed) × TokensOf text placed × AreRefusedBy placed (length text) e

-- this is told, unless memory runs out
abbrev pub IsToldAs : Result (List Statement) SqlFault → SqlFault → Type 0
IsToldAs (Err NoMemory) e = Unit {0}
IsToldAs (Err told) e = told ≡ e
IsToldAs (Ok read) e = ⊥
