-- Reading the statements of a text one after the other, with the first fault that is met.
use Rattle.std.specs.Prelude.{◌≡◌, ℕ, zero, suc, nat_le, cond, Bool as Boolean, true, false, List, [], ◌∷◌, ◌++◌, length, Option, Some, None, Result, Ok, Err}
use Rattle.sql_tokens.specs.declared.fault.Awaited.TheVariants.{End}
use Rattle.sql_tokens.specs.declared.fault.Fault.{Fault}
use Rattle.sql_tokens.specs.declared.fault.Fault.TheVariants as one
use Rattle.sql_tokens.specs.declared.fault.ReadError.{ReadError}
use Rattle.sql_tokens.specs.declared.fault.ReadError.TheVariants as error
use Rattle.sql_tokens.specs.declared.mark.Mark.TheVariants as mark
use Rattle.sql_tokens.specs.declared.token.Token.{Token}
use Rattle.sql_tokens.specs.declared.token.Token.TheVariants as token
use Rattle.sql_tree.specs.declared.statement.Statement.{Statement}
use Rattle.sql_reader.specs.declared.verb.Verb.{Verb}
use Rattle.sql_reader.specs.Words.{after_semicolon, after_verb}
use Rattle.sql_reader.specs.Reading.{verb_at}
use Rattle.sql_reader.specs.declared.text_fault.TextError.{TextError}
use Rattle.sql_reader.specs.declared.text_fault.TextError.TheVariants as errors
use Rattle.sql_reader.specs.declared.text_fault.TextFault.{TextFault}
use Rattle.sql_reader.specs.declared.text_fault.TextFault.TheVariants.{Syntax, WithoutFrom, TooDeep, TooMany}
use Rattle.sql_reader.specs.TextGrammar.{is_bare}

-- ---- what a call returns

-- the reading is refused so, unless memory ran out
abbrev pub Refuses : {Y : Type 0} → TextError → Result Y TextFault → Type 0
Refuses errors.NoMemory read = Unit {0}
Refuses (errors.Fault f) read = read ≡ Err f

-- What a function returned, seen by view, is what reading answers, unless memory ran out.
abbrev pub Answers : {X Y : Type 0} → (X → Y) → Result X TextError → Result Y TextFault → Type 0
Answers view (Ok x) read = read ≡ Ok (view x)
Answers view (Err e) read = Refuses e read

-- the fault of a statement, as one of its text
abbrev pub of_statement : Fault → TextFault
of_statement (one.Syntax left awaited) = Syntax left awaited
of_statement (one.TooDeep left) = TooDeep left

abbrev pub error_of : ReadError → TextError
error_of error.NoMemory = errors.NoMemory
error_of (error.Fault f) = errors.Fault (of_statement f)

-- ---- one reading, and then another of what it gives

abbrev pub then_read : {A B : Type 0} → Result A TextFault → (A → Result B TextFault) → Result B TextFault
then_read (Ok x) f = f x
then_read (Err e) f = Err e

abbrev pub lifted : {A B : Type 0} → Result A Fault → (A → Result B TextFault) → Result B TextFault
lifted (Ok x) f = f x
lifted (Err e) f = Err (of_statement e)

-- ---- the statements of a text

-- a statement ends here
abbrev pub is_bound : List Token → Boolean
is_bound [] = true
is_bound (token.Mark mark.Semicolon ∷ ts) = true
is_bound _ = false

abbrev pub lacks_from : Statement → List Token → Boolean
lacks_from s rest = cond (is_bare s) (is_bound rest) false

-- the statement that was read of these tokens, with those before it
abbrev pub placed : List Statement → List Token → Statement × List Token → Result (List Statement × List Token) TextFault
placed before ts x = cond (lacks_from x.0 x.1) (Err (WithoutFrom (length ts))) (Ok (before ++ x.0 ∷ [], x.1))

abbrev pub add_step : ℕ → List Statement → List Token → Option (Verb × List Token) → Result (List Statement × List Token) TextFault
add_step depth before ts None = Ok (before, ts)
add_step depth before ts (Some m) = cond (nat_le 256 (length before)) (Err (TooMany (length ts))) (lifted (verb_at depth m.0 m.1) (placed before m.1))

-- the statement at the front, if there is one, with those before it
abbrev pub add_at : ℕ → List Statement → List Token → Result (List Statement × List Token) TextFault
add_at depth before ts = add_step depth before ts (after_verb ts)

abbrev pub more_step : ℕ → (List Statement → List Token → Result (List Statement × List Token) TextFault) → List Statement → List Token → Option (Unit {0} × List Token) → Result (List Statement × List Token) TextFault
more_step depth more before ts None = Ok (before, ts)
more_step depth more before ts (Some m) = then_read (add_at depth before m.1) (λ x. more x.0 x.1)

-- { ";" [stmt] }: the number bounds the turns, and the count of the tokens is always enough
unfoldable pub more_at : ℕ → ℕ → List Statement → List Token → Result (List Statement × List Token) TextFault
more_at depth zero before ts = Ok (before, ts)
more_at depth (suc n) before ts = more_step depth (more_at depth n) before ts (after_semicolon ts)

abbrev pub further_at : ℕ → List Statement → List Token → Result (List Statement × List Token) TextFault
further_at depth before ts = more_at depth (length ts) before ts

abbrev pub lines_at : ℕ → List Token → Result (List Statement × List Token) TextFault
lines_at depth ts = then_read (add_at depth [] ts) (λ x. further_at depth x.0 x.1)

-- nothing follows
abbrev pub ended : List Statement → List Token → Result (List Statement) TextFault
ended all [] = Ok all
ended all (t ∷ ts) = Err (Syntax (suc (length ts)) End)

-- all of the tokens
abbrev pub text_at : ℕ → List Token → Result (List Statement) TextFault
text_at depth ts = then_read (lines_at depth ts) (λ x. ended x.0 x.1)
