-- A checked statement whose text is read and checked again.
use Rattle.std.specs.Prelude.{◌≡◌, ◌<◌, ◌^◌, ◌⊎◌, ℕ, true, List, [], ◌∷◌, length, Some, Result, Ok, Err}
use Rattle.schema.specs.declared.catalogue.TableDef.{TableDef}
use Rattle.schema.specs.Allowed.{AreAllowed}
use Rattle.sql_print.specs.Printed.{statement_text}
use Rattle.sql_reader.specs.declared.fault.SqlFault.TheVariants as text
use Rattle.sql_reader.specs.Text.{IsRefusedBy, IsTextOf}
use Rattle.sql_profile.specs.Fits.{Fits}
use Rattle.sql_tree.specs.declared.statement.Statement.{Statement}
use Rattle.typed_sql.specs.declared.fault.CheckFault.{CheckFault}
use Rattle.typed_sql.specs.declared.fault.CheckFault.TheVariants as check
use Rattle.catalogue.specs.declared.checked.Checked.{Checked}
use Rattle.catalogue.specs.Checking.{AnswersCheck, IsChecked}
use Rattle.checked_sql.specs.OfCatalogue.{is_of}
use Rattle.checked_print.specs.Statements.{spelled_statement}
use Rattle.statement_laws.specs.declared.again.AgainFault.{AgainFault}
use Rattle.statement_laws.specs.declared.again.AgainFault.TheVariants.{Other, Text, Check, NoMemory}
use Rattle.statement_laws.specs.Again.{SameEffect}

-- the statement is of tables that a schema can have
pub record CanBeRead (tables : List TableDef) (checked : Checked) : Type 0 where
  pub allowed : AreAllowed tables
  pub of : is_of tables checked ≡ true

-- it has the same effect, and its parameters have the same types
abbrev pub IsSame : List TableDef → Checked → Checked → Type 0
IsSame tables checked again = SameEffect tables again.body checked.body × (again.kinds ≡ checked.kinds)

-- the one text of a checked statement
abbrev pub text_of : List TableDef → Checked → List ℕ
text_of tables checked = statement_text (spelled_statement tables checked)

-- the text is one of statements, within the limits of texts
pub record IsWithinLimits (text : List ℕ) : Type 0 where
  pub statements : List Statement
  pub of : IsTextOf text statements
  pub size : length text < 2 ^ 32

-- the text has fewer than 2 ^ 32 bytes, or a text can have each of its tokens and has room for all
abbrev pub IsShort : List TableDef → Checked → Type 0
IsShort tables checked = (length (text_of tables checked) < 2 ^ 32) ⊎ Fits (spelled_statement tables checked)

-- ---- what is answered to a text

-- the text is one statement that is checked, and with these numbers of the types of its parameters this is what a check of it
-- answers
pub record IsCheckedAs (tables : List TableDef) (numbers : List ℕ) (text : List ℕ) (answer : Result Checked CheckFault) : Type 0 where
  pub statement : Statement
  pub of : IsTextOf text (statement ∷ [])
  pub one : IsChecked statement
  pub answers : AnswersCheck tables statement (Some numbers) answer

-- they are one statement, and it is one that is checked
abbrev pub IsOne : List Statement → Type 0
IsOne [] = ⊥
IsOne (s ∷ []) = IsChecked s
IsOne (s ∷ t ∷ others) = ⊥

-- what a check answers to the one statement that the text is; or it is not one that is checked, or goes wrong or passes a limit,
-- as one of 2 ^ 32 bytes does; want of memory alone is free
abbrev pub AnswersText : List TableDef → List ℕ → List ℕ → Result Checked AgainFault → Type 0
AnswersText tables numbers text (Ok again) = IsCheckedAs tables numbers text (Ok again)
AnswersText tables numbers text (Err Other) = (all : List Statement) × IsTextOf text all × (IsOne all → ⊥)
AnswersText tables numbers text (Err (Text fault)) = length text < 2 ^ 32 → IsRefusedBy text fault
AnswersText tables numbers text (Err (Check fault)) = IsCheckedAs tables numbers text (Err fault)
AnswersText tables numbers text (Err NoMemory) = Unit {0}

-- ---- why there is no answer

-- memory was refused
abbrev pub IsMemory : AgainFault → Type 0
IsMemory NoMemory = Unit {0}
IsMemory (Text text.NoMemory) = Unit {0}
IsMemory (Check check.NoMemory) = Unit {0}
IsMemory fault = ⊥

-- memory was refused, or a limit of texts is passed
abbrev pub IsLimit : AgainFault → Type 0
IsLimit (Text text.TooLong) = Unit {0}
IsLimit fault = IsMemory fault

-- ---- what is answered to one statement

-- what a check of it answers, if it is one that is checked
abbrev pub AnswersOne : List TableDef → List ℕ → Statement → Result Checked AgainFault → Type 0
AnswersOne tables numbers s (Ok again) = IsChecked s × AnswersCheck tables s (Some numbers) (Ok again)
AnswersOne tables numbers s (Err Other) = IsChecked s → ⊥
AnswersOne tables numbers s (Err (Text fault)) = ⊥
AnswersOne tables numbers s (Err (Check fault)) = IsChecked s × AnswersCheck tables s (Some numbers) (Err fault)
AnswersOne tables numbers s (Err NoMemory) = ⊥

-- what a check of it answers, or why there is no answer: memory, or a limit that its text passes
abbrev pub IsAnswer : List TableDef → Statement → List ℕ → Result Checked AgainFault → Type 0
IsAnswer tables s numbers (Ok again) = AnswersCheck tables s (Some numbers) (Ok again)
IsAnswer tables s numbers (Err (Check fault)) = AnswersCheck tables s (Some numbers) (Err fault)
IsAnswer tables s numbers (Err (Text text.TooLong)) = IsWithinLimits (statement_text s) → ⊥
IsAnswer tables s numbers (Err fault) = IsMemory fault
