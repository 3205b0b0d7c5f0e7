-- Which texts of a script take a serial number of the tables.
use Rattle.std.specs.Prelude.{◌≡◌, ◌<◌, ◌⊎◌, ℕ, Bool, true, false, is_some, not, List, [], ◌∷◌, None, Ok, length}
use Rattle.std.specs.List.{list_all}
use Rattle.std.specs.Str.{IsUtf8}
use Rattle.schema.specs.declared.catalogue.TableDef.{TableDef}
use Rattle.sql_tree.specs.declared.statement.Statement.{Statement}
use Rattle.sql_tree.specs.declared.statement.Statement.TheVariants as statement
use Rattle.sql_reader.specs.Text.{IsTextOf}
use Rattle.catalogue.specs.declared.checked.Checked.{Checked}
use Rattle.catalogue.specs.Checking.{AnswersCheck}
use Rattle.classifier.specs.declared.class.Class.TheVariants.{SerialInsert}
use Rattle.classifier.specs.Classes.{class_of}
use Rattle.pgproto.specs.Line.{Line, query}

-- a statement that the tables take draws a number of its table's serial column
pub record InsertDraws (tables : List TableDef) (s : Statement) : Type 0 where
  pub checked : Checked
  pub is : AnswersCheck tables s None (Ok checked)
  pub draws : class_of checked.body ≡ SerialInsert

-- an INSERT alone draws
abbrev pub StatementDraws : List TableDef → Statement → Type 0
StatementDraws tables (statement.Insert insert) = InsertDraws tables (statement.Insert insert)
StatementDraws tables (statement.Select select) = ⊥
StatementDraws tables (statement.Update update) = ⊥
StatementDraws tables (statement.Delete delete) = ⊥
StatementDraws tables statement.Begin = ⊥
StatementDraws tables statement.Commit = ⊥
StatementDraws tables statement.Rollback = ⊥
StatementDraws tables statement.ShowNodes = ⊥
StatementDraws tables (statement.Recover b) = ⊥

-- the one statement of a text draws
abbrev pub StatementsDraw : List TableDef → List Statement → Type 0
StatementsDraw tables [] = ⊥
StatementsDraw tables (s ∷ []) = StatementDraws tables s
StatementsDraw tables (s ∷ another ∷ more) = ⊥

-- a text of one statement that draws; a text of 4294967295 bytes or more fits into no message
pub record TextDraws (tables : List TableDef) (text : List ℕ) : Type 0 where
  pub utf8 : IsUtf8 text
  pub short : length text < 4294967295
  pub statements : List Statement
  pub says : IsTextOf text statements
  pub draw : StatementsDraw tables statements

abbrev pub LineDraws : List TableDef → Line → Type 0
LineDraws tables (query s text) = TextDraws tables text
LineDraws tables line = ⊥

-- no line draws
abbrev pub NoneDraws : List TableDef → List Line → Type 0
NoneDraws tables [] = Unit {0}
NoneDraws tables (line ∷ lines) = ¬ (LineDraws tables line) × NoneDraws tables lines

-- no table has a serial column
abbrev pub is_numberless : TableDef → Bool
is_numberless table = not (is_some table.serial)

-- no serial number is taken: no table has a serial column, or no line draws
abbrev pub TakesNone : List TableDef → List Line → Type 0
TakesNone tables lines = (list_all is_numberless tables ≡ true) ⊎ NoneDraws tables lines
