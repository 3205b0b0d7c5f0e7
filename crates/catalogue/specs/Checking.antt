-- What a check of a statement answers.
use Rattle.std.specs.Prelude.{◌≡◌, ℕ, List, map, Option, Some, None, Result, Ok, Err, Bool as Truth, is_some}
use Rattle.schema.specs.declared.catalogue.TableDef.{TableDef}
use Rattle.sql_tree.specs.declared.statement.Statement.{Statement}
use Rattle.sql_tree.specs.declared.statement.Statement.TheVariants as statement
use Rattle.typed_sql.specs.declared.fault.CheckFault.{CheckFault}
use Rattle.typed_sql.specs.declared.fault.CheckFault.TheVariants.{Refused, NoMemory}
use Rattle.typed_sql.specs.Places.{or_text}
use Rattle.typed_sql.specs.Steps.{Known, Fault, fault, Answer}
use Rattle.catalogue.specs.declared.checked.Checked.{Checked}
use Rattle.catalogue.specs.Statements.{Body, BodyOf, known_first}

-- SELECT, INSERT, UPDATE and DELETE
abbrev pub IsChecked : Statement → Type 0
IsChecked (statement.Select select) = Unit {0}
IsChecked (statement.Insert insert) = Unit {0}
IsChecked (statement.Update update) = Unit {0}
IsChecked (statement.Delete delete) = Unit {0}
IsChecked _ = ⊥

-- the body, and what is known of the parameters behind all of the text
abbrev pub BodyBehind : List TableDef → Statement → Truth → Result Known Fault → Answer Body → Type 0
BodyBehind tables statement parameters (Err e) answer = answer ≡ Err e
BodyBehind tables statement parameters (Ok known) answer = BodyOf tables parameters statement known answer

-- what is answered is what the statement is over the tables, or its first fault; want of memory alone is free
abbrev pub AnswersCheck : List TableDef → Statement → Option (List ℕ) → Result Checked CheckFault → Type 0
AnswersCheck tables statement kinds (Ok checked) = (known : Known) × (checked.kinds ≡ map or_text known)
    × BodyBehind tables statement (is_some kinds) (known_first kinds) (Ok ((checked.body, checked.columns), known))
AnswersCheck tables statement kinds (Err (Refused code name)) =
    BodyBehind tables statement (is_some kinds) (known_first kinds) (Err (fault code.bytes name))
AnswersCheck tables statement kinds (Err NoMemory) = Unit {0}
