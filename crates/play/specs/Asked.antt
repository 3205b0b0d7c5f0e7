-- What a text of SQL asks for: nothing, a statement that runs, or it is refused before a backend is asked.
use Rattle.std.specs.Prelude.{◌≡◌, ◌+◌, ℕ, ℤ, List, [], ◌∷◌, ◌++◌, Option, Some, None, Ok, Err, IsUtf8, codes}
use Rattle.std.specs.Fmt.{decimal}
use Rattle.pool_base.specs.declared.code.Code.{Code}
use Rattle.pg_values.specs.Range.{IsMoment}
use Rattle.schema.specs.declared.catalogue.TableDef.{TableDef}
use Rattle.sql_tree.specs.declared.statement.Statement.{Statement}
use Rattle.sql_tree.specs.declared.statement.Statement.TheVariants as statement
use Rattle.sql_reader.specs.declared.fault.SqlFault.{SqlFault}
use Rattle.sql_reader.specs.declared.fault.SqlFault.TheVariants as fault
use Rattle.sql_reader.specs.Text.{IsTextOf}
use Rattle.sql_profile.specs.Named.{IsNamedBy, LacksFromAt, HasTooMany}
use Rattle.typed_sql.specs.declared.fault.CheckFault.TheVariants.{Refused}
use Rattle.catalogue.specs.declared.checked.Checked.{Checked}
use Rattle.catalogue.specs.Checking.{AnswersCheck}
use Rattle.classifier.specs.declared.class.Class.{Class}
use Rattle.classifier.specs.declared.class.Class.TheVariants as class
use Rattle.classifier.specs.Classes.{class_of}
use Rattle.time_rewrite.specs.Rewriting.{at_moment}
use Rattle.play.specs.Codes.{outside, about, text_of_code}

-- nothing; a refusal with its code and the text of its message; a statement, with the moment in place of its time functions
pub data Asked : Type 0 where
  nothing : Asked
  refused : (code : List ℕ) → (message : List ℕ) → Asked
  runs : Checked → Asked

-- what is left for later: transaction control, the list of the backends, a recovery
abbrev pub left_out : Statement → Option (List ℕ)
left_out (statement.Select select) = None
left_out (statement.Insert insert) = None
left_out (statement.Update update) = None
left_out (statement.Delete delete) = None
left_out statement.Begin = Some (codes "transaction control")
left_out statement.Commit = Some (codes "transaction control")
left_out statement.Rollback = Some (codes "transaction control")
left_out statement.ShowNodes = Some (codes "show")
left_out (statement.Recover b) = Some (codes "recover")

-- the refusal of what is not in the profile, by its name
abbrev pub left : List ℕ → Asked
left name = refused (codes "0A000") (outside name)

-- the reader's refusals; a place is told from 1
abbrev pub unread : SqlFault → Option Asked
unread (fault.Syntax place) = Some (refused (codes "42601") (codes "syntax error at byte " ++ decimal (place + 1)))
unread (fault.Outside name place) = Some (left name)
unread fault.TooLong = Some (refused (codes "54000") (text_of_code (codes "54000")))
unread fault.NoMemory = None

-- a check's refusal: of one code an INSERT and an UPDATE have texts of their own
abbrev pub unchecked : Statement → List ℕ → List ℕ → Asked
unchecked s code name = refused code (about s code name)

-- a statement that was checked, by its class: an INSERT that takes a serial number is left for later
abbrev pub class_asks : Class → ℤ → Checked → Asked
class_asks class.Read moment checked = runs (at_moment moment checked)
class_asks class.LockingRead moment checked = runs (at_moment moment checked)
class_asks class.Write moment checked = runs (at_moment moment checked)
class_asks class.SerialInsert moment checked = left (codes "serial")

abbrev pub checked_asks : ℤ → Checked → Asked
checked_asks moment checked = class_asks (class_of checked.body) moment checked

-- What the reader tells of a text that it refuses: what the rules say of what is due where it goes wrong. But a `*` or
-- `count(*)` without FROM is told, and a statement too many is, whatever is wrong behind it.
pub record IsUnreadFor (text : List ℕ) (f : SqlFault) : Type 0 where
  pub named : IsNamedBy text f
  pub without_from : (place : ℕ) → LacksFromAt text place → f ≡ fault.Syntax place
  pub too_many : HasTooMany text → f ≡ fault.TooLong

-- what a text of characters asks for over the tables, at a moment
pub data Asks (tables : List TableDef) (moment : ℤ) (text : List ℕ) (asked : Asked) : Type 0 where
  -- the reader refuses it
  faulty : (f : SqlFault) → IsUnreadFor text f → unread f ≡ Some asked → Asks tables moment text asked
  empty : IsTextOf text [] → asked ≡ nothing → Asks tables moment text asked
  several : (first second : Statement) (others : List Statement) → IsTextOf text (first ∷ second ∷ others) → asked ≡ left (codes "several statements")
      → Asks tables moment text asked
  later : (s : Statement) (name : List ℕ) → IsTextOf text (s ∷ []) → left_out s ≡ Some name → asked ≡ left name → Asks tables moment text asked
  -- the check refuses it
  wrong : (s : Statement) (code : Code) (name : List ℕ) → IsTextOf text (s ∷ []) → AnswersCheck tables s None (Err (Refused code name))
      → asked ≡ unchecked s code.bytes name → Asks tables moment text asked
  -- the moment cannot stand in it
  untimely : (s : Statement) (checked : Checked) → IsTextOf text (s ∷ []) → AnswersCheck tables s None (Ok checked) → (IsMoment moment → ⊥)
      → asked ≡ refused (codes "22008") (text_of_code (codes "22008")) → Asks tables moment text asked
  right : (s : Statement) (checked : Checked) → IsTextOf text (s ∷ []) → AnswersCheck tables s None (Ok checked) → IsMoment moment
      → asked ≡ checked_asks moment checked → Asks tables moment text asked

-- what bytes ask for over the tables, at a moment
pub data IsAsked (tables : List TableDef) (moment : ℤ) (text : List ℕ) (asked : Asked) : Type 0 where
  -- they are no text
  no_text : (IsUtf8 text → ⊥) → asked ≡ refused (codes "22021") (text_of_code (codes "22021")) → IsAsked tables moment text asked
  of_text : IsUtf8 text → Asks tables moment text asked → IsAsked tables moment text asked
