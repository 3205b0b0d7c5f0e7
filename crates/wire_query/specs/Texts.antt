-- What a text of a client is read as.
use Rattle.std.specs.Prelude.{◌≡◌, ◌+◌, ◌≤◌, ℕ, List, [], length, codes, Bool, true, false}
use Rattle.std.specs.Str.{IsUtf8}
use Rattle.std.specs.Fmt.{decimal}
use Rattle.sql_tree.specs.declared.statement.Statement.{Statement}
use Rattle.sql_tree.specs.declared.statement.Statement.TheVariants as statement
use Rattle.sql_reader.specs.declared.fault.SqlFault.{SqlFault}
use Rattle.sql_reader.specs.declared.fault.SqlFault.TheVariants.{Syntax, Outside, TooLong, NoMemory}
use Rattle.sql_reader.specs.Text.{IsTextOf, IsRefusedBy}
use Rattle.wire_reply.specs.declared.saying.Saying.{Saying}
use Rattle.wire_reply.specs.declared.saying.Saying.TheVariants.{SyntaxAt, NotInProfile, LimitPassed, InvalidUtf8}
use Rattle.wire_session.specs.declared.refusal.Refusal.{Refusal}
use Rattle.wire_session.specs.Refusals.{Says}
use Rattle.wire_query.specs.declared.reading.Reading.{Reading}
use Rattle.wire_query.specs.declared.reading.Reading.TheVariants.{Statements, Refused}

-- a fault of a text as a refusal: the byte counts from 1
abbrev pub TellsFault : SqlFault → Refusal → Type 0
TellsFault (Syntax place) r = Says SyntaxAt (codes "42601") (decimal (place + 1)) r
TellsFault (Outside name place) r = Says NotInProfile (codes "0A000") name r
TellsFault TooLong r = Says LimitPassed (codes "54000") [] r
TellsFault NoMemory r = ⊥

-- why a text is refused: it is no UTF-8; it is too long for a place; or the reader of texts refuses it
pub data WhyRefused (text : List ℕ) (r : Refusal) : Type 0 where
  no_utf8 : ¬ (IsUtf8 text) → Says InvalidUtf8 (codes "22021") [] r → WhyRefused text r
  long : 4294967295 ≤ length text → Says LimitPassed (codes "54000") [] r → WhyRefused text r
  faulty : (fault : SqlFault) → IsRefusedBy text fault → TellsFault fault r → WhyRefused text r

-- a text is its statements, or is refused
abbrev pub IsReading : List ℕ → Reading → Type 0
IsReading text (Statements all) = IsUtf8 text × IsTextOf text all
IsReading text (Refused r) = WhyRefused text r

-- it begins or ends a block, or brings a backend back
abbrev pub is_control : Statement → Bool
is_control statement.Begin = true
is_control statement.Commit = true
is_control statement.Rollback = true
is_control (statement.Recover b) = true
is_control (statement.Select select) = false
is_control (statement.Insert insert) = false
is_control (statement.Update update) = false
is_control (statement.Delete delete) = false
is_control statement.ShowNodes = false
