-- What Parse prepares.
use Rattle.std.specs.Prelude.{◌≡◌, ℕ, Bool, true, false, List, [], ◌∷◌, Some, None, codes}
use Rattle.std.specs.Fmt.{decimal}
use Rattle.schema.specs.declared.catalogue.TableDef.{TableDef}
use Rattle.sql_tree.specs.declared.statement.Statement.{Statement}
use Rattle.sql_tree.specs.declared.statement.Statement.TheVariants as statement
use Rattle.catalogue.specs.declared.checked.Checked.{Checked}
use Rattle.pg_messages.specs.declared.server.ServerMessage.TheVariants.{ParseComplete}
use Rattle.wire_reply.specs.Rows.{IsMessage}
use Rattle.wire_reply.specs.declared.saying.Saying.TheVariants.{Aborted, SyntaxAt}
use Rattle.wire_session.specs.declared.refusal.Refusal.{Refusal}
use Rattle.wire_session.specs.declared.session.Control.TheVariants as control
use Rattle.wire_session.specs.declared.session.Session.{Session}
use Rattle.wire_session.specs.declared.statements.Prepared.{Prepared}
use Rattle.wire_session.specs.declared.statements.Prepared.TheVariants as prepared
use Rattle.wire_session.specs.declared.statements.Statements.{Statements}
use Rattle.wire_session.specs.Refusals.{Says, IsNotTaken}
use Rattle.wire_session.specs.Standing.{StatementStands}
use Rattle.wire_query.specs.declared.checking.Verdict.TheVariants as verdict
use Rattle.wire_query.specs.declared.reading.Reading.{Reading}
use Rattle.wire_query.specs.declared.reading.Reading.TheVariants as reading
use Rattle.wire_query.specs.Texts.{IsReading}
use Rattle.wire_query.specs.Verdicts.{Judges, WhyWrong}
use Rattle.wire_extended.specs.Naming.{TellsNew}
use Rattle.wire_extended.specs.declared.parsing.Made.{Made}
use Rattle.wire_extended.specs.declared.parsing.Made.TheVariants as made
use Rattle.wire_extended.specs.declared.replied.Replied.{Replied}
use Rattle.wire_extended.specs.declared.replied.Replied.TheVariants as replied

abbrev pub IsPrepared : Prepared → Made → Type 0
IsPrepared what (made.Prepared given) = given ≡ what
IsPrepared what (made.Refused r) = ⊥

abbrev pub IsRefused : (Refusal → Type 0) → Made → Type 0
IsRefused P (made.Prepared given) = ⊥
IsRefused P (made.Refused r) = P r

-- in a failed block nothing is prepared but its end
abbrev pub Unless : Bool → Made → Type 0 → Type 0
Unless true m P = IsRefused (Says Aborted (codes "25P02") []) m
Unless false m P = P

-- a statement that the tables take with parameters of these types, or its first fault
abbrev pub PreparesWork : List TableDef → List ℕ → Statement → Made → Type 0
PreparesWork tables kinds s (made.Prepared given) =
    (checked : Checked) × (given ≡ prepared.Checked checked) × Judges tables s (Some kinds) (verdict.Taken checked)
PreparesWork tables kinds s (made.Refused r) = WhyWrong tables s (Some kinds) r

-- what one statement is prepared as, in a failed block or not
abbrev pub PreparesOne : List TableDef → List ℕ → Bool → Statement → Made → Type 0
PreparesOne tables kinds failed statement.Commit m = IsPrepared (prepared.Control control.Commit) m
PreparesOne tables kinds failed statement.Rollback m = IsPrepared (prepared.Control control.Rollback) m
PreparesOne tables kinds failed statement.Begin m = Unless failed m (IsPrepared (prepared.Control control.Begin) m)
PreparesOne tables kinds failed statement.ShowNodes m = Unless failed m (IsRefused (IsNotTaken (codes "show")) m)
PreparesOne tables kinds failed (statement.Recover b) m = Unless failed m (IsRefused (IsNotTaken (codes "recover")) m)
PreparesOne tables kinds failed (statement.Select select) m = Unless failed m (PreparesWork tables kinds (statement.Select select) m)
PreparesOne tables kinds failed (statement.Insert insert) m = Unless failed m (PreparesWork tables kinds (statement.Insert insert) m)
PreparesOne tables kinds failed (statement.Update update) m = Unless failed m (PreparesWork tables kinds (statement.Update update) m)
PreparesOne tables kinds failed (statement.Delete delete) m = Unless failed m (PreparesWork tables kinds (statement.Delete delete) m)

-- several statements are refused at a byte; which one is left open here
abbrev pub IsSeveral : Refusal → Type 0
IsSeveral r = (place : ℕ) × Says SyntaxAt (codes "42601") (decimal place) r

-- what a text is prepared as that is read so
abbrev pub PreparesRead : List TableDef → List ℕ → Bool → Reading → Made → Type 0
PreparesRead tables kinds failed (reading.Refused r) m = m ≡ made.Refused r
PreparesRead tables kinds failed (reading.Statements []) m = IsPrepared prepared.Empty m
PreparesRead tables kinds failed (reading.Statements (one ∷ [])) m = PreparesOne tables kinds failed one m
PreparesRead tables kinds failed (reading.Statements (one ∷ two ∷ more)) m = IsRefused IsSeveral m

-- what a text is prepared as
pub record Prepares (tables : List TableDef) (kinds : List ℕ) (failed : Bool) (text : List ℕ) (m : Made) : Type 0 where
  pub read : Reading
  pub is_read : IsReading text read
  pub made : PreparesRead tables kinds failed read m

-- a statement is put under a name, or the name is refused
abbrev pub TellsNamed : List ℕ → Statements → Replied → Type 0
TellsNamed name s (replied.Bytes bytes) = TellsNew name s None × IsMessage ParseComplete bytes
TellsNamed name s (replied.Refused r) = TellsNew name s (Some r)

-- what is answered to what a text is prepared as
abbrev pub TellsName : Made → List ℕ → Statements → Replied → Type 0
TellsName (made.Refused r) name s reply = reply ≡ replied.Refused r
TellsName (made.Prepared what) name s reply = TellsNamed name s reply

-- what is answered to a Parse
pub record TellsParse (tables : List TableDef) (kinds : List ℕ) (failed : Bool) (text name : List ℕ) (s : Statements) (reply : Replied) : Type 0 where
  pub made : Made
  pub prepares : Prepares tables kinds failed text made
  pub told : TellsName made name s reply

-- what a Parse leaves of what its text is prepared as: it stands under its name, and all else stays; where it is refused nothing changes
abbrev pub LeavesName : Made → List ℕ → Session → Session → Replied → Type 0
LeavesName (made.Refused r) name old new reply = new ≡ old
LeavesName (made.Prepared what) name old new (replied.Bytes bytes) =
    StatementStands name (Some what) old.statements new.statements × (new ≡ record old { statements = new.statements })
LeavesName (made.Prepared what) name old new (replied.Refused r) = new ≡ old

pub record LeavesParse (tables : List TableDef) (kinds : List ℕ) (failed : Bool) (text name : List ℕ) (old new : Session) (reply : Replied) : Type 0 where
  pub made : Made
  pub prepares : Prepares tables kinds failed text made
  pub leaves : LeavesName made name old new reply
