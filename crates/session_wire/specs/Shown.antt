-- A wire without where it lies in memory.
use Rattle.std.specs.Prelude.{◌≡◌, ℕ, Bool, true, false, List, [], ◌++◌, Option, None, drop}
use Rattle.pg_messages.specs.declared.start.Pair.{Pair}
use Rattle.sql_tree.specs.declared.statement.Statement.{Statement}
use Rattle.wire_session.specs.Kept.{IsNew}
use Rattle.wire_session.specs.declared.session.Session.{Session}
use Rattle.wire_session.specs.declared.statements.Statements.{Statements}
use Rattle.session_wire.specs.declared.due.Due.{Due}
use Rattle.session_wire.specs.declared.wire.Stage.{Stage}
use Rattle.session_wire.specs.declared.wire.Stage.TheVariants.{Starting}
use Rattle.session_wire.specs.declared.wire.Wire.{Wire}

pub record View : Type 0 where
  pub number : ℕ  -- of the session
  pub stage : Stage
  pub options : List Pair
  pub session : Session
  pub left : List Statement  -- the statements of the text that were not asked for yet
  pub settles : Bool  -- a Settle is to be ordered behind them
  pub due : Option Due  -- what the last order is for, if it has no outcome yet
  pub rest : List ℕ  -- the bytes that were fed and not taken
  pub ended : Bool
  pub output : List ℕ  -- the bytes that were not written
  pub held : List ℕ  -- the reply that waits for Settle

abbrev pub shown : Wire → View
shown w = record {
  number = w.s.number;
  stage = w.stage;
  options = w.options;
  session = w.session;
  left = drop w.at w.text;
  settles = w.settles;
  due = w.due;
  rest = w.input;
  ended = w.ended;
  output = w.output.bytes.items;
  held = w.output.held.items;
}

-- with bytes behind those that were fed
abbrev pub with_piece : View → List ℕ → View
with_piece v piece = record v { rest = v.rest ++ piece }

abbrev pub with_end : View → View
with_end v = record v { ended = true }

abbrev pub with_written : View → ℕ → View
with_written v count = record v { output = drop count v.output }

-- nothing has come yet, and the session is a new one
abbrev pub IsFresh : ℕ → View → Type 0
IsFresh number v = (v.number ≡ number) × (v.stage ≡ Starting false false) × (v.options ≡ []) × (v.left ≡ []) × (v.settles ≡ false)
    × (v.due ≡ None) × (v.rest ≡ []) × (v.ended ≡ false) × (v.output ≡ []) × (v.held ≡ []) × IsNew v.session

-- what an outcome leaves as it is: whose wire it is, where the session stands, what was fed and not taken, the names of statements
pub record Frame : Type 0 where
  pub number : ℕ
  pub stage : Stage
  pub options : List Pair
  pub settles : Bool
  pub rest : List ℕ
  pub ended : Bool
  pub statements : Statements

abbrev pub frame_of : View → Frame
frame_of v = record {
  number = v.number;
  stage = v.stage;
  options = v.options;
  settles = v.settles;
  rest = v.rest;
  ended = v.ended;
  statements = v.session.statements;
}
