-- A script: lines that end with LF. Blank lines and lines that begin with # are skipped and counted.
use Rattle.std.specs.Prelude.{◌≡◌, ◌≢◌, ◌≤◌, ◌<◌, ℕ, suc, ◌+◌, ◌++◌, ◌⊎◌, List, [], ◌∷◌, length, map, Option, Some, None, IfSome, Result, Ok, Err}
use Rattle.std.specs.List.{AllByRecursion, flat_map}
use Rattle.pg_messages.specs.Client.{Fits}
use Rattle.pg_messages.specs.declared.client.ClientMessage.{ClientMessage}
use Rattle.pg_messages.specs.declared.client.ClientMessage.TheVariants as client
use Rattle.pg_values.specs.declared.col_type.ColType.TheVariants as kind
use Rattle.pg_values.specs.declared.value.Value.{Value}
use Rattle.pg_values.specs.Answers.{ReadsText}
use Rattle.pgproto.specs.declared.line.ScriptLine.{ScriptLine}
use Rattle.pgproto.specs.declared.line.ScriptValue.{ScriptValue}
use Rattle.pgproto.specs.declared.line.ScriptValue.TheVariants.{Null, Str, Hex}
use Rattle.pgproto.specs.declared.script.ScriptFault.{ScriptFault}
use Rattle.pgproto.specs.declared.script.ScriptFault.TheVariants as fault
use Rattle.pgproto.specs.Line.{Line, IsLine, IsSmall, line_of, session, lose, cut, moment, hold, go, until, raw, query, parse, describe, bind, execute, close, flush, sync, terminate}

-- a value as it stands in a message
abbrev pub value_of : ScriptValue → Option (List ℕ)
value_of Null = None
value_of (Str text) = Some text
value_of (Hex found) = Some found

-- the message that a line sends, where it sends one
abbrev pub message_of : Line → Option ClientMessage
message_of (session s) = None
message_of (lose b) = None
message_of (cut size) = None
message_of (moment text) = None
message_of (hold s) = None
message_of (go s) = None
message_of (until s place) = None
message_of (raw s bytes) = None
message_of (query s text) = Some (client.Query text)
message_of (parse s name text kinds) = Some (client.Parse name text kinds)
message_of (describe s portal name) = Some (client.Describe portal name)
message_of (bind s portal name formats values results) = Some (client.Bind portal name formats (map value_of values) results)
message_of (execute s portal limit) = Some (client.Execute portal limit)
message_of (close s portal name) = Some (client.Close portal name)
message_of (flush s) = Some client.Flush
message_of (sync s) = Some client.Sync
message_of (terminate s) = Some client.Terminate

-- the text is a text form of a moment
abbrev pub IsClock : List ℕ → Type 0
IsClock text = (value : Value) × ReadsText kind.Moment text value

-- the text of a `moment` line is one of a moment
abbrev pub IsTimed : Line → Type 0
IsTimed (moment text) = IsClock text
IsTimed line = Unit {0}

-- the bytes are this line, what it sends can be written, and what it sets is a moment
abbrev pub IsScriptLine : Line → List ℕ → Type 0
IsScriptLine l bytes = IsLine l bytes × IsSmall l × IfSome (message_of l) Fits × IsTimed l

-- a line that says nothing
abbrev pub IsSkipped : List ℕ → Type 0
IsSkipped bytes = (bytes ≡ []) ⊎ ((comment : List ℕ) × (bytes ≡ 35 ∷ comment))

-- no LF stands in it
abbrev pub IsOneLine : List ℕ → Type 0
IsOneLine bytes = AllByRecursion (λ b. b ≢ 10) bytes

-- the lines one after another, each with its end
abbrev pub text_of : List (List ℕ) → List ℕ
text_of lines = flat_map (λ line. line ++ 10 ∷ []) lines

-- the lines that are kept of these, in order
abbrev pub AreLines : List (List ℕ) → List Line → Type 0
AreLines [] found = found ≡ []
AreLines (line ∷ lines) found =
    (IsSkipped line × AreLines lines found)
    ⊎ ((l : Line) × (more : List Line) × IsScriptLine l line × (found ≡ l ∷ more) × AreLines lines more)

-- the text is a script of these lines
pub record IsScript (text : List ℕ) (found : List Line) : Type 0 where
  pub lines : List (List ℕ)
  pub one_each : AllByRecursion IsOneLine lines
  pub text_is : text ≡ text_of lines
  pub are : AreLines lines found

-- the bytes are not skipped, and are no line of a script
abbrev pub IsNoLine : List ℕ → Type 0
IsNoLine bytes = (IsSkipped bytes → ⊥) × ((l : Line) → IsScriptLine l bytes → ⊥)

-- the line is skipped, or kept behind the others
abbrev pub Takes : List Line → List Line → List ℕ → Type 0
Takes old new bytes = (IsSkipped bytes × (new ≡ old)) ⊎ ((l : Line) × IsScriptLine l bytes × (new ≡ old ++ l ∷ []))

-- a line that is no line of a script, or one at the end that has no end
abbrev pub IsBad : List ℕ → List ℕ → Type 0
IsBad bad behind =
    ((rest : List ℕ) × (behind ≡ 10 ∷ rest) × IsNoLine bad)
    ⊎ ((behind ≡ []) × (bad ≢ []))

-- the first bad line of the text has this number, counted from 1
pub record IsBadAt (text : List ℕ) (n : ℕ) : Type 0 where
  pub before : List (List ℕ)
  pub found : List Line
  pub bad : List ℕ
  pub behind : List ℕ
  pub one_each : AllByRecursion IsOneLine before
  pub one : IsOneLine bad
  pub are : AreLines before found
  pub text_is : text ≡ text_of before ++ (bad ++ behind)
  pub number : length before + 1 ≡ n
  pub is_bad : IsBad bad behind

-- where a script is refused, the line's number
abbrev pub IfBadLine : {X : Type 0} → Result X ScriptFault → (ℕ → Type 0) → Type 0
IfBadLine (Ok x) P = Unit {0}
IfBadLine (Err (fault.BadLine n)) P = P n
IfBadLine (Err fault.NoMemory) P = Unit {0}

-- these lines are read, or memory was refused
abbrev pub IsScriptOr : Result (List ScriptLine) ScriptFault → List Line → Type 0
IsScriptOr (Ok script) found = map line_of script ≡ found
IsScriptOr (Err (fault.BadLine n)) found = ⊥
IsScriptOr (Err fault.NoMemory) found = Unit {0}
