-- A script's text: how many lines it has, which lines it says, and why it is refused.
use Rattle.std.specs.Prelude.{◌≡◌, ◌≤◌, ◌<◌, ◌⊎◌, ℕ, ◌+◌, Bool, true, false, ◌||◌, ◌==◌, if◌then◌else◌, List, [], ◌∷◌, ◌++◌, Option, Some, None, length, map, Result, Ok, Err, codes}
use Rattle.std.specs.Fmt.{decimal}
use Rattle.pgproto.specs.Line.{Line, line_of}
use Rattle.pgproto.specs.declared.line.ScriptLine.{ScriptLine}
use Rattle.pgproto.specs.Script.{IsScript, IsBadAt}
use Rattle.pool_command.specs.declared.command.Command.{Command}
use Rattle.pool_command.specs.declared.command.Command.TheVariants.{Play, Generate, Serve}
use Rattle.pool_run.specs.declared.scripts.ScriptStop.{ScriptStop}
use Rattle.pool_run.specs.declared.scripts.ScriptStop.TheVariants.{TooLong, BadLine, NoMemory}

abbrev pub is_none : List ℕ → Bool
is_none [] = true
is_none (b ∷ bytes) = false

-- the number of lines: each LF ends one, and so does the end of the text
abbrev pub lines_in : List ℕ → ℕ
lines_in [] = 0
lines_in (b ∷ bytes) = if (b == 10) || is_none bytes then lines_in bytes + 1 else lines_in bytes

-- whether the command has a script
abbrev pub has_script : Command → Bool
has_script (Play config schema script journal) = true
has_script (Generate config schema number size) = false
has_script (Serve config schema) = false

-- the text that was read is a script of these lines, and not too many
pub record IsReadAs (script : Option (List ℕ)) (lines : List Line) : Type 0 where
  pub text : List ℕ
  pub is : script ≡ Some text
  pub few : lines_in text ≤ 20000
  pub says : IsScript text lines

-- and it is read as no others
pub record IsReading (script : Option (List ℕ)) (lines : List Line) : Type 0 where
  pub reads : IsReadAs script lines
  pub only : (found : List Line) → IsReadAs script found → lines ≡ found

-- the command has no script, or the one that was read stands
pub data Stands (command : Command) (script : Option (List ℕ)) : Type 0 where
  without : has_script command ≡ false → Stands command script
  with : (lines : List Line) → IsReadAs script lines → Stands command script

-- the text is no script
abbrev pub SaysNoScript : List ℕ → Type 0
SaysNoScript text = (lines : List Line) → IsScript text lines → ⊥

abbrev pub script_too_long : List ℕ
script_too_long = codes "pool: script is too long" ++ 10 ∷ []

abbrev pub bad_line : ℕ → List ℕ
bad_line n = codes "pool: script line " ++ (decimal n ++ (codes ": bad line" ++ 10 ∷ []))

-- why the script is refused, with the line that says it: it is above its limit in bytes or in lines, or a line is bad
pub data ScriptCause (command : Command) (script : Option (List ℕ)) (bytes : List ℕ) : Type 0 where
  long_text : has_script command ≡ true → script ≡ None → bytes ≡ script_too_long → ScriptCause command script bytes
  many_lines : (text : List ℕ) → script ≡ Some text → 20000 < lines_in text → bytes ≡ script_too_long → ScriptCause command script bytes
  has_bad_line : (text : List ℕ) (n : ℕ) → script ≡ Some text → lines_in text ≤ 20000 → IsBadAt text n → SaysNoScript text → bytes ≡ bad_line n → ScriptCause command script bytes

-- what the reader of a script says of it
abbrev pub IsAnswer : Command → Option (List ℕ) → Result (Option (List ScriptLine)) ScriptStop → Type 0
IsAnswer command script (Ok None) = has_script command ≡ false
IsAnswer command script (Ok (Some lines)) = IsReading script (map line_of lines)
IsAnswer command script (Err TooLong) = ScriptCause command script script_too_long
IsAnswer command script (Err (BadLine n)) = ScriptCause command script (bad_line n)
IsAnswer command script (Err NoMemory) = Unit {0}

-- a text that is refused as a script
abbrev pub IsRefusedScript : List ℕ → Type 0
IsRefusedScript text = (4194304 < length text) ⊎ ((20000 < lines_in text) ⊎ SaysNoScript text)
