-- The texts that a command names, what is read of them, and what is built.
use Rattle.std.specs.Prelude.{◌≡◌, ◌<◌, ◌≤◌, ℕ, Bool, true, false, not, List, [], ◌∷◌, ◌++◌, Option, Some, None, length}
use Rattle.pool_base.specs.Outside.{Told, IsTold, IsLonger}
use Rattle.pgproto.specs.Line.{Line}
use Rattle.play.specs.Script.{IsSession}
use Rattle.pool_command.specs.declared.command.Command.{Command}
use Rattle.pool_command.specs.declared.command.Command.TheVariants.{Play, Generate, Serve}
use Rattle.pool_config.specs.declared.config.Config.{Config}
use Rattle.schema.specs.declared.catalogue.TableDef.{TableDef}
use Rattle.pool_run.specs.Drawing.{TakesNone}
use Rattle.pool_run.specs.Scripts.{IsReadAs}
use Rattle.pool_run.specs.Ways.{AreSingle}

-- the file of the configuration
abbrev pub config_name : Command → List ℕ
config_name (Play config schema script journal) = config
config_name (Generate config schema number size) = config
config_name (Serve config schema) = config

-- the file of the schema
abbrev pub schema_name : Command → List ℕ
schema_name (Play config schema script journal) = schema
schema_name (Generate config schema number size) = schema
schema_name (Serve config schema) = schema

-- the text that was read is the file's, where the file tells; None is a file above the limit
abbrev pub IsRead : Told → ℕ → Option (List ℕ) → Type 0
IsRead told limit None = IsLonger told limit
IsRead told limit (Some text) = IsTold told text × (length text ≤ limit)

-- the script of the command was read so; a command without one has none
abbrev pub IsScriptRead : (List ℕ → Told) → Command → Option (List ℕ) → Type 0
IsScriptRead contents (Play config schema script journal) text = IsRead (contents script) 4194304 text
IsScriptRead contents (Generate config schema number size) text = text ≡ None
IsScriptRead contents (Serve config schema) text = text ≡ None

abbrev pub line : List ℕ → List ℕ
line text = text ++ 10 ∷ []

-- to play a script without its journal
abbrev pub is_plain : Command → Bool
is_plain (Play config schema script journal) = not journal
is_plain (Generate config schema number size) = false
is_plain (Serve config schema) = false

-- whether a script is played
abbrev pub is_play : Command → Bool
is_play (Play config schema script journal) = true
is_play (Generate config schema number size) = false
is_play (Serve config schema) = false

-- whether the journal is kept
abbrev pub keeps_journal : Command → Bool
keeps_journal (Play config schema script journal) = journal
keeps_journal (Generate config schema number size) = false
keeps_journal (Serve config schema) = false

-- a script of one client that sends single statements, of which none takes a serial number of the tables, is played, over one to eight
-- backends, without the journal
pub record IsBuilt (command : Command) (config : Config) (tables : List TableDef) (script : Option (List ℕ)) (lines : List Line) : Type 0 where
  pub plain : is_plain command ≡ true
  pub some_backend : 0 < length config.nodes
  pub few_backends : length config.nodes ≤ 8
  pub reads : IsReadAs script lines
  pub session : IsSession lines
  pub single : AreSingle lines
  pub takes_none : TakesNone tables lines

-- any other script is played too, over one to eight backends
pub record IsSeveral (command : Command) (config : Config) (script : Option (List ℕ)) (lines : List Line) : Type 0 where
  pub plays : is_play command ≡ true
  pub some_backend : 0 < length config.nodes
  pub few_backends : length config.nodes ≤ 8
  pub reads : IsReadAs script lines
