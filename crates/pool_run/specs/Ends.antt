-- How a run may end: for each case, each status with what was written, or that it never comes.
use Rattle.std.specs.Prelude.{◌≡◌, ◌<◌, ◌⊎◌, ℕ, Bool, true, length, List, ◌++◌, Option, Some, None, codes}
use Rattle.pool_base.specs.Outside.{Rose, Appends, AppendsFront, Told, IsTold, IsLonger}
use Rattle.backend_trait.specs.Rows.{Rows, no_rows}
use Rattle.backend_trait.specs.Store.{Store}
use Rattle.pgproto.specs.Line.{Line}
use Rattle.pgproto.specs.Script.{IsScript}
use Rattle.play.specs.Script.{IsSession}
use Rattle.play.specs.Transcript.{ArePlayed, ArePlayedInPart}
use Rattle.session_player.specs.Written.{ArePlayed as AreSpoken}
use Rattle.pool_run.specs.declared.status.Status.{Status}
use Rattle.pool_command.specs.declared.command.Command.{Command}
use Rattle.pool_command.specs.Command.{command_of}
use Rattle.pool_config.specs.declared.config.Config.{Config}
use Rattle.pool_config.specs.declared.fault.ConfigFault.{ConfigFault}
use Rattle.pool_config.specs.Configuration.{IsConfiguration, IsFault}
use Rattle.pool_config.specs.Printed.{shown}
use Rattle.pool_run.specs.declared.status.Status.TheVariants.{Done, NoCommand, Refused, ScriptRefused, FilesFailed, SinkFailed, NoMemory, NotBuilt, Stopped, NoneLeft}
use Rattle.schema.specs.declared.catalogue.TableDef.{TableDef}
use Rattle.pool_run.specs.Status.{code_of}
use Rattle.pool_run.specs.declared.schemas.SchemaStop.{SchemaStop}
use Rattle.pool_run.specs.declared.schemas.SchemaStop.TheVariants as schemas
use Rattle.schema.specs.Reading.{Says as SaysTables}
use Rattle.pool_run.specs.Schemas.{IsSchemaRead, SchemaCause, schema_too_long, bad_schema_line}
use Rattle.pool_run.specs.Scripts.{ScriptCause, Stands}
use Rattle.pool_run.specs.Shelf.{HaveRows}
use Rattle.pool_run.specs.Journals.{HasJournal}
use Rattle.pool_run.specs.Replies.{IsReplied, IsRepliedInPart}
use Rattle.pool_run.specs.Texts.{config_name, schema_name, IsRead, IsScriptRead, IsBuilt, IsSeveral, keeps_journal, line}

abbrev pub no_command : List ℕ
no_command = line (codes "pool: the words are no command")

abbrev pub config_too_long : List ℕ
config_too_long = line (codes "pool: configuration is too long")

abbrev pub fault_line : ConfigFault → List ℕ
fault_line fault = line (codes "pool: " ++ shown fault)

abbrev pub not_built : List ℕ
not_built = line (codes "pool: not built yet")

-- what lies outside, before the run and after it: the sink's faults and bytes, and the stores of the shelf
pub record Outside : Type 0 where
  pub faults_before : ℕ
  pub faults_after : ℕ
  pub had : Option (List ℕ)
  pub has : Option (List ℕ)
  pub stores_before : List Store
  pub stores_after : List Store

abbrev pub outside : ℕ → ℕ → Option (List ℕ) → Option (List ℕ) → List Store → List Store → Outside
outside n m a b x y = record { faults_before = n; faults_after = m; had = a; has = b; stores_before = x; stores_after = y }

-- no store was touched
abbrev pub Untouched : Outside → Type 0
Untouched o = o.stores_after ≡ o.stores_before

-- the sink failed, and has a front of the bytes
abbrev pub Fails : Outside → List ℕ → Type 0
Fails o bytes = Rose o.faults_before o.faults_after × AppendsFront o.had o.has bytes

-- the words are no command; memory may be refused while they are read
abbrev pub NoCommandEnds : Status → Outside → Type 0
NoCommandEnds Done o = ⊥
NoCommandEnds NoCommand o = Appends o.had o.has no_command
NoCommandEnds Refused o = ⊥
NoCommandEnds ScriptRefused o = ⊥
NoCommandEnds FilesFailed o = ⊥
NoCommandEnds SinkFailed o = Fails o no_command
NoCommandEnds NoMemory o = o.has ≡ o.had
NoCommandEnds NotBuilt o = ⊥
NoCommandEnds Stopped o = ⊥
NoCommandEnds NoneLeft o = ⊥

-- a text that was read is refused with this status, and this line says why; memory may be refused before it is written
abbrev pub RefusedEnds : Status → List ℕ → Status → Outside → Type 0
RefusedEnds wanted bytes Done o = ⊥
RefusedEnds wanted bytes NoCommand o = ⊥
RefusedEnds wanted bytes Refused o = (wanted ≡ Refused) × Appends o.had o.has bytes
RefusedEnds wanted bytes ScriptRefused o = (wanted ≡ ScriptRefused) × Appends o.had o.has bytes
RefusedEnds wanted bytes FilesFailed o = ⊥
RefusedEnds wanted bytes SinkFailed o = Fails o bytes
RefusedEnds wanted bytes NoMemory o = o.has ≡ o.had
RefusedEnds wanted bytes NotBuilt o = ⊥
RefusedEnds wanted bytes Stopped o = ⊥
RefusedEnds wanted bytes NoneLeft o = ⊥

-- a text was not read, or memory was refused before
abbrev pub UnreadEnds : ℕ → ℕ → Status → Outside → Type 0
UnreadEnds before after Done o = ⊥
UnreadEnds before after NoCommand o = ⊥
UnreadEnds before after Refused o = ⊥
UnreadEnds before after ScriptRefused o = ⊥
UnreadEnds before after FilesFailed o = Rose before after × (o.has ≡ o.had)
UnreadEnds before after SinkFailed o = ⊥
UnreadEnds before after NoMemory o = o.has ≡ o.had
UnreadEnds before after NotBuilt o = ⊥
UnreadEnds before after Stopped o = ⊥
UnreadEnds before after NoneLeft o = ⊥

-- the texts ask for what is not built
abbrev pub UnbuiltEnds : Status → Outside → Type 0
UnbuiltEnds Done o = ⊥
UnbuiltEnds NoCommand o = ⊥
UnbuiltEnds Refused o = ⊥
UnbuiltEnds ScriptRefused o = ⊥
UnbuiltEnds FilesFailed o = ⊥
UnbuiltEnds SinkFailed o = Fails o not_built
UnbuiltEnds NoMemory o = ⊥
UnbuiltEnds NotBuilt o = Appends o.had o.has not_built
UnbuiltEnds Stopped o = ⊥
UnbuiltEnds NoneLeft o = ⊥

-- the script is played over so many backends of these tables
abbrev pub ScriptEnds : ℕ → List TableDef → List Line → Status → Outside → Type 0
ScriptEnds count tables lines Done o = (rows : Rows) × ArePlayed tables lines no_rows o.had o.has rows × HaveRows count tables rows o.stores_after
ScriptEnds count tables lines NoCommand o = ⊥
ScriptEnds count tables lines Refused o = ⊥
ScriptEnds count tables lines ScriptRefused o = ⊥
ScriptEnds count tables lines FilesFailed o = ⊥
ScriptEnds count tables lines SinkFailed o = Rose o.faults_before o.faults_after × ArePlayedInPart tables lines no_rows o.had o.has
ScriptEnds count tables lines NoMemory o = ArePlayedInPart tables lines no_rows o.had o.has
ScriptEnds count tables lines NotBuilt o = ⊥
ScriptEnds count tables lines Stopped o = ⊥
ScriptEnds count tables lines NoneLeft o = ⊥

-- a script of sessions was played to its end: each line has its echo, in order, and behind it what is told; behind all stands the journal, where
-- it is kept; and what is told is the transcript of a schedule of one store. The status has that number
abbrev pub IsSpoken : Bool → ℕ → Config → List TableDef → List Line → Outside → Type 0
IsSpoken journal number config tables lines o =
    AreSpoken lines o.had o.has × (journal ≡ true → HasJournal config tables lines o.had o.has) × IsReplied config tables lines journal number o.stores_after o.had o.has

-- a play of such a script was broken off
abbrev pub IsSpokenInPart : Bool → Config → List TableDef → List Line → Outside → Type 0
IsSpokenInPart journal config tables lines o = IsRepliedInPart config tables lines journal o.had o.has

-- a script of sessions is played, with its journal or without; where a check inside the pool fails, the pool stops itself. Memory may be
-- refused before anything is written
abbrev pub SeveralEnds : Bool → Config → List TableDef → List Line → Status → Outside → Type 0
SeveralEnds journal config tables lines Done o = IsSpoken journal 0 config tables lines o
SeveralEnds journal config tables lines NoCommand o = ⊥
SeveralEnds journal config tables lines Refused o = ⊥
SeveralEnds journal config tables lines ScriptRefused o = ⊥
SeveralEnds journal config tables lines FilesFailed o = ⊥
SeveralEnds journal config tables lines SinkFailed o = Rose o.faults_before o.faults_after × IsSpokenInPart journal config tables lines o
SeveralEnds journal config tables lines NoMemory o = (o.has ≡ o.had) ⊎ IsSpokenInPart journal config tables lines o
SeveralEnds journal config tables lines NotBuilt o = ⊥
SeveralEnds journal config tables lines Stopped o = IsSpokenInPart journal config tables lines o
SeveralEnds journal config tables lines NoneLeft o = IsSpoken journal 6 config tables lines o

-- a script of this text was played to its end over these tables and the backends of the configuration: what was written is the transcript of
-- one store, and each backend has its rows
pub record PlayedOver (config : Config) (tables : List TableDef) (text : List ℕ) (o : Outside) : Type 0 where
  pub lines : List Line
  pub says : IsScript text lines
  pub one : IsSession lines
  pub some : 0 < length config.nodes
  pub left : Rows
  pub wrote : ArePlayed tables lines no_rows o.had o.has left
  pub rows : HaveRows (length config.nodes) tables left o.stores_after

-- and the configuration and the tables are those of their files
pub record Played (config_told schema_told : Told) (text : List ℕ) (o : Outside) : Type 0 where
  pub config_text : List ℕ
  pub tells : IsTold config_told config_text
  pub config : Config
  pub configured : IsConfiguration config_text config
  pub schema_text : List ℕ
  pub tells_schema : IsTold schema_told schema_text
  pub tables : List TableDef
  pub says_tables : SaysTables schema_text tables
  pub over : PlayedOver config tables text o

-- all texts of the command were read, and the schema says these tables: the script is refused and nothing else is done, it is played as one client's
-- statements or as sessions, or it stands and asks for what is not built
pub data TextsEnds (command : Command) (config : Config) (tables : List TableDef) (script : Option (List ℕ)) (status : Status) (o : Outside) : Type 0 where
  refused : (bytes : List ℕ) → ScriptCause command script bytes → Untouched o → RefusedEnds ScriptRefused bytes status o → TextsEnds command config tables script status o
  built : (lines : List Line) → IsBuilt command config tables script lines → ScriptEnds (length config.nodes) tables lines status o → TextsEnds command config tables script status o
  several : (lines : List Line) → IsSeveral command config script lines → ((found : List Line) → IsBuilt command config tables script found → ⊥) → SeveralEnds (keeps_journal command) config tables lines status o → TextsEnds command config tables script status o
  unbuilt : Stands command script → ((lines : List Line) → IsBuilt command config tables script lines → ⊥) → ((lines : List Line) → IsSeveral command config script lines → ⊥) → Untouched o → UnbuiltEnds status o → TextsEnds command config tables script status o
  unchecked : status ≡ NoMemory → o.has ≡ o.had → Untouched o → TextsEnds command config tables script status o

-- the schema stands: the script was read, if the command has one, or it was not
pub data ScriptStageEnds (contents : List ℕ → Told) (before after : ℕ) (command : Command) (config : Config) (tables : List TableDef) (status : Status) (o : Outside) : Type 0 where
  script_unread : Untouched o → UnreadEnds before after status o → ScriptStageEnds contents before after command config tables status o
  script_read : (script : Option (List ℕ)) → IsScriptRead contents command script → TextsEnds command config tables script status o → ScriptStageEnds contents before after command config tables status o

-- the schema was read: it says these tables, or it is refused and nothing else is done
pub data SchemaEnds (contents : List ℕ → Told) (before after : ℕ) (command : Command) (config : Config) (schema : Option (List ℕ)) (status : Status) (o : Outside) : Type 0 where
  schema_stands : (tables : List TableDef) → IsSchemaRead schema tables → ScriptStageEnds contents before after command config tables status o → SchemaEnds contents before after command config schema status o
  schema_refused : (bytes : List ℕ) → SchemaCause schema bytes → Untouched o → RefusedEnds Refused bytes status o → SchemaEnds contents before after command config schema status o
  schema_unparsed : status ≡ NoMemory → o.has ≡ o.had → Untouched o → SchemaEnds contents before after command config schema status o

-- the configuration stands: the schema was read, or it was not
pub data RestEnds (contents : List ℕ → Told) (before after : ℕ) (command : Command) (config : Config) (status : Status) (o : Outside) : Type 0 where
  schema_unread : Untouched o → UnreadEnds before after status o → RestEnds contents before after command config status o
  schema_read : (schema : Option (List ℕ)) → IsRead (contents (schema_name command)) 262144 schema → SchemaEnds contents before after command config schema status o → RestEnds contents before after command config status o

-- the text says no configuration
abbrev pub SaysNone : List ℕ → Type 0
SaysNone text = (config : Config) → IsConfiguration text config → ⊥

-- the text of the configuration was read: it says a configuration, or it has a first fault and nothing else is done
pub data ConfigEnds (contents : List ℕ → Told) (before after : ℕ) (command : Command) (text : List ℕ) (status : Status) (o : Outside) : Type 0 where
  configured : (config : Config) → IsConfiguration text config → RestEnds contents before after command config status o → ConfigEnds contents before after command text status o
  faulty : (fault : ConfigFault) → IsFault text fault → SaysNone text → Untouched o → RefusedEnds Refused (fault_line fault) status o → ConfigEnds contents before after command text status o
  unparsed : status ≡ NoMemory → o.has ≡ o.had → Untouched o → ConfigEnds contents before after command text status o

-- the words are a command: its configuration was not read, is too long, or was read
pub data CommandEnds (contents : List ℕ → Told) (before after : ℕ) (command : Command) (status : Status) (o : Outside) : Type 0 where
  unread : Untouched o → UnreadEnds before after status o → CommandEnds contents before after command status o
  long : IsRead (contents (config_name command)) 65536 None → Untouched o → RefusedEnds Refused config_too_long status o → CommandEnds contents before after command status o
  read : (text : List ℕ) → IsRead (contents (config_name command)) 65536 (Some text) → ConfigEnds contents before after command text status o → CommandEnds contents before after command status o

abbrev pub WordsEnd : Option Command → (List ℕ → Told) → ℕ → ℕ → Status → Outside → Type 0
WordsEnd None contents before after status o = Untouched o × NoCommandEnds status o
WordsEnd (Some command) contents before after status o = CommandEnds contents before after command status o

abbrev pub Ends : List (List ℕ) → (List ℕ → Told) → ℕ → ℕ → Status → Outside → Type 0
Ends words contents before after status o = WordsEnd (command_of words) contents before after status o

-- the same of the number
pub record Returns (words : List (List ℕ)) (contents : List ℕ → Told) (before after number : ℕ) (o : Outside) : Type 0 where
  pub status : Status
  pub is : number ≡ code_of status
  pub ends : Ends words contents before after status o

-- a text that is refused as a configuration: it is too long, or says none
abbrev pub IsRefusedText : List ℕ → Type 0
IsRefusedText text = (65536 < length text) ⊎ SaysNone text

-- why the configuration is refused, with the line that says it
pub data Cause (told : Told) (bytes : List ℕ) : Type 0 where
  too_long : IsLonger told 65536 → bytes ≡ config_too_long → Cause told bytes
  has_fault : (text : List ℕ) (fault : ConfigFault) → IsTold told text → IsFault text fault → SaysNone text → bytes ≡ fault_line fault → Cause told bytes

-- why the status is 2, with the line that says it: the configuration is refused, or it stands and the schema is refused
pub data RefusedCause (contents : List ℕ → Told) (command : Command) (bytes : List ℕ) : Type 0 where
  by_config : Cause (contents (config_name command)) bytes → RefusedCause contents command bytes
  by_schema : (text : List ℕ) (config : Config) (schema : Option (List ℕ)) → IsRead (contents (config_name command)) 65536 (Some text) → IsConfiguration text config
      → IsRead (contents (schema_name command)) 262144 schema → SchemaCause schema bytes → RefusedCause contents command bytes

-- a text that the command names is refused with status 2, its line was written, and nothing else was done
pub record TextIsRefused (words : List (List ℕ)) (contents : List ℕ → Told) (o : Outside) : Type 0 where
  pub command : Command
  pub is : command_of words ≡ Some command
  pub bytes : List ℕ
  pub cause : RefusedCause contents command bytes
  pub wrote : Appends o.had o.has bytes
  pub rows : Untouched o

-- the script that the command names was refused, its line was written, and nothing else was done
pub record ScriptIsRefused (words : List (List ℕ)) (contents : List ℕ → Told) (o : Outside) : Type 0 where
  pub command : Command
  pub is : command_of words ≡ Some command
  pub script : Option (List ℕ)
  pub read : IsScriptRead contents command script
  pub bytes : List ℕ
  pub cause : ScriptCause command script bytes
  pub wrote : Appends o.had o.has bytes
  pub rows : Untouched o

-- a line that is to be written, and the status that it comes with
abbrev pub Says : Status → Status → List ℕ → Option (List ℕ) → Option (List ℕ) → ℕ → ℕ → Type 0
Says wanted SinkFailed bytes old new before after = Rose before after × AppendsFront old new bytes
Says wanted Done bytes old new before after = (wanted ≡ Done) × Appends old new bytes
Says wanted NoCommand bytes old new before after = (wanted ≡ NoCommand) × Appends old new bytes
Says wanted Refused bytes old new before after = (wanted ≡ Refused) × Appends old new bytes
Says wanted ScriptRefused bytes old new before after = (wanted ≡ ScriptRefused) × Appends old new bytes
Says wanted FilesFailed bytes old new before after = (wanted ≡ FilesFailed) × Appends old new bytes
Says wanted NoMemory bytes old new before after = (wanted ≡ NoMemory) × Appends old new bytes
Says wanted NotBuilt bytes old new before after = (wanted ≡ NotBuilt) × Appends old new bytes
Says wanted Stopped bytes old new before after = (wanted ≡ Stopped) × Appends old new bytes
Says wanted NoneLeft bytes old new before after = (wanted ≡ NoneLeft) × Appends old new bytes

-- what the refusal of a schema comes to
abbrev pub IsSchemaRefusal : SchemaStop → Status → Outside → Type 0
IsSchemaRefusal schemas.TooLong status o = RefusedEnds Refused schema_too_long status o
IsSchemaRefusal (schemas.BadLine n) status o = RefusedEnds Refused (bad_schema_line n) status o
IsSchemaRefusal schemas.NoMemory status o = (status ≡ NoMemory) × (o.has ≡ o.had)
