-- What a run is to do once its words and its texts were read, and how it then ends.
use Rattle.std.specs.Prelude.{◌≡◌, ◌≢◌, ◌<◌, ◌≤◌, ℕ, Bool, true, List, Option, None, Some, Result, Ok, Err, length, map}
use Rattle.std.specs.List.{AllByRecursion}
use Rattle.pgproto.specs.Spelling.{IsOfGrammar}
use Rattle.pgproto.specs.Line.{Line, line_of}
use Rattle.play.specs.Script.{IsSession}
use Rattle.pool_command.specs.declared.command.Command.{Command}
use Rattle.pool_config.specs.declared.config.Config.{Config}
use Rattle.pool_config.specs.Configuration.{IsAllowed}
use Rattle.pool_config.specs.declared.fault.ConfigFault.{ConfigFault}
use Rattle.pool_config.specs.declared.fault.ConfigFault.TheVariants as faults
use Rattle.pool_run.specs.declared.plan.Lines.{Lines}
use Rattle.pool_run.specs.declared.plan.Plan.{Plan}
use Rattle.pool_run.specs.declared.plan.Stop.{Stop}
use Rattle.pool_run.specs.declared.plan.Stop.TheVariants as stops
use Rattle.pool_run.specs.declared.plan.Way.{Way}
use Rattle.pool_run.specs.declared.plan.Way.TheVariants.{OneClient, Sessions}
use Rattle.pool_run.specs.declared.scripts.ScriptStop.{ScriptStop}
use Rattle.pool_run.specs.declared.scripts.ScriptStop.TheVariants as scripts
use Rattle.pool_run.specs.declared.status.Status.{Status}
use Rattle.pool_run.specs.declared.status.Status.TheVariants.{Refused, ScriptRefused, NoMemory}
use Rattle.pool_run.specs.Ends.{Outside, Untouched, NoCommandEnds, RefusedEnds, UnbuiltEnds, ScriptEnds, SeveralEnds, IsSchemaRefusal, config_too_long, fault_line}
use Rattle.pool_run.specs.Drawing.{TakesNone}
use Rattle.pool_run.specs.Scripts.{script_too_long, bad_line}
use Rattle.pool_run.specs.Texts.{is_plain, is_play, keeps_journal}
use Rattle.pool_run.specs.Ways.{AreSingle}
use Rattle.schema.specs.declared.catalogue.TableDef.{TableDef}
use Rattle.schema.specs.Allowed.{AreAllowed}
use Rattle.schema.specs.Ranges.{AreInRange}

-- lines that may be played so
abbrev pub FitsWay : Way → List Line → Type 0
FitsWay OneClient lines = IsSession lines
FitsWay (Sessions journal) lines = Unit {0}

-- what may be played: lines of the grammar, and one client's where they are played as such
pub record IsPlayable (lines : Lines) : Type 0 where
  pub grammar : AllByRecursion IsOfGrammar (map line_of lines.script)
  pub fits : FitsWay lines.way (map line_of lines.script)

-- so many backends are played
pub record IsFew (count : ℕ) : Type 0 where
  pub some : 0 < count
  pub few : count ≤ 8

-- a plan that can be carried out
pub record IsSound (plan : Plan) : Type 0 where
  pub configured : IsAllowed plan.config
  pub playable : IsPlayable plan.lines
  pub in_range : AreInRange plan.catalogue
  pub allowed : AreAllowed plan.catalogue
  pub count : IsFew (length plan.config.nodes)

-- the fault of a configuration is told; want of memory is no fault of its text
pub record IsFaultRefusal (fault : ConfigFault) (status : Status) (o : Outside) : Type 0 where
  pub memory : fault ≡ faults.NoMemory → (status ≡ NoMemory) × (o.has ≡ o.had)
  pub refuses : fault ≢ faults.NoMemory → RefusedEnds Refused (fault_line fault) status o

-- what the refusal of a script comes to
abbrev pub IsScriptRefusal : ScriptStop → Status → Outside → Type 0
IsScriptRefusal scripts.TooLong status o = RefusedEnds ScriptRefused script_too_long status o
IsScriptRefusal (scripts.BadLine n) status o = RefusedEnds ScriptRefused (bad_line n) status o
IsScriptRefusal scripts.NoMemory status o = (status ≡ NoMemory) × (o.has ≡ o.had)

-- how a run ends that plays no script
abbrev pub StopEnds : Stop → Status → Outside → Type 0
StopEnds (stops.Unread wanted) status o = (status ≡ wanted) × (o.has ≡ o.had)
StopEnds stops.NoCommand status o = NoCommandEnds status o
StopEnds stops.ConfigTooLong status o = RefusedEnds Refused config_too_long status o
StopEnds (stops.Config fault) status o = IsFaultRefusal fault status o
StopEnds (stops.Schema stop) status o = IsSchemaRefusal stop status o
StopEnds (stops.Script stop) status o = IsScriptRefusal stop status o
StopEnds stops.NotBuilt status o = UnbuiltEnds status o

-- how lines end that are played so
abbrev pub WayEnds : Way → Config → List TableDef → List Line → Status → Outside → Type 0
WayEnds OneClient config tables lines status o = ScriptEnds (length config.nodes) tables lines status o
WayEnds (Sessions journal) config tables lines status o = SeveralEnds journal config tables lines status o

-- how the script of a plan ends that is played as sessions
abbrev pub SessionsEnd : Bool → Plan → Status → Outside → Type 0
SessionsEnd journal plan status o = SeveralEnds journal plan.config plan.catalogue (map line_of plan.lines.script) status o

-- how a run ends that is to do this
abbrev pub PlanEnds : Result Plan Stop → Status → Outside → Type 0
PlanEnds (Ok plan) status o = WayEnds plan.lines.way plan.config plan.catalogue (map line_of plan.lines.script) status o
PlanEnds (Err stop) status o = Untouched o × StopEnds stop status o

-- the same of lines, with a configuration and tables
abbrev pub LinesEnd : Config → List TableDef → Result Lines Stop → Status → Outside → Type 0
LinesEnd config tables (Ok lines) status o = WayEnds lines.way config tables (map line_of lines.script) status o
LinesEnd config tables (Err stop) status o = Untouched o × StopEnds stop status o

-- an end of what is to be done is an end of that kind
abbrev pub Leads : Result Plan Stop → (Status → Outside → Type 0) → Type 0
Leads asked Kind = (status : Status) (o : Outside) → PlanEnds asked status o → Kind status o

-- the same of lines, with this configuration and these tables
abbrev pub LinesLead : Config → List TableDef → Result Lines Stop → (Status → Outside → Type 0) → Type 0
LinesLead config tables asked Kind = (status : Status) (o : Outside) → LinesEnd config tables asked status o → Kind status o

-- what is asked for beside the text of the script: one client's single statements that take no serial number; or sessions
abbrev pub IsOneClient : Command → Config → List Line → Type 0
IsOneClient command config lines = ((is_plain command ≡ true) × ((0 < length config.nodes) × (length config.nodes ≤ 8))) × (IsSession lines × AreSingle lines)

abbrev pub FitsOneClient : Command → Config → List TableDef → List Line → Type 0
FitsOneClient command config tables lines = IsOneClient command config lines × TakesNone tables lines

abbrev pub FitsSessions : Command → Config → Type 0
FitsSessions command config = (is_play command ≡ true) × ((0 < length config.nodes) × (length config.nodes ≤ 8))

-- the way in which lines are played, if they are
abbrev pub IsWay : Command → Config → List TableDef → List Line → Option Way → Type 0
IsWay command config tables lines None = ¬ (FitsOneClient command config tables lines) × ¬ (FitsSessions command config)
IsWay command config tables lines (Some OneClient) = FitsOneClient command config tables lines
IsWay command config tables lines (Some (Sessions journal)) =
    ¬ (FitsOneClient command config tables lines) × (FitsSessions command config × (journal ≡ keeps_journal command))
