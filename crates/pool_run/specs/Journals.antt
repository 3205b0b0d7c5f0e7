-- The journal of a play, where it is kept: each event comes where it may, and they are those of one store.
use Rattle.std.specs.Prelude.{◌≡◌, ℕ, List, ◌++◌, Option, length}
use Rattle.pool_base.specs.Outside.{Appends, Told, IsTold}
use Rattle.pool_base.specs.declared.backend_set.BackendSet.{BackendSet}
use Rattle.pgproto.specs.Line.{Line}
use Rattle.pgproto.specs.Script.{IsScript}
use Rattle.pool_config.specs.declared.config.Config.{Config}
use Rattle.pool_config.specs.Configuration.{IsConfiguration}
use Rattle.schema.specs.declared.catalogue.TableDef.{TableDef}
use Rattle.schema.specs.Reading.{Says as SaysTables}
use Rattle.journal.specs.Header.{IsHeader}
use Rattle.online_recovery.specs.declared.layout.Layout.{Layout}
use Rattle.session_machine.specs.declared.machine.ReadPolicy.{ReadPolicy}
use Rattle.session_seat.specs.Policy.{policy_in}
use Rattle.session_seat.specs.Shared.{AreFirst, first_shared}
use Rattle.recovery_seat.specs.Places.{IsLayout}
use Rattle.recovery_seat.specs.Schedule.{AreOfSessions, Entry, IsSchedule, State, first_state, lines}
use Rattle.session_player.specs.Written.{ArePlayed as AreSpoken}
use Rattle.one_copy_model.specs.Statement.{ReplicasAgree}
use Rattle.play_laws.specs.Journals.{IsRun}
use Rattle.recovery_laws.specs.Pool.{first_pool, pool_all, IsPlayed}
use Rattle.recovery_laws.specs.Steps.{AllHold}
use Rattle.play_laws.specs.RecoveryFollowing.{Follows, steps_of}

-- a text is the header of this configuration and these tables, and behind it the lines of a schedule of the replicated world that they say, and
-- so of one run of one store
pub record IsOfOneStore (config : Config) (tables : List TableDef) (text : List ℕ) : Type 0 where
  pub count : ℕ
  pub run : IsRun text count
  pub of_config : run.config ≡ config
  pub of_tables : run.start.catalogue ≡ tables

-- what takes place are steps of the replicated world with recoveries, and so of one store: at each of them the invariant holds, each reply to
-- a session is right, and each commit that it acknowledges is done. Behind them the world stands as the play does, and the attached
-- backends agree with the single run
pub record AreOfOneStore (layout : Layout) (policy : ReadPolicy) (attached : BackendSet) (entries : List Entry) (last : State) : Type 0 where
  pub played : IsPlayed (first_pool layout policy attached) (steps_of entries)
  pub all_hold : AllHold (first_pool layout policy attached) (steps_of entries)
  pub follows : Follows layout.tables last (pool_all (first_pool layout policy attached) (steps_of entries))
  pub agree : ReplicasAgree (pool_all (first_pool layout policy attached) (steps_of entries)).tracked

-- a text is the header of this configuration and these tables, and behind it the lines of what takes place in a play: it begins with each
-- backend attached, each entry comes where it may, and it is of one store
pub record IsJournalOf (config : Config) (tables : List TableDef) (text : List ℕ) : Type 0 where
  pub layout : Layout
  pub of_layout : IsLayout config tables layout
  pub attached : BackendSet
  pub are_first : AreFirst attached.bits (length config.nodes)
  pub entries : List Entry
  pub last : State
  pub schedule : IsSchedule tables (first_state (policy_in config) layout (first_shared tables attached)) entries last
  pub header : List ℕ
  pub printed : IsHeader config tables header
  pub parts : text ≡ header ++ lines tables entries
  pub sessions_alone : AreOfSessions entries → IsOfOneStore config tables text
  pub with_recoveries : AreOfOneStore layout (policy_in config) attached entries last

-- a script was played to its end: its transcript was written, and behind it such a journal
pub record HasJournal (config : Config) (tables : List TableDef) (lines : List Line) (old new : Option (List ℕ)) : Type 0 where
  pub transcript : Option (List ℕ)
  pub spoken : AreSpoken lines old transcript
  pub text : List ℕ
  pub journal : IsJournalOf config tables text
  pub wrote : Appends transcript new text

-- and the configuration, the tables and the script are those of their files
pub record PlayedAsOneStore (config_told schema_told script_told : Told) (old new : Option (List ℕ)) : Type 0 where
  pub config_text : List ℕ
  pub tells : IsTold config_told config_text
  pub config : Config
  pub configured : IsConfiguration config_text config
  pub schema_text : List ℕ
  pub tells_schema : IsTold schema_told schema_text
  pub tables : List TableDef
  pub says_tables : SaysTables schema_text tables
  pub script_text : List ℕ
  pub tells_script : IsTold script_told script_text
  pub lines : List Line
  pub says : IsScript script_text lines
  pub has : HasJournal config tables lines old new
