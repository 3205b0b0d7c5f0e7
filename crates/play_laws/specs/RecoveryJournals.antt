-- Journals whose lines tell of steps that take place in the replicated world with recoveries that their header says.
use Rattle.std.specs.Prelude.{◌≡◌, ℕ, List, ◌++◌, length}
use Rattle.pool_base.specs.declared.backend_set.BackendSet.{BackendSet}
use Rattle.pool_config.specs.declared.config.Config.{Config}
use Rattle.schema.specs.declared.catalogue.TableDef.{TableDef}
use Rattle.journal.specs.Header.{IsHeader}
use Rattle.session_machine.specs.declared.machine.ReadPolicy.{ReadPolicy}
use Rattle.session_seat.specs.Policy.{policy_in}
use Rattle.session_seat.specs.Shared.{AreFirst}
use Rattle.online_recovery.specs.declared.layout.Layout.{Layout}
use Rattle.recovery_laws.specs.Pool.{first_pool, IsPlayed}
use Rattle.recovery_laws.specs.Steps.{AllHold}
use Rattle.recovery_seat.specs.Schedule.{Entry, lines}
use Rattle.play_laws.specs.RecoveryFollowing.{steps_of}

-- the world of a configuration and tables: its layout has them, and each backend of the configuration is attached
pub record IsWorldOf (config : Config) (tables : List TableDef) (layout : Layout) (policy : ReadPolicy) (attached : BackendSet) : Type 0 where
  pub of_tables : layout.tables ≡ tables
  pub of_nodes : layout.nodes ≡ length config.nodes
  pub reads : policy ≡ policy_in config
  pub are_first : AreFirst attached.bits (length config.nodes)

-- behind a header these lines tell of what may take place in the world that it says, and that is of one store: at each step the invariant
-- holds, and each reply to a session is right
pub record IsTold (text : List ℕ) : Type 0 where
  pub config : Config
  pub layout : Layout
  pub policy : ReadPolicy
  pub attached : BackendSet
  pub header : List ℕ
  pub entries : List Entry
  pub parts : text ≡ header ++ lines layout.tables entries
  pub printed : IsHeader config layout.tables header
  pub begins : IsWorldOf config layout.tables layout policy attached
  pub played : IsPlayed (first_pool layout policy attached) (steps_of entries)
  pub one_store : AllHold (first_pool layout policy attached) (steps_of entries)
