-- Journals whose events are a schedule of the replicated world that their header says.
use Rattle.std.specs.Prelude.{◌≡◌, ℕ, List, ◌++◌, length}
use Rattle.pool_config.specs.declared.config.Config.{Config}
use Rattle.schema.specs.declared.catalogue.TableDef.{TableDef}
use Rattle.journal.specs.Header.{IsHeader}
use Rattle.session_seat.specs.Policy.{policy_in}
use Rattle.session_seat.specs.Shared.{AreFirst}
use Rattle.world_program.specs.declared.replaying.Start.{Start}
use Rattle.play_laws.specs.Runs.{IsRunOfOneStore}

-- the world of a configuration and tables: each backend of the configuration is attached
pub record IsStartOf (config : Config) (tables : List TableDef) (start : Start) : Type 0 where
  pub catalogue : start.catalogue ≡ tables
  pub policy : start.policy ≡ policy_in config
  pub attached : AreFirst start.attached.bits (length config.nodes)

-- behind a header these lines are those of so many events, which are a schedule of the world that it says, and so of one store
pub record IsRun (text : List ℕ) (n : ℕ) : Type 0 where
  pub config : Config
  pub start : Start
  pub header : List ℕ
  pub lines : List ℕ
  pub parts : text ≡ header ++ lines
  pub printed : IsHeader config start.catalogue header
  pub begins : IsStartOf config start.catalogue start
  pub schedule : IsRunOfOneStore start lines n
