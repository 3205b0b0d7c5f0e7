-- Where the recovery of a session stands, whether it has ordered one or not.
use Rattle.std.specs.Prelude.{◌≡◌, List, Option, Some, None, length}
use Rattle.pool_base.specs.declared.session_id.SessionId.{SessionId}
use Rattle.pool_config.specs.declared.config.Config.{Config}
use Rattle.schema.specs.declared.catalogue.TableDef.{TableDef}
use Rattle.online_recovery.specs.declared.layout.Layout.{Layout}
use Rattle.online_recovery.specs.declared.recovery.Recovery.{Recovery}
use Rattle.online_recovery.specs.declared.standing.Standing.{Standing}
use Rattle.online_recovery.specs.Asking.{standing_in}
use Rattle.online_recovery.specs.State.{new_standing}
use Rattle.recovery_seat.specs.declared.place.Place.{Place}

-- the layout of a configuration and its tables
pub record IsLayout (config : Config) (tables : List TableDef) (layout : Layout) : Type 0 where
  pub of_nodes : layout.nodes ≡ length config.nodes
  pub of_tables : layout.tables ≡ tables

-- a session that has ordered none has a recovery at rest
abbrev pub standing_at : Layout → SessionId → Option Recovery → Standing
standing_at layout s None = new_standing s layout
standing_at layout s (Some recovery) = standing_in recovery

abbrev pub standing_of : Layout → Place → Standing
standing_of layout place = standing_at layout place.seat.s place.recovery
