-- Where the sessions of a play stand, and its journal.
use Rattle.std.specs.Prelude.{◌≡◌, ◌<◌, ℕ, ◌-◌, List, ◌++◌, Option, length, slice_index_or}
use Rattle.pool_base.specs.Outside.{Appends}
use Rattle.pool_base.specs.declared.session_id.SessionId.{SessionId}
use Rattle.pool_config.specs.declared.config.Config.{Config}
use Rattle.schema.specs.declared.catalogue.TableDef.{TableDef}
use Rattle.journal.specs.Header.{IsHeader}
use Rattle.session_machine.specs.declared.machine.Machine.{Machine}
use Rattle.session_machine.specs.declared.machine.ReadPolicy.{ReadPolicy}
use Rattle.session_machine.specs.Rules.{new_machine}
use Rattle.session_engine.specs.Cores.{machine_in}
use Rattle.online_recovery.specs.declared.layout.Layout.{Layout}
use Rattle.online_recovery.specs.declared.standing.Standing.{Standing}
use Rattle.online_recovery.specs.State.{new_standing}
use Rattle.session_seat.specs.declared.book.Journal.{Journal}
use Rattle.session_seat.specs.declared.book.Journal.TheVariants.{Off, On}
use Rattle.session_seat.specs.Shared.{Shared}
use Rattle.recovery_seat.specs.Places.{standing_of}
use Rattle.recovery_seat.specs.Schedule.{State}
use Rattle.recovery_seat.specs.Steps.{state}
use Rattle.session_player.specs.declared.slots.Slot.{Slot}
use Rattle.session_player.specs.declared.slots.Slot.TheVariants.{Free, Taken}

-- the machine of session s: that of its client; where none is connected, that of its start
abbrev pub machine_in_slot : ReadPolicy → SessionId → Slot → Machine
machine_in_slot policy s Free = new_machine s policy
machine_in_slot policy s (Taken client) = machine_in client.place.seat.core

abbrev pub machines_of : ReadPolicy → List Slot → SessionId → Machine
machines_of policy slots s = machine_in_slot policy s (slice_index_or slots (s.number - 1) Free)

-- where the recovery of session s stands: that of its client; where none is connected, it rests
abbrev pub standing_in_slot : Layout → SessionId → Slot → Standing
standing_in_slot layout s Free = new_standing s layout
standing_in_slot layout s (Taken client) = standing_of layout client.place

abbrev pub standings_of : Layout → List Slot → SessionId → Standing
standings_of layout slots s = standing_in_slot layout s (slice_index_or slots (s.number - 1) Free)

abbrev pub state_of : ReadPolicy → Layout → Shared → List Slot → State
state_of policy layout shared slots = state shared (machines_of policy slots) (standings_of layout slots)

-- a journal that is kept was written behind its header
abbrev pub IsPut : Config → List TableDef → Journal → Option (List ℕ) → Option (List ℕ) → Type 0
IsPut config tables Off old new = new ≡ old
IsPut config tables (On kept) old new = (header : List ℕ) × IsHeader config tables header × Appends old new (header ++ kept)

-- a journal that is kept has fewer than 2^64 bytes, as each list has
abbrev pub IsShort : Journal → Type 0
IsShort Off = Unit {0}
IsShort (On kept) = length kept < 18446744073709551616
