-- Which test has failed where a step is stopped.
use Rattle.std.specs.Prelude.{◌≡◌, ◌≢◌, ◌<◌, ◌≤◌, ◌⊎◌, ℕ, ℤ, Bool, true, false, List, [], ◌++◌, Option, Some, None, take}
use Rattle.pool_base.specs.declared.backend_id.BackendId.{BackendId}
use Rattle.pool_base.specs.declared.session_id.SessionId.{SessionId}
use Rattle.pool_base.specs.Sets.{has}
use Rattle.pool_config.specs.declared.config.Node.{Node}
use Rattle.schema.specs.declared.catalogue.TableDef.{TableDef}
use Rattle.pg_messages.specs.declared.server.ServerMessage.{ServerMessage}
use Rattle.pg_messages.specs.Frame.{BeginsWith}
use Rattle.pg_messages.specs.Server.{IsServerForm}
use Rattle.backend_trait.specs.declared.request.Request.{Request}
use Rattle.backend_trait.specs.declared.answer.Answer.{Answer}
use Rattle.backend_trait.specs.declared.answer.Polled.TheVariants as polls
use Rattle.backend_trait.specs.Store.{Store}
use Rattle.snapshot_gate.specs.declared.state.GateState.{GateState}
use Rattle.snapshot_gate.specs.Function.{MayCall}
use Rattle.session_orders.specs.declared.order.OrderBody.{OrderBody}
use Rattle.session_orders.specs.declared.outcome.Outcome.{Outcome}
use Rattle.session_machine.specs.declared.status.Status.{Status}
use Rattle.session_machine.specs.declared.action.Action.TheVariants as actions
use Rattle.session_machine.specs.declared.action.SessionEvent.TheVariants as events
use Rattle.session_machine.specs.declared.machine.Machine.{Machine}
use Rattle.session_machine.specs.declared.machine.ReadPolicy.{ReadPolicy}
use Rattle.session_machine.specs.Allowed.{MayHappen, TakesOrder}
use Rattle.session_machine.specs.Rules.{new_machine, next_action, status_byte}
use Rattle.session_engine.specs.declared.ask.Ask.{Ask}
use Rattle.session_engine.specs.declared.ask.Ask.TheVariants as asks
use Rattle.session_engine.specs.Cores.{machine_in}
use Rattle.session_engine.specs.Handing.{asked_of, Posts}
use Rattle.session_wire.specs.declared.due.Due.{Due}
use Rattle.session_wire.specs.declared.wire.WireStep.{WireStep}
use Rattle.session_wire.specs.declared.wire.WireStep.TheVariants as wires
use Rattle.session_wire.specs.Answers.{MayAnswer, Says}
use Rattle.session_wire.specs.Shown.{View, shown}
use Rattle.session_wire.specs.Steps.{IsNext}
use Rattle.backend_rolls.specs.declared.known.Awaits.TheVariants as awaiting
use Rattle.backend_rolls.specs.declared.roll.Roll.{Roll}
use Rattle.backend_rolls.specs.declared.spares.Spare.TheVariants.{Aside}
use Rattle.backend_rolls.specs.declared.spares.Spares.{Spares}
use Rattle.session_seat.specs.declared.seat.Seat.{Seat}
use Rattle.backend_rolls.specs.Known.{MayPostBy}
use Rattle.backend_rolls.specs.Rolls.{known_in, roll_at}
use Rattle.backend_rolls.specs.Spares.{spare_at}
use Rattle.session_seat.specs.Shared.{IsReady}
use Rattle.session_seat.specs.Steps.{IsOutside}
use Rattle.session_seat.specs.Dues.{LooksAt, recovery_in}

-- so many events were counted that the next two can not all be
abbrev pub IsFull : ℕ → Type 0
IsFull events = 18446744073709551614 ≤ events

-- no message of a server begins there
unfoldable pub IsNoMessage : List ℕ → Type 0
IsNoMessage bytes = (m : ServerMessage) (n : ℕ) → 0 < n → BeginsWith IsServerForm m n bytes → ⊥

-- somewhere in these bytes, before their end, no message begins
pub record IsGarbled (bytes : List ℕ) : Type 0 where
  pub front : List ℕ
  pub rest : List ℕ
  pub parts : bytes ≡ front ++ rest
  pub more : rest ≢ []
  pub none : IsNoMessage rest

-- A backend: by its roll.

abbrev pub MayPostAt : List TableDef → ℕ → List Roll → ℕ → ℕ → Request → Type 0
MayPostAt tables count rolls s b request = (b < count) × MayPostBy tables (known_in (roll_at rolls b) s) request

-- and it may look for an answer where it waits for one
abbrev pub MayLookAt : ℕ → List Roll → ℕ → ℕ → Type 0
MayLookAt count rolls s b = (b < count) × ((known_in (roll_at rolls b) s).awaits ≢ awaiting.Nothing)

-- a box that is set aside may come in the place of a backend that is not attached
pub record MaySwap (attached count : ℕ) (spares : Spares) (boxes b box : ℕ) : Type 0 where
  pub configured : b < count
  pub detached : has attached b ≡ false
  pub behind : count ≤ box
  pub there : box < boxes
  pub aside : spare_at spares box ≡ Aside

-- a request that is due may not be posted
pub record StopsAtPost (tables : List TableDef) (count : ℕ) (rolls : List Roll) (m : Machine) (s b : ℕ) : Type 0 where
  pub request : Request
  pub due : Posts (next_action m) request
  pub refused : MayPostAt tables count rolls s b request → ⊥

-- an answer has come that is not of the request that the session waits for
pub record IsUnfit {X : Type 0} (meaning : X → Store) (is_prompt : X → Bool) (shelf : List X) (m : Machine) (s : SessionId) (b : BackendId) : Type 0 where
  pub answer : Answer
  pub came : LooksAt meaning is_prompt shelf s.number b.number (polls.Answered answer)
  pub unfit : MayHappen m (events.Taken b answer) → ⊥

-- The client.

-- its order is one that its session does not take, or that can not be run; that of a recovery comes in a block
abbrev pub StopsOrdered : List TableDef → Machine → OrderBody → Option ℕ → Type 0
StopsOrdered tables m body None = (TakesOrder m body → ⊥) ⊎ (IsReady tables body → ⊥)
StopsOrdered tables m body (Some number) = IsOutside m → ⊥

-- by what comes next of it: what is to be written is garbled, its order may not come or can not be run, or it awaits an outcome though
-- its session rests; a session that is to be closed is not as at its start
abbrev pub StopsBehind : List TableDef → ReadPolicy → SessionId → Machine → WireStep → View → Type 0
StopsBehind tables policy s m (wires.Order order) after = IsGarbled after.output ⊎ StopsOrdered tables m order.body (recovery_in order.body)
StopsBehind tables policy s m wires.NeedInput after = IsGarbled after.output
StopsBehind tables policy s m wires.NeedOutcome after = Unit {0}
StopsBehind tables policy s m (wires.Close refused) after = IsGarbled after.output ⊎ (m ≢ new_machine s policy)

unfoldable pub StopsAtRest : List TableDef → ℤ → ReadPolicy → SessionId → Machine → View → Type 0
StopsAtRest tables moment policy s m view = (next : WireStep) × (after : View) × IsNext tables moment view next after × StopsBehind tables policy s m next after

-- what a wire has once an outcome is told, before these backends of the configuration
abbrev pub IsTold : List Node → Option Due → Outcome → ℕ → View → View → Type 0
IsTold nodes None outcome status old new = new ≡ old
IsTold nodes (Some due) outcome status old new = Says nodes due outcome status old new

-- an outcome may not be told, or what is to be written of it is garbled
unfoldable pub StopsTelling : List Node → Outcome → Status → View → Type 0
StopsTelling nodes outcome status view = (MayAnswer outcome → ⊥) ⊎ ((after : View) × IsTold nodes view.due outcome (status_byte status) view after × IsGarbled after.output)

unfoldable pub StopsAtReply : List Node → Machine → View → Type 0
StopsAtReply nodes m view = (outcome : Outcome) × (status : Status) × (actions.Reply outcome status ≡ next_action m) × StopsTelling nodes outcome status view

-- All of it. A detachment and the end of a session are not stopped.

-- the gate, the tables, the backends, what is known of sessions there, and the backends of the configuration
pub record WorldView (X : Type 0) : Type 0 where
  pub gate : GateState
  pub tables : List TableDef
  pub count : ℕ
  pub shelf : List X
  pub rolls : List Roll
  pub nodes : List Node

abbrev pub world_view : {X : Type 0} → GateState → List TableDef → ℕ → List X → List Roll → List Node → WorldView X
world_view {X} gate tables count shelf rolls nodes = record { gate = gate; tables = tables; count = count; shelf = shelf; rolls = rolls; nodes = nodes }

abbrev pub StopsAsked : {X : Type 0} → (X → Store) → (X → Bool) → List TableDef → ℤ → ReadPolicy → Seat → WorldView X → Ask → Type 0
StopsAsked {X} meaning is_prompt tables moment policy seat world asks.Rest = StopsAtRest tables moment policy seat.s (machine_in seat.core) (shown seat.wire)
StopsAsked {X} meaning is_prompt tables moment policy seat world (asks.Gate call) = MayCall world.gate call → ⊥
StopsAsked {X} meaning is_prompt tables moment policy seat world (asks.Post b) = StopsAtPost world.tables world.count world.rolls (machine_in seat.core) seat.s.number b.number
StopsAsked {X} meaning is_prompt tables moment policy seat world (asks.WaitFor b) =
    (MayLookAt world.count world.rolls seat.s.number b.number → ⊥) ⊎ IsUnfit meaning is_prompt (take world.count world.shelf) (machine_in seat.core) seat.s b
StopsAsked {X} meaning is_prompt tables moment policy seat world (asks.Detach b) = ⊥
StopsAsked {X} meaning is_prompt tables moment policy seat world asks.Reply = StopsAtReply world.nodes (machine_in seat.core) (shown seat.wire)
StopsAsked {X} meaning is_prompt tables moment policy seat world asks.End = ⊥

abbrev pub StopsTurn : {X : Type 0} → Bool → (X → Store) → (X → Bool) → List TableDef → ℤ → ReadPolicy → Seat → WorldView X → Type 0
StopsTurn {X} true meaning is_prompt tables moment policy seat world = machine_in seat.core ≢ new_machine seat.s policy
StopsTurn {X} false meaning is_prompt tables moment policy seat world =
    StopsAsked meaning is_prompt tables moment policy seat world (asked_of (next_action (machine_in seat.core)))

-- the next event can not be counted, or it may not take place
unfoldable pub Stops : {X : Type 0} → (X → Store) → (X → Bool) → List TableDef → ℤ → ReadPolicy → ℕ → Seat → WorldView X → Type 0
Stops {X} meaning is_prompt tables moment policy events seat world =
    IsFull events ⊎ StopsTurn seat.over meaning is_prompt tables moment policy seat world
