-- A session that rests stands still, wherever the gate stands; and a turn that ends with nothing to do leaves one.
use Rattle.std.proofs.Common.{◌≡◌, ◌∙◌, ℕ, Bool, true, false, List, [], ◌∷◌, refl, sym, ap, subst, inl, inr}
use Rattle.std.specs.Prelude.{ℤ, Option, Some, None, ◌⊎◌, ◌&&◌, not}
use Rattle.pool_base.specs.declared.session_id.SessionId.{SessionId}
use Rattle.pool_config.specs.declared.config.Node.{Node}
use Rattle.schema.specs.declared.catalogue.TableDef.{TableDef}
use Rattle.pg_messages.specs.declared.read.Read.{Read}
use Rattle.pg_messages.specs.declared.read.Read.TheVariants.{Whole, More, Bad, TooLong}
use Rattle.pgproto.specs.declared.line.Mark.{Mark}
use Rattle.backend_trait.specs.Store.{Store}
use Rattle.snapshot_gate.specs.declared.state.GateState.{GateState}
use Rattle.snapshot_gate.specs.Function as gates
use Rattle.session_machine.specs.declared.machine.Machine.{Machine}
use Rattle.session_machine.specs.declared.machine.ReadPolicy.{ReadPolicy}
use Rattle.session_machine.specs.Rules.{next_action}
use Rattle.session_engine.specs.declared.ask.Ask.{Ask}
use Rattle.session_engine.specs.declared.ask.Ask.TheVariants as asks
use Rattle.session_engine.specs.Cores.{machine_in}
use Rattle.session_engine.specs.Handing.{asked_of}
use Rattle.session_wire.specs.declared.wire.Stage.{Stage}
use Rattle.session_wire.specs.declared.wire.Stage.TheVariants.{Starting, Open, Leaving, Closed}
use Rattle.session_wire.specs.declared.wire.WireStep.TheVariants as wires
use Rattle.session_wire.specs.Shown.{View, shown}
use Rattle.session_wire.specs.Waiting.{IsShort, IsWaiting, NothingLeft}
use Rattle.session_wire.proofs.Quiet.{next_waits}
use Rattle.online_recovery.specs.declared.action.RecoveryAction.TheVariants as recoveries
use Rattle.online_recovery.specs.declared.layout.Layout.{Layout}
use Rattle.online_recovery.specs.declared.recovery.Recovery.{Recovery}
use Rattle.online_recovery.specs.declared.standing.Standing.{Standing}
use Rattle.online_recovery.specs.Rules.{next_action as recovery_action}
use Rattle.session_seat.specs.declared.book.Journal.{Journal}
use Rattle.session_seat.specs.declared.seat.Seat.{Seat}
use Rattle.session_seat.specs.declared.seat.Turn.TheVariants as turns
use Rattle.session_seat.specs.declared.step.Step.{Step}
use Rattle.session_seat.specs.declared.step.Step.TheVariants as steps
use Rattle.session_seat.specs.Dues.{IsAsked, IsDue, IsOfTurn}
use Rattle.session_seat.specs.Shared.{Shared}
use Rattle.session_seat.specs.Speech.{speech}
use Rattle.recovery_seat.specs.declared.place.Place.{Place}
use Rattle.recovery_seat.specs.Dues.{IsOwn}
use Rattle.recovery_seat.specs.Places.{standing_at, standing_of}
use Rattle.recovery_seat.specs.Speech.{Speaks}
use Rattle.recovery_seat.specs.Steps.{at}
use Rattle.session_player.specs.declared.client.Client.{Client}
use Rattle.session_player.specs.declared.round.TurnEnd.{TurnEnd}
use Rattle.session_player.specs.declared.round.TurnEnd.TheVariants as ends
use Rattle.session_player.specs.declared.slots.Slot.{Slot}
use Rattle.session_player.specs.declared.slots.Slot.TheVariants.{Taken}
use Rattle.session_player.specs.Resting.{IsResting, asks_nothing, has_none, is_idle, is_more, is_short}
use Rattle.session_player.specs.Stillness.{IsSlotStill, IsStill, StandsStill}
use Rattle.session_player.specs.Turns.{EndsBehind}
use Rattle.session_player.proofs.Stilling.{idle_called, idle_own, waiting_written, waits_no_idle}

-- What is told of a wire that waits.

short_told : (stage : Stage) (rest : List ℕ) → IsShort stage rest → is_short stage rest ≡ true
short_told (Starting ssl gss) rest short = ap is_more short
short_told Open rest short = ap is_more short
short_told (Leaving refused) rest short = absurd short
short_told (Closed refused) rest short = absurd short

none_told : {T : Type 0} (left : List T) (settles : Bool) → left ≡ [] → settles ≡ false → (has_none left && not settles) ≡ true
none_told {T} left settles none settled = ap (λ (l : List T). has_none l && not settles) none ∙ ap not settled

idle_told : (stage : Stage) (v : View) → NothingLeft stage v → is_idle stage v ≡ true
idle_told (Starting ssl gss) v nothing = refl
idle_told Open v nothing = none_told v.left v.settles nothing.left nothing.settles
idle_told (Leaving refused) v nothing = refl
idle_told (Closed refused) v nothing = refl

more_is : {T : Type 0} (read : Read T) → is_more read ≡ true → read ≡ More
more_is {T} (Whole message length) is = absurd (cc)
more_is {T} More is = refl
more_is {T} (Bad place) is = absurd (cc)
more_is {T} (TooLong stated) is = absurd (cc)

short_is : (stage : Stage) (rest : List ℕ) → is_short stage rest ≡ true → IsShort stage rest
short_is (Starting ssl gss) rest is = more_is _ is
short_is Open rest is = more_is _ is
short_is (Leaving refused) rest is = let never : false ≡ true = is in absurd (cc)
short_is (Closed refused) rest is = let never : false ≡ true = is in absurd (cc)

none_is : {T : Type 0} (left : List T) (settles : Bool) → (has_none left && not settles) ≡ true → (left ≡ []) × (settles ≡ false)
none_is {T} [] true is = absurd (cc)
none_is {T} [] false is = (refl, refl)
none_is {T} (one ∷ more) settles is = absurd (cc)

idle_is : (stage : Stage) (v : View) → is_idle stage v ≡ true → NothingLeft stage v
idle_is (Starting ssl gss) v is = tt
idle_is Open v is = let found = none_is v.left v.settles is in record { left = found.0; settles = found.1 }
idle_is (Leaving refused) v is = tt
idle_is (Closed refused) v is = tt

-- A session that rests stands still.

nothing_still : (shared : Shared) (s : ℕ) (view : View) (ask : Ask) → IsWaiting view → asks_nothing ask ≡ true → IsStill shared s view ask
nothing_still shared s view asks.Rest waiting is = waiting
nothing_still shared s view (asks.Gate call) waiting is = absurd (cc)
nothing_still shared s view (asks.Post b) waiting is = absurd (cc)
nothing_still shared s view (asks.WaitFor b) waiting is = absurd (cc)
nothing_still shared s view (asks.Detach b) waiting is = absurd (cc)
nothing_still shared s view asks.Reply waiting is = absurd (cc)
nothing_still shared s view asks.End waiting is = absurd (cc)

rests_still : (shared : Shared) (layout : Layout) (place : Place) → IsResting place → StandsStill shared place.seat.s.number (machine_in place.seat.core) (standing_of layout place) (shown place.seat.wire) place.seat.over
rests_still shared layout place (short, (idle, (goes_on, own))) none =
    let view = shown place.seat.wire in
    let waiting : IsWaiting view = record { short = short_is view.stage view.rest short; idle = idle_is view.stage view idle; goes_on = goes_on } in
    let mine = own layout none in
    (mine.0, nothing_still shared place.seat.s.number view (asked_of (next_action (machine_in place.seat.core))) waiting mine.1)

-- so does one that is held
pub passed_still : (shared : Shared) (layout : Layout) (slot : Slot) (client : Client) → slot ≡ Taken client → (client.place.seat.turn ≡ turns.Held) ⊎ IsResting client.place → IsSlotStill shared layout slot
passed_still shared layout slot client taken (inl held) = subst (IsSlotStill shared layout) (sym taken) (inl held)
passed_still shared layout slot client taken (inr rests) = subst (IsSlotStill shared layout) (sym taken) (inr (rests_still shared layout client.place rests))

-- A step with nothing to do.

asked_nothing : {X : Type 0} (meaning : X → Store) (is_prompt : X → Bool) (tables : List TableDef) (moment : ℤ) (seat : Seat) (gate : GateState) (shelf : List X) (ask : Ask)
    → IsAsked meaning is_prompt tables moment seat gate shelf ask steps.Idle → asks_nothing ask ≡ true
asked_nothing {X} meaning is_prompt tables moment seat gate shelf asks.Rest is = refl
asked_nothing {X} meaning is_prompt tables moment seat gate shelf (asks.Gate call) is = absurd (idle_called call (gates.step gate call).1 is)
asked_nothing {X} meaning is_prompt tables moment seat gate shelf (asks.Post b) is = absurd (cc)
asked_nothing {X} meaning is_prompt tables moment seat gate shelf (asks.WaitFor b) is = absurd (waits_no_idle meaning is_prompt shelf seat.s b is)
asked_nothing {X} meaning is_prompt tables moment seat gate shelf (asks.Detach b) is = absurd (cc)
asked_nothing {X} meaning is_prompt tables moment seat gate shelf asks.Reply is = absurd (cc)
asked_nothing {X} meaning is_prompt tables moment seat gate shelf asks.End is = absurd (cc)

turn_nothing : {X : Type 0} (over : Bool) (meaning : X → Store) (is_prompt : X → Bool) (tables : List TableDef) (moment : ℤ) (seat : Seat) (gate : GateState) (shelf : List X)
    → IsOfTurn over meaning is_prompt tables moment seat gate shelf steps.Idle → (over ≡ false) × (asks_nothing (asked_of (next_action (machine_in seat.core))) ≡ true)
turn_nothing {X} true meaning is_prompt tables moment seat gate shelf is = absurd (cc)
turn_nothing {X} false meaning is_prompt tables moment seat gate shelf is = (refl, asked_nothing meaning is_prompt tables moment seat gate shelf (asked_of (next_action (machine_in seat.core))) is)

own_nothing : {X : Type 0} (meaning : X → Store) (is_prompt : X → Bool) (tables : List TableDef) (moment : ℤ) (seat : Seat) (gate : GateState) (shelf : List X)
    → IsOwn meaning is_prompt tables moment seat gate shelf steps.Idle → (seat.over ≡ false) × (asks_nothing (asked_of (next_action (machine_in seat.core))) ≡ true)
unfolding IsDue
own_nothing {X} meaning is_prompt tables moment seat gate shelf (own, due, is) =
    turn_nothing seat.over meaning is_prompt tables moment seat gate shelf (subst (λ (z : Step). IsOfTurn seat.over meaning is_prompt tables moment seat gate shelf z) (idle_own own is) due)

-- a recovery rests in each layout or in none
rests_in_each : (l layout : Layout) (s : SessionId) (recovery : Option Recovery) → recovery_action (standing_at l s recovery) ≡ recoveries.Rest → recovery_action (standing_at layout s recovery) ≡ recoveries.Rest
rests_in_each l layout s None is = refl
rests_in_each l layout s (Some recovery) is = is

rests_behind : {X : Type 0} (meaning : X → Store) (is_prompt : X → Bool) (tables : List TableDef) (moment : ℤ) (layout : Layout) (old new : Place) (gate : GateState) (shelf : List X)
    → ((l : Layout) → recovery_action (standing_of l old) ≡ recoveries.Rest → IsOwn meaning is_prompt tables moment old.seat gate shelf steps.Idle) → standing_of layout new ≡ standing_of layout old
    → machine_in new.seat.core ≡ machine_in old.seat.core → new.seat.over ≡ old.seat.over → (l : Layout) → recovery_action (standing_of l new) ≡ recoveries.Rest
    → (new.seat.over ≡ false) × (asks_nothing (asked_of (next_action (machine_in new.seat.core))) ≡ true)
rests_behind {X} meaning is_prompt tables moment layout old new gate shelf due same machine over l none =
    let here : recovery_action (standing_of layout new) ≡ recoveries.Rest = rests_in_each l layout new.seat.s new.recovery none in
    let was : recovery_action (standing_of layout old) ≡ recoveries.Rest = subst (λ (z : Standing). recovery_action z ≡ recoveries.Rest) same here in
    let own = own_nothing meaning is_prompt tables moment old.seat gate shelf (due layout was) in
    (over ∙ own.0, ap (λ (m : Machine). asks_nothing (asked_of (next_action m))) machine ∙ own.1)

-- where a turn ends with nothing to do its session rests
pub step_rests : {X : Type 0} (meaning : X → Store) (is_prompt : X → Bool) (tables : List TableDef) (moment : ℤ) (nodes : List Node) (policy : ReadPolicy) (layout : Layout) (s : SessionId) (others : ℕ) (old new : Place) (shelf : List X)
    (shared after : Shared) (journal kept : Journal) (had has : List ℕ) (until : Option Mark) (did : Step) (end : TurnEnd)
    → ((l : Layout) → recovery_action (standing_of l old) ≡ recoveries.Rest → IsOwn meaning is_prompt tables moment old.seat shared.gate shelf did)
    → Speaks tables moment nodes policy layout s others (at shared (machine_in old.seat.core) (standing_of layout old) journal) (speech old.seat had) did
    (at after (machine_in new.seat.core) (standing_of layout new) kept) (speech new.seat has) → EndsBehind until did (Some end) → end ≡ ends.Rests → IsResting new
step_rests {X} meaning is_prompt tables moment nodes policy layout s others old new shelf shared after journal kept had has until (steps.Did mark) end due speaks (stops, marked) rests =
    let never : ends.Marked ≡ ends.Rests = sym marked ∙ rests in absurd (cc)
step_rests {X} meaning is_prompt tables moment nodes policy layout s others old new shelf shared after journal kept had has until steps.Waits end due speaks ends_so rests =
    let never : Some ends.Waits ≡ Some ends.Rests = sym ends_so ∙ ap Some rests in absurd (cc)
step_rests {X} meaning is_prompt tables moment nodes policy layout s others old new shelf shared after journal kept had has until steps.Idle end due speaks ends_so rests =
    let view = shown new.seat.wire in
    let asks_it = speaks.1 in
    let waiting : IsWaiting view = subst IsWaiting (sym asks_it.written.wrote) (waiting_written asks_it.behind _ (next_waits tables moment (shown old.seat.wire) asks_it.behind wires.NeedInput asks_it.leads refl)) in (
      short_told view.stage view.rest waiting.short,
      (
        idle_told view.stage view waiting.idle,
        (
          waiting.goes_on,
          rests_behind meaning is_prompt tables moment layout old new shared.gate shelf due speaks.0.standing speaks.0.machine asks_it.over,
        ),
      ),
    )
step_rests {X} meaning is_prompt tables moment nodes policy layout s others old new shelf shared after journal kept had has until steps.Closed end due speaks ends_so rests =
    let never : Some ends.Closed ≡ Some ends.Rests = sym ends_so ∙ ap Some rests in absurd (cc)
step_rests {X} meaning is_prompt tables moment nodes policy layout s others old new shelf shared after journal kept had has until (steps.Recovers at_moment number) end due speaks ends_so rests = absurd speaks
