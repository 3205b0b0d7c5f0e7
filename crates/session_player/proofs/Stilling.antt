-- Where a session stands still, and so all of them.
use Rattle.std.proofs.Common.{◌≡◌, ◌≢◌, ◌<◌, ◌≤◌, ◌+◌, ◌-◌, ℕ, zero, suc, Bool, true, false, List, length, get_or, set, refl, sym, ap, ◌∙◌, subst, inl, inr, arith}
use Rattle.std.specs.Prelude.{ℤ, Option, Some, None, ◌⊎◌, slice_get, take}
use Rattle.std.proofs.lemmas.Bool.Decides.{eqb_tells, leb_tells}
use Rattle.std.proofs.lemmas.List.{get_or-set_same, get_or-set_other, get_or-take, get_or_past, length-take-le}
use Rattle.std.proofs.lemmas.Option.{get_or_from_slice_get, slice_get_read, slice_get_within}
use Rattle.pool_base.specs.declared.backend_id.BackendId.{BackendId}
use Rattle.pool_base.specs.declared.session_id.SessionId.{SessionId}
use Rattle.pool_base.specs.declared.gate_call.GateCall.{GateCall}
use Rattle.pool_base.specs.declared.gate_call.GateAnswer.{GateAnswer}
use Rattle.pool_base.specs.declared.gate_call.GateAnswer.TheVariants.{Seen, Granted, Held, Spent}
use Rattle.pool_config.specs.declared.config.Node.{Node}
use Rattle.schema.specs.declared.catalogue.TableDef.{TableDef}
use Rattle.pgproto.specs.Line.{Line}
use Rattle.pgproto.specs.declared.line.Mark.{Mark}
use Rattle.backend_trait.specs.Store.{Store}
use Rattle.backend_trait.specs.Acts.{IsPromptly}
use Rattle.backend_trait.specs.declared.answer.Polled.{Polled}
use Rattle.backend_trait.specs.declared.answer.Polled.TheVariants as polls
use Rattle.snapshot_gate.specs.Function as gates
use Rattle.session_machine.specs.declared.machine.Machine.{Machine}
use Rattle.session_machine.specs.declared.machine.ReadPolicy.{ReadPolicy}
use Rattle.session_machine.specs.Rules.{next_action}
use Rattle.session_engine.specs.declared.ask.Ask.{Ask}
use Rattle.session_engine.specs.declared.ask.Ask.TheVariants as asks
use Rattle.session_engine.specs.Cores.{machine_in}
use Rattle.session_engine.specs.Handing.{asked_of}
use Rattle.session_wire.specs.declared.wire.Stage.{Stage}
use Rattle.session_wire.specs.declared.wire.Stage.TheVariants.{Starting, Open, Leaving, Closed}
use Rattle.session_wire.specs.declared.wire.WireStep.{WireStep}
use Rattle.session_wire.specs.declared.wire.WireStep.TheVariants as wires
use Rattle.session_wire.specs.Shown.{View, shown, with_written}
use Rattle.session_wire.specs.Waiting.{IsWaiting, NothingLeft}
use Rattle.session_wire.proofs.Quiet.{next_waits}
use Rattle.online_recovery.specs.declared.action.RecoveryAction.TheVariants as recoveries
use Rattle.online_recovery.specs.declared.layout.Layout.{Layout}
use Rattle.online_recovery.specs.declared.standing.Standing.{Standing}
use Rattle.online_recovery.specs.Rules.{next_action as recovery_action}
use Rattle.session_seat.specs.declared.book.Book.{Book}
use Rattle.session_seat.specs.declared.book.Journal.{Journal}
use Rattle.session_seat.specs.declared.seat.Seat.{Seat}
use Rattle.session_seat.specs.declared.seat.Turn.TheVariants as turns
use Rattle.session_seat.specs.declared.step.Step.{Step}
use Rattle.session_seat.specs.declared.step.Step.TheVariants as steps
use Rattle.session_seat.specs.Dues.{Follows, Hears, IsAsked, IsDue, IsOfTurn, Rests, WaitsFor, called, ordered_step, recovery_in}
use Rattle.session_seat.specs.Rolls.{ArePrompt}
use Rattle.session_seat.specs.Shared.{Shared, store_in, stores_of}
use Rattle.session_seat.specs.Speech.{Speech, speech}
use Rattle.session_seat.specs.Steps.{IsDid}
use Rattle.recovery_seat.specs.Dues.{IsOwn, taken_as}
use Rattle.recovery_seat.specs.Places.{standing_of}
use Rattle.recovery_seat.specs.Speech.{Speaks}
use Rattle.recovery_seat.specs.Steps.{IsStep, Stand, Stays, at}
use Rattle.session_player.specs.declared.deed.Wish.{Wish}
use Rattle.session_player.specs.declared.deed.Wish.TheVariants as wishes
use Rattle.session_player.specs.declared.round.TurnEnd.{TurnEnd}
use Rattle.session_player.specs.declared.round.TurnEnd.TheVariants as ends
use Rattle.session_player.specs.declared.slots.Slot.{Slot}
use Rattle.session_player.specs.declared.slots.Slot.TheVariants.{Free, Taken}
use Rattle.session_player.specs.Deeds.{IsWishOf, goes_on}
use Rattle.session_player.specs.Journals.{machine_in_slot, machines_of, standing_in_slot, standings_of}
use Rattle.session_player.specs.Marks.{StopsAt}
use Rattle.session_player.specs.Speaking.{Hearer, board_of, hearer_in, hearer_of, hearers_of}
use Rattle.session_player.specs.Stillness.{AllStill, AreStill, EndsStill, IsSlotStill, IsStill, StandsStill, goes_round}
use Rattle.session_player.specs.Turns.{EndsBehind}
use Rattle.session_player.proofs.Placing.{placed_or}
use Rattle.session_player.specs.Slots.{ArePlaced, IsPlaced}

-- A session that waits.

no_wait_ordered : (moment : ℤ) (number : Option ℕ) → steps.Waits ≡ ordered_step moment number → ⊥
no_wait_ordered moment None is = cc
no_wait_ordered moment (Some n) is = cc

no_wait : (next : WireStep) → Follows next steps.Waits → ⊥
no_wait (wires.Order order) is = no_wait_ordered order.moment (recovery_in order.body) is
no_wait wires.NeedInput is = cc
no_wait wires.NeedOutcome is = is
no_wait (wires.Close refused) is = cc

waits_held : (call : GateCall) (answer : GateAnswer) → steps.Waits ≡ called call answer → (count : ℕ) × (answer ≡ Held count)
waits_held call (Seen view) is = absurd (cc)
waits_held call (Granted view) is = absurd (cc)
waits_held call (Held count) is = (count, refl)
waits_held call Spent is = absurd (cc)

rests_no_wait : (tables : List TableDef) (moment : ℤ) (view : View) → Rests tables moment view steps.Waits → ⊥
unfolding Rests
rests_no_wait tables moment view rests = no_wait rests.0 rests.3

-- boxes that are prompt, which have these stores
abbrev pub ArePromptAt : {X : Type 0} → (X → Store) → (X → Bool) → (ℕ → Store) → List X → Type 0
ArePromptAt {X} meaning is_prompt stores shelf = (b : ℕ) (x : X) → slice_get shelf b ≡ Some x → (is_prompt x ≡ true) × (meaning x ≡ stores b)

-- the first boxes of a shelf have the stores of the backends
pub prompt_at : {X : Type 0} (meaning : X → Store) (is_prompt : X → Bool) (tables : List TableDef) (count : ℕ) (shelf : List X) → count ≤ length shelf → ArePrompt is_prompt shelf
    → ArePromptAt meaning is_prompt (stores_of meaning tables count shelf) (take count shelf)
prompt_at {X} meaning is_prompt tables count shelf enough prompt b x there =
    let within : b < length (take count shelf) = slice_get_within (take count shelf) b x there in
    let few : length (take count shelf) ≡ count = length-take-le count shelf enough in
    let below : b < count = omega (arith, within, few) in
    let read : get_or shelf b x ≡ x = sym (get_or-take count shelf b x below) ∙ get_or_from_slice_get (take count shelf) b x x there in
    (prompt b x (slice_get_read shelf (length shelf) b x refl (omega (arith, below, enough)) (sym read)), sym (ap (store_in meaning tables) there))

hears_not_yet : (b : BackendId) (polled : Polled) → Hears b polled steps.Waits → polled ≡ polls.NotYet
hears_not_yet b (polls.Answered answer) is = absurd (cc)
hears_not_yet b polls.NotYet is = refl
hears_not_yet b polls.Lost is = absurd (cc)
hears_not_yet b polls.NoMemory is = absurd is

waits_promptly : {X : Type 0} (meaning : X → Store) (is_prompt : X → Bool) (stores : ℕ → Store) (shelf : List X) (s : SessionId) (b : BackendId) → ArePromptAt meaning is_prompt stores shelf → WaitsFor meaning is_prompt shelf s b steps.Waits
    → IsPromptly (stores b.number) s.number polls.NotYet
unfolding WaitsFor
waits_promptly {X} meaning is_prompt stores shelf s b prompt waits =
    let looks = waits.1 in
    let found = prompt b.number looks.backend looks.there in
    subst (λ (st : Store). IsPromptly st s.number polls.NotYet) found.1
    (subst (λ (z : Polled). IsPromptly (meaning looks.backend) s.number z) (hears_not_yet b waits.0 waits.2) (looks.promptly found.0))

asked_waits : {X : Type 0} (meaning : X → Store) (is_prompt : X → Bool) (tables : List TableDef) (moment : ℤ) (seat : Seat) (shared : Shared) (shelf : List X) (ask : Ask) (view : View) → ArePromptAt meaning is_prompt shared.stores shelf
    → IsAsked meaning is_prompt tables moment seat shared.gate shelf ask steps.Waits → IsStill shared seat.s.number view ask
asked_waits {X} meaning is_prompt tables moment seat shared shelf asks.Rest view prompt is = absurd (rests_no_wait tables moment (shown seat.wire) is)
asked_waits {X} meaning is_prompt tables moment seat shared shelf (asks.Gate call) view prompt is = waits_held call (gates.step shared.gate call).1 is
asked_waits {X} meaning is_prompt tables moment seat shared shelf (asks.Post b) view prompt is = absurd (cc)
asked_waits {X} meaning is_prompt tables moment seat shared shelf (asks.WaitFor b) view prompt is = waits_promptly meaning is_prompt shared.stores shelf seat.s b prompt is
asked_waits {X} meaning is_prompt tables moment seat shared shelf (asks.Detach b) view prompt is = absurd (cc)
asked_waits {X} meaning is_prompt tables moment seat shared shelf asks.Reply view prompt is = absurd (cc)
asked_waits {X} meaning is_prompt tables moment seat shared shelf asks.End view prompt is = absurd (cc)

-- One that has nothing to do.

pub idle_called : (call : GateCall) (answer : GateAnswer) → steps.Idle ≡ called call answer → ⊥
idle_called call (Seen view) is = cc
idle_called call (Granted view) is = cc
idle_called call (Held count) is = cc
idle_called call Spent is = cc

hears_no_idle : (b : BackendId) (polled : Polled) → Hears b polled steps.Idle → ⊥
hears_no_idle b (polls.Answered answer) is = cc
hears_no_idle b polls.NotYet is = cc
hears_no_idle b polls.Lost is = cc
hears_no_idle b polls.NoMemory is = is

pub waits_no_idle : {X : Type 0} (meaning : X → Store) (is_prompt : X → Bool) (shelf : List X) (s : SessionId) (b : BackendId) → WaitsFor meaning is_prompt shelf s b steps.Idle → ⊥
unfolding WaitsFor
waits_no_idle {X} meaning is_prompt shelf s b waits = hears_no_idle b waits.0 waits.2

asked_idle : {X : Type 0} (meaning : X → Store) (is_prompt : X → Bool) (tables : List TableDef) (moment : ℤ) (seat : Seat) (shared : Shared) (shelf : List X) (ask : Ask) (view : View) → IsWaiting view
    → IsAsked meaning is_prompt tables moment seat shared.gate shelf ask steps.Idle → IsStill shared seat.s.number view ask
asked_idle {X} meaning is_prompt tables moment seat shared shelf asks.Rest view waiting is = waiting
asked_idle {X} meaning is_prompt tables moment seat shared shelf (asks.Gate call) view waiting is = absurd (idle_called call (gates.step shared.gate call).1 is)
asked_idle {X} meaning is_prompt tables moment seat shared shelf (asks.Post b) view waiting is = absurd (cc)
asked_idle {X} meaning is_prompt tables moment seat shared shelf (asks.WaitFor b) view waiting is = absurd (waits_no_idle meaning is_prompt shelf seat.s b is)
asked_idle {X} meaning is_prompt tables moment seat shared shelf (asks.Detach b) view waiting is = absurd (cc)
asked_idle {X} meaning is_prompt tables moment seat shared shelf asks.Reply view waiting is = absurd (cc)
asked_idle {X} meaning is_prompt tables moment seat shared shelf asks.End view waiting is = absurd (cc)

nothing_written : (stage : Stage) (v : View) (n : ℕ) → NothingLeft stage v → NothingLeft stage (with_written v n)
nothing_written (Starting ssl gss) v n nothing = tt
nothing_written Open v n nothing = record { left = nothing.left; settles = nothing.settles }
nothing_written (Leaving refused) v n nothing = tt
nothing_written (Closed refused) v n nothing = tt

pub waiting_written : (v : View) (n : ℕ) → IsWaiting v → IsWaiting (with_written v n)
waiting_written v n waiting = record { short = waiting.short; idle = nothing_written v.stage v n waiting.idle; goes_on = waiting.goes_on }

-- A step that is none.

waits_own : (own : Step) → steps.Waits ≡ taken_as own → own ≡ steps.Waits
waits_own (steps.Did mark) is = absurd (cc)
waits_own steps.Waits is = refl
waits_own steps.Idle is = absurd (cc)
waits_own steps.Closed is = absurd (cc)
waits_own (steps.Recovers moment number) is = absurd (cc)

pub idle_own : (own : Step) → steps.Idle ≡ taken_as own → own ≡ steps.Idle
idle_own (steps.Did mark) is = absurd (cc)
idle_own steps.Waits is = absurd (cc)
idle_own steps.Idle is = refl
idle_own steps.Closed is = absurd (cc)
idle_own (steps.Recovers moment number) is = absurd (cc)

turn_waits : {X : Type 0} (over : Bool) (meaning : X → Store) (is_prompt : X → Bool) (tables : List TableDef) (moment : ℤ) (seat : Seat) (shared : Shared) (shelf : List X) (view : View)
    → ArePromptAt meaning is_prompt shared.stores shelf → IsOfTurn over meaning is_prompt tables moment seat shared.gate shelf steps.Waits → (over ≡ false) × IsStill shared seat.s.number view (asked_of (next_action (machine_in seat.core)))
turn_waits {X} true meaning is_prompt tables moment seat shared shelf view prompt is = absurd (cc)
turn_waits {X} false meaning is_prompt tables moment seat shared shelf view prompt is = (refl, asked_waits meaning is_prompt tables moment seat shared shelf (asked_of (next_action (machine_in seat.core))) view prompt is)

turn_idle : {X : Type 0} (over : Bool) (meaning : X → Store) (is_prompt : X → Bool) (tables : List TableDef) (moment : ℤ) (seat : Seat) (shared : Shared) (shelf : List X) (view : View) → IsWaiting view
    → IsOfTurn over meaning is_prompt tables moment seat shared.gate shelf steps.Idle → (over ≡ false) × IsStill shared seat.s.number view (asked_of (next_action (machine_in seat.core)))
turn_idle {X} true meaning is_prompt tables moment seat shared shelf view waiting is = absurd (cc)
turn_idle {X} false meaning is_prompt tables moment seat shared shelf view waiting is = (refl, asked_idle meaning is_prompt tables moment seat shared shelf (asked_of (next_action (machine_in seat.core))) view waiting is)

own_waits : {X : Type 0} (meaning : X → Store) (is_prompt : X → Bool) (tables : List TableDef) (moment : ℤ) (seat : Seat) (shared : Shared) (shelf : List X) (view : View)
    → ArePromptAt meaning is_prompt shared.stores shelf → IsOwn meaning is_prompt tables moment seat shared.gate shelf steps.Waits → (seat.over ≡ false) × IsStill shared seat.s.number view (asked_of (next_action (machine_in seat.core)))
unfolding IsDue
own_waits {X} meaning is_prompt tables moment seat shared shelf view prompt (own, due, is) =
    turn_waits seat.over meaning is_prompt tables moment seat shared shelf view prompt (subst (λ (z : Step). IsOfTurn seat.over meaning is_prompt tables moment seat shared.gate shelf z) (waits_own own is) due)

own_idle : {X : Type 0} (meaning : X → Store) (is_prompt : X → Bool) (tables : List TableDef) (moment : ℤ) (seat : Seat) (shared : Shared) (shelf : List X) (view : View) → IsWaiting view
    → IsOwn meaning is_prompt tables moment seat shared.gate shelf steps.Idle → (seat.over ≡ false) × IsStill shared seat.s.number view (asked_of (next_action (machine_in seat.core)))
unfolding IsDue
own_idle {X} meaning is_prompt tables moment seat shared shelf view waiting (own, due, is) =
    turn_idle seat.over meaning is_prompt tables moment seat shared shelf view waiting (subst (λ (z : Step). IsOfTurn seat.over meaning is_prompt tables moment seat shared.gate shelf z) (idle_own own is) due)

still_at : (old new : Stand) (s : ℕ) (view : View) (over now_over : Bool) → Stays old new → now_over ≡ over → StandsStill old.shared s old.machine old.standing view over → StandsStill new.shared s new.machine new.standing view now_over
still_at old new s view over now_over stays same still =
    subst (λ (z : Shared). StandsStill z s new.machine new.standing view now_over) (sym stays.shared)
    (subst (λ (z : Machine). StandsStill old.shared s z new.standing view now_over) (sym stays.machine)
    (subst (λ (z : Standing). StandsStill old.shared s old.machine z view now_over) (sym stays.standing)
    (subst (λ (z : Bool). StandsStill old.shared s old.machine old.standing view z) (sym same) still)))

-- where a step is none its session stands still, or is closed
pub step_still : {X : Type 0} (meaning : X → Store) (is_prompt : X → Bool) (tables : List TableDef) (moment : ℤ) (nodes : List Node) (policy : ReadPolicy) (layout : Layout) (s : SessionId) (others : ℕ) (seat : Seat) (shelf : List X)
    (shared : Shared) (standing : Standing) (journal : Journal) (lines : List ℕ) (new : Stand) (is : Speech) (until : Option Mark) (did : Step) (end : TurnEnd) → ArePromptAt meaning is_prompt shared.stores shelf
    → (recovery_action standing ≡ recoveries.Rest → IsOwn meaning is_prompt tables moment seat shared.gate shelf did)
    → Speaks tables moment nodes policy layout s others (at shared (machine_in seat.core) standing journal) (speech seat lines) did new is → EndsBehind until did (Some end)
    → EndsStill until end (StandsStill new.shared seat.s.number new.machine new.standing is.view is.over)
step_still {X} meaning is_prompt tables moment nodes policy layout s others seat shelf shared standing journal lines new is until (steps.Did mark) end prompt due speaks (stops, marked) =
    subst (λ (z : TurnEnd). EndsStill until z (StandsStill new.shared seat.s.number new.machine new.standing is.view is.over)) (sym marked) (λ none. subst (λ (u : Option Mark). StopsAt u mark) none stops)
step_still {X} meaning is_prompt tables moment nodes policy layout s others seat shelf shared standing journal lines new is until steps.Waits end prompt due speaks ends_so =
    let Still : Type 0 = StandsStill new.shared seat.s.number new.machine new.standing is.view is.over in
    let found : end ≡ ends.Waits = cc in
    let still : Still = still_at (at shared (machine_in seat.core) standing journal) new seat.s.number is.view seat.over is.over speaks.0 (ap (λ (z : Speech). z.over) speaks.1)
    (λ rests. own_waits meaning is_prompt tables moment seat shared shelf is.view prompt (due rests)) in
    subst (λ (z : TurnEnd). EndsStill until z Still) (sym found) still
step_still {X} meaning is_prompt tables moment nodes policy layout s others seat shelf shared standing journal lines new is until steps.Idle end prompt due speaks ends_so =
    let Still : Type 0 = StandsStill new.shared seat.s.number new.machine new.standing is.view is.over in
    let found : end ≡ ends.Rests = cc in
    let asks_it = speaks.1 in
    let waiting : IsWaiting is.view = subst IsWaiting (sym asks_it.written.wrote) (waiting_written asks_it.behind _ (next_waits tables moment (shown seat.wire) asks_it.behind wires.NeedInput asks_it.leads refl)) in
    let still : Still = still_at (at shared (machine_in seat.core) standing journal) new seat.s.number is.view seat.over is.over speaks.0 asks_it.over
    (λ rests. own_idle meaning is_prompt tables moment seat shared shelf is.view waiting (due rests)) in
    subst (λ (z : TurnEnd). EndsStill until z Still) (sym found) still
step_still {X} meaning is_prompt tables moment nodes policy layout s others seat shelf shared standing journal lines new is until steps.Closed end prompt due speaks ends_so =
    let found : end ≡ ends.Closed = cc in subst (λ (z : TurnEnd). EndsStill until z (StandsStill new.shared seat.s.number new.machine new.standing is.view is.over)) (sym found) tt
step_still {X} meaning is_prompt tables moment nodes policy layout s others seat shelf shared standing journal lines new is until (steps.Recovers at_moment number) end prompt due speaks ends_so = absurd speaks

-- a step that is none leaves what is shared
pub step_quiet : (tables : List TableDef) (policy : ReadPolicy) (layout : Layout) (s : SessionId) (others : ℕ) (old new : Stand) (step : Step) → IsStep tables policy layout s others old step new → (IsDid step → ⊥) → new.shared ≡ old.shared
step_quiet tables policy layout s others old new (steps.Did mark) is none = absurd (none tt)
step_quiet tables policy layout s others old new steps.Waits is none = is.shared
step_quiet tables policy layout s others old new steps.Idle is none = is.shared
step_quiet tables policy layout s others old new steps.Closed is none = is.0.shared
step_quiet tables policy layout s others old new (steps.Recovers moment number) is none = absurd is

-- The session of a slot.

pub free_still : (shared : Shared) (layout : Layout) (slot : Slot) → slot ≡ Free → IsSlotStill shared layout slot
free_still shared layout slot free = subst (IsSlotStill shared layout) (sym free) tt

pub ended_still : (end : TurnEnd) (Still : Type 0) → EndsStill None end Still → end ≢ ends.Closed → Still
ended_still ends.Marked Still still other = absurd (still refl)
ended_still ends.Waits Still still other = still
ended_still ends.Rests Still still other = still
ended_still ends.Closed Still still other = absurd (other refl)

-- one slot was set anew, and the others are as they were
pub set_still : (shared : Shared) (layout : Layout) (slots : List Slot) (i : ℕ) (slot : Slot) → i < length slots → IsSlotStill shared layout slot → IsSlotStill shared layout (get_or (set slots i slot) i Free)
set_still shared layout slots i slot below still = subst (IsSlotStill shared layout) (sym (get_or-set_same slots i slot Free below)) still

pub set_others : (slots : List Slot) (i : ℕ) (slot : Slot) (j : ℕ) → (j ≡ i → ⊥) → get_or (set slots i slot) j Free ≡ get_or slots j Free
set_others slots i slot j other = get_or-set_other slots i j slot Free other

-- In a round without an event each slot that had its turn stays still.
pub still_on : (shared now : Shared) (layout : Layout) (slots new : List Slot) (i : ℕ) → now ≡ shared → ((j : ℕ) → (j ≡ i → ⊥) → get_or new j Free ≡ get_or slots j Free) → ((j : ℕ) → j < i → IsSlotStill shared layout (get_or slots j Free))
    → IsSlotStill now layout (get_or new i Free) → (j : ℕ) → j < i + 1 → IsSlotStill now layout (get_or new j Free)
still_on shared now layout slots new i same others before here j below = elim (eqb_tells j i) [
  | inl p ↦ subst (λ (k : ℕ). IsSlotStill now layout (get_or new k Free)) (sym p.1) here
  | inr p ↦
      subst (λ (z : Slot). IsSlotStill now layout z) (sym (others j p.1)) (subst (λ (z : Shared). IsSlotStill z layout (get_or slots j Free)) (sym same) (before j (omega (arith, below, p.1))))
]

pub still_past : (shared : Shared) (layout : Layout) (slots : List Slot) (i : ℕ) → length slots ≤ i → ((j : ℕ) → j < i → IsSlotStill shared layout (get_or slots j Free)) → AreStill shared layout slots
still_past shared layout slots i past before j = elim (leb_tells (suc j) i) [
  | inl p ↦ before j (omega (arith, p.1))
  | inr p ↦ free_still shared layout (get_or slots j Free) (get_or_past slots j Free (omega (arith, past, p.1)))
]

-- All clients.

slot_stands : (policy : ReadPolicy) (layout : Layout) (shared : Shared) (s : SessionId) (before : ℕ) (slot : Slot) (hearer : Hearer) → s.number ≡ suc before → IsPlaced before slot → IsSlotStill shared layout slot → hearer_in slot ≡ Some hearer
    → (hearer.turn ≡ turns.Held) ⊎ StandsStill shared s.number (machine_in_slot policy s slot) (standing_in_slot layout s slot) hearer.view hearer.over
slot_stands policy layout shared s before Free hearer own placed still is = let never : None ≡ Some hearer = is in absurd (cc)
slot_stands policy layout shared s before (Taken client) hearer own placed still is =
    let same : hearer_of client.place.seat ≡ hearer = cc in
    let number : client.place.seat.s.number ≡ s.number = placed ∙ sym own in
    subst (λ (n : ℕ). (hearer.turn ≡ turns.Held) ⊎ StandsStill shared n (machine_in client.place.seat.core) (standing_of layout client.place) hearer.view hearer.over) number
    (subst (λ (h : Hearer). (h.turn ≡ turns.Held) ⊎ StandsStill shared client.place.seat.s.number (machine_in client.place.seat.core) (standing_of layout client.place) h.view h.over) same still)

stands_at : (policy : ReadPolicy) (layout : Layout) (shared : Shared) (slots : List Slot) (s : SessionId) (hearer : Hearer) (n : ℕ) → s.number ≡ n → ArePlaced 0 slots → AreStill shared layout slots → hearers_of slots n ≡ Some hearer
    → (hearer.turn ≡ turns.Held) ⊎ StandsStill shared s.number (machines_of policy slots s) (standings_of layout slots s) hearer.view hearer.over
stands_at policy layout shared slots s hearer zero is placed still hears = let never : None ≡ Some hearer = hears in absurd (cc)
stands_at policy layout shared slots s hearer (suc i) is placed still hears =
    let place : i ≡ s.number - 1 = omega (arith, is) in
    subst (λ (k : ℕ). (hearer.turn ≡ turns.Held) ⊎ StandsStill shared s.number (machine_in_slot policy s (get_or slots k Free)) (standing_in_slot layout s (get_or slots k Free)) hearer.view hearer.over) place
    (slot_stands policy layout shared s i (get_or slots i Free) hearer is (placed_or slots i placed) (still i) hears)

pub all_still : (policy : ReadPolicy) (layout : Layout) (shared : Shared) (slots : List Slot) (book : Book) → ArePlaced 0 slots → AreStill shared layout slots → AllStill (board_of policy layout shared slots book)
all_still policy layout shared slots book placed still s hearer hears = stands_at policy layout shared slots s hearer s.number refl placed still hears

-- Behind which lines rounds are made.

pub wish_goes_on : (line : Line) (s : ℕ) (wish : Wish) → IsWishOf line s wish → goes_round line ≡ true → goes_on wish ≡ true
wish_goes_on line s wishes.Hold is goes = sym (ap goes_round is) ∙ goes
wish_goes_on line s wishes.Go is goes = refl
wish_goes_on line s (wishes.Until mark) is goes = sym (ap goes_round is) ∙ goes
wish_goes_on line s (wishes.Send sent) is goes = refl
