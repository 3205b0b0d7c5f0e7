-- Schedules one behind another, and the journal that tells of them.
use mathlib.Core.HLevel.{is_prop→PathP}
use native.Mathlib.Bridge.{le_prop}
use Rattle.std.proofs.Common.{Result, Ok, Err, ◌≡◌, ℕ, suc, ◌<◌, ◌≤◌, ◌-◌, ◌==◌, Bool, true, false, List, [], ◌∷◌, ◌++◌, length, take, get_or, set, refl, sym, ap, ◌∙◌, subst, inl, inr, append_assoc, arith}
use Rattle.std.specs.Prelude.{Option, Some, OnOk, if◌then◌else◌}
use Rattle.std.proofs.lemmas.Bool.Decides.{eqb_tells}
use Rattle.std.proofs.lemmas.List.{append-nil, take-append-le, get_or-set_same, get_or-set_other}
use Rattle.std.proofs.lemmas.Option.{slice_get_read, get_or_from_slice_get}
use Rattle.pool_config.specs.declared.config.Config.{Config}
use Rattle.pool_base.specs.Outside.{Appends}
use Rattle.pool_base.proofs.Sinking.{appends_on}
use Rattle.pool_base.specs.declared.session_id.SessionId.{SessionId}
use Rattle.schema.specs.declared.catalogue.TableDef.{TableDef}
use Rattle.schema.specs.Allowed.{AreAllowed}
use Rattle.session_machine.specs.declared.machine.Machine.{Machine}
use Rattle.session_machine.specs.declared.machine.ReadPolicy.{ReadPolicy}
use Rattle.session_machine.specs.Rules.{new_machine, next_action}
use Rattle.session_engine.specs.Cores.{machine_in}
use Rattle.online_recovery.specs.declared.layout.Layout.{Layout}
use Rattle.online_recovery.specs.declared.standing.Standing.{Standing}
use Rattle.online_recovery.specs.State.{new_standing}
use Rattle.online_recovery.specs.Rules.{next_action as recovery_action}
use Rattle.journal.specs.Header.{IsHeader}
use Rattle.session_seat.specs.declared.book.Journal.{Journal}
use Rattle.session_seat.specs.declared.book.Journal.TheVariants.{Off, On}
use Rattle.session_seat.specs.declared.step.Step.{Step}
use Rattle.session_seat.specs.declared.step.Step.TheVariants as steps
use Rattle.session_seat.specs.Told.{added}
use Rattle.session_seat.specs.Schedule.{with_machine}
use Rattle.recovery_seat.specs.Places.{IsLayout, standing_of}
use Rattle.recovery_seat.specs.Schedule.{Entry, State, Comes, IsSchedule, told, lines, with_standing}
use Rattle.recovery_seat.specs.Steps.{Fits, IsAt, IsStep, RecoversAt, Stand, state}
use Rattle.session_player.specs.declared.client.Client.{Client}
use Rattle.session_player.specs.declared.slots.Slot.{Slot}
use Rattle.session_player.specs.declared.slots.Slot.TheVariants.{Free, Taken}
use Rattle.session_player.specs.Slots.{is_taken}
use Rattle.pgproto.specs.declared.line.Mark.{Mark}
use Rattle.session_player.specs.declared.round.TurnEnd.{TurnEnd}
use Rattle.session_player.specs.declared.round.TurnEnd.TheVariants.{Closed, Marked, Rests, Waits}
use Rattle.session_player.specs.Turns.{EndsBehind, IsTaken}
use Rattle.session_player.proofs.Walking.{taken_all}
use Rattle.session_player.specs.Journals.{machine_in_slot, machines_of, standing_in_slot, standings_of, IsPut}

-- Lines behind lines.

pub added_none : (journal : Journal) → journal ≡ added journal []
added_none Off = refl
added_none (On kept) = ap On (sym (append-nil kept))

pub added_on : (journal : Journal) (a b : List ℕ) → added (added journal a) b ≡ added journal (a ++ b)
added_on Off a b = refl
added_on (On kept) a b = ap On (append_assoc kept a b)

pub lines_on : (tables : List TableDef) (xs ys : List Entry) → lines tables (xs ++ ys) ≡ lines tables xs ++ lines tables ys
lines_on tables [] ys = refl
lines_on tables (x ∷ xs) ys = ap (λ z. told tables x ++ z) (lines_on tables xs ys) ∙ sym (append_assoc (told tables x) (lines tables xs) (lines tables ys))

pub schedule_on : (tables : List TableDef) (a b c : State) (xs ys : List Entry) → IsSchedule tables a xs b → IsSchedule tables b ys c → IsSchedule tables a (xs ++ ys) c
schedule_on tables a b c [] ys is more = subst (λ z. IsSchedule tables z ys c) is more
schedule_on tables a b c (x ∷ xs) ys (mid, comes, is) more = (mid, comes, schedule_on tables mid b c xs ys is more)

-- What is one session's among that of all.

same_number : (m n : ℕ) → (m == n) ≡ true → m ≡ n
same_number m n e = elim (eqb_tells m n) [
  | inl p ↦ p.1
  | inr p ↦ absurd (let f : true ≡ false = sym e ∙ p.0 in cc)
]

itself : (n : ℕ) → (n == n) ≡ true
itself n = elim (eqb_tells n n) [
  | inl p ↦ p.0
  | inr p ↦ absurd (p.1 refl)
]

pub same_session : (s t : SessionId) → s.number ≡ t.number → s ≡ t
same_session s t e =
    λ i. record {
      number = e i;
      from_one = is_prop→PathP (λ j. 1 ≤ e j) (λ j. le_prop) s.from_one t.from_one i;
      up_to_64 = is_prop→PathP (λ j. e j ≤ 64) (λ j. le_prop) s.up_to_64 t.up_to_64 i;
    }

-- s has this one, and every other what it had
abbrev with_own : {V : Type 0} → (SessionId → V) → SessionId → V → SessionId → V
with_own {V} all s own t = if t.number == s.number then own else all t

self_at : {V : Type 0} (all : SessionId → V) (s t : SessionId) (own : V) → all s ≡ own → (b : Bool) → (b ≡ true → t ≡ s) → (if b then own else all t) ≡ all t
self_at all s t own is true same = sym is ∙ ap all (sym (same refl))
self_at all s t own is false same = refl

pub with_self : {V : Type 0} (all : SessionId → V) (s : SessionId) (own : V) → all s ≡ own → with_own all s own ≡ all
with_self all s own is = λ i t. self_at all s t own is (t.number == s.number) (λ e. same_session t s (same_number t.number s.number e)) i

twice_at : {V : Type 0} (b : Bool) (m n o : V) → (if b then n else if b then m else o) ≡ (if b then n else o)
twice_at true m n o = refl
twice_at false m n o = refl

pub with_twice : {V : Type 0} (all : SessionId → V) (s : SessionId) (m n : V) → with_own (with_own all s m) s n ≡ with_own all s n
with_twice all s m n = λ i t. twice_at (t.number == s.number) m n (all t) i

pub with_here : {V : Type 0} (all : SessionId → V) (s : SessionId) (m : V) → with_own all s m s ≡ m
with_here all s m = ap (λ (b : Bool). if b then m else all s) (itself s.number)

with_other : {V : Type 0} (all : SessionId → V) (s o : SessionId) (m : V) → (o.number == s.number) ≡ false → with_own all s m o ≡ all o
with_other all s o m other = ap (λ (b : Bool). if b then m else all o) other

-- What a step did, wherever the other sessions stand.

-- the others stand as they did
pub fits_on : (others : ℕ) (s : SessionId) (machines : SessionId → Machine) (recoveries : SessionId → Standing) (m : Machine) (r : Standing) → Fits others s machines recoveries
    → Fits others s (with_machine machines s m) (with_standing recoveries s r)
fits_on others s machines recoveries m r fits = record {
  sessions = λ o b other due. fits.sessions o b other (subst (λ (z : Machine). IsAt b (next_action z)) (with_other machines s o m other) due);
  recovers = λ o b other due. fits.recovers o b other (subst (λ (z : Standing). RecoversAt b (recovery_action z)) (with_other recoveries s o r other) due);
}

-- one entry comes, wherever the others stand
abbrev pub ComesAlone : List TableDef → SessionId → ℕ → Stand → Entry → Stand → Type 0
ComesAlone tables s others old entry new =
    (machines : SessionId → Machine) (recoveries : SessionId → Standing) → machines s ≡ old.machine → recoveries s ≡ old.standing → Fits others s machines recoveries
    → Comes tables (state old.shared machines recoveries) entry (state new.shared (with_machine machines s new.machine) (with_standing recoveries s new.standing))

-- a place begins a recovery itself
pub taken_whole : (tables : List TableDef) (policy : ReadPolicy) (layout : Layout) (s : SessionId) (others : ℕ) (old new : Stand) (step : Step) → IsStep tables policy layout s others old step new → IsTaken step
taken_whole tables policy layout s others old new (steps.Did mark) is = tt
taken_whole tables policy layout s others old new steps.Waits is = tt
taken_whole tables policy layout s others old new steps.Idle is = tt
taken_whole tables policy layout s others old new steps.Closed is = tt
taken_whole tables policy layout s others old new (steps.Recovers moment number) is = is

-- a turn that ends closed leaves the machine of a start
pub closed_behind : (tables : List TableDef) (policy : ReadPolicy) (layout : Layout) (s t : SessionId) (others : ℕ) (old new : Stand) (until : Option Mark) (step : Step) (end : TurnEnd) → IsStep tables policy layout s others old step new
    → EndsBehind until step (Some end) → end ≡ Closed → s ≡ t → new.machine ≡ new_machine t policy
closed_behind tables policy layout s t others old new until (steps.Did mark) end is ends closed own = let never : Marked ≡ Closed = sym ends.1 ∙ closed in absurd (cc)
closed_behind tables policy layout s t others old new until steps.Waits end is ends closed own = let never : Some Waits ≡ Some Closed = sym ends ∙ ap Some closed in absurd (cc)
closed_behind tables policy layout s t others old new until steps.Idle end is ends closed own = let never : Some Rests ≡ Some Closed = sym ends ∙ ap Some closed in absurd (cc)
closed_behind tables policy layout s t others old new until steps.Closed end is ends closed own = is.1 ∙ ap (λ (u : SessionId). new_machine u policy) own
closed_behind tables policy layout s t others old new until (steps.Recovers moment number) end is ends closed own = absurd is

-- The slots of all sessions.

pub session_of : (i : ℕ) → i < 64 → SessionId
session_of i below = record { number = suc i; from_one = omega arith; up_to_64 = omega (arith, below) }

pub session_number : (i : ℕ) (below : i < 64) → (session_of i below).number ≡ suc i
unfolding session_of
session_number i below = refl

pub slot_read : (slots : List Slot) (i : ℕ) (slot : Slot) → i < length slots → slot ≡ get_or slots i slot → get_or slots i Free ≡ slot
slot_read slots i slot below is = get_or_from_slice_get slots i slot Free (slice_get_read slots (length slots) i slot refl below is)

at_place : (slots : List Slot) (i : ℕ) (slot : Slot) (t : SessionId) → t.number ≡ suc i → i < length slots → get_or (set slots i slot) (t.number - 1) Free ≡ slot
at_place slots i slot t is below = let here : t.number - 1 ≡ i = omega (arith, is) in ap (λ (j : ℕ). get_or (set slots i slot) j Free) here ∙ get_or-set_same slots i slot Free below

elsewhere : (slots : List Slot) (i : ℕ) (slot : Slot) (t : SessionId) → (t.number ≡ suc i → ⊥) → get_or (set slots i slot) (t.number - 1) Free ≡ get_or slots (t.number - 1) Free
elsewhere slots i slot t other = get_or-set_other slots i (t.number - 1) slot Free (λ e. other (omega (arith, e, t.from_one)))

-- a slot is another, and what is its session's with it
pub set_at : {V : Type 0} (own_in : SessionId → Slot → V) (slots : List Slot) (i : ℕ) (slot : Slot) (s t : SessionId) → s.number ≡ suc i → i < length slots
    → own_in t (get_or (set slots i slot) (t.number - 1) Free) ≡ with_own (λ u. own_in u (get_or slots (u.number - 1) Free)) s (own_in s slot) t
set_at {V} own_in slots i slot s t is below =
    let all : SessionId → V = λ u. own_in u (get_or slots (u.number - 1) Free) in
    elim (eqb_tells t.number s.number) [
      | inl p ↦
          ap (own_in t) (at_place slots i slot t (p.1 ∙ is) below)
          ∙ (ap (λ (u : SessionId). own_in u slot) (same_session t s p.1) ∙ ap (λ (b : Bool). if b then own_in s slot else all t) (sym p.0))
      | inr p ↦
          ap (own_in t) (elsewhere slots i slot t (λ e. p.1 (e ∙ sym is)))
          ∙ ap (λ (b : Bool). if b then own_in s slot else all t) (sym p.0)
    ]

-- what is a session's where its slot is read
pub own_here : {V : Type 0} (own_in : SessionId → Slot → V) (slots : List Slot) (i : ℕ) (slot : Slot) (s : SessionId) → s.number ≡ suc i → i < length slots → slot ≡ get_or slots i slot
    → own_in s (get_or slots (s.number - 1) Free) ≡ own_in s slot
own_here own_in slots i slot s is below read =
    let place : s.number - 1 ≡ i = omega (arith, is) in
    ap (λ (n : ℕ). own_in s (get_or slots n Free)) place ∙ ap (own_in s) (slot_read slots i slot below read)

-- a session that is closed stands as at its start, so that its slot may be free
pub freed : (policy : ReadPolicy) (s t : SessionId) (new : Slot) (m : Machine) → new ≡ Free → m ≡ new_machine t policy → t ≡ s → machine_in_slot policy s new ≡ m
freed policy s t new m is start own = ap (machine_in_slot policy s) is ∙ (ap (λ (u : SessionId). new_machine u policy) (sym own) ∙ sym start)

pub freed_at_rest : (layout : Layout) (s t : SessionId) (new : Slot) (r : Standing) → new ≡ Free → r ≡ new_standing t layout → t ≡ s → standing_in_slot layout s new ≡ r
freed_at_rest layout s t new r is start own = ap (standing_in_slot layout s) is ∙ (ap (λ (u : SessionId). new_standing u layout) (sym own) ∙ sym start)

-- a slot is another, and what is its session's the same
same_at : {V : Type 0} (own_in : SessionId → Slot → V) (slots : List Slot) (i : ℕ) (old new : Slot) (t : SessionId) → i < length slots → old ≡ get_or slots i old
    → ((s : SessionId) → s.number ≡ suc i → own_in s new ≡ own_in s old) → own_in t (get_or (set slots i new) (t.number - 1) Free) ≡ own_in t (get_or slots (t.number - 1) Free)
same_at own_in slots i old new t below read same = elim (eqb_tells t.number (suc i)) [
  | inl p ↦
      let place : t.number - 1 ≡ i = omega (arith, p.1) in
      ap (own_in t) (at_place slots i new t p.1 below)
      ∙ (same t p.1 ∙ (ap (own_in t) (sym (slot_read slots i old below read)) ∙ ap (λ (n : ℕ). own_in t (get_or slots n Free)) (sym place)))
  | inr p ↦ ap (own_in t) (elsewhere slots i new t p.1)
]

pub machines_same : (policy : ReadPolicy) (slots : List Slot) (i : ℕ) (old new : Slot) → i < length slots → old ≡ get_or slots i old
    → ((s : SessionId) → s.number ≡ suc i → machine_in_slot policy s new ≡ machine_in_slot policy s old) → machines_of policy (set slots i new) ≡ machines_of policy slots
machines_same policy slots i old new below read same = λ x t. same_at (machine_in_slot policy) slots i old new t below read same x

pub standings_same : (layout : Layout) (slots : List Slot) (i : ℕ) (old new : Slot) → i < length slots → old ≡ get_or slots i old
    → ((s : SessionId) → s.number ≡ suc i → standing_in_slot layout s new ≡ standing_in_slot layout s old) → standings_of layout (set slots i new) ≡ standings_of layout slots
standings_same layout slots i old new below read same = λ x t. same_at (standing_in_slot layout) slots i old new t below read same x

-- a client is in a slot that was free
free_of : (slot : Slot) → is_taken slot ≡ false → slot ≡ Free
free_of Free is = refl
free_of (Taken client) is = let never : true ≡ false = is in absurd (cc)

was_free : (slots : List Slot) (i : ℕ) (seen old : Slot) → i < length slots → seen ≡ get_or slots i seen → old ≡ get_or slots i old → is_taken seen ≡ false → old ≡ Free
was_free slots i seen old below read again free = sym (slot_read slots i old below again) ∙ (slot_read slots i seen below read ∙ free_of seen free)

pub connected : (policy : ReadPolicy) (slots : List Slot) (i : ℕ) (seen old new : Slot) (client : Client) (s : SessionId) → i < length slots → s.number ≡ suc i → seen ≡ get_or slots i seen → old ≡ get_or slots i old
    → is_taken seen ≡ false → new ≡ Taken client → machine_in client.place.seat.core ≡ new_machine s policy → machines_of policy (set slots i new) ≡ machines_of policy slots
connected policy slots i seen old new client s below is read again free taken start =
    let was : old ≡ Free = was_free slots i seen old below read again free in
    machines_same policy slots i old new below again (λ t own. ap (machine_in_slot policy t) taken ∙ (start ∙ (ap (λ (u : SessionId). new_machine u policy) (same_session s t (is ∙ sym own)) ∙ ap (machine_in_slot policy t) (sym was))))

-- its recovery rests
pub connected_at_rest : (layout : Layout) (slots : List Slot) (i : ℕ) (seen old new : Slot) (client : Client) (s : SessionId) → i < length slots → s.number ≡ suc i → seen ≡ get_or slots i seen → old ≡ get_or slots i old
    → is_taken seen ≡ false → new ≡ Taken client → standing_of layout client.place ≡ new_standing s layout → standings_of layout (set slots i new) ≡ standings_of layout slots
connected_at_rest layout slots i seen old new client s below is read again free taken start =
    let was : old ≡ Free = was_free slots i seen old below read again free in
    standings_same layout slots i old new below again (λ t own. ap (standing_in_slot layout t) taken ∙ (start ∙ (ap (λ (u : SessionId). new_standing u layout) (same_session s t (is ∙ sym own)) ∙ ap (standing_in_slot layout t) (sym was))))

-- a slice of all slots is written back
pub whole_again : (n : ℕ) (new rest : List Slot) → n ≡ length new → take n (new ++ rest) ≡ new
whole_again n new rest is = take-append-le n new rest (omega (arith, is)) ∙ taken_all new n (omega (arith, is))

-- the journal is written behind its header
pub put_on : (config : Config) (tables : List TableDef) (journal : Journal) (kept header : List ℕ) (a b c : Option (List ℕ)) → journal ≡ On kept → IsHeader config tables header → Appends a b header → Appends b c kept
    → IsPut config tables journal a c
put_on config tables journal kept header a b c is shown one two =
    subst (λ (z : Journal). IsPut config tables z a c) (sym is) (header, shown, appends_on a b c header kept one two)

pub on_ok_always : {T E P : Type 0} (r : Result T E) → P → OnOk r P
on_ok_always (Ok x) holds = holds
on_ok_always (Err e) holds = tt

-- the layout of a configuration and its tables
pub layout_of : (config : Config) (tables : List TableDef) → AreAllowed tables → Layout
layout_of config tables allowed = record { nodes = length config.nodes; tables = tables; allowed = ∣ allowed ∣₁ }

pub is_layout : (config : Config) (tables : List TableDef) (allowed : AreAllowed tables) → IsLayout config tables (layout_of config tables allowed)
unfolding layout_of
is_layout config tables allowed = record { of_nodes = refl; of_tables = refl }

-- what reads the same reads that of the same layout
pub layout_there : (config read : Config) (tables used : List TableDef) (layout : Layout) → read ≡ config → used ≡ tables → IsLayout config tables layout → IsLayout read used layout
layout_there config read tables used layout own same is =
    subst (λ (z : Config). IsLayout z used layout) (sym own) (subst (λ (z : List TableDef). IsLayout config z layout) (sym same) is)
