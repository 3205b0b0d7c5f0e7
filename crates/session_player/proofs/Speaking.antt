-- What clients are told, one thing behind another: of one session wherever the others stand, and of all.
use Rattle.std.proofs.Common.{◌≡◌, ◌≢◌, ℕ, suc, zero, ◌<◌, ◌-◌, ◌==◌, Bool, true, false, List, [], ◌∷◌, ◌++◌, length, get_or, set, refl, sym, ap, ◌∙◌, subst, inl, inr, arith}
use Rattle.std.specs.Prelude.{ℤ, Option, Some, None, if◌then◌else◌}
use Rattle.std.proofs.lemmas.Bool.Decides.{eqb_tells}
use Rattle.std.proofs.lemmas.List.{get_or-set_same, get_or-set_other}
use Rattle.pool_base.specs.declared.session_id.SessionId.{SessionId}
use Rattle.pool_config.specs.declared.config.Node.{Node}
use Rattle.schema.specs.declared.catalogue.TableDef.{TableDef}
use Rattle.pgproto.specs.declared.line.Mark.{Mark}
use Rattle.backend_trait.specs.Rows.{with_at}
use Rattle.session_machine.specs.declared.machine.Machine.{Machine}
use Rattle.session_machine.specs.declared.machine.ReadPolicy.{ReadPolicy}
use Rattle.session_engine.specs.Cores.{machine_in}
use Rattle.session_wire.specs.declared.wire.WireStep.TheVariants as wires
use Rattle.online_recovery.specs.declared.layout.Layout.{Layout}
use Rattle.online_recovery.specs.declared.standing.Standing.{Standing}
use Rattle.session_seat.specs.declared.book.Journal.{Journal}
use Rattle.session_seat.specs.declared.seat.Turn.{Turn}
use Rattle.session_seat.specs.declared.step.Step.{Step}
use Rattle.session_seat.specs.declared.step.Step.TheVariants as steps
use Rattle.session_seat.specs.Told.{added}
use Rattle.session_seat.specs.Shared.{Shared}
use Rattle.session_seat.specs.Schedule.{with_machine}
use Rattle.session_seat.specs.Speech as spoken
use Rattle.session_seat.specs.Speech.{Speech}
use Rattle.recovery_seat.specs.Schedule.{Entry, Of, Recovers, Loses, told, with_standing}
use Rattle.recovery_seat.specs.Places.{standing_of}
use Rattle.recovery_seat.specs.Steps.{Fits, Stand, Stays, at, state}
use Rattle.recovery_seat.specs.Speech.{RecoverySays, SaysAt, Speaks}
use Rattle.session_player.specs.declared.round.TurnEnd.{TurnEnd}
use Rattle.session_player.specs.declared.round.TurnEnd.TheVariants as ends
use Rattle.session_player.specs.declared.client.Client.{Client}
use Rattle.session_player.specs.declared.slots.Slot.{Slot}
use Rattle.session_player.specs.declared.slots.Slot.TheVariants.{Free, Taken}
use Rattle.session_player.specs.Slots.{IsPlaced}
use Rattle.session_player.specs.Turns.{EndsBehind}
use Rattle.session_player.specs.Journals.{machine_in_slot, machines_of, standing_in_slot, standings_of, state_of}
use Rattle.session_player.specs.Speaking.{AllHappen, Board, Event, Happening, Hearer, IsNoLoss, LoseNone, Rest, Close, SpokeAlone, Spoke, Spot, Tells, TellsOf, board, hearer_by, hearer_in, hearer_of, hearers_of, left_at, left_by, spot}
use Rattle.session_player.proofs.Going.{ComesAlone, fits_on, own_here, same_session, set_at, slot_read, with_here, with_self, with_twice}

-- One thing behind another.

all_on : (tables : List TableDef) (moment : ℤ) (nodes : List Node) (a b c : Board) (xs ys : List Happening) → AllHappen tables moment nodes a xs b → AllHappen tables moment nodes b ys c → AllHappen tables moment nodes a (xs ++ ys) c
all_on tables moment nodes a b c [] ys is more = subst (λ z. AllHappen tables moment nodes z ys c) is more
all_on tables moment nodes a b c (x ∷ xs) ys (mid, here, is) more = (mid, here, all_on tables moment nodes mid b c xs ys is more)

none_on : (xs ys : List Happening) → LoseNone xs → LoseNone ys → LoseNone (xs ++ ys)
none_on [] ys kept left = left
none_on (x ∷ xs) ys kept left = (kept.0, none_on xs ys kept.1 left)

pub spoke_none : (tables : List TableDef) (moment : ℤ) (nodes : List Node) (a b : Board) → b ≡ a → Spoke tables moment nodes a b
spoke_none tables moment nodes a b same = ([], same, tt)

pub spoke_on : (tables : List TableDef) (moment : ℤ) (nodes : List Node) (a b c : Board) → Spoke tables moment nodes a b → Spoke tables moment nodes b c → Spoke tables moment nodes a c
spoke_on tables moment nodes a b c (xs, is, kept) (ys, more, left) = (xs ++ ys, all_on tables moment nodes a b c xs ys is more, none_on xs ys kept left)

-- One client among all.

at_self : {A : Type 0} (f : ℕ → A) (i : ℕ) (x : A) (j : ℕ) → f i ≡ x → with_at f i x j ≡ f j
at_self f i x j is = elim (eqb_tells j i) [
  | inl p ↦ ap (λ (b : Bool). if b then x else f j) p.0 ∙ (sym is ∙ ap f (sym p.1))
  | inr p ↦ ap (λ (b : Bool). if b then x else f j) p.0
]

pub hears_self : {A : Type 0} (f : ℕ → A) (i : ℕ) (x : A) → f i ≡ x → with_at f i x ≡ f
hears_self f i x is = λ t j. at_self f i x j is t

twice_as : {A : Type 0} (b : Bool) (x y z : A) → (if b then y else if b then x else z) ≡ (if b then y else z)
twice_as true x y z = refl
twice_as false x y z = refl

hears_twice : {A : Type 0} (f : ℕ → A) (i : ℕ) (x y : A) → with_at (with_at f i x) i y ≡ with_at f i y
hears_twice f i x y = λ t j. twice_as (j == i) x y (f j) t

hears_here : {A : Type 0} (f : ℕ → A) (i : ℕ) (x : A) → with_at f i x i ≡ x
hears_here f i x = elim (eqb_tells i i) [
  | inl p ↦ ap (λ (b : Bool). if b then x else f i) p.0
  | inr p ↦ absurd (p.1 refl)
]

-- One session.

module _ (tables : List TableDef) (moment : ℤ) (nodes : List Node) (s : SessionId) (others : ℕ) where
  -- what stands of it stays
  same_state : (old new : Stand) (machines : SessionId → Machine) (recoveries : SessionId → Standing) → Stays old new → machines s ≡ old.machine → recoveries s ≡ old.standing
      → state new.shared (with_machine machines s new.machine) (with_standing recoveries s new.standing) ≡ state old.shared machines recoveries
  same_state old new machines recoveries stays is stands = λ i. record {
    shared = stays.shared i;
    machines = (ap (with_machine machines s) stays.machine ∙ with_self machines s old.machine is) i;
    recoveries = (ap (with_standing recoveries s) stays.standing ∙ with_self recoveries s old.standing stands) i;
  }

  alone_stays : (old new : Stand) (hearer : Option Hearer) (had has : List ℕ) → Stays old new → has ≡ had → SpokeAlone tables moment nodes s others (spot old hearer had) (spot new hearer has)
  alone_stays old new hearer had has stays same machines recoveries hearers is stands hears fits = (
    [],
    λ i. record { state = same_state old new machines recoveries stays is stands i; hearers = hears_self hearers s.number hearer hears i; journal = stays.journal i; lines = same i },
    tt,
  )

  pub alone_none : (stand : Stand) (hearer : Option Hearer) (lines : List ℕ) → SpokeAlone tables moment nodes s others (spot stand hearer lines) (spot stand hearer lines)
  alone_none stand hearer lines = alone_stays stand stand hearer lines lines (record { shared = refl; machine = refl; standing = refl; journal = refl }) refl

  pub alone_on : (a b c : Spot) → SpokeAlone tables moment nodes s others a b → SpokeAlone tables moment nodes s others b c → SpokeAlone tables moment nodes s others a c
  alone_on a b c one two machines recoveries hearers is stands hears fits =
      let mid : SessionId → Machine = with_machine machines s b.stand.machine in
      let amid : SessionId → Standing = with_standing recoveries s b.stand.standing in
      let there : ℕ → Option Hearer = with_at hearers s.number b.hearer in
      let first : Board = board (state b.stand.shared mid amid) there b.stand.journal b.lines in
      let last : Spoke tables moment nodes first (board (state c.stand.shared (with_machine mid s c.stand.machine) (with_standing amid s c.stand.standing)) (with_at there s.number c.hearer) c.stand.journal c.lines) =
      two mid amid there (with_here machines s b.stand.machine) (with_here recoveries s b.stand.standing) (hears_here hearers s.number b.hearer) (fits_on others s machines recoveries b.stand.machine b.stand.standing fits) in
      let same : board (state c.stand.shared (with_machine mid s c.stand.machine) (with_standing amid s c.stand.standing)) (with_at there s.number c.hearer) c.stand.journal c.lines
      ≡ board (state c.stand.shared (with_machine machines s c.stand.machine) (with_standing recoveries s c.stand.standing)) (with_at hearers s.number c.hearer) c.stand.journal c.lines = (λ i. record {
        state = record { shared = c.stand.shared; machines = with_twice machines s b.stand.machine c.stand.machine i; recoveries = with_twice recoveries s b.stand.standing c.stand.standing i };
        hearers = hears_twice hearers s.number b.hearer c.hearer i;
        journal = c.stand.journal;
        lines = c.lines;
      }) in
      spoke_on tables moment nodes (board (state a.stand.shared machines recoveries) hearers a.stand.journal a.lines) first
      (board (state c.stand.shared (with_machine machines s c.stand.machine) (with_standing recoveries s c.stand.standing)) (with_at hearers s.number c.hearer) c.stand.journal c.lines)
      (one machines recoveries hearers is stands hears fits) (subst (Spoke tables moment nodes first) same last)

module _ (tables : List TableDef) (moment : ℤ) (nodes : List Node) (s : SessionId) (others : ℕ) (turn : Turn) where
  -- it has nothing to do
  alone_rests : (old new : Stand) (was is : Speech) → Stays old new → spoken.Asks tables moment s.number was wires.NeedInput is
      → SpokeAlone tables moment nodes s others (spot old (Some (hearer_by turn was)) was.lines) (spot new (Some (hearer_by turn is)) is.lines)
  alone_rests old new was is stays asks machines recoveries hearers own stands hears fits = (
    Rest s ∷ [],
    (
      board (state new.shared (with_machine machines s new.machine) (with_standing recoveries s new.standing)) (with_at hearers s.number (Some (hearer_by turn is))) new.journal is.lines,
      (
        record { state = same_state tables moment nodes s others old new machines recoveries stays own stands; journal = stays.journal },
        record { was = hearer_by turn was; connected = hears; is = hearer_by turn is; said = asks; turn = refl; hearers = refl },
      ),
      refl,
    ),
    (tt, tt),
  )

  -- it is closed
  alone_closes : (old new : Stand) (was is : Speech) → Stays old new → spoken.Closes tables moment s.number was is
      → SpokeAlone tables moment nodes s others (spot old (Some (hearer_by turn was)) was.lines) (spot new None is.lines)
  alone_closes old new was is stays closes machines recoveries hearers own stands hears fits = (
    Close s ∷ [],
    (
      board (state new.shared (with_machine machines s new.machine) (with_standing recoveries s new.standing)) (with_at hearers s.number None) new.journal is.lines,
      (
        record { state = same_state tables moment nodes s others old new machines recoveries stays own stands; journal = stays.journal },
        record { was = hearer_by turn was; connected = hears; is = is; said = closes; lines = refl; hearers = refl },
      ),
      refl,
    ),
    (tt, tt),
  )

  -- an entry comes
  tells_of : (entry : Entry) (was is : Speech) (old new : Board) → SaysAt tables moment nodes s was entry is → old.hearers s.number ≡ Some (hearer_by turn was) → old.lines ≡ was.lines → new.lines ≡ is.lines
      → new.hearers ≡ with_at old.hearers s.number (Some (hearer_by turn is)) → TellsOf tables moment nodes entry old new
  tells_of (Of t event) was is old new (same, says) hears had has hearers =
      subst (λ (u : SessionId). Tells u (λ a b. spoken.Says tables moment nodes u.number a event b) old new) (sym same)
      (record {
        was = hearer_by turn was;
        connected = hears;
        is = hearer_by turn is;
        said = subst (λ (l : List ℕ). spoken.Says tables moment nodes s.number (record was { lines = l }) event (record is { lines = new.lines })) (sym had)
            (subst (λ (l : List ℕ). spoken.Says tables moment nodes s.number was event (record is { lines = l })) (sym has) says);
        turn = refl;
        hearers = hearers;
      })
  tells_of (Recovers t event) was is old new (same, says) hears had has hearers =
      subst (λ (u : SessionId). Tells u (λ a b. RecoverySays tables moment nodes u.number a event b) old new) (sym same)
      (record {
        was = hearer_by turn was;
        connected = hears;
        is = hearer_by turn is;
        said = subst (λ (l : List ℕ). RecoverySays tables moment nodes s.number (record was { lines = l }) event (record is { lines = new.lines })) (sym had)
            (subst (λ (l : List ℕ). RecoverySays tables moment nodes s.number was event (record is { lines = l })) (sym has) says);
        turn = refl;
        hearers = hearers;
      })
  tells_of (Loses b) was is old new says hears had has hearers = absurd says

  no_loss : (entry : Entry) (was is : Speech) → SaysAt tables moment nodes s was entry is → IsNoLoss (Event entry)
  no_loss (Of t event) was is says = tt
  no_loss (Recovers t event) was is says = tt
  no_loss (Loses b) was is says = absurd says

  alone_told : (entry : Entry) (old new : Stand) (was is : Speech) → ComesAlone tables s others old entry new → new.journal ≡ added old.journal (told tables entry) → SaysAt tables moment nodes s was entry is
      → SpokeAlone tables moment nodes s others (spot old (Some (hearer_by turn was)) was.lines) (spot new (Some (hearer_by turn is)) is.lines)
  alone_told entry old new was is comes tells says machines recoveries hearers own stands hears fits =
      let first : Board = board (state old.shared machines recoveries) hearers old.journal was.lines in
      let last : Board = board (state new.shared (with_machine machines s new.machine) (with_standing recoveries s new.standing)) (with_at hearers s.number (Some (hearer_by turn is))) new.journal is.lines in
      (Event entry ∷ [], (last, (record { comes = comes machines recoveries own stands fits; tells = tells }, tells_of entry was is first last says hears refl refl refl), refl), (no_loss entry was is says, tt))

  pub alone_step : (policy : ReadPolicy) (layout : Layout) (old new : Stand) (was is : Speech) (step : Step) → Speaks tables moment nodes policy layout s others old was step new is
      → SpokeAlone tables moment nodes s others (spot old (Some (hearer_by turn was)) was.lines) (spot new (left_by step (hearer_by turn is)) is.lines)
  alone_step policy layout old new was is (steps.Did mark) speaks = alone_told speaks.0.entry old new was is speaks.0.comes speaks.0.tells speaks.1
  alone_step policy layout old new was is steps.Waits speaks =
      subst (λ (z : Speech). SpokeAlone tables moment nodes s others (spot old (Some (hearer_by turn was)) was.lines) (spot new (Some (hearer_by turn z)) z.lines)) (sym speaks.1)
      (alone_stays tables moment nodes s others old new (Some (hearer_by turn was)) was.lines was.lines speaks.0 refl)
  alone_step policy layout old new was is steps.Idle speaks = alone_rests old new was is speaks.0 speaks.1
  alone_step policy layout old new was is steps.Closed speaks = alone_closes old new was is speaks.0 speaks.3
  alone_step policy layout old new was is (steps.Recovers at_moment number) speaks = absurd speaks

-- a step behind others, of the same session
pub alone_more : (tables : List TableDef) (moment : ℤ) (nodes : List Node) (policy : ReadPolicy) (layout : Layout) (s t : SessionId) (others : ℕ) (turn : Turn) (a : Spot) (b c : Stand) (was is : Speech) (step : Step) (x : Option Hearer) → t ≡ s
    → left_by step (hearer_by turn is) ≡ x → SpokeAlone tables moment nodes s others a (spot b (Some (hearer_by turn was)) was.lines) → Speaks tables moment nodes policy layout t others b was step c is
    → SpokeAlone tables moment nodes s others a (spot c x is.lines)
alone_more tables moment nodes policy layout s t others turn a b c was is step x same left one speaks =
    alone_on tables moment nodes s others a (spot b (Some (hearer_by turn was)) was.lines) (spot c x is.lines) one
    (subst (λ (z : Option Hearer). SpokeAlone tables moment nodes s others (spot b (Some (hearer_by turn was)) was.lines) (spot c z is.lines)) left
    (subst (λ (u : SessionId). SpokeAlone tables moment nodes u others (spot b (Some (hearer_by turn was)) was.lines) (spot c (left_by step (hearer_by turn is)) is.lines)) same
    (alone_step tables moment nodes t others turn policy layout b c was is step speaks)))

-- where a turn goes on its session is not closed, and where it ends it is as the step was
pub left_on : (until : Option Mark) (step : Step) (hearer : Hearer) → EndsBehind until step None → left_by step hearer ≡ Some hearer
left_on until (steps.Did mark) hearer on = refl
left_on until steps.Waits hearer on = refl
left_on until steps.Idle hearer on = refl
left_on until steps.Closed hearer on = let never : None ≡ Some ends.Closed = on in absurd (cc)
left_on until (steps.Recovers moment number) hearer on = refl

left_end : (found end : TurnEnd) (hearer : Hearer) → Some end ≡ Some found → left_at found hearer ≡ left_at end hearer
left_end found end hearer is = let same : end ≡ found = cc in ap (λ (z : TurnEnd). left_at z hearer) (sym same)

pub left_behind : (until : Option Mark) (step : Step) (end : TurnEnd) (hearer : Hearer) → EndsBehind until step (Some end) → left_by step hearer ≡ left_at end hearer
left_behind until (steps.Did mark) end hearer is = ap (λ (z : TurnEnd). left_at z hearer) (sym is.1)
left_behind until steps.Waits end hearer is = left_end ends.Waits end hearer is
left_behind until steps.Idle end hearer is = left_end ends.Rests end hearer is
left_behind until steps.Closed end hearer is = left_end ends.Closed end hearer is
left_behind until (steps.Recovers moment number) end hearer is = absurd is

pub stays_there : (end : TurnEnd) (hearer : Hearer) → (end ≢ ends.Closed) → left_at end hearer ≡ Some hearer
stays_there ends.Marked hearer other = refl
stays_there ends.Waits hearer other = refl
stays_there ends.Rests hearer other = refl
stays_there ends.Closed hearer other = absurd (other refl)

pub goes_away : (end : TurnEnd) (hearer : Hearer) → end ≡ ends.Closed → left_at end hearer ≡ None
goes_away end hearer is = ap (λ (z : TurnEnd). left_at z hearer) is

-- The slots of all sessions.

pub alone_in : (tables : List TableDef) (moment : ℤ) (nodes : List Node) (policy : ReadPolicy) (layout : Layout) (s : SessionId) (others before : ℕ) (slot new : Slot) (client : Client) (g h : Shared) (j k : Journal) (m : Machine) (r : Standing)
    (x : Option Hearer) (had has : List ℕ) → s.number ≡ suc before → IsPlaced before slot → slot ≡ Taken client
    → SpokeAlone tables moment nodes client.place.seat.s others (spot (at g (machine_in client.place.seat.core) (standing_of layout client.place) j) (Some (hearer_of client.place.seat)) had) (spot (at h m r k) x has)
    → (client.place.seat.s ≡ s → machine_in_slot policy s new ≡ m) → (client.place.seat.s ≡ s → standing_in_slot layout s new ≡ r) → hearer_in new ≡ x
    → SpokeAlone tables moment nodes s others (spot (at g (machine_in_slot policy s slot) (standing_in_slot layout s slot) j) (hearer_in slot) had)
    (spot (at h (machine_in_slot policy s new) (standing_in_slot layout s new) k) (hearer_in new) has)
alone_in tables moment nodes policy layout s others before slot new client g h j k m r x had has is placed taken spoke left stands hears =
    let here : client.place.seat.s.number ≡ suc before = subst (IsPlaced before) taken placed in
    let own : client.place.seat.s ≡ s = same_session client.place.seat.s s (here ∙ sym is) in
    let first : Spot = spot (at g (machine_in client.place.seat.core) (standing_of layout client.place) j) (Some (hearer_of client.place.seat)) had in
    subst (λ (z : Slot). SpokeAlone tables moment nodes s others (spot (at g (machine_in_slot policy s z) (standing_in_slot layout s z) j) (hearer_in z) had)
    (spot (at h (machine_in_slot policy s new) (standing_in_slot layout s new) k) (hearer_in new) has)) (sym taken)
    (subst (λ (z : Option Hearer). SpokeAlone tables moment nodes s others first (spot (at h (machine_in_slot policy s new) (standing_in_slot layout s new) k) z has)) (sym hears)
    (subst (λ (z : Standing). SpokeAlone tables moment nodes s others first (spot (at h (machine_in_slot policy s new) z k) x has)) (sym (stands own))
    (subst (λ (z : Machine). SpokeAlone tables moment nodes s others first (spot (at h z r k) x has)) (sym (left own))
    (subst (λ (u : SessionId). SpokeAlone tables moment nodes u others first (spot (at h m r k) x has)) own spoke))))

hears_set_at : (slots : List Slot) (i : ℕ) (slot : Slot) (n : ℕ) → i < length slots → hearers_of (set slots i slot) n ≡ with_at (hearers_of slots) (suc i) (hearer_in slot) n
hears_set_at slots i slot zero below = elim (eqb_tells 0 (suc i)) [
  | inl p ↦ absurd (omega (arith, p.1))
  | inr p ↦ ap (λ (b : Bool). if b then hearer_in slot else None) (sym p.0)
]
hears_set_at slots i slot (suc n) below = elim (eqb_tells (suc n) (suc i)) [
  | inl p ↦
      let same : n ≡ i = omega (arith, p.1) in
      ap (λ (k : ℕ). hearer_in (get_or (set slots i slot) k Free)) same ∙ (ap hearer_in (get_or-set_same slots i slot Free below) ∙ ap (λ (b : Bool). if b then hearer_in slot else hearers_of slots (suc n)) (sym p.0))
  | inr p ↦
      ap hearer_in (get_or-set_other slots i n slot Free (λ e. p.1 (omega (arith, e)))) ∙ ap (λ (b : Bool). if b then hearer_in slot else hearers_of slots (suc n)) (sym p.0)
]

pub hears_set : (slots : List Slot) (i : ℕ) (slot : Slot) (s : SessionId) → s.number ≡ suc i → i < length slots → hearers_of (set slots i slot) ≡ with_at (hearers_of slots) s.number (hearer_in slot)
hears_set slots i slot s is below = (λ t n. hears_set_at slots i slot n below t) ∙ ap (λ (n : ℕ). with_at (hearers_of slots) n (hearer_in slot)) (sym is)

pub hears_at : (slots : List Slot) (i : ℕ) (slot : Slot) (s : SessionId) → s.number ≡ suc i → i < length slots → slot ≡ get_or slots i slot → hearers_of slots s.number ≡ hearer_in slot
hears_at slots i slot s is below read = ap (hearers_of slots) is ∙ ap hearer_in (slot_read slots i slot below read)

pub spoke_slot : (tables : List TableDef) (moment : ℤ) (nodes : List Node) (policy : ReadPolicy) (layout : Layout) (slots : List Slot) (i : ℕ) (old new : Slot) (s : SessionId) (others : ℕ) (g h : Shared) (j k : Journal) (had has : List ℕ)
    → s.number ≡ suc i → i < length slots → old ≡ get_or slots i old → Fits others s (machines_of policy slots) (standings_of layout slots)
    → SpokeAlone tables moment nodes s others (spot (at g (machine_in_slot policy s old) (standing_in_slot layout s old) j) (hearer_in old) had) (spot (at h (machine_in_slot policy s new) (standing_in_slot layout s new) k) (hearer_in new) has)
    → Spoke tables moment nodes (board (state_of policy layout g slots) (hearers_of slots) j had) (board (state_of policy layout h (set slots i new)) (hearers_of (set slots i new)) k has)
spoke_slot tables moment nodes policy layout slots i old new s others g h j k had has is below read fits spoke =
    let all : machines_of policy (set slots i new) ≡ with_machine (machines_of policy slots) s (machine_in_slot policy s new) = λ x t. set_at (machine_in_slot policy) slots i new s t is below x in
    let each : standings_of layout (set slots i new) ≡ with_standing (standings_of layout slots) s (standing_in_slot layout s new) = λ x t. set_at (standing_in_slot layout) slots i new s t is below x in
    let clients = hears_set slots i new s is below in
    let first = board (state_of policy layout g slots) (hearers_of slots) j had in
    let same : board (state_of policy layout h (set slots i new)) (hearers_of (set slots i new)) k has
    ≡ board (state h (with_machine (machines_of policy slots) s (machine_in_slot policy s new)) (with_standing (standings_of layout slots) s (standing_in_slot layout s new))) (with_at (hearers_of slots) s.number (hearer_in new)) k has =
    (λ x. record { state = record { shared = h; machines = all x; recoveries = each x }; hearers = clients x; journal = k; lines = has }) in
    subst (Spoke tables moment nodes first) (sym same)
    (spoke (machines_of policy slots) (standings_of layout slots) (hearers_of slots) (own_here (machine_in_slot policy) slots i old s is below read) (own_here (standing_in_slot layout) slots i old s is below read)
    (hears_at slots i old s is below read) fits)

-- One part of a play behind another.
pub spoke_round : (tables : List TableDef) (moment : ℤ) (nodes : List Node) (policy : ReadPolicy) (layout : Layout) (a : Board) (g h : Shared) (j k : Journal) (had has : List ℕ) (xs ys zs ws : List Slot) → ys ≡ xs → ws ≡ zs
    → Spoke tables moment nodes a (board (state_of policy layout g xs) (hearers_of xs) j had)
    → Spoke tables moment nodes (board (state_of policy layout g ys) (hearers_of ys) j had) (board (state_of policy layout h zs) (hearers_of zs) k has)
    → Spoke tables moment nodes a (board (state_of policy layout h ws) (hearers_of ws) k has)
spoke_round tables moment nodes policy layout a g h j k had has xs ys zs ws read written first last =
    let whole = (λ (z : List Slot). board (state_of policy layout g z) (hearers_of z) j had) in
    let behind = (λ (z : List Slot). board (state_of policy layout h z) (hearers_of z) k has) in
    spoke_on tables moment nodes a (whole xs) (behind ws) first
    (subst (λ (z : List Slot). Spoke tables moment nodes (whole xs) (behind z)) (sym written) (subst (λ (z : List Slot). Spoke tables moment nodes (whole z) (behind zs)) read last))
