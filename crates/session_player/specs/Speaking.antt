-- What takes place in a play, one after another, and what each client is told of it.
use Rattle.std.specs.Prelude.{◌≡◌, ℕ, ℤ, zero, suc, Bool, List, [], ◌∷◌, Option, Some, None, slice_index_or}
use Rattle.pool_base.specs.declared.session_id.SessionId.{SessionId}
use Rattle.pool_config.specs.declared.config.Node.{Node}
use Rattle.schema.specs.declared.catalogue.TableDef.{TableDef}
use Rattle.backend_trait.specs.Rows.{with_at}
use Rattle.session_machine.specs.declared.machine.Machine.{Machine}
use Rattle.session_machine.specs.declared.machine.ReadPolicy.{ReadPolicy}
use Rattle.session_wire.specs.declared.wire.WireStep.TheVariants as wires
use Rattle.session_wire.specs.Shown.{View, shown}
use Rattle.online_recovery.specs.declared.layout.Layout.{Layout}
use Rattle.online_recovery.specs.declared.standing.Standing.{Standing}
use Rattle.session_seat.specs.declared.book.Book.{Book}
use Rattle.session_seat.specs.declared.book.Journal.{Journal}
use Rattle.session_seat.specs.declared.seat.Seat.{Seat}
use Rattle.session_seat.specs.declared.seat.Turn.{Turn}
use Rattle.session_seat.specs.declared.step.Step.{Step}
use Rattle.session_seat.specs.declared.step.Step.TheVariants as step
use Rattle.session_seat.specs.Told.{added}
use Rattle.session_seat.specs.Shared.{Shared}
use Rattle.session_seat.specs.Schedule.{with_machine}
use Rattle.session_seat.specs.Speech as spoken
use Rattle.session_seat.specs.Speech.{Speech}
use Rattle.recovery_seat.specs.Schedule.{Entry, State, Of, Recovers, Loses, Comes, told, with_standing}
use Rattle.recovery_seat.specs.Steps.{Fits, Stand, state}
use Rattle.recovery_seat.specs.Speech.{RecoverySays}
use Rattle.session_player.specs.declared.round.TurnEnd.{TurnEnd}
use Rattle.session_player.specs.declared.round.TurnEnd.TheVariants as ends
use Rattle.session_player.specs.declared.slots.Slot.{Slot}
use Rattle.session_player.specs.declared.slots.Slot.TheVariants.{Free, Taken}
use Rattle.session_player.specs.Journals.{state_of}

-- Clients.

-- a client that is connected: where its wire stands, whether its session is over, and whether it is held
pub record Hearer : Type 0 where
  pub view : View
  pub over : Bool
  pub turn : Turn

abbrev pub hearer_of : Seat → Hearer
hearer_of seat = record { view = shown seat.wire; over = seat.over; turn = seat.turn }

abbrev pub hearer_in : Slot → Option Hearer
hearer_in Free = None
hearer_in (Taken client) = Some (hearer_of client.place.seat)

-- the clients by the numbers of their sessions
abbrev pub hearers_of : List Slot → ℕ → Option Hearer
hearers_of slots zero = None
hearers_of slots (suc i) = hearer_in (slice_index_or slots i Free)

abbrev pub speech_of : Hearer → List ℕ → Speech
speech_of hearer lines = record { view = hearer.view; over = hearer.over; lines = lines }

abbrev pub hearer_by : Turn → Speech → Hearer
hearer_by turn speech = record { view = speech.view; over = speech.over; turn = turn }

-- All of a play.

-- the gate, the stores and the machines; the clients; the journal, and the lines of the part that is played
pub record Board : Type 0 where
  pub state : State
  pub hearers : ℕ → Option Hearer
  pub journal : Journal
  pub lines : List ℕ

abbrev pub board : State → (ℕ → Option Hearer) → Journal → List ℕ → Board
board state hearers journal lines = record { state = state; hearers = hearers; journal = journal; lines = lines }

abbrev pub board_of : ReadPolicy → Layout → Shared → List Slot → Book → Board
board_of policy layout shared slots book = board (state_of policy layout shared slots) (hearers_of slots) book.journal book.lines

-- an entry comes; a session's client has nothing to do; a session is closed
pub data Happening : Type 0 where
  Event : Entry → Happening
  Rest : SessionId → Happening
  Close : SessionId → Happening

abbrev pub entries_of : List Happening → List Entry
entries_of [] = []
entries_of (Event entry ∷ more) = entry ∷ entries_of more
entries_of (Rest s ∷ more) = entries_of more
entries_of (Close s ∷ more) = entries_of more

-- the client of session s is told something, and no other is
pub record Tells (s : SessionId) (says : Speech → Speech → Type 0) (old new : Board) : Type 0 where
  pub was : Hearer
  pub connected : old.hearers s.number ≡ Some was
  pub is : Hearer
  pub said : says (speech_of was old.lines) (speech_of is new.lines)
  pub turn : is.turn ≡ was.turn
  pub hearers : new.hearers ≡ with_at old.hearers s.number (Some is)

-- and is connected no more behind it
pub record Leaves (s : SessionId) (says : Speech → Speech → Type 0) (old new : Board) : Type 0 where
  pub was : Hearer
  pub connected : old.hearers s.number ≡ Some was
  pub is : Speech
  pub said : says (speech_of was old.lines) is
  pub lines : new.lines ≡ is.lines
  pub hearers : new.hearers ≡ with_at old.hearers s.number None

-- no entry comes
pub record Stills (old new : Board) : Type 0 where
  pub state : new.state ≡ old.state
  pub journal : new.journal ≡ old.journal

-- an entry comes, where it may, and the journal tells of it
pub record Enters (tables : List TableDef) (entry : Entry) (old new : Board) : Type 0 where
  pub comes : Comes tables old.state entry new.state
  pub tells : new.journal ≡ added old.journal (told tables entry)

-- what is told of it
abbrev pub TellsOf : List TableDef → ℤ → List Node → Entry → Board → Board → Type 0
TellsOf tables moment nodes (Of s event) old new = Tells s (λ was is. spoken.Says tables moment nodes s.number was event is) old new
TellsOf tables moment nodes (Recovers s event) old new = Tells s (λ was is. RecoverySays tables moment nodes s.number was event is) old new
TellsOf tables moment nodes (Loses b) old new = (new.hearers ≡ old.hearers) × (new.lines ≡ old.lines)

abbrev pub Happens : List TableDef → ℤ → List Node → Happening → Board → Board → Type 0
Happens tables moment nodes (Event entry) old new = Enters tables entry old new × TellsOf tables moment nodes entry old new
Happens tables moment nodes (Rest s) old new = Stills old new × Tells s (λ was is. spoken.Asks tables moment s.number was wires.NeedInput is) old new
Happens tables moment nodes (Close s) old new = Stills old new × Leaves s (λ was is. spoken.Closes tables moment s.number was is) old new

-- one after another
abbrev pub AllHappen : List TableDef → ℤ → List Node → Board → List Happening → Board → Type 0
AllHappen tables moment nodes old [] new = new ≡ old
AllHappen tables moment nodes old (happening ∷ more) new = (mid : Board) × Happens tables moment nodes happening old mid × AllHappen tables moment nodes mid more new

-- no backend is lost
abbrev pub IsNoLoss : Happening → Type 0
IsNoLoss (Event (Of s event)) = Unit {0}
IsNoLoss (Event (Recovers s event)) = Unit {0}
IsNoLoss (Event (Loses b)) = ⊥
IsNoLoss (Rest s) = Unit {0}
IsNoLoss (Close s) = Unit {0}

abbrev pub LoseNone : List Happening → Type 0
LoseNone [] = Unit {0}
LoseNone (happening ∷ more) = IsNoLoss happening × LoseNone more

-- steps of sessions lose no backend
abbrev pub Spoke : List TableDef → ℤ → List Node → Board → Board → Type 0
Spoke tables moment nodes old new = (happenings : List Happening) × AllHappen tables moment nodes old happenings new × LoseNone happenings

-- One session.

-- what stands of it, its client, and the lines of the part that is played
pub record Spot : Type 0 where
  pub stand : Stand
  pub hearer : Option Hearer
  pub lines : List ℕ

abbrev pub spot : Stand → Option Hearer → List ℕ → Spot
spot stand hearer lines = record { stand = stand; hearer = hearer; lines = lines }

-- it alone does something, wherever the others stand that fit this set
abbrev pub SpokeAlone : List TableDef → ℤ → List Node → SessionId → ℕ → Spot → Spot → Type 0
SpokeAlone tables moment nodes s others old new =
    (machines : SessionId → Machine) (recoveries : SessionId → Standing) (hearers : ℕ → Option Hearer) → machines s ≡ old.stand.machine → recoveries s ≡ old.stand.standing → hearers s.number ≡ old.hearer
    → Fits others s machines recoveries
    → Spoke tables moment nodes (board (state old.stand.shared machines recoveries) hearers old.stand.journal old.lines)
    (board (state new.stand.shared (with_machine machines s new.stand.machine) (with_standing recoveries s new.stand.standing)) (with_at hearers s.number new.hearer) new.stand.journal new.lines)

-- behind a step that closes it a session has no client
abbrev pub left_by : Step → Hearer → Option Hearer
left_by (step.Did mark) hearer = Some hearer
left_by step.Waits hearer = Some hearer
left_by step.Idle hearer = Some hearer
left_by step.Closed hearer = None
left_by (step.Recovers moment number) hearer = Some hearer

-- so it is behind a turn that ends so
abbrev pub left_at : TurnEnd → Hearer → Option Hearer
left_at ends.Marked hearer = Some hearer
left_at ends.Waits hearer = Some hearer
left_at ends.Rests hearer = Some hearer
left_at ends.Closed hearer = None
