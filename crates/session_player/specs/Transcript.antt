-- The transcript of a script: part by part the line's echo, and behind it what each client is told.
use Rattle.std.specs.Prelude.{◌≡◌, ◌<◌, ◌≤◌, ◌+◌, ◌⊎◌, ℕ, ℤ, zero, suc, Bool, true, false, is_some, if◌then◌else◌, List, [], ◌∷◌, ◌++◌, Option, Some, None, codes}
use Rattle.std.specs.Fmt.{decimal}
use Rattle.pool_base.specs.Outside.{Appends}
use Rattle.pool_base.specs.declared.backend_id.BackendId.{BackendId}
use Rattle.pool_config.specs.declared.config.Config.{Config}
use Rattle.pool_config.specs.declared.config.Node.{Node}
use Rattle.schema.specs.declared.catalogue.TableDef.{TableDef}
use Rattle.pgproto.specs.Line.{Line, line_of}
use Rattle.backend_trait.specs.Rows.{with_at}
use Rattle.session_machine.specs.declared.machine.ReadPolicy.{ReadPolicy}
use Rattle.session_wire.specs.Shown.{View, IsFresh, with_end, with_piece}
use Rattle.online_recovery.specs.declared.layout.Layout.{Layout}
use Rattle.session_seat.specs.declared.book.Book.{Book}
use Rattle.session_seat.specs.declared.book.Journal.{Journal}
use Rattle.session_seat.specs.declared.seat.Turn.TheVariants as turns
use Rattle.session_seat.specs.Policy.{policy_in}
use Rattle.session_seat.specs.Told.{added}
use Rattle.session_seat.specs.Shared.{Shared}
use Rattle.session_seat.specs.Speech.{closed_line, message_line, no_place, word_line}
use Rattle.recovery_seat.specs.Schedule.{Loses, IsSchedule, first_state, lines}
use Rattle.recovery_seat.specs.Steps.{state}
use Rattle.session_player.specs.declared.deed.Deed.{Deed}
use Rattle.session_player.specs.declared.deed.Deed.TheVariants.{Connect, Lose, Cut, SetMoment, Of}
use Rattle.session_player.specs.declared.deed.Wish.{Wish}
use Rattle.session_player.specs.declared.deed.Wish.TheVariants.{Hold, Go, Until, Send}
use Rattle.session_player.specs.declared.slots.Slot.{Slot}
use Rattle.session_player.specs.Deeds.{IsDeedOf}
use Rattle.session_player.specs.Sent.{sent_of}
use Rattle.session_player.specs.Times.{IsMomentOf}
use Rattle.session_player.specs.Written.{echo_of}
use Rattle.session_player.specs.Journals.{IsPut, IsShort}
use Rattle.session_player.specs.Stillness.{AllStill, goes_round}
use Rattle.session_player.specs.Speaking.{AllHappen, Board, Event, Happening, Happens, Hearer, LoseNone, board, board_of, entries_of, hearer_in}

-- where a play stands between two lines: the moment that the clock shows, and all else
pub record Scene : Type 0 where
  pub moment : ℤ
  pub board : Board

abbrev pub scene_of : ReadPolicy → Layout → Shared → ℤ → List Slot → Book → Scene
scene_of policy layout shared moment slots book = record { moment = moment; board = board_of policy layout shared slots book }

-- What a line does, before the rounds behind it.

-- how many clients are connected, of the numbers up to that one
abbrev pub count_to : (ℕ → Option Hearer) → ℕ → ℕ
count_to hearers zero = 0
count_to hearers (suc n) = count_to hearers n + (if is_some (hearers (suc n)) then 1 else 0)

-- the first message of a session: version 3.0, user `pool`, database `pool`
abbrev pub start_bytes : List ℕ
start_bytes =
    0 ∷ 0 ∷ 0 ∷ 33 ∷ 0 ∷ 3 ∷ 0 ∷ 0 ∷ 117 ∷ 115 ∷ 101 ∷ 114 ∷ 0 ∷ 112 ∷ 111 ∷ 111 ∷ 108 ∷ 0 ∷ 100 ∷ 97 ∷ 116 ∷ 97 ∷ 98 ∷ 97 ∷ 115 ∷ 101 ∷ 0
    ∷ 112 ∷ 111 ∷ 111 ∷ 108 ∷ 0 ∷ 0 ∷ []

-- a client that has sent it
abbrev pub joined : View → Hearer
joined view = record { view = with_piece view start_bytes; over = false; turn = turns.Free }

-- a client connects, where the number is free and a place is left; else that is told
pub data Connects (children s : ℕ) (old : ℕ → Option Hearer) (had : List ℕ) (new : ℕ → Option Hearer) (has : List ℕ) : Type 0 where
  busy : (was : Hearer) → old s ≡ Some was → new ≡ old → has ≡ had ++ word_line s (codes "busy") → Connects children s old had new has
  full : old s ≡ None → children ≤ count_to old 64 → new ≡ old → has ≡ had ++ (message_line s no_place ++ closed_line s) → Connects children s old had new has
  joins : old s ≡ None → count_to old 64 < children → (view : View) → IsFresh s view → new ≡ with_at old s (Some (joined view)) → has ≡ had → Connects children s old had new has

-- a client has what it sends, and its session is held, or takes steps again
abbrev pub wished : Wish → Hearer → Hearer
wished Hold hearer = record hearer { turn = turns.Held }
wished Go hearer = record hearer { turn = turns.Free }
wished (Until mark) hearer = record hearer { turn = turns.Held }
wished (Send line) hearer = record hearer { view = with_piece hearer.view (sent_of (line_of line.now)) }

-- a session is asked, where its client is connected; else that is told
pub data Addresses (s : ℕ) (wish : Wish) (old : ℕ → Option Hearer) (had : List ℕ) (new : ℕ → Option Hearer) (has : List ℕ) : Type 0 where
  gone : old s ≡ None → new ≡ old → has ≡ had ++ word_line s (codes "gone") → Addresses s wish old had new has
  heard : (was : Hearer) → old s ≡ Some was → new ≡ with_at old s (Some (wished wish was)) → has ≡ had → Addresses s wish old had new has

-- a client that is there has it, and a slot that is free stays so
abbrev pub IsGranted : Wish → Slot → Bool → Slot → Type 0
IsGranted wish old true new = (was : Hearer) × (hearer_in old ≡ Some was) × (hearer_in new ≡ Some (wished wish was))
IsGranted wish old false new = (hearer_in old ≡ None) × (new ≡ old)

abbrev pub none_line : ℕ → List ℕ
none_line b = codes "pool no " ++ (decimal b ++ 10 ∷ [])

-- a backend is lost, where it is one of so many and was not lost; where it is none that is told
pub data LosesOne (tables : List TableDef) (moment : ℤ) (nodes : List Node) (count : ℕ) (b : BackendId) (old : Board) (happenings : List Happening) (new : Board) : Type 0 where
  unknown : count ≤ b.number → happenings ≡ [] → new ≡ record old { lines = old.lines ++ none_line b.number } → LosesOne tables moment nodes count b old happenings new
  again : b.number < count → happenings ≡ [] → new ≡ old → LosesOne tables moment nodes count b old happenings new
  lost : b.number < count → happenings ≡ Event (Loses b) ∷ [] → Happens tables moment nodes (Event (Loses b)) old new → LosesOne tables moment nodes count b old happenings new

-- the clock shows the moment of a text, if it is a text form of one
abbrev pub Sets : List ℕ → ℤ → ℤ → Type 0
Sets text old new = ((micros : ℤ) × IsMomentOf text micros × (new ≡ micros)) ⊎ (((micros : ℤ) → IsMomentOf text micros → ⊥) × (new ≡ old))

-- no event takes place, and the clock shows what it showed
pub record Keeps (old : Scene) (happenings : List Happening) (new : Scene) : Type 0 where
  pub moment : new.moment ≡ old.moment
  pub state : new.board.state ≡ old.board.state
  pub journal : new.board.journal ≡ old.board.journal
  pub none : happenings ≡ []

-- so many clients may be connected, before so many backends
abbrev pub Does : List TableDef → List Node → ℕ → ℕ → Deed → Scene → List Happening → Scene → Type 0
Does tables nodes children count (Connect s) old happenings new =
    Keeps old happenings new × Connects children s.number old.board.hearers old.board.lines new.board.hearers new.board.lines
Does tables nodes children count (Lose b) old happenings new = (new.moment ≡ old.moment) × LosesOne tables old.moment nodes count b old.board happenings new.board
Does tables nodes children count (Cut size) old happenings new = (happenings ≡ []) × (new ≡ old)
Does tables nodes children count (SetMoment text) old happenings new = (happenings ≡ []) × (new.board ≡ old.board) × Sets text.now old.moment new.moment
Does tables nodes children count (Of s wish) old happenings new =
    Keeps old happenings new × Addresses s.number wish old.board.hearers old.board.lines new.board.hearers new.board.lines

-- The part of a line: what it does, and the rounds behind it, up to where all stand still. No backend is lost in them.

pub record Part (tables : List TableDef) (nodes : List Node) (children count : ℕ) (line : Line) (old : Scene) (happenings : List Happening) (new : Scene) : Type 0 where
  pub deed : Deed
  pub is : IsDeedOf line deed
  pub before : List Happening
  pub mid : Scene
  pub does : Does tables nodes children count deed old before mid
  pub behind : List Happening
  pub rounds : AllHappen tables mid.moment nodes mid.board behind new.board
  pub kept : LoseNone behind
  pub moment : new.moment ≡ mid.moment
  pub all : happenings ≡ before ++ behind
  pub still : goes_round line ≡ true → AllStill new.board

-- behind it nothing is left to be told
abbrev pub cleared : Scene → Scene
cleared scene = record { moment = scene.moment; board = board scene.board.state scene.board.hearers scene.board.journal [] }

-- its echo is written, and behind it what is told
pub record IsTold (tables : List TableDef) (nodes : List Node) (children count : ℕ) (line : Line) (old : Scene) (a : Option (List ℕ)) (happenings : List Happening) (new : Scene) (b : Option (List ℕ)) : Type 0 where
  pub last : Scene
  pub part : Part tables nodes children count line old happenings last
  pub wrote : Appends a b (echo_of line ++ last.board.lines)
  pub next : new ≡ cleared last

-- so it is of each line
abbrev pub AreTold : List TableDef → List Node → ℕ → ℕ → List Line → Scene → Option (List ℕ) → List Happening → Scene → Option (List ℕ) → Type 0
AreTold tables nodes children count [] old a happenings new b = (happenings ≡ []) × (new ≡ old) × (b ≡ a)
AreTold tables nodes children count (line ∷ script) old a happenings new b =
    (here : List Happening) × (rest : List Happening) × (happenings ≡ here ++ rest) × (mid : Scene) × (taken : Option (List ℕ))
    × IsTold tables nodes children count line old a here mid taken × AreTold tables nodes children count script mid taken rest new b

-- The end: the input of each client ends, and none is held.

abbrev pub input_ended : Option Hearer → Option Hearer
input_ended None = None
input_ended (Some hearer) = Some (record hearer { view = with_end hearer.view; turn = turns.Free })

abbrev pub all_ended : Board → Board
all_ended b = record b { hearers = λ n. input_ended (b.hearers n) }

-- rounds are made, in which no backend is lost, and what is told is written
pub record IsEnd (tables : List TableDef) (nodes : List Node) (old : Scene) (a : Option (List ℕ)) (happenings : List Happening) (last : Board) (b : Option (List ℕ)) : Type 0 where
  pub rounds : AllHappen tables old.moment nodes (all_ended old.board) happenings last
  pub kept : LoseNone happenings
  pub still : AllStill last
  pub wrote : Appends a b last.lines

-- All of it.

-- before a play no client is connected
abbrev pub first_scene : Config → Layout → Shared → ℤ → Journal → Scene
first_scene config layout first moment journal =
    record { moment = moment; board = record { state = first_state (policy_in config) layout first; hearers = λ n. None; journal = journal; lines = [] } }

-- a script is told, part by part, and its end, in a schedule that leads from where this is shared to where that is; behind that stands its
-- journal, where it is kept
pub record IsTranscript (config : Config) (tables : List TableDef) (layout : Layout) (count : ℕ) (script : List Line) (moment : ℤ) (journal : Journal) (first last : Shared) (old new : Option (List ℕ)) : Type 0 where
  pub happenings : List Happening
  pub scene : Scene
  pub played : Option (List ℕ)
  pub told : AreTold tables config.nodes config.children count script (first_scene config layout first moment journal) old happenings scene played
  pub at_end : List Happening
  pub board : Board
  pub transcript : Option (List ℕ)
  pub ends : IsEnd tables config.nodes scene played at_end board transcript
  pub shared : board.state.shared ≡ last
  pub schedule : IsSchedule tables (first_state (policy_in config) layout first) (entries_of (happenings ++ at_end)) board.state
  pub put : IsPut config tables (added journal (lines tables (entries_of (happenings ++ at_end)))) transcript new
  pub short : IsShort (added journal (lines tables (entries_of (happenings ++ at_end))))
