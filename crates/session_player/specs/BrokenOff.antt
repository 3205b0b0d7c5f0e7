-- What was written of a script whose play was broken off: its first parts, and a front of what comes next.
use Rattle.std.specs.Prelude.{◌≡◌, ℕ, ℤ, List, [], ◌∷◌, ◌++◌, Option}
use Rattle.pool_base.specs.Outside.{AppendsFront}
use Rattle.pool_config.specs.declared.config.Config.{Config}
use Rattle.pool_config.specs.declared.config.Node.{Node}
use Rattle.schema.specs.declared.catalogue.TableDef.{TableDef}
use Rattle.journal.specs.Header.{IsHeader}
use Rattle.pgproto.specs.Line.{Line}
use Rattle.online_recovery.specs.declared.layout.Layout.{Layout}
use Rattle.session_seat.specs.declared.book.Journal.{Journal}
use Rattle.session_seat.specs.declared.book.Journal.TheVariants.{Off, On}
use Rattle.session_seat.specs.Policy.{policy_in}
use Rattle.session_seat.specs.Shared.{Shared}
use Rattle.recovery_seat.specs.Schedule.{IsSchedule, first_state}
use Rattle.session_player.specs.Written.{echo_of}
use Rattle.session_player.specs.Speaking.{AllHappen, Board, Happening, LoseNone, entries_of}
use Rattle.session_player.specs.Transcript.{AreTold, IsEnd, Part, Scene, all_ended, first_scene}

-- of the part of a line a front was written: of its echo; or of its echo and what is told in it
pub data IsPartFront (tables : List TableDef) (nodes : List Node) (children count : ℕ) (line : Line) (old : Scene) (a : Option (List ℕ)) (happenings : List Happening) (last : Scene) (b : Option (List ℕ)) : Type 0 where
  of_echo : happenings ≡ [] → last ≡ old → AppendsFront a b (echo_of line) → IsPartFront tables nodes children count line old a happenings last b
  of_part : Part tables nodes children count line old happenings last → AppendsFront a b (echo_of line ++ last.board.lines) → IsPartFront tables nodes children count line old a happenings last b

abbrev pub HasPartFront : List TableDef → List Node → ℕ → ℕ → Line → Scene → Option (List ℕ) → Option (List ℕ) → Type 0
HasPartFront tables nodes children count line old a b = (happenings : List Happening) × (last : Scene) × IsPartFront tables nodes children count line old a happenings last b

-- the parts of the first lines of a script were written, and a front of the next
pub record AreTellingOn (tables : List TableDef) (nodes : List Node) (children count : ℕ) (script : List Line) (old : Scene) (a b : Option (List ℕ)) : Type 0 where
  pub told : List Line
  pub line : Line
  pub left : List Line
  pub of_script : script ≡ told ++ line ∷ left
  pub before : List Happening
  pub scene : Scene
  pub written : Option (List ℕ)
  pub parts : AreTold tables nodes children count told old a before scene written
  pub here : List Happening
  pub last : Scene
  pub front : IsPartFront tables nodes children count line scene written here last b

-- of a journal that is kept, with its header, a front was written
abbrev pub IsJournalFront : Config → List TableDef → Journal → Option (List ℕ) → Option (List ℕ) → Type 0
IsJournalFront config tables Off old new = ⊥
IsJournalFront config tables (On kept) old new = (header : List ℕ) × IsHeader config tables header × AppendsFront old new (header ++ kept)

-- behind all parts a front was written of what is told at the end; or this, and a front of the journal
pub data IsEndFront (config : Config) (tables : List TableDef) (old : Scene) (a : Option (List ℕ)) (happenings : List Happening) (last : Board) (b : Option (List ℕ)) : Type 0 where
  before_end : happenings ≡ [] → last ≡ old.board → b ≡ a → IsEndFront config tables old a happenings last b
  of_end : AllHappen tables old.moment config.nodes (all_ended old.board) happenings last → LoseNone happenings → AppendsFront a b last.lines → IsEndFront config tables old a happenings last b
  of_journal : (c : Option (List ℕ)) → IsEnd tables config.nodes old a happenings last c → IsJournalFront config tables last.journal c b → IsEndFront config tables old a happenings last b

abbrev pub HasEndFront : Config → List TableDef → Scene → Option (List ℕ) → Option (List ℕ) → Type 0
HasEndFront config tables old a b = (happenings : List Happening) × (last : Board) × IsEndFront config tables old a happenings last b

-- where a play of a script was broken off: before its first line, in the part of a line, or at its end
pub data IsCutShort (config : Config) (tables : List TableDef) (count : ℕ) (script : List Line) (old : Scene) (a : Option (List ℕ)) (happenings : List Happening) (last : Board) (b : Option (List ℕ)) : Type 0 where
  before_all : happenings ≡ [] → last ≡ old.board → b ≡ a → IsCutShort config tables count script old a happenings last b
  in_part : (on : AreTellingOn tables config.nodes config.children count script old a b) → happenings ≡ on.before ++ on.here → last ≡ on.last.board → IsCutShort config tables count script old a happenings last b
  at_end : (before : List Happening) (scene : Scene) (written : Option (List ℕ)) → AreTold tables config.nodes config.children count script old a before scene written → (here : List Happening)
      → IsEndFront config tables scene written here last b → happenings ≡ before ++ here → IsCutShort config tables count script old a happenings last b

-- a front of a transcript was written, and what it tells is a schedule that begins where this is shared
pub record IsBrokenOff (config : Config) (tables : List TableDef) (layout : Layout) (count : ℕ) (script : List Line) (moment : ℤ) (journal : Journal) (first : Shared) (old new : Option (List ℕ)) : Type 0 where
  pub happenings : List Happening
  pub board : Board
  pub front : IsCutShort config tables count script (first_scene config layout first moment journal) old happenings board new
  pub schedule : IsSchedule tables (first_state (policy_in config) layout first) (entries_of happenings) board.state
