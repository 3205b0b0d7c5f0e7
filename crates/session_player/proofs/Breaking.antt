-- What was written of a play that was broken off.
use Rattle.std.proofs.Common.{Result, Ok, Err, ◌≡◌, ℕ, List, [], ◌∷◌, ◌++◌, refl, sym, ap, ◌∙◌, subst, inl, inr}
use Rattle.std.specs.Prelude.{ℤ, Option, OnErr, ◌⊎◌}
use Rattle.std.proofs.lemmas.List.{append-nil}
use Rattle.pool_base.specs.Outside.{Appends, AppendsFront}
use Rattle.pool_base.proofs.Sinking.{front_of_more, front_on}
use Rattle.pool_config.specs.declared.config.Config.{Config}
use Rattle.pool_config.specs.declared.config.Node.{Node}
use Rattle.schema.specs.declared.catalogue.TableDef.{TableDef}
use Rattle.journal.specs.Header.{IsHeader}
use Rattle.pgproto.specs.Line.{Line}
use Rattle.online_recovery.specs.declared.layout.Layout.{Layout}
use Rattle.session_seat.specs.declared.book.Journal.{Journal}
use Rattle.session_seat.specs.declared.book.Journal.TheVariants.{On}
use Rattle.session_seat.specs.Shared.{Shared}
use Rattle.recovery_seat.specs.Schedule.{Entry}
use Rattle.session_player.specs.Written.{echo_of}
use Rattle.session_player.specs.Speaking.{AllHappen, Board, Happening, LoseNone, entries_of}
use Rattle.session_player.specs.Stillness.{AllStill}
use Rattle.session_player.specs.Transcript.{AreTold, Part, Scene, all_ended, first_scene}
use Rattle.session_player.specs.BrokenOff.{AreTellingOn, HasEndFront, HasPartFront, IsBrokenOff, IsCutShort, IsEndFront, IsJournalFront, IsPartFront, at_end, before_all, before_end, in_part, of_echo, of_end, of_journal, of_part}
use Rattle.session_player.proofs.Parts.{Tracks, all_tracks, entries_on, part_tracks, told_tracks, tracks_at, tracks_none_of, tracks_on}

pub on_err_always : {T E P : Type 0} (r : Result T E) → P → OnErr r P
on_err_always (Ok x) p = tt
on_err_always (Err e) p = p

-- all of a piece is a front of it
whole_front : (a b : Option (List ℕ)) (x : List ℕ) → Appends a b x → AppendsFront a b x
whole_front a b x p = record { front = x; rest = []; parts = sym (append-nil x); has = p }

-- In the part of a line.

-- its echo was written in part, or its steps were broken off behind it
pub in_echo : (tables : List TableDef) (nodes : List Node) (children count : ℕ) (line : Line) (old : Scene) (a b : Option (List ℕ)) → AppendsFront a b (echo_of line) → HasPartFront tables nodes children count line old a b
in_echo tables nodes children count line old a b front = ([], old, of_echo refl refl front)

pub behind_echo : (tables : List TableDef) (nodes : List Node) (children count : ℕ) (line : Line) (old : Scene) (a b : Option (List ℕ)) → Appends a b (echo_of line) → HasPartFront tables nodes children count line old a b
behind_echo tables nodes children count line old a b echo = in_echo tables nodes children count line old a b (whole_front a b (echo_of line) echo)

-- what is told in it was written in part
pub in_told : (tables : List TableDef) (nodes : List Node) (children count : ℕ) (line : Line) (old last : Scene) (a b c : Option (List ℕ)) → (happenings : List Happening) × Part tables nodes children count line old happenings last
    → Appends a b (echo_of line) → AppendsFront b c last.board.lines → HasPartFront tables nodes children count line old a c
in_told tables nodes children count line old last a b c (happenings, part) echo front = (happenings, last, of_part part (front_on a b c (echo_of line) last.board.lines echo front))

pub telling_on : (tables : List TableDef) (nodes : List Node) (children count these : ℕ) (script told left : List Line) (line : Line) (old mid : Scene) (a b c : Option (List ℕ)) → these ≡ count → script ≡ told ++ line ∷ left
    → (happenings : List Happening) × AreTold tables nodes children count told old a happenings mid b → HasPartFront tables nodes children these line mid b c → AreTellingOn tables nodes children count script old a c
telling_on tables nodes children count these script told left line old mid a b c same is (before, parts) (here, last, front) = record {
  told = told;
  line = line;
  left = left;
  of_script = is;
  before = before;
  scene = mid;
  written = b;
  parts = parts;
  here = here;
  last = last;
  front = subst (λ (n : ℕ). IsPartFront tables nodes children n line mid b here last c) same front;
}

-- Of the journal.

pub journal_front : (config : Config) (tables : List TableDef) (journal : Journal) (kept header : List ℕ) (a b : Option (List ℕ)) → journal ≡ On kept → IsHeader config tables header → AppendsFront a b header
    → IsJournalFront config tables journal a b
journal_front config tables journal kept header a b is printed front =
    subst (λ (j : Journal). IsJournalFront config tables j a b) (sym is) (header, printed, front_of_more a b header kept front)

pub journal_behind : (config : Config) (tables : List TableDef) (journal : Journal) (kept header : List ℕ) (a b c : Option (List ℕ)) → journal ≡ On kept → IsHeader config tables header → Appends a b header → AppendsFront b c kept
    → IsJournalFront config tables journal a c
journal_behind config tables journal kept header a b c is printed first front =
    subst (λ (j : Journal). IsJournalFront config tables j a c) (sym is) (header, printed, front_on a b c header kept first front)

-- At the end.

pub end_none : (config : Config) (tables : List TableDef) (old : Scene) (a : Option (List ℕ)) → HasEndFront config tables old a a
end_none config tables old a = ([], old.board, before_end refl refl refl)

-- the rounds of the end
abbrev pub HasEnded : Config → List TableDef → Scene → Board → Type 0
HasEnded config tables old last = (happenings : List Happening) × AllHappen tables old.moment config.nodes (all_ended old.board) happenings last × LoseNone happenings

pub end_told : (config : Config) (tables : List TableDef) (old : Scene) (last : Board) (a b : Option (List ℕ)) → HasEnded config tables old last → AppendsFront a b last.lines → HasEndFront config tables old a b
end_told config tables old last a b (happenings, rounds, kept) front = (happenings, last, of_end rounds kept front)

pub end_put : (config : Config) (tables : List TableDef) (old : Scene) (last : Board) (a b c : Option (List ℕ)) → HasEnded config tables old last → AllStill last → Appends a b last.lines → IsJournalFront config tables last.journal b c ⊎ (c ≡ b)
    → HasEndFront config tables old a c
end_put config tables old last a b c (happenings, rounds, kept) still wrote (inl front) = (happenings, last, of_journal b (record { rounds = rounds; kept = kept; still = still; wrote = wrote }) front)
end_put config tables old last a b c (happenings, rounds, kept) still wrote (inr same) =
    (happenings, last, of_end rounds kept (subst (λ (z : Option (List ℕ)). AppendsFront a z last.lines) (sym same) (whole_front a b last.lines wrote)))

-- All of a play.

part_front_tracks : (tables : List TableDef) (nodes : List Node) (children count : ℕ) (line : Line) (old last : Scene) (a b : Option (List ℕ)) (happenings : List Happening)
    → IsPartFront tables nodes children count line old a happenings last b → Tracks tables old.board (entries_of happenings) last.board
part_front_tracks tables nodes children count line old last a b happenings (of_echo none same front) =
    tracks_none_of tables old.board last.board happenings none (ap (λ (z : Scene). z.board.state) same) (ap (λ (z : Scene). z.board.journal) same)
part_front_tracks tables nodes children count line old last a b happenings (of_part part front) = part_tracks tables nodes children count line old last happenings part

end_front_tracks : (config : Config) (tables : List TableDef) (old : Scene) (last : Board) (a b : Option (List ℕ)) (happenings : List Happening) → IsEndFront config tables old a happenings last b
    → Tracks tables old.board (entries_of happenings) last
end_front_tracks config tables old last a b happenings (before_end none same kept) =
    tracks_none_of tables old.board last happenings none (ap (λ (z : Board). z.state) same) (ap (λ (z : Board). z.journal) same)
end_front_tracks config tables old last a b happenings (of_end rounds kept front) =
    tracks_at tables old.board (all_ended old.board) last (entries_of happenings) refl refl (all_tracks tables old.moment config.nodes (all_ended old.board) last happenings rounds)
end_front_tracks config tables old last a b happenings (of_journal c ends front) =
    tracks_at tables old.board (all_ended old.board) last (entries_of happenings) refl refl (all_tracks tables old.moment config.nodes (all_ended old.board) last happenings ends.rounds)

cut_tracks : (config : Config) (tables : List TableDef) (count : ℕ) (script : List Line) (old : Scene) (last : Board) (a b : Option (List ℕ)) (happenings : List Happening) → IsCutShort config tables count script old a happenings last b
    → Tracks tables old.board (entries_of happenings) last
cut_tracks config tables count script old last a b happenings (before_all none same kept) =
    tracks_none_of tables old.board last happenings none (ap (λ (z : Board). z.state) same) (ap (λ (z : Board). z.journal) same)
cut_tracks config tables count script old last a b happenings (in_part on all is) =
    subst (λ (z : Board). Tracks tables old.board (entries_of happenings) z) (sym is)
    (subst (λ (z : List Entry). Tracks tables old.board z on.last.board) (sym (ap entries_of all ∙ entries_on on.before on.here))
    (tracks_on tables old.board on.scene.board on.last.board (entries_of on.before) (entries_of on.here)
    (told_tracks tables config.nodes config.children count on.told old on.scene a on.written on.before on.parts)
    (part_front_tracks tables config.nodes config.children count on.line on.scene on.last on.written b on.here on.front)))
cut_tracks config tables count script old last a b happenings (at_end before scene written told here ends all) =
    subst (λ (z : List Entry). Tracks tables old.board z last) (sym (ap entries_of all ∙ entries_on before here))
    (tracks_on tables old.board scene.board last (entries_of before) (entries_of here) (told_tracks tables config.nodes config.children count script old scene a written before told)
    (end_front_tracks config tables scene last written b here ends))

broken_by : (config : Config) (tables : List TableDef) (layout : Layout) (count : ℕ) (script : List Line) (moment : ℤ) (journal : Journal) (first : Shared) (start : Scene) (last : Board) (a b : Option (List ℕ)) (happenings : List Happening)
    → start ≡ first_scene config layout first moment journal → IsCutShort config tables count script start a happenings last b → IsBrokenOff config tables layout count script moment journal first a b
broken_by config tables layout count script moment journal first start last a b happenings begins cut =
    let front = subst (λ (z : Scene). IsCutShort config tables count script z a happenings last b) begins cut in
    record {
      happenings = happenings;
      board = last;
      front = front;
      schedule = (cut_tracks config tables count script (first_scene config layout first moment journal) last a b happenings front).schedule;
    }

pub broken_at_once : (config : Config) (tables : List TableDef) (layout : Layout) (count : ℕ) (script : List Line) (moment : ℤ) (journal : Journal) (first : Shared) (a : Option (List ℕ))
    → IsBrokenOff config tables layout count script moment journal first a a
broken_at_once config tables layout count script moment journal first a =
    let start = first_scene config layout first moment journal in broken_by config tables layout count script moment journal first start start.board a a [] refl (before_all refl refl refl)

pub broken_in_part : (config : Config) (tables : List TableDef) (layout : Layout) (count : ℕ) (script : List Line) (moment : ℤ) (journal : Journal) (first : Shared) (start : Scene) (a b : Option (List ℕ))
    → start ≡ first_scene config layout first moment journal → AreTellingOn tables config.nodes config.children count script start a b → IsBrokenOff config tables layout count script moment journal first a b
broken_in_part config tables layout count script moment journal first start a b begins on =
    broken_by config tables layout count script moment journal first start on.last.board a b (on.before ++ on.here) begins (in_part on refl refl)

pub broken_at_end : (config : Config) (tables : List TableDef) (layout : Layout) (count : ℕ) (script : List Line) (moment : ℤ) (journal : Journal) (first : Shared) (start scene : Scene) (a b c : Option (List ℕ))
    → start ≡ first_scene config layout first moment journal → (happenings : List Happening) × AreTold tables config.nodes config.children count script start a happenings scene b → HasEndFront config tables scene b c
    → IsBrokenOff config tables layout count script moment journal first a c
broken_at_end config tables layout count script moment journal first start scene a b c begins (before, told) (here, last, front) =
    broken_by config tables layout count script moment journal first start last a c (before ++ here) begins (at_end before scene b told here front refl)
