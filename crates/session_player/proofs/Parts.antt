-- The parts of a script, one behind another, and the schedule that they make.
use Rattle.std.proofs.Common.{Result, Ok, Err, true, ◌≡◌, ℕ, suc, zero, ◌-◌, List, [], ◌∷◌, ◌++◌, get_or, refl, sym, ap, ◌∙◌, subst, append_assoc}
use Rattle.std.specs.Prelude.{ℤ, Option, None, OnOk}
use Rattle.std.proofs.lemmas.List.{append-nil}
use Rattle.pool_base.specs.Outside.{Appends}
use Rattle.pool_base.proofs.Sinking.{appends_on}
use Rattle.pool_base.specs.declared.backend_id.BackendId.{BackendId}
use Rattle.pool_config.specs.declared.config.Config.{Config}
use Rattle.pool_config.specs.declared.config.Node.{Node}
use Rattle.schema.specs.declared.catalogue.TableDef.{TableDef}
use Rattle.pgproto.specs.Line.{Line}
use Rattle.session_machine.specs.declared.machine.ReadPolicy.{ReadPolicy}
use Rattle.online_recovery.specs.declared.layout.Layout.{Layout}
use Rattle.session_seat.specs.declared.book.Journal.{Journal}
use Rattle.session_seat.specs.Policy.{policy_in}
use Rattle.session_seat.specs.Told.{added}
use Rattle.session_seat.specs.Shared.{Shared}
use Rattle.recovery_seat.specs.Schedule.{Entry, Loses, State, IsSchedule, first_state, lines, told}
use Rattle.session_player.specs.declared.deed.Deed.{Deed}
use Rattle.session_player.specs.declared.deed.Deed.TheVariants.{Connect, Lose, Cut, SetMoment, Of}
use Rattle.session_player.specs.declared.slots.Slot.{Slot}
use Rattle.session_player.specs.declared.slots.Slot.TheVariants.{Free}
use Rattle.session_seat.specs.declared.book.Book.{Book}
use Rattle.session_player.specs.Deeds.{IsDeedOf}
use Rattle.session_player.specs.Journals.{IsPut, IsShort, machine_in_slot, machines_of, standing_in_slot, standings_of, state_of}
use Rattle.session_player.specs.Written.{ArePlayed, AreParts, echo_of}
use Rattle.session_player.specs.Stillness.{AllStill, goes_round}
use Rattle.session_player.specs.Speaking.{AllHappen, Board, Event, Happening, LoseNone, Rest, Close, Spoke, board_of, entries_of, hearer_in, hearers_of}
use Rattle.session_player.specs.Transcript.{AreTold, Does, IsEnd, IsTold, IsTranscript, LosesOne, Part, Scene, again, all_ended, cleared, first_scene, input_ended, lost, scene_of, unknown}
use Rattle.session_player.proofs.Going.{added_none, added_on, lines_on, schedule_on}

-- What takes place is a schedule, and the journal tells of it.

pub record Tracks (tables : List TableDef) (old : Board) (entries : List Entry) (new : Board) : Type 0 where
  pub schedule : IsSchedule tables old.state entries new.state
  pub tells : new.journal ≡ added old.journal (lines tables entries)

tracks_none : (tables : List TableDef) (old new : Board) → new.state ≡ old.state → new.journal ≡ old.journal → Tracks tables old [] new
tracks_none tables old new same kept = record { schedule = same; tells = kept ∙ added_none old.journal }

pub tracks_on : (tables : List TableDef) (a b c : Board) (xs ys : List Entry) → Tracks tables a xs b → Tracks tables b ys c → Tracks tables a (xs ++ ys) c
tracks_on tables a b c xs ys one two = record {
  schedule = schedule_on tables a.state b.state c.state xs ys one.schedule two.schedule;
  tells = two.tells ∙ (ap (λ (z : Journal). added z (lines tables ys)) one.tells ∙ (added_on a.journal (lines tables xs) (lines tables ys) ∙ ap (added a.journal) (sym (lines_on tables xs ys))));
}

pub tracks_at : (tables : List TableDef) (a b c : Board) (entries : List Entry) → b.state ≡ a.state → b.journal ≡ a.journal → Tracks tables b entries c → Tracks tables a entries c
tracks_at tables a b c entries same kept is = record {
  schedule = subst (λ (z : State). IsSchedule tables z entries c.state) same is.schedule;
  tells = is.tells ∙ ap (λ (z : Journal). added z (lines tables entries)) kept;
}

pub all_tracks : (tables : List TableDef) (moment : ℤ) (nodes : List Node) (old new : Board) (happenings : List Happening) → AllHappen tables moment nodes old happenings new → Tracks tables old (entries_of happenings) new
all_tracks tables moment nodes old new [] is = tracks_none tables old new (ap (λ (z : Board). z.state) is) (ap (λ (z : Board). z.journal) is)
all_tracks tables moment nodes old new (Event entry ∷ more) (mid, here, is) =
    tracks_on tables old mid new (entry ∷ []) (entries_of more) (record { schedule = (mid.state, here.0.comes, refl); tells = here.0.tells ∙ ap (added old.journal) (sym (append-nil (told tables entry))) })
    (all_tracks tables moment nodes mid new more is)
all_tracks tables moment nodes old new (Rest s ∷ more) (mid, here, is) = tracks_at tables old mid new (entries_of more) here.0.state here.0.journal (all_tracks tables moment nodes mid new more is)
all_tracks tables moment nodes old new (Close s ∷ more) (mid, here, is) = tracks_at tables old mid new (entries_of more) here.0.state here.0.journal (all_tracks tables moment nodes mid new more is)

pub entries_on : (xs ys : List Happening) → entries_of (xs ++ ys) ≡ entries_of xs ++ entries_of ys
entries_on [] ys = refl
entries_on (Event entry ∷ xs) ys = ap (λ (z : List Entry). entry ∷ z) (entries_on xs ys)
entries_on (Rest s ∷ xs) ys = entries_on xs ys
entries_on (Close s ∷ xs) ys = entries_on xs ys

pub tracks_none_of : (tables : List TableDef) (old new : Board) (happenings : List Happening) → happenings ≡ [] → new.state ≡ old.state → new.journal ≡ old.journal → Tracks tables old (entries_of happenings) new
tracks_none_of tables old new happenings none same kept = subst (λ (z : List Happening). Tracks tables old (entries_of z) new) (sym none) (tracks_none tables old new same kept)

loss_tracks : (tables : List TableDef) (moment : ℤ) (nodes : List Node) (count : ℕ) (b : BackendId) (old new : Board) (happenings : List Happening) → LosesOne tables moment nodes count b old happenings new
    → Tracks tables old (entries_of happenings) new
loss_tracks tables moment nodes count b old new happenings (unknown past none is) = tracks_none_of tables old new happenings none (ap (λ (z : Board). z.state) is) (ap (λ (z : Board). z.journal) is)
loss_tracks tables moment nodes count b old new happenings (again below none is) = tracks_none_of tables old new happenings none (ap (λ (z : Board). z.state) is) (ap (λ (z : Board). z.journal) is)
loss_tracks tables moment nodes count b old new happenings (lost below one is) =
    subst (λ (z : List Happening). Tracks tables old (entries_of z) new) (sym one) (all_tracks tables moment nodes old new (Event (Loses b) ∷ []) (new, is, refl))

does_tracks : (tables : List TableDef) (nodes : List Node) (children count : ℕ) (deed : Deed) (old new : Scene) (happenings : List Happening) → Does tables nodes children count deed old happenings new
    → Tracks tables old.board (entries_of happenings) new.board
does_tracks tables nodes children count (Connect s) old new happenings (keeps, how) = tracks_none_of tables old.board new.board happenings keeps.none keeps.state keeps.journal
does_tracks tables nodes children count (Lose b) old new happenings (same, how) = loss_tracks tables old.moment nodes count b old.board new.board happenings how
does_tracks tables nodes children count (Cut size) old new happenings (none, same) =
    tracks_none_of tables old.board new.board happenings none (ap (λ (z : Scene). z.board.state) same) (ap (λ (z : Scene). z.board.journal) same)
does_tracks tables nodes children count (SetMoment text) old new happenings (none, same, how) =
    tracks_none_of tables old.board new.board happenings none (ap (λ (z : Board). z.state) same) (ap (λ (z : Board). z.journal) same)
does_tracks tables nodes children count (Of s wish) old new happenings (keeps, how) = tracks_none_of tables old.board new.board happenings keeps.none keeps.state keeps.journal

pub part_tracks : (tables : List TableDef) (nodes : List Node) (children count : ℕ) (line : Line) (old new : Scene) (happenings : List Happening) → Part tables nodes children count line old happenings new
    → Tracks tables old.board (entries_of happenings) new.board
part_tracks tables nodes children count line old new happenings part =
    subst (λ (z : List Entry). Tracks tables old.board z new.board) (sym (ap entries_of part.all ∙ entries_on part.before part.behind))
    (tracks_on tables old.board part.mid.board new.board (entries_of part.before) (entries_of part.behind) (does_tracks tables nodes children count part.deed old part.mid part.before part.does)
    (all_tracks tables part.mid.moment nodes part.mid.board new.board part.behind part.rounds))

pub told_tracks : (tables : List TableDef) (nodes : List Node) (children count : ℕ) (script : List Line) (old new : Scene) (a b : Option (List ℕ)) (happenings : List Happening)
    → AreTold tables nodes children count script old a happenings new b → Tracks tables old.board (entries_of happenings) new.board
told_tracks tables nodes children count [] old new a b happenings (none, same, kept) =
    tracks_none_of tables old.board new.board happenings none (ap (λ (z : Scene). z.board.state) same) (ap (λ (z : Scene). z.board.journal) same)
told_tracks tables nodes children count (line ∷ script) old new a b happenings (here, rest, all, mid, taken, is, more) =
    subst (λ (z : List Entry). Tracks tables old.board z new.board) (sym (ap entries_of all ∙ entries_on here rest))
    (tracks_on tables old.board mid.board new.board (entries_of here) (entries_of rest)
    (let first = part_tracks tables nodes children count line old is.last here is.part in
    record {
      schedule = subst (λ (z : Scene). IsSchedule tables old.board.state (entries_of here) z.board.state) (sym is.next) first.schedule;
      tells = ap (λ (z : Scene). z.board.journal) is.next ∙ first.tells;
    })
    (told_tracks tables nodes children count script mid new taken b rest more))

-- One part behind another.

pub told_none : (tables : List TableDef) (nodes : List Node) (children count : ℕ) (scene : Scene) (a : Option (List ℕ)) → AreTold tables nodes children count [] scene a [] scene a
told_none tables nodes children count scene a = (refl, refl, refl)

pub told_on : (tables : List TableDef) (nodes : List Node) (children count : ℕ) (script : List Line) (line : Line) (old mid new : Scene) (a b c : Option (List ℕ)) (xs ys : List Happening)
    → AreTold tables nodes children count script old a xs mid b → IsTold tables nodes children count line mid b ys new c → AreTold tables nodes children count (script ++ line ∷ []) old a (xs ++ ys) new c
told_on tables nodes children count [] line old mid new a b c xs ys (none, same, kept) is = (
  ys,
  [],
  ap (λ (z : List Happening). z ++ ys) none ∙ sym (append-nil ys),
  new,
  c,
  subst (λ (z : Option (List ℕ)). IsTold tables nodes children count line old z ys new c) kept (subst (λ (z : Scene). IsTold tables nodes children count line z b ys new c) same is),
  (refl, refl, refl),
)
told_on tables nodes children count (first ∷ script) line old mid new a b c xs ys (here, rest, all, next, taken, one, more) is = (
  here,
  rest ++ ys,
  ap (λ (z : List Happening). z ++ ys) all ∙ append_assoc here rest ys,
  next,
  taken,
  one,
  told_on tables nodes children count script line next mid new taken b c rest ys more is,
)

-- All of a play.

pub transcript_of : (config : Config) (tables : List TableDef) (layout : Layout) (count : ℕ) (script : List Line) (moment : ℤ) (journal : Journal) (first : Shared) (scene : Scene) (last : Board) (a b c d : Option (List ℕ)) (xs ys : List Happening)
    → AreTold tables config.nodes config.children count script (first_scene config layout first moment journal) a xs scene b → IsEnd tables config.nodes scene b ys last c → IsPut config tables last.journal c d
    → IsShort last.journal → IsTranscript config tables layout count script moment journal first last.state.shared a d
transcript_of config tables layout count script moment journal first scene last a b c d xs ys told ends put short =
    let start = first_scene config layout first moment journal in
    let tracks = tracks_on tables start.board scene.board last (entries_of xs) (entries_of ys) (told_tracks tables config.nodes config.children count script start scene a b xs told)
    (tracks_at tables scene.board (all_ended scene.board) last (entries_of ys) refl refl (all_tracks tables scene.moment config.nodes (all_ended scene.board) last ys ends.rounds)) in
    record {
      happenings = xs;
      scene = scene;
      played = b;
      told = told;
      at_end = ys;
      board = last;
      transcript = c;
      ends = ends;
      shared = refl;
      schedule = subst (λ (z : List Entry). IsSchedule tables (first_state (policy_in config) layout first) z last.state) (sym (entries_on xs ys)) tracks.schedule;
      put = subst (λ (z : List Entry). IsPut config tables (added journal (lines tables z)) c d) (sym (entries_on xs ys)) (subst (λ (z : Journal). IsPut config tables z c d) tracks.tells put);
      short = subst (λ (z : List Entry). IsShort (added journal (lines tables z))) (sym (entries_on xs ys)) (subst IsShort tracks.tells short);
    }

-- each line has its part, and behind the parts stands what is told at the end
pub told_parts : (tables : List TableDef) (nodes : List Node) (children count : ℕ) (script : List Line) (old new : Scene) (a b : Option (List ℕ)) (happenings : List Happening) → AreTold tables nodes children count script old a happenings new b
    → AreParts script a b
told_parts tables nodes children count [] old new a b happenings (none, same, kept) = kept
told_parts tables nodes children count (line ∷ script) old new a b happenings (here, rest, all, mid, taken, is, more) =
    (taken, (is.last.board.lines, is.wrote), told_parts tables nodes children count script mid new taken b rest more)

pub is_spoken : (config : Config) (tables : List TableDef) (layout : Layout) (count : ℕ) (script : List Line) (moment : ℤ) (journal : Journal) (first last : Shared) (a b : Option (List ℕ))
    → (it : IsTranscript config tables layout count script moment journal first last a b) → ArePlayed script a it.transcript
is_spoken config tables layout count script moment journal first last a b it =
    (it.played, told_parts tables config.nodes config.children count script (first_scene config layout first moment journal) it.scene a it.played it.happenings it.told, (it.board.lines, it.ends.wrote))

-- What a line does, and the rounds behind it.

pub kept_state : (policy : ReadPolicy) (layout : Layout) (shared : Shared) (xs ys : List Slot) → machines_of policy ys ≡ machines_of policy xs → standings_of layout ys ≡ standings_of layout xs
    → state_of policy layout shared ys ≡ state_of policy layout shared xs
kept_state policy layout shared xs ys same rest = λ i. record { shared = shared; machines = same i; recoveries = rest i }

pub on_ok_both : {T E : Type 0} (P Q : Type 0) (r : Result T E) → OnOk r P → OnOk r Q → OnOk r (P × Q)
on_ok_both P Q (Ok x) p q = (p, q)
on_ok_both P Q (Err e) p q = tt

-- what a line did
abbrev pub Did : List TableDef → List Node → ℕ → ℕ → Line → Scene → Scene → Type 0
Did tables nodes children count line old mid = (deed : Deed) × IsDeedOf line deed × (happenings : List Happening) × Does tables nodes children count deed old happenings mid

pub part_alone : (tables : List TableDef) (nodes : List Node) (children count : ℕ) (line : Line) (old mid : Scene) → Did tables nodes children count line old mid → (goes_round line ≡ true → AllStill mid.board)
    → (happenings : List Happening) × Part tables nodes children count line old happenings mid
part_alone tables nodes children count line old mid (deed, is, before, does) still =
    (before, record { deed = deed; is = is; before = before; mid = mid; does = does; behind = []; rounds = refl; kept = tt; moment = refl; all = sym (append-nil before); still = still })

part_then : (tables : List TableDef) (nodes : List Node) (children count : ℕ) (line : Line) (old mid : Scene) (last : Board) → Did tables nodes children count line old mid → Spoke tables mid.moment nodes mid.board last
    → (goes_round line ≡ true → AllStill last)
    → (happenings : List Happening) × Part tables nodes children count line old happenings (record { moment = mid.moment; board = last })
part_then tables nodes children count line old mid last (deed, is, before, does) (behind, rounds, kept) still =
    (before ++ behind, record { deed = deed; is = is; before = before; mid = mid; does = does; behind = behind; rounds = rounds; kept = kept; moment = refl; all = refl; still = still })

-- what is played behind something reads the same tables and configuration
pub part_rounds : (tables used : List TableDef) (config read : Config) (layout : Layout) (count : ℕ) (line : Line) (old : Scene) (g h : Shared) (moment shown : ℤ) (xs ys : List Slot) (before last : Book) → used ≡ tables → read ≡ config
    → shown ≡ moment → Did tables config.nodes config.children count line old (scene_of (policy_in config) layout g moment xs before)
    → Spoke used shown read.nodes (board_of (policy_in read) layout g xs before) (board_of (policy_in read) layout h ys last)
    → (goes_round line ≡ true → AllStill (board_of (policy_in config) layout h ys last)) → (happenings : List Happening) × Part tables config.nodes config.children count line old happenings (scene_of (policy_in config) layout h moment ys last)
part_rounds tables used config read layout count line old g h moment shown xs ys before last same own clock did spoke still =
    let policy = policy_in config in
    part_then tables config.nodes config.children count line old (scene_of policy layout g moment xs before) (board_of policy layout h ys last) did
    (subst (λ (z : ℤ). Spoke tables z config.nodes (board_of policy layout g xs before) (board_of policy layout h ys last)) clock
    (subst (λ (z : Config). Spoke tables shown z.nodes (board_of (policy_in z) layout g xs before) (board_of (policy_in z) layout h ys last)) own
    (subst (λ (z : List TableDef). Spoke z shown read.nodes (board_of (policy_in read) layout g xs before) (board_of (policy_in read) layout h ys last)) same spoke))) still

-- and what was told is written behind its echo
pub told_part : (tables : List TableDef) (nodes : List Node) (children count : ℕ) (line : Line) (old last new : Scene) (a b c : Option (List ℕ)) → (happenings : List Happening) × Part tables nodes children count line old happenings last
    → Appends a b (echo_of line) → Appends b c last.board.lines → new ≡ cleared last → (happenings : List Happening) × IsTold tables nodes children count line old a happenings new c
told_part tables nodes children count line old last new a b c (happenings, part) echo more next =
    (happenings, record { last = last; part = part; wrote = appends_on a b c (echo_of line) last.board.lines echo more; next = next })

pub told_more : (tables : List TableDef) (nodes : List Node) (children count these : ℕ) (script : List Line) (line : Line) (old mid new : Scene) (a b c : Option (List ℕ)) → these ≡ count
    → (happenings : List Happening) × AreTold tables nodes children count script old a happenings mid b → (happenings : List Happening) × IsTold tables nodes children these line mid b happenings new c
    → (happenings : List Happening) × AreTold tables nodes children count (script ++ line ∷ []) old a happenings new c
told_more tables nodes children count these script line old mid new a b c same (xs, are) (ys, is) =
    (xs ++ ys, told_on tables nodes children count script line old mid new a b c xs ys are (subst (λ (n : ℕ). IsTold tables nodes children n line mid b ys new c) same is))

-- Before a play every slot is free.

no_hearer : (free : List Slot) → ((n : ℕ) → get_or free n Free ≡ Free) → (n : ℕ) → hearers_of free n ≡ None
no_hearer free none zero = refl
no_hearer free none (suc n) = ap hearer_in (none n)

pub scene_first : (config : Config) (layout : Layout) (shared : Shared) (moment : ℤ) (journal : Journal) (free : List Slot) (book : Book) → ((n : ℕ) → get_or free n Free ≡ Free) → book.journal ≡ journal → book.lines ≡ []
    → scene_of (policy_in config) layout shared moment free book ≡ first_scene config layout shared moment journal
scene_first config layout shared moment journal free book none begins empty = λ x. record {
  moment = moment;
  board = record {
    state = record { shared = shared; machines = λ s. ap (machine_in_slot (policy_in config) s) (none (s.number - 1)) x; recoveries = λ s. ap (standing_in_slot layout s) (none (s.number - 1)) x };
    hearers = λ n. no_hearer free none n x;
    journal = begins x;
    lines = empty x;
  };
}

-- The end, where the input of each client has ended.
pub end_rounds : (tables used : List TableDef) (config read : Config) (layout : Layout) (g h : Shared) (moment shown : ℤ) (xs ys zs : List Slot) (before last : Book) → used ≡ tables → read ≡ config → shown ≡ moment
    → machines_of (policy_in config) ys ≡ machines_of (policy_in config) xs → standings_of layout ys ≡ standings_of layout xs → ((n : ℕ) → hearers_of ys n ≡ input_ended (hearers_of xs n))
    → Spoke used shown read.nodes (board_of (policy_in read) layout g ys before) (board_of (policy_in read) layout h zs last)
    → (happenings : List Happening) × AllHappen tables moment config.nodes (all_ended (board_of (policy_in config) layout g xs before)) happenings (board_of (policy_in config) layout h zs last) × LoseNone happenings
end_rounds tables used config read layout g h moment shown xs ys zs before last same own clock machines standings hearers spoke =
    let policy = policy_in config in
    let freed : board_of policy layout g ys before ≡ all_ended (board_of policy layout g xs before) = (λ i. record {
      state = record { shared = g; machines = machines i; recoveries = standings i };
      hearers = λ n. hearers n i;
      journal = before.journal;
      lines = before.lines;
    }) in
    subst (λ (z : Board). Spoke tables moment config.nodes z (board_of policy layout h zs last)) freed
    (subst (λ (z : ℤ). Spoke tables z config.nodes (board_of policy layout g ys before) (board_of policy layout h zs last)) clock
    (subst (λ (z : Config). Spoke tables shown z.nodes (board_of (policy_in z) layout g ys before) (board_of (policy_in z) layout h zs last)) own
    (subst (λ (z : List TableDef). Spoke z shown read.nodes (board_of (policy_in read) layout g ys before) (board_of (policy_in read) layout h zs last)) same spoke)))

pub played_all : (config : Config) (tables : List TableDef) (layout : Layout) (count : ℕ) (script : List Line) (moment : ℤ) (journal : Journal) (first last : Shared) (start scene : Scene) (a b d : Option (List ℕ))
    → start ≡ first_scene config layout first moment journal → (happenings : List Happening) × AreTold tables config.nodes config.children count script start a happenings scene b
    → (happenings : List Happening) × (final : Board) × (c : Option (List ℕ)) × IsEnd tables config.nodes scene b happenings final c × IsPut config tables final.journal c d × IsShort final.journal × (final.state.shared ≡ last)
    → IsTranscript config tables layout count script moment journal first last a d
played_all config tables layout count script moment journal first last start scene a b d begins (xs, told) (ys, final, c, ends, put, short, there) =
    subst (λ (z : Shared). IsTranscript config tables layout count script moment journal first z a d) there
    (transcript_of config tables layout count script moment journal first scene final a b c d xs ys
    (subst (λ (z : Scene). AreTold tables config.nodes config.children count script z a xs scene b) begins told) ends put short)
