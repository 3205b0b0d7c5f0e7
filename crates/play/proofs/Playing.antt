-- A script, played line by line.
use Rattle.std.proofs.Common.{◌≡◌, ℕ, suc, zero, List, [], ◌∷◌, ◌++◌, map, take, drop, length, get_or, refl, sym, ap, ◌∙◌, subst, ◌+◌, ◌<◌}
use Rattle.std.specs.Prelude.{Option}
use Rattle.std.specs.List.{AllByRecursion}
use Rattle.std.proofs.lemmas.List.{append_assoc, append-nil, take_more, map-append}
use Rattle.pool_base.specs.Outside.{Appends, AppendsFront}
use Rattle.pool_base.proofs.Sinking.{appends_nothing, appends_on, front_on}
use Rattle.schema.specs.declared.catalogue.TableDef.{TableDef}
use Rattle.backend_trait.specs.Rows.{Rows}
use Rattle.pgproto.specs.Line.{Line}
use Rattle.pgproto.specs.Spelling.{IsOfGrammar, echoed}
use Rattle.play.specs.Script.{Deed, Does, AreDone, IsPlayed, set, connect, ask, leave, Part, IsNext, moment_set, connected, asked, left, IsSessionFrom, Scene, first_scene, scene_after}
use Rattle.play.specs.Transcript.{ended, closing, IsShown, IsPart, AreParts, ArePlayed, ArePlayedInPart, none_beyond, echo_beyond, closing_beyond}
use Rattle.play.specs.Showing.{IsShownOf, IsShownInPart, none_shown, part_shown}

-- ---- one deed more

done_more : (tables : List TableDef) (scene last : Scene) (lines : List Line) (deeds : List Deed) (bytes : List ℕ) (line : Line) (deed : Deed)
    → AreDone tables scene lines deeds → AreParts tables scene deeds bytes last → Does tables last line deed → AreDone tables scene (lines ++ line ∷ []) (deeds ++ deed ∷ [])
done_more tables scene last [] [] bytes line deed done parts does = (subst (λ (s : Scene). Does tables s line deed) parts.1 does, tt)
done_more tables scene last [] (d ∷ deeds) bytes line deed done parts does = absurd done
done_more tables scene last (l ∷ lines) [] bytes line deed done parts does = absurd done
done_more tables scene last (l ∷ lines) (d ∷ deeds) bytes line deed done (first, rest, one, others, is) does =
    (done.0, done_more tables (scene_after tables scene d) last lines deeds rest line deed done.1 others does)

parts_more : (tables : List TableDef) (scene last : Scene) (deeds : List Deed) (bytes more : List ℕ) (deed : Deed)
    → AreParts tables scene deeds bytes last → IsPart tables last deed more → AreParts tables scene (deeds ++ deed ∷ []) (bytes ++ more) (scene_after tables last deed)
parts_more tables scene last [] bytes more deed parts part =
    (more, [], subst (λ (s : Scene). IsPart tables s deed more) parts.1 part, (refl, ap (λ (s : Scene). scene_after tables s deed) parts.1), ap (λ (z : List ℕ). z ++ more) parts.0 ∙ sym (append-nil more))
parts_more tables scene last (d ∷ deeds) bytes more deed (first, rest, one, others, is) part =
    (first, rest ++ more, one, parts_more tables (scene_after tables scene d) last deeds rest more deed others part, ap (λ (z : List ℕ). z ++ more) is ∙ append_assoc first rest more)

-- ---- the lines so far
pub record Going (tables : List TableDef) (lines : List Line) (rows : Rows) (a b : Option (List ℕ)) (scene : Scene) : Type 0 where
  pub deeds : List Deed
  pub done : AreDone tables (first_scene rows) lines deeds
  pub bytes : List ℕ
  pub parts : AreParts tables (first_scene rows) deeds bytes scene
  pub wrote : Appends a b bytes

pub going_none : (tables : List TableDef) (rows : Rows) (a : Option (List ℕ)) → Going tables [] rows a a (first_scene rows)
going_none tables rows a = record { deeds = []; done = tt; bytes = []; parts = (refl, refl); wrote = appends_nothing a }

part_of : (tables : List TableDef) (scene : Scene) (line : Line) (deed : Deed) (shown : List ℕ) → Does tables scene line deed → IsShown tables scene deed shown → IsPart tables scene deed (ended (echoed line) ++ shown)
part_of tables scene line deed shown does is_shown = record { shown = shown; is_shown = is_shown; are = ap (λ (l : Line). ended (echoed l) ++ shown) does.0 }

pub going_on : (tables : List TableDef) (lines : List Line) (line : Line) (rows : Rows) (a b c d : Option (List ℕ)) (scene after : Scene)
    → Going tables lines rows a b scene → Appends b c (ended (echoed line)) → IsShownOf tables scene line c d after → Going tables (lines ++ line ∷ []) rows a d after
going_on tables lines line rows a b c d scene after g echoes s =
    let part = part_of tables scene line s.deed s.shown s.does s.is_shown in
    let more : List ℕ = ended (echoed line) ++ s.shown in
    subst (Going tables (lines ++ line ∷ []) rows a d) (sym s.leads) (record {
      deeds = g.deeds ++ s.deed ∷ [];
      done = done_more tables (first_scene rows) scene lines g.deeds g.bytes line s.deed g.done g.parts s.does;
      bytes = g.bytes ++ more;
      parts = parts_more tables (first_scene rows) scene g.deeds g.bytes more s.deed g.parts part;
      wrote = appends_on a b d g.bytes more g.wrote (appends_on b c d (ended (echoed line)) s.shown echoes s.wrote);
    })

-- ---- the end
pub all_played : (tables : List TableDef) (lines : List Line) (rows : Rows) (a b c : Option (List ℕ)) (scene : Scene) → Going tables lines rows a b scene → Appends b c (closing scene.online) → ArePlayed tables lines rows a c scene.rows
all_played tables lines rows a b c scene g closes = record {
  deeds = g.deeds;
  done = g.done;
  bytes = g.bytes;
  last = scene;
  parts = g.parts;
  wrote = appends_on a b c g.bytes (closing scene.online) g.wrote closes;
  rows_left = refl;
}

-- ---- faults
pub fails_at_echo : (tables : List TableDef) (lines before : List Line) (line : Line) (others : List Line) (rows : Rows) (a b c : Option (List ℕ)) (scene : Scene) → lines ≡ before ++ line ∷ others
    → Going tables before rows a b scene → AppendsFront b c (ended (echoed line)) → ArePlayedInPart tables lines rows a c
fails_at_echo tables lines before line others rows a b c scene is g echoes = record {
  front = before;
  rest = line ∷ others;
  all = is;
  deeds = g.deeds;
  done = g.done;
  bytes = g.bytes;
  last = scene;
  parts = g.parts;
  beyond = ended (echoed line);
  is_beyond = echo_beyond line others refl refl;
  wrote = front_on a b c g.bytes (ended (echoed line)) g.wrote echoes;
}

all_front : (a b : Option (List ℕ)) (bytes : List ℕ) → Appends a b bytes → AppendsFront a b bytes
all_front a b bytes wrote = record { front = bytes; rest = []; parts = sym (append-nil bytes); has = wrote }

pub fails_behind_echo : (tables : List TableDef) (lines before : List Line) (line : Line) (others : List Line) (rows : Rows) (a b c d : Option (List ℕ)) (scene : Scene) → lines ≡ before ++ line ∷ others
    → Going tables before rows a b scene → Appends b c (ended (echoed line)) → IsShownInPart tables scene line c d → ArePlayedInPart tables lines rows a d
fails_behind_echo tables lines before line others rows a b c d scene is g echoes (none_shown same) =
    fails_at_echo tables lines before line others rows a b d scene is g (subst (λ (o : Option (List ℕ)). AppendsFront b o (ended (echoed line))) (sym same) (all_front b c (ended (echoed line)) echoes))
fails_behind_echo tables lines before line others rows a b c d scene is g echoes (part_shown deed shown does is_shown wrote) =
    let more : List ℕ = ended (echoed line) ++ shown in record {
      front = before ++ line ∷ [];
      rest = others;
      all = is ∙ sym (append_assoc before (line ∷ []) others);
      deeds = g.deeds ++ deed ∷ [];
      done = done_more tables (first_scene rows) scene before g.deeds g.bytes line deed g.done g.parts does;
      bytes = g.bytes ++ more;
      last = scene_after tables scene deed;
      parts = parts_more tables (first_scene rows) scene g.deeds g.bytes more deed g.parts (part_of tables scene line deed shown does is_shown);
      beyond = [];
      is_beyond = none_beyond refl;
      wrote = subst (AppendsFront a d) (sym (append-nil (g.bytes ++ more))) (front_on a b d g.bytes more g.wrote (front_on b c d (ended (echoed line)) shown echoes wrote));
    }

pub fails_at_end : (tables : List TableDef) (lines : List Line) (rows : Rows) (a b c : Option (List ℕ)) (scene : Scene) → Going tables lines rows a b scene → AppendsFront b c (closing scene.online) → ArePlayedInPart tables lines rows a c
fails_at_end tables lines rows a b c scene g closes = record {
  front = lines;
  rest = [];
  all = sym (append-nil lines);
  deeds = g.deeds;
  done = g.done;
  bytes = g.bytes;
  last = scene;
  parts = g.parts;
  beyond = closing scene.online;
  is_beyond = closing_beyond refl refl;
  wrote = front_on a b c g.bytes (closing scene.online) g.wrote closes;
}

-- ---- the lines that are left
pub split : {A : Type 0} (f : A → Line) (xs : List A) (i : ℕ) → map f xs ≡ map f (take i xs) ++ map f (drop i xs)
split f xs zero = refl
split f [] (suc i) = refl
split f (x ∷ xs) (suc i) = ap (λ (z : List Line). f x ∷ z) (split f xs i)

pub taken : {A : Type 0} (f : A → Line) (xs : List A) (i : ℕ) (x : A) → i < length xs → x ≡ get_or xs i x → map f (take (i + 1) xs) ≡ map f (take i xs) ++ f x ∷ []
taken f xs i x below is =
    ap (map f) (take_more xs i x below ∙ ap (λ y. take i xs ++ y ∷ []) (sym is)) ∙ map-append f (take i xs) (x ∷ [])

-- from some part on they are those of a session
pub record IsTail (lines : List Line) : Type 0 where
  pub part : Part
  pub from : IsSessionFrom part lines

next_played : (part next : Part) (line : Line) → IsNext part line next → IsPlayed line
next_played part next line (moment_set text micros e m n) = set text micros e m
next_played part next line (connected e p n) = connect e
next_played part next line (asked text e p n) = ask text e
next_played part next line (left e p n) = leave e

first_played : (line : Line) (others : List Line) (part : Part) → IsSessionFrom part (line ∷ others) → IsPlayed line × IsTail others
first_played line others part from = (next_played part from.0 line from.1, record { part = from.0; from = from.2 })

pub here_played : (rest : List Line) (line : Line) (others : List Line) → rest ≡ line ∷ others → IsTail rest → IsPlayed line × IsTail others
here_played rest line others is tail = first_played line others tail.part (subst (IsSessionFrom tail.part) is tail.from)

pub here_of_grammar : (rest : List Line) (line : Line) (others : List Line) → rest ≡ line ∷ others → AllByRecursion IsOfGrammar rest → IsOfGrammar line × AllByRecursion IsOfGrammar others
here_of_grammar rest line others is all = subst (AllByRecursion IsOfGrammar) is all
