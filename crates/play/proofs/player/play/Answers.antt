use Rattle.std.proofs.Common.{◌≡◌, ◌≤◌, ◌+◌, List, ◌++◌, drop, take, map, length, refl, sym, ap, subst, ◌∙◌, arith}
use Rattle.std.proofs.lemmas.List.{append-nil}
use Rattle.pgproto.specs.Line.{Line, line_of}
use Rattle.play.specs.Showing.{scene_of}
use Rattle.play.specs.Script.{before}
use Rattle.play.specs.Transcript.{ArePlayed, ArePlayedInPart}
use Rattle.play.proofs.Asking.{whatever}
use Rattle.play.proofs.ScriptLemmas.{drop_here, drop_none}
use Rattle.play.proofs.Playing.{Going, going_none, going_on, all_played, fails_at_echo, fails_behind_echo, fails_at_end, split, taken, here_played, here_of_grammar}
use Rattle.play.proofs.player.play.Goals as goal

pub loop-line-init : goal.loop-line-init
loop-line-init g c = record {
  going = going_none c.args.catalogue.now (g.D.Database.rows c.args.database.now) (g.O.Sink.taken c.args.out.now);
  grammar = c.requires.grammar;
  played = record { part = before; from = c.requires.played };
  tables = refl;
  copies = refl;
  ready = c.requires.ready;
  later = omega arith;
}

pub put_echo-requires : goal.put_echo-requires
put_echo-requires g c =
    let i = c.loop-line.line-index in
    let script = c.args.script.now in
    (here_of_grammar (map line_of (drop i script)) (line_of c.line-item.result) (map line_of (drop (i + 1) script)) (ap (map line_of) (drop_here script i c.line-item.result c.loop-line-test.true c.line-item.is)) c.loop-line.invariant.grammar).0

pub show-requires-clause-grammar : goal.show-requires-clause-grammar
show-requires-clause-grammar g c =
    let i = c.loop-line.line-index in
    let script = c.args.script.now in
    (here_of_grammar (map line_of (drop i script)) (line_of c.line-item.result) (map line_of (drop (i + 1) script)) (ap (map line_of) (drop_here script i c.line-item.result c.loop-line-test.true c.line-item.is)) c.loop-line.invariant.grammar).0

pub show-requires-clause-played : goal.show-requires-clause-played
show-requires-clause-played g c =
    let i = c.loop-line.line-index in
    let script = c.args.script.now in
    (here_played (map line_of (drop i script)) (line_of c.line-item.result) (map line_of (drop (i + 1) script)) (ap (map line_of) (drop_here script i c.line-item.result c.loop-line-test.true c.line-item.is)) c.loop-line.invariant.played).0

pub returns-in_err-put_echo-clause-front : goal.returns-in_err-put_echo-clause-front
returns-in_err-put_echo-clause-front g c =
    let taken_by = g.O.Sink.taken in
    let rows = g.D.Database.rows in
    let i = c.loop-line.line-index in
    let script = c.args.script.now in
    let here = ap (map line_of) (drop_here script i c.line-item.result c.loop-line-test.true c.line-item.is) in
    whatever c.from_residual.result (fails_at_echo c.args.catalogue.now (map line_of script) (map line_of (take i script)) (line_of c.line-item.result) (map line_of (drop (i + 1) script)) (rows c.args.database.now) (taken_by c.args.out.now) (taken_by c.loop-line.out) (taken_by c.put_echo.new.out)
    (scene_of (rows c.loop-line.database) c.loop-line.scene) (split line_of script i ∙ ap (λ (z : List Line). map line_of (take i script) ++ z) here) c.loop-line.invariant.going c.in_err-put_echo.ensures.front)

pub returns-in_err-scene-clause-front : goal.returns-in_err-scene-clause-front
returns-in_err-scene-clause-front g c =
    let taken_by = g.O.Sink.taken in
    let rows = g.D.Database.rows in
    let i = c.loop-line.line-index in
    let script = c.args.script.now in
    let here = ap (map line_of) (drop_here script i c.line-item.result c.loop-line-test.true c.line-item.is) in
    whatever c.from_residual-in_err-scene.result (fails_behind_echo c.args.catalogue.now (map line_of script) (map line_of (take i script)) (line_of c.line-item.result) (map line_of (drop (i + 1) script)) (rows c.args.database.now) (taken_by c.args.out.now) (taken_by c.loop-line.out) (taken_by c.put_echo.new.out) (taken_by c.show.new.out)
    (scene_of (rows c.loop-line.database) c.loop-line.scene) (split line_of script i ∙ ap (λ (z : List Line). map line_of (take i script) ++ z) here) c.loop-line.invariant.going c.in_ok-put_echo.ensures.all c.in_err-scene.ensures.front)

pub loop-line-preserved : goal.loop-line-preserved
loop-line-preserved g c =
    let taken_by = g.O.Sink.taken in
    let rows = g.D.Database.rows in
    let i = c.loop-line.line-index in
    let script = c.args.script.now in
    let line = c.line-item.result in
    let here = ap (map line_of) (drop_here script i line c.loop-line-test.true c.line-item.is) in
    let After : List Line → Type 0 = λ lines. Going c.args.catalogue.now lines (rows c.args.database.now) (taken_by c.args.out.now) (taken_by c.show.new.out) (scene_of (rows c.show.new.database) c.in_ok-scene.scene) in
    record {
      going = subst After (sym (taken line_of script i line c.loop-line-test.true c.line-item.is)) (going_on c.args.catalogue.now (map line_of (take i script)) (line_of line) (rows c.args.database.now) (taken_by c.args.out.now) (taken_by c.loop-line.out) (taken_by c.put_echo.new.out) (taken_by c.show.new.out)
          (scene_of (rows c.loop-line.database) c.loop-line.scene) (scene_of (rows c.show.new.database) c.in_ok-scene.scene) c.loop-line.invariant.going c.in_ok-put_echo.ensures.all c.in_ok-scene.ensures.all);
      grammar = (here_of_grammar (map line_of (drop i script)) (line_of line) (map line_of (drop (i + 1) script)) here c.loop-line.invariant.grammar).1;
      played = (here_played (map line_of (drop i script)) (line_of line) (map line_of (drop (i + 1) script)) here c.loop-line.invariant.played).1;
      tables = c.in_ok-scene.ensures.tables ∙ c.loop-line.invariant.tables;
      copies = c.in_ok-scene.ensures.copies ∙ c.loop-line.invariant.copies;
      ready = c.in_ok-scene.ensures.ready;
      later = (let a : g.O.Sink.fault_count c.args.out.now ≤ g.O.Sink.fault_count c.loop-line.out = c.loop-line.invariant.later in let e : g.O.Sink.fault_count c.loop-line.out ≤ g.O.Sink.fault_count c.put_echo.new.out = c.put_echo.ensures.later in let b : g.O.Sink.fault_count c.put_echo.new.out ≤ g.O.Sink.fault_count c.show.new.out = c.show.ensures.later in omega arith);
    }

pub returns-in_err-close-clause-front : goal.returns-in_err-close-clause-front
returns-in_err-close-clause-front g c =
    let taken_by = g.O.Sink.taken in
    let rows = g.D.Database.rows in
    let i = c.loop-line.line-index in
    let script = c.args.script.now in
    let past : length script ≤ i = omega arith in
    let whole : map line_of (take i script) ≡ map line_of script = sym (split line_of script i ∙ ap (λ (z : List Line). map line_of (take i script) ++ z) (ap (map line_of) (drop_none script i past)) ∙ append-nil (map line_of (take i script))) in
    let Part : List Line → Type 0 = λ lines. ArePlayedInPart c.args.catalogue.now lines (rows c.args.database.now) (taken_by c.args.out.now) (taken_by c.close.new.out) in
    whatever c.from_residual-in_err-close.result (subst Part whole (fails_at_end c.args.catalogue.now (map line_of (take i script)) (rows c.args.database.now) (taken_by c.args.out.now) (taken_by c.loop-line.out) (taken_by c.close.new.out)
    (scene_of (rows c.loop-line.database) c.loop-line.scene) c.loop-line.invariant.going c.in_err-close.ensures.front))

pub returns-clause-all : goal.returns-clause-all
returns-clause-all g c =
    let taken_by = g.O.Sink.taken in
    let rows = g.D.Database.rows in
    let i = c.loop-line.line-index in
    let script = c.args.script.now in
    let past : length script ≤ i = omega arith in
    let whole : map line_of (take i script) ≡ map line_of script = sym (split line_of script i ∙ ap (λ (z : List Line). map line_of (take i script) ++ z) (ap (map line_of) (drop_none script i past)) ∙ append-nil (map line_of (take i script))) in
    let All : List Line → Type 0 = λ lines. ArePlayed c.args.catalogue.now lines (rows c.args.database.now) (taken_by c.args.out.now) (taken_by c.close.new.out) (rows c.loop-line.database) in
    subst All whole (all_played c.args.catalogue.now (map line_of (take i script)) (rows c.args.database.now) (taken_by c.args.out.now) (taken_by c.loop-line.out) (taken_by c.close.new.out)
    (scene_of (rows c.loop-line.database) c.loop-line.scene) c.loop-line.invariant.going c.in_ok-close.ensures.all)
