use Rattle.std.proofs.Common.{refl, ◌+◌, ◌≤◌, List, [], length, map, take, drop, sym, subst, ◌∙◌, arith}
use Rattle.pgproto.specs.Line.{Line, line_of}
use Rattle.pgproto.specs.Spelling.{IsOfGrammar}
use Rattle.session_player.specs.Written.{AreParts}
use Rattle.session_seat.specs.Policy.{policy_in}
use Rattle.session_seat.specs.Shared.{shared_of}
use Rattle.pgproto.specs.declared.line.ScriptLine.{ScriptLine}
use Rattle.session_player.proofs.Walking.{taken, taken_all, here_of, parted}
use Rattle.session_player.proofs.Telling.{parts_on, grew_parts, grew_on}
use Rattle.session_player.specs.Speaking.{Happening}
use Rattle.session_player.specs.Transcript.{AreTold, scene_of}
use Rattle.session_player.proofs.Parts.{told_more, told_none}
use Rattle.session_player.proofs.Breaking.{on_err_always, telling_on}
use Rattle.session_player.proofs.player.play_lines.Goals as goal

pub returns-in_err-play_part-clause-grows : goal.returns-in_err-play_part-clause-grows
returns-in_err-play_part-clause-grows g c =
    let had = g.O.Sink.taken in
    grew_on (had c.args.out.now) (had c.loop-line.out) (had c.play_part.new.out)
    (grew_parts (map line_of (take c.loop-line.line-index c.args.script.now)) (had c.args.out.now) (had c.loop-line.out) c.loop-line.invariant.parts) c.play_part.ensures.grows

pub loop-line-init : goal.loop-line-init
loop-line-init g c =
    let old = shared_of g.B.Backend.meaning c.args.world.now.gate.state c.args.world.now.tables c.args.world.now.count c.args.world.now.shelf.items in
    record {
      grammar = c.requires.grammar;
      told = λ layout is.
          let scene = c.args.scene.now in
          let config = c.args.setting.config.now in
          ([], told_none c.args.setting.tables.now config.nodes config.children c.args.world.now.count (scene_of (policy_in config) layout old scene.moment scene.seats.slots.items scene.book) (g.O.Sink.taken c.args.out.now));
      parts = refl;
      tables = refl;
      count = refl;
      boxes = refl;
      later = omega arith;
    }

pub loop-line-preserved : goal.loop-line-preserved
loop-line-preserved g c =
    let had = g.O.Sink.taken in
    let script = c.args.script.now in
    let i = c.loop-line.line-index in
    let line = c.line-item.result in
    let After : List Line → Type 0 = λ lines. AreParts lines (had c.args.out.now) (had c.play_part.new.out) in
    let policy = policy_in c.args.setting.config.now in
    let old = shared_of g.B.Backend.meaning c.args.world.now.gate.state c.args.world.now.tables c.args.world.now.count c.args.world.now.shelf.items in
    let mid = shared_of g.B.Backend.meaning c.loop-line.world.gate.state c.loop-line.world.tables c.loop-line.world.count c.loop-line.world.shelf.items in
    let new = shared_of g.B.Backend.meaning c.play_part.new.world.gate.state c.play_part.new.world.tables c.play_part.new.world.count c.play_part.new.world.shelf.items in
    record {
      grammar = (here_of line_of IsOfGrammar script i line c.loop-line-test.true c.line-item.is c.loop-line.invariant.grammar).1;
      told = λ layout is.
          let config = c.args.setting.config.now in
          let tables = c.args.setting.tables.now in
          let count = c.args.world.now.count in
          let first = scene_of policy layout old c.args.scene.now.moment c.args.scene.now.seats.slots.items c.args.scene.now.book in
          let before = scene_of policy layout mid c.loop-line.scene.moment c.loop-line.scene.seats.slots.items c.loop-line.scene.book in
          let behind = scene_of policy layout new c.play_part.new.scene.moment c.play_part.new.scene.seats.slots.items c.play_part.new.scene.book in
          subst (λ (ls : List Line). (happenings : List Happening) × AreTold tables config.nodes config.children count ls first (had c.args.out.now) happenings behind (had c.play_part.new.out)) (sym (taken line_of script i line c.loop-line-test.true c.line-item.is))
          (told_more tables config.nodes config.children count c.loop-line.world.count (map line_of (take i script)) (line_of line) first before behind (had c.args.out.now) (had c.loop-line.out) (had c.play_part.new.out) c.loop-line.invariant.count
          (c.loop-line.invariant.told layout is) (c.in_ok-play_part.ensures.told layout is));
      parts = subst After (sym (taken line_of script i line c.loop-line-test.true c.line-item.is)) (parts_on (map line_of (take i script)) (line_of line) (had c.args.out.now) (had c.loop-line.out) (had c.play_part.new.out) c.loop-line.invariant.parts c.in_ok-play_part.ensures.part);
      tables = c.play_part.ensures.tables ∙ c.loop-line.invariant.tables;
      count = c.play_part.ensures.count ∙ c.loop-line.invariant.count;
      boxes = c.play_part.ensures.boxes ∙ c.loop-line.invariant.boxes;
      later = (let a : g.O.Sink.fault_count c.args.out.now ≤ g.O.Sink.fault_count c.loop-line.out = c.loop-line.invariant.later in let b : g.O.Sink.fault_count c.loop-line.out ≤ g.O.Sink.fault_count c.play_part.new.out = c.play_part.ensures.later in omega arith);
    }

pub returns-clause-grows : goal.returns-clause-grows
returns-clause-grows g c =
    let had = g.O.Sink.taken in
    grew_parts (map line_of (take c.loop-line.line-index c.args.script.now)) (had c.args.out.now) (had c.loop-line.out) c.loop-line.invariant.parts

pub returns-clause-told : goal.returns-clause-told
returns-clause-told g c = λ layout is.
    let had = g.O.Sink.taken in
    let config = c.args.setting.config.now in
    let policy = policy_in config in
    let script = c.args.script.now in
    let old = shared_of g.B.Backend.meaning c.args.world.now.gate.state c.args.world.now.tables c.args.world.now.count c.args.world.now.shelf.items in
    let new = shared_of g.B.Backend.meaning c.loop-line.world.gate.state c.loop-line.world.tables c.loop-line.world.count c.loop-line.world.shelf.items in
    let scene = c.args.scene.now in
    let last = c.loop-line.scene in
    let past : length script ≤ c.loop-line.line-index = omega (arith, c.loop-line-test.false) in
    subst (λ (ls : List ScriptLine). (happenings : List Happening) × AreTold c.args.setting.tables.now config.nodes config.children c.args.world.now.count (map line_of ls)
    (scene_of policy layout old scene.moment scene.seats.slots.items scene.book) (had c.args.out.now) happenings (scene_of policy layout new last.moment last.seats.slots.items last.book) (had c.loop-line.out))
    (taken_all script c.loop-line.line-index past) (c.loop-line.invariant.told layout is)

pub returns-in_err-play_part-clause-front : goal.returns-in_err-play_part-clause-front
returns-in_err-play_part-clause-front g c = λ layout is.
    let had = g.O.Sink.taken in
    let config = c.args.setting.config.now in
    let policy = policy_in config in
    let script = c.args.script.now in
    let i = c.loop-line.line-index in
    let line = c.line-item.result in
    let old = shared_of g.B.Backend.meaning c.args.world.now.gate.state c.args.world.now.tables c.args.world.now.count c.args.world.now.shelf.items in
    let mid = shared_of g.B.Backend.meaning c.loop-line.world.gate.state c.loop-line.world.tables c.loop-line.world.count c.loop-line.world.shelf.items in
    let first = scene_of policy layout old c.args.scene.now.moment c.args.scene.now.seats.slots.items c.args.scene.now.book in
    let before = scene_of policy layout mid c.loop-line.scene.moment c.loop-line.scene.seats.slots.items c.loop-line.scene.book in
    on_err_always c.from_residual.result
    (telling_on c.args.setting.tables.now config.nodes config.children c.args.world.now.count c.loop-line.world.count (map line_of script) (map line_of (take i script)) (map line_of (drop (i + 1) script)) (line_of line) first before
    (had c.args.out.now) (had c.loop-line.out) (had c.play_part.new.out) c.loop-line.invariant.count (parted line_of script i line c.loop-line-test.true c.line-item.is) (c.loop-line.invariant.told layout is) (c.in_err-play_part.ensures.front layout is))
