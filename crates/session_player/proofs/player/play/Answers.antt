use Rattle.std.proofs.Common.{map, ap, ◌∙◌, w64, rules}
use Rattle.std.specs.Prelude.{ℤ}
use Rattle.std.proofs.lemmas.Int.{to_z-of_z}
use Rattle.session_seat.specs.Shared.{shared_of}
use Rattle.pgproto.specs.Line.{line_of}
use Rattle.session_player.proofs.Telling.{grew_on}
use Rattle.session_seat.specs.Policy.{policy_in}
use Rattle.session_player.specs.Transcript.{first_scene, scene_of}
use Rattle.session_player.proofs.Parts.{played_all, scene_first}
use Rattle.session_player.proofs.Breaking.{broken_at_end, broken_at_once, broken_in_part, on_err_always}
use Rattle.session_player.proofs.player.play.Goals as goal

pub returns-in_err-play_end-clause-grows : goal.returns-in_err-play_end-clause-grows
returns-in_err-play_end-clause-grows g c =
    let had = g.O.Sink.taken in
    grew_on (had c.args.out.now) (had c.play_lines.new.out) (had c.play_end.new.out) c.play_lines.ensures.grows c.play_end.ensures.grows

pub returns-clause-grows : goal.returns-clause-grows
returns-clause-grows g c =
    let had = g.O.Sink.taken in
    grew_on (had c.args.out.now) (had c.play_lines.new.out) (had c.play_end.new.out) c.play_lines.ensures.grows c.play_end.ensures.grows

pub returns-clause-transcript : goal.returns-clause-transcript
returns-clause-transcript g c = λ layout is.
    let had = g.O.Sink.taken in
    let config = c.args.setting.config.now in
    let policy = policy_in config in
    let old = shared_of g.B.Backend.meaning c.args.world.now.gate.state c.args.world.now.tables c.args.world.now.count c.args.world.now.shelf.items in
    let mid = shared_of g.B.Backend.meaning c.play_lines.new.world.gate.state c.play_lines.new.world.tables c.play_lines.new.world.count c.play_lines.new.world.shelf.items in
    let new = shared_of g.B.Backend.meaning c.play_end.new.world.gate.state c.play_end.new.world.tables c.play_end.new.world.count c.play_end.new.world.shelf.items in
    let lines = c.play_lines.new.scene in
    let free = c.in_ok-new.field-0.slots.items in
    let moment = c.args.setting.moment in
    played_all config c.args.setting.tables.now layout c.args.world.now.count (map line_of c.args.script.now) moment c.args.journal old new
    _ (scene_of policy layout mid lines.moment lines.seats.slots.items lines.book)
    (had c.args.out.now) (had c.play_lines.new.out) (had c.play_end.new.out)
    (scene_first config layout old _ c.args.journal free c.new-2.result c.in_ok-new.ensures.free c.new-2.ensures.journal c.new-2.ensures.lines
    ∙ ap (λ (m : ℤ). first_scene config layout old m c.args.journal) (to_z-of_z w64 moment (search rules)))
    (c.in_ok-play_lines.ensures.told layout is) (c.in_ok-play_end.ensures.ends layout is)

pub returns-in_err-new-clause-front : goal.returns-in_err-new-clause-front
returns-in_err-new-clause-front g c = λ layout is.
    let had = g.O.Sink.taken in
    let config = c.args.setting.config.now in
    let tables = c.args.setting.tables.now in
    let script = map line_of c.args.script.now in
    let moment = c.args.setting.moment in
    let old = shared_of g.B.Backend.meaning c.args.world.now.gate.state c.args.world.now.tables c.args.world.now.count c.args.world.now.shelf.items in
    on_err_always c.from_residual.result (broken_at_once config tables layout c.args.world.now.count script moment c.args.journal old (had c.args.out.now))

pub returns-in_err-play_lines-clause-front : goal.returns-in_err-play_lines-clause-front
returns-in_err-play_lines-clause-front g c = λ layout is.
    let had = g.O.Sink.taken in
    let config = c.args.setting.config.now in
    let tables = c.args.setting.tables.now in
    let script = map line_of c.args.script.now in
    let moment = c.args.setting.moment in
    let old = shared_of g.B.Backend.meaning c.args.world.now.gate.state c.args.world.now.tables c.args.world.now.count c.args.world.now.shelf.items in
    let begins = scene_first config layout old _ c.args.journal c.in_ok-new.field-0.slots.items c.new-2.result c.in_ok-new.ensures.free c.new-2.ensures.journal c.new-2.ensures.lines
    ∙ ap (λ (m : ℤ). first_scene config layout old m c.args.journal) (to_z-of_z w64 moment (search rules)) in
    on_err_always c.from_residual-in_err-play_lines.result
    (broken_in_part config tables layout c.args.world.now.count script moment c.args.journal old _ (had c.args.out.now) (had c.play_lines.new.out) begins (c.in_err-play_lines.ensures.front layout is))

pub returns-in_err-play_end-clause-front : goal.returns-in_err-play_end-clause-front
returns-in_err-play_end-clause-front g c = λ layout is.
    let had = g.O.Sink.taken in
    let config = c.args.setting.config.now in
    let tables = c.args.setting.tables.now in
    let script = map line_of c.args.script.now in
    let moment = c.args.setting.moment in
    let old = shared_of g.B.Backend.meaning c.args.world.now.gate.state c.args.world.now.tables c.args.world.now.count c.args.world.now.shelf.items in
    let begins = scene_first config layout old _ c.args.journal c.in_ok-new.field-0.slots.items c.new-2.result c.in_ok-new.ensures.free c.new-2.ensures.journal c.new-2.ensures.lines
    ∙ ap (λ (m : ℤ). first_scene config layout old m c.args.journal) (to_z-of_z w64 moment (search rules)) in
    let mid = shared_of g.B.Backend.meaning c.play_lines.new.world.gate.state c.play_lines.new.world.tables c.play_lines.new.world.count c.play_lines.new.world.shelf.items in
    let lines = c.play_lines.new.scene in
    on_err_always c.from_residual-in_err-play_end.result
    (broken_at_end config tables layout c.args.world.now.count script moment c.args.journal old _ (scene_of (policy_in config) layout mid lines.moment lines.seats.slots.items lines.book)
    (had c.args.out.now) (had c.play_lines.new.out) (had c.play_end.new.out) begins (c.in_ok-play_lines.ensures.told layout is) (c.in_err-play_end.ensures.front layout is))
