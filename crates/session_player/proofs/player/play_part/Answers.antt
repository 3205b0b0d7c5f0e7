use Rattle.session_seat.specs.Policy.{policy_in}
use Rattle.session_seat.specs.Shared.{shared_of}
use Rattle.pgproto.specs.Line.{line_of}
use Rattle.std.proofs.lemmas.Result.{on_err_weaker, on_ok_weaker}
use Rattle.session_player.proofs.Telling.{grew_on, part_of}
use Rattle.session_player.specs.Transcript.{scene_of}
use Rattle.session_player.proofs.Parts.{on_ok_both, told_part}
use Rattle.session_player.proofs.Breaking.{behind_echo, in_echo, in_told, on_err_always}
use Rattle.session_player.proofs.player.play_part.Goals as goal

pub returns-clause-part : goal.returns-clause-part
returns-clause-part g c =
    let had = g.O.Sink.taken in
    on_ok_weaker c.put_told.result
    (λ told. part_of (line_of c.args.line.now) (had c.args.out.now) (had c.put_echo.new.out) (had c.put_told.new.out) _ c.in_ok-put_echo.ensures.all told) c.put_told.ensures.all

pub returns-clause-grows : goal.returns-clause-grows
returns-clause-grows g c =
    let had = g.O.Sink.taken in
    grew_on (had c.args.out.now) (had c.put_echo.new.out) (had c.put_told.new.out) c.put_echo.ensures.grows c.put_told.ensures.grows

pub returns-clause-told : goal.returns-clause-told
returns-clause-told g c = λ layout is.
    let had = g.O.Sink.taken in
    let config = c.args.setting.config.now in
    let policy = policy_in config in
    let old = shared_of g.B.Backend.meaning c.args.world.now.gate.state c.args.world.now.tables c.args.world.now.count c.args.world.now.shelf.items in
    let new = shared_of g.B.Backend.meaning c.play_line.new.world.gate.state c.play_line.new.world.tables c.play_line.new.world.count c.play_line.new.world.shelf.items in
    let scene = c.args.scene.now in
    let played = c.play_line.new.scene in
    let last = scene_of policy layout new played.moment played.seats.slots.items played.book in
    let book = c.put_told.new.book in
    on_ok_weaker c.put_told.result
    (λ wrote. told_part c.args.setting.tables.now config.nodes config.children c.args.world.now.count (line_of c.args.line.now) (scene_of policy layout old scene.moment scene.seats.slots.items scene.book) last
    (scene_of policy layout new played.moment played.seats.slots.items book) (had c.args.out.now) (had c.put_echo.new.out) (had c.put_told.new.out) (c.in_ok-play_line.ensures.part layout is) c.in_ok-put_echo.ensures.all wrote.0
    (λ i. record {
      moment = played.moment;
      board = record { state = last.board.state; hearers = last.board.hearers; journal = c.put_told.ensures.journal i; lines = wrote.1 i };
    }))
    (on_ok_both _ _ c.put_told.result c.put_told.ensures.all c.put_told.ensures.emptied)

pub returns-in_err-put_echo-clause-front : goal.returns-in_err-put_echo-clause-front
returns-in_err-put_echo-clause-front g c = λ layout is.
    let had = g.O.Sink.taken in
    let config = c.args.setting.config.now in
    let policy = policy_in config in
    let old = shared_of g.B.Backend.meaning c.args.world.now.gate.state c.args.world.now.tables c.args.world.now.count c.args.world.now.shelf.items in
    let scene = c.args.scene.now in
    let first = scene_of policy layout old scene.moment scene.seats.slots.items scene.book in
    on_err_always c.from_residual.result
    (in_echo c.args.setting.tables.now config.nodes config.children c.args.world.now.count (line_of c.args.line.now) first (had c.args.out.now) (had c.put_echo.new.out) c.in_err-put_echo.ensures.front)

pub returns-in_err-play_line-clause-front : goal.returns-in_err-play_line-clause-front
returns-in_err-play_line-clause-front g c = λ layout is.
    let had = g.O.Sink.taken in
    let config = c.args.setting.config.now in
    let policy = policy_in config in
    let old = shared_of g.B.Backend.meaning c.args.world.now.gate.state c.args.world.now.tables c.args.world.now.count c.args.world.now.shelf.items in
    let scene = c.args.scene.now in
    let first = scene_of policy layout old scene.moment scene.seats.slots.items scene.book in
    on_err_always c.from_residual-in_err-play_line.result
    (behind_echo c.args.setting.tables.now config.nodes config.children c.args.world.now.count (line_of c.args.line.now) first (had c.args.out.now) (had c.put_echo.new.out) c.in_ok-put_echo.ensures.all)

pub returns-clause-front : goal.returns-clause-front
returns-clause-front g c = λ layout is.
    let had = g.O.Sink.taken in
    let config = c.args.setting.config.now in
    let policy = policy_in config in
    let old = shared_of g.B.Backend.meaning c.args.world.now.gate.state c.args.world.now.tables c.args.world.now.count c.args.world.now.shelf.items in
    let scene = c.args.scene.now in
    let first = scene_of policy layout old scene.moment scene.seats.slots.items scene.book in
    let new = shared_of g.B.Backend.meaning c.play_line.new.world.gate.state c.play_line.new.world.tables c.play_line.new.world.count c.play_line.new.world.shelf.items in
    let played = c.play_line.new.scene in
    let last = scene_of policy layout new played.moment played.seats.slots.items played.book in
    on_err_weaker c.put_told.result
    (λ front. in_told c.args.setting.tables.now config.nodes config.children c.args.world.now.count (line_of c.args.line.now) first last (had c.args.out.now) (had c.put_echo.new.out) (had c.put_told.new.out)
    (c.in_ok-play_line.ensures.part layout is) c.in_ok-put_echo.ensures.all front) c.put_told.ensures.front
