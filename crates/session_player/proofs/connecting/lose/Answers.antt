use Rattle.std.proofs.Common.{rules}
use Rattle.session_seat.specs.Shared.{shared_of}
use Rattle.session_player.proofs.Losing.{loses_known}
use Rattle.session_player.proofs.connecting.lose.Goals as goal

pub returns-clause-loses : goal.returns-clause-loses
returns-clause-loses g c = λ machines recoveries hearers moment nodes.
    let old = c.args.world.now in
    let new = c.lose-is_new.new.self in
    let meaning = g.B.Backend.meaning in
    loses_known c.args.setting.tables.now moment nodes old.count c.args.b (shared_of meaning old.gate.state old.tables old.count old.shelf.items) (shared_of meaning new.gate.state new.tables new.count new.shelf.items) machines recoveries hearers
    c.args.book.now.journal c.note_loss.new.book.journal c.args.book.now.lines c.note_loss.new.book.lines c.lose-is_new.result (search rules) c.lose-is_new.ensures.lost c.lose-is_new.ensures.same c.in_ok-note_loss.ensures.line c.note_loss.ensures.lines
