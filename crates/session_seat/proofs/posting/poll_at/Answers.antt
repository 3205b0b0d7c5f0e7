use Rattle.backend_rolls.specs.Rolls.{known_in}
use Rattle.backend_rolls.proofs.KnownLemmas.{polled_as}
use Rattle.session_seat.proofs.posting.poll_at.Goals as goal

pub returns-clause-known : goal.returns-clause-known
returns-clause-known g c =
    let meaning = g.B.Backend.meaning in
    let count = g.B.Backend.count in
    polled_as (meaning c.args.store.now) (meaning c.poll-polled.new.self) (known_in c.args.roll.now) (known_in c.put.new.self) c.args.s.number c.at-known.result c.after_poll.result c.poll-polled.result (count c.args.store.now)
    (count c.poll-polled.new.self) c.requires.known c.at-known.ensures c.after_poll.ensures c.put.ensures c.poll-polled.ensures.form
