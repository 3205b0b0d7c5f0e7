use Rattle.std.proofs.Common.{refl, ap, sym, ◌∙◌}
use Rattle.session_engine.specs.Cores.{machine_in}
use Rattle.session_seat.specs.Policy.{policy_in}
use Rattle.session_seat.specs.Shared.{shared_of}
use Rattle.recovery_seat.specs.Places.{standing_of}
use Rattle.recovery_seat.specs.Steps.{at}
use Rattle.session_player.specs.declared.slots.Slot.TheVariants.{Taken}
use Rattle.session_player.specs.Journals.{machine_in_slot, standing_in_slot}
use Rattle.session_player.proofs.Going.{freed, freed_at_rest}
use Rattle.session_player.specs.Speaking.{hearer_in, hearer_of, left_at}
use Rattle.session_player.proofs.Speaking.{alone_in, alone_none, goes_away, stays_there}
use Rattle.session_player.proofs.round.turn_until.Goals as goal

pub returns-in-Free-clause-speaks : goal.returns-in-Free-clause-speaks
returns-in-Free-clause-speaks g c = λ layout is before s own placed.
    let old = shared_of g.B.Backend.meaning c.args.world.now.gate.state c.args.world.now.tables c.args.world.now.count c.args.world.now.shelf.items in
    alone_none c.args.setting.tables.now c.args.setting.moment c.args.setting.config.now.nodes s c.args.others.bits
    (at old (machine_in_slot (policy_in c.args.setting.config.now) s c.args.slot.now) (standing_in_slot layout s c.args.slot.now) c.args.book.now.journal) (hearer_in c.args.slot.now) c.args.book.now.lines

pub returns-in-Closed-clause-speaks : goal.returns-in-Closed-clause-speaks
returns-in-Closed-clause-speaks g c = λ layout is before s own placed.
    let old = shared_of g.B.Backend.meaning c.args.world.now.gate.state c.args.world.now.tables c.args.world.now.count c.args.world.now.shelf.items in
    let new = shared_of g.B.Backend.meaning c.turn_of.new.world.gate.state c.turn_of.new.world.tables c.turn_of.new.world.count c.turn_of.new.world.shelf.items in
    let policy = policy_in c.args.setting.config.now in
    let client = c.in-Taken.client in
    let core = machine_in c.turn_of.new.client.place.seat.core in
    let stands = standing_of layout c.turn_of.new.client.place in
    let ended = c.in_ok-end-in-Taken.ensures in
    alone_in c.args.setting.tables.now c.args.setting.moment c.args.setting.config.now.nodes policy layout s c.args.others.bits before c.args.slot.now c.free.new.slot client old new c.args.book.now.journal c.turn_of.new.book.journal core stands
    (left_at c.in_ok-end-in-Taken.end (hearer_of c.turn_of.new.client.place.seat)) c.args.book.now.lines c.turn_of.new.book.lines own placed c.in-Taken.is
    (ended.speaks layout is) (freed policy s client.place.seat.s c.free.new.slot core c.free.ensures (ended.closed c.in-Closed.is))
    (freed_at_rest layout s client.place.seat.s c.free.new.slot stands c.free.ensures (ended.at_rest layout is c.in-Closed.is))
    (ap hearer_in c.free.ensures ∙ sym (goes_away c.in_ok-end-in-Taken.end (hearer_of c.turn_of.new.client.place.seat) c.in-Closed.is))

pub returns-in_default-clause-speaks : goal.returns-in_default-clause-speaks
returns-in_default-clause-speaks g c = λ layout is before s own placed.
    let old = shared_of g.B.Backend.meaning c.args.world.now.gate.state c.args.world.now.tables c.args.world.now.count c.args.world.now.shelf.items in
    let new = shared_of g.B.Backend.meaning c.turn_of.new.world.gate.state c.turn_of.new.world.tables c.turn_of.new.world.count c.turn_of.new.world.shelf.items in
    alone_in c.args.setting.tables.now c.args.setting.moment c.args.setting.config.now.nodes (policy_in c.args.setting.config.now) layout s c.args.others.bits before c.args.slot.now (Taken c.turn_of.new.client) c.in-Taken.client old new
    c.args.book.now.journal c.turn_of.new.book.journal (machine_in c.turn_of.new.client.place.seat.core) (standing_of layout c.turn_of.new.client.place) (left_at c.in_ok-end-in-Taken.end (hearer_of c.turn_of.new.client.place.seat)) c.args.book.now.lines c.turn_of.new.book.lines
    own placed c.in-Taken.is (c.in_ok-end-in-Taken.ensures.speaks layout is) (λ same. refl) (λ same. refl) (sym (stays_there c.in_ok-end-in-Taken.end (hearer_of c.turn_of.new.client.place.seat) c.in_default.not-Closed))
