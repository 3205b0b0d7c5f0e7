use Rattle.std.proofs.Common.{◌∙◌, List, drop, length, take, ◌++◌, refl, sym, subst, arith}
use Rattle.session_seat.specs.Policy.{policy_in}
use Rattle.session_seat.specs.Shared.{shared_of}
use Rattle.session_player.proofs.Going.{whole_again}
use Rattle.session_player.specs.Speaking.{board_of}
use Rattle.session_player.proofs.Speaking.{spoke_none, spoke_round}
use Rattle.session_player.specs.declared.slots.Slot.{Slot}
use Rattle.session_player.specs.Stillness.{AreStill}
use Rattle.session_player.proofs.round.rounds.Goals as goal

pub rounds-init : goal.rounds-init
rounds-init g c =
    let old = shared_of g.B.Backend.meaning c.args.world.now.gate.state c.args.world.now.tables c.args.world.now.count c.args.world.now.shelf.items in
    record {
      speaks = λ layout is.
          let whole = board_of (policy_in c.args.setting.config.now) layout old c.args.seats.now.slots.items c.args.book.now in
          spoke_none c.args.setting.tables.now c.args.setting.moment c.args.setting.config.now.nodes whole whole refl;
      tables = refl;
      count = refl;
      boxes = refl;
    }

pub rounds-preserved : goal.rounds-preserved
rounds-preserved g c =
    let old = shared_of g.B.Backend.meaning c.args.world.now.gate.state c.args.world.now.tables c.args.world.now.count c.args.world.now.shelf.items in
    let mid = shared_of g.B.Backend.meaning c.rounds.world.gate.state c.rounds.world.tables c.rounds.world.count c.rounds.world.shelf.items in
    let new = shared_of g.B.Backend.meaning c.round.new.world.gate.state c.round.new.world.tables c.round.new.world.count c.round.new.world.shelf.items in
    record {
      speaks = λ layout is.
          spoke_round c.args.setting.tables.now c.args.setting.moment c.args.setting.config.now.nodes (policy_in c.args.setting.config.now) layout (board_of (policy_in c.args.setting.config.now) layout old c.args.seats.now.slots.items c.args.book.now) mid new
          c.rounds.book.journal c.round.new.book.journal c.rounds.book.lines c.round.new.book.lines c.rounds.seats.slots.items c.as_mut_slice.result.now c.round.new.slots
          (take c.rounds.seats.slots.len (c.round.new.slots ++ drop (length c.round.new.slots) c.rounds.seats.slots.items)) c.as_mut_slice.ensures.value
          (whole_again c.rounds.seats.slots.len c.round.new.slots (drop (length c.round.new.slots) c.rounds.seats.slots.items) (omega (arith, c.as_mut_slice.ensures.len, c.round.ensures.slots)))
          (c.rounds.invariant.speaks layout is) (c.in_ok-round.ensures.speaks layout is);
      tables = c.round.ensures.tables ∙ c.rounds.invariant.tables;
      count = c.round.ensures.count ∙ c.rounds.invariant.count;
      boxes = c.round.ensures.boxes ∙ c.rounds.invariant.boxes;
    }

pub returns-then-book-before-clause-speaks : goal.returns-then-book-before-clause-speaks
returns-then-book-before-clause-speaks g c = λ layout is.
    let old = shared_of g.B.Backend.meaning c.args.world.now.gate.state c.args.world.now.tables c.args.world.now.count c.args.world.now.shelf.items in
    let mid = shared_of g.B.Backend.meaning c.rounds.world.gate.state c.rounds.world.tables c.rounds.world.count c.rounds.world.shelf.items in
    let new = shared_of g.B.Backend.meaning c.round.new.world.gate.state c.round.new.world.tables c.round.new.world.count c.round.new.world.shelf.items in
    spoke_round c.args.setting.tables.now c.args.setting.moment c.args.setting.config.now.nodes (policy_in c.args.setting.config.now) layout (board_of (policy_in c.args.setting.config.now) layout old c.args.seats.now.slots.items c.args.book.now) mid new
    c.rounds.book.journal c.round.new.book.journal c.rounds.book.lines c.round.new.book.lines c.rounds.seats.slots.items c.as_mut_slice.result.now c.round.new.slots
    (take c.rounds.seats.slots.len (c.round.new.slots ++ drop (length c.round.new.slots) c.rounds.seats.slots.items)) c.as_mut_slice.ensures.value
    (whole_again c.rounds.seats.slots.len c.round.new.slots (drop (length c.round.new.slots) c.rounds.seats.slots.items) (omega (arith, c.as_mut_slice.ensures.len, c.round.ensures.slots)))
    (c.rounds.invariant.speaks layout is) (c.in_ok-round.ensures.speaks layout is)

pub returns-then-book-before-clause-still : goal.returns-then-book-before-clause-still
returns-then-book-before-clause-still g c = λ layout is.
    subst (λ (z : List Slot). AreStill (shared_of g.B.Backend.meaning c.round.new.world.gate.state c.round.new.world.tables c.round.new.world.count c.round.new.world.shelf.items) layout z)
    (sym (whole_again c.rounds.seats.slots.len c.round.new.slots (drop (length c.round.new.slots) c.rounds.seats.slots.items) (omega (arith, c.as_mut_slice.ensures.len, c.round.ensures.slots))))
    (c.in_ok-round.ensures.still layout is (omega (arith, c.if-book-before.true)))
