use Rattle.std.proofs.Common.{◌≤◌, length, refl, ◌∙◌, arith}
use Rattle.session_seat.specs.Policy.{policy_in}
use Rattle.session_seat.specs.Shared.{shared_of}
use Rattle.session_player.specs.Speaking.{board_of}
use Rattle.session_player.proofs.Speaking.{spoke_none, spoke_on}
use Rattle.session_player.proofs.Stilling.{still_on, still_past}
use Rattle.session_player.proofs.round.round.Goals as goal

pub loop-at-init : goal.loop-at-init
loop-at-init g c =
    let old = shared_of g.B.Backend.meaning c.args.world.now.gate.state c.args.world.now.tables c.args.world.now.count c.args.world.now.shelf.items in
    record {
      placed = c.requires.placed;
      speaks = λ layout is.
          let whole = board_of (policy_in c.args.setting.config.now) layout old c.args.slots.now c.args.book.now in
          spoke_none c.args.setting.tables.now c.args.setting.moment c.args.setting.config.now.nodes whole whole refl;
      events = omega arith;
      still = λ layout is none j below. absurd (omega (arith, below));
      slots = refl;
      tables = refl;
      count = refl;
      boxes = refl;
    }

pub loop-at-preserved : goal.loop-at-preserved
loop-at-preserved g c =
    let policy = policy_in c.args.setting.config.now in
    let old = shared_of g.B.Backend.meaning c.args.world.now.gate.state c.args.world.now.tables c.args.world.now.count c.args.world.now.shelf.items in
    let mid = shared_of g.B.Backend.meaning c.loop-at.world.gate.state c.loop-at.world.tables c.loop-at.world.count c.loop-at.world.shelf.items in
    let new = shared_of g.B.Backend.meaning c.turn_at.new.world.gate.state c.turn_at.new.world.tables c.turn_at.new.world.count c.turn_at.new.world.shelf.items in
    record {
      placed = c.turn_at.ensures.placed;
      speaks = λ layout is.
          spoke_on c.args.setting.tables.now c.args.setting.moment c.args.setting.config.now.nodes (board_of policy layout old c.args.slots.now c.args.book.now) (board_of policy layout mid c.loop-at.slots c.loop-at.book)
          (board_of policy layout new c.turn_at.new.slots c.turn_at.new.book) (c.loop-at.invariant.speaks layout is) (c.in_ok-turn_at.ensures.speaks layout is);
      events = (let a : c.args.book.now.events ≤ c.loop-at.book.events = c.loop-at.invariant.events in let b : c.loop-at.book.events ≤ c.turn_at.new.book.events = c.turn_at.ensures.events in omega arith);
      still = λ layout is none.
          let a : c.args.book.now.events ≤ c.loop-at.book.events = c.loop-at.invariant.events in
          let b : c.loop-at.book.events ≤ c.turn_at.new.book.events = c.turn_at.ensures.events in
          still_on mid new layout c.loop-at.slots c.turn_at.new.slots c.loop-at.at (c.in_ok-turn_at.ensures.unmoved (omega (arith, a, none))) c.turn_at.ensures.others
          (c.loop-at.invariant.still layout is (omega (arith, b, none))) (c.in_ok-turn_at.ensures.still layout is);
      slots = c.turn_at.ensures.slots ∙ c.loop-at.invariant.slots;
      tables = c.turn_at.ensures.tables ∙ c.loop-at.invariant.tables;
      count = c.turn_at.ensures.count ∙ c.loop-at.invariant.count;
      boxes = c.turn_at.ensures.boxes ∙ c.loop-at.invariant.boxes;
    }

pub returns-clause-still : goal.returns-clause-still
returns-clause-still g c = λ layout is none.
    let past : length c.loop-at.slots ≤ c.loop-at.at = omega (arith, c.loop-at.invariant.slots, c.loop-at-test.false) in
    still_past (shared_of g.B.Backend.meaning c.loop-at.world.gate.state c.loop-at.world.tables c.loop-at.world.count c.loop-at.world.shelf.items) layout c.loop-at.slots c.loop-at.at past (c.loop-at.invariant.still layout is none)
