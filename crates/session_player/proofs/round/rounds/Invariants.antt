use Rattle.std.proofs.Common.{◌≡◌, ◌-◌, length}
use Rattle.online_recovery.specs.declared.layout.Layout.{Layout}
use Rattle.session_seat.specs.Policy.{policy_in}
use Rattle.session_seat.specs.Shared.{shared_of}
use Rattle.recovery_seat.specs.Places.{IsLayout}
use Rattle.session_player.specs.Speaking.{Spoke, board_of}
use Rattle.session_player.proofs.round.rounds.Given as goal

abbrev pub invariant-rounds : goal.invariant-rounds
invariant-rounds g l = record {
  speaks : (layout : Layout) → IsLayout l.setting.config.now l.setting.tables.now layout → Spoke l.setting.tables.now l.setting.moment l.setting.config.now.nodes (board_of (policy_in l.setting.config.now) layout (shared_of g.B.Backend.meaning l.fn.world.gate.state l.fn.world.tables l.fn.world.count l.fn.world.shelf.items) l.fn.seats.slots.items l.fn.book) (board_of (policy_in l.setting.config.now) layout (shared_of g.B.Backend.meaning l.world.gate.state l.world.tables l.world.count l.world.shelf.items) l.seats.slots.items l.book);
  tables : l.world.tables ≡ l.fn.world.tables;
  count : l.world.count ≡ l.fn.world.count;
  boxes : length l.world.shelf.items ≡ length l.fn.world.shelf.items;
}

abbrev pub decreases-rounds : goal.decreases-rounds
decreases-rounds g l = 18446744073709551616 - l.book.events
