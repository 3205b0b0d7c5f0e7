use Rattle.std.proofs.Common.{◌≡◌, ◌<◌, ◌≤◌, ℕ, get_or, length}
use Rattle.online_recovery.specs.declared.layout.Layout.{Layout}
use Rattle.session_seat.specs.Policy.{policy_in}
use Rattle.session_seat.specs.Shared.{shared_of}
use Rattle.recovery_seat.specs.Places.{IsLayout}
use Rattle.session_player.specs.Slots.{ArePlaced}
use Rattle.session_player.specs.declared.slots.Slot.TheVariants.{Free}
use Rattle.session_player.specs.Stillness.{IsSlotStill}
use Rattle.session_player.specs.Speaking.{Spoke, board_of}
use Rattle.session_player.proofs.round.round.Given as goal

abbrev pub invariant-loop-at : goal.invariant-loop-at
invariant-loop-at g l = record {
  placed : ArePlaced 0 l.slots;
  speaks : (layout : Layout) → IsLayout l.setting.config.now l.setting.tables.now layout → Spoke l.setting.tables.now l.setting.moment l.setting.config.now.nodes (board_of (policy_in l.setting.config.now) layout (shared_of g.B.Backend.meaning l.fn.world.gate.state l.fn.world.tables l.fn.world.count l.fn.world.shelf.items) l.fn.slots l.fn.book) (board_of (policy_in l.setting.config.now) layout (shared_of g.B.Backend.meaning l.world.gate.state l.world.tables l.world.count l.world.shelf.items) l.slots l.book);
  events : l.fn.book.events ≤ l.book.events;
  still : (layout : Layout) → IsLayout l.setting.config.now l.setting.tables.now layout → l.book.events ≤ l.fn.book.events → (j : ℕ) → j < l.at → IsSlotStill (shared_of g.B.Backend.meaning l.world.gate.state l.world.tables l.world.count l.world.shelf.items) layout (get_or l.slots j Free);
  slots : length l.slots ≡ length l.fn.slots;
  tables : l.world.tables ≡ l.fn.world.tables;
  count : l.world.count ≡ l.fn.world.count;
  boxes : length l.world.shelf.items ≡ length l.fn.world.shelf.items;
}
