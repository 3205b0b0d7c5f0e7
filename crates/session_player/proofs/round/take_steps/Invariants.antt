use Rattle.std.proofs.Common.{◌≡◌, ◌≤◌, ◌-◌, length}
use Rattle.std.specs.Prelude.{Some}
use Rattle.session_engine.specs.Cores.{machine_in}
use Rattle.online_recovery.specs.declared.layout.Layout.{Layout}
use Rattle.session_seat.specs.Shared.{shared_of}
use Rattle.recovery_seat.specs.Places.{IsLayout, standing_of}
use Rattle.recovery_seat.specs.Steps.{at}
use Rattle.session_player.specs.Speaking.{SpokeAlone, hearer_of, spot}
use Rattle.session_player.proofs.round.take_steps.Given as goal

abbrev pub invariant-steps : goal.invariant-steps
invariant-steps g l = record {
  speaks : (layout : Layout) → IsLayout l.setting.config.now l.setting.tables.now layout → SpokeAlone l.setting.tables.now l.setting.moment l.setting.config.now.nodes l.fn.place.seat.s l.others.bits (spot (at (shared_of g.B.Backend.meaning l.fn.world.gate.state l.fn.world.tables l.fn.world.count l.fn.world.shelf.items) (machine_in l.fn.place.seat.core) (standing_of layout l.fn.place) l.fn.book.journal) (Some (hearer_of l.fn.place.seat)) l.fn.book.lines) (spot (at (shared_of g.B.Backend.meaning l.world.gate.state l.world.tables l.world.count l.world.shelf.items) (machine_in l.place.seat.core) (standing_of layout l.place) l.book.journal) (Some (hearer_of l.place.seat)) l.book.lines);
  events : l.fn.book.events ≤ l.book.events;
  unmoved : l.book.events ≤ l.fn.book.events → shared_of g.B.Backend.meaning l.world.gate.state l.world.tables l.world.count l.world.shelf.items ≡ shared_of g.B.Backend.meaning l.fn.world.gate.state l.fn.world.tables l.fn.world.count l.fn.world.shelf.items;
  same : l.place.seat.s ≡ l.fn.place.seat.s;
  turn : l.place.seat.turn ≡ l.fn.place.seat.turn;
  tables : l.world.tables ≡ l.fn.world.tables;
  count : l.world.count ≡ l.fn.world.count;
  boxes : length l.world.shelf.items ≡ length l.fn.world.shelf.items;
}

abbrev pub decreases-steps : goal.decreases-steps
decreases-steps g l = 18446744073709551616 - l.book.events
