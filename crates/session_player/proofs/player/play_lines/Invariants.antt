use Rattle.std.proofs.Common.{◌≡◌, ◌≤◌, List, map, take, drop, length}
use Rattle.std.specs.List.{AllByRecursion}
use Rattle.pgproto.specs.Line.{line_of}
use Rattle.pgproto.specs.Spelling.{IsOfGrammar}
use Rattle.online_recovery.specs.declared.layout.Layout.{Layout}
use Rattle.session_seat.specs.Policy.{policy_in}
use Rattle.session_seat.specs.Shared.{shared_of}
use Rattle.recovery_seat.specs.Places.{IsLayout}
use Rattle.session_player.specs.Written.{AreParts}
use Rattle.session_player.specs.Speaking.{Happening}
use Rattle.session_player.specs.Transcript.{AreTold, scene_of}
use Rattle.session_player.proofs.player.play_lines.Given as goal

abbrev pub invariant-loop-line : goal.invariant-loop-line
invariant-loop-line g l = record {
  grammar : AllByRecursion IsOfGrammar (map line_of (drop l.line-index l.script));
  parts : AreParts (map line_of (take l.line-index l.script)) (g.O.Sink.taken l.fn.out) (g.O.Sink.taken l.out);
  told : (layout : Layout) → IsLayout l.setting.config.now l.setting.tables.now layout → (happenings : List Happening) × AreTold l.setting.tables.now l.setting.config.now.nodes l.setting.config.now.children l.fn.world.count (map line_of (take l.line-index l.script)) (scene_of (policy_in l.setting.config.now) layout (shared_of g.B.Backend.meaning l.fn.world.gate.state l.fn.world.tables l.fn.world.count l.fn.world.shelf.items) l.fn.scene.moment l.fn.scene.seats.slots.items l.fn.scene.book) (g.O.Sink.taken l.fn.out) happenings (scene_of (policy_in l.setting.config.now) layout (shared_of g.B.Backend.meaning l.world.gate.state l.world.tables l.world.count l.world.shelf.items) l.scene.moment l.scene.seats.slots.items l.scene.book) (g.O.Sink.taken l.out);
  tables : l.world.tables ≡ l.fn.world.tables;
  count : l.world.count ≡ l.fn.world.count;
  boxes : length l.world.shelf.items ≡ length l.fn.world.shelf.items;
  later : g.O.Sink.fault_count l.fn.out ≤ g.O.Sink.fault_count l.out;
}
