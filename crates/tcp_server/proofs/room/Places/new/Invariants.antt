use Rattle.std.proofs.Common.{◌≡◌, length}
use Rattle.tcp_server.specs.Rooms.{AreThere}
use Rattle.tcp_server.proofs.room.Places.new.Given as goal

abbrev pub invariant-loop-made : goal.invariant-loop-made
invariant-loop-made g l = record {
  gate : l.pass.gate ≡ g.G.AtGate.gate;
  each : length l.passes.items ≡ l.made;
  there : AreThere l.passes.items;
}
