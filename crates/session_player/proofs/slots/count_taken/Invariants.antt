use Rattle.std.proofs.Common.{◌≡◌, ◌≤◌}
use Rattle.session_player.specs.Speaking.{hearers_of}
use Rattle.session_player.specs.Transcript.{count_to}
use Rattle.session_player.proofs.slots.count_taken.Given as goal

abbrev pub invariant-loop-slot : goal.invariant-loop-slot
invariant-loop-slot l = record {
  few : l.count ≤ l.slot-index;
  is : l.count ≡ count_to (hearers_of l.slots) l.slot-index;
}
