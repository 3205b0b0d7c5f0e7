use Rattle.std.proofs.Common.{◌≡◌, ◌<◌, ◌≤◌, ℕ}
use Rattle.session_machine.specs.declared.machine.ReadPolicy.{ReadPolicy}
use Rattle.online_recovery.specs.declared.layout.Layout.{Layout}
use Rattle.session_player.specs.Slots.{ArePlaced}
use Rattle.session_player.specs.Journals.{machines_of, standings_of}
use Rattle.session_player.specs.Speaking.{hearers_of}
use Rattle.session_player.specs.Transcript.{input_ended}
use Rattle.session_player.proofs.player.end_each.Given as goal

abbrev pub invariant-loop-slot : goal.invariant-loop-slot
invariant-loop-slot l = record {
  placed : ArePlaced 0 l.slots;
  machines : (policy : ReadPolicy) → machines_of policy l.slots ≡ machines_of policy l.fn.slots;
  done : (n : ℕ) → n ≤ l.slot-index → hearers_of l.slots n ≡ input_ended (hearers_of l.fn.slots n);
  left : (n : ℕ) → l.slot-index < n → hearers_of l.slots n ≡ hearers_of l.fn.slots n;
  standings : (layout : Layout) → standings_of layout l.slots ≡ standings_of layout l.fn.slots;
}
