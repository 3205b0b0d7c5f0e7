use Rattle.std.proofs.Common.{◌≡◌, ℕ, length, get_or}
use Rattle.session_player.specs.declared.slots.Slot.TheVariants.{Free}
use Rattle.session_player.specs.Slots.{ArePlaced}
use Rattle.session_player.proofs.slots.free_slots.Given as goal

abbrev pub invariant-loop-number : goal.invariant-loop-number
invariant-loop-number l = record {
  whole : length l.slots.items ≡ l.number;
  placed : ArePlaced 0 l.slots.items;
  free : (i : ℕ) → get_or l.slots.items i Free ≡ Free;
}
