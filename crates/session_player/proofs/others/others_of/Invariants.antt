use Rattle.std.proofs.Common.{◌≡◌, ℕ, ◌<◌, get_or}
use Rattle.session_player.specs.declared.slots.Slot.TheVariants.{Free}
use Rattle.session_player.specs.Others.{IsAmong}
use Rattle.session_player.proofs.others.others_of.Given as goal

abbrev pub invariant-loop-index : goal.invariant-loop-index
invariant-loop-index l = (j : ℕ) → j < l.index → ¬ (j ≡ l.at) → IsAmong l.set.bits (get_or l.slots j Free)
