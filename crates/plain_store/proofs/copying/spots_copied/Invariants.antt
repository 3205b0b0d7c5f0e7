use Rattle.std.proofs.Common.{◌≡◌, take}
use Rattle.plain_store.proofs.copying.spots_copied.Given as goal

abbrev pub invariant-loop-spot : goal.invariant-loop-spot
invariant-loop-spot l = l.all.items ≡ take l.spot-index l.spots
