use Rattle.std.proofs.Common.{◌≡◌, take, map}
use Rattle.plain_store.specs.Phases.{changes_in}
use Rattle.plain_store.proofs.copying.sets_copied.Given as goal

abbrev pub invariant-loop-set : goal.invariant-loop-set
invariant-loop-set l = map changes_in l.all.items ≡ map changes_in (take l.set-index l.sets)
