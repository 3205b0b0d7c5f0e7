use Rattle.std.proofs.Common.{◌≡◌, replicate}
use Rattle.session_links.specs.declared.slot.Slot.TheVariants.{Empty}
use Rattle.session_links.proofs.links.Links.new.Given as goal

abbrev pub invariant-loop-made : goal.invariant-loop-made
invariant-loop-made g l = l.slots.items ≡ replicate l.made Empty
