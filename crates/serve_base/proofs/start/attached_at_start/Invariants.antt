use Rattle.std.proofs.Common.{option_map}
use Rattle.serve_base.specs.Start.{IsAttachedUpTo, is_attached_at}
use Rattle.serve_base.proofs.start.attached_at_start.Given as goal

abbrev pub invariant-loop-number : goal.invariant-loop-number
invariant-loop-number l = IsAttachedUpTo (is_attached_at (option_map (λ f. f.now) l.file) l.nodes) l.attached.bits l.number
