use Rattle.std.proofs.Common.{is_none}
use Rattle.serve_base.specs.Start.{IsAttachedUpTo}
use Rattle.server_check.specs.Start.{out_of}
use Rattle.server_check.proofs.start.attached_by.Given as goal

abbrev pub invariant-loop-number : goal.invariant-loop-number
invariant-loop-number l = IsAttachedUpTo (λ b. is_none (out_of l.findings b)) l.attached.bits l.number
