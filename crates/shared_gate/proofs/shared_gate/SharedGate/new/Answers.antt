use Rattle.std.proofs.Common.{rules, ap}
use Rattle.shared_gate.specs.declared.history.Knows.{Knows}
use Rattle.shared_gate.proofs.Turns.{opened, born}
use Rattle.shared_gate.proofs.shared_gate.SharedGate.new.Goals as goal

pub ruled-requires : goal.ruled-requires
ruled-requires g c = (search rules, (search rules, born c.new.result c.new.ensures))

pub swap_as-requires : goal.swap_as-requires
swap_as-requires g c = (search rules, (search rules, (c.in_ok-cell.ensures.0, opened _ _ c.new-2.result c.args.attached c.new-2.ensures (ap (λ (v : Knows). v.fresh) c.in_ok-cell.ensures.1))))
