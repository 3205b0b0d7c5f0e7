use Rattle.std.proofs.Common.{Bool, subst, sym}
use Rattle.snapshot_gate.specs.Function.{MayCall}
use Rattle.backend_trait.proofs.Telling.{Tells}
use Rattle.world_program.proofs.GateLemmas.{call_told}
use Rattle.world_program.proofs.gates.may_call.Goals as goal

pub returns : goal.returns
returns c = subst (λ (t : Bool). Tells t (MayCall c.args.state c.args.call)) (sym c.meets.ensures) (call_told c.args.state c.args.call)
