use Rattle.std.proofs.Common.{Bool, subst, sym}
use Rattle.backend_trait.proofs.Telling.{Tells, never}
use Rattle.one_copy_model.specs.World.{GateGives}
use Rattle.world_program.proofs.GateLemmas.{given_told}
use Rattle.world_program.proofs.gates.gate_gives.Goals as goal

pub answers-requires : goal.answers-requires
answers-requires c = c.may_call.ensures.0 c.if-not-may_call.false

pub returns-then-not-may_call : goal.returns-then-not-may_call
returns-then-not-may_call c = never _ (λ h. let yes = c.may_call.ensures.1 h.0 in let no = c.if-not-may_call.true in cc)

pub returns : goal.returns
returns c =
    subst (λ (t : Bool). Tells t (GateGives c.args.gate.now.state c.args.call c.args.answer)) (sym c.answers.ensures)
    (given_told c.args.gate.now.state c.args.call c.args.answer (c.may_call.ensures.0 c.if-not-may_call.false))
