use Rattle.std.proofs.Common.{sym, ap, ◌∙◌, subst}
use Rattle.session_machine.specs.Allowed.{MayHappen}
use Rattle.session_engine.specs.Cores.{machine_in}
use Rattle.session_machine.specs.declared.action.Action.{Action}
use Rattle.session_machine.specs.Rules.{after}
use Rattle.session_engine.specs.Handing.{gate_event}
use Rattle.world_program.proofs.session.detached.Goals as goal

pub gate_answer-requires : goal.gate_answer-requires
gate_answer-requires c =
    let m = machine_in c.args.core.now in
    subst (λ (a : Action). MayHappen m (gate_event a c.args.answer)) (sym c.requires.0) c.requires

pub returns : goal.returns
returns c =
    let m = machine_in c.args.core.now in
    c.gate_answer.ensures ∙ ap (λ (a : Action). after m (gate_event a c.args.answer)) c.requires.0
