use Rattle.std.proofs.Common.{ap, ◌∙◌}
use Rattle.session_machine.specs.Rules.{next_action}
use Rattle.session_engine.specs.Cores.{machine_in}
use Rattle.session_machine.specs.declared.machine.Machine.{Machine}
use Rattle.session_engine.specs.Tidying.{tidied}
use Rattle.world_program.proofs.Sessions.{reply_asked, reply_given}
use Rattle.world_program.proofs.session.replied.Goals as goal

pub reply-given-requires : goal.reply-given-requires
reply-given-requires c = reply_asked (next_action (machine_in c.args.core.now)) c.args.outcome.now c.args.status c.requires

pub returns : goal.returns
returns c =
    let m = machine_in c.args.core.now in
    ap (λ (n : Machine). tidied n) c.reply-given.ensures.rest ∙ reply_given m.session m.point c.args.outcome.now c.args.status c.requires
