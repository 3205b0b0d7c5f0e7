use Rattle.session_machine.specs.Rules.{next_action}
use Rattle.session_engine.specs.Cores.{machine_in}
use Rattle.world_program.proofs.Sessions.{post_asked}
use Rattle.world_program.proofs.session.posted.Goals as goal

pub posted-requires : goal.posted-requires
posted-requires c = post_asked (next_action (machine_in c.args.core.now)) c.args.b c.args.request.now c.requires

pub returns : goal.returns
returns c = c.posted.ensures c.args.b c.args.request.now
