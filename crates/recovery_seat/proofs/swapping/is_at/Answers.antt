use Rattle.session_machine.specs.Rules.{next_action}
use Rattle.session_engine.specs.Cores.{machine_in}
use Rattle.recovery_seat.proofs.ArmLemmas.{elsewhere, nowhere}
use Rattle.recovery_seat.proofs.swapping.is_at.Goals as goal

pub returns-in-Some : goal.returns-in-Some
returns-in-Some c = λ apart. elsewhere (next_action (machine_in c.args.core.now)) c.backend_of.result c.in-Some.other c.args.b c.in-Some.is apart (c.backend_of.ensures c.args.b)

pub returns-in-None : goal.returns-in-None
returns-in-None c = λ same. nowhere (next_action (machine_in c.args.core.now)) c.backend_of.result c.args.b c.in-None.is (c.backend_of.ensures c.args.b)
