use Rattle.std.proofs.Common.{arith}
use Rattle.read_balance.specs.Picking.{weight_of_all}
use Rattle.session_machine.proofs.Turns.{has_one, turn_is}
use Rattle.session_machine.proofs.answers.turn_of.Goals as goal

pub pick-requires-clause-some : goal.pick-requires-clause-some
pick-requires-clause-some c = has_one c.args.attached.bits c.args.primary c.requires.primary

pub pick-requires-clause-weighed : goal.pick-requires-clause-weighed
pick-requires-clause-weighed c = λ b below there. omega arith

pub returns : goal.returns
returns c =
    turn_is c.args.weights.now c.args.attached.bits c.args.ticket (weight_of_all c.args.weights.now c.args.attached.bits) c.args.primary
    c.pick.result c.requires.primary c.pick.ensures.idle c.pick.ensures.turn
