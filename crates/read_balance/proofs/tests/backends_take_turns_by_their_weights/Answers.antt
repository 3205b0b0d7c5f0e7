use Rattle.std.proofs.Common.{arith}
use Rattle.read_balance.proofs.SmallSets.{members_small}
use Rattle.read_balance.proofs.tests.backends_take_turns_by_their_weights.Goals as goal

pub pick-requires-clause-weighed : goal.pick-requires-clause-weighed
pick-requires-clause-weighed g c = λ b small is. members_small 7 b (omega arith) small is

pub pick-requires-2-clause-weighed : goal.pick-requires-2-clause-weighed
pick-requires-2-clause-weighed g c = λ b small is. members_small 7 b (omega arith) small is

pub pick-requires-3-clause-weighed : goal.pick-requires-3-clause-weighed
pick-requires-3-clause-weighed g c = λ b small is. members_small 7 b (omega arith) small is

pub pick-requires-4-clause-weighed : goal.pick-requires-4-clause-weighed
pick-requires-4-clause-weighed g c = λ b small is. members_small 7 b (omega arith) small is
