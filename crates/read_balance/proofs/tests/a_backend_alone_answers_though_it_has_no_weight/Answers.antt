use Rattle.std.proofs.Common.{arith}
use Rattle.read_balance.proofs.SmallSets.{members_small}
use Rattle.read_balance.proofs.tests.a_backend_alone_answers_though_it_has_no_weight.Goals as goal

pub pick-requires-clause-weighed : goal.pick-requires-clause-weighed
pick-requires-clause-weighed g c = λ b small is. members_small 2 b (omega arith) small is

pub pick-requires-2-clause-weighed : goal.pick-requires-2-clause-weighed
pick-requires-2-clause-weighed g c = λ b small is. members_small 2 b (omega arith) small is
