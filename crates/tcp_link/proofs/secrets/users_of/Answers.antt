use Rattle.std.proofs.Common.{arith}
use Rattle.pool_config.proofs.UserTexts.{user_first}
use Rattle.tcp_link.proofs.Named.{goes_on, ends_so, none_left}
use Rattle.tcp_link.proofs.secrets.users_of.Goals as goal

pub loop-left-preserved : goal.loop-left-preserved
loop-left-preserved c =
    goes_on c.args.said.now c.loop-left.left.now _ c.user-item.result _ _ c.loop-left.invariant
    (user_first c.loop-left.left.now c.user-item.result (omega arith) c.user-item.is) c.in_ok-add_user.ensures

pub returns : goal.returns
returns c =
    let few = c.in_default.len_below in
    ends_so c.args.said.now c.loop-left.left.now c.loop-left.users c.loop-left.invariant (none_left c.loop-left.left.now (omega (arith, few)))
