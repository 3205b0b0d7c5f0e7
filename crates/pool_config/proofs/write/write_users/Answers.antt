use Rattle.std.proofs.Common.{◌≡◌, ◌+◌, ◌-◌, length, take, drop, arith}
use Rattle.pool_config.proofs.UserTexts.{one_more_user, user_first, users_length}
use Rattle.pool_config.proofs.write.write_users.Goals as goal

pub loop-left-preserved : goal.loop-left-preserved
loop-left-preserved c =
    let tail : length (take (length c.loop-left.left.now - 1) (drop 1 c.loop-left.left.now)) + 1 ≡ length c.loop-left.left.now = users_length c.loop-left.left.now (omega arith) in
    record {
      all = one_more_user _ _ _ c.loop-left.number c.loop-left.left.now c.user-item.result _ (user_first c.loop-left.left.now c.user-item.result (omega arith) c.user-item.is) c.in_ok-write_user.ensures c.loop-left.invariant.all;
      few = omega arith;
    }
