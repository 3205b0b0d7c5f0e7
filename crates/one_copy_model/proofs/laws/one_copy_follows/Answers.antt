use Rattle.one_copy_model.proofs.FollowingLaws.{one_copy}
use Rattle.one_copy_model.proofs.laws.one_copy_follows.Goals as goal

pub returns : goal.returns
returns c = one_copy
