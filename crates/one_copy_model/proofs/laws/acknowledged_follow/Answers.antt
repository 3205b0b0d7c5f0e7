use Rattle.one_copy_model.proofs.FollowingLaws.{acknowledged}
use Rattle.one_copy_model.proofs.laws.acknowledged_follow.Goals as goal

pub returns : goal.returns
returns c = acknowledged
