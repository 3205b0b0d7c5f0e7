use Rattle.one_copy_laws.proofs.PostsSchedules.{schedules_meet}
use Rattle.one_copy_laws.proofs.awaited.posts_meet_their_conditions.Goals as goal

pub returns : goal.returns
returns c = schedules_meet
