use Rattle.one_copy_laws.proofs.PostsMeeting.{posts_met}
use Rattle.one_copy_laws.proofs.awaited.due_posts_meet.Goals as goal

pub returns : goal.returns
returns c = posts_met
