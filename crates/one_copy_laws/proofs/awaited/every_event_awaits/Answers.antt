use Rattle.one_copy_laws.proofs.PostsKeeping.{event_awaits}
use Rattle.one_copy_laws.proofs.awaited.every_event_awaits.Goals as goal

pub returns : goal.returns
returns c = event_awaits
