use Rattle.one_copy_model.specs.Numbers.{session_of}
use Rattle.world_program.proofs.Beginning.{same_session}
use Rattle.world_program.proofs.first.session_at.Goals as goal

pub returns : goal.returns
returns c = same_session _ (session_of c.args.n) c.from_one.ensures
