use Rattle.std.proofs.Common.{refl}
use Rattle.session_machine.proofs.SameCode.{same_code}
use Rattle.online_recovery.proofs.codes.lost_on_the_way.Goals as goal

pub returns : goal.returns
returns c = same_code _ _ refl
