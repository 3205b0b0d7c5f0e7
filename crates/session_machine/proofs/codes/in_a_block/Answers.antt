use Rattle.std.proofs.Common.{refl}
use Rattle.session_machine.proofs.SameCode.{same_code}
use Rattle.session_machine.proofs.codes.in_a_block.Goals as goal

pub returns : goal.returns
returns c = same_code _ _ refl
