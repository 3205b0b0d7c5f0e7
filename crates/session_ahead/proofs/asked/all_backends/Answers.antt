use Rattle.std.proofs.Common.{refl}
use Rattle.session_machine.proofs.Backends.{backends_are}
use Rattle.session_ahead.proofs.asked.all_backends.Goals as goal

pub returns : goal.returns
returns c = backends_are _ _ _ _ _ _ _ _ refl refl refl refl refl refl refl refl
