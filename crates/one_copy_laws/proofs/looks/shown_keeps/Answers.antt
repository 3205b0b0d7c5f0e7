use Rattle.one_copy_laws.proofs.LooksShowing.{shown_kept}
use Rattle.one_copy_laws.proofs.looks.shown_keeps.Goals as goal

pub returns : goal.returns
returns c = shown_kept
