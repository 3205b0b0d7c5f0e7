use Rattle.serve_base.proofs.Printing.{found}
use Rattle.serve_base.proofs.stamp.stamped.Goals as goal

pub returns-in-Some : goal.returns-in-Some
returns-in-Some c = found _ _ c.in-Some.second c.in-Some.is c.in_ok-second.ensures
