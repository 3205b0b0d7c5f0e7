use Rattle.std.proofs.Common.{◌≡◌, option_map, length}
use Rattle.login.specs.Candidates.{names_in}
use Rattle.login.proofs.Names.{with_found}
use Rattle.login.proofs.reception.name_in.Given as goal

-- the name that was found, and those in what is left
abbrev pub invariant-loop-left : goal.invariant-loop-left
invariant-loop-left l = with_found (option_map (λ name. name.now) l.found) (names_in l.left) ≡ names_in l.options

abbrev pub decreases-loop-left : goal.decreases-loop-left
decreases-loop-left l = length l.left
