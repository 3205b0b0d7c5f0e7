use Rattle.std.proofs.Common.{◌≡◌, length}
use Rattle.login.specs.Candidates.{named}
use Rattle.login.proofs.candidate.user_named.Given as goal

-- the first of those that are left is the first of all
abbrev pub invariant-loop-left : goal.invariant-loop-left
invariant-loop-left l = named l.name l.left ≡ named l.name l.users

abbrev pub decreases-loop-left : goal.decreases-loop-left
decreases-loop-left l = length l.left
