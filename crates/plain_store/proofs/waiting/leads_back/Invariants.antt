use Rattle.std.proofs.Common.{not, false}
use Rattle.std.specs.List.{count_by}
use Rattle.plain_store.specs.States.{states_of}
use Rattle.plain_store.specs.Deciding.{waits_for}
use Rattle.plain_store.proofs.WaitLaws.{IsWalked}
use Rattle.plain_store.proofs.waiting.leads_back.Given as goal

abbrev pub invariant-walk : goal.invariant-walk
invariant-walk l = IsWalked (waits_for (states_of l.all)) l.at l.found l.followed

abbrev pub decreases-walk : goal.decreases-walk
decreases-walk l = count_by not l.followed
