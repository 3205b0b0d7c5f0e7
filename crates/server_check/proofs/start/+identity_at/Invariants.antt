use Rattle.std.proofs.Common.{length}
use Rattle.server_check.proofs.start.+identity_at.Given as goal

abbrev pub decreases-identity_at : goal.decreases-identity_at
decreases-identity_at l = length l.identities.now
