use Rattle.online_recovery.proofs.Keeping.{always_meet, always_told}
use Rattle.online_recovery.proofs.Naming.{always_named}
use Rattle.online_recovery.proofs.laws.attaches_under_quiet.Goals as goal

pub returns : goal.returns
returns c = record { calls = always_meet; replies = always_told; named = always_named }
