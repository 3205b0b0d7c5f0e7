use Rattle.std.proofs.Common.{refl}
use Rattle.session_links.proofs.SameCode.{same_code}
use Rattle.session_links.proofs.verdict.too_many_connections.Goals as goal

pub returns : goal.returns
returns c = same_code _ _ refl
