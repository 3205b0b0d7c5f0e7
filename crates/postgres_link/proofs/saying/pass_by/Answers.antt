use Rattle.std.proofs.Common.{sym}
use Rattle.postgres_link.proofs.Steps.{refused_by}
use Rattle.postgres_link.proofs.saying.pass_by.Goals as goal

pub returns-in-Error : goal.returns-in-Error
returns-in-Error c = rw c.in-Error.is (rw (sym c.as_slice.ensures) (refused_by c.as_slice.result.now c.refuse.result c.args.asked.now c.refuse.new.asked c.requires c.refuse.ensures))
