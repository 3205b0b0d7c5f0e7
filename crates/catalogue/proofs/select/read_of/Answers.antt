use Rattle.std.proofs.Common.{refl}
use Rattle.catalogue.proofs.select.read_of.Goals as goal

pub returns-in-Ok : goal.returns-in-Ok
returns-in-Ok c = rw (c.in-Ok.ensures, c.as_slice-definitions.ensures, c.as_slice-exprs.ensures, c.is_count.ensures) refl
