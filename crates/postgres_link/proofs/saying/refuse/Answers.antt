use Rattle.std.proofs.Common.{refl, sym, ◌∙◌}
use Rattle.postgres_link.proofs.saying.refuse.Goals as goal

pub returns-in-Some : goal.returns-in-Some
returns-in-Some c = (refl, (sym c.is_said.ensures ∙ c.if-is_said.false, c.in-Some.code, c.in-Some.ensures.some, c.in-Some.ensures.spelled, c.in-Some.ensures.long, c.set.ensures))
