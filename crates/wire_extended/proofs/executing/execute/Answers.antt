use Rattle.std.proofs.Common.{ℤ, eqb, subst, w32}
use Rattle.std.proofs.lemmas.Int.{to_z-of_z}
use Rattle.wire_session.specs.Kept.{portal_of}
use Rattle.wire_extended.specs.Executing.{Looks}
use Rattle.wire_extended.proofs.Running.{executes_so}
use Rattle.wire_extended.proofs.executing.execute.Goals as goal

pub returns-in_ok-looked-in-Some-clause-tells : goal.returns-in_ok-looked-in-Some-clause-tells
returns-in_ok-looked-in-Some-clause-tells c = executes_so (eqb c.args.session.now.status 69) c.args.session.now.implicit c.args.limit c.in-Some.portal.now
    (portal_of c.args.name.now c.args.session.now.portals) c.in_ok-looked-in-Some.looked c.ran.result c.in-Some.ensures
    (subst (λ (limit : ℤ). Looks (eqb c.args.session.now.status 69) c.args.session.now.implicit limit c.in-Some.portal.now c.in_ok-looked-in-Some.looked) (to_z-of_z w32 c.args.limit c.ranges.limit)
    c.in_ok-looked-in-Some.ensures) c.ran.ensures.some c.ran.ensures.bound
