use Rattle.std.proofs.Common.{refl, inr, rules, subst, w64, SFits}
use Rattle.std.specs.Prelude.{ℤ}
use Rattle.std.proofs.lemmas.Int.{to_z-of_z}
use Rattle.session_engine.specs.Cores.{machine_in}
use Rattle.pool_server.specs.Places.{at_moment}
use Rattle.pool_server.specs.Servings.{IsGiven}
use Rattle.pool_server.proofs.Talking.{taken_by}
use Rattle.pool_server.proofs.talk.take.Goals as goal

pub returns-in-Ok-clause-taken : goal.returns-in-Ok-clause-taken
returns-in-Ok-clause-taken c =
    let fits : SFits w64 c.args.order.moment = search rules in
    taken_by c.args.order c.in-Ok.body c.behind-behind.result c.give.result (machine_in c.args.core.now) (machine_in c.give.new.core) c.in-Ok.ensures c.behind-behind.ensures.passing
    (subst (λ (z : ℤ). IsGiven (at_moment z c.in-Ok.body) (machine_in c.args.core.now) c.behind-behind.result c.give.result (machine_in c.give.new.core)) (to_z-of_z w64 c.args.order.moment fits) c.give.ensures.given)

pub returns-in-Err-clause-taken : goal.returns-in-Err-clause-taken
returns-in-Err-clause-taken c = inr (inr (refl, refl))
