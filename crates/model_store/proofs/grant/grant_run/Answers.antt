use Rattle.std.proofs.Common.{◌≡◌, true, false, ap, sym, ◌∙◌, subst}
use Rattle.backend_trait.specs.Store.{given_to}
use Rattle.outcomes.specs.Given.{given_in}
use Rattle.outcomes.specs.declared.outcome.Outcome.{Outcome}
use Rattle.model_store.specs.Phases.{answer_of, has_room_for, is_result, live_of}
use Rattle.model_store.proofs.grant.grant_run.Goals as goal

pub take_changes-requires-clause-changes : goal.take_changes-requires-clause-changes
take_changes-requires-clause-changes c = let here = subst (λ (o : Outcome). has_room_for c.args.work.now o) c.in-Gives.is c.requires.roomy in here.0

pub take_changes-requires-clause-places : goal.take_changes-requires-clause-places
take_changes-requires-clause-places c = let here = subst (λ (o : Outcome). has_room_for c.args.work.now o) c.in-Gives.is c.requires.roomy in here.1

pub returns-clause-live : goal.returns-clause-live
returns-clause-live c = λ log.
    c.take_changes.ensures.live log ∙ sym (ap (λ (o : Outcome). given_to (given_in o) (live_of log c.args.work.now)) c.in-Gives.is)

pub returns-clause-answer : goal.returns-clause-answer
returns-clause-answer c = sym (ap answer_of c.in-Gives.is)

pub unreachable-requires : goal.unreachable-requires
unreachable-requires c = absurd (let f : false ≡ true = sym (ap is_result c.in-Fails.is) ∙ c.requires.gives in cc)
