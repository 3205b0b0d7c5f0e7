use Rattle.std.proofs.Common.{sym, ◌∙◌, subst}
use Rattle.std.specs.Prelude.{Option}
use Rattle.model_store.specs.declared.phase.Waiting.{Waiting}
use Rattle.outcomes.specs.Next.{next_of}
use Rattle.model_store.specs.Phases.{has_room_in, IsGivenAt}
use Rattle.model_store.proofs.grant.grant_at.Goals as goal

pub grant-requires-clause-roomy : goal.grant-requires-clause-roomy
grant-requires-clause-roomy c = subst (λ (w : Option Waiting). has_room_in c.args.seat.now.phase w) (sym c.replace.ensures.value ∙ c.in-Some.is) c.args.seat.now.roomy

pub grant-requires-clause-gives : goal.grant-requires-clause-gives
grant-requires-clause-gives c = c.requires.gives c.in-Some.waiting (sym c.replace.ensures.value ∙ c.in-Some.is)

pub grant-requires-clause-given : goal.grant-requires-clause-given
grant-requires-clause-given c =
    subst (λ (w : Option Waiting). IsGivenAt (next_of c.args.numbers.now) c.args.catalogue.now c.args.log.now.items c.args.seat.now.phase w)
    (sym c.replace.ensures.value ∙ c.in-Some.is) c.requires.given
