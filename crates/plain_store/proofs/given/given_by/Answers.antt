use Rattle.std.proofs.Common.{◌≡◌, subst, sym}
use Rattle.std.specs.Prelude.{Option, IfOk, option_map}
use Rattle.backend_trait.specs.declared.request.Request.{Request}
use Rattle.outcomes.specs.declared.outcome.Outcome.{Outcome}
use Rattle.outcomes.specs.Given.{given_in}
use Rattle.plain_store.specs.Phases.{transaction_of}
use Rattle.plain_store.specs.Meaning.{store_of}
use Rattle.plain_store.specs.Giving.{given_by}
use Rattle.plain_store.specs.Kept.{IsKept}
use Rattle.plain_store.proofs.given.given_by.Goals as goal

pub given_asked-requires-clause-kept : goal.given_asked-requires-clause-kept
given_asked-requires-clause-kept c = subst (IsKept c.args.store.now.catalogue) c.in-Some.is c.requires.kept

pub returns-in-Some : goal.returns-in-Some
returns-in-Some c =
    subst (λ (waits : Option Request). IfOk c.given_asked.result (λ (g : Option Outcome). option_map given_in g ≡ given_by (store_of c.args.store.now) (transaction_of c.args.phase.now) waits)) (sym c.in-Some.is)
    c.given_asked.ensures
