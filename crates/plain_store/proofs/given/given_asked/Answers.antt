use Rattle.std.proofs.Common.{◌≡◌, subst, sym}
use Rattle.std.specs.Prelude.{Option, Some, IfOk, option_map}
use Rattle.backend_trait.specs.declared.request.Request.{Request}
use Rattle.outcomes.specs.declared.outcome.Outcome.{Outcome}
use Rattle.outcomes.specs.Given.{given_in}
use Rattle.plain_store.specs.Phases.{transaction_of}
use Rattle.plain_store.specs.Meaning.{store_of}
use Rattle.plain_store.specs.Giving.{given_by}
use Rattle.plain_store.specs.Kept.{IsKept}
use Rattle.plain_store.proofs.given.given_asked.Goals as goal

pub given_run-requires-clause-runnable : goal.given_run-requires-clause-runnable
given_run-requires-clause-runnable c = subst (λ (r : Request). IsKept c.args.store.now.catalogue (Some r)) c.in-Run.is c.requires.kept

pub returns-in-Run : goal.returns-in-Run
returns-in-Run c =
    subst (λ (r : Request). IfOk c.given_run.result (λ (g : Option Outcome). option_map given_in g ≡ given_by (store_of c.args.store.now) (transaction_of c.args.phase.now) (Some r))) (sym c.in-Run.is)
    c.given_run.ensures
