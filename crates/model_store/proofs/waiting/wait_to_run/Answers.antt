use Rattle.model_store.specs.Phases.{run_of}
use Rattle.model_store.proofs.AskLaws.{given_moved, open_fits}
use Rattle.outcomes.specs.Next.{next_of}
use Rattle.model_store.proofs.waiting.wait_to_run.Goals as goal

pub accept-requires-clause-fitting : goal.accept-requires-clause-fitting
accept-requires-clause-fitting c = open_fits c.prepared_run.new.phase _ c.prepared_run.ensures.live

pub returns-in-Ok-clause-given : goal.returns-in-Ok-clause-given
returns-in-Ok-clause-given c =
    given_moved (next_of c.args.numbers.now) c.args.catalogue.now c.args.log.now c.prepared_run.new.phase c.accept.new.seat.phase (run_of c.args.statement c.in-Ok.outcome) c.accept.new.seat.waiting c.accept.ensures.phase
    c.accept.ensures.waiting c.in-Ok.ensures.given
