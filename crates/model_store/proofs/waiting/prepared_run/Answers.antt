use Rattle.std.proofs.Common.{ap, sym, ◌∙◌, subst}
use Rattle.backend_trait.specs.Store.{Alive}
use Rattle.model_store.specs.declared.phase.Phase.{Phase}
use Rattle.model_store.specs.Phases.{is_open, mark_of, transaction_of}
use Rattle.model_store.specs.Stored.{AreStoredIn}
use Rattle.model_store.proofs.AskLaws.{may_run_there}
use Rattle.model_store.proofs.KeptLaws.{given_by_run}
use Rattle.outcomes.specs.Next.{next_of}
use Rattle.model_store.proofs.waiting.prepared_run.Goals as goal

pub prepared-requires-clause-runnable : goal.prepared-requires-clause-runnable
prepared-requires-clause-runnable c = may_run_there c.args.catalogue.now c.args.phase.now _ c.args.statement.now c.in-Open.is c.requires.may

pub prepared-requires-clause-stored : goal.prepared-requires-clause-stored
prepared-requires-clause-stored c = subst (λ (p : Phase). AreStoredIn c.args.catalogue.now p) c.in-Open.is c.requires.stored

pub returns-clause-transaction : goal.returns-clause-transaction
returns-clause-transaction c = λ log. ap Alive (c.prepared.ensures.live log) ∙ sym (ap (transaction_of log) c.in-Open.is)

pub returns-clause-mark : goal.returns-clause-mark
returns-clause-mark c = c.prepared.ensures.mark ∙ sym (ap mark_of c.in-Open.is)

pub returns-clause-was_live : goal.returns-clause-was_live
returns-clause-was_live c = ap is_open c.in-Open.is

pub returns-clause-given : goal.returns-clause-given
returns-clause-given c =
    given_by_run (next_of c.args.numbers.now) c.args.catalogue.now c.args.log.now c.args.statement.now c.args.phase.now _ c.prepared.new.work c.prepared.result c.in-Open.is
    c.requires.may (c.prepared.ensures.live c.args.log.now) c.prepared.ensures.given

pub returns-clause-room : goal.returns-clause-room
returns-clause-room c = c.prepared.ensures.room
