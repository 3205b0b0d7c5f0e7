use Rattle.std.proofs.Common.{◌≡◌, List, take, ap, sym, ◌∙◌, subst}
use Rattle.std.specs.Prelude.{IfOk}
use Rattle.std.proofs.lemmas.List.Elements.{All-take}
use Rattle.sql_eval.specs.declared.effect.Change.{Change}
use Rattle.backend_trait.specs.Typed.{AreAllStored}
use Rattle.backend_trait.specs.Effect.{changes_of, effect_of}
use Rattle.backend_trait.specs.Rows.{Rows, laid_over}
use Rattle.backend_trait.specs.Store.{next_for}
use Rattle.outcomes.specs.Given.{given_in}
use Rattle.outcomes.specs.Log.{rows_of}
use Rattle.outcomes.specs.Next.{next_of}
use Rattle.outcomes.specs.Stored.{AreStored, IsSetStored}
use Rattle.outcomes.proofs.StoredRows.{laid_stored, log_stored}
use Rattle.model_store.proofs.IndexLaws.{base_in_index}
use Rattle.model_store.proofs.KeptLaws.{seen_given}
use Rattle.model_store.proofs.waiting.outcome_in.Goals as goal

pub outcome_at-requires-clause-stored : goal.outcome_at-requires-clause-stored
outcome_at-requires-clause-stored c =
    let tables = c.args.catalogue.now in
    let log = take c.args.work.now.mark c.args.log.now in
    subst (λ (rows : Rows). AreAllStored tables (laid_over (changes_of c.as_slice-own.result.now) rows))
    (sym (base_in_index c.args.index.now c.args.log.now c.args.work.now.mark c.requires.indexed c.requires.whole))
    (laid_stored tables (rows_of log) (changes_of c.as_slice-own.result.now)
    (log_stored tables log (All-take (IsSetStored tables) c.args.work.now.mark c.args.log.now c.requires.committed))
    (subst (λ (cs : List Change). AreStored tables cs) (sym c.as_slice-own.ensures.value) c.requires.stored))

pub outcome_at-requires-clause-positive : goal.outcome_at-requires-clause-positive
outcome_at-requires-clause-positive c = c.next_for-next.ensures.positive

pub returns : goal.returns
returns c =
    seen_given (next_of c.args.numbers.now) c.args.catalogue.now c.args.statement.now c.args.log.now c.args.work.now c.as_slice-own.result.now c.next_for-next.result c.outcome_at.result c.as_slice-own.ensures.value
    (c.next_for-next.ensures.next ∙ ap (next_for (next_of c.args.numbers.now)) c.table_in.ensures)
    (subst (λ (rows : Rows). IfOk c.outcome_at.result (λ outcome. given_in outcome ≡ (effect_of c.args.catalogue.now c.args.statement.now (laid_over (changes_of c.as_slice-own.result.now) rows) c.next_for-next.result).given))
    (base_in_index c.args.index.now c.args.log.now c.args.work.now.mark c.requires.indexed c.requires.whole) c.outcome_at.ensures)
