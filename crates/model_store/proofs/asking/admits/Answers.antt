use Rattle.std.proofs.Common.{rules, refl, ap, sym, ◌∙◌, w64, SFits}
use Rattle.std.proofs.lemmas.Int.{to_z-of_z}
use Rattle.std.specs.Prelude.{is_some}
use Rattle.model_store.proofs.AskLaws.{admits_told, may_set_as}
use Rattle.outcomes.specs.Next.{next_of}
use Rattle.model_store.proofs.asking.admits.Goals as goal

pub returns-in-TakeSnapshot : goal.returns-in-TakeSnapshot
returns-in-TakeSnapshot c = admits_told (next_of c.args.numbers.now) c.args.catalogue.now c.args.phase.now c.args.request.now _ _ c.in-TakeSnapshot.is (λ e. sym c.is_absent.ensures ∙ e, λ h. c.is_absent.ensures ∙ h)

pub returns-in-Run : goal.returns-in-Run
returns-in-Run c = admits_told (next_of c.args.numbers.now) c.args.catalogue.now c.args.phase.now c.args.request.now _ _ c.in-Run.is c.may_run.ensures

pub returns-in-Lock : goal.returns-in-Lock
returns-in-Lock c = admits_told (next_of c.args.numbers.now) c.args.catalogue.now c.args.phase.now c.args.request.now _ _ c.in-Lock.is (λ e. sym c.is_open.ensures ∙ e, λ h. c.is_open.ensures ∙ h)

pub returns-in-Commit : goal.returns-in-Commit
returns-in-Commit c = admits_told (next_of c.args.numbers.now) c.args.catalogue.now c.args.phase.now c.args.request.now _ _ c.in-Commit.is (λ e. sym c.is_open-in-Commit.ensures ∙ e, λ h. c.is_open-in-Commit.ensures ∙ h)

pub returns-in-Rollback : goal.returns-in-Rollback
returns-in-Rollback c = admits_told (next_of c.args.numbers.now) c.args.catalogue.now c.args.phase.now c.args.request.now _ _ c.in-Rollback.is (λ e. tt, λ h. refl)

pub returns-in-ReadSerial : goal.returns-in-ReadSerial
returns-in-ReadSerial c =
    admits_told (next_of c.args.numbers.now) c.args.catalogue.now c.args.phase.now c.args.request.now _ _ c.in-ReadSerial.is
    (λ e. sym (c.is_some.ensures ∙ ap is_some c.at.ensures.next) ∙ e, λ h. (c.is_some.ensures ∙ ap is_some c.at.ensures.next) ∙ h)

pub returns-in-SetSerial : goal.returns-in-SetSerial
returns-in-SetSerial c =
    let fits : SFits w64 c.in-SetSerial.next = search rules in
    admits_told (next_of c.args.numbers.now) c.args.catalogue.now c.args.phase.now c.args.request.now _ _ c.in-SetSerial.is
    (may_set_as (next_of c.args.numbers.now) c.args.phase.now c.in-SetSerial.table _ c.in-SetSerial.next _ c.may_set.result (to_z-of_z _ c.in-SetSerial.next fits) c.at-in-SetSerial.ensures.next c.may_set.ensures)
