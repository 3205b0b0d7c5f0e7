use Rattle.std.proofs.Common.{rules, ap, sym, ◌∙◌, arith, w64, SFits}
use Rattle.std.specs.Prelude.{ℤ, Some}
use Rattle.std.proofs.lemmas.Int.{ints, to_z-of_z}
use Rattle.backend_trait.specs.Rows.{with_at}
use Rattle.outcomes.specs.Next.{next_of}
use Rattle.model_store.specs.Phases.{answer_to, gives, numbered}
use Rattle.model_store.proofs.NumberLaws.{few_granted, positive_set, some_positive}
use Rattle.model_store.proofs.StoreLaws.{granted_run, room_in_run}
use Rattle.model_store.proofs.grant.grant.Goals as goal

pub grant_run-requires-clause-gives : goal.grant_run-requires-clause-gives
grant_run-requires-clause-gives c = ap gives (sym c.in-Run.is) ∙ c.requires.gives

pub returns-in-Open-clause-phase : goal.returns-in-Open-clause-phase
returns-in-Open-clause-phase c =
    granted_run c.args.log.now.items c.args.phase.now c.args.waiting c.in-Open.work c.grant_run.new.work _ c.in-Open.is c.in-Run.is (c.grant_run.ensures.live c.args.log.now.items)

pub returns-in-Open-clause-answer : goal.returns-in-Open-clause-answer
returns-in-Open-clause-answer c = c.grant_run.ensures.answer ∙ sym (ap (answer_to (next_of c.args.numbers.now)) c.in-Run.is)

pub grant_run-requires-clause-roomy : goal.grant_run-requires-clause-roomy
grant_run-requires-clause-roomy c = room_in_run c.args.phase.now c.args.waiting c.in-Open.work _ c.in-Open.is c.in-Run.is c.requires.roomy

pub draw-requires : goal.draw-requires
draw-requires c = few_granted (next_of c.args.numbers.now) c.args.catalogue.now c.args.log.now.items c.args.phase.now c.args.waiting c.in-Open.work _ c.in-Open.is c.in-Run.is c.requires.given

pub returns-in-Open-clause-numbers : goal.returns-in-Open-clause-numbers
returns-in-Open-clause-numbers c = c.draw.ensures ∙ sym (ap (numbered c.args.catalogue.now (next_of c.args.numbers.now)) c.in-Run.is)

pub set-requires : goal.set-requires
set-requires c =
    let positive = positive_set (next_of c.args.numbers.now) c.args.catalogue.now c.args.log.now.items c.args.phase.now c.args.waiting c.in-SetSerial.table c.in-SetSerial.next c.in-SetSerial.is c.requires.given in
    some_positive _ (omega (arith, ints, positive))

pub returns-in-SetSerial-clause-numbers : goal.returns-in-SetSerial-clause-numbers
returns-in-SetSerial-clause-numbers c =
    let fits : SFits w64 c.in-SetSerial.next = search rules in
    c.set.ensures
    ∙ (ap (λ (z : ℤ). with_at (next_of c.args.numbers.now) c.in-SetSerial.table (Some z)) (to_z-of_z _ c.in-SetSerial.next fits)
    ∙ sym (ap (numbered c.args.catalogue.now (next_of c.args.numbers.now)) c.in-SetSerial.is))
