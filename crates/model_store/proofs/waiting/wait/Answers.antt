use Rattle.std.proofs.Common.{rules, ap, sym, ◌∙◌, subst, to_z, of_z, w64, SFits}
use Rattle.std.proofs.lemmas.Int.{to_z-of_z}
use Rattle.backend_trait.specs.declared.request.Request.TheVariants as requests
use Rattle.std.specs.Prelude.{Option}
use Rattle.model_store.specs.declared.phase.Waiting.{Waiting}
use Rattle.model_store.specs.declared.phase.Waiting.TheVariants as waits
use Rattle.model_store.specs.Phases.{IsGivenAt}
use Rattle.model_store.proofs.AskLaws.{admitted_fits, read_given, set_given}
use Rattle.outcomes.specs.Next.{next_of}
use Rattle.model_store.proofs.waiting.wait.Goals as goal

pub accept-requires-clause-fitting : goal.accept-requires-clause-fitting
accept-requires-clause-fitting c = admitted_fits (next_of c.args.numbers.now) c.args.catalogue.now c.args.seat.now.phase c.args.request waits.Snapshot c.in-TakeSnapshot.is c.requires.may

pub returns-in-TakeSnapshot-clause-given : goal.returns-in-TakeSnapshot-clause-given
returns-in-TakeSnapshot-clause-given c =
    subst (λ (w : Option Waiting). IsGivenAt (next_of c.args.numbers.now) c.args.catalogue.now c.args.log.now c.accept.new.seat.phase w) (sym c.accept.ensures.waiting) tt

pub accept-requires-in-Lock-clause-fitting : goal.accept-requires-in-Lock-clause-fitting
accept-requires-in-Lock-clause-fitting c = admitted_fits (next_of c.args.numbers.now) c.args.catalogue.now c.args.seat.now.phase c.args.request (waits.Lock c.in-Lock.table) c.in-Lock.is c.requires.may

pub returns-in-Lock-clause-given : goal.returns-in-Lock-clause-given
returns-in-Lock-clause-given c =
    subst (λ (w : Option Waiting). IsGivenAt (next_of c.args.numbers.now) c.args.catalogue.now c.args.log.now c.accept-in-Lock.new.seat.phase w) (sym c.accept-in-Lock.ensures.waiting) tt

pub accept-requires-in-Commit-clause-fitting : goal.accept-requires-in-Commit-clause-fitting
accept-requires-in-Commit-clause-fitting c = admitted_fits (next_of c.args.numbers.now) c.args.catalogue.now c.args.seat.now.phase c.args.request waits.Commit c.in-Commit.is c.requires.may

pub returns-in-Commit-clause-given : goal.returns-in-Commit-clause-given
returns-in-Commit-clause-given c =
    subst (λ (w : Option Waiting). IsGivenAt (next_of c.args.numbers.now) c.args.catalogue.now c.args.log.now c.accept-in-Commit.new.seat.phase w) (sym c.accept-in-Commit.ensures.waiting) tt

pub accept-requires-in-Rollback-clause-fitting : goal.accept-requires-in-Rollback-clause-fitting
accept-requires-in-Rollback-clause-fitting c = admitted_fits (next_of c.args.numbers.now) c.args.catalogue.now c.args.seat.now.phase c.args.request waits.Rollback c.in-Rollback.is c.requires.may

pub returns-in-Rollback-clause-given : goal.returns-in-Rollback-clause-given
returns-in-Rollback-clause-given c =
    subst (λ (w : Option Waiting). IsGivenAt (next_of c.args.numbers.now) c.args.catalogue.now c.args.log.now c.accept-in-Rollback.new.seat.phase w) (sym c.accept-in-Rollback.ensures.waiting) tt

pub accept-requires-in-ReadSerial-clause-fitting : goal.accept-requires-in-ReadSerial-clause-fitting
accept-requires-in-ReadSerial-clause-fitting c = admitted_fits (next_of c.args.numbers.now) c.args.catalogue.now c.args.seat.now.phase c.args.request (waits.ReadSerial c.in-ReadSerial.table) c.in-ReadSerial.is c.requires.may

pub returns-in-ReadSerial-clause-given : goal.returns-in-ReadSerial-clause-given
returns-in-ReadSerial-clause-given c =
    read_given (next_of c.args.numbers.now) c.args.catalogue.now c.args.log.now c.args.seat.now.phase c.accept-in-ReadSerial.new.seat.phase c.args.request c.in-ReadSerial.table c.accept-in-ReadSerial.new.seat.waiting c.accept-in-ReadSerial.ensures.phase c.accept-in-ReadSerial.ensures.waiting c.in-ReadSerial.is c.requires.may

pub accept-requires-in-SetSerial-clause-fitting : goal.accept-requires-in-SetSerial-clause-fitting
accept-requires-in-SetSerial-clause-fitting c =
    let fits : SFits w64 c.in-SetSerial.next = search rules in
    admitted_fits (next_of c.args.numbers.now) c.args.catalogue.now c.args.seat.now.phase c.args.request (waits.SetSerial c.in-SetSerial.table (to_z w64 (of_z w64 c.in-SetSerial.next)))
    (c.in-SetSerial.is ∙ ap (requests.SetSerial c.in-SetSerial.table) (sym (to_z-of_z _ c.in-SetSerial.next fits))) c.requires.may

pub returns-in-SetSerial-clause-given : goal.returns-in-SetSerial-clause-given
returns-in-SetSerial-clause-given c =
    let fits : SFits w64 c.in-SetSerial.next = search rules in
    set_given (next_of c.args.numbers.now) c.args.catalogue.now c.args.log.now c.args.seat.now.phase c.accept-in-SetSerial.new.seat.phase c.args.request c.in-SetSerial.table (to_z w64 (of_z w64 c.in-SetSerial.next)) c.accept-in-SetSerial.new.seat.waiting c.accept-in-SetSerial.ensures.phase c.accept-in-SetSerial.ensures.waiting
    (c.in-SetSerial.is ∙ ap (requests.SetSerial c.in-SetSerial.table) (sym (to_z-of_z _ c.in-SetSerial.next fits))) c.requires.may
