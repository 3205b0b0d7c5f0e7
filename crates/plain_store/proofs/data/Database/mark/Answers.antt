use Rattle.std.proofs.Common.{◌≡◌, Bool, List, refl, sym, ap, ◌∙◌, subst}
use Rattle.outcomes.specs.Next.{next_of}
use Rattle.plain_store.specs.declared.sessions.Sessions.{Sessions}
use Rattle.plain_store.specs.Meaning.{store_in, store_of}
use Rattle.backend_trait.specs.Acting.{IsMarked}
use Rattle.plain_store.specs.Giving.{AreGiven}
use Rattle.plain_store.specs.States.{States, states_of, states_in}
use Rattle.plain_store.specs.Deciding.{marks_below}
use Rattle.plain_store.proofs.SessionLaws.{states_same, all_there}
use Rattle.plain_store.proofs.MarkingLaws.{marked_is}
use Rattle.plain_store.proofs.data.Database.mark.Goals as goal

pub mark_below-requires-clause-all : goal.mark_below-requires-clause-all
mark_below-requires-clause-all c =
    let d = c.args.self.now in
    let all : Sessions = record { phases = c.as_slice-phases.result; requests = c.as_slice-requests.result; given = c.as_slice-gives.result; numbers = _ } in
    all_there d all c.as_slice-phases.ensures.value c.as_slice-requests.ensures.value (subst (AreGiven d) (sym c.as_slice-gives.ensures.value) c.in_ok-given.ensures)

pub returns-clause-marked : goal.returns-clause-marked
returns-clause-marked c =
    let d = c.args.self.now in
    let all : Sessions = record { phases = c.as_slice-phases.result; requests = c.as_slice-requests.result; given = c.as_slice-gives.result; numbers = record { ref_ptr = c.args.self.ref_ptr; now = d.numbers } } in
    let same : states_of all ≡ states_in d =
    states_same d all c.as_slice-phases.ensures.value c.as_slice-requests.ensures.value (subst (AreGiven d) (sym c.as_slice-gives.ensures.value) c.in_ok-given.ensures) refl in
    let is : c.mark_below.new.marks.items ≡ marks_below (states_in d) d.crossed.items 65 = c.mark_below.ensures.marks ∙ ap (λ (states : States). marks_below states d.crossed.items 65) same in
    subst (λ (marks : List Bool). IsMarked (store_of d) (store_in (next_of d.numbers) d.catalogue d.log.items d.phases.items d.requests.items marks d.is_lost)) (sym is) (marked_is d)
