use Rattle.std.proofs.Common.{◌≡◌, ◌<◌, true, false, length, refl, sym, ◌∙◌, arith}
use Rattle.std.specs.Prelude.{◌↔◌, IsSome, IsTrue}
use Rattle.std.proofs.lemmas.Option.{slice_get_read}
use Rattle.model_store.proofs.AskLaws.{busy_pending, idle_pending, may_admit}
use Rattle.outcomes.specs.Next.{next_of}
use Rattle.model_store.proofs.store.MemoryStore.may_post.Goals as goal

pub returns-then-is_some : goal.returns-then-is_some
returns-then-is_some c =
    let store = c.args.self.now in
    let seats = store.seats.items in
    let at = c.args.s.number in
    let within : at < length seats = omega (arith, store.all_seated, c.args.s.up_to_64) in
    let there = slice_get_read seats (length seats) at c.index-seat.result.now refl within c.index-seat.ensures in
    let told : IsTrue c.is_some.result ↔ IsSome c.index-seat.result.now.waiting = (λ e. sym c.is_some.ensures ∙ e, λ h. c.is_some.ensures ∙ h) in (
      λ e. absurd (let f : false ≡ true = e in cc),
      λ h. absurd (busy_pending seats at c.index-seat.result.now c.is_some.result there told c.if-is_some.true h.0),
    )

pub returns : goal.returns
returns c =
    let store = c.args.self.now in
    let seats = store.seats.items in
    let at = c.args.s.number in
    let within : at < length seats = omega (arith, store.all_seated, c.args.s.up_to_64) in
    let there = slice_get_read seats (length seats) at c.index-seat.result.now refl within c.index-seat.ensures in
    let told : IsTrue c.is_some.result ↔ IsSome c.index-seat.result.now.waiting = (λ e. sym c.is_some.ensures ∙ e, λ h. c.is_some.ensures ∙ h) in
    let may = may_admit (next_of store.numbers) store.catalogue store.log.items seats store.is_lost at c.index-seat.result.now c.args.request.now there in (
      λ e. (idle_pending seats at c.index-seat.result.now c.is_some.result there told c.if-is_some.false, may.0 (c.admits.ensures.0 e)),
      λ h. c.admits.ensures.1 (may.1 h.1),
    )
