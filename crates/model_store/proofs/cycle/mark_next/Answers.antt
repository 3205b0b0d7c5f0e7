use Rattle.std.proofs.Common.{inl, inr}
use Rattle.model_store.proofs.WalkLaws.{wish_next, no_wish_next}
use Rattle.model_store.proofs.cycle.mark_next.Goals as goal

pub returns-in-Some-clause-next : goal.returns-in-Some-clause-next
returns-in-Some-clause-next c = λ numbers tables given o waits.
    let held = (wish_next numbers tables c.args.log.now c.args.seats.now c.args.s c.wanted_by.result c.in-Some.wanted c.in-Some.is (c.wanted_by.ensures numbers tables given) o).1 waits in
    c.mark_holders.ensures.holders o held.0 held.1

pub returns-in-Some-clause-only : goal.returns-in-Some-clause-only
returns-in-Some-clause-only c = λ numbers tables given o on. elim (c.mark_holders.ensures.only o on) [
  | inl before ↦ inl before
  | inr held ↦ inr ((wish_next numbers tables c.args.log.now c.args.seats.now c.args.s c.wanted_by.result c.in-Some.wanted c.in-Some.is (c.wanted_by.ensures numbers tables given) o).0 held)
]

pub returns-in-None-clause-next : goal.returns-in-None-clause-next
returns-in-None-clause-next c = λ numbers tables given o waits.
    absurd (no_wish_next numbers tables c.args.log.now c.args.seats.now c.args.s c.wanted_by.result c.in-None.is (c.wanted_by.ensures numbers tables given) o waits)
