use Rattle.std.proofs.Common.{◌+◌, ◌<◌, List, sym, subst, arith}
use Rattle.session_links.specs.declared.slot.Slot.{Slot}
use Rattle.session_links.proofs.Sound.{IsKept, kept_next, kept_none}
use Rattle.session_links.proofs.links.Links.keep.Goals as goal

pub loop-number-init : goal.loop-number-init
loop-number-init g c = kept_none _ _

pub loop-number-preserved : goal.loop-number-preserved
loop-number-preserved g c =
    let below : c.loop-number.number < 8 = omega (arith, c.loop-number-test.true) in
    subst (λ (now : List (Slot g.row.L.Denot)). IsKept c.args.among.bits c.args.self.now.slots.items now (c.loop-number.number + 1)) (sym c.keep_one.ensures)
    (kept_next _ _ _ _ (omega (arith, below, c.loop-number.self.eight)) c.loop-number.invariant)

pub returns-clause-kept : goal.returns-clause-kept
returns-clause-kept g c = c.loop-number.invariant.kept

pub returns-clause-dropped : goal.returns-clause-dropped
returns-clause-dropped g c = λ b below. c.loop-number.invariant.dropped b (omega (arith, below, c.loop-number-test.false))
