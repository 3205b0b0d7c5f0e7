use Rattle.std.proofs.Common.{◌≡◌, ◌<◌, arith, subst, sym}
use Rattle.std.specs.Prelude.{ℕ}
use Rattle.plain_store.specs.Giving.{AreGivenBelow}
use Rattle.plain_store.proofs.SessionLaws.{none_given, one_given}
use Rattle.plain_store.proofs.given.all_given.Goals as goal

pub loop-s-init : goal.loop-s-init
loop-s-init c = rw c.new-all.ensures.items (none_given c.args.store.now)

pub loop-s-preserved : goal.loop-s-preserved
loop-s-preserved c = rw c.in_ok-push.ensures.items (one_given c.args.store.now c.loop-s.all.items c.loop-s.s _ c.loop-s.invariant c.in_ok-given_at.ensures)

pub returns : goal.returns
returns c =
    let same : c.loop-s.s ≡ 65 = omega arith in
    subst (λ (n : ℕ). AreGivenBelow n c.args.store.now c.loop-s.all.items) same c.loop-s.invariant
