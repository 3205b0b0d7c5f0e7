use Rattle.std.proofs.Common.{◌≡◌, ◌+◌, ◌<◌, Bool, true, false, List, length, sym, ap, ◌∙◌, subst, arith}
use Rattle.plain_store.specs.States.{states_of}
use Rattle.plain_store.specs.Deciding.{waits_for}
use Rattle.plain_store.proofs.WaitLaws.{AreMarked, one_marked, one_skipped, on_length, waits_within}
use Rattle.plain_store.proofs.waiting.mark_next.Goals as goal
use Rattle.plain_store.proofs.waiting.mark_next.Goals.{then-waits_for, else-waits_for}

pub loop-o-preserved : goal.loop-o-preserved
loop-o-preserved c =
    elim c.if-waits_for.branch [
      | then-waits_for w ↦
          let same : length c.if-waits_for.found ≡ length c.loop-o.found = ap (λ (marks : List Bool). length marks) w.found-is ∙ on_length c.loop-o.found c.loop-o.o in
          let below : c.loop-o.o < length c.loop-o.found = omega (arith, c.loop-o-test.true, same, c.if-waits_for.array_long) in
          subst (λ (now : List Bool). AreMarked (waits_for (states_of c.args.all)) c.args.s c.args.found.now now (c.loop-o.o + 1)) (sym w.found-is)
          (one_marked (waits_for (states_of c.args.all)) c.args.s c.args.found.now c.loop-o.found c.loop-o.o below (sym c.waits_for.ensures ∙ w.if-waits_for.true) c.loop-o.invariant)
      | else-waits_for w ↦
          subst (λ (now : List Bool). AreMarked (waits_for (states_of c.args.all)) c.args.s c.args.found.now now (c.loop-o.o + 1)) (sym w.found-is)
          (one_skipped (waits_for (states_of c.args.all)) c.args.s c.args.found.now c.loop-o.found c.loop-o.o
          (λ held. let e : true ≡ false = sym held ∙ (sym c.waits_for.ensures ∙ w.if-waits_for.false) in cc) c.loop-o.invariant)
    ]

pub returns-clause-next : goal.returns-clause-next
returns-clause-next c =
    λ o w. c.loop-o.invariant.next o (let below : o < 65 = waits_within (states_of c.args.all) c.args.s o c.requires.all.phased w in omega (arith, below, c.loop-o-test.false)) w
