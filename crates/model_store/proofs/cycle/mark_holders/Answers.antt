use Rattle.std.proofs.Common.{◌≡◌, ◌+◌, ◌<◌, ◌≤◌, Bool, true, false, List, length, sym, ap, ◌∙◌, subst, arith}
use Rattle.model_store.specs.Conflicts.{wants_of}
use Rattle.model_store.proofs.WalkLaws.{AreMarked, one_marked, one_skipped, all_marked, on_length}
use Rattle.model_store.proofs.cycle.mark_holders.Goals as goal
use Rattle.model_store.proofs.cycle.mark_holders.Goals.{then-holds_other, else-holds_other}

pub loop-other-preserved : goal.loop-other-preserved
loop-other-preserved c =
    elim c.if-holds_other.branch [
      | then-holds_other w ↦
          let same : length c.if-holds_other.found ≡ length c.loop-other.found = ap (λ (marks : List Bool). length marks) w.found-is ∙ on_length c.loop-other.found c.loop-other.other in
          let below : c.loop-other.other < length c.loop-other.found = omega (arith, c.loop-other-test.true, same, c.if-holds_other.array_long) in
          subst (λ (now : List Bool). AreMarked c.args.seats.now c.args.s (wants_of c.args.wanted) c.args.found.now now (c.loop-other.other + 1)) (sym w.found-is)
          (one_marked c.args.seats.now c.args.s (wants_of c.args.wanted) c.args.found.now c.loop-other.found c.loop-other.other below (c.holds_other.ensures.0 w.if-holds_other.true) c.loop-other.invariant)
      | else-holds_other w ↦
          subst (λ (now : List Bool). AreMarked c.args.seats.now c.args.s (wants_of c.args.wanted) c.args.found.now now (c.loop-other.other + 1)) (sym w.found-is)
          (one_skipped c.args.seats.now c.args.s (wants_of c.args.wanted) c.args.found.now c.loop-other.found c.loop-other.other (λ held. let e : true ≡ false = sym (c.holds_other.ensures.1 held) ∙ w.if-holds_other.false in cc) c.loop-other.invariant)
    ]

pub returns-clause-holders : goal.returns-clause-holders
returns-clause-holders c =
    let end : length c.args.seats.now ≤ c.loop-other.other = omega (arith, c.requires, c.loop-other-test.false) in
    all_marked c.args.seats.now c.args.s (wants_of c.args.wanted) c.args.found.now c.loop-other.found c.loop-other.other end c.loop-other.invariant
