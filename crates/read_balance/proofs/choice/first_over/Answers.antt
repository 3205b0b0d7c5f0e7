use Rattle.std.proofs.Common.{rules, ◌≡◌, ◌≤◌, ◌+◌, sym, subst, ap₂, ◌∙◌, ℕ}
use Rattle.read_balance.proofs.TurnLemmas.{before_next, below_next, never_all, weight_to}
use Rattle.read_balance.proofs.choice.first_over.Goals as goal

pub loop-number-preserved : goal.loop-number-preserved
loop-number-preserved c =
    let ws = c.args.weights.now in
    let bits = c.args.attached.bits in
    let sum : c.loop-number.sum + c.weight_at-sum.result ≡ weight_to ws bits c.loop-number.number = ap₂ (λ a b. a + b) c.loop-number.invariant.sum c.weight_at-sum.ensures.is in
    record {
      within = search rules;
      sum = sum ∙ sym (below_next ws bits c.loop-number.number);
      not_over = search rules;
      before = before_next ws bits c.args.rest c.loop-number.number c.loop-number.invariant.before (subst (λ (k : ℕ). k ≤ c.args.rest) sum (search rules));
      small = search rules;
    }

pub unreachable-requires : goal.unreachable-requires
unreachable-requires c =
    never_all c.args.weights.now c.args.attached.bits c.args.rest c.loop-number.number c.loop-number.sum c.loop-number.invariant.within c.loop-number-test.false c.loop-number.invariant.sum c.loop-number.invariant.not_over c.requires.rest
