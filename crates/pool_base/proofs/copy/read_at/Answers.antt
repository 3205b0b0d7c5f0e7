use Rattle.std.proofs.Common.{rules, ◌≤◌, take, drop, length, ℕ, List, ◌∙◌, ap, subst}
use Rattle.pool_base.proofs.Reading.{copied}
use Rattle.pool_base.proofs.copy.read_at.Goals as goal

pub returns-clause-gives : goal.returns-clause-gives
returns-clause-gives c =
    let n = c.copy_front.result in
    let all = c.args.from.now in
    let long : n ≤ length (drop c.args.place all) = subst (λ (xs : List ℕ). n ≤ length xs) c.split_at.ensures.back c.copy_front.ensures.within.1 in (
      search rules,
      search rules,
      copied all c.args.place n (take n c.copy_front.new.into) (c.copy_front.ensures.bytes ∙ ap (take n) c.split_at.ensures.back) long,
    )
