use Rattle.std.proofs.Common.{◌≡◌, ◌+◌, ◌≤◌, ◌<◌, ℕ, true, sym, subst, ◌∙◌, arith}
use Rattle.pool_base.specs.Sets.{size, without, has}
use Rattle.pool_base.proofs.Finite.{without_size}
use Rattle.snapshot_gate.proofs.gate.Gate.detach.Goals as goal

moved : (e a b n : ℕ) → b + 1 ≡ a → e + a ≤ n → e + 1 + b ≤ n
moved e a b n same h = omega arith

leaves : (e s t b n : ℕ) → s < 256 → b < 8 → has s b ≡ true → t ≡ without s b → e + size s ≤ n → e + 1 + size t ≤ n
leaves e s t b n hs hb there is h = subst (λ (k : ℕ). e + 1 + size k ≤ n) (sym is) (moved e (size s) (size (without s b)) n (without_size s b hs hb there) h)

pub invariant_of-self-clause-versions : goal.invariant_of-self-clause-versions
invariant_of-self-clause-versions c =
    let g = c.args.self.now in
    leaves g.state.epoch g.state.attached.bits c.without.result.bits c.args.b.number 4294967288 g.wide.0 c.args.b.below_8 (sym c.has.ensures ∙ c.if-not-has.false) c.without.ensures.bits g.versions
