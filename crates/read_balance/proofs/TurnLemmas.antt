-- One more number that is not over, and the end of the numbers.
use Rattle.std.proofs.Common.{◌≡◌, ◌<◌, ◌≤◌, ℕ, ◌+◌, List, Bool, true, false, nat_eq, refl, ap, sym, subst, arith, add-one}
use Rattle.std.proofs.lemmas.Bool.Decides.{nat_tests}
use Rattle.pool_base.specs.Sets.{has}
use Rattle.read_balance.specs.Picking.{weight_at, weight_below, weight_of_all}

-- what the numbers up to and with one count together
abbrev pub weight_to : List ℕ → ℕ → ℕ → ℕ
weight_to weights attached c = weight_below weights attached c + weight_at weights attached c

pub before_next : (weights : List ℕ) (attached rest n : ℕ) → ((c : ℕ) → c < n → has attached c ≡ true → weight_to weights attached c ≤ rest) → weight_to weights attached n ≤ rest → (c : ℕ) → c < n + 1 → has attached c ≡ true → weight_to weights attached c ≤ rest
before_next weights attached rest n before here c below is = go (nat_eq c n) refl
  where
    go : (t : Bool) → nat_eq c n ≡ t → weight_to weights attached c ≤ rest
    go true e = let same : c ≡ n = grind (arith, nat_tests) in subst (λ (k : ℕ). weight_to weights attached k ≤ rest) (sym same) here
    go false e = let less : c < n = grind (arith, nat_tests) in before c less is

pub never_all : (weights : List ℕ) (attached rest n sum : ℕ) → n ≤ 8 → 8 ≤ n → sum ≡ weight_below weights attached n → sum ≤ rest → rest < weight_of_all weights attached → ⊥
never_all weights attached rest n sum most least is under over =
    let end : n ≡ 8 = omega arith in
    let all : sum ≡ weight_below weights attached 8 = subst (λ (k : ℕ). sum ≡ weight_below weights attached k) end is in
    absurd (omega arith)

pub below_next : (weights : List ℕ) (attached n : ℕ) → weight_below weights attached (n + 1) ≡ weight_to weights attached n
below_next weights attached n = ap (weight_below weights attached) (add-one n)
