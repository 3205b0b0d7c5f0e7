-- The first word decides.
use Rattle.std.proofs.Common.{◌≡◌, ◌≤◌, ℕ, List, [], ◌∷◌, ap, map, length, slice_index_or, arith, Bor}
use Rattle.pool_command.specs.Command.{command_of, command_by}

pub by_first : (ws : List (Bor (List ℕ))) (first : Bor (List ℕ)) → 1 ≤ length ws → first ≡ slice_index_or ws 0 first
    → command_by first.now (map (λ w. w.now) ws) ≡ command_of (map (λ w. w.now) ws)
by_first [] first some is = absurd (omega arith)
by_first (w ∷ ws) first some is = ap (λ (x : Bor (List ℕ)). command_by x.now (w.now ∷ map (λ v. v.now) ws)) is
