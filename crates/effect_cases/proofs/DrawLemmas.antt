-- What a row draws, and what rows draw, by the first and the others.
use Rattle.std.proofs.Common.{◌≡◌, ℕ, ◌+◌, List, ◌∷◌, map, ap, sym, ◌∙◌}
use Rattle.std.specs.Prelude.{sum}
use Rattle.std.proofs.lemmas.List.Sums.{sum-map, sum_by-cons}
use Rattle.catalogue.specs.declared.checked.TypedCell.{TypedCell}
use Rattle.sql_eval.specs.Inserts.{draws_in, row_draws, all_draws}

from_first : {X : Type 0} (f : X → ℕ) (x : X) (xs : List X) → sum (map f (x ∷ xs)) ≡ f x + sum (map f xs)
from_first f x xs = sum-map f (x ∷ xs) ∙ (sum_by-cons f x xs ∙ ap (λ n. f x + n) (sym (sum-map f xs)))

pub row_draws_first : (cell : TypedCell) (cells : List TypedCell) → row_draws (cell ∷ cells) ≡ draws_in cell + row_draws cells
row_draws_first cell cells = from_first draws_in cell cells

pub all_draws_first : (row : List TypedCell) (rows : List (List TypedCell)) → all_draws (row ∷ rows) ≡ row_draws row + all_draws rows
all_draws_first row rows = from_first row_draws row rows
