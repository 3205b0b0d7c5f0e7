-- What is counted from one of a list on.
use Rattle.std.proofs.Common.{◌≡◌, ℕ, ◌+◌, ◌<◌, List, map, drop, get_or, length, ap, sym, ◌∙◌}
use Rattle.std.specs.Prelude.{sum, Some, slice_get}
use Rattle.std.specs.List.{sum_by}
use Rattle.std.proofs.lemmas.List.Sums.{sum-map, sum_by-drop_more}
use Rattle.std.proofs.lemmas.Option.{slice_get_within, get_or_from_slice_get}

from_one : {X : Type 0} (f : X → ℕ) (xs : List X) (i : ℕ) (x : X) → i < length xs → get_or xs i x ≡ x
    → sum (map f (drop i xs)) ≡ f x + sum (map f (drop (i + 1) xs))
from_one f xs i x below is =
    sum-map f (drop i xs) ∙ (sum_by-drop_more f xs i x below ∙ (ap (λ y. f y + sum_by f (drop (i + 1) xs)) is
    ∙ ap (λ n. f x + n) (sym (sum-map f (drop (i + 1) xs)))))

pub counted_from : {X : Type 0} (f : X → ℕ) (xs : List X) (i : ℕ) (x : X) → i < length xs → x ≡ get_or xs i x
    → sum (map f (drop i xs)) ≡ f x + sum (map f (drop (i + 1) xs))
counted_from f xs i x below is = from_one f xs i x below (sym is)

pub counted_at : {X : Type 0} (f : X → ℕ) (xs : List X) (i : ℕ) (x : X) → slice_get xs i ≡ Some x
    → sum (map f (drop i xs)) ≡ f x + sum (map f (drop (i + 1) xs))
counted_at f xs i x is = from_one f xs i x (slice_get_within xs i x is) (get_or_from_slice_get xs i x x is)
