-- The columns that an INSERT gives values, and the cells at them.
use denote.Ref.{Bor}
use Rattle.std.proofs.Common.{◌≡◌, ℕ, zero, suc, ◌+◌, ◌<◌, ◌≤◌, List, [], ◌∷◌, length, map, get_or, drop, refl, ap, sym, ◌∙◌, subst}
use Rattle.std.proofs.lemmas.List.{at_drop_more, at_drop_all}
use Rattle.std.specs.Prelude.{Option, Some, None, slice_get, set}
use Rattle.std.specs.Option.{option_map}
use Rattle.schema.specs.declared.catalogue.ColumnDef.{ColumnDef}
use Rattle.catalogue.specs.declared.checked.TypedCell.{TypedCell}
use Rattle.catalogue.specs.declared.insert.Target.{Target}
use Rattle.catalogue.specs.Statements.{column_at, put_cells}
use Rattle.catalogue.specs.Targets.{target_of}

slice_get-map : {A B : Type 0} (f : A → B) (xs : List A) (n : ℕ) → slice_get (map f xs) n ≡ option_map f (slice_get xs n)
slice_get-map f [] n = refl
slice_get-map f (x ∷ xs) zero = refl
slice_get-map f (x ∷ xs) (suc n) = slice_get-map f xs n

columns_same : (r : Option (Bor Target)) → option_map (λ t. t.now.column.now) r ≡ column_at (option_map target_of (option_map (λ t. t.now) r))
columns_same None = refl
columns_same (Some t) = refl

-- the column at a place
pub column_found : (given : List Target) (at : ℕ) (r : Option (Bor Target)) → option_map (λ t. t.now) r ≡ slice_get given at
    → option_map (λ t. t.now.column.now) r ≡ column_at (slice_get (map target_of given) at)
column_found given at r is =
    columns_same r ∙ (ap (λ (t : Option Target). column_at (option_map target_of t)) is
    ∙ ap column_at (sym (slice_get-map target_of given at)))

put_none : (given : List (ℕ × ColumnDef)) (row : List TypedCell) → put_cells given [] row ≡ row
put_none [] row = refl
put_none (x ∷ xs) row = refl

module _ (given : List Target) (i : ℕ) (t : Target) (below : i < length given) (is : t ≡ get_or given i t) (left row : List TypedCell) where
  -- what is left is put there, from one target to the next
  pub put_next : (cell : TypedCell) (more next : List TypedCell) → left ≡ cell ∷ more → next ≡ set row t.number cell
      → put_cells (map target_of (drop i given)) left row ≡ put_cells (map target_of (drop (i + 1) given)) more next
  put_next cell more next left_is next_is =
      at_drop_more (λ ts. put_cells (map target_of ts) left row) given i t below
      ∙ (ap (λ (u : Target). put_cells (target_of u ∷ map target_of (drop (i + 1) given)) left row) (sym is)
      ∙ (ap (λ (cells : List TypedCell). put_cells (target_of t ∷ map target_of (drop (i + 1) given)) cells row) left_is
      ∙ ap (λ (r : List TypedCell). put_cells (map target_of (drop (i + 1) given)) more r) (sym next_is)))

-- nothing is left
pub put_out : (given : List (ℕ × ColumnDef)) (left row : List TypedCell) → left ≡ [] → put_cells given left row ≡ row
put_out given left row none = rw none (put_none given row)

pub put_whole : (given : List Target) (i : ℕ) (left row : List TypedCell) → length given ≤ i → put_cells (map target_of (drop i given)) left row ≡ row
put_whole given i left row all = at_drop_all (λ ts. put_cells (map target_of ts) left row) given i all
