-- A walk over the rows of a table is one over its entries.
use Rattle.std.proofs.Common.{◌≡◌, ℕ, List, [], ◌∷◌, map, refl, ap, ◌∙◌}
use Rattle.std.specs.Prelude.{Option}
use Rattle.std.specs.List.{AllByRecursion}
use Rattle.std.proofs.lemmas.List.Elements.{recursion_from_All}
use Rattle.sql_values.specs.Outcome.{or_null}
use Rattle.sql_eval.specs.declared.row.Row.{Row}
use Rattle.sql_eval.specs.Views.{View, Entry, entry, entry_of, entries_in, IsUnderItsKey, IsKeyedBy}
use Rattle.sql_eval.specs.Walks.{Coded, made, all_of, those_there, walked}

pub map_twice : {A B C : Type 0} (f : B → C) (g : A → B) (xs : List A) → map (λ x. f (g x)) xs ≡ map f (map g xs)
map_twice f g [] = refl
map_twice f g (x ∷ xs) = ap (λ ys. f (g x) ∷ ys) (map_twice f g xs)

pub walked_mapped : {A B C : Type 0} (f : B → Coded (Option C)) (g : A → B) (xs : List A) → walked (λ x. f (g x)) xs ≡ walked f (map g xs)
walked_mapped f g xs = ap (λ os. made those_there (all_of os)) (map_twice f g xs)

entries_by : (key : ℕ) (es : List Entry) → AllByRecursion (IsUnderItsKey key) es → map (entry_of key) (map (λ (e : Entry). e.row) es) ≡ es
entries_by key [] all = refl
entries_by key (e ∷ es) all =
    ap (λ (fs : List Entry). entry_of key e.row ∷ fs) (entries_by key es all.1) ∙ ap (λ k. entry (or_null k) e.row ∷ es) all.0

-- the rows, each under the key in its column, are the entries
pub rows_are_entries : {X : Type 0} (now : X → Row) (rows : List X) (view : View) (table key : ℕ) → IsKeyedBy view table key
    → map now rows ≡ map (λ (e : Entry). e.row) (entries_in view table) → map (λ (r : X). entry_of key (now r)) rows ≡ entries_in view table
rows_are_entries now rows view table key keyed are =
    map_twice (entry_of key) now rows ∙ (ap (map (entry_of key)) are
    ∙ entries_by key (entries_in view table) (recursion_from_All (IsUnderItsKey key) (entries_in view table) keyed))
