-- The laws of rows and of changes laid over them.
use Rattle.std.proofs.Common.{◌≡◌, Bool, true, false, List, [], ◌∷◌, refl, sym, ap, ◌∙◌}
use Rattle.std.specs.Prelude.{Option, Some, None, cond}
use Rattle.std.specs.FinMap as fin
use Rattle.std.specs.FinMap.{find}
use Rattle.sql_eval.specs.declared.row.Row.{Row}
use Rattle.backend_trait.specs.Keys.{Place, place_order, is_place}
use Rattle.backend_trait.specs.Rows.{Rows, Changes, no_changes, changed_at, all_changed, laid_over, all_joined, joined_changes}
use Rattle.backend_trait.proofs.KeyLaws.{place_total, place_antisymmetric}

-- the changed row where there is a change, else the row below
abbrev pub row_over : Option (Option Row) → Option Row → Option Row
row_over None row = row
row_over (Some changed) row = changed

abbrev pub change_over : Option (Option Row) → Option (Option Row) → Option (Option Row)
change_over None old = old
change_over (Some new) old = Some new

pub get-changed_at : (rows : Rows) (place : Place) (row : Option Row) (q : Place) → fin.get (changed_at rows place row) q ≡ cond (is_place q place) row (fin.get rows q)
get-changed_at rows place None q = fin.get-remove place_total rows place q
get-changed_at rows place (Some row) q = fin.get-insert place_total rows place row q

pub get-all_changed : (changes : List (Place × Option Row)) (rows : Rows) (q : Place) → fin.get (all_changed changes rows) q ≡ row_over (find place_order q changes) (fin.get rows q)
get-all_changed [] rows q = refl
get-all_changed (change ∷ changes) rows q =
    get-changed_at (all_changed changes rows) change.0 change.1 q
    ∙ ap (cond (is_place q change.0) change.1) (get-all_changed changes rows q)
    ∙ go (is_place q change.0)
  where
    go : (b : Bool) → cond b change.1 (row_over (find place_order q changes) (fin.get rows q)) ≡ row_over (cond b (Some change.1) (find place_order q changes)) (fin.get rows q)
    go true = refl
    go false = refl

pub get-laid_over : (changes : Changes) (rows : Rows) (q : Place) → fin.get (laid_over changes rows) q ≡ row_over (fin.get changes q) (fin.get rows q)
get-laid_over changes rows q = get-all_changed (fin.entries changes) rows q ∙ ap (λ c. row_over c (fin.get rows q)) (sym (fin.get-entries changes q))

pub get-all_joined : (changes : List (Place × Option Row)) (old : Changes) (q : Place) → fin.get (all_joined changes old) q ≡ change_over (find place_order q changes) (fin.get old q)
get-all_joined [] old q = refl
get-all_joined (change ∷ changes) old q =
    fin.get-insert place_total (all_joined changes old) change.0 change.1 q
    ∙ ap (cond (is_place q change.0) (Some change.1)) (get-all_joined changes old q)
    ∙ go (is_place q change.0)
  where
    go : (b : Bool) → cond b (Some change.1) (change_over (find place_order q changes) (fin.get old q)) ≡ change_over (cond b (Some change.1) (find place_order q changes)) (fin.get old q)
    go true = refl
    go false = refl

pub get-joined_changes : (new old : Changes) (q : Place) → fin.get (joined_changes new old) q ≡ change_over (fin.get new q) (fin.get old q)
get-joined_changes new old q = get-all_joined (fin.entries new) old q ∙ ap (λ c. change_over c (fin.get old q)) (sym (fin.get-entries new q))

-- maps that answer alike are equal
pub same_rows : (a b : Rows) → ((q : Place) → fin.get a q ≡ fin.get b q) → a ≡ b
same_rows = fin.same_map place_total place_antisymmetric

pub same_changes : (a b : Changes) → ((q : Place) → fin.get a q ≡ fin.get b q) → a ≡ b
same_changes = fin.same_map place_total place_antisymmetric

pub laid_over-none : (rows : Rows) → laid_over no_changes rows ≡ rows
laid_over-none rows = same_rows _ _ (λ q. get-laid_over no_changes rows q ∙ ap (λ c. row_over c (fin.get rows q)) (fin.get-empty place_order q))

over_none : (c : Option (Option Row)) → change_over c None ≡ c
over_none None = refl
over_none (Some row) = refl

pub joined_changes-none : (new : Changes) → joined_changes new no_changes ≡ new
joined_changes-none new = same_changes _ _ (λ q. get-joined_changes new no_changes q ∙ ap (change_over (fin.get new q)) (fin.get-empty place_order q) ∙ over_none (fin.get new q))
