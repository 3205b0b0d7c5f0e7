-- The entries of a table's rows, where all rows of a view stand in their tables.
use Rattle.std.proofs.Common.{◌≡◌, ℕ, List, [], ◌∷◌, map, refl, ap, sym, ◌∙◌, subst}
use Rattle.std.specs.Prelude.{◌==◌, ◌&&◌, cond, filter, slice_get, T, Bool as Truth, true, false, Some, None}
use Rattle.std.specs.List.{AllByRecursion}
use Rattle.std.specs.FinMap.{entries, entries_sorted, get-entries}
use Rattle.std.specs.FinMap.Entries.{below_all, find, is_sorted}
use Rattle.std.specs.declared.cmp.Ordering.{Ordering}
use Rattle.std.specs.declared.cmp.Ordering.TheVariants.{Less, Equal, Greater}
use Rattle.std.specs.Ordering.{is_eq, is_lt}
use Rattle.std.specs.Cmp.{IsTotalOrder}
use Rattle.std.proofs.lemmas.Cmp.{tied_itself}
use Rattle.std.proofs.lemmas.Bool.{eqb-true}
use Rattle.schema.specs.declared.catalogue.TableDef.{TableDef}
use Rattle.sql_eval.specs.declared.row.Row.{Row}
use Rattle.sql_eval.specs.Views.{View, Place, Entry, entries_in, entry, place_order}
use Rattle.backend_trait.proofs.Places.{place_total}
use Rattle.backend_trait.specs.Typed.{AreAllStored, IsStored}

both_hold : (a b : Truth) → T (a && b) → T a × T b
both_hold true b h = (tt, h)
both_hold false b h = absurd h

is_less : (o : Ordering) → T (is_lt o) → o ≡ Less
is_less Less h = refl
is_less Equal h = absurd h
is_less Greater h = absurd h

module _ {K X : Type 0} (R : K → K → Ordering) (o : IsTotalOrder R) where
  -- a key that ties with one that is below all is not found
  unfound : (q x : K) (es : List (K × X)) → R q x ≡ Equal → T (below_all R x es) → find R q es ≡ None
  unfound q x [] tie below = refl
  unfound q x (e ∷ es) tie below =
      let parts = both_hold _ _ below in
      ap (λ (r : Ordering). cond (is_eq r) (Some e.1) (find R q es)) (o.congr q x e.0 tie ∙ is_less (R x e.0) parts.0) ∙ unfound q x es tie parts.1

  found_later : (q : K) (v : X) (e : K × X) (es : List (K × X)) → T (below_all R e.0 es) → find R q es ≡ Some v → find R q (e ∷ es) ≡ Some v
  found_later q v e es below is = go (R q e.0) refl
    where
      go : (r : Ordering) → R q e.0 ≡ r → find R q (e ∷ es) ≡ Some v
      go Less t = ap (λ (r : Ordering). cond (is_eq r) (Some e.1) (find R q es)) t ∙ is
      go Equal t = absurd (let none : None ≡ Some v = sym (unfound q e.0 es t below) ∙ is in cc)
      go Greater t = ap (λ (r : Ordering). cond (is_eq r) (Some e.1) (find R q es)) t ∙ is

  -- what holds of all that is found holds of each entry
  all_found : (P : K → X → Type 0) (es : List (K × X)) → T (is_sorted R es) → ((q : K) (v : X) → find R q es ≡ Some v → P q v)
      → AllByRecursion (λ (e : K × X). P e.0 e.1) es
  all_found P [] sorted each = tt
  all_found P (e ∷ es) sorted each =
      let parts = both_hold _ _ sorted in (
        each e.0 e.1 (ap (λ (r : Ordering). cond (is_eq r) (Some e.1) (find R e.0 es)) (tied_itself o e.0)),
        all_found P es parts.1 (λ q v is. each q v (found_later q v e es parts.0 is)),
      )

module _ (tables : List TableDef) (table : ℕ) where
  abbrev IsIn : Entry → Type 0
  IsIn e = IsStored (slice_get tables table) e.key e.row

  of_table : (es : List (Place × Row)) → AllByRecursion (λ (e : Place × Row). IsStored (slice_get tables e.0.table) e.0.key e.1) es
      → AllByRecursion IsIn (map (λ e. entry e.0.key e.1) (filter (λ e. e.0.table == table) es))
  of_table [] all = tt
  of_table (e ∷ es) all = go (of_table es all.1) (e.0.table == table) refl
    where
      go : AllByRecursion IsIn (map (λ e. entry e.0.key e.1) (filter (λ e. e.0.table == table) es)) → (b : Truth) → (e.0.table == table) ≡ b
          → AllByRecursion IsIn (map (λ e. entry e.0.key e.1) (cond b (e ∷ filter (λ e. e.0.table == table) es) (filter (λ e. e.0.table == table) es)))
      go rest true is = (subst (λ (n : ℕ). IsStored (slice_get tables n) e.0.key e.1) (eqb-true e.0.table table is) all.0, rest)
      go rest false is = rest

pub all_in : (tables : List TableDef) (view : View) (table : ℕ) → AreAllStored tables view
    → AllByRecursion (λ (e : Entry). IsStored (slice_get tables table) e.key e.row) (entries_in view table)
all_in tables view table stored =
    of_table tables table (entries view)
    (all_found place_order place_total (λ (p : Place) (row : Row). IsStored (slice_get tables p.table) p.key row) (entries view) (entries_sorted view)
    (λ p row is. stored p row (get-entries view p ∙ is)))
