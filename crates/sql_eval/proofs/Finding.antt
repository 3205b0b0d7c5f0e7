-- The rows of a table one behind the other.
use Rattle.std.proofs.Common.{◌≡◌, ℕ, zero, suc, ◌+◌, ◌<◌, List, [], ◌∷◌, ◌++◌, map, length, take, arith, refl, ap, sym, ◌∙◌, subst, add-one}
use Rattle.std.specs.Prelude.{◌==◌, ◌&&◌, cond, T, slice_get, Bool as Truth, true, false, Option, Some, None}
use Rattle.std.specs.List.{AllByRecursion, filter, find}
use Rattle.std.specs.Option.{option_map}
use Rattle.std.proofs.lemmas.List.Elements.{recursion_from_All}
use borrow.Author.Tests.{eqb-true}
use Rattle.std.specs.FinMap as fin
use Rattle.std.specs.FinMap.Entries.{is_sorted, below_all}
use Rattle.std.specs.declared.cmp.Ordering.{Ordering}
use Rattle.std.specs.declared.cmp.Ordering.TheVariants.{Less, Equal, Greater}
use Rattle.std.specs.Ordering.{ordering_reverse, ordering_then, is_lt, is_gt, nat_cmp}
use Rattle.std.specs.Cmp.{IsTotalOrder}
use Rattle.std.proofs.lemmas.Cmp.{tied_itself, nat_cmp_total, int_cmp_total, nat_list_cmp_total, then_total, on_total}
use Rattle.pg_values.specs.declared.value.Value.{Value}
use Rattle.sql_values.specs.Order.{number_in, text_in}
use Rattle.sql_eval.specs.declared.row.Row.{Row}
use Rattle.sql_eval.specs.Views.{View, Place, Entry, entry, rank_of, key_order, place_order, table_of, key_of, entries_in, is_behind, row_behind, IsUnderItsKey, IsKeyedBy}

module _ {K E : Type 0} (key : E → K) (R : K → K → Ordering) (o : IsTotalOrder R) where
  -- each key stands before those behind it
  abbrev pub Rising : List E → Type 0
  Rising [] = Unit {0}
  Rising (e ∷ es) = AllByRecursion (λ f. R (key e) (key f) ≡ Less) es × Rising es

  abbrev pub after : K → E → Truth
  after k e = is_gt (R (key e) k)

  greater : (x y : K) → R x y ≡ Less → is_gt (R y x) ≡ true
  greater x y less = ap is_gt (o.antisymm y x) ∙ ap (λ r. is_gt (ordering_reverse r)) less

  first_found : (k : K) (e : E) (es : List E) → is_gt (R (key e) k) ≡ true → find (after k) (e ∷ es) ≡ Some e
  first_found k e es gt = ap (λ b. cond b (Some e) (find (after k) es)) gt

  first_passed : (k : K) (e : E) (es : List E) → is_gt (R (key e) k) ≡ false → find (after k) (e ∷ es) ≡ find (after k) es
  first_passed k e es gt = ap (λ b. cond b (Some e) (find (after k) es)) gt

  next_found : (e : E) (es : List E) → AllByRecursion (λ f. R (key e) (key f) ≡ Less) es → find (after (key e)) es ≡ slice_get es zero
  next_found e [] all = refl
  next_found e (f ∷ es) all = first_found (key e) f es (greater (key e) (key f) all.0)

  at_place : (P : E → Type 0) (es : List E) (i : ℕ) (e : E) → AllByRecursion P es → slice_get es i ≡ Some e → P e
  at_place P [] i e all is = absurd (cc)
  at_place P (x ∷ es) zero e all is = let same : x ≡ e = cc in subst P same all.0
  at_place P (x ∷ es) (suc i) e all is = at_place P es i e all.1 is

  -- what stands behind the key of one is the next
  pub found_behind : (es : List E) (i : ℕ) (e : E) → Rising es → slice_get es i ≡ Some e → find (after (key e)) es ≡ slice_get es (suc i)
  found_behind [] i e rises is = absurd (cc)
  found_behind (x ∷ es) zero e rises is =
      let same : x ≡ e = cc in
      subst (λ (y : E). find (after (key y)) (x ∷ es) ≡ slice_get es zero) same
      (first_passed (key x) x es (ap is_gt (tied_itself o (key x))) ∙ next_found x es rises.0)
  found_behind (x ∷ es) (suc i) e rises is =
      first_passed (key e) x es (ap is_gt (at_place (λ f. R (key x) (key f) ≡ Less) es i e rises.0 is)) ∙ found_behind es i e rises.1 is

-- ---- the rows of a table

pub key_order_total : IsTotalOrder key_order
key_order_total = then_total (on_total rank_of nat_cmp_total) (then_total (on_total number_in int_cmp_total) (on_total text_in nat_list_cmp_total))

pub place_order_total : IsTotalOrder place_order
place_order_total = then_total (on_total table_of nat_cmp_total) (on_total key_of key_order_total)

both_hold : (a b : Truth) → T (a && b) → T a × T b
both_hold true b h = (tt, h)
both_hold false b h = absurd h

is_less : (o : Ordering) → T (is_lt o) → o ≡ Less
is_less Less h = refl
is_less Equal h = absurd h
is_less Greater h = absurd h

-- of two places of one table the first is that of the lesser key
same_table : (p q : Place) → p.table ≡ q.table → place_order p q ≡ Less → key_order p.key q.key ≡ Less
same_table p q same less =
    sym (ap (λ r. ordering_then r (key_order p.key q.key)) (ap (λ n. nat_cmp n q.table) same ∙ tied_itself nat_cmp_total q.table)) ∙ less

abbrev pub Stood : Type 0
Stood = Place × Row

abbrev pub to_entry : Stood → Entry
to_entry e = entry e.0.key e.1

abbrev pub stands_in : ℕ → Stood → Truth
stands_in table e = e.0.table == table

behind_all : (p : Place) (table : ℕ) (es : List Stood) → p.table ≡ table → T (below_all place_order p es)
    → AllByRecursion (λ (f : Entry). key_order p.key f.key ≡ Less) (map to_entry (filter (stands_in table) es))
behind_all p table [] same below = tt
behind_all p table (e ∷ es) same below =
    let parts = both_hold _ _ below in
    let more = behind_all p table es same parts.1 in
    elim (stands_in table e) as (λ b. stands_in table e ≡ b
    → AllByRecursion (λ (f : Entry). key_order p.key f.key ≡ Less) (map to_entry (cond b (e ∷ filter (stands_in table) es) (filter (stands_in table) es)))) [
      | true ↦ λ is. (same_table p e.0 (same ∙ sym (eqb-true e.0.table table is)) (is_less (place_order p e.0) parts.0), more)
      | false ↦ λ is. more
    ] refl

rising_in : (table : ℕ) (es : List Stood) → T (is_sorted place_order es)
    → Rising (λ (e : Entry). e.key) key_order key_order_total (map to_entry (filter (stands_in table) es))
rising_in table [] sorted = tt
rising_in table (e ∷ es) sorted =
    let parts = both_hold _ _ sorted in
    let more = rising_in table es parts.1 in
    elim (stands_in table e) as (λ b. stands_in table e ≡ b
    → Rising (λ (e : Entry). e.key) key_order key_order_total (map to_entry (cond b (e ∷ filter (stands_in table) es) (filter (stands_in table) es)))) [
      | true ↦ λ is. (behind_all e.0 table es (eqb-true e.0.table table is) parts.0, more)
      | false ↦ λ is. more
    ] refl

-- the keys of a table's rows rise
pub entries_rise : (view : View) (table : ℕ) → Rising (λ (e : Entry). e.key) key_order key_order_total (entries_in view table)
entries_rise view table = rising_in table (fin.entries view) (fin.entries_sorted view)

-- the first row of a table
pub row_first : (view : View) (table : ℕ) → row_behind view table None ≡ option_map (λ (e : Entry). e.row) (slice_get (entries_in view table) zero)
row_first view table = first_of (entries_in view table)
  where
    first_of : (es : List Entry) → option_map (λ (e : Entry). e.row) (find (is_behind None) es) ≡ option_map (λ (e : Entry). e.row) (slice_get es zero)
    first_of [] = refl
    first_of (e ∷ es) = refl

-- the row behind another is the next
pub row_next : (view : View) (table : ℕ) (i : ℕ) (e : Entry) → slice_get (entries_in view table) i ≡ Some e
    → row_behind view table (Some e.key) ≡ option_map (λ (e : Entry). e.row) (slice_get (entries_in view table) (suc i))
row_next view table i e is =
    ap (option_map (λ (e : Entry). e.row)) (found_behind (λ (e : Entry). e.key) key_order key_order_total (entries_in view table) i e (entries_rise view table) is)

-- ---- the rows so far, and the next

abbrev of_entry : Entry → Row
of_entry e = e.row

module _ (view : View) (table key : ℕ) (keyed : IsKeyedBy view table key) (n : ℕ) (row : Row) where
  under_its_key : (e : Entry) → slice_get (entries_in view table) n ≡ Some e → slice_get e.row.cells key ≡ Some e.key
  under_its_key e is = at_place (λ (e : Entry). e.key) key_order key_order_total (IsUnderItsKey key) (entries_in view table) n e
      (recursion_from_All (IsUnderItsKey key) (entries_in view table) keyed) is

  at_entry : (e : Entry) → slice_get (entries_in view table) n ≡ Some e → e.row ≡ row → slice_get row.cells key ≡ Some e.key
  at_entry e is same = subst (λ (r : Row). slice_get r.cells key ≡ Some e.key) same (under_its_key e is)

  -- the key of a row stands in its column, and behind it comes the next row
  pub row_goes_on : (own : Value) → option_map of_entry (slice_get (entries_in view table) n) ≡ Some row → slice_get row.cells key ≡ Some own
      → row_behind view table (Some own) ≡ option_map of_entry (slice_get (entries_in view table) (n + 1))
  row_goes_on own next has =
      elim (slice_get (entries_in view table) n) as (λ o. slice_get (entries_in view table) n ≡ o → option_map of_entry o ≡ Some row
      → row_behind view table (Some own) ≡ option_map of_entry (slice_get (entries_in view table) (n + 1))) [
        | None ↦ λ is next. absurd (cc)
        | Some e ↦ λ is next.
            let same : e.row ≡ row = cc in
            let key_is : Some e.key ≡ Some own = sym (at_entry e is same) ∙ has in
            let own_is : e.key ≡ own = cc in
            subst (λ (k : Value). row_behind view table (Some k) ≡ option_map of_entry (slice_get (entries_in view table) (n + 1))) own_is
            (row_next view table n e is ∙ ap (λ m. option_map of_entry (slice_get (entries_in view table) m)) (sym (add-one n)))
      ] refl next

  pub row_has_key : option_map of_entry (slice_get (entries_in view table) n) ≡ Some row → slice_get row.cells key ≡ None → ⊥
  row_has_key next has =
      elim (slice_get (entries_in view table) n) as (λ o. slice_get (entries_in view table) n ≡ o → option_map of_entry o ≡ Some row → ⊥) [
        | None ↦ λ is next. absurd (cc)
        | Some e ↦ λ is next.
            let same : e.row ≡ row = cc in
            let key_is : Some e.key ≡ None = sym (at_entry e is same) ∙ has in
            absurd (cc)
      ] refl next

-- one more row is taken
pub row_taken : (es : List Entry) (n : ℕ) (row : Row) → option_map of_entry (slice_get es n) ≡ Some row
    → (n < length es) × (map of_entry (take (n + 1) es) ≡ map of_entry (take n es) ++ row ∷ [])
row_taken es n row next = rw (add-one n) (taken es n row next)
  where
    taken : (es : List Entry) (n : ℕ) (row : Row) → option_map of_entry (slice_get es n) ≡ Some row
        → (n < length es) × (map of_entry (take (suc n) es) ≡ map of_entry (take n es) ++ row ∷ [])
    taken [] n row next = absurd (cc)
    taken (e ∷ es) zero row next = let same : e.row ≡ row = cc in (omega arith, ap (λ r. r ∷ []) same)
    taken (e ∷ es) (suc n) row next = let more = taken es n row next in (omega arith, ap (λ rs. e.row ∷ rs) more.1)

-- no row is left
pub rows_end : (es : List Entry) (n : ℕ) → option_map of_entry (slice_get es n) ≡ None → take n es ≡ es
rows_end [] zero next = refl
rows_end [] (suc n) next = refl
rows_end (e ∷ es) zero next = absurd (cc)
rows_end (e ∷ es) (suc n) next = ap (λ fs. e ∷ fs) (rows_end es n next)
