-- The row under a key: in a list of entries, in what a copy reads of them, and in the view that they are of.
use Rattle.std.proofs.Common.{◌≡◌, ◌∙◌, ℕ, List, [], ◌∷◌, map, refl, sym, ap, subst}
use Rattle.std.specs.Prelude.{◌==◌, ◌&&◌, T, cond, filter, slice_get, Bool as Truth, true, false, Option, Some, None, if◌then◌else◌}
use Rattle.std.specs.List.{AllByRecursion}
use Rattle.std.specs.FinMap as fin
use Rattle.std.specs.FinMap.Entries.{below_all, find, find-where_key, is_sorted}
use Rattle.std.specs.declared.cmp.Ordering.{Ordering}
use Rattle.std.specs.declared.cmp.Ordering.TheVariants.{Less, Equal, Greater}
use Rattle.std.specs.Ordering.{is_eq, is_gt, is_lt, nat_cmp, ordering_then}
use Rattle.std.proofs.lemmas.Bool.{eq-eqb, eqb-true}
use Rattle.std.proofs.lemmas.Cmp.{nat_cmp_total, tied_itself}
use Rattle.pg_values.specs.declared.value.Value.{Value}
use Rattle.schema.specs.declared.catalogue.TableDef.{TableDef}
use Rattle.sql_values.specs.Outcome.{or_null}
use Rattle.sql_eval.specs.declared.row.Row.{Row}
use Rattle.sql_eval.specs.Views.{Entry, cell_at, entries_in, entry, key_column}
use Rattle.sql_eval.specs.Ordered.{put_in, row_order, sorted}
use Rattle.backend_trait.specs.Typed.{AreAllStored, IsStored}
use Rattle.backend_trait.proofs.Stood.{all_in}
use Rattle.backend_trait.proofs.Walks.{sorted_all}
use Rattle.backend_trait.specs.Keys.{Place, is_place, key_order, place, place_order}
use Rattle.backend_trait.specs.Rows.{Rows}
use Rattle.backend_trait.proofs.KeyLaws.{key_total, place_antisymmetric}
use Rattle.online_recovery.specs.Copies.{by_key, key_of}
use Rattle.recovery_laws.specs.Copied.{entries_copied, row_under}

-- ---- keys and places

pub is_equal : (o : Ordering) → is_eq o ≡ true → o ≡ Equal
is_equal Less e = absurd (let f : false ≡ true = e in cc)
is_equal Equal e = refl
is_equal Greater e = absurd (let f : false ≡ true = e in cc)

pub is_same : (p q : Place) → is_place p q ≡ true → p ≡ q
is_same p q e = place_antisymmetric p q (is_equal (place_order p q) e)

-- of places of one table the keys decide
pub same_table : (p q : Place) → p.table ≡ q.table → place_order p q ≡ key_order p.key q.key
same_table p q same = ap (λ (r : Ordering). ordering_then r (key_order p.key q.key)) (ap (λ (m : ℕ). nat_cmp m q.table) same ∙ tied_itself nat_cmp_total q.table)

pub place_is : (p : Place) (n : ℕ) → (p.table == n) ≡ true → p ≡ place n p.key
place_is p n is = let same : p.table ≡ n = eqb-true p.table n is in λ i. record { table = same i; key = p.key }

-- ---- entries

abbrev pub found : Value → List Entry → Option Row
found key [] = None
found key (e ∷ es) = if is_eq (key_order key e.key) then Some e.row else found key es

-- each key stands before those behind it
abbrev Rising : List Entry → Type 0
Rising [] = Unit {0}
Rising (e ∷ es) = AllByRecursion (λ (f : Entry). key_order e.key f.key ≡ Less) es × Rising es

-- one key is that of one entry at most
two_found : {A : Type 0} (key : Value) (e f : Entry) → key_order e.key f.key ≡ Less → is_eq (key_order key e.key) ≡ true → is_eq (key_order key f.key) ≡ true → A
two_found key e f less first second =
    let one : key_order key f.key ≡ key_order e.key f.key = key_total.congr key e.key f.key (is_equal (key_order key e.key) first) in
    let tie : Equal ≡ Less = sym (is_equal (key_order key f.key) second) ∙ (one ∙ less) in
    absurd (cc)

put_found : (order : Entry → Entry → Ordering) (key : Value) (e : Entry) (fs : List Entry) → AllByRecursion (λ (f : Entry). key_order e.key f.key ≡ Less) fs
    → found key (put_in order e fs) ≡ found key (e ∷ fs)
put_found order key e [] all = refl
put_found order key e (f ∷ fs) all = go (put_found order key e fs all.1) (is_gt (order e f))
  where
    swap : (a b : Truth) → is_eq (key_order key e.key) ≡ a → is_eq (key_order key f.key) ≡ b
        → (if b then Some f.row else if a then Some e.row else found key fs) ≡ (if a then Some e.row else if b then Some f.row else found key fs)
    swap true true first second = two_found key e f all.0 first second
    swap true false first second = refl
    swap false b first second = refl

    go : found key (put_in order e fs) ≡ found key (e ∷ fs) → (b : Truth) → found key (if b then f ∷ put_in order e fs else e ∷ f ∷ fs) ≡ found key (e ∷ f ∷ fs)
    go more false = refl
    go more true = ap (λ (o : Option Row). if is_eq (key_order key f.key) then Some f.row else o) more ∙ swap (is_eq (key_order key e.key)) (is_eq (key_order key f.key)) refl refl

sorted_found : (order : Entry → Entry → Ordering) (key : Value) (es : List Entry) → Rising es
    → found key (sorted order es) ≡ found key es
sorted_found order key [] rises = refl
sorted_found order key (e ∷ es) rises =
    put_found order key e (sorted order es) (sorted_all (λ (f : Entry). key_order e.key f.key ≡ Less) order es rises.0)
    ∙ ap (λ (o : Option Row). if is_eq (key_order key e.key) then Some e.row else o) (sorted_found order key es rises.1)

-- ---- views

both_hold : (a b : Truth) → T (a && b) → T a × T b
both_hold true b h = (tt, h)
both_hold false b h = absurd h

is_less : (o : Ordering) → T (is_lt o) → o ≡ Less
is_less Less h = refl
is_less Equal h = absurd h
is_less Greater h = absurd h

abbrev entries_of : ℕ → List (Place × Row) → List Entry
entries_of n es = map (λ e. entry e.0.key e.1) (filter (λ e. e.0.table == n) es)

behind_all : (p : Place) (n : ℕ) (es : List (Place × Row)) → p.table ≡ n → T (below_all place_order p es)
    → AllByRecursion (λ (f : Entry). key_order p.key f.key ≡ Less) (entries_of n es)
behind_all p n [] same below = tt
behind_all p n (e ∷ es) same below =
    let parts = both_hold (is_lt (place_order p e.0)) (below_all place_order p es) below in
    go (behind_all p n es same parts.1) (is_less (place_order p e.0) parts.0) (e.0.table == n) refl
  where
    go : AllByRecursion (λ (f : Entry). key_order p.key f.key ≡ Less) (entries_of n es) → place_order p e.0 ≡ Less → (b : Truth) → (e.0.table == n) ≡ b
        → AllByRecursion (λ (f : Entry). key_order p.key f.key ≡ Less) (map (λ e. entry e.0.key e.1) (cond b (e ∷ filter (λ e. e.0.table == n) es) (filter (λ e. e.0.table == n) es)))
    go more less true is = (sym (same_table p e.0 (same ∙ sym (eqb-true e.0.table n is))) ∙ less, more)
    go more less false is = more

rising_in : (n : ℕ) (es : List (Place × Row)) → T (is_sorted place_order es) → Rising (entries_of n es)
rising_in n [] sorted = tt
rising_in n (e ∷ es) sorted =
    let parts = both_hold (below_all place_order e.0 es) (is_sorted place_order es) sorted in
    go (rising_in n es parts.1) (behind_all e.0 n es) parts.0 (e.0.table == n) refl
  where
    go : Rising (entries_of n es) → (e.0.table ≡ n → T (below_all place_order e.0 es) → AllByRecursion (λ (f : Entry). key_order e.0.key f.key ≡ Less) (entries_of n es))
        → T (below_all place_order e.0 es) → (b : Truth) → (e.0.table == n) ≡ b
        → Rising (map (λ e. entry e.0.key e.1) (cond b (e ∷ filter (λ e. e.0.table == n) es) (filter (λ e. e.0.table == n) es)))
    go more behind below true is = (behind (eqb-true e.0.table n is) below, more)
    go more behind below false is = more

entries_rise : (view : Rows) (n : ℕ) → Rising (entries_in view n)
entries_rise view n = rising_in n (fin.entries view) (fin.entries_sorted view)

in_table : (n : ℕ) (key : Value) (es : List (Place × Row))
    → found key (entries_of n es) ≡ find place_order (place n key) (filter (λ e. e.0.table == n) es)
in_table n key [] = refl
in_table n key (e ∷ es) = go (in_table n key es) (e.0.table == n) refl
  where
    go : found key (map (λ e. entry e.0.key e.1) (filter (λ e. e.0.table == n) es)) ≡ find place_order (place n key) (filter (λ e. e.0.table == n) es)
        → (b : Truth) → (e.0.table == n) ≡ b
        → found key (map (λ e. entry e.0.key e.1) (cond b (e ∷ filter (λ e. e.0.table == n) es) (filter (λ e. e.0.table == n) es)))
        ≡ find place_order (place n key) (cond b (e ∷ filter (λ e. e.0.table == n) es) (filter (λ e. e.0.table == n) es))
    go more true is =
        ap (λ (o : Option Row). cond (is_eq (key_order key e.0.key)) (Some e.1) o) more
        ∙ ap (λ (r : Ordering). cond (is_eq r) (Some e.1) (find place_order (place n key) (filter (λ e. e.0.table == n) es)))
        (sym (same_table (place n key) e.0 (sym (eqb-true e.0.table n is))))
    go more false is = more

-- an entry of a table is what is seen at its place
pub found_in : (view : Rows) (n : ℕ) (key : Value) → found key (entries_in view n) ≡ fin.get view (place n key)
found_in view n key =
    in_table n key (fin.entries view)
    ∙ (find-where_key place_order (λ (x : Place). x.table == n) (place n key) (λ x tie. ap (λ (p : Place). p.table == n) (sym (place_antisymmetric (place n key) x tie))) (fin.entries view)
    ∙ (ap (λ (b : Truth). cond b (find place_order (place n key) (fin.entries view)) None) (eq-eqb n n refl) ∙ sym (fin.get-entries view (place n key))))

-- and so it is of those that a copy reads
pub copied_found : (tables : List TableDef) (view : Rows) (n : ℕ) (key : Value) → found key (entries_copied tables view n) ≡ fin.get view (place n key)
copied_found tables view n key =
    sorted_found (λ a b. row_order (by_key (key_of (slice_get tables n))) a.row b.row) key (entries_in view n) (entries_rise view n) ∙ found_in view n key

pub all_copied : (tables : List TableDef) (view : Rows) (n : ℕ) → AreAllStored tables view
    → AllByRecursion (λ (e : Entry). IsStored (slice_get tables n) e.key e.row) (entries_copied tables view n)
all_copied tables view n stored =
    sorted_all (λ (e : Entry). IsStored (slice_get tables n) e.key e.row) (λ a b. row_order (by_key (key_of (slice_get tables n))) a.row b.row) (entries_in view n)
    (all_in tables view n stored)

-- ---- rows, each under its own key

abbrev pub IsOwn : Option TableDef → Row → Type 0
IsOwn table row = IsStored table (cell_at (key_column table) row) row

pub under_rows : (table : Option TableDef) (key : Value) (es : List Entry) → AllByRecursion (λ (e : Entry). IsStored table e.key e.row) es
    → row_under (key_column table) key (map (λ (e : Entry). e.row) es) ≡ found key es
under_rows table key [] all = refl
under_rows table key (e ∷ es) all =
    let here = all.0 in
    ap (λ (o : Option Row). if is_eq (key_order key (cell_at (key_column table) e.row)) then Some e.row else o) (under_rows table key es all.1)
    ∙ ap (λ (k : Value). if is_eq (key_order key k) then Some e.row else found key es) (ap or_null here.own)

pub own_rows : (table : Option TableDef) (es : List Entry) → AllByRecursion (λ (e : Entry). IsStored table e.key e.row) es
    → AllByRecursion (IsOwn table) (map (λ (e : Entry). e.row) es)
own_rows table [] all = tt
own_rows table (e ∷ es) all =
    let here = all.0 in
    let own : e.key ≡ cell_at (key_column table) e.row = sym (ap or_null here.own) in
    (subst (λ (k : Value). IsStored table k e.row) own here, own_rows table es all.1)
