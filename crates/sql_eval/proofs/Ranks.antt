-- Keys of one kind: at which one alone a row may stand as a constant does, and the row at that key.
use Rattle.std.proofs.Common.{◌≡◌, ℕ, List, [], ◌∷◌, map, refl, ap, sym, ◌∙◌, subst, inl, inr, eq-eqb, Bor}
use Rattle.std.specs.Prelude.{◌≢◌, ◌==◌, ◌||◌, ◌&&◌, not, cond, IfSome, ℤ, Bool as Truth, true, false, Option, Some, None, slice_get}
use Rattle.std.specs.List.{AllByRecursion, filter, find}
use Rattle.std.specs.Option.{option_map, option_to_list}
use Rattle.std.proofs.lemmas.List.Elements.{recursion_from_All}
use borrow.Author.Tests.{eqb-true}
use Rattle.std.specs.FinMap as fin
use Rattle.std.specs.FinMap.{nat_cmp-IsAntisymmetric}
use Rattle.std.specs.declared.cmp.Ordering.{Ordering}
use Rattle.std.specs.declared.cmp.Ordering.TheVariants.{Less, Equal, Greater}
use Rattle.std.specs.Ordering.{is_eq, is_gt, int_cmp, nat_cmp, ordering_reverse, ordering_then}
use Rattle.std.specs.Cmp.Lexicographic.{slice_cmp}
use Rattle.std.proofs.lemmas.Cmp.{tied_itself, nat_cmp_total}
use Rattle.pg_values.specs.declared.value.Value.{Value}
use Rattle.pg_values.specs.declared.value.Value.TheVariants as value
use Rattle.sql_values.specs.Outcome.{or_null}
use Rattle.sql_values.specs.Order.{is_null, number_in, standing, text_in}
use Rattle.sql_eval.specs.declared.row.Row.{Row}
use Rattle.sql_eval.specs.Views.{View, Place, Entry, entry, entry_of, entries_in, is_behind, key_order, place, place_order, rank_of, row_behind, IsUnderItsKey, IsKeyedBy}
use Rattle.sql_eval.specs.Seeking.{AreBut, AreRowsBut, HasNoLater, IsElse, IsFirstKey, IsInKind, IsMissed, IsSole, is_missed}
use Rattle.sql_eval.proofs.Finding.{Rising, Stood, entries_rise, key_order_total, row_first, stands_in, to_entry}
use Rattle.sql_eval.proofs.Sifting.{none_but}

abbrev own_of : Entry → Value
own_of e = e.key

abbrev row_in : Entry → Row
row_in e = e.row

-- the keys of entries rise
abbrev Rise : List Entry → Type 0
Rise es = Rising own_of key_order key_order_total es

-- ---- the row at a key

abbrev is_at : Value → Entry → Truth
is_at key e = is_eq (key_order key e.key)

untied : (r s : Ordering) → is_eq r ≡ false → is_eq (ordering_then r s) ≡ false
untied Less s is = refl
untied Equal s is = absurd (cc)
untied Greater s is = refl

unequal : (a b : ℕ) → (b == a) ≡ false → is_eq (nat_cmp a b) ≡ false
unequal a b other = go (nat_cmp a b) refl
  where
    go : (r : Ordering) → nat_cmp a b ≡ r → is_eq (nat_cmp a b) ≡ false
    go Less is = ap is_eq is
    go Equal is = absurd (
        let same : a ≡ b = nat_cmp-IsAntisymmetric a b is in
        let no : (a == a) ≡ false = subst (λ (n : ℕ). (n == a) ≡ false) (sym same) other in
        let yes : (a == a) ≡ true = eq-eqb a a refl in cc)
    go Greater is = ap is_eq is

module _ (table : ℕ) (key : Value) where
  same_place : (p : Place) → p.table ≡ table → is_eq (place_order (place table key) p) ≡ is_eq (key_order key p.key)
  same_place p same =
      ap (λ (n : ℕ). is_eq (ordering_then (nat_cmp table n) (key_order key p.key))) same
      ∙ ap (λ (r : Ordering). is_eq (ordering_then r (key_order key p.key))) (tied_itself nat_cmp_total table)

  abbrev entries_of : List Stood → List Entry
  entries_of es = map to_entry (filter (stands_in table) es)

  found_in : (es : List Stood) → fin.find place_order (place table key) es ≡ option_map row_in (find (is_at key) (entries_of es))
  found_in [] = refl
  found_in (e ∷ es) =
      let more = found_in es in
      let others = fin.find place_order (place table key) es in
      elim (stands_in table e) as (λ b. stands_in table e ≡ b → cond (is_eq (place_order (place table key) e.0)) (Some e.1) others
      ≡ option_map row_in (find (is_at key) (map to_entry (cond b (e ∷ filter (stands_in table) es) (filter (stands_in table) es))))) [
        | true ↦ λ is. ap (λ (t : Truth). cond t (Some e.1) others) (same_place e.0 (eqb-true e.0.table table is))
            ∙ elim (is_eq (key_order key e.0.key)) as (λ t. cond t (Some e.1) others ≡ option_map row_in (cond t (Some (to_entry e)) (find (is_at key) (entries_of es)))) [
              | true ↦ refl
              | false ↦ more
            ]
        | false ↦ λ is. ap (λ (t : Truth). cond t (Some e.1) others) (untied (nat_cmp table e.0.table) (key_order key e.0.key) (unequal table e.0.table is)) ∙ more
      ] refl

  pub row_found : (view : View) → fin.get view (place table key) ≡ option_map row_in (find (is_at key) (entries_in view table))
  row_found view = fin.get-entries view (place table key) ∙ found_in (fin.entries view)

-- ---- a key that is the only one

module _ (key constant : Value) where
  later_missed : (e : Entry) → key_order key e.key ≡ Equal → (es : List Entry) → AllByRecursion (λ (f : Entry). key_order e.key f.key ≡ Less) es
      → AllByRecursion (IsElse key constant) es → AllByRecursion (IsMissed constant) es
  later_missed e tied [] behind all = tt
  later_missed e tied (f ∷ es) behind all =
      (all.0 (ap is_eq (key_order_total.congr key e.key f.key tied ∙ behind.0)), later_missed e tied es behind.1 all.1)

  is_tied : (r : Ordering) → is_eq r ≡ true → r ≡ Equal
  is_tied Less is = absurd (cc)
  is_tied Equal is = refl
  is_tied Greater is = absurd (cc)

  -- what is found at the key leaves those out that miss the constant
  found_left : (column : ℕ) (es : List Entry) → Rise es → AllByRecursion (IsUnderItsKey column) es → AllByRecursion (IsElse key constant) es
      → AreBut (IsMissed constant) es (map (entry_of column) (option_to_list (option_map row_in (find (is_at key) es))))
  found_left column [] rises under all = refl
  found_left column (e ∷ es) rises under all =
      let more = found_left column es rises.1 under.1 all.1 in
      elim (is_eq (key_order key e.key)) as (λ t. is_eq (key_order key e.key) ≡ t
      → AreBut (IsMissed constant) (e ∷ es) (map (entry_of column) (option_to_list (option_map row_in (cond t (Some e) (find (is_at key) es)))))) [
        | true ↦ λ tied. inr (
          [],
          ap (λ k. entry (or_null k) e.row ∷ []) under.0,
          none_but (IsMissed constant) es (later_missed e (is_tied (key_order key e.key) tied) es rises.0 all.1),
        )
        | false ↦ λ other. inl (all.0 other, more)
      ] refl

  pub sole_left : (view : View) (table column : ℕ) (rows : List Row) → IsKeyedBy view table column → IsSole view table key constant
      → rows ≡ option_to_list (fin.get view (place table key)) → AreRowsBut (IsMissed constant) view table column rows
  sole_left view table column rows keyed sole are =
      subst (λ (rs : List Row). AreRowsBut (IsMissed constant) view table column rs) (sym (are ∙ ap option_to_list (row_found table key view)))
      (found_left column (entries_in view table) (entries_rise view table)
      (recursion_from_All (IsUnderItsKey column) (entries_in view table) keyed) sole)

-- nothing stands as Null does
pub null_left : (view : View) (table column : ℕ) (constant : Value) → is_null constant ≡ true → AreRowsBut (IsMissed constant) view table column []
null_left view table column constant null = none_but (IsMissed constant) (entries_in view table) (each (entries_in view table))
  where
    each : (es : List Entry) → AllByRecursion (IsMissed constant) es
    each [] = tt
    each (e ∷ es) = (ap (λ (t : Truth). t || (not (is_null e.key) && not (is_eq (standing constant e.key)))) null, each es)

-- ---- kinds

null_by_rank : (v : Value) → is_null v ≡ (rank_of v == 0)
null_by_rank value.Null = refl
null_by_rank (value.Bool b) = refl
null_by_rank (value.Int4 n) = refl
null_by_rank (value.Int8 n) = refl
null_by_rank (value.Text t) = refl
null_by_rank (value.Moment m) = refl

alike_null : (v w : Value) → rank_of v ≡ rank_of w → is_null v ≡ is_null w
alike_null v w same = null_by_rank v ∙ (ap (λ (n : ℕ). n == 0) same ∙ sym (null_by_rank w))

missed_by : (constant key : Value) → is_null key ≡ false → is_eq (standing constant key) ≡ false → is_missed constant key ≡ true
missed_by constant key some other =
    ap (λ (t : Truth). is_null constant || (not t && not (is_eq (standing constant key)))) some
    ∙ (ap (λ (t : Truth). is_null constant || (not false && not t)) other ∙ whichever (is_null constant))
  where
    whichever : (b : Truth) → (b || true) ≡ true
    whichever true = refl
    whichever false = refl

-- neither before nor behind
one_rank : (a b : ℕ) (s t : Ordering) → is_gt (ordering_then (nat_cmp a b) s) ≡ false → ordering_then (nat_cmp b a) t ≡ Less → a ≡ b
one_rank a b s t upto behind = go (nat_cmp a b) refl
  where
    go : (r : Ordering) → nat_cmp a b ≡ r → a ≡ b
    go Less is = absurd (
        let less : ordering_then (ordering_reverse (nat_cmp a b)) t ≡ Less = ap (λ (r : Ordering). ordering_then r t) (sym (nat_cmp_total.antisymm b a)) ∙ behind in
        let no : Greater ≡ Less = ap (λ (r : Ordering). ordering_then (ordering_reverse r) t) (sym is) ∙ less in cc)
    go Equal is = nat_cmp-IsAntisymmetric a b is
    go Greater is = absurd (let no : true ≡ false = ap (λ (r : Ordering). is_gt (ordering_then r s)) (sym is) ∙ upto in cc)

module _ (own last : Value) (alike : rank_of last ≡ rank_of own) where
  upto_last : (es : List Entry) → option_map row_in (find (is_behind (Some last)) es) ≡ None → AllByRecursion (λ (e : Entry). is_gt (key_order e.key last) ≡ false) es
  upto_last [] none = tt
  upto_last (e ∷ es) none =
      elim (is_gt (key_order e.key last)) as (λ t. is_gt (key_order e.key last) ≡ t → option_map row_in (cond t (Some e) (find (is_behind (Some last)) es)) ≡ None
      → (is_gt (key_order e.key last) ≡ false) × AllByRecursion (λ (e : Entry). is_gt (key_order e.key last) ≡ false) es) [
        | true ↦ λ is found. absurd (cc)
        | false ↦ λ is found. (is, upto_last es found)
      ] refl none

  later_alike : (es : List Entry) → AllByRecursion (λ (e : Entry). key_order own e.key ≡ Less) es → AllByRecursion (λ (e : Entry). is_gt (key_order e.key last) ≡ false) es
      → AllByRecursion (λ (e : Entry). rank_of e.key ≡ rank_of own) es
  later_alike [] behind upto = tt
  later_alike (e ∷ es) behind upto = (
    one_rank (rank_of e.key) (rank_of own) (standing e.key last) (standing own e.key)
        (subst (λ (n : ℕ). is_gt (ordering_then (nat_cmp (rank_of e.key) n) (standing e.key last)) ≡ false) alike upto.0) behind.0,
    later_alike es behind.1 upto.1,
  )

  all_alike : (es : List Entry) → Rise es → option_map own_of (slice_get es 0) ≡ Some own → option_map row_in (find (is_behind (Some last)) es) ≡ None
      → AllByRecursion (λ (e : Entry). rank_of e.key ≡ rank_of own) es
  all_alike [] rises first none = tt
  all_alike (e ∷ es) rises first none =
      let same : e.key ≡ own = cc in
      (ap rank_of same, later_alike es (subst (λ (k : Value). AllByRecursion (λ (f : Entry). key_order k f.key ≡ Less) es) same rises.0) (upto_last (e ∷ es) none).1)

module _ (key own constant : Value) (kind : IsInKind key own constant) where
  else_alike : (e : Entry) → rank_of e.key ≡ rank_of own → IsElse key constant e
  else_alike e alike = λ other.
      missed_by constant e.key (alike_null e.key own alike ∙ kind.0)
      (sym (ap (λ (n : ℤ). is_eq (ordering_then (int_cmp n (number_in e.key)) (slice_cmp nat_cmp (text_in key) (text_in e.key)))) kind.2
      ∙ ap (λ (t : List ℕ). is_eq (ordering_then (int_cmp (number_in constant) (number_in e.key)) (slice_cmp nat_cmp t (text_in e.key)))) kind.3)
      ∙ (sym (ap (λ (r : Ordering). is_eq (ordering_then r (standing key e.key)))
      (ap (nat_cmp (rank_of key)) (alike ∙ sym kind.1) ∙ tied_itself nat_cmp_total (rank_of key))) ∙ other))

  each_alike : (es : List Entry) → AllByRecursion (λ (e : Entry). rank_of e.key ≡ rank_of own) es → AllByRecursion (IsElse key constant) es
  each_alike [] all = tt
  each_alike (e ∷ es) all = (else_alike e all.0, each_alike es all.1)

  pub sole_number : (view : View) (table : ℕ) → IsFirstKey view table own → HasNoLater view table own → IsSole view table key constant
  sole_number view table first no_later =
      each_alike (entries_in view table)
      (all_alike own no_later.0 no_later.1 (entries_in view table) (entries_rise view table) first no_later.2)

-- ---- texts

-- behind a key that is not Null there is no Null
later_some : (own key : Value) → is_null own ≡ false → key_order own key ≡ Less → is_null key ≡ false
later_some value.Null key some behind = absurd (cc)
later_some (value.Bool b) value.Null some behind = absurd (let no : Greater ≡ Less = behind in cc)
later_some (value.Int4 n) value.Null some behind = absurd (let no : Greater ≡ Less = behind in cc)
later_some (value.Int8 n) value.Null some behind = absurd (let no : Greater ≡ Less = behind in cc)
later_some (value.Text t) value.Null some behind = absurd (let no : Greater ≡ Less = behind in cc)
later_some (value.Moment m) value.Null some behind = absurd (let no : Greater ≡ Less = behind in cc)
later_some own (value.Bool b) some behind = refl
later_some own (value.Int4 n) some behind = refl
later_some own (value.Int8 n) some behind = refl
later_some own (value.Text t) some behind = refl
later_some own (value.Moment m) some behind = refl

-- no other kind has a text
bare : (a b : ℤ) (t : List ℕ) → t ≢ [] → is_eq (ordering_then (int_cmp a b) (slice_cmp nat_cmp t [])) ≡ false
bare a b [] some = absurd (some refl)
bare a b (x ∷ t) some = go (int_cmp a b)
  where
    go : (r : Ordering) → is_eq (ordering_then r Greater) ≡ false
    go Less = refl
    go Equal = refl
    go Greater = refl

module _ (constant : Value) (some : text_in constant ≢ []) where
  else_text : (key : Value) → is_eq (key_order constant key) ≡ false → is_eq (standing constant key) ≡ false
  else_text value.Null other = bare (number_in constant) (number_in value.Null) (text_in constant) some
  else_text (value.Bool b) other = bare (number_in constant) (number_in (value.Bool b)) (text_in constant) some
  else_text (value.Int4 n) other = bare (number_in constant) n (text_in constant) some
  else_text (value.Int8 n) other = bare (number_in constant) n (text_in constant) some
  else_text (value.Moment m) other = bare (number_in constant) m (text_in constant) some
  else_text (value.Text t) other = of_text constant some other
    where
      of_text : (constant : Value) → text_in constant ≢ [] → is_eq (key_order constant (value.Text t)) ≡ false → is_eq (standing constant (value.Text t)) ≡ false
      of_text (value.Text u) some other = other
      of_text value.Null some other = absurd (some refl)
      of_text (value.Bool b) some other = absurd (some refl)
      of_text (value.Int4 n) some other = absurd (some refl)
      of_text (value.Int8 n) some other = absurd (some refl)
      of_text (value.Moment m) some other = absurd (some refl)

  each_text : (own : Value) → is_null own ≡ false → (es : List Entry) → AllByRecursion (λ (e : Entry). key_order own e.key ≡ Less) es → AllByRecursion (IsElse constant constant) es
  each_text own there [] behind = tt
  each_text own there (e ∷ es) behind =
      (λ other. missed_by constant e.key (later_some own e.key there behind.0) (else_text e.key other), each_text own there es behind.1)

  all_text : (own : Value) → is_null own ≡ false → (es : List Entry) → Rise es → option_map own_of (slice_get es 0) ≡ Some own → AllByRecursion (IsElse constant constant) es
  all_text own there [] rises first = tt
  all_text own there (e ∷ es) rises first =
      let same : e.key ≡ own = cc in (
        λ other. missed_by constant e.key (ap is_null same ∙ there) (else_text e.key other),
        each_text own there es (subst (λ (k : Value). AllByRecursion (λ (f : Entry). key_order k f.key ≡ Less) es) same rises.0),
      )

  pub sole_text : (view : View) (table : ℕ) (own : Value) → IsFirstKey view table own → is_null own ≡ false → IsSole view table constant constant
  sole_text view table own first there = all_text own there (entries_in view table) (entries_rise view table) first

-- ---- the first key

first_of : (key : ℕ) (row : Row) (own : Value) (es : List Entry) → AllByRecursion (IsUnderItsKey key) es → option_map row_in (slice_get es 0) ≡ Some row
    → slice_get row.cells key ≡ Some own → option_map own_of (slice_get es 0) ≡ Some own
first_of key row own [] all first has = absurd (cc)
first_of key row own (e ∷ es) all first has =
    let same : e.row ≡ row = cc in
    sym all.0 ∙ (ap (λ (r : Row). slice_get r.cells key) same ∙ has)

pub first_there : (view : View) (table key : ℕ) → IsKeyedBy view table key → (row : Row) → row_behind view table None ≡ Some row
    → (o : Option (Bor Value)) → option_map (λ (v : Bor Value). v.now) o ≡ slice_get row.cells key → IfSome o (λ (v : Bor Value). IsFirstKey view table v.now)
first_there view table key keyed row first None has = tt
first_there view table key keyed row first (Some own) has =
    first_of key row own.now (entries_in view table) (recursion_from_All (IsUnderItsKey key) (entries_in view table) keyed)
    (sym (row_first view table) ∙ first) (sym has)
