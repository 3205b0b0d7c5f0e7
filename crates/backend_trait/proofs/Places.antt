-- Places that tie are one place, so the entries of some places of a view are those of the view there.
use Rattle.std.proofs.Common.{◌≡◌, refl, ap, sym, ◌∙◌}
use Rattle.std.specs.Prelude.{cond, T, List, Bool as Truth, true, false, Option, None}
use Rattle.std.specs.FinMap.{IsAntisymmetric, entries, entries_sorted, entries-from_sorted, from_sorted, get-entries, get-from_sorted, get-retain_keys, int_cmp-IsAntisymmetric, nat_cmp-IsAntisymmetric, retain_keys, same_map, slice_cmp-IsAntisymmetric}
use Rattle.std.specs.FinMap.Entries.{find-where_key, is_sorted, is_sorted-where_key, where_key}
use Rattle.std.specs.declared.cmp.Ordering.{Ordering}
use Rattle.std.specs.declared.cmp.Ordering.TheVariants.{Less, Equal, Greater}
use Rattle.std.specs.Cmp.Lexicographic.{slice_cmp}
use Rattle.std.specs.Ordering.{int_cmp, nat_cmp, ordering_then}
use Rattle.std.specs.Cmp.{IsTotalOrder}
use Rattle.std.proofs.lemmas.Cmp.{int_cmp_total, nat_cmp_total, nat_list_cmp_total, on_total, then_total}
use Rattle.pg_values.specs.declared.value.Value.{Value}
use Rattle.pg_values.specs.declared.value.Value.TheVariants as value
use Rattle.sql_values.specs.Order.{number_in, number_of_bool, text_in}
use Rattle.sql_eval.specs.declared.row.Row.{Row}
use Rattle.sql_eval.specs.Views.{View, Place, key_of, key_order, place_order, rank_of, table_of}

key_total : IsTotalOrder key_order
key_total = then_total (on_total rank_of nat_cmp_total) (then_total (on_total number_in int_cmp_total) (on_total text_in nat_list_cmp_total))

pub place_total : IsTotalOrder place_order
place_total = then_total (on_total table_of nat_cmp_total) (on_total key_of key_total)

both_tie : (a b : Ordering) → ordering_then a b ≡ Equal → (a ≡ Equal) × (b ≡ Equal)
both_tie Less b e = absurd (cc)
both_tie Equal b e = (refl, e)
both_tie Greater b e = absurd (cc)

same_bool : (a b : Truth) → number_of_bool a ≡ number_of_bool b → a ≡ b
same_bool true true e = refl
same_bool true false e = absurd (cc)
same_bool false true e = absurd (cc)
same_bool false false e = refl

same_value : (x y : Value) → rank_of x ≡ rank_of y → number_in x ≡ number_in y → text_in x ≡ text_in y → x ≡ y
same_value value.Null value.Null r n t = refl
same_value (value.Bool a) (value.Bool b) r n t = ap value.Bool (same_bool a b n)
same_value (value.Int4 a) (value.Int4 b) r n t = ap value.Int4 n
same_value (value.Int8 a) (value.Int8 b) r n t = ap value.Int8 n
same_value (value.Text a) (value.Text b) r n t = ap value.Text t
same_value (value.Moment a) (value.Moment b) r n t = ap value.Moment n
same_value x y r n t = absurd (cc)

key_antisymmetric : IsAntisymmetric key_order
key_antisymmetric x y e =
    let first = both_tie (nat_cmp (rank_of x) (rank_of y)) _ e in
    let rest = both_tie (int_cmp (number_in x) (number_in y)) (slice_cmp nat_cmp (text_in x) (text_in y)) first.1 in
    same_value x y (nat_cmp-IsAntisymmetric _ _ first.0) (int_cmp-IsAntisymmetric _ _ rest.0) (slice_cmp-IsAntisymmetric nat_cmp-IsAntisymmetric _ _ rest.1)

pub place_antisymmetric : IsAntisymmetric place_order
place_antisymmetric x y e =
    let both = both_tie (nat_cmp x.table y.table) (key_order x.key y.key) e in
    let table : x.table ≡ y.table = nat_cmp-IsAntisymmetric _ _ both.0 in
    let key : x.key ≡ y.key = key_antisymmetric _ _ both.1 in
    λ i. record { table = table i; key = key i }

module _ (view : View) (p : Place → Truth) where
  -- what ties is alike
  pub alike : (q x : Place) → place_order q x ≡ Equal → p x ≡ p q
  alike q x e = ap p (sym (place_antisymmetric q x e))

  abbrev kept : List (Place × Row)
  kept = where_key place_order p (entries view)

  kept_sorted : T (is_sorted place_order kept)
  kept_sorted = is_sorted-where_key place_order p (entries view) (entries_sorted view)

  pub entries_kept : entries (retain_keys view p) ≡ kept
  entries_kept =
      ap entries (same_map place_total place_antisymmetric (retain_keys view p) (from_sorted kept) (λ q.
      get-retain_keys view p q (alike q)
      ∙ (ap (λ (o : Option Row). cond (p q) o None) (get-entries view q)
      ∙ (sym (find-where_key place_order p q (alike q) (entries view)) ∙ sym (get-from_sorted place_order kept q kept_sorted)))))
      ∙ entries-from_sorted place_order kept kept_sorted
