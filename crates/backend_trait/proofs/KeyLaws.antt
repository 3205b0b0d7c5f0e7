-- The laws of the order of places.
use Rattle.std.proofs.Common.{◌≡◌, Bool, true, false, refl, ap}
use Rattle.std.specs.declared.cmp.Ordering.{Ordering}
use Rattle.std.specs.declared.cmp.Ordering.TheVariants.{Less, Equal, Greater}
use Rattle.std.specs.Ordering.{nat_cmp, int_cmp, ordering_then}
use Rattle.std.specs.Cmp.{IsTotalOrder}
use Rattle.std.specs.Cmp.Lexicographic.{slice_cmp}
use Rattle.std.proofs.lemmas.Cmp.{nat_cmp_total, int_cmp_total, nat_list_cmp_total, on_total, then_total}
use Rattle.std.specs.FinMap.{IsAntisymmetric, nat_cmp-IsAntisymmetric, int_cmp-IsAntisymmetric, slice_cmp-IsAntisymmetric}
use Rattle.pg_values.specs.declared.value.Value.{Value}
use Rattle.pg_values.specs.declared.value.Value.TheVariants as values
use Rattle.sql_values.specs.Order.{number_in, text_in}
use Rattle.backend_trait.specs.Keys.{rank_of, key_order, table_of, key_of, place_order}

pub key_total : IsTotalOrder key_order
key_total = then_total (on_total rank_of nat_cmp_total) (then_total (on_total number_in int_cmp_total) (on_total text_in nat_list_cmp_total))

pub place_total : IsTotalOrder place_order
place_total = then_total (on_total table_of nat_cmp_total) (on_total key_of key_total)

both_tie : (a b : Ordering) → ordering_then a b ≡ Equal → (a ≡ Equal) × (b ≡ Equal)
both_tie Less b e = absurd (cc)
both_tie Equal b e = (refl, e)
both_tie Greater b e = absurd (cc)

same_bool : (a b : Bool) → number_in (values.Bool a) ≡ number_in (values.Bool b) → a ≡ b
same_bool true true e = refl
same_bool true false e = absurd (cc)
same_bool false true e = absurd (cc)
same_bool false false e = refl

same_value : (x y : Value) → rank_of x ≡ rank_of y → number_in x ≡ number_in y → text_in x ≡ text_in y → x ≡ y
same_value values.Null values.Null r n t = refl
same_value (values.Bool a) (values.Bool b) r n t = ap values.Bool (same_bool a b n)
same_value (values.Int4 a) (values.Int4 b) r n t = ap values.Int4 n
same_value (values.Int8 a) (values.Int8 b) r n t = ap values.Int8 n
same_value (values.Text a) (values.Text b) r n t = ap values.Text t
same_value (values.Moment a) (values.Moment b) r n t = ap values.Moment n
same_value x y r n t = absurd (cc)

pub key_antisymmetric : IsAntisymmetric key_order
key_antisymmetric x y e =
    let first = both_tie (nat_cmp (rank_of x) (rank_of y)) _ e in
    let rest = both_tie (int_cmp (number_in x) (number_in y)) (slice_cmp nat_cmp (text_in x) (text_in y)) first.1 in
    same_value x y (nat_cmp-IsAntisymmetric _ _ first.0) (int_cmp-IsAntisymmetric _ _ rest.0) (slice_cmp-IsAntisymmetric nat_cmp-IsAntisymmetric _ _ rest.1)

pub place_antisymmetric : IsAntisymmetric place_order
place_antisymmetric x y e =
    let both = both_tie (nat_cmp x.table y.table) (key_order x.key y.key) e in
    let table : x.table ≡ y.table = nat_cmp-IsAntisymmetric _ _ both.0 in
    let key : x.key ≡ y.key = key_antisymmetric _ _ both.1 in
    λ i. record { table = table i; key = key i }
