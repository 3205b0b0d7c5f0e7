-- The order of rows is one, and a stable sort by it gives the rows in order.
use Rattle.std.proofs.Common.{◌≡◌, List, [], ◌∷◌, map, refl, sym, ap, ◌∙◌}
use Rattle.std.specs.Prelude.{Bool as Truth, true, false}
use Rattle.std.specs.declared.cmp.Ordering.{Ordering}
use Rattle.std.specs.declared.cmp.Ordering.TheVariants.{Less, Equal, Greater}
use Rattle.std.specs.Ordering.{ordering_reverse, is_lt, is_gt, then_cmp, on, bool_cmp}
use Rattle.std.specs.Cmp.{IsTotalOrder}
use Rattle.std.specs.Cmp.{bool_cmp_total}
use Rattle.std.specs.List.Sorted.{IsSortedBy, IsStableBy}
use Rattle.std.proofs.lemmas.Cmp.{int_cmp_total, nat_list_cmp_total, then_total, on_total, tied_itself}
use Rattle.std.proofs.lemmas.List.Sorted.{ranks_by}
use Rattle.sql_values.specs.Order.{is_null, number_in, text_in, standing}
use Rattle.sql_eval.specs.declared.row.Row.{Row}
use Rattle.sql_eval.specs.Views.{Entry, cell_at}
use Rattle.catalogue.specs.declared.checked.OrderKey.{OrderKey}
use Rattle.sql_eval.specs.Ordered.{null_last, directed, key_stand, row_order, ordered}
use Rattle.sql_eval.proofs.Sorting.{rises_all, sorted_once, mapped_sorted}

pub standing_total : IsTotalOrder standing
standing_total = then_total (on_total number_in int_cmp_total) (on_total text_in nat_list_cmp_total)

null_last_total : IsTotalOrder null_last
null_last_total = then_total (on_total is_null bool_cmp_total) standing_total

back_equal : (o : Ordering) → ordering_reverse o ≡ Equal → o ≡ Equal
back_equal Less e = absurd (cc)
back_equal Equal e = refl
back_equal Greater e = absurd (cc)

directed_total : {K : Type 0} (falling : Truth) (R : K → K → Ordering) → IsTotalOrder R → IsTotalOrder (λ a b. directed falling (R a b))
directed_total false R o = o
directed_total true R o = record {
  antisymm = λ x y. ap ordering_reverse (o.antisymm x y);
  trans = λ x y z xy yz. sym (o.antisymm z x) ∙ o.trans z y x (o.antisymm z y ∙ yz) (o.antisymm y x ∙ xy);
  congr = λ x y z xy. ap ordering_reverse (o.congr x y z (back_equal (R x y) xy));
}

equal_total : {K : Type 0} → IsTotalOrder (λ (a b : K). Equal)
equal_total = record {
  antisymm = λ x y. refl;
  trans = λ x y z xy yz. xy;
  congr = λ x y z xy. refl;
}

cell_total : (key : OrderKey) → IsTotalOrder (key_stand key)
cell_total key = directed_total key.falling (λ a b. null_last (cell_at key.column a) (cell_at key.column b)) (on_total (cell_at key.column) null_last_total)

pub row_order_total : (keys : List OrderKey) → IsTotalOrder (row_order keys)
row_order_total [] = equal_total
row_order_total (key ∷ keys) = then_total (cell_total key) (row_order_total keys)

-- what stands for entries, sorted by their rows
pub put_in_order : {X : Type 0} (keys : List OrderKey) (entry : X → Entry) (xs ys : List X)
    → IsSortedBy (λ (a b : X). is_lt (row_order keys (entry a).row (entry b).row)) ys
    → IsStableBy (λ (a b : X). is_lt (row_order keys (entry a).row (entry b).row)) xs ys
    → map entry ys ≡ ordered keys (map entry xs)
put_in_order {X} keys entry xs ys up stable =
    let total = row_order_total keys in
    let order = λ (a b : X). row_order keys (entry a).row (entry b).row in
    let weak = ranks_by total (λ (x : X). (entry x).row) in
    let flips = λ (a b : X). ap is_gt (total.antisymm (entry a).row (entry b).row) ∙ reversed (order b a) in
    ap (map entry) (sorted_once order weak flips xs ys (rises_all (λ (a b : X). is_lt (order a b)) weak ys up) stable)
    ∙ mapped_sorted entry (λ (a b : Entry). row_order keys a.row b.row) xs
  where
    reversed : (o : Ordering) → is_gt (ordering_reverse o) ≡ is_lt o
    reversed Less = refl
    reversed Equal = refl
    reversed Greater = refl
