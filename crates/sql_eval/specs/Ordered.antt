-- Rows in the order of a SELECT's keys.
use Rattle.std.specs.Prelude.{ℕ, Bool as Truth, List, [], ◌∷◌, if◌then◌else◌}
use Rattle.std.specs.declared.cmp.Ordering.{Ordering}
use Rattle.std.specs.declared.cmp.Ordering.TheVariants as stand
use Rattle.std.specs.Ordering.{then_cmp, on, bool_cmp, ordering_reverse, is_gt}
use Rattle.pg_values.specs.declared.value.Value.{Value}
use Rattle.catalogue.specs.declared.checked.OrderKey.{OrderKey}
use Rattle.sql_values.specs.Order.{is_null, standing}
use Rattle.sql_eval.specs.declared.row.Row.{Row}
use Rattle.sql_eval.specs.Views.{Entry, cell_at}

-- Null behind all that is not; else as the values stand
abbrev pub null_last : Value → Value → Ordering
null_last = then_cmp (on is_null bool_cmp) standing

abbrev pub directed : Truth → Ordering → Ordering
directed falling stand = if falling then ordering_reverse stand else stand

-- rows by one key
abbrev pub key_stand : OrderKey → Row → Row → Ordering
key_stand key a b = directed key.falling (null_last (cell_at key.column a) (cell_at key.column b))

-- rows by the first key that tells them apart
abbrev pub row_order : List OrderKey → Row → Row → Ordering
row_order [] a b = stand.Equal
row_order (key ∷ keys) a b = then_cmp (key_stand key) (row_order keys) a b

-- put before the first that does not stand before it
abbrev pub put_in : {A : Type 0} → (A → A → Ordering) → A → List A → List A
put_in order e [] = e ∷ []
put_in order e (f ∷ fs) = if is_gt (order e f) then f ∷ put_in order e fs else e ∷ f ∷ fs

-- what stands alike keeps its order
abbrev pub sorted : {A : Type 0} → (A → A → Ordering) → List A → List A
sorted order [] = []
sorted order (e ∷ es) = put_in order e (sorted order es)

abbrev pub ordered : List OrderKey → List Entry → List Entry
ordered keys = sorted (λ a b. row_order keys a.row b.row)
