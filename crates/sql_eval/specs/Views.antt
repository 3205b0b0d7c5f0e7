-- What a statement sees: a row at each of some places, in the order of tables and keys.
use Rattle.std.specs.Prelude.{◌≡◌, ◌==◌, All, slice_get, ℕ, ℤ, pos, Bool as Truth, true, false, List, [], ◌∷◌, map, filter, Option, Some, None}
use Rattle.std.specs.FinMap as fin
use Rattle.std.specs.declared.cmp.Ordering.{Ordering}
use Rattle.std.specs.Ordering.{nat_cmp, int_cmp, then_cmp, on, is_gt}
use Rattle.std.specs.List.{find}
use Rattle.std.specs.Option.{option_map}
use Rattle.std.specs.Cmp.Lexicographic.{slice_cmp}
use Rattle.pg_values.specs.declared.value.Value.{Value}
use Rattle.pg_values.specs.declared.value.Value.TheVariants as value
use Rattle.schema.specs.declared.catalogue.ColumnDef.{ColumnDef}
use Rattle.schema.specs.declared.catalogue.TableDef.{TableDef}
use Rattle.sql_values.specs.Outcome.{or_null}
use Rattle.sql_values.specs.Order.{number_in, text_in}
use Rattle.sql_eval.specs.declared.row.Row.{Row}

-- the kinds of values, one after another
abbrev pub rank_of : Value → ℕ
rank_of value.Null = 0
rank_of (value.Bool b) = 1
rank_of (value.Int4 n) = 2
rank_of (value.Int8 n) = 3
rank_of (value.Text t) = 4
rank_of (value.Moment m) = 5

-- keys of one kind stand as their values do
abbrev pub key_order : Value → Value → Ordering
key_order = then_cmp (on rank_of nat_cmp) (then_cmp (on number_in int_cmp) (on text_in (slice_cmp nat_cmp)))

-- where a row stands
pub record Place : Type 0 where
  pub table : ℕ
  pub key : Value

abbrev pub table_of : Place → ℕ
table_of place = place.table

abbrev pub key_of : Place → Value
key_of place = place.key

abbrev pub place_order : Place → Place → Ordering
place_order = then_cmp (on table_of nat_cmp) (on key_of key_order)

abbrev pub place : ℕ → Value → Place
place table key = record { table = table; key = key }

abbrev pub View : Type 0
View = fin.FinMap place_order Row

-- a row and its key
pub record Entry : Type 0 where
  pub key : Value
  pub row : Row

abbrev pub entry : Value → Row → Entry
entry key row = record { key = key; row = row }

-- the rows of a table in rising order of their keys
abbrev pub entries_in : View → ℕ → List Entry
entries_in view table = map (λ e. entry e.0.key e.1) (filter (λ e. e.0.table == table) (fin.entries view))

abbrev pub is_behind : Option Value → Entry → Truth
is_behind None e = true
is_behind (Some key) e = is_gt (key_order e.key key)

-- the first row behind a key, or of all
abbrev pub row_behind : View → ℕ → Option Value → Option Row
row_behind view table key = option_map (λ e. e.row) (find (is_behind key) (entries_in view table))

abbrev pub cell_at : ℕ → Row → Value
cell_at column row = or_null (slice_get row.cells column)

-- a row under the key that stands in a column of it
abbrev pub entry_of : ℕ → Row → Entry
entry_of column row = entry (cell_at column row) row

-- a row stands under its own key
abbrev pub IsUnderItsKey : ℕ → Entry → Type 0
IsUnderItsKey column e = slice_get e.row.cells column ≡ Some e.key

-- ---- what a table is

abbrev pub columns_of : Option TableDef → List ColumnDef
columns_of None = []
columns_of (Some table) = table.columns

abbrev pub key_column : Option TableDef → ℕ
key_column None = 0
key_column (Some table) = table.key

abbrev pub serial_column : Option TableDef → Option ℕ
serial_column None = None
serial_column (Some table) = table.serial

-- the rows of a table stand under their own keys, which stand in a column of them
abbrev pub IsKeyedBy : View → ℕ → ℕ → Type 0
IsKeyedBy view number column = All (IsUnderItsKey column) (entries_in view number)

abbrev pub IsKeyed : View → ℕ → Option TableDef → Type 0
IsKeyed view number table = IsKeyedBy view number (key_column table)
