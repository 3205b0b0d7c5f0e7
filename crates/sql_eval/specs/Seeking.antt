-- Rows of a table that a filter need not be asked at, since it asks for one key.
use Rattle.std.specs.Prelude.{◌≡◌, ◌⊎◌, ◌&&◌, ◌||◌, not, ℕ, Bool as Truth, true, false, List, [], ◌∷◌, map, slice_get, Option, Some, None, Ok}
use Rattle.std.specs.List.{AllByRecursion}
use Rattle.std.specs.Option.{option_map}
use Rattle.std.specs.Ordering.{is_eq}
use Rattle.pg_values.specs.declared.value.Value.{Value}
use Rattle.pg_values.specs.declared.value.Value.TheVariants as value
use Rattle.sql_tree.specs.declared.expr.Comparison.TheVariants as how
use Rattle.typed_sql.specs.declared.typed.TypedExpr.{TypedExpr}
use Rattle.sql_values.specs.Outcome.{of_both}
use Rattle.sql_values.specs.Order.{compared, is_null, number_in, standing, text_in}
use Rattle.sql_values.specs.Logic.{junction}
use Rattle.sql_values.specs.Meaning.{value_in}
use Rattle.sql_eval.specs.declared.row.Row.{Row}
use Rattle.sql_eval.specs.Views.{Entry, View, cell_at, entries_in, entry_of, key_order, rank_of, row_behind}
use Rattle.sql_eval.specs.Reads.{alone, at_row, is_kept, kept}

-- a key that is not Null and does not stand as a constant does; each, where the constant is Null
abbrev pub is_missed : Value → Value → Truth
is_missed constant key = is_null constant || (not (is_null key) && not (is_eq (standing constant key)))

-- an expression that comes to this at each row
abbrev pub ComesTo : TypedExpr → (Row → Value) → Type 0
ComesTo e found = (row : Row) → value_in (at_row alone row) e ≡ Ok (found row)

-- two operands that are equal, unequal or Null as this says at each row
abbrev pub AreEqualAs : TypedExpr → TypedExpr → (Row → Value) → Type 0
AreEqualAs left right found = (row : Row)
    → of_both (λ a b. Ok (compared how.Equal a b)) (value_in (at_row alone row) left) (value_in (at_row alone row) right) ≡ Ok (found row)

-- whether the key of a row is a constant
abbrev pub key_is : ℕ → Value → Row → Value
key_is key constant row = compared how.Equal (cell_at key row) constant

-- parts of AND that are false at each row whose key misses a constant
abbrev pub AreFalseBeside : List TypedExpr → ℕ → Value → Type 0
AreFalseBeside parts key constant = (row : Row) → is_missed constant (cell_at key row) ≡ true
    → junction false (map (value_in (at_row alone row)) parts) ≡ Ok (value.Bool false)

-- a filter that keeps out each row whose key misses a constant, without a code
abbrev pub Seeks : Option TypedExpr → ℕ → Value → Type 0
Seeks filter key constant = (row : Row) → is_missed constant (cell_at key row) ≡ true → is_kept alone filter row ≡ Ok false

-- ---- entries

-- a filter keeps it out, without a code
abbrev pub IsKeptOut : Option TypedExpr → Entry → Type 0
IsKeptOut filter e = kept alone filter e ≡ Ok None

abbrev pub IsMissed : Value → Entry → Type 0
IsMissed constant e = is_missed constant e.key ≡ true

-- entries in their order, without some of those that are left out
abbrev pub AreBut : (Entry → Type 0) → List Entry → List Entry → Type 0
AreBut IsOut [] left = left ≡ []
AreBut IsOut (e ∷ es) left = (IsOut e × AreBut IsOut es left) ⊎ ((more : List Entry) × (left ≡ e ∷ more) × AreBut IsOut es more)

-- an entry that misses a constant unless it stands at this key
abbrev pub IsElse : Value → Value → Entry → Type 0
IsElse key constant e = is_eq (key_order key e.key) ≡ false → IsMissed constant e

-- ---- kinds of keys

abbrev pub IsFirstKey : View → ℕ → Value → Type 0
IsFirstKey view table own = option_map (λ (e : Entry). e.key) (slice_get (entries_in view table) 0) ≡ Some own

-- no key of a later kind stands in a table
abbrev pub HasNoLater : View → ℕ → Value → Type 0
HasNoLater view table own = (last : Value) × (rank_of last ≡ rank_of own) × (row_behind view table (Some last) ≡ None)

-- a constant in the kind of a key
abbrev pub IsInKind : Value → Value → Value → Type 0
IsInKind key own constant =
    (is_null own ≡ false) × (rank_of key ≡ rank_of own) × (number_in key ≡ number_in constant) × (text_in key ≡ text_in constant)

-- each entry of a table misses a constant unless it stands at this key
abbrev pub IsSole : View → ℕ → Value → Value → Type 0
IsSole view table key constant = AllByRecursion (IsElse key constant) (entries_in view table)

-- rows that are those of a table without some that are left out
abbrev pub AreRowsBut : (Entry → Type 0) → View → ℕ → ℕ → List Row → Type 0
AreRowsBut IsOut view table key rows = AreBut IsOut (entries_in view table) (map (entry_of key) rows)
