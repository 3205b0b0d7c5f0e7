-- SELECT: the whole table filtered, ordered and cut, and the list of each row that is left.
use Rattle.std.specs.Prelude.{◌+◌, nat_lt, length, take, ℕ, ℤ, pos, negsuc, Bool as Truth, true, false, List, [], ◌∷◌, map, sum, Option, Some, None, Result, Ok, Err, if◌then◌else◌, codes}
use Rattle.pg_values.specs.declared.value.Value.{Value}
use Rattle.pg_values.specs.declared.value.Value.TheVariants as value
use Rattle.catalogue.specs.declared.checked.CheckedRead.{CheckedRead}
use Rattle.typed_sql.specs.declared.typed.TypedExpr.{TypedExpr}
use Rattle.sql_values.specs.Outcome.{Outcome, too_large}
use Rattle.sql_values.specs.Logic.{is_truth}
use Rattle.sql_values.specs.Meaning.{Around, value_in}
use Rattle.sql_eval.specs.declared.row.Row.{Row}
use Rattle.sql_eval.specs.declared.effect.ReadEffect.{ReadEffect}
use Rattle.sql_eval.specs.Views.{View, Entry, entry, entries_in}
use Rattle.sql_eval.specs.Walks.{Coded, behind, made, all_of, walked}
use Rattle.sql_eval.specs.Ordered.{ordered}

-- what stands round a statement: its parameters, and the moment of the transaction
abbrev pub round : List Value → ℤ → Around
round parameters moment = record { row = []; parameters = parameters; moment = moment }

-- a statement that has no parameters and no time functions
abbrev pub alone : Around
alone = round [] (pos 0)

-- the same, round an expression at a row
abbrev pub at_row : Around → Row → Around
at_row around row = record { row = row.cells; parameters = around.parameters; moment = around.moment }

abbrev pub no_row : Row
no_row = record { cells = [] }

-- ---- the filter

-- a row stays where there is no filter, and where the filter is true
abbrev pub is_kept : Around → Option TypedExpr → Row → Coded Truth
is_kept around None row = Ok true
is_kept around (Some filter) row = made (is_truth true) (value_in (at_row around row) filter)

abbrev pub where_kept : {A : Type 0} → A → Truth → Option A
where_kept a stays = if stays then Some a else None

abbrev pub kept_row : Around → Option TypedExpr → Row → Coded (Option Row)
kept_row around filter row = made (where_kept row) (is_kept around filter row)

abbrev pub kept : Around → Option TypedExpr → Entry → Coded (Option Entry)
kept around filter e = made (where_kept e) (is_kept around filter e.row)

-- ---- the limit

abbrev pub negative_limit : List ℕ
negative_limit = codes "2201W"

abbrev pub limit_number : ℤ → Coded (Option ℕ)
limit_number (pos n) = Ok (Some n)
limit_number (negsuc n) = Err negative_limit

-- how many rows a limit leaves; Null is none
abbrev pub limit_of : Value → Coded (Option ℕ)
limit_of (value.Int4 n) = limit_number n
limit_of (value.Int8 n) = limit_number n
limit_of v = Ok None

abbrev pub limit_in : Around → Option TypedExpr → Coded (Option ℕ)
limit_in around None = Ok None
limit_in around (Some limit) = behind (value_in (at_row around no_row) limit) limit_of

abbrev pub cut : {A : Type 0} → Option ℕ → List A → List A
cut None xs = xs
cut (Some n) xs = take n xs

-- ---- the list

-- a text counts its bytes, another cell 32, and each cell 4 more; a row counts at most 1048000
abbrev pub cell_size : Value → ℕ
cell_size (value.Text text) = length text + 4
cell_size v = 36

abbrev pub row_size : Row → ℕ
row_size row = sum (map cell_size row.cells)

abbrev pub fitting : Row → Coded Row
fitting row = if nat_lt 1048000 (row_size row) then Err too_large else Ok row

abbrev pub row_of : List Value → Row
row_of cells = record { cells = cells }

-- the items from left to right, and then the size of the row
abbrev pub result_row : Around → List TypedExpr → Row → Coded Row
result_row around list row = behind (all_of (map (value_in (at_row around row)) list)) (λ cells. fitting (row_of cells))

-- ---- the whole

abbrev pub keys_wanted : Truth → List Entry → List Value
keys_wanted for_update es = if for_update then map (λ e. e.key) es else []

-- the rows, and the keys of those that FOR UPDATE wants
abbrev pub reading : Truth → List Entry → List Row → ReadEffect
reading for_update es rows = record { rows = rows; keys = keys_wanted for_update es }

abbrev pub counted : ℕ → ReadEffect
counted count = record { rows = row_of (value.Int8 (pos count) ∷ []) ∷ []; keys = [] }

-- the list of the rows that are left by order and limit
abbrev pub listed : Around → CheckedRead → List Entry → Coded ReadEffect
listed around read es = made (reading read.for_update es) (all_of (map (λ e. result_row around read.list e.row) es))

abbrev pub shown : Around → CheckedRead → List Entry → Coded ReadEffect
shown around read es =
    if read.count then Ok (counted (length es))
    else behind (limit_in around read.limit) (λ limit. listed around read (cut limit (ordered read.order es)))

-- without a table there is one row, of no cells
abbrev pub entries_read : View → Option ℕ → List Entry
entries_read view None = entry value.Null no_row ∷ []
entries_read view (Some table) = entries_in view table

-- the filter at each row in the order of the keys; then order and limit; then the list
abbrev pub read_in : Around → View → CheckedRead → Coded ReadEffect
read_in around view read = behind (walked (kept around read.filter) (entries_read view read.table)) (shown around read)
