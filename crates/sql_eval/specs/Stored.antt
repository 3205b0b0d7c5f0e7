-- UPDATE and DELETE: what is stored at the key of each row that the filter keeps.
use Rattle.std.specs.Prelude.{◌&&◌, ℕ, ℤ, pos, Bool as Truth, true, false, List, [], ◌∷◌, map, set, length, slice_get, Option, Some, None, Result, Ok, Err, if◌then◌else◌, codes}
use Rattle.pg_values.specs.declared.col_type.ColType.{ColType}
use Rattle.pg_values.specs.declared.col_type.ColType.TheVariants as kind
use Rattle.pg_values.specs.declared.value.Value.{Value}
use Rattle.pg_values.specs.declared.value.Value.TheVariants as value
use Rattle.schema.specs.declared.catalogue.ColumnDef.{ColumnDef}
use Rattle.catalogue.specs.declared.checked.CheckedChange.{CheckedChange}
use Rattle.catalogue.specs.declared.checked.CheckedRemove.{CheckedRemove}
use Rattle.catalogue.specs.declared.checked.TypedSet.{TypedSet}
use Rattle.typed_sql.specs.declared.typed.TypedExpr.{TypedExpr}
use Rattle.sql_values.specs.Outcome.{Outcome}
use Rattle.sql_values.specs.Arithmetic.{as_int4}
use Rattle.sql_values.specs.Order.{is_null}
use Rattle.sql_values.specs.Meaning.{Around, value_in}
use Rattle.sql_eval.specs.declared.row.Row.{Row}
use Rattle.sql_eval.specs.declared.effect.Change.{Change}
use Rattle.sql_eval.specs.Views.{View, Entry, entries_in}
use Rattle.sql_eval.specs.Walks.{Coded, behind, made, all_of, walked}
use Rattle.sql_eval.specs.Reads.{at_row, kept, fitting, row_of}

-- what a write leaves at a key: a new row, or none
abbrev pub changed : ℕ → Value → Option Row → Change
changed table key row = record { table = table; key = key; row = row }

-- a value in the type of its column: int4 and int8 stand for each other where the number fits
abbrev pub as_kind : ColType → Value → Outcome
as_kind kind.Int4 (value.Int8 n) = as_int4 n
as_kind kind.Int8 (value.Int4 n) = Ok (value.Int8 n)
as_kind k v = Ok v

abbrev pub kind_at : List ColumnDef → ℕ → Option ColType
kind_at columns column = elim (slice_get columns column) [ None ↦ None | Some c ↦ Some c.kind ]

abbrev pub as_column : Option ColType → Value → Outcome
as_column None v = Ok v
as_column (Some k) v = as_kind k v

-- ---- NOT NULL

abbrev pub null_refused : List ℕ
null_refused = codes "23502"

-- whether a column that is not null has Null
abbrev pub lacks : List ColumnDef → List Value → Truth
lacks [] cells = false
lacks (column ∷ columns) [] = false
lacks (column ∷ columns) (cell ∷ cells) = if column.not_null && is_null cell then true else lacks columns cells

abbrev pub not_lacking : List ColumnDef → List Value → Coded (List Value)
not_lacking columns cells = if lacks columns cells then Err null_refused else Ok cells

-- ---- UPDATE

-- the value of a SET, from the old row
abbrev pub set_value : Around → List ColumnDef → Row → TypedSet → Outcome
set_value around columns old s = behind (value_in (at_row around old) s.expr) (as_column (kind_at columns s.column))

abbrev pub put_sets : List TypedSet → List Value → List Value → List Value
put_sets [] values cells = cells
put_sets (s ∷ sets) [] cells = cells
put_sets (s ∷ sets) (v ∷ values) cells = put_sets sets values (set cells s.column v)

-- the cells of a row with the values of all SETs
abbrev pub cells_set : Around → List ColumnDef → List TypedSet → Row → Coded (List Value)
cells_set around columns sets old = made (λ values. put_sets sets values old.cells) (all_of (map (set_value around columns old) sets))

-- the new row: the values of all SETs, then NOT NULL, then its size
abbrev pub updated_row : Around → List ColumnDef → List TypedSet → Row → Coded Row
updated_row around columns sets old =
    behind (cells_set around columns sets old) (λ cells. behind (not_lacking columns cells) (λ cells. fitting (row_of cells)))

abbrev pub updated : Around → List ColumnDef → CheckedChange → Option Entry → Coded (Option Change)
updated around columns change None = Ok None
updated around columns change (Some e) =
    made (λ row. Some (changed change.table e.key (Some row))) (updated_row around columns change.sets e.row)

abbrev pub change_of : Around → List ColumnDef → CheckedChange → Entry → Coded (Option Change)
change_of around columns change e = behind (kept around change.filter e) (updated around columns change)

-- filter and SETs at each row in the order of the keys
abbrev pub change_in : Around → View → List ColumnDef → CheckedChange → Coded (List Change)
change_in around view columns change = walked (change_of around columns change) (entries_in view change.table)

-- ---- DELETE

abbrev pub removed : ℕ → Option Entry → Option Change
removed table None = None
removed table (Some e) = Some (changed table e.key None)

abbrev pub removal_of : Around → CheckedRemove → Entry → Coded (Option Change)
removal_of around remove e = made (removed remove.table) (kept around remove.filter e)

abbrev pub remove_in : Around → View → CheckedRemove → Coded (List Change)
remove_in around view remove = walked (removal_of around remove) (entries_in view remove.table)
