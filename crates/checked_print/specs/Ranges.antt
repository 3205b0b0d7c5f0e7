-- Checked statements as the code has them: each number that is written is in the range of its type.
use Rattle.std.specs.Prelude.{◌&&◌, ℤ, pos, neg_ℤ, nat_lt, Bool as Truth, true, false, List, [], ◌∷◌, Option, Some, None}
use Rattle.std.specs.List.{list_all}
use Rattle.std.specs.Int.Signed.{le_z}
use Rattle.pg_values.specs.declared.value.Value.{Value}
use Rattle.pg_values.specs.declared.value.Value.TheVariants as value
use Rattle.typed_sql.specs.declared.typed.TypedExpr.{TypedExpr}
use Rattle.typed_sql.specs.declared.typed.TypedForm.TheOpen.{TypedForm-F}
use Rattle.typed_sql.specs.declared.typed.TypedForm.TheFolds.{fold-TypedExpr}
use Rattle.catalogue.specs.declared.checked.Checked.{Checked}
use Rattle.catalogue.specs.declared.checked.CheckedBody.{CheckedBody}
use Rattle.catalogue.specs.declared.checked.CheckedBody.TheVariants as body
use Rattle.catalogue.specs.declared.checked.CheckedRead.{CheckedRead}
use Rattle.catalogue.specs.declared.checked.CheckedInsert.{CheckedInsert}
use Rattle.catalogue.specs.declared.checked.CheckedChange.{CheckedChange}
use Rattle.catalogue.specs.declared.checked.CheckedRemove.{CheckedRemove}
use Rattle.catalogue.specs.declared.checked.ColumnDesc.{ColumnDesc}
use Rattle.catalogue.specs.declared.checked.TypedCell.{TypedCell}
use Rattle.catalogue.specs.declared.checked.TypedCell.TheVariants as cell
use Rattle.checked_print.specs.Spelled.{fits_int4}

abbrev pub fits_int8 : ℤ → Truth
fits_int8 n = le_z (neg_ℤ (pos 9223372036854775808)) n && le_z n (pos 9223372036854775807)

abbrev pub is_held : Value → Truth
is_held (value.Int4 n) = fits_int4 n
is_held (value.Int8 n) = fits_int8 n
is_held v = true

abbrev pub all : List Truth → Truth
all parts = list_all (λ part. part) parts

abbrev pub held_layer : TypedForm-F Truth Truth Truth Truth → Truth
held_layer (TypedForm-F.Or parts) = all parts
held_layer (TypedForm-F.And parts) = all parts
held_layer (TypedForm-F.Not part) = part
held_layer (TypedForm-F.IsNull part tests) = part
held_layer (TypedForm-F.Compare how left right) = left && right
held_layer (TypedForm-F.Member part negated entries) = part && all entries
held_layer (TypedForm-F.Concat parts) = all parts
held_layer (TypedForm-F.Sum first summands) = first && all summands
held_layer (TypedForm-F.Product first factors) = first && all factors
held_layer (TypedForm-F.Minus part) = part
held_layer (TypedForm-F.Literal v) = is_held v
held_layer (TypedForm-F.Param number) = nat_lt number 4294967296
held_layer (TypedForm-F.Column number) = true
held_layer TypedForm-F.CurrentTimestamp = true
held_layer TypedForm-F.Now = true
held_layer TypedForm-F.TransactionTimestamp = true

abbrev pub is_held_expr : TypedExpr → Truth
is_held_expr = fold-TypedExpr Truth Truth Truth Truth held_layer (λ e. e.form) (λ f. f.part) (λ s. s.part)

abbrev pub is_held_option : Option TypedExpr → Truth
is_held_option None = true
is_held_option (Some e) = is_held_expr e

abbrev pub is_held_cell : TypedCell → Truth
is_held_cell cell.Serial = true
is_held_cell cell.Now = true
is_held_cell (cell.Given e) = is_held_expr e

-- each expression with its column
abbrev pub are_held : List TypedExpr → List ColumnDesc → Truth
are_held [] descs = true
are_held (e ∷ es) [] = true
are_held (e ∷ es) (desc ∷ descs) = is_held_expr e && are_held es descs

-- a list, but of a count
abbrev pub is_held_list : Truth → List TypedExpr → List ColumnDesc → Truth
is_held_list true es descs = true
is_held_list false es descs = are_held es descs

abbrev pub is_held_read : CheckedRead → List ColumnDesc → Truth
is_held_read read descs = is_held_list read.count read.list descs && (is_held_option read.filter && is_held_option read.limit)

abbrev pub is_held_insert : CheckedInsert → Truth
is_held_insert insert = list_all (list_all is_held_cell) insert.rows

abbrev pub is_held_change : CheckedChange → Truth
is_held_change change = list_all (λ s. is_held_expr s.expr) change.sets && is_held_option change.filter

abbrev pub is_held_remove : CheckedRemove → Truth
is_held_remove remove = is_held_option remove.filter

abbrev pub is_held_body : CheckedBody → List ColumnDesc → Truth
is_held_body (body.Read read) descs = is_held_read read descs
is_held_body (body.Insert insert) descs = is_held_insert insert
is_held_body (body.Change change) descs = is_held_change change
is_held_body (body.Remove remove) descs = is_held_remove remove

abbrev pub is_held_statement : Checked → Truth
is_held_statement checked = is_held_body checked.body checked.columns
