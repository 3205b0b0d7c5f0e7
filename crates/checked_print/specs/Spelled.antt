-- The expression that a typed expression is spelled as, by its place.
use Rattle.std.specs.Prelude.{◌&&◌, ◌||◌, ℕ, ℤ, pos, neg_ℤ, Bool as Truth, true, false, List, [], ◌∷◌, map, Option, Some, None, slice_get, if◌then◌else◌}
use Rattle.std.specs.Int.Signed.{le_z}
use Rattle.pg_values.specs.declared.value.Value.{Value}
use Rattle.pg_values.specs.declared.value.Value.TheVariants as value
use Rattle.schema.specs.declared.catalogue.ColumnDef.{ColumnDef}
use Rattle.sql_tree.specs.declared.expr.Expr.{Expr}
use Rattle.sql_tree.specs.declared.expr.Expr.TheVariants as expr
use Rattle.sql_tree.specs.declared.expr.SumPart.{SumPart}
use Rattle.sql_tree.specs.declared.expr.ProductPart.{ProductPart}
use Rattle.typed_sql.specs.declared.typed.TypedExpr.{TypedExpr}
use Rattle.typed_sql.specs.declared.typed.TypedForm.TheOpen.{TypedForm-F, TypedSumPart-F, TypedProductPart-F}
use Rattle.typed_sql.specs.declared.typed.TypedForm.TheFolds.{fold-TypedExpr}
use Rattle.typed_sql.specs.declared.typed.TypedSumPart.{TypedSumPart}
use Rattle.typed_sql.specs.declared.typed.TypedProductPart.{TypedProductPart}
use Rattle.checked_print.specs.declared.place.Place.{Place}
use Rattle.checked_print.specs.declared.place.Place.TheVariants as place
use Rattle.checked_print.specs.Moments.{moment_text}

-- how an expression is spelled at each place: as a part of another, an item or a filter; directly behind a minus; as a whole
-- cell, a value of SET or a limit
pub record Spelling : Type 0 where
  pub part : Expr
  pub negated : Expr
  pub whole : Expr

abbrev pub at : Place → Spelling → Expr
at place.Part s = s.part
at place.Negated s = s.negated
at place.Whole s = s.whole

-- at each place in one way
abbrev pub always : Expr → Spelling
always e = record { part = e; negated = e; whole = e }

abbrev pub summand : Truth → Expr → SumPart
summand minus e = record { minus = minus; part = e }

-- at least 0, or the least int8, which is one number with its minus
abbrev pub is_plain : ℤ → Truth
is_plain n = le_z (pos 0) n || le_z n (neg_ℤ (pos 9223372036854775808))

-- a number, with a minus in front of it where it is negative
abbrev pub number : ℤ → Expr
number n = if is_plain n then expr.Int n else expr.Minus (expr.Int (neg_ℤ n))

abbrev pub fits_int4 : ℤ → Truth
fits_int4 n = le_z (neg_ℤ (pos 2147483648)) n && le_z n (pos 2147483647)

-- a number that would be read as an int4, as a sum of int8
abbrev pub widened : ℤ → Expr
widened n = expr.Sum (number n)
    (summand false (expr.Int (pos 2147483648)) ∷ summand true (expr.Int (pos 2147483648)) ∷ [])

-- an int8 within an expression
abbrev pub int8_part : ℤ → Expr
int8_part n = if fits_int4 n then widened n else number n

-- the number 2147483648, which with a minus in front of it is int4
abbrev pub is_least_int4 : ℤ → Truth
is_least_int4 n = le_z (pos 2147483648) n && le_z n (pos 2147483648)

-- directly behind a minus that number is a sum
abbrev pub int8_negated : ℤ → Expr
int8_negated n = if is_least_int4 n then expr.Sum (expr.Int n) (summand false (expr.Int (pos 0)) ∷ []) else int8_part n

abbrev pub spelled_value : Value → Spelling
spelled_value value.Null = always expr.Null
spelled_value (value.Bool truth) = always (expr.Bool truth)
spelled_value (value.Int4 n) = always (number n)
spelled_value (value.Int8 n) = record { part = int8_part n; negated = int8_negated n; whole = number n }
spelled_value (value.Text text) = always (expr.Str text)
spelled_value (value.Moment micros) = always (expr.Moment (moment_text micros))

abbrev pub column_name : Option ColumnDef → List ℕ
column_name None = []
column_name (Some column) = column.name

-- the name of the column of that number; where there is none it is empty
abbrev pub name_at : List ColumnDef → ℕ → List ℕ
name_at columns number = column_name (slice_get columns number)

abbrev pub parts : List Spelling → List Expr
parts spellings = map (λ s. s.part) spellings

-- one layer, whose parts are spelled
abbrev pub spelled_form : List ColumnDef → TypedForm-F Spelling Spelling ProductPart SumPart → Spelling
spelled_form columns (TypedForm-F.Or ps) = always (expr.Or (parts ps))
spelled_form columns (TypedForm-F.And ps) = always (expr.And (parts ps))
spelled_form columns (TypedForm-F.Not p) = always (expr.Not p.part)
spelled_form columns (TypedForm-F.IsNull p tests) = always (expr.IsNull p.part tests)
spelled_form columns (TypedForm-F.Compare how left right) = always (expr.Compare how left.part right.part)
spelled_form columns (TypedForm-F.Member p negated ps) = always (expr.Member p.part negated (parts ps))
spelled_form columns (TypedForm-F.Concat ps) = always (expr.Concat (parts ps))
spelled_form columns (TypedForm-F.Sum p summands) = always (expr.Sum p.part summands)
spelled_form columns (TypedForm-F.Product p factors) = always (expr.Product p.part factors)
spelled_form columns (TypedForm-F.Minus p) = always (expr.Minus p.negated)
spelled_form columns (TypedForm-F.Literal v) = spelled_value v
spelled_form columns (TypedForm-F.Param n) = always (expr.Param n)
spelled_form columns (TypedForm-F.Column n) = always (expr.Column None (name_at columns n))
spelled_form columns TypedForm-F.CurrentTimestamp = always expr.CurrentTimestamp
spelled_form columns TypedForm-F.Now = always expr.Now
spelled_form columns TypedForm-F.TransactionTimestamp = always expr.TransactionTimestamp

abbrev pub factor_by : TypedProductPart-F Spelling Spelling ProductPart SumPart → ProductPart
factor_by f = record { sign = f.sign; part = (f.part).part }

abbrev pub summand_by : TypedSumPart-F Spelling Spelling ProductPart SumPart → SumPart
summand_by s = record { minus = s.minus; part = (s.part).part }

-- an expression over these columns
abbrev pub spelling : List ColumnDef → TypedExpr → Spelling
spelling columns =
    fold-TypedExpr Spelling Spelling ProductPart SumPart (spelled_form columns) (λ e. e.form) factor_by summand_by

abbrev pub spelled : List ColumnDef → TypedExpr → Expr
spelled columns e = (spelling columns e).part

abbrev pub spelled_negated : List ColumnDef → TypedExpr → Expr
spelled_negated columns e = (spelling columns e).negated

abbrev pub spelled_whole : List ColumnDef → TypedExpr → Expr
spelled_whole columns e = (spelling columns e).whole

abbrev pub spelled_factor : List ColumnDef → TypedProductPart → ProductPart
spelled_factor columns f = record { sign = f.sign; part = spelled columns f.part }

abbrev pub spelled_summand : List ColumnDef → TypedSumPart → SumPart
spelled_summand columns s = record { minus = s.minus; part = spelled columns s.part }
