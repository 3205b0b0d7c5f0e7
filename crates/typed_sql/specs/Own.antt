-- What the names of an expression mean, and the type that an expression has of itself, whatever its place asks.
use Rattle.std.specs.Prelude.{◌==◌, ℕ, zero, suc, ℤ, pos, negsuc, Bool as Truth, true, false, List, [], ◌∷◌, Option, Some, None, Result, Ok, Err, if◌then◌else◌, bytes_eq, codes}
use Rattle.pg_values.specs.declared.col_type.ColType.{ColType}
use Rattle.pg_values.specs.declared.col_type.ColType.TheVariants as kind
use Rattle.schema.specs.declared.catalogue.ColumnDef.{ColumnDef}
use Rattle.schema.specs.declared.catalogue.TableDef.{TableDef}
use Rattle.sql_tree.specs.declared.expr.Expr.{Expr}
use Rattle.sql_tree.specs.declared.expr.Expr.TheOpen.{Expr-F, SumPart-F, ProductPart-F}
use Rattle.sql_tree.specs.declared.expr.Expr.TheFolds.{fold-Expr}
use Rattle.typed_sql.specs.Places.{or_int8, sum_kind, number_kind}
use Rattle.typed_sql.specs.Steps.{Known, Fault, fault, known_kind}

-- the statement's table, if it has one, and whether its columns and parameters may stand
pub record Scope : Type 0 where
  pub table : Option TableDef
  pub columns : Truth
  pub parameters : Truth

-- expressions over the rows of a table; in a cell of an INSERT no column may stand
abbrev pub over : Truth → TableDef → Scope
over parameters table = record { table = Some table; columns = true; parameters = parameters }

abbrev pub beside : Truth → TableDef → Scope
beside parameters table = record { table = Some table; columns = false; parameters = parameters }

abbrev pub alone : Truth → Scope
alone parameters = record { table = None; columns = false; parameters = parameters }

-- the number and the definition of the column of that name
abbrev pub column_from : ℕ → List ℕ → List ColumnDef → Option (ℕ × ColumnDef)
column_from number name [] = None
column_from number name (column ∷ columns) =
    if bytes_eq column.name name then Some (number, column) else column_from (suc number) name columns

abbrev pub column_of : Option TableDef → Truth → List ℕ → Option (ℕ × ColumnDef)
column_of None may name = None
column_of (Some table) may name = if may then column_from 0 name table.columns else None

-- what a table's name before a column is, where it is not that of the statement's table
abbrev pub wrong_table : Option TableDef → Option (List ℕ) → Option (List ℕ)
wrong_table table None = None
wrong_table None (Some qualifier) = Some qualifier
wrong_table (Some table) (Some qualifier) = if bytes_eq table.name qualifier then None else Some qualifier

abbrev pub no_column : List ℕ → Option (ℕ × ColumnDef) → Result (ℕ × ColumnDef) Fault
no_column name None = Err (fault (codes "42703") name)
no_column name (Some x) = Ok x

abbrev pub no_table : Result (ℕ × ColumnDef) Fault → Option (List ℕ) → Result (ℕ × ColumnDef) Fault
no_table column None = column
no_table column (Some qualifier) = Err (fault (codes "42P01") qualifier)

-- the column that is meant: first the table before it is another than the statement's, then there is none of that name
abbrev pub column_meant : Scope → Option (List ℕ) → List ℕ → Result (ℕ × ColumnDef) Fault
column_meant scope qualifier name =
    no_table (no_column name (column_of scope.table scope.columns name)) (wrong_table scope.table qualifier)

abbrev pub kind_meant : Result (ℕ × ColumnDef) Fault → Option ColType
kind_meant (Ok x) = Some (x.1).kind
kind_meant (Err e) = None

-- an expression by its own type, if it has one, and whether it is the number 2147483648, which with a minus in front of
-- it is int4
pub record Own : Type 0 where
  pub kind : Option ColType
  pub least_int4 : Truth

abbrev pub is_least_int4 : ℤ → Truth
is_least_int4 (pos n) = n == 2147483648
is_least_int4 (negsuc n) = false

abbrev pub of_kind : Option ColType → Own
of_kind kind = record { kind = kind; least_int4 = false }

-- a number of no type takes the type beside it where that is int4 or int8, and else int8
abbrev pub joined_kind : Option ColType → Option ColType → ColType
joined_kind None other = sum_kind (or_int8 other) (or_int8 other)
joined_kind (Some kind) None = sum_kind kind (or_int8 (Some kind))
joined_kind (Some kind) (Some other) = sum_kind kind other

-- the own type of a chain: what stands to the left, and the next part
abbrev pub chained_kind : Option ColType → List (Option ColType) → Option ColType
chained_kind kind [] = kind
chained_kind kind (other ∷ others) = chained_kind (Some (joined_kind kind other)) others

-- the own type of a number with a minus in front of it
abbrev pub minus_kind : Own → ColType
minus_kind own = if own.least_int4 then kind.Int4 else joined_kind own.kind None

-- the first own type that there is
abbrev pub first_kind : List (Option ColType) → Option ColType
first_kind [] = None
first_kind (None ∷ kinds) = first_kind kinds
first_kind (Some kind ∷ kinds) = Some kind

abbrev pub own_layer : Scope → Known → Expr-F Own (Option ColType) (Option ColType) → Own
own_layer scope known (Expr-F.Or parts) = of_kind (Some kind.Bool)
own_layer scope known (Expr-F.And parts) = of_kind (Some kind.Bool)
own_layer scope known (Expr-F.Not part) = of_kind (Some kind.Bool)
own_layer scope known (Expr-F.IsNull part tests) = of_kind (Some kind.Bool)
own_layer scope known (Expr-F.Compare how left right) = of_kind (Some kind.Bool)
own_layer scope known (Expr-F.Member part negated entries) = of_kind (Some kind.Bool)
own_layer scope known (Expr-F.Concat parts) = of_kind (Some kind.Text)
own_layer scope known (Expr-F.Sum part summands) = of_kind (chained_kind part.kind summands)
own_layer scope known (Expr-F.Product part factors) = of_kind (chained_kind part.kind factors)
own_layer scope known (Expr-F.Minus part) = of_kind (Some (minus_kind part))
own_layer scope known (Expr-F.Int number) = record { kind = Some (number_kind number); least_int4 = is_least_int4 number }
own_layer scope known (Expr-F.Str text) = of_kind None
own_layer scope known (Expr-F.Bool truth) = of_kind (Some kind.Bool)
own_layer scope known Expr-F.Null = of_kind None
own_layer scope known (Expr-F.Param number) = of_kind (known_kind number known)
own_layer scope known (Expr-F.Column qualifier name) = of_kind (kind_meant (column_meant scope qualifier name))
own_layer scope known Expr-F.CurrentTimestamp = of_kind (Some kind.Moment)
own_layer scope known Expr-F.Now = of_kind (Some kind.Moment)
own_layer scope known Expr-F.TransactionTimestamp = of_kind (Some kind.Moment)
own_layer scope known (Expr-F.Moment text) = of_kind (Some kind.Moment)

-- the own type of an expression: a string, NULL and a parameter of which no type is known have none
abbrev pub own : Scope → Known → Expr → Own
own scope known = fold-Expr Own (Option ColType) (Option ColType)
    (own_layer scope known) (λ factor. factor.part.kind) (λ summand. summand.part.kind)

abbrev pub own_kind : Scope → Known → Expr → Option ColType
own_kind scope known expr = (own scope known expr).kind
