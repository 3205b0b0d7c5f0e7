-- The column of a name is the first thing of that name among the columns.
use Rattle.std.proofs.Common.{◌≡◌, ℕ, suc, List, [], ◌∷◌, Option, Some, refl, ap}
use Rattle.std.specs.Prelude.{bytes_eq, if◌then◌else◌}
use Rattle.schema.specs.declared.catalogue.ColumnDef.{ColumnDef}
use Rattle.named_list.specs.Names.{found_from}
use Rattle.typed_sql.specs.Own.{column_from}

pub column_is_found : (number : ℕ) (name : List ℕ) (columns : List ColumnDef)
    → found_from (λ (c : ColumnDef). c.name) number name columns ≡ column_from number name columns
column_is_found number name [] = refl
column_is_found number name (column ∷ columns) =
    ap (λ (rest : Option (ℕ × ColumnDef)). if bytes_eq column.name name then Some (number, column) else rest) (column_is_found (suc number) name columns)
