-- An item of a list, a cell, a row and a filter: how far they go, and where they stop.
use Rattle.std.proofs.Common.{◌≡◌, ℕ, ◌<◌, ◌≤◌, suc, List, [], ◌∷◌, length, true, false, eqb, refl, ap, sym, ◌∙◌, subst, arith}
use Rattle.std.proofs.lemmas.Bool.Decides.{nat_tests}
use Rattle.std.specs.Prelude.{Option, Some, None, Result, Ok, Err, codes, slice_get}
use Rattle.schema.specs.declared.catalogue.ColumnDef.{ColumnDef}
use Rattle.sql_tree.specs.declared.expr.Expr.{Expr}
use Rattle.sql_tree.specs.declared.statement.Cell.{Cell}
use Rattle.sql_tree.specs.declared.statement.Cell.TheVariants.{Fill as Default, Given}
use Rattle.sql_tree.specs.declared.statement.SelectItem.{SelectItem}
use Rattle.typed_sql.specs.declared.asks.Asks.{Asks}
use Rattle.typed_sql.specs.declared.fault.CheckFault.{CheckFault}
use Rattle.typed_sql.specs.declared.typed.TypedExpr.{TypedExpr}
use Rattle.typed_sql.specs.Own.{Scope}
use Rattle.typed_sql.specs.Places.{asks_nothing, asks_column}
use Rattle.typed_sql.specs.Steps.{Known, Fault, fault, Answer, Step, Then, Made, Walk, Told, Answers}
use Rattle.typed_sql.specs.Meaning.{Finds}
use Rattle.typed_sql.specs.Typing.{Typed}
use Rattle.typed_sql.proofs.Walking.{told_gives, then_answers, then_stops, made_gives, made_stops}
use Rattle.typed_sql.proofs.Faults.{found_answers}
use Rattle.catalogue.specs.declared.checked.TypedCell.{TypedCell}
use Rattle.catalogue.specs.Statements.{CellAt, CellIn, ItemOf, RowOf, column_at, default_cell, given_cell, has_room, whole_row}
use Rattle.catalogue.proofs.Finding.{told_then, told_stops}

pub room : (before : ℕ) → before < 1664 → has_room before ≡ Ok tt
room before below = grind (arith, nat_tests)

pub full : (before : ℕ) → 1664 ≤ before → has_room before ≡ Err (fault (codes "54011") [])
full before above = grind (arith, nat_tests)

-- what an item is where there is room for it
pub item_answers : (scope : Scope) (before : ℕ) (item : SelectItem) (asks : Asks) (known new : Known) (result : Result TypedExpr CheckFault)
    → has_room before ≡ Ok tt → asks ≡ asks_nothing → Answers (λ (e : TypedExpr). e) result new (Typed scope item.expr asks known)
    → Answers (λ (e : TypedExpr). e) result new (ItemOf scope before item known)
item_answers scope before item asks known new result free asks_is goes =
    told_then (λ (u : Unit {0}). u) _ (λ (e : TypedExpr). e) (has_room before) known new tt result free
    (subst (λ (q : Asks). Answers (λ (e : TypedExpr). e) result new (Typed scope item.expr q known)) asks_is goes)

-- a cell that is given
module _ (scope : Scope) (column : ColumnDef) (cell : Cell) (e : Expr) (is : cell ≡ Given e) (asks : Asks) (asks_is : asks ≡ asks_column column.kind)
    (known : Known) where
  pub cell_gives : (made : TypedExpr) (new : Known) → Typed scope e asks known (Ok (made, new))
      → CellIn scope column cell known (Ok (given_cell made, new))
  cell_gives made new gives =
      subst (λ (k : Cell). CellIn scope column k known (Ok (given_cell made, new))) (sym is)
      (made_gives given_cell (Typed scope e (asks_column column.kind)) known made new
      (subst (λ (q : Asks). Typed scope e q known (Ok (made, new))) asks_is gives))

  pub cell_stops : (f : CheckFault) (mid new : Known) → Answers (λ (t : TypedExpr). t) (Err f) mid (Typed scope e asks known)
      → Answers (λ (k : TypedCell). k) (Err f) new (CellIn scope column cell known)
  cell_stops f mid new fails =
      subst (λ (k : Cell). Answers (λ (t : TypedCell). t) (Err f) new (CellIn scope column k known)) (sym is)
      (made_stops given_cell (Typed scope e (asks_column column.kind)) known (λ (t : TypedExpr). t) (λ (k : TypedCell). k) f mid new
      (subst (λ (q : Asks). Answers (λ (t : TypedExpr). t) (Err f) mid (Typed scope e q known)) asks_is fails))

-- a row
module _ (scope : Scope) (columns : List ColumnDef) (given : List (ℕ × ColumnDef)) (row : List Cell) (known : Known) where
  abbrev Cells_of : Step (List TypedCell)
  Cells_of = Walk (λ (at : ℕ) (cell : Cell). CellAt scope (column_at (slice_get given at)) cell) (λ at cell. suc at) 0 row

  pub cells_stop : (f : CheckFault) (mid new : Known) → Answers (λ (cells : List TypedCell). cells) (Err f) mid (Cells_of known)
      → Answers (λ (r : List TypedCell). r) (Err f) new (RowOf scope columns given row known)
  cells_stop f mid new fails = then_stops Cells_of _ known (λ (cells : List TypedCell). cells) (λ (r : List TypedCell). r) f mid new fails

  pub row_answers : (cells : List TypedCell) (mid : Known) (result : Result (List TypedCell) CheckFault) → Cells_of known (Ok (cells, mid))
      → Finds (λ (r : List TypedCell). r) result (whole_row columns given cells)
      → Answers (λ (r : List TypedCell). r) result mid (RowOf scope columns given row known)
  row_answers cells mid result made whole =
      then_answers Cells_of _ known (λ (r : List TypedCell). r) cells mid mid result made
      (found_answers (λ (r : List TypedCell). r) result (whole_row columns given cells) mid whole)
