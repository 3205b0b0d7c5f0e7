-- A statement at a moment is of the same class, and of the same tables.
use Rattle.std.proofs.Common.{◌≡◌, ◌∙◌, ℕ, ℤ, Bool, true, ◌==◌, List, [], ◌∷◌, map, refl, ap}
use Rattle.std.specs.Prelude.{◌&&◌, ◌||◌, if◌then◌else◌}
use Rattle.std.specs.List.{list_any}
use Rattle.catalogue.specs.declared.checked.CheckedBody.{CheckedBody}
use Rattle.catalogue.specs.declared.checked.CheckedBody.TheVariants as body
use Rattle.catalogue.specs.declared.checked.TypedCell.{TypedCell}
use Rattle.catalogue.specs.declared.checked.TypedCell.TheVariants as cells
use Rattle.classifier.specs.Classes.{is_serial, has_serial, tables_mask}
use Rattle.time_rewrite.specs.Rewriting.{cell_at, body_at}
use Rattle.session_machine.specs.declared.work.Class.{Class}
use Rattle.session_machine.specs.declared.work.Class.TheVariants as classes
use Rattle.session_machine.specs.declared.work.Verb.TheVariants as verbs
use Rattle.session_machine.specs.declared.work.Work.{Work}
use Rattle.session_machine.specs.Classes.{class_in}
use Rattle.session_machine.specs.Rules.{work_at}
use Rattle.session_engine.specs.Sound.{same_class, is_classed}

cell_serial : (moment : ℤ) (cell : TypedCell) → is_serial (cell_at moment cell) ≡ is_serial cell
cell_serial moment cells.Serial = refl
cell_serial moment cells.Now = refl
cell_serial moment (cells.Given e) = refl

row_serial : (moment : ℤ) (row : List TypedCell) → list_any is_serial (map (cell_at moment) row) ≡ list_any is_serial row
row_serial moment [] = refl
row_serial moment (cell ∷ row) =
    ap (λ (t : Bool). t || list_any is_serial (map (cell_at moment) row)) (cell_serial moment cell) ∙ ap (λ (t : Bool). is_serial cell || t) (row_serial moment row)

rows_serial : (moment : ℤ) (rows : List (List TypedCell)) → has_serial (map (map (cell_at moment)) rows) ≡ has_serial rows
rows_serial moment [] = refl
rows_serial moment (row ∷ rows) =
    ap (λ (t : Bool). t || has_serial (map (map (cell_at moment)) rows)) (row_serial moment row) ∙ ap (λ (t : Bool). list_any is_serial row || t) (rows_serial moment rows)

class_at : (moment : ℤ) (b : CheckedBody) → class_in (body_at moment b) ≡ class_in b
class_at moment (body.Read read) = refl
class_at moment (body.Insert insert) = ap (λ (t : Bool). if t then classes.SerialInsert insert.table else classes.Write verbs.Insert) (rows_serial moment insert.rows)
class_at moment (body.Change change) = refl
class_at moment (body.Remove remove) = refl

tables_at : (moment : ℤ) (b : CheckedBody) → tables_mask (body_at moment b) ≡ tables_mask b
tables_at moment (body.Read read) = refl
tables_at moment (body.Insert insert) = refl
tables_at moment (body.Change change) = refl
tables_at moment (body.Remove remove) = refl

pub classed_at : (moment : ℤ) (work : Work) → is_classed work ≡ true → is_classed (work_at moment work) ≡ true
classed_at moment work own =
    ap (λ (class : Class). same_class class work.class && (tables_mask (body_at moment work.statement.body) == work.tables)) (class_at moment work.statement.body)
    ∙ (ap (λ (tables : ℕ). same_class (class_in work.statement.body) work.class && (tables == work.tables)) (tables_at moment work.statement.body) ∙ own)
