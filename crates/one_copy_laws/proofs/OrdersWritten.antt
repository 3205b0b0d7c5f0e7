-- A statement as it is written at its moment is of the same class, and of the same tables.
use Rattle.std.proofs.Common.{◌≡◌, ◌∙◌, ℤ, Bool, true, false, List, [], ◌∷◌, map, refl, sym, ap, subst}
use Rattle.std.specs.Prelude.{◌||◌, if◌then◌else◌, Some, None}
use Rattle.std.specs.List.{list_any}
use Rattle.schema.specs.declared.catalogue.TableDef.{TableDef}
use Rattle.catalogue.specs.declared.checked.Checked.{Checked}
use Rattle.catalogue.specs.declared.checked.CheckedBody.{CheckedBody}
use Rattle.catalogue.specs.declared.checked.CheckedBody.TheVariants as body
use Rattle.catalogue.specs.declared.checked.TypedCell.{TypedCell}
use Rattle.catalogue.specs.declared.checked.TypedCell.TheVariants as cells
use Rattle.classifier.specs.Classes.{is_serial, has_serial, tables_mask}
use Rattle.time_rewrite.specs.Rewriting.{cell_at, body_at}
use Rattle.session_machine.specs.declared.work.Class.TheVariants as classes
use Rattle.session_machine.specs.declared.work.Verb.TheVariants as verbs
use Rattle.session_machine.specs.declared.work.Work.{Work}
use Rattle.session_machine.specs.Classes.{class_in, work_in}
use Rattle.session_machine.specs.Rules.{is_moment, work_at, rewritten}
use Rattle.one_copy_model.specs.World.{IsRunnableIn}
use Rattle.one_copy_model.specs.Orders.{IsClassed}

cell_serial : (moment : ℤ) (cell : TypedCell) → is_serial (cell_at moment cell) ≡ is_serial cell
cell_serial moment cells.Serial = refl
cell_serial moment cells.Now = refl
cell_serial moment (cells.Given e) = refl

row_serial : (moment : ℤ) (row : List TypedCell) → list_any is_serial (map (cell_at moment) row) ≡ list_any is_serial row
row_serial moment [] = refl
row_serial moment (cell ∷ row) =
    ap (λ (t : Bool). t || list_any is_serial (map (cell_at moment) row)) (cell_serial moment cell) ∙ ap (λ (t : Bool). is_serial cell || t) (row_serial moment row)

rows_serial : (moment : ℤ) (rows : List (List TypedCell)) → has_serial (map (map (cell_at moment)) rows) ≡ has_serial rows
rows_serial moment [] = refl
rows_serial moment (row ∷ rows) =
    ap (λ (t : Bool). t || has_serial (map (map (cell_at moment)) rows)) (row_serial moment row) ∙ ap (λ (t : Bool). list_any is_serial row || t) (rows_serial moment rows)

class_at : (moment : ℤ) (b : CheckedBody) → class_in (body_at moment b) ≡ class_in b
class_at moment (body.Read read) = refl
class_at moment (body.Insert insert) = ap (λ (t : Bool). if t then classes.SerialInsert insert.table else classes.Write verbs.Insert) (rows_serial moment insert.rows)
class_at moment (body.Change change) = refl
class_at moment (body.Remove remove) = refl

tables_at : (moment : ℤ) (b : CheckedBody) → tables_mask (body_at moment b) ≡ tables_mask b
tables_at moment (body.Read read) = refl
tables_at moment (body.Insert insert) = refl
tables_at moment (body.Change change) = refl
tables_at moment (body.Remove remove) = refl

made_is : (moment : ℤ) (work made : Work) → rewritten moment work ≡ Some made → work_at moment work ≡ made
made_is moment work made = by (is_moment moment)
  where
    by : (b : Bool) → (if b then Some (work_at moment work) else None) ≡ Some made → work_at moment work ≡ made
    by true e = let same : work_at moment work ≡ made = cc in same
    by false e = absurd (cc)

-- what is written so has its own class and tables, and can be run where the order says so
pub made_classed : (tables : List TableDef) (moment : ℤ) (checked : Checked) (made : Work) → rewritten moment (work_in checked) ≡ Some made
    → IsRunnableIn tables (rewritten moment (work_in checked)) → IsClassed tables made
made_classed tables moment checked made e can =
    let same : work_at moment (work_in checked) ≡ made = made_is moment (work_in checked) made e in record {
      class = subst (λ (w : Work). w.class ≡ class_in w.statement.body) same (sym (class_at moment checked.body));
      written = subst (λ (w : Work). w.tables ≡ tables_mask w.statement.body) same (sym (tables_at moment checked.body));
      runnable = subst (IsRunnableIn tables) e can;
    }
