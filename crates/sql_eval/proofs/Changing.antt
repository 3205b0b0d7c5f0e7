-- What an UPDATE and a DELETE do at a row, step by step.
use Rattle.std.proofs.Common.{◌≡◌, ℕ, List, ap, sym, ◌∙◌}
use Rattle.std.specs.Prelude.{Bool as Truth, true, false, Option, Some, None, Ok, Err}
use Rattle.pg_values.specs.declared.value.Value.{Value}
use Rattle.schema.specs.declared.catalogue.ColumnDef.{ColumnDef}
use Rattle.catalogue.specs.declared.checked.CheckedChange.{CheckedChange}
use Rattle.catalogue.specs.declared.checked.CheckedRemove.{CheckedRemove}
use Rattle.catalogue.specs.declared.checked.TypedSet.{TypedSet}
use Rattle.sql_eval.specs.declared.row.Row.{Row}
use Rattle.sql_eval.specs.declared.effect.Change.{Change}
use Rattle.sql_eval.specs.Views.{Entry}
use Rattle.sql_eval.specs.Walks.{Coded, behind, made}
use Rattle.sql_eval.specs.Reads.{alone, is_kept, where_kept, fitting, row_of}
use Rattle.sql_eval.specs.Stored.{cells_set, changed, change_of, not_lacking, removal_of, removed, updated, updated_row}

module _ (columns : List ColumnDef) (sets : List TypedSet) (old : Row) where
  abbrev with_cells : Coded (List Value) → Coded Row
  with_cells o = behind o (λ cells. behind (not_lacking columns cells) (λ cells. fitting (row_of cells)))

  pub new_stops : (code : List ℕ) → cells_set alone columns sets old ≡ Err code → updated_row alone columns sets old ≡ Err code
  new_stops code fails = ap with_cells fails

  pub new_lacks : (cells : List Value) (code : List ℕ) → cells_set alone columns sets old ≡ Ok cells → not_lacking columns cells ≡ Err code
      → updated_row alone columns sets old ≡ Err code
  new_lacks cells code gives fails = ap with_cells gives ∙ ap (λ (o : Coded (List Value)). behind o (λ cells. fitting (row_of cells))) fails

  pub new_fits : (cells whole : List Value) → cells_set alone columns sets old ≡ Ok cells → not_lacking columns cells ≡ Ok whole
      → fitting (row_of whole) ≡ updated_row alone columns sets old
  new_fits cells whole gives has = sym (ap with_cells gives ∙ ap (λ (o : Coded (List Value)). behind o (λ cells. fitting (row_of cells))) has)

module _ (columns : List ColumnDef) (change : CheckedChange) (e : Entry) where
  abbrev changed_by : Coded Truth → Coded (Option Change)
  changed_by o = behind (made (where_kept e) o) (updated alone columns change)

  pub change_stops : (code : List ℕ) → is_kept alone change.filter e.row ≡ Err code → change_of alone columns change e ≡ Err code
  change_stops code fails = ap changed_by fails

  pub change_none : (stays : Truth) → is_kept alone change.filter e.row ≡ Ok stays → stays ≡ false → change_of alone columns change e ≡ Ok None
  change_none stays gives is = ap changed_by gives ∙ ap (λ (b : Truth). changed_by (Ok b)) is

  change_new : (stays : Truth) → is_kept alone change.filter e.row ≡ Ok stays → stays ≡ true
      → change_of alone columns change e ≡ made (λ row. Some (changed change.table e.key (Some row))) (updated_row alone columns change.sets e.row)
  change_new stays gives is = ap changed_by gives ∙ ap (λ (b : Truth). changed_by (Ok b)) is

  pub change_refused : (stays : Truth) (code : List ℕ) → is_kept alone change.filter e.row ≡ Ok stays → stays ≡ true
      → updated_row alone columns change.sets e.row ≡ Err code → change_of alone columns change e ≡ Err code
  change_refused stays code gives is fails =
      change_new stays gives is ∙ ap (made (λ row. Some (changed change.table e.key (Some row)))) fails

  pub change_is : (stays : Truth) (row : Row) (key : Value) → is_kept alone change.filter e.row ≡ Ok stays → stays ≡ true
      → updated_row alone columns change.sets e.row ≡ Ok row → ◌≡◌ {A = Coded Value} (Ok e.key) (Ok key)
      → change_of alone columns change e ≡ Ok (Some (changed change.table key (Some row)))
  change_is stays row key gives is new own =
      let same : e.key ≡ key = cc in
      change_new stays gives is ∙ (ap (made (λ row. Some (changed change.table e.key (Some row)))) new
      ∙ ap (λ (k : Value). Ok (Some (changed change.table k (Some row)))) same)

module _ (remove : CheckedRemove) (e : Entry) where
  abbrev removed_by : Coded Truth → Coded (Option Change)
  removed_by o = made (removed remove.table) (made (where_kept e) o)

  pub removal_stops : (code : List ℕ) → is_kept alone remove.filter e.row ≡ Err code → removal_of alone remove e ≡ Err code
  removal_stops code fails = ap removed_by fails

  pub removal_none : (stays : Truth) → is_kept alone remove.filter e.row ≡ Ok stays → stays ≡ false → removal_of alone remove e ≡ Ok None
  removal_none stays gives is = ap removed_by gives ∙ ap (λ (b : Truth). removed_by (Ok b)) is

  pub removal_is : (stays : Truth) (key : Value) → is_kept alone remove.filter e.row ≡ Ok stays → stays ≡ true
      → ◌≡◌ {A = Coded Value} (Ok e.key) (Ok key) → removal_of alone remove e ≡ Ok (Some (changed remove.table key None))
  removal_is stays key gives is own =
      let same : e.key ≡ key = cc in
      ap removed_by gives ∙ (ap (λ (b : Truth). removed_by (Ok b)) is ∙ ap (λ (k : Value). Ok (Some (changed remove.table k None))) same)
