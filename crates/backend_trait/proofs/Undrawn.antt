-- A statement that takes no lock draws no serial number, and gives the same from any number on.
use Rattle.std.proofs.Common.{◌≡◌, ℕ, zero, suc, ℤ, pos, ◌+◌, ◌+ℤ◌, Bool, true, false, ◌||◌, if◌then◌else◌, List, [], ◌∷◌, ◌++◌, map, refl, sym, ap, ◌∙◌, arith}
use Rattle.std.specs.Prelude.{Option, Some, None, Ok, Err, slice_get}
use Rattle.std.specs.List.{list_any}
use Rattle.std.proofs.lemmas.List.Sums.{sum_by-cons}
use Rattle.pg_values.specs.declared.col_type.ColType.{ColType}
use Rattle.pg_values.specs.declared.value.Value.{Value}
use Rattle.schema.specs.declared.catalogue.ColumnDef.{ColumnDef}
use Rattle.schema.specs.declared.catalogue.TableDef.{TableDef}
use Rattle.catalogue.specs.declared.checked.Checked.{Checked}
use Rattle.catalogue.specs.declared.checked.CheckedBody.{CheckedBody}
use Rattle.catalogue.specs.declared.checked.CheckedBody.TheVariants as body
use Rattle.catalogue.specs.declared.checked.CheckedInsert.{CheckedInsert}
use Rattle.catalogue.specs.declared.checked.TypedCell.{TypedCell}
use Rattle.catalogue.specs.declared.checked.TypedCell.TheVariants as cells
use Rattle.classifier.specs.declared.class.Class.TheVariants as class
use Rattle.classifier.specs.Classes.{is_serial, has_serial, locked, lock_of}
use Rattle.sql_values.specs.Outcome.{Outcome}
use Rattle.sql_eval.specs.declared.effect.Change.{Change}
use Rattle.sql_eval.specs.Views.{columns_of, key_column, cell_at}
use Rattle.sql_eval.specs.Walks.{Coded, behind, made, all_of}
use Rattle.sql_eval.specs.Reads.{alone, row_of}
use Rattle.sql_eval.specs.Stored.{changed, not_lacking}
use Rattle.sql_eval.specs.Inserts.{draws_in, row_draws, all_draws, last_serial, serial_kind, is_spent, spent, cell_value, cell_values, cells_given, is_taken, unless_taken, row_put_in, rows_given, insert_in}
use Rattle.sql_eval.specs.Effects.{Writes, given_by}
use Rattle.backend_trait.specs.Rows.{Rows}
use Rattle.backend_trait.specs.Effect.{effect_of, given_as, table_in, number_from}
use Rattle.backend_trait.specs.Alone.{given_on}

neither : (s t : Bool) → (s || t) ≡ false → (s ≡ false) × (t ≡ false)
neither true t e = absurd (cc)
neither false t e = (refl, e)

-- ---- what is drawn

cell_draws_none : (c : TypedCell) → is_serial c ≡ false → draws_in c ≡ 0
cell_draws_none cells.Serial none = absurd (cc)
cell_draws_none cells.Now none = refl
cell_draws_none (cells.Given e) none = refl

row_draws_none : (row : List TypedCell) → list_any is_serial row ≡ false → row_draws row ≡ 0
row_draws_none [] none = refl
row_draws_none (c ∷ row) none =
    let h = neither (is_serial c) (list_any is_serial row) none in
    sum_by-cons (λ (n : ℕ). n) (draws_in c) (map draws_in row)
    ∙ (ap (λ (n : ℕ). n + row_draws row) (cell_draws_none c h.0) ∙ ap (λ (n : ℕ). 0 + n) (row_draws_none row h.1))

rows_draw_none : (rows : List (List TypedCell)) → has_serial rows ≡ false → all_draws rows ≡ 0
rows_draw_none [] none = refl
rows_draw_none (row ∷ rows) none =
    let h = neither (list_any is_serial row) (has_serial rows) none in
    sum_by-cons (λ (n : ℕ). n) (row_draws row) (map row_draws rows)
    ∙ (ap (λ (n : ℕ). n + all_draws rows) (row_draws_none row h.0) ∙ ap (λ (n : ℕ). 0 + n) (rows_draw_none rows h.1))

none_spent : (last next : ℤ) (n : ℕ) → n ≡ 0 → is_spent last next n ≡ false
none_spent last next zero none = refl
none_spent last next (suc n) none = absurd (omega arith)

-- ---- what is given

module _ (view : Rows) (table : ℕ) (columns : List ColumnDef) (key : ℕ) where
  value_apart : (k : ColType) (m n : ℤ) (c : TypedCell) → is_serial c ≡ false → cell_value alone k m c ≡ cell_value alone k n c
  value_apart k m n cells.Serial none = absurd (cc)
  value_apart k m n cells.Now none = refl
  value_apart k m n (cells.Given e) none = refl

  values_apart : (of : List ColumnDef) (row : List TypedCell) (m n : ℤ) → list_any is_serial row ≡ false → cell_values alone of m row ≡ cell_values alone of n row
  values_apart [] row m n none = refl
  values_apart (column ∷ of) [] m n none = refl
  values_apart (column ∷ of) (c ∷ row) m n none =
      let h = neither (is_serial c) (list_any is_serial row) none in
      ap (λ (v : Outcome). v ∷ cell_values alone of (m +ℤ pos (draws_in c)) row) (value_apart column.kind m n c h.0)
      ∙ ap (λ (vs : List Outcome). cell_value alone column.kind n c ∷ vs) (values_apart of row (m +ℤ pos (draws_in c)) (n +ℤ pos (draws_in c)) h.1)

  put_apart : (earlier : List Value) (m n : ℤ) (row : List TypedCell) → list_any is_serial row ≡ false
      → row_put_in alone view table columns key earlier m row ≡ row_put_in alone view table columns key earlier n row
  put_apart earlier m n row none =
      ap (λ (vs : List Outcome). behind (behind (all_of vs) (not_lacking columns)) (λ values.
      made (λ r. changed table (cell_at key r) (Some r)) (unless_taken (is_taken view table earlier (cell_at key (row_of values))) (row_of values))))
      (values_apart columns row m n none)

  rows_apart : (rows : List (List TypedCell)) (earlier : List Value) (m n : ℤ) → has_serial rows ≡ false
      → rows_given alone view table columns key earlier m rows ≡ rows_given alone view table columns key earlier n rows
  rows_apart [] earlier m n none = refl
  rows_apart (row ∷ rows) earlier m n none =
      let h = neither (list_any is_serial row) (has_serial rows) none in
      ap (λ (o : Coded Change). behind o (λ c. made (λ others. c ∷ others)
      (rows_given alone view table columns key (earlier ++ c.key ∷ []) (m +ℤ pos (row_draws row)) rows))) (put_apart earlier m n row h.0)
      ∙ go (λ before. rows_apart rows before (m +ℤ pos (row_draws row)) (n +ℤ pos (row_draws row)) h.1) (row_put_in alone view table columns key earlier n row)
    where
      go : ((before : List Value) → rows_given alone view table columns key before (m +ℤ pos (row_draws row)) rows ≡ rows_given alone view table columns key before (n +ℤ pos (row_draws row)) rows)
          → (o : Coded Change)
          → behind o (λ c. made (λ others. c ∷ others) (rows_given alone view table columns key (earlier ++ c.key ∷ []) (m +ℤ pos (row_draws row)) rows))
          ≡ behind o (λ c. made (λ others. c ∷ others) (rows_given alone view table columns key (earlier ++ c.key ∷ []) (n +ℤ pos (row_draws row)) rows))
      go same (Ok c) = ap (made (λ (others : List Change). c ∷ others)) (same (earlier ++ c.key ∷ []))
      go same (Err code) = refl

abbrev unless_spent : Bool → Coded (List Change) → Coded (List Change)
unless_spent is given = if is then Err spent else given

insert_apart : (view : Rows) (table : Option TableDef) (insert : CheckedInsert) (m n : ℤ) → has_serial insert.rows ≡ false → insert_in alone view table m insert ≡ insert_in alone view table n insert
insert_apart view table insert m n none =
    let drawn = rows_draw_none insert.rows none in
    let last = last_serial (serial_kind table) in
    ap (λ (t : Bool). unless_spent t (rows_given alone view insert.table (columns_of table) (key_column table) [] m insert.rows)) (none_spent last m (all_draws insert.rows) drawn)
    ∙ (rows_apart view insert.table (columns_of table) (key_column table) insert.rows [] m n none
    ∙ sym (ap (λ (t : Bool). unless_spent t (rows_given alone view insert.table (columns_of table) (key_column table) [] n insert.rows)) (none_spent last n (all_draws insert.rows) drawn)))

no_serial : (t : Bool) (table : ℕ) → locked (if t then class.SerialInsert else class.Write) (Some table) ≡ None → t ≡ false
no_serial true table e = absurd (cc)
no_serial false table e = refl

given_apart : (tables : List TableDef) (b : CheckedBody) (view : Rows) (m n : ℤ) → lock_of b ≡ None → given_by alone tables b view m ≡ given_by alone tables b view n
given_apart tables (body.Read read) view m n none = refl
given_apart tables (body.Insert insert) view m n none =
    ap (made Writes) (insert_apart view (slice_get tables insert.table) insert m n (no_serial (has_serial insert.rows) insert.table none))
given_apart tables (body.Change change) view m n none = refl
given_apart tables (body.Remove remove) view m n none = refl

-- what a statement gives does not hang on numbers
pub numbers_apart : (tables : List TableDef) (c : Checked) (view : Rows) (next : Option ℤ) → lock_of c.body ≡ None → (effect_of tables c view next).given ≡ given_on tables view c
unfolding effect_of
numbers_apart tables c view next none = ap (given_as (table_in c)) (given_apart tables c.body view (number_from next) (number_from None) none)
