-- A read of a copy answers the rows that are seen of its table, and leaves all as it was.
use Rattle.std.proofs.Common.{◌≡◌, ◌∙◌, ◌+◌, ◌≤◌, ℕ, suc, List, [], ◌∷◌, map, refl, sym, ap, arith}
use Rattle.std.specs.Prelude.{slice_get, Bool as Truth, true, false, Option, Some, None, Ok, Err, if◌then◌else◌}
use Rattle.std.specs.List.{AllByRecursion}
use Rattle.std.specs.FinMap as fin
use Rattle.std.proofs.lemmas.Bool.{le-ltb}
use Rattle.std.proofs.lemmas.List.{append-nil}
use Rattle.pg_values.specs.declared.value.Value.{Value}
use Rattle.schema.specs.declared.catalogue.ColumnDef.{ColumnDef}
use Rattle.schema.specs.declared.catalogue.TableDef.{TableDef}
use Rattle.typed_sql.specs.declared.typed.TypedForm.TheVariants as form
use Rattle.typed_sql.specs.Typing.{typed}
use Rattle.catalogue.specs.declared.checked.CheckedRead.{CheckedRead}
use Rattle.catalogue.specs.Statements.{columns_from}
use Rattle.checked_sql.specs.Sound.{are_fit, is_value}
use Rattle.sql_values.specs.Outcome.{Outcome, or_null, too_large}
use Rattle.sql_values.specs.Meaning.{value_in}
use Rattle.sql_eval.specs.declared.row.Row.{Row}
use Rattle.sql_eval.specs.Views.{Entry, columns_of, entries_in}
use Rattle.sql_eval.specs.Walks.{Coded, all_of, behind, made, walked, with_some}
use Rattle.sql_eval.specs.Reads.{alone, at_row, fitting, kept, reading, read_in, result_row, row_of, row_size, shown}
use Rattle.sql_eval.specs.Effects.{Reads}
use Rattle.backend_trait.proofs.Tables.{walked_first}
use Rattle.backend_trait.specs.Typed.{AreAllStored, IsStored, kinds_of}
use Rattle.backend_trait.proofs.Truths.{and_true}
use Rattle.backend_trait.specs.declared.request.Request.TheVariants.{Run}
use Rattle.backend_trait.specs.declared.answer.Answer.{Answer}
use Rattle.backend_trait.specs.declared.answer.Answer.TheVariants as answers
use Rattle.backend_trait.specs.Keys.{Place, place_order}
use Rattle.backend_trait.specs.Rows.{Rows, Changes, joined_changes, no_changes}
use Rattle.backend_trait.specs.Effect.{Gives, table_in}
use Rattle.backend_trait.specs.Store.{Alive, Live, Store, acted, next_for, settled, view_of}
use Rattle.backend_trait.specs.Acts.{given_of}
use Rattle.backend_trait.proofs.RowLaws.{change_over, get-joined_changes, same_changes}
use Rattle.online_recovery.specs.Copies.{all_rows_in, by_key, key_of}
use Rattle.recovery_laws.specs.Copied.{Grants, entries_copied, rows_copied}
use Rattle.recovery_laws.proofs.CopyAnswering.{given_is, gave, left_by, with_given}
use Rattle.recovery_laws.proofs.Drawing.{reads_undrawn}
use Rattle.recovery_laws.proofs.Meaning.{column_value}
use Rattle.recovery_laws.proofs.Seeking.{all_copied}

-- ---- all columns of a row

module _ (row : Row) where
  columns_read : (columns : List ColumnDef) (k : ℕ) (cells : List Value) → are_fit (kinds_of columns) cells ≡ true
      → ((i : ℕ) → slice_get row.cells (k + i) ≡ slice_get cells i) → all_of (map (value_in (at_row alone row)) (columns_from k columns)) ≡ Ok cells
  columns_read [] k [] fit at = refl
  columns_read [] k (v ∷ cells) fit at = absurd (let f : false ≡ true = fit in cc)
  columns_read (c ∷ columns) k [] fit at = absurd (let f : false ≡ true = fit in cc)
  columns_read (c ∷ columns) k (v ∷ cells) fit at =
      let both = and_true (is_value c.kind v) (are_fit (kinds_of columns) cells) fit in
      let first : k ≡ k + 0 = omega arith in
      let here : slice_get row.cells k ≡ Some v = ap (slice_get row.cells) first ∙ at 0 in
      let e = typed c.kind (form.Column k) in
      let read : value_in (at_row alone row) e ≡ Ok v = column_value (at_row alone row) c.kind k ∙ ap (λ (o : Option Value). Ok (or_null o)) here in
      let rest : all_of (map (value_in (at_row alone row)) (columns_from (suc k) columns)) ≡ Ok cells = columns_read columns (suc k) cells both.1
      (λ (i : ℕ). let next : suc k + i ≡ k + suc i = omega arith in ap (slice_get row.cells) next ∙ at (suc i)) in
      ap (λ (o : Outcome). behind o (λ a. made (λ others. a ∷ others) (all_of (map (value_in (at_row alone row)) (columns_from (suc k) columns))))) read
      ∙ ap (made (λ (others : List Value). v ∷ others)) rest

  row_read : (columns : List ColumnDef) → are_fit (kinds_of columns) row.cells ≡ true → row_size row ≤ 1048000 → result_row alone (columns_from 0 columns) row ≡ Ok row
  row_read columns fit small =
      ap (λ (o : Coded (List Value)). behind o (λ cells. fitting (row_of cells)))
      (columns_read columns 0 row.cells fit (λ (i : ℕ). let first : 0 + i ≡ i = omega arith in ap (slice_get row.cells) first))
      ∙ ap (λ (b : Truth). if b then Err too_large else Ok row) (le-ltb 1048000 (row_size row) small)

rows_read : (table : Option TableDef) (es : List Entry) → AllByRecursion (λ (e : Entry). IsStored table e.key e.row) es
    → all_of (map (λ (e : Entry). result_row alone (columns_from 0 (columns_of table)) e.row) es) ≡ Ok (map (λ (e : Entry). e.row) es)
rows_read table [] all = refl
rows_read table (e ∷ es) all =
    let here = all.0 in
    ap (λ (o : Coded Row). behind o (λ a. made (λ others. a ∷ others) (all_of (map (λ (e : Entry). result_row alone (columns_from 0 (columns_of table)) e.row) es))))
    (row_read e.row (columns_of table) here.columns here.size)
    ∙ ap (made (λ (others : List Row). e.row ∷ others)) (rows_read table es all.1)

-- no filter keeps all
all_kept : (es : List Entry) → walked (kept alone None) es ≡ Ok es
all_kept [] = refl
all_kept (e ∷ es) = walked_first (kept alone None) e es ∙ ap (made (with_some (Some e))) (all_kept es)

-- ---- the read

abbrev read_of : ℕ → Option TableDef → CheckedRead
read_of n table = record {
  table = Some n;
  count = false;
  list = columns_from 0 (columns_of table);
  filter = None;
  order = by_key (key_of table);
  limit = None;
  for_update = false;
}

table_read : (tables : List TableDef) (view : Rows) (n : ℕ) → AreAllStored tables view
    → read_in alone view (read_of n (slice_get tables n)) ≡ Ok (record { rows = rows_copied tables view n; keys = [] })
table_read tables view n stored =
    ap (λ (o : Coded (List Entry)). behind o (shown alone (read_of n (slice_get tables n)))) (all_kept (entries_in view n))
    ∙ ap (made (reading false (entries_copied tables view n))) (rows_read (slice_get tables n) (entries_copied tables view n) (all_copied tables view n stored))

read_gives : (st : Store) (n : ℕ) (t : Live) → AreAllStored st.tables (view_of t)
    → given_of st (all_rows_in st.tables n) t ≡ Gives (answers.Rows (rows_copied st.tables (view_of t) n)) no_changes []
read_gives st n t stored =
    let checked = all_rows_in st.tables n in
    given_is st.tables checked (view_of t) (next_for st.next (table_in checked)) (Ok (Reads (record { rows = rows_copied st.tables (view_of t) n; keys = [] })))
    (ap (made Reads) (table_read st.tables (view_of t) n stored))

same_answer : (a b : Answer) (c d : Changes) (p q : List Place) → Gives a c p ≡ Gives b d q → a ≡ b
same_answer a b c d p q is = cc

pub rows_answered : (st : Store) (s n : ℕ) (t : Live) (answer : Answer) → AreAllStored st.tables (view_of t) → Grants st s t (Run (all_rows_in st.tables n)) answer
    → answer ≡ answers.Rows (rows_copied st.tables (view_of t) n)
rows_answered st s n t answer stored g =
    let told = gave st s t (all_rows_in st.tables n) answer g in
    same_answer answer (answers.Rows (rows_copied st.tables (view_of t) n)) told.changes no_changes told.places [] (sym told.gives ∙ read_gives st n t stored)

none_joined : (old : Changes) → joined_changes no_changes old ≡ old
none_joined old = same_changes _ _ (λ q. get-joined_changes no_changes old q ∙ ap (λ (c : Option (Option Row)). change_over c (fin.get old q)) (fin.get-empty place_order q))

same_live : (t : Live) → with_given t no_changes [] ≡ t
same_live t = λ i. record {
  base = t.base;
  changes = none_joined t.changes i;
  held = record { places = append-nil t.held.places i; tables = t.held.tables };
  stale = t.stale;
}

pub read_left : (st : Store) (s n : ℕ) (t : Live) (answer : Answer) → AreAllStored st.tables (view_of t) → Grants st s t (Run (all_rows_in st.tables n)) answer
    → acted st s (Run (all_rows_in st.tables n)) answer ≡ settled st s (Alive t)
read_left st s n t answer stored g =
    left_by st s t (all_rows_in st.tables n) answer g (reads_undrawn st.tables st.next n) no_changes []
    (read_gives st n t stored ∙ ap (λ (a : Answer). Gives a no_changes []) (sym (rows_answered st s n t answer stored g)))
    ∙ ap (λ (u : Live). settled st s (Alive u)) (same_live t)
