-- The rows that a copy reads come in one after another; where all are in, the table is as in the source.
use Rattle.std.proofs.Common.{◌≡◌, ◌∙◌, ◌<◌, ℕ, zero, suc, List, [], ◌∷◌, length, take, refl, sym, ap, subst, arith}
use Rattle.std.proofs.Math.Seq.{take-length}
use Rattle.std.specs.Prelude.{◌==◌, ◌-◌, is_some, slice_get, Bool as Truth, true, false, Option, Some, None, if◌then◌else◌}
use Rattle.std.specs.List.{AllByRecursion}
use Rattle.std.specs.FinMap as fin
use Rattle.std.specs.Ordering.{is_eq}
use Rattle.std.proofs.lemmas.Bool.{eqb-true}
use Rattle.pg_values.specs.declared.value.Value.{Value}
use Rattle.schema.specs.declared.catalogue.TableDef.{TableDef}
use Rattle.checked_sql.specs.Sound.{are_fit}
use Rattle.sql_eval.specs.declared.row.Row.{Row}
use Rattle.sql_eval.specs.Views.{cell_at, columns_of, key_column}
use Rattle.backend_trait.specs.Typed.{AreAllStored, IsStored, kinds_of}
use Rattle.backend_trait.proofs.Walks.{take_all}
use Rattle.backend_trait.specs.declared.request.Request.TheVariants.{Run}
use Rattle.backend_trait.specs.declared.answer.Answer.{Answer}
use Rattle.backend_trait.specs.Keys.{Place, key_order, place}
use Rattle.backend_trait.specs.Rows.{Rows, Changes}
use Rattle.backend_trait.specs.Store.{Live, Store, acted, view_of}
use Rattle.backend_trait.proofs.KeyLaws.{key_antisymmetric}
use Rattle.backend_trait.proofs.RowLaws.{row_over}
use Rattle.online_recovery.specs.Copies.{cells_in, row_in, row_into}
use Rattle.recovery_laws.specs.Copied.{Grants, IsCopied, IsFilled, Leaves, entries_copied, row_under, rows_copied}
use Rattle.recovery_laws.proofs.CopyAnswering.{gave, leaves, view_after, with_given}
use Rattle.recovery_laws.proofs.Drawing.{inserts_undrawn}
use Rattle.recovery_laws.proofs.Seeking.{IsOwn, all_copied, copied_found, is_equal, own_rows, place_is, under_rows}
use Rattle.recovery_laws.proofs.Filling.{filled_more, inserted}

-- ---- the rows of a list

pub all_own : (tables : List TableDef) (source : Rows) (n : ℕ) (rows : List Row) → AreAllStored tables source → rows ≡ rows_copied tables source n
    → AllByRecursion (IsOwn (slice_get tables n)) rows
all_own tables source n rows stored are =
    subst (AllByRecursion (IsOwn (slice_get tables n))) (sym are)
    (own_rows (slice_get tables n) (entries_copied tables source n) (all_copied tables source n stored))

pub is_there : (rows : List Row) (i : ℕ) → i < length rows → (row : Row) × (slice_get rows i ≡ Some row)
is_there [] i below = absurd (omega arith)
is_there (row ∷ rows) zero below = (row, refl)
is_there (row ∷ rows) (suc i) below = is_there rows i (omega arith)

pub at_index : (P : Row → Type 0) (rows : List Row) (i : ℕ) (row : Row) → AllByRecursion P rows → slice_get rows i ≡ Some row → P row
at_index P [] i row all is = absurd (cc)
at_index P (r ∷ rows) zero row all is = let same : r ≡ row = cc in subst P same all.0
at_index P (r ∷ rows) (suc i) row all is = at_index P rows i row all.1 is

-- the next row of a list
pub next_is : (rows : List Row) (left : ℕ) (row : Row) → slice_get rows (length rows - suc left) ≡ Some row → row_in rows left ≡ row.cells
next_is rows left row is =
    let same : length rows - 1 - left ≡ length rows - suc left = omega arith in
    ap (λ (k : ℕ). cells_in (slice_get rows k)) same ∙ ap cells_in is

-- ---- one after another

module _ (st : Store) (s n left : ℕ) (t : Live) (answer : Answer) (source before : Rows) (rows : List Row) where
  insert_leaves : (row : Row) → IsOwn (slice_get st.tables n) row → left < length rows → slice_get rows (length rows - suc left) ≡ Some row
      → IsFilled st.tables n rows (suc left) before (view_of t) → Grants st s t (Run (row_into st.tables n row.cells)) answer
      → Leaves st s t (IsFilled st.tables n rows left before) (acted st s (Run (row_into st.tables n row.cells)) answer)
  insert_leaves row own below is filled g =
      let checked = row_into st.tables n row.cells in
      let told = gave st s t checked answer g in
      let put = inserted st n t row answer own.columns told in
      leaves st s t checked answer g (inserts_undrawn st.tables st.next n row.cells) (IsFilled st.tables n rows left before) told.changes told.places told.gives
      (filled_more st.tables n left rows row before (view_of t) (view_of (with_given t told.changes told.places)) filled put.was_none below is (λ q.
      view_after t told.changes told.places q ∙ ap (λ (c : Changes). row_over (fin.get c q) (fin.get (view_of t) q)) put.changes_are))

  pub next_leaves : AreAllStored st.tables source → rows ≡ rows_copied st.tables source n → left < length rows → IsFilled st.tables n rows (suc left) before (view_of t)
      → Grants st s t (Run (row_into st.tables n (row_in rows left))) answer
      → Leaves st s t (IsFilled st.tables n rows left before) (acted st s (Run (row_into st.tables n (row_in rows left))) answer)
  next_leaves stored are below filled g =
      let within : length rows - suc left < length rows = omega arith in
      let next = is_there rows (length rows - suc left) within in
      let cells = next_is rows left next.0 next.1 in
      let own = at_index (IsOwn (slice_get st.tables n)) rows (length rows - suc left) next.0 (all_own st.tables source n rows stored are) next.1 in
      subst (λ (values : List Value). Leaves st s t (IsFilled st.tables n rows left before) (acted st s (Run (row_into st.tables n values)) answer)) (sym cells)
      (insert_leaves next.0 own below next.1 filled (subst (λ (values : List Value). Grants st s t (Run (row_into st.tables n values)) answer) cells g))

-- ---- the whole table

module _ (tables : List TableDef) (n : ℕ) (source before view : Rows) (rows : List Row) (stored : AreAllStored tables source) (are : rows ≡ rows_copied tables source n) where
  abbrev column : ℕ
  column = key_column (slice_get tables n)

  all_in : (key : Value) → row_under column key (take (length rows - 0) rows) ≡ fin.get source (place n key)
  all_in key =
      let whole : length rows - 0 ≡ length rows = omega arith in
      ap (λ (k : ℕ). row_under column key (take k rows)) whole
      ∙ (ap (row_under column key) (take-length rows ∙ are)
      ∙ (under_rows (slice_get tables n) key (entries_copied tables source n) (all_copied tables source n stored) ∙ copied_found tables source n key))

  pub copied : IsFilled tables n rows 0 before view → IsCopied n source before view
  copied filled = λ q. filled q ∙ go q (q.table == n) refl
    where
      go : (q : Place) (b : Truth) → (q.table == n) ≡ b
          → (if b then row_under column q.key (take (length rows - 0) rows) else fin.get before q) ≡ (if b then fin.get source q else fin.get before q)
      go q true here = all_in q.key ∙ ap (fin.get source) (sym (place_is q n here))
      go q false here = refl

  -- what is found under a key has the key
  own_found : (key : Value) (rs : List Row) (row : Row) → AllByRecursion (IsOwn (slice_get tables n)) rs → row_under column key rs ≡ Some row → IsStored (slice_get tables n) key row
  own_found key [] row all is = absurd (let f : None ≡ Some row = is in cc)
  own_found key (r ∷ rs) row all is = go (own_found key rs row all.1) (is_eq (key_order key (cell_at column r))) refl is
    where
      go : (row_under column key rs ≡ Some row → IsStored (slice_get tables n) key row) → (b : Truth) → is_eq (key_order key (cell_at column r)) ≡ b
          → (if b then Some r else row_under column key rs) ≡ Some row → IsStored (slice_get tables n) key row
      go more true same here =
          let row_is : r ≡ row = cc in
          let key_is : cell_at column r ≡ key = sym (key_antisymmetric key (cell_at column r) (is_equal (key_order key (cell_at column r)) same)) in
          subst (λ (k : Value). IsStored (slice_get tables n) k row) key_is
          (subst (λ (x : Row). IsStored (slice_get tables n) (cell_at column r) x) row_is all.0)
      go more false same here = more here

  stays_stored : (left : ℕ) → AreAllStored tables before → IsFilled tables n rows left before view → AreAllStored tables view
  stays_stored left was filled = λ p row there. go p row (p.table == n) refl (sym (filled p) ∙ there)
    where
      go : (p : Place) (row : Row) (b : Truth) → (p.table == n) ≡ b
          → (if b then row_under column p.key (take (length rows - left) rows) else fin.get before p) ≡ Some row → IsStored (slice_get tables p.table) p.key row
      go p row true here there =
          subst (λ (m : ℕ). IsStored (slice_get tables m) p.key row) (sym (eqb-true p.table n here))
          (own_found p.key (take (length rows - left) rows) row
          (take_all (IsOwn (slice_get tables n)) (length rows - left) rows (all_own tables source n rows stored are)) there)
      go p row false here there = was p row there

pub still_stored : (tables : List TableDef) (n left : ℕ) (source before view : Rows) (rows : List Row) → AreAllStored tables source → rows ≡ rows_copied tables source n
    → AreAllStored tables before → IsFilled tables n rows left before view → AreAllStored tables view
still_stored tables n left source before view rows stored are was filled = stays_stored tables n source before view rows stored are left was filled

-- a row stands in no table but one that is there
pub table_there : (tables : List TableDef) (p : Place) (row : Row) → IsStored (slice_get tables p.table) p.key row → is_some (slice_get tables p.table) ≡ true
table_there tables p row stored = go (slice_get tables p.table) row.cells stored.columns stored.own
  where
    go : (table : Option TableDef) (cells : List Value) → are_fit (kinds_of (columns_of table)) cells ≡ true → slice_get cells (key_column table) ≡ Some p.key → is_some table ≡ true
    go (Some table) cells fit own = refl
    go None [] fit own = absurd (let f : None ≡ Some p.key = own in cc)
    go None (v ∷ cells) fit own = absurd (let f : false ≡ true = fit in cc)
