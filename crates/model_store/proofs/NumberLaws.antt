-- Serial numbers: who draws or sets one holds its table's lock, so that what waits elsewhere stays its effect.
use Rattle.std.proofs.Common.{◌≡◌, ◌≢◌, ◌∙◌, ◌+◌, ℕ, Bool, List, [], ◌∷◌, ◌++◌, refl, ap, sym, subst}
use Rattle.std.specs.Prelude.{◌≤ℤ◌, true, false, ℤ, pos, ◌+ℤ◌, Option, Some, None, Err, slice_get, if◌then◌else◌}
use Rattle.std.specs.List.{list_any}
use Rattle.pg_values.specs.declared.col_type.ColType.{ColType}
use Rattle.pg_values.specs.declared.value.Value.{Value}
use Rattle.schema.specs.declared.catalogue.ColumnDef.{ColumnDef}
use Rattle.schema.specs.declared.catalogue.TableDef.{TableDef}
use Rattle.catalogue.specs.declared.checked.Checked.{Checked}
use Rattle.catalogue.specs.declared.checked.CheckedBody.{CheckedBody}
use Rattle.catalogue.specs.declared.checked.CheckedBody.TheVariants as body
use Rattle.catalogue.specs.declared.checked.CheckedInsert.{CheckedInsert}
use Rattle.catalogue.specs.declared.checked.TypedCell.{TypedCell}
use Rattle.catalogue.specs.declared.checked.TypedCell.TheVariants as cell
use Rattle.classifier.specs.Classes.{has_serial, is_serial, lock_of, locked}
use Rattle.sql_values.specs.Outcome.{Outcome}
use Rattle.sql_values.specs.Meaning.{Around}
use Rattle.sql_eval.specs.declared.effect.Change.{Change}
use Rattle.sql_eval.specs.Views.{View, cell_at, columns_of, key_column}
use Rattle.sql_eval.specs.Walks.{Coded, behind, made, all_of}
use Rattle.sql_eval.specs.Reads.{alone, row_of}
use Rattle.sql_eval.specs.Stored.{changed, not_lacking}
use Rattle.sql_eval.specs.Inserts.{cell_value, cell_values, draws_in, insert_in, is_spent, is_taken, last_serial, row_draws, row_put_in, rows_given, serial_kind, spent, unless_taken}
use Rattle.sql_eval.specs.Effects.{DrawsFew, Writes, given_by}
use Rattle.backend_trait.specs.Rows.{Rows}
use Rattle.backend_trait.specs.Effect.{Wants, Conflicts, same_table, given_as, effect_of, number_from, table_in, IsPositive}
use Rattle.backend_trait.specs.Store.{IsLocked, drawn, drawn_by, next_for, view_of}
use Rattle.outcomes.specs.declared.change.ChangeSet.{ChangeSet}
use Rattle.model_store.specs.declared.phase.Work.{Work}
use Rattle.model_store.specs.declared.phase.Phase.{Phase}
use Rattle.model_store.specs.declared.phase.Phase.TheVariants as phases
use Rattle.model_store.specs.declared.phase.Run.{Run}
use Rattle.model_store.specs.declared.phase.Waiting.{Waiting}
use Rattle.model_store.specs.declared.phase.Waiting.TheVariants as waits
use Rattle.model_store.specs.declared.seat.Seat.{Seat}
use Rattle.model_store.specs.Phases.{live_of, held_by_phase, request_of, numbered as numbered_by, MayBeSet, IsGivenIn, IsGivenRun, IsGivenAt}
use Rattle.model_store.specs.Seats.{IsGivenTo}
use Rattle.model_store.specs.Conflicts.{held_in, AreApart}
use Rattle.model_store.proofs.VerdictLaws.{wants_live}
use Rattle.backend_trait.proofs.Moved.{IsMovedBy, lock_table, neither, no_lock, none_drawn, one_moved, run_moved}

module _ (around : Around) where
  value_same : (k : ColType) (a b : ℤ) (c : TypedCell) → is_serial c ≡ false → cell_value around k a c ≡ cell_value around k b c
  value_same k a b cell.Serial is = absurd (let f : true ≡ false = is in cc)
  value_same k a b cell.Now is = refl
  value_same k a b (cell.Given e) is = refl

  values_same : (columns : List ColumnDef) (a b : ℤ) (cells : List TypedCell) → list_any is_serial cells ≡ false → cell_values around columns a cells ≡ cell_values around columns b cells
  values_same [] a b cells is = refl
  values_same (column ∷ columns) a b [] is = refl
  values_same (column ∷ columns) a b (c ∷ cells) is =
      let both = neither (is_serial c) (list_any is_serial cells) is in
      ap (λ (x : Outcome). x ∷ cell_values around columns (a +ℤ pos (draws_in c)) cells) (value_same column.kind a b c both.0)
      ∙ ap (λ (xs : List Outcome). cell_value around column.kind b c ∷ xs) (values_same columns (a +ℤ pos (draws_in c)) (b +ℤ pos (draws_in c)) cells both.1)

  row_same : (view : View) (table : ℕ) (columns : List ColumnDef) (key : ℕ) (earlier : List Value) (a b : ℤ) (cells : List TypedCell) → list_any is_serial cells ≡ false
      → row_put_in around view table columns key earlier a cells ≡ row_put_in around view table columns key earlier b cells
  row_same view table columns key earlier a b cells is = λ i. row_by (values_same columns a b cells is i)
    where
      row_by : List Outcome → Coded Change
      row_by outcomes =
          behind (behind (all_of outcomes) (not_lacking columns)) (λ values.
          made (λ row. changed table (cell_at key row) (Some row)) (unless_taken (is_taken view table earlier (cell_at key (row_of values))) (row_of values)))

  rows_same : (view : View) (table : ℕ) (columns : List ColumnDef) (key : ℕ) (earlier : List Value) (a b : ℤ) (rows : List (List TypedCell)) → has_serial rows ≡ false
      → rows_given around view table columns key earlier a rows ≡ rows_given around view table columns key earlier b rows
  rows_same view table columns key earlier a b [] is = refl
  rows_same view table columns key earlier a b (cells ∷ rows) is =
      let both = neither (list_any is_serial cells) (has_serial rows) is in
      λ i. behind (row_same view table columns key earlier a b cells both.0 i) (λ change.
      made (λ others. change ∷ others) (rows_same view table columns key (earlier ++ change.key ∷ []) (a +ℤ pos (row_draws cells)) (b +ℤ pos (row_draws cells)) rows both.1 i))

  put_in : (view : View) (table : Option TableDef) (a : ℤ) (insert : CheckedInsert) → has_serial insert.rows ≡ false
      → insert_in around view table a insert ≡ rows_given around view insert.table (columns_of table) (key_column table) [] a insert.rows
  put_in view table a insert is =
      ap (λ (n : ℕ). if is_spent (last_serial (serial_kind table)) a n then Err spent else rows_given around view insert.table (columns_of table) (key_column table) [] a insert.rows) (none_drawn insert.rows is)

  insert_same : (view : View) (table : Option TableDef) (a b : ℤ) (insert : CheckedInsert) → has_serial insert.rows ≡ false → insert_in around view table a insert ≡ insert_in around view table b insert
  insert_same view table a b insert is =
      put_in view table a insert is ∙ (rows_same view insert.table (columns_of table) (key_column table) [] a b insert.rows is ∙ sym (put_in view table b insert is))

  given_same : (tables : List TableDef) (statement : CheckedBody) (view : View) (a b : ℤ) → lock_of statement ≡ None → given_by around tables statement view a ≡ given_by around tables statement view b
  given_same tables (body.Read read) view a b is = refl
  given_same tables (body.Insert insert) view a b is = ap (made Writes) (insert_same view (slice_get tables insert.table) a b insert (no_lock (has_serial insert.rows) insert.table is))
  given_same tables (body.Change change) view a b is = refl
  given_same tables (body.Remove remove) view a b is = refl

effect_same : (tables : List TableDef) (statement : Checked) (view : Rows) (a b : Option ℤ) → lock_of statement.body ≡ None → (effect_of tables statement view a).given ≡ (effect_of tables statement view b).given
unfolding effect_of
effect_same tables statement view a b is = ap (given_as (table_in statement)) (given_same alone tables statement.body view (number_from a) (number_from b) is)

pub not_moved : (held : Wants) (numbers : ℕ → Option ℤ) → IsMovedBy held numbers numbers
not_moved held numbers = record { same = λ t free. refl; there = λ t is. is }

-- a request that is granted, and one that is refused
pub granted_moved : (numbers : ℕ → Option ℤ) (tables : List TableDef) (log : List ChangeSet) (phase : Phase) (waiting : Waiting) → (wants_live waiting ≡ true → (work : Work) × (phase ≡ phases.Open work))
    → IsGivenAt numbers tables log phase (Some waiting) → IsMovedBy (held_by_phase phase) numbers (numbered_by tables numbers waiting)
granted_moved numbers tables log phase waits.Snapshot live given = not_moved (held_by_phase phase) numbers
granted_moved numbers tables log phase (waits.Run run) live given =
    let (work, open_is) = live refl in
    let there : IsGivenIn numbers tables (live_of log work) run = subst (λ (p : Phase). IsGivenRun numbers tables log p run) open_is given in
    subst (λ (p : Phase). IsMovedBy (held_by_phase p) numbers (drawn_by tables run.statement numbers)) (sym open_is) (run_moved tables (held_by_phase (phases.Open work)) numbers run.statement there.locked)
granted_moved numbers tables log phase (waits.Lock table) live given = not_moved (held_by_phase phase) numbers
granted_moved numbers tables log phase waits.Commit live given = not_moved (held_by_phase phase) numbers
granted_moved numbers tables log phase waits.Rollback live given = not_moved (held_by_phase phase) numbers
granted_moved numbers tables log phase (waits.ReadSerial table) live given = not_moved (held_by_phase phase) numbers
granted_moved numbers tables log phase (waits.SetSerial table n) live given = one_moved (held_by_phase phase) numbers table (Some n) given.locked (λ is. refl)

pub refused_moved : (numbers : ℕ → Option ℤ) (tables : List TableDef) (log : List ChangeSet) (phase : Phase) (waiting : Waiting) → (wants_live waiting ≡ true → (work : Work) × (phase ≡ phases.Open work))
    → IsGivenAt numbers tables log phase (Some waiting) → IsMovedBy (held_by_phase phase) numbers (drawn tables numbers (request_of waiting))
refused_moved numbers tables log phase waits.Snapshot live given = not_moved (held_by_phase phase) numbers
refused_moved numbers tables log phase (waits.Run run) live given = granted_moved numbers tables log phase (waits.Run run) live given
refused_moved numbers tables log phase (waits.Lock table) live given = not_moved (held_by_phase phase) numbers
refused_moved numbers tables log phase waits.Commit live given = not_moved (held_by_phase phase) numbers
refused_moved numbers tables log phase waits.Rollback live given = not_moved (held_by_phase phase) numbers
refused_moved numbers tables log phase (waits.ReadSerial table) live given = not_moved (held_by_phase phase) numbers
refused_moved numbers tables log phase (waits.SetSerial table n) live given = not_moved (held_by_phase phase) numbers

-- ---- what waits in another seat stays its effect

not_true : (b : Bool) → ¬ (b ≡ true) → b ≡ false
not_true true h = absurd (h refl)
not_true false h = refl

module _ (old new : ℕ → Option ℤ) (tables : List TableDef) (log : List ChangeSet) (held : Wants) (moved : IsMovedBy held old new) where
  stays_in : (work : Work) (run : Run) → ¬ (Conflicts held (held_by_phase (phases.Open work))) → IsGivenIn old tables (live_of log work) run → IsGivenIn new tables (live_of log work) run
  stays_in work run apart given = record { runnable = given.runnable; locked = given.locked; effect = given.effect ∙ go (lock_of run.statement.body) refl }
    where
      go : (lock : Option ℕ) → lock_of run.statement.body ≡ lock
          → (effect_of tables run.statement (view_of (live_of log work)) (next_for old (table_in run.statement))).given ≡ (effect_of tables run.statement (view_of (live_of log work)) (next_for new (table_in run.statement))).given
      go None is = effect_same tables run.statement (view_of (live_of log work)) (next_for old (table_in run.statement)) (next_for new (table_in run.statement)) is
      go (Some n) is =
          let own : (held_by_phase (phases.Open work)).tables n ≡ true = subst (IsLocked (held_by_phase (phases.Open work))) is given.locked in
          let free : held.tables n ≡ false = not_true (held.tables n) (λ has. apart (same_table n has own)) in
          let table = lock_table run.statement n is in
          ap (λ (x : Option ℤ). (effect_of tables run.statement (view_of (live_of log work)) x).given)
          (ap (next_for old) table ∙ (sym (moved.same n free) ∙ sym (ap (next_for new) table)))

  stays_run : (phase : Phase) (run : Run) → ¬ (Conflicts held (held_by_phase phase)) → IsGivenRun old tables log phase run → IsGivenRun new tables log phase run
  stays_run phases.Absent run apart given = tt
  stays_run (phases.Open work) run apart given = stays_in work run apart given
  stays_run phases.Dead run apart given = tt

  stays_at : (phase : Phase) (waiting : Option Waiting) → ¬ (Conflicts held (held_by_phase phase)) → IsGivenAt old tables log phase waiting → IsGivenAt new tables log phase waiting
  stays_at phase None apart given = tt
  stays_at phase (Some waits.Snapshot) apart given = tt
  stays_at phase (Some (waits.Run run)) apart given = stays_run phase run apart given
  stays_at phase (Some (waits.Lock table)) apart given = tt
  stays_at phase (Some waits.Commit) apart given = tt
  stays_at phase (Some waits.Rollback) apart given = tt
  stays_at phase (Some (waits.ReadSerial table)) apart given = moved.there table given
  stays_at phase (Some (waits.SetSerial table n)) apart given = record { locked = given.locked; positive = given.positive }

  pub stays_to : (x : Option Seat) → ¬ (Conflicts held (held_in x)) → IsGivenTo old tables log x → IsGivenTo new tables log x
  stays_to None apart given = tt
  stays_to (Some seat) apart given = stays_at seat.phase seat.waiting apart given

  -- and so in all seats but that of the one that moves them
  pub stays_beside : (seats : List Seat) (at : ℕ) → AreApart seats → held ≡ held_in (slice_get seats at) → (s : ℕ) → s ≢ at → IsGivenTo old tables log (slice_get seats s) → IsGivenTo new tables log (slice_get seats s)
  stays_beside seats at apart is s other given =
      stays_to (slice_get seats s) (λ c. apart at s (λ e. other (sym e)) (subst (λ (w : Wants). Conflicts w (held_in (slice_get seats s))) is c)) given

-- ---- what a request that is granted wants of its numbers

pub few_granted : (numbers : ℕ → Option ℤ) (tables : List TableDef) (log : List ChangeSet) (phase : Phase) (waiting : Waiting) (work : Work) (run : Run) → phase ≡ phases.Open work → waiting ≡ waits.Run run
    → IsGivenAt numbers tables log phase (Some waiting) → DrawsFew run.statement.body
few_granted numbers tables log phase waiting work run open_is run_is given =
    let here : IsGivenRun numbers tables log phase run = subst (λ (w : Waiting). IsGivenAt numbers tables log phase (Some w)) run_is given in
    let there : IsGivenIn numbers tables (live_of log work) run = subst (λ (p : Phase). IsGivenRun numbers tables log p run) open_is here in
    there.runnable.few

pub positive_set : (numbers : ℕ → Option ℤ) (tables : List TableDef) (log : List ChangeSet) (phase : Phase) (waiting : Waiting) (table : ℕ) (n : ℤ) → waiting ≡ waits.SetSerial table n → IsGivenAt numbers tables log phase (Some waiting) → pos 1 ≤ℤ n
positive_set numbers tables log phase waiting table n is given =
    let here : MayBeSet (held_by_phase phase) table n = subst (λ (w : Waiting). IsGivenAt numbers tables log phase (Some w)) is given in
    here.positive

pub some_positive : (n : ℤ) → pos 1 ≤ℤ n → IsPositive (Some n)
some_positive n positive m same = subst (λ (k : ℤ). pos 1 ≤ℤ k) (let z : n ≡ m = cc in z) positive
