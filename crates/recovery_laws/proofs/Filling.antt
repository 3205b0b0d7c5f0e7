-- Behind the INSERT of a copy one row more of the list is seen in its table.
use Rattle.std.proofs.Common.{◌≡◌, ◌∙◌, ◌<◌, ◌+ℤ◌, ℕ, ℤ, zero, suc, pos, List, [], ◌∷◌, ◌++◌, length, take, refl, sym, ap, subst, arith}
use Rattle.std.specs.Prelude.{◌==◌, ◌||◌, ◌-◌, cond, is_some, slice_get, Bool as Truth, true, false, Option, Some, None, Ok, Err, if◌then◌else◌}
use Rattle.std.specs.FinMap as fin
use Rattle.std.specs.declared.cmp.Ordering.{Ordering}
use Rattle.std.specs.Ordering.{is_eq}
use Rattle.std.proofs.lemmas.Bool.{eq-eqb, eqb-true}
use Rattle.std.proofs.lemmas.Cmp.{tied_itself}
use Rattle.pg_values.specs.declared.col_type.ColType.{ColType}
use Rattle.pg_values.specs.declared.col_type.ColType.TheVariants as kind
use Rattle.pg_values.specs.declared.value.Value.{Value}
use Rattle.pg_values.specs.declared.value.Value.TheVariants as value
use Rattle.schema.specs.declared.catalogue.ColumnDef.{ColumnDef}
use Rattle.schema.specs.declared.catalogue.TableDef.{TableDef}
use Rattle.typed_sql.specs.Typing.{literal}
use Rattle.checked_sql.specs.Sound.{are_fit, is_value}
use Rattle.sql_values.specs.Outcome.{Outcome}
use Rattle.sql_values.specs.Meaning.{value_in}
use Rattle.sql_eval.specs.declared.row.Row.{Row}
use Rattle.sql_eval.specs.declared.effect.Change.{Change}
use Rattle.sql_eval.specs.Views.{cell_at, columns_of, key_column}
use Rattle.sql_eval.specs.Walks.{Coded, all_of, behind, made}
use Rattle.sql_eval.specs.Reads.{alone, at_row, fitting, no_row, row_of}
use Rattle.sql_eval.specs.Stored.{as_kind, changed, lacks, not_lacking, null_refused}
use Rattle.sql_eval.specs.Inserts.{cell_values, is_spent, is_taken, last_serial, row_put_in, serial_kind, spent, unless_taken}
use Rattle.sql_eval.specs.Effects.{Writes}
use Rattle.backend_trait.specs.Typed.{kinds_of}
use Rattle.backend_trait.proofs.Truths.{and_true}
use Rattle.backend_trait.proofs.Walks.{behind_ok, fitting_is, given_is as ok_is}
use Rattle.backend_trait.specs.declared.answer.Answer.{Answer}
use Rattle.backend_trait.specs.Keys.{Place, is_place, key_order, place, place_order}
use Rattle.backend_trait.specs.Rows.{Rows, Changes, no_changes}
use Rattle.backend_trait.specs.Effect.{Gives, changes_of, given_as, number_from, table_in}
use Rattle.backend_trait.specs.Store.{Live, Store, next_for, view_of}
use Rattle.backend_trait.proofs.KeyLaws.{key_total, place_total}
use Rattle.backend_trait.proofs.RowLaws.{row_over}
use Rattle.online_recovery.specs.Copies.{cells_of, row_into}
use Rattle.recovery_laws.specs.Copied.{IsFilled, row_under, with_rows}
use Rattle.recovery_laws.proofs.CopyAnswering.{Gave, given_is}
use Rattle.recovery_laws.proofs.Drawing.{none_drawn}
use Rattle.recovery_laws.proofs.Meaning.{literal_value}
use Rattle.recovery_laws.proofs.Seeking.{is_same, same_table}

-- ---- what the cells come to

kind_kept : (k : ColType) (v : Value) → is_value k v ≡ true → as_kind k v ≡ Ok v
kind_kept kind.Bool v is = refl
kind_kept kind.Text v is = refl
kind_kept kind.Moment v is = refl
kind_kept kind.Int4 value.Null is = refl
kind_kept kind.Int4 (value.Bool b) is = refl
kind_kept kind.Int4 (value.Int4 n) is = refl
kind_kept kind.Int4 (value.Int8 n) is = absurd (let f : false ≡ true = is in cc)
kind_kept kind.Int4 (value.Text text) is = refl
kind_kept kind.Int4 (value.Moment micros) is = refl
kind_kept kind.Int8 value.Null is = refl
kind_kept kind.Int8 (value.Bool b) is = refl
kind_kept kind.Int8 (value.Int4 n) is = absurd (let f : false ≡ true = is in cc)
kind_kept kind.Int8 (value.Int8 n) is = refl
kind_kept kind.Int8 (value.Text text) is = refl
kind_kept kind.Int8 (value.Moment micros) is = refl

values_are : (columns : List ColumnDef) (values : List Value) (next : ℤ) → are_fit (kinds_of columns) values ≡ true
    → all_of (cell_values alone columns next (cells_of columns values)) ≡ Ok values
values_are [] [] next fit = refl
values_are [] (v ∷ values) next fit = absurd (let f : false ≡ true = fit in cc)
values_are (c ∷ columns) [] next fit = absurd (let f : false ≡ true = fit in cc)
values_are (c ∷ columns) (v ∷ values) next fit =
    let both = and_true (is_value c.kind v) (are_fit (kinds_of columns) values) fit in
    let e = literal c.kind v in
    let one : behind (value_in (at_row alone no_row) e) (as_kind c.kind) ≡ Ok v =
    ap (λ (o : Outcome). behind o (as_kind c.kind)) (literal_value (at_row alone no_row) c.kind v) ∙ kind_kept c.kind v both.0 in
    let rest = values_are columns values (next +ℤ pos 0) both.1 in
    ap (λ (o : Outcome). behind o (λ a. made (λ others. a ∷ others) (all_of (cell_values alone columns (next +ℤ pos 0) (cells_of columns values))))) one
    ∙ ap (made (λ (others : List Value). v ∷ others)) rest

lacks_none : (columns : List ColumnDef) (values out : List Value) → not_lacking columns values ≡ Ok out → out ≡ values
lacks_none columns values out is = go (lacks columns values) is
  where
    go : (b : Truth) → ◌≡◌ {A = Coded (List Value)} (if b then Err null_refused else Ok values) (Ok out) → out ≡ values
    go true is = absurd (cc)
    go false is = sym (ok_is values out is)

untaken : (b : Truth) (row out : Row) → unless_taken b row ≡ Ok out → (b ≡ false) × (fitting row ≡ Ok out)
untaken true row out is = absurd (cc)
untaken false row out is = (refl, is)

or_nothing : (o : Option Row) → (is_some o || false) ≡ false → o ≡ None
or_nothing None is = refl
or_nothing (Some row) is = absurd (let f : true ≡ false = is in cc)

-- ---- what is put in

pub record PutIn (view : Rows) (n key : ℕ) (row : Row) (change : Change) : Type 0 where
  pub change_is : change ≡ changed n (cell_at key row) (Some row)
  pub was_none : fin.get view (place n (cell_at key row)) ≡ None

module _ (view : Rows) (n key : ℕ) (columns : List ColumnDef) (row : Row) (fit : are_fit (kinds_of columns) row.cells ≡ true) where
  abbrev as_change : Row → Change
  as_change r = changed n (cell_at key r) (Some r)

  abbrev then_put : List Value → Coded Change
  then_put values = made as_change (unless_taken (is_taken view n [] (cell_at key (row_of values))) (row_of values))

  row_put : (next : ℤ) → row_put_in alone view n columns key [] next (cells_of columns row.cells) ≡ behind (not_lacking columns row.cells) then_put
  row_put next = ap (λ (o : Coded (List Value)). behind (behind o (not_lacking columns)) then_put) (values_are columns row.cells next fit)

  put_is : (change : Change) → then_put row.cells ≡ Ok change → PutIn view n key row change
  put_is change is =
      let taken = is_taken view n [] (cell_at key row) in
      let two = behind_ok (unless_taken taken row) (λ (r : Row). Ok (as_change r)) change is in
      let free = untaken taken row two.0 two.1 in
      let out : row ≡ two.0 = (fitting_is row two.0 free.1).0 in
      let back : two.0 ≡ row = sym out in
      record {
        change_is = sym (subst (λ (r : Row). as_change r ≡ change) back (ok_is (as_change two.0) change two.2));
        was_none = or_nothing (fin.get view (place n (cell_at key row))) free.0;
      }

  puts_in : (next : ℤ) (change : Change) → row_put_in alone view n columns key [] next (cells_of columns row.cells) ≡ Ok change → PutIn view n key row change
  puts_in next change is =
      let one = behind_ok (not_lacking columns row.cells) then_put change (subst (λ (o : Coded Change). o ≡ Ok change) (row_put next) is) in
      put_is change (subst (λ (values : List Value). then_put values ≡ Ok change) (lacks_none columns row.cells one.0 one.1) one.2)

-- what an INSERT of one row changes, where it is not refused
pub record Inserts (view : Rows) (n key : ℕ) (row : Row) (changes : Changes) : Type 0 where
  pub changes_are : changes ≡ fin.insert no_changes (place n (cell_at key row)) (Some row)
  pub was_none : fin.get view (place n (cell_at key row)) ≡ None

module _ (st : Store) (n : ℕ) (t : Live) (row : Row) (answer : Answer) (fit : are_fit (kinds_of (columns_of (slice_get st.tables n))) row.cells ≡ true)
    (told : Gave st (row_into st.tables n row.cells) t answer) where
  abbrev table : Option TableDef
  table = slice_get st.tables n

  abbrev next : ℤ
  next = number_from (st.next n)

  abbrev put : Coded Change
  put = row_put_in alone (view_of t) n (columns_of table) (key_column table) [] next (cells_of (columns_of table) row.cells)

  abbrev alone_put : Coded Change → Coded (List Change)
  alone_put o = behind o (λ change. Ok (change ∷ []))

  inserts_by : (o : Coded Change) → put ≡ o → given_as (Some n) (made Writes (alone_put o)) ≡ Gives answer told.changes told.places → Inserts (view_of t) n (key_column table) row told.changes
  inserts_by (Err code) is gives = absurd (cc)
  inserts_by (Ok change) is gives =
      let one = puts_in (view_of t) n (key_column table) (columns_of table) row fit next change is in
      let same : changes_of (change ∷ []) ≡ told.changes = cc in
      record { changes_are = sym same ∙ ap (λ (c : Change). changes_of (c ∷ [])) one.change_is; was_none = one.was_none }

  pub inserted : Inserts (view_of t) n (key_column table) row told.changes
  inserted =
      let checked = row_into st.tables n row.cells in
      inserts_by put refl
      (sym (given_is st.tables checked (view_of t) (next_for st.next (table_in checked)) (made Writes (alone_put put))
      (ap (λ (d : ℕ). made Writes (if is_spent (last_serial (serial_kind table)) next d then Err spent else alone_put put)) (none_drawn (columns_of table) row.cells)))
      ∙ told.gives)

-- ---- one row more of a list

abbrev or_row : Option Row → Option Row → Option Row
or_row None other = other
or_row (Some row) other = Some row

under_last : (column : ℕ) (key : Value) (rows : List Row) (row : Row)
    → row_under column key (rows ++ row ∷ []) ≡ or_row (row_under column key rows) (if is_eq (key_order key (cell_at column row)) then Some row else None)
under_last column key [] row = refl
under_last column key (r ∷ rows) row = go (under_last column key rows row) (is_eq (key_order key (cell_at column r)))
  where
    go : row_under column key (rows ++ row ∷ []) ≡ or_row (row_under column key rows) (if is_eq (key_order key (cell_at column row)) then Some row else None)
        → (b : Truth) → (if b then Some r else row_under column key (rows ++ row ∷ []))
        ≡ or_row (if b then Some r else row_under column key rows) (if is_eq (key_order key (cell_at column row)) then Some row else None)
    go more true = refl
    go more false = more

or_none : (o : Option Row) → or_row o None ≡ o
or_none None = refl
or_none (Some row) = refl

take_next : (rows : List Row) (i : ℕ) (row : Row) → slice_get rows i ≡ Some row → take (suc i) rows ≡ take i rows ++ row ∷ []
take_next [] i row is = absurd (cc)
take_next (r ∷ rows) zero row is = let same : r ≡ row = cc in ap (λ (x : Row). x ∷ []) same
take_next (r ∷ rows) (suc i) row is = ap (λ (rs : List Row). r ∷ rs) (take_next rows i row is)

module _ (tables : List TableDef) (n left : ℕ) (rows : List Row) (row : Row) (before view after : Rows) where
  abbrev column : ℕ
  column = key_column (slice_get tables n)

  abbrev so_far : List Row
  so_far = take (length rows - suc left) rows

  abbrev own : Value
  own = cell_at column row

  next_taken : left < length rows → slice_get rows (length rows - suc left) ≡ Some row → take (length rows - left) rows ≡ so_far ++ row ∷ []
  next_taken below is =
      let count : length rows - left ≡ suc (length rows - suc left) = omega arith in
      ap (λ (k : ℕ). take k rows) count ∙ take_next rows (length rows - suc left) row is

  module _ (filled : IsFilled tables n rows (suc left) before view) (was_none : fin.get view (place n own) ≡ None) where
    own_none : row_under column own so_far ≡ None
    own_none =
        sym (ap (λ (b : Truth). if b then row_under column own so_far else fin.get before (place n own)) (eq-eqb n n refl)) ∙ (sym (filled (place n own)) ∙ was_none)

    own_last : row_under column own (so_far ++ row ∷ []) ≡ Some row
    own_last =
        under_last column own so_far row
        ∙ (ap (λ (o : Option Row). or_row o (if is_eq (key_order own own) then Some row else None)) own_none
        ∙ ap (λ (r : Ordering). if is_eq r then Some row else None) (tied_itself key_total own))

    other_last : (q : Place) → (q.table == n) ≡ true → is_place q (place n own) ≡ false → row_under column q.key (so_far ++ row ∷ []) ≡ row_under column q.key so_far
    other_last q here other =
        let apart : is_eq (key_order q.key own) ≡ false = sym (ap is_eq (same_table q (place n own) (eqb-true q.table n here))) ∙ other in
        under_last column q.key so_far row
        ∙ (ap (λ (b : Truth). or_row (row_under column q.key so_far) (if b then Some row else None)) apart ∙ or_none (row_under column q.key so_far))

    at_own : with_rows tables n (so_far ++ row ∷ []) before (place n own) ≡ Some row
    at_own =
        ap (λ (b : Truth). if b then row_under column own (so_far ++ row ∷ []) else fin.get before (place n own)) (eq-eqb n n refl) ∙ own_last

    one_more : (q : Place) (b : Truth) → is_place q (place n own) ≡ b → row_over (cond b (Some (Some row)) None) (fin.get view q) ≡ with_rows tables n (so_far ++ row ∷ []) before q
    one_more q true is = sym (ap (with_rows tables n (so_far ++ row ∷ []) before) (is_same q (place n own) is) ∙ at_own)
    one_more q false is = filled q ∙ go (q.table == n) refl
      where
        go : (c : Truth) → (q.table == n) ≡ c → (if c then row_under column q.key so_far else fin.get before q) ≡ (if c then row_under column q.key (so_far ++ row ∷ []) else fin.get before q)
        go true here = sym (other_last q here is)
        go false here = refl

    pub filled_more : left < length rows → slice_get rows (length rows - suc left) ≡ Some row
        → ((q : Place) → fin.get after q ≡ row_over (fin.get (fin.insert no_changes (place n own) (Some row)) q) (fin.get view q)) → IsFilled tables n rows left before after
    filled_more below is seen = λ q.
        seen q
        ∙ (ap (λ (c : Option (Option Row)). row_over c (fin.get view q))
        (fin.get-insert place_total no_changes (place n own) (Some row) q ∙ ap (cond (is_place q (place n own)) (Some (Some row))) (fin.get-empty place_order q))
        ∙ (one_more q (is_place q (place n own)) refl ∙ ap (λ (rs : List Row). with_rows tables n rs before q) (sym (next_taken below is))))
