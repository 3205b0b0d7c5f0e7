-- The effect of a statement hangs on the rows of its own table alone.
use Rattle.std.proofs.Common.{◌≡◌, ℕ, ℤ, pos, ◌+ℤ◌, List, [], ◌∷◌, ◌++◌, map, refl, ap, sym, ◌∙◌, subst, eq-eqb}
use Rattle.std.proofs.Math.Path.{fun_ext}
use Rattle.std.specs.Prelude.{◌==◌, ◌||◌, cond, filter, slice_get, is_some, Bool as Truth, true, false, Option, Some, None, Ok, Err, if◌then◌else◌}
use Rattle.std.specs.List.{list_any}
use Rattle.std.specs.FinMap as fin
use Rattle.std.specs.FinMap.{entries}
use Rattle.std.specs.Ordering.{is_eq}
use Rattle.pg_values.specs.declared.value.Value.{Value}
use Rattle.schema.specs.declared.catalogue.ColumnDef.{ColumnDef}
use Rattle.schema.specs.declared.catalogue.TableDef.{TableDef}
use Rattle.catalogue.specs.declared.checked.CheckedBody.{CheckedBody}
use Rattle.catalogue.specs.declared.checked.CheckedBody.TheVariants as body
use Rattle.catalogue.specs.declared.checked.TypedCell.{TypedCell}
use Rattle.sql_values.specs.Meaning.{Around}
use Rattle.sql_values.specs.Order.{standing}
use Rattle.sql_eval.specs.declared.row.Row.{Row}
use Rattle.sql_eval.specs.declared.effect.Change.{Change}
use Rattle.sql_eval.specs.Views.{View, Place, Entry, cell_at, columns_of, entries_in, entry, key_column, place}
use Rattle.sql_eval.specs.Walks.{Coded, behind, made, walked}
use Rattle.sql_eval.specs.Reads.{entries_read, kept, row_of, shown}
use Rattle.sql_eval.specs.Stored.{changed, change_of, removal_of}
use Rattle.sql_eval.specs.Inserts.{all_draws, cells_given, is_spent, is_taken, last_serial, row_draws, row_put_in, rows_given, serial_kind, spent, unless_taken}
use Rattle.sql_eval.specs.Effects.{Effect, Given, Reads, Writes, draws_of, effect_of, given_by, table_in}
use Rattle.backend_trait.specs.Apart.{apart, is_in}
use Rattle.backend_trait.proofs.Places.{alike, entries_kept}

filter_twice : {X : Type 0} (p : X → Truth) (xs : List X) → filter p (filter p xs) ≡ filter p xs
filter_twice p [] = refl
filter_twice {X = X} p (x ∷ xs) = go (filter_twice p xs) (p x) refl
  where
    go : filter p (filter p xs) ≡ filter p xs → (b : Truth) → p x ≡ b → filter p (cond b (x ∷ filter p xs) (filter p xs)) ≡ cond b (x ∷ filter p xs) (filter p xs)
    go more true e = ap (λ (b : Truth). cond b (x ∷ filter p (filter p xs)) (filter p (filter p xs))) e ∙ ap (λ (ys : List X). x ∷ ys) more
    go more false e = more

-- the rows of the table are the same
entries_apart : (view : View) (table : ℕ) → entries_in (apart view (Some table)) table ≡ entries_in view table
entries_apart view table =
    ap (λ (es : List (Place × Row)). map (λ e. entry e.0.key e.1) (filter (λ e. e.0.table == table) es)) (entries_kept view (is_in (Some table)))
    ∙ ap (map (λ (e : Place × Row). entry e.0.key e.1)) (filter_twice (λ (e : Place × Row). e.0.table == table) (entries view))

-- and so is the row at each of its places
get_apart : (view : View) (table : ℕ) (key : Value) → fin.get view (place table key) ≡ fin.get (apart view (Some table)) (place table key)
get_apart view table key =
    sym (fin.get-retain_keys view (is_in (Some table)) (place table key) (alike view (is_in (Some table)) (place table key))
    ∙ ap (λ (b : Truth). cond b (fin.get view (place table key)) None) (eq-eqb table table refl))

reads_apart : (view : View) (table : Option ℕ) → entries_read view table ≡ entries_read (apart view table) table
reads_apart view None = refl
reads_apart view (Some table) = sym (entries_apart view table)

-- INSERT
module _ (around : Around) (view : View) (table : ℕ) (columns : List ColumnDef) (key : ℕ) where
  abbrev other : View
  other = apart view (Some table)

  taken_same : is_taken view table ≡ is_taken other table
  taken_same = fun_ext (λ earlier. fun_ext (λ k. ap (λ (found : Option Row). is_some found || list_any (λ x. is_eq (standing x k)) earlier) (get_apart view table k)))

  put_same : (earlier : List Value) (next : ℤ) (cells : List TypedCell)
      → row_put_in around view table columns key earlier next cells ≡ row_put_in around other table columns key earlier next cells
  put_same earlier next cells =
      ap (λ (taken : List Value → Value → Truth). behind (cells_given around columns next cells) (λ values.
      made (λ row. changed table (cell_at key row) (Some row)) (unless_taken (taken earlier (cell_at key (row_of values))) (row_of values)))) taken_same

  rows_same : (rows : List (List TypedCell)) (earlier : List Value) (next : ℤ)
      → rows_given around view table columns key earlier next rows ≡ rows_given around other table columns key earlier next rows
  rows_same [] earlier next = refl
  rows_same (cells ∷ rows) earlier next =
      ap (λ (o : Coded Change). behind o (λ c. made (λ others. c ∷ others)
      (rows_given around view table columns key (earlier ++ c.key ∷ []) (next +ℤ pos (row_draws cells)) rows))) (put_same earlier next cells)
      ∙ go (λ earlier next. rows_same rows earlier next) (row_put_in around other table columns key earlier next cells)
    where
      go : ((earlier : List Value) (next : ℤ) → rows_given around view table columns key earlier next rows ≡ rows_given around other table columns key earlier next rows)
          → (o : Coded Change)
          → behind o (λ c. made (λ others. c ∷ others) (rows_given around view table columns key (earlier ++ c.key ∷ []) (next +ℤ pos (row_draws cells)) rows))
          ≡ behind o (λ c. made (λ others. c ∷ others) (rows_given around other table columns key (earlier ++ c.key ∷ []) (next +ℤ pos (row_draws cells)) rows))
      go same (Ok c) = ap (made (λ (others : List Change). c ∷ others)) (same (earlier ++ c.key ∷ []) (next +ℤ pos (row_draws cells)))
      go same (Err code) = refl

given_same : (around : Around) (tables : List TableDef) (b : CheckedBody) (view : View) (next : ℤ)
    → given_by around tables b view next ≡ given_by around tables b (apart view (table_in b)) next
given_same around tables (body.Read read) view next =
    ap (λ (es : List Entry). made Reads (behind (walked (kept around read.filter) es) (shown around read))) (reads_apart view read.table)
given_same around tables (body.Insert insert) view next =
    let table = slice_get tables insert.table in
    ap (λ (o : Coded (List Change)). made Writes (if is_spent (last_serial (serial_kind table)) next (all_draws insert.rows) then Err spent else o))
    (rows_same around view insert.table (columns_of table) (key_column table) insert.rows [] next)
given_same around tables (body.Change change) view next =
    ap (λ (es : List Entry). made Writes (walked (change_of around (columns_of (slice_get tables change.table)) change) es)) (sym (entries_apart view change.table))
given_same around tables (body.Remove remove) view next =
    ap (λ (es : List Entry). made Writes (walked (removal_of around remove) es)) (sym (entries_apart view remove.table))

pub same_effect : (around : Around) (tables : List TableDef) (b : CheckedBody) (view : View) (next : ℤ)
    → effect_of around tables b view next ≡ effect_of around tables b (apart view (table_in b)) next
same_effect around tables b view next = λ i. record { draws = draws_of tables b next; given = given_same around tables b view next i }
