-- A write changes its own table alone.
use Rattle.std.proofs.Common.{◌≡◌, ℕ, ℤ, pos, ◌+ℤ◌, List, [], ◌∷◌, ◌++◌, map, refl, ap, sym, ◌∙◌, subst}
use Rattle.std.specs.Prelude.{Bool as Truth, true, false, All, slice_get, if◌then◌else◌, Option, Some, None, Ok, Err}
use Rattle.std.specs.List.{AllByRecursion}
use Rattle.std.proofs.lemmas.List.Elements.{All-from_recursion}
use Rattle.pg_values.specs.declared.value.Value.{Value}
use Rattle.schema.specs.declared.catalogue.ColumnDef.{ColumnDef}
use Rattle.schema.specs.declared.catalogue.TableDef.{TableDef}
use Rattle.catalogue.specs.declared.checked.CheckedBody.{CheckedBody}
use Rattle.catalogue.specs.declared.checked.CheckedBody.TheVariants as body
use Rattle.catalogue.specs.declared.checked.CheckedChange.{CheckedChange}
use Rattle.catalogue.specs.declared.checked.CheckedInsert.{CheckedInsert}
use Rattle.catalogue.specs.declared.checked.CheckedRemove.{CheckedRemove}
use Rattle.catalogue.specs.declared.checked.TypedCell.{TypedCell}
use Rattle.sql_values.specs.Meaning.{Around}
use Rattle.sql_eval.specs.declared.row.Row.{Row}
use Rattle.sql_eval.specs.declared.effect.Change.{Change}
use Rattle.sql_eval.specs.declared.effect.ReadEffect.{ReadEffect}
use Rattle.sql_eval.specs.Views.{View, Entry, cell_at, columns_of, entries_in, key_column}
use Rattle.sql_eval.specs.Walks.{Coded, all_of, behind, made, those_there, walked, with_some}
use Rattle.sql_eval.specs.Reads.{kept, read_in}
use Rattle.sql_eval.specs.Stored.{changed, change_in, change_of, removal_of, remove_in, removed, updated, updated_row}
use Rattle.sql_eval.specs.Inserts.{all_draws, cells_given, insert_in, is_spent, is_taken, last_serial, row_draws, row_put_in, rows_given, serial_kind, spent, unless_taken}
use Rattle.sql_eval.specs.Reads.{row_of}
use Rattle.sql_eval.specs.Effects.{Given, Reads, Writes, given_by, table_in}

-- the first of a walk, and the others
pub walked_first : {X A : Type 0} (f : X → Coded (Option A)) (x : X) (xs : List X) → walked f (x ∷ xs) ≡ behind (f x) (λ a. made (with_some a) (walked f xs))
walked_first f x xs = first (f x) (all_of (map f xs))
  where
    others : {A : Type 0} (a : Option A) (told : Coded (List (Option A))) → made those_there (made (λ others. a ∷ others) told) ≡ made (with_some a) (made those_there told)
    others a (Ok more) = refl
    others a (Err code) = refl

    first : {A : Type 0} (o : Coded (Option A)) (told : Coded (List (Option A)))
        → made those_there (behind o (λ a. made (λ others. a ∷ others) told)) ≡ behind o (λ a. made (with_some a) (made those_there told))
    first (Ok a) told = others a told
    first (Err code) told = refl

pub ok_is : {A : Type 0} (a b : A) → ◌≡◌ {A = Coded A} (Ok a) (Ok b) → a ≡ b
ok_is a b e = cc

-- what a walk gives is given by its steps
module _ {X A : Type 0} (f : X → Coded (Option A)) (Q : X → Type 0) (P : A → Type 0) (each : (x : X) → Q x → (a : A) → f x ≡ Ok (Some a) → P a) where
  pub walked_all : (xs : List X) (given : List A) → AllByRecursion Q xs → walked f xs ≡ Ok given → AllByRecursion P given
  walked_all [] given all is = subst (AllByRecursion P) (ok_is [] given is) tt
  walked_all (x ∷ xs) given all is = go (λ given is. walked_all xs given all.1 is) (f x) refl (walked f xs) refl (sym (walked_first f x xs) ∙ is)
    where
      go : ((more : List A) → walked f xs ≡ Ok more → AllByRecursion P more) → (o : Coded (Option A)) → f x ≡ o → (w : Coded (List A)) → walked f xs ≡ w → behind o (λ a. made (with_some a) w) ≡ Ok given → AllByRecursion P given
      go rest (Err code) e w h r = absurd (cc)
      go rest (Ok None) e (Ok bs) h r = subst (AllByRecursion P) (ok_is bs given r) (rest bs h)
      go rest (Ok (Some a)) e (Ok bs) h r = subst (AllByRecursion P) (ok_is (a ∷ bs) given r) (each x all.0 a e, rest bs h)
      go rest (Ok None) e (Err code) h r = absurd (cc)
      go rest (Ok (Some a)) e (Err code) h r = absurd (cc)

pub all_any : {X : Type 0} (xs : List X) → AllByRecursion (λ (x : X). Unit {0}) xs
all_any [] = tt
all_any (x ∷ xs) = (tt, all_any xs)

abbrev IsIn : ℕ → Change → Type 0
IsIn table c = c.table ≡ table

some_is : {A : Type 0} (a b : A) → ◌≡◌ {A = Coded (Option A)} (Ok (Some a)) (Ok (Some b)) → a ≡ b
some_is a b e = cc

-- UPDATE
module _ (around : Around) (columns : List ColumnDef) (change : CheckedChange) where
  updated_in : (e : Entry) (o : Coded Row) (c : Change) → made (λ row. Some (changed change.table e.key (Some row))) o ≡ Ok (Some c) → IsIn change.table c
  updated_in e (Ok row) c is = ap (λ (x : Change). x.table) (sym (some_is (changed change.table e.key (Some row)) c is))
  updated_in e (Err code) c is = absurd (cc)

  kept_in : (o : Coded (Option Entry)) (c : Change) → behind o (updated around columns change) ≡ Ok (Some c) → IsIn change.table c
  kept_in (Err code) c is = absurd (cc)
  kept_in (Ok None) c is = absurd (cc)
  kept_in (Ok (Some e)) c is = updated_in e (updated_row around columns change.sets e.row) c is

  pub changes_in : (view : View) (cs : List Change) → change_in around view columns change ≡ Ok cs → AllByRecursion (IsIn change.table) cs
  changes_in view cs is =
      walked_all (change_of around columns change) (λ e. Unit {0}) (IsIn change.table) (λ e q c given. kept_in (kept around change.filter e) c given)
      (entries_in view change.table) cs (all_any (entries_in view change.table)) is

-- DELETE
module _ (around : Around) (remove : CheckedRemove) where
  removed_in : (o : Coded (Option Entry)) (c : Change) → made (removed remove.table) o ≡ Ok (Some c) → IsIn remove.table c
  removed_in (Err code) c is = absurd (cc)
  removed_in (Ok None) c is = absurd (cc)
  removed_in (Ok (Some e)) c is = ap (λ (x : Change). x.table) (sym (some_is (changed remove.table e.key None) c is))

  pub removals_in : (view : View) (cs : List Change) → remove_in around view remove ≡ Ok cs → AllByRecursion (IsIn remove.table) cs
  removals_in view cs is =
      walked_all (removal_of around remove) (λ e. Unit {0}) (IsIn remove.table) (λ e q c given. removed_in (kept around remove.filter e) c given)
      (entries_in view remove.table) cs (all_any (entries_in view remove.table)) is

-- INSERT: what each row puts in
module _ (around : Around) (view : View) (table : ℕ) (columns : List ColumnDef) (key : ℕ) (P : Change → Type 0) (Q : List TypedCell → Type 0)
    (each : (earlier : List Value) (next : ℤ) (cells : List TypedCell) → Q cells → (c : Change) → row_put_in around view table columns key earlier next cells ≡ Ok c → P c) where
  pub rows_all : (rows : List (List TypedCell)) (earlier : List Value) (next : ℤ) (cs : List Change) → AllByRecursion Q rows
      → rows_given around view table columns key earlier next rows ≡ Ok cs → AllByRecursion P cs
  rows_all [] earlier next cs all is = subst (AllByRecursion P) (ok_is [] cs is) tt
  rows_all (cells ∷ rows) earlier next cs all is =
      go (λ earlier next cs is. rows_all rows earlier next cs all.1 is) (row_put_in around view table columns key earlier next cells) refl is
    where
      others : (c : Change) → P c → (w : Coded (List Change)) → ((more : List Change) → w ≡ Ok more → AllByRecursion P more) → made (λ others. c ∷ others) w ≡ Ok cs
          → AllByRecursion P cs
      others c here (Ok more) rest r = subst (AllByRecursion P) (ok_is (c ∷ more) cs r) (here, rest more refl)
      others c here (Err code) rest r = absurd (cc)

      go : ((earlier : List Value) (next : ℤ) (cs : List Change) → rows_given around view table columns key earlier next rows ≡ Ok cs → AllByRecursion P cs)
          → (o : Coded Change) → row_put_in around view table columns key earlier next cells ≡ o
          → behind o (λ c. made (λ others. c ∷ others) (rows_given around view table columns key (earlier ++ c.key ∷ []) (next +ℤ pos (row_draws cells)) rows)) ≡ Ok cs
          → AllByRecursion P cs
      go rest (Err code) e r = absurd (cc)
      go rest (Ok c) e r =
          others c (each earlier next cells all.0 c e) (rows_given around view table columns key (earlier ++ c.key ∷ []) (next +ℤ pos (row_draws cells)) rows)
          (λ more is. rest (earlier ++ c.key ∷ []) (next +ℤ pos (row_draws cells)) more is) r

module _ (around : Around) (view : View) (table : ℕ) (columns : List ColumnDef) (key : ℕ) where
  taken_in : (o : Coded Row) (c : Change) → made (λ row. changed table (cell_at key row) (Some row)) o ≡ Ok c → IsIn table c
  taken_in (Ok row) c is = ap (λ (x : Change). x.table) (sym (ok_is (changed table (cell_at key row) (Some row)) c is))
  taken_in (Err code) c is = absurd (cc)

  values_in : (earlier : List Value) (o : Coded (List Value)) (c : Change)
      → behind o (λ values. made (λ row. changed table (cell_at key row) (Some row)) (unless_taken (is_taken view table earlier (cell_at key (row_of values))) (row_of values))) ≡ Ok c
      → IsIn table c
  values_in earlier (Err code) c is = absurd (cc)
  values_in earlier (Ok values) c is = taken_in (unless_taken (is_taken view table earlier (cell_at key (row_of values))) (row_of values)) c is

  pub puts_in : (earlier : List Value) (next : ℤ) (cells : List TypedCell) (c : Change) → row_put_in around view table columns key earlier next cells ≡ Ok c → IsIn table c
  puts_in earlier next cells c is = values_in earlier (cells_given around columns next cells) c is

pub unspent : {A : Type 0} (b : Truth) (o : Coded A) (a : A) → ◌≡◌ {A = Coded A} (if b then Err spent else o) (Ok a) → o ≡ Ok a
unspent true o a is = absurd (cc)
unspent false o a is = is

pub inserts_in : (around : Around) (view : View) (table : Option TableDef) (next : ℤ) (insert : CheckedInsert) (cs : List Change)
    → insert_in around view table next insert ≡ Ok cs → AllByRecursion (IsIn insert.table) cs
inserts_in around view table next insert cs is =
    rows_all around view insert.table (columns_of table) (key_column table) (IsIn insert.table) (λ cells. Unit {0})
    (λ earlier next cells q c given. puts_in around view insert.table (columns_of table) (key_column table) earlier next cells c given)
    insert.rows [] next cs (all_any insert.rows)
    (unspent (is_spent (last_serial (serial_kind table)) next (all_draws insert.rows)) (rows_given around view insert.table (columns_of table) (key_column table) [] next insert.rows) cs is)

-- what is written
pub written_is : (o : Coded (List Change)) (cs : List Change) → made Writes o ≡ Ok (Writes cs) → o ≡ Ok cs
written_is (Ok bs) cs is = cc
written_is (Err code) cs is = absurd (cc)

pub read_is : {A : Type 0} (o : Coded ReadEffect) (cs : List Change) → made Reads o ≡ Ok (Writes cs) → A
read_is (Ok read) cs is = absurd (cc)
read_is (Err code) cs is = absurd (cc)

in_table : (table : ℕ) (cs : List Change) → AllByRecursion (IsIn table) cs → AllByRecursion (λ (c : Change). Some c.table ≡ Some table) cs
in_table table [] all = tt
in_table table (c ∷ cs) all = (ap Some all.0, in_table table cs all.1)

all_in : (around : Around) (tables : List TableDef) (b : CheckedBody) (view : View) (next : ℤ) (cs : List Change) → given_by around tables b view next ≡ Ok (Writes cs)
    → AllByRecursion (λ (c : Change). Some c.table ≡ table_in b) cs
all_in around tables (body.Read read) view next cs is = read_is (read_in around view read) cs is
all_in around tables (body.Insert insert) view next cs is =
    in_table insert.table cs (inserts_in around view (slice_get tables insert.table) next insert cs
    (written_is (insert_in around view (slice_get tables insert.table) next insert) cs is))
all_in around tables (body.Change change) view next cs is =
    in_table change.table cs (changes_in around (columns_of (slice_get tables change.table)) change view cs
    (written_is (change_in around view (columns_of (slice_get tables change.table)) change) cs is))
all_in around tables (body.Remove remove) view next cs is = in_table remove.table cs (removals_in around remove view cs (written_is (remove_in around view remove) cs is))

pub stay_in : (around : Around) (tables : List TableDef) (b : CheckedBody) (view : View) (next : ℤ) (cs : List Change) → given_by around tables b view next ≡ Ok (Writes cs)
    → All (λ (c : Change). Some c.table ≡ table_in b) cs
stay_in around tables b view next cs is = All-from_recursion (λ c. Some c.table ≡ table_in b) cs (all_in around tables b view next cs is)
