-- The parts of a SELECT, and its rows as entries.
use Rattle.std.proofs.Common.{◌≡◌, ℕ, List, [], ◌∷◌, map, length, take, refl, ap, sym, ◌∙◌}
use Rattle.std.specs.Prelude.{Bool as Truth, true, false, Option, Some, None, Ok, Err, if◌then◌else◌}
use Rattle.std.proofs.lemmas.List.{take-map}
use Rattle.pg_values.specs.declared.value.Value.{Value}
use Rattle.catalogue.specs.declared.checked.CheckedRead.{CheckedRead}
use Rattle.sql_eval.specs.declared.row.Row.{Row}
use Rattle.sql_eval.specs.declared.effect.ReadEffect.{ReadEffect}
use Rattle.sql_eval.specs.Views.{View, Entry, entry_of, cell_at}
use Rattle.sql_eval.specs.Walks.{Coded, behind, made, all_of, walked}
use Rattle.sql_eval.specs.Ordered.{ordered}
use Rattle.sql_eval.specs.Reads.{alone, counted, cut, kept, keys_wanted, limit_in, listed, no_row, read_in, reading, result_row, shown, entries_read}
use Rattle.sql_eval.specs.Seeking.{AreRowsBut, IsKeptOut}
use Rattle.sql_eval.proofs.Entries.{map_twice, walked_mapped}
use Rattle.sql_eval.proofs.Sifting.{walk_of_rows}

pub cut_mapped : {A B : Type 0} (f : A → B) (limit : Option ℕ) (xs : List A) → map f (cut limit xs) ≡ cut limit (map f xs)
cut_mapped f None xs = refl
cut_mapped f (Some n) xs = sym (take-map f n xs)

module _ {X : Type 0} (now : X → Row) (key : ℕ) (rows : List X) where
  abbrev pub entries : List Entry
  entries = map (λ (r : X). entry_of key (now r)) rows

  pub keys_are : (for_update : Truth) → for_update ≡ true → ◌≡◌ {A = Coded (List Value)} (Ok (map (λ (r : X). cell_at key (now r)) rows)) (Ok (keys_wanted for_update entries))
  keys_are for_update is = ap Ok (map_twice (λ (e : Entry). e.key) (λ (r : X). entry_of key (now r)) rows ∙ ap (λ b. keys_wanted b entries) (sym is))

  -- the list at each row
  abbrev each_listed : CheckedRead → Coded (List Row)
  each_listed read = all_of (map (λ (r : X). result_row alone read.list (now r)) rows)

  each_is : (read : CheckedRead) → listed alone read entries ≡ made (reading read.for_update entries) (each_listed read)
  each_is read = ap (λ (os : List (Coded Row)). made (reading read.for_update entries) (all_of os))
      (sym (map_twice (λ (e : Entry). result_row alone read.list e.row) (λ (r : X). entry_of key (now r)) rows))

  pub listed_stops : (read : CheckedRead) (code : List ℕ) → each_listed read ≡ Err code → listed alone read entries ≡ Err code
  listed_stops read code fails = each_is read ∙ ap (made (reading read.for_update entries)) fails

  pub listed_is : (read : CheckedRead) (given : List Row) (keys : List Value) → each_listed read ≡ Ok given
      → ◌≡◌ {A = Coded (List Value)} (Ok (keys_wanted read.for_update entries)) (Ok keys) → listed alone read entries ≡ Ok (record { rows = given; keys = keys })
  listed_is read given keys gives wanted =
      let same : keys_wanted read.for_update entries ≡ keys = cc in
      each_is read ∙ (ap (made (reading read.for_update entries)) gives ∙ ap (λ (ks : List Value). Ok (record { rows = given; keys = ks })) same)

  -- the filter, and then what is shown
  pub walk_is : (read : CheckedRead) → walked (λ (r : X). kept alone read.filter (entry_of key (now r))) rows ≡ walked (kept alone read.filter) entries
  walk_is read = walked_mapped (kept alone read.filter) (λ (r : X). entry_of key (now r)) rows

  pub read_stops : (read : CheckedRead) (code : List ℕ) → walked (λ (r : X). kept alone read.filter (entry_of key (now r))) rows ≡ Err code
      → behind (walked (kept alone read.filter) entries) (shown alone read) ≡ Err code
  read_stops read code fails = ap (λ (o : Coded (List Entry)). behind o (shown alone read)) (sym (walk_is read) ∙ fails)

  pub read_shows : (read : CheckedRead) (es : List Entry) → walked (λ (r : X). kept alone read.filter (entry_of key (now r))) rows ≡ Ok es
      → shown alone read es ≡ behind (walked (kept alone read.filter) entries) (shown alone read)
  read_shows read es gives = sym (ap (λ (o : Coded (List Entry)). behind o (shown alone read)) (sym (walk_is read) ∙ gives))

  -- the rows of a table that the filter is asked at
  pub table_read : (view : View) (read : CheckedRead) (table : ℕ) → read.table ≡ Some table → AreRowsBut (IsKeptOut read.filter) view table key (map now rows)
      → behind (walked (kept alone read.filter) entries) (shown alone read) ≡ read_in alone view read
  table_read view read table is but =
      ap (λ (o : Coded (List Entry)). behind o (shown alone read))
      (sym (walk_is read) ∙ walk_of_rows (kept alone read.filter) (IsKeptOut read.filter) (λ e out. out) now rows view table key but)
      ∙ ap (λ (t : Option ℕ). behind (walked (kept alone read.filter) (entries_read view t)) (shown alone read)) (sym is)

-- one row of no cells, where there is no table
pub alone_read : {X : Type 0} (now : X → Row) (rows : List X) (view : View) (read : CheckedRead) → read.table ≡ None → map now rows ≡ no_row ∷ []
    → behind (walked (kept alone read.filter) (entries now 0 rows)) (shown alone read) ≡ read_in alone view read
alone_read now rows view read is are =
    ap (λ (es : List Entry). behind (walked (kept alone read.filter) es) (shown alone read))
    (map_twice (entry_of 0) now rows ∙ (ap (map (entry_of 0)) are ∙ ap (entries_read view) (sym is)))

-- ---- order and limit

pub counted_is : (read : CheckedRead) (es : List Entry) → read.count ≡ true → ◌≡◌ {A = Coded ReadEffect} (Ok (counted (length es))) (shown alone read es)
counted_is read es is =
    ap (λ (b : Truth). if b then Ok (counted (length es)) else behind (limit_in alone read.limit) (λ limit. listed alone read (cut limit (ordered read.order es)))) (sym is)

not_counted : (read : CheckedRead) (es : List Entry) → read.count ≡ false
    → shown alone read es ≡ behind (limit_in alone read.limit) (λ limit. listed alone read (cut limit (ordered read.order es)))
not_counted read es is =
    ap (λ (b : Truth). if b then Ok (counted (length es)) else behind (limit_in alone read.limit) (λ limit. listed alone read (cut limit (ordered read.order es)))) is

pub shown_stops : (read : CheckedRead) (es : List Entry) (code : List ℕ) → read.count ≡ false → limit_in alone read.limit ≡ Err code → shown alone read es ≡ Err code
shown_stops read es code is fails =
    not_counted read es is ∙ ap (λ (o : Coded (Option ℕ)). behind o (λ limit. listed alone read (cut limit (ordered read.order es)))) fails

pub shown_lists : (read : CheckedRead) (es left : List Entry) (limit : Option ℕ) → read.count ≡ false → limit_in alone read.limit ≡ Ok limit → left ≡ cut limit (ordered read.order es)
    → listed alone read left ≡ shown alone read es
shown_lists read es left limit is gives are =
    ap (listed alone read) are ∙ sym (not_counted read es is ∙ ap (λ (o : Coded (Option ℕ)). behind o (λ limit. listed alone read (cut limit (ordered read.order es)))) gives)
