-- Rows that stand in their tables, and stay so where stored changes are laid over them.
use Rattle.std.proofs.Common.{◌≡◌, ℕ, zero, suc, ◌<◌, List, [], ◌∷◌, length, refl, sym, ap, ◌∙◌, subst, arith}
use Rattle.std.specs.Prelude.{cond, slice_get, All, Bool as Truth, true, false, Option, Some, None}
use Rattle.std.specs.List.{AllByRecursion}
use Rattle.std.proofs.lemmas.List.Elements.{All-from_recursion, recursion_from_All}
use Rattle.std.specs.FinMap as fin
use Rattle.std.specs.declared.cmp.Ordering.{Ordering}
use Rattle.std.specs.declared.cmp.Ordering.TheVariants.{Less, Equal, Greater}
use Rattle.std.specs.Ordering.{is_eq}
use Rattle.schema.specs.declared.catalogue.TableDef.{TableDef}
use Rattle.catalogue.specs.declared.checked.CheckedBody.{CheckedBody}
use Rattle.catalogue.specs.declared.checked.CheckedBody.TheVariants as body
use Rattle.catalogue.specs.declared.checked.ColumnDesc.{ColumnDesc}
use Rattle.checked_sql.specs.OfCatalogue.{is_body, is_change, is_empty, is_insert, is_remove, of_table}
use Rattle.sql_eval.specs.declared.row.Row.{Row}
use Rattle.sql_eval.specs.declared.effect.Change.{Change}
use Rattle.sql_eval.specs.Views.{Entry, IsUnderItsKey, View, entries_in, key_column}
use Rattle.sql_eval.specs.Effects.{HasTable, IsKeyedAt, IsWriteBody, table_in}
use Rattle.backend_trait.specs.Typed.{AreAllStored, IsChangeStored, IsStored}
use Rattle.backend_trait.proofs.Truths.{and_true}
use Rattle.backend_trait.proofs.Stood.{all_in}
use Rattle.backend_trait.specs.Keys.{Place, is_place, place_order}
use Rattle.backend_trait.specs.Rows.{Rows, Changes, laid_over, no_rows, no_changes}
use Rattle.backend_trait.specs.Effect.{changed_on, changes_of, place_changed}
use Rattle.backend_trait.proofs.KeyLaws.{place_antisymmetric, place_total}
use Rattle.backend_trait.proofs.RowLaws.{get-laid_over, row_over}
use Rattle.outcomes.specs.declared.change.ChangeSet.{ChangeSet}
use Rattle.outcomes.specs.Log.{rows_of, rows_on}
use Rattle.outcomes.specs.Stored as sets

module _ (tables : List TableDef) where
  equal_place : (p q : Place) (r : Ordering) → place_order p q ≡ r → is_eq r ≡ true → p ≡ q
  equal_place p q Less is e = absurd (let f : false ≡ true = e in cc)
  equal_place p q Equal is e = place_antisymmetric p q is
  equal_place p q Greater is e = absurd (let f : false ≡ true = e in cc)

  over_stored : (changed : Option (Option Row)) (below : Option Row) (p : Place) (row : Row)
      → ((r : Row) → changed ≡ Some (Some r) → IsStored (slice_get tables p.table) p.key r) → ((r : Row) → below ≡ Some r → IsStored (slice_get tables p.table) p.key r)
      → row_over changed below ≡ Some row → IsStored (slice_get tables p.table) p.key row
  over_stored None below p row left stood is = stood row is
  over_stored (Some changed) below p row left stood is = left row (ap Some is)

  pub laid_stored : (rows : Rows) (changes : Changes) → AreAllStored tables rows → sets.AreLeftStored tables changes → AreAllStored tables (laid_over changes rows)
  laid_stored rows changes stored left = λ p row there.
      over_stored (fin.get changes p) (fin.get rows p) p row (left p) (stored p) (sym (get-laid_over changes rows p) ∙ there)

  -- what stands where changes are laid over rows is what they have left
  pub left_stored : (rows : Rows) (changes : Changes) → AreAllStored tables (laid_over changes rows) → sets.AreLeftStored tables changes
  left_stored rows changes stored = λ p row there. stored p row (get-laid_over changes rows p ∙ ap (λ (c : Option (Option Row)). row_over c (fin.get rows p)) there)

  -- changes that leave stored rows, one after another
  one_left : (old : Changes) (c : Change) → sets.AreLeftStored tables old → IsChangeStored tables c → sets.AreLeftStored tables (fin.insert old (place_changed c) c.row)
  one_left old c left changed = λ p row there.
      go p row (is_place p (place_changed c)) refl (sym (fin.get-insert place_total old (place_changed c) c.row p) ∙ there)
    where
      go : (p : Place) (row : Row) (b : Truth) → is_place p (place_changed c) ≡ b → cond b (Some c.row) (fin.get old p) ≡ Some (Some row) → IsStored (slice_get tables p.table) p.key row
      go p row true is there =
          let same : c.row ≡ Some row = cc in
          subst (λ (q : Place). IsStored (slice_get tables q.table) q.key row) (sym (equal_place p (place_changed c) (place_order p (place_changed c)) refl is)) (changed row same)
      go p row false is there = left p row there

  all_left : (old : Changes) (cs : List Change) → sets.AreLeftStored tables old → AllByRecursion (IsChangeStored tables) cs → sets.AreLeftStored tables (changed_on old cs)
  all_left old [] left all = left
  all_left old (c ∷ cs) left all = all_left (fin.insert old (place_changed c) c.row) cs (one_left old c left all.0) all.1

  none_left : sets.AreLeftStored tables no_changes
  none_left = λ p row there. absurd (let none : None ≡ Some (Some row) = sym (fin.get-empty place_order p) ∙ there in cc)

  pub changes_stored : (cs : List Change) → All (IsChangeStored tables) cs → sets.AreStored tables cs
  changes_stored cs all = all_left no_changes cs none_left (recursion_from_All (IsChangeStored tables) cs all)

  pub none_stored_left : sets.AreStored tables []
  none_stored_left = none_left

  on_stored : (rows : Rows) (log : List ChangeSet) → AreAllStored tables rows → AllByRecursion (sets.IsSetStored tables) log → AreAllStored tables (rows_on rows log)
  on_stored rows [] stored all = stored
  on_stored rows (set ∷ log) stored all = on_stored (laid_over (changes_of set.changes.items) rows) log (laid_stored rows (changes_of set.changes.items) stored all.0) all.1

  none_stored : AreAllStored tables no_rows
  none_stored = λ p row there. absurd (let none : None ≡ Some row = sym (fin.get-empty place_order p) ∙ there in cc)

  pub log_stored : (log : List ChangeSet) → sets.AreAllStored tables log → AreAllStored tables (rows_of log)
  log_stored log all = on_stored no_rows log none_stored (recursion_from_All (sets.IsSetStored tables) log all)

  -- rows that stand in their tables stand under their own keys
  under_keys : (table : Option TableDef) (es : List Entry) → AllByRecursion (λ (e : Entry). IsStored table e.key e.row) es → AllByRecursion (IsUnderItsKey (key_column table)) es
  under_keys table [] all = tt
  under_keys table (e ∷ es) all = let here = all.0 in (here.own, under_keys table es all.1)

  pub keyed_at : (view : View) (table : Option ℕ) → AreAllStored tables view → IsKeyedAt tables view table
  keyed_at view None stored = tt
  keyed_at view (Some table) stored =
      All-from_recursion (IsUnderItsKey (key_column (slice_get tables table))) (entries_in view table)
      (under_keys (slice_get tables table) (entries_in view table) (all_in tables view table stored))

-- ---- the table of a statement is there

table_there : {A : Type 0} (is : TableDef → A → Truth) (tables : List TableDef) (n : ℕ) (a : A) → of_table is (slice_get tables n) a ≡ true → n < length tables
table_there is [] n a of = absurd (let f : false ≡ true = of in cc)
table_there is (t ∷ tables) zero a of = omega arith
table_there is (t ∷ tables) (suc n) a of = let below = table_there is tables n a of in omega arith

pub has_table : (tables : List TableDef) (b : CheckedBody) (columns : List ColumnDesc) → IsWriteBody b → is_body tables [] b columns ≡ true → HasTable tables (table_in b)
has_table tables (body.Read read) columns write is = absurd write
has_table tables (body.Insert insert) columns write is =
    table_there (is_insert []) tables insert.table insert (and_true (is_empty columns) (of_table (is_insert []) (slice_get tables insert.table) insert) is).1
has_table tables (body.Change change) columns write is =
    table_there (is_change []) tables change.table change (and_true (is_empty columns) (of_table (is_change []) (slice_get tables change.table) change) is).1
has_table tables (body.Remove remove) columns write is =
    table_there (is_remove []) tables remove.table remove (and_true (is_empty columns) (of_table (is_remove []) (slice_get tables remove.table) remove) is).1

-- rows that are seen and stand in their tables stand under their keys
pub keyed_seen : (tables : List TableDef) (view rows : Rows) (table : Option ℕ) → view ≡ rows → AreAllStored tables rows → IsKeyedAt tables view table
keyed_seen tables view rows table is stored = keyed_at tables view table (subst (AreAllStored tables) (sym is) stored)
