-- What an INSERT draws, and whether there are numbers enough.
use Rattle.std.proofs.Common.{◌≡◌, ℕ, [], ap}
use Rattle.std.specs.Prelude.{ℤ, Bool as Truth, true, false, Option, Ok, Err, if◌then◌else◌}
use Rattle.schema.specs.declared.catalogue.TableDef.{TableDef}
use Rattle.catalogue.specs.declared.checked.CheckedInsert.{CheckedInsert}
use Rattle.sql_eval.specs.Views.{View, columns_of, key_column}
use Rattle.sql_eval.specs.Reads.{alone}
use Rattle.sql_eval.specs.Inserts.{all_draws, insert_draws, insert_in, is_spent, last_serial, rows_given, serial_kind, spent}

module _ (view : View) (table : Option TableDef) (next : ℤ) (insert : CheckedInsert) where
  abbrev pub AreSpent : Truth → Type 0
  AreSpent test = is_spent (last_serial (serial_kind table)) next (all_draws insert.rows) ≡ test

  pub none_drawn : AreSpent true → insert_draws table next insert ≡ 0
  none_drawn is = ap (λ (b : Truth). if b then 0 else all_draws insert.rows) is

  pub all_drawn : AreSpent false → insert_draws table next insert ≡ all_draws insert.rows
  all_drawn is = ap (λ (b : Truth). if b then 0 else all_draws insert.rows) is

  pub spent_given : AreSpent true → insert_in alone view table next insert ≡ Err spent
  spent_given is = ap (λ (b : Truth). if b then Err spent else rows_given alone view insert.table (columns_of table) (key_column table) [] next insert.rows) is

  pub rows_put : AreSpent false → insert_in alone view table next insert ≡ rows_given alone view insert.table (columns_of table) (key_column table) [] next insert.rows
  rows_put is = ap (λ (b : Truth). if b then Err spent else rows_given alone view insert.table (columns_of table) (key_column table) [] next insert.rows) is
