-- The effect of a checked statement on a view: what it draws, and a code or what it gives.
use Rattle.std.specs.Prelude.{◌≡◌, ◌<◌, ℕ, ℤ, List, [], ◌∷◌, length, slice_get, Option, Some, None, Result, Ok, Err}
use Rattle.pg_values.specs.declared.value.Value.{Value}
use Rattle.schema.specs.declared.catalogue.TableDef.{TableDef}
use Rattle.catalogue.specs.declared.checked.CheckedBody.{CheckedBody}
use Rattle.catalogue.specs.declared.checked.CheckedBody.TheVariants as body
use Rattle.sql_values.specs.Meaning.{Around}
use Rattle.sql_values.specs.declared.fault.ExprFault.{ExprFault}
use Rattle.sql_values.specs.declared.fault.ExprFault.TheVariants as expr
use Rattle.sql_eval.specs.declared.row.Row.{Row}
use Rattle.sql_eval.specs.declared.effect.ReadEffect.{ReadEffect}
use Rattle.sql_eval.specs.declared.effect.Change.{Change}
use Rattle.sql_eval.specs.declared.effect.WriteEffect.{WriteEffect}
use Rattle.sql_eval.specs.declared.effect.EvalFault.{EvalFault}
use Rattle.sql_eval.specs.declared.effect.EvalFault.TheVariants.{Refused, NoMemory}
use Rattle.sql_eval.specs.Views.{View, columns_of, IsKeyed}
use Rattle.sql_eval.specs.Walks.{Coded, made}
use Rattle.sql_eval.specs.Reads.{read_in}
use Rattle.sql_eval.specs.Stored.{change_in, remove_in}
use Rattle.sql_eval.specs.Inserts.{insert_in, insert_draws, all_draws}

-- what a statement gives: a read its rows, a write what it changes in a table
pub data Given : Type 0 where
  Reads : ReadEffect → Given
  Writes : List Change → Given

-- how many serial numbers it draws, and a code or what it gives
pub record Effect : Type 0 where
  pub draws : ℕ
  pub given : Coded Given

abbrev pub given_by : Around → List TableDef → CheckedBody → View → ℤ → Coded Given
given_by around tables (body.Read read) view next = made Reads (read_in around view read)
given_by around tables (body.Insert insert) view next =
    made Writes (insert_in around view (slice_get tables insert.table) next insert)
given_by around tables (body.Change change) view next =
    made Writes (change_in around view (columns_of (slice_get tables change.table)) change)
given_by around tables (body.Remove remove) view next = made Writes (remove_in around view remove)

-- the view has no part in what is drawn
abbrev pub draws_of : List TableDef → CheckedBody → ℤ → ℕ
draws_of tables (body.Read read) next = 0
draws_of tables (body.Insert insert) next = insert_draws (slice_get tables insert.table) next insert
draws_of tables (body.Change change) next = 0
draws_of tables (body.Remove remove) next = 0

abbrev pub effect_of : Around → List TableDef → CheckedBody → View → ℤ → Effect
effect_of around tables statement view next =
    record { draws = draws_of tables statement next; given = given_by around tables statement view next }

-- ---- what the code answers; want of memory alone is free

abbrev pub IsRead : Result ReadEffect EvalFault → Effect → Type 0
IsRead (Ok given) effect = (effect.draws ≡ 0) × (effect.given ≡ Ok (Reads given))
IsRead (Err (Refused code draws)) effect = (effect.draws ≡ draws) × (effect.given ≡ Err code.bytes)
IsRead (Err NoMemory) effect = Unit {0}

-- a fault of a statement that drew so many numbers
abbrev pub with_draws : ℕ → ExprFault → EvalFault
with_draws draws (expr.Refused code) = Refused code draws
with_draws draws expr.NoMemory = NoMemory

-- the count of a write is that of its changes
abbrev pub IsWrite : Result WriteEffect EvalFault → Effect → Type 0
IsWrite (Ok given) effect =
    (effect.draws ≡ given.draws) × (effect.given ≡ Ok (Writes given.changes)) × (given.count ≡ length given.changes)
IsWrite (Err (Refused code draws)) effect = (effect.draws ≡ draws) × (effect.given ≡ Err code.bytes)
IsWrite (Err NoMemory) effect = Unit {0}

-- ---- what the code asks

abbrev pub IsReadBody : CheckedBody → Type 0
IsReadBody (body.Read read) = Unit {0}
IsReadBody other = ⊥

abbrev pub IsWriteBody : CheckedBody → Type 0
IsWriteBody (body.Read read) = ⊥
IsWriteBody other = Unit {0}

abbrev pub table_in : CheckedBody → Option ℕ
table_in (body.Read read) = read.table
table_in (body.Insert insert) = Some insert.table
table_in (body.Change change) = Some change.table
table_in (body.Remove remove) = Some remove.table

-- the statement's table is there
abbrev pub HasTable : List TableDef → Option ℕ → Type 0
HasTable tables None = Unit {0}
HasTable tables (Some table) = table < length tables

-- the rows of the statement's table stand under their own keys
abbrev pub IsKeyedAt : List TableDef → View → Option ℕ → Type 0
IsKeyedAt tables view None = Unit {0}
IsKeyedAt tables view (Some table) = IsKeyed view table (slice_get tables table)

-- no more numbers are drawn than are counted, as fewer than 4294967296 rows draw one each
abbrev pub DrawsFew : CheckedBody → Type 0
DrawsFew (body.Insert insert) = all_draws insert.rows < 4294967296
DrawsFew other = Unit {0}
