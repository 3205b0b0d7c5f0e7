-- The tables that a text says are tables that a schema can have.
use Rattle.std.proofs.Common.{◌≡◌, ◌≤◌, ℕ, true, false, List, [], ◌∷◌, ◌++◌, length, refl, sym, subst, Option, Some, None}
use Rattle.std.specs.List.{All}
use Rattle.std.proofs.lemmas.List.Elements.{All-head, All-tail}
use Rattle.sql_tokens.specs.declared.token.Token.{Token as AnyToken}
use Rattle.schema.specs.declared.catalogue.TableDef.{TableDef}
use Rattle.schema.specs.declared.open.OpenTable.{OpenTable}
use Rattle.schema.specs.declared.open.Place.TheVariants.{Create}
use Rattle.schema.specs.Open.{has_table, empty_table, whole_table_with}
use Rattle.schema.specs.Grammar.{TableOf, TablesOf}
use Rattle.schema.specs.Reading.{Says, as_text, start, tokens_of}
use Rattle.schema.proofs.Completing.{nothing, same}
use Rattle.schema.proofs.Whole.{is_read}
use Rattle.schema.specs.Allowed.{IsName, IsBelow, IsTable, AreTables, AreAllowed}
use Rattle.sql_profile.proofs.Faults.{all_sound}
use Rattle.sql_profile.proofs.SchemaNames.{AreClean, all_clean}
use Rattle.sql_profile.proofs.Lists.{AreNext, all_columns}
use Rattle.sql_profile.proofs.Columns.{IsOpen, columns_open}

empty_open : (name : List ℕ) → IsOpen (empty_table name)
empty_open name = record { columns = tt; key_below = tt; serial_below = tt }

abbrev whole : OpenTable → ℕ → TableDef
whole read key = record { name = read.name; columns = read.columns; key = key; serial = read.serial }

whole_allowed : (before : List TableDef) (read : OpenTable) (key : Option ℕ) (table : TableDef) → IsName read.name → has_table read.name before ≡ false → IsOpen read → read.key ≡ key
    → whole_table_with read key ≡ Some table → length table.columns ≤ 32 → IsTable before table
whole_allowed before read None table named new is key_is e few = absurd (nothing e)
whole_allowed before read (Some key) table named new is key_is e few =
    let made : whole read key ≡ table = same (whole read key) table e in
    subst (IsTable before) made (record {
      named = named;
      is_new = new;
      columns = all_columns key read.serial [] read.columns (subst (λ (o : Option ℕ). AreNext o read.serial [] read.columns) key_is is.columns);
      has_key = subst (IsBelow (length read.columns)) key_is is.key_below;
      has_serial = is.serial_below;
      few = subst (λ (t : TableDef). length t.columns ≤ 32) (sym made) few;
    })

table_allowed : (before : List TableDef) (ts : List AnyToken) (table : TableDef) (rest : List AnyToken) → TableOf before ts table rest → AreClean ts → length table.columns ≤ 32
    → IsTable before table × AreClean rest
table_allowed before ts table rest t clean few =
    let front = subst AreClean t.begun clean in
    let read = columns_open t.count (empty_table t.name.text) t.inner t.read _ t.columns front.1.1.1.1 (empty_open t.name.text) in (
      whole_allowed before t.read t.read.key table (subst IsName (sym read.1) front.1.1.0)
          (subst (λ (n : List ℕ). has_table n before ≡ false) (sym read.1) t.is_new) read.0 refl t.has_key few,
      read.2.1.1,
    )

tables_allowed : (before : List TableDef) (ts : List AnyToken) (tables : List TableDef) (rest : List AnyToken) → TablesOf before ts tables rest → AreClean ts → All (λ t. length t.columns ≤ 32) tables
    → AreTables before tables
tables_allowed before ts [] rest is clean few = tt
tables_allowed before ts (table ∷ tables) rest (mid, t, others) clean few =
    let one = table_allowed before ts table mid t clean (All-head (λ (t : TableDef). length t.columns ≤ 32) table tables few) in
    (one.0, tables_allowed (before ++ table ∷ []) mid tables rest others one.1 (All-tail (λ (t : TableDef). length t.columns ≤ 32) table tables few))

pub says_allowed : (text : List ℕ) (tables : List TableDef) → Says text tables → AreAllowed tables
says_allowed text tables (placed, tokens, (is, within)) =
    let sound = all_sound start (tokens_of placed) (tables, Create) (is_read (tokens_of placed) tables (is, within)) in
    let clean = all_clean (as_text text) placed tokens sound in
    (within.0, tables_allowed [] (tokens_of placed) tables [] is clean within.1)
