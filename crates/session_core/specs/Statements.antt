-- Stores at rest.
use Rattle.std.specs.Prelude.{◌≡◌, ℕ, false, List, [], ◌∷◌, None, slice_get, Some}
use Rattle.schema.specs.declared.catalogue.TableDef.{TableDef}
use Rattle.backend_trait.specs.Rows.{Rows, no_rows}
use Rattle.backend_trait.specs.Store.{Store, Absent}

-- a store at rest: these tables and rows, no transaction, nothing pending
pub record IsReady (tables : List TableDef) (rows : Rows) (st : Store) : Type 0 where
  pub tables_are : st.tables ≡ tables
  pub rows_are : st.rows ≡ rows
  pub no_transaction : (o : ℕ) → st.transaction o ≡ Absent
  pub idle : (o : ℕ) → st.pending o ≡ None
  pub not_lost : st.lost ≡ false

-- all stores are at rest with the same tables and rows
abbrev pub AreReady : List TableDef → Rows → List Store → Type 0
AreReady tables rows stores = (b : ℕ) (st : Store) → slice_get stores b ≡ Some st → IsReady tables rows st

-- the tables and the rows of the primary, the first
abbrev pub primary_tables : List Store → List TableDef
primary_tables [] = []
primary_tables (st ∷ stores) = st.tables

abbrev pub primary_rows : List Store → Rows
primary_rows [] = no_rows
primary_rows (st ∷ stores) = st.rows
