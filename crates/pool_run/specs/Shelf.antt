-- The boxes of a shelf: what a run begins with, and what it leaves in the first of them.
use Rattle.std.specs.Prelude.{◌≡◌, ◌<◌, ◌≤◌, ℕ, Bool, true, List, Some, All, length, map, slice_get}
use Rattle.schema.specs.declared.catalogue.TableDef.{TableDef}
use Rattle.backend_trait.specs.Rows.{Rows}
use Rattle.backend_trait.specs.Store.{Store, blank, prepared}
use Rattle.session_core.specs.Statements.{AreReady, IsReady, primary_rows, primary_tables}

-- each is a blank store that is honest, prompt and steady
pub record AreFresh {X : Type 0} (meaning : X → Store) (is_honest is_prompt is_steady : X → Bool) (shelf : List X) : Type 0 where
  pub blank_each : All (λ b. meaning b ≡ blank) shelf
  pub honest : All (λ b. is_honest b ≡ true) shelf
  pub prompt : All (λ b. is_prompt b ≡ true) shelf
  pub steady : All (λ b. is_steady b ≡ true) shelf

-- each is a store of these tables without rows that is honest, prompt and steady
pub record ArePrepared {X : Type 0} (meaning : X → Store) (is_honest is_prompt is_steady : X → Bool) (tables : List TableDef) (boxes : List X) : Type 0 where
  pub prepared_each : All (λ b. meaning b ≡ prepared tables) boxes
  pub honest : All (λ b. is_honest b ≡ true) boxes
  pub prompt : All (λ b. is_prompt b ≡ true) boxes
  pub steady : All (λ b. is_steady b ≡ true) boxes

-- so many backends, honest, prompt, steady, and at rest with the tables and the rows of the first
pub record AreBackends {X : Type 0} (meaning : X → Store) (is_honest is_prompt is_steady : X → Bool) (count : ℕ) (backends : List X) : Type 0 where
  pub some : 0 < count
  pub few : count ≤ 8
  pub so_many : length backends ≡ count
  pub ready : AreReady (primary_tables (map meaning backends)) (primary_rows (map meaning backends)) (map meaning backends)
  pub honest : All (λ b. is_honest b ≡ true) backends
  pub prompt : All (λ b. is_prompt b ≡ true) backends
  pub steady : All (λ b. is_steady b ≡ true) backends

-- each of the first, so many, is there and has the store of its number
abbrev pub HaveStores : ℕ → (ℕ → Store) → List Store → Type 0
HaveStores count stores shelf = (b : ℕ) → b < count → slice_get shelf b ≡ Some (stores b)

-- each of the first, so many, is there and at rest with these rows
abbrev pub HaveRows : ℕ → List TableDef → Rows → List Store → Type 0
HaveRows count tables rows stores = (b : ℕ) → b < count → (st : Store) × (slice_get stores b ≡ Some st) × IsReady tables rows st
