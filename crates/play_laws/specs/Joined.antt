-- Stores of a play beside those of the world: with what recoveries have and ask there, and without marks.
use Rattle.std.specs.Prelude.{◌≡◌, ◌⊎◌, ℕ, Bool, true, false, Option, Some, None}
use Rattle.backend_trait.specs.declared.request.Request.{Request}
use Rattle.backend_trait.specs.Keys.{Place}
use Rattle.backend_trait.specs.Store.{Live, Transaction, Absent, Alive, Dead, Pending, Store}
use Rattle.play_laws.specs.Unmarked.{unmark}

-- the same transaction, of which no more is stale: t in a play, u beside it
pub record SameLive (t u : Live) : Type 0 where
  pub base : u.base ≡ t.base
  pub changes : u.changes ≡ t.changes
  pub held : u.held ≡ t.held
  pub stale : (q : Place) → u.stale q ≡ true → t.stale q ≡ true

abbrev pub SameOwn : Transaction → Transaction → Type 0
SameOwn Absent y = y ≡ Absent
SameOwn (Alive t) y = (u : Live) × (y ≡ Alive u) × SameLive t u
SameOwn Dead y = y ≡ Dead

-- what a session has there: that of its recovery, where that has one, and its own is none then; else its own
abbrev pub IsJoined : Transaction → Transaction → Transaction → Type 0
IsJoined Absent own z = z ≡ own
IsJoined (Alive u) own z = (own ≡ Absent) × ((t : Live) × (z ≡ Alive t) × SameLive t u)
IsJoined Dead own z = (own ≡ Absent) × (z ≡ Dead)

-- what waits there of a session: what its recovery asks, and nothing of its own then; else its own, without its mark. At a lost backend
-- a play keeps what a recovery asked that has seen the loss
abbrev pub IsPosed : Bool → Option Request → Option Pending → Option Pending → Type 0
IsPosed lost None own z = (z ≡ unmark own) ⊎ ((lost ≡ true) × (own ≡ None))
IsPosed lost (Some request) own z = (own ≡ None) × (z ≡ Some (record { request = request; crossed = false }))

-- a store of a play, by that of the world and by what recoveries have and ask there
pub record IsWhole (own : Store) (transaction : ℕ → Transaction) (asked : ℕ → Option Request) (st : Store) : Type 0 where
  pub same : st ≡ record own { transaction = st.transaction; pending = st.pending }
  pub transactions : (s : ℕ) → IsJoined (transaction s) (own.transaction s) (st.transaction s)
  pub posed : (s : ℕ) → IsPosed own.lost (asked s) (own.pending s) (st.pending s)
