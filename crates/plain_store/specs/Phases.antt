-- What a session's part of the program's data means: its transaction, its request that waits, and what that asks for.
use Rattle.std.specs.Prelude.{ℕ, Bool, false, ◌||◌, ◌==◌, List, [], ◌∷◌, map, Option, Some, None}
use Rattle.sql_eval.specs.declared.effect.Change.{Change}
use Rattle.backend_trait.specs.declared.request.Request.{Request}
use Rattle.backend_trait.specs.Keys.{Place}
use Rattle.backend_trait.specs.Effect.{Wants, these_places, changes_of}
use Rattle.backend_trait.specs.Store.{Live, Transaction, Absent, Alive, Dead, Pending, table_lock}
use Rattle.outcomes.specs.declared.change.ChangeSet.{ChangeSet}
use Rattle.outcomes.specs.Spots.{place_of}
use Rattle.outcomes.specs.Log.{rows_of, has_changed}
use Rattle.plain_store.specs.declared.data.Wanted.{Wanted}
use Rattle.plain_store.specs.declared.data.Wanted.TheVariants as wanted
use Rattle.plain_store.specs.declared.data.Work.{Work}
use Rattle.plain_store.specs.declared.data.Phase.{Phase}
use Rattle.plain_store.specs.declared.data.Phase.TheVariants as phases

-- the changes of a set
abbrev pub changes_in : ChangeSet → List Change
changes_in set = set.changes.items

-- what a request asks for: places, or the lock of a table
pub data Claim : Type 0 where
  Places : List Place → Claim
  Lock : ℕ → Claim

abbrev pub claim_of : Wanted → Claim
claim_of (wanted.Places spots) = Places (map place_of spots.now)
claim_of (wanted.Table table) = Lock table

abbrev pub wants_one : Claim → Wants
wants_one (Places places) = these_places places
wants_one (Lock table) = table_lock table

-- whether a table is among those that are locked
abbrev pub has_table : List ℕ → ℕ → Bool
has_table [] table = false
has_table (t ∷ ts) table = table == t || has_table ts table

-- it holds the places that its statements wanted, and the tables that it has locked
abbrev pub held_of : Work → Wants
held_of work = record { places = map place_of work.held.items; tables = has_table work.tables }

abbrev pub live_of : Work → Live
live_of work = record { base = rows_of work.base.items; changes = changes_of (changes_in work.own); held = held_of work; stale = has_changed work.stale.items }

abbrev pub transaction_of : Phase → Transaction
transaction_of phases.Absent = Absent
transaction_of (phases.Alive work) = Alive (live_of work)
transaction_of phases.Dead = Dead

abbrev pub transaction_in : Option Phase → Transaction
transaction_in None = Absent
transaction_in (Some phase) = transaction_of phase

-- a request that waits, and its mark
abbrev pub mark_in : Option Bool → Bool
mark_in None = false
mark_in (Some mark) = mark

abbrev pub request_at : Option (Option Request) → Option Request
request_at None = None
request_at (Some request) = request

abbrev pub pending_of : Option Request → Bool → Option Pending
pending_of None mark = None
pending_of (Some request) mark = Some (record { request = request; crossed = mark })
