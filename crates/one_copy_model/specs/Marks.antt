-- Marks: a request that another crosses at some moment since its post stays marked until its answer.
use Rattle.std.specs.Prelude.{◌≡◌, ℕ, ◌≤◌, Bool, false, not, ◌&&◌, ◌||◌, ◌==◌, List, [], ◌∷◌, ◌++◌, Option, Some, None}
use Rattle.std.specs.List.{list_any}
use Rattle.backend_trait.specs.declared.request.Request.{Request}
use Rattle.backend_trait.specs.declared.request.Request.TheVariants as requests
use Rattle.backend_trait.specs.Keys.{Place}
use Rattle.backend_trait.specs.Effect.{Wants, both_wants, has_place, table_in}
use Rattle.backend_trait.specs.Store.{Pending, Store, held_by}
use Rattle.backend_trait.specs.Acts.{asked_by, has_lock, may_be_crossed}
use Rattle.one_copy_model.specs.Numbers.{some_below}

-- the tables that a request names
abbrev pub of_table : Option ℕ → List ℕ
of_table None = []
of_table (Some table) = table ∷ []

abbrev pub tables_named : Request → List ℕ
tables_named requests.TakeSnapshot = []
tables_named (requests.Run checked) = of_table (table_in checked)
tables_named (requests.Lock table) = table ∷ []
tables_named requests.Commit = []
tables_named requests.Rollback = []
tables_named (requests.ReadSerial table) = []
tables_named (requests.SetSerial table n) = []

-- two conflict at a place: both have it, or one has its table; at a table: both have its lock
abbrev pub conflict_at : Wants → Wants → Place → Bool
conflict_at a b p = (has_place a p && (has_place b p || b.tables p.table)) || (a.tables p.table && has_place b p)

abbrev pub conflict_in : Wants → Wants → ℕ → Bool
conflict_in a b table = a.tables table && b.tables table

-- they conflict at one of their places, or at one of the tables that are named
abbrev pub conflict_named : Wants → Wants → List ℕ → Bool
conflict_named a b tables = list_any (conflict_at a b) (a.places ++ b.places) || list_any (conflict_in a b) tables

-- one session's request crosses a request of another session
abbrev pub crosses_with : Store → ℕ → Request → ℕ → Request → Bool
crosses_with st s request o its =
    not (has_lock st o its)
    && conflict_named (asked_by st o its) (both_wants (asked_by st s request) (held_by (st.transaction s))) (tables_named its)

abbrev pub crosses_by : Store → ℕ → Request → ℕ → Option Pending → Bool
crosses_by st s request o None = false
crosses_by st s request o (Some its) = crosses_with st s request o its.request

abbrev pub crosses_from : Store → ℕ → Request → ℕ → Bool
crosses_from st s request o = not (o == s) && crosses_by st s request o (st.pending o)

-- it is a run or a lock, and some session's crosses it, of the numbers 1 to 64
unfoldable pub is_crossed : Store → ℕ → Request → Bool
is_crossed st s request = may_be_crossed request && some_below (crosses_from st s request) 65

abbrev pub with_mark : Store → ℕ → Option Pending → Option Pending
with_mark st s None = None
with_mark st s (Some p) = Some (record { request = p.request; crossed = p.crossed || is_crossed st s p.request })

-- the requests that are crossed at this moment are marked
abbrev pub marked : Store → Store
marked st = record st { pending = λ s. with_mark st s (st.pending s) }

-- of a store that runs have led to: numbers that no session has ask nothing
abbrev pub AsksWithin : Store → Type 0
AsksWithin st = (o : ℕ) → 65 ≤ o → st.pending o ≡ None
