-- The seats of a store, and the store that tables, a log and seats mean.
use Rattle.std.specs.Prelude.{ℕ, ℤ, ◌+◌, Bool, List, [], ◌∷◌, Option, Some, None, slice_get}
use Rattle.std.specs.Coded.{Unit-prop, Π_prop}
use Rattle.schema.specs.declared.catalogue.TableDef.{TableDef}
use Rattle.backend_trait.specs.Store.{Store, Transaction, Absent, Pending}
use Rattle.outcomes.specs.declared.change.ChangeSet.{ChangeSet}
use Rattle.model_store.specs.declared.seat.Seat.{Seat}
use Rattle.outcomes.specs.Log.{rows_of}
use Rattle.model_store.specs.Phases.{transaction_of, pending_of, mark_of, owed, IsGivenAt, IsGivenAt-prop}

abbrev pub transaction_in : List ChangeSet → Option Seat → Transaction
transaction_in log None = Absent
transaction_in log (Some seat) = transaction_of log seat.phase

abbrev pub pending_in : Option Seat → Option Pending
pending_in None = None
pending_in (Some seat) = pending_of seat.waiting

-- the log's rows, the next numbers, and for each session the transaction and the request of its seat
abbrev pub store_of : (ℕ → Option ℤ) → List TableDef → List ChangeSet → List Seat → Bool → Store
store_of numbers tables log seats lost = record {
  tables = tables;
  rows = rows_of log;
  next = numbers;
  transaction = λ s. transaction_in log (slice_get seats s);
  pending = λ s. pending_in (slice_get seats s);
  lost = lost;
}

abbrev pub mark_in : Option Seat → ℕ
mark_in None = 0
mark_in (Some seat) = mark_of seat.phase

-- how many more sets the log keeps room for
abbrev pub all_owed : List Seat → ℕ
all_owed [] = 0
all_owed (seat ∷ seats) = owed seat.phase seat.waiting + all_owed seats

-- what each statement gives that waits is its effect
abbrev pub IsGivenTo : (ℕ → Option ℤ) → List TableDef → List ChangeSet → Option Seat → Type 0
IsGivenTo numbers tables log None = Unit {0}
IsGivenTo numbers tables log (Some seat) = IsGivenAt numbers tables log seat.phase seat.waiting

abbrev pub AreGiven : (ℕ → Option ℤ) → List TableDef → List ChangeSet → List Seat → Type 0
AreGiven numbers tables log seats = (s : ℕ) → IsGivenTo numbers tables log (slice_get seats s)

IsGivenTo-prop : (numbers : ℕ → Option ℤ) (tables : List TableDef) (log : List ChangeSet) (seat : Option Seat) → IsProp (IsGivenTo numbers tables log seat)
IsGivenTo-prop numbers tables log None = Unit-prop
IsGivenTo-prop numbers tables log (Some seat) = IsGivenAt-prop numbers tables log seat.phase seat.waiting

pub AreGiven-prop : (numbers : ℕ → Option ℤ) (tables : List TableDef) (log : List ChangeSet) (seats : List Seat) → IsProp (AreGiven numbers tables log seats)
AreGiven-prop numbers tables log seats = Π_prop (λ s. IsGivenTo-prop numbers tables log (slice_get seats s))
