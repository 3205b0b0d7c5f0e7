-- What the statements that wait give their live transactions.
use Rattle.std.specs.Prelude.{◌≡◌, ℕ, ◌<◌, List, Option, Some, None, length, option_map, slice_get}
use Rattle.catalogue.specs.declared.checked.Checked.{Checked}
use Rattle.backend_trait.specs.declared.request.Request.{Request}
use Rattle.backend_trait.specs.declared.request.Request.TheVariants as requests
use Rattle.backend_trait.specs.Effect.{Given}
use Rattle.backend_trait.specs.Store.{Store, Transaction, Absent, Alive, Dead}
use Rattle.backend_trait.specs.Acts.{given_of}
use Rattle.outcomes.specs.declared.outcome.Outcome.{Outcome}
use Rattle.outcomes.specs.Given.{given_in}
use Rattle.plain_store.specs.declared.data.Database.{Database}
use Rattle.plain_store.specs.Meaning.{transaction_in, request_at, store_of}

abbrev pub given_run : Store → Checked → Transaction → Option Given
given_run st checked Absent = None
given_run st checked (Alive t) = Some (given_of st checked t)
given_run st checked Dead = None

abbrev pub given_by : Store → Transaction → Option Request → Option Given
given_by st transaction None = None
given_by st transaction (Some requests.TakeSnapshot) = None
given_by st transaction (Some (requests.Run checked)) = given_run st checked transaction
given_by st transaction (Some (requests.Lock table)) = None
given_by st transaction (Some requests.Commit) = None
given_by st transaction (Some requests.Rollback) = None
given_by st transaction (Some (requests.ReadSerial table)) = None
given_by st transaction (Some (requests.SetSerial table n)) = None

-- what the statement of a session gives, where one waits of a live transaction
abbrev pub given_to : Database → ℕ → Option Given
given_to d s = given_by (store_of d) (transaction_in (slice_get d.phases.items s)) (request_at (slice_get d.requests.items s))

-- the same, as the program has it
abbrev pub shown : Option (Option Outcome) → Option Given
shown None = None
shown (Some outcome) = option_map given_in outcome

-- what each of the sessions below a number gives
pub record AreGivenBelow (n : ℕ) (d : Database) (all : List (Option Outcome)) : Type 0 where
  pub len : length all ≡ n
  pub each : (s : ℕ) → s < n → shown (slice_get all s) ≡ given_to d s

abbrev pub AreGiven : Database → List (Option Outcome) → Type 0
AreGiven = AreGivenBelow 65
