-- All sessions as they stand: their transactions, the requests that wait, and what the statements among these give; and the next
-- numbers of serial columns.
use Rattle.std.specs.Prelude.{◌≡◌, ℕ, ℤ, List, Option, Some, None, length, slice_get}
use Rattle.backend_trait.specs.declared.request.Request.{Request}
use Rattle.backend_trait.specs.Effect.{Given}
use Rattle.outcomes.specs.Next.{next_of}
use Rattle.plain_store.specs.declared.data.Phase.{Phase}
use Rattle.plain_store.specs.declared.data.Phase.TheVariants as phases
use Rattle.plain_store.specs.declared.data.Database.{Database}
use Rattle.plain_store.specs.declared.sessions.Sessions.{Sessions}
use Rattle.plain_store.specs.Phases.{request_at}
use Rattle.plain_store.specs.Giving.{given_to, shown}

pub record States : Type 0 where
  pub phases : List Phase
  pub requests : List (Option Request)
  pub given : ℕ → Option Given
  pub next : ℕ → Option ℤ

-- as the program has them, and in its data
abbrev pub states_of : Sessions → States
states_of all = record { phases = all.phases.now; requests = all.requests.now; given = λ s. shown (slice_get all.given.now s); next = next_of all.numbers.now }

abbrev pub states_in : Database → States
states_in d = record { phases = d.phases.items; requests = d.requests.items; given = given_to d; next = next_of d.numbers }

pub record AreAll (all : Sessions) : Type 0 where
  pub phased : length all.phases.now ≡ 65
  pub requested : length all.requests.now ≡ 65
  pub given_to_all : length all.given.now ≡ 65

-- what is at one of them
abbrev pub phase_in : Option Phase → Phase
phase_in None = phases.Absent
phase_in (Some phase) = phase

abbrev pub phase_at : States → ℕ → Phase
phase_at all s = phase_in (slice_get all.phases s)

abbrev pub asked_at : States → ℕ → Option Request
asked_at all s = request_at (slice_get all.requests s)
