-- What a request wants, and whether another session holds it.
use Rattle.std.specs.Prelude.{◌≢◌, ℕ, List, map, Option, Some, None, slice_get}
use Rattle.backend_trait.specs.Effect.{Wants, nothing, these_places, Conflicts}
use Rattle.backend_trait.specs.Store.{table_lock}
use Rattle.model_store.specs.declared.conflict.Wanted.{Wanted}
use Rattle.model_store.specs.declared.conflict.Wanted.TheVariants as wanted
use Rattle.model_store.specs.declared.seat.Seat.{Seat}
use Rattle.model_store.specs.Phases.{held_by_phase}
use Rattle.outcomes.specs.Spots.{place_of}

abbrev pub wants_of : Wanted → Wants
wants_of (wanted.Places places) = these_places (map place_of places.now)
wants_of (wanted.Table table) = table_lock table

abbrev pub held_in : Option Seat → Wants
held_in None = nothing
held_in (Some seat) = held_by_phase seat.phase

abbrev pub IsHeldElsewhere : List Seat → ℕ → Wants → Type 0
IsHeldElsewhere seats s wants = (o : ℕ) × (o ≢ s) × Conflicts wants (held_in (slice_get seats o))

-- no two sessions hold what conflicts
abbrev pub AreApart : List Seat → Type 0
AreApart seats = (a b : ℕ) → a ≢ b → ¬ (Conflicts (held_in (slice_get seats a)) (held_in (slice_get seats b)))
