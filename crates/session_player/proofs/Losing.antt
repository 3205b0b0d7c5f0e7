-- The loss of a backend that a line asks for.
use Rattle.std.proofs.Common.{◌≡◌, ℕ, ◌<◌, ◌≤◌, Bool, true, false, List, [], ◌∷◌, ◌++◌, refl}
use Rattle.std.specs.Prelude.{ℤ, Option, if◌then◌else◌}
use Rattle.pool_base.specs.declared.backend_id.BackendId.{BackendId}
use Rattle.pool_base.specs.declared.session_id.SessionId.{SessionId}
use Rattle.pool_config.specs.declared.config.Node.{Node}
use Rattle.schema.specs.declared.catalogue.TableDef.{TableDef}
use Rattle.session_machine.specs.declared.machine.Machine.{Machine}
use Rattle.online_recovery.specs.declared.standing.Standing.{Standing}
use Rattle.session_seat.specs.declared.book.Journal.{Journal}
use Rattle.session_seat.specs.Told.{added, told_lost}
use Rattle.session_seat.specs.Shared.{Shared, IsLoss}
use Rattle.recovery_seat.specs.Schedule.{Loses}
use Rattle.recovery_seat.specs.Steps.{state}
use Rattle.session_player.specs.Speaking.{Event, Happening, Hearer, board}
use Rattle.session_player.specs.Transcript.{LosesOne, again, lost, none_line, unknown}

-- it is one of the backends
pub loses_known : (tables : List TableDef) (moment : ℤ) (nodes : List Node) (count : ℕ) (b : BackendId) (g h : Shared) (machines : SessionId → Machine) (recoveries : SessionId → Standing) (hearers : ℕ → Option Hearer) (j k : Journal)
    (had has : List ℕ) (is_new : Bool) → b.number < count → (is_new ≡ true → IsLoss g b h) → (is_new ≡ false → h ≡ g) → k ≡ (if is_new then added j (told_lost b) else j) → has ≡ had
    → (happenings : List Happening) × LosesOne tables moment nodes count b (board (state g machines recoveries) hearers j had) happenings (board (state h machines recoveries) hearers k has)
loses_known tables moment nodes count b g h machines recoveries hearers j k had has true below loses same tells kept =
    (Event (Loses b) ∷ [], lost below refl (record { comes = record { loss = loses refl; machines = refl; recoveries = refl }; tells = tells }, (refl, kept)))
loses_known tables moment nodes count b g h machines recoveries hearers j k had has false below loses same tells kept =
    ([], again below refl (λ i. record { state = state (same refl i) machines recoveries; hearers = hearers; journal = tells i; lines = kept i }))

-- it is none
pub loses_none : (tables : List TableDef) (moment : ℤ) (nodes : List Node) (count : ℕ) (b : BackendId) (g : Shared) (machines : SessionId → Machine) (recoveries : SessionId → Standing) (hearers : ℕ → Option Hearer) (j k : Journal)
    (had has : List ℕ) → count ≤ b.number → k ≡ j → has ≡ had ++ none_line b.number
    → (happenings : List Happening) × LosesOne tables moment nodes count b (board (state g machines recoveries) hearers j had) happenings (board (state g machines recoveries) hearers k has)
loses_none tables moment nodes count b g machines recoveries hearers j k had has past tells told =
    ([], unknown past refl (λ i. record { state = state g machines recoveries; hearers = hearers; journal = tells i; lines = told i }))
