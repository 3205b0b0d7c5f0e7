-- Where each recovery stands at the gate, by the calls that it was granted: that one alone has the gate's quiet, and that entered
-- quiet is still.
use Rattle.std.specs.Prelude.{◌≡◌, ℕ, Bool, true, false, ◌==◌, List, [], ◌∷◌}
use Rattle.backend_trait.specs.Rows.{with_at}
use Rattle.snapshot_gate.specs.declared.state.GateState.{GateState}
use Rattle.session_machine.specs.declared.action.SessionEvent.{SessionEvent}
use Rattle.online_recovery.specs.declared.standing.Quiet.{Quiet}
use Rattle.online_recovery.specs.declared.standing.Quiet.TheVariants.{Open, Copying, Asked, Entered}
use Rattle.online_recovery.specs.Runs.{Phase, outside, phase_after, Meets}
use Rattle.recovery_laws.specs.declared.step.Step.{Step}
use Rattle.recovery_laws.specs.declared.step.Step.TheVariants.{Serve, Recover, Answer as Answers}

abbrev pub phases_after : (ℕ → Phase) → Step → ℕ → Phase
phases_after phases (Serve event) = phases
phases_after phases (Recover s event) = with_at phases s.number (phase_after (phases s.number) event)
phases_after phases (Answers s b answer) = phases

abbrev pub phases_all : (ℕ → Phase) → List Step → ℕ → Phase
phases_all phases [] = phases
phases_all phases (e ∷ es) = phases_all (phases_after phases e) es

abbrev pub all_outside : ℕ → Phase
all_outside s = outside

-- each event of a recovery meets its condition where the recovery stands
abbrev pub MeetsAt : (ℕ → Phase) → Step → Type 0
MeetsAt phases (Serve event) = Unit {0}
MeetsAt phases (Recover s event) = Meets (phases s.number) event
MeetsAt phases (Answers s b answer) = Unit {0}

abbrev pub AreMet : (ℕ → Phase) → List Step → Type 0
AreMet phases [] = Unit {0}
AreMet phases (e ∷ es) = MeetsAt phases e × AreMet (phases_after phases e) es

abbrev pub number_of : Quiet → ℕ
number_of Open = 0
number_of Copying = 1
number_of Asked = 2
number_of Entered = 3

-- one recovery at most has been granted the gate's quiet, and the gate's quiet is what that one was granted
pub record QuietIsOne (g : GateState) (phases : ℕ → Phase) : Type 0 where
  pub one : (s o : ℕ) → ¬ ((phases s).quiet ≡ Open) → ¬ ((phases o).quiet ≡ Open) → s ≡ o
  pub quiet : (s : ℕ) → ¬ ((phases s).quiet ≡ Open) → g.quiet ≡ number_of (phases s).quiet
  pub nobody : ((s : ℕ) → (phases s).quiet ≡ Open) → g.quiet ≡ 0

abbrev pub IsStill : GateState → Type 0
IsStill g = g.quiet ≡ 3 → (g.snaps ≡ 0) × (g.live ≡ 0)

-- the events of one session's recoveries
abbrev pub with_event : Bool → SessionEvent → List SessionEvent → List SessionEvent
with_event true event events = event ∷ events
with_event false event events = events

abbrev pub events_of : ℕ → List Step → List SessionEvent
events_of n [] = []
events_of n (Serve event ∷ es) = events_of n es
events_of n (Recover s event ∷ es) = with_event (n == s.number) event (events_of n es)
events_of n (Answers s b answer ∷ es) = events_of n es
