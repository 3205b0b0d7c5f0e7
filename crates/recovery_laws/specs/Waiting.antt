-- Which lists of steps are those of prompt backends, and who waits for a cause.
use Rattle.std.specs.Prelude.{◌≡◌, ◌⊎◌, ◌+◌, ◌<◌, ℕ, false, true, is_some, List, [], ◌∷◌, Option, Some, None}
use Rattle.pool_base.specs.declared.gate_call.GateCall.TheVariants as calls
use Rattle.backend_trait.specs.declared.request.Request.{Request}
use Rattle.backend_trait.specs.declared.answer.Answer.{Answer}
use Rattle.backend_trait.specs.declared.answer.Polled.TheVariants as polls
use Rattle.backend_trait.specs.Store.{Pending, Store}
use Rattle.backend_trait.specs.Acts.{IsPromptly}
use Rattle.online_recovery.specs.declared.action.RecoveryAction.TheVariants as actions
use Rattle.online_recovery.specs.Rules.{next_action}
use Rattle.one_copy_model.specs.declared.event.Event.{Event}
use Rattle.one_copy_model.specs.declared.event.Event.TheVariants.{Of, Act, Lost}
use Rattle.one_copy_model.specs.Statement.{IsBlocked}
use Rattle.recovery_laws.specs.declared.step.Step.{Step}
use Rattle.recovery_laws.specs.declared.step.Step.TheVariants.{Serve, Recover, Answer as Answers}
use Rattle.recovery_laws.specs.Pool.{Pool, world_of, whole_store, after, pool_all}

-- a store with all that waits there: what sessions ask, and what recoveries ask, which nobody crosses
abbrev pub either_pending : Option Request → Option Pending → Option Pending
either_pending None own = own
either_pending (Some request) own = Some (record { request = request; crossed = false })

abbrev pub full_store : Pool → ℕ → Store
full_store p b = record (whole_store p b) { pending = λ s. either_pending (p.asked s b) (((world_of p).store b).pending s) }

-- Prompt backends: each answers as such a backend does, and at the end lets wait only what has to.

abbrev pub ActsPromptly : Pool → Event → Type 0
ActsPromptly p (Of s event) = Unit {0}
ActsPromptly p (Act s b answer) = IsPromptly (full_store p b.number) s.number (polls.Answered answer)
ActsPromptly p (Lost b) = Unit {0}

abbrev pub IsPromptAt : Pool → Step → Type 0
IsPromptAt p (Serve event) = ActsPromptly p event
IsPromptAt p (Recover s event) = Unit {0}
IsPromptAt p (Answers s b answer) = IsPromptly (full_store p b.number) s.number (polls.Answered answer)

abbrev pub ArePrompt : Pool → List Step → Type 0
ArePrompt p [] = Unit {0}
ArePrompt p (e ∷ es) = IsPromptAt p e × ArePrompt (after p e) es

abbrev pub WaitsPromptly : Pool → Type 0
WaitsPromptly p =
    (s b : ℕ) → is_some ((full_store p b).pending s) ≡ true → (full_store p b).lost ≡ false → IsPromptly (full_store p b) s polls.NotYet

pub record IsPromptSchedule (p : Pool) (steps : List Step) : Type 0 where
  pub answers : ArePrompt p steps
  pub waits : WaitsPromptly (pool_all p steps)

-- Blocked: a session as without recoveries; a recovery that is due to enter its quiet while somebody is in a snapshot or has a
-- transaction. A recovery that waits for a backend's answer is not called so

abbrev pub IsRecoveryBlocked : Pool → ℕ → Type 0
IsRecoveryBlocked p s = (next_action (p.recovery s) ≡ actions.Gate calls.EnterQuiet) × (0 < p.gate.snaps + p.gate.live)

abbrev pub IsBlockedIn : Pool → ℕ → Type 0
IsBlockedIn p s = IsBlocked p.tracked s ⊎ IsRecoveryBlocked p s
