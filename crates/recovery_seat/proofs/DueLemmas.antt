-- Which step it is: the session's own, but that its order of a recovery takes place.
use Rattle.std.proofs.Common.{◌≡◌, ◌≢◌, ◌∙◌, ℕ, Bool, List, Result, Ok, Err, Some, refl, sym, ap}
use Rattle.std.specs.Prelude.{ℤ, IfOk, OnOk}
use Rattle.schema.specs.declared.catalogue.TableDef.{TableDef}
use Rattle.pgproto.specs.declared.line.Mark.TheVariants as marks
use Rattle.backend_trait.specs.Store.{Store}
use Rattle.snapshot_gate.specs.declared.state.GateState.{GateState}
use Rattle.session_seat.specs.declared.seat.Seat.{Seat}
use Rattle.session_seat.specs.declared.step.Step.{Step}
use Rattle.session_seat.specs.declared.step.Step.TheVariants as steps
use Rattle.session_seat.specs.Dues.{IsDue}
use Rattle.online_recovery.specs.declared.action.RecoveryAction.{RecoveryAction}
use Rattle.online_recovery.specs.declared.action.RecoveryAction.TheVariants.{Rest}
use Rattle.online_recovery.specs.declared.ask.RecoveryAsk.{RecoveryAsk}
use Rattle.online_recovery.specs.declared.ask.RecoveryAsk.TheVariants as asks
use Rattle.online_recovery.specs.Asking.{asked_of}
use Rattle.recovery_seat.specs.Dues.{taken_as, IsOwn}

-- a recovery that asks for something is under way
pub asks_rest : (ask : RecoveryAsk) (action : RecoveryAction) → ask ≡ asked_of action → action ≡ Rest → ask ≡ asks.Rest
asks_rest ask action is rests = is ∙ ap asked_of rests

pub never_ok : {T E : Type 0} (P : T → Type 0) (r : Result T E) → OnOk r ⊥ → IfOk r P
never_ok P (Ok x) never = absurd never
never_ok P (Err e) never = tt

pub not_ok : {T E : Type 0} (r : Result T E) → ⊥ → OnOk r ⊥
not_ok r never = absurd never

taken_same : (step : Step) → ((moment : ℤ) (number : ℕ) → step ≢ steps.Recovers moment number) → step ≡ taken_as step
taken_same (steps.Did mark) other = refl
taken_same steps.Waits other = refl
taken_same steps.Idle other = refl
taken_same steps.Closed other = refl
taken_same (steps.Recovers moment number) other = absurd (other moment number refl)

module _ {X : Type 0} (meaning : X → Store) (is_prompt : X → Bool) (tables : List TableDef) (moment : ℤ) (seat : Seat) (gate : GateState) (shelf : List X) where
  pub own_due : (step : Step) → ((at : ℤ) (number : ℕ) → step ≢ steps.Recovers at number) → IsDue meaning is_prompt tables moment seat gate shelf step → IsOwn meaning is_prompt tables moment seat gate shelf step
  own_due step other due = (step, due, taken_same step other)

  pub order_due : {E : Type 0} (found : Step) (at : ℤ) (number : ℕ) (result : Result Step E) → found ≡ steps.Recovers at number → IsDue meaning is_prompt tables moment seat gate shelf found
      → IfOk result (λ step. step ≡ steps.Did (Some marks.Order)) → IfOk result (λ step. IsOwn meaning is_prompt tables moment seat gate shelf step)
  order_due found at number (Ok step) handed due is = (found, due, is ∙ sym (ap taken_as handed))
  order_due found at number (Err fault) handed due is = tt
