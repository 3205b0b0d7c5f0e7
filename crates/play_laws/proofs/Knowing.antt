-- Every list of steps that takes place is fit, so a play is one, and of one store.
use Rattle.std.proofs.Common.{◌≡◌, ◌<◌, ℕ, List, [], ◌∷◌, ◌++◌, length, refl, sym, ap, ◌∙◌, subst, arith}
use Rattle.pool_base.specs.declared.backend_set.BackendSet.{BackendSet}
use Rattle.schema.specs.Allowed.{AreAllowed}
use Rattle.session_machine.specs.declared.machine.ReadPolicy.{ReadPolicy}
use Rattle.session_seat.specs.Shared.{first_shared}
use Rattle.online_recovery.specs.declared.layout.Layout.{Layout}
use Rattle.online_recovery.specs.Runs.{Phase}
use Rattle.recovery_laws.specs.declared.step.Step.{Step}
use Rattle.recovery_laws.specs.Pool.{Pool, first_pool, after, MayStep, IsPlayed, pool_all}
use Rattle.recovery_laws.specs.Phases.{phases_after, all_outside, MeetsAt}
use Rattle.recovery_laws.specs.Steps.{AllHold, IsFit, AreFit}
use Rattle.recovery_laws.proofs.AlwaysFit.{always_fit}
use Rattle.recovery_laws.proofs.Holding.{always_right}
use Rattle.recovery_laws.proofs.Stepping.{Holds}
use Rattle.recovery_seat.specs.Schedule.{Entry, State, first_state, lines, IsSchedule}
use Rattle.play_laws.specs.RecoveryFollowing.{Follows, steps_of}
use Rattle.play_laws.proofs.Room.{Room}
use Rattle.play_laws.proofs.RecoveryPlays.{all_come, goes_first}

played_more : (p : Pool) (es : List Step) (e : Step) → IsPlayed p es → MayStep (pool_all p es) e → IsPlayed p (es ++ e ∷ [])
played_more p [] e played may = (may, tt)
played_more p (x ∷ es) e played may = (played.0, played_more (after p x) es e played.1 may)

pool_more : (p : Pool) (es : List Step) (e : Step) → pool_all p (es ++ e ∷ []) ≡ after (pool_all p es) e
pool_more p [] e = refl
pool_more p (x ∷ es) e = pool_more (after p x) es e

fit_last : (p : Pool) (es : List Step) (e : Step) → AreFit p (es ++ e ∷ []) → IsFit (pool_all p es) e
fit_last p [] e fits = fits.0
fit_last p (x ∷ es) e fits = fit_last (after p x) es e fits.1

module _ (first : Pool) (fits : (es : List Step) → IsPlayed first es → AreFit first es) where
  -- what has taken place before
  record Before (p : Pool) : Type 0 where
    steps : List Step
    played : IsPlayed first steps
    leads : pool_all first steps ≡ p

  abbrev K : Pool → (ℕ → Phase) → List Step → Type 0
  K p phases es = Before p

  knows : (p : Pool) (phases : ℕ → Phase) (e : Step) (es : List Step) → Holds p phases → K p phases (e ∷ es) → MayStep p e → MeetsAt phases e → IsFit p e × K (after p e) (phases_after phases e) es
  knows p phases e es holds k may meets =
      let more : IsPlayed first (k.steps ++ e ∷ []) = played_more first k.steps e k.played (subst (λ (q : Pool). MayStep q e) (sym k.leads) may) in (
        subst (λ (q : Pool). IsFit q e) k.leads (fit_last first k.steps e (fits (k.steps ++ e ∷ []) more)),
        record { steps = k.steps ++ e ∷ []; played = more; leads = pool_more first k.steps e ∙ ap (λ (q : Pool). after q e) k.leads },
      )

pub play_is_steps : (policy : ReadPolicy) (layout : Layout) (attached : BackendSet) (entries : List Entry) (last : State) → AreAllowed layout.tables → attached.bits < 256
    → length (lines layout.tables entries) < 18446744073709551616
    → IsSchedule layout.tables (first_state policy layout (first_shared layout.tables attached)) entries last
    → IsPlayed (first_pool layout policy attached) (steps_of entries) × Follows layout.tables last (pool_all (first_pool layout policy attached) (steps_of entries))
play_is_steps policy layout attached entries last allowed few short play =
    let first = first_pool layout policy attached in
    let fits : (es : List Step) → IsPlayed first es → AreFit first es = λ es played. always_fit layout policy attached es allowed few played in
    let ends = all_come (K first fits) (knows first fits) layout.tables last allowed entries
    (first_state policy layout (first_shared layout.tables attached)) first all_outside (goes_first policy layout attached allowed few)
    (let z : Room (first_shared layout.tables attached).gate (length (lines layout.tables entries)) = omega (arith, short) in z) play
    (record { steps = []; played = tt; leads = refl }) in
    (ends.0, ends.1.follows)

pub play_is_right : (policy : ReadPolicy) (layout : Layout) (attached : BackendSet) (entries : List Entry) (last : State) → AreAllowed layout.tables → attached.bits < 256
    → length (lines layout.tables entries) < 18446744073709551616
    → IsSchedule layout.tables (first_state policy layout (first_shared layout.tables attached)) entries last
    → AllHold (first_pool layout policy attached) (steps_of entries)
play_is_right policy layout attached entries last allowed few short play =
    always_right layout policy attached (steps_of entries) allowed few (play_is_steps policy layout attached entries last allowed few short play).0
