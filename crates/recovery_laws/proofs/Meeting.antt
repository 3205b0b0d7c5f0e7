-- Each step of a recovery meets its condition, where the recovery stands by the calls that it was granted.
use Rattle.std.proofs.Common.{◌≡◌, ◌==◌, ℕ, List, [], ◌∷◌, inl, inr, refl, ap, sym, subst, arith, Bool, true, false, if◌then◌else◌}
use Rattle.std.specs.Prelude.{Option, Some, None}
use Rattle.std.proofs.lemmas.Bool.Decides.{nat_tests, eqb_tells}
use Rattle.pool_base.specs.declared.backend_set.BackendSet.{BackendSet}
use Rattle.backend_trait.specs.declared.request.Request.{Request}
use Rattle.backend_trait.specs.declared.answer.Answer.{Answer}
use Rattle.session_machine.specs.declared.action.SessionEvent.{SessionEvent}
use Rattle.session_machine.specs.declared.machine.ReadPolicy.{ReadPolicy}
use Rattle.online_recovery.specs.declared.layout.Layout.{Layout}
use Rattle.online_recovery.specs.declared.standing.Standing.{Standing}
use Rattle.online_recovery.specs.Rules.{after as recovery_after}
use Rattle.online_recovery.specs.Allowed.{MayHappen as RecoveryMay}
use Rattle.online_recovery.specs.Runs.{Phase, IsRun, phase_after, Meets, CallsMeet}
use Rattle.online_recovery.proofs.Keeping.{always_meet}
use Rattle.one_copy_model.specs.Numbers.{session_of}
use Rattle.recovery_laws.specs.declared.step.Step.{Step}
use Rattle.recovery_laws.specs.declared.step.Step.TheVariants.{Serve, Recover, Answer as Answers}
use Rattle.recovery_laws.specs.Pool.{Pool, first_pool, answered, after, IsPlayed}
use Rattle.recovery_laws.specs.Phases.{phases_after, all_outside, MeetsAt, AreMet, with_event, events_of}

equal : (n m : ℕ) → (n == m) ≡ true → n ≡ m
equal n m e = grind (arith, nat_tests)

itself : (n : ℕ) → (n == n) ≡ true
itself n = elim (eqb_tells n n) [
  | inl p ↦ p.0
  | inr p ↦ absurd (p.1 refl)
]

-- the events of one session's recoveries are a run

cons_run : (t : Bool) (x y : Standing) (event : SessionEvent) (es : List SessionEvent) → (t ≡ true → RecoveryMay y event × (x ≡ recovery_after y event))
    → IsRun (if t then x else y) es → IsRun y (with_event t event es)
cons_run true x y event es f run = ((f refl).0, subst (λ z. IsRun z es) (f refl).1 run)
cons_run false x y event es f run = run

answer_keeps : (p : Pool) (s b : ℕ) (answer : Answer) (request : Option Request) → (answered p s b answer request).recovery ≡ p.recovery
answer_keeps p s b answer None = refl
answer_keeps p s b answer (Some request) = refl

run_of : (p : Pool) (es : List Step) → IsPlayed p es → (n : ℕ) → IsRun (p.recovery n) (events_of n es)
run_of p [] played n = tt
run_of p (Serve event ∷ es) played n = run_of (after p (Serve event)) es played.1 n
run_of p (Recover s event ∷ es) played n =
    cons_run (n == s.number) (recovery_after (p.recovery s.number) event) (p.recovery n) event (events_of n es)
    (λ e. let same : s.number ≡ n = sym (equal n s.number e) in
    (subst (λ m. RecoveryMay (p.recovery m) event) same played.0.0, ap (λ m. recovery_after (p.recovery m) event) same))
    (run_of (after p (Recover s event)) es played.1 n)
run_of p (Answers s b answer ∷ es) played n =
    subst (λ (recovery : ℕ → Standing). IsRun (recovery n) (events_of n es)) (answer_keeps p s.number b.number answer (p.asked s.number b.number))
    (run_of (after p (Answers s b answer)) es played.1 n)

-- so its calls meet their conditions, one after another

head_meets : (t : Bool) (phase : Phase) (event : SessionEvent) (es : List SessionEvent) → t ≡ true → CallsMeet phase (with_event t event es) → Meets phase event
head_meets true phase event es e meets = meets.0
head_meets false phase event es e meets = absurd (cc)

tail_meets : (t : Bool) (x y : Phase) (event : SessionEvent) (es : List SessionEvent) → (t ≡ true → x ≡ phase_after y event) → CallsMeet y (with_event t event es)
    → CallsMeet (if t then x else y) es
tail_meets true x y event es e meets = subst (λ z. CallsMeet z es) (sym (e refl)) meets.1
tail_meets false x y event es e meets = meets

still_meet : (phases : ℕ → Phase) (e : Step) (es : List Step) → ((n : ℕ) → CallsMeet (phases n) (events_of n (e ∷ es))) → (n : ℕ) → CallsMeet (phases_after phases e n) (events_of n es)
still_meet phases (Serve event) es meets n = meets n
still_meet phases (Recover s event) es meets n =
    tail_meets (n == s.number) (phase_after (phases s.number) event) (phases n) event (events_of n es)
    (λ e. ap (λ m. phase_after (phases m) event) (sym (equal n s.number e))) (meets n)
still_meet phases (Answers s b answer) es meets n = meets n

met_at : (phases : ℕ → Phase) (e : Step) (es : List Step) → ((n : ℕ) → CallsMeet (phases n) (events_of n (e ∷ es))) → MeetsAt phases e
met_at phases (Serve event) es meets = tt
met_at phases (Recover s event) es meets =
    head_meets (s.number == s.number) (phases s.number) event (events_of s.number es) (itself s.number) (meets s.number)
met_at phases (Answers s b answer) es meets = tt

all_met : (phases : ℕ → Phase) (es : List Step) → ((n : ℕ) → CallsMeet (phases n) (events_of n es)) → AreMet phases es
all_met phases [] meets = tt
all_met phases (e ∷ es) meets = (met_at phases e es meets, all_met (phases_after phases e) es (still_meet phases e es meets))

pub always_met : (layout : Layout) (policy : ReadPolicy) (attached : BackendSet) (es : List Step) → IsPlayed (first_pool layout policy attached) es → AreMet all_outside es
always_met layout policy attached es played =
    all_met all_outside es (λ n. always_meet (session_of n) layout (events_of n es) (run_of (first_pool layout policy attached) es played n))
