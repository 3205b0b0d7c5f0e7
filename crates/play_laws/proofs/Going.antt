-- The play and the world with recoveries beside it, with all that is known of the two; and how steps go on.
use Rattle.std.proofs.Common.{◌≡◌, ◌==◌, ◌<◌, ◌-◌, ◌≤◌, ℕ, suc, min, Bool, true, false, List, [], ◌∷◌, refl, sym, ap, ◌∙◌, subst, arith}
use Rattle.std.specs.Prelude.{if◌then◌else◌}
use mathlib.Core.HLevel.{is_prop→PathP}
use native.Mathlib.Bridge.{le_prop}
use Rattle.pool_base.specs.declared.session_id.SessionId.{SessionId}
use Rattle.pool_base.specs.declared.gate_call.GateAnswer.{GateAnswer}
use Rattle.pool_base.specs.declared.gate_call.GateCall.TheVariants as calls
use Rattle.schema.specs.declared.catalogue.TableDef.{TableDef}
use Rattle.backend_trait.specs.Rows.{with_at}
use Rattle.session_machine.specs.declared.action.SessionEvent.{SessionEvent}
use Rattle.session_machine.specs.declared.action.SessionEvent.TheVariants as events
use Rattle.session_machine.specs.declared.machine.Machine.{Machine}
use Rattle.session_machine.specs.Allowed.{MayHappen as MachineMay}
use Rattle.session_machine.specs.Rules.{after as machine_after}
use Rattle.session_engine.specs.Tidying.{tidied}
use Rattle.session_engine.proofs.Tidying.{may_tidied, after_tidied, after_all_tidied}
use Rattle.session_seat.specs.Schedule.{IsAnswered, led, with_machine}
use Rattle.snapshot_gate.specs.declared.state.GateState.{GateState}
use Rattle.snapshot_gate.specs.Function.{step}
use Rattle.online_recovery.specs.declared.standing.Due.TheVariants.{Resting}
use Rattle.online_recovery.specs.Runs.{Phase}
use Rattle.one_copy_model.specs.Invariant.{IsStranger}
use Rattle.one_copy_model.specs.Numbers.{session_of}
use Rattle.recovery_laws.specs.declared.step.Step.{Step}
use Rattle.recovery_laws.specs.Pool.{Pool, world_of, call_in, gate_after, after, MayStep, IsPlayed, pool_all}
use Rattle.recovery_laws.specs.Phases.{phases_after, phases_all, MeetsAt}
use Rattle.recovery_laws.specs.Steps.{IsFit}
use Rattle.recovery_laws.proofs.Stepping.{Holds, step_holds}
use Rattle.recovery_seat.specs.Schedule.{State}
use Rattle.play_laws.specs.RecoveryFollowing.{Follows}
use Rattle.play_laws.proofs.Courses.{IsCopy}
use Rattle.play_laws.proofs.Apart.{Facts}

abbrev pub AllFacts : Pool → Type 0
AllFacts p = Facts p.gate.attached.bits (world_of p).machine (world_of p).store p.recovery p.transaction p.asked

-- at its target a recovery has what it has in the play
abbrev pub AreExact : State → Pool → Type 0
AreExact old p = (s : ℕ) → IsCopy (p.recovery s).held (p.recovery s).due
    → (old.shared.stores (p.recovery s).held.target.number).transaction s ≡ p.transaction s (p.recovery s).held.target.number

-- a number that no session has orders no recovery
abbrev pub AreStrange : Pool → Type 0
AreStrange p = (s : ℕ) → IsStranger s → (p.recovery s).due ≡ Resting

pub record Goes (tables : List TableDef) (old : State) (p : Pool) (phases : ℕ → Phase) : Type 0 where
  pub follows : Follows tables old p
  pub holds : Holds p phases
  pub facts : AllFacts p
  pub exact : AreExact old p
  pub strange : AreStrange p

-- the gate has counts left for all commits
abbrev pub HasRoom : State → Type 0
HasRoom old = old.shared.gate.done < 4611686018427387904

-- K knows that the steps to come are fit
module _ (K : Pool → (ℕ → Phase) → List Step → Type 0)
    (fit : (p : Pool) (phases : ℕ → Phase) (e : Step) (es : List Step) → Holds p phases → K p phases (e ∷ es) → MayStep p e → MeetsAt phases e → IsFit p e × K (after p e) (phases_after phases e) es)
    (tables : List TableDef) (last : State) where
  abbrev pub Ends : Pool → (ℕ → Phase) → List Step → Type 0
  Ends p phases es = IsPlayed p es × Goes tables last (pool_all p es) (phases_all phases es)

  abbrev pub GoesOn : State → List Step → Type 0
  GoesOn new rest = (q : Pool) (phases : ℕ → Phase) → Goes tables new q phases → K q phases rest → Ends q phases rest

  pub one_step : (p : Pool) (phases : ℕ → Phase) (e : Step) (rest : List Step) (new : State) → Holds p phases → MayStep p e → MeetsAt phases e
      → (Holds (after p e) (phases_after phases e) → Goes tables new (after p e) (phases_after phases e)) → GoesOn new rest → K p phases (e ∷ rest) → Ends p phases (e ∷ rest)
  one_step p phases e rest new holds may meets goes go known =
      let k = fit p phases e rest holds known may meets in
      let q = go (after p e) (phases_after phases e) (goes (step_holds p phases holds e may meets k.0)) k.1 in
      ((may, q.0), q.1)

  pub two_steps : (p : Pool) (phases : ℕ → Phase) (e d : Step) (rest : List Step) (new : State) → Holds p phases → MayStep p e → MeetsAt phases e → MayStep (after p e) d → MeetsAt (phases_after phases e) d
      → (Holds (after (after p e) d) (phases_after (phases_after phases e) d) → Goes tables new (after (after p e) d) (phases_after (phases_after phases e) d)) → GoesOn new rest → K p phases (e ∷ (d ∷ rest))
      → Ends p phases (e ∷ (d ∷ rest))
  two_steps p phases e d rest new holds may meets follows later goes go known =
      let k = fit p phases e (d ∷ rest) holds known may meets in
      let q = one_step (after p e) (phases_after phases e) d rest new (step_holds p phases holds e may meets k.0) follows later goes go k.1 in
      ((may, q.0), q.1)

-- Machines.

led_alike : (m : Machine) (event : SessionEvent) → tidied (led m event) ≡ tidied (machine_after m event)
led_alike m (events.Replied outcome status) = after_all_tidied (machine_after m (events.Replied outcome status)) []
led_alike m event = refl

one_alike : (t : Bool) (x y m n : Machine) → tidied x ≡ tidied m → tidied y ≡ tidied n → tidied (if t then x else y) ≡ tidied (if t then m else n)
one_alike true x y m n own other = own
one_alike false x y m n own other = other

event_alike : (x m : Machine) (event : SessionEvent) → tidied x ≡ tidied m → tidied (machine_after x event) ≡ tidied (machine_after m event)
event_alike x m event alike = sym (after_tidied x event) ∙ (ap (λ (n : Machine). tidied (machine_after n event)) alike ∙ after_tidied m event)

pub may_alike : (x m : Machine) (event : SessionEvent) → tidied x ≡ tidied m → MachineMay m event → MachineMay x event
may_alike x m event alike may = (may_tidied x event).0 (subst (λ (n : Machine). MachineMay n event) (sym alike) ((may_tidied m event).1 may))

pub machines_alike : (had : ℕ → Machine) (old new : SessionId → Machine) (s : SessionId) (event : SessionEvent) → ((t : SessionId) → tidied (had t.number) ≡ tidied (old t)) → new s ≡ led (old s) event
    → new ≡ with_machine old s (new s) → (t : SessionId) → tidied (with_at had s.number (machine_after (had s.number) event) t.number) ≡ tidied (new t)
machines_alike had old new s event alike leads others t =
    one_alike (t.number == s.number) (machine_after (had s.number) event) (had t.number) (new s) (old t)
    (event_alike (had s.number) (old s) event (alike s) ∙ (sym (led_alike (old s) event) ∙ ap tidied (sym leads)))
    (alike t)
    ∙ ap (λ (g : SessionId → Machine). tidied (g t)) (sym others)

-- The gate.

pub gate_moves : (g old new : GateState) (event : SessionEvent) → g ≡ old → IsAnswered old event new → gate_after g (call_in event) ≡ new
gate_moves g old new (events.Ordered order) same h = same ∙ sym h
gate_moves g old new (events.Called call answer) same h = ap (λ (k : GateState). (step k call).0) same ∙ ap (λ (p : GateState × GateAnswer). p.0) (sym h.1)
gate_moves g old new (events.Posted b request) same h = same ∙ sym h
gate_moves g old new (events.Taken b answer) same h = same ∙ sym h
gate_moves g old new (events.Faulted b before later) same h = same ∙ sym h
gate_moves g old new (events.Detached b cause answer) same h = ap (λ (k : GateState). (step k (calls.Detach b)).0) same ∙ ap (λ (p : GateState × GateAnswer). p.0) (sym h)
gate_moves g old new (events.Swapped b) same h = same ∙ sym h
gate_moves g old new (events.Replied outcome status) same h = same ∙ sym h
gate_moves g old new events.Ended same h = same ∙ sym h

-- Numbers of sessions.

same_session : (a b : SessionId) → a.number ≡ b.number → a ≡ b
same_session a b e = λ i. record {
  number = e i;
  from_one = is_prop→PathP (λ j. 1 ≤ e j) (λ j. le_prop) a.from_one b.from_one i;
  up_to_64 = is_prop→PathP (λ j. e j ≤ 64) (λ j. le_prop) a.up_to_64 b.up_to_64 i;
}

pub itself : (s : SessionId) → session_of s.number ≡ s
itself s =
    let low : 1 ≤ s.number = s.from_one in
    let high : s.number ≤ 64 = s.up_to_64 in
    same_session (session_of s.number) s (let e : suc (min (s.number - 1) 63) ≡ s.number = omega (arith, low, high) in e)
