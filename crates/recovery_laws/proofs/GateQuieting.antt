-- One recovery at most has the gate's quiet, over every list of steps.
use Rattle.std.proofs.Common.{◌≡◌, ◌+◌, ◌||◌, ◌==◌, ◌^◌, ℕ, List, [], ◌∷◌, refl, ap, sym, subst, ◌∙◌, arith, Bool, true, false, nat_lt, nat_le, if◌then◌else◌}
use Rattle.std.proofs.lemmas.Bool.Decides.{nat_tests}
use Rattle.pool_base.specs.Sets.{has}
use Rattle.pool_base.specs.declared.backend_id.BackendId.{BackendId}
use Rattle.pool_base.specs.declared.backend_set.BackendSet.{BackendSet}
use Rattle.pool_base.specs.declared.gate_call.GateCall.{GateCall}
use Rattle.pool_base.specs.declared.gate_call.GateCall.TheVariants as calls
use Rattle.pool_base.specs.declared.gate_call.GateAnswer.{GateAnswer}
use Rattle.pool_base.specs.declared.gate_call.GateAnswer.TheVariants.{Seen, Held, Spent}
use Rattle.backend_trait.specs.Rows.{with_at}
use Rattle.session_machine.specs.declared.action.SessionEvent.TheVariants as events
use Rattle.session_machine.specs.declared.machine.ReadPolicy.{ReadPolicy}
use Rattle.session_machine.specs.Allowed.{answers_call}
use Rattle.snapshot_gate.specs.declared.state.GateState.{GateState}
use Rattle.snapshot_gate.specs.Function.{view_of, step, grant, refuse}
use Rattle.session_machine.specs.declared.action.SessionEvent.{SessionEvent}
use Rattle.online_recovery.specs.declared.layout.Layout.{Layout}
use Rattle.online_recovery.specs.declared.standing.Quiet.{Quiet}
use Rattle.online_recovery.specs.declared.standing.Quiet.TheVariants.{Open, Copying, Asked, Entered}
use Rattle.online_recovery.specs.Runs.{Phase, phase_after, phase_called, MeetsIn, Meets}
use Rattle.one_copy_model.specs.declared.event.Event.TheVariants.{Of, Act, Lost}
use Rattle.recovery_laws.specs.declared.step.Step.{Step}
use Rattle.recovery_laws.specs.declared.step.Step.TheVariants.{Serve, Recover, Answer as Answers}
use Rattle.recovery_laws.specs.Pool.{Pool, first_pool, call_in, call_of, gate_after, after, LetsRecovery, MayStep, IsPlayed, pool_all}
use Rattle.recovery_laws.specs.Phases.{phases_after, phases_all, all_outside, MeetsAt, AreMet, number_of, QuietIsOne}
use Rattle.recovery_laws.proofs.Calls.{gate_is}
use Rattle.recovery_laws.proofs.Meeting.{always_met}

-- Numbers.

equal : (n m : ℕ) → (n == m) ≡ true → n ≡ m
equal n m e = grind (arith, nat_tests)

unequal : (n m : ℕ) → (n == m) ≡ false → n ≡ m → ⊥
unequal n m e same = grind (arith, nat_tests)

none_of : (n : ℕ) → nat_lt 0 n ≡ false → n ≡ 0
none_of n h = grind (arith, nat_tests)

-- One phase changes.

by_test : (P : Phase → Type 0) (x y : Phase) (t : Bool) → (t ≡ true → P x) → (t ≡ false → P y) → P (if t then x else y)
by_test P x y true f g = f refl
by_test P x y false f g = g refl

at_cases : (P : Phase → Type 0) (phases : ℕ → Phase) (s : ℕ) (x : Phase) (o : ℕ) → (o ≡ s → P x) → ((o ≡ s → ⊥) → P (phases o)) → P (with_at phases s x o)
at_cases P phases s x o same other = by_test P x (phases o) (o == s) (λ e. same (equal o s e)) (λ e. other (unequal o s e))

pub open_unless : (q : Quiet) → (¬ (q ≡ Open) → ⊥) → q ≡ Open
open_unless Open f = refl
open_unless Copying f = absurd (f (λ e. absurd (cc)))
open_unless Asked f = absurd (f (λ e. absurd (cc)))
open_unless Entered f = absurd (f (λ e. absurd (cc)))

zero_open : (q : Quiet) → number_of q ≡ 0 → q ≡ Open
zero_open Open e = refl
zero_open Copying e = absurd (omega arith)
zero_open Asked e = absurd (omega arith)
zero_open Entered e = absurd (omega arith)

-- the quiet of the gate alone matters
of_gate : (old new : GateState) (phases : ℕ → Phase) → new.quiet ≡ old.quiet → QuietIsOne old phases → QuietIsOne new phases
of_gate old new phases e h = record {
  one = h.one;
  quiet = λ s n. e ∙ h.quiet s n;
  nobody = λ all. e ∙ h.nobody all;
}

-- a step that leaves what the recovery has of the quiet
keeps : (old new : GateState) (phases : ℕ → Phase) (s : ℕ) (x : Phase) → new.quiet ≡ old.quiet → x.quiet ≡ (phases s).quiet → QuietIsOne old phases
    → QuietIsOne new (with_at phases s x)
keeps old new phases s x e f h =
    let same : (o : ℕ) → (with_at phases s x o).quiet ≡ (phases o).quiet =
    λ o. at_cases (λ p. p.quiet ≡ (phases o).quiet) phases s x o (λ is. subst (λ n. x.quiet ≡ (phases n).quiet) (sym is) f) (λ is. refl) in
    record {
      one = λ a b not_a not_b. h.one a b (λ is. not_a (same a ∙ is)) (λ is. not_b (same b ∙ is));
      quiet = λ o not_o. (e ∙ h.quiet o (λ is. not_o (same o ∙ is))) ∙ ap number_of (sym (same o));
      nobody = λ all. e ∙ h.nobody (λ o. sym (same o) ∙ all o);
    }

-- a step by which a recovery gets or leaves the quiet that no other has
gets : (new : GateState) (phases : ℕ → Phase) (s : ℕ) (x : Phase) → new.quiet ≡ number_of x.quiet → ((o : ℕ) → (o ≡ s → ⊥) → (phases o).quiet ≡ Open)
    → QuietIsOne new (with_at phases s x)
gets new phases s x e others =
    let is_s : (o : ℕ) → ¬ ((with_at phases s x o).quiet ≡ Open) → o ≡ s =
    λ o. at_cases (λ p. ¬ (p.quiet ≡ Open) → o ≡ s) phases s x o (λ is not_o. is) (λ is not_o. absurd (not_o (others o is))) in
    record {
      one = λ a b not_a not_b. is_s a not_a ∙ sym (is_s b not_b);
      quiet = λ o. at_cases (λ p. ¬ (p.quiet ≡ Open) → new.quiet ≡ number_of p.quiet) phases s x o (λ is not_o. e) (λ is not_o. absurd (not_o (others o is)));
      nobody = λ all. e ∙ ap number_of (at_cases (λ p. p.quiet ≡ Open → x.quiet ≡ Open) phases s x s (λ is rests. rests) (λ is rests. absurd (is refl)) (all s));
    }

-- the others have none where one has it, and all have none where the gate has none
others_open : (g : GateState) (phases : ℕ → Phase) (s : ℕ) → QuietIsOne g phases → ¬ ((phases s).quiet ≡ Open) → (o : ℕ) → (o ≡ s → ⊥) → (phases o).quiet ≡ Open
others_open g phases s h not_s o other = open_unless (phases o).quiet (λ not_o. other (h.one o s not_o not_s))

all_open : (g : GateState) (phases : ℕ → Phase) → QuietIsOne g phases → g.quiet ≡ 0 → (o : ℕ) → (phases o).quiet ≡ Open
all_open g phases h e o = open_unless (phases o).quiet (λ not_o. not_o (zero_open (phases o).quiet (sym (h.quiet o not_o) ∙ e)))

-- The calls of a recovery.

entry : (g : GateState) (phases : ℕ → Phase) (s : ℕ) (t u v : Bool) → QuietIsOne g phases
    → QuietIsOne (if t then refuse g (Held g.commits) else if u then refuse g (Held g.quiet) else if v then refuse g Spent else grant g calls.EnterSnapshot).0
    (with_at phases s (phase_called (phases s) calls.EnterSnapshot (if t then refuse g (Held g.commits) else if u then refuse g (Held g.quiet) else if v then refuse g Spent else grant g calls.EnterSnapshot).1))
entry g phases s true u v h = keeps g g phases s (phases s) refl refl h
entry g phases s false true v h = keeps g g phases s (phases s) refl refl h
entry g phases s false false true h = keeps g g phases s (phases s) refl refl h
entry g phases s false false false h = keeps g (grant g calls.EnterSnapshot).0 phases s (phase_called (phases s) calls.EnterSnapshot (grant g calls.EnterSnapshot).1) refl refl h

starts : (g : GateState) (phases : ℕ → Phase) (s : ℕ) (t : Bool) → nat_lt 0 g.quiet ≡ t → QuietIsOne g phases
    → QuietIsOne (if t then refuse g (Held g.quiet) else grant g calls.StartCopy).0
    (with_at phases s (phase_called (phases s) calls.StartCopy (if t then refuse g (Held g.quiet) else grant g calls.StartCopy).1))
starts g phases s true e h = keeps g g phases s (phases s) refl refl h
starts g phases s false e h =
    gets (grant g calls.StartCopy).0 phases s (phase_called (phases s) calls.StartCopy (grant g calls.StartCopy).1) refl
    (λ o other. all_open g phases h (none_of g.quiet e) o)

enters : (g : GateState) (phases : ℕ → Phase) (s n : ℕ) (t : Bool) → ¬ ((phases s).quiet ≡ Open) → QuietIsOne g phases
    → QuietIsOne (if t then refuse g (Held n) else grant g calls.EnterQuiet).0
    (with_at phases s (phase_called (phases s) calls.EnterQuiet (if t then refuse g (Held n) else grant g calls.EnterQuiet).1))
enters g phases s n true not_s h = keeps g g phases s (phases s) refl refl h
enters g phases s n false not_s h =
    gets (grant g calls.EnterQuiet).0 phases s (phase_called (phases s) calls.EnterQuiet (grant g calls.EnterQuiet).1) refl (others_open g phases s h not_s)

attaches : (g : GateState) (phases : ℕ → Phase) (s : ℕ) (b : BackendId) (t : Bool) → QuietIsOne g phases
    → QuietIsOne (if t then refuse g Spent else grant g (calls.Attach b)).0
    (with_at phases s (phase_called (phases s) (calls.Attach b) (if t then refuse g Spent else grant g (calls.Attach b)).1))
attaches g phases s b true h = keeps g g phases s (phases s) refl refl h
attaches g phases s b false h =
    keeps g (grant g (calls.Attach b)).0 phases s (phase_called (phases s) (calls.Attach b) (grant g (calls.Attach b)).1) refl refl h

is_not : (q r : Quiet) → q ≡ r → ¬ (r ≡ Open) → ¬ (q ≡ Open)
is_not q r e not_r is = not_r (sym e ∙ is)

turned : (g : GateState) (phases : ℕ → Phase) (s : ℕ) (call : GateCall) → MeetsIn (phases s) call → QuietIsOne g phases
    → QuietIsOne (step g call).0 (with_at phases s (phase_called (phases s) call (step g call).1))
turned g phases s calls.Look meets h = keeps g g phases s (phases s) refl refl h
turned g phases s calls.EnterSnapshot meets h =
    entry g phases s (nat_lt 0 g.commits) (nat_le 2 g.quiet) ((g.snaps + g.live == 65535) || (g.done + g.snaps + g.live == 2 ^ 63)) h
turned g phases s calls.LeaveSnapshot meets h =
    keeps g (grant g calls.LeaveSnapshot).0 phases s (phase_called (phases s) calls.LeaveSnapshot (grant g calls.LeaveSnapshot).1) refl refl h
turned g phases s (calls.EnterCommit tables) meets h = absurd meets
turned g phases s calls.LeaveCommit meets h = absurd meets
turned g phases s calls.Finish meets h =
    keeps g (grant g calls.Finish).0 phases s (phase_called (phases s) calls.Finish (grant g calls.Finish).1) refl refl h
turned g phases s (calls.Detach b) meets h = absurd meets
turned g phases s calls.StartCopy meets h = starts g phases s (nat_lt 0 g.quiet) refl h
turned g phases s calls.AskQuiet meets h =
    gets (grant g calls.AskQuiet).0 phases s (phase_called (phases s) calls.AskQuiet (grant g calls.AskQuiet).1) refl
    (others_open g phases s h (is_not (phases s).quiet Copying meets.1 (λ e. absurd (cc))))
turned g phases s calls.EnterQuiet meets h =
    enters g phases s (g.snaps + g.live) (nat_lt 0 (g.snaps + g.live)) (is_not (phases s).quiet Asked meets.1 (λ e. absurd (cc))) h
turned g phases s (calls.Attach b) meets h = attaches g phases s b (nat_le 4294967280 g.epoch) h
turned g phases s calls.LeaveQuiet meets h =
    gets (grant g calls.LeaveQuiet).0 phases s (phase_called (phases s) calls.LeaveQuiet (grant g calls.LeaveQuiet).1) refl (others_open g phases s h meets.1)

-- The calls of a session leave the quiet.

either_quiet : (t : Bool) (g : GateState) (x y : GateState × GateAnswer) → x.0.quiet ≡ g.quiet → y.0.quiet ≡ g.quiet → (if t then x else y).0.quiet ≡ g.quiet
either_quiet true g x y p q = p
either_quiet false g x y p q = q

entry_quiet : (g : GateState) (t u v : Bool)
    → (if t then refuse g (Held g.commits) else if u then refuse g (Held g.quiet) else if v then refuse g Spent else grant g calls.EnterSnapshot).0.quiet ≡ g.quiet
entry_quiet g true u v = refl
entry_quiet g false true v = refl
entry_quiet g false false true = refl
entry_quiet g false false false = refl

detach_quiet : (g : GateState) (b : BackendId) → (step g (calls.Detach b)).0.quiet ≡ g.quiet
detach_quiet g b = either_quiet (has g.attached.bits b.number) g (grant g (calls.Detach b)) (refuse g (Seen (view_of g))) refl refl

session_quiet : (g : GateState) (call : GateCall) (answer : GateAnswer) → answers_call call answer ≡ true → (step g call).0.quiet ≡ g.quiet
session_quiet g calls.Look answer may = refl
session_quiet g calls.EnterSnapshot answer may =
    entry_quiet g (nat_lt 0 g.commits) (nat_le 2 g.quiet) ((g.snaps + g.live == 65535) || (g.done + g.snaps + g.live == 2 ^ 63))
session_quiet g calls.LeaveSnapshot answer may = refl
session_quiet g (calls.EnterCommit tables) answer may =
    either_quiet (nat_lt 0 g.snaps) g (refuse g (Held g.snaps)) (grant g (calls.EnterCommit tables)) refl refl
session_quiet g calls.LeaveCommit answer may = refl
session_quiet g calls.Finish answer may = refl
session_quiet g (calls.Detach b) answer may = detach_quiet g b
session_quiet g calls.StartCopy answer may = absurd (cc)
session_quiet g calls.AskQuiet answer may = absurd (cc)
session_quiet g calls.EnterQuiet answer may = absurd (cc)
session_quiet g (calls.Attach b) answer may = absurd (cc)
session_quiet g calls.LeaveQuiet answer may = absurd (cc)

-- Each step.

recovered_one : (p : Pool) (phases : ℕ → Phase) (s : ℕ) (event : SessionEvent) → Meets (phases s) event → LetsRecovery p s event → QuietIsOne p.gate phases
    → QuietIsOne (gate_after p.gate (call_in event)) (with_at phases s (phase_after (phases s) event))
recovered_one p phases s (events.Ordered order) meets lets h = keeps p.gate p.gate phases s (phases s) refl refl h
recovered_one p phases s (events.Called call answer) meets lets h =
    subst (λ a. QuietIsOne (step p.gate call).0 (with_at phases s (phase_called (phases s) call a))) lets.1 (turned p.gate phases s call meets h)
recovered_one p phases s (events.Swapped b) meets lets h = keeps p.gate p.gate phases s (phases s) refl refl h
recovered_one p phases s (events.Posted b request) meets lets h = keeps p.gate p.gate phases s (phases s) refl refl h
recovered_one p phases s (events.Taken b answer) meets lets h = keeps p.gate p.gate phases s (phases s) refl refl h
recovered_one p phases s (events.Faulted b before count) meets lets h = keeps p.gate p.gate phases s (phases s) refl refl h
recovered_one p phases s (events.Detached b cause answer) meets lets h =
    keeps p.gate (step p.gate (calls.Detach b)).0 phases s (phases s) (detach_quiet p.gate b) refl h
recovered_one p phases s (events.Replied outcome status) meets lets h = keeps p.gate p.gate phases s (phases s) refl refl h
recovered_one p phases s events.Ended meets lets h = keeps p.gate p.gate phases s (phases s) refl refl h

pub step_one : (p : Pool) (phases : ℕ → Phase) (e : Step) → MayStep p e → MeetsAt phases e → QuietIsOne p.gate phases
    → QuietIsOne (gate_after p.gate (call_of e)) (phases_after phases e)
step_one p phases (Serve (Of s (events.Ordered order))) may meets h = h
step_one p phases (Serve (Of s (events.Called call answer))) may meets h =
    of_gate p.gate (step p.gate call).0 phases (session_quiet p.gate call answer may.0.0.1) h
step_one p phases (Serve (Of s (events.Posted b request))) may meets h = h
step_one p phases (Serve (Of s (events.Taken b answer))) may meets h = h
step_one p phases (Serve (Of s (events.Faulted b before count))) may meets h = h
step_one p phases (Serve (Of s (events.Detached b cause answer))) may meets h =
    of_gate p.gate (step p.gate (calls.Detach b)).0 phases (detach_quiet p.gate b) h
step_one p phases (Serve (Of s (events.Swapped b))) may meets h = h
step_one p phases (Serve (Of s (events.Replied outcome status))) may meets h = h
step_one p phases (Serve (Of s events.Ended)) may meets h = h
step_one p phases (Serve (Act s b answer)) may meets h = h
step_one p phases (Serve (Lost b)) may meets h = h
step_one p phases (Recover s event) may meets h =
    recovered_one p phases s.number event meets may.1 h
step_one p phases (Answers s b answer) may meets h = h

holds : (p : Pool) (phases : ℕ → Phase) (es : List Step) → AreMet phases es → QuietIsOne p.gate phases → IsPlayed p es
    → QuietIsOne (pool_all p es).gate (phases_all phases es)
holds p phases [] meets h played = h
holds p phases (e ∷ es) meets h played =
    holds (after p e) (phases_after phases e) es meets.1
    (subst (λ (g : GateState). QuietIsOne g (phases_after phases e)) (sym (gate_is p e)) (step_one p phases e played.0 meets.0 h)) played.1

pub quiet_of_one : (layout : Layout) (policy : ReadPolicy) (attached : BackendSet) (es : List Step) → IsPlayed (first_pool layout policy attached) es
    → QuietIsOne (pool_all (first_pool layout policy attached) es).gate (phases_all all_outside es)
quiet_of_one layout policy attached es played =
    holds (first_pool layout policy attached) all_outside es
    (always_met layout policy attached es played)
    (record { one = λ s o not_s not_o. absurd (not_s refl); quiet = λ s not_s. absurd (not_s refl); nobody = λ all. refl }) played
