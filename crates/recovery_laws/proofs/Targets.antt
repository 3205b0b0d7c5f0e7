-- At every step the target of a recovery is not attached, from its Swap to its Attach: nobody else has the gate's quiet meanwhile.
use Rattle.std.proofs.Common.{◌≡◌, ◌+◌, ◌<◌, ◌||◌, ◌==◌, ◌^◌, ℕ, inl, inr, refl, sym, subst, ◌∙◌, Bool, true, false, nat_lt, nat_le, if◌then◌else◌}
use Rattle.std.specs.Prelude.{Option, Some, None}
use Rattle.pool_base.specs.Sets.{has}
use Rattle.pool_base.specs.declared.session_id.SessionId.{SessionId}
use Rattle.pool_base.specs.declared.backend_id.BackendId.{BackendId}
use Rattle.pool_base.specs.declared.gate_call.GateCall.{GateCall}
use Rattle.pool_base.specs.declared.gate_call.GateCall.TheVariants as calls
use Rattle.pool_base.specs.declared.gate_call.GateAnswer.{GateAnswer}
use Rattle.pool_base.specs.declared.gate_call.GateAnswer.TheVariants.{Held as IsHeld, Spent}
use Rattle.backend_trait.specs.declared.request.Request.{Request}
use Rattle.backend_trait.specs.declared.answer.Answer.{Answer}
use Rattle.backend_trait.specs.Rows.{with_at}
use Rattle.session_machine.specs.declared.action.SessionEvent.{SessionEvent}
use Rattle.session_machine.specs.declared.action.SessionEvent.TheVariants as events
use Rattle.session_machine.specs.Allowed.{answers_call}
use Rattle.snapshot_gate.specs.declared.state.GateState.{GateState}
use Rattle.snapshot_gate.specs.Function.{step, Turn, grant, refuse}
use Rattle.online_recovery.specs.declared.action.RecoveryAction.TheVariants as actions
use Rattle.online_recovery.specs.declared.standing.Quiet.TheVariants.{Open, Copying, Asked, Entered}
use Rattle.online_recovery.specs.declared.standing.Task.{Task}
use Rattle.online_recovery.specs.declared.standing.Task.TheVariants.{OpeningSource, OpeningTarget, Reading, Emptying, Filling, Committing, Leaving, OpeningNumbers, ReadingSerial, LockingSerial, SettingSerial, ClosingNumbers}
use Rattle.online_recovery.specs.declared.standing.Due.{Due}
use Rattle.online_recovery.specs.declared.standing.Due.TheVariants.{Resting, LookDue, StartDue, SwapDue, EnterDue, PostDue, Waiting, ShowDue, LeaveSnapshotDue, FinishDue, AskDue, QuietDue, AttachDue, LostDue, Closing, Undoing}
use Rattle.online_recovery.specs.declared.standing.Standing.{Standing}
use Rattle.online_recovery.specs.Rules.{next_action, after_at, after as recovery_after}
use Rattle.online_recovery.specs.Allowed.{answers_call as recovery_answers, MayHappen as RecoveryMay}
use Rattle.online_recovery.specs.Runs.{Phase, phase_after, Meets, attached_after}
use Rattle.online_recovery.proofs.Fitting.{Good, Agrees, Fits, FitsTask, is_attached}
use Rattle.online_recovery.proofs.Proceeding.{detached_good, faulted_good, ordered_good, posted_good, swapped_good, taken_good}
use Rattle.online_recovery.proofs.Calling.{called_good}
use Rattle.one_copy_model.specs.declared.event.Event.TheVariants.{Of, Act, Lost}
use Rattle.one_copy_model.proofs.Places.{each_at, each_at2}
use Rattle.one_copy_model.proofs.Finding.{one_of_eight}
use Rattle.one_copy_laws.proofs.FallsLeaving.{few_left, fewer_in}
use Rattle.recovery_laws.specs.declared.step.Step.{Step}
use Rattle.recovery_laws.specs.declared.step.Step.TheVariants.{Serve, Recover, Answer as Answers}
use Rattle.recovery_laws.specs.Pool.{Pool, call_in, gate_after, answered, after, MayStep}
use Rattle.recovery_laws.specs.Phases.{phases_after, MeetsAt, QuietIsOne}
use Rattle.recovery_laws.proofs.GateQuieting.{open_unless}
use Rattle.recovery_laws.proofs.Freeing.{IsFree, Frees, Shows, ShowsIn, stays_free, attached_free, fewer_frees}

-- Where a recovery stands at the gate fits what is due, at every step.

pub record FitsIn (p : Phase) (r : Standing) : Type 0 where
  pub agrees : Agrees p r.held
  pub fits : Fits r.due p

stays_good : (p : Phase) (r : Standing) (event : SessionEvent) → RecoveryMay r event → Agrees p r.held → Fits r.due p → Meets p event
    → Good (phase_after p event) (attached_after event (is_attached r.due)) (recovery_after r event)
unfolding after_at
stays_good p r (events.Ordered order) may a f m = ordered_good p r.held r.due order.body may a f
stays_good p r (events.Called call answer) may a f m = called_good p r.held r.due call answer may.0 may.1 a f
stays_good p r (events.Swapped b) may a f m = swapped_good p r.held r.due a f
stays_good p r (events.Posted b request) may a f m = posted_good p r.held r.due a f
stays_good p r (events.Taken b answer) may a f m = taken_good p r.held r.due answer a f
stays_good p r (events.Faulted b before count) may a f m = faulted_good p r.held r.due before count a f
stays_good p r (events.Detached b cause answer) may a f m = detached_good p r.held r.due answer a f
stays_good p r (events.Replied outcome status) may a f m = record { gate = m.0; quiet = m.1; fits = m; told = refl }
stays_good p r events.Ended may a f m = record { gate = m.0; quiet = m.1; fits = m; told = refl }

abbrev pub AllFit : Pool → (ℕ → Phase) → Type 0
AllFit p phases = (s : ℕ) → FitsIn (phases s) (p.recovery s)

answered_fits : (p : Pool) (phases : ℕ → Phase) (s b : ℕ) (answer : Answer) (request : Option Request) → AllFit p phases → AllFit (answered p s b answer request) phases
answered_fits p phases s b answer None h = h
answered_fits p phases s b answer (Some request) h = h

pub step_fits : (p : Pool) (phases : ℕ → Phase) (e : Step) → MayStep p e → MeetsAt phases e → AllFit p phases → AllFit (after p e) (phases_after phases e)
step_fits p phases (Serve event) may meets h = h
step_fits p phases (Recover s event) may meets h =
    let g = stays_good (phases s.number) (p.recovery s.number) event may.0 (h s.number).agrees (h s.number).fits meets in
    each_at2 (λ o x r. FitsIn x r) phases p.recovery s.number (phase_after (phases s.number) event) (recovery_after (p.recovery s.number) event)
    (record { agrees = (g.gate, g.quiet); fits = g.fits }) (λ o other. h o)
step_fits p phases (Answers s b answer) may meets h = answered_fits p phases s.number b.number answer (p.asked s.number b.number) h

-- Who has none of the gate's quiet has no target yet.

not_open : (p : Phase) → p.quiet ≡ Copying → p.quiet ≡ Open → ⊥
not_open p e f = let z : Copying ≡ Open = sym e ∙ f in cc

not_asked : (p : Phase) → p.quiet ≡ Asked → p.quiet ≡ Open → ⊥
not_asked p e f = let z : Asked ≡ Open = sym e ∙ f in cc

not_entered : (p : Phase) → p.quiet ≡ Entered → p.quiet ≡ Open → ⊥
not_entered p e f = let z : Entered ≡ Open = sym e ∙ f in cc

pub task_open : (task : Task) (p : Phase) → FitsTask task p → p.quiet ≡ Open → ⊥
task_open OpeningSource p f e = elim f [ inl x ↦ not_open p x.1 e | inr x ↦ not_entered p x.1 e ]
task_open OpeningTarget p f e = elim f [ inl x ↦ not_open p x.1 e | inr x ↦ not_entered p x.1 e ]
task_open (Reading table) p f e = elim f [ inl x ↦ not_open p x.1 e | inr x ↦ not_entered p x.1 e ]
task_open (Emptying table rows) p f e = elim f [ inl x ↦ not_open p x.1 e | inr x ↦ not_entered p x.1 e ]
task_open (Filling table rows left) p f e = elim f [ inl x ↦ not_open p x.1 e | inr x ↦ not_entered p x.1 e ]
task_open Committing p f e = elim f [ inl x ↦ not_open p x.1 e | inr x ↦ not_entered p x.1 e ]
task_open Leaving p f e = elim f [ inl x ↦ not_open p x.1 e | inr x ↦ not_entered p x.1 e ]
task_open OpeningNumbers p f e = not_entered p f.1 e
task_open (ReadingSerial table) p f e = not_entered p f.1 e
task_open (LockingSerial table n) p f e = not_entered p f.1 e
task_open (SettingSerial table n) p f e = not_entered p f.1 e
task_open ClosingNumbers p f e = not_entered p f.1 e

open_free : (n : ℕ) (target : BackendId) (at : Due) (p : Phase) → Fits at p → p.quiet ≡ Open → IsFree n target at
open_free n target Resting p f e = tt
open_free n target (LookDue number) p f e = tt
open_free n target StartDue p f e = tt
open_free n target SwapDue p f e = absurd (not_open p f.1 e)
open_free n target EnterDue p f e = absurd (not_open p f.1 e)
open_free n target (PostDue task) p f e = absurd (task_open task p f e)
open_free n target (Waiting task) p f e = absurd (task_open task p f e)
open_free n target (ShowDue task answer) p f e = absurd (task_open task p f e)
open_free n target LeaveSnapshotDue p f e = absurd (not_open p f.1 e)
open_free n target FinishDue p f e = absurd (not_open p f.1 e)
open_free n target AskDue p f e = absurd (not_open p f.1 e)
open_free n target QuietDue p f e = absurd (not_asked p f.1 e)
open_free n target AttachDue p f e = absurd (not_entered p f.1 e)
open_free n target (LostDue ending before count) p f e = tt
open_free n target (Closing ending) p f e = tt
open_free n target (Undoing side ending) p f e = tt

-- What a call leaves attached, and what its answer shows.

entry_leaves : (g : GateState) (t u v : Bool) → let n = (if t then refuse g (IsHeld g.commits) else if u then refuse g (IsHeld g.quiet) else if v then refuse g Spent else grant g calls.EnterSnapshot) in
    (n.0.attached ≡ g.attached) × Shows n.1 n.0.attached.bits
entry_leaves g true u v = (refl, tt)
entry_leaves g false true v = (refl, tt)
entry_leaves g false false true = (refl, tt)
entry_leaves g false false false = (refl, refl)

abbrev pub Leaves : GateState → Turn → Type 0
Leaves g n = (n.0.attached ≡ g.attached) × Shows n.1 n.0.attached.bits

either_leaves : (t : Bool) (g : GateState) (x y : Turn) → Leaves g x → Leaves g y → Leaves g (if t then x else y)
either_leaves true g x y e f = e
either_leaves false g x y e f = f

-- all calls but an Attach and a Detach leave the attached backends
abbrev pub is_steady : GateCall → Bool
is_steady (calls.Attach b) = false
is_steady (calls.Detach b) = false
is_steady call = true

pub steady_leaves : (g : GateState) (call : GateCall) → is_steady call ≡ true → Leaves g (step g call)
steady_leaves g calls.Look e = (refl, refl)
steady_leaves g calls.EnterSnapshot e = entry_leaves g (nat_lt 0 g.commits) (nat_le 2 g.quiet) ((g.snaps + g.live == 65535) || (g.done + g.snaps + g.live == 2 ^ 63))
steady_leaves g calls.LeaveSnapshot e = (refl, refl)
steady_leaves g (calls.EnterCommit tables) e = either_leaves (nat_lt 0 g.snaps) g (refuse g (IsHeld g.snaps)) (grant g (calls.EnterCommit tables)) (refl, tt) (refl, refl)
steady_leaves g calls.LeaveCommit e = (refl, refl)
steady_leaves g calls.Finish e = (refl, refl)
steady_leaves g (calls.Detach b) e = absurd (let z : false ≡ true = e in cc)
steady_leaves g calls.StartCopy e = either_leaves (nat_lt 0 g.quiet) g (refuse g (IsHeld g.quiet)) (grant g calls.StartCopy) (refl, tt) (refl, refl)
steady_leaves g calls.AskQuiet e = (refl, refl)
steady_leaves g calls.EnterQuiet e = either_leaves (nat_lt 0 (g.snaps + g.live)) g (refuse g (IsHeld (g.snaps + g.live))) (grant g calls.EnterQuiet) (refl, tt) (refl, refl)
steady_leaves g (calls.Attach b) e = absurd (let z : false ≡ true = e in cc)
steady_leaves g calls.LeaveQuiet e = (refl, refl)

pub session_steady : (call : GateCall) (answer : GateAnswer) → answers_call call answer ≡ true → is_steady call ≡ true
session_steady (calls.Attach b) answer may = absurd (let z : false ≡ true = may in cc)
session_steady (calls.Detach b) answer may = absurd (let z : false ≡ true = may in cc)
session_steady call answer may = refl

same_fewer : (g n : GateState) → n.attached ≡ g.attached → (k : ℕ) → has n.attached.bits k ≡ true → has g.attached.bits k ≡ true
same_fewer g n e k = subst (λ a. has a.bits k ≡ true → has g.attached.bits k ≡ true) (sym e) (λ h. h)

pub gone_fewer : (g : GateState) (b : BackendId) → g.attached.bits < 256 → (k : ℕ) → has (step g (calls.Detach b)).0.attached.bits k ≡ true → has g.attached.bits k ≡ true
gone_fewer g b few k e =
    fewer_in g b (has g.attached.bits b.number) few k
    (one_of_eight (step g (calls.Detach b)).0.attached.bits k (few_left g b (has g.attached.bits b.number) few) e) e

-- The targets.

abbrev pub AllFree : Pool → Type 0
AllFree p = (s : ℕ) → Frees p.gate.attached.bits (p.recovery s)

module _ (p : Pool) (h : AllFree p) where
  fewer_all : (n : GateState) → ((k : ℕ) → has n.attached.bits k ≡ true → has p.gate.attached.bits k ≡ true) → (o : ℕ) → Frees n.attached.bits (p.recovery o)
  fewer_all n less o = fewer_frees n.attached.bits p.gate.attached.bits less (p.recovery o) (h o)

  -- one recovery moves, and the attached backends stay or get fewer
  moves_free : (s : ℕ) (event : SessionEvent) (n : GateState) → ((k : ℕ) → has n.attached.bits k ≡ true → has p.gate.attached.bits k ≡ true) → ShowsIn event n.attached.bits
      → (o : ℕ) → Frees n.attached.bits (with_at p.recovery s (recovery_after (p.recovery s) event) o)
  moves_free s event n less shows =
      each_at (λ o r. Frees n.attached.bits r) p.recovery s (recovery_after (p.recovery s) event)
      (stays_free n.attached.bits (p.recovery s) event shows (fewer_all n less s)) (λ o other. fewer_all n less o)

served_free : (p : Pool) (s : SessionId) (event : SessionEvent) → MayStep p (Serve (Of s event)) → p.gate.attached.bits < 256 → AllFree p
    → (o : ℕ) → Frees (gate_after p.gate (call_in event)).attached.bits (p.recovery o)
served_free p s (events.Ordered order) may few h = h
served_free p s (events.Called call answer) may few h =
    fewer_all p h (step p.gate call).0 (same_fewer p.gate (step p.gate call).0 (steady_leaves p.gate call (session_steady call answer may.0.0.1)).0)
served_free p s (events.Posted b request) may few h = h
served_free p s (events.Taken b answer) may few h = h
served_free p s (events.Faulted b before count) may few h = h
served_free p s (events.Detached b cause answer) may few h = fewer_all p h (step p.gate (calls.Detach b)).0 (gone_fewer p.gate b few)
served_free p s (events.Swapped b) may few h = h
served_free p s (events.Replied outcome status) may few h = h
served_free p s events.Ended may few h = h

-- a call of a recovery
module _ (p : Pool) (phases : ℕ → Phase) (one : QuietIsOne p.gate phases) (fits : AllFit p phases) (s : SessionId) (h : AllFree p) where
  steady_free : (call : GateCall) (answer : GateAnswer) → is_steady call ≡ true → (step p.gate call).1 ≡ answer
      → (o : ℕ) → Frees (step p.gate call).0.attached.bits (with_at p.recovery s.number (recovery_after (p.recovery s.number) (events.Called call answer)) o)
  steady_free call answer steady e =
      let l = steady_leaves p.gate call steady in
      moves_free p h s.number (events.Called call answer) (step p.gate call).0 (same_fewer p.gate (step p.gate call).0 l.0)
      (subst (λ (a : GateAnswer). Shows a (step p.gate call).0.attached.bits) e l.1)

  attach_free : (b : BackendId) (answer : GateAnswer) → next_action (p.recovery s.number) ≡ actions.Gate (calls.Attach b) → recovery_answers (calls.Attach b) answer ≡ true → (phases s.number).quiet ≡ Entered
      → (n o : ℕ) → Frees n (with_at p.recovery s.number (recovery_after (p.recovery s.number) (events.Called (calls.Attach b) answer)) o)
  attach_free b answer due may entered n =
      each_at (λ o r. Frees n r) p.recovery s.number (recovery_after (p.recovery s.number) (events.Called (calls.Attach b) answer))
      (attached_free n (p.recovery s.number) b answer due may)
      (λ o other. open_free n (p.recovery o).held.target (p.recovery o).due (phases o) (fits o).fits
      (open_unless (phases o).quiet (λ not. other (one.one o s.number not (not_entered (phases s.number) entered)))))

  called_free : (call : GateCall) (answer : GateAnswer) → MayStep p (Recover s (events.Called call answer)) → MeetsAt phases (Recover s (events.Called call answer))
      → (o : ℕ) → Frees (step p.gate call).0.attached.bits (with_at p.recovery s.number (recovery_after (p.recovery s.number) (events.Called call answer)) o)
  called_free (calls.Attach b) answer may meets = attach_free b answer may.0.0 may.0.1 meets.1 (step p.gate (calls.Attach b)).0.attached.bits
  called_free (calls.Detach b) answer may meets = absurd meets
  called_free calls.Look answer may meets = steady_free calls.Look answer refl may.1.1
  called_free calls.EnterSnapshot answer may meets = steady_free calls.EnterSnapshot answer refl may.1.1
  called_free calls.LeaveSnapshot answer may meets = steady_free calls.LeaveSnapshot answer refl may.1.1
  called_free (calls.EnterCommit tables) answer may meets = absurd meets
  called_free calls.LeaveCommit answer may meets = absurd meets
  called_free calls.Finish answer may meets = steady_free calls.Finish answer refl may.1.1
  called_free calls.StartCopy answer may meets = steady_free calls.StartCopy answer refl may.1.1
  called_free calls.AskQuiet answer may meets = steady_free calls.AskQuiet answer refl may.1.1
  called_free calls.EnterQuiet answer may meets = steady_free calls.EnterQuiet answer refl may.1.1
  called_free calls.LeaveQuiet answer may meets = steady_free calls.LeaveQuiet answer refl may.1.1

  same_free : (event : SessionEvent) → ShowsIn event p.gate.attached.bits → (o : ℕ) → Frees p.gate.attached.bits (with_at p.recovery s.number (recovery_after (p.recovery s.number) event) o)
  same_free event shows = moves_free p h s.number event p.gate (λ k e. e) shows

  recovered_free : (event : SessionEvent) → MayStep p (Recover s event) → MeetsAt phases (Recover s event) → p.gate.attached.bits < 256
      → (o : ℕ) → Frees (gate_after p.gate (call_in event)).attached.bits (with_at p.recovery s.number (recovery_after (p.recovery s.number) event) o)
  recovered_free (events.Ordered order) may meets few = same_free (events.Ordered order) tt
  recovered_free (events.Called call answer) may meets few = called_free call answer may meets
  recovered_free (events.Posted b request) may meets few = same_free (events.Posted b request) tt
  recovered_free (events.Taken b answer) may meets few = same_free (events.Taken b answer) tt
  recovered_free (events.Faulted b before count) may meets few = same_free (events.Faulted b before count) tt
  recovered_free (events.Detached b cause answer) may meets few =
      moves_free p h s.number (events.Detached b cause answer) (step p.gate (calls.Detach b)).0 (gone_fewer p.gate b few) tt
  recovered_free (events.Swapped b) may meets few = same_free (events.Swapped b) tt
  recovered_free (events.Replied outcome status) may meets few = same_free (events.Replied outcome status) tt
  recovered_free events.Ended may meets few = same_free events.Ended tt

answered_free : (p : Pool) (s b : ℕ) (answer : Answer) (request : Option Request) → AllFree p → AllFree (answered p s b answer request)
answered_free p s b answer None h = h
answered_free p s b answer (Some request) h = h

pub step_free : (p : Pool) (phases : ℕ → Phase) (e : Step) → MayStep p e → MeetsAt phases e → p.gate.attached.bits < 256 → QuietIsOne p.gate phases → AllFit p phases → AllFree p → AllFree (after p e)
step_free p phases (Serve (Of s event)) may meets few one fits h = served_free p s event may few h
step_free p phases (Serve (Act s b answer)) may meets few one fits h = h
step_free p phases (Serve (Lost b)) may meets few one fits h = h
step_free p phases (Recover s event) may meets few one fits h = recovered_free p phases one fits s h event may meets few
step_free p phases (Answers s b answer) may meets few one fits h = answered_free p s.number b.number answer (p.asked s.number b.number) h
