-- From the facts of a copy: a target is ready when it is attached, and each statement can be run.
use Rattle.std.proofs.Common.{◌≡◌, ◌<◌, ℕ, length, List, refl, sym, ap, subst, ◌∙◌, arith}
use Rattle.std.specs.Prelude.{Option, Some, None}
use Rattle.pool_base.specs.Sets.{has}
use Rattle.pool_base.specs.declared.session_id.SessionId.{SessionId}
use Rattle.pool_base.specs.declared.backend_id.BackendId.{BackendId}
use Rattle.pool_base.specs.declared.gate_call.GateCall.{GateCall}
use Rattle.pool_base.specs.declared.gate_call.GateCall.TheVariants as calls
use Rattle.pool_base.specs.declared.gate_call.GateAnswer.{GateAnswer}
use Rattle.pool_base.specs.declared.gate_call.GateAnswer.TheVariants.{Seen, Granted, Held as IsHeld, Spent}
use Rattle.schema.specs.declared.catalogue.TableDef.{TableDef}
use Rattle.schema.specs.Allowed.{AreAllowed}
use Rattle.backend_trait.specs.declared.request.Request.{Request}
use Rattle.backend_trait.specs.declared.answer.Answer.{Answer}
use Rattle.backend_trait.specs.Store.{view_of}
use Rattle.session_machine.specs.declared.action.SessionEvent.{SessionEvent}
use Rattle.session_machine.specs.declared.action.SessionEvent.TheVariants as events
use Rattle.snapshot_gate.specs.declared.state.GateState.{GateState}
use Rattle.online_recovery.specs.declared.action.RecoveryAction.TheVariants as actions
use Rattle.online_recovery.specs.declared.standing.Task.{Task}
use Rattle.online_recovery.specs.declared.standing.Task.TheVariants.{OpeningSource, OpeningTarget, Reading, Emptying, Filling, Committing, Leaving, OpeningNumbers, ReadingSerial, LockingSerial, SettingSerial, ClosingNumbers}
use Rattle.online_recovery.specs.declared.standing.Ending.{Ending}
use Rattle.online_recovery.specs.declared.standing.Ending.TheVariants.{Attached, Refused, Leaves}
use Rattle.online_recovery.specs.declared.standing.Owed.{Owed}
use Rattle.online_recovery.specs.declared.standing.Owed.TheVariants.{Transaction as IsOwed, Snapshot, LiveTransaction, TheQuiet, Nothing}
use Rattle.online_recovery.specs.declared.standing.Side.{Side}
use Rattle.online_recovery.specs.declared.standing.Side.TheVariants.{Source, Target}
use Rattle.online_recovery.specs.declared.standing.Due.{Due}
use Rattle.online_recovery.specs.declared.standing.Due.TheVariants.{Waiting, AttachDue, Closing, Undoing}
use Rattle.online_recovery.specs.declared.standing.Held.{Held}
use Rattle.online_recovery.specs.State.{backend_at, side_of, owed}
use Rattle.online_recovery.specs.Rules.{action_at, closing_action, request_of}
use Rattle.online_recovery.specs.Runs.{Phase}
use Rattle.recovery_laws.specs.declared.step.Step.{Step}
use Rattle.recovery_laws.specs.declared.step.Step.TheVariants.{Serve, Recover, Answer as Answers}
use Rattle.recovery_laws.specs.Pool.{Pool, world_of, MayStep}
use Rattle.recovery_laws.proofs.Running.{reads_run, deletes_run, inserts_run}
use Rattle.recovery_laws.specs.Masks.{Masked}
use Rattle.recovery_laws.specs.Ready.{IsReady}
use Rattle.recovery_laws.specs.Steps.{FitsCall, RunsIn, FitsAnswer, IsFit}
use Rattle.recovery_laws.proofs.Copying.{AreStoredIn, view_stored}
use Rattle.recovery_laws.proofs.Lining.{AsksFor}
use Rattle.recovery_laws.proofs.Stepping.{Holds}
use Rattle.recovery_laws.proofs.Scenes.{Scene, Course, course_of, place_at, Before, Stands, WaitsBy}
use Rattle.recovery_laws.proofs.Leading.{seen_by}
use Rattle.recovery_laws.proofs.Acting.{there_within}
use Rattle.recovery_laws.proofs.Owing.{IsUp}
use Rattle.recovery_laws.proofs.Following.{IsAlone, scene_of, StandsIn, AllStand}

-- What is carried along the steps.

abbrev pub AllUp : Pool → Type 0
AllUp p = (s : ℕ) → IsUp (world_of p).tables (p.recovery s)

pub record Copied (p : Pool) (phases : ℕ → Phase) : Type 0 where
  pub holds : Holds p phases
  pub masked : Masked p.tracked
  pub ups : AllUp p
  pub stand : AllStand p

-- Each statement can be run.

pub before_runs : (x : Scene) (c : Course) (task : Task) → AreAllowed x.tables → AreStoredIn x.tables x.source → Before x c task → RunsIn x.tables (request_of x.tables task)
before_runs x c OpeningSource allowed stored h = tt
before_runs x c OpeningTarget allowed stored h = tt
before_runs x c (Reading table) allowed stored h = reads_run x.tables table allowed (there_within x.tables table h.1.there)
before_runs x c (Emptying table rows) allowed stored h = deletes_run x.tables table (there_within x.tables table h.turn.there)
before_runs x c (Filling table rows left) allowed stored h =
    let few = h.few in
    inserts_run x.tables table left (view_of h.base.live) rows (there_within x.tables table h.turn.there) (view_stored x.tables x.source stored h.base.live h.base.is) h.read
    (let z : left < length rows = omega (arith, few) in z)
before_runs x c Committing allowed stored h = tt
before_runs x c Leaving allowed stored h = tt
before_runs x c OpeningNumbers allowed stored h = tt
before_runs x c (ReadingSerial table) allowed stored h = tt
before_runs x c (LockingSerial table n) allowed stored h = tt
before_runs x c (SettingSerial table n) allowed stored h = tt
before_runs x c ClosingNumbers allowed stored h = tt

pub place_is : (held : Held) (side : Side) → (backend_at held side).number ≡ place_at (course_of held) side
place_is held Source = refl
place_is held Target = refl

-- what waits for an answer is not answered yet
pub not_told : (p : Pool) (phases : ℕ → Phase) (h : Holds p phases) (s b k : ℕ) (request : Request) → p.asked s b ≡ Some request → p.told s k ≡ None
not_told p phases h s b k request is = by (p.told s k) refl
  where
    by : (x : Option Answer) → p.told s k ≡ x → x ≡ None
    by None e = refl
    by (Some answer) e = absurd (let z : None ≡ Some request = sym (((h.lines s).tells k answer e).1 b) ∙ is in cc)

pub waits_before : (P : Type 0) (x : Scene) (told : ℕ → Option Answer) (c : Course) (task : Task) → told (place_at c (side_of task)) ≡ None → Stands P x told c (Waiting task) → Before x c task
waits_before P x told c task none h = subst (λ (t : Option Answer). WaitsBy x c task t) none h.1

module _ (p : Pool) (phases : ℕ → Phase) (h : Copied p phases) where
  abbrev tables : List TableDef
  tables = (world_of p).tables

  -- the statement that is asked for
  runs_at : (s b : ℕ) (held : Held) (at : Due) (request : Request) → held.layout.tables ≡ tables → ((k : ℕ) → p.told s k ≡ None) → StandsIn p s (p.told s) held at → AsksFor held at request
      → RunsIn tables request
  runs_at s b held (Waiting task) request laid none stands asks =
      let x : Scene = seen_by (p.transaction s) (scene_of p held.target.number) (course_of held) in
      subst (RunsIn tables) (sym (asks ∙ ap (λ (ts : List TableDef). request_of ts task) laid))
      (before_runs x (course_of held) task h.holds.allowed (h.holds.copies s held.source.number)
      (waits_before (IsAlone (world_of p) held.target.number) x (p.told s) (course_of held) task (none (place_at (course_of held) (side_of task))) stands))
  runs_at s b held (Undoing side ending) request laid none stands asks = subst (RunsIn tables) (sym asks) tt
  runs_at s b held at request laid none stands asks = absurd asks

  fits_answer : (s b : ℕ) (request : Option Request) → p.asked s b ≡ request → FitsAnswer p request
  fits_answer s b None is = tt
  fits_answer s b (Some request) is =
      let r = p.recovery s in
      runs_at s b r.held r.due request (h.ups s).laid (λ k. not_told p phases h.holds s b k request is) (h.stand s) ((h.holds.lines s).asks b request is).1

  -- The target of an Attach is ready.

  ready : (s : ℕ) (held : Held) → StandsIn p s (p.told s) held AttachDue → IsReady p.tracked held.target.number
  ready s held stands = record {
    source = held.source.number;
    attached = ap (λ (g : GateState). has g.attached.bits held.source.number) h.holds.counts.same ∙ stands.1.settled.attached;
    rows = stands.1.settled.rows;
    numbers = stands.2;
    none = stands.0.none;
    unasked = stands.0.unasked;
  }

  attach_closes : (held : Held) (ending : Ending) (o : Owed) (b : BackendId) → closing_action held ending o ≡ actions.Gate (calls.Attach b) → ⊥
  attach_closes held ending (IsOwed side) b e = absurd (cc)
  attach_closes held ending Snapshot b e = absurd (cc)
  attach_closes held ending LiveTransaction b e = absurd (cc)
  attach_closes held ending TheQuiet b e = absurd (cc)
  attach_closes held Attached Nothing b e = absurd (cc)
  attach_closes held (Refused code) Nothing b e = absurd (cc)
  attach_closes held Leaves Nothing b e = absurd (cc)

  attach_ready : (s : ℕ) (held : Held) (at : Due) (b : BackendId) → action_at held at ≡ actions.Gate (calls.Attach b) → StandsIn p s (p.told s) held at → IsReady p.tracked b.number
  attach_ready s held AttachDue b e stands =
      subst (λ (k : BackendId). IsReady p.tracked k.number) (let same : held.target ≡ b = cc in same) (ready s held stands)
  attach_ready s held (Closing ending) b e stands = absurd (attach_closes held ending (owed held) b e)
  attach_ready s held at b e stands = absurd (cc)

  fits_granted : (s : SessionId) (b : BackendId) (answer : GateAnswer) → MayStep p (Recover s (events.Called (calls.Attach b) answer)) → FitsCall p.tracked (events.Called (calls.Attach b) answer)
  fits_granted s b (Granted view) may = attach_ready s.number (p.recovery s.number).held (p.recovery s.number).due b may.0.0 (h.stand s.number)
  fits_granted s b (Seen view) may = tt
  fits_granted s b (IsHeld count) may = tt
  fits_granted s b Spent may = tt

  fits_called : (s : SessionId) (call : GateCall) (answer : GateAnswer) → MayStep p (Recover s (events.Called call answer)) → FitsCall p.tracked (events.Called call answer)
  fits_called s (calls.Attach b) answer may = fits_granted s b answer may
  fits_called s calls.Look answer may = tt
  fits_called s calls.EnterSnapshot answer may = tt
  fits_called s calls.LeaveSnapshot answer may = tt
  fits_called s (calls.EnterCommit touched) answer may = tt
  fits_called s calls.LeaveCommit answer may = tt
  fits_called s calls.Finish answer may = tt
  fits_called s (calls.Detach b) answer may = tt
  fits_called s calls.StartCopy answer may = tt
  fits_called s calls.AskQuiet answer may = tt
  fits_called s calls.EnterQuiet answer may = tt
  fits_called s calls.LeaveQuiet answer may = tt

  fits_event : (s : SessionId) (event : SessionEvent) → MayStep p (Recover s event) → FitsCall p.tracked event
  fits_event s (events.Called call answer) may = fits_called s call answer may
  fits_event s (events.Ordered order) may = tt
  fits_event s (events.Posted b request) may = tt
  fits_event s (events.Taken b answer) may = tt
  fits_event s (events.Faulted b before count) may = tt
  fits_event s (events.Detached b cause answer) may = tt
  fits_event s (events.Swapped b) may = tt
  fits_event s (events.Replied outcome status) may = tt
  fits_event s events.Ended may = tt

  pub step_fit : (e : Step) → MayStep p e → IsFit p e
  step_fit (Serve event) may = tt
  step_fit (Recover s event) may = fits_event s event may
  step_fit (Answers s b answer) may = fits_answer s.number b.number (p.asked s.number b.number) refl
