-- Where each event leads a recovery, what is due next has its facts.
use Rattle.std.proofs.Common.{◌≡◌, ℕ, Bool, true, false, refl, sym, subst, ◌∙◌, if◌then◌else◌}
use Rattle.std.specs.Prelude.{Option, Some, None}
use Rattle.pool_base.specs.Sets.{has}
use Rattle.pool_base.specs.declared.backend_id.BackendId.{BackendId}
use Rattle.pool_base.specs.declared.gate_call.GateCall.TheVariants as calls
use Rattle.pool_base.specs.declared.gate_call.GateAnswer.{GateAnswer}
use Rattle.pool_base.specs.declared.gate_call.GateAnswer.TheVariants.{Seen, Granted, Held as IsHeld, Spent}
use Rattle.backend_trait.specs.declared.answer.Answer.{Answer}
use Rattle.backend_trait.specs.Store.{Transaction}
use Rattle.session_orders.specs.declared.order.OrderBody.{OrderBody}
use Rattle.session_orders.specs.declared.order.OrderBody.TheVariants as orders
use Rattle.session_machine.specs.Answers.{lowest}
use Rattle.online_recovery.specs.declared.action.RecoveryAction.TheVariants as actions
use Rattle.online_recovery.specs.declared.standing.Quiet.TheVariants.{Copying, Entered}
use Rattle.online_recovery.specs.declared.standing.GateStanding.TheVariants.{InSnapshot}
use Rattle.online_recovery.specs.declared.standing.Side.{Side}
use Rattle.online_recovery.specs.declared.standing.Side.TheVariants.{Source, Target}
use Rattle.online_recovery.specs.declared.standing.Task.{Task}
use Rattle.online_recovery.specs.declared.standing.Task.TheVariants.{OpeningSource, OpeningTarget, Reading, Emptying, Filling, Committing, Leaving, OpeningNumbers, ReadingSerial, LockingSerial, SettingSerial, ClosingNumbers}
use Rattle.online_recovery.specs.declared.standing.Ending.{Ending}
use Rattle.online_recovery.specs.declared.standing.Owed.{Owed}
use Rattle.online_recovery.specs.declared.standing.Owed.TheVariants.{Transaction as IsOwed, Snapshot, LiveTransaction, TheQuiet, Nothing}
use Rattle.online_recovery.specs.declared.standing.Due.{Due}
use Rattle.online_recovery.specs.declared.standing.Due.TheVariants.{Resting, LookDue, StartDue, SwapDue, EnterDue, PostDue, Waiting, ShowDue, LeaveSnapshotDue, FinishDue, AskDue, QuietDue, AttachDue, LostDue, Closing, Undoing}
use Rattle.online_recovery.specs.declared.standing.Held.{Held}
use Rattle.online_recovery.specs.declared.standing.Standing.{Standing}
use Rattle.online_recovery.specs.Codes.{cannot_recover}
use Rattle.online_recovery.specs.State.{configured, is_shown, side_of, owed}
use Rattle.online_recovery.specs.Rules.{action_at, with_view, due, refused, left, ordered, numbered, looked, copy_started, heard, taken_at, taken, faulted, lost_at, detached, granted, called, held_off, swapped, undone, posted}
use Rattle.online_recovery.specs.Allowed.{answers_call as recovery_answers}
use Rattle.online_recovery.specs.Runs.{Phase}
use Rattle.online_recovery.proofs.Fitting.{Fits, FitsTask, Agrees}
use Rattle.recovery_laws.proofs.Scenes.{Scene, course_of, place_at, AreOf, After, WaitsBy, Stands, IsPlain}
use Rattle.recovery_laws.proofs.Leading.{seen_by, Known, Fares, IsLaid, IsShown, answered_fares, shown_fares, snapshot_fares, quiet_fares}

-- a task's answer moves nothing that is held but what counts as a transaction
heard_is : (held : Held) (task : Task) → (a b : Bool) × (heard held task ≡ record held { at_source = a; at_target = b })
heard_is held OpeningSource = (true, held.at_target, refl)
heard_is held OpeningTarget = (held.at_source, true, refl)
heard_is held Committing = (held.at_source, false, refl)
heard_is held Leaving = (false, held.at_target, refl)
heard_is held OpeningNumbers = (held.at_source, true, refl)
heard_is held ClosingNumbers = (held.at_source, false, refl)
heard_is held (Reading table) = (held.at_source, held.at_target, refl)
heard_is held (Emptying table rows) = (held.at_source, held.at_target, refl)
heard_is held (Filling table rows left) = (held.at_source, held.at_target, refl)
heard_is held (ReadingSerial table) = (held.at_source, held.at_target, refl)
heard_is held (LockingSerial table n) = (held.at_source, held.at_target, refl)
heard_is held (SettingSerial table n) = (held.at_source, held.at_target, refl)

-- what a view shows
abbrev pub ShowsAll : ℕ → ℕ → GateAnswer → Type 0
ShowsAll attached touched (Seen view) = (view.attached.bits ≡ attached) × (view.touched ≡ touched)
ShowsAll attached touched (Granted view) = (view.attached.bits ≡ attached) × (view.touched ≡ touched)
ShowsAll attached touched (IsHeld count) = Unit {0}
ShowsAll attached touched Spent = Unit {0}

module _ (P : ℕ → Type 0) (told : ℕ → Option Answer) (mine : ℕ → Transaction) (scenes : ℕ → Scene) (known : (b : ℕ) → Known mine (scenes b)) where
  abbrev Goes : Held → Due → Type 0
  Goes held at = Stands (P held.target.number) (seen_by mine (scenes held.target.number) (course_of held)) told (course_of held) at

  abbrev sees : Held → Scene
  sees held = seen_by mine (scenes held.target.number) (course_of held)

  -- Orders, losses, detachments.

  left_fares : (held : Held) (at : Due) → Fares P told mine scenes known (left held at)
  left_fares held Resting = tt
  left_fares held (LookDue number) = tt
  left_fares held StartDue = tt
  left_fares held SwapDue = tt
  left_fares held EnterDue = tt
  left_fares held (PostDue task) = tt
  left_fares held (Waiting task) = tt
  left_fares held (ShowDue task answer) = tt
  left_fares held LeaveSnapshotDue = tt
  left_fares held FinishDue = tt
  left_fares held AskDue = tt
  left_fares held QuietDue = tt
  left_fares held AttachDue = tt
  left_fares held (LostDue ending before count) = tt
  left_fares held (Closing ending) = tt
  left_fares held (Undoing side ending) = tt

  pub ordered_fares : (held : Held) (at : Due) (body : OrderBody) → Goes held at → Fares P told mine scenes known (ordered held at body)
  ordered_fares held at (orders.Recover number) h = tt
  ordered_fares held at orders.Leave h = left_fares held at
  ordered_fares held at body h = h

  lost_fares : (held : Held) (side : Side) (ending : Ending) (before count : ℕ) → Fares P told mine scenes known (lost_at held side ending before count)
  lost_fares held Source ending before count = tt
  lost_fares held Target ending before count = tt

  pub faulted_fares : (held : Held) (at : Due) (before count : ℕ) → Goes held at → Fares P told mine scenes known (faulted held at before count)
  faulted_fares held (Waiting task) before count h = lost_fares held (side_of task) _ before count
  faulted_fares held (Undoing side ending) before count h = lost_fares held side ending before count
  faulted_fares held at before count h = h

  pub detached_fares : (held : Held) (at : Due) (answer : GateAnswer) → Goes held at → Fares P told mine scenes known (detached held at answer)
  detached_fares held (LostDue ending before count) (Seen view) h = tt
  detached_fares held (LostDue ending before count) (Granted view) h = tt
  detached_fares held (LostDue ending before count) (IsHeld count_held) h = h
  detached_fares held (LostDue ending before count) Spent h = h
  detached_fares held at (Seen view) h = h
  detached_fares held at (Granted view) h = h
  detached_fares held at (IsHeld count) h = h
  detached_fares held at Spent h = h

  -- A swap and posts.

  pub swapped_fares : (held : Held) (at : Due) → P held.target.number → IsPlain (scenes held.target.number) → Goes held at → Fares P told mine scenes known (swapped held at)
  swapped_fares held SwapDue p plain h = (p, plain)
  swapped_fares held at p plain h = h

  undone_fares : (held : Held) (ending : Ending) (o : Owed) → Fares P told mine scenes known (undone held ending o)
  undone_fares held ending (IsOwed side) = tt
  undone_fares held ending Snapshot = tt
  undone_fares held ending LiveTransaction = tt
  undone_fares held ending TheQuiet = tt
  undone_fares held ending Nothing = tt

  pub posted_fares : (held : Held) (at : Due) → ((b : ℕ) → told b ≡ None) → Goes held at → Fares P told mine scenes known (posted held at)
  posted_fares held (PostDue task) none h =
      (h.0, subst (λ (answer : Option Answer). WaitsBy (sees held) (course_of held) task answer) (sym (none (place_at (course_of held) (side_of task)))) h.1)
  posted_fares held (Closing ending) none h = undone_fares held ending (owed held)
  posted_fares held at none h = h

  -- An answer is taken.

  taken_side : (held : Held) (ph : Phase) (task : Task) (answer : Answer) (side : Side) → side_of task ≡ side → IsLaid P told mine scenes known held → Agrees ph held → FitsTask task ph → P held.target.number
      → After (sees held) (course_of held) task answer → Fares P told mine scenes known (taken_at held task answer side)
  taken_side held ph task answer Source e laid a f p h = (p, h)
  taken_side held ph task answer Target e laid a f p h =
      answered_fares P told mine scenes known held laid ph task answer a f (subst (IsShown P told mine scenes known held laid) (sym e) tt) p h

  waiting_fares : (held : Held) (ph : Phase) (task : Task) (answer : Answer) → IsLaid P told mine scenes known held → Agrees ph held → FitsTask task ph
      → P held.target.number × After (sees held) (course_of held) task answer → Fares P told mine scenes known (taken_at (heard held task) task answer (side_of task))
  waiting_fares held ph task answer laid a f h =
      let q = heard_is held task in
      subst (λ (n : Held). Fares P told mine scenes known (taken_at n task answer (side_of task))) (sym q.2)
      (taken_side (record held { at_source = q.0; at_target = q.1 }) ph task answer (side_of task) refl laid a f h.0 h.1)

  -- what is taken was waited for
  pub taken_fares : (held : Held) (ph : Phase) (at : Due) (answer : Answer) (b : BackendId) → action_at held at ≡ actions.WaitFor b → IsLaid P told mine scenes known held → Agrees ph held → Fits at ph
      → ((task : Task) → at ≡ Waiting task → P held.target.number × After (sees held) (course_of held) task answer) → Fares P told mine scenes known (taken held at answer)
  unfolding taken
  taken_fares held ph (Waiting task) answer b e laid a f h = waiting_fares held ph task answer laid a f (h task refl)
  taken_fares held ph (Undoing side ending) answer b e laid a f h = tt
  taken_fares held ph (Closing ending) answer b e laid a f h = tt
  taken_fares held ph at answer b e laid a f h = absurd (cc)

  -- Calls of the gate.

  either : (t : Bool) (a b : Standing) → Fares P told mine scenes known a → Fares P told mine scenes known b → Fares P told mine scenes known (if t then a else b)
  either true a b f g = f
  either false a b f g = g

  numbered_fares : (held : Held) (b : Option BackendId) → Fares P told mine scenes known (numbered held b)
  numbered_fares held None = tt
  numbered_fares held (Some b) = either (is_shown held b) (refused held cannot_recover) (due (record held { target = b }) StartDue) tt tt

  looked_fares : (held : Held) (number : ℕ) (b : Option BackendId) → Fares P told mine scenes known (looked held number b)
  looked_fares held number None = tt
  looked_fares held number (Some b) = numbered_fares held (configured held.layout.nodes number)

  started_fares : (held : Held) → Fares P told mine scenes known (copy_started held)
  started_fares held = either (is_shown held held.target) (refused held cannot_recover) (due held SwapDue) tt tt

  -- the target is not among the attached ones from its Swap on
  abbrev IsFreeAt : Held → Type 0
  IsFreeAt held = has (scenes held.target.number).attached held.target.number ≡ false

  -- where a backend is attached the single run's rows have their tables
  abbrev IsOfTables : Held → Type 0
  IsOfTables held = (k : ℕ) → has (scenes held.target.number).attached k ≡ true → AreOf (scenes held.target.number).tables (scenes held.target.number).single

  granted_fares : (held : Held) (ph : Phase) (at : Due) → IsLaid P told mine scenes known held → held.view.attached.bits ≡ (scenes held.target.number).attached → held.view.touched ≡ (scenes held.target.number).touched → Agrees ph held → Fits at ph
      → (at ≡ EnterDue → IsFreeAt held) → (at ≡ QuietDue → IsFreeAt held × IsOfTables held) → Goes held at → Fares P told mine scenes known (granted held at)
  unfolding granted
  granted_fares held ph (LookDue number) laid shows touched a f free freed h = looked_fares held number (lowest held.view.attached.bits)
  granted_fares held ph StartDue laid shows touched a f free freed h = started_fares (record held { quiet = Copying })
  granted_fares held ph EnterDue laid shows touched a f free freed h =
      snapshot_fares P told mine scenes known (record held { gate = InSnapshot }) laid (lowest held.view.attached.bits) refl shows (sym a.1 ∙ f.1) (free refl) h.0 h.1
  granted_fares held ph (ShowDue task answer) laid shows touched a f free freed h = shown_fares P told mine scenes known held laid ph task answer shows a f h.0 h.1
  granted_fares held ph LeaveSnapshotDue laid shows touched a f free freed h = (h.0, (h.1, h.2))
  granted_fares held ph FinishDue laid shows touched a f free freed h = h
  granted_fares held ph AskDue laid shows touched a f free freed h = h
  granted_fares held ph QuietDue laid shows touched a f free freed h =
      quiet_fares P told mine scenes known (record held { quiet = Entered; touched = held.view.touched }) laid (lowest held.view.attached.bits) refl shows refl touched (freed refl).0 (freed refl).1 h.0 (record { plain = h.1.plain; rows = h.1.rows })
  granted_fares held ph AttachDue laid shows touched a f free freed h = tt
  granted_fares held ph (Closing ending) laid shows touched a f free freed h = tt
  granted_fares held ph Resting laid shows touched a f free freed h = h
  granted_fares held ph SwapDue laid shows touched a f free freed h = h
  granted_fares held ph (PostDue task) laid shows touched a f free freed h = h
  granted_fares held ph (Waiting task) laid shows touched a f free freed h = h
  granted_fares held ph (LostDue ending before count) laid shows touched a f free freed h = h
  granted_fares held ph (Undoing side ending) laid shows touched a f free freed h = h

  held_off_fares : (held : Held) (at : Due) → Goes held at → Fares P told mine scenes known (held_off held at)
  held_off_fares held StartDue h = tt
  held_off_fares held at h = h

  pub called_fares : (held : Held) (ph : Phase) (at : Due) (answer : GateAnswer) → IsLaid P told mine scenes known held → ShowsAll (scenes held.target.number).attached (scenes held.target.number).touched answer → Agrees ph held → Fits at ph
      → (at ≡ EnterDue → IsFreeAt held) → (at ≡ QuietDue → IsFreeAt held × IsOfTables held) → Goes held at → Fares P told mine scenes known (called held at answer)
  unfolding called
  called_fares held ph at (Seen view) laid shows a f free freed h = granted_fares (with_view held view) ph at laid shows.0 shows.1 a f free freed h
  called_fares held ph at (Granted view) laid shows a f free freed h = granted_fares (with_view held view) ph at laid shows.0 shows.1 a f free freed h
  called_fares held ph at (IsHeld count) laid shows a f free freed h = held_off_fares held at h
  called_fares held ph at Spent laid shows a f free freed h = tt

  -- behind an Attach nothing is asked for
  pub attach_fares : (held : Held) (at : Due) (b : BackendId) (answer : GateAnswer) → action_at held at ≡ actions.Gate (calls.Attach b) → recovery_answers (calls.Attach b) answer ≡ true
      → Fares P told mine scenes known (called held at answer)
  unfolding called granted
  attach_fares held AttachDue b (Seen view) e may = tt
  attach_fares held AttachDue b (Granted view) e may = tt
  attach_fares held AttachDue b (IsHeld count) e may = absurd (let z : false ≡ true = may in cc)
  attach_fares held AttachDue b Spent e may = tt
  attach_fares held (Closing ending) b (Seen view) e may = tt
  attach_fares held (Closing ending) b (Granted view) e may = tt
  attach_fares held (Closing ending) b (IsHeld count) e may = tt
  attach_fares held (Closing ending) b Spent e may = tt
  attach_fares held at b answer e may = absurd (cc)
