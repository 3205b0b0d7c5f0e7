-- Every event that may come leads from statements that can be run to ones that can be run.
use Rattle.std.proofs.Common.{◌+◌, ℕ, ℤ, Bool, true, false, List, [], ◌∷◌, Some, None}
use Rattle.std.specs.Prelude.{Option, if◌then◌else◌}
use Rattle.schema.specs.declared.catalogue.TableDef.{TableDef}
use Rattle.pool_base.specs.declared.code.Code.{Code}
use Rattle.pool_base.specs.declared.backend_id.BackendId.{BackendId}
use Rattle.pool_base.specs.declared.backend_set.BackendSet.{BackendSet}
use Rattle.pool_base.specs.declared.gate_call.GateAnswer.{GateAnswer}
use Rattle.pool_base.specs.declared.gate_call.GateAnswer.TheVariants.{Seen, Granted, Held, Spent}
use Rattle.backend_trait.specs.declared.request.Request.TheVariants as requests
use Rattle.backend_trait.specs.declared.answer.Answer.{Answer}
use Rattle.backend_trait.specs.declared.answer.Answer.TheVariants as answers
use Rattle.write_path.specs.declared.kind.ChainKind.TheVariants.{All, StopAtRefusal}
use Rattle.session_machine.specs.declared.work.Class.{Class}
use Rattle.session_machine.specs.declared.work.Class.TheVariants as classes
use Rattle.session_machine.specs.declared.work.Work.{Work}
use Rattle.session_orders.specs.declared.order.OrderBody.{OrderBody}
use Rattle.session_orders.specs.declared.order.OrderBody.TheVariants as orders
use Rattle.session_orders.specs.declared.outcome.Tag.TheVariants as tags
use Rattle.session_orders.specs.declared.outcome.Outcome.{Outcome}
use Rattle.session_orders.specs.declared.outcome.Outcome.TheVariants as outcomes
use Rattle.session_machine.specs.declared.status.Status.{Status}
use Rattle.session_machine.specs.declared.status.Status.TheVariants.{Idle, InBlock, Failed}
use Rattle.session_machine.specs.declared.machine.GatePhase.{GatePhase}
use Rattle.session_machine.specs.declared.machine.GatePhase.TheVariants.{Out, InSnapshot, Live, InCommit}
use Rattle.session_machine.specs.declared.machine.Heard.{Heard}
use Rattle.session_machine.specs.declared.machine.Ending.{Ending}
use Rattle.session_machine.specs.declared.machine.Ending.TheVariants.{Replies, Leaves}
use Rattle.session_machine.specs.declared.machine.Stage.{Stage}
use Rattle.session_machine.specs.declared.machine.Stage.TheVariants.{Opening, Reading, Running, Locking, Inserting, Committing, Closing, RollingBack}
use Rattle.session_machine.specs.declared.machine.Point.{Point}
use Rattle.session_machine.specs.declared.machine.Point.TheVariants.{Resting, EnterDue, LookDue, PostDue, Waiting, LostDue, SplitDue, ChooseDue, ShowDue, LeaveSnapshotDue, UnwindDue, EnterCommitDue, LeaveCommitDue, FinishDue, ReplyDue, EndDue}
use Rattle.session_machine.specs.declared.machine.Session.{Session}
use Rattle.session_machine.specs.declared.machine.Machine.{Machine}
use Rattle.session_machine.specs.Codes.{moment_out_of_range, counts_spent, no_backend}
use Rattle.session_machine.specs.Answers.{next_of, kept, first_other, goes_on, counts, reader}
use Rattle.session_machine.specs.Classes.{work_in}
use Rattle.session_machine.specs.Rules.{primary, ended, released, begun_at, begun_behind, failing, refused_at, refused, stranded, stranded_in, started_as, rewritten, entering, stated, stated_at, moment_at, block_begun, committing, block_committed, rolled_back, block_rolled_back, settled, leaving, left_in, left_lost, left, ordered, error_of, done_with, refusal_of, ran, opened, locked, closed, decided, split, judged, asked, reading_at, chosen, read, looked, looked_at, ticket_of, counted_read, first_chosen, shown, snapshot_entered, snapshot_left, commit_entered, in_phase, with_view, granted, called, stage_posted, posted, taken, faulted, lost_one, parted, parted_at, detached, after_at}
use Rattle.session_machine.specs.declared.action.SessionEvent.{SessionEvent}
use Rattle.session_machine.specs.declared.action.SessionEvent.TheVariants as events
use Rattle.plain_store.specs.Kept.{IsKept}
use Rattle.one_copy_model.specs.World.{IsRunnableIn, IsOrderable}
use Rattle.world_program.specs.UnderWay.{run_at, run_in}

module _ (tables : List TableDef) where
  -- the statement of a work, of a stage and of a point can be run
  abbrev Runs : Work → Type 0
  Runs work = IsKept tables (Some (requests.Run work.statement))

  abbrev RunsAt : Stage → Type 0
  RunsAt stage = IsKept tables (run_at stage)

  abbrev RunsIn : Point → Type 0
  RunsIn point = IsKept tables (run_in point)

  abbrev Keeps : Machine → Type 0
  Keeps m = RunsIn m.point

  -- a statement that is ordered can be run at its moment
  abbrev pub IsOrdered : Session → SessionEvent → Type 0
  IsOrdered s (events.Ordered order) = IsOrderable tables s order.moment order.body
  IsOrdered s event = Unit {0}

  -- How orders end, and how chains begin.

  ended_keeps : (s : Session) (ending : Ending) → Keeps (ended s ending)
  ended_keeps s (Replies outcome) = tt
  ended_keeps s Leaves = tt

  released_keeps : (s : Session) (phase : GatePhase) (ending : Ending) → Keeps (released s phase ending)
  released_keeps s Out ending = ended_keeps s ending
  released_keeps s InSnapshot ending = tt
  released_keeps s (Live changed tables) ending = tt
  released_keeps s InCommit ending = tt

  begun_at_keeps : (s : Session) (stage : Stage) (b : Option BackendId) → RunsAt stage → Keeps (begun_at s stage b)
  begun_at_keeps s stage None own = own
  begun_at_keeps s stage (Some b) own = own

  begun_behind_keeps : (behind : Bool) (s : Session) (stage : Stage) → RunsAt stage → Keeps (begun_behind behind s stage)
  begun_behind_keeps true s stage own = begun_at_keeps s stage (primary s) own
  begun_behind_keeps false s stage own = own

  refused_at_keeps : (behind : Bool) (s : Session) (phase : GatePhase) (outcome : Outcome) → Keeps (refused_at behind s phase outcome)
  refused_at_keeps behind s Out outcome = tt
  refused_at_keeps behind s InSnapshot outcome = begun_behind_keeps behind (failing s) (RollingBack (Replies outcome)) tt
  refused_at_keeps behind s (Live changed tables) outcome = begun_behind_keeps behind (failing s) (RollingBack (Replies outcome)) tt
  refused_at_keeps behind s InCommit outcome = begun_behind_keeps behind (failing s) (RollingBack (Replies outcome)) tt

  refused_keeps : (behind : Bool) (s : Session) (outcome : Outcome) → Keeps (refused behind s outcome)
  refused_keeps behind s outcome = refused_at_keeps behind s s.gate outcome

  stranded_keeps : (s : Session) → Keeps (stranded s)
  stranded_keeps s = released_keeps (failing s) s.gate (Replies (error_of no_backend))

  stranded_in_keeps : (s : Session) (stage : Stage) → Keeps (stranded_in s stage)
  stranded_in_keeps s (Opening work) = stranded_keeps s
  stranded_in_keeps s (Reading work ticket) = stranded_keeps s
  stranded_in_keeps s (Running work) = stranded_keeps s
  stranded_in_keeps s (Locking work table) = stranded_keeps s
  stranded_in_keeps s (Inserting work sent) = stranded_keeps s
  stranded_in_keeps s Committing = tt
  stranded_in_keeps s Closing = stranded_keeps s
  stranded_in_keeps s (RollingBack ending) = released_keeps s s.gate ending

  started_as_keeps : (s : Session) (work : Work) (class : Class) → Runs work → Keeps (started_as s work class)
  started_as_keeps s work classes.Read own = own
  started_as_keeps s work classes.LockingRead own = own
  started_as_keeps s work (classes.Write verb) own = own
  started_as_keeps s work (classes.SerialInsert table) own = own

  -- Orders.

  entering_keeps : (s : Session) (phase : GatePhase) (work : Work) → Runs work → Keeps (entering s phase work)
  entering_keeps s Out work own = own
  entering_keeps s InSnapshot work own = started_as_keeps s work work.class own
  entering_keeps s (Live changed tables) work own = started_as_keeps s work work.class own
  entering_keeps s InCommit work own = started_as_keeps s work work.class own

  stated_keeps : (s : Session) (moment : ℤ) (made : Option Work) → IsRunnableIn tables made → Keeps (stated s moment made)
  stated_keeps s moment None own = refused_keeps false s (error_of moment_out_of_range)
  stated_keeps s moment (Some work) own = entering_keeps (record s { moment = moment }) s.gate work own

  stated_at_keeps : (s : Session) (moment : ℤ) (work : Work) → IsRunnableIn tables (rewritten moment work) → Keeps (stated_at s moment work)
  unfolding stated_at
  stated_at_keeps s moment work own = stated_keeps s moment (rewritten moment work) own

  block_begun_keeps : (s : Session) (moment : ℤ) (status : Status) → Keeps (block_begun s moment status)
  unfolding block_begun
  block_begun_keeps s moment Idle = tt
  block_begun_keeps s moment InBlock = tt
  block_begun_keeps s moment Failed = tt

  committing_keeps : (s : Session) (phase : GatePhase) (outcome : Outcome) → Keeps (committing s phase outcome)
  committing_keeps s Out outcome = tt
  committing_keeps s InSnapshot outcome = tt
  committing_keeps s (Live true tables) outcome = tt
  committing_keeps s (Live false tables) outcome = tt
  committing_keeps s InCommit outcome = tt

  block_committed_keeps : (s : Session) (status : Status) → Keeps (block_committed s status)
  unfolding block_committed
  block_committed_keeps s Idle = tt
  block_committed_keeps s InBlock = committing_keeps s s.gate (done_with tags.Commit)
  block_committed_keeps s Failed = tt

  rolled_back_keeps : (s : Session) (phase : GatePhase) → Keeps (rolled_back s phase)
  rolled_back_keeps s Out = tt
  rolled_back_keeps s InSnapshot = tt
  rolled_back_keeps s (Live changed tables) = tt
  rolled_back_keeps s InCommit = tt

  block_rolled_back_keeps : (s : Session) (status : Status) → Keeps (block_rolled_back s status)
  unfolding block_rolled_back
  block_rolled_back_keeps s Idle = tt
  block_rolled_back_keeps s InBlock = rolled_back_keeps s s.gate
  block_rolled_back_keeps s Failed = tt

  settled_keeps : (s : Session) (status : Status) → Keeps (settled s status)
  unfolding settled
  settled_keeps s Idle = committing_keeps s s.gate outcomes.Settled
  settled_keeps s InBlock = tt
  settled_keeps s Failed = tt

  leaving_keeps : (s : Session) (phase : GatePhase) → Keeps (leaving s phase)
  leaving_keeps s Out = tt
  leaving_keeps s InSnapshot = tt
  leaving_keeps s (Live changed tables) = tt
  leaving_keeps s InCommit = tt

  left_in_keeps : (s : Session) (stage : Stage) → Keeps (left_in s stage)
  left_in_keeps s (Opening work) = leaving_keeps s s.gate
  left_in_keeps s (Reading work ticket) = leaving_keeps s s.gate
  left_in_keeps s (Running work) = leaving_keeps s s.gate
  left_in_keeps s (Locking work table) = leaving_keeps s s.gate
  left_in_keeps s (Inserting work sent) = leaving_keeps s s.gate
  left_in_keeps s Committing = leaving_keeps s s.gate
  left_in_keeps s Closing = leaving_keeps s s.gate
  left_in_keeps s (RollingBack ending) = tt

  left_lost_keeps : (s : Session) (stage : Stage) (b : BackendId) (x y : ℕ) → Keeps (left_lost s stage b x y)
  left_lost_keeps s (Opening work) b x y = tt
  left_lost_keeps s (Reading work ticket) b x y = tt
  left_lost_keeps s (Running work) b x y = tt
  left_lost_keeps s (Locking work table) b x y = tt
  left_lost_keeps s (Inserting work sent) b x y = tt
  left_lost_keeps s Committing b x y = tt
  left_lost_keeps s Closing b x y = tt
  left_lost_keeps s (RollingBack ending) b x y = tt

  left_keeps : (s : Session) (p : Point) → Keeps (left s p)
  unfolding left
  left_keeps s Resting = leaving_keeps s s.gate
  left_keeps s (EnterDue work) = leaving_keeps s s.gate
  left_keeps s (LookDue stage) = left_in_keeps s stage
  left_keeps s (PostDue stage b) = left_in_keeps s stage
  left_keeps s (Waiting stage b) = left_in_keeps s stage
  left_keeps s (LostDue stage b before later) = left_lost_keeps s stage b before later
  left_keeps s (SplitDue stage best own among more) = left_in_keeps s stage
  left_keeps s (ChooseDue work) = leaving_keeps s s.gate
  left_keeps s ShowDue = leaving_keeps s s.gate
  left_keeps s (LeaveSnapshotDue work) = leaving_keeps s s.gate
  left_keeps s (UnwindDue ending) = tt
  left_keeps s EnterCommitDue = leaving_keeps s s.gate
  left_keeps s (LeaveCommitDue ending) = tt
  left_keeps s (FinishDue ending) = tt
  left_keeps s (ReplyDue outcome) = leaving_keeps s s.gate
  left_keeps s EndDue = leaving_keeps s s.gate

  ordered_keeps : (s : Session) (p : Point) (moment : ℤ) (body : OrderBody) → IsOrderable tables s moment body → Keeps (ordered s p moment body)
  unfolding ordered
  ordered_keeps s p moment (orders.Statement checked) own = stated_at_keeps s (moment_at s.status s.gate s.moment moment) (work_in checked) own
  ordered_keeps s p moment orders.Begin own = block_begun_keeps s moment s.status
  ordered_keeps s p moment orders.Commit own = block_committed_keeps s s.status
  ordered_keeps s p moment orders.Rollback own = block_rolled_back_keeps s s.status
  ordered_keeps s p moment orders.Settle own = settled_keeps s s.status
  ordered_keeps s p moment orders.ShowNodes own = tt
  ordered_keeps s p moment (orders.Recover b) own = tt
  ordered_keeps s p moment (orders.Refuse code name) own = refused_keeps false s (outcomes.Error code name)
  ordered_keeps s p moment orders.Leave own = left_keeps s p

  -- Where a chain's end leads.

  ran_keeps : (behind : Bool) (s : Session) (work : Work) (answer : Answer) → Keeps (ran behind s work answer)
  ran_keeps behind s work (answers.Refused code) = refused_keeps behind s (error_of code)
  ran_keeps behind s work (answers.Rows rows) = tt
  ran_keeps behind s work (answers.Count n) = tt
  ran_keeps behind s work answers.Began = tt
  ran_keeps behind s work answers.Locked = tt
  ran_keeps behind s work answers.Done = tt
  ran_keeps behind s work (answers.Serial n) = tt

  opened_keeps : (behind : Bool) (s : Session) (work : Work) (refusal : Option Code) → Runs work → Keeps (opened behind s work refusal)
  opened_keeps behind s work None own = own
  opened_keeps behind s work (Some code) own = refused_keeps behind s (error_of code)

  locked_keeps : (behind : Bool) (s : Session) (work : Work) (refusal : Option Code) → Runs work → Keeps (locked behind s work refusal)
  locked_keeps behind s work None own = begun_behind_keeps behind s (Inserting work false) own
  locked_keeps behind s work (Some code) own = refused_keeps behind s (error_of code)

  closed_keeps : (behind : Bool) (s : Session) (stage : Stage) (answer : Answer) → RunsAt stage → Keeps (closed behind s stage answer)
  closed_keeps behind s (Opening work) answer own = opened_keeps behind s work (refusal_of answer) own
  closed_keeps behind s (Reading work ticket) answer own = ran_keeps behind s work answer
  closed_keeps behind s (Running work) answer own = ran_keeps behind s work answer
  closed_keeps behind s (Locking work table) answer own = locked_keeps behind s work (refusal_of answer) own
  closed_keeps behind s (Inserting work sent) answer own = ran_keeps behind s work answer
  closed_keeps behind s Committing answer own = tt
  closed_keeps behind s Closing answer own = tt
  closed_keeps behind s (RollingBack ending) answer own = released_keeps s s.gate ending

  decided_keeps : (behind : Bool) (s : Session) (stage : Stage) (answer : Answer) (more : Bool) → RunsAt stage → Keeps (decided behind s stage answer more)
  decided_keeps behind s stage answer true own = own
  decided_keeps behind s stage answer false own = closed_keeps behind s stage answer own

  split_keeps : (behind : Bool) (s : Session) (stage : Stage) (best : Heard) (among : BackendSet) (more : Bool) (other : Option Heard) → RunsAt stage
      → Keeps (split behind s stage best among more other)
  split_keeps behind s stage best among more None own = decided_keeps behind s stage best.answer more own
  split_keeps behind s stage best among more (Some other) own = own

  judged_keeps : (s : Session) (stage : Stage) (best : Option Heard) → RunsAt stage → Keeps (judged s stage best)
  judged_keeps s stage None own = own
  judged_keeps s stage (Some best) own =
      split_keeps true s stage best s.view.attached (goes_on s.view.attached.bits s.heard best.answer) (first_other s.view.attached.bits best.answer 0 s.heard) own

  asked_keeps : (s : Session) (stage : Stage) (next : Option BackendId) → RunsAt stage → Keeps (asked s stage next)
  unfolding asked
  asked_keeps s stage None own = judged_keeps s stage (kept s.view.attached.bits s.heard) own
  asked_keeps s stage (Some b) own = own

  reading_at_keeps : (s : Session) (work : Work) (ticket : ℕ) (b : Option BackendId) → Runs work → Keeps (reading_at s work ticket b)
  reading_at_keeps s work ticket None own = stranded_keeps s
  reading_at_keeps s work ticket (Some b) own = own

  chosen_keeps : (s : Session) (work : Work) (ticket : ℕ) → Runs work → Keeps (chosen s work ticket)
  chosen_keeps s work ticket own = reading_at_keeps s work ticket (reader s.policy s.view.attached.bits ticket) own

  read_at_keeps : (s : Session) (work : Work) (ticket : ℕ) (h : Heard) (t : Bool) → Runs work → Keeps (if t then closed true s (Reading work ticket) h.answer else chosen s work ticket)
  read_at_keeps s work ticket h true own = closed_keeps true s (Reading work ticket) h.answer own
  read_at_keeps s work ticket h false own = chosen_keeps s work ticket own

  read_keeps : (s : Session) (work : Work) (ticket : ℕ) (heard : List Heard) → Runs work → Keeps (read s work ticket heard)
  read_keeps s work ticket [] own = chosen_keeps s work ticket own
  read_keeps s work ticket (h ∷ hs) own = read_at_keeps s work ticket h (counts s.view.attached.bits h) own

  looked_keeps : (s : Session) (stage : Stage) → RunsAt stage → Keeps (looked s stage)
  looked_keeps s (Reading work ticket) own = read_keeps s work ticket s.heard own
  looked_keeps s (Opening work) own = asked_keeps s (Opening work) (next_of All s.view.attached.bits s.heard) own
  looked_keeps s (Running work) own = asked_keeps s (Running work) (next_of StopAtRefusal s.view.attached.bits s.heard) own
  looked_keeps s (Locking work table) own = asked_keeps s (Locking work table) (next_of StopAtRefusal s.view.attached.bits s.heard) own
  looked_keeps s (Inserting work sent) own = asked_keeps s (Inserting work sent) (next_of All s.view.attached.bits s.heard) own
  looked_keeps s Committing own = asked_keeps s Committing (next_of All s.view.attached.bits s.heard) own
  looked_keeps s Closing own = asked_keeps s Closing (next_of All s.view.attached.bits s.heard) own
  looked_keeps s (RollingBack ending) own = asked_keeps s (RollingBack ending) (next_of All s.view.attached.bits s.heard) own

  looked_at_keeps : (s : Session) (stage : Stage) (b : Option BackendId) → RunsAt stage → Keeps (looked_at s stage b)
  looked_at_keeps s stage None own = stranded_in_keeps s stage
  looked_at_keeps s stage (Some b) own = looked_keeps s stage own

  -- The gate's answers.

  first_chosen_keeps : (s : Session) (work : Work) (b : Option BackendId) → Runs work → Keeps (first_chosen s work b)
  first_chosen_keeps s work None own = stranded_keeps s
  first_chosen_keeps s work (Some b) own = chosen_keeps (counted_read s) work (ticket_of s s.policy.per_statement) own

  shown_keeps : (s : Session) (b : Option BackendId) → Keeps (shown s b)
  shown_keeps s None = stranded_keeps s
  shown_keeps s (Some b) = tt

  snapshot_entered_keeps : (s : Session) (work : Work) (b : Option BackendId) → Runs work → Keeps (snapshot_entered s work b)
  snapshot_entered_keeps s work None own = stranded_keeps s
  snapshot_entered_keeps s work (Some b) own = own

  snapshot_left_keeps : (s : Session) (work : Work) (b : Option BackendId) → Runs work → Keeps (snapshot_left s work b)
  snapshot_left_keeps s work None own = stranded_keeps s
  snapshot_left_keeps s work (Some b) own = started_as_keeps s work work.class own

  commit_entered_keeps : (s : Session) (b : Option BackendId) → Keeps (commit_entered s b)
  commit_entered_keeps s None = tt
  commit_entered_keeps s (Some b) = tt

  granted_keeps : (s : Session) (p : Point) → RunsIn p → Keeps (granted s p)
  unfolding granted
  granted_keeps s (EnterDue work) own = snapshot_entered_keeps (in_phase s InSnapshot) work (primary s) own
  granted_keeps s (LookDue stage) own = looked_at_keeps s stage (primary s) own
  granted_keeps s (ChooseDue work) own = first_chosen_keeps s work (primary s) own
  granted_keeps s ShowDue own = shown_keeps s (primary s)
  granted_keeps s (LeaveSnapshotDue work) own = snapshot_left_keeps (in_phase s (Live false 0)) work (primary s) own
  granted_keeps s (UnwindDue ending) own = tt
  granted_keeps s EnterCommitDue own = commit_entered_keeps (in_phase s InCommit) (primary s)
  granted_keeps s (LeaveCommitDue ending) own = ended_keeps (in_phase s Out) ending
  granted_keeps s (FinishDue ending) own = ended_keeps (in_phase s Out) ending
  granted_keeps s Resting own = tt
  granted_keeps s (PostDue stage b) own = own
  granted_keeps s (Waiting stage b) own = own
  granted_keeps s (LostDue stage b before later) own = own
  granted_keeps s (SplitDue stage best other among more) own = own
  granted_keeps s (ReplyDue outcome) own = tt
  granted_keeps s EndDue own = tt

  called_keeps : (s : Session) (p : Point) (answer : GateAnswer) → RunsIn p → Keeps (called s p answer)
  unfolding called
  called_keeps s p (Seen view) own = granted_keeps (with_view s view) p own
  called_keeps s p (Granted view) own = granted_keeps (with_view s view) p own
  called_keeps s p (Held count) own = own
  called_keeps s p Spent own = refused_keeps false s (error_of counts_spent)

  lost_one_keeps : (s : Session) (stage : Stage) (b : Option BackendId) → RunsAt stage → Keeps (lost_one s stage b)
  lost_one_keeps s stage None own = stranded_in_keeps s stage
  lost_one_keeps s stage (Some b) own = own

  parted_keeps : (s : Session) (stage : Stage) (best other : Heard) (among : BackendSet) (more : Bool) (b : Option BackendId) → RunsAt stage
      → Keeps (parted s stage best other among more b)
  parted_keeps s stage best other among more None own = stranded_in_keeps s stage
  parted_keeps s stage best other among more (Some b) own =
      split_keeps false s stage best among more (first_other among.bits best.answer (other.b.number + 1) s.heard) own

  parted_at_keeps : (s : Session) (p : Point) → RunsIn p → Keeps (parted_at s p)
  parted_at_keeps s (LostDue stage b before later) own = lost_one_keeps s stage (primary s) own
  parted_at_keeps s (SplitDue stage best other among more) own = parted_keeps s stage best other among more (primary s) own
  parted_at_keeps s (EnterDue work) own = own
  parted_at_keeps s (LookDue stage) own = own
  parted_at_keeps s (ChooseDue work) own = own
  parted_at_keeps s ShowDue own = own
  parted_at_keeps s (LeaveSnapshotDue work) own = own
  parted_at_keeps s (UnwindDue ending) own = own
  parted_at_keeps s EnterCommitDue own = own
  parted_at_keeps s (LeaveCommitDue ending) own = own
  parted_at_keeps s (FinishDue ending) own = own
  parted_at_keeps s Resting own = own
  parted_at_keeps s (PostDue stage b) own = own
  parted_at_keeps s (Waiting stage b) own = own
  parted_at_keeps s (ReplyDue outcome) own = own
  parted_at_keeps s EndDue own = own

  detached_keeps : (s : Session) (p : Point) (answer : GateAnswer) → RunsIn p → Keeps (detached s p answer)
  unfolding detached
  detached_keeps s p (Seen view) own = parted_at_keeps (with_view s view) p own
  detached_keeps s p (Granted view) own = parted_at_keeps (with_view s view) p own
  detached_keeps s p (Held count) own = own
  detached_keeps s p Spent own = own

  -- Posts, answers, losses.

  posted_stage : (stage : Stage) → RunsAt stage → RunsAt (stage_posted stage)
  posted_stage (Opening work) own = own
  posted_stage (Reading work ticket) own = own
  posted_stage (Running work) own = own
  posted_stage (Locking work table) own = own
  posted_stage (Inserting work sent) own = own
  posted_stage Committing own = own
  posted_stage Closing own = own
  posted_stage (RollingBack ending) own = own

  posted_keeps : (s : Session) (p : Point) → RunsIn p → Keeps (posted s p)
  posted_keeps s (PostDue stage b) own = posted_stage stage own
  posted_keeps s Resting own = own
  posted_keeps s (EnterDue work) own = own
  posted_keeps s (LookDue stage) own = own
  posted_keeps s (Waiting stage c) own = own
  posted_keeps s (LostDue stage c x y) own = own
  posted_keeps s (SplitDue stage best other among more) own = own
  posted_keeps s (ChooseDue work) own = own
  posted_keeps s ShowDue own = own
  posted_keeps s (LeaveSnapshotDue work) own = own
  posted_keeps s (UnwindDue ending) own = own
  posted_keeps s EnterCommitDue own = own
  posted_keeps s (LeaveCommitDue ending) own = own
  posted_keeps s (FinishDue ending) own = own
  posted_keeps s (ReplyDue outcome) own = own
  posted_keeps s EndDue own = own

  taken_keeps : (s : Session) (b : BackendId) (answer : Answer) (p : Point) → RunsIn p → Keeps (taken s b answer p)
  taken_keeps s b answer Resting own = own
  taken_keeps s b answer (EnterDue work) own = own
  taken_keeps s b answer (LookDue stage) own = own
  taken_keeps s b answer (PostDue stage c) own = own
  taken_keeps s b answer (Waiting stage c) own = own
  taken_keeps s b answer (LostDue stage c x y) own = own
  taken_keeps s b answer (SplitDue stage best other among more) own = own
  taken_keeps s b answer (ChooseDue work) own = own
  taken_keeps s b answer ShowDue own = own
  taken_keeps s b answer (LeaveSnapshotDue work) own = own
  taken_keeps s b answer (UnwindDue ending) own = own
  taken_keeps s b answer EnterCommitDue own = own
  taken_keeps s b answer (LeaveCommitDue ending) own = own
  taken_keeps s b answer (FinishDue ending) own = own
  taken_keeps s b answer (ReplyDue outcome) own = own
  taken_keeps s b answer EndDue own = own

  faulted_keeps : (s : Session) (before later : ℕ) (p : Point) → RunsIn p → Keeps (faulted s before later p)
  faulted_keeps s before later Resting own = own
  faulted_keeps s before later (EnterDue work) own = own
  faulted_keeps s before later (LookDue stage) own = own
  faulted_keeps s before later (PostDue stage c) own = own
  faulted_keeps s before later (Waiting stage c) own = own
  faulted_keeps s before later (LostDue stage c x y) own = own
  faulted_keeps s before later (SplitDue stage best other among more) own = own
  faulted_keeps s before later (ChooseDue work) own = own
  faulted_keeps s before later ShowDue own = own
  faulted_keeps s before later (LeaveSnapshotDue work) own = own
  faulted_keeps s before later (UnwindDue ending) own = own
  faulted_keeps s before later EnterCommitDue own = own
  faulted_keeps s before later (LeaveCommitDue ending) own = own
  faulted_keeps s before later (FinishDue ending) own = own
  faulted_keeps s before later (ReplyDue outcome) own = own
  faulted_keeps s before later EndDue own = own

  -- Each event that may come.

  pub event_keeps : (s : Session) (p : Point) (event : SessionEvent) → IsOrdered s event → RunsIn p → Keeps (after_at s p event)
  unfolding after_at
  event_keeps s p (events.Ordered order) orders own = ordered_keeps s p order.moment order.body orders
  event_keeps s p (events.Called call answer) orders own = called_keeps s p answer own
  event_keeps s p (events.Posted b request) orders own = posted_keeps s p own
  event_keeps s p (events.Taken b answer) orders own = taken_keeps s b answer p own
  event_keeps s p (events.Faulted b before later) orders own = faulted_keeps s before later p own
  event_keeps s p (events.Detached b cause answer) orders own = detached_keeps s p answer own
  event_keeps s p (events.Swapped b) orders own = own
  event_keeps s p (events.Replied outcome status) orders own = tt
  event_keeps s p events.Ended orders own = tt
