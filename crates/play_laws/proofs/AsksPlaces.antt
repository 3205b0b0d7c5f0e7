-- What a session's machine adds to the single run is for the order that it has under way.
use Rattle.std.proofs.Common.{◌≡◌, ◌+◌, ℕ, ℤ, Bool, true, false, List, refl, subst}
use Rattle.std.specs.Prelude.{Option, Some, None}
use Rattle.pool_base.specs.declared.code.Code.{Code}
use Rattle.pool_base.specs.declared.backend_set.BackendSet.{BackendSet}
use Rattle.pool_base.specs.declared.gate_call.GateCall.{GateCall}
use Rattle.pool_base.specs.declared.gate_call.GateAnswer.{GateAnswer}
use Rattle.pool_base.specs.declared.gate_call.GateAnswer.TheVariants.{Seen, Granted, Held, Spent}
use Rattle.catalogue.specs.declared.checked.Checked.{Checked}
use Rattle.backend_trait.specs.declared.answer.Answer.{Answer}
use Rattle.backend_trait.specs.declared.answer.Answer.TheVariants as answers
use Rattle.session_machine.specs.declared.action.SessionEvent.{SessionEvent}
use Rattle.session_machine.specs.declared.action.SessionEvent.TheVariants as events
use Rattle.session_machine.specs.declared.machine.GatePhase.{GatePhase}
use Rattle.session_machine.specs.declared.machine.GatePhase.TheVariants as phases
use Rattle.session_machine.specs.declared.machine.Heard.{Heard}
use Rattle.session_machine.specs.declared.machine.Point.{Point}
use Rattle.session_machine.specs.declared.machine.Point.TheVariants.{Resting, EnterDue, LookDue, PostDue, Waiting, LostDue, SplitDue, ChooseDue, ShowDue, LeaveSnapshotDue, UnwindDue, EnterCommitDue, LeaveCommitDue, FinishDue, ReplyDue, EndDue}
use Rattle.session_machine.specs.declared.machine.Session.{Session}
use Rattle.session_machine.specs.declared.machine.Stage.{Stage}
use Rattle.session_machine.specs.declared.machine.Stage.TheVariants.{Opening, Reading, Running, Locking, Inserting, Committing, Closing, RollingBack}
use Rattle.session_machine.specs.declared.status.Status.{Status}
use Rattle.session_machine.specs.declared.status.Status.TheVariants.{Idle, InBlock, Failed}
use Rattle.session_machine.specs.declared.work.Class.{Class}
use Rattle.session_machine.specs.declared.work.Class.TheVariants as classes
use Rattle.session_machine.specs.declared.work.Work.{Work}
use Rattle.session_machine.specs.Classes.{work_in}
use Rattle.session_machine.specs.Answers.{first_other, lowest}
use Rattle.session_machine.specs.Rules.{moment_at, primary, rewritten, with_view}
use Rattle.session_orders.specs.declared.order.OrderBody.{OrderBody}
use Rattle.session_orders.specs.declared.order.OrderBody.TheVariants as orders
use Rattle.one_copy_model.specs.declared.deed.Deed.{Deed}
use Rattle.one_copy_model.specs.Places.{closing_look, closing_split, asks_as, asks_of, commits, decided_run, decided_lock, decided_opening, decided_by, where_decided, at_commit, at_block_commit, at_settle, at_rollback, at_statement, at_order, at_granted, at_call, at_parted, at_detach, place_of, opening_granted, opening_of, where_refused, refused_look, refused_parted, refused_detach, refused_opening}
use Rattle.one_copy_model.specs.Deaths.{code_of_lowest, death_of, death_in, stage_at}
use Rattle.one_copy_model.specs.Orders.{IsStatement, OrderIn, OrderAt, Commits}
use Rattle.one_copy_model.specs.Tracking.{Told}
use Rattle.one_copy_model.specs.World.{World}
use Rattle.play_laws.specs.Asked.{Writes, AsksFor, AreFor}

-- the stage of a chain has the order of its point
pub order_in : (session : Session) (point : Point) (told : Told) (stage : Stage) → OrderAt session point told → stage_at point ≡ Some stage → OrderIn session stage told
order_in session Resting told stage h e = absurd (cc)
order_in session (EnterDue work) told stage h e = absurd (cc)
order_in session (LookDue own) told stage h e = subst (λ (x : Stage). OrderIn session x told) (let z : own ≡ stage = cc in z) h
order_in session (PostDue own b) told stage h e = subst (λ (x : Stage). OrderIn session x told) (let z : own ≡ stage = cc in z) h
order_in session (Waiting own b) told stage h e = subst (λ (x : Stage). OrderIn session x told) (let z : own ≡ stage = cc in z) h
order_in session (LostDue own b before more) told stage h e = subst (λ (x : Stage). OrderIn session x told) (let z : own ≡ stage = cc in z) h
order_in session (SplitDue own best other among more) told stage h e = subst (λ (x : Stage). OrderIn session x told) (let z : own ≡ stage = cc in z) h
order_in session (ChooseDue work) told stage h e = absurd (cc)
order_in session ShowDue told stage h e = absurd (cc)
order_in session (LeaveSnapshotDue work) told stage h e = absurd (cc)
order_in session (UnwindDue ending) told stage h e = absurd (cc)
order_in session EnterCommitDue told stage h e = absurd (cc)
order_in session (LeaveCommitDue ending) told stage h e = absurd (cc)
order_in session (FinishDue ending) told stage h e = absurd (cc)
order_in session (ReplyDue outcome) told stage h e = absurd (cc)
order_in session EndDue told stage h e = absurd (cc)

-- no order comes
abbrev pub IsNoOrder : SessionEvent → Type 0
IsNoOrder (events.Ordered order) = ⊥
IsNoOrder event = Unit {0}

-- A statement, as it is written.

module _ (body : OrderBody) (status : Status) (moment : ℤ) where
  asks_class : (work : Work) (class : Class) → Writes body moment work → work.class ≡ class → AsksFor body status moment (asks_as work.statement class)
  asks_class work classes.Read h e = (work, h, refl)
  asks_class work classes.LockingRead h e = (work, h, refl)
  asks_class work (classes.Write verb) h e = (work, h, refl)
  asks_class work (classes.SerialInsert table) h e = (work, h, e)

  pub asks_work : (work : Work) → Writes body moment work → AsksFor body status moment (asks_of work)
  asks_work work h = asks_class work work.class h refl

module _ (session : Session) (told : Told) where
  abbrev For : List Deed → Type 0
  For deeds = AreFor told.order.body told.status told.moment deeds

  writes : (work : Work) → IsStatement session told work → Writes told.order.body told.moment work
  writes work h = record { checked = h.checked; is = h.body; written = h.written }

  -- where a chain is decided

  run_for : (answer : Answer) → For (decided_run answer)
  run_for answers.Began = (tt, tt)
  run_for (answers.Rows rows) = (tt, tt)
  run_for (answers.Count n) = (tt, tt)
  run_for answers.Locked = (tt, tt)
  run_for answers.Done = (tt, tt)
  run_for (answers.Serial n) = (tt, tt)
  run_for (answers.Refused code) = (tt, tt)

  lock_for : (answer : Answer) → For (decided_lock answer)
  lock_for answers.Began = tt
  lock_for (answers.Rows rows) = tt
  lock_for (answers.Count n) = tt
  lock_for answers.Locked = tt
  lock_for answers.Done = tt
  lock_for (answers.Serial n) = tt
  lock_for (answers.Refused code) = (tt, tt)

  opening_for : (work : Work) → IsStatement session told work → (answer : Answer) → For (decided_opening answer)
  opening_for work h answers.Began = tt
  opening_for work h (answers.Rows rows) = tt
  opening_for work h (answers.Count n) = tt
  opening_for work h answers.Locked = tt
  opening_for work h answers.Done = tt
  opening_for work h (answers.Serial n) = tt
  opening_for work h (answers.Refused code) = ((work, writes work h), (tt, tt))

  decided_for : (stage : Stage) → OrderIn session stage told → (answer : Answer) → For (decided_by stage answer)
  decided_for (Opening work) h answer = tt
  decided_for (Reading work ticket) h answer = run_for answer
  decided_for (Running work) h answer = run_for answer
  decided_for (Locking work table) h answer = lock_for answer
  decided_for (Inserting work posted) h answer = (tt, ((work, writes work h, refl), run_for answer))
  decided_for Committing h answer = tt
  decided_for Closing h answer = tt
  decided_for (RollingBack ending) h answer = tt

  where_for : (stage : Stage) → OrderIn session stage told → (answer : Option Answer) → For (where_decided stage answer)
  where_for stage h None = tt
  where_for stage h (Some answer) = decided_for stage h answer

  granted_for : (seen : Session) (point : Point) → OrderAt session point told → For (at_granted seen point)
  granted_for seen (LookDue stage) h = where_for stage h (closing_look seen stage (primary seen))
  granted_for seen (LeaveSnapshotDue work) h = tt
  granted_for seen EnterCommitDue h = (h.body, (tt, tt))
  granted_for seen Resting h = tt
  granted_for seen (EnterDue work) h = tt
  granted_for seen (PostDue stage b) h = tt
  granted_for seen (Waiting stage b) h = tt
  granted_for seen (LostDue stage b before more) h = tt
  granted_for seen (SplitDue stage best own among more) h = tt
  granted_for seen (ChooseDue work) h = tt
  granted_for seen ShowDue h = tt
  granted_for seen (UnwindDue ending) h = tt
  granted_for seen (LeaveCommitDue ending) h = tt
  granted_for seen (FinishDue ending) h = tt
  granted_for seen (ReplyDue outcome) h = tt
  granted_for seen EndDue h = tt

  call_for : (point : Point) → OrderAt session point told → (answer : GateAnswer) → For (at_call session point answer)
  call_for point h (Seen view) = granted_for (with_view session view) point h
  call_for point h (Granted view) = granted_for (with_view session view) point h
  call_for point h (Held count) = tt
  call_for point h Spent = (tt, (tt, tt))

  parted_for : (seen : Session) (point : Point) → OrderAt session point told → For (at_parted seen point)
  parted_for seen (SplitDue stage best own among more) h =
      where_for stage h (closing_split seen best (first_other among.bits best.answer (own.b.number + 1) seen.heard) more (primary seen))
  parted_for seen Resting h = tt
  parted_for seen (EnterDue work) h = tt
  parted_for seen (LookDue stage) h = tt
  parted_for seen (PostDue stage b) h = tt
  parted_for seen (Waiting stage b) h = tt
  parted_for seen (LostDue stage b before more) h = tt
  parted_for seen (ChooseDue work) h = tt
  parted_for seen ShowDue h = tt
  parted_for seen (LeaveSnapshotDue work) h = tt
  parted_for seen (UnwindDue ending) h = tt
  parted_for seen EnterCommitDue h = tt
  parted_for seen (LeaveCommitDue ending) h = tt
  parted_for seen (FinishDue ending) h = tt
  parted_for seen (ReplyDue outcome) h = tt
  parted_for seen EndDue h = tt

  detach_for : (point : Point) → OrderAt session point told → (answer : GateAnswer) → For (at_detach session point answer)
  detach_for point h (Seen view) = parted_for (with_view session view) point h
  detach_for point h (Granted view) = parted_for (with_view session view) point h
  detach_for point h (Held count) = tt
  detach_for point h Spent = tt

  -- an event

  pub place_for : (point : Point) (event : SessionEvent) → IsNoOrder event → OrderAt session point told → For (place_of session point event)
  place_for point (events.Ordered order) plain h = absurd plain
  place_for point (events.Called call answer) plain h = call_for point h answer
  place_for point (events.Posted b request) plain h = tt
  place_for point (events.Taken b answer) plain h = tt
  place_for point (events.Faulted b before more) plain h = tt
  place_for point (events.Detached b cause answer) plain h = detach_for point h answer
  place_for point (events.Swapped b) plain h = tt
  place_for point (events.Replied outcome status) plain h = tt
  place_for point events.Ended plain h = tt

  open_for : (point : Point) → OrderAt session point told → For (opening_granted point)
  open_for (LeaveSnapshotDue work) h = ((work, writes work h), (tt, (asks_work told.order.body told.status told.moment work (writes work h), tt)))
  open_for Resting h = tt
  open_for (EnterDue work) h = tt
  open_for (LookDue stage) h = tt
  open_for (PostDue stage b) h = tt
  open_for (Waiting stage b) h = tt
  open_for (LostDue stage b before more) h = tt
  open_for (SplitDue stage best own among more) h = tt
  open_for (ChooseDue work) h = tt
  open_for ShowDue h = tt
  open_for (UnwindDue ending) h = tt
  open_for EnterCommitDue h = tt
  open_for (LeaveCommitDue ending) h = tt
  open_for (FinishDue ending) h = tt
  open_for (ReplyDue outcome) h = tt
  open_for EndDue h = tt

  open_call : (point : Point) → OrderAt session point told → (call : GateCall) (answer : GateAnswer) → For (opening_of point (events.Called call answer))
  open_call point h call (Seen view) = tt
  open_call point h call (Granted view) = open_for point h
  open_call point h call (Held count) = tt
  open_call point h call Spent = tt

  pub opened_for : (point : Point) (event : SessionEvent) → IsNoOrder event → OrderAt session point told → For (opening_of point event)
  opened_for point (events.Ordered order) plain h = absurd plain
  opened_for point (events.Called call answer) plain h = open_call point h call answer
  opened_for point (events.Posted b request) plain h = tt
  opened_for point (events.Taken b answer) plain h = tt
  opened_for point (events.Faulted b before more) plain h = tt
  opened_for point (events.Detached b cause answer) plain h = tt
  opened_for point (events.Swapped b) plain h = tt
  opened_for point (events.Replied outcome status) plain h = tt
  opened_for point events.Ended plain h = tt

  refuse_for : (work : Work) → IsStatement session told work → (answer : Option Answer) → For (where_refused answer)
  refuse_for work h None = tt
  refuse_for work h (Some answer) = opening_for work h answer

  look_stage : (seen : Session) (stage : Stage) → OrderIn session stage told → For (refused_look seen (LookDue stage))
  look_stage seen (Opening work) h = refuse_for work h (closing_look seen (Opening work) (primary seen))
  look_stage seen (Reading work ticket) h = tt
  look_stage seen (Running work) h = tt
  look_stage seen (Locking work table) h = tt
  look_stage seen (Inserting work posted) h = tt
  look_stage seen Committing h = tt
  look_stage seen Closing h = tt
  look_stage seen (RollingBack ending) h = tt

  look_for : (seen : Session) (point : Point) → OrderAt session point told → For (refused_look seen point)
  look_for seen (LookDue stage) h = look_stage seen stage h
  look_for seen Resting h = tt
  look_for seen (EnterDue work) h = tt
  look_for seen (PostDue stage b) h = tt
  look_for seen (Waiting stage b) h = tt
  look_for seen (LostDue stage b before more) h = tt
  look_for seen (SplitDue stage best own among more) h = tt
  look_for seen (ChooseDue work) h = tt
  look_for seen ShowDue h = tt
  look_for seen (LeaveSnapshotDue work) h = tt
  look_for seen (UnwindDue ending) h = tt
  look_for seen EnterCommitDue h = tt
  look_for seen (LeaveCommitDue ending) h = tt
  look_for seen (FinishDue ending) h = tt
  look_for seen (ReplyDue outcome) h = tt
  look_for seen EndDue h = tt

  split_stage : (seen : Session) (stage : Stage) (best own : Heard) (among : BackendSet) (more : Bool) → OrderIn session stage told → For (refused_parted seen (SplitDue stage best own among more))
  split_stage seen (Opening work) best own among more h =
      refuse_for work h (closing_split seen best (first_other among.bits best.answer (own.b.number + 1) seen.heard) more (primary seen))
  split_stage seen (Reading work ticket) best own among more h = tt
  split_stage seen (Running work) best own among more h = tt
  split_stage seen (Locking work table) best own among more h = tt
  split_stage seen (Inserting work posted) best own among more h = tt
  split_stage seen Committing best own among more h = tt
  split_stage seen Closing best own among more h = tt
  split_stage seen (RollingBack ending) best own among more h = tt

  split_for : (seen : Session) (point : Point) → OrderAt session point told → For (refused_parted seen point)
  split_for seen (SplitDue stage best own among more) h = split_stage seen stage best own among more h
  split_for seen Resting h = tt
  split_for seen (EnterDue work) h = tt
  split_for seen (LookDue stage) h = tt
  split_for seen (PostDue stage b) h = tt
  split_for seen (Waiting stage b) h = tt
  split_for seen (LostDue stage b before more) h = tt
  split_for seen (ChooseDue work) h = tt
  split_for seen ShowDue h = tt
  split_for seen (LeaveSnapshotDue work) h = tt
  split_for seen (UnwindDue ending) h = tt
  split_for seen EnterCommitDue h = tt
  split_for seen (LeaveCommitDue ending) h = tt
  split_for seen (FinishDue ending) h = tt
  split_for seen (ReplyDue outcome) h = tt
  split_for seen EndDue h = tt

  refuse_call : (point : Point) → OrderAt session point told → (call : GateCall) (answer : GateAnswer) → For (refused_opening session point (events.Called call answer))
  refuse_call point h call (Seen view) = look_for (with_view session view) point h
  refuse_call point h call (Granted view) = tt
  refuse_call point h call (Held count) = tt
  refuse_call point h call Spent = tt

  refuse_detach : (point : Point) → OrderAt session point told → (answer : GateAnswer) → For (refused_detach session point answer)
  refuse_detach point h (Seen view) = split_for (with_view session view) point h
  refuse_detach point h (Granted view) = split_for (with_view session view) point h
  refuse_detach point h (Held count) = tt
  refuse_detach point h Spent = tt

  pub refused_for : (point : Point) (event : SessionEvent) → IsNoOrder event → OrderAt session point told → For (refused_opening session point event)
  refused_for point (events.Ordered order) plain h = absurd plain
  refused_for point (events.Called call answer) plain h = refuse_call point h call answer
  refused_for point (events.Posted b request) plain h = tt
  refused_for point (events.Taken b answer) plain h = tt
  refused_for point (events.Faulted b before more) plain h = tt
  refused_for point (events.Detached b cause answer) plain h = refuse_detach point h answer
  refused_for point (events.Swapped b) plain h = tt
  refused_for point (events.Replied outcome status) plain h = tt
  refused_for point events.Ended plain h = tt

  -- deaths

  insert_dies : (work : Work) → IsStatement session told work → (code : Option Code) → For (death_of work code)
  insert_dies work h None = (tt, tt)
  insert_dies work h (Some code) = (tt, ((work, writes work h, refl), (tt, tt)))

  dies_in : (w : World) (o : ℕ) (stage : Stage) → OrderIn session stage told → For (death_in w o (Some stage))
  dies_in w o (Opening work) h = (tt, tt)
  dies_in w o (Reading work ticket) h = (tt, tt)
  dies_in w o (Running work) h = (tt, tt)
  dies_in w o (Locking work table) h = (tt, tt)
  dies_in w o (Inserting work posted) h = insert_dies work h (code_of_lowest w o (lowest w.gate.attached.bits))
  dies_in w o Committing h = (tt, tt)
  dies_in w o Closing h = (tt, tt)
  dies_in w o (RollingBack ending) h = (tt, tt)

  dies_where : (w : World) (o : ℕ) (stage : Option Stage) → ((own : Stage) → stage ≡ Some own → OrderIn session own told) → For (death_in w o stage)
  dies_where w o None h = (tt, tt)
  dies_where w o (Some stage) h = dies_in w o stage (h stage refl)

  pub death_for : (w : World) (o : ℕ) (point : Point) → OrderAt session point told → For (death_in w o (stage_at point))
  death_for w o point h = dies_where w o (stage_at point) (λ own e. order_in session point told own h e)

-- An order that comes.

module _ (session : Session) (moment : ℤ) (body : OrderBody) (status : Status) (is : session.status ≡ status) where
  abbrev at : ℤ
  at = moment_at session.status session.gate session.moment moment

  abbrev Comes : List Deed → Type 0
  Comes deeds = AreFor body status at deeds

  statement_comes : (checked : Checked) → body ≡ orders.Statement checked → (work : Option Work) → rewritten at (work_in checked) ≡ work → Comes (at_statement work)
  statement_comes checked e None written = (tt, (tt, tt))
  statement_comes checked e (Some work) written = (asks_work body status at work (record { checked = checked; is = e; written = written }), tt)

  commits_come : Commits status body → Comes commits
  commits_come h = (h, (tt, tt))

  commit_comes : (phase : GatePhase) → Commits status body → Comes (at_commit phase)
  commit_comes phases.Out h = tt
  commit_comes phases.InSnapshot h = tt
  commit_comes (phases.Live true tables) h = tt
  commit_comes (phases.Live false tables) h = commits_come h
  commit_comes phases.InCommit h = tt

  block_comes : (s : Status) → s ≡ status → body ≡ orders.Commit → Comes (at_block_commit s session.gate)
  block_comes Idle same e = tt
  block_comes InBlock same e = commit_comes session.gate (subst (λ (x : Status). Commits x body) same e)
  block_comes Failed same e = tt

  settle_comes : (s : Status) → s ≡ status → body ≡ orders.Settle → Comes (at_settle s session.gate)
  settle_comes Idle same e = commit_comes session.gate (subst (λ (x : Status). Commits x body) same e)
  settle_comes InBlock same e = tt
  settle_comes Failed same e = tt

  rollback_comes : (s : Status) → Comes (at_rollback s)
  rollback_comes Idle = tt
  rollback_comes InBlock = (tt, (tt, tt))
  rollback_comes Failed = tt

  pub order_comes : (own : OrderBody) → body ≡ own → Comes (at_order session moment own)
  order_comes (orders.Statement checked) e = statement_comes checked e (rewritten at (work_in checked)) refl
  order_comes orders.Begin e = tt
  order_comes orders.Commit e = block_comes session.status is e
  order_comes orders.Rollback e = rollback_comes session.status
  order_comes orders.Settle e = settle_comes session.status is e
  order_comes orders.ShowNodes e = tt
  order_comes (orders.Recover b) e = tt
  order_comes (orders.Refuse code name) e = (tt, (tt, tt))
  order_comes orders.Leave e = (tt, (tt, tt))
