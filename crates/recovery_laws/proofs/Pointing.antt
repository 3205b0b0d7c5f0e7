-- A session is due to post at no backend that its view does not show: so at none that is not attached, where it was due at none there.
use Rattle.std.proofs.Common.{◌≡◌, ◌≢◌, ◌%◌, ℕ, zero, suc, Bool, true, false, List, [], ◌∷◌, refl, sym, ap, subst, ◌∙◌, if◌then◌else◌}
use Rattle.std.specs.Prelude.{ℤ, find, Option, Some, None}
use Rattle.pool_base.specs.Sets.{has}
use Rattle.pool_base.specs.declared.backend_id.BackendId.{BackendId}
use Rattle.pool_base.specs.declared.backend_set.BackendSet.{BackendSet}
use Rattle.pool_base.specs.declared.code.Code.{Code}
use Rattle.pool_base.specs.declared.gate_call.GateAnswer.{GateAnswer}
use Rattle.pool_base.specs.declared.gate_call.GateAnswer.TheVariants.{Seen, Granted, Held, Spent}
use Rattle.backend_trait.specs.declared.request.Request.{Request}
use Rattle.backend_trait.specs.declared.answer.Answer.{Answer}
use Rattle.backend_trait.specs.declared.answer.Answer.TheVariants as answers
use Rattle.session_orders.specs.declared.order.OrderBody.{OrderBody}
use Rattle.session_orders.specs.declared.order.OrderBody.TheVariants as orders
use Rattle.session_orders.specs.declared.outcome.Outcome.{Outcome}
use Rattle.session_machine.specs.declared.work.Work.{Work}
use Rattle.session_machine.specs.declared.work.Class.{Class}
use Rattle.session_machine.specs.declared.work.Class.TheVariants as classes
use Rattle.session_machine.specs.declared.status.Status.{Status}
use Rattle.session_machine.specs.declared.status.Status.TheVariants.{Idle, InBlock, Failed}
use Rattle.session_machine.specs.declared.action.Action.TheVariants as actions
use Rattle.session_machine.specs.declared.action.SessionEvent.{SessionEvent}
use Rattle.session_machine.specs.declared.action.SessionEvent.TheVariants as events
use Rattle.session_machine.specs.declared.machine.ReadPolicy.{ReadPolicy}
use Rattle.write_path.specs.declared.kind.ChainKind.{ChainKind}
use Rattle.write_path.specs.declared.kind.ChainKind.TheVariants.{All, StopAtRefusal}
use Rattle.session_machine.specs.declared.machine.Heard.{Heard}
use Rattle.session_machine.specs.declared.machine.GatePhase.{GatePhase}
use Rattle.session_machine.specs.declared.machine.GatePhase.TheVariants.{Out, InSnapshot, Live, InCommit}
use Rattle.session_machine.specs.declared.machine.Ending.{Ending}
use Rattle.session_machine.specs.declared.machine.Ending.TheVariants.{Replies, Leaves}
use Rattle.session_machine.specs.declared.machine.Session.{Session}
use Rattle.session_machine.specs.declared.machine.Stage.{Stage}
use Rattle.session_machine.specs.declared.machine.Stage.TheVariants.{Opening, Reading, Running, Locking, Inserting, Committing, Closing, RollingBack}
use Rattle.session_machine.specs.declared.machine.Point.{Point}
use Rattle.session_machine.specs.declared.machine.Point.TheVariants.{Resting, EnterDue, LookDue, PostDue, Waiting, LostDue, SplitDue, ChooseDue, ShowDue, LeaveSnapshotDue, UnwindDue, EnterCommitDue, LeaveCommitDue, FinishDue, ReplyDue, EndDue}
use Rattle.session_machine.specs.declared.machine.Machine.{Machine}
use Rattle.session_machine.specs.Answers.{all_backends, lowest, is_attached, is_open, first_open, is_stopped, next_of, kept, is_turn, turn_of, reader_among, reader, counts}
use Rattle.read_balance.specs.Picking.{weight_of_all}
use Rattle.session_machine.specs.Classes.{work_in}
use Rattle.session_machine.specs.Rules as rules
use Rattle.one_copy_model.proofs.Finding.{is_found}
use Rattle.recovery_laws.proofs.Turns.{both_true}

abbrev pub ClearOf : ℕ → Point → Type 0
ClearOf b (PostDue stage k) = k.number ≢ b
ClearOf b point = Unit {0}

pub clear_by : (b : ℕ) (point : Point) → ((stage : Stage) (k : BackendId) → point ≡ PostDue stage k → k.number ≢ b) → ClearOf b point
clear_by b (PostDue stage k) f = f stage k refl
clear_by b point f = tt

pub posts_other : (b : ℕ) (session : Session) (point : Point) (k : BackendId) (request : Request) → rules.action_at session point ≡ actions.Post k request → ClearOf b point → k.number ≢ b
posts_other b session (PostDue stage j) k request e h = subst (λ (i : BackendId). i.number ≢ b) (let same : j ≡ k = cc in same) h
posts_other b session point k request e h = absurd (cc)

other_of : (bits b k : ℕ) → has bits k ≡ true → has bits b ≡ false → k ≢ b
other_of bits b k here gone same = let z : true ≡ false = sym here ∙ ap (has bits) same ∙ gone in cc

module _ (b : ℕ) where
  abbrev Clear : Machine → Type 0
  Clear m = ClearOf b m.point

  abbrev Lacks : Session → Type 0
  Lacks session = has session.view.attached.bits b ≡ false

  -- Who is found is attached.

  abbrev IsOther : Option BackendId → Type 0
  IsOther None = Unit {0}
  IsOther (Some k) = k.number ≢ b

  lowest_other : (bits : ℕ) → has bits b ≡ false → IsOther (lowest bits)
  lowest_other bits gone = by (lowest bits) refl
    where
      by : (o : Option BackendId) → lowest bits ≡ o → IsOther o
      by None e = tt
      by (Some k) e = other_of bits b k.number (is_found (is_attached bits) k e) gone

  open_other : (bits : ℕ) (heard : List Heard) → has bits b ≡ false → IsOther (first_open bits heard)
  open_other bits heard gone = by (first_open bits heard) refl
    where
      by : (o : Option BackendId) → first_open bits heard ≡ o → IsOther o
      by None e = tt
      by (Some k) e = other_of bits b k.number (both_true (has bits k.number) _ (is_found (is_open bits heard) k e)).0 gone

  stopped_other : (stopped : Bool) (bits : ℕ) (heard : List Heard) → has bits b ≡ false → IsOther (if stopped then None else first_open bits heard)
  stopped_other true bits heard gone = tt
  stopped_other false bits heard gone = open_other bits heard gone

  next_other : (kind : ChainKind) (bits : ℕ) (heard : List Heard) → has bits b ≡ false → IsOther (next_of kind bits heard)
  next_other kind bits heard gone = stopped_other (is_stopped kind heard (lowest bits)) bits heard gone

  turn_other : (weights : List ℕ) (bits ticket all : ℕ) (primary : BackendId) → primary.number ≢ b → has bits b ≡ false → IsOther (turn_of weights bits ticket all primary)
  turn_other weights bits ticket zero primary other gone = other
  turn_other weights bits ticket (suc more) primary other gone = by (turn_of weights bits ticket (suc more) primary) refl
    where
      by : (o : Option BackendId) → find (is_turn weights bits (ticket % suc more)) all_backends ≡ o → IsOther o
      by None e = tt
      by (Some k) e = other_of bits b k.number (both_true (has bits k.number) _ (is_found (is_turn weights bits (ticket % suc more)) k e)).0 gone

  balanced_other : (balance : Bool) (weights : List ℕ) (bits ticket : ℕ) (primary : BackendId) → primary.number ≢ b → has bits b ≡ false
      → IsOther (if balance then turn_of weights bits ticket (weight_of_all weights bits) primary else Some primary)
  balanced_other true weights bits ticket primary other gone = turn_other weights bits ticket (weight_of_all weights bits) primary other gone
  balanced_other false weights bits ticket primary other gone = other

  reader_other : (policy : ReadPolicy) (bits ticket : ℕ) → has bits b ≡ false → IsOther (reader policy bits ticket)
  reader_other policy bits ticket gone = by (lowest bits) (lowest_other bits gone)
    where
      by : (o : Option BackendId) → IsOther o → IsOther (reader_among policy bits ticket o)
      by None other = tt
      by (Some primary) other = balanced_other policy.balance policy.weights bits ticket primary other gone

  -- Chains begin.

  begun_clear : (session : Session) (stage : Stage) (o : Option BackendId) → IsOther o → Clear (rules.begun_at session stage o)
  begun_clear session stage None other = tt
  begun_clear session stage (Some k) other = other

  abbrev Behind : Bool → Session → Type 0
  Behind true session = Lacks session
  Behind false session = Unit {0}

  behind_clear : (behind : Bool) (session : Session) (stage : Stage) → Behind behind session → Clear (rules.begun_behind behind session stage)
  behind_clear true session stage lacks = begun_clear session stage (rules.primary session) (lowest_other session.view.attached.bits lacks)
  behind_clear false session stage lacks = tt

  failing_behind : (behind : Bool) (session : Session) → Behind behind session → Behind behind (rules.failing session)
  failing_behind true session lacks = lacks
  failing_behind false session lacks = tt

  ended_clear : (session : Session) (ending : Ending) → Clear (rules.ended session ending)
  ended_clear session (Replies outcome) = tt
  ended_clear session Leaves = tt

  released_clear : (session : Session) (phase : GatePhase) (ending : Ending) → Clear (rules.released session phase ending)
  released_clear session Out ending = ended_clear session ending
  released_clear session InSnapshot ending = tt
  released_clear session (Live changed tables) ending = tt
  released_clear session InCommit ending = tt

  refused_clear : (behind : Bool) (session : Session) (phase : GatePhase) (outcome : Outcome) → Behind behind session → Clear (rules.refused_at behind session phase outcome)
  refused_clear behind session Out outcome lacks = tt
  refused_clear behind session InSnapshot outcome lacks = behind_clear behind (rules.failing session) (RollingBack (Replies outcome)) (failing_behind behind session lacks)
  refused_clear behind session (Live changed tables) outcome lacks = behind_clear behind (rules.failing session) (RollingBack (Replies outcome)) (failing_behind behind session lacks)
  refused_clear behind session InCommit outcome lacks = behind_clear behind (rules.failing session) (RollingBack (Replies outcome)) (failing_behind behind session lacks)

  stranded_clear : (session : Session) → Clear (rules.stranded session)
  stranded_clear session = released_clear (rules.failing session) session.gate _

  stranded_in_clear : (session : Session) (stage : Stage) → Clear (rules.stranded_in session stage)
  stranded_in_clear session Committing = tt
  stranded_in_clear session (RollingBack ending) = released_clear session session.gate ending
  stranded_in_clear session (Opening work) = stranded_clear session
  stranded_in_clear session (Reading work ticket) = stranded_clear session
  stranded_in_clear session (Running work) = stranded_clear session
  stranded_in_clear session (Locking work table) = stranded_clear session
  stranded_in_clear session (Inserting work posted) = stranded_clear session
  stranded_in_clear session Closing = stranded_clear session

  -- Orders.

  started_clear : (session : Session) (work : Work) (class : Class) → Clear (rules.started_as session work class)
  started_clear session work classes.Read = tt
  started_clear session work classes.LockingRead = tt
  started_clear session work (classes.Write verb) = tt
  started_clear session work (classes.SerialInsert table) = tt

  entering_clear : (session : Session) (phase : GatePhase) (work : Work) → Clear (rules.entering session phase work)
  entering_clear session Out work = tt
  entering_clear session InSnapshot work = started_clear session work work.class
  entering_clear session (Live changed tables) work = started_clear session work work.class
  entering_clear session InCommit work = started_clear session work work.class

  stated_clear : (session : Session) (moment : ℤ) (work : Option Work) → Clear (rules.stated session moment work)
  stated_clear session moment None = refused_clear false session session.gate _ tt
  stated_clear session moment (Some work) = entering_clear (record session { moment = moment }) session.gate work

  statement_clear : (session : Session) (moment : ℤ) (work : Work) → Clear (rules.stated_at session moment work)
  unfolding rules.stated_at
  statement_clear session moment work = stated_clear session moment (rules.rewritten moment work)

  begin_clear : (session : Session) (moment : ℤ) (status : Status) → Clear (rules.block_begun session moment status)
  unfolding rules.block_begun
  begin_clear session moment Idle = tt
  begin_clear session moment InBlock = tt
  begin_clear session moment Failed = tt

  committing_clear : (session : Session) (phase : GatePhase) (outcome : Outcome) → Clear (rules.committing session phase outcome)
  committing_clear session Out outcome = tt
  committing_clear session InSnapshot outcome = tt
  committing_clear session (Live true tables) outcome = tt
  committing_clear session (Live false tables) outcome = tt
  committing_clear session InCommit outcome = tt

  commit_clear : (session : Session) (status : Status) → Clear (rules.block_committed session status)
  unfolding rules.block_committed
  commit_clear session Idle = tt
  commit_clear session InBlock = committing_clear session session.gate _
  commit_clear session Failed = tt

  rolled_clear : (session : Session) (phase : GatePhase) → Clear (rules.rolled_back session phase)
  rolled_clear session Out = tt
  rolled_clear session InSnapshot = tt
  rolled_clear session (Live changed tables) = tt
  rolled_clear session InCommit = tt

  rollback_clear : (session : Session) (status : Status) → Clear (rules.block_rolled_back session status)
  unfolding rules.block_rolled_back
  rollback_clear session Idle = tt
  rollback_clear session InBlock = rolled_clear session session.gate
  rollback_clear session Failed = tt

  settle_clear : (session : Session) (status : Status) → Clear (rules.settled session status)
  unfolding rules.settled
  settle_clear session Idle = committing_clear session session.gate _
  settle_clear session InBlock = tt
  settle_clear session Failed = tt

  leaving_clear : (session : Session) (phase : GatePhase) → Clear (rules.leaving session phase)
  leaving_clear session Out = tt
  leaving_clear session InSnapshot = tt
  leaving_clear session (Live changed tables) = tt
  leaving_clear session InCommit = tt

  left_in_clear : (session : Session) (stage : Stage) → Clear (rules.left_in session stage)
  left_in_clear session (RollingBack ending) = tt
  left_in_clear session (Opening work) = leaving_clear session session.gate
  left_in_clear session (Reading work ticket) = leaving_clear session session.gate
  left_in_clear session (Running work) = leaving_clear session session.gate
  left_in_clear session (Locking work table) = leaving_clear session session.gate
  left_in_clear session (Inserting work posted) = leaving_clear session session.gate
  left_in_clear session Committing = leaving_clear session session.gate
  left_in_clear session Closing = leaving_clear session session.gate

  lost_clear : (session : Session) (stage : Stage) (k : BackendId) (before after : ℕ) → Clear (rules.left_lost session stage k before after)
  lost_clear session (Opening work) k before after = tt
  lost_clear session (Reading work ticket) k before after = tt
  lost_clear session (Running work) k before after = tt
  lost_clear session (Locking work table) k before after = tt
  lost_clear session (Inserting work posted) k before after = tt
  lost_clear session Committing k before after = tt
  lost_clear session Closing k before after = tt
  lost_clear session (RollingBack ending) k before after = tt

  left_clear : (session : Session) (point : Point) → Clear (rules.left session point)
  unfolding rules.left
  left_clear session Resting = leaving_clear session session.gate
  left_clear session (EnterDue work) = leaving_clear session session.gate
  left_clear session (LookDue stage) = left_in_clear session stage
  left_clear session (PostDue stage k) = left_in_clear session stage
  left_clear session (Waiting stage k) = left_in_clear session stage
  left_clear session (LostDue stage k before after) = lost_clear session stage k before after
  left_clear session (SplitDue stage best own among more) = left_in_clear session stage
  left_clear session (ChooseDue work) = leaving_clear session session.gate
  left_clear session ShowDue = leaving_clear session session.gate
  left_clear session (LeaveSnapshotDue work) = leaving_clear session session.gate
  left_clear session (UnwindDue ending) = tt
  left_clear session EnterCommitDue = leaving_clear session session.gate
  left_clear session (LeaveCommitDue ending) = tt
  left_clear session (FinishDue ending) = tt
  left_clear session (ReplyDue outcome) = leaving_clear session session.gate
  left_clear session EndDue = leaving_clear session session.gate

  ordered_clear : (session : Session) (point : Point) (moment : ℤ) (body : OrderBody) → Clear (rules.ordered session point moment body)
  unfolding rules.ordered
  ordered_clear session point moment (orders.Statement checked) = statement_clear session _ (work_in checked)
  ordered_clear session point moment orders.Begin = begin_clear session moment session.status
  ordered_clear session point moment orders.Commit = commit_clear session session.status
  ordered_clear session point moment orders.Rollback = rollback_clear session session.status
  ordered_clear session point moment orders.Settle = settle_clear session session.status
  ordered_clear session point moment orders.ShowNodes = tt
  ordered_clear session point moment (orders.Recover number) = tt
  ordered_clear session point moment (orders.Refuse code name) = refused_clear false session session.gate _ tt
  ordered_clear session point moment orders.Leave = left_clear session point

  -- Chains end.

  ran_clear : (behind : Bool) (session : Session) (work : Work) (answer : Answer) → Behind behind session → Clear (rules.ran behind session work answer)
  ran_clear behind session work (answers.Refused code) lacks = refused_clear behind session session.gate _ lacks
  ran_clear behind session work (answers.Rows rows) lacks = tt
  ran_clear behind session work (answers.Count n) lacks = tt
  ran_clear behind session work answers.Began lacks = tt
  ran_clear behind session work answers.Locked lacks = tt
  ran_clear behind session work answers.Done lacks = tt
  ran_clear behind session work (answers.Serial n) lacks = tt

  opened_clear : (behind : Bool) (session : Session) (work : Work) (code : Option Code) → Behind behind session → Clear (rules.opened behind session work code)
  opened_clear behind session work None lacks = tt
  opened_clear behind session work (Some code) lacks = refused_clear behind session session.gate _ lacks

  locked_clear : (behind : Bool) (session : Session) (work : Work) (code : Option Code) → Behind behind session → Clear (rules.locked behind session work code)
  locked_clear behind session work None lacks = behind_clear behind session (Inserting work false) lacks
  locked_clear behind session work (Some code) lacks = refused_clear behind session session.gate _ lacks

  closed_clear : (behind : Bool) (session : Session) (stage : Stage) (answer : Answer) → Behind behind session → Clear (rules.closed behind session stage answer)
  closed_clear behind session (Opening work) answer lacks = opened_clear behind session work (rules.refusal_of answer) lacks
  closed_clear behind session (Reading work ticket) answer lacks = ran_clear behind session work answer lacks
  closed_clear behind session (Running work) answer lacks = ran_clear behind session work answer lacks
  closed_clear behind session (Locking work table) answer lacks = locked_clear behind session work (rules.refusal_of answer) lacks
  closed_clear behind session (Inserting work posted) answer lacks = ran_clear behind session work answer lacks
  closed_clear behind session Committing answer lacks = tt
  closed_clear behind session Closing answer lacks = tt
  closed_clear behind session (RollingBack ending) answer lacks = released_clear session session.gate ending

  decided_clear : (behind : Bool) (session : Session) (stage : Stage) (answer : Answer) (more : Bool) → Behind behind session → Clear (rules.decided behind session stage answer more)
  decided_clear behind session stage answer true lacks = tt
  decided_clear behind session stage answer false lacks = closed_clear behind session stage answer lacks

  split_clear : (behind : Bool) (session : Session) (stage : Stage) (best : Heard) (among : BackendSet) (more : Bool) (own : Option Heard) → Behind behind session
      → Clear (rules.split behind session stage best among more own)
  split_clear behind session stage best among more None lacks = decided_clear behind session stage best.answer more lacks
  split_clear behind session stage best among more (Some own) lacks = tt

  judged_clear : (session : Session) (stage : Stage) (best : Option Heard) → Lacks session → Clear (rules.judged session stage best)
  judged_clear session stage None lacks = tt
  judged_clear session stage (Some best) lacks = split_clear true session stage best session.view.attached _ _ lacks

  asked_clear : (session : Session) (stage : Stage) (o : Option BackendId) → IsOther o → Lacks session → Clear (rules.asked session stage o)
  unfolding rules.asked
  asked_clear session stage (Some k) other lacks = other
  asked_clear session stage None other lacks = judged_clear session stage (kept session.view.attached.bits session.heard) lacks

  -- Looks.

  reading_clear : (session : Session) (work : Work) (ticket : ℕ) (o : Option BackendId) → IsOther o → Clear (rules.reading_at session work ticket o)
  reading_clear session work ticket None other = stranded_clear session
  reading_clear session work ticket (Some k) other = other

  chosen_clear : (session : Session) (work : Work) (ticket : ℕ) → Lacks session → Clear (rules.chosen session work ticket)
  chosen_clear session work ticket lacks =
      reading_clear session work ticket (reader session.policy session.view.attached.bits ticket) (reader_other session.policy session.view.attached.bits ticket lacks)

  counted_clear : (t : Bool) (session : Session) (work : Work) (ticket : ℕ) (answer : Answer) → Lacks session
      → Clear (if t then rules.closed true session (Reading work ticket) answer else rules.chosen session work ticket)
  counted_clear true session work ticket answer lacks = closed_clear true session (Reading work ticket) answer lacks
  counted_clear false session work ticket answer lacks = chosen_clear session work ticket lacks

  read_clear : (session : Session) (work : Work) (ticket : ℕ) (heard : List Heard) → Lacks session → Clear (rules.read session work ticket heard)
  read_clear session work ticket [] lacks = chosen_clear session work ticket lacks
  read_clear session work ticket (h ∷ hs) lacks = counted_clear (counts session.view.attached.bits h) session work ticket h.answer lacks

  next_clear : (kind : ChainKind) (session : Session) (stage : Stage) → Lacks session → Clear (rules.asked session stage (next_of kind session.view.attached.bits session.heard))
  next_clear kind session stage lacks =
      asked_clear session stage (next_of kind session.view.attached.bits session.heard) (next_other kind session.view.attached.bits session.heard lacks) lacks

  looked_clear : (session : Session) (stage : Stage) → Lacks session → Clear (rules.looked session stage)
  looked_clear session (Reading work ticket) lacks = read_clear session work ticket session.heard lacks
  looked_clear session (Opening work) lacks = next_clear All session (Opening work) lacks
  looked_clear session (Running work) lacks = next_clear StopAtRefusal session (Running work) lacks
  looked_clear session (Locking work table) lacks = next_clear StopAtRefusal session (Locking work table) lacks
  looked_clear session (Inserting work posted) lacks = next_clear All session (Inserting work posted) lacks
  looked_clear session Committing lacks = next_clear All session Committing lacks
  looked_clear session Closing lacks = next_clear All session Closing lacks
  looked_clear session (RollingBack ending) lacks = next_clear All session (RollingBack ending) lacks

  looked_at_clear : (session : Session) (stage : Stage) (o : Option BackendId) → Lacks session → Clear (rules.looked_at session stage o)
  looked_at_clear session stage None lacks = stranded_in_clear session stage
  looked_at_clear session stage (Some k) lacks = looked_clear session stage lacks

  first_clear : (session : Session) (work : Work) (o : Option BackendId) → Lacks session → Clear (rules.first_chosen session work o)
  first_clear session work None lacks = stranded_clear session
  first_clear session work (Some k) lacks = chosen_clear (rules.counted_read session) work _ lacks

  shown_clear : (session : Session) (o : Option BackendId) → Clear (rules.shown session o)
  shown_clear session None = stranded_clear session
  shown_clear session (Some k) = tt

  -- The other calls of the gate.

  entered_clear : (session : Session) (work : Work) (o : Option BackendId) → Clear (rules.snapshot_entered session work o)
  entered_clear session work None = stranded_clear session
  entered_clear session work (Some k) = tt

  snapshot_clear : (session : Session) (work : Work) (o : Option BackendId) → Clear (rules.snapshot_left session work o)
  snapshot_clear session work None = stranded_clear session
  snapshot_clear session work (Some k) = started_clear session work work.class

  commit_entered_clear : (session : Session) (o : Option BackendId) → Clear (rules.commit_entered session o)
  commit_entered_clear session None = stranded_in_clear session Committing
  commit_entered_clear session (Some k) = tt

  granted_clear : (session : Session) (point : Point) → Lacks session → ClearOf b point → Clear (rules.granted session point)
  unfolding rules.granted
  granted_clear session (EnterDue work) lacks h = entered_clear (rules.in_phase session InSnapshot) work (rules.primary session)
  granted_clear session (LookDue stage) lacks h = looked_at_clear session stage (rules.primary session) lacks
  granted_clear session (ChooseDue work) lacks h = first_clear session work (rules.primary session) lacks
  granted_clear session ShowDue lacks h = shown_clear session (rules.primary session)
  granted_clear session (LeaveSnapshotDue work) lacks h = snapshot_clear (rules.in_phase session (Live false 0)) work (rules.primary session)
  granted_clear session (UnwindDue ending) lacks h = tt
  granted_clear session EnterCommitDue lacks h = commit_entered_clear (rules.in_phase session InCommit) (rules.primary session)
  granted_clear session (LeaveCommitDue ending) lacks h = ended_clear (rules.in_phase session Out) ending
  granted_clear session (FinishDue ending) lacks h = ended_clear (rules.in_phase session Out) ending
  granted_clear session Resting lacks h = h
  granted_clear session (PostDue stage k) lacks h = h
  granted_clear session (Waiting stage k) lacks h = h
  granted_clear session (LostDue stage k before after) lacks h = h
  granted_clear session (SplitDue stage best own among more) lacks h = h
  granted_clear session (ReplyDue outcome) lacks h = h
  granted_clear session EndDue lacks h = h

  -- the view of an answer does not show it
  abbrev pub LacksIn : GateAnswer → Type 0
  LacksIn (Seen view) = has view.attached.bits b ≡ false
  LacksIn (Granted view) = has view.attached.bits b ≡ false
  LacksIn (Held count) = Unit {0}
  LacksIn Spent = Unit {0}

  called_clear : (session : Session) (point : Point) (answer : GateAnswer) → LacksIn answer → ClearOf b point → Clear (rules.called session point answer)
  unfolding rules.called
  called_clear session point (Seen view) lacks h = granted_clear (rules.with_view session view) point lacks h
  called_clear session point (Granted view) lacks h = granted_clear (rules.with_view session view) point lacks h
  called_clear session point (Held count) lacks h = h
  called_clear session point Spent lacks h = refused_clear false session session.gate _ tt

  -- Posts, answers, losses.

  posted_clear : (session : Session) (point : Point) → ClearOf b point → Clear (rules.posted session point)
  posted_clear session (PostDue stage k) h = tt
  posted_clear session point h = h

  taken_clear : (session : Session) (k : BackendId) (answer : Answer) (point : Point) → ClearOf b point → Clear (rules.taken session k answer point)
  taken_clear session k answer (Waiting stage asked) h = tt
  taken_clear session k answer point h = h

  faulted_clear : (session : Session) (before after : ℕ) (point : Point) → ClearOf b point → Clear (rules.faulted session before after point)
  faulted_clear session before after (Waiting stage k) h = tt
  faulted_clear session before after point h = h

  lost_one_clear : (session : Session) (stage : Stage) (o : Option BackendId) → Clear (rules.lost_one session stage o)
  lost_one_clear session stage None = stranded_in_clear session stage
  lost_one_clear session stage (Some k) = tt

  parted_clear : (session : Session) (stage : Stage) (best own : Heard) (among : BackendSet) (more : Bool) (o : Option BackendId) → Clear (rules.parted session stage best own among more o)
  parted_clear session stage best own among more None = stranded_in_clear session stage
  parted_clear session stage best own among more (Some k) = split_clear false session stage best among more _ tt

  parted_at_clear : (session : Session) (point : Point) → ClearOf b point → Clear (rules.parted_at session point)
  parted_at_clear session (LostDue stage k before after) h = lost_one_clear session stage (rules.primary session)
  parted_at_clear session (SplitDue stage best own among more) h = parted_clear session stage best own among more (rules.primary session)
  parted_at_clear session point h = h

  detached_clear : (session : Session) (point : Point) (answer : GateAnswer) → ClearOf b point → Clear (rules.detached session point answer)
  unfolding rules.detached
  detached_clear session point (Seen view) h = parted_at_clear (rules.with_view session view) point h
  detached_clear session point (Granted view) h = parted_at_clear (rules.with_view session view) point h
  detached_clear session point (Held count) h = h
  detached_clear session point Spent h = h

  -- Every event.

  abbrev pub LacksOf : SessionEvent → Type 0
  LacksOf (events.Called call answer) = LacksIn answer
  LacksOf event = Unit {0}

  pub stays_clear : (m : Machine) (event : SessionEvent) → LacksOf event → ClearOf b m.point → ClearOf b (rules.after m event).point
  unfolding rules.after_at
  stays_clear m (events.Ordered order) lacks h = ordered_clear m.session m.point order.moment order.body
  stays_clear m (events.Called call answer) lacks h = called_clear m.session m.point answer lacks h
  stays_clear m (events.Posted k request) lacks h = posted_clear m.session m.point h
  stays_clear m (events.Taken k answer) lacks h = taken_clear m.session k answer m.point h
  stays_clear m (events.Faulted k before after) lacks h = faulted_clear m.session before after m.point h
  stays_clear m (events.Detached k cause answer) lacks h = detached_clear m.session m.point answer h
  stays_clear m (events.Swapped k) lacks h = h
  stays_clear m (events.Replied outcome status) lacks h = tt
  stays_clear m events.Ended lacks h = tt
