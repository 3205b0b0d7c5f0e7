-- A session posts only at a backend that the gate has just shown, and waits only behind a post.
use Rattle.std.proofs.Common.{◌≡◌, ℕ, zero, suc, Bool, true, false, List, [], ◌∷◌, refl, subst}
use Rattle.std.specs.Prelude.{◌&&◌, ◌+◌, ◌%◌, ℤ, if◌then◌else◌, Option, Some, None}
use Rattle.pool_base.specs.Sets.{has}
use Rattle.pool_base.specs.declared.backend_id.BackendId.{BackendId}
use Rattle.pool_base.specs.declared.backend_set.BackendSet.{BackendSet}
use Rattle.pool_base.specs.declared.code.Code.{Code}
use Rattle.pool_base.specs.declared.gate_call.GateCall.{GateCall}
use Rattle.pool_base.specs.declared.gate_call.GateAnswer.{GateAnswer}
use Rattle.pool_base.specs.declared.gate_call.GateAnswer.TheVariants.{Seen, Granted, Held as IsHeld, Spent}
use Rattle.backend_trait.specs.declared.request.Request.{Request}
use Rattle.backend_trait.specs.declared.answer.Answer.{Answer}
use Rattle.backend_trait.specs.declared.answer.Answer.TheVariants as answers
use Rattle.write_path.specs.declared.kind.ChainKind.{ChainKind}
use Rattle.session_orders.specs.declared.order.OrderBody.{OrderBody}
use Rattle.session_orders.specs.declared.order.OrderBody.TheVariants as orders
use Rattle.session_orders.specs.declared.outcome.Tag.TheVariants as tags
use Rattle.session_orders.specs.declared.outcome.Outcome.{Outcome}
use Rattle.session_orders.specs.declared.outcome.Outcome.TheVariants as outcomes
use Rattle.session_machine.specs.declared.work.Class.{Class}
use Rattle.session_machine.specs.declared.work.Class.TheVariants as classes
use Rattle.session_machine.specs.declared.work.Work.{Work}
use Rattle.session_machine.specs.declared.status.Status.{Status}
use Rattle.session_machine.specs.declared.status.Status.TheVariants.{Idle, InBlock, Failed}
use Rattle.session_machine.specs.declared.action.Cause.{Cause}
use Rattle.session_machine.specs.declared.action.Action.TheVariants as actions
use Rattle.session_machine.specs.declared.action.SessionEvent.{SessionEvent}
use Rattle.session_machine.specs.declared.action.SessionEvent.TheVariants as events
use Rattle.session_machine.specs.declared.machine.ReadPolicy.{ReadPolicy}
use Rattle.session_machine.specs.declared.machine.GatePhase.{GatePhase}
use Rattle.session_machine.specs.declared.machine.GatePhase.TheVariants.{Out, InSnapshot, Live, InCommit}
use Rattle.session_machine.specs.declared.machine.Heard.{Heard}
use Rattle.session_machine.specs.declared.machine.Ending.{Ending}
use Rattle.session_machine.specs.declared.machine.Ending.TheVariants.{Replies, Leaves}
use Rattle.session_machine.specs.declared.machine.Stage.{Stage}
use Rattle.session_machine.specs.declared.machine.Stage.TheVariants.{Opening, Reading, Running, Locking, Inserting, Committing, Closing, RollingBack}
use Rattle.session_machine.specs.declared.machine.Point.{Point}
use Rattle.session_machine.specs.declared.machine.Point.TheVariants.{Resting, EnterDue, LookDue, PostDue, Waiting, LostDue, SplitDue, ChooseDue, ShowDue, LeaveSnapshotDue, UnwindDue, EnterCommitDue, LeaveCommitDue, FinishDue, ReplyDue, EndDue}
use Rattle.session_machine.specs.declared.machine.Session.{Session}
use Rattle.session_machine.specs.declared.machine.Machine.{Machine}
use Rattle.session_machine.specs.Codes.{moment_out_of_range, counts_spent, no_backend}
use Rattle.session_machine.specs.Answers.{lowest, is_attached, is_open, first_open, is_stopped, next_of, kept, first_other, goes_on, is_turn, turn_of, reader_among, reader, counts}
use Rattle.session_machine.specs.Classes.{work_in}
use Rattle.session_machine.specs.Rules.{primary, request_of, kind_of, action_at, error_of, done_with, ended, released, begun_at, begun_behind, refused_at, refused, failing, stranded, stranded_in, started_as, moment_at, rewritten, entering, stated, stated_at, block_begun, committing, block_committed, rolled_back, block_rolled_back, settled, leaving, left_in, left_lost, left, ordered, ran, refusal_of, opened, locked, closed, decided, split, judged, asked, reading_at, chosen, read, looked, looked_at, first_chosen, counted_read, ticket_of, shown, snapshot_entered, snapshot_left, commit_entered, with_view, in_phase, granted, called, posted, taken, faulted, lost_one, parted, parted_at, detached, after_at, after}
use Rattle.session_machine.specs.Allowed.{MayHappen}
use Rattle.one_copy_model.proofs.Finding.{is_found}
use Rattle.recovery_laws.proofs.Freeing.{Shows, ShowsIn}

-- a post that is due is at one of these backends, and nobody is waited for
abbrev pub AimsAt : ℕ → Point → Type 0
AimsAt n (PostDue stage b) = has n b.number ≡ true
AimsAt n (Waiting stage b) = ⊥
AimsAt n point = Unit {0}

abbrev pub Aims : ℕ → Machine → Type 0
Aims n m = AimsAt n m.point

-- behind a Look the session sees them
abbrev Sees : Bool → ℕ → Session → Type 0
Sees behind n session = behind ≡ true → session.view.attached.bits ≡ n

unseen : (n : ℕ) (session : Session) → Sees false n session
unseen n session e = absurd (let z : false ≡ true = e in cc)

left_true : (a b : Bool) → (a && b) ≡ true → a ≡ true
left_true true b e = refl
left_true false b e = absurd (let z : false ≡ true = e in cc)

some_is : (x b : BackendId) → Some x ≡ Some b → x ≡ b
some_is x b e = cc

-- Who is chosen is attached.

primary_in : (n : ℕ) (b : BackendId) → lowest n ≡ Some b → has n b.number ≡ true
primary_in n b e = is_found (is_attached n) b e

open_in : (n : ℕ) (heard : List Heard) (b : BackendId) → first_open n heard ≡ Some b → has n b.number ≡ true
open_in n heard b e = left_true (has n b.number) _ (is_found (is_open n heard) b e)

next_at : (v : Bool) (n : ℕ) (heard : List Heard) (b : BackendId) → (if v then None else first_open n heard) ≡ Some b → has n b.number ≡ true
next_at true n heard b e = absurd (let z : None ≡ Some b = e in cc)
next_at false n heard b e = open_in n heard b e

next_in : (kind : ChainKind) (n : ℕ) (heard : List Heard) (b : BackendId) → next_of kind n heard ≡ Some b → has n b.number ≡ true
next_in kind n heard b e = next_at (is_stopped kind heard (lowest n)) n heard b e

turn_in : (weights : List ℕ) (n ticket total : ℕ) (own b : BackendId) → has n own.number ≡ true → turn_of weights n ticket total own ≡ Some b → has n b.number ≡ true
turn_in weights n ticket zero own b here e = subst (λ (x : BackendId). has n x.number ≡ true) (some_is own b e) here
turn_in weights n ticket (suc more) own b here e = left_true (has n b.number) _ (is_found (is_turn weights n (ticket % suc more)) b e)

reader_at : (v : Bool) (weights : List ℕ) (n ticket total : ℕ) (own b : BackendId) → has n own.number ≡ true
    → (if v then turn_of weights n ticket total own else Some own) ≡ Some b → has n b.number ≡ true
reader_at true weights n ticket total own b here e = turn_in weights n ticket total own b here e
reader_at false weights n ticket total own b here e = subst (λ (x : BackendId). has n x.number ≡ true) (some_is own b e) here

reader_among_in : (policy : ReadPolicy) (n ticket : ℕ) (o : Option BackendId) (b : BackendId) → lowest n ≡ o → reader_among policy n ticket o ≡ Some b → has n b.number ≡ true
reader_among_in policy n ticket None b is e = absurd (let z : None ≡ Some b = e in cc)
reader_among_in policy n ticket (Some own) b is e =
    reader_at policy.balance policy.weights n ticket _ own b (primary_in n own is) e

reader_in : (policy : ReadPolicy) (n ticket : ℕ) (b : BackendId) → reader policy n ticket ≡ Some b → has n b.number ≡ true
reader_in policy n ticket b e = reader_among_in policy n ticket (lowest n) b refl e

-- Beginnings and ends.

begun_at_aims : (n : ℕ) (session : Session) (stage : Stage) (o : Option BackendId) → primary session ≡ o → session.view.attached.bits ≡ n → Aims n (begun_at session stage o)
begun_at_aims n session stage None is sees = tt
begun_at_aims n session stage (Some b) is sees = subst (λ k. has k b.number ≡ true) sees (primary_in session.view.attached.bits b is)

behind_aims : (behind : Bool) (n : ℕ) (session : Session) (stage : Stage) → Sees behind n session → Aims n (begun_behind behind session stage)
behind_aims true n session stage sees = begun_at_aims n session stage (primary session) refl (sees refl)
behind_aims false n session stage sees = tt

refused_at_aims : (behind : Bool) (n : ℕ) (session : Session) (phase : GatePhase) (outcome : Outcome) → Sees behind n session → Aims n (refused_at behind session phase outcome)
refused_at_aims behind n session Out outcome sees = tt
refused_at_aims behind n session InSnapshot outcome sees = behind_aims behind n (failing session) (RollingBack (Replies outcome)) sees
refused_at_aims behind n session (Live changed tables) outcome sees = behind_aims behind n (failing session) (RollingBack (Replies outcome)) sees
refused_at_aims behind n session InCommit outcome sees = behind_aims behind n (failing session) (RollingBack (Replies outcome)) sees

refused_aims : (behind : Bool) (n : ℕ) (session : Session) (outcome : Outcome) → Sees behind n session → Aims n (refused behind session outcome)
refused_aims behind n session outcome sees = refused_at_aims behind n session session.gate outcome sees

ended_aims : (n : ℕ) (session : Session) (ending : Ending) → Aims n (ended session ending)
ended_aims n session (Replies outcome) = tt
ended_aims n session Leaves = tt

released_aims : (n : ℕ) (session : Session) (phase : GatePhase) (ending : Ending) → Aims n (released session phase ending)
released_aims n session Out ending = ended_aims n session ending
released_aims n session InSnapshot ending = tt
released_aims n session (Live changed tables) ending = tt
released_aims n session InCommit ending = tt

stranded_aims : (n : ℕ) (session : Session) → Aims n (stranded session)
stranded_aims n session = released_aims n (failing session) session.gate (Replies (error_of no_backend))

stranded_in_aims : (n : ℕ) (session : Session) (stage : Stage) → Aims n (stranded_in session stage)
stranded_in_aims n session (Opening work) = stranded_aims n session
stranded_in_aims n session (Reading work ticket) = stranded_aims n session
stranded_in_aims n session (Running work) = stranded_aims n session
stranded_in_aims n session (Locking work table) = stranded_aims n session
stranded_in_aims n session (Inserting work posted) = stranded_aims n session
stranded_in_aims n session Committing = tt
stranded_in_aims n session Closing = stranded_aims n session
stranded_in_aims n session (RollingBack ending) = released_aims n session session.gate ending

started_as_aims : (n : ℕ) (session : Session) (work : Work) (class : Class) → Aims n (started_as session work class)
started_as_aims n session work classes.Read = tt
started_as_aims n session work classes.LockingRead = tt
started_as_aims n session work (classes.Write verb) = tt
started_as_aims n session work (classes.SerialInsert table) = tt

-- Orders.

entering_aims : (n : ℕ) (session : Session) (phase : GatePhase) (work : Work) → Aims n (entering session phase work)
entering_aims n session Out work = tt
entering_aims n session InSnapshot work = started_as_aims n session work work.class
entering_aims n session (Live changed tables) work = started_as_aims n session work work.class
entering_aims n session InCommit work = started_as_aims n session work work.class

stated_aims : (n : ℕ) (session : Session) (moment : ℤ) (work : Option Work) → Aims n (stated session moment work)
stated_aims n session moment None = refused_aims false n session (error_of moment_out_of_range) (unseen n session)
stated_aims n session moment (Some work) = entering_aims n (record session { moment = moment }) session.gate work

begins_aims : (n : ℕ) (session : Session) (moment : ℤ) (status : Status) → Aims n (block_begun session moment status)
unfolding block_begun
begins_aims n session moment Idle = tt
begins_aims n session moment InBlock = tt
begins_aims n session moment Failed = tt

committing_aims : (n : ℕ) (session : Session) (phase : GatePhase) (outcome : Outcome) → Aims n (committing session phase outcome)
committing_aims n session Out outcome = tt
committing_aims n session InSnapshot outcome = tt
committing_aims n session (Live true tables) outcome = tt
committing_aims n session (Live false tables) outcome = tt
committing_aims n session InCommit outcome = tt

commits_aims : (n : ℕ) (session : Session) (status : Status) → Aims n (block_committed session status)
unfolding block_committed
commits_aims n session Idle = tt
commits_aims n session InBlock = committing_aims n session session.gate (done_with tags.Commit)
commits_aims n session Failed = tt

rolled_aims : (n : ℕ) (session : Session) (phase : GatePhase) → Aims n (rolled_back session phase)
rolled_aims n session Out = tt
rolled_aims n session InSnapshot = tt
rolled_aims n session (Live changed tables) = tt
rolled_aims n session InCommit = tt

rolls_aims : (n : ℕ) (session : Session) (status : Status) → Aims n (block_rolled_back session status)
unfolding block_rolled_back
rolls_aims n session Idle = tt
rolls_aims n session InBlock = rolled_aims n session session.gate
rolls_aims n session Failed = tt

settled_aims : (n : ℕ) (session : Session) (status : Status) → Aims n (settled session status)
unfolding settled
settled_aims n session Idle = committing_aims n session session.gate outcomes.Settled
settled_aims n session InBlock = tt
settled_aims n session Failed = tt

leaving_aims : (n : ℕ) (session : Session) (phase : GatePhase) → Aims n (leaving session phase)
leaving_aims n session Out = tt
leaving_aims n session InSnapshot = tt
leaving_aims n session (Live changed tables) = tt
leaving_aims n session InCommit = tt

left_in_aims : (n : ℕ) (session : Session) (stage : Stage) → Aims n (left_in session stage)
left_in_aims n session (Opening work) = leaving_aims n session session.gate
left_in_aims n session (Reading work ticket) = leaving_aims n session session.gate
left_in_aims n session (Running work) = leaving_aims n session session.gate
left_in_aims n session (Locking work table) = leaving_aims n session session.gate
left_in_aims n session (Inserting work posted) = leaving_aims n session session.gate
left_in_aims n session Committing = leaving_aims n session session.gate
left_in_aims n session Closing = leaving_aims n session session.gate
left_in_aims n session (RollingBack ending) = tt

left_lost_aims : (n : ℕ) (session : Session) (stage : Stage) (b : BackendId) (before count : ℕ) → Aims n (left_lost session stage b before count)
left_lost_aims n session (Opening work) b before count = tt
left_lost_aims n session (Reading work ticket) b before count = tt
left_lost_aims n session (Running work) b before count = tt
left_lost_aims n session (Locking work table) b before count = tt
left_lost_aims n session (Inserting work posted) b before count = tt
left_lost_aims n session Committing b before count = tt
left_lost_aims n session Closing b before count = tt
left_lost_aims n session (RollingBack ending) b before count = tt

left_aims : (n : ℕ) (session : Session) (point : Point) → Aims n (left session point)
unfolding left
left_aims n session Resting = leaving_aims n session session.gate
left_aims n session (EnterDue work) = leaving_aims n session session.gate
left_aims n session (LookDue stage) = left_in_aims n session stage
left_aims n session (PostDue stage b) = left_in_aims n session stage
left_aims n session (Waiting stage b) = left_in_aims n session stage
left_aims n session (LostDue stage b before count) = left_lost_aims n session stage b before count
left_aims n session (SplitDue stage best own among more) = left_in_aims n session stage
left_aims n session (ChooseDue work) = leaving_aims n session session.gate
left_aims n session ShowDue = leaving_aims n session session.gate
left_aims n session (LeaveSnapshotDue work) = leaving_aims n session session.gate
left_aims n session (UnwindDue ending) = tt
left_aims n session EnterCommitDue = leaving_aims n session session.gate
left_aims n session (LeaveCommitDue ending) = tt
left_aims n session (FinishDue ending) = tt
left_aims n session (ReplyDue outcome) = leaving_aims n session session.gate
left_aims n session EndDue = leaving_aims n session session.gate

ordered_aims : (n : ℕ) (session : Session) (point : Point) (moment : ℤ) (body : OrderBody) → Aims n (ordered session point moment body)
unfolding ordered stated_at
ordered_aims n session point moment (orders.Statement checked) =
    stated_aims n session (moment_at session.status session.gate session.moment moment) (rewritten (moment_at session.status session.gate session.moment moment) (work_in checked))
ordered_aims n session point moment orders.Begin = begins_aims n session moment session.status
ordered_aims n session point moment orders.Commit = commits_aims n session session.status
ordered_aims n session point moment orders.Rollback = rolls_aims n session session.status
ordered_aims n session point moment orders.Settle = settled_aims n session session.status
ordered_aims n session point moment orders.ShowNodes = tt
ordered_aims n session point moment (orders.Recover b) = tt
ordered_aims n session point moment (orders.Refuse code name) = refused_aims false n session (outcomes.Error code name) (unseen n session)
ordered_aims n session point moment orders.Leave = left_aims n session point

-- Where a chain closes.

ran_aims : (behind : Bool) (n : ℕ) (session : Session) (work : Work) (answer : Answer) → Sees behind n session → Aims n (ran behind session work answer)
ran_aims behind n session work (answers.Refused code) sees = refused_aims behind n session (error_of code) sees
ran_aims behind n session work (answers.Rows rows) sees = tt
ran_aims behind n session work (answers.Count k) sees = tt
ran_aims behind n session work answers.Began sees = tt
ran_aims behind n session work answers.Locked sees = tt
ran_aims behind n session work answers.Done sees = tt
ran_aims behind n session work (answers.Serial k) sees = tt

opened_aims : (behind : Bool) (n : ℕ) (session : Session) (work : Work) (code : Option Code) → Sees behind n session → Aims n (opened behind session work code)
opened_aims behind n session work None sees = tt
opened_aims behind n session work (Some code) sees = refused_aims behind n session (error_of code) sees

locked_aims : (behind : Bool) (n : ℕ) (session : Session) (work : Work) (code : Option Code) → Sees behind n session → Aims n (locked behind session work code)
locked_aims behind n session work None sees = behind_aims behind n session (Inserting work false) sees
locked_aims behind n session work (Some code) sees = refused_aims behind n session (error_of code) sees

closed_aims : (behind : Bool) (n : ℕ) (session : Session) (stage : Stage) (answer : Answer) → Sees behind n session → Aims n (closed behind session stage answer)
closed_aims behind n session (Opening work) answer sees = opened_aims behind n session work (refusal_of answer) sees
closed_aims behind n session (Reading work ticket) answer sees = ran_aims behind n session work answer sees
closed_aims behind n session (Running work) answer sees = ran_aims behind n session work answer sees
closed_aims behind n session (Locking work table) answer sees = locked_aims behind n session work (refusal_of answer) sees
closed_aims behind n session (Inserting work posted) answer sees = ran_aims behind n session work answer sees
closed_aims behind n session Committing answer sees = tt
closed_aims behind n session Closing answer sees = tt
closed_aims behind n session (RollingBack ending) answer sees = released_aims n session session.gate ending

decided_aims : (behind : Bool) (n : ℕ) (session : Session) (stage : Stage) (answer : Answer) (more : Bool) → Sees behind n session → Aims n (decided behind session stage answer more)
decided_aims behind n session stage answer true sees = tt
decided_aims behind n session stage answer false sees = closed_aims behind n session stage answer sees

split_aims : (behind : Bool) (n : ℕ) (session : Session) (stage : Stage) (best : Heard) (among : BackendSet) (more : Bool) (own : Option Heard) → Sees behind n session
    → Aims n (split behind session stage best among more own)
split_aims behind n session stage best among more None sees = decided_aims behind n session stage best.answer more sees
split_aims behind n session stage best among more (Some own) sees = tt

judged_aims : (n : ℕ) (session : Session) (stage : Stage) (best : Option Heard) → session.view.attached.bits ≡ n → Aims n (judged session stage best)
judged_aims n session stage None sees = tt
judged_aims n session stage (Some best) sees =
    split_aims true n session stage best session.view.attached (goes_on session.view.attached.bits session.heard best.answer)
    (first_other session.view.attached.bits best.answer 0 session.heard) (λ e. sees)

-- Looks.

asked_aims : (n : ℕ) (session : Session) (stage : Stage) (o : Option BackendId) → ((b : BackendId) → o ≡ Some b → has session.view.attached.bits b.number ≡ true)
    → session.view.attached.bits ≡ n → Aims n (asked session stage o)
unfolding asked
asked_aims n session stage (Some b) is sees = subst (λ k. has k b.number ≡ true) sees (is b refl)
asked_aims n session stage None is sees = judged_aims n session stage (kept session.view.attached.bits session.heard) sees

chain_aims : (n : ℕ) (session : Session) (stage : Stage) (kind : ChainKind) → session.view.attached.bits ≡ n → Aims n (asked session stage (next_of kind session.view.attached.bits session.heard))
chain_aims n session stage kind sees =
    asked_aims n session stage (next_of kind session.view.attached.bits session.heard) (next_in kind session.view.attached.bits session.heard) sees

reading_aims : (n : ℕ) (session : Session) (work : Work) (ticket : ℕ) (o : Option BackendId) → ((b : BackendId) → o ≡ Some b → has session.view.attached.bits b.number ≡ true)
    → session.view.attached.bits ≡ n → Aims n (reading_at session work ticket o)
reading_aims n session work ticket None is sees = stranded_aims n session
reading_aims n session work ticket (Some b) is sees = subst (λ k. has k b.number ≡ true) sees (is b refl)

chosen_aims : (n : ℕ) (session : Session) (work : Work) (ticket : ℕ) → session.view.attached.bits ≡ n → Aims n (chosen session work ticket)
chosen_aims n session work ticket sees =
    reading_aims n session work ticket (reader session.policy session.view.attached.bits ticket) (reader_in session.policy session.view.attached.bits ticket) sees

either_aims : (v : Bool) (n : ℕ) (x y : Machine) → Aims n x → Aims n y → Aims n (if v then x else y)
either_aims true n x y a b = a
either_aims false n x y a b = b

read_aims : (n : ℕ) (session : Session) (work : Work) (ticket : ℕ) (heard : List Heard) → session.view.attached.bits ≡ n → Aims n (read session work ticket heard)
read_aims n session work ticket [] sees = chosen_aims n session work ticket sees
read_aims n session work ticket (h ∷ hs) sees =
    either_aims (counts session.view.attached.bits h) n (closed true session (Reading work ticket) h.answer) (chosen session work ticket)
    (closed_aims true n session (Reading work ticket) h.answer (λ e. sees)) (chosen_aims n session work ticket sees)

looked_aims : (n : ℕ) (session : Session) (stage : Stage) → session.view.attached.bits ≡ n → Aims n (looked session stage)
looked_aims n session (Reading work ticket) sees = read_aims n session work ticket session.heard sees
looked_aims n session (Opening work) sees = chain_aims n session (Opening work) (kind_of (Opening work)) sees
looked_aims n session (Running work) sees = chain_aims n session (Running work) (kind_of (Running work)) sees
looked_aims n session (Locking work table) sees = chain_aims n session (Locking work table) (kind_of (Locking work table)) sees
looked_aims n session (Inserting work posted) sees = chain_aims n session (Inserting work posted) (kind_of (Inserting work posted)) sees
looked_aims n session Committing sees = chain_aims n session Committing (kind_of Committing) sees
looked_aims n session Closing sees = chain_aims n session Closing (kind_of Closing) sees
looked_aims n session (RollingBack ending) sees = chain_aims n session (RollingBack ending) (kind_of (RollingBack ending)) sees

looked_at_aims : (n : ℕ) (session : Session) (stage : Stage) (o : Option BackendId) → session.view.attached.bits ≡ n → Aims n (looked_at session stage o)
looked_at_aims n session stage None sees = stranded_in_aims n session stage
looked_at_aims n session stage (Some b) sees = looked_aims n session stage sees

first_aims : (n : ℕ) (session : Session) (work : Work) (o : Option BackendId) → session.view.attached.bits ≡ n → Aims n (first_chosen session work o)
first_aims n session work None sees = stranded_aims n session
first_aims n session work (Some b) sees = chosen_aims n (counted_read session) work (ticket_of session session.policy.per_statement) sees

shown_aims : (n : ℕ) (session : Session) (o : Option BackendId) → Aims n (shown session o)
shown_aims n session None = stranded_aims n session
shown_aims n session (Some b) = tt

snapped_aims : (n : ℕ) (session : Session) (work : Work) (o : Option BackendId) → Aims n (snapshot_entered session work o)
snapped_aims n session work None = stranded_aims n session
snapped_aims n session work (Some b) = tt

unsnapped_aims : (n : ℕ) (session : Session) (work : Work) (o : Option BackendId) → Aims n (snapshot_left session work o)
unsnapped_aims n session work None = stranded_aims n session
unsnapped_aims n session work (Some b) = started_as_aims n session work work.class

entered_aims : (n : ℕ) (session : Session) (o : Option BackendId) → Aims n (commit_entered session o)
entered_aims n session None = tt
entered_aims n session (Some b) = tt

granted_aims : (n : ℕ) (session old : Session) (point : Point) (call : GateCall) → action_at old point ≡ actions.Gate call → session.view.attached.bits ≡ n → Aims n (granted session point)
unfolding granted
granted_aims n session old (EnterDue work) call due sees = snapped_aims n (in_phase session InSnapshot) work (primary session)
granted_aims n session old (LookDue stage) call due sees = looked_at_aims n session stage (primary session) sees
granted_aims n session old (ChooseDue work) call due sees = first_aims n session work (primary session) sees
granted_aims n session old ShowDue call due sees = shown_aims n session (primary session)
granted_aims n session old (LeaveSnapshotDue work) call due sees = unsnapped_aims n (in_phase session (Live false 0)) work (primary session)
granted_aims n session old (UnwindDue ending) call due sees = tt
granted_aims n session old EnterCommitDue call due sees = entered_aims n (in_phase session InCommit) (primary session)
granted_aims n session old (LeaveCommitDue ending) call due sees = ended_aims n (in_phase session Out) ending
granted_aims n session old (FinishDue ending) call due sees = ended_aims n (in_phase session Out) ending
granted_aims n session old Resting call due sees = tt
granted_aims n session old (PostDue stage b) call due sees = absurd (cc)
granted_aims n session old (Waiting stage b) call due sees = absurd (cc)
granted_aims n session old (LostDue stage b before count) call due sees = tt
granted_aims n session old (SplitDue stage best own among more) call due sees = tt
granted_aims n session old (ReplyDue outcome) call due sees = tt
granted_aims n session old EndDue call due sees = tt

-- a point at which another thing than a post or a wait is due
calm_aims : (n : ℕ) (session : Session) (point : Point) → ((b : BackendId) (request : Request) → action_at session point ≡ actions.Post b request → ⊥)
    → ((b : BackendId) → action_at session point ≡ actions.WaitFor b → ⊥) → AimsAt n point
calm_aims n session (PostDue stage b) posts waits = absurd (posts b (request_of stage) refl)
calm_aims n session (Waiting stage b) posts waits = absurd (waits b refl)
calm_aims n session point posts waits = tt

called_aims : (n : ℕ) (session : Session) (point : Point) (call : GateCall) (answer : GateAnswer) → action_at session point ≡ actions.Gate call → Shows answer n → Aims n (called session point answer)
unfolding called
called_aims n session point call (Seen view) due shows = granted_aims n (with_view session view) session point call due shows
called_aims n session point call (Granted view) due shows = granted_aims n (with_view session view) session point call due shows
called_aims n session point call (IsHeld count) due shows = calm_aims n session point (λ b request e. absurd (cc)) (λ b e. absurd (cc))
called_aims n session point call Spent due shows = refused_aims false n session (error_of counts_spent) (unseen n session)

-- Detachments.

lost_one_aims : (n : ℕ) (session : Session) (stage : Stage) (o : Option BackendId) → Aims n (lost_one session stage o)
lost_one_aims n session stage None = stranded_in_aims n session stage
lost_one_aims n session stage (Some b) = tt

parted_aims : (n : ℕ) (session : Session) (stage : Stage) (best own : Heard) (among : BackendSet) (more : Bool) (o : Option BackendId) → Aims n (parted session stage best own among more o)
parted_aims n session stage best own among more None = stranded_in_aims n session stage
parted_aims n session stage best own among more (Some b) = split_aims false n session stage best among more (first_other among.bits best.answer (own.b.number + 1) session.heard) (unseen n session)

parted_at_aims : (n : ℕ) (session old : Session) (point : Point) (b : BackendId) (cause : Cause) → action_at old point ≡ actions.Detach b cause → Aims n (parted_at session point)
parted_at_aims n session old (LostDue stage at before count) b cause due = lost_one_aims n session stage (primary session)
parted_at_aims n session old (SplitDue stage best own among more) b cause due = parted_aims n session stage best own among more (primary session)
parted_at_aims n session old point b cause due = calm_aims n old point (λ k request e. absurd (cc)) (λ k e. absurd (cc))

detached_aims : (n : ℕ) (session : Session) (point : Point) (b : BackendId) (cause : Cause) (answer : GateAnswer) → action_at session point ≡ actions.Detach b cause → Aims n (detached session point answer)
unfolding detached
detached_aims n session point b cause (Seen view) due = parted_at_aims n (with_view session view) session point b cause due
detached_aims n session point b cause (Granted view) due = parted_at_aims n (with_view session view) session point b cause due
detached_aims n session point b cause (IsHeld count) due = calm_aims n session point (λ k request e. absurd (cc)) (λ k e. absurd (cc))
detached_aims n session point b cause Spent due = calm_aims n session point (λ k request e. absurd (cc)) (λ k e. absurd (cc))

-- Answers and losses.

taken_aims : (n : ℕ) (session : Session) (b at : BackendId) (answer : Answer) (point : Point) → action_at session point ≡ actions.WaitFor at → Aims n (taken session b answer point)
taken_aims n session b at answer (Waiting stage asked) due = tt
taken_aims n session b at answer (PostDue stage k) due = absurd (cc)
taken_aims n session b at answer point due = tt

faulted_aims : (n : ℕ) (session : Session) (before count : ℕ) (at : BackendId) (point : Point) → action_at session point ≡ actions.WaitFor at → Aims n (faulted session before count point)
faulted_aims n session before count at (Waiting stage b) due = tt
faulted_aims n session before count at (PostDue stage k) due = absurd (cc)
faulted_aims n session before count at point due = tt

-- Every event but a post.

abbrev pub IsNoPost : SessionEvent → Type 0
IsNoPost (events.Posted b request) = ⊥
IsNoPost event = Unit {0}

pub event_aims : (m : Machine) (event : SessionEvent) (n : ℕ) → MayHappen m event → IsNoPost event → ShowsIn event n → Aims n (after m event)
unfolding after_at
event_aims m (events.Ordered order) n may kind shows = ordered_aims n m.session m.point order.moment order.body
event_aims m (events.Called call answer) n may kind shows = called_aims n m.session m.point call answer may.0 shows
event_aims m (events.Posted b request) n may kind shows = absurd kind
event_aims m (events.Taken b answer) n may kind shows = taken_aims n m.session b b answer m.point may.0
event_aims m (events.Faulted b before count) n may kind shows = faulted_aims n m.session before count b m.point may.0
event_aims m (events.Detached b cause answer) n may kind shows = detached_aims n m.session m.point b cause answer may.0
event_aims m (events.Swapped b) n may kind shows = absurd may
event_aims m (events.Replied outcome status) n may kind shows = tt
event_aims m events.Ended n may kind shows = tt
