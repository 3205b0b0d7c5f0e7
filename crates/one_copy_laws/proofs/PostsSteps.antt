-- Which events of a session lead to the chain of a commit without changes, and what they leave of it and of what is awaited.
use Rattle.std.proofs.Common.{◌≡◌, ℕ, ◌+◌, Bool, true, false, List, [], ◌∷◌, refl, sym, ap, ◌∙◌}
use Rattle.std.specs.Prelude.{Option, Some, None, if◌then◌else◌}
use Rattle.pool_base.specs.declared.code.Code.{Code}
use Rattle.pool_base.specs.declared.backend_id.BackendId.{BackendId}
use Rattle.pool_base.specs.declared.backend_set.BackendSet.{BackendSet}
use Rattle.pool_base.specs.declared.gate_call.GateAnswer.{GateAnswer}
use Rattle.pool_base.specs.declared.gate_call.GateAnswer.TheVariants.{Seen, Granted, Held, Spent}
use Rattle.backend_trait.specs.declared.answer.Answer.{Answer}
use Rattle.backend_trait.specs.declared.answer.Answer.TheVariants as answers
use Rattle.session_orders.specs.declared.outcome.Outcome.{Outcome}
use Rattle.session_machine.specs.declared.work.Class.{Class}
use Rattle.session_machine.specs.declared.work.Class.TheVariants as classes
use Rattle.session_machine.specs.declared.work.Work.{Work}
use Rattle.session_machine.specs.declared.machine.GatePhase.{GatePhase}
use Rattle.session_machine.specs.declared.machine.GatePhase.TheVariants as phases
use Rattle.session_machine.specs.declared.machine.Ending.{Ending}
use Rattle.session_machine.specs.declared.machine.Ending.TheVariants as endings
use Rattle.session_machine.specs.declared.machine.Heard.{Heard}
use Rattle.session_machine.specs.declared.machine.Machine.{Machine}
use Rattle.session_machine.specs.declared.machine.Session.{Session}
use Rattle.session_machine.specs.declared.machine.Stage.{Stage}
use Rattle.session_machine.specs.declared.machine.Stage.TheVariants.{Opening, Reading, Running, Locking, Inserting, Committing, Closing, RollingBack}
use Rattle.session_machine.specs.declared.machine.Point.{Point}
use Rattle.session_machine.specs.declared.machine.Point.TheVariants.{Resting, EnterDue, LookDue, PostDue, Waiting, LostDue, SplitDue, ChooseDue, ShowDue, LeaveSnapshotDue, UnwindDue, EnterCommitDue, LeaveCommitDue, FinishDue, ReplyDue, EndDue}
use Rattle.session_machine.specs.Answers.{counts, first_other, goes_on, kept, next_of, reader}
use Rattle.session_machine.specs.Codes.{counts_spent, no_backend}
use Rattle.session_machine.specs.Rules.{primary, ended, released, begun_at, begun_behind, failing, refused_at, refused, error_of, stranded, stranded_in, started_as, started, ran, refusal_of, opened, locked, closed, decided, split, judged, asked, reading_at, chosen, read, looked, looked_at, first_chosen, counted_read, ticket_of, shown, snapshot_entered, snapshot_left, commit_entered, with_view, in_phase, granted, called, lost_one, parted, parted_at, detached}
use Rattle.write_path.specs.declared.kind.ChainKind.TheVariants.{All, StopAtRefusal}
use Rattle.one_copy_model.specs.Deaths.{stage_at}

abbrev pub Closes : Machine → Type 0
Closes n = stage_at n.point ≡ Some Closing

-- the chain was under way before, and has the same answers
abbrev pub GoesOn : Session → Point → Machine → Type 0
GoesOn session point n = (stage_at point ≡ Some Closing) × (n.session.heard ≡ session.heard)

abbrev pub closes_in : Option Stage → Bool
closes_in (Some Closing) = true
closes_in stage = false

pub no_close : {found : Option Stage} → found ≡ Some Closing → closes_in found ≡ false → ⊥
no_close e f = let z : true ≡ false = sym (ap closes_in e) ∙ f in cc

ended_not : (session : Session) (ending : Ending) → Closes (ended session ending) → ⊥
ended_not session (endings.Replies outcome) e = no_close e refl
ended_not session endings.Leaves e = no_close e refl

released_not : (session : Session) (phase : GatePhase) (ending : Ending) → Closes (released session phase ending) → ⊥
released_not session phases.Out ending e = ended_not session ending e
released_not session phases.InSnapshot ending e = no_close e refl
released_not session (phases.Live changed tables) ending e = no_close e refl
released_not session phases.InCommit ending e = no_close e refl

stranded_not : (session : Session) → Closes (stranded session) → ⊥
stranded_not session e = released_not (failing session) session.gate (endings.Replies (error_of no_backend)) e

stranded_in_not : (session : Session) (stage : Stage) → Closes (stranded_in session stage) → ⊥
stranded_in_not session (Opening work) e = stranded_not session e
stranded_in_not session (Reading work ticket) e = stranded_not session e
stranded_in_not session (Running work) e = stranded_not session e
stranded_in_not session (Locking work table) e = stranded_not session e
stranded_in_not session (Inserting work posted) e = stranded_not session e
stranded_in_not session Committing e = no_close e refl
stranded_in_not session Closing e = stranded_not session e
stranded_in_not session (RollingBack ending) e = released_not session session.gate ending e

begun_at_not : (session : Session) (stage : Stage) (found : Option BackendId) → closes_in (Some stage) ≡ false → Closes (begun_at session stage found) → ⊥
begun_at_not session stage None f e = no_close e f
begun_at_not session stage (Some b) f e = no_close e f

begun_not : (behind : Bool) (session : Session) (stage : Stage) → closes_in (Some stage) ≡ false → Closes (begun_behind behind session stage) → ⊥
begun_not true session stage f e = begun_at_not session stage (primary session) f e
begun_not false session stage f e = no_close e f

refused_at_not : (behind : Bool) (session : Session) (phase : GatePhase) (outcome : Outcome) → Closes (refused_at behind session phase outcome) → ⊥
refused_at_not behind session phases.Out outcome e = no_close e refl
refused_at_not behind session phases.InSnapshot outcome e = begun_not behind (failing session) (RollingBack (endings.Replies outcome)) refl e
refused_at_not behind session (phases.Live changed tables) outcome e = begun_not behind (failing session) (RollingBack (endings.Replies outcome)) refl e
refused_at_not behind session phases.InCommit outcome e = begun_not behind (failing session) (RollingBack (endings.Replies outcome)) refl e

pub refused_not : (behind : Bool) (session : Session) (outcome : Outcome) → Closes (refused behind session outcome) → ⊥
refused_not behind session outcome e = refused_at_not behind session session.gate outcome e

started_as_not : (session : Session) (work : Work) (class : Class) → Closes (started_as session work class) → ⊥
started_as_not session work classes.Read e = no_close e refl
started_as_not session work classes.LockingRead e = no_close e refl
started_as_not session work (classes.Write verb) e = no_close e refl
started_as_not session work (classes.SerialInsert table) e = no_close e refl

pub started_not : (session : Session) (work : Work) → Closes (started session work) → ⊥
started_not session work e = started_as_not session work work.class e

-- What a chain's end leads to.

ran_not : (behind : Bool) (session : Session) (work : Work) (answer : Answer) → Closes (ran behind session work answer) → ⊥
ran_not behind session work (answers.Refused code) e = refused_not behind session (error_of code) e
ran_not behind session work (answers.Rows rows) e = no_close e refl
ran_not behind session work (answers.Count n) e = no_close e refl
ran_not behind session work answers.Began e = no_close e refl
ran_not behind session work answers.Locked e = no_close e refl
ran_not behind session work answers.Done e = no_close e refl
ran_not behind session work (answers.Serial n) e = no_close e refl

opened_not : (behind : Bool) (session : Session) (work : Work) (code : Option Code) → Closes (opened behind session work code) → ⊥
opened_not behind session work None e = no_close e refl
opened_not behind session work (Some code) e = refused_not behind session (error_of code) e

locked_not : (behind : Bool) (session : Session) (work : Work) (code : Option Code) → Closes (locked behind session work code) → ⊥
locked_not behind session work None e = begun_not behind session (Inserting work false) refl e
locked_not behind session work (Some code) e = refused_not behind session (error_of code) e

closed_not : (behind : Bool) (session : Session) (stage : Stage) (answer : Answer) → Closes (closed behind session stage answer) → ⊥
closed_not behind session (Opening work) answer e = opened_not behind session work (refusal_of answer) e
closed_not behind session (Reading work ticket) answer e = ran_not behind session work answer e
closed_not behind session (Running work) answer e = ran_not behind session work answer e
closed_not behind session (Locking work table) answer e = locked_not behind session work (refusal_of answer) e
closed_not behind session (Inserting work posted) answer e = ran_not behind session work answer e
closed_not behind session Committing answer e = no_close e refl
closed_not behind session Closing answer e = no_close e refl
closed_not behind session (RollingBack ending) answer e = released_not session session.gate ending e

-- A chain that goes on, or is judged.

abbrev StaysIn : Session → Stage → Machine → Type 0
StaysIn session stage n = (Some stage ≡ Some Closing) × (n.session.heard ≡ session.heard)

decided_on : (behind : Bool) (session : Session) (stage : Stage) (answer : Answer) (more : Bool) → Closes (decided behind session stage answer more)
    → StaysIn session stage (decided behind session stage answer more)
decided_on behind session stage answer true e = (e, refl)
decided_on behind session stage answer false e = absurd (closed_not behind session stage answer e)

split_on : (behind : Bool) (session : Session) (stage : Stage) (best : Heard) (among : BackendSet) (more : Bool) (other : Option Heard)
    → Closes (split behind session stage best among more other) → StaysIn session stage (split behind session stage best among more other)
split_on behind session stage best among more None e = decided_on behind session stage best.answer more e
split_on behind session stage best among more (Some own) e = (e, refl)

judged_on : (session : Session) (stage : Stage) (best : Option Heard) → Closes (judged session stage best) → StaysIn session stage (judged session stage best)
judged_on session stage None e = (e, refl)
judged_on session stage (Some best) e =
    split_on true session stage best session.view.attached (goes_on session.view.attached.bits session.heard best.answer)
    (first_other session.view.attached.bits best.answer 0 session.heard) e

asked_on : (session : Session) (stage : Stage) (next : Option BackendId) → Closes (asked session stage next) → StaysIn session stage (asked session stage next)
unfolding asked
asked_on session stage (Some b) e = (e, refl)
asked_on session stage None e = judged_on session stage (kept session.view.attached.bits session.heard) e

reading_not : (session : Session) (work : Work) (ticket : ℕ) (found : Option BackendId) → Closes (reading_at session work ticket found) → ⊥
reading_not session work ticket None e = stranded_not session e
reading_not session work ticket (Some b) e = no_close e refl

chosen_not : (session : Session) (work : Work) (ticket : ℕ) → Closes (chosen session work ticket) → ⊥
chosen_not session work ticket e = reading_not session work ticket (reader session.policy session.view.attached.bits ticket) e

counted_not : (v : Bool) (session : Session) (work : Work) (ticket : ℕ) (answer : Answer)
    → Closes (if v then closed true session (Reading work ticket) answer else chosen session work ticket) → ⊥
counted_not true session work ticket answer e = closed_not true session (Reading work ticket) answer e
counted_not false session work ticket answer e = chosen_not session work ticket e

read_not : (session : Session) (work : Work) (ticket : ℕ) (heard : List Heard) → Closes (read session work ticket heard) → ⊥
read_not session work ticket [] e = chosen_not session work ticket e
read_not session work ticket (h ∷ hs) e = counted_not (counts session.view.attached.bits h) session work ticket h.answer e

looked_on : (session : Session) (stage : Stage) → Closes (looked session stage) → StaysIn session stage (looked session stage)
looked_on session (Reading work ticket) e = absurd (read_not session work ticket session.heard e)
looked_on session (Opening work) e = asked_on session (Opening work) (next_of All session.view.attached.bits session.heard) e
looked_on session (Running work) e = asked_on session (Running work) (next_of StopAtRefusal session.view.attached.bits session.heard) e
looked_on session (Locking work table) e = asked_on session (Locking work table) (next_of StopAtRefusal session.view.attached.bits session.heard) e
looked_on session (Inserting work posted) e = asked_on session (Inserting work posted) (next_of All session.view.attached.bits session.heard) e
looked_on session Committing e = asked_on session Committing (next_of All session.view.attached.bits session.heard) e
looked_on session Closing e = asked_on session Closing (next_of All session.view.attached.bits session.heard) e
looked_on session (RollingBack ending) e = asked_on session (RollingBack ending) (next_of All session.view.attached.bits session.heard) e

looked_at_on : (session : Session) (stage : Stage) (found : Option BackendId) → Closes (looked_at session stage found)
    → StaysIn session stage (looked_at session stage found)
looked_at_on session stage None e = absurd (stranded_in_not session stage e)
looked_at_on session stage (Some b) e = looked_on session stage e

first_chosen_not : (session : Session) (work : Work) (found : Option BackendId) → Closes (first_chosen session work found) → ⊥
first_chosen_not session work None e = stranded_not session e
first_chosen_not session work (Some b) e = chosen_not (counted_read session) work (ticket_of session session.policy.per_statement) e

shown_not : (session : Session) (found : Option BackendId) → Closes (shown session found) → ⊥
shown_not session None e = stranded_not session e
shown_not session (Some b) e = no_close e refl

entered_not : (session : Session) (work : Work) (found : Option BackendId) → Closes (snapshot_entered session work found) → ⊥
entered_not session work None e = stranded_not session e
entered_not session work (Some b) e = no_close e refl

left_not : (session : Session) (work : Work) (found : Option BackendId) → Closes (snapshot_left session work found) → ⊥
left_not session work None e = stranded_not session e
left_not session work (Some b) e = started_not session work e

commit_not : (session : Session) (found : Option BackendId) → Closes (commit_entered session found) → ⊥
commit_not session None e = stranded_in_not session Committing e
commit_not session (Some b) e = no_close e refl

granted_on : (session : Session) (point : Point) → Closes (granted session point) → GoesOn session point (granted session point)
unfolding granted
granted_on session (EnterDue work) e = absurd (entered_not (in_phase session phases.InSnapshot) work (primary session) e)
granted_on session (LookDue stage) e = looked_at_on session stage (primary session) e
granted_on session (ChooseDue work) e = absurd (first_chosen_not session work (primary session) e)
granted_on session ShowDue e = absurd (shown_not session (primary session) e)
granted_on session (LeaveSnapshotDue work) e = absurd (left_not (in_phase session (phases.Live false 0)) work (primary session) e)
granted_on session (UnwindDue ending) e = absurd (no_close e refl)
granted_on session EnterCommitDue e = absurd (commit_not (in_phase session phases.InCommit) (primary session) e)
granted_on session (LeaveCommitDue ending) e = absurd (ended_not (in_phase session phases.Out) ending e)
granted_on session (FinishDue ending) e = absurd (ended_not (in_phase session phases.Out) ending e)
granted_on session Resting e = absurd (no_close e refl)
granted_on session (PostDue stage b) e = (e, refl)
granted_on session (Waiting stage b) e = (e, refl)
granted_on session (LostDue stage b before more) e = (e, refl)
granted_on session (SplitDue stage best own among more) e = (e, refl)
granted_on session (ReplyDue outcome) e = absurd (no_close e refl)
granted_on session EndDue e = absurd (no_close e refl)

pub called_on : (session : Session) (point : Point) (answer : GateAnswer) → Closes (called session point answer) → GoesOn session point (called session point answer)
unfolding called
called_on session point (Seen view) e = granted_on (with_view session view) point e
called_on session point (Granted view) e = granted_on (with_view session view) point e
called_on session point (Held count) e = (e, refl)
called_on session point Spent e = absurd (refused_not false session (error_of counts_spent) e)

-- A detachment.

lost_on : (session : Session) (stage : Stage) (found : Option BackendId) → Closes (lost_one session stage found) → StaysIn session stage (lost_one session stage found)
lost_on session stage None e = absurd (stranded_in_not session stage e)
lost_on session stage (Some b) e = (e, refl)

parted_on : (session : Session) (stage : Stage) (best own : Heard) (among : BackendSet) (more : Bool) (found : Option BackendId)
    → Closes (parted session stage best own among more found) → StaysIn session stage (parted session stage best own among more found)
parted_on session stage best own among more None e = absurd (stranded_in_not session stage e)
parted_on session stage best own among more (Some b) e =
    split_on false session stage best among more (first_other among.bits best.answer (own.b.number + 1) session.heard) e

parts_on : (session : Session) (point : Point) → Closes (parted_at session point) → GoesOn session point (parted_at session point)
parts_on session (LostDue stage b before more) e = lost_on session stage (primary session) e
parts_on session (SplitDue stage best own among more) e = parted_on session stage best own among more (primary session) e
parts_on session point e = (e, refl)

pub detached_on : (session : Session) (point : Point) (answer : GateAnswer) → Closes (detached session point answer)
    → GoesOn session point (detached session point answer)
unfolding detached
detached_on session point (Seen view) e = parts_on (with_view session view) point e
detached_on session point (Granted view) e = parts_on (with_view session view) point e
detached_on session point (Held count) e = (e, refl)
detached_on session point Spent e = (e, refl)
