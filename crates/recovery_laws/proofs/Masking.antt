-- Where an event leads the mask of its session, beside what it places: the mask gets a table where its write has its result.
use Rattle.std.proofs.Common.{◌≡◌, ◌⊎◌, ℕ, ◌+◌, Bool, true, false, List, [], ◌∷◌, refl, sym, ap, ◌∙◌, inl, inr}
use Rattle.std.specs.Prelude.{ℤ, bit_or, if◌then◌else◌, Option, Some, None}
use Rattle.pool_base.specs.declared.backend_id.BackendId.{BackendId}
use Rattle.pool_base.specs.declared.backend_set.BackendSet.{BackendSet}
use Rattle.pool_base.specs.declared.code.Code.{Code}
use Rattle.pool_base.specs.declared.gate_call.GateAnswer.{GateAnswer}
use Rattle.pool_base.specs.declared.gate_call.GateAnswer.TheVariants.{Seen, Granted, Held, Spent}
use Rattle.backend_trait.specs.declared.request.Request.TheVariants as requests
use Rattle.backend_trait.specs.declared.answer.Answer.{Answer}
use Rattle.backend_trait.specs.declared.answer.Answer.TheVariants as answers
use Rattle.session_machine.specs.declared.work.Class.{Class}
use Rattle.session_machine.specs.declared.work.Class.TheVariants as classes
use Rattle.session_machine.specs.declared.work.Work.{Work}
use Rattle.session_orders.specs.declared.order.OrderBody.{OrderBody}
use Rattle.session_orders.specs.declared.order.OrderBody.TheVariants as orders
use Rattle.session_orders.specs.declared.outcome.Tag.TheVariants as tags
use Rattle.session_orders.specs.declared.outcome.Outcome.{Outcome}
use Rattle.session_orders.specs.declared.outcome.Outcome.TheVariants as outcomes
use Rattle.session_machine.specs.declared.status.Status.{Status}
use Rattle.session_machine.specs.declared.status.Status.TheVariants.{Idle, InBlock, Failed}
use Rattle.session_machine.specs.declared.action.Action.TheVariants as actions
use Rattle.session_machine.specs.declared.action.SessionEvent.{SessionEvent}
use Rattle.session_machine.specs.declared.action.SessionEvent.TheVariants as events
use Rattle.session_machine.specs.declared.machine.GatePhase.{GatePhase}
use Rattle.session_machine.specs.declared.machine.GatePhase.TheVariants as phases
use Rattle.session_machine.specs.declared.machine.Heard.{Heard}
use Rattle.session_machine.specs.declared.machine.Ending.{Ending}
use Rattle.session_machine.specs.declared.machine.Ending.TheVariants.{Replies, Leaves}
use Rattle.session_machine.specs.declared.machine.Stage.{Stage}
use Rattle.session_machine.specs.declared.machine.Stage.TheVariants.{Opening, Reading, Running, Locking, Inserting, Committing, Closing, RollingBack}
use Rattle.session_machine.specs.declared.machine.Point.{Point}
use Rattle.session_machine.specs.declared.machine.Point.TheVariants.{Resting, EnterDue, LookDue, PostDue, Waiting, LostDue, SplitDue, ChooseDue, ShowDue, LeaveSnapshotDue, UnwindDue, EnterCommitDue, LeaveCommitDue, FinishDue, ReplyDue, EndDue}
use Rattle.session_machine.specs.declared.machine.Session.{Session}
use Rattle.session_machine.specs.Codes.{no_backend}
use Rattle.session_machine.specs.Answers.{next_of, kept, first_other, goes_on, reader, counts}
use Rattle.session_machine.specs.Classes.{work_in}
use Rattle.session_machine.specs.Rules.{primary, kind_of, tables_of, action_at, ended, released, begun_at, begun_behind, failing, refused_at, refused, stranded, stranded_in, started_as, moment_at, rewritten, entering, stated, stated_at, block_begun, committing, block_committed, block_rolled_back, settled, ordered, phase_changed, ran, refusal_of, opened, locked, closed, split, judged, asked, reading_at, chosen, read, looked, looked_at, ticket_of, counted_read, first_chosen, shown, snapshot_entered, snapshot_left, with_view, in_phase, granted, called, posted, taken, faulted, lost_one, parted, parted_at, detached, after_at, error_of, done_with}
use Rattle.one_copy_model.specs.declared.deed.Deed.{Deed}
use Rattle.one_copy_model.specs.declared.deed.Deed.TheVariants.{Asks, Gets, Falls}
use Rattle.one_copy_model.specs.Deaths.{stage_at}
use Rattle.one_copy_model.specs.Places.{one_kept, kept_of, closing_chain, read_answer, closing_read, closing_at, closing_look, closing_split, asks_of, commits, rolls_back, decided_run, decided_lock, decided_by, where_decided, at_commit, at_block_commit, at_settle, at_rollback, at_statement, at_order, at_granted, at_call, at_parted, at_detach, place_of}
use Rattle.one_copy_model.specs.Invariant.{FitsPoint, fits_stage, fits_point}

-- a result adds the tables of its write
abbrev pub grown : ℕ → ℕ → Answer → ℕ
grown mask more (answers.Count n) = bit_or mask more
grown mask more answer = mask

-- the run of a statement that is no serial insert is under way
abbrev pub RunsIn : Point → Work → Type 0
RunsIn point work = (stage_at point ≡ Some (Running work)) ⊎ ((ticket : ℕ) × (stage_at point ≡ Some (Reading work ticket)))

-- what an event places, by what was due; and where it leads the mask, if the transaction lives on
pub data Leads (point : Point) (old new : GatePhase) (deeds : List Deed) : Type 0 where
  places_nothing : deeds ≡ [] → tables_of new ≡ tables_of old → Leads point old new deeds
  asks_on : (work : Work) → deeds ≡ Asks (asks_of work) ∷ [] → tables_of new ≡ tables_of old → Leads point old new deeds
  commits_entered : deeds ≡ commits → point ≡ EnterCommitDue → Leads point old new deeds
  commits_unchanged : deeds ≡ commits → (tables : ℕ) → old ≡ phases.Live false tables → Leads point old new deeds
  rolls : deeds ≡ rolls_back → Leads point old new deeds
  falls : (code : Code) → deeds ≡ Falls (Some code) ∷ [] → Leads point old new deeds
  runs : (work : Work) (answer : Answer) → RunsIn point work → deeds ≡ Gets answer ∷ [] → tables_of new ≡ grown (tables_of old) work.tables answer
      → Leads point old new deeds
  inserts : (work : Work) (posted : Bool) (answer : Answer) → stage_at point ≡ Some (Inserting work posted)
      → deeds ≡ Gets answers.Locked ∷ Asks (requests.Run work.statement) ∷ Gets answer ∷ []
      → tables_of new ≡ grown (tables_of old) work.tables answer → Leads point old new deeds
  insert_falls : (work : Work) (posted : Bool) (code : Code) → stage_at point ≡ Some (Inserting work posted)
      → deeds ≡ Gets answers.Locked ∷ Asks (requests.Run work.statement) ∷ Falls (Some code) ∷ [] → Leads point old new deeds

-- nothing is placed, and the session stands at the gate as before
nothing : (point : Point) (old new : GatePhase) → new ≡ old → Leads point old new []
nothing point old new same = places_nothing refl (ap tables_of same)

-- Steps that leave the session where it stands at the gate.

ended_gate : (session : Session) (ending : Ending) → (ended session ending).session.gate ≡ session.gate
ended_gate session (Replies outcome) = refl
ended_gate session Leaves = refl

released_gate : (session : Session) (phase : GatePhase) (ending : Ending) → (released session phase ending).session.gate ≡ session.gate
released_gate session phases.Out ending = ended_gate session ending
released_gate session phases.InSnapshot ending = refl
released_gate session (phases.Live changed tables) ending = refl
released_gate session phases.InCommit ending = refl

begun_at_gate : (session : Session) (stage : Stage) (first : Option BackendId) → (begun_at session stage first).session.gate ≡ session.gate
begun_at_gate session stage None = refl
begun_at_gate session stage (Some b) = refl

begun_gate : (behind : Bool) (session : Session) (stage : Stage) → (begun_behind behind session stage).session.gate ≡ session.gate
begun_gate true session stage = begun_at_gate session stage (primary session)
begun_gate false session stage = refl

refused_at_gate : (behind : Bool) (session : Session) (phase : GatePhase) (outcome : Outcome) → (refused_at behind session phase outcome).session.gate ≡ session.gate
refused_at_gate behind session phases.Out outcome = refl
refused_at_gate behind session phases.InSnapshot outcome = begun_gate behind (failing session) (RollingBack (Replies outcome))
refused_at_gate behind session (phases.Live changed tables) outcome = begun_gate behind (failing session) (RollingBack (Replies outcome))
refused_at_gate behind session phases.InCommit outcome = begun_gate behind (failing session) (RollingBack (Replies outcome))

refused_gate : (behind : Bool) (session : Session) (outcome : Outcome) → (refused behind session outcome).session.gate ≡ session.gate
refused_gate behind session outcome = refused_at_gate behind session session.gate outcome

stranded_gate : (session : Session) → (stranded session).session.gate ≡ session.gate
stranded_gate session = released_gate (failing session) session.gate (Replies (error_of no_backend))

stranded_in_gate : (session : Session) (stage : Stage) → (stranded_in session stage).session.gate ≡ session.gate
stranded_in_gate session (Opening work) = stranded_gate session
stranded_in_gate session (Reading work ticket) = stranded_gate session
stranded_in_gate session (Running work) = stranded_gate session
stranded_in_gate session (Locking work table) = stranded_gate session
stranded_in_gate session (Inserting work posted) = stranded_gate session
stranded_in_gate session Committing = refl
stranded_in_gate session Closing = stranded_gate session
stranded_in_gate session (RollingBack ending) = released_gate session session.gate ending

started_gate : (session : Session) (work : Work) (class : Class) → (started_as session work class).session.gate ≡ session.gate
started_gate session work classes.Read = refl
started_gate session work classes.LockingRead = refl
started_gate session work (classes.Write verb) = refl
started_gate session work (classes.SerialInsert table) = refl

entering_gate : (session : Session) (phase : GatePhase) (work : Work) → (entering session phase work).session.gate ≡ session.gate
entering_gate session phases.Out work = refl
entering_gate session phases.InSnapshot work = started_gate session work work.class
entering_gate session (phases.Live changed tables) work = started_gate session work work.class
entering_gate session phases.InCommit work = started_gate session work work.class

opened_gate : (behind : Bool) (session : Session) (work : Work) (code : Option Code) → (opened behind session work code).session.gate ≡ session.gate
opened_gate behind session work None = refl
opened_gate behind session work (Some code) = refused_gate behind session (error_of code)

reading_gate : (session : Session) (work : Work) (ticket : ℕ) (first : Option BackendId) → (reading_at session work ticket first).session.gate ≡ session.gate
reading_gate session work ticket None = stranded_gate session
reading_gate session work ticket (Some b) = refl

chosen_gate : (session : Session) (work : Work) (ticket : ℕ) → (chosen session work ticket).session.gate ≡ session.gate
chosen_gate session work ticket = reading_gate session work ticket (reader session.policy session.view.attached.bits ticket)

first_gate : (session : Session) (work : Work) (first : Option BackendId) → (first_chosen session work first).session.gate ≡ session.gate
first_gate session work None = stranded_gate session
first_gate session work (Some b) = chosen_gate (counted_read session) work (ticket_of session session.policy.per_statement)

shown_gate : (session : Session) (first : Option BackendId) → (shown session first).session.gate ≡ session.gate
shown_gate session None = stranded_gate session
shown_gate session (Some b) = refl

entered_gate : (session : Session) (work : Work) (first : Option BackendId) → (snapshot_entered session work first).session.gate ≡ session.gate
entered_gate session work None = stranded_gate session
entered_gate session work (Some b) = refl

left_gate : (session : Session) (work : Work) (first : Option BackendId) → (snapshot_left session work first).session.gate ≡ session.gate
left_gate session work None = stranded_gate session
left_gate session work (Some b) = started_gate session work work.class

-- The end of a chain.

-- where a run is under way the session is live at the gate, and a count adds its tables
count_tables : (phase : GatePhase) (more : ℕ) (work : Work) → fits_stage (Running work) phase ≡ true → tables_of (phase_changed phase more) ≡ bit_or (tables_of phase) more
count_tables (phases.Live changed tables) more work fits = refl
count_tables phases.Out more work fits = absurd (let z : false ≡ true = fits in cc)
count_tables phases.InSnapshot more work fits = absurd (let z : false ≡ true = fits in cc)
count_tables phases.InCommit more work fits = absurd (let z : false ≡ true = fits in cc)

reading_fits : (phase : GatePhase) (work : Work) (ticket : ℕ) → fits_stage (Reading work ticket) phase ≡ true → fits_stage (Running work) phase ≡ true
reading_fits (phases.Live changed tables) work ticket fits = refl
reading_fits phases.Out work ticket fits = absurd (let z : false ≡ true = fits in cc)
reading_fits phases.InSnapshot work ticket fits = absurd (let z : false ≡ true = fits in cc)
reading_fits phases.InCommit work ticket fits = absurd (let z : false ≡ true = fits in cc)

inserting_fits : (phase : GatePhase) (work : Work) (posted : Bool) → fits_stage (Inserting work posted) phase ≡ true → fits_stage (Running work) phase ≡ true
inserting_fits (phases.Live changed tables) work posted fits = refl
inserting_fits phases.Out work posted fits = absurd (let z : false ≡ true = fits in cc)
inserting_fits phases.InSnapshot work posted fits = absurd (let z : false ≡ true = fits in cc)
inserting_fits phases.InCommit work posted fits = absurd (let z : false ≡ true = fits in cc)

module _ (point : Point) (behind : Bool) (session : Session) (work : Work) (fits : fits_stage (Running work) session.gate ≡ true) where
  ran_leads : RunsIn point work → (answer : Answer) → Leads point session.gate (ran behind session work answer).session.gate (decided_run answer)
  ran_leads runs_in answers.Began = runs work answers.Began runs_in refl refl
  ran_leads runs_in (answers.Rows rows) = runs work (answers.Rows rows) runs_in refl refl
  ran_leads runs_in (answers.Count n) = runs work (answers.Count n) runs_in refl (count_tables session.gate work.tables work fits)
  ran_leads runs_in answers.Locked = runs work answers.Locked runs_in refl refl
  ran_leads runs_in answers.Done = runs work answers.Done runs_in refl refl
  ran_leads runs_in (answers.Serial n) = runs work (answers.Serial n) runs_in refl refl
  ran_leads runs_in (answers.Refused code) = falls code refl

  inserted_leads : (posted : Bool) → stage_at point ≡ Some (Inserting work posted) → (answer : Answer)
      → Leads point session.gate (ran behind session work answer).session.gate (decided_by (Inserting work posted) answer)
  inserted_leads posted at answers.Began = inserts work posted answers.Began at refl refl
  inserted_leads posted at (answers.Rows rows) = inserts work posted (answers.Rows rows) at refl refl
  inserted_leads posted at (answers.Count n) = inserts work posted (answers.Count n) at refl (count_tables session.gate work.tables work fits)
  inserted_leads posted at answers.Locked = inserts work posted answers.Locked at refl refl
  inserted_leads posted at answers.Done = inserts work posted answers.Done at refl refl
  inserted_leads posted at (answers.Serial n) = inserts work posted (answers.Serial n) at refl refl
  inserted_leads posted at (answers.Refused code) = insert_falls work posted code at refl

module _ (point : Point) (behind : Bool) (session : Session) where
  locked_leads : (work : Work) (answer : Answer) → Leads point session.gate (locked behind session work (refusal_of answer)).session.gate (decided_lock answer)
  locked_leads work answers.Began = nothing point session.gate _ (begun_gate behind session (Inserting work false))
  locked_leads work (answers.Rows rows) = nothing point session.gate _ (begun_gate behind session (Inserting work false))
  locked_leads work (answers.Count n) = nothing point session.gate _ (begun_gate behind session (Inserting work false))
  locked_leads work answers.Locked = nothing point session.gate _ (begun_gate behind session (Inserting work false))
  locked_leads work answers.Done = nothing point session.gate _ (begun_gate behind session (Inserting work false))
  locked_leads work (answers.Serial n) = nothing point session.gate _ (begun_gate behind session (Inserting work false))
  locked_leads work (answers.Refused code) = falls code refl

  closed_leads : (stage : Stage) (answer : Answer) → stage_at point ≡ Some stage → fits_stage stage session.gate ≡ true
      → Leads point session.gate (closed behind session stage answer).session.gate (decided_by stage answer)
  closed_leads (Opening work) answer at fits = nothing point session.gate _ (opened_gate behind session work (refusal_of answer))
  closed_leads (Reading work ticket) answer at fits = ran_leads point behind session work (reading_fits session.gate work ticket fits) (inr (ticket, at)) answer
  closed_leads (Running work) answer at fits = ran_leads point behind session work fits (inl at) answer
  closed_leads (Locking work table) answer at fits = locked_leads work answer
  closed_leads (Inserting work posted) answer at fits = inserted_leads point behind session work (inserting_fits session.gate work posted fits) posted at answer
  closed_leads Committing answer at fits = nothing point session.gate _ refl
  closed_leads Closing answer at fits = nothing point session.gate _ refl
  closed_leads (RollingBack ending) answer at fits = nothing point session.gate _ (released_gate session session.gate ending)

-- A Look and a detachment of a chain.

module _ (point : Point) (session : Session) (stage : Stage) (at : stage_at point ≡ Some stage) (fits : fits_stage stage session.gate ≡ true) where
  kept_leads : (best : Heard) (more : Bool) (other : Option Heard)
      → Leads point session.gate (split true session stage best session.view.attached more other).session.gate (where_decided stage (one_kept more other best.answer))
  kept_leads best true (Some own) = nothing point session.gate _ refl
  kept_leads best false (Some own) = nothing point session.gate _ refl
  kept_leads best true None = nothing point session.gate _ refl
  kept_leads best false None = closed_leads point true session stage best.answer at fits

  judged_leads : (found : Option Heard) → Leads point session.gate (judged session stage found).session.gate (where_decided stage (kept_of session found))
  judged_leads None = nothing point session.gate _ refl
  judged_leads (Some best) =
      kept_leads best (goes_on session.view.attached.bits session.heard best.answer) (first_other session.view.attached.bits best.answer 0 session.heard)

  asked_leads : (next : Option BackendId) → Leads point session.gate (asked session stage next).session.gate (where_decided stage (closing_chain session next))
  unfolding asked
  asked_leads (Some b) = nothing point session.gate _ refl
  asked_leads None = judged_leads (kept session.view.attached.bits session.heard)

  parts_leads : (best : Heard) (among : BackendSet) (more : Bool) (other : Option Heard) (b : BackendId)
      → Leads point session.gate (split false session stage best among more other).session.gate (where_decided stage (closing_split session best other more (Some b)))
  parts_leads best among more (Some next) b = nothing point session.gate _ refl
  parts_leads best among true None b = nothing point session.gate _ refl
  parts_leads best among false None b = closed_leads point false session stage best.answer at fits

module _ (point : Point) (session : Session) (work : Work) (ticket : ℕ) (at : stage_at point ≡ Some (Reading work ticket)) (fits : fits_stage (Reading work ticket) session.gate ≡ true) where
  counted_leads : (h : Heard) (v : Bool)
      → Leads point session.gate (if v then closed true session (Reading work ticket) h.answer else chosen session work ticket).session.gate
      (where_decided (Reading work ticket) (read_answer v h.answer))
  counted_leads h true = closed_leads point true session (Reading work ticket) h.answer at fits
  counted_leads h false = nothing point session.gate _ (chosen_gate session work ticket)

  read_leads : (heard : List Heard) → Leads point session.gate (read session work ticket heard).session.gate (where_decided (Reading work ticket) (closing_read session heard))
  read_leads [] = nothing point session.gate _ (chosen_gate session work ticket)
  read_leads (h ∷ hs) = counted_leads h (counts session.view.attached.bits h)

shows_leads : (point : Point) (session : Session) (stage : Stage) → stage_at point ≡ Some stage → fits_stage stage session.gate ≡ true
    → Leads point session.gate (looked session stage).session.gate (where_decided stage (closing_at session stage))
shows_leads point session (Reading work ticket) at fits = read_leads point session work ticket at fits session.heard
shows_leads point session (Opening work) at fits = asked_leads point session (Opening work) at fits (next_of (kind_of (Opening work)) session.view.attached.bits session.heard)
shows_leads point session (Running work) at fits = asked_leads point session (Running work) at fits (next_of (kind_of (Running work)) session.view.attached.bits session.heard)
shows_leads point session (Locking work table) at fits = asked_leads point session (Locking work table) at fits (next_of (kind_of (Locking work table)) session.view.attached.bits session.heard)
shows_leads point session (Inserting work posted) at fits = asked_leads point session (Inserting work posted) at fits (next_of (kind_of (Inserting work posted)) session.view.attached.bits session.heard)
shows_leads point session Committing at fits = asked_leads point session Committing at fits (next_of (kind_of Committing) session.view.attached.bits session.heard)
shows_leads point session Closing at fits = asked_leads point session Closing at fits (next_of (kind_of Closing) session.view.attached.bits session.heard)
shows_leads point session (RollingBack ending) at fits = asked_leads point session (RollingBack ending) at fits (next_of (kind_of (RollingBack ending)) session.view.attached.bits session.heard)

look_leads : (point : Point) (session : Session) (stage : Stage) → stage_at point ≡ Some stage → fits_stage stage session.gate ≡ true → (first : Option BackendId)
    → Leads point session.gate (looked_at session stage first).session.gate (where_decided stage (closing_look session stage first))
look_leads point session stage at fits None = nothing point session.gate _ (stranded_in_gate session stage)
look_leads point session stage at fits (Some b) = shows_leads point session stage at fits

-- The other calls of the gate.

abbrev pub Finishes : Point → Type 0
Finishes (FinishDue ending) = Unit {0}
Finishes point = ⊥

pub finish_is : (point : Point) → Finishes point → (ending : Ending) × (point ≡ FinishDue ending)
finish_is (FinishDue ending) e = (ending, refl)
finish_is point e = absurd e

-- who is not live at the gate has no mask
enters_none : (phase : GatePhase) (work : Work) → fits_point (EnterDue work) phase ≡ true → tables_of phase ≡ 0
enters_none phases.Out work fits = refl
enters_none phases.InSnapshot work fits = refl
enters_none (phases.Live changed tables) work fits = absurd (let z : false ≡ true = fits in cc)
enters_none phases.InCommit work fits = refl

leaves_none : (phase : GatePhase) (work : Work) → fits_point (LeaveSnapshotDue work) phase ≡ true → tables_of phase ≡ 0
leaves_none phases.Out work fits = refl
leaves_none phases.InSnapshot work fits = refl
leaves_none (phases.Live changed tables) work fits = absurd (let z : false ≡ true = fits in cc)
leaves_none phases.InCommit work fits = refl

commits_none : (phase : GatePhase) (ending : Ending) → fits_point (LeaveCommitDue ending) phase ≡ true → tables_of phase ≡ 0
commits_none phases.Out ending fits = refl
commits_none phases.InSnapshot ending fits = refl
commits_none (phases.Live changed tables) ending fits = absurd (let z : false ≡ true = fits in cc)
commits_none phases.InCommit ending fits = refl

unwinds_none : (phase : GatePhase) (ending : Ending) → fits_point (UnwindDue ending) phase ≡ true → tables_of phase ≡ 0
unwinds_none phases.Out ending fits = refl
unwinds_none phases.InSnapshot ending fits = refl
unwinds_none (phases.Live changed tables) ending fits = absurd (let z : false ≡ true = fits in cc)
unwinds_none phases.InCommit ending fits = refl

ends_none : (phase : GatePhase) → fits_point EndDue phase ≡ true → tables_of phase ≡ 0
ends_none phases.Out fits = refl
ends_none phases.InSnapshot fits = refl
ends_none (phases.Live changed tables) fits = absurd (let z : false ≡ true = fits in cc)
ends_none phases.InCommit fits = refl

granted_leads : (session : Session) (point : Point) → FitsPoint (stage_at point) point session.gate → (Finishes point → ⊥)
    → Leads point session.gate (granted session point).session.gate (at_granted session point)
unfolding granted
granted_leads session (EnterDue work) fits on =
    places_nothing refl (ap tables_of (entered_gate (in_phase session phases.InSnapshot) work (primary session)) ∙ sym (enters_none session.gate work fits))
granted_leads session (LookDue stage) fits on = look_leads (LookDue stage) session stage refl fits (primary session)
granted_leads session (ChooseDue work) fits on = nothing (ChooseDue work) session.gate _ (first_gate session work (primary session))
granted_leads session ShowDue fits on = nothing ShowDue session.gate _ (shown_gate session (primary session))
granted_leads session (LeaveSnapshotDue work) fits on =
    places_nothing refl (ap tables_of (left_gate (in_phase session (phases.Live false 0)) work (primary session)) ∙ sym (leaves_none session.gate work fits))
granted_leads session (UnwindDue ending) fits on = places_nothing refl (sym (unwinds_none session.gate ending fits))
granted_leads session EnterCommitDue fits on = commits_entered refl refl
granted_leads session (LeaveCommitDue ending) fits on =
    places_nothing refl (ap tables_of (ended_gate (in_phase session phases.Out) ending) ∙ sym (commits_none session.gate ending fits))
granted_leads session (FinishDue ending) fits on = absurd (on tt)
granted_leads session Resting fits on = nothing Resting session.gate _ refl
granted_leads session (PostDue stage b) fits on = nothing (PostDue stage b) session.gate _ refl
granted_leads session (Waiting stage b) fits on = nothing (Waiting stage b) session.gate _ refl
granted_leads session (LostDue stage b before more) fits on = nothing (LostDue stage b before more) session.gate _ refl
granted_leads session (SplitDue stage best own among more) fits on = nothing (SplitDue stage best own among more) session.gate _ refl
granted_leads session (ReplyDue outcome) fits on = nothing (ReplyDue outcome) session.gate _ refl
granted_leads session EndDue fits on = nothing EndDue session.gate _ refl

called_leads : (session : Session) (point : Point) (answer : GateAnswer) → FitsPoint (stage_at point) point session.gate → (Finishes point → ⊥)
    → Leads point session.gate (called session point answer).session.gate (at_call session point answer)
unfolding called
called_leads session point (Seen view) fits on = granted_leads (with_view session view) point fits on
called_leads session point (Granted view) fits on = granted_leads (with_view session view) point fits on
called_leads session point (Held count) fits on = nothing point session.gate _ refl
called_leads session point Spent fits on = rolls refl

lost_gate : (session : Session) (stage : Stage) (first : Option BackendId) → (lost_one session stage first).session.gate ≡ session.gate
lost_gate session stage None = stranded_in_gate session stage
lost_gate session stage (Some b) = refl

split_leads : (session : Session) (stage : Stage) (best own : Heard) (among : BackendSet) (more : Bool) (first : Option BackendId) → fits_stage stage session.gate ≡ true
    → Leads (SplitDue stage best own among more) session.gate (parted session stage best own among more first).session.gate
    (where_decided stage (closing_split session best (first_other among.bits best.answer (own.b.number + 1) session.heard) more first))
split_leads session stage best own among more None fits = nothing (SplitDue stage best own among more) session.gate _ (stranded_in_gate session stage)
split_leads session stage best own among more (Some b) fits =
    parts_leads (SplitDue stage best own among more) session stage refl fits best among more (first_other among.bits best.answer (own.b.number + 1) session.heard) b

parted_leads : (session : Session) (point : Point) → FitsPoint (stage_at point) point session.gate → Leads point session.gate (parted_at session point).session.gate (at_parted session point)
parted_leads session (LostDue stage b before more) fits = nothing (LostDue stage b before more) session.gate _ (lost_gate session stage (primary session))
parted_leads session (SplitDue stage best own among more) fits = split_leads session stage best own among more (primary session) fits
parted_leads session point fits = nothing point session.gate _ refl

detached_leads : (session : Session) (point : Point) (answer : GateAnswer) → FitsPoint (stage_at point) point session.gate
    → Leads point session.gate (detached session point answer).session.gate (at_detach session point answer)
unfolding detached
detached_leads session point (Seen view) fits = parted_leads (with_view session view) point fits
detached_leads session point (Granted view) fits = parted_leads (with_view session view) point fits
detached_leads session point (Held count) fits = nothing point session.gate _ refl
detached_leads session point Spent fits = nothing point session.gate _ refl

-- Orders.

module _ (point : Point) (session : Session) where
  stated_leads : (moment : ℤ) (work : Option Work) → Leads point session.gate (stated session moment work).session.gate (at_statement work)
  stated_leads moment None = rolls refl
  stated_leads moment (Some work) = asks_on work refl (ap tables_of (entering_gate (record session { moment = moment }) session.gate work))

  begins_leads : (moment : ℤ) (status : Status) → Leads point session.gate (block_begun session moment status).session.gate []
  unfolding block_begun
  begins_leads moment Idle = nothing point session.gate _ refl
  begins_leads moment InBlock = nothing point session.gate _ refl
  begins_leads moment Failed = nothing point session.gate _ refl

  commits_leads : (phase : GatePhase) (outcome : Outcome) → session.gate ≡ phase → Leads point session.gate (committing session phase outcome).session.gate (at_commit phase)
  commits_leads phases.Out outcome is = nothing point session.gate _ refl
  commits_leads phases.InSnapshot outcome is = nothing point session.gate _ refl
  commits_leads (phases.Live true tables) outcome is = nothing point session.gate _ refl
  commits_leads (phases.Live false tables) outcome is = commits_unchanged refl tables is
  commits_leads phases.InCommit outcome is = nothing point session.gate _ refl

  block_leads : (status : Status) → Leads point session.gate (block_committed session status).session.gate (at_block_commit status session.gate)
  unfolding block_committed
  block_leads Idle = nothing point session.gate _ refl
  block_leads InBlock = commits_leads session.gate (done_with tags.Commit) refl
  block_leads Failed = nothing point session.gate _ refl

  rolled_leads : (status : Status) → Leads point session.gate (block_rolled_back session status).session.gate (at_rollback status)
  unfolding block_rolled_back
  rolled_leads Idle = nothing point session.gate _ refl
  rolled_leads InBlock = rolls refl
  rolled_leads Failed = nothing point session.gate _ refl

  settled_leads : (status : Status) → Leads point session.gate (settled session status).session.gate (at_settle status session.gate)
  unfolding settled
  settled_leads Idle = commits_leads session.gate outcomes.Settled refl
  settled_leads InBlock = nothing point session.gate _ refl
  settled_leads Failed = nothing point session.gate _ refl

  ordered_leads : (moment : ℤ) (body : OrderBody) → Leads point session.gate (ordered session point moment body).session.gate (at_order session moment body)
  unfolding ordered stated_at
  ordered_leads moment (orders.Statement checked) =
      stated_leads (moment_at session.status session.gate session.moment moment) (rewritten (moment_at session.status session.gate session.moment moment) (work_in checked))
  ordered_leads moment orders.Begin = begins_leads moment session.status
  ordered_leads moment orders.Commit = block_leads session.status
  ordered_leads moment orders.Rollback = rolled_leads session.status
  ordered_leads moment orders.Settle = settled_leads session.status
  ordered_leads moment orders.ShowNodes = nothing point session.gate _ refl
  ordered_leads moment (orders.Recover b) = nothing point session.gate _ refl
  ordered_leads moment (orders.Refuse code name) = rolls refl
  ordered_leads moment orders.Leave = rolls refl

-- Every event.

posted_gate : (session : Session) (point : Point) → (posted session point).session.gate ≡ session.gate
posted_gate session (PostDue stage b) = refl
posted_gate session point = refl

taken_gate : (session : Session) (b : BackendId) (answer : Answer) (point : Point) → (taken session b answer point).session.gate ≡ session.gate
taken_gate session b answer (Waiting stage asked) = refl
taken_gate session b answer point = refl

faulted_gate : (session : Session) (before more : ℕ) (point : Point) → (faulted session before more point).session.gate ≡ session.gate
faulted_gate session before more (Waiting stage b) = refl
faulted_gate session before more point = refl

end_none : (session : Session) (point : Point) → action_at session point ≡ actions.End → FitsPoint (stage_at point) point session.gate → tables_of session.gate ≡ 0
end_none session EndDue e fits = ends_none session.gate fits
end_none session point e fits = absurd (cc)

-- an end is due where it comes
abbrev pub IsEndAt : Session → Point → SessionEvent → Type 0
IsEndAt session point events.Ended = action_at session point ≡ actions.End
IsEndAt session point event = Unit {0}

pub event_leads : (session : Session) (point : Point) (event : SessionEvent) → FitsPoint (stage_at point) point session.gate → (Finishes point → ⊥) → IsEndAt session point event
    → Leads point session.gate (after_at session point event).session.gate (place_of session point event)
unfolding after_at
event_leads session point (events.Ordered order) fits on due_end = ordered_leads point session order.moment order.body
event_leads session point (events.Called call answer) fits on due_end = called_leads session point answer fits on
event_leads session point (events.Posted b request) fits on due_end = nothing point session.gate _ (posted_gate session point)
event_leads session point (events.Taken b answer) fits on due_end = nothing point session.gate _ (taken_gate session b answer point)
event_leads session point (events.Faulted b before more) fits on due_end = nothing point session.gate _ (faulted_gate session before more point)
event_leads session point (events.Detached b cause answer) fits on due_end = detached_leads session point answer fits
event_leads session point (events.Swapped b) fits on due_end = nothing point session.gate _ refl
event_leads session point (events.Replied outcome status) fits on due_end = nothing point session.gate _ refl
event_leads session point events.Ended fits on due_end = places_nothing refl (sym (end_none session point due_end fits))
