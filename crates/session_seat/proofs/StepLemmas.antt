-- What is due of a session and what comes of it, and where a step leads.
use mathlib.Core.HLevel.{is_prop→PathP}
use native.Mathlib.Bridge.{le_prop}
use Rattle.std.proofs.Common.{◌≡◌, ◌≤◌, ℕ, List, Result, Ok, Err, refl, sym, ap, ◌∙◌}
use Rattle.std.specs.Prelude.{IfOk, OnOk, if◌then◌else◌}
use Rattle.pool_base.specs.declared.backend_id.BackendId.{BackendId}
use Rattle.pool_base.specs.declared.session_id.SessionId.{SessionId}
use Rattle.schema.specs.declared.catalogue.TableDef.{TableDef}
use Rattle.backend_trait.specs.declared.request.Request.{Request}
use Rattle.session_orders.specs.declared.outcome.Outcome.{Outcome}
use Rattle.session_machine.specs.declared.status.Status.{Status}
use Rattle.session_machine.specs.declared.action.Action.{Action}
use Rattle.session_machine.specs.declared.action.Action.TheVariants as actions
use Rattle.session_machine.specs.declared.action.SessionEvent.TheVariants as events
use Rattle.session_machine.specs.declared.machine.Point.{Point}
use Rattle.session_machine.specs.declared.machine.Point.TheVariants.{Resting, EnterDue, LookDue, PostDue, Waiting, LostDue, SplitDue, ChooseDue, ShowDue, LeaveSnapshotDue, UnwindDue, EnterCommitDue, LeaveCommitDue, FinishDue, ReplyDue, EndDue}
use Rattle.session_machine.specs.declared.machine.ReadPolicy.{ReadPolicy}
use Rattle.session_machine.specs.declared.machine.Session.{Session}
use Rattle.session_machine.specs.declared.machine.Machine.{Machine}
use Rattle.session_machine.specs.Allowed.{MayHappen}
use Rattle.session_machine.specs.Rules.{due, new_machine, action_at, next_action, after_at}
use Rattle.session_engine.specs.declared.ask.Ask.TheVariants as asks
use Rattle.session_engine.specs.Handing.{asked_of, handed, Posts}
use Rattle.session_seat.specs.declared.step.Step.{Step}
use Rattle.session_seat.specs.declared.step.Step.TheVariants as steps
use Rattle.session_seat.specs.Told.{added, told_of}
use Rattle.session_seat.specs.Shared.{Serves}
use Rattle.session_seat.specs.Schedule.{led}
use Rattle.session_seat.specs.Steps.{IsDid, Stand, TookPlace, IsStep}
use Rattle.session_seat.specs.Speech.{IsQuiet, IsQuietStep}
use Rattle.session_seat.proofs.ServedLemmas.{IsLostAt}

-- What is asked for is the post of a request.
pub post_due : (action : Action) (b : BackendId) (request : Request) → asked_of action ≡ asks.Post b → Posts action request → action ≡ actions.Post b request
post_due actions.Rest b request asked is = absurd is
post_due (actions.Gate call) b request asked is = absurd is
post_due (actions.Detach c cause) b request asked is = absurd is
post_due (actions.Post c other) b request asked is = let same : c ≡ b = cc in ap (λ (d : BackendId). actions.Post d other) same ∙ ap (actions.Post b) (sym is)
post_due (actions.WaitFor c) b request asked is = absurd is
post_due (actions.Reply outcome status) b request asked is = absurd is
post_due actions.End b request asked is = absurd is

-- A reply and an end that are handed out have taken place.

replied_at : (session : Session) (point : Point) (outcome : Outcome) (status : Status) → actions.Reply outcome status ≡ action_at session point
    → handed (due session point) ≡ led (due session point) (events.Replied outcome status)
unfolding after_at
replied_at session Resting outcome status is = absurd (cc)
replied_at session (EnterDue work) outcome status is = absurd (cc)
replied_at session (LookDue stage) outcome status is = absurd (cc)
replied_at session (PostDue stage b) outcome status is = absurd (cc)
replied_at session (Waiting stage b) outcome status is = absurd (cc)
replied_at session (LostDue stage b before later) outcome status is = absurd (cc)
replied_at session (SplitDue stage best own among more) outcome status is = absurd (cc)
replied_at session (ChooseDue work) outcome status is = absurd (cc)
replied_at session ShowDue outcome status is = absurd (cc)
replied_at session (LeaveSnapshotDue work) outcome status is = absurd (cc)
replied_at session (UnwindDue ending) outcome status is = absurd (cc)
replied_at session EnterCommitDue outcome status is = absurd (cc)
replied_at session (LeaveCommitDue ending) outcome status is = absurd (cc)
replied_at session (FinishDue ending) outcome status is = absurd (cc)
replied_at session (ReplyDue other) outcome status is = refl
replied_at session EndDue outcome status is = absurd (cc)

pub replied : (m : Machine) (outcome : Outcome) (status : Status) → actions.Reply outcome status ≡ next_action m → handed m ≡ led m (events.Replied outcome status)
replied m outcome status is = replied_at m.session m.point outcome status is

ended_at : (session : Session) (point : Point) → action_at session point ≡ actions.End → handed (due session point) ≡ led (due session point) events.Ended
unfolding after_at
ended_at session Resting is = absurd (cc)
ended_at session (EnterDue work) is = absurd (cc)
ended_at session (LookDue stage) is = absurd (cc)
ended_at session (PostDue stage b) is = absurd (cc)
ended_at session (Waiting stage b) is = absurd (cc)
ended_at session (LostDue stage b before later) is = absurd (cc)
ended_at session (SplitDue stage best own among more) is = absurd (cc)
ended_at session (ChooseDue work) is = absurd (cc)
ended_at session ShowDue is = absurd (cc)
ended_at session (LeaveSnapshotDue work) is = absurd (cc)
ended_at session (UnwindDue ending) is = absurd (cc)
ended_at session EnterCommitDue is = absurd (cc)
ended_at session (LeaveCommitDue ending) is = absurd (cc)
ended_at session (FinishDue ending) is = absurd (cc)
ended_at session (ReplyDue other) is = absurd (cc)
ended_at session EndDue is = refl

pub ended : (m : Machine) → next_action m ≡ actions.End → handed m ≡ led m events.Ended
ended m is = ended_at m.session m.point is

-- A step by which an event took place at which nothing is told.

took : (tables : List TableDef) (s : SessionId) (old new : Stand) (step : Step) → IsDid step → (took : TookPlace tables s old new) × IsQuiet took.event → IsQuietStep tables s old step new
took tables s old new (steps.Did mark) is place = place
took tables s old new steps.Waits is place = absurd is
took tables s old new steps.Idle is place = absurd is
took tables s old new steps.Closed is place = absurd is
took tables s old new (steps.Recovers moment number) is place = absurd is

pub quiet_step : (tables : List TableDef) (policy : ReadPolicy) (s : SessionId) (old new : Stand) (step : Step) → IsQuietStep tables s old step new → IsStep tables policy s old step new
quiet_step tables policy s old new (steps.Did mark) is = is.0
quiet_step tables policy s old new steps.Waits is = is
quiet_step tables policy s old new steps.Idle is = absurd is
quiet_step tables policy s old new steps.Closed is = absurd is
quiet_step tables policy s old new (steps.Recovers moment number) is = absurd is

pub quiet_ok : {E : Type 0} (tables : List TableDef) (policy : ReadPolicy) (s : SessionId) (old new : Stand) (result : Result Step E) → IfOk result (λ step. IsQuietStep tables s old step new)
    → IfOk result (λ step. IsStep tables policy s old step new)
quiet_ok tables policy s old new (Ok step) is = quiet_step tables policy s old new step is
quiet_ok tables policy s old new (Err fault) is = tt

-- a request was posted
pub posted_step : {E : Type 0} (tables : List TableDef) (s : SessionId) (old new : Stand) (b : BackendId) (request : Request) (text : List ℕ) (result : Result Step E)
    → IfOk result IsDid → OnOk result (new.machine ≡ led old.machine (events.Posted b request)) → OnOk result (new.journal ≡ added old.journal text)
    → new.shared.gate ≡ old.shared.gate → OnOk result (Serves tables old.shared.stores s.number (events.Posted b request) new.shared.stores) → MayHappen old.machine (events.Posted b request)
    → added old.journal text ≡ added old.journal (told_of tables s (events.Posted b request)) → IfOk result (λ step. IsQuietStep tables s old step new)
posted_step tables s old new b request text (Ok step) is leads line gate serves may same =
    took tables s old new step is
    (record { event = events.Posted b request; moves = record { may = may; answered = gate; serves = serves; leads = leads }; tells = line ∙ same }, tt)
posted_step tables s old new b request text (Err fault) is leads line gate serves may same = tt

-- a backend was found lost
pub missed_step : {E : Type 0} (tables : List TableDef) (s : SessionId) (old new : Stand) (b : BackendId) (before later : ℕ) (result : Result Step E)
    → IfOk result IsDid → MayHappen old.machine (events.Faulted b before later)
    → OnOk result (new.machine ≡ led old.machine (events.Faulted b before later)) → OnOk result (new.journal ≡ added old.journal (told_of tables s (events.Faulted b before later)))
    → new.shared.gate ≡ old.shared.gate → IsLostAt old.shared.stores b.number s.number new.shared.stores → IfOk result (λ step. IsQuietStep tables s old step new)
missed_step tables s old new b before later (Ok step) is may leads line gate lost =
    took tables s old new step is
    (record { event = events.Faulted b before later; moves = record { may = may; answered = gate; serves = (lost.lost, (lost.waits, lost.same)); leads = leads }; tells = line }, tt)
missed_step tables s old new b before later (Err fault) is may leads line gate lost = tt

-- A session is its number.

pub same_session : (s t : SessionId) → s.number ≡ t.number → s ≡ t
same_session s t e =
    λ i. record {
      number = e i;
      from_one = is_prop→PathP (λ j. 1 ≤ e j) (λ j. le_prop) s.from_one t.from_one i;
      up_to_64 = is_prop→PathP (λ j. e j ≤ 64) (λ j. le_prop) s.up_to_64 t.up_to_64 i;
    }

-- a machine of this number and policy at its start
pub new_as : (a b : Machine) (id s : SessionId) (policy wanted : ReadPolicy) → a ≡ b → a ≡ new_machine id policy → id ≡ s → policy ≡ wanted → b ≡ new_machine s wanted
new_as a b id s policy wanted same start own way = sym same ∙ (start ∙ (ap (λ (t : SessionId). new_machine t policy) own ∙ ap (new_machine s) way))

pub start_of : (a b : Machine) (id s : SessionId) (policy wanted : ReadPolicy) → a ≡ b → b ≡ new_machine s wanted → id ≡ s → policy ≡ wanted → a ≡ new_machine id policy
start_of a b id s policy wanted same start own way = same ∙ (start ∙ sym (ap (λ (t : SessionId). new_machine t policy) own ∙ ap (new_machine s) way))
