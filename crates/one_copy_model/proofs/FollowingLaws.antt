-- One copy and acknowledged commits follow, where the invariant holds at every moment.
use Rattle.std.proofs.Common.{◌≡◌, ◌≢◌, ℕ, true, false, List, [], ◌∷◌, refl, sym, ap, ◌∙◌, subst}
use Rattle.std.specs.Prelude.{is_some, Option, Some, None}
use Rattle.pool_base.specs.declared.backend_set.BackendSet.{BackendSet}
use Rattle.schema.specs.declared.catalogue.TableDef.{TableDef}
use Rattle.session_orders.specs.declared.order.OrderBody.{OrderBody}
use Rattle.session_orders.specs.declared.order.OrderBody.TheVariants as orders
use Rattle.session_orders.specs.declared.outcome.Outcome.{Outcome}
use Rattle.session_machine.specs.declared.status.Status.{Status}
use Rattle.session_machine.specs.declared.action.Action.TheVariants as actions
use Rattle.session_machine.specs.declared.action.SessionEvent.{SessionEvent}
use Rattle.session_machine.specs.declared.action.SessionEvent.TheVariants as events
use Rattle.session_machine.specs.declared.machine.ReadPolicy.{ReadPolicy}
use Rattle.session_machine.specs.declared.machine.Point.{Point}
use Rattle.session_machine.specs.declared.machine.Point.TheVariants.{Resting, ReplyDue}
use Rattle.session_machine.specs.declared.machine.Session.{Session}
use Rattle.session_machine.specs.Rules.{action_at}
use Rattle.session_machine.specs.Allowed.{MayHappen as MachineMay, is_resting, fits_at_rest, may_order}
use Rattle.one_copy_model.specs.declared.event.Event.{Event}
use Rattle.one_copy_model.specs.declared.event.Event.TheVariants.{Of, Act, Lost}
use Rattle.one_copy_model.specs.World.{World, first_world, after, MayHappen, IsSchedule}
use Rattle.one_copy_model.specs.Deaths.{stage_at, answer_from}
use Rattle.one_copy_model.specs.SingleRun.{IsRun}
use Rattle.one_copy_model.specs.Tracking.{Told, Tracked, first_tracked, tracked_after, tracked_all, single_run}
use Rattle.one_copy_model.specs.Replies.{IsReply, IsDoneBy, WhereEntered, FollowsReply, RepliesRightAt, RepliesRight, RepliesMatch, AcknowledgedAt, Acknowledged, AllAcknowledged}
use Rattle.one_copy_model.specs.Statement.{IsOneCopy}
use Rattle.one_copy_model.specs.Standing.{Leaving, standing_by, standing_of}
use Rattle.one_copy_model.specs.Orders.{reply_in}
use Rattle.one_copy_model.specs.Invariant.{Invariant, AlwaysHolds, IsUnderWay}
use Rattle.one_copy_model.proofs.InvariantLaws.{open_stays}

-- an order comes at rest, where none is under way
rests : (point : Point) (session : Session) (body : OrderBody) (told : Option Told) → fits_at_rest (is_resting point) session.status session.gate body ≡ true → IsUnderWay point told → told ≡ None
rests Resting session body told may under = under
rests point session body told may under = absurd (cc)

follows : (session : Session) (point : Point) (body : OrderBody) (told : Option Told) → may_order session point body ≡ true → IsUnderWay point told → FollowsReply body told
follows session point orders.Leave told may under = tt
follows session point (orders.Recover b) told may under = absurd (cc)
follows session point (orders.Statement checked) told may under = rests point session (orders.Statement checked) told may under
follows session point orders.Begin told may under = rests point session orders.Begin told may under
follows session point orders.Commit told may under = rests point session orders.Commit told may under
follows session point orders.Rollback told may under = rests point session orders.Rollback told may under
follows session point orders.Settle told may under = rests point session orders.Settle told may under
follows session point orders.ShowNodes told may under = rests point session orders.ShowNodes told may under
follows session point (orders.Refuse code name) told may under = rests point session (orders.Refuse code name) told may under

-- a reply comes where it is due
pub reply_point : (session : Session) (point : Point) (outcome : Outcome) (status : Status) → action_at session point ≡ actions.Reply outcome status → point ≡ ReplyDue outcome
reply_point session (ReplyDue due) outcome status e = ap ReplyDue (let same : due ≡ outcome = cc in same)
reply_point session point outcome status e = absurd (cc)

module _ (t : Tracked) (h : Invariant t) where
  reply_right : (s : ℕ) (outcome : Outcome) → (t.world.machine s).point ≡ ReplyDue outcome → (x : Option Told) → t.orders s ≡ x → IsReply t s x outcome
  reply_right s outcome due None e =
      let under : is_some (t.orders s) ≡ true = subst (λ (point : Point). IsUnderWay point (t.orders s)) due (h.orders s) in
      absurd (let n : false ≡ true = sym (ap is_some e) ∙ under in cc)
  reply_right s outcome due (Some told) e = h.replies s told outcome e (ap reply_in due)

  stays : (s b : ℕ) (outcome : Outcome) → (t.world.machine s).point ≡ ReplyDue outcome → standing_of t.world s b ≢ Leaving
  stays s b outcome due e =
      open_stays (t.world.machine s).session.gate
      (subst (λ (point : Point). standing_by (t.world.machine s).session.gate point (stage_at point) (answer_from t.world s b) ≡ Leaving) due e)

  done_right : (s : ℕ) (outcome : Outcome) → (t.world.machine s).point ≡ ReplyDue outcome → (x : Option Told) → t.orders s ≡ x → WhereEntered x (IsDoneBy t s)
  done_right s outcome due None e = tt
  done_right s outcome due (Some told) e = λ entered b here. h.done_first s b told e entered here (stays s b outcome due)

  right_of : (s : ℕ) (event : SessionEvent) → MachineMay (t.world.machine s) event → RepliesRightAt t s event
  right_of s (events.Ordered order) may =
      follows (t.world.machine s).session (t.world.machine s).point order.body (t.orders s) may.0 (h.orders s)
  right_of s (events.Replied outcome status) may =
      reply_right s outcome (reply_point (t.world.machine s).session (t.world.machine s).point outcome status may) (t.orders s) refl
  right_of s event may = tt

  acknowledged_of : (s : ℕ) (event : SessionEvent) → MachineMay (t.world.machine s) event → AcknowledgedAt t s event
  acknowledged_of s (events.Replied outcome status) may =
      done_right s outcome (reply_point (t.world.machine s).session (t.world.machine s).point outcome status may) (t.orders s) refl
  acknowledged_of s event may = tt

  right_at : (e : Event) → MayHappen t.world e → RepliesRight t e
  right_at (Of s event) may = right_of s.number event may.0
  right_at (Act s b answer) may = tt
  right_at (Lost b) may = tt

  acknowledged_at : (e : Event) → MayHappen t.world e → Acknowledged t e
  acknowledged_at (Of s event) may = acknowledged_of s.number event may.0
  acknowledged_at (Act s b answer) may = tt
  acknowledged_at (Lost b) may = tt

replies_match : (t : Tracked) (es : List Event) → IsSchedule t.world es → AlwaysHolds t es → RepliesMatch t es
replies_match t [] may h = tt
replies_match t (e ∷ es) may h = (right_at t h.0 e may.0, replies_match (tracked_after t e) es may.1 h.1)

all_acknowledged : (t : Tracked) (es : List Event) → IsSchedule t.world es → AlwaysHolds t es → AllAcknowledged t es
all_acknowledged t [] may h = tt
all_acknowledged t (e ∷ es) may h = (acknowledged_at t h.0 e may.0, all_acknowledged (tracked_after t e) es may.1 h.1)

at_last : (t : Tracked) (es : List Event) → AlwaysHolds t es → Invariant (tracked_all t es)
at_last t [] h = h
at_last t (e ∷ es) h = at_last (tracked_after t e) es h.1

-- no event changes the tables
tables_after : (w : World) (e : Event) → (after w e).tables ≡ w.tables
tables_after w (Of s event) = refl
tables_after w (Act s b answer) = refl
tables_after w (Lost b) = refl

tables_at_last : (t : Tracked) (es : List Event) → (tracked_all t es).world.tables ≡ t.world.tables
tables_at_last t [] = refl
tables_at_last t (e ∷ es) = tables_at_last (tracked_after t e) es ∙ tables_after t.world e

pub one_copy : (tables : List TableDef) (policy : ReadPolicy) (attached : BackendSet) (es : List Event) → IsSchedule (first_world tables policy attached) es → AlwaysHolds (first_tracked tables policy attached) es → IsOneCopy tables policy attached es
one_copy tables policy attached es may h = record {
  run =
      subst (λ (ts : List TableDef). IsRun ts (single_run tables policy attached es)) (tables_at_last (first_tracked tables policy attached) es)
      (at_last (first_tracked tables policy attached) es h).run;
  replies = replies_match (first_tracked tables policy attached) es may h;
}

pub acknowledged : (tables : List TableDef) (policy : ReadPolicy) (attached : BackendSet) (es : List Event) → IsSchedule (first_world tables policy attached) es → AlwaysHolds (first_tracked tables policy attached) es → AllAcknowledged (first_tracked tables policy attached) es
acknowledged tables policy attached es may h = all_acknowledged (first_tracked tables policy attached) es may h
