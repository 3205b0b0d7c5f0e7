-- Over every list of steps: the invariant, right replies, acknowledged commits that are done.
use Rattle.std.proofs.Common.{◌≡◌, ◌≢◌, ◌<◌, ℕ, List, [], ◌∷◌, refl, ap, sym, subst, ◌∙◌, true, false}
use Rattle.std.specs.Prelude.{is_some, Option, Some, None}
use Rattle.pool_base.specs.Sets.{has}
use Rattle.pool_base.specs.declared.session_id.SessionId.{SessionId}
use Rattle.pool_base.specs.declared.backend_set.BackendSet.{BackendSet}
use Rattle.schema.specs.Allowed.{AreAllowed}
use Rattle.backend_trait.specs.declared.request.Request.TheVariants as requests
use Rattle.session_orders.specs.declared.order.OrderBody.{OrderBody}
use Rattle.session_orders.specs.declared.order.OrderBody.TheVariants as orders
use Rattle.session_orders.specs.declared.outcome.Outcome.{Outcome}
use Rattle.session_machine.specs.declared.action.SessionEvent.{SessionEvent}
use Rattle.session_machine.specs.declared.action.SessionEvent.TheVariants as events
use Rattle.session_machine.specs.declared.machine.ReadPolicy.{ReadPolicy}
use Rattle.session_machine.specs.declared.machine.Session.{Session}
use Rattle.session_machine.specs.declared.machine.Point.{Point}
use Rattle.session_machine.specs.declared.machine.Point.TheVariants.{Resting, ReplyDue}
use Rattle.session_machine.specs.Allowed.{is_resting, fits_at_rest, may_order, MayHappen as MachineMay}
use Rattle.online_recovery.specs.declared.layout.Layout.{Layout}
use Rattle.online_recovery.specs.Runs.{Phase}
use Rattle.one_copy_model.specs.declared.event.Event.{Event}
use Rattle.one_copy_model.specs.declared.event.Event.TheVariants.{Of, Act, Lost}
use Rattle.one_copy_model.specs.World.{MayHappen}
use Rattle.one_copy_model.specs.Deaths.{stage_at, answer_from}
use Rattle.one_copy_model.specs.Tracking.{Told, Tracked, single}
use Rattle.one_copy_model.specs.Replies.{IsReply, FollowsReply, IsDoneBy, WhereEntered, RepliesRightAt, RepliesRight, AcknowledgedAt, Acknowledged}
use Rattle.one_copy_model.specs.Statement.{ReplicasAgree}
use Rattle.one_copy_model.specs.Orders.{reply_in}
use Rattle.one_copy_model.specs.Standing.{Leaving, standing_by, standing_of}
use Rattle.one_copy_model.specs.Invariant.{Invariant, IsUnderWay}
use Rattle.one_copy_model.proofs.InvariantLaws.{open_stays, agree}
use Rattle.one_copy_model.proofs.FollowingLaws.{reply_point}
use Rattle.recovery_laws.specs.declared.step.Step.{Step}
use Rattle.recovery_laws.specs.declared.step.Step.TheVariants.{Serve, Recover, Answer as Answers}
use Rattle.recovery_laws.specs.Pool.{Pool, first_pool, world_of, after, MayStep, IsPlayed, pool_all}
use Rattle.recovery_laws.specs.Phases.{phases_after, phases_all, all_outside, AreMet}
use Rattle.recovery_laws.proofs.Meeting.{always_met}
use Rattle.recovery_laws.specs.Steps.{AreFit, IsRightAt, AllHold}
use Rattle.recovery_laws.proofs.Apart.{together_never}
use Rattle.recovery_laws.proofs.Basing.{base_is, number_is, step_adds}
use Rattle.recovery_laws.proofs.Stepping.{Holds, step_holds, first_holds}

-- an order comes at rest, where none is under way
rests : (point : Point) (session : Session) (body : OrderBody) (told : Option Told) → fits_at_rest (is_resting point) session.status session.gate body ≡ true → IsUnderWay point told → told ≡ None
rests Resting session body told may under = under
rests point session body told may under = absurd (cc)

follows : (session : Session) (point : Point) (body : OrderBody) (told : Option Told) → may_order session point body ≡ true → IsUnderWay point told → FollowsReply body told
follows session point orders.Leave told may under = tt
follows session point (orders.Recover b) told may under = absurd (cc)
follows session point (orders.Statement checked) told may under = rests point session (orders.Statement checked) told may under
follows session point orders.Begin told may under = rests point session orders.Begin told may under
follows session point orders.Commit told may under = rests point session orders.Commit told may under
follows session point orders.Rollback told may under = rests point session orders.Rollback told may under
follows session point orders.Settle told may under = rests point session orders.Settle told may under
follows session point orders.ShowNodes told may under = rests point session orders.ShowNodes told may under
follows session point (orders.Refuse code name) told may under = rests point session (orders.Refuse code name) told may under

module _ (t : Tracked) (h : Invariant t) where
  reply_right : (s : ℕ) (outcome : Outcome) → (t.world.machine s).point ≡ ReplyDue outcome → (x : Option Told) → t.orders s ≡ x → IsReply t s x outcome
  reply_right s outcome due None e =
      let under : is_some (t.orders s) ≡ true = subst (λ (point : Point). IsUnderWay point (t.orders s)) due (h.orders s) in
      absurd (let n : false ≡ true = sym (ap is_some e) ∙ under in cc)
  reply_right s outcome due (Some told) e = h.replies s told outcome e (ap reply_in due)

  stays : (s b : ℕ) (outcome : Outcome) → (t.world.machine s).point ≡ ReplyDue outcome → standing_of t.world s b ≢ Leaving
  stays s b outcome due e =
      open_stays (t.world.machine s).session.gate
      (subst (λ (point : Point). standing_by (t.world.machine s).session.gate point (stage_at point) (answer_from t.world s b) ≡ Leaving) due e)

  done_right : (s : ℕ) (outcome : Outcome) → (t.world.machine s).point ≡ ReplyDue outcome → (x : Option Told) → t.orders s ≡ x → WhereEntered x (IsDoneBy t s)
  done_right s outcome due None e = tt
  done_right s outcome due (Some told) e = λ entered b here. h.done_first s b told e entered here (stays s b outcome due)

  right_of : (s : ℕ) (event : SessionEvent) → MachineMay (t.world.machine s) event → RepliesRightAt t s event
  right_of s (events.Ordered order) may =
      follows (t.world.machine s).session (t.world.machine s).point order.body (t.orders s) may.0 (h.orders s)
  right_of s (events.Replied outcome status) may =
      reply_right s outcome (reply_point (t.world.machine s).session (t.world.machine s).point outcome status may) (t.orders s) refl
  right_of s event may = tt

  acknowledged_of : (s : ℕ) (event : SessionEvent) → MachineMay (t.world.machine s) event → AcknowledgedAt t s event
  acknowledged_of s (events.Replied outcome status) may =
      done_right s outcome (reply_point (t.world.machine s).session (t.world.machine s).point outcome status may) (t.orders s) refl
  acknowledged_of s event may = tt

  right_at : (e : Event) → MayHappen t.world e → RepliesRight t e × Acknowledged t e
  right_at (Of s event) may = (right_of s.number event may.0, acknowledged_of s.number event may.0)
  right_at (Act s b answer) may = (tt, tt)
  right_at (Lost b) may = (tt, tt)

step_right : (p : Pool) (e : Step) → Invariant p.tracked → MayStep p e → IsRightAt p e
step_right p (Serve event) inv may = right_at p.tracked inv event may.0
step_right p (Recover s event) inv may = tt
step_right p (Answers s b answer) inv may = tt

all_hold : (p : Pool) (phases : ℕ → Phase) (es : List Step) → IsPlayed p es → AreMet phases es → AreFit p es → Holds p phases → AllHold p es
all_hold p phases [] played met fit h = h.invariant
all_hold p phases (e ∷ es) played met fit h =
    (h.invariant, step_right p e h.invariant played.0, all_hold (after p e) (phases_after phases e) es played.1 met.1 fit.1 (step_holds p phases h e played.0 met.0 fit.0))

pub always_hold : (layout : Layout) (policy : ReadPolicy) (attached : BackendSet) (es : List Step) → AreAllowed layout.tables → attached.bits < 256
    → IsPlayed (first_pool layout policy attached) es → AreFit (first_pool layout policy attached) es → AllHold (first_pool layout policy attached) es
always_hold layout policy attached es allowed few played fit =
    all_hold (first_pool layout policy attached) all_outside es played (always_met layout policy attached es played) fit (first_holds layout policy attached allowed few)

at_last : (p : Pool) (es : List Step) → AllHold p es → Invariant (pool_all p es).tracked
at_last p [] h = h
at_last p (e ∷ es) h = at_last (after p e) es h.2

pub agree_at_last : (layout : Layout) (policy : ReadPolicy) (attached : BackendSet) (es : List Step) → AreAllowed layout.tables → attached.bits < 256
    → IsPlayed (first_pool layout policy attached) es → AreFit (first_pool layout policy attached) es → ReplicasAgree (pool_all (first_pool layout policy attached) es).tracked
agree_at_last layout policy attached es allowed few played fit =
    agree (pool_all (first_pool layout policy attached) es).tracked (at_last (first_pool layout policy attached) es (always_hold layout policy attached es allowed few played fit))

-- what holds at the end of the steps
holds_last : (p : Pool) (phases : ℕ → Phase) (es : List Step) → IsPlayed p es → AreMet phases es → AreFit p es → Holds p phases → Holds (pool_all p es) (phases_all phases es)
holds_last p phases [] played met fit h = h
holds_last p phases (e ∷ es) played met fit h = holds_last (after p e) (phases_after phases e) es played.1 met.1 fit.1 (step_holds p phases h e played.0 met.0 fit.0)

module _ (layout : Layout) (policy : ReadPolicy) (attached : BackendSet) (es : List Step) where
  abbrev last : Pool
  last = pool_all (first_pool layout policy attached) es

  at_the_end : AreAllowed layout.tables → attached.bits < 256 → IsPlayed (first_pool layout policy attached) es → AreFit (first_pool layout policy attached) es
      → Holds last (phases_all all_outside es)
  at_the_end allowed few played fit =
      holds_last (first_pool layout policy attached) all_outside es played (always_met layout policy attached es played) fit (first_holds layout policy attached allowed few)

  pub rows_at_last : (s : SessionId) (b : ℕ) → AreAllowed layout.tables → attached.bits < 256 → IsPlayed (first_pool layout policy attached) es → AreFit (first_pool layout policy attached) es
      → last.asked s.number b ≡ Some requests.TakeSnapshot → has last.gate.attached.bits b ≡ true → ((world_of last).store b).rows ≡ (single last.tracked).rows
  rows_at_last s b allowed few played fit is here =
      base_is last (phases_all all_outside es) (at_the_end allowed few played fit) (together_never layout policy attached es played) s b is here

  pub number_at_last : (s : SessionId) (b table : ℕ) → AreAllowed layout.tables → attached.bits < 256 → IsPlayed (first_pool layout policy attached) es → AreFit (first_pool layout policy attached) es
      → last.asked s.number b ≡ Some (requests.ReadSerial table) → has last.gate.attached.bits b ≡ true → ((world_of last).store b).next table ≡ (single last.tracked).next table
  number_at_last s b table allowed few played fit is here =
      number_is last (phases_all all_outside es) (at_the_end allowed few played fit) (together_never layout policy attached es played) s b table is here

  pub adds_at_last : (e : Step) → AreAllowed layout.tables → attached.bits < 256 → IsPlayed (first_pool layout policy attached) es → AreFit (first_pool layout policy attached) es
      → last.gate.quiet ≡ 3 → (after last e).tracked.history ≡ last.tracked.history
  adds_at_last e allowed few played fit three =
      step_adds last (phases_all all_outside es) (at_the_end allowed few played fit) (together_never layout policy attached es played) e three
