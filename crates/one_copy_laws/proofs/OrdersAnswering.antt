-- The orders that are refused, that end a transaction, and that are answered at once.
use Rattle.std.proofs.Common.{◌≡◌, ℕ, Bool, true, false, List, [], length, refl, sym, ap, ◌∙◌, subst, inl, inr}
use Rattle.std.specs.Prelude.{not, Some, None}
use Rattle.pool_base.specs.declared.code.Code.{Code}
use Rattle.pool_base.specs.declared.session_id.SessionId.{SessionId}
use Rattle.session_machine.specs.declared.action.SessionEvent.TheVariants.{Ordered}
use Rattle.session_orders.specs.declared.order.Order.{Order}
use Rattle.session_orders.specs.declared.order.OrderBody.TheVariants as orders
use Rattle.session_orders.specs.declared.outcome.Outcome.{Outcome}
use Rattle.session_machine.specs.declared.status.Status.{Status}
use Rattle.session_machine.specs.declared.status.Status.TheVariants.{Idle, InBlock, Failed}
use Rattle.session_machine.specs.declared.machine.Machine.{Machine}
use Rattle.session_machine.specs.declared.machine.Session.{Session}
use Rattle.session_machine.specs.Rules.{ordered}
use Rattle.one_copy_model.specs.declared.deed.Deed.{Deed}
use Rattle.one_copy_model.specs.declared.event.Event.TheVariants.{Of}
use Rattle.one_copy_model.specs.Places.{at_order, rolls_back}
use Rattle.one_copy_model.specs.Tracking.{Told, Tracked, tracked_after}
use Rattle.one_copy_model.specs.Invariant.{Invariant, FitsPoint}
use Rattle.one_copy_model.specs.Own.{IsRightBy}
use Rattle.one_copy_model.proofs.Turning.{live_there}
use Rattle.session_machine.specs.Rules.{due, refused, refused_at, failing}
use Rattle.session_machine.specs.declared.machine.Point.TheVariants.{Resting, LookDue, ReplyDue, ShowDue}
use Rattle.session_machine.specs.declared.machine.Stage.TheVariants.{RollingBack}
use Rattle.session_machine.specs.declared.machine.Ending.TheVariants.{Replies}
use Rattle.one_copy_laws.proofs.OrdersOrdering.{if_live, its, told_now}
use Rattle.session_machine.specs.Rules.{done_with, block_begun}
use Rattle.session_machine.specs.Allowed.{fits, is_out}
use Rattle.session_orders.specs.declared.outcome.Outcome.TheVariants as outcomes
use Rattle.session_orders.specs.declared.outcome.Tag.TheVariants as tags
use Rattle.session_machine.specs.Codes.{in_a_block}
use Rattle.one_copy_model.specs.SingleRun.{deeds_since}
use Rattle.one_copy_model.specs.Replies.{reply_to, begin_reply}
use Rattle.one_copy_model.specs.Orders.{lists}
use Rattle.one_copy_model.specs.Own.{IsPools, pools_refusal}
use Rattle.one_copy_laws.proofs.OrdersOrdering.{if_none}
use Rattle.one_copy_laws.proofs.OrdersResting.{RestsIn, phase_is, out_dead, out_same, rest_replies, rest_goes, rest_rolls}

module _ (t : Tracked) (h : Invariant t) (s : SessionId) (order : Order) (rest : (its t s order).point ≡ Resting) where
  abbrev m : Machine
  m = t.world.machine s.number

  abbrev told : Told
  told = told_now t s order

  abbrev attached : ℕ
  attached = t.world.gate.attached.bits

  abbrev live : Bool
  live = live_there t s.number

  abbrev Kept : Type 0
  Kept = Invariant (tracked_after t (Of s (Ordered order)))

  abbrev Leads : Machine → Type 0
  Leads n = ordered m.session m.point order.moment order.body ≡ n

  abbrev Does : List Deed → Type 0
  Does deeds = at_order m.session order.moment order.body ≡ deeds

  pub nothing : Does [] → if_live live s.number (at_order m.session order.moment order.body) t.history ≡ t.history
  nothing e = ap (λ d. if_live live s.number d t.history) e ∙ if_none live s.number t.history

  -- an own refusal, without a transaction and with one
  refuses_in : (outcome : Outcome) → lists outcome ≡ false → RestsIn m.session.gate → Leads (refused false m.session outcome) → Does rolls_back
      → ((n : Machine) (x : Bool) → x ≡ false → IsPools attached n told x outcome) → Kept
  refuses_in outcome unlisted (inl out) to does own =
      rest_replies t h s order rest (failing m.session) outcome refl
      (to ∙ ap (λ g. refused_at false m.session g outcome) out)
      (out_same t h s order rest (at_order m.session order.moment order.body) out)
      (inr (own (due (failing m.session) (ReplyDue outcome)) live (out_dead t h s order rest out)))
  refuses_in outcome unlisted (inr (changed, written, is)) to does own =
      rest_rolls t h s order rest (record (failing m.session) { heard = [] }) (Replies outcome) changed written refl refl is unlisted
      (to ∙ ap (λ g. refused_at false m.session g outcome) is) does
      (λ other e. subst (λ x. IsRightBy attached (due (record (failing m.session) { heard = [] }) (LookDue (RollingBack (Replies outcome)))) false s.number (if_live live s.number rolls_back t.history) told x)
      (let same : outcome ≡ other = (let x : Some outcome ≡ Some other = e in cc) in same)
      (inr (own (due (record (failing m.session) { heard = [] }) (LookDue (RollingBack (Replies outcome)))) false refl)))

  pub refuses : (outcome : Outcome) → lists outcome ≡ false → Leads (refused false m.session outcome) → Does rolls_back
      → ((n : Machine) (x : Bool) → x ≡ false → IsPools attached n told x outcome) → Kept
  refuses outcome unlisted to does own = refuses_in outcome unlisted (phase_is t h s order rest) to does own

  pub refuse_kept : (code : Code) (name : List ℕ) → order.body ≡ orders.Refuse code name → Kept
  unfolding ordered
  refuse_kept code name is =
      refuses (outcomes.Error code name) refl (ap (ordered m.session m.point order.moment) is) (ap (at_order m.session order.moment) is)
      (λ n x e. pools_refusal code name is e refl)

  -- what is answered whatever the run has done
  pub answers_at_once : (session : Session) (outcome : Outcome) → session.gate ≡ m.session.gate → Leads (due session (ReplyDue outcome)) → Does []
      → ((deeds : List Deed) → reply_to order.body m.session.status (not (is_out m.session.gate)) deeds ≡ Some outcome) → Kept
  answers_at_once session outcome gate to does given =
      rest_replies t h s order rest session outcome gate to (nothing does) (inl (given (deeds_since s.number (length t.history) t.history)))

  begin_in : (status : Status) → m.session.status ≡ status → fits status m.session.gate orders.Begin ≡ true → order.body ≡ orders.Begin → Kept
  unfolding ordered block_begun
  begin_in Idle st may is =
      answers_at_once (record m.session { status = InBlock; moment = order.moment }) (done_with tags.Begin) refl
      (ap (ordered m.session m.point order.moment) is ∙ ap (block_begun m.session order.moment) st) (ap (at_order m.session order.moment) is)
      (λ deeds. ap (λ b. reply_to b m.session.status (not (is_out m.session.gate)) deeds) is ∙ ap (λ x. Some (begin_reply x)) st)
  begin_in InBlock st may is =
      answers_at_once m.session (outcomes.Done tags.Begin (Some in_a_block)) refl
      (ap (ordered m.session m.point order.moment) is ∙ ap (block_begun m.session order.moment) st) (ap (at_order m.session order.moment) is)
      (λ deeds. ap (λ b. reply_to b m.session.status (not (is_out m.session.gate)) deeds) is ∙ ap (λ x. Some (begin_reply x)) st)
  begin_in Failed st may is = absurd (let n : false ≡ true = may in cc)

  pub begin_kept : fits m.session.status m.session.gate orders.Begin ≡ true → order.body ≡ orders.Begin → Kept
  begin_kept may is = begin_in m.session.status refl may is

  pub show_kept : order.body ≡ orders.ShowNodes → Kept
  unfolding ordered
  show_kept is = show_in (phase_is t h s order rest)
    where
      show_in : RestsIn m.session.gate → Kept
      show_in (inl out) =
          rest_goes t h s order rest m.session ShowDue refl refl (ap (ordered m.session m.point order.moment) is) (nothing (ap (at_order m.session order.moment) is))
          (subst (λ g. FitsPoint None ShowDue g) (sym out) refl) tt refl (λ told. refl) refl refl refl is
      show_in (inr (changed, written, at)) =
          rest_goes t h s order rest m.session ShowDue refl refl (ap (ordered m.session m.point order.moment) is) (nothing (ap (at_order m.session order.moment) is))
          (subst (λ g. FitsPoint None ShowDue g) (sym at) refl) tt refl (λ told. refl) refl refl refl is
