-- The orders that end a transaction: ROLLBACK, COMMIT, and the end of a text.
use Rattle.std.proofs.Common.{◌≡◌, ℕ, ◌-◌, Bool, true, false, List, [], ◌∷◌, length, take, ◌==◌, refl, ap, ◌∙◌, subst, arith, inl, inr}
use Rattle.std.specs.Prelude.{not, Option, Some}
use Rattle.pool_base.specs.declared.session_id.SessionId.{SessionId}
use Rattle.backend_trait.specs.declared.answer.Answer.{Answer}
use Rattle.session_machine.specs.declared.action.SessionEvent.TheVariants.{Ordered}
use Rattle.session_orders.specs.declared.order.Order.{Order}
use Rattle.session_orders.specs.declared.order.OrderBody.TheVariants as orders
use Rattle.session_orders.specs.declared.outcome.Outcome.{Outcome}
use Rattle.session_machine.specs.declared.status.Status.{Status}
use Rattle.session_machine.specs.declared.status.Status.TheVariants.{Idle, InBlock, Failed}
use Rattle.session_machine.specs.declared.machine.Machine.{Machine}
use Rattle.session_machine.specs.Rules.{ordered}
use Rattle.one_copy_model.specs.declared.deed.Deed.{Deed}
use Rattle.one_copy_model.specs.declared.deed.Entry.{Entry}
use Rattle.one_copy_model.specs.declared.event.Event.TheVariants.{Of}
use Rattle.one_copy_model.specs.Places.{at_order, at_rollback, rolls_back}
use Rattle.one_copy_model.specs.Tracking.{Told, Tracked, tracked_after}
use Rattle.one_copy_model.specs.Invariant.{Invariant}
use Rattle.one_copy_model.specs.Own.{IsRightBy}
use Rattle.one_copy_model.proofs.Turning.{live_there}
use Rattle.session_machine.specs.Rules.{due}
use Rattle.session_machine.specs.declared.machine.Point.TheVariants.{Resting, LookDue}
use Rattle.session_machine.specs.declared.machine.Stage.TheVariants.{RollingBack}
use Rattle.session_machine.specs.declared.machine.Ending.TheVariants.{Replies}
use Rattle.one_copy_laws.proofs.OrdersOrdering.{if_live, its, told_now}
use Rattle.backend_trait.specs.declared.request.Request.TheVariants as requests
use Rattle.backend_trait.specs.declared.answer.Answer.TheVariants as answers
use Rattle.session_machine.specs.Rules.{idle, done_with, block_rolled_back, rolled_back as machine_rolled_back}
use Rattle.session_machine.specs.Allowed.{is_out}
use Rattle.session_orders.specs.declared.outcome.Outcome.TheVariants as outcomes
use Rattle.session_orders.specs.declared.outcome.Tag.TheVariants as tags
use Rattle.session_machine.specs.Codes.{outside_a_block}
use Rattle.one_copy_model.specs.declared.deed.Deed.TheVariants.{Asks, Gets}
use Rattle.std.proofs.lemmas.Bool.Decides.{eqb_tells}
use Rattle.one_copy_model.specs.SingleRun.{deeds_since, deeds_of, of_session}
use Rattle.one_copy_model.proofs.Deeds.{entry}
use Rattle.one_copy_model.specs.Replies.{reply_to, where_begun, rollback_reply}
use Rattle.one_copy_laws.proofs.OrdersResting.{RestsIn, phase_is, out_same, rest_replies, rest_rolls}
use Rattle.one_copy_laws.proofs.OrdersAnswering.{answers_at_once}

-- the two deeds that a commit adds are those since
itself : (s : ℕ) → (s == s) ≡ true
itself s = elim (eqb_tells s s) [ inl p ↦ p.0 | inr p ↦ absurd (p.1 refl) ]

pub two_since : (s : ℕ) (h : List Entry) (a b : Deed) → deeds_since s (length h) (entry s a ∷ entry s b ∷ h) ≡ a ∷ b ∷ []
two_since s h a b =
    let two : length (entry s a ∷ entry s b ∷ h) - length h ≡ 2 = omega arith in
    ap (λ k. deeds_of s (take k (entry s a ∷ entry s b ∷ h))) two
    ∙ ap (λ x. of_session x a (of_session x b [])) (itself s)

pub begun_either : (begun : Bool) (outcome : Outcome) → where_begun begun outcome (Gets answers.Done ∷ Asks requests.Commit ∷ []) ≡ Some outcome
begun_either true outcome = refl
begun_either false outcome = refl

module _ (t : Tracked) (h : Invariant t) (s : SessionId) (order : Order) (rest : (its t s order).point ≡ Resting) where
  abbrev m : Machine
  m = t.world.machine s.number

  abbrev told : Told
  told = told_now t s order

  abbrev attached : ℕ
  attached = t.world.gate.attached.bits

  abbrev mail : ℕ → Option Answer
  mail = t.world.mail s.number

  abbrev live : Bool
  live = live_there t s.number

  abbrev Kept : Type 0
  Kept = Invariant (tracked_after t (Of s (Ordered order)))

  abbrev Leads : Machine → Type 0
  Leads n = ordered m.session m.point order.moment order.body ≡ n

  abbrev Does : List Deed → Type 0
  Does deeds = at_order m.session order.moment order.body ≡ deeds

  -- a ROLLBACK
  rollback_given : (status : Status) (outcome : Outcome) → m.session.status ≡ status → rollback_reply status ≡ outcome → order.body ≡ orders.Rollback
      → (deeds : List Deed) → reply_to order.body m.session.status (not (is_out m.session.gate)) deeds ≡ Some outcome
  rollback_given status outcome st says is deeds =
      ap (λ b. reply_to b m.session.status (not (is_out m.session.gate)) deeds) is ∙ ap (λ x. Some (rollback_reply x)) st ∙ ap Some says

  rolls_in : RestsIn m.session.gate → m.session.status ≡ InBlock → order.body ≡ orders.Rollback → Kept
  unfolding ordered block_rolled_back
  rolls_in (inl out) st is =
      rest_replies t h s order rest (idle m.session) (done_with tags.Rollback) refl
      (ap (ordered m.session m.point order.moment) is ∙ ap (block_rolled_back m.session) st ∙ ap (machine_rolled_back m.session) out)
      (out_same t h s order rest (at_order m.session order.moment order.body) out)
      (inl (rollback_given InBlock (done_with tags.Rollback) st refl is (deeds_since s.number (length t.history) t.history)))
  rolls_in (inr (changed, written, at)) st is =
      rest_rolls t h s order rest (record (idle m.session) { heard = [] }) (Replies (done_with tags.Rollback)) changed written refl refl at refl
      (ap (ordered m.session m.point order.moment) is ∙ ap (block_rolled_back m.session) st ∙ ap (machine_rolled_back m.session) at)
      (ap (at_order m.session order.moment) is ∙ ap at_rollback st)
      (λ other e. subst (λ x. IsRightBy attached (due (record (idle m.session) { heard = [] }) (LookDue (RollingBack (Replies (done_with tags.Rollback))))) false s.number (if_live live s.number rolls_back t.history) told x)
      (let same : done_with tags.Rollback ≡ other = (let x : Some (done_with tags.Rollback) ≡ Some other = e in cc) in same)
      (inl (rollback_given InBlock (done_with tags.Rollback) st refl is (deeds_since s.number (length t.history) (if_live live s.number rolls_back t.history)))))

  rollback_in : (status : Status) → m.session.status ≡ status → order.body ≡ orders.Rollback → Kept
  unfolding ordered block_rolled_back
  rollback_in Idle st is =
      answers_at_once t h s order rest m.session (outcomes.Done tags.Rollback (Some outside_a_block)) refl
      (ap (ordered m.session m.point order.moment) is ∙ ap (block_rolled_back m.session) st) (ap (at_order m.session order.moment) is ∙ ap at_rollback st)
      (rollback_given Idle (outcomes.Done tags.Rollback (Some outside_a_block)) st refl is)
  rollback_in InBlock st is = rolls_in (phase_is t h s order rest) st is
  rollback_in Failed st is =
      answers_at_once t h s order rest (idle m.session) (done_with tags.Rollback) refl
      (ap (ordered m.session m.point order.moment) is ∙ ap (block_rolled_back m.session) st) (ap (at_order m.session order.moment) is ∙ ap at_rollback st)
      (rollback_given Failed (done_with tags.Rollback) st refl is)

  pub rollback_kept : order.body ≡ orders.Rollback → Kept
  rollback_kept is = rollback_in m.session.status refl is
