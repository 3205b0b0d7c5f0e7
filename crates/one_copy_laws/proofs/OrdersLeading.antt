-- Where an order leads: nothing happens in the single run, or the transaction ends there.
use Rattle.std.proofs.Common.{◌≡◌, ◌≢◌, ℕ, ◌≤◌, Bool, true, false, List, length, refl, sym, ap, ◌∙◌, subst, arith}
use Rattle.std.specs.Prelude.{Option, Some, None}
use Rattle.pool_base.specs.declared.session_id.SessionId.{SessionId}
use Rattle.backend_trait.specs.declared.answer.Answer.{Answer}
use Rattle.backend_trait.specs.Rows.{no_changes}
use Rattle.backend_trait.specs.Store.{Live, Transaction, Absent, Alive}
use Rattle.session_orders.specs.declared.order.Order.{Order}
use Rattle.session_orders.specs.declared.outcome.Outcome.{Outcome}
use Rattle.session_machine.specs.declared.machine.Stage.TheVariants.{Closing}
use Rattle.session_machine.specs.declared.machine.Machine.{Machine}
use Rattle.session_machine.specs.declared.machine.Stage.{Stage}
use Rattle.session_machine.specs.Rules.{commit_outcome}
use Rattle.one_copy_model.specs.declared.deed.Entry.{Entry}
use Rattle.one_copy_model.specs.SingleRun.{store_after}
use Rattle.one_copy_model.specs.Places.{rolls_back}
use Rattle.one_copy_model.specs.Deaths.{stage_at}
use Rattle.one_copy_model.specs.Tracking.{Told, Tracked, in_commit}
use Rattle.one_copy_model.specs.Orders.{OrderAt, reply_in, is_of_commit, IsClassedAt}
use Rattle.one_copy_model.specs.Chains.{IsInOrder}
use Rattle.one_copy_model.specs.Standing.{Leaving, Ending, Stands, leaving_of}
use Rattle.one_copy_model.specs.Invariant.{Invariant, FitsPoint, where_live, wants_of, request_in, IsUnderWay}
use Rattle.one_copy_model.specs.Own.{told_by, stand, IsIn, IsRightBy, given_by}
use Rattle.one_copy_model.proofs.Counts.{still}
use Rattle.one_copy_model.proofs.Calm.{calm_own, free_of, is_waiting}
use Rattle.one_copy_model.proofs.Turning.{facts_of, live_there}
use Rattle.one_copy_model.proofs.Landing.{same_mail}
use Rattle.one_copy_model.proofs.Quiet.{real, calm_silent, quiet_holds}
use Rattle.pool_base.specs.declared.backend_id.BackendId.{BackendId}
use Rattle.session_machine.specs.declared.action.Cause.{Cause}
use Rattle.session_machine.specs.declared.action.Action.TheVariants as actions
use Rattle.session_machine.specs.Rules.{next_action}
use Rattle.one_copy_model.specs.Statement.{HasCause}
use Rattle.one_copy_model.proofs.Beginning.{is_plain, is_split, plain_unsplit, plain_causes, free_own_with}
use Rattle.one_copy_model.proofs.Endings.{Ends, ends_none, rolled_back}
use Rattle.one_copy_model.proofs.Ending.{IsAside, ends_holds}
use Rattle.one_copy_model.proofs.Livings.{absent, clear_dead}
use Rattle.one_copy_laws.proofs.OrdersOrdering.{only, if_live, its, told_now, ordered_to}

stage_none : (attached : ℕ) (n : Machine) (stage : Stage) → stage_at n.point ≡ None → stage_at n.point ≡ Some stage → IsInOrder attached n stage
stage_none attached n stage e f = absurd (let x : None ≡ Some stage = sym e ∙ f in cc)

least : (n : ℕ) → n ≤ n
least n = omega arith

not_true : false ≡ true → ⊥
not_true e = cc

dead_not : (x : Transaction) (u : Live) → x ≡ Absent → x ≡ Alive u → ⊥
dead_not x u e f = let n : Absent ≡ Alive u = sym e ∙ f in cc

module _ (t : Tracked) (h : Invariant t) (s : SessionId) (order : Order) (free : is_waiting (its t s order).point ≡ false) where
  abbrev m : Machine
  m = t.world.machine s.number

  abbrev told : Told
  told = told_now t s order

  abbrev attached : ℕ
  attached = t.world.gate.attached.bits

  abbrev mail : ℕ → Option Answer
  mail = t.world.mail s.number

  -- the session goes on to a point without a chain, and stands as before
  pub leads_quietly : (n : Machine) → stage_at n.point ≡ None → stage_at m.point ≡ None
      → FitsPoint (stage_at n.point) n.point n.session.gate → IsClassedAt t.world.tables n.point
      → ((b : ℕ) → IsIn attached b → stand n mail b ≡ stand m mail b)
      → n.session.gate ≡ m.session.gate
      → wants_of n.point (stage_at n.point) ≡ wants_of m.point (stage_at m.point)
      → ((outcome : Outcome) → reply_in n.point ≡ Some outcome → IsRightBy attached n (live_there t s.number) s.number t.history told outcome)
      → IsUnderWay n.point (Some told) → OrderAt n.session n.point told
      → Invariant (ordered_to t s order n t.history)
  leads_quietly n calm before fits classed same gate wanted replies under order_at =
      quiet_holds t h s n t.world.gate (Some told) (t.done s.number) refl
      (still t.world.gate t.world.machine m.session.gate n.session.gate gate (facts_of t h).counts)
      (calm_silent t.world.tables attached t.history m n mail same before calm (λ e. ap in_commit (sym gate) ∙ e))
      (calm_own t.world.tables attached t.history t.world.store m mail (t.orders s.number) (t.done s.number) (live_there t s.number) s.number
      (real s) (free_of m.point free) n (Some told) (t.done s.number) calm ((facts_of t h).own s.number)
      fits classed same (λ written e. sym gate ∙ e) (ap (where_live (live_there t s.number)) wanted)
      (λ is outcome e. only (λ by. reply_in n.point ≡ Some outcome → IsRightBy attached n (live_there t s.number) s.number t.history by outcome) told (replies outcome) is e)
      under
      (only (λ by. OrderAt n.session n.point by) told order_at)
      (only (λ by. by.entries ≤ length t.history) told (least (length t.history)))
      (λ b is e. only (λ by. by.entered ≡ true → IsIn attached b → stand n mail b ≢ Leaving → t.done s.number b ≡ true) told (λ entered. absurd (not_true entered)) is e))

  -- its transaction ends there, and the chain of the ending begins
  pub leads_to_end_with : (n : Machine) (mid : List Entry) (stage : Stage) → is_split n.point ≡ false
      → ((b : BackendId) (cause : Cause) → next_action n ≡ actions.Detach b cause → HasCause n b cause) → stage_at n.point ≡ Some stage
      → Ends t.world.tables s.number t.history mid
      → IsAside attached m n mail mail
      → FitsPoint (stage_at n.point) n.point n.session.gate → IsClassedAt t.world.tables n.point
      → n.session.gate ≡ m.session.gate
      → IsInOrder attached n stage
      → ((b : ℕ) → told_by n mail b ≡ None)
      → ((b : ℕ) → IsIn attached b → stand n mail b ≡ Ending)
      → ((b : ℕ) (l : Live) → IsIn attached b → stage_at n.point ≡ Some Closing → (t.world.store b).transaction s.number ≡ Alive l → l.changes ≡ no_changes)
      → ((outcome : Outcome) → reply_in n.point ≡ Some outcome → IsRightBy attached n false s.number mid told outcome)
      → IsUnderWay n.point (Some told) → OrderAt n.session n.point told
      → ((b : ℕ) → IsIn attached b → is_of_commit (stage_at n.point) ≡ true → given_by s.number told mid ≡ Some (commit_outcome n.session.status))
      → Invariant (ordered_to t s order n mid)
  leads_to_end_with n mid stage unsplit causes at ends aside fits classed gate in_order untold stands closes replies under order_at commits =
      same_mail t s.number n t.world.gate mail mid (Some told) (t.done s.number) refl
      (ends_holds t h s n t.world.gate mail mid (Some told) (t.done s.number) refl
      (still t.world.gate t.world.machine m.session.gate n.session.gate gate (facts_of t h).counts) aside ends
      (free_own_with t.world.tables attached t.history mid t.world.store m mail (t.orders s.number) (t.done s.number) (live_there t s.number) s.number
      (real s) (free_of m.point free) ((facts_of t h).own s.number) n (Some told) (t.done s.number) false unsplit causes
      fits classed
      (λ other e. subst (IsInOrder attached n) (let same : stage ≡ other = (let x : Some stage ≡ Some other = sym at ∙ e in cc) in same) in_order)
      (λ b other in_it e. untold b)
      (λ b in_it. subst (λ x. Stands (store_after t.world.tables mid) s.number (leaving_of t.world.tables s.number mid) x ((t.world.store b).transaction s.number) ((store_after t.world.tables mid).transaction s.number)) (sym (stands b in_it)) ends.none)
      (λ u written e alive. absurd (dead_not ((store_after t.world.tables mid).transaction s.number) u ends.none alive))
      closes
      (ap request_in ends.clear)
      (λ is outcome e. only (λ by. reply_in n.point ≡ Some outcome → IsRightBy attached n false s.number mid by outcome) told (replies outcome) is e)
      under
      (only (λ by. OrderAt n.session n.point by) told order_at)
      (only (λ by. by.entries ≤ length mid) told ends.longer)
      (λ b is in_it e. only (λ by. is_of_commit (stage_at n.point) ≡ true → given_by s.number by mid ≡ Some (commit_outcome n.session.status)) told (commits b in_it) is e)
      (λ b is e. only (λ by. by.entered ≡ true → IsIn attached b → stand n mail b ≢ Leaving → t.done s.number b ≡ true) told (λ entered. absurd (not_true entered)) is e)))

  pub leads_to_end : (n : Machine) (mid : List Entry) (stage : Stage) → is_plain n.point ≡ true → stage_at n.point ≡ Some stage
      → Ends t.world.tables s.number t.history mid
      → IsAside attached m n mail mail
      → FitsPoint (stage_at n.point) n.point n.session.gate → IsClassedAt t.world.tables n.point
      → n.session.gate ≡ m.session.gate
      → IsInOrder attached n stage
      → ((b : ℕ) → told_by n mail b ≡ None)
      → ((b : ℕ) → IsIn attached b → stand n mail b ≡ Ending)
      → ((b : ℕ) (l : Live) → IsIn attached b → stage_at n.point ≡ Some Closing → (t.world.store b).transaction s.number ≡ Alive l → l.changes ≡ no_changes)
      → ((outcome : Outcome) → reply_in n.point ≡ Some outcome → IsRightBy attached n false s.number mid told outcome)
      → IsUnderWay n.point (Some told) → OrderAt n.session n.point told
      → ((b : ℕ) → IsIn attached b → is_of_commit (stage_at n.point) ≡ true → given_by s.number told mid ≡ Some (commit_outcome n.session.status))
      → Invariant (ordered_to t s order n mid)
  leads_to_end n mid stage plain at ends aside fits classed gate in_order untold stands closes replies under order_at commits =
      leads_to_end_with n mid stage (plain_unsplit n.point plain) (λ b cause is. absurd (plain_causes n.session n.point b cause plain is)) at
      ends aside fits classed gate in_order untold stands closes replies under order_at commits

  -- a rollback there, where there is something to roll back
  pub rolls : (live : Bool) → live_there t s.number ≡ live → Ends t.world.tables s.number t.history (if_live live s.number rolls_back t.history)
  rolls true e = rolled_back t.world.tables s.number t.history h.run
  rolls false e = ends_none t.world.tables s.number t.history (absent t h s.number e) (clear_dead t h s.number e) h.run
