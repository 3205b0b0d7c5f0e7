-- The recovery of the sample takes place, and one that attaches its target too early does not.
use Rattle.std.proofs.Common.{◌≡◌, ◌<◌, ℕ, Bool, true, false, inl, refl, arith}
use Rattle.std.specs.Prelude.{pos, ◌==◌, if◌then◌else◌, []}
use Rattle.pool_base.specs.Sets.{has}
use Rattle.pool_base.specs.declared.gate_call.GateCall.TheVariants as calls
use Rattle.pool_base.specs.declared.gate_call.GateAnswer.TheVariants.{Granted}
use Rattle.schema.specs.Allowed.{AreAllowed}
use Rattle.backend_trait.specs.declared.request.Request.{Request}
use Rattle.backend_trait.specs.declared.request.Request.TheVariants as requests
use Rattle.session_orders.specs.declared.order.OrderBody.TheVariants as orders
use Rattle.session_machine.specs.declared.action.SessionEvent.TheVariants as events
use Rattle.session_machine.specs.declared.machine.ReadPolicy.{ReadPolicy}
use Rattle.session_machine.specs.declared.machine.Point.TheVariants as points
use Rattle.online_recovery.specs.declared.action.RecoveryAction.TheVariants as actions
use Rattle.online_recovery.specs.declared.standing.Standing.{Standing}
use Rattle.online_recovery.specs.Rules.{taken, shown, granted, called, after_at, next_action}
use Rattle.recovery_laws.specs.declared.step.Step.{Step}
use Rattle.recovery_laws.specs.declared.step.Step.TheVariants.{Recover}
use Rattle.recovery_laws.specs.Pool.{Pool, first_pool, after, pool_all, MaySwapFor, IsPlayed}
use Rattle.recovery_laws.specs.Sample.{of_none, first_alone, session, target, before, look, one_recovery, too_early}

one : 0 < 1
one = omega arith

three : 0 < 3
three = omega arith

module _ (allowed : ∥ AreAllowed [] ∥₁) (policy : ReadPolicy) where
  abbrev start : Pool
  start = first_pool (of_none allowed) policy first_alone

  abbrev ordered : Step
  ordered = Recover session (events.Ordered (record { moment = pos 0; body = orders.Recover 1 }))

  abbrev starting : Step
  starting = Recover session (events.Called calls.StartCopy (Granted before))

  abbrev pool_ordered : Pool
  pool_ordered = after start ordered

  abbrev pool_looked : Pool
  pool_looked = after pool_ordered look

  abbrev pool_started : Pool
  pool_started = after pool_looked starting

  -- The swap: nobody asks there, and no recovery is due to.

  abbrev Posts : Standing → Type 0
  Posts r = (request : Request) → ¬ (next_action r ≡ actions.Post target request)

  either : (t : Bool) (x y : Standing) → Posts x → Posts y → Posts (if t then x else y)
  either true x y p q = p
  either false x y p q = q

  rest_posts : (s : ℕ) → Posts (start.recovery s)
  rest_posts s request e = let h : actions.Rest ≡ actions.Post target request = e in absurd (cc)

  ordered_posts : Posts (pool_ordered.recovery 1)
  unfolding after_at
  ordered_posts request e = let h : actions.Gate calls.Look ≡ actions.Post target request = e in absurd (cc)

  looked_posts : Posts (pool_looked.recovery 1)
  unfolding after_at called granted
  looked_posts request e = let h : actions.Gate calls.StartCopy ≡ actions.Post target request = e in absurd (cc)

  started_posts : Posts (pool_started.recovery 1)
  unfolding after_at called granted
  started_posts request e = let h : actions.Swap target ≡ actions.Post target request = e in absurd (cc)

  none_posts : (s : ℕ) → Posts (pool_started.recovery s)
  none_posts s =
      either (s == 1) (pool_started.recovery 1) (pool_looked.recovery s) started_posts
      (either (s == 1) (pool_looked.recovery 1) (pool_ordered.recovery s) looked_posts
      (either (s == 1) (pool_ordered.recovery 1) (start.recovery s) ordered_posts (rest_posts s)))

  may_swap : MaySwapFor pool_started target
  may_swap = record {
    sessions = record {
      detached = refl;
      unasked = λ s asks. let h : points.Resting ≡ points.Waiting asks.stage target = asks.waits in absurd (cc);
      unposted = λ s posts. let h : points.Resting ≡ points.PostDue posts.stage target = posts.due in absurd (cc);
    };
    unasked = λ s. refl;
    unposted = none_posts;
  }

  pub sampled : IsPlayed start one_recovery
  unfolding after_at called granted taken shown
  sampled =
      ((refl, record { rests = refl; idle = refl; out = refl }), (((refl, refl), (tt, refl)), (((refl, refl), (tt, refl)), ((refl, may_swap), (((refl, refl), (tt, refl)), ((refl, refl), (record { request = requests.TakeSnapshot; asks = refl; not_lost = refl; may = tt }, (((refl, inl refl), refl), (((refl, refl), (tt, refl)), (((refl, refl), (one, refl)), ((refl, refl), (record { request = requests.TakeSnapshot; asks = refl; not_lost = refl; may = tt }, (((refl, inl refl), refl), ((refl, refl), (record { request = requests.Commit; asks = refl; not_lost = refl; may = refl }, (((refl, refl), refl), ((refl, refl), (record { request = requests.Rollback; asks = refl; not_lost = refl; may = refl }, (((refl, refl), refl), (((refl, refl), (tt, refl)), (((refl, refl), (one, refl)), (((refl, refl), (refl, refl)), (((refl, refl), (refl, refl)), (((refl, refl), ((refl, refl), refl)), (((refl, refl), (three, refl)), ((inl refl, tt), tt))))))))))))))))))))))))))

  pub sampled_attached : has (pool_all start one_recovery).gate.attached.bits 1 ≡ true
  sampled_attached = refl

  pub not_early : ¬ (IsPlayed start too_early)
  unfolding after_at called granted taken shown
  not_early played =
      let h : actions.Gate calls.AskQuiet ≡ actions.Gate (calls.Attach target) = played.1.1.1.1.1.1.1.1.1.1.1.1.1.1.1.1.1.1.1.1.1.0.0.0 in absurd (cc)
