-- What a recovery does in a play, but for the answers that it takes, it may do in the world with recoveries, and the world follows on.
use Rattle.std.proofs.Common.{◌≡◌, ◌≢◌, ◌<◌, ◌==◌, ℕ, Bool, true, false, List, refl, sym, ap, ◌∙◌, subst, inl, inr, nat_le, if◌then◌else◌}
use Rattle.std.specs.Prelude.{◌⊎◌, Option, None}
use Rattle.pool_base.specs.Sets.{has, with_one}
use Rattle.pool_base.specs.declared.backend_id.BackendId.{BackendId}
use Rattle.pool_base.specs.declared.session_id.SessionId.{SessionId}
use Rattle.pool_base.specs.declared.gate_call.GateAnswer.{GateAnswer}
use Rattle.pool_base.specs.declared.gate_call.GateAnswer.TheVariants.{Spent}
use Rattle.pool_base.specs.declared.gate_call.GateCall.{GateCall}
use Rattle.pool_base.specs.declared.gate_call.GateCall.TheVariants as calls
use Rattle.schema.specs.declared.catalogue.TableDef.{TableDef}
use Rattle.backend_trait.specs.declared.request.Request.{Request}
use Rattle.backend_trait.specs.declared.answer.Answer.{Answer}
use Rattle.backend_trait.specs.Rows.{with_at}
use Rattle.backend_trait.specs.Store.{Absent, Store}
use Rattle.session_orders.specs.declared.order.Order.{Order}
use Rattle.session_orders.specs.declared.order.OrderBody.{OrderBody}
use Rattle.session_orders.specs.declared.order.OrderBody.TheVariants as orders
use Rattle.session_machine.specs.declared.action.SessionEvent.{SessionEvent}
use Rattle.session_machine.specs.declared.action.SessionEvent.TheVariants as events
use Rattle.session_machine.specs.declared.machine.Machine.{Machine}
use Rattle.snapshot_gate.specs.declared.state.GateState.{GateState}
use Rattle.snapshot_gate.specs.Function.{step, MayCall, view_of, grant, refuse}
use Rattle.session_engine.specs.Tidying.{tidied}
use Rattle.online_recovery.specs.declared.action.RecoveryAction.TheVariants as actions
use Rattle.online_recovery.specs.declared.standing.Quiet.TheVariants.{Open, Entered}
use Rattle.online_recovery.specs.declared.standing.Due.{Due}
use Rattle.online_recovery.specs.declared.standing.Due.TheVariants as dues
use Rattle.online_recovery.specs.declared.standing.Ending.{Ending}
use Rattle.online_recovery.specs.declared.standing.Ending.TheVariants.{Attached, Refused, Leaves}
use Rattle.online_recovery.specs.declared.standing.Held.{Held}
use Rattle.online_recovery.specs.declared.standing.Owed.{Owed}
use Rattle.online_recovery.specs.declared.standing.Owed.TheVariants.{Transaction as IsOwed, Snapshot, LiveTransaction, TheQuiet, Nothing}
use Rattle.online_recovery.specs.declared.standing.Standing.{Standing}
use Rattle.online_recovery.specs.State.{owed}
use Rattle.online_recovery.specs.Rules.{closing_action, action_at, with_view, due, ordered, granted, called, after_at, after as recovery_after}
use Rattle.online_recovery.specs.Allowed.{is_resting, may_order, MayHappen as RecoveryMay}
use Rattle.online_recovery.specs.Runs.{Phase, Meets}
use Rattle.one_copy_model.specs.Invariant.{IsStranger}
use Rattle.one_copy_model.proofs.Quiet.{real}
use Rattle.one_copy_model.proofs.Places.{same_or_other, with_at-other, each_at}
use Rattle.recovery_laws.specs.declared.step.Step.TheVariants.{Recover}
use Rattle.recovery_laws.specs.Pool.{Pool, world_of, after, IsOutside, LetsOrder, MayStep}
use Rattle.recovery_laws.proofs.Freeing.{Shows}
use Rattle.recovery_laws.proofs.Stepping.{Holds}
use Rattle.recovery_laws.proofs.Targets.{is_steady, steady_leaves}
use Rattle.recovery_seat.specs.Schedule.{State, with_standing, Proceeds, LetsOrder as SeatOrder, IsOutside as IsOutsideThere}
use Rattle.play_laws.specs.Joined.{IsWhole}
use Rattle.play_laws.specs.RecoveryFollowing.{Follows}
use Rattle.play_laws.proofs.Apart.{IsLostDue, IsHolding, Facts}
use Rattle.play_laws.proofs.Courses.{RidsBy, HasSource, IsCopy, IsCallDue, Tidy, Steps, called_steps, ordered_steps}
use Rattle.play_laws.proofs.Faces.{same_point, same_status, same_gate}
use Rattle.play_laws.proofs.Meets.{meets}
use Rattle.play_laws.proofs.Joining.{alike_whole}
use Rattle.play_laws.proofs.Quiet.{copy_shut, absent_outside, with_less}
use Rattle.play_laws.proofs.Recovering.{step_facts, attach_facts}
use Rattle.play_laws.proofs.Going.{AllFacts, AreExact, Goes, gate_moves}
use Rattle.play_laws.proofs.Serving.{gives, same_fewer}

rest_is : (at : Due) → is_resting at ≡ true → at ≡ dues.Resting
rest_is dues.Resting e = refl
rest_is at e = absurd (cc)

rest_lost : (at : Due) → at ≡ dues.Resting → IsLostDue at → ⊥
rest_lost at e l = subst IsLostDue e l

call_due : (held : Held) (at : Due) (call : GateCall) → action_at held at ≡ actions.Gate call → IsCallDue at
call_due held (dues.LookDue number) call e = tt
call_due held dues.StartDue call e = tt
call_due held dues.EnterDue call e = tt
call_due held (dues.ShowDue task answer) call e = tt
call_due held dues.LeaveSnapshotDue call e = tt
call_due held dues.FinishDue call e = tt
call_due held dues.AskDue call e = tt
call_due held dues.QuietDue call e = tt
call_due held dues.AttachDue call e = tt
call_due held (dues.Closing ending) call e = tt
call_due held at call e = absurd (cc)

call_unlost : (at : Due) → IsCallDue at → IsLostDue at → ⊥
call_unlost (dues.LostDue ending before count) call l = call
call_unlost at call l = l

call_up : (at : Due) → IsCallDue at → at ≡ dues.Resting → ⊥
call_up at call e = subst IsCallDue e call

-- What is common to all events of a recovery.

pub with_standing_is : (had : ℕ → Standing) (old : SessionId → Standing) (s t : SessionId) (event : SessionEvent) → ((o : SessionId) → had o.number ≡ old o)
    → with_at had s.number (recovery_after (had s.number) event) t.number ≡ with_standing old s (recovery_after (old s) event) t
with_standing_is had old s t event same = λ i. if t.number == s.number then recovery_after (same s i) event else same t i

module _ (tables : List TableDef) (old new : State) (p : Pool) (phases : ℕ → Phase) (g : Goes tables old p phases) (s : SessionId) where
  pub f : Follows tables old p
  f = g.follows

  abbrev pub r : Standing
  r = p.recovery s.number

  pub may_proceed : (event : SessionEvent) → RecoveryMay (old.recoveries s) event → RecoveryMay r event
  may_proceed event may = subst (λ (x : Standing). RecoveryMay x event) (sym (f.recoveries s)) may

  pub does_meet : (event : SessionEvent) → RecoveryMay r event → Meets (phases s.number) event
  does_meet event may = meets (phases s.number) r event may (g.holds.fits s.number).agrees (g.holds.fits s.number).fits

  pub recoveries_proceed : (event : SessionEvent) → new.recoveries ≡ with_standing old.recoveries s (recovery_after (old.recoveries s) event) → (t : SessionId)
      → with_at p.recovery s.number (recovery_after r event) t.number ≡ new.recoveries t
  recoveries_proceed event is t = with_standing_is p.recovery old.recoveries s t event f.recoveries ∙ ap (λ (x : SessionId → Standing). x t) (sym is)

  pub machines_stay : new.machines ≡ old.machines → (t : SessionId) → tidied ((world_of p).machine t.number) ≡ tidied (new.machines t)
  machines_stay same t = f.machines t ∙ ap (λ (x : SessionId → Machine). tidied (x t)) (sym same)

  pub few : p.gate.attached.bits < 256
  few = subst (λ a. a.bits < 256) (ap (λ (x : GateState). x.attached) g.holds.counts.same) g.holds.invariant.few

  -- its session has nothing at an attached backend
  pub fresh : IsOutside ((world_of p).machine s.number) → (b : ℕ) → has p.gate.attached.bits b ≡ true → ((world_of p).store b).transaction s.number ≡ Absent
  fresh outside b here =
      absent_outside p.tracked g.holds.invariant s.number b outside.rests outside.out (ap (λ (x : GateState). has x.attached.bits b) g.holds.counts.same ∙ here)

  -- one recovery alone has the quiet
  pub alone : ((phases s.number).quiet ≡ Open → ⊥) → (o : ℕ) → o ≢ s.number → IsCopy (p.recovery o).held (p.recovery o).due → ⊥
  alone has_it o other copy =
      other (g.holds.one.one o s.number
      (copy_shut (p.recovery o).held (p.recovery o).due (phases o) (g.holds.fits o).fits (g.holds.fits o).agrees (g.facts.tidy o).at_target copy) has_it)

  -- whoever moves is no stranger
  pub strange_still : (x : Standing) → (o : ℕ) → IsStranger o → (with_at p.recovery s.number x o).due ≡ dues.Resting
  strange_still x o strange = elim (same_or_other o s.number) [
    | inl e ↦ absurd (real s (subst IsStranger e strange))
    | inr other ↦ ap (λ (y : Standing). y.due) (with_at-other p.recovery s.number x o other) ∙ g.strange o strange
  ]

  -- where no store moves and no recovery has another target, what is exact stays so
  pub exact_still : (x : Standing) → new.shared.stores ≡ old.shared.stores → (IsCopy x.held x.due → IsCopy r.held r.due × (x.held.target ≡ r.held.target)) → (o : ℕ)
      → let y = with_at p.recovery s.number x o in IsCopy y.held y.due → (new.shared.stores y.held.target.number).transaction o ≡ p.transaction o y.held.target.number
  exact_still x same copies =
      each_at (λ o y. IsCopy y.held y.due → (new.shared.stores y.held.target.number).transaction o ≡ p.transaction o y.held.target.number) p.recovery s.number x
      (λ copy.
      let c = copies copy in
      subst (λ (b : BackendId). (new.shared.stores b.number).transaction s.number ≡ p.transaction s.number b.number) (sym c.1)
      (ap (λ (st : ℕ → Store). (st r.held.target.number).transaction s.number) same ∙ g.exact s.number c.0))
      (λ o other copy. ap (λ (st : ℕ → Store). (st (p.recovery o).held.target.number).transaction o) same ∙ g.exact o copy)

  pub stores_still : new.shared.stores ≡ old.shared.stores → (A : ℕ → ℕ → Option Request) → ((o b : ℕ) → A o b ≡ p.asked o b) → (b : ℕ)
      → IsWhole ((world_of p).store b) (λ o. p.transaction o b) (λ o. A o b) (new.shared.stores b)
  stores_still same A asks b =
      alike_whole ((world_of p).store b) (new.shared.stores b) (λ o. p.transaction o b) (λ o. p.asked o b)
      (subst (λ (st : ℕ → Store). IsWhole ((world_of p).store b) (λ o. p.transaction o b) (λ o. p.asked o b) (st b)) (sym same) (f.stores b))
      (λ o. p.transaction o b) (λ o. A o b) (λ o. refl) (λ o. asks o b)

  -- the world behind an event that moves no machine of a session
  pub goes_by : (event : SessionEvent) (q : Pool) (behind : ℕ → Phase) → new.machines ≡ old.machines → new.recoveries ≡ with_standing old.recoveries s (recovery_after (old.recoveries s) event)
      → q.gate ≡ new.shared.gate → (world_of q).tables ≡ (world_of p).tables → (world_of q).machine ≡ (world_of p).machine → (world_of q).mail ≡ (world_of p).mail → ((o b : ℕ) → q.told o b ≡ None)
      → q.recovery ≡ with_at p.recovery s.number (recovery_after r event)
      → ((b : ℕ) → IsWhole ((world_of q).store b) (λ o. q.transaction o b) (λ o. q.asked o b) (new.shared.stores b))
      → AllFacts q → AreExact new q → Holds q behind → Goes tables new q behind
  goes_by event q behind machines recoveries gate catalogue machine mail told recovery stores facts exact holds = record {
    follows = record {
      catalogue = catalogue ∙ f.catalogue;
      gate = gate;
      machines = λ t. ap (λ (x : ℕ → Machine). tidied (x t.number)) machine ∙ machines_stay machines t;
      recoveries = λ t. ap (λ (x : ℕ → Standing). x t.number) recovery ∙ recoveries_proceed event recoveries t;
      stores = stores;
      mail = λ o b. ap (λ (x : ℕ → ℕ → Option Answer). x o b) mail ∙ f.mail o b;
      told = told;
    };
    holds = holds;
    facts = facts;
    exact = exact;
    strange = λ o strange. ap (λ (x : ℕ → Standing). (x o).due) recovery ∙ strange_still (recovery_after r event) o strange;
  }

  -- An order.

  seat_outside : IsOutsideThere (old.machines s) → IsOutside ((world_of p).machine s.number)
  seat_outside o =
      let x = (world_of p).machine s.number in
      let m = old.machines s in
      record {
        rests = same_point x m (f.machines s) ∙ o.rests;
        idle = same_status x m (f.machines s) ∙ o.idle;
        out = same_gate x m (f.machines s) ∙ o.out;
      }

  order_lets : (body : OrderBody) → SeatOrder (old.machines s) body → LetsOrder p s.number body × IsOutside ((world_of p).machine s.number)
  order_lets (orders.Recover number) lets = (seat_outside lets, seat_outside lets)
  order_lets body lets = absurd lets

  order_steps : (m : ℕ) (body : OrderBody) → SeatOrder (old.machines s) body → may_order r.due body ≡ true → Steps m r (ordered r.held r.due body)
  order_steps m (orders.Recover number) lets may =
      let rests = rest_is r.due may in
      subst (λ (d : Due). Tidy (due r.held d) → Steps m (due r.held d) (due r.held (dues.LookDue number))) (sym rests) (ordered_steps m r.held number) (g.facts.tidy s.number)
  order_steps m body lets may = absurd lets

  order_rests : (body : OrderBody) → SeatOrder (old.machines s) body → may_order r.due body ≡ true → IsLostDue r.due → ⊥
  order_rests (orders.Recover number) lets may l = rest_lost r.due (rest_is r.due may) l
  order_rests body lets may l = lets

  module _ (order : Order) (h : Proceeds tables s old (events.Ordered order) new) where
    abbrev o_event : SessionEvent
    o_event = events.Ordered order

    pub order_may : MayStep p (Recover s o_event)
    order_may = (may_proceed o_event h.may, (order_lets order.body h.lets).0)

    abbrev behind_order : Standing
    behind_order = recovery_after r o_event

    steps_order : Steps p.gate.attached.bits r behind_order
    unfolding after_at
    steps_order = order_steps p.gate.attached.bits order.body h.lets (may_proceed o_event h.may)

    pub order_goes : (behind : ℕ → Phase) → Holds (after p (Recover s o_event)) behind → Goes tables new (after p (Recover s o_event)) behind
    order_goes behind holds =
        goes_by o_event (after p (Recover s o_event)) behind h.machines h.recoveries (gate_moves p.gate old.shared.gate new.shared.gate o_event f.gate h.answered) refl refl refl f.told refl
        (stores_still h.serves.1 p.asked (λ o b. refl))
        (step_facts p.gate.attached.bits (world_of p).machine (world_of p).store p.recovery p.transaction p.asked g.facts p.gate.attached.bits (λ b e. e) s.number behind_order steps_order
        (λ l. absurd (order_rests order.body h.lets (may_proceed o_event h.may) l)) (fresh (order_lets order.body h.lets).1))
        (exact_still behind_order h.serves.1 steps_order.copies) holds

  -- A call of the gate.

  attach_at : (held : Held) (ending : Ending) (o : Owed) (b : BackendId) → closing_action held ending o ≡ actions.Gate (calls.Attach b) → ⊥
  attach_at held ending (IsOwed side) b e = absurd (cc)
  attach_at held ending Snapshot b e = absurd (cc)
  attach_at held ending LiveTransaction b e = absurd (cc)
  attach_at held ending TheQuiet b e = absurd (cc)
  attach_at held Attached Nothing b e = absurd (cc)
  attach_at held (Refused code) Nothing b e = absurd (cc)
  attach_at held Leaves Nothing b e = absurd (cc)

  attach_due : (held : Held) (at : Due) (b : BackendId) → action_at held at ≡ actions.Gate (calls.Attach b) → (at ≡ dues.AttachDue) × (held.target ≡ b)
  attach_due held dues.AttachDue b e = (refl, (let z : held.target ≡ b = cc in z))
  attach_due held (dues.Closing ending) b e = absurd (attach_at held ending (owed held) b e)
  attach_due held at b e = absurd (cc)

  module _ (call : GateCall) (answer : GateAnswer) (h : Proceeds tables s old (events.Called call answer) new) where
    abbrev c_event : SessionEvent
    c_event = events.Called call answer

    call_may : RecoveryMay r c_event
    call_may = may_proceed c_event h.may

    call_gives : MayCall p.gate call × ((step p.gate call).1 ≡ answer)
    call_gives = gives p.gate old.shared.gate new.shared.gate call answer f.gate h.answered.0 h.answered.1

    pub called_may : MayStep p (Recover s c_event)
    called_may = (call_may, call_gives)

    is_call : IsCallDue r.due
    is_call = call_due r.held r.due call call_may.0

    outside : IsOutside ((world_of p).machine s.number)
    outside = g.holds.rests s.number (call_up r.due is_call)

    abbrev behind_call : Standing
    behind_call = recovery_after r c_event

    steps_call : (m : ℕ) → Shows answer m → Steps m r behind_call
    unfolding after_at
    steps_call m shows = called_steps m r.held r.due answer is_call shows (g.facts.tidy s.number)

    abbrev FactsAt : ℕ → Type 0
    FactsAt m = Facts m (world_of p).machine (world_of p).store (with_at p.recovery s.number behind_call) p.transaction p.asked

    call_facts : (m : ℕ) → Shows answer m → ((b : ℕ) → has m b ≡ true → has p.gate.attached.bits b ≡ true) → FactsAt m
    call_facts m shows less =
        step_facts p.gate.attached.bits (world_of p).machine (world_of p).store p.recovery p.transaction p.asked g.facts m less s.number behind_call (steps_call m shows)
        (λ l. absurd (call_unlost r.due is_call l)) (λ b here. fresh outside b (less b here))

    steady_facts : is_steady call ≡ true → FactsAt (step p.gate call).0.attached.bits
    steady_facts steady =
        let l = steady_leaves p.gate call steady in
        call_facts (step p.gate call).0.attached.bits (subst (λ (a : GateAnswer). Shows a (step p.gate call).0.attached.bits) call_gives.1 l.1) (same_fewer p.gate (step p.gate call).0 l.0)

    call_goes : (behind : ℕ → Phase) → FactsAt (step p.gate call).0.attached.bits → (m : ℕ) → Shows answer m → Holds (after p (Recover s c_event)) behind → Goes tables new (after p (Recover s c_event)) behind
    call_goes behind facts m shows holds =
        goes_by c_event (after p (Recover s c_event)) behind h.machines h.recoveries (gate_moves p.gate old.shared.gate new.shared.gate c_event f.gate h.answered) refl refl refl f.told refl
        (stores_still h.serves p.asked (λ o b. refl)) facts (exact_still behind_call h.serves (steps_call m shows).copies) holds

    pub steady_goes : is_steady call ≡ true → (behind : ℕ → Phase) → Holds (after p (Recover s c_event)) behind → Goes tables new (after p (Recover s c_event)) behind
    steady_goes steady behind holds =
        call_goes behind (steady_facts steady) (step p.gate call).0.attached.bits
        (subst (λ (a : GateAnswer). Shows a (step p.gate call).0.attached.bits) call_gives.1 (steady_leaves p.gate call steady).1) holds

  -- An Attach.

  module _ (b : BackendId) (answer : GateAnswer) (h : Proceeds tables s old (events.Called (calls.Attach b) answer) new) where
    abbrev a_event : SessionEvent
    a_event = events.Called (calls.Attach b) answer

    attach_may : RecoveryMay r a_event
    attach_may = may_proceed a_event h.may

    at_attach : (r.due ≡ dues.AttachDue) × (r.held.target ≡ b)
    at_attach = attach_due r.held r.due b attach_may.0

    abbrev spent : Bool
    spent = nat_le 4294967280 p.gate.epoch

    abbrev turned : Bool → GateState × GateAnswer
    turned v = if v then refuse p.gate Spent else grant p.gate (calls.Attach b)

    abbrev FactsBy : Bool → Type 0
    FactsBy v = Facts (turned v).0.attached.bits (world_of p).machine (world_of p).store (with_at p.recovery s.number (recovery_after r a_event)) p.transaction p.asked

    abbrev more : ℕ
    more = with_one p.gate.attached.bits b.number

    module _ (few_more : more < 256) (is : (turned false).1 ≡ answer) where
      abbrev shown : Held
      shown = with_view r.held (view_of (turned false).0)

      abbrev y : Standing
      y = due shown (dues.Closing Attached)

      is_y : recovery_after r a_event ≡ y
      unfolding after_at called granted
      is_y = λ i. called r.held (at_attach.0 i) (sym is i)

      steps_y : Steps more r y
      steps_y =
          subst (λ (x : Standing). Steps more r x) is_y
          (steps_call (calls.Attach b) answer h more (subst (λ (a : GateAnswer). Shows a more) is refl))

      rid : r.held.at_target ≡ false
      rid = subst (λ (d : Due). RidsBy d r.held.at_source r.held.at_target) at_attach.0 (g.facts.tidy s.number).rids

      y_holds : (k : ℕ) → IsHolding r k → (has more k ≡ false) ⊎ IsHolding y k
      y_holds k holds = elim holds.0 [
        | inl e ↦ elim (steps_y.holds e) [
          | inl q ↦ inr (inl q.0, holds.1)
          | inr out ↦ inl (subst (λ j. has more j ≡ false) holds.1 out)
        ]
        | inr l ↦ absurd (subst IsLostDue at_attach.0 l)
      ]

      attached_facts : FactsBy false
      attached_facts =
          subst (λ (x : Standing). Facts more (world_of p).machine (world_of p).store (with_at p.recovery s.number x) p.transaction p.asked) (sym is_y)
          (attach_facts p.gate.attached.bits (world_of p).machine (world_of p).store p.recovery p.transaction p.asked g.facts more s.number y
          (subst (IsCopy r.held) (sym at_attach.0) tt)
          (λ k other out. with_less p.gate.attached.bits b few few_more k (λ e. other (e ∙ sym (ap (λ (z : BackendId). z.number) at_attach.1))) out)
          rid (alone (λ e. let z : Entered ≡ Open = sym (does_meet a_event attach_may).1 ∙ e in cc))
          tt steps_y.tidy (λ over. let z : true ≡ false = sym over ∙ rid in cc) (λ has_one. subst (HasSource r.held) (sym at_attach.0) tt) refl y_holds)

    facts_by : (v : Bool) → (turned v).1 ≡ answer → ((turned v).0.attached.bits < 256) → FactsBy v
    facts_by true is few_more = call_facts (calls.Attach b) answer h p.gate.attached.bits (subst (λ (a : GateAnswer). Shows a p.gate.attached.bits) is tt) (λ k e. e)
    facts_by false is few_more = attached_facts few_more is

    shows_by : (v : Bool) → (turned v).1 ≡ answer → Shows answer (turned v).0.attached.bits
    shows_by true is = subst (λ (a : GateAnswer). Shows a p.gate.attached.bits) is tt
    shows_by false is = subst (λ (a : GateAnswer). Shows a more) is refl

    pub attach_goes : (behind : ℕ → Phase) → Holds (after p (Recover s a_event)) behind → Goes tables new (after p (Recover s a_event)) behind
    attach_goes behind holds =
        let few_more = subst (λ a. a.bits < 256) (ap (λ (x : GateState). x.attached) holds.counts.same) holds.invariant.few in
        call_goes (calls.Attach b) answer h behind (facts_by spent (call_gives (calls.Attach b) answer h).1 few_more)
        (turned spent).0.attached.bits (shows_by spent (call_gives (calls.Attach b) answer h).1) holds

  -- every call
  pub called_goes : (call : GateCall) (answer : GateAnswer) (h : Proceeds tables s old (events.Called call answer) new) (behind : ℕ → Phase)
      → Holds (after p (Recover s (events.Called call answer))) behind → Goes tables new (after p (Recover s (events.Called call answer))) behind
  called_goes (calls.Attach b) answer h behind holds = attach_goes b answer h behind holds
  called_goes (calls.Detach b) answer h behind holds = absurd (let z : false ≡ true = h.may.1 in cc)
  called_goes calls.Look answer h behind holds = steady_goes calls.Look answer h refl behind holds
  called_goes calls.EnterSnapshot answer h behind holds = steady_goes calls.EnterSnapshot answer h refl behind holds
  called_goes calls.LeaveSnapshot answer h behind holds = steady_goes calls.LeaveSnapshot answer h refl behind holds
  called_goes (calls.EnterCommit tables) answer h behind holds = absurd (let z : false ≡ true = h.may.1 in cc)
  called_goes calls.LeaveCommit answer h behind holds = absurd (let z : false ≡ true = h.may.1 in cc)
  called_goes calls.Finish answer h behind holds = steady_goes calls.Finish answer h refl behind holds
  called_goes calls.StartCopy answer h behind holds = steady_goes calls.StartCopy answer h refl behind holds
  called_goes calls.AskQuiet answer h behind holds = steady_goes calls.AskQuiet answer h refl behind holds
  called_goes calls.EnterQuiet answer h behind holds = steady_goes calls.EnterQuiet answer h refl behind holds
  called_goes calls.LeaveQuiet answer h behind holds = steady_goes calls.LeaveQuiet answer h refl behind holds
