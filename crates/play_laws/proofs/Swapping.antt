-- A recovery detaches its source, and puts a blank store in the place of its target.
use Rattle.std.proofs.Common.{◌≡◌, ℕ, Bool, true, false, List, refl, sym, ap, ◌∙◌, subst, inl, inr, if◌then◌else◌}
use Rattle.std.specs.Prelude.{Option, Some, None}
use Rattle.pool_base.specs.Sets.{has}
use Rattle.pool_base.specs.declared.backend_id.BackendId.{BackendId}
use Rattle.pool_base.specs.declared.session_id.SessionId.{SessionId}
use Rattle.pool_base.specs.declared.gate_call.GateAnswer.{GateAnswer}
use Rattle.pool_base.specs.declared.gate_call.GateAnswer.TheVariants.{Seen, Granted, Held as IsHeld, Spent}
use Rattle.pool_base.specs.declared.gate_call.GateCall.TheVariants as calls
use Rattle.schema.specs.declared.catalogue.TableDef.{TableDef}
use Rattle.backend_trait.specs.declared.request.Request.{Request}
use Rattle.backend_trait.specs.Rows.{with_at}
use Rattle.backend_trait.specs.Store.{Transaction, Absent, Store, prepared}
use Rattle.session_machine.specs.declared.action.Cause.{Cause}
use Rattle.session_machine.specs.declared.action.SessionEvent.{SessionEvent}
use Rattle.session_machine.specs.declared.action.SessionEvent.TheVariants as events
use Rattle.session_machine.specs.declared.machine.Point.{Point}
use Rattle.session_machine.specs.declared.machine.Point.TheVariants as points
use Rattle.session_machine.specs.declared.machine.Stage.{Stage}
use Rattle.session_machine.specs.Rules.{request_of as asks_of_stage, action_at as machine_action, next_action as machine_next}
use Rattle.session_machine.specs.Allowed.{is_seen_or_granted}
use Rattle.session_machine.proofs.Backends.{same_backend}
use Rattle.snapshot_gate.specs.declared.state.GateState.{GateState}
use Rattle.snapshot_gate.specs.Function.{step, view_of, grant, refuse}
use Rattle.online_recovery.specs.declared.action.RecoveryAction.TheVariants as actions
use Rattle.online_recovery.specs.declared.standing.Quiet.TheVariants.{Open, Copying}
use Rattle.online_recovery.specs.declared.standing.Due.{Due}
use Rattle.online_recovery.specs.declared.standing.Due.TheVariants as dues
use Rattle.online_recovery.specs.declared.standing.Ending.{Ending}
use Rattle.online_recovery.specs.declared.standing.Ending.TheVariants.{Attached, Refused, Leaves}
use Rattle.online_recovery.specs.declared.standing.Held.{Held}
use Rattle.online_recovery.specs.declared.standing.Owed.{Owed}
use Rattle.online_recovery.specs.declared.standing.Owed.TheVariants.{Transaction as IsOwed, Snapshot, LiveTransaction, TheQuiet, Nothing}
use Rattle.online_recovery.specs.declared.standing.Standing.{Standing}
use Rattle.online_recovery.specs.State.{owed, backend_at, side_of}
use Rattle.online_recovery.specs.Rules.{closing_action, action_at, next_action, due, swapped, detached, after_at, after as recovery_after}
use Rattle.online_recovery.specs.Allowed.{MayHappen as RecoveryMay}
use Rattle.online_recovery.specs.Runs.{Phase}
use Rattle.online_recovery.proofs.Keeping.{no_swap}
use Rattle.one_copy_model.specs.World.{World, MaySwap}
use Rattle.one_copy_model.proofs.Places.{with_at-same, with_at-other, each_at, each_at2}
use Rattle.recovery_laws.specs.declared.step.Step.TheVariants.{Recover}
use Rattle.recovery_laws.specs.Pool.{Pool, world_of, after, MayStep}
use Rattle.recovery_laws.proofs.Lining.{WaitsAt}
use Rattle.recovery_laws.proofs.Freeing.{Shows}
use Rattle.recovery_laws.proofs.Stepping.{Holds}
use Rattle.recovery_seat.specs.Schedule.{State, Proceeds, MaySwap as MaySwapThere}
use Rattle.play_laws.specs.Joined.{IsWhole}
use Rattle.play_laws.proofs.Apart.{IsAway, IsLostDue, Facts}
use Rattle.play_laws.proofs.Courses.{RidsBy, IsCopy, Tidy, Steps, busy_of, detached_steps}
use Rattle.play_laws.proofs.Faces.{same_point}
use Rattle.play_laws.proofs.Joining.{alike_whole, blank_whole}
use Rattle.play_laws.proofs.Quiet.{session_or, detached_out}
use Rattle.play_laws.proofs.Recovering.{step_facts, swap_facts}
use Rattle.play_laws.proofs.Going.{AreExact, Goes, gate_moves}
use Rattle.play_laws.proofs.Serving.{gives, gone_fewer}
use Rattle.play_laws.proofs.Moving.{may_proceed, does_meet, few, fresh, alone, exact_still, stores_still, goes_by}

-- Which is detached.

closing_stays : (held : Held) (ending : Ending) (o : Owed) (b : BackendId) (cause : Cause) → closing_action held ending o ≡ actions.Detach b cause → ⊥
closing_stays held ending (IsOwed side) b cause e = absurd (cc)
closing_stays held ending Snapshot b cause e = absurd (cc)
closing_stays held ending LiveTransaction b cause e = absurd (cc)
closing_stays held ending TheQuiet b cause e = absurd (cc)
closing_stays held Attached Nothing b cause e = absurd (cc)
closing_stays held (Refused code) Nothing b cause e = absurd (cc)
closing_stays held Leaves Nothing b cause e = absurd (cc)

record LostAt (held : Held) (at : Due) (b : BackendId) : Type 0 where
  ending : Ending
  before : ℕ
  count : ℕ
  is : at ≡ dues.LostDue ending before count
  source : held.source ≡ b

lost_at_source : (held : Held) (at : Due) (b : BackendId) (cause : Cause) → action_at held at ≡ actions.Detach b cause → LostAt held at b
lost_at_source held (dues.LostDue ending before count) b cause e = record { ending = ending; before = before; count = count; is = refl; source = (let z : held.source ≡ b = cc in z) }
lost_at_source held (dues.Closing ending) b cause e = absurd (closing_stays held ending (owed held) b cause e)
lost_at_source held at b cause e = absurd (cc)

-- what its answer shows
gone_shows : (v : Bool) (k : GateState) (b : BackendId) → let n = (if v then grant k (calls.Detach b) else refuse k (Seen (view_of k))) in Shows n.1 n.0.attached.bits
gone_shows true k b = refl
gone_shows false k b = refl

-- Which is swapped.

swap_at : (held : Held) (at : Due) (b : BackendId) → action_at held at ≡ actions.Swap b → (at ≡ dues.SwapDue) × (held.target ≡ b)
swap_at held dues.SwapDue b e = (refl, (let z : held.target ≡ b = cc in z))
swap_at held (dues.Closing ending) b e = absurd (no_swap held ending (owed held) b e)
swap_at held at b e = absurd (cc)

waits_action : (held : Held) (at : Due) (b : BackendId) → WaitsAt held at b.number → action_at held at ≡ actions.WaitFor b
waits_action held (dues.Waiting task) b e = ap actions.WaitFor (same_backend (backend_at held (side_of task)) b e)
waits_action held (dues.Undoing side ending) b e = ap actions.WaitFor (same_backend (backend_at held side) b e)
waits_action held at b e = absurd e

none_unless : {X : Type 0} (x : Option X) → ((y : X) → x ≡ Some y → ⊥) → x ≡ None
none_unless None never = refl
none_unless (Some y) never = absurd (never y refl)

module _ (tables : List TableDef) (old new : State) (p : Pool) (phases : ℕ → Phase) (g : Goes tables old p phases) (s : SessionId) where
  abbrev r : Standing
  r = p.recovery s.number

  abbrev w : World
  w = world_of p

  -- A detachment.

  module _ (b : BackendId) (cause : Cause) (answer : GateAnswer) (h : Proceeds tables s old (events.Detached b cause answer) new) where
    abbrev d_event : SessionEvent
    d_event = events.Detached b cause answer

    gone_due : RecoveryMay r d_event
    gone_due = may_proceed tables old new p phases g s d_event h.may

    pub detach_may : MayStep p (Recover s d_event)
    detach_may = (gone_due, gives p.gate old.shared.gate new.shared.gate (calls.Detach b) answer g.follows.gate tt h.answered)

    lost : LostAt r.held r.due b
    lost = lost_at_source r.held r.due b cause gone_due.0

    abbrev m : ℕ
    m = (step p.gate (calls.Detach b)).0.attached.bits

    shows : Shows answer m
    shows = subst (λ (a : GateAnswer). Shows a m) detach_may.1.1 (gone_shows (has p.gate.attached.bits b.number) p.gate b)

    seen_steps : (a : GateAnswer) → is_seen_or_granted a ≡ true → Shows a m → Steps m (due r.held (dues.LostDue lost.ending lost.before lost.count)) (detached r.held (dues.LostDue lost.ending lost.before lost.count) a)
    seen_steps (Seen view) may shows = detached_steps m r.held lost.ending lost.before lost.count view shows (subst (λ (d : Due). Tidy (due r.held d)) lost.is (g.facts.tidy s.number))
    seen_steps (Granted view) may shows = detached_steps m r.held lost.ending lost.before lost.count view shows (subst (λ (d : Due). Tidy (due r.held d)) lost.is (g.facts.tidy s.number))
    seen_steps (IsHeld count) may shows = absurd (let z : false ≡ true = may in cc)
    seen_steps Spent may shows = absurd (let z : false ≡ true = may in cc)

    steps_gone : Steps m r (recovery_after r d_event)
    unfolding after_at
    steps_gone = subst (λ (d : Due). Steps m (due r.held d) (detached r.held d answer)) (sym lost.is) (seen_steps answer gone_due.1 shows)

    up : r.due ≡ dues.Resting → ⊥
    up e = let z : dues.LostDue lost.ending lost.before lost.count ≡ dues.Resting = sym lost.is ∙ e in cc

    pub detach_goes : (behind : ℕ → Phase) → Holds (after p (Recover s d_event)) behind → Goes tables new (after p (Recover s d_event)) behind
    detach_goes behind holds =
        let x = recovery_after r d_event in
        let small = few tables old new p phases g s in
        goes_by tables old new p phases g s d_event (after p (Recover s d_event)) behind h.machines h.recoveries (gate_moves p.gate old.shared.gate new.shared.gate d_event g.follows.gate h.answered)
        refl refl refl g.follows.told refl (stores_still tables old new p phases g s h.serves p.asked (λ o k. refl))
        (step_facts p.gate.attached.bits w.machine w.store p.recovery p.transaction p.asked g.facts m (gone_fewer p.gate b small) s.number x steps_gone
        (λ l. subst (λ (k : BackendId). has m k.number ≡ false) (sym lost.source) (detached_out p.gate b small))
        (λ k here. fresh tables old new p phases g s (g.holds.rests s.number up) k (gone_fewer p.gate b small k here)))
        (exact_still tables old new p phases g s x h.serves steps_gone.copies) holds

  -- A Swap.

  module _ (b : BackendId) (h : Proceeds tables s old (events.Swapped b) new) where
    abbrev s_event : SessionEvent
    s_event = events.Swapped b

    swap_due : RecoveryMay r s_event
    swap_due = may_proceed tables old new p phases g s s_event h.may

    at_swap : (r.due ≡ dues.SwapDue) × (r.held.target ≡ b)
    at_swap = swap_at r.held r.due b swap_due

    lets : MaySwapThere old b
    lets = h.lets

    -- of a session's machine in the play
    machine_of : (o : SessionId) (point : Point) → (w.machine o.number).point ≡ point → machine_next (old.machines o) ≡ machine_action (old.machines o).session point
    machine_of o point e =
        ap (machine_action (old.machines o).session) (sym (same_point (w.machine o.number) (old.machines o) (g.follows.machines o)) ∙ e)

    never_waits : (o : ℕ) (stage : Stage) → (w.machine o).point ≡ points.Waiting stage b → ⊥
    never_waits o stage e = elim (session_or o) [
      | inl strange ↦ (let z : points.Resting ≡ points.Waiting stage b = sym (g.holds.invariant.strangers o strange).point ∙ e in cc)
      | inr id ↦ lets.unasked id.0 (machine_of id.0 (points.Waiting stage b) (subst (λ k. (w.machine k).point ≡ points.Waiting stage b) (sym id.1) e))
    ]

    never_posts : (o : ℕ) (stage : Stage) → (w.machine o).point ≡ points.PostDue stage b → ⊥
    never_posts o stage e = elim (session_or o) [
      | inl strange ↦ (let z : points.Resting ≡ points.PostDue stage b = sym (g.holds.invariant.strangers o strange).point ∙ e in cc)
      | inr id ↦ lets.unposted id.0 (asks_of_stage stage) (machine_of id.0 (points.PostDue stage b) (subst (λ k. (w.machine k).point ≡ points.PostDue stage b) (sym id.1) e))
    ]

    out_here : has p.gate.attached.bits b.number ≡ false
    out_here = ap (λ (k : GateState). has k.attached.bits b.number) g.follows.gate ∙ lets.detached

    of_sessions : MaySwap w b
    of_sessions = record {
      detached = ap (λ (k : GateState). has k.attached.bits b.number) g.holds.counts.same ∙ out_here;
      unasked = λ o q. never_waits o q.stage q.waits;
      unposted = λ o q. never_posts o q.stage q.due;
    }

    never_asked : (o : ℕ) → p.asked o b.number ≡ None
    never_asked o = none_unless (p.asked o b.number) (λ request is.
        let waits = waits_action (p.recovery o).held (p.recovery o).due b ((g.holds.lines o).asks b.number request is).0 in
        elim (session_or o) [
          | inl strange ↦ (let z : actions.Rest ≡ actions.WaitFor b = sym (ap (λ (d : Due). action_at (p.recovery o).held d) (g.strange o strange)) ∙ waits in cc)
          | inr id ↦ lets.unawaited id.0 (ap next_action (sym (g.follows.recoveries id.0)) ∙ (ap (λ k. next_action (p.recovery k)) id.1 ∙ waits))
        ])

    never_asks : (o : ℕ) (request : Request) → ¬ (next_action (p.recovery o) ≡ actions.Post b request)
    never_asks o request e = elim (session_or o) [
      | inl strange ↦ (let z : actions.Rest ≡ actions.Post b request = sym (ap (λ (d : Due). action_at (p.recovery o).held d) (g.strange o strange)) ∙ e in cc)
      | inr id ↦ lets.unrecovered id.0 request (ap next_action (sym (g.follows.recoveries id.0)) ∙ (ap (λ k. next_action (p.recovery k)) id.1 ∙ e))
    ]

    pub swap_may : MayStep p (Recover s s_event)
    swap_may = (swap_due, record { sessions = of_sessions; unasked = never_asked; unposted = never_asks })

    away_by : (o : ℕ) (point : Point) → (w.machine o).point ≡ point → IsAway b.number point
    away_by o (points.PostDue stage c) e = λ same. never_posts o stage (e ∙ ap (points.PostDue stage) (same_backend c b same))
    away_by o (points.Waiting stage c) e = λ same. never_waits o stage (e ∙ ap (points.Waiting stage) (same_backend c b same))
    away_by o point e = tt

    abbrev x : Standing
    x = recovery_after r s_event

    is_x : x ≡ due r.held dues.EnterDue
    unfolding after_at
    is_x = ap (λ (d : Due). swapped r.held d) at_swap.0

    quiet_here : (phases s.number).quiet ≡ Open → ⊥
    quiet_here e = let z : Copying ≡ Open = sym (does_meet tables old new p phases g s s_event swap_due).1 ∙ e in cc

    abbrev FactsOf : Standing → Type 0
    FactsOf y = Facts p.gate.attached.bits w.machine (with_at w.store b.number (prepared w.tables)) (with_at p.recovery s.number y) (λ o. with_at (p.transaction o) b.number Absent) p.asked

    blank_facts : FactsOf x
    blank_facts =
        subst FactsOf (sym is_x)
        (swap_facts p.gate.attached.bits w.machine w.store p.recovery p.transaction p.asked g.facts w.tables s.number (due r.held dues.EnterDue) b.number out_here (λ o. away_by o (w.machine o).point refl)
        (alone tables old new p phases g s quiet_here) tt
        (record {
          rids = subst (λ (d : Due). RidsBy d r.held.at_source r.held.at_target) at_swap.0 (g.facts.tidy s.number).rids;
          at_source = (g.facts.tidy s.number).at_source;
          at_target = (g.facts.tidy s.number).at_target;
        })
        (ap (λ (k : BackendId). k.number) at_swap.1) (λ has_one. busy_of r.due (r.held.at_source ≡ true) has_one) refl refl (λ l. subst IsLostDue at_swap.0 l)
        (λ e. let z : true ≡ false = sym e ∙ (subst (λ (d : Due). RidsBy d r.held.at_source r.held.at_target) at_swap.0 (g.facts.tidy s.number).rids).0 in cc))

    abbrev Y : ℕ → ℕ → Transaction
    Y o = with_at (p.transaction o) b.number Absent

    blank_stores : (k : ℕ) → IsWhole (with_at w.store b.number (prepared w.tables) k) (λ o. Y o k) (λ o. p.asked o k) (new.shared.stores k)
    blank_stores k =
        subst (λ (st : ℕ → Store). IsWhole (with_at w.store b.number (prepared w.tables) k) (λ o. Y o k) (λ o. p.asked o k) (st k)) (sym h.serves)
        (each_at2 (λ j y z. IsWhole y (λ o. Y o j) (λ o. p.asked o j) z) w.store old.shared.stores b.number (prepared w.tables) (prepared tables)
        (subst (λ (ts : List TableDef). IsWhole (prepared w.tables) (λ o. Y o b.number) (λ o. p.asked o b.number) (prepared ts)) g.follows.catalogue
        (alike_whole (prepared w.tables) (prepared w.tables) (λ o. Absent) (λ o. p.asked o b.number) (blank_whole w.tables (λ o. p.asked o b.number) never_asked)
        (λ o. Y o b.number) (λ o. p.asked o b.number) (λ o. with_at-same (p.transaction o) b.number Absent) (λ o. refl)))
        (λ j other. alike_whole (w.store j) (old.shared.stores j) (λ o. p.transaction o j) (λ o. p.asked o j) (g.follows.stores j) (λ o. Y o j) (λ o. p.asked o j)
        (λ o. with_at-other (p.transaction o) b.number Absent j other) (λ o. refl)) k)

    blank_exact : AreExact new (after p (Recover s s_event))
    blank_exact =
        each_at (λ o y. IsCopy y.held y.due → (new.shared.stores y.held.target.number).transaction o ≡ Y o y.held.target.number) p.recovery s.number x
        (λ copy.
        subst (λ (y : Standing). (new.shared.stores y.held.target.number).transaction s.number ≡ Y s.number y.held.target.number) (sym is_x)
        (subst (λ (k : BackendId). (new.shared.stores k.number).transaction s.number ≡ Y s.number k.number) (sym at_swap.1)
        (ap (λ (st : ℕ → Store). (st b.number).transaction s.number) h.serves
        ∙ (ap (λ (y : Store). y.transaction s.number) (with_at-same old.shared.stores b.number (prepared tables)) ∙ sym (with_at-same (p.transaction s.number) b.number Absent)))))
        (λ o other copy. absurd (alone tables old new p phases g s quiet_here o other copy))

    pub swap_goes : (behind : ℕ → Phase) → Holds (after p (Recover s s_event)) behind → Goes tables new (after p (Recover s s_event)) behind
    swap_goes behind holds =
        goes_by tables old new p phases g s s_event (after p (Recover s s_event)) behind h.machines h.recoveries (gate_moves p.gate old.shared.gate new.shared.gate s_event g.follows.gate h.answered)
        refl refl refl g.follows.told refl blank_stores blank_facts blank_exact holds
