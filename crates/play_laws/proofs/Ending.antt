-- A recovery posts, sees a loss, detaches, replies, and puts a blank store in the place of its target.
use Rattle.std.proofs.Common.{◌≡◌, ◌≢◌, ℕ, true, false, List, refl, sym, ap, ◌∙◌, subst, inl, inr, is_some}
use Rattle.std.specs.Prelude.{Option, Some, None}
use Rattle.pool_base.specs.declared.backend_id.BackendId.{BackendId}
use Rattle.pool_base.specs.declared.session_id.SessionId.{SessionId}
use Rattle.schema.specs.declared.catalogue.TableDef.{TableDef}
use Rattle.backend_trait.specs.declared.request.Request.{Request}
use Rattle.backend_trait.specs.Rows.{with_at}
use Rattle.backend_trait.specs.Store.{Store, posted as store_posted}
use Rattle.session_orders.specs.declared.outcome.Outcome.{Outcome}
use Rattle.session_machine.specs.declared.action.SessionEvent.{SessionEvent}
use Rattle.session_machine.specs.declared.action.SessionEvent.TheVariants as events
use Rattle.session_machine.specs.declared.status.Status.{Status}
use Rattle.online_recovery.specs.declared.action.RecoveryAction.TheVariants as actions
use Rattle.online_recovery.specs.declared.standing.Due.{Due}
use Rattle.online_recovery.specs.declared.standing.Due.TheVariants as dues
use Rattle.online_recovery.specs.declared.standing.Ending.{Ending}
use Rattle.online_recovery.specs.declared.standing.Ending.TheVariants.{Refused}
use Rattle.online_recovery.specs.declared.standing.Held.{Held}
use Rattle.online_recovery.specs.declared.standing.Owed.{Owed}
use Rattle.online_recovery.specs.declared.standing.Owed.TheVariants.{Transaction as IsOwed, Snapshot, LiveTransaction, TheQuiet, Nothing}
use Rattle.online_recovery.specs.declared.standing.Side.{Side}
use Rattle.online_recovery.specs.declared.standing.Side.TheVariants.{Source, Target}
use Rattle.online_recovery.specs.declared.standing.Standing.{Standing}
use Rattle.online_recovery.specs.Codes.{lost_on_the_way}
use Rattle.online_recovery.specs.State.{owed, backend_at, side_of}
use Rattle.online_recovery.specs.Rules.{closing_action, action_at, due, lost_at, faulted, undone, posted, after_at, after as recovery_after}
use Rattle.online_recovery.specs.Allowed.{MayHappen as RecoveryMay}
use Rattle.online_recovery.specs.Runs.{Phase}
use Rattle.one_copy_model.specs.World.{World}
use Rattle.one_copy_model.proofs.Places.{same_or_other, with_at-same, with_at-other, each_at, each_at2}
use Rattle.recovery_laws.specs.declared.step.Step.TheVariants.{Recover}
use Rattle.recovery_laws.specs.Pool.{Pool, world_of, with_two, after, MayStep}
use Rattle.recovery_laws.proofs.Lining.{WaitsAt}
use Rattle.recovery_laws.proofs.Stepping.{Holds}
use Rattle.recovery_seat.specs.Schedule.{State, Proceeds}
use Rattle.play_laws.specs.Joined.{IsWhole}
use Rattle.play_laws.proofs.Apart.{IsLostDue, IsHolding}
use Rattle.play_laws.proofs.Courses.{RidsBy, HasSource, IsCopy, IsCalm, Tidy, busy_of, copy_of, new_tidy}
use Rattle.play_laws.proofs.Hearing.{undoing_tidy, lost_tidy}
use Rattle.play_laws.proofs.Joining.{alike_whole, asked_whole, faulted_whole, unposed}
use Rattle.play_laws.proofs.Meets.{closing_waits, last_rids, is_last}
use Rattle.play_laws.proofs.Recovering.{two_same, moved_facts}
use Rattle.play_laws.proofs.Going.{Goes, gate_moves}
use Rattle.play_laws.proofs.Moving.{may_proceed, exact_still, stores_still, goes_by}

-- Where a post leads: it waits there.

record Posts (held : Held) (at : Due) (b : BackendId) : Type 0 where
  waits : (k : ℕ) → WaitsAt (posted held at).held (posted held at).due k → b.number ≡ k
  tidy : Tidy (due held at) → Tidy (posted held at)
  same : (posted held at).held ≡ held
  copies : IsCopy held (posted held at).due → IsCopy held at
  sources : HasSource held (posted held at).due → HasSource held at
  lost : IsLostDue at → ⊥

undone_posts : (held : Held) (ending : Ending) (o : Owed) (b : BackendId) (request : Request) → owed held ≡ o → closing_action held ending o ≡ actions.Post b request
    → (k : ℕ) → WaitsAt (undone held ending o).held (undone held ending o).due k → b.number ≡ k
undone_posts held ending (IsOwed side) b request is e k w = ap (λ (x : BackendId). x.number) (sym (let z : backend_at held side ≡ b = cc in z)) ∙ w
undone_posts held ending Snapshot b request is e k w = absurd w
undone_posts held ending LiveTransaction b request is e k w = absurd w
undone_posts held ending TheQuiet b request is e k w = absurd w
undone_posts held ending Nothing b request is e k w = absurd w

undone_tidies : (held : Held) (ending : Ending) (o : Owed) → owed held ≡ o → Tidy (due held (dues.Closing ending)) → Tidy (undone held ending o)
undone_tidies held ending (IsOwed side) is old = undoing_tidy held side ending is old
undone_tidies held ending Snapshot is old = old
undone_tidies held ending LiveTransaction is old = old
undone_tidies held ending TheQuiet is old = old
undone_tidies held ending Nothing is old = old

undone_same : (held : Held) (ending : Ending) (o : Owed) → (undone held ending o).held ≡ held
undone_same held ending (IsOwed side) = refl
undone_same held ending Snapshot = refl
undone_same held ending LiveTransaction = refl
undone_same held ending TheQuiet = refl
undone_same held ending Nothing = refl

undone_copies : (held : Held) (ending : Ending) (o : Owed) → IsCopy held (undone held ending o).due → IsCopy held (dues.Closing ending)
undone_copies held ending (IsOwed side) c = c
undone_copies held ending Snapshot c = c
undone_copies held ending LiveTransaction c = c
undone_copies held ending TheQuiet c = c
undone_copies held ending Nothing c = c

undone_sources : (held : Held) (ending : Ending) (o : Owed) → HasSource held (undone held ending o).due → HasSource held (dues.Closing ending)
undone_sources held ending (IsOwed side) c = c
undone_sources held ending Snapshot c = c
undone_sources held ending LiveTransaction c = c
undone_sources held ending TheQuiet c = c
undone_sources held ending Nothing c = c

posts : (held : Held) (at : Due) (b : BackendId) (request : Request) → action_at held at ≡ actions.Post b request → Posts held at b
posts held (dues.PostDue task) b request e = record {
  waits = λ k w. ap (λ (x : BackendId). x.number) (sym (let z : backend_at held (side_of task) ≡ b = cc in z)) ∙ w;
  tidy = λ old. record { rids = old.rids; at_source = old.at_source; at_target = old.at_target };
  same = refl;
  copies = λ c. tt;
  sources = λ c. tt;
  lost = λ l. l;
}
posts held (dues.Closing ending) b request e = record {
  waits = undone_posts held ending (owed held) b request refl e;
  tidy = undone_tidies held ending (owed held) refl;
  same = undone_same held ending (owed held);
  copies = undone_copies held ending (owed held);
  sources = undone_sources held ending (owed held);
  lost = λ l. l;
}
posts held at b request e = absurd (cc)

-- Where a loss leads.

pub wait_is : (held : Held) (at : Due) (b : BackendId) → action_at held at ≡ actions.WaitFor b → WaitsAt held at b.number
wait_is held (dues.Waiting task) b e = ap (λ (x : BackendId). x.number) (let z : backend_at held (side_of task) ≡ b = cc in z)
wait_is held (dues.Undoing side ending) b e = ap (λ (x : BackendId). x.number) (let z : backend_at held side ≡ b = cc in z)
wait_is held (dues.Closing ending) b e = absurd (closing_waits held ending (owed held) b e)
wait_is held at b e = absurd (cc)

record Losing (held : Held) (at : Due) (x : Standing) : Type 0 where
  calm : IsCalm x.due
  tidy : Tidy x
  copies : IsCopy x.held x.due → IsCopy held at × ((x.held.target ≡ held.target) × (x.held.at_target ≡ held.at_target))
  sources : HasSource x.held x.due → HasSource held at × (x.held.source ≡ held.source)
  holds : (b : ℕ) → IsHolding (due held at) b → IsHolding x b

losing : (held : Held) (at : Due) (side : Side) (ending : Ending) (before count : ℕ) → Tidy (due held at) → (IsLostDue at → ⊥) → Losing held at (lost_at held side ending before count)
losing held at Source ending before count old unlost = record {
  calm = tt;
  tidy = lost_tidy held Source ending before count old.at_source old.at_target;
  copies = λ c. (copy_of held at c, (refl, refl));
  sources = λ c. absurd (let z : false ≡ true = c in cc);
  holds = λ b h. (inr tt, h.1);
}
losing held at Target ending before count old unlost = record {
  calm = tt;
  tidy = lost_tidy held Target ending before count old.at_source old.at_target;
  copies = λ c. absurd (let z : false ≡ true = c in cc);
  sources = λ c. (busy_of at (held.at_source ≡ true) c, refl);
  holds = λ b h. (elim h.0 [ inl e ↦ inl e | inr l ↦ absurd (unlost l) ], h.1);
}

loses_at : (held : Held) (at : Due) (b : BackendId) (before count : ℕ) → action_at held at ≡ actions.WaitFor b → Tidy (due held at) → Losing held at (faulted held at before count)
loses_at held (dues.Waiting task) b before count e old = losing held (dues.Waiting task) (side_of task) (Refused lost_on_the_way) before count old (λ l. l)
loses_at held (dues.Undoing side ending) b before count e old = losing held (dues.Undoing side ending) side ending before count old (λ l. l)
loses_at held (dues.Closing ending) b before count e old = absurd (closing_waits held ending (owed held) b e)
loses_at held at b before count e old = absurd (cc)

calm_away : (held : Held) (at : Due) (k : ℕ) → IsCalm at → WaitsAt held at k → ⊥
calm_away held (dues.Waiting task) k calm w = calm
calm_away held (dues.Undoing side ending) k calm w = calm
calm_away held at k calm w = w

pub asked_some : (x : Option Request) → is_some x ≡ true → (request : Request) × (x ≡ Some request)
asked_some None e = absurd (let z : false ≡ true = e in cc)
asked_some (Some request) e = (request, refl)

module _ (tables : List TableDef) (old new : State) (p : Pool) (phases : ℕ → Phase) (g : Goes tables old p phases) (s : SessionId) where
  abbrev r : Standing
  r = p.recovery s.number

  abbrev w : World
  w = world_of p

  others_ask : (b : ℕ) (a : Option Request) (o : ℕ) → o ≢ s.number → with_two p.asked s.number b a o ≡ p.asked o
  others_ask b a o other = with_at-other p.asked s.number (with_at (p.asked s.number) b a) o other

  -- A post.

  module _ (b : BackendId) (request : Request) (h : Proceeds tables s old (events.Posted b request) new) where
    abbrev p_event : SessionEvent
    p_event = events.Posted b request

    post_due : RecoveryMay r p_event
    post_due = may_proceed tables old new p phases g s p_event h.may

    none_there : (old.shared.stores b.number).pending s.number ≡ None
    none_there = h.serves.0

    pub ask_may : MayStep p (Recover s p_event)
    ask_may = (
      post_due,
      (unposed (w.store b.number).lost (p.asked s.number b.number) ((w.store b.number).pending s.number) ((old.shared.stores b.number).pending s.number) ((g.follows.stores b.number).posed s.number) none_there).0,
    )

    led : Posts r.held r.due b
    led = posts r.held r.due b request post_due

    abbrev B : ℕ → ℕ → Option Request
    B = with_two p.asked s.number b.number (Some request)

    asks_now : (k : ℕ) → WaitsAt (recovery_after r p_event).held (recovery_after r p_event).due k → is_some (B s.number k) ≡ true
    unfolding after_at
    asks_now k waits = subst (λ j. is_some (B s.number j) ≡ true) (led.waits k waits) (ap is_some (two_same p.asked s.number b.number (Some request)))

    copies_now : IsCopy (recovery_after r p_event).held (recovery_after r p_event).due → IsCopy r.held r.due × (((recovery_after r p_event).held.target ≡ r.held.target) × ((recovery_after r p_event).held.at_target ≡ r.held.at_target))
    unfolding after_at
    copies_now c =
        (led.copies (subst (λ (x : Held). IsCopy x (posted r.held r.due).due) led.same c), (ap (λ (x : Held). x.target) led.same, ap (λ (x : Held). x.at_target) led.same))

    sources_now : HasSource (recovery_after r p_event).held (recovery_after r p_event).due → HasSource r.held r.due × ((recovery_after r p_event).held.source ≡ r.held.source)
    unfolding after_at
    sources_now c = (led.sources (subst (λ (x : Held). HasSource x (posted r.held r.due).due) led.same c), ap (λ (x : Held). x.source) led.same)

    holds_now : (k : ℕ) → IsHolding r k → IsHolding (recovery_after r p_event) k
    unfolding after_at
    holds_now k q =
        (elim q.0 [ inl e ↦ inl (ap (λ (x : Held). x.at_source) led.same ∙ e) | inr l ↦ absurd (led.lost l) ], ap (λ (x : Held). x.source.number) led.same ∙ q.1)

    tidy_now : Tidy (recovery_after r p_event)
    unfolding after_at
    tidy_now = led.tidy (g.facts.tidy s.number)

    posted_stores : (k : ℕ) → IsWhole (w.store k) (λ o. p.transaction o k) (λ o. B o k) (new.shared.stores k)
    posted_stores k =
        subst (λ (st : ℕ → Store). IsWhole (w.store k) (λ o. p.transaction o k) (λ o. B o k) (st k)) (sym h.serves.1)
        (each_at (λ j y. IsWhole (w.store j) (λ o. p.transaction o j) (λ o. B o j) y) old.shared.stores b.number (store_posted (old.shared.stores b.number) s.number request)
        (alike_whole (w.store b.number) (store_posted (old.shared.stores b.number) s.number request) (λ o. p.transaction o b.number) (with_at (λ o. p.asked o b.number) s.number (Some request))
        (asked_whole (w.store b.number) (old.shared.stores b.number) (λ o. p.transaction o b.number) (λ o. p.asked o b.number) (g.follows.stores b.number) s.number request none_there)
        (λ o. p.transaction o b.number) (λ o. B o b.number) (λ o. refl)
        (each_at2 (λ o x y. x b.number ≡ y) p.asked (λ o. p.asked o b.number) s.number (with_at (p.asked s.number) b.number (Some request)) (Some request)
        (with_at-same (p.asked s.number) b.number (Some request)) (λ o other. refl)))
        (λ j other. alike_whole (w.store j) (old.shared.stores j) (λ o. p.transaction o j) (λ o. p.asked o j) (g.follows.stores j) (λ o. p.transaction o j) (λ o. B o j) (λ o. refl)
        (each_at (λ o x. x j ≡ p.asked o j) p.asked s.number (with_at (p.asked s.number) b.number (Some request)) (with_at-other (p.asked s.number) b.number (Some request) j other) (λ o differ. refl))) k)

    pub ask_goes : (behind : ℕ → Phase) → Holds (after p (Recover s p_event)) behind → Goes tables new (after p (Recover s p_event)) behind
    ask_goes behind holds =
        goes_by tables old new p phases g s p_event (after p (Recover s p_event)) behind h.machines h.recoveries (gate_moves p.gate old.shared.gate new.shared.gate p_event g.follows.gate h.answered)
        refl refl refl g.follows.told refl posted_stores
        (moved_facts p.gate.attached.bits w.machine w.store p.recovery p.transaction p.asked g.facts s.number (recovery_after r p_event) B tidy_now asks_now
        (others_ask b.number (Some request)) copies_now sources_now holds_now)
        (each_at (λ o y. IsCopy y.held y.due → (new.shared.stores y.held.target.number).transaction o ≡ p.transaction o y.held.target.number) p.recovery s.number (recovery_after r p_event)
        (λ copy.
        let c = copies_now copy in
        subst (λ (k : BackendId). (new.shared.stores k.number).transaction s.number ≡ p.transaction s.number k.number) (sym c.1.0) (same_there s.number r.held.target.number ∙ g.exact s.number c.0))
        (λ o other copy. same_there o (p.recovery o).held.target.number ∙ g.exact o copy))
        holds
      where
        same_there : (o k : ℕ) → (new.shared.stores k).transaction o ≡ (old.shared.stores k).transaction o
        same_there o k =
            ap (λ (st : ℕ → Store). (st k).transaction o) h.serves.1
            ∙ each_at (λ j x. x.transaction o ≡ (old.shared.stores j).transaction o) old.shared.stores b.number (store_posted (old.shared.stores b.number) s.number request) refl (λ j other. refl) k

  -- A loss that is seen.

  module _ (b : BackendId) (before count : ℕ) (h : Proceeds tables s old (events.Faulted b before count) new) where
    abbrev f_event : SessionEvent
    f_event = events.Faulted b before count

    fault_due : RecoveryMay r f_event
    fault_due = may_proceed tables old new p phases g s f_event h.may

    is_lost : (w.store b.number).lost ≡ true
    is_lost = sym (ap (λ (x : Store). x.lost) (g.follows.stores b.number).same) ∙ h.serves.0

    is_asked : is_some (p.asked s.number b.number) ≡ true
    is_asked = g.facts.asks s.number b.number (wait_is r.held r.due b fault_due.0)

    pub fault_may : MayStep p (Recover s f_event)
    fault_may = (fault_due, (is_lost, is_asked))

    its : (request : Request) × (p.asked s.number b.number ≡ Some request)
    its = asked_some (p.asked s.number b.number) is_asked

    abbrev D : ℕ → ℕ → Option Request
    D = with_two p.asked s.number b.number None

    losing_now : Losing r.held r.due (recovery_after r f_event)
    unfolding after_at
    losing_now = loses_at r.held r.due b before count fault_due.0 (g.facts.tidy s.number)

    lost_stores : (k : ℕ) → IsWhole (w.store k) (λ o. p.transaction o k) (λ o. D o k) (new.shared.stores k)
    lost_stores k =
        subst (λ (st : ℕ → Store). IsWhole (w.store k) (λ o. p.transaction o k) (λ o. D o k) (st k)) (sym h.serves.1.1)
        (elim (same_or_other k b.number) [
          | inl e ↦ subst (λ j. IsWhole (w.store j) (λ o. p.transaction o j) (λ o. D o j) (old.shared.stores j)) (sym e)
              (alike_whole (w.store b.number) (old.shared.stores b.number) (λ o. p.transaction o b.number) (with_at (λ o. p.asked o b.number) s.number None)
              (faulted_whole (w.store b.number) (old.shared.stores b.number) (λ o. p.transaction o b.number) (λ o. p.asked o b.number) (g.follows.stores b.number) s.number its.0 is_lost its.1)
              (λ o. p.transaction o b.number) (λ o. D o b.number) (λ o. refl)
              (each_at2 (λ o x y. x b.number ≡ y) p.asked (λ o. p.asked o b.number) s.number (with_at (p.asked s.number) b.number None) None
              (with_at-same (p.asked s.number) b.number None) (λ o other. refl)))
          | inr other ↦ alike_whole (w.store k) (old.shared.stores k) (λ o. p.transaction o k) (λ o. p.asked o k) (g.follows.stores k) (λ o. p.transaction o k) (λ o. D o k) (λ o. refl)
              (each_at (λ o x. x k ≡ p.asked o k) p.asked s.number (with_at (p.asked s.number) b.number None) (with_at-other (p.asked s.number) b.number None k other) (λ o differ. refl))
        ])

    pub fault_goes : (behind : ℕ → Phase) → Holds (after p (Recover s f_event)) behind → Goes tables new (after p (Recover s f_event)) behind
    fault_goes behind holds =
        let x = recovery_after r f_event in
        goes_by tables old new p phases g s f_event (after p (Recover s f_event)) behind h.machines h.recoveries (gate_moves p.gate old.shared.gate new.shared.gate f_event g.follows.gate h.answered)
        refl refl refl g.follows.told refl lost_stores
        (moved_facts p.gate.attached.bits w.machine w.store p.recovery p.transaction p.asked g.facts s.number x D losing_now.tidy (λ k e. absurd (calm_away x.held x.due k losing_now.calm e))
        (others_ask b.number None) losing_now.copies losing_now.sources losing_now.holds)
        (exact_still tables old new p phases g s x h.serves.1.1 (λ c. let q = losing_now.copies c in (q.0, q.1.0))) holds

  -- The reply.

  module _ (outcome : Outcome) (status : Status) (h : Proceeds tables s old (events.Replied outcome status) new) where
    abbrev e_event : SessionEvent
    e_event = events.Replied outcome status

    reply_due : RecoveryMay r e_event
    reply_due = may_proceed tables old new p phases g s e_event h.may

    pub reply_may : MayStep p (Recover s e_event)
    reply_may = (reply_due, tt)

    nothing_held : (r.held.at_source ≡ false) × (IsLostDue r.due → ⊥)
    nothing_held = elim reply_due [
      | inl e ↦ (last_rids r.held r.due (is_last (actions.Reply outcome status) r.held r.due e tt), λ l. reply_unlost r.held r.due e l)
      | inr none ↦ (
        (subst (λ (d : Due). RidsBy d r.held.at_source r.held.at_target) none.0 (g.facts.tidy s.number).rids).0,
        λ l. subst IsLostDue none.0 l,
      )
    ]
      where
        reply_unlost : (held : Held) (at : Due) → action_at held at ≡ actions.Reply outcome status → IsLostDue at → ⊥
        reply_unlost held (dues.LostDue ending before count) e l = absurd (cc)
        reply_unlost held at e l = l

    pub reply_goes : (behind : ℕ → Phase) → Holds (after p (Recover s e_event)) behind → Goes tables new (after p (Recover s e_event)) behind
    unfolding after_at
    reply_goes behind holds =
        let x = recovery_after r e_event in
        goes_by tables old new p phases g s e_event (after p (Recover s e_event)) behind h.machines h.recoveries (gate_moves p.gate old.shared.gate new.shared.gate e_event g.follows.gate h.answered)
        refl refl refl g.follows.told refl (stores_still tables old new p phases g s h.serves p.asked (λ o b. refl))
        (moved_facts p.gate.attached.bits w.machine w.store p.recovery p.transaction p.asked g.facts s.number x p.asked (new_tidy x refl refl refl) (λ k e. absurd e) (λ o other. refl)
        (λ c. absurd (let z : false ≡ true = c in cc)) (λ c. absurd (let z : false ≡ true = c in cc))
        (λ k q. elim q.0 [ inl e ↦ absurd (let z : true ≡ false = sym e ∙ nothing_held.0 in cc) | inr l ↦ absurd (nothing_held.1 l) ]))
        (exact_still tables old new p phases g s x h.serves (λ c. absurd (let z : false ≡ true = c in cc))) holds
