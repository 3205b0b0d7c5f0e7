-- A statement is ordered: it goes to the gate, or is asked there and begins its chain.
use Rattle.std.proofs.Common.{◌≡◌, ◌≢◌, ℕ, ◌≤◌, Bool, true, false, List, [], ◌∷◌, length, refl, sym, ap, ◌∙◌, subst, arith}
use Rattle.std.specs.Prelude.{Option, Some, None}
use Rattle.pool_base.specs.declared.session_id.SessionId.{SessionId}
use Rattle.backend_trait.specs.declared.answer.Answer.{Answer}
use Rattle.backend_trait.specs.Store.{Transaction, Absent, Alive}
use Rattle.session_machine.specs.declared.action.SessionEvent.TheVariants.{Ordered}
use Rattle.session_machine.specs.declared.work.Work.{Work}
use Rattle.session_orders.specs.declared.order.Order.{Order}
use Rattle.session_machine.specs.declared.machine.GatePhase.TheVariants as phases
use Rattle.session_machine.specs.declared.machine.Machine.{Machine}
use Rattle.session_machine.specs.declared.machine.Stage.{Stage}
use Rattle.session_machine.specs.Rules.{ordered}
use Rattle.one_copy_model.specs.declared.deed.Entry.{Entry}
use Rattle.one_copy_model.specs.declared.event.Event.TheVariants.{Of}
use Rattle.one_copy_model.specs.SingleRun.{store_after}
use Rattle.one_copy_model.specs.Places.{at_order}
use Rattle.one_copy_model.specs.Deaths.{stage_at}
use Rattle.one_copy_model.specs.Tracking.{Told, Tracked, tracked_after, in_commit}
use Rattle.one_copy_model.specs.Orders.{OrderAt, reply_in, is_of_commit, IsClassed, IsClassedAt}
use Rattle.one_copy_model.specs.Chains.{IsInOrder}
use Rattle.one_copy_model.specs.Tracking.{single}
use Rattle.one_copy_model.specs.Deaths.{is_live}
use Rattle.one_copy_model.specs.Standing.{Alike, Leaving, Stands, leaving_of}
use Rattle.one_copy_model.specs.Invariant.{Invariant, FitsPoint, where_live, wants_of, request_in, inserting_in, Inserts, IsUnderWay}
use Rattle.one_copy_model.specs.Own.{told_by, stand, IsIn, Own}
use Rattle.one_copy_model.proofs.Counts.{still}
use Rattle.one_copy_model.proofs.Calm.{free_of, is_waiting}
use Rattle.one_copy_model.proofs.Turning.{facts_of, live_there}
use Rattle.one_copy_model.proofs.Landing.{same_mail}
use Rattle.one_copy_model.proofs.Quiet.{real, quiet_holds}
use Rattle.one_copy_model.proofs.Beginning.{is_plain, free_own, none_told}
use Rattle.one_copy_model.proofs.Livings.{clear_dead}
use Rattle.session_machine.specs.declared.machine.Point.TheVariants.{Resting}
use Rattle.one_copy_model.specs.Standing.{Standing, Ahead, standing_by, standing_open}
use Rattle.one_copy_model.proofs.Calm.{inserts_none}
use Rattle.one_copy_model.proofs.Livings.{clear_idle}
use Rattle.one_copy_laws.proofs.OrdersOrdering.{only, if_live, its, told_now, ordered_to, lands_order}
use Rattle.one_copy_model.specs.declared.deed.Deed.TheVariants.{Asks}
use Rattle.one_copy_laws.proofs.OrdersResting.{opened, wants_none, no_stage, untold_inserts}
use Rattle.schema.specs.declared.catalogue.TableDef.{TableDef}
use Rattle.backend_trait.specs.Store.{WhereLive}
use Rattle.backend_trait.specs.Store.{Dead}
use Rattle.one_copy_model.specs.Places.{asks_of}
use Rattle.one_copy_model.specs.Standing.{same as as_there}
use Rattle.one_copy_model.proofs.Endings.{asked, waits}
use Rattle.one_copy_model.proofs.Asking.{asks_holds}
use Rattle.one_copy_model.proofs.Opening.{may_ask}
use Rattle.one_copy_model.proofs.Tables.{tables_there}
use Rattle.one_copy_laws.proofs.OrdersCommitting.{open_lives}

pub where_is : (x : Transaction) → is_live x ≡ true → WhereLive x (λ t. Unit {0})
where_is (Alive t) e = tt
where_is Absent e = absurd (cc)
where_is Dead e = absurd (cc)

stays_same : (x : Standing) → x ≡ as_there → x ≡ Leaving → ⊥
stays_same x e f = let n : Ahead [] ≡ Leaving = sym e ∙ f in cc

not_of_commit : (stage : Option Stage) → is_of_commit stage ≡ false → is_of_commit stage ≡ true → ⊥
not_of_commit stage e f = let n : false ≡ true = sym e ∙ f in cc

module _ (t : Tracked) (h : Invariant t) (s : SessionId) (order : Order) (rest : (its t s order).point ≡ Resting)
    (changed : Bool) (written : ℕ) (at : (its t s order).session.gate ≡ phases.Live changed written) where
  abbrev m : Machine
  m = t.world.machine s.number

  abbrev told : Told
  told = told_now t s order

  abbrev attached : ℕ
  attached = t.world.gate.attached.bits

  abbrev mail : ℕ → Option Answer
  mail = t.world.mail s.number

  abbrev live : Bool
  live = live_there t s.number

  abbrev Kept : Type 0
  Kept = Invariant (tracked_after t (Of s (Ordered order)))

  module _ (n : Machine) (work : Work) (own_class : IsClassed t.world.tables work) (empty : n.session.heard ≡ []) (gate : n.session.gate ≡ m.session.gate) (plain : is_plain n.point ≡ true)
      (fits : FitsPoint (stage_at n.point) n.point n.session.gate) (classed : IsClassedAt t.world.tables n.point)
      (in_order : (stage : Stage) → stage_at n.point ≡ Some stage → IsInOrder attached n stage)
      (stands : (told : Option Answer) → told ≡ None → standing_by n.session.gate n.point (stage_at n.point) told ≡ as_there)
      (wants : wants_of n.point (stage_at n.point) ≡ Some (asks_of work))
      (reply : reply_in n.point ≡ None) (under : IsUnderWay n.point (Some told)) (order_at : OrderAt n.session n.point told)
      (off : is_of_commit (stage_at n.point) ≡ false) (idle : inserting_in (stage_at n.point) ≡ None) where
    untold : (b : ℕ) → told_by n mail b ≡ None
    untold = none_told t.world.tables attached t.history t.history t.world.store m mail (t.orders s.number) (t.done s.number) live s.number (real s) (free_of m.point (ap is_waiting rest)) ((facts_of t h).own s.number) n empty

    same_at : (b : ℕ) → stand n mail b ≡ as_there
    same_at b = stands (told_by n mail b) (untold b)

    was_at : (b : ℕ) → stand m mail b ≡ as_there
    was_at b = opened t h s order rest b ∙ ap standing_open at

    own_at : (mid : List Entry) → (store_after t.world.tables mid).transaction s.number ≡ (single t).transaction s.number → length t.history ≤ length mid
        → request_in ((store_after t.world.tables mid).pending s.number) ≡ where_live live (wants_of n.point (stage_at n.point))
        → Own t.world.tables attached mid t.world.store n mail (Some told) (t.done s.number) live s.number
    own_at mid transaction longer posts =
        free_own t.world.tables attached t.history mid t.world.store m mail (t.orders s.number) (t.done s.number) live s.number
        (real s) (free_of m.point (ap is_waiting rest)) ((facts_of t h).own s.number) n (Some told) (t.done s.number) live plain
        fits classed in_order (λ b stage here e. untold b)
        (λ b here. subst (λ x. Stands (store_after t.world.tables mid) s.number (leaving_of t.world.tables s.number mid) x ((t.world.store b).transaction s.number) ((store_after t.world.tables mid).transaction s.number)) (sym (same_at b))
        (subst (Alike ((t.world.store b).transaction s.number)) (sym transaction)
        (subst (λ x. Stands (single t) s.number (leaving_of t.world.tables s.number t.history) x ((t.world.store b).transaction s.number) ((single t).transaction s.number)) (was_at b) (h.stands s.number b here))))
        (λ u written e alive. h.unchanged s.number u written (sym gate ∙ e) (sym transaction ∙ alive))
        (λ b l at e is. absurd (let z : false ≡ true = sym off ∙ ap is_of_commit e in cc))
        posts
        (λ is outcome e r. absurd (let x : None ≡ Some outcome = sym reply ∙ r in cc))
        under
        (only (λ by. OrderAt n.session n.point by) told order_at)
        (only (λ by. by.entries ≤ length mid) told longer)
        (λ b is here e f. absurd (not_of_commit (stage_at n.point) off f))
        (λ b is e. only (λ by. by.entered ≡ true → IsIn attached b → stand n mail b ≢ Leaving → t.done s.number b ≡ true) told (λ entered. absurd (let x : false ≡ true = entered in cc)) is e)

    -- no insert begins: its lock comes first
    enters : (table : ℕ) → Inserts n table → Inserts m table
    enters table i = absurd (let z : None ≡ Some i.work = sym idle ∙ i.inserting in cc)

    starts_by : (x : Bool) → live ≡ x → Invariant (ordered_to t s order n (if_live x s.number (Asks (asks_of work) ∷ []) t.history))
    starts_by true e =
        same_mail t s.number n t.world.gate mail (asked t.world.tables s.number t.history (asks_of work)) (Some told) (t.done s.number) refl
        (asks_holds t h s n t.world.gate mail (asks_of work) (Some told) (t.done s.number) refl
        (still t.world.gate t.world.machine m.session.gate n.session.gate gate (facts_of t h).counts)
        (record {
          stays = λ b here. stays_same (stand m mail b) (was_at b);
          lasts = λ b here. stays_same (stand n mail b) (same_at b);
          outside = ap in_commit (gate ∙ at);
          idle = λ b other here f. let z : None ≡ Some other = sym (inserts_none (stage_at m.point) (told_by m mail b) (no_stage t h s order rest)) ∙ f in cc;
          idles = λ b other here f. let z : None ≡ Some other = sym (untold_inserts (stage_at n.point) (told_by n mail b) (untold b)) ∙ f in cc;
        })
        (may_ask (single t) s.number work (subst (λ (ts : List TableDef). IsClassed ts work) (sym (tables_there t.world.tables t.history)) own_class) (where_is ((single t).transaction s.number) e) (clear_idle t h s.number (wants_none t h s order rest)))
        enters
        (own_at (asked t.world.tables s.number t.history (asks_of work)) refl (let z : length t.history ≤ length (asked t.world.tables s.number t.history (asks_of work)) = omega arith in z)
        (ap request_in (waits t.world.tables s.number t.history (asks_of work)) ∙ sym (ap (λ x. where_live x (wants_of n.point (stage_at n.point))) e ∙ wants))))
    starts_by false e =
        let none : (b : ℕ) → IsIn attached b → ⊥ = λ b here. (let z : false ≡ true = sym e ∙ open_lives t h s order rest changed written at b here in cc) in
        quiet_holds t h s n t.world.gate (Some told) (t.done s.number) refl
        (still t.world.gate t.world.machine m.session.gate n.session.gate gate (facts_of t h).counts)
        ((
          record {
            leaves = λ b here f. absurd (none b here);
            stays = λ b here f. absurd (none b here);
            inserts = λ b here. absurd (none b here);
            commits = λ a u is f. ap in_commit (sym gate) ∙ f;
          },
          enters,
        ))
        (own_at t.history refl (let z : length t.history ≤ length t.history = omega arith in z)
        (ap request_in (clear_dead t h s.number e) ∙ sym (ap (λ x. where_live x (wants_of n.point (stage_at n.point))) e)))

    pub starts : ordered m.session m.point order.moment order.body ≡ n → at_order m.session order.moment order.body ≡ Asks (asks_of work) ∷ [] → Kept
    starts to does =
        lands_order t s order n (if_live live s.number (Asks (asks_of work) ∷ []) t.history) to (ap (λ d. if_live live s.number d t.history) does) (starts_by live refl)
