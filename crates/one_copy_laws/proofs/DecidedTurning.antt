-- Where the facts hold, a session goes on, or its transaction ends in the single run, and the facts hold on: as `goes_on` and `ends_holds`,
-- which are the same of the invariant, before those that die have died.
use Rattle.std.proofs.Common.{◌≡◌, ◌≢◌, ℕ, Bool, true, false, List, refl, sym, ap, ◌∙◌, subst}
use Rattle.std.specs.Prelude.{Option, Some, None, is_some}
use Rattle.pool_base.specs.declared.session_id.SessionId.{SessionId}
use Rattle.backend_trait.specs.declared.answer.Answer.{Answer}
use Rattle.backend_trait.specs.Rows.{with_at, no_changes}
use Rattle.backend_trait.specs.Store.{Live, Alive, Store}
use Rattle.session_orders.specs.declared.outcome.Outcome.{Outcome}
use Rattle.session_machine.specs.declared.machine.GatePhase.TheVariants as phases
use Rattle.session_machine.specs.declared.machine.Machine.{Machine}
use Rattle.session_machine.specs.declared.machine.Stage.{Stage}
use Rattle.session_machine.specs.declared.machine.Point.TheVariants.{Resting}
use Rattle.one_copy_model.specs.declared.deed.Entry.{Entry}
use Rattle.one_copy_model.specs.SingleRun.{store_after}
use Rattle.one_copy_model.specs.Deaths.{is_live, stage_at}
use Rattle.one_copy_model.specs.Tracking.{Told, Tracked, single, in_commit}
use Rattle.one_copy_model.specs.Chains.{IsInOrder}
use Rattle.one_copy_model.specs.Orders.{OrderAt, reply_in, is_of_commit, IsClassedAt}
use Rattle.one_copy_model.specs.Standing.{Standing, Leaving, Stands, leaving_of}
use Rattle.one_copy_model.specs.Invariant.{FitsPoint, where_live, wants_of, request_in, inserted_in, inserting_in, IsUnderWay}
use Rattle.one_copy_model.specs.Own.{told_by, stand, IsIn, Own, IsRightBy}
use Rattle.one_copy_model.specs.Facts.{Facts, Shared}
use Rattle.one_copy_model.proofs.Places.{each_at}
use Rattle.one_copy_model.proofs.Counts.{counted, still}
use Rattle.one_copy_model.proofs.Silent.{silent}
use Rattle.one_copy_model.proofs.Passing.{own_passes}
use Rattle.one_copy_model.proofs.Turns.{sound_ended, undead_ended, was_live, turned}
use Rattle.one_copy_model.proofs.Turning.{FactsOf, live_there}
use Rattle.one_copy_model.proofs.Landing.{with_at-self}
use Rattle.one_copy_model.proofs.Quiet.{real, below_65, stands_silent}
use Rattle.one_copy_model.proofs.Calm.{free_of, is_waiting}
use Rattle.one_copy_model.proofs.Beginning.{is_plain, free_own}
use Rattle.one_copy_model.proofs.Endings.{Ends}
use Rattle.one_copy_model.proofs.Ending.{IsAside}
use Rattle.one_copy_model.proofs.Locks.{locks_ended}
use Rattle.one_copy_laws.proofs.GateFinishing.{under_way}
use Rattle.one_copy_laws.proofs.GateGoing.{none_inserts}

module _ (t : Tracked) (f : FactsOf t) (s : SessionId) (n : Machine)
    (phase : n.session.gate ≡ (t.world.machine s.number).session.gate) where
  abbrev m : Machine
  m = t.world.machine s.number

  abbrev attached : ℕ
  attached = t.world.gate.attached.bits

  abbrev mail : ℕ → Option Answer
  mail = t.world.mail s.number

  abbrev Turned_to : List Entry → Type 0
  Turned_to mid = Facts t.world.tables t.world.gate (with_at t.world.machine s.number n) t.world.store t.world.mail mid t.orders t.done (λ o. is_live ((store_after t.world.tables mid).transaction o))

  -- it goes on with its order, and nothing is placed
  module _ (free : is_waiting (t.world.machine s.number).point ≡ false)
      (awake : (t.world.machine s.number).point ≡ Resting → ⊥)
      (plain : is_plain n.point ≡ true)
      (empty : (b : ℕ) (stage : Stage) → IsIn t.world.gate.attached.bits b → stage_at n.point ≡ Some stage → told_by n (t.world.mail s.number) b ≡ None)
      (fits : FitsPoint (stage_at n.point) n.point n.session.gate) (classed : IsClassedAt t.world.tables n.point)
      (in_order : (stage : Stage) → stage_at n.point ≡ Some stage → IsInOrder t.world.gate.attached.bits n stage)
      (same : (b : ℕ) → IsIn t.world.gate.attached.bits b → stand n (t.world.mail s.number) b ≡ stand (t.world.machine s.number) (t.world.mail s.number) b)
      (stays : (b : ℕ) → IsIn t.world.gate.attached.bits b → stand (t.world.machine s.number) (t.world.mail s.number) b ≢ Leaving)
      (unchanged : (u : Live) (written : ℕ) → n.session.gate ≡ phases.Live false written → (single t).transaction s.number ≡ Alive u → u.changes ≡ no_changes)
      (posts : request_in ((single t).pending s.number) ≡ where_live (live_there t s.number) (wants_of n.point (stage_at n.point)))
      (replies : (told : Told) (outcome : Outcome) → t.orders s.number ≡ Some told → reply_in n.point ≡ Some outcome → IsRightBy t.world.gate.attached.bits n (live_there t s.number) s.number t.history told outcome)
      (under : is_some (t.orders s.number) ≡ true → IsUnderWay n.point (t.orders s.number))
      (order_is : (told : Told) → t.orders s.number ≡ Some told → OrderAt n.session n.point told)
      (off : is_of_commit (stage_at n.point) ≡ false)
      (inserts : (b : ℕ) → IsIn t.world.gate.attached.bits b → inserted_in (stage_at (t.world.machine s.number).point) (told_by (t.world.machine s.number) (t.world.mail s.number) b) ≡ inserted_in (stage_at n.point) (told_by n (t.world.mail s.number) b))
      (plainly : inserting_in (stage_at n.point) ≡ None) where
    own_goes : Own t.world.tables attached t.history t.world.store n mail (t.orders s.number) (t.done s.number) (live_there t s.number) s.number
    own_goes =
        let old : Own t.world.tables attached t.history t.world.store m mail (t.orders s.number) (t.done s.number) (live_there t s.number) s.number = f.own s.number in
        free_own t.world.tables attached t.history t.history t.world.store m mail (t.orders s.number) (t.done s.number) (live_there t s.number) s.number
        (real s) (free_of m.point free) old n (t.orders s.number) (t.done s.number) (live_there t s.number) plain
        fits classed in_order empty
        (λ b at. subst (λ (x : Standing). Stands (single t) s.number (leaving_of t.world.tables s.number t.history) x ((t.world.store b).transaction s.number) ((single t).transaction s.number)) (sym (same b at)) (old.stands b at))
        unchanged (λ b l at e is. absurd (let z : false ≡ true = sym off ∙ ap is_of_commit e in cc)) posts replies (under (under_way m.point (t.orders s.number) awake old.orders)) order_is old.since
        (λ b told at e g. absurd (let z : false ≡ true = sym off ∙ g in cc))
        (λ b told e entered at g. old.done_first b told e entered at (stays b at))

    pub goes_facts : Turned_to t.history
    goes_facts = record {
      own = each_at (λ o y. Own t.world.tables attached t.history t.world.store y (t.world.mail o) (t.orders o) (t.done o) (live_there t o) o) t.world.machine s.number n own_goes (λ o other. f.own o);
      shared =
          subst (λ (post : ℕ → ℕ → Option Answer). Shared t.world.tables attached t.history t.world.store (with_at t.world.machine s.number n) post) (with_at-self t.world.mail s.number)
          (silent t.world.tables attached attached t.history t.world.store t.world.machine t.world.mail s.number n mail (λ b at. at)
          (stands_silent t.world.tables attached t.history m n mail mail same inserts (λ table i. absurd (none_inserts n table plainly i)) (λ e. ap in_commit (sym phase) ∙ e)) f.shared);
      counts = counted t.world.machine s.number n (below_65 s) t.world.gate t.world.gate (still t.world.gate t.world.machine m.session.gate n.session.gate phase f.counts) f.counts;
    }

  -- its transaction ends there
  module _ (mid : List Entry) (aside : IsAside t.world.gate.attached.bits (t.world.machine s.number) n (t.world.mail s.number) (t.world.mail s.number)) where
    pub ends_facts : Ends t.world.tables s.number t.history mid
        → Own t.world.tables t.world.gate.attached.bits mid t.world.store n (t.world.mail s.number) (t.orders s.number) (t.done s.number) false s.number
        → Turned_to mid
    ends_facts e own =
        let old : Store = store_after t.world.tables t.history in
        let new : Store = store_after t.world.tables mid in
        let others : (o : ℕ) → o ≢ s.number → new.transaction o ≡ old.transaction o = λ o other. (e.passes o other).transaction in
        record {
          own = each_at (λ o y. Own t.world.tables attached mid t.world.store y (t.world.mail o) (t.orders o) (t.done o) (is_live ((store_after t.world.tables mid).transaction o)) o) t.world.machine s.number n
              (subst (λ (x : Bool). Own t.world.tables attached mid t.world.store n mail (t.orders s.number) (t.done s.number) x s.number) (sym (ap is_live e.none)) own)
              (λ o other. own_passes t.world.tables o t.history mid (e.passes o other) attached t.world.store (t.world.machine o) (t.world.mail o) (t.orders o) (t.done o) (live_there t o) (is_live (new.transaction o)) (ap is_live (others o other)) (f.own o));
          shared =
              subst (λ (post : ℕ → ℕ → Option Answer). Shared t.world.tables attached mid t.world.store (with_at t.world.machine s.number n) post) (with_at-self t.world.mail s.number)
              (turned t.world.tables attached t.history mid t.world.store t.world.machine t.world.mail s.number n mail e.passes aside.stays aside.lasts aside.outside aside.idle aside.idles
              e.rows e.next (sound_ended old new s.number others e.none f.shared.sound_there) (undead_ended old new s.number others e.none f.shared.undead) e.run
              (λ a u is. let v = was_live old new s.number others e.none a u is in (u, v.1, refl)) (locks_ended old new t.world.machine s.number n others e.none f.shared.locks) f.shared);
          counts = counted t.world.machine s.number n (below_65 s) t.world.gate t.world.gate (still t.world.gate t.world.machine m.session.gate n.session.gate phase f.counts) f.counts;
        }
