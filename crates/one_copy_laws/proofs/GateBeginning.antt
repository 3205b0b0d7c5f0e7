-- A snapshot is left, and its transaction begins in the single run.
use Rattle.backend_trait.specs.Keys.{Place}
use Rattle.std.proofs.lemmas.Bool.Decides.{leb_tells}
use Rattle.std.proofs.Common.{le_trans, ◌≡◌, ℕ, ◌<◌, ◌≤◌, true, false, List, [], length, refl, sym, ap, ◌∙◌, subst, arith, inl, inr}
use Rattle.std.specs.Prelude.{◌⊎◌, Option, Some, None, is_some}
use Rattle.pool_base.specs.declared.session_id.SessionId.{SessionId}
use Rattle.backend_trait.specs.declared.answer.Answer.{Answer}
use Rattle.backend_trait.specs.Rows.{with_at, no_changes}
use Rattle.backend_trait.specs.Store.{Live, Transaction, Absent, Alive}
use Rattle.snapshot_gate.specs.declared.state.GateState.{GateState}
use Rattle.session_machine.specs.declared.work.Work.{Work}
use Rattle.session_machine.specs.declared.machine.GatePhase.TheVariants as phases
use Rattle.session_machine.specs.declared.machine.Machine.{Machine}
use Rattle.session_machine.specs.declared.machine.Stage.{Stage}
use Rattle.session_machine.specs.declared.machine.Point.{Point}
use Rattle.session_machine.specs.declared.machine.Point.TheVariants.{Resting, LeaveSnapshotDue}
use Rattle.one_copy_model.specs.declared.deed.Entry.{Entry}
use Rattle.one_copy_model.specs.SingleRun.{store_after}
use Rattle.one_copy_model.specs.Deaths.{is_live, stage_at, is_alive}
use Rattle.one_copy_model.specs.Tracking.{Told, Tracked, single, in_commit}
use Rattle.one_copy_model.specs.Orders.{OrderAt, reply_in, is_of_commit, IsClassedAt}
use Rattle.one_copy_model.specs.Standing.{Standing, Fresh, Ahead, Leaving, Stands, leaving_of, standing_by}
use Rattle.one_copy_model.specs.Invariant.{Invariant, FitsPoint, where_live, wants_of, request_in, IsUnderWay}
use Rattle.one_copy_model.specs.Own.{told_by, stand, IsIn, Own}
use Rattle.one_copy_model.proofs.Counts.{Moves, count_some}
use Rattle.one_copy_model.proofs.Turning.{FactsOf, facts_of, live_there}
use Rattle.one_copy_model.proofs.Landing.{same_mail}
use Rattle.one_copy_model.proofs.Quiet.{real, below_65}
use Rattle.one_copy_model.specs.Chains.{IsInOrder}
use Rattle.one_copy_model.specs.Invariant.{inserted_in, inserting_in, HaveLocks}
use Rattle.one_copy_model.proofs.Calm.{free_of, is_waiting}
use Rattle.one_copy_model.proofs.Beginning.{is_plain, free_own, none_told}
use Rattle.one_copy_model.proofs.Livings.{clear_idle}
use Rattle.one_copy_laws.proofs.GateFinishing.{under_way}
use Rattle.backend_trait.specs.Rows.{Rows}
use Rattle.backend_trait.specs.Store.{begun as begun_on, held_by}
use Rattle.backend_trait.specs.Effect.{Conflicts}
use Rattle.one_copy_model.specs.Places.{asks_of}
use Rattle.one_copy_model.specs.Standing.{same as as_there, IsFreshOn, Alike}
use Rattle.one_copy_model.proofs.Places.{same_or_other}
use Rattle.one_copy_model.proofs.Passing.{own_passes}
use Rattle.one_copy_model.proofs.Locks.{no_right, locks_turned}
use Rattle.one_copy_model.proofs.Turns.{turned_with, Begins}
use Rattle.one_copy_model.proofs.Counts.{counted}
use Rattle.one_copy_model.proofs.Landing.{moved, moved_holds}
use Rattle.one_copy_model.proofs.Opening.{begins_to, begins_pass, begins_rows, begins_next, begins_live, begins_wait, begins_run, begins_sound, begins_undead}

not_fresh_stale : (rows : Rows) (l : Live) (p : Place) → Alive (begun_on rows) ≡ Alive l → l.stale p ≡ false
not_fresh_stale rows l p e = let same : begun_on rows ≡ l = cc in ap (λ (x : Live). x.stale p) (sym same)

alike_begun : (rows : Rows) (x y : Transaction) → x ≡ Alive (begun_on rows) → y ≡ Alive (begun_on rows) → Alike x y
alike_begun rows x y e f = subst (λ v. Alike v y) (sym e) (subst (Alike (Alive (begun_on rows))) (sym f) (refl, refl, refl))

stays_there : (x : Standing) → x ≡ as_there → x ≡ Leaving → ⊥
stays_there x e f = let z : Ahead [] ≡ Leaving = sym e ∙ f in cc

module _ (t : Tracked) (h : Invariant t) (s : SessionId) (work : Work) (at : (t.world.machine s.number).point ≡ LeaveSnapshotDue work)
    (first : ℕ) (here : IsIn t.world.gate.attached.bits first) where
  abbrev m : Machine
  m = t.world.machine s.number

  abbrev attached : ℕ
  attached = t.world.gate.attached.bits

  abbrev mail : ℕ → Option Answer
  mail = t.world.mail s.number

  abbrev mid : List Entry
  mid = begins_to t.world.tables s.number t.history work

  pub fresh_at : (b : ℕ) → stand m mail b ≡ Fresh
  fresh_at b = ap (λ (p : Point). standing_by m.session.gate p (stage_at p) (told_by m mail b)) at

  pub fresh : (b : ℕ) → IsIn attached b → IsFreshOn (single t).rows ((t.world.store b).transaction s.number) × ((single t).transaction s.number ≡ Absent)
  fresh b in_it = subst (λ x. Stands (single t) s.number (leaving_of t.world.tables s.number t.history) x ((t.world.store b).transaction s.number) ((single t).transaction s.number)) (fresh_at b) (h.stands s.number b in_it)

  pub absent_there : (single t).transaction s.number ≡ Absent
  absent_there = (fresh first here).1

  pub begin_clear : (single t).pending s.number ≡ None
  begin_clear = clear_idle t h s.number (ap (λ (p : Point). wants_of p (stage_at p)) at)

  module _ (n : Machine) (next : GateState) (empty : n.session.heard ≡ []) (gate : n.session.gate ≡ phases.Live false 0) (plain : is_plain n.point ≡ true)
      (fits : FitsPoint (stage_at n.point) n.point n.session.gate) (classed : IsClassedAt t.world.tables n.point)
      (in_order : (stage : Stage) → stage_at n.point ≡ Some stage → IsInOrder attached n stage)
      (stands : (told : Option Answer) → told ≡ None → standing_by n.session.gate n.point (stage_at n.point) told ≡ as_there)
      (wants : wants_of n.point (stage_at n.point) ≡ Some (asks_of work))
      (reply : reply_in n.point ≡ None) (under : is_some (t.orders s.number) ≡ true → IsUnderWay n.point (t.orders s.number))
      (order_at : (told : Told) → t.orders s.number ≡ Some told → OrderAt n.session n.point told)
      (off : is_of_commit (stage_at n.point) ≡ false)
      (idle : (stage : Option Stage) → stage ≡ stage_at n.point → inserted_in stage None ≡ None)
      (plainly : inserting_in (stage_at n.point) ≡ None)
      (same : next.attached ≡ t.world.gate.attached) (moves : Moves t.world.gate next m.session.gate n.session.gate)
      (alone : t.world.gate.commits ≡ 0)
      (alive : is_alive t.world s.number ≡ true) where
    untold : (b : ℕ) → told_by n mail b ≡ None
    untold = none_told t.world.tables attached t.history t.history t.world.store m mail (t.orders s.number) (t.done s.number) (live_there t s.number) s.number (real s) (free_of m.point (ap is_waiting at)) ((facts_of t h).own s.number) n empty

    same_at : (b : ℕ) → stand n mail b ≡ as_there
    same_at b = stands (told_by n mail b) (untold b)

    abbrev mine : Tracked
    mine = moved t s.number n next mail mid (t.orders s.number) (t.done s.number)

    none_commits : (o : ℕ) → in_commit (t.world.machine o).session.gate ≡ true → ⊥
    none_commits o is = elim (leb_tells 65 o) [
      | inl q ↦ (let z : false ≡ true = sym (ap in_commit (h.strangers o (inr q.1)).out) ∙ is in cc)
      | inr q ↦ count_some (λ x. in_commit (t.world.machine x).session.gate) 65 o (sym h.counts.commits ∙ alone) (let z : o < 65 = omega (arith, q.1) in z) is
    ]

    changes_none : (u : Live) → Alive (begun_on (single t).rows) ≡ Alive u → u.changes ≡ no_changes
    changes_none u e = let same : begun_on (single t).rows ≡ u = cc in ap (λ (x : Live). x.changes) (sym same)

    own_begun : Own t.world.tables attached mid t.world.store n mail (t.orders s.number) (t.done s.number) (live_there mine s.number) s.number
    own_begun =
        let old : Own t.world.tables attached t.history t.world.store m mail (t.orders s.number) (t.done s.number) (live_there t s.number) s.number = (facts_of t h).own s.number in
        let awake : m.point ≡ Resting → ⊥ = λ rest. (let z : LeaveSnapshotDue work ≡ Resting = sym at ∙ rest in cc) in
        free_own t.world.tables attached t.history mid t.world.store m mail (t.orders s.number) (t.done s.number) (live_there t s.number) s.number
        (real s) (free_of m.point (ap is_waiting at)) old n (t.orders s.number) (t.done s.number) (live_there mine s.number) plain
        fits classed in_order (λ b stage in_it e. untold b)
        (λ b in_it. subst (λ x. Stands (store_after t.world.tables mid) s.number (leaving_of t.world.tables s.number mid) x ((t.world.store b).transaction s.number) ((store_after t.world.tables mid).transaction s.number)) (sym (same_at b))
        (alike_begun (single t).rows ((t.world.store b).transaction s.number) ((store_after t.world.tables mid).transaction s.number) (fresh b in_it).0 (begins_live t.world.tables s.number t.history work)))
        (λ u written e alive. changes_none u (sym (begins_live t.world.tables s.number t.history work) ∙ alive))
        (λ b l at e is. absurd (let z : false ≡ true = sym off ∙ ap is_of_commit e in cc))
        (ap request_in (begins_wait t.world.tables s.number t.history work) ∙ sym (ap (λ x. where_live x (wants_of n.point (stage_at n.point))) (ap is_live (begins_live t.world.tables s.number t.history work)) ∙ wants))
        (λ told outcome e f. absurd (let z : None ≡ Some outcome = sym reply ∙ f in cc))
        (under (under_way m.point (t.orders s.number) awake old.orders))
        order_at
        (λ told e. le_trans (old.since told e) (let z : length t.history ≤ length mid = omega arith in z))
        (λ b told in_it e f. absurd (let z : false ≡ true = sym off ∙ f in cc))
        (λ b told e entered in_it f. old.done_first b told e entered in_it (λ x. let z : Fresh ≡ Leaving = sym (fresh_at b) ∙ x in cc))

    was : (a : ℕ) (u : Live) → (store_after t.world.tables mid).transaction a ≡ Alive u
        → ((v : Live) × ((single t).transaction a ≡ Alive v) × (u.stale ≡ v.stale)) ⊎ Begins t.world.tables attached t.history mid t.world.store t.world.machine t.world.mail s.number n mail (begins_pass t.world.tables s.number t.history work)
        (λ b in_it x. let z : Fresh ≡ Leaving = sym (fresh_at b) ∙ x in cc) (λ b in_it. stays_there (stand n mail b) (same_at b)) (ap in_commit gate)
        (λ b other in_it x. let z : None ≡ Some other = sym (ap (λ (p : Point). inserted_in (stage_at p) (told_by m mail b)) at) ∙ x in cc)
        (λ b other in_it x. let z : None ≡ Some other = sym (ap (inserted_in (stage_at n.point)) (untold b) ∙ idle (stage_at n.point) refl) ∙ x in cc) a u
    was a u is = elim (same_or_other a s.number) [
      | inl e ↦ inr (record {
        fresh = λ p. not_fresh_stale (single t).rows u p (sym (ap (store_after t.world.tables mid).transaction e ∙ begins_live t.world.tables s.number t.history work) ∙ is);
        fresh_here = λ b l p in_it is_l. not_fresh_stale (single t).rows l p (sym (fresh b in_it).0 ∙ sym (ap (t.world.store b).transaction e) ∙ is_l);
        alone = none_commits;
      })
      | inr other ↦ inl (u, sym (begins_pass t.world.tables s.number t.history work a other).transaction ∙ is, refl)
    ]

    -- what begins holds nothing, and inserts nothing
    locks : HaveLocks (store_after t.world.tables mid) (with_at t.world.machine s.number n)
    locks =
        locks_turned (single t) (store_after t.world.tables mid) t.world.machine s.number n
        (λ o other. (begins_pass t.world.tables s.number t.history work o other).transaction)
        (λ w c. absurd (no_right w (subst (λ (x : Transaction). Conflicts w (held_by x)) (begins_live t.world.tables s.number t.history work) c)))
        (λ table live i. absurd (let z : None ≡ Some i.work = sym plainly ∙ i.inserting in cc)) h.locks

    pub begins_holds : Invariant (record { world = record { tables = t.world.tables; gate = next; machine = with_at t.world.machine s.number n; store = t.world.store; mail = t.world.mail }; history = mid; orders = with_at t.orders s.number (t.orders s.number); done = with_at t.done s.number (t.done s.number) })
    begins_holds =
        let f : FactsOf t = facts_of t h in
        same_mail t s.number n next mail mid (t.orders s.number) (t.done s.number) refl
        (moved_holds t s.number n next mail mid (t.orders s.number) (t.done s.number) same own_begun
        (λ o other. own_passes t.world.tables o t.history mid (begins_pass t.world.tables s.number t.history work o other) attached t.world.store (t.world.machine o) (t.world.mail o) (t.orders o) (t.done o) (live_there t o) (live_there mine o) (ap is_live (begins_pass t.world.tables s.number t.history work o other).transaction) (f.own o))
        (turned_with t.world.tables attached t.history mid t.world.store t.world.machine t.world.mail s.number n mail (begins_pass t.world.tables s.number t.history work)
        (λ b in_it x. let z : Fresh ≡ Leaving = sym (fresh_at b) ∙ x in cc) (λ b in_it. stays_there (stand n mail b) (same_at b)) (ap in_commit gate)
        (λ b other in_it x. let z : None ≡ Some other = sym (ap (λ (p : Point). inserted_in (stage_at p) (told_by m mail b)) at) ∙ x in cc)
        (λ b other in_it x. let z : None ≡ Some other = sym (ap (inserted_in (stage_at n.point)) (untold b) ∙ idle (stage_at n.point) refl) ∙ x in cc)
        (begins_rows t.world.tables s.number t.history work) (begins_next t.world.tables s.number t.history work) (begins_sound t.world.tables s.number t.history work h.sound_there) (begins_undead t.world.tables s.number t.history work h.undead)
        (begins_run t.world.tables s.number t.history work (subst (IsClassedAt t.world.tables) at (h.classed s.number)) h.run absent_there begin_clear) was locks f.shared)
        (counted t.world.machine s.number n (below_65 s) t.world.gate next moves f.counts)
        (λ o live. elim (same_or_other o s.number) [
          | inl is ↦ ap (is_alive t.world) is ∙ alive
          | inr other ↦ h.alive o (sym (ap is_live (begins_pass t.world.tables s.number t.history work o other).transaction) ∙ live)
        ]))
