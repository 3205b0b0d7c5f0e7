-- A session ends its transaction in the single run, or asks for a statement there, and the invariant holds on.
use Rattle.std.proofs.Common.{◌≡◌, ◌≢◌, ℕ, Bool, true, false, List, refl, sym, ap, ◌∙◌, subst, inl, inr}
use Rattle.std.specs.Prelude.{Option, Some}
use Rattle.pool_base.specs.declared.session_id.SessionId.{SessionId}
use Rattle.backend_trait.specs.declared.answer.Answer.{Answer}
use Rattle.backend_trait.specs.Store.{Transaction, Absent, Store}
use Rattle.snapshot_gate.specs.declared.state.GateState.{GateState}
use Rattle.session_machine.specs.declared.work.Work.{Work}
use Rattle.session_machine.specs.declared.machine.Machine.{Machine}
use Rattle.one_copy_model.specs.declared.deed.Entry.{Entry}
use Rattle.one_copy_model.specs.SingleRun.{store_after}
use Rattle.one_copy_model.specs.Deaths.{is_live, stage_at}
use Rattle.one_copy_model.specs.Tracking.{Told, Tracked, in_commit}
use Rattle.one_copy_model.specs.Standing.{Leaving}
use Rattle.one_copy_model.specs.Invariant.{Invariant, inserted_in}
use Rattle.one_copy_model.specs.Own.{told_by, stand, IsIn, Own}
use Rattle.one_copy_model.proofs.Places.{same_or_other}
use Rattle.one_copy_model.proofs.Counts.{Moves, counted}
use Rattle.one_copy_model.proofs.Passing.{own_passes}
use Rattle.one_copy_model.proofs.Locks.{locks_ended}
use Rattle.one_copy_model.proofs.Turns.{sound_ended, undead_ended, was_live, turned}
use Rattle.one_copy_model.proofs.Turning.{FactsOf, facts_of, live_there}
use Rattle.one_copy_model.proofs.Landing.{moved, moved_holds}
use Rattle.one_copy_model.proofs.Quiet.{below_65}
use Rattle.one_copy_model.proofs.Endings.{Ends}

dead_lives : (x : Transaction) → x ≡ Absent → is_live x ≡ true → ⊥
dead_lives x e f = let n : false ≡ true = sym (ap is_live e) ∙ f in cc

-- the session's transaction leaves nowhere before and behind, and none of its serial inserts is answered
pub record IsAside (attached : ℕ) (m n : Machine) (mail post : ℕ → Option Answer) : Type 0 where
  pub stays : (b : ℕ) → IsIn attached b → stand m mail b ≢ Leaving
  pub lasts : (b : ℕ) → IsIn attached b → stand n post b ≢ Leaving
  pub outside : in_commit n.session.gate ≡ false
  pub idle : (b : ℕ) (work : Work) → IsIn attached b → inserted_in (stage_at m.point) (told_by m mail b) ≡ Some work → ⊥
  pub idles : (b : ℕ) (work : Work) → IsIn attached b → inserted_in (stage_at n.point) (told_by n post b) ≡ Some work → ⊥

module _ (t : Tracked) (h : Invariant t) (s : SessionId) (n : Machine) (next : GateState) (post : ℕ → Option Answer) (mid : List Entry) (by : Option Told) (did : ℕ → Bool)
    (same : next.attached ≡ t.world.gate.attached)
    (moves : Moves t.world.gate next (t.world.machine s.number).session.gate n.session.gate)
    (aside : IsAside t.world.gate.attached.bits (t.world.machine s.number) n (t.world.mail s.number) post) where
  abbrev mine : Tracked
  mine = moved t s.number n next post mid by did

  pub ends_holds : Ends t.world.tables s.number t.history mid
      → Own t.world.tables t.world.gate.attached.bits mid t.world.store n post by did false s.number
      → Invariant mine
  ends_holds e own =
      let f : FactsOf t = facts_of t h in
      let old : Store = store_after t.world.tables t.history in
      let new : Store = store_after t.world.tables mid in
      let others : (o : ℕ) → o ≢ s.number → new.transaction o ≡ old.transaction o = λ o other. (e.passes o other).transaction in
      moved_holds t s.number n next post mid by did same
      (subst (λ (x : Bool). Own t.world.tables t.world.gate.attached.bits mid t.world.store n post by did x s.number) (sym (ap is_live e.none)) own)
      (λ o other. own_passes t.world.tables o t.history mid (e.passes o other) t.world.gate.attached.bits t.world.store (t.world.machine o) (t.world.mail o) (t.orders o) (t.done o) (live_there t o) (live_there mine o) (ap is_live (others o other)) (f.own o))
      (turned t.world.tables t.world.gate.attached.bits t.history mid t.world.store t.world.machine t.world.mail s.number n post e.passes aside.stays aside.lasts aside.outside aside.idle aside.idles
      e.rows e.next (sound_ended old new s.number others e.none h.sound_there) (undead_ended old new s.number others e.none h.undead) e.run
      (λ a u is. let v = was_live old new s.number others e.none a u is in (u, v.1, refl)) (locks_ended old new t.world.machine s.number n others e.none h.locks) f.shared)
      (counted t.world.machine s.number n (below_65 s) t.world.gate next moves f.counts)
      (λ o live. elim (same_or_other o s.number) [
        | inl is ↦ absurd (dead_lives (new.transaction o) (ap new.transaction is ∙ e.none) live)
        | inr other ↦ h.alive o (sym (ap is_live (others o other)) ∙ live)
      ])
