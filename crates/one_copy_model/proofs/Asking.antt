-- A session asks for a statement in the single run, and the invariant holds on.
use Rattle.std.proofs.Common.{◌≡◌, ℕ, Bool, List, refl, sym, ap, ◌∙◌, subst}
use Rattle.std.specs.Prelude.{Option}
use Rattle.pool_base.specs.declared.session_id.SessionId.{SessionId}
use Rattle.backend_trait.specs.declared.request.Request.{Request}
use Rattle.backend_trait.specs.declared.answer.Answer.{Answer}
use Rattle.backend_trait.specs.Effect.{Conflicts}
use Rattle.backend_trait.specs.Store.{Transaction, Store, held_by}
use Rattle.snapshot_gate.specs.declared.state.GateState.{GateState}
use Rattle.session_machine.specs.declared.machine.Machine.{Machine}
use Rattle.one_copy_model.specs.declared.deed.Deed.TheVariants.{Asks}
use Rattle.one_copy_model.specs.declared.deed.Entry.{Entry}
use Rattle.one_copy_model.specs.SingleRun.{store_after, MayDo}
use Rattle.one_copy_model.specs.Tracking.{Told, Tracked}
use Rattle.one_copy_model.specs.Invariant.{Invariant, IsSound, Inserts}
use Rattle.one_copy_model.specs.Own.{Own}
use Rattle.one_copy_model.proofs.Counts.{Moves, counted}
use Rattle.one_copy_model.proofs.Passing.{own_passes}
use Rattle.one_copy_model.proofs.Locks.{locks_turned}
use Rattle.one_copy_model.proofs.Turns.{turned}
use Rattle.one_copy_model.proofs.Turning.{FactsOf, facts_of, live_there}
use Rattle.one_copy_model.proofs.Landing.{moved, moved_holds}
use Rattle.one_copy_model.proofs.Quiet.{below_65}
use Rattle.one_copy_model.proofs.Endings.{asked, asked_passes}
use Rattle.one_copy_model.proofs.Ending.{IsAside}

sound_asked : (st : Store) (transaction : ℕ → Transaction) (new : Store) → new.transaction ≡ st.transaction → IsSound st → IsSound new
sound_asked st transaction new same h = record {
  apart = λ a o differ c. h.apart a o differ (subst (λ (x : ℕ → Transaction). Conflicts (held_by (x a)) (held_by (x o))) same c);
  changed = λ a t p is. h.changed a t p (sym (ap (λ (x : ℕ → Transaction). x a) same) ∙ is);
  fresh = λ a t p is. h.fresh a t p (sym (ap (λ (x : ℕ → Transaction). x a) same) ∙ is);
}

module _ (t : Tracked) (h : Invariant t) (s : SessionId) (n : Machine) (next : GateState) (post : ℕ → Option Answer) (request : Request) (by : Option Told) (did : ℕ → Bool)
    (same : next.attached ≡ t.world.gate.attached)
    (moves : Moves t.world.gate next (t.world.machine s.number).session.gate n.session.gate)
    (aside : IsAside t.world.gate.attached.bits (t.world.machine s.number) n (t.world.mail s.number) post) where
  abbrev pub mid : List Entry
  mid = asked t.world.tables s.number t.history request

  abbrev mine : Tracked
  mine = moved t s.number n next post mid by did

  pub asks_holds : MayDo (store_after t.world.tables t.history) s.number (Asks request)
      → ((table : ℕ) → Inserts n table → Inserts (t.world.machine s.number) table)
      → Own t.world.tables t.world.gate.attached.bits mid t.world.store n post by did (live_there t s.number) s.number
      → Invariant mine
  asks_holds may enters own =
      let f : FactsOf t = facts_of t h in
      moved_holds t s.number n next post mid by did same own
      (λ o other. own_passes t.world.tables o t.history mid (asked_passes t.world.tables s.number t.history request o other) t.world.gate.attached.bits t.world.store (t.world.machine o) (t.world.mail o) (t.orders o) (t.done o) (live_there t o) (live_there mine o) refl (f.own o))
      (turned t.world.tables t.world.gate.attached.bits t.history mid t.world.store t.world.machine t.world.mail s.number n post (asked_passes t.world.tables s.number t.history request) aside.stays aside.lasts aside.outside aside.idle aside.idles
      refl refl (sound_asked (store_after t.world.tables t.history) (store_after t.world.tables t.history).transaction (store_after t.world.tables mid) refl h.sound_there) h.undead (may, h.run)
      (λ a u is. (u, is, refl)) (locks_turned (store_after t.world.tables t.history) (store_after t.world.tables mid) t.world.machine s.number n (λ o other. refl) (λ w c. c) (λ table live i. (live, enters table i)) h.locks) f.shared)
      (counted t.world.machine s.number n (below_65 s) t.world.gate next moves f.counts)
      (λ o live. h.alive o live)
