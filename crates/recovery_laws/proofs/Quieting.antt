-- What a recovery changes of the gate beside the attached backends, the facts do not read; and behind a recovery its session is new.
use Rattle.std.proofs.Common.{◌≡◌, ℕ, ◌<◌, Bool, refl, sym, ap, ◌∙◌, subst, inl, inr}
use Rattle.std.specs.Prelude.{Option, Some, None}
use Rattle.pool_base.specs.declared.session_id.SessionId.{SessionId}
use Rattle.pool_base.specs.declared.backend_set.BackendSet.{BackendSet}
use Rattle.backend_trait.specs.Rows.{with_at}
use Rattle.snapshot_gate.specs.declared.state.GateState.{GateState}
use Rattle.session_machine.specs.declared.machine.ReadPolicy.{ReadPolicy}
use Rattle.session_machine.specs.declared.machine.GatePhase.TheVariants as phases
use Rattle.session_machine.specs.declared.machine.Machine.{Machine}
use Rattle.session_machine.specs.declared.machine.Point.{Point}
use Rattle.session_machine.specs.declared.machine.Point.TheVariants.{Resting}
use Rattle.session_machine.specs.Rules.{new_machine}
use Rattle.one_copy_model.specs.World.{World}
use Rattle.one_copy_model.specs.Deaths.{stage_at}
use Rattle.one_copy_model.specs.Tracking.{Told, Tracked, in_commit}
use Rattle.one_copy_model.specs.Standing.{standing_by, standing_open}
use Rattle.one_copy_model.specs.Invariant.{Invariant, IsUnderWay, where_live, wants_of}
use Rattle.one_copy_model.specs.Own.{told_by, stand, Own}
use Rattle.one_copy_model.specs.Facts.{Shared}
use Rattle.one_copy_model.proofs.Counts.{still}
use Rattle.one_copy_model.proofs.Calm.{calm_own, free_of, is_waiting}
use Rattle.one_copy_model.proofs.Turning.{FactsOf, facts_of, invariant_of, live_there}
use Rattle.one_copy_model.proofs.Landing.{alive_same, with_at-self}
use Rattle.one_copy_model.proofs.Quiet.{real, calm_silent, quiet_holds}
use Rattle.recovery_laws.specs.Ready.{IsTurned, with_gate_of, with_new_session}
use Rattle.recovery_laws.proofs.Sparing.{landed}

module _ (t : Tracked) (g : GateState) (h : Invariant t) (turned : IsTurned t.world.gate g) where
  abbrev new : World
  new = record t.world { gate = g }

  abbrev there : Tracked
  there = record { world = new; history = t.history; orders = t.orders; done = t.done }

  facts : FactsOf there
  facts = let f = facts_of t h in record {
    own = subst (λ (a : BackendSet). (s : ℕ) → Own t.world.tables a.bits t.history t.world.store (t.world.machine s) (t.world.mail s) (t.orders s) (t.done s) (live_there t s) s)
        (sym turned.attached) f.own;
    shared = subst (λ (a : BackendSet). Shared t.world.tables a.bits t.history t.world.store t.world.machine t.world.mail) (sym turned.attached) f.shared;
    counts = let c = f.counts in record {
      snaps = turned.snaps ∙ c.snaps;
      commits = turned.commits ∙ c.commits;
      live = turned.live ∙ c.live;
      apart = elim c.apart [ inl none ↦ inl (turned.snaps ∙ none) | inr none ↦ inr (turned.commits ∙ none) ];
      quiet = turned.still;
      few = subst (λ (a : BackendSet). a.bits < 256) (sym turned.attached) c.few;
    };
  }

  pub turned_kept : Invariant (with_gate_of t g)
  turned_kept = landed new t (invariant_of there facts (λ s live. alive_same t.world new turned.attached refl s ∙ h.alive s live))

none_told : (told : Told) → None ≡ Some told → ⊥
none_told told e = cc

module _ (t : Tracked) (s id : SessionId) (policy : ReadPolicy) (h : Invariant t) (rests : (t.world.machine s.number).point ≡ Resting)
    (out : (t.world.machine s.number).session.gate ≡ phases.Out) where
  abbrev last : Machine
  last = t.world.machine s.number

  abbrev first : Machine
  first = new_machine id policy

  none : t.orders s.number ≡ None
  none = subst (λ (p : Point). IsUnderWay p (t.orders s.number)) rests (h.orders s.number)

  stands_out : (b : ℕ) → stand first (t.world.mail s.number) b ≡ stand last (t.world.mail s.number) b
  stands_out b =
      ap standing_open (sym out)
      ∙ sym (ap (λ (p : Point). standing_by last.session.gate p (stage_at p) (told_by last (t.world.mail s.number) b)) rests)

  own_first : Own t.world.tables t.world.gate.attached.bits t.history t.world.store first (t.world.mail s.number) None (t.done s.number) (live_there t s.number) s.number
  own_first =
      calm_own t.world.tables t.world.gate.attached.bits t.history t.world.store last (t.world.mail s.number) (t.orders s.number) (t.done s.number) (live_there t s.number) s.number
      (real s) (free_of last.point (ap is_waiting rests)) first None (t.done s.number) refl ((facts_of t h).own s.number)
      refl tt (λ b at. stands_out b) (λ written e. out ∙ e)
      (sym (ap (λ (p : Point). where_live (live_there t s.number) (wants_of p (stage_at p))) rests))
      (λ told reply e. absurd (none_told told e)) refl (λ told e. absurd (none_told told e)) (λ told e. absurd (none_told told e))
      (λ b told e. absurd (none_told told e))

  invariant : Invariant (record { world = record t.world { machine = with_at t.world.machine s.number first }; history = t.history; orders = t.orders; done = t.done })
  invariant =
      subst (λ (by : ℕ → Option Told). Invariant (record { world = record t.world { machine = with_at t.world.machine s.number first }; history = t.history; orders = by; done = t.done }))
      (ap (with_at t.orders s.number) (sym none) ∙ with_at-self t.orders s.number)
      (subst (λ (did : ℕ → ℕ → Bool). Invariant (record { world = record t.world { machine = with_at t.world.machine s.number first }; history = t.history; orders = with_at t.orders s.number None; done = did }))
      (with_at-self t.done s.number)
      (quiet_holds t h s first t.world.gate None (t.done s.number) refl (still t.world.gate t.world.machine last.session.gate phases.Out (sym out) (facts_of t h).counts)
      (calm_silent t.world.tables t.world.gate.attached.bits t.history last first (t.world.mail s.number) (λ b at. stands_out b) (ap stage_at rests) refl (λ e. ap in_commit out ∙ e)) own_first))

  pub renewed_kept : Invariant (with_new_session t s id policy)
  renewed_kept = landed (record t.world { machine = with_at t.world.machine s.number first }) t invariant
