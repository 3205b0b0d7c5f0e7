-- A reply and an end.
use Rattle.std.proofs.Common.{◌≡◌, ℕ, List, refl, sym, ap, ◌∙◌, subst}
use Rattle.std.specs.Prelude.{Some, None}
use Rattle.pool_base.specs.declared.session_id.SessionId.{SessionId}
use Rattle.session_machine.specs.declared.action.Action.TheVariants as actions
use Rattle.session_machine.specs.declared.action.SessionEvent.TheVariants.{Replied, Ended}
use Rattle.session_orders.specs.declared.outcome.Outcome.{Outcome}
use Rattle.session_machine.specs.declared.status.Status.{Status}
use Rattle.session_machine.specs.declared.machine.GatePhase.{GatePhase}
use Rattle.session_machine.specs.declared.machine.GatePhase.TheVariants as phases
use Rattle.session_machine.specs.declared.machine.Machine.{Machine}
use Rattle.session_machine.specs.declared.machine.Session.{Session}
use Rattle.session_machine.specs.declared.machine.Point.{Point}
use Rattle.session_machine.specs.declared.machine.Point.TheVariants.{Resting, ReplyDue, EndDue}
use Rattle.session_machine.specs.Rules.{action_at, after_at, due, new_machine}
use Rattle.one_copy_model.specs.declared.deed.Entry.{Entry}
use Rattle.one_copy_model.specs.declared.event.Event.TheVariants.{Of}
use Rattle.one_copy_model.specs.World.{MayHappen, after}
use Rattle.one_copy_model.specs.Deaths.{stage_at, fallen}
use Rattle.one_copy_model.specs.Tracking.{Told, Tracked, tracked_after, in_commit}
use Rattle.one_copy_model.specs.Standing.{standing_by, standing_open}
use Rattle.one_copy_model.specs.Invariant.{Invariant, FitsPoint, where_live, wants_of}
use Rattle.one_copy_model.proofs.FollowingLaws.{reply_point}
use Rattle.one_copy_model.specs.Own.{told_by, stand, Own}
use Rattle.one_copy_model.proofs.Counts.{still}
use Rattle.one_copy_model.proofs.Calm.{calm_own, free_of, is_waiting}
use Rattle.one_copy_model.proofs.Turning.{facts_of, live_there}
use Rattle.one_copy_model.proofs.Landing.{lands, places_none}
use Rattle.one_copy_model.proofs.Quiet.{real, calm_silent, quiet_holds}

end_point : (session : Session) (point : Point) → action_at session point ≡ actions.End → point ≡ EndDue
end_point session EndDue e = refl
end_point session point e = absurd (cc)

rests_where : (point : Point) (outcome : Outcome) (phase : GatePhase) → point ≡ ReplyDue outcome → FitsPoint (stage_at point) point phase → FitsPoint None Resting phase
rests_where point outcome phase is fits = by phase (subst (λ (p : Point). FitsPoint (stage_at p) p phase) is fits)
  where
    by : (phase : GatePhase) → FitsPoint None (ReplyDue outcome) phase → FitsPoint None Resting phase
    by phases.Out e = refl
    by phases.InSnapshot e = e
    by (phases.Live changed written) e = refl
    by phases.InCommit e = e

none_told : (told : Told) → None ≡ Some told → ⊥
none_told told e = cc

-- a session at rest stands as one that is to reply
module _ (t : Tracked) (s : SessionId) (outcome : Outcome) (status : Status) (h : Invariant t) (may : MayHappen t.world (Of s (Replied outcome status))) where
  abbrev m : Machine
  m = t.world.machine s.number

  abbrev n : Machine
  n = due m.session Resting

  is_due : m.point ≡ ReplyDue outcome
  is_due = reply_point m.session m.point outcome status may.0

  same : (b : ℕ) → stand n (t.world.mail s.number) b ≡ stand m (t.world.mail s.number) b
  same b = sym (ap (λ (p : Point). standing_by m.session.gate p (stage_at p) (told_by m (t.world.mail s.number) b)) is_due)

  own : Own t.world.tables t.world.gate.attached.bits t.history t.world.store n (t.world.mail s.number) None (t.done s.number) (live_there t s.number) s.number
  own =
      calm_own t.world.tables t.world.gate.attached.bits t.history t.world.store m (t.world.mail s.number) (t.orders s.number) (t.done s.number) (live_there t s.number) s.number
      (real s) (free_of m.point (ap is_waiting is_due)) n None (t.done s.number) refl ((facts_of t h).own s.number)
      (rests_where m.point outcome m.session.gate is_due (h.inside s.number)) tt (λ b at. same b) (λ written e. e)
      (sym (ap (λ (p : Point). where_live (live_there t s.number) (wants_of p (stage_at p))) is_due))
      (λ told reply e. absurd (none_told told e)) refl (λ told e. absurd (none_told told e)) (λ told e. absurd (none_told told e))
      (λ b told e. absurd (none_told told e))

  pub replied : Invariant (tracked_after t (Of s (Replied outcome status)))
  unfolding after_at
  replied =
      lands t (Of s (Replied outcome status)) t.history
      (ap (λ (mid : List Entry). fallen (after t.world (Of s (Replied outcome status))) mid 65)
      (places_none (live_there t s.number) t.world s.number m (Replied outcome status) t.history refl refl refl))
      (quiet_holds t h s n t.world.gate None (t.done s.number) refl (still t.world.gate t.world.machine m.session.gate m.session.gate refl (facts_of t h).counts)
      (calm_silent t.world.tables t.world.gate.attached.bits t.history m n (t.world.mail s.number) (λ b at. same b) (ap stage_at is_due) refl (λ e. e)) own)

pub reply_kept : (t : Tracked) (s : SessionId) (outcome : Outcome) (status : Status) → Invariant t → MayHappen t.world (Of s (Replied outcome status)) → Invariant (tracked_after t (Of s (Replied outcome status)))
reply_kept t s outcome status h may = replied t s outcome status h may

is_out : (point : Point) (phase : GatePhase) → point ≡ EndDue → FitsPoint (stage_at point) point phase → phases.Out ≡ phase
is_out point phase is fits = by phase (subst (λ (p : Point). FitsPoint (stage_at p) p phase) is fits)
  where
    by : (phase : GatePhase) → FitsPoint None EndDue phase → phases.Out ≡ phase
    by phases.Out e = refl
    by phases.InSnapshot e = absurd (cc)
    by (phases.Live changed written) e = absurd (cc)
    by phases.InCommit e = absurd (cc)

module _ (t : Tracked) (s : SessionId) (h : Invariant t) (may : MayHappen t.world (Of s Ended)) where
  abbrev last : Machine
  last = t.world.machine s.number

  abbrev first : Machine
  first = new_machine last.session.id last.session.policy

  ends : last.point ≡ EndDue
  ends = end_point last.session last.point may.0

  out : phases.Out ≡ last.session.gate
  out = is_out last.point last.session.gate ends (h.inside s.number)

  stands_out : (b : ℕ) → stand first (t.world.mail s.number) b ≡ stand last (t.world.mail s.number) b
  stands_out b =
      ap standing_open out
      ∙ sym (ap (λ (p : Point). standing_by last.session.gate p (stage_at p) (told_by last (t.world.mail s.number) b)) ends)

  own_first : Own t.world.tables t.world.gate.attached.bits t.history t.world.store first (t.world.mail s.number) None (t.done s.number) (live_there t s.number) s.number
  own_first =
      calm_own t.world.tables t.world.gate.attached.bits t.history t.world.store last (t.world.mail s.number) (t.orders s.number) (t.done s.number) (live_there t s.number) s.number
      (real s) (free_of last.point (ap is_waiting ends)) first None (t.done s.number) refl ((facts_of t h).own s.number)
      refl tt (λ b at. stands_out b) (λ written e. sym out ∙ e)
      (sym (ap (λ (p : Point). where_live (live_there t s.number) (wants_of p (stage_at p))) ends))
      (λ told reply e. absurd (none_told told e)) refl (λ told e. absurd (none_told told e)) (λ told e. absurd (none_told told e))
      (λ b told e. absurd (none_told told e))

  pub ended : Invariant (tracked_after t (Of s Ended))
  unfolding after_at
  ended =
      lands t (Of s Ended) t.history
      (ap (λ (mid : List Entry). fallen (after t.world (Of s Ended)) mid 65)
      (places_none (live_there t s.number) t.world s.number last Ended t.history refl refl refl))
      (quiet_holds t h s first t.world.gate None (t.done s.number) refl (still t.world.gate t.world.machine last.session.gate phases.Out out (facts_of t h).counts)
      (calm_silent t.world.tables t.world.gate.attached.bits t.history last first (t.world.mail s.number) (λ b at. stands_out b) (ap stage_at ends) refl (λ e. ap in_commit (sym out) ∙ e)) own_first)

pub end_kept : (t : Tracked) (s : SessionId) → Invariant t → MayHappen t.world (Of s Ended) → Invariant (tracked_after t (Of s Ended))
end_kept t s h may = ended t s h may
