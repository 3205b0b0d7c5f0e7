-- Every detachment keeps the invariant: also that behind which the run of a serial insert is decided.
use Rattle.std.proofs.Common.{◌≡◌, ◌+◌, Bool, true, false, refl, sym, ap, ◌∙◌}
use Rattle.std.specs.Prelude.{Option, Some, None}
use Rattle.pool_base.specs.declared.session_id.SessionId.{SessionId}
use Rattle.pool_base.specs.declared.backend_id.BackendId.{BackendId}
use Rattle.pool_base.specs.declared.backend_set.BackendSet.{BackendSet}
use Rattle.pool_base.specs.declared.gate_call.GateCall.TheVariants as calls
use Rattle.pool_base.specs.declared.gate_call.GateAnswer.{GateAnswer}
use Rattle.snapshot_gate.specs.Function.{step}
use Rattle.session_machine.specs.declared.action.Cause.{Cause}
use Rattle.session_machine.specs.declared.action.SessionEvent.TheVariants.{Detached}
use Rattle.session_machine.specs.declared.machine.Heard.{Heard}
use Rattle.session_machine.specs.declared.machine.Stage.{Stage}
use Rattle.session_machine.specs.declared.machine.Stage.TheVariants.{Opening, Reading, Running, Locking, Inserting, Committing, Closing, RollingBack}
use Rattle.session_machine.specs.declared.machine.Point.{Point}
use Rattle.session_machine.specs.declared.machine.Point.TheVariants.{SplitDue}
use Rattle.session_machine.specs.declared.work.Work.{Work}
use Rattle.session_machine.specs.Answers.{lowest, first_other}
use Rattle.one_copy_model.specs.declared.event.Event.TheVariants.{Of}
use Rattle.one_copy_model.specs.World.{MayHappen}
use Rattle.one_copy_model.specs.Tracking.{Tracked, tracked_after}
use Rattle.one_copy_model.specs.Invariant.{Invariant}
use Rattle.one_copy_laws.proofs.FallsSplitting.{split_next_kept}
use Rattle.one_copy_laws.proofs.DecidedLast.{last_split_kept}
use Rattle.one_copy_laws.specs.Covered.{is_covered}
use Rattle.one_copy_laws.proofs.DetachmentsDetaching.{detached_kept}
use Rattle.one_copy_laws.proofs.InsertsDetachLaw.{inserted_decided_kept}

-- answers to the run of a serial insert differ, and the kept one may decide
abbrev ends_insert : Point → Bool
ends_insert (SplitDue (Inserting work posted) best own among false) = true
ends_insert point = false

covered : (stage : Stage) (best own : Heard) (among : BackendSet) → ends_insert (SplitDue stage best own among false) ≡ false → is_covered stage ≡ true
covered (Opening work) best own among e = refl
covered (Reading work ticket) best own among e = refl
covered (Running work) best own among e = refl
covered (Locking work table) best own among e = refl
covered (Inserting work posted) best own among e = absurd (let z : true ≡ false = e in cc)
covered Committing best own among e = refl
covered Closing best own among e = refl
covered (RollingBack ending) best own among e = refl

module _ (t : Tracked) (h : Invariant t) (s : SessionId) (b : BackendId) (cause : Cause) (answer : GateAnswer)
    (may : MayHappen t.world (Of s (Detached b cause answer))) where
  abbrev Kept : Type 0
  Kept = Invariant (tracked_after t (Of s (Detached b cause answer)))

  abbrev those : Option BackendId
  those = lowest (step t.world.gate (calls.Detach b)).0.attached.bits

  abbrev IsAt : Point → Type 0
  IsAt point = (t.world.machine s.number).point ≡ point

  inserts : (work : Work) (posted : Bool) (best own : Heard) (among : BackendSet) → IsAt (SplitDue (Inserting work posted) best own among false) → Kept
  inserts work posted best own among at = by those refl
    where
      decides : (first : BackendId) → those ≡ Some first → (found : Option Heard)
          → first_other among.bits best.answer (own.b.number + 1) (t.world.machine s.number).session.heard ≡ found → Kept
      decides first there None e = inserted_decided_kept t s b first cause answer work posted best own among h at e there may
      decides first there (Some mine) e = split_next_kept t s b first cause answer (Inserting work posted) best own mine among false h at e there may

      by : (found : Option BackendId) → those ≡ found → Kept
      by (Some first) there = decides first there (first_other among.bits best.answer (own.b.number + 1) (t.world.machine s.number).session.heard) refl
      by None empty = last_split_kept t s b cause answer (Inserting work posted) best own among false h at empty may

  others : (point : Point) → IsAt point → ends_insert point ≡ false → Kept
  others point at plain = detached_kept t s b cause answer h
      (λ first stage best own among there here none. covered stage best own among (ap ends_insert (sym here ∙ at) ∙ plain))
      may

  by_point : (point : Point) → IsAt point → Kept
  by_point (SplitDue (Inserting work posted) best own among false) at = inserts work posted best own among at
  by_point point at = others point at refl

  pub detaches : Kept
  detaches = by_point (t.world.machine s.number).point refl

pub detachment_kept : (t : Tracked) (s : SessionId) (b : BackendId) (cause : Cause) (answer : GateAnswer) → Invariant t
    → MayHappen t.world (Of s (Detached b cause answer)) → Invariant (tracked_after t (Of s (Detached b cause answer)))
detachment_kept t s b cause answer h may = detaches t h s b cause answer may
