-- Where an answer, a loss and a post lead a recovery: what it holds then.
use Rattle.std.proofs.Common.{◌≡◌, ℕ, Bool, true, false, inl, inr, refl, sym, subst, ◌∙◌}
use Rattle.std.specs.Prelude.{◌⊎◌, if◌then◌else◌}
use Rattle.backend_trait.specs.declared.answer.Answer.{Answer}
use Rattle.session_machine.specs.Rules.{refusal_of}
use Rattle.online_recovery.specs.declared.standing.Quiet.{Quiet}
use Rattle.online_recovery.specs.declared.standing.Quiet.TheVariants.{Open, Copying, Asked, Entered}
use Rattle.online_recovery.specs.declared.standing.GateStanding.{GateStanding}
use Rattle.online_recovery.specs.declared.standing.GateStanding.TheVariants.{Out, InSnapshot, Live}
use Rattle.online_recovery.specs.declared.standing.Side.{Side}
use Rattle.online_recovery.specs.declared.standing.Side.TheVariants.{Source, Target}
use Rattle.online_recovery.specs.declared.standing.Task.{Task}
use Rattle.online_recovery.specs.declared.standing.Task.TheVariants.{OpeningSource, OpeningTarget, Reading, Emptying, Filling, Committing, Leaving, OpeningNumbers, ReadingSerial, LockingSerial, SettingSerial, ClosingNumbers}
use Rattle.online_recovery.specs.declared.standing.Ending.{Ending}
use Rattle.online_recovery.specs.declared.standing.Owed.TheVariants.{Transaction}
use Rattle.online_recovery.specs.declared.standing.Due.{Due}
use Rattle.online_recovery.specs.declared.standing.Due.TheVariants.{ShowDue, LostDue, Closing, Undoing}
use Rattle.online_recovery.specs.declared.standing.Held.{Held}
use Rattle.online_recovery.specs.declared.standing.Standing.{Standing}
use Rattle.online_recovery.specs.State.{owed, owed_at_gate}
use Rattle.online_recovery.specs.Rules.{due, answered, heard, taken_at, over, lost_at}
use Rattle.play_laws.proofs.Courses.{IsCalm, RidsTask, RidsShown, RidsBy, Tidy, Ends, answered_ends, ends_by}

-- An answer that is taken: what is held is by the task, and nothing is waited for.

pub record Hears (held : Held) (task : Task) (x : Standing) : Type 0 where
  pub held_is : x.held ≡ heard held task
  pub calm : IsCalm x.due
  pub tidy : Tidy x

heard_rids : (held : Held) (task : Task) → RidsTask task held.at_target → RidsShown task (heard held task).at_source (heard held task).at_target
heard_rids held Leaving e = (refl, e)
heard_rids held Committing e = refl
heard_rids held ClosingNumbers e = refl
heard_rids held task e = tt

pub heard_quiet : (held : Held) (task : Task) → (heard held task).quiet ≡ held.quiet
heard_quiet held OpeningSource = refl
heard_quiet held OpeningTarget = refl
heard_quiet held Committing = refl
heard_quiet held Leaving = refl
heard_quiet held OpeningNumbers = refl
heard_quiet held ClosingNumbers = refl
heard_quiet held (Reading table) = refl
heard_quiet held (Emptying table rows) = refl
heard_quiet held (Filling table rows left) = refl
heard_quiet held (ReadingSerial table) = refl
heard_quiet held (LockingSerial table n) = refl
heard_quiet held (SettingSerial table n) = refl

module _ (held : Held) (task : Task) (quiet : held.quiet ≡ Open → ⊥) where
  abbrev w : Held
  w = heard held task

  never_open : w.quiet ≡ Open → ⊥
  never_open e = quiet (sym (heard_quiet held task) ∙ e)

  quiet_tidy : (at : Due) → RidsBy at w.at_source w.at_target → Tidy (due w at)
  quiet_tidy at rids = record { rids = rids; at_source = λ e. never_open; at_target = λ e. never_open }

  ends_hear : (x : Standing) → Ends w x → Hears held task x
  ends_hear x e =
      let by = ends_by x.due w.at_source w.at_target e.1 in
      let same : (h : Held) → h ≡ w → Tidy (due h x.due) = λ h is. subst (λ (k : Held). Tidy (due k x.due)) (sym is) (quiet_tidy x.due by.1) in
      record { held_is = e.0; calm = by.0; tidy = same x.held e.0 }

  pub taken_hears : (answer : Answer) (side : Side) → RidsTask task held.at_target → Hears held task (taken_at w task answer side)
  taken_hears answer Source e = record { held_is = refl; calm = tt; tidy = quiet_tidy (ShowDue task answer) (heard_rids held task e) }
  taken_hears answer Target e = ends_hear (answered w task answer (refusal_of answer)) (answered_ends w task answer (refusal_of answer) (heard_rids held task e))

-- a transaction is over
over_tidy : (held : Held) (side : Side) (at : Due) → RidsBy at (over held side).at_source (over held side).at_target
    → (held.at_source ≡ true → held.quiet ≡ Open → ⊥) → (held.at_target ≡ true → held.quiet ≡ Open → ⊥) → Tidy (due (over held side) at)
over_tidy held Source at rids source target = record { rids = rids; at_source = λ e. absurd (let z : false ≡ true = e in cc); at_target = target }
over_tidy held Target at rids source target = record { rids = rids; at_source = source; at_target = λ e. absurd (let z : false ≡ true = e in cc) }

pub undone_tidy : (held : Held) (side : Side) (ending : Ending) → Tidy (due held (Undoing side ending)) → Tidy (due (over held side) (Closing ending))
undone_tidy held side ending old = over_tidy held side (Closing ending) tt old.at_source old.at_target

pub lost_tidy : (held : Held) (side : Side) (ending : Ending) (before count : ℕ) → (held.at_source ≡ true → held.quiet ≡ Open → ⊥) → (held.at_target ≡ true → held.quiet ≡ Open → ⊥)
    → Tidy (lost_at held side ending before count)
lost_tidy held Source ending before count source target = over_tidy held Source (LostDue ending before count) tt source target
lost_tidy held Target ending before count source target = over_tidy held Target (Closing ending) tt source target

-- a post
owed_side : (t u : Bool) (gate : GateStanding) (quiet : Quiet) (side : Side) → (if t then Transaction Target else if u then Transaction Source else owed_at_gate gate quiet) ≡ Transaction side
    → ((side ≡ Target) × (t ≡ true)) ⊎ ((side ≡ Source) × (u ≡ true))
owed_side true u gate quiet side e = inl (sym (let z : Target ≡ side = cc in z), refl)
owed_side false true gate quiet side e = inr (sym (let z : Source ≡ side = cc in z), refl)
owed_side false false InSnapshot quiet side e = absurd (cc)
owed_side false false Live quiet side e = absurd (cc)
owed_side false false Out Open side e = absurd (cc)
owed_side false false Out Copying side e = absurd (cc)
owed_side false false Out Asked side e = absurd (cc)
owed_side false false Out Entered side e = absurd (cc)

undoing_rids : (held : Held) (side : Side) (ending : Ending) → owed held ≡ Transaction side → RidsBy (Undoing side ending) held.at_source held.at_target
undoing_rids held side ending e = elim (owed_side held.at_target held.at_source held.gate held.quiet side e) [
  | inl q ↦ subst (λ (x : Side). RidsBy (Undoing x ending) held.at_source held.at_target) (sym q.0) q.1
  | inr q ↦ subst (λ (x : Side). RidsBy (Undoing x ending) held.at_source held.at_target) (sym q.0) q.1
]

pub undoing_tidy : (held : Held) (side : Side) (ending : Ending) → owed held ≡ Transaction side → Tidy (due held (Closing ending)) → Tidy (due held (Undoing side ending))
undoing_tidy held side ending e old = record { rids = undoing_rids held side ending e; at_source = old.at_source; at_target = old.at_target }
