-- Where a recovery stands at the gate fits what is due, and what it holds is what the gate has granted.
use Rattle.std.proofs.Common.{◌≡◌, Bool, true, false, refl}
use Rattle.std.specs.Prelude.{◌⊎◌, if◌then◌else◌}
use Rattle.pool_base.specs.declared.code.Code.{Code}
use Rattle.online_recovery.specs.declared.standing.Quiet.{Quiet}
use Rattle.online_recovery.specs.declared.standing.Quiet.TheVariants.{Open, Copying, Asked, Entered}
use Rattle.online_recovery.specs.declared.standing.GateStanding.{GateStanding}
use Rattle.online_recovery.specs.declared.standing.GateStanding.TheVariants.{Out, InSnapshot, Live}
use Rattle.online_recovery.specs.declared.standing.Task.{Task}
use Rattle.online_recovery.specs.declared.standing.Task.TheVariants.{OpeningSource, OpeningTarget, Reading, Emptying, Filling, Committing, Leaving, OpeningNumbers, ReadingSerial, LockingSerial, SettingSerial, ClosingNumbers}
use Rattle.online_recovery.specs.declared.standing.Ending.{Ending}
use Rattle.online_recovery.specs.declared.standing.Ending.TheVariants.{Attached, Refused, Leaves}
use Rattle.online_recovery.specs.declared.standing.Due.{Due}
use Rattle.online_recovery.specs.declared.standing.Due.TheVariants.{Resting, LookDue, StartDue, SwapDue, EnterDue, PostDue, Waiting, ShowDue, LeaveSnapshotDue, FinishDue, AskDue, QuietDue, AttachDue, LostDue, Closing, Undoing}
use Rattle.online_recovery.specs.declared.standing.Held.{Held}
use Rattle.online_recovery.specs.declared.standing.Standing.{Standing}
use Rattle.online_recovery.specs.Rules.{refused}
use Rattle.online_recovery.specs.Runs.{Phase}

-- Where a recovery stands at the gate fits what is due.

abbrev pub IsIn : GateStanding → Quiet → Phase → Type 0
IsIn gate quiet p = (p.gate ≡ gate) × (p.quiet ≡ quiet)

-- a stage's first request, those behind it, and the serial numbers
abbrev pub First : Phase → Type 0
First p = IsIn InSnapshot Copying p ⊎ IsIn Out Entered p

abbrev pub Middle : Phase → Type 0
Middle p = IsIn Live Copying p ⊎ IsIn Out Entered p

abbrev pub FitsTask : Task → Phase → Type 0
FitsTask OpeningSource p = First p
FitsTask OpeningTarget p = Middle p
FitsTask (Reading table) p = Middle p
FitsTask (Emptying table rows) p = Middle p
FitsTask (Filling table rows left) p = Middle p
FitsTask Committing p = Middle p
FitsTask Leaving p = Middle p
FitsTask OpeningNumbers p = IsIn Out Entered p
FitsTask (ReadingSerial table) p = IsIn Out Entered p
FitsTask (LockingSerial table n) p = IsIn Out Entered p
FitsTask (SettingSerial table n) p = IsIn Out Entered p
FitsTask ClosingNumbers p = IsIn Out Entered p

abbrev pub Fits : Due → Phase → Type 0
Fits Resting p = IsIn Out Open p
Fits (LookDue number) p = IsIn Out Open p
Fits StartDue p = IsIn Out Open p
Fits SwapDue p = IsIn Out Copying p
Fits EnterDue p = IsIn Out Copying p
Fits (PostDue task) p = FitsTask task p
Fits (Waiting task) p = FitsTask task p
Fits (ShowDue task answer) p = FitsTask task p
Fits LeaveSnapshotDue p = IsIn InSnapshot Copying p
Fits FinishDue p = IsIn Live Copying p
Fits AskDue p = IsIn Out Copying p
Fits QuietDue p = IsIn Out Asked p
Fits AttachDue p = IsIn Out Entered p
Fits (LostDue ending before count) p = Unit {0}
Fits (Closing ending) p = Unit {0}
Fits (Undoing side ending) p = Unit {0}

-- whether the target was attached, by what is due
abbrev pub ends_attached : Ending → Bool
ends_attached Attached = true
ends_attached (Refused code) = false
ends_attached Leaves = false

abbrev pub is_attached : Due → Bool
is_attached (LostDue ending before count) = ends_attached ending
is_attached (Closing ending) = ends_attached ending
is_attached (Undoing side ending) = ends_attached ending
is_attached Resting = false
is_attached (LookDue number) = false
is_attached StartDue = false
is_attached SwapDue = false
is_attached EnterDue = false
is_attached (PostDue task) = false
is_attached (Waiting task) = false
is_attached (ShowDue task answer) = false
is_attached LeaveSnapshotDue = false
is_attached FinishDue = false
is_attached AskDue = false
is_attached QuietDue = false
is_attached AttachDue = false

-- what the gate has granted is what the recovery holds, and fits what is due
pub record Good (p : Phase) (attached : Bool) (r : Standing) : Type 0 where
  pub gate : p.gate ≡ r.held.gate
  pub quiet : p.quiet ≡ r.held.quiet
  pub fits : Fits r.due p
  pub told : attached ≡ is_attached r.due

pub either : (t : Bool) (p : Phase) (attached : Bool) (x y : Standing) → Good p attached x → Good p attached y → Good p attached (if t then x else y)
either true p attached x y f g = f
either false p attached x y f g = g

-- what a recovery holds agrees
abbrev pub Agrees : Phase → Held → Type 0
Agrees p held = (p.gate ≡ held.gate) × (p.quiet ≡ held.quiet)

pub ended : (p : Phase) (held : Held) (code : Code) → Agrees p held → Good p false (refused held code)
ended p held code a = record { gate = a.0; quiet = a.1; fits = tt; told = refl }
