-- The gate's answers keep that a recovery fits what is due of it.
use Rattle.std.proofs.Common.{◌≡◌, ℕ, Bool, true, false, inl, refl, sym, subst}
use Rattle.std.specs.Prelude.{◌&&◌, if◌then◌else◌}
use Rattle.pool_base.specs.declared.gate_call.View.{View}
use Rattle.pool_base.specs.declared.gate_call.GateCall.{GateCall}
use Rattle.pool_base.specs.declared.gate_call.GateCall.TheVariants as calls
use Rattle.pool_base.specs.declared.gate_call.GateAnswer.{GateAnswer}
use Rattle.pool_base.specs.declared.gate_call.GateAnswer.TheVariants.{Seen, Granted, Held as IsHeld, Spent}
use Rattle.session_machine.specs.Codes.{counts_spent}
use Rattle.session_machine.specs.Answers.{lowest}
use Rattle.online_recovery.specs.declared.action.RecoveryAction.TheVariants as actions
use Rattle.online_recovery.specs.declared.standing.Quiet.{Quiet}
use Rattle.online_recovery.specs.declared.standing.Quiet.TheVariants.{Copying, Entered}
use Rattle.online_recovery.specs.declared.standing.GateStanding.{GateStanding}
use Rattle.online_recovery.specs.declared.standing.GateStanding.TheVariants.{InSnapshot}
use Rattle.online_recovery.specs.declared.standing.Side.TheVariants.{Source, Target}
use Rattle.online_recovery.specs.declared.standing.Ending.{Ending}
use Rattle.online_recovery.specs.declared.standing.Ending.TheVariants.{Attached, Refused, Leaves}
use Rattle.online_recovery.specs.declared.standing.Owed.{Owed}
use Rattle.online_recovery.specs.declared.standing.Owed.TheVariants.{Transaction, Snapshot, LiveTransaction, TheQuiet, Nothing}
use Rattle.online_recovery.specs.declared.standing.Due.{Due}
use Rattle.online_recovery.specs.declared.standing.Due.TheVariants.{LookDue, StartDue, EnterDue, ShowDue, LeaveSnapshotDue, FinishDue, AskDue, QuietDue, AttachDue, Closing}
use Rattle.online_recovery.specs.declared.standing.Held.{Held}
use Rattle.online_recovery.specs.State.{owed_at_gate, owed}
use Rattle.online_recovery.specs.Rules.{closing_action, action_at, due, refused, with_view, given_back, granted, held_off, called}
use Rattle.online_recovery.specs.Allowed.{answers_call}
use Rattle.online_recovery.specs.Runs.{Phase, phase_granted, phase_called, attached_called}
use Rattle.online_recovery.proofs.Fitting.{Agrees, Fits, Good, ended, ends_attached, is_attached}
use Rattle.online_recovery.proofs.Proceeding.{looked_good, quiet_good, shown_good, snapshot_good, started_good}

-- Calls of the gate.

-- what holds of the call that is due holds of the call
pub by_call : (called call : GateCall) (P : GateCall → Type 0) → actions.Gate called ≡ actions.Gate call → P called → P call
by_call called call P e x = let same : called ≡ call = cc in subst P same x

-- a new view changes nothing of what the gate is to be given back
abbrev pub owed_by : Bool → Bool → GateStanding → Quiet → Owed
owed_by at_target at_source gate quiet = if at_target then Transaction Target else if at_source then Transaction Source else owed_at_gate gate quiet

-- the next thing that the end gives back: where it is one of the gate's, the new view leaves it
view_leaves : (held : Held) (ending : Ending) (call : GateCall) (t s v : Bool) (gate : GateStanding) (quiet : Quiet)
    → closing_action held ending (owed_by t s gate quiet) ≡ actions.Gate call → owed_by t (s && v) gate quiet ≡ owed_by t s gate quiet
view_leaves held ending call true s v gate quiet e = refl
view_leaves held ending call false true v gate quiet e = absurd (cc)
view_leaves held ending call false false v gate quiet e = refl

back_good : (p : Phase) (before held : Held) (ending : Ending) (o : Owed) (call : GateCall) (view : View) → closing_action before ending o ≡ actions.Gate call → Agrees p held
    → Good (phase_granted p call) (attached_called call (Granted view) (ends_attached ending)) (due (given_back held o) (Closing ending))
back_good p before held ending (Transaction side) call view e a = absurd (cc)
back_good p before held ending Snapshot call view e a =
    by_call calls.LeaveSnapshot call (λ c. Good (phase_granted p c) (attached_called c (Granted view) (ends_attached ending)) (due (given_back held Snapshot) (Closing ending))) e
    (record { gate = refl; quiet = a.1; fits = tt; told = refl })
back_good p before held ending LiveTransaction call view e a =
    by_call calls.Finish call (λ c. Good (phase_granted p c) (attached_called c (Granted view) (ends_attached ending)) (due (given_back held LiveTransaction) (Closing ending))) e
    (record { gate = refl; quiet = a.1; fits = tt; told = refl })
back_good p before held ending TheQuiet call view e a =
    by_call calls.LeaveQuiet call (λ c. Good (phase_granted p c) (attached_called c (Granted view) (ends_attached ending)) (due (given_back held TheQuiet) (Closing ending))) e
    (record { gate = a.0; quiet = refl; fits = tt; told = refl })
back_good p before held Attached Nothing call view e a = absurd (cc)
back_good p before held (Refused code) Nothing call view e a = absurd (cc)
back_good p before held Leaves Nothing call view e a = absurd (cc)

-- what is granted at a point, with the call that was due there
abbrev GrantedGood : Phase → Held → View → Due → GateCall → Type 0
GrantedGood p held view at call = Good (phase_granted p call) (attached_called call (Granted view) (is_attached at)) (granted (with_view held view) at)

granted_good : (p : Phase) (held : Held) (view : View) (at : Due) (call : GateCall) → action_at held at ≡ actions.Gate call → Agrees p held → Fits at p → GrantedGood p held view at call
unfolding granted
granted_good p held view (LookDue number) call e a f =
    by_call calls.Look call (GrantedGood p held view (LookDue number)) e (looked_good p (with_view held view) number (lowest view.attached.bits) a f)
granted_good p held view StartDue call e a f =
    by_call calls.StartCopy call (GrantedGood p held view StartDue) e
    (started_good (record p { quiet = Copying }) (record (with_view held view) { quiet = Copying }) (a.0, refl) (f.0, refl))
granted_good p held view EnterDue call e a f =
    by_call calls.EnterSnapshot call (GrantedGood p held view EnterDue) e
    (snapshot_good (record p { gate = InSnapshot }) (record (with_view held view) { gate = InSnapshot }) (lowest view.attached.bits) (refl, a.1) (inl (refl, f.1)))
granted_good p held view (ShowDue task answer) call e a f =
    by_call calls.Look call (GrantedGood p held view (ShowDue task answer)) e (shown_good p (with_view held view) task answer a f)
granted_good p held view LeaveSnapshotDue call e a f =
    by_call calls.LeaveSnapshot call (GrantedGood p held view LeaveSnapshotDue) e (record { gate = refl; quiet = a.1; fits = inl (refl, f.1); told = refl })
granted_good p held view FinishDue call e a f =
    by_call calls.Finish call (GrantedGood p held view FinishDue) e (record { gate = refl; quiet = a.1; fits = (refl, f.1); told = refl })
granted_good p held view AskDue call e a f =
    by_call calls.AskQuiet call (GrantedGood p held view AskDue) e (record { gate = a.0; quiet = refl; fits = (f.0, refl); told = refl })
granted_good p held view QuietDue call e a f =
    by_call calls.EnterQuiet call (GrantedGood p held view QuietDue) e
    (quiet_good (record p { quiet = Entered }) (record (with_view held view) { quiet = Entered; touched = view.touched }) (lowest view.attached.bits) (a.0, refl) (f.0, refl))
granted_good p held view AttachDue call e a f =
    by_call (calls.Attach held.target) call (GrantedGood p held view AttachDue) e (record { gate = a.0; quiet = a.1; fits = tt; told = refl })
granted_good p held view (Closing ending) call e a f =
    subst (λ o. Good (phase_granted p call) (attached_called call (Granted view) (ends_attached ending)) (due (given_back (with_view held view) o) (Closing ending)))
    (sym (view_leaves held ending call held.at_target held.at_source _ held.gate held.quiet e))
    (back_good p held (with_view held view) ending (owed held) call view e a)
granted_good p held view at call e a f = absurd (cc)

-- a call that is seen is a Look
abbrev SeenGood : Phase → Held → View → Due → GateCall → Type 0
SeenGood p held view at call =
    answers_call call (Seen view) ≡ true → Good p (attached_called call (Seen view) (is_attached at)) (granted (with_view held view) at)

back_seen : (p : Phase) (held : Held) (view : View) (ending : Ending) (o : Owed) (call : GateCall) → closing_action held ending o ≡ actions.Gate call → SeenGood p held view (Closing ending) call
back_seen p held view ending (Transaction side) call e = absurd (cc)
back_seen p held view ending Snapshot call e = by_call calls.LeaveSnapshot call (SeenGood p held view (Closing ending)) e (λ may. absurd (cc))
back_seen p held view ending LiveTransaction call e = by_call calls.Finish call (SeenGood p held view (Closing ending)) e (λ may. absurd (cc))
back_seen p held view ending TheQuiet call e = by_call calls.LeaveQuiet call (SeenGood p held view (Closing ending)) e (λ may. absurd (cc))
back_seen p held view Attached Nothing call e = absurd (cc)
back_seen p held view (Refused code) Nothing call e = absurd (cc)
back_seen p held view Leaves Nothing call e = absurd (cc)

seen_good : (p : Phase) (held : Held) (view : View) (at : Due) (call : GateCall) → action_at held at ≡ actions.Gate call → Agrees p held → Fits at p → SeenGood p held view at call
unfolding granted
seen_good p held view (LookDue number) call e a f =
    by_call calls.Look call (SeenGood p held view (LookDue number)) e (λ may. looked_good p (with_view held view) number (lowest view.attached.bits) a f)
seen_good p held view (ShowDue task answer) call e a f =
    by_call calls.Look call (SeenGood p held view (ShowDue task answer)) e (λ may. shown_good p (with_view held view) task answer a f)
seen_good p held view StartDue call e a f = by_call calls.StartCopy call (SeenGood p held view StartDue) e (λ may. absurd (cc))
seen_good p held view EnterDue call e a f = by_call calls.EnterSnapshot call (SeenGood p held view EnterDue) e (λ may. absurd (cc))
seen_good p held view LeaveSnapshotDue call e a f = by_call calls.LeaveSnapshot call (SeenGood p held view LeaveSnapshotDue) e (λ may. absurd (cc))
seen_good p held view FinishDue call e a f = by_call calls.Finish call (SeenGood p held view FinishDue) e (λ may. absurd (cc))
seen_good p held view AskDue call e a f = by_call calls.AskQuiet call (SeenGood p held view AskDue) e (λ may. absurd (cc))
seen_good p held view QuietDue call e a f = by_call calls.EnterQuiet call (SeenGood p held view QuietDue) e (λ may. absurd (cc))
seen_good p held view AttachDue call e a f = by_call (calls.Attach held.target) call (SeenGood p held view AttachDue) e (λ may. absurd (cc))
seen_good p held view (Closing ending) call e a f = back_seen p held view ending (owed held) call e
seen_good p held view at call e a f = absurd (cc)

-- a call that is held is the start of the copy, and one that is spent comes before the target is attached
abbrev HeldGood : Phase → Held → ℕ → Due → GateCall → Type 0
HeldGood p held count at call = answers_call call (IsHeld count) ≡ true → Good p (attached_called call (IsHeld count) (is_attached at)) (held_off held at)

held_back : (p : Phase) (held : Held) (count : ℕ) (ending : Ending) (o : Owed) (call : GateCall) → closing_action held ending o ≡ actions.Gate call → HeldGood p held count (Closing ending) call
held_back p held count ending (Transaction side) call e = absurd (cc)
held_back p held count ending Snapshot call e = by_call calls.LeaveSnapshot call (HeldGood p held count (Closing ending)) e (λ may. absurd (cc))
held_back p held count ending LiveTransaction call e = by_call calls.Finish call (HeldGood p held count (Closing ending)) e (λ may. absurd (cc))
held_back p held count ending TheQuiet call e = by_call calls.LeaveQuiet call (HeldGood p held count (Closing ending)) e (λ may. absurd (cc))
held_back p held count Attached Nothing call e = absurd (cc)
held_back p held count (Refused code) Nothing call e = absurd (cc)
held_back p held count Leaves Nothing call e = absurd (cc)

held_good : (p : Phase) (held : Held) (count : ℕ) (at : Due) (call : GateCall) → action_at held at ≡ actions.Gate call → Agrees p held → HeldGood p held count at call
held_good p held count StartDue call e a = by_call calls.StartCopy call (HeldGood p held count StartDue) e (λ may. ended p held _ a)
held_good p held count (LookDue number) call e a = by_call calls.Look call (HeldGood p held count (LookDue number)) e (λ may. absurd (cc))
held_good p held count (ShowDue task answer) call e a = by_call calls.Look call (HeldGood p held count (ShowDue task answer)) e (λ may. absurd (cc))
held_good p held count EnterDue call e a = by_call calls.EnterSnapshot call (HeldGood p held count EnterDue) e (λ may. absurd (cc))
held_good p held count LeaveSnapshotDue call e a = by_call calls.LeaveSnapshot call (HeldGood p held count LeaveSnapshotDue) e (λ may. absurd (cc))
held_good p held count FinishDue call e a = by_call calls.Finish call (HeldGood p held count FinishDue) e (λ may. absurd (cc))
held_good p held count AskDue call e a = by_call calls.AskQuiet call (HeldGood p held count AskDue) e (λ may. absurd (cc))
held_good p held count QuietDue call e a = by_call calls.EnterQuiet call (HeldGood p held count QuietDue) e (λ may. absurd (cc))
held_good p held count AttachDue call e a = by_call (calls.Attach held.target) call (HeldGood p held count AttachDue) e (λ may. absurd (cc))
held_good p held count (Closing ending) call e a = held_back p held count ending (owed held) call e
held_good p held count at call e a = absurd (cc)

abbrev SpentGood : Phase → Held → Due → GateCall → Type 0
SpentGood p held at call = answers_call call Spent ≡ true → Good p (attached_called call Spent (is_attached at)) (refused held counts_spent)

spent_back : (p : Phase) (held : Held) (ending : Ending) (o : Owed) (call : GateCall) → closing_action held ending o ≡ actions.Gate call → SpentGood p held (Closing ending) call
spent_back p held ending (Transaction side) call e = absurd (cc)
spent_back p held ending Snapshot call e = by_call calls.LeaveSnapshot call (SpentGood p held (Closing ending)) e (λ may. absurd (cc))
spent_back p held ending LiveTransaction call e = by_call calls.Finish call (SpentGood p held (Closing ending)) e (λ may. absurd (cc))
spent_back p held ending TheQuiet call e = by_call calls.LeaveQuiet call (SpentGood p held (Closing ending)) e (λ may. absurd (cc))
spent_back p held Attached Nothing call e = absurd (cc)
spent_back p held (Refused code) Nothing call e = absurd (cc)
spent_back p held Leaves Nothing call e = absurd (cc)

spent_good : (p : Phase) (held : Held) (at : Due) (call : GateCall) → action_at held at ≡ actions.Gate call → Agrees p held → SpentGood p held at call
spent_good p held StartDue call e a = by_call calls.StartCopy call (SpentGood p held StartDue) e (λ may. absurd (cc))
spent_good p held (LookDue number) call e a = by_call calls.Look call (SpentGood p held (LookDue number)) e (λ may. absurd (cc))
spent_good p held (ShowDue task answer) call e a = by_call calls.Look call (SpentGood p held (ShowDue task answer)) e (λ may. absurd (cc))
spent_good p held EnterDue call e a = by_call calls.EnterSnapshot call (SpentGood p held EnterDue) e (λ may. ended p held _ a)
spent_good p held LeaveSnapshotDue call e a = by_call calls.LeaveSnapshot call (SpentGood p held LeaveSnapshotDue) e (λ may. absurd (cc))
spent_good p held FinishDue call e a = by_call calls.Finish call (SpentGood p held FinishDue) e (λ may. absurd (cc))
spent_good p held AskDue call e a = by_call calls.AskQuiet call (SpentGood p held AskDue) e (λ may. absurd (cc))
spent_good p held QuietDue call e a = by_call calls.EnterQuiet call (SpentGood p held QuietDue) e (λ may. absurd (cc))
spent_good p held AttachDue call e a = by_call (calls.Attach held.target) call (SpentGood p held AttachDue) e (λ may. ended p held _ a)
spent_good p held (Closing ending) call e a = spent_back p held ending (owed held) call e
spent_good p held at call e a = absurd (cc)

pub called_good : (p : Phase) (held : Held) (at : Due) (call : GateCall) (answer : GateAnswer) → action_at held at ≡ actions.Gate call → answers_call call answer ≡ true
    → Agrees p held → Fits at p → Good (phase_called p call answer) (attached_called call answer (is_attached at)) (called held at answer)
unfolding called
called_good p held at call (Seen view) e may a f = seen_good p held view at call e a f may
called_good p held at call (Granted view) e may a f = granted_good p held view at call e a f
called_good p held at call (IsHeld count) e may a f = held_good p held count at call e a may
called_good p held at call Spent e may a f = spent_good p held at call e a may
