-- Each event of a recovery meets its condition where the recovery stands; and what is due says what a recovery holds.
use Rattle.std.proofs.Common.{◌≡◌, Bool, true, false, inl, inr, refl, sym, subst, if◌then◌else◌}
use Rattle.pool_base.specs.declared.backend_id.BackendId.{BackendId}
use Rattle.pool_base.specs.declared.gate_call.GateCall.{GateCall}
use Rattle.pool_base.specs.declared.gate_call.GateCall.TheVariants as calls
use Rattle.session_machine.specs.declared.action.SessionEvent.{SessionEvent}
use Rattle.session_machine.specs.declared.action.SessionEvent.TheVariants as events
use Rattle.online_recovery.specs.declared.action.RecoveryAction.{RecoveryAction}
use Rattle.online_recovery.specs.declared.action.RecoveryAction.TheVariants as actions
use Rattle.online_recovery.specs.declared.standing.Quiet.{Quiet}
use Rattle.online_recovery.specs.declared.standing.Quiet.TheVariants.{Open, Copying, Asked, Entered}
use Rattle.online_recovery.specs.declared.standing.GateStanding.{GateStanding}
use Rattle.online_recovery.specs.declared.standing.GateStanding.TheVariants.{Out, InSnapshot, Live}
use Rattle.online_recovery.specs.declared.standing.Side.TheVariants.{Source, Target}
use Rattle.online_recovery.specs.declared.standing.Ending.{Ending}
use Rattle.online_recovery.specs.declared.standing.Ending.TheVariants.{Attached, Refused, Leaves}
use Rattle.online_recovery.specs.declared.standing.Owed.{Owed}
use Rattle.online_recovery.specs.declared.standing.Owed.TheVariants.{Transaction, Snapshot, LiveTransaction, TheQuiet, Nothing}
use Rattle.online_recovery.specs.declared.standing.Due.{Due}
use Rattle.online_recovery.specs.declared.standing.Due.TheVariants.{LookDue, StartDue, SwapDue, EnterDue, ShowDue, LeaveSnapshotDue, FinishDue, AskDue, QuietDue, AttachDue, Closing}
use Rattle.online_recovery.specs.declared.standing.Held.{Held}
use Rattle.online_recovery.specs.declared.standing.Standing.{Standing}
use Rattle.online_recovery.specs.State.{owed, owed_at_gate}
use Rattle.online_recovery.specs.Rules.{closing_action, action_at}
use Rattle.online_recovery.specs.Allowed.{MayHappen}
use Rattle.online_recovery.specs.Runs.{Phase, MeetsIn, Meets}
use Rattle.online_recovery.proofs.Calling.{by_call}
use Rattle.online_recovery.proofs.Fitting.{IsIn, Agrees, Fits}
use Rattle.online_recovery.proofs.Keeping.{no_swap}

abbrev owed_by : Bool → Bool → GateStanding → Quiet → Owed
owed_by t s gate quiet = if t then Transaction Target else if s then Transaction Source else owed_at_gate gate quiet

-- what the end gives back at the gate is held there
back_meets : (p : Phase) (held : Held) (ending : Ending) (call : GateCall) (t s : Bool) (gate : GateStanding) (quiet : Quiet) → p.gate ≡ gate → p.quiet ≡ quiet
    → closing_action held ending (owed_by t s gate quiet) ≡ actions.Gate call → MeetsIn p call
back_meets p held ending call true s gate quiet g q e = absurd (cc)
back_meets p held ending call false true gate quiet g q e = absurd (cc)
back_meets p held ending call false false InSnapshot quiet g q e = by_call calls.LeaveSnapshot call (MeetsIn p) e g
back_meets p held ending call false false Live quiet g q e = by_call calls.Finish call (MeetsIn p) e g
back_meets p held ending call false false Out Copying g q e = by_call calls.LeaveQuiet call (MeetsIn p) e (g, λ o. absurd (cc))
back_meets p held ending call false false Out Asked g q e = by_call calls.LeaveQuiet call (MeetsIn p) e (g, λ o. absurd (cc))
back_meets p held ending call false false Out Entered g q e = by_call calls.LeaveQuiet call (MeetsIn p) e (g, λ o. absurd (cc))
back_meets p held Attached call false false Out Open g q e = absurd (cc)
back_meets p held (Refused code) call false false Out Open g q e = absurd (cc)
back_meets p held Leaves call false false Out Open g q e = absurd (cc)

call_meets : (p : Phase) (held : Held) (at : Due) (call : GateCall) → action_at held at ≡ actions.Gate call → Agrees p held → Fits at p → MeetsIn p call
call_meets p held (LookDue number) call e a f = by_call calls.Look call (MeetsIn p) e tt
call_meets p held StartDue call e a f = by_call calls.StartCopy call (MeetsIn p) e f
call_meets p held EnterDue call e a f = by_call calls.EnterSnapshot call (MeetsIn p) e f
call_meets p held (ShowDue task answer) call e a f = by_call calls.Look call (MeetsIn p) e tt
call_meets p held LeaveSnapshotDue call e a f = by_call calls.LeaveSnapshot call (MeetsIn p) e f.0
call_meets p held FinishDue call e a f = by_call calls.Finish call (MeetsIn p) e f.0
call_meets p held AskDue call e a f = by_call calls.AskQuiet call (MeetsIn p) e f
call_meets p held QuietDue call e a f = by_call calls.EnterQuiet call (MeetsIn p) e f
call_meets p held AttachDue call e a f = by_call (calls.Attach held.target) call (MeetsIn p) e f
call_meets p held (Closing ending) call e a f = back_meets p held ending call held.at_target held.at_source held.gate held.quiet a.0 a.1 e
call_meets p held at call e a f = absurd (cc)

swap_meets : (p : Phase) (held : Held) (at : Due) (b : BackendId) → action_at held at ≡ actions.Swap b → Fits at p → IsIn Out Copying p
swap_meets p held SwapDue b e f = f
swap_meets p held (Closing ending) b e f = absurd (no_swap held ending (owed held) b e)
swap_meets p held at b e f = absurd (cc)

-- at the reply and the end nothing is held
abbrev pub IsLast : RecoveryAction → Type 0
IsLast (actions.Reply outcome status) = Unit {0}
IsLast actions.End = Unit {0}
IsLast action = ⊥

last_meets : (p : Phase) (held : Held) (ending : Ending) (t s : Bool) (gate : GateStanding) (quiet : Quiet) → p.gate ≡ gate → p.quiet ≡ quiet
    → IsLast (closing_action held ending (owed_by t s gate quiet)) → IsIn Out Open p
last_meets p held ending true s gate quiet g q l = absurd l
last_meets p held ending false true gate quiet g q l = absurd l
last_meets p held ending false false InSnapshot quiet g q l = absurd l
last_meets p held ending false false Live quiet g q l = absurd l
last_meets p held ending false false Out Copying g q l = absurd l
last_meets p held ending false false Out Asked g q l = absurd l
last_meets p held ending false false Out Entered g q l = absurd l
last_meets p held ending false false Out Open g q l = (g, q)

nothing_held : (p : Phase) (held : Held) (at : Due) → IsLast (action_at held at) → Agrees p held → IsIn Out Open p
nothing_held p held (Closing ending) l a = last_meets p held ending held.at_target held.at_source held.gate held.quiet a.0 a.1 l
nothing_held p held at l a = absurd l

pub meets : (p : Phase) (r : Standing) (event : SessionEvent) → MayHappen r event → Agrees p r.held → Fits r.due p → Meets p event
meets p r (events.Ordered order) may a f = tt
meets p r (events.Called call answer) may a f = call_meets p r.held r.due call may.0 a f
meets p r (events.Swapped b) may a f = swap_meets p r.held r.due b may f
meets p r (events.Posted b request) may a f = tt
meets p r (events.Taken b answer) may a f = tt
meets p r (events.Faulted b before count) may a f = tt
meets p r (events.Detached b cause answer) may a f = tt
meets p r (events.Replied outcome status) (inl e) a f = nothing_held p r.held r.due (subst IsLast (sym e) tt) a
meets p r (events.Replied outcome status) (inr none) a f = subst (λ at. Fits at p) none.0 f
meets p r events.Ended may a f = nothing_held p r.held r.due (subst IsLast (sym may) tt) a

-- What is due, by the action.

-- at an end that gives nothing back any more, and where none is begun, nothing is held at a source
last_by : (held : Held) (ending : Ending) (t s : Bool) (gate : GateStanding) (quiet : Quiet) → IsLast (closing_action held ending (owed_by t s gate quiet)) → s ≡ false
last_by held ending true s gate quiet l = absurd l
last_by held ending false true gate quiet l = absurd l
last_by held ending false false gate quiet l = refl

pub last_rids : (held : Held) (at : Due) → IsLast (action_at held at) → held.at_source ≡ false
last_rids held (Closing ending) l = last_by held ending held.at_target held.at_source held.gate held.quiet l
last_rids held at l = absurd l

pub is_last : (action : RecoveryAction) (held : Held) (at : Due) → action_at held at ≡ action → IsLast action → IsLast (action_at held at)
is_last action held at e l = subst IsLast (sym e) l

-- only a loss is detached

-- an end waits for nothing
pub closing_waits : (held : Held) (ending : Ending) (o : Owed) (b : BackendId) → closing_action held ending o ≡ actions.WaitFor b → ⊥
closing_waits held ending (Transaction side) b e = absurd (cc)
closing_waits held ending Snapshot b e = absurd (cc)
closing_waits held ending LiveTransaction b e = absurd (cc)
closing_waits held ending TheQuiet b e = absurd (cc)
closing_waits held Attached Nothing b e = absurd (cc)
closing_waits held (Refused code) Nothing b e = absurd (cc)
closing_waits held Leaves Nothing b e = absurd (cc)
