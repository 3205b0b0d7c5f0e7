-- What a recovery keeps to at every event: it fits what is due of it, and its calls meet their conditions.
use Rattle.std.proofs.Common.{◌≡◌, Bool, true, false, List, [], ◌∷◌, inl, inr, refl, sym, subst}
use Rattle.pool_base.specs.declared.session_id.SessionId.{SessionId}
use Rattle.pool_base.specs.declared.backend_id.BackendId.{BackendId}
use Rattle.pool_base.specs.declared.gate_call.GateCall.{GateCall}
use Rattle.pool_base.specs.declared.gate_call.GateCall.TheVariants as calls
use Rattle.session_orders.specs.declared.outcome.Outcome.{Outcome}
use Rattle.session_machine.specs.declared.status.Status.{Status}
use Rattle.session_orders.specs.declared.outcome.Tag.TheVariants as tags
use Rattle.session_machine.specs.Rules.{done_with, error_of}
use Rattle.online_recovery.specs.declared.action.RecoveryAction.{RecoveryAction}
use Rattle.online_recovery.specs.declared.action.RecoveryAction.TheVariants as actions
use Rattle.session_machine.specs.declared.action.SessionEvent.{SessionEvent}
use Rattle.session_machine.specs.declared.action.SessionEvent.TheVariants as events
use Rattle.online_recovery.specs.declared.layout.Layout.{Layout}
use Rattle.online_recovery.specs.declared.standing.Quiet.{Quiet}
use Rattle.online_recovery.specs.declared.standing.Quiet.TheVariants.{Open, Copying, Asked, Entered}
use Rattle.online_recovery.specs.declared.standing.GateStanding.{GateStanding}
use Rattle.online_recovery.specs.declared.standing.GateStanding.TheVariants.{Out, InSnapshot, Live}
use Rattle.online_recovery.specs.declared.standing.Ending.{Ending}
use Rattle.online_recovery.specs.declared.standing.Ending.TheVariants.{Attached, Refused, Leaves}
use Rattle.online_recovery.specs.declared.standing.Owed.{Owed}
use Rattle.online_recovery.specs.declared.standing.Owed.TheVariants.{Transaction, Snapshot, LiveTransaction, TheQuiet, Nothing}
use Rattle.online_recovery.specs.declared.standing.Due.{Due}
use Rattle.online_recovery.specs.declared.standing.Due.TheVariants.{LookDue, StartDue, SwapDue, EnterDue, ShowDue, LeaveSnapshotDue, FinishDue, AskDue, QuietDue, AttachDue, Closing}
use Rattle.online_recovery.specs.declared.standing.Held.{Held}
use Rattle.online_recovery.specs.declared.standing.Standing.{Standing}
use Rattle.online_recovery.specs.State.{new_standing, owed}
use Rattle.online_recovery.specs.Rules.{closing_action, action_at, after_at, after}
use Rattle.online_recovery.specs.Allowed.{FindsNoSpare, MayHappen}
use Rattle.online_recovery.specs.Runs.{IsRun, Phase, outside, phase_after, MeetsIn, Meets, CallsMeet, attached_after, is_done, ReplyMeets, RepliesMeet}
use Rattle.online_recovery.proofs.Fitting.{Agrees, Fits, Good, IsIn, ends_attached, is_attached}
use Rattle.online_recovery.proofs.Proceeding.{detached_good, faulted_good, ordered_good, posted_good, swapped_good, taken_good}
use Rattle.online_recovery.proofs.Calling.{by_call, called_good, owed_by}

-- Every event keeps it.

abbrev StaysGood : Phase → Standing → SessionEvent → Type 0
StaysGood p r event = Good (phase_after p event) (attached_after event (is_attached r.due)) (after r event)

stays_good : (p : Phase) (r : Standing) (event : SessionEvent) → MayHappen r event → Agrees p r.held → Fits r.due p → Meets p event → StaysGood p r event
unfolding after_at
stays_good p r (events.Ordered order) may a f m = ordered_good p r.held r.due order.body may a f
stays_good p r (events.Called call answer) may a f m = called_good p r.held r.due call answer may.0 may.1 a f
stays_good p r (events.Swapped b) may a f m = swapped_good p r.held r.due a f
stays_good p r (events.Posted b request) may a f m = posted_good p r.held r.due a f
stays_good p r (events.Taken b answer) may a f m = taken_good p r.held r.due answer a f
stays_good p r (events.Faulted b before count) may a f m = faulted_good p r.held r.due before count a f
stays_good p r (events.Detached b cause answer) may a f m = detached_good p r.held r.due answer a f
stays_good p r (events.Replied outcome status) may a f m = record { gate = m.0; quiet = m.1; fits = m; told = refl }
stays_good p r events.Ended may a f m = record { gate = m.0; quiet = m.1; fits = m; told = refl }

-- Every event meets its condition.

-- what the end gives back at the gate is held there
back_meets : (p : Phase) (held : Held) (ending : Ending) (call : GateCall) (t s : Bool) (gate : GateStanding) (quiet : Quiet) → p.gate ≡ gate → p.quiet ≡ quiet
    → closing_action held ending (owed_by t s gate quiet) ≡ actions.Gate call → MeetsIn p call
back_meets p held ending call true s gate quiet g q e = absurd (cc)
back_meets p held ending call false true gate quiet g q e = absurd (cc)
back_meets p held ending call false false InSnapshot quiet g q e = by_call calls.LeaveSnapshot call (MeetsIn p) e g
back_meets p held ending call false false Live quiet g q e = by_call calls.Finish call (MeetsIn p) e g
back_meets p held ending call false false Out Copying g q e = by_call calls.LeaveQuiet call (MeetsIn p) e (g, λ o. absurd (cc))
back_meets p held ending call false false Out Asked g q e = by_call calls.LeaveQuiet call (MeetsIn p) e (g, λ o. absurd (cc))
back_meets p held ending call false false Out Entered g q e = by_call calls.LeaveQuiet call (MeetsIn p) e (g, λ o. absurd (cc))
back_meets p held Attached call false false Out Open g q e = absurd (cc)
back_meets p held (Refused code) call false false Out Open g q e = absurd (cc)
back_meets p held Leaves call false false Out Open g q e = absurd (cc)

call_meets : (p : Phase) (held : Held) (at : Due) (call : GateCall) → action_at held at ≡ actions.Gate call → Agrees p held → Fits at p → MeetsIn p call
call_meets p held (LookDue number) call e a f = by_call calls.Look call (MeetsIn p) e tt
call_meets p held StartDue call e a f = by_call calls.StartCopy call (MeetsIn p) e f
call_meets p held EnterDue call e a f = by_call calls.EnterSnapshot call (MeetsIn p) e f
call_meets p held (ShowDue task answer) call e a f = by_call calls.Look call (MeetsIn p) e tt
call_meets p held LeaveSnapshotDue call e a f = by_call calls.LeaveSnapshot call (MeetsIn p) e f.0
call_meets p held FinishDue call e a f = by_call calls.Finish call (MeetsIn p) e f.0
call_meets p held AskDue call e a f = by_call calls.AskQuiet call (MeetsIn p) e f
call_meets p held QuietDue call e a f = by_call calls.EnterQuiet call (MeetsIn p) e f
call_meets p held AttachDue call e a f = by_call (calls.Attach held.target) call (MeetsIn p) e f
call_meets p held (Closing ending) call e a f = back_meets p held ending call held.at_target held.at_source held.gate held.quiet a.0 a.1 e
call_meets p held at call e a f = absurd (cc)

pub no_swap : (held : Held) (ending : Ending) (o : Owed) (b : BackendId) → closing_action held ending o ≡ actions.Swap b → ⊥
no_swap held ending (Transaction side) b e = absurd (cc)
no_swap held ending Snapshot b e = absurd (cc)
no_swap held ending LiveTransaction b e = absurd (cc)
no_swap held ending TheQuiet b e = absurd (cc)
no_swap held Attached Nothing b e = absurd (cc)
no_swap held (Refused code) Nothing b e = absurd (cc)
no_swap held Leaves Nothing b e = absurd (cc)

swap_meets : (p : Phase) (held : Held) (at : Due) (b : BackendId) → action_at held at ≡ actions.Swap b → Fits at p → IsIn Out Copying p
swap_meets p held SwapDue b e f = f
swap_meets p held (Closing ending) b e f = absurd (no_swap held ending (owed held) b e)
swap_meets p held at b e f = absurd (cc)

-- at the reply and the end nothing is held
abbrev IsLast : RecoveryAction → Type 0
IsLast (actions.Reply outcome status) = Unit {0}
IsLast actions.End = Unit {0}
IsLast action = ⊥

last_meets : (p : Phase) (held : Held) (ending : Ending) (t s : Bool) (gate : GateStanding) (quiet : Quiet) → p.gate ≡ gate → p.quiet ≡ quiet
    → IsLast (closing_action held ending (owed_by t s gate quiet)) → IsIn Out Open p
last_meets p held ending true s gate quiet g q l = absurd l
last_meets p held ending false true gate quiet g q l = absurd l
last_meets p held ending false false InSnapshot quiet g q l = absurd l
last_meets p held ending false false Live quiet g q l = absurd l
last_meets p held ending false false Out Copying g q l = absurd l
last_meets p held ending false false Out Asked g q l = absurd l
last_meets p held ending false false Out Entered g q l = absurd l
last_meets p held ending false false Out Open g q l = (g, q)

nothing_held : (p : Phase) (held : Held) (at : Due) → IsLast (action_at held at) → Agrees p held → IsIn Out Open p
nothing_held p held (Closing ending) l a = last_meets p held ending held.at_target held.at_source held.gate held.quiet a.0 a.1 l
nothing_held p held at l a = absurd l

meets : (p : Phase) (r : Standing) (event : SessionEvent) → MayHappen r event → Agrees p r.held → Fits r.due p → Meets p event
meets p r (events.Ordered order) may a f = tt
meets p r (events.Called call answer) may a f = call_meets p r.held r.due call may.0 a f
meets p r (events.Swapped b) may a f = swap_meets p r.held r.due b may f
meets p r (events.Posted b request) may a f = tt
meets p r (events.Taken b answer) may a f = tt
meets p r (events.Faulted b before count) may a f = tt
meets p r (events.Detached b cause answer) may a f = tt
meets p r (events.Replied outcome status) (inl e) a f = nothing_held p r.held r.due (subst IsLast (sym e) tt) a
meets p r (events.Replied outcome status) (inr none) a f = subst (λ at. Fits at p) none.0 f
meets p r events.Ended may a f = nothing_held p r.held r.due (subst IsLast (sym may) tt) a

-- Over a run.

calls_meet : (p : Phase) (attached : Bool) (r : Standing) (es : List SessionEvent) → Good p attached r → IsRun r es → CallsMeet p es
calls_meet p attached r [] g run = tt
calls_meet p attached r (e ∷ es) g run =
    let m = meets p r e run.0 (g.gate, g.quiet) g.fits in
    (m, calls_meet (phase_after p e) _ (after r e) es (stays_good p r e run.0 (g.gate, g.quiet) g.fits m) run.1)

-- the reply at the end says whether the target was attached
ending_told : (held : Held) (ending : Ending) (o : Owed) (outcome : Outcome) (status : Status) → closing_action held ending o ≡ actions.Reply outcome status → is_done outcome ≡ ends_attached ending
ending_told held ending (Transaction side) outcome status e = absurd (cc)
ending_told held ending Snapshot outcome status e = absurd (cc)
ending_told held ending LiveTransaction outcome status e = absurd (cc)
ending_told held ending TheQuiet outcome status e = absurd (cc)
ending_told held Attached Nothing outcome status e = let same : done_with tags.Recover ≡ outcome = cc in subst (λ o. is_done o ≡ true) same refl
ending_told held (Refused code) Nothing outcome status e = let same : error_of code ≡ outcome = cc in subst (λ o. is_done o ≡ false) same refl
ending_told held Leaves Nothing outcome status e = absurd (cc)

reply_told : (held : Held) (at : Due) (outcome : Outcome) (status : Status) → action_at held at ≡ actions.Reply outcome status → is_done outcome ≡ is_attached at
reply_told held (Closing ending) outcome status e = ending_told held ending (owed held) outcome status e
reply_told held at outcome status e = absurd (cc)

spare_told : (at : Due) (outcome : Outcome) (status : Status) → FindsNoSpare at outcome status → is_done outcome ≡ is_attached at
spare_told at outcome status none = subst (λ x. is_done outcome ≡ is_attached x) (sym none.0) (subst (λ o. is_done o ≡ false) (sym none.1) refl)

reply_meets : (r : Standing) (event : SessionEvent) → MayHappen r event → ReplyMeets (is_attached r.due) event
reply_meets r (events.Replied outcome status) (inl e) = reply_told r.held r.due outcome status e
reply_meets r (events.Replied outcome status) (inr none) = spare_told r.due outcome status none
reply_meets r event may = tt

replies_meet : (p : Phase) (attached : Bool) (r : Standing) (es : List SessionEvent) → Good p attached r → IsRun r es → RepliesMeet (is_attached r.due) es
replies_meet p attached r [] g run = tt
replies_meet p attached r (e ∷ es) g run =
    let m = meets p r e run.0 (g.gate, g.quiet) g.fits in
    let next = stays_good p r e run.0 (g.gate, g.quiet) g.fits m in
    (reply_meets r e run.0, subst (λ x. RepliesMeet x es) (sym next.told) (replies_meet (phase_after p e) _ (after r e) es next run.1))

first_good : (id : SessionId) (layout : Layout) → Good outside false (new_standing id layout)
first_good id layout = record { gate = refl; quiet = refl; fits = (refl, refl); told = refl }

pub always_meet : (id : SessionId) (layout : Layout) (es : List SessionEvent) → IsRun (new_standing id layout) es → CallsMeet outside es
always_meet id layout es run = calls_meet outside false (new_standing id layout) es (first_good id layout) run

pub always_told : (id : SessionId) (layout : Layout) (es : List SessionEvent) → IsRun (new_standing id layout) es → RepliesMeet false es
always_told id layout es run = replies_meet outside false (new_standing id layout) es (first_good id layout) run
