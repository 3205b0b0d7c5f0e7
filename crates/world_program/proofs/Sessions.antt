-- The tests of a session tell just what is due there.
use Rattle.std.proofs.Common.{◌≡◌, true, ◌==◌, Some, None, refl, sym, ap, subst, eqb-true, eq-eqb}
use Rattle.pool_base.specs.declared.backend_id.BackendId.{BackendId}
use Rattle.pool_base.specs.declared.gate_call.GateCall.{GateCall}
use Rattle.pool_base.specs.declared.gate_call.GateAnswer.{GateAnswer}
use Rattle.backend_trait.specs.declared.request.Request.{Request}
use Rattle.session_orders.specs.declared.outcome.Outcome.{Outcome}
use Rattle.session_machine.specs.declared.status.Status.{Status}
use Rattle.session_machine.specs.declared.action.Cause.{Cause}
use Rattle.session_machine.specs.declared.action.Action.{Action}
use Rattle.session_machine.specs.declared.action.Action.TheVariants as actions
use Rattle.session_machine.specs.declared.machine.Point.{Point}
use Rattle.session_machine.specs.declared.machine.Point.TheVariants.{Resting, EnterDue, LookDue, PostDue, Waiting, LostDue, SplitDue, ChooseDue, ShowDue, LeaveSnapshotDue, UnwindDue, EnterCommitDue, LeaveCommitDue, FinishDue, ReplyDue, EndDue}
use Rattle.session_machine.specs.declared.machine.Session.{Session}
use Rattle.session_machine.specs.declared.action.SessionEvent.TheVariants as events
use Rattle.session_machine.specs.Allowed.{answers_call, is_seen_or_granted}
use Rattle.session_machine.specs.Rules.{due, action_at, after, after_at}
use Rattle.session_machine.proofs.Backends.{same_backend}
use Rattle.session_engine.specs.Handing.{handed, asked_of, IsPost, IsDetach, IsReply, Posts, Detaches}
use Rattle.session_engine.specs.Tidying.{tidied}
use Rattle.backend_trait.proofs.Telling.{Tells, both_told, never, itself, told_as}
use Rattle.world_program.specs.Deciding.{is_call_due, post_due, detach_due, is_end_due, is_post, is_detach, is_reply}
use Rattle.world_program.proofs.SameLemmas.{call_told, request_told, cause_told, outcome_told, status_told}

number_told : (a b : BackendId) → Tells (a.number == b.number) (a ≡ b)
number_told a b = (λ e. same_backend a b (eqb-true a.number b.number e), λ e. eq-eqb a.number b.number (ap (λ (x : BackendId). x.number) e))

-- a call
pub call_due : (a : Action) (call : GateCall) (answer : GateAnswer) → Tells (is_call_due (asked_of a) call answer) ((a ≡ actions.Gate call) × (answers_call call answer ≡ true))
call_due (actions.Gate due) call answer =
    both_told _ _ _ _ (told_as _ _ _ (call_told due call) (λ e. ap actions.Gate e) (λ e. let same : due ≡ call = cc in same)) (itself (answers_call call answer))
call_due actions.Rest call answer = never _ (λ h. let e = h.0 in cc)
call_due (actions.Detach b cause) call answer = never _ (λ h. let e = h.0 in cc)
call_due (actions.Post b request) call answer = never _ (λ h. let e = h.0 in cc)
call_due (actions.WaitFor b) call answer = never _ (λ h. let e = h.0 in cc)
call_due (actions.Reply outcome status) call answer = never _ (λ h. let e = h.0 in cc)
call_due actions.End call answer = never _ (λ h. let e = h.0 in cc)

-- a post
pub post_is : (a : Action) (due : BackendId) → post_due (asked_of a) ≡ Some due → IsPost a
post_is (actions.Post b request) due is = tt
post_is actions.Rest due is = absurd (cc)
post_is (actions.Gate call) due is = absurd (cc)
post_is (actions.Detach b cause) due is = absurd (cc)
post_is (actions.WaitFor b) due is = absurd (cc)
post_is (actions.Reply outcome status) due is = absurd (cc)
post_is actions.End due is = absurd (cc)

pub post_told : (a : Action) (due b : BackendId) (made request : Request) → post_due (asked_of a) ≡ Some due → Posts a made → Tells (is_post due made b request) (a ≡ actions.Post b request)
post_told (actions.Post x asked) due b made request is posts =
    let there : x ≡ due = cc in
    told_as _ _ _ (both_told _ _ _ _ (number_told due b) (request_told made request))
    (λ h. let backend : due ≡ b = h.0 in let same : made ≡ request = h.1 in cc)
    (λ e. (let backend : due ≡ b = cc in backend, let same : made ≡ request = cc in same))
post_told actions.Rest due b made request is posts = absurd posts
post_told (actions.Gate call) due b made request is posts = absurd posts
post_told (actions.Detach x cause) due b made request is posts = absurd posts
post_told (actions.WaitFor x) due b made request is posts = absurd posts
post_told (actions.Reply outcome status) due b made request is posts = absurd posts
post_told actions.End due b made request is posts = absurd posts

pub no_post : (a : Action) (b : BackendId) (request : Request) → post_due (asked_of a) ≡ None → a ≡ actions.Post b request → ⊥
no_post a b request none is = let e : post_due (asked_of a) ≡ Some b = ap (λ (x : Action). post_due (asked_of x)) is in cc

-- a detachment
pub detach_is : (a : Action) (due : BackendId) → detach_due (asked_of a) ≡ Some due → IsDetach a
detach_is (actions.Detach b cause) due is = tt
detach_is actions.Rest due is = absurd (cc)
detach_is (actions.Gate call) due is = absurd (cc)
detach_is (actions.Post b request) due is = absurd (cc)
detach_is (actions.WaitFor b) due is = absurd (cc)
detach_is (actions.Reply outcome status) due is = absurd (cc)
detach_is actions.End due is = absurd (cc)

pub detach_told : (a : Action) (due b : BackendId) (made cause : Cause) (answer : GateAnswer) → detach_due (asked_of a) ≡ Some due → Detaches a made
    → Tells (is_detach due made b cause answer) ((a ≡ actions.Detach b cause) × (is_seen_or_granted answer ≡ true))
detach_told (actions.Detach x asked) due b made cause answer is detaches =
    let there : x ≡ due = cc in
    told_as _ _ _ (both_told _ _ _ _ (number_told due b) (both_told _ _ _ _ (cause_told made cause) (itself (is_seen_or_granted answer))))
    (λ h. (let backend : due ≡ b = h.0 in let same : made ≡ cause = h.1.0 in cc, h.1.1))
    (λ h. let e = h.0 in (let backend : due ≡ b = cc in backend, (let same : made ≡ cause = cc in same, h.1)))
detach_told actions.Rest due b made cause answer is detaches = absurd detaches
detach_told (actions.Gate call) due b made cause answer is detaches = absurd detaches
detach_told (actions.Post x request) due b made cause answer is detaches = absurd detaches
detach_told (actions.WaitFor x) due b made cause answer is detaches = absurd detaches
detach_told (actions.Reply outcome status) due b made cause answer is detaches = absurd detaches
detach_told actions.End due b made cause answer is detaches = absurd detaches

pub no_detach : (a : Action) (b : BackendId) (cause : Cause) → detach_due (asked_of a) ≡ None → a ≡ actions.Detach b cause → ⊥
no_detach a b cause none is = let e : detach_due (asked_of a) ≡ Some b = ap (λ (x : Action). detach_due (asked_of x)) is in cc

-- a reply
pub reply_told : (s : Session) (p : Point) (outcome : Outcome) (status : Status) → Tells (is_reply s.status p outcome status) (action_at s p ≡ actions.Reply outcome status)
reply_told s (ReplyDue reply) outcome status =
    told_as _ _ _ (both_told _ _ _ _ (outcome_told reply outcome) (status_told s.status status))
    (λ h. let same : reply ≡ outcome = h.0 in let own : s.status ≡ status = h.1 in cc)
    (λ e. (let same : reply ≡ outcome = cc in same, let own : s.status ≡ status = cc in own))
reply_told s Resting outcome status = never _ (λ e. cc)
reply_told s (EnterDue work) outcome status = never _ (λ e. cc)
reply_told s (LookDue stage) outcome status = never _ (λ e. cc)
reply_told s (PostDue stage b) outcome status = never _ (λ e. cc)
reply_told s (Waiting stage b) outcome status = never _ (λ e. cc)
reply_told s (LostDue stage b before later) outcome status = never _ (λ e. cc)
reply_told s (SplitDue stage best own among more) outcome status = never _ (λ e. cc)
reply_told s (ChooseDue work) outcome status = never _ (λ e. cc)
reply_told s ShowDue outcome status = never _ (λ e. cc)
reply_told s (LeaveSnapshotDue work) outcome status = never _ (λ e. cc)
reply_told s (UnwindDue ending) outcome status = never _ (λ e. cc)
reply_told s EnterCommitDue outcome status = never _ (λ e. cc)
reply_told s (LeaveCommitDue ending) outcome status = never _ (λ e. cc)
reply_told s (FinishDue ending) outcome status = never _ (λ e. cc)
reply_told s EndDue outcome status = never _ (λ e. cc)

-- an end
pub end_told : (a : Action) → Tells (is_end_due (asked_of a)) (a ≡ actions.End)
end_told actions.End = (λ e. refl, λ e. refl)
end_told actions.Rest = never _ (λ e. cc)
end_told (actions.Gate call) = never _ (λ e. cc)
end_told (actions.Detach b cause) = never _ (λ e. cc)
end_told (actions.Post b request) = never _ (λ e. cc)
end_told (actions.WaitFor b) = never _ (λ e. cc)
end_told (actions.Reply outcome status) = never _ (λ e. cc)

-- what is handed out is given
pub post_asked : (a : Action) (b : BackendId) (request : Request) → a ≡ actions.Post b request → IsPost a
post_asked a b request is = subst IsPost (sym is) tt

pub reply_asked : (a : Action) (outcome : Outcome) (status : Status) → a ≡ actions.Reply outcome status → IsReply a
reply_asked a outcome status is = subst IsReply (sym is) tt

pub reply_given : (s : Session) (p : Point) (outcome : Outcome) (status : Status) → action_at s p ≡ actions.Reply outcome status
    → tidied (handed (due s p)) ≡ tidied (after (due s p) (events.Replied outcome status))
unfolding after_at
reply_given s (ReplyDue given) outcome status is = refl
reply_given s Resting outcome status is = absurd (cc)
reply_given s (EnterDue work) outcome status is = absurd (cc)
reply_given s (LookDue stage) outcome status is = absurd (cc)
reply_given s (PostDue stage b) outcome status is = absurd (cc)
reply_given s (Waiting stage b) outcome status is = absurd (cc)
reply_given s (LostDue stage b before later) outcome status is = absurd (cc)
reply_given s (SplitDue stage best own among more) outcome status is = absurd (cc)
reply_given s (ChooseDue work) outcome status is = absurd (cc)
reply_given s ShowDue outcome status is = absurd (cc)
reply_given s (LeaveSnapshotDue work) outcome status is = absurd (cc)
reply_given s (UnwindDue ending) outcome status is = absurd (cc)
reply_given s EnterCommitDue outcome status is = absurd (cc)
reply_given s (LeaveCommitDue ending) outcome status is = absurd (cc)
reply_given s (FinishDue ending) outcome status is = absurd (cc)
reply_given s EndDue outcome status is = absurd (cc)

pub end_given : (s : Session) (p : Point) → action_at s p ≡ actions.End → handed (due s p) ≡ after (due s p) events.Ended
unfolding after_at
end_given s EndDue is = refl
end_given s (ReplyDue given) is = absurd (cc)
end_given s Resting is = absurd (cc)
end_given s (EnterDue work) is = absurd (cc)
end_given s (LookDue stage) is = absurd (cc)
end_given s (PostDue stage b) is = absurd (cc)
end_given s (Waiting stage b) is = absurd (cc)
end_given s (LostDue stage b before later) is = absurd (cc)
end_given s (SplitDue stage best own among more) is = absurd (cc)
end_given s (ChooseDue work) is = absurd (cc)
end_given s ShowDue is = absurd (cc)
end_given s (LeaveSnapshotDue work) is = absurd (cc)
end_given s (UnwindDue ending) is = absurd (cc)
end_given s EnterCommitDue is = absurd (cc)
end_given s (LeaveCommitDue ending) is = absurd (cc)
end_given s (FinishDue ending) is = absurd (cc)
