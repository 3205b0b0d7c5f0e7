-- What the events of a session and of a store leave of what is awaited and of what lives.
use Rattle.std.proofs.Common.{◌≡◌, ◌≢◌, ℕ, ◌<◌, Bool, true, false, refl, sym, ap, ◌∙◌, inl, inr}
use Rattle.std.specs.Prelude.{◌+◌, ◌^◌, Option, Some, None, is_some, if◌then◌else◌, nat_lt, nat_le, ◌==◌, ◌||◌}
use Rattle.pool_base.specs.Sets.{has, without}
use Rattle.pool_base.proofs.Finite.{without_members}
use Rattle.pool_base.specs.declared.backend_id.BackendId.{BackendId}
use Rattle.pool_base.specs.declared.gate_call.GateCall.{GateCall}
use Rattle.pool_base.specs.declared.gate_call.GateCall.TheVariants as calls
use Rattle.pool_base.specs.declared.gate_call.GateAnswer.{GateAnswer}
use Rattle.backend_trait.specs.declared.request.Request.{Request}
use Rattle.backend_trait.specs.declared.request.Request.TheVariants as requests
use Rattle.backend_trait.specs.declared.answer.Answer.{Answer}
use Rattle.backend_trait.specs.Rows.{with_at}
use Rattle.backend_trait.specs.Store.{Live, Transaction, Absent, Alive, Dead, Pending, Store, is_refusal, answered, refused, committed_by, made_stale, where_live}
use Rattle.backend_trait.specs.Acting.{acted_by}
use Rattle.snapshot_gate.specs.declared.state.GateState.{GateState}
use Rattle.snapshot_gate.specs.Function.{step, view_of, grant, refuse}
use Rattle.pool_base.specs.declared.gate_call.GateAnswer.TheVariants.{Seen, Held, Spent}
use Rattle.session_machine.specs.declared.action.Action.TheVariants as actions
use Rattle.session_machine.specs.declared.action.Cause.{Cause}
use Rattle.session_orders.specs.declared.outcome.Outcome.{Outcome}
use Rattle.session_machine.specs.declared.status.Status.{Status}
use Rattle.session_machine.specs.declared.machine.Session.{Session}
use Rattle.session_machine.specs.declared.machine.Stage.{Stage}
use Rattle.session_machine.specs.declared.machine.Stage.TheVariants.{Opening, Reading, Running, Locking, Inserting, Committing, Closing, RollingBack}
use Rattle.session_machine.specs.declared.machine.Point.{Point}
use Rattle.session_machine.specs.declared.machine.Point.TheVariants.{PostDue, Waiting, LostDue}
use Rattle.session_machine.specs.Allowed.{answers_call}
use Rattle.session_machine.specs.Rules.{action_at, stage_posted, posted as machine_posted, faulted}
use Rattle.one_copy_model.specs.Marks.{with_mark}
use Rattle.one_copy_model.specs.World.{IsPending}
use Rattle.one_copy_model.specs.Deaths.{is_live, stage_at}
use Rattle.one_copy_model.specs.Own.{IsIn}
use Rattle.one_copy_model.proofs.Places.{same_or_other, with_at-same, with_at-other}
use Rattle.one_copy_laws.proofs.ActsRunning.{itself}
use Rattle.one_copy_laws.specs.Posts.{awaited_at}
use Rattle.one_copy_laws.proofs.PostsSteps.{Closes, no_close}

-- What a session's events leave of what is awaited, by the point that was due.

pub not_both : {found : Option ℕ} {b : ℕ} → found ≡ None → found ≡ Some b → ⊥
not_both e f = let z = sym e ∙ f in cc

pub call_free : (session : Session) (point : Point) (call : GateCall) → action_at session point ≡ actions.Gate call → awaited_at point ≡ None
call_free session (Waiting stage b) call e = absurd (cc)
call_free session (LostDue stage b before more) call e = absurd (cc)
call_free session point call e = refl

pub post_free : (session : Session) (point : Point) (b : BackendId) (request : Request) → action_at session point ≡ actions.Post b request → awaited_at point ≡ None
post_free session (Waiting stage c) b request e = absurd (cc)
post_free session (LostDue stage c before more) b request e = absurd (cc)
post_free session point b request e = refl

pub reply_free : (session : Session) (point : Point) (outcome : Outcome) (status : Status) → action_at session point ≡ actions.Reply outcome status → awaited_at point ≡ None
reply_free session (Waiting stage c) outcome status e = absurd (cc)
reply_free session (LostDue stage c before more) outcome status e = absurd (cc)
reply_free session point outcome status e = refl

pub end_free : (session : Session) (point : Point) → action_at session point ≡ actions.End → awaited_at point ≡ None
end_free session (Waiting stage c) e = absurd (cc)
end_free session (LostDue stage c before more) e = absurd (cc)
end_free session point e = refl

pub detach_awaits : (session : Session) (point : Point) (b : BackendId) (cause : Cause) (c : ℕ) → action_at session point ≡ actions.Detach b cause
    → awaited_at point ≡ Some c → c ≡ b.number
detach_awaits session (LostDue stage d before more) b cause c e f =
    let one : c ≡ d.number = cc in
    let two : d ≡ b = cc in
    one ∙ ap (λ (x : BackendId). x.number) two
detach_awaits session (Waiting stage d) b cause c e f = absurd (cc)
detach_awaits session point b cause c e f = absurd (let z : None ≡ Some c = f in cc)

posted_closing : (stage : Stage) → Some (stage_posted stage) ≡ Some Closing → Some stage ≡ Some Closing
posted_closing (Inserting work posted) e = absurd (no_close e refl)
posted_closing (Opening work) e = e
posted_closing (Reading work ticket) e = e
posted_closing (Running work) e = e
posted_closing (Locking work table) e = e
posted_closing Committing e = e
posted_closing Closing e = e
posted_closing (RollingBack ending) e = e

pub posted_on : (session : Session) (point : Point) → Closes (machine_posted session point)
    → (stage_at point ≡ Some Closing) × ((machine_posted session point).session.heard ≡ session.heard)
posted_on session (PostDue stage b) e = (posted_closing stage e, refl)
posted_on session point e = (e, refl)

pub posted_awaits : (session : Session) (point : Point) (b : BackendId) (request : Request) → action_at session point ≡ actions.Post b request
    → awaited_at (machine_posted session point).point ≡ Some b.number
posted_awaits session (PostDue stage c) b request e = let same : c ≡ b = cc in ap (λ (x : BackendId). Some x.number) same
posted_awaits session point b request e = absurd (cc)

pub faulted_stage : (session : Session) (before more : ℕ) (point : Point) → stage_at (faulted session before more point).point ≡ stage_at point
faulted_stage session before more (Waiting stage b) = refl
faulted_stage session before more point = refl

pub faulted_heard : (session : Session) (before more : ℕ) (point : Point) → (faulted session before more point).session.heard ≡ session.heard
faulted_heard session before more (Waiting stage b) = refl
faulted_heard session before more point = refl

pub faulted_awaits : (session : Session) (before more : ℕ) (point : Point) → awaited_at (faulted session before more point).point ≡ awaited_at point
faulted_awaits session before more (Waiting stage b) = refl
faulted_awaits session before more point = refl

-- No call of a session changes who is attached.

entered_keeps : (v w x : Bool) (g : GateState)
    → (if v then refuse g (Held g.commits) else if w then refuse g (Held g.quiet) else if x then refuse g Spent else grant g calls.EnterSnapshot).0.attached ≡ g.attached
entered_keeps true w x g = refl
entered_keeps false true x g = refl
entered_keeps false false true g = refl
entered_keeps false false false g = refl

commit_keeps : (v : Bool) (g : GateState) (tables : ℕ) → (if v then refuse g (Held g.snaps) else grant g (calls.EnterCommit tables)).0.attached ≡ g.attached
commit_keeps true g tables = refl
commit_keeps false g tables = refl

pub call_keeps : (g : GateState) (call : GateCall) (answer : GateAnswer) → answers_call call answer ≡ true → (step g call).0.attached ≡ g.attached
call_keeps g calls.Look answer e = refl
call_keeps g calls.EnterSnapshot answer e =
    entered_keeps (nat_lt 0 g.commits) (nat_le 2 g.quiet) ((g.snaps + g.live == 65535) || (g.done + g.snaps + g.live == 2 ^ 63)) g
call_keeps g calls.LeaveSnapshot answer e = refl
call_keeps g (calls.EnterCommit tables) answer e = commit_keeps (nat_lt 0 g.snaps) g tables
call_keeps g calls.LeaveCommit answer e = refl
call_keeps g calls.Finish answer e = refl
call_keeps g (calls.Detach b) answer e = absurd (let z : false ≡ true = e in cc)
call_keeps g calls.StartCopy answer e = absurd (let z : false ≡ true = e in cc)
call_keeps g calls.AskQuiet answer e = absurd (let z : false ≡ true = e in cc)
call_keeps g calls.EnterQuiet answer e = absurd (let z : false ≡ true = e in cc)
call_keeps g (calls.Attach b) answer e = absurd (let z : false ≡ true = e in cc)
call_keeps g calls.LeaveQuiet answer e = absurd (let z : false ≡ true = e in cc)

-- Who is detached is not attached.

pub detached_out : (g : GateState) (b : BackendId) → g.attached.bits < 256 → (v : Bool) → has g.attached.bits b.number ≡ v
    → IsIn (if v then grant g (calls.Detach b) else refuse g (Seen (view_of g))).0.attached.bits b.number → ⊥
detached_out g b few true e f =
    let out : has (without g.attached.bits b.number) b.number ≡ (if (b.number == b.number) then false else has g.attached.bits b.number) =
    without_members g.attached.bits b.number few b.below_8 b.number b.below_8 in
    let z : true ≡ false = sym f ∙ out ∙ ap (λ (y : Bool). if y then false else has g.attached.bits b.number) (itself b.number) in cc
detached_out g b few false e f = let z : false ≡ true = sym e ∙ f in cc

-- Marks and answers of a store.

pub mark_waits : (st : Store) (s : ℕ) (found : Option Pending) → is_some (with_mark st s found) ≡ true → is_some found ≡ true
mark_waits st s None e = e
mark_waits st s (Some p) e = refl

fewer_wait : (pending : ℕ → Option Pending) (s o : ℕ) → is_some (with_at pending s None o) ≡ true → is_some (pending o) ≡ true
fewer_wait pending s o e = elim (same_or_other o s) [
  | inl is ↦ absurd (let z : false ≡ true = sym (ap is_some (ap (with_at pending s None) is ∙ with_at-same pending s None)) ∙ e in cc)
  | inr other ↦ sym (ap is_some (with_at-other pending s None o other)) ∙ e
]

committed_waits : (st : Store) (s o : ℕ) (x : Transaction) → IsPending (committed_by st s x) o → IsPending st o
committed_waits st s o Absent e = fewer_wait st.pending s o e
committed_waits st s o (Alive t) e = fewer_wait st.pending s o e
committed_waits st s o Dead e = fewer_wait st.pending s o e

answered_waits : (st : Store) (s o : ℕ) (request : Request) → IsPending (answered st s request) o → IsPending st o
answered_waits st s o requests.TakeSnapshot e = fewer_wait st.pending s o e
answered_waits st s o (requests.Run checked) e = fewer_wait st.pending s o e
answered_waits st s o (requests.Lock table) e = fewer_wait st.pending s o e
answered_waits st s o requests.Commit e = committed_waits st s o (st.transaction s) e
answered_waits st s o requests.Rollback e = fewer_wait st.pending s o e
answered_waits st s o (requests.ReadSerial table) e = fewer_wait st.pending s o e
answered_waits st s o (requests.SetSerial table n) e = fewer_wait st.pending s o e

acts_wait : (v : Bool) (st : Store) (s o : ℕ) (request : Request) → IsPending (if v then refused st s request else answered st s request) o → IsPending st o
acts_wait true st s o request e = fewer_wait st.pending s o e
acts_wait false st s o request e = answered_waits st s o request e

pub acted_waits : (st : Store) (s o : ℕ) (answer : Answer) (found : Option Pending) → IsPending (acted_by st s answer found) o → IsPending st o
acted_waits st s o answer None e = e
acted_waits st s o answer (Some p) e = acts_wait (is_refusal answer) st s o p.request e

stale_live : (f : Live → Live) (x : Transaction) → is_live x ≡ true → is_live (where_live f x) ≡ true
stale_live f (Alive t) e = refl
stale_live f x e = absurd (let z : false ≡ true = e in cc)

other_live : (transaction : ℕ → Transaction) (s o : ℕ) (x : Transaction) → o ≢ s → is_live (transaction o) ≡ true → is_live (with_at transaction s x o) ≡ true
other_live transaction s o x other e = ap is_live (with_at-other transaction s x o other) ∙ e

committed_live : (st : Store) (s o : ℕ) (x : Transaction) → o ≢ s → is_live (st.transaction o) ≡ true → is_live ((committed_by st s x).transaction o) ≡ true
committed_live st s o Absent other e = other_live st.transaction s o Absent other e
committed_live st s o (Alive t) other e =
    other_live (λ k. where_live (made_stale t.changes) (st.transaction k)) s o Absent other (stale_live (made_stale t.changes) (st.transaction o) e)
committed_live st s o Dead other e = other_live st.transaction s o Absent other e

answered_live : (st : Store) (s o : ℕ) (request : Request) → o ≢ s → is_live (st.transaction o) ≡ true → is_live ((answered st s request).transaction o) ≡ true
answered_live st s o requests.TakeSnapshot other e = other_live st.transaction s o _ other e
answered_live st s o (requests.Run checked) other e = other_live st.transaction s o _ other e
answered_live st s o (requests.Lock table) other e = other_live st.transaction s o _ other e
answered_live st s o requests.Commit other e = committed_live st s o (st.transaction s) other e
answered_live st s o requests.Rollback other e = other_live st.transaction s o _ other e
answered_live st s o (requests.ReadSerial table) other e = other_live st.transaction s o _ other e
answered_live st s o (requests.SetSerial table n) other e = other_live st.transaction s o _ other e

acts_live : (v : Bool) (st : Store) (s o : ℕ) (request : Request) → o ≢ s → is_live (st.transaction o) ≡ true
    → is_live ((if v then refused st s request else answered st s request).transaction o) ≡ true
acts_live true st s o request other e = other_live st.transaction s o Dead other e
acts_live false st s o request other e = answered_live st s o request other e

pub acted_live : (st : Store) (s o : ℕ) (answer : Answer) (found : Option Pending) → o ≢ s → is_live (st.transaction o) ≡ true
    → is_live ((acted_by st s answer found).transaction o) ≡ true
acted_live st s o answer None other e = e
acted_live st s o answer (Some p) other e = acts_live (is_refusal answer) st s o p.request other e
