-- The tests tell just which events may happen.
use Rattle.std.proofs.Common.{◌≡◌, ◌↔◌, ◌⊎◌, ℕ, Bool, true, false, ◌==◌, IsTrue, refl, sym, ◌∙◌, ap, inl, inr}
use Rattle.std.specs.Prelude.{◌&&◌, ◌||◌, nat_lt, nat_le}
use Rattle.std.proofs.lemmas.Bool.{and_from, or_left, or_right, eqb-true, eq-eqb, ltb-true, leb-true, lt-ltb, le-leb}
use Rattle.pool_base.specs.Outside.{Rose}
use Rattle.pool_base.specs.declared.backend_id.BackendId.{BackendId}
use Rattle.pool_base.specs.declared.code.Code.{Code}
use Rattle.pool_base.specs.declared.gate_call.GateCall.TheVariants as calls
use Rattle.pool_base.specs.declared.gate_call.GateAnswer.{GateAnswer}
use Rattle.backend_trait.specs.Acts.{IsOf}
use Rattle.backend_trait.specs.declared.answer.Answer.{Answer}
use Rattle.backend_trait.specs.declared.answer.Answer.TheVariants as answers
use Rattle.session_machine.specs.declared.action.Cause.TheVariants.{Fault, Differs}
use Rattle.session_machine.specs.declared.action.Action.{Action}
use Rattle.session_machine.specs.declared.action.Action.TheVariants as actions
use Rattle.session_machine.specs.declared.action.SessionEvent.TheVariants as events
use Rattle.session_machine.specs.declared.machine.Stage.{Stage}
use Rattle.session_machine.specs.declared.machine.Stage.TheVariants.{Opening, Reading, Running, Locking, Inserting, Committing, Closing, RollingBack}
use Rattle.session_machine.specs.declared.machine.Point.{Point}
use Rattle.session_machine.specs.declared.machine.Point.TheVariants.{Resting, EnterDue, LookDue, PostDue, Waiting, LostDue, SplitDue, ChooseDue, ShowDue, LeaveSnapshotDue, UnwindDue, EnterCommitDue, LeaveCommitDue, FinishDue, ReplyDue, EndDue}
use Rattle.session_machine.specs.declared.machine.Session.{Session}
use Rattle.session_machine.specs.declared.machine.Machine.{Machine}
use Rattle.session_machine.specs.Allowed.{MayHappen, HasForm}
use Rattle.session_machine.specs.Rules.{action_at, next_action, request_of, tables_of}
use Rattle.session_machine.proofs.Backends.{same_backend}
use Rattle.session_engine.specs.Handing.{asked_of, gate_event}
use Rattle.session_machine.specs.Forms.{is_of_opening, is_of_lock, is_of_end, is_of_stage}
use Rattle.session_engine.specs.Testing.{answers_ask, is_heard, rose, is_lost}

never : {X : Type 0} → false ≡ true → X
never e = absurd (cc)

both_true : (t u : Bool) → (t && u) ≡ true → (t ≡ true) × (u ≡ true)
both_true true u e = (refl, e)
both_true false u e = never e

-- a test beside another, each of which tells its own
pub both_told : (t u : Bool) (P : Type 0) → (IsTrue u ↔ P) → IsTrue (t && u) ↔ ((t ≡ true) × P)
both_told true u P told = (λ e. (refl, told.0 e), λ p. told.1 p.1)
both_told false u P told = (λ e. never e, λ p. never p.0)

-- The gate's answers.

answered_only : (m : Machine) (answer : GateAnswer) (a : Action) → next_action m ≡ a → answers_ask (asked_of a) answer ≡ true → MayHappen m (gate_event a answer)
answered_only m answer (actions.Gate call) is told = (is, told)
answered_only m answer (actions.Detach b cause) is told = (is, told)
answered_only m answer actions.Rest is told = never told
answered_only m answer (actions.Post b request) is told = never told
answered_only m answer (actions.WaitFor b) is told = never told
answered_only m answer (actions.Reply outcome status) is told = never told
answered_only m answer actions.End is told = never told

answered_back : (m : Machine) (answer : GateAnswer) (a : Action) → next_action m ≡ a → MayHappen m (gate_event a answer) → answers_ask (asked_of a) answer ≡ true
answered_back m answer (actions.Gate call) is may = may.1
answered_back m answer (actions.Detach b cause) is may = may.1
answered_back m answer actions.Rest is may = absurd (let no : actions.Rest ≡ actions.Gate calls.Look = sym is ∙ may.0 in cc)
answered_back m answer (actions.Post b request) is may = absurd (let no : actions.Post b request ≡ actions.Gate calls.Look = sym is ∙ may.0 in cc)
answered_back m answer (actions.WaitFor b) is may = absurd (let no : actions.WaitFor b ≡ actions.Gate calls.Look = sym is ∙ may.0 in cc)
answered_back m answer (actions.Reply outcome status) is may =
    absurd (let no : actions.Reply outcome status ≡ actions.Gate calls.Look = sym is ∙ may.0 in cc)
answered_back m answer actions.End is may = absurd (let no : actions.End ≡ actions.Gate calls.Look = sym is ∙ may.0 in cc)

pub answered_told : (m : Machine) (answer : GateAnswer) → IsTrue (answers_ask (asked_of (next_action m)) answer) ↔ MayHappen m (gate_event (next_action m) answer)
answered_told m answer = (answered_only m answer (next_action m) refl, answered_back m answer (next_action m) refl)

-- The form of an answer.

opening_only : (answer : Answer) → is_of_opening answer ≡ true → (answer ≡ answers.Began) ⊎ ((code : Code) × (answer ≡ answers.Refused code))
opening_only answers.Began told = inl refl
opening_only (answers.Refused code) told = inr (code, refl)
opening_only answer told = never told

opening_back : (answer : Answer) → (answer ≡ answers.Began) ⊎ ((code : Code) × (answer ≡ answers.Refused code)) → is_of_opening answer ≡ true
opening_back answer (inl e) = rw e refl
opening_back answer (inr p) = rw p.1 refl

lock_only : (answer : Answer) → is_of_lock answer ≡ true → (answer ≡ answers.Locked) ⊎ ((code : Code) × (answer ≡ answers.Refused code))
lock_only answers.Locked told = inl refl
lock_only (answers.Refused code) told = inr (code, refl)
lock_only answer told = never told

lock_back : (answer : Answer) → (answer ≡ answers.Locked) ⊎ ((code : Code) × (answer ≡ answers.Refused code)) → is_of_lock answer ≡ true
lock_back answer (inl e) = rw e refl
lock_back answer (inr p) = rw p.1 refl

end_only : (answer : Answer) → is_of_end answer ≡ true → answer ≡ answers.Done
end_only answers.Done told = refl
end_only answer told = never told

end_back : (answer : Answer) → answer ≡ answers.Done → is_of_end answer ≡ true
end_back answer e = rw e refl

form_only : (stage : Stage) (answer : Answer) → is_of_stage stage answer ≡ true → IsOf (request_of stage) answer
form_only (Opening work) answer told = opening_only answer told
form_only (Reading work ticket) answer told = told
form_only (Running work) answer told = told
form_only (Locking work table) answer told = lock_only answer told
form_only (Inserting work sent) answer told = told
form_only Committing answer told = end_only answer told
form_only Closing answer told = end_only answer told
form_only (RollingBack ending) answer told = end_only answer told

form_back : (stage : Stage) (answer : Answer) → IsOf (request_of stage) answer → is_of_stage stage answer ≡ true
form_back (Opening work) answer form = opening_back answer form
form_back (Reading work ticket) answer form = form
form_back (Running work) answer form = form
form_back (Locking work table) answer form = lock_back answer form
form_back (Inserting work sent) answer form = form
form_back Committing answer form = end_back answer form
form_back Closing answer form = end_back answer form
form_back (RollingBack ending) answer form = end_back answer form

-- The backend that is waited for.

waited_same : (asked b : BackendId) → actions.WaitFor asked ≡ actions.WaitFor b → (asked.number == b.number) ≡ true
waited_same asked b is =
    let same : asked ≡ b = cc in eq-eqb asked.number b.number (ap (λ (c : BackendId). c.number) same)

waited_only : (asked b : BackendId) → (asked.number == b.number) ≡ true → actions.WaitFor asked ≡ actions.WaitFor b
waited_only asked b same = ap actions.WaitFor (same_backend asked b (eqb-true asked.number b.number same))

heard_only : (s : Session) (p : Point) (b : BackendId) (answer : Answer) → is_heard p b answer ≡ true → (action_at s p ≡ actions.WaitFor b) × HasForm p answer
heard_only s (Waiting stage asked) b answer told =
    let (same, form) = both_true (asked.number == b.number) (is_of_stage stage answer) told in
    (waited_only asked b same, form_only stage answer form)
heard_only s p b answer told = never told

heard_back : (s : Session) (p : Point) (b : BackendId) (answer : Answer) → (action_at s p ≡ actions.WaitFor b) × HasForm p answer → is_heard p b answer ≡ true
heard_back s (Waiting stage asked) b answer may =
    and_from (asked.number == b.number) (is_of_stage stage answer) (waited_same asked b may.0) (form_back stage answer may.1)
heard_back s p b answer may = absurd may.1

pub heard_told : (m : Machine) (b : BackendId) (answer : Answer) → IsTrue (is_heard m.point b answer) ↔ MayHappen m (events.Taken b answer)
heard_told m b answer = (heard_only m.session m.point b answer, heard_back m.session m.point b answer)

-- A loss.

either_true : (t u : Bool) → (t || u) ≡ true → (t ≡ true) ⊎ (u ≡ true)
either_true true u e = inl refl
either_true false u e = inr e

rose_of : (x y : ℕ) → (nat_lt x y ≡ true) ⊎ (nat_le 18446744073709551615 y ≡ true) → Rose x y
rose_of x y (inl e) = inl (ltb-true x y e)
rose_of x y (inr e) = inr (leb-true 18446744073709551615 y e)

rose_only : (x y : ℕ) → rose x y ≡ true → Rose x y
rose_only x y told = rose_of x y (either_true (nat_lt x y) (nat_le 18446744073709551615 y) told)

rose_back : (x y : ℕ) → Rose x y → rose x y ≡ true
rose_back x y (inl h) = or_left (nat_lt x y) (nat_le 18446744073709551615 y) (lt-ltb x y h)
rose_back x y (inr h) = or_right (nat_lt x y) (nat_le 18446744073709551615 y) (le-leb 18446744073709551615 y h)

lost_only : (s : Session) (p : Point) (b : BackendId) (x y : ℕ) → is_lost p b x y ≡ true → (action_at s p ≡ actions.WaitFor b) × Rose x y
lost_only s (Waiting stage asked) b x y told =
    let (same, more) = both_true (asked.number == b.number) (rose x y) told in (waited_only asked b same, rose_only x y more)
lost_only s p b x y told = never told

lost_back : (s : Session) (p : Point) (b : BackendId) (x y : ℕ) → (action_at s p ≡ actions.WaitFor b) × Rose x y → is_lost p b x y ≡ true
lost_back s (Waiting stage asked) b x y may = and_from (asked.number == b.number) (rose x y) (waited_same asked b may.0) (rose_back x y may.1)
lost_back s Resting b x y may = absurd (let no : actions.Rest ≡ actions.WaitFor b = may.0 in cc)
lost_back s (EnterDue work) b x y may = absurd (let no : actions.Gate calls.EnterSnapshot ≡ actions.WaitFor b = may.0 in cc)
lost_back s (LookDue stage) b x y may = absurd (let no : actions.Gate calls.Look ≡ actions.WaitFor b = may.0 in cc)
lost_back s (PostDue stage c) b x y may = absurd (let no : actions.Post c (request_of stage) ≡ actions.WaitFor b = may.0 in cc)
lost_back s (LostDue stage c before later) b x y may = absurd (let no : actions.Detach c (Fault before later) ≡ actions.WaitFor b = may.0 in cc)
lost_back s (SplitDue stage best own among more) b x y may = absurd (let no : actions.Detach own.b (Differs best.answer own.answer) ≡ actions.WaitFor b = may.0 in cc)
lost_back s (ChooseDue work) b x y may = absurd (let no : actions.Gate calls.Look ≡ actions.WaitFor b = may.0 in cc)
lost_back s ShowDue b x y may = absurd (let no : actions.Gate calls.Look ≡ actions.WaitFor b = may.0 in cc)
lost_back s (LeaveSnapshotDue work) b x y may = absurd (let no : actions.Gate calls.LeaveSnapshot ≡ actions.WaitFor b = may.0 in cc)
lost_back s (UnwindDue ending) b x y may = absurd (let no : actions.Gate calls.LeaveSnapshot ≡ actions.WaitFor b = may.0 in cc)
lost_back s EnterCommitDue b x y may = absurd (let no : actions.Gate (calls.EnterCommit (tables_of s.gate)) ≡ actions.WaitFor b = may.0 in cc)
lost_back s (LeaveCommitDue ending) b x y may = absurd (let no : actions.Gate calls.LeaveCommit ≡ actions.WaitFor b = may.0 in cc)
lost_back s (FinishDue ending) b x y may = absurd (let no : actions.Gate calls.Finish ≡ actions.WaitFor b = may.0 in cc)
lost_back s (ReplyDue outcome) b x y may = absurd (let no : actions.Reply outcome s.status ≡ actions.WaitFor b = may.0 in cc)
lost_back s EndDue b x y may = absurd (let no : actions.End ≡ actions.WaitFor b = may.0 in cc)

pub lost_told : (m : Machine) (b : BackendId) (x y : ℕ) → IsTrue (is_lost m.point b x y) ↔ MayHappen m (events.Faulted b x y)
lost_told m b x y = (lost_only m.session m.point b x y, lost_back m.session m.point b x y)
