-- The tests tell just which events may happen.
use Rattle.std.proofs.Common.{◌≡◌, ◌↔◌, ◌⊎◌, ℕ, ℤ, pos, Bool, true, false, ◌==◌, IsTrue, Result, Ok, Err, IfOk, refl, sym, ◌∙◌, ap, subst, inl, inr}
use Rattle.std.specs.Prelude.{◌&&◌, ◌||◌, ◌≤ℤ◌, nat_lt, nat_le, int_le}
use lib.Signed.{le_z_yes}
use lib.Dec.{T}
use Rattle.std.proofs.lemmas.Bool.{and_from, or_left, or_right, eqb-true, eq-eqb, ltb-true, leb-true, lt-ltb, le-leb}
use Rattle.pool_base.specs.Outside.{Rose}
use Rattle.pool_base.specs.declared.backend_id.BackendId.{BackendId}
use Rattle.pool_base.specs.declared.code.Code.{Code}
use Rattle.pool_base.specs.declared.gate_call.GateCall.TheVariants as calls
use Rattle.pool_base.specs.declared.gate_call.GateAnswer.{GateAnswer}
use Rattle.backend_trait.specs.Acts.{IsOf}
use Rattle.backend_trait.specs.declared.request.Request.{Request}
use Rattle.backend_trait.specs.declared.request.Request.TheVariants as requests
use Rattle.backend_trait.specs.declared.answer.Answer.{Answer}
use Rattle.backend_trait.specs.declared.answer.Answer.TheVariants as answers
use Rattle.session_machine.specs.declared.action.SessionEvent.TheVariants as events
use Rattle.session_machine.specs.Forms.{is_of_opening, is_of_lock, is_of_end}
use Rattle.session_machine.proofs.Backends.{same_backend}
use Rattle.online_recovery.specs.declared.action.RecoveryAction.{RecoveryAction}
use Rattle.online_recovery.specs.declared.action.RecoveryAction.TheVariants as actions
use Rattle.online_recovery.specs.declared.standing.Ending.{Ending}
use Rattle.online_recovery.specs.declared.standing.Ending.TheVariants.{Attached, Refused, Leaves}
use Rattle.online_recovery.specs.declared.standing.Owed.{Owed}
use Rattle.online_recovery.specs.declared.standing.Owed.TheVariants.{Transaction, Snapshot, LiveTransaction, TheQuiet, Nothing}
use Rattle.online_recovery.specs.declared.standing.Due.{Due}
use Rattle.online_recovery.specs.declared.standing.Due.TheVariants.{Waiting, Closing, Undoing}
use Rattle.online_recovery.specs.declared.standing.Held.{Held}
use Rattle.online_recovery.specs.declared.standing.Standing.{Standing}
use Rattle.online_recovery.specs.State.{backend_at, side_of, owed}
use Rattle.online_recovery.specs.Rules.{closing_action, action_at, next_action, request_of}
use Rattle.online_recovery.specs.Allowed.{MayHappen, HasForm}
use Rattle.online_recovery.specs.Asking.{asked_of, gate_event}
use Rattle.online_recovery.specs.Testing.{answers_ask, is_of_serial, is_of, is_heard, rose, is_lost}

never : {X : Type 0} → false ≡ true → X
never e = absurd (cc)

both_true : (t u : Bool) → (t && u) ≡ true → (t ≡ true) × (u ≡ true)
both_true true u e = (refl, e)
both_true false u e = never e

-- The gate's answers.

answered_only : (s : Standing) (answer : GateAnswer) (a : RecoveryAction) → next_action s ≡ a → answers_ask (asked_of a) answer ≡ true → MayHappen s (gate_event a answer)
answered_only s answer (actions.Gate call) is told = (is, told)
answered_only s answer (actions.Detach b cause) is told = (is, told)
answered_only s answer actions.Rest is told = never told
answered_only s answer (actions.Swap b) is told = never told
answered_only s answer (actions.Post b request) is told = never told
answered_only s answer (actions.WaitFor b) is told = never told
answered_only s answer (actions.Reply outcome status) is told = never told
answered_only s answer actions.End is told = never told

answered_back : (s : Standing) (answer : GateAnswer) (a : RecoveryAction) → next_action s ≡ a → MayHappen s (gate_event a answer) → answers_ask (asked_of a) answer ≡ true
answered_back s answer (actions.Gate call) is may = may.1
answered_back s answer (actions.Detach b cause) is may = may.1
answered_back s answer actions.Rest is may = absurd (let no : actions.Rest ≡ actions.Gate calls.Look = sym is ∙ may.0 in cc)
answered_back s answer (actions.Swap b) is may = absurd (let no : actions.Swap b ≡ actions.Gate calls.Look = sym is ∙ may.0 in cc)
answered_back s answer (actions.Post b request) is may = absurd (let no : actions.Post b request ≡ actions.Gate calls.Look = sym is ∙ may.0 in cc)
answered_back s answer (actions.WaitFor b) is may = absurd (let no : actions.WaitFor b ≡ actions.Gate calls.Look = sym is ∙ may.0 in cc)
answered_back s answer (actions.Reply outcome status) is may =
    absurd (let no : actions.Reply outcome status ≡ actions.Gate calls.Look = sym is ∙ may.0 in cc)
answered_back s answer actions.End is may = absurd (let no : actions.End ≡ actions.Gate calls.Look = sym is ∙ may.0 in cc)

pub answered_told : (s : Standing) (answer : GateAnswer) → IsTrue (answers_ask (asked_of (next_action s)) answer) ↔ MayHappen s (gate_event (next_action s) answer)
answered_told s answer = (answered_only s answer (next_action s) refl, answered_back s answer (next_action s) refl)

-- The form of an answer.

opening_only : (answer : Answer) → is_of_opening answer ≡ true → (answer ≡ answers.Began) ⊎ ((code : Code) × (answer ≡ answers.Refused code))
opening_only answers.Began told = inl refl
opening_only (answers.Refused code) told = inr (code, refl)
opening_only answer told = never told

opening_back : (answer : Answer) → (answer ≡ answers.Began) ⊎ ((code : Code) × (answer ≡ answers.Refused code)) → is_of_opening answer ≡ true
opening_back answer (inl e) = rw e refl
opening_back answer (inr p) = rw p.1 refl

lock_only : (answer : Answer) → is_of_lock answer ≡ true → (answer ≡ answers.Locked) ⊎ ((code : Code) × (answer ≡ answers.Refused code))
lock_only answers.Locked told = inl refl
lock_only (answers.Refused code) told = inr (code, refl)
lock_only answer told = never told

lock_back : (answer : Answer) → (answer ≡ answers.Locked) ⊎ ((code : Code) × (answer ≡ answers.Refused code)) → is_of_lock answer ≡ true
lock_back answer (inl e) = rw e refl
lock_back answer (inr p) = rw p.1 refl

end_only : (answer : Answer) → is_of_end answer ≡ true → answer ≡ answers.Done
end_only answers.Done told = refl
end_only answer told = never told

end_back : (answer : Answer) → answer ≡ answers.Done → is_of_end answer ≡ true
end_back answer e = rw e refl

true_told : (t : Bool) → T t → t ≡ true
true_told true holds = refl
true_told false holds = absurd holds

serial_only : (answer : Answer) → is_of_serial answer ≡ true → (n : ℤ) × (pos 1 ≤ℤ n) × (answer ≡ answers.Serial n)
serial_only (answers.Serial n) told = (n, le_z_yes (subst T (sym told) tt), refl)
serial_only answer told = never told

serial_back : (answer : Answer) → (n : ℤ) × (pos 1 ≤ℤ n) × (answer ≡ answers.Serial n) → is_of_serial answer ≡ true
serial_back answer h = rw h.2 (true_told (int_le (pos 1) h.0) h.1.le)

form_only : (request : Request) (answer : Answer) → is_of request answer ≡ true → IsOf request answer
form_only requests.TakeSnapshot answer told = opening_only answer told
form_only (requests.Run checked) answer told = told
form_only (requests.Lock table) answer told = lock_only answer told
form_only requests.Commit answer told = end_only answer told
form_only requests.Rollback answer told = end_only answer told
form_only (requests.ReadSerial table) answer told = serial_only answer told
form_only (requests.SetSerial table n) answer told = end_only answer told

form_back : (request : Request) (answer : Answer) → IsOf request answer → is_of request answer ≡ true
form_back requests.TakeSnapshot answer form = opening_back answer form
form_back (requests.Run checked) answer form = form
form_back (requests.Lock table) answer form = lock_back answer form
form_back requests.Commit answer form = end_back answer form
form_back requests.Rollback answer form = end_back answer form
form_back (requests.ReadSerial table) answer form = serial_back answer form
form_back (requests.SetSerial table n) answer form = end_back answer form

-- The backend that is waited for.

waited_same : (asked b : BackendId) → actions.WaitFor asked ≡ actions.WaitFor b → (asked.number == b.number) ≡ true
waited_same asked b is =
    let same : asked ≡ b = cc in eq-eqb asked.number b.number (ap (λ (c : BackendId). c.number) same)

waited_only : (asked b : BackendId) → (asked.number == b.number) ≡ true → actions.WaitFor asked ≡ actions.WaitFor b
waited_only asked b same = ap actions.WaitFor (same_backend asked b (eqb-true asked.number b.number same))

heard_only : (held : Held) (at : Due) (b : BackendId) (answer : Answer) → is_heard held at b answer ≡ true → (action_at held at ≡ actions.WaitFor b) × HasForm held at answer
heard_only held (Waiting task) b answer told =
    let (same, form) = both_true ((backend_at held (side_of task)).number == b.number) (is_of (request_of held.layout.tables task) answer) told in
    (waited_only (backend_at held (side_of task)) b same, form_only (request_of held.layout.tables task) answer form)
heard_only held (Undoing side ending) b answer told =
    let (same, form) = both_true ((backend_at held side).number == b.number) (is_of requests.Rollback answer) told in
    (waited_only (backend_at held side) b same, form_only requests.Rollback answer form)
heard_only held at b answer told = never told

heard_back : (held : Held) (at : Due) (b : BackendId) (answer : Answer) → (action_at held at ≡ actions.WaitFor b) × HasForm held at answer → is_heard held at b answer ≡ true
heard_back held (Waiting task) b answer may =
    and_from ((backend_at held (side_of task)).number == b.number) (is_of (request_of held.layout.tables task) answer)
    (waited_same (backend_at held (side_of task)) b may.0) (form_back (request_of held.layout.tables task) answer may.1)
heard_back held (Undoing side ending) b answer may =
    and_from ((backend_at held side).number == b.number) (is_of requests.Rollback answer)
    (waited_same (backend_at held side) b may.0) (form_back requests.Rollback answer may.1)
heard_back held at b answer may = absurd may.1

pub heard_told : (s : Standing) (b : BackendId) (answer : Answer) → IsTrue (is_heard s.held s.due b answer) ↔ MayHappen s (events.Taken b answer)
heard_told s b answer = (heard_only s.held s.due b answer, heard_back s.held s.due b answer)

-- A loss.

either_true : (t u : Bool) → (t || u) ≡ true → (t ≡ true) ⊎ (u ≡ true)
either_true true u e = inl refl
either_true false u e = inr e

rose_of : (x y : ℕ) → (nat_lt x y ≡ true) ⊎ (nat_le 18446744073709551615 y ≡ true) → Rose x y
rose_of x y (inl e) = inl (ltb-true x y e)
rose_of x y (inr e) = inr (leb-true 18446744073709551615 y e)

rose_only : (x y : ℕ) → rose x y ≡ true → Rose x y
rose_only x y told = rose_of x y (either_true (nat_lt x y) (nat_le 18446744073709551615 y) told)

rose_back : (x y : ℕ) → Rose x y → rose x y ≡ true
rose_back x y (inl h) = or_left (nat_lt x y) (nat_le 18446744073709551615 y) (lt-ltb x y h)
rose_back x y (inr h) = or_right (nat_lt x y) (nat_le 18446744073709551615 y) (le-leb 18446744073709551615 y h)

lost_only : (held : Held) (at : Due) (b : BackendId) (x y : ℕ) → is_lost held at b x y ≡ true → (action_at held at ≡ actions.WaitFor b) × Rose x y
lost_only held (Waiting task) b x y told =
    let (same, more) = both_true ((backend_at held (side_of task)).number == b.number) (rose x y) told in
    (waited_only (backend_at held (side_of task)) b same, rose_only x y more)
lost_only held (Undoing side ending) b x y told =
    let (same, more) = both_true ((backend_at held side).number == b.number) (rose x y) told in (waited_only (backend_at held side) b same, rose_only x y more)
lost_only held at b x y told = never told

-- the end waits for nobody
no_wait : {X : Type 0} (held : Held) (ending : Ending) (o : Owed) (b : BackendId) → closing_action held ending o ≡ actions.WaitFor b → X
no_wait held ending (Transaction side) b e = absurd (cc)
no_wait held ending Snapshot b e = absurd (cc)
no_wait held ending LiveTransaction b e = absurd (cc)
no_wait held ending TheQuiet b e = absurd (cc)
no_wait held Attached Nothing b e = absurd (cc)
no_wait held (Refused code) Nothing b e = absurd (cc)
no_wait held Leaves Nothing b e = absurd (cc)

lost_at : (held : Held) (at : Due) (b : BackendId) (x y : ℕ) → action_at held at ≡ actions.WaitFor b → Rose x y → is_lost held at b x y ≡ true
lost_at held (Waiting task) b x y e more = and_from ((backend_at held (side_of task)).number == b.number) (rose x y) (waited_same (backend_at held (side_of task)) b e) (rose_back x y more)
lost_at held (Undoing side ending) b x y e more = and_from ((backend_at held side).number == b.number) (rose x y) (waited_same (backend_at held side) b e) (rose_back x y more)
lost_at held (Closing ending) b x y e more = no_wait held ending (owed held) b e
lost_at held at b x y e more = absurd (cc)

pub lost_told : (s : Standing) (b : BackendId) (x y : ℕ) → IsTrue (is_lost s.held s.due b x y) ↔ MayHappen s (events.Faulted b x y)
lost_told s b x y = (lost_only s.held s.due b x y, λ may. lost_at s.held s.due b x y may.0 may.1)

pub heard_if : {E : Type 0} (result : Result Bool E) (s : Standing) (b : BackendId) (answer : Answer) → IfOk result (λ heard. heard ≡ is_heard s.held s.due b answer)
    → IfOk result (λ may. IsTrue may ↔ MayHappen s (events.Taken b answer))
heard_if (Ok heard) s b answer is = rw is (heard_told s b answer)
heard_if (Err e) s b answer is = is
