-- What a recovery has asked and not taken is what it waits for: one request, at one backend.
use Rattle.std.proofs.Common.{◌≡◌, ℕ, Bool, true, false, refl, sym, ap, subst, ◌∙◌, inl, inr}
use Rattle.std.specs.Prelude.{is_some, Option, Some, None}
use Rattle.pool_base.specs.declared.session_id.SessionId.{SessionId}
use Rattle.pool_base.specs.declared.backend_id.BackendId.{BackendId}
use Rattle.backend_trait.specs.declared.request.Request.{Request}
use Rattle.backend_trait.specs.declared.request.Request.TheVariants as requests
use Rattle.backend_trait.specs.declared.answer.Answer.{Answer}
use Rattle.backend_trait.specs.Rows.{with_at}
use Rattle.session_orders.specs.declared.order.OrderBody.{OrderBody}
use Rattle.session_orders.specs.declared.order.OrderBody.TheVariants as orders
use Rattle.session_machine.specs.declared.action.SessionEvent.{SessionEvent}
use Rattle.session_machine.specs.declared.action.SessionEvent.TheVariants as events
use Rattle.online_recovery.specs.declared.action.RecoveryAction.{RecoveryAction}
use Rattle.online_recovery.specs.declared.action.RecoveryAction.TheVariants as actions
use Rattle.online_recovery.specs.declared.standing.Ending.{Ending}
use Rattle.online_recovery.specs.declared.standing.Ending.TheVariants.{Attached, Refused, Leaves}
use Rattle.online_recovery.specs.declared.standing.Owed.{Owed}
use Rattle.online_recovery.specs.declared.standing.Owed.TheVariants.{Transaction, Snapshot, LiveTransaction, TheQuiet, Nothing}
use Rattle.online_recovery.specs.declared.standing.Due.{Due}
use Rattle.online_recovery.specs.declared.standing.Due.TheVariants.{PostDue, Waiting, Closing, Undoing}
use Rattle.online_recovery.specs.declared.standing.Held.{Held}
use Rattle.online_recovery.specs.declared.standing.Standing.{Standing}
use Rattle.online_recovery.specs.State.{backend_at, side_of, owed}
use Rattle.online_recovery.specs.Rules.{request_of, closing_action, action_at, next_action, undone, posted, after_at, after as recovery_after}
use Rattle.online_recovery.specs.Allowed.{may_order}
use Rattle.one_copy_model.proofs.Places.{each_at, each_at2}
use Rattle.recovery_laws.specs.declared.step.Step.{Step}
use Rattle.recovery_laws.specs.declared.step.Step.TheVariants.{Serve, Recover, Answer as Answers}
use Rattle.recovery_laws.specs.Pool.{Pool, answered, after, MayStep}

-- the backend that it waits for
abbrev pub WaitsAt : Held → Due → ℕ → Type 0
WaitsAt held (Waiting task) b = (backend_at held (side_of task)).number ≡ b
WaitsAt held (Undoing side ending) b = (backend_at held side).number ≡ b
WaitsAt held at b = ⊥

abbrev pub AsksFor : Held → Due → Request → Type 0
AsksFor held (Waiting task) request = request ≡ request_of held.layout.tables task
AsksFor held (Undoing side ending) request = request ≡ requests.Rollback
AsksFor held at request = ⊥

pub record IsLine (r : Standing) (asked : ℕ → Option Request) (told : ℕ → Option Answer) : Type 0 where
  pub asks : (b : ℕ) (request : Request) → asked b ≡ Some request → WaitsAt r.held r.due b × AsksFor r.held r.due request
  pub tells : (b : ℕ) (answer : Answer) → told b ≡ Some answer → WaitsAt r.held r.due b × ((k : ℕ) → asked k ≡ None)

-- it waits at one backend
one_place : (held : Held) (at : Due) (b k : ℕ) → WaitsAt held at b → WaitsAt held at k → b ≡ k
one_place held (Waiting task) b k e f = sym e ∙ f
one_place held (Undoing side ending) b k e f = sym e ∙ f
one_place held at b k e f = absurd e

abbrev is_wait : RecoveryAction → Bool
is_wait (actions.WaitFor b) = true
is_wait action = false

closing_waits : (held : Held) (ending : Ending) (o : Owed) → is_wait (closing_action held ending o) ≡ false
closing_waits held ending (Transaction side) = refl
closing_waits held ending Snapshot = refl
closing_waits held ending LiveTransaction = refl
closing_waits held ending TheQuiet = refl
closing_waits held Attached Nothing = refl
closing_waits held (Refused code) Nothing = refl
closing_waits held Leaves Nothing = refl

-- nothing is waited for where something else is due
no_wait : (held : Held) (at : Due) (b : ℕ) → is_wait (action_at held at) ≡ false → WaitsAt held at b → ⊥
no_wait held (Waiting task) b never e = let z : true ≡ false = never in cc
no_wait held (Undoing side ending) b never e = let z : true ≡ false = never in cc
no_wait held at b never e = e

none_by : {A : Type 0} (x : Option A) → ((y : A) → x ≡ Some y → ⊥) → x ≡ None
none_by None f = refl
none_by (Some y) f = absurd (f y refl)

some_no : {A : Type 0} {P : Type 0} (x : Option A) (y : A) → x ≡ None → x ≡ Some y → P
some_no x y none is = absurd (let z : None ≡ Some y = sym none ∙ is in cc)

empty_line : (r : Standing) (asked : ℕ → Option Request) (told : ℕ → Option Answer) → ((b : ℕ) → asked b ≡ None) → ((b : ℕ) → told b ≡ None) → IsLine r asked told
empty_line r asked told never none = record {
  asks = λ b request e. some_no (asked b) request (never b) e;
  tells = λ b answer e. some_no (told b) answer (none b) e;
}

module _ (r : Standing) (asked : ℕ → Option Request) (told : ℕ → Option Answer) (h : IsLine r asked told) where
  unasked : is_wait (next_action r) ≡ false → (b : ℕ) → asked b ≡ None
  unasked never b = none_by (asked b) (λ request e. no_wait r.held r.due b never (h.asks b request e).0)

  untold : is_wait (next_action r) ≡ false → (b : ℕ) → told b ≡ None
  untold never b = none_by (told b) (λ answer e. no_wait r.held r.due b never (h.tells b answer e).0)

  -- another thing than a wait is due: nothing is asked and nothing is told
  quiet_line : (n : Standing) → is_wait (next_action r) ≡ false → IsLine n asked told
  quiet_line n never = empty_line n asked told (unasked never) (untold never)

  -- a post puts its request where it waits from then on
  post_line : (n : Standing) (b : ℕ) (request : Request) → is_wait (next_action r) ≡ false → WaitsAt n.held n.due b → AsksFor n.held n.due request
      → IsLine n (with_at asked b (Some request)) told
  post_line n b request never waits asks = record {
    asks = each_at (λ k x. (it : Request) → x ≡ Some it → WaitsAt n.held n.due k × AsksFor n.held n.due it) asked b (Some request)
        (λ it e. (waits, subst (λ (x : Request). AsksFor n.held n.due x) (let same : request ≡ it = cc in same) asks))
        (λ k other it e. some_no (asked k) it (unasked never k) e);
    tells = λ k answer e. some_no (told k) answer (untold never k) e;
  }

  -- an answer is taken, or the loss of the backend is seen: then nothing is asked and nothing is told
  taken_line : (n : Standing) (b : ℕ) (answer : Answer) → told b ≡ Some answer → IsLine n asked (with_at told b None)
  taken_line n b answer is =
      let t = h.tells b answer is in
      empty_line n asked (with_at told b None) t.1
      (each_at (λ k x. x ≡ None) told b None refl (λ k other. none_by (told k) (λ more e. other (one_place r.held r.due k b (h.tells k more e).0 t.0))))

  lost_line : (n : Standing) (b : ℕ) (request : Request) → asked b ≡ Some request → IsLine n (with_at asked b None) told
  lost_line n b request is =
      let a = h.asks b request is in
      empty_line n (with_at asked b None) told
      (each_at (λ k x. x ≡ None) asked b None refl (λ k other. none_by (asked k) (λ more e. other (one_place r.held r.due k b (h.asks k more e).0 a.0))))
      (λ k. none_by (told k) (λ answer e. some_no (asked b) request ((h.tells k answer e).1 b) is))

  -- the backend answers
  told_line : (b : ℕ) (request : Request) (answer : Answer) → asked b ≡ Some request → IsLine r (with_at asked b None) (with_at told b (Some answer))
  told_line b request answer is =
      let a = h.asks b request is in
      let gone : (k : ℕ) → with_at asked b None k ≡ None = each_at (λ k x. x ≡ None) asked b None refl (λ k other. none_by (asked k) (λ more e. other (one_place r.held r.due k b (h.asks k more e).0 a.0))) in
      record {
        asks = λ k it e. some_no (with_at asked b None k) it (gone k) e;
        tells = each_at (λ k x. (it : Answer) → x ≡ Some it → WaitsAt r.held r.due k × ((j : ℕ) → with_at asked b None j ≡ None)) told b (Some answer)
            (λ it e. (a.0, gone)) (λ k other it e. some_no (asked b) request ((h.tells k it e).1 b) is);
      }

-- The events of a recovery.

order_waits : (held : Held) (at : Due) (body : OrderBody) → may_order at body ≡ true → is_wait (action_at held at) ≡ false
order_waits held (Waiting task) (orders.Recover number) may = absurd (let z : false ≡ true = may in cc)
order_waits held (Waiting task) orders.Leave may = absurd (let z : false ≡ true = may in cc)
order_waits held (Waiting task) body may = absurd (cc)
order_waits held (Undoing side ending) (orders.Recover number) may = absurd (let z : false ≡ true = may in cc)
order_waits held (Undoing side ending) orders.Leave may = absurd (let z : false ≡ true = may in cc)
order_waits held (Undoing side ending) body may = absurd (cc)
order_waits held (Closing ending) body may = closing_waits held ending (owed held)
order_waits held at body may = refl

due_waits : (r : Standing) (action : RecoveryAction) → next_action r ≡ action → is_wait action ≡ false → is_wait (next_action r) ≡ false
due_waits r action e never = ap is_wait e ∙ never

-- where a post leads it waits for that request at that backend
undone_waits : (held : Held) (ending : Ending) (o : Owed) (b : BackendId) (request : Request) → closing_action held ending o ≡ actions.Post b request
    → WaitsAt (undone held ending o).held (undone held ending o).due b.number × AsksFor (undone held ending o).held (undone held ending o).due request
undone_waits held ending (Transaction side) b request e =
    (ap (λ (x : BackendId). x.number) (let same : backend_at held side ≡ b = cc in same), (let same : request ≡ requests.Rollback = cc in same))
undone_waits held ending Snapshot b request e = absurd (cc)
undone_waits held ending LiveTransaction b request e = absurd (cc)
undone_waits held ending TheQuiet b request e = absurd (cc)
undone_waits held Attached Nothing b request e = absurd (cc)
undone_waits held (Refused code) Nothing b request e = absurd (cc)
undone_waits held Leaves Nothing b request e = absurd (cc)

posted_waits : (held : Held) (at : Due) (b : BackendId) (request : Request) → action_at held at ≡ actions.Post b request
    → WaitsAt (posted held at).held (posted held at).due b.number × AsksFor (posted held at).held (posted held at).due request
posted_waits held (PostDue task) b request e =
    (ap (λ (x : BackendId). x.number) (let same : backend_at held (side_of task) ≡ b = cc in same), (let same : request ≡ request_of held.layout.tables task = cc in same))
posted_waits held (Closing ending) b request e = undone_waits held ending (owed held) b request e
posted_waits held at b request e = absurd (cc)

asked_some : (x : Option Request) → is_some x ≡ true → (request : Request) × (x ≡ Some request)
asked_some None e = absurd (let z : false ≡ true = e in cc)
asked_some (Some request) e = (request, refl)

abbrev pub AllLines : Pool → Type 0
AllLines p = (s : ℕ) → IsLine (p.recovery s) (p.asked s) (p.told s)

module _ (p : Pool) (s : ℕ) (h : AllLines p) where
  -- the recovery moves, and what is asked and told stays
  moves : (n : Standing) → is_wait (next_action (p.recovery s)) ≡ false → (o : ℕ) → IsLine (with_at p.recovery s n o) (p.asked o) (p.told o)
  moves n never = each_at (λ o r. IsLine r (p.asked o) (p.told o)) p.recovery s n (quiet_line (p.recovery s) (p.asked s) (p.told s) (h s) n never) (λ o other. h o)

recovered_lines : (p : Pool) (s : SessionId) (event : SessionEvent) → MayStep p (Recover s event) → AllLines p → AllLines (after p (Recover s event))
unfolding after_at
recovered_lines p s (events.Ordered order) may h = moves p s.number h (recovery_after (p.recovery s.number) (events.Ordered order)) (order_waits (p.recovery s.number).held (p.recovery s.number).due order.body may.0)
recovered_lines p s (events.Called call answer) may h = moves p s.number h (recovery_after (p.recovery s.number) (events.Called call answer)) (due_waits (p.recovery s.number) (actions.Gate call) may.0.0 refl)
recovered_lines p s (events.Posted b request) may h =
    let r = p.recovery s.number in
    let w = posted_waits r.held r.due b request may.0 in
    each_at2 (λ o n a. IsLine n a (p.told o)) p.recovery p.asked s.number (recovery_after r (events.Posted b request)) (with_at (p.asked s.number) b.number (Some request))
    (post_line r (p.asked s.number) (p.told s.number) (h s.number) (posted r.held r.due) b.number request (due_waits r (actions.Post b request) may.0 refl) w.0 w.1)
    (λ o other. h o)
recovered_lines p s (events.Taken b answer) may h =
    let r = p.recovery s.number in
    each_at2 (λ o n a. IsLine n (p.asked o) a) p.recovery p.told s.number (recovery_after r (events.Taken b answer)) (with_at (p.told s.number) b.number None)
    (taken_line r (p.asked s.number) (p.told s.number) (h s.number) (recovery_after r (events.Taken b answer)) b.number answer may.1)
    (λ o other. h o)
recovered_lines p s (events.Faulted b before count) may h =
    let r = p.recovery s.number in
    let q = asked_some (p.asked s.number b.number) may.1.1 in
    each_at2 (λ o n a. IsLine n a (p.told o)) p.recovery p.asked s.number (recovery_after r (events.Faulted b before count)) (with_at (p.asked s.number) b.number None)
    (lost_line r (p.asked s.number) (p.told s.number) (h s.number) (recovery_after r (events.Faulted b before count)) b.number q.0 q.1)
    (λ o other. h o)
recovered_lines p s (events.Detached b cause answer) may h = moves p s.number h (recovery_after (p.recovery s.number) (events.Detached b cause answer)) (due_waits (p.recovery s.number) (actions.Detach b cause) may.0.0 refl)
recovered_lines p s (events.Swapped b) may h = moves p s.number h (recovery_after (p.recovery s.number) (events.Swapped b)) (due_waits (p.recovery s.number) (actions.Swap b) may.0 refl)
recovered_lines p s (events.Replied outcome status) may h =
    moves p s.number h (recovery_after (p.recovery s.number) (events.Replied outcome status)) (elim may.0 [
      | inl e ↦ due_waits (p.recovery s.number) (actions.Reply outcome status) e refl
      | inr none ↦ ap (λ (d : Due). is_wait (action_at (p.recovery s.number).held d)) none.0
    ])
recovered_lines p s events.Ended may h = moves p s.number h (recovery_after (p.recovery s.number) events.Ended) (due_waits (p.recovery s.number) actions.End may.0 refl)

answered_lines : (p : Pool) (s b : ℕ) (answer : Answer) (request : Option Request) → p.asked s b ≡ request → AllLines p → AllLines (answered p s b answer request)
answered_lines p s b answer None is h = h
answered_lines p s b answer (Some request) is h =
    each_at2 (λ o a t. IsLine (p.recovery o) a t) p.asked p.told s (with_at (p.asked s) b None) (with_at (p.told s) b (Some answer))
    (told_line (p.recovery s) (p.asked s) (p.told s) (h s) b request answer is)
    (λ o other. h o)

pub step_lines : (p : Pool) (e : Step) → MayStep p e → AllLines p → AllLines (after p e)
step_lines p (Serve event) may h = h
step_lines p (Recover s event) may h = recovered_lines p s event may h
step_lines p (Answers s b answer) may h = answered_lines p s.number b.number answer (p.asked s.number b.number) refl h
