-- Every event keeps that a closing transaction is live at the attached backends that have not answered, and that what waits is awaited.
use Rattle.std.proofs.Common.{◌≡◌, ◌≢◌, ℕ, true, false, List, refl, sym, ap, ◌∙◌, subst, inl, inr}
use Rattle.std.specs.Prelude.{◌⊎◌, Option, Some, None, is_some}
use Rattle.pool_base.specs.Sets.{has}
use Rattle.pool_base.specs.declared.backend_id.BackendId.{BackendId}
use Rattle.pool_base.specs.declared.session_id.SessionId.{SessionId}
use Rattle.pool_base.specs.declared.backend_set.BackendSet.{BackendSet}
use Rattle.pool_base.specs.declared.gate_call.GateCall.{GateCall}
use Rattle.pool_base.specs.declared.gate_call.GateCall.TheVariants as calls
use Rattle.pool_base.specs.declared.gate_call.GateAnswer.{GateAnswer}
use Rattle.backend_trait.specs.declared.request.Request.{Request}
use Rattle.backend_trait.specs.declared.answer.Answer.{Answer}
use Rattle.backend_trait.specs.Rows.{with_at}
use Rattle.backend_trait.specs.Store.{Transaction, Alive, Pending, Store, posted, lost_by}
use Rattle.snapshot_gate.specs.Function.{step}
use Rattle.session_orders.specs.declared.order.Order.{Order}
use Rattle.session_machine.specs.declared.action.Cause.{Cause}
use Rattle.session_machine.specs.declared.action.SessionEvent.{SessionEvent}
use Rattle.session_machine.specs.declared.action.SessionEvent.TheVariants as events
use Rattle.session_orders.specs.declared.outcome.Outcome.{Outcome}
use Rattle.session_machine.specs.declared.status.Status.{Status}
use Rattle.session_machine.specs.declared.machine.GatePhase.TheVariants as phases
use Rattle.session_machine.specs.declared.machine.Heard.{Heard}
use Rattle.session_machine.specs.declared.machine.Machine.{Machine}
use Rattle.session_machine.specs.declared.machine.Stage.{Stage}
use Rattle.session_machine.specs.declared.machine.Point.{Point}
use Rattle.session_machine.specs.declared.machine.Point.TheVariants.{Resting, Waiting, LookDue}
use Rattle.session_machine.specs.Rules.{after_at, due, posted as machine_posted, taken, heard_more, after as machine_after}
use Rattle.one_copy_model.specs.declared.event.Event.{Event}
use Rattle.one_copy_model.specs.declared.event.Event.TheVariants.{Of, Act, Lost}
use Rattle.one_copy_model.specs.SingleRun.{after_answer}
use Rattle.one_copy_model.specs.Marks.{marked}
use Rattle.one_copy_model.specs.World.{World, after, with_mail, IsPending, MayHappen}
use Rattle.one_copy_model.specs.Deaths.{is_live, stage_at, heard_from, mail_or, answer_from}
use Rattle.one_copy_model.specs.Tracking.{Tracked, single}
use Rattle.one_copy_model.specs.Chains.{asked_in}
use Rattle.one_copy_model.specs.Standing.{Standing, Stands, Alike, same, standing_by, standing_open, leaving_of}
use Rattle.one_copy_model.specs.Invariant.{Invariant, IsHere}
use Rattle.one_copy_model.specs.Own.{told_by, IsIn}
use Rattle.one_copy_model.proofs.Places.{same_or_other, with_at-same, with_at-other, each_at, each_at2}
use Rattle.one_copy_laws.proofs.ActsRunning.{itself}
use Rattle.one_copy_laws.proofs.ChainsTaking.{none_below, heard_more_at, heard_more_other}
use Rattle.one_copy_laws.proofs.ChainsFaulting.{waits_for}
use Rattle.one_copy_laws.proofs.DecidedParting.{less}
use Rattle.one_copy_laws.specs.Posts.{IsAwaited, AreAwaited, awaited_at}
use Rattle.one_copy_laws.proofs.PostsAwaiting.{not_both, call_free, post_free, reply_free, end_free, detach_awaits, posted_on, posted_awaits, faulted_stage, faulted_heard, faulted_awaits, call_keeps, detached_out, mark_waits, acted_waits, acted_live}
use Rattle.one_copy_laws.proofs.PostsSteps.{called_on, detached_on, no_close}
use Rattle.one_copy_laws.proofs.PostsOrders.{closes_from, awaits_on}

abbrev asked_of : Request → Option Pending
asked_of request = Some (record { request = request; crossed = false })

alike_live : (here there : Transaction) → Alike here there → is_live here ≡ true
alike_live (Alive u) (Alive k) alike = refl
alike_live here there alike = absurd alike

-- An event of a session: what it leaves of the session itself, and of the others.

module _ (t : Tracked) (h : Invariant t) (a : AreAwaited t.world) (s : SessionId) where
  abbrev m : Machine
  m = t.world.machine s.number

  abbrev attached : ℕ
  attached = t.world.gate.attached.bits

  abbrev mail : ℕ → Option Answer
  mail = t.world.mail s.number

  told_as : (n : Machine) (b : ℕ) → n.session.heard ≡ m.session.heard → told_by n mail b ≡ None → told_by m mail b ≡ None
  told_as n b same told = ap (λ (hs : List Heard). mail_or (mail b) (heard_from hs b)) (sym same) ∙ told

  -- the stores and the answers stay, and no more are attached
  moved : (n : Machine) (left : ℕ) → ((b : ℕ) → IsIn left b → IsIn attached b)
      → IsAwaited left t.world.store n mail s.number
      → (o : ℕ) → IsAwaited left t.world.store (with_at t.world.machine s.number n o) (t.world.mail o) o
  moved n left fewer own =
      each_at (λ o x. IsAwaited left t.world.store x (t.world.mail o) o) t.world.machine s.number n own
      (λ o other. record { closing = λ b in_it. (a o).closing b (fewer b in_it); waiting = λ b in_it. (a o).waiting b (fewer b in_it) })

  -- a commit without changes begins at rest, where the transaction stands here as in the single run
  rests_live : (tables b : ℕ) → m.point ≡ Resting → m.session.gate ≡ phases.Live false tables → IsIn attached b
      → is_live ((t.world.store b).transaction s.number) ≡ true
  rests_live tables b at unwritten in_it =
      let stands : Stands (single t) s.number (leaving_of t.world.tables s.number t.history) same ((t.world.store b).transaction s.number) ((single t).transaction s.number) =
      subst (λ (y : Standing). Stands (single t) s.number (leaving_of t.world.tables s.number t.history) y ((t.world.store b).transaction s.number) ((single t).transaction s.number))
      (ap (λ (p : Point). standing_by m.session.gate p (stage_at p) (answer_from t.world s.number b)) at ∙ ap standing_open unwritten)
      (h.stands s.number b in_it) in
      alike_live ((t.world.store b).transaction s.number) ((single t).transaction s.number) stands

  pub ordered_awaits : (order : Order) → MayHappen t.world (Of s (events.Ordered order)) → AreAwaited (after t.world (Of s (events.Ordered order)))
  unfolding after_at
  ordered_awaits order may =
      moved (machine_after m (events.Ordered order)) attached (λ b in_it. in_it) (record {
        closing = λ b in_it e told.
            let from = closes_from m.session m.point order.moment order.body may.0.0 e in
            rests_live from.1.0 b from.0 from.1.1 in_it;
        waiting = λ b in_it waits. awaits_on m.session m.point order.moment order.body b may.0.0 ((a s.number).waiting b in_it waits);
      })

  pub called_awaits : (call : GateCall) (answer : GateAnswer) → MayHappen t.world (Of s (events.Called call answer))
      → AreAwaited (after t.world (Of s (events.Called call answer)))
  unfolding after_at
  called_awaits call answer may =
      let fewer : (b : ℕ) → IsIn (step t.world.gate call).0.attached.bits b → IsIn attached b =
      λ b. subst (λ (g : BackendSet). IsIn g.bits b) (call_keeps t.world.gate call answer may.0.1) in
      moved (machine_after m (events.Called call answer)) (step t.world.gate call).0.attached.bits fewer (record {
        closing = λ b in_it e told.
            let on = called_on m.session m.point answer e in
            (a s.number).closing b (fewer b in_it) on.0 (told_as (machine_after m (events.Called call answer)) b on.1 told);
        waiting = λ b in_it waits. absurd (not_both (call_free m.session m.point call may.0.0) ((a s.number).waiting b (fewer b in_it) waits));
      })

  pub faulted_awaits_on : (b : BackendId) (before more : ℕ) → MayHappen t.world (Of s (events.Faulted b before more))
      → AreAwaited (after t.world (Of s (events.Faulted b before more)))
  unfolding after_at
  faulted_awaits_on b before more may =
      moved (machine_after m (events.Faulted b before more)) attached (λ c in_it. in_it) (record {
        closing = λ c in_it e told.
            (a s.number).closing c in_it (sym (faulted_stage m.session before more m.point) ∙ e)
            (told_as (machine_after m (events.Faulted b before more)) c (faulted_heard m.session before more m.point) told);
        waiting = λ c in_it waits. faulted_awaits m.session before more m.point ∙ (a s.number).waiting c in_it waits;
      })

  pub replied_awaits : (outcome : Outcome) (status : Status) → MayHappen t.world (Of s (events.Replied outcome status))
      → AreAwaited (after t.world (Of s (events.Replied outcome status)))
  unfolding after_at
  replied_awaits outcome status may =
      moved (machine_after m (events.Replied outcome status)) attached (λ c in_it. in_it) (record {
        closing = λ c in_it e told. absurd (no_close e refl);
        waiting = λ c in_it waits. absurd (not_both (reply_free m.session m.point outcome status may.0) ((a s.number).waiting c in_it waits));
      })

  pub ended_awaits : MayHappen t.world (Of s events.Ended) → AreAwaited (after t.world (Of s events.Ended))
  unfolding after_at
  ended_awaits may =
      moved (machine_after m events.Ended) attached (λ c in_it. in_it) (record {
        closing = λ c in_it e told. absurd (no_close e refl);
        waiting = λ c in_it waits. absurd (not_both (end_free m.session m.point may.0) ((a s.number).waiting c in_it waits));
      })

  pub detached_awaits : (b : BackendId) (cause : Cause) (answer : GateAnswer) → MayHappen t.world (Of s (events.Detached b cause answer))
      → AreAwaited (after t.world (Of s (events.Detached b cause answer)))
  unfolding after_at
  detached_awaits b cause answer may =
      moved (machine_after m (events.Detached b cause answer)) (step t.world.gate (calls.Detach b)).0.attached.bits (less t h s b) (record {
        closing = λ c in_it e told.
            let on = detached_on m.session m.point answer e in
            (a s.number).closing c (less t h s b c in_it) on.0 (told_as (machine_after m (events.Detached b cause answer)) c on.1 told);
        waiting = λ c in_it waits.
            let here : c ≡ b.number = detach_awaits m.session m.point b cause c may.0.0 ((a s.number).waiting c (less t h s b c in_it) waits) in
            absurd (detached_out t.world.gate b h.few (has attached b.number) refl
            (subst (IsIn (step t.world.gate (calls.Detach b)).0.attached.bits) here in_it));
      })

  pub posted_awaits_on : (b : BackendId) (request : Request) → MayHappen t.world (Of s (events.Posted b request))
      → AreAwaited (after t.world (Of s (events.Posted b request)))
  unfolding after_at
  posted_awaits_on b request may =
      let n : Machine = machine_posted m.session m.point in
      let x : Store = marked (posted (t.world.store b.number) s.number request) in
      each_at (λ o y. IsAwaited attached (with_at t.world.store b.number x) y (t.world.mail o) o) t.world.machine s.number n
      (record {
        closing = λ c in_it e told.
            let on = posted_on m.session m.point e in
            each_at (λ (k : ℕ) (st : Store). IsIn attached k → told_by n mail k ≡ None → is_live (st.transaction s.number) ≡ true) t.world.store b.number x
            (λ here silent. (a s.number).closing b.number here on.0 (told_as n b.number on.1 silent))
            (λ k other here silent. (a s.number).closing k here on.0 (told_as n k on.1 silent)) c in_it told;
        waiting = λ c.
            each_at (λ (k : ℕ) (st : Store). IsIn attached k → IsPending st s.number → awaited_at n.point ≡ Some k) t.world.store b.number x
            (λ here waits. posted_awaits m.session m.point b request may.0)
            (λ k other here waits. absurd (not_both (post_free m.session m.point b request may.0) ((a s.number).waiting k here waits))) c;
      })
      (λ o differs. record {
        closing = λ c in_it e told.
            each_at (λ (k : ℕ) (st : Store). IsIn attached k → told_by (t.world.machine o) (t.world.mail o) k ≡ None → is_live (st.transaction o) ≡ true) t.world.store b.number x
            (λ here silent. (a o).closing b.number here e silent)
            (λ k other here silent. (a o).closing k here e silent) c in_it told;
        waiting = λ c.
            each_at (λ (k : ℕ) (st : Store). IsIn attached k → IsPending st o → awaited_at (t.world.machine o).point ≡ Some k) t.world.store b.number x
            (λ here waits. (a o).waiting b.number here
            (let old : Store = t.world.store b.number in
            sym (ap is_some (with_at-other old.pending s.number (asked_of request) o differs))
            ∙ mark_waits (posted old s.number request) o (with_at old.pending s.number (asked_of request) o) waits))
            (λ k other here waits. (a o).waiting k here waits) c;
      })

  -- an answer that is taken was told before
  module _ (b : BackendId) (answer : Answer) (stage : Stage) (at : m.point ≡ Waiting stage b) (mailed : mail b.number ≡ Some answer) where
    abbrev n : Machine
    n = due (heard_more m.session b answer) (LookDue stage)

    abbrev post : ℕ → Option Answer
    post = with_at mail b.number None

    none_heard : heard_from m.session.heard b.number ≡ None
    none_heard = none_below b.number m.session.heard ((h.in_order s.number stage (ap stage_at at)).above b.number (ap asked_in at))

    told_b : told_by n post b.number ≡ Some answer
    told_b =
        ap (λ (x : Option Answer). mail_or x (heard_from n.session.heard b.number)) (with_at-same mail b.number None)
        ∙ heard_more_at m.session.heard b answer none_heard

    untold : (c : ℕ) → told_by n post c ≡ None → told_by m mail c ≡ None
    untold c silent = elim (same_or_other c b.number) [
      | inl is ↦ absurd (let z : None ≡ Some answer = sym silent ∙ ap (told_by n post) is ∙ told_b in cc)
      | inr other ↦ ap (mail_or (mail c)) (sym (heard_more_other m.session.heard b answer c other))
          ∙ ap (λ (x : Option Answer). mail_or x (heard_from n.session.heard c)) (sym (with_at-other mail b.number None c other)) ∙ silent
    ]

    not_pending : (found : Option Pending) → (t.world.store b.number).pending s.number ≡ found → is_some found ≡ true → ⊥
    not_pending (Some p) e waits = let z : None ≡ Some answer = sym ((h.line s.number b.number).untold p e) ∙ mailed in cc
    not_pending None e waits = let z : false ≡ true = waits in cc

    own : IsAwaited attached t.world.store n post s.number
    own = record {
      closing = λ c in_it e told. (a s.number).closing c in_it (ap stage_at at ∙ e) (untold c told);
      waiting = λ c in_it waits.
          let asks : Some b.number ≡ Some c = sym (ap awaited_at at) ∙ (a s.number).waiting c in_it waits in
          let here : c ≡ b.number = cc in
          absurd (not_pending ((t.world.store b.number).pending s.number) refl (subst (λ (k : ℕ). IsPending (t.world.store k) s.number) here waits));
    }

    pub took : (o : ℕ) → IsAwaited attached t.world.store (with_at t.world.machine s.number n o) (with_at t.world.mail s.number post o) o
    took = each_at2 (λ o y z. IsAwaited attached t.world.store y z o) t.world.machine t.world.mail s.number n post own (λ o other. a o)

  pub taken_awaits : (b : BackendId) (answer : Answer) → MayHappen t.world (Of s (events.Taken b answer))
      → AreAwaited (after t.world (Of s (events.Taken b answer)))
  unfolding after_at
  taken_awaits b answer may =
      let w = waits_for m.session m.point b may.0.0 in
      subst (λ (n : Machine). (o : ℕ) → IsAwaited attached t.world.store (with_at t.world.machine s.number n o) (with_mail t.world.mail s.number b.number None o) o)
      (sym (ap (taken m.session b answer) w.1)) (took b answer w.0 w.1 may.1)

-- An act of a store, and a loss.

acts_on : (w : World) (s : SessionId) (b : BackendId) (answer : Answer) → AreAwaited w → AreAwaited (after w (Act s b answer))
acts_on w s b answer a o =
    let old : Store = w.store b.number in
    let x : Store = marked (after_answer old s.number answer) in
    record {
      closing = λ c in_it e told.
          each_at (λ (k : ℕ) (st : Store). IsHere w k → told_by (w.machine o) (with_mail w.mail s.number b.number (Some answer) o) k ≡ None → is_live (st.transaction o) ≡ true) w.store b.number x
          (λ here silent. elim (same_or_other o s.number) [
            | inl is ↦ absurd (let z : None ≡ Some answer = sym silent ∙ told_own o is in cc)
            | inr other ↦ acted_live old s.number o answer (old.pending s.number) other ((a o).closing b.number here e (told_other o b.number (inl other) ∙ silent))
          ])
          (λ k other here silent. (a o).closing k here e (told_other o k (inr other) ∙ silent)) c in_it told;
      waiting = λ c.
          each_at (λ (k : ℕ) (st : Store). IsHere w k → IsPending st o → awaited_at (w.machine o).point ≡ Some k) w.store b.number x
          (λ here waits. (a o).waiting b.number here
          (acted_waits old s.number o answer (old.pending s.number) (mark_waits (after_answer old s.number answer) o ((after_answer old s.number answer).pending o) waits)))
          (λ k other here waits. (a o).waiting k here waits) c;
    }
  where
    post : ℕ → ℕ → Option Answer
    post = with_mail w.mail s.number b.number (Some answer)

    at_own : (k : ℕ) → post s.number k ≡ with_at (w.mail s.number) b.number (Some answer) k
    at_own k = ap (λ (f : ℕ → Option Answer). f k) (with_at-same w.mail s.number (with_at (w.mail s.number) b.number (Some answer)))

    told_own : (o : ℕ) → o ≡ s.number → told_by (w.machine o) (post o) b.number ≡ Some answer
    told_own o is =
        ap (λ (y : Option Answer). mail_or y (heard_from (w.machine o).session.heard b.number))
        (ap (λ (i : ℕ). post i b.number) is ∙ at_own b.number ∙ with_at-same (w.mail s.number) b.number (Some answer))

    mail_apart : (o k : ℕ) → o ≢ s.number → w.mail o k ≡ post o k
    mail_apart o k other = ap (λ (f : ℕ → Option Answer). f k) (sym (with_at-other w.mail s.number (with_at (w.mail s.number) b.number (Some answer)) o other))

    mail_other : (o k : ℕ) → (o ≢ s.number) ⊎ (k ≢ b.number) → w.mail o k ≡ post o k
    mail_other o k (inl other) = mail_apart o k other
    mail_other o k (inr other) = elim (same_or_other o s.number) [
      | inl is ↦ ap (λ (i : ℕ). w.mail i k) is ∙ sym (ap (λ (i : ℕ). post i k) is ∙ at_own k ∙ with_at-other (w.mail s.number) b.number (Some answer) k other)
      | inr apart ↦ mail_apart o k apart
    ]

    told_other : (o k : ℕ) → (o ≢ s.number) ⊎ (k ≢ b.number) → told_by (w.machine o) (w.mail o) k ≡ told_by (w.machine o) (post o) k
    told_other o k apart = ap (λ (y : Option Answer). mail_or y (heard_from (w.machine o).session.heard k)) (mail_other o k apart)

lost_on : (w : World) (b : BackendId) → AreAwaited w → AreAwaited (after w (Lost b))
lost_on w b a o =
    let x : Store = lost_by (w.store b.number) in
    record {
      closing = λ c in_it e told.
          each_at (λ (k : ℕ) (st : Store). IsHere w k → told_by (w.machine o) (w.mail o) k ≡ None → is_live (st.transaction o) ≡ true) w.store b.number x
          (λ here silent. (a o).closing b.number here e silent)
          (λ k other here silent. (a o).closing k here e silent) c in_it told;
      waiting = λ c.
          each_at (λ (k : ℕ) (st : Store). IsHere w k → IsPending st o → awaited_at (w.machine o).point ≡ Some k) w.store b.number x
          (λ here waits. (a o).waiting b.number here waits)
          (λ k other here waits. (a o).waiting k here waits) c;
    }

event_of : (t : Tracked) (s : SessionId) (event : SessionEvent) → Invariant t → AreAwaited t.world → MayHappen t.world (Of s event) → AreAwaited (after t.world (Of s event))
event_of t s (events.Ordered order) h a may = ordered_awaits t h a s order may
event_of t s (events.Called call answer) h a may = called_awaits t h a s call answer may
event_of t s (events.Posted b request) h a may = posted_awaits_on t h a s b request may
event_of t s (events.Taken b answer) h a may = taken_awaits t h a s b answer may
event_of t s (events.Faulted b before more) h a may = faulted_awaits_on t h a s b before more may
event_of t s (events.Detached b cause answer) h a may = detached_awaits t h a s b cause answer may
event_of t s (events.Swapped b) h a may = absurd may.0
event_of t s (events.Replied outcome status) h a may = replied_awaits t h a s outcome status may
event_of t s events.Ended h a may = ended_awaits t h a s may

pub event_awaits : (t : Tracked) (e : Event) → Invariant t → AreAwaited t.world → MayHappen t.world e → AreAwaited (after t.world e)
event_awaits t (Of s event) h a may = event_of t s event h a may
event_awaits t (Act s b answer) h a may = acts_on t.world s b answer a
event_awaits t (Lost b) h a may = lost_on t.world b a
