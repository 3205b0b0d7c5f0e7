-- Each step keeps the invariant, where a target that is attached is ready and answers to recoveries are harmless.
use Rattle.std.proofs.Common.{◌≡◌, ◌+◌, ◌<◌, ℕ, List, inl, inr, refl, ap, sym, subst, ◌∙◌, arith, Bool, true, false, nat_le, if◌then◌else◌}
use Rattle.std.specs.Prelude.{◌⊎◌, Option, Some, None}
use Rattle.pool_base.specs.Sets.{has}
use Rattle.pool_base.specs.declared.session_id.SessionId.{SessionId}
use Rattle.pool_base.specs.declared.backend_id.BackendId.{BackendId}
use Rattle.pool_base.specs.declared.backend_set.BackendSet.{BackendSet}
use Rattle.pool_base.specs.declared.gate_call.GateCall.{GateCall}
use Rattle.pool_base.specs.declared.gate_call.GateCall.TheVariants as calls
use Rattle.pool_base.specs.declared.gate_call.GateAnswer.{GateAnswer}
use Rattle.pool_base.specs.declared.gate_call.GateAnswer.TheVariants.{Seen, Spent}
use Rattle.schema.specs.declared.catalogue.TableDef.{TableDef}
use Rattle.schema.specs.Allowed.{AreAllowed}
use Rattle.backend_trait.specs.declared.request.Request.{Request}
use Rattle.backend_trait.specs.declared.answer.Answer.{Answer}
use Rattle.backend_trait.specs.Rows.{with_at}
use Rattle.backend_trait.specs.Store.{Absent, Transaction, Store, acted}
use Rattle.session_machine.specs.declared.action.SessionEvent.{SessionEvent}
use Rattle.session_machine.specs.declared.action.SessionEvent.TheVariants as events
use Rattle.session_machine.specs.declared.machine.ReadPolicy.{ReadPolicy}
use Rattle.session_machine.specs.declared.machine.Machine.{Machine}
use Rattle.session_orders.specs.declared.order.OrderBody.{OrderBody}
use Rattle.session_orders.specs.declared.order.OrderBody.TheVariants as orders
use Rattle.session_machine.specs.Rules.{new_machine, after as machine_after}
use Rattle.snapshot_gate.specs.declared.state.GateState.{GateState}
use Rattle.snapshot_gate.specs.Function.{view_of, step, granted, grant, refuse, MayCall}
use Rattle.online_recovery.specs.declared.action.RecoveryAction.{RecoveryAction}
use Rattle.online_recovery.specs.declared.action.RecoveryAction.TheVariants as actions
use Rattle.online_recovery.specs.declared.layout.Layout.{Layout}
use Rattle.online_recovery.specs.declared.standing.Due.{Due}
use Rattle.online_recovery.specs.declared.standing.Due.TheVariants.{Resting, Waiting, Undoing}
use Rattle.online_recovery.specs.declared.standing.Held.{Held as HeldBy}
use Rattle.online_recovery.specs.State.{backend_at}
use Rattle.online_recovery.specs.declared.standing.Standing.{Standing}
use Rattle.online_recovery.specs.Rules.{next_action, action_at, after as recovery_after, after_at}
use Rattle.online_recovery.specs.Allowed.{MayHappen as RecoveryMay, may_leave, may_order}
use Rattle.online_recovery.specs.Runs.{Phase, MeetsIn, Meets}
use Rattle.one_copy_model.specs.declared.event.Event.{Event}
use Rattle.one_copy_model.specs.declared.event.Event.TheVariants.{Of, Act, Lost}
use Rattle.one_copy_model.specs.World.{World, after as world_after}
use Rattle.one_copy_model.specs.Numbers.{session_of}
use Rattle.one_copy_model.specs.Tracking.{Tracked, joined}
use Rattle.one_copy_model.specs.Invariant.{Invariant}
use Rattle.one_copy_model.proofs.InvariantLaws.{holds_first}
use Rattle.one_copy_model.proofs.Places.{each_at, each_at2}
use Rattle.one_copy_model.proofs.Landing.{with_at-self}
use Rattle.one_copy_laws.proofs.InductionEvents.{event_kept}
use Rattle.recovery_laws.specs.declared.step.Step.{Step}
use Rattle.recovery_laws.specs.declared.step.Step.TheVariants.{Serve, Recover, Answer as Answers}
use Rattle.recovery_laws.specs.Pool.{Pool, first_pool, world_of, sessions_part, with_gate, with_store, with_world, store_for, store_left, call_in, call_of, gate_after, transactions_after, tracked_recovered, answered, after, IsOutside, LetsOrder, LetsRecovery, MayStep}
use Rattle.recovery_laws.specs.Phases.{IsStill, QuietIsOne, phases_after, all_outside, MeetsAt}
use Rattle.recovery_laws.proofs.Calls.{MeetsCall, step_meets, gate_is}
use Rattle.recovery_laws.proofs.GateQuieting.{step_one}
use Rattle.recovery_laws.proofs.Still.{step_still}
use Rattle.recovery_laws.specs.Counting.{with_counts, CountsBoth}
use Rattle.recovery_laws.specs.Ready.{with_gate_of}
use Rattle.recovery_laws.specs.Steps.{FitsCall, RunsIn, FitsAnswer, IsFit}
use Rattle.recovery_laws.proofs.Sparing.{landed, spare_kept, swap_kept}
use Rattle.recovery_laws.proofs.Attaching.{backend_kept}
use Rattle.recovery_laws.proofs.Leaving.{gone_kept}
use Rattle.recovery_laws.proofs.Quieting.{turned_kept, renewed_kept}
use Rattle.recovery_laws.proofs.Copying.{ReadsOnly, source_reads, read_same, AreStoredIn, absent_stored, spare, still_stored}
use Rattle.recovery_laws.proofs.Freeing.{IsFree}
use Rattle.recovery_laws.proofs.Lining.{WaitsAt, AsksFor, AllLines, step_lines}
use Rattle.recovery_laws.proofs.Targets.{AllFit, AllFree, step_fits, step_free, is_steady, steady_leaves}
use Rattle.recovery_laws.proofs.Counting.{turned_both, step_both, first_both}

-- The session of a recovery under way rests outside of a transaction.

abbrev pub RestsBy : Due → Machine → Type 0
RestsBy due m = ((due ≡ Resting) → ⊥) → IsOutside m

abbrev pub AllRest : Pool → Type 0
AllRest p = (s : ℕ) → RestsBy (p.recovery s).due ((world_of p).machine s)

-- what is due is not the rest
abbrev IsRest : RecoveryAction → Bool
IsRest actions.Rest = true
IsRest action = false

up : (r : Standing) (action : RecoveryAction) → next_action r ≡ action → IsRest action ≡ false → (r.due ≡ Resting) → ⊥
up r action e never rest =
    let z : true ≡ IsRest action = ap (λ (d : Due). IsRest (action_at r.held d)) (sym rest) ∙ ap IsRest e in
    let n : true ≡ false = z ∙ never in cc

leave_up : (d : Due) → may_leave d ≡ true → (d ≡ Resting) → ⊥
leave_up d may rest = let n : false ≡ true = ap may_leave (sym rest) ∙ may in cc

ordered_rests : (p : Pool) (s : ℕ) (d : Due) (body : OrderBody) → may_order d body ≡ true → LetsOrder p s body
    → RestsBy d ((world_of p).machine s) → IsOutside ((world_of p).machine s)
ordered_rests p s d (orders.Recover number) may lets h = lets
ordered_rests p s d orders.Leave may lets h = h (leave_up d may)
ordered_rests p s d (orders.Statement checked) may lets h = absurd (let z : false ≡ true = may in cc)
ordered_rests p s d orders.Begin may lets h = absurd (let z : false ≡ true = may in cc)
ordered_rests p s d orders.Commit may lets h = absurd (let z : false ≡ true = may in cc)
ordered_rests p s d orders.Rollback may lets h = absurd (let z : false ≡ true = may in cc)
ordered_rests p s d orders.Settle may lets h = absurd (let z : false ≡ true = may in cc)
ordered_rests p s d orders.ShowNodes may lets h = absurd (let z : false ≡ true = may in cc)
ordered_rests p s d (orders.Refuse code name) may lets h = absurd (let z : false ≡ true = may in cc)

-- an event of a recovery comes where its session rests outside; behind a reply and an end it rests itself
event_rests : (p : Pool) (s : ℕ) (event : SessionEvent) → RecoveryMay (p.recovery s) event → LetsRecovery p s event → RestsBy (p.recovery s).due ((world_of p).machine s)
    → (IsOutside ((world_of p).machine s)) ⊎ ((recovery_after (p.recovery s) event).due ≡ Resting)
unfolding after_at
event_rests p s (events.Ordered order) may lets h = inl (ordered_rests p s (p.recovery s).due order.body may lets h)
event_rests p s (events.Called call answer) may lets h = inl (h (up (p.recovery s) (actions.Gate call) may.0 refl))
event_rests p s (events.Posted b request) may lets h = inl (h (up (p.recovery s) (actions.Post b request) may refl))
event_rests p s (events.Taken b answer) may lets h = inl (h (up (p.recovery s) (actions.WaitFor b) may.0 refl))
event_rests p s (events.Faulted b before count) may lets h = inl (h (up (p.recovery s) (actions.WaitFor b) may.0 refl))
event_rests p s (events.Detached b cause answer) may lets h = inl (h (up (p.recovery s) (actions.Detach b cause) may.0 refl))
event_rests p s (events.Swapped b) may lets h = inl (h (up (p.recovery s) (actions.Swap b) may refl))
event_rests p s (events.Replied outcome status) may lets h = inr refl
event_rests p s events.Ended may lets h = inr refl

module _ (p : Pool) (s : ℕ) (h : AllRest p) where
  rests_by : (event : SessionEvent) → (IsOutside ((world_of p).machine s)) ⊎ ((recovery_after (p.recovery s) event).due ≡ Resting)
      → (o : ℕ) → RestsBy (with_at p.recovery s (recovery_after (p.recovery s) event) o).due ((world_of p).machine o)
  rests_by event any =
      each_at (λ o r. RestsBy r.due ((world_of p).machine o)) p.recovery s (recovery_after (p.recovery s) event)
      (λ never. elim any [ inl outside ↦ outside | inr rest ↦ absurd (never rest) ]) (λ o other. h o)

  ended_rests : (o : ℕ) → RestsBy (with_at p.recovery s (recovery_after (p.recovery s) events.Ended) o).due
      (with_at (world_of p).machine s (new_machine (session_of s) ((world_of p).machine s).session.policy) o)
  unfolding after_at
  ended_rests =
      each_at2 (λ o r m. RestsBy r.due m) p.recovery (world_of p).machine s (recovery_after (p.recovery s) events.Ended) (new_machine (session_of s) ((world_of p).machine s).session.policy)
      (λ never. absurd (never refl)) (λ o other. h o)

recovered_rests : (p : Pool) (s : SessionId) (event : SessionEvent) → MayStep p (Recover s event) → AllRest p → AllRest (after p (Recover s event))
recovered_rests p s (events.Ordered order) may h = rests_by p s.number h (events.Ordered order) (event_rests p s.number (events.Ordered order) may.0 may.1 (h s.number))
recovered_rests p s (events.Called call answer) may h = rests_by p s.number h (events.Called call answer) (event_rests p s.number (events.Called call answer) may.0 may.1 (h s.number))
recovered_rests p s (events.Posted b request) may h = rests_by p s.number h (events.Posted b request) (event_rests p s.number (events.Posted b request) may.0 may.1 (h s.number))
recovered_rests p s (events.Taken b answer) may h = rests_by p s.number h (events.Taken b answer) (event_rests p s.number (events.Taken b answer) may.0 may.1 (h s.number))
recovered_rests p s (events.Faulted b before count) may h = rests_by p s.number h (events.Faulted b before count) (event_rests p s.number (events.Faulted b before count) may.0 may.1 (h s.number))
recovered_rests p s (events.Detached b cause answer) may h = rests_by p s.number h (events.Detached b cause answer) (event_rests p s.number (events.Detached b cause answer) may.0 may.1 (h s.number))
recovered_rests p s (events.Swapped b) may h = rests_by p s.number h (events.Swapped b) (event_rests p s.number (events.Swapped b) may.0 may.1 (h s.number))
recovered_rests p s (events.Replied outcome status) may h = rests_by p s.number h (events.Replied outcome status) (event_rests p s.number (events.Replied outcome status) may.0 may.1 (h s.number))
recovered_rests p s events.Ended may h = ended_rests p s.number h

answered_rests : (p : Pool) (s b : ℕ) (answer : Answer) (request : Option Request) → AllRest p → AllRest (answered p s b answer request)
answered_rests p s b answer None h = h
answered_rests p s b answer (Some request) h = h

step_rests : (p : Pool) (e : Step) → MayStep p e → AllRest p → AllRest (after p e)
step_rests p (Serve (Of s event)) may h =
    each_at (λ o m. RestsBy (p.recovery o).due m) (world_of p).machine s.number (machine_after ((world_of p).machine s.number) event)
    (λ never. absurd (never may.1.0)) (λ o other. h o)
step_rests p (Serve (Act s b answer)) may h = h
step_rests p (Serve (Lost b)) may h = h
step_rests p (Recover s event) may h = recovered_rests p s event may h
step_rests p (Answers s b answer) may h = answered_rests p s.number b.number answer (p.asked s.number b.number) h

-- No step changes the tables.

served_tables : (w : World) (e : Event) → (world_after w e).tables ≡ w.tables
served_tables w (Of s event) = refl
served_tables w (Act s b answer) = refl
served_tables w (Lost b) = refl

pub recovered_tables : (t : Tracked) (g : GateState) (s : ℕ) (event : SessionEvent) → (tracked_recovered t g s event).world.tables ≡ t.world.tables
recovered_tables t g s (events.Ordered order) = refl
recovered_tables t g s (events.Called call answer) = refl
recovered_tables t g s (events.Posted b request) = refl
recovered_tables t g s (events.Taken b answer) = refl
recovered_tables t g s (events.Faulted b before count) = refl
recovered_tables t g s (events.Detached b cause answer) = refl
recovered_tables t g s (events.Swapped b) = refl
recovered_tables t g s (events.Replied outcome status) = refl
recovered_tables t g s events.Ended = refl

answered_tables : (p : Pool) (s b : ℕ) (answer : Answer) (request : Option Request) → (world_of (answered p s b answer request)).tables ≡ (world_of p).tables
answered_tables p s b answer None = refl
answered_tables p s b answer (Some request) = refl

pub step_tables : (p : Pool) (e : Step) → (world_of (after p e)).tables ≡ (world_of p).tables
step_tables p (Serve event) = served_tables (world_of p) event
step_tables p (Recover s event) = recovered_tables p.tracked (gate_after p.gate (call_in event)) s.number event
step_tables p (Answers s b answer) = answered_tables p s.number b.number answer (p.asked s.number b.number)

-- What a recovery's event leaves of the world keeps the invariant.

-- a sum that is none has no part
none_left : (n m k : ℕ) → n ≡ 0 → n ≡ m + k → m ≡ 0
none_left n m k none is = omega (arith, none, is)

module _ (p : Pool) (phases : ℕ → Phase) (inv : Invariant p.tracked) (counts : CountsBoth p.gate (world_of p).gate phases) (still : IsStill p.gate) where
  abbrev t : Tracked
  t = p.tracked

  abbrev whole : GateState
  whole = p.gate

  abbrev own : GateState
  own = (world_of p).gate

  abbrev as_whole : GateState
  as_whole = with_counts whole own.snaps own.live

  module _ (s : SessionId) where
    -- a call by which the attached backends stay
    turns : (call : GateCall) → is_steady call ≡ true → MeetsIn (phases s.number) call → MayCall whole call
        → Invariant (with_gate_of t (sessions_part own (step whole call).0))
    turns call steady meets may =
        let next = turned_both whole own phases s counts call meets may in
        turned_kept t (sessions_part own (step whole call).0) inv (record {
          attached = (steady_leaves whole call steady).0 ∙ ap (λ (g : GateState). g.attached) (sym counts.same);
          snaps = refl;
          commits = refl;
          live = refl;
          still = λ three.
              let none = step_still whole call may still three in
              (none_left _ own.snaps _ none.0 next.snaps, none_left _ own.live _ none.1 next.live);
        })

    -- the Attach that is granted
    attaches : (b : BackendId) (spent : Bool) (answer : GateAnswer) → MayCall whole (calls.Attach b)
        → (if spent then refuse whole Spent else grant whole (calls.Attach b)).1 ≡ answer → FitsCall t (events.Called (calls.Attach b) answer)
        → Invariant (tracked_recovered t (if spent then refuse whole Spent else grant whole (calls.Attach b)).0 s.number (events.Called (calls.Attach b) answer))
    attaches b true answer may e fit =
        subst (λ (a : GateAnswer). Invariant (tracked_recovered t whole s.number (events.Called (calls.Attach b) a))) e
        (turned_kept t (sessions_part own whole) inv (record {
          attached = ap (λ (g : GateState). g.attached) (sym counts.same);
          snaps = refl;
          commits = refl;
          live = refl;
          still = λ three. let none = still three in (none_left whole.snaps own.snaps _ none.0 counts.snaps, none_left whole.live own.live _ none.1 counts.live);
        }))
    attaches b false answer may e fit =
        let same : granted own (calls.Attach b) ≡ sessions_part own (granted whole (calls.Attach b)) =
        subst (λ (g : GateState). granted g (calls.Attach b) ≡ sessions_part g (granted whole (calls.Attach b))) (sym counts.same) refl in
        subst (λ (a : GateAnswer). Invariant (tracked_recovered t (granted whole (calls.Attach b)) s.number (events.Called (calls.Attach b) a))) e
        (subst (λ (g : GateState). Invariant (with_world t (record t.world { gate = g }) (joined t.world (Some b.number) t.done))) same
        (backend_kept t b inv
        (ap (λ (g : GateState). g.quiet) counts.same ∙ may.0)
        (ap (λ (g : GateState). has g.attached.bits b.number) counts.same ∙ may.1)
        (subst (λ (a : GateAnswer). FitsCall t (events.Called (calls.Attach b) a)) (sym e) fit)))

    called : (call : GateCall) (answer : GateAnswer) → MeetsIn (phases s.number) call → MayCall whole call → (step whole call).1 ≡ answer
        → FitsCall t (events.Called call answer) → Invariant (tracked_recovered t (step whole call).0 s.number (events.Called call answer))
    called calls.Look answer meets may e fit = turns calls.Look refl meets may
    called calls.EnterSnapshot answer meets may e fit = turns calls.EnterSnapshot refl meets may
    called calls.LeaveSnapshot answer meets may e fit = turns calls.LeaveSnapshot refl meets may
    called (calls.EnterCommit tables) answer meets may e fit = absurd meets
    called calls.LeaveCommit answer meets may e fit = absurd meets
    called calls.Finish answer meets may e fit = turns calls.Finish refl meets may
    called (calls.Detach b) answer meets may e fit = absurd meets
    called calls.StartCopy answer meets may e fit = turns calls.StartCopy refl meets may
    called calls.AskQuiet answer meets may e fit = turns calls.AskQuiet refl meets may
    called calls.EnterQuiet answer meets may e fit = turns calls.EnterQuiet refl meets may
    called (calls.Attach b) answer meets may e fit = attaches b (nat_le 4294967280 whole.epoch) answer may e fit
    called calls.LeaveQuiet answer meets may e fit = turns calls.LeaveQuiet refl meets may

    gone_same : (v : Bool) (g : GateState) (snaps live : ℕ) (b : BackendId)
        → (if v then grant (with_counts g snaps live) (calls.Detach b) else refuse (with_counts g snaps live) (Seen (view_of (with_counts g snaps live)))).0
        ≡ sessions_part (with_counts g snaps live) (if v then grant g (calls.Detach b) else refuse g (Seen (view_of g))).0
    gone_same true g snaps live b = refl
    gone_same false g snaps live b = refl

    detached : (b : BackendId) → Invariant (with_world t (with_gate t.world (step whole (calls.Detach b)).0) t.done)
    detached b =
        subst (λ (g : GateState). Invariant (with_world t (record t.world { gate = g }) t.done))
        (subst (λ (g : GateState). (step g (calls.Detach b)).0 ≡ sessions_part g (step whole (calls.Detach b)).0) (sym counts.same)
        (gone_same (has whole.attached.bits b.number) whole own.snaps own.live b))
        (gone_kept t inv s b)

    same_world : Invariant (with_world t t.world t.done)
    same_world = landed t.world t inv

  pub recovered_kept : (s : SessionId) (event : SessionEvent) → MayStep p (Recover s event) → Meets (phases s.number) event → AllRest p → FitsCall t event
      → Invariant (tracked_recovered t (gate_after whole (call_in event)) s.number event)
  recovered_kept s (events.Ordered order) may meets rests fit = same_world s
  recovered_kept s (events.Called call answer) may meets rests fit = called s call answer meets may.1.0 may.1.1 fit
  recovered_kept s (events.Posted b request) may meets rests fit = same_world s
  recovered_kept s (events.Taken b answer) may meets rests fit = same_world s
  recovered_kept s (events.Faulted b before count) may meets rests fit = same_world s
  recovered_kept s (events.Detached b cause answer) may meets rests fit = detached s b
  recovered_kept s (events.Swapped b) may meets rests fit = swap_kept t b.number inv may.1.sessions.detached
  recovered_kept s (events.Replied outcome status) may meets rests fit = same_world s
  recovered_kept s events.Ended may meets rests fit =
      let outside = rests s.number (up (p.recovery s.number) actions.End may.0 refl) in
      renewed_kept t s (session_of s.number) (t.world.machine s.number).session.policy inv outside.rests outside.out

-- An answer to a recovery: at an attached backend it has only read.

-- a recovery asks nothing but reads and a rollback of an attached backend
reads_at : (n : ℕ) (held : HeldBy) (at : Due) (b : ℕ) (request : Request) → IsFree n held.target at → has n b ≡ true → WaitsAt held at b → AsksFor held at request
    → ReadsOnly held.layout.tables request
reads_at n held (Waiting task) b request free here waits asks =
    subst (ReadsOnly held.layout.tables) (sym asks)
    (source_reads held.layout.tables task
    (λ target. let z : false ≡ true = sym free ∙ ap (has n) (ap (λ side. (backend_at held side).number) (sym target) ∙ waits) ∙ here in cc))
reads_at n held (Undoing side ending) b request free here waits asks = subst (ReadsOnly held.layout.tables) (sym asks) tt
reads_at n held at b request free here waits asks = absurd waits

module _ (p : Pool) (s b : ℕ) (answer : Answer) (inv : Invariant p.tracked) (attached : (world_of p).gate.attached ≡ p.gate.attached) (free : AllFree p) (lines : AllLines p)
    (copies : (s b : ℕ) → AreStoredIn (world_of p).tables (p.transaction s b)) (allowed : AreAllowed (world_of p).tables) where
  abbrev answers_store : Request → Store
  answers_store request = store_left ((world_of p).store b) (acted (store_for p s b) s request answer) s

  answer_kept : (request : Request) → p.asked s b ≡ Some request → RunsIn (world_of p).tables request → Invariant (with_world p.tracked (with_store (world_of p) b (answers_store request)) p.tracked.done)
  answer_kept request is runs = by (has (world_of p).gate.attached.bits b) refl
    where
      by : (v : Bool) → has (world_of p).gate.attached.bits b ≡ v → Invariant (with_world p.tracked (with_store (world_of p) b (answers_store request)) p.tracked.done)
      by true here =
          let r = p.recovery s in
          let a = (lines s).asks b request is in
          let reads : ReadsOnly r.held.layout.tables request =
          reads_at p.gate.attached.bits r.held r.due b request (free s) (ap (λ x. has x.bits b) (sym attached) ∙ here) a.0 a.1 in
          subst (λ (st : ℕ → Store). Invariant (with_world p.tracked (record (world_of p) { store = st }) p.tracked.done))
          (sym (ap (λ (x : Store). with_at (world_of p).store b x) (read_same ((world_of p).store b) s (p.transaction s b) r.held.layout.tables request answer reads)
          ∙ with_at-self (world_of p).store b))
          (landed (world_of p) p.tracked inv)
      by false gone =
          spare_kept p.tracked b (answers_store request) inv gone
          (spare (world_of p) b s (p.transaction s b) request answer (inv.tables b) (inv.shaped b) (copies s b) runs allowed)

  pub answered_kept : (request : Option Request) → p.asked s b ≡ request → FitsAnswer p request → Invariant (answered p s b answer request).tracked
  answered_kept None is fit = inv
  answered_kept (Some request) is fit = answer_kept request is fit

  pub answered_copies : (request : Option Request) → FitsAnswer p request
      → (o k : ℕ) → AreStoredIn (world_of p).tables ((answered p s b answer request).transaction o k)
  answered_copies None fit = copies
  answered_copies (Some request) fit =
      each_at (λ o f. (k : ℕ) → AreStoredIn (world_of p).tables (f k)) p.transaction s (with_at (p.transaction s) b ((acted (store_for p s b) s request answer).transaction s))
      (each_at (λ k x. AreStoredIn (world_of p).tables x) (p.transaction s) b ((acted (store_for p s b) s request answer).transaction s)
      (still_stored (world_of p) b s (p.transaction s b) request answer (inv.tables b) (inv.shaped b) (copies s b) fit allowed)
      (λ k other. copies s k))
      (λ o other k. copies o k)

-- the transactions of recoveries, behind an event of one
recovered_copies : (tables : List TableDef) (transaction : ℕ → ℕ → Transaction) (event : SessionEvent) → ((s b : ℕ) → AreStoredIn tables (transaction s b))
    → (s b : ℕ) → AreStoredIn tables (transactions_after transaction event s b)
recovered_copies tables transaction (events.Swapped b) h s = each_at (λ k x. AreStoredIn tables x) (transaction s) b.number Absent (absent_stored tables) (λ k other. h s k)
recovered_copies tables transaction event h s = h s

-- Every step.

pub record Holds (p : Pool) (phases : ℕ → Phase) : Type 0 where
  pub invariant : Invariant p.tracked
  pub counts : CountsBoth p.gate (world_of p).gate phases
  pub still : IsStill p.gate
  pub one : QuietIsOne p.gate phases
  pub fits : AllFit p phases
  pub free : AllFree p
  pub lines : AllLines p
  pub copies : (s b : ℕ) → AreStoredIn (world_of p).tables (p.transaction s b)
  pub rests : AllRest p
  pub allowed : AreAllowed (world_of p).tables

module _ (p : Pool) (phases : ℕ → Phase) (h : Holds p phases) where
  same_attached : (world_of p).gate.attached ≡ p.gate.attached
  same_attached = ap (λ (g : GateState). g.attached) h.counts.same

  step_invariant : (e : Step) → MayStep p e → MeetsAt phases e → IsFit p e → Invariant (after p e).tracked
  step_invariant (Serve event) may meets fit = event_kept p.tracked event h.invariant h.allowed may.0
  step_invariant (Recover s event) may meets fit = recovered_kept p phases h.invariant h.counts h.still s event may meets h.rests fit
  step_invariant (Answers s b answer) may meets fit =
      answered_kept p s.number b.number answer h.invariant same_attached h.free h.lines h.copies h.allowed (p.asked s.number b.number) refl fit

  copies_in : (e : Step) → IsFit p e → (s b : ℕ) → AreStoredIn (world_of p).tables ((after p e).transaction s b)
  copies_in (Serve event) fit = h.copies
  copies_in (Recover s event) fit = recovered_copies (world_of p).tables p.transaction event h.copies
  copies_in (Answers s b answer) fit =
      answered_copies p s.number b.number answer h.invariant same_attached h.free h.lines h.copies h.allowed (p.asked s.number b.number) fit

  still_call : (call : Option GateCall) → MeetsCall p.gate call → IsStill (gate_after p.gate call)
  still_call None may = h.still
  still_call (Some call) may = step_still p.gate call may h.still

  pub step_holds : (e : Step) → MayStep p e → MeetsAt phases e → IsFit p e → Holds (after p e) (phases_after phases e)
  step_holds e may meets fit = record {
    invariant = step_invariant e may meets fit;
    counts = step_both p phases e may meets h.counts;
    still = subst IsStill (sym (gate_is p e)) (still_call (call_of e) (step_meets p e may));
    one = subst (λ (g : GateState). QuietIsOne g (phases_after phases e)) (sym (gate_is p e)) (step_one p phases e may meets h.one);
    fits = step_fits p phases e may meets h.fits;
    free = step_free p phases e may meets (subst (λ a. a.bits < 256) same_attached h.invariant.few) h.one h.fits h.free;
    lines = step_lines p e may h.lines;
    copies = λ s b. subst (λ (ts : List TableDef). AreStoredIn ts ((after p e).transaction s b)) (sym (step_tables p e)) (copies_in e fit s b);
    rests = step_rests p e may h.rests;
    allowed = subst AreAllowed (sym (step_tables p e)) h.allowed;
  }

pub first_holds : (layout : Layout) (policy : ReadPolicy) (attached : BackendSet) → AreAllowed layout.tables → attached.bits < 256 → Holds (first_pool layout policy attached) all_outside
first_holds layout policy attached allowed few = record {
  invariant = holds_first layout.tables policy attached few;
  counts = first_both layout policy attached;
  still = λ three. (refl, refl);
  one = record { one = λ s o not_s not_o. absurd (not_s refl); quiet = λ s not_s. absurd (not_s refl); nobody = λ all. refl };
  fits = λ s. record { agrees = (refl, refl); fits = (refl, refl) };
  free = λ s. tt;
  lines = λ s. record {
    asks = λ b request e. absurd (let z : None ≡ Some request = e in cc);
    tells = λ b answer e. absurd (let z : None ≡ Some answer = e in cc);
  };
  copies = λ s b. absent_stored layout.tables;
  rests = λ s never. absurd (never refl);
  allowed = allowed;
}
