-- The gate's counts are those of the sessions and of the recoveries, at every step.
use Rattle.std.proofs.Common.{◌≡◌, ◌+◌, ◌≤◌, ◌||◌, ◌==◌, ◌^◌, ℕ, List, [], ◌∷◌, inl, inr, refl, ap, sym, subst, ◌∙◌, arith, Bool, true, false, nat_lt, nat_le, if◌then◌else◌}
use Rattle.std.specs.Prelude.{◌⊎◌, Option, Some, None}
use Rattle.pool_base.specs.Sets.{has}
use Rattle.pool_base.specs.declared.session_id.SessionId.{SessionId}
use Rattle.pool_base.specs.declared.backend_id.BackendId.{BackendId}
use Rattle.pool_base.specs.declared.backend_set.BackendSet.{BackendSet}
use Rattle.pool_base.specs.declared.gate_call.GateCall.{GateCall}
use Rattle.pool_base.specs.declared.gate_call.GateCall.TheVariants as calls
use Rattle.pool_base.specs.declared.gate_call.GateAnswer.{GateAnswer}
use Rattle.pool_base.specs.declared.gate_call.GateAnswer.TheVariants.{Seen, Granted, Held, Spent}
use Rattle.backend_trait.specs.declared.request.Request.{Request}
use Rattle.backend_trait.specs.declared.answer.Answer.{Answer}
use Rattle.backend_trait.specs.Rows.{with_at}
use Rattle.session_machine.specs.declared.action.SessionEvent.{SessionEvent}
use Rattle.session_machine.specs.declared.action.SessionEvent.TheVariants as events
use Rattle.session_machine.specs.declared.machine.ReadPolicy.{ReadPolicy}
use Rattle.session_machine.specs.Allowed.{answers_call, is_granted, is_granted_or_spent}
use Rattle.snapshot_gate.specs.declared.state.GateState.{GateState}
use Rattle.snapshot_gate.specs.Function.{view_of, step, Turn, granted, grant, refuse, MayCall}
use Rattle.online_recovery.specs.declared.standing.GateStanding.{GateStanding}
use Rattle.online_recovery.specs.declared.standing.GateStanding.TheVariants.{Out, InSnapshot, Live}
use Rattle.online_recovery.specs.declared.layout.Layout.{Layout}
use Rattle.online_recovery.specs.declared.standing.Quiet.TheVariants.{Open, Copying, Asked, Entered}
use Rattle.online_recovery.specs.Runs.{Phase, phase_called, phase_after, MeetsIn, Meets}
use Rattle.one_copy_model.specs.declared.event.Event.TheVariants.{Of, Act, Lost}
use Rattle.one_copy_model.specs.World.{gate_after as own_after}
use Rattle.one_copy_model.specs.Invariant.{count_below}
use Rattle.recovery_laws.specs.declared.step.Step.{Step}
use Rattle.recovery_laws.specs.declared.step.Step.TheVariants.{Serve, Recover, Answer as Answers}
use Rattle.recovery_laws.specs.Pool.{Pool, first_pool, world_of, sessions_part, call_in, gate_after, world_recovered, answered, after, LetsRecovery, MayStep, IsPlayed, pool_all}
use Rattle.recovery_laws.specs.Phases.{phases_after, phases_all, all_outside, MeetsAt, AreMet}
use Rattle.recovery_laws.proofs.Meeting.{always_met}
use Rattle.recovery_laws.specs.Counting.{is_in_snapshot, is_live, with_counts, CountsBoth}
use Rattle.one_copy_model.proofs.Counts.{bit, count_changed}
use Rattle.one_copy_model.proofs.Places.{with_at-same, with_at-other}
use Rattle.one_copy_model.proofs.Landing.{with_at-self}
use Rattle.one_copy_model.proofs.Quiet.{below_65}

-- A call of a session is granted by both gates, or refused by both.

-- what a granted call leaves of the sessions' gate it leaves of the whole
step_of : (whole : GateState) (snaps live : ℕ) (call : GateCall) → granted (with_counts whole snaps live) call
    ≡ with_counts (granted whole call) (granted (with_counts whole snaps live) call).snaps (granted (with_counts whole snaps live) call).live
step_of whole snaps live calls.Look = refl
step_of whole snaps live calls.EnterSnapshot = refl
step_of whole snaps live calls.LeaveSnapshot = refl
step_of whole snaps live (calls.EnterCommit tables) = refl
step_of whole snaps live calls.LeaveCommit = refl
step_of whole snaps live calls.Finish = refl
step_of whole snaps live (calls.Detach b) = refl
step_of whole snaps live calls.StartCopy = refl
step_of whole snaps live calls.AskQuiet = refl
step_of whole snaps live calls.EnterQuiet = refl
step_of whole snaps live (calls.Attach b) = refl
step_of whole snaps live calls.LeaveQuiet = refl

same_granted : (whole own : GateState) (call : GateCall) → own ≡ with_counts whole own.snaps own.live
    → granted own call ≡ with_counts (granted whole call) (granted own call).snaps (granted own call).live
same_granted whole own call e =
    subst (λ (x : GateState). granted x call ≡ with_counts (granted whole call) (granted x call).snaps (granted x call).live) (sym e)
    (step_of whole own.snaps own.live call)

-- an answer that tells of a grant
abbrev Enters : GateState → GateState → GateAnswer → Type 0
Enters g new answer = ((answer ≡ Spent) × (new ≡ g)) ⊎ ((is_granted answer ≡ true) × (new ≡ granted g calls.EnterSnapshot))

entered : (g : GateState) (t u v : Bool) (answer : GateAnswer)
    → (if t then refuse g (Held g.commits) else if u then refuse g (Held g.quiet) else if v then refuse g Spent else grant g calls.EnterSnapshot).1 ≡ answer
    → is_granted_or_spent answer ≡ true
    → Enters g (if t then refuse g (Held g.commits) else if u then refuse g (Held g.quiet) else if v then refuse g Spent else grant g calls.EnterSnapshot).0 answer
entered g true u v answer e may = absurd (let z : false ≡ true = ap is_granted_or_spent e ∙ may in cc)
entered g false true v answer e may = absurd (let z : false ≡ true = ap is_granted_or_spent e ∙ may in cc)
entered g false false true answer e may = inl (sym e, refl)
entered g false false false answer e may = inr (ap is_granted (sym e), refl)

enters : (g : GateState) (answer : GateAnswer) → (step g calls.EnterSnapshot).1 ≡ answer → is_granted_or_spent answer ≡ true → Enters g (step g calls.EnterSnapshot).0 answer
enters g answer e may = entered g (nat_lt 0 g.commits) (nat_le 2 g.quiet) ((g.snaps + g.live == 65535) || (g.done + g.snaps + g.live == 2 ^ 63)) answer e may

granted_if : (t : Bool) (g : GateState) (n : ℕ) (call : GateCall) → is_granted (if t then refuse g (Held n) else grant g call).1 ≡ true
    → (if t then refuse g (Held n) else grant g call).0 ≡ granted g call
granted_if true g n call may = absurd (let z : false ≡ true = may in cc)
granted_if false g n call may = refl

-- a detachment, by a session or by a recovery
gone_of : (v : Bool) (whole : GateState) (snaps live : ℕ) (b : BackendId)
    → (if v then grant (with_counts whole snaps live) (calls.Detach b) else refuse (with_counts whole snaps live) (Seen (view_of (with_counts whole snaps live)))).0
    ≡ with_counts (if v then grant whole (calls.Detach b) else refuse whole (Seen (view_of whole))).0 snaps live
gone_of true whole snaps live b = refl
gone_of false whole snaps live b = refl

gone_counts : (v : Bool) (g : GateState) (b : BackendId) → let n = (if v then grant g (calls.Detach b) else refuse g (Seen (view_of g))).0 in
    (n.snaps ≡ g.snaps) × ((n.live ≡ g.live) × ((n.commits ≡ g.commits) × (n.done ≡ g.done)))
gone_counts true g b = (refl, (refl, (refl, refl)))
gone_counts false g b = (refl, (refl, (refl, refl)))

module _ (phases : ℕ → Phase) where
  -- both gates grant a call of a session: each count is the sessions' or the whole's, and moves alike
  both : (whole own : GateState) (call : GateCall) → answers_call call (Granted (view_of whole)) ≡ true → MayCall own call → CountsBoth whole own phases
      → CountsBoth (granted whole call) (granted own call) phases
  both whole own calls.Look may meets h = h
  both whole own calls.EnterSnapshot may meets h = record {
    same = same_granted whole own calls.EnterSnapshot h.same;
    snaps = let e = h.snaps in omega (arith, e);
    live = h.live;
    commits = h.commits;
  }
  both whole own calls.LeaveSnapshot may meets h = record {
    same = same_granted whole own calls.LeaveSnapshot h.same;
    snaps = let e = h.snaps in omega (arith, e, meets);
    live = let e = h.live in omega (arith, e);
    commits = let e = h.commits in omega (arith, e);
  }
  both whole own (calls.EnterCommit tables) may meets h = record {
    same = same_granted whole own (calls.EnterCommit tables) h.same;
    snaps = h.snaps;
    live = h.live;
    commits = omega (arith, meets);
  }
  both whole own calls.LeaveCommit may meets h = record {
    same = same_granted whole own calls.LeaveCommit h.same;
    snaps = h.snaps;
    live = let e = h.live in let f = h.commits in omega (arith, e, f, meets);
    commits = let f = h.commits in omega (arith, f, meets);
  }
  both whole own calls.Finish may meets h = record {
    same = same_granted whole own calls.Finish h.same;
    snaps = h.snaps;
    live = let e = h.live in omega (arith, e, meets);
    commits = omega (arith, meets);
  }
  both whole own (calls.Detach b) may meets h = absurd (let z : false ≡ true = may in cc)
  both whole own calls.StartCopy may meets h = absurd (let z : false ≡ true = may in cc)
  both whole own calls.AskQuiet may meets h = absurd (let z : false ≡ true = may in cc)
  both whole own calls.EnterQuiet may meets h = absurd (let z : false ≡ true = may in cc)
  both whole own (calls.Attach b) may meets h = absurd (let z : false ≡ true = may in cc)
  both whole own calls.LeaveQuiet may meets h = absurd (let z : false ≡ true = may in cc)

  moved_to : (whole own more less : GateState) → more ≡ whole → less ≡ own → CountsBoth whole own phases → CountsBoth more less phases
  moved_to whole own more less e f h = subst (λ (x : GateState). CountsBoth x less phases) (sym e) (subst (λ (y : GateState). CountsBoth whole y phases) (sym f) h)

  -- the snapshot is entered at both gates, or its counts are spent at both
  enters_both : (whole own : GateState) (answer : GateAnswer) → Enters whole (step whole calls.EnterSnapshot).0 answer → Enters own (step own calls.EnterSnapshot).0 answer
      → CountsBoth whole own phases → CountsBoth (step whole calls.EnterSnapshot).0 (step own calls.EnterSnapshot).0 phases
  enters_both whole own answer (inl a) (inl b) h = moved_to whole own _ _ a.1 b.1 h
  enters_both whole own answer (inr a) (inr b) h = moved_to _ _ _ _ a.1 b.1 (both whole own calls.EnterSnapshot refl tt h)
  enters_both whole own answer (inl a) (inr b) h = absurd (let z : false ≡ true = ap is_granted (sym a.0) ∙ b.0 in cc)
  enters_both whole own answer (inr a) (inl b) h = absurd (let z : false ≡ true = ap is_granted (sym b.0) ∙ a.0 in cc)

  called_both : (whole own : GateState) (call : GateCall) (answer : GateAnswer) → answers_call call answer ≡ true → MayCall own call
      → (step whole call).1 ≡ answer → (step own call).1 ≡ answer → CountsBoth whole own phases → CountsBoth (step whole call).0 (step own call).0 phases
  called_both whole own calls.Look answer may meets e f h = h
  called_both whole own calls.EnterSnapshot answer may meets e f h = enters_both whole own answer (enters whole answer e may) (enters own answer f may) h
  called_both whole own calls.LeaveSnapshot answer may meets e f h = both whole own calls.LeaveSnapshot refl meets h
  called_both whole own (calls.EnterCommit tables) answer may meets e f h =
      moved_to _ _ _ _
      (granted_if (nat_lt 0 whole.snaps) whole whole.snaps (calls.EnterCommit tables) (ap is_granted e ∙ may))
      (granted_if (nat_lt 0 own.snaps) own own.snaps (calls.EnterCommit tables) (ap is_granted f ∙ may))
      (both whole own (calls.EnterCommit tables) refl meets h)
  called_both whole own calls.LeaveCommit answer may meets e f h = both whole own calls.LeaveCommit refl meets h
  called_both whole own calls.Finish answer may meets e f h = both whole own calls.Finish refl meets h
  called_both whole own (calls.Detach b) answer may meets e f h = absurd (let z : false ≡ true = may in cc)
  called_both whole own calls.StartCopy answer may meets e f h = absurd (let z : false ≡ true = may in cc)
  called_both whole own calls.AskQuiet answer may meets e f h = absurd (let z : false ≡ true = may in cc)
  called_both whole own calls.EnterQuiet answer may meets e f h = absurd (let z : false ≡ true = may in cc)
  called_both whole own (calls.Attach b) answer may meets e f h = absurd (let z : false ≡ true = may in cc)
  called_both whole own calls.LeaveQuiet answer may meets e f h = absurd (let z : false ≡ true = may in cc)

  -- a detachment

  detached_both : (whole own : GateState) (b : BackendId) → CountsBoth whole own phases → CountsBoth (step whole (calls.Detach b)).0 (step own (calls.Detach b)).0 phases
  detached_both whole own b h =
      let w = gone_counts (has whole.attached.bits b.number) whole b in
      let o = gone_counts (has own.attached.bits b.number) own b in
      record {
        same =
            subst (λ (x : GateState). (step x (calls.Detach b)).0 ≡ with_counts (step whole (calls.Detach b)).0 (step x (calls.Detach b)).0.snaps (step x (calls.Detach b)).0.live) (sym h.same)
            (let z = gone_counts (has whole.attached.bits b.number) (with_counts whole own.snaps own.live) b in
            gone_of (has whole.attached.bits b.number) whole own.snaps own.live b
            ∙ ap (λ n. with_counts (step whole (calls.Detach b)).0 n own.live) (sym z.0)
            ∙ ap (λ n. with_counts (step whole (calls.Detach b)).0 (step (with_counts whole own.snaps own.live) (calls.Detach b)).0.snaps n) (sym z.1.0));
        snaps = w.0 ∙ h.snaps ∙ ap (λ n. n + count_below (λ s. is_in_snapshot (phases s).gate) 65) (sym o.0);
        live = w.1.0 ∙ h.live ∙ ap (λ n. n + count_below (λ s. is_live (phases s).gate) 65) (sym o.1.0);
        commits = subst (λ n. n ≤ (step own (calls.Detach b)).0.live) (sym o.1.1.0) (subst (λ n. own.commits ≤ n) (sym o.1.0) h.commits);
      }

-- A recovery's call: its own counts move with the gate's.

module _ (whole own new : GateState) (phases : ℕ → Phase) (s : SessionId) (x : Phase) where
  counts_turn : (test : GateStanding → Bool) (was is now : ℕ) → now + bit (test (phases s.number).gate) ≡ was + bit (test x.gate)
      → was ≡ is + count_below (λ o. test (phases o).gate) 65 → now ≡ is + count_below (λ o. test (with_at phases s.number x o).gate) 65
  counts_turn test was is now moves old =
      let before : ℕ → Bool = λ o. test (phases o).gate in
      let behind : ℕ → Bool = λ o. test (with_at phases s.number x o).gate in
      let turn : count_below before 65 + bit (behind s.number) ≡ count_below behind 65 + bit (before s.number) =
      count_changed before behind 65 s.number (below_65 s) (λ o other. ap (λ (y : Phase). test y.gate) (sym (with_at-other phases s.number x o other))) in
      let at : bit (behind s.number) ≡ bit (test x.gate) = ap (λ (y : Phase). bit (test y.gate)) (with_at-same phases s.number x) in
      omega (arith, turn, at, moves, old)

  abbrev part_with : ℕ → ℕ → GateState
  part_with commits done = record (sessions_part own new) { commits = commits; done = done }

  keeps_both : new.commits ≡ whole.commits → new.done ≡ whole.done
      → new.snaps + bit (is_in_snapshot (phases s.number).gate) ≡ whole.snaps + bit (is_in_snapshot x.gate)
      → new.live + bit (is_live (phases s.number).gate) ≡ whole.live + bit (is_live x.gate)
      → CountsBoth whole own phases → CountsBoth new (sessions_part own new) (with_at phases s.number x)
  keeps_both commits done snaps live h = record {
    same =
        ap (λ n. part_with n own.done) (ap (λ (g : GateState). g.commits) h.same ∙ sym commits)
        ∙ ap (λ n. part_with new.commits n) (ap (λ (g : GateState). g.done) h.same ∙ sym done);
    snaps = counts_turn is_in_snapshot whole.snaps own.snaps new.snaps snaps h.snaps;
    live = counts_turn is_live whole.live own.live new.live live h.live;
    commits = h.commits;
  }

module _ (whole own : GateState) (phases : ℕ → Phase) (s : SessionId) (h : CountsBoth whole own phases) where
  abbrev Behind : GateCall → Turn → Type 0
  Behind call turn = CountsBoth turn.0 (sessions_part own turn.0) (with_at phases s.number (phase_called (phases s.number) call turn.1))

  stays : (call : GateCall) (answer : GateAnswer) → phase_called (phases s.number) call answer ≡ phases s.number → Behind call (whole, answer)
  stays call answer same =
      subst (λ (x : Phase). CountsBoth whole (sessions_part own whole) (with_at phases s.number x)) (sym same)
      (keeps_both whole own whole phases s (phases s.number) refl refl refl refl h)

  entry : (t u v : Bool) → (phases s.number).gate ≡ Out
      → Behind calls.EnterSnapshot (if t then refuse whole (Held whole.commits) else if u then refuse whole (Held whole.quiet) else if v then refuse whole Spent else grant whole calls.EnterSnapshot)
  entry true u v is = stays calls.EnterSnapshot (Held whole.commits) refl
  entry false true v is = stays calls.EnterSnapshot (Held whole.quiet) refl
  entry false false true is = stays calls.EnterSnapshot Spent refl
  entry false false false is =
      let e : bit (is_in_snapshot (phases s.number).gate) ≡ 0 = ap (λ g. bit (is_in_snapshot g)) is in
      let f : bit (is_live (phases s.number).gate) ≡ 0 = ap (λ g. bit (is_live g)) is in
      keeps_both whole own (granted whole calls.EnterSnapshot) phases s (record (phases s.number) { gate = InSnapshot }) refl refl (omega (arith, e)) (omega (arith, f)) h

  held_or : (t : Bool) (n : ℕ) (call : GateCall) → Behind call (grant whole call) → phase_called (phases s.number) call (Held n) ≡ phases s.number
      → Behind call (if t then refuse whole (Held n) else grant whole call)
  held_or true n call passed same = stays call (Held n) same
  held_or false n call passed same = passed

  spent_or : (t : Bool) (call : GateCall) → Behind call (grant whole call) → phase_called (phases s.number) call Spent ≡ phases s.number
      → Behind call (if t then refuse whole Spent else grant whole call)
  spent_or true call passed same = stays call Spent same
  spent_or false call passed same = passed

  pub turned_both : (call : GateCall) → MeetsIn (phases s.number) call → MayCall whole call → Behind call (step whole call)
  turned_both calls.Look meets may = stays calls.Look (Seen (view_of whole)) refl
  turned_both calls.EnterSnapshot meets may =
      entry (nat_lt 0 whole.commits) (nat_le 2 whole.quiet) ((whole.snaps + whole.live == 65535) || (whole.done + whole.snaps + whole.live == 2 ^ 63)) meets.0
  turned_both calls.LeaveSnapshot meets may =
      let e : bit (is_in_snapshot (phases s.number).gate) ≡ 1 = ap (λ g. bit (is_in_snapshot g)) meets in
      let f : bit (is_live (phases s.number).gate) ≡ 0 = ap (λ g. bit (is_live g)) meets in
      keeps_both whole own (granted whole calls.LeaveSnapshot) phases s (record (phases s.number) { gate = Live }) refl refl (omega (arith, e, may)) (omega (arith, f)) h
  turned_both (calls.EnterCommit tables) meets may = absurd meets
  turned_both calls.LeaveCommit meets may = absurd meets
  turned_both calls.Finish meets may =
      let e : bit (is_in_snapshot (phases s.number).gate) ≡ 0 = ap (λ g. bit (is_in_snapshot g)) meets in
      let f : bit (is_live (phases s.number).gate) ≡ 1 = ap (λ g. bit (is_live g)) meets in
      keeps_both whole own (granted whole calls.Finish) phases s (record (phases s.number) { gate = Out }) refl refl (omega (arith, e)) (omega (arith, f, may)) h
  turned_both (calls.Detach b) meets may = absurd meets
  turned_both calls.StartCopy meets may =
      held_or (nat_lt 0 whole.quiet) whole.quiet calls.StartCopy
      (keeps_both whole own (granted whole calls.StartCopy) phases s (record (phases s.number) { quiet = Copying }) refl refl refl refl h) refl
  turned_both calls.AskQuiet meets may = keeps_both whole own (granted whole calls.AskQuiet) phases s (record (phases s.number) { quiet = Asked }) refl refl refl refl h
  turned_both calls.EnterQuiet meets may =
      held_or (nat_lt 0 (whole.snaps + whole.live)) (whole.snaps + whole.live) calls.EnterQuiet
      (keeps_both whole own (granted whole calls.EnterQuiet) phases s (record (phases s.number) { quiet = Entered }) refl refl refl refl h) refl
  turned_both (calls.Attach b) meets may =
      spent_or (nat_le 4294967280 whole.epoch) (calls.Attach b)
      (keeps_both whole own (granted whole (calls.Attach b)) phases s (phases s.number) refl refl refl refl h) refl
  turned_both calls.LeaveQuiet meets may = keeps_both whole own (granted whole calls.LeaveQuiet) phases s (record (phases s.number) { quiet = Open }) refl refl refl refl h

  left_both : (b : BackendId) → CountsBoth (step whole (calls.Detach b)).0 (sessions_part own (step whole (calls.Detach b)).0) (with_at phases s.number (phases s.number))
  left_both b =
      let n = gone_counts (has whole.attached.bits b.number) whole b in
      keeps_both whole own (step whole (calls.Detach b)).0 phases s (phases s.number) n.1.1.0 n.1.1.1
      (ap (λ k. k + bit (is_in_snapshot (phases s.number).gate)) n.0) (ap (λ k. k + bit (is_live (phases s.number).gate)) n.1.0) h

  same_both : CountsBoth whole own (with_at phases s.number (phases s.number))
  same_both = subst (CountsBoth whole own) (sym (with_at-self phases s.number)) h

-- Each step.

served_both : (p : Pool) (phases : ℕ → Phase) (s : SessionId) (event : SessionEvent) → MayStep p (Serve (Of s event)) → CountsBoth p.gate (world_of p).gate phases
    → CountsBoth (gate_after p.gate (call_in event)) (own_after (world_of p).gate event) phases
served_both p phases s (events.Ordered order) may h = h
served_both p phases s (events.Called call answer) may h = called_both phases p.gate (world_of p).gate call answer may.0.0.1 may.0.1.0 may.1.1.1 may.0.1.1 h
served_both p phases s (events.Posted b request) may h = h
served_both p phases s (events.Taken b answer) may h = h
served_both p phases s (events.Faulted b before count) may h = h
served_both p phases s (events.Detached b cause answer) may h = detached_both phases p.gate (world_of p).gate b h
served_both p phases s (events.Swapped b) may h = h
served_both p phases s (events.Replied outcome status) may h = h
served_both p phases s events.Ended may h = h

recovered_both : (p : Pool) (phases : ℕ → Phase) (s : SessionId) (event : SessionEvent) → Meets (phases s.number) event → LetsRecovery p s.number event → CountsBoth p.gate (world_of p).gate phases
    → CountsBoth (gate_after p.gate (call_in event)) (world_recovered (world_of p) (gate_after p.gate (call_in event)) s.number event).gate (with_at phases s.number (phase_after (phases s.number) event))
recovered_both p phases s (events.Ordered order) meets lets h = same_both p.gate (world_of p).gate phases s h
recovered_both p phases s (events.Called call answer) meets lets h =
    subst (λ a. CountsBoth (step p.gate call).0 (sessions_part (world_of p).gate (step p.gate call).0) (with_at phases s.number (phase_called (phases s.number) call a))) lets.1
    (turned_both p.gate (world_of p).gate phases s h call meets lets.0)
recovered_both p phases s (events.Posted b request) meets lets h = same_both p.gate (world_of p).gate phases s h
recovered_both p phases s (events.Taken b answer) meets lets h = same_both p.gate (world_of p).gate phases s h
recovered_both p phases s (events.Faulted b before count) meets lets h = same_both p.gate (world_of p).gate phases s h
recovered_both p phases s (events.Detached b cause answer) meets lets h = left_both p.gate (world_of p).gate phases s h b
recovered_both p phases s (events.Swapped b) meets lets h = same_both p.gate (world_of p).gate phases s h
recovered_both p phases s (events.Replied outcome status) meets lets h = same_both p.gate (world_of p).gate phases s h
recovered_both p phases s events.Ended meets lets h = same_both p.gate (world_of p).gate phases s h

answered_both : (p : Pool) (phases : ℕ → Phase) (s b : ℕ) (answer : Answer) (request : Option Request) → CountsBoth p.gate (world_of p).gate phases
    → CountsBoth (answered p s b answer request).gate (world_of (answered p s b answer request)).gate phases
answered_both p phases s b answer None h = h
answered_both p phases s b answer (Some request) h = h

pub step_both : (p : Pool) (phases : ℕ → Phase) (e : Step) → MayStep p e → MeetsAt phases e → CountsBoth p.gate (world_of p).gate phases
    → CountsBoth (after p e).gate (world_of (after p e)).gate (phases_after phases e)
step_both p phases (Serve (Of s event)) may meets h = served_both p phases s event may h
step_both p phases (Serve (Act s b answer)) may meets h = h
step_both p phases (Serve (Lost b)) may meets h = h
step_both p phases (Recover s event) may meets h = recovered_both p phases s event meets may.1 h
step_both p phases (Answers s b answer) may meets h = answered_both p phases s.number b.number answer (p.asked s.number b.number) h

all_both : (p : Pool) (phases : ℕ → Phase) (es : List Step) → IsPlayed p es → AreMet phases es → CountsBoth p.gate (world_of p).gate phases
    → CountsBoth (pool_all p es).gate (world_of (pool_all p es)).gate (phases_all phases es)
all_both p phases [] played met h = h
all_both p phases (e ∷ es) played met h = all_both (after p e) (phases_after phases e) es played.1 met.1 (step_both p phases e played.0 met.0 h)

pub first_both : (layout : Layout) (policy : ReadPolicy) (attached : BackendSet) → CountsBoth (first_pool layout policy attached).gate (world_of (first_pool layout policy attached)).gate all_outside
first_both layout policy attached = record { same = refl; snaps = refl; live = refl; commits = (let z : 0 ≤ 0 = omega arith in z) }

pub always_both : (layout : Layout) (policy : ReadPolicy) (attached : BackendSet) (es : List Step) → IsPlayed (first_pool layout policy attached) es
    → CountsBoth (pool_all (first_pool layout policy attached) es).gate (world_of (pool_all (first_pool layout policy attached) es)).gate (phases_all all_outside es)
always_both layout policy attached es played =
    all_both (first_pool layout policy attached) all_outside es played (always_met layout policy attached es played) (first_both layout policy attached)
