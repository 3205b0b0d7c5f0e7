-- Behind each event of a recovery each recovery has its facts.
use Rattle.std.proofs.Common.{◌≡◌, ◌≢◌, ◌+◌, ◌||◌, ◌==◌, ◌^◌, ℕ, Bool, true, false, List, refl, sym, ap, subst, ◌∙◌, nat_lt, nat_le, if◌then◌else◌}
use Rattle.std.specs.Prelude.{slice_get, Option, Some, None}
use Rattle.pool_base.specs.Sets.{has}
use Rattle.pool_base.specs.declared.session_id.SessionId.{SessionId}
use Rattle.pool_base.specs.declared.backend_id.BackendId.{BackendId}
use Rattle.pool_base.specs.declared.gate_call.GateCall.{GateCall}
use Rattle.pool_base.specs.declared.gate_call.GateCall.TheVariants as calls
use Rattle.pool_base.specs.declared.gate_call.GateAnswer.{GateAnswer}
use Rattle.pool_base.specs.declared.gate_call.GateAnswer.TheVariants.{Seen, Granted, Held as IsHeld, Spent}
use Rattle.schema.specs.declared.catalogue.TableDef.{TableDef}
use Rattle.backend_trait.specs.Typed.{AreAllStored}
use Rattle.backend_trait.specs.declared.request.Request.{Request}
use Rattle.backend_trait.specs.declared.answer.Answer.{Answer}
use Rattle.backend_trait.specs.Store.{Store, prepared}
use Rattle.session_orders.specs.declared.order.Order.{Order}
use Rattle.session_machine.specs.declared.action.Cause.{Cause}
use Rattle.session_machine.specs.declared.action.SessionEvent.{SessionEvent}
use Rattle.session_machine.specs.declared.action.SessionEvent.TheVariants as events
use Rattle.session_machine.specs.declared.machine.Point.TheVariants as points
use Rattle.session_machine.proofs.Backends.{same_backend}
use Rattle.snapshot_gate.specs.declared.state.GateState.{GateState}
use Rattle.snapshot_gate.specs.Function.{step, Turn, grant, refuse, view_of}
use Rattle.online_recovery.specs.declared.action.RecoveryAction.TheVariants as actions
use Rattle.online_recovery.specs.declared.standing.Quiet.TheVariants.{Open, Copying, Entered}
use Rattle.online_recovery.specs.declared.standing.Ending.{Ending}
use Rattle.online_recovery.specs.declared.standing.Ending.TheVariants.{Attached, Refused, Leaves}
use Rattle.online_recovery.specs.declared.standing.Owed.{Owed}
use Rattle.online_recovery.specs.declared.standing.Owed.TheVariants.{Transaction as IsOwed, Snapshot, LiveTransaction, TheQuiet, Nothing}
use Rattle.online_recovery.specs.declared.standing.Task.{Task}
use Rattle.online_recovery.specs.declared.standing.Due.{Due}
use Rattle.online_recovery.specs.declared.standing.Due.TheVariants.{Resting, LookDue, StartDue, SwapDue, Waiting, LostDue, Closing, Undoing}
use Rattle.online_recovery.specs.declared.standing.Held.{Held}
use Rattle.online_recovery.specs.declared.standing.Standing.{Standing}
use Rattle.online_recovery.specs.State.{backend_at, side_of, owed}
use Rattle.online_recovery.specs.Rules.{action_at, closing_action, after_at, after as recovery_after}
use Rattle.online_recovery.specs.Allowed.{answers_call}
use Rattle.online_recovery.specs.Runs.{Phase, Meets}
use Rattle.one_copy_model.specs.Tracking.{single}
use Rattle.one_copy_model.proofs.Places.{each_at, with_at-same, with_at-other}
use Rattle.recovery_laws.specs.declared.step.Step.TheVariants.{Recover}
use Rattle.recovery_laws.specs.Pool.{Pool, world_of, told_after, after, MayStep}
use Rattle.recovery_laws.proofs.GateQuieting.{open_unless}
use Rattle.recovery_laws.proofs.Basing.{quiet_rows}
use Rattle.recovery_laws.proofs.Lining.{WaitsAt}
use Rattle.recovery_laws.proofs.Stepping.{Holds, step_tables}
use Rattle.recovery_laws.proofs.Scenes.{Scene, course_of, place_at, AreOf, After, WaitsBy, Stands}
use Rattle.recovery_laws.proofs.Unnumbered.{plain_first, plain_there}
use Rattle.recovery_laws.proofs.Pointing.{clear_by}
use Rattle.recovery_laws.proofs.Owing.{HasQuiet}
use Rattle.recovery_laws.proofs.Acting.{none_stored}
use Rattle.recovery_laws.proofs.Leading.{Known, seen_by}
use Rattle.recovery_laws.proofs.Ways.{ShowsAll, ordered_fares, called_fares, attach_fares, posted_fares, taken_fares, faulted_fares, detached_fares, swapped_fares}
use Rattle.recovery_laws.proofs.Following.{IsAlone, scene_of, StandsIn, AllStand, is_within, without_facts, within_free, within_busy, past_stands, IsFair, recovered_past}
use Rattle.recovery_laws.proofs.Fitness.{Copied, place_is}

-- What is known of each scene.

shaped_rows : (q : Pool) (phases : ℕ → Phase) → Holds q phases → (b : ℕ) → AreAllStored (world_of q).tables ((world_of q).store b).rows
shaped_rows q phases h b = subst (λ (ts : List TableDef). AreAllStored ts ((world_of q).store b).rows) (h.invariant.tables b) (h.invariant.shaped b).rows

pub known_of : (q : Pool) (phases : ℕ → Phase) → Holds q phases → (s b : ℕ) → Known (q.transaction s) (scene_of q b)
known_of q phases h s b = record {
  there = plain_there (world_of q).tables q.tracked.history h.invariant.run;
  rows = none_stored (world_of q).tables ((world_of q).store b).rows (shaped_rows q phases h b);
  stored = h.copies s;
}

-- under entered quiet the rows of the single run are those of a backend
single_of : (q : Pool) (phases : ℕ → Phase) → Holds q phases → q.gate.quiet ≡ 3 → (k : ℕ) → has q.gate.attached.bits k ≡ true → AreOf (world_of q).tables (single q.tracked).rows
single_of q phases h three k here =
    subst (AreOf (world_of q).tables) (quiet_rows q phases h three k here) (none_stored (world_of q).tables ((world_of q).store k).rows (shaped_rows q phases h k))

-- What the gate's answer shows is what the gate has behind the call.

abbrev Tells : Turn → Type 0
Tells n = ShowsAll n.0.attached.bits n.0.touched n.1

either_tells : (t : Bool) (x y : Turn) → Tells x → Tells y → Tells (if t then x else y)
either_tells true x y e f = e
either_tells false x y e f = f

step_tells : (g : GateState) (call : GateCall) → Tells (step g call)
step_tells g calls.Look = (refl, refl)
step_tells g calls.EnterSnapshot =
    either_tells (nat_lt 0 g.commits) (refuse g (IsHeld g.commits)) _ tt
    (either_tells (nat_le 2 g.quiet) (refuse g (IsHeld g.quiet)) _ tt
    (either_tells ((g.snaps + g.live == 65535) || (g.done + g.snaps + g.live == 2 ^ 63)) (refuse g Spent) (grant g calls.EnterSnapshot) tt (refl, refl)))
step_tells g calls.LeaveSnapshot = (refl, refl)
step_tells g (calls.EnterCommit tables) = either_tells (nat_lt 0 g.snaps) (refuse g (IsHeld g.snaps)) (grant g (calls.EnterCommit tables)) tt (refl, refl)
step_tells g calls.LeaveCommit = (refl, refl)
step_tells g calls.Finish = (refl, refl)
step_tells g (calls.Detach b) = either_tells (has g.attached.bits b.number) (grant g (calls.Detach b)) (refuse g (Seen (view_of g))) (refl, refl) (refl, refl)
step_tells g calls.StartCopy = either_tells (nat_lt 0 g.quiet) (refuse g (IsHeld g.quiet)) (grant g calls.StartCopy) tt (refl, refl)
step_tells g calls.AskQuiet = (refl, refl)
step_tells g calls.EnterQuiet = either_tells (nat_lt 0 (g.snaps + g.live)) (refuse g (IsHeld (g.snaps + g.live))) (grant g calls.EnterQuiet) tt (refl, refl)
step_tells g (calls.Attach b) = either_tells (nat_le 4294967280 g.epoch) (refuse g Spent) (grant g (calls.Attach b)) tt (refl, refl)
step_tells g calls.LeaveQuiet = (refl, refl)

-- an EnterQuiet that is answered is granted
quiet_by : (t : Bool) (g : GateState) (n : ℕ) (answer : GateAnswer) → answers_call calls.EnterQuiet answer ≡ true
    → (if t then refuse g (IsHeld n) else grant g calls.EnterQuiet).1 ≡ answer → (if t then refuse g (IsHeld n) else grant g calls.EnterQuiet).0.quiet ≡ 3
quiet_by true g n (Seen view) may e = absurd (let z : false ≡ true = may in cc)
quiet_by true g n (Granted view) may e = absurd (let z : IsHeld n ≡ Granted view = e in cc)
quiet_by true g n (IsHeld count) may e = absurd (let z : false ≡ true = may in cc)
quiet_by true g n Spent may e = absurd (let z : false ≡ true = may in cc)
quiet_by false g n answer may e = refl

quiet_then : (g : GateState) (call : GateCall) (answer : GateAnswer) → calls.EnterQuiet ≡ call → answers_call call answer ≡ true → (step g call).1 ≡ answer → (step g call).0.quiet ≡ 3
quiet_then g call answer e may is =
    subst (λ (k : GateCall). (step g k).0.quiet ≡ 3) e
    (quiet_by (nat_lt 0 (g.snaps + g.live)) g (g.snaps + g.live) answer
    (subst (λ (k : GateCall). answers_call k answer ≡ true) (sym e) may) (subst (λ (k : GateCall). (step g k).1 ≡ answer) (sym e) is))

same_wait : (a b : BackendId) → actions.WaitFor a ≡ actions.WaitFor b → a ≡ b
same_wait a b e = cc

same_call : (a b : GateCall) → actions.Gate a ≡ actions.Gate b → a ≡ b
same_call a b e = cc

-- What is due where a swap, a detachment or a post comes.

swap_without : (held : Held) (at : Due) (b : BackendId) → action_at held at ≡ actions.Swap b → is_within at ≡ false
swap_without held Resting b e = refl
swap_without held (LookDue number) b e = refl
swap_without held StartDue b e = refl
swap_without held SwapDue b e = refl
swap_without held (LostDue ending before count) b e = refl
swap_without held (Closing ending) b e = refl
swap_without held (Undoing side ending) b e = refl
swap_without held at b e = absurd (cc)

detach_without : (held : Held) (at : Due) (b : BackendId) (cause : Cause) → action_at held at ≡ actions.Detach b cause → is_within at ≡ false
detach_without held Resting b cause e = refl
detach_without held (LookDue number) b cause e = refl
detach_without held StartDue b cause e = refl
detach_without held SwapDue b cause e = refl
detach_without held (LostDue ending before count) b cause e = refl
detach_without held (Closing ending) b cause e = refl
detach_without held (Undoing side ending) b cause e = refl
detach_without held at b cause e = absurd (cc)

closes_else : (held : Held) (ending : Ending) (o : Owed) (b : BackendId) → closing_action held ending o ≡ actions.Swap b → ⊥
closes_else held ending (IsOwed side) b e = absurd (cc)
closes_else held ending Snapshot b e = absurd (cc)
closes_else held ending LiveTransaction b e = absurd (cc)
closes_else held ending TheQuiet b e = absurd (cc)
closes_else held Attached Nothing b e = absurd (cc)
closes_else held (Refused code) Nothing b e = absurd (cc)
closes_else held Leaves Nothing b e = absurd (cc)

swap_target : (held : Held) (at : Due) (b : BackendId) → action_at held at ≡ actions.Swap b → held.target ≡ b
swap_target held SwapDue b e = (let same : held.target ≡ b = cc in same)
swap_target held (Closing ending) b e = absurd (closes_else held ending (owed held) b e)
swap_target held at b e = absurd (cc)

post_waits : (held : Held) (at : Due) (k : BackendId) (request : Request) (b : ℕ) → action_at held at ≡ actions.Post k request → WaitsAt held at b → ⊥
post_waits held (Waiting task) k request b e waits = absurd (cc)
post_waits held (Undoing side ending) k request b e waits = absurd (cc)
post_waits held at k request b e waits = waits

none_told : (x : Option Answer) → ((answer : Answer) → x ≡ Some answer → ⊥) → x ≡ None
none_told None f = refl
none_told (Some answer) f = absurd (f answer refl)

-- what is taken is what the task that waits has been told
taken_after : (P : Type 0) (x : Scene) (told : ℕ → Option Answer) (held : Held) (task : Task) (at : Due) (answer : Answer) (b : BackendId) → at ≡ Waiting task → action_at held at ≡ actions.WaitFor b
    → told b.number ≡ Some answer → Stands P x told (course_of held) at → P × After x (course_of held) task answer
taken_after P x told held task at answer b e due is stands =
    let w : backend_at held (side_of task) ≡ b = same_wait (backend_at held (side_of task)) b (sym (ap (action_at held) e) ∙ due) in
    let there : told (place_at (course_of held) (side_of task)) ≡ Some answer = ap told (sym (place_is held (side_of task)) ∙ ap (λ (k : BackendId). k.number) w) ∙ is in
    let h : Stands P x told (course_of held) (Waiting task) = subst (λ (d : Due). Stands P x told (course_of held) d) e stands in
    (h.0, subst (λ (t : Option Answer). WaitsBy x (course_of held) task t) there h.1)

detach_closes : (held : Held) (ending : Ending) (o : Owed) (b : BackendId) (cause : Cause) → closing_action held ending o ≡ actions.Detach b cause → ⊥
detach_closes held ending (IsOwed side) b cause e = absurd (cc)
detach_closes held ending Snapshot b cause e = absurd (cc)
detach_closes held ending LiveTransaction b cause e = absurd (cc)
detach_closes held ending TheQuiet b cause e = absurd (cc)
detach_closes held Attached Nothing b cause e = absurd (cc)
detach_closes held (Refused code) Nothing b cause e = absurd (cc)
detach_closes held Leaves Nothing b cause e = absurd (cc)

detach_lost : (held : Held) (at : Due) (b : BackendId) (cause : Cause) → HasQuiet held.quiet at → action_at held at ≡ actions.Detach b cause → held.quiet ≢ Open
detach_lost held (LostDue ending before count) b cause q e = q
detach_lost held (Closing ending) b cause q e = absurd (detach_closes held ending (owed held) b cause e)
detach_lost held at b cause q e = absurd (cc)

-- An event of a recovery.

module _ (p : Pool) (phases : ℕ → Phase) (h : Copied p phases) (s : SessionId) (event : SessionEvent) (may : MayStep p (Recover s event)) (meets : Meets (phases s.number) event)
    (later : ℕ → Phase) (holds : Holds (after p (Recover s event)) later) where
  abbrev q : Pool
  q = after p (Recover s event)

  abbrev r : Standing
  r = p.recovery s.number

  abbrev ph : Phase
  ph = phases s.number

  -- Those of others: another has none of the quiet where one has.

  open_here : (o : ℕ) → o ≢ s.number → ((phases o).quiet ≡ Open → ⊥) → ph.quiet ≡ Open
  open_here o other busy = open_unless ph.quiet (λ never. other (h.holds.one.one o s.number busy never))

  foreign_fair : (event : SessionEvent) → Meets ph event → MayStep p (Recover s event) → ph.quiet ≡ Open → IsFair event
  foreign_fair (events.Called (calls.Attach b) answer) meets may opened = let z : Entered ≡ Open = sym meets.1 ∙ opened in cc
  foreign_fair (events.Called calls.Look answer) meets may opened = tt
  foreign_fair (events.Called calls.EnterSnapshot answer) meets may opened = tt
  foreign_fair (events.Called calls.LeaveSnapshot answer) meets may opened = tt
  foreign_fair (events.Called (calls.EnterCommit tables) answer) meets may opened = tt
  foreign_fair (events.Called calls.LeaveCommit answer) meets may opened = tt
  foreign_fair (events.Called calls.Finish answer) meets may opened = tt
  foreign_fair (events.Called (calls.Detach b) answer) meets may opened = tt
  foreign_fair (events.Called calls.StartCopy answer) meets may opened = tt
  foreign_fair (events.Called calls.AskQuiet answer) meets may opened = tt
  foreign_fair (events.Called calls.EnterQuiet answer) meets may opened = tt
  foreign_fair (events.Called calls.LeaveQuiet answer) meets may opened = tt
  foreign_fair (events.Detached b cause answer) meets may opened =
      detach_lost r.held r.due b cause (h.ups s.number).has may.0.0 (sym (h.holds.fits s.number).agrees.1 ∙ opened)
  foreign_fair (events.Swapped b) meets may opened = let z : Copying ≡ Open = sym meets.1 ∙ opened in cc
  foreign_fair (events.Ordered order) meets may opened = tt
  foreign_fair (events.Posted b request) meets may opened = tt
  foreign_fair (events.Taken b answer) meets may opened = tt
  foreign_fair (events.Faulted b before count) meets may opened = tt
  foreign_fair (events.Replied outcome status) meets may opened = tt
  foreign_fair events.Ended meets may opened = tt

  -- from where it stood
  stays : (o : ℕ) (told : ℕ → Option Answer) → (is_within (p.recovery o).due ≡ true → IsFair event) → StandsIn p o told (p.recovery o).held (p.recovery o).due
      → StandsIn q o told (p.recovery o).held (p.recovery o).due
  stays o told fair stands = by (is_within (p.recovery o).due) refl
    where
      by : (v : Bool) → is_within (p.recovery o).due ≡ v → StandsIn q o told (p.recovery o).held (p.recovery o).due
      by false e =
          without_facts (IsAlone (world_of q) (p.recovery o).held.target.number) (seen_by (q.transaction o) (scene_of q (p.recovery o).held.target.number) (course_of (p.recovery o).held)) told
          (course_of (p.recovery o).held) (p.recovery o).due e
      by true e =
          past_stands p phases h.holds h.masked (Recover s event) may o (p.recovery o).held (within_busy (p.recovery o).due (phases o) e (h.holds.fits o).fits) (h.holds.fits o).agrees.1 told (p.recovery o).due
          (recovered_past p s (p.recovery o).held.target.number event ph (fair e) meets o) stands

  told_other : (o : ℕ) → o ≢ s.number → q.told o ≡ p.told o
  told_other o other = by event
    where
      by : (event : SessionEvent) → told_after p.told s.number event o ≡ p.told o
      by (events.Taken b answer) = with_at-other p.told s.number _ o other
      by event = refl

  other_stands : (o : ℕ) → o ≢ s.number → StandsIn q o (q.told o) (p.recovery o).held (p.recovery o).due
  other_stands o other =
      subst (λ (told : ℕ → Option Answer). StandsIn q o told (p.recovery o).held (p.recovery o).due) (sym (told_other o other))
      (stays o (p.told o)
      (λ e. foreign_fair event meets may (open_here o other (within_busy (p.recovery o).due (phases o) e (h.holds.fits o).fits)))
      (h.stand o))

  -- Its own.

  pub own_known : (b : ℕ) → Known (q.transaction s.number) (scene_of q b)
  own_known = known_of q later holds s.number

  pub own_laid : r.held.layout.tables ≡ (world_of q).tables
  own_laid = (h.ups s.number).laid ∙ sym (step_tables p (Recover s event))

  pub own_goes : IsFair event → StandsIn q s.number (p.told s.number) r.held r.due
  own_goes fair = stays s.number (p.told s.number) (λ e. fair) (h.stand s.number)

abbrev pub Own : Pool → SessionId → SessionEvent → Type 0
Own p s event =
    StandsIn (after p (Recover s event)) s.number ((after p (Recover s event)).told s.number) (recovery_after (p.recovery s.number) event).held (recovery_after (p.recovery s.number) event).due

module _ (p : Pool) (phases : ℕ → Phase) (h : Copied p phases) (s : SessionId) (later : ℕ → Phase) where
  abbrev held : Held
  held = (p.recovery s.number).held

  abbrev at : Due
  at = (p.recovery s.number).due

  abbrev alone : SessionEvent → ℕ → Type 0
  alone event b = IsAlone (world_of (after p (Recover s event))) b

  abbrev IsNext : SessionEvent → Type 0
  IsNext event = MayStep p (Recover s event) × Meets (phases s.number) event × Holds (after p (Recover s event)) later

  own_ordered : (order : Order) → IsNext (events.Ordered order) → Own p s (events.Ordered order)
  unfolding after_at
  own_ordered order n =
      let event = events.Ordered order in
      let q = after p (Recover s event) in
      ordered_fares (alone event) (q.told s.number) (q.transaction s.number) (scene_of q) (own_known p phases h s event n.0 n.1 later n.2) held at order.body
      (own_goes p phases h s event n.0 n.1 later n.2 tt)

  own_posted : (b : BackendId) (request : Request) → IsNext (events.Posted b request) → Own p s (events.Posted b request)
  unfolding after_at
  own_posted b request n =
      let event = events.Posted b request in
      let q = after p (Recover s event) in
      posted_fares (alone event) (q.told s.number) (q.transaction s.number) (scene_of q) (own_known p phases h s event n.0 n.1 later n.2) held at
      (λ k. none_told (p.told s.number k) (λ answer e. post_waits held at b request k n.0.0 ((h.holds.lines s.number).tells k answer e).0))
      (own_goes p phases h s event n.0 n.1 later n.2 tt)

  own_taken : (b : BackendId) (answer : Answer) → IsNext (events.Taken b answer) → Own p s (events.Taken b answer)
  unfolding after_at
  own_taken b answer n =
      let event = events.Taken b answer in
      let q = after p (Recover s event) in
      taken_fares (alone event) (q.told s.number) (q.transaction s.number) (scene_of q) (own_known p phases h s event n.0 n.1 later n.2) held (phases s.number) at answer b n.0.0.0
      (own_laid p phases h s event n.0 n.1 later n.2) (h.holds.fits s.number).agrees (h.holds.fits s.number).fits
      (λ task e. taken_after (alone event held.target.number) (seen_by (q.transaction s.number) (scene_of q held.target.number) (course_of held)) (p.told s.number) held task at answer b e n.0.0.0 n.0.1
      (own_goes p phases h s event n.0 n.1 later n.2 tt))

  own_faulted : (b : BackendId) (before count : ℕ) → IsNext (events.Faulted b before count) → Own p s (events.Faulted b before count)
  unfolding after_at
  own_faulted b before count n =
      let event = events.Faulted b before count in
      let q = after p (Recover s event) in
      faulted_fares (alone event) (q.told s.number) (q.transaction s.number) (scene_of q) (own_known p phases h s event n.0 n.1 later n.2) held at before count
      (own_goes p phases h s event n.0 n.1 later n.2 tt)

  own_detached : (b : BackendId) (cause : Cause) (answer : GateAnswer) → IsNext (events.Detached b cause answer) → Own p s (events.Detached b cause answer)
  unfolding after_at
  own_detached b cause answer n =
      let event = events.Detached b cause answer in
      let q = after p (Recover s event) in
      detached_fares (alone event) (q.told s.number) (q.transaction s.number) (scene_of q) (own_known p phases h s event n.0 n.1 later n.2) held at answer
      (without_facts (alone event held.target.number) (seen_by (q.transaction s.number) (scene_of q held.target.number) (course_of held)) (q.told s.number) (course_of held) at
      (detach_without held at b cause n.0.0.0))

  own_swapped : (b : BackendId) → IsNext (events.Swapped b) → Own p s (events.Swapped b)
  unfolding after_at
  own_swapped b n =
      let event = events.Swapped b in
      let q = after p (Recover s event) in
      let same : held.target ≡ b = swap_target held at b n.0.0 in
      let blank : (world_of q).store b.number ≡ prepared (world_of p).tables = with_at-same (world_of p).store b.number (prepared (world_of p).tables) in
      let there : (world_of q).store held.target.number ≡ prepared (world_of p).tables = ap (λ (k : BackendId). (world_of q).store k.number) same ∙ blank in
      swapped_fares (alone event) (q.told s.number) (q.transaction s.number) (scene_of q) (own_known p phases h s event n.0 n.1 later n.2) held at
      (record {
        none = λ o. ap (λ (st : Store). st.transaction o) there;
        unasked = λ o. ap (λ (st : Store). st.pending o) there;
        clear = λ o. clear_by held.target.number ((world_of p).machine o).point
            (λ stage k due number. n.0.1.sessions.unposted o (record {
              stage = stage;
              due = subst (λ (j : BackendId). ((world_of p).machine o).point ≡ points.PostDue stage j) (same_backend k held.target number ∙ same) due;
            }));
      })
      (λ table off. ap (λ (st : Store). st.next table) there ∙ plain_first (slice_get (world_of p).tables table) off)
      (without_facts (alone event held.target.number) (seen_by (q.transaction s.number) (scene_of q held.target.number) (course_of held)) (q.told s.number) (course_of held) at
      (swap_without held at b n.0.0))

  -- a call that leaves the attached backends
  still_free : (event : SessionEvent) → IsNext event → IsFair event → is_within at ≡ true → has (after p (Recover s event)).gate.attached.bits held.target.number ≡ false
  still_free event n fair e = by (has (after p (Recover s event)).gate.attached.bits held.target.number) refl
    where
      by : (v : Bool) → has (after p (Recover s event)).gate.attached.bits held.target.number ≡ v → v ≡ false
      by false is = refl
      by true is =
          absurd (let z : true ≡ false = sym ((recovered_past p s held.target.number event (phases s.number) fair n.1 s.number).less held.target.number is)
          ∙ within_free p.gate.attached.bits held.target at e (h.holds.free s.number) in cc)

  own_called : (call : GateCall) (answer : GateAnswer) → IsFair (events.Called call answer) → IsNext (events.Called call answer) → Own p s (events.Called call answer)
  unfolding after_at
  own_called call answer fair n =
      let event = events.Called call answer in
      let q = after p (Recover s event) in
      called_fares (alone event) (q.told s.number) (q.transaction s.number) (scene_of q) (own_known p phases h s event n.0 n.1 later n.2) held (phases s.number) at answer
      (own_laid p phases h s event n.0 n.1 later n.2)
      (subst (λ (a : GateAnswer). ShowsAll (step p.gate call).0.attached.bits (step p.gate call).0.touched a) n.0.1.1 (step_tells p.gate call))
      (h.holds.fits s.number).agrees (h.holds.fits s.number).fits
      (λ e. still_free event n fair (ap is_within e))
      (λ e. (
        still_free event n fair (ap is_within e),
        single_of q later n.2
            (quiet_then p.gate call answer (same_call calls.EnterQuiet call (sym (ap (action_at held) e) ∙ n.0.0.0)) n.0.0.1 n.0.1.1),
      ))
      (own_goes p phases h s event n.0 n.1 later n.2 fair)

  own_attached : (b : BackendId) (answer : GateAnswer) → IsNext (events.Called (calls.Attach b) answer) → Own p s (events.Called (calls.Attach b) answer)
  unfolding after_at
  own_attached b answer n =
      let event = events.Called (calls.Attach b) answer in
      let q = after p (Recover s event) in
      attach_fares (alone event) (q.told s.number) (q.transaction s.number) (scene_of q) (own_known p phases h s event n.0 n.1 later n.2) held at b answer n.0.0.0 n.0.0.1

  own_call : (call : GateCall) (answer : GateAnswer) → IsNext (events.Called call answer) → Own p s (events.Called call answer)
  own_call (calls.Attach b) answer n = own_attached b answer n
  own_call calls.Look answer n = own_called calls.Look answer tt n
  own_call calls.EnterSnapshot answer n = own_called calls.EnterSnapshot answer tt n
  own_call calls.LeaveSnapshot answer n = own_called calls.LeaveSnapshot answer tt n
  own_call (calls.EnterCommit tables) answer n = own_called (calls.EnterCommit tables) answer tt n
  own_call calls.LeaveCommit answer n = own_called calls.LeaveCommit answer tt n
  own_call calls.Finish answer n = own_called calls.Finish answer tt n
  own_call (calls.Detach b) answer n = own_called (calls.Detach b) answer tt n
  own_call calls.StartCopy answer n = own_called calls.StartCopy answer tt n
  own_call calls.AskQuiet answer n = own_called calls.AskQuiet answer tt n
  own_call calls.EnterQuiet answer n = own_called calls.EnterQuiet answer tt n
  own_call calls.LeaveQuiet answer n = own_called calls.LeaveQuiet answer tt n

  own_stands : (event : SessionEvent) → IsNext event → Own p s event
  unfolding after_at
  own_stands (events.Ordered order) n = own_ordered order n
  own_stands (events.Called call answer) n = own_call call answer n
  own_stands (events.Posted b request) n = own_posted b request n
  own_stands (events.Taken b answer) n = own_taken b answer n
  own_stands (events.Faulted b before count) n = own_faulted b before count n
  own_stands (events.Detached b cause answer) n = own_detached b cause answer n
  own_stands (events.Swapped b) n = own_swapped b n
  own_stands (events.Replied outcome status) n = tt
  own_stands events.Ended n = tt

  pub recovered_stand : (event : SessionEvent) → IsNext event → AllStand (after p (Recover s event))
  recovered_stand event n =
      each_at (λ o r. StandsIn (after p (Recover s event)) o ((after p (Recover s event)).told o) r.held r.due) p.recovery s.number (recovery_after (p.recovery s.number) event)
      (own_stands event n) (other_stands p phases h s event n.0 n.1 later n.2)
