-- Steps of sessions, and of recoveries that have none of the gate's quiet, leave a recovery that has some its facts.
use Rattle.std.proofs.Common.{◌≡◌, ◌≢◌, ◌<◌, ℕ, arith, Bool, true, false, refl, sym, ap, subst, ◌∙◌}
use Rattle.std.specs.Prelude.{Option, Some, None}
use Rattle.pool_base.specs.Sets.{has}
use Rattle.pool_base.specs.declared.session_id.SessionId.{SessionId}
use Rattle.pool_base.specs.declared.backend_id.BackendId.{BackendId}
use Rattle.pool_base.specs.declared.backend_set.BackendSet.{BackendSet}
use Rattle.pool_base.specs.declared.gate_call.GateCall.{GateCall}
use Rattle.pool_base.specs.declared.gate_call.GateCall.TheVariants as calls
use Rattle.pool_base.specs.declared.gate_call.GateAnswer.{GateAnswer}
use Rattle.pool_base.specs.declared.gate_call.GateAnswer.TheVariants.{Seen, Granted, Held as IsHeld, Spent}
use Rattle.backend_trait.specs.declared.answer.Answer.{Answer}
use Rattle.backend_trait.specs.Rows.{with_at}
use Rattle.backend_trait.specs.Acts.{MayAnswer, WhereSome}
use Rattle.backend_trait.specs.Store.{Transaction, Absent, Pending, Store}
use Rattle.session_machine.specs.declared.action.Action.TheVariants as session_actions
use Rattle.session_machine.specs.declared.action.Cause.{Cause}
use Rattle.session_machine.specs.declared.action.SessionEvent.{SessionEvent}
use Rattle.session_machine.specs.declared.action.SessionEvent.TheVariants as events
use Rattle.session_machine.specs.declared.machine.Session.{Session}
use Rattle.session_machine.specs.declared.machine.Point.{Point}
use Rattle.session_machine.specs.declared.machine.Point.TheVariants as points
use Rattle.session_machine.specs.declared.machine.Machine.{Machine}
use Rattle.session_machine.specs.Rules.{new_machine, action_at as session_action_at, after as machine_after}
use Rattle.snapshot_gate.specs.declared.state.GateState.{GateState}
use Rattle.snapshot_gate.specs.Function.{step}
use Rattle.online_recovery.specs.declared.standing.Quiet.{Quiet}
use Rattle.online_recovery.specs.declared.standing.Quiet.TheVariants.{Open, Copying, Asked, Entered}
use Rattle.online_recovery.specs.declared.standing.Due.{Due}
use Rattle.online_recovery.specs.declared.standing.Due.TheVariants.{Resting, LookDue, StartDue, SwapDue, EnterDue, PostDue, Waiting, ShowDue, LeaveSnapshotDue, FinishDue, AskDue, QuietDue, AttachDue, LostDue, Closing, Undoing}
use Rattle.online_recovery.specs.declared.standing.Held.{Held}
use Rattle.online_recovery.specs.State.{is_touched}
use Rattle.online_recovery.specs.Runs.{Phase, Meets, MeetsIn}
use Rattle.online_recovery.proofs.Fitting.{Fits}
use Rattle.one_copy_model.specs.declared.event.Event.{Event}
use Rattle.one_copy_model.specs.declared.event.Event.TheVariants.{Of, Act, Lost}
use Rattle.one_copy_model.specs.Numbers.{session_of}
use Rattle.one_copy_model.specs.World.{World, stores_after, after as world_after}
use Rattle.one_copy_model.specs.Deaths.{stage_at}
use Rattle.one_copy_model.specs.Tracking.{single}
use Rattle.one_copy_model.proofs.Places.{each_at, with_at-other}
use Rattle.recovery_laws.specs.declared.step.Step.{Step}
use Rattle.recovery_laws.specs.declared.step.Step.TheVariants.{Serve, Recover}
use Rattle.recovery_laws.specs.Pool.{Pool, world_of, call_in, gate_after, after, MayStep}
use Rattle.recovery_laws.specs.Phases.{number_of}
use Rattle.recovery_laws.specs.Masks.{Masked}
use Rattle.recovery_laws.proofs.Attaching.{calm}
use Rattle.recovery_laws.proofs.Freeing.{IsFree, Shows}
use Rattle.recovery_laws.proofs.Targets.{task_open, is_steady, session_steady, steady_leaves, gone_fewer}
use Rattle.recovery_laws.proofs.Stepping.{Holds, step_tables}
use Rattle.recovery_laws.proofs.Masks.{step_rows, step_touched, still_touched, still_single}
use Rattle.recovery_laws.proofs.Pointing.{ClearOf, posts_other, LacksOf, stays_clear}
use Rattle.recovery_laws.proofs.Scenes.{Scene, Course, course_of, Stands, Follows, stands_kept}
use Rattle.recovery_laws.proofs.Leading.{seen_by}

-- The facts in a pool.

-- nobody has a transaction or a request at a backend, or is due to post there
pub record IsAlone (w : World) (b : ℕ) : Type 0 where
  pub none : (s : ℕ) → (w.store b).transaction s ≡ Absent
  pub unasked : (s : ℕ) → (w.store b).pending s ≡ None
  pub clear : (s : ℕ) → ClearOf b (w.machine s).point

abbrev pub scene_of : Pool → ℕ → Scene
scene_of p b = record {
  tables = (world_of p).tables;
  rows = ((world_of p).store b).rows;
  next = ((world_of p).store b).next;
  source = Absent;
  target = Absent;
  single = (single p.tracked).rows;
  numbers = (single p.tracked).next;
  touched = p.gate.touched;
  attached = p.gate.attached.bits;
}

abbrev pub StandsIn : Pool → ℕ → (ℕ → Option Answer) → Held → Due → Type 0
StandsIn p s told held at = Stands (IsAlone (world_of p) held.target.number) (seen_by (p.transaction s) (scene_of p held.target.number) (course_of held)) told (course_of held) at

abbrev pub AllStand : Pool → Type 0
AllStand p = (s : ℕ) → StandsIn p s (p.told s) (p.recovery s).held (p.recovery s).due

-- where there are facts at all: from behind the Swap to the Attach
abbrev pub is_within : Due → Bool
is_within Resting = false
is_within (LookDue number) = false
is_within StartDue = false
is_within SwapDue = false
is_within EnterDue = true
is_within (PostDue task) = true
is_within (Waiting task) = true
is_within (ShowDue task answer) = true
is_within LeaveSnapshotDue = true
is_within FinishDue = true
is_within AskDue = true
is_within QuietDue = true
is_within AttachDue = true
is_within (LostDue ending before count) = false
is_within (Closing ending) = false
is_within (Undoing side ending) = false

no_less : {A : Type 0} → true ≡ false → A
no_less e = absurd (cc)

no_more : {A : Type 0} → false ≡ true → A
no_more e = absurd (cc)

pub without_facts : (P : Type 0) (x : Scene) (told : ℕ → Option Answer) (c : Course) (at : Due) → is_within at ≡ false → Stands P x told c at
without_facts P x told c Resting e = tt
without_facts P x told c (LookDue number) e = tt
without_facts P x told c StartDue e = tt
without_facts P x told c SwapDue e = tt
without_facts P x told c EnterDue e = no_less e
without_facts P x told c (PostDue task) e = no_less e
without_facts P x told c (Waiting task) e = no_less e
without_facts P x told c (ShowDue task answer) e = no_less e
without_facts P x told c LeaveSnapshotDue e = no_less e
without_facts P x told c FinishDue e = no_less e
without_facts P x told c AskDue e = no_less e
without_facts P x told c QuietDue e = no_less e
without_facts P x told c AttachDue e = no_less e
without_facts P x told c (LostDue ending before count) e = tt
without_facts P x told c (Closing ending) e = tt
without_facts P x told c (Undoing side ending) e = tt

pub with_facts : (P : Type 0) (x : Scene) (told : ℕ → Option Answer) (c : Course) (at : Due) → is_within at ≡ true → Stands P x told c at → P
with_facts P x told c Resting e h = no_more e
with_facts P x told c (LookDue number) e h = no_more e
with_facts P x told c StartDue e h = no_more e
with_facts P x told c SwapDue e h = no_more e
with_facts P x told c EnterDue e h = h.0
with_facts P x told c (PostDue task) e h = h.0
with_facts P x told c (Waiting task) e h = h.0
with_facts P x told c (ShowDue task answer) e h = h.0
with_facts P x told c LeaveSnapshotDue e h = h.0
with_facts P x told c FinishDue e h = h.0
with_facts P x told c AskDue e h = h.0
with_facts P x told c QuietDue e h = h.0
with_facts P x told c AttachDue e h = h.0
with_facts P x told c (LostDue ending before count) e h = no_more e
with_facts P x told c (Closing ending) e h = no_more e
with_facts P x told c (Undoing side ending) e h = no_more e

pub within_free : (n : ℕ) (target : BackendId) (at : Due) → is_within at ≡ true → IsFree n target at → has n target.number ≡ false
within_free n target Resting e h = no_more e
within_free n target (LookDue number) e h = no_more e
within_free n target StartDue e h = no_more e
within_free n target SwapDue e h = no_more e
within_free n target EnterDue e h = h
within_free n target (PostDue task) e h = h
within_free n target (Waiting task) e h = h
within_free n target (ShowDue task answer) e h = h
within_free n target LeaveSnapshotDue e h = h
within_free n target FinishDue e h = h
within_free n target AskDue e h = h
within_free n target QuietDue e h = h
within_free n target AttachDue e h = h
within_free n target (LostDue ending before count) e h = no_more e
within_free n target (Closing ending) e h = no_more e
within_free n target (Undoing side ending) e h = no_more e

is_not : (p : Phase) (quiet : Quiet) → (quiet ≡ Open → ⊥) → p.quiet ≡ quiet → p.quiet ≡ Open → ⊥
is_not p quiet never e f = never (sym e ∙ f)

copying_is : Copying ≡ Open → ⊥
copying_is e = cc

asked_is : Asked ≡ Open → ⊥
asked_is e = cc

entered_is : Entered ≡ Open → ⊥
entered_is e = cc

pub within_busy : (at : Due) (p : Phase) → is_within at ≡ true → Fits at p → p.quiet ≡ Open → ⊥
within_busy Resting p e f = no_more e
within_busy (LookDue number) p e f = no_more e
within_busy StartDue p e f = no_more e
within_busy SwapDue p e f = no_more e
within_busy EnterDue p e f = is_not p Copying copying_is f.1
within_busy (PostDue task) p e f = task_open task p f
within_busy (Waiting task) p e f = task_open task p f
within_busy (ShowDue task answer) p e f = task_open task p f
within_busy LeaveSnapshotDue p e f = is_not p Copying copying_is f.1
within_busy FinishDue p e f = is_not p Copying copying_is f.1
within_busy AskDue p e f = is_not p Copying copying_is f.1
within_busy QuietDue p e f = is_not p Asked asked_is f.1
within_busy AttachDue p e f = is_not p Entered entered_is f.1
within_busy (LostDue ending before count) p e f = no_more e
within_busy (Closing ending) p e f = no_more e
within_busy (Undoing side ending) p e f = no_more e

-- What a step leaves at a backend.

pub record IsPast (p q : Pool) (s b : ℕ) : Type 0 where
  pub rows : ((world_of q).store b).rows ≡ ((world_of p).store b).rows
  pub next : ((world_of q).store b).next ≡ ((world_of p).store b).next
  pub alone : IsAlone (world_of p) b → IsAlone (world_of q) b
  pub mine : q.transaction s ≡ p.transaction s
  pub less : (k : ℕ) → has q.gate.attached.bits k ≡ true → has p.gate.attached.bits k ≡ true
  pub stays : p.gate.quiet ≡ 3 → q.gate.attached.bits ≡ p.gate.attached.bits

pub alike : (a b : Scene) → b.tables ≡ a.tables → b.rows ≡ a.rows → b.next ≡ a.next → b.source ≡ a.source → b.target ≡ a.target
    → b ≡ record a { single = b.single; numbers = b.numbers; touched = b.touched; attached = b.attached }
alike a b t r n s g = λ i. record {
  tables = t i;
  rows = r i;
  next = n i;
  source = s i;
  target = g i;
  single = b.single;
  numbers = b.numbers;
  touched = b.touched;
  attached = b.attached;
}

some_number : (quiet : Quiet) → (quiet ≡ Open → ⊥) → number_of quiet ≡ 0 → ⊥
some_number Open never e = never refl
some_number Copying never e = omega (arith, e)
some_number Asked never e = omega (arith, e)
some_number Entered never e = omega (arith, e)

module _ (p : Pool) (phases : ℕ → Phase) (h : Holds p phases) (masked : Masked p.tracked) (e : Step) (may : MayStep p e) where
  abbrev q : Pool
  q = after p e

  -- the same scene with what the gate and the single run have before the step
  abbrev pub at_first : Scene → Scene
  at_first z = record z { single = (single p.tracked).rows; numbers = (single p.tracked).next; touched = p.gate.touched; attached = p.gate.attached.bits }

  module _ (s : ℕ) (held : Held) (busy : (phases s).quiet ≡ Open → ⊥) (agrees : (phases s).quiet ≡ held.quiet) where
    abbrev c : Course
    c = course_of held

    untouched : (table : ℕ) → is_touched q.gate.touched table ≡ false → is_touched p.gate.touched table ≡ false
    untouched table off = by (is_touched p.gate.touched table) refl
      where
        by : (v : Bool) → is_touched p.gate.touched table ≡ v → v ≡ false
        by true is = absurd (let z : true ≡ false = sym (step_touched p e (λ none. some_number (phases s).quiet busy (sym (h.one.quiet s busy) ∙ none)) table is) ∙ off in cc)
        by false is = refl

    pub follows : (z : Scene) → ((k : ℕ) → has q.gate.attached.bits k ≡ true → has p.gate.attached.bits k ≡ true) → (p.gate.quiet ≡ 3 → q.gate.attached.bits ≡ p.gate.attached.bits)
        → Follows (at_first z) c (single q.tracked).rows (single q.tracked).next q.gate.touched q.gate.attached.bits
    follows z less stays = record {
      untouched = untouched;
      rows = λ place off. step_rows p phases h e may masked place off;
      less = less held.source.number;
      still = λ entered.
          let three : p.gate.quiet ≡ 3 = h.one.quiet s busy ∙ ap number_of (agrees ∙ entered) in
          let same : single q.tracked ≡ single p.tracked = still_single p phases h e three in
          record {
            same_rows = ap (λ (st : Store). st.rows) same;
            same_numbers = ap (λ (st : Store). st.next) same;
            same_touched = still_touched p phases h e may three;
            stays = λ here. subst (λ n. has n held.source.number ≡ true) (sym (stays three)) here;
          };
    }

    pub past_stands : (told : ℕ → Option Answer) (at : Due) → IsPast p q s held.target.number → StandsIn p s told held at → StandsIn q s told held at
    past_stands told at past stands =
        let x : Scene = seen_by (p.transaction s) (scene_of p held.target.number) c in
        let y : Scene = seen_by (q.transaction s) (scene_of q held.target.number) c in
        subst (λ (z : Scene). Stands (IsAlone (world_of q) held.target.number) z told c at)
        (sym (alike x y (step_tables p e) past.rows past.next (ap (λ (f : ℕ → Transaction). f held.source.number) past.mine) (ap (λ (f : ℕ → Transaction). f held.target.number) past.mine)))
        (stands_kept x c y.single y.numbers y.touched y.attached (follows x past.less past.stays)
        (IsAlone (world_of p) held.target.number) (IsAlone (world_of q) held.target.number) told at past.alone stands)

-- the store is the same, and nobody comes to be due to post there
pub alone_by : (w v : World) (b : ℕ) → v.store b ≡ w.store b → ((s : ℕ) → ClearOf b (w.machine s).point → ClearOf b (v.machine s).point) → IsAlone w b → IsAlone v b
alone_by w v b same clear a = record {
  none = λ s. ap (λ (st : Store). st.transaction s) same ∙ a.none s;
  unasked = λ s. ap (λ (st : Store). st.pending s) same ∙ a.unasked s;
  clear = λ s. clear s (a.clear s);
}

-- Steps of sessions.

no_detachment : (session : Session) (point : Point) (b : BackendId) (cause : Cause) → session_action_at session point ≡ session_actions.Detach b cause → stage_at point ≡ None → ⊥
no_detachment session (points.LostDue stage k before after) b cause e none = let z : Some stage ≡ None = none in cc
no_detachment session (points.SplitDue stage best own among more) b cause e none = let z : Some stage ≡ None = none in cc
no_detachment session point b cause e none = absurd (cc)

lacks_by : (b : ℕ) (answer : GateAnswer) (n : ℕ) → Shows answer n → has n b ≡ false → LacksOf b (events.Called calls.Look answer)
lacks_by b (Seen view) n shows gone = ap (λ k. has k b) shows ∙ gone
lacks_by b (Granted view) n shows gone = ap (λ k. has k b) shows ∙ gone
lacks_by b (IsHeld count) n shows gone = tt
lacks_by b Spent n shows gone = tt

-- a loss leaves all else
record IsLeftBy (old new : Store) : Type 0 where
  rows : new.rows ≡ old.rows
  next : new.next ≡ old.next
  transaction : new.transaction ≡ old.transaction
  pending : new.pending ≡ old.pending

module _ (p : Pool) (phases : ℕ → Phase) (h : Holds p phases) (b : ℕ) (gone : has p.gate.attached.bits b ≡ false) (a : IsAlone (world_of p) b) where
  abbrev w : World
  w = world_of p

  module _ (o : SessionId) (event : SessionEvent) (may : MayStep p (Serve (Of o event))) where
    abbrev m : Machine
    m = w.machine o.number

    -- one session moves, and its store there is the same
    machines_clear : LacksOf b event → (s : ℕ) → ClearOf b (w.machine s).point → ClearOf b ((world_after w (Of o event)).machine s).point
    machines_clear lacks =
        each_at (λ s n. ClearOf b (w.machine s).point → ClearOf b n.point) w.machine o.number (machine_after m event) (stays_clear b m event lacks) (λ s other c. c)

    served_by : (stores_after w.tables w.store o.number event) b ≡ w.store b → LacksOf b event
        → ((k : ℕ) → has (gate_after p.gate (call_in event)).attached.bits k ≡ true → has p.gate.attached.bits k ≡ true)
        → (p.gate.quiet ≡ 3 → (gate_after p.gate (call_in event)).attached.bits ≡ p.gate.attached.bits) → (s : ℕ) → IsPast p (after p (Serve (Of o event))) s b
    served_by same lacks less stays s = record {
      rows = ap (λ (st : Store). st.rows) same;
      next = ap (λ (st : Store). st.next) same;
      alone = alone_by w (world_after w (Of o event)) b same (machines_clear lacks);
      mine = refl;
      less = less;
      stays = stays;
    }

  own_quiet : p.gate.quiet ≡ 3 → w.gate.quiet ≡ 3
  own_quiet three = ap (λ (g : GateState). g.quiet) h.counts.same ∙ three

  session_past : (o : SessionId) (event : SessionEvent) → MayStep p (Serve (Of o event)) → (s : ℕ) → IsPast p (after p (Serve (Of o event))) s b
  session_past o (events.Ordered order) may s = served_by o (events.Ordered order) may refl tt (λ k e. e) (λ three. refl) s
  session_past o (events.Called call answer) may s =
      let l = steady_leaves p.gate call (session_steady call answer may.0.0.1) in
      let same : (step p.gate call).0.attached.bits ≡ p.gate.attached.bits = ap (λ (set : BackendSet). set.bits) l.0 in
      served_by o (events.Called call answer) may refl
      (lacks_by b answer p.gate.attached.bits (subst (λ n. Shows answer n) same (subst (λ (x : GateAnswer). Shows x (step p.gate call).0.attached.bits) may.1.1.1 l.1)) gone)
      (λ k e. subst (λ n. has n k ≡ true) same e) (λ three. same) s
  session_past o (events.Posted k request) may s =
      let other : k.number ≢ b = posts_other b (w.machine o.number).session (w.machine o.number).point k request may.0.0 (a.clear o.number) in
      served_by o (events.Posted k request) may (with_at-other w.store k.number _ b (λ same. other (sym same))) tt (λ k e. e) (λ three. refl) s
  session_past o (events.Taken k answer) may s = served_by o (events.Taken k answer) may refl tt (λ k e. e) (λ three. refl) s
  session_past o (events.Faulted k before count) may s = served_by o (events.Faulted k before count) may refl tt (λ k e. e) (λ three. refl) s
  session_past o (events.Detached k cause answer) may s =
      served_by o (events.Detached k cause answer) may refl tt (gone_fewer p.gate k (subst (λ (set : BackendSet). set.bits < 256) (ap (λ (g : GateState). g.attached) h.counts.same) h.invariant.few))
      (λ three. absurd (no_detachment (w.machine o.number).session (w.machine o.number).point k cause may.0.0.0 (calm p.tracked h.invariant (own_quiet three) o.number))) s
  session_past o (events.Swapped k) may s = absurd may.0.0
  session_past o (events.Replied outcome status) may s = served_by o (events.Replied outcome status) may refl tt (λ k e. e) (λ three. refl) s
  session_past o events.Ended may s = served_by o events.Ended may refl tt (λ k e. e) (λ three. refl) s

  -- nobody asks there, so nobody is answered there
  asks_there : (o k : ℕ) (answer : Answer) (pending : Option Pending) → (w.store k).pending o ≡ pending → WhereSome pending (λ p. MayAnswer (w.store k) o p answer) → k ≢ b
  asks_there o k answer None e may same = may
  asks_there o k answer (Some pending) e may same = let z : None ≡ Some pending = sym (a.unasked o) ∙ ap (λ j. (w.store j).pending o) (sym same) ∙ e in cc

  pub served_past : (event : Event) → MayStep p (Serve event) → (s : ℕ) → IsPast p (after p (Serve event)) s b
  served_past (Of o event) may s = session_past o event may s
  served_past (Act o k answer) may s =
      let other : k.number ≢ b = asks_there o.number k.number answer ((w.store k.number).pending o.number) refl may.0.1 in
      let same : (world_after w (Act o k answer)).store b ≡ w.store b = with_at-other w.store k.number _ b (λ e. other (sym e)) in
      record {
        rows = ap (λ (st : Store). st.rows) same;
        next = ap (λ (st : Store). st.next) same;
        alone = alone_by w (world_after w (Act o k answer)) b same (λ s c. c);
        mine = refl;
        less = λ j e. e;
        stays = λ three. refl;
      }
  served_past (Lost k) may s =
      let each : (j : ℕ) → IsLeftBy (w.store j) (with_at w.store k.number (record (w.store k.number) { lost = true }) j) =
      each_at (λ j st. IsLeftBy (w.store j) st) w.store k.number (record (w.store k.number) { lost = true }) (record { rows = refl; next = refl; transaction = refl; pending = refl }) (λ j other. record { rows = refl; next = refl; transaction = refl; pending = refl }) in
      record {
        rows = (each b).rows;
        next = (each b).next;
        alone = λ alone. record { none = λ s. ap (λ (f : ℕ → Transaction). f s) (each b).transaction ∙ alone.none s; unasked = λ s. ap (λ (f : ℕ → Option Pending). f s) (each b).pending ∙ alone.unasked s; clear = alone.clear };
        mine = refl;
        less = λ j e. e;
        stays = λ three. refl;
      }

-- Steps of recoveries but a Swap, an Attach and a detachment.

abbrev pub IsFair : SessionEvent → Type 0
IsFair (events.Called (calls.Attach b) answer) = ⊥
IsFair (events.Detached b cause answer) = ⊥
IsFair (events.Swapped b) = ⊥
IsFair event = Unit {0}

module _ (p : Pool) (o : SessionId) (b : ℕ) where
  abbrev v : World
  v = world_of p

  same_past : (event : SessionEvent) → IsFair event → (s : ℕ) → (gate_after p.gate (call_in event)).attached.bits ≡ p.gate.attached.bits
      → (world_of (after p (Recover o event))).store b ≡ v.store b → ((s : ℕ) → ClearOf b (v.machine s).point → ClearOf b ((world_of (after p (Recover o event))).machine s).point)
      → (after p (Recover o event)).transaction s ≡ p.transaction s → IsPast p (after p (Recover o event)) s b
  same_past event fair s attached store clear mine = record {
    rows = ap (λ (st : Store). st.rows) store;
    next = ap (λ (st : Store). st.next) store;
    alone = alone_by v (world_of (after p (Recover o event))) b store clear;
    mine = mine;
    less = λ k e. subst (λ n. has n k ≡ true) attached e;
    stays = λ three. attached;
  }

  steady_of : (call : GateCall) (answer : GateAnswer) (ph : Phase) → IsFair (events.Called call answer) → MeetsIn ph call → is_steady call ≡ true
  steady_of (calls.Attach k) answer ph fair meets = absurd fair
  steady_of (calls.Detach k) answer ph fair meets = absurd meets
  steady_of calls.Look answer ph fair meets = refl
  steady_of calls.EnterSnapshot answer ph fair meets = refl
  steady_of calls.LeaveSnapshot answer ph fair meets = refl
  steady_of (calls.EnterCommit tables) answer ph fair meets = refl
  steady_of calls.LeaveCommit answer ph fair meets = refl
  steady_of calls.Finish answer ph fair meets = refl
  steady_of calls.StartCopy answer ph fair meets = refl
  steady_of calls.AskQuiet answer ph fair meets = refl
  steady_of calls.EnterQuiet answer ph fair meets = refl
  steady_of calls.LeaveQuiet answer ph fair meets = refl

  pub recovered_past : (event : SessionEvent) (ph : Phase) → IsFair event → Meets ph event → (s : ℕ) → IsPast p (after p (Recover o event)) s b
  recovered_past (events.Ordered order) ph fair meets s = same_past (events.Ordered order) fair s refl refl (λ k c. c) refl
  recovered_past (events.Called call answer) ph fair meets s =
      same_past (events.Called call answer) fair s (ap (λ (set : BackendSet). set.bits) (steady_leaves p.gate call (steady_of call answer ph fair meets)).0) refl (λ k c. c) refl
  recovered_past (events.Posted k request) ph fair meets s = same_past (events.Posted k request) fair s refl refl (λ k c. c) refl
  recovered_past (events.Taken k answer) ph fair meets s = same_past (events.Taken k answer) fair s refl refl (λ k c. c) refl
  recovered_past (events.Faulted k before count) ph fair meets s = same_past (events.Faulted k before count) fair s refl refl (λ k c. c) refl
  recovered_past (events.Detached k cause answer) ph fair meets s = absurd fair
  recovered_past (events.Swapped k) ph fair meets s = absurd fair
  recovered_past (events.Replied outcome status) ph fair meets s = same_past (events.Replied outcome status) fair s refl refl (λ k c. c) refl
  recovered_past events.Ended ph fair meets s =
      same_past events.Ended fair s refl refl
      (each_at (λ k n. ClearOf b (v.machine k).point → ClearOf b n.point) v.machine o.number (new_machine (session_of o.number) (v.machine o.number).session.policy) (λ c. tt) (λ k other c. c)) refl
