-- At every step: what a session's transaction has changed is in its mask; a row of a table that is not touched stays; under entered
-- quiet the single run and the touched tables stay.
use Rattle.std.proofs.Common.{◌≡◌, ◌+◌, ◌<◌, ◌||◌, ◌==◌, ◌^◌, ℕ, Bool, true, false, List, [], ◌∷◌, ◌++◌, refl, sym, ap, ◌∙◌, subst, arith, ltb-false, nat_lt, nat_le, if◌then◌else◌}
use Rattle.std.specs.Prelude.{Option, Some, None}
use Rattle.std.specs.FinMap as fin
use Rattle.pool_base.specs.Sets.{has}
use Rattle.pool_base.specs.declared.backend_set.BackendSet.{BackendSet}
use Rattle.pool_base.specs.declared.gate_call.GateCall.{GateCall}
use Rattle.pool_base.specs.declared.gate_call.GateCall.TheVariants as calls
use Rattle.pool_base.specs.declared.gate_call.GateAnswer.TheVariants.{Seen, Held, Spent}
use Rattle.schema.specs.declared.catalogue.TableDef.{TableDef}
use Rattle.schema.specs.Allowed.{AreAllowed}
use Rattle.backend_trait.specs.declared.request.Request.{Request}
use Rattle.backend_trait.specs.declared.answer.Answer.{Answer}
use Rattle.backend_trait.specs.Keys.{Place}
use Rattle.backend_trait.specs.Rows.{Rows}
use Rattle.session_machine.specs.declared.action.SessionEvent.{SessionEvent}
use Rattle.session_machine.specs.declared.action.SessionEvent.TheVariants as events
use Rattle.session_machine.specs.declared.machine.Machine.{Machine}
use Rattle.session_machine.specs.declared.machine.ReadPolicy.{ReadPolicy}
use Rattle.session_machine.specs.Rules.{new_machine, tables_of}
use Rattle.snapshot_gate.specs.declared.state.GateState.{GateState}
use Rattle.snapshot_gate.specs.Function.{view_of, Turn, grant, refuse, step}
use Rattle.online_recovery.specs.declared.action.RecoveryAction.TheVariants as actions
use Rattle.online_recovery.specs.declared.layout.Layout.{Layout}
use Rattle.online_recovery.specs.declared.standing.Due.TheVariants.{Resting}
use Rattle.online_recovery.specs.declared.standing.Standing.{Standing}
use Rattle.online_recovery.specs.State.{is_touched}
use Rattle.online_recovery.specs.Rules.{next_action, action_at}
use Rattle.online_recovery.specs.Runs.{Phase}
use Rattle.one_copy_model.specs.Numbers.{session_of}
use Rattle.one_copy_model.specs.declared.event.Event.{Event}
use Rattle.one_copy_model.specs.declared.event.Event.TheVariants.{Of, Act, Lost}
use Rattle.one_copy_model.specs.SingleRun.{store_after}
use Rattle.one_copy_model.specs.World.{after as world_after, MayHappen}
use Rattle.one_copy_model.specs.Tracking.{Tracked, single, tracked_after}
use Rattle.one_copy_model.specs.Invariant.{Invariant}
use Rattle.one_copy_model.proofs.Places.{each_at}
use Rattle.one_copy_laws.proofs.InductionEvents.{event_kept}
use Rattle.recovery_laws.specs.declared.step.Step.{Step}
use Rattle.recovery_laws.specs.declared.step.Step.TheVariants.{Serve, Recover, Answer as Answers}
use Rattle.recovery_laws.specs.Pool.{Pool, first_pool, world_of, call_in, call_of, gate_after, tracked_recovered, answered, after, MayStep, IsPlayed, pool_all}
use Rattle.recovery_laws.specs.Phases.{phases_after, phases_all, all_outside, AreMet}
use Rattle.recovery_laws.proofs.Calls.{MeetsCall, step_meets, gate_is}
use Rattle.recovery_laws.proofs.Counting.{step_both}
use Rattle.recovery_laws.proofs.Meeting.{always_met}
use Rattle.recovery_laws.specs.Masks.{Masked, IsQuietAlong}
use Rattle.recovery_laws.specs.Steps.{AreFit}
use Rattle.recovery_laws.proofs.Changing.{falls_masked, falls_rows, of_masked, of_rows}
use Rattle.recovery_laws.proofs.Doing.{within_absent}
use Rattle.recovery_laws.proofs.Stepping.{Holds, recovered_tables, step_holds, first_holds}
use Rattle.recovery_laws.proofs.Stillness.{falls_none, adds_nothing}
use Rattle.recovery_laws.proofs.Writing.{touched_left}

-- The touched tables of the gate.

either_same : (v : Bool) (g : GateState) (x y : Turn) → x.0.touched ≡ g.touched → y.0.touched ≡ g.touched → (if v then x else y).0.touched ≡ g.touched
either_same true g x y e f = e
either_same false g x y e f = f

entry_same : (g : GateState) (u v w : Bool)
    → (if u then refuse g (Held g.commits) else if v then refuse g (Held g.quiet) else if w then refuse g Spent else grant g calls.EnterSnapshot).0.touched ≡ g.touched
entry_same g true v w = refl
entry_same g false true w = refl
entry_same g false false true = refl
entry_same g false false false = refl

-- all calls but an EnterCommit and a StartCopy leave them
abbrev leaves_touched : GateCall → Bool
leaves_touched (calls.EnterCommit tables) = false
leaves_touched calls.StartCopy = false
leaves_touched call = true

call_same : (g : GateState) (call : GateCall) → leaves_touched call ≡ true → (step g call).0.touched ≡ g.touched
call_same g calls.Look e = refl
call_same g calls.EnterSnapshot e = entry_same g (nat_lt 0 g.commits) (nat_le 2 g.quiet) ((g.snaps + g.live == 65535) || (g.done + g.snaps + g.live == 2 ^ 63))
call_same g calls.LeaveSnapshot e = refl
call_same g (calls.EnterCommit tables) e = absurd (let z : false ≡ true = e in cc)
call_same g calls.LeaveCommit e = refl
call_same g calls.Finish e = refl
call_same g (calls.Detach b) e = either_same (has g.attached.bits b.number) g (grant g (calls.Detach b)) (refuse g (Seen (view_of g))) refl refl
call_same g calls.StartCopy e = absurd (let z : false ≡ true = e in cc)
call_same g calls.AskQuiet e = refl
call_same g calls.EnterQuiet e = either_same (nat_lt 0 (g.snaps + g.live)) g (refuse g (Held (g.snaps + g.live))) (grant g calls.EnterQuiet) refl refl
call_same g (calls.Attach b) e = either_same (nat_le 4294967280 g.epoch) g (refuse g Spent) (grant g (calls.Attach b)) refl refl
call_same g calls.LeaveQuiet e = refl

-- a StartCopy is held while some recovery has the quiet
start_same : (g : GateState) (v : Bool) → nat_lt 0 g.quiet ≡ v → (g.quiet ≡ 0 → ⊥) → (if v then refuse g (Held g.quiet) else grant g calls.StartCopy).0.touched ≡ g.touched
start_same g true e some = refl
start_same g false e some = absurd (some (let least = ltb-false 0 g.quiet e in let z : g.quiet ≡ 0 = omega (arith, least) in z))

commit_adds : (g : GateState) (tables table : ℕ) (v : Bool) → is_touched g.touched table ≡ true
    → is_touched (if v then refuse g (Held g.snaps) else grant g (calls.EnterCommit tables)).0.touched table ≡ true
commit_adds g tables table true e = e
commit_adds g tables table false e = touched_left g.touched tables table e

module _ (g : GateState) (some : g.quiet ≡ 0 → ⊥) (table : ℕ) (old : is_touched g.touched table ≡ true) where
  steady : (call : GateCall) → leaves_touched call ≡ true → is_touched (step g call).0.touched table ≡ true
  steady call e = ap (λ (n : ℕ). is_touched n table) (call_same g call e) ∙ old

  call_adds : (call : GateCall) → is_touched (step g call).0.touched table ≡ true
  call_adds (calls.EnterCommit tables) = commit_adds g tables table (nat_lt 0 g.snaps) old
  call_adds calls.StartCopy = ap (λ (n : ℕ). is_touched n table) (start_same g (nat_lt 0 g.quiet) refl some) ∙ old
  call_adds calls.Look = steady calls.Look refl
  call_adds calls.EnterSnapshot = steady calls.EnterSnapshot refl
  call_adds calls.LeaveSnapshot = steady calls.LeaveSnapshot refl
  call_adds calls.LeaveCommit = steady calls.LeaveCommit refl
  call_adds calls.Finish = steady calls.Finish refl
  call_adds (calls.Detach b) = steady (calls.Detach b) refl
  call_adds calls.AskQuiet = steady calls.AskQuiet refl
  call_adds calls.EnterQuiet = steady calls.EnterQuiet refl
  call_adds (calls.Attach b) = steady (calls.Attach b) refl
  call_adds calls.LeaveQuiet = steady calls.LeaveQuiet refl

  gate_adds : (call : Option GateCall) → is_touched (gate_after g call).touched table ≡ true
  gate_adds None = old
  gate_adds (Some call) = call_adds call

-- while some recovery has the quiet a touched table stays touched
pub step_touched : (p : Pool) (e : Step) → (p.gate.quiet ≡ 0 → ⊥) → (table : ℕ) → is_touched p.gate.touched table ≡ true → is_touched (after p e).gate.touched table ≡ true
step_touched p e some table old = subst (λ (g : GateState). is_touched g.touched table ≡ true) (sym (gate_is p e)) (gate_adds p.gate some table old (call_of e))

-- under entered quiet no commit is entered
still_call : (g : GateState) (call : GateCall) → MeetsCall g (Some call) → g.quiet ≡ 3 → g.live ≡ 0 → (step g call).0.touched ≡ g.touched
still_call g (calls.EnterCommit tables) may three none = absurd (let less : g.commits < g.live = may in let z : ⊥ = omega (arith, less, none) in z)
still_call g calls.StartCopy may three none = start_same g (nat_lt 0 g.quiet) refl (λ zero. let z : ⊥ = omega (arith, three, zero) in z)
still_call g calls.Look may three none = call_same g calls.Look refl
still_call g calls.EnterSnapshot may three none = call_same g calls.EnterSnapshot refl
still_call g calls.LeaveSnapshot may three none = call_same g calls.LeaveSnapshot refl
still_call g calls.LeaveCommit may three none = call_same g calls.LeaveCommit refl
still_call g calls.Finish may three none = call_same g calls.Finish refl
still_call g (calls.Detach b) may three none = call_same g (calls.Detach b) refl
still_call g calls.AskQuiet may three none = call_same g calls.AskQuiet refl
still_call g calls.EnterQuiet may three none = call_same g calls.EnterQuiet refl
still_call g (calls.Attach b) may three none = call_same g (calls.Attach b) refl
still_call g calls.LeaveQuiet may three none = call_same g calls.LeaveQuiet refl

still_gate : (g : GateState) (call : Option GateCall) → MeetsCall g call → g.quiet ≡ 3 → g.live ≡ 0 → (gate_after g call).touched ≡ g.touched
still_gate g None may three none = refl
still_gate g (Some call) may three none = still_call g call may three none

-- Events of the sessions.

event_masked : (t : Tracked) (e : Event) → Invariant t → AreAllowed t.world.tables → MayHappen t.world e → Masked t → Masked (tracked_after t e)
event_masked t (Of s event) h allowed may masked = of_masked t s event h masked allowed.0 may (event_kept t (Of s event) h allowed may).run
event_masked t (Act s b answer) h allowed may masked = record { within = falls_masked t (world_after t.world (Act s b answer)) refl masked (λ o. refl) }
event_masked t (Lost b) h allowed may masked = record { within = falls_masked t (world_after t.world (Lost b)) refl masked (λ o. refl) }

event_rows : (t : Tracked) (e : Event) → Invariant t → AreAllowed t.world.tables → MayHappen t.world e → Masked t → (q : Place)
    → is_touched (world_after t.world e).gate.touched q.table ≡ false → fin.get (single (tracked_after t e)).rows q ≡ fin.get (single t).rows q
event_rows t (Of s event) h allowed may masked q out = of_rows t s event h masked allowed.0 may (event_kept t (Of s event) h allowed may).run q out
event_rows t (Act s b answer) h allowed may masked q out = ap (λ (r : Rows). fin.get r q) (falls_rows t (world_after t.world (Act s b answer)) refl h)
event_rows t (Lost b) h allowed may masked q out = ap (λ (r : Rows). fin.get r q) (falls_rows t (world_after t.world (Lost b)) refl h)

-- Steps of a recovery.

ends_up : (r : Standing) → next_action r ≡ actions.End → (r.due ≡ Resting) → ⊥
ends_up r e rest = let z : actions.Rest ≡ actions.End = ap (action_at r.held) (sym rest) ∙ e in cc

module _ (p : Pool) (phases : ℕ → Phase) (h : Holds p phases) where
  abbrev t : Tracked
  t = p.tracked

  -- no recovery moves a session's mask
  same_masks : (s : ℕ) (event : SessionEvent) (g : GateState) → (event ≡ events.Ended → tables_of ((world_of p).machine s).session.gate ≡ 0)
      → (o : ℕ) → tables_of ((tracked_recovered t g s event).world.machine o).session.gate ≡ tables_of (t.world.machine o).session.gate
  same_masks s events.Ended g none o =
      each_at (λ (o : ℕ) (x : Machine). tables_of x.session.gate ≡ tables_of (t.world.machine o).session.gate) t.world.machine s
      (new_machine (session_of s) (t.world.machine s).session.policy) (sym (none refl)) (λ k other. refl) o
  same_masks s (events.Ordered order) g none o = refl
  same_masks s (events.Called call answer) g none o = refl
  same_masks s (events.Posted b request) g none o = refl
  same_masks s (events.Taken b answer) g none o = refl
  same_masks s (events.Faulted b before count) g none o = refl
  same_masks s (events.Detached b cause answer) g none o = refl
  same_masks s (events.Swapped b) g none o = refl
  same_masks s (events.Replied outcome status) g none o = refl

  answered_masked : (s b : ℕ) (answer : Answer) (request : Option Request) → Masked t → Masked (answered p s b answer request).tracked
  answered_masked s b answer None masked = masked
  answered_masked s b answer (Some request) masked = record { within = falls_masked t (world_of (answered p s b answer (Some request))) refl masked (λ o. refl) }

  answered_rows : (s b : ℕ) (answer : Answer) (request : Option Request) → (single (answered p s b answer request).tracked).rows ≡ (single t).rows
  answered_rows s b answer None = refl
  answered_rows s b answer (Some request) = falls_rows t (world_of (answered p s b answer (Some request))) refl h.invariant

  -- what a session's transaction has changed is in its mask
  pub step_masked : (e : Step) → MayStep p e → Masked t → Masked (after p e).tracked
  step_masked (Serve event) may masked = event_masked t event h.invariant h.allowed may.0 masked
  step_masked (Recover s event) may masked = record {
    within = falls_masked t (tracked_recovered t (gate_after p.gate (call_in event)) s.number event).world
        (recovered_tables t (gate_after p.gate (call_in event)) s.number event) masked
        (same_masks s.number event (gate_after p.gate (call_in event)) (no_mask event may));
  }
    where
      no_mask : (it : SessionEvent) → MayStep p (Recover s it) → it ≡ events.Ended → tables_of ((world_of p).machine s.number).session.gate ≡ 0
      no_mask it is ended =
          let due_end = (subst (λ (x : SessionEvent). MayStep p (Recover s x)) ended is).0 in
          ap tables_of (h.rests s.number (ends_up (p.recovery s.number) due_end)).out
  step_masked (Answers s b answer) may masked = answered_masked s.number b.number answer (p.asked s.number b.number) masked

  -- the gate of the sessions has the same tables touched
  same_touched : (event : Event) → MayStep p (Serve event) → (world_after (world_of p) event).gate.touched ≡ (after p (Serve event)).gate.touched
  same_touched event may = ap (λ (g : GateState). g.touched) (step_both p phases (Serve event) may tt h.counts).same

  -- a row of a table that is not touched behind the step stays in the single run
  pub step_rows : (e : Step) → MayStep p e → Masked t → (q : Place) → is_touched (after p e).gate.touched q.table ≡ false
      → fin.get (single (after p e).tracked).rows q ≡ fin.get (single t).rows q
  step_rows (Serve event) may masked q out =
      event_rows t event h.invariant h.allowed may.0 masked q (ap (λ (n : ℕ). is_touched n q.table) (same_touched event may) ∙ out)
  step_rows (Recover s event) may masked q out =
      ap (λ (r : Rows). fin.get r q)
      (falls_rows t (tracked_recovered t (gate_after p.gate (call_in event)) s.number event).world
      (recovered_tables t (gate_after p.gate (call_in event)) s.number event) h.invariant)
  step_rows (Answers s b answer) may masked q out = ap (λ (r : Rows). fin.get r q) (answered_rows s.number b.number answer (p.asked s.number b.number))

  -- Under entered quiet.

  pub still_touched : (e : Step) → MayStep p e → p.gate.quiet ≡ 3 → (after p e).gate.touched ≡ p.gate.touched
  still_touched e may three =
      ap (λ (g : GateState). g.touched) (gate_is p e) ∙ still_gate p.gate (call_of e) (step_meets p e may) three (h.still three).1

  same_quiet : p.gate.quiet ≡ 3 → t.world.gate.quiet ≡ 3
  same_quiet three = ap (λ (g : GateState). g.quiet) h.counts.same ∙ three

  served_single : (event : Event) → p.gate.quiet ≡ 3 → single (tracked_after t event) ≡ single t
  served_single (Of s event) three = ap (store_after t.world.tables) (adds_nothing t h.invariant (same_quiet three) (Of s event))
  served_single (Act s b answer) three = ap (store_after t.world.tables) (adds_nothing t h.invariant (same_quiet three) (Act s b answer))
  served_single (Lost b) three = ap (store_after t.world.tables) (adds_nothing t h.invariant (same_quiet three) (Lost b))

  answered_single : (s b : ℕ) (answer : Answer) (request : Option Request) → p.gate.quiet ≡ 3 → single (answered p s b answer request).tracked ≡ single t
  answered_single s b answer None three = refl
  answered_single s b answer (Some request) three =
      ap (store_after t.world.tables) (falls_none t h.invariant (same_quiet three) (world_of (answered p s b answer (Some request))) refl)

  -- the rows of the single run and its next serial numbers stay
  pub still_single : (e : Step) → p.gate.quiet ≡ 3 → single (after p e).tracked ≡ single t
  still_single (Serve event) three = served_single event three
  still_single (Recover s event) three =
      let w = (tracked_recovered t (gate_after p.gate (call_in event)) s.number event).world in
      let tables : w.tables ≡ t.world.tables = recovered_tables t (gate_after p.gate (call_in event)) s.number event in
      ap (store_after w.tables) (falls_none t h.invariant (same_quiet three) w tables) ∙ ap (λ (ts : List TableDef). store_after ts t.history) tables
  still_single (Answers s b answer) three = answered_single s.number b.number answer (p.asked s.number b.number) three

-- Lists of steps.

pub first_masked : (layout : Layout) (policy : ReadPolicy) (attached : BackendSet) → Masked (first_pool layout policy attached).tracked
first_masked layout policy attached = record { within = λ s. within_absent 0 }

touched_last : (p : Pool) (es : List Step) → IsQuietAlong p es → (table : ℕ) → is_touched p.gate.touched table ≡ true → is_touched (pool_all p es).gate.touched table ≡ true
touched_last p [] quiet table old = old
touched_last p (e ∷ es) quiet table old = touched_last (after p e) es quiet.1 table (step_touched p e quiet.0 table old)

untouched_before : (p : Pool) (es : List Step) → IsQuietAlong p es → (table : ℕ) → is_touched (pool_all p es).gate.touched table ≡ false → (v : Bool) → is_touched p.gate.touched table ≡ v
    → v ≡ false
untouched_before p es quiet table out true is = absurd (let z : false ≡ true = sym out ∙ touched_last p es quiet table is in cc)
untouched_before p es quiet table out false is = refl

pub record Facts (p : Pool) (phases : ℕ → Phase) : Type 0 where
  pub holds : Holds p phases
  pub masked : Masked p.tracked

facts_last : (p : Pool) (phases : ℕ → Phase) (es : List Step) → IsPlayed p es → AreMet phases es → AreFit p es → Facts p phases → Facts (pool_all p es) (phases_all phases es)
facts_last p phases [] played met fit f = f
facts_last p phases (e ∷ es) played met fit f =
    facts_last (after p e) (phases_after phases e) es played.1 met.1 fit.1
    (record { holds = step_holds p phases f.holds e played.0 met.0 fit.0; masked = step_masked p phases f.holds e played.0 f.masked })

rows_last : (p : Pool) (phases : ℕ → Phase) (es : List Step) → IsPlayed p es → AreMet phases es → AreFit p es → Facts p phases → IsQuietAlong p es
    → (q : Place) → is_touched (pool_all p es).gate.touched q.table ≡ false → fin.get (single (pool_all p es).tracked).rows q ≡ fin.get (single p.tracked).rows q
rows_last p phases [] played met fit f quiet q out = refl
rows_last p phases (e ∷ es) played met fit f quiet q out =
    rows_last (after p e) (phases_after phases e) es played.1 met.1 fit.1
    (record { holds = step_holds p phases f.holds e played.0 met.0 fit.0; masked = step_masked p phases f.holds e played.0 f.masked }) quiet.1 q out
    ∙ step_rows p phases f.holds e played.0 f.masked q (untouched_before (after p e) es quiet.1 q.table out (is_touched (after p e).gate.touched q.table) refl)

-- two lists of steps, one behind the other
pub joined_played : (p : Pool) (es more : List Step) → IsPlayed p es → IsPlayed (pool_all p es) more → IsPlayed p (es ++ more)
joined_played p [] more played later = later
joined_played p (e ∷ es) more played later = (played.0, joined_played (after p e) es more played.1 later)

met_behind : (phases : ℕ → Phase) (es more : List Step) → AreMet phases (es ++ more) → AreMet (phases_all phases es) more
met_behind phases [] more met = met
met_behind phases (e ∷ es) more met = met_behind (phases_after phases e) es more met.1

module _ (layout : Layout) (policy : ReadPolicy) (attached : BackendSet) (before : List Step) (allowed : AreAllowed layout.tables) (few : attached.bits < 256)
    (played : IsPlayed (first_pool layout policy attached) before) (fit : AreFit (first_pool layout policy attached) before) where
  abbrev last : Pool
  last = pool_all (first_pool layout policy attached) before

  facts : Facts last (phases_all all_outside before)
  facts =
      facts_last (first_pool layout policy attached) all_outside before played (always_met layout policy attached before played) fit
      (record { holds = first_holds layout policy attached allowed few; masked = first_masked layout policy attached })

  pub masked_at_last : Masked last.tracked
  masked_at_last = facts.masked

  pub rows_at_last : (more : List Step) (q : Place) → IsPlayed last more → AreFit last more → IsQuietAlong last more
      → is_touched (pool_all last more).gate.touched q.table ≡ false → fin.get (single (pool_all last more).tracked).rows q ≡ fin.get (single last.tracked).rows q
  rows_at_last more q later fits quiet out =
      rows_last last (phases_all all_outside before) more later
      (met_behind all_outside before more
      (always_met layout policy attached (before ++ more) (joined_played (first_pool layout policy attached) before more played later)))
      fits facts quiet q out
