-- The gate is left: behind a commit, and at the end of a transaction.
use Rattle.std.proofs.Common.{◌≡◌, ℕ, zero, suc, ◌+◌, ◌-◌, ◌<◌, Bool, true, false, [], refl, sym, ap, ◌∙◌, subst, arith, inl, inr}
use Rattle.std.specs.Prelude.{List, ◌⊎◌, Option, Some, None, is_some}
use Rattle.pool_base.specs.declared.session_id.SessionId.{SessionId}
use Rattle.pool_base.specs.declared.gate_call.View.{View}
use Rattle.pool_base.specs.declared.gate_call.GateCall.{GateCall}
use Rattle.pool_base.specs.declared.gate_call.GateCall.TheVariants as calls
use Rattle.pool_base.specs.declared.gate_call.GateAnswer.{GateAnswer}
use Rattle.pool_base.specs.declared.gate_call.GateAnswer.TheVariants.{Granted}
use Rattle.schema.specs.declared.catalogue.TableDef.{TableDef}
use Rattle.backend_trait.specs.declared.answer.Answer.{Answer}
use Rattle.backend_trait.specs.Rows.{with_at}
use Rattle.snapshot_gate.specs.declared.state.GateState.{GateState}
use Rattle.snapshot_gate.specs.Function.{granted as gate_granted}
use Rattle.session_machine.specs.declared.action.Action.TheVariants as actions
use Rattle.session_machine.specs.declared.action.SessionEvent.TheVariants.{Called}
use Rattle.session_orders.specs.declared.outcome.Outcome.{Outcome}
use Rattle.session_machine.specs.declared.machine.GatePhase.{GatePhase}
use Rattle.session_machine.specs.declared.machine.GatePhase.TheVariants as phases
use Rattle.session_machine.specs.declared.machine.Machine.{Machine}
use Rattle.session_machine.specs.declared.machine.Session.{Session}
use Rattle.session_machine.specs.declared.machine.Ending.{Ending as MachineEnding}
use Rattle.session_machine.specs.declared.machine.Ending.TheVariants.{Replies, Leaves as EndsWith}
use Rattle.session_machine.specs.declared.machine.Point.{Point}
use Rattle.session_machine.specs.declared.machine.Point.TheVariants.{Resting, EnterDue, LookDue, PostDue, Waiting, LostDue, SplitDue, ChooseDue, ShowDue, LeaveSnapshotDue, UnwindDue, EnterCommitDue, LeaveCommitDue, FinishDue, ReplyDue, EndDue}
use Rattle.session_machine.specs.Rules.{action_at, due, called, granted, ended, in_phase, with_view}
use Rattle.one_copy_model.specs.declared.event.Event.TheVariants.{Of}
use Rattle.one_copy_model.specs.World.{MayHappen}
use Rattle.one_copy_model.specs.Places.{place_of, opening_of}
use Rattle.one_copy_model.specs.Deaths.{stage_at}
use Rattle.one_copy_model.specs.Tracking.{Told, Tracked, tracked_after}
use Rattle.one_copy_model.specs.Orders.{OrderAt, reply_in, reply_of, IsClassedAt, lists, ends_listing}
use Rattle.one_copy_model.specs.Standing.{Nowhere, Leaving, standing_by}
use Rattle.one_copy_model.specs.Invariant.{Invariant, FitsPoint, where_live, wants_of, IsUnderWay, in_transaction}
use Rattle.one_copy_model.specs.Facts.{CountedBy}
use Rattle.one_copy_model.specs.Own.{told_by, stand}
use Rattle.one_copy_model.proofs.Counts.{Moves, count_some}
use Rattle.one_copy_model.proofs.Calm.{calm_own, free_of, is_waiting}
use Rattle.one_copy_model.proofs.Turning.{facts_of, live_there}
use Rattle.one_copy_model.proofs.Landing.{places_none}
use Rattle.one_copy_model.proofs.Quiet.{real, below_65, calm_silent, quiet_holds}
use Rattle.one_copy_laws.proofs.GateCalling.{lands_call, granted_view, right_moves}

abbrev ended_point : MachineEnding → Point
ended_point (Replies outcome) = ReplyDue outcome
ended_point EndsWith = EndDue

ended_is : (session : Session) (ending : MachineEnding) → ended session ending ≡ due session (ended_point ending)
ended_is session (Replies outcome) = refl
ended_is session EndsWith = refl

record Ends (tables : List TableDef) (point : Point) (ending : MachineEnding) : Type 0 where
  calm : stage_at (ended_point ending) ≡ None
  fits : FitsPoint (stage_at (ended_point ending)) (ended_point ending) phases.Out
  classed : IsClassedAt tables (ended_point ending)
  stands : (told : Option Answer) → standing_by phases.Out (ended_point ending) (stage_at (ended_point ending)) told ≡ Nowhere
  wants : wants_of (ended_point ending) (stage_at (ended_point ending)) ≡ None

ends : (tables : List TableDef) → (point : Point) (ending : MachineEnding) → Ends tables point ending
ends tables point (Replies outcome) = record { calm = refl; fits = refl; classed = tt; stands = λ told. refl; wants = refl }
ends tables point EndsWith = record { calm = refl; fits = refl; classed = tt; stands = λ told. refl; wants = refl }

pub under_way : (point : Point) (told : Option Told) → (point ≡ Resting → ⊥) → IsUnderWay point told → is_some told ≡ true
under_way Resting told awake under = absurd (awake refl)
under_way (EnterDue work) told awake under = under
under_way (LookDue stage) told awake under = under
under_way (PostDue stage b) told awake under = under
under_way (Waiting stage b) told awake under = under
under_way (LostDue stage b before more) told awake under = under
under_way (SplitDue stage best own among more) told awake under = under
under_way (ChooseDue work) told awake under = under
under_way ShowDue told awake under = under
under_way (LeaveSnapshotDue work) told awake under = under
under_way (UnwindDue ending) told awake under = under
under_way EnterCommitDue told awake under = under
under_way (LeaveCommitDue ending) told awake under = under
under_way (FinishDue ending) told awake under = under
under_way (ReplyDue outcome) told awake under = under
under_way EndDue told awake under = under

ended_way : (ending : MachineEnding) (told : Option Told) → is_some told ≡ true → IsUnderWay (ended_point ending) told
ended_way (Replies outcome) told is = is
ended_way EndsWith told is = is

ended_order : (session : Session) (ending : MachineEnding) (told : Told) → OrderAt session (ended_point ending) told
ended_order session (Replies outcome) told = tt
ended_order session EndsWith told = tt

-- the session is out, and its transaction is nowhere before and behind
module _ (t : Tracked) (h : Invariant t) (s : SessionId) (ending : MachineEnding) (view : View) (next : GateState)
    (free : is_waiting (t.world.machine s.number).point ≡ false)
    (before : stage_at (t.world.machine s.number).point ≡ None)
    (nowhere : (b : ℕ) → stand (t.world.machine s.number) (t.world.mail s.number) b ≡ Nowhere)
    (wanted : wants_of (t.world.machine s.number).point (stage_at (t.world.machine s.number).point) ≡ None)
    (replied : (outcome : Outcome) → reply_in (ended_point ending) ≡ Some outcome → (reply_in (t.world.machine s.number).point ≡ Some outcome) × (lists outcome ≡ false))
    (awake : (t.world.machine s.number).point ≡ Resting → ⊥)
    (same : next.attached ≡ t.world.gate.attached)
    (moves : Moves t.world.gate next (t.world.machine s.number).session.gate phases.Out) where
  abbrev m : Machine
  m = t.world.machine s.number

  abbrev n : Machine
  n = due (in_phase (with_view m.session view) phases.Out) (ended_point ending)

  abbrev attached : ℕ
  attached = t.world.gate.attached.bits

  abbrev mail : ℕ → Option Answer
  mail = t.world.mail s.number

  e : Ends t.world.tables m.point ending
  e = ends t.world.tables m.point ending

  out_same : (b : ℕ) → stand n mail b ≡ stand m mail b
  out_same b = e.stands (told_by n mail b) ∙ sym (nowhere b)

  pub goes_out : Invariant (record { world = record { tables = t.world.tables; gate = next; machine = with_at t.world.machine s.number n; store = t.world.store; mail = t.world.mail }; history = t.history; orders = with_at t.orders s.number (t.orders s.number); done = with_at t.done s.number (t.done s.number) })
  goes_out =
      quiet_holds t h s n next (t.orders s.number) (t.done s.number) same moves
      (calm_silent t.world.tables attached t.history m n mail (λ b at. out_same b) before e.calm (λ f. absurd (let z : false ≡ true = f in cc)))
      (calm_own t.world.tables attached t.history t.world.store m mail (t.orders s.number) (t.done s.number) (live_there t s.number) s.number
      (real s) (free_of m.point free) n (t.orders s.number) (t.done s.number) e.calm ((facts_of t h).own s.number)
      e.fits e.classed (λ b at. out_same b)
      (λ written f. absurd (let z : phases.Out ≡ phases.Live false written = f in cc))
      (ap (where_live (live_there t s.number)) (e.wants ∙ sym wanted))
      (λ is outcome f g. let r = replied outcome g in right_moves attached m n (live_there t s.number) s.number t.history is outcome r.1 (((facts_of t h).own s.number).replies is outcome f r.0))
      (ended_way ending (t.orders s.number) (under_way m.point (t.orders s.number) awake (h.orders s.number)))
      (λ is f. ended_order n.session ending is)
      (λ is f. h.since s.number is f)
      (λ b is f entered at g. h.done_first s.number b is f entered at (λ x. let z : Nowhere ≡ Leaving = sym (nowhere b) ∙ x in cc)))

finish_due : (session : Session) (point : Point) → action_at session point ≡ actions.Gate calls.Finish → (ending : MachineEnding) × (point ≡ FinishDue ending)
finish_due session (FinishDue ending) e = (ending, refl)
finish_due session point e = absurd (cc)

leave_due : (session : Session) (point : Point) → action_at session point ≡ actions.Gate calls.LeaveCommit → (ending : MachineEnding) × (point ≡ LeaveCommitDue ending)
leave_due session (LeaveCommitDue ending) e = (ending, refl)
leave_due session point e = absurd (cc)

finish_phase : (point : Point) (phase : GatePhase) (ending : MachineEnding) → point ≡ FinishDue ending → FitsPoint (stage_at point) point phase → (changed : Bool) × (written : ℕ) × (phase ≡ phases.Live changed written)
finish_phase point phase ending is fits = by phase (subst (λ (p : Point). FitsPoint (stage_at p) p phase) is fits)
  where
    by : (phase : GatePhase) → FitsPoint None (FinishDue ending) phase → (changed : Bool) × (written : ℕ) × (phase ≡ phases.Live changed written)
    by (phases.Live changed written) e = (changed, written, refl)
    by phases.Out e = absurd (cc)
    by phases.InSnapshot e = absurd (cc)
    by phases.InCommit e = absurd (cc)

leave_phase : (point : Point) (phase : GatePhase) (ending : MachineEnding) → point ≡ LeaveCommitDue ending → FitsPoint (stage_at point) point phase → phase ≡ phases.InCommit
leave_phase point phase ending is fits = by phase (subst (λ (p : Point). FitsPoint (stage_at p) p phase) is fits)
  where
    by : (phase : GatePhase) → FitsPoint None (LeaveCommitDue ending) phase → phase ≡ phases.InCommit
    by phases.InCommit e = refl
    by (phases.Live changed written) e = absurd (cc)
    by phases.Out e = absurd (cc)
    by phases.InSnapshot e = absurd (cc)

module _ (gate : GateState) (machine : ℕ → Machine) (h : CountedBy gate machine) where
  finish_moves : gate.commits < gate.live → (changed : Bool) (written : ℕ) → Moves gate (gate_granted gate calls.Finish) (phases.Live changed written) phases.Out
  finish_moves less changed written = record {
    snaps = refl;
    commits = refl;
    live = (let z : gate.live - 1 + 1 ≡ gate.live + 0 = omega (arith, less) in z);
    apart = h.apart;
    quiet = λ q. let r = h.quiet q in let empty : gate.live ≡ 0 = r.1 in (r.0, (let z : gate.live - 1 ≡ 0 = omega (arith, empty) in z));
    few = h.few;
  }

  leave_moves : 0 < gate.commits → (gate.live ≡ 0 → ⊥) → Moves gate (gate_granted gate calls.LeaveCommit) phases.InCommit phases.Out
  leave_moves some live = record {
    snaps = refl;
    commits = (let z : gate.commits - 1 + 1 ≡ gate.commits + 0 = omega (arith, some) in z);
    live = (let one : 0 < gate.live = pos_of gate.live live in let z : gate.live - 1 + 1 ≡ gate.live + 0 = omega (arith, one) in z);
    apart = elim h.apart [ inl snaps ↦ inl snaps | inr idle ↦ inr (let none : gate.commits ≡ 0 = idle in let z : gate.commits - 1 ≡ 0 = omega (arith, none) in z) ];
    quiet = λ q. let r = h.quiet q in absurd (live r.1);
    few = h.few;
  }
    where
      pos_of : (k : ℕ) → (k ≡ 0 → ⊥) → 0 < k
      pos_of zero f = absurd (f refl)
      pos_of (suc k) f = omega arith

module _ (t : Tracked) (s : SessionId) (answer : GateAnswer) (h : Invariant t) where
  abbrev mine : Machine
  mine = t.world.machine s.number

  replied_at : (ending : MachineEnding) (point : Point) → reply_in point ≡ reply_of ending → ends_listing ending ≡ false → (outcome : Outcome) → reply_in (ended_point ending) ≡ Some outcome → (reply_in point ≡ Some outcome) × (lists outcome ≡ false)
  replied_at (Replies other) point is none outcome f = (is ∙ f, (let same : other ≡ outcome = (let z : Some other ≡ Some outcome = f in cc) in ap lists (sym same) ∙ none))
  replied_at EndsWith point is none outcome f = absurd (let z : None ≡ Some outcome = f in cc)

  nothing_else : (call : GateCall) (view : View) (ending : MachineEnding) (point : Point) → (point ≡ FinishDue ending) ⊎ (point ≡ LeaveCommitDue ending)
      → (place_of mine.session point (Called call (Granted view)) ≡ []) × (opening_of point (Called call (Granted view)) ≡ [])
  nothing_else call view ending point (inl is) = (ap (λ (p : Point). place_of mine.session p (Called call (Granted view))) is, ap (λ (p : Point). opening_of p (Called call (Granted view))) is)
  nothing_else call view ending point (inr is) = (ap (λ (p : Point). place_of mine.session p (Called call (Granted view))) is, ap (λ (p : Point). opening_of p (Called call (Granted view))) is)

  lists_none : (ending : MachineEnding) → (mine.point ≡ FinishDue ending) ⊎ (mine.point ≡ LeaveCommitDue ending) → ends_listing ending ≡ false
  lists_none ending (inl is) = subst (IsClassedAt t.world.tables) is (h.classed s.number)
  lists_none ending (inr is) = subst (IsClassedAt t.world.tables) is (h.classed s.number)

  pub finish_kept_at : MayHappen t.world (Of s (Called calls.Finish answer)) → Invariant (tracked_after t (Of s (Called calls.Finish answer)))
  unfolding called granted
  finish_kept_at may =
      let due_is = finish_due mine.session mine.point may.0.0 in
      let at : mine.point ≡ FinishDue due_is.0 = due_is.1 in
      let v = granted_view answer may.0.1 in
      let phase = finish_phase mine.point mine.session.gate due_is.0 at (h.inside s.number) in
      let places = nothing_else calls.Finish v.0 due_is.0 mine.point (inl at) in
      subst (λ (a : GateAnswer). Invariant (tracked_after t (Of s (Called calls.Finish a)))) (sym v.1)
      (lands_call t s calls.Finish (Granted v.0) (gate_granted t.world.gate calls.Finish) (due (in_phase (with_view mine.session v.0) phases.Out) (ended_point due_is.0)) t.history (t.orders s.number) (t.done s.number) refl refl
      (ap (λ (p : Point). granted (with_view mine.session v.0) p) at ∙ ended_is (in_phase (with_view mine.session v.0) phases.Out) due_is.0)
      (places_none (live_there t s.number) t.world s.number mine (Called calls.Finish (Granted v.0)) t.history places.0 places.1 refl) refl refl
      (goes_out t h s due_is.0 v.0 (gate_granted t.world.gate calls.Finish) (ap is_waiting at) (ap stage_at at)
      (λ b. ap (λ (p : Point). standing_by mine.session.gate p (stage_at p) (told_by mine (t.world.mail s.number) b)) at)
      (ap (λ (p : Point). wants_of p (stage_at p)) at)
      (replied_at due_is.0 mine.point (ap reply_in at) (lists_none due_is.0 (inl at)))
      (λ rest. let z : FinishDue due_is.0 ≡ Resting = sym at ∙ rest in cc) refl
      (subst (λ (p : GatePhase). Moves t.world.gate (gate_granted t.world.gate calls.Finish) p phases.Out) (sym phase.2)
      (finish_moves t.world.gate t.world.machine (facts_of t h).counts may.1.0 phase.0 phase.1))))

  pub leave_kept_at : MayHappen t.world (Of s (Called calls.LeaveCommit answer)) → Invariant (tracked_after t (Of s (Called calls.LeaveCommit answer)))
  unfolding called granted
  leave_kept_at may =
      let due_is = leave_due mine.session mine.point may.0.0 in
      let at : mine.point ≡ LeaveCommitDue due_is.0 = due_is.1 in
      let v = granted_view answer may.0.1 in
      let phase : mine.session.gate ≡ phases.InCommit = leave_phase mine.point mine.session.gate due_is.0 at (h.inside s.number) in
      let places = nothing_else calls.LeaveCommit v.0 due_is.0 mine.point (inr at) in
      subst (λ (a : GateAnswer). Invariant (tracked_after t (Of s (Called calls.LeaveCommit a)))) (sym v.1)
      (lands_call t s calls.LeaveCommit (Granted v.0) (gate_granted t.world.gate calls.LeaveCommit) (due (in_phase (with_view mine.session v.0) phases.Out) (ended_point due_is.0)) t.history (t.orders s.number) (t.done s.number) refl refl
      (ap (λ (p : Point). granted (with_view mine.session v.0) p) at ∙ ended_is (in_phase (with_view mine.session v.0) phases.Out) due_is.0)
      (places_none (live_there t s.number) t.world s.number mine (Called calls.LeaveCommit (Granted v.0)) t.history places.0 places.1 refl) refl refl
      (goes_out t h s due_is.0 v.0 (gate_granted t.world.gate calls.LeaveCommit) (ap is_waiting at) (ap stage_at at)
      (λ b. ap (λ (p : Point). standing_by mine.session.gate p (stage_at p) (told_by mine (t.world.mail s.number) b)) at)
      (ap (λ (p : Point). wants_of p (stage_at p)) at)
      (replied_at due_is.0 mine.point (ap reply_in at) (lists_none due_is.0 (inr at)))
      (λ rest. let z : LeaveCommitDue due_is.0 ≡ Resting = sym at ∙ rest in cc) refl
      (subst (λ (p : GatePhase). Moves t.world.gate (gate_granted t.world.gate calls.LeaveCommit) p phases.Out) (sym phase)
      (leave_moves t.world.gate t.world.machine (facts_of t h).counts may.1.0
      (λ idle. count_some (λ o. in_transaction (t.world.machine o).session.gate) 65 s.number (sym h.counts.live ∙ idle) (below_65 s) (ap in_transaction phase))))))

pub finish_kept : (t : Tracked) (s : SessionId) (answer : GateAnswer) → Invariant t → MayHappen t.world (Of s (Called calls.Finish answer)) → Invariant (tracked_after t (Of s (Called calls.Finish answer)))
finish_kept t s answer h may = finish_kept_at t s answer h may

pub leave_commit_kept : (t : Tracked) (s : SessionId) (answer : GateAnswer) → Invariant t → MayHappen t.world (Of s (Called calls.LeaveCommit answer)) → Invariant (tracked_after t (Of s (Called calls.LeaveCommit answer)))
leave_commit_kept t s answer h may = leave_kept_at t s answer h may
