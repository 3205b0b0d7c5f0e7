-- The law of LeaveSnapshot: a transaction begins, or one that has run nothing goes to its end.
use Rattle.std.proofs.Common.{zero, suc, ◌≡◌, ℕ, ◌+◌, ◌-◌, ◌<◌, Bool, true, false, List, [], refl, sym, ap, ◌∙◌, subst, arith, inl, inr}
use Rattle.std.specs.Prelude.{◌⊎◌, Option, Some, None}
use Rattle.pool_base.specs.declared.session_id.SessionId.{SessionId}
use Rattle.pool_base.specs.declared.gate_call.View.{View}
use Rattle.pool_base.specs.declared.gate_call.GateCall.TheVariants as calls
use Rattle.pool_base.specs.declared.gate_call.GateAnswer.{GateAnswer}
use Rattle.pool_base.specs.declared.gate_call.GateAnswer.TheVariants.{Granted}
use Rattle.backend_trait.specs.declared.answer.Answer.{Answer}
use Rattle.snapshot_gate.specs.declared.state.GateState.{GateState}
use Rattle.snapshot_gate.specs.Function.{granted as gate_granted, view_of}
use Rattle.session_machine.specs.declared.action.Action.TheVariants as actions
use Rattle.session_machine.specs.declared.action.SessionEvent.TheVariants.{Called}
use Rattle.session_machine.specs.declared.work.Work.{Work}
use Rattle.session_orders.specs.declared.outcome.Outcome.{Outcome}
use Rattle.session_machine.specs.declared.machine.GatePhase.{GatePhase}
use Rattle.session_machine.specs.declared.machine.GatePhase.TheVariants as phases
use Rattle.session_machine.specs.declared.machine.Machine.{Machine}
use Rattle.session_machine.specs.declared.machine.Session.{Session}
use Rattle.session_machine.specs.declared.machine.Ending.{Ending as MachineEnding}
use Rattle.session_machine.specs.declared.machine.Ending.TheVariants.{Replies, Leaves as EndsWith}
use Rattle.session_machine.specs.declared.machine.Stage.{Stage}
use Rattle.session_machine.specs.declared.machine.Stage.TheVariants.{Running, Locking}
use Rattle.session_machine.specs.declared.machine.Point.{Point}
use Rattle.session_machine.specs.declared.machine.Point.TheVariants.{Resting, LookDue, ChooseDue, LeaveSnapshotDue, UnwindDue, FinishDue}
use Rattle.session_machine.specs.Rules.{action_at, due, called, granted, in_phase, with_view}
use Rattle.one_copy_model.specs.declared.deed.Entry.{Entry}
use Rattle.one_copy_model.specs.declared.event.Event.TheVariants.{Of}
use Rattle.one_copy_model.specs.World.{World, MayHappen}
use Rattle.one_copy_model.specs.Places.{place_of, opening_of, refused_opening}
use Rattle.one_copy_model.specs.Deaths.{is_live, recorded, stage_at, is_alive}
use Rattle.one_copy_model.specs.Tracking.{Told, Tracked, tracked_after, placed}
use Rattle.one_copy_model.specs.Orders.{OrderAt, reply_in, reply_of, is_of_commit, IsClassedAt, lists, ends_listing}
use Rattle.one_copy_model.specs.Standing.{Nowhere, Ahead, Leaving, standing_by}
use Rattle.one_copy_model.specs.Invariant.{Invariant, FitsPoint, where_live, wants_of}
use Rattle.one_copy_model.specs.Own.{told_by, stand, IsIn}
use Rattle.one_copy_model.proofs.Counts.{Moves}
use Rattle.one_copy_model.proofs.Turning.{facts_of, live_there}
use Rattle.one_copy_model.proofs.Landing.{places_none}
use Rattle.pool_base.specs.declared.backend_id.BackendId.{BackendId}
use Rattle.one_copy_model.specs.Invariant.{inserted_in, inserting_in}
use Rattle.one_copy_model.specs.Facts.{CountedBy}
use Rattle.one_copy_model.proofs.Calm.{is_waiting}
use Rattle.one_copy_model.proofs.Beginning.{fresh_order}
use Rattle.one_copy_model.proofs.Livings.{not_live}
use Rattle.one_copy_model.proofs.Finding.{nobody_attached, one_of_eight}
use Rattle.one_copy_laws.proofs.GateCalling.{called_to, lands_call, granted_view, right_moves}
use Rattle.session_machine.specs.declared.action.SessionEvent.{SessionEvent}
use Rattle.one_copy_model.specs.Places.{code_in}
use Rattle.one_copy_laws.proofs.GateGoing.{goes_on, places_dead, none_alive, none_lives}
use Rattle.session_machine.specs.Codes.{no_backend}
use Rattle.session_machine.specs.Rules.{failing, error_of, refused, snapshot_left}
use Rattle.session_machine.specs.Answers.{lowest, is_attached}
use Rattle.session_machine.specs.declared.work.Class.{Class}
use Rattle.session_machine.specs.declared.work.Class.TheVariants as classes
use Rattle.session_machine.specs.Rules.{started_as}
use Rattle.one_copy_model.specs.Places.{asks_of, opens}
use Rattle.one_copy_model.specs.Numbers.{some_below}
use Rattle.one_copy_model.specs.Deaths.{is_alive_at}
use Rattle.one_copy_model.specs.Standing.{standing_in, same as as_there}
use Rattle.one_copy_model.specs.Orders.{IsStatement, runs_at_once}
use Rattle.one_copy_model.specs.Tracking.{opened_if, with_code}
use Rattle.one_copy_model.specs.Orders.{IsClassed, IsClassedIn}
use Rattle.one_copy_model.specs.Invariant.{asks_at}
use Rattle.std.specs.Prelude.{◌&&◌, ◌||◌}
use Rattle.one_copy_model.proofs.Places.{same_or_other}
use Rattle.one_copy_model.proofs.Opening.{begins_to}
use Rattle.one_copy_model.proofs.Finding.{is_found}
use Rattle.one_copy_laws.proofs.GateStranding.{released_point, strands, right_nobody}
use Rattle.one_copy_laws.proofs.GateBeginning.{absent_there, fresh, begins_holds}

same_view : (a b : View) → Granted a ≡ Granted b → b ≡ a
same_view a b e = let z : a ≡ b = cc in sym z

unlisted_of : (ending : MachineEnding) (outcome : Outcome) → ends_listing ending ≡ false → reply_of ending ≡ Some outcome → lists outcome ≡ false
unlisted_of (Replies other) outcome e f = ap lists (same other outcome f) ∙ e
  where
    same : (a b : Outcome) → Some a ≡ Some b → b ≡ a
    same a b e = let z : a ≡ b = cc in sym z
unlisted_of EndsWith outcome e f = absurd (let z : None ≡ Some outcome = f in cc)

-- an opening of a transaction that is alive
places_opened : (live : Bool) (w : World) (s : ℕ) (m : Machine) (event : SessionEvent) (history : List Entry) (work : Work) → live ≡ false
    → place_of m.session m.point event ≡ [] → is_alive w s ≡ true → opening_of m.point event ≡ opens work → refused_opening m.session m.point event ≡ []
    → placed live w s m event history ≡ begins_to w.tables s history work
places_opened true w s m event history work dead place alive opening refused = absurd (let z : true ≡ false = dead in cc)
places_opened false w s m event history work dead place alive opening refused =
    ap (λ d. recorded s d (opened_if (is_alive w s) s (opening_of m.point event) (with_code s (code_in (place_of m.session m.point event)) history))) refused
    ∙ ap (λ x. opened_if x s (opening_of m.point event) (with_code s (code_in (place_of m.session m.point event)) history)) alive
    ∙ ap (λ d. recorded s d (with_code s (code_in (place_of m.session m.point event)) history)) opening
    ∙ ap (λ d. recorded s (opens work) (with_code s (code_in d) history)) place

leave_due : (session : Session) (point : Point) → action_at session point ≡ actions.Gate calls.LeaveSnapshot
    → ((work : Work) × (point ≡ LeaveSnapshotDue work)) ⊎ ((ending : MachineEnding) × (point ≡ UnwindDue ending))
leave_due session (LeaveSnapshotDue work) e = inl (work, refl)
leave_due session (UnwindDue ending) e = inr (ending, refl)
leave_due session point e = absurd (cc)

snap_phase : (point : Point) (phase : GatePhase) → ((work : Work) × (point ≡ LeaveSnapshotDue work)) ⊎ ((ending : MachineEnding) × (point ≡ UnwindDue ending)) → FitsPoint (stage_at point) point phase → phase ≡ phases.InSnapshot
snap_phase point phase is fits = elim is [
  | inl w ↦ at_work w.0 phase (subst (λ (p : Point). FitsPoint (stage_at p) p phase) w.1 fits)
  | inr e ↦ at_end e.0 phase (subst (λ (p : Point). FitsPoint (stage_at p) p phase) e.1 fits)
]
  where
    at_work : (work : Work) (phase : GatePhase) → FitsPoint None (LeaveSnapshotDue work) phase → phase ≡ phases.InSnapshot
    at_work work phases.InSnapshot e = refl
    at_work work phases.Out e = absurd (cc)
    at_work work (phases.Live changed written) e = absurd (cc)
    at_work work phases.InCommit e = absurd (cc)

    at_end : (ending : MachineEnding) (phase : GatePhase) → FitsPoint None (UnwindDue ending) phase → phase ≡ phases.InSnapshot
    at_end ending phases.InSnapshot e = refl
    at_end ending phases.Out e = absurd (cc)
    at_end ending (phases.Live changed written) e = absurd (cc)
    at_end ending phases.InCommit e = absurd (cc)

none_commits : (gate : GateState) (machine : ℕ → Machine) → CountedBy gate machine → 0 < gate.snaps → gate.commits ≡ 0
none_commits gate machine h some = elim h.apart [
  | inl none ↦ absurd (let idle : gate.snaps ≡ 0 = none in omega (arith, idle, some))
  | inr none ↦ none
]

leave_moves : (gate : GateState) (machine : ℕ → Machine) → CountedBy gate machine → 0 < gate.snaps → Moves gate (gate_granted gate calls.LeaveSnapshot) phases.InSnapshot (phases.Live false 0)
leave_moves gate machine h some = record {
  snaps = (let z : gate.snaps - 1 + 1 ≡ gate.snaps + 0 = omega (arith, some) in z);
  commits = refl;
  live = (let z : gate.live + 1 + 0 ≡ gate.live + 1 = omega arith in z);
  apart = inr (none_commits gate machine h some);
  quiet = λ q. let r = h.quiet q in absurd (let idle : gate.snaps ≡ 0 = r.0 in omega (arith, idle, some));
  few = h.few;
}

-- who has a live transaction at an attached backend is alive
or_left : (a c : Bool) → a ≡ true → (a || c) ≡ true
or_left true c e = refl
or_left false c e = absurd (cc)

or_right : (a c : Bool) → c ≡ true → (a || c) ≡ true
or_right true c e = refl
or_right false c e = e

some_at : (p : ℕ → Bool) (n b : ℕ) → b < n → p b ≡ true → some_below p n ≡ true
some_at p zero b below is = absurd (omega (arith, below))
some_at p (suc n) b below is = elim (same_or_other b n) [
  | inl e ↦ or_left (p n) (some_below p n) (ap p (sym e) ∙ is)
  | inr other ↦ or_right (p n) (some_below p n) (some_at p n b (let z : b < n = omega (arith, below, other) in z) is)
]

alive_by : (w : World) (s b : ℕ) → b < 8 → IsIn w.gate.attached.bits b → is_live ((w.store b).transaction s) ≡ true → is_alive w s ≡ true
unfolding is_alive
alive_by w s b below in_it live = some_at (is_alive_at w s) 8 b below (ap (λ x. x && is_live ((w.store b).transaction s)) in_it ∙ live)

module _ (t : Tracked) (h : Invariant t) (s : SessionId) (some : 0 < t.world.gate.snaps) (view : View) (seen : view ≡ view_of (gate_granted t.world.gate calls.LeaveSnapshot)) where
  abbrev m : Machine
  m = t.world.machine s.number

  abbrev attached : ℕ
  attached = t.world.gate.attached.bits

  abbrev mail : ℕ → Option Answer
  mail = t.world.mail s.number

  abbrev next : GateState
  next = gate_granted t.world.gate calls.LeaveSnapshot

  abbrev opened : Session
  opened = in_phase (with_view m.session view) (phases.Live false 0)

  moves_by : m.session.gate ≡ phases.InSnapshot → Moves t.world.gate next m.session.gate (phases.Live false 0)
  moves_by inside = subst (λ (p : GatePhase). Moves t.world.gate next p (phases.Live false 0)) (sym inside) (leave_moves t.world.gate t.world.machine (facts_of t h).counts some)

  abbrev Left_to : Machine → List Entry → Type 0
  Left_to n mid = Invariant (called_to t s calls.LeaveSnapshot (Granted view) next n mid (t.orders s.number) (t.done s.number))

  -- a transaction that has run nothing
  unwinds : (ending : MachineEnding) → m.point ≡ UnwindDue ending → m.session.gate ≡ phases.InSnapshot → Left_to (due opened (FinishDue ending)) t.history
  unwinds ending at inside =
      let n : Machine = due opened (FinishDue ending) in
      let nowhere : (b : ℕ) → stand m mail b ≡ Nowhere = λ b. ap (λ (p : Point). standing_by m.session.gate p (stage_at p) (told_by m mail b)) at in
      let dead : live_there t s.number ≡ false = not_live t h s.number (λ b asked here e. (let z : Nowhere ≡ Ahead asked = sym (nowhere b) ∙ e in cc)) in
      let unlisted : ends_listing ending ≡ false = subst (IsClassedAt t.world.tables) at (h.classed s.number) in
      goes_on t h s n next (ap is_waiting at) (λ rest. let z : UnwindDue ending ≡ Resting = sym at ∙ rest in cc) refl
      (λ b stage here e. absurd (let z : None ≡ Some stage = e in cc)) refl unlisted
      (λ stage e. absurd (let z : None ≡ Some stage = e in cc))
      (λ b here. sym (nowhere b)) (λ b here x. let z : Nowhere ≡ Leaving = sym (nowhere b) ∙ x in cc)
      (λ u written e alive. absurd (let z : true ≡ false = sym (ap is_live alive) ∙ dead in cc))
      (h.posts s.number ∙ ap (where_live (live_there t s.number)) (ap (λ (p : Point). wants_of p (stage_at p)) at))
      (λ told outcome e f. right_moves attached m n (live_there t s.number) s.number t.history told outcome (unlisted_of ending outcome unlisted f)
      (((facts_of t h).own s.number).replies told outcome e (ap reply_in at ∙ f)))
      (λ is. is) (λ told e. tt) refl refl (moves_by inside) (λ x. absurd (let z : false ≡ true = x in cc))
      (λ b here. ap (λ (p : Point). inserted_in (stage_at p) (told_by m mail b)) at) refl

  -- where a backend is attached the transaction begins
  module _ (work : Work) (at : m.point ≡ LeaveSnapshotDue work) (inside : m.session.gate ≡ phases.InSnapshot) where
    statement : (session : Session) → session.status ≡ m.session.status → (told : Told) → t.orders s.number ≡ Some told → IsStatement session told work
    statement session same told e =
        let o : IsStatement m.session told work = subst (λ (p : Point). OrderAt m.session p told) at (h.order_is s.number told e) in
        record { checked = o.checked; body = o.body; written = o.written; status = same ∙ o.status }

    classed : IsClassed t.world.tables work
    classed = subst (IsClassedAt t.world.tables) at (h.classed s.number)

    module _ (first : ℕ) (here : IsIn attached first) where
      alive : is_alive t.world s.number ≡ true
      alive = alive_by t.world s.number first (one_of_eight attached first h.few here) here (ap is_live (fresh t h s work at first here first here).0)

      abbrev empty : Session
      empty = record opened { heard = [] }

      chain : (stage : Stage) → FitsPoint (Some stage) (LookDue stage) (phases.Live false 0) → IsClassedIn t.world.tables stage
          → ((told : Option Answer) → told ≡ None → standing_in stage told ≡ as_there)
          → asks_at stage ≡ Some (asks_of work) → reply_in (LookDue stage) ≡ None
          → ((told : Told) → t.orders s.number ≡ Some told → OrderAt empty (LookDue stage) told)
          → is_of_commit (Some stage) ≡ false → inserted_in (Some stage) None ≡ None → inserting_in (Some stage) ≡ None
          → Left_to (due empty (LookDue stage)) (begins_to t.world.tables s.number t.history work)
      chain stage fits of_class stands wants reply order_at off idle plainly =
          begins_holds t h s work at first here (due empty (LookDue stage)) next refl refl refl fits of_class
          (λ other e. fresh_order attached (due empty (LookDue stage)) other refl refl)
          stands wants reply (λ is. is) order_at off (λ x e. ap (λ y. inserted_in y None) e ∙ idle) plainly refl (moves_by inside)
          (none_commits t.world.gate t.world.machine (facts_of t h).counts some) alive

      pub begins_as : (class : Class) → work.class ≡ class → Left_to (started_as opened work class) (begins_to t.world.tables s.number t.history work)
      begins_as classes.Read c =
          begins_holds t h s work at first here (due empty (ChooseDue work)) next refl refl refl refl (classed, c)
          (λ stage e. absurd (let z : None ≡ Some stage = e in cc))
          (λ told none. refl) refl refl (λ is. is) (statement empty refl) refl (λ x e. ap (λ y. inserted_in y None) e) refl refl (moves_by inside)
          (none_commits t.world.gate t.world.machine (facts_of t h).counts some) alive
      begins_as classes.LockingRead c = chain (Running work) refl (classed, ap runs_at_once c) (λ told none. ap (standing_in (Running work)) none) refl refl (statement empty refl) refl refl refl
      begins_as (classes.Write verb) c = chain (Running work) refl (classed, ap runs_at_once c) (λ told none. ap (standing_in (Running work)) none) refl refl (statement empty refl) refl refl refl
      begins_as (classes.SerialInsert table) c = chain (Locking work table) refl (classed, c) (λ told none. ap (standing_in (Locking work table)) none) refl refl (statement empty refl) refl refl refl

    primary_in : (b : BackendId) → lowest attached ≡ Some b → IsIn attached b.number
    primary_in b e = is_found (is_attached attached) b e

    seen_bits : lowest view.attached.bits ≡ lowest attached
    seen_bits = ap (λ (v : View). lowest v.attached.bits) seen

    left_by : (p : Option BackendId) → lowest attached ≡ p → Invariant (tracked_after t (Of s (Called calls.LeaveSnapshot (Granted view))))
    unfolding called granted
    left_by None e =
        let none : (b : ℕ) → IsIn attached b → ⊥ = nobody_attached attached h.few e in
        let dead : live_there t s.number ≡ false = none_lives t h s.number none in
        lands_call t s calls.LeaveSnapshot (Granted view) next (due (failing opened) (released_point (phases.Live false 0) (Replies (error_of no_backend)))) t.history (t.orders s.number) (t.done s.number) refl refl
        (ap (granted (with_view m.session view)) at ∙ ap (snapshot_left opened work) (seen_bits ∙ e))
        (places_dead (live_there t s.number) t.world s.number m (Called calls.LeaveSnapshot (Granted view)) t.history dead
        (ap (λ (p : Point). code_in (place_of m.session p (Called calls.LeaveSnapshot (Granted view)))) at) (inl (none_alive t.world s.number none)) refl)
        refl refl
        (strands t h s (failing opened) next (Replies (error_of no_backend)) (ap is_waiting at) (λ rest. let z : LeaveSnapshotDue work ≡ Resting = sym at ∙ rest in cc) none refl
        (λ told outcome f r. right_nobody attached _ (live_there t s.number) s.number t.history told outcome none dead r)
        refl (moves_by inside) (λ x. absurd (let z : false ≡ true = x in cc)))
    left_by (Some b) e =
        let here : IsIn attached b.number = primary_in b e in
        let dead : live_there t s.number ≡ false = ap is_live (absent_there t h s work at b.number here) in
        lands_call t s calls.LeaveSnapshot (Granted view) next (started_as opened work work.class) (begins_to t.world.tables s.number t.history work) (t.orders s.number) (t.done s.number) refl refl
        (ap (granted (with_view m.session view)) at ∙ ap (snapshot_left opened work) (seen_bits ∙ e))
        (places_opened (live_there t s.number) t.world s.number m (Called calls.LeaveSnapshot (Granted view)) t.history work dead
        (ap (λ (p : Point). place_of m.session p (Called calls.LeaveSnapshot (Granted view))) at) (alive b.number here)
        (ap (λ (p : Point). opening_of p (Called calls.LeaveSnapshot (Granted view))) at) refl)
        refl refl (begins_as b.number here work.class refl)

  pub leave_at : ((work : Work) × (m.point ≡ LeaveSnapshotDue work)) ⊎ ((ending : MachineEnding) × (m.point ≡ UnwindDue ending)) → m.session.gate ≡ phases.InSnapshot
      → Invariant (tracked_after t (Of s (Called calls.LeaveSnapshot (Granted view))))
  unfolding called granted
  leave_at (inl w) inside = left_by w.0 w.1 inside (lowest attached) refl
  leave_at (inr e) inside =
      lands_call t s calls.LeaveSnapshot (Granted view) next (due opened (FinishDue e.0)) t.history (t.orders s.number) (t.done s.number) refl refl
      (ap (granted (with_view m.session view)) e.1)
      (places_none (live_there t s.number) t.world s.number m (Called calls.LeaveSnapshot (Granted view)) t.history
      (ap (λ (p : Point). place_of m.session p (Called calls.LeaveSnapshot (Granted view))) e.1)
      (ap (λ (p : Point). opening_of p (Called calls.LeaveSnapshot (Granted view))) e.1) refl)
      refl refl (unwinds e.0 e.1 inside)

pub leave_snapshot_kept : (t : Tracked) (s : SessionId) (answer : GateAnswer) → Invariant t → MayHappen t.world (Of s (Called calls.LeaveSnapshot answer)) → Invariant (tracked_after t (Of s (Called calls.LeaveSnapshot answer)))
leave_snapshot_kept t s answer h may =
    let d = leave_due (t.world.machine s.number).session (t.world.machine s.number).point may.0.0 in
    let v = granted_view answer may.0.1 in
    let inside = snap_phase (t.world.machine s.number).point (t.world.machine s.number).session.gate d (h.inside s.number) in
    subst (λ (a : GateAnswer). Invariant (tracked_after t (Of s (Called calls.LeaveSnapshot a)))) (sym v.1)
    (leave_at t h s may.1.0 v.0 (same_view (view_of (gate_granted t.world.gate calls.LeaveSnapshot)) v.0 (may.1.1 ∙ v.1)) d inside)
