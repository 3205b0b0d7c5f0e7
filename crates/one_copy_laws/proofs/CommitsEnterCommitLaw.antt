-- The law of EnterCommit: the commit has its place in the single run; with nobody attached the session goes to its end.
use Rattle.std.proofs.Common.{le_trans, ◌≡◌, ◌≢◌, ℕ, ◌+◌, ◌<◌, ◌≤◌, Bool, true, false, List, [], ◌∷◌, length, refl, sym, ap, ◌∙◌, subst, arith, inl, inr}
use Rattle.std.specs.Prelude.{Option, Some, None, is_some, nat_lt, if◌then◌else◌}
use Rattle.std.proofs.lemmas.Bool.Decides.{leb_tells, nat_tests}
use Rattle.pool_base.specs.declared.session_id.SessionId.{SessionId}
use Rattle.pool_base.specs.declared.backend_id.BackendId.{BackendId}
use Rattle.pool_base.specs.declared.gate_call.View.{View}
use Rattle.pool_base.specs.declared.gate_call.GateCall.TheVariants as calls
use Rattle.pool_base.specs.declared.gate_call.GateAnswer.{GateAnswer}
use Rattle.pool_base.specs.declared.gate_call.GateAnswer.TheVariants.{Granted, Held}
use Rattle.backend_trait.specs.declared.request.Request.TheVariants as requests
use Rattle.backend_trait.specs.declared.answer.Answer.{Answer}
use Rattle.backend_trait.specs.declared.answer.Answer.TheVariants as answers
use Rattle.backend_trait.specs.Store.{Live, Transaction, Absent, Alive}
use Rattle.snapshot_gate.specs.declared.state.GateState.{GateState}
use Rattle.snapshot_gate.specs.Function.{step, grant, refuse, granted as gate_granted, view_of}
use Rattle.session_machine.specs.declared.action.Action.TheVariants as actions
use Rattle.session_machine.specs.declared.action.SessionEvent.{SessionEvent}
use Rattle.session_machine.specs.declared.action.SessionEvent.TheVariants.{Called}
use Rattle.session_machine.specs.declared.status.Status.{Status}
use Rattle.session_machine.specs.declared.status.Status.TheVariants.{Idle, InBlock, Failed}
use Rattle.session_machine.specs.declared.work.Work.{Work}
use Rattle.session_orders.specs.declared.order.OrderBody.{OrderBody}
use Rattle.session_machine.specs.declared.machine.GatePhase.{GatePhase}
use Rattle.session_machine.specs.declared.machine.GatePhase.TheVariants as phases
use Rattle.session_machine.specs.declared.machine.Machine.{Machine}
use Rattle.session_machine.specs.declared.machine.Session.{Session}
use Rattle.session_machine.specs.declared.machine.Ending.TheVariants.{Leaves as EndsWith}
use Rattle.session_machine.specs.declared.machine.Stage.TheVariants.{Committing, Closing}
use Rattle.session_machine.specs.declared.machine.Point.{Point}
use Rattle.session_machine.specs.declared.machine.Point.TheVariants.{Resting, EnterCommitDue, LeaveCommitDue}
use Rattle.session_machine.specs.Answers.{lowest, is_attached}
use Rattle.session_machine.specs.Rules.{action_at, due, called, granted, in_phase, with_view, begun, commit_entered, commit_outcome}
use Rattle.one_copy_model.specs.declared.deed.Deed.{Deed}
use Rattle.one_copy_model.specs.declared.deed.Deed.TheVariants.{Asks, Gets}
use Rattle.one_copy_model.specs.declared.deed.Entry.{Entry}
use Rattle.one_copy_model.specs.declared.event.Event.TheVariants.{Of}
use Rattle.one_copy_model.specs.SingleRun.{store_after}
use Rattle.one_copy_model.specs.World.{World, MayHappen}
use Rattle.one_copy_model.specs.Places.{place_of, commits, code_in}
use Rattle.one_copy_model.specs.Deaths.{is_live, recorded, stage_at}
use Rattle.one_copy_model.specs.Tracking.{Told, Tracked, single, tracked_after, placed, told_entered, nobody}
use Rattle.one_copy_model.specs.Replies.{reply_to, settle_reply, commit_reply}
use Rattle.one_copy_model.specs.Orders.{OrderAt, IsCommit, Commits}
use Rattle.one_copy_model.specs.Standing.{Standing, Ahead, Leaving, Alike, Stands, standing_in, standing_open, standing_by, leaving_of}
use Rattle.one_copy_model.specs.Invariant.{Invariant, FitsPoint, in_snapshot, request_in, where_live, wants_of, inserted_in}
use Rattle.one_copy_model.specs.Own.{told_by, stand, IsIn, Own, given_by}
use Rattle.one_copy_model.specs.Facts.{CountedBy}
use Rattle.one_copy_model.proofs.Counts.{Moves, counted, count_some}
use Rattle.one_copy_model.proofs.Calm.{free_of, is_waiting}
use Rattle.one_copy_model.proofs.Landing.{moved, moved_holds, same_mail}
use Rattle.one_copy_model.proofs.Locks.{calm_inserts}
use Rattle.one_copy_model.proofs.Places.{same_or_other}
use Rattle.one_copy_model.proofs.Quiet.{real, below_65, quiet_holds}
use Rattle.one_copy_model.proofs.Turning.{FactsOf, facts_of, live_there}
use Rattle.one_copy_model.proofs.Beginning.{free_own, none_told, fresh_order}
use Rattle.one_copy_model.proofs.Finding.{nobody_attached, is_found}
use Rattle.one_copy_model.proofs.Livings.{alike_live, clear_idle, clear_dead, none_of}
use Rattle.one_copy_laws.proofs.GateCalling.{called_to, lands_call, granted_view}
use Rattle.one_copy_laws.proofs.GateFinishing.{under_way}
use Rattle.one_copy_laws.proofs.GateGoing.{places_dead, none_alive, none_lives}
use Rattle.one_copy_laws.proofs.CommitsCommitted.{committed_to, committed_none, committed_others, committed_clear, committed_leaves, committed_deeds, committed_grows}
use Rattle.one_copy_laws.proofs.CommitsEntering.{enters_shared}
use Rattle.one_copy_laws.proofs.CommitsGrowing.{own_grows}
use Rattle.one_copy_laws.proofs.CommitsSteady.{live_grown}

-- the point at which it is due, and what the gate's answer says
enter_due : (session : Session) (point : Point) (written : ℕ) → action_at session point ≡ actions.Gate (calls.EnterCommit written) → point ≡ EnterCommitDue
enter_due session EnterCommitDue written e = refl
enter_due session point written e = absurd (cc)

enter_phase : (point : Point) (phase : GatePhase) → point ≡ EnterCommitDue → FitsPoint (stage_at point) point phase → (written : ℕ) × (phase ≡ phases.Live true written)
enter_phase point phase is fits = by phase (subst (λ (p : Point). FitsPoint (stage_at p) p phase) is fits)
  where
    by : (phase : GatePhase) → FitsPoint None EnterCommitDue phase → (written : ℕ) × (phase ≡ phases.Live true written)
    by (phases.Live true written) e = (written, refl)
    by (phases.Live false written) e = absurd (let z : false ≡ true = e in cc)
    by phases.Out e = absurd (let z : false ≡ true = e in cc)
    by phases.InSnapshot e = absurd (let z : false ≡ true = e in cc)
    by phases.InCommit e = absurd (let z : false ≡ true = e in cc)

record Enters (gate : GateState) (written : ℕ) (view : View) : Type 0 where
  next : (step gate (calls.EnterCommit written)).0 ≡ gate_granted gate (calls.EnterCommit written)
  view_is : view ≡ view_of (gate_granted gate (calls.EnterCommit written))
  alone : gate.snaps ≡ 0

same_view : (a b : View) → Granted a ≡ Granted b → b ≡ a
same_view a b e = let z : a ≡ b = cc in sym z

enters_by : (gate : GateState) (written : ℕ) (view : View) (a : Bool) → nat_lt 0 gate.snaps ≡ a
    → (if a then refuse gate (Held gate.snaps) else grant gate (calls.EnterCommit written)).1 ≡ Granted view
    → ((if a then refuse gate (Held gate.snaps) else grant gate (calls.EnterCommit written)).0 ≡ gate_granted gate (calls.EnterCommit written))
    × (view ≡ view_of (gate_granted gate (calls.EnterCommit written))) × (gate.snaps ≡ 0)
enters_by gate written view true p e = absurd (let z : Held gate.snaps ≡ Granted view = e in cc)
enters_by gate written view false p e = (refl, same_view (view_of (gate_granted gate (calls.EnterCommit written))) view e, none_in gate.snaps p)
  where
    none_in : (k : ℕ) → nat_lt 0 k ≡ false → k ≡ 0
    none_in k e = grind (arith, nat_tests)

enters : (gate : GateState) (written : ℕ) (view : View) → (step gate (calls.EnterCommit written)).1 ≡ Granted view → Enters gate written view
enters gate written view e = let h = enters_by gate written view (nat_lt 0 gate.snaps) refl e in record { next = h.0; view_is = h.1; alone = h.2 }

enter_moves : (gate : GateState) (machine : ℕ → Machine) (written tables : ℕ) → CountedBy gate machine → gate.snaps ≡ 0
    → Moves gate (gate_granted gate (calls.EnterCommit written)) (phases.Live true tables) phases.InCommit
enter_moves gate machine written tables h alone = record {
  snaps = refl;
  commits = (let z : gate.commits + 1 + 0 ≡ gate.commits + 1 = omega arith in z);
  live = refl;
  apart = inl alone;
  quiet = h.quiet;
  few = h.few;
}

-- an order whose commit has been entered
entered_some : (told : Option Told) → is_some told ≡ true → is_some (told_entered told) ≡ true
entered_some None e = e
entered_some (Some told) e = refl

entered_was : (old : Option Told) (told : Told) → told_entered old ≡ Some told → (was : Told) × (old ≡ Some was) × (told ≡ record was { entered = true })
entered_was None told e = absurd (let z : None ≡ Some told = e in cc)
entered_was (Some was) told e = (was, refl, sym (same (record was { entered = true }) told e))
  where
    same : (a b : Told) → Some a ≡ Some b → a ≡ b
    same a b e = cc

-- what a COMMIT replies
commit_says : (status : Status) (body : OrderBody) (begun : Bool) (deeds : List Deed) → Commits status body → begun ≡ true
    → reply_to body status begun (Gets answers.Done ∷ Asks requests.Commit ∷ deeds) ≡ Some (commit_outcome status)
commit_says Idle body begun deeds e f =
    ap (λ (b : OrderBody). reply_to b Idle begun (Gets answers.Done ∷ Asks requests.Commit ∷ deeds)) e
    ∙ ap (λ (x : Bool). settle_reply Idle x (Gets answers.Done ∷ Asks requests.Commit ∷ deeds)) f
commit_says InBlock body begun deeds e f =
    ap (λ (b : OrderBody). reply_to b InBlock begun (Gets answers.Done ∷ Asks requests.Commit ∷ deeds)) e
    ∙ ap (λ (x : Bool). commit_reply InBlock x (Gets answers.Done ∷ Asks requests.Commit ∷ deeds)) f
commit_says Failed body begun deeds e f = absurd e

places_live : (live : Bool) (w : World) (s : ℕ) (m : Machine) (event : SessionEvent) (history : List Entry) (deeds : List Deed) → live ≡ true → place_of m.session m.point event ≡ deeds
    → placed live w s m event history ≡ recorded s deeds history
places_live true w s m event history deeds e place = ap (λ d. recorded s d history) place
places_live false w s m event history deeds e place = absurd (let z : false ≡ true = e in cc)

not_live : (x : Transaction) → x ≡ Absent → is_live x ≡ true → ⊥
not_live x e f = let z : false ≡ true = sym (ap is_live e) ∙ f in cc

not_ahead : (x : Standing) → x ≡ Ahead [] → x ≡ Leaving → ⊥
not_ahead x e f = let z : Ahead [] ≡ Leaving = sym e ∙ f in cc

module _ (t : Tracked) (h : Invariant t) (s : SessionId) (written : ℕ) (view : View) (e : Enters t.world.gate written view)
    (at : (t.world.machine s.number).point ≡ EnterCommitDue)
    (phase : (tables : ℕ) × ((t.world.machine s.number).session.gate ≡ phases.Live true tables)) where
  abbrev m : Machine
  m = t.world.machine s.number

  abbrev attached : ℕ
  attached = t.world.gate.attached.bits

  abbrev mail : ℕ → Option Answer
  mail = t.world.mail s.number

  abbrev next : GateState
  next = gate_granted t.world.gate (calls.EnterCommit written)

  abbrev entered : Session
  entered = in_phase (with_view m.session view) phases.InCommit

  abbrev by : Option Told
  by = told_entered (t.orders s.number)

  abbrev event : SessionEvent
  event = Called (calls.EnterCommit written) (Granted view)

  abbrev old : Own t.world.tables attached t.history t.world.store m mail (t.orders s.number) (t.done s.number) (live_there t s.number) s.number
  old = (facts_of t h).own s.number

  moves : Moves t.world.gate next m.session.gate phases.InCommit
  moves = subst (λ (p : GatePhase). Moves t.world.gate next p phases.InCommit) (sym phase.1) (enter_moves t.world.gate t.world.machine written phase.0 (facts_of t h).counts e.alone)

  under : is_some by ≡ true
  under = entered_some (t.orders s.number) (under_way m.point (t.orders s.number) (λ rest. let z : EnterCommitDue ≡ Resting = sym at ∙ rest in cc) old.orders)

  same_at : (b : ℕ) → stand m mail b ≡ Ahead []
  same_at b = ap (λ (p : Point). standing_by m.session.gate p (stage_at p) (told_by m mail b)) at ∙ ap standing_open phase.1

  idle : (b : ℕ) (work : Work) → inserted_in (stage_at m.point) (told_by m mail b) ≡ Some work → ⊥
  idle b work x = let z : None ≡ Some work = sym (ap (λ (p : Point). inserted_in (stage_at p) (told_by m mail b)) at) ∙ x in cc

  clear : (single t).pending s.number ≡ None
  clear = clear_idle t h s.number (ap (λ (p : Point). wants_of p (stage_at p)) at)

  none_snaps : (o : ℕ) → in_snapshot (t.world.machine o).session.gate ≡ false
  none_snaps o = none_of (in_snapshot (t.world.machine o).session.gate) (λ is. elim (leb_tells 65 o) [
    | inl q ↦ (let z : false ≡ true = sym (ap in_snapshot (h.strangers o (inr q.1)).out) ∙ is in cc)
    | inr q ↦ count_some (λ x. in_snapshot (t.world.machine x).session.gate) 65 o (sym h.counts.snaps ∙ e.alone) (let z : o < 65 = omega (arith, q.1) in z) is
  ])

  -- nobody is attached
  module _ (none : (b : ℕ) → IsIn attached b → ⊥) where
    abbrev ends_to : Machine
    ends_to = due entered (LeaveCommitDue EndsWith)

    dead : live_there t s.number ≡ false
    dead = none_lives t h s.number none

    ends_own : Own t.world.tables attached t.history t.world.store ends_to mail by nobody (live_there t s.number) s.number
    ends_own =
        free_own t.world.tables attached t.history t.history t.world.store m mail (t.orders s.number) (t.done s.number) (live_there t s.number) s.number
        (real s) (free_of m.point (ap is_waiting at)) old ends_to by nobody (live_there t s.number) refl
        refl refl (λ stage x. absurd (let z : None ≡ Some stage = x in cc)) (λ b stage here x. absurd (none b here))
        (λ b here. absurd (none b here))
        (λ u tables x alive. absurd (let z : phases.InCommit ≡ phases.Live false tables = x in cc))
        (λ b l here. absurd (none b here))
        (ap request_in (clear_dead t h s.number dead) ∙ sym (ap (λ x. where_live x None) dead))
        (λ told outcome x f. absurd (let z : None ≡ Some outcome = f in cc))
        under (λ told x. tt)
        (λ told x. let was = entered_was (t.orders s.number) told x in subst (λ (y : Told). y.entries ≤ length t.history) (sym was.2) (old.since was.0 was.1))
        (λ b told here x f. absurd (none b here))
        (λ b told x f here. absurd (none b here))

    nobody_lives : (a : ℕ) (u : Live) → (single t).transaction a ≡ Alive u → ⊥
    nobody_lives a u is = let z : true ≡ false = sym (ap is_live is) ∙ none_lives t h a none in cc

    ends_kept : Invariant (called_to t s (calls.EnterCommit written) (Granted view) next ends_to t.history by nobody)
    ends_kept =
        quiet_holds t h s ends_to next by nobody refl moves (
          record {
            leaves = λ b here x. absurd (none b here);
            stays = λ b here x. absurd (none b here);
            inserts = λ b here. absurd (none b here);
            commits = λ a u is x. absurd (nobody_lives a u is);
          },
          λ table i. absurd (calm_inserts ends_to table refl i),
        )
        ends_own

  -- a backend is attached
  module _ (first : ℕ) (first_in : IsIn attached first) where
    abbrev n : Machine
    n = begun entered Committing

    alike_at : (b : ℕ) → IsIn attached b → Alike ((t.world.store b).transaction s.number) ((single t).transaction s.number)
    alike_at b here = subst (λ x. Stands (single t) s.number (leaving_of t.world.tables s.number t.history) x ((t.world.store b).transaction s.number) ((single t).transaction s.number)) (same_at b) (h.stands s.number b here)

    its_live : (u : Live) × ((single t).transaction s.number ≡ Alive u)
    its_live = let a = alike_live ((t.world.store first).transaction s.number) ((single t).transaction s.number) (alike_at first first_in) in (a.1, a.3)

    abbrev u : Live
    u = its_live.0

    is : (single t).transaction s.number ≡ Alive u
    is = its_live.1

    abbrev mid : List Entry
    mid = committed_to t.world.tables s.number t.history u is

    abbrev mine : Tracked
    mine = moved t s.number n next mail mid by nobody

    untold : (b : ℕ) → told_by n mail b ≡ None
    untold = none_told t.world.tables attached t.history t.history t.world.store m mail (t.orders s.number) (t.done s.number) (live_there t s.number) s.number
        (real s) (free_of m.point (ap is_waiting at)) old n refl

    leaves : (b : ℕ) → stand n mail b ≡ Leaving
    leaves b = ap (standing_in Committing) (untold b)

    none : (store_after t.world.tables mid).transaction s.number ≡ Absent
    none = committed_none t.world.tables s.number t.history u is

    longer : length t.history ≤ length mid
    longer = omega arith

    is_commit : (told : Told) → t.orders s.number ≡ Some told → IsCommit m.session told
    is_commit told x = subst (λ (p : Point). OrderAt m.session p told) at (old.order_is told x)

    says : (told : Told) → t.orders s.number ≡ Some told → given_by s.number told mid ≡ Some (commit_outcome m.session.status)
    says told x =
        let o = is_commit told x in
        ap (reply_to told.order.body told.status told.begun) (committed_deeds t.world.tables s.number t.history u is told.entries (old.since told x))
        ∙ commit_says told.status told.order.body told.begun _ o.body o.begun
        ∙ ap (λ (y : Status). Some (commit_outcome y)) (sym o.status)

    enters_own : Own t.world.tables attached mid t.world.store n mail by nobody false s.number
    enters_own =
        free_own t.world.tables attached t.history mid t.world.store m mail (t.orders s.number) (t.done s.number) (live_there t s.number) s.number
        (real s) (free_of m.point (ap is_waiting at)) old n by nobody false refl
        refl tt (λ stage x. fresh_order attached n stage refl refl) (λ b stage here x. untold b)
        (λ b here. subst (λ x. Stands (store_after t.world.tables mid) s.number (leaving_of t.world.tables s.number mid) x ((t.world.store b).transaction s.number) ((store_after t.world.tables mid).transaction s.number)) (sym (leaves b))
        (subst (Alike ((t.world.store b).transaction s.number)) (is ∙ sym (committed_leaves t.world.tables s.number t.history u is)) (alike_at b here), none))
        (λ v tables x alive. absurd (let z : phases.InCommit ≡ phases.Live false tables = x in cc))
        (λ b l here x. absurd (let z : Some Committing ≡ Some Closing = x in cc))
        (ap request_in (committed_clear t.world.tables s.number t.history u is))
        (λ told outcome x f. absurd (let z : None ≡ Some outcome = f in cc))
        under
        (λ told x. let was = entered_was (t.orders s.number) told x in
        let o = is_commit was.0 was.1 in subst (λ (y : Told). IsCommit n.session y) (sym was.2) (record { body = o.body; status = o.status; begun = o.begun }))
        (λ told x. let was = entered_was (t.orders s.number) told x in subst (λ (y : Told). y.entries ≤ length mid) (sym was.2) (le_trans (old.since was.0 was.1) longer))
        (λ b told here x f. let was = entered_was (t.orders s.number) told x in
        subst (λ (y : Told). given_by s.number y mid ≡ Some (commit_outcome m.session.status)) (sym was.2) (says was.0 was.1))
        (λ b told x f here away. absurd (away (leaves b)))

    live_same : (o : ℕ) → o ≢ s.number → live_there mine o ≡ live_there t o
    live_same o other = ap is_live (committed_others t.world.tables s.number t.history u is o other) ∙ live_grown u.changes ((single t).transaction o)

    enters_kept : Invariant (called_to t s (calls.EnterCommit written) (Granted view) next n mid by nobody)
    enters_kept =
        let f : FactsOf t = facts_of t h in
        same_mail t s.number n next mail mid by nobody refl
        (moved_holds t s.number n next mail mid by nobody refl
        (subst (λ (x : Bool). Own t.world.tables attached mid t.world.store n mail by nobody x s.number) (sym (ap is_live none)) enters_own)
        (λ o other. own_grows t.world.tables u.changes o t.history mid (committed_grows t.world.tables s.number t.history u is o other) attached t.world.store (t.world.machine o) (t.world.mail o) (t.orders o) (t.done o)
        (live_there t o) (live_there mine o) (live_same o other) (none_snaps o) (f.own o))
        (enters_shared t.world.tables attached t.history t.world.store t.world.machine t.world.mail s.number n u is clear
        (λ b here. not_ahead (stand m mail b) (same_at b)) (λ b here. leaves b)
        (λ b work here. idle b work) (λ b work here x. let z : None ≡ Some work = x in cc) h.inside f.shared)
        (counted t.world.machine s.number n (below_65 s) t.world.gate next moves f.counts)
        (λ o live. elim (same_or_other o s.number) [
          | inl same ↦ absurd (not_live ((store_after t.world.tables mid).transaction o) (ap (store_after t.world.tables mid).transaction same ∙ none) live)
          | inr other ↦ h.alive o (sym (live_same o other) ∙ live)
        ]))

  seen_bits : lowest view.attached.bits ≡ lowest attached
  seen_bits = ap (λ (v : View). lowest v.attached.bits) e.view_is

  enters_by_first : (p : Option BackendId) → lowest attached ≡ p → Invariant (tracked_after t (Of s event))
  unfolding called granted
  enters_by_first None low =
      let none : (b : ℕ) → IsIn attached b → ⊥ = nobody_attached attached h.few low in
      lands_call t s (calls.EnterCommit written) (Granted view) next (due entered (LeaveCommitDue EndsWith)) t.history by nobody refl e.next
      (ap (granted (with_view m.session view)) at ∙ ap (commit_entered entered) (seen_bits ∙ low))
      (places_dead (live_there t s.number) t.world s.number m event t.history (none_lives t h s.number none)
      (ap (λ (p : Point). code_in (place_of m.session p event)) at) (inl (none_alive t.world s.number none)) refl)
      refl refl (ends_kept none)
  enters_by_first (Some b) low =
      let here : IsIn attached b.number = is_found (is_attached attached) b low in
      let u = its_live b.number here in
      lands_call t s (calls.EnterCommit written) (Granted view) next (begun entered Committing) (committed_to t.world.tables s.number t.history u.0 u.1) by nobody refl e.next
      (ap (granted (with_view m.session view)) at ∙ ap (commit_entered entered) (seen_bits ∙ low))
      (places_live (live_there t s.number) t.world s.number m event t.history commits (ap is_live u.1) (ap (λ (p : Point). place_of m.session p event) at))
      refl refl (enters_kept b.number here)

pub enter_commit_kept : (t : Tracked) (s : SessionId) (written : ℕ) (answer : GateAnswer) → Invariant t → MayHappen t.world (Of s (Called (calls.EnterCommit written) answer))
    → Invariant (tracked_after t (Of s (Called (calls.EnterCommit written) answer)))
enter_commit_kept t s written answer h may =
    let m : Machine = t.world.machine s.number in
    let at : m.point ≡ EnterCommitDue = enter_due m.session m.point written may.0.0 in
    let v = granted_view answer may.0.1 in
    subst (λ (a : GateAnswer). Invariant (tracked_after t (Of s (Called (calls.EnterCommit written) a)))) (sym v.1)
    (enters_by_first t h s written v.0 (enters t.world.gate written v.0 (may.1.1 ∙ v.1)) at (enter_phase m.point m.session.gate at (h.inside s.number)) (lowest t.world.gate.attached.bits) refl)
