-- The detachment of the last attached backend: whoever is live in the single run dies there, and what is due at the gate stays due.
use Rattle.std.proofs.Common.{◌≡◌, ℕ, ◌+◌, Bool, true, false, List, [], refl, sym, ap, ◌∙◌, subst}
use Rattle.std.specs.Prelude.{Option, Some, None}
use Rattle.pool_base.specs.Sets.{has}
use Rattle.pool_base.specs.declared.session_id.SessionId.{SessionId}
use Rattle.pool_base.specs.declared.backend_id.BackendId.{BackendId}
use Rattle.pool_base.specs.declared.backend_set.BackendSet.{BackendSet}
use Rattle.pool_base.specs.declared.gate_call.GateCall.TheVariants as calls
use Rattle.pool_base.specs.declared.gate_call.GateAnswer.{GateAnswer}
use Rattle.backend_trait.specs.declared.request.Request.{Request}
use Rattle.backend_trait.specs.declared.answer.Answer.{Answer}
use Rattle.backend_trait.specs.Rows.{with_at}
use Rattle.snapshot_gate.specs.Function.{view_of, step}
use Rattle.session_machine.specs.Codes.{no_backend}
use Rattle.session_machine.specs.declared.action.Cause.{Cause}
use Rattle.session_machine.specs.declared.action.SessionEvent.{SessionEvent}
use Rattle.session_machine.specs.declared.action.SessionEvent.TheVariants.{Detached}
use Rattle.session_orders.specs.declared.outcome.Outcome.{Outcome}
use Rattle.session_machine.specs.declared.machine.GatePhase.{GatePhase}
use Rattle.session_machine.specs.declared.machine.GatePhase.TheVariants as phases
use Rattle.session_machine.specs.declared.machine.Heard.{Heard}
use Rattle.session_machine.specs.declared.machine.Machine.{Machine}
use Rattle.session_machine.specs.declared.machine.Session.{Session}
use Rattle.session_machine.specs.declared.machine.Ending.{Ending as MachineEnding}
use Rattle.session_machine.specs.declared.machine.Ending.TheVariants.{Replies, Leaves as EndsWith}
use Rattle.session_machine.specs.declared.machine.Stage.{Stage}
use Rattle.session_machine.specs.declared.machine.Stage.TheVariants.{Opening, Reading, Running, Locking, Inserting, Committing, Closing, RollingBack}
use Rattle.session_machine.specs.declared.machine.Point.{Point}
use Rattle.session_machine.specs.declared.machine.Point.TheVariants.{Resting, LostDue, SplitDue, LeaveSnapshotDue, UnwindDue, LeaveCommitDue, FinishDue}
use Rattle.session_machine.specs.Answers.{lowest, first_other}
use Rattle.session_machine.specs.Rules.{due, detached, with_view, lost_one, parted, parted_at, stranded, stranded_in, failing, released, error_of}
use Rattle.one_copy_model.specs.declared.deed.Deed.{Deed}
use Rattle.one_copy_model.specs.declared.deed.Entry.{Entry}
use Rattle.one_copy_model.specs.declared.event.Event.TheVariants.{Of}
use Rattle.one_copy_model.specs.World.{World, MayHappen}
use Rattle.one_copy_model.specs.Places.{place_of, at_parted, refused_opening, refused_parted, closing_split, where_decided, where_refused}
use Rattle.one_copy_model.specs.Deaths.{stage_at, fallen}
use Rattle.one_copy_model.specs.Tracking.{Told, Tracked, deaths_first, tracked_after, in_commit}
use Rattle.one_copy_model.specs.Orders.{ends_listing, IsClassedIn, reply_of, reply_of_stage}
use Rattle.one_copy_model.specs.Standing.{Nowhere, Fresh, Ahead, standing_in, standing_at, standing_by}
use Rattle.one_copy_model.specs.Invariant.{Invariant, FitsPoint, fits_stage}
use Rattle.one_copy_model.specs.Own.{IsIn, IsRightBy}
use Rattle.one_copy_model.proofs.Counts.{still}
use Rattle.one_copy_model.proofs.Turning.{facts_of, live_there}
use Rattle.one_copy_model.proofs.Landing.{places_none, with_at-self}
use Rattle.one_copy_model.proofs.Calm.{is_waiting}
use Rattle.one_copy_model.proofs.Finding.{nobody_attached}
use Rattle.one_copy_model.proofs.Livings.{ahead_where}
use Rattle.one_copy_laws.proofs.GateCalling.{right_moves}
use Rattle.one_copy_laws.proofs.GateGoing.{none_lives}
use Rattle.one_copy_laws.proofs.GateStranding.{strands, right_nobody, released_point, released_is}
use Rattle.one_copy_laws.proofs.ChainsChaining.{class_in, reply_is, unlisted_in}
use Rattle.one_copy_laws.proofs.FallsSplitting.{detached_is, place_is, refused_is}
use Rattle.one_copy_laws.proofs.DecidedParting.{gate, left, few, behind, facts_left, led, lands_fallen}
use Rattle.one_copy_laws.proofs.DecidedAlone.{alone_holds, fallen_same, behind_all}
use Rattle.one_copy_laws.proofs.DecidedEnds.{ends_ahead}

-- who is ahead of the single run is in no entered commit
outside_at : (phase : GatePhase) (point : Point) (asks : List Request) → standing_at phase point ≡ Ahead asks → in_commit phase ≡ false
outside_at phases.Out point asks e = refl
outside_at phases.InSnapshot point asks e = refl
outside_at (phases.Live changed written) point asks e = refl
outside_at phases.InCommit (LeaveSnapshotDue work) asks e = absurd (let z : Fresh ≡ Ahead asks = e in cc)
outside_at phases.InCommit (UnwindDue ending) asks e = absurd (let z : Nowhere ≡ Ahead asks = e in cc)
outside_at phases.InCommit (LeaveCommitDue ending) asks e = absurd (let z : Nowhere ≡ Ahead asks = e in cc)
outside_at phases.InCommit (FinishDue ending) asks e = absurd (let z : Nowhere ≡ Ahead asks = e in cc)
outside_at phases.InCommit point asks e = absurd (let z : Nowhere ≡ Ahead asks = e in cc)

outside_in : (x : Stage) (phase : GatePhase) (told : Option Answer) (asks : List Request) → standing_in x told ≡ Ahead asks → fits_stage x phase ≡ true → in_commit phase ≡ false
outside_in x phases.Out told asks e f = refl
outside_in x phases.InSnapshot told asks e f = refl
outside_in x (phases.Live changed written) told asks e f = refl
outside_in Committing phases.InCommit told asks e f = absurd (ends_ahead Committing told asks refl e)
outside_in Closing phases.InCommit told asks e f = absurd (ends_ahead Closing told asks refl e)
outside_in (RollingBack ending) phases.InCommit told asks e f = absurd (ends_ahead (RollingBack ending) told asks refl e)
outside_in (Opening work) phases.InCommit told asks e f = absurd (let z : false ≡ true = f in cc)
outside_in (Reading work ticket) phases.InCommit told asks e f = absurd (let z : false ≡ true = f in cc)
outside_in (Running work) phases.InCommit told asks e f = absurd (let z : false ≡ true = f in cc)
outside_in (Locking work table) phases.InCommit told asks e f = absurd (let z : false ≡ true = f in cc)
outside_in (Inserting work posted) phases.InCommit told asks e f = absurd (let z : false ≡ true = f in cc)

outside_by : (found : Option Stage) (phase : GatePhase) (point : Point) (told : Option Answer) (asks : List Request) → standing_by phase point found told ≡ Ahead asks → FitsPoint found point phase → in_commit phase ≡ false
outside_by (Some x) phase point told asks e f = outside_in x phase told asks e f
outside_by None phase point told asks e f = outside_at phase point asks e

commit_in : (phase : GatePhase) → fits_stage Committing phase ≡ true → phase ≡ phases.InCommit
commit_in phases.InCommit e = refl
commit_in phases.Out e = absurd (let z : false ≡ true = e in cc)
commit_in phases.InSnapshot e = absurd (let z : false ≡ true = e in cc)
commit_in (phases.Live changed written) e = absurd (let z : false ≡ true = e in cc)

-- where the last backend has left nothing is placed
refused_empty : (session : Session) (x : Stage) (best own : Heard) (among : BackendSet) (more : Bool) → lowest session.view.attached.bits ≡ None → refused_parted session (SplitDue x best own among more) ≡ []
refused_empty session (Opening work) best own among more e = ap (λ (p : Option BackendId). where_refused (closing_split session best (first_other among.bits best.answer (own.b.number + 1) session.heard) more p)) e
refused_empty session (Reading work ticket) best own among more e = refl
refused_empty session (Running work) best own among more e = refl
refused_empty session (Locking work table) best own among more e = refl
refused_empty session (Inserting work posted) best own among more e = refl
refused_empty session Committing best own among more e = refl
refused_empty session Closing best own among more e = refl
refused_empty session (RollingBack ending) best own among more e = refl

module _ (t : Tracked) (h : Invariant t) (s : SessionId) (b : BackendId) (cause : Cause) (stage : Stage)
    (empty : lowest (step t.world.gate (calls.Detach b)).0.attached.bits ≡ None)
    (in_stage : stage_at (t.world.machine s.number).point ≡ Some stage)
    (free : is_waiting (t.world.machine s.number).point ≡ false)
    (awake : (t.world.machine s.number).point ≡ Resting → ⊥) where
  abbrev m : Machine
  m = t.world.machine s.number

  abbrev pub looks : Session
  looks = with_view m.session (view_of (step t.world.gate (calls.Detach b)).0)

  abbrev event : SessionEvent
  event = Detached b cause (step t.world.gate (calls.Detach b)).1

  abbrev w : World
  w = (behind t h s b).world

  none : (k : ℕ) → IsIn (left t h s b) k → ⊥
  none = nobody_attached (left t h s b) (few t h s b) empty

  -- before the event who is live there is ahead of it at some backend
  apart : (o : ℕ) → live_there t o ≡ true → in_commit (t.world.machine o).session.gate ≡ false
  apart o live =
      let a = ahead_where t h o live in
      outside_by (stage_at (t.world.machine o).point) (t.world.machine o).session.gate (t.world.machine o).point _ a.2.0 a.2.1 (h.inside o)

  abbrev all : Tracked
  all = behind_all w t.orders t.done none empty t.history (facts_left t h s b) apart

  all_dead : Invariant all
  all_dead = alone_holds w t.orders t.done none empty t.history (facts_left t h s b) apart

  dead : live_there all s.number ≡ false
  dead = none_lives all all_dead s.number none

  abbrev Strands_to : Machine → Type 0
  Strands_to n = Invariant (record { world = led t h s b n; history = fallen w t.history 65; orders = with_at t.orders s.number (t.orders s.number); done = with_at t.done s.number (t.done s.number) })

  strands_to : (session : Session) (ending : MachineEnding) → session.gate ≡ m.session.gate → ends_listing ending ≡ false
      → ((told : Told) (outcome : Outcome) → t.orders s.number ≡ Some told → reply_of ending ≡ Some outcome
      → IsRightBy (left t h s b) (due session (released_point session.gate ending)) (live_there all s.number) s.number all.history told outcome)
      → Strands_to (released session session.gate ending)
  strands_to session ending phase unlisted right =
      subst Strands_to (sym (released_is session session.gate ending))
      (strands all all_dead s session (gate t h s b) ending free awake none unlisted right refl
      (still (gate t h s b) t.world.machine m.session.gate session.gate phase (facts_of all all_dead).counts) (λ x. ap in_commit (sym phase) ∙ x))

  strands_plain : Strands_to (stranded looks)
  strands_plain = strands_to (failing looks) (Replies (error_of no_backend)) refl refl (λ told outcome f r. right_nobody (left t h s b) _ (live_there all s.number) s.number all.history told outcome none dead r)

  fits_it : (found : Option Stage) → found ≡ Some stage → FitsPoint found m.point m.session.gate → fits_stage stage m.session.gate ≡ true
  fits_it (Some z) e f = subst (λ (k : Stage). fits_stage k m.session.gate ≡ true) (let same : z ≡ stage = cc in same) f
  fits_it None e f = absurd (let z : None ≡ Some stage = e in cc)

  strands_in : (x : Stage) → stage ≡ x → Strands_to (stranded_in looks x)
  strands_in Committing is =
      subst Strands_to (ap (λ g. due looks (released_point g EndsWith)) (commit_in m.session.gate (subst (λ (y : Stage). fits_stage y m.session.gate ≡ true) is (fits_it (stage_at m.point) in_stage (h.inside s.number)))))
      (subst Strands_to (released_is looks m.session.gate EndsWith)
      (strands_to looks EndsWith refl refl (λ told outcome f r. absurd (let z : None ≡ Some outcome = r in cc))))
  strands_in (RollingBack ending) is =
      let unlisted : ends_listing ending ≡ false = subst (IsClassedIn t.world.tables) is (class_in t.world.tables m.point stage in_stage (h.classed s.number)) in
      strands_to looks ending refl unlisted
      (λ told outcome f r. right_moves (left t h s b) m _ (live_there all s.number) s.number all.history told outcome (unlisted_in t.world.tables (RollingBack ending) outcome unlisted r)
      (((facts_of all all_dead).own s.number).replies told outcome f (reply_is m.point stage in_stage ∙ ap reply_of_stage is ∙ r)))
  strands_in (Opening work) is = strands_plain
  strands_in (Reading work ticket) is = strands_plain
  strands_in (Running work) is = strands_plain
  strands_in (Locking work table) is = strands_plain
  strands_in (Inserting work posted) is = strands_plain
  strands_in Closing is = strands_plain

  abbrev to : Machine
  to = stranded_in looks stage

  ends_there : Invariant (record { world = led t h s b to; history = fallen (led t h s b to) t.history 65; orders = t.orders; done = t.done })
  ends_there =
      subst (λ (g : List Entry). Invariant (record { world = led t h s b to; history = g; orders = t.orders; done = t.done })) (sym (fallen_same w (led t h s b to) refl refl refl empty empty t.history 65))
      (subst (λ (by : ℕ → Option Told). Invariant (record { world = led t h s b to; history = fallen w t.history 65; orders = by; done = t.done })) (with_at-self t.orders s.number)
      (subst (λ (did : ℕ → ℕ → Bool). Invariant (record { world = led t h s b to; history = fallen w t.history 65; orders = with_at t.orders s.number (t.orders s.number); done = did })) (with_at-self t.done s.number)
      (strands_in stage refl)))

  pub last_holds : detached m.session m.point (step t.world.gate (calls.Detach b)).1 ≡ stranded_in looks stage
      → place_of m.session m.point event ≡ [] → refused_opening m.session m.point event ≡ []
      → Invariant (tracked_after t (Of s event))
  last_holds leads place refused =
      lands_fallen t h s b cause to t.history leads
      (λ v. ap (λ (d : List Deed). deaths_first v event d t.history) place)
      (places_none (live_there t s.number) t.world s.number m event t.history place refl refused)
      ends_there

-- its loss was seen
pub last_lost_kept : (t : Tracked) (s : SessionId) (b c : BackendId) (cause : Cause) (answer : GateAnswer) (stage : Stage) (before more : ℕ) → Invariant t
    → (t.world.machine s.number).point ≡ LostDue stage c before more
    → lowest (step t.world.gate (calls.Detach b)).0.attached.bits ≡ None
    → MayHappen t.world (Of s (Detached b cause answer)) → Invariant (tracked_after t (Of s (Detached b cause answer)))
last_lost_kept t s b c cause answer stage before more h at empty may =
    let m : Machine = t.world.machine s.number in
    let v : Bool = has t.world.gate.attached.bits b.number in
    let awake : m.point ≡ Resting → ⊥ = (λ rest. let z : LostDue stage c before more ≡ Resting = sym at ∙ rest in cc) in
    let session : Session = looks t h s b cause stage empty (ap stage_at at) (ap is_waiting at) awake in
    subst (λ (x : GateAnswer). Invariant (tracked_after t (Of s (Detached b cause x)))) may.1.1
    (last_holds t h s b cause stage empty (ap stage_at at) (ap is_waiting at) awake
    (detached_is t.world.gate b v m.session m.point ∙ ap (parted_at session) at ∙ ap (lost_one session stage) empty)
    (place_is t.world.gate b cause v m.session m.point ∙ ap (at_parted session) at)
    (refused_is t.world.gate b cause v m.session m.point ∙ ap (refused_parted session) at))

-- its answer differs
pub last_split_kept : (t : Tracked) (s : SessionId) (b : BackendId) (cause : Cause) (answer : GateAnswer) (stage : Stage) (best own : Heard) (among : BackendSet) (more : Bool) → Invariant t
    → (t.world.machine s.number).point ≡ SplitDue stage best own among more
    → lowest (step t.world.gate (calls.Detach b)).0.attached.bits ≡ None
    → MayHappen t.world (Of s (Detached b cause answer)) → Invariant (tracked_after t (Of s (Detached b cause answer)))
last_split_kept t s b cause answer stage best own among more h at empty may =
    let m : Machine = t.world.machine s.number in
    let v : Bool = has t.world.gate.attached.bits b.number in
    let awake : m.point ≡ Resting → ⊥ = (λ rest. let z : SplitDue stage best own among more ≡ Resting = sym at ∙ rest in cc) in
    let session : Session = looks t h s b cause stage empty (ap stage_at at) (ap is_waiting at) awake in
    subst (λ (x : GateAnswer). Invariant (tracked_after t (Of s (Detached b cause x)))) may.1.1
    (last_holds t h s b cause stage empty (ap stage_at at) (ap is_waiting at) awake
    (detached_is t.world.gate b v m.session m.point ∙ ap (parted_at session) at ∙ ap (parted session stage best own among more) empty)
    (place_is t.world.gate b cause v m.session m.point ∙ ap (at_parted session) at
    ∙ ap (λ (p : Option BackendId). where_decided stage (closing_split session best (first_other among.bits best.answer (own.b.number + 1) session.heard) more p)) empty)
    (refused_is t.world.gate b cause v m.session m.point ∙ ap (refused_parted session) at ∙ refused_empty session stage best own among more empty))
