-- The detachment behind which the kept answer to an ending decides: of a commit, with changes or without, and of a rollback.
use Rattle.std.proofs.Common.{◌≡◌, ◌≢◌, ℕ, ◌+◌, Bool, true, false, List, [], refl, sym, ap, ◌∙◌, subst, inl}
use Rattle.std.specs.Prelude.{Option, Some, None, if◌then◌else◌}
use Rattle.pool_base.specs.declared.session_id.SessionId.{SessionId}
use Rattle.pool_base.specs.declared.backend_id.BackendId.{BackendId}
use Rattle.pool_base.specs.declared.backend_set.BackendSet.{BackendSet}
use Rattle.pool_base.specs.declared.gate_call.GateCall.TheVariants as calls
use Rattle.pool_base.specs.declared.gate_call.GateAnswer.{GateAnswer}
use Rattle.backend_trait.specs.declared.request.Request.{Request}
use Rattle.backend_trait.specs.declared.answer.Answer.{Answer}
use Rattle.backend_trait.specs.declared.answer.Answer.TheVariants as answers
use Rattle.backend_trait.specs.Store.{is_refusal}
use Rattle.snapshot_gate.specs.Function.{step}
use Rattle.session_machine.specs.declared.action.Cause.{Cause}
use Rattle.session_machine.specs.declared.action.SessionEvent.{SessionEvent}
use Rattle.session_machine.specs.declared.action.SessionEvent.TheVariants.{Detached}
use Rattle.session_orders.specs.declared.outcome.Outcome.{Outcome}
use Rattle.session_machine.specs.declared.status.Status.{Status}
use Rattle.session_machine.specs.declared.status.Status.TheVariants.{Idle, InBlock, Failed}
use Rattle.session_machine.specs.declared.machine.GatePhase.{GatePhase}
use Rattle.session_machine.specs.declared.machine.GatePhase.TheVariants as phases
use Rattle.session_machine.specs.declared.machine.Heard.{Heard}
use Rattle.session_machine.specs.declared.machine.Machine.{Machine}
use Rattle.session_machine.specs.declared.machine.Session.{Session}
use Rattle.session_machine.specs.declared.machine.Ending.{Ending as MachineEnding}
use Rattle.session_machine.specs.declared.machine.Ending.TheVariants.{Replies}
use Rattle.session_machine.specs.declared.machine.Stage.{Stage}
use Rattle.session_machine.specs.declared.machine.Stage.TheVariants.{Opening, Reading, Running, Locking, Inserting, Committing, Closing, RollingBack}
use Rattle.session_machine.specs.declared.machine.Point.{Point}
use Rattle.session_machine.specs.declared.machine.Point.TheVariants.{SplitDue, LeaveCommitDue, FinishDue}
use Rattle.session_machine.specs.Answers.{lowest, first_other}
use Rattle.session_machine.specs.Rules.{due, idle, closed, commit_outcome}
use Rattle.one_copy_model.specs.declared.deed.Deed.{Deed}
use Rattle.one_copy_model.specs.declared.event.Event.TheVariants.{Of}
use Rattle.one_copy_model.specs.World.{MayHappen}
use Rattle.one_copy_model.specs.Places.{refused_parted, decided_by}
use Rattle.one_copy_model.specs.Deaths.{is_live, stage_at}
use Rattle.one_copy_model.specs.Tracking.{Told, Tracked, deaths_first, tracked_after}
use Rattle.one_copy_model.specs.Orders.{reply_of, is_of_commit, lists, ends_listing, IsClassedIn, reply_of_stage}
use Rattle.one_copy_model.specs.Standing.{Nowhere, Fallen, Ahead, Leaving, Ending, standing_in}
use Rattle.one_copy_model.specs.Invariant.{Invariant, FitsPoint, where_live, wants_of, request_in, inserted_in, inserting_in}
use Rattle.one_copy_model.specs.Own.{told_by, stand, IsIn, Own, IsRightBy}
use Rattle.one_copy_model.proofs.Turning.{live_there}
use Rattle.one_copy_model.proofs.Landing.{places_none}
use Rattle.one_copy_model.proofs.Livings.{not_live, clear_dead}
use Rattle.one_copy_laws.proofs.GateCalling.{right_moves}
use Rattle.one_copy_laws.proofs.GateStranding.{Releases, releases, released_point, released_is}
use Rattle.one_copy_laws.proofs.ChainsChaining.{class_in, reply_is, unlisted_in}
use Rattle.one_copy_laws.specs.Ends.{is_ending}
use Rattle.one_copy_laws.proofs.LooksEndings.{ending_form, ending_stands, ending_inserts, released_nowhere}
use Rattle.one_copy_laws.proofs.DecidedParting.{facts_left, behind, FactsLed, lands_left}
use Rattle.one_copy_laws.proofs.DecidedTurning.{goes_facts}
use Rattle.one_copy_laws.proofs.DecidedDeciding as split

-- in an ending a session is ahead nowhere
ends_told : (v : Bool) (asks : List Request) → (if v then Fallen else Nowhere) ≢ Ahead asks
ends_told true asks e = let z : Fallen ≡ Ahead asks = e in cc
ends_told false asks e = let z : Nowhere ≡ Ahead asks = e in cc

pub ends_ahead : (x : Stage) (told : Option Answer) (asks : List Request) → is_ending x ≡ true → standing_in x told ≢ Ahead asks
ends_ahead Committing None asks e f = let z : Leaving ≡ Ahead asks = f in cc
ends_ahead Closing None asks e f = let z : Ending ≡ Ahead asks = f in cc
ends_ahead (RollingBack ending) None asks e f = let z : Ending ≡ Ahead asks = f in cc
ends_ahead Committing (Some answer) asks e f = ends_told (is_refusal answer) asks f
ends_ahead Closing (Some answer) asks e f = ends_told (is_refusal answer) asks f
ends_ahead (RollingBack ending) (Some answer) asks e f = ends_told (is_refusal answer) asks f
ends_ahead (Opening work) told asks e f = let z : false ≡ true = e in cc
ends_ahead (Reading work ticket) told asks e f = let z : false ≡ true = e in cc
ends_ahead (Running work) told asks e f = let z : false ≡ true = e in cc
ends_ahead (Locking work table) told asks e f = let z : false ≡ true = e in cc
ends_ahead (Inserting work posted) told asks e f = let z : false ≡ true = e in cc

-- its chain places nothing
nothing_placed : (x : Stage) (answer : Answer) → is_ending x ≡ true → decided_by x answer ≡ []
nothing_placed Committing answer e = refl
nothing_placed Closing answer e = refl
nothing_placed (RollingBack ending) answer e = refl
nothing_placed (Opening work) answer e = absurd (let z : false ≡ true = e in cc)
nothing_placed (Reading work ticket) answer e = absurd (let z : false ≡ true = e in cc)
nothing_placed (Running work) answer e = absurd (let z : false ≡ true = e in cc)
nothing_placed (Locking work table) answer e = absurd (let z : false ≡ true = e in cc)
nothing_placed (Inserting work posted) answer e = absurd (let z : false ≡ true = e in cc)

nothing_refused : (session : Session) (x : Stage) (best own : Heard) (among : BackendSet) → is_ending x ≡ true → refused_parted session (SplitDue x best own among false) ≡ []
nothing_refused session Committing best own among e = refl
nothing_refused session Closing best own among e = refl
nothing_refused session (RollingBack ending) best own among e = refl
nothing_refused session (Opening work) best own among e = absurd (let z : false ≡ true = e in cc)
nothing_refused session (Reading work ticket) best own among e = refl
nothing_refused session (Running work) best own among e = refl
nothing_refused session (Locking work table) best own among e = refl
nothing_refused session (Inserting work posted) best own among e = refl

commit_unlisted : (status : Status) → lists (commit_outcome status) ≡ false
commit_unlisted Idle = refl
commit_unlisted InBlock = refl
commit_unlisted Failed = refl

commit_point : (best own : Heard) (among : BackendSet) (phase : GatePhase) (ending : MachineEnding) → FitsPoint (Some Committing) (SplitDue Committing best own among false) phase → released_point phase ending ≡ LeaveCommitDue ending
commit_point best own among phases.InCommit ending f = refl
commit_point best own among phases.Out ending f = absurd (cc)
commit_point best own among phases.InSnapshot ending f = absurd (cc)
commit_point best own among (phases.Live changed written) ending f = absurd (cc)

close_point : (best own : Heard) (among : BackendSet) (phase : GatePhase) (ending : MachineEnding) → FitsPoint (Some Closing) (SplitDue Closing best own among false) phase → released_point phase ending ≡ FinishDue ending
close_point best own among (phases.Live changed written) ending f = refl
close_point best own among phases.InCommit ending f = absurd (cc)
close_point best own among phases.Out ending f = absurd (cc)
close_point best own among phases.InSnapshot ending f = absurd (cc)

module _ (t : Tracked) (h : Invariant t) (s : SessionId) (b first : BackendId) (cause : Cause) (answer : GateAnswer) (stage : Stage) (best own : Heard) (among : BackendSet)
    (at : (t.world.machine s.number).point ≡ SplitDue stage best own among false)
    (ends : is_ending stage ≡ true)
    (none : first_other among.bits best.answer (own.b.number + 1) (t.world.machine s.number).session.heard ≡ None)
    (there : lowest (step t.world.gate (calls.Detach b)).0.attached.bits ≡ Some first)
    (may : MayHappen t.world (Of s (Detached b cause answer))) where
  abbrev m : Machine
  m = t.world.machine s.number

  abbrev mail : ℕ → Option Answer
  mail = t.world.mail s.number

  abbrev those : ℕ
  those = split.those t h s b first cause answer stage best own among at none there may

  abbrev looks : Session
  looks = split.looks t h s b first cause answer stage best own among at none there may

  abbrev event : SessionEvent
  event = Detached b cause (step t.world.gate (calls.Detach b)).1

  own_was : Own t.world.tables those t.history t.world.store m mail (t.orders s.number) (t.done s.number) (live_there t s.number) s.number
  own_was = split.own_was t h s b first cause answer stage best own among at none there may

  stand_is : (k : ℕ) → stand m mail k ≡ standing_in stage (told_by m mail k)
  stand_is = split.stand_is t h s b first cause answer stage best own among at none there may

  in_stage : stage_at m.point ≡ Some stage
  in_stage = split.in_stage t h s b first cause answer stage best own among at none there may

  -- a kept answer to an ending is Done, also when its backend has left
  right : is_refusal best.answer ≡ false
  right = ap is_refusal (ending_form stage best.answer ends ((own_was.parting stage best own among false at).form stage in_stage))

  dead : live_there t s.number ≡ false
  dead = not_live t h s.number (λ k asks here e. ends_ahead stage (told_by m mail k) asks ends (sym (stand_is k) ∙ e))

  -- each of those that are left has done it
  told_done : (k : ℕ) → IsIn those k → told_by m mail k ≡ Some answers.Done
  told_done k here =
      let a = split.says_of t h s b first cause answer stage best own among at none there may right k here in
      a.told ∙ ap Some (ending_form stage a.says ends a.form)

  nowhere : (k : ℕ) → IsIn those k → stand m mail k ≡ Nowhere
  nowhere k here = stand_is k ∙ ap (standing_in stage) (told_done k here) ∙ ending_stands stage ends

  first_here : IsIn those first.number
  first_here = split.first_here t h s b first cause answer stage best own among at none there may

  -- the end of the chain
  module _ (session : Session) (ending : MachineEnding) (gate : session.gate ≡ m.session.gate) (unlisted : ends_listing ending ≡ false)
      (replied : (told : Told) (outcome : Outcome) → t.orders s.number ≡ Some told → reply_of ending ≡ Some outcome → IsRightBy those (due session (released_point session.gate ending)) (live_there t s.number) s.number t.history told outcome) where
    ends_at : FactsLed t h s b (due session (released_point session.gate ending)) t.history
    ends_at =
        let n : Machine = due session (released_point session.gate ending) in
        let r : Releases t.world.tables session.gate ending = releases t.world.tables session.gate ending in
        goes_facts (behind t h s b) (facts_left t h s b) s n gate
        (split.free t h s b first cause answer stage best own among at none there may)
        (split.awake t h s b first cause answer stage best own among at none there may) r.plain
        (λ k x here e. absurd (let z : None ≡ Some x = sym r.calm ∙ e in cc)) r.fits (r.classed unlisted)
        (λ x e. absurd (let z : None ≡ Some x = sym r.calm ∙ e in cc))
        (λ k here. released_nowhere session.gate ending (told_by n mail k) ∙ sym (nowhere k here))
        (λ k here e. let z : Nowhere ≡ Leaving = sym (nowhere k here) ∙ e in cc)
        (λ u written e alive. absurd (let z : true ≡ false = sym (ap is_live alive) ∙ dead in cc))
        (ap request_in (clear_dead t h s.number dead) ∙ sym (ap (λ x. where_live x (wants_of n.point (stage_at n.point))) dead))
        (λ told outcome e g. replied told outcome e (sym r.replies ∙ g))
        (λ is. r.under (t.orders s.number) is)
        (λ told e. r.order_at session told)
        (ap is_of_commit r.calm)
        (λ k here. ap (λ (p : Point). inserted_in (stage_at p) (told_by m mail k)) at ∙ ending_inserts stage (told_by m mail k) ends ∙ sym (ap (λ x. inserted_in x (told_by n mail k)) r.calm))
        (ap inserting_in r.calm)

  -- what a commit replies the single run has answered
  commit_right : (session : Session) (ending : MachineEnding) → is_of_commit (Some stage) ≡ true → ending ≡ Replies (commit_outcome m.session.status)
      → (told : Told) (outcome : Outcome) → t.orders s.number ≡ Some told → reply_of ending ≡ Some outcome → IsRightBy those (due session (released_point session.gate ending)) (live_there t s.number) s.number t.history told outcome
  commit_right session ending commits is told outcome e g =
      inl (own_was.commits first.number told first_here e (ap (λ (p : Point). is_of_commit (stage_at p)) at ∙ commits) ∙ ap reply_of (sym is) ∙ g)

  fits_in : (x : Stage) → stage ≡ x → FitsPoint (Some x) (SplitDue x best own among false) m.session.gate
  fits_in x is = subst (λ (y : Stage). FitsPoint (Some y) (SplitDue y best own among false) m.session.gate) is (subst (λ (p : Point). FitsPoint (stage_at p) p m.session.gate) at own_was.inside)

  closes_in : (x : Stage) → stage ≡ x → FactsLed t h s b (closed false looks x best.answer) t.history
  closes_in Committing is =
      let ending : MachineEnding = Replies (commit_outcome m.session.status) in
      subst (λ p. FactsLed t h s b (due (idle looks) p) t.history) (commit_point best own among m.session.gate ending (fits_in Committing is))
      (ends_at (idle looks) ending refl (commit_unlisted m.session.status) (commit_right (idle looks) ending (ap (λ y. is_of_commit (Some y)) is) refl))
  closes_in Closing is =
      let ending : MachineEnding = Replies (commit_outcome m.session.status) in
      subst (λ p. FactsLed t h s b (due (idle looks) p) t.history) (close_point best own among m.session.gate ending (fits_in Closing is))
      (ends_at (idle looks) ending refl (commit_unlisted m.session.status) (commit_right (idle looks) ending (ap (λ y. is_of_commit (Some y)) is) refl))
  closes_in (RollingBack ending) is =
      let unlisted : ends_listing ending ≡ false = subst (IsClassedIn t.world.tables) is (class_in t.world.tables m.point stage in_stage (h.classed s.number)) in
      subst (λ y. FactsLed t h s b y t.history) (sym (released_is looks m.session.gate ending))
      (ends_at looks ending refl unlisted
      (λ told outcome e g. right_moves those m _ (live_there t s.number) s.number t.history told outcome (unlisted_in t.world.tables (RollingBack ending) outcome unlisted g)
      (own_was.replies told outcome e (reply_is m.point stage in_stage ∙ ap reply_of_stage is ∙ g))))
  closes_in (Opening work) is = absurd (let z : false ≡ true = ap is_ending (sym is) ∙ ends in cc)
  closes_in (Reading work ticket) is = absurd (let z : false ≡ true = ap is_ending (sym is) ∙ ends in cc)
  closes_in (Running work) is = absurd (let z : false ≡ true = ap is_ending (sym is) ∙ ends in cc)
  closes_in (Locking work table) is = absurd (let z : false ≡ true = ap is_ending (sym is) ∙ ends in cc)
  closes_in (Inserting work posted) is = absurd (let z : false ≡ true = ap is_ending (sym is) ∙ ends in cc)

  pub ends_decided : Invariant (tracked_after t (Of s (Detached b cause answer)))
  ends_decided =
      subst (λ (x : GateAnswer). Invariant (tracked_after t (Of s (Detached b cause x)))) may.1.1
      (lands_left t h s b cause (closed false looks stage best.answer) t.history
      (split.leads t h s b first cause answer stage best own among at none there may)
      (λ w. ap (λ (d : List Deed). deaths_first w event d t.history) (split.place t h s b first cause answer stage best own among at none there may ∙ nothing_placed stage best.answer ends))
      (places_none (live_there t s.number) t.world s.number m event t.history
      (split.place t h s b first cause answer stage best own among at none there may ∙ nothing_placed stage best.answer ends) refl
      (split.refused t h s b first cause answer stage best own among at none there may ∙ nothing_refused looks stage best own among ends))
      first there (closes_in stage refl))

pub ends_decided_kept : (t : Tracked) (s : SessionId) (b first : BackendId) (cause : Cause) (answer : GateAnswer) (stage : Stage) (best own : Heard) (among : BackendSet) → Invariant t
    → (t.world.machine s.number).point ≡ SplitDue stage best own among false
    → is_ending stage ≡ true
    → first_other among.bits best.answer (own.b.number + 1) (t.world.machine s.number).session.heard ≡ None
    → lowest (step t.world.gate (calls.Detach b)).0.attached.bits ≡ Some first
    → MayHappen t.world (Of s (Detached b cause answer)) → Invariant (tracked_after t (Of s (Detached b cause answer)))
ends_decided_kept t s b first cause answer stage best own among h at ends none there may = ends_decided t h s b first cause answer stage best own among at ends none there may
