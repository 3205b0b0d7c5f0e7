-- The detachment behind which the kept answer decides that a run has its result: those that are alive nowhere any more die first, and then it
-- has its place in the single run.
use Rattle.std.proofs.Common.{◌≡◌, ℕ, ◌+◌, true, false, List, [], ◌∷◌, refl, sym, ap, ◌∙◌, subst}
use Rattle.std.specs.Prelude.{Option, Some, None}
use Rattle.pool_base.specs.declared.session_id.SessionId.{SessionId}
use Rattle.pool_base.specs.declared.backend_id.BackendId.{BackendId}
use Rattle.pool_base.specs.declared.backend_set.BackendSet.{BackendSet}
use Rattle.pool_base.specs.declared.gate_call.GateCall.TheVariants as calls
use Rattle.pool_base.specs.declared.gate_call.GateAnswer.{GateAnswer}
use Rattle.backend_trait.specs.declared.answer.Answer.{Answer}
use Rattle.backend_trait.specs.Rows.{with_at}
use Rattle.backend_trait.specs.Store.{is_refusal}
use Rattle.backend_trait.specs.Acts.{given_of}
use Rattle.snapshot_gate.specs.Function.{step}
use Rattle.session_machine.specs.declared.action.Cause.{Cause}
use Rattle.session_machine.specs.declared.action.SessionEvent.{SessionEvent}
use Rattle.session_machine.specs.declared.action.SessionEvent.TheVariants.{Detached}
use Rattle.session_machine.specs.declared.work.Work.{Work}
use Rattle.session_machine.specs.declared.machine.GatePhase.TheVariants as phases
use Rattle.session_machine.specs.declared.machine.Heard.{Heard}
use Rattle.session_machine.specs.declared.machine.Machine.{Machine}
use Rattle.session_machine.specs.declared.machine.Session.{Session}
use Rattle.session_machine.specs.declared.machine.Stage.{Stage}
use Rattle.session_machine.specs.declared.machine.Stage.TheVariants.{Running}
use Rattle.session_machine.specs.declared.machine.Point.{Point}
use Rattle.session_machine.specs.declared.machine.Point.TheVariants.{ReplyDue, SplitDue}
use Rattle.session_machine.specs.Answers.{lowest, first_other}
use Rattle.session_machine.specs.Rules.{after_at, due, detached}
use Rattle.one_copy_model.specs.declared.deed.Deed.{Deed}
use Rattle.one_copy_model.specs.declared.deed.Deed.TheVariants.{Gets}
use Rattle.one_copy_model.specs.declared.deed.Entry.{Entry}
use Rattle.one_copy_model.specs.declared.event.Event.TheVariants.{Of}
use Rattle.one_copy_model.specs.World.{after, MayHappen}
use Rattle.one_copy_model.specs.Places.{place_of}
use Rattle.one_copy_model.specs.Deaths.{is_live, is_alive, stage_at, fallen}
use Rattle.one_copy_model.specs.Tracking.{Tracked, single, placed, deaths_first, tracked_after}
use Rattle.one_copy_model.specs.Chains.{IsResult}
use Rattle.one_copy_model.specs.Orders.{OrderAt, IsClassedAt}
use Rattle.one_copy_model.specs.Invariant.{Invariant, FitsPoint, wants_of}
use Rattle.one_copy_model.specs.Own.{told_by, IsIn}
use Rattle.one_copy_model.proofs.Turning.{live_there}
use Rattle.one_copy_model.proofs.Landing.{lands, same_mail}
use Rattle.one_copy_model.proofs.Deeds.{entry}
use Rattle.one_copy_laws.proofs.FallsDying.{falls_kept}
use Rattle.one_copy_laws.proofs.FallsStaying.{alive_at, stepped_falls}
use Rattle.one_copy_laws.proofs.DecidedParting.{facts_left, behind, led}
use Rattle.one_copy_laws.proofs.DecidedDeciding as split
use Rattle.one_copy_laws.proofs.ResultsRefusing.{dies_open, places_live}
use Rattle.one_copy_laws.proofs.RunsGiving.{decided_plain}
use Rattle.one_copy_laws.proofs.RunsSame.{same_result}
use Rattle.one_copy_laws.proofs.RunsRunning.{HasRun, Replies, ran_replies, here_lives, live_where}

module _ (t : Tracked) (h : Invariant t) (s : SessionId) (b first : BackendId) (cause : Cause) (answer : GateAnswer) (work : Work) (best own : Heard) (among : BackendSet)
    (at : (t.world.machine s.number).point ≡ SplitDue (Running work) best own among false)
    (right : is_refusal best.answer ≡ false)
    (none : first_other among.bits best.answer (own.b.number + 1) (t.world.machine s.number).session.heard ≡ None)
    (there : lowest (step t.world.gate (calls.Detach b)).0.attached.bits ≡ Some first)
    (may : MayHappen t.world (Of s (Detached b cause answer))) where
  abbrev m : Machine
  m = t.world.machine s.number

  abbrev mail : ℕ → Option Answer
  mail = t.world.mail s.number

  abbrev stage : Stage
  stage = Running work

  abbrev those : ℕ
  those = split.those t h s b first cause answer stage best own among at none there may

  abbrev looks : Session
  looks = split.looks t h s b first cause answer stage best own among at none there may

  abbrev event : SessionEvent
  event = Detached b cause (step t.world.gate (calls.Detach b)).1

  first_here : IsIn those first.number
  first_here = split.first_here t h s b first cause answer stage best own among at none there may

  -- each of those that are left has answered as the kept answer, and so does the single run
  told : (k : ℕ) → IsIn those k → told_by m mail k ≡ Some best.answer
  told k here =
      let a = split.says_of t h s b first cause answer stage best own among at none there may right k here in
      a.told ∙ ap Some (same_result a.says best.answer right a.same)

  live : live_there t s.number ≡ true
  live =
      let own_was = split.own_was t h s b first cause answer stage best own among at none there may in
      let r = live_where ((single t).transaction s.number) (λ u. IsResult best.answer (given_of (single t) work.statement u))
      ((own_was.heard first.number stage best.answer first_here (split.in_stage t h s b first cause answer stage best own among at none there may) (told first.number first_here)).result right) in
      ap is_live r.1

  -- the moment behind the deaths
  abbrev dead : List Entry
  dead = fallen (behind t h s b).world t.history 65

  abbrev moment : Tracked
  moment = record { world = (behind t h s b).world; history = dead; orders = t.orders; done = t.done }

  holds_then : Invariant moment
  holds_then = falls_kept (behind t h s b).world t.history t.orders t.done first.number (facts_left t h s b) first_here

  has_run : HasRun moment s.number work best.answer
  has_run =
      let own_was = split.own_was t h s b first cause answer stage best own among at none there may in
      record {
        in_stage = split.in_stage t h s b first cause answer stage best own among at none there may;
        free = split.free t h s b first cause answer stage best own among at none there may;
        awake = split.awake t h s b first cause answer stage best own among at none there may;
        wants = ap (λ (p : Point). wants_of p (stage_at p)) at;
        classed = subst (IsClassedAt t.world.tables) at own_was.classed;
        phase = dies_open stage (SplitDue stage best own among false) m.session.gate work refl (subst (λ (p : Point). FitsPoint (stage_at p) p m.session.gate) at own_was.inside);
        statement = λ by e. subst (λ (p : Point). OrderAt m.session p by) at (own_was.order_is by e);
        plain = right;
        by = first.number;
        here = first_here;
        says = told first.number first_here;
        all = λ k here. (best.answer, told k here, right);
      }

  to : Replies moment holds_then s work best.answer has_run looks refl
  to = ran_replies moment holds_then s work best.answer has_run looks refl

  abbrev n : Machine
  n = due (record looks { gate = phases.Live to.more to.wrote }) (ReplyDue to.outcome)

  abbrev mid : List Entry
  mid = entry s.number (Gets best.answer) ∷ dead

  leads : detached m.session m.point (step t.world.gate (calls.Detach b)).1 ≡ n
  leads = split.leads t h s b first cause answer stage best own among at none there may ∙ to.leads false

  place : place_of m.session m.point event ≡ Gets best.answer ∷ []
  place = split.place t h s b first cause answer stage best own among at none there may ∙ decided_plain best.answer right

  -- it is alive where it has answered, so it does not die, and its step changes no death
  alive : is_alive (behind t h s b).world s.number ≡ true
  alive = alive_at (behind t h s b).world s.number first.number first.below_8 first_here (here_lives moment holds_then s work best.answer has_run first.number first_here)

  same_deaths : fallen (led t h s b n) t.history 65 ≡ dead
  same_deaths = stepped_falls (behind t h s b).world s.number n alive t.history 65

  places : (y : Machine) → y ≡ n → placed (live_there t s.number) t.world s.number m event (deaths_first (led t h s b y) event (place_of m.session m.point event) t.history) ≡ mid
  places y is =
      places_live (live_there t s.number) t.world s.number m event (deaths_first (led t h s b y) event (place_of m.session m.point event) t.history) (Gets best.answer ∷ []) live place
      ∙ ap (λ (d : List Deed). entry s.number (Gets best.answer) ∷ deaths_first (led t h s b y) event d t.history) place
      ∙ ap (λ (x : Machine). entry s.number (Gets best.answer) ∷ fallen (led t h s b x) t.history 65) is
      ∙ ap (λ (x : List Entry). entry s.number (Gets best.answer) ∷ x) same_deaths

  holds : Invariant (record { world = led t h s b n; history = mid; orders = with_at t.orders s.number (t.orders s.number); done = with_at t.done s.number (t.done s.number) })
  holds = same_mail moment s.number n (behind t h s b).world.gate mail mid (t.orders s.number) (t.done s.number) refl to.holds

  pub result_decided : Invariant (tracked_after t (Of s (Detached b cause answer)))
  unfolding after_at
  result_decided =
      subst (λ (x : GateAnswer). Invariant (tracked_after t (Of s (Detached b cause x)))) may.1.1
      (lands t (Of s event) mid (ap (λ (x : List Entry). fallen (after t.world (Of s event)) x 65) (places (detached m.session m.point (step t.world.gate (calls.Detach b)).1) leads))
      (subst (λ (y : Machine). Invariant (record { world = led t h s b y; history = mid; orders = with_at t.orders s.number (t.orders s.number); done = with_at t.done s.number (t.done s.number) })) (sym leads) holds))

pub result_decided_kept : (t : Tracked) (s : SessionId) (b first : BackendId) (cause : Cause) (answer : GateAnswer) (work : Work) (best own : Heard) (among : BackendSet) → Invariant t
    → (t.world.machine s.number).point ≡ SplitDue (Running work) best own among false
    → is_refusal best.answer ≡ false
    → first_other among.bits best.answer (own.b.number + 1) (t.world.machine s.number).session.heard ≡ None
    → lowest (step t.world.gate (calls.Detach b)).0.attached.bits ≡ Some first
    → MayHappen t.world (Of s (Detached b cause answer)) → Invariant (tracked_after t (Of s (Detached b cause answer)))
result_decided_kept t s b first cause answer work best own among h at right none there may = result_decided t h s b first cause answer work best own among at right none there may
