-- The law of a Look at the end of the chain of a run that every attached backend has answered with its result.
use Rattle.std.proofs.Common.{◌≡◌, ℕ, Bool, true, false, List, [], ◌∷◌, refl, sym, ap, ◌∙◌, subst}
use Rattle.std.specs.Prelude.{◌&&◌, not, Option, Some, None, is_some}
use Rattle.pool_base.specs.Sets.{has}
use Rattle.pool_base.specs.declared.session_id.SessionId.{SessionId}
use Rattle.pool_base.specs.declared.backend_id.BackendId.{BackendId}
use Rattle.pool_base.specs.declared.gate_call.View.{View}
use Rattle.pool_base.specs.declared.gate_call.GateCall.TheVariants as calls
use Rattle.pool_base.specs.declared.gate_call.GateAnswer.{GateAnswer}
use Rattle.pool_base.specs.declared.gate_call.GateAnswer.TheVariants.{Seen}
use Rattle.backend_trait.specs.declared.answer.Answer.{Answer}
use Rattle.backend_trait.specs.Store.{is_refusal}
use Rattle.snapshot_gate.specs.Function.{view_of}
use Rattle.session_machine.specs.declared.action.SessionEvent.{SessionEvent}
use Rattle.session_machine.specs.declared.action.SessionEvent.TheVariants.{Called}
use Rattle.session_machine.specs.declared.work.Work.{Work}
use Rattle.session_machine.specs.declared.machine.GatePhase.TheVariants as phases
use Rattle.session_machine.specs.declared.machine.Heard.{Heard}
use Rattle.session_machine.specs.declared.machine.Machine.{Machine}
use Rattle.session_machine.specs.declared.machine.Session.{Session}
use Rattle.session_machine.specs.declared.machine.Stage.{Stage}
use Rattle.session_machine.specs.declared.machine.Stage.TheVariants.{Running}
use Rattle.session_machine.specs.declared.machine.Point.{Point}
use Rattle.session_machine.specs.declared.machine.Point.TheVariants.{Resting, LookDue, ReplyDue}
use Rattle.session_machine.specs.Answers.{goes_on as chain_goes_on, lowest, counts, group_size, is_largest, is_kept, is_open, has_answered, first_open, next_of, kept, first_other, is_same}
use Rattle.session_machine.specs.Rules.{due, called, granted, with_view, primary, kind_of, asked, looked_at, judged, split, decided}
use Rattle.one_copy_model.specs.declared.deed.Deed.TheVariants.{Gets}
use Rattle.one_copy_model.specs.declared.event.Event.TheVariants.{Of}
use Rattle.one_copy_model.specs.World.{MayHappen}
use Rattle.one_copy_model.specs.Places.{place_of, at_granted, where_decided, closing_look, closing_chain, kept_of, one_kept}
use Rattle.one_copy_model.specs.Deaths.{stage_at, heard_from, mail_or}
use Rattle.one_copy_model.specs.Tracking.{Tracked, tracked_after}
use Rattle.one_copy_model.specs.Chains.{has_told}
use Rattle.one_copy_model.specs.Orders.{OrderAt, IsClassedAt}
use Rattle.one_copy_model.specs.Invariant.{Invariant, FitsPoint, wants_of}
use Rattle.one_copy_model.specs.Own.{told_by, IsIn, Own}
use Rattle.one_copy_model.proofs.Turning.{facts_of, live_there}
use Rattle.one_copy_model.proofs.Landing.{same_mail}
use Rattle.one_copy_model.proofs.Calm.{free_of, is_waiting}
use Rattle.one_copy_model.proofs.Quiet.{real}
use Rattle.one_copy_model.proofs.Beginning.{no_mail}
use Rattle.one_copy_model.proofs.Finding.{none_found, one_of_eight}
use Rattle.one_copy_model.proofs.Livings.{and_true}
use Rattle.one_copy_laws.proofs.GateCalling.{lands_call}
use Rattle.one_copy_laws.proofs.LooksEndings.{found_among, among_heard, told_is}
use Rattle.one_copy_laws.proofs.LooksNexts.{answered_is, closed_is, looked_is, closing_is}
use Rattle.one_copy_laws.proofs.LooksOpeningLaw.{answered_alike}
use Rattle.one_copy_laws.proofs.ResultsRefusing.{dies_open, look_at, places_live}
use Rattle.one_copy_laws.proofs.RunsGiving.{decided_plain}
use Rattle.one_copy_laws.proofs.RunsSame.{same_result}
use Rattle.one_copy_laws.proofs.RunsRunning.{HasRun, Replies, ran_replies, mid, live}

-- what is the same as a result is no refusal
pub plain_same : (x y : Answer) → is_refusal y ≡ false → is_same x y ≡ true → is_refusal x ≡ false
plain_same x y plain e = ap is_refusal (same_result x y plain e) ∙ plain

-- a chain with a result is at its end where nobody is to be asked
shut_of : (found : Option BackendId) (v : Bool) → v ≡ false → (not v && is_some found) ≡ false → found ≡ None
shut_of None v e f = refl
shut_of (Some b) false e f = absurd (let z : true ≡ false = f in cc)
shut_of (Some b) true e f = absurd (let z : true ≡ false = e in cc)

module _ (t : Tracked) (h : Invariant t) (s : SessionId) (work : Work) (best : Heard) (at : (t.world.machine s.number).point ≡ LookDue (Running work))
    (first : BackendId) (there : lowest t.world.gate.attached.bits ≡ Some first)
    (end : next_of (kind_of (Running work)) t.world.gate.attached.bits (t.world.machine s.number).session.heard ≡ None)
    (found : kept t.world.gate.attached.bits (t.world.machine s.number).session.heard ≡ Some best)
    (alike : first_other t.world.gate.attached.bits best.answer 0 (t.world.machine s.number).session.heard ≡ None)
    (stops : chain_goes_on t.world.gate.attached.bits (t.world.machine s.number).session.heard best.answer ≡ false)
    (plain : is_refusal best.answer ≡ false) where
  abbrev m : Machine
  m = t.world.machine s.number

  abbrev attached : ℕ
  attached = t.world.gate.attached.bits

  abbrev mail : ℕ → Option Answer
  mail = t.world.mail s.number

  abbrev hs : List Heard
  hs = m.session.heard

  abbrev stage : Stage
  stage = Running work

  abbrev view : View
  view = view_of t.world.gate

  abbrev looks : Session
  looks = with_view m.session view

  abbrev event : SessionEvent
  event = Called calls.Look (Seen view)

  own_was : Own t.world.tables attached t.history t.world.store m mail (t.orders s.number) (t.done s.number) (live_there t s.number) s.number
  own_was = (facts_of t h).own s.number

  free : is_waiting m.point ≡ false
  free = ap is_waiting at

  told_heard : (b : ℕ) → told_by m mail b ≡ heard_from hs b
  told_heard b =
      ap (λ x. mail_or x (heard_from hs b))
      (no_mail t.world.tables attached t.history t.history t.world.store m mail (t.orders s.number) (t.done s.number) (live_there t s.number) s.number (real s) (free_of m.point free) own_was b)

  best_here : IsIn attached best.b.number
  unfolding is_kept
  best_here = (and_true (counts attached best) (is_largest attached hs (group_size attached hs best.answer)) (found_among (is_kept attached hs) hs best found).0).0

  best_heard : heard_from hs best.b.number ≡ Some best.answer
  best_heard = among_heard hs best (own_was.in_order stage (ap stage_at at)).rising (found_among (is_kept attached hs) hs best found).1

  shut : first_open attached hs ≡ None
  shut = shut_of (first_open attached hs) (is_refusal best.answer) plain stops

  answered : (b : ℕ) → IsIn attached b → has_told m b ≡ true
  answered b here =
      let at_b : BackendId = record { number = b; below_8 = one_of_eight attached b h.few here } in
      sym (answered_is hs at_b) ∙ closed_is (has attached b) (has_answered hs at_b) here (none_found (is_open attached hs) shut at_b)

  has_run : HasRun t s.number work best.answer
  has_run = record {
    in_stage = ap stage_at at;
    free = free;
    awake = λ rest. let z : LookDue stage ≡ Resting = sym at ∙ rest in cc;
    wants = ap (λ (p : Point). wants_of p (stage_at p)) at;
    classed = subst (IsClassedAt t.world.tables) at own_was.classed;
    phase = dies_open stage (LookDue stage) m.session.gate work refl (subst (λ (p : Point). FitsPoint (stage_at p) p m.session.gate) at own_was.inside);
    statement = λ told e. subst (λ (p : Point). OrderAt m.session p told) at (own_was.order_is told e);
    plain = plain;
    by = best.b.number;
    here = best_here;
    says = told_heard best.b.number ∙ best_heard;
    all = λ b here.
        let a = told_is (heard_from hs b) (answered b here) in
        (a.0, told_heard b ∙ a.1, plain_same a.0 best.answer plain (answered_alike attached hs best.answer alike b a.0 here a.1));
  }

  to : Replies t h s work best.answer has_run looks refl
  to = ran_replies t h s work best.answer has_run looks refl

  abbrev n : Machine
  n = due (record looks { gate = phases.Live to.more to.wrote }) (ReplyDue to.outcome)

  leads : looked_at looks stage (primary looks) ≡ n
  unfolding asked
  leads =
      ap (looked_at looks stage) there ∙ looked_is looks stage refl ∙ ap (asked looks stage) end ∙ ap (judged looks stage) found
      ∙ ap (split true looks stage best looks.view.attached (chain_goes_on attached hs best.answer)) alike
      ∙ ap (decided true looks stage best.answer) stops ∙ to.leads true

  decides : closing_look looks stage (primary looks) ≡ Some best.answer
  decides =
      ap (closing_look looks stage) there ∙ closing_is looks stage refl ∙ ap (closing_chain looks) end ∙ ap (kept_of looks) found
      ∙ ap (λ (x : Bool). one_kept x (first_other attached best.answer 0 hs) best.answer) stops
      ∙ ap (λ (x : Option Heard). one_kept false x best.answer) alike

  place : place_of m.session m.point event ≡ Gets best.answer ∷ []
  place = ap (at_granted looks) at ∙ ap (where_decided stage) decides ∙ decided_plain best.answer plain

  pub run_looked : Invariant (tracked_after t (Of s event))
  unfolding called granted
  run_looked =
      lands_call t s calls.Look (Seen view) t.world.gate n (mid t h s work best.answer has_run) (t.orders s.number) (t.done s.number) refl refl
      (ap (granted looks) at ∙ leads)
      (places_live (live_there t s.number) t.world s.number m event t.history (Gets best.answer ∷ []) (live t h s work best.answer has_run) place)
      refl refl
      (same_mail t s.number n t.world.gate mail (mid t h s work best.answer has_run) (t.orders s.number) (t.done s.number) refl to.holds)

pub ran_kept : (t : Tracked) (s : SessionId) (answer : GateAnswer) (work : Work) (best : Heard) → Invariant t
    → (t.world.machine s.number).point ≡ LookDue (Running work)
    → next_of (kind_of (Running work)) t.world.gate.attached.bits (t.world.machine s.number).session.heard ≡ None
    → kept t.world.gate.attached.bits (t.world.machine s.number).session.heard ≡ Some best
    → first_other t.world.gate.attached.bits best.answer 0 (t.world.machine s.number).session.heard ≡ None
    → chain_goes_on t.world.gate.attached.bits (t.world.machine s.number).session.heard best.answer ≡ false
    → is_refusal best.answer ≡ false
    → MayHappen t.world (Of s (Called calls.Look answer)) → Invariant (tracked_after t (Of s (Called calls.Look answer)))
ran_kept t s answer work best h at end found alike stops plain may =
    look_at t s answer (Running work) h at may (λ first there. run_looked t h s work best at first there end found alike stops plain)
