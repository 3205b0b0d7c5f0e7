-- The last backend whose answer differs is detached, and the kept answer decides: what those that are left have answered, where the
-- session is led and what it places.
use Rattle.std.proofs.Common.{◌≡◌, ◌≢◌, ℕ, ◌+◌, ◌≤◌, Bool, true, false, refl, sym, ap, ◌∙◌, subst, arith}
use Rattle.std.specs.Prelude.{nat_le, Option, Some, None}
use Rattle.pool_base.specs.Sets.{has}
use Rattle.pool_base.specs.declared.session_id.SessionId.{SessionId}
use Rattle.pool_base.specs.declared.backend_id.BackendId.{BackendId}
use Rattle.pool_base.specs.declared.backend_set.BackendSet.{BackendSet}
use Rattle.pool_base.specs.declared.gate_call.GateCall.TheVariants as calls
use Rattle.pool_base.specs.declared.gate_call.GateAnswer.{GateAnswer}
use Rattle.backend_trait.specs.declared.answer.Answer.{Answer}
use Rattle.backend_trait.specs.Acts.{IsOf}
use Rattle.backend_trait.specs.Store.{is_refusal}
use Rattle.snapshot_gate.specs.Function.{view_of, step}
use Rattle.session_machine.specs.declared.action.Cause.{Cause}
use Rattle.session_machine.specs.declared.action.Cause.TheVariants.{Differs}
use Rattle.session_machine.specs.declared.action.Action.TheVariants as actions
use Rattle.session_machine.specs.declared.action.SessionEvent.TheVariants.{Detached}
use Rattle.session_machine.specs.declared.machine.Heard.{Heard}
use Rattle.session_machine.specs.declared.machine.Machine.{Machine}
use Rattle.session_machine.specs.declared.machine.Session.{Session}
use Rattle.session_machine.specs.declared.machine.Stage.{Stage}
use Rattle.session_machine.specs.declared.machine.Point.{Point}
use Rattle.session_machine.specs.declared.machine.Point.TheVariants.{Resting, SplitDue}
use Rattle.session_machine.specs.Answers.{lowest, is_attached, first_other, is_other, counts, is_same}
use Rattle.session_machine.specs.Rules.{action_at, request_of, closed, detached, with_view, primary, parted, parted_at, split}
use Rattle.one_copy_model.specs.declared.event.Event.TheVariants.{Of}
use Rattle.one_copy_model.specs.World.{MayHappen}
use Rattle.one_copy_model.specs.Places.{place_of, at_parted, refused_opening, refused_parted, closing_split, where_decided, decided_by}
use Rattle.one_copy_model.specs.Deaths.{stage_at, heard_from, mail_or}
use Rattle.one_copy_model.specs.Tracking.{Tracked}
use Rattle.one_copy_model.specs.Chains.{IsParting, has_told}
use Rattle.one_copy_model.specs.Standing.{standing_in, standing_by}
use Rattle.one_copy_model.specs.Invariant.{Invariant}
use Rattle.one_copy_model.specs.Own.{told_by, stand, IsIn, Own}
use Rattle.one_copy_model.proofs.Turning.{live_there}
use Rattle.one_copy_model.proofs.Calm.{free_of, is_waiting}
use Rattle.one_copy_model.proofs.Quiet.{real}
use Rattle.one_copy_model.proofs.Beginning.{no_mail}
use Rattle.one_copy_model.proofs.Finding.{is_found}
use Rattle.one_copy_laws.proofs.LooksEndings.{told_is}
use Rattle.one_copy_laws.proofs.LooksOpeningLaw.{heard_among, none_passes, not_other}
use Rattle.one_copy_laws.proofs.FallsSplitting.{out, le_test, detached_is, place_is, refused_is}
use Rattle.one_copy_laws.proofs.DecidedParting.{left, facts_left}

same_or_apart : (v : Bool) → (v ≡ false → v ≡ true) → v ≡ true
same_or_apart true f = refl
same_or_apart false f = f refl

module _ (t : Tracked) (h : Invariant t) (s : SessionId) (b first : BackendId) (cause : Cause) (answer : GateAnswer) (stage : Stage) (best own : Heard) (among : BackendSet)
    (at : (t.world.machine s.number).point ≡ SplitDue stage best own among false)
    (none : first_other among.bits best.answer (own.b.number + 1) (t.world.machine s.number).session.heard ≡ None)
    (there : lowest (step t.world.gate (calls.Detach b)).0.attached.bits ≡ Some first)
    (may : MayHappen t.world (Of s (Detached b cause answer))) where
  abbrev pub m : Machine
  m = t.world.machine s.number

  abbrev pub mail : ℕ → Option Answer
  mail = t.world.mail s.number

  abbrev pub those : ℕ
  those = left t h s b

  abbrev v : Bool
  v = has t.world.gate.attached.bits b.number

  abbrev pub looks : Session
  looks = with_view m.session (view_of (step t.world.gate (calls.Detach b)).0)

  pub own_was : Own t.world.tables those t.history t.world.store m mail (t.orders s.number) (t.done s.number) (live_there t s.number) s.number
  own_was = (facts_left t h s b).own s.number

  pub free : is_waiting m.point ≡ false
  free = ap is_waiting at

  pub awake : m.point ≡ Resting → ⊥
  awake rest = let z : SplitDue stage best own among false ≡ Resting = sym at ∙ rest in cc

  pub in_stage : stage_at m.point ≡ Some stage
  in_stage = ap stage_at at

  pub first_here : IsIn those first.number
  first_here = is_found (is_attached those) first there

  was : IsParting those m best own among false
  was = own_was.parting stage best own among false at

  its : b ≡ own.b
  its = let z : actions.Detach own.b (Differs best.answer own.answer) ≡ actions.Detach b cause = sym (ap (action_at m.session) at) ∙ may.0.0 in let same : b ≡ own.b = cc in same

  -- each of those that are left has answered as the kept answer, where it has answered
  pub alike : (k : ℕ) (says : Answer) → IsIn those k → heard_from m.session.heard k ≡ Some says → is_same says best.answer ≡ true
  alike k says here e = same_or_apart (is_same says best.answer) (λ apart.
      let x = heard_among m.session.heard k says e in
      let above : own.b.number ≤ k = was.parted k says here e apart in
      let not_it : k ≢ own.b.number = (λ f. out t.world.gate b v refl h.few (subst (IsIn those) (f ∙ ap (λ (y : BackendId). y.number) (sym its)) here)) in
      let past : own.b.number + 1 ≤ k = omega (arith, above, not_it) in
      ap (λ (y : Answer). is_same y best.answer) (sym x.3)
      ∙ not_other (counts among.bits x.0) (nat_le (own.b.number + 1) x.0.b.number) (is_same x.0.answer best.answer)
      (ap (has among.bits) x.2 ∙ was.fewer k here)
      (ap (nat_le (own.b.number + 1)) x.2 ∙ le_test (own.b.number + 1) k past)
      (none_passes (is_other among.bits best.answer (own.b.number + 1)) m.session.heard x.0 none x.1))

  -- where a result is kept each of them has answered
  pub answered : is_refusal best.answer ≡ false → (k : ℕ) → IsIn those k → has_told m k ≡ true
  answered = was.whole refl

  pub mail_none : (k : ℕ) → mail k ≡ None
  mail_none k = no_mail t.world.tables those t.history t.history t.world.store m mail (t.orders s.number) (t.done s.number) (live_there t s.number) s.number (real s) (free_of m.point free) own_was k

  pub told_heard : (k : ℕ) → told_by m mail k ≡ heard_from m.session.heard k
  told_heard k = ap (λ x. mail_or x (heard_from m.session.heard k)) (mail_none k)

  pub form_of : (k : ℕ) (says : Answer) → IsIn those k → heard_from m.session.heard k ≡ Some says → IsOf (request_of stage) says
  form_of k says here e = (own_was.heard k stage says here in_stage (told_heard k ∙ e)).form

  -- its answer, of the form of what was asked, and the same as the kept one
  pub record Says (k : ℕ) : Type 0 where
    pub says : Answer
    pub told : told_by m mail k ≡ Some says
    pub form : IsOf (request_of stage) says
    pub same : is_same says best.answer ≡ true

  pub says_of : is_refusal best.answer ≡ false → (k : ℕ) → IsIn those k → Says k
  says_of right k here =
      let a = told_is (heard_from m.session.heard k) (answered right k here) in
      record { says = a.0; told = told_heard k ∙ a.1; form = form_of k a.0 here a.1; same = alike k a.0 here a.1 }

  pub stand_is : (k : ℕ) → stand m mail k ≡ standing_in stage (told_by m mail k)
  stand_is k = ap (λ (p : Point). standing_by m.session.gate p (stage_at p) (told_by m mail k)) at

  -- where it leads
  pub leads : detached m.session m.point (step t.world.gate (calls.Detach b)).1 ≡ closed false looks stage best.answer
  leads = detached_is t.world.gate b v m.session m.point ∙ ap (parted_at looks) at ∙ ap (parted looks stage best own among false) there ∙ ap (split false looks stage best among false) none

  -- what is decided
  pub decides : closing_split looks best (first_other among.bits best.answer (own.b.number + 1) looks.heard) false (primary looks) ≡ Some best.answer
  decides = ap (λ (x : Option Heard). closing_split looks best x false (primary looks)) none ∙ ap (closing_split looks best None false) there

  pub place : place_of m.session m.point (Detached b cause (step t.world.gate (calls.Detach b)).1) ≡ decided_by stage best.answer
  place = place_is t.world.gate b cause v m.session m.point ∙ ap (at_parted looks) at ∙ ap (where_decided stage) decides

  pub refused : refused_opening m.session m.point (Detached b cause (step t.world.gate (calls.Detach b)).1) ≡ refused_parted looks (SplitDue stage best own among false)
  refused = refused_is t.world.gate b cause v m.session m.point ∙ ap (refused_parted looks) at
