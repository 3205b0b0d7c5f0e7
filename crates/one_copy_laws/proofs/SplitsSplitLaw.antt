-- A Look at which a chain is at its end and an answer is found that differs from the kept one: its backend is to be detached.
use Rattle.std.proofs.Common.{◌≡◌, ℕ, ◌<◌, ◌≤◌, Bool, true, false, [], refl, sym, ap, ◌∙◌, subst, arith, inl, inr}
use Rattle.std.specs.Prelude.{not, ◌&&◌, nat_le, is_some, Option, Some, None}
use Rattle.std.proofs.lemmas.Bool.Decides.{leb_tells}
use Rattle.pool_base.specs.Sets.{has}
use Rattle.pool_base.specs.declared.session_id.SessionId.{SessionId}
use Rattle.pool_base.specs.declared.backend_id.BackendId.{BackendId}
use Rattle.pool_base.specs.declared.backend_set.BackendSet.{BackendSet}
use Rattle.pool_base.specs.declared.gate_call.View.{View}
use Rattle.pool_base.specs.declared.gate_call.GateCall.TheVariants as calls
use Rattle.pool_base.specs.declared.gate_call.GateAnswer.{GateAnswer}
use Rattle.pool_base.specs.declared.gate_call.GateAnswer.TheVariants.{Seen}
use Rattle.backend_trait.specs.declared.answer.Answer.{Answer}
use Rattle.backend_trait.specs.Store.{is_refusal}
use Rattle.backend_trait.specs.Acts.{IsOf}
use Rattle.snapshot_gate.specs.Function.{view_of}
use Rattle.session_machine.specs.declared.action.Cause.TheVariants.{Differs}
use Rattle.session_machine.specs.declared.action.Action.TheVariants as actions
use Rattle.session_machine.specs.declared.action.SessionEvent.TheVariants.{Called}
use Rattle.session_machine.specs.declared.machine.Heard.{Heard}
use Rattle.session_machine.specs.declared.machine.Machine.{Machine}
use Rattle.session_machine.specs.declared.machine.Session.{Session}
use Rattle.session_machine.specs.declared.work.Work.{Work}
use Rattle.session_machine.specs.declared.machine.Stage.{Stage}
use Rattle.session_machine.specs.declared.machine.Stage.TheVariants.{Opening, Reading, Running, Locking, Inserting, Committing, Closing, RollingBack}
use Rattle.session_machine.specs.declared.machine.Point.TheVariants.{LookDue, SplitDue}
use Rattle.session_machine.specs.Answers.{lowest, has_answered, is_open, first_open, next_of, kept, first_other, is_other, goes_on as chain_goes_on, counts, is_same}
use Rattle.session_machine.specs.Rules.{due, called, granted, with_view, primary, kind_of, request_of, asked, looked_at, judged, split}
use Rattle.one_copy_model.specs.declared.event.Event.TheVariants.{Of}
use Rattle.one_copy_model.specs.World.{MayHappen}
use Rattle.one_copy_model.specs.Places.{closing_look, closing_at, closing_chain, kept_of, one_kept, where_decided, where_refused, at_granted, refused_look}
use Rattle.one_copy_model.specs.Deaths.{stage_at, heard_from, mail_or}
use Rattle.one_copy_model.specs.Tracking.{Tracked, tracked_after}
use Rattle.one_copy_model.specs.Statement.{IsJudged, HasCause}
use Rattle.one_copy_model.specs.Chains.{goes_up, has_told, IsInOrder, IsParting}
use Rattle.one_copy_model.specs.Invariant.{Invariant, inserted_in}
use Rattle.one_copy_model.specs.Own.{told_by, IsIn, Own}
use Rattle.one_copy_model.proofs.Counts.{still}
use Rattle.one_copy_model.proofs.Calm.{free_of, is_waiting}
use Rattle.one_copy_model.proofs.Turning.{facts_of, live_there}
use Rattle.one_copy_model.proofs.Landing.{places_none}
use Rattle.one_copy_model.proofs.Quiet.{real, stands_silent, quiet_holds}
use Rattle.one_copy_model.proofs.Beginning.{no_mail}
use Rattle.one_copy_model.proofs.Finding.{none_found, one_of_eight, nobody_attached}
use Rattle.one_copy_model.proofs.Livings.{and_true}
use Rattle.one_copy_laws.proofs.GateCalling.{called_to, lands_call, seen_view}
use Rattle.one_copy_laws.proofs.ChainsChaining.{chain_own, stand_same, inserts_same}
use Rattle.one_copy_laws.proofs.LooksShowing.{seen_is}
use Rattle.one_copy_laws.proofs.LooksNexts.{answered_is, closed_is, looked_is, closing_is}
use Rattle.one_copy_laws.proofs.LooksEndings.{IsAmong, found_among, among_heard}
use Rattle.one_copy_laws.proofs.LooksOpeningLaw.{heard_among}
use Rattle.one_copy_laws.proofs.SplitsGroups.{first_lowest, view_at, best_counts, best_among, holder}

-- which answer is another
other_is : (a low same : Bool) → a ≡ true → low ≡ true → same ≡ false → (a && (low && not same)) ≡ true
other_is true true false e f g = refl
other_is true true true e f g = absurd (let z : true ≡ false = g in cc)
other_is true false same e f g = absurd (let z : false ≡ true = f in cc)
other_is false low same e f g = absurd (let z : false ≡ true = e in cc)

not_is : (x : Bool) → not x ≡ true → x ≡ false
not_is true e = absurd (let z : false ≡ true = e in cc)
not_is false e = refl

from_none : (n : ℕ) → nat_le 0 n ≡ true
from_none n = elim (leb_tells 0 n) [ inl p ↦ p.0 | inr p ↦ absurd (let more : n < 0 = p.1 in omega (arith, more)) ]

none_open : (x : Option BackendId) → is_some x ≡ false → x ≡ None
none_open None e = refl
none_open (Some b) e = absurd (let z : true ≡ false = e in cc)

right_result : (refuses onward : Bool) → refuses ≡ false → (not refuses && onward) ≡ false → onward ≡ false
right_result false onward e f = f
right_result true onward e f = absurd (let z : true ≡ false = e in cc)

one_none : (v : Bool) (own : Heard) (answer : Answer) → one_kept v (Some own) answer ≡ None
one_none true own answer = refl
one_none false own answer = refl

module _ (t : Tracked) (h : Invariant t) (s : SessionId) (view : View) (seen : view ≡ view_of t.world.gate) (stage : Stage) (at : (t.world.machine s.number).point ≡ LookDue stage)
    (up : goes_up stage ≡ true) (shut : next_of (kind_of stage) t.world.gate.attached.bits (t.world.machine s.number).session.heard ≡ None)
    (best own : Heard) (found : kept t.world.gate.attached.bits (t.world.machine s.number).session.heard ≡ Some best)
    (differs : first_other t.world.gate.attached.bits best.answer 0 (t.world.machine s.number).session.heard ≡ Some own) where
  abbrev m : Machine
  m = t.world.machine s.number

  abbrev attached : ℕ
  attached = t.world.gate.attached.bits

  abbrev mail : ℕ → Option Answer
  mail = t.world.mail s.number

  abbrev looks : Session
  looks = with_view m.session view

  abbrev set : BackendSet
  set = view.attached

  abbrev more : Bool
  more = chain_goes_on set.bits m.session.heard best.answer

  abbrev n : Machine
  n = due looks (SplitDue stage best own set more)

  old : Own t.world.tables attached t.history t.world.store m mail (t.orders s.number) (t.done s.number) (live_there t s.number) s.number
  old = (facts_of t h).own s.number

  free : is_waiting m.point ≡ false
  free = ap is_waiting at

  order : IsInOrder attached m stage
  order = old.in_order stage (ap stage_at at)

  seen_bits : set.bits ≡ attached
  seen_bits = ap (λ (v : View). v.attached.bits) seen

  seen_found : kept set.bits m.session.heard ≡ Some best
  seen_found = ap (λ (k : ℕ). kept k m.session.heard) seen_bits ∙ found

  seen_differs : first_other set.bits best.answer 0 m.session.heard ≡ Some own
  seen_differs = ap (λ (k : ℕ). first_other k best.answer 0 m.session.heard) seen_bits ∙ differs

  best_here : counts set.bits best ≡ true
  best_here = best_counts set m.session.heard order.rising best seen_found

  best_in : IsAmong best m.session.heard
  best_in = best_among set m.session.heard order.rising best seen_found

  passes : (is_other set.bits best.answer 0 own ≡ true) × IsAmong own m.session.heard
  passes = found_among (is_other set.bits best.answer 0) m.session.heard own seen_differs

  apart : (counts set.bits own ≡ true) × ((nat_le 0 own.b.number && not (is_same own.answer best.answer)) ≡ true)
  apart = and_true (counts set.bits own) (nat_le 0 own.b.number && not (is_same own.answer best.answer)) passes.0

  differ : is_same own.answer best.answer ≡ false
  differ = not_is (is_same own.answer best.answer) (and_true (nat_le 0 own.b.number) (not (is_same own.answer best.answer)) apart.1).1

  told_heard : (b : ℕ) → told_by m mail b ≡ heard_from m.session.heard b
  told_heard b =
      ap (λ x. mail_or x (heard_from m.session.heard b))
      (no_mail t.world.tables attached t.history t.history t.world.store m mail (t.orders s.number) (t.done s.number) (live_there t s.number) s.number (real s) (free_of m.point free) old b)

  -- the cause of the detachment
  judged_so : IsJudged n own.b best.answer own.answer
  judged_so = record {
    stage = stage;
    best = best;
    mine = own;
    among = set;
    goes_on = more;
    due = refl;
    holder = holder set m.session.heard order.rising best seen_found;
    kept_is = view_at set m.session.heard order.rising best best_in best_here;
    own_is = view_at set m.session.heard order.rising own passes.1 apart.0;
    differ = differ;
  }

  split_order : IsInOrder attached n stage
  split_order = record {
    rising = order.rising;
    above = λ c e. absurd (let z : None ≡ Some c = e in cc);
    below = λ c d climbs here under_it told. order.below c d climbs here under_it (elim told [ inl e ↦ absurd (let z : None ≡ Some d = e in cc) | inr e ↦ inr e ]);
    one = λ single. absurd (let z : true ≡ false = sym up ∙ single in cc);
  }

  -- the kept answer was heard from a backend that is in the view
  best_seen : told_by m mail best.b.number ≡ Some best.answer
  best_seen = told_heard best.b.number ∙ among_heard m.session.heard best order.rising best_in

  best_attached : IsIn attached best.b.number
  best_attached = ap (λ (k : ℕ). has k best.b.number) (sym seen_bits) ∙ best_here

  best_form : IsOf (request_of stage) best.answer
  best_form = (old.heard best.b.number stage best.answer best_attached (ap stage_at at) best_seen).form

  all_told : more ≡ false → is_refusal best.answer ≡ false → (b : ℕ) → IsIn attached b → has_told m b ≡ true
  all_told stops result b here =
      let at_b : BackendId = record { number = b; below_8 = one_of_eight attached b h.few here } in
      let none : first_open attached m.session.heard ≡ None =
      ap (λ (k : ℕ). first_open k m.session.heard) (sym seen_bits) ∙ none_open (first_open set.bits m.session.heard) (right_result (is_refusal best.answer) (is_some (first_open set.bits m.session.heard)) result stops) in
      sym (answered_is m.session.heard at_b) ∙ closed_is (has attached b) (has_answered m.session.heard at_b) here (none_found (is_open attached m.session.heard) none at_b)

  drawn_told : (work : Work) (posted : Bool) → Some stage ≡ Some (Inserting work posted) → (b : ℕ) → IsIn attached b → has_told m b ≡ true
  drawn_told work posted e b here =
      let at_b : BackendId = record { number = b; below_8 = one_of_eight attached b h.few here } in
      let same : stage ≡ Inserting work posted = cc in
      let none : first_open attached m.session.heard ≡ None = subst (λ (x : Stage). next_of (kind_of x) attached m.session.heard ≡ None) same shut in
      sym (answered_is m.session.heard at_b) ∙ closed_is (has attached b) (has_answered m.session.heard at_b) here (none_found (is_open attached m.session.heard) none at_b)

  parts : IsParting attached n best own set more
  parts = record {
    fewer = λ b here. ap (λ (k : ℕ). has k b) seen_bits ∙ here;
    parted = λ b answer here says other.
        let x = heard_among m.session.heard b answer says in
        subst (λ (y : ℕ). own.b.number ≤ y) x.2
        (first_lowest (is_other set.bits best.answer 0) m.session.heard own x.0 order.rising seen_differs x.1
        (other_is (counts set.bits x.0) (nat_le 0 x.0.b.number) (is_same x.0.answer best.answer)
        (ap (has set.bits) x.2 ∙ ap (λ (k : ℕ). has k b) seen_bits ∙ here)
        (from_none x.0.b.number)
        (ap (λ (y : Answer). is_same y best.answer) x.3 ∙ other)));
    whole = all_told;
    drawn = drawn_told;
    form = λ x e. subst (λ (y : Stage). IsOf (request_of y) best.answer) (let z : Some stage ≡ Some x = e in let same : stage ≡ x = cc in same) best_form;
  }

  split_own : Own t.world.tables attached t.history t.world.store n mail (t.orders s.number) (t.done s.number) (live_there t s.number) s.number
  split_own =
      chain_own t.world.tables attached t.history t.world.store m mail mail (t.orders s.number) (t.done s.number) (live_there t s.number) s.number (real s) old n stage (ap stage_at at) refl refl refl (λ c. refl)
      (λ c p sound e. absurd (let line = old.asked c p sound e in free_of m.point free line.stage line.at line.waits))
      old.untold
      (λ c answer e. absurd (let line = (old.answer c answer e).1 in free_of m.point free line.stage line.at line.waits))
      split_order
      (λ x other mine those onward e.
      let z : SplitDue stage best own set more ≡ SplitDue x other mine those onward = e in
      let one : best ≡ other = cc in
      let two : own ≡ mine = cc in
      let three : set ≡ those = cc in
      let four : more ≡ onward = cc in
      subst (λ k. IsParting attached n other mine those k) four (subst (λ k. IsParting attached n other mine k more) three (subst (λ k. IsParting attached n other k set more) two (subst (λ k. IsParting attached n k own set more) one parts))))
      (λ k other e.
      let z : actions.Detach own.b (Differs best.answer own.answer) ≡ actions.Detach k other = e in
      let one : own.b ≡ k = cc in
      let two : Differs best.answer own.answer ≡ other = cc in
      subst (λ y. HasCause n y other) one (subst (HasCause n own.b) two judged_so))
      (λ answer is any. inl (best.b.number, best_attached, best_seen ∙ ap Some is))

  split_on : Invariant (called_to t s calls.Look (Seen view) t.world.gate n t.history (t.orders s.number) (t.done s.number))
  split_on =
      quiet_holds t h s n t.world.gate (t.orders s.number) (t.done s.number) refl
      (still t.world.gate t.world.machine m.session.gate m.session.gate refl (facts_of t h).counts)
      (stands_silent t.world.tables attached t.history m n mail mail
      (λ c here. stand_same t.world.tables attached t.history t.world.store m mail mail (t.orders s.number) (t.done s.number) (live_there t s.number) s.number (real s) old n stage (ap stage_at at) refl refl refl (λ c. refl) c)
      (λ c here. ap (λ x. inserted_in x (told_by m mail c)) (ap stage_at at)) (inserts_same m n stage (ap stage_at at) refl) (λ e. e))
      split_own

  -- nothing is decided there
  next_seen : next_of (kind_of stage) set.bits m.session.heard ≡ None
  next_seen = ap (λ k. next_of (kind_of stage) k m.session.heard) seen_bits ∙ shut

  chain_none : closing_at looks stage ≡ None
  chain_none =
      closing_is looks stage up ∙ ap (closing_chain looks) next_seen ∙ ap (kept_of looks) seen_found
      ∙ ap (λ (x : Option Heard). one_kept more x best.answer) seen_differs ∙ one_none more own best.answer

  look_none : (p : Option BackendId) → closing_look looks stage p ≡ None
  look_none None = refl
  look_none (Some first) = chain_none

  refused_none : (x : Stage) → x ≡ stage → refused_look looks (LookDue x) ≡ []
  refused_none (Opening work) e = ap where_refused (ap (λ y. closing_look looks y (primary looks)) e ∙ look_none (primary looks))
  refused_none (Reading work ticket) e = refl
  refused_none (Running work) e = refl
  refused_none (Locking work table) e = refl
  refused_none (Inserting work posted) e = refl
  refused_none Committing e = refl
  refused_none Closing e = refl
  refused_none (RollingBack ending) e = refl

  goes_to : (p : Option BackendId) → lowest set.bits ≡ p → looked_at looks stage p ≡ n
  unfolding asked
  goes_to None e = absurd (nobody_attached attached h.few (ap lowest (sym seen_bits) ∙ e) best.b.number (ap (λ (k : ℕ). has k best.b.number) (sym seen_bits) ∙ best_here))
  goes_to (Some first) e =
      looked_is looks stage up ∙ ap (asked looks stage) next_seen ∙ ap (judged looks stage) seen_found
      ∙ ap (split true looks stage best set more) seen_differs

  pub look_splits : Invariant (tracked_after t (Of s (Called calls.Look (Seen view))))
  unfolding called granted asked
  look_splits =
      lands_call t s calls.Look (Seen view) t.world.gate n t.history (t.orders s.number) (t.done s.number) refl refl
      (ap (granted looks) at ∙ goes_to (lowest set.bits) refl)
      (places_none (live_there t s.number) t.world s.number m (Called calls.Look (Seen view)) t.history
      (ap (at_granted looks) at ∙ ap (where_decided stage) (look_none (primary looks))) refl
      (ap (refused_look looks) at ∙ refused_none stage refl))
      refl refl split_on

pub split_kept : (t : Tracked) (s : SessionId) (answer : GateAnswer) (stage : Stage) (best own : Heard) → Invariant t → (t.world.machine s.number).point ≡ LookDue stage → goes_up stage ≡ true
    → next_of (kind_of stage) t.world.gate.attached.bits (t.world.machine s.number).session.heard ≡ None
    → kept t.world.gate.attached.bits (t.world.machine s.number).session.heard ≡ Some best
    → first_other t.world.gate.attached.bits best.answer 0 (t.world.machine s.number).session.heard ≡ Some own
    → MayHappen t.world (Of s (Called calls.Look answer)) → Invariant (tracked_after t (Of s (Called calls.Look answer)))
split_kept t s answer stage best own h at up shut found differs may =
    let v = seen_view answer may.0.1 in
    subst (λ (a : GateAnswer). Invariant (tracked_after t (Of s (Called calls.Look a)))) (sym v.1)
    (look_splits t h s v.0 (seen_is (view_of t.world.gate) v.0 (may.1.1 ∙ v.1)) stage at up shut best own found differs)
