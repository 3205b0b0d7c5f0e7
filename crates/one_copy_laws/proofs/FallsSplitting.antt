-- A backend whose answer differs is detached: the next that differs is due, or the chain goes on with those that have not answered.
use Rattle.std.proofs.Common.{◌≡◌, ◌≢◌, ℕ, ◌+◌, ◌<◌, ◌≤◌, Bool, true, false, List, [], ◌∷◌, refl, sym, ap, ◌∙◌, subst, arith, inl, inr}
use Rattle.std.specs.Prelude.{◌⊎◌, ◌&&◌, not, nat_le, cond, find, Option, Some, None, is_some, if◌then◌else◌}
use Rattle.std.proofs.lemmas.Bool.Decides.{leb_tells}
use Rattle.pool_base.specs.Sets.{has}
use Rattle.pool_base.proofs.Finite.{without_members}
use Rattle.pool_base.specs.declared.session_id.SessionId.{SessionId}
use Rattle.pool_base.specs.declared.backend_id.BackendId.{BackendId}
use Rattle.pool_base.specs.declared.backend_set.BackendSet.{BackendSet}
use Rattle.pool_base.specs.declared.gate_call.GateCall.TheVariants as calls
use Rattle.pool_base.specs.declared.gate_call.GateAnswer.{GateAnswer}
use Rattle.backend_trait.specs.declared.answer.Answer.{Answer}
use Rattle.snapshot_gate.specs.declared.state.GateState.{GateState}
use Rattle.snapshot_gate.specs.Function.{view_of, step}
use Rattle.session_machine.specs.declared.action.Cause.{Cause}
use Rattle.session_machine.specs.declared.action.Cause.TheVariants.{Differs}
use Rattle.session_machine.specs.declared.action.Action.TheVariants as actions
use Rattle.session_machine.specs.declared.action.SessionEvent.TheVariants.{Detached}
use Rattle.session_machine.specs.declared.machine.Heard.{Heard}
use Rattle.session_machine.specs.declared.machine.Machine.{Machine}
use Rattle.session_machine.specs.declared.machine.Session.{Session}
use Rattle.session_machine.specs.declared.machine.Stage.{Stage}
use Rattle.session_machine.specs.declared.machine.Stage.TheVariants.{Opening, Reading, Running, Locking, Inserting, Committing, Closing, RollingBack}
use Rattle.session_machine.specs.declared.machine.Point.{Point}
use Rattle.session_machine.specs.declared.machine.Point.TheVariants.{LookDue, SplitDue}
use Rattle.session_machine.specs.Answers.{lowest, first_other, is_other, counts, is_same}
use Rattle.session_machine.specs.Rules.{after_at, action_at, next_action, due, detached, with_view, primary, parted, parted_at, split}
use Rattle.one_copy_model.specs.declared.event.Event.TheVariants.{Of}
use Rattle.one_copy_model.specs.World.{MayHappen}
use Rattle.one_copy_model.specs.Places.{place_of, refused_opening, at_parted, refused_parted, closing_split, where_decided, where_refused}
use Rattle.one_copy_model.specs.Deaths.{stage_at, heard_from}
use Rattle.one_copy_model.specs.Tracking.{Tracked, tracked_after}
use Rattle.one_copy_model.specs.Statement.{HasCause, IsJudged, answers_among}
use Rattle.one_copy_model.specs.Chains.{IsInOrder, IsParting, IsKept, IsRising}
use Rattle.one_copy_model.specs.Invariant.{Invariant}
use Rattle.write_path.specs.Kept.{IsHolder}
use Rattle.one_copy_model.specs.Own.{IsIn, Speaks}
use Rattle.one_copy_model.proofs.Calm.{is_waiting}
use Rattle.one_copy_model.proofs.Livings.{and_true}
use Rattle.one_copy_laws.proofs.LooksEndings.{IsAmong, found_among, among_heard, same_test, above_of}
use Rattle.one_copy_laws.proofs.LooksOpeningLaw.{heard_among}
use Rattle.one_copy_laws.proofs.FallsLeaving.{turn_of, left, n, few, less, own_was, order, looks_order, left_holds}

-- who was detached is there no more
pub out : (g : GateState) (b : BackendId) (v : Bool) → has g.attached.bits b.number ≡ v → g.attached.bits < 256 → IsIn (turn_of g b v).0.attached.bits b.number → ⊥
out g b true is few e =
    let z : false ≡ true = sym (ap (λ (x : Bool). if x then false else has g.attached.bits b.number) (same_test b.number)) ∙ sym (without_members g.attached.bits b.number few b.below_8 b.number b.below_8) ∙ e in cc
out g b false is few e = let z : false ≡ true = sym is ∙ e in cc

-- of answers that go up the first that is found is the lowest
first_lowest : (p : Heard → Bool) (xs : List Heard) (y x : Heard) → IsRising xs → find p xs ≡ Some y → IsAmong x xs → p x ≡ true → y.b.number ≤ x.b.number
first_lowest p [] y x rising e among is = absurd among
first_lowest p (h ∷ hs) y x rising e among is = by (p h) refl (λ f a. first_lowest p hs y x rising.1 f a is) e among
  where
    by : (v : Bool) → p h ≡ v → (find p hs ≡ Some y → IsAmong x hs → y.b.number ≤ x.b.number) → cond v (Some h) (find p hs) ≡ Some y → IsAmong x (h ∷ hs) → y.b.number ≤ x.b.number
    by true at rest f (inl same) = let one : h ≡ y = (let z : Some h ≡ Some y = f in cc) in subst (λ (k : Heard). k.b.number ≤ x.b.number) one (subst (λ (k : Heard). h.b.number ≤ k.b.number) same (let z : h.b.number ≤ h.b.number = omega arith in z))
    by true at rest f (inr more) =
        let one : h ≡ y = (let z : Some h ≡ Some y = f in cc) in
        let less : h.b.number < x.b.number = above_of h.b.number hs x rising.0 more in
        subst (λ (k : Heard). k.b.number ≤ x.b.number) one (let z : h.b.number ≤ x.b.number = omega (arith, less) in z)
    by false at rest f (inl same) = absurd (let z : false ≡ true = sym (ap p (sym same) ∙ at) ∙ is in cc)
    by false at rest f (inr more) = rest f more

-- which answer is another
other_is : (a low same : Bool) → a ≡ true → low ≡ true → same ≡ false → (a && (low && not same)) ≡ true
other_is true true false e f g = refl
other_is true true true e f g = absurd (let z : true ≡ false = g in cc)
other_is true false same e f g = absurd (let z : false ≡ true = f in cc)
other_is false low same e f g = absurd (let z : false ≡ true = e in cc)

not_is : (x : Bool) → not x ≡ true → x ≡ false
not_is true e = absurd (let z : false ≡ true = e in cc)
not_is false e = refl

pub le_test : (a b : ℕ) → a ≤ b → nat_le a b ≡ true
le_test a b less = elim (leb_tells a b) [ inl p ↦ p.0 | inr p ↦ absurd (let more : b < a = p.1 in omega (arith, less, more)) ]

-- a detachment by its view
pub detached_is : (g : GateState) (b : BackendId) (v : Bool) (session : Session) (point : Point) → detached session point (turn_of g b v).1 ≡ parted_at (with_view session (view_of (turn_of g b v).0)) point
unfolding detached
detached_is g b true session point = refl
detached_is g b false session point = refl

pub place_is : (g : GateState) (b : BackendId) (cause : Cause) (v : Bool) (session : Session) (point : Point) → place_of session point (Detached b cause (turn_of g b v).1) ≡ at_parted (with_view session (view_of (turn_of g b v).0)) point
place_is g b cause true session point = refl
place_is g b cause false session point = refl

pub refused_is : (g : GateState) (b : BackendId) (cause : Cause) (v : Bool) (session : Session) (point : Point) → refused_opening session point (Detached b cause (turn_of g b v).1) ≡ refused_parted (with_view session (view_of (turn_of g b v).0)) point
refused_is g b cause true session point = refl
refused_is g b cause false session point = refl

closing_none : (session : Session) (best : Heard) (other : Option Heard) (more : Bool) (x : Option BackendId) → (is_some other ≡ true) ⊎ (more ≡ true) → closing_split session best other more x ≡ None
closing_none session best other more None go = refl
closing_none session best (Some own) more (Some b) go = refl
closing_none session best None true (Some b) go = refl
closing_none session best None false (Some b) go = absurd (elim go [ inl e ↦ (let z : false ≡ true = e in cc) | inr e ↦ (let z : false ≡ true = e in cc) ])

refused_at : (session : Session) (stage : Stage) (best own : Heard) (among : BackendSet) (more : Bool)
    → closing_split session best (first_other among.bits best.answer (own.b.number + 1) session.heard) more (primary session) ≡ None
    → refused_parted session (SplitDue stage best own among more) ≡ []
refused_at session (Opening work) best own among more e = ap where_refused e
refused_at session (Reading work ticket) best own among more e = refl
refused_at session (Running work) best own among more e = refl
refused_at session (Locking work table) best own among more e = refl
refused_at session (Inserting work posted) best own among more e = refl
refused_at session Committing best own among more e = refl
refused_at session Closing best own among more e = refl
refused_at session (RollingBack ending) best own among more e = refl

module _ (t : Tracked) (h : Invariant t) (s : SessionId) (b first : BackendId) (cause : Cause) (stage : Stage) (best own : Heard) (among : BackendSet) (more : Bool)
    (at : (t.world.machine s.number).point ≡ SplitDue stage best own among more)
    (there : lowest (step t.world.gate (calls.Detach b)).0.attached.bits ≡ Some first) where
  abbrev m : Machine
  m = t.world.machine s.number

  abbrev v : Bool
  v = has t.world.gate.attached.bits b.number

  abbrev looks : Session
  looks = with_view m.session (view_of (step t.world.gate (calls.Detach b)).0)

  abbrev found : Option Heard
  found = first_other among.bits best.answer (own.b.number + 1) m.session.heard

  a : stage_at m.point ≡ Some stage
  a = ap stage_at at

  free : is_waiting m.point ≡ false
  free = ap is_waiting at

  module _ (go : (is_some found ≡ true) ⊎ (more ≡ true)) where
    decides : closing_split looks best found more (primary looks) ≡ None
    decides = closing_none looks best found more (primary looks) go

    pub place : place_of m.session m.point (Detached b cause (step t.world.gate (calls.Detach b)).1) ≡ []
    place = place_is t.world.gate b cause v m.session m.point ∙ ap (at_parted looks) at ∙ ap (where_decided stage) decides

    pub refused : refused_opening m.session m.point (Detached b cause (step t.world.gate (calls.Detach b)).1) ≡ []
    refused = refused_is t.world.gate b cause v m.session m.point ∙ ap (refused_parted looks) at ∙ refused_at looks stage best own among more decides

  leads : detached m.session m.point (step t.world.gate (calls.Detach b)).1 ≡ split false looks stage best among more found
  leads = detached_is t.world.gate b v m.session m.point ∙ ap (parted_at looks) at ∙ ap (parted looks stage best own among more) there

  -- an event at this point, by the point to which it leads
  module _ (answer : GateAnswer) (may : MayHappen t.world (Of s (Detached b cause answer))) (point : Point) (next : stage_at point ≡ Some stage)
      (go : (is_some found ≡ true) ⊎ (more ≡ true)) (to : split false looks stage best among more found ≡ due looks point) where
    event_holds : IsInOrder (left t h s b cause stage point a next free) (n t h s b cause stage point a next free) stage
        → ((x : Stage) (other mine : Heard) (those : BackendSet) (onward : Bool) → point ≡ SplitDue x other mine those onward → IsParting (left t h s b cause stage point a next free) (n t h s b cause stage point a next free) other mine those onward)
        → ((k : BackendId) (other : Cause) → next_action (n t h s b cause stage point a next free) ≡ actions.Detach k other → HasCause (n t h s b cause stage point a next free) k other)
        → ((says : Answer) → IsKept point says → ((c : ℕ) × IsIn (left t h s b cause stage point a next free) c) → Speaks (left t h s b cause stage point a next free) m (t.world.mail s.number) says)
        → Invariant (tracked_after t (Of s (Detached b cause answer)))
    unfolding after_at
    event_holds in_order parting causes kept =
        subst (λ (x : GateAnswer). Invariant (tracked_after t (Of s (Detached b cause x)))) may.1.1
        (left_holds t h s b cause stage point a next free in_order parting causes kept first there
        (leads ∙ to) (place go) (refused go))

  -- nobody else differs, and an attached backend has not answered
  module _ (answer : GateAnswer) (may : MayHappen t.world (Of s (Detached b cause answer)))
      (none : found ≡ None) (onward : more ≡ true) where
    pub goes_on : Invariant (tracked_after t (Of s (Detached b cause answer)))
    goes_on =
        event_holds answer may (LookDue stage) refl (inr onward)
        (ap (split false looks stage best among more) none ∙ ap (λ (x : Bool). split false looks stage best among x None) onward)
        (looks_order (left t h s b cause stage (LookDue stage) a refl free) m looks stage (LookDue stage) refl refl (order t h s b cause stage (LookDue stage) a refl free))
        (λ x other mine those more e. absurd (let z : LookDue stage ≡ SplitDue x other mine those more = e in cc))
        (λ k other e. absurd (let z : actions.Gate calls.Look ≡ actions.Detach k other = e in cc))
        (λ says is any. absurd is)

  -- another differs
  module _ (answer : GateAnswer) (may : MayHappen t.world (Of s (Detached b cause answer)))
      (mine : Heard) (some : found ≡ Some mine) where
    abbrev point : Point
    point = SplitDue stage best mine among more

    abbrev those : ℕ
    those = left t h s b cause stage point a refl free

    abbrev to : Machine
    to = n t h s b cause stage point a refl free

    was : IsParting those m best own among more
    was = (own_was t h s b cause stage point a refl free).parting stage best own among more at

    in_it : IsInOrder those m stage
    in_it = order t h s b cause stage point a refl free

    its : b ≡ own.b
    its = let z : actions.Detach own.b (Differs best.answer own.answer) ≡ actions.Detach b cause = sym (ap (action_at m.session) at) ∙ may.0.0 in let same : b ≡ own.b = cc in same

    judged : IsJudged m own.b best.answer own.answer
    judged = (own_was t h s b cause stage point a refl free).causes own.b (Differs best.answer own.answer) (ap (action_at m.session) at)

    best_is : judged.best ≡ best
    best_is = let z : SplitDue judged.stage judged.best judged.mine judged.among judged.goes_on ≡ SplitDue stage best own among more = sym judged.due ∙ at in let same : judged.best ≡ best = cc in same

    among_is : judged.among ≡ among
    among_is = let z : SplitDue judged.stage judged.best judged.mine judged.among judged.goes_on ≡ SplitDue stage best own among more = sym judged.due ∙ at in let same : judged.among ≡ among = cc in same

    passes : (is_other among.bits best.answer (own.b.number + 1) mine ≡ true) × IsAmong mine m.session.heard
    passes = found_among (is_other among.bits best.answer (own.b.number + 1)) m.session.heard mine some

    split_in : (counts among.bits mine ≡ true) × ((nat_le (own.b.number + 1) mine.b.number && not (is_same mine.answer best.answer)) ≡ true)
    split_in = and_true (counts among.bits mine) (nat_le (own.b.number + 1) mine.b.number && not (is_same mine.answer best.answer)) passes.0

    differs : is_same mine.answer best.answer ≡ false
    differs = not_is (is_same mine.answer best.answer) (and_true (nat_le (own.b.number + 1) mine.b.number) (not (is_same mine.answer best.answer)) split_in.1).1

    abbrev answers_of : BackendSet → ℕ → Option Answer
    answers_of set = answers_among set m.session.heard

    cause_of_next : IsJudged to mine.b best.answer mine.answer
    cause_of_next = record {
      stage = stage;
      best = best;
      mine = mine;
      among = among;
      goes_on = more;
      due = refl;
      holder = subst (λ (x : Heard). IsHolder is_same (answers_of among) x.b.number) best_is (subst (λ (x : BackendSet). IsHolder is_same (answers_of x) judged.best.b.number) among_is judged.holder);
      kept_is = subst (λ (x : Heard). answers_of among x.b.number ≡ Some best.answer) best_is (subst (λ (x : BackendSet). answers_of x judged.best.b.number ≡ Some best.answer) among_is judged.kept_is);
      own_is = ap (λ (x : Bool). if x then heard_from m.session.heard mine.b.number else None) split_in.0 ∙ among_heard m.session.heard mine in_it.rising passes.1;
      differ = differs;
    }

    parts : IsParting those to best mine among more
    parts = record {
      fewer = was.fewer;
      parted = λ k other here says apart.
          let x = heard_among m.session.heard k other says in
          let above : own.b.number ≤ k = was.parted k other here says apart in
          let not_it : k ≢ own.b.number = (λ e. out t.world.gate b v refl h.few (subst (IsIn those) (e ∙ ap (λ (y : BackendId). y.number) (sym its)) here)) in
          let past : own.b.number + 1 ≤ k = omega (arith, above, not_it) in
          subst (λ (y : ℕ). mine.b.number ≤ y) x.2
          (first_lowest (is_other among.bits best.answer (own.b.number + 1)) m.session.heard mine x.0 in_it.rising some x.1
          (other_is (counts among.bits x.0) (nat_le (own.b.number + 1) x.0.b.number) (is_same x.0.answer best.answer)
          (ap (has among.bits) x.2 ∙ was.fewer k here)
          (ap (nat_le (own.b.number + 1)) x.2 ∙ le_test (own.b.number + 1) k past)
          (ap (λ (y : Answer). is_same y best.answer) x.3 ∙ apart)));
      whole = was.whole;
      form = λ x e. was.form x (a ∙ e);
      drawn = λ work posted e. was.drawn work posted (a ∙ e);
    }

    pub goes_next : Invariant (tracked_after t (Of s (Detached b cause answer)))
    goes_next =
        event_holds answer may point refl (inl (ap is_some some)) (ap (split false looks stage best among more) some)
        (looks_order those m looks stage point refl refl in_it)
        (λ x other own_it set onward e.
        let z : point ≡ SplitDue x other own_it set onward = e in
        let one : best ≡ other = cc in
        let two : mine ≡ own_it = cc in
        let three : among ≡ set = cc in
        let four : more ≡ onward = cc in
        subst (λ k. IsParting those to other own_it set k) four (subst (λ k. IsParting those to other own_it k more) three (subst (λ k. IsParting those to other k among more) two (subst (λ k. IsParting those to k mine among more) one parts))))
        (λ k other e.
        let z : actions.Detach mine.b (Differs best.answer mine.answer) ≡ actions.Detach k other = e in
        let one : mine.b ≡ k = cc in
        let two : Differs best.answer mine.answer ≡ other = cc in
        subst (λ y. HasCause to y other) one (subst (HasCause to mine.b) two cause_of_next))
        (λ says is any. inr (subst (λ (p : Point). IsKept p says) (sym at) is, any))

pub split_on_kept : (t : Tracked) (s : SessionId) (b first : BackendId) (cause : Cause) (answer : GateAnswer) (stage : Stage) (best own : Heard) (among : BackendSet) → Invariant t
    → (t.world.machine s.number).point ≡ SplitDue stage best own among true
    → first_other among.bits best.answer (own.b.number + 1) (t.world.machine s.number).session.heard ≡ None
    → lowest (step t.world.gate (calls.Detach b)).0.attached.bits ≡ Some first
    → MayHappen t.world (Of s (Detached b cause answer)) → Invariant (tracked_after t (Of s (Detached b cause answer)))
split_on_kept t s b first cause answer stage best own among h at none there may = goes_on t h s b first cause stage best own among true at there answer may none refl

pub split_next_kept : (t : Tracked) (s : SessionId) (b first : BackendId) (cause : Cause) (answer : GateAnswer) (stage : Stage) (best own mine : Heard) (among : BackendSet) (more : Bool) → Invariant t
    → (t.world.machine s.number).point ≡ SplitDue stage best own among more
    → first_other among.bits best.answer (own.b.number + 1) (t.world.machine s.number).session.heard ≡ Some mine
    → lowest (step t.world.gate (calls.Detach b)).0.attached.bits ≡ Some first
    → MayHappen t.world (Of s (Detached b cause answer)) → Invariant (tracked_after t (Of s (Detached b cause answer)))
split_next_kept t s b first cause answer stage best own mine among more h at some there may = goes_next t h s b first cause stage best own among more at there answer may mine some
