-- A Look behind which a chain asks the next backend, and one that shows no backend.
use Rattle.std.proofs.Common.{◌≡◌, ℕ, ◌<◌, true, false, [], refl, sym, ap, ◌∙◌, subst, inl, inr}
use Rattle.std.specs.Prelude.{Option, Some, None}
use Rattle.pool_base.specs.Sets.{has}
use Rattle.pool_base.specs.declared.session_id.SessionId.{SessionId}
use Rattle.pool_base.specs.declared.gate_call.View.{View}
use Rattle.pool_base.specs.declared.gate_call.GateCall.TheVariants as calls
use Rattle.pool_base.specs.declared.gate_call.GateAnswer.{GateAnswer}
use Rattle.pool_base.specs.declared.gate_call.GateAnswer.TheVariants.{Seen}
use Rattle.backend_trait.specs.declared.answer.Answer.{Answer}
use Rattle.snapshot_gate.specs.Function.{view_of}
use Rattle.session_machine.specs.declared.action.Action.TheVariants as actions
use Rattle.session_machine.specs.declared.action.SessionEvent.TheVariants.{Called}
use Rattle.session_orders.specs.declared.outcome.Outcome.{Outcome}
use Rattle.session_machine.specs.declared.machine.GatePhase.{GatePhase}
use Rattle.session_machine.specs.declared.machine.GatePhase.TheVariants as phases
use Rattle.session_machine.specs.declared.machine.Machine.{Machine}
use Rattle.session_machine.specs.declared.machine.Session.{Session}
use Rattle.session_machine.specs.declared.machine.Ending.{Ending as MachineEnding}
use Rattle.session_machine.specs.declared.machine.Ending.TheVariants.{Replies, Leaves as EndsWith}
use Rattle.session_machine.specs.declared.machine.Stage.{Stage}
use Rattle.session_machine.specs.declared.machine.Stage.TheVariants.{Opening, Reading, Running, Locking, Inserting, Committing, Closing, RollingBack}
use Rattle.session_machine.specs.declared.machine.Point.{Point}
use Rattle.session_machine.specs.declared.machine.Point.TheVariants.{Resting, LookDue, PostDue, SplitDue}
use Rattle.session_machine.specs.Rules.{due, called, granted, with_view, primary}
use Rattle.one_copy_model.specs.declared.event.Event.TheVariants.{Of}
use Rattle.one_copy_model.specs.World.{MayHappen}
use Rattle.one_copy_model.specs.Deaths.{stage_at}
use Rattle.one_copy_model.specs.Tracking.{Told, Tracked, tracked_after, in_commit}
use Rattle.one_copy_model.specs.Orders.{reply_of, ends_listing}
use Rattle.one_copy_model.specs.Invariant.{Invariant, FitsPoint}
use Rattle.one_copy_model.specs.Own.{told_by, IsIn, Own, IsRightBy}
use Rattle.one_copy_model.proofs.Counts.{still}
use Rattle.one_copy_model.proofs.Turning.{facts_of, live_there}
use Rattle.one_copy_model.proofs.Landing.{places_none}
use Rattle.one_copy_model.proofs.Quiet.{real, quiet_holds}
use Rattle.pool_base.specs.declared.backend_id.BackendId.{BackendId}
use Rattle.one_copy_model.specs.Chains.{IsInOrder}
use Rattle.one_copy_model.specs.Invariant.{inserted_in}
use Rattle.one_copy_model.proofs.Quiet.{stands_silent}
use Rattle.one_copy_model.proofs.Calm.{free_of, is_waiting}
use Rattle.one_copy_model.proofs.Finding.{nobody_attached}
use Rattle.one_copy_laws.proofs.GateCalling.{called_to, lands_call, seen_view, right_moves}
use Rattle.one_copy_laws.proofs.GateGoing.{none_lives}
use Rattle.session_machine.specs.Codes.{no_backend}
use Rattle.session_machine.specs.Rules.{released, stranded, failing, error_of}
use Rattle.one_copy_model.specs.Orders.{IsClassedIn, reply_of_stage}
use Rattle.session_machine.specs.Rules.{request_of}
use Rattle.one_copy_model.specs.Chains.{AreBelow}
use Rattle.one_copy_laws.proofs.ChainsChaining.{chain_own, stand_same, inserts_same}
use Rattle.std.specs.Prelude.{not}
use Rattle.session_machine.specs.Answers.{lowest, is_attached, has_answered, is_open, first_open, next_of}
use Rattle.session_machine.specs.Rules.{kind_of, asked, looked_at, stranded_in}
use Rattle.one_copy_model.specs.Chains.{goes_up}
use Rattle.one_copy_model.specs.Places.{closing_look, closing_at, closing_chain, where_decided, where_refused, at_granted, refused_look}
use Rattle.one_copy_model.proofs.Finding.{is_found}
use Rattle.one_copy_model.proofs.Livings.{and_true}
use Rattle.one_copy_laws.proofs.GateStranding.{released_point, released_is, strands, right_nobody}
use Rattle.one_copy_model.specs.Orders.{reply_of}
use Rattle.one_copy_laws.proofs.ChainsChaining.{class_in, reply_is, unlisted_in}
use Rattle.one_copy_laws.proofs.LooksShowing.{seen_is}
use Rattle.one_copy_laws.proofs.LooksNexts.{below_by, open_of, looked_is, closing_is, next_above, next_below}

in_commit_is : (phase : GatePhase) → in_commit phase ≡ true → phase ≡ phases.InCommit
in_commit_is phases.InCommit e = refl
in_commit_is phases.Out e = absurd (cc)
in_commit_is phases.InSnapshot e = absurd (cc)
in_commit_is (phases.Live changed written) e = absurd (cc)

module _ (t : Tracked) (h : Invariant t) (s : SessionId) (view : View) (seen : view ≡ view_of t.world.gate) (stage : Stage) (at : (t.world.machine s.number).point ≡ LookDue stage) where
  abbrev m : Machine
  m = t.world.machine s.number

  abbrev attached : ℕ
  attached = t.world.gate.attached.bits

  abbrev mail : ℕ → Option Answer
  mail = t.world.mail s.number

  abbrev looks : Session
  looks = with_view m.session view

  abbrev Looked_to : Machine → Type 0
  Looked_to n = Invariant (called_to t s calls.Look (Seen view) t.world.gate n t.history (t.orders s.number) (t.done s.number))

  pub awake : m.point ≡ Resting → ⊥
  awake rest = let z : LookDue stage ≡ Resting = sym at ∙ rest in cc

  free : is_waiting m.point ≡ false
  free = ap is_waiting at

  pub old : Own t.world.tables attached t.history t.world.store m mail (t.orders s.number) (t.done s.number) (live_there t s.number) s.number
  old = (facts_of t h).own s.number

  pub seen_bits : view.attached.bits ≡ attached
  seen_bits = ap (λ (v : View). v.attached.bits) seen

  -- the next backend is asked
  module _ (up : goes_up stage ≡ true) (b : BackendId) (next : next_of (kind_of stage) attached m.session.heard ≡ Some b) where
    abbrev n : Machine
    n = due looks (PostDue stage b)

    order : IsInOrder attached m stage
    order = old.in_order stage (ap stage_at at)

    open_b : first_open attached m.session.heard ≡ Some b
    open_b = open_of (kind_of stage) attached m.session.heard (Some b) b next

    asks_order : IsInOrder attached n stage
    asks_order = record {
      rising = order.rising;
      above = λ c e. subst (λ k. AreBelow k m.session.heard) (let z : Some b.number ≡ Some c = e in let same : b.number ≡ c = cc in same) (below_by b.number m.session.heard (next_above attached m stage h.few up order b open_b));
      below = λ c d climbs here under_it told. elim told [
        | inl e ↦ next_below attached m stage h.few up order b open_b c here (subst (λ k. c < k) (let z : Some b.number ≡ Some d = e in let same : d ≡ b.number = cc in same) under_it)
        | inr e ↦ order.below c d climbs here under_it (inr e)
      ];
      one = λ single. absurd (let z : true ≡ false = sym up ∙ single in cc);
    }

    asks_own : Own t.world.tables attached t.history t.world.store n mail (t.orders s.number) (t.done s.number) (live_there t s.number) s.number
    asks_own =
        chain_own t.world.tables attached t.history t.world.store m mail mail (t.orders s.number) (t.done s.number) (live_there t s.number) s.number (real s) old n stage (ap stage_at at) refl refl refl (λ c. refl)
        (λ c p sound e. absurd (let line = old.asked c p sound e in free_of m.point free line.stage line.at line.waits))
        old.untold
        (λ c answer e. absurd (let line = (old.answer c answer e).1 in free_of m.point free line.stage line.at line.waits))
        asks_order
        (λ x best own among onward e. absurd (let z : PostDue stage b ≡ SplitDue x best own among onward = e in cc))
        (λ c cause e. absurd (let z : actions.Post b (request_of stage) ≡ actions.Detach c cause = e in cc))
        (λ answer kept any. absurd kept)

    asks_on : Looked_to n
    asks_on =
        quiet_holds t h s n t.world.gate (t.orders s.number) (t.done s.number) refl
        (still t.world.gate t.world.machine m.session.gate m.session.gate refl (facts_of t h).counts)
        (stands_silent t.world.tables attached t.history m n mail mail
        (λ c here. stand_same t.world.tables attached t.history t.world.store m mail mail (t.orders s.number) (t.done s.number) (live_there t s.number) s.number (real s) old n stage (ap stage_at at) refl refl refl (λ c. refl) c)
        (λ c here. ap (λ x. inserted_in x (told_by m mail c)) (ap stage_at at)) (inserts_same m n stage (ap stage_at at) refl) (λ e. e))
        asks_own

    next_seen : next_of (kind_of stage) view.attached.bits m.session.heard ≡ Some b
    next_seen = ap (λ k. next_of (kind_of stage) k m.session.heard) seen_bits ∙ next

    chain_none : closing_at looks stage ≡ None
    chain_none = closing_is looks stage up ∙ ap (closing_chain looks) next_seen

    look_none : (p : Option BackendId) → closing_look looks stage p ≡ None
    look_none None = refl
    look_none (Some first) = chain_none

    refused_none : (x : Stage) → x ≡ stage → refused_look looks (LookDue x) ≡ []
    refused_none (Opening work) e = ap where_refused (ap (λ y. closing_look looks y (primary looks)) e ∙ look_none (primary looks))
    refused_none (Reading work ticket) e = refl
    refused_none (Running work) e = refl
    refused_none (Locking work table) e = refl
    refused_none (Inserting work posted) e = refl
    refused_none Committing e = refl
    refused_none Closing e = refl
    refused_none (RollingBack ending) e = refl

    -- the primary is there, since the next is attached
    goes_to : (p : Option BackendId) → lowest view.attached.bits ≡ p → looked_at looks stage p ≡ n
    unfolding asked
    goes_to None e = absurd (nobody_attached attached h.few (ap lowest (sym seen_bits) ∙ e) b.number (and_true (has attached b.number) (not (has_answered m.session.heard b)) (is_found (is_open attached m.session.heard) b open_b)).0)
    goes_to (Some first) e = looked_is looks stage up ∙ ap (asked looks stage) next_seen

    pub look_goes_on : Invariant (tracked_after t (Of s (Called calls.Look (Seen view))))
    unfolding called granted asked
    look_goes_on =
        lands_call t s calls.Look (Seen view) t.world.gate n t.history (t.orders s.number) (t.done s.number) refl refl
        (ap (granted looks) at ∙ goes_to (lowest view.attached.bits) refl)
        (places_none (live_there t s.number) t.world s.number m (Called calls.Look (Seen view)) t.history
        (ap (at_granted looks) at ∙ ap (where_decided stage) (look_none (primary looks))) refl
        (ap (refused_look looks) at ∙ refused_none stage refl))
        refl refl asks_on

  -- no backend is there
  module _ (none : (b : ℕ) → IsIn attached b → ⊥) where
    dead : live_there t s.number ≡ false
    dead = none_lives t h s.number none

    strands_to : (session : Session) (ending : MachineEnding) → session.gate ≡ m.session.gate → ends_listing ending ≡ false
        → ((told : Told) (outcome : Outcome) → t.orders s.number ≡ Some told → reply_of ending ≡ Some outcome
        → IsRightBy attached (due session (released_point session.gate ending)) (live_there t s.number) s.number t.history told outcome)
        → Looked_to (released session session.gate ending)
    strands_to session ending gate unlisted right =
        subst Looked_to (sym (released_is session session.gate ending))
        (strands t h s session t.world.gate ending free awake none unlisted right refl
        (still t.world.gate t.world.machine m.session.gate session.gate gate (facts_of t h).counts) (λ x. ap in_commit (sym gate) ∙ x))

    strands_plain : Looked_to (stranded looks)
    strands_plain = strands_to (failing looks) (Replies (error_of no_backend)) refl refl (λ told outcome f r. right_nobody attached _ (live_there t s.number) s.number t.history told outcome none dead r)

    commit_phase : stage ≡ Committing → m.session.gate ≡ phases.InCommit
    commit_phase is = in_commit_is m.session.gate (subst (λ (x : Stage). FitsPoint (Some x) (LookDue x) m.session.gate) is (subst (λ (p : Point). FitsPoint (stage_at p) p m.session.gate) at (h.inside s.number)))

    strands_in : (x : Stage) → stage ≡ x → Looked_to (stranded_in looks x)
    strands_in Committing is =
        subst Looked_to (ap (λ g. due looks (released_point g EndsWith)) (commit_phase is))
        (subst Looked_to (released_is looks m.session.gate EndsWith)
        (strands_to looks EndsWith refl refl (λ told outcome f r. absurd (let z : None ≡ Some outcome = r in cc))))
    strands_in (RollingBack ending) is =
        let unlisted : ends_listing ending ≡ false = subst (IsClassedIn t.world.tables) is (class_in t.world.tables m.point stage (ap stage_at at) (h.classed s.number)) in
        strands_to looks ending refl unlisted
        (λ told outcome f r. right_moves attached m _ (live_there t s.number) s.number t.history told outcome (unlisted_in t.world.tables (RollingBack ending) outcome unlisted r)
        (old.replies told outcome f (reply_is m.point stage (ap stage_at at) ∙ ap reply_of_stage is ∙ r)))
    strands_in (Opening work) is = strands_plain
    strands_in (Reading work ticket) is = strands_plain
    strands_in (Running work) is = strands_plain
    strands_in (Locking work table) is = strands_plain
    strands_in (Inserting work posted) is = strands_plain
    strands_in Closing is = strands_plain

    lowest_none : (p : Option BackendId) → lowest view.attached.bits ≡ p → lowest view.attached.bits ≡ None
    lowest_none None e = e
    lowest_none (Some b) e = absurd (none b.number (is_found (is_attached attached) b (ap lowest (sym seen_bits) ∙ e)))

    pub look_strands : Invariant (tracked_after t (Of s (Called calls.Look (Seen view))))
    unfolding called granted
    look_strands =
        let empty : lowest view.attached.bits ≡ None = lowest_none (lowest view.attached.bits) refl in
        lands_call t s calls.Look (Seen view) t.world.gate (stranded_in looks stage) t.history (t.orders s.number) (t.done s.number) refl refl
        (ap (granted looks) at ∙ ap (looked_at looks stage) empty)
        (places_none (live_there t s.number) t.world s.number m (Called calls.Look (Seen view)) t.history
        (ap (at_granted looks) at ∙ ap (λ p. where_decided stage (closing_look looks stage p)) empty) refl
        (ap (refused_look looks) at ∙ refused_empty stage empty))
        refl refl (strands_in stage refl)
      where
        refused_empty : (x : Stage) → lowest view.attached.bits ≡ None → refused_look looks (LookDue x) ≡ []
        refused_empty (Opening work) e = ap (λ p. where_refused (closing_look looks (Opening work) p)) e
        refused_empty (Reading work ticket) e = refl
        refused_empty (Running work) e = refl
        refused_empty (Locking work table) e = refl
        refused_empty (Inserting work posted) e = refl
        refused_empty Committing e = refl
        refused_empty Closing e = refl
        refused_empty (RollingBack ending) e = refl

pub goes_on_kept : (t : Tracked) (s : SessionId) (answer : GateAnswer) (stage : Stage) (b : BackendId) → Invariant t → (t.world.machine s.number).point ≡ LookDue stage → goes_up stage ≡ true
    → next_of (kind_of stage) t.world.gate.attached.bits (t.world.machine s.number).session.heard ≡ Some b
    → MayHappen t.world (Of s (Called calls.Look answer)) → Invariant (tracked_after t (Of s (Called calls.Look answer)))
goes_on_kept t s answer stage b h at up next may =
    let v = seen_view answer may.0.1 in
    subst (λ (a : GateAnswer). Invariant (tracked_after t (Of s (Called calls.Look a)))) (sym v.1)
    (look_goes_on t h s v.0 (seen_is (view_of t.world.gate) v.0 (may.1.1 ∙ v.1)) stage at up b next)

pub strands_kept : (t : Tracked) (s : SessionId) (answer : GateAnswer) (stage : Stage) → Invariant t → (t.world.machine s.number).point ≡ LookDue stage
    → ((b : ℕ) → has t.world.gate.attached.bits b ≡ true → ⊥)
    → MayHappen t.world (Of s (Called calls.Look answer)) → Invariant (tracked_after t (Of s (Called calls.Look answer)))
strands_kept t s answer stage h at none may =
    let v = seen_view answer may.0.1 in
    subst (λ (a : GateAnswer). Invariant (tracked_after t (Of s (Called calls.Look a)))) (sym v.1)
    (look_strands t h s v.0 (seen_is (view_of t.world.gate) v.0 (may.1.1 ∙ v.1)) stage at none)
