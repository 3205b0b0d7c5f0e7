-- A Look of a read that chooses its backend: there is one where one is attached.
use Rattle.std.proofs.Common.{◌≡◌, ℕ, ◌+◌, ◌<◌, ◌≤◌, Bool, true, false, List, [], refl, sym, ap, ◌∙◌, subst, arith}
use Rattle.std.specs.Prelude.{Option, Some, None, if◌then◌else◌}
use Rattle.pool_base.specs.Sets.{has}
use Rattle.pool_base.specs.declared.session_id.SessionId.{SessionId}
use Rattle.pool_base.specs.declared.gate_call.View.{View}
use Rattle.pool_base.specs.declared.gate_call.GateCall.TheVariants as calls
use Rattle.pool_base.specs.declared.gate_call.GateAnswer.{GateAnswer}
use Rattle.pool_base.specs.declared.gate_call.GateAnswer.TheVariants.{Seen}
use Rattle.backend_trait.specs.declared.answer.Answer.{Answer}
use Rattle.snapshot_gate.specs.Function.{view_of}
use Rattle.session_machine.specs.declared.action.SessionEvent.TheVariants.{Called}
use Rattle.session_machine.specs.declared.work.Work.{Work}
use Rattle.session_machine.specs.declared.machine.GatePhase.{GatePhase}
use Rattle.session_machine.specs.declared.machine.GatePhase.TheVariants as phases
use Rattle.session_machine.specs.declared.machine.Machine.{Machine}
use Rattle.session_machine.specs.declared.machine.Session.{Session}
use Rattle.session_machine.specs.declared.machine.Ending.TheVariants.{Replies}
use Rattle.session_machine.specs.declared.machine.Stage.{Stage}
use Rattle.session_machine.specs.declared.machine.Stage.TheVariants.{Reading}
use Rattle.session_machine.specs.declared.machine.Point.{Point}
use Rattle.session_machine.specs.declared.machine.Point.TheVariants.{Resting, PostDue, ChooseDue}
use Rattle.session_machine.specs.Rules.{due, called, granted, with_view, primary}
use Rattle.one_copy_model.specs.declared.event.Event.TheVariants.{Of}
use Rattle.one_copy_model.specs.World.{MayHappen}
use Rattle.one_copy_model.specs.Places.{place_of, refused_opening}
use Rattle.one_copy_model.specs.Deaths.{stage_at}
use Rattle.one_copy_model.specs.Tracking.{Tracked, tracked_after}
use Rattle.one_copy_model.specs.Orders.{OrderAt, IsClassedAt}
use Rattle.one_copy_model.specs.Standing.{standing_in, Ahead, Leaving, standing_by, standing_open}
use Rattle.one_copy_model.specs.Invariant.{Invariant, FitsPoint, where_live, wants_of}
use Rattle.one_copy_model.specs.Own.{told_by, stand, IsIn}
use Rattle.one_copy_model.proofs.Counts.{still}
use Rattle.one_copy_model.proofs.Turning.{facts_of, live_there}
use Rattle.one_copy_model.proofs.Landing.{places_none}
use Rattle.one_copy_model.proofs.Quiet.{real}
use Rattle.pool_base.specs.declared.backend_id.BackendId.{BackendId}
use Rattle.one_copy_model.specs.Chains.{IsInOrder}
use Rattle.one_copy_model.specs.Invariant.{inserted_in}
use Rattle.one_copy_model.proofs.Calm.{free_of, is_waiting}
use Rattle.one_copy_model.proofs.Beginning.{none_told}
use Rattle.one_copy_model.proofs.Finding.{nobody_attached}
use Rattle.one_copy_laws.proofs.GateCalling.{called_to, lands_call, seen_view}
use Rattle.one_copy_laws.proofs.GateGoing.{goes_on, none_lives}
use Rattle.session_machine.specs.Codes.{no_backend}
use Rattle.session_machine.specs.Rules.{stranded, failing, error_of}
use Rattle.std.specs.Prelude.{find, ◌&&◌}
use Rattle.session_machine.specs.Answers.{lowest, all_backends}
use Rattle.one_copy_laws.proofs.GateStranding.{released_is, strands, right_nobody}
use Rattle.one_copy_laws.proofs.LooksShowing.{seen_is}
use Rattle.one_copy_laws.proofs.GateGoing.{goes_on}
use Rattle.one_copy_model.proofs.Finding.{none_found}
use Rattle.read_balance.specs.Picking.{weight_below, weight_of_all}
use Rattle.session_machine.specs.declared.machine.ReadPolicy.{ReadPolicy}
use Rattle.session_machine.specs.Answers.{is_turn, turn_of, reader_among, reader}
use Rattle.session_machine.specs.Rules.{first_chosen, reading_at, counted_read, ticket_of}
use Rattle.std.specs.Prelude.{nat_lt, ◌%◌, get_or}
use Rattle.std.proofs.Common.{ltb-false, mod-lt, zero, suc}
use Rattle.one_copy_model.specs.Standing.{same as as_there}
use Rattle.one_copy_laws.proofs.ChainsChaining.{order_moves}

under_one : (here : Bool) (rest below weight : ℕ) → below ≤ rest → (here && nat_lt rest (below + (if here then weight else 0))) ≡ false → below + (if here then weight else 0) ≤ rest
under_one true rest below weight less e = ltb-false rest (below + weight) e
under_one false rest below weight less e = (let z : below + 0 ≤ rest = omega (arith, less) in z)

all_under : (weights : List ℕ) (attached rest : ℕ) → find (is_turn weights attached rest) all_backends ≡ None → (k : ℕ) → k ≤ 8 → weight_below weights attached k ≤ rest
all_under weights attached rest none zero most = omega arith
all_under weights attached rest none (suc k) most =
    under_one (has attached k) rest (weight_below weights attached k) (get_or weights k 0)
    (all_under weights attached rest none k (let z : k ≤ 8 = omega (arith, most) in z))
    (none_found (is_turn weights attached rest) none (record { number = k; below_8 = (let z : k < 8 = omega (arith, most) in z) }))

turn_at : (weights : List ℕ) (attached ticket total : ℕ) (primary : BackendId) → weight_of_all weights attached ≡ total → (found : Option BackendId) → turn_of weights attached ticket total primary ≡ found → (b : BackendId) × (found ≡ Some b)
turn_at weights attached ticket zero primary is found e = (primary, sym e)
turn_at weights attached ticket (suc more) primary is (Some b) e = (b, refl)
turn_at weights attached ticket (suc more) primary is None e =
    let most : weight_of_all weights attached ≤ ticket % suc more = all_under weights attached (ticket % suc more) e 8 (omega arith) in
    let less : ticket % suc more < suc more = mod-lt ticket (omega arith) in
    absurd (let total : weight_of_all weights attached ≡ suc more = is in omega (arith, most, less, total))

pub reader_some : (policy : ReadPolicy) (attached ticket : ℕ) (primary : BackendId) → lowest attached ≡ Some primary → (b : BackendId) × (reader policy attached ticket ≡ Some b)
reader_some policy attached ticket primary e =
    let r = by policy.balance in
    (r.0, ap (reader_among policy attached ticket) e ∙ r.1)
  where
    by : (v : Bool) → (b : BackendId) × ((if v then turn_of policy.weights attached ticket (weight_of_all policy.weights attached) primary else Some primary) ≡ Some b)
    by true = let r = turn_at policy.weights attached ticket (weight_of_all policy.weights attached) primary refl (turn_of policy.weights attached ticket (weight_of_all policy.weights attached) primary) refl in (r.0, r.1)
    by false = (primary, refl)

choose_fits : (phase : GatePhase) (work : Work) (ticket : ℕ) → FitsPoint None (ChooseDue work) phase → (changed : Bool) × (written : ℕ) × (phase ≡ phases.Live changed written)
choose_fits (phases.Live changed written) work ticket e = (changed, written, refl)
choose_fits phases.Out work ticket e = absurd (cc)
choose_fits phases.InSnapshot work ticket e = absurd (cc)
choose_fits phases.InCommit work ticket e = absurd (cc)

module _ (t : Tracked) (h : Invariant t) (s : SessionId) (view : View) (seen : view ≡ view_of t.world.gate) (work : Work) (at : (t.world.machine s.number).point ≡ ChooseDue work) where
  abbrev m : Machine
  m = t.world.machine s.number

  abbrev attached : ℕ
  attached = t.world.gate.attached.bits

  abbrev mail : ℕ → Option Answer
  mail = t.world.mail s.number

  abbrev looks : Session
  looks = with_view m.session view

  abbrev Looked_to : Machine → Type 0
  Looked_to n = Invariant (called_to t s calls.Look (Seen view) t.world.gate n t.history (t.orders s.number) (t.done s.number))

  awake_at : m.point ≡ Resting → ⊥
  awake_at rest = let z : ChooseDue work ≡ Resting = sym at ∙ rest in cc

  seen_at : view.attached.bits ≡ attached
  seen_at = ap (λ (v : View). v.attached.bits) seen

  strands_at : lowest attached ≡ None → Looked_to (stranded looks)
  strands_at e =
      let none : (b : ℕ) → IsIn attached b → ⊥ = nobody_attached attached h.few e in
      subst Looked_to (sym (released_is (failing looks) m.session.gate (Replies (error_of no_backend))))
      (strands t h s (failing looks) t.world.gate (Replies (error_of no_backend)) (ap is_waiting at) awake_at none refl
      (λ told outcome f r. right_nobody attached _ (live_there t s.number) s.number t.history told outcome none (none_lives t h s.number none) r)
      refl (still t.world.gate t.world.machine m.session.gate m.session.gate refl (facts_of t h).counts) (λ x. x))

  module _ (b : BackendId) (turn : ℕ) where
    abbrev n : Machine
    n = due (record (counted_read looks) { heard = [] }) (PostDue (Reading work turn) b)

    phase : (changed : Bool) × (written : ℕ) × (m.session.gate ≡ phases.Live changed written)
    phase = choose_fits m.session.gate work turn (subst (λ (p : Point). FitsPoint (stage_at p) p m.session.gate) at (h.inside s.number))

    live_phase : m.session.gate ≡ phases.Live (let p = phase in p.0) (let p = phase in p.1)
    live_phase = let p = phase in p.2

    untold : (c : ℕ) → told_by n mail c ≡ None
    untold = none_told t.world.tables attached t.history t.history t.world.store m mail (t.orders s.number) (t.done s.number) (live_there t s.number) s.number (real s) (free_of m.point (ap is_waiting at)) ((facts_of t h).own s.number) n refl

    as_was : (c : ℕ) → stand m mail c ≡ as_there
    as_was c = ap (λ (p : Point). standing_by m.session.gate p (stage_at p) (told_by m mail c)) at ∙ ap standing_open (live_phase)

    read_order : (stage : Stage) → stage_at n.point ≡ Some stage → IsInOrder attached n stage
    read_order stage e = subst (IsInOrder attached n) (let z : Some (Reading work turn) ≡ Some stage = e in let same : Reading work turn ≡ stage = cc in same)
        (record { rising = tt; above = λ c e. tt; below = λ c d up here under_it told. absurd (let z : false ≡ true = up in cc); one = λ single. refl })

    pub reads_on : Looked_to n
    reads_on =
        goes_on t h s n t.world.gate (ap is_waiting at) awake_at refl
        (λ c stage here e. untold c)
        (subst (FitsPoint (Some (Reading work turn)) n.point) (sym live_phase) refl)
        (subst (IsClassedAt t.world.tables) at (h.classed s.number))
        read_order
        (λ c here. ap (standing_in (Reading work turn)) (untold c) ∙ sym (as_was c))
        (λ c here e. let z : Ahead [] ≡ Leaving = sym (as_was c) ∙ e in cc)
        (λ u written e alive. h.unchanged s.number u written e alive)
        (h.posts s.number ∙ ap (λ (p : Point). where_live (live_there t s.number) (wants_of p (stage_at p))) at)
        (λ told outcome e f. absurd (let z : None ≡ Some outcome = f in cc))
        (λ is. is)
        (λ told e. order_moves m.session n.session (Reading work turn) told refl (subst (λ (p : Point). OrderAt m.session p told) at (h.order_is s.number told e)))
        refl refl (still t.world.gate t.world.machine m.session.gate m.session.gate refl (facts_of t h).counts) (λ x. x)
        (λ c here. ap (λ (p : Point). inserted_in (stage_at p) (told_by m mail c)) at)
        refl

  chooses : (p : Option BackendId) → lowest attached ≡ p → Looked_to (first_chosen looks work p)
  chooses None e = strands_at e
  chooses (Some primary) e =
      let r = reader_some looks.policy attached (ticket_of looks looks.policy.per_statement) primary e in
      subst Looked_to (sym (ap (λ k. reading_at (counted_read looks) work (ticket_of looks looks.policy.per_statement) (reader looks.policy k (ticket_of looks looks.policy.per_statement))) seen_at
      ∙ ap (reading_at (counted_read looks) work (ticket_of looks looks.policy.per_statement)) r.1))
      (reads_on r.0 (ticket_of looks looks.policy.per_statement))

  pub choose_looked : Invariant (tracked_after t (Of s (Called calls.Look (Seen view))))
  unfolding called granted
  choose_looked =
      lands_call t s calls.Look (Seen view) t.world.gate (first_chosen looks work (lowest attached)) t.history (t.orders s.number) (t.done s.number) refl refl
      (ap (granted looks) at ∙ ap (λ k. first_chosen looks work (lowest k)) seen_at)
      (places_none (live_there t s.number) t.world s.number m (Called calls.Look (Seen view)) t.history
      (ap (λ (p : Point). place_of m.session p (Called calls.Look (Seen view))) at) refl
      (ap (λ (p : Point). refused_opening m.session p (Called calls.Look (Seen view))) at))
      refl refl (chooses (lowest attached) refl)

pub chosen_kept : (t : Tracked) (s : SessionId) (answer : GateAnswer) (work : Work) → Invariant t → (t.world.machine s.number).point ≡ ChooseDue work → MayHappen t.world (Of s (Called calls.Look answer)) → Invariant (tracked_after t (Of s (Called calls.Look answer)))
chosen_kept t s answer work h at may =
    let v = seen_view answer may.0.1 in
    subst (λ (a : GateAnswer). Invariant (tracked_after t (Of s (Called calls.Look a)))) (sym v.1)
    (choose_looked t h s v.0 (seen_is (view_of t.world.gate) v.0 (may.1.1 ∙ v.1)) work at)
