-- The law of a Look at the end of the chain of an opening: it is granted, or refused, where no answers differ.
use Rattle.std.proofs.Common.{◌≡◌, ℕ, suc, ◌-◌, ◌<◌, ◌≤◌, Bool, true, false, List, [], ◌∷◌, length, take, refl, sym, ap, ◌∙◌, subst, arith, inl, inr}
use Rattle.std.specs.Prelude.{◌==◌, ◌&&◌, not, nat_le, Option, Some, None, is_some, find, cond, if◌then◌else◌}
use Rattle.std.proofs.lemmas.Bool.Decides.{leb_tells, eqb_tells}
use Rattle.pool_base.specs.Sets.{has}
use Rattle.pool_base.specs.declared.code.Code.{Code}
use Rattle.pool_base.specs.declared.session_id.SessionId.{SessionId}
use Rattle.pool_base.specs.declared.backend_id.BackendId.{BackendId}
use Rattle.pool_base.specs.declared.gate_call.View.{View}
use Rattle.pool_base.specs.declared.gate_call.GateCall.TheVariants as calls
use Rattle.pool_base.specs.declared.gate_call.GateAnswer.{GateAnswer}
use Rattle.pool_base.specs.declared.gate_call.GateAnswer.TheVariants.{Seen}
use Rattle.schema.specs.declared.catalogue.TableDef.{TableDef}
use Rattle.backend_trait.specs.declared.request.Request.TheVariants as requests
use Rattle.backend_trait.specs.declared.answer.Answer.{Answer}
use Rattle.backend_trait.specs.declared.answer.Answer.TheVariants as answers
use Rattle.backend_trait.specs.Acts.{MayAnswer, WhereSome, IsOf, IsOutOfMemory}
use Rattle.backend_trait.specs.Store.{Absent, Pending, Store, settled, is_refusal, request_in as waiting_in}
use Rattle.snapshot_gate.specs.Function.{view_of}
use Rattle.session_machine.specs.declared.action.SessionEvent.{SessionEvent}
use Rattle.session_machine.specs.declared.action.SessionEvent.TheVariants.{Called}
use Rattle.session_machine.specs.declared.work.Work.{Work}
use Rattle.session_orders.specs.declared.outcome.Outcome.{Outcome}
use Rattle.session_machine.specs.declared.machine.GatePhase.{GatePhase}
use Rattle.session_machine.specs.declared.machine.GatePhase.TheVariants as phases
use Rattle.session_machine.specs.declared.machine.Heard.{Heard}
use Rattle.session_machine.specs.declared.machine.Machine.{Machine}
use Rattle.session_machine.specs.declared.machine.Session.{Session}
use Rattle.session_machine.specs.declared.machine.Ending.TheVariants.{Replies}
use Rattle.session_machine.specs.declared.machine.Stage.{Stage}
use Rattle.session_machine.specs.declared.machine.Stage.TheVariants.{Opening, RollingBack}
use Rattle.session_machine.specs.declared.machine.Point.{Point}
use Rattle.session_machine.specs.declared.machine.Point.TheVariants.{Resting, LookDue, PostDue, LeaveSnapshotDue}
use Rattle.session_machine.specs.Answers.{goes_on as chain_goes_on, lowest, is_attached, has_answered, is_open, first_open, kept, first_other, is_same, is_other, is_kept, is_largest, group_size, counts}
use Rattle.session_machine.specs.Rules.{due, called, granted, with_view, primary, asked, looked_at, judged, split, decided, closed, refused_at, begun_at, failing, error_of}
use Rattle.one_copy_model.specs.declared.deed.Deed.TheVariants.{Asks, Falls}
use Rattle.one_copy_model.specs.declared.deed.Entry.{Entry}
use Rattle.one_copy_model.specs.declared.event.Event.TheVariants.{Of}
use Rattle.one_copy_model.specs.Marks.{with_mark, marked}
use Rattle.backend_trait.specs.Acting.{drawn_waiting}
use Rattle.one_copy_model.specs.SingleRun.{store_after, after_death, IsRun, of_session, deeds_of, deeds_since, answer_in}
use Rattle.one_copy_model.specs.World.{World, MayHappen}
use Rattle.one_copy_model.specs.Places.{at_granted, place_of, opening_of, refused_opening, refused_look, where_decided, where_refused, code_in, closing_look, closing_chain, one_kept, kept_of, decided_opening}
use Rattle.one_copy_model.specs.Deaths.{is_live, is_alive, recorded, stage_at, heard_from, mail_or}
use Rattle.one_copy_model.specs.Tracking.{Told, Tracked, placed, opened_if, with_code, tracked_after, in_commit}
use Rattle.one_copy_model.specs.Chains.{IsInOrder, has_told}
use Rattle.one_copy_model.specs.Orders.{OrderAt, IsStatement, IsClassedAt, is_of_commit}
use Rattle.session_machine.specs.Classes.{class_in as own_class}
use Rattle.one_copy_model.specs.Replies.{reply_to, statement_reply}
use Rattle.one_copy_model.specs.Standing.{Standing, Fresh, Fallen, Ahead, Leaving, Ending, Stands, standing_in, standing_by, leaving_of}
use Rattle.one_copy_model.specs.Invariant.{Invariant, FitsPoint, in_snapshot, where_live, wants_of, request_in, inserted_in}
use Rattle.one_copy_model.specs.Own.{told_by, stand, IsIn, Own}
use Rattle.one_copy_model.proofs.Places.{with_at-same, with_at-other}
use Rattle.one_copy_model.proofs.Counts.{still}
use Rattle.one_copy_model.proofs.Passing.{passes_trans}
use Rattle.one_copy_model.proofs.Turning.{facts_of, live_there}
use Rattle.one_copy_model.proofs.Landing.{places_none, same_mail}
use Rattle.one_copy_model.proofs.Calm.{free_of, is_waiting}
use Rattle.one_copy_model.proofs.Quiet.{real}
use Rattle.one_copy_model.proofs.Deeds.{entry, deed_passes}
use Rattle.one_copy_model.proofs.Endings.{Ends, asked as asked_there, asked_passes, waits}
use Rattle.one_copy_model.proofs.Ending.{IsAside, ends_holds}
use Rattle.one_copy_model.proofs.Beginning.{free_own, no_mail}
use Rattle.one_copy_model.proofs.Livings.{not_live, clear_dead, absent, and_true}
use Rattle.one_copy_model.proofs.Finding.{none_found, least_found, one_of_eight}
use Rattle.one_copy_laws.proofs.GateCalling.{called_to, lands_call, seen_view}
use Rattle.one_copy_laws.proofs.GateFinishing.{under_way}
use Rattle.one_copy_laws.proofs.GateGoing.{goes_on}
use Rattle.one_copy_laws.proofs.LooksNexts.{answered_is, closed_is}
use Rattle.one_copy_laws.proofs.LooksEndings.{IsAmong, found_among, among_heard, told_is, same_test, and_none}
use Rattle.one_copy_laws.proofs.LooksShowing.{seen_is}
use Rattle.one_copy_laws.proofs.LooksLooking.{strands_kept}
use Rattle.one_copy_model.proofs.Finding.{nobody_attached}

-- a refused opening: it is asked for, and the session falls with the code
abbrev pub refuses_to : (tables : List TableDef) → ℕ → List Entry → Code → List Entry
refuses_to tables s h code = entry s (Falls (Some code)) ∷ asked_there tables s h requests.TakeSnapshot

pub refuses_ends : (tables : List TableDef) → (s : ℕ) (h : List Entry) (code : Code) → IsOutOfMemory code → (store_after tables h).transaction s ≡ Absent → (store_after tables h).pending s ≡ None → IsRun tables h → Ends tables s h (refuses_to tables s h code)
refuses_ends tables s h code memory none clear run =
    let first : List Entry = asked_there tables s h requests.TakeSnapshot in
    let x : Store = settled (store_after tables first) s Absent in
    let falls : after_death (store_after tables first) s ≡ x = ap (λ (p : Option Pending). record x { next = drawn_waiting (store_after tables first).tables (store_after tables first).next (waiting_in p) }) (waits tables s h requests.TakeSnapshot) in
    record {
      passes = λ o other. passes_trans tables o h first (refuses_to tables s h code) (asked_passes tables s h requests.TakeSnapshot o other)
          (deed_passes tables s o other (Falls (Some code)) first x (ap marked falls) refl refl
          (with_at-other (store_after tables h).transaction s Absent o other)
          (with_at-other (store_after tables first).pending s None o other));
      rows = ap (λ (y : Store). y.rows) falls;
      next = ap (λ (y : Store). y.next) falls;
      none = ap (λ (y : Store). y.transaction s) falls ∙ with_at-same (store_after tables h).transaction s Absent;
      clear = ap (λ (y : Store). with_mark y s (y.pending s)) falls ∙ ap (with_mark x s) (with_at-same (store_after tables first).pending s None);
      run = (subst (λ (p : Option Pending). WhereSome p (λ q. MayAnswer (store_after tables first) s q (answers.Refused code))) (sym (waits tables s h requests.TakeSnapshot)) memory, ((none, clear), run));
      longer = (let z : length h ≤ length (refuses_to tables s h code) = omega arith in z);
    }

-- it is what the single run answers
pub answers_code : (tables : List TableDef) → (s n : ℕ) (h : List Entry) (code : Code) → n ≤ length h → answer_in (deeds_since s n (refuses_to tables s h code)) ≡ Some (answers.Refused code)
answers_code tables s n h code most =
    let first : List Entry = asked_there tables s h requests.TakeSnapshot in
    let more : suc (length first) - n ≡ suc (length first - n) = omega (arith, most) in
    ap (λ k. answer_in (deeds_of s (take k (refuses_to tables s h code)))) more
    ∙ ap (λ b. answer_in (of_session b (Falls (Some code)) (deeds_of s (take (length first - n) first)))) (same_test s)

-- who has answered is among those that are heard
pub heard_among : (xs : List Heard) (b : ℕ) (answer : Answer) → heard_from xs b ≡ Some answer → (x : Heard) × IsAmong x xs × (x.b.number ≡ b) × (x.answer ≡ answer)
heard_among [] b answer e = absurd (let z : None ≡ Some answer = e in cc)
heard_among (x ∷ xs) b answer e = by (x.b.number == b) refl (heard_among xs b answer) e
  where
    same_number : (v : Bool) → (x.b.number == b) ≡ v → v ≡ true → x.b.number ≡ b
    same_number v is e = elim (eqb_tells x.b.number b) [ inl p ↦ p.1 | inr p ↦ absurd (let z : false ≡ true = sym p.0 ∙ is ∙ e in cc) ]

    by : (v : Bool) → (x.b.number == b) ≡ v → (heard_from xs b ≡ Some answer → (y : Heard) × IsAmong y xs × (y.b.number ≡ b) × (y.answer ≡ answer))
        → (if v then Some x.answer else heard_from xs b) ≡ Some answer → (y : Heard) × IsAmong y (x ∷ xs) × (y.b.number ≡ b) × (y.answer ≡ answer)
    by true is rest f = (x, inl refl, same_number true is refl, (let z : Some x.answer ≡ Some answer = f in let same : x.answer ≡ answer = cc in same))
    by false is rest f = let r = rest f in (r.0, inr r.1, r.2, r.3)

-- of a list in which none is found none passes
pub none_passes : (p : Heard → Bool) (xs : List Heard) (h : Heard) → find p xs ≡ None → IsAmong h xs → p h ≡ false
none_passes p [] h e among = absurd among
none_passes p (x ∷ xs) h e among = by (p x) refl (none_passes p xs h) e among
  where
    by : (v : Bool) → p x ≡ v → (find p xs ≡ None → IsAmong h xs → p h ≡ false) → cond v (Some x) (find p xs) ≡ None → IsAmong h (x ∷ xs) → p h ≡ false
    by true is more f in_it = absurd (let z : Some x ≡ None = f in cc)
    by false is more f (inl same) = ap p (sym same) ∙ is
    by false is more f (inr rest) = more f rest

pub not_other : (a low same : Bool) → a ≡ true → low ≡ true → (a && (low && not same)) ≡ false → same ≡ true
not_other true true true e f g = refl
not_other true true false e f g = absurd (let z : true ≡ false = g in cc)
not_other true false same e f g = absurd (let z : false ≡ true = f in cc)
not_other false low same e f g = absurd (let z : false ≡ true = e in cc)

least : (n : ℕ) → nat_le 0 n ≡ true
least n = elim (leb_tells 0 n) [ inl p ↦ p.0 | inr p ↦ absurd (let less : n < 0 = p.1 in omega (arith, less)) ]

snapshot_is : (phase : GatePhase) → in_snapshot phase ≡ true → phase ≡ phases.InSnapshot
snapshot_is phases.InSnapshot e = refl
snapshot_is phases.Out e = absurd (cc)
snapshot_is (phases.Live changed written) e = absurd (cc)
snapshot_is phases.InCommit e = absurd (cc)

-- the answers to an opening: begun, or a refusal
began_refused : (code : Code) → is_same answers.Began (answers.Refused code) ≡ false
began_refused code = refl

pub refused_began : (code : Code) → is_same (answers.Refused code) answers.Began ≡ false
refused_began code = refl

-- where none differs from the kept answer each attached one is the same
pub answered_alike : (attached : ℕ) (hs : List Heard) (best : Answer) → first_other attached best 0 hs ≡ None
    → (b : ℕ) (answer : Answer) → IsIn attached b → heard_from hs b ≡ Some answer → is_same answer best ≡ true
answered_alike attached hs best alike b answer here e =
    let x = heard_among hs b answer e in
    let counted : counts attached x.0 ≡ true = ap (has attached) x.2 ∙ here in
    ap (λ a. is_same a best) (sym x.3)
    ∙ not_other (counts attached x.0) (nat_le 0 x.0.b.number) (is_same x.0.answer best) counted (least x.0.b.number)
    (none_passes (is_other attached best 0) hs x.0 alike x.1)

-- what a refused opening places
opens_nothing : (alive : Bool) (s : ℕ) (history : List Entry) → opened_if alive s [] history ≡ history
opens_nothing true s history = refl
opens_nothing false s history = refl

pub places_refused : (live : Bool) (w : World) (s : ℕ) (m : Machine) (event : SessionEvent) (history : List Entry) (code : Code) → live ≡ false
    → place_of m.session m.point event ≡ [] → opening_of m.point event ≡ [] → refused_opening m.session m.point event ≡ Asks requests.TakeSnapshot ∷ Falls (Some code) ∷ []
    → placed live w s m event history ≡ refuses_to w.tables s history code
places_refused true w s m event history code dead place opening refused = absurd (let z : true ≡ false = dead in cc)
places_refused false w s m event history code dead place opening refused =
    ap (λ d. recorded s d (opened_if (is_alive w s) s (opening_of m.point event) (with_code s (code_in (place_of m.session m.point event)) history))) refused
    ∙ ap (λ d. refuses_to w.tables s (opened_if (is_alive w s) s d (with_code s (code_in (place_of m.session m.point event)) history)) code) opening
    ∙ ap (λ x. refuses_to w.tables s x code) (opens_nothing (is_alive w s) s (with_code s (code_in (place_of m.session m.point event)) history))
    ∙ ap (λ d. refuses_to w.tables s (with_code s (code_in d) history) code) place

module _ (t : Tracked) (h : Invariant t) (s : SessionId) (work : Work) (at : (t.world.machine s.number).point ≡ LookDue (Opening work))
    (first : BackendId) (there : lowest t.world.gate.attached.bits ≡ Some first)
    (shut : first_open t.world.gate.attached.bits (t.world.machine s.number).session.heard ≡ None) where
  abbrev m : Machine
  m = t.world.machine s.number

  abbrev attached : ℕ
  attached = t.world.gate.attached.bits

  abbrev mail : ℕ → Option Answer
  mail = t.world.mail s.number

  abbrev view : View
  view = view_of t.world.gate

  abbrev looks : Session
  looks = with_view m.session view

  abbrev stage : Stage
  stage = Opening work

  abbrev Looked_to : Machine → List Entry → Type 0
  Looked_to n mid = Invariant (called_to t s calls.Look (Seen view) t.world.gate n mid (t.orders s.number) (t.done s.number))

  own_was : Own t.world.tables attached t.history t.world.store m mail (t.orders s.number) (t.done s.number) (live_there t s.number) s.number
  own_was = (facts_of t h).own s.number

  free : is_waiting m.point ≡ false
  free = ap is_waiting at

  awake : m.point ≡ Resting → ⊥
  awake rest = let z : LookDue stage ≡ Resting = sym at ∙ rest in cc

  inside : m.session.gate ≡ phases.InSnapshot
  inside = snapshot_is m.session.gate (subst (λ (p : Point). FitsPoint (stage_at p) p m.session.gate) at own_was.inside)

  answered : (b : ℕ) → IsIn attached b → has_told m b ≡ true
  answered b here =
      let at_b : BackendId = record { number = b; below_8 = one_of_eight attached b h.few here } in
      sym (answered_is m.session.heard at_b) ∙ closed_is (has attached b) (has_answered m.session.heard at_b) here (none_found (is_open attached m.session.heard) shut at_b)

  mail_none : (b : ℕ) → mail b ≡ None
  mail_none b = no_mail t.world.tables attached t.history t.history t.world.store m mail (t.orders s.number) (t.done s.number) (live_there t s.number) s.number (real s) (free_of m.point free) own_was b

  told_heard : (b : ℕ) → told_by m mail b ≡ heard_from m.session.heard b
  told_heard b = ap (λ x. mail_or x (heard_from m.session.heard b)) (mail_none b)

  stand_is : (b : ℕ) → stand m mail b ≡ standing_in stage (told_by m mail b)
  stand_is b = ap (λ (p : Point). standing_by m.session.gate p (stage_at p) (told_by m mail b)) at

  order : IsInOrder attached m stage
  order = own_was.in_order stage (ap stage_at at)

  statement : (session : Session) → session.status ≡ m.session.status → (told : Told) → t.orders s.number ≡ Some told → IsStatement session told work
  statement session same told e =
      let o : IsStatement m.session told work = subst (λ (p : Point). OrderAt m.session p told) at (own_was.order_is told e) in
      record { checked = o.checked; body = o.body; written = o.written; status = same ∙ o.status }

  decided_none : (found : Option Answer) → where_decided stage found ≡ []
  decided_none None = refl
  decided_none (Some answer) = refl

  -- all attached backends have answered as the kept one
  module _ (best : Heard) (found : kept attached m.session.heard ≡ Some best) (alike : first_other attached best.answer 0 m.session.heard ≡ None) where
    form_of : (b : ℕ) (answer : Answer) → IsIn attached b → heard_from m.session.heard b ≡ Some answer → IsOf requests.TakeSnapshot answer
    form_of b answer here e = (own_was.heard b stage answer here (ap stage_at at) (told_heard b ∙ e)).form

    same_as : (b : ℕ) (answer : Answer) → IsIn attached b → heard_from m.session.heard b ≡ Some answer → is_same answer best.answer ≡ true
    same_as b answer here e = answered_alike attached m.session.heard best.answer alike b answer here e

    best_here : IsIn attached best.b.number
    unfolding is_kept
    best_here =
        (and_true (counts attached best) (is_largest attached m.session.heard (group_size attached m.session.heard best.answer))
        (found_among (is_kept attached m.session.heard) m.session.heard best found).0).0

    best_heard : heard_from m.session.heard best.b.number ≡ Some best.answer
    best_heard = among_heard m.session.heard best order.rising (found_among (is_kept attached m.session.heard) m.session.heard best found).1

    best_form : IsOf requests.TakeSnapshot best.answer
    best_form = form_of best.b.number best.answer best_here best_heard

    goes_none : chain_goes_on attached m.session.heard best.answer ≡ false
    goes_none = ap (λ (x : Option BackendId). not (is_refusal best.answer) && is_some x) shut ∙ and_none (not (is_refusal best.answer))

    -- where the Look leads, and what it decides
    leads : looked_at looks stage (primary looks) ≡ closed true looks stage best.answer
    unfolding asked
    leads =
        ap (looked_at looks stage) there ∙ ap (asked looks stage) shut ∙ ap (judged looks stage) found
        ∙ ap (split true looks stage best view.attached (chain_goes_on attached m.session.heard best.answer)) alike
        ∙ ap (decided true looks stage best.answer) goes_none

    decides : closing_look looks stage (primary looks) ≡ Some best.answer
    decides =
        ap (closing_look looks stage) there ∙ ap (closing_chain looks) shut ∙ ap (kept_of looks) found
        ∙ ap (λ (x : Bool). one_kept x (first_other attached best.answer 0 m.session.heard) best.answer) goes_none
        ∙ ap (λ (x : Option Heard). one_kept false x best.answer) alike

    places_at : place_of m.session m.point (Called calls.Look (Seen view)) ≡ []
    places_at = ap (at_granted looks) at ∙ decided_none (closing_look looks stage (primary looks))

    refused_at_look : refused_opening m.session m.point (Called calls.Look (Seen view)) ≡ decided_opening best.answer
    refused_at_look = ap (refused_look looks) at ∙ ap where_refused decides

    -- the opening is granted
    module _ (is : best.answer ≡ answers.Began) where
      began : (b : ℕ) → IsIn attached b → told_by m mail b ≡ Some answers.Began
      began b here =
          let a = told_is (heard_from m.session.heard b) (answered b here) in
          told_heard b ∙ a.1 ∙ ap Some (elim (form_of b a.0 here a.1) [
            | inl e ↦ e
            | inr c ↦ absurd (let z : false ≡ true = sym (refused_began c.0) ∙ ap (λ y. is_same y answers.Began) (sym c.1) ∙ ap (is_same a.0) (sym is) ∙ same_as b a.0 here a.1 in cc)
          ])

      fresh : (b : ℕ) → IsIn attached b → stand m mail b ≡ Fresh
      fresh b here = stand_is b ∙ ap (standing_in stage) (began b here)

      not_there : live_there t s.number ≡ false
      not_there = not_live t h s.number (λ b asks here e. let z : Fresh ≡ Ahead asks = sym (fresh b here) ∙ e in cc)

      opens : Looked_to (due looks (LeaveSnapshotDue work)) t.history
      opens =
          let n : Machine = due looks (LeaveSnapshotDue work) in
          goes_on t h s n t.world.gate free awake refl
          (λ b x here e. absurd (let z : None ≡ Some x = e in cc))
          (subst (λ (p : Point). FitsPoint (stage_at p) p m.session.gate) at own_was.inside)
          (subst (IsClassedAt t.world.tables) at own_was.classed)
          (λ x e. absurd (let z : None ≡ Some x = e in cc))
          (λ b here. sym (fresh b here))
          (λ b here e. let z : Fresh ≡ Leaving = sym (fresh b here) ∙ e in cc)
          (λ u written e alive. absurd (let z : true ≡ false = sym (ap is_live alive) ∙ not_there in cc))
          (ap request_in (clear_dead t h s.number not_there) ∙ sym (ap (λ x. where_live x (wants_of n.point (stage_at n.point))) not_there))
          (λ told outcome e f. absurd (let z : None ≡ Some outcome = f in cc))
          (λ e. e)
          (statement looks refl)
          refl
          refl (still t.world.gate t.world.machine m.session.gate m.session.gate refl (facts_of t h).counts) (λ x. x)
          (λ b here. ap (λ (p : Point). inserted_in (stage_at p) (told_by m mail b)) at)
          refl

      pub granted_look : Invariant (tracked_after t (Of s (Called calls.Look (Seen view))))
      unfolding called granted
      granted_look =
          lands_call t s calls.Look (Seen view) t.world.gate (due looks (LeaveSnapshotDue work)) t.history (t.orders s.number) (t.done s.number) refl refl
          (ap (granted looks) at ∙ leads ∙ ap (closed true looks stage) is)
          (places_none (live_there t s.number) t.world s.number m (Called calls.Look (Seen view)) t.history
          places_at refl (refused_at_look ∙ ap decided_opening is))
          refl refl opens

    -- the opening is refused
    module _ (code : Code) (is : best.answer ≡ answers.Refused code) where
      abbrev outcome : Outcome
      outcome = error_of code

      abbrev rolls : Stage
      rolls = RollingBack (Replies outcome)

      abbrev n : Machine
      n = due (record (failing looks) { heard = [] }) (PostDue rolls first)

      abbrev mid : List Entry
      mid = refuses_to t.world.tables s.number t.history code

      refuses : (b : ℕ) → IsIn attached b → (c : Code) × (told_by m mail b ≡ Some (answers.Refused c))
      refuses b here =
          let a = told_is (heard_from m.session.heard b) (answered b here) in
          elim (form_of b a.0 here a.1) [
            | inl e ↦ absurd (let z : false ≡ true = sym (began_refused code) ∙ ap (λ y. is_same y (answers.Refused code)) (sym e) ∙ ap (is_same a.0) (sym is) ∙ same_as b a.0 here a.1 in cc)
            | inr c ↦ (c.0, told_heard b ∙ a.1 ∙ ap Some c.1)
          ]

      fallen_here : (b : ℕ) → IsIn attached b → stand m mail b ≡ Fallen
      fallen_here b here = stand_is b ∙ ap (standing_in stage) (refuses b here).1

      none_there : live_there t s.number ≡ false
      none_there = not_live t h s.number (λ b asks here e. let z : Fallen ≡ Ahead asks = sym (fallen_here b here) ∙ e in cc)

      told_of : (found : Option Told) → is_some found ≡ true → (told : Told) × (found ≡ Some told)
      told_of (Some told) e = (told, refl)
      told_of None e = absurd (let z : false ≡ true = e in cc)

      memory : IsOutOfMemory code
      memory =
          let told = told_of (t.orders s.number) (under_way m.point (t.orders s.number) awake own_was.orders) in
          own_was.reasons stage told.0 code (ap stage_at at) told.1 (inl (best.b.number, best_here, told_heard best.b.number ∙ best_heard ∙ ap Some is))

      ends : Ends t.world.tables s.number t.history mid
      ends = refuses_ends t.world.tables s.number t.history code memory (absent t h s.number none_there) (clear_dead t h s.number none_there) h.run

      untold : (b : ℕ) → told_by n mail b ≡ None
      untold b = ap (λ x. mail_or x None) (mail_none b)

      ending : (b : ℕ) → stand n mail b ≡ Ending
      ending b = ap (standing_in rolls) (untold b)

      rolls_order : IsInOrder attached n rolls
      rolls_order = record {
        rising = tt;
        above = λ b e. tt;
        below = λ b c up here less told. elim told [
          | inl e ↦ absurd (
              let z : Some first.number ≡ Some c = e in
              let same : first.number ≡ c = cc in
              let low : first.number ≤ b = least_found (is_attached attached) first (record { number = b; below_8 = one_of_eight attached b h.few here }) there here in
              omega (arith, same, low, less))
          | inr e ↦ absurd (let z : false ≡ true = e in cc)
        ];
        one = λ single. absurd (let z : true ≡ false = single in cc);
      }

      rolls_own : Own t.world.tables attached mid t.world.store n mail (t.orders s.number) (t.done s.number) false s.number
      rolls_own =
          free_own t.world.tables attached t.history mid t.world.store m mail (t.orders s.number) (t.done s.number) (live_there t s.number) s.number
          (real s) (free_of m.point free) own_was n (t.orders s.number) (t.done s.number) false refl
          (subst (λ (g : GatePhase). FitsPoint (Some rolls) (PostDue rolls first) g) (sym inside) refl)
          refl
          (λ x e. subst (IsInOrder attached n) (let z : Some rolls ≡ Some x = e in let same : rolls ≡ x = cc in same) rolls_order)
          (λ b x here e. untold b)
          (λ b here. subst (λ (x : Standing). Stands (store_after t.world.tables mid) s.number (leaving_of t.world.tables s.number mid) x ((t.world.store b).transaction s.number) ((store_after t.world.tables mid).transaction s.number)) (sym (ending b)) ends.none)
          (λ u written e alive. absurd (let z : phases.InSnapshot ≡ phases.Live false written = sym inside ∙ e in cc))
          (λ c l here e is. absurd (let z : false ≡ true = ap is_of_commit e in cc))
          (ap request_in ends.clear)
          (λ told other e f. inl (
          ap (λ x. reply_to x told.status told.begun (deeds_since s.number told.entries mid)) (statement m.session refl told e).body
          ∙ ap (statement_reply (own_class (statement m.session refl told e).checked.body)) (answers_code t.world.tables s.number told.entries t.history code (own_was.since told e)) ∙ f))
          (under_way m.point (t.orders s.number) awake own_was.orders)
          (λ told e. tt)
          (λ told e. let most = own_was.since told e in let longer = ends.longer in omega (arith, most, longer))
          (λ b told here e f. absurd (let z : false ≡ true = f in cc))
          (λ b told e entered here f. own_was.done_first b told e entered here (λ x. let z : Fallen ≡ Leaving = sym (fallen_here b here) ∙ x in cc))

      aside : IsAside attached m n mail mail
      aside = record {
        stays = λ b here e. let z : Fallen ≡ Leaving = sym (fallen_here b here) ∙ e in cc;
        lasts = λ b here e. let z : Ending ≡ Leaving = sym (ending b) ∙ e in cc;
        outside = ap in_commit inside;
        idle = λ b other here e. let z : None ≡ Some other = sym (ap (λ (p : Point). inserted_in (stage_at p) (told_by m mail b)) at) ∙ e in cc;
        idles = λ b other here e. let z : None ≡ Some other = e in cc;
      }

      rolls_on : Looked_to n mid
      rolls_on =
          same_mail t s.number n t.world.gate mail mid (t.orders s.number) (t.done s.number) refl
          (ends_holds t h s n t.world.gate mail mid (t.orders s.number) (t.done s.number) refl
          (still t.world.gate t.world.machine m.session.gate m.session.gate refl (facts_of t h).counts) aside ends rolls_own)

      goes_back : closed true looks stage (answers.Refused code) ≡ n
      goes_back = ap (λ (g : GatePhase). refused_at true looks g outcome) inside ∙ ap (begun_at (failing looks) rolls) there

      pub refused_to : Invariant (tracked_after t (Of s (Called calls.Look (Seen view))))
      unfolding called granted
      refused_to =
          lands_call t s calls.Look (Seen view) t.world.gate n mid (t.orders s.number) (t.done s.number) refl refl
          (ap (granted looks) at ∙ leads ∙ ap (closed true looks stage) is ∙ goes_back)
          (places_refused (live_there t s.number) t.world s.number m (Called calls.Look (Seen view)) t.history code none_there
          places_at refl (refused_at_look ∙ ap decided_opening is))
          refl refl rolls_on

    pub opening_closes : Invariant (tracked_after t (Of s (Called calls.Look (Seen view))))
    opening_closes = elim best_form [ inl is ↦ granted_look is | inr c ↦ refused_to c.0 c.1 ]

-- a Look at which the chain of an opening is at its end, and its answers do not differ
pub opened_kept : (t : Tracked) (s : SessionId) (answer : GateAnswer) (work : Work) (best : Heard) → Invariant t → (t.world.machine s.number).point ≡ LookDue (Opening work)
    → first_open t.world.gate.attached.bits (t.world.machine s.number).session.heard ≡ None
    → kept t.world.gate.attached.bits (t.world.machine s.number).session.heard ≡ Some best
    → first_other t.world.gate.attached.bits best.answer 0 (t.world.machine s.number).session.heard ≡ None
    → MayHappen t.world (Of s (Called calls.Look answer)) → Invariant (tracked_after t (Of s (Called calls.Look answer)))
opened_kept t s answer work best h at shut found alike may =
    let v = seen_view answer may.0.1 in
    subst (λ (a : GateAnswer). Invariant (tracked_after t (Of s (Called calls.Look a)))) (sym (v.1 ∙ ap Seen (seen_is (view_of t.world.gate) v.0 (may.1.1 ∙ v.1))))
    (by (lowest t.world.gate.attached.bits) refl)
  where
    by : (first : Option BackendId) → lowest t.world.gate.attached.bits ≡ first → Invariant (tracked_after t (Of s (Called calls.Look (Seen (view_of t.world.gate)))))
    by (Some first) there = opening_closes t h s work at first there shut best found alike
    by None there =
        let v = seen_view answer may.0.1 in
        subst (λ (a : GateAnswer). Invariant (tracked_after t (Of s (Called calls.Look a)))) (v.1 ∙ ap Seen (seen_is (view_of t.world.gate) v.0 (may.1.1 ∙ v.1)))
        (strands_kept t s answer (Opening work) h at (nobody_attached t.world.gate.attached.bits h.few there) may)
