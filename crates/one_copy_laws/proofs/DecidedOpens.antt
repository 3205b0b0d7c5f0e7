-- The detachment behind which the kept answer to an opening decides: the opening is granted, or refused.
use Rattle.std.proofs.Common.{◌≡◌, ◌≢◌, ℕ, ◌+◌, Bool, true, false, List, [], refl, sym, ap, ◌∙◌, subst, arith, inl, inr}
use Rattle.std.specs.Prelude.{Option, Some, None, is_some, if◌then◌else◌}
use Rattle.pool_base.specs.declared.code.Code.{Code}
use Rattle.pool_base.specs.declared.session_id.SessionId.{SessionId}
use Rattle.pool_base.specs.declared.backend_id.BackendId.{BackendId}
use Rattle.pool_base.specs.declared.backend_set.BackendSet.{BackendSet}
use Rattle.pool_base.specs.declared.gate_call.GateCall.TheVariants as calls
use Rattle.pool_base.specs.declared.gate_call.GateAnswer.{GateAnswer}
use Rattle.backend_trait.specs.declared.request.Request.{Request}
use Rattle.backend_trait.specs.declared.answer.Answer.{Answer}
use Rattle.backend_trait.specs.declared.answer.Answer.TheVariants as answers
use Rattle.backend_trait.specs.Acts.{IsOutOfMemory}
use Rattle.backend_trait.specs.Store.{is_refusal}
use Rattle.snapshot_gate.specs.Function.{step}
use Rattle.session_machine.specs.declared.action.Cause.{Cause}
use Rattle.session_machine.specs.declared.action.SessionEvent.{SessionEvent}
use Rattle.session_machine.specs.declared.action.SessionEvent.TheVariants.{Detached}
use Rattle.session_machine.specs.declared.work.Work.{Work}
use Rattle.session_orders.specs.declared.outcome.Outcome.{Outcome}
use Rattle.session_machine.specs.declared.machine.GatePhase.{GatePhase}
use Rattle.session_machine.specs.declared.machine.GatePhase.TheVariants as phases
use Rattle.session_machine.specs.declared.machine.Heard.{Heard}
use Rattle.session_machine.specs.declared.machine.Machine.{Machine}
use Rattle.session_machine.specs.declared.machine.Session.{Session}
use Rattle.session_machine.specs.declared.machine.Ending.TheVariants.{Replies}
use Rattle.session_machine.specs.declared.machine.Stage.{Stage}
use Rattle.session_machine.specs.declared.machine.Stage.TheVariants.{Opening, RollingBack}
use Rattle.session_machine.specs.declared.machine.Point.{Point}
use Rattle.session_machine.specs.declared.machine.Point.TheVariants.{LookDue, SplitDue, LeaveSnapshotDue}
use Rattle.session_machine.specs.Answers.{lowest, first_other, is_same}
use Rattle.session_machine.specs.Rules.{due, closed, refused_at, failing, error_of}
use Rattle.session_machine.specs.Classes.{class_in as own_class}
use Rattle.one_copy_model.specs.declared.deed.Deed.{Deed}
use Rattle.one_copy_model.specs.declared.deed.Entry.{Entry}
use Rattle.one_copy_model.specs.declared.event.Event.TheVariants.{Of}
use Rattle.one_copy_model.specs.SingleRun.{store_after, deeds_since}
use Rattle.one_copy_model.specs.World.{MayHappen}
use Rattle.one_copy_model.specs.Places.{refused_opening, where_refused}
use Rattle.one_copy_model.specs.Deaths.{is_live, stage_at, mail_or}
use Rattle.one_copy_model.specs.Tracking.{Told, Tracked, placed, deaths_first, tracked_after, in_commit}
use Rattle.one_copy_model.specs.Chains.{IsKept}
use Rattle.one_copy_model.specs.Orders.{OrderAt, IsStatement, IsClassedAt, is_of_commit}
use Rattle.one_copy_model.specs.Replies.{reply_to, statement_reply}
use Rattle.one_copy_model.specs.Standing.{Standing, Nowhere, Fresh, Fallen, Ahead, Leaving, Ending, Stands, standing_in, leaving_of}
use Rattle.one_copy_model.specs.Invariant.{Invariant, FitsPoint, fits_stage, where_live, wants_of, request_in, inserted_in}
use Rattle.one_copy_model.specs.Own.{told_by, stand, IsIn, Own}
use Rattle.one_copy_model.proofs.Turning.{live_there}
use Rattle.one_copy_model.proofs.Landing.{places_none}
use Rattle.one_copy_model.proofs.Calm.{free_of}
use Rattle.one_copy_model.proofs.Quiet.{real}
use Rattle.one_copy_model.proofs.Beginning.{free_own, begun_order}
use Rattle.one_copy_model.proofs.Endings.{Ends}
use Rattle.one_copy_model.proofs.Ending.{IsAside}
use Rattle.one_copy_model.proofs.Livings.{not_live, clear_dead, absent}
use Rattle.one_copy_laws.proofs.GateFinishing.{under_way}
use Rattle.one_copy_laws.proofs.LooksOpeningLaw.{refuses_to, refuses_ends, answers_code, places_refused}
use Rattle.one_copy_laws.proofs.DecidedParting.{facts_left, behind, FactsLed, lands_left}
use Rattle.one_copy_laws.proofs.DecidedTurning.{goes_facts, ends_facts}
use Rattle.one_copy_laws.proofs.DecidedDeciding as split
use Rattle.one_copy_laws.proofs.DecidedSame.{kind_is, began_is, refused_apart}

-- in an opening a session is ahead nowhere, and leaves nowhere
opens_told : (v : Bool) (asks : List Request) → (if v then Fallen else Fresh) ≢ Ahead asks
opens_told true asks e = let z : Fallen ≡ Ahead asks = e in cc
opens_told false asks e = let z : Fresh ≡ Ahead asks = e in cc

opens_ahead : (work : Work) (told : Option Answer) (asks : List Request) → standing_in (Opening work) told ≢ Ahead asks
opens_ahead work None asks e = let z : Nowhere ≡ Ahead asks = e in cc
opens_ahead work (Some answer) asks e = opens_told (is_refusal answer) asks e

stays_told : (v : Bool) → (if v then Fallen else Fresh) ≢ Leaving
stays_told true e = let z : Fallen ≡ Leaving = e in cc
stays_told false e = let z : Fresh ≡ Leaving = e in cc

opens_stays : (work : Work) (told : Option Answer) → standing_in (Opening work) told ≢ Leaving
opens_stays work None e = let z : Nowhere ≡ Leaving = e in cc
opens_stays work (Some answer) e = stays_told (is_refusal answer) e

in_a_snapshot : (work : Work) (phase : GatePhase) → fits_stage (Opening work) phase ≡ true → phase ≡ phases.InSnapshot
in_a_snapshot work phases.InSnapshot e = refl
in_a_snapshot work phases.Out e = absurd (let z : false ≡ true = e in cc)
in_a_snapshot work (phases.Live changed written) e = absurd (let z : false ≡ true = e in cc)
in_a_snapshot work phases.InCommit e = absurd (let z : false ≡ true = e in cc)

told_of : (found : Option Told) → is_some found ≡ true → (told : Told) × (found ≡ Some told)
told_of (Some told) e = (told, refl)
told_of None e = absurd (let z : false ≡ true = e in cc)

module _ (t : Tracked) (h : Invariant t) (s : SessionId) (b first : BackendId) (cause : Cause) (answer : GateAnswer) (work : Work) (best own : Heard) (among : BackendSet)
    (at : (t.world.machine s.number).point ≡ SplitDue (Opening work) best own among false)
    (none : first_other among.bits best.answer (own.b.number + 1) (t.world.machine s.number).session.heard ≡ None)
    (there : lowest (step t.world.gate (calls.Detach b)).0.attached.bits ≡ Some first)
    (may : MayHappen t.world (Of s (Detached b cause answer))) where
  abbrev stage : Stage
  stage = Opening work

  abbrev m : Machine
  m = t.world.machine s.number

  abbrev mail : ℕ → Option Answer
  mail = t.world.mail s.number

  abbrev those : ℕ
  those = split.those t h s b first cause answer stage best own among at none there may

  abbrev looks : Session
  looks = split.looks t h s b first cause answer stage best own among at none there may

  abbrev event : SessionEvent
  event = Detached b cause (step t.world.gate (calls.Detach b)).1

  own_was : Own t.world.tables those t.history t.world.store m mail (t.orders s.number) (t.done s.number) (live_there t s.number) s.number
  own_was = split.own_was t h s b first cause answer stage best own among at none there may

  stand_is : (k : ℕ) → stand m mail k ≡ standing_in stage (told_by m mail k)
  stand_is = split.stand_is t h s b first cause answer stage best own among at none there may

  inside : m.session.gate ≡ phases.InSnapshot
  inside = in_a_snapshot work m.session.gate (subst (λ (p : Point). FitsPoint (stage_at p) p m.session.gate) at own_was.inside)

  statement : (session : Session) → session.status ≡ m.session.status → (told : Told) → t.orders s.number ≡ Some told → IsStatement session told work
  statement session same told e =
      let o : IsStatement m.session told work = subst (λ (p : Point). OrderAt m.session p told) at (own_was.order_is told e) in
      record { checked = o.checked; body = o.body; written = o.written; status = same ∙ o.status }

  not_there : live_there t s.number ≡ false
  not_there = not_live t h s.number (λ k asks here e. opens_ahead work (told_by m mail k) asks (sym (stand_is k) ∙ e))

  no_leave : (k : ℕ) → stand m mail k ≢ Leaving
  no_leave k e = opens_stays work (told_by m mail k) (sym (stand_is k) ∙ e)

  -- the event by what it leads to
  lands_to : (n : Machine) (mid : List Entry) → closed false looks stage best.answer ≡ n
      → placed (live_there t s.number) t.world s.number m event t.history ≡ mid → FactsLed t h s b n mid
      → Invariant (tracked_after t (Of s (Detached b cause answer)))
  lands_to n mid to places facts =
      subst (λ (x : GateAnswer). Invariant (tracked_after t (Of s (Detached b cause x)))) may.1.1
      (lands_left t h s b cause n mid (split.leads t h s b first cause answer stage best own among at none there may ∙ to)
      (λ w. ap (λ (d : List Deed). deaths_first w event d t.history) (split.place t h s b first cause answer stage best own among at none there may)) places first there facts)

  refused_is : refused_opening m.session m.point event ≡ where_refused (Some best.answer)
  refused_is = split.refused t h s b first cause answer stage best own among at none there may ∙ ap where_refused (split.decides t h s b first cause answer stage best own among at none there may)

  -- it is granted
  module _ (is : best.answer ≡ answers.Began) where
    began : (k : ℕ) → IsIn those k → told_by m mail k ≡ Some answers.Began
    began k here =
        let a = split.says_of t h s b first cause answer stage best own among at none there may (ap is_refusal is) k here in
        a.told ∙ ap Some (elim a.form [
          | inl e ↦ e
          | inr c ↦ absurd (refused_apart c.0 best.answer (ap is_refusal is) (ap (λ (y : Answer). is_same y best.answer) (sym c.1) ∙ a.same))
        ])

    fresh : (k : ℕ) → IsIn those k → stand m mail k ≡ Fresh
    fresh k here = stand_is k ∙ ap (standing_in stage) (began k here)

    abbrev leaves : Machine
    leaves = due looks (LeaveSnapshotDue work)

    opens : FactsLed t h s b leaves t.history
    opens =
        goes_facts (behind t h s b) (facts_left t h s b) s leaves refl
        (split.free t h s b first cause answer stage best own among at none there may)
        (split.awake t h s b first cause answer stage best own among at none there may) refl
        (λ k x here e. absurd (let z : None ≡ Some x = e in cc))
        (subst (λ (p : Point). FitsPoint (stage_at p) p m.session.gate) at own_was.inside)
        (subst (IsClassedAt t.world.tables) at own_was.classed)
        (λ x e. absurd (let z : None ≡ Some x = e in cc))
        (λ k here. sym (fresh k here))
        (λ k here. no_leave k)
        (λ u written e alive. absurd (let z : true ≡ false = sym (ap is_live alive) ∙ not_there in cc))
        (ap request_in (clear_dead t h s.number not_there) ∙ sym (ap (λ x. where_live x (wants_of leaves.point (stage_at leaves.point))) not_there))
        (λ told outcome e g. absurd (let z : None ≡ Some outcome = g in cc))
        (λ e. e)
        (statement looks refl)
        refl
        (λ k here. ap (λ (p : Point). inserted_in (stage_at p) (told_by m mail k)) at)
        refl

    pub granted : Invariant (tracked_after t (Of s (Detached b cause answer)))
    granted =
        lands_to leaves t.history (ap (closed false looks stage) is)
        (places_none (live_there t s.number) t.world s.number m event t.history
        (split.place t h s b first cause answer stage best own among at none there may) refl
        (refused_is ∙ ap (λ (x : Answer). where_refused (Some x)) is))
        opens

  -- it is refused
  module _ (code : Code) (is : best.answer ≡ answers.Refused code) where
    abbrev outcome : Outcome
    outcome = error_of code

    abbrev rolls : Stage
    rolls = RollingBack (Replies outcome)

    abbrev n : Machine
    n = due (record (failing looks) { heard = [] }) (LookDue rolls)

    abbrev mid : List Entry
    mid = refuses_to t.world.tables s.number t.history code

    memory : IsOutOfMemory code
    memory =
        let told = told_of (t.orders s.number) (under_way m.point (t.orders s.number) (split.awake t h s b first cause answer stage best own among at none there may) own_was.orders) in
        own_was.reasons stage told.0 code (ap stage_at at) told.1
        (inr (subst (λ (p : Point). IsKept p (answers.Refused code)) (sym at) is, (first.number, split.first_here t h s b first cause answer stage best own among at none there may)))

    ends : Ends t.world.tables s.number t.history mid
    ends = refuses_ends t.world.tables s.number t.history code memory (absent t h s.number not_there) (clear_dead t h s.number not_there) h.run

    untold : (k : ℕ) → told_by n mail k ≡ None
    untold k = ap (λ x. mail_or x None) (split.mail_none t h s b first cause answer stage best own among at none there may k)

    ending : (k : ℕ) → stand n mail k ≡ Ending
    ending k = ap (standing_in rolls) (untold k)

    rolls_own : Own t.world.tables those mid t.world.store n mail (t.orders s.number) (t.done s.number) false s.number
    rolls_own =
        free_own t.world.tables those t.history mid t.world.store m mail (t.orders s.number) (t.done s.number) (live_there t s.number) s.number
        (real s) (free_of m.point (split.free t h s b first cause answer stage best own among at none there may)) own_was n (t.orders s.number) (t.done s.number) false refl
        (subst (λ (g : GatePhase). FitsPoint (Some rolls) (LookDue rolls) g) (sym inside) refl)
        refl
        (λ x e. begun_order those (record (failing looks) { heard = [] }) x rolls refl)
        (λ k x here e. untold k)
        (λ k here. subst (λ (x : Standing). Stands (store_after t.world.tables mid) s.number (leaving_of t.world.tables s.number mid) x ((t.world.store k).transaction s.number) ((store_after t.world.tables mid).transaction s.number)) (sym (ending k)) ends.none)
        (λ u written e alive. absurd (let z : phases.InSnapshot ≡ phases.Live false written = sym inside ∙ e in cc))
        (λ c l here e is. absurd (let z : false ≡ true = ap is_of_commit e in cc))
        (ap request_in ends.clear)
        (λ told other e g. inl (
        ap (λ x. reply_to x told.status told.begun (deeds_since s.number told.entries mid)) (statement m.session refl told e).body
        ∙ ap (statement_reply (own_class (statement m.session refl told e).checked.body)) (answers_code t.world.tables s.number told.entries t.history code (own_was.since told e)) ∙ g))
        (under_way m.point (t.orders s.number) (split.awake t h s b first cause answer stage best own among at none there may) own_was.orders)
        (λ told e. tt)
        (λ told e. let most = own_was.since told e in let longer = ends.longer in omega (arith, most, longer))
        (λ k told here e g. absurd (let z : false ≡ true = g in cc))
        (λ k told e entered here g. own_was.done_first k told e entered here (no_leave k))

    aside : IsAside those m n mail mail
    aside = record {
      stays = λ k here. no_leave k;
      lasts = λ k here e. let z : Ending ≡ Leaving = sym (ending k) ∙ e in cc;
      outside = ap in_commit inside;
      idle = λ k other here e. let z : None ≡ Some other = sym (ap (λ (p : Point). inserted_in (stage_at p) (told_by m mail k)) at) ∙ e in cc;
      idles = λ k other here e. let z : None ≡ Some other = e in cc;
    }

    goes_back : closed false looks stage best.answer ≡ n
    goes_back = ap (closed false looks stage) is ∙ ap (λ (g : GatePhase). refused_at false looks g outcome) inside

    pub refused_to : Invariant (tracked_after t (Of s (Detached b cause answer)))
    refused_to =
        lands_to n mid goes_back
        (places_refused (live_there t s.number) t.world s.number m event t.history code not_there
        (split.place t h s b first cause answer stage best own among at none there may) refl
        (refused_is ∙ ap (λ (x : Answer). where_refused (Some x)) is))
        (ends_facts (behind t h s b) (facts_left t h s b) s n refl mid aside ends rolls_own)

  -- the kept answer is one of an opening, as that of the first of those that are left is
  right : is_refusal best.answer ≡ false → best.answer ≡ answers.Began
  right e =
      let a = split.says_of t h s b first cause answer stage best own among at none there may e first.number (split.first_here t h s b first cause answer stage best own among at none there may) in
      elim a.form [
        | inl x ↦ began_is best.answer (ap (λ (y : Answer). is_same y best.answer) (sym x) ∙ a.same)
        | inr c ↦ absurd (refused_apart c.0 best.answer e (ap (λ (y : Answer). is_same y best.answer) (sym c.1) ∙ a.same))
      ]

  pub opens_decided : Invariant (tracked_after t (Of s (Detached b cause answer)))
  opens_decided = elim (kind_is best.answer) [ inl c ↦ refused_to c.0 c.1 | inr e ↦ granted (right e) ]

pub opens_decided_kept : (t : Tracked) (s : SessionId) (b first : BackendId) (cause : Cause) (answer : GateAnswer) (work : Work) (best own : Heard) (among : BackendSet) → Invariant t
    → (t.world.machine s.number).point ≡ SplitDue (Opening work) best own among false
    → first_other among.bits best.answer (own.b.number + 1) (t.world.machine s.number).session.heard ≡ None
    → lowest (step t.world.gate (calls.Detach b)).0.attached.bits ≡ Some first
    → MayHappen t.world (Of s (Detached b cause answer)) → Invariant (tracked_after t (Of s (Detached b cause answer)))
opens_decided_kept t s b first cause answer work best own among h at none there may = opens_decided t h s b first cause answer work best own among at none there may
