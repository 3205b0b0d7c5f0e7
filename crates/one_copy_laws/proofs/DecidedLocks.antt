-- The detachment behind which the kept answer decides that a serial insert has its lock: its run is asked for.
use Rattle.std.proofs.Common.{◌≡◌, ℕ, ◌+◌, Bool, true, false, List, [], ◌∷◌, refl, sym, ap, ◌∙◌, subst, inl, inr}
use Rattle.std.specs.Prelude.{Option, Some, None}
use Rattle.pool_base.specs.declared.session_id.SessionId.{SessionId}
use Rattle.pool_base.specs.declared.backend_id.BackendId.{BackendId}
use Rattle.pool_base.specs.declared.backend_set.BackendSet.{BackendSet}
use Rattle.pool_base.specs.declared.gate_call.GateCall.TheVariants as calls
use Rattle.pool_base.specs.declared.gate_call.GateAnswer.{GateAnswer}
use Rattle.backend_trait.specs.declared.request.Request.{Request}
use Rattle.backend_trait.specs.declared.request.Request.TheVariants as requests
use Rattle.backend_trait.specs.declared.answer.Answer.{Answer}
use Rattle.backend_trait.specs.declared.answer.Answer.TheVariants as answers
use Rattle.backend_trait.specs.Rows.{with_at}
use Rattle.backend_trait.specs.Store.{is_refusal}
use Rattle.snapshot_gate.specs.Function.{step}
use Rattle.session_machine.specs.declared.action.Cause.{Cause}
use Rattle.session_machine.specs.declared.action.SessionEvent.{SessionEvent}
use Rattle.session_machine.specs.declared.action.SessionEvent.TheVariants.{Detached}
use Rattle.session_machine.specs.declared.work.Class.TheVariants as classes
use Rattle.session_machine.specs.declared.work.Work.{Work}
use Rattle.session_machine.specs.declared.machine.GatePhase.{GatePhase}
use Rattle.session_machine.specs.declared.machine.GatePhase.TheVariants as phases
use Rattle.session_machine.specs.declared.machine.Heard.{Heard}
use Rattle.session_machine.specs.declared.machine.Machine.{Machine}
use Rattle.session_machine.specs.declared.machine.Session.{Session}
use Rattle.session_machine.specs.declared.machine.Stage.{Stage}
use Rattle.session_machine.specs.declared.machine.Stage.TheVariants.{Locking, Inserting}
use Rattle.session_machine.specs.declared.machine.Point.{Point}
use Rattle.session_machine.specs.declared.machine.Point.TheVariants.{LookDue, SplitDue}
use Rattle.session_machine.specs.Answers.{lowest, first_other, is_same}
use Rattle.session_machine.specs.Rules.{due, closed}
use Rattle.one_copy_model.specs.declared.deed.Deed.{Deed}
use Rattle.one_copy_model.specs.declared.deed.Entry.{Entry}
use Rattle.one_copy_model.specs.declared.event.Event.TheVariants.{Of}
use Rattle.one_copy_model.specs.World.{World, MayHappen}
use Rattle.one_copy_model.specs.SingleRun.{store_after}
use Rattle.one_copy_model.specs.Places.{asks_as, asks_of, place_of, decided_by}
use Rattle.one_copy_model.specs.Deaths.{is_live, is_alive, stage_at, mail_or, fallen}
use Rattle.one_copy_model.specs.Tracking.{Told, Tracked, single, deaths_first, tracked_after}
use Rattle.one_copy_model.specs.Orders.{OrderAt, IsStatement, IsClassedIn, IsClassedAt}
use Rattle.one_copy_model.specs.Standing.{Standing, Ahead, Leaving, Alike, Stands, standing_in, leaving_of, ahead_by}
use Rattle.one_copy_model.specs.Invariant.{Invariant, FitsPoint, fits_stage, where_live, wants_of, inserted_in, Inserts, HaveLocks}
use Rattle.one_copy_model.specs.Own.{told_by, stand, IsIn, Own}
use Rattle.one_copy_model.proofs.Counts.{still}
use Rattle.one_copy_model.proofs.Turning.{facts_of, live_there}
use Rattle.one_copy_model.proofs.Landing.{places_none, with_at-self}
use Rattle.one_copy_model.proofs.Beginning.{begun_order}
use Rattle.one_copy_model.proofs.Livings.{alike_live}
use Rattle.one_copy_laws.proofs.GateGoing.{goes_with}
use Rattle.one_copy_laws.proofs.LooksLockSets.{backed_where, lock_here, locks_set}
use Rattle.one_copy_laws.proofs.FallsDying.{falls_kept}
use Rattle.one_copy_laws.proofs.FallsStaying.{alive_at, stepped_falls}
use Rattle.one_copy_laws.proofs.DecidedParting.{gate, facts_left, behind, led, lands_fallen}
use Rattle.one_copy_laws.proofs.DecidedDeciding as split
use Rattle.one_copy_laws.proofs.DecidedSame.{locked_is, refused_apart}

runs_in : (work : Work) (table : ℕ) (phase : GatePhase) → fits_stage (Locking work table) phase ≡ true → fits_stage (Inserting work false) phase ≡ true
runs_in work table (phases.Live changed written) e = refl
runs_in work table phases.Out e = absurd (let z : false ≡ true = e in cc)
runs_in work table phases.InSnapshot e = absurd (let z : false ≡ true = e in cc)
runs_in work table phases.InCommit e = absurd (let z : false ≡ true = e in cc)

module _ (t : Tracked) (h : Invariant t) (s : SessionId) (b first : BackendId) (cause : Cause) (answer : GateAnswer) (work : Work) (table : ℕ) (best own : Heard) (among : BackendSet)
    (at : (t.world.machine s.number).point ≡ SplitDue (Locking work table) best own among false)
    (right : is_refusal best.answer ≡ false)
    (none : first_other among.bits best.answer (own.b.number + 1) (t.world.machine s.number).session.heard ≡ None)
    (there : lowest (step t.world.gate (calls.Detach b)).0.attached.bits ≡ Some first)
    (may : MayHappen t.world (Of s (Detached b cause answer))) where
  abbrev stage : Stage
  stage = Locking work table

  abbrev runs : Stage
  runs = Inserting work false

  abbrev m : Machine
  m = t.world.machine s.number

  abbrev mail : ℕ → Option Answer
  mail = t.world.mail s.number

  abbrev those : ℕ
  those = split.those t h s b first cause answer stage best own among at none there may

  abbrev looks : Session
  looks = split.looks t h s b first cause answer stage best own among at none there may

  abbrev event : SessionEvent
  event = Detached b cause (step t.world.gate (calls.Detach b)).1

  own_was : Own t.world.tables those t.history t.world.store m mail (t.orders s.number) (t.done s.number) (live_there t s.number) s.number
  own_was = split.own_was t h s b first cause answer stage best own among at none there may

  classed : IsClassedIn t.world.tables stage
  classed = subst (IsClassedAt t.world.tables) at own_was.classed

  asks_lock : asks_of work ≡ requests.Lock table
  asks_lock = ap (asks_as work.statement) classed.1

  statement : (session : Session) → session.status ≡ m.session.status → (told : Told) → t.orders s.number ≡ Some told → IsStatement session told work
  statement session same told e =
      let o : IsStatement m.session told work = subst (λ (p : Point). OrderAt m.session p told) at (own_was.order_is told e) in
      record { checked = o.checked; body = o.body; written = o.written; status = same ∙ o.status }

  -- the kept answer is that of the first of those that are left
  is : best.answer ≡ answers.Locked
  is =
      let a = split.says_of t h s b first cause answer stage best own among at none there may right first.number (split.first_here t h s b first cause answer stage best own among at none there may) in
      elim a.form [
        | inl x ↦ locked_is best.answer (ap (λ (y : Answer). is_same y best.answer) (sym x) ∙ a.same)
        | inr c ↦ absurd (refused_apart c.0 best.answer right (ap (λ (y : Answer). is_same y best.answer) (sym c.1) ∙ a.same))
      ]

  locks : (k : ℕ) → IsIn those k → told_by m mail k ≡ Some answers.Locked
  locks k here =
      let a = split.says_of t h s b first cause answer stage best own among at none there may right k here in
      a.told ∙ ap Some (elim a.form [
        | inl e ↦ e
        | inr c ↦ absurd (refused_apart c.0 best.answer right (ap (λ (y : Answer). is_same y best.answer) (sym c.1) ∙ a.same))
      ])

  ahead : (k : ℕ) → IsIn those k → stand m mail k ≡ Ahead (requests.Lock table ∷ [])
  ahead k here = split.stand_is t h s b first cause answer stage best own among at none there may k ∙ ap (standing_in stage) (locks k here)

  abbrev n : Machine
  n = due (record looks { heard = [] }) (LookDue runs)

  untold : (k : ℕ) → told_by n mail k ≡ None
  untold k = ap (λ x. mail_or x None) (split.mail_none t h s b first cause answer stage best own among at none there may k)

  -- the deaths that the detachment brings come first: nothing is placed, and the session is alive
  abbrev behind_it : World
  behind_it = (behind t h s b).world

  abbrev all : Tracked
  all = record { world = behind_it; history = fallen behind_it t.history 65; orders = t.orders; done = t.done }

  first_here : IsIn those first.number
  first_here = split.first_here t h s b first cause answer stage best own among at none there may

  all_holds : Invariant all
  all_holds = falls_kept behind_it t.history t.orders t.done first.number (facts_left t h s b) first_here

  own_all : Own t.world.tables those all.history t.world.store m mail (t.orders s.number) (t.done s.number) (live_there all s.number) s.number
  own_all = (facts_of all all_holds).own s.number

  alike_at : (g : List Entry) (k : ℕ) → IsIn those k
      → Stands (store_after t.world.tables g) s.number (leaving_of t.world.tables s.number g) (stand m mail k) ((t.world.store k).transaction s.number) ((store_after t.world.tables g).transaction s.number)
      → Alike ((t.world.store k).transaction s.number) (ahead_by (store_after t.world.tables g) s.number (requests.Lock table ∷ []) ((store_after t.world.tables g).transaction s.number))
  alike_at g k here =
      subst (λ (x : Standing). Stands (store_after t.world.tables g) s.number (leaving_of t.world.tables s.number g) x ((t.world.store k).transaction s.number) ((store_after t.world.tables g).transaction s.number)) (ahead k here)

  alive : is_alive behind_it s.number ≡ true
  alive =
      let a = alike_live ((t.world.store first.number).transaction s.number) (ahead_by (store_after t.world.tables t.history) s.number (requests.Lock table ∷ []) ((store_after t.world.tables t.history).transaction s.number))
      (alike_at t.history first.number first_here (own_was.stands first.number first_here)) in
      alive_at behind_it s.number first.number first.below_8 first_here (ap is_live a.2)

  -- each that is left has its lock, so nobody else who is live there has an insert of the table under way, or is in its way
  begins_at : (k : ℕ) → Inserts n k → k ≡ table
  begins_at k i =
      let same : work ≡ i.work = (let z : Some work ≡ Some i.work = i.inserting in cc) in
      let class : classes.SerialInsert k ≡ classes.SerialInsert table = sym i.at ∙ ap (λ (x : Work). x.class) (sym same) ∙ classed.1 in
      let z : k ≡ table = cc in z

  runs_locks : HaveLocks (single all) (with_at t.world.machine s.number n)
  runs_locks =
      locks_set (single all) those t.world.store t.world.machine s.number n table all_holds.sound
      (λ o other live. backed_where all all_holds o live)
      (λ k here. lock_here (single all) s.number table ((t.world.store k).transaction s.number) ((single all).transaction s.number) (alike_at all.history k here (own_all.stands k here)))
      begins_at all_holds.locks

  runs_on : Invariant (record { world = led t h s b n; history = all.history; orders = with_at t.orders s.number (t.orders s.number); done = with_at t.done s.number (t.done s.number) })
  runs_on =
      goes_with all all_holds s n (gate t h s b)
      (split.free t h s b first cause answer stage best own among at none there may)
      (split.awake t h s b first cause answer stage best own among at none there may) refl
      (λ k x here e. untold k)
      (runs_in work table m.session.gate (subst (λ (p : Point). FitsPoint (stage_at p) p m.session.gate) at own_was.inside))
      (classed.0, (table, classed.1))
      (λ x e. begun_order those (record looks { heard = [] }) x runs refl)
      (λ k here. ap (standing_in runs) (untold k) ∙ ap (λ (r : Request). Ahead (r ∷ [])) asks_lock ∙ sym (ahead k here))
      (λ k here e. let z : Ahead (requests.Lock table ∷ []) ≡ Leaving = sym (ahead k here) ∙ e in cc)
      own_all.unchanged
      (own_all.posts ∙ ap (λ (p : Point). where_live (live_there all s.number) (wants_of p (stage_at p))) at)
      (λ told outcome e g. absurd (let z : None ≡ Some outcome = g in cc))
      (λ e. e)
      (statement n.session refl)
      refl
      refl (still (gate t h s b) t.world.machine m.session.gate m.session.gate refl (facts_of all all_holds).counts) (λ x. x)
      (λ k here. ap (λ (p : Point). inserted_in (stage_at p) (told_by m mail k)) at)
      runs_locks

  to : closed false looks stage best.answer ≡ n
  to = ap (closed false looks stage) is

  runs_there : Invariant (record { world = led t h s b n; history = fallen (led t h s b n) t.history 65; orders = t.orders; done = t.done })
  runs_there =
      subst (λ (g : List Entry). Invariant (record { world = led t h s b n; history = g; orders = t.orders; done = t.done })) (sym (stepped_falls behind_it s.number n alive t.history 65))
      (subst (λ (by : ℕ → Option Told). Invariant (record { world = led t h s b n; history = all.history; orders = by; done = t.done })) (with_at-self t.orders s.number)
      (subst (λ (did : ℕ → ℕ → Bool). Invariant (record { world = led t h s b n; history = all.history; orders = with_at t.orders s.number (t.orders s.number); done = did })) (with_at-self t.done s.number) runs_on))

  placed_none : place_of m.session m.point event ≡ []
  placed_none = split.place t h s b first cause answer stage best own among at none there may ∙ ap (decided_by stage) is

  pub locks_decided : Invariant (tracked_after t (Of s (Detached b cause answer)))
  locks_decided =
      subst (λ (x : GateAnswer). Invariant (tracked_after t (Of s (Detached b cause x)))) may.1.1
      (lands_fallen t h s b cause n t.history
      (split.leads t h s b first cause answer stage best own among at none there may ∙ to)
      (λ w. ap (λ (d : List Deed). deaths_first w event d t.history) placed_none)
      (places_none (live_there t s.number) t.world s.number m event t.history placed_none refl
      (split.refused t h s b first cause answer stage best own among at none there may))
      runs_there)

pub locks_decided_kept : (t : Tracked) (s : SessionId) (b first : BackendId) (cause : Cause) (answer : GateAnswer) (work : Work) (table : ℕ) (best own : Heard) (among : BackendSet) → Invariant t
    → (t.world.machine s.number).point ≡ SplitDue (Locking work table) best own among false
    → is_refusal best.answer ≡ false
    → first_other among.bits best.answer (own.b.number + 1) (t.world.machine s.number).session.heard ≡ None
    → lowest (step t.world.gate (calls.Detach b)).0.attached.bits ≡ Some first
    → MayHappen t.world (Of s (Detached b cause answer)) → Invariant (tracked_after t (Of s (Detached b cause answer)))
locks_decided_kept t s b first cause answer work table best own among h at right none there may = locks_decided t h s b first cause answer work table best own among at right none there may
