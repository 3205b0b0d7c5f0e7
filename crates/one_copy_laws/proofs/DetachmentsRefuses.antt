-- The detachment behind which the kept answer decides that a statement, or the lock of a serial insert, is refused: the transaction dies in
-- the single run by that code, or, where it has died before, its death takes the code.
use Rattle.std.proofs.Common.{◌≡◌, ◌≢◌, ℕ, ◌+◌, Bool, true, false, List, [], ◌∷◌, refl, sym, ap, ◌∙◌, subst, arith, inl, inr}
use Rattle.std.specs.Prelude.{◌⊎◌, Option, Some, None}
use Rattle.pool_base.specs.declared.code.Code.{Code}
use Rattle.pool_base.specs.declared.session_id.SessionId.{SessionId}
use Rattle.pool_base.specs.declared.backend_id.BackendId.{BackendId}
use Rattle.pool_base.specs.declared.backend_set.BackendSet.{BackendSet}
use Rattle.pool_base.specs.declared.gate_call.GateCall.TheVariants as calls
use Rattle.pool_base.specs.declared.gate_call.GateAnswer.{GateAnswer}
use Rattle.schema.specs.declared.catalogue.TableDef.{TableDef}
use Rattle.backend_trait.specs.declared.answer.Answer.{Answer}
use Rattle.backend_trait.specs.declared.answer.Answer.TheVariants as answers
use Rattle.backend_trait.specs.Acting.{drawn_waiting}
use Rattle.snapshot_gate.specs.Function.{step}
use Rattle.session_machine.specs.declared.action.Cause.{Cause}
use Rattle.session_machine.specs.declared.action.SessionEvent.{SessionEvent}
use Rattle.session_machine.specs.declared.action.SessionEvent.TheVariants.{Detached}
use Rattle.session_machine.specs.declared.work.Work.{Work}
use Rattle.session_orders.specs.declared.outcome.Outcome.{Outcome}
use Rattle.session_machine.specs.declared.machine.GatePhase.{GatePhase}
use Rattle.session_machine.specs.declared.machine.GatePhase.TheVariants as phases
use Rattle.session_machine.specs.declared.machine.Heard.{Heard}
use Rattle.session_machine.specs.declared.machine.Machine.{Machine}
use Rattle.session_machine.specs.declared.machine.Session.{Session}
use Rattle.session_machine.specs.declared.machine.Ending.TheVariants.{Replies}
use Rattle.session_machine.specs.declared.machine.Stage.{Stage}
use Rattle.session_machine.specs.declared.machine.Stage.TheVariants.{Opening, Reading, Running, Locking, Inserting, Committing, Closing, RollingBack}
use Rattle.session_machine.specs.declared.machine.Point.{Point}
use Rattle.session_machine.specs.declared.machine.Point.TheVariants.{Resting, LookDue, SplitDue}
use Rattle.session_machine.specs.Answers.{lowest, first_other}
use Rattle.session_machine.specs.Rules.{due, closed, refused, refused_at, failing, error_of}
use Rattle.session_machine.specs.Classes.{class_in as own_class}
use Rattle.one_copy_model.specs.declared.deed.Deed.{Deed}
use Rattle.one_copy_model.specs.declared.deed.Deed.TheVariants.{Falls}
use Rattle.one_copy_model.specs.declared.deed.Entry.{Entry}
use Rattle.one_copy_model.specs.declared.event.Event.TheVariants.{Of}
use Rattle.one_copy_model.specs.SingleRun.{store_after, amended, answer_in, deeds_since}
use Rattle.one_copy_model.specs.World.{MayHappen}
use Rattle.one_copy_model.specs.Places.{place_of, refused_parted, decided_by}
use Rattle.one_copy_model.specs.Deaths.{stage_at, mail_or}
use Rattle.one_copy_model.specs.Tracking.{Told, Tracked, single, placed, deaths_first, tracked_after, in_commit}
use Rattle.one_copy_model.specs.Chains.{IsKept}
use Rattle.one_copy_model.specs.Orders.{OrderAt, IsStatement, IsClassedAt, is_of_commit}
use Rattle.one_copy_model.specs.Replies.{reply_to, statement_reply}
use Rattle.one_copy_model.specs.Standing.{Standing, Leaving, Ending, Stands, standing_in, leaving_of}
use Rattle.one_copy_model.specs.Invariant.{Invariant, FitsPoint, stops, HasReason, MayCode, AtDeath, where_live, wants_of, request_in, inserted_in}
use Rattle.one_copy_model.specs.Own.{told_by, stand, Own}
use Rattle.one_copy_model.proofs.Turning.{live_there}
use Rattle.one_copy_model.proofs.Calm.{free_of}
use Rattle.one_copy_model.proofs.Quiet.{real}
use Rattle.one_copy_model.proofs.Tables.{tables_there}
use Rattle.one_copy_model.proofs.Beginning.{free_own, begun_order}
use Rattle.one_copy_model.proofs.Endings.{Ends}
use Rattle.one_copy_model.proofs.Ending.{IsAside}
use Rattle.one_copy_model.proofs.Livings.{clear_dead, absent}
use Rattle.one_copy_laws.proofs.GateFinishing.{under_way}
use Rattle.one_copy_laws.proofs.FallsDeaths.{dead_at_death, point_asks, same_in}
use Rattle.one_copy_laws.proofs.DecidedParting.{facts_left, behind, lands_left}
use Rattle.one_copy_laws.proofs.DecidedTurning.{ends_facts}
use Rattle.one_copy_laws.proofs.DecidedDeciding as split
use Rattle.one_copy_laws.proofs.CommitsSteady.{leaves_in}
use Rattle.one_copy_laws.proofs.ResultsAmending.{may_fall, dies_to, code_since, amends, amended_says}
use Rattle.one_copy_laws.proofs.ResultsRefusing.{dies_of, dies_by, dies_order, dies_open, dies_deeds, dies_reason, dies_idle, places_live, places_amended, told_of, absent_live, stops_dies}

none_of_work : (work : Work) → None ≡ Some work → ⊥
none_of_work work e = cc

dies_closed : (session : Session) (stage : Stage) (work : Work) (code : Code) → dies_of stage ≡ Some work → closed false session stage (answers.Refused code) ≡ refused false session (error_of code)
dies_closed session (Reading work ticket) of code e = refl
dies_closed session (Running work) of code e = refl
dies_closed session (Locking work table) of code e = refl
dies_closed session (Opening work) of code e = absurd (none_of_work of e)
dies_closed session (Inserting work posted) of code e = absurd (none_of_work of e)
dies_closed session Committing of code e = absurd (none_of_work of e)
dies_closed session Closing of code e = absurd (none_of_work of e)
dies_closed session (RollingBack ending) of code e = absurd (none_of_work of e)

-- no opening is refused
dies_unopened : (session : Session) (stage : Stage) (work : Work) (best own : Heard) (among : BackendSet) → dies_of stage ≡ Some work → refused_parted session (SplitDue stage best own among false) ≡ []
dies_unopened session (Reading work ticket) of best own among e = refl
dies_unopened session (Running work) of best own among e = refl
dies_unopened session (Locking work table) of best own among e = refl
dies_unopened session (Opening work) of best own among e = absurd (none_of_work of e)
dies_unopened session (Inserting work posted) of best own among e = refl
dies_unopened session Committing of best own among e = refl
dies_unopened session Closing of best own among e = refl
dies_unopened session (RollingBack ending) of best own among e = refl

module _ (t : Tracked) (h : Invariant t) (s : SessionId) (b first : BackendId) (cause : Cause) (answer : GateAnswer) (stage : Stage) (work : Work) (of : dies_of stage ≡ Some work)
    (best own : Heard) (among : BackendSet) (code : Code) (is : best.answer ≡ answers.Refused code)
    (at : (t.world.machine s.number).point ≡ SplitDue stage best own among false)
    (none : first_other among.bits best.answer (own.b.number + 1) (t.world.machine s.number).session.heard ≡ None)
    (there : lowest (step t.world.gate (calls.Detach b)).0.attached.bits ≡ Some first)
    (may : MayHappen t.world (Of s (Detached b cause answer))) where
  abbrev m : Machine
  m = t.world.machine s.number

  abbrev mail : ℕ → Option Answer
  mail = t.world.mail s.number

  abbrev those : ℕ
  those = split.those t h s b first cause answer stage best own among at none there may

  abbrev looks : Session
  looks = split.looks t h s b first cause answer stage best own among at none there may

  abbrev event : SessionEvent
  event = Detached b cause (step t.world.gate (calls.Detach b)).1

  own_was : Own t.world.tables those t.history t.world.store m mail (t.orders s.number) (t.done s.number) (live_there t s.number) s.number
  own_was = split.own_was t h s b first cause answer stage best own among at none there may

  awake : m.point ≡ Resting → ⊥
  awake = split.awake t h s b first cause answer stage best own among at none there may

  inside : (changed : Bool) × (written : ℕ) × (m.session.gate ≡ phases.Live changed written)
  inside = dies_open stage (SplitDue stage best own among false) m.session.gate work of (subst (λ (p : Point). FitsPoint (stage_at p) p m.session.gate) at own_was.inside)

  stays : (k : ℕ) → stand m mail k ≢ Leaving
  stays k e =
      let z : false ≡ true = sym (ap in_commit inside.2) ∙ leaves_in (stage_at m.point) m.point m.session.gate (told_by m mail k) own_was.inside e in cc

  says : (told : Told) → t.orders s.number ≡ Some told → (w : Work) × IsStatement m.session told w
  says told e = dies_order m.session stage work told of (subst (λ (p : Point). OrderAt m.session p told) at (own_was.order_is told e))

  its : (told : Told) × (t.orders s.number ≡ Some told)
  its = told_of (t.orders s.number) (under_way m.point (t.orders s.number) awake own_was.orders)

  -- the reason of the kept code, whose backend may have left
  reason : (told : Told) → t.orders s.number ≡ Some told → HasReason t.world.tables stage s.number code told.entries t.history
  reason told e =
      own_was.reasons stage told code (ap stage_at at) e
      (inr (subst (λ (p : Point). IsKept p (answers.Refused code)) (sym at) is, (first.number, split.first_here t h s b first cause answer stage best own among at none there may)))

  reason_is : (told : Told) → t.orders s.number ≡ Some told → MayCode t.world.tables t.history s.number code ⊎ AtDeath t.world.tables s.number code told.entries t.history
  reason_is told e = dies_reason t.world.tables stage work s.number code told.entries t.history of (reason told e)

  now : live_there t s.number ≡ true → MayCode t.world.tables t.history s.number code
  now live = elim (reason_is its.0 its.1) [
    | inl may_now ↦ may_now
    | inr d ↦ absurd (let z : false ≡ true = sym (dead_at_death t.world.tables s.number code its.0.entries t.history d) ∙ live in cc)
  ]

  death : live_there t s.number ≡ false → (told : Told) → t.orders s.number ≡ Some told → AtDeath t.world.tables s.number code told.entries t.history
  death dead told e = elim (reason_is told e) [
    | inl may_now ↦ absurd (let z : None ≡ Some may_now.0 = sym (clear_dead t h s.number dead) ∙ may_now.1 in cc)
    | inr d ↦ d
  ]

  abbrev outcome : Outcome
  outcome = error_of code

  abbrev rolls : Stage
  rolls = RollingBack (Replies outcome)

  abbrev n : Machine
  n = due (record (failing looks) { heard = [] }) (LookDue rolls)

  untold : (k : ℕ) → told_by n mail k ≡ None
  untold k = ap (λ x. mail_or x None) (split.mail_none t h s b first cause answer stage best own among at none there may k)

  ending : (k : ℕ) → stand n mail k ≡ Ending
  ending k = ap (standing_in rolls) (untold k)

  aside : IsAside those m n mail mail
  aside = record {
    stays = λ k here. stays k;
    lasts = λ k here e. let z : Ending ≡ Leaving = sym (ending k) ∙ e in cc;
    outside = ap in_commit inside.2;
    idle = λ k other here e. dies_idle stage work other (told_by m mail k) of (sym (ap (λ (p : Point). inserted_in (stage_at p) (told_by m mail k)) at) ∙ e);
    idles = λ k other here e. let z : None ≡ Some other = e in cc;
  }

  goes_back : closed false looks stage best.answer ≡ n
  goes_back = ap (closed false looks stage) is ∙ dies_closed looks stage work code of ∙ ap (λ (g : GatePhase). refused_at false looks g outcome) inside.2

  deeds : place_of m.session m.point event ≡ Falls (Some code) ∷ []
  deeds = split.place t h s b first cause answer stage best own among at none there may ∙ ap (decided_by stage) is ∙ dies_deeds stage work code of

  -- by what the single run has behind it
  module _ (mid : List Entry) (ends : Ends t.world.tables s.number t.history mid)
      (told_there : (told : Told) → t.orders s.number ≡ Some told → answer_in (deeds_since s.number told.entries mid) ≡ Some (answers.Refused code))
      (places : placed (live_there t s.number) t.world s.number m event t.history ≡ mid) where
    rolls_own : Own t.world.tables those mid t.world.store n mail (t.orders s.number) (t.done s.number) false s.number
    rolls_own =
        free_own t.world.tables those t.history mid t.world.store m mail (t.orders s.number) (t.done s.number) (live_there t s.number) s.number
        (real s) (free_of m.point (split.free t h s b first cause answer stage best own among at none there may)) own_was n (t.orders s.number) (t.done s.number) false refl
        (subst (λ (g : GatePhase). FitsPoint (Some rolls) (LookDue rolls) g) (sym inside.2) refl)
        refl
        (λ x e. begun_order those (record (failing looks) { heard = [] }) x rolls refl)
        (λ k x here e. untold k)
        (λ k here. subst (λ (x : Standing). Stands (store_after t.world.tables mid) s.number (leaving_of t.world.tables s.number mid) x ((t.world.store k).transaction s.number) ((store_after t.world.tables mid).transaction s.number)) (sym (ending k)) ends.none)
        (λ u written e alive. absurd (absent_live ((store_after t.world.tables mid).transaction s.number) u ends.none alive))
        (λ k l here e is. absurd (let z : false ≡ true = ap is_of_commit e in cc))
        (ap request_in ends.clear)
        (λ told other e g. inl (
        let o = says told e in
        ap (λ x. reply_to x told.status told.begun (deeds_since s.number told.entries mid)) o.1.body
        ∙ ap (statement_reply (own_class o.1.checked.body)) (told_there told e) ∙ g))
        (under_way m.point (t.orders s.number) awake own_was.orders)
        (λ told e. tt)
        (λ told e. let most = own_was.since told e in let longer = ends.longer in omega (arith, most, longer))
        (λ k told here e g. absurd (let z : false ≡ true = g in cc))
        (λ k told e entered here g. own_was.done_first k told e entered here (stays k))

    ends_so : Invariant (tracked_after t (Of s (Detached b cause answer)))
    ends_so =
        subst (λ (x : GateAnswer). Invariant (tracked_after t (Of s (Detached b cause x)))) may.1.1
        (lands_left t h s b cause n mid
        (split.leads t h s b first cause answer stage best own among at none there may ∙ goes_back)
        (λ w. ap (λ (d : List Deed). deaths_first w event d t.history) deeds) places first there
        (ends_facts (behind t h s b) (facts_left t h s b) s n refl mid aside ends rolls_own))

  -- it is live there, and dies by the code
  dies_now : live_there t s.number ≡ true → Invariant (tracked_after t (Of s (Detached b cause answer)))
  dies_now live =
      ends_so (dies_to s.number t.history code)
      (dies_by t.world.tables s.number t.history code
      (ap (drawn_waiting (single t).tables (single t).next) (same_in ((single t).pending s.number) ∙ own_was.posts ∙ ap (λ (x : Bool). where_live x (wants_of m.point (stage_at m.point))) live)
      ∙ point_asks (single t).tables (single t).next m.point (subst (λ (ts : List TableDef). IsClassedAt ts m.point) (sym (tables_there t.world.tables t.history)) own_was.classed))
      (may_fall t.world.tables t.history s.number code (now live)) h.run)
      (λ told e. code_since s.number told.entries t.history code (own_was.since told e))
      (places_live (live_there t s.number) t.world s.number m event t.history (Falls (Some code) ∷ []) live deeds)

  -- it has died before
  died_before : live_there t s.number ≡ false → Invariant (tracked_after t (Of s (Detached b cause answer)))
  died_before dead =
      ends_so (amended s.number code t.history)
      (amends t.world.tables s.number code its.0.entries t.history (death dead its.0 its.1)
      (absent t h s.number dead) (clear_dead t h s.number dead) h.run)
      (λ told e. amended_says t.world.tables s.number code told.entries t.history (death dead told e))
      (places_amended (live_there t s.number) t.world s.number m event t.history code dead deeds refl
      (split.refused t h s b first cause answer stage best own among at none there may ∙ dies_unopened looks stage work best own among of))

  pub refuses_decided : Invariant (tracked_after t (Of s (Detached b cause answer)))
  refuses_decided = by (live_there t s.number) refl
    where
      by : (v : Bool) → live_there t s.number ≡ v → Invariant (tracked_after t (Of s (Detached b cause answer)))
      by true is = dies_now is
      by false is = died_before is

pub refuses_decided_kept : (t : Tracked) (s : SessionId) (b first : BackendId) (cause : Cause) (answer : GateAnswer) (stage : Stage) (best own : Heard) (among : BackendSet) (code : Code) → Invariant t
    → (t.world.machine s.number).point ≡ SplitDue stage best own among false
    → stops stage ≡ true
    → best.answer ≡ answers.Refused code
    → first_other among.bits best.answer (own.b.number + 1) (t.world.machine s.number).session.heard ≡ None
    → lowest (step t.world.gate (calls.Detach b)).0.attached.bits ≡ Some first
    → MayHappen t.world (Of s (Detached b cause answer)) → Invariant (tracked_after t (Of s (Detached b cause answer)))
refuses_decided_kept t s b first cause answer stage best own among code h at stopping is none there may =
    let w = stops_dies stage stopping in
    refuses_decided t h s b first cause answer stage w.0 w.1 best own among code is at none there may
