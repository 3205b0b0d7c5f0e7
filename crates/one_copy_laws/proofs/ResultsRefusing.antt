-- A Look at which a statement, or the lock of a serial insert, is refused: the transaction dies in the single run by that code.
use Rattle.std.proofs.Common.{◌≡◌, ◌≢◌, ℕ, ◌≤◌, Bool, true, false, List, [], ◌∷◌, length, refl, sym, ap, ◌∙◌, subst, arith, inl, inr}
use Rattle.std.specs.Prelude.{◌⊎◌, ◌&&◌, not, Option, Some, None, is_some, if◌then◌else◌}
use Rattle.pool_base.specs.declared.code.Code.{Code}
use Rattle.pool_base.specs.declared.session_id.SessionId.{SessionId}
use Rattle.pool_base.specs.declared.backend_id.BackendId.{BackendId}
use Rattle.pool_base.specs.declared.gate_call.View.{View}
use Rattle.pool_base.specs.declared.gate_call.GateCall.TheVariants as calls
use Rattle.pool_base.specs.declared.gate_call.GateAnswer.{GateAnswer}
use Rattle.pool_base.specs.declared.gate_call.GateAnswer.TheVariants.{Seen}
use Rattle.schema.specs.declared.catalogue.TableDef.{TableDef}
use Rattle.backend_trait.specs.declared.answer.Answer.{Answer}
use Rattle.backend_trait.specs.declared.answer.Answer.TheVariants as answers
use Rattle.backend_trait.specs.Store.{Live, Transaction, Absent, Alive, Store, settled, is_refusal, request_in as waiting_in}
use Rattle.backend_trait.specs.Acting.{drawn_waiting}
use Rattle.snapshot_gate.specs.Function.{view_of}
use Rattle.session_machine.specs.declared.action.SessionEvent.{SessionEvent}
use Rattle.session_machine.specs.declared.action.SessionEvent.TheVariants.{Called}
use Rattle.session_machine.specs.declared.work.Work.{Work}
use Rattle.session_machine.specs.Classes.{class_in as own_class}
use Rattle.session_orders.specs.declared.outcome.Outcome.{Outcome}
use Rattle.session_machine.specs.declared.machine.GatePhase.{GatePhase}
use Rattle.session_machine.specs.declared.machine.GatePhase.TheVariants as phases
use Rattle.session_machine.specs.declared.machine.Heard.{Heard}
use Rattle.session_machine.specs.declared.machine.Machine.{Machine}
use Rattle.session_machine.specs.declared.machine.Session.{Session}
use Rattle.session_machine.specs.declared.machine.Ending.TheVariants.{Replies}
use Rattle.session_machine.specs.declared.machine.Stage.{Stage}
use Rattle.session_machine.specs.declared.machine.Stage.TheVariants.{Opening, Reading, Running, Locking, Inserting, Committing, Closing, RollingBack}
use Rattle.session_machine.specs.declared.machine.Point.{Point}
use Rattle.session_machine.specs.declared.machine.Point.TheVariants.{Resting, LookDue, PostDue}
use Rattle.session_machine.specs.Answers.{goes_on as chain_goes_on, lowest, is_attached, counts, group_size, is_largest, is_kept, first_open, next_of, kept, first_other}
use Rattle.session_machine.specs.Rules.{due, called, granted, with_view, failing, primary, kind_of, asked, looked_at, judged, split, decided, closed, refused, refused_at, begun_at, error_of, read, chosen}
use Rattle.one_copy_model.specs.declared.deed.Deed.{Deed}
use Rattle.one_copy_model.specs.declared.deed.Deed.TheVariants.{Falls}
use Rattle.one_copy_model.specs.declared.deed.Entry.{Entry}
use Rattle.one_copy_model.specs.declared.event.Event.TheVariants.{Of}
use Rattle.one_copy_model.specs.World.{World, MayHappen}
use Rattle.one_copy_model.specs.Marks.{with_mark, marked}
use Rattle.one_copy_model.specs.SingleRun.{store_after, amended, after_death, IsRun, MayDo, deeds_since, answer_in}
use Rattle.one_copy_model.specs.Places.{place_of, opening_of, refused_opening, refused_look, code_in, at_granted, where_decided, decided_by, closing_look, closing_chain, closing_read, read_answer, one_kept, kept_of}
use Rattle.one_copy_model.specs.Deaths.{is_alive, recorded, stage_at, heard_from, mail_or}
use Rattle.one_copy_model.specs.Tracking.{Told, Tracked, single, tracked_after, placed, opened_if, with_code, in_commit}
use Rattle.one_copy_model.specs.Replies.{reply_to, statement_reply}
use Rattle.one_copy_model.specs.Chains.{IsInOrder, goes_up}
use Rattle.one_copy_model.specs.Orders.{OrderAt, OrderIn, IsStatement, IsClassedAt, is_of_commit}
use Rattle.one_copy_model.specs.Standing.{Standing, Leaving, Ending, Stands, standing_in, leaving_of}
use Rattle.one_copy_model.specs.Invariant.{Invariant, FitsPoint, stops, fits_stage, where_live, wants_of, request_in, inserted_in, MayCode, AtDeath, HasReason}
use Rattle.one_copy_model.specs.Own.{told_by, stand, IsIn, Own}
use Rattle.one_copy_model.proofs.Counts.{still}
use Rattle.one_copy_model.proofs.Turning.{facts_of, live_there}
use Rattle.one_copy_model.proofs.Landing.{same_mail}
use Rattle.one_copy_model.proofs.Places.{with_at-same, with_at-other}
use Rattle.one_copy_model.proofs.Calm.{free_of, is_waiting}
use Rattle.one_copy_model.proofs.Quiet.{real}
use Rattle.one_copy_model.proofs.Tables.{tables_there}
use Rattle.one_copy_model.proofs.Beginning.{free_own, no_mail}
use Rattle.one_copy_model.proofs.Deeds.{deed_passes}
use Rattle.one_copy_model.proofs.Ending.{IsAside, ends_holds}
use Rattle.one_copy_model.proofs.Endings.{Ends}
use Rattle.one_copy_model.proofs.Finding.{nobody_attached, least_found, one_of_eight}
use Rattle.one_copy_model.proofs.Livings.{and_true, absent, clear_dead}
use Rattle.one_copy_laws.proofs.GateCalling.{called_to, lands_call, seen_view}
use Rattle.one_copy_laws.proofs.GateFinishing.{under_way}
use Rattle.one_copy_laws.proofs.LooksEndings.{found_among, among_heard, same_test}
use Rattle.one_copy_laws.proofs.LooksNexts.{looked_is, closing_is}
use Rattle.one_copy_laws.proofs.LooksShowing.{seen_is}
use Rattle.one_copy_laws.proofs.LooksLooking.{strands_kept}
use Rattle.one_copy_laws.proofs.FallsDeaths.{point_asks, dead_at_death, same_in}
use Rattle.one_copy_laws.proofs.CommitsSteady.{leaves_in}
use Rattle.one_copy_laws.proofs.ResultsAmending.{may_fall, dies_to, code_since, amends, amended_says}

-- the statement of a stage at which a refusal is a death of its own
abbrev pub dies_of : Stage → Option Work
dies_of (Opening work) = None
dies_of (Reading work ticket) = Some work
dies_of (Running work) = Some work
dies_of (Locking work table) = Some work
dies_of (Inserting work posted) = None
dies_of Committing = None
dies_of Closing = None
dies_of (RollingBack ending) = None

none_of_work : (work : Work) → None ≡ Some work → ⊥
none_of_work work e = cc

pub dies_order : (session : Session) (stage : Stage) (work : Work) (told : Told) → dies_of stage ≡ Some work → OrderIn session stage told → (w : Work) × IsStatement session told w
dies_order session (Reading work ticket) of told e o = (work, o)
dies_order session (Running work) of told e o = (work, o)
dies_order session (Locking work table) of told e o = (work, o)
dies_order session (Opening work) of told e o = absurd (none_of_work of e)
dies_order session (Inserting work posted) of told e o = absurd (none_of_work of e)
dies_order session Committing of told e o = absurd (none_of_work of e)
dies_order session Closing of told e o = absurd (none_of_work of e)
dies_order session (RollingBack ending) of told e o = absurd (none_of_work of e)

pub dies_open : (stage : Stage) (point : Point) (phase : GatePhase) (work : Work) → dies_of stage ≡ Some work → FitsPoint (Some stage) point phase → (changed : Bool) × (written : ℕ) × (phase ≡ phases.Live changed written)
dies_open (Reading work ticket) point phase of e fits = opened phase fits
  where
    opened : (phase : GatePhase) → fits_stage (Reading work ticket) phase ≡ true → (changed : Bool) × (written : ℕ) × (phase ≡ phases.Live changed written)
    opened (phases.Live changed written) f = (changed, written, refl)
    opened phases.Out f = absurd (let z : false ≡ true = f in cc)
    opened phases.InSnapshot f = absurd (let z : false ≡ true = f in cc)
    opened phases.InCommit f = absurd (let z : false ≡ true = f in cc)
dies_open (Running work) point phase of e fits = opened phase fits
  where
    opened : (phase : GatePhase) → fits_stage (Running work) phase ≡ true → (changed : Bool) × (written : ℕ) × (phase ≡ phases.Live changed written)
    opened (phases.Live changed written) f = (changed, written, refl)
    opened phases.Out f = absurd (let z : false ≡ true = f in cc)
    opened phases.InSnapshot f = absurd (let z : false ≡ true = f in cc)
    opened phases.InCommit f = absurd (let z : false ≡ true = f in cc)
dies_open (Locking work table) point phase of e fits = opened phase fits
  where
    opened : (phase : GatePhase) → fits_stage (Locking work table) phase ≡ true → (changed : Bool) × (written : ℕ) × (phase ≡ phases.Live changed written)
    opened (phases.Live changed written) f = (changed, written, refl)
    opened phases.Out f = absurd (let z : false ≡ true = f in cc)
    opened phases.InSnapshot f = absurd (let z : false ≡ true = f in cc)
    opened phases.InCommit f = absurd (let z : false ≡ true = f in cc)
dies_open (Opening work) point phase of e fits = absurd (none_of_work of e)
dies_open (Inserting work posted) point phase of e fits = absurd (none_of_work of e)
dies_open Committing point phase of e fits = absurd (none_of_work of e)
dies_open Closing point phase of e fits = absurd (none_of_work of e)
dies_open (RollingBack ending) point phase of e fits = absurd (none_of_work of e)

pub dies_deeds : (stage : Stage) (work : Work) (code : Code) → dies_of stage ≡ Some work → decided_by stage (answers.Refused code) ≡ Falls (Some code) ∷ []
dies_deeds (Reading work ticket) of code e = refl
dies_deeds (Running work) of code e = refl
dies_deeds (Locking work table) of code e = refl
dies_deeds (Opening work) of code e = absurd (none_of_work of e)
dies_deeds (Inserting work posted) of code e = absurd (none_of_work of e)
dies_deeds Committing of code e = absurd (none_of_work of e)
dies_deeds Closing of code e = absurd (none_of_work of e)
dies_deeds (RollingBack ending) of code e = absurd (none_of_work of e)

dies_closed : (session : Session) (stage : Stage) (work : Work) (code : Code) → dies_of stage ≡ Some work → closed true session stage (answers.Refused code) ≡ refused true session (error_of code)
dies_closed session (Reading work ticket) of code e = refl
dies_closed session (Running work) of code e = refl
dies_closed session (Locking work table) of code e = refl
dies_closed session (Opening work) of code e = absurd (none_of_work of e)
dies_closed session (Inserting work posted) of code e = absurd (none_of_work of e)
dies_closed session Committing of code e = absurd (none_of_work of e)
dies_closed session Closing of code e = absurd (none_of_work of e)
dies_closed session (RollingBack ending) of code e = absurd (none_of_work of e)

pub dies_reason : (tables : List TableDef) (stage : Stage) (work : Work) (s : ℕ) (code : Code) (since : ℕ) (h : List Entry) → dies_of stage ≡ Some work
    → HasReason tables stage s code since h → MayCode tables h s code ⊎ AtDeath tables s code since h
dies_reason tables (Reading work ticket) of s code since h e r = r
dies_reason tables (Running work) of s code since h e r = r
dies_reason tables (Locking work table) of s code since h e r = r
dies_reason tables (Opening work) of s code since h e r = absurd (none_of_work of e)
dies_reason tables (Inserting work posted) of s code since h e r = absurd (none_of_work of e)
dies_reason tables Committing of s code since h e r = absurd (none_of_work of e)
dies_reason tables Closing of s code since h e r = absurd (none_of_work of e)
dies_reason tables (RollingBack ending) of s code since h e r = absurd (none_of_work of e)

dies_quiet : (session : Session) (stage : Stage) (work : Work) → dies_of stage ≡ Some work → refused_look session (LookDue stage) ≡ []
dies_quiet session (Reading work ticket) of e = refl
dies_quiet session (Running work) of e = refl
dies_quiet session (Locking work table) of e = refl
dies_quiet session (Opening work) of e = absurd (none_of_work of e)
dies_quiet session (Inserting work posted) of e = absurd (none_of_work of e)
dies_quiet session Committing of e = refl
dies_quiet session Closing of e = refl
dies_quiet session (RollingBack ending) of e = refl

pub dies_idle : (stage : Stage) (work other : Work) (told : Option Answer) → dies_of stage ≡ Some work → inserted_in (Some stage) told ≡ Some other → ⊥
dies_idle (Reading work ticket) of other told e f = none_of_work other f
dies_idle (Running work) of other told e f = none_of_work other f
dies_idle (Locking work table) of other told e f = none_of_work other f
dies_idle (Opening work) of other told e f = none_of_work of e
dies_idle (Inserting work posted) of other told e f = none_of_work of e
dies_idle Committing of other told e f = none_of_work of e
dies_idle Closing of other told e f = none_of_work of e
dies_idle (RollingBack ending) of other told e f = none_of_work of e

pub dies_by : (tables : List TableDef) → (s : ℕ) (h : List Entry) (code : Code)
    → drawn_waiting (store_after tables h).tables (store_after tables h).next (waiting_in ((store_after tables h).pending s)) ≡ (store_after tables h).next
    → MayDo (store_after tables h) s (Falls (Some code)) → IsRun tables h → Ends tables s h (dies_to s h code)
dies_by tables s h code draws may run =
    let x : Store = settled (store_after tables h) s Absent in
    let falls : after_death (store_after tables h) s ≡ x = (λ i. record x { next = draws i }) in
    record {
      passes = λ o other. deed_passes tables s o other (Falls (Some code)) h x (ap marked falls) refl refl
          (with_at-other (store_after tables h).transaction s Absent o other) (with_at-other (store_after tables h).pending s None o other);
      rows = ap (λ (y : Store). y.rows) falls;
      next = ap (λ (y : Store). y.next) falls;
      none = ap (λ (y : Store). y.transaction s) falls ∙ with_at-same (store_after tables h).transaction s Absent;
      clear = ap (λ (y : Store). with_mark y s (y.pending s)) falls ∙ ap (with_mark x s) (with_at-same (store_after tables h).pending s None);
      run = (may, run);
      longer = (let z : length h ≤ length (dies_to s h code) = omega arith in z);
    }

pub places_live : (live : Bool) (w : World) (s : ℕ) (m : Machine) (event : SessionEvent) (history : List Entry) (deeds : List Deed) → live ≡ true → place_of m.session m.point event ≡ deeds
    → placed live w s m event history ≡ recorded s deeds history
places_live true w s m event history deeds e place = ap (λ d. recorded s d history) place
places_live false w s m event history deeds e place = absurd (let z : false ≡ true = e in cc)

opens_nothing : (alive : Bool) (s : ℕ) (history : List Entry) → opened_if alive s [] history ≡ history
opens_nothing true s history = refl
opens_nothing false s history = refl

pub places_amended : (live : Bool) (w : World) (s : ℕ) (m : Machine) (event : SessionEvent) (history : List Entry) (code : Code) → live ≡ false
    → place_of m.session m.point event ≡ Falls (Some code) ∷ [] → opening_of m.point event ≡ [] → refused_opening m.session m.point event ≡ []
    → placed live w s m event history ≡ amended s code history
places_amended true w s m event history code dead place opening refused = absurd (let z : true ≡ false = dead in cc)
places_amended false w s m event history code dead place opening refused =
    ap (λ d. recorded s d (opened_if (is_alive w s) s (opening_of m.point event) (with_code s (code_in (place_of m.session m.point event)) history))) refused
    ∙ ap (λ d. opened_if (is_alive w s) s d (with_code s (code_in (place_of m.session m.point event)) history)) opening
    ∙ opens_nothing (is_alive w s) s (with_code s (code_in (place_of m.session m.point event)) history)
    ∙ ap (λ d. with_code s (code_in d) history) place

pub told_of : (found : Option Told) → is_some found ≡ true → (told : Told) × (found ≡ Some told)
told_of (Some told) e = (told, refl)
told_of None e = absurd (let z : false ≡ true = e in cc)

pub absent_live : (x : Transaction) (u : Live) → x ≡ Absent → x ≡ Alive u → ⊥
absent_live x u e f = let z : Absent ≡ Alive u = sym e ∙ f in cc

module _ (t : Tracked) (h : Invariant t) (s : SessionId) (stage : Stage) (work : Work) (of : dies_of stage ≡ Some work) (at : (t.world.machine s.number).point ≡ LookDue stage)
    (first : BackendId) (there : lowest t.world.gate.attached.bits ≡ Some first) where
  abbrev m : Machine
  m = t.world.machine s.number

  abbrev attached : ℕ
  attached = t.world.gate.attached.bits

  abbrev mail : ℕ → Option Answer
  mail = t.world.mail s.number

  abbrev view : View
  view = view_of t.world.gate

  abbrev looks : Session
  looks = with_view m.session view

  abbrev event : SessionEvent
  event = Called calls.Look (Seen view)

  own_was : Own t.world.tables attached t.history t.world.store m mail (t.orders s.number) (t.done s.number) (live_there t s.number) s.number
  own_was = (facts_of t h).own s.number

  free : is_waiting m.point ≡ false
  free = ap is_waiting at

  awake : m.point ≡ Resting → ⊥
  awake rest = let z : LookDue stage ≡ Resting = sym at ∙ rest in cc

  inside : (changed : Bool) × (written : ℕ) × (m.session.gate ≡ phases.Live changed written)
  inside = dies_open stage (LookDue stage) m.session.gate work of (subst (λ (p : Point). FitsPoint (stage_at p) p m.session.gate) at own_was.inside)

  mail_none : (b : ℕ) → mail b ≡ None
  mail_none b = no_mail t.world.tables attached t.history t.history t.world.store m mail (t.orders s.number) (t.done s.number) (live_there t s.number) s.number (real s) (free_of m.point free) own_was b

  told_heard : (b : ℕ) → told_by m mail b ≡ heard_from m.session.heard b
  told_heard b = ap (λ x. mail_or x (heard_from m.session.heard b)) (mail_none b)

  stays : (b : ℕ) → stand m mail b ≢ Leaving
  stays b e =
      let z : false ≡ true = sym (ap in_commit inside.2) ∙ leaves_in (stage_at m.point) m.point m.session.gate (told_by m mail b) own_was.inside e in cc

  says : (told : Told) → t.orders s.number ≡ Some told → (w : Work) × IsStatement m.session told w
  says told e = dies_order m.session stage work told of (subst (λ (p : Point). OrderAt m.session p told) at (own_was.order_is told e))

  -- the code of an attached backend decides
  module _ (code : Code) (b : ℕ) (here : IsIn attached b) (refuses : heard_from m.session.heard b ≡ Some (answers.Refused code))
      (leads : looked_at looks stage (primary looks) ≡ closed true looks stage (answers.Refused code))
      (decides : closing_look looks stage (primary looks) ≡ Some (answers.Refused code)) where
    abbrev outcome : Outcome
    outcome = error_of code

    abbrev rolls : Stage
    rolls = RollingBack (Replies outcome)

    abbrev n : Machine
    n = due (record (failing looks) { heard = [] }) (PostDue rolls first)

    reason : (told : Told) → t.orders s.number ≡ Some told → MayCode t.world.tables t.history s.number code ⊎ AtDeath t.world.tables s.number code told.entries t.history
    reason told e =
        dies_reason t.world.tables stage work s.number code told.entries t.history of
        (own_was.reasons stage told code (ap stage_at at) e (inl (b, here, told_heard b ∙ refuses)))

    untold : (c : ℕ) → told_by n mail c ≡ None
    untold c = ap (λ x. mail_or x None) (mail_none c)

    ending : (c : ℕ) → stand n mail c ≡ Ending
    ending c = ap (standing_in rolls) (untold c)

    rolls_order : IsInOrder attached n rolls
    rolls_order = record {
      rising = tt;
      above = λ c e. tt;
      below = λ c d up here less told. elim told [
        | inl e ↦ absurd (
            let z : Some first.number ≡ Some d = e in
            let same : first.number ≡ d = cc in
            let low : first.number ≤ c = least_found (is_attached attached) first (record { number = c; below_8 = one_of_eight attached c h.few here }) there here in
            omega (arith, same, low, less))
        | inr e ↦ absurd (let z : false ≡ true = e in cc)
      ];
      one = λ single. absurd (let z : true ≡ false = single in cc);
    }

    aside : IsAside attached m n mail mail
    aside = record {
      stays = λ c here. stays c;
      lasts = λ c here e. let z : Ending ≡ Leaving = sym (ending c) ∙ e in cc;
      outside = ap in_commit inside.2;
      idle = λ c other here e. dies_idle stage work other (told_by m mail c) of (sym (ap (λ (p : Point). inserted_in (stage_at p) (told_by m mail c)) at) ∙ e);
      idles = λ c other here e. let z : None ≡ Some other = e in cc;
    }

    place : place_of m.session m.point event ≡ Falls (Some code) ∷ []
    place = ap (at_granted looks) at ∙ ap (where_decided stage) decides ∙ dies_deeds stage work code of

    goes_back : closed true looks stage (answers.Refused code) ≡ n
    goes_back = dies_closed looks stage work code of ∙ ap (λ (g : GatePhase). refused_at true looks g outcome) inside.2 ∙ ap (begun_at (failing looks) rolls) there

    -- the single run behind it
    module _ (mid : List Entry) (ends : Ends t.world.tables s.number t.history mid)
        (replied : (told : Told) → t.orders s.number ≡ Some told → answer_in (deeds_since s.number told.entries mid) ≡ Some (answers.Refused code))
        (places : placed (live_there t s.number) t.world s.number m event t.history ≡ mid) where
      rolls_own : Own t.world.tables attached mid t.world.store n mail (t.orders s.number) (t.done s.number) false s.number
      rolls_own =
          free_own t.world.tables attached t.history mid t.world.store m mail (t.orders s.number) (t.done s.number) (live_there t s.number) s.number
          (real s) (free_of m.point free) own_was n (t.orders s.number) (t.done s.number) false refl
          (subst (λ (g : GatePhase). FitsPoint (Some rolls) (PostDue rolls first) g) (sym inside.2) refl)
          refl
          (λ x e. subst (IsInOrder attached n) (let z : Some rolls ≡ Some x = e in let same : rolls ≡ x = cc in same) rolls_order)
          (λ c x here e. untold c)
          (λ c here. subst (λ (x : Standing). Stands (store_after t.world.tables mid) s.number (leaving_of t.world.tables s.number mid) x ((t.world.store c).transaction s.number) ((store_after t.world.tables mid).transaction s.number)) (sym (ending c)) ends.none)
          (λ u written e alive. absurd (absent_live ((store_after t.world.tables mid).transaction s.number) u ends.none alive))
          (λ c l here e is. absurd (let z : false ≡ true = ap is_of_commit e in cc))
          (ap request_in ends.clear)
          (λ told other e f. inl (
          let o = says told e in
          ap (λ x. reply_to x told.status told.begun (deeds_since s.number told.entries mid)) o.1.body
          ∙ ap (statement_reply (own_class o.1.checked.body)) (replied told e) ∙ f))
          (under_way m.point (t.orders s.number) awake own_was.orders)
          (λ told e. tt)
          (λ told e. let most = own_was.since told e in let longer = ends.longer in omega (arith, most, longer))
          (λ c told here e f. absurd (let z : false ≡ true = f in cc))
          (λ c told e entered here f. own_was.done_first c told e entered here (stays c))

      rolls_on : Invariant (called_to t s calls.Look (Seen view) t.world.gate n mid (t.orders s.number) (t.done s.number))
      rolls_on =
          same_mail t s.number n t.world.gate mail mid (t.orders s.number) (t.done s.number) refl
          (ends_holds t h s n t.world.gate mail mid (t.orders s.number) (t.done s.number) refl
          (still t.world.gate t.world.machine m.session.gate m.session.gate refl (facts_of t h).counts) aside ends rolls_own)

      refused_with : Invariant (tracked_after t (Of s event))
      unfolding called granted
      refused_with =
          lands_call t s calls.Look (Seen view) t.world.gate n mid (t.orders s.number) (t.done s.number) refl refl
          (ap (granted looks) at ∙ leads ∙ goes_back) places refl refl rolls_on

    -- it is live there, and dies now
    dies_now : live_there t s.number ≡ true → Invariant (tracked_after t (Of s event))
    dies_now live = refused_with (dies_to s.number t.history code)
        (dies_by t.world.tables s.number t.history code draws (may_fall t.world.tables t.history s.number code may) h.run)
        (λ told e. code_since s.number told.entries t.history code (own_was.since told e))
        (places_live (live_there t s.number) t.world s.number m event t.history (Falls (Some code) ∷ []) live place)
      where
        dead : (since : ℕ) → AtDeath t.world.tables s.number code since t.history → ⊥
        dead since d = let z : true ≡ false = sym live ∙ dead_at_death t.world.tables s.number code since t.history d in cc

        may : MayCode t.world.tables t.history s.number code
        may =
            let told = told_of (t.orders s.number) (under_way m.point (t.orders s.number) awake own_was.orders) in
            elim (reason told.0 told.1) [ inl now ↦ now | inr d ↦ absurd (dead told.0.entries d) ]

        draws : drawn_waiting (single t).tables (single t).next (waiting_in ((single t).pending s.number)) ≡ (single t).next
        draws =
            ap (drawn_waiting (single t).tables (single t).next) (same_in ((single t).pending s.number) ∙ own_was.posts ∙ ap (λ (x : Bool). where_live x (wants_of m.point (stage_at m.point))) live)
            ∙ point_asks (single t).tables (single t).next m.point (subst (λ (ts : List TableDef). IsClassedAt ts m.point) (sym (tables_there t.world.tables t.history)) own_was.classed)

    -- it has died there, and the death is amended
    died_before : live_there t s.number ≡ false → Invariant (tracked_after t (Of s event))
    died_before gone = refused_with (amended s.number code t.history)
        (amends t.world.tables s.number code first_told.0.entries t.history (death first_told.0 first_told.1) (absent t h s.number gone) (clear_dead t h s.number gone) h.run)
        (λ told e. amended_says t.world.tables s.number code told.entries t.history (death told e))
        (places_amended (live_there t s.number) t.world s.number m event t.history code gone place refl (ap (refused_look looks) at ∙ dies_quiet looks stage work of))
      where
        first_told : (told : Told) × (t.orders s.number ≡ Some told)
        first_told = told_of (t.orders s.number) (under_way m.point (t.orders s.number) awake own_was.orders)

        death : (told : Told) → t.orders s.number ≡ Some told → AtDeath t.world.tables s.number code told.entries t.history
        death told e = elim (reason told e) [
          | inl now ↦ absurd (let z : None ≡ Some now.0 = sym (clear_dead t h s.number gone) ∙ now.1 in cc)
          | inr d ↦ d
        ]

    refused_as : (v : Bool) → live_there t s.number ≡ v → Invariant (tracked_after t (Of s event))
    refused_as true e = dies_now e
    refused_as false e = died_before e

    pub refused_to : Invariant (tracked_after t (Of s event))
    refused_to = refused_as (live_there t s.number) refl

-- The chain of a run or of a lock is at its end, and no answers differ.

pub stops_dies : (stage : Stage) → stops stage ≡ true → (work : Work) × (dies_of stage ≡ Some work)
stops_dies (Running work) e = (work, refl)
stops_dies (Locking work table) e = (work, refl)
stops_dies stage e = absurd (let z : false ≡ true = e in cc)

stops_up : (stage : Stage) → stops stage ≡ true → goes_up stage ≡ true
stops_up (Running work) e = refl
stops_up (Locking work table) e = refl
stops_up stage e = absurd (let z : false ≡ true = e in cc)

module _ (t : Tracked) (h : Invariant t) (s : SessionId) (stage : Stage) (work : Work) (of : dies_of stage ≡ Some work) (up : goes_up stage ≡ true) (at : (t.world.machine s.number).point ≡ LookDue stage)
    (first : BackendId) (there : lowest t.world.gate.attached.bits ≡ Some first)
    (end : next_of (kind_of stage) t.world.gate.attached.bits (t.world.machine s.number).session.heard ≡ None)
    (best : Heard) (found : kept t.world.gate.attached.bits (t.world.machine s.number).session.heard ≡ Some best)
    (alike : first_other t.world.gate.attached.bits best.answer 0 (t.world.machine s.number).session.heard ≡ None)
    (code : Code) (is : best.answer ≡ answers.Refused code) where
  abbrev hs : List Heard
  hs = (t.world.machine s.number).session.heard

  abbrev sees : Session
  sees = with_view (t.world.machine s.number).session (view_of t.world.gate)

  abbrev bits : ℕ
  bits = t.world.gate.attached.bits

  best_here : IsIn bits best.b.number
  unfolding is_kept
  best_here = (and_true (counts bits best) (is_largest bits hs (group_size bits hs best.answer)) (found_among (is_kept bits hs) hs best found).0).0

  best_heard : heard_from hs best.b.number ≡ Some (answers.Refused code)
  best_heard =
      among_heard hs best (((facts_of t h).own s.number).in_order stage (ap stage_at at)).rising (found_among (is_kept bits hs) hs best found).1 ∙ ap Some is

  goes_none : chain_goes_on bits hs best.answer ≡ false
  goes_none = ap (λ (a : Answer). not (is_refusal a) && is_some (first_open bits hs)) is

  chain_leads : looked_at sees stage (primary sees) ≡ closed true sees stage (answers.Refused code)
  unfolding asked
  chain_leads =
      ap (looked_at sees stage) there ∙ looked_is sees stage up ∙ ap (asked sees stage) end ∙ ap (judged sees stage) found
      ∙ ap (split true sees stage best sees.view.attached (chain_goes_on bits hs best.answer)) alike
      ∙ ap (decided true sees stage best.answer) goes_none ∙ ap (closed true sees stage) is

  chain_decides : closing_look sees stage (primary sees) ≡ Some (answers.Refused code)
  chain_decides =
      ap (closing_look sees stage) there ∙ closing_is sees stage up ∙ ap (closing_chain sees) end ∙ ap (kept_of sees) found
      ∙ ap (λ (x : Bool). one_kept x (first_other bits best.answer 0 hs) best.answer) goes_none
      ∙ ap (λ (x : Option Heard). one_kept false x best.answer) alike ∙ ap Some is

  chain_refused : Invariant (tracked_after t (Of s (Called calls.Look (Seen (view_of t.world.gate)))))
  chain_refused = refused_to t h s stage work of at first there code best.b.number best_here best_heard chain_leads chain_decides

-- a Look at a stage, where a backend is attached, and where none is
pub look_at : (t : Tracked) (s : SessionId) (answer : GateAnswer) (stage : Stage) → Invariant t → (t.world.machine s.number).point ≡ LookDue stage
    → MayHappen t.world (Of s (Called calls.Look answer))
    → ((first : BackendId) → lowest t.world.gate.attached.bits ≡ Some first → Invariant (tracked_after t (Of s (Called calls.Look (Seen (view_of t.world.gate))))))
    → Invariant (tracked_after t (Of s (Called calls.Look answer)))
look_at t s answer stage h at may seen = by (lowest t.world.gate.attached.bits) refl
  where
    by : (first : Option BackendId) → lowest t.world.gate.attached.bits ≡ first → Invariant (tracked_after t (Of s (Called calls.Look answer)))
    by (Some first) there =
        let v = seen_view answer may.0.1 in
        subst (λ (a : GateAnswer). Invariant (tracked_after t (Of s (Called calls.Look a)))) (sym (v.1 ∙ ap Seen (seen_is (view_of t.world.gate) v.0 (may.1.1 ∙ v.1)))) (seen first there)
    by None there = strands_kept t s answer stage h at (nobody_attached t.world.gate.attached.bits h.few there) may

pub refused_kept : (t : Tracked) (s : SessionId) (answer : GateAnswer) (stage : Stage) (best : Heard) (code : Code) → Invariant t → (t.world.machine s.number).point ≡ LookDue stage
    → stops stage ≡ true
    → next_of (kind_of stage) t.world.gate.attached.bits (t.world.machine s.number).session.heard ≡ None
    → kept t.world.gate.attached.bits (t.world.machine s.number).session.heard ≡ Some best
    → first_other t.world.gate.attached.bits best.answer 0 (t.world.machine s.number).session.heard ≡ None
    → best.answer ≡ answers.Refused code
    → MayHappen t.world (Of s (Called calls.Look answer)) → Invariant (tracked_after t (Of s (Called calls.Look answer)))
refused_kept t s answer stage best code h at stopping end found alike is may =
    let w = stops_dies stage stopping in
    look_at t s answer stage h at may (λ first there. chain_refused t h s stage w.0 w.1 (stops_up stage stopping) at first there end best found alike code is)

-- The backend that reads has refused.

module _ (t : Tracked) (h : Invariant t) (s : SessionId) (work : Work) (ticket : ℕ) (at : (t.world.machine s.number).point ≡ LookDue (Reading work ticket))
    (first : BackendId) (there : lowest t.world.gate.attached.bits ≡ Some first)
    (one : Heard) (more : List Heard) (heard : (t.world.machine s.number).session.heard ≡ one ∷ more) (here : IsIn t.world.gate.attached.bits one.b.number)
    (code : Code) (is : one.answer ≡ answers.Refused code) where
  abbrev reads : Stage
  reads = Reading work ticket

  abbrev seen_by : Session
  seen_by = with_view (t.world.machine s.number).session (view_of t.world.gate)

  reader_heard : heard_from (t.world.machine s.number).session.heard one.b.number ≡ Some (answers.Refused code)
  reader_heard =
      ap (λ (xs : List Heard). heard_from xs one.b.number) heard
      ∙ ap (λ (v : Bool). if v then Some one.answer else heard_from more one.b.number) (same_test one.b.number) ∙ ap Some is

  reader_leads : looked_at seen_by reads (primary seen_by) ≡ closed true seen_by reads (answers.Refused code)
  reader_leads =
      ap (looked_at seen_by reads) there ∙ ap (read seen_by work ticket) heard
      ∙ ap (λ (v : Bool). if v then closed true seen_by reads one.answer else chosen seen_by work ticket) here ∙ ap (closed true seen_by reads) is

  reader_decides : closing_look seen_by reads (primary seen_by) ≡ Some (answers.Refused code)
  reader_decides =
      ap (closing_look seen_by reads) there ∙ ap (closing_read seen_by) heard ∙ ap (λ (v : Bool). read_answer v one.answer) here ∙ ap Some is

  reader_refused : Invariant (tracked_after t (Of s (Called calls.Look (Seen (view_of t.world.gate)))))
  reader_refused = refused_to t h s reads work refl at first there code one.b.number here reader_heard reader_leads reader_decides

pub refused_read_kept : (t : Tracked) (s : SessionId) (answer : GateAnswer) (work : Work) (ticket : ℕ) (one : Heard) (more : List Heard) (code : Code) → Invariant t
    → (t.world.machine s.number).point ≡ LookDue (Reading work ticket)
    → (t.world.machine s.number).session.heard ≡ one ∷ more
    → counts t.world.gate.attached.bits one ≡ true
    → one.answer ≡ answers.Refused code
    → MayHappen t.world (Of s (Called calls.Look answer)) → Invariant (tracked_after t (Of s (Called calls.Look answer)))
refused_read_kept t s answer work ticket one more code h at heard here is may =
    look_at t s answer (Reading work ticket) h at may (λ first there. reader_refused t h s work ticket at first there one more heard here code is)
