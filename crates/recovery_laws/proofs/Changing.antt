-- What an event of the sessions leaves of the single run: changes stay within the masks, and rows of tables that are not touched stay.
use Rattle.std.proofs.Common.{◌≡◌, ◌≢◌, ◌⊎◌, ◌≤◌, ◌+◌, ℕ, Bool, true, false, List, [], ◌∷◌, length, refl, sym, ap, ◌∙◌, subst, inl, inr, nat_lt}
use Rattle.std.specs.Prelude.{is_some, bit_or, if◌then◌else◌, Option, Some, None}
use Rattle.std.specs.FinMap as fin
use Rattle.pool_base.specs.declared.code.Code.{Code}
use Rattle.pool_base.specs.declared.session_id.SessionId.{SessionId}
use Rattle.pool_base.specs.declared.gate_call.GateCall.{GateCall}
use Rattle.pool_base.specs.declared.gate_call.GateCall.TheVariants as calls
use Rattle.pool_base.specs.declared.gate_call.GateAnswer.{GateAnswer}
use Rattle.pool_base.specs.declared.gate_call.GateAnswer.TheVariants.{Seen, Granted, Held, Spent}
use Rattle.schema.specs.declared.catalogue.TableDef.{TableDef}
use Rattle.catalogue.specs.declared.checked.Checked.{Checked}
use Rattle.checked_sql.specs.OfCatalogue.{is_of}
use Rattle.sql_eval.specs.declared.row.Row.{Row}
use Rattle.backend_trait.specs.declared.request.Request.{Request}
use Rattle.backend_trait.specs.declared.request.Request.TheVariants as requests
use Rattle.backend_trait.specs.declared.answer.Answer.{Answer}
use Rattle.backend_trait.specs.declared.answer.Answer.TheVariants as answers
use Rattle.backend_trait.specs.Keys.{Place}
use Rattle.backend_trait.specs.Rows.{Rows}
use Rattle.backend_trait.specs.Store.{Live, Transaction, Absent, Alive, Dead, Pending, Store}
use Rattle.backend_trait.specs.Acts.{MayAnswer, WhereSome}
use Rattle.session_machine.specs.declared.work.Class.{Class}
use Rattle.session_machine.specs.declared.work.Class.TheVariants as classes
use Rattle.session_machine.specs.declared.work.Work.{Work}
use Rattle.session_orders.specs.declared.order.OrderBody.{OrderBody}
use Rattle.session_orders.specs.declared.order.OrderBody.TheVariants as orders
use Rattle.session_machine.specs.declared.action.Action.TheVariants as actions
use Rattle.session_machine.specs.declared.action.SessionEvent.{SessionEvent}
use Rattle.session_machine.specs.declared.action.SessionEvent.TheVariants as events
use Rattle.session_machine.specs.declared.machine.GatePhase.TheVariants as phases
use Rattle.session_machine.specs.declared.machine.Stage.{Stage}
use Rattle.session_machine.specs.declared.machine.Stage.TheVariants.{Opening, Reading, Running, Locking, Inserting, Committing, Closing, RollingBack}
use Rattle.session_machine.specs.declared.machine.Point.{Point}
use Rattle.session_machine.specs.declared.machine.Point.TheVariants.{Resting, EnterDue, LookDue, PostDue, Waiting, LostDue, SplitDue, ChooseDue, ShowDue, LeaveSnapshotDue, UnwindDue, EnterCommitDue, LeaveCommitDue, FinishDue, ReplyDue, EndDue}
use Rattle.session_machine.specs.declared.machine.Session.{Session}
use Rattle.session_machine.specs.declared.machine.Machine.{Machine}
use Rattle.session_machine.specs.Allowed.{is_granted, answers_call, may_order, MayHappen as MachineMay}
use Rattle.session_machine.specs.Answers.{first_other}
use Rattle.session_machine.specs.Rules.{action_at, primary, tables_of, with_view, after as machine_after}
use Rattle.snapshot_gate.specs.declared.state.GateState.{GateState}
use Rattle.snapshot_gate.specs.Function.{step, grant, refuse}
use Rattle.online_recovery.specs.State.{is_touched}
use Rattle.one_copy_model.specs.declared.deed.Deed.{Deed}
use Rattle.one_copy_model.specs.declared.deed.Deed.TheVariants.{Asks, Gets, Falls}
use Rattle.one_copy_model.specs.declared.deed.Entry.{Entry}
use Rattle.one_copy_model.specs.declared.event.Event.TheVariants.{Of}
use Rattle.one_copy_model.specs.World.{World, Lets, gate_after, after, MayHappen}
use Rattle.one_copy_model.specs.SingleRun.{store_after, IsRun}
use Rattle.one_copy_model.specs.Places.{asks_as, asks_of, opens, commits, rolls_back, at_order, at_detach, place_of, opening_granted, opening_of, where_refused, decided_opening, refused_look, refused_parted, refused_opening, closing_look, closing_split, code_in}
use Rattle.one_copy_model.specs.Deaths.{is_live, is_alive, stage_at, answer_from, recorded, fallen}
use Rattle.one_copy_model.specs.Tracking.{Tracked, single, with_code, opened_if, placed, deaths_first, tracked_after}
use Rattle.one_copy_model.specs.Orders.{IsClassed, IsClassedIn, runs_at_once}
use Rattle.one_copy_model.specs.Standing.{Nowhere, Standing, Stands, standing_by, standing_of, leaving_of}
use Rattle.one_copy_model.specs.Invariant.{Invariant, asks_at, wants_of, where_live, request_in}
use Rattle.one_copy_model.proofs.Places.{same_or_other, each_at}
use Rattle.one_copy_model.proofs.Tables.{tables_there}
use Rattle.one_copy_model.proofs.Deeds.{entry}
use Rattle.one_copy_model.proofs.Livings.{alive_where}
use Rattle.one_copy_laws.proofs.ChainsChaining.{class_in}
use Rattle.recovery_laws.specs.Masks.{IsWithin, Masked}
use Rattle.recovery_laws.proofs.Doing.{within_absent, within_dead, within_empty, OnlyAsks, only_none, only_one, asked_only, IsNoRun, plain_within, falls_within, commit_within, rollback_within, commit_row, IsNoCommit, IsCalm, ArePlain, Stays, recorded_stays, recorded_other, recorded_only, gets_clear, fallen_within, fallen_only, fallen_stays, fallen_run, coded_store}
use Rattle.recovery_laws.proofs.Masking.{grown, RunsIn, Leads, places_nothing, asks_on, commits_entered, commits_unchanged, rolls, falls, runs, inserts, insert_falls, Finishes, finish_is, IsEndAt, event_leads}
use Rattle.recovery_laws.proofs.Writing.{touched_right, untouched, gets_within}

-- What waits in the single run is no COMMIT.

abbrev PlainIn : Option Request → Type 0
PlainIn None = Unit {0}
PlainIn (Some request) = IsNoCommit request

asks_plain_as : (checked : Checked) (class : Class) → IsNoCommit (asks_as checked class)
asks_plain_as checked classes.Read = refl
asks_plain_as checked classes.LockingRead = refl
asks_plain_as checked (classes.Write verb) = refl
asks_plain_as checked (classes.SerialInsert table) = refl

asks_plain : (work : Work) → IsNoCommit (asks_of work)
asks_plain work = asks_plain_as work.statement work.class

stage_plain : (stage : Stage) → PlainIn (asks_at stage)
stage_plain (Reading work ticket) = asks_plain work
stage_plain (Running work) = asks_plain work
stage_plain (Locking work table) = asks_plain work
stage_plain (Inserting work posted) = asks_plain work
stage_plain (Opening work) = tt
stage_plain Committing = tt
stage_plain Closing = tt
stage_plain (RollingBack ending) = tt

point_plain : (point : Point) → PlainIn (wants_of point (stage_at point))
point_plain (LookDue stage) = stage_plain stage
point_plain (PostDue stage b) = stage_plain stage
point_plain (Waiting stage b) = stage_plain stage
point_plain (LostDue stage b before more) = stage_plain stage
point_plain (SplitDue stage best own among more) = stage_plain stage
point_plain (ChooseDue work) = asks_plain work
point_plain Resting = tt
point_plain (EnterDue work) = tt
point_plain ShowDue = tt
point_plain (LeaveSnapshotDue work) = tt
point_plain (UnwindDue ending) = tt
point_plain EnterCommitDue = tt
point_plain (LeaveCommitDue ending) = tt
point_plain (FinishDue ending) = tt
point_plain (ReplyDue outcome) = tt
point_plain EndDue = tt

live_plain : (live : Bool) (wants : Option Request) → PlainIn wants → PlainIn (where_live live wants)
live_plain true wants h = h
live_plain false wants h = tt

only_plain : (waits : Option Pending) (wants : Option Request) → request_in waits ≡ wants → PlainIn wants → OnlyAsks IsNoCommit waits
only_plain None wants e plain = only_none IsNoCommit None refl
only_plain (Some p) wants e plain = only_one IsNoCommit p (subst PlainIn (sym e) plain)

pub calm_there : (t : Tracked) → Invariant t → IsCalm (single t)
calm_there t h o =
    only_plain ((single t).pending o) (where_live (is_live ((single t).transaction o)) (wants_of (t.world.machine o).point (stage_at (t.world.machine o).point))) (h.posts o)
    (live_plain (is_live ((single t).transaction o)) (wants_of (t.world.machine o).point (stage_at (t.world.machine o).point)) (point_plain (t.world.machine o).point))

-- Where nothing but deaths is placed.

module _ (t : Tracked) (w : World) (tables : w.tables ≡ t.world.tables) where
  pub falls_masked : Masked t → ((o : ℕ) → tables_of (w.machine o).session.gate ≡ tables_of (t.world.machine o).session.gate)
      → (o : ℕ) → IsWithin (tables_of (w.machine o).session.gate) ((store_after w.tables (fallen w t.history 65)).transaction o)
  falls_masked masked same o =
      fallen_within w (tables_of (w.machine o).session.gate) o t.history 65
      (subst (λ (ts : List TableDef). IsWithin (tables_of (w.machine o).session.gate) ((store_after ts t.history).transaction o)) (sym tables)
      (subst (λ (mask : ℕ). IsWithin mask ((single t).transaction o)) (sym (same o)) (masked.within o)))

  pub falls_rows : Invariant t → (store_after w.tables (fallen w t.history 65)).rows ≡ (single t).rows
  falls_rows h =
      (fallen_stays w t.history 65 (subst (λ (ts : List TableDef). IsCalm (store_after ts t.history)) (sym tables) (calm_there t h))).1
      ∙ ap (λ (ts : List TableDef). (store_after ts t.history).rows) tables

-- Openings.

opens_form : (point : Point) (event : SessionEvent) → (opening_of point event ≡ []) ⊎ ((work : Work) × (opening_of point event ≡ opens work))
opens_form point (events.Called call (Granted view)) = by point
  where
    by : (at : Point) → (opening_granted at ≡ []) ⊎ ((work : Work) × (opening_granted at ≡ opens work))
    by (LeaveSnapshotDue work) = inr (work, refl)
    by at = inl refl
opens_form point event = inl refl

abbrev fails_to_open : Code → List Deed
fails_to_open code = Asks requests.TakeSnapshot ∷ Falls (Some code) ∷ []

abbrev Fails : List Deed → Type 0
Fails deeds = (deeds ≡ []) ⊎ ((code : Code) × (deeds ≡ fails_to_open code))

opening_fails : (answer : Answer) → Fails (decided_opening answer)
opening_fails answers.Began = inl refl
opening_fails (answers.Rows rows) = inl refl
opening_fails (answers.Count n) = inl refl
opening_fails answers.Locked = inl refl
opening_fails answers.Done = inl refl
opening_fails (answers.Serial n) = inl refl
opening_fails (answers.Refused code) = inr (code, refl)

where_fails : (answer : Option Answer) → Fails (where_refused answer)
where_fails None = inl refl
where_fails (Some answer) = opening_fails answer

stage_fails : (session : Session) (stage : Stage) → Fails (refused_look session (LookDue stage))
stage_fails session (Opening work) = where_fails (closing_look session (Opening work) (primary session))
stage_fails session stage = inl refl

look_fails : (session : Session) (point : Point) → Fails (refused_look session point)
look_fails session (LookDue stage) = stage_fails session stage
look_fails session point = inl refl

split_fails : (session : Session) (point : Point) → Fails (refused_parted session point)
split_fails session (SplitDue (Opening work) best own among more) =
    where_fails (closing_split session best (first_other among.bits best.answer (own.b.number + 1) session.heard) more (primary session))
split_fails session point = inl refl

detach_fails : (session : Session) (point : Point) (event : SessionEvent) → Fails (refused_opening session point event)
detach_fails session point (events.Called call (Seen view)) = look_fails (with_view session view) point
detach_fails session point (events.Detached b cause (Seen view)) = split_fails (with_view session view) point
detach_fails session point (events.Detached b cause (Granted view)) = split_fails (with_view session view) point
detach_fails session point event = inl refl

module _ (tables : List TableDef) (s : ℕ) where
  abbrev there : List Entry → Store
  there g = store_after tables g

  -- an opening and a refused one leave no changes
  opens_within : (mask : ℕ) (deeds : List Deed) (g : List Entry) → ((deeds ≡ []) ⊎ ((work : Work) × (deeds ≡ opens work))) → IsWithin mask ((there g).transaction s)
      → IsWithin mask ((there (recorded s deeds g)).transaction s)
  opens_within mask deeds g (inl is) old = subst (λ (d : List Deed). IsWithin mask ((there (recorded s d g)).transaction s)) (sym is) old
  opens_within mask deeds g (inr (work, is)) old =
      subst (λ (d : List Deed). IsWithin mask ((there (recorded s d g)).transaction s)) (sym is)
      (plain_within mask (there (entry s (Asks requests.TakeSnapshot) ∷ g)) s answers.Began (asked_only IsNoRun (there g) s requests.TakeSnapshot refl) old)

  fails_within : (mask : ℕ) (deeds : List Deed) (g : List Entry) → Fails deeds → IsWithin mask ((there g).transaction s) → IsWithin mask ((there (recorded s deeds g)).transaction s)
  fails_within mask deeds g (inl is) old = subst (λ (d : List Deed). IsWithin mask ((there (recorded s d g)).transaction s)) (sym is) old
  fails_within mask deeds g (inr (code, is)) old =
      subst (λ (d : List Deed). IsWithin mask ((there (recorded s d g)).transaction s)) (sym is) (falls_within mask (there (entry s (Asks requests.TakeSnapshot) ∷ g)) s (Some code))

  opens_stays : (deeds : List Deed) (g : List Entry) → ((deeds ≡ []) ⊎ ((work : Work) × (deeds ≡ opens work))) → IsCalm (there g) → Stays tables g (recorded s deeds g)
  opens_stays deeds g (inl is) calm = recorded_stays tables s deeds g (subst ArePlain (sym is) tt) calm
  opens_stays deeds g (inr (work, is)) calm = recorded_stays tables s deeds g (subst ArePlain (sym is) (refl, (refl, (asks_plain work, tt)))) calm

  fails_stays : (deeds : List Deed) (g : List Entry) → Fails deeds → IsCalm (there g) → Stays tables g (recorded s deeds g)
  fails_stays deeds g (inl is) calm = recorded_stays tables s deeds g (subst ArePlain (sym is) tt) calm
  fails_stays deeds g (inr (code, is)) calm = recorded_stays tables s deeds g (subst ArePlain (sym is) (refl, (refl, tt))) calm

stays_on : (tables : List TableDef) (a b c : List Entry) → Stays tables a b → Stays tables b c → Stays tables a c
stays_on tables a b c p q = (q.0, q.1 ∙ p.1)

-- deaths before a result, or none
first_either : (P : List Entry → Type 0) (new : World) (event : SessionEvent) (deeds : List Deed) (history : List Entry) → P history → P (fallen new history 65)
    → P (deaths_first new event deeds history)
first_either P new (events.Detached b cause answer) (Gets result ∷ []) history same dead = dead
first_either P new event deeds history same dead = same

-- The request of a run, and what waits for it.

run_of : (tables : List TableDef) (point : Point) (work : Work) → RunsIn point work → ((stage : Stage) → stage_at point ≡ Some stage → IsClassedIn tables stage)
    → IsClassed tables work × ((asks_of work ≡ requests.Run work.statement) × (wants_of point (stage_at point) ≡ Some (asks_of work)))
run_of tables point work (inl at) classed =
    let c = classed (Running work) at in
    (c.0, (by work.class c.1, ap (wants_of point) at))
  where
    by : (class : Class) → runs_at_once class ≡ true → asks_as work.statement class ≡ requests.Run work.statement
    by classes.LockingRead e = refl
    by (classes.Write verb) e = refl
    by classes.Read e = refl
    by (classes.SerialInsert table) e = absurd (let z : false ≡ true = e in cc)
run_of tables point work (inr (ticket, at)) classed =
    let c = classed (Reading work ticket) at in
    (c.0, (ap (asks_as work.statement) c.1, ap (wants_of point) at))

only_by : (waits : Option Pending) (request : Request) → request_in waits ≡ Some request → OnlyAsks (λ (r : Request). r ≡ request) waits
only_by None request e = absurd (let z : None ≡ Some request = e in cc)
only_by (Some p) request e = only_one (λ (r : Request). r ≡ request) p (same p.request request e)
  where
    same : (a b : Request) → Some a ≡ Some b → a ≡ b
    same a b e = cc

where_some : (P : Pending → Type 0) (waits : Option Pending) → WhereSome waits P → (q : Pending) × (waits ≡ Some q) × P q
where_some P None h = absurd h
where_some P (Some q) h = (q, refl, h)

-- The gate gets the mask with the commit that is entered.

enter_touches : (g : GateState) (mask : ℕ) (answer : GateAnswer) (v : Bool) → is_granted answer ≡ true
    → (if v then refuse g (Held g.snaps) else grant g (calls.EnterCommit mask)).1 ≡ answer
    → (if v then refuse g (Held g.snaps) else grant g (calls.EnterCommit mask)).0.touched ≡ bit_or g.touched mask
enter_touches g mask answer true granted e = absurd (let z : false ≡ true = ap is_granted e ∙ granted in cc)
enter_touches g mask answer false granted e = refl

call_touches : (g : GateState) (mask : ℕ) (call : GateCall) (answer : GateAnswer) → calls.EnterCommit mask ≡ call → answers_call call answer ≡ true → (step g call).1 ≡ answer
    → (step g call).0.touched ≡ bit_or g.touched mask
call_touches g mask call answer is granted e =
    subst (λ (c : GateCall). answers_call c answer ≡ true → (step g c).1 ≡ answer → (step g c).0.touched ≡ bit_or g.touched mask) is
    (enter_touches g mask answer (nat_lt 0 g.snaps)) granted e

call_is : (a b : GateCall) → actions.Gate a ≡ actions.Gate b → a ≡ b
call_is a b e = cc

none_of_commits : (deeds : List Deed) → deeds ≡ [] → deeds ≡ commits → ⊥
none_of_commits deeds none is = let z : [] ≡ commits = sym none ∙ is in cc

order_enters : (session : Session) (body : OrderBody) → may_order session EnterCommitDue body ≡ true → (deeds : List Deed) → (body ≡ orders.Leave → deeds ≡ rolls_back) → deeds ≡ commits → ⊥
order_enters session orders.Leave may deeds is e = let z : rolls_back ≡ commits = sym (is refl) ∙ e in cc
order_enters session (orders.Statement checked) may deeds is e = let z : false ≡ true = may in cc
order_enters session orders.Begin may deeds is e = let z : false ≡ true = may in cc
order_enters session orders.Commit may deeds is e = let z : false ≡ true = may in cc
order_enters session orders.Rollback may deeds is e = let z : false ≡ true = may in cc
order_enters session orders.Settle may deeds is e = let z : false ≡ true = may in cc
order_enters session orders.ShowNodes may deeds is e = let z : false ≡ true = may in cc
order_enters session (orders.Recover b) may deeds is e = let z : false ≡ true = may in cc
order_enters session (orders.Refuse code name) may deeds is e = let z : false ≡ true = may in cc

detach_enters : (session : Session) (answer : GateAnswer) → at_detach session EnterCommitDue answer ≡ []
detach_enters session (Seen view) = refl
detach_enters session (Granted view) = refl
detach_enters session (Held count) = refl
detach_enters session Spent = refl

module _ (t : Tracked) (s : SessionId) (event : SessionEvent) (h : Invariant t) (masked : Masked t) (few : length t.world.tables ≤ 64)
    (may : MayHappen t.world (Of s event)) (run : IsRun t.world.tables (tracked_after t (Of s event)).history) where
  abbrev m : Machine
  m = t.world.machine s.number

  abbrev new : World
  new = after t.world (Of s event)

  abbrev mask : ℕ
  mask = tables_of m.session.gate

  abbrev next : ℕ
  next = tables_of (machine_after m event).session.gate

  abbrev deeds : List Deed
  deeds = place_of m.session m.point event

  abbrev first : List Entry
  first = deaths_first new event deeds t.history

  abbrev live : Bool
  live = is_live ((single t).transaction s.number)

  abbrev store : List Entry → Store
  store g = store_after t.world.tables g

  abbrev placed_by : Bool → List Entry
  placed_by v = placed v t.world s.number m event first

  within_first : (own o : ℕ) → IsWithin own ((single t).transaction o) → IsWithin own ((store first).transaction o)
  within_first own o old =
      first_either (λ (g : List Entry). IsWithin own ((store g).transaction o)) new event deeds t.history old (fallen_within new own o t.history 65 old)

  only_first : (P : Request → Type 0) → OnlyAsks P ((single t).pending s.number) → OnlyAsks P ((store first).pending s.number)
  only_first P old =
      first_either (λ (g : List Entry). OnlyAsks P ((store g).pending s.number)) new event deeds t.history old (fallen_only new P s.number t.history 65 old)

  stays_first : Stays t.world.tables t.history first
  stays_first =
      first_either (λ (g : List Entry). Stays t.world.tables t.history g) new event deeds t.history (calm_there t h, refl) (fallen_stays new t.history 65 (calm_there t h))

  abbrev coded : List Entry
  coded = with_code s.number (code_in deeds) first

  -- what another session has changed

  opened_other : (own o : ℕ) → o ≢ s.number → (alive : Bool) → IsWithin own ((store coded).transaction o)
      → IsWithin own ((store (opened_if alive s.number (opening_of m.point event) coded)).transaction o)
  opened_other own o other true old = recorded_other own s.number o other t.world.tables (opening_of m.point event) coded old
  opened_other own o other false old = old

  placed_other : (own o : ℕ) → o ≢ s.number → (v : Bool) → IsWithin own ((store first).transaction o) → IsWithin own ((store (placed_by v)).transaction o)
  placed_other own o other true old = recorded_other own s.number o other t.world.tables deeds first old
  placed_other own o other false old =
      recorded_other own s.number o other t.world.tables (refused_opening m.session m.point event) (opened_if (is_alive t.world s.number) s.number (opening_of m.point event) coded)
      (opened_other own o other (is_alive t.world s.number)
      (subst (λ (y : Store). IsWithin own (y.transaction o)) (sym (coded_store t.world.tables s.number (code_in deeds) first)) old))

  -- what the session itself has changed, where it was not live

  opened_own : (own : ℕ) (alive : Bool) → IsWithin own ((store coded).transaction s.number)
      → IsWithin own ((store (opened_if alive s.number (opening_of m.point event) coded)).transaction s.number)
  opened_own own true old = opens_within t.world.tables s.number own (opening_of m.point event) coded (opens_form m.point event) old
  opened_own own false old = old

  unlive : (own : ℕ) (x : Transaction) → is_live x ≡ false → IsWithin own x
  unlive own Absent e = within_absent own
  unlive own (Alive k) e = absurd (let z : true ≡ false = e in cc)
  unlive own Dead e = within_dead own

  placed_unlive : (own : ℕ) → live ≡ false → IsWithin own ((store (placed_by false)).transaction s.number)
  placed_unlive own e =
      fails_within t.world.tables s.number own (refused_opening m.session m.point event) (opened_if (is_alive t.world s.number) s.number (opening_of m.point event) coded)
      (detach_fails m.session m.point event)
      (opened_own own (is_alive t.world s.number)
      (subst (λ (y : Store). IsWithin own (y.transaction s.number)) (sym (coded_store t.world.tables s.number (code_in deeds) first))
      (within_first own s.number (unlive own ((single t).transaction s.number) e))))

  -- and where it was live

  on : live ≡ true → Finishes m.point → ⊥
  on e fin =
      let at = (finish_is m.point fin).1 in
      let found = alive_where t.world s.number (h.alive s.number e) in
      let nowhere : standing_of t.world s.number found.0 ≡ Nowhere = ap (λ (p : Point). standing_by m.session.gate p (stage_at p) (answer_from t.world s.number found.0)) at in
      let none : (t.world.store found.0).transaction s.number ≡ Absent =
      (subst (λ (x : Standing). Stands (single t) s.number (leaving_of t.world.tables s.number t.history) x ((t.world.store found.0).transaction s.number) ((single t).transaction s.number))
      nowhere (h.stands s.number found.0 found.1)).0 in
      let z : false ≡ true = sym (ap is_live none) ∙ found.2 in cc

  end_at : (e : SessionEvent) → MachineMay m e → IsEndAt m.session m.point e
  end_at events.Ended is = is
  end_at (events.Ordered order) is = tt
  end_at (events.Called call answer) is = tt
  end_at (events.Posted b request) is = tt
  end_at (events.Taken b answer) is = tt
  end_at (events.Faulted b before more) is = tt
  end_at (events.Detached b cause answer) is = tt
  end_at (events.Swapped b) is = tt
  end_at (events.Replied outcome status) is = tt

  leads : live ≡ true → Leads m.point m.session.gate (machine_after m event).session.gate deeds
  leads e = event_leads m.session m.point event (h.inside s.number) (on e) (end_at event may.0)

  asked_there : (request : Request) → live ≡ true → wants_of m.point (stage_at m.point) ≡ Some request → OnlyAsks (λ (r : Request). r ≡ request) ((store first).pending s.number)
  asked_there request e wants =
      only_first (λ (r : Request). r ≡ request)
      (only_by ((single t).pending s.number) request (h.posts s.number ∙ ap (λ (v : Bool). where_live v (wants_of m.point (stage_at m.point))) e ∙ wants))

  classed_in : (stage : Stage) → stage_at m.point ≡ Some stage → IsClassedIn t.world.tables stage
  classed_in stage at = class_in t.world.tables m.point stage at (h.classed s.number)

  -- the answer to a run is allowed
  answer_may : (g : List Entry) (answer : Answer) → IsRun t.world.tables (entry s.number (Gets answer) ∷ g)
      → (q : Pending) × ((store g).pending s.number ≡ Some q) × MayAnswer (store g) s.number q answer
  answer_may g answer is = where_some (λ (q : Pending). MayAnswer (store g) s.number q answer) ((store g).pending s.number) is.0

  result_within : (work : Work) (answer : Answer) (g : List Entry) → IsClassed t.world.tables work → OnlyAsks (λ (r : Request). r ≡ requests.Run work.statement) ((store g).pending s.number)
      → IsRun t.world.tables (entry s.number (Gets answer) ∷ g) → IsWithin mask ((store g).transaction s.number)
      → IsWithin (grown mask work.tables answer) ((store (entry s.number (Gets answer) ∷ g)).transaction s.number)
  result_within work answer g c only is old =
      let a = answer_may g answer is in
      let tables : (store g).tables ≡ t.world.tables = tables_there t.world.tables g in
      subst (λ (more : ℕ). IsWithin (grown mask more answer) ((store (entry s.number (Gets answer) ∷ g)).transaction s.number)) (sym c.written)
      (gets_within mask (store g) s.number work.statement (ap (λ (ts : List TableDef). is_of ts work.statement) tables ∙ c.runnable.of_tables)
      (subst (λ (ts : List TableDef). length ts ≤ 64) (sym tables) few) a.0 answer a.1 (only a.0 a.1) a.2 old)

  abbrev Within : List Deed → Type 0
  Within d = IsWithin next ((store (recorded s.number d first)).transaction s.number)

  old_first : IsWithin mask ((store first).transaction s.number)
  old_first = within_first mask s.number (masked.within s.number)

  run_placed : live ≡ true → IsRun t.world.tables (recorded s.number deeds first)
  run_placed e =
      subst (λ (v : Bool). IsRun t.world.tables (placed_by v)) e (fallen_run new (placed_by live) 65 run)

  inserted_within : (work : Work) (posted : Bool) (answer : Answer) → stage_at m.point ≡ Some (Inserting work posted)
      → deeds ≡ Gets answers.Locked ∷ Asks (requests.Run work.statement) ∷ Gets answer ∷ [] → live ≡ true
      → IsWithin (grown mask work.tables answer) ((store (recorded s.number (Gets answers.Locked ∷ Asks (requests.Run work.statement) ∷ Gets answer ∷ []) first)).transaction s.number)
  inserted_within work posted answer at is e =
      let c = classed_in (Inserting work posted) at in
      let locks : OnlyAsks IsNoRun ((store first).pending s.number) =
      λ q waits. subst IsNoRun (sym (asked_there (asks_of work) e (ap (wants_of m.point) at) q waits ∙ ap (asks_as work.statement) c.1.1)) refl in
      let mid : List Entry = entry s.number (Gets answers.Locked) ∷ first in
      result_within work answer (entry s.number (Asks (requests.Run work.statement)) ∷ mid) c.0
      (asked_only (λ (r : Request). r ≡ requests.Run work.statement) (store mid) s.number (requests.Run work.statement) refl)
      (subst (λ (d : List Deed). IsRun t.world.tables (recorded s.number d first)) is (run_placed e))
      (plain_within mask (store first) s.number answers.Locked locks old_first)

  placed_live : live ≡ true → Within deeds
  placed_live e = by (leads e)
    where
      by : Leads m.point m.session.gate (machine_after m event).session.gate deeds → Within deeds
      by (places_nothing is same) = subst Within (sym is) (subst (λ (own : ℕ). IsWithin own ((store first).transaction s.number)) (sym same) old_first)
      by (asks_on work is same) = subst Within (sym is) (subst (λ (own : ℕ). IsWithin own ((store first).transaction s.number)) (sym same) old_first)
      by (commits_entered is at) = subst Within (sym is) (commit_within next (store first) s.number)
      by (commits_unchanged is tables at) = subst Within (sym is) (commit_within next (store first) s.number)
      by (rolls is) = subst Within (sym is) (rollback_within next (store first) s.number)
      by (falls code is) = subst Within (sym is) (falls_within next (store first) s.number (Some code))
      by (runs work answer runs_in is same) =
          let c = run_of t.world.tables m.point work runs_in classed_in in
          subst Within (sym is)
          (subst (λ (own : ℕ). IsWithin own ((store (entry s.number (Gets answer) ∷ first)).transaction s.number)) (sym same)
          (result_within work answer first c.0 (asked_there (requests.Run work.statement) e (c.1.1 ∙ ap Some c.1.0))
          (subst (λ (d : List Deed). IsRun t.world.tables (recorded s.number d first)) is (run_placed e)) old_first))
      by (inserts work posted answer at is same) =
          subst Within (sym is)
          (subst (λ (own : ℕ). IsWithin own ((store (recorded s.number (Gets answers.Locked ∷ Asks (requests.Run work.statement) ∷ Gets answer ∷ []) first)).transaction s.number)) (sym same)
          (inserted_within work posted answer at is e))
      by (insert_falls work posted code at is) =
          subst Within (sym is)
          (falls_within next (store (entry s.number (Asks (requests.Run work.statement)) ∷ entry s.number (Gets answers.Locked) ∷ first)) s.number (Some code))

  placed_own : (v : Bool) → live ≡ v → IsWithin next ((store (placed_by v)).transaction s.number)
  placed_own true e = placed_live e
  placed_own false e = placed_unlive next e

  -- the changes of all
  pub of_masked : Masked (tracked_after t (Of s event))
  of_masked = record {
    within = each_at (λ (o : ℕ) (x : Machine). IsWithin (tables_of x.session.gate) ((store (tracked_after t (Of s event)).history).transaction o)) t.world.machine s.number (machine_after m event)
        (fallen_within new next s.number (placed_by live) 65 (placed_own live refl))
        (λ o other. fallen_within new (tables_of (t.world.machine o).session.gate) o (placed_by live) 65
        (placed_other (tables_of (t.world.machine o).session.gate) o other live (within_first (tables_of (t.world.machine o).session.gate) o (masked.within o))));
  }

  -- The rows.

  module _ (q : Place) where
    abbrev row : List Entry → Option Row
    row g = fin.get (store g).rows q

    abbrev SameRow : List Entry → List Entry → Type 0
    SameRow a b = IsCalm (store b) × (row b ≡ row a)

    of_stays : (a b : List Entry) → Stays t.world.tables a b → SameRow a b
    of_stays a b p = (p.0, ap (λ (r : Rows). fin.get r q) p.1)

    -- the COMMIT of a transaction that has not changed the place
    commits_same : (own : ℕ) → is_touched own q.table ≡ false → IsWithin own ((store first).transaction s.number) → SameRow first (recorded s.number commits first)
    commits_same own out old = (calm, commit_row (store first) s.number q (λ u is. unchanged u is (is_some (fin.get u.changes q)) refl))
      where
        unchanged : (u : Live) → (store first).transaction s.number ≡ Alive u → (v : Bool) → is_some (fin.get u.changes q) ≡ v → v ≡ false
        unchanged u is true e = absurd (let z : false ≡ true = sym out ∙ old u q is e in cc)
        unchanged u is false e = refl

        calm : IsCalm (store (recorded s.number commits first))
        calm o = elim (same_or_other o s.number) [
          | inl e ↦ subst (λ (j : ℕ). OnlyAsks IsNoCommit ((store (recorded s.number commits first)).pending j)) (sym e)
              (only_none IsNoCommit ((store (recorded s.number commits first)).pending s.number) (gets_clear (store (entry s.number (Asks requests.Commit) ∷ first)) s.number answers.Done))
          | inr other ↦ recorded_only IsNoCommit s.number o other t.world.tables commits first (stays_first.0 o)
        ]

    -- without changes
    unchanged_within : (tables : ℕ) → m.session.gate ≡ phases.Live false tables → IsWithin 0 ((single t).transaction s.number)
    unchanged_within tables at u place is some =
        within_empty 0 u (h.unchanged s.number u tables at is) u place refl some

    plain_same : (d : List Deed) → deeds ≡ d → ArePlain d → SameRow first (recorded s.number deeds first)
    plain_same d is plain =
        subst (λ (x : List Deed). SameRow first (recorded s.number x first)) (sym is)
        (of_stays first (recorded s.number d first) (recorded_stays t.world.tables s.number d first plain stays_first.0))

    module _ (entered : deeds ≡ commits → m.point ≡ EnterCommitDue → is_touched mask q.table ≡ false) where
      live_same : live ≡ true → SameRow first (recorded s.number deeds first)
      live_same e = by (leads e)
        where
          by : Leads m.point m.session.gate (machine_after m event).session.gate deeds → SameRow first (recorded s.number deeds first)
          by (places_nothing is same) = plain_same [] is tt
          by (asks_on work is same) = plain_same (Asks (asks_of work) ∷ []) is (asks_plain work, tt)
          by (commits_entered is at) =
              subst (λ (x : List Deed). SameRow first (recorded s.number x first)) (sym is) (commits_same mask (entered is at) old_first)
          by (commits_unchanged is tables at) =
              subst (λ (x : List Deed). SameRow first (recorded s.number x first)) (sym is)
              (commits_same 0 (untouched q.table) (within_first 0 s.number (unchanged_within tables at)))
          by (rolls is) = plain_same rolls_back is (refl, (refl, tt))
          by (falls code is) = plain_same (Falls (Some code) ∷ []) is (refl, tt)
          by (runs work answer runs_in is same) = plain_same (Gets answer ∷ []) is (refl, tt)
          by (inserts work posted answer at is same) = plain_same (Gets answers.Locked ∷ Asks (requests.Run work.statement) ∷ Gets answer ∷ []) is (refl, (refl, (refl, tt)))
          by (insert_falls work posted code at is) =
              plain_same (Gets answers.Locked ∷ Asks (requests.Run work.statement) ∷ Falls (Some code) ∷ []) is (refl, (refl, (refl, tt)))

      coded_stays : Stays t.world.tables first coded
      coded_stays =
          subst (λ (y : Store). IsCalm y × (y.rows ≡ (store first).rows)) (sym (coded_store t.world.tables s.number (code_in deeds) first)) (stays_first.0, refl)

      opened_stays : (alive : Bool) → Stays t.world.tables first (opened_if alive s.number (opening_of m.point event) coded)
      opened_stays true =
          stays_on t.world.tables first coded (recorded s.number (opening_of m.point event) coded) coded_stays
          (opens_stays t.world.tables s.number (opening_of m.point event) coded (opens_form m.point event) coded_stays.0)
      opened_stays false = coded_stays

      placed_same : (v : Bool) → live ≡ v → SameRow first (placed_by v)
      placed_same true e = live_same e
      placed_same false e =
          let opened_to : List Entry = opened_if (is_alive t.world s.number) s.number (opening_of m.point event) coded in
          let before = opened_stays (is_alive t.world s.number) in
          of_stays first (placed_by false)
          (stays_on t.world.tables first opened_to (placed_by false) before
          (fails_stays t.world.tables s.number (refused_opening m.session m.point event) opened_to (detach_fails m.session m.point event) before.0))

      all_same : row (tracked_after t (Of s event)).history ≡ row t.history
      all_same =
          let p = placed_same live refl in
          let f = fallen_stays new (placed_by live) 65 p.0 in
          ap (λ (r : Rows). fin.get r q) f.1 ∙ p.1 ∙ ap (λ (r : Rows). fin.get r q) stays_first.1

    -- where a commit is entered the gate gets the mask
    module _ (out : is_touched new.gate.touched q.table ≡ false) where
      enters : (e : SessionEvent) → MachineMay m e → Lets t.world s.number e → is_touched (gate_after t.world.gate e).touched q.table ≡ false
          → place_of m.session m.point e ≡ commits → m.point ≡ EnterCommitDue → is_touched mask q.table ≡ false
      enters (events.Called call answer) is lets none placed_at at = by (is_touched mask q.table) refl
        where
          due_is : calls.EnterCommit mask ≡ call
          due_is = call_is (calls.EnterCommit mask) call (ap (action_at m.session) (sym at) ∙ is.0)

          by : (v : Bool) → is_touched mask q.table ≡ v → v ≡ false
          by true touched =
              absurd (let z : false ≡ true = sym none ∙ ap (λ (n : ℕ). is_touched n q.table) (call_touches t.world.gate mask call answer due_is is.1 lets.1)
              ∙ touched_right t.world.gate.touched mask q.table touched in cc)
          by false touched = refl
      enters (events.Ordered order) is lets none placed_at at =
          absurd (order_enters m.session order.body (subst (λ (p : Point). may_order m.session p order.body ≡ true) at is.0) (at_order m.session order.moment order.body)
          (λ leave. ap (at_order m.session order.moment) leave) placed_at)
      enters (events.Detached b cause answer) is lets none placed_at at =
          absurd (none_of_commits (at_detach m.session m.point answer) (ap (λ (p : Point). at_detach m.session p answer) at ∙ detach_enters m.session answer) placed_at)
      enters (events.Posted b request) is lets none placed_at at = absurd (none_of_commits [] refl placed_at)
      enters (events.Taken b answer) is lets none placed_at at = absurd (none_of_commits [] refl placed_at)
      enters (events.Faulted b before more) is lets none placed_at at = absurd (none_of_commits [] refl placed_at)
      enters (events.Swapped b) is lets none placed_at at = absurd (none_of_commits [] refl placed_at)
      enters (events.Replied outcome status) is lets none placed_at at = absurd (none_of_commits [] refl placed_at)
      enters events.Ended is lets none placed_at at = absurd (none_of_commits [] refl placed_at)

      pub of_rows : fin.get (single (tracked_after t (Of s event))).rows q ≡ fin.get (single t).rows q
      of_rows = all_same (enters event may.0 may.1 out)
