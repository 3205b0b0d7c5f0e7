-- At every step what the single run has asked since an order came is for that order.
use Rattle.std.proofs.Common.{◌≡◌, ◌≢◌, ℕ, ℤ, zero, suc, ◌-◌, ◌≤◌, Bool, true, false, List, [], ◌∷◌, length, take, refl, sym, ap, ◌∙◌, subst, inl, inr, arith}
use Rattle.std.specs.Prelude.{◌&&◌, not, if◌then◌else◌, Option, Some, None}
use Rattle.pool_base.specs.declared.backend_set.BackendSet.{BackendSet}
use Rattle.pool_base.specs.declared.code.Code.{Code}
use Rattle.pool_base.specs.declared.session_id.SessionId.{SessionId}
use Rattle.pool_base.specs.declared.gate_call.GateCall.{GateCall}
use Rattle.pool_base.specs.declared.gate_call.GateCall.TheVariants as calls
use Rattle.pool_base.specs.declared.gate_call.GateAnswer.{GateAnswer}
use Rattle.pool_base.specs.declared.gate_call.GateAnswer.TheVariants as gates
use Rattle.backend_trait.specs.declared.answer.Answer.{Answer}
use Rattle.backend_trait.specs.declared.request.Request.{Request}
use Rattle.backend_trait.specs.Rows.{with_at}
use Rattle.session_machine.specs.declared.action.SessionEvent.{SessionEvent}
use Rattle.session_machine.specs.declared.action.SessionEvent.TheVariants as events
use Rattle.session_machine.specs.declared.machine.Machine.{Machine}
use Rattle.session_machine.specs.declared.machine.ReadPolicy.{ReadPolicy}
use Rattle.session_machine.specs.declared.machine.Session.{Session}
use Rattle.session_machine.specs.declared.status.Status.{Status}
use Rattle.session_orders.specs.declared.order.Order.{Order}
use Rattle.session_orders.specs.declared.order.OrderBody.{OrderBody}
use Rattle.one_copy_model.specs.declared.deed.Deed.{Deed}
use Rattle.one_copy_model.specs.declared.deed.Deed.TheVariants.{Asks, Gets, Falls}
use Rattle.one_copy_model.specs.declared.deed.Entry.{Entry}
use Rattle.one_copy_model.specs.declared.event.Event.{Event}
use Rattle.one_copy_model.specs.declared.event.Event.TheVariants.{Of, Act, Lost}
use Rattle.one_copy_model.specs.SingleRun.{store_after, deeds_of, deeds_since}
use Rattle.one_copy_model.specs.World.{World}
use Rattle.one_copy_model.specs.Places.{place_of, opening_of, refused_opening, code_in}
use Rattle.one_copy_model.specs.Deaths.{is_live, is_alive, stage_at, death_in, recorded, fell, fallen}
use Rattle.one_copy_model.specs.Tracking.{Told, Tracked, single, told_at, told_spent, told_entered, told_called, told_after, with_code, opened_if, placed, deaths_first, tracked_after}
use Rattle.one_copy_model.specs.Invariant.{Invariant}
use Rattle.one_copy_model.proofs.Places.{same_or_other, with_at-same, with_at-other}
use Rattle.online_recovery.specs.declared.layout.Layout.{Layout}
use Rattle.recovery_laws.specs.declared.step.Step.{Step}
use Rattle.recovery_laws.specs.declared.step.Step.TheVariants.{Serve, Recover, Answer as Answers}
use Rattle.recovery_laws.specs.Pool.{Pool, first_pool, after, answered}
use Rattle.recovery_laws.specs.Steps.{AllHold}
use Rattle.play_laws.specs.Asked.{AreFor, AsksAt, AlwaysAsks}
use Rattle.play_laws.proofs.AsksGrowing.{take_none, Grows, Fits, itself, behind, more, amends}
use Rattle.play_laws.proofs.AsksPlaces.{IsNoOrder, place_for, opened_for, refused_for, death_for, order_comes}

module _ (body : OrderBody) (status : Status) (moment : ℤ) (o n : ℕ) where
  abbrev Goes : List Entry → List Entry → Type 0
  Goes old new = Grows body status moment o n old new

  abbrev AreFit : ℕ → List Deed → Type 0
  AreFit s deeds = Fits body status moment o n s deeds

  fell_if : (b : Bool) (s : ℕ) (deeds : List Deed) (h : List Entry) → AreFit s deeds → Goes h (if b then recorded s deeds h else h)
  fell_if true s deeds h fits = more body status moment o n s deeds h fits
  fell_if false s deeds h fits = itself body status moment o n h

  module _ (new : World) (deaths : (s : ℕ) → AreFit s (death_in new s (stage_at (new.machine s).point))) where
    fallen_goes : (h : List Entry) (k : ℕ) → Goes h (fallen new h k)
    unfolding fallen
    fallen_goes h zero = itself body status moment o n h
    fallen_goes h (suc k) =
        let below = fallen new h k in
        behind body status moment o n h below (fell new k below) (fallen_goes h k)
        (fell_if (is_live ((store_after new.tables below).transaction k) && not (is_alive new k)) k (death_in new k (stage_at (new.machine k).point)) below (deaths k))

    first_goes : (event : SessionEvent) (deeds : List Deed) (h : List Entry) → Goes h (deaths_first new event deeds h)
    first_goes (events.Ordered order) deeds h = itself body status moment o n h
    first_goes (events.Called call answer) deeds h = itself body status moment o n h
    first_goes (events.Posted b request) deeds h = itself body status moment o n h
    first_goes (events.Taken b answer) deeds h = itself body status moment o n h
    first_goes (events.Faulted b before later) deeds h = itself body status moment o n h
    first_goes (events.Detached b cause answer) [] h = itself body status moment o n h
    first_goes (events.Detached b cause answer) (Asks request ∷ deeds) h = itself body status moment o n h
    first_goes (events.Detached b cause answer) (Gets result ∷ []) h = fallen_goes h 65
    first_goes (events.Detached b cause answer) (Gets result ∷ (deed ∷ deeds)) h = itself body status moment o n h
    first_goes (events.Detached b cause answer) (Falls code ∷ deeds) h = itself body status moment o n h
    first_goes (events.Swapped b) deeds h = itself body status moment o n h
    first_goes (events.Replied outcome told) deeds h = itself body status moment o n h
    first_goes events.Ended deeds h = itself body status moment o n h

    coded_goes : (s : ℕ) (code : Option Code) (h : List Entry) → Goes h (with_code s code h)
    coded_goes s None h = itself body status moment o n h
    coded_goes s (Some code) h = amends body status moment o n s code h

    opened_goes : (b : Bool) (s : ℕ) (deeds : List Deed) (h : List Entry) → AreFit s deeds → Goes h (opened_if b s deeds h)
    opened_goes true s deeds h fits = more body status moment o n s deeds h fits
    opened_goes false s deeds h fits = itself body status moment o n h

    -- an event of session s, of which all that it adds is for the order where s is o
    record Adds (s : ℕ) (m : Machine) (event : SessionEvent) : Type 0 where
      place : AreFit s (place_of m.session m.point event)
      opening : AreFit s (opening_of m.point event)
      refusal : AreFit s (refused_opening m.session m.point event)

    placed_goes : (b : Bool) (w : World) (s : ℕ) (m : Machine) (event : SessionEvent) (h : List Entry) → Adds s m event → Goes h (placed b w s m event h)
    placed_goes true w s m event h adds = more body status moment o n s (place_of m.session m.point event) h adds.place
    placed_goes false w s m event h adds =
        let coded = with_code s (code_in (place_of m.session m.point event)) h in
        let opened = opened_if (is_alive w s) s (opening_of m.point event) coded in
        behind body status moment o n h coded _ (coded_goes s (code_in (place_of m.session m.point event)) h)
        (behind body status moment o n coded opened _ (opened_goes (is_alive w s) s (opening_of m.point event) coded adds.opening)
        (more body status moment o n s (refused_opening m.session m.point event) opened adds.refusal))

    event_goes : (b : Bool) (w : World) (s : ℕ) (m : Machine) (event : SessionEvent) (h : List Entry) → Adds s m event
        → Goes h (fallen new (placed b w s m event (deaths_first new event (place_of m.session m.point event) h)) 65)
    event_goes b w s m event h adds =
        let first = deaths_first new event (place_of m.session m.point event) h in
        let there = placed b w s m event first in
        behind body status moment o n h there _ (behind body status moment o n h first there (first_goes event (place_of m.session m.point event) h) (placed_goes b w s m event first adds)) (fallen_goes there 65)

-- An order that is under way stays the order that it is.

record IsSame (x : Option Told) (told : Told) : Type 0 where
  was : Told
  there : x ≡ Some was
  order : told.order ≡ was.order
  status : told.status ≡ was.status
  moment : told.moment ≡ was.moment
  entries : told.entries ≡ was.entries

stays : (x : Option Told) (told : Told) → x ≡ Some told → IsSame x told
stays x told e = record { was = told; there = e; order = refl; status = refl; moment = refl; entries = refl }

spent_stays : (x : Option Told) (told : Told) → told_spent x ≡ Some told → IsSame x told
spent_stays None told e = absurd (cc)
spent_stays (Some was) told e =
    let other : Told = record was { spent = true } in
    let same : Some other ≡ Some told = e in
    let is : other ≡ told = cc in
    subst (λ (y : Told). IsSame (Some was) y) is (record { was = was; there = refl; order = refl; status = refl; moment = refl; entries = refl })

entered_stays : (x : Option Told) (told : Told) → told_entered x ≡ Some told → IsSame x told
entered_stays None told e = absurd (cc)
entered_stays (Some was) told e =
    let other : Told = record was { entered = true } in
    let same : Some other ≡ Some told = e in
    let is : other ≡ told = cc in
    subst (λ (y : Told). IsSame (Some was) y) is (record { was = was; there = refl; order = refl; status = refl; moment = refl; entries = refl })

called_stays : (call : GateCall) (answer : GateAnswer) (x : Option Told) (told : Told) → told_called call answer x ≡ Some told → IsSame x told
called_stays calls.Look answer x told e = stays x told e
called_stays calls.EnterSnapshot (gates.Seen view) x told e = stays x told e
called_stays calls.EnterSnapshot (gates.Granted view) x told e = stays x told e
called_stays calls.EnterSnapshot (gates.Held count) x told e = stays x told e
called_stays calls.EnterSnapshot gates.Spent x told e = spent_stays x told e
called_stays calls.LeaveSnapshot answer x told e = stays x told e
called_stays (calls.EnterCommit tables) (gates.Seen view) x told e = stays x told e
called_stays (calls.EnterCommit tables) (gates.Granted view) x told e = entered_stays x told e
called_stays (calls.EnterCommit tables) (gates.Held count) x told e = stays x told e
called_stays (calls.EnterCommit tables) gates.Spent x told e = stays x told e
called_stays calls.LeaveCommit answer x told e = stays x told e
called_stays calls.Finish answer x told e = stays x told e
called_stays (calls.Detach b) answer x told e = stays x told e
called_stays calls.StartCopy answer x told e = stays x told e
called_stays calls.AskQuiet answer x told e = stays x told e
called_stays calls.EnterQuiet answer x told e = stays x told e
called_stays (calls.Attach b) answer x told e = stays x told e
called_stays calls.LeaveQuiet answer x told e = stays x told e

-- an order that comes, or one that stays
data Comes (session : Session) (entries : ℕ) (event : SessionEvent) (x : Option Told) (told : Told) : Type 0 where
  new : (order : Order) → event ≡ events.Ordered order → told ≡ told_at session order entries → Comes session entries event x told
  kept : IsNoOrder event → IsSame x told → Comes session entries event x told

comes : (session : Session) (entries : ℕ) (event : SessionEvent) (x : Option Told) (told : Told) → told_after session entries event x ≡ Some told → Comes session entries event x told
comes session entries (events.Ordered order) x told e =
    let own : Told = told_at session order entries in
    let same : Some own ≡ Some told = e in
    let is : own ≡ told = cc in
    new order refl (sym is)
comes session entries (events.Called call answer) x told e = kept tt (called_stays call answer x told e)
comes session entries (events.Posted b request) x told e = kept tt (stays x told e)
comes session entries (events.Taken b answer) x told e = kept tt (stays x told e)
comes session entries (events.Faulted b before later) x told e = kept tt (stays x told e)
comes session entries (events.Detached b cause answer) x told e = kept tt (stays x told e)
comes session entries (events.Swapped b) x told e = kept tt (stays x told e)
comes session entries (events.Replied outcome status) x told e = absurd (cc)
comes session entries events.Ended x told e = absurd (cc)

-- what is for the order that was is for the order that is
for_same : (x : Option Told) (told : Told) (same : IsSame x told) (deeds : List Deed) → AreFor same.was.order.body same.was.status same.was.moment deeds → AreFor told.order.body told.status told.moment deeds
for_same x told same deeds h =
    subst (λ (y : ℤ). AreFor told.order.body told.status y deeds) (sym same.moment)
    (subst (λ (y : Status). AreFor told.order.body y same.was.moment deeds) (sym same.status)
    (subst (λ (y : Order). AreFor y.body same.was.status same.was.moment deeds) (sym same.order) h))

-- a death behind a step is for the order that is under way then
deaths_fit : (next : Tracked) → Invariant next → (o n : ℕ) (told : Told) → next.orders o ≡ Some told → (s : ℕ) → Fits told.order.body told.status told.moment o n s (death_in next.world s (stage_at (next.world.machine s).point))
deaths_fit next i o n told there s e =
    subst (λ (j : ℕ). AreFor told.order.body told.status told.moment (death_in next.world j (stage_at (next.world.machine j).point))) (sym e)
    (death_for (next.world.machine o).session told next.world o (next.world.machine o).point (i.order_is o told there))

-- where orders stay and deaths alone are added
deaths_ask : (t next : Tracked) → Invariant t → AsksAt t → Invariant next → next.orders ≡ t.orders → next.history ≡ fallen next.world t.history 65 → AsksAt next
deaths_ask t next i k j same led o told there =
    let was : t.orders o ≡ Some told = sym (ap (λ (f : ℕ → Option Told). f o) same) ∙ there in
    let goes = fallen_goes told.order.body told.status told.moment o told.entries next.world (deaths_fit next j o told.entries told there) t.history 65 in
    subst (λ (h : List Entry). AreFor told.order.body told.status told.moment (deeds_since o told.entries h)) (sym led) (goes.keeps (i.since o told was) (k o told was))

none_since : (s : ℕ) (h : List Entry) → deeds_since s (length h) h ≡ []
none_since s h = let none : length h - length h ≡ 0 = omega arith in ap (λ (n : ℕ). deeds_of s (take n h)) none ∙ ap (deeds_of s) (take_none h)

-- an event of session s
module _ (t : Tracked) (i : Invariant t) (k : AsksAt t) (s : SessionId) (event : SessionEvent) (j : Invariant (tracked_after t (Of s event))) where
  abbrev after_it : Tracked
  after_it = tracked_after t (Of s event)

  abbrev m : Machine
  m = t.world.machine s.number

  other_asks : (o : ℕ) (told : Told) → o ≢ s.number → after_it.orders o ≡ Some told → AreFor told.order.body told.status told.moment (deeds_since o told.entries after_it.history)
  other_asks o told other there =
      let was : t.orders o ≡ Some told = sym (with_at-other t.orders s.number (told_after m.session (length t.history) event (t.orders s.number)) o other) ∙ there in
      let none : (deeds : List Deed) → Fits told.order.body told.status told.moment o told.entries s.number deeds = λ deeds e. absurd (other (sym e)) in
      let goes = event_goes told.order.body told.status told.moment o told.entries after_it.world (deaths_fit after_it j o told.entries told there) (is_live ((single t).transaction s.number)) t.world s.number m event t.history
      (record { place = none (place_of m.session m.point event); opening = none (opening_of m.point event); refusal = none (refused_opening m.session m.point event) }) in
      goes.keeps (i.since o told was) (k o told was)

  own_asks : (told : Told) → after_it.orders s.number ≡ Some told → Comes m.session (length t.history) event (t.orders s.number) told
      → AreFor told.order.body told.status told.moment (deeds_since s.number told.entries after_it.history)
  own_asks told there (new order is own) =
      let n = length t.history in
      let comes_so : AreFor told.order.body told.status told.moment (place_of m.session m.point event) =
      subst (λ (e : SessionEvent). AreFor told.order.body told.status told.moment (place_of m.session m.point e)) (sym is)
      (subst (λ (x : Told). AreFor x.order.body x.status x.moment (place_of m.session m.point (events.Ordered order))) (sym own)
      (order_comes m.session order.moment order.body m.session.status refl order.body refl)) in
      let opens_so : opening_of m.point event ≡ [] = ap (opening_of m.point) is in
      let refuses_so : refused_opening m.session m.point event ≡ [] = ap (refused_opening m.session m.point) is in
      let goes = event_goes told.order.body told.status told.moment s.number n after_it.world (deaths_fit after_it j s.number n told there) (is_live ((single t).transaction s.number)) t.world s.number m event t.history
      (record {
        place = λ e. comes_so;
        opening = λ e. subst (AreFor told.order.body told.status told.moment) (sym opens_so) tt;
        refusal = λ e. subst (AreFor told.order.body told.status told.moment) (sym refuses_so) tt;
      }) in
      let since : told.entries ≡ n = ap (λ (x : Told). x.entries) own in
      subst (λ (a : ℕ). AreFor told.order.body told.status told.moment (deeds_since s.number a after_it.history)) (sym since)
      (goes.keeps (let z : n ≤ n = omega arith in z) (subst (AreFor told.order.body told.status told.moment) (sym (none_since s.number t.history)) tt))
  own_asks told there (kept plain same) =
      let x = t.orders s.number in
      let was = same.was in
      let n = was.entries in
      let order_is = i.order_is s.number was same.there in
      let goes = event_goes told.order.body told.status told.moment s.number n after_it.world (deaths_fit after_it j s.number n told there) (is_live ((single t).transaction s.number)) t.world s.number m event t.history
      (record {
        place = λ e. for_same x told same (place_of m.session m.point event) (place_for m.session was m.point event plain order_is);
        opening = λ e. for_same x told same (opening_of m.point event) (opened_for m.session was m.point event plain order_is);
        refusal = λ e. for_same x told same (refused_opening m.session m.point event) (refused_for m.session was m.point event plain order_is);
      }) in
      subst (λ (a : ℕ). AreFor told.order.body told.status told.moment (deeds_since s.number a after_it.history)) (sym same.entries)
      (goes.keeps (i.since s.number was same.there) (for_same x told same (deeds_since s.number n t.history) (k s.number was same.there)))

  same_asks : (o : ℕ) (told : Told) → o ≡ s.number → after_it.orders o ≡ Some told → AreFor told.order.body told.status told.moment (deeds_since o told.entries after_it.history)
  same_asks o told e there =
      let here : after_it.orders s.number ≡ Some told = subst (λ (a : ℕ). after_it.orders a ≡ Some told) e there in
      let told_so = sym (with_at-same t.orders s.number (told_after m.session (length t.history) event (t.orders s.number))) ∙ here in
      subst (λ (a : ℕ). AreFor told.order.body told.status told.moment (deeds_since a told.entries after_it.history)) (sym e)
      (own_asks told here (comes m.session (length t.history) event (t.orders s.number) told told_so))

  pub served_asks : AsksAt after_it
  served_asks o told there = elim (same_or_other o s.number) [
    | inl e ↦ same_asks o told e there
    | inr other ↦ other_asks o told other there
  ]

-- Steps.

pub event_asks : (t : Tracked) → Invariant t → AsksAt t → (event : Event) → Invariant (tracked_after t event) → AsksAt (tracked_after t event)
event_asks t i k (Of s event) j = served_asks t i k s event j
event_asks t i k (Act s b answer) j = deaths_ask t (tracked_after t (Act s b answer)) i k j refl refl
event_asks t i k (Lost b) j = deaths_ask t (tracked_after t (Lost b)) i k j refl refl

answer_asks : (p : Pool) (o b : ℕ) (answer : Answer) (asked : Option Request) → Invariant p.tracked → AsksAt p.tracked → Invariant (answered p o b answer asked).tracked → AsksAt (answered p o b answer asked).tracked
answer_asks p o b answer None i k j = k
answer_asks p o b answer (Some request) i k j = deaths_ask p.tracked (answered p o b answer (Some request)).tracked i k j refl refl

step_asks : (p : Pool) (e : Step) → Invariant p.tracked → AsksAt p.tracked → Invariant (after p e).tracked → AsksAt (after p e).tracked
step_asks p (Serve event) i k j = event_asks p.tracked i k event j
step_asks p (Recover s event) i k j = deaths_ask p.tracked (after p (Recover s event)).tracked i k j refl refl
step_asks p (Answers s b answer) i k j = answer_asks p s.number b.number answer (p.asked s.number b.number) i k j

held_first : (p : Pool) (es : List Step) → AllHold p es → Invariant p.tracked
held_first p [] h = h
held_first p (e ∷ es) h = h.0

pub always_asks : (p : Pool) (es : List Step) → AllHold p es → AsksAt p.tracked → AlwaysAsks p es
always_asks p [] h k = k
always_asks p (e ∷ es) h k = (k, always_asks (after p e) es h.2 (step_asks p e h.0 k (held_first (after p e) es h.2)))

pub run_asks : (policy : ReadPolicy) (layout : Layout) (attached : BackendSet) (steps : List Step) → AllHold (first_pool layout policy attached) steps → AlwaysAsks (first_pool layout policy attached) steps
run_asks policy layout attached steps h = always_asks (first_pool layout policy attached) steps h (λ s told e. absurd (let none : None ≡ Some told = e in cc))
