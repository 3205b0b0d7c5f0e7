-- What each step of a recovery did, by what it asked for.
use Rattle.std.proofs.Common.{◌≡◌, ℕ, Bool, true, false, List, Result, Ok, Err, refl, sym, ap, ◌∙◌, subst}
use Rattle.std.specs.Prelude.{ℤ, ◌==◌, IfOk, IfSome, OnOk, Option, None, Some, if◌then◌else◌}
use Rattle.pool_base.specs.Sets.{has}
use Rattle.pool_base.specs.declared.backend_id.BackendId.{BackendId}
use Rattle.pool_base.specs.declared.session_id.SessionId.{SessionId}
use Rattle.pool_base.specs.declared.gate_call.GateCall.{GateCall}
use Rattle.pool_base.specs.declared.gate_call.GateCall.TheVariants as calls
use Rattle.pool_base.specs.declared.gate_call.GateAnswer.{GateAnswer}
use Rattle.schema.specs.declared.catalogue.TableDef.{TableDef}
use Rattle.backend_trait.specs.Rows.{with_at}
use Rattle.backend_trait.specs.Store.{Store, prepared, posted}
use Rattle.backend_trait.specs.declared.request.Request.{Request}
use Rattle.snapshot_gate.specs.declared.gate.Gate.{Gate}
use Rattle.snapshot_gate.specs.Function as gates
use Rattle.session_orders.specs.declared.order.OrderBody.TheVariants as orders
use Rattle.session_orders.specs.declared.outcome.Outcome.{Outcome}
use Rattle.session_machine.specs.declared.status.Status.{Status}
use Rattle.session_machine.specs.declared.action.Cause.{Cause}
use Rattle.session_machine.specs.declared.action.Action.{Action}
use Rattle.session_machine.specs.declared.action.SessionEvent.TheVariants as events
use Rattle.session_machine.specs.declared.machine.Machine.{Machine}
use Rattle.session_machine.specs.Rules.{next_action as session_action}
use Rattle.online_recovery.specs.declared.action.RecoveryAction.{RecoveryAction}
use Rattle.online_recovery.specs.declared.action.RecoveryAction.TheVariants as actions
use Rattle.online_recovery.specs.declared.ask.RecoveryAsk.TheVariants as asks
use Rattle.online_recovery.specs.declared.layout.Layout.{Layout}
use Rattle.online_recovery.specs.declared.recovery.Recovery.{Recovery}
use Rattle.online_recovery.specs.declared.standing.Standing.{Standing}
use Rattle.online_recovery.specs.State.{new_standing}
use Rattle.online_recovery.specs.Asking.{asked_of, gate_event, standing_in, Detaches, Posts}
use Rattle.online_recovery.specs.Allowed.{MayHappen}
use Rattle.online_recovery.specs.Rules.{next_action, after, after_at}
use Rattle.session_seat.specs.declared.book.Journal.{Journal}
use Rattle.session_seat.specs.declared.step.Step.{Step}
use Rattle.session_seat.specs.declared.step.Step.TheVariants as steps
use Rattle.session_seat.specs.Told.{added, told_of}
use Rattle.session_seat.specs.Shared.{Shared, shared_of}
use Rattle.session_seat.specs.Steps.{IsDid, IsOutside}
use Rattle.session_seat.proofs.ServedLemmas.{IsLostAt}
use Rattle.recovery_seat.specs.Places.{standing_at}
use Rattle.session_seat.specs.Speech.{recovering}
use Rattle.recovery_seat.specs.Schedule.{IsOutside as IsApart, Recovers}
use Rattle.recovery_seat.specs.Speech.{DidAs}
use Rattle.recovery_seat.specs.Steps.{at, IsAt, RecoversAt, Fits, TookPlace}
use Rattle.recovery_seat.proofs.Among.{is_that, itself}
use Rattle.recovery_seat.proofs.StepLemmas.{proceeded}

-- A world that keeps its gate and its boxes shares the same.
pub shared_kept : {X : Type 0} (meaning : X → Store) (g h : Gate) (tables others : List TableDef) (m n : ℕ) (xs ys : List X) → h ≡ g → others ≡ tables → n ≡ m → ys ≡ xs
    → shared_of meaning h.state others n ys ≡ shared_of meaning g.state tables m xs
shared_kept {X} meaning g h tables others m n xs ys gate same count boxes = λ i. shared_of meaning (gate i).state (same i) (count i) (boxes i)

-- What is asked for.

called_due : (action : RecoveryAction) (call : GateCall) → asked_of action ≡ asks.Gate call → action ≡ actions.Gate call
called_due actions.Rest call asked = let never : asks.Rest ≡ asks.Gate call = asked in absurd (cc)
called_due (actions.Gate other) call asked = let same : other ≡ call = cc in ap actions.Gate same
called_due (actions.Swap b) call asked = let never : asks.Swap b ≡ asks.Gate call = asked in absurd (cc)
called_due (actions.Detach b cause) call asked = let never : asks.Detach b ≡ asks.Gate call = asked in absurd (cc)
called_due (actions.Post b request) call asked = let never : asks.Post b ≡ asks.Gate call = asked in absurd (cc)
called_due (actions.WaitFor b) call asked = let never : asks.WaitFor b ≡ asks.Gate call = asked in absurd (cc)
called_due (actions.Reply outcome status) call asked = let never : asks.Reply ≡ asks.Gate call = asked in absurd (cc)
called_due actions.End call asked = let never : asks.End ≡ asks.Gate call = asked in absurd (cc)

swapped_due : (action : RecoveryAction) (b : BackendId) → asked_of action ≡ asks.Swap b → action ≡ actions.Swap b
swapped_due actions.Rest b asked = let never : asks.Rest ≡ asks.Swap b = asked in absurd (cc)
swapped_due (actions.Gate call) b asked = let never : asks.Gate call ≡ asks.Swap b = asked in absurd (cc)
swapped_due (actions.Swap c) b asked = let same : c ≡ b = cc in ap actions.Swap same
swapped_due (actions.Detach c cause) b asked = let never : asks.Detach c ≡ asks.Swap b = asked in absurd (cc)
swapped_due (actions.Post c request) b asked = let never : asks.Post c ≡ asks.Swap b = asked in absurd (cc)
swapped_due (actions.WaitFor c) b asked = let never : asks.WaitFor c ≡ asks.Swap b = asked in absurd (cc)
swapped_due (actions.Reply outcome status) b asked = let never : asks.Reply ≡ asks.Swap b = asked in absurd (cc)
swapped_due actions.End b asked = let never : asks.End ≡ asks.Swap b = asked in absurd (cc)

detached_due : (action : RecoveryAction) (b : BackendId) (cause : Cause) → asked_of action ≡ asks.Detach b → Detaches action cause → action ≡ actions.Detach b cause
detached_due actions.Rest b cause asked is = absurd is
detached_due (actions.Gate call) b cause asked is = absurd is
detached_due (actions.Swap c) b cause asked is = absurd is
detached_due (actions.Detach c other) b cause asked is = let same : c ≡ b = cc in ap (λ (d : BackendId). actions.Detach d other) same ∙ ap (actions.Detach b) (sym is)
detached_due (actions.Post c request) b cause asked is = absurd is
detached_due (actions.WaitFor c) b cause asked is = absurd is
detached_due (actions.Reply outcome status) b cause asked is = absurd is
detached_due actions.End b cause asked is = absurd is

post_due : (action : RecoveryAction) (b : BackendId) (request : Request) → asked_of action ≡ asks.Post b → Posts action request → action ≡ actions.Post b request
post_due actions.Rest b request asked is = absurd is
post_due (actions.Gate call) b request asked is = absurd is
post_due (actions.Swap c) b request asked is = absurd is
post_due (actions.Detach c cause) b request asked is = absurd is
post_due (actions.Post c other) b request asked is = let same : c ≡ b = cc in ap (λ (d : BackendId). actions.Post d other) same ∙ ap (actions.Post b) (sym is)
post_due (actions.WaitFor c) b request asked is = absurd is
post_due (actions.Reply outcome status) b request asked is = absurd is
post_due actions.End b request asked is = absurd is

-- A call and a detachment.

pub called_place : (tables : List TableDef) (s : SessionId) (others : ℕ) (machine : Machine) (old new : Shared) (r q : Standing) (j k : Journal) (call : GateCall) (answer : GateAnswer)
    → asked_of (next_action r) ≡ asks.Gate call → gates.MayCall old.gate call → (new.gate, answer) ≡ gates.step old.gate call → new.stores ≡ old.stores → MayHappen r (gate_event (next_action r) answer)
    → q ≡ after r (gate_event (next_action r) answer) → k ≡ added j (told_of tables s (events.Called call answer)) → (took : TookPlace tables s others (at old machine r j) (at new machine q k)) × (took.entry ≡ Recovers s (events.Called call answer))
called_place tables s others machine old new r q j k call answer asked may is stores happens leads tells =
    let event : gate_event (next_action r) answer ≡ events.Called call answer = ap (λ (a : RecoveryAction). gate_event a answer) (called_due (next_action r) call asked) in
    proceeded tables s others (events.Called call answer) (at old machine r j) (at new machine q k) (subst (MayHappen r) event happens) (λ machines recoveries own stands fits. tt)
    (may, is) stores refl (leads ∙ ap (after r) event) tells

pub detached_place : (tables : List TableDef) (s : SessionId) (others : ℕ) (machine : Machine) (old new : Shared) (r q : Standing) (j k : Journal) (b : BackendId) (answer : GateAnswer)
    → asked_of (next_action r) ≡ asks.Detach b → (new.gate, answer) ≡ gates.step old.gate (calls.Detach b) → new.stores ≡ old.stores → MayHappen r (gate_event (next_action r) answer)
    → q ≡ after r (gate_event (next_action r) answer) → (tells : (cause : Cause) × Detaches (next_action r) cause × (k ≡ added j (told_of tables s (events.Detached b cause answer))))
    → (took : TookPlace tables s others (at old machine r j) (at new machine q k)) × (took.entry ≡ Recovers s (events.Detached b tells.0 answer))
detached_place tables s others machine old new r q j k b answer asked is stores happens leads tells =
    let cause = tells.0 in
    let event : gate_event (next_action r) answer ≡ events.Detached b cause answer = ap (λ (a : RecoveryAction). gate_event a answer) (detached_due (next_action r) b cause asked tells.1) in
    proceeded tables s others (events.Detached b cause answer) (at old machine r j) (at new machine q k) (subst (MayHappen r) event happens)
    (λ machines recoveries own stands fits. tt) is stores refl (leads ∙ ap (after r) event) tells.2

-- A post, an answer and a loss.

pub posted_place : (tables : List TableDef) (s : SessionId) (others : ℕ) (machine : Machine) (old new : Shared) (r q : Standing) (j k : Journal) (b : BackendId) (request : Request)
    → asked_of (next_action r) ≡ asks.Post b → Posts (next_action r) request → new.gate ≡ old.gate → (old.stores b.number).pending s.number ≡ None
    → new.stores ≡ with_at old.stores b.number (posted (old.stores b.number) s.number request) → q ≡ after r (events.Posted b request) → k ≡ added j (told_of tables s (events.Posted b request))
    → (took : TookPlace tables s others (at old machine r j) (at new machine q k)) × (took.entry ≡ Recovers s (events.Posted b request))
posted_place tables s others machine old new r q j k b request asked posts gate idle stores leads tells =
    proceeded tables s others (events.Posted b request) (at old machine r j) (at new machine q k) (post_due (next_action r) b request asked posts)
    (λ machines recoveries own stands fits. tt) gate (idle, stores) refl leads tells

-- a backend was found lost
pub missed_place : {E : Type 0} (tables : List TableDef) (s : SessionId) (others : ℕ) (machine : Machine) (old new : Shared) (r q : Standing) (j k : Journal) (b : BackendId) (before later : ℕ)
    (result : Result Step E) → IfOk result IsDid → OnOk result (MayHappen r (events.Faulted b before later))
    → OnOk result (q ≡ after r (events.Faulted b before later)) → OnOk result (k ≡ added j (told_of tables s (events.Faulted b before later))) → new.gate ≡ old.gate
    → IsLostAt old.stores b.number s.number new.stores → IfOk result (λ step. DidAs tables s others (events.Faulted b before later) (at old machine r j) step (at new machine q k))
missed_place tables s others machine old new r q j k b before later (Ok (steps.Did mark)) is may leads line gate lost =
    proceeded tables s others (events.Faulted b before later) (at old machine r j) (at new machine q k) may (λ machines recoveries own stands fits. tt) gate (lost.lost, (lost.waits, lost.same)) refl leads line
missed_place tables s others machine old new r q j k b before later (Ok steps.Waits) is may leads line gate lost = absurd is
missed_place tables s others machine old new r q j k b before later (Ok steps.Idle) is may leads line gate lost = absurd is
missed_place tables s others machine old new r q j k b before later (Ok steps.Closed) is may leads line gate lost = absurd is
missed_place tables s others machine old new r q j k b before later (Ok (steps.Recovers moment number)) is may leads line gate lost = absurd is
missed_place tables s others machine old new r q j k b before later (Err fault) is may leads line gate lost = tt

-- A session is not at a backend where it is at another, or at none.

pub elsewhere : (action : Action) (found : Option BackendId) (other b : BackendId) → found ≡ Some other → (other.number == b.number) ≡ false → (IsAt b action → found ≡ Some b) → ¬ (IsAt b action)
elsewhere action found other b is apart there = λ at_it.
    let named : Some other ≡ Some b = sym is ∙ there at_it in
    let same : other ≡ b = cc in
    let one : (other.number == b.number) ≡ true = ap (λ (d : BackendId). other.number == d.number) (sym same) ∙ itself other.number in
    let never : true ≡ false = sym one ∙ apart in absurd (cc)

pub nowhere : (action : Action) (found : Option BackendId) (b : BackendId) → found ≡ None → (IsAt b action → found ≡ Some b) → ¬ (IsAt b action)
nowhere action found b is there = λ at_it. let never : None ≡ Some b = sym is ∙ there at_it in absurd (cc)

-- The Swap: where no other session is at the backend, nor is the session itself, nobody is.

nobody_at : (others : ℕ) (s o : SessionId) (b : BackendId) (machine : Machine) (machines : SessionId → Machine) (recoveries : SessionId → Standing) → machines s ≡ machine
    → Fits others s machines recoveries → has others b.number ≡ false → ¬ (IsAt b (session_action machine)) → (c : Bool) → (o.number == s.number) ≡ c → ¬ (IsAt b (session_action (machines o)))
nobody_at others s o b machine machines recoveries own fits none itself true is = λ at_it. itself (subst (λ (m : Machine). IsAt b (session_action m)) (ap machines (is_that o s is) ∙ own) at_it)
nobody_at others s o b machine machines recoveries own fits none itself false is = λ at_it. let never : true ≡ false = sym (fits.sessions o b is at_it) ∙ none in absurd (cc)

no_recovery_at : (others : ℕ) (s o : SessionId) (b : BackendId) (r : Standing) (machines : SessionId → Machine) (recoveries : SessionId → Standing) → recoveries s ≡ r
    → Fits others s machines recoveries → has others b.number ≡ false → next_action r ≡ actions.Swap b → (c : Bool) → (o.number == s.number) ≡ c → ¬ (RecoversAt b (next_action (recoveries o)))
no_recovery_at others s o b r machines recoveries stands fits none due true is = λ at_it.
    subst (RecoversAt b) due (subst (λ (q : Standing). RecoversAt b (next_action q)) (ap recoveries (is_that o s is) ∙ stands) at_it)
no_recovery_at others s o b r machines recoveries stands fits none due false is = λ at_it. let never : true ≡ false = sym (fits.recovers o b is at_it) ∙ none in absurd (cc)

pub swapped_place : (tables : List TableDef) (s : SessionId) (others : ℕ) (machine : Machine) (old new : Shared) (r q : Standing) (j k : Journal) (b : BackendId) → asked_of (next_action r) ≡ asks.Swap b
    → new.gate ≡ old.gate → has old.gate.attached.bits b.number ≡ false → has others b.number ≡ false → ¬ (IsAt b (session_action machine)) → new.stores ≡ with_at old.stores b.number (prepared tables)
    → q ≡ after r (events.Swapped b) → k ≡ added j (told_of tables s (events.Swapped b)) → (took : TookPlace tables s others (at old machine r j) (at new machine q k)) × (took.entry ≡ Recovers s (events.Swapped b))
swapped_place tables s others machine old new r q j k b asked gate detached none itself stores leads tells =
    let due : next_action r ≡ actions.Swap b = swapped_due (next_action r) b asked in
    proceeded tables s others (events.Swapped b) (at old machine r j) (at new machine q k) due
    (λ machines recoveries own stands fits.
    let free : (o : SessionId) → ¬ (IsAt b (session_action (machines o))) = λ o. nobody_at others s o b machine machines recoveries own fits none itself (o.number == s.number) refl in
    let still : (o : SessionId) → ¬ (RecoversAt b (next_action (recoveries o))) = λ o. no_recovery_at others s o b r machines recoveries stands fits none due (o.number == s.number) refl in
    record {
      detached = detached;
      unasked = λ o is. free o (subst (IsAt b) (sym is) refl);
      unposted = λ o request is. free o (subst (IsAt b) (sym is) refl);
      unawaited = λ o is. still o (subst (RecoversAt b) (sym is) refl);
      unrecovered = λ o request is. still o (subst (RecoversAt b) (sym is) refl);
    })
    gate stores refl leads tells

-- The order, which begins a recovery, and the reply, which ends it.

apart : (m n : Machine) → m ≡ n → IsOutside n → IsApart m
apart m n same (rests, (idle, out)) = subst IsApart (sym same) (record { rests = rests; idle = idle; out = out })

pub ordered_place : (tables : List TableDef) (s : SessionId) (others : ℕ) (machine : Machine) (old new : Shared) (r q : Standing) (j k : Journal) (layout made : Layout) (moment : ℤ) (number : ℕ)
    → r ≡ new_standing s layout → made ≡ layout → IsOutside machine → new ≡ old → q ≡ after (new_standing s made) (events.Ordered (record { moment = moment; body = orders.Recover number }))
    → k ≡ added j (told_of tables s (events.Ordered (record { moment = moment; body = orders.Recover number }))) → (took : TookPlace tables s others (at old machine r j) (at new machine q k)) × (took.entry ≡ Recovers s (events.Ordered (recovering moment number)))
ordered_place tables s others machine old new r q j k layout made moment number rests same outside kept leads tells =
    let event = events.Ordered (record { moment = moment; body = orders.Recover number }) in
    proceeded tables s others event (at old machine r j) (at new machine q k) (subst (λ (z : Standing). MayHappen z event) (sym rests) refl)
    (λ machines recoveries own stands fits. apart (machines s) machine own outside) (ap (λ (z : Shared). z.gate) kept) (tt, ap (λ (z : Shared). z.stores) kept) refl
    (leads ∙ (ap (λ (l : Layout). after (new_standing s l) event) same ∙ ap (λ (z : Standing). after z event) (sym rests))) tells

pub replied_place : (tables : List TableDef) (s : SessionId) (others : ℕ) (machine next : Machine) (old new : Shared) (r q : Standing) (j k : Journal) (outcome : Outcome) (status : Status) → MayHappen r (events.Replied outcome status)
    → next ≡ machine → new ≡ old → q ≡ after r (events.Replied outcome status) → k ≡ added j (told_of tables s (events.Replied outcome status)) → (took : TookPlace tables s others (at old machine r j) (at new next q k)) × (took.entry ≡ Recovers s (events.Replied outcome status))
replied_place tables s others machine next old new r q j k outcome status may same kept leads tells =
    proceeded tables s others (events.Replied outcome status) (at old machine r j) (at new next q k) may (λ machines recoveries own stands fits. tt)
    (ap (λ (z : Shared). z.gate) kept) (ap (λ (z : Shared). z.stores) kept) same leads tells

-- behind a reply a recovery is as before its order
ends_at_rest : (r : Standing) (s : SessionId) (layout : Layout) (outcome : Outcome) (status : Status) → new_standing r.held.id r.held.layout ≡ new_standing s layout
    → new_standing s layout ≡ after r (events.Replied outcome status)
unfolding after_at
ends_at_rest r s layout outcome status same = sym same

pub rests_behind : (layout : Layout) (s : SessionId) (found : Option Recovery) (own : Recovery) (told : Option (Outcome × Status)) → found ≡ Some own
    → new_standing (standing_in own).held.id (standing_in own).held.layout ≡ new_standing s layout
    → IfSome told (λ t. new_standing s layout ≡ after (standing_at layout s found) (events.Replied t.0 t.1))
rests_behind layout s found own None is same = tt
rests_behind layout s found own (Some (outcome, status)) is same =
    ends_at_rest (standing_in own) s layout outcome status same ∙ ap (λ (o : Option Recovery). after (standing_at layout s o) (events.Replied outcome status)) (sym is)
