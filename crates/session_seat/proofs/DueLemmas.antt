-- What is asked for may take place: the gate's own answer to a call and to a detachment, and a loss.
use Rattle.std.proofs.Common.{Result, Ok, Err, ◌≡◌, ◌≢◌, ◌<◌, ◌≤◌, ◌+◌, ℕ, Bool, true, false, List, ◌++◌, length, take, drop, get_or, refl, sym, ap, ◌∙◌, subst, append_assoc, inl, inr, arith}
use Rattle.std.specs.Prelude.{ℤ, slice_get, Option, Some, None, IfOk, IfErr, ◌⊎◌, ◌||◌, ◌==◌, ◌^◌, nat_lt, nat_le, if◌then◌else◌, ◌↔◌}
use Rattle.std.proofs.lemmas.List.{take-append-drop}
use Rattle.std.proofs.lemmas.Option.{slice_get_read}
use Rattle.pool_base.specs.Outside.{Rose}
use Rattle.pool_base.specs.Sets.{has}
use Rattle.pool_base.specs.declared.backend_id.BackendId.{BackendId}
use Rattle.pool_base.specs.declared.session_id.SessionId.{SessionId}
use Rattle.pool_base.specs.declared.gate_call.GateCall.{GateCall}
use Rattle.pool_base.specs.declared.gate_call.GateCall.TheVariants as calls
use Rattle.pool_base.specs.declared.gate_call.GateAnswer.{GateAnswer}
use Rattle.pool_base.specs.declared.gate_call.GateAnswer.TheVariants.{Seen, Granted, Held, Spent}
use Rattle.pool_config.specs.declared.config.Node.{Node}
use Rattle.schema.specs.declared.catalogue.TableDef.{TableDef}
use Rattle.pg_messages.specs.declared.read.Read.{Read}
use Rattle.pg_messages.specs.declared.read.Read.TheVariants.{Whole, More, Bad, TooLong}
use Rattle.pg_messages.specs.declared.server.ServerMessage.{ServerMessage}
use Rattle.pg_messages.specs.Frame.{BeginsWith}
use Rattle.pg_messages.specs.Server.{IsServerForm}
use Rattle.snapshot_gate.specs.declared.state.GateState.{GateState}
use Rattle.snapshot_gate.specs.Function as gates
use Rattle.session_machine.specs.declared.action.Cause.{Cause}
use Rattle.session_machine.specs.declared.action.Action.{Action}
use Rattle.session_machine.specs.declared.action.Action.TheVariants as actions
use Rattle.session_machine.specs.declared.action.SessionEvent.TheVariants as events
use Rattle.session_machine.specs.declared.machine.Point.{Point}
use Rattle.session_machine.specs.declared.machine.Point.TheVariants.{Resting, EnterDue, LookDue, PostDue, Waiting, LostDue, SplitDue, ChooseDue, ShowDue, LeaveSnapshotDue, UnwindDue, EnterCommitDue, LeaveCommitDue, FinishDue, ReplyDue, EndDue}
use Rattle.session_machine.specs.declared.machine.Session.{Session}
use Rattle.session_machine.specs.declared.machine.Machine.{Machine}
use Rattle.session_machine.specs.declared.machine.ReadPolicy.{ReadPolicy}
use Rattle.session_machine.specs.Allowed.{MayHappen, answers_call, is_granted, is_granted_or_spent, is_seen_or_granted}
use Rattle.session_machine.specs.Rules.{action_at, next_action, new_machine, after, status_byte}
use Rattle.backend_trait.specs.declared.request.Request.{Request}
use Rattle.backend_trait.specs.declared.answer.Answer.{Answer}
use Rattle.backend_trait.specs.declared.answer.Polled.{Polled}
use Rattle.backend_trait.specs.declared.answer.Polled.TheVariants as polls
use Rattle.backend_trait.specs.Store.{Store}
use Rattle.backend_trait.specs.Acts.{InForm, IsPromptly}
use Rattle.session_seat.specs.declared.posting.Looked.{Looked}
use Rattle.session_engine.specs.declared.ask.Ask.{Ask}
use Rattle.session_engine.specs.Cores.{machine_in}
use Rattle.session_engine.specs.declared.ask.Ask.TheVariants as asks
use Rattle.session_engine.specs.Handing.{asked_of, gate_event, Detaches, IsDetach, Posts}
use Rattle.session_wire.specs.declared.wire.WireStep.{WireStep}
use Rattle.session_wire.specs.declared.wire.WireStep.TheVariants as wires
use Rattle.session_wire.specs.declared.due.Due.{Due}
use Rattle.session_wire.specs.Answers.{MayAnswer, Says}
use Rattle.session_wire.specs.Shown.{View}
use Rattle.session_orders.specs.declared.outcome.Outcome.{Outcome}
use Rattle.session_machine.specs.declared.status.Status.{Status}
use Rattle.session_wire.specs.Steps.{IsNext}
use Rattle.session_seat.specs.declared.book.Journal.{Journal}
use Rattle.session_seat.specs.declared.fault.StepFault.{StepFault}
use Rattle.session_seat.specs.declared.fault.StepFault.TheVariants.{Stopped}
use Rattle.backend_rolls.specs.declared.roll.Roll.{Roll}
use Rattle.session_seat.specs.declared.seat.Seat.{Seat}
use Rattle.session_seat.specs.declared.step.Step.{Step}
use Rattle.session_seat.specs.declared.step.Step.TheVariants as steps
use Rattle.session_seat.specs.Told.{added, told_of}
use Rattle.session_seat.specs.Shared.{Shared}
use Rattle.session_seat.specs.Steps.{at, TookPlace}
use Rattle.session_seat.specs.Speech.{IsQuiet}
use Rattle.session_seat.specs.Dues.{called, mark_of, Hears, LooksAt, WaitsFor, Follows, Rests, IsAsked, IsOfTurn, IsDue}
use Rattle.session_seat.specs.Stops.{IsFull, IsGarbled, IsNoMessage, IsTold, IsUnfit, MayPostAt, StopsAtPost, StopsTelling, StopsAtReply, StopsBehind, StopsAtRest, WorldView, StopsAsked, StopsTurn, Stops}

-- What holds of a result.

pub where_ok : {T E : Type 0} {P Q : T → Type 0} (r : Result T E) → ((x : T) → P x → Q x) → IfOk r P → IfOk r Q
where_ok (Ok x) f is = f x is
where_ok (Err e) f is = tt

pub where_err : {T E : Type 0} {P Q : E → Type 0} (r : Result T E) → ((e : E) → P e → Q e) → IfErr r P → IfErr r Q
where_err (Ok x) f is = tt
where_err (Err e) f is = f e is

-- What is asked for is a call, the answer of a backend, a detachment.

called_due : (action : Action) (call : GateCall) → asked_of action ≡ asks.Gate call → action ≡ actions.Gate call
called_due actions.Rest call asked = let never : asks.Rest ≡ asks.Gate call = asked in absurd (cc)
called_due (actions.Gate other) call asked = let same : other ≡ call = cc in ap actions.Gate same
called_due (actions.Detach b cause) call asked = let never : asks.Detach b ≡ asks.Gate call = asked in absurd (cc)
called_due (actions.Post b request) call asked = let never : asks.Post b ≡ asks.Gate call = asked in absurd (cc)
called_due (actions.WaitFor b) call asked = let never : asks.WaitFor b ≡ asks.Gate call = asked in absurd (cc)
called_due (actions.Reply outcome status) call asked = let never : asks.Reply ≡ asks.Gate call = asked in absurd (cc)
called_due actions.End call asked = let never : asks.End ≡ asks.Gate call = asked in absurd (cc)

waited_due : (action : Action) (b : BackendId) → asked_of action ≡ asks.WaitFor b → action ≡ actions.WaitFor b
waited_due actions.Rest b asked = let never : asks.Rest ≡ asks.WaitFor b = asked in absurd (cc)
waited_due (actions.Gate call) b asked = let never : asks.Gate call ≡ asks.WaitFor b = asked in absurd (cc)
waited_due (actions.Detach c cause) b asked = let never : asks.Detach c ≡ asks.WaitFor b = asked in absurd (cc)
waited_due (actions.Post c request) b asked = let never : asks.Post c ≡ asks.WaitFor b = asked in absurd (cc)
waited_due (actions.WaitFor c) b asked = let same : c ≡ b = cc in ap actions.WaitFor same
waited_due (actions.Reply outcome status) b asked = let never : asks.Reply ≡ asks.WaitFor b = asked in absurd (cc)
waited_due actions.End b asked = let never : asks.End ≡ asks.WaitFor b = asked in absurd (cc)

detached_due : (action : Action) (b : BackendId) (cause : Cause) → asked_of action ≡ asks.Detach b → Detaches action cause → action ≡ actions.Detach b cause
detached_due actions.Rest b cause asked is = absurd is
detached_due (actions.Gate call) b cause asked is = absurd is
detached_due (actions.Detach c other) b cause asked is = let same : c ≡ b = cc in ap (λ (d : BackendId). actions.Detach d other) same ∙ ap (actions.Detach b) (sym is)
detached_due (actions.Post c request) b cause asked is = absurd is
detached_due (actions.WaitFor c) b cause asked is = absurd is
detached_due (actions.Reply outcome status) b cause asked is = absurd is
detached_due actions.End b cause asked is = absurd is

-- a loss that was seen
pub lost_may : (m : Machine) (b : BackendId) (before later : ℕ) → asked_of (next_action m) ≡ asks.WaitFor b → Rose before later → MayHappen m (events.Faulted b before later)
lost_may m b before later asked rose = (waited_due (next_action m) b asked, rose)

-- The calls of a session, and the gate's own answers.

is_of_session : GateCall → Bool
is_of_session calls.Look = true
is_of_session calls.EnterSnapshot = true
is_of_session calls.LeaveSnapshot = true
is_of_session (calls.EnterCommit tables) = true
is_of_session calls.LeaveCommit = true
is_of_session calls.Finish = true
is_of_session (calls.Detach b) = false
is_of_session calls.StartCopy = false
is_of_session calls.AskQuiet = false
is_of_session calls.EnterQuiet = false
is_of_session (calls.Attach b) = false
is_of_session calls.LeaveQuiet = false

call_in : Action → GateCall
call_in actions.Rest = calls.Look
call_in (actions.Gate call) = call
call_in (actions.Detach b cause) = calls.Look
call_in (actions.Post b request) = calls.Look
call_in (actions.WaitFor b) = calls.Look
call_in (actions.Reply outcome status) = calls.Look
call_in actions.End = calls.Look

of_session_at : (session : Session) (point : Point) → is_of_session (call_in (action_at session point)) ≡ true
unfolding is_of_session call_in
of_session_at session Resting = refl
of_session_at session (EnterDue work) = refl
of_session_at session (LookDue stage) = refl
of_session_at session (PostDue stage b) = refl
of_session_at session (Waiting stage b) = refl
of_session_at session (LostDue stage b before later) = refl
of_session_at session (SplitDue stage best own among more) = refl
of_session_at session (ChooseDue work) = refl
of_session_at session ShowDue = refl
of_session_at session (LeaveSnapshotDue work) = refl
of_session_at session (UnwindDue ending) = refl
of_session_at session EnterCommitDue = refl
of_session_at session (LeaveCommitDue ending) = refl
of_session_at session (FinishDue ending) = refl
of_session_at session (ReplyDue outcome) = refl
of_session_at session EndDue = refl

pub is_held : GateAnswer → Bool
is_held (Seen view) = false
is_held (Granted view) = false
is_held (Held count) = true
is_held Spent = false

pub not_held : (answer : GateAnswer) → ((count : ℕ) → answer ≢ Held count) → is_held answer ≡ false
unfolding is_held
not_held (Seen view) other = refl
not_held (Granted view) other = refl
not_held (Held count) other = absurd (other count refl)
not_held Spent other = refl

enters : (a b c : Bool) (g : GateState) (n m : ℕ) → is_held (if a then gates.refuse g (Held n) else if b then gates.refuse g (Held m) else if c then gates.refuse g Spent else gates.grant g calls.EnterSnapshot).1 ≡ false
    → is_granted_or_spent (if a then gates.refuse g (Held n) else if b then gates.refuse g (Held m) else if c then gates.refuse g Spent else gates.grant g calls.EnterSnapshot).1 ≡ true
unfolding is_held
enters true b c g n m free = let never : true ≡ false = free in absurd (cc)
enters false true c g n m free = let never : true ≡ false = free in absurd (cc)
enters false false true g n m free = refl
enters false false false g n m free = refl

commits : (a : Bool) (g : GateState) (n tables : ℕ) → is_held (if a then gates.refuse g (Held n) else gates.grant g (calls.EnterCommit tables)).1 ≡ false
    → is_granted (if a then gates.refuse g (Held n) else gates.grant g (calls.EnterCommit tables)).1 ≡ true
unfolding is_held
commits true g n tables free = let never : true ≡ false = free in absurd (cc)
commits false g n tables free = refl

grants : (g : GateState) (call : GateCall) → is_of_session call ≡ true → is_held (gates.step g call).1 ≡ false → answers_call call (gates.step g call).1 ≡ true
unfolding is_of_session is_held
grants g calls.Look own free = refl
grants g calls.EnterSnapshot own free =
    enters (nat_lt 0 g.commits) (nat_le 2 g.quiet) ((g.snaps + g.live == 65535) || (g.done + g.snaps + g.live == 2 ^ 63)) g g.commits g.quiet free
grants g calls.LeaveSnapshot own free = refl
grants g (calls.EnterCommit tables) own free = commits (nat_lt 0 g.snaps) g g.snaps tables free
grants g calls.LeaveCommit own free = refl
grants g calls.Finish own free = refl
grants g (calls.Detach b) own free = let never : false ≡ true = own in absurd (cc)
grants g calls.StartCopy own free = let never : false ≡ true = own in absurd (cc)
grants g calls.AskQuiet own free = let never : false ≡ true = own in absurd (cc)
grants g calls.EnterQuiet own free = let never : false ≡ true = own in absurd (cc)
grants g (calls.Attach b) own free = let never : false ≡ true = own in absurd (cc)
grants g calls.LeaveQuiet own free = let never : false ≡ true = own in absurd (cc)

-- what the gate answers to a call of a session, if it does not hold it
called_as : (m : Machine) (g h : GateState) (call : GateCall) (answer : GateAnswer) → asked_of (next_action m) ≡ asks.Gate call → (h, answer) ≡ gates.step g call → is_held answer ≡ false
    → MayHappen m (events.Called call answer)
unfolding call_in
called_as m g h call answer asked is free =
    let due : next_action m ≡ actions.Gate call = called_due (next_action m) call asked in
    let its : answer ≡ (gates.step g call).1 = ap (λ (t : gates.Turn). t.1) is in
    let own : is_of_session call ≡ true = subst (λ (a : Action). is_of_session (call_in a) ≡ true) due (of_session_at m.session m.point) in
    (due, subst (λ (a : GateAnswer). answers_call call a ≡ true) (sym its) (grants g call own (subst (λ (a : GateAnswer). is_held a ≡ false) its free)))

pub called_may : (m : Machine) (g h : GateState) (call : GateCall) (answer : GateAnswer) → asked_of (next_action m) ≡ asks.Gate call → (h, answer) ≡ gates.step g call → is_held answer ≡ false
    → MayHappen m (gate_event (next_action m) answer)
called_may m g h call answer asked is free =
    subst (λ (a : Action). MayHappen m (gate_event a answer)) (sym (called_due (next_action m) call asked)) (called_as m g h call answer asked is free)

pub called_place : (tables : List TableDef) (s : SessionId) (m n : Machine) (old new : Shared) (j k : Journal) (call : GateCall) (answer : GateAnswer) → asked_of (next_action m) ≡ asks.Gate call
    → gates.MayCall old.gate call → (new.gate, answer) ≡ gates.step old.gate call → new.stores ≡ old.stores → is_held answer ≡ false → n ≡ after m (gate_event (next_action m) answer)
    → k ≡ added j (told_of tables s (events.Called call answer)) → (took : TookPlace tables s (at old m j) (at new n k)) × IsQuiet took.event
called_place tables s m n old new j k call answer asked may is stores free leads tells = (
  record {
    event = events.Called call answer;
    moves = record {
      may = called_as m old.gate new.gate call answer asked is free;
      answered = (may, is);
      serves = stores;
      leads = leads ∙ ap (λ (a : Action). after m (gate_event a answer)) (called_due (next_action m) call asked);
    };
    tells = tells;
  },
  tt,
)

-- which step it is
pub held_step : (g h : GateState) (call : GateCall) (answer : GateAnswer) (count : ℕ) → (h, answer) ≡ gates.step g call → answer ≡ Held count → steps.Waits ≡ called call (gates.step g call).1
held_step g h call answer count is held = ap (called call) (sym held ∙ ap (λ (t : gates.Turn). t.1) is)

free_step : (call : GateCall) (answer : GateAnswer) → is_held answer ≡ false → steps.Did (mark_of call answer) ≡ called call answer
unfolding is_held
free_step call (Seen view) free = refl
free_step call (Granted view) free = refl
free_step call (Held count) free = let never : true ≡ false = free in absurd (cc)
free_step call Spent free = refl

pub called_step : (g h : GateState) (call : GateCall) (answer : GateAnswer) (mark : _) → mark ≡ mark_of call answer → (h, answer) ≡ gates.step g call → is_held answer ≡ false
    → steps.Did mark ≡ called call (gates.step g call).1
called_step g h call answer mark same is free = ap steps.Did same ∙ (free_step call answer free ∙ ap (λ (t : gates.Turn). called call t.1) is)

-- A detachment is answered.

detaches : (inside : Bool) (g : GateState) (b : BackendId) → is_seen_or_granted (if inside then gates.grant g (calls.Detach b) else gates.refuse g (Seen (gates.view_of g))).1 ≡ true
detaches true g b = refl
detaches false g b = refl

detached_answer : (g h : GateState) (b : BackendId) (answer : GateAnswer) → (h, answer) ≡ gates.step g (calls.Detach b) → is_seen_or_granted answer ≡ true
detached_answer g h b answer is =
    subst (λ (a : GateAnswer). is_seen_or_granted a ≡ true) (sym (ap (λ (t : gates.Turn). t.1) is)) (detaches (has g.attached.bits b.number) g b)

detached_at : (m : Machine) (action : Action) (answer : GateAnswer) → next_action m ≡ action → IsDetach action → is_seen_or_granted answer ≡ true → MayHappen m (gate_event action answer)
detached_at m actions.Rest answer is due seen = absurd due
detached_at m (actions.Gate call) answer is due seen = absurd due
detached_at m (actions.Detach b cause) answer is due seen = (is, seen)
detached_at m (actions.Post b request) answer is due seen = absurd due
detached_at m (actions.WaitFor b) answer is due seen = absurd due
detached_at m (actions.Reply outcome status) answer is due seen = absurd due
detached_at m actions.End answer is due seen = absurd due

pub detached_may : (m : Machine) (g h : GateState) (b : BackendId) (answer : GateAnswer) → IsDetach (next_action m) → (h, answer) ≡ gates.step g (calls.Detach b)
    → MayHappen m (gate_event (next_action m) answer)
detached_may m g h b answer due is = detached_at m (next_action m) answer refl due (detached_answer g h b answer is)

pub detached_place : (tables : List TableDef) (s : SessionId) (m n : Machine) (old new : Shared) (j k : Journal) (b : BackendId) (answer : GateAnswer) → asked_of (next_action m) ≡ asks.Detach b
    → (new.gate, answer) ≡ gates.step old.gate (calls.Detach b) → new.stores ≡ old.stores → n ≡ after m (gate_event (next_action m) answer)
    → (tells : (cause : Cause) × Detaches (next_action m) cause × (k ≡ added j (told_of tables s (events.Detached b cause answer))))
    → (took : TookPlace tables s (at old m j) (at new n k)) × (took.event ≡ events.Detached b tells.0 answer)
detached_place tables s m n old new j k b answer asked is stores leads tells =
    let due : next_action m ≡ actions.Detach b tells.0 = detached_due (next_action m) b tells.0 asked tells.1 in (
      record {
        event = events.Detached b tells.0 answer;
        moves = record {
          may = (due, detached_answer old.gate new.gate b answer is);
          answered = is;
          serves = stores;
          leads = leads ∙ ap (λ (a : Action). after m (gate_event a answer)) due;
        };
        tells = tells.2;
      },
      refl,
    )

-- Messages that are read one after another.

pub front_on : (bytes front rest : List ℕ) (n : ℕ) → bytes ≡ front ++ rest → bytes ≡ (front ++ take n rest) ++ drop n rest
front_on bytes front rest n is = is ∙ (ap (λ (z : List ℕ). front ++ z) (sym (take-append-drop n rest)) ∙ sym (append_assoc front (take n rest) (drop n rest)))

-- a message is whole at the length that was read alone
pub none_whole : (read : Read ServerMessage) (bytes : List ℕ) (message : ServerMessage) (n : ℕ) → read ≡ Whole message n → n ≡ 0
    → ((m : ServerMessage) (k : ℕ) → (read ≡ Whole m k) ↔ BeginsWith IsServerForm m k bytes) → IsNoMessage bytes
unfolding IsNoMessage
none_whole read bytes message n is zero whole m k more begins =
    let both : Whole message n ≡ Whole m k = sym is ∙ (whole m k).1 begins in
    let same : n ≡ k = cc in
    absurd (omega (arith, same, zero, more))

pub not_whole : (read : Read ServerMessage) → (read ≡ More) ⊎ (((x : ℕ) × (read ≡ Bad x)) ⊎ ((x : ℕ) × (read ≡ TooLong x))) → (m : ServerMessage) (k : ℕ) → read ≢ Whole m k
not_whole read (inl more) m k is = let never : More ≡ Whole m k = sym more ∙ is in absurd (cc)
not_whole read (inr (inl (x, bad))) m k is = let never : Bad x ≡ Whole m k = sym bad ∙ is in absurd (cc)
not_whole read (inr (inr (x, long))) m k is = let never : TooLong x ≡ Whole m k = sym long ∙ is in absurd (cc)

pub none_other : (read : Read ServerMessage) (bytes : List ℕ) → ((m : ServerMessage) (k : ℕ) → read ≢ Whole m k)
    → ((m : ServerMessage) (k : ℕ) → (read ≡ Whole m k) ↔ BeginsWith IsServerForm m k bytes) → IsNoMessage bytes
unfolding IsNoMessage
none_other read bytes other whole m k more begins = other m k ((whole m k).1 begins)

-- What a session hears of a backend.

pub heard_step : {X E : Type 0} (meaning : X → Store) (is_prompt : X → Bool) (shelf : List X) (s : SessionId) (b : BackendId) (found polled : Polled) (r : Result Step E)
    → LooksAt meaning is_prompt shelf s.number b.number found → found ≡ polled → IfOk r (Hears b polled) → IfOk r (WaitsFor meaning is_prompt shelf s b)
unfolding WaitsFor
heard_step {X} {E} meaning is_prompt shelf s b found polled r looks is =
    where_ok r (λ step does. (polled, subst (LooksAt meaning is_prompt shelf s.number b.number) is looks, does))

pub unfit_stop : {X T : Type 0} (meaning : X → Store) (is_prompt : X → Bool) (shelf : List X) (m : Machine) (s : SessionId) (b : BackendId) (found : Polled) (answer : Answer) (count : ℕ) (P : Type 0) (r : Result T StepFault)
    → LooksAt meaning is_prompt shelf s.number b.number found → found ≡ polls.Answered answer → IfErr r (λ e. e ≡ Stopped → IsFull count ⊎ (MayHappen m (events.Taken b answer) → ⊥))
    → IfErr r (λ e. e ≡ Stopped → IsFull count ⊎ (P ⊎ IsUnfit meaning is_prompt shelf m s b))
unfit_stop {X} {T} meaning is_prompt shelf m s b found answer count P r looks is =
    where_err r (λ e why same. elim (why same) [
      | inl full ↦ inl full
      | inr unfit ↦ inr (inr (record { answer = answer; came = subst (LooksAt meaning is_prompt shelf s.number b.number) is looks; unfit = unfit }))
    ])

pub lost_stop : {T : Type 0} (old : ℕ) (P : Type 0) (r : Result T StepFault) → IfErr r (λ e. e ≡ Stopped → 18446744073709551615 ≤ old)
    → IfErr r (λ e. e ≡ Stopped → IsFull old ⊎ P)
lost_stop {T} old P r = where_err r (λ e why same. let full : 18446744073709551615 ≤ old = why same in inl (omega (arith, full)))

pub full_stop : {T : Type 0} (events : ℕ) (P : Type 0) (r : Result T StepFault) → IfErr r (λ e. e ≡ Stopped → IsFull events) → IfErr r (λ e. e ≡ Stopped → IsFull events ⊎ P)
full_stop {T} events P r = where_err r (λ e why same. inl (why same))

-- The step by what is asked for.

pub due_by : {X E : Type 0} (meaning : X → Store) (is_prompt : X → Bool) (tables : List TableDef) (moment : ℤ) (seat : Seat) (gate : GateState) (shelf : List X) (ask : Ask) (r : Result Step E)
    → seat.over ≡ false → asked_of (next_action (machine_in seat.core)) ≡ ask → IfOk r (IsAsked meaning is_prompt tables moment seat gate shelf ask) → IfOk r (IsDue meaning is_prompt tables moment seat gate shelf)
unfolding IsDue
due_by {X} {E} meaning is_prompt tables moment seat gate shelf ask r over asked =
    where_ok r (λ did is. subst (λ (o : Bool). IsOfTurn o meaning is_prompt tables moment seat gate shelf did) (sym over)
    (subst (λ (a : Ask). IsAsked meaning is_prompt tables moment seat gate shelf a did) (sym asked) is))

pub due_over : {X E : Type 0} (meaning : X → Store) (is_prompt : X → Bool) (tables : List TableDef) (moment : ℤ) (seat : Seat) (gate : GateState) (shelf : List X) (r : Result Step E)
    → seat.over ≡ true → IfOk r (λ did. did ≡ steps.Closed) → IfOk r (IsDue meaning is_prompt tables moment seat gate shelf)
unfolding IsDue
due_over {X} {E} meaning is_prompt tables moment seat gate shelf r over =
    where_ok r (λ did is. subst (λ (o : Bool). IsOfTurn o meaning is_prompt tables moment seat gate shelf did) (sym over) is)

pub stops_by : {X T : Type 0} (meaning : X → Store) (is_prompt : X → Bool) (tables : List TableDef) (moment : ℤ) (policy : ReadPolicy) (count : ℕ) (seat : Seat) (world : WorldView X) (ask : Ask) (r : Result T StepFault)
    → seat.over ≡ false → asked_of (next_action (machine_in seat.core)) ≡ ask → IfErr r (λ e. e ≡ Stopped → IsFull count ⊎ StopsAsked meaning is_prompt tables moment policy seat world ask)
    → IfErr r (λ e. e ≡ Stopped → Stops meaning is_prompt tables moment policy count seat world)
unfolding Stops
stops_by {X} {T} meaning is_prompt tables moment policy count seat world ask r over asked =
    where_err r (λ e why same. subst (λ (o : Bool). IsFull count ⊎ StopsTurn o meaning is_prompt tables moment policy seat world) (sym over)
    (subst (λ (a : Ask). IsFull count ⊎ StopsAsked meaning is_prompt tables moment policy seat world a) (sym asked) (why same)))

pub stops_over : {X T : Type 0} (meaning : X → Store) (is_prompt : X → Bool) (tables : List TableDef) (moment : ℤ) (policy : ReadPolicy) (count : ℕ) (seat : Seat) (world : WorldView X) (r : Result T StepFault)
    → seat.over ≡ true → IfErr r (λ e. e ≡ Stopped → machine_in seat.core ≢ new_machine seat.s policy)
    → IfErr r (λ e. e ≡ Stopped → Stops meaning is_prompt tables moment policy count seat world)
unfolding Stops
stops_over {X} {T} meaning is_prompt tables moment policy count seat world r over =
    where_err r (λ e why same. subst (λ (o : Bool). IsFull count ⊎ StopsTurn o meaning is_prompt tables moment policy seat world) (sym over) (inr (why same)))

-- What comes next of a client.

pub rests_by : {E : Type 0} (tables : List TableDef) (moment used : ℤ) (view after_it : View) (found next : WireStep) (r : Result Step E) → used ≡ moment → IsNext tables used view found after_it → found ≡ next
    → IfOk r (Follows next) → IfOk r (Rests tables moment view)
unfolding Rests
rests_by {E} tables moment used view after_it found next r same is here =
    where_ok r (λ did follows. (next, after_it, subst (λ (t : ℤ). IsNext tables t view next after_it) same (subst (λ (w : WireStep). IsNext tables used view w after_it) here is), follows))

pub rest_stop : {T : Type 0} (tables : List TableDef) (moment used : ℤ) (policy : ReadPolicy) (s : SessionId) (m : Machine) (view after_it : View) (found next : WireStep) (count : ℕ) (r : Result T StepFault) → used ≡ moment
    → IsNext tables used view found after_it → found ≡ next → IfErr r (λ e. e ≡ Stopped → IsFull count ⊎ StopsBehind tables policy s m next after_it)
    → IfErr r (λ e. e ≡ Stopped → IsFull count ⊎ StopsAtRest tables moment policy s m view)
unfolding StopsAtRest
rest_stop {T} tables moment used policy s m view after_it found next count r same is here =
    where_err r (λ e why stopped. elim (why stopped) [
      | inl full ↦ inl full
      | inr behind ↦ inr (next, after_it, subst (λ (t : ℤ). IsNext tables t view next after_it) same (subst (λ (w : WireStep). IsNext tables used view w after_it) here is), behind)
    ])

pub other_stop : {T : Type 0} (count : ℕ) (P Q : Type 0) (r : Result T StepFault) → (P → Q) → IfErr r (λ e. e ≡ Stopped → P) → IfErr r (λ e. e ≡ Stopped → IsFull count ⊎ Q)
other_stop {T} count P Q r f = where_err r (λ e why same. inr (f (why same)))

-- Telling an outcome.

told_after : (nodes : List Node) (old : Option Due) (outcome : Outcome) (status : ℕ) (view new : View) → ((due : Due) → old ≡ Some due → Says nodes due outcome status view new) → (old ≡ None → new ≡ view) → IsTold nodes old outcome status view new
told_after nodes None outcome status view new says none = none refl
told_after nodes (Some due) outcome status view new says none = says due refl

pub told_stop : {T : Type 0} (nodes : List Node) (count : ℕ) (outcome : Outcome) (status : Status) (byte : ℕ) (view new : View) (r : Result T StepFault) → byte ≡ status_byte status
    → ((due : Due) → view.due ≡ Some due → Says nodes due outcome byte view new) → (view.due ≡ None → new ≡ view) → IfErr r (λ e. e ≡ Stopped → IsGarbled new.output)
    → IfErr r (λ e. e ≡ Stopped → IsFull count ⊎ StopsTelling nodes outcome status view)
unfolding StopsTelling
told_stop {T} nodes count outcome status byte view new r same says none =
    where_err r (λ e why stopped. inr (inr (new, subst (λ (n : ℕ). IsTold nodes view.due outcome n view new) same (told_after nodes view.due outcome byte view new says none), why stopped)))

pub reply_stop : {T : Type 0} (nodes : List Node) (count : ℕ) (m : Machine) (outcome : Outcome) (status : Status) (view : View) (r : Result T StepFault) → actions.Reply outcome status ≡ next_action m
    → IfErr r (λ e. e ≡ Stopped → IsFull count ⊎ StopsTelling nodes outcome status view) → IfErr r (λ e. e ≡ Stopped → IsFull count ⊎ StopsAtReply nodes m view)
unfolding StopsAtReply
reply_stop {T} nodes count m outcome status view r due = where_err r (λ e why same. elim (why same) [
  | inl full ↦ inl full
  | inr telling ↦ inr (outcome, status, due, telling)
])

-- A look at a backend.

pub form_as : (old new : Store) (s : ℕ) (polled : Polled) (a b c d : ℕ) → a ≡ c → b ≡ d → InForm old s polled c d new → InForm old s polled a b new
form_as old new s polled a b c d first second form =
    subst (λ (n : ℕ). InForm old s polled n b new) (sym first) (subst (λ (n : ℕ). InForm old s polled c n new) (sym second) form)

pub looks : {X : Type 0} (meaning : X → Store) (is_prompt : X → Bool) (shelf : List X) (at s b : ℕ) (x y : X) (looked : Looked) → at ≡ b → at < length shelf → x ≡ get_or shelf at x
    → InForm (meaning x) s looked.polled looked.before looked.after (meaning y) → (is_prompt x ≡ true → IsPromptly (meaning x) s looked.polled) → LooksAt meaning is_prompt shelf s b looked.polled
looks {X} meaning is_prompt shelf at s b x y looked same below read form promptly = record {
  backend = x;
  there = subst (λ (n : ℕ). slice_get shelf n ≡ Some x) same (slice_get_read shelf (length shelf) at x refl below read);
  before = looked.before;
  later = looked.after;
  left = meaning y;
  form = form;
  promptly = promptly;
}

pub heard_now : {X : Type 0} (meaning : X → Store) (is_prompt : X → Bool) (shelf : List X) (s : SessionId) (b : BackendId) (found polled : Polled) (did : Step)
    → LooksAt meaning is_prompt shelf s.number b.number found → found ≡ polled → Hears b polled did → WaitsFor meaning is_prompt shelf s b did
unfolding WaitsFor
heard_now {X} meaning is_prompt shelf s b found polled did looks is does = (polled, subst (LooksAt meaning is_prompt shelf s.number b.number) is looks, does)

pub rests_now : (tables : List TableDef) (moment used : ℤ) (view after_it : View) (found next : WireStep) (did : Step) → used ≡ moment → IsNext tables used view found after_it → found ≡ next → Follows next did
    → Rests tables moment view did
unfolding Rests
rests_now tables moment used view after_it found next did same is here follows =
    (next, after_it, subst (λ (t : ℤ). IsNext tables t view next after_it) same (subst (λ (w : WireStep). IsNext tables used view w after_it) here is), follows)

pub awaits_stop : (tables : List TableDef) (moment used : ℤ) (policy : ReadPolicy) (s : SessionId) (m : Machine) (view after_it : View) (found : WireStep) (count : ℕ) → used ≡ moment → IsNext tables used view found after_it
    → found ≡ wires.NeedOutcome → IsFull count ⊎ StopsAtRest tables moment policy s m view
unfolding StopsAtRest
awaits_stop tables moment used policy s m view after_it found count same is here =
    inr (wires.NeedOutcome, after_it, subst (λ (t : ℤ). IsNext tables t view wires.NeedOutcome after_it) same (subst (λ (w : WireStep). IsNext tables used view w after_it) here is), tt)

pub told_never : (nodes : List Node) (count : ℕ) (outcome : Outcome) (status : Status) (view : View) → IsFull count ⊎ (MayAnswer outcome → ⊥) → IsFull count ⊎ StopsTelling nodes outcome status view
unfolding StopsTelling
told_never nodes count outcome status view (inl full) = inl full
told_never nodes count outcome status view (inr never) = inr (inl never)

-- A request that may not be posted.

pub post_stop : {T : Type 0} (count : ℕ) (tables : List TableDef) (backends : ℕ) (rolls : List Roll) (m : Machine) (s b : ℕ) (request : Request) (r : Result T StepFault) → Posts (next_action m) request
    → IfErr r (λ e. e ≡ Stopped → IsFull count ⊎ (MayPostAt tables backends rolls s b request → ⊥)) → IfErr r (λ e. e ≡ Stopped → IsFull count ⊎ StopsAtPost tables backends rolls m s b)
post_stop {T} count tables backends rolls m s b request r due = where_err r (λ e why same. elim (why same) [
  | inl full ↦ inl full
  | inr never ↦ inr (record { request = request; due = due; refused = never })
])
