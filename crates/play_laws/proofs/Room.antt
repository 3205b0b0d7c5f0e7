-- A play whose journal is not too long leaves the gate counts for all its commits.
use Rattle.std.proofs.Common.{◌≡◌, ◌+◌, ◌*◌, ◌<◌, ◌≤◌, ℕ, Bool, true, false, List, ◌∷◌, length, sym, ap, subst, arith, nat_lt, nat_le, if◌then◌else◌}
use Rattle.std.proofs.lemmas.List.{length-append}
use Rattle.pool_base.specs.Sets.{has}
use Rattle.pool_base.specs.declared.session_id.SessionId.{SessionId}
use Rattle.pool_base.specs.declared.gate_call.GateAnswer.{GateAnswer}
use Rattle.pool_base.specs.declared.gate_call.GateCall.{GateCall}
use Rattle.pool_base.specs.declared.gate_call.GateCall.TheVariants as calls
use Rattle.schema.specs.declared.catalogue.TableDef.{TableDef}
use Rattle.session_machine.specs.declared.action.SessionEvent.{SessionEvent}
use Rattle.session_machine.specs.declared.action.SessionEvent.TheVariants as events
use Rattle.snapshot_gate.specs.declared.state.GateState.{GateState}
use Rattle.snapshot_gate.specs.Function.{step}
use Rattle.session_seat.specs.Told.{told_of, told_lost}
use Rattle.session_seat.specs.Schedule.{IsAnswered}
use Rattle.recovery_seat.specs.Schedule.{Entry, Of, Recovers, Loses, State, told, lines, Comes}

-- a call leaves one commit more at most
abbrev OneMore : GateState → GateState → Type 0
OneMore old new = new.done ≤ old.done + 1

either_more : (t : Bool) (old : GateState) (x y : GateState × GateAnswer) → OneMore old x.0 → OneMore old y.0 → OneMore old (if t then x else y).0
either_more true old x y a b = a
either_more false old x y a b = b

stays : (n : ℕ) → n ≤ n + 1
stays n = omega arith

step_more : (g : GateState) (call : GateCall) → OneMore g (step g call).0
step_more g calls.Look = stays g.done
step_more g calls.EnterSnapshot =
    either_more (nat_lt 0 g.commits) g _ _ (stays g.done) (either_more (nat_le 2 g.quiet) g _ _ (stays g.done) (either_more _ g _ _ (stays g.done) (stays g.done)))
step_more g calls.LeaveSnapshot = stays g.done
step_more g (calls.EnterCommit tables) = either_more (nat_lt 0 g.snaps) g _ _ (stays g.done) (stays g.done)
step_more g calls.LeaveCommit = omega arith
step_more g calls.Finish = stays g.done
step_more g (calls.Detach b) = either_more (has g.attached.bits b.number) g _ _ (stays g.done) (stays g.done)
step_more g calls.StartCopy = either_more (nat_lt 0 g.quiet) g _ _ (stays g.done) (stays g.done)
step_more g calls.AskQuiet = stays g.done
step_more g calls.EnterQuiet = either_more (nat_lt 0 (g.snaps + g.live)) g _ _ (stays g.done) (stays g.done)
step_more g (calls.Attach b) = either_more (nat_le 4294967280 g.epoch) g _ _ (stays g.done) (stays g.done)
step_more g calls.LeaveQuiet = stays g.done

-- and its line has four bytes and more
abbrev pub Room : GateState → ℕ → Type 0
Room g more = 4 * g.done + more < 18446744073709551616

same_room : (old new : GateState) (line more : ℕ) → new ≡ old → Room old (line + more) → Room new more
same_room old new line more e room =
    let f : new.done ≡ old.done = ap (λ (g : GateState). g.done) e in
    omega (arith, f, room)

call_room : (old new : GateState) (line more : ℕ) → new.done ≤ old.done + 1 → 4 ≤ line → Room old (line + more) → Room new more
call_room old new line more one long room = omega (arith, one, long, room)

event_room : (tables : List TableDef) (s : SessionId) (event : SessionEvent) (old new : GateState) (more : ℕ) → IsAnswered old event new → Room old (length (told_of tables s event) + more) → Room new more
event_room tables s (events.Ordered order) old new more h room = same_room old new (length (told_of tables s (events.Ordered order))) more h room
event_room tables s (events.Called call answer) old new more h room =
    call_room old new (length (told_of tables s (events.Called call answer))) more
    (subst (λ (g : GateState). g.done ≤ old.done + 1) (ap (λ (p : GateState × GateAnswer). p.0) (sym h.1)) (step_more old call)) (omega arith) room
event_room tables s (events.Posted b request) old new more h room = same_room old new (length (told_of tables s (events.Posted b request))) more h room
event_room tables s (events.Taken b answer) old new more h room = same_room old new (length (told_of tables s (events.Taken b answer))) more h room
event_room tables s (events.Faulted b before later) old new more h room = same_room old new (length (told_of tables s (events.Faulted b before later))) more h room
event_room tables s (events.Detached b cause answer) old new more h room =
    call_room old new (length (told_of tables s (events.Detached b cause answer))) more
    (subst (λ (g : GateState). g.done ≤ old.done + 1) (ap (λ (p : GateState × GateAnswer). p.0) (sym h)) (step_more old (calls.Detach b))) (omega arith) room
event_room tables s (events.Swapped b) old new more h room = same_room old new (length (told_of tables s (events.Swapped b))) more h room
event_room tables s (events.Replied outcome status) old new more h room = same_room old new (length (told_of tables s (events.Replied outcome status))) more h room
event_room tables s events.Ended old new more h room = same_room old new (length (told_of tables s events.Ended)) more h room

entry_room : (tables : List TableDef) (old new : State) (entry : Entry) (more : ℕ) → Comes tables old entry new → Room old.shared.gate (length (told tables entry) + more) → Room new.shared.gate more
entry_room tables old new (Of s event) more h room = event_room tables s event old.shared.gate new.shared.gate more h.moves.answered room
entry_room tables old new (Recovers s event) more h room = event_room tables s event old.shared.gate new.shared.gate more h.answered room
entry_room tables old new (Loses b) more h room = same_room old.shared.gate new.shared.gate (length (told_lost b)) more h.loss.gate room

pub rest_room : (tables : List TableDef) (old new : State) (entry : Entry) (entries : List Entry) → Comes tables old entry new → Room old.shared.gate (length (lines tables (entry ∷ entries)))
    → Room new.shared.gate (length (lines tables entries))
rest_room tables old new entry entries h room =
    entry_room tables old new entry (length (lines tables entries)) h
    (subst (λ n. Room old.shared.gate n) (length-append (told tables entry) (lines tables entries)) room)

pub has_room : (g : GateState) (more : ℕ) → Room g more → g.done < 4611686018427387904
has_room g more room = omega (arith, room)
