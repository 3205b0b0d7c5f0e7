-- What the functions of the program leave of the world.
use Rattle.std.specs.Prelude.{ℕ, Option}
use Rattle.pool_base.specs.declared.gate_call.GateCall.TheVariants as calls
use Rattle.backend_trait.specs.declared.answer.Answer.{Answer}
use Rattle.backend_trait.specs.Rows.{with_at}
use Rattle.backend_trait.specs.Store.{Store}
use Rattle.session_machine.specs.declared.action.SessionEvent.{SessionEvent}
use Rattle.session_machine.specs.declared.action.SessionEvent.TheVariants as events
use Rattle.session_machine.specs.declared.machine.Machine.{Machine}
use Rattle.snapshot_gate.specs.declared.state.GateState.{GateState}
use Rattle.snapshot_gate.specs.Function.{MayCall}
use Rattle.one_copy_model.specs.World.{World, stores_after, mail_after, with_mail}

abbrev pub with_gate : World → GateState → World
with_gate w gate = record w { gate = gate }

abbrev pub with_machine : World → ℕ → Machine → World
with_machine w s m = record w { machine = with_at w.machine s m }

abbrev pub with_store : World → ℕ → Store → World
with_store w b st = record w { store = with_at w.store b st }

abbrev pub with_answer : World → ℕ → ℕ → Option Answer → World
with_answer w s b answer = record w { mail = with_mail w.mail s b answer }

abbrev pub with_backends : World → ℕ → SessionEvent → World
with_backends w s event = record w { store = stores_after w.tables w.store s event; mail = mail_after w.mail s event }

-- a call that an event makes at the gate meets its condition
abbrev pub MayMove : GateState → SessionEvent → Type 0
MayMove gate (events.Ordered order) = Unit {0}
MayMove gate (events.Called call answer) = MayCall gate call
MayMove gate (events.Posted b request) = Unit {0}
MayMove gate (events.Taken b answer) = Unit {0}
MayMove gate (events.Faulted b before after) = Unit {0}
MayMove gate (events.Detached b cause answer) = MayCall gate (calls.Detach b)
MayMove gate (events.Swapped b) = Unit {0}
MayMove gate (events.Replied outcome status) = Unit {0}
MayMove gate events.Ended = Unit {0}

-- a Swap is a recovery's, and no event of a session's machine
abbrev pub IsOfSession : SessionEvent → Type 0
IsOfSession (events.Ordered order) = Unit {0}
IsOfSession (events.Called call answer) = Unit {0}
IsOfSession (events.Posted b request) = Unit {0}
IsOfSession (events.Taken b answer) = Unit {0}
IsOfSession (events.Faulted b before after) = Unit {0}
IsOfSession (events.Detached b cause answer) = Unit {0}
IsOfSession (events.Swapped b) = ⊥
IsOfSession (events.Replied outcome status) = Unit {0}
IsOfSession events.Ended = Unit {0}
