use Rattle.std.proofs.Common.{◌≡◌, ◌≢◌, refl, inl, inr, w64, rules}
use Rattle.std.specs.Prelude.{IfErr, ◌⊎◌}
use Rattle.std.proofs.lemmas.Int.{to_z-of_z}
use Rattle.session_machine.specs.Rules.{new_machine}
use Rattle.session_engine.specs.Cores.{machine_in}
use Rattle.session_wire.specs.declared.wire.WireStep.TheVariants as wires
use Rattle.session_wire.specs.Shown.{shown}
use Rattle.session_seat.specs.declared.fault.StepFault.TheVariants.{Stopped}
use Rattle.session_seat.specs.declared.step.Step.TheVariants as steps
use Rattle.session_seat.specs.Policy.{policy_in}
use Rattle.session_seat.specs.Stops.{IsGarbled}
use Rattle.session_seat.proofs.DueLemmas.{awaits_stop, other_stop, rest_stop, rests_by, rests_now}
use Rattle.session_seat.specs.Speech.{speech}
use Rattle.session_seat.specs.Steps.{at}
use Rattle.session_seat.proofs.SpeechLemmas.{asks_now, end_told, ordered_told}
use Rattle.session_seat.proofs.step.take_order.Goals as goal

pub returns-in_ok-put_output-in-NeedInput-clause-due : goal.returns-in_ok-put_output-in-NeedInput-clause-due
returns-in_ok-put_output-in-NeedInput-clause-due c =
    rests_now c.args.setting.tables.now c.args.setting.moment _ (shown c.args.seat.now.wire) (shown c.next.new.self) c.in_ok-next.field-0 wires.NeedInput steps.Idle (to_z-of_z w64 c.args.setting.moment (search rules)) c.in_ok-next.ensures.exact c.in-NeedInput.is refl

pub returns-in_err-put_output-in-NeedInput-clause-stopped : goal.returns-in_err-put_output-in-NeedInput-clause-stopped
returns-in_err-put_output-in-NeedInput-clause-stopped c =
    let Garbled : Type 0 = IsGarbled (shown c.next.new.self).output in
    let result = c.from_residual-in_err-put_output-in-NeedInput.result in
    let why : IfErr result (λ e. e ≡ Stopped → Garbled) = search rules in
    rest_stop c.args.setting.tables.now c.args.setting.moment _ (policy_in c.args.setting.config.now) c.args.seat.now.s (machine_in c.args.seat.now.core) (shown c.args.seat.now.wire) (shown c.next.new.self) c.in_ok-next.field-0 wires.NeedInput c.args.book.now.events result (to_z-of_z w64 c.args.setting.moment (search rules)) c.in_ok-next.ensures.exact c.in-NeedInput.is
    (other_stop c.args.book.now.events Garbled Garbled result (λ it. it) why)

pub returns-in-NeedOutcome-clause-stopped : goal.returns-in-NeedOutcome-clause-stopped
returns-in-NeedOutcome-clause-stopped c =
    λ same. awaits_stop c.args.setting.tables.now c.args.setting.moment _ (policy_in c.args.setting.config.now) c.args.seat.now.s (machine_in c.args.seat.now.core) (shown c.args.seat.now.wire) (shown c.next.new.self) c.in_ok-next.field-0 c.args.book.now.events (to_z-of_z w64 c.args.setting.moment (search rules)) c.in_ok-next.ensures.exact c.in-NeedOutcome.is

pub returns-in_ok-put_output-in-Close-clause-due : goal.returns-in_ok-put_output-in-Close-clause-due
returns-in_ok-put_output-in-Close-clause-due c =
    rests_by c.args.setting.tables.now c.args.setting.moment _ (shown c.args.seat.now.wire) (shown c.next.new.self) c.in_ok-next.field-0 (wires.Close c.in-Close.refused) c.close.result (to_z-of_z w64 c.args.setting.moment (search rules)) c.in_ok-next.ensures.exact c.in-Close.is c.close.ensures.closed

pub returns-in_err-put_output-in-Close-clause-stopped : goal.returns-in_err-put_output-in-Close-clause-stopped
returns-in_err-put_output-in-Close-clause-stopped c =
    let Garbled : Type 0 = IsGarbled (shown c.next.new.self).output in
    let Other : Type 0 = machine_in c.args.seat.now.core ≢ new_machine c.args.seat.now.s (policy_in c.args.setting.config.now) in
    let result = c.from_residual-in_err-put_output-in-Close.result in
    let why : IfErr result (λ e. e ≡ Stopped → Garbled) = search rules in
    rest_stop c.args.setting.tables.now c.args.setting.moment _ (policy_in c.args.setting.config.now) c.args.seat.now.s (machine_in c.args.seat.now.core) (shown c.args.seat.now.wire) (shown c.next.new.self) c.in_ok-next.field-0 (wires.Close c.in-Close.refused) c.args.book.now.events result (to_z-of_z w64 c.args.setting.moment (search rules)) c.in_ok-next.ensures.exact c.in-Close.is
    (other_stop c.args.book.now.events Garbled (Garbled ⊎ Other) result (λ it. inl it) why)

pub returns-in_ok-put_output-in-Close-clause-stopped : goal.returns-in_ok-put_output-in-Close-clause-stopped
returns-in_ok-put_output-in-Close-clause-stopped c =
    let Garbled : Type 0 = IsGarbled (shown c.next.new.self).output in
    let Other : Type 0 = machine_in c.args.seat.now.core ≢ new_machine c.args.seat.now.s (policy_in c.args.setting.config.now) in
    rest_stop c.args.setting.tables.now c.args.setting.moment _ (policy_in c.args.setting.config.now) c.args.seat.now.s (machine_in c.args.seat.now.core) (shown c.args.seat.now.wire) (shown c.next.new.self) c.in_ok-next.field-0 (wires.Close c.in-Close.refused) c.args.book.now.events c.close.result (to_z-of_z w64 c.args.setting.moment (search rules)) c.in_ok-next.ensures.exact c.in-Close.is
    (other_stop c.args.book.now.events Other (Garbled ⊎ Other) c.close.result (λ it. inr it) c.close.ensures.stopped)

pub returns-in-Order-clause-due : goal.returns-in-Order-clause-due
returns-in-Order-clause-due c =
    rests_by c.args.setting.tables.now c.args.setting.moment _ (shown c.args.seat.now.wire) (shown c.next.new.self) c.in_ok-next.field-0 (wires.Order c.in-Order.order) c.obey.result (to_z-of_z w64 c.args.setting.moment (search rules)) c.in_ok-next.ensures.exact c.in-Order.is c.obey.ensures.due

pub returns-in-Order-clause-stopped : goal.returns-in-Order-clause-stopped
returns-in-Order-clause-stopped c =
    rest_stop c.args.setting.tables.now c.args.setting.moment _ (policy_in c.args.setting.config.now) c.args.seat.now.s (machine_in c.args.seat.now.core) (shown c.args.seat.now.wire) (shown c.next.new.self) c.in_ok-next.field-0 (wires.Order c.in-Order.order) c.args.book.now.events c.obey.result (to_z-of_z w64 c.args.setting.moment (search rules)) c.in_ok-next.ensures.exact c.in-Order.is c.obey.ensures.stopped

pub returns-in_ok-put_output-in-NeedInput-clause-speaks : goal.returns-in_ok-put_output-in-NeedInput-clause-speaks
returns-in_ok-put_output-in-NeedInput-clause-speaks c = λ running shared.
    let seat = c.args.seat.now in
    let after = record seat { wire = c.put_output.new.wire } in (
      record { shared = refl; machine = refl; journal = c.put_output.ensures.journal },
      asks_now c.args.setting.tables.now c.args.setting.moment _ seat.s.number (speech seat c.args.book.now.lines) (speech after c.put_output.new.book.lines) (shown c.next.new.self) c.in_ok-next.field-0 wires.NeedInput (to_z-of_z w64 c.args.setting.moment (search rules))
          c.in_ok-next.ensures.exact c.in-NeedInput.is c.in_ok-put_output-in-NeedInput.ensures.written refl,
    )

pub returns-in_ok-put_output-in-Close-clause-speaks : goal.returns-in_ok-put_output-in-Close-clause-speaks
returns-in_ok-put_output-in-Close-clause-speaks c = λ running shared.
    let seat = c.args.seat.now in
    let after = record seat { wire = c.put_output-in-Close.new.wire } in
    let mid = c.put_output-in-Close.new.book in
    let asks = asks_now c.args.setting.tables.now c.args.setting.moment _ seat.s.number (speech seat c.args.book.now.lines) (speech after mid.lines) (shown c.next.new.self) c.in_ok-next.field-0 (wires.Close c.in-Close.refused) (to_z-of_z w64 c.args.setting.moment (search rules))
    c.in_ok-next.ensures.exact c.in-Close.is c.in_ok-put_output-in-Close.ensures.written refl in
    end_told c.args.setting.tables.now c.args.setting.moment c.args.setting.config.now.nodes (policy_in c.args.setting.config.now) seat.s shared (machine_in seat.core) c.args.book.now.journal mid.journal c.close.new.book.journal
    (speech seat c.args.book.now.lines) (speech after mid.lines) c.in-Close.refused c.close.new.book.lines c.close.result c.put_output-in-Close.ensures.journal (c.close.ensures.noted shared) c.close.ensures.closed running asks c.close.ensures.lines

pub returns-in-Order-clause-speaks : goal.returns-in-Order-clause-speaks
returns-in-Order-clause-speaks c = λ running shared.
    let seat = c.args.seat.now in
    ordered_told c.args.setting.tables.now c.args.setting.moment _ c.args.setting.config.now.nodes (policy_in c.args.setting.config.now) seat.s (at shared (machine_in seat.core) c.args.book.now.journal)
    (at shared (machine_in c.obey.new.seat.core) c.obey.new.book.journal) (speech seat c.args.book.now.lines) (speech c.obey.new.seat c.obey.new.book.lines) (shown c.next.new.self) c.in_ok-next.field-0 c.in-Order.order c.obey.result
    (to_z-of_z w64 c.args.setting.moment (search rules)) c.in_ok-next.ensures.exact c.in-Order.is (c.obey.ensures.ordered shared) c.obey.ensures.written c.obey.ensures.over
