use Rattle.std.proofs.Common.{refl, take}
use Rattle.session_engine.specs.Cores.{machine_in}
use Rattle.session_seat.specs.Policy.{policy_in}
use Rattle.session_seat.specs.Shared.{shared_of}
use Rattle.recovery_seat.specs.Places.{standing_of}
use Rattle.recovery_seat.specs.Steps.{at}
use Rattle.session_wire.specs.Shown.{shown}
use Rattle.session_seat.specs.Speech.{speech}
use Rattle.recovery_seat.specs.Dues.{IsOwn}
use Rattle.recovery_seat.proofs.DueLemmas.{never_ok}
use Rattle.recovery_seat.proofs.SpeechLemmas.{went_spoken}
use Rattle.recovery_seat.proofs.StepLemmas.{went_ok}
use Rattle.recovery_seat.proofs.step.take_step.Goals as goal

pub returns-in-Ends-clause-noted : goal.returns-in-Ends-clause-noted
returns-in-Ends-clause-noted g c = λ layout is.
    let world = c.args.world.now in
    let new = c.end.new.world in
    let place = c.args.place.now in
    let last = c.end.new.place in
    went_ok c.args.setting.tables.now (policy_in c.args.setting.config.now) layout place.seat.s c.args.others.bits
    (at (shared_of g.B.Backend.meaning world.gate.state world.tables world.count world.shelf.items) (machine_in place.seat.core) (standing_of layout place) c.args.book.now.journal)
    (at (shared_of g.B.Backend.meaning new.gate.state new.tables new.count new.shelf.items) (machine_in last.seat.core) (standing_of layout last) c.end.new.book.journal)
    c.end.result (c.end.ensures.noted layout c.args.others.bits is)

pub returns-in-GoesOn-clause-noted : goal.returns-in-GoesOn-clause-noted
returns-in-GoesOn-clause-noted g c = λ layout is.
    let world = c.args.world.now in
    let new = c.go_on.new.world in
    let place = c.args.place.now in
    let last = c.go_on.new.place in
    went_ok c.args.setting.tables.now (policy_in c.args.setting.config.now) layout place.seat.s c.args.others.bits
    (at (shared_of g.B.Backend.meaning world.gate.state world.tables world.count world.shelf.items) (machine_in place.seat.core) (standing_of layout place) c.args.book.now.journal)
    (at (shared_of g.B.Backend.meaning new.gate.state new.tables new.count new.shelf.items) (machine_in last.seat.core) (standing_of layout last) c.go_on.new.book.journal)
    c.go_on.result (c.go_on.ensures.noted layout)

pub returns-in-Ends-clause-speaks : goal.returns-in-Ends-clause-speaks
returns-in-Ends-clause-speaks g c = λ layout is.
    let world = c.args.world.now in
    let new = c.end.new.world in
    let place = c.args.place.now in
    let last = c.end.new.place in
    let spoken = speech last.seat c.end.new.book.lines in
    went_spoken c.args.setting.tables.now c.args.setting.moment c.args.setting.config.now.nodes (policy_in c.args.setting.config.now) layout place.seat.s c.args.others.bits
    (at (shared_of g.B.Backend.meaning world.gate.state world.tables world.count world.shelf.items) (machine_in place.seat.core) (standing_of layout place) c.args.book.now.journal)
    (at (shared_of g.B.Backend.meaning new.gate.state new.tables new.count new.shelf.items) (machine_in last.seat.core) (standing_of layout last) c.end.new.book.journal)
    (speech place.seat c.args.book.now.lines) spoken spoken c.end.result refl (c.end.ensures.speaks layout c.args.others.bits is)

pub returns-in-GoesOn-clause-speaks : goal.returns-in-GoesOn-clause-speaks
returns-in-GoesOn-clause-speaks g c = λ layout is.
    let world = c.args.world.now in
    let new = c.go_on.new.world in
    let place = c.args.place.now in
    let last = c.go_on.new.place in
    let was = speech place.seat c.args.book.now.lines in
    let lines = c.go_on.new.book.lines in
    went_spoken c.args.setting.tables.now c.args.setting.moment c.args.setting.config.now.nodes (policy_in c.args.setting.config.now) layout place.seat.s c.args.others.bits
    (at (shared_of g.B.Backend.meaning world.gate.state world.tables world.count world.shelf.items) (machine_in place.seat.core) (standing_of layout place) c.args.book.now.journal)
    (at (shared_of g.B.Backend.meaning new.gate.state new.tables new.count new.shelf.items) (machine_in last.seat.core) (standing_of layout last) c.go_on.new.book.journal)
    was (record was { lines = lines }) (speech last.seat lines) c.go_on.result
    (λ i. record { view = shown (c.go_on.ensures.wire i); over = c.go_on.ensures.over i; lines = lines }) (c.go_on.ensures.speaks layout was refl)

pub returns-in-Own-clause-due : goal.returns-in-Own-clause-due
returns-in-Own-clause-due g c = λ layout rests. c.take_own.ensures.due

pub returns-in-Ends-clause-due : goal.returns-in-Ends-clause-due
returns-in-Ends-clause-due g c = λ layout rests. absurd (c.pace_of.ensures.busy c.in-Ends.is layout rests)

pub returns-in-GoesOn-clause-due : goal.returns-in-GoesOn-clause-due
returns-in-GoesOn-clause-due g c = λ layout rests.
    never_ok (λ step. IsOwn g.B.Backend.meaning g.B.Backend.is_prompt c.args.setting.tables.now c.args.setting.moment c.args.place.now.seat c.args.world.now.gate.state (take c.args.world.now.count c.args.world.now.shelf.items) step) c.go_on.result
    (c.go_on.ensures.busy layout rests)
