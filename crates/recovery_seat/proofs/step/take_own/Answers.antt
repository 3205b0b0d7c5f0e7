use Rattle.std.proofs.Common.{◌≡◌, ◌∙◌, ap, sym, subst, take, w64, rules}
use Rattle.std.specs.Prelude.{ℤ, IfOk}
use Rattle.std.proofs.lemmas.Int.{to_z-of_z}
use Rattle.session_machine.specs.declared.action.SessionEvent.TheVariants as events
use Rattle.pool_base.specs.declared.session_id.SessionId.{SessionId}
use Rattle.session_engine.specs.Cores.{machine_in}
use Rattle.session_seat.specs.Policy.{policy_in}
use Rattle.session_seat.specs.Shared.{shared_of}
use Rattle.session_seat.specs.Steps as seats
use Rattle.recovery_seat.specs.Places.{standing_at, standing_of}
use Rattle.recovery_seat.specs.Steps.{at}
use Rattle.recovery_seat.proofs.DueLemmas.{order_due, own_due}
use Rattle.session_seat.specs.Speech.{Speech, recovering, speech}
use Rattle.recovery_seat.specs.Speech.{DidAs, Speaks}
use Rattle.recovery_seat.proofs.SpeechLemmas.{begun_spoken, own_spoken}
use Rattle.recovery_seat.proofs.StepLemmas.{begun_ok, own_taken, standing_none}
use Rattle.recovery_seat.proofs.step.take_own.Goals as goal

pub returns-in-Recovers-clause-noted : goal.returns-in-Recovers-clause-noted
returns-in-Recovers-clause-noted g c = λ layout others is.
    let world = c.args.world.now in
    let mid = c.take_step.new.world in
    let new = c.begin.new.world in
    let place = c.args.place.now in
    let seat = c.take_step.new.seat in
    begun_ok c.args.setting.tables.now (policy_in c.args.setting.config.now) layout place.seat.s seat.s others
    (seats.at (shared_of g.B.Backend.meaning world.gate.state world.tables world.count world.shelf.items) (machine_in place.seat.core) c.args.book.now.journal)
    (seats.at (shared_of g.B.Backend.meaning mid.gate.state mid.tables mid.count mid.shelf.items) (machine_in seat.core) c.take_step.new.book.journal)
    (standing_of layout place) (standing_at layout seat.s place.recovery)
    (at (shared_of g.B.Backend.meaning new.gate.state new.tables new.count new.shelf.items) (machine_in c.begin.new.place.seat.core) (standing_of layout c.begin.new.place) c.begin.new.book.journal)
    c.in_ok-step.step c.in-Recovers.moment c.in-Recovers.number c.begin.result c.in-Recovers.is c.in_ok-step.ensures.noted c.take_step.ensures.s
    (ap (λ (s : SessionId). standing_at layout s place.recovery) c.take_step.ensures.s) (c.begin.ensures.noted layout others is)

pub returns-in_default-clause-noted : goal.returns-in_default-clause-noted
returns-in_default-clause-noted g c = λ layout others is.
    let world = c.args.world.now in
    let new = c.take_step.new.world in
    let place = c.args.place.now in
    let seat = c.take_step.new.seat in
    let none = standing_none layout place.seat.s place.recovery c.requires.none in
    own_taken c.args.setting.tables.now (policy_in c.args.setting.config.now) layout place.seat.s others
    (seats.at (shared_of g.B.Backend.meaning world.gate.state world.tables world.count world.shelf.items) (machine_in place.seat.core) c.args.book.now.journal)
    (seats.at (shared_of g.B.Backend.meaning new.gate.state new.tables new.count new.shelf.items) (machine_in seat.core) c.take_step.new.book.journal)
    (standing_of layout place) (standing_at layout seat.s place.recovery) c.in_ok-step.step none (ap (λ (s : SessionId). standing_at layout s place.recovery) c.take_step.ensures.s ∙ none)
    c.in_default.not-Recovers c.in_ok-step.ensures.noted

pub returns-in-Recovers-clause-due : goal.returns-in-Recovers-clause-due
returns-in-Recovers-clause-due g c =
    let world = c.args.world.now in
    order_due g.B.Backend.meaning g.B.Backend.is_prompt c.args.setting.tables.now c.args.setting.moment c.args.place.now.seat world.gate.state (take world.count world.shelf.items)
    c.in_ok-step.step c.in-Recovers.moment c.in-Recovers.number c.begin.result c.in-Recovers.is c.in_ok-step.ensures.due c.begin.ensures.due

pub returns-in_default-clause-due : goal.returns-in_default-clause-due
returns-in_default-clause-due g c =
    let world = c.args.world.now in
    own_due g.B.Backend.meaning g.B.Backend.is_prompt c.args.setting.tables.now c.args.setting.moment c.args.place.now.seat world.gate.state (take world.count world.shelf.items)
    c.in_ok-step.step c.in_default.not-Recovers c.in_ok-step.ensures.due

pub returns-in-Recovers-clause-speaks : goal.returns-in-Recovers-clause-speaks
returns-in-Recovers-clause-speaks g c = λ layout others is.
    let world = c.args.world.now in
    let mid = c.take_step.new.world in
    let new = c.begin.new.world in
    let place = c.args.place.now in
    let seat = c.take_step.new.seat in
    let last = c.begin.new.place in
    let stand = at (shared_of g.B.Backend.meaning new.gate.state new.tables new.count new.shelf.items) (machine_in last.seat.core) (standing_of layout last) c.begin.new.book.journal in
    let tables = c.args.setting.tables.now in
    let nodes = c.args.setting.config.now.nodes in
    let policy = policy_in c.args.setting.config.now in
    let before = at (shared_of g.B.Backend.meaning world.gate.state world.tables world.count world.shelf.items) (machine_in place.seat.core) (standing_of layout place) c.args.book.now.journal in
    let was = speech place.seat c.args.book.now.lines in
    let same : speech last.seat c.begin.new.book.lines ≡ speech seat c.take_step.new.book.lines = (λ i. speech (c.begin.ensures.seat i) (c.begin.ensures.still i)) in
    subst (λ (z : Speech). IfOk c.begin.result (λ step. Speaks tables c.args.setting.moment nodes policy layout place.seat.s others before was step stand z)) (sym same)
    (begun_spoken tables c.args.setting.moment nodes policy layout place.seat.s seat.s others
    (seats.at (shared_of g.B.Backend.meaning world.gate.state world.tables world.count world.shelf.items) (machine_in place.seat.core) c.args.book.now.journal)
    (seats.at (shared_of g.B.Backend.meaning mid.gate.state mid.tables mid.count mid.shelf.items) (machine_in seat.core) c.take_step.new.book.journal)
    (standing_of layout place) (standing_at layout seat.s place.recovery) stand was (speech seat c.take_step.new.book.lines)
    c.in_ok-step.step c.in-Recovers.moment c.in-Recovers.number c.begin.result c.in-Recovers.is c.in_ok-step.ensures.speaks c.take_step.ensures.s
    (ap (λ (s : SessionId). standing_at layout s place.recovery) c.take_step.ensures.s)
    (subst (λ (m : ℤ). IfOk c.begin.result (λ step. DidAs tables seat.s others (events.Ordered (recovering m c.in-Recovers.number))
    (at (shared_of g.B.Backend.meaning mid.gate.state mid.tables mid.count mid.shelf.items) (machine_in seat.core) (standing_at layout seat.s place.recovery) c.take_step.new.book.journal) step stand))
    (to_z-of_z w64 c.in-Recovers.moment (search rules)) (c.begin.ensures.ordered layout others is)))

pub returns-in_default-clause-speaks : goal.returns-in_default-clause-speaks
returns-in_default-clause-speaks g c = λ layout others is.
    let world = c.args.world.now in
    let new = c.take_step.new.world in
    let place = c.args.place.now in
    let seat = c.take_step.new.seat in
    let none = standing_none layout place.seat.s place.recovery c.requires.none in
    own_spoken c.args.setting.tables.now c.args.setting.moment c.args.setting.config.now.nodes (policy_in c.args.setting.config.now) layout place.seat.s others
    (seats.at (shared_of g.B.Backend.meaning world.gate.state world.tables world.count world.shelf.items) (machine_in place.seat.core) c.args.book.now.journal)
    (seats.at (shared_of g.B.Backend.meaning new.gate.state new.tables new.count new.shelf.items) (machine_in seat.core) c.take_step.new.book.journal)
    (standing_of layout place) (standing_at layout seat.s place.recovery) (speech place.seat c.args.book.now.lines) (speech seat c.take_step.new.book.lines)
    c.in_ok-step.step none (ap (λ (s : SessionId). standing_at layout s place.recovery) c.take_step.ensures.s ∙ none)
    c.in_default.not-Recovers c.in_ok-step.ensures.speaks
