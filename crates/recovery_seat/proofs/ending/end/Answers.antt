use Rattle.std.proofs.Common.{◌∙◌, ap, subst}
use Rattle.pool_base.specs.declared.session_id.SessionId.{SessionId}
use Rattle.session_machine.specs.declared.action.SessionEvent.TheVariants as events
use Rattle.session_engine.specs.declared.session.Core.{Core}
use Rattle.session_engine.specs.Cores.{machine_in}
use Rattle.online_recovery.specs.State.{new_standing}
use Rattle.session_seat.specs.declared.seat.Seat.{Seat}
use Rattle.session_seat.specs.Shared.{shared_of}
use Rattle.session_seat.specs.Told.{added, told_of}
use Rattle.recovery_seat.specs.Places.{standing_at, standing_of}
use Rattle.session_machine.specs.Rules.{status_byte}
use Rattle.session_seat.specs.Speech.{Hears, speech}
use Rattle.recovery_seat.specs.Steps.{at}
use Rattle.recovery_seat.proofs.ArmLemmas.{replied_place}
use Rattle.recovery_seat.proofs.SpeechLemmas.{said}
use Rattle.recovery_seat.proofs.StepLemmas.{standing_none}
use Rattle.recovery_seat.proofs.ending.end.Goals as goal

pub returns-clause-noted : goal.returns-clause-noted
returns-clause-noted g c = λ layout others is.
    let world = c.args.world.now in
    let new = c.give_back.new.world in
    let place = c.args.place.now in
    let seat = c.tell.new.seat in
    (replied_place c.args.setting.tables.now place.seat.s others (machine_in place.seat.core) (machine_in seat.core)
    (shared_of g.B.Backend.meaning world.gate.state world.tables world.count world.shelf.items) (shared_of g.B.Backend.meaning new.gate.state new.tables new.count new.shelf.items)
    (standing_of layout place) (standing_at layout seat.s c.replace.new.dest) c.args.book.now.journal c.tell.new.book.journal c.in-Some.outcome c.in-Some.status (c.in-Some.ensures.may layout)
    (ap (λ (core : Core). machine_in core) c.tell.ensures.core ∙ ap (λ (z : Seat). machine_in z.core) c.last_outcome.ensures.seat) c.give_back.ensures.shared
    (standing_none layout seat.s c.replace.new.dest c.replace.ensures.after
    ∙ (ap (λ (t : SessionId). new_standing t layout) (c.tell.ensures.s ∙ ap (λ (z : Seat). z.s) c.last_outcome.ensures.seat) ∙ c.in-Some.ensures.rest layout is))
    (c.in_ok-tell.ensures.line ∙ ap (λ (z : Seat). added c.args.book.now.journal (told_of c.args.setting.tables.now z.s (events.Replied c.in-Some.outcome c.in-Some.status))) c.last_outcome.ensures.seat)).0

pub returns-clause-speaks : goal.returns-clause-speaks
returns-clause-speaks g c = λ layout others is.
    let world = c.args.world.now in
    let new = c.give_back.new.world in
    let place = c.args.place.now in
    let seat = c.tell.new.seat in
    let nodes = c.args.setting.config.now.nodes in
    let outcome = c.in-Some.outcome in
    let status = c.in-Some.status in
    said c.args.setting.tables.now c.args.setting.moment nodes place.seat.s others (events.Replied outcome status)
    (at (shared_of g.B.Backend.meaning world.gate.state world.tables world.count world.shelf.items) (machine_in place.seat.core) (standing_of layout place) c.args.book.now.journal)
    (at (shared_of g.B.Backend.meaning new.gate.state new.tables new.count new.shelf.items) (machine_in seat.core) (standing_at layout seat.s c.replace.new.dest) c.tell.new.book.journal)
    (speech place.seat c.args.book.now.lines) (speech seat c.tell.new.book.lines)
    (replied_place c.args.setting.tables.now place.seat.s others (machine_in place.seat.core) (machine_in seat.core)
    (shared_of g.B.Backend.meaning world.gate.state world.tables world.count world.shelf.items) (shared_of g.B.Backend.meaning new.gate.state new.tables new.count new.shelf.items)
    (standing_of layout place) (standing_at layout seat.s c.replace.new.dest) c.args.book.now.journal c.tell.new.book.journal c.in-Some.outcome c.in-Some.status (c.in-Some.ensures.may layout)
    (ap (λ (core : Core). machine_in core) c.tell.ensures.core ∙ ap (λ (z : Seat). machine_in z.core) c.last_outcome.ensures.seat) c.give_back.ensures.shared
    (standing_none layout seat.s c.replace.new.dest c.replace.ensures.after
    ∙ (ap (λ (t : SessionId). new_standing t layout) (c.tell.ensures.s ∙ ap (λ (z : Seat). z.s) c.last_outcome.ensures.seat) ∙ c.in-Some.ensures.rest layout is))
    (c.in_ok-tell.ensures.line ∙ ap (λ (z : Seat). added c.args.book.now.journal (told_of c.args.setting.tables.now z.s (events.Replied c.in-Some.outcome c.in-Some.status))) c.last_outcome.ensures.seat))
    (subst (λ (z : Seat). Hears nodes z.s.number (speech z c.args.book.now.lines) outcome (status_byte status) (speech seat c.tell.new.book.lines)) c.last_outcome.ensures.seat c.in_ok-tell.ensures.hears)
