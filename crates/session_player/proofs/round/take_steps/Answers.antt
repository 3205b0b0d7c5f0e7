use Rattle.std.proofs.Common.{◌<◌, ◌≤◌, refl, sym, ap, ◌∙◌, subst, take, arith, rules}
use Rattle.std.specs.Prelude.{Some}
use Rattle.session_engine.specs.Cores.{machine_in}
use Rattle.session_seat.specs.Policy.{policy_in}
use Rattle.session_seat.specs.Shared.{shared_of}
use Rattle.recovery_seat.specs.Places.{standing_of}
use Rattle.recovery_seat.specs.Steps.{at}
use Rattle.session_player.specs.Turns.{EndsBehind}
use Rattle.session_player.proofs.Going.{closed_behind, is_layout, layout_of, taken_whole}
use Rattle.session_seat.specs.Speech.{speech}
use Rattle.session_seat.specs.declared.seat.Turn.{Turn}
use Rattle.session_player.specs.Speaking.{hearer_of, left_at, left_by, spot}
use Rattle.session_player.proofs.Speaking.{alone_more, alone_none, left_behind, left_on}
use Rattle.pool_base.specs.declared.session_id.SessionId.{SessionId}
use Rattle.session_wire.specs.Shown.{shown}
use Rattle.session_player.specs.Stillness.{EndsStill, StandsStill}
use Rattle.session_player.proofs.Stilling.{prompt_at, step_quiet, step_still}
use Rattle.session_player.proofs.Resting.{step_rests}
use Rattle.session_player.proofs.round.take_steps.Goals as goal

pub steps-init : goal.steps-init
steps-init g c =
    let old = shared_of g.B.Backend.meaning c.args.world.now.gate.state c.args.world.now.tables c.args.world.now.count c.args.world.now.shelf.items in
    record {
      speaks = λ layout is.
          let place = c.args.place.now in
          alone_none c.args.setting.tables.now c.args.setting.moment c.args.setting.config.now.nodes place.seat.s c.args.others.bits (at old (machine_in place.seat.core) (standing_of layout place) c.args.book.now.journal) (Some (hearer_of place.seat)) c.args.book.now.lines;
      events = omega arith;
      unmoved = λ none. refl;
      same = refl;
      turn = refl;
      tables = refl;
      count = refl;
      boxes = refl;
    }

pub steps-preserved : goal.steps-preserved
steps-preserved g c =
    let old = shared_of g.B.Backend.meaning c.args.world.now.gate.state c.args.world.now.tables c.args.world.now.count c.args.world.now.shelf.items in
    let mid = shared_of g.B.Backend.meaning c.steps.world.gate.state c.steps.world.tables c.steps.world.count c.steps.world.shelf.items in
    let new = shared_of g.B.Backend.meaning c.take_step.new.world.gate.state c.take_step.new.world.tables c.take_step.new.world.count c.take_step.new.world.shelf.items in
    record {
      speaks = λ layout is.
          let first = c.args.place.now in
          let place = c.steps.place in
          let last = c.take_step.new.place in
          let lines = c.take_step.new.book.lines in
          alone_more c.args.setting.tables.now c.args.setting.moment c.args.setting.config.now.nodes (policy_in c.args.setting.config.now) layout first.seat.s place.seat.s c.args.others.bits place.seat.turn
          (spot (at old (machine_in first.seat.core) (standing_of layout first) c.args.book.now.journal) (Some (hearer_of first.seat)) c.args.book.now.lines)
          (at mid (machine_in place.seat.core) (standing_of layout place) c.steps.book.journal)
          (at new (machine_in last.seat.core) (standing_of layout last) c.take_step.new.book.journal)
          (speech place.seat c.steps.book.lines) (speech last.seat lines) c.in_ok-did.did (Some (hearer_of last.seat)) c.steps.invariant.same
          (ap (λ (t : Turn). left_by c.in_ok-did.did (record (hearer_of last.seat) { turn = t })) (sym c.take_step.ensures.turn)
          ∙ left_on c.args.until c.in_ok-did.did (hearer_of last.seat) (subst (EndsBehind c.args.until c.in_ok-did.did) (search rules) c.end_behind.ensures)) (c.steps.invariant.speaks layout is) (c.in_ok-did.ensures.speaks layout is);
      events = (let a : c.args.book.now.events ≤ c.steps.book.events = c.steps.invariant.events in let b : c.steps.book.events ≤ c.take_step.new.book.events = c.take_step.ensures.events in omega arith);
      unmoved = λ none.
          (let a : c.args.book.now.events ≤ c.steps.book.events = c.steps.invariant.events in absurd (omega (arith, a, none, c.if-book-before.false)));
      same = c.take_step.ensures.s ∙ c.steps.invariant.same;
      turn = c.take_step.ensures.turn ∙ c.steps.invariant.turn;
      tables = c.take_step.ensures.tables ∙ c.steps.invariant.tables;
      count = c.take_step.ensures.count ∙ c.steps.invariant.count;
      boxes = c.take_step.ensures.boxes ∙ c.steps.invariant.boxes;
    }

pub end_behind-requires : goal.end_behind-requires
end_behind-requires g c =
    let config = c.args.setting.config.now in
    let tables = c.args.setting.tables.now in
    let layout = layout_of config tables c.requires.allowed in
    let mid = shared_of g.B.Backend.meaning c.steps.world.gate.state c.steps.world.tables c.steps.world.count c.steps.world.shelf.items in
    let new = shared_of g.B.Backend.meaning c.take_step.new.world.gate.state c.take_step.new.world.tables c.take_step.new.world.count c.take_step.new.world.shelf.items in
    taken_whole tables (policy_in config) layout c.steps.place.seat.s c.args.others.bits (at mid (machine_in c.steps.place.seat.core) (standing_of layout c.steps.place) c.steps.book.journal)
    (at new (machine_in c.take_step.new.place.seat.core) (standing_of layout c.take_step.new.place) c.take_step.new.book.journal) c.in_ok-did.did (c.in_ok-did.ensures.noted layout (is_layout config tables c.requires.allowed))

pub returns-in-Some-clause-closed : goal.returns-in-Some-clause-closed
returns-in-Some-clause-closed g c = λ closed.
    let config = c.args.setting.config.now in
    let tables = c.args.setting.tables.now in
    let layout = layout_of config tables c.requires.allowed in
    let mid = shared_of g.B.Backend.meaning c.steps.world.gate.state c.steps.world.tables c.steps.world.count c.steps.world.shelf.items in
    let new = shared_of g.B.Backend.meaning c.take_step.new.world.gate.state c.take_step.new.world.tables c.take_step.new.world.count c.take_step.new.world.shelf.items in
    closed_behind tables (policy_in config) layout c.steps.place.seat.s c.args.place.now.seat.s c.args.others.bits (at mid (machine_in c.steps.place.seat.core) (standing_of layout c.steps.place) c.steps.book.journal)
    (at new (machine_in c.take_step.new.place.seat.core) (standing_of layout c.take_step.new.place) c.take_step.new.book.journal) c.args.until c.in_ok-did.did c.in-Some.end
    (c.in_ok-did.ensures.noted layout (is_layout config tables c.requires.allowed)) (subst (EndsBehind c.args.until c.in_ok-did.did) c.in-Some.is c.end_behind.ensures) closed c.steps.invariant.same

pub returns-in-Some-clause-speaks : goal.returns-in-Some-clause-speaks
returns-in-Some-clause-speaks g c = λ layout is.
    let old = shared_of g.B.Backend.meaning c.args.world.now.gate.state c.args.world.now.tables c.args.world.now.count c.args.world.now.shelf.items in
    let mid = shared_of g.B.Backend.meaning c.steps.world.gate.state c.steps.world.tables c.steps.world.count c.steps.world.shelf.items in
    let new = shared_of g.B.Backend.meaning c.take_step.new.world.gate.state c.take_step.new.world.tables c.take_step.new.world.count c.take_step.new.world.shelf.items in
    let first = c.args.place.now in
    let place = c.steps.place in
    let last = c.take_step.new.place in
    alone_more c.args.setting.tables.now c.args.setting.moment c.args.setting.config.now.nodes (policy_in c.args.setting.config.now) layout first.seat.s place.seat.s c.args.others.bits place.seat.turn
    (spot (at old (machine_in first.seat.core) (standing_of layout first) c.args.book.now.journal) (Some (hearer_of first.seat)) c.args.book.now.lines)
    (at mid (machine_in place.seat.core) (standing_of layout place) c.steps.book.journal)
    (at new (machine_in last.seat.core) (standing_of layout last) c.take_step.new.book.journal)
    (speech place.seat c.steps.book.lines) (speech last.seat c.take_step.new.book.lines) c.in_ok-did.did (left_at c.in-Some.end (hearer_of last.seat)) c.steps.invariant.same
    (ap (λ (t : Turn). left_by c.in_ok-did.did (record (hearer_of last.seat) { turn = t })) (sym c.take_step.ensures.turn)
    ∙ left_behind c.args.until c.in_ok-did.did c.in-Some.end (hearer_of last.seat) (subst (EndsBehind c.args.until c.in_ok-did.did) c.in-Some.is c.end_behind.ensures)) (c.steps.invariant.speaks layout is) (c.in_ok-did.ensures.speaks layout is)

pub returns-in-Some-clause-still : goal.returns-in-Some-clause-still
returns-in-Some-clause-still g c = λ layout is.
    let mid = shared_of g.B.Backend.meaning c.steps.world.gate.state c.steps.world.tables c.steps.world.count c.steps.world.shelf.items in
    let new = shared_of g.B.Backend.meaning c.take_step.new.world.gate.state c.take_step.new.world.tables c.take_step.new.world.count c.take_step.new.world.shelf.items in
    let place = c.steps.place in
    let last = c.take_step.new.place in
    let world = c.steps.world in
    let prompt = prompt_at g.B.Backend.meaning g.B.Backend.is_prompt world.tables world.count world.shelf.items world.enough world.prompt in
    subst (λ (s : SessionId). EndsStill c.args.until c.in-Some.end (StandsStill new s.number (machine_in last.seat.core) (standing_of layout last) (shown last.seat.wire) last.seat.over)) (sym c.take_step.ensures.s)
    (step_still g.B.Backend.meaning g.B.Backend.is_prompt c.args.setting.tables.now c.args.setting.moment c.args.setting.config.now.nodes (policy_in c.args.setting.config.now) layout place.seat.s c.args.others.bits place.seat (take world.count world.shelf.items)
    mid (standing_of layout place) c.steps.book.journal c.steps.book.lines (at new (machine_in last.seat.core) (standing_of layout last) c.take_step.new.book.journal) (speech last.seat c.take_step.new.book.lines)
    c.args.until c.in_ok-did.did c.in-Some.end prompt (c.in_ok-did.ensures.due layout) (c.in_ok-did.ensures.speaks layout is) (subst (EndsBehind c.args.until c.in_ok-did.did) c.in-Some.is c.end_behind.ensures))

pub returns-in-Some-clause-unmoved : goal.returns-in-Some-clause-unmoved
returns-in-Some-clause-unmoved g c = λ none.
    let config = c.args.setting.config.now in
    let tables = c.args.setting.tables.now in
    let layout = layout_of config tables c.requires.allowed in
    let mid = shared_of g.B.Backend.meaning c.steps.world.gate.state c.steps.world.tables c.steps.world.count c.steps.world.shelf.items in
    let new = shared_of g.B.Backend.meaning c.take_step.new.world.gate.state c.take_step.new.world.tables c.take_step.new.world.count c.take_step.new.world.shelf.items in
    let a : c.args.book.now.events ≤ c.steps.book.events = c.steps.invariant.events in
    let b : c.steps.book.events ≤ c.take_step.new.book.events = c.take_step.ensures.events in
    step_quiet tables (policy_in config) layout c.steps.place.seat.s c.args.others.bits (at mid (machine_in c.steps.place.seat.core) (standing_of layout c.steps.place) c.steps.book.journal)
    (at new (machine_in c.take_step.new.place.seat.core) (standing_of layout c.take_step.new.place) c.take_step.new.book.journal) c.in_ok-did.did (c.in_ok-did.ensures.noted layout (is_layout config tables c.requires.allowed))
    (λ did. let more : c.steps.book.events < c.take_step.new.book.events = c.in_ok-did.ensures.did did in omega (arith, a, none, more))
    ∙ c.steps.invariant.unmoved (omega (arith, b, none))

pub returns-in-Some-clause-resting : goal.returns-in-Some-clause-resting
returns-in-Some-clause-resting g c = λ rests.
    let config = c.args.setting.config.now in
    let tables = c.args.setting.tables.now in
    let layout = layout_of config tables c.requires.allowed in
    let mid = shared_of g.B.Backend.meaning c.steps.world.gate.state c.steps.world.tables c.steps.world.count c.steps.world.shelf.items in
    let new = shared_of g.B.Backend.meaning c.take_step.new.world.gate.state c.take_step.new.world.tables c.take_step.new.world.count c.take_step.new.world.shelf.items in
    let place = c.steps.place in
    step_rests g.B.Backend.meaning g.B.Backend.is_prompt tables c.args.setting.moment config.nodes (policy_in config) layout place.seat.s c.args.others.bits place c.take_step.new.place (take c.steps.world.count c.steps.world.shelf.items)
    mid new c.steps.book.journal c.take_step.new.book.journal c.steps.book.lines c.take_step.new.book.lines c.args.until c.in_ok-did.did c.in-Some.end
    c.in_ok-did.ensures.due (c.in_ok-did.ensures.speaks layout (is_layout config tables c.requires.allowed)) (subst (EndsBehind c.args.until c.in_ok-did.did) c.in-Some.is c.end_behind.ensures) rests
