use Rattle.std.proofs.Common.{◌∙◌, List, ap, drop, length, arith}
use Rattle.session_player.specs.declared.slots.Slot.{Slot}
use Rattle.session_player.specs.Speaking.{hearers_of}
use Rattle.session_player.specs.Transcript.{input_ended}
use Rattle.session_player.specs.Journals.{machines_of, standings_of}
use Rattle.session_player.proofs.Going.{whole_again}
use Rattle.session_player.proofs.player.end_all.Goals as goal

pub returns-clause-machines : goal.returns-clause-machines
returns-clause-machines c = λ policy.
    let slots = c.args.seats.now.slots in
    let new = c.end_each.new.slots in
    ap (machines_of policy) (whole_again slots.len new (drop (length new) slots.items) (omega (arith, c.as_mut_slice.ensures.len, c.end_each.auto.slots)))
    ∙ (c.end_each.ensures.machines policy ∙ ap (machines_of policy) c.as_mut_slice.ensures.value)

pub returns-clause-standings : goal.returns-clause-standings
returns-clause-standings c = λ layout.
    let slots = c.args.seats.now.slots in
    let new = c.end_each.new.slots in
    ap (standings_of layout) (whole_again slots.len new (drop (length new) slots.items) (omega (arith, c.as_mut_slice.ensures.len, c.end_each.auto.slots)))
    ∙ (c.end_each.ensures.standings layout ∙ ap (standings_of layout) c.as_mut_slice.ensures.value)

pub returns-clause-hearers : goal.returns-clause-hearers
returns-clause-hearers c = λ n.
    let slots = c.args.seats.now.slots in
    let new = c.end_each.new.slots in
    ap (λ (z : List Slot). hearers_of z n) (whole_again slots.len new (drop (length new) slots.items) (omega (arith, c.as_mut_slice.ensures.len, c.end_each.auto.slots)))
    ∙ (c.end_each.ensures.hearers n ∙ ap (λ (z : List Slot). input_ended (hearers_of z n)) c.as_mut_slice.ensures.value)
