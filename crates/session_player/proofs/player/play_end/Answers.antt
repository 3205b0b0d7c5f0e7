use Rattle.std.proofs.Common.{◌≡◌, refl, subst, ◌∙◌, w64, rules}
use Rattle.std.specs.Prelude.{◌⊎◌}
use Rattle.std.proofs.lemmas.Int.{to_z-of_z}
use Rattle.std.proofs.lemmas.Result.{on_err_weaker, on_ok_weaker}
use Rattle.session_seat.specs.declared.book.Journal.{Journal}
use Rattle.session_seat.specs.Policy.{policy_in}
use Rattle.session_seat.specs.Shared.{shared_of}
use Rattle.session_player.specs.Journals.{IsPut, IsShort}
use Rattle.session_player.specs.BrokenOff.{IsJournalFront}
use Rattle.session_player.specs.Speaking.{board_of}
use Rattle.session_player.specs.Transcript.{scene_of}
use Rattle.session_player.proofs.Parts.{end_rounds}
use Rattle.session_player.proofs.Going.{layout_there}
use Rattle.session_player.proofs.Telling.{grew_on}
use Rattle.session_player.proofs.Stilling.{all_still}
use Rattle.session_player.proofs.Breaking.{end_none, end_put, end_told, on_err_always}
use Rattle.session_player.proofs.player.play_end.Goals as goal

pub returns-clause-grows : goal.returns-clause-grows
returns-clause-grows g c =
    let had = g.O.Sink.taken in
    grew_on (had c.args.out.now) (had c.put_told.new.out) (had c.put_journal.new.out) c.put_told.ensures.grows c.put_journal.ensures.grows

pub returns-clause-ends : goal.returns-clause-ends
returns-clause-ends g c = λ layout is.
    let had = g.O.Sink.taken in
    let tables = c.args.setting.tables.now in
    let config = c.args.setting.config.now in
    let policy = policy_in config in
    let old = shared_of g.B.Backend.meaning c.args.world.now.gate.state c.args.world.now.tables c.args.world.now.count c.args.world.now.shelf.items in
    let new = shared_of g.B.Backend.meaning c.rounds.new.world.gate.state c.rounds.new.world.tables c.rounds.new.world.count c.rounds.new.world.shelf.items in
    let scene = c.args.scene.now in
    let freed = c.end_all.new.seats in
    let used = c.at_moment-last.result in
    let there = layout_there config used.config.now tables used.tables.now layout c.at_moment-last.ensures.config c.at_moment-last.ensures.tables is in
    let rounds = end_rounds tables used.tables.now config used.config.now layout old new scene.moment used.moment scene.seats.slots.items freed.slots.items c.rounds.new.seats.slots.items scene.book c.rounds.new.book
    c.at_moment-last.ensures.tables c.at_moment-last.ensures.config (c.at_moment-last.ensures.moment ∙ to_z-of_z w64 scene.moment (search rules)) (c.end_all.ensures.machines policy) (c.end_all.ensures.standings layout) c.end_all.ensures.hearers (c.in_ok-rounds.ensures.speaks layout there) in
    let last = board_of policy layout new c.rounds.new.seats.slots.items c.rounds.new.book in
    let still = all_still policy layout new c.rounds.new.seats.slots.items c.rounds.new.book c.rounds.new.seats.placed (c.in_ok-rounds.ensures.still layout there) in
    on_ok_weaker c.put_journal.result
    (λ put. (
      rounds.0,
      last,
      had c.put_told.new.out,
      record { rounds = rounds.1; kept = rounds.2; still = still; wrote = c.in_ok-put_told.ensures.all },
      subst (λ (j : Journal). IsPut config tables j (had c.put_told.new.out) (had c.put_journal.new.out)) c.put_told.ensures.journal put,
      subst IsShort c.put_told.ensures.journal c.is_short.ensures,
      refl,
    ))
    c.put_journal.ensures.put

pub returns-in_err-rounds-clause-front : goal.returns-in_err-rounds-clause-front
returns-in_err-rounds-clause-front g c = λ layout is.
    let had = g.O.Sink.taken in
    let tables = c.args.setting.tables.now in
    let config = c.args.setting.config.now in
    let policy = policy_in config in
    let old = shared_of g.B.Backend.meaning c.args.world.now.gate.state c.args.world.now.tables c.args.world.now.count c.args.world.now.shelf.items in
    let scene = c.args.scene.now in
    let first = scene_of policy layout old scene.moment scene.seats.slots.items scene.book in
    on_err_always c.from_residual.result (end_none config tables first (had c.args.out.now))

pub returns-in_err-put_told-clause-front : goal.returns-in_err-put_told-clause-front
returns-in_err-put_told-clause-front g c = λ layout is.
    let had = g.O.Sink.taken in
    let tables = c.args.setting.tables.now in
    let config = c.args.setting.config.now in
    let policy = policy_in config in
    let old = shared_of g.B.Backend.meaning c.args.world.now.gate.state c.args.world.now.tables c.args.world.now.count c.args.world.now.shelf.items in
    let scene = c.args.scene.now in
    let first = scene_of policy layout old scene.moment scene.seats.slots.items scene.book in
    let new = shared_of g.B.Backend.meaning c.rounds.new.world.gate.state c.rounds.new.world.tables c.rounds.new.world.count c.rounds.new.world.shelf.items in
    let freed = c.end_all.new.seats in
    let used = c.at_moment-last.result in
    let there = layout_there config used.config.now tables used.tables.now layout c.at_moment-last.ensures.config c.at_moment-last.ensures.tables is in
    let rounds = end_rounds tables used.tables.now config used.config.now layout old new scene.moment used.moment scene.seats.slots.items freed.slots.items c.rounds.new.seats.slots.items scene.book c.rounds.new.book
    c.at_moment-last.ensures.tables c.at_moment-last.ensures.config (c.at_moment-last.ensures.moment ∙ to_z-of_z w64 scene.moment (search rules)) (c.end_all.ensures.machines policy) (c.end_all.ensures.standings layout) c.end_all.ensures.hearers (c.in_ok-rounds.ensures.speaks layout there) in
    let last = board_of policy layout new c.rounds.new.seats.slots.items c.rounds.new.book in
    on_err_always c.from_residual-in_err-put_told.result (end_told config tables first last (had c.args.out.now) (had c.put_told.new.out) rounds c.in_err-put_told.ensures.front)

pub returns-clause-front : goal.returns-clause-front
returns-clause-front g c = λ layout is.
    let had = g.O.Sink.taken in
    let tables = c.args.setting.tables.now in
    let config = c.args.setting.config.now in
    let policy = policy_in config in
    let old = shared_of g.B.Backend.meaning c.args.world.now.gate.state c.args.world.now.tables c.args.world.now.count c.args.world.now.shelf.items in
    let scene = c.args.scene.now in
    let first = scene_of policy layout old scene.moment scene.seats.slots.items scene.book in
    let new = shared_of g.B.Backend.meaning c.rounds.new.world.gate.state c.rounds.new.world.tables c.rounds.new.world.count c.rounds.new.world.shelf.items in
    let freed = c.end_all.new.seats in
    let used = c.at_moment-last.result in
    let there = layout_there config used.config.now tables used.tables.now layout c.at_moment-last.ensures.config c.at_moment-last.ensures.tables is in
    let rounds = end_rounds tables used.tables.now config used.config.now layout old new scene.moment used.moment scene.seats.slots.items freed.slots.items c.rounds.new.seats.slots.items scene.book c.rounds.new.book
    c.at_moment-last.ensures.tables c.at_moment-last.ensures.config (c.at_moment-last.ensures.moment ∙ to_z-of_z w64 scene.moment (search rules)) (c.end_all.ensures.machines policy) (c.end_all.ensures.standings layout) c.end_all.ensures.hearers (c.in_ok-rounds.ensures.speaks layout there) in
    let last = board_of policy layout new c.rounds.new.seats.slots.items c.rounds.new.book in
    on_err_weaker c.put_journal.result
    (λ front. end_put config tables first last (had c.args.out.now) (had c.put_told.new.out) (had c.put_journal.new.out) rounds (all_still policy layout new c.rounds.new.seats.slots.items c.rounds.new.book c.rounds.new.seats.placed (c.in_ok-rounds.ensures.still layout there)) c.in_ok-put_told.ensures.all
    (subst (λ (j : Journal). IsJournalFront config tables j (had c.put_told.new.out) (had c.put_journal.new.out) ⊎ (had c.put_journal.new.out ≡ had c.put_told.new.out)) c.put_told.ensures.journal front)) c.put_journal.ensures.front
