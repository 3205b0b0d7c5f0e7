use Rattle.std.proofs.Common.{◌≡◌, true, ◌∙◌, sym, w64, rules}
use Rattle.std.proofs.lemmas.Int.{to_z-of_z}
use Rattle.std.proofs.lemmas.Result.{on_ok_weaker}
use Rattle.session_seat.specs.Policy.{policy_in}
use Rattle.session_seat.specs.Shared.{shared_of}
use Rattle.session_player.proofs.Going.{layout_there}
use Rattle.pgproto.specs.Line.{line_of}
use Rattle.session_player.specs.Transcript.{scene_of}
use Rattle.session_player.proofs.Parts.{part_alone, part_rounds}
use Rattle.session_player.specs.declared.connecting.Then.TheVariants as thens
use Rattle.session_player.specs.Stillness.{AllStill, goes_round}
use Rattle.session_player.specs.Speaking.{board_of}
use Rattle.session_player.proofs.Parts.{on_ok_both}
use Rattle.session_player.proofs.Stilling.{all_still}
use Rattle.session_player.proofs.player.play_line.Goals as goal

pub returns-in-Rounds-clause-part : goal.returns-in-Rounds-clause-part
returns-in-Rounds-clause-part g c = λ layout is.
    let old = shared_of g.B.Backend.meaning c.args.world.now.gate.state c.args.world.now.tables c.args.world.now.count c.args.world.now.shelf.items in
    let mid = shared_of g.B.Backend.meaning c.do_line.new.world.gate.state c.do_line.new.world.tables c.do_line.new.world.count c.do_line.new.world.shelf.items in
    let new = shared_of g.B.Backend.meaning c.rounds.new.world.gate.state c.rounds.new.world.tables c.rounds.new.world.count c.rounds.new.world.shelf.items in
    let config = c.args.setting.config.now in
    let scene = c.args.scene.now in
    let done = c.do_line.new.scene in
    let used = c.at_moment-setting.result in
    let there = layout_there config used.config.now c.args.setting.tables.now used.tables.now layout c.at_moment-setting.ensures.config c.at_moment-setting.ensures.tables is in
    on_ok_weaker c.rounds.result
    (λ made. part_rounds c.args.setting.tables.now used.tables.now config used.config.now layout c.args.world.now.count (line_of c.args.line.now) (scene_of (policy_in config) layout old scene.moment scene.seats.slots.items scene.book)
    mid new done.moment used.moment done.seats.slots.items c.rounds.new.seats.slots.items done.book c.rounds.new.book
    c.at_moment-setting.ensures.tables c.at_moment-setting.ensures.config (c.at_moment-setting.ensures.moment ∙ to_z-of_z w64 done.moment (search rules)) (c.in_ok-then.ensures.does layout is) made.0
    (λ goes. all_still (policy_in config) layout new c.rounds.new.seats.slots.items c.rounds.new.book c.rounds.new.seats.placed made.1)) (on_ok_both _ _ c.rounds.result (c.rounds.ensures.speaks layout there) (c.rounds.ensures.still layout there))

pub returns-in-Alone-clause-part : goal.returns-in-Alone-clause-part
returns-in-Alone-clause-part g c = λ layout is.
    let old = shared_of g.B.Backend.meaning c.args.world.now.gate.state c.args.world.now.tables c.args.world.now.count c.args.world.now.shelf.items in
    let mid = shared_of g.B.Backend.meaning c.do_line.new.world.gate.state c.do_line.new.world.tables c.do_line.new.world.count c.do_line.new.world.shelf.items in
    let new = shared_of g.B.Backend.meaning c.go_until.new.world.gate.state c.go_until.new.world.tables c.go_until.new.world.count c.go_until.new.world.shelf.items in
    let config = c.args.setting.config.now in
    let scene = c.args.scene.now in
    let done = c.do_line.new.scene in
    let used = c.at_moment-setting.result in
    let there = layout_there config used.config.now c.args.setting.tables.now used.tables.now layout c.at_moment-setting.ensures.config c.at_moment-setting.ensures.tables is in
    let alone : goes_round (line_of c.args.line.now) ≡ true → AllStill (board_of (policy_in config) layout new c.go_until.new.seats.slots.items c.go_until.new.book) = λ goes.
    (let never : thens.Alone c.in-Alone.s c.in-Alone.mark ≡ thens.Rounds = sym c.in-Alone.is ∙ c.in_ok-then.ensures.rounds goes in absurd (cc)) in
    on_ok_weaker c.go_until.result
    (λ spoke. part_rounds c.args.setting.tables.now used.tables.now config used.config.now layout c.args.world.now.count (line_of c.args.line.now) (scene_of (policy_in config) layout old scene.moment scene.seats.slots.items scene.book)
    mid new done.moment used.moment done.seats.slots.items c.go_until.new.seats.slots.items done.book c.go_until.new.book
    c.at_moment-setting.ensures.tables c.at_moment-setting.ensures.config (c.at_moment-setting.ensures.moment ∙ to_z-of_z w64 done.moment (search rules)) (c.in_ok-then.ensures.does layout is) spoke alone) (c.go_until.ensures.speaks layout there)

pub returns-in-Nothing-clause-part : goal.returns-in-Nothing-clause-part
returns-in-Nothing-clause-part g c = λ layout is.
    let old = shared_of g.B.Backend.meaning c.args.world.now.gate.state c.args.world.now.tables c.args.world.now.count c.args.world.now.shelf.items in
    let mid = shared_of g.B.Backend.meaning c.do_line.new.world.gate.state c.do_line.new.world.tables c.do_line.new.world.count c.do_line.new.world.shelf.items in
    let config = c.args.setting.config.now in
    let scene = c.args.scene.now in
    let done = c.do_line.new.scene in
    part_alone c.args.setting.tables.now config.nodes config.children c.args.world.now.count (line_of c.args.line.now) (scene_of (policy_in config) layout old scene.moment scene.seats.slots.items scene.book)
    (scene_of (policy_in config) layout mid done.moment done.seats.slots.items done.book) (c.in_ok-then.ensures.does layout is)
    (λ goes. (let never : thens.Nothing ≡ thens.Rounds = sym c.in-Nothing.is ∙ c.in_ok-then.ensures.rounds goes in absurd (cc)))
