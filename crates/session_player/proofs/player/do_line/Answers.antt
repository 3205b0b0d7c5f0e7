use Rattle.std.proofs.Common.{◌≡◌, ℕ, ℤ, List, [], refl, sym, subst, w64, rules}
use Rattle.std.proofs.lemmas.Int.{to_z-of_z}
use Rattle.std.proofs.lemmas.Result.{on_ok_weaker}
use Rattle.session_player.specs.declared.deed.Deed.{Deed}
use Rattle.session_seat.specs.Policy.{policy_in}
use Rattle.session_seat.specs.Shared.{shared_of}
use Rattle.session_player.specs.Journals.{machines_of, standings_of}
use Rattle.session_player.specs.Speaking.{Happening, hearers_of}
use Rattle.session_player.specs.Transcript.{Does, Scene, Sets, scene_of}
use Rattle.session_player.proofs.Parts.{kept_state}
use Rattle.pgproto.specs.Line.{line_of}
use Rattle.session_player.specs.Deeds.{IsDeedOf}
use Rattle.session_player.proofs.Stilling.{wish_goes_on}
use Rattle.session_player.proofs.player.do_line.Goals as goal

pub returns-in-Connect-clause-does : goal.returns-in-Connect-clause-does
returns-in-Connect-clause-does g c = λ layout is.
    let shared = shared_of g.B.Backend.meaning c.args.world.now.gate.state c.args.world.now.tables c.args.world.now.count c.args.world.now.shelf.items in
    let scene = c.args.scene.now in
    let setting = c.args.setting in
    let policy = policy_in setting.config.now in
    let old = scene_of policy layout shared scene.moment scene.seats.slots.items scene.book in
    let Doing : Deed → List Happening → Scene → Type 0 = λ deed happenings new. Does setting.tables.now setting.config.now.nodes setting.config.now.children c.args.world.now.count deed old happenings new in
    let new = scene_of policy layout shared scene.moment c.connect.new.seats.slots.items c.connect.new.book in
    on_ok_weaker c.connect.result
    (λ connects. (
      c.deed_of.result,
      c.deed_of.ensures,
      [],
      subst (λ (deed : Deed). Doing deed [] new) (sym c.in-Connect.is)
          (record { moment = refl; state = kept_state policy layout shared scene.seats.slots.items c.connect.new.seats.slots.items c.connect.ensures.machines (c.connect.ensures.standings layout); journal = c.connect.ensures.journal; none = refl }, connects),
    ))
    c.connect.ensures.connects

pub returns-in-Of-clause-does : goal.returns-in-Of-clause-does
returns-in-Of-clause-does g c = λ layout is.
    let shared = shared_of g.B.Backend.meaning c.args.world.now.gate.state c.args.world.now.tables c.args.world.now.count c.args.world.now.shelf.items in
    let scene = c.args.scene.now in
    let setting = c.args.setting in
    let policy = policy_in setting.config.now in
    let old = scene_of policy layout shared scene.moment scene.seats.slots.items scene.book in
    let Doing : Deed → List Happening → Scene → Type 0 = λ deed happenings new. Does setting.tables.now setting.config.now.nodes setting.config.now.children c.args.world.now.count deed old happenings new in
    let new = scene_of policy layout shared scene.moment c.address.new.seats.slots.items c.address.new.book in
    on_ok_weaker c.address.result
    (λ addresses. (
      c.deed_of.result,
      c.deed_of.ensures,
      [],
      subst (λ (deed : Deed). Doing deed [] new) (sym c.in-Of.is)
          (record { moment = refl; state = kept_state policy layout shared scene.seats.slots.items c.address.new.seats.slots.items (c.address.ensures.machines policy) (c.address.ensures.standings layout); journal = c.address.ensures.journal; none = refl }, addresses),
    ))
    c.address.ensures.addresses

pub returns-in-Cut-clause-does : goal.returns-in-Cut-clause-does
returns-in-Cut-clause-does g c = λ layout is.
    let shared = shared_of g.B.Backend.meaning c.args.world.now.gate.state c.args.world.now.tables c.args.world.now.count c.args.world.now.shelf.items in
    let scene = c.args.scene.now in
    let setting = c.args.setting in
    let policy = policy_in setting.config.now in
    let old = scene_of policy layout shared scene.moment scene.seats.slots.items scene.book in
    let Doing : Deed → List Happening → Scene → Type 0 = λ deed happenings new. Does setting.tables.now setting.config.now.nodes setting.config.now.children c.args.world.now.count deed old happenings new in
    (c.deed_of.result, c.deed_of.ensures, [], subst (λ (deed : Deed). Doing deed [] old) (sym c.in-Cut.is) (refl, refl))

sets_there : (text : List ℕ) (new old same : ℤ) → same ≡ old → Sets text same new → Sets text old new
sets_there text new old same is = subst (λ (m : ℤ). Sets text m new) is

pub returns-in-SetMoment-clause-does : goal.returns-in-SetMoment-clause-does
returns-in-SetMoment-clause-does g c = λ layout is.
    let shared = shared_of g.B.Backend.meaning c.args.world.now.gate.state c.args.world.now.tables c.args.world.now.count c.args.world.now.shelf.items in
    let scene = c.args.scene.now in
    let setting = c.args.setting in
    let policy = policy_in setting.config.now in
    let old = scene_of policy layout shared scene.moment scene.seats.slots.items scene.book in
    let Doing : Deed → List Happening → Scene → Type 0 = λ deed happenings new. Does setting.tables.now setting.config.now.nodes setting.config.now.children c.args.world.now.count deed old happenings new in
    let set = c.moment_behind-scene.result in
    let new : ℤ → Scene = λ moment. scene_of policy layout shared moment scene.seats.slots.items scene.book in (
      c.deed_of.result,
      c.deed_of.ensures,
      [],
      subst (λ (moment : ℤ). Doing c.deed_of.result [] (new moment)) (sym (to_z-of_z w64 set (search rules)))
          (subst (λ (deed : Deed). Doing deed [] (new set)) (sym c.in-SetMoment.is) (refl, refl, sets_there _ _ _ _ (to_z-of_z w64 scene.moment (search rules)) c.moment_behind-scene.ensures)),
    )

pub returns-in-Lose-clause-does : goal.returns-in-Lose-clause-does
returns-in-Lose-clause-does g c = λ layout is.
    let shared = shared_of g.B.Backend.meaning c.args.world.now.gate.state c.args.world.now.tables c.args.world.now.count c.args.world.now.shelf.items in
    let scene = c.args.scene.now in
    let setting = c.args.setting in
    let policy = policy_in setting.config.now in
    let old = scene_of policy layout shared scene.moment scene.seats.slots.items scene.book in
    let Doing : Deed → List Happening → Scene → Type 0 = λ deed happenings new. Does setting.tables.now setting.config.now.nodes setting.config.now.children c.args.world.now.count deed old happenings new in
    let behind = shared_of g.B.Backend.meaning c.lose.new.world.gate.state c.lose.new.world.tables c.lose.new.world.count c.lose.new.world.shelf.items in
    let new = scene_of policy layout behind scene.moment scene.seats.slots.items c.lose.new.book in
    let slots = scene.seats.slots.items in
    on_ok_weaker c.lose.result
    (λ loses. (c.deed_of.result, c.deed_of.ensures, loses.0, subst (λ (deed : Deed). Doing deed loses.0 new) (sym c.in-Lose.is) (refl, loses.1)))
    (c.lose.ensures.loses (machines_of policy slots) (standings_of layout slots) (hearers_of slots) scene.moment setting.config.now.nodes)

pub returns-in-Connect-clause-rounds : goal.returns-in-Connect-clause-rounds
returns-in-Connect-clause-rounds g c = λ goes. c.connect.ensures.rounds

pub returns-in-Lose-clause-rounds : goal.returns-in-Lose-clause-rounds
returns-in-Lose-clause-rounds g c = λ goes. c.lose.ensures.rounds

pub returns-in-Of-clause-rounds : goal.returns-in-Of-clause-rounds
returns-in-Of-clause-rounds g c = λ goes.
    c.address.ensures.rounds (wish_goes_on (line_of c.args.line.now) c.in-Of.s.number c.in-Of.wish (subst (IsDeedOf (line_of c.args.line.now)) c.in-Of.is c.deed_of.ensures) goes)
