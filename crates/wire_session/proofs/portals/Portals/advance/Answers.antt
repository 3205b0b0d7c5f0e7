use Rattle.std.proofs.Common.{ℕ, ℤ, refl, ap, subst, ◌∙◌, w32}
use Rattle.std.specs.Prelude.{Option}
use Rattle.std.proofs.lemmas.Int.{to_z-of_z}
use Rattle.wire_session.specs.declared.portals.PortalState.{PortalState}
use Rattle.wire_session.specs.Giving.{advanced, in_state, passed}
use Rattle.wire_session.specs.Standing.{IsAt, TellsPlace}
use Rattle.wire_session.proofs.Places.{turned_at}
use Rattle.wire_session.proofs.portals.Portals.advance.Goals as goal

pub returns-in-Some : goal.returns-in-Some
returns-in-Some c =
    let i : IsAt c.args.name.now c.args.self.now.entries.items c.in-Some.at =
    subst (λ (o : Option ℕ). TellsPlace c.args.name.now c.args.self.now.entries.items o) c.in-Some.is c.place_of.ensures in
    turned_at c.args.name.now c.args.self.now _ c.in-Some.at i c.index_mut.result.now (in_state c.advance.new.self c.index_mut.result.now) (advanced c.args.limit) (λ x. refl)
    c.index_mut.ensures.value (ap (λ (s : PortalState). in_state s c.index_mut.result.now)
    (c.advance.ensures ∙ ap (λ (limit : ℤ). passed limit c.index_mut.result.now.state) (to_z-of_z w32 c.args.limit c.ranges.limit))) refl
