use Rattle.std.proofs.Common.{Option, Some, ℕ, refl, ap, subst, ◌∙◌}
use Rattle.wire_session.specs.declared.portals.Portal.{Portal}
use Rattle.wire_session.specs.declared.portals.PortalState.{PortalState}
use Rattle.wire_session.specs.Giving.{in_state}
use Rattle.wire_session.specs.Standing.{IsAt, TellsPlace}
use Rattle.wire_session.proofs.Places.{read_at, turned_at}
use Rattle.wire_session.proofs.portals.Portals.set.Goals as goal

pub returns-in-Some-clause-before : goal.returns-in-Some-clause-before
returns-in-Some-clause-before c =
    let i : IsAt c.args.name.now c.args.self.now.entries.items c.in-Some.at =
    subst (λ (o : Option ℕ). TellsPlace c.args.name.now c.args.self.now.entries.items o) c.in-Some.is c.place_of.ensures in
    ap Some c.replace.ensures.value ∙ read_at c.args.name.now c.args.self.now c.in-Some.at i c.index_mut.result.now (λ (portal : Portal). portal.state) c.index_mut.ensures.value

pub returns-in-Some-clause-stands : goal.returns-in-Some-clause-stands
returns-in-Some-clause-stands c =
    let i : IsAt c.args.name.now c.args.self.now.entries.items c.in-Some.at =
    subst (λ (o : Option ℕ). TellsPlace c.args.name.now c.args.self.now.entries.items o) c.in-Some.is c.place_of.ensures in
    turned_at c.args.name.now c.args.self.now _ c.in-Some.at i c.index_mut.result.now (in_state c.replace.new.dest c.index_mut.result.now) (in_state c.args.state) (λ x. refl)
    c.index_mut.ensures.value (ap (λ (s : PortalState). in_state s c.index_mut.result.now) c.replace.ensures.after) refl
