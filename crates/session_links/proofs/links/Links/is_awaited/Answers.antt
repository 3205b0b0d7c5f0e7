use Rattle.std.proofs.Common.{◌<◌, length, sym, ◌∙◌, arith}
use Rattle.session_links.proofs.Tellings.{awaits_at}
use Rattle.session_links.proofs.links.Links.is_awaited.Goals as goal

pub returns-clause-told : goal.returns-clause-told
returns-clause-told g c =
    let below : c.args.b.number < length c.args.self.now.slots.items = omega (arith, c.args.b.below_8, c.args.self.now.eight) in
    c.is_asked.ensures ∙ sym (awaits_at g.L.Link.pending g.L.Link.plan c.args.self.now.slots.items c.args.b.number c.args.self.now.sound below)
