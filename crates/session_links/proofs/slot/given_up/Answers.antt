use Rattle.session_links.proofs.Tellings.{asked_gone, same_told}
use Rattle.session_links.proofs.slot.given_up.Goals as goal

pub returns-in-Asked-clause-told : goal.returns-in-Asked-clause-told
returns-in-Asked-clause-told g c = asked_gone g.L.Link.pending g.L.Link.plan c.args.slot c.in-Asked.link c.in-Asked.is c.requires.before

pub returns-in_default-clause-told : goal.returns-in_default-clause-told
returns-in_default-clause-told g c = same_told g.L.Link.pending g.L.Link.plan c.args.slot c.requires.before c.in_default.not-Asked
