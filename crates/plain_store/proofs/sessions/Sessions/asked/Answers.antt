use Rattle.std.proofs.Common.{sym, ◌∙◌}
use Rattle.std.proofs.lemmas.Option.{slice_get_read}
use Rattle.plain_store.proofs.SessionLaws.{asked_read}
use Rattle.plain_store.proofs.sessions.Sessions.asked.Goals as goal

pub returns : goal.returns
returns c =
    let there = slice_get_read c.args.self.requests.now 65 c.args.s c.index-self-s.result (sym c.requires.all.requested) c.requires.s c.index-self-s.is in
    sym c.index-self-s.is ∙ asked_read c.args.self.requests.now c.args.s c.index-self-s.result there
