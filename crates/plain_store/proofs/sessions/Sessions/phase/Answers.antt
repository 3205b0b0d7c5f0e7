use Rattle.std.proofs.Common.{sym, ◌∙◌}
use Rattle.std.proofs.lemmas.Option.{slice_get_read}
use Rattle.plain_store.proofs.SessionLaws.{phase_read}
use Rattle.plain_store.proofs.sessions.Sessions.phase.Goals as goal

pub returns : goal.returns
returns c =
    let there = slice_get_read c.args.self.phases.now 65 c.args.s c.index-self-s.result (sym c.requires.all.phased) c.requires.s c.index-self-s.is in
    sym c.index-self-s.is ∙ phase_read c.args.self.phases.now c.args.s c.index-self-s.result there
