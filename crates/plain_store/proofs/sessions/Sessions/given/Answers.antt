use Rattle.std.proofs.Common.{sym, ap, ◌∙◌}
use Rattle.std.specs.Prelude.{option_map}
use Rattle.std.proofs.lemmas.Option.{slice_get_read}
use Rattle.outcomes.specs.Given.{given_in}
use Rattle.plain_store.proofs.SessionLaws.{given_read}
use Rattle.plain_store.proofs.sessions.Sessions.given.Goals as goal

pub returns : goal.returns
returns c =
    let there = slice_get_read c.args.self.given.now 65 c.args.s c.index-self-s.result (sym c.requires.all.given_to_all) c.requires.s c.index-self-s.is in
    ap (option_map given_in) (sym c.index-self-s.is) ∙ given_read c.args.self.given.now c.args.s c.index-self-s.result there
