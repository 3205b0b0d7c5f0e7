use Rattle.std.proofs.Common.{sym, ◌∙◌, ap}
use Rattle.std.specs.Option.{option_copied}
use Rattle.session_engine.specs.Meaning.{session_of}
use Rattle.session_engine.proofs.Hands.{rests_at}
use Rattle.session_engine.proofs.standing.Standing.ran.Goals as goal

pub returns-in-Began : goal.returns-in-Began
returns-in-Began c =
    c.rest-in-Began.ensures ∙ rests_at c.args.behind (session_of c.args.self.now) c.args.work c.args.best c.in-Some.heard.now (sym c.get.ensures ∙ ap option_copied c.in-Some.is) c.in-Began.is
