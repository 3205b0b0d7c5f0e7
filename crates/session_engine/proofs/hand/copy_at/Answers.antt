use Rattle.std.proofs.Common.{sym, ◌∙◌, ap}
use Rattle.std.specs.Option.{option_copied}
use Rattle.session_engine.proofs.Hands.{copy_wants}
use Rattle.session_engine.proofs.hand.copy_at.Goals as goal

pub returns-in-Some-clause-want : goal.returns-in-Some-clause-want
returns-in-Some-clause-want c =
    copy_wants c.copy_of.result c.args.heard.now.items.items c.args.place c.in-Some.heard.now (sym c.get.ensures ∙ ap option_copied c.in-Some.is) c.copy_of.ensures.want
