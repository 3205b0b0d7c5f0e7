use Rattle.std.proofs.Common.{◌≡◌, sym, ◌∙◌, arith}
use Rattle.postgres_link.proofs.Fronts.{more_here, bad_here}
use Rattle.postgres_link.proofs.hearing.hear_one.Goals as goal

pub returns-in-More-clause-told : goal.returns-in-More-clause-told
returns-in-More-clause-told g c =
    let none : c.args.listening.now.left ≡ 0 = omega (arith, c.if-listening-gt0.false) in
    more_here c.args.listening.now.hearer c.args.listening.now.heard c.args.listening.now.left c.args.inbox.now none (sym c.in_ok-message.ensures.exact ∙ c.in-More.is)

pub returns-in-Bad-clause-told : goal.returns-in-Bad-clause-told
returns-in-Bad-clause-told g c =
    let none : c.args.listening.now.left ≡ 0 = omega (arith, c.if-listening-gt0.false) in
    bad_here c.args.listening.now.hearer c.args.listening.now.heard c.args.listening.now.left c.in-Bad.place c.args.inbox.now none (sym c.in_ok-message.ensures.exact ∙ c.in-Bad.is)
