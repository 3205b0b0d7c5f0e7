use Rattle.std.proofs.Common.{◌∙◌, ap, sym, find}
use Rattle.pool_config.specs.Configuration.{lacks, later, required_of}
use Rattle.pool_config.proofs.Lists.{missing_in}
use Rattle.pool_config.proofs.assemble.missing.Goals as goal

pub returns-in-Some : goal.returns-in-Some
returns-in-Some c =
    sym (missing_in c.args.settings.now c.args.backends.now c.args.users.now c.requires.backends c.requires.users
    ∙ ap (λ first. later first (find (lacks c.args.settings.now) (required_of c.args.users.now))) (sym c.in-Some.ensures))

pub returns-in-None : goal.returns-in-None
returns-in-None c =
    c.missing_of_users.ensures ∙ sym (missing_in c.args.settings.now c.args.backends.now c.args.users.now c.requires.backends c.requires.users
    ∙ ap (λ first. later first (find (lacks c.args.settings.now) (required_of c.args.users.now))) (sym c.in-None.ensures))
