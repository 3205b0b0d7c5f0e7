use Rattle.std.proofs.Common.{◌∙◌, ap, sym, find, map}
use Rattle.pool_config.specs.Configuration.{lacks, later}
use Rattle.pool_config.specs.declared.parameter.Parameter.TheVariants.{ScramUser, ScramVerifier}
use Rattle.pool_config.proofs.Lists.{find-append}
use Rattle.pool_config.proofs.assemble.missing_of_users.Goals as goal

pub returns-in-Some : goal.returns-in-Some
returns-in-Some c =
    sym (find-append (lacks c.args.settings.now) (map ScramUser c.args.users.now) (map ScramVerifier c.args.users.now)
    ∙ ap (λ first. later first (find (lacks c.args.settings.now) (map ScramVerifier c.args.users.now))) (sym c.in-Some.ensures))

pub returns-in-None : goal.returns-in-None
returns-in-None c =
    c.lacking_verifier.ensures ∙ sym (find-append (lacks c.args.settings.now) (map ScramUser c.args.users.now) (map ScramVerifier c.args.users.now)
    ∙ ap (λ first. later first (find (lacks c.args.settings.now) (map ScramVerifier c.args.users.now))) (sym c.in-None.ensures))
