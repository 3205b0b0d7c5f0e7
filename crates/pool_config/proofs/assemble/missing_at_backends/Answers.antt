use Rattle.std.proofs.Common.{◌∙◌, ap, sym, find, map}
use Rattle.pool_config.specs.Configuration.{lacks, later}
use Rattle.pool_config.specs.declared.parameter.Parameter.TheVariants.{BackendPort}
use Rattle.pool_config.proofs.Lists.{missing_at}
use Rattle.pool_config.proofs.assemble.missing_at_backends.Goals as goal

pub returns-in-Some : goal.returns-in-Some
returns-in-Some c =
    sym (missing_at c.args.settings.now c.args.backends.now (sym c.if-lacks.ensures)
    ∙ ap (λ first. later first (find (lacks c.args.settings.now) (map BackendPort c.args.backends.now))) (sym c.in-Some.ensures))

pub returns-in-None : goal.returns-in-None
returns-in-None c =
    c.lacking_port.ensures ∙ sym (missing_at c.args.settings.now c.args.backends.now (sym c.if-lacks.ensures)
    ∙ ap (λ first. later first (find (lacks c.args.settings.now) (map BackendPort c.args.backends.now))) (sym c.in-None.ensures))
