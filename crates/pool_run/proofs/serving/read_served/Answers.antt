use Rattle.std.proofs.Common.{map, subst, sym, ◌∙◌}
use Rattle.std.specs.Prelude.{Option, Err}
use Rattle.pool_command.specs.declared.command.Command.{Command}
use Rattle.pool_run.specs.Ends.{WordsEnd, CommandEnds, Ends}
use Rattle.pool_run.specs.Plan.{Leads}
use Rattle.pool_run.proofs.ServingLemmas.{for_err}
use Rattle.pool_run.proofs.serving.read_served.Goals as goal

pub returns-in-Ok-Some-clause-ends : goal.returns-in-Ok-Some-clause-ends
returns-in-Ok-Some-clause-ends g c =
    let contents = g.F.Files.contents c.args.files.now in
    let faults = g.F.Files.fault_count in
    for_err c.read_command.result (λ stop. Leads (Err stop) (CommandEnds contents (faults c.args.files.now) (faults c.read_command.new.files) c.in-Ok-Some.command))
    (λ stop. Leads (Err stop) (Ends (map (λ w. w.now) c.args.words.now) contents (faults c.args.files.now) (faults c.read_command.new.files)))
    (λ stop ends s o e.
    let of : Option Command → Type 0 = λ command. WordsEnd command contents (faults c.args.files.now) (faults c.read_command.new.files) s o in
    subst of (sym c.in-Ok-Some.field-0-is ∙ c.in-Ok-Some.ensures) (ends s o e))
    c.read_command.ensures.ends
