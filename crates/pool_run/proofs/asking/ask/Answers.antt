use Rattle.std.proofs.Common.{map, subst, sym, ◌∙◌}
use Rattle.std.specs.Prelude.{Option}
use Rattle.pool_command.specs.Command.{command_of}
use Rattle.pool_command.specs.declared.command.Command.{Command}
use Rattle.pool_run.specs.Ends.{WordsEnd}
use Rattle.pool_run.proofs.Stages.{memory_stops}
use Rattle.pool_run.proofs.asking.ask.Goals as goal

pub returns-in-Err-clause-ends : goal.returns-in-Err-clause-ends
returns-in-Err-clause-ends g c = λ s o e. memory_stops (command_of (map (λ w. w.now) c.args.words.now)) (g.F.Files.contents c.args.files.now) (g.F.Files.fault_count c.args.files.now) s o e

pub returns-in-Ok-None-clause-ends : goal.returns-in-Ok-None-clause-ends
returns-in-Ok-None-clause-ends g c = λ s o e.
    let contents = g.F.Files.contents in
    let faults = g.F.Files.fault_count in
    let ends : Option Command → Type 0 = λ command. WordsEnd command (contents c.args.files.now) (faults c.args.files.now) (faults c.args.files.now) s o in
    subst ends (sym c.in-Ok-None.field-0-is ∙ c.in-Ok-None.ensures) e

pub returns-in-Ok-Some-clause-ends : goal.returns-in-Ok-Some-clause-ends
returns-in-Ok-Some-clause-ends g c = λ s o e.
    let contents = g.F.Files.contents in
    let faults = g.F.Files.fault_count in
    let ends : Option Command → Type 0 = λ command. WordsEnd command (contents c.args.files.now) (faults c.args.files.now) (faults c.ask_command.new.files) s o in
    subst ends (sym c.in-Ok-Some.field-0-is ∙ c.in-Ok-Some.ensures) (c.ask_command.ensures.ends s o e)
