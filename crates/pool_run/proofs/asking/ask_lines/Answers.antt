use Rattle.pool_run.specs.Scripts.{without}
use Rattle.pool_run.specs.Ends.{unbuilt}
use Rattle.pool_run.proofs.Stages.{script_stop}
use Rattle.pool_run.proofs.ScriptReading.{none_at, none_without, no_sessions_without, lines_at}
use Rattle.pool_run.proofs.asking.ask_lines.Goals as goal

pub returns-in-Err-clause-ends : goal.returns-in-Err-clause-ends
returns-in-Err-clause-ends c = λ s o e. script_stop c.in-Err.stop c.args.command.now c.args.config.now c.args.catalogue.now c.args.script.now s o c.in-Err.ensures e.0 e.1

pub returns-in-Ok-None-clause-ends : goal.returns-in-Ok-None-clause-ends
returns-in-Ok-None-clause-ends c = λ s o e.
    let command = c.args.command.now in
    let script = c.args.script.now in
    let has_none = none_at command script c.in-Ok-None.field-0 c.in-Ok-None.field-0-is c.in-Ok-None.ensures in
    unbuilt (without has_none) (none_without command c.args.config.now c.args.catalogue.now script has_none) (no_sessions_without command c.args.config.now script has_none) e.0 e.1

pub built_lines-requires : goal.built_lines-requires
built_lines-requires c = record { within = c.requires.within; read = lines_at c.args.command.now c.args.script.now c.in-Ok-Some.field-0 c.in-Ok-Some.lines c.in-Ok-Some.field-0-is c.in-Ok-Some.ensures }

pub returns-in-Ok-Some-clause-ends : goal.returns-in-Ok-Some-clause-ends
returns-in-Ok-Some-clause-ends c = λ s o e. c.built_lines.ensures.ends s o e
