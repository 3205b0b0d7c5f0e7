use Rattle.std.proofs.Common.{List, map, subst}
use Rattle.std.specs.Prelude.{Option}
use Rattle.pgproto.specs.Line.{line_of}
use Rattle.pgproto.specs.declared.line.ScriptLine.{ScriptLine}
use Rattle.pool_run.specs.declared.plan.Way.{Way}
use Rattle.pool_run.specs.Ends.{unchecked}
use Rattle.pool_run.specs.Plan.{IsWay}
use Rattle.pool_run.proofs.ScriptReading.{way_ends, way_fits, way_few, no_way}
use Rattle.pool_run.proofs.asking.built_lines.Goals as goal

pub returns-in-Ok-Some-clause-ends : goal.returns-in-Ok-Some-clause-ends
returns-in-Ok-Some-clause-ends c =
    let fits = subst (λ (w : Option Way). IsWay c.args.command.now c.args.config.now c.args.catalogue.now (map line_of c.args.lines) w) c.in-Ok-Some.field-0-is
    (subst (λ (ls : List ScriptLine). IsWay c.args.command.now c.args.config.now c.args.catalogue.now (map line_of ls) c.in-Ok-Some.field-0) c.as_slice.ensures c.in-Ok-Some.ensures) in
    λ s o e. way_ends c.args.command.now c.args.config.now c.args.catalogue.now c.args.script.now (map line_of c.args.lines) c.in-Ok-Some.way s o c.requires.read fits e

pub returns-in-Ok-Some-clause-playable : goal.returns-in-Ok-Some-clause-playable
returns-in-Ok-Some-clause-playable c =
    let reads = c.requires.read.reads in
    let fits = subst (λ (w : Option Way). IsWay c.args.command.now c.args.config.now c.args.catalogue.now (map line_of c.args.lines) w) c.in-Ok-Some.field-0-is
    (subst (λ (ls : List ScriptLine). IsWay c.args.command.now c.args.config.now c.args.catalogue.now (map line_of ls) c.in-Ok-Some.field-0) c.as_slice.ensures c.in-Ok-Some.ensures) in
    record {
      grammar = c.lines_of_grammar.ensures reads.text (map line_of c.args.lines) reads.says;
      fits = way_fits c.args.command.now c.args.config.now c.args.catalogue.now (map line_of c.args.lines) c.in-Ok-Some.way fits;
    }

pub returns-in-Ok-Some-clause-few : goal.returns-in-Ok-Some-clause-few
returns-in-Ok-Some-clause-few c =
    let fits = subst (λ (w : Option Way). IsWay c.args.command.now c.args.config.now c.args.catalogue.now (map line_of c.args.lines) w) c.in-Ok-Some.field-0-is
    (subst (λ (ls : List ScriptLine). IsWay c.args.command.now c.args.config.now c.args.catalogue.now (map line_of ls) c.in-Ok-Some.field-0) c.as_slice.ensures c.in-Ok-Some.ensures) in
    way_few c.args.command.now c.args.config.now c.args.catalogue.now (map line_of c.args.lines) c.in-Ok-Some.way fits

pub returns-in-Ok-None-clause-ends : goal.returns-in-Ok-None-clause-ends
returns-in-Ok-None-clause-ends c =
    let fits = subst (λ (w : Option Way). IsWay c.args.command.now c.args.config.now c.args.catalogue.now (map line_of c.args.lines) w) c.in-Ok-None.field-0-is
    (subst (λ (ls : List ScriptLine). IsWay c.args.command.now c.args.config.now c.args.catalogue.now (map line_of ls) c.in-Ok-None.field-0) c.as_slice.ensures c.in-Ok-None.ensures) in
    λ s o e. no_way c.args.command.now c.args.config.now c.args.catalogue.now c.args.script.now (map line_of c.args.lines) s o c.requires.read fits e.0 e.1

pub returns-in-Err-clause-ends : goal.returns-in-Err-clause-ends
returns-in-Err-clause-ends c = λ s o e. unchecked e.1.0 e.1.1 e.0
