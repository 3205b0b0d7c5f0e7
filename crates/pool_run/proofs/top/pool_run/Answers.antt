use Rattle.pool_run.proofs.Numbers.{played, no_command_is, no_command_always, refused_is, refused_text, refuses, schema_refuses, files_rose, sink_rose}
use Rattle.pool_run.proofs.ScriptNumbers.{script_refused_is, script_refused_text, script_refuses}
use Rattle.pool_run.proofs.OneStore.{one_store}
use Rattle.pool_run.proofs.Replying.{replies}
use Rattle.pool_run.proofs.Touching.{untouched}
use Rattle.pool_run.proofs.top.pool_run.Goals as goal

pub run-requires-clause-fresh : goal.run-requires-clause-fresh
run-requires-clause-fresh g c = record { blank_each = c.requires.blank_each; honest = c.requires.honest; prompt = c.requires.prompt; steady = c.requires.steady }

pub returns-clause-played : goal.returns-clause-played
returns-clause-played g c = played _ _ _ _ _ _ c.run.ensures

pub returns-clause-one_store : goal.returns-clause-one_store
returns-clause-one_store g c = one_store _ _ _ _ _ _ c.run.ensures

pub returns-clause-replies : goal.returns-clause-replies
returns-clause-replies g c = replies _ _ _ _ _ _ c.run.ensures

pub returns-clause-no_command : goal.returns-clause-no_command
returns-clause-no_command g c = no_command_is _ _ _ _ _ _ c.run.ensures

pub returns-clause-always : goal.returns-clause-always
returns-clause-always g c = no_command_always _ _ _ _ _ _ c.run.ensures

pub returns-clause-refused : goal.returns-clause-refused
returns-clause-refused g c = refused_is _ _ _ _ _ _ c.run.ensures

pub returns-clause-accepted : goal.returns-clause-accepted
returns-clause-accepted g c = refused_text _ _ _ _ _ _ c.run.ensures

pub returns-clause-refuses : goal.returns-clause-refuses
returns-clause-refuses g c = refuses _ _ _ _ _ _ c.run.ensures

pub returns-clause-schema_refuses : goal.returns-clause-schema_refuses
returns-clause-schema_refuses g c = schema_refuses _ _ _ _ _ _ c.run.ensures

pub returns-clause-untouched : goal.returns-clause-untouched
returns-clause-untouched g c = untouched _ _ _ _ _ _ c.run.ensures

pub returns-clause-files : goal.returns-clause-files
returns-clause-files g c = files_rose _ _ _ _ _ _ c.run.ensures

pub returns-clause-sink : goal.returns-clause-sink
returns-clause-sink g c = sink_rose _ _ _ _ _ _ c.run.ensures

pub returns-clause-script_refused : goal.returns-clause-script_refused
returns-clause-script_refused g c = script_refused_is _ _ _ _ _ _ c.run.ensures

pub returns-clause-script_accepted : goal.returns-clause-script_accepted
returns-clause-script_accepted g c = script_refused_text _ _ _ _ _ _ c.run.ensures

pub returns-clause-script_refuses : goal.returns-clause-script_refuses
returns-clause-script_refuses g c = script_refuses _ _ _ _ _ _ c.run.ensures
