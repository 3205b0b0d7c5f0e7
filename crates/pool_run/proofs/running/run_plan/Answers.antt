use Rattle.std.proofs.Common.{ℕ, ◌<◌, ◌≤◌, List, map, sym, subst}
use Rattle.std.specs.List.{AllByRecursion}
use Rattle.pgproto.specs.Line.{line_of}
use Rattle.pgproto.specs.declared.line.ScriptLine.{ScriptLine}
use Rattle.pgproto.specs.Spelling.{IsOfGrammar}
use Rattle.play.specs.Script.{IsSession}
use Rattle.pool_run.specs.Ends.{ScriptEnds, outside}
use Rattle.pool_run.specs.Plan.{FitsWay, WayEnds}
use Rattle.pool_run.specs.declared.plan.Way.{Way}
use Rattle.pool_run.proofs.running.run_plan.Goals as goal

pub run_script-requires-clause-grammar : goal.run_script-requires-clause-grammar
run_script-requires-clause-grammar g c =
    subst (λ (ls : List ScriptLine). AllByRecursion IsOfGrammar (map line_of ls)) (sym c.as_slice-script.ensures) c.requires.sound.playable.grammar

pub run_script-requires-clause-session : goal.run_script-requires-clause-session
run_script-requires-clause-session g c =
    let is = subst (λ (w : Way). FitsWay w (map line_of c.args.plan.now.lines.script)) c.in-OneClient.is c.requires.sound.playable.fits in
    subst (λ (ls : List ScriptLine). IsSession (map line_of ls)) (sym c.as_slice-script.ensures) is

pub run_script-requires-clause-in_range : goal.run_script-requires-clause-in_range
run_script-requires-clause-in_range g c = c.requires.sound.in_range

pub run_script-requires-clause-allowed : goal.run_script-requires-clause-allowed
run_script-requires-clause-allowed g c = c.requires.sound.allowed

pub run_script-requires-clause-some : goal.run_script-requires-clause-some
run_script-requires-clause-some g c = subst (λ (n : ℕ). 0 < n) (sym c.len-count.ensures) c.requires.sound.count.some

pub run_script-requires-clause-few : goal.run_script-requires-clause-few
run_script-requires-clause-few g c = subst (λ (n : ℕ). n ≤ 8) (sym c.len-count.ensures) c.requires.sound.count.few

pub returns-in-OneClient : goal.returns-in-OneClient
returns-in-OneClient g c =
    let taken = g.O.Sink.taken in
    let count = g.O.Sink.fault_count in
    let meaning = g.B.Backend.meaning in
    let plan = c.args.plan.now in
    let o = outside (count c.args.out.now) (count c.run_script.new.out) (taken c.args.out.now) (taken c.run_script.new.out) (map meaning c.args.shelf.now.items) (map meaning c.run_script.new.shelf.items) in
    let by_lines = subst (λ (ls : List ScriptLine). ScriptEnds c.len-count.result plan.catalogue (map line_of ls) c.run_script.result o) c.as_slice-script.ensures c.run_script.ensures in
    let ends = subst (λ (n : ℕ). ScriptEnds n plan.catalogue (map line_of plan.lines.script) c.run_script.result o) c.len-count.ensures by_lines in
    subst (λ (w : Way). WayEnds w plan.config plan.catalogue (map line_of plan.lines.script) c.run_script.result o) (sym c.in-OneClient.is) ends

pub returns-in-Sessions : goal.returns-in-Sessions
returns-in-Sessions g c =
    let taken = g.O.Sink.taken in
    let count = g.O.Sink.fault_count in
    let meaning = g.B.Backend.meaning in
    let plan = c.args.plan.now in
    let o = outside (count c.args.out.now) (count c.run_sessions.new.out) (taken c.args.out.now) (taken c.run_sessions.new.out) (map meaning c.args.shelf.now.items) (map meaning c.run_sessions.new.shelf.items) in
    subst (λ (w : Way). WayEnds w plan.config plan.catalogue (map line_of plan.lines.script) c.run_sessions.result o) (sym c.in-Sessions.is) c.run_sessions.ensures
