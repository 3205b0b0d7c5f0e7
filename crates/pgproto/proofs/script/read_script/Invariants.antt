use Rattle.std.proofs.Common.{◌≡◌, ◌+◌, ◌≤◌, length, map}
use Rattle.pgproto.specs.Line.{line_of}
use Rattle.pgproto.proofs.ScriptLaws.{Going}
use Rattle.pgproto.proofs.script.read_script.Given as goal

-- the lines so far are read
abbrev pub invariant-loop-rest : goal.invariant-loop-rest
invariant-loop-rest l = record {
  going : Going l.text l.rest (map line_of l.found.items) l.number;
  few : l.number + length l.rest ≤ length l.text;
}

abbrev pub decreases-loop-rest : goal.decreases-loop-rest
decreases-loop-rest l = length l.rest
