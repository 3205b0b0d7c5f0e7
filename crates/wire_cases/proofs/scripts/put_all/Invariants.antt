use Rattle.std.proofs.Common.{length, map}
use Rattle.std.specs.List.{AllByRecursion}
use Rattle.pgproto.specs.Line.{line_of}
use Rattle.pgproto.specs.Spelling.{IsOfGrammar}
use Rattle.wire_cases.proofs.scripts.put_all.Given as goal

abbrev pub invariant-loop-rest : goal.invariant-loop-rest
invariant-loop-rest l = AllByRecursion IsOfGrammar (map line_of l.rest)

abbrev pub decreases-loop-rest : goal.decreases-loop-rest
decreases-loop-rest l = length l.rest
