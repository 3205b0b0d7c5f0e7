use Rattle.std.proofs.Common.{◌≡◌, ◌++◌, take}
use Rattle.pgproto.specs.Spelling.{each_spelled}
use Rattle.pgproto.specs.Spelling.{value_spelled}
use Rattle.pgproto.proofs.spelling.push_values.Given as goal

abbrev pub invariant-loop-value : goal.invariant-loop-value
invariant-loop-value l = l.onto ≡ l.initial.onto ++ each_spelled value_spelled (take l.value-index l.values)
