use Rattle.std.proofs.Common.{◌≡◌, ◌++◌, string_bytes, take}
use Rattle.pgproto.specs.Spelling.{each_spelled}
use Rattle.journal.specs.Answers.{spelled_value}
use Rattle.journal.proofs.answers.push_values.Given as goal

abbrev pub invariant-loop-value : goal.invariant-loop-value
invariant-loop-value l = string_bytes l.onto ≡ string_bytes l.initial.onto ++ each_spelled spelled_value (take l.value-index l.values)
