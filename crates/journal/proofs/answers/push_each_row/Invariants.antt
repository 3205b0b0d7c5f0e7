use Rattle.std.proofs.Common.{◌≡◌, ◌++◌, string_bytes, take}
use Rattle.pgproto.specs.Spelling.{each_spelled}
use Rattle.journal.specs.Answers.{spelled_row}
use Rattle.journal.proofs.answers.push_each_row.Given as goal

abbrev pub invariant-loop-row : goal.invariant-loop-row
invariant-loop-row l = string_bytes l.onto ≡ string_bytes l.initial.onto ++ each_spelled spelled_row (take l.row-index l.rows)
