use Rattle.std.proofs.Common.{◌≡◌, ◌++◌, string_bytes}
use Rattle.journal.specs.Parts.{members_below}
use Rattle.journal.proofs.pieces.push_set.Given as goal

abbrev pub invariant-loop-number : goal.invariant-loop-number
invariant-loop-number l = string_bytes l.onto ≡ string_bytes l.initial.onto ++ members_below l.set.bits l.number
