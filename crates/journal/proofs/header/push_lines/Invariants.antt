use Rattle.std.proofs.Common.{◌≡◌, ◌++◌, length, string_bytes, IsUtf8}
use Rattle.journal.specs.Header.{behind}
use Rattle.journal.proofs.header.push_lines.Given as goal

abbrev pub invariant-lines : goal.invariant-lines
invariant-lines l = (string_bytes l.onto ++ behind l.word l.left ≡ string_bytes l.initial.onto ++ behind l.word l.fn.text) × IsUtf8 l.left

abbrev pub decreases-lines : goal.decreases-lines
decreases-lines l = length l.left
