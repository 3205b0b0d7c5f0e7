use Rattle.std.proofs.Common.{◌≡◌, ◌==◌, ◌+◌, ◌≤◌, take}
use Rattle.std.specs.List.{count_by}
use Rattle.schema.proofs.text.line_behind.Given as goal

abbrev pub invariant-loop-byte : goal.invariant-loop-byte
invariant-loop-byte l = record { counted : l.line ≡ 1 + count_by (λ b. b == 10) (take l.byte-index l.bytes); bounded : l.line ≤ 1 + l.byte-index }
