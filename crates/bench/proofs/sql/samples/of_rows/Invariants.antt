use Rattle.std.proofs.Common.{◌≡◌, ◌+◌, ◌*◌, length, string_bytes}
use Rattle.bench.proofs.sql.samples.of_rows.Given as goal

abbrev pub invariant-loop-row : goal.invariant-loop-row
invariant-loop-row l = length (string_bytes l.text) ≡ 35 + 8 * l.row
