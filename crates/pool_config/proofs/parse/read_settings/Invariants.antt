use Rattle.std.proofs.Common.{◌≡◌, ◌≤◌, ◌+◌, length}
use Rattle.pool_config.specs.Bytes.{lines}
use Rattle.pool_config.specs.Reader.{read_lines, onto_said}
use Rattle.pool_config.proofs.parse.read_settings.Given as goal

abbrev pub invariant-loop-settings : goal.invariant-loop-settings
invariant-loop-settings l = record {
  all : onto_said l.settings (read_lines l.number (lines l.left)) ≡ read_lines 1 (lines l.text);
  numbered : l.number + length l.left ≤ length l.text + 1;
}

abbrev pub decreases-loop-settings : goal.decreases-loop-settings
decreases-loop-settings l = length l.left
