use Rattle.std.proofs.Common.{◌≡◌, ◌≤◌, ◌+◌, length}
use Rattle.pool_config.specs.Bytes.{lines}
use Rattle.serve_base.specs.Reader.{onto_read, rows_in, status_in}
use Rattle.serve_base.proofs.reader.read_status.Given as goal

abbrev pub invariant-loop-all : goal.invariant-loop-all
invariant-loop-all l = record {
  all : onto_read l.all (rows_in l.number (lines l.left)) ≡ status_in l.text;
  numbered : l.number + length l.left + 1 ≤ length l.text;
}

abbrev pub decreases-loop-all : goal.decreases-loop-all
decreases-loop-all l = length l.left
