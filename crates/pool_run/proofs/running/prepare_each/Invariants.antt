use Rattle.std.proofs.Common.{◌≡◌, length, take, drop}
use Rattle.pool_run.specs.Shelf.{AreFresh, ArePrepared}
use Rattle.pool_run.proofs.running.prepare_each.Given as goal

abbrev pub invariant-loop-one : goal.invariant-loop-one
invariant-loop-one g l = record {
  len : length l.boxes ≡ length l.initial.boxes;
  done : ArePrepared g.B.Backend.meaning g.B.Backend.is_honest g.B.Backend.is_prompt g.B.Backend.is_steady l.catalogue (take l.one-index l.boxes);
  left : AreFresh g.B.Backend.meaning g.B.Backend.is_honest g.B.Backend.is_prompt g.B.Backend.is_steady (drop l.one-index l.boxes);
}
