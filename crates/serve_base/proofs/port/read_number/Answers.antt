use Rattle.std.proofs.Common.{◌+◌, ◌-◌, ◌≡◌, ◌∙◌, length, take, drop, slice_index, arith, rules}
use Rattle.serve_base.proofs.Numbers.{one_more, number_step, digit_small}
use Rattle.serve_base.proofs.Cuts.{tail_length}
use Rattle.serve_base.proofs.port.read_number.Goals as goal

pub loop-left-preserved : goal.loop-left-preserved
loop-left-preserved c =
    let tail : length (take (length c.loop-left.left.now - 1) (drop 1 c.loop-left.left.now)) + 1 ≡ length c.loop-left.left.now = tail_length c.loop-left.left.now (omega arith) in
    record {
      same = number_step c.loop-left.number c.loop-left.left.now (omega arith) (search rules) ∙ c.loop-left.invariant.same;
      shorter = omega arith;
      small = one_more c.loop-left.number (slice_index c.loop-left.left.now 0 - 48) (length c.args.word.now - length c.loop-left.left.now) _ c.loop-left.invariant.small (digit_small (slice_index c.loop-left.left.now 0) (search rules)) (omega arith);
    }
