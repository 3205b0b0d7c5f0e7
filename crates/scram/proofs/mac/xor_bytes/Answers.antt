use Rattle.std.proofs.Common.{◌≡◌, ◌≢◌, ◌<◌, length, arith, length-set, get_or-set_same, get_or-set_other, below_more}
use Rattle.scram.proofs.Blocks.{xor_is}
use Rattle.scram.proofs.mac.xor_bytes.Goals as goal

pub loop-at-preserved : goal.loop-at-preserved
loop-at-preserved c =
    let long = c.loop-at.invariant.long in
    let lt : c.loop-at.at < length c.loop-at.combined = omega arith in
    record {
      long = rw length-set long;
      each = below_more _ _ (λ k h. let ne : k ≢ c.loop-at.at = omega arith in rw get_or-set_other (c.loop-at.invariant.each k h)) (rw get_or-set_same);
    }

pub returns : goal.returns
returns c =
    let left : length c.args.left.now ≡ 32 = omega arith in
    let right : length c.args.right.now ≡ 32 = omega arith in
    xor_is c.args.left.now c.args.right.now c.loop-at.combined left right c.loop-at.invariant.long (λ k h. c.loop-at.invariant.each k (omega arith))
