use Rattle.std.proofs.Common.{◌≡◌, ◌≢◌, ◌<◌, length, arith, length-set, get_or-set_same, get_or-set_other, below_more}
use Rattle.scram.proofs.Blocks.{nothing_yet, filled_is}
use Rattle.scram.proofs.mac.filled.Goals as goal

pub loop-at-init : goal.loop-at-init
loop-at-init c = record { long = nothing_yet.0; front = λ k h. absurd (omega arith); back = λ k h. nothing_yet.1 k }

pub loop-at-preserved : goal.loop-at-preserved
loop-at-preserved c =
    let long = c.loop-at.invariant.long in
    let test = c.loop-at-test.true in
    let lt : c.loop-at.at < length c.loop-at.block = omega arith in
    record {
      long = rw length-set long;
      front = below_more _ _ (λ k h. let ne : k ≢ c.loop-at.at = omega arith in rw get_or-set_other (c.loop-at.invariant.front k h)) (rw get_or-set_same);
      back = λ k h. let ne : k ≢ c.loop-at.at = omega arith in rw get_or-set_other (c.loop-at.invariant.back k (omega arith));
    }

pub returns : goal.returns
returns c =
    let end : c.loop-at.at ≡ length c.args.bytes.now = omega arith in
    filled_is c.args.bytes.now c.loop-at.block c.requires c.loop-at.invariant.long
    (λ k h. c.loop-at.invariant.front k (omega arith)) (λ k h. c.loop-at.invariant.back k (omega arith))
