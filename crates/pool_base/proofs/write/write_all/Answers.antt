use Rattle.std.proofs.Common.{arith, ◌≤◌, subst, sym}
use Rattle.std.specs.Prelude.{List, ℕ}
use Rattle.pool_base.specs.Outside.{Took}
use Rattle.pool_base.specs.declared.outside.Put.{Put}
use Rattle.pool_base.proofs.Sinking.{Sends, sends_on}
use Rattle.pool_base.proofs.write.write_all.Goals as goal

pub loop-rest-preserved : goal.loop-rest-preserved
loop-rest-preserved g c =
    let taken = g.O.Sink.taken in
    let told : Put → Type 0 = λ put. Took put c.loop-rest.rest.now (taken c.loop-rest.out) (taken c.write.new.self) in
    let left : List ℕ → Type 0 = λ rest. Sends (taken c.args.out.now) (taken c.write.new.self) c.args.bytes.now rest in
    record {
      sends = subst left (sym c.split_at.ensures.back) (sends_on (taken c.args.out.now) (taken c.loop-rest.out) (taken c.write.new.self) c.args.bytes.now c.loop-rest.rest.now c.in-Taken.count c.loop-rest.invariant.sends (subst told c.in-Taken.is c.write.ensures.takes).2);
      later = (let a : g.O.Sink.fault_count c.args.out.now ≤ g.O.Sink.fault_count c.loop-rest.out = c.loop-rest.invariant.later in let b : g.O.Sink.fault_count c.loop-rest.out ≤ g.O.Sink.fault_count c.write.new.self = c.write.ensures.later in omega arith);
    }
