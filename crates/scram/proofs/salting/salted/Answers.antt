use Rattle.std.proofs.Common.{◌≡◌, ◌-◌, ℕ, ap, ◌∙◌, arith}
use Rattle.scram.specs.Mac.{chained_up_to}
use Rattle.scram.proofs.Turns.{first_chained, more_chained, first_all, more_all}
use Rattle.scram.proofs.salting.salted.Goals as goal

pub rounds-init : goal.rounds-init
rounds-init c =
    let first = first_chained c.new-key.result c.args.password.now c.args.salt.now c.sign_parts-last.result c.new-key.ensures c.sign_parts-last.ensures in
    record { keyed = c.new-key.ensures; last = first; all = first_all c.args.password.now c.args.salt.now c.sign_parts-last.result first }

pub rounds-preserved : goal.rounds-preserved
rounds-preserved c =
    let next = more_chained c.new-key.result c.args.password.now c.args.salt.now c.rounds.last c.sign-next.result c.rounds.done c.rounds.invariant.keyed c.rounds.invariant.last c.sign-next.ensures in
    record {
      keyed = c.rounds.invariant.keyed;
      last = next;
      all = more_all c.args.password.now c.args.salt.now c.rounds.all c.sign-next.result c.xor_bytes-sum.result c.rounds.done c.rounds.invariant.all next c.xor_bytes-sum.ensures;
    }

pub returns : goal.returns
returns c =
    let turns : c.rounds.done ≡ c.args.rounds - 1 = omega arith in
    c.rounds.invariant.all ∙ ap (λ (n : ℕ). chained_up_to c.args.password.now c.args.salt.now n) turns
