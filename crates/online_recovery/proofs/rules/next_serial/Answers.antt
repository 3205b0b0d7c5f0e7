use Rattle.std.proofs.Common.{◌≤◌, ◌+◌, length, sym, subst, arith}
use Rattle.online_recovery.proofs.Fewness.{few_tables}
use Rattle.online_recovery.proofs.rules.next_serial.Goals as goal

pub serial_behind-requires : goal.serial_behind-requires
serial_behind-requires c =
    let few : 0 + length c.args.held.now.layout.tables ≤ 64 = (let f = few_tables _ c.args.held.now.layout.allowed in omega arith) in
    subst (λ ts. 0 + length ts ≤ 64) (sym c.tables.ensures) few
