use Rattle.std.proofs.Common.{arith}
use Rattle.pg_values.proofs.DigitLemmas.{put_one, fixed_step, put_then}
use Rattle.pg_values.proofs.digits.+put_fixed.Goals as goal

pub nonzero_div-number : goal.nonzero_div-number
nonzero_div-number t c = (put_one c.args.width c.args.number c.pow-weight.result (omega arith) c.requires.number c.pow-weight.ensures).0

pub nonzero_rem-number : goal.nonzero_rem-number
nonzero_rem-number t c = (put_one c.args.width c.args.number c.pow-weight.result (omega arith) c.requires.number c.pow-weight.ensures).0

pub overflow_cast-number : goal.overflow_cast-number
overflow_cast-number t c = let one = put_one c.args.width c.args.number c.pow-weight.result (omega arith) c.requires.number c.pow-weight.ensures in omega (arith, one.1)

pub overflow_add-number : goal.overflow_add-number
overflow_add-number t c = let one = put_one c.args.width c.args.number c.pow-weight.result (omega arith) c.requires.number c.pow-weight.ensures in omega (arith, one.1)

pub put_fixed-requires : goal.put_fixed-requires
put_fixed-requires t c =
    let one = put_one c.args.width c.args.number c.pow-weight.result (omega arith) c.requires.number c.pow-weight.ensures in
    (omega arith, (omega arith, one.2))

pub returns : goal.returns
returns t c =
    put_then c.put_fixed.result c.args.out.now.items c.push.new.self.items c.put_fixed.new.out.items _ _ _ c.in_ok-push.ensures.items c.put_fixed.ensures
    (fixed_step c.args.width c.args.number c.pow-weight.result (omega arith) c.pow-weight.ensures)
