use Rattle.std.proofs.Common.{arith, refl}
use Rattle.std.proofs.lemmas.Int.{ints}
use Rattle.pg_values.proofs.CalendarTie.{no_day, the_day}
use Rattle.pg_values.proofs.calendar.day_number.Goals as goal

pub returns-in-Err-clause-value : goal.returns-in-Err-clause-value
returns-in-Err-clause-value c is =
    no_day c.args.year c.args.month c.args.day _ _ _ (omega (arith, ints)) (omega (arith, ints)) (omega (arith, ints)) c.in-Err.ensures.succeeds.1 is

pub returns-in-Ok-clause-value : goal.returns-in-Ok-clause-value
returns-in-Ok-clause-value c =
    the_day c.args.year c.args.month c.args.day _ _ _ c.in-Ok.date c.to_unix_epoch_day.result _ (omega (arith, ints)) (omega (arith, ints)) (omega (arith, ints))
    (c.in-Ok.ensures.succeeds.0 refl) c.in-Ok.ensures.value c.to_unix_epoch_day.ensures.value (omega (arith, ints))

pub returns-in-Ok-clause-within : goal.returns-in-Ok-clause-within
returns-in-Ok-clause-within c = let b = c.to_unix_epoch_day.ensures.bound in (omega (arith, ints, b.0, b.1), omega (arith, ints, b.0, b.1))
