use Rattle.std.proofs.Common.{◌≡◌, pos, arith, ◌+ℤ◌, ap, ◌∙◌, unsigned_abs, to_z, of_z}
use Rattle.std.specs.Int.{w16}
use Rattle.std.proofs.lemmas.Int.{ints}
use Rattle.jiff_core.proofs.SignedLemmas.{signed_arith}
use Rattle.jiff_core.specs.Calendar.{days_from_civil}
use Rattle.pg_values.proofs.CalendarTie.{day_of_is}
use Rattle.pg_values.proofs.calendar.day_of.Goals as goal

pub returns-clause-number : goal.returns-clause-number
returns-clause-number c =
    let low = c.requires.from in
    let high = c.requires.to in
    let e = c.from_days_since_min-date.ensures in
    let epoch : days_from_civil c.from_days_since_min-date.result.year c.from_days_since_min-date.result.month c.from_days_since_min-date.result.day +ℤ pos 4_371_587 ≡ c.args.number +ℤ pos 4_382_544
    = omega (arith, ints, signed_arith) in
    let plain : to_z w16 (of_z w16 c.from_days_since_min-date.result.year) ≡ c.from_days_since_min-date.result.year = omega (arith, ints, signed_arith, c.from_days_since_min-date.result.year_in) in
    let year : c.unsigned_abs.result ≡ unsigned_abs c.from_days_since_min-date.result.year = c.unsigned_abs.ensures.value ∙ ap unsigned_abs plain in
    day_of_is c.from_days_since_min-date.result.year c.from_days_since_min-date.result.month c.from_days_since_min-date.result.day c.unsigned_abs.result c.args.number
    (c.from_days_since_min-date.result.year_in, c.from_days_since_min-date.result.month_in, c.from_days_since_min-date.result.day_in) epoch low year
