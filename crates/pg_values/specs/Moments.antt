-- Moments as they are written: their spelling, the ranges of their fields, and which moment is meant.
use Rattle.std.specs.Prelude.{◌≡◌, ℕ, ◌+◌, ◌-◌, ◌*◌, ◌^◌, ◌<◌, ◌≤◌, ◌==◌, if◌then◌else◌, List, [], ◌∷◌, ◌++◌, Option, Some, None, ℤ, pos, neg_ℤ, ◌+ℤ◌, ◌-ℤ◌, ◌*ℤ◌, codes}
use Rattle.pg_values.specs.Digits.{fixed, shortest}
use Rattle.pg_values.specs.Calendar.{day_number, IsDay}
use Rattle.pg_values.specs.declared.written.Sign.{Sign}
use Rattle.pg_values.specs.declared.written.Sign.TheVariants.{East, West}
use Rattle.pg_values.specs.declared.written.Zone.{Zone}
use Rattle.pg_values.specs.declared.written.Zone.TheVariants as zone
use Rattle.pg_values.specs.declared.written.Fraction.{Fraction}
use Rattle.pg_values.specs.declared.written.Seconds.{Seconds}
use Rattle.pg_values.specs.declared.written.Separator.{Separator}
use Rattle.pg_values.specs.declared.written.Separator.TheVariants.{Space, LetterT}
use Rattle.pg_values.specs.declared.written.Clock.{Clock}
use Rattle.pg_values.specs.declared.written.Written.{Written}
use Rattle.pg_values.specs.declared.reading.Reading.{Reading}

-- The spelling: YYYY-MM-DD, then perhaps a space or T and HH:MM, with perhaps :SS, a point and digits
-- behind that, and Z or a sign with HH or HH:MM.

abbrev pub sign_byte : Sign → ℕ
sign_byte East = 43
sign_byte West = 45

abbrev pub minutes_text : Option ℕ → List ℕ
minutes_text None = []
minutes_text (Some minutes) = 58 ∷ fixed 2 minutes

abbrev pub zone_text : Zone → List ℕ
zone_text zone.Unwritten = []
zone_text zone.Zulu = 90 ∷ []
zone_text (zone.Offset o) = sign_byte o.sign ∷ (fixed 2 o.hours ++ minutes_text o.minutes)

abbrev pub fraction_text : Option Fraction → List ℕ
fraction_text None = []
fraction_text (Some f) = 46 ∷ fixed f.digits f.number

abbrev pub seconds_text : Option Seconds → List ℕ
seconds_text None = []
seconds_text (Some s) = 58 ∷ (fixed 2 s.second ++ fraction_text s.fraction)

abbrev pub separator_byte : Separator → ℕ
separator_byte Space = 32
separator_byte LetterT = 84

abbrev pub clock_text : Option Clock → List ℕ
clock_text None = []
clock_text (Some c) =
    separator_byte c.separator ∷ (fixed 2 c.hour ++ (58 ∷ (fixed 2 c.minute ++ (seconds_text c.seconds ++ zone_text c.zone))))

abbrev pub written_text : Written → List ℕ
written_text w = fixed 4 w.year ++ (45 ∷ (fixed 2 w.month ++ (45 ∷ (fixed 2 w.day ++ clock_text w.clock))))

-- Each field has as many digits as it is written with.

abbrev pub MinutesFit : Option ℕ → Type 0
MinutesFit None = Unit {0}
MinutesFit (Some minutes) = minutes < 100

abbrev pub ZoneFits : Zone → Type 0
ZoneFits zone.Unwritten = Unit {0}
ZoneFits zone.Zulu = Unit {0}
ZoneFits (zone.Offset o) = (o.hours < 100) × MinutesFit o.minutes

abbrev pub FractionFits : Option Fraction → Type 0
FractionFits None = Unit {0}
FractionFits (Some f) = (1 ≤ f.digits) × (f.digits ≤ 6) × (f.number < 10 ^ f.digits)

abbrev pub SecondsFit : Option Seconds → Type 0
SecondsFit None = Unit {0}
SecondsFit (Some s) = (s.second < 100) × FractionFits s.fraction

abbrev pub ClockFits : Option Clock → Type 0
ClockFits None = Unit {0}
ClockFits (Some c) = (c.hour < 100) × (c.minute < 100) × SecondsFit c.seconds × ZoneFits c.zone

pub record Fits (w : Written) : Type 0 where
  pub year : w.year < 10000
  pub month : w.month < 100
  pub day : w.day < 100
  pub clock : ClockFits w.clock

-- the text is of the grammar, and these are its fields
abbrev pub IsMomentText : List ℕ → Written → Type 0
IsMomentText text w = Fits w × (text ≡ written_text w)

-- The ranges of the fields: hours up to 23, minutes and seconds up to 59, an offset up to 15:59.

abbrev pub minutes_in : Option ℕ → ℕ
minutes_in None = 0
minutes_in (Some minutes) = minutes

abbrev pub ZoneInRange : Zone → Type 0
ZoneInRange zone.Unwritten = Unit {0}
ZoneInRange zone.Zulu = Unit {0}
ZoneInRange (zone.Offset o) = (o.hours ≤ 15) × (minutes_in o.minutes ≤ 59)

abbrev pub second_in : Option Seconds → ℕ
second_in None = 0
second_in (Some s) = s.second

abbrev pub ClockInRange : Option Clock → Type 0
ClockInRange None = Unit {0}
ClockInRange (Some c) = (c.hour ≤ 23) × (c.minute ≤ 59) × (second_in c.seconds ≤ 59) × ZoneInRange c.zone

abbrev pub FieldsInRange : Written → Type 0
FieldsInRange w = IsDay w.year w.month w.day × ClockInRange w.clock

-- Which moment is meant, in microseconds since 2000-01-01 00:00 UTC.

abbrev pub fraction_micros : Option Fraction → ℕ
fraction_micros None = 0
fraction_micros (Some f) = f.number * 10 ^ (6 - f.digits)

abbrev pub seconds_micros : Option Seconds → ℕ
seconds_micros None = 0
seconds_micros (Some s) = s.second * 1_000_000 + fraction_micros s.fraction

-- the microseconds since the day began
abbrev pub micros_of_day : ℕ → ℕ → ℕ → ℕ
micros_of_day hour minute micros = (hour * 60 + minute) * 60_000_000 + micros

-- a number of minutes ahead of UTC, or behind it
abbrev pub ahead : Sign → ℕ → ℤ
ahead East minutes = pos minutes
ahead West minutes = neg_ℤ (pos minutes)

-- how many minutes the zone's clocks are ahead of UTC
abbrev pub minutes_ahead : Zone → ℤ
minutes_ahead zone.Unwritten = pos 0
minutes_ahead zone.Zulu = pos 0
minutes_ahead (zone.Offset o) = ahead o.sign (o.hours * 60 + minutes_in o.minutes)

abbrev pub clock_micros : Option Clock → ℤ
clock_micros None = pos 0
clock_micros (Some c) =
    pos (micros_of_day c.hour c.minute (seconds_micros c.seconds)) -ℤ (minutes_ahead c.zone *ℤ pos 60_000_000)

abbrev pub moment_of : Written → ℤ
moment_of w = (day_number w.year w.month w.day *ℤ pos 86_400_000_000) +ℤ clock_micros w.clock

-- The one spelling that is printed: YYYY-MM-DD HH:MM:SS+00, with the fraction, if there is one, as far as
-- its last digit that is not 0.

abbrev pub micros_text : ℕ → List ℕ
micros_text micros = if micros == 0 then [] else 46 ∷ shortest 6 micros

pub record IsReading (r : Reading) : Type 0 where
  pub day_in : IsDay r.year r.month r.day
  pub hour_in : r.hour ≤ 23
  pub minute_in : r.minute ≤ 59
  pub second_in : r.second ≤ 59
  pub micros_in : r.micros < 1_000_000

abbrev pub printed_text : Reading → List ℕ
printed_text r =
    fixed 4 r.year ++ (45 ∷ (fixed 2 r.month ++ (45 ∷ (fixed 2 r.day
    ++ (32 ∷ (fixed 2 r.hour ++ (58 ∷ (fixed 2 r.minute ++ (58 ∷ (fixed 2 r.second
    ++ (micros_text r.micros ++ codes "+00")))))))))))

abbrev pub moment_read : Reading → ℤ
moment_read r =
    (day_number r.year r.month r.day *ℤ pos 86_400_000_000)
    +ℤ pos (micros_of_day r.hour r.minute (r.second * 1_000_000 + r.micros))

-- the text is printed of the moment
abbrev pub IsPrintedMoment : ℤ → List ℕ → Type 0
IsPrintedMoment micros text = (r : Reading) × IsReading r × (moment_read r ≡ micros) × (text ≡ printed_text r)
