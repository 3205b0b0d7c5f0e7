-- A value has one text.
use Rattle.std.proofs.Common.{◌≡◌, ℕ, ◌+◌, ◌*◌, ◌<◌, ◌≤◌, List, Option, Some, sym, ap, ◌∙◌, arith, ℤ, pos, ◌+ℤ◌, ◌-ℤ◌, ◌*ℤ◌}
use Rattle.jiff_core.specs.Calendar.{days_from_civil}
use Rattle.jiff_core.specs.declared.civil.date.Date.{Date}
use Rattle.jiff_core.proofs.SignedLemmas.{signed_arith}
use Rattle.jiff_core.proofs.DateLemmas.{epoch_day_injective}
use Rattle.pg_values.specs.declared.reading.Reading.{Reading}
use Rattle.pg_values.specs.declared.value.Value.{Value}
use Rattle.pg_values.specs.declared.value.Value.TheVariants as value
use Rattle.pg_values.specs.Calendar.{day_number, days_before, IsDay}
use Rattle.pg_values.specs.Moments.{IsReading, moment_read, printed_text, micros_of_day}
use Rattle.pg_values.specs.Text.{IsTextOf}
use Rattle.pg_values.proofs.CalendarTie.{number_is, date_from_day}

date_of : (y m d : ℕ) → IsDay y m d → Date
date_of y m d h = let is = date_from_day y m d h in record { year = pos y; month = m; day = d; year_in = is.0; month_in = (h.from_january, h.to_december); day_in = (h.from_first, h.to_last) }

-- a day has one date
one_date : (y m d z n e : ℕ) → IsDay y m d → IsDay z n e → day_number y m d ≡ day_number z n e → (y ≡ z) × (m ≡ n) × (d ≡ e)
unfolding date_of
one_date y m d z n e h k same =
    let epoch : days_from_civil (pos y) m d ≡ days_from_civil (pos z) n e = number_is y m d h.from_first ∙ ap (λ (x : ℤ). x +ℤ pos 10_957) same ∙ sym (number_is z n e k.from_first) in
    let dates = epoch_day_injective (date_of y m d h) (date_of z n e k) epoch in
    (omega (arith, signed_arith, dates.0), dates.1, dates.2)

-- a day and a time of day make one moment
split : (a b t u : ℕ) → t < 86_400_000_000 → u < 86_400_000_000 → a * 86_400_000_000 + t ≡ b * 86_400_000_000 + u → (a ≡ b) × (t ≡ u)
split a b t u lt lu e = (omega arith, omega arith)

clock_split : (h m s u i n r v : ℕ) → m ≤ 59 → s ≤ 59 → u < 1_000_000 → n ≤ 59 → r ≤ 59 → v < 1_000_000 → micros_of_day h m (s * 1_000_000 + u) ≡ micros_of_day i n (r * 1_000_000 + v) → (h ≡ i) × (m ≡ n) × (s ≡ r) × (u ≡ v)
clock_split h m s u i n r v a b c d e f same = (omega arith, omega arith, omega arith, omega arith)

abbrev made : ℕ → ℕ → ℕ → ℕ → ℕ → ℕ → ℕ → Reading
made y m d h i s u = record { year = y; month = m; day = d; hour = h; minute = i; second = s; micros = u }

abbrev time_of : Reading → ℕ
time_of r = micros_of_day r.hour r.minute (r.second * 1_000_000 + r.micros)

time_below : (r : Reading) → IsReading r → time_of r < 86_400_000_000
time_below r h = omega (arith, h.hour_in, h.minute_in, h.second_in, h.micros_in)

flat : (a b k t u : ℕ) → ((pos a -ℤ pos k) *ℤ pos 86_400_000_000) +ℤ pos t ≡ ((pos b -ℤ pos k) *ℤ pos 86_400_000_000) +ℤ pos u → a * 86_400_000_000 + t ≡ b * 86_400_000_000 + u
flat a b k t u e = omega (arith, signed_arith, e)

one_reading : (r s : Reading) → IsReading r → IsReading s → moment_read r ≡ moment_read s → r ≡ s
one_reading r s h k e =
    let a = days_before r.year r.month r.day in
    let b = days_before s.year s.month s.day in
    let parts = split a b (time_of r) (time_of s) (time_below r h) (time_below s k) (flat a b (days_before 2000 1 1) (time_of r) (time_of s) e) in
    let day : day_number r.year r.month r.day ≡ day_number s.year s.month s.day = ap (λ (x : ℕ). pos x -ℤ pos (days_before 2000 1 1)) parts.0 in
    let date = one_date r.year r.month r.day s.year s.month s.day h.day_in k.day_in day in
    let clock = clock_split r.hour r.minute r.second r.micros s.hour s.minute s.second s.micros h.minute_in h.second_in h.micros_in k.minute_in k.second_in k.micros_in parts.1 in
    ap (λ (x : ℕ). made x r.month r.day r.hour r.minute r.second r.micros) date.0
    ∙ ap (λ (x : ℕ). made s.year x r.day r.hour r.minute r.second r.micros) date.1
    ∙ ap (λ (x : ℕ). made s.year s.month x r.hour r.minute r.second r.micros) date.2
    ∙ ap (λ (x : ℕ). made s.year s.month s.day x r.minute r.second r.micros) clock.0
    ∙ ap (λ (x : ℕ). made s.year s.month s.day s.hour x r.second r.micros) clock.1
    ∙ ap (λ (x : ℕ). made s.year s.month s.day s.hour s.minute x r.micros) clock.2
    ∙ ap (λ (x : ℕ). made s.year s.month s.day s.hour s.minute s.second x) clock.3

pub one_text : (v : Value) (a b : Option (List ℕ)) → IsTextOf v a → IsTextOf v b → a ≡ b
one_text value.Null a b p q = p ∙ sym q
one_text (value.Bool t) a b p q = p ∙ sym q
one_text (value.Int4 n) a b p q = p ∙ sym q
one_text (value.Int8 n) a b p q = p ∙ sym q
one_text (value.Text t) a b p q = p ∙ sym q
one_text (value.Moment m) a b p q =
    let r = p.2 in
    let s = q.2 in
    let same : r.0 ≡ s.0 = one_reading r.0 s.0 r.1 s.1 (r.2 ∙ sym s.2) in
    p.1 ∙ ap Some (r.3 ∙ ap printed_text same ∙ sym s.3) ∙ sym q.1
