-- The sizes of what moments are made of.
use Rattle.std.proofs.Common.{◌≡◌, ℕ, zero, suc, ◌+◌, ◌-◌, ◌*◌, ◌^◌, ◌<◌, ◌≤◌, sym, ap, ◌∙◌, arith, lit<}
use Rattle.std.proofs.lemmas.Nat.{pow-add}
use Rattle.std.proofs.Math.Nat.{mul-lt-mul_of_pos_right}
use Rattle.std.proofs.Common.{Bool, true, false, ℤ, pos, ◌+ℤ◌, ◌*ℤ◌, subst, IsTrue, ◌↔◌}
use Rattle.pg_values.specs.Calendar.{day_number, IsDay}
use Rattle.pg_values.specs.Range.{IsMoment}
use Rattle.pg_values.specs.Moments.{clock_micros, ClockInRange, FieldsInRange, moment_of}
use Rattle.pg_values.specs.declared.written.Written.{Written}
use Rattle.pg_values.proofs.DigitLemmas.{ten_pos}

-- digits behind a point, as microseconds
pub fraction_below : (n k : ℕ) → k ≤ 6 → n < 10 ^ k → n * 10 ^ (6 - k) < 1_000_000
fraction_below n k h lt =
    let step : n * 10 ^ (6 - k) < 10 ^ k * 10 ^ (6 - k) = mul-lt-mul_of_pos_right lt (ten_pos (6 - k)) in
    let sum : k + (6 - k) ≡ 6 = omega arith in
    let power : 10 ^ k * 10 ^ (6 - k) ≡ 1_000_000 = sym (pow-add 10 k (6 - k)) ∙ ap (λ (i : ℕ). 10 ^ i) sum in
    omega (arith, step, power)

pub small_power : (k : ℕ) → k ≤ 6 → 10 ^ k < 4_294_967_296
small_power zero h = lit< tt
small_power (suc zero) h = lit< tt
small_power (suc (suc zero)) h = lit< tt
small_power (suc (suc (suc zero))) h = lit< tt
small_power (suc (suc (suc (suc zero)))) h = lit< tt
small_power (suc (suc (suc (suc (suc zero))))) h = lit< tt
small_power (suc (suc (suc (suc (suc (suc zero)))))) h = lit< tt
small_power (suc (suc (suc (suc (suc (suc (suc k))))))) h = absurd (omega arith)

meant : (w : Written) (day clock micros : ℤ) → day ≡ day_number w.year w.month w.day → clock ≡ clock_micros w.clock → micros ≡ (day *ℤ pos 86_400_000_000) +ℤ clock → micros ≡ moment_of w
meant w day clock micros d c e = e ∙ ap (λ (z : ℤ). (z *ℤ pos 86_400_000_000) +ℤ clock) d ∙ ap (λ (z : ℤ). (day_number w.year w.month w.day *ℤ pos 86_400_000_000) +ℤ z) c

-- the moment that the fields mean, where they and it are in range
pub is_meant : (w : Written) (day clock micros : ℤ) (is : Bool) → IsDay w.year w.month w.day × (day ≡ day_number w.year w.month w.day) → ClockInRange w.clock × (clock ≡ clock_micros w.clock) → micros ≡ (day *ℤ pos 86_400_000_000) +ℤ clock
    → (IsTrue is ↔ IsMoment micros) → is ≡ true → FieldsInRange w × IsMoment (moment_of w) × (micros ≡ moment_of w)
is_meant w day clock micros is d c e told held =
    let same = meant w day clock micros d.1 c.1 e in
    ((d.0, c.0), subst IsMoment same (told.0 held), same)

pub not_meant : (w : Written) (day clock micros : ℤ) (is : Bool) → (day ≡ day_number w.year w.month w.day) → (clock ≡ clock_micros w.clock) → micros ≡ (day *ℤ pos 86_400_000_000) +ℤ clock
    → (IsTrue is ↔ IsMoment micros) → is ≡ false → FieldsInRange w × IsMoment (moment_of w) → ⊥
not_meant w day clock micros is d c e told failed both =
    let held : is ≡ true = told.1 (subst IsMoment (sym (meant w day clock micros d c e)) both.1) in
    cc
