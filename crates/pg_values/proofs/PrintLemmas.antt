-- What is printed is plain, and is read again.
use Rattle.std.proofs.Common.{◌≡◌, ◌≢◌, ℕ, ◌<◌, ◌≤◌, ◌^◌, Bool, true, false, cond, eqb, ltb, ◌&&◌, List, [], ◌∷◌, ◌++◌, Option, Some, None, refl, sym, ap, subst, ◌∙◌, inl, inr, arith, append_assoc}
use Rattle.std.specs.Prelude.{codes}
use Rattle.std.specs.Char.{is_ascii_digit}
use Rattle.std.specs.Str.{IsAscii}
use Rattle.std.specs.List.{list_all, AllByRecursion}
use Rattle.std.proofs.lemmas.Bool.{cases_eq}
use Rattle.std.proofs.lemmas.Bool.Decides.{nat_tests}
use Rattle.std.proofs.lemmas.List.Folds.{list_all-append}
use Rattle.std.proofs.lemmas.List.Elements.{All-from_recursion}
use Rattle.std.proofs.lemmas.Str.{IsUtf8-from_ascii}
use Rattle.std.proofs.lemmas.Str.Ascii.{IsAscii-nil, IsAscii-cons}
use Rattle.jiff_core.proofs.SignedLemmas.{signed_arith}
use Rattle.pg_values.specs.declared.written.Sign.TheVariants.{East}
use Rattle.pg_values.specs.declared.written.Zone.TheVariants as zone
use Rattle.pg_values.specs.declared.written.Fraction.{Fraction}
use Rattle.pg_values.specs.declared.written.Separator.TheVariants.{Space}
use Rattle.pg_values.specs.declared.written.Written.{Written}
use Rattle.pg_values.specs.declared.reading.Reading.{Reading}
use Rattle.pg_values.specs.Digits.{are_digits, fixed, shortest}
use Rattle.pg_values.specs.Calendar.{days_in_month}
use Rattle.pg_values.specs.Answers.{IsPlain}
use Rattle.pg_values.specs.Moments.{FractionFits, fraction_text, fraction_micros, micros_text, IsReading, printed_text, moment_read, moment_of, written_text, IsMomentText, FieldsInRange}
use Rattle.pg_values.proofs.DigitLemmas.{both, digits-fixed, is_shortest, IsShortest}

-- ---- plain bytes

abbrev pub is_plain_byte : ℕ → Bool
is_plain_byte b = ltb 0 b && ltb b 128

abbrev pub are_plain : List ℕ → Bool
are_plain text = list_all is_plain_byte text

plain_byte : (b : ℕ) → is_plain_byte b ≡ true → (b ≢ 0) × (b < 128)
plain_byte b e = (grind (arith, nat_tests), grind (arith, nat_tests))

pub ascii_of : (text : List ℕ) → are_plain text ≡ true → IsAscii text
ascii_of [] e = IsAscii-nil
ascii_of (b ∷ text) e = let p = both _ _ e in IsAscii-cons b text (plain_byte b p.0).1 (ascii_of text p.1)

no_zeros : (text : List ℕ) → are_plain text ≡ true → AllByRecursion (λ b. b ≢ 0) text
no_zeros [] e = tt
no_zeros (b ∷ text) e = let p = both _ _ e in ((plain_byte b p.0).0, no_zeros text p.1)

pub plain_of : (text : List ℕ) → are_plain text ≡ true → IsPlain text
plain_of text e = (IsUtf8-from_ascii text (ascii_of text e), All-from_recursion (λ b. b ≢ 0) text (no_zeros text e))

pub plain_append : (a b : List ℕ) → are_plain a ≡ true → are_plain b ≡ true → are_plain (a ++ b) ≡ true
plain_append a b p q = list_all-append is_plain_byte a b ∙ rw p q

digit_is_plain : (b : ℕ) → is_ascii_digit b ≡ true → is_plain_byte b ≡ true
digit_is_plain b e = grind (arith, nat_tests)

pub plain_digits : (ds : List ℕ) → are_digits ds ≡ true → are_plain ds ≡ true
plain_digits [] e = refl
plain_digits (b ∷ ds) e = let p = both _ _ e in rw (digit_is_plain b p.0) (plain_digits ds p.1)

plain_fixed : (k n : ℕ) → n < 10 ^ k → are_plain (fixed k n) ≡ true
plain_fixed k n h = plain_digits (fixed k n) (digits-fixed k n h)

-- ---- fractions

-- microseconds as the fraction that is printed
pub record HasFraction (micros : ℕ) : Type 0 where
  pub fraction : Option Fraction
  pub fits : FractionFits fraction
  pub text : fraction_text fraction ≡ micros_text micros
  pub worth : fraction_micros fraction ≡ micros

not_zero : (n : ℕ) → 0 < n → eqb n 0 ≡ false
not_zero n h = grind (arith, nat_tests)

otherwise : (t : Bool) (x y : List ℕ) → t ≡ false → cond t x y ≡ y
otherwise t x y e = rw e refl

some_fraction : (micros : ℕ) → 0 < micros → IsShortest 6 micros → HasFraction micros
some_fraction micros above s = record {
  fraction = Some (record { digits = s.digits; number = s.number });
  fits = (s.some, s.few, s.fits);
  text = ap (λ (x : List ℕ). 46 ∷ x) (sym s.is) ∙ sym (otherwise (eqb micros 0) [] (46 ∷ shortest 6 micros) (not_zero micros above));
  worth = s.worth;
}

pub has_fraction : (micros : ℕ) → micros < 1_000_000 → HasFraction micros
has_fraction micros h = elim (cases_eq micros 0) [
  | inl e ↦ subst HasFraction (sym e) (record { fraction = None; fits = tt; text = refl; worth = refl })
  | inr ne ↦ some_fraction micros (omega arith) (is_shortest 6 micros (omega arith) h)
]

plain_fraction : (f : Option Fraction) → FractionFits f → are_plain (fraction_text f) ≡ true
plain_fraction None h = refl
plain_fraction (Some f) h = plain_fixed f.digits f.number h.2

pub plain_micros : (micros : ℕ) → micros < 1_000_000 → are_plain (micros_text micros) ≡ true
plain_micros micros h = let f = has_fraction micros h in subst (λ (x : List ℕ). are_plain x ≡ true) f.text (plain_fraction f.fraction f.fits)

month_days : (y m d : ℕ) → d ≤ days_in_month y m → d < 100
month_days y m d le = grind arith

month_below : (r : Reading) → IsReading r → (r.year < 10000) × (r.month < 100) × (r.day < 100)
month_below r h = (omega (arith, h.day_in.year_in), omega (arith, h.day_in.to_december), month_days r.year r.month r.day h.day_in.to_last)

and_is : (a b : Bool) → a ≡ true → b ≡ true → (a && b) ≡ true
and_is a b p q = rw (p, q) refl

plain_field : (mark n : ℕ) (rest : List ℕ) → is_plain_byte mark ≡ true → n < 100 → are_plain rest ≡ true → are_plain (mark ∷ (fixed 2 n ++ rest)) ≡ true
plain_field mark n rest m h r = and_is (is_plain_byte mark) (are_plain (fixed 2 n ++ rest)) m (plain_append (fixed 2 n) rest (plain_fixed 2 n h) r)

pub plain_printed : (r : Reading) → IsReading r → are_plain (printed_text r) ≡ true
plain_printed r h =
    let date = month_below r h in
    let t6 = micros_text r.micros ++ codes "+00" in
    let t5 = 58 ∷ (fixed 2 r.second ++ t6) in
    let t4 = 58 ∷ (fixed 2 r.minute ++ t5) in
    let t3 = 32 ∷ (fixed 2 r.hour ++ t4) in
    let t2 = 45 ∷ (fixed 2 r.day ++ t3) in
    let t1 = 45 ∷ (fixed 2 r.month ++ t2) in
    let p6 : are_plain t6 ≡ true = plain_append (micros_text r.micros) (codes "+00") (plain_micros r.micros h.micros_in) refl in
    let p5 : are_plain t5 ≡ true = plain_field 58 r.second t6 refl (omega (arith, h.second_in)) p6 in
    let p4 : are_plain t4 ≡ true = plain_field 58 r.minute t5 refl (omega (arith, h.minute_in)) p5 in
    let p3 : are_plain t3 ≡ true = plain_field 32 r.hour t4 refl (omega (arith, h.hour_in)) p4 in
    let p2 : are_plain t2 ≡ true = plain_field 45 r.day t3 refl date.2 p3 in
    let p1 : are_plain t1 ≡ true = plain_field 45 r.month t2 refl date.1 p2 in
    plain_append (fixed 4 r.year) t1 (plain_fixed 4 r.year date.0) p1

-- ---- what is printed of a moment is of its grammar, and means the moment

-- the fields that are printed
printed : (r : Reading) → HasFraction r.micros → Written
printed r f = record {
  year = r.year;
  month = r.month;
  day = r.day;
  clock = Some (record {
    separator = Space;
    hour = r.hour;
    minute = r.minute;
    seconds = Some (record { second = r.second; fraction = f.fraction });
    zone = zone.Offset (record { sign = East; hours = 0; minutes = None });
  });
}

pub record IsReadAs (r : Reading) (w : Written) : Type 0 where
  pub text : IsMomentText (printed_text r) w
  pub fields : FieldsInRange w
  pub moment : moment_of w ≡ moment_read r

pub printed_again : (r : Reading) → IsReading r → (w : Written) × IsReadAs r w
unfolding printed
printed_again r h =
    let f = has_fraction r.micros h.micros_in in
    let date = month_below r h in
    let tail : (58 ∷ (fixed 2 r.second ++ fraction_text f.fraction)) ++ codes "+00" ≡ 58 ∷ (fixed 2 r.second ++ (micros_text r.micros ++ codes "+00"))
    = ap (λ (x : List ℕ). 58 ∷ x) (append_assoc (fixed 2 r.second) (fraction_text f.fraction) (codes "+00") ∙ ap (λ (x : List ℕ). fixed 2 r.second ++ (x ++ codes "+00")) f.text) in
    let text : printed_text r ≡ written_text (printed r f)
    = ap (λ (x : List ℕ). fixed 4 r.year ++ (45 ∷ (fixed 2 r.month ++ (45 ∷ (fixed 2 r.day ++ (32 ∷ (fixed 2 r.hour ++ (58 ∷ (fixed 2 r.minute ++ x))))))))) (sym tail) in (
      printed r f,
      record {
        text = (record { year = date.0; month = date.1; day = date.2; clock = (omega (arith, h.hour_in), omega (arith, h.minute_in), (omega (arith, h.second_in), f.fits), (omega arith, tt)) }, text);
        fields = (h.day_in, (h.hour_in, h.minute_in, h.second_in, (omega arith, omega arith)));
        moment = omega (arith, signed_arith, f.worth);
      },
    )

pub ascii_printed : (r : Reading) (bytes : List ℕ) → IsReading r → bytes ≡ printed_text r → IsAscii bytes
ascii_printed r bytes h e = subst IsAscii (sym e) (ascii_of (printed_text r) (plain_printed r h))
