-- Counts of rounds: decimal digits that begin with no zero.
use Rattle.std.proofs.Common.{◌≡◌, ℕ, zero, suc, ◌<◌, ◌≤◌, ◌^◌, List, get_or, sym, ap, ◌∙◌, subst, arith, decimal, Result, Ok, Err, IsUtf8, lit<}
use Rattle.std.specs.Str.Parse.{ParsesUnsigned, AllDigits, digits_value}
use Rattle.std.proofs.lemmas.Fmt.{decimal_is_IsNumeral, decimal-digits_value, decimal_digit, first_decimal, IsAscii-decimal, parse-decimal}
use Rattle.std.proofs.lemmas.Str.{IsUtf8-from_ascii}
use Rattle.std.proofs.lemmas.Str.Parse.{IsNumeralModel, numerals_by_value, tells_digits, parse_plain, digit_at}
use Rattle.scram.specs.Words.{BeginsCount, IsRounds}

own : IsNumeralModel (AllDigits 10) (digits_value 10)
own = numerals_by_value (AllDigits 10) tells_digits

-- 0 is written with a zero
positive : (n : ℕ) → 49 ≤ get_or (decimal n) 0 0 → 1 ≤ n
positive zero least =
    let nought = ap (λ (t : List ℕ). get_or t 0 0) (decimal_digit 0 (lit< tt)) in
    absurd (omega (arith, nought, least))
positive (suc n) least = omega arith

-- what is read of digits without a zero in front is written as these digits
pub rounds_told : {E : Type 0} (text digits : List ℕ) (n : ℕ) (r : Result ℕ E) → BeginsCount text → digits ≡ text → ParsesUnsigned 32 10 digits r → r ≡ Ok n
    → (1 ≤ n) × (text ≡ decimal n)
rounds_told {E} text digits n r begins same parses is =
    let least = begins.1 in
    let most = begins.2 in
    let at = subst (λ (t : List ℕ). ParsesUnsigned {E = E} 32 10 t (Ok n)) same (subst (λ (x : Result ℕ E). ParsesUnsigned 32 10 digits x) is parses) in
    let plain = parse_plain own {E = E} 32 text (Ok n) at (λ plus. absurd (omega (arith, plus, most, least))) in
    let written : decimal (digits_value 10 text) ≡ text =
    decimal-digits_value own text plain.0.0 plain.0.1 (λ nought. absurd (omega (arith, nought, least))) (let small = plain.0.2 in omega (arith, small)) in
    let is_written : text ≡ decimal n = sym written ∙ ap decimal (sym plain.1) in
    (positive n (subst (λ (t : List ℕ). 49 ≤ get_or t 0 0) is_written least), is_written)

-- how a count begins
pub rounds_first : (text : List ℕ) (n : ℕ) → IsRounds n → text ≡ decimal n → BeginsCount text
rounds_first text n range is =
    let low : n < 2 ^ 64 = (let most = range.1 in omega (arith, most)) in
    let numeral = decimal_is_IsNumeral n low in
    let first = first_decimal n range.0 low in
    let digit = digit_at (decimal n) 0 numeral.0.1 numeral.0.0 in
    subst BeginsCount (sym is) (numeral.0.0, first, digit.1)

pub rounds_utf8 : (text : List ℕ) (n : ℕ) → IsRounds n → text ≡ decimal n → IsUtf8 text
rounds_utf8 text n range is =
    subst IsUtf8 (sym is) (IsUtf8-from_ascii (decimal n) (IsAscii-decimal n (let most = range.1 in omega (arith, most))))

pub rounds_parsed : {E : Type 0} (text digits : List ℕ) (n : ℕ) (r : Result ℕ E) → IsRounds n → text ≡ decimal n → digits ≡ text → ParsesUnsigned 32 10 digits r → r ≡ Ok n
rounds_parsed text digits n r range is same parses =
    parse-decimal 32 n digits r (let most = range.1 in omega (arith, most)) (let most = range.1 in omega (arith, most)) (same ∙ is) parses

pub same_count : {E : Type 0} (m n : ℕ) (r : Result ℕ E) → r ≡ Ok m → r ≡ Ok n → m ≡ n
same_count m n r a b = let both = sym a ∙ b in cc both

pub no_count : {E : Type 0} (n : ℕ) (e : E) (r : Result ℕ E) → r ≡ Err e → r ≡ Ok n → ⊥
no_count n e r a b = let both = sym a ∙ b in cc both
