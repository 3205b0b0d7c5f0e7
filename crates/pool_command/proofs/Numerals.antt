-- A numeral of few digits is read as its number.
use Rattle.std.proofs.Common.{◌≡◌, ◌<◌, ◌≤◌, ◌&&◌, ◌^◌, ℕ, Bool, true, false, List, Some, None, Result, Ok, Err, refl, ap, sym, ◌∙◌, subst, length, nat_lt, nat_le, if◌then◌else◌, arith}
use Rattle.std.proofs.lemmas.Bool.Decides.{nat_tests}
use Rattle.std.specs.Result.{OkIff, result_ok}
use Rattle.std.specs.Str.{all_ascii_digits}
use Rattle.std.specs.Str.Parse.{digits_value, ParsesUnsigned}
use Rattle.std.proofs.lemmas.Str.Parse.{IsNumeralModel, numerals_by_value, tells_all_ascii_digits, parse_digits, digits_value_short}
use Rattle.pool_command.specs.Command.{is_numeral, number_of, size_of}

own : IsNumeralModel (λ ds. all_ascii_digits ds ≡ true) (digits_value 10)
own = numerals_by_value _ tells_all_ascii_digits

both : (a b : Bool) → (a && b) ≡ true → (a ≡ true) × (b ≡ true)
both true b e = (refl, e)
both false b e = absurd (cc)

-- what a numeral has
numeral_parts : (most : ℕ) (word : List ℕ) → is_numeral most word ≡ true → (0 < length word) × (length word ≤ most) × (all_ascii_digits word ≡ true)
numeral_parts most word h =
    let first = both (nat_lt 0 (length word)) (nat_le (length word) most && all_ascii_digits word) h in
    let second = both (nat_le (length word) most) (all_ascii_digits word) first.1 in
    let some : nat_lt 0 (length word) ≡ true = first.0 in
    let few : nat_le (length word) most ≡ true = second.0 in
    (grind (arith, nat_tests), grind (arith, nat_tests), second.1)

pub number_given : {E : Type 0} (word : List ℕ) (r : Result ℕ E) → ParsesUnsigned 32 10 word r → is_numeral 10 word ≡ true → result_ok r ≡ number_of word
number_given {E} word r h numeral =
    let parts = numeral_parts 10 word numeral in
    go r (parse_digits own 32 word r h parts.2) parts.0
  where
    go : (r : Result ℕ E) → OkIff r ((0 < length word) × (digits_value 10 word < 2 ^ 32)) (digits_value 10 word) → 0 < length word → result_ok r ≡ number_of word
    go (Ok x) k some =
        let small : digits_value 10 word < 4294967296 = k.0.1 in
        let test : nat_lt (digits_value 10 word) 4294967296 ≡ true = grind (arith, nat_tests) in
        ap (λ (n : ℕ). Some n) k.1 ∙ sym (ap (λ (t : Bool). if t && nat_lt (digits_value 10 word) 4294967296 then Some (digits_value 10 word) else None) numeral
        ∙ ap (λ (t : Bool). if t then Some (digits_value 10 word) else None) test)
    go (Err e) k some =
        let test : nat_lt (digits_value 10 word) 4294967296 ≡ false = not_small (nat_lt (digits_value 10 word) 4294967296) refl (λ l. k (some, l)) in
        sym (ap (λ (t : Bool). if t && nat_lt (digits_value 10 word) 4294967296 then Some (digits_value 10 word) else None) numeral
        ∙ ap (λ (t : Bool). if t then Some (digits_value 10 word) else None) test)
      where
        not_small : (t : Bool) → nat_lt (digits_value 10 word) 4294967296 ≡ t → ¬ (digits_value 10 word < 4294967296) → t ≡ false
        not_small true e n = absurd (n (grind (arith, nat_tests)))
        not_small false e n = refl

-- a numeral of five digits is no error
pub size_read : {E : Type 0} (word : List ℕ) (r : Result ℕ E) (e : E) → r ≡ Err e → ParsesUnsigned 32 10 word r → is_numeral 5 word ≡ true → None ≡ size_of word
size_read {E} word r e is given numeral =
    let h = subst (λ (x : Result ℕ E). ParsesUnsigned 32 10 word x) is given in
    let parts = numeral_parts 5 word numeral in
    let short : digits_value 10 word < 10 ^ 5 = digits_value_short own word 5 parts.2 parts.1 in
    let none = parse_digits own 32 word (Err e) h parts.2 in
    absurd (none (parts.0, omega arith))
