-- Numbers and words: what is read is of the grammar, and what is of the grammar is read.
use Rattle.std.proofs.Common.{◌≡◌, ℕ, zero, suc, ◌+◌, ◌-◌, ◌*◌, ◌<◌, ◌≤◌, List, [], ◌∷◌, ◌++◌, length, take, drop, Option, Some, None, Bool, true, false, ◌&&◌, nat_le, bytes_eq, if◌then◌else◌, refl, sym, ap, ap₂, subst, ◌∙◌, arith}
use Rattle.std.specs.List.{AllByRecursion}
use Rattle.std.proofs.Math.Seq.{take-append_seam, drop-append_seam}
use Rattle.std.proofs.lemmas.List.{take-append-drop}
use Rattle.std.proofs.lemmas.Bool.Decides.{nat_tests}
use Rattle.std.proofs.lemmas.Slice.Eq.{bytes_eq-Decides}
use Rattle.std.proofs.lemmas.List.{length-append}
use Rattle.pgproto.proofs.Digits.{digits_took}
use Rattle.pgproto.specs.Words.{is_digit, number_from, IsNumber}
use Rattle.pgproto.specs.Line.{Word, NumberOf}
use Rattle.pgproto.specs.Reading.{◌>>=◌, digits_at, has_digit, number_at, word_at}

abbrev pub Digits : List ℕ → Type 0
Digits ds = AllByRecursion (λ d. is_digit d ≡ true) ds

-- the digits in front, and what is left
pub record Split (n : ℕ) (bytes : List ℕ) (read : ℕ × List ℕ) : Type 0 where
  pub digits : List ℕ
  pub digits_are : Digits digits
  pub parts : bytes ≡ digits ++ read.1
  pub number : number_from n digits ≡ read.0

split_if : (n b : ℕ) (bytes : List ℕ) (t : Bool) → is_digit b ≡ t → Split (n * 10 + (b - 48)) bytes (digits_at (n * 10 + (b - 48)) bytes) → Split n (b ∷ bytes) (if t then digits_at (n * 10 + (b - 48)) bytes else (n, b ∷ bytes))
split_if n b bytes true is s = record { digits = b ∷ s.digits; digits_are = (is, s.digits_are); parts = ap (λ xs. b ∷ xs) s.parts; number = s.number }
split_if n b bytes false is s = record { digits = []; digits_are = tt; parts = refl; number = refl }

pub split_digits : (n : ℕ) (bytes : List ℕ) → Split n bytes (digits_at n bytes)
split_digits n [] = record { digits = []; digits_are = tt; parts = refl; number = refl }
split_digits n (b ∷ bytes) = split_if n b bytes (is_digit b) refl (split_digits (n * 10 + (b - 48)) bytes)

pub over_digits : (n : ℕ) (ds rest : List ℕ) → Digits ds → has_digit rest ≡ false → digits_at n (ds ++ rest) ≡ (number_from n ds, rest)
over_digits n [] [] all stops = refl
over_digits n [] (b ∷ rest) all stops = ap (λ t. if t then digits_at (n * 10 + (b - 48)) rest else (n, b ∷ rest)) stops
over_digits n (d ∷ ds) rest all stops =
    ap (λ t. if t then digits_at (n * 10 + (d - 48)) (ds ++ rest) else (n, d ∷ (ds ++ rest))) all.0 ∙ over_digits (n * 10 + (d - 48)) ds rest all.1 stops

-- a choice that gave a value
pub chosen : {A : Type 0} (t : Bool) (x y : A) → (if t then Some x else None) ≡ Some y → (t ≡ true) × (x ≡ y)
chosen true x y e = (refl, cc)
chosen false x y e = absurd (cc)

pub taken : {A : Type 0} (t : Bool) (x : A) → t ≡ true → (if t then Some x else None) ≡ Some x
taken true x e = refl
taken false x e = absurd (cc)

pub both_true : (a b : Bool) → (a && b) ≡ true → (a ≡ true) × (b ≡ true)
both_true true b e = (refl, e)
both_true false b e = absurd (cc)

and_true : (a b : Bool) → a ≡ true → b ≡ true → (a && b) ≡ true
and_true true b e f = f
and_true false b e f = absurd (cc)

some_digits : (bytes digits rest : List ℕ) → bytes ≡ digits ++ rest → length rest < length bytes → 0 < length digits
some_digits bytes digits rest parts h = omega (arith, ap length parts, length-append {A = ℕ})

pub number_found : (most : ℕ) (bytes : List ℕ) (x : ℕ × List ℕ) → number_at most bytes ≡ Some x → ((x.0 ≤ most) × NumberOf x.0 bytes x.1)
unfolding number_at
number_found most bytes x e =
    let c = chosen (has_digit bytes && nat_le (digits_at 0 bytes).0 most) (digits_at 0 bytes) x e in
    let t = both_true (has_digit bytes) (nat_le (digits_at 0 bytes).0 most) c.0 in
    let s = split_digits 0 bytes in
    let small : (digits_at 0 bytes).0 ≤ most = grind (arith, nat_tests, t.1) in
    subst (λ (y : ℕ × List ℕ). (y.0 ≤ most) × NumberOf y.0 bytes y.1) c.1
    (small, (s.digits, record { some = some_digits bytes s.digits (digits_at 0 bytes).1 s.parts (digits_took bytes t.0); digits_are = s.digits_are; number = s.number }, s.parts))

-- the first of some digits is one
has_digit_of : (ds rest : List ℕ) → 0 < length ds → Digits ds → has_digit (ds ++ rest) ≡ true
has_digit_of [] rest some all = absurd (omega arith)
has_digit_of (d ∷ ds) rest some all = all.0

pub number_again : (most n : ℕ) (bytes rest : List ℕ) → NumberOf n bytes rest → n ≤ most → has_digit rest ≡ false → number_at most bytes ≡ Some (n, rest)
unfolding number_at
number_again most n bytes rest (ds, is, parts) small stops =
    let read : digits_at 0 (ds ++ rest) ≡ (n, rest) = over_digits 0 ds rest is.digits_are stops ∙ ap (λ (k : ℕ). (k, rest)) is.number in
    let fits : nat_le (digits_at 0 (ds ++ rest)).0 most ≡ true = ap (λ (r : ℕ × List ℕ). nat_le r.0 most) read ∙ grind (arith, nat_tests) in
    ap (λ (bs : List ℕ). if has_digit bs && nat_le (digits_at 0 bs).0 most then Some (digits_at 0 bs) else None) parts
    ∙ taken (has_digit (ds ++ rest) && nat_le (digits_at 0 (ds ++ rest)).0 most) (digits_at 0 (ds ++ rest)) (and_true _ _ (has_digit_of ds rest is.some is.digits_are) fits)
    ∙ ap (λ (r : ℕ × List ℕ). Some r) read

same_bytes : (xs ys : List ℕ) → xs ≡ ys → bytes_eq xs ys ≡ true
same_bytes xs ys e = (bytes_eq-Decides xs ys).1 e

pub word_found : (word bytes rest : List ℕ) → word_at word bytes ≡ Some rest → Word word bytes rest
word_found word bytes rest e =
    let c = chosen (bytes_eq (take (length word) bytes) word) (drop (length word) bytes) rest e in
    let front : take (length word) bytes ≡ word = (bytes_eq-Decides (take (length word) bytes) word).0 c.0 in
    sym (take-append-drop (length word) bytes) ∙ ap₂ (λ (a b : List ℕ). a ++ b) front c.1

pub word_again : (word bytes rest : List ℕ) → Word word bytes rest → word_at word bytes ≡ Some rest
word_again word bytes rest e =
    ap (λ (bs : List ℕ). word_at word bs) e
    ∙ taken (bytes_eq (take (length word) (word ++ rest)) word) (drop (length word) (word ++ rest)) (same_bytes _ _ (take-append_seam word rest))
    ∙ ap (λ (bs : List ℕ). Some bs) (drop-append_seam word rest)
