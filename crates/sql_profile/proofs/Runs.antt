-- What stands behind a token that is written: it ends a run, and it is read as no more of the token.
use Rattle.std.proofs.Common.{◌≡◌, ◌∙◌, ◌==◌, ◌||◌, ◌&&◌, not, ℕ, Bool, true, false, List, [], ◌∷◌, ◌++◌, length, map, refl, sym, ap, subst, inl, inr, ◌+◌, ◌<◌, ◌*◌, ◌-◌, if◌then◌else◌, zero, suc, ◌^◌, lit<, lit≤, arith}
use Rattle.std.specs.List.{list_all, AllByRecursion}
use Rattle.std.specs.Int.Digits.{number_from_digits, number_from_digits_after, AllBelowBase}
use Rattle.std.specs.Char.{is_ascii_digit}
use Rattle.std.specs.Fmt.{decimal}
use Rattle.std.specs.Int.Digits.{digits_of}
use Rattle.std.proofs.lemmas.Fmt.{decimal_digit, decimal-digits_of}
use Rattle.std.proofs.lemmas.Int.Digits.{number_digits_of, all_below_base_digits_of}
use Rattle.std.proofs.lemmas.Bool.{and_parts, and_from, or_cases, eqb-true, ne_eqb, not_from_false, true≢false, agree_below_at}
use Rattle.sql_tokens.specs.declared.bytes.Class.{Class}
use Rattle.sql_tokens.specs.declared.bytes.Class.TheVariants as classes
use Rattle.sql_tokens.specs.declared.bytes.Kind.{Kind}
use Rattle.sql_tokens.specs.declared.bytes.Kind.TheVariants as kinds
use Rattle.sql_tokens.specs.declared.piece.Piece.{Piece}
use Rattle.sql_tokens.specs.declared.piece.Piece.TheVariants.{Token}
use Rattle.sql_tokens.specs.declared.token.Token.TheVariants.{Fault, Param}
use Rattle.sql_tokens.specs.declared.token.TokenFault.TheVariants.{Fraction}
use Rattle.sql_tokens.specs.Bytes.{has, front, behind, begins_with, begins_digit, begins_name, kind_of}
use Rattle.sql_tokens.specs.Pieces.{NumberOf, ParamOf, PieceBy, PieceOf, has_fraction, value_of, value_after, whole_token, param_token}

-- the bytes do not go on with the class
abbrev pub Stops : Class → List ℕ → Type 0
Stops c [] = Unit {0}
Stops c (b ∷ bytes) = has c b ≡ false

pub run_front : (c : Class) (run rest : List ℕ) → list_all (has c) run ≡ true → Stops c rest → front c (run ++ rest) ≡ run
run_front c [] [] all stop = refl
run_front c [] (b ∷ rest) all stop = ap (λ (t : Bool). if t then b ∷ front c rest else []) stop
run_front c (b ∷ run) rest all stop =
    let parts = and_parts (has c b) (list_all (has c) run) all in
    ap (λ (t : Bool). if t then b ∷ front c (run ++ rest) else []) parts.0
    ∙ ap (λ (xs : List ℕ). b ∷ xs) (run_front c run rest parts.1 stop)

pub run_behind : (c : Class) (run rest : List ℕ) → list_all (has c) run ≡ true → Stops c rest → behind c (run ++ rest) ≡ rest
run_behind c [] [] all stop = refl
run_behind c [] (b ∷ rest) all stop = ap (λ (t : Bool). if t then behind c rest else b ∷ rest) stop
run_behind c (b ∷ run) rest all stop =
    let parts = and_parts (has c b) (list_all (has c) run) all in
    ap (λ (t : Bool). if t then behind c (run ++ rest) else b ∷ run ++ rest) parts.0
    ∙ run_behind c run rest parts.1 stop

-- ---- what may stand behind any token: nothing, a space, `)`, `,` or `.`

abbrev pub is_calm : ℕ → Bool
is_calm b = b == 32 || (b == 41 || (b == 44 || b == 46))

abbrev pub IsCalm : List ℕ → Type 0
IsCalm [] = Unit {0}
IsCalm (b ∷ bytes) = is_calm b ≡ true

calm_cases : (P : ℕ → Type 0) → P 32 → P 41 → P 44 → P 46 → (b : ℕ) → is_calm b ≡ true → P b
calm_cases P one two three four b calm =
    elim (or_cases (b == 32) (b == 41 || (b == 44 || b == 46)) calm) [
      | inl e ↦ at 32 e one
      | inr later ↦ elim (or_cases (b == 41) (b == 44 || b == 46) later) [
        | inl e ↦ at 41 e two
        | inr last ↦ elim (or_cases (b == 44) (b == 46) last) [
          | inl e ↦ at 44 e three
          | inr e ↦ at 46 e four
        ]
      ]
    ]
  where
    at : (n : ℕ) → (b == n) ≡ true → P n → P b
    at n e p = subst P (sym (eqb-true b n e)) p

pub calm_name : (rest : List ℕ) → IsCalm rest → Stops classes.Name rest
calm_name [] calm = tt
calm_name (b ∷ rest) calm = calm_cases (λ b. has classes.Name b ≡ false) refl refl refl refl b calm

pub calm_digit : (rest : List ℕ) → IsCalm rest → Stops classes.Digit rest
calm_digit [] calm = tt
calm_digit (b ∷ rest) calm = calm_cases (λ b. has classes.Digit b ≡ false) refl refl refl refl b calm

pub calm_strange : (rest : List ℕ) → IsCalm rest → Stops classes.Strange rest
calm_strange [] calm = tt
calm_strange (b ∷ rest) calm = calm_cases (λ b. has classes.Strange b ≡ false) refl refl refl refl b calm

pub calm_no_digit : (rest : List ℕ) → IsCalm rest → begins_digit rest ≡ false
calm_no_digit [] calm = refl
calm_no_digit (b ∷ rest) calm = calm_cases (λ b. is_ascii_digit b ≡ false) refl refl refl refl b calm

-- no byte that would change the token before it
abbrev pub Ordinary : List ℕ → Type 0
Ordinary rest = (begins_with 34 rest ≡ false) × (begins_with 39 rest ≡ false) × (begins_with 42 rest ≡ false)
    × (begins_with 45 rest ≡ false) × (begins_with 61 rest ≡ false) × (begins_with 62 rest ≡ false)

pub calm_ordinary : (rest : List ℕ) → IsCalm rest → Ordinary rest
calm_ordinary [] calm = (refl, refl, refl, refl, refl, refl)
calm_ordinary (b ∷ rest) calm = (
  calm_cases (λ b. (b == 34) ≡ false) refl refl refl refl b calm,
  calm_cases (λ b. (b == 39) ≡ false) refl refl refl refl b calm,
  calm_cases (λ b. (b == 42) ≡ false) refl refl refl refl b calm,
  calm_cases (λ b. (b == 45) ≡ false) refl refl refl refl b calm,
  calm_cases (λ b. (b == 61) ≡ false) refl refl refl refl b calm,
  calm_cases (λ b. (b == 62) ≡ false) refl refl refl refl b calm,
)

-- without a point there is no fraction
abbrev no_fraction : ℕ → Type 0
no_fraction b = (b == 46) ≡ false → (bytes : List ℕ) → has_fraction (b ∷ bytes) ≡ false

pub calm_whole : (rest : List ℕ) → IsCalm rest → begins_with 46 rest ≡ false → has_fraction rest ≡ false
calm_whole [] calm point = refl
calm_whole (b ∷ rest) calm point =
    calm_cases no_fraction (λ _ _. refl) (λ _ _. refl) (λ _ _. refl) (λ e _. e) b calm point rest

-- the bytes begin with another one than this
abbrev pub begins_other : ℕ → List ℕ → Bool
begins_other q [] = false
begins_other q (b ∷ bytes) = not (b == q)

-- ---- numbers

pub number_of : (run rest : List ℕ) (n : ℕ) → list_all (has classes.Digit) run ≡ true → Stops classes.Digit rest
    → has_fraction rest ≡ false → value_of run ≡ n → NumberOf (run ++ rest) (Token (whole_token n)) rest
number_of run rest n all stop plain value =
    let f = run_front classes.Digit run rest all stop in
    let b = run_behind classes.Digit run rest all stop in (
      ap (λ (k : ℕ). Token (whole_token k)) (sym value)
          ∙ (ap (λ (t : Bool). Token (if t then Fault Fraction else whole_token (value_of run))) (sym plain)
          ∙ (ap (λ (xs : List ℕ). Token (if has_fraction xs then Fault Fraction else whole_token (value_of run))) (sym b)
          ∙ ap (λ (xs : List ℕ). Token (if has_fraction (behind classes.Digit (run ++ rest)) then Fault Fraction else whole_token (value_of xs))) (sym f))),
      sym b,
    )

pub param_of : (run rest : List ℕ) (n : ℕ) → list_all (has classes.Digit) run ≡ true → Stops classes.Digit rest
    → value_of run ≡ n → ParamOf (run ++ rest) (Token (param_token n)) rest
param_of run rest n all stop value =
    let f = run_front classes.Digit run rest all stop in
    let b = run_behind classes.Digit run rest all stop in
    (ap (λ (k : ℕ). Token (param_token k)) (sym (ap value_of f ∙ value)), sym b)

-- the digits that numbers below ten are written as
abbrev pub written : List ℕ → List ℕ
written digits = map (λ d. 48 + d) digits

abbrev is_digit_kind : Kind → Bool
is_digit_kind kinds.Digit = true
is_digit_kind _ = false

kind_told : (k : Kind) → is_digit_kind k ≡ true → k ≡ kinds.Digit
kind_told kinds.Digit e = refl
kind_told _ e = absurd (true≢false (sym e))

digit_kind : (d : ℕ) → d < 10 → kind_of (48 + d) ≡ kinds.Digit
digit_kind d low = kind_told (kind_of (48 + d)) (agree_below_at (λ d. is_digit_kind (kind_of (48 + d))) (λ _. true) 10 d refl low)

digit_has : (d : ℕ) → d < 10 → has classes.Digit (48 + d) ≡ true
digit_has d low = agree_below_at (λ d. has classes.Digit (48 + d)) (λ _. true) 10 d refl low

pub written_digits : (digits : List ℕ) → AllBelowBase 10 digits → list_all (has classes.Digit) (written digits) ≡ true
written_digits [] all = refl
written_digits (d ∷ digits) all =
    and_from (has classes.Digit (48 + d)) (list_all (has classes.Digit) (written digits)) (digit_has d all.0) (written_digits digits all.1)

written_after : (n : ℕ) (digits : List ℕ) → value_after n (written digits) ≡ number_from_digits_after 10 n digits
written_after n [] = refl
written_after n (d ∷ digits) =
    let same : n * 10 + (48 + d - 48) ≡ n * 10 + d = omega arith in
    ap (λ (k : ℕ). value_after k (written digits)) same ∙ written_after (n * 10 + d) digits

pub written_value : (digits : List ℕ) → value_of (written digits) ≡ number_from_digits 10 digits
written_value digits = written_after 0 digits

-- digits are a number, in front of what ends them
pub written_piece : (digits rest : List ℕ) → 0 < length digits → AllBelowBase 10 digits → Stops classes.Digit rest
    → has_fraction rest ≡ false → PieceOf (written digits ++ rest) (Token (whole_token (number_from_digits 10 digits))) rest
written_piece [] rest some all stop plain = absurd (omega arith)
written_piece (d ∷ digits) rest some all stop plain =
    subst (λ (k : Kind). PieceBy k (written (d ∷ digits) ++ rest) (written digits ++ rest) (Token (whole_token (number_from_digits 10 (d ∷ digits)))) rest)
    (sym (digit_kind d all.0))
    (number_of (written (d ∷ digits)) rest (number_from_digits 10 (d ∷ digits)) (written_digits (d ∷ digits) all) stop plain (written_value (d ∷ digits)))

-- a number is written as digits
pub decimal_written : (n : ℕ) → n < 2 ^ 64 → (digits : List ℕ) × (decimal n ≡ written digits) × (0 < length digits) × AllBelowBase 10 digits × (number_from_digits 10 digits ≡ n)
decimal_written zero low = (0 ∷ [], decimal_digit 0 (lit< tt), lit< tt, (lit< tt, tt), refl)
decimal_written (suc n) low =
    let value = number_digits_of 10 (suc n) (lit≤ tt) in (
      digits_of 10 (suc n),
      decimal-digits_of (suc n) (omega arith) low,
      some (digits_of 10 (suc n)) value,
      all_below_base_digits_of 10 (suc n) (lit≤ tt),
      value,
    )
  where
    some : (digits : List ℕ) → number_from_digits 10 digits ≡ suc n → 0 < length digits
    some [] e = absurd (omega arith)
    some (d ∷ digits) e = omega arith

pub whole_piece : (n : ℕ) (rest : List ℕ) → n < 2 ^ 64 → IsCalm rest → begins_with 46 rest ≡ false
    → PieceOf (decimal n ++ rest) (Token (whole_token n)) rest
whole_piece n rest low calm point =
    let x = decimal_written n low in
    let piece = written_piece x.0 rest x.2 x.3 (calm_digit rest calm) (calm_whole rest calm point) in
    subst (λ (k : ℕ). PieceOf (decimal n ++ rest) (Token (whole_token k)) rest) x.4
    (subst (λ (text : List ℕ). PieceOf (text ++ rest) (Token (whole_token (number_from_digits 10 x.0))) rest) (sym x.1) piece)

pub param_piece : (n : ℕ) (rest : List ℕ) → n < 2 ^ 64 → IsCalm rest → PieceOf (36 ∷ (decimal n ++ rest)) (Token (param_token n)) rest
param_piece n rest low calm =
    let x = decimal_written n low in
    subst (λ (text : List ℕ). ParamOf (text ++ rest) (Token (param_token n)) rest) (sym x.1)
    (param_of (written x.0) rest n (written_digits x.0 x.3) (calm_digit rest calm) (written_value x.0 ∙ x.4))

pub decimal_apart : (n : ℕ) → n < 2 ^ 64 → begins_other 45 (decimal n) ≡ true
decimal_apart n low =
    let x = decimal_written n low in
    subst (λ (text : List ℕ). begins_other 45 text ≡ true) (sym x.1) (digits x.0 x.2)
  where
    digits : (ds : List ℕ) → 0 < length ds → begins_other 45 (written ds) ≡ true
    digits [] some = absurd (omega arith)
    digits (d ∷ ds) some = not_from_false (48 + d == 45) (ne_eqb (48 + d) 45 (λ e. absurd (omega arith)))
