-- The number of digits, kept below a bound while it is read.
use Rattle.std.proofs.Common.{◌≡◌, ◌∙◌, ◌+◌, ◌-◌, ◌*◌, ◌≤◌, ◌<◌, ℕ, min, Bool, true, false, List, [], ◌∷◌, length, take, drop, slice_index, ap, sym, refl, arith, if◌then◌else◌}
use Rattle.std.specs.Char.{is_ascii_digit}
use Rattle.sql_tokens.specs.declared.bytes.Class.TheVariants.{Digit}
use Rattle.sql_tokens.specs.Bytes.{front}
use Rattle.sql_tokens.specs.Pieces.{value_after}
use Rattle.sql_tokens.proofs.Runs.{tail_is}

pub bounded : (m : ℕ) (digits : List ℕ) (v : ℕ) → min (value_after (min v m) digits) m ≡ min (value_after v digits) m
bounded m [] v = omega arith
bounded m (d ∷ digits) v =
    let below : min (min v m * 10 + (d - 48)) m ≡ min (v * 10 + (d - 48)) m = omega arith in
    sym (bounded m digits (min v m * 10 + (d - 48)))
    ∙ (ap (λ (n : ℕ). min (value_after n digits) m) below ∙ bounded m digits (v * 10 + (d - 48)))

pub one_more : (m v w : ℕ) (left : List ℕ) → 1 ≤ length left → is_ascii_digit (slice_index left 0) ≡ true
    → w ≡ min (v * 10 + (slice_index left 0 - 48)) m
    → min (value_after w (front Digit (take (length left - 1) (drop 1 left)))) m ≡ min (value_after v (front Digit left)) m
one_more m v w [] some is e = absurd (omega arith)
one_more m v w (d ∷ rest) some is e =
    ap (λ (xs : List ℕ). min (value_after w (front Digit xs)) m) (tail_is d rest)
    ∙ (ap (λ (n : ℕ). min (value_after n (front Digit rest)) m) e
    ∙ (bounded m (front Digit rest) (v * 10 + (d - 48))
    ∙ ap (λ (t : Bool). min (value_after v (if t then d ∷ front Digit rest else [])) m) (sym is)))

pub no_more : (m v total : ℕ) (left : List ℕ) → front Digit left ≡ [] → v ≤ m
    → min (value_after v (front Digit left)) m ≡ total → v ≡ total
no_more m v total left none small same =
    let here : min (value_after v (front Digit left)) m ≡ min v m = ap (λ (digits : List ℕ). min (value_after v digits) m) none in
    let whole : min v m ≡ v = omega arith in
    sym whole ∙ (sym here ∙ same)

pub stops : (left : List ℕ) → 1 ≤ length left → is_ascii_digit (slice_index left 0) ≡ false → front Digit left ≡ []
stops [] some is = absurd (omega arith)
stops (b ∷ rest) some is = ap (λ (t : Bool). if t then b ∷ front Digit rest else []) is

pub ends : (left : List ℕ) → length left < 1 → front Digit left ≡ []
ends [] short = refl
ends (b ∷ rest) short = absurd (omega arith)
