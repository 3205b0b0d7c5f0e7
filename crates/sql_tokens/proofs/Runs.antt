-- The run of a class at the front of a text and what stands behind it are the text.
use Rattle.std.proofs.Common.{◌≡◌, ◌≤◌, ◌<◌, ◌-◌, ◌+◌, ℕ, Bool, true, false, List, [], ◌∷◌, ◌++◌, length, take, drop, refl, ap, sym, ◌∙◌, if◌then◌else◌, length-append, append_assoc, arith}
use Rattle.std.specs.Prelude.{IsAscii}
use Rattle.std.proofs.lemmas.Bool.Decides.{nat_tests}
use Rattle.std.proofs.lemmas.List.{take_at, drop_at}
use Rattle.std.proofs.lemmas.Str.Ascii.{IsAscii-nil, IsAscii-cons}
use Rattle.std.proofs.Math.Seq.{take-length, take-append_seam, drop-append_seam}
use Rattle.sql_tokens.specs.Bytes.{has, front, behind}
use Rattle.sql_tokens.specs.declared.bytes.Class.{Class}
use Rattle.sql_tokens.specs.declared.bytes.Class.TheVariants.{Name, Strange}

pub run_parts : (c : Class) (bytes : List ℕ) → front c bytes ++ behind c bytes ≡ bytes
run_parts c [] = refl
run_parts c (b ∷ rest) = go (has c b) (run_parts c rest)
  where
    go : (t : Bool) → front c rest ++ behind c rest ≡ rest → (if t then b ∷ front c rest else []) ++ (if t then behind c rest else b ∷ rest) ≡ b ∷ rest
    go true e = ap (λ (xs : List ℕ). b ∷ xs) e
    go false e = refl

parts_length : (c : Class) (bytes : List ℕ) → length (front c bytes) + length (behind c bytes) ≡ length bytes
parts_length c bytes = sym (length-append (front c bytes) (behind c bytes)) ∙ ap length (run_parts c bytes)

pub behind_short : (c : Class) (bytes : List ℕ) → length (behind c bytes) ≤ length bytes
behind_short c bytes = let e = parts_length c bytes in omega arith

pub front_taken : (c : Class) (bytes : List ℕ) → take (length bytes - length (behind c bytes)) bytes ≡ front c bytes
front_taken c bytes =
    let at : length bytes - length (behind c bytes) ≡ length (front c bytes) = (let e = parts_length c bytes in omega arith) in
    ap (λ (n : ℕ). take n bytes) at ∙ (ap (take (length (front c bytes))) (sym (run_parts c bytes)) ∙ take-append_seam (front c bytes) (behind c bytes))

pub behind_dropped : (c : Class) (bytes : List ℕ) → drop (length bytes - length (behind c bytes)) bytes ≡ behind c bytes
behind_dropped c bytes =
    let at : length bytes - length (behind c bytes) ≡ length (front c bytes) = (let e = parts_length c bytes in omega arith) in
    ap (λ (n : ℕ). drop n bytes) at ∙ (ap (drop (length (front c bytes))) (sym (run_parts c bytes)) ∙ drop-append_seam (front c bytes) (behind c bytes))

-- a list without its first, as a slice pattern gives it
pub tail_is : (b : ℕ) (rest : List ℕ) → take (length (b ∷ rest) - 1) (drop 1 (b ∷ rest)) ≡ rest
tail_is b rest =
    let n : length (b ∷ rest) - 1 ≡ length rest = omega arith in
    ap (λ (k : ℕ). take k rest) n ∙ take-length rest

pub front_ascii : (c : Class) → ((b : ℕ) → has c b ≡ true → b < 128) → (bytes : List ℕ) → IsAscii (front c bytes)
front_ascii c low [] = IsAscii-nil
front_ascii c low (b ∷ rest) = go (has c b) refl (front_ascii c low rest)
  where
    go : (t : Bool) → has c b ≡ t → IsAscii (front c rest) → IsAscii (if t then b ∷ front c rest else [])
    go true e all = IsAscii-cons b (front c rest) (low b e) all
    go false e all = IsAscii-nil

pub name_low : (b : ℕ) → has Name b ≡ true → b < 128
name_low b e = grind (arith, nat_tests)

pub strange_low : (b : ℕ) → has Strange b ≡ true → b < 128
strange_low b e = grind (arith, nat_tests)

-- the bytes before the last ones
pub before_last : (before after bytes : List ℕ) → bytes ≡ before ++ after → take (length bytes - length after) bytes ≡ before
before_last before after bytes e =
    let long = ap length e ∙ length-append before after in
    let at : length before ≡ length bytes - length after = omega arith in
    ap (take (length bytes - length after)) e ∙ take_at before after _ at

-- what stands behind a run at the front of them, and the last ones
pub run_dropped : (c : Class) (before after zero : List ℕ) → zero ≡ behind c before
    → drop (length before - length zero) (before ++ after) ≡ behind c before ++ after
run_dropped c before after zero e =
    let long = ap length (run_parts c before) in
    let parts = length-append (front c before) (behind c before) in
    let same = ap length e in
    let at : length (front c before) ≡ length before - length zero = omega arith in
    ap (λ (xs : List ℕ). drop (length before - length zero) (xs ++ after)) (sym (run_parts c before))
    ∙ (ap (drop (length before - length zero)) (append_assoc (front c before) (behind c before) after)
    ∙ drop_at (front c before) (behind c before ++ after) _ at)
