-- What stands before a byte, and from it on, are the bytes; and the first line with what follows it are the lines.
use Rattle.std.proofs.Common.{◌≡◌, ◌≤◌, ◌<◌, ◌-◌, ◌+◌, ◌==◌, ℕ, Bool, true, false, List, [], ◌∷◌, ◌++◌, Option, Some, None, length, take, drop, refl, ap, sym, ◌∙◌, if◌then◌else◌, length-append, arith}
use Rattle.std.proofs.Math.Seq.{take-length, take-append_seam, drop-append_seam}
use Rattle.pool_config.specs.Bytes.{lines, onto}
use Rattle.serve_base.specs.Reader.{cut_at, fault_behind, from_byte, front, lines_behind}

pub parts : (b : ℕ) (bytes : List ℕ) → front b bytes ++ from_byte b bytes ≡ bytes
parts b [] = refl
parts b (x ∷ rest) = go (x == b) (parts b rest)
  where
    go : (t : Bool) → front b rest ++ from_byte b rest ≡ rest → (if t then [] else x ∷ front b rest) ++ (if t then x ∷ rest else from_byte b rest) ≡ x ∷ rest
    go true e = refl
    go false e = ap (λ (xs : List ℕ). x ∷ xs) e

parts_length : (b : ℕ) (bytes : List ℕ) → length (front b bytes) + length (from_byte b bytes) ≡ length bytes
parts_length b bytes = sym (length-append (front b bytes) (from_byte b bytes)) ∙ ap length (parts b bytes)

pub from_short : (b : ℕ) (bytes : List ℕ) → length (from_byte b bytes) ≤ length bytes
from_short b bytes = let e = parts_length b bytes in omega arith

pub front_taken : (b : ℕ) (bytes : List ℕ) → take (length bytes - length (from_byte b bytes)) bytes ≡ front b bytes
front_taken b bytes =
    let at : length bytes - length (from_byte b bytes) ≡ length (front b bytes) = (let e = parts_length b bytes in omega arith) in
    ap (λ (n : ℕ). take n bytes) at ∙ (ap (take (length (front b bytes))) (sym (parts b bytes)) ∙ take-append_seam (front b bytes) (from_byte b bytes))

pub from_dropped : (b : ℕ) (bytes : List ℕ) → drop (length bytes - length (from_byte b bytes)) bytes ≡ from_byte b bytes
from_dropped b bytes =
    let at : length bytes - length (from_byte b bytes) ≡ length (front b bytes) = (let e = parts_length b bytes in omega arith) in
    ap (λ (n : ℕ). drop n bytes) at ∙ (ap (drop (length (front b bytes))) (sym (parts b bytes)) ∙ drop-append_seam (front b bytes) (from_byte b bytes))

-- what follows the first of some bytes, if there is one
abbrev pub after_first : List ℕ → Option (List ℕ)
after_first [] = None
after_first (b ∷ rest) = Some rest

pub lines_cut : (bytes : List ℕ) → lines bytes ≡ front 10 bytes ∷ lines_behind (after_first (from_byte 10 bytes))
lines_cut [] = refl
lines_cut (b ∷ rest) = go (b == 10) (lines_cut rest)
  where
    go : (t : Bool) → lines rest ≡ front 10 rest ∷ lines_behind (after_first (from_byte 10 rest)) → (if t then [] ∷ lines rest else onto b (lines rest)) ≡ (if t then [] else b ∷ front 10 rest) ∷ lines_behind (after_first (if t then b ∷ rest else from_byte 10 rest))
    go true e = refl
    go false e = ap (onto b) e

pub cut_last : (bytes line rest : List ℕ) → line ≡ front 10 bytes → rest ≡ from_byte 10 bytes → length rest ≡ 0 → lines bytes ≡ line ∷ []
cut_last bytes line [] e f none =
    lines_cut bytes ∙ (ap (λ (r : List ℕ). front 10 bytes ∷ lines_behind (after_first r)) (sym f) ∙ ap (λ (l : List ℕ). l ∷ []) (sym e))
cut_last bytes line (b ∷ rest) e f none = absurd (omega arith)

-- a list without its first, as a slice pattern gives it
pub tail_is : (b : ℕ) (rest : List ℕ) → take (length (b ∷ rest) - 1) (drop 1 (b ∷ rest)) ≡ rest
tail_is b rest =
    let n : length (b ∷ rest) - 1 ≡ length rest = omega arith in
    ap (λ (k : ℕ). take k rest) n ∙ take-length rest

pub cut_first : (bytes line rest : List ℕ) → line ≡ front 10 bytes → rest ≡ from_byte 10 bytes → 1 ≤ length rest
    → lines bytes ≡ line ∷ lines (take (length rest - 1) (drop 1 rest))
cut_first bytes line [] e f some = absurd (omega arith)
cut_first bytes line (b ∷ rest) e f some =
    lines_cut bytes ∙ (ap (λ (r : List ℕ). front 10 bytes ∷ lines_behind (after_first r)) (sym f)
    ∙ (ap (λ (l : List ℕ). l ∷ lines rest) (sym e) ∙ ap (λ (r : List ℕ). line ∷ lines r) (sym (tail_is b rest))))

pub next_shorter : (bytes rest : List ℕ) → rest ≡ from_byte 10 bytes → 1 ≤ length rest
    → length (take (length rest - 1) (drop 1 rest)) < length bytes
next_shorter bytes [] f some = absurd (omega arith)
next_shorter bytes (b ∷ rest) f some =
    let short = from_short 10 bytes in
    let same = ap length f in
    let tail = ap length (tail_is b rest) in omega arith

pub tail_length : (xs : List ℕ) → 1 ≤ length xs → length (take (length xs - 1) (drop 1 xs)) + 1 ≡ length xs
tail_length [] h = absurd (omega arith)
tail_length (b ∷ rest) h = let e = ap length (tail_is b rest) in omega arith

-- something stands behind the line feed of the last line
pub more_behind : (n : ℕ) (bytes : List ℕ) → 1 ≤ length bytes → fault_behind n (lines bytes) ≡ Some (n + 3)
more_behind n [] h = absurd (omega arith)
more_behind n (b ∷ rest) h = go (b == 10) (lines rest) (lines_cut rest)
  where
    go : (t : Bool) (ls : List (List ℕ)) → ls ≡ front 10 rest ∷ lines_behind (after_first (from_byte 10 rest)) → fault_behind n (if t then [] ∷ ls else onto b ls) ≡ Some (n + 3)
    go true [] e = absurd (cc)
    go true (l ∷ ls) e = refl
    go false [] e = absurd (cc)
    go false (l ∷ ls) e = refl
