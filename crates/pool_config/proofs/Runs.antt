-- The run of a class at the front of a text and what stands behind it are the text.
use Rattle.std.proofs.Common.{◌≡◌, ◌≤◌, ◌<◌, ◌-◌, ◌+◌, ◌==◌, ℕ, Bool, true, false, not, List, [], ◌∷◌, ◌++◌, Option, Some, None, length, take, drop, refl, ap, sym, ◌∙◌, if◌then◌else◌, length-append, arith}
use Rattle.std.proofs.Math.Seq.{take-length, take-append_seam, drop-append_seam}
use Rattle.pool_config.specs.Bytes.{has, AllOf, front, behind, lines, lines_behind, onto}
use Rattle.pool_config.specs.declared.line.Class.{Class}
use Rattle.pool_config.specs.declared.line.Class.TheVariants.{InLine}

pub run_parts : (c : Class) (bytes : List ℕ) → front c bytes ++ behind c bytes ≡ bytes
run_parts c [] = refl
run_parts c (b ∷ rest) = go (has c b) (run_parts c rest)
  where
    go : (t : Bool) → front c rest ++ behind c rest ≡ rest → (if t then b ∷ front c rest else []) ++ (if t then behind c rest else b ∷ rest) ≡ b ∷ rest
    go true e = ap (λ (xs : List ℕ). b ∷ xs) e
    go false e = refl

pub run_all : (c : Class) (bytes : List ℕ) → AllOf c (front c bytes)
run_all c [] = tt
run_all c (b ∷ rest) = go (has c b) refl (run_all c rest)
  where
    go : (t : Bool) → has c b ≡ t → AllOf c (front c rest) → AllOf c (if t then b ∷ front c rest else [])
    go true e all = (e, all)
    go false e all = tt

parts_length : (c : Class) (bytes : List ℕ) → length (front c bytes) + length (behind c bytes) ≡ length bytes
parts_length c bytes = sym (length-append (front c bytes) (behind c bytes)) ∙ ap length (run_parts c bytes)

pub behind_short : (c : Class) (bytes : List ℕ) → length (behind c bytes) ≤ length bytes
behind_short c bytes = let e = parts_length c bytes in omega arith

pub front_taken : (c : Class) (bytes : List ℕ) → take (length bytes - length (behind c bytes)) bytes ≡ front c bytes
front_taken c bytes =
    let at : length bytes - length (behind c bytes) ≡ length (front c bytes) = (let e = parts_length c bytes in omega arith) in
    ap (λ (n : ℕ). take n bytes) at ∙ (ap (take (length (front c bytes))) (sym (run_parts c bytes)) ∙ take-append_seam (front c bytes) (behind c bytes))

pub behind_dropped : (c : Class) (bytes : List ℕ) → drop (length bytes - length (behind c bytes)) bytes ≡ behind c bytes
behind_dropped c bytes =
    let at : length bytes - length (behind c bytes) ≡ length (front c bytes) = (let e = parts_length c bytes in omega arith) in
    ap (λ (n : ℕ). drop n bytes) at ∙ (ap (drop (length (front c bytes))) (sym (run_parts c bytes)) ∙ drop-append_seam (front c bytes) (behind c bytes))

-- what follows the first of some bytes, if there is one
abbrev pub after_first : List ℕ → Option (List ℕ)
after_first [] = None
after_first (b ∷ rest) = Some rest

pub lines_cut : (bytes : List ℕ) → lines bytes ≡ front InLine bytes ∷ lines_behind (after_first (behind InLine bytes))
lines_cut [] = refl
lines_cut (b ∷ rest) = go (b == 10) (lines_cut rest)
  where
    go : (t : Bool) → lines rest ≡ front InLine rest ∷ lines_behind (after_first (behind InLine rest)) → (if t then [] ∷ lines rest else onto b (lines rest)) ≡ (if not t then b ∷ front InLine rest else []) ∷ lines_behind (after_first (if not t then behind InLine rest else b ∷ rest))
    go true e = refl
    go false e = ap (onto b) e

pub cut_last : (bytes line rest : List ℕ) → line ≡ front InLine bytes → rest ≡ behind InLine bytes → length rest ≡ 0 → lines bytes ≡ line ∷ []
cut_last bytes line [] e f none =
    lines_cut bytes ∙ (ap (λ (r : List ℕ). front InLine bytes ∷ lines_behind (after_first r)) (sym f) ∙ ap (λ (l : List ℕ). l ∷ []) (sym e))
cut_last bytes line (b ∷ rest) e f none = absurd (omega arith)

-- a list without its first, as a slice pattern gives it
pub tail_is : (b : ℕ) (rest : List ℕ) → take (length (b ∷ rest) - 1) (drop 1 (b ∷ rest)) ≡ rest
tail_is b rest =
    let n : length (b ∷ rest) - 1 ≡ length rest = omega arith in
    ap (λ (k : ℕ). take k rest) n ∙ take-length rest

pub cut_first : (bytes line rest : List ℕ) → line ≡ front InLine bytes → rest ≡ behind InLine bytes → 1 ≤ length rest
    → lines bytes ≡ line ∷ lines (take (length rest - 1) (drop 1 rest))
cut_first bytes line [] e f some = absurd (omega arith)
cut_first bytes line (b ∷ rest) e f some =
    lines_cut bytes ∙ (ap (λ (r : List ℕ). front InLine bytes ∷ lines_behind (after_first r)) (sym f)
    ∙ (ap (λ (l : List ℕ). l ∷ lines rest) (sym e) ∙ ap (λ (r : List ℕ). line ∷ lines r) (sym (tail_is b rest))))

pub next_shorter : (bytes rest : List ℕ) → rest ≡ behind InLine bytes → 1 ≤ length rest
    → length (take (length rest - 1) (drop 1 rest)) < length bytes
next_shorter bytes [] f some = absurd (omega arith)
next_shorter bytes (b ∷ rest) f some =
    let short = behind_short InLine bytes in
    let same = ap length f in
    let tail = ap length (tail_is b rest) in omega arith

pub tail_length : (xs : List ℕ) → 1 ≤ length xs → length (take (length xs - 1) (drop 1 xs)) + 1 ≡ length xs
tail_length [] h = absurd (omega arith)
tail_length (b ∷ rest) h = let e = ap length (tail_is b rest) in omega arith
