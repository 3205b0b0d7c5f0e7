-- A text in quotes has no zero byte, or what is read next begins with one.
use Rattle.std.proofs.Common.{◌≡◌, ◌∙◌, ◌==◌, ◌<◌, ◌-◌, not, ℕ, zero, suc, Bool, true, false, List, [], ◌∷◌, ◌++◌, length, take, map, refl, sym, ap, subst, inl, inr, ◌⊎◌, if◌then◌else◌, append_assoc, arith}
use Rattle.std.specs.Char.{to_ascii_lowercase}
use Rattle.std.proofs.lemmas.Bool.{eqb-true, eqb-false, true≢false}
use Rattle.std.proofs.lemmas.Bool.Decides.{nat_tests}
use Rattle.sql_tokens.specs.declared.bytes.Class.TheVariants.{Name, But}
use Rattle.sql_tokens.specs.Bytes.{has, front, behind}
use Rattle.sql_tokens.specs.Pieces.{doubled, Closes, next}
use Rattle.sql_tokens.proofs.Runs.{before_last}
use Rattle.schema.specs.Allowed.{HasNoZero}

-- the bytes begin with a zero byte
abbrev pub BeginsZero : List ℕ → Type 0
BeginsZero bytes = (rest : List ℕ) × (bytes ≡ 0 ∷ rest)

above : (b : ℕ) → (b == 0) ≡ false → 0 < b
above b e = let apart = eqb-false b 0 e in omega (arith, apart)

no_zero_first : (xs ys : List ℕ) → HasNoZero (xs ++ ys) → HasNoZero xs
no_zero_first [] ys all = tt
no_zero_first (b ∷ xs) ys all = (all.0, no_zero_first xs ys all.1)

no_zero_inside : (q : ℕ) (text : List ℕ) → HasNoZero (doubled q text) → HasNoZero text
no_zero_inside q [] all = tt
no_zero_inside q (b ∷ text) all = go (b == q) refl all (no_zero_inside q text)
  where
    go : (t : Bool) → (b == q) ≡ t → HasNoZero ((if t then q ∷ q ∷ [] else b ∷ []) ++ doubled q text)
        → (HasNoZero (doubled q text) → HasNoZero text) → HasNoZero (b ∷ text)
    go true e all others = (subst (λ (c : ℕ). 0 < c) (sym (eqb-true b q e)) all.0, others all.1.1)
    go false e all others = (all.0, others all.1)

-- bytes have no zero byte, or what stands behind the others begins with it
zero_behind : (bytes : List ℕ) → HasNoZero bytes ⊎ BeginsZero (behind (But 0) bytes)
zero_behind [] = inl tt
zero_behind (b ∷ bytes) = go (b == 0) refl (zero_behind bytes)
  where
    go : (t : Bool) → (b == 0) ≡ t → HasNoZero bytes ⊎ BeginsZero (behind (But 0) bytes)
        → HasNoZero (b ∷ bytes) ⊎ BeginsZero (if not t then behind (But 0) bytes else b ∷ bytes)
    go true e others = inr (bytes, ap (λ (c : ℕ). c ∷ bytes) (eqb-true b 0 e))
    go false e (inl all) = inl (above b e, all)
    go false e (inr begins) = inr begins

pub zero_next : (q : ℕ) (bytes text after : List ℕ) → Closes q bytes text after → HasNoZero text ⊎ BeginsZero (next bytes after)
zero_next q bytes text after closes = go (doubled q text ++ q ∷ []) (no_zero_first (doubled q text) (q ∷ [])) cut
  where
    cut : take (length bytes - length after) bytes ≡ doubled q text ++ q ∷ []
    cut = before_last (doubled q text ++ q ∷ []) after bytes (closes.0 ∙ sym (append_assoc (doubled q text) (q ∷ []) after))

    by : (inner : List ℕ) → (HasNoZero inner → HasNoZero (doubled q text)) → take (length bytes - length after) bytes ≡ inner
        → HasNoZero inner ⊎ BeginsZero (behind (But 0) inner) → HasNoZero text ⊎ BeginsZero (next bytes after)
    by inner front is (inl all) = inl (no_zero_inside q text (front all))
    by inner front is (inr begins) = inr (
      begins.0 ++ after,
      ap (λ (xs : List ℕ). behind (But 0) xs ++ after) is ∙ ap (λ (xs : List ℕ). xs ++ after) begins.1,
    )

    go : (inner : List ℕ) → (HasNoZero inner → HasNoZero (doubled q text)) → take (length bytes - length after) bytes ≡ inner → HasNoZero text ⊎ BeginsZero (next bytes after)
    go inner front is = by inner front is (zero_behind inner)

-- ---- names without quotes

in_name : (b : ℕ) → has Name b ≡ true → 0 < b
in_name zero e = absurd (true≢false (sym e))
in_name (suc b) e = omega arith

lower_case : (b : ℕ) → 0 < b → 0 < to_ascii_lowercase b
lower_case b some = grind (arith, nat_tests)

pub no_zero_name : (bytes : List ℕ) → HasNoZero (map to_ascii_lowercase (front Name bytes))
no_zero_name [] = tt
no_zero_name (b ∷ bytes) = go (has Name b) refl (no_zero_name bytes)
  where
    go : (t : Bool) → has Name b ≡ t → HasNoZero (map to_ascii_lowercase (front Name bytes))
        → HasNoZero (map to_ascii_lowercase (if t then b ∷ front Name bytes else []))
    go true e others = (lower_case b (in_name b e), others)
    go false e others = tt
