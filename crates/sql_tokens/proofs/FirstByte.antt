-- What the first byte of bytes at the end of a text tells.
use Rattle.std.proofs.Common.{◌≡◌, ◌==◌, ◌<◌, ◌≤◌, ◌-◌, ℕ, Bool, true, false, List, [], ◌∷◌, length, take, drop, slice_index, if◌then◌else◌, refl, sym, subst, lit<, arith}
use Rattle.std.specs.Prelude.{IsUtf8}
use Rattle.std.specs.Char.{is_ascii_digit}
use Rattle.std.proofs.lemmas.Bool.{eqb-true}
use Rattle.sql_tokens.specs.declared.bytes.Kind.{Kind}
use Rattle.sql_tokens.specs.Bytes.{begins_name, is_space, is_strange, kind_of, kind_of_sign, kind_of_mark}
use Rattle.sql_tokens.specs.Calls.{EndsText, IsTextBehind}
use Rattle.sql_tokens.proofs.Runs.{tail_is}
use Rattle.sql_tokens.proofs.Quotes.{text_behind}

module _ (bytes : List ℕ) where
  chosen : (t : Bool) (k l : Kind) → (t ≡ true → IsTextBehind k bytes) → IsTextBehind l bytes → IsTextBehind (if t then k else l) bytes
  chosen true k l x y = x refl
  chosen false k l x y = y

  behind_mark : (b : ℕ) → IsTextBehind (kind_of_mark b) bytes
  behind_mark b =
      chosen (b == 40) _ _ (λ _. tt) (chosen (b == 41) _ _ (λ _. tt) (chosen (b == 44) _ _ (λ _. tt) (chosen (b == 59) _ _ (λ _. tt)
      (chosen (b == 42) _ _ (λ _. tt) (chosen (b == 37) _ _ (λ _. tt) (chosen (b == 43) _ _ (λ _. tt) (chosen (b == 61) _ _ (λ _. tt) tt)))))))

  behind_sign : (b : ℕ) → EndsText (b ∷ bytes) → IsTextBehind (kind_of_sign b) bytes
  behind_sign b x =
      chosen (b == 39) _ _ (λ e. quote 39 e (lit< tt)) (chosen (b == 34) _ _ (λ e. quote 34 e (lit< tt))
      (chosen (b == 36) _ _ (λ _. tt) (chosen (b == 46) _ _ (λ _. tt) (chosen (b == 45) _ _ (λ _. tt) (chosen (b == 47) _ _ (λ _. tt)
      (chosen (b == 60) _ _ (λ _. tt) (chosen (b == 62) _ _ (λ _. tt) (behind_mark b))))))))
    where
      quote : (q : ℕ) → (b == q) ≡ true → q < 128 → IsUtf8 bytes
      quote q e low = let same = eqb-true b q e in text_behind x.0 bytes b (omega arith) x.1

  pub kind_text : (b : ℕ) → EndsText (b ∷ bytes) → IsTextBehind (kind_of b) bytes
  kind_text b x =
      chosen (begins_name b) _ _ (λ _. tt) (chosen (is_space b) _ _ (λ _. tt)
      (chosen (is_ascii_digit b) _ _ (λ _. tt) (chosen (is_strange b) _ _ (λ _. tt) (behind_sign b x))))

pub text_from : (bytes : List ℕ) → 1 ≤ length bytes → EndsText bytes
    → IsTextBehind (kind_of (slice_index bytes 0)) (take (length bytes - 1) (drop 1 bytes))
text_from [] some x = absurd (omega arith)
text_from (b ∷ rest) some x = subst (λ (xs : List ℕ). IsTextBehind (kind_of b) xs) (sym (tail_is b rest)) (kind_text rest b x)
