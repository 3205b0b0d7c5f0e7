-- The text of a file's bytes.
use Rattle.std.proofs.Common.{◌≡◌, ℕ, zero, suc, ◌<◌, ◌+◌, nat_lt, Bool as Truth, true, false, if◌then◌else◌, List, [], ◌∷◌, ◌++◌, length, take, drop, map, refl, sym, ap, ◌∙◌, arith, length-append}
use Rattle.std.specs.Str.{IsUtf8, IsAscii}
use Rattle.std.proofs.lemmas.Bool.{ltb-true}
use Rattle.std.proofs.lemmas.List.{append-nil, length-map, take-append-drop}
use Rattle.std.proofs.Math.Seq.{take-length, drop-length}
use Rattle.std.proofs.lemmas.Str.{IsUtf8-append, IsUtf8-from_ascii, utf8_valid_len-IsUtf8}
use Rattle.schema.specs.Reading.{plain_byte, as_text}

plain_below : (b : ℕ) → plain_byte b < 128
plain_below b = by (nat_lt b 128) refl where
  by : (t : Truth) → nat_lt b 128 ≡ t → (if t then b else 0) < 128
  by true e = ltb-true b 128 e
  by false e = omega arith

ascii : (xs : List ℕ) → IsAscii (map plain_byte xs)
ascii [] i = omega arith
ascii (x ∷ xs) zero = plain_below x
ascii (x ∷ xs) (suc i) = ascii xs i

-- the front and what stands for the rest are a text
pub is_text : (front rest : List ℕ) → IsUtf8 front → IsUtf8 (front ++ map plain_byte rest)
is_text front rest u = IsUtf8-append front (map plain_byte rest) u (IsUtf8-from_ascii (map plain_byte rest) (ascii rest))

pub whole : (bytes : List ℕ) → IsUtf8 bytes → as_text bytes ≡ bytes
whole bytes u =
    ap (λ (n : ℕ). take n bytes ++ map plain_byte (drop n bytes)) (utf8_valid_len-IsUtf8 bytes u)
    ∙ ap (λ (x : List ℕ). x ++ map plain_byte (drop (length bytes) bytes)) (take-length bytes)
    ∙ ap (λ (x : List ℕ). bytes ++ map plain_byte x) (drop-length bytes)
    ∙ append-nil bytes

pub same_length : (n : ℕ) (bytes : List ℕ) → length (take n bytes ++ map plain_byte (drop n bytes)) ≡ length bytes
same_length n bytes =
    length-append (take n bytes) (map plain_byte (drop n bytes))
    ∙ ap (λ (k : ℕ). length (take n bytes) + k) (length-map (drop n bytes) plain_byte)
    ∙ sym (length-append (take n bytes) (drop n bytes))
    ∙ ap length (take-append-drop n bytes)
