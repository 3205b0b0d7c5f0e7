-- Whether a text is that of a verifier, as a test that a table of parameters can name.
use Rattle.std.specs.Prelude.{◌≡◌, ◌==◌, ◌&&◌, ℕ, Bool, true, false, List, [], ◌∷◌, length, drop, nat_le, nat_lt, bytes_eq, decimal, Option, None, Some, if◌then◌else◌}
use Rattle.std.specs.List.{list_all}
use Rattle.std.specs.Str.Parse.{digits_value}
use Rattle.base64.specs.Engines.{standard}
use Rattle.base64.specs.GeneralPurpose.{decoded_of}
use Rattle.scram.specs.Words.{in_base64}
use Rattle.scram.specs.Verifiers.{verifier_text, IsTextOf}
use Rattle.scram.specs.declared.verifier.Verifier.{Verifier}

-- what stands before the first such byte, and what stands behind it
abbrev pub before : ℕ → List ℕ → List ℕ
before mark [] = []
before mark (b ∷ rest) = if b == mark then [] else b ∷ before mark rest

abbrev pub behind : ℕ → List ℕ → List ℕ
behind mark [] = []
behind mark (b ∷ rest) = if b == mark then rest else behind mark rest

-- the digits of 1 to 100000, with no zero in front: those that the number which they mean has
unfoldable pub is_count : List ℕ → Bool
is_count text = bytes_eq text (decimal (digits_value 10 text)) && (nat_le 1 (digits_value 10 text) && nat_le (digits_value 10 text) 100000)

-- the text is that of the bytes which it decodes to
abbrev pub is_text_of : List ℕ → Option (List ℕ) → Bool
is_text_of text None = false
is_text_of text (Some bytes) = bytes_eq text (in_base64 bytes) && list_all (λ b. nat_lt b 256) bytes

abbrev pub are_32 : Option (List ℕ) → Bool
are_32 None = false
are_32 (Some bytes) = length bytes == 32

unfoldable pub is_base64 : List ℕ → Bool
is_base64 text = is_text_of text (decoded_of standard text)

unfoldable pub is_digest : List ℕ → Bool
is_digest text = is_text_of text (decoded_of standard text) && are_32 (decoded_of standard text)

-- the text is made of these four, and they are what they are to be
abbrev pub are_texts : List ℕ → List ℕ → List ℕ → List ℕ → List ℕ → Bool
are_texts text rounds salt stored server =
    bytes_eq text (verifier_text rounds salt stored server) && (is_count rounds && (is_base64 salt && (is_digest stored && is_digest server)))

abbrev pub with_stored : List ℕ → List ℕ → List ℕ → List ℕ → Bool
with_stored text rounds salt rest = are_texts text rounds salt (before 58 rest) (behind 58 rest)

abbrev pub with_salt : List ℕ → List ℕ → List ℕ → Bool
with_salt text rounds rest = with_stored text rounds (before 36 rest) (behind 36 rest)

abbrev pub with_rounds : List ℕ → List ℕ → Bool
with_rounds text rest = with_salt text (before 58 rest) (behind 58 rest)

-- behind `SCRAM-SHA-256$`, which has 14 bytes, stand the four texts with a mark between each two
unfoldable pub is_verifier : List ℕ → Bool
is_verifier text = with_rounds text (drop 14 text)

-- the text is a verifier's
pub record HasVerifier (text : List ℕ) : Type 0 where
  pub verifier : Verifier
  pub is : IsTextOf text verifier
