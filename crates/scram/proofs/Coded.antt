-- Bytes in base64, counts, names and nonces: which marks they lack, and that they are told apart.
use Rattle.std.proofs.Common.{true, not, ◌==◌, true≢false, eq-eqb, ◌≡◌, ◌≢◌, ℕ, ◌+◌, ◌*◌, ◌/◌, ◌%◌, ◌<◌, ◌^◌, List, [], ◌∷◌, slice_index, refl, sym, ap, ◌∙◌, arith, decimal, Ok}
use Rattle.std.specs.List.{list_all}
use Rattle.std.specs.Str.Parse.{AllDigits}
use Rattle.std.proofs.lemmas.Bool.{and_parts}
use Rattle.std.proofs.lemmas.Fmt.{decimal_is_IsNumeral}
use Rattle.std.proofs.lemmas.Str.Parse.{numerals_by_value, tells_digits, not_in_digits}
use Rattle.base64.specs.Rfc4648.{encode_symbols, encode_group}
use Rattle.base64.specs.Engines.{standard}
use Rattle.base64.specs.GeneralPurpose.{decode_of, engine_symbols, IsBytes}
use Rattle.base64.proofs.EngineFacts.{decode_of-encode_of}
use Rattle.scram.specs.Words.{IsPrintable, IsNonce, AreNameBytes, IsName, Lacks, in_base64}
use Rattle.scram.proofs.Marks.{lacks_append, lacks_replicate, lacks_from_reads, lacks_at, lacks_from_all}

-- ---- base64

abbrev table : List ℕ
table = engine_symbols standard

symbols_lack : (mark : ℕ) (t m : List ℕ) → ((i : ℕ) → slice_index t i ≢ mark) → Lacks mark (encode_symbols t m)
unfolding encode_symbols
symbols_lack mark t [] h = tt
symbols_lack mark t (a ∷ []) h = (h (a / 4), (h (a % 4 * 16), tt))
symbols_lack mark t (a ∷ b ∷ []) h = (h (a / 4), (h (a % 4 * 16 + b / 16), (h (b % 16 * 4), tt)))
symbols_lack mark t (a ∷ b ∷ c ∷ rest) h =
    lacks_append mark (encode_group t a b c) (encode_symbols t rest)
    (h (a / 4), (h (a % 4 * 16 + b / 16), (h (b % 16 * 4 + c / 64), (h (c % 64), tt))))
    (symbols_lack mark t rest h)

base64_lacks : (mark : ℕ) (bytes : List ℕ) → ((i : ℕ) → slice_index table i ≢ mark) → 61 ≢ mark → Lacks mark (in_base64 bytes)
unfolding in_base64
base64_lacks mark bytes h other =
    lacks_append mark (encode_symbols table bytes) _ (symbols_lack mark table bytes h) (lacks_replicate mark _ 61 other)

-- a test of a table
other_byte : (mark b : ℕ) → not (b == mark) ≡ true → b ≢ mark
other_byte mark b test e =
    let same : (b == mark) ≡ true = eq-eqb b mark e in
    true≢false (sym test ∙ ap not same)

lacks_by_test : (mark : ℕ) (xs : List ℕ) → list_all (λ b. not (b == mark)) xs ≡ true → Lacks mark xs
lacks_by_test mark [] test = tt
lacks_by_test mark (x ∷ xs) test =
    let parts = and_parts (not (x == mark)) (list_all (λ b. not (b == mark)) xs) test in
    (other_byte mark x parts.0, lacks_by_test mark xs parts.1)

pub base64_no_comma : (bytes : List ℕ) → Lacks 44 (in_base64 bytes)
base64_no_comma bytes =
    base64_lacks 44 bytes (lacks_at 44 table (lacks_by_test 44 table refl) (λ e. absurd (omega (arith, e)))) (λ e. absurd (omega (arith, e)))

pub base64_no_colon : (bytes : List ℕ) → Lacks 58 (in_base64 bytes)
base64_no_colon bytes =
    base64_lacks 58 bytes (lacks_at 58 table (lacks_by_test 58 table refl) (λ e. absurd (omega (arith, e)))) (λ e. absurd (omega (arith, e)))

pub base64_no_dollar : (bytes : List ℕ) → Lacks 36 (in_base64 bytes)
base64_no_dollar bytes =
    base64_lacks 36 bytes (lacks_at 36 table (lacks_by_test 36 table refl) (λ e. absurd (omega (arith, e)))) (λ e. absurd (omega (arith, e)))

-- what is coded alike is alike
pub base64_injective : (xs ys : List ℕ) → IsBytes xs → IsBytes ys → in_base64 xs ≡ in_base64 ys → xs ≡ ys
unfolding in_base64
base64_injective xs ys x y e =
    let one : decode_of standard (in_base64 xs) ≡ Ok xs = decode_of-encode_of standard xs refl x in
    let two : decode_of standard (in_base64 ys) ≡ Ok ys = decode_of-encode_of standard ys refl y in
    let both : decode_of standard (in_base64 xs) ≡ decode_of standard (in_base64 ys) = ap (λ (s : List ℕ). decode_of standard s) e in
    let same : Ok xs ≡ Ok ys = sym one ∙ (both ∙ two) in
    cc same

-- ---- counts

pub decimal_no_colon : (n : ℕ) → n < 2 ^ 64 → Lacks 58 (decimal n)
decimal_no_colon n low =
    let numeral = decimal_is_IsNumeral n low in
    lacks_from_reads 58 (decimal n)
    (not_in_digits (numerals_by_value (AllDigits 10) tells_digits) (decimal n) 58 numeral.0.1 (λ range. absurd (omega (arith, range))))

-- ---- nonces and names

pub nonce_no_comma : (nonce : List ℕ) → IsNonce nonce → Lacks 44 nonce
nonce_no_comma nonce is = lacks_from_all 44 IsPrintable nonce (λ b printable. printable.2) is.1

name_bytes_no_comma : (name : List ℕ) → AreNameBytes name → Lacks 44 name
name_bytes_no_comma [] is = tt
name_bytes_no_comma (b ∷ rest) is = (is.0.1, name_bytes_no_comma rest is.1)

pub name_no_comma : (name : List ℕ) → IsName name → Lacks 44 name
name_no_comma name is = name_bytes_no_comma name is.1
