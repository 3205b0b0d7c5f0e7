-- The test of a verifier's text tells the texts that a verifier has.
use Rattle.std.proofs.Common.{◌≡◌, ◌==◌, ◌&&◌, ◌<◌, ◌≤◌, ◌^◌, ◌↔◌, ℕ, zero, suc, Bool, true, false, List, [], ◌∷◌, ◌++◌, length, drop, nat_le, nat_lt, bytes_eq, decimal, codes, refl, sym, ap, ap₂, ◌∙◌, subst, arith, Option, None, Some, Result, Ok, Err, if◌then◌else◌, is_some}
use Rattle.std.specs.List.{list_all}
use Rattle.std.proofs.lemmas.Bool.Decides.{nat_tests}
use Rattle.std.proofs.lemmas.Slice.Eq.{bytes_eq-Decides}
use Rattle.std.proofs.lemmas.Fmt.{decimal_is_IsNumeral}
use Rattle.std.specs.Str.Parse.{digits_value}
use Rattle.std.specs.Result.{result_ok}
use Rattle.base64.specs.Engines.{standard}
use Rattle.base64.specs.GeneralPurpose.{decode_of, decoded_of, IsBytes}
use Rattle.base64.proofs.EngineFacts.{decode_of-encode_of}
use Rattle.scram.specs.Words.{IsRounds, IsDigest, Lacks, Reads, in_base64}
use Rattle.scram.specs.Verifiers.{verifier_text, IsTextOf}
use Rattle.scram.specs.Tests.{before, behind, is_count, is_text_of, are_32, is_base64, is_digest, are_texts, with_stored, with_salt, with_rounds, is_verifier, HasVerifier}
use Rattle.scram.specs.declared.verifier.Verifier.{Verifier}
use Rattle.scram.proofs.Coded.{base64_no_colon, base64_no_dollar, decimal_no_colon}
use Rattle.scram.proofs.Parts.{verifier_parts}

both : (a b : Bool) → (a && b) ≡ true → (a ≡ true) × (b ≡ true)
both true b e = (refl, e)
both false b e = absurd (cc)

all_true : (a b : Bool) → a ≡ true → b ≡ true → (a && b) ≡ true
all_true a b e f = ap₂ (λ (x y : Bool). x && y) e f

same_bytes : (xs ys : List ℕ) → xs ≡ ys → bytes_eq xs ys ≡ true
same_bytes xs ys e = (bytes_eq-Decides xs ys).1 e

are_same : (xs ys : List ℕ) → bytes_eq xs ys ≡ true → xs ≡ ys
are_same xs ys e = (bytes_eq-Decides xs ys).0 e

-- ---- bytes

bytes_tested : (bytes : List ℕ) → IsBytes bytes → list_all (λ b. nat_lt b 256) bytes ≡ true
bytes_tested [] h = refl
bytes_tested (b ∷ rest) h =
    let low : b < 256 = h 0 in
    let first : nat_lt b 256 ≡ true = grind (arith, nat_tests) in
    all_true (nat_lt b 256) (list_all (λ x. nat_lt x 256) rest) first (bytes_tested rest (λ i. h (suc i)))

are_bytes : (bytes : List ℕ) → list_all (λ b. nat_lt b 256) bytes ≡ true → IsBytes bytes
are_bytes [] h i = omega arith
are_bytes (b ∷ rest) h zero = let first = (both (nat_lt b 256) (list_all (λ x. nat_lt x 256) rest) h).0 in grind (arith, nat_tests)
are_bytes (b ∷ rest) h (suc i) = are_bytes rest (both (nat_lt b 256) (list_all (λ x. nat_lt x 256) rest) h).1 i

-- ---- base64

decoded : (bytes : List ℕ) → IsBytes bytes → decoded_of standard (in_base64 bytes) ≡ Some bytes
unfolding decoded_of in_base64
decoded bytes is = ap result_ok (decode_of-encode_of standard bytes refl is)

pub base64_tested : (bytes : List ℕ) → IsBytes bytes → is_base64 (in_base64 bytes) ≡ true
unfolding is_base64
base64_tested bytes is =
    ap (is_text_of (in_base64 bytes)) (decoded bytes is)
    ∙ all_true _ _ (same_bytes (in_base64 bytes) (in_base64 bytes) refl) (bytes_tested bytes is)

pub digest_tested : (bytes : List ℕ) → IsDigest bytes → is_digest (in_base64 bytes) ≡ true
unfolding is_digest
digest_tested bytes is =
    let one : is_text_of (in_base64 bytes) (decoded_of standard (in_base64 bytes)) ≡ true =
    ap (is_text_of (in_base64 bytes)) (decoded bytes is.1)
    ∙ all_true _ _ (same_bytes (in_base64 bytes) (in_base64 bytes) refl) (bytes_tested bytes is.1) in
    let long = is.0 in
    let count : (length bytes == 32) ≡ true = grind (arith, nat_tests) in
    all_true _ _ one (ap are_32 (decoded bytes is.1) ∙ count)

-- bytes that have the text
pub record Coded (text : List ℕ) : Type 0 where
  pub bytes : List ℕ
  pub is_bytes : IsBytes bytes
  pub text_is : text ≡ in_base64 bytes

pub coded : (text : List ℕ) (o : Option (List ℕ)) → is_text_of text o ≡ true → Coded text
coded text None e = absurd (cc)
coded text (Some bytes) e =
    let p = both _ _ e in
    record { bytes = bytes; is_bytes = are_bytes bytes p.1; text_is = are_same text (in_base64 bytes) p.0 }

base64_told : (text : List ℕ) → is_base64 text ≡ true → Coded text
unfolding is_base64
base64_told text e = coded text (decoded_of standard text) e

pub record CodedDigest (text : List ℕ) : Type 0 where
  pub bytes : List ℕ
  pub digest : IsDigest bytes
  pub text_is : text ≡ in_base64 bytes

coded_digest : (text : List ℕ) (o : Option (List ℕ)) → is_text_of text o ≡ true → are_32 o ≡ true → CodedDigest text
coded_digest text None e f = absurd (cc)
coded_digest text (Some bytes) e f =
    let p = both _ _ e in
    let long : length bytes ≡ 32 = grind (arith, nat_tests) in
    record { bytes = bytes; digest = (long, are_bytes bytes p.1); text_is = are_same text (in_base64 bytes) p.0 }

digest_told : (text : List ℕ) → is_digest text ≡ true → CodedDigest text
unfolding is_digest
digest_told text e =
    let p = both _ _ e in
    coded_digest text (decoded_of standard text) p.0 p.1

-- ---- counts

count_tested : (n : ℕ) → IsRounds n → is_count (decimal n) ≡ true
unfolding is_count
count_tested n range =
    let least = range.0 in
    let most = range.1 in
    let value : digits_value 10 (decimal n) ≡ n = (decimal_is_IsNumeral n (omega (arith, most))).1 in
    let low : nat_le 1 (digits_value 10 (decimal n)) ≡ true = ap (λ (k : ℕ). nat_le 1 k) value ∙ grind (arith, nat_tests) in
    let high : nat_le (digits_value 10 (decimal n)) 100000 ≡ true = ap (λ (k : ℕ). nat_le k 100000) value ∙ grind (arith, nat_tests) in
    all_true _ _ (same_bytes (decimal n) (decimal (digits_value 10 (decimal n))) (sym (ap decimal value))) (all_true _ _ low high)

pub record Counted (text : List ℕ) : Type 0 where
  pub count : ℕ
  pub range : IsRounds count
  pub text_is : text ≡ decimal count

count_told : (text : List ℕ) → is_count text ≡ true → Counted text
unfolding is_count
count_told text e =
    let n : ℕ = digits_value 10 text in
    let p = both (bytes_eq text (decimal n)) (nat_le 1 n && nat_le n 100000) e in
    let q = both (nat_le 1 n) (nat_le n 100000) p.1 in
    let low = q.0 in
    let high = q.1 in
    let least : 1 ≤ n = grind (arith, nat_tests) in
    let most : n ≤ 100000 = grind (arith, nat_tests) in
    record { count = n; range = (least, most); text_is = are_same text (decimal n) p.0 }

-- ---- marks

mark_self : (mark : ℕ) → (mark == mark) ≡ true
mark_self mark = grind (arith, nat_tests)

other_mark : (b mark : ℕ) → (b ≡ mark → ⊥) → (b == mark) ≡ false
other_mark b mark none = grind (arith, nat_tests)

before_mark : (mark : ℕ) (xs ys : List ℕ) → Lacks mark xs → before mark (xs ++ mark ∷ ys) ≡ xs
before_mark mark [] ys lacks = ap (λ (t : Bool). if t then [] else mark ∷ before mark ys) (mark_self mark)
before_mark mark (x ∷ xs) ys lacks =
    ap (λ (t : Bool). if t then [] else x ∷ before mark (xs ++ mark ∷ ys)) (other_mark x mark lacks.0)
    ∙ ap (λ (r : List ℕ). x ∷ r) (before_mark mark xs ys lacks.1)

behind_mark : (mark : ℕ) (xs ys : List ℕ) → Lacks mark xs → behind mark (xs ++ mark ∷ ys) ≡ ys
behind_mark mark [] ys lacks = ap (λ (t : Bool). if t then ys else behind mark ys) (mark_self mark)
behind_mark mark (x ∷ xs) ys lacks =
    ap (λ (t : Bool). if t then xs ++ mark ∷ ys else behind mark (xs ++ mark ∷ ys)) (other_mark x mark lacks.0)
    ∙ behind_mark mark xs ys lacks.1

-- ---- the whole

stored_cut : (text r s t v : List ℕ) → Lacks 58 t → are_texts text r s t v ≡ true → with_stored text r s (t ++ 58 ∷ v) ≡ true
stored_cut text r s t v lacks e =
    ap₂ (λ (a b : List ℕ). are_texts text r s a b) (before_mark 58 t v lacks) (behind_mark 58 t v lacks) ∙ e

salt_cut : (text r s rest : List ℕ) → Lacks 36 s → with_stored text r s rest ≡ true → with_salt text r (s ++ 36 ∷ rest) ≡ true
salt_cut text r s rest lacks e =
    ap₂ (λ (a b : List ℕ). with_stored text r a b) (before_mark 36 s rest lacks) (behind_mark 36 s rest lacks) ∙ e

rounds_cut : (text r rest : List ℕ) → Lacks 58 r → with_salt text r rest ≡ true → with_rounds text (r ++ 58 ∷ rest) ≡ true
rounds_cut text r rest lacks e =
    ap₂ (λ (a b : List ℕ). with_salt text a b) (before_mark 58 r rest lacks) (behind_mark 58 r rest lacks) ∙ e

verifier_tested : (text : List ℕ) (v : Verifier) → IsTextOf text v → is_verifier text ≡ true
unfolding is_verifier
verifier_tested text v is =
    let most = is.range.1 in
    let r : List ℕ = decimal v.rounds in
    let s : List ℕ = in_base64 v.salt in
    let t : List ℕ = in_base64 v.stored in
    let u : List ℕ = in_base64 v.server in
    let whole : text ≡ codes "SCRAM-SHA-256$" ++ (r ++ 58 ∷ (s ++ 36 ∷ (t ++ 58 ∷ u))) = is.is ∙ verifier_parts r s t u in
    let rest : drop 14 text ≡ r ++ 58 ∷ (s ++ 36 ∷ (t ++ 58 ∷ u)) = ap (λ (xs : List ℕ). drop 14 xs) whole in
    let good : are_texts text r s t u ≡ true =
    all_true _ _ (same_bytes text (verifier_text r s t u) is.is)
    (all_true _ _ (count_tested v.rounds is.range) (all_true _ _ (base64_tested v.salt is.bytes)
    (all_true _ _ (digest_tested v.stored is.stored) (digest_tested v.server is.server)))) in
    ap (with_rounds text) rest
    ∙ rounds_cut text r _ (decimal_no_colon v.rounds (omega (arith, most)))
    (salt_cut text r s _ (base64_no_dollar v.salt) (stored_cut text r s t u (base64_no_colon v.stored) good))

texts_told : (text r s t v : List ℕ) → are_texts text r s t v ≡ true → HasVerifier text
texts_told text r s t v e =
    let a = both _ _ e in
    let b = both _ _ a.1 in
    let c = both _ _ b.1 in
    let d = both _ _ c.1 in
    let rounds = count_told r b.0 in
    let salt = base64_told s c.0 in
    let stored = digest_told t d.0 in
    let server = digest_told v d.1 in
    let parts : verifier_text r s t v ≡ verifier_text (decimal rounds.count) (in_base64 salt.bytes) (in_base64 stored.bytes) (in_base64 server.bytes) =
    λ i. verifier_text (rounds.text_is i) (salt.text_is i) (stored.text_is i) (server.text_is i) in
    record {
      verifier = record { rounds = rounds.count; salt = salt.bytes; stored = stored.bytes; server = server.bytes };
      is = record {
        range = rounds.range;
        bytes = salt.is_bytes;
        stored = stored.digest;
        server = server.digest;
        is = are_same text (verifier_text r s t v) a.0 ∙ parts;
      };
    }

verifier_told : (text : List ℕ) → is_verifier text ≡ true → HasVerifier text
unfolding is_verifier
verifier_told text e = texts_told text _ _ _ _ e

pub verifier_exactly : (text : List ℕ) → (is_verifier text ≡ true) ↔ HasVerifier text
verifier_exactly text = (verifier_told text, λ h. verifier_tested text h.verifier h.is)

not_true : (t : Bool) → (t ≡ true → ⊥) → t ≡ false
not_true true never = absurd (never refl)
not_true false never = refl

pub verifier_read : (text : List ℕ) (o : Option Verifier) → Reads (IsTextOf text) o → is_some o ≡ is_verifier text
verifier_read text None none = sym (not_true (is_verifier text) (λ e. let h = verifier_told text e in none h.verifier h.is))
verifier_read text (Some v) is = sym (verifier_tested text v is)
