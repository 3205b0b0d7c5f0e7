-- What is read of a text that may be 32 bytes in base64.
use Rattle.std.proofs.Common.{◌≡◌, ℕ, List, length, sym, ap, ◌∙◌, subst, Option, None, Some}
use Rattle.base64.specs.GeneralPurpose.{IsBytes}
use Rattle.scram.specs.Words.{IsDigest, Reads, in_base64}
use Rattle.scram.proofs.Coded.{base64_injective}

pub digest_read : (text bytes slice : List ℕ) (found r : Option (List ℕ)) → found ≡ Some bytes → slice ≡ bytes
    → Reads (λ b. IsBytes b × (text ≡ in_base64 b)) found → Reads (λ d. (d ≡ slice) × (length d ≡ 32)) r → Reads (λ b. IsDigest b × (text ≡ in_base64 b)) r
digest_read text bytes slice found None is same read none =
    let at = subst (λ (o : Option (List ℕ)). Reads (λ b. IsBytes b × (text ≡ in_base64 b)) o) is read in
    λ x digest. none x (base64_injective x bytes digest.0.1 at.0 (sym digest.1 ∙ at.1) ∙ sym same, digest.0.0)
digest_read text bytes slice found (Some d) is same read there =
    let at = subst (λ (o : Option (List ℕ)). Reads (λ b. IsBytes b × (text ≡ in_base64 b)) o) is read in
    let e : d ≡ bytes = there.0 ∙ same in
    ((there.1, subst IsBytes (sym e) at.0), at.1 ∙ ap in_base64 (sym e))
