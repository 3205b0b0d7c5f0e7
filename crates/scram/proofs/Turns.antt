-- The rounds of Hi, one after another.
use Rattle.std.proofs.Common.{◌≡◌, ℕ, suc, ◌+◌, List, [], ◌∷◌, ◌++◌, refl, sym, ap, ap₂, ◌∙◌, add-one}
use Rattle.sha2.specs.Sha256.{sha256}
use Rattle.scram.specs.declared.mac.Keyed.{Keyed}
use Rattle.scram.specs.Mac.{hmac, xor_bytes, chained, chained_up_to, IsKeyed, signed_by}

-- what a keyed hash signs is the code under its key
pub signed_is : (k : Keyed) (key text : List ℕ) → IsKeyed k key → signed_by k text ≡ hmac key text
unfolding hmac
signed_is k key text is = ap₂ (λ (o i : List ℕ). sha256 (o ++ sha256 (i ++ text))) is.1 is.0

pub first_chained : (k : Keyed) (password salt last : List ℕ) → IsKeyed k password → last ≡ signed_by k (salt ++ 0 ∷ 0 ∷ 0 ∷ 1 ∷ []) → last ≡ chained password salt 0
unfolding chained
first_chained k password salt last is e = e ∙ signed_is k password (salt ++ 0 ∷ 0 ∷ 0 ∷ 1 ∷ []) is

chained_next : (password salt : List ℕ) (n : ℕ) → hmac password (chained password salt n) ≡ chained password salt (suc n)
unfolding chained
chained_next password salt n = refl

pub more_chained : (k : Keyed) (password salt last next : List ℕ) (n : ℕ) → IsKeyed k password → last ≡ chained password salt n → next ≡ signed_by k last
    → next ≡ chained password salt (n + 1)
more_chained k password salt last next n is e step =
    step ∙ (signed_is k password last is ∙ (ap (λ (t : List ℕ). hmac password t) e ∙ (chained_next password salt n ∙ ap (λ (m : ℕ). chained password salt m) (sym (add-one n)))))

pub first_all : (password salt last : List ℕ) → last ≡ chained password salt 0 → last ≡ chained_up_to password salt 0
unfolding chained_up_to
first_all password salt last e = e

all_next : (password salt : List ℕ) (n : ℕ) → xor_bytes (chained_up_to password salt n) (chained password salt (suc n)) ≡ chained_up_to password salt (suc n)
unfolding chained_up_to
all_next password salt n = refl

pub more_all : (password salt all last next : List ℕ) (n : ℕ) → all ≡ chained_up_to password salt n → last ≡ chained password salt (n + 1) → next ≡ xor_bytes all last
    → next ≡ chained_up_to password salt (n + 1)
more_all password salt all last next n a l step =
    step ∙ (ap₂ (λ (x y : List ℕ). xor_bytes x y) a (l ∙ ap (λ (m : ℕ). chained password salt m) (add-one n))
    ∙ (all_next password salt n ∙ ap (λ (m : ℕ). chained_up_to password salt m) (sym (add-one n))))
