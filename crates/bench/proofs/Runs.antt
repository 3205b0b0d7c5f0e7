use Rattle.std.proofs.Common.{◌≡◌, ◌+◌, ◌*◌, ◌<◌, ◌≤◌, ℕ, zero, suc, List, [], ◌∷◌, length, drop, sum, Option, Some, None, subst, refl, ap, arith}
use Rattle.std.specs.Prelude.{◌↔◌, IfSome}
use Rattle.std.proofs.lemmas.List.Sums.{sum_by-cons}
use Rattle.pg_messages.specs.declared.client.ClientMessage.{ClientMessage}
use Rattle.pg_messages.specs.declared.read.Read.{Read}
use Rattle.pg_messages.specs.declared.read.Read.TheVariants.{Whole}
use Rattle.pg_messages.specs.Client.{IsClientForm}
use Rattle.pg_messages.specs.Frame.{BeginsWith}
use Rattle.bench.specs.Runs.{StartsWith, IsRun}

-- the length that is found is that of the message at the front
pub starts : (read : Read ClientMessage) (found : Option ℕ) (bytes : List ℕ) → ((m : ClientMessage) (n : ℕ) → (read ≡ Whole m n) ↔ BeginsWith IsClientForm m n bytes) → ((n : ℕ) → (found ≡ Some n) ↔ ((m : ClientMessage) × (read ≡ Whole m n))) → (n : ℕ) → (found ≡ Some n) ↔ StartsWith n bytes
starts read found bytes whole tells n = (
  (λ e. let s : (m : ClientMessage) × (read ≡ Whole m n) = (tells n).0 e in (s.0, (whole s.0 n).0 s.1)),
  (λ s. (tells n).1 (s.0, (whole s.0 n).1 s.1)),
)

not_cons : (x : ℕ) (xs : List ℕ) → [] ≡ x ∷ xs → ⊥
not_cons x xs e = cc

-- a message takes bytes
takes_bytes : (n : ℕ) (bytes : List ℕ) → StartsWith n bytes → 0 < n
takes_bytes zero bytes s = absurd (not_cons _ _ s.1.1.2.3)
takes_bytes (suc n) bytes s = omega arith

pub starts_within : (found : Option ℕ) (bytes : List ℕ) → ((n : ℕ) → (found ≡ Some n) ↔ StartsWith n bytes) → IfSome found (λ n. (0 < n) × (n ≤ length bytes))
starts_within None bytes starts = tt
starts_within (Some n) bytes starts =
    let s : StartsWith n bytes = (starts n).0 refl in (takes_bytes n bytes s, s.1.0)

-- what holds of what is found, at the length that was found
pub begun : (found : Option ℕ) (n : ℕ) (bytes : List ℕ) → found ≡ Some n → IfSome found (λ k. (0 < k) × (k ≤ length bytes)) → (0 < n) × (n ≤ length bytes)
begun found n bytes is within = subst (λ (o : Option ℕ). IfSome o (λ k. (0 < k) × (k ≤ length bytes))) is within

-- what is left of a run without its first message
record Shorter (n : ℕ) (rest left : List ℕ) : Type 0 where
  less : List ℕ
  run : IsRun less (drop n rest)
  count : 1 + length less ≡ length left
  total : n + sum less ≡ sum left

shorter : (n : ℕ) (rest left : List ℕ) → ((k : ℕ) → StartsWith k rest → k ≡ n) → StartsWith n rest → IsRun left rest → Shorter n rest left
shorter n rest [] one here none = absurd (none n here)
shorter n rest (k ∷ ks) one here (first, behind) =
    let e : k ≡ n = one k first in
    record {
      less = ks;
      run = subst (λ (x : ℕ). IsRun ks (drop x rest)) e behind;
      count = omega arith;
      total = omega (arith, sum_by-cons (λ (x : ℕ). x) k ks);
    }

-- where no message stands, a run is empty
ended : (rest left : List ℕ) → ((k : ℕ) → ¬ StartsWith k rest) → IsRun left rest → left ≡ []
ended rest [] none run = refl
ended rest (k ∷ ks) none (first, behind) = absurd (none k first)

-- so many messages and bytes of a run are behind, and the run goes on with the rest
pub record Behind (messages total : ℕ) (rest lengths : List ℕ) : Type 0 where
  pub left : List ℕ
  pub run : IsRun left rest
  pub count : messages + length left ≡ length lengths
  pub bytes : total + sum left ≡ sum lengths

same_length : (found : Option ℕ) (k n : ℕ) → found ≡ Some k → found ≡ Some n → k ≡ n
same_length found k n a b = cc

none_found : (found : Option ℕ) (k : ℕ) → found ≡ Some k → found ≡ None → ⊥
none_found found k a b = cc

pub one_behind : (messages total n : ℕ) (rest lengths : List ℕ) (found : Option ℕ) → found ≡ Some n → ((k : ℕ) → (found ≡ Some k) ↔ StartsWith k rest) → Behind messages total rest lengths → Behind (messages + 1) (total + n) (drop n rest) lengths
one_behind messages total n rest lengths found is first behind =
    let here : StartsWith n rest = (first n).0 is in
    let s : Shorter n rest behind.left =
    shorter n rest behind.left (λ k starts. same_length found k n ((first k).1 starts) is) here behind.run in
    let count : 1 + length s.less ≡ length behind.left = s.count in
    let bytes : n + sum s.less ≡ sum behind.left = s.total in
    record { left = s.less; run = s.run; count = omega arith; bytes = omega arith }

pub all_behind : (messages total : ℕ) (rest lengths : List ℕ) (found : Option ℕ) → found ≡ None → ((k : ℕ) → (found ≡ Some k) ↔ StartsWith k rest) → Behind messages total rest lengths → (messages ≡ 1 * length lengths) × (total ≡ 1 * sum lengths)
all_behind messages total rest lengths found is first behind =
    let e : behind.left ≡ [] =
    ended rest behind.left (λ k starts. none_found found k ((first k).1 starts) is) behind.run in
    let count : messages + length behind.left ≡ length lengths = behind.count in
    let bytes : total + sum behind.left ≡ sum lengths = behind.bytes in
    let no_count : length behind.left ≡ 0 = ap length e in
    let no_bytes : sum behind.left ≡ 0 = ap sum e in
    (omega arith, omega arith)
