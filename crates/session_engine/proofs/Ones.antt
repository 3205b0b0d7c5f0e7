-- Backends that have answered once each are fewer than eight while one has not answered.
use Rattle.std.proofs.Common.{◌≡◌, ◌<◌, ◌≤◌, ℕ, zero, suc, Some, Bool, true, false, ◌||◌, ◌==◌, List, [], ◌∷◌, ◌++◌, length, refl, sym, ap, subst, arith}
use Rattle.std.specs.Prelude.{◌&&◌, if◌then◌else◌}
use Rattle.std.specs.List.{AllByRecursion, IsDistinct, list_any, slice_get}
use Rattle.std.proofs.lemmas.Bool.{eqb-true, eqb-false, false_from_ne_true}
use Rattle.std.proofs.lemmas.Map.Steps.{length-le_from_distinct_below}
use Rattle.pool_base.specs.declared.backend_id.BackendId.{BackendId}
use Rattle.backend_trait.specs.declared.answer.Answer.TheVariants as answers
use Rattle.session_machine.specs.declared.machine.Heard.{Heard}
use Rattle.session_machine.specs.Answers.{has_answered}
use Rattle.session_engine.specs.Sound.{AreOne, is_plain, are_plain}

abbrev numbers : List Heard → List ℕ
numbers [] = []
numbers (h ∷ hs) = h.b.number ∷ numbers hs

numbers_length : (hs : List Heard) → length (numbers hs) ≡ length hs
numbers_length [] = refl
numbers_length (h ∷ hs) = ap (λ (n : ℕ). suc n) (numbers_length hs)

-- the two sides of a test for equal numbers
turned : (m n : ℕ) → (m == n) ≡ false → (n == m) ≡ false
turned m n e = false_from_ne_true (n == m) (λ same. eqb-false m n e (sym (eqb-true n m same)))

-- the first is another, and the others have not answered
apart_at : (b : BackendId) (h : Heard) (hs : List Heard) (t : Bool) → (h.b.number == b.number) ≡ t
    → (if t then true else has_answered hs b) ≡ false
    → ((h.b.number == b.number) ≡ false) × (has_answered hs b ≡ false)
apart_at b h hs true same none = absurd (cc)
apart_at b h hs false same none = (same, none)

apart : (b : BackendId) (h : Heard) (hs : List Heard) → has_answered (h ∷ hs) b ≡ false
    → ((h.b.number == b.number) ≡ false) × (has_answered hs b ≡ false)
apart b h hs none = apart_at b h hs (h.b.number == b.number) refl none

-- one that has not answered is none of the numbers
none_same : (b : BackendId) (hs : List Heard) → has_answered hs b ≡ false
    → AllByRecursion (λ (y : ℕ). (b.number == y) ≡ false) (numbers hs)
none_same b [] none = tt
none_same b (h ∷ hs) none =
    let (other, later) = apart b h hs none in (turned h.b.number b.number other, none_same b hs later)

distinct : (hs : List Heard) → AreOne hs → IsDistinct ◌==◌ (numbers hs)
unfolding IsDistinct
distinct [] one = tt
distinct (h ∷ hs) one = (none_same h.b hs one.0, distinct hs one.1)

below_at : (h : Heard) (ns : List ℕ) (q : ℕ) (t : Bool) → (q == h.b.number) ≡ t → (list_any (λ (y : ℕ). q == y) ns ≡ true → q < 8)
    → (t || list_any (λ (y : ℕ). q == y) ns) ≡ true → q < 8
below_at h ns q true same later found = subst (λ (n : ℕ). n < 8) (sym (eqb-true q h.b.number same)) h.b.below_8
below_at h ns q false same later found = later found

below : (hs : List Heard) (q : ℕ) → list_any (λ (y : ℕ). q == y) (numbers hs) ≡ true → q < 8
below [] q found = absurd (cc)
below (h ∷ hs) q found = below_at h (numbers hs) q (q == h.b.number) refl (below hs q) found

-- there is room for one more answer
pub few : (hs : List Heard) (b : BackendId) → AreOne hs → has_answered hs b ≡ false → length hs < 8
few hs b one none =
    let mine : Heard = record { b = b; answer = answers.Began } in
    let eight : length (numbers (mine ∷ hs)) ≤ 8 = length-le_from_distinct_below (numbers (mine ∷ hs)) 8 (distinct (mine ∷ hs) (none, one)) (below (mine ∷ hs)) in
    let same : length (numbers hs) ≡ length hs = numbers_length hs in
    omega arith

-- Behind one more answer.

has_answered_at : (x h : Heard) (hs : List Heard) (b : BackendId) (t : Bool) → (x.b.number == b.number) ≡ t
    → (has_answered hs b ≡ false → has_answered (hs ++ h ∷ []) b ≡ false)
    → (if t then true else has_answered hs b) ≡ false → (if t then true else has_answered (hs ++ h ∷ []) b) ≡ false
has_answered_at x h hs b true same later none = absurd (cc)
has_answered_at x h hs b false same later none = later none

not_answered : (hs : List Heard) (h : Heard) (b : BackendId) → (h.b.number == b.number) ≡ false → has_answered hs b ≡ false
    → has_answered (hs ++ h ∷ []) b ≡ false
not_answered [] h b other none = rw other refl
not_answered (x ∷ hs) h b other none =
    has_answered_at x h hs b (x.b.number == b.number) refl (not_answered hs h b other) none

pub one_more : (hs : List Heard) (h : Heard) → AreOne hs → has_answered hs h.b ≡ false → AreOne (hs ++ h ∷ [])
one_more [] h one none = (refl, tt)
one_more (x ∷ hs) h one none =
    let (other, later) = apart h.b x hs none in
    (not_answered hs h x.b (turned x.b.number h.b.number other) one.0, one_more hs h one.1 later)

plain_at : (t u : Bool) → (t && u) ≡ true → (t ≡ true) × (u ≡ true)
plain_at true u e = (refl, e)
plain_at false u e = absurd (cc)

pub plain_more : (hs : List Heard) (h : Heard) → are_plain hs ≡ true → is_plain h.answer ≡ true → are_plain (hs ++ h ∷ []) ≡ true
plain_more [] h all one = rw one refl
plain_more (x ∷ hs) h all one =
    let (first, later) = plain_at (is_plain x.answer) (are_plain hs) all in rw first (plain_more hs h later one)

plain_none : (t : Bool) → (t && false) ≡ false
plain_none true = refl
plain_none false = refl

-- rows at a place are rows in the list
pub plain_from : (hs : List Heard) (place : ℕ) (h : Heard) → slice_get hs place ≡ Some h → is_plain h.answer ≡ false → are_plain hs ≡ false
plain_from [] place h at rows = absurd (cc)
plain_from (x ∷ hs) zero h at rows =
    let same : x ≡ h = cc in rw (subst (λ (y : Heard). is_plain y.answer ≡ false) (sym same) rows) refl
plain_from (x ∷ hs) (suc place) h at rows = rw (plain_from hs place h at rows) (plain_none (is_plain x.answer))
