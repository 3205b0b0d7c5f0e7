-- A list up to the first byte of one kind, and what stands behind it.
use Rattle.std.proofs.Common.{◌≡◌, ◌≢◌, ℕ, zero, suc, ◌+◌, ◌-◌, ◌<◌, ◌≤◌, List, [], ◌∷◌, ◌++◌, length, get_or, take, drop, replicate, refl, sym, ap, ◌∙◌, arith, All, take-append-drop}
use Rattle.std.proofs.lemmas.List.{drop_more, take_rest, length-take-le, get_or-take}
use Rattle.scram.specs.Words.{Lacks}

pub lacks_append : (mark : ℕ) (xs ys : List ℕ) → Lacks mark xs → Lacks mark ys → Lacks mark (xs ++ ys)
lacks_append mark [] ys a b = b
lacks_append mark (x ∷ xs) ys a b = (a.0, lacks_append mark xs ys a.1 b)

pub lacks_replicate : (mark n y : ℕ) → y ≢ mark → Lacks mark (replicate n y)
lacks_replicate mark zero y other = tt
lacks_replicate mark (suc n) y other = (other, lacks_replicate mark n y other)

-- the mark itself
pub lacks_no_mark : (mark : ℕ) (xs ys : List ℕ) → Lacks mark (xs ++ mark ∷ ys) → ⊥
lacks_no_mark mark [] ys a = a.0 refl
lacks_no_mark mark (x ∷ xs) ys a = lacks_no_mark mark xs ys a.1

pub lacks_from_reads : (mark : ℕ) (xs : List ℕ) → ((k : ℕ) → k < length xs → get_or xs k 0 ≡ mark → ⊥) → Lacks mark xs
lacks_from_reads mark [] h = tt
lacks_from_reads mark (x ∷ xs) h = (h 0 (omega arith), lacks_from_reads mark xs (λ k l. h (suc k) (omega arith)))

-- a list without the mark is read nowhere as the mark
pub lacks_at : (mark : ℕ) (xs : List ℕ) → Lacks mark xs → 0 ≢ mark → (i : ℕ) → get_or xs i 0 ≢ mark
lacks_at mark [] a other i = other
lacks_at mark (x ∷ xs) a other zero = a.0
lacks_at mark (x ∷ xs) a other (suc i) = lacks_at mark xs a.1 other i

head_of : ℕ → List ℕ → ℕ
head_of d [] = d
head_of d (x ∷ xs) = x

tail_of : List ℕ → List ℕ
tail_of [] = []
tail_of (x ∷ xs) = xs

-- there is one way to cut at the first mark
pub cut_front : (mark : ℕ) (xs ys vs ws : List ℕ) → Lacks mark xs → Lacks mark vs → xs ++ mark ∷ ys ≡ vs ++ mark ∷ ws → xs ≡ vs
cut_front mark [] ys [] ws a b e = refl
cut_front mark [] ys (v ∷ vs) ws a b e = let same : mark ≡ v = cc e in absurd (b.0 (sym same))
cut_front mark (x ∷ xs) ys [] ws a b e = let same : x ≡ mark = cc e in absurd (a.0 same)
cut_front mark (x ∷ xs) ys (v ∷ vs) ws a b e =
    let same : x ≡ v = cc e in
    let rest : xs ++ mark ∷ ys ≡ vs ++ mark ∷ ws = cc e in
    let fronts = cut_front mark xs ys vs ws a.1 b.1 rest in
    cc

pub cut_rest : (mark : ℕ) (xs ys vs ws : List ℕ) → Lacks mark xs → Lacks mark vs → xs ++ mark ∷ ys ≡ vs ++ mark ∷ ws → ys ≡ ws
cut_rest mark [] ys [] ws a b e = cc e
cut_rest mark [] ys (v ∷ vs) ws a b e = let same : mark ≡ v = cc e in absurd (b.0 (sym same))
cut_rest mark (x ∷ xs) ys [] ws a b e = let same : x ≡ mark = cc e in absurd (a.0 same)
cut_rest mark (x ∷ xs) ys (v ∷ vs) ws a b e =
    let rest : xs ++ mark ∷ ys ≡ vs ++ mark ∷ ws = cc e in
    cut_rest mark xs ys vs ws a.1 b.1 rest

-- a list is what stands before a place, the byte there, and what stands behind it
pub parted : (mark i : ℕ) (xs : List ℕ) → i < length xs → get_or xs i 0 ≡ mark → xs ≡ take i xs ++ mark ∷ drop (i + 1) xs
parted mark i xs l e =
    let rest = drop_more xs i 0 l in
    sym (take-append-drop i xs) ∙ ap (λ (r : List ℕ). take i xs ++ r) (rest ∙ ap (λ (b : ℕ). b ∷ drop (i + 1) xs) e)

-- what holds of no byte that is the mark
pub lacks_from_all : (mark : ℕ) (P : ℕ → Type 0) (xs : List ℕ) → ((b : ℕ) → P b → b ≢ mark) → All P xs → Lacks mark xs
lacks_from_all mark P xs apart all = lacks_from_reads mark xs (λ k l. apart (get_or xs k 0) (all k 0 l))

pub lacks_take : (mark i : ℕ) (xs : List ℕ) → i ≤ length xs → ((k : ℕ) → k < i → get_or xs k 0 ≡ mark → ⊥) → Lacks mark (take i xs)
lacks_take mark i xs l h =
    lacks_from_reads mark (take i xs) (λ k low e.
    let long = length-take-le i xs l in
    let below : k < i = omega (arith, low, long) in
    h k below (sym (get_or-take i xs k 0 below) ∙ e))

pub parted_take : (mark i : ℕ) (xs : List ℕ) → i < length xs → get_or xs i 0 ≡ mark → xs ≡ take i xs ++ mark ∷ take (length xs - (i + 1)) (drop (i + 1) xs)
parted_take mark i xs l e = parted mark i xs l e ∙ ap (λ (r : List ℕ). take i xs ++ mark ∷ r) (sym (take_rest xs (i + 1)))
