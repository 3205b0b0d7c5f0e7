-- Reading the items of a list one after another, as a loop does.
use Rattle.std.proofs.Common.{◌≡◌, ℕ, zero, suc, ◌+◌, ◌-◌, ◌<◌, List, [], ◌∷◌, ◌++◌, length, Option, Some, None, refl, sym, ap, ◌∙◌, append_assoc, arith}
use Rattle.std.proofs.lemmas.List.{append-nil}
use Rattle.pgproto.specs.declared.stop.Stop.{Stop}
use Rattle.pgproto.specs.declared.stop.Stop.TheVariants.{NotALine, NoMemory}
use Rattle.pgproto.specs.Reading.{Fails, items_at, spaced_at, with_items}

abbrev pub Item : Type 0 → Type 0
Item A = List ℕ → Option (A × List ℕ)

-- what was read, and so many more, are what is read of all
abbrev pub Going : {A : Type 0} → (List ℕ → Option (A × List ℕ)) → List A → ℕ → List ℕ → Option (List A × List ℕ) → Type 0
Going item front left rest total = with_items front (items_at item left rest) ≡ total

same : {A : Type 0} (read : Option (List A × List ℕ)) → with_items [] read ≡ read
same (Some x) = refl
same None = refl

pub starts : {A : Type 0} (item : List ℕ → Option (A × List ℕ)) (n : ℕ) (bytes : List ℕ) → Going item [] n bytes (items_at item n bytes)
starts item n bytes = same (items_at item n bytes)

regroup : {A : Type 0} (front : List A) (x : A) (read : Option (List A × List ℕ)) → with_items front (with_items (x ∷ []) read) ≡ with_items (front ++ x ∷ []) read
regroup front x (Some y) = ap (λ xs. Some (xs, y.1)) (simp append_assoc)
regroup front x None = refl

pub goes_on : {A : Type 0} (item : List ℕ → Option (A × List ℕ)) (front : List A) (n left : ℕ) (rest after : List ℕ) (total : Option (List A × List ℕ)) (x : A) → Going item front n rest total → n ≡ suc left → spaced_at item rest ≡ Some (x, after) → Going item (front ++ x ∷ []) left after total
unfolding items_at
goes_on item front n left rest after total x g is h =
    let one : with_items front (items_at item (suc left) rest) ≡ with_items (front ++ x ∷ []) (items_at item left after) = rw h (regroup front x (items_at item left after)) in
    sym one ∙ ap (λ (k : ℕ). with_items front (items_at item k rest)) (sym is) ∙ g

pub ends : {A : Type 0} (e : Stop) (item : List ℕ → Option (A × List ℕ)) (front : List A) (n left : ℕ) (rest : List ℕ) (total : Option (List A × List ℕ)) → Going item front n rest total → n ≡ suc left → Fails e (spaced_at item rest) → Fails e total
unfolding items_at
ends NoMemory item front n left rest total g is f = tt
ends NotALine item front n left rest total g is o =
    let one : with_items front (items_at item (suc left) rest) ≡ None = rw o refl in
    sym g ∙ ap (λ (k : ℕ). with_items front (items_at item k rest)) is ∙ one

pub is_done : {A : Type 0} (item : List ℕ → Option (A × List ℕ)) (front : List A) (n : ℕ) (rest : List ℕ) (total : Option (List A × List ℕ)) → Going item front n rest total → n ≡ 0 → total ≡ Some (front, rest)
unfolding items_at
is_done item front n rest total g is =
    sym g ∙ ap (λ (k : ℕ). with_items front (items_at item k rest)) is ∙ ap (λ xs. Some (xs, rest)) (append-nil front)
