-- Lists: what is among them, and the elements that pass a test.
use Rattle.std.proofs.Common.{◌≡◌, ◌⊎◌, zero, suc, Bool, true, false, Some, None, List, [], ◌∷◌, ◌++◌, refl, ap, subst, inl, inr}
use Rattle.std.specs.Prelude.{Option, ◌&&◌, map, filter, find, option_to_list, if◌then◌else◌}
use Rattle.std.specs.List.{list_all}
use Rattle.std.proofs.lemmas.Bool.{and_parts}
use Rattle.session_ahead.specs.Turns.{IsAmong}

-- What is among a list.

pub here : {X : Type 0} (x : X) (xs : List X) → IsAmong x (x ∷ xs)
here x xs = (0, refl)

pub later : {X : Type 0} (x y : X) (xs : List X) → IsAmong x xs → IsAmong x (y ∷ xs)
later x y xs (at, is) = (suc at, is)

pub among_cases : {X : Type 0} (x y : X) (xs : List X) → IsAmong x (y ∷ xs) → (y ≡ x) ⊎ IsAmong x xs
among_cases x y xs (zero, is) = let same : y ≡ x = cc in inl same
among_cases x y xs (suc at, is) = inr (at, is)

pub among_none : {X : Type 0} (x : X) → IsAmong x [] → ⊥
among_none x (at, is) = cc

pub among_left : {X : Type 0} (x : X) (xs ys : List X) → IsAmong x xs → IsAmong x (xs ++ ys)
among_left x [] ys in_it = absurd (among_none x in_it)
among_left x (y ∷ xs) ys (zero, is) = (0, is)
among_left x (y ∷ xs) ys (suc at, is) = later x y (xs ++ ys) (among_left x xs ys (at, is))

pub among_right : {X : Type 0} (x : X) (xs ys : List X) → IsAmong x ys → IsAmong x (xs ++ ys)
among_right x [] ys in_it = in_it
among_right x (y ∷ xs) ys in_it = later x y (xs ++ ys) (among_right x xs ys in_it)

either_later : {X : Type 0} (x y : X) (xs ys : List X) → (IsAmong x xs ⊎ IsAmong x ys) → (IsAmong x (y ∷ xs) ⊎ IsAmong x ys)
either_later x y xs ys (inl p) = inl (later x y xs p)
either_later x y xs ys (inr p) = inr p

pub among_either : {X : Type 0} (x : X) (xs ys : List X) → IsAmong x (xs ++ ys) → (IsAmong x xs ⊎ IsAmong x ys)
among_either x [] ys in_it = inr in_it
among_either x (y ∷ xs) ys (zero, is) = inl (0, is)
among_either x (y ∷ xs) ys (suc at, is) = either_later x y xs ys (among_either x xs ys (at, is))

pub among_map : {X Y : Type 0} (f : X → Y) (x : X) (xs : List X) → IsAmong x xs → IsAmong (f x) (map f xs)
among_map f x [] in_it = absurd (among_none x in_it)
among_map f x (y ∷ xs) (zero, is) = let same : y ≡ x = cc in (0, ap (λ z. Some (f z)) same)
among_map f x (y ∷ xs) (suc at, is) = later (f x) (f y) (map f xs) (among_map f x xs (at, is))

-- the one that it comes from
abbrev pub ComesFrom : {X Y : Type 0} → (X → Y) → Y → List X → Type 0
ComesFrom {X} f y xs = (x : X) × IsAmong x xs × (f x ≡ y)

comes_later : {X Y : Type 0} (f : X → Y) (y : Y) (x : X) (xs : List X) → ComesFrom f y xs → ComesFrom f y (x ∷ xs)
comes_later f y x xs (z, in_it, is) = (z, later z x xs in_it, is)

pub map_among : {X Y : Type 0} (f : X → Y) (y : Y) (xs : List X) → IsAmong y (map f xs) → ComesFrom f y xs
map_among f y [] in_it = absurd (among_none y in_it)
map_among f y (x ∷ xs) (zero, is) = let same : f x ≡ y = cc in (x, here x xs, same)
map_among f y (x ∷ xs) (suc at, is) = comes_later f y x xs (map_among f y xs (at, is))

pub option_among : {X : Type 0} (x : X) (o : Option X) → IsAmong x (option_to_list o) → o ≡ Some x
option_among x None in_it = absurd (among_none x in_it)
option_among x (Some y) (zero, is) = is
option_among x (Some y) (suc at, is) = absurd (among_none x (at, is))

-- What passes a test.

kept_at : {X : Type 0} (p : X → Bool) (x y : X) (xs : List X) (t : Bool) → p y ≡ t
    → (IsAmong x (filter p xs) → IsAmong x xs × (p x ≡ true))
    → IsAmong x (if t then y ∷ filter p xs else filter p xs) → IsAmong x (y ∷ xs) × (p x ≡ true)
kept_at p x y xs true is more (zero, at) = let same : y ≡ x = cc in ((0, at), subst (λ z. p z ≡ true) same is)
kept_at p x y xs true is more (suc k, at) = let (in_it, passes) = more (k, at) in (later x y xs in_it, passes)
kept_at p x y xs false is more in_it = let (there, passes) = more in_it in (later x y xs there, passes)

pub filter_among : {X : Type 0} (p : X → Bool) (x : X) (xs : List X) → IsAmong x (filter p xs) → IsAmong x xs × (p x ≡ true)
filter_among p x [] in_it = absurd (among_none x in_it)
filter_among p x (y ∷ xs) in_it = kept_at p x y xs (p y) refl (filter_among p x xs) in_it

put_at : {X : Type 0} (p : X → Bool) (x y : X) (xs : List X) (t : Bool) → p y ≡ t → p x ≡ true
    → (IsAmong x xs → IsAmong x (filter p xs))
    → IsAmong x (y ∷ xs) → IsAmong x (if t then y ∷ filter p xs else filter p xs)
put_at p x y xs true is passes more (zero, at) = (0, at)
put_at p x y xs true is passes more (suc k, at) = later x y (filter p xs) (more (k, at))
put_at p x y xs false is passes more (zero, at) = absurd (let same : y ≡ x = cc in cc)
put_at p x y xs false is passes more (suc k, at) = more (k, at)

pub among_filter : {X : Type 0} (p : X → Bool) (x : X) (xs : List X) → IsAmong x xs → p x ≡ true → IsAmong x (filter p xs)
among_filter p x [] in_it passes = absurd (among_none x in_it)
among_filter p x (y ∷ xs) in_it passes = put_at p x y xs (p y) refl passes (λ there. among_filter p x xs there passes) in_it

-- what all pass, each passes
pub all_at : {X : Type 0} (p : X → Bool) (x : X) (xs : List X) → list_all p xs ≡ true → IsAmong x xs → p x ≡ true
all_at p x [] all in_it = absurd (among_none x in_it)
all_at p x (y ∷ xs) all (zero, at) =
    let (first, rest) = and_parts (p y) (list_all p xs) all in let same : y ≡ x = cc in subst (λ z. p z ≡ true) same first
all_at p x (y ∷ xs) all (suc k, at) = let (first, rest) = and_parts (p y) (list_all p xs) all in all_at p x xs rest (k, at)

and_true_of : (t : Bool) → (t && true) ≡ t
and_true_of true = refl
and_true_of false = refl

and_assoc_of : (t u v : Bool) → (t && (u && v)) ≡ ((t && u) && v)
and_assoc_of true u v = refl
and_assoc_of false u v = refl

pub all_more : {X : Type 0} (p : X → Bool) (xs : List X) (x : X) → list_all p (xs ++ x ∷ []) ≡ (list_all p xs && p x)
all_more p [] x = and_true_of (p x)
all_more p (y ∷ xs) x = rw (all_more p xs x) (and_assoc_of (p y) (list_all p xs) (p x))

-- The first that passes, and those that pass beside it.

found_at : {X : Type 0} (p : X → Bool) (x y : X) (xs : List X) (t : Bool) → p x ≡ t → (find p xs ≡ Some y → IsAmong y xs × (p y ≡ true))
    → (if t then Some x else find p xs) ≡ Some y → IsAmong y (x ∷ xs) × (p y ≡ true)
found_at p x y xs true is more e = let same : x ≡ y = cc in ((0, e), subst (λ z. p z ≡ true) same is)
found_at p x y xs false is more e = let (in_it, passes) = more e in (later y x xs in_it, passes)

pub found_among : {X : Type 0} (p : X → Bool) (y : X) (xs : List X) → find p xs ≡ Some y → IsAmong y xs × (p y ≡ true)
found_among p y [] e = absurd (cc)
found_among p y (x ∷ xs) e = found_at p x y xs (p x) refl (found_among p y xs) e

none_at : {X : Type 0} (p : X → Bool) (x : X) (xs : List X) (t : Bool) → p x ≡ t → (find p xs ≡ None → filter p xs ≡ [])
    → (if t then Some x else find p xs) ≡ None → (if t then x ∷ filter p xs else filter p xs) ≡ []
none_at p x xs true is more e = absurd (cc)
none_at p x xs false is more e = more e

pub none_found : {X : Type 0} (p : X → Bool) (xs : List X) → find p xs ≡ None → filter p xs ≡ []
none_found p [] e = refl
none_found p (x ∷ xs) e = none_at p x xs (p x) refl (none_found p xs) e

-- where a test passes no more than another, nothing is found that the other does not find
fewer_at : {X : Type 0} (p q : X → Bool) (x : X) (xs : List X) (t : Bool) → p x ≡ t → (p x ≡ false → q x ≡ false) → (find p xs ≡ None → find q xs ≡ None)
    → (if t then Some x else find p xs) ≡ None → (if q x then Some x else find q xs) ≡ None
fewer_at p q x xs true is not_there more e = absurd (cc)
fewer_at p q x xs false is not_there more e = rw (not_there is) (more e)

pub fewer_found : {X : Type 0} (p q : X → Bool) (xs : List X) → ((x : X) → p x ≡ false → q x ≡ false) → find p xs ≡ None → find q xs ≡ None
fewer_found p q [] fewer e = refl
fewer_found p q (x ∷ xs) fewer e = fewer_at p q x xs (p x) refl (fewer x) (fewer_found p q xs fewer) e

-- tests that agree find the same
pub agree_found : {X : Type 0} (p q : X → Bool) (xs : List X) → ((x : X) → p x ≡ q x) → find p xs ≡ find q xs
agree_found p q [] agree = refl
agree_found p q (x ∷ xs) agree = rw (agree x) (rw (agree_found p q xs agree) refl)

pub all_found : {X : Type 0} (p : X → Bool) (xs : List X) → ((x : X) → IsAmong x xs → p x ≡ false) → find p xs ≡ None
all_found p [] none = refl
all_found p (x ∷ xs) none = rw (none x (here x xs)) (all_found p xs (λ y in_it. none y (later y x xs in_it)))

-- the first that passes one test is the first that passes another, where it passes that and the other test passes no more
first_too_at : {X : Type 0} (p q : X → Bool) (x y : X) (xs : List X) (t : Bool) → p x ≡ t → q y ≡ true → (p x ≡ false → q x ≡ false)
    → (find p xs ≡ Some y → find q xs ≡ Some y) → (if t then Some x else find p xs) ≡ Some y → (if q x then Some x else find q xs) ≡ Some y
first_too_at p q x y xs true is passes fewer more e =
    let same : x ≡ y = cc in let there : q x ≡ true = rw same passes in rw there e
first_too_at p q x y xs false is passes fewer more e = rw (fewer is) (more e)

pub first_too : {X : Type 0} (p q : X → Bool) (y : X) (xs : List X) → q y ≡ true → ((x : X) → p x ≡ false → q x ≡ false)
    → find p xs ≡ Some y → find q xs ≡ Some y
first_too p q y [] passes fewer e = absurd (cc)
first_too p q y (x ∷ xs) passes fewer e = first_too_at p q x y xs (p x) refl passes (fewer x) (first_too p q y xs passes fewer) e
