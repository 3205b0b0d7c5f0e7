-- What the first of a name stands for, where one is put or dropped.
use Rattle.std.proofs.Common.{◌≡◌, ◌≢◌, ℕ, Bool, true, false, not, cond, List, [], ◌∷◌, ◌++◌, Option, Some, None, refl, sym, ap, ◌∙◌}
use Rattle.std.specs.Prelude.{bytes_eq, filter, if◌then◌else◌}
use Rattle.std.proofs.lemmas.Slice.Eq.{bytes_eq-Decides}
use Rattle.wire_session.specs.Kept.{first_of}

not_so : {P : Type 0} (b : Bool) → (b ≡ true → P) → (P → ⊥) → b ≡ false
not_so true so never = absurd (never (so refl))
not_so false so never = refl

pub first_is : {X Y : Type 0} (name_of : X → List ℕ) (what : X → Y) (name : List ℕ) (x : X) (xs : List X) → name_of x ≡ name
    → first_of name_of what name (x ∷ xs) ≡ Some (what x)
first_is name_of what name x xs own = ap (λ (b : Bool). if b then Some (what x) else first_of name_of what name xs) ((bytes_eq-Decides (name_of x) name).1 own)

pub first_not : {X Y : Type 0} (name_of : X → List ℕ) (what : X → Y) (name : List ℕ) (x : X) (xs : List X) → name_of x ≢ name
    → first_of name_of what name (x ∷ xs) ≡ first_of name_of what name xs
first_not name_of what name x xs other =
    ap (λ (b : Bool). if b then Some (what x) else first_of name_of what name xs) (not_so (bytes_eq (name_of x) name) (bytes_eq-Decides (name_of x) name).0 other)

-- ---- one is put behind the others

passes_on : {Y : Type 0} (hit : Bool) (y : Y) (front more rest : Option Y) → (if hit then Some y else front) ≡ None → (front ≡ None → more ≡ rest)
    → (if hit then Some y else more) ≡ rest
passes_on true y front more rest none so = absurd (let e : Some y ≡ None = none in cc)
passes_on false y front more rest none so = so none

pub behind_front : {X Y : Type 0} (name_of : X → List ℕ) (what : X → Y) (name : List ℕ) (front rest : List X) → first_of name_of what name front ≡ None
    → first_of name_of what name (front ++ rest) ≡ first_of name_of what name rest
behind_front name_of what name [] rest none = refl
behind_front name_of what name (x ∷ front) rest none =
    passes_on (bytes_eq (name_of x) name) (what x) (first_of name_of what name front) (first_of name_of what name (front ++ rest)) (first_of name_of what name rest) none
    (behind_front name_of what name front rest)

pub put_own : {X Y : Type 0} (name_of : X → List ℕ) (what : X → Y) (name : List ℕ) (xs : List X) (x : X) → first_of name_of what name xs ≡ None → name_of x ≡ name
    → first_of name_of what name (xs ++ x ∷ []) ≡ Some (what x)
put_own name_of what name xs x none own = behind_front name_of what name xs (x ∷ []) none ∙ first_is name_of what name x [] own

-- another in the place of one stays unseen by other names
pub other_stays : {X Y : Type 0} (name_of : X → List ℕ) (what : X → Y) (other : List ℕ) (front : List X) (more rest : List X)
    → first_of name_of what other more ≡ first_of name_of what other rest → first_of name_of what other (front ++ more) ≡ first_of name_of what other (front ++ rest)
other_stays {Y = Y} name_of what other [] more rest same = same
other_stays {Y = Y} name_of what other (x ∷ front) more rest same =
    ap (λ (o : Option Y). if bytes_eq (name_of x) other then Some (what x) else o) (other_stays name_of what other front more rest same)

pub put_other : {X Y : Type 0} (name_of : X → List ℕ) (what : X → Y) (other : List ℕ) (xs : List X) (x : X) → name_of x ≢ other
    → first_of name_of what other (xs ++ x ∷ []) ≡ first_of name_of what other xs
put_other {Y = Y} name_of what other [] x differs = first_not name_of what other x [] differs
put_other {Y = Y} name_of what other (y ∷ xs) x differs = ap (λ (o : Option Y). if bytes_eq (name_of y) other then Some (what y) else o) (put_other name_of what other xs x differs)

-- ---- those of a name are dropped

abbrev pub keeps : {X : Type 0} → (X → List ℕ) → List ℕ → X → Bool
keeps name_of name x = not (bytes_eq (name_of x) name)

closed_step : {X Y : Type 0} (name_of : X → List ℕ) (what : X → Y) (name : List ℕ) (x : X) (rest : List X) (hit : Bool) → bytes_eq (name_of x) name ≡ hit
    → first_of name_of what name rest ≡ None → first_of name_of what name (cond (not hit) (x ∷ rest) rest) ≡ None
closed_step name_of what name x rest true is none = none
closed_step name_of what name x rest false is none = ap (λ (b : Bool). if b then Some (what x) else first_of name_of what name rest) is ∙ none

pub closed_own : {X Y : Type 0} (name_of : X → List ℕ) (what : X → Y) (name : List ℕ) (xs : List X) → first_of name_of what name (filter (keeps name_of name) xs) ≡ None
closed_own name_of what name [] = refl
closed_own name_of what name (x ∷ xs) =
    closed_step name_of what name x (filter (keeps name_of name) xs) (bytes_eq (name_of x) name) refl (closed_own name_of what name xs)

kept_step : {X Y : Type 0} (name_of : X → List ℕ) (what : X → Y) (name other : List ℕ) (x : X) (rest xs : List X) (hit : Bool) → bytes_eq (name_of x) name ≡ hit
    → other ≢ name → first_of name_of what other rest ≡ first_of name_of what other xs
    → first_of name_of what other (cond (not hit) (x ∷ rest) rest) ≡ first_of name_of what other (x ∷ xs)
kept_step {Y = Y} name_of what name other x rest xs true is differs same =
    same ∙ sym (first_not name_of what other x xs (λ e. differs (sym e ∙ (bytes_eq-Decides (name_of x) name).0 is)))
kept_step {Y = Y} name_of what name other x rest xs false is differs same = ap (λ (o : Option Y). if bytes_eq (name_of x) other then Some (what x) else o) same

pub closed_others : {X Y : Type 0} (name_of : X → List ℕ) (what : X → Y) (name other : List ℕ) (xs : List X) → other ≢ name
    → first_of name_of what other (filter (keeps name_of name) xs) ≡ first_of name_of what other xs
closed_others name_of what name other [] differs = refl
closed_others name_of what name other (x ∷ xs) differs =
    kept_step name_of what name other x (filter (keeps name_of name) xs) xs (bytes_eq (name_of x) name) refl differs (closed_others name_of what name other xs differs)
