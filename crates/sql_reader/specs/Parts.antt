-- Productions that are put together from smaller ones, over any tokens.
use Rattle.std.specs.Prelude.{◌≡◌, List, ◌∷◌, Option, Some, None, ◌⊎◌}
use Rattle.sql_tokens.specs.Grammar.{Form, ChainedOf, part}

-- no token
abbrev pub Done : {T A : Type 0} → A → Form T A
Done a ts b rest = (ts ≡ rest) × (b ≡ a)

-- the one, and then the other
abbrev pub Then : {T A B : Type 0} → Form T A → Form T B → Form T (A × B)
Then {T} R S ts x rest = (mid : List T) × R ts x.0 mid × S mid x.1 rest

-- the tree that is made of what stands there
abbrev pub Made : {T A B : Type 0} → (A → B) → Form T A → Form T B
Made {T} {A} make R ts b rest = (a : A) × R ts a rest × (b ≡ make a)

-- one of the marks, and then what belongs behind it
abbrev pub OneOf : {T S A : Type 0} → (S → T) → (S → Form T A) → Form T A
OneOf {T} {S} mark R ts a rest = (s : S) × (after : List T) × (ts ≡ mark s ∷ after) × R s after a rest

-- the same, or no token
abbrev pub Maybe : {T S A : Type 0} → (S → T) → (S → Form T A) → Form T (Option A)
Maybe {T} {S} {A} mark R ts o rest = ((ts ≡ rest) × (o ≡ None)) ⊎ ((a : A) × OneOf mark R ts a rest × (o ≡ Some a))

-- the same, or another form
abbrev pub Either : {T S A : Type 0} → (S → T) → (S → Form T A) → Form T A → Form T A
Either mark R Q ts a rest = OneOf mark R ts a rest ⊎ Q ts a rest

-- a mark that stands alone, and what follows it
abbrev pub Behind : {T A : Type 0} → (Unit {0} → T) → Form T A → Form T A
Behind mark R = OneOf mark (λ _. R)

-- the first and the others
abbrev pub all_of : {A : Type 0} → A → List A → List A
all_of a others = a ∷ others

-- one { mark one }
abbrev pub Listed : {T A : Type 0} → (Unit {0} → T) → Form T A → Form T (List A)
Listed mark R = ChainedOf mark part R all_of R
