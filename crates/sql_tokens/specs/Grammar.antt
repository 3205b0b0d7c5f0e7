-- Grammars by productions, over any tokens: what a form is, chains, and where a text goes wrong.
use Rattle.std.specs.Prelude.{◌≡◌, ℕ, suc, List, [], ◌∷◌, ◌++◌, length}

-- R ts a rest says: ts is a text of a, and then rest
abbrev pub Form : Type 0 → Type 0 → Type 1
Form T A = List T → A → List T → Type 0

-- { mark operand }
abbrev pub TailOf : {T S A B : Type 0} → (S → T) → (S → A → B) → Form T A → List T → List B → List T → Type 0
TailOf mark make operand ts [] rest = ts ≡ rest
TailOf {T} {S} {A} mark make operand ts (b ∷ bs) rest = (m : S) × (after : List T) × (x : A) × (mid : List T) × (ts ≡ mark m ∷ after) × operand after x mid × (b ≡ make m x) × TailOf mark make operand mid bs rest

-- first { mark operand }, and the tree that the parts make
abbrev pub ChainedOf : {T S A B C D : Type 0} → (S → T) → (S → A → B) → Form T A → (C → List B → D) → Form T C → List T → D → List T → Type 0
ChainedOf {T} {S} {A} {B} {C} mark make operand whole first ts e rest = (x : C) × (mid : List T) × (xs : List B) × first ts x mid × TailOf mark make operand mid xs rest × (e ≡ whole x xs)

-- the part alone, whatever mark stands before it
abbrev pub part : {S A : Type 0} → S → A → A
part _ a = a

-- some text of the grammar begins so
abbrev pub CanGoOn : {T A : Type 0} → (List T → A → Type 0) → List T → Type 0
CanGoOn {T} {A} IsText front = (more : List T) × (a : A) × IsText (front ++ more) a

-- no text goes on with the first of these tokens, or ends here where there are none
abbrev pub NoneGoesOn : {T A : Type 0} → (List T → A → Type 0) → List T → List T → Type 0
NoneGoesOn {T} {A} IsText front [] = (a : A) → IsText front a → ⊥
NoneGoesOn IsText front (t ∷ rest) = CanGoOn IsText (front ++ t ∷ []) → ⊥

-- The first token at which no text goes on is the one from which on this many are left.
pub record IsPlace {T A : Type 0} (IsText : List T → A → Type 0) (ts : List T) (left : ℕ) : Type 0 where
  pub front : List T
  pub rest : List T
  pub parts : ts ≡ front ++ rest
  pub left_is : length rest ≡ left
  pub before : CanGoOn IsText front
  pub here : NoneGoesOn IsText front rest

-- The tokens up to and with the one from which on this many are left begin a text, but none within the limit.
pub record IsTooDeep {T A : Type 0} (IsText Within : List T → A → Type 0) (ts : List T) (left : ℕ) : Type 0 where
  pub front : List T
  pub token : T
  pub rest : List T
  pub parts : ts ≡ front ++ token ∷ rest
  pub left_is : suc (length rest) ≡ left
  pub goes_on : CanGoOn IsText (front ++ token ∷ [])
  pub none_within : CanGoOn Within (front ++ token ∷ []) → ⊥
