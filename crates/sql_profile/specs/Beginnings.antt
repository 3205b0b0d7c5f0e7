-- Beginnings of texts, over any tokens. D w ts says: ts begins a text of a form and is none yet, and behind it w is due.
use Rattle.std.specs.Prelude.{◌≡◌, List, [], ◌∷◌, ◌⊎◌}
use Rattle.sql_tokens.specs.declared.fault.Awaited.{Awaited}
use Rattle.sql_tokens.specs.Grammar.{Form, TailOf}

abbrev pub Beginning : Type 0 → Type 1
Beginning T = Awaited → List T → Type 0

-- it is due at once
abbrev pub AtOnce : {T : Type 0} → Awaited → Beginning T
AtOnce v w ts = (ts ≡ []) × (w ≡ v)

-- nothing is due
abbrev pub Nothing : {T : Type 0} → Beginning T
Nothing w ts = ⊥

-- the one begins, or it stands and the other begins
abbrev pub ThenBegun : {T A : Type 0} → Form T A → Beginning T → Beginning T → Beginning T
ThenBegun {T} {A} R D E w ts = D w ts ⊎ ((a : A) × (mid : List T) × R ts a mid × E w mid)

-- one of the marks stands, and what belongs behind it begins
abbrev pub MarkBegun : {T S : Type 0} → (S → T) → (S → Beginning T) → Beginning T
MarkBegun {T} {S} mark D w ts = (s : S) × (after : List T) × (ts ≡ mark s ∷ after) × D s w after

-- one of the marks is due, or stands and what belongs behind it begins
abbrev pub OneBegun : {T S : Type 0} → Awaited → (S → T) → (S → Beginning T) → Beginning T
OneBegun v mark D w ts = AtOnce v w ts ⊎ MarkBegun mark D w ts

-- a mark that stands alone, and what follows it
abbrev pub BehindBegun : {T : Type 0} → Awaited → (Unit {0} → T) → Beginning T → Beginning T
BehindBegun v mark D = OneBegun v mark (λ _. D)

-- { mark operand }: a further operand begins behind its mark
abbrev pub TailBegun : {T S A B : Type 0} → (S → T) → (S → A → B) → Form T A → Beginning T → Beginning T
TailBegun {T} {S} {A} {B} mark make R D w ts = (xs : List B) × (mid : List T) × TailOf mark make R ts xs mid × MarkBegun mark (λ _. D) w mid

-- first { mark operand }
abbrev pub ChainBegun : {T S A B C : Type 0} → (S → T) → (S → A → B) → Form T A → Beginning T → Form T C → Beginning T → Beginning T
ChainBegun mark make R D RF DF = ThenBegun RF DF (TailBegun mark make R D)
