-- Reading tokens from left to right, with the first fault that is met.
use Rattle.std.specs.Prelude.{◌≡◌, ℕ, zero, suc, List, [], ◌∷◌, ◌++◌, length, Option, Some, None, Result, Ok, Err}
use Rattle.sql_tokens.specs.declared.fault.Awaited.{Awaited}
use Rattle.sql_tokens.specs.declared.fault.Fault.{Fault}
use Rattle.sql_tokens.specs.declared.fault.Fault.TheVariants.{Syntax}
use Rattle.sql_tokens.specs.declared.fault.ReadError.{ReadError}
use Rattle.sql_tokens.specs.declared.fault.ReadError.TheVariants as errors

infixl 10 ◌>>=◌
-- one reading, and then another of what it gives
abbrev pub ◌>>=◌ : {A B : Type 0} → Result A Fault → (A → Result B Fault) → Result B Fault
(Ok x) >>= f = f x
(Err e) >>= f = Err e

-- the reading is refused so, unless memory ran out
abbrev pub Fails : {Y : Type 0} → ReadError → Result Y Fault → Type 0
Fails errors.NoMemory read = Unit {0}
Fails (errors.Fault f) read = read ≡ Err f

-- What a function returned, seen by view, is what reading gives, unless memory ran out.
abbrev pub Gives : {X Y : Type 0} → (X → Y) → Result X ReadError → Result Y Fault → Type 0
Gives view (Ok x) read = read ≡ Ok (view x)
Gives view (Err e) read = Fails e read

-- a reader: what stands at the front, and what follows it
abbrev pub Parse : Type 0 → Type 0 → Type 0
Parse T A = List T → Result (A × List T) Fault

-- the mark at the front, and what follows it
abbrev pub Marks : Type 0 → Type 0 → Type 0
Marks T S = List T → Option (S × List T)

abbrev pub tail_step : {T S A B : Type 0} → (S → A → B) → Parse T A → Parse T (List B) → List T → Option (S × List T) → Result (List B × List T) Fault
tail_step make operand more ts None = Ok ([], ts)
tail_step make operand more ts (Some m) = operand m.1 >>= λ x. more x.1 >>= λ y. Ok (make m.0 x.0 ∷ y.0, y.1)

-- { mark operand }: the number bounds the turns, and the count of the tokens is always enough
unfoldable pub tail : {T S A B : Type 0} → Marks T S → (S → A → B) → Parse T A → ℕ → Parse T (List B)
tail marks make operand zero ts = Ok ([], ts)
tail marks make operand (suc n) ts = tail_step make operand (tail marks make operand n) ts (marks ts)

-- { mark operand }, as many as there are
abbrev pub tails : {T S A B : Type 0} → Marks T S → (S → A → B) → Parse T A → Parse T (List B)
tails marks make operand ts = tail marks make operand (length ts) ts

-- first { mark operand }, and the tree that the parts make
abbrev pub chained : {T S A B C D : Type 0} → Marks T S → (S → A → B) → Parse T A → (C → List B → D) → Parse T C → Parse T D
chained marks make operand whole first ts = first ts >>= λ x. tails marks make operand x.1 >>= λ y. Ok (whole x.0 y.0, y.1)

-- what was read before, and what is still read
abbrev pub with_front : {T B : Type 0} → List B → Result (List B × List T) Fault → Result (List B × List T) Fault
with_front front read = read >>= λ y. Ok (front ++ y.0, y.1)

-- nothing follows
abbrev pub end_at : {T A : Type 0} → Awaited → A → List T → Result A Fault
end_at awaited a [] = Ok a
end_at awaited a (t ∷ ts) = Err (Syntax (suc (length ts)) awaited)

-- all of the tokens
abbrev pub whole_of : {T A : Type 0} → Awaited → Parse T A → List T → Result A Fault
whole_of awaited p ts = p ts >>= λ x. end_at awaited x.0 x.1
