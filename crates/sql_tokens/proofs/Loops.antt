-- Reading the parts of a chain one after the other, as a loop does.
use Rattle.std.proofs.Common.{◌≡◌, ℕ, zero, suc, ◌≤◌, ◌<◌, List, [], ◌∷◌, ◌++◌, length, Some, None, Result, Ok, Err, refl, sym, ap, ◌∙◌, append_assoc, arith}
use Rattle.std.proofs.lemmas.List.{append-nil}
use Rattle.sql_tokens.specs.declared.fault.Fault.{Fault}
use Rattle.sql_tokens.specs.declared.fault.ReadError.{ReadError}
use Rattle.sql_tokens.specs.declared.fault.ReadError.TheVariants as errors
use Rattle.sql_tokens.specs.Reading.{◌>>=◌, Fails, Parse, Marks, tail, tails, with_front}

-- what was read so far, and what is still read, are all of it
pub record Going {T S A B : Type 0} (marks : Marks T S) (make : S → A → B) (operand : Parse T A) (front : List B) (rest : List T) (total : Result (List B × List T) Fault) : Type 0 where
  pub turns : ℕ
  pub enough : length rest ≤ turns
  pub read : with_front front (tail marks make operand turns rest) ≡ total

pub starts : {T S A B : Type 0} (marks : Marks T S) (make : S → A → B) (operand : Parse T A) (ts : List T) → Going marks make operand [] ts (tails marks make operand ts)
starts {T} marks make operand ts = record { turns = length ts; enough = omega arith; read = same (tail marks make operand (length ts) ts) } where
  same : {B : Type 0} (read : Result (List B × List T) Fault) → with_front [] read ≡ read
  same (Ok x) = refl
  same (Err e) = refl

regroup : {T B : Type 0} (front : List B) (x : B) (read : Result (List B × List T) Fault) → with_front front (read >>= λ y. Ok (x ∷ y.0, y.1)) ≡ with_front (front ++ x ∷ []) read
regroup front x (Ok y) = ap (λ (xs : List _). Ok (xs, y.1)) (simp append_assoc)
regroup front x (Err f) = refl

pub goes_on : {T S A B : Type 0} (marks : Marks T S) (make : S → A → B) (operand : Parse T A) (front : List B) (rest after later : List T) (total : Result (List B × List T) Fault) (m : S) (x : A)
    → Going marks make operand front rest total → marks rest ≡ Some (m, after) → operand after ≡ Ok (x, later) → length later < length rest → Going marks make operand (front ++ make m x ∷ []) later total
unfolding tail
goes_on marks make operand front rest after later total m x g h o short = goes g.turns g.enough g.read where
  goes : (n : ℕ) → length rest ≤ n → with_front front (tail marks make operand n rest) ≡ total → Going marks make operand (front ++ make m x ∷ []) later total
  goes zero le e = absurd (omega arith)
  goes (suc n) le e =
      let one : with_front front (tail marks make operand (suc n) rest) ≡ with_front (front ++ make m x ∷ []) (tail marks make operand n later) = rw (h, o) (regroup front (make m x) (tail marks make operand n later)) in
      record { turns = n; enough = omega arith; read = sym one ∙ e }

pub ends : {T S A B : Type 0} (e : ReadError) (marks : Marks T S) (make : S → A → B) (operand : Parse T A) (front : List B) (rest after : List T) (total : Result (List B × List T) Fault) (m : S)
    → Going marks make operand front rest total → marks rest ≡ Some (m, after) → 0 < length rest → Fails e (operand after) → Fails e total
unfolding tail
ends errors.NoMemory marks make operand front rest after total m g h some f = tt
ends (errors.Fault f) marks make operand front rest after total m g h some o = goes g.turns g.enough g.read where
  goes : (n : ℕ) → length rest ≤ n → with_front front (tail marks make operand n rest) ≡ total → total ≡ Err f
  goes zero le e = absurd (omega arith)
  goes (suc n) le e =
      let one : with_front front (tail marks make operand (suc n) rest) ≡ Err f = rw (h, o) refl in
      sym e ∙ one

pub is_done : {T S A B : Type 0} (marks : Marks T S) (make : S → A → B) (operand : Parse T A) (front : List B) (rest : List T) (total : Result (List B × List T) Fault)
    → Going marks make operand front rest total → marks rest ≡ None → total ≡ Ok (front, rest)
unfolding tail
is_done marks make operand front rest total g h = goes g.turns g.read where
  goes : (n : ℕ) → with_front front (tail marks make operand n rest) ≡ total → total ≡ Ok (front, rest)
  goes zero e = sym e ∙ ap (λ (xs : List _). Ok (xs, rest)) (append-nil front)
  goes (suc n) e =
      let one : with_front front (tail marks make operand (suc n) rest) ≡ Ok (front, rest) = rw h (ap (λ (xs : List _). Ok (xs, rest)) (append-nil front)) in
      sym e ∙ one
