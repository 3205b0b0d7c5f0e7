-- Reading the bytes of a string one after the other, as a loop does.
use Rattle.std.proofs.Common.{◌≡◌, ℕ, zero, suc, ◌<◌, List, [], ◌∷◌, ◌++◌, length, Option, Some, None, refl, sym, ap, ◌∙◌, append_assoc, arith}
use Rattle.std.proofs.lemmas.List.{append-nil}
use Rattle.pgproto.specs.declared.stop.Stop.{Stop}
use Rattle.pgproto.specs.declared.stop.Stop.TheVariants.{NotALine, NoMemory}
use Rattle.pgproto.specs.Reading.{Fails, bytes_at, with_front}

abbrev pub Step : Type 0
Step = List ℕ → Option (Option ℕ × List ℕ)

pub record Going (step : List ℕ → Option (Option ℕ × List ℕ)) (front rest : List ℕ) (total : Option (List ℕ × List ℕ)) : Type 0 where
  pub turns : ℕ
  pub enough : length rest < turns
  pub read : with_front front (bytes_at step turns rest) ≡ total

same : (read : Option (List ℕ × List ℕ)) → with_front [] read ≡ read
same (Some x) = refl
same None = refl

pub starts : (step : Step) (bytes : List ℕ) → Going step [] bytes (bytes_at step (suc (length bytes)) bytes)
starts step bytes = record { turns = suc (length bytes); enough = omega arith; read = same (bytes_at step (suc (length bytes)) bytes) }

regroup : (front : List ℕ) (b : ℕ) (read : Option (List ℕ × List ℕ)) → with_front front (with_front (b ∷ []) read) ≡ with_front (front ++ b ∷ []) read
regroup front b (Some y) = ap (λ (xs : List ℕ). Some (xs, y.1)) (simp append_assoc)
regroup front b None = refl

pub goes_on : (step : Step) (front rest after : List ℕ) (total : Option (List ℕ × List ℕ)) (b : ℕ) → Going step front rest total → step rest ≡ Some (Some b, after) → length after < length rest → Going step (front ++ b ∷ []) after total
unfolding bytes_at
goes_on step front rest after total b g h short = goes g.turns g.enough g.read where
  goes : (n : ℕ) → length rest < n → with_front front (bytes_at step n rest) ≡ total → Going step (front ++ b ∷ []) after total
  goes zero lt e = absurd (omega arith)
  goes (suc n) lt e =
      let one : with_front front (bytes_at step (suc n) rest) ≡ with_front (front ++ b ∷ []) (bytes_at step n after) = rw h (regroup front b (bytes_at step n after)) in
      record { turns = n; enough = omega arith; read = sym one ∙ e }

pub ends : (e : Stop) (step : Step) (front rest : List ℕ) (total : Option (List ℕ × List ℕ)) → Going step front rest total → Fails e (step rest) → Fails e total
unfolding bytes_at
ends NoMemory step front rest total g f = tt
ends NotALine step front rest total g o = goes g.turns g.enough g.read where
  goes : (n : ℕ) → length rest < n → with_front front (bytes_at step n rest) ≡ total → total ≡ None
  goes zero lt e = absurd (omega arith)
  goes (suc n) lt e = let one : with_front front (bytes_at step (suc n) rest) ≡ None = rw o refl in sym e ∙ one

pub is_done : (step : Step) (front rest after : List ℕ) (total : Option (List ℕ × List ℕ)) → Going step front rest total → step rest ≡ Some (None, after) → total ≡ Some (front, after)
unfolding bytes_at
is_done step front rest after total g h = goes g.turns g.enough g.read where
  goes : (n : ℕ) → length rest < n → with_front front (bytes_at step n rest) ≡ total → total ≡ Some (front, after)
  goes zero lt e = absurd (omega arith)
  goes (suc n) lt e = let one : with_front front (bytes_at step (suc n) rest) ≡ Some (front, after) = rw h (ap (λ (xs : List ℕ). Some (xs, after)) (append-nil front)) in sym e ∙ one
