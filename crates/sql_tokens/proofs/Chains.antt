-- A chain fails at the first token at which no text of it can go on.
use Rattle.std.proofs.Common.{◌≡◌, Bool, true, List, [], None, Result, Ok, refl}
use Rattle.sql_tokens.specs.declared.fault.Fault.{Fault}
use Rattle.sql_tokens.specs.Grammar.{Form, TailOf, ChainedOf}
use Rattle.sql_tokens.specs.Reading.{◌>>=◌, Parse, Marks, tails, chained}
use Rattle.sql_tokens.proofs.Good.{AreMarks, Stops}
use Rattle.sql_tokens.proofs.Told.{head, Told, told_then, told_map, narrowed}
use Rattle.sql_tokens.proofs.Turns.{tails_told}

module _ {T S A B C D : Type 0} (among : Bool) (marks : Marks T S) (mark : S → T) (make : S → A → B) (R : Form T A) (p : Parse T A) (Ends : List T → Type 0)
    (are : AreMarks marks mark) (told : (ts : List T) → Told among R p Ends ts (p ts)) (nothing : marks [] ≡ None)
    (stays : (ts other : List T) → head other ≡ head ts → marks ts ≡ None → marks other ≡ None)
    (whole : C → List B → D) (among_f : Bool) (RF : Form T C) (f : Parse T C) (EndsF : List T → Type 0) (told_f : (ts : List T) → Told among_f RF f EndsF ts (f ts)) (narrow : (k : List T) → EndsF k → Ends k) where
  Then : C → Form T D
  Then x mid e rest = (xs : List B) × TailOf mark make R mid xs rest × (e ≡ whole x xs)

  step : C × List T → Result (D × List T) Fault
  step x = tails marks make p x.1 >>= λ y. Ok (whole x.0 y.0, y.1)

  then_told : (x : C) (mid : List T) → Told true (Then x) (λ m. step (x, m)) (Stops EndsF marks) mid (step (x, mid))
  unfolding Then step
  then_told x mid = told_map true (TailOf mark make R) (tails marks make p) (Stops EndsF marks) (whole x) (Then x) (λ m. step (x, m)) (λ ts. refl) (λ ts xs rest t. (xs, t, refl)) mid
      (narrowed true (TailOf mark make R) (tails marks make p) (Stops Ends marks) (Stops EndsF marks) (λ k h. (narrow k h.0, h.1)) mid (tails marks make p mid) (tails_told among marks mark make R p Ends are told nothing stays mid))

  pub chained_told : (ts : List T) → Told among_f (ChainedOf mark make R whole RF) (chained marks make p whole f) (Stops EndsF marks) ts (chained marks make p whole f ts)
  unfolding Then step
  chained_told ts = told_then among_f RF f EndsF Then step (ChainedOf mark make R whole RF) (chained marks make p whole f) (Stops EndsF marks) (λ ts. refl)
      (λ ts mid rest a b d e. (a, mid, e.0, d, e.1, e.2))
      (λ x. record { more = []; tree = whole x []; ends = λ k h. h.0; goes_on = λ k h. ([], refl, refl) })
      ts (told_f ts) then_told
