-- What is read is of the grammar, and what is of the grammar is read.
use Rattle.std.proofs.Common.{◌≡◌, ℕ, zero, suc, ◌≤◌, ◌<◌, List, [], ◌∷◌, length, Option, Some, None, Result, Ok, Err, refl, sym, ap, subst, arith}
use Rattle.sql_tokens.specs.declared.fault.Fault.{Fault}
use Rattle.sql_tokens.specs.Grammar.{Form, TailOf, ChainedOf}
use Rattle.sql_tokens.specs.Reading.{◌>>=◌, Parse, Marks, tail, tail_step, tails, chained}

-- what a reader that does not fail has
abbrev pub Has : {T A : Type 0} → Result (A × List T) Fault → (A → List T → Type 0) → Type 0
Has (Ok x) P = P x.0 x.1
Has (Err e) P = Unit {0}

pub then_has : {T A B : Type 0} (r : Result (A × List T) Fault) (f : A × List T → Result (B × List T) Fault) (P : A → List T → Type 0) (Q : B → List T → Type 0)
    → Has r P → ((x : A × List T) → P x.0 x.1 → Has (f x) Q) → Has (r >>= f) Q
then_has (Ok x) f P Q h k = k x h
then_has (Err e) f P Q h k = tt

pub has_map : {T A : Type 0} (r : Result (A × List T) Fault) (P Q : A → List T → Type 0) → Has r P → ((a : A) (rest : List T) → P a rest → Q a rest) → Has r Q
has_map (Ok x) P Q h k = k x.0 x.1 h
has_map (Err e) P Q h k = tt

-- The reader p is one of the form R, where what follows is one of Ends.
pub record Good {T A : Type 0} (R : Form T A) (p : Parse T A) (Ends : List T → Type 0) : Type 0 where
  pub takes : (ts : List T) → Has (p ts) (R ts)
  pub again : (ts : List T) (a : A) (rest : List T) → R ts a rest → Ends rest → p ts ≡ Ok (a, rest)
  pub less : (ts : List T) (a : A) (rest : List T) → R ts a rest → length rest < length ts

-- whatever follows
abbrev pub Any : {T : Type 0} → List T → Type 0
Any rest = Unit {0}

-- what may follow, but for these marks
abbrev pub Stops : {T S : Type 0} → (List T → Type 0) → Marks T S → List T → Type 0
Stops Ends marks rest = Ends rest × (marks rest ≡ None)

abbrev pub HasMark : {T S : Type 0} → Option (S × List T) → (S → List T → Type 0) → Type 0
HasMark None P = Unit {0}
HasMark (Some m) P = P m.0 m.1

-- marks are the tokens that mark makes
pub record AreMarks {T S : Type 0} (marks : Marks T S) (mark : S → T) : Type 0 where
  pub found : (ts : List T) → HasMark (marks ts) (λ m after. ts ≡ mark m ∷ after)
  pub again : (m : S) (after : List T) → marks (mark m ∷ after) ≡ Some (m, after)

module _ {T S A B : Type 0} (marks : Marks T S) (mark : S → T) (make : S → A → B) (R : Form T A) (p : Parse T A) (Ends : List T → Type 0)
    (are : AreMarks marks mark) (good : Good R p Ends) (stops : (m : S) (after : List T) → Ends (mark m ∷ after)) where
  by_mark : (more : Parse T (List B)) (ts : List T) (o : Option (S × List T)) → ((mid : List T) → Has (more mid) (TailOf mark make R mid)) → HasMark o (λ m after. ts ≡ mark m ∷ after) → Has (tail_step make p more ts o) (TailOf mark make R ts)
  by_mark more ts None k h = refl
  by_mark more ts (Some m) k h = then_has (p m.1) _ (R m.1) _ (good.takes m.1) (λ x d. then_has (more x.1) _ (TailOf mark make R x.1) _ (k x.1) (λ y t. (m.0, m.1, x.0, x.1, h, d, refl, t)))

  tail_takes : (n : ℕ) (ts : List T) → Has (tail marks make p n ts) (TailOf mark make R ts)
  unfolding tail
  tail_takes zero ts = refl
  tail_takes (suc n) ts = by_mark (tail marks make p n) ts (marks ts) (λ mid. tail_takes n mid) (are.found ts)

  mid_ends : (xs : List B) (mid rest : List T) → TailOf mark make R mid xs rest → Ends rest → Ends mid
  mid_ends [] mid rest t e = subst Ends (sym t) e
  mid_ends (x ∷ xs) mid rest t e = subst Ends (sym t.4) (stops t.0 t.1)

  tail_again : (n : ℕ) (xs : List B) (ts rest : List T) → length ts ≤ n → TailOf mark make R ts xs rest → Ends rest → marks rest ≡ None → tail marks make p n ts ≡ Ok (xs, rest)
  unfolding tail
  tail_again zero [] ts rest le t e none = ap (λ (r : List T). Ok ([], r)) t
  tail_again zero (x ∷ xs) ts rest le t e none = absurd (omega (arith, ap length t.4))
  tail_again (suc n) [] ts rest le t e none = rw (t, none) refl
  tail_again (suc n) (x ∷ xs) ts rest le t e none =
      let one : p t.1 ≡ Ok (t.2, t.3) = good.again t.1 t.2 t.3 t.5 (mid_ends xs t.3 rest t.7 e) in
      let two : tail marks make p n t.3 ≡ Ok (xs, rest) = tail_again n xs t.3 rest (omega (arith, ap length t.4, good.less t.1 t.2 t.3 t.5)) t.7 e none in
      rw (t.4, are.again t.0 t.1, one, two, t.6) refl

  tail_less : (xs : List B) (ts rest : List T) → TailOf mark make R ts xs rest → length rest ≤ length ts
  tail_less [] ts rest t = omega (arith, ap length t)
  tail_less (x ∷ xs) ts rest t = omega (arith, ap length t.4, good.less t.1 t.2 t.3 t.5, tail_less xs t.3 rest t.7)

-- first { mark operand }
module _ {T S A B C D : Type 0} (marks : Marks T S) (mark : S → T) (make : S → A → B) (R : Form T A) (p : Parse T A) (Ends : List T → Type 0)
    (are : AreMarks marks mark) (good : Good R p Ends) (stops : (m : S) (after : List T) → Ends (mark m ∷ after))
    (whole : C → List B → D) (RF : Form T C) (f : Parse T C) (EndsF : List T → Type 0)
    (good_f : Good RF f EndsF) (stops_f : (m : S) (after : List T) → EndsF (mark m ∷ after)) (narrow : (k : List T) → EndsF k → Ends k) where
  first_ends : (xs : List B) (mid rest : List T) → TailOf mark make R mid xs rest → EndsF rest → EndsF mid
  first_ends [] mid rest t e = subst EndsF (sym t) e
  first_ends (x ∷ xs) mid rest t e = subst EndsF (sym t.4) (stops_f t.0 t.1)

  chained_takes : (ts : List T) → Has (chained marks make p whole f ts) (ChainedOf mark make R whole RF ts)
  chained_takes ts = then_has (f ts) _ (RF ts) _ (good_f.takes ts) (λ x d. then_has (tails marks make p x.1) _ (TailOf mark make R x.1) _ (tail_takes marks mark make R p Ends are good stops (length x.1) x.1) (λ y t. (x.0, x.1, y.0, d, t, refl)))

  chained_again : (ts : List T) (e : D) (rest : List T) → ChainedOf mark make R whole RF ts e rest → Stops EndsF marks rest → chained marks make p whole f ts ≡ Ok (e, rest)
  chained_again ts e rest h ends =
      rw (good_f.again ts h.0 h.1 h.3 (first_ends h.2 h.1 rest h.4 ends.0), tail_again marks mark make R p Ends are good stops (length h.1) h.2 h.1 rest (omega arith) h.4 (narrow rest ends.0) ends.1, h.5) refl

  chained_less : (ts : List T) (e : D) (rest : List T) → ChainedOf mark make R whole RF ts e rest → length rest < length ts
  chained_less ts e rest h = omega (arith, good_f.less ts h.0 h.1 h.3, tail_less marks mark make R p Ends are good stops h.2 h.1 rest h.4)

  pub good_chained : Good (ChainedOf mark make R whole RF) (chained marks make p whole f) (Stops EndsF marks)
  good_chained = record { takes = chained_takes; again = chained_again; less = chained_less }
