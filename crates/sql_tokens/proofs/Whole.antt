-- The laws of a whole text, read by readers that may nest deeper and deeper.
use Rattle.std.proofs.Common.{◌≡◌, ℕ, zero, suc, true, List, [], ◌∷◌, ◌++◌, length, Some, Result, Ok, Err, refl, sym, ap, subst, ◌∙◌, append_assoc, ◌+◌, arith}
use Rattle.std.specs.Prelude.{IfOk}
use Rattle.std.proofs.lemmas.List.{append-nil}
use Rattle.sql_tokens.specs.declared.fault.Awaited.{Awaited}
use Rattle.sql_tokens.specs.declared.fault.Fault.{Fault}
use Rattle.sql_tokens.specs.declared.fault.Fault.TheVariants.{Syntax, TooDeep}
use Rattle.sql_tokens.specs.declared.fault.ReadError.{ReadError}
use Rattle.sql_tokens.specs.declared.fault.ReadError.TheVariants as errors
use Rattle.sql_tokens.specs.Grammar.{Form, NoneGoesOn, IsPlace, IsTooDeep}
use Rattle.sql_tokens.specs.Reading.{◌>>=◌, Gives, Parse, end_at, whole_of}
use Rattle.sql_tokens.proofs.Good.{Has}
use Rattle.sql_tokens.proofs.Told.{head, Begun, Taken, Passed, Told}
use Rattle.sql_tokens.proofs.Depth.{IsDeep, Same, past, stays_past}

past_is : (k d : ℕ) → past k d ≡ k + d
past_is zero d = omega arith
past_is (suc k) d = ap suc (past_is k d) ∙ omega arith

both : (a b : ℕ) → past a b ≡ past b a
both a b = past_is a b ∙ (let e : a + b ≡ b + a = omega arith in e) ∙ sym (past_is b a)

-- What the reader p takes is of the form R, and what is of it is read, where what follows is one of Ends. A text may be empty.
pub record Reads {T A : Type 0} (R : Form T A) (p : Parse T A) (Ends : List T → Type 0) : Type 0 where
  pub takes : (ts : List T) → Has (p ts) (R ts)
  pub again : (ts : List T) (a : A) (rest : List T) → R ts a rest → Ends rest → p ts ≡ Ok (a, rest)

-- Of and at: the texts and the reader, at a number of nestings; Within is of the forms that may nest one deeper.
module _ {T A : Type 0} (Of : ℕ → Form T A) (at : ℕ → Parse T A) (Ends : List T → Type 0) (awaited : Awaited)
    (reads : (d : ℕ) → Reads (Of d) (at d) Ends)
    (told : (d : ℕ) (ts : List T) → Told true (Of (suc d)) (at d) Ends ts (at d ts))
    (same : (d : ℕ) (ts : List T) → Same (at d ts) (at (suc d) ts))
    (ends : Ends []) where
  -- ts is a text of a, within so many nestings, or with no limit
  abbrev pub Texts : ℕ → List T → A → Type 0
  Texts d ts a = Of d ts a []

  abbrev pub Derives : List T → A → Type 0
  Derives ts a = (d : ℕ) × Texts d ts a

  abbrev pub whole_at : ℕ → List T → Result A Fault
  whole_at d ts = whole_of awaited (at d) ts

  finish : Result (A × List T) Fault → Result A Fault
  finish r = r >>= λ x. end_at awaited x.0 x.1

  ended : (ts : List T) (d : ℕ) (x : A × List T) → Of d ts x.0 x.1 → IfOk (end_at awaited x.0 x.1) (λ a. Texts d ts a)
  ended ts d (a, []) h = h
  ended ts d (a, t ∷ rest) h = tt

  by_read : (ts : List T) (d : ℕ) (r : Result (A × List T) Fault) → Has r (Of d ts) → IfOk (r >>= λ x. end_at awaited x.0 x.1) (λ a. Texts d ts a)
  by_read ts d (Ok x) h = ended ts d x h
  by_read ts d (Err e) h = tt

  pub whole_takes : (d : ℕ) (ts : List T) → IfOk (whole_at d ts) (λ a. Texts d ts a)
  whole_takes d ts = by_read ts d (at d ts) ((reads d).takes ts)

  pub whole_again : (d : ℕ) (ts : List T) (a : A) → Texts d ts a → whole_at d ts ≡ Ok a
  unfolding finish
  whole_again d ts a h = ap finish ((reads d).again ts a [] h ends)

  not_deep : (r : Result (A × List T) Fault) (n : ℕ) (w : Awaited) → (r >>= λ x. end_at awaited x.0 x.1) ≡ Err (Syntax n w) → IsDeep r → ⊥
  not_deep (Ok x) n w e h = h
  not_deep (Err (Syntax m v)) n w e h = h
  not_deep (Err (TooDeep m)) n w e h = absurd cc

  -- a text that is refused at one depth is of the grammar at none
  none_of : (d : ℕ) (ts : List T) (a : A) (n : ℕ) (w : Awaited) → whole_at d ts ≡ Err (Syntax n w) → Derives ts a → ⊥
  unfolding finish
  none_of d ts a n w is h =
      let b : at h.0 ts ≡ Ok (a, []) = (reads h.0).again ts a [] h.1 ends in
      let r1 : at d ts ≡ at (past h.0 d) ts = stays_past (λ m. at m ts) (λ m. same m ts) h.0 d (not_deep (at d ts) n w is) in
      let r2 : at h.0 ts ≡ at (past d h.0) ts = stays_past (λ m. at m ts) (λ m. same m ts) d h.0 (λ x. subst IsDeep b x) in
      let j : at d ts ≡ Ok (a, []) = r1 ∙ ap (λ (m : ℕ). at m ts) (both h.0 d) ∙ sym r2 ∙ b in
      let k : whole_at d ts ≡ Ok a = ap finish j in
      cc

  none_goes_on : (d : ℕ) (front rest : List T) → ((other : List T) → head other ≡ head rest → (n : ℕ) × (w : Awaited) × (whole_at d (front ++ other) ≡ Err (Syntax n w))) → NoneGoesOn Derives front rest
  none_goes_on d front [] k = λ a h. let f = k [] refl in none_of d front a f.0 f.1 (ap (whole_at d) (sym (append-nil front)) ∙ f.2) h
  none_goes_on d front (t ∷ rest) k = λ c. let f = k (t ∷ c.0) refl in none_of d (front ++ t ∷ c.0) c.1 f.0 f.1 f.2 (subst (λ (l : List T). Derives l c.1) (append_assoc front (t ∷ []) c.0) c.2)

  -- what the reader and then the end say, from what the reader says
  from_err : (d : ℕ) (ts : List T) (e : Fault) → at d ts ≡ Err e → whole_at d ts ≡ Err e
  unfolding finish
  from_err d ts e h = ap finish h

  from_ok : (d : ℕ) (ts : List T) (a : A) (t : T) (rest : List T) → at d ts ≡ Ok (a, t ∷ rest) → whole_at d ts ≡ Err (Syntax (suc (length rest)) awaited)
  unfolding finish
  from_ok d ts a t rest h = ap finish h

  at_end : (d : ℕ) (ts : List T) (a : A) (rest : List T) (n : ℕ) (w : Awaited) → Taken (Of (suc d)) (at d) ts a rest → end_at awaited a rest ≡ Err (Syntax n w) → IsPlace Derives ts n
  at_end d ts a [] n w one is = absurd cc
  at_end d ts a (t ∷ rest) n w one is = record {
    front = one.used;
    rest = t ∷ rest;
    parts = one.parts;
    left_is = cc;
    before = ([], a, (suc d, one.framed []));
    here = none_goes_on d one.used (t ∷ rest) (λ other h. trailing other h);
  } where
    trailing : (other : List T) → head other ≡ Some t → (n : ℕ) × (w : Awaited) × (whole_at d (one.used ++ other) ≡ Err (Syntax n w))
    trailing [] h = absurd cc
    trailing (u ∷ other) h = (suc (length other), awaited, from_ok d (one.used ++ u ∷ other) a u other (one.same (u ∷ other) h))

  by_told : (d : ℕ) (ts : List T) (n : ℕ) (w : Awaited) (r : Result (A × List T) Fault) → Told true (Of (suc d)) (at d) Ends ts r → (r >>= λ x. end_at awaited x.0 x.1) ≡ Err (Syntax n w) → IsPlace Derives ts n
  by_told d ts n w (Ok x) one is = at_end d ts x.0 x.1 n w one is
  by_told d ts n w (Err (Syntax m v)) one is = record {
    front = one.used;
    rest = one.rest;
    parts = one.parts;
    left_is = one.left_is ∙ (let e : m ≡ n = cc in e);
    before = (one.more, one.tree, (suc d, subst (λ (l : List T). Of (suc d) (one.used ++ l) one.tree []) (append-nil one.more) (one.goes_on [] ends)));
    here = none_goes_on d one.used one.rest (λ other h. (length other, v, from_err d (one.used ++ other) (Syntax (length other) v) (one.same other h)));
  }
  by_told d ts n w (Err (TooDeep m)) one is = absurd cc

  pub whole_place : (d : ℕ) (ts : List T) (n : ℕ) (w : Awaited) → whole_at d ts ≡ Err (Syntax n w) → IsPlace Derives ts n
  whole_place d ts n w is = by_told d ts n w (at d ts) (told d ts) is

  -- the last of the tokens that were read
  data Last (used : List T) : Type 0 where
    last : (front : List T) (t : T) → used ≡ front ++ t ∷ [] → Last used

  last_of : (t : T) (used : List T) → Last (t ∷ used)
  last_of t [] = last [] t refl
  last_of t (u ∷ used) = longer (last_of u used) where
    longer : Last (u ∷ used) → Last (t ∷ u ∷ used)
    longer (last front v e) = last (t ∷ front) v (ap (λ (l : List T). t ∷ l) e)

  last_begun : (d : ℕ) (ts : List T) (n : ℕ) (one : Passed true (Of (suc d)) (at d) Ends ts n) → Last one.used
  last_begun d ts n one = by one.used one.begun where
    by : (used : List T) → Begun true used → Last used
    by [] h = absurd h
    by (t ∷ used) h = last_of t used

  deep_at : (d : ℕ) (ts : List T) (n : ℕ) (one : Passed true (Of (suc d)) (at d) Ends ts n) → Last one.used → IsTooDeep Derives (Texts d) ts n
  deep_at d ts n one (last front t e) = record {
    front = front;
    token = t;
    rest = one.rest;
    parts = one.parts ∙ ap (λ (l : List T). l ++ one.rest) e ∙ append_assoc front (t ∷ []) one.rest;
    left_is = one.left_is;
    goes_on = subst (λ (l : List T). (more : List T) × (a : A) × Derives (l ++ more) a) e (one.more, one.tree, (suc d, subst (λ (l : List T). Of (suc d) (one.used ++ l) one.tree []) (append-nil one.more) (one.goes_on [] ends)));
    none_within = λ c. none (subst (λ (l : List T). (more : List T) × (a : A) × Texts d (l ++ more) a) (sym e) c);
  } where
    none : (more : List T) × (a : A) × Texts d (one.used ++ more) a → ⊥
    none c =
        let j : whole_at d (one.used ++ c.0) ≡ Ok c.1 = whole_again d (one.used ++ c.0) c.1 c.2 in
        let k : whole_at d (one.used ++ c.0) ≡ Err (TooDeep (suc (length c.0))) = from_err d (one.used ++ c.0) (TooDeep (suc (length c.0))) (one.same c.0) in
        cc

  no_end : (a : A) (rest : List T) (n : ℕ) → end_at awaited a rest ≡ Err (TooDeep n) → ⊥
  no_end a [] n e = cc
  no_end a (t ∷ rest) n e = cc

  by_deep : (d : ℕ) (ts : List T) (n : ℕ) (r : Result (A × List T) Fault) → Told true (Of (suc d)) (at d) Ends ts r → (r >>= λ x. end_at awaited x.0 x.1) ≡ Err (TooDeep n) → IsTooDeep Derives (Texts d) ts n
  by_deep d ts n (Ok x) one is = absurd (no_end x.0 x.1 n is)
  by_deep d ts n (Err (Syntax m v)) one is = absurd cc
  by_deep d ts n (Err (TooDeep m)) one is = let e : m ≡ n = cc in subst (λ (l : ℕ). IsTooDeep Derives (Texts d) ts l) e (deep_at d ts m one (last_begun d ts m one))

  pub whole_deep : (d : ℕ) (ts : List T) (n : ℕ) → whole_at d ts ≡ Err (TooDeep n) → IsTooDeep Derives (Texts d) ts n
  whole_deep d ts n is = by_deep d ts n (at d ts) (told d ts) is

  -- what was returned
  pub is_found : (d : ℕ) (ts : List T) (r : Result A ReadError) → Gives (λ x. x) r (whole_at d ts) → IfOk r (λ a. Texts d ts a)
  is_found d ts (Ok a) g = rw g at (whole_takes d ts)
  is_found d ts (Err e) g = tt

  pub is_only : (d : ℕ) (ts : List T) (r : Result A ReadError) → Gives (λ x. x) r (whole_at d ts) → (a : A) → Texts d ts a → Gives (λ x. x) r (Ok a)
  is_only d ts r g a h = subst (λ (o : Result A Fault). Gives (λ x. x) r o) (whole_again d ts a h) g

  pub is_place : (d : ℕ) (ts : List T) (r : Result A ReadError) (n : ℕ) (w : Awaited) → Gives (λ x. x) r (whole_at d ts) → r ≡ Err (errors.Fault (Syntax n w)) → IsPlace Derives ts n
  is_place d ts r n w g e = whole_place d ts n w (subst (λ (r : Result A ReadError). Gives (λ x. x) r (whole_at d ts)) e g)

  pub is_deep : (d : ℕ) (ts : List T) (r : Result A ReadError) (n : ℕ) → Gives (λ x. x) r (whole_at d ts) → r ≡ Err (errors.Fault (TooDeep n)) → IsTooDeep Derives (Texts d) ts n
  is_deep d ts r n g e = whole_deep d ts n (subst (λ (r : Result A ReadError). Gives (λ x. x) r (whole_at d ts)) e g)
