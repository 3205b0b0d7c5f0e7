-- Readers put together from smaller ones. Where one fails, the tokens before begin a text, and what it awaited is due there;
-- and behind such a beginning it fails so at a token that is strange to it.
use Rattle.std.proofs.Common.{◌≡◌, ℕ, zero, suc, ◌≤◌, List, [], ◌∷◌, ◌++◌, length, Option, Some, None, Result, Ok, Err, refl, sym, ap, subst, ◌∙◌, arith, append_assoc, length-append, inl, inr}
use Rattle.sql_tokens.specs.declared.fault.Awaited.{Awaited}
use Rattle.sql_tokens.specs.declared.fault.Fault.{Fault}
use Rattle.sql_tokens.specs.declared.fault.Fault.TheVariants.{Syntax, TooDeep}
use Rattle.sql_tokens.specs.Grammar.{Form, TailOf, ChainedOf, part}
use Rattle.sql_tokens.specs.Reading.{◌>>=◌, Parse, Marks, tail, tail_step, tails, chained}
use Rattle.sql_tokens.proofs.Good.{Has, Any, Stops, HasMark, AreMarks, then_has, has_map}
use Rattle.sql_reader.specs.Parts.{Done, Then, Made, OneOf, Maybe, Behind, Listed, all_of}
use Rattle.sql_reader.specs.Steps.{done, both, made, needed_step, one_of, maybe_step, maybe, behind, listed}
use Rattle.sql_profile.specs.Beginnings.{Beginning, AtOnce, Nothing, ThenBegun, MarkBegun, OneBegun, BehindBegun, TailBegun, ChainBegun}

-- A text of a form is one whatever follows it.
pub record Frame {T A : Type 0} (R : Form T A) (ts : List T) (a : A) (rest : List T) : Type 0 where
  pub used : List T
  pub parts : ts ≡ used ++ rest
  pub framed : (other : List T) → R (used ++ other) a other

-- The tokens before the one that is refused begin a text, and what was awaited is due.
pub record Stop {T : Type 0} (D : Beginning T) (ts : List T) (left : ℕ) (awaited : Awaited) : Type 0 where
  pub used : List T
  pub rest : List T
  pub parts : ts ≡ used ++ rest
  pub left_is : length rest ≡ left
  pub due : D awaited used

abbrev pub Halts : {T X : Type 0} → Beginning T → List T → Result X Fault → Type 0
Halts D ts (Ok x) = Unit {0}
Halts D ts (Err (Syntax n w)) = Stop D ts n w
Halts D ts (Err (TooDeep n)) = Unit {0}

pub at_once : {T : Type 0} (v : Awaited) (ts : List T) → Stop (AtOnce v) ts (length ts) v
at_once v ts = record { used = []; rest = ts; parts = refl; left_is = refl; due = (refl, refl) }

pub widened : {T X : Type 0} (D E : Beginning T) (ts : List T) (r : Result X Fault) → ((w : Awaited) (u : List T) → D w u → E w u) → Halts D ts r → Halts E ts r
widened D E ts (Ok x) k h = tt
widened D E ts (Err (Syntax n w)) k h = record { used = h.used; rest = h.rest; parts = h.parts; left_is = h.left_is; due = k w h.used h.due }
widened D E ts (Err (TooDeep n)) k h = tt

-- what was read is made into something else
pub mapped : {T X Y : Type 0} (D : Beginning T) (ts : List T) (r : Result X Fault) (f : X → Y) → Halts D ts r → Halts D ts (r >>= λ x. Ok (f x))
mapped D ts (Ok x) f h = tt
mapped D ts (Err (Syntax n w)) f h = h
mapped D ts (Err (TooDeep n)) f h = tt

-- behind a token
pub prefixed : {T X : Type 0} (t : T) (D E : Beginning T) (ts : List T) (r : Result X Fault) → ((w : Awaited) (u : List T) → D w u → E w (t ∷ u)) → Halts D ts r → Halts E (t ∷ ts) r
prefixed t D E ts (Ok x) k h = tt
prefixed {T} t D E ts (Err (Syntax n w)) k h = record { used = t ∷ h.used; rest = h.rest; parts = ap (λ (l : List T). t ∷ l) h.parts; left_is = h.left_is; due = k w h.used h.due }
prefixed t D E ts (Err (TooDeep n)) k h = tt

-- one reading, and then another
module _ {T A : Type 0} (R : Form T A) (D E : Beginning T) (frames : (ts : List T) (a : A) (rest : List T) → R ts a rest → Frame R ts a rest) where
  second : {Y : Type 0} (ts : List T) (a : A) (mid : List T) (q : Result Y Fault) → R ts a mid → Halts E mid q → Halts (ThenBegun R D E) ts q
  second ts a mid (Ok y) r h = tt
  second ts a mid (Err (Syntax n w)) r h =
      let f = frames ts a mid r in
      record { used = f.used ++ h.used; rest = h.rest; parts = f.parts ∙ ap (λ (l : List T). f.used ++ l) h.parts ∙ sym (append_assoc f.used h.used h.rest); left_is = h.left_is; due = inr (a, h.used, f.framed h.used, h.due) }
  second ts a mid (Err (TooDeep n)) r h = tt

  pub then_halts : {Y : Type 0} (ts : List T) (r : Result (A × List T) Fault) (f : A × List T → Result Y Fault) → Has r (R ts) → Halts D ts r → ((a : A) (mid : List T) → Halts E mid (f (a, mid))) → Halts (ThenBegun R D E) ts (r >>= f)
  then_halts ts (Ok x) f has h k = second ts x.0 x.1 (f x) has (k x.0 x.1)
  then_halts ts (Err (Syntax n w)) f has h k = record { used = h.used; rest = h.rest; parts = h.parts; left_is = h.left_is; due = inl h.due }
  then_halts ts (Err (TooDeep n)) f has h k = tt

-- The reader p is one of the form R, where what follows is one of Ends; D are the beginnings that it fails behind.
pub record Begins {T A : Type 0} (strange : T) (R : Form T A) (p : Parse T A) (Ends : List T → Type 0) (D : Beginning T) : Type 0 where
  pub takes : (ts : List T) → Has (p ts) (R ts)
  pub again : (ts : List T) (a : A) (rest : List T) → R ts a rest → Ends rest → p ts ≡ Ok (a, rest)
  pub frames : (ts : List T) (a : A) (rest : List T) → R ts a rest → Frame R ts a rest
  pub halts : (ts : List T) → Halts D ts (p ts)
  pub met : (w : Awaited) (ts : List T) → D w ts → p (ts ++ strange ∷ []) ≡ Err (Syntax 1 w)

module _ {T A : Type 0} (strange : T) (R : Form T A) (p : Parse T A) (Ends : List T → Type 0) (D : Beginning T) (one : Begins strange R p Ends D) where
  -- a text of the form is read, with more behind what follows it
  pub passed : (ts : List T) (a : A) (mid other : List T) → R ts a mid → Ends (mid ++ other) → p (ts ++ other) ≡ Ok (a, mid ++ other)
  passed ts a mid other r ends =
      let f = one.frames ts a mid r in
      ap (λ (l : List T). p (l ++ other)) f.parts ∙ ap p (append_assoc f.used mid other) ∙ one.again (f.used ++ (mid ++ other)) a (mid ++ other) (f.framed (mid ++ other)) ends

  pub begins_narrow : (Narrow : List T → Type 0) → ((k : List T) → Narrow k → Ends k) → Begins strange R p Narrow D
  begins_narrow Narrow narrow = record { takes = one.takes; again = λ ts a rest r e. one.again ts a rest r (narrow rest e); frames = one.frames; halts = one.halts; met = one.met }

  pub begins_made : {B : Type 0} (make : A → B) → Begins strange (Made make R) (made make p) Ends D
  begins_made {B} make = record {
    takes = λ ts. then_has (p ts) _ (R ts) _ (one.takes ts) (λ x h. (x.0, h, refl));
    again = λ ts b rest h ends. rw (one.again ts h.0 rest h.1 ends, h.2) refl;
    frames = λ ts b rest h. let f = one.frames ts h.0 rest h.1 in record { used = f.used; parts = f.parts; framed = λ other. (h.0, f.framed other, h.2) };
    halts = λ ts. mapped D ts (p ts) (λ x. (make x.0, x.1)) (one.halts ts);
    met = λ w ts d. rw (one.met w ts d) refl;
  }

-- no token
pub begins_done : {T A : Type 0} (strange : T) (a : A) → Begins strange (Done {T = T} a) (done a) Any Nothing
begins_done {T} strange a = record {
  takes = λ ts. (refl, refl);
  again = λ ts b rest h ends. rw (h.0, h.1) refl;
  frames = λ ts b rest h. record { used = []; parts = h.0; framed = λ other. (refl, h.1) };
  halts = λ ts. tt;
  met = λ w ts d. absurd d;
}

-- the one, and then the other
pub begins_then : {T A B : Type 0} (strange : T) (R : Form T A) (p : Parse T A) (EndsR : List T → Type 0) (D : Beginning T) (S : Form T B) (q : Parse T B) (Ends : List T → Type 0) (E : Beginning T)
    → Begins strange R p EndsR D → Begins strange S q Ends E → ((mid : List T) (b : B) (rest : List T) → S mid b rest → Ends rest → EndsR mid) → ((w : Awaited) (mid : List T) → E w mid → EndsR (mid ++ strange ∷ []))
    → Begins strange (Then R S) (both p q) Ends (ThenBegun R D E)
begins_then {T} {A} {B} strange R p EndsR D S q Ends E one two ends follows = record {
  takes = λ ts. then_has (p ts) _ (R ts) _ (one.takes ts) (λ x r. then_has (q x.1) _ (S x.1) _ (two.takes x.1) (λ y s. (x.1, r, s)));
  again = λ ts x rest h e. rw (one.again ts x.0 h.0 h.1 (ends h.0 x.1 rest h.2 e), two.again h.0 x.1 rest h.2 e) refl;
  frames = frames;
  halts = λ ts. then_halts R D E one.frames ts (p ts) (λ x. q x.1 >>= λ y. Ok ((x.0, y.0), y.1)) (one.takes ts) (one.halts ts) (λ a mid. mapped E mid (q mid) (λ y. ((a, y.0), y.1)) (two.halts mid));
  met = met;
} where
  frames : (ts : List T) (x : A × B) (rest : List T) → Then R S ts x rest → Frame (Then R S) ts x rest
  frames ts x rest h =
      let f = one.frames ts x.0 h.0 h.1 in
      let g = two.frames h.0 x.1 rest h.2 in
      record {
        used = f.used ++ g.used;
        parts = f.parts ∙ ap (λ (l : List T). f.used ++ l) g.parts ∙ sym (append_assoc f.used g.used rest);
        framed = λ other. (g.used ++ other, subst (λ (l : List T). R l x.0 (g.used ++ other)) (sym (append_assoc f.used g.used other)) (f.framed (g.used ++ other)), g.framed other);
      }

  met : (w : Awaited) (ts : List T) → ThenBegun R D E w ts → both p q (ts ++ strange ∷ []) ≡ Err (Syntax 1 w)
  met w ts (inl d) = rw (one.met w ts d) refl
  met w ts (inr h) = rw (passed strange R p EndsR D one ts h.0 h.1 (strange ∷ []) h.2 (follows w h.1 h.3), two.met w h.1 h.3) refl

-- one of the marks, and then what belongs behind it
module _ {T S A : Type 0} (strange : T) (marks : Marks T S) (mark : S → T) (R : S → Form T A) (p : S → Parse T A) (Ends : List T → Type 0) (D : S → Beginning T)
    (are : AreMarks marks mark) (one : (s : S) → Begins strange (R s) (p s) Ends (D s)) where
  mark_frames : (ts : List T) (a : A) (rest : List T) → OneOf mark R ts a rest → Frame (OneOf mark R) ts a rest
  mark_frames ts a rest h =
      let f = (one h.0).frames h.1 a rest h.3 in
      record { used = mark h.0 ∷ f.used; parts = h.2 ∙ ap (λ (l : List T). mark h.0 ∷ l) f.parts; framed = λ other. (h.0, f.used ++ other, refl, f.framed other) }

  module _ (v : Awaited) (unmarked : marks (strange ∷ []) ≡ None) where
    one_takes : (ts : List T) (o : Option (S × List T)) → HasMark o (λ s after. ts ≡ mark s ∷ after) → Has (needed_step v ts o >>= λ m. p m.0 m.1) (OneOf mark R ts)
    one_takes ts None h = tt
    one_takes ts (Some m) h = has_map (p m.0 m.1) (R m.0 m.1) (OneOf mark R ts) ((one m.0).takes m.1) (λ a rest r. (m.0, m.1, h, r))

    one_halts : (ts : List T) (o : Option (S × List T)) → HasMark o (λ s after. ts ≡ mark s ∷ after) → Halts (OneBegun v mark D) ts (needed_step v ts o >>= λ m. p m.0 m.1)
    one_halts ts None h = record { used = []; rest = ts; parts = refl; left_is = refl; due = inl (refl, refl) }
    one_halts ts (Some m) h = subst (λ (l : List T). Halts (OneBegun v mark D) l (p m.0 m.1)) (sym h)
        (prefixed (mark m.0) (D m.0) (OneBegun v mark D) m.1 (p m.0 m.1) (λ w u d. inr (m.0, u, refl, d)) ((one m.0).halts m.1))

    one_met : (w : Awaited) (ts : List T) → OneBegun v mark D w ts → one_of marks v p (ts ++ strange ∷ []) ≡ Err (Syntax 1 w)
    one_met w ts (inl h) = rw (h.0, h.1, unmarked) refl
    one_met w ts (inr h) = rw (h.2, are.again h.0 (h.1 ++ strange ∷ [])) ((one h.0).met w h.1 h.3)

    pub begins_one : Begins strange (OneOf mark R) (one_of marks v p) Ends (OneBegun v mark D)
    begins_one = record {
      takes = λ ts. one_takes ts (marks ts) (are.found ts);
      again = λ ts a rest h ends. rw (h.2, are.again h.0 h.1) ((one h.0).again h.1 a rest h.3 ends);
      frames = mark_frames;
      halts = λ ts. one_halts ts (marks ts) (are.found ts);
      met = one_met;
    }

  maybe_takes : (ts : List T) (o : Option (S × List T)) → HasMark o (λ s after. ts ≡ mark s ∷ after) → Has (maybe_step p ts o) (Maybe mark R ts)
  maybe_takes ts None h = inl (refl, refl)
  maybe_takes ts (Some m) h = then_has (p m.0 m.1) _ (R m.0 m.1) _ ((one m.0).takes m.1) (λ x r. inr (x.0, (m.0, m.1, h, r), refl))

  maybe_again : (ts : List T) (o : Option A) (rest : List T) → Maybe mark R ts o rest → Stops Ends marks rest → maybe marks p ts ≡ Ok (o, rest)
  maybe_again ts o rest (inl h) ends = rw (h.0, h.1, ends.1) refl
  maybe_again ts o rest (inr h) ends = rw (h.1.2, are.again h.1.0 h.1.1, (one h.1.0).again h.1.1 h.0 rest h.1.3 ends.0, h.2) refl

  maybe_frames : (ts : List T) (o : Option A) (rest : List T) → Maybe mark R ts o rest → Frame (Maybe mark R) ts o rest
  maybe_frames ts o rest (inl h) = record { used = []; parts = h.0; framed = λ other. inl (refl, h.1) }
  maybe_frames ts o rest (inr h) = let f = mark_frames ts h.0 rest h.1 in record { used = f.used; parts = f.parts; framed = λ other. inr (h.0, f.framed other, h.2) }

  maybe_halts : (ts : List T) (o : Option (S × List T)) → HasMark o (λ s after. ts ≡ mark s ∷ after) → Halts (MarkBegun mark D) ts (maybe_step p ts o)
  maybe_halts ts None h = tt
  maybe_halts ts (Some m) h = subst (λ (l : List T). Halts {X = Option A × List T} (MarkBegun mark D) l (p m.0 m.1 >>= λ x. Ok (Some x.0, x.1))) (sym h)
      (prefixed (mark m.0) (D m.0) (MarkBegun mark D) m.1 (p m.0 m.1 >>= λ x. Ok (Some x.0, x.1)) (λ w u d. (m.0, u, refl, d)) (mapped (D m.0) m.1 (p m.0 m.1) (λ x. (Some x.0, x.1)) ((one m.0).halts m.1)))

  pub begins_maybe : Begins strange (Maybe mark R) (maybe marks p) (Stops Ends marks) (MarkBegun mark D)
  begins_maybe = record {
    takes = λ ts. maybe_takes ts (marks ts) (are.found ts);
    again = maybe_again;
    frames = maybe_frames;
    halts = λ ts. maybe_halts ts (marks ts) (are.found ts);
    met = λ w ts h. rw (h.2, are.again h.0 (h.1 ++ strange ∷ []), (one h.0).met w h.1 h.3) refl;
  }

-- first { mark operand }
module _ {T S A B C E : Type 0} (strange : T) (marks : Marks T S) (mark : S → T) (make : S → A → B) (R : Form T A) (p : Parse T A) (Ends : List T → Type 0) (D : Beginning T)
    (whole : C → List B → E) (RF : Form T C) (f : Parse T C) (EndsF : List T → Type 0) (DF : Beginning T)
    (are : AreMarks marks mark) (one : Begins strange R p Ends D) (first : Begins strange RF f EndsF DF)
    (stops : (m : S) (after : List T) → Ends (mark m ∷ after)) (stops_f : (m : S) (after : List T) → EndsF (mark m ∷ after)) (narrow : (k : List T) → EndsF k → Ends k) where
  Further : Beginning T
  Further = TailBegun mark make R D

  -- ---- what is read

  by_mark : (more : Parse T (List B)) (ts : List T) (o : Option (S × List T)) → ((mid : List T) → Has (more mid) (TailOf mark make R mid)) → HasMark o (λ m after. ts ≡ mark m ∷ after) → Has (tail_step make p more ts o) (TailOf mark make R ts)
  by_mark more ts None k h = refl
  by_mark more ts (Some m) k h = then_has (p m.1) _ (R m.1) _ (one.takes m.1) (λ x r. then_has (more x.1) _ (TailOf mark make R x.1) _ (k x.1) (λ y t. (m.0, m.1, x.0, x.1, h, r, refl, t)))

  tail_takes : (n : ℕ) (ts : List T) → Has (tail marks make p n ts) (TailOf mark make R ts)
  unfolding tail
  tail_takes zero ts = refl
  tail_takes (suc n) ts = by_mark (tail marks make p n) ts (marks ts) (λ mid. tail_takes n mid) (are.found ts)

  mid_ends : (P : List T → Type 0) → ((m : S) (after : List T) → P (mark m ∷ after)) → (xs : List B) (mid rest : List T) → TailOf mark make R mid xs rest → P rest → P mid
  mid_ends P stop [] mid rest t e = subst P (sym t) e
  mid_ends P stop (x ∷ xs) mid rest t e = subst P (sym t.4) (stop t.0 t.1)

  shorter : (ts : List T) (a : A) (rest : List T) → R ts a rest → length rest ≤ length ts
  shorter ts a rest r = let g = one.frames ts a rest r in omega (arith, ap length g.parts, length-append g.used rest)

  tail_again : (n : ℕ) (xs : List B) (ts rest : List T) → length ts ≤ n → TailOf mark make R ts xs rest → Ends rest → marks rest ≡ None → tail marks make p n ts ≡ Ok (xs, rest)
  unfolding tail
  tail_again zero [] ts rest le t e none = ap (λ (r : List T). Ok ([], r)) t
  tail_again zero (x ∷ xs) ts rest le t e none = absurd (omega (arith, ap length t.4))
  tail_again (suc n) [] ts rest le t e none = rw (t, none) refl
  tail_again (suc n) (x ∷ xs) ts rest le t e none =
      let here : p t.1 ≡ Ok (t.2, t.3) = one.again t.1 t.2 t.3 t.5 (mid_ends Ends stops xs t.3 rest t.7 e) in
      let others : tail marks make p n t.3 ≡ Ok (xs, rest) = tail_again n xs t.3 rest (omega (arith, ap length t.4, shorter t.1 t.2 t.3 t.5)) t.7 e none in
      rw (t.4, are.again t.0 t.1, here, others, t.6) refl

  chain_takes : (ts : List T) → Has (chained marks make p whole f ts) (ChainedOf mark make R whole RF ts)
  chain_takes ts = then_has (f ts) _ (RF ts) _ (first.takes ts) (λ x r. then_has (tails marks make p x.1) _ (TailOf mark make R x.1) _ (tail_takes (length x.1) x.1) (λ y t. (x.0, x.1, y.0, r, t, refl)))

  chain_again : (ts : List T) (e : E) (rest : List T) → ChainedOf mark make R whole RF ts e rest → Stops EndsF marks rest → chained marks make p whole f ts ≡ Ok (e, rest)
  chain_again ts e rest h ends = rw (first.again ts h.0 h.1 h.3 (mid_ends EndsF stops_f h.2 h.1 rest h.4 ends.0), tail_again (length h.1) h.2 h.1 rest (omega arith) h.4 (narrow rest ends.0) ends.1, h.5) refl

  -- ---- whatever follows

  tail_frames : (xs : List B) (ts rest : List T) → TailOf mark make R ts xs rest → Frame (TailOf mark make R) ts xs rest
  tail_frames [] ts rest t = record { used = []; parts = t; framed = λ other. refl }
  tail_frames (x ∷ xs) ts rest t =
      let g = one.frames t.1 t.2 t.3 t.5 in
      let k = tail_frames xs t.3 rest t.7 in
      record {
        used = mark t.0 ∷ (g.used ++ k.used);
        parts = t.4 ∙ ap (λ (l : List T). mark t.0 ∷ l) (g.parts ∙ ap (λ (l : List T). g.used ++ l) k.parts ∙ sym (append_assoc g.used k.used rest));
        framed = λ other. (t.0, (g.used ++ k.used) ++ other, t.2, k.used ++ other, refl, subst (λ (l : List T). R l t.2 (k.used ++ other)) (sym (append_assoc g.used k.used other)) (g.framed (k.used ++ other)), t.6, k.framed other);
      }

  chain_frames : (ts : List T) (e : E) (rest : List T) → ChainedOf mark make R whole RF ts e rest → Frame (ChainedOf mark make R whole RF) ts e rest
  chain_frames ts e rest h =
      let g = first.frames ts h.0 h.1 h.3 in
      let k = tail_frames h.2 h.1 rest h.4 in
      record {
        used = g.used ++ k.used;
        parts = g.parts ∙ ap (λ (l : List T). g.used ++ l) k.parts ∙ sym (append_assoc g.used k.used rest);
        framed = λ other. (h.0, k.used ++ other, h.2, subst (λ (l : List T). RF l h.0 (k.used ++ other)) (sym (append_assoc g.used k.used other)) (g.framed (k.used ++ other)), k.framed other, h.5);
      }

  -- ---- where it fails

  behind_mark : (m : S) (w : Awaited) (u : List T) → ThenBegun R D Further w u → Further w (mark m ∷ u)
  unfolding Further
  behind_mark m w u (inl d) = ([], mark m ∷ u, refl, (m, u, refl, d))
  behind_mark m w u (inr h) = (make m h.0 ∷ h.3.0, h.3.1, (m, u, h.0, h.1, refl, h.2, refl, h.3.2), h.3.3)

  step_halts : (n : ℕ) (ts : List T) (o : Option (S × List T)) → ((mid : List T) → Halts Further mid (tail marks make p n mid)) → HasMark o (λ m after. ts ≡ mark m ∷ after) → Halts Further ts (tail_step make p (tail marks make p n) ts o)
  step_halts n ts None k h = tt
  step_halts n ts (Some m) k h = subst (λ (l : List T). Halts {X = List B × List T} Further l (p m.1 >>= λ x. tail marks make p n x.1 >>= λ y. Ok (make m.0 x.0 ∷ y.0, y.1))) (sym h)
      (prefixed (mark m.0) (ThenBegun R D Further) Further m.1 (p m.1 >>= λ x. tail marks make p n x.1 >>= λ y. Ok (make m.0 x.0 ∷ y.0, y.1)) (behind_mark m.0)
      (then_halts R D Further one.frames m.1 (p m.1) (λ x. tail marks make p n x.1 >>= λ y. Ok (make m.0 x.0 ∷ y.0, y.1)) (one.takes m.1) (one.halts m.1) (λ a mid. mapped Further mid (tail marks make p n mid) (λ y. (make m.0 a ∷ y.0, y.1)) (k mid))))

  tail_halts : (n : ℕ) (ts : List T) → Halts Further ts (tail marks make p n ts)
  unfolding tail
  tail_halts zero ts = tt
  tail_halts (suc n) ts = step_halts n ts (marks ts) (λ mid. tail_halts n mid) (are.found ts)

  chain_halts : (ts : List T) → Halts (ChainBegun mark make R D RF DF) ts (chained marks make p whole f ts)
  unfolding Further
  chain_halts ts = then_halts RF DF Further first.frames ts (f ts) (λ x. tails marks make p x.1 >>= λ y. Ok (whole x.0 y.0, y.1)) (first.takes ts) (first.halts ts) (λ a mid. mapped Further mid (tails marks make p mid) (λ y. (whole a y.0, y.1)) (tail_halts (length mid) mid))

  -- ---- behind a beginning

  starts : (P : List T → Type 0) → ((m : S) (after : List T) → P (mark m ∷ after)) → (w : Awaited) (xs : List B) (ts mid other : List T) → TailOf mark make R ts xs mid → MarkBegun mark (λ _. D) w mid → P (ts ++ other)
  starts P stop w [] ts mid other t h = subst (λ (l : List T). P (l ++ other)) (sym (t ∙ h.2)) (stop h.0 (h.1 ++ other))
  starts P stop w (x ∷ xs) ts mid other t h = subst (λ (l : List T). P (l ++ other)) (sym t.4) (stop t.0 (t.1 ++ other))

  tail_met : (n : ℕ) (w : Awaited) (xs : List B) (ts mid : List T) → length ts ≤ n → TailOf mark make R ts xs mid → MarkBegun mark (λ _. D) w mid → tail marks make p n (ts ++ strange ∷ []) ≡ Err (Syntax 1 w)
  unfolding tail
  tail_met zero w [] ts mid le t h = absurd (omega (arith, le, ap length t, ap length h.2))
  tail_met zero w (x ∷ xs) ts mid le t h = absurd (omega (arith, le, ap length t.4))
  tail_met (suc n) w [] ts mid le t h = rw (t ∙ h.2, are.again h.0 (h.1 ++ strange ∷ []), one.met w h.1 h.3) refl
  tail_met (suc n) w (x ∷ xs) ts mid le t h =
      let here : p (t.1 ++ strange ∷ []) ≡ Ok (t.2, t.3 ++ strange ∷ []) = passed strange R p Ends D one t.1 t.2 t.3 (strange ∷ []) t.5 (starts Ends stops w xs t.3 mid (strange ∷ []) t.7 h) in
      let others : tail marks make p n (t.3 ++ strange ∷ []) ≡ Err (Syntax 1 w) = tail_met n w xs t.3 mid (omega (arith, le, ap length t.4, shorter t.1 t.2 t.3 t.5)) t.7 h in
      rw (t.4, are.again t.0 (t.1 ++ strange ∷ []), here, others) refl

  chain_met : (w : Awaited) (ts : List T) → ChainBegun mark make R D RF DF w ts → chained marks make p whole f (ts ++ strange ∷ []) ≡ Err (Syntax 1 w)
  chain_met w ts (inl d) = rw (first.met w ts d) refl
  chain_met w ts (inr h) =
      let here : f (ts ++ strange ∷ []) ≡ Ok (h.0, h.1 ++ strange ∷ []) = passed strange RF f EndsF DF first ts h.0 h.1 (strange ∷ []) h.2 (starts EndsF stops_f w h.3.0 h.1 h.3.1 (strange ∷ []) h.3.2 h.3.3) in
      let others : tails marks make p (h.1 ++ strange ∷ []) ≡ Err (Syntax 1 w) = tail_met (length (h.1 ++ strange ∷ [])) w h.3.0 h.1 h.3.1 (omega (arith, length-append h.1 (strange ∷ []))) h.3.2 h.3.3 in
      rw (here, others) refl

  pub begins_chain : Begins strange (ChainedOf mark make R whole RF) (chained marks make p whole f) (Stops EndsF marks) (ChainBegun mark make R D RF DF)
  begins_chain = record { takes = chain_takes; again = chain_again; frames = chain_frames; halts = chain_halts; met = chain_met }

-- the beginnings are these too
pub begins_as : {T A : Type 0} (strange : T) (R : Form T A) (p : Parse T A) (Ends : List T → Type 0) (D E : Beginning T) → ((w : Awaited) (u : List T) → D w u → E w u) → ((w : Awaited) (u : List T) → E w u → D w u) → Begins strange R p Ends D → Begins strange R p Ends E
begins_as strange R p Ends D E to from one = record { takes = one.takes; again = one.again; frames = one.frames; halts = λ ts. widened D E ts (p ts) to (one.halts ts); met = λ w ts e. one.met w ts (from w ts e) }

-- one of the marks, behind which nothing is due
pub begins_needed : {T S A : Type 0} (strange : T) (marks : Marks T S) (mark : S → T) (R : S → Form T A) (p : S → Parse T A) (Ends : List T → Type 0) → AreMarks marks mark → ((s : S) → Begins strange (R s) (p s) Ends Nothing) → (v : Awaited) → marks (strange ∷ []) ≡ None → Begins strange (OneOf mark R) (one_of marks v p) Ends (AtOnce v)
begins_needed {T} {S} strange marks mark R p Ends are one v unmarked = begins_as strange (OneOf mark R) (one_of marks v p) Ends (OneBegun v mark (λ _. Nothing)) (AtOnce v) to (λ w u e. inl e) (begins_one strange marks mark R p Ends (λ _. Nothing) are one v unmarked) where
  to : (w : Awaited) (u : List T) → OneBegun v mark (λ _. Nothing) w u → AtOnce v w u
  to w u (inl h) = h
  to w u (inr h) = absurd h.3

-- the same, or no token
pub begins_free : {T S A : Type 0} (strange : T) (marks : Marks T S) (mark : S → T) (R : S → Form T A) (p : S → Parse T A) (Ends : List T → Type 0) → AreMarks marks mark → ((s : S) → Begins strange (R s) (p s) Ends Nothing) → Begins strange (Maybe mark R) (maybe marks p) (Stops Ends marks) Nothing
begins_free strange marks mark R p Ends are one = begins_as strange (Maybe mark R) (maybe marks p) (Stops Ends marks) (MarkBegun mark (λ _. Nothing)) Nothing (λ w u h. h.3) (λ w u h. absurd h) (begins_maybe strange marks mark R p Ends (λ _. Nothing) are one)

-- a mark that stands alone, and what follows it
pub begins_behind : {T A : Type 0} (strange : T) (marks : Marks T (Unit {0})) (mark : Unit {0} → T) (R : Form T A) (p : Parse T A) (Ends : List T → Type 0) (D : Beginning T) → AreMarks marks mark → Begins strange R p Ends D → (v : Awaited) → marks (strange ∷ []) ≡ None → Begins strange (Behind mark R) (behind marks v p) Ends (BehindBegun v mark D)
begins_behind strange marks mark R p Ends D are one v unmarked = begins_one strange marks mark (λ _. R) (λ _. p) Ends (λ _. D) are (λ _. one) v unmarked

-- one { mark one }
pub begins_listed : {T A : Type 0} (strange : T) (marks : Marks T (Unit {0})) (mark : Unit {0} → T) (R : Form T A) (p : Parse T A) (Ends : List T → Type 0) (D : Beginning T) → AreMarks marks mark → Begins strange R p Ends D → ((m : Unit {0}) (after : List T) → Ends (mark m ∷ after)) → Begins strange (Listed mark R) (listed marks p) (Stops Ends marks) (ChainBegun mark part R D R D)
begins_listed strange marks mark R p Ends D are one stop = begins_chain strange marks mark part R p Ends D all_of R p Ends D are one one stop stop (λ k h. h)

-- what stands behind a beginning
pub at_once_follows : {T : Type 0} (strange : T) (P : List T → Type 0) (v w : Awaited) (mid : List T) → P (strange ∷ []) → AtOnce v w mid → P (mid ++ strange ∷ [])
at_once_follows {T} strange P v w mid p h = subst (λ (l : List T). P (l ++ strange ∷ [])) (sym h.0) p

pub mark_follows : {T S : Type 0} (strange : T) (P : List T → Type 0) (mark : S → T) (D : S → Beginning T) (w : Awaited) (mid : List T) → ((s : S) (after : List T) → P (mark s ∷ after)) → MarkBegun mark D w mid → P (mid ++ strange ∷ [])
mark_follows {T} strange P mark D w mid p h = subst (λ (l : List T). P (l ++ strange ∷ [])) (sym h.2) (p h.0 (h.1 ++ strange ∷ []))
