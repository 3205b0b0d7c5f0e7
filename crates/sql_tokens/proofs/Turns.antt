-- The parts of a chain fail at the first token at which no further part can go on.
use Rattle.std.proofs.Common.{◌≡◌, ℕ, zero, suc, ◌≤◌, Bool, true, List, [], ◌∷◌, ◌++◌, length, Option, Some, None, Result, Ok, Err, refl, sym, ap, subst, ◌∙◌, arith, append_assoc, length-append}
use Rattle.sql_tokens.specs.declared.fault.Awaited.{Awaited}
use Rattle.sql_tokens.specs.declared.fault.Fault.{Fault}
use Rattle.sql_tokens.specs.declared.fault.Fault.TheVariants.{Syntax, TooDeep}
use Rattle.sql_tokens.specs.Grammar.{Form, TailOf}
use Rattle.sql_tokens.specs.Reading.{◌>>=◌, Parse, Marks, tail, tail_step, tails}
use Rattle.sql_tokens.proofs.Good.{AreMarks, HasMark, Stops}
use Rattle.sql_tokens.proofs.Told.{head, same_head, Begun, begun_head, Taken, Told}

module _ {T S A B : Type 0} (among : Bool) (marks : Marks T S) (mark : S → T) (make : S → A → B) (R : Form T A) (p : Parse T A) (Ends : List T → Type 0)
    (are : AreMarks marks mark) (told : (ts : List T) → Told among R p Ends ts (p ts)) (nothing : marks [] ≡ None)
    (stays : (ts other : List T) → head other ≡ head ts → marks ts ≡ None → marks other ≡ None) where
  pub record Had (ts : List T) (xs : List B) (rest : List T) : Type 0 where
    pub used : List T
    pub parts : ts ≡ used ++ rest
    pub same : (other : List T) (m : ℕ) → length (used ++ other) ≤ m → head other ≡ head rest → tail marks make p m (used ++ other) ≡ Ok (xs, other)
    pub framed : (other : List T) → TailOf mark make R (used ++ other) xs other

  pub record Lost (ts : List T) (left : ℕ) (awaited : Awaited) : Type 0 where
    pub used : List T
    pub rest : List T
    pub parts : ts ≡ used ++ rest
    pub left_is : length rest ≡ left
    pub same : (other : List T) (m : ℕ) → length (used ++ other) ≤ m → head other ≡ head rest → tail marks make p m (used ++ other) ≡ Err (Syntax (length other) awaited)
    pub more : List T
    pub tree : List B
    pub goes_on : (k : List T) → Stops Ends marks k → TailOf mark make R (used ++ (more ++ k)) tree k

  pub record Over (ts : List T) (left : ℕ) : Type 0 where
    pub used : List T
    pub rest : List T
    pub begun : Begun true used
    pub parts : ts ≡ used ++ rest
    pub left_is : suc (length rest) ≡ left
    pub same : (other : List T) (m : ℕ) → length (used ++ other) ≤ m → tail marks make p m (used ++ other) ≡ Err (TooDeep (suc (length other)))
    pub more : List T
    pub tree : List B
    pub goes_on : (k : List T) → Stops Ends marks k → TailOf mark make R (used ++ (more ++ k)) tree k

  abbrev pub Turned : List T → Result (List B × List T) Fault → Type 0
  Turned ts (Ok x) = Had ts x.0 x.1
  Turned ts (Err (Syntax n w)) = Lost ts n w
  Turned ts (Err (TooDeep n)) = Over ts n

  ended : (m : ℕ) (ts : List T) → marks ts ≡ None → tail marks make p m ts ≡ Ok ([], ts)
  unfolding tail
  ended zero ts h = refl
  ended (suc m) ts h = rw h refl

  step_err : (m : ℕ) (s : S) (after : List T) (e : Fault) → length (mark s ∷ after) ≤ m → p after ≡ Err e → tail marks make p m (mark s ∷ after) ≡ Err e
  unfolding tail
  step_err zero s after e le h = absurd (omega arith)
  step_err (suc m) s after e le h = rw (are.again s after, h) refl

  step_ok : (m : ℕ) (s : S) (after mid : List T) (x : A) (r : Result (List B × List T) Fault) → length (mark s ∷ after) ≤ m → p after ≡ Ok (x, mid) → length mid ≤ length after
      → ((n : ℕ) → length mid ≤ n → tail marks make p n mid ≡ r) → tail marks make p m (mark s ∷ after) ≡ (r >>= λ y. Ok (make s x ∷ y.0, y.1))
  unfolding tail
  step_ok zero s after mid x r le h lt k = absurd (omega arith)
  step_ok (suc m) s after mid x r le h lt k = rw (are.again s after, h, k m (omega arith)) refl

  -- a part that was taken behind its mark, and what is read of the others
  later : (s : S) (after : List T) (x : A) (mid : List T) (one : Taken R p after x mid) (used other : List T) (m : ℕ) (r : Result (List B × List T) Fault)
      → length (mark s ∷ ((one.used ++ used) ++ other)) ≤ m → head (used ++ other) ≡ head mid → ((n : ℕ) → length (used ++ other) ≤ n → tail marks make p n (used ++ other) ≡ r)
      → tail marks make p m (mark s ∷ ((one.used ++ used) ++ other)) ≡ (r >>= λ y. Ok (make s x ∷ y.0, y.1))
  later s after x mid one used other m r le h k =
      let e : (one.used ++ used) ++ other ≡ one.used ++ (used ++ other) = append_assoc one.used used other in
      let l : length (mark s ∷ (one.used ++ (used ++ other))) ≤ m = omega (arith, ap length e) in
      ap (λ (z : List T). tail marks make p m (mark s ∷ z)) e ∙ step_ok m s (one.used ++ (used ++ other)) (used ++ other) x r l (one.same (used ++ other) h) (omega (arith, length-append one.used (used ++ other))) k

  built : (s : S) (after : List T) (x : A) (mid : List T) (one : Taken R p after x mid) (used k rest : List T) (xs : List B) → TailOf mark make R (used ++ k) xs rest → TailOf mark make R (mark s ∷ ((one.used ++ used) ++ k)) (make s x ∷ xs) rest
  built s after x mid one used k rest xs d = (s, (one.used ++ used) ++ k, x, used ++ k, refl, subst (λ (l : List T). R l x (used ++ k)) (sym (append_assoc one.used used k)) (one.framed (used ++ k)), refl, d)

  joined : (ts : List T) (s : S) (after : List T) (x : A) (mid : List T) (one : Taken R p after x mid) (used rest : List T) → ts ≡ mark s ∷ after → mid ≡ used ++ rest → ts ≡ (mark s ∷ (one.used ++ used)) ++ rest
  joined ts s after x mid one used rest is parts = is ∙ ap (λ (l : List T). mark s ∷ l) (one.parts ∙ ap (λ (m : List T). one.used ++ m) parts ∙ sym (append_assoc one.used used rest))

  by_rest : (ts : List T) (s : S) (after : List T) (x : A) (mid : List T) → ts ≡ mark s ∷ after → Taken R p after x mid → (r : Result (List B × List T) Fault) → Turned mid r → Turned ts (r >>= λ y. Ok (make s x ∷ y.0, y.1))
  by_rest ts s after x mid is one (Ok y) two = record {
    used = mark s ∷ (one.used ++ two.used);
    parts = joined ts s after x mid one two.used y.1 is two.parts;
    same = λ other m le h. later s after x mid one two.used other m (Ok (y.0, other)) le (same_head two.used other y.1 h ∙ ap head (sym two.parts)) (λ n le2. two.same other n le2 h);
    framed = λ other. built s after x mid one two.used other other y.0 (two.framed other);
  }
  by_rest ts s after x mid is one (Err (Syntax n w)) two = record {
    used = mark s ∷ (one.used ++ two.used);
    rest = two.rest;
    parts = joined ts s after x mid one two.used two.rest is two.parts;
    left_is = two.left_is;
    same = λ other m le h. later s after x mid one two.used other m (Err (Syntax (length other) w)) le (same_head two.used other two.rest h ∙ ap head (sym two.parts)) (λ n le2. two.same other n le2 h);
    more = two.more;
    tree = make s x ∷ two.tree;
    goes_on = λ k h. built s after x mid one two.used (two.more ++ k) k two.tree (two.goes_on k h);
  }
  by_rest ts s after x mid is one (Err (TooDeep n)) two = record {
    used = mark s ∷ (one.used ++ two.used);
    rest = two.rest;
    begun = tt;
    parts = joined ts s after x mid one two.used two.rest is two.parts;
    left_is = two.left_is;
    same = λ other m le. later s after x mid one two.used other m (Err (TooDeep (suc (length other)))) le (begun_head two.used other two.rest two.begun ∙ ap head (sym two.parts)) (λ n le2. two.same other n le2);
    more = two.more;
    tree = make s x ∷ two.tree;
    goes_on = λ k h. built s after x mid one two.used (two.more ++ k) k two.tree (two.goes_on k h);
  }

  by_first : (n : ℕ) (ts : List T) (s : S) (after : List T) → ts ≡ mark s ∷ after → length after ≤ n → (r : Result (A × List T) Fault) → Told among R p Ends after r
      → ((mid : List T) → length mid ≤ n → Turned mid (tail marks make p n mid)) → Turned ts (r >>= λ x. tail marks make p n x.1 >>= λ y. Ok (make s x.0 ∷ y.0, y.1))
  by_first n ts s after is le (Ok x) one k = by_rest ts s after x.0 x.1 is one (tail marks make p n x.1) (k x.1 (omega (arith, ap length one.parts, length-append one.used x.1)))
  by_first n ts s after is le (Err (Syntax l w)) one k = record {
    used = mark s ∷ one.used;
    rest = one.rest;
    parts = is ∙ ap (λ (m : List T). mark s ∷ m) one.parts;
    left_is = one.left_is;
    same = λ other m le2 h. step_err m s (one.used ++ other) (Syntax (length other) w) le2 (one.same other h);
    more = one.more;
    tree = make s one.tree ∷ [];
    goes_on = λ k h. (s, one.used ++ (one.more ++ k), one.tree, k, refl, one.goes_on k h.0, refl, refl);
  }
  by_first n ts s after is le (Err (TooDeep l)) one k = record {
    used = mark s ∷ one.used;
    rest = one.rest;
    begun = tt;
    parts = is ∙ ap (λ (m : List T). mark s ∷ m) one.parts;
    left_is = one.left_is;
    same = λ other m le2. step_err m s (one.used ++ other) (TooDeep (suc (length other))) le2 (one.same other);
    more = one.more;
    tree = make s one.tree ∷ [];
    goes_on = λ k h. (s, one.used ++ (one.more ++ k), one.tree, k, refl, one.goes_on k h.0, refl, refl);
  }

  by_mark : (n : ℕ) (ts : List T) (o : Option (S × List T)) → marks ts ≡ o → HasMark o (λ s after. ts ≡ mark s ∷ after) → length ts ≤ suc n
      → ((mid : List T) → length mid ≤ n → Turned mid (tail marks make p n mid)) → Turned ts (tail_step make p (tail marks make p n) ts o)
  by_mark n ts None is found le k = record { used = []; parts = refl; same = λ other m le2 h. ended m other (stays ts other h is); framed = λ other. refl }
  by_mark n ts (Some m) is found le k = by_first n ts m.0 m.1 found (omega (arith, ap length found)) (p m.1) (told m.1) k

  turned : (n : ℕ) (ts : List T) → length ts ≤ n → Turned ts (tail marks make p n ts)
  unfolding tail
  turned zero [] le = record { used = []; parts = refl; same = λ other m le2 h. ended m other (stays [] other h nothing); framed = λ other. refl }
  turned zero (t ∷ ts) le = absurd (omega arith)
  turned (suc n) ts le = by_mark n ts (marks ts) refl (are.found ts) le (λ mid le2. turned n mid le2)

  told_as : (ts : List T) (r : Result (List B × List T) Fault) → Turned ts r → Told true (TailOf mark make R) (tails marks make p) (Stops Ends marks) ts r
  told_as ts (Ok x) one = record { used = one.used; parts = one.parts; same = λ other h. one.same other (length (one.used ++ other)) (omega arith) h; framed = one.framed }
  told_as ts (Err (Syntax n w)) one = record { used = one.used; rest = one.rest; parts = one.parts; left_is = one.left_is; same = λ other h. one.same other (length (one.used ++ other)) (omega arith) h; more = one.more; tree = one.tree; goes_on = one.goes_on }
  told_as ts (Err (TooDeep n)) one = record { used = one.used; rest = one.rest; begun = one.begun; parts = one.parts; left_is = one.left_is; same = λ other. one.same other (length (one.used ++ other)) (omega arith); more = one.more; tree = one.tree; goes_on = one.goes_on }

  pub tails_told : (ts : List T) → Told true (TailOf mark make R) (tails marks make p) (Stops Ends marks) ts (tails marks make p ts)
  tails_told ts = told_as ts (tails marks make p ts) (turned (length ts) ts (omega arith))
