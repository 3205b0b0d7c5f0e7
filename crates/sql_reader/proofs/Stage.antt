-- Readers that are put together from smaller ones keep the laws: a part at a time, once for every grammar.
use Rattle.std.proofs.Common.{◌≡◌, ℕ, zero, suc, ◌≤◌, true, List, [], ◌∷◌, ◌++◌, length, Option, Some, None, Ok, Err, refl, sym, ap, subst, ◌∙◌, arith, append_assoc, inl, inr}
use Rattle.sql_tokens.specs.declared.fault.Awaited.{Awaited}
use Rattle.sql_tokens.specs.declared.fault.Fault.{Fault}
use Rattle.sql_tokens.specs.Grammar.{Form, TailOf, part}
use Rattle.sql_tokens.specs.Reading.{◌>>=◌, Parse, Marks, tail, tail_step, tails}
use Rattle.sql_tokens.proofs.Good.{Has, Any, Stops, HasMark, AreMarks, then_has, has_map}
use Rattle.sql_tokens.proofs.Told.{head, Told, told_then, told_map, narrowed, refuses, stops, behind as taking, otherwise}
use Rattle.sql_tokens.proofs.Depth.{Same, after_same, same_then, same_last, same_chained}
use Rattle.sql_tokens.proofs.Chains.{chained_told}
use Rattle.sql_reader.specs.Parts.{Done, Then, Made, OneOf, Maybe, Either, Behind, Listed, all_of}
use Rattle.sql_reader.specs.Steps.{done, both, made, needed_step, needed, one_of, maybe_step, maybe, either_step, either, behind, listed}

-- The reader p is one of the form R at each number of nestings, where what follows is one of Ends. The last three are a text of it.
pub record Stage {T A : Type 0} (R : ℕ → Form T A) (p : ℕ → Parse T A) (Ends : List T → Type 0) : Type 0 where
  pub takes : (d : ℕ) (ts : List T) → Has (p d ts) (R d ts)
  pub again : (d : ℕ) (ts : List T) (a : A) (rest : List T) → R d ts a rest → Ends rest → p d ts ≡ Ok (a, rest)
  pub most : (d : ℕ) (ts : List T) (a : A) (rest : List T) → R d ts a rest → length rest ≤ length ts
  pub told : (d : ℕ) (ts : List T) → Told true (R (suc d)) (p d) Ends ts (p d ts)
  pub same : (d : ℕ) (ts : List T) → Same (p d ts) (p (suc d) ts)
  pub more : List T
  pub tree : A
  pub goes_on : (d : ℕ) (k : List T) → Ends k → R d (more ++ k) tree k

-- marks are the tokens that mark makes, and the first token tells whether one is there
pub record Keyed {T S : Type 0} (marks : Marks T S) (mark : S → T) : Type 0 where
  pub are : AreMarks marks mark
  pub stays : (ts other : List T) → head other ≡ head ts → marks ts ≡ None → marks other ≡ None

-- less may follow
pub stage_narrow : {T A : Type 0} (R : ℕ → Form T A) (p : ℕ → Parse T A) (EndsP Ends : List T → Type 0) → ((k : List T) → Ends k → EndsP k) → Stage R p EndsP → Stage R p Ends
stage_narrow R p EndsP Ends narrow one = record {
  takes = one.takes;
  again = λ d ts a rest h ends. one.again d ts a rest h (narrow rest ends);
  most = one.most;
  told = λ d ts. narrowed true (R (suc d)) (p d) EndsP Ends narrow ts (p d ts) (one.told d ts);
  same = one.same;
  more = one.more;
  tree = one.tree;
  goes_on = λ d k h. one.goes_on d k (narrow k h);
}

-- no token
pub stage_done : {T A : Type 0} (a : A) → Stage {T = T} (λ d. Done a) (λ d. done a) Any
stage_done {T} a = record {
  takes = λ d ts. (refl, refl);
  again = λ d ts b rest h ends. rw (h.0, h.1) refl;
  most = λ d ts b rest h. omega (arith, ap length h.0);
  told = λ d ts. stops (Done a) (done a) ts a (λ other h. refl) (λ other. (refl, refl));
  same = λ d ts. inr refl;
  more = [];
  tree = a;
  goes_on = λ d k h. (refl, refl);
}

-- the tree that is made of what was read
pub stage_made : {T A B : Type 0} (make : A → B) (R : ℕ → Form T A) (p : ℕ → Parse T A) (Ends : List T → Type 0) → Stage R p Ends → Stage (λ d. Made make (R d)) (λ d. made make (p d)) Ends
stage_made make R p Ends one = record {
  takes = λ d ts. then_has (p d ts) _ (R d ts) _ (one.takes d ts) (λ x h. (x.0, h, refl));
  again = λ d ts b rest h ends. rw (one.again d ts h.0 rest h.1 ends, h.2) refl;
  most = λ d ts b rest h. one.most d ts h.0 rest h.1;
  told = λ d ts. told_map true (R (suc d)) (p d) Ends make (Made make (R (suc d))) (made make (p d)) (λ ts. refl) (λ ts a rest h. (a, h, refl)) ts (one.told d ts);
  same = λ d ts. same_last (p d ts) (p (suc d) ts) _ (one.same d ts);
  more = one.more;
  tree = make one.tree;
  goes_on = λ d k h. (one.tree, one.goes_on d k h, refl);
}

-- the one, and then the other
module _ {T A B : Type 0} (R : ℕ → Form T A) (p : ℕ → Parse T A) (EndsR : List T → Type 0) (S : ℕ → Form T B) (q : ℕ → Parse T B) (Ends : List T → Type 0)
    (one : Stage R p EndsR) (two : Stage S q Ends) (ends : (d : ℕ) (mid : List T) (b : B) (rest : List T) → S d mid b rest → Ends rest → EndsR mid) where
  -- what stands behind the one, with it
  Second : ℕ → A → Form T (A × B)
  Second d a mid x rest = (b : B) × S d mid b rest × (x ≡ (a, b))

  second_told : (d : ℕ) (a : A) (mid : List T) → Told true (Second (suc d) a) (λ m. q d m >>= λ y. Ok ((a, y.0), y.1)) Ends mid (q d mid >>= λ y. Ok ((a, y.0), y.1))
  unfolding Second
  second_told d a mid = told_map true (S (suc d)) (q d) Ends (λ b. (a, b)) (Second (suc d) a) (λ m. q d m >>= λ y. Ok ((a, y.0), y.1)) (λ ts. refl) (λ ts b rest h. (b, h, refl)) mid (two.told d mid)

  both_told : (d : ℕ) (ts : List T) → Told true (Then (R (suc d)) (S (suc d))) (both (p d) (q d)) Ends ts (both (p d) (q d) ts)
  unfolding Second
  both_told d ts = told_then true (R (suc d)) (p d) EndsR (Second (suc d)) (λ x. q d x.1 >>= λ y. Ok ((x.0, y.0), y.1)) (Then (R (suc d)) (S (suc d))) (both (p d) (q d)) Ends (λ ts. refl)
      (λ ts mid rest a x r s. rw s.2 (mid, r, s.1))
      (λ a. record { more = two.more; tree = (a, two.tree); ends = λ k h. ends (suc d) (two.more ++ k) two.tree k (two.goes_on (suc d) k h) h; goes_on = λ k h. (two.tree, two.goes_on (suc d) k h, refl) })
      ts (one.told d ts) (second_told d)

  pub stage_then : Stage (λ d. Then (R d) (S d)) (λ d. both (p d) (q d)) Ends
  stage_then = record {
    takes = λ d ts. then_has (p d ts) _ (R d ts) _ (one.takes d ts) (λ x r. then_has (q d x.1) _ (S d x.1) _ (two.takes d x.1) (λ y s. (x.1, r, s)));
    again = λ d ts x rest h e. rw (one.again d ts x.0 h.0 h.1 (ends d h.0 x.1 rest h.2 e), two.again d h.0 x.1 rest h.2 e) refl;
    most = λ d ts x rest h. omega (arith, one.most d ts x.0 h.0 h.1, two.most d h.0 x.1 rest h.2);
    told = both_told;
    same = λ d ts. same_then (p d ts) (p (suc d) ts) _ _ (one.same d ts) (λ x. same_last (q d x.1) (q (suc d) x.1) _ (two.same d x.1));
    more = one.more ++ two.more;
    tree = (one.tree, two.tree);
    goes_on = λ d k h. (two.more ++ k, subst (λ (m : List T). R d m one.tree (two.more ++ k)) (sym (append_assoc one.more two.more k)) (one.goes_on d (two.more ++ k) (ends d (two.more ++ k) two.tree k (two.goes_on d k h) h)), two.goes_on d k h);
  }

-- one of the marks, and then what belongs behind it
module _ {T S A : Type 0} (marks : Marks T S) (mark : S → T) (R : S → ℕ → Form T A) (p : S → ℕ → Parse T A) (Ends : List T → Type 0) (keyed : Keyed marks mark) (stage : (s : S) → Stage (R s) (p s) Ends) where
  module _ (awaited : Awaited) (first : S) where
    one_takes : (d : ℕ) (ts : List T) (o : Option (S × List T)) → HasMark o (λ s after. ts ≡ mark s ∷ after) → Has (needed_step awaited ts o >>= λ m. p m.0 d m.1) (OneOf mark (λ s. R s d) ts)
    one_takes d ts None h = tt
    one_takes d ts (Some m) h = has_map (p m.0 d m.1) (R m.0 d m.1) (OneOf mark (λ s. R s d) ts) ((stage m.0).takes d m.1) (λ a rest r. (m.0, m.1, h, r))

    one_told : (d : ℕ) (ts : List T) (o : Option (S × List T)) → marks ts ≡ o → HasMark o (λ s after. ts ≡ mark s ∷ after) → Told true (OneOf mark (λ s. R s (suc d))) (one_of marks awaited (λ s. p s d)) Ends ts (needed_step awaited ts o >>= λ m. p m.0 d m.1)
    one_told d ts None is h = refuses (OneOf mark (λ s. R s (suc d))) (one_of marks awaited (λ s. p s d)) Ends awaited ts (λ other e. rw (keyed.stays ts other e is) refl)
        (mark first ∷ (stage first).more) (stage first).tree (λ k e. (first, (stage first).more ++ k, refl, (stage first).goes_on (suc d) k e))
    one_told d ts (Some m) is h = subst (λ (l : List T). Told true (OneOf mark (λ s. R s (suc d))) (one_of marks awaited (λ s. p s d)) Ends l (p m.0 d m.1)) (sym h)
        (taking true (mark m.0) (OneOf mark (λ s. R s (suc d))) (R m.0 (suc d)) (one_of marks awaited (λ s. p s d)) (p m.0 d) Ends m.1 (p m.0 d m.1) (λ other. rw (keyed.are.again m.0 other) refl) (λ after a rest r. (m.0, after, refl, r)) ((stage m.0).told d m.1))

    pub stage_one : Stage (λ d. OneOf mark (λ s. R s d)) (λ d. one_of marks awaited (λ s. p s d)) Ends
    stage_one = record {
      takes = λ d ts. one_takes d ts (marks ts) (keyed.are.found ts);
      again = λ d ts a rest h ends. rw (h.2, keyed.are.again h.0 h.1) ((stage h.0).again d h.1 a rest h.3 ends);
      most = λ d ts a rest h. omega (arith, ap length h.2, (stage h.0).most d h.1 a rest h.3);
      told = λ d ts. one_told d ts (marks ts) refl (keyed.are.found ts);
      same = λ d ts. after_same (needed marks awaited ts) _ _ (λ m. (stage m.0).same d m.1);
      more = mark first ∷ (stage first).more;
      tree = (stage first).tree;
      goes_on = λ d k h. (first, (stage first).more ++ k, refl, (stage first).goes_on d k h);
    }

  maybe_takes : (d : ℕ) (ts : List T) (o : Option (S × List T)) → HasMark o (λ s after. ts ≡ mark s ∷ after) → Has (maybe_step (λ s. p s d) ts o) (Maybe mark (λ s. R s d) ts)
  maybe_takes d ts None h = inl (refl, refl)
  maybe_takes d ts (Some m) h = then_has (p m.0 d m.1) _ (R m.0 d m.1) _ ((stage m.0).takes d m.1) (λ x r. inr (x.0, (m.0, m.1, h, r), refl))

  maybe_again : (d : ℕ) (ts : List T) (o : Option A) (rest : List T) → Maybe mark (λ s. R s d) ts o rest → Stops Ends marks rest → maybe marks (λ s. p s d) ts ≡ Ok (o, rest)
  maybe_again d ts o rest (inl h) ends = rw (h.0, h.1, ends.1) refl
  maybe_again d ts o rest (inr h) ends = rw (h.1.2, keyed.are.again h.1.0 h.1.1, (stage h.1.0).again d h.1.1 h.0 rest h.1.3 ends.0, h.2) refl

  maybe_most : (d : ℕ) (ts : List T) (o : Option A) (rest : List T) → Maybe mark (λ s. R s d) ts o rest → length rest ≤ length ts
  maybe_most d ts o rest (inl h) = omega (arith, ap length h.0)
  maybe_most d ts o rest (inr h) = omega (arith, ap length h.1.2, (stage h.1.0).most d h.1.1 h.0 rest h.1.3)

  maybe_told : (d : ℕ) (ts : List T) (o : Option (S × List T)) → marks ts ≡ o → HasMark o (λ s after. ts ≡ mark s ∷ after) → Told true (Maybe mark (λ s. R s (suc d))) (maybe marks (λ s. p s d)) (Stops Ends marks) ts (maybe_step (λ s. p s d) ts o)
  maybe_told d ts None is h = stops (Maybe mark (λ s. R s (suc d))) (maybe marks (λ s. p s d)) ts None (λ other e. rw (keyed.stays ts other e is) refl) (λ other. inl (refl, refl))
  maybe_told d ts (Some m) is h = subst (λ (l : List T). Told true (Maybe mark (λ s. R s (suc d))) (maybe marks (λ s. p s d)) (Stops Ends marks) l (made (λ a. Some a) (p m.0 d) m.1)) (sym h)
      (taking true (mark m.0) (Maybe mark (λ s. R s (suc d))) (Made (λ a. Some a) (R m.0 (suc d))) (maybe marks (λ s. p s d)) (made (λ a. Some a) (p m.0 d)) (Stops Ends marks) m.1 (made (λ a. Some a) (p m.0 d) m.1) (λ other. rw (keyed.are.again m.0 other) refl) (λ after a rest r. inr (r.0, (m.0, after, refl, r.1), r.2))
      (narrowed true (Made (λ a. Some a) (R m.0 (suc d))) (made (λ a. Some a) (p m.0 d)) Ends (Stops Ends marks) (λ k e. e.0) m.1 (made (λ a. Some a) (p m.0 d) m.1) ((stage_made (λ a. Some a) (R m.0) (p m.0) Ends (stage m.0)).told d m.1)))

  maybe_same : (d : ℕ) (ts : List T) (o : Option (S × List T)) → Same (maybe_step (λ s. p s d) ts o) (maybe_step (λ s. p s (suc d)) ts o)
  maybe_same d ts None = inr refl
  maybe_same d ts (Some m) = same_last (p m.0 d m.1) (p m.0 (suc d) m.1) _ ((stage m.0).same d m.1)

  pub stage_maybe : Stage (λ d. Maybe mark (λ s. R s d)) (λ d. maybe marks (λ s. p s d)) (Stops Ends marks)
  stage_maybe = record {
    takes = λ d ts. maybe_takes d ts (marks ts) (keyed.are.found ts);
    again = maybe_again;
    most = maybe_most;
    told = λ d ts. maybe_told d ts (marks ts) refl (keyed.are.found ts);
    same = λ d ts. maybe_same d ts (marks ts);
    more = [];
    tree = None;
    goes_on = λ d k h. inl (refl, refl);
  }

  -- the same, or another reader, which refuses the marks
  module _ (Q : ℕ → Form T A) (q : ℕ → Parse T A) (other_stage : Stage Q q Ends) (clash : (d : ℕ) (s : S) (after : List T) → (e : Fault) × (q d (mark s ∷ after) ≡ Err e)) where
    either_takes : (d : ℕ) (ts : List T) (o : Option (S × List T)) → HasMark o (λ s after. ts ≡ mark s ∷ after) → Has (either_step (λ s. p s d) (q d) ts o) (Either mark (λ s. R s d) (Q d) ts)
    either_takes d ts None h = has_map (q d ts) (Q d ts) (Either mark (λ s. R s d) (Q d) ts) (other_stage.takes d ts) (λ a rest r. inr r)
    either_takes d ts (Some m) h = has_map (p m.0 d m.1) (R m.0 d m.1) (Either mark (λ s. R s d) (Q d) ts) ((stage m.0).takes d m.1) (λ a rest r. inl (m.0, m.1, h, r))

    no_mark : (d : ℕ) (ts : List T) (a : A) (rest : List T) (o : Option (S × List T)) → HasMark o (λ s after. ts ≡ mark s ∷ after) → q d ts ≡ Ok (a, rest) → either_step (λ s. p s d) (q d) ts o ≡ Ok (a, rest)
    no_mark d ts a rest None h is = is
    no_mark d ts a rest (Some m) h is =
        let c = clash d m.0 m.1 in
        let e : q d ts ≡ Err c.0 = ap (q d) h ∙ c.1 in
        absurd cc

    either_again : (d : ℕ) (ts : List T) (a : A) (rest : List T) → Either mark (λ s. R s d) (Q d) ts a rest → Ends rest → either marks (λ s. p s d) (q d) ts ≡ Ok (a, rest)
    either_again d ts a rest (inl h) ends = rw (h.2, keyed.are.again h.0 h.1) ((stage h.0).again d h.1 a rest h.3 ends)
    either_again d ts a rest (inr h) ends = no_mark d ts a rest (marks ts) (keyed.are.found ts) (other_stage.again d ts a rest h ends)

    either_most : (d : ℕ) (ts : List T) (a : A) (rest : List T) → Either mark (λ s. R s d) (Q d) ts a rest → length rest ≤ length ts
    either_most d ts a rest (inl h) = omega (arith, ap length h.2, (stage h.0).most d h.1 a rest h.3)
    either_most d ts a rest (inr h) = other_stage.most d ts a rest h

    either_told : (d : ℕ) (ts : List T) (o : Option (S × List T)) → marks ts ≡ o → HasMark o (λ s after. ts ≡ mark s ∷ after) → Told true (Either mark (λ s. R s (suc d)) (Q (suc d))) (either marks (λ s. p s d) (q d)) Ends ts (either_step (λ s. p s d) (q d) ts o)
    either_told d ts None is h = otherwise (Either mark (λ s. R s (suc d)) (Q (suc d))) (Q (suc d)) (either marks (λ s. p s d) (q d)) (q d) Ends ts (q d ts) (λ other e. rw (keyed.stays ts other e is) refl) (λ m a rest r. inr r) (other_stage.told d ts)
    either_told d ts (Some m) is h = subst (λ (l : List T). Told true (Either mark (λ s. R s (suc d)) (Q (suc d))) (either marks (λ s. p s d) (q d)) Ends l (p m.0 d m.1)) (sym h)
        (taking true (mark m.0) (Either mark (λ s. R s (suc d)) (Q (suc d))) (R m.0 (suc d)) (either marks (λ s. p s d) (q d)) (p m.0 d) Ends m.1 (p m.0 d m.1) (λ other. rw (keyed.are.again m.0 other) refl) (λ after a rest r. inl (m.0, after, refl, r)) ((stage m.0).told d m.1))

    either_same : (d : ℕ) (ts : List T) (o : Option (S × List T)) → Same (either_step (λ s. p s d) (q d) ts o) (either_step (λ s. p s (suc d)) (q (suc d)) ts o)
    either_same d ts None = other_stage.same d ts
    either_same d ts (Some m) = (stage m.0).same d m.1

    pub stage_either : Stage (λ d. Either mark (λ s. R s d) (Q d)) (λ d. either marks (λ s. p s d) (q d)) Ends
    stage_either = record {
      takes = λ d ts. either_takes d ts (marks ts) (keyed.are.found ts);
      again = either_again;
      most = either_most;
      told = λ d ts. either_told d ts (marks ts) refl (keyed.are.found ts);
      same = λ d ts. either_same d ts (marks ts);
      more = other_stage.more;
      tree = other_stage.tree;
      goes_on = λ d k h. inr (other_stage.goes_on d k h);
    }

-- a mark that stands alone, and what follows it
pub stage_behind : {T A : Type 0} (marks : Marks T (Unit {0})) (mark : Unit {0} → T) (R : ℕ → Form T A) (p : ℕ → Parse T A) (Ends : List T → Type 0) → Keyed marks mark → Stage R p Ends → (awaited : Awaited) → Stage (λ d. Behind mark (R d)) (λ d. behind marks awaited (p d)) Ends
stage_behind marks mark R p Ends keyed one awaited = stage_one marks mark (λ _. R) (λ _. p) Ends keyed (λ _. one) awaited tt

-- one { mark one }
module _ {T A : Type 0} (marks : Marks T (Unit {0})) (mark : Unit {0} → T) (R : ℕ → Form T A) (p : ℕ → Parse T A) (Ends : List T → Type 0)
    (keyed : Keyed marks mark) (nothing : marks [] ≡ None) (one : Stage R p Ends) (stop : (m : Unit {0}) (after : List T) → Ends (mark m ∷ after)) where
  by_mark : (d : ℕ) (more : Parse T (List A)) (ts : List T) (o : Option (Unit {0} × List T)) → ((mid : List T) → Has (more mid) (TailOf mark part (R d) mid)) → HasMark o (λ m after. ts ≡ mark m ∷ after) → Has (tail_step part (p d) more ts o) (TailOf mark part (R d) ts)
  by_mark d more ts None k h = refl
  by_mark d more ts (Some m) k h = then_has (p d m.1) _ (R d m.1) _ (one.takes d m.1) (λ x r. then_has (more x.1) _ (TailOf mark part (R d) x.1) _ (k x.1) (λ y t. (m.0, m.1, x.0, x.1, h, r, refl, t)))

  tail_takes : (d n : ℕ) (ts : List T) → Has (tail marks part (p d) n ts) (TailOf mark part (R d) ts)
  unfolding tail
  tail_takes d zero ts = refl
  tail_takes d (suc n) ts = by_mark d (tail marks part (p d) n) ts (marks ts) (λ mid. tail_takes d n mid) (keyed.are.found ts)

  mid_ends : (d : ℕ) (xs : List A) (mid rest : List T) → TailOf mark part (R d) mid xs rest → Ends rest → Ends mid
  mid_ends d [] mid rest t e = subst Ends (sym t) e
  mid_ends d (x ∷ xs) mid rest t e = subst Ends (sym t.4) (stop t.0 t.1)

  tail_again : (d n : ℕ) (xs : List A) (ts rest : List T) → length ts ≤ n → TailOf mark part (R d) ts xs rest → Ends rest → marks rest ≡ None → tail marks part (p d) n ts ≡ Ok (xs, rest)
  unfolding tail
  tail_again d zero [] ts rest le t e none = ap (λ (r : List T). Ok ([], r)) t
  tail_again d zero (x ∷ xs) ts rest le t e none = absurd (omega (arith, ap length t.4))
  tail_again d (suc n) [] ts rest le t e none = rw (t, none) refl
  tail_again d (suc n) (x ∷ xs) ts rest le t e none =
      let first : p d t.1 ≡ Ok (t.2, t.3) = one.again d t.1 t.2 t.3 t.5 (mid_ends d xs t.3 rest t.7 e) in
      let others : tail marks part (p d) n t.3 ≡ Ok (xs, rest) = tail_again d n xs t.3 rest (omega (arith, ap length t.4, one.most d t.1 t.2 t.3 t.5)) t.7 e none in
      rw (t.4, keyed.are.again t.0 t.1, first, others, t.6) refl

  tail_most : (d : ℕ) (xs : List A) (ts rest : List T) → TailOf mark part (R d) ts xs rest → length rest ≤ length ts
  tail_most d [] ts rest t = omega (arith, ap length t)
  tail_most d (x ∷ xs) ts rest t = omega (arith, ap length t.4, one.most d t.1 t.2 t.3 t.5, tail_most d xs t.3 rest t.7)

  pub stage_listed : Stage (λ d. Listed mark (R d)) (λ d. listed marks (p d)) (Stops Ends marks)
  stage_listed = record {
    takes = λ d ts. then_has (p d ts) _ (R d ts) _ (one.takes d ts) (λ x r. then_has (tails marks part (p d) x.1) _ (TailOf mark part (R d) x.1) _ (tail_takes d (length x.1) x.1) (λ y t. (x.0, x.1, y.0, r, t, refl)));
    again = λ d ts xs rest h e. rw (one.again d ts h.0 h.1 h.3 (mid_ends d h.2 h.1 rest h.4 e.0), tail_again d (length h.1) h.2 h.1 rest (omega arith) h.4 e.0 e.1, h.5) refl;
    most = λ d ts xs rest h. omega (arith, one.most d ts h.0 h.1 h.3, tail_most d h.2 h.1 rest h.4);
    told = λ d ts. chained_told true marks mark part (R (suc d)) (p d) Ends keyed.are (one.told d) nothing keyed.stays all_of true (R (suc d)) (p d) Ends (one.told d) (λ k h. h) ts;
    same = λ d ts. same_chained marks part (p d) (p (suc d)) all_of (p d) (p (suc d)) (one.same d) (one.same d) ts;
    more = one.more;
    tree = one.tree ∷ [];
    goes_on = λ d k h. (one.tree, k, [], one.goes_on d k h.0, refl, refl);
  }

-- what holds behind a mark and of what follows holds of what begins with the mark, or is what follows
pub maybe_begins : {T S A : Type 0} (mark : S → T) (R : S → Form T A) (P : List T → Type 0) (mid : List T) (o : Option A) (rest : List T) → ((s : S) (after : List T) → P (mark s ∷ after)) → P rest → Maybe mark R mid o rest → P mid
maybe_begins mark R P mid o rest marked ended (inl h) = subst P (sym h.0) ended
maybe_begins mark R P mid o rest marked ended (inr h) = subst P (sym h.1.2) (marked h.1.0 h.1.1)
