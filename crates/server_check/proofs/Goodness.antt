-- A server without faults is one whose answers are all good.
use Rattle.std.proofs.Common.{◌≡◌, ℕ, ◌+◌, Bool, true, false, List, [], ◌∷◌, ◌++◌, length, refl, sum_by, cond, arith}
use Rattle.std.proofs.lemmas.List.Sums.{sum_by-cons}
use Rattle.std.proofs.lemmas.Bool.{false≢true}
use Rattle.std.specs.Prelude.{slice_get}
use Rattle.server_check.specs.declared.answer.Answer.{Answer}
use Rattle.server_check.specs.declared.question.Question.{Question}
use Rattle.server_check.specs.declared.server.Server.{Server}
use Rattle.server_check.specs.Faults.{AreEqual, AreGood, fault_count, faults_from, is_good}

good_adds : (b : Bool) (n : ℕ) (rest : List ℕ) → b ≡ true → length rest ≡ 0 → length (cond b [] (n ∷ []) ++ rest) ≡ 0
good_adds true n rest e none = none
good_adds false n rest e none = absurd (false≢true e)

none_added : (b : Bool) (n : ℕ) (rest : List ℕ) → length (cond b [] (n ∷ []) ++ rest) ≡ 0 → (b ≡ true) × (length rest ≡ 0)
none_added true n rest none = (refl, none)
none_added false n rest none = absurd (omega (arith, none))

good_none : (kept told : List Answer) (n : ℕ) (qs : List Question) → AreGood kept told n qs → length (faults_from kept told n qs) ≡ 0
good_none kept told n [] good = refl
good_none kept told n (q ∷ qs) good =
    good_adds (is_good q (slice_get kept n) (slice_get told n)) n _ good.0 (good_none kept told (n + 1) qs good.1)

none_good : (kept told : List Answer) (n : ℕ) (qs : List Question) → length (faults_from kept told n qs) ≡ 0 → AreGood kept told n qs
none_good kept told n [] none = tt
none_good kept told n (q ∷ qs) none =
    let both = none_added (is_good q (slice_get kept n) (slice_get told n)) n _ none in
    (both.0, none_good kept told (n + 1) qs both.1)

pub equal_none : (qs : List Question) (kept : Server) (ss : List Server) → AreEqual qs kept ss → sum_by (fault_count qs kept) ss ≡ 0
equal_none qs kept [] equal = refl
equal_none qs kept (s ∷ ss) equal =
    omega (arith, sum_by-cons (fault_count qs kept) s ss, good_none kept.answers s.answers 0 qs equal.0, equal_none qs kept ss equal.1)

pub none_equal : (qs : List Question) (kept : Server) (ss : List Server) → sum_by (fault_count qs kept) ss ≡ 0 → AreEqual qs kept ss
none_equal qs kept [] none = tt
none_equal qs kept (s ∷ ss) none =
    let e : sum_by (fault_count qs kept) (s ∷ ss) ≡ fault_count qs kept s + sum_by (fault_count qs kept) ss = sum_by-cons (fault_count qs kept) s ss in
    (none_good kept.answers s.answers 0 qs (omega (arith, e, none)), none_equal qs kept ss (omega (arith, e, none)))
