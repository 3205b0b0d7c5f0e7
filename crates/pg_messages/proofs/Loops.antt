-- Reading entries one after the other, as a loop does.
use Rattle.std.proofs.Common.{◌≡◌, ℕ, zero, suc, ◌-◌, ◌+◌, ◌≤◌, ◌<◌, List, [], ◌∷◌, ◌++◌, length, get_or, drop, Option, Some, None, refl, sym, ap, ◌∙◌, append_assoc, arith}
use Rattle.std.proofs.lemmas.List.{append-nil}
use Rattle.pg_messages.specs.declared.field_fault.FieldFault.{FieldFault}
use Rattle.pg_messages.specs.declared.field_fault.FieldFault.TheVariants as faults
use Rattle.pg_messages.specs.Reading.{◌>>=◌, Fails, entries_at, entries_below}

-- what was read before, and what is still read
abbrev pub with_front : {A : Type 0} → List A → Option (List A × List ℕ) → Option (List A × List ℕ)
with_front front read = read >>= λ x. Some (front ++ x.0, x.1)

regroup : {A : Type 0} (front : List A) (x : A) (read : Option (List A × List ℕ)) → with_front front (read >>= λ y. Some (x ∷ y.0, y.1)) ≡ with_front (front ++ x ∷ []) read
regroup {A} front x (Some y) = ap (λ (xs : List A). Some (xs, y.1)) (simp append_assoc)
regroup front x None = refl

-- ---- behind a count

pub goes_on : {A : Type 0} (entry : List ℕ → Option (A × List ℕ)) (front : List A) (count i : ℕ) (bytes : List ℕ) (x : A) (after : List ℕ) (total : Option (List A × List ℕ)) → i < count → entry bytes ≡ Some (x, after)
    → with_front front (entries_at entry (count - i) bytes) ≡ total → with_front (front ++ x ∷ []) (entries_at entry (count - (i + 1)) after) ≡ total
unfolding entries_at
goes_on entry front count i bytes x after total lt h so_far =
    let k : count - i ≡ suc (count - (i + 1)) = omega arith in
    let one : with_front front (entries_at entry (count - i) bytes) ≡ with_front (front ++ x ∷ []) (entries_at entry (count - (i + 1)) after) = rw (k, h) (regroup front x (entries_at entry (count - (i + 1)) after)) in
    sym one ∙ so_far

pub ends : {A : Type 0} (entry : List ℕ → Option (A × List ℕ)) (e : FieldFault) (front : List A) (count i : ℕ) (bytes : List ℕ) (total : Option (List A × List ℕ)) → i < count → Fails e (entry bytes)
    → with_front front (entries_at entry (count - i) bytes) ≡ total → Fails e total
unfolding entries_at
ends entry faults.NoMemory front count i bytes total lt h so_far = tt
ends entry faults.Malformed front count i bytes total lt h so_far =
    let k : count - i ≡ suc (count - (i + 1)) = omega arith in
    let one : with_front front (entries_at entry (count - i) bytes) ≡ None = rw (k, h) refl in
    sym so_far ∙ one

pub is_done : {A : Type 0} (entry : List ℕ → Option (A × List ℕ)) (front : List A) (count i : ℕ) (bytes : List ℕ) (total : Option (List A × List ℕ)) → count ≤ i → with_front front (entries_at entry (count - i) bytes) ≡ total → total ≡ Some (front, bytes)
unfolding entries_at
is_done {A} entry front count i bytes total le so_far =
    let k : count - i ≡ 0 = omega arith in
    let one : with_front front (entries_at entry (count - i) bytes) ≡ Some (front, bytes) = rw k (ap (λ (xs : List A). Some (xs, bytes)) (append-nil front)) in
    sym so_far ∙ one

-- ---- up to a zero byte

pub below_empty : {A : Type 0} (entry : List ℕ → Option (A × List ℕ)) (front : List A) (n i : ℕ) (bytes : List ℕ) (total : Option (List A × List ℕ)) → i < n → length bytes ≤ 0
    → with_front front (entries_below entry (n - i) bytes) ≡ total → total ≡ None
unfolding entries_below
below_empty entry front n i [] total lt none so_far =
    let k : n - i ≡ suc (n - (i + 1)) = omega arith in
    let one : with_front front (entries_below entry (n - i) []) ≡ None = rw k refl in
    sym so_far ∙ one
below_empty entry front n i (b ∷ bytes) total lt none so_far = absurd (omega arith)

pub below_out : {A : Type 0} (entry : List ℕ → Option (A × List ℕ)) (front : List A) (n i : ℕ) (bytes : List ℕ) (total : Option (List A × List ℕ)) → n ≤ i → with_front front (entries_below entry (n - i) bytes) ≡ total → total ≡ None
unfolding entries_below
below_out entry front n i bytes total le so_far =
    let k : n - i ≡ 0 = omega arith in
    let one : with_front front (entries_below entry (n - i) bytes) ≡ None = rw k refl in
    sym so_far ∙ one

pub below_zero : {A : Type 0} (entry : List ℕ → Option (A × List ℕ)) (front : List A) (n i : ℕ) (bytes : List ℕ) (total : Option (List A × List ℕ)) → i < n → 0 < length bytes → get_or bytes 0 0 ≡ 0
    → with_front front (entries_below entry (n - i) bytes) ≡ total → total ≡ Some (front, drop 1 bytes)
unfolding entries_below
below_zero entry front n i [] total lt some first so_far = absurd (omega arith)
below_zero {A} entry front n i (zero ∷ after) total lt some first so_far =
    let k : n - i ≡ suc (n - (i + 1)) = omega arith in
    let one : with_front front (entries_below entry (n - i) (0 ∷ after)) ≡ Some (front, after) = rw k (ap (λ (xs : List A). Some (xs, after)) (append-nil front)) in
    sym so_far ∙ one
below_zero entry front n i (suc b ∷ after) total lt some first so_far = absurd (omega arith)

pub below_goes_on : {A : Type 0} (entry : List ℕ → Option (A × List ℕ)) (front : List A) (n i : ℕ) (bytes : List ℕ) (x : A) (after : List ℕ) (total : Option (List A × List ℕ)) → i < n → 0 < length bytes → 0 < get_or bytes 0 0 → entry bytes ≡ Some (x, after)
    → with_front front (entries_below entry (n - i) bytes) ≡ total → with_front (front ++ x ∷ []) (entries_below entry (n - (i + 1)) after) ≡ total
unfolding entries_below
below_goes_on entry front n i [] x after total lt some first h so_far = absurd (omega arith)
below_goes_on entry front n i (zero ∷ bytes) x after total lt some first h so_far = absurd (omega arith)
below_goes_on entry front n i (suc b ∷ bytes) x after total lt some first h so_far =
    let k : n - i ≡ suc (n - (i + 1)) = omega arith in
    let one : with_front front (entries_below entry (n - i) (suc b ∷ bytes)) ≡ with_front (front ++ x ∷ []) (entries_below entry (n - (i + 1)) after) = rw (k, h) (regroup front x (entries_below entry (n - (i + 1)) after)) in
    sym one ∙ so_far

pub below_ends : {A : Type 0} (entry : List ℕ → Option (A × List ℕ)) (e : FieldFault) (front : List A) (n i : ℕ) (bytes : List ℕ) (total : Option (List A × List ℕ)) → i < n → 0 < length bytes → 0 < get_or bytes 0 0 → Fails e (entry bytes)
    → with_front front (entries_below entry (n - i) bytes) ≡ total → Fails e total
unfolding entries_below
below_ends entry faults.NoMemory front n i bytes total lt some first h so_far = tt
below_ends entry faults.Malformed front n i [] total lt some first h so_far = absurd (omega arith)
below_ends entry faults.Malformed front n i (zero ∷ bytes) total lt some first h so_far = absurd (omega arith)
below_ends entry faults.Malformed front n i (suc b ∷ bytes) total lt some first h so_far =
    let k : n - i ≡ suc (n - (i + 1)) = omega arith in
    let one : with_front front (entries_below entry (n - i) (suc b ∷ bytes)) ≡ None = rw (k, h) refl in
    sym so_far ∙ one
