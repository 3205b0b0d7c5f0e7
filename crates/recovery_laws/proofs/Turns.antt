-- Which table comes next: the first behind the last one that is copied, or that has a serial column.
use Rattle.std.proofs.Common.{◌≡◌, ◌<◌, ◌≤◌, ◌+◌, ℕ, zero, suc, length, Bool, true, false, List, [], ◌∷◌, refl, sym, ap, subst, ◌∙◌, arith, inl, inr, if◌then◌else◌}
use Rattle.std.specs.Prelude.{◌&&◌, ◌⊎◌, is_some, slice_get, Option, Some, None}
use Rattle.std.proofs.lemmas.Bool.{lt-ltb}
use Rattle.std.proofs.lemmas.Bool.Decides.{leb_tells}
use Rattle.schema.specs.declared.catalogue.TableDef.{TableDef}
use Rattle.online_recovery.specs.declared.standing.Quiet.{Quiet}
use Rattle.online_recovery.specs.declared.standing.Held.{Held}
use Rattle.online_recovery.specs.State.{is_copied, is_behind, copied_behind, next_table, serial_behind, next_serial}
use Rattle.recovery_laws.proofs.Scenes.{has_serial}

pub both_true : (a b : Bool) → (a && b) ≡ true → (a ≡ true) × (b ≡ true)
both_true true b e = (refl, e)
both_true false b e = absurd (let z : false ≡ true = e in cc)

right_false : (a b : Bool) → (a && b) ≡ false → a ≡ true → b ≡ false
right_false true b e is = e
right_false false b e is = absurd (let z : false ≡ true = is in cc)

-- The first of a list, counted from a number on, that passes.

abbrev first_by : (ℕ → TableDef → Bool) → ℕ → List TableDef → Option ℕ
first_by p number [] = None
first_by p number (x ∷ xs) = if p number x then Some number else first_by p (suc number) xs

record IsFirst (p : ℕ → TableDef → Bool) (number : ℕ) (xs : List TableDef) (t : ℕ) : Type 0 where
  place : ℕ
  table : TableDef
  at : t ≡ number + place
  there : slice_get xs place ≡ Some table
  passes : p t table ≡ true
  first : (i k : ℕ) (o : TableDef) → i < place → k ≡ number + i → slice_get xs i ≡ Some o → p k o ≡ false

same_some : {A : Type 0} (x y : A) → Some x ≡ Some y → x ≡ y
same_some x y e = cc

module _ (p : ℕ → TableDef → Bool) where
  -- what holds of the first and of those behind it
  first_skips : (number : ℕ) (x : TableDef) (xs : List TableDef) (n : ℕ) → p number x ≡ false
      → ((i k : ℕ) (o : TableDef) → i < n → k ≡ suc number + i → slice_get xs i ≡ Some o → p k o ≡ false)
      → (i k : ℕ) (o : TableDef) → i < suc n → k ≡ number + i → slice_get (x ∷ xs) i ≡ Some o → p k o ≡ false
  first_skips number x xs n is rest zero k o l at there =
      let e : k ≡ number = omega (arith, at) in
      subst (λ (y : TableDef). p k y ≡ false) (same_some x o there) (subst (λ (j : ℕ). p j x ≡ false) (sym e) is)
  first_skips number x xs n is rest (suc i) k o l at there =
      let below : i < n = omega (arith, l) in
      let e : k ≡ suc number + i = omega (arith, at) in
      rest i k o below e there

  first_at : (x : TableDef) (xs : List TableDef) (number t : ℕ) → (first_by p (suc number) xs ≡ Some t → IsFirst p (suc number) xs t) → (v : Bool) → p number x ≡ v
      → (if v then Some number else first_by p (suc number) xs) ≡ Some t → IsFirst p number (x ∷ xs) t
  first_at x xs number t rest true is e =
      let same : number ≡ t = same_some number t e in
      record {
        place = 0;
        table = x;
        at = (let z : t ≡ number + 0 = omega (arith, same) in z);
        there = refl;
        passes = subst (λ (j : ℕ). p j x ≡ true) same is;
        first = λ i k o l. absurd (let z : ⊥ = omega (arith, l) in z);
      }
  first_at x xs number t rest false is e =
      let r = rest e in
      let after = r.at in
      record {
        place = suc r.place;
        table = r.table;
        at = (let z : t ≡ number + suc r.place = omega (arith, after) in z);
        there = r.there;
        passes = r.passes;
        first = first_skips number x xs r.place is r.first;
      }

  first_is : (xs : List TableDef) (number t : ℕ) → first_by p number xs ≡ Some t → IsFirst p number xs t
  first_is [] number t e = absurd (let z : None ≡ Some t = e in cc)
  first_is (x ∷ xs) number t e = first_at x xs number t (first_is xs (suc number) t) (p number x) refl e

  abbrev NonePass : ℕ → List TableDef → Type 0
  NonePass number xs = (i k : ℕ) (o : TableDef) → k ≡ number + i → slice_get xs i ≡ Some o → p k o ≡ false

  none_at : (x : TableDef) (xs : List TableDef) (number : ℕ) → (first_by p (suc number) xs ≡ None → NonePass (suc number) xs) → (v : Bool) → p number x ≡ v
      → (if v then Some number else first_by p (suc number) xs) ≡ None → NonePass number (x ∷ xs)
  none_at x xs number rest true is e i k o at there = absurd (let z : Some number ≡ None = e in cc)
  none_at x xs number rest false is e zero k o at there =
      let same : k ≡ number = omega (arith, at) in
      subst (λ (y : TableDef). p k y ≡ false) (same_some x o there) (subst (λ (j : ℕ). p j x ≡ false) (sym same) is)
  none_at x xs number rest false is e (suc i) k o at there =
      let later : k ≡ suc number + i = omega (arith, at) in
      rest e i k o later there

  none_is : (xs : List TableDef) (number : ℕ) → first_by p number xs ≡ None → NonePass number xs
  none_is [] number e i k o at there = absurd (let z : None ≡ Some o = there in cc)
  none_is (x ∷ xs) number e i k o at there = none_at x xs number (none_is xs (suc number)) (p number x) refl e i k o at there

-- below one that is there each is there
below_there : {A : Type 0} (xs : List A) (i j : ℕ) (x : A) → slice_get xs j ≡ Some x → i < j → is_some (slice_get xs i) ≡ true
below_there [] i j x e l = absurd (let z : None ≡ Some x = e in cc)
below_there (y ∷ ys) zero j x e l = refl
below_there (y ∷ ys) (suc i) zero x e l = absurd (let z : ⊥ = omega (arith, l) in z)
below_there (y ∷ ys) (suc i) (suc j) x e l = below_there ys i j x e (let z : i < j = omega (arith, l) in z)

pub within_there : {A : Type 0} (xs : List A) (i : ℕ) → i < length xs → is_some (slice_get xs i) ≡ true
within_there [] i l = absurd (let z : ⊥ = omega (arith, l) in z)
within_there (x ∷ xs) zero l = refl
within_there (x ∷ xs) (suc i) l = within_there xs i (let z : i < length xs = omega (arith, l) in z)

by_some : (P : Type 0) (x : Option TableDef) → is_some x ≡ true → ((o : TableDef) → x ≡ Some o → P) → P
by_some P None e go = absurd (let z : false ≡ true = e in cc)
by_some P (Some o) e go = go o refl

-- The tables of a stage.

abbrev passes_copied : Quiet → ℕ → Option ℕ → ℕ → TableDef → Bool
passes_copied quiet touched before k table = is_behind before k && is_copied quiet touched k

copied_by : (quiet : Quiet) (touched : ℕ) (before : Option ℕ) (number : ℕ) (xs : List TableDef)
    → copied_behind quiet touched before number xs ≡ first_by (passes_copied quiet touched before) number xs
copied_by quiet touched before number [] = refl
copied_by quiet touched before number (x ∷ xs) =
    ap (λ (r : Option ℕ). if is_behind before number && is_copied quiet touched number then Some number else r) (copied_by quiet touched before (suc number) xs)

pub record IsNext (held : Held) (before : Option ℕ) (t : ℕ) : Type 0 where
  pub there : is_some (slice_get held.layout.tables t) ≡ true
  pub chosen : is_copied held.quiet held.touched t ≡ true
  pub first : (k : ℕ) → k < t → is_behind before k ≡ true → is_copied held.quiet held.touched k ≡ false

pub next_is : (held : Held) (before : Option ℕ) (t : ℕ) → next_table held before ≡ Some t → IsNext held before t
next_is held before t e =
    let r = first_is (passes_copied held.quiet held.touched before) held.layout.tables 0 t (sym (copied_by held.quiet held.touched before 0 held.layout.tables) ∙ e) in
    let at = r.at in
    let same : t ≡ r.place = omega (arith, at) in
    record {
      there = ap is_some (ap (slice_get held.layout.tables) same ∙ r.there);
      chosen = (both_true (is_behind before t) (is_copied held.quiet held.touched t) r.passes).1;
      first = λ k l behind.
          let below : k < r.place = omega (arith, l, same) in
          let from : k ≡ 0 + k = omega arith in
          by_some (is_copied held.quiet held.touched k ≡ false) (slice_get held.layout.tables k) (below_there held.layout.tables k r.place r.table r.there below)
          (λ o is. right_false (is_behind before k) (is_copied held.quiet held.touched k) (r.first k k o below from is) behind);
    }

pub none_next : (held : Held) (before : Option ℕ) → next_table held before ≡ None → (k : ℕ) → is_some (slice_get held.layout.tables k) ≡ true → is_behind before k ≡ true
    → is_copied held.quiet held.touched k ≡ false
none_next held before e k there behind =
    let from : k ≡ 0 + k = omega arith in
    by_some (is_copied held.quiet held.touched k ≡ false) (slice_get held.layout.tables k) there
    (λ o is. right_false (is_behind before k) (is_copied held.quiet held.touched k)
    (none_is (passes_copied held.quiet held.touched before) held.layout.tables 0 (sym (copied_by held.quiet held.touched before 0 held.layout.tables) ∙ e) k k o from is) behind)

-- The tables with a serial column.

abbrev passes_serial : Option ℕ → ℕ → TableDef → Bool
passes_serial before k table = is_behind before k && is_some table.serial

serial_by : (before : Option ℕ) (number : ℕ) (xs : List TableDef) → serial_behind before number xs ≡ first_by (passes_serial before) number xs
serial_by before number [] = refl
serial_by before number (x ∷ xs) =
    ap (λ (r : Option ℕ). if is_behind before number && is_some x.serial then Some number else r) (serial_by before (suc number) xs)

pub record IsNextSerial (held : Held) (before : Option ℕ) (t : ℕ) : Type 0 where
  pub serial : has_serial (slice_get held.layout.tables t) ≡ true
  pub first : (k : ℕ) → k < t → is_behind before k ≡ true → has_serial (slice_get held.layout.tables k) ≡ false

serial_off : (x : Option TableDef) → ((o : TableDef) → x ≡ Some o → is_some o.serial ≡ false) → has_serial x ≡ false
serial_off None f = refl
serial_off (Some o) f = f o refl

pub next_serial_is : (held : Held) (before : Option ℕ) (t : ℕ) → next_serial held before ≡ Some t → IsNextSerial held before t
next_serial_is held before t e =
    let r = first_is (passes_serial before) held.layout.tables 0 t (sym (serial_by before 0 held.layout.tables) ∙ e) in
    let at = r.at in
    let same : t ≡ r.place = omega (arith, at) in
    record {
      serial = ap has_serial (ap (slice_get held.layout.tables) same ∙ r.there) ∙ (both_true (is_behind before t) (is_some r.table.serial) r.passes).1;
      first = λ k l behind.
          let below : k < r.place = omega (arith, l, same) in
          let from : k ≡ 0 + k = omega arith in
          serial_off (slice_get held.layout.tables k) (λ o is. right_false (is_behind before k) (is_some o.serial) (r.first k k o below from is) behind);
    }

pub none_serial : (held : Held) (before : Option ℕ) → next_serial held before ≡ None → (k : ℕ) → is_behind before k ≡ true → has_serial (slice_get held.layout.tables k) ≡ false
none_serial held before e k behind =
    let from : k ≡ 0 + k = omega arith in
    serial_off (slice_get held.layout.tables k)
    (λ o is. right_false (is_behind before k) (is_some o.serial) (none_is (passes_serial before) held.layout.tables 0 (sym (serial_by before 0 held.layout.tables) ∙ e) k k o from is) behind)

-- Those behind the last one.

abbrev pub above : Option ℕ → ℕ
above None = 0
above (Some before) = suc before

pub behind_above : (before : Option ℕ) (k : ℕ) → above before ≤ k → is_behind before k ≡ true
behind_above None k l = refl
behind_above (Some before) k l = lt-ltb before k (let z : before < k = omega (arith, l) in z)

pub below_or_behind : (before : Option ℕ) (k : ℕ) → (k < above before) ⊎ (is_behind before k ≡ true)
below_or_behind before k = elim (leb_tells (above before) k) [
  | inl p ↦ inr (behind_above before k p.1)
  | inr p ↦ inl p.1
]
