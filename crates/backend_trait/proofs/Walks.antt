-- What gives something was given by its parts.
use Rattle.std.proofs.Common.{◌≡◌, ℕ, zero, suc, ◌≤◌, ◌<◌, List, [], ◌∷◌, map, take, length, refl, ap, subst, arith}
use Rattle.std.specs.Prelude.{nat_lt, Bool as Truth, true, false, Option, Some, Ok, Err, unwrap_or, slice_get, if◌then◌else◌}
use Rattle.std.specs.List.{AllByRecursion, list_all}
use Rattle.std.specs.declared.cmp.Ordering.{Ordering}
use Rattle.std.specs.Ordering.{is_gt}
use Rattle.std.proofs.lemmas.Bool.{ltb-false}
use Rattle.pg_values.specs.declared.value.Value.{Value}
use Rattle.sql_values.specs.Outcome.{or_null, too_large}
use Rattle.sql_eval.specs.declared.row.Row.{Row}
use Rattle.sql_eval.specs.Walks.{Coded, all_of, behind, made}
use Rattle.sql_eval.specs.Reads.{fitting, row_size}
use Rattle.sql_eval.specs.Ordered.{put_in, sorted}
use Rattle.backend_trait.proofs.Truths.{and_true}

pub given_is : {A : Type 0} (a b : A) → ◌≡◌ {A = Coded A} (Ok a) (Ok b) → a ≡ b
given_is a b e = cc

pub some_is : {A : Type 0} (a b : A) → ◌≡◌ {A = Option A} (Some a) (Some b) → a ≡ b
some_is {A = A} a b e = ap (λ (o : Option A). unwrap_or o a) e

pub behind_ok : {A B : Type 0} (o : Coded A) (f : A → Coded B) (b : B) → behind o f ≡ Ok b → (a : A) × (o ≡ Ok a) × (f a ≡ Ok b)
behind_ok (Ok a) f b is = (a, refl, is)
behind_ok (Err code) f b is = absurd (cc)

-- each of some things has given one of others
abbrev pub Gave : {X A : Type 0} → (X → Coded A) → List X → List A → Type 0
Gave f [] [] = Unit {0}
Gave f (x ∷ xs) (a ∷ more) = (f x ≡ Ok a) × Gave f xs more
Gave f [] (a ∷ more) = ⊥
Gave f (x ∷ xs) [] = ⊥

pub all_gave : {X A : Type 0} (f : X → Coded A) (xs : List X) (given : List A) → all_of (map f xs) ≡ Ok given → Gave f xs given
all_gave f [] given is = subst (Gave f []) (given_is [] given is) tt
all_gave f (x ∷ xs) given is =
    let one = behind_ok (f x) (λ a. made (λ others. a ∷ others) (all_of (map f xs))) given is in
    let rest = behind_ok (all_of (map f xs)) (λ others. Ok (one.0 ∷ others)) given one.2 in
    subst (Gave f (x ∷ xs)) (given_is (one.0 ∷ rest.0) given rest.2) (one.1, all_gave f xs rest.0 rest.1)

pub all_true : {X : Type 0} (p : X → Truth) (xs : List X) → list_all p xs ≡ true → AllByRecursion (λ x. p x ≡ true) xs
all_true p [] is = tt
all_true p (x ∷ xs) is = let both = and_true (p x) (list_all p xs) is in (both.0, all_true p xs both.1)

-- a row that fits is that row, and is no larger than a row may be
pub fitting_is : (row out : Row) → fitting row ≡ Ok out → (row ≡ out) × (row_size row ≤ 1048000)
fitting_is row out is = go (nat_lt 1048000 (row_size row)) refl is
  where
    go : (b : Truth) → nat_lt 1048000 (row_size row) ≡ b → ◌≡◌ {A = Coded Row} (if b then Err too_large else Ok row) (Ok out) → (row ≡ out) × (row_size row ≤ 1048000)
    go true e h = absurd (cc)
    go false e h = (given_is row out h, ltb-false 1048000 (row_size row) e)

-- what is there stands there
pub is_there : (cells : List Value) (at : ℕ) → at < length cells → slice_get cells at ≡ Some (or_null (slice_get cells at))
is_there [] at below = absurd (omega arith)
is_there (v ∷ cells) zero below = refl
is_there (v ∷ cells) (suc at) below = is_there cells at (omega arith)

-- what holds of all holds of all in order, and of those at the front
module _ {A : Type 0} (P : A → Type 0) where
  put_all : (order : A → A → Ordering) (e : A) (es : List A) → P e → AllByRecursion P es → AllByRecursion P (put_in order e es)
  put_all order e [] here all = (here, tt)
  put_all order e (f ∷ fs) here all = go (put_all order e fs here all.1) (is_gt (order e f))
    where
      go : AllByRecursion P (put_in order e fs) → (b : Truth) → AllByRecursion P (if b then f ∷ put_in order e fs else e ∷ f ∷ fs)
      go rest true = (all.0, rest)
      go rest false = (here, all)

  pub sorted_all : (order : A → A → Ordering) (es : List A) → AllByRecursion P es → AllByRecursion P (sorted order es)
  sorted_all order [] all = tt
  sorted_all order (e ∷ es) all = put_all order e (sorted order es) all.0 (sorted_all order es all.1)

  pub take_all : (n : ℕ) (es : List A) → AllByRecursion P es → AllByRecursion P (take n es)
  take_all zero es all = tt
  take_all (suc n) [] all = tt
  take_all (suc n) (e ∷ es) all = (all.0, take_all n es all.1)
