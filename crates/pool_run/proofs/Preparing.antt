-- Boxes that are given their tables one after another.
use Rattle.std.proofs.Common.{◌≡◌, ℕ, zero, suc, ◌+◌, ◌<◌, ◌≤◌, Bool, true, List, [], ◌∷◌, All, length, take, drop, set, get_or, add-one, refl, sym, ◌∙◌, subst, arith}
use Rattle.std.proofs.lemmas.List.{take_more_set, drop-set-lt, take_all}
use Rattle.std.proofs.lemmas.List.Elements.{All-nil, All-cons, All-append, All-drop, All-get_or}
use Rattle.schema.specs.declared.catalogue.TableDef.{TableDef}
use Rattle.backend_trait.specs.Store.{Store, blank, prepared}
use Rattle.pool_run.specs.Shelf.{AreFresh, ArePrepared}

drop_one : {A : Type 0} (i : ℕ) (xs : List A) → drop 1 (drop i xs) ≡ drop (suc i) xs
drop_one zero xs = refl
drop_one (suc i) [] = refl
drop_one (suc i) (x ∷ xs) = drop_one i xs

all_less : {A : Type 0} (P : A → Type 0) (xs : List A) (i : ℕ) (y : A) → All P (drop i xs) → All P (drop (i + 1) (set xs i y))
all_less P xs i y all =
    let same : drop (i + 1) (set xs i y) ≡ drop (i + 1) xs = drop-set-lt (i + 1) xs i y (omega arith) in
    let less : drop 1 (drop i xs) ≡ drop (i + 1) xs = rw add-one (drop_one i xs) in
    subst (All P) (less ∙ sym same) (All-drop P 1 (drop i xs) all)

all_more : {A : Type 0} (P : A → Type 0) (xs : List A) (i : ℕ) (y : A) → i < length xs → All P (take i xs) → P y → All P (take (i + 1) (set xs i y))
all_more P xs i y below all is = subst (All P) (sym (take_more_set xs i y below)) (All-append P (take i xs) (y ∷ []) all (All-cons P y [] is (All-nil P)))

-- the first that is left
first_left : {A : Type 0} (P : A → Type 0) (xs : List A) (i : ℕ) (x : A) → i < length xs → All P (drop i xs) → P (get_or xs i x)
first_left P [] i x below all = absurd (omega (arith, below))
first_left P (y ∷ xs) zero x below all = All-get_or P (y ∷ xs) 0 x (omega arith) all
first_left P (y ∷ xs) (suc i) x below all = first_left P xs i x (omega (arith, below)) all

module _ {X : Type 0} (meaning : X → Store) (is_honest is_prompt is_steady : X → Bool) where
  abbrev Fresh : List X → Type 0
  Fresh xs = AreFresh meaning is_honest is_prompt is_steady xs

  -- one that has its tables
  pub record IsPreparedOne (tables : List TableDef) (x : X) : Type 0 where
    pub means : meaning x ≡ prepared tables
    pub honest : is_honest x ≡ true
    pub prompt : is_prompt x ≡ true
    pub steady : is_steady x ≡ true

  pub fresh_one : (xs : List X) (i : ℕ) (x : X) → i < length xs → Fresh (drop i xs)
      → (meaning (get_or xs i x) ≡ blank) × (is_honest (get_or xs i x) ≡ true) × (is_prompt (get_or xs i x) ≡ true) × (is_steady (get_or xs i x) ≡ true)
  fresh_one xs i x below fresh = (
    first_left (λ b. meaning b ≡ blank) xs i x below fresh.blank_each,
    first_left (λ b. is_honest b ≡ true) xs i x below fresh.honest,
    first_left (λ b. is_prompt b ≡ true) xs i x below fresh.prompt,
    first_left (λ b. is_steady b ≡ true) xs i x below fresh.steady,
  )

  pub fresh_less : (xs : List X) (i : ℕ) (y : X) → Fresh (drop i xs) → Fresh (drop (i + 1) (set xs i y))
  fresh_less xs i y fresh = record {
    blank_each = all_less (λ b. meaning b ≡ blank) xs i y fresh.blank_each;
    honest = all_less (λ b. is_honest b ≡ true) xs i y fresh.honest;
    prompt = all_less (λ b. is_prompt b ≡ true) xs i y fresh.prompt;
    steady = all_less (λ b. is_steady b ≡ true) xs i y fresh.steady;
  }

  module _ (tables : List TableDef) where
    abbrev Prepared : List X → Type 0
    Prepared xs = ArePrepared meaning is_honest is_prompt is_steady tables xs

    pub prepared_none : Prepared []
    prepared_none = record {
      prepared_each = All-nil (λ b. meaning b ≡ prepared tables);
      honest = All-nil (λ b. is_honest b ≡ true);
      prompt = All-nil (λ b. is_prompt b ≡ true);
      steady = All-nil (λ b. is_steady b ≡ true);
    }

    pub prepared_more : (xs : List X) (i : ℕ) (y : X) → i < length xs → Prepared (take i xs) → IsPreparedOne tables y → Prepared (take (i + 1) (set xs i y))
    prepared_more xs i y below each is = record {
      prepared_each = all_more (λ b. meaning b ≡ prepared tables) xs i y below each.prepared_each is.means;
      honest = all_more (λ b. is_honest b ≡ true) xs i y below each.honest is.honest;
      prompt = all_more (λ b. is_prompt b ≡ true) xs i y below each.prompt is.prompt;
      steady = all_more (λ b. is_steady b ≡ true) xs i y below each.steady is.steady;
    }

    pub prepared_all : (xs : List X) (i : ℕ) → length xs ≤ i → Prepared (take i xs) → Prepared xs
    prepared_all xs i past each = subst Prepared (take_all i xs past) each
