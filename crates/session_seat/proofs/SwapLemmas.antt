-- A spare that gets the tables, and comes in the place of a backend.
use Rattle.std.proofs.Common.{Result, Ok, Err, ◌≡◌, ◌≢◌, ℕ, ◌<◌, ◌≤◌, Bool, false, List, length, get_or, set, refl, sym, ap, ◌∙◌, subst, arith, inl, inr}
use Rattle.std.specs.Prelude.{OnErr, Some, ◌⊎◌, slice_get, if◌then◌else◌}
use Rattle.std.specs.List.{swap}
use Rattle.std.proofs.lemmas.Bool.Decides.{eqb_tells}
use Rattle.std.proofs.lemmas.List.{get_or-set_same, get_or-set_other, length-set, take-set-le}
use Rattle.std.proofs.lemmas.List.Edits.{swap_is}
use Rattle.std.proofs.lemmas.Option.{slice_get-get_or, slice_get_read}
use Rattle.pool_base.specs.Sets.{has, Loses}
use Rattle.schema.specs.declared.catalogue.TableDef.{TableDef}
use Rattle.backend_trait.specs.Rows.{with_at}
use Rattle.backend_trait.specs.Store.{Store, prepared}
use Rattle.backend_rolls.specs.declared.roll.Roll.{Roll}
use Rattle.backend_rolls.specs.declared.spares.Spare.{Spare}
use Rattle.backend_rolls.specs.declared.spares.Spare.TheVariants.{Free, Aside, Spent}
use Rattle.backend_rolls.specs.declared.spares.Spares.{Spares}
use Rattle.backend_rolls.specs.Known.{Counts, nothing_known}
use Rattle.backend_rolls.specs.Rolls.{known_in, roll_at, no_roll}
use Rattle.backend_rolls.specs.Spares.{spare_at}
use Rattle.backend_rolls.proofs.CountLemmas.{counts_first}
use Rattle.backend_rolls.proofs.KnownLemmas.{prepared_known}
use Rattle.session_seat.specs.Rolls.{IsTrueOf, AreTrue, AreHonest, AreTold, AllCount, AreBlank, IsBlank}
use Rattle.session_seat.specs.Shared.{stores_of, store_in}
use Rattle.session_seat.proofs.RollLemmas.{set_other, set_same}
use Rattle.session_seat.proofs.SharedLemmas.{stores_set}

-- what is set aside is not spent
pub aside_unspent : (spares : Spares) (box : ℕ) → spare_at spares box ≡ Aside → spare_at spares box ≢ Spent
aside_unspent spares box is spent = let never : Aside ≡ Spent = sym is ∙ spent in absurd (cc)

pub free_unspent : (spares : Spares) (box : ℕ) → spare_at spares box ≡ Free → spare_at spares box ≢ Spent
free_unspent spares box is spent = let never : Free ≡ Spent = sym is ∙ spent in absurd (cc)

pub on_err : {T E : Type 0} {P : Type 0} (r : Result T E) → P → OnErr r P
on_err (Ok x) is = tt
on_err (Err e) is = is

-- One that is behind the backends has the tables, or has them not: the backends are the same.

module _ {X : Type 0} (count : ℕ) (shelf : List X) (box : ℕ) (y : X) (behind : count ≤ box) (there : box < length shelf) where
  -- a backend is where it was
  front : (b : ℕ) (w : X) → b < count → slice_get (set shelf box y) b ≡ Some w → slice_get shelf b ≡ Some w
  front b w below = set_other shelf box b y w (λ same. omega (arith, same, below, behind))

  pub known_front : (meaning : X → Store) (tables : List TableDef) (rolls : List Roll) → AreTrue meaning tables count shelf rolls → AreTrue meaning tables count (set shelf box y) rolls
  known_front meaning tables rolls known b w below is = known b w below (front b w below is)

  pub told_front : (meaning : X → Store) (lost : ℕ) → AreTold meaning lost count shelf → AreTold meaning lost count (set shelf box y)
  told_front meaning lost told b w few below is = told b w few below (front b w below is)

  pub counting_front : (meaning : X → Store) (tables : List TableDef) → AllCount meaning tables count shelf → AllCount meaning tables count (set shelf box y)
  counting_front meaning tables counting b w below is = counting b w below (front b w below is)

  pub stores_front : (meaning : X → Store) (tables : List TableDef) → stores_of meaning tables count (set shelf box y) ≡ stores_of meaning tables count shelf
  stores_front meaning tables = ap (λ (xs : List X). λ (b : ℕ). store_in meaning tables (slice_get xs b)) (take-set-le count shelf box y behind)

  -- it is blank still
  pub blank_front : (meaning : X → Store) (spares : Spares) → AreBlank meaning count shelf spares → IsBlank (meaning y) → AreBlank meaning count (set shelf box y) spares
  blank_front meaning spares are is b w past unspent at = elim (eqb_tells b box) [
    | inl p ↦ subst (λ (v : X). IsBlank (meaning v)) (sym (set_same shelf box y w there (subst (λ j. slice_get (set shelf box y) j ≡ Some w) p.1 at))) is
    | inr p ↦ are b w past unspent (set_other shelf box b y w p.1 at)
  ]

-- it was blank
pub blank_at : {X : Type 0} (meaning : X → Store) (count : ℕ) (shelf : List X) (spares : Spares) (box : ℕ) (x : X) → AreBlank meaning count shelf spares → count ≤ box → box < length shelf
    → spare_at spares box ≡ Aside → x ≡ get_or shelf box x → IsBlank (meaning x)
blank_at meaning count shelf spares box x are behind there aside read =
    are box x behind (aside_unspent spares box aside) (slice_get_read shelf (length shelf) box x refl there read)

-- One that has the tables comes in the place of a backend.

module _ {X : Type 0} (count : ℕ) (shelf : List X) (at box : ℕ) (y : X) (below : at < count) (behind : count ≤ box) (there : box < length shelf) where
  pub swapped_is : (new : List X) → new ≡ swap (set shelf box y) at box → new ≡ set (set (set shelf box y) at y) box (get_or shelf at y)
  swapped_is new is =
      let long : length (set shelf box y) ≡ length shelf = length-set shelf box y in
      is ∙ sym (swap_is (set shelf box y) at box y (omega (arith, long, below, behind, there)) (omega (arith, long, there)))
      ∙ ap (λ (x : X). set (set (set shelf box y) at x) box (get_or (set shelf box y) at y)) (get_or-set_same shelf box y y there)
      ∙ ap (λ (x : X). set (set (set shelf box y) at y) box x) (get_or-set_other shelf box at y y (λ same. omega (arith, same, below, behind)))

  -- a box is the old backend, the new one, or where it was
  read : (b : ℕ) (w : X) → slice_get (set (set (set shelf box y) at y) box (get_or shelf at y)) b ≡ Some w
      → ((b ≡ box) × (w ≡ get_or shelf at y)) ⊎ (((b ≡ at) × (w ≡ y)) ⊎ (((b ≢ box) × (b ≢ at)) × (slice_get shelf b ≡ Some w)))
  read b w is = elim (eqb_tells b box) [
    | inl p ↦
        inl (
          p.1,
          set_same (set (set shelf box y) at y) box (get_or shelf at y) w (omega (arith, there, length-set (set shelf box y) at y, length-set shelf box y))
              (subst (λ j. slice_get (set (set (set shelf box y) at y) box (get_or shelf at y)) j ≡ Some w) p.1 is),
        )
    | inr p ↦ inr (next p.1 (set_other (set (set shelf box y) at y) box b (get_or shelf at y) w p.1 is))
  ]
    where
      next : b ≢ box → slice_get (set (set shelf box y) at y) b ≡ Some w → ((b ≡ at) × (w ≡ y)) ⊎ (((b ≢ box) × (b ≢ at)) × (slice_get shelf b ≡ Some w))
      next other found = elim (eqb_tells b at) [
        | inl q ↦
            inl (
              q.1,
              set_same (set shelf box y) at y w (omega (arith, below, behind, there, length-set shelf box y))
                  (subst (λ j. slice_get (set (set shelf box y) at y) j ≡ Some w) q.1 found),
            )
        | inr q ↦ inr ((other, q.1), set_other shelf box b y w other (set_other (set shelf box y) at b y w q.1 found))
      ]

  -- of the backends: that one is new, and the others are where they were
  backend : (P : ℕ → X → Type 0) → P at y → ((b : ℕ) (w : X) → b < count → b ≢ at → slice_get shelf b ≡ Some w → P b w) → (b : ℕ) (w : X) → b < count
      → slice_get (set (set (set shelf box y) at y) box (get_or shelf at y)) b ≡ Some w → P b w
  backend P now others b w first is = elim (read b w is) [
    | inl p ↦ absurd (let never : b ≡ box = p.0 in omega (arith, never, first, behind))
    | inr (inl p) ↦ subst (λ (v : X). P b v) (sym p.1) (subst (λ (j : ℕ). P j y) (sym p.0) now)
    | inr (inr p) ↦ others b w first p.0.1 p.1
  ]

  pub known_swap : (meaning : X → Store) (tables : List TableDef) (rolls : List Roll) (roll : Roll) → AreTrue meaning tables count shelf rolls → at < length rolls → ((s : ℕ) → known_in roll s ≡ nothing_known)
      → meaning y ≡ prepared tables → AreTrue meaning tables count (set (set (set shelf box y) at y) box (get_or shelf at y)) (set rolls at roll)
  known_swap meaning tables rolls roll known long none is = backend (λ b w. IsTrueOf tables (roll_at (set rolls at roll) b) (meaning w)) now others
    where
      now : IsTrueOf tables (roll_at (set rolls at roll) at) (meaning y)
      now =
          subst (λ (r : Roll). IsTrueOf tables r (meaning y)) (sym (get_or-set_same rolls at roll no_roll long))
          (subst (IsTrueOf tables roll) (sym is) (refl, prepared_known tables (known_in roll) none))

      others : (b : ℕ) (w : X) → b < count → b ≢ at → slice_get shelf b ≡ Some w → IsTrueOf tables (roll_at (set rolls at roll) b) (meaning w)
      others b w first other is = subst (λ (r : Roll). IsTrueOf tables r (meaning w)) (sym (get_or-set_other rolls at b roll no_roll other)) (known b w first is)

  pub told_swap : (meaning : X → Store) (tables : List TableDef) (lost next own : ℕ) → at ≡ own → AreTold meaning lost count shelf → Loses lost next own → meaning y ≡ prepared tables
      → AreTold meaning next count (set (set (set shelf box y) at y) box (get_or shelf at y))
  told_swap meaning tables lost next own same told loses is b w few first found = backend (λ b w. b < 8 → has next b ≡ (meaning w).lost) now others b w first found few
    where
      now : at < 8 → has next at ≡ (meaning y).lost
      now small = elim (eqb_tells at own) [
        | inl p ↦ loses at small ∙ ap (λ (c : Bool). if c then false else has lost at) p.0 ∙ sym (ap (λ (st : Store). st.lost) is)
        | inr p ↦ absurd (p.1 same)
      ]

      others : (b : ℕ) (w : X) → b < count → b ≢ at → slice_get shelf b ≡ Some w → b < 8 → has next b ≡ (meaning w).lost
      others b w first other is small = elim (eqb_tells b own) [
        | inl p ↦ absurd (other (p.1 ∙ sym same))
        | inr p ↦ loses b small ∙ ap (λ (c : Bool). if c then false else has lost b) p.0 ∙ told b w small first is
      ]

  pub counting_swap : (meaning : X → Store) (tables : List TableDef) → AllCount meaning tables count shelf → meaning y ≡ prepared tables
      → AllCount meaning tables count (set (set (set shelf box y) at y) box (get_or shelf at y))
  counting_swap meaning tables counting is =
      backend (λ b w. Counts tables (meaning w)) (subst (Counts tables) (sym is) (counts_first tables)) (λ b w first other found. counting b w first found)

  pub honest_swap : (is_honest : X → Bool) (x : X) → AreHonest is_honest shelf → x ≡ get_or shelf box x → is_honest y ≡ is_honest x
      → AreHonest is_honest (set (set (set shelf box y) at y) box (get_or shelf at y))
  honest_swap is_honest x honest was same b w is = elim (read b w is) [
    | inl p ↦
        ap is_honest p.1 ∙ honest at (get_or shelf at y) (slice_get-get_or shelf at y (omega (arith, below, behind, there)))
    | inr (inl p) ↦ ap is_honest p.1 ∙ same ∙ honest box x (slice_get_read shelf (length shelf) box x refl there was)
    | inr (inr p) ↦ honest b w p.1
  ]

  pub blank_swap : (meaning : X → Store) (old new : Spares) → AreBlank meaning count shelf old → spare_at new ≡ with_at (spare_at old) box Spent
      → AreBlank meaning count (set (set (set shelf box y) at y) box (get_or shelf at y)) new
  blank_swap meaning old new are put b w past unspent is = elim (read b w is) [
    | inl p ↦ absurd (unspent (ap (spare_at new) p.0 ∙ spent))
    | inr (inl p) ↦ absurd (let never : b ≡ at = p.0 in omega (arith, never, past, below))
    | inr (inr p) ↦ are b w past (λ gone. unspent (kept p.0.0 ∙ gone)) p.1
  ]
    where
      spent : spare_at new box ≡ Spent
      spent = elim (eqb_tells box box) [
        | inl q ↦ ap (λ (f : ℕ → Spare). f box) put ∙ ap (λ (c : Bool). if c then Spent else spare_at old box) q.0
        | inr q ↦ absurd (q.1 refl)
      ]

      kept : b ≢ box → spare_at new b ≡ spare_at old b
      kept other = elim (eqb_tells b box) [
        | inl q ↦ absurd (other q.1)
        | inr q ↦ ap (λ (f : ℕ → Spare). f b) put ∙ ap (λ (c : Bool). if c then Spent else spare_at old b) q.0
      ]

  -- what the stores are then
  pub stores_swap : (meaning : X → Store) (tables : List TableDef) (own : ℕ) → at ≡ own → meaning y ≡ prepared tables
      → stores_of meaning tables count (set (set (set shelf box y) at y) box (get_or shelf at y)) ≡ with_at (stores_of meaning tables count shelf) own (prepared tables)
  stores_swap meaning tables own same is =
      stores_front count (set (set shelf box y) at y) box (get_or shelf at y) behind (omega (arith, there, length-set (set shelf box y) at y, length-set shelf box y)) meaning tables
      ∙ stores_set meaning tables count (set shelf box y) at y below (omega (arith, behind, there, length-set shelf box y))
      ∙ ap (λ (stores : ℕ → Store). with_at stores at (meaning y)) (stores_front count shelf box y behind there meaning tables)
      ∙ ap (λ (st : Store). with_at (stores_of meaning tables count shelf) at st) is
      ∙ ap (λ (n : ℕ). with_at (stores_of meaning tables count shelf) n (prepared tables)) same
