-- The rolls of the backends: each says of its backend what is so. Which of the boxes are honest, prompt and steady, which of the backends are lost
-- or count, and which boxes are blank.
use Rattle.std.specs.Prelude.{◌≡◌, ◌≢◌, ℕ, ◌<◌, ◌≤◌, Bool, true, false, is_some, List, [], None, Some, slice_get}
use Rattle.std.specs.FinMap as fin
use Rattle.std.specs.Coded.{×_prop, Π_prop}
use Rattle.std.proofs.Props.{props}
use Rattle.pool_base.specs.Sets.{has}
use Rattle.schema.specs.declared.catalogue.TableDef.{TableDef}
use Rattle.backend_trait.specs.Store.{Store, standing_of}
use Rattle.backend_rolls.specs.declared.known.Holds.TheVariants as holding
use Rattle.backend_rolls.specs.declared.roll.Roll.{Roll}
use Rattle.backend_rolls.specs.declared.spares.Spare.TheVariants.{Spent}
use Rattle.backend_rolls.specs.declared.spares.Spares.{Spares}
use Rattle.backend_rolls.specs.Known.{Counts, Knows, holds_as}
use Rattle.backend_rolls.specs.Rolls.{known_in, roll_at}
use Rattle.backend_rolls.specs.Spares.{spare_at}

-- a store has these tables, and the roll is true of it
abbrev pub IsTrueOf : List TableDef → Roll → Store → Type 0
IsTrueOf tables roll st = (st.tables ≡ tables) × Knows (known_in roll) st

-- so it is of each of the first, so many
abbrev pub AreTrue : {X : Type 0} → (X → Store) → List TableDef → ℕ → List X → List Roll → Type 0
AreTrue {X} meaning tables count shelf rolls = (b : ℕ) (x : X) → b < count → slice_get shelf b ≡ Some x → IsTrueOf tables (roll_at rolls b) (meaning x)

IsTrueOf-prop : (tables : List TableDef) (roll : Roll) (st : Store) → IsProp (IsTrueOf tables roll st)
IsTrueOf-prop tables roll st = ×_prop (Prim.hlevel props) (Π_prop (λ s. ×_prop (Prim.hlevel props) (×_prop (Prim.hlevel props) (Π_prop (λ t. Π_prop (λ locked. Prim.hlevel props))))))

pub prop : {X : Type 0} (meaning : X → Store) (tables : List TableDef) (count : ℕ) (shelf : List X) (rolls : List Roll) → IsProp (AreTrue meaning tables count shelf rolls)
prop meaning tables count shelf rolls = Π_prop (λ b. Π_prop (λ x. Π_prop (λ below. Π_prop (λ there. IsTrueOf-prop tables (roll_at rolls b) (meaning x)))))

-- each box is honest
abbrev pub AreHonest : {X : Type 0} → (X → Bool) → List X → Type 0
AreHonest {X} is_honest shelf = (b : ℕ) (x : X) → slice_get shelf b ≡ Some x → is_honest x ≡ true

pub honest_prop : {X : Type 0} (is_honest : X → Bool) (shelf : List X) → IsProp (AreHonest is_honest shelf)
honest_prop is_honest shelf = Π_prop (λ b. Π_prop (λ x. Π_prop (λ there. Prim.hlevel props)))

-- and prompt
abbrev pub ArePrompt : {X : Type 0} → (X → Bool) → List X → Type 0
ArePrompt {X} is_prompt shelf = (b : ℕ) (x : X) → slice_get shelf b ≡ Some x → is_prompt x ≡ true

pub prompt_prop : {X : Type 0} (is_prompt : X → Bool) (shelf : List X) → IsProp (ArePrompt is_prompt shelf)
prompt_prop is_prompt shelf = Π_prop (λ b. Π_prop (λ x. Π_prop (λ there. Prim.hlevel props)))

-- and steady
abbrev pub AreSteady : {X : Type 0} → (X → Bool) → List X → Type 0
AreSteady {X} is_steady shelf = (b : ℕ) (x : X) → slice_get shelf b ≡ Some x → is_steady x ≡ true

pub steady_prop : {X : Type 0} (is_steady : X → Bool) (shelf : List X) → IsProp (AreSteady is_steady shelf)
steady_prop is_steady shelf = Π_prop (λ b. Π_prop (λ x. Π_prop (λ there. Prim.hlevel props)))

-- of the first, so many, those are lost that a set has
abbrev pub AreTold : {X : Type 0} → (X → Store) → ℕ → ℕ → List X → Type 0
AreTold {X} meaning lost count shelf = (b : ℕ) (x : X) → b < 8 → b < count → slice_get shelf b ≡ Some x → has lost b ≡ (meaning x).lost

pub told_prop : {X : Type 0} (meaning : X → Store) (lost count : ℕ) (shelf : List X) → IsProp (AreTold meaning lost count shelf)
told_prop meaning lost count shelf = Π_prop (λ b. Π_prop (λ x. Π_prop (λ few. Π_prop (λ below. Π_prop (λ there. Prim.hlevel props)))))

-- each of the first, so many, has a number of each serial column of these tables
abbrev pub AllCount : {X : Type 0} → (X → Store) → List TableDef → ℕ → List X → Type 0
AllCount {X} meaning tables count shelf = (b : ℕ) (x : X) → b < count → slice_get shelf b ≡ Some x → Counts tables (meaning x)

pub count_prop : {X : Type 0} (meaning : X → Store) (tables : List TableDef) (count : ℕ) (shelf : List X) → IsProp (AllCount meaning tables count shelf)
count_prop meaning tables count shelf = Π_prop (λ b. Π_prop (λ x. Π_prop (λ below. Π_prop (λ there. Π_prop (λ table. Π_prop (λ has. Prim.hlevel props))))))

-- a store is blank: it has no tables and no rows, nobody has a transaction there, nobody waits, and it is not lost
abbrev pub IsBlank : Store → Type 0
IsBlank st = (st.tables ≡ []) × ((fin.len st.rows ≡ 0) × (((table : ℕ) → st.next table ≡ None)
    × (((s : ℕ) → holds_as (standing_of (st.transaction s)) ≡ holding.Nothing) × (((s : ℕ) → is_some (st.pending s) ≡ false) × (st.lost ≡ false)))))

IsBlank-prop : (st : Store) → IsProp (IsBlank st)
IsBlank-prop st =
    ×_prop (Prim.hlevel props) (×_prop (Prim.hlevel props) (×_prop (Π_prop (λ table. Prim.hlevel props))
    (×_prop (Π_prop (λ s. Prim.hlevel props)) (×_prop (Π_prop (λ s. Prim.hlevel props)) (Prim.hlevel props)))))

-- behind the first, so many, each box is blank that can still come in a backend's place
abbrev pub AreBlank : {X : Type 0} → (X → Store) → ℕ → List X → Spares → Type 0
AreBlank {X} meaning count shelf spares = (b : ℕ) (x : X) → count ≤ b → spare_at spares b ≢ Spent → slice_get shelf b ≡ Some x → IsBlank (meaning x)

pub blank_prop : {X : Type 0} (meaning : X → Store) (count : ℕ) (shelf : List X) (spares : Spares) → IsProp (AreBlank meaning count shelf spares)
blank_prop meaning count shelf spares = Π_prop (λ b. Π_prop (λ x. Π_prop (λ behind. Π_prop (λ unspent. Π_prop (λ there. IsBlank-prop (meaning x))))))
