-- The rolls of the backends: one is read, and one is changed with its backend. And which are honest, count, are blank, and are lost.
use Rattle.std.proofs.Common.{Result, Ok, Err, ◌≡◌, ◌≢◌, ℕ, ◌<◌, ◌≤◌, ◌-◌, Bool, true, false, List, length, get_or, set, take, drop, replicate, zero, suc, refl, sym, ap, ◌∙◌, subst, arith, inl, inr}
use Rattle.std.specs.Prelude.{All, IfOk, OnErr, Some, ◌==◌, ◌%◌, ◌^◌, slice_get, if◌then◌else◌}
use Rattle.std.proofs.Math.Nat.{zero-div}
use Rattle.std.proofs.lemmas.Bool.Decides.{eqb_tells}
use Rattle.std.proofs.lemmas.List.{get_or-set_same, get_or-set_other, length-set, length-take-le, length-drop, get_or-take, get_or-drop}
use Rattle.std.proofs.lemmas.Option.{slice_get-get_or, slice_get_read, slice_get_within, get_or_from_slice_get}
use Rattle.pool_base.specs.Sets.{has, Gains}
use Rattle.schema.specs.declared.catalogue.TableDef.{TableDef}
use Rattle.backend_trait.specs.Rows.{with_at}
use Rattle.backend_trait.specs.Acts.{Acts}
use Rattle.backend_trait.specs.Store.{Store, blank, prepared, lost_by}
use Rattle.backend_rolls.specs.declared.roll.Roll.{Roll}
use Rattle.backend_rolls.specs.Known.{Counts, Knows, nothing_known}
use Rattle.backend_rolls.specs.declared.spares.Spare.{Spare}
use Rattle.backend_rolls.specs.declared.spares.Spare.TheVariants.{Spent}
use Rattle.backend_rolls.specs.declared.spares.Spares.{Spares}
use Rattle.backend_rolls.specs.Rolls.{known_in, roll_at, no_roll}
use Rattle.backend_rolls.specs.Spares.{spare_at}
use Rattle.backend_rolls.proofs.CountLemmas.{counts_acts, counts_first, counts_same}
use Rattle.backend_rolls.proofs.KnownLemmas.{prepared_known, lost_known}
use Rattle.session_seat.specs.declared.fault.StepFault.{StepFault}
use Rattle.session_seat.specs.declared.posting.Looked.{Looked}
use Rattle.session_seat.proofs.BlankLemmas.{blank_is}
use Rattle.session_seat.specs.Rolls.{IsTrueOf, AreTrue, AreHonest, AreTold, AllCount, AreBlank}

-- one backend is new, with its roll
pub set_other : {X : Type 0} (shelf : List X) (at b : ℕ) (x y : X) → b ≢ at → slice_get (set shelf at x) b ≡ Some y → slice_get shelf b ≡ Some y
set_other shelf at b x y other there =
    let inside : b < length shelf = (let w : b < length (set shelf at x) = slice_get_within (set shelf at x) b y there in omega (arith, w, length-set shelf at x)) in
    slice_get-get_or shelf b y inside ∙ ap Some (sym (get_or-set_other shelf at b x y other) ∙ get_or_from_slice_get (set shelf at x) b y y there)

pub set_same : {X : Type 0} (shelf : List X) (at : ℕ) (x y : X) → at < length shelf → slice_get (set shelf at x) at ≡ Some y → y ≡ x
set_same shelf at x y inside there = sym (get_or_from_slice_get (set shelf at x) at y y there) ∙ get_or-set_same shelf at x y inside

pub known_set : {X : Type 0} (meaning : X → Store) (tables : List TableDef) (count : ℕ) (shelf : List X) (rolls : List Roll) (at : ℕ) (x : X) (roll : Roll)
    → AreTrue meaning tables count shelf rolls → at < length shelf → at < length rolls → IsTrueOf tables roll (meaning x)
    → AreTrue meaning tables count (set shelf at x) (set rolls at roll)
known_set {X} meaning tables count shelf rolls at x roll known inside long now b y below there = elim (eqb_tells b at) [
  | inl p ↦
      let here : y ≡ x = set_same shelf at x y inside (subst (λ j. slice_get (set shelf at x) j ≡ Some y) p.1 there) in
      let same : roll_at (set rolls at roll) b ≡ roll = ap (λ j. roll_at (set rolls at roll) j) p.1 ∙ get_or-set_same rolls at roll no_roll long in
      subst (λ (r : Roll). IsTrueOf tables r (meaning y)) (sym same) (subst (λ (z : X). IsTrueOf tables roll (meaning z)) (sym here) now)
  | inr p ↦
      let same : roll_at (set rolls at roll) b ≡ roll_at rolls b = get_or-set_other rolls at b roll no_roll p.1 in
      subst (λ (r : Roll). IsTrueOf tables r (meaning y)) (sym same) (known b y below (set_other shelf at b x y p.1 there))
]

-- one backend alone is new, and its roll is true of it still
pub known_set_alone : {X : Type 0} (meaning : X → Store) (tables : List TableDef) (count : ℕ) (shelf : List X) (rolls : List Roll) (at : ℕ) (x : X)
    → AreTrue meaning tables count shelf rolls → at < length shelf → IsTrueOf tables (roll_at rolls at) (meaning x)
    → AreTrue meaning tables count (set shelf at x) rolls
known_set_alone {X} meaning tables count shelf rolls at x known inside now b y below there = elim (eqb_tells b at) [
  | inl p ↦
      let here : y ≡ x = set_same shelf at x y inside (subst (λ j. slice_get (set shelf at x) j ≡ Some y) p.1 there) in
      subst (λ (z : X). IsTrueOf tables (roll_at rolls b) (meaning z)) (sym here) (subst (λ j. IsTrueOf tables (roll_at rolls j) (meaning x)) (sym p.1) now)
  | inr p ↦ known b y below (set_other shelf at b x y p.1 there)
]

-- before the first request
rolls_same : (roll : Roll) (n b : ℕ) → ((s : ℕ) → known_in roll s ≡ nothing_known) → (s : ℕ) → known_in (roll_at (replicate n roll) b) s ≡ nothing_known
rolls_same roll zero b none s = refl
rolls_same roll (suc n) zero none s = none s
rolls_same roll (suc n) (suc b) none s = rolls_same roll n b none s

pub known_first : {X : Type 0} (meaning : X → Store) (tables : List TableDef) (count : ℕ) (shelf : List X) (n : ℕ) (roll : Roll)
    → ((s : ℕ) → known_in roll s ≡ nothing_known) → count ≤ length shelf → All (λ b. meaning b ≡ prepared tables) (take count shelf)
    → AreTrue meaning tables count shelf (replicate n roll)
known_first meaning tables count shelf n roll none enough each b x below there =
    let first : get_or (take count shelf) b x ≡ x = get_or-take count shelf b x below ∙ get_or_from_slice_get shelf b x x there in
    let is : meaning x ≡ prepared tables = ap meaning (sym first) ∙ each b x (omega (arith, length-take-le count shelf enough, below)) in
    (ap (λ (st : Store). st.tables) is, subst (Knows (known_in (roll_at (replicate n roll) b))) (sym is) (prepared_known tables (known_in (roll_at (replicate n roll) b)) (rolls_same roll n b none)))

-- a backend whose tables stay, with a roll that is true of it; and one that is lost
pub known_next : {X : Type 0} (meaning : X → Store) (tables : List TableDef) (count : ℕ) (shelf : List X) (rolls : List Roll) (at : ℕ) (x y : X) (roll : Roll)
    → AreTrue meaning tables count shelf rolls → at < count → count ≤ length shelf → at < length rolls → x ≡ get_or shelf at x → (meaning y).tables ≡ (meaning x).tables → Knows (known_in roll) (meaning y)
    → AreTrue meaning tables count (set shelf at y) (set rolls at roll)
known_next meaning tables count shelf rolls at x y roll known below enough long read same knows =
    let there : slice_get shelf at ≡ Some x = slice_get_read shelf (length shelf) at x refl (omega (arith, below, enough)) read in
    known_set meaning tables count shelf rolls at y roll known (omega (arith, below, enough)) long (same ∙ (known at x below there).0, knows)

pub known_lost : {X : Type 0} (meaning : X → Store) (tables : List TableDef) (count : ℕ) (shelf : List X) (rolls : List Roll) (at : ℕ) (x y : X)
    → AreTrue meaning tables count shelf rolls → at < count → count ≤ length shelf → x ≡ get_or shelf at x → meaning y ≡ lost_by (meaning x)
    → AreTrue meaning tables count (set shelf at y) rolls
known_lost meaning tables count shelf rolls at x y known below enough read lost =
    let there : slice_get shelf at ≡ Some x = slice_get_read shelf (length shelf) at x refl (omega (arith, below, enough)) read in
    let was : IsTrueOf tables (roll_at rolls at) (meaning x) = known at x below there in
    known_set_alone meaning tables count shelf rolls at y known (omega (arith, below, enough))
    (subst (IsTrueOf tables (roll_at rolls at)) (sym lost) (was.0, lost_known (meaning x) (known_in (roll_at rolls at)) was.1))

-- The honest ones.

pub honest_first : {X : Type 0} (is_honest : X → Bool) (shelf : List X) → All (λ b. is_honest b ≡ true) shelf → AreHonest is_honest shelf
honest_first is_honest shelf each b x there = ap is_honest (sym (get_or_from_slice_get shelf b x x there)) ∙ each b x (slice_get_within shelf b x there)

pub honest_at : {X : Type 0} (is_honest : X → Bool) (shelf : List X) (at : ℕ) (x : X) → AreHonest is_honest shelf → at < length shelf → x ≡ get_or shelf at x → is_honest x ≡ true
honest_at is_honest shelf at x honest inside read = honest at x (slice_get_read shelf (length shelf) at x refl inside read)

-- no call changes whether one is honest
pub honest_next : {X : Type 0} (is_honest : X → Bool) (shelf : List X) (at : ℕ) (x y : X) → AreHonest is_honest shelf → at < length shelf → x ≡ get_or shelf at x → is_honest y ≡ is_honest x
    → AreHonest is_honest (set shelf at y)
honest_next is_honest shelf at x y honest inside read same b z there = elim (eqb_tells b at) [
  | inl p ↦
      let here : z ≡ y = set_same shelf at y z inside (subst (λ j. slice_get (set shelf at y) j ≡ Some z) p.1 there) in
      ap is_honest here ∙ same ∙ honest_at is_honest shelf at x honest inside read
  | inr p ↦ honest b z (set_other shelf at b y z p.1 there)
]

-- Those that count.

pub counting_first : {X : Type 0} (meaning : X → Store) (tables : List TableDef) (count : ℕ) (shelf : List X) → count ≤ length shelf → All (λ b. meaning b ≡ prepared tables) (take count shelf)
    → AllCount meaning tables count shelf
counting_first meaning tables count shelf enough each b x below there =
    let first : get_or (take count shelf) b x ≡ x = get_or-take count shelf b x below ∙ get_or_from_slice_get shelf b x x there in
    let is : meaning x ≡ prepared tables = ap meaning (sym first) ∙ each b x (omega (arith, length-take-le count shelf enough, below)) in
    subst (Counts tables) (sym is) (counts_first tables)

-- one is new, and counts where the old one does
pub counting_next : {X : Type 0} (meaning : X → Store) (tables : List TableDef) (count : ℕ) (shelf : List X) (at : ℕ) (x y : X) → AllCount meaning tables count shelf → at < count → count ≤ length shelf
    → x ≡ get_or shelf at x → (Counts tables (meaning x) → Counts tables (meaning y)) → AllCount meaning tables count (set shelf at y)
counting_next meaning tables count shelf at x y counting below enough read kept b z under there = elim (eqb_tells b at) [
  | inl p ↦
      let here : z ≡ y = set_same shelf at y z (omega (arith, below, enough)) (subst (λ j. slice_get (set shelf at y) j ≡ Some z) p.1 there) in
      let was : Counts tables (meaning x) = counting at x below (slice_get_read shelf (length shelf) at x refl (omega (arith, below, enough)) read) in
      subst (λ w. Counts tables (meaning w)) (sym here) (kept was)
  | inr p ↦ counting b z under (set_other shelf at b y z p.1 there)
]

-- The blank ones.

pub blank_first : {X : Type 0} (meaning : X → Store) (count : ℕ) (shelf : List X) (spares : Spares) → All (λ b. meaning b ≡ blank) (drop count shelf) → AreBlank meaning count shelf spares
blank_first meaning count shelf spares each b x behind unspent there =
    let inside : b < length shelf = slice_get_within shelf b x there in
    let read : get_or (drop count shelf) (b - count) x ≡ x = get_or-drop count shelf (b - count) x ∙ (ap (λ (n : ℕ). get_or shelf n x) (omega (arith, behind)) ∙ get_or_from_slice_get shelf b x x there) in
    blank_is (meaning x) (ap meaning (sym read) ∙ each (b - count) x (omega (arith, length-drop count shelf, inside, behind)))

-- one of the first is new
pub blank_next : {X : Type 0} (meaning : X → Store) (count : ℕ) (shelf : List X) (spares : Spares) (at : ℕ) (y : X) → AreBlank meaning count shelf spares → at < count
    → AreBlank meaning count (set shelf at y) spares
blank_next meaning count shelf spares at y are below b z behind unspent there = are b z behind unspent (set_other shelf at b y z (λ same. omega (arith, same, below, behind)) there)

-- one that is not spent is set aside, or is given back
pub blank_put : {X : Type 0} (meaning : X → Store) (count : ℕ) (shelf : List X) (old new : Spares) (box : ℕ) (spare : Spare) → AreBlank meaning count shelf old → spare_at old box ≢ Spent
    → spare_at new ≡ with_at (spare_at old) box spare → AreBlank meaning count shelf new
blank_put meaning count shelf old new box spare are unspent put b x behind is there = elim (eqb_tells b box) [
  | inl p ↦ are b x behind (subst (λ (j : ℕ). spare_at old j ≢ Spent) (sym p.1) unspent) there
  | inr p ↦
      let same : spare_at new b ≡ spare_at old b = ap (λ (f : ℕ → Spare). f b) put ∙ ap (λ (c : Bool). if c then spare else spare_at old b) p.0 in
      are b x behind (λ spent. is (same ∙ spent)) there
]

-- The lost ones.

pub none_in : (b : ℕ) → has 0 b ≡ false
none_in b = ap (λ (n : ℕ). (n % 2) == 1) (zero-div (2 ^ b))

pub told_first : {X : Type 0} (meaning : X → Store) (tables : List TableDef) (count : ℕ) (shelf : List X) → count ≤ length shelf → All (λ b. meaning b ≡ prepared tables) (take count shelf)
    → AreTold meaning 0 count shelf
told_first meaning tables count shelf enough each b x few below there =
    let first : get_or (take count shelf) b x ≡ x = get_or-take count shelf b x below ∙ get_or_from_slice_get shelf b x x there in
    let is : meaning x ≡ prepared tables = ap meaning (sym first) ∙ each b x (omega (arith, length-take-le count shelf enough, below)) in
    none_in b ∙ sym (ap (λ (st : Store). st.lost) is)

-- one is new, and is lost where the old one is
pub told_next : {X : Type 0} (meaning : X → Store) (lost count : ℕ) (shelf : List X) (at : ℕ) (x y : X)
    → AreTold meaning lost count shelf → at < count → count ≤ length shelf → x ≡ get_or shelf at x → (meaning y).lost ≡ (meaning x).lost → AreTold meaning lost count (set shelf at y)
told_next meaning lost count shelf at x y told below enough read same b z few under there = elim (eqb_tells b at) [
  | inl p ↦
      let here : z ≡ y = set_same shelf at y z (omega (arith, below, enough)) (subst (λ j. slice_get (set shelf at y) j ≡ Some z) p.1 there) in
      let was : slice_get shelf b ≡ Some x = ap (slice_get shelf) p.1 ∙ slice_get_read shelf (length shelf) at x refl (omega (arith, below, enough)) read in
      told b x few under was ∙ sym same ∙ ap (λ w. (meaning w).lost) (sym here)
  | inr p ↦ told b z few under (set_other shelf at b y z p.1 there)
]

-- one is lost, and the set has it
pub told_lost : {X : Type 0} (meaning : X → Store) (lost next count : ℕ) (shelf : List X) (at own : ℕ) (y : X)
    → AreTold meaning lost count shelf → at ≡ own → at < length shelf → Gains lost next own → (meaning y).lost ≡ true → AreTold meaning next count (set shelf at y)
told_lost meaning lost next count shelf at own y told same inside gains is b z few under there = elim (eqb_tells b own) [
  | inl p ↦
      let here : z ≡ y = set_same shelf at y z inside (subst (λ j. slice_get (set shelf at y) j ≡ Some z) (p.1 ∙ sym same) there) in
      gains b few ∙ ap (λ (c : Bool). if c then true else has lost b) p.0 ∙ sym is ∙ ap (λ w. (meaning w).lost) (sym here)
  | inr p ↦
      gains b few ∙ ap (λ (c : Bool). if c then true else has lost b) p.0
      ∙ told b z few under (set_other shelf at b y z (λ e. p.1 (e ∙ same)) there)
]

-- each number is there behind a poll, whatever it finds
pub counts_polled : (tables : List TableDef) (x y : Store) (s : ℕ) (P : Type 0) (r : Result Looked StepFault) → P → OnErr r (y ≡ x) → IfOk r (λ looked. P → Acts x s looked.polled y) → Counts tables x → Counts tables y
counts_polled tables x y s P (Ok looked) holds same acts = counts_acts tables x y s looked.polled (acts holds)
counts_polled tables x y s P (Err fault) holds same acts = counts_same tables x y (ap (λ (st : Store). st.next) same)
