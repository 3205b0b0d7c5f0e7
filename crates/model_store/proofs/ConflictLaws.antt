-- What a transaction holds conflicts with places, or with the lock of a table.
use Rattle.std.proofs.Common.{◌≡◌, ◌≢◌, ◌⊎◌, ℕ, ◌+◌, ◌<◌, ◌≤◌, Bool, true, false, ◌||◌, ◌==◌, List, [], ◌∷◌, length, map, drop, get_or, refl, sym, ap, ◌∙◌, subst, arith, inl, inr}
use Rattle.std.specs.Prelude.{Option, slice_get, IsTrue, ◌↔◌}
use Rattle.std.specs.List.{list_any}
use Rattle.std.specs.declared.cmp.Ordering.{Ordering}
use Rattle.std.specs.declared.cmp.Ordering.TheVariants.{Less, Equal, Greater}
use Rattle.std.specs.Ordering.{is_eq}
use Rattle.std.proofs.lemmas.Bool.Decides.{eqb_tells, leb_tells}
use Rattle.std.proofs.lemmas.List.{drop_all}
use Rattle.std.proofs.lemmas.Cmp.{tied_itself}
use Rattle.std.proofs.lemmas.Option.{slice_get_read, slice_get_past}
use Rattle.backend_trait.specs.Keys.{Place, place_order, is_place}
use Rattle.backend_trait.specs.Effect.{Wants, nothing, these_places, is_among, Conflicts, same_place, same_table, table_left, table_right}
use Rattle.backend_trait.specs.Store.{table_lock}
use Rattle.backend_trait.proofs.KeyLaws.{place_total, place_antisymmetric}
use Rattle.outcomes.specs.declared.spot.Spot.{Spot}
use Rattle.outcomes.specs.Spots.{place_of}
use Rattle.outcomes.proofs.Among.{any_found, any_passed}
use Rattle.model_store.specs.declared.phase.Work.{Work}
use Rattle.model_store.specs.declared.seat.Seat.{Seat}
use Rattle.model_store.specs.Phases.{held_of, held_by_phase}
use Rattle.model_store.specs.Conflicts.{held_in, IsHeldElsewhere}

told : (o : Ordering) → is_eq o ≡ true → o ≡ Equal
told Less e = absurd (cc)
told Equal e = refl
told Greater e = absurd (cc)

-- places that are one
pub one_and_same : (p q : Place) → is_place p q ≡ true → p ≡ q
one_and_same p q e = place_antisymmetric p q (told (place_order p q) e)

pub is_itself : (p : Place) → is_place p p ≡ true
is_itself p = ap is_eq (tied_itself place_total p)

pub no_conflict : (wants : Wants) → Conflicts wants nothing → ⊥
no_conflict wants (same_place p a b) = cc
no_conflict wants (same_table t a b) = cc
no_conflict wants (table_left p a b) = cc
no_conflict wants (table_right p a b) = cc

or_right : (a b : Bool) → b ≡ true → (a || b) ≡ true
or_right true b e = refl
or_right false b e = e

or_left : (a b : Bool) → a ≡ true → (a || b) ≡ true
or_left true b e = refl
or_left false b e = absurd (cc)

or_either : (a b : Bool) → (a || b) ≡ true → (a ≡ true) ⊎ (b ≡ true)
or_either true b e = inl refl
or_either false b e = inr e

-- a test that one of the places passes
pub one_passes : (test : Place → Bool) (ps : List Place) → list_any test ps ≡ true → (p : Place) × (is_among ps p ≡ true) × (test p ≡ true)
one_passes test [] e = absurd (cc)
one_passes test (x ∷ xs) e = elim (or_either (test x) (list_any test xs) e) [
  | inl here ↦ (x, or_left (is_place x x) (is_among xs x) (is_itself x), here)
  | inr there ↦ let (p, among, passes) = one_passes test xs there in (p, or_right (is_place p x) (is_among xs p) among, passes)
]

pub passes_one : (test : Place → Bool) (ps : List Place) (p : Place) → is_among ps p ≡ true → test p ≡ true → list_any test ps ≡ true
passes_one test [] p among e = absurd (let f : false ≡ true = among in cc)
passes_one test (x ∷ xs) p among e = elim (or_either (is_place p x) (is_among xs p) among) [
  | inl here ↦ or_left (test x) (list_any test xs) (ap test (sym (one_and_same p x here)) ∙ e)
  | inr there ↦ or_right (test x) (list_any test xs) (passes_one test xs p there e)
]

-- whether what is held conflicts with a place: it has the place, or the lock of its table
abbrev pub holds_at : Wants → Place → Bool
holds_at held p = held.tables p.table || is_among held.places p

pub by_place : (held : Wants) (ps : List Place) → list_any (holds_at held) ps ≡ true → Conflicts (these_places ps) held
by_place held ps e =
    let (p, among, holds) = one_passes (holds_at held) ps e in
    elim (or_either (held.tables p.table) (is_among held.places p) holds) [
      | inl lock ↦ table_right p among lock
      | inr place ↦ same_place p among place
    ]

pub to_place : (held : Wants) (ps : List Place) → Conflicts (these_places ps) held → list_any (holds_at held) ps ≡ true
to_place held ps (same_place p a b) = passes_one (holds_at held) ps p a (or_right (held.tables p.table) (is_among held.places p) b)
to_place held ps (same_table t a b) = absurd (let f : false ≡ true = a in cc)
to_place held ps (table_left p a b) = absurd (let f : false ≡ true = a in cc)
to_place held ps (table_right p a b) = passes_one (holds_at held) ps p a (or_left (held.tables p.table) (is_among held.places p) b)

same_number : (m n : ℕ) → (m == n) ≡ true → m ≡ n
same_number m n e = elim (eqb_tells m n) [ inl p ↦ p.1 | inr p ↦ absurd (let f : false ≡ true = sym p.0 ∙ e in cc) ]

number_itself : (m : ℕ) → (m == m) ≡ true
number_itself m = elim (eqb_tells m m) [ inl p ↦ p.0 | inr p ↦ absurd (p.1 refl) ]

-- whether what is held conflicts with the lock of a table
abbrev pub holds_of : Wants → ℕ → Bool
holds_of held n = held.tables n || list_any (λ (p : Place). p.table == n) held.places

pub by_lock : (held : Wants) (n : ℕ) → holds_of held n ≡ true → Conflicts (table_lock n) held
by_lock held n e = elim (or_either (held.tables n) (list_any (λ (p : Place). p.table == n) held.places) e) [
  | inl lock ↦ same_table n (number_itself n) lock
  | inr some ↦ let (p, among, is) = one_passes (λ (q : Place). q.table == n) held.places some in table_left p is among
]

pub to_lock : (held : Wants) (n : ℕ) → Conflicts (table_lock n) held → holds_of held n ≡ true
to_lock held n (same_place p a b) = absurd (let f : false ≡ true = a in cc)
to_lock held n (same_table t a b) = or_left (held.tables n) (list_any (λ (p : Place). p.table == n) held.places) (ap held.tables (sym (same_number t n a)) ∙ b)
to_lock held n (table_left p a b) = or_right (held.tables n) (list_any (λ (q : Place). q.table == n) held.places) (passes_one (λ (q : Place). q.table == n) held.places p b a)
to_lock held n (table_right p a b) = absurd (let f : false ≡ true = a in cc)

-- a test that tells of a conflict
pub tells_places : (held : Wants) (ps : List Place) (b : Bool) → b ≡ list_any (holds_at held) ps → IsTrue b ↔ Conflicts (these_places ps) held
tells_places held ps b is = (λ e. by_place held ps (sym is ∙ e), λ c. is ∙ to_place held ps c)

pub tells_lock : (held : Wants) (n : ℕ) (b : Bool) → b ≡ holds_of held n → IsTrue b ↔ Conflicts (table_lock n) held
tells_lock held n b is = (λ e. by_lock held n (sym is ∙ e), λ c. is ∙ to_lock held n c)

or_neither : (a b : Bool) → a ≡ false → b ≡ false → (a || b) ≡ false
or_neither true b x y = absurd (let f : true ≡ false = x in cc)
or_neither false b x y = y

-- a walk over places: one that conflicts is found, and one that does not is passed
module _ (work : Work) (spots : List Spot) (n : ℕ) (spot : Spot) (at : ℕ) where
  abbrev AreSoFar : Type 0
  AreSoFar = list_any (holds_at (held_of work)) (map place_of (drop n spots)) ≡ list_any (holds_at (held_of work)) (map place_of spots)

  pub locked_found : n < length spots → spot ≡ get_or spots n spot → AreSoFar → at ≡ spot.table → get_or work.locks at false ≡ true → IsTrue true ↔ Conflicts (these_places (map place_of spots)) (held_of work)
  locked_found below is so_far from lock =
      let here : (held_of work).tables spot.table ≡ true = ap (λ j. get_or work.locks j false) (sym from) ∙ lock in
      tells_places (held_of work) (map place_of spots) true
      (any_found place_of (holds_at (held_of work)) spots n spot (holds_at (held_of work) (place_of spot)) below is so_far refl
      (or_left ((held_of work).tables spot.table) (is_among (held_of work).places (place_of spot)) here))

  pub held_found : (read : List Spot) (found : Bool) → n < length spots → spot ≡ get_or spots n spot → AreSoFar → read ≡ work.held.items → found ≡ is_among (map place_of read) (place_of spot) → found ≡ true
      → IsTrue true ↔ Conflicts (these_places (map place_of spots)) (held_of work)
  held_found read found below is so_far same tells holds =
      let here : is_among (held_of work).places (place_of spot) ≡ true = ap (λ (held : List Spot). is_among (map place_of held) (place_of spot)) (sym same) ∙ (sym tells ∙ holds) in
      tells_places (held_of work) (map place_of spots) true
      (any_found place_of (holds_at (held_of work)) spots n spot (holds_at (held_of work) (place_of spot)) below is so_far refl
      (or_right ((held_of work).tables spot.table) (is_among (held_of work).places (place_of spot)) here))

  pub place_passed : (read : List Spot) (found : Bool) → n < length spots → spot ≡ get_or spots n spot → AreSoFar → at ≡ spot.table → get_or work.locks at false ≡ false → read ≡ work.held.items
      → found ≡ is_among (map place_of read) (place_of spot) → found ≡ false
      → list_any (holds_at (held_of work)) (map place_of (drop (n + 1) spots)) ≡ list_any (holds_at (held_of work)) (map place_of spots)
  place_passed read found below is so_far from unlocked same tells fails =
      let lock : (held_of work).tables spot.table ≡ false = ap (λ j. get_or work.locks j false) (sym from) ∙ unlocked in
      let place : is_among (held_of work).places (place_of spot) ≡ false = ap (λ (held : List Spot). is_among (map place_of held) (place_of spot)) (sym same) ∙ (sym tells ∙ fails) in
      any_passed place_of (holds_at (held_of work)) spots n spot (holds_at (held_of work) (place_of spot)) below is so_far refl
      (or_neither ((held_of work).tables spot.table) (is_among (held_of work).places (place_of spot)) lock place)

pub places_passed : (work : Work) (spots : List Spot) (n : ℕ) → list_any (holds_at (held_of work)) (map place_of (drop n spots)) ≡ list_any (holds_at (held_of work)) (map place_of spots) → length spots ≤ n
    → IsTrue false ↔ Conflicts (these_places (map place_of spots)) (held_of work)
places_passed work spots n so_far past =
    tells_places (held_of work) (map place_of spots) false
    (sym (ap (λ (rest : List Spot). list_any (holds_at (held_of work)) (map place_of rest)) (drop_all n spots past)) ∙ so_far)

-- the lock of a table, or else a place of it
pub lock_told : (work : Work) (n at : ℕ) → at ≡ n → get_or work.locks at false ≡ true → IsTrue (get_or work.locks at false) ↔ Conflicts (table_lock n) (held_of work)
lock_told work n at from lock =
    let here : (held_of work).tables n ≡ true = ap (λ j. get_or work.locks j false) (sym from) ∙ lock in
    tells_lock (held_of work) n (get_or work.locks at false) (lock ∙ sym (or_left ((held_of work).tables n) (list_any (λ (p : Place). p.table == n) (held_of work).places) here))

pub place_told : (work : Work) (n at : ℕ) (read : List Spot) (found : Bool) → at ≡ n → get_or work.locks at false ≡ false → read ≡ work.held.items
    → found ≡ list_any (λ (p : Place). p.table == n) (map place_of read) → IsTrue found ↔ Conflicts (table_lock n) (held_of work)
place_told work n at read found from unlocked same tells =
    let lock : (held_of work).tables n ≡ false = ap (λ j. get_or work.locks j false) (sym from) ∙ unlocked in
    tells_lock (held_of work) n found
    (tells ∙ (ap (λ (held : List Spot). list_any (λ (p : Place). p.table == n) (map place_of held)) same
    ∙ sym (ap (λ (b : Bool). b || list_any (λ (p : Place). p.table == n) (held_of work).places) lock)))

-- the seat at a number
pub held_at : (seats : List Seat) (o : ℕ) (seat : Seat) → o < length seats → seat ≡ get_or seats o seat → held_in (slice_get seats o) ≡ held_by_phase seat.phase
held_at seats o seat below is = ap held_in (slice_get_read seats (length seats) o seat refl below is)

-- no seat below a number holds what conflicts
abbrev pub IsNoneBelow : List Seat → ℕ → Wants → ℕ → Type 0
IsNoneBelow seats s wants n = (o : ℕ) → o < n → o ≢ s → ¬ (Conflicts wants (held_in (slice_get seats o)))

pub none_more : (seats : List Seat) (s : ℕ) (wants : Wants) (n : ℕ) → IsNoneBelow seats s wants n → ¬ ((n ≢ s) × Conflicts wants (held_in (slice_get seats n))) → IsNoneBelow seats s wants (n + 1)
none_more seats s wants n before not o below other conflict = elim (eqb_tells o n) [
  | inl p ↦ not (λ e. other (p.1 ∙ e), subst (λ (k : ℕ). Conflicts wants (held_in (slice_get seats k))) p.1 conflict)
  | inr p ↦ before o (omega (arith, below, p.1)) other conflict
]

pub none_at_all : (seats : List Seat) (s : ℕ) (wants : Wants) (n : ℕ) → length seats ≤ n → IsNoneBelow seats s wants n → ¬ (IsHeldElsewhere seats s wants)
none_at_all seats s wants n end before (o, other, conflict) = elim (leb_tells (length seats) o) [
  | inl p ↦ no_conflict wants (subst (λ (x : Option Seat). Conflicts wants (held_in x)) (slice_get_past seats o p.1) conflict)
  | inr p ↦ before o (omega (arith, p.1, end)) other conflict
]
