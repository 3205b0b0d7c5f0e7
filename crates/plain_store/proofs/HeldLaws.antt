-- Who holds what a request wants, as the program finds it.
use Rattle.std.proofs.Common.{◌≡◌, ◌≢◌, ℕ, zero, suc, ◌+◌, Bool, true, false, ◌||◌, ◌==◌, List, [], ◌∷◌, map, refl, sym, ap, ◌∙◌, arith, inl, inr, eqb-true, eq-eqb}
use Rattle.std.specs.Prelude.{◌⊎◌, ◌&&◌, not, slice_get}
use Rattle.backend_trait.specs.Keys.{Place}
use Rattle.backend_trait.specs.Effect.{Wants, nothing, both_wants, is_among, Conflicts, same_place, same_table, table_left, table_right}
use Rattle.backend_trait.specs.Store.{Absent, Alive, Dead, held_by}
use Rattle.outcomes.specs.Spots.{place_of}
use Rattle.plain_store.specs.declared.data.Work.{Work}
use Rattle.plain_store.specs.declared.data.Phase.{Phase}
use Rattle.plain_store.specs.declared.data.Phase.TheVariants as phases
use Rattle.plain_store.specs.Phases.{Claim, Places, Lock, wants_one, has_table, held_of, transaction_of, transaction_in}
use Rattle.plain_store.specs.Deciding.{share, are_in, are_in_one, clash, holds_work, holds_phase, taken_from}
use Rattle.backend_trait.proofs.Telling.{Tells, or_true, or_left, or_right, and_true, never}
use Rattle.plain_store.proofs.PlaceLaws.{one_told}
use Rattle.backend_trait.proofs.Among.{among_both}

pub no_conflict : (w : Wants) → Conflicts w nothing → ⊥
no_conflict w (same_place p a b) = let f : false ≡ true = b in cc
no_conflict w (same_table t a b) = let f : false ≡ true = b in cc
no_conflict w (table_left p a b) = let f : false ≡ true = b in cc
no_conflict w (table_right p a b) = let f : false ≡ true = b in cc

pub nothing_conflicts : (held : Wants) → Conflicts nothing held → ⊥
nothing_conflicts held (same_place p a b) = let f : false ≡ true = a in cc
nothing_conflicts held (same_table t a b) = let f : false ≡ true = a in cc
nothing_conflicts held (table_left p a b) = let f : false ≡ true = a in cc
nothing_conflicts held (table_right p a b) = let f : false ≡ true = a in cc

-- a conflict with both is one with either
pub split : (w a b : Wants) → Conflicts w (both_wants a b) → Conflicts w a ⊎ Conflicts w b
split w a b (same_place p x y) =
    elim (or_true (is_among a.places p) (is_among b.places p) (sym (among_both a.places b.places p) ∙ y)) [ inl h ↦ inl (same_place p x h) | inr h ↦ inr (same_place p x h) ]
split w a b (same_table t x y) = elim (or_true (a.tables t) (b.tables t) y) [ inl h ↦ inl (same_table t x h) | inr h ↦ inr (same_table t x h) ]
split w a b (table_left p x y) =
    elim (or_true (is_among a.places p) (is_among b.places p) (sym (among_both a.places b.places p) ∙ y)) [ inl h ↦ inl (table_left p x h) | inr h ↦ inr (table_left p x h) ]
split w a b (table_right p x y) = elim (or_true (a.tables p.table) (b.tables p.table) y) [ inl h ↦ inl (table_right p x h) | inr h ↦ inr (table_right p x h) ]

-- a place in a table
abbrev in_table : ℕ → Place → Bool
in_table table p = p.table == table

-- one that is wanted, and one that is held
pub clash_to : (a b : Claim) → clash a b ≡ true → Conflicts (wants_one a) (wants_one b)
clash_to (Places a) (Places b) e = let (p, here, there) = (one_told (is_among b) a).0 e in same_place p here there
clash_to (Places a) (Lock t) e = let (p, here, is) = (one_told (in_table t) a).0 e in table_right p here is
clash_to (Lock t) (Places a) e = let (p, here, is) = (one_told (in_table t) a).0 e in table_left p is here
clash_to (Lock t) (Lock u) e = same_table t (eq-eqb t t refl) e

pub clash_from : (a b : Claim) → Conflicts (wants_one a) (wants_one b) → clash a b ≡ true
clash_from (Places a) (Places b) (same_place p x y) = (one_told (is_among b) a).1 (p, x, y)
clash_from (Places a) (Places b) (same_table t x y) = absurd (let f : false ≡ true = x in cc)
clash_from (Places a) (Places b) (table_left p x y) = absurd (let f : false ≡ true = x in cc)
clash_from (Places a) (Places b) (table_right p x y) = absurd (let f : false ≡ true = y in cc)
clash_from (Places a) (Lock t) (same_place p x y) = absurd (let f : false ≡ true = y in cc)
clash_from (Places a) (Lock t) (same_table u x y) = absurd (let f : false ≡ true = x in cc)
clash_from (Places a) (Lock t) (table_left p x y) = absurd (let f : false ≡ true = x in cc)
clash_from (Places a) (Lock t) (table_right p x y) = (one_told (in_table t) a).1 (p, x, y)
clash_from (Lock t) (Places a) (same_place p x y) = absurd (let f : false ≡ true = x in cc)
clash_from (Lock t) (Places a) (same_table u x y) = absurd (let f : false ≡ true = y in cc)
clash_from (Lock t) (Places a) (table_left p x y) = (one_told (in_table t) a).1 (p, y, x)
clash_from (Lock t) (Places a) (table_right p x y) = absurd (let f : false ≡ true = x in cc)
clash_from (Lock t) (Lock u) (same_place p x y) = absurd (let f : false ≡ true = x in cc)
clash_from (Lock t) (Lock u) (same_table v x y) = eq-eqb t u (sym (eqb-true v t x) ∙ eqb-true v u y)
clash_from (Lock t) (Lock u) (table_left p x y) = absurd (let f : false ≡ true = y in cc)
clash_from (Lock t) (Lock u) (table_right p x y) = absurd (let f : false ≡ true = x in cc)

-- what a transaction holds
abbrev places_held : Work → List Place
places_held work = map place_of work.held.items

abbrev in_locked : Work → Place → Bool
in_locked work p = has_table work.tables p.table

held_to : (c : Claim) (work : Work) → holds_work c work ≡ true → Conflicts (wants_one c) (held_of work)
held_to (Places places) work e = elim (or_true (share places (places_held work)) (are_in_one places work.tables) e) [
  | inl h ↦ let (p, here, there) = (one_told (is_among (places_held work)) places).0 h in same_place p here there
  | inr h ↦ let (p, here, is) = (one_told (in_locked work) places).0 h in table_right p here is
]
held_to (Lock table) work e = elim (or_true (has_table work.tables table) (are_in (places_held work) table) e) [
  | inl h ↦ same_table table (eq-eqb table table refl) h
  | inr h ↦ let (p, here, is) = (one_told (in_table table) (places_held work)).0 h in table_left p is here
]

held_from : (c : Claim) (work : Work) → Conflicts (wants_one c) (held_of work) → holds_work c work ≡ true
held_from (Places places) work (same_place p x y) =
    or_left (share places (places_held work)) (are_in_one places work.tables) ((one_told (is_among (places_held work)) places).1 (p, x, y))
held_from (Places places) work (same_table t x y) = absurd (let f : false ≡ true = x in cc)
held_from (Places places) work (table_left p x y) = absurd (let f : false ≡ true = x in cc)
held_from (Places places) work (table_right p x y) =
    or_right (share places (places_held work)) (are_in_one places work.tables) ((one_told (in_locked work) places).1 (p, x, y))
held_from (Lock table) work (same_place p x y) = absurd (let f : false ≡ true = x in cc)
held_from (Lock table) work (same_table t x y) =
    or_left (has_table work.tables table) (are_in (places_held work) table) (ap (has_table work.tables) (sym (eqb-true t table x)) ∙ y)
held_from (Lock table) work (table_left p x y) =
    or_right (has_table work.tables table) (are_in (places_held work) table) ((one_told (in_table table) (places_held work)).1 (p, y, x))
held_from (Lock table) work (table_right p x y) = absurd (let f : false ≡ true = x in cc)

pub phase_told : (c : Claim) (phase : Phase) → Tells (holds_phase c phase) (Conflicts (wants_one c) (held_by (transaction_of phase)))
phase_told c phases.Absent = never _ (no_conflict (wants_one c))
phase_told c (phases.Alive work) = (held_to c work, held_from c work)
phase_told c phases.Dead = never _ (no_conflict (wants_one c))

-- nobody else, of the sessions from a number on
abbrev NobodyFrom : ℕ → ℕ → Claim → List Phase → Type 0
NobodyFrom n s c all = (o : ℕ) → n + o ≢ s → ¬ (Conflicts (wants_one c) (held_by (transaction_in (slice_get all o))))

first_free : (n s : ℕ) (c : Claim) (phase : Phase) (b : Bool) → (n == s) ≡ b → (not b && holds_phase c phase) ≡ false → n ≢ s → ¬ (Conflicts (wants_one c) (held_by (transaction_of phase)))
first_free n s c phase true is e other k = other (eqb-true n s is)
first_free n s c phase false is e other k = let t : holds_phase c phase ≡ true = (phase_told c phase).1 k in let f : false ≡ true = sym e ∙ t in absurd (cc)

or_none : (a b : Bool) → (a || b) ≡ false → (a ≡ false) × (b ≡ false)
or_none true b e = absurd (cc)
or_none false b e = (refl, e)

free_to : (n s : ℕ) (c : Claim) (all : List Phase) → taken_from n s c all ≡ false → NobodyFrom n s c all
free_to n s c [] e o other k = no_conflict (wants_one c) k
free_to n s c (phase ∷ all) e zero other k =
    let h : ((not (n == s) && holds_phase c phase) ≡ false) × (taken_from (n + 1) s c all ≡ false) = or_none _ _ e in
    first_free n s c phase (n == s) refl h.0 (λ (is : n ≡ s). other (let z : n + 0 ≡ n = omega arith in z ∙ is)) k
free_to n s c (phase ∷ all) e (suc o) other k =
    let h : ((not (n == s) && holds_phase c phase) ≡ false) × (taken_from (n + 1) s c all ≡ false) = or_none _ _ e in
    free_to (n + 1) s c all h.1 o (λ (is : n + 1 + o ≡ s). other (let z : n + suc o ≡ n + 1 + o = omega arith in z ∙ is)) k

-- somebody else, of the sessions from a number on
abbrev SomebodyFrom : ℕ → ℕ → Claim → List Phase → Type 0
SomebodyFrom n s c all = (o : ℕ) × (n + o ≢ s) × Conflicts (wants_one c) (held_by (transaction_in (slice_get all o)))

other_number : (n s : ℕ) → not (n == s) ≡ true → n ≢ s
other_number n s e is = let t : (n == s) ≡ true = eq-eqb n s is in let f : false ≡ true = sym (ap not t) ∙ e in cc

taken_to : (n s : ℕ) (c : Claim) (all : List Phase) → taken_from n s c all ≡ true → SomebodyFrom n s c all
taken_to n s c [] e = absurd (let f : false ≡ true = e in cc)
taken_to n s c (phase ∷ all) e = elim (or_true (not (n == s) && holds_phase c phase) (taken_from (n + 1) s c all) e) [
  | inl h ↦
      let both = and_true (not (n == s)) (holds_phase c phase) h in
      (0, (λ (is : n + 0 ≡ s). other_number n s both.0 (let z : n ≡ n + 0 = omega arith in z ∙ is)), (phase_told c phase).0 both.1)
  | inr h ↦
      let (o, other, k) = taken_to (n + 1) s c all h in
      (suc o, (λ (is : n + suc o ≡ s). other (let z : n + 1 + o ≡ n + suc o = omega arith in z ∙ is)), k)
]

not_false : (t : Bool) → ¬ (t ≡ false) → t ≡ true
not_false true h = refl
not_false false h = absurd (h refl)

-- whether another session holds what conflicts
pub taken_told : (s : ℕ) (c : Claim) (all : List Phase) → Tells (taken_from 0 s c all) ((o : ℕ) × (o ≢ s) × Conflicts (wants_one c) (held_by (transaction_in (slice_get all o))))
taken_told s c all = (
  λ e. let (o, other, k) = taken_to 0 s c all e in (o, (λ (is : o ≡ s). other (let z : 0 + o ≡ o = omega arith in z ∙ is)), k),
  λ (o, other, k). not_false (taken_from 0 s c all) (λ e. free_to 0 s c all e o (λ (is : 0 + o ≡ s). other (let z : o ≡ 0 + o = omega arith in z ∙ is)) k),
)

-- whether nobody else does
pub free_told : (s : ℕ) (c : Claim) (all : List Phase) → Tells (not (taken_from 0 s c all)) ((o : ℕ) → o ≢ s → ¬ (Conflicts (wants_one c) (held_by (transaction_in (slice_get all o)))))
free_told s c all = (
  λ e o other. free_to 0 s c all (flip _ e) o (λ (is : 0 + o ≡ s). other (let z : o ≡ 0 + o = omega arith in z ∙ is)),
  λ none. free (taken_from 0 s c all) refl none,
)
  where
    flip : (t : Bool) → not t ≡ true → t ≡ false
    flip true e = absurd (cc)
    flip false e = refl

    free : (t : Bool) → taken_from 0 s c all ≡ t → ((o : ℕ) → o ≢ s → ¬ (Conflicts (wants_one c) (held_by (transaction_in (slice_get all o))))) → not t ≡ true
    free true is none = let (o, other, k) = (taken_told s c all).0 is in absurd (none o other k)
    free false is none = refl
