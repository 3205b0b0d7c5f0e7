-- A mark is set exactly where another session crosses the request.
use Rattle.std.proofs.Common.{◌≡◌, ◌≢◌, ℕ, zero, suc, ◌<◌, Bool, true, false, ◌||◌, ◌==◌, List, [], ◌∷◌, ◌++◌, refl, sym, ap, ◌∙◌, subst, arith, inl, inr, eqb-true, eq-eqb}
use Rattle.std.specs.Prelude.{◌⊎◌, ◌&&◌, not, Option, Some, None}
use Rattle.std.specs.declared.cmp.Ordering.{Ordering}
use Rattle.std.specs.declared.cmp.Ordering.TheVariants.{Less, Equal, Greater}
use Rattle.std.specs.Ordering.{is_eq}
use Rattle.std.specs.List.{list_any}
use Rattle.std.proofs.lemmas.Bool.Decides.{eqb_tells, leb_tells}
use Rattle.catalogue.specs.declared.checked.Checked.{Checked}
use Rattle.backend_trait.specs.declared.request.Request.{Request}
use Rattle.backend_trait.specs.declared.request.Request.TheVariants as requests
use Rattle.backend_trait.specs.Keys.{Place, place_order, is_place}
use Rattle.backend_trait.specs.Effect.{Wants, both_wants, is_among, has_place, Conflicts, same_place, same_table, table_left, table_right, Given, Fails, Gives}
use Rattle.backend_trait.specs.Store.{Transaction, Absent, Alive, Dead, Pending, Store, held_by}
use Rattle.backend_trait.specs.Acts.{Crosses, asked_by, has_lock, may_be_crossed, given_of, wants_in, wants_of_run}
use Rattle.backend_trait.proofs.KeyLaws.{place_antisymmetric}
use Rattle.backend_trait.proofs.Telling.{or_true, or_left, or_right, and_true, both_true}
use Rattle.one_copy_model.specs.Numbers.{some_below}
use Rattle.one_copy_model.specs.Marks.{tables_named, conflict_at, conflict_in, conflict_named, crosses_by, crosses_from, is_crossed, AsksWithin}

-- lists
any_some : {A : Type 0} (f : A → Bool) (xs : List A) → list_any f xs ≡ true → (x : A) × (f x ≡ true)
any_some f [] e = absurd (let n : false ≡ true = e in cc)
any_some f (x ∷ xs) e = elim (or_true (f x) (list_any f xs) e) [ inl h ↦ (x, h) | inr h ↦ any_some f xs h ]

any_left : {A : Type 0} (f : A → Bool) (xs ys : List A) → list_any f xs ≡ true → list_any f (xs ++ ys) ≡ true
any_left f [] ys e = absurd (let n : false ≡ true = e in cc)
any_left f (x ∷ xs) ys e = elim (or_true (f x) (list_any f xs) e) [
  | inl h ↦ or_left (f x) (list_any f (xs ++ ys)) h
  | inr h ↦ or_right (f x) (list_any f (xs ++ ys)) (any_left f xs ys h)
]

any_right : {A : Type 0} (f : A → Bool) (xs ys : List A) → list_any f ys ≡ true → list_any f (xs ++ ys) ≡ true
any_right f [] ys e = e
any_right f (x ∷ xs) ys e = or_right (f x) (list_any f (xs ++ ys)) (any_right f xs ys e)

below_some : (p : ℕ → Bool) (n : ℕ) → some_below p n ≡ true → (o : ℕ) × (p o ≡ true)
below_some p zero e = absurd (let f : false ≡ true = e in cc)
below_some p (suc n) e = elim (or_true (p n) (some_below p n) e) [ inl h ↦ (n, h) | inr h ↦ below_some p n h ]

below_all : (p : ℕ → Bool) (n o : ℕ) → o < n → p o ≡ true → some_below p n ≡ true
below_all p zero o below e = absurd (omega (arith, below))
below_all p (suc n) o below e = elim (eqb_tells o n) [
  | inl q ↦ or_left (p n) (some_below p n) (subst (λ (k : ℕ). p k ≡ true) q.1 e)
  | inr q ↦ or_right (p n) (some_below p n) (below_all p n o (let z : o < n = omega (arith, below, q.1) in z) e)
]

is_false : (t : Bool) → not t ≡ true → t ≡ false
is_false true e = absurd (cc)
is_false false e = refl

is_other : (o s : ℕ) → not (o == s) ≡ true → o ≢ s
is_other o s e is = let t : true ≡ false = sym (eq-eqb o s is) ∙ is_false (o == s) e in cc

not_same : (o s : ℕ) → o ≢ s → not (o == s) ≡ true
not_same o s other = go (o == s) refl
  where
    go : (t : Bool) → (o == s) ≡ t → not t ≡ true
    go true e = absurd (other (eqb-true o s e))
    go false e = refl

-- places that are one
told_equal : (o : Ordering) → is_eq o ≡ true → o ≡ Equal
told_equal Less e = absurd (cc)
told_equal Equal e = refl
told_equal Greater e = absurd (cc)

one_and_same : (p q : Place) → is_place p q ≡ true → p ≡ q
one_and_same p q e = place_antisymmetric p q (told_equal (place_order p q) e)

-- what holds at a place holds at one of the places among which it is
any_among : (f : Place → Bool) (p : Place) (places : List Place) → is_among places p ≡ true → f p ≡ true → list_any f places ≡ true
any_among f p [] e is = absurd (let n : false ≡ true = e in cc)
any_among f p (q ∷ qs) e is = elim (or_true (is_place p q) (is_among qs p) e) [
  | inl h ↦ or_left (f q) (list_any f qs) (subst (λ (r : Place). f r ≡ true) (one_and_same p q h) is)
  | inr h ↦ or_right (f q) (list_any f qs) (any_among f p qs h is)
]

-- a conflict at a place or a table that is named
at_to : (a b : Wants) (p : Place) → conflict_at a b p ≡ true → Conflicts a b
at_to a b p e = elim (or_true (has_place a p && (has_place b p || b.tables p.table)) (a.tables p.table && has_place b p) e) [
  | inl h ↦
      let both = and_true (has_place a p) (has_place b p || b.tables p.table) h in
      elim (or_true (has_place b p) (b.tables p.table) both.1) [ inl y ↦ same_place p both.0 y | inr y ↦ table_right p both.0 y ]
  | inr h ↦ let both = and_true (a.tables p.table) (has_place b p) h in table_left p both.0 both.1
]

in_to : (a b : Wants) (t : ℕ) → conflict_in a b t ≡ true → Conflicts a b
in_to a b t e = let both = and_true (a.tables t) (b.tables t) e in same_table t both.0 both.1

named_to : (a b : Wants) (tables : List ℕ) → conflict_named a b tables ≡ true → Conflicts a b
named_to a b tables e = elim (or_true (list_any (conflict_at a b) (a.places ++ b.places)) (list_any (conflict_in a b) tables) e) [
  | inl h ↦ let (p, is) = any_some (conflict_at a b) (a.places ++ b.places) h in at_to a b p is
  | inr h ↦ let (t, is) = any_some (conflict_in a b) tables h in in_to a b t is
]

by_to : (st : Store) (s : ℕ) (request : Request) (o : ℕ) (x : Option Pending) → may_be_crossed request ≡ true → o ≢ s → st.pending o ≡ x → crosses_by st s request o x ≡ true → Crosses st s request
by_to st s request o None kind other is e = absurd (let n : false ≡ true = e in cc)
by_to st s request o (Some its) kind other is e =
    let both = and_true (not (has_lock st o its.request)) (conflict_named (asked_by st o its.request) (both_wants (asked_by st s request) (held_by (st.transaction s))) (tables_named its.request)) e in
    record {
      kind = kind;
      other = o;
      another = other;
      its = its;
      waits = is;
      unlocked = is_false (has_lock st o its.request) both.0;
      conflict = named_to (asked_by st o its.request) (both_wants (asked_by st s request) (held_by (st.transaction s))) (tables_named its.request) both.1;
    }

-- a mark is set only where another session crosses the request
pub marked_only : (st : Store) (s : ℕ) (request : Request) → is_crossed st s request ≡ true → Crosses st s request
unfolding is_crossed
marked_only st s request e =
    let crossed = and_true (may_be_crossed request) (some_below (crosses_from st s request) 65) e in
    let (o, is) = below_some (crosses_from st s request) 65 crossed.1 in
    let both = and_true (not (o == s)) (crosses_by st s request o (st.pending o)) is in
    by_to st s request o (st.pending o) crossed.0 (is_other o s both.0) refl both.1

-- the table that a request asks for it names; a run asks for none
no_table : (t : ℕ) (given : Given) → (wants_in given).tables t ≡ true → ⊥
no_table t (Fails code) e = let n : false ≡ true = e in cc
no_table t (Gives answer changes places) e = let n : false ≡ true = e in cc

run_table : (t : ℕ) (st : Store) (checked : Checked) (x : Transaction) → (wants_of_run st checked x).tables t ≡ true → ⊥
run_table t st checked Absent e = let n : false ≡ true = e in cc
run_table t st checked (Alive live) e = no_table t (given_of st checked live) e
run_table t st checked Dead e = let n : false ≡ true = e in cc

asked_table : (f : ℕ → Bool) (t : ℕ) (st : Store) (o : ℕ) (request : Request) → f t ≡ true → (asked_by st o request).tables t ≡ true → list_any f (tables_named request) ≡ true
asked_table f t st o requests.TakeSnapshot is e = absurd (let n : false ≡ true = e in cc)
asked_table f t st o (requests.Run checked) is e = absurd (run_table t st checked (st.transaction o) e)
asked_table f t st o (requests.Lock table) is e = or_left (f table) false (subst (λ (n : ℕ). f n ≡ true) (eqb-true t table e) is)
asked_table f t st o requests.Commit is e = absurd (let n : false ≡ true = e in cc)
asked_table f t st o requests.Rollback is e = absurd (let n : false ≡ true = e in cc)
asked_table f t st o (requests.ReadSerial table) is e = absurd (let n : false ≡ true = e in cc)
asked_table f t st o (requests.SetSerial table n) is e = absurd (let m : false ≡ true = e in cc)

-- a conflict is at one of the places of the two, or at a table that is named
module _ (a b : Wants) (tables : List ℕ) where
  at_both : (p : Place) → has_place a p ≡ true → (has_place b p ≡ true) ⊎ (b.tables p.table ≡ true) → conflict_at a b p ≡ true
  at_both p x y =
      or_left (has_place a p && (has_place b p || b.tables p.table)) (a.tables p.table && has_place b p)
      (both_true (has_place a p) (has_place b p || b.tables p.table) x (elim y [ inl h ↦ or_left (has_place b p) (b.tables p.table) h | inr h ↦ or_right (has_place b p) (b.tables p.table) h ]))

  at_table : (p : Place) → a.tables p.table ≡ true → has_place b p ≡ true → conflict_at a b p ≡ true
  at_table p x y =
      or_right (has_place a p && (has_place b p || b.tables p.table)) (a.tables p.table && has_place b p)
      (both_true (a.tables p.table) (has_place b p) x y)

  by_left : (p : Place) → has_place a p ≡ true → conflict_at a b p ≡ true → conflict_named a b tables ≡ true
  by_left p x at =
      or_left (list_any (conflict_at a b) (a.places ++ b.places)) (list_any (conflict_in a b) tables)
      (any_left (conflict_at a b) a.places b.places (any_among (conflict_at a b) p a.places x at))

  by_right : (p : Place) → has_place b p ≡ true → conflict_at a b p ≡ true → conflict_named a b tables ≡ true
  by_right p y at =
      or_left (list_any (conflict_at a b) (a.places ++ b.places)) (list_any (conflict_in a b) tables)
      (any_right (conflict_at a b) a.places b.places (any_among (conflict_at a b) p b.places y at))

  named_from : ((t : ℕ) → conflict_in a b t ≡ true → a.tables t ≡ true → list_any (conflict_in a b) tables ≡ true) → Conflicts a b → conflict_named a b tables ≡ true
  named_from names (same_place p x y) = by_left p x (at_both p x (inl y))
  named_from names (same_table t x y) =
      or_right (list_any (conflict_at a b) (a.places ++ b.places)) (list_any (conflict_in a b) tables)
      (names t (both_true (a.tables t) (b.tables t) x y) x)
  named_from names (table_left p x y) = by_right p y (at_table p x y)
  named_from names (table_right p x y) = by_left p x (at_both p x (inr y))

-- and wherever one does, in a store that runs have led to
pub marked_all : (st : Store) (s : ℕ) (request : Request) → AsksWithin st → Crosses st s request → is_crossed st s request ≡ true
unfolding is_crossed
marked_all st s request within c =
    let below : c.other < 65 = elim (leb_tells 65 c.other) [
      | inl q ↦ absurd (let none : st.pending c.other ≡ None = within c.other q.1 in let some : st.pending c.other ≡ Some c.its = c.waits in cc)
      | inr q ↦ (let z : c.other < 65 = omega (arith, q.1) in z)
    ] in
    let wants = asked_by st c.other c.its.request in
    let has = both_wants (asked_by st s request) (held_by (st.transaction s)) in
    both_true (may_be_crossed request) (some_below (crosses_from st s request) 65) c.kind
    (below_all (crosses_from st s request) 65 c.other below
    (both_true (not (c.other == s)) (crosses_by st s request c.other (st.pending c.other)) (not_same c.other s c.another)
    (subst (λ (x : Option Pending). crosses_by st s request c.other x ≡ true) (sym c.waits)
    (both_true (not (has_lock st c.other c.its.request)) (conflict_named wants has (tables_named c.its.request))
    (ap not c.unlocked)
    (named_from wants has (tables_named c.its.request) (λ t is asks. asked_table (conflict_in wants has) t st c.other c.its.request is asks) c.conflict)))))
