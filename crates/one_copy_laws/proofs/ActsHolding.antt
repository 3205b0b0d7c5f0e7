-- What a transaction holds once it holds more.
use Rattle.std.proofs.Common.{◌≡◌, Bool, true, false, ◌||◌, List, [], ◌∷◌, ◌++◌, refl, inl, inr}
use Rattle.std.specs.Prelude.{◌⊎◌}
use Rattle.backend_trait.specs.Keys.{Place, is_place}
use Rattle.backend_trait.specs.Effect.{Wants, Conflicts, same_place, same_table, table_left, table_right, both_wants, these_places, is_among}
use Rattle.backend_trait.specs.Store.{Live, Transaction, Absent, Alive, Dead, WhereLive, with_places}

pub or_first : (a c : Bool) → a ≡ true → (a || c) ≡ true
or_first true c e = refl
or_first false c e = absurd (let z : false ≡ true = e in cc)

pub or_second : (a c : Bool) → c ≡ true → (a || c) ≡ true
or_second true c e = refl
or_second false c e = e

pub or_true : (a c : Bool) → (a || c) ≡ true → (a ≡ true) ⊎ (c ≡ true)
or_true true c e = inl refl
or_true false c e = inr e

pub in_either : (xs ys : List Place) (p : Place) → is_among (xs ++ ys) p ≡ true → (is_among xs p ≡ true) ⊎ (is_among ys p ≡ true)
in_either [] ys p e = inr e
in_either (x ∷ xs) ys p e = elim (or_true (is_place p x) (is_among (xs ++ ys) p) e) [
  | inl h ↦ inl (or_first (is_place p x) (is_among xs p) h)
  | inr h ↦ elim (in_either xs ys p h) [ inl l ↦ inl (or_second (is_place p x) (is_among xs p) l) | inr r ↦ inr r ]
]

pub in_left : (xs ys : List Place) (p : Place) → is_among xs p ≡ true → is_among (xs ++ ys) p ≡ true
in_left [] ys p e = absurd (let z : false ≡ true = e in cc)
in_left (x ∷ xs) ys p e = elim (or_true (is_place p x) (is_among xs p) e) [
  | inl h ↦ or_first (is_place p x) (is_among (xs ++ ys) p) h
  | inr h ↦ or_second (is_place p x) (is_among (xs ++ ys) p) (in_left xs ys p h)
]

pub in_right : (xs ys : List Place) (p : Place) → is_among ys p ≡ true → is_among (xs ++ ys) p ≡ true
in_right [] ys p e = e
in_right (x ∷ xs) ys p e = or_second (is_place p x) (is_among (xs ++ ys) p) (in_right xs ys p e)

-- who conflicts with more conflicts with what was held or with what came
pub split_both : (a c d : Wants) → Conflicts (both_wants a c) d → Conflicts a d ⊎ Conflicts c d
split_both a c d (same_place p x y) = elim (in_either a.places c.places p x) [ inl l ↦ inl (same_place p l y) | inr r ↦ inr (same_place p r y) ]
split_both a c d (same_table k x y) = elim (or_true (a.tables k) (c.tables k) x) [ inl l ↦ inl (same_table k l y) | inr r ↦ inr (same_table k r y) ]
split_both a c d (table_left p x y) = elim (or_true (a.tables p.table) (c.tables p.table) x) [ inl l ↦ inl (table_left p l y) | inr r ↦ inr (table_left p r y) ]
split_both a c d (table_right p x y) = elim (in_either a.places c.places p x) [ inl l ↦ inl (table_right p l y) | inr r ↦ inr (table_right p r y) ]

pub split_places : (held : Wants) (places : List Place) (d : Wants) → Conflicts (with_places held places) d → Conflicts held d ⊎ Conflicts (these_places places) d
split_places held places d (same_place p x y) = elim (in_either held.places places p x) [ inl l ↦ inl (same_place p l y) | inr r ↦ inr (same_place p r y) ]
split_places held places d (same_table k x y) = inl (same_table k x y)
split_places held places d (table_left p x y) = inl (table_left p x y)
split_places held places d (table_right p x y) = elim (in_either held.places places p x) [ inl l ↦ inl (table_right p l y) | inr r ↦ inr (table_right p r y) ]

-- who is where a live one is asked for
pub live_of : (z : Transaction) (P : Live → Type 0) → WhereLive z P → (u : Live) × (z ≡ Alive u) × P u
live_of (Alive u) P e = (u, refl, e)
live_of Absent P e = absurd e
live_of Dead P e = absurd e

pub one_alive : (k l : Live) → Alive k ≡ Alive l → k ≡ l
one_alive k l e = cc
