-- Places among two lists, and conflicts with what two want.
use Rattle.std.proofs.Common.{◌≡◌, ◌-◌, Bool, true, false, ◌||◌, List, [], ◌∷◌, ◌++◌, refl, ap, ◌∙◌}
use Rattle.backend_trait.specs.Keys.{Place, is_place}
use Rattle.backend_trait.specs.Effect.{is_among}
use Rattle.std.proofs.Common.{◌+◌}
use Rattle.backend_trait.specs.Effect.{Wants, both_wants, Conflicts, same_place, same_table, table_left, table_right}
use Rattle.backend_trait.proofs.Telling.{or_left, or_right}

or_group : (a b c : Bool) → (a || (b || c)) ≡ ((a || b) || c)
or_group true b c = refl
or_group false b c = refl

-- a place among two lists is among one of them
pub among_both : (xs ys : List Place) (p : Place) → is_among (xs ++ ys) p ≡ (is_among xs p || is_among ys p)
among_both [] ys p = refl
among_both (x ∷ xs) ys p = ap (λ b. is_place p x || b) (among_both xs ys p) ∙ or_group (is_place p x) (is_among xs p) (is_among ys p)

among_left : (xs ys : List Place) (p : Place) → is_among xs p ≡ true → is_among (xs ++ ys) p ≡ true
among_left xs ys p h = among_both xs ys p ∙ or_left (is_among xs p) (is_among ys p) h

among_right : (xs ys : List Place) (p : Place) → is_among ys p ≡ true → is_among (xs ++ ys) p ≡ true
among_right xs ys p h = among_both xs ys p ∙ or_right (is_among xs p) (is_among ys p) h

pub to_left : (w a b : Wants) → Conflicts w a → Conflicts w (both_wants a b)
to_left w a b (same_place p x y) = same_place p x (among_left a.places b.places p y)
to_left w a b (same_table t x y) = same_table t x (or_left (a.tables t) (b.tables t) y)
to_left w a b (table_left p x y) = table_left p x (among_left a.places b.places p y)
to_left w a b (table_right p x y) = table_right p x (or_left (a.tables p.table) (b.tables p.table) y)

pub to_right : (w a b : Wants) → Conflicts w b → Conflicts w (both_wants a b)
to_right w a b (same_place p x y) = same_place p x (among_right a.places b.places p y)
to_right w a b (same_table t x y) = same_table t x (or_right (a.tables t) (b.tables t) y)
to_right w a b (table_left p x y) = table_left p x (among_right a.places b.places p y)
to_right w a b (table_right p x y) = table_right p x (or_right (a.tables p.table) (b.tables p.table) y)
