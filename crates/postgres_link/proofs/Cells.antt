-- Reading the cells of a row from left to right.
use Rattle.std.proofs.Common.{inl, inr, ◌≡◌, List, [], ◌∷◌, ◌++◌, Option, Some, None, refl, sym, ap, ◌∙◌, append_assoc, append-nil, ℕ, length, ◌≤◌, arith}
use Rattle.pg_values.specs.declared.col_type.ColType.{ColType}
use Rattle.pg_values.specs.declared.value.Value.{Value}
use Rattle.postgres_link.specs.Asked.{IsCell, AreCells, IsUnread, HasUnread}
use Rattle.postgres_link.specs.Readings.{IsReading, IsRowReading}
use Rattle.postgres_link.specs.declared.row.Cells.TheVariants as cells

-- the cells of the row are these and then cells of what is left
abbrev pub Goes : List Value → List ColType → List (Option (List ℕ)) → List Value → Type 0
Goes made ks ts all = (rest : List Value) × (all ≡ made ++ rest) × AreCells ks ts rest

-- these were read, and what is left of the types and the texts tells what the row is
pub record IsFrontOf (kinds : List ColType) (texts : List (Option (List ℕ))) (made : List Value) (ks : List ColType) (ts : List (Option (List ℕ))) : Type 0 where
  pub forth : (rest : List Value) → AreCells ks ts rest → AreCells kinds texts (made ++ rest)
  pub back : (all : List Value) → AreCells kinds texts all → Goes made ks ts all
  pub unread : (code : List ℕ) → HasUnread ks ts code → HasUnread kinds texts code
  pub unread_back : (code : List ℕ) → HasUnread kinds texts code → HasUnread ks ts code

pub begun : (kinds : List ColType) (texts : List (Option (List ℕ))) → IsFrontOf kinds texts [] kinds texts
begun kinds texts = record { forth = λ rest cells. cells; back = λ all cells. (all, refl, cells); unread = λ code is. is; unread_back = λ code is. is }

next_cells : (made : List Value) (k : ColType) (ks : List ColType) (t : Option (List ℕ)) (ts : List (Option (List ℕ))) (cell : Value)
    → ((other : Value) → IsCell k t other → other ≡ cell) → (all : List Value) → Goes made (k ∷ ks) (t ∷ ts) all → Goes (made ++ cell ∷ []) ks ts all
next_cells made k ks t ts cell only all ([], same, cells) = elim cells [ ]
next_cells made k ks t ts cell only all (first ∷ rest, same, (is, cells)) =
    (rest, same ∙ ap (λ (x : Value). made ++ x ∷ rest) (only first is) ∙ sym (append_assoc made (cell ∷ []) rest), cells)

-- what is a value is not unread
no_unread : (k : ColType) (t : Option (List ℕ)) (cell : Value) (code : List ℕ) → IsCell k t cell → IsUnread k t code → ⊥
no_unread k None cell code is unread = unread
no_unread k (Some text) cell code is unread = unread.0 cell is

behind : (k : ColType) (ks : List ColType) (t : Option (List ℕ)) (ts : List (Option (List ℕ))) (cell : Value) (code : List ℕ) → IsCell k t cell → HasUnread (k ∷ ks) (t ∷ ts) code → HasUnread ks ts code
behind k ks t ts cell code is has = elim has [
  | inl unread ↦ elim (no_unread k t cell code is unread) [ ]
  | inr more ↦ more.2
]

pub next : (kinds : List ColType) (texts : List (Option (List ℕ))) (made : List Value) (k : ColType) (ks : List ColType) (t : Option (List ℕ)) (ts : List (Option (List ℕ))) (cell : Value)
    → IsFrontOf kinds texts made (k ∷ ks) (t ∷ ts) → IsReading (IsCell k t) (Some cell) → IsFrontOf kinds texts (made ++ cell ∷ []) ks ts
next kinds texts made k ks t ts cell front (is, only) = record {
  forth = λ rest cells. rw (append_assoc made (cell ∷ []) rest) (front.forth (cell ∷ rest) (is, cells));
  back = λ all cells. next_cells made k ks t ts cell only all (front.back all cells);
  unread = λ code has. front.unread code (inr (cell, is, has));
  unread_back = λ code has. behind k ks t ts cell code is (front.unread_back code has);
}

whole : (made all : List Value) → Goes made [] [] all → all ≡ made
whole made all (rest, same, none) = same ∙ ap (λ (x : List Value). made ++ x) none ∙ append-nil made

pub finished : (kinds : List ColType) (texts : List (Option (List ℕ))) (made : List Value) → IsFrontOf kinds texts made [] [] → IsReading (AreCells kinds texts) (Some made)
finished kinds texts made front = (rw (append-nil made) at (front.forth [] refl), λ all cells. whole made all (front.back all cells))

-- the next text is no value of its type
pub stopped : (kinds : List ColType) (texts : List (Option (List ℕ))) (made : List Value) (k : ColType) (ks : List ColType) (t : Option (List ℕ)) (ts : List (Option (List ℕ))) (code : List ℕ)
    → IsFrontOf kinds texts made (k ∷ ks) (t ∷ ts) → IsUnread k t code → HasUnread kinds texts code
stopped kinds texts made k ks t ts code front is = front.unread code (inl is)

no_type : (made : List Value) (t : Option (List ℕ)) (ts : List (Option (List ℕ))) (all : List Value) → Goes made [] (t ∷ ts) all → ⊥
no_type made t ts all (rest, same, cells) = cells

no_text : (made : List Value) (k : ColType) (ks : List ColType) (all : List Value) → Goes made (k ∷ ks) [] all → ⊥
no_text made k ks all (rest, same, cells) = cells

too_many : (kinds : List ColType) (texts : List (Option (List ℕ))) (made : List Value) (t : Option (List ℕ)) (ts : List (Option (List ℕ)))
    → IsFrontOf kinds texts made [] (t ∷ ts) → IsRowReading kinds texts cells.Miscounted
too_many kinds texts made t ts front = (λ all read. no_type made t ts all (front.back all read), λ code has. front.unread_back code has)

too_few : (kinds : List ColType) (texts : List (Option (List ℕ))) (made : List Value) (k : ColType) (ks : List ColType)
    → IsFrontOf kinds texts made (k ∷ ks) [] → IsRowReading kinds texts cells.Miscounted
too_few kinds texts made k ks front = (λ all read. no_text made k ks all (front.back all read), λ code has. front.unread_back code has)

pub all_read : (kinds : List ColType) (texts : List (Option (List ℕ))) (made : List Value) (ks : List ColType) (ts : List (Option (List ℕ)))
    → IsFrontOf kinds texts made ks ts → length ks ≡ 0 → length ts ≡ 0 → IsReading (AreCells kinds texts) (Some made)
all_read kinds texts made [] [] front a b = finished kinds texts made front
all_read kinds texts made [] (t ∷ ts) front a b = absurd (omega (arith, b))
all_read kinds texts made (k ∷ ks) ts front a b = absurd (omega (arith, a))

-- there are texts left or types, and not both
pub cut_off : (kinds : List ColType) (texts : List (Option (List ℕ))) (made : List Value) (ks : List ColType) (ts : List (Option (List ℕ)))
    → IsFrontOf kinds texts made ks ts → 1 ≤ length ks → length ts ≡ 0 → IsRowReading kinds texts cells.Miscounted
cut_off kinds texts made [] ts front a b = absurd (omega (arith, a))
cut_off kinds texts made (k ∷ ks) [] front a b = too_few kinds texts made k ks front
cut_off kinds texts made (k ∷ ks) (t ∷ ts) front a b = absurd (omega (arith, b))

pub left_over : (kinds : List ColType) (texts : List (Option (List ℕ))) (made : List Value) (ks : List ColType) (ts : List (Option (List ℕ)))
    → IsFrontOf kinds texts made ks ts → length ks ≡ 0 → 1 ≤ length ts → IsRowReading kinds texts cells.Miscounted
left_over kinds texts made [] [] front a b = absurd (omega (arith, b))
left_over kinds texts made [] (t ∷ ts) front a b = too_many kinds texts made t ts front
left_over kinds texts made (k ∷ ks) ts front a b = absurd (omega (arith, a))
