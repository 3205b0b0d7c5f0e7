-- Slots at their places.
use Rattle.std.proofs.Common.{◌≡◌, ℕ, suc, zero, ◌+◌, ◌<◌, List, [], ◌∷◌, ◌++◌, length, get_or, set, refl, sym, subst, arith}
use Rattle.session_player.specs.declared.slots.Slot.{Slot}
use Rattle.session_player.specs.declared.slots.Slot.TheVariants.{Free}
use Rattle.session_player.specs.Slots.{IsPlaced, ArePlaced}

placed_at : (before : ℕ) (slots : List Slot) (i : ℕ) (slot : Slot) → ArePlaced before slots → i < length slots → slot ≡ get_or slots i slot → IsPlaced (before + i) slot
placed_at before [] i slot are below is = absurd (omega arith)
placed_at before (first ∷ slots) zero slot are below is =
    let here : before ≡ before + zero = omega arith in subst (λ n. IsPlaced n slot) here (subst (IsPlaced before) (sym is) are.0)
placed_at before (first ∷ slots) (suc i) slot are below is =
    let next : suc before + i ≡ before + suc i = omega arith in subst (λ n. IsPlaced n slot) next (placed_at (suc before) slots i slot are.1 (omega arith) is)

placed_from : (before i : ℕ) (slots : List Slot) → ArePlaced before slots → IsPlaced (before + i) (get_or slots i Free)
placed_from before i [] are = tt
placed_from before zero (first ∷ slots) are =
    let here : before ≡ before + zero = omega arith in subst (λ n. IsPlaced n first) here are.0
placed_from before (suc i) (first ∷ slots) are =
    let next : suc before + i ≡ before + suc i = omega arith in subst (λ n. IsPlaced n (get_or slots i Free)) next (placed_from (suc before) i slots are.1)

-- behind the last slot none is taken
pub placed_or : (slots : List Slot) (i : ℕ) → ArePlaced 0 slots → IsPlaced i (get_or slots i Free)
placed_or slots i are = let here : 0 + i ≡ i = omega arith in subst (λ n. IsPlaced n (get_or slots i Free)) here (placed_from 0 i slots are)

placed_set : (before : ℕ) (slots : List Slot) (i : ℕ) (slot : Slot) → ArePlaced before slots → IsPlaced (before + i) slot → ArePlaced before (set slots i slot)
placed_set before [] i slot are at = tt
placed_set before (first ∷ slots) zero slot are at =
    let here : before + zero ≡ before = omega arith in (subst (λ n. IsPlaced n slot) here at, are.1)
placed_set before (first ∷ slots) (suc i) slot are at =
    let next : before + suc i ≡ suc before + i = omega arith in (are.0, placed_set (suc before) slots i slot are.1 (subst (λ n. IsPlaced n slot) next at))

pub placed_here : (slots : List Slot) (i : ℕ) (slot : Slot) → ArePlaced 0 slots → i < length slots → slot ≡ get_or slots i slot → IsPlaced i slot
placed_here slots i slot are below is = let here : 0 + i ≡ i = omega arith in subst (λ n. IsPlaced n slot) here (placed_at 0 slots i slot are below is)

pub placed_with : (slots : List Slot) (i : ℕ) (slot : Slot) → ArePlaced 0 slots → IsPlaced i slot → ArePlaced 0 (set slots i slot)
placed_with slots i slot are at = let here : i ≡ 0 + i = omega arith in placed_set 0 slots i slot are (subst (λ n. IsPlaced n slot) here at)

-- one that was changed stands where the other has stood
pub placed_anew : (slots : List Slot) (i : ℕ) (old new : Slot) → ArePlaced 0 slots → i < length slots → old ≡ get_or slots i old → ((before : ℕ) → IsPlaced before old → IsPlaced before new) → ArePlaced 0 (set slots i new)
placed_anew slots i old new are below is keeps = placed_with slots i new are (keeps i (placed_here slots i old are below is))

placed_push : (before : ℕ) (slots : List Slot) → ArePlaced before slots → ArePlaced before (slots ++ Free ∷ [])
placed_push before [] are = (tt, tt)
placed_push before (first ∷ slots) are = (are.0, placed_push (suc before) slots are.1)

pub placed_free : (slots : List Slot) → ArePlaced 0 slots → ArePlaced 0 (slots ++ Free ∷ [])
placed_free slots are = placed_push 0 slots are

-- one more slot is free
pub pushed : (xs : List Slot) (i : ℕ) → get_or (xs ++ Free ∷ []) i Free ≡ get_or xs i Free
pushed [] zero = refl
pushed [] (suc i) = refl
pushed (x ∷ xs) zero = refl
pushed (x ∷ xs) (suc i) = pushed xs i
