-- The sessions that are connected, each at the place of its number.
use Rattle.std.specs.Coded.{×_prop}
use Rattle.std.proofs.Props.{props}
use Rattle.std.specs.Prelude.{◌≡◌, ℕ, suc, Bool, true, false, List, [], ◌∷◌}
use Rattle.session_seat.specs.declared.seat.Turn.TheVariants.{Held}
use Rattle.session_player.specs.declared.slots.Slot.{Slot}
use Rattle.session_player.specs.declared.slots.Slot.TheVariants.{Free, Taken}

abbrev pub is_taken : Slot → Bool
is_taken Free = false
is_taken (Taken client) = true

-- a slot that stands behind so many others is free, or of the session of the next number
abbrev pub IsPlaced : ℕ → Slot → Type 0
IsPlaced before Free = Unit {0}
IsPlaced before (Taken client) = client.place.seat.s.number ≡ suc before

-- slots that stand behind so many others, each at its place
abbrev pub ArePlaced : ℕ → List Slot → Type 0
ArePlaced before [] = Unit {0}
ArePlaced before (slot ∷ slots) = IsPlaced before slot × ArePlaced (suc before) slots

IsPlaced-prop : (before : ℕ) (slot : Slot) → IsProp (IsPlaced before slot)
IsPlaced-prop before Free = Prim.hlevel props
IsPlaced-prop before (Taken client) = Prim.hlevel props

pub ArePlaced-prop : (before : ℕ) (slots : List Slot) → IsProp (ArePlaced before slots)
ArePlaced-prop before [] = Prim.hlevel props
ArePlaced-prop before (slot ∷ slots) = ×_prop (IsPlaced-prop before slot) (ArePlaced-prop (suc before) slots)

-- the slot is of a session that is held
abbrev pub IsHeld : Slot → Type 0
IsHeld Free = ⊥
IsHeld (Taken client) = client.place.seat.turn ≡ Held
