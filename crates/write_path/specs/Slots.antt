-- The answers of a chain, by the number of the backend.
use Rattle.std.specs.Prelude.{◌≡◌, ℕ, ◌<◌, Bool, true, false, if◌then◌else◌, List, Option, Some, None, slice_index_or}
use Rattle.pool_base.specs.Sets.{has}
use Rattle.write_path.specs.declared.slots.Taken.{Taken}

abbrev pub slot_at : {A : Type 0} → List (Option (Taken A)) → ℕ → Option (Taken A)
slot_at slots b = slice_index_or slots b None

abbrev pub answer_in : {A : Type 0} → Option (Taken A) → Option A
answer_in None = None
answer_in (Some taken) = Some taken.answer

abbrev pub is_refusal : {A : Type 0} → Option (Taken A) → Bool
is_refusal None = false
is_refusal (Some taken) = taken.refused

abbrev pub is_taken : {A : Type 0} → Option A → Bool
is_taken None = false
is_taken (Some taken) = true

-- a backend's answer, where it is attached and has answered
abbrev pub seen_by : {A : Type 0} → ℕ → List (Option (Taken A)) → ℕ → Option A
seen_by attached slots b = if has attached b then answer_in (slot_at slots b) else None

abbrev pub has_answer : {A : Type 0} → (ℕ → Option A) → ℕ → Bool
has_answer view b = is_taken (view b)

-- attached, and without an answer
abbrev pub is_open : {A : Type 0} → ℕ → List (Option (Taken A)) → ℕ → Bool
is_open attached slots b = if has attached b then (if is_taken (slot_at slots b) then false else true) else false

abbrev pub IsLowestOf : ℕ → ℕ → Type 0
IsLowestOf attached b = (b < 8) × (has attached b ≡ true) × ((k : ℕ) → k < b → has attached k ≡ false)

-- the lowest attached backend has answered with a refusal
abbrev pub HasRefused : {A : Type 0} → ℕ → List (Option (Taken A)) → Type 0
HasRefused attached slots = (b : ℕ) × IsLowestOf attached b × (is_refusal (slot_at slots b) ≡ true)
