-- What stands in front of a body, and what stands at the front of some bytes: a message, the beginning of one, or neither.
use Rattle.std.specs.Prelude.{◌≡◌, ℕ, ◌+◌, ◌<◌, ◌≤◌, ◌⊎◌, List, [], ◌∷◌, ◌++◌, length, take, drop}
use Rattle.std.specs.Int.{w32, from_be_bytes}
use Rattle.pg_messages.specs.declared.frame.Layout.{Layout}
use Rattle.pg_messages.specs.Fields.{int32}

-- a message: its type, its length without the type, its body
abbrev pub framed : ℕ → List ℕ → List ℕ
framed tag body = tag ∷ int32 (length body + 4) ++ body

-- a start message has no type
abbrev pub start_framed : List ℕ → List ℕ
start_framed body = int32 (length body + 4) ++ body

-- a message behind the first: the length stands behind the type
abbrev pub message_layout : Layout
message_layout = record { place = 1; least = 4; most = 1048576 }

-- a start message: the length stands at the front
abbrev pub start_layout : Layout
start_layout = record { place = 0; least = 8; most = 10000 }

-- the length that the bytes state
abbrev pub stated : Layout → List ℕ → ℕ
stated l bytes = from_be_bytes w32 (take 4 (drop l.place bytes))

-- if a byte is there, the first one is a type
abbrev pub Opens : (ℕ → Type 0) → List ℕ → Type 0
Opens IsType [] = Unit {0}
Opens IsType (tag ∷ bytes) = IsType tag

-- the length is there
abbrev pub IsHeaded : Layout → (ℕ → Type 0) → List ℕ → Type 0
IsHeaded l IsType bytes = Opens IsType bytes × (l.place + 4 ≤ length bytes)

-- the length is there and may be
abbrev pub IsSized : Layout → (ℕ → Type 0) → List ℕ → Type 0
IsSized l IsType bytes = IsHeaded l IsType bytes × (l.least ≤ stated l bytes) × (stated l bytes ≤ l.most)

-- more bytes are needed to tell
abbrev pub IsCut : Layout → (ℕ → Type 0) → List ℕ → Type 0
IsCut l IsType bytes = (Opens IsType bytes × (length bytes < l.place + 4)) ⊎ (IsSized l IsType bytes × (length bytes < l.place + stated l bytes))

-- the bytes begin with all of a message
abbrev pub BeginsWith : {A : Type 0} → (A → List ℕ → Type 0) → A → ℕ → List ℕ → Type 0
BeginsWith IsForm message taken bytes = (taken ≤ length bytes) × IsForm message (take taken bytes)

-- the bytes state a length above the limit
abbrev pub IsTooLong : Layout → (ℕ → Type 0) → ℕ → List ℕ → Type 0
IsTooLong l IsType n bytes = IsHeaded l IsType bytes × (n ≡ stated l bytes) × (l.most < n)

-- the first byte is no type, the length is below the least, or the body is no body of that type
abbrev pub IsBadAt : {A : Type 0} → Layout → (ℕ → Type 0) → (A → List ℕ → Type 0) → ℕ → List ℕ → Type 0
IsBadAt {A} l IsType IsForm place bytes =
    ((place ≡ 0) × ¬ Opens IsType bytes)
    ⊎ ((place ≡ l.place) × IsHeaded l IsType bytes × (stated l bytes < l.least))
    ⊎ ((place ≡ l.place + 4) × IsSized l IsType bytes × (l.place + stated l bytes ≤ length bytes) × ((message : A) → ¬ IsForm message (take (l.place + stated l bytes) bytes)))
