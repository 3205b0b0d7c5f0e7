-- Seats and passes: which pass waits for which seat.
use Rattle.std.specs.Prelude.{◌≡◌, ℕ, suc, ◌<◌, Bool, false, List, [], length, Option, None, is_none, slice_index_or}
use Rattle.atomic_table.specs.Seated.{TableId}
use Rattle.pool_server.specs.Seats.{is_taken}

-- the name of no gate
abbrev pub no_gate : TableId
no_gate = record { words = 0; slots = 0; views_name = 0; atom = 0; block = 0; offset = 0; slot_names = [] }

-- a seat is free exactly where its pass is there: the pass of seat n + 1 stands at place n
abbrev pub AreMatched : {X : Type 0} → List (Option X) → List Bool → Type 0
AreMatched passes taken = (n : ℕ) → n < length passes → is_taken taken (suc n) ≡ is_none (slice_index_or passes n None)

-- each pass is there
abbrev pub AreThere : {X : Type 0} → List (Option X) → Type 0
AreThere passes = (n : ℕ) → n < length passes → is_none (slice_index_or passes n None) ≡ false
