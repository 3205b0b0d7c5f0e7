-- What takes place in a play in which one session alone does anything.
use Rattle.std.specs.Prelude.{◌≡◌, ℕ, List, [], ◌∷◌}
use Rattle.recovery_seat.specs.Schedule.{Entry, Of, Recovers, Loses}

-- an event of that session or of its recovery; a backend may be lost
abbrev pub IsOfSession : ℕ → Entry → Type 0
IsOfSession s (Of o event) = o.number ≡ s
IsOfSession s (Recovers o event) = o.number ≡ s
IsOfSession s (Loses b) = Unit {0}

abbrev pub AreOfSession : ℕ → List Entry → Type 0
AreOfSession s [] = Unit {0}
AreOfSession s (entry ∷ entries) = IsOfSession s entry × AreOfSession s entries
