-- SQLSTATE codes: which bytes may stand in one.
use Rattle.std.specs.Prelude.{ℕ, List, ◌≤◌, ◌⊎◌, All}

-- a digit or an upper-case letter of ASCII
abbrev pub IsCodeByte : ℕ → Type 0
IsCodeByte byte = ((48 ≤ byte) × (byte ≤ 57)) ⊎ ((65 ≤ byte) × (byte ≤ 90))

-- bytes that may all stand in a code
abbrev pub IsCode : List ℕ → Type 0
IsCode bytes = All IsCodeByte bytes
