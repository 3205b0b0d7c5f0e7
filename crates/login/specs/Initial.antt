-- The body of a client's first message.
use Rattle.std.specs.Prelude.{ℕ, List, [], ◌∷◌, ◌++◌, length, codes}
use Rattle.std.specs.Int.{w32, to_be_bytes}

-- the name of the way, a zero byte, the length in four bytes, and the message
abbrev pub initial_body : List ℕ → List ℕ
initial_body message = codes "SCRAM-SHA-256" ++ 0 ∷ [] ++ to_be_bytes w32 (length message) ++ message
