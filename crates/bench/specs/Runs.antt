-- Messages one behind another, and what is counted of them.
use Rattle.std.specs.Prelude.{◌≡◌, ◌*◌, ℕ, List, [], ◌∷◌, length, drop, sum}
use Rattle.pg_messages.specs.declared.client.ClientMessage.{ClientMessage}
use Rattle.pg_messages.specs.Client.{IsClientForm, Fits, spelling}
use Rattle.pg_messages.specs.Frame.{BeginsWith}
use Rattle.bench.specs.declared.messages.reading.Tally.{Tally}

-- a message of a client that takes n bytes stands at the front
abbrev pub StartsWith : ℕ → List ℕ → Type 0
StartsWith n bytes = (m : ClientMessage) × BeginsWith IsClientForm m n bytes

-- messages of these lengths stand at the front, one behind another, and none stands behind them
abbrev pub IsRun : List ℕ → List ℕ → Type 0
IsRun [] bytes = (n : ℕ) → ¬ StartsWith n bytes
IsRun (n ∷ lengths) bytes = StartsWith n bytes × IsRun lengths (drop n bytes)

-- so many times the messages of the run, and their bytes
abbrev pub Counts : ℕ → List ℕ → Tally → Type 0
Counts times bytes tally = (lengths : List ℕ) → IsRun lengths bytes
    → (tally.messages ≡ times * length lengths) × (tally.bytes ≡ times * sum lengths)

-- a message of 64 bytes, which can be written
abbrev pub IsSample : ClientMessage → Type 0
IsSample m = Fits m × (length (spelling m) ≡ 64)
