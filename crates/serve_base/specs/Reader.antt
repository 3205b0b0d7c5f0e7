-- Reading a status as functions on lists. The law of `write_status` says that each text is read as what it was written of.
use Rattle.std.specs.Prelude.{◌≡◌, ◌==◌, ◌+◌, ◌∷◌, ◌++◌, ℕ, Bool, true, false, not, List, [], Option, Some, None, Result, Ok, Err, codes, bytes_eq, drop, length, nat_le, nat_lt, take, if◌then◌else◌}
use Rattle.pool_config.specs.Bytes.{lines}
use Rattle.pool_config.specs.Value.{number_of}
use Rattle.serve_base.specs.Status.{first_line, last_line, line_start}
use Rattle.serve_base.specs.declared.status.Down.{Down}
use Rattle.serve_base.specs.declared.status.Standing.{Standing}
use Rattle.serve_base.specs.declared.status.StatusFault.{StatusFault}
use Rattle.serve_base.specs.declared.status.StatusFault.TheVariants.{BadLine, NoMemory}
use Rattle.serve_base.specs.declared.reader.State.{State}
use Rattle.serve_base.specs.declared.reader.State.TheVariants as state

infixl 10 ◌>>=◌
abbrev pub ◌>>=◌ : {A B : Type 0} → Option A → (A → Option B) → Option B
None >>= f = None
(Some x) >>= f = f x

-- what a call gave is what reading gives, unless memory ran out
abbrev pub FailsBy : StatusFault → Result (List Standing) StatusFault → Type 0
FailsBy NoMemory read = Unit {0}
FailsBy (BadLine n) read = read ≡ Err (BadLine n)

abbrev pub Gives : Result (List Standing) StatusFault → Result (List Standing) StatusFault → Type 0
Gives (Ok all) read = read ≡ Ok all
Gives (Err fault) read = FailsBy fault read

-- ---- bytes

-- what stands before the first such byte
abbrev pub front : ℕ → List ℕ → List ℕ
front b [] = []
front b (x ∷ xs) = if x == b then [] else x ∷ front b xs

-- what is there from it on
abbrev pub from_byte : ℕ → List ℕ → List ℕ
from_byte b [] = []
from_byte b (x ∷ xs) = if x == b then x ∷ xs else from_byte b xs

abbrev pub cut_at : List ℕ → List ℕ → Option (List ℕ × List ℕ)
cut_at before [] = None
cut_at before (b ∷ rest) = Some (before, rest)

-- what stands before the first such byte, and behind it
abbrev pub cut : ℕ → List ℕ → Option (List ℕ × List ℕ)
cut b bytes = cut_at (front b bytes) (from_byte b bytes)

-- what stands behind these first bytes
abbrev pub behind : List ℕ → List ℕ → Option (List ℕ)
behind first bytes = if bytes_eq (take (length first) bytes) first then Some (drop (length first) bytes) else None

-- ---- a port

-- one byte to five, and no zero (48) before others
abbrev pub is_short_numeral : List ℕ → Bool
is_short_numeral [] = false
is_short_numeral (d ∷ []) = true
is_short_numeral (d ∷ e ∷ rest) = if d == 48 then false else nat_le (length rest) 3

abbrev pub if_port : Option ℕ → Option ℕ
if_port None = None
if_port (Some n) = if nat_lt n 65536 then Some n else None

abbrev pub port_of : List ℕ → Option ℕ
port_of digits = if is_short_numeral digits then if_port (number_of digits) else None

-- ---- a line

abbrev pub host_in : List ℕ → List ℕ → Option (List ℕ × List ℕ)
host_in start line = behind start line >>= λ rest. cut 39 rest

abbrev pub port_in : List ℕ → Option (ℕ × List ℕ)
port_in bytes = behind (codes " ") bytes >>= λ rest. cut 32 rest >>= λ p. port_of p.0 >>= λ n. Some (n, p.1)

abbrev pub said_by : State → Option Down
said_by state.Up = None
said_by (state.Down since why) = Some (record { since = since.now; why = why.now })

abbrev pub down_in : List ℕ → Option (Option Down)
down_in bytes = behind (codes "down ") bytes >>= λ rest. cut 32 rest >>= λ p. Some (Some (record { since = p.0; why = p.1 }))

abbrev pub state_in : List ℕ → Option (Option Down)
state_in bytes = if bytes_eq bytes (codes "up") then Some None else down_in bytes

-- what the line of the backend with number n says
unfoldable pub line_in : ℕ → List ℕ → Option Standing
line_in n line = host_in (line_start n) line >>= λ h. port_in h.1 >>= λ p. state_in p.1 >>= λ down. Some (record { host = h.0; port = p.0; down = down })

-- ---- a text

-- the lines behind a line feed, where there is one
abbrev pub lines_behind : Option (List ℕ) → List (List ℕ)
lines_behind None = []
lines_behind (Some rest) = lines rest

-- the faulty line behind the last one, of n backends: none where nothing stands behind its line feed
abbrev pub fault_behind : ℕ → List (List ℕ) → Option ℕ
fault_behind n [] = Some (n + 2)
fault_behind n ([] ∷ []) = None
fault_behind n ([] ∷ (row ∷ rows)) = Some (n + 3)
fault_behind n ((b ∷ row) ∷ rows) = Some (n + 3)

abbrev pub closed : Option ℕ → Result (List Standing) StatusFault
closed None = Ok []
closed (Some bad) = Err (BadLine bad)

abbrev pub joined : ℕ → Option Standing → Result (List Standing) StatusFault → Result (List Standing) StatusFault
joined n None more = Err (BadLine (n + 2))
joined n (Some s) (Ok rest) = Ok (s ∷ rest)
joined n (Some s) (Err fault) = Err fault

-- the lines behind the first say the backends from number n on
abbrev pub rows_in : ℕ → List (List ℕ) → Result (List Standing) StatusFault
rows_in n [] = Err (BadLine (n + 2))
rows_in n (row ∷ rows) = if bytes_eq row (last_line n) then closed (fault_behind n rows) else joined n (line_in n row) (rows_in (n + 1) rows)

abbrev pub begun : List (List ℕ) → Result (List Standing) StatusFault
begun [] = Err (BadLine 1)
begun (row ∷ rows) = if bytes_eq row first_line then rows_in 0 rows else Err (BadLine 1)

-- what a text says, or its first faulty line
unfoldable pub status_in : List ℕ → Result (List Standing) StatusFault
status_in text = begun (lines text)

-- more of them behind those that were read
abbrev pub onto_read : List Standing → Result (List Standing) StatusFault → Result (List Standing) StatusFault
onto_read said (Ok more) = Ok (said ++ more)
onto_read said (Err fault) = Err fault
