-- Which tables a text is a schema of, and in which line it is none.
use Rattle.std.specs.Prelude.{◌≡◌, ◌==◌, ◌-◌, ◌+◌, ℕ, nat_lt, List, [], ◌∷◌, ◌++◌, length, take, drop, map, count_by, Result, Ok, Err, ◌⊎◌, if◌then◌else◌}
use Rattle.std.specs.Str.Lossy.{utf8_valid_len}
use Rattle.sql_tokens.specs.declared.token.Placed.{Placed}
use Rattle.sql_tokens.specs.declared.token.Token.{Token}
use Rattle.sql_tokens.specs.Tokens.{TokensOf}
use Rattle.schema.specs.declared.catalogue.TableDef.{TableDef}
use Rattle.schema.specs.declared.fault.Refusal.{Refusal}
use Rattle.schema.specs.declared.fault.Refusal.TheVariants as refusal
use Rattle.schema.specs.declared.fault.SchemaFault.{SchemaFault}
use Rattle.schema.specs.declared.fault.SchemaFault.TheVariants.{BadLine, NoMemory}
use Rattle.schema.specs.declared.fault.Stop.{Stop}
use Rattle.schema.specs.declared.fault.Stop.TheVariants as stop
use Rattle.schema.specs.declared.open.Place.{Place}
use Rattle.schema.specs.declared.open.Place.TheVariants.{Create}
use Rattle.schema.specs.Steps.{Runs}
use Rattle.schema.specs.Grammar.{IsSchema, IsCutOff}

-- ---- the text and its lines

-- a byte above 127 counts as a zero byte, which is of no token
abbrev pub plain_byte : ℕ → ℕ
plain_byte b = if nat_lt b 128 then b else 0

-- the longest front that is UTF-8, and behind it only bytes of ASCII
abbrev pub as_text : List ℕ → List ℕ
as_text bytes = take (utf8_valid_len bytes) bytes ++ map plain_byte (drop (utf8_valid_len bytes) bytes)

-- the line, from 1, of the byte at this place
abbrev pub line_of : List ℕ → ℕ → ℕ
line_of text place = 1 + count_by (λ b. b == 10) (take place text)

-- ---- what is read

abbrev pub tokens_of : List Placed → List Token
tokens_of placed = map (λ p. p.token) placed

-- the text is a schema of these tables
abbrev pub Says : List ℕ → List TableDef → Type 0
Says text tables = (tokens : List Placed) × TokensOf (as_text text) tokens × IsSchema (tokens_of tokens) tables

-- the tokens are a schema, or one that is cut off behind a "," between two columns
abbrev pub IsSchemaSoFar : List Token → Type 0
IsSchemaSoFar ts = ((tables : List TableDef) × IsSchema ts tables) ⊎ IsCutOff ts

-- with some tokens behind them they are a schema, or one so far
abbrev pub Begins : List Token → Type 0
Begins ts = (more : List Token) × IsSchemaSoFar (ts ++ more)

-- In this line stands a token behind those that begin a schema, with which they begin none; or the text
-- ends in it, and its tokens begin a schema and are none.
abbrev pub IsBadLine : List ℕ → List Placed → ℕ → Type 0
IsBadLine text tokens line =
    ((front rest : List Placed) × (placed : Placed) × (tokens ≡ front ++ placed ∷ rest) × (line ≡ line_of text placed.place)
    × Begins (tokens_of front) × (Begins (tokens_of front ++ placed.token ∷ []) → ⊥))
    ⊎ ((line ≡ line_of text (length text - 1)) × Begins (tokens_of tokens) × ((tables : List TableDef) → IsSchema (tokens_of tokens) tables → ⊥))

-- the text is no schema, and this is its first faulty line
abbrev pub IsFaulty : List ℕ → ℕ → Type 0
IsFaulty text line = (tokens : List Placed) × TokensOf (as_text text) tokens × IsBadLine (as_text text) tokens line

-- the answer is this catalogue, unless memory ran out
abbrev pub IsCatalogue : List TableDef → Result (List TableDef) SchemaFault → Type 0
IsCatalogue tables (Ok read) = read ≡ tables
IsCatalogue tables (Err (BadLine n)) = ⊥
IsCatalogue tables (Err NoMemory) = Unit {0}

-- ---- what calls inside the crate answer

-- where a reader begins
abbrev pub start : List TableDef × Place
start = ([], Create)

-- the tokens lead from the beginning to the end of a schema of these tables
abbrev pub IsRead : List Token → List TableDef → Type 0
IsRead ts tables = Runs start ts (tables, Create)

-- the answer to a token is this, unless memory ran out
abbrev pub IsStep : List TableDef × Place → Result (List TableDef × Place) Stop → Type 0
IsStep to (Ok read) = to ≡ read
IsStep to (Err stop.Refused) = ⊥
IsStep to (Err stop.NoMemory) = Unit {0}

-- the answer to the tokens is this, unless memory ran out
abbrev pub AreTables : List TableDef → Result (List TableDef) Refusal → Type 0
AreTables tables (Ok read) = read ≡ tables
AreTables tables (Err (refusal.At place)) = ⊥
AreTables tables (Err refusal.AtEnd) = ⊥
AreTables tables (Err refusal.NoMemory) = Unit {0}

-- the tokens lead somewhere
abbrev pub LeadsOn : List Token → Type 0
LeadsOn ts = (to : List TableDef × Place) × Runs start ts to

-- at this place stands a token that leads nowhere
abbrev pub StopsAt : List Placed → ℕ → Type 0
StopsAt tokens place = (front rest : List Placed) × (placed : Placed) × (tokens ≡ front ++ placed ∷ rest) × (place ≡ placed.place)
    × LeadsOn (tokens_of front) × (LeadsOn (tokens_of front ++ placed.token ∷ []) → ⊥)

-- where a refusal comes
abbrev pub IsRefusal : List Placed → Result (List TableDef) Refusal → Type 0
IsRefusal tokens (Err (refusal.At place)) = StopsAt tokens place
IsRefusal tokens (Err refusal.AtEnd) = LeadsOn (tokens_of tokens) × ((tables : List TableDef) → IsRead (tokens_of tokens) tables → ⊥)
IsRefusal tokens _ = Unit {0}
