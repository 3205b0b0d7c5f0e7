-- Who a client says that it is, by the options of its start message.
use Rattle.std.specs.Prelude.{ℕ, List, [], ◌∷◌, Option, Some, None, bytes_eq, codes, if◌then◌else◌}
use Rattle.pg_messages.specs.declared.start.Pair.{Pair}

-- the value of the first option of that name
abbrev pub value_in : List ℕ → List Pair → Option (List ℕ)
value_in name [] = None
value_in name (first ∷ rest) = if bytes_eq first.name name then Some first.value else value_in name rest

abbrev pub or_else : Option (List ℕ) → Option (List ℕ) → Option (List ℕ)
or_else None other = other
or_else (Some value) other = Some value

-- the database that is named, or the one of the user's name
abbrev pub database_in : List Pair → Option (List ℕ)
database_in options = or_else (value_in (codes "database") options) (value_in (codes "user") options)
