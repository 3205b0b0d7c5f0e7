-- Reading fields from left to right: a value and the bytes after it, or None where the bytes are not of the grammar.
use Rattle.std.specs.Prelude.{◌≡◌, ℕ, zero, suc, ℤ, ◌+◌, List, [], ◌∷◌, length, take, drop, Option, Some, None, Result, Ok, Err, Bool, true, false, nat_lt, ◌==◌, if◌then◌else◌}
use Rattle.std.specs.List.{position}
use Rattle.std.specs.Int.{Width, w16, w32, byte_len, from_be_bytes, cast_signed}
use Rattle.pg_messages.specs.declared.server.Field.{Field}
use Rattle.pg_messages.specs.declared.server.Part.{Part}
use Rattle.pg_messages.specs.declared.start.Pair.{Pair}
use Rattle.pg_messages.specs.declared.field_fault.FieldFault.{FieldFault}
use Rattle.pg_messages.specs.declared.field_fault.FieldFault.TheVariants as faults

infixl 10 ◌>>=◌
abbrev pub ◌>>=◌ : {A B : Type 0} → Option A → (A → Option B) → Option B
(Some x) >>= f = f x
None >>= f = None

-- What a function returned, seen by view, is what reading gives, unless memory ran out.
abbrev pub Fails : {Y : Type 0} → FieldFault → Option Y → Type 0
Fails faults.NoMemory read = Unit {0}
Fails faults.Malformed read = read ≡ None

abbrev pub Gives : {X Y : Type 0} → (X → Y) → Result X FieldFault → Option Y → Type 0
Gives view (Ok x) read = read ≡ Some (view x)
Gives view (Err fault) read = Fails fault read

abbrev pub number_at : Width → List ℕ → Option (ℕ × List ℕ)
number_at w bytes = if nat_lt (length bytes) (byte_len w) then None else Some (from_be_bytes w (take (byte_len w) bytes), drop (byte_len w) bytes)

abbrev pub signed_at : Width → List ℕ → Option (ℤ × List ℕ)
signed_at w bytes = do
  n ← number_at w bytes
  Some (cast_signed w n.0, n.1)

unfoldable pub string_at : List ℕ → Option (List ℕ × List ℕ)
string_at bytes = do
  end ← position (λ b. b == 0) bytes
  Some (take end bytes, drop (end + 1) bytes)

unfoldable pub value_at : List ℕ → Option (Option (List ℕ) × List ℕ)
value_at bytes = do
  n ← number_at w32 bytes
  if n.0 == 4294967295 then Some (None, n.1) else if nat_lt (length n.1) n.0 then None else Some (Some (take n.0 n.1), drop n.0 n.1)

unfoldable pub field_at : List ℕ → Option (Field × List ℕ)
field_at bytes = do
  name ← string_at bytes
  table ← number_at w32 name.1
  column ← signed_at w16 table.1
  kind ← number_at w32 column.1
  size ← signed_at w16 kind.1
  modifier ← signed_at w32 size.1
  format ← number_at w16 modifier.1
  Some (record { name = name.0; table = table.0; column = column.0; kind = kind.0; size = size.0; modifier = modifier.0; format = format.0 }, format.1)

unfoldable pub part_at : List ℕ → Option (Part × List ℕ)
part_at [] = None
part_at (tag ∷ bytes) = do
  text ← string_at bytes
  Some (record { tag = tag; text = text.0 }, text.1)

unfoldable pub pair_at : List ℕ → Option (Pair × List ℕ)
pair_at bytes = do
  name ← string_at bytes
  setting ← string_at name.1
  Some (record { name = name.0; value = setting.0 }, setting.1)

unfoldable pub target_at : List ℕ → Option (Bool × List ℕ)
target_at [] = None
target_at (letter ∷ bytes) = if letter == 80 then Some (true, bytes) else if letter == 83 then Some (false, bytes) else None

-- so many entries
unfoldable pub entries_at : {A : Type 0} → (List ℕ → Option (A × List ℕ)) → ℕ → List ℕ → Option (List A × List ℕ)
entries_at entry zero bytes = Some ([], bytes)
entries_at entry (suc n) bytes = do
  first ← entry bytes
  others ← entries_at entry n first.1
  Some (first.0 ∷ others.0, others.1)

unfoldable pub counted_at : {A : Type 0} → (List ℕ → Option (A × List ℕ)) → List ℕ → Option (List A × List ℕ)
counted_at entry bytes = do
  n ← number_at w16 bytes
  if nat_lt n.0 32768 then entries_at entry n.0 n.1 else None

-- entries up to a zero byte, fewer than n of them
unfoldable pub entries_below : {A : Type 0} → (List ℕ → Option (A × List ℕ)) → ℕ → List ℕ → Option (List A × List ℕ)
entries_below entry zero bytes = None
entries_below entry (suc n) [] = None
entries_below entry (suc n) (zero ∷ bytes) = Some ([], bytes)
entries_below entry (suc n) (suc b ∷ bytes) = do
  first ← entry (suc b ∷ bytes)
  others ← entries_below entry n first.1
  Some (first.0 ∷ others.0, others.1)

-- each entry takes a byte or more
abbrev pub zero_ended_at : {A : Type 0} → (List ℕ → Option (A × List ℕ)) → List ℕ → Option (List A × List ℕ)
zero_ended_at entry bytes = entries_below entry (length bytes) bytes

-- nothing stands behind the last field
abbrev pub whole : {A : Type 0} → A × List ℕ → Option A
whole (x, []) = Some x
whole (x, b ∷ bytes) = None
