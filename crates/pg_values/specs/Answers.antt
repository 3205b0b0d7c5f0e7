-- What a call that reads a value answers.
use Rattle.std.specs.Prelude.{◌≡◌, ℕ, ◌<◌, ◌⊎◌, List, length, Result, Ok, Err, codes, FitsSigned, IsUtf8}
use Rattle.std.specs.Int.{w64, to_be_bytes, cast_unsigned}
use Rattle.pg_values.specs.Range.{IsMoment, HasNoZero, IsInRange}
use Rattle.pg_values.specs.Text.{SpellsText, MisspellsText}
use Rattle.pg_values.specs.Binary.{SpellsBinary}
use Rattle.pg_values.specs.declared.col_type.ColType.{ColType}
use Rattle.pg_values.specs.declared.col_type.ColType.TheVariants as kind
use Rattle.pg_values.specs.declared.value.Value.{Value}
use Rattle.pg_values.specs.declared.value_fault.ValueFault.{ValueFault}
use Rattle.pg_values.specs.declared.value_fault.ValueFault.TheVariants.{Bad, NoMemory}

-- what holds of the value, of the code of a refusal, and where memory was refused
abbrev pub Tells : Result Value ValueFault → (Value → Type 0) → (List ℕ → Type 0) → Type 0 → Type 0
Tells (Ok value) P Q R = P value
Tells (Err (Bad code)) P Q R = Q code.bytes
Tells (Err NoMemory) P Q R = R

-- memory is refused only where this holds
abbrev pub IsRefusedFor : Result Value ValueFault → Type 0 → Type 0
IsRefusedFor (Ok value) P = Unit {0}
IsRefusedFor (Err (Bad code)) P = Unit {0}
IsRefusedFor (Err NoMemory) P = P

-- what holds of the code of a refusal
abbrev pub IfRefused : Result Value ValueFault → (List ℕ → Type 0) → Type 0
IfRefused (Ok value) P = Unit {0}
IfRefused (Err (Bad code)) P = P code.bytes
IfRefused (Err NoMemory) P = Unit {0}

-- the answer is this value, or memory was refused
abbrev pub IsValueOr : Result Value ValueFault → Value → Type 0
IsValueOr (Ok found) value = found ≡ value
IsValueOr (Err (Bad code)) value = ⊥
IsValueOr (Err NoMemory) value = Unit {0}

-- the answer is a refusal with this code, or memory was refused
abbrev pub IsCodeOr : Result Value ValueFault → List ℕ → Type 0
IsCodeOr (Ok found) code = ⊥
IsCodeOr (Err (Bad found)) code = found.bytes ≡ code
IsCodeOr (Err NoMemory) code = Unit {0}

-- UTF-8 without a zero byte
abbrev pub IsPlain : List ℕ → Type 0
IsPlain bytes = IsUtf8 bytes × HasNoZero bytes

-- the bytes are read as this value in text form
abbrev pub ReadsText : ColType → List ℕ → Value → Type 0
ReadsText kind bytes value = IsPlain bytes × SpellsText kind bytes value

-- the bytes are refused in text form with this code
abbrev pub RefusesText : ColType → List ℕ → List ℕ → Type 0
RefusesText kind bytes code =
    (¬ (IsPlain bytes) × (code ≡ codes "22021")) ⊎ (IsPlain bytes × MisspellsText kind bytes code)

-- the bytes are read as this value in binary form
abbrev pub ReadsBinary : ColType → List ℕ → Value → Type 0
ReadsBinary kind.Text bytes value = IsPlain bytes × SpellsBinary kind.Text bytes value
ReadsBinary kind bytes value = SpellsBinary kind bytes value × IsInRange value

-- 08P01: too few bytes; 22P03: too many
abbrev pub HasOtherLength : ℕ → List ℕ → List ℕ → Type 0
HasOtherLength width bytes code =
    ((length bytes < width) × (code ≡ codes "08P01")) ⊎ ((width < length bytes) × (code ≡ codes "22P03"))

-- the bytes are refused in binary form with this code
abbrev pub RefusesBinary : ColType → List ℕ → List ℕ → Type 0
RefusesBinary kind.Bool bytes code = HasOtherLength 1 bytes code
RefusesBinary kind.Int4 bytes code = HasOtherLength 4 bytes code
RefusesBinary kind.Int8 bytes code = HasOtherLength 8 bytes code
RefusesBinary kind.Text bytes code = ¬ (IsPlain bytes) × (code ≡ codes "22021")
RefusesBinary kind.Moment bytes code =
    HasOtherLength 8 bytes code
    ⊎ ((micros : _) × FitsSigned w64 micros × (bytes ≡ to_be_bytes w64 (cast_unsigned w64 micros)) × ¬ (IsMoment micros) × (code ≡ codes "22008"))
