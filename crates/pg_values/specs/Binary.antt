-- The binary forms of values.
use Rattle.std.specs.Prelude.{◌≡◌, ℕ, ◌==◌, not, if◌then◌else◌, List, [], ◌∷◌, Option, Some, None, FitsSigned}
use Rattle.std.specs.Int.{w32, w64, to_be_bytes, cast_unsigned}
use Rattle.pg_values.specs.declared.col_type.ColType.{ColType}
use Rattle.pg_values.specs.declared.col_type.ColType.TheVariants as kind
use Rattle.pg_values.specs.declared.value.Value.{Value}
use Rattle.pg_values.specs.declared.value.Value.TheVariants.{Null, Bool, Int4, Int8, Text, Moment}

-- the binary form of a value: a number has its bytes in two's complement, the highest first
abbrev pub binary_form : Value → Option (List ℕ)
binary_form Null = None
binary_form (Bool truth) = Some ((if truth then 1 else 0) ∷ [])
binary_form (Int4 number) = Some (to_be_bytes w32 (cast_unsigned w32 number))
binary_form (Int8 number) = Some (to_be_bytes w64 (cast_unsigned w64 number))
binary_form (Text text) = Some text
binary_form (Moment micros) = Some (to_be_bytes w64 (cast_unsigned w64 micros))

-- how many bytes the values of a type have, where they all have as many
abbrev pub width_of : ColType → Option ℕ
width_of kind.Bool = Some 1
width_of kind.Int4 = Some 4
width_of kind.Int8 = Some 8
width_of kind.Text = None
width_of kind.Moment = Some 8

-- The bytes spell a value of the type, whether it is in its range or not. A byte other than 0 is true.
abbrev pub SpellsBinary : ColType → List ℕ → Value → Type 0
SpellsBinary kind.Bool bytes value = (byte : ℕ) × (bytes ≡ byte ∷ []) × (value ≡ Bool (not (byte == 0)))
SpellsBinary kind.Int4 bytes value =
    (number : _) × FitsSigned w32 number × (bytes ≡ to_be_bytes w32 (cast_unsigned w32 number)) × (value ≡ Int4 number)
SpellsBinary kind.Int8 bytes value =
    (number : _) × FitsSigned w64 number × (bytes ≡ to_be_bytes w64 (cast_unsigned w64 number)) × (value ≡ Int8 number)
SpellsBinary kind.Text bytes value = value ≡ Text bytes
SpellsBinary kind.Moment bytes value =
    (micros : _) × FitsSigned w64 micros × (bytes ≡ to_be_bytes w64 (cast_unsigned w64 micros)) × (value ≡ Moment micros)
