-- The text forms of values: which texts are read as which value, and the one text that is printed.
use Rattle.std.specs.Prelude.{◌≡◌, ℕ, ◌<◌, ◌⊎◌, ◌++◌, Bool as Truth, true, false, if◌then◌else◌, List, [], length, map, Option, Some, None, ℤ, pos, neg_ℤ, codes, FitsSigned, IsUtf8}
use Rattle.std.specs.Char.{to_ascii_lowercase}
use Rattle.std.specs.Fmt.{signed_decimal}
use Rattle.std.specs.Int.{w32, w64}
use Rattle.std.specs.List.{AllByRecursion}
use Rattle.pg_values.specs.Digits.{are_digits, number_of}
use Rattle.pg_values.specs.Range.{IsMoment}
use Rattle.pg_values.specs.Moments.{IsMomentText, FieldsInRange, moment_of, IsPrintedMoment}
use Rattle.pg_values.specs.declared.written.Written.{Written}
use Rattle.pg_values.specs.declared.col_type.ColType.{ColType}
use Rattle.pg_values.specs.declared.col_type.ColType.TheVariants as kind
use Rattle.pg_values.specs.declared.value.Value.{Value}
use Rattle.pg_values.specs.declared.value.Value.TheVariants.{Null, Bool, Int4, Int8, Text, Moment}

-- spaces, the byte 32 alone
abbrev pub AreSpaces : List ℕ → Type 0
AreSpaces text = AllByRecursion (λ b. b ≡ 32) text

-- the words for true and for false, in lower case
abbrev pub IsTruthWord : Truth → List ℕ → Type 0
IsTruthWord true word =
    (word ≡ codes "t") ⊎ (word ≡ codes "true") ⊎ (word ≡ codes "yes") ⊎ (word ≡ codes "on") ⊎ (word ≡ codes "1")
IsTruthWord false word =
    (word ≡ codes "f") ⊎ (word ≡ codes "false") ⊎ (word ≡ codes "no") ⊎ (word ≡ codes "off") ⊎ (word ≡ codes "0")

-- a word for it in any case, with spaces round it
pub record IsBoolText (text : List ℕ) (truth : Truth) : Type 0 where
  pub before : List ℕ
  pub word : List ℕ
  pub after : List ℕ
  pub spaces_before : AreSpaces before
  pub is_word : IsTruthWord truth (map to_ascii_lowercase word)
  pub spaces_after : AreSpaces after
  pub parts : text ≡ before ++ (word ++ after)

-- no sign, or one
abbrev pub IsSign : List ℕ → Truth → Type 0
IsSign sign true = sign ≡ codes "-"
IsSign sign false = (sign ≡ []) ⊎ (sign ≡ codes "+")

-- digits with a sign or none, with spaces round them
pub record IsSignedDigits (text : List ℕ) (negative : Truth) (digits : List ℕ) : Type 0 where
  pub before : List ℕ
  pub sign : List ℕ
  pub after : List ℕ
  pub spaces_before : AreSpaces before
  pub is_sign : IsSign sign negative
  pub are_digits : are_digits digits ≡ true
  pub some : 0 < length digits
  pub spaces_after : AreSpaces after
  pub parts : text ≡ before ++ (sign ++ (digits ++ after))

abbrev pub signed : Truth → ℕ → ℤ
signed negative n = if negative then neg_ℤ (pos n) else pos n

-- the text is of the grammar of whole numbers, and this is the number
abbrev pub IsNumberText : List ℕ → ℤ → Type 0
IsNumberText text number =
    (negative : Truth) × (digits : List ℕ) × IsSignedDigits text negative digits × (number ≡ signed negative (number_of digits))

-- the text is read as this value of the type
abbrev pub SpellsText : ColType → List ℕ → Value → Type 0
SpellsText kind.Bool text value = (truth : Truth) × IsBoolText text truth × (value ≡ Bool truth)
SpellsText kind.Int4 text value = (number : ℤ) × IsNumberText text number × FitsSigned w32 number × (value ≡ Int4 number)
SpellsText kind.Int8 text value = (number : ℤ) × IsNumberText text number × FitsSigned w64 number × (value ≡ Int8 number)
SpellsText kind.Text text value = value ≡ Text text
SpellsText kind.Moment text value =
    (w : Written) × IsMomentText text w × FieldsInRange w × IsMoment (moment_of w) × (value ≡ Moment (moment_of w))

-- 22P02: no number; 22003: a number out of range
abbrev pub RefusesNumber : (ℤ → Type 0) → List ℕ → List ℕ → Type 0
RefusesNumber Fits text code =
    (((number : ℤ) → ¬ (IsNumberText text number)) × (code ≡ codes "22P02"))
    ⊎ ((number : ℤ) × IsNumberText text number × ¬ (Fits number) × (code ≡ codes "22003"))

-- the text is refused with this code
abbrev pub MisspellsText : ColType → List ℕ → List ℕ → Type 0
MisspellsText kind.Bool text code = ((truth : Truth) → ¬ (IsBoolText text truth)) × (code ≡ codes "22P02")
MisspellsText kind.Int4 text code = RefusesNumber (FitsSigned w32) text code
MisspellsText kind.Int8 text code = RefusesNumber (FitsSigned w64) text code
MisspellsText kind.Text text code = ⊥
MisspellsText kind.Moment text code =
    (((w : Written) → ¬ (IsMomentText text w)) × (code ≡ codes "22007"))
    ⊎ ((w : Written) × IsMomentText text w × ¬ (FieldsInRange w × IsMoment (moment_of w)) × (code ≡ codes "22008"))

-- the one text that is printed of a value
abbrev pub IsTextOf : Value → Option (List ℕ) → Type 0
IsTextOf Null text = text ≡ None
IsTextOf (Bool truth) text = text ≡ Some (if truth then codes "t" else codes "f")
IsTextOf (Int4 number) text = text ≡ Some (signed_decimal number)
IsTextOf (Int8 number) text = text ≡ Some (signed_decimal number)
IsTextOf (Text bytes) text = text ≡ Some bytes
IsTextOf (Moment micros) text = (printed : List ℕ) × (text ≡ Some printed) × IsPrintedMoment micros printed

-- a value of the type, as the code can hold it
abbrev pub IsOfType : ColType → Value → Type 0
IsOfType kind.Bool (Bool truth) = Unit {0}
IsOfType kind.Int4 (Int4 number) = FitsSigned w32 number
IsOfType kind.Int8 (Int8 number) = FitsSigned w64 number
IsOfType kind.Text (Text text) = IsUtf8 text
IsOfType kind.Moment (Moment micros) = FitsSigned w64 micros
IsOfType kind value = ⊥
