-- What a spelling is: a string, a number of one to ten digits, or a truth value.
use Rattle.std.specs.Prelude.{◌+◌, ◌-◌, ◌*◌, ◌||◌, ◌&&◌, ℕ, true, false, List, [], ◌∷◌, length, nat_lt, nat_le}
use Rattle.std.specs.Prelude.{Option, Some, None, option_map, if◌then◌else◌, codes}
use Rattle.std.specs.Char.{is_ascii_digit}
use Rattle.std.specs.Str.{bytes_eq, is_utf8}
use Rattle.pool_config.specs.Form.{Spelling, quoted, bare}
use Rattle.pool_config.specs.declared.value.Value.{Value}
use Rattle.pool_config.specs.declared.value.Value.TheVariants.{Text, Number, Truth}

-- the number that the digits go on to, after one that was read
abbrev pub number_after : ℕ → List ℕ → Option ℕ
number_after n [] = Some n
number_after n (digit ∷ rest) =
    if is_ascii_digit digit then number_after (n * 10 + (digit - 48)) rest else None

-- the number of one to ten decimal digits
abbrev pub number_of : List ℕ → Option ℕ
number_of word = if nat_lt 0 (length word) && nat_le (length word) 10 then number_after 0 word else None

abbrev pub word_value : List ℕ → Option Value
word_value word = if bytes_eq word (codes "on") || bytes_eq word (codes "true") then Some (Truth true)
    else (if bytes_eq word (codes "off") || bytes_eq word (codes "false") then Some (Truth false)
    else option_map Number (number_of word))

-- the value of a spelling; a string is UTF-8
abbrev pub value_of : Spelling → Option Value
value_of (quoted inner) = if is_utf8 inner then Some (Text inner) else None
value_of (bare word) = word_value word
