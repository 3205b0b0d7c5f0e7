-- Reading from the left: a value and the bytes after it, or nothing.
use Rattle.std.specs.Prelude.{◌≡◌, ℕ, ◌+◌, ◌-◌, ◌*◌, ◌++◌, zero, suc, length, take, drop, bytes_eq, List, [], ◌∷◌, Bool, true, false, ◌&&◌, ◌||◌, ◌==◌, not, nat_le, nat_lt, if◌then◌else◌, Option, Some, None, Result, Ok, Err, ℤ, pos, neg_ℤ, codes}
use Rattle.std.specs.Str.{is_utf8}
use Rattle.pgproto.specs.Words.{is_digit, is_shown, hex_digit}
use Rattle.pgproto.specs.declared.line.ScriptValue.{ScriptValue}
use Rattle.pgproto.specs.declared.line.ScriptValue.TheVariants.{Null, Str, Hex}
use Rattle.pgproto.specs.declared.stop.Stop.{Stop}
use Rattle.pgproto.specs.declared.stop.Stop.TheVariants.{NotALine, NoMemory}

infixl 10 ◌>>=◌
abbrev pub ◌>>=◌ : {A B : Type 0} → Option A → (A → Option B) → Option B
(Some x) >>= f = f x
None >>= f = None

-- what a function returned, seen by view, is what reading gives, unless memory was refused
abbrev pub Fails : {Y : Type 0} → Stop → Option Y → Type 0
Fails NotALine read = read ≡ None
Fails NoMemory read = Unit {0}

abbrev pub Gives : {X Y : Type 0} → (X → Y) → Result X Stop → Option Y → Type 0
Gives view (Ok x) read = read ≡ Some (view x)
Gives view (Err stop) read = Fails stop read

-- the digits in front, behind a number
abbrev pub digits_at : ℕ → List ℕ → ℕ × List ℕ
digits_at n [] = (n, [])
digits_at n (b ∷ bytes) = if is_digit b then digits_at (n * 10 + (b - 48)) bytes else (n, b ∷ bytes)

-- a digit is in front
abbrev pub has_digit : List ℕ → Bool
has_digit [] = false
has_digit (b ∷ bytes) = is_digit b

-- a number up to a greatest one
unfoldable pub number_at : ℕ → List ℕ → Option (ℕ × List ℕ)
number_at most bytes =
    if has_digit bytes && nat_le (digits_at 0 bytes).0 most then Some (digits_at 0 bytes) else None

-- these bytes
abbrev pub word_at : List ℕ → List ℕ → Option (List ℕ)
word_at word bytes = if bytes_eq (take (length word) bytes) word then Some (drop (length word) bytes) else None

-- the byte that an escape stands for
abbrev pub escape_at : List ℕ → Option (Option ℕ × List ℕ)
escape_at [] = None
escape_at (c ∷ bytes) = if c == 34 || c == 92 then Some (Some c, bytes) else if c == 110 then Some (Some 10, bytes) else None

-- one byte of a string and the bytes after it; None at the quote that ends it
abbrev pub string_byte : List ℕ → Option (Option ℕ × List ℕ)
string_byte [] = None
string_byte (b ∷ bytes) =
    if b == 34 then Some (None, bytes)
    else if b == 92 then escape_at bytes
    else if is_shown b && not (b == 10) then Some (Some b, bytes)
    else None

-- two hexadecimal digits and the bytes after them; None at the quote that ends them
abbrev pub hex_byte : List ℕ → Option (Option ℕ × List ℕ)
hex_byte [] = None
hex_byte (h ∷ []) = if h == 34 then Some (None, []) else None
hex_byte (h ∷ l ∷ bytes) =
    if h == 34 then Some (None, l ∷ bytes)
    else if nat_lt (hex_digit h) 16 && nat_lt (hex_digit l) 16 then Some (Some (hex_digit h * 16 + hex_digit l), bytes)
    else None

abbrev pub with_front : List ℕ → Option (List ℕ × List ℕ) → Option (List ℕ × List ℕ)
with_front front read = read >>= λ y. Some (front ++ y.0, y.1)

abbrev pub behind : (List ℕ → Option (List ℕ × List ℕ)) → Option ℕ → List ℕ → Option (List ℕ × List ℕ)
behind more None bytes = Some ([], bytes)
behind more (Some b) bytes = with_front (b ∷ []) (more bytes)

-- byte after byte up to the quote; the number bounds the turns
unfoldable pub bytes_at : (List ℕ → Option (Option ℕ × List ℕ)) → ℕ → List ℕ → Option (List ℕ × List ℕ)
bytes_at step zero bytes = None
bytes_at step (suc n) bytes = step bytes >>= λ x. behind (bytes_at step n) x.0 x.1

-- the rest of a string behind its first quote, of valid UTF-8
unfoldable pub string_at : List ℕ → Option (List ℕ × List ℕ)
string_at bytes = word_at (34 ∷ []) bytes >>= λ inside. bytes_at string_byte (suc (length inside)) inside >>= λ x. if is_utf8 x.0 then Some x else None

unfoldable pub hex_at : List ℕ → Option (List ℕ × List ℕ)
hex_at bytes = word_at (34 ∷ []) bytes >>= λ inside. bytes_at hex_byte (suc (length inside)) inside

-- a number of a session, of a backend
unfoldable pub session_at : List ℕ → Option (ℕ × List ℕ)
session_at bytes = number_at 64 bytes >>= λ x. if x.0 == 0 then None else Some x

abbrev pub backend_at : List ℕ → Option (ℕ × List ℕ)
backend_at bytes = number_at 7 bytes

-- a minus in front
abbrev pub has_minus : List ℕ → Bool
has_minus [] = false
has_minus (b ∷ bytes) = b == 45

unfoldable pub limit_at : List ℕ → Option (ℤ × List ℕ)
limit_at bytes =
    if has_minus bytes then (word_at (codes "-") bytes >>= λ after. number_at 2147483648 after >>= λ x. Some (neg_ℤ (pos x.0), x.1))
    else (number_at 2147483647 bytes >>= λ x. Some (pos x.0, x.1))

-- the first byte; 0 where there is none
abbrev pub front : List ℕ → ℕ
front [] = 0
front (b ∷ bytes) = b

unfoldable pub value_at : List ℕ → Option (ScriptValue × List ℕ)
value_at bytes =
    if front bytes == 34 then (string_at bytes >>= λ x. Some (Str x.0, x.1))
    else if front bytes == 120 then (word_at (codes "x") bytes >>= λ after. hex_at after >>= λ x. Some (Hex x.0, x.1))
    else (word_at (codes "null") bytes >>= λ after. Some (Null, after))

-- behind a space
unfoldable pub spaced_at : {A : Type 0} → (List ℕ → Option (A × List ℕ)) → List ℕ → Option (A × List ℕ)
spaced_at item bytes = word_at (codes " ") bytes >>= item

abbrev pub with_items : {A : Type 0} → List A → Option (List A × List ℕ) → Option (List A × List ℕ)
with_items front read = read >>= λ y. Some (front ++ y.0, y.1)

-- so many, each behind a space
unfoldable pub items_at : {A : Type 0} → (List ℕ → Option (A × List ℕ)) → ℕ → List ℕ → Option (List A × List ℕ)
items_at item zero bytes = Some ([], bytes)
items_at item (suc n) bytes = spaced_at item bytes >>= λ x. with_items (x.0 ∷ []) (items_at item n x.1)

-- the greatest count of a list
abbrev pub most_items : ℕ
most_items = 32767

unfoldable pub counted_at : {A : Type 0} → (List ℕ → Option (A × List ℕ)) → List ℕ → Option (List A × List ℕ)
counted_at item bytes = spaced_at (number_at most_items) bytes >>= λ n. items_at item n.0 n.1
