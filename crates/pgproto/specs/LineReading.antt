-- Reading a whole line from the left.
use Rattle.std.specs.Prelude.{◌≡◌, ℕ, ◌+◌, ◌++◌, List, [], ◌∷◌, Bool, true, false, ◌==◌, if◌then◌else◌, Option, Some, None, codes}
use Rattle.pgproto.specs.Line.{Line, Place, session, lose, cut, moment, hold, go, until, raw, query, parse, describe, bind, execute, close, flush, sync, terminate, order, snapshot, commit, post, answer, reply}
use Rattle.pgproto.specs.Reading.{◌>>=◌, backend_at, counted_at, front, hex_at, limit_at, number_at, session_at, spaced_at, string_at, value_at, word_at}

-- the end of a line
abbrev pub ended : {A : Type 0} → A → List ℕ → Option A
ended x [] = Some x
ended x (b ∷ bytes) = None

-- the bytes are this word, and nothing else
abbrev pub only_word : {A : Type 0} → List ℕ → A → List ℕ → Option A
only_word word x bytes = word_at word bytes >>= λ rest. ended x rest

unfoldable pub session_line_at : List ℕ → Option Line
session_line_at bytes = word_at (codes "session ") bytes >>= λ a. session_at a >>= λ s. ended (session s.0) s.1

unfoldable pub lose_line_at : List ℕ → Option Line
lose_line_at bytes = word_at (codes "lose ") bytes >>= λ a. backend_at a >>= λ b. ended (lose b.0) b.1

unfoldable pub cut_line_at : List ℕ → Option Line
cut_line_at bytes = word_at (codes "cut ") bytes >>= λ a. number_at 65536 a >>= λ n. if n.0 == 0 then None else ended (cut n.0) n.1

unfoldable pub moment_line_at : List ℕ → Option Line
moment_line_at bytes = word_at (codes "moment ") bytes >>= λ a. string_at a >>= λ t. ended (moment t.0) t.1

unfoldable pub post_at : List ℕ → Option Place
post_at bytes = word_at (codes "post ") bytes >>= λ a. backend_at a >>= λ b. ended (post b.0) b.1

unfoldable pub answer_at : List ℕ → Option Place
answer_at bytes = word_at (codes "answer ") bytes >>= λ a. backend_at a >>= λ b. ended (answer b.0) b.1

unfoldable pub place_at : List ℕ → Option Place
place_at bytes =
    if front bytes == 111 then only_word (codes "order") order bytes
    else if front bytes == 115 then only_word (codes "snapshot") snapshot bytes
    else if front bytes == 99 then only_word (codes "commit") commit bytes
    else if front bytes == 112 then post_at bytes
    else if front bytes == 97 then answer_at bytes
    else only_word (codes "reply") reply bytes

unfoldable pub until_at : ℕ → List ℕ → Option Line
until_at s bytes = word_at (codes "until ") bytes >>= λ a. place_at a >>= λ place. Some (until s place)

unfoldable pub raw_at : ℕ → List ℕ → Option Line
raw_at s bytes = word_at (codes "raw ") bytes >>= λ a. hex_at a >>= λ x. ended (raw s x.0) x.1

-- a letter in single quotes
abbrev pub letter_at : List ℕ → Option (ℕ × List ℕ)
letter_at [] = None
letter_at (a ∷ []) = None
letter_at (a ∷ b ∷ []) = None
letter_at (a ∷ letter ∷ c ∷ bytes) = if a == 39 then (if c == 39 then Some (letter, bytes) else None) else None

unfoldable pub query_at : ℕ → List ℕ → Option Line
query_at s bytes = spaced_at string_at bytes >>= λ t. ended (query s t.0) t.1

unfoldable pub parse_at : ℕ → List ℕ → Option Line
parse_at s bytes =
    spaced_at string_at bytes >>= λ name. spaced_at string_at name.1 >>= λ text.
    counted_at (number_at 4294967295) text.1 >>= λ kinds. ended (parse s name.0 text.0 kinds.0) kinds.1

-- whether it is a portal; else it is a statement
unfoldable pub target_at : List ℕ → Option (Bool × List ℕ)
target_at bytes = letter_at bytes >>= λ x. if x.0 == 80 then Some (true, x.1) else if x.0 == 83 then Some (false, x.1) else None

unfoldable pub describe_at : ℕ → List ℕ → Option Line
describe_at s bytes = spaced_at target_at bytes >>= λ target. spaced_at string_at target.1 >>= λ name. ended (describe s target.0 name.0) name.1

unfoldable pub close_at : ℕ → List ℕ → Option Line
close_at s bytes = spaced_at target_at bytes >>= λ target. spaced_at string_at target.1 >>= λ name. ended (close s target.0 name.0) name.1

unfoldable pub bind_at : ℕ → List ℕ → Option Line
bind_at s bytes =
    spaced_at string_at bytes >>= λ portal. spaced_at string_at portal.1 >>= λ name.
    counted_at (number_at 65535) name.1 >>= λ formats. counted_at value_at formats.1 >>= λ values.
    counted_at (number_at 65535) values.1 >>= λ results. ended (bind s portal.0 name.0 formats.0 values.0 results.0) results.1

unfoldable pub execute_at : ℕ → List ℕ → Option Line
execute_at s bytes = spaced_at string_at bytes >>= λ portal. spaced_at limit_at portal.1 >>= λ limit. ended (execute s portal.0 limit.0) limit.1

-- behind the letter of a message
unfoldable pub message_of_letter : ℕ → ℕ → List ℕ → Option Line
message_of_letter s letter bytes =
    if letter == 81 then query_at s bytes
    else if letter == 80 then parse_at s bytes
    else if letter == 66 then bind_at s bytes
    else if letter == 68 then describe_at s bytes
    else if letter == 69 then execute_at s bytes
    else if letter == 67 then close_at s bytes
    else if letter == 72 then ended (flush s) bytes
    else if letter == 83 then ended (sync s) bytes
    else if letter == 88 then ended (terminate s) bytes
    else None

unfoldable pub message_at : ℕ → List ℕ → Option Line
message_at s bytes = letter_at bytes >>= λ x. message_of_letter s x.0 x.1

-- behind a session's number and a space
unfoldable pub order_at : ℕ → List ℕ → Option Line
order_at s bytes =
    if front bytes == 39 then message_at s bytes
    else if front bytes == 104 then only_word (codes "hold") (hold s) bytes
    else if front bytes == 103 then only_word (codes "go") (go s) bytes
    else if front bytes == 117 then until_at s bytes
    else raw_at s bytes

unfoldable pub numbered_at : List ℕ → Option Line
numbered_at bytes = session_at bytes >>= λ s. word_at (codes " ") s.1 >>= λ a. order_at s.0 a

unfoldable pub line_at : List ℕ → Option Line
line_at bytes =
    if front bytes == 115 then session_line_at bytes
    else if front bytes == 108 then lose_line_at bytes
    else if front bytes == 99 then cut_line_at bytes
    else if front bytes == 109 then moment_line_at bytes
    else numbered_at bytes
