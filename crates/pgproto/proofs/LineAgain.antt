-- Whole lines: what is of the grammar is read.
use Rattle.std.proofs.Common.{◌≡◌, ◌≢◌, ℕ, zero, suc, ◌+◌, ◌-◌, ◌*◌, ◌<◌, ◌≤◌, ◌⊎◌, inl, inr, List, [], ◌∷◌, ◌++◌, length, Option, Some, None, Bool, true, false, ◌==◌, if◌then◌else◌, refl, sym, ap, ap₂, subst, ◌∙◌, arith}
use Rattle.std.specs.Prelude.{ℤ, codes}
use Rattle.pgproto.specs.Words.{is_digit}
use Rattle.pgproto.specs.declared.line.ScriptValue.{ScriptValue}
use Rattle.pgproto.specs.Line.{Line, Place, BackendOf, CountedOf, HexOf, IsLine, IsSmall, LimitOf, NumberOf, Numbered, SessionOf, Spaced, StringOf, TargetOf, ValueOf, Word, session, lose, cut, moment, hold, go, until, raw, query, parse, describe, bind, execute, close, flush, sync, terminate}
use Rattle.pgproto.specs.Reading.{◌>>=◌, backend_at, counted_at, front, has_digit, hex_at, limit_at, number_at, session_at, spaced_at, string_at, value_at, word_at}
use Rattle.pgproto.specs.LineReading.{bind_at, close_at, cut_line_at, describe_at, ended, execute_at, letter_at, line_at, lose_line_at, message_at, message_of_letter, moment_line_at, numbered_at, only_word, order_at, parse_at, place_at, query_at, raw_at, session_line_at, target_at, until_at}
use Rattle.pgproto.proofs.WordLaws.{number_again, word_again}
use Rattle.pgproto.proofs.TextLaws.{hex_again, string_again}
use Rattle.pgproto.proofs.PartLaws.{Any, Good, Stops, good_backend, good_counted, good_number, good_session, good_spaced, good_string, let_pass, not_at, space_stops}
use Rattle.pgproto.proofs.FieldLaws.{digit_not, good_limit, good_target, good_value, number_front, only_again, place_again}

good_text : Good (Spaced StringOf) (spaced_at string_at) Any
good_text = good_spaced good_string

abbrev line_by : ℕ → List ℕ → Option Line
line_by c bytes =
    if c == 115 then session_line_at bytes
    else if c == 108 then lose_line_at bytes
    else if c == 99 then cut_line_at bytes
    else if c == 109 then moment_line_at bytes
    else numbered_at bytes

digit_line : (c : ℕ) (bytes : List ℕ) → is_digit c ≡ true → line_by c bytes ≡ numbered_at bytes
digit_line c bytes e =
    ap (λ (t : Bool). if t then session_line_at bytes else if c == 108 then lose_line_at bytes else if c == 99 then cut_line_at bytes else if c == 109 then moment_line_at bytes else numbered_at bytes) (digit_not c 115 e (inl (omega arith)))
    ∙ ap (λ (t : Bool). if t then lose_line_at bytes else if c == 99 then cut_line_at bytes else if c == 109 then moment_line_at bytes else numbered_at bytes) (digit_not c 108 e (inl (omega arith)))
    ∙ ap (λ (t : Bool). if t then cut_line_at bytes else if c == 109 then moment_line_at bytes else numbered_at bytes) (digit_not c 99 e (inl (omega arith)))
    ∙ ap (λ (t : Bool). if t then moment_line_at bytes else numbered_at bytes) (digit_not c 109 e (inl (omega arith)))

-- what stands behind the number of a session and a space is read as an order
to_order : (s : ℕ) (word bytes rest : List ℕ) → Numbered s (32 ∷ word) bytes rest → line_at bytes ≡ order_at s (word ++ rest)
unfolding line_at numbered_at
to_order s word bytes rest (a, number, is) =
    digit_line (front bytes) bytes (number_front s bytes a number.2)
    ∙ ap (λ (w : Option (ℕ × List ℕ)). w >>= λ s. word_at (codes " ") s.1 >>= λ a. order_at s.0 a) (good_session.again s bytes a number tt (space_stops a (word ++ rest) is))
    ∙ ap (λ (w : Option (List ℕ)). w >>= λ a. order_at s a) (word_again (codes " ") a (word ++ rest) is)

session_again : (s : ℕ) (bytes a : List ℕ) → Word (codes "session ") bytes a → SessionOf s a [] → line_at bytes ≡ Some (session s)
unfolding line_at session_line_at
session_again s bytes a word form =
    ap (λ (c : ℕ). line_by c bytes) (ap front word)
    ∙ ap (λ (w : Option (List ℕ)). w >>= λ a. session_at a >>= λ s. ended (session s.0) s.1) (word_again (codes "session ") bytes a word)
    ∙ ap (λ (w : Option (ℕ × List ℕ)). w >>= λ s. ended (session s.0) s.1) (good_session.again s a [] form tt refl)

lose_again : (b : ℕ) (bytes a : List ℕ) → Word (codes "lose ") bytes a → BackendOf b a [] → line_at bytes ≡ Some (lose b)
unfolding line_at lose_line_at
lose_again b bytes a word form =
    ap (λ (c : ℕ). line_by c bytes) (ap front word)
    ∙ ap (λ (w : Option (List ℕ)). w >>= λ a. backend_at a >>= λ b. ended (lose b.0) b.1) (word_again (codes "lose ") bytes a word)
    ∙ ap (λ (w : Option (ℕ × List ℕ)). w >>= λ b. ended (lose b.0) b.1) (good_backend.again b a [] form tt refl)

cut_again : (n : ℕ) (bytes a : List ℕ) → Word (codes "cut ") bytes a → 1 ≤ n → n ≤ 65536 → NumberOf n a [] → line_at bytes ≡ Some (cut n)
unfolding line_at cut_line_at
cut_again n bytes a word low high form =
    ap (λ (c : ℕ). line_by c bytes) (ap front word)
    ∙ ap (λ (w : Option (List ℕ)). w >>= λ a. number_at 65536 a >>= λ n. if n.0 == 0 then None else ended (cut n.0) n.1) (word_again (codes "cut ") bytes a word)
    ∙ ap (λ (w : Option (ℕ × List ℕ)). w >>= λ n. if n.0 == 0 then None else ended (cut n.0) n.1) (number_again 65536 n a [] form high refl)
    ∙ let_pass (n == 0) (cut n) (not_at n 0 (λ e. omega arith))

moment_again : (text bytes a : List ℕ) → Word (codes "moment ") bytes a → StringOf text a [] → line_at bytes ≡ Some (moment text)
unfolding line_at moment_line_at
moment_again text bytes a word form =
    ap (λ (c : ℕ). line_by c bytes) (ap front word)
    ∙ ap (λ (w : Option (List ℕ)). w >>= λ a. string_at a >>= λ t. ended (moment t.0) t.1) (word_again (codes "moment ") bytes a word)
    ∙ ap (λ (w : Option (List ℕ × List ℕ)). w >>= λ t. ended (moment t.0) t.1) (string_again text a [] form)

hold_again : (s : ℕ) → order_at s (codes "hold" ++ []) ≡ Some (hold s)
unfolding order_at
hold_again s = only_again (codes "hold") (codes "hold" ++ []) (hold s) refl

go_again : (s : ℕ) → order_at s (codes "go" ++ []) ≡ Some (go s)
unfolding order_at
go_again s = only_again (codes "go") (codes "go" ++ []) (go s) refl

until_again : (s : ℕ) (place : Place) (a : List ℕ) → place_at a ≡ Some place → order_at s (codes "until " ++ a) ≡ Some (until s place)
unfolding order_at until_at
until_again s place a e =
    ap (λ (w : Option (List ℕ)). w >>= λ a. place_at a >>= λ place. Some (until s place)) (word_again (codes "until ") (codes "until " ++ a) a refl)
    ∙ ap (λ (w : Option Place). w >>= λ place. Some (until s place)) e

raw_again : (s : ℕ) (found a : List ℕ) → HexOf found a [] → order_at s (codes "raw " ++ a) ≡ Some (raw s found)
unfolding order_at raw_at
raw_again s found a form =
    ap (λ (w : Option (List ℕ)). w >>= λ a. hex_at a >>= λ x. ended (raw s x.0) x.1) (word_again (codes "raw ") (codes "raw " ++ a) a refl)
    ∙ ap (λ (w : Option (List ℕ × List ℕ)). w >>= λ x. ended (raw s x.0) x.1) (hex_again found a [] form)

-- behind a letter in quotes
by_letter : (s k : ℕ) (rest : List ℕ) → order_at s (39 ∷ k ∷ 39 ∷ rest) ≡ message_of_letter s k rest
unfolding order_at message_at
by_letter s k rest = refl

query_again : (s : ℕ) (text a : List ℕ) → Spaced StringOf text a [] → message_of_letter s 81 a ≡ Some (query s text)
unfolding message_of_letter query_at
query_again s text a form = ap (λ (w : Option (List ℕ × List ℕ)). w >>= λ t. ended (query s t.0) t.1) (good_text.again text a [] form tt refl)

counted_stops : {A : Type 0} (form : A → List ℕ → List ℕ → Type 0) (xs : List A) (bytes rest : List ℕ) → CountedOf form xs bytes rest → Stops bytes
counted_stops form xs bytes rest c = space_stops bytes (c.1).0 (c.1).1

parse_again : (s : ℕ) (name text kinds a b c : List ℕ) → Spaced StringOf name a b → Spaced StringOf text b c → CountedOf NumberOf kinds c [] → IsSmall (parse s name text kinds) → message_of_letter s 80 a ≡ Some (parse s name text kinds)
unfolding message_of_letter parse_at
parse_again s name text kinds a b c f g h small =
    ap (λ (w : Option (List ℕ × List ℕ)). w >>= λ name. spaced_at string_at name.1 >>= λ text. counted_at (number_at 4294967295) text.1 >>= λ kinds. ended (parse s name.0 text.0 kinds.0) kinds.1) (good_text.again name a b f tt (space_stops b g.0 g.1))
    ∙ ap (λ (w : Option (List ℕ × List ℕ)). w >>= λ text. counted_at (number_at 4294967295) text.1 >>= λ kinds. ended (parse s name text.0 kinds.0) kinds.1) (good_text.again text b c g tt (counted_stops NumberOf kinds c [] h))
    ∙ ap (λ (w : Option (List ℕ × List ℕ)). w >>= λ kinds. ended (parse s name text kinds.0) kinds.1) ((good_counted (good_number 4294967295)).again kinds c [] h small refl)

describe_again : (s : ℕ) (portal : Bool) (name a b : List ℕ) → TargetOf portal a b → Spaced StringOf name b [] → message_of_letter s 68 (32 ∷ a) ≡ Some (describe s portal name)
unfolding message_of_letter describe_at
describe_again s portal name a b f g =
    ap (λ (w : Option (Bool × List ℕ)). w >>= λ target. spaced_at string_at target.1 >>= λ name. ended (describe s target.0 name.0) name.1) ((good_spaced good_target).again portal (32 ∷ a) b (a, refl, f) tt (space_stops b g.0 g.1))
    ∙ ap (λ (w : Option (List ℕ × List ℕ)). w >>= λ name. ended (describe s portal name.0) name.1) (good_text.again name b [] g tt refl)

close_again : (s : ℕ) (portal : Bool) (name a b : List ℕ) → TargetOf portal a b → Spaced StringOf name b [] → message_of_letter s 67 (32 ∷ a) ≡ Some (close s portal name)
unfolding message_of_letter close_at
close_again s portal name a b f g =
    ap (λ (w : Option (Bool × List ℕ)). w >>= λ target. spaced_at string_at target.1 >>= λ name. ended (close s target.0 name.0) name.1) ((good_spaced good_target).again portal (32 ∷ a) b (a, refl, f) tt (space_stops b g.0 g.1))
    ∙ ap (λ (w : Option (List ℕ × List ℕ)). w >>= λ name. ended (close s portal name.0) name.1) (good_text.again name b [] g tt refl)

execute_again : (s : ℕ) (portal : List ℕ) (limit : ℤ) (a b : List ℕ) → Spaced StringOf portal a b → Spaced LimitOf limit b [] → message_of_letter s 69 a ≡ Some (execute s portal limit)
unfolding message_of_letter execute_at
execute_again s portal limit a b f g =
    ap (λ (w : Option (List ℕ × List ℕ)). w >>= λ portal. spaced_at limit_at portal.1 >>= λ limit. ended (execute s portal.0 limit.0) limit.1) (good_text.again portal a b f tt (space_stops b g.0 g.1))
    ∙ ap (λ (w : Option (ℤ × List ℕ)). w >>= λ limit. ended (execute s portal limit.0) limit.1) ((good_spaced good_limit).again limit b [] g tt refl)

any_all : {A : Type 0} (xs : List A) → Rattle.std.specs.List.AllByRecursion Any xs
any_all [] = tt
any_all (x ∷ xs) = (tt, any_all xs)

bind_again : (s : ℕ) (portal name formats : List ℕ) (values : List ScriptValue) (results a b c d e : List ℕ) → Spaced StringOf portal a b → Spaced StringOf name b c → CountedOf NumberOf formats c d → CountedOf ValueOf values d e → CountedOf NumberOf results e [] → IsSmall (bind s portal name formats values results) → message_of_letter s 66 a ≡ Some (bind s portal name formats values results)
unfolding message_of_letter bind_at
bind_again s portal name formats values results a b c d e f g h v r small =
    ap (λ (w : Option (List ℕ × List ℕ)). w >>= λ portal. spaced_at string_at portal.1 >>= λ name. counted_at (number_at 65535) name.1 >>= λ formats. counted_at value_at formats.1 >>= λ values. counted_at (number_at 65535) values.1 >>= λ results. ended (bind s portal.0 name.0 formats.0 values.0 results.0) results.1) (good_text.again portal a b f tt (space_stops b g.0 g.1))
    ∙ ap (λ (w : Option (List ℕ × List ℕ)). w >>= λ name. counted_at (number_at 65535) name.1 >>= λ formats. counted_at value_at formats.1 >>= λ values. counted_at (number_at 65535) values.1 >>= λ results. ended (bind s portal name.0 formats.0 values.0 results.0) results.1) (good_text.again name b c g tt (counted_stops NumberOf formats c d h))
    ∙ ap (λ (w : Option (List ℕ × List ℕ)). w >>= λ formats. counted_at value_at formats.1 >>= λ values. counted_at (number_at 65535) values.1 >>= λ results. ended (bind s portal name formats.0 values.0 results.0) results.1) ((good_counted (good_number 65535)).again formats c d h small.0 (counted_stops ValueOf values d e v))
    ∙ ap (λ (w : Option (List ScriptValue × List ℕ)). w >>= λ values. counted_at (number_at 65535) values.1 >>= λ results. ended (bind s portal name formats values.0 results.0) results.1) ((good_counted good_value).again values d e v (small.1, any_all values) (counted_stops NumberOf results e [] r))
    ∙ ap (λ (w : Option (List ℕ × List ℕ)). w >>= λ results. ended (bind s portal name formats values results.0) results.1) ((good_counted (good_number 65535)).again results e [] r small.2 refl)

flush_again : (s : ℕ) → message_of_letter s 72 [] ≡ Some (flush s)
unfolding message_of_letter
flush_again s = refl

sync_again : (s : ℕ) → message_of_letter s 83 [] ≡ Some (sync s)
unfolding message_of_letter
sync_again s = refl

terminate_again : (s : ℕ) → message_of_letter s 88 [] ≡ Some (terminate s)
unfolding message_of_letter
terminate_again s = refl

pub line_again : (l : Line) (bytes : List ℕ) → IsLine l bytes → IsSmall l → line_at bytes ≡ Some l
line_again (session s) bytes (a, word, form) small = session_again s bytes a word form
line_again (lose b) bytes (a, word, form) small = lose_again b bytes a word form
line_again (cut n) bytes (a, word, low, high, form) small = cut_again n bytes a word low high form
line_again (moment text) bytes (a, word, form) small = moment_again text bytes a word form
line_again (hold s) bytes n small = to_order s (codes "hold") bytes [] n ∙ hold_again s
line_again (go s) bytes n small = to_order s (codes "go") bytes [] n ∙ go_again s
line_again (until s place) bytes (a, n, form) small = to_order s (codes "until ") bytes a n ∙ until_again s place a (place_again place a form)
line_again (raw s found) bytes (a, n, form) small = to_order s (codes "raw ") bytes a n ∙ raw_again s found a form
line_again (query s text) bytes (a, n, form) small = to_order s (codes "'Q'") bytes a n ∙ by_letter s 81 a ∙ query_again s text a form
line_again (parse s name text kinds) bytes (a, b, c, n, f, g, h) small = to_order s (codes "'P'") bytes a n ∙ by_letter s 80 a ∙ parse_again s name text kinds a b c f g h small
line_again (describe s portal name) bytes (a, b, n, f, g) small = to_order s (codes "'D' ") bytes a n ∙ by_letter s 68 (32 ∷ a) ∙ describe_again s portal name a b f g
line_again (bind s portal name formats values results) bytes (a, b, c, d, e, n, f, g, h, v, r) small =
    to_order s (codes "'B'") bytes a n ∙ by_letter s 66 a ∙ bind_again s portal name formats values results a b c d e f g h v r small
line_again (execute s portal limit) bytes (a, b, n, f, g) small = to_order s (codes "'E'") bytes a n ∙ by_letter s 69 a ∙ execute_again s portal limit a b f g
line_again (close s portal name) bytes (a, b, n, f, g) small = to_order s (codes "'C' ") bytes a n ∙ by_letter s 67 (32 ∷ a) ∙ close_again s portal name a b f g
line_again (flush s) bytes n small = to_order s (codes "'H'") bytes [] n ∙ by_letter s 72 [] ∙ flush_again s
line_again (sync s) bytes n small = to_order s (codes "'S'") bytes [] n ∙ by_letter s 83 [] ∙ sync_again s
line_again (terminate s) bytes n small = to_order s (codes "'X'") bytes [] n ∙ by_letter s 88 [] ∙ terminate_again s
