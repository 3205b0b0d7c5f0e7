-- What is spelled holds printed ASCII and strings, so it is valid UTF-8 and one line.
use Rattle.std.proofs.Common.{◌≡◌, ◌≢◌, ℕ, zero, suc, ◌+◌, ◌*◌, ◌/◌, ◌%◌, ◌^◌, ◌<◌, ◌≤◌, ◌⊎◌, inl, inr, List, [], ◌∷◌, ◌++◌, length, get_or, flat_map, Option, Some, None, Bool, true, false, ◌&&◌, ◌||◌, ◌==◌, nat_lt, nat_le, if◌then◌else◌, refl, sym, ap, ap₂, subst, ◌∙◌, append_assoc, arith, ℤ, pos, negsuc}
use Rattle.std.specs.Prelude.{codes, neg_ℤ}
use Rattle.std.specs.List.{AllByRecursion}
use Rattle.std.specs.Str.{IsAscii, IsUtf8, all_scalars, encode_utf8_all}
use Rattle.std.specs.Char.{encode_utf8}
use Rattle.std.specs.Str.Parse.{AllDigits}
use Rattle.std.specs.Fmt.{decimal, signed_decimal}
use Rattle.std.proofs.lemmas.Bool.Decides.{nat_tests}
use Rattle.std.proofs.lemmas.Fmt.{decimal_is_IsNumeral}
use Rattle.std.proofs.lemmas.Grind.{flat_map-append}
use Rattle.std.proofs.lemmas.List.{append-nil}
use Rattle.std.proofs.lemmas.Str.{IsUtf8-append, IsUtf8-from_ascii, encode_ascii, inside_one}
use Rattle.std.proofs.lemmas.Str.Parse.{digit_from_value}
use Rattle.pgproto.specs.Words.{AreHexOf, IsString, escaped, quoted}
use Rattle.pgproto.specs.Script.{IsOneLine}
use Rattle.pgproto.specs.declared.line.ScriptValue.{ScriptValue}
use Rattle.pgproto.specs.declared.line.ScriptValue.TheVariants.{Null, Str, Hex}
use Rattle.pgproto.specs.Line.{Line, Place, BackendOf, CountedOf, HexOf, IsLine, IsSmall, LimitOf, ListOf, NumberOf, Numbered, PlaceOf, SessionOf, Spaced, StringOf, TargetOf, ValueOf, Word, session, lose, cut, moment, hold, go, until, raw, query, parse, describe, bind, execute, close, flush, sync, terminate, order, snapshot, commit, post, answer, reply}
use Rattle.pgproto.specs.Spelling.{IsOfGrammar, counted_spelled, digit, each_spelled, echo_front, echoed, hexed, place_spelled, script_front, sender, spelled, target_spelled, two_digits, value_spelled, words_of}
use Rattle.pgproto.proofs.WordLaws.{both_true}
use Rattle.pgproto.proofs.TextLaws.{is_not, plain_escaped}
use Rattle.pgproto.proofs.PartLaws.{not_at}

-- printed ASCII
abbrev pub IsPlain : List ℕ → Type 0
IsPlain bytes = AllByRecursion (λ b. (32 ≤ b) × (b < 127)) bytes

abbrev is_plain : List ℕ → Bool
is_plain [] = true
is_plain (b ∷ bytes) = (nat_le 32 b && nat_lt b 127) && is_plain bytes

pub plain : (bytes : List ℕ) → is_plain bytes ≡ true → IsPlain bytes
plain [] e = tt
plain (b ∷ bytes) e =
    let t = both_true (nat_le 32 b && nat_lt b 127) (is_plain bytes) e in
    let u = both_true (nat_le 32 b) (nat_lt b 127) t.0 in
    ((grind (arith, nat_tests), grind (arith, nat_tests)), plain bytes t.1)

pub plain-append : (xs ys : List ℕ) → IsPlain xs → IsPlain ys → IsPlain (xs ++ ys)
plain-append [] ys p q = q
plain-append (x ∷ xs) ys p q = (p.0, plain-append xs ys p.1 q)

pub plain_ascii : (bytes : List ℕ) → IsPlain bytes → IsAscii bytes
plain_ascii [] p i = omega arith
plain_ascii (b ∷ bytes) p zero = omega (arith, p.0.1)
plain_ascii (b ∷ bytes) p (suc i) = plain_ascii bytes p.1 i

pub plain_utf8 : (bytes : List ℕ) → IsPlain bytes → IsUtf8 bytes
plain_utf8 bytes p = IsUtf8-from_ascii bytes (plain_ascii bytes p)

-- ---- numbers and digits

digits_plain : (ds : List ℕ) → AllDigits 10 ds → IsPlain ds
digits_plain [] d = tt
digits_plain (c ∷ cs) d = ((omega (arith, digit_from_value c d.0), omega (arith, digit_from_value c d.0)), digits_plain cs d.1)

pub decimal_plain : (n : ℕ) → n < 2 ^ 64 → IsPlain (decimal n)
decimal_plain n small = digits_plain (decimal n) (decimal_is_IsNumeral n small).0.1

digit_plain : (n : ℕ) → n < 16 → (32 ≤ digit n) × (digit n < 127)
digit_plain n small = go (nat_lt n 10)
  where
    go : (t : Bool) → (32 ≤ (if t then 48 + n else 87 + n)) × ((if t then 48 + n else 87 + n) < 127)
    go true = (omega arith, omega arith)
    go false = (omega arith, omega arith)

pub two_digits_plain : (b : ℕ) → b < 256 → IsPlain (two_digits b)
two_digits_plain b small = (digit_plain (b / 16) (omega arith), (digit_plain (b % 16) (omega arith), tt))

each_two_plain : (bytes : List ℕ) → AllByRecursion (λ b. b < 256) bytes → IsPlain (flat_map two_digits bytes)
each_two_plain [] p = tt
each_two_plain (b ∷ bytes) p = plain-append (two_digits b) (flat_map two_digits bytes) (two_digits_plain b p.0) (each_two_plain bytes p.1)

hexed_plain : (bytes : List ℕ) → AllByRecursion (λ b. b < 256) bytes → IsPlain (hexed bytes)
hexed_plain bytes p = ((omega arith, omega arith), plain-append (flat_map two_digits bytes) (34 ∷ []) (each_two_plain bytes p) ((omega arith, omega arith), tt))

pub hex_small : (digits found : List ℕ) → AreHexOf digits found → AllByRecursion (λ b. b < 256) found
hex_small [] [] h = tt
hex_small [] (b ∷ found) h = absurd h
hex_small (h ∷ []) found p = absurd p
hex_small (h ∷ l ∷ digits) [] p = absurd p
hex_small (h ∷ l ∷ digits) (b ∷ found) (p, q, e, more) = (omega arith, hex_small digits found more)

-- ---- strings

high_same : (bytes : List ℕ) → ((k : ℕ) → k < length bytes → 128 ≤ get_or bytes k 0) → flat_map escaped bytes ≡ bytes
high_same [] h = refl
high_same (b ∷ bytes) h =
    let high : 128 ≤ b = h 0 (omega arith) in
    ap₂ (λ (xs ys : List ℕ). xs ++ ys) (plain_escaped b (not_at b 34 (λ e. omega arith)) (not_at b 92 (λ e. omega arith)) (not_at b 10 (λ e. omega arith)))
    (high_same bytes (λ k l. h (suc k) (omega arith)))

high_bytes : (c : ℕ) → 128 ≤ c → (k : ℕ) → k < length (encode_utf8 c) → 128 ≤ get_or (encode_utf8 c) k 0
high_bytes c high k less = go (nat_lt (get_or (encode_utf8 c) k 0) 128) refl
  where
    go : (t : Bool) → nat_lt (get_or (encode_utf8 c) k 0) 128 ≡ t → 128 ≤ get_or (encode_utf8 c) k 0
    go true e =
        let low : get_or (encode_utf8 c) k 0 < 128 = grind (arith, nat_tests) in
        omega (arith, inside_one c [] (encode_utf8 c) k (sym (append-nil (encode_utf8 c))) less low)
    go false e = grind (arith, nat_tests)

escaped_ascii : (c : ℕ) → c < 128 → IsUtf8 (escaped c)
escaped_ascii c small = go (c == 34) (c == 92) (c == 10)
  where
    go : (p q r : Bool) → IsUtf8 (if p then 92 ∷ 34 ∷ [] else if q then 92 ∷ 92 ∷ [] else if r then 92 ∷ 110 ∷ [] else c ∷ [])
    go true q r = plain_utf8 (92 ∷ 34 ∷ []) (plain (92 ∷ 34 ∷ []) refl)
    go false true r = plain_utf8 (92 ∷ 92 ∷ []) (plain (92 ∷ 92 ∷ []) refl)
    go false false true = plain_utf8 (92 ∷ 110 ∷ []) (plain (92 ∷ 110 ∷ []) refl)
    go false false false = IsUtf8-from_ascii (c ∷ []) one
      where
        one : IsAscii (c ∷ [])
        one zero = omega arith
        one (suc i) = omega arith

char_utf8 : (c : ℕ) → all_scalars (c ∷ []) ≡ true → IsUtf8 (flat_map escaped (encode_utf8 c))
char_utf8 c is = go (nat_lt c 128) refl
  where
    go : (t : Bool) → nat_lt c 128 ≡ t → IsUtf8 (flat_map escaped (encode_utf8 c))
    go true e =
        let low : c < 128 = grind (arith, nat_tests) in
        subst IsUtf8 (sym (ap (flat_map escaped) (encode_ascii c low) ∙ append-nil (escaped c))) (escaped_ascii c low)
    go false e =
        let high : 128 ≤ c = grind (arith, nat_tests) in
        subst IsUtf8 (sym (high_same (encode_utf8 c) (high_bytes c high))) (c ∷ [], (is, append-nil (encode_utf8 c)))

chars_utf8 : (cs : List ℕ) → all_scalars cs ≡ true → IsUtf8 (flat_map escaped (encode_utf8_all cs))
chars_utf8 [] e = ([], (refl, refl))
chars_utf8 (c ∷ cs) e =
    let t = both_true _ _ e in
    subst IsUtf8 (sym (flat_map-append escaped (encode_utf8 c) (encode_utf8_all cs)))
    (IsUtf8-append (flat_map escaped (encode_utf8 c)) (flat_map escaped (encode_utf8_all cs)) (char_utf8 c (ap (λ (b : Bool). b && true) t.0)) (chars_utf8 cs t.1))

quoted_utf8 : (text : List ℕ) → IsString text → IsUtf8 (quoted text)
quoted_utf8 text is =
    let inside = subst (λ xs. IsUtf8 (flat_map escaped xs)) is.utf8.1.1 (chars_utf8 is.utf8.0 is.utf8.1.0) in
    let quote = plain_utf8 (34 ∷ []) (plain (34 ∷ []) refl) in
    IsUtf8-append (34 ∷ flat_map escaped text) (34 ∷ []) (IsUtf8-append (34 ∷ []) (flat_map escaped text) quote inside) quote

one-append : (xs ys : List ℕ) → IsOneLine xs → IsOneLine ys → IsOneLine (xs ++ ys)
one-append [] ys p q = q
one-append (x ∷ xs) ys p q = (p.0, one-append xs ys p.1 q)

plain_one : (bytes : List ℕ) → IsPlain bytes → IsOneLine bytes
plain_one [] p = tt
plain_one (b ∷ bytes) p = let low : 32 ≤ b = p.0.0 in (λ e. omega arith, plain_one bytes p.1)

escaped_one : (b : ℕ) → IsOneLine (escaped b)
escaped_one b = go (b == 34) (b == 92) (b == 10) refl
  where
    go : (p q r : Bool) → (b == 10) ≡ r → IsOneLine (if p then 92 ∷ 34 ∷ [] else if q then 92 ∷ 92 ∷ [] else if r then 92 ∷ 110 ∷ [] else b ∷ [])
    go true q r e = (λ e. omega arith, (λ e. omega arith, tt))
    go false true r e = (λ e. omega arith, (λ e. omega arith, tt))
    go false false true e = (λ e. omega arith, (λ e. omega arith, tt))
    go false false false e = (is_not b 10 e, tt)

each_one : (text : List ℕ) → IsOneLine (flat_map escaped text)
each_one [] = tt
each_one (b ∷ text) = one-append (escaped b) (flat_map escaped text) (escaped_one b) (each_one text)

quoted_one : (text : List ℕ) → IsString text → IsOneLine (quoted text)
quoted_one text is = (λ e. omega arith, one-append (flat_map escaped text) (34 ∷ []) (each_one text) (λ e. omega arith, tt))

-- ---- whole lines

pub values_of_form : {A : Type 0} (form : A → List ℕ → List ℕ → Type 0) (Q : A → Type 0) → ((x : A) (bytes rest : List ℕ) → form x bytes rest → Q x) → (xs : List A) (bytes rest : List ℕ) → ListOf form xs bytes rest → AllByRecursion Q xs
values_of_form form Q f [] bytes rest h = tt
values_of_form form Q f (x ∷ xs) bytes rest (after, (start, space, is), more) = (f x start after is, values_of_form form Q f xs after rest more)

-- what holds of printed ASCII and of quoted strings, and of two pieces in a row, holds of each line
module _ (P : List ℕ → Type 0) (both : (xs ys : List ℕ) → P xs → P ys → P (xs ++ ys)) (of_plain : (xs : List ℕ) → IsPlain xs → P xs) (of_string : (text : List ℕ) → IsString text → P (quoted text)) where
  number : (n : ℕ) → n < 2 ^ 64 → P (decimal n)
  number n small = of_plain (decimal n) (decimal_plain n small)

  closed : (xs : List ℕ) → is_plain xs ≡ true → P xs
  closed xs e = of_plain xs (plain xs e)

  space : (xs : List ℕ) → P xs → P (32 ∷ xs)
  space xs p = both (32 ∷ []) xs (closed (32 ∷ []) refl) p

  hex : (bytes rest found : List ℕ) → HexOf found bytes rest → P (hexed found)
  hex bytes rest found (digits, are, is) = of_plain (hexed found) (hexed_plain found (hex_small digits found are))

  value : (v : ScriptValue) (bytes rest : List ℕ) → ValueOf v bytes rest → P (value_spelled v)
  value Null bytes rest h = closed (codes "null") refl
  value (Str text) bytes rest h = of_string text h.0
  value (Hex found) bytes rest (after, x, h) = both (120 ∷ []) (hexed found) (closed (120 ∷ []) refl) (hex after rest found h)

  limit_piece : (z : ℤ) (bytes rest : List ℕ) → LimitOf z bytes rest → P (signed_decimal z)
  limit_piece z bytes rest (inl (n, small, is, form)) = subst (λ y. P (signed_decimal y)) (sym is) (number n (omega arith))
  limit_piece z bytes rest (inr (n, after, small, is, minus, form)) = subst (λ y. P (signed_decimal y)) (sym is) (negative n small)
    where
      negative : (m : ℕ) → m ≤ 2147483648 → P (signed_decimal (neg_ℤ (pos m)))
      negative zero l = number zero (omega arith)
      negative (suc m) l = both (45 ∷ []) (decimal (suc m)) (closed (45 ∷ []) refl) (number (suc m) (omega arith))

  each : {A : Type 0} (Q : A → Type 0) (entry : A → List ℕ) → ((x : A) → Q x → P (entry x)) → (xs : List A) → AllByRecursion Q xs → P (each_spelled entry xs)
  each Q entry f [] all = closed [] refl
  each Q entry f (x ∷ xs) all = both (32 ∷ entry x) (each_spelled entry xs) (space (entry x) (f x all.0)) (each Q entry f xs all.1)

  counted : {A : Type 0} (Q : A → Type 0) (entry : A → List ℕ) → ((x : A) → Q x → P (entry x)) → (xs : List A) → length xs ≤ 32767 → AllByRecursion Q xs → P (counted_spelled entry xs)
  counted Q entry f xs small all = space (decimal (length xs) ++ each_spelled entry xs) (both (decimal (length xs)) (each_spelled entry xs) (number (length xs) (omega arith)) (each Q entry f xs all))

  kinds_piece : (xs : List ℕ) → length xs ≤ 32767 → AllByRecursion (λ n. n ≤ 4294967295) xs → P (counted_spelled decimal xs)
  kinds_piece = counted (λ n. n ≤ 4294967295) decimal (λ n small. number n (omega arith))

  formats_piece : (xs : List ℕ) → length xs ≤ 32767 → AllByRecursion (λ n. n ≤ 65535) xs → P (counted_spelled decimal xs)
  formats_piece = counted (λ n. n ≤ 65535) decimal (λ n small. number n (omega arith))

  values_piece : (xs : List ScriptValue) (bytes rest : List ℕ) → length xs ≤ 32767 → CountedOf ValueOf xs bytes rest → P (counted_spelled value_spelled xs)
  values_piece xs bytes rest small (after, n, items) = counted (λ v. P (value_spelled v)) value_spelled (λ v p. p) xs small (values_of_form ValueOf (λ v. P (value_spelled v)) value xs after rest items)

  place_piece : (place : Place) (bytes rest : List ℕ) → PlaceOf place bytes rest → P (place_spelled place)
  place_piece order bytes rest h = closed (codes "order") refl
  place_piece snapshot bytes rest h = closed (codes "snapshot") refl
  place_piece commit bytes rest h = closed (codes "commit") refl
  place_piece (post b) bytes rest (after, word, (small, form)) = both (codes "post ") (decimal b) (closed (codes "post ") refl) (number b (omega arith))
  place_piece (answer b) bytes rest (after, word, (small, form)) = both (codes "answer ") (decimal b) (closed (codes "answer ") refl) (number b (omega arith))
  place_piece reply bytes rest h = closed (codes "reply") refl

  target_piece : (portal : Bool) → P (target_spelled portal)
  target_piece true = closed (codes "'P'") refl
  target_piece false = closed (codes "'S'") refl

  text_piece : (text bytes rest : List ℕ) → Spaced StringOf text bytes rest → P (quoted text)
  text_piece text bytes rest (after, space, is) = of_string text is.0

  words_piece : (l : Line) (bytes : List ℕ) → IsLine l bytes → IsSmall l → P (words_of l)
  unfolding words_of
  words_piece (session s) bytes (a, word, (low, high, form)) small = both (codes "session ") (decimal s) (closed (codes "session ") refl) (number s (omega arith))
  words_piece (lose b) bytes (a, word, (low, form)) small = both (codes "lose ") (decimal b) (closed (codes "lose ") refl) (number b (omega arith))
  words_piece (cut size) bytes (a, word, low, high, form) small = both (codes "cut ") (decimal size) (closed (codes "cut ") refl) (number size (omega arith))
  words_piece (moment text) bytes (a, word, is) small = both (codes "moment ") (quoted text) (closed (codes "moment ") refl) (of_string text is.0)
  words_piece (hold s) bytes (a, (low, high, form), word) small = both (decimal s) (codes " hold") (number s (omega arith)) (closed (codes " hold") refl)
  words_piece (go s) bytes (a, (low, high, form), word) small = both (decimal s) (codes " go") (number s (omega arith)) (closed (codes " go") refl)
  words_piece (until s place) bytes (a, (b, (low, high, form), word), is) small =
      both (decimal s) (codes " until " ++ place_spelled place) (number s (omega arith)) (both (codes " until ") (place_spelled place) (closed (codes " until ") refl) (place_piece place a [] is))
  words_piece (raw s found) bytes (a, n, h) small = both (codes "raw ") (hexed found) (closed (codes "raw ") refl) (hex a [] found h)
  words_piece (query s text) bytes (a, n, t) small = both (codes "'Q' ") (quoted text) (closed (codes "'Q' ") refl) (text_piece text a [] t)
  words_piece (parse s name text kinds) bytes (a, b, c, n, p, q, k) small =
      both (codes "'P' ") (quoted name ++ (32 ∷ (quoted text ++ counted_spelled decimal kinds))) (closed (codes "'P' ") refl)
      (both (quoted name) (32 ∷ (quoted text ++ counted_spelled decimal kinds)) (text_piece name a b p)
      (space (quoted text ++ counted_spelled decimal kinds) (both (quoted text) (counted_spelled decimal kinds) (text_piece text b c q) (kinds_piece kinds small.0 small.1))))
  words_piece (describe s portal name) bytes (a, b, n, t, q) small =
      both (codes "'D' ") (target_spelled portal ++ (32 ∷ quoted name)) (closed (codes "'D' ") refl) (both (target_spelled portal) (32 ∷ quoted name) (target_piece portal) (space (quoted name) (text_piece name b [] q)))
  words_piece (bind s portal name formats values results) bytes (a, b, c, d, e, n, p, q, f, v, r) small =
      both (codes "'B' ") (quoted portal ++ (32 ∷ (quoted name ++ (counted_spelled decimal formats ++ (counted_spelled value_spelled values ++ counted_spelled decimal results))))) (closed (codes "'B' ") refl)
      (both (quoted portal) (32 ∷ (quoted name ++ (counted_spelled decimal formats ++ (counted_spelled value_spelled values ++ counted_spelled decimal results)))) (text_piece portal a b p)
      (space (quoted name ++ (counted_spelled decimal formats ++ (counted_spelled value_spelled values ++ counted_spelled decimal results)))
      (both (quoted name) (counted_spelled decimal formats ++ (counted_spelled value_spelled values ++ counted_spelled decimal results)) (text_piece name b c q)
      (both (counted_spelled decimal formats) (counted_spelled value_spelled values ++ counted_spelled decimal results) (formats_piece formats small.0.0 small.0.1)
      (both (counted_spelled value_spelled values) (counted_spelled decimal results) (values_piece values d e small.1 v) (formats_piece results small.2.0 small.2.1))))))
  words_piece (execute s portal limit) bytes (a, b, n, p, z) small =
      both (codes "'E' ") (quoted portal ++ (32 ∷ signed_decimal limit)) (closed (codes "'E' ") refl) (both (quoted portal) (32 ∷ signed_decimal limit) (text_piece portal a b p) (space (signed_decimal limit) (limit_piece limit z.0 [] z.2)))
  words_piece (close s portal name) bytes (a, b, n, t, q) small =
      both (codes "'C' ") (target_spelled portal ++ (32 ∷ quoted name)) (closed (codes "'C' ") refl) (both (target_spelled portal) (32 ∷ quoted name) (target_piece portal) (space (quoted name) (text_piece name b [] q)))
  words_piece (flush s) bytes h small = closed (codes "'H'") refl
  words_piece (sync s) bytes h small = closed (codes "'S'") refl
  words_piece (terminate s) bytes h small = closed (codes "'X'") refl

  fronts : (s : ℕ) → s ≤ 64 → P (script_front (Some s)) × P (echo_front (Some s))
  fronts s high = (
    both (decimal s) (codes " ") (number s (omega arith)) (closed (codes " ") refl),
    both (decimal s) (codes " FE=> ") (number s (omega arith)) (closed (codes " FE=> ") refl),
  )

  no_front : P (script_front None) × P (echo_front None)
  no_front = (closed [] refl, closed (codes "== ") refl)

  fronts_piece : (l : Line) (bytes : List ℕ) → IsLine l bytes → P (script_front (sender l)) × P (echo_front (sender l))
  fronts_piece (session s) bytes h = no_front
  fronts_piece (lose b) bytes h = no_front
  fronts_piece (cut size) bytes h = no_front
  fronts_piece (moment text) bytes h = no_front
  fronts_piece (hold s) bytes h = no_front
  fronts_piece (go s) bytes h = no_front
  fronts_piece (until s place) bytes h = no_front
  fronts_piece (raw s found) bytes (a, n, h) = fronts s n.1.1
  fronts_piece (query s text) bytes (a, n, t) = fronts s n.1.1
  fronts_piece (parse s name text kinds) bytes (a, b, c, n, p, q, k) = fronts s n.1.1
  fronts_piece (describe s portal name) bytes (a, b, n, t, q) = fronts s n.1.1
  fronts_piece (bind s portal name formats values results) bytes (a, b, c, d, e, n, p, q, f, v, r) = fronts s n.1.1
  fronts_piece (execute s portal limit) bytes (a, b, n, p, z) = fronts s n.1.1
  fronts_piece (close s portal name) bytes (a, b, n, t, q) = fronts s n.1.1
  fronts_piece (flush s) bytes h = fronts s h.1.1
  fronts_piece (sync s) bytes h = fronts s h.1.1
  fronts_piece (terminate s) bytes h = fronts s h.1.1

  pub spelled_piece : (l : Line) → IsOfGrammar l → P (spelled l)
  spelled_piece l g = both (script_front (sender l)) (words_of l) (fronts_piece l g.bytes g.is.0).0 (words_piece l g.bytes g.is.0 g.is.1)

  pub echoed_piece : (l : Line) → IsOfGrammar l → P (echoed l)
  echoed_piece l g = both (echo_front (sender l)) (words_of l) (fronts_piece l g.bytes g.is.0).1 (words_piece l g.bytes g.is.0 g.is.1)

end_utf8 : IsUtf8 (10 ∷ [])
end_utf8 = IsUtf8-from_ascii (10 ∷ []) one
  where
    one : IsAscii (10 ∷ [])
    one zero = omega arith
    one (suc i) = omega arith

pub ended_utf8 : (bytes : List ℕ) → IsUtf8 bytes → IsUtf8 (bytes ++ 10 ∷ [])
ended_utf8 bytes u = IsUtf8-append bytes (10 ∷ []) u end_utf8

pub spelled_utf8 : (l : Line) → IsOfGrammar l → IsUtf8 (spelled l ++ 10 ∷ [])
spelled_utf8 l g = ended_utf8 (spelled l) (spelled_piece IsUtf8 IsUtf8-append plain_utf8 quoted_utf8 l g)

pub echoed_utf8 : (l : Line) → IsOfGrammar l → IsUtf8 (echoed l ++ 10 ∷ [])
echoed_utf8 l g = ended_utf8 (echoed l) (echoed_piece IsUtf8 IsUtf8-append plain_utf8 quoted_utf8 l g)

pub spelled_one : (l : Line) → IsOfGrammar l → IsOneLine (spelled l)
spelled_one l g = spelled_piece IsOneLine one-append plain_one quoted_one l g
