-- What is spelled is its line again.
use Rattle.std.proofs.Common.{◌≡◌, ℕ, zero, suc, ◌+◌, ◌-◌, ◌*◌, ◌/◌, ◌%◌, ◌^◌, ◌<◌, ◌≤◌, inl, inr, List, [], ◌∷◌, ◌++◌, length, flat_map, Option, Some, None, Bool, true, false, ◌&&◌, nat_lt, nat_le, if◌then◌else◌, refl, sym, ap, subst, ◌∙◌, append_assoc, arith, ℤ, pos, negsuc}
use Rattle.std.specs.Prelude.{codes, neg_ℤ}
use Rattle.std.specs.List.{AllByRecursion}
use Rattle.std.specs.Fmt.{decimal, signed_decimal}
use Rattle.std.specs.Str.Parse.{AllDigits}
use Rattle.std.proofs.lemmas.Bool.Decides.{nat_tests}
use Rattle.std.proofs.lemmas.List.{append-nil}
use Rattle.std.proofs.lemmas.Fmt.{decimal_is_IsNumeral, digits_value-decimal}
use Rattle.std.proofs.lemmas.Str.Parse.{digit_from_value, numerals_by_fold, tells_digits}
use Rattle.pgproto.specs.declared.line.ScriptValue.{ScriptValue}
use Rattle.pgproto.specs.declared.line.ScriptValue.TheVariants.{Null, Str, Hex}
use Rattle.pgproto.specs.Words.{AreHexOf, IsNumber, IsString, hex_digit, is_digit, number_from, quoted}
use Rattle.pgproto.specs.Line.{Line, Place, BackendOf, CountedOf, HexOf, IsLine, IsSmall, LimitOf, ListOf, NumberOf, Numbered, PlaceOf, SessionOf, Spaced, StringOf, TargetOf, ValueOf, Word, session, lose, cut, moment, hold, go, until, raw, query, parse, describe, bind, execute, close, flush, sync, terminate, order, snapshot, commit, post, answer, reply}
use Rattle.pgproto.specs.Script.{AreLines, IsScript, IsScriptLine}
use Rattle.pgproto.specs.Spelling.{IsOfGrammar, counted_spelled, digit, each_spelled, hexed, place_spelled, script_front, sender, spelled, target_spelled, two_digits, value_spelled, words_of}
use Rattle.pgproto.proofs.SpellingLaws.{hex_small, spelled_one, values_of_form}

all_digits : (ds : List ℕ) → AllDigits 10 ds → AllByRecursion (λ d. is_digit d ≡ true) ds
all_digits [] d = tt
all_digits (c ∷ cs) d = let k = digit_from_value c d.0 in (one c (omega (arith, k)) (omega (arith, k)), all_digits cs d.1)
  where
    one : (b : ℕ) → 48 ≤ b → b ≤ 57 → (nat_le 48 b && nat_le b 57) ≡ true
    one b low high = grind (arith, nat_tests)

decimal_number : (n : ℕ) → n < 2 ^ 64 → IsNumber (decimal n) n
decimal_number n small = record {
  some = (decimal_is_IsNumeral n small).0.0;
  digits_are = all_digits (decimal n) (decimal_is_IsNumeral n small).0.1;
  number = digits_value-decimal (numerals_by_fold (AllDigits 10) tells_digits number_from (record { empty = λ n. refl; more = λ n c cs h. refl })) n small;
}

-- a number in front
number : (n : ℕ) (rest : List ℕ) → n < 2 ^ 64 → NumberOf n (decimal n ++ rest) rest
number n rest small = (decimal n, decimal_number n small, refl)

number_alone : (n : ℕ) → n < 2 ^ 64 → NumberOf n (decimal n) []
number_alone n small = (decimal n, decimal_number n small, sym (append-nil (decimal n)))

digit_again : (n : ℕ) → n < 16 → hex_digit (digit n) ≡ n
digit_again zero l = refl
digit_again (suc zero) l = refl
digit_again (suc (suc zero)) l = refl
digit_again (suc (suc (suc zero))) l = refl
digit_again (suc (suc (suc (suc zero)))) l = refl
digit_again (suc (suc (suc (suc (suc zero))))) l = refl
digit_again (suc (suc (suc (suc (suc (suc zero)))))) l = refl
digit_again (suc (suc (suc (suc (suc (suc (suc zero))))))) l = refl
digit_again (suc (suc (suc (suc (suc (suc (suc (suc zero)))))))) l = refl
digit_again (suc (suc (suc (suc (suc (suc (suc (suc (suc zero))))))))) l = refl
digit_again (suc (suc (suc (suc (suc (suc (suc (suc (suc (suc zero)))))))))) l = refl
digit_again (suc (suc (suc (suc (suc (suc (suc (suc (suc (suc (suc zero))))))))))) l = refl
digit_again (suc (suc (suc (suc (suc (suc (suc (suc (suc (suc (suc (suc zero)))))))))))) l = refl
digit_again (suc (suc (suc (suc (suc (suc (suc (suc (suc (suc (suc (suc (suc zero))))))))))))) l = refl
digit_again (suc (suc (suc (suc (suc (suc (suc (suc (suc (suc (suc (suc (suc (suc zero)))))))))))))) l = refl
digit_again (suc (suc (suc (suc (suc (suc (suc (suc (suc (suc (suc (suc (suc (suc (suc zero))))))))))))))) l = refl
digit_again (suc (suc (suc (suc (suc (suc (suc (suc (suc (suc (suc (suc (suc (suc (suc (suc n)))))))))))))))) l = absurd (omega arith)

hex_again : (found : List ℕ) → AllByRecursion (λ b. b < 256) found → AreHexOf (flat_map two_digits found) found
hex_again [] all = tt
hex_again (b ∷ found) all =
    let h = digit_again (b / 16) (omega arith) in
    let l = digit_again (b % 16) (omega arith) in
    (omega arith, omega arith, omega arith, hex_again found all.1)

hex_form : (found rest bytes : List ℕ) → AllByRecursion (λ b. b < 256) found → bytes ≡ hexed found ++ rest → HexOf found bytes rest
hex_form found rest bytes all is = (flat_map two_digits found, hex_again found all, is ∙ ap (λ xs. 34 ∷ xs) (append_assoc (flat_map two_digits found) (34 ∷ []) rest))

hex_of : (found bytes rest : List ℕ) → HexOf found bytes rest → AllByRecursion (λ b. b < 256) found
hex_of found bytes rest (digits, are, is) = hex_small digits found are

value_again : (v : ScriptValue) (bytes rest after : List ℕ) → ValueOf v bytes rest → ValueOf v (value_spelled v ++ after) after
value_again Null bytes rest after h = refl
value_again (Str text) bytes rest after h = (h.0, refl)
value_again (Hex found) bytes rest after (a, x, h) = (hexed found ++ after, refl, hex_form found after (hexed found ++ after) (hex_of found a rest h) refl)

limit_again : (z : ℤ) (bytes rest : List ℕ) → LimitOf z bytes rest → LimitOf z (signed_decimal z) []
limit_again z bytes rest (inl (n, small, is, form)) = subst (λ y. LimitOf y (signed_decimal y) []) (sym is) (inl (n, small, refl, number_alone n (omega arith)))
limit_again z bytes rest (inr (n, after, small, is, minus, form)) = subst (λ y. LimitOf y (signed_decimal y) []) (sym is) (negative n small)
  where
    negative : (m : ℕ) → m ≤ 2147483648 → LimitOf (neg_ℤ (pos m)) (signed_decimal (neg_ℤ (pos m))) []
    negative zero l = inl (zero, omega arith, refl, number_alone zero (omega arith))
    negative (suc m) l = inr (suc m, decimal (suc m), l, refl, refl, number_alone (suc m) (omega arith))

module _ {A : Type 0} (form : A → List ℕ → List ℕ → Type 0) (entry : A → List ℕ) (Q : A → Type 0) (again : (x : A) (rest : List ℕ) → Q x → form x (entry x ++ rest) rest) where
  each_again : (xs : List A) (rest : List ℕ) → AllByRecursion Q xs → ListOf form xs (each_spelled entry xs ++ rest) rest
  each_again [] rest all = refl
  each_again (x ∷ xs) rest all = (
    each_spelled entry xs ++ rest,
    (entry x ++ (each_spelled entry xs ++ rest), ap (λ ys. 32 ∷ ys) (append_assoc (entry x) (each_spelled entry xs) rest), again x (each_spelled entry xs ++ rest) all.0),
    each_again xs rest all.1,
  )

  counted_again : (xs : List A) (rest : List ℕ) → length xs ≤ 32767 → AllByRecursion Q xs → CountedOf form xs (counted_spelled entry xs ++ rest) rest
  counted_again xs rest small all = (
    each_spelled entry xs ++ rest,
    (decimal (length xs) ++ (each_spelled entry xs ++ rest), ap (λ ys. 32 ∷ ys) (append_assoc (decimal (length xs)) (each_spelled entry xs) rest), number (length xs) (each_spelled entry xs ++ rest) (omega arith)),
    each_again xs rest all,
  )

place_again : (place : Place) (bytes : List ℕ) → PlaceOf place bytes [] → PlaceOf place (place_spelled place) []
place_again order bytes h = refl
place_again snapshot bytes h = refl
place_again commit bytes h = refl
place_again (post b) bytes (after, word, (small, form)) = (decimal b, refl, (small, number_alone b (omega arith)))
place_again (answer b) bytes (after, word, (small, form)) = (decimal b, refl, (small, number_alone b (omega arith)))
place_again reply bytes h = refl

target_again : (portal : Bool) (rest : List ℕ) → TargetOf portal (target_spelled portal ++ rest) rest
target_again true rest = refl
target_again false rest = refl

text_again : (text bytes rest after : List ℕ) → Spaced StringOf text bytes rest → Spaced StringOf text (32 ∷ (quoted text ++ after)) after
text_again text bytes rest after (a, space, is) = (quoted text ++ after, refl, (is.0, refl))

text_alone : (text bytes rest : List ℕ) → Spaced StringOf text bytes rest → Spaced StringOf text (32 ∷ quoted text) []
text_alone text bytes rest (a, space, is) = (quoted text, refl, (is.0, sym (append-nil (quoted text))))

-- a session's number, a space, and what its client sends
sent : (s : ℕ) (word tail rest : List ℕ) → 1 ≤ s → s ≤ 64 → 32 ∷ tail ≡ word ++ rest → Numbered s word ((decimal s ++ codes " ") ++ tail) rest
sent s word tail rest low high e = (32 ∷ tail, (low, high, (decimal s, decimal_number s (omega arith), append_assoc (decimal s) (32 ∷ []) tail)), e)

kinds_again : (xs rest : List ℕ) → length xs ≤ 32767 → AllByRecursion (λ n. n ≤ 4294967295) xs → CountedOf NumberOf xs (counted_spelled decimal xs ++ rest) rest
kinds_again = counted_again NumberOf decimal (λ n. n ≤ 4294967295) (λ n rest small. number n rest (omega arith))

formats_again : (xs rest : List ℕ) → length xs ≤ 32767 → AllByRecursion (λ n. n ≤ 65535) xs → CountedOf NumberOf xs (counted_spelled decimal xs ++ rest) rest
formats_again = counted_again NumberOf decimal (λ n. n ≤ 65535) (λ n rest small. number n rest (omega arith))

abbrev SomeValue : ScriptValue → Type 0
SomeValue v = (bytes rest : List ℕ) × ValueOf v bytes rest

values_again : (xs : List ScriptValue) (bytes rest after : List ℕ) → length xs ≤ 32767 → CountedOf ValueOf xs bytes rest → CountedOf ValueOf xs (counted_spelled value_spelled xs ++ after) after
values_again xs bytes rest after small (a, n, items) =
    counted_again ValueOf value_spelled SomeValue (λ v tail h. value_again v h.0 h.1 tail h.2) xs after small (values_of_form ValueOf SomeValue (λ v b r h. (b, r, h)) xs a rest items)

line_again : (l : Line) (bytes : List ℕ) → IsLine l bytes → IsSmall l → IsLine l (spelled l)
unfolding words_of
line_again (session s) bytes (a, word, (low, high, form)) small = (decimal s, refl, (low, high, number_alone s (omega arith)))
line_again (lose b) bytes (a, word, (low, form)) small = (decimal b, refl, (low, number_alone b (omega arith)))
line_again (cut size) bytes (a, word, low, high, form) small = (decimal size, refl, low, high, number_alone size (omega arith))
line_again (moment text) bytes (a, word, is) small = (quoted text, refl, (is.0, sym (append-nil (quoted text))))
line_again (hold s) bytes (a, (low, high, form), word) small = (codes " hold", (low, high, number s (codes " hold") (omega arith)), refl)
line_again (go s) bytes (a, (low, high, form), word) small = (codes " go", (low, high, number s (codes " go") (omega arith)), refl)
line_again (until s place) bytes (a, (b, (low, high, form), word), is) small =
    (place_spelled place, (codes " until " ++ place_spelled place, (low, high, number s (codes " until " ++ place_spelled place) (omega arith)), refl), place_again place a is)
line_again (raw s found) bytes (a, n, h) small =
    (hexed found, sent s (codes " raw ") (codes "raw " ++ hexed found) (hexed found) n.1.0 n.1.1 refl, hex_form found [] (hexed found) (hex_of found a [] h) (sym (append-nil (hexed found))))
line_again (query s text) bytes (a, n, t) small =
    (32 ∷ quoted text, sent s (codes " 'Q'") (codes "'Q' " ++ quoted text) (32 ∷ quoted text) n.1.0 n.1.1 refl, text_alone text a [] t)
line_again (parse s name text kinds) bytes (a, b, c, n, p, q, k) small =
    let c' = counted_spelled decimal kinds in
    let b' = 32 ∷ (quoted text ++ c') in
    let a' = 32 ∷ (quoted name ++ b') in (
      a',
      b',
      c',
      sent s (codes " 'P'") (codes "'P' " ++ (quoted name ++ b')) a' n.1.0 n.1.1 refl,
      text_again name a b b' p,
      text_again text b c c' q,
      subst (λ ys. CountedOf NumberOf kinds ys []) (append-nil c') (kinds_again kinds [] small.0 small.1),
    )
line_again (describe s portal name) bytes (a, b, n, t, q) small =
    let b' = 32 ∷ quoted name in
    let a' = target_spelled portal ++ b' in
    (a', b', sent s (codes " 'D' ") (codes "'D' " ++ a') a' n.1.0 n.1.1 refl, target_again portal b', text_alone name b [] q)
line_again (bind s portal name formats values results) bytes (a, b, c, d, e, n, p, q, f, v, r) small =
    let e' = counted_spelled decimal results in
    let d' = counted_spelled value_spelled values ++ e' in
    let c' = counted_spelled decimal formats ++ d' in
    let b' = 32 ∷ (quoted name ++ c') in
    let a' = 32 ∷ (quoted portal ++ b') in (
      a',
      b',
      c',
      d',
      e',
      sent s (codes " 'B'") (codes "'B' " ++ (quoted portal ++ b')) a' n.1.0 n.1.1 refl,
      text_again portal a b b' p,
      text_again name b c c' q,
      formats_again formats d' small.0.0 small.0.1,
      values_again values d e e' small.1 v,
      subst (λ ys. CountedOf NumberOf results ys []) (append-nil e') (formats_again results [] small.2.0 small.2.1),
    )
line_again (execute s portal limit) bytes (a, b, n, p, z) small =
    let b' = 32 ∷ signed_decimal limit in
    let a' = 32 ∷ (quoted portal ++ b') in
    (a', b', sent s (codes " 'E'") (codes "'E' " ++ (quoted portal ++ b')) a' n.1.0 n.1.1 refl, text_again portal a b b' p, (signed_decimal limit, refl, limit_again limit z.0 [] z.2))
line_again (close s portal name) bytes (a, b, n, t, q) small =
    let b' = 32 ∷ quoted name in
    let a' = target_spelled portal ++ b' in
    (a', b', sent s (codes " 'C' ") (codes "'C' " ++ a') a' n.1.0 n.1.1 refl, target_again portal b', text_alone name b [] q)
line_again (flush s) bytes h small = sent s (codes " 'H'") (codes "'H'") [] h.1.0 h.1.1 refl
line_again (sync s) bytes h small = sent s (codes " 'S'") (codes "'S'") [] h.1.0 h.1.1 refl
line_again (terminate s) bytes h small = sent s (codes " 'X'") (codes "'X'") [] h.1.0 h.1.1 refl

pub printed_again : (l : Line) → IsOfGrammar l → IsScript (spelled l ++ 10 ∷ []) (l ∷ [])
printed_again l g = record {
  lines = spelled l ∷ [];
  one_each = (spelled_one l g, tt);
  text_is = sym (append-nil (spelled l ++ 10 ∷ []));
  are = inr (l, [], (line_again l g.bytes g.is.0 g.is.1, g.is.1, g.is.2, g.is.3), refl, refl);
}

grammar_of : (lines : List (List ℕ)) (found : List Line) → AreLines lines found → AllByRecursion IsOfGrammar found
grammar_of [] found e = subst (AllByRecursion IsOfGrammar) (sym e) tt
grammar_of (line ∷ lines) found (inl (skipped, are)) = grammar_of lines found are
grammar_of (line ∷ lines) found (inr (l, more, is, e, are)) = subst (AllByRecursion IsOfGrammar) (sym e) (record { bytes = line; is = is }, grammar_of lines more are)

pub lines_of_grammar : (text : List ℕ) (found : List Line) → IsScript text found → AllByRecursion IsOfGrammar found
lines_of_grammar text found s = grammar_of s.lines found s.are
