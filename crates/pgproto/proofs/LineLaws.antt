-- Whole lines: what is read is of the grammar, and what is of the grammar is read.
use Rattle.std.proofs.Common.{◌≡◌, ◌≢◌, ℕ, zero, suc, ◌+◌, ◌-◌, ◌*◌, ◌<◌, ◌≤◌, ◌⊎◌, inl, inr, List, [], ◌∷◌, ◌++◌, length, Option, Some, None, Bool, true, false, ◌&&◌, ◌==◌, nat_lt, nat_le, if◌then◌else◌, refl, sym, ap, ap₂, subst, ◌∙◌, append_assoc, arith}
use Rattle.std.specs.Prelude.{ℤ, pos, neg_ℤ, codes}
use Rattle.std.proofs.lemmas.Bool.Decides.{nat_tests}
use Rattle.pgproto.specs.Words.{is_digit}
use Rattle.pgproto.specs.Line.{Line, Place, BackendOf, CountedOf, HexOf, LimitOf, ListOf, TargetOf, ValueOf, IsLine, IsSmall, NumberOf, Numbered, SessionOf, Spaced, StringOf, Word, session, lose, cut, moment, hold, go, until, raw, query, parse, describe, bind, execute, close, flush, sync, terminate}
use Rattle.pgproto.specs.Reading.{◌>>=◌, backend_at, counted_at, front, has_digit, hex_at, limit_at, number_at, session_at, spaced_at, string_at, value_at, word_at}
use Rattle.pgproto.specs.LineReading.{bind_at, close_at, cut_line_at, describe_at, ended, execute_at, letter_at, line_at, lose_line_at, message_at, message_of_letter, moment_line_at, numbered_at, only_word, order_at, parse_at, place_at, query_at, raw_at, session_line_at, target_at, until_at}
use Rattle.pgproto.proofs.WordLaws.{number_again, number_found, word_again, word_found}
use Rattle.pgproto.proofs.TextLaws.{bind_some, hex_again, hex_found, is_at, is_not, some_is, string_again, string_found}
use Rattle.pgproto.proofs.PartLaws.{Any, Good, Stops, good_backend, good_counted, good_number, good_session, good_spaced, good_string, good_hex, list_stops, let_pass, not_at, passed, space_stops}
use Rattle.pgproto.proofs.FieldLaws.{digit_not, ended_found, good_limit, good_target, good_value, letter_found, number_front, only_again, only_found, place_again, place_found}

-- a line that fits its bytes
abbrev pub Fine : List ℕ → Line → Type 0
Fine bytes l = IsLine l bytes × IsSmall l

abbrev Founds : List ℕ → Line → Option Line → Type 0
Founds bytes l read = read ≡ Some l → Fine bytes l

either : {A : Type 0} (P : Option A → Type 0) (t : Bool) (x y : Option A) → P x → P y → P (if t then x else y)
either P true x y p q = p
either P false x y p q = q

-- under a test
under : {A : Type 0} (P : Option A → Type 0) (t : Bool) (x y : Option A) → (t ≡ true → P x) → P y → P (if t then x else y)
under P true x y p q = p refl
under P false x y p q = q

good_text : Good (Spaced StringOf) (spaced_at string_at) Any
good_text = good_spaced good_string

-- ---- found: lines that begin with a word

session_line_found : (bytes : List ℕ) (l : Line) → session_line_at bytes ≡ Some l → Fine bytes l
unfolding session_line_at
session_line_found bytes l e =
    let r = bind_some (word_at (codes "session ") bytes) (λ a. session_at a >>= λ s. ended (session s.0) s.1) l e in
    let s = bind_some (session_at r.0) (λ s. ended (session s.0) s.1) l r.2 in
    let f = ended_found (session (s.0).0) l (s.0).1 s.2 in
    let g = good_session.found r.0 s.0 s.1 in
    subst (Fine bytes) f.1 ((r.0, word_found (codes "session ") bytes r.0 r.1, subst (λ (rest : List ℕ). SessionOf (s.0).0 r.0 rest) f.0 g.0), tt)

lose_line_found : (bytes : List ℕ) (l : Line) → lose_line_at bytes ≡ Some l → Fine bytes l
unfolding lose_line_at
lose_line_found bytes l e =
    let r = bind_some (word_at (codes "lose ") bytes) (λ a. backend_at a >>= λ b. ended (lose b.0) b.1) l e in
    let s = bind_some (backend_at r.0) (λ b. ended (lose b.0) b.1) l r.2 in
    let f = ended_found (lose (s.0).0) l (s.0).1 s.2 in
    let g = good_backend.found r.0 s.0 s.1 in
    subst (Fine bytes) f.1 ((r.0, word_found (codes "lose ") bytes r.0 r.1, subst (λ (rest : List ℕ). BackendOf (s.0).0 r.0 rest) f.0 g.0), tt)

cut_line_found : (bytes : List ℕ) (l : Line) → cut_line_at bytes ≡ Some l → Fine bytes l
unfolding cut_line_at
cut_line_found bytes l e =
    let r = bind_some (word_at (codes "cut ") bytes) (λ a. number_at 65536 a >>= λ n. if n.0 == 0 then None else ended (cut n.0) n.1) l e in
    let s = bind_some (number_at 65536 r.0) (λ n. if n.0 == 0 then None else ended (cut n.0) n.1) l r.2 in
    let g = number_found 65536 r.0 s.0 s.1 in
    go r.0 (word_found (codes "cut ") bytes r.0 r.1) (s.0).0 (s.0).1 g.0 g.1 ((s.0).0 == 0) refl s.2
  where
    go : (a : List ℕ) → Word (codes "cut ") bytes a → (n : ℕ) (rest : List ℕ) → n ≤ 65536 → NumberOf n a rest → (t : Bool) → (n == 0) ≡ t → (if t then None else ended (cut n) rest) ≡ Some l → Fine bytes l
    go a word n rest most number true z e = absurd (cc)
    go a word n rest most number false z e =
        let f = ended_found (cut n) l rest e in
        let some = is_not n 0 z in
        subst (Fine bytes) f.1 ((a, word, omega (arith, some), most, subst (λ (rest : List ℕ). NumberOf n a rest) f.0 number), tt)

moment_line_found : (bytes : List ℕ) (l : Line) → moment_line_at bytes ≡ Some l → Fine bytes l
unfolding moment_line_at
moment_line_found bytes l e =
    let r = bind_some (word_at (codes "moment ") bytes) (λ a. string_at a >>= λ t. ended (moment t.0) t.1) l e in
    let s = bind_some (string_at r.0) (λ t. ended (moment t.0) t.1) l r.2 in
    let f = ended_found (moment (s.0).0) l (s.0).1 s.2 in
    subst (Fine bytes) f.1 ((r.0, word_found (codes "moment ") bytes r.0 r.1, subst (λ (rest : List ℕ). StringOf (s.0).0 r.0 rest) f.0 (string_found r.0 s.0 s.1)), tt)

-- ---- found: lines that begin with a session's number

-- a session's number, a space, and a word behind it
numbered : (s : ℕ) (bytes a b rest word : List ℕ) → SessionOf s bytes a → Word (32 ∷ []) a b → Word word b rest → Numbered s (32 ∷ word) bytes rest
numbered s bytes a b rest word number space is = (a, number, space ∙ ap (λ (xs : List ℕ). 32 ∷ xs) is)

module _ (s : ℕ) (bytes a b : List ℕ) (number : SessionOf s bytes a) (space : Word (32 ∷ []) a b) (l : Line) where
  word_line : (word : List ℕ) (x : Line) → (Numbered s (32 ∷ word) bytes [] → Fine bytes x) → Founds bytes l (only_word word x b)
  word_line word x fine e =
      let f = only_found word b x l e in
      subst (Fine bytes) f.1 (fine (numbered s bytes a b [] word number space f.0))

  until_found : until_at s b ≡ Some l → Fine bytes l
  unfolding until_at
  until_found e =
      let r = bind_some (word_at (codes "until ") b) (λ a. place_at a >>= λ place. Some (until s place)) l e in
      let p = bind_some (place_at r.0) (λ place. Some (until s place)) l r.2 in
      subst (Fine bytes) (some_is (until s p.0) l p.2) ((r.0, numbered s bytes a b r.0 (codes "until ") number space (word_found (codes "until ") b r.0 r.1), place_found r.0 p.0 p.1), tt)

  raw_found : raw_at s b ≡ Some l → Fine bytes l
  unfolding raw_at
  raw_found e =
      let r = bind_some (word_at (codes "raw ") b) (λ a. hex_at a >>= λ x. ended (raw s x.0) x.1) l e in
      let x = bind_some (hex_at r.0) (λ x. ended (raw s x.0) x.1) l r.2 in
      let f = ended_found (raw s (x.0).0) l (x.0).1 x.2 in
      subst (Fine bytes) f.1 ((r.0, numbered s bytes a b r.0 (codes "raw ") number space (word_found (codes "raw ") b r.0 r.1), subst (λ (rest : List ℕ). HexOf (x.0).0 r.0 rest) f.0 (hex_found r.0 x.0 x.1)), tt)

  -- behind the letter of a message
  module _ (letter : ℕ) (rest : List ℕ) (quotes : b ≡ 39 ∷ letter ∷ 39 ∷ rest) where
    at_letter : (k : ℕ) → letter ≡ k → Numbered s (32 ∷ 39 ∷ k ∷ 39 ∷ []) bytes rest
    at_letter k is = numbered s bytes a b rest (39 ∷ k ∷ 39 ∷ []) number space (quotes ∙ ap (λ (j : ℕ). 39 ∷ j ∷ 39 ∷ rest) is)

    done : (k : ℕ) (x : Line) → letter ≡ k → (Numbered s (32 ∷ 39 ∷ k ∷ 39 ∷ []) bytes [] → Fine bytes x) → Founds bytes l (ended x rest)
    done k x is fine e =
        let f = ended_found x l rest e in
        subst (Fine bytes) f.1 (fine (subst (λ (xs : List ℕ). Numbered s (32 ∷ 39 ∷ k ∷ 39 ∷ []) bytes xs) f.0 (at_letter k is)))

    -- the letter, and a space behind it
    spaced_letter : (k : ℕ) → letter ≡ k → (after : List ℕ) → Word (32 ∷ []) rest after → Numbered s (32 ∷ 39 ∷ k ∷ 39 ∷ 32 ∷ []) bytes after
    spaced_letter k is after w = numbered s bytes a b after (39 ∷ k ∷ 39 ∷ 32 ∷ []) number space (quotes ∙ ap₂ (λ (j : ℕ) (xs : List ℕ). 39 ∷ j ∷ 39 ∷ xs) is w)

    query_found : letter ≡ 81 → query_at s rest ≡ Some l → Fine bytes l
    unfolding query_at
    query_found is e =
        let t = bind_some (spaced_at string_at rest) (λ t. ended (query s t.0) t.1) l e in
        let f = ended_found (query s (t.0).0) l (t.0).1 t.2 in
        subst (Fine bytes) f.1 ((rest, at_letter 81 is, subst (λ (xs : List ℕ). Spaced StringOf (t.0).0 rest xs) f.0 ((good_text.found rest t.0 t.1).0)), tt)

    parse_found : letter ≡ 80 → parse_at s rest ≡ Some l → Fine bytes l
    unfolding parse_at
    parse_found is e =
        let name = bind_some (spaced_at string_at rest) (λ name. spaced_at string_at name.1 >>= λ text. counted_at (number_at 4294967295) text.1 >>= λ kinds. ended (parse s name.0 text.0 kinds.0) kinds.1) l e in
        let text = bind_some (spaced_at string_at (name.0).1) (λ text. counted_at (number_at 4294967295) text.1 >>= λ kinds. ended (parse s (name.0).0 text.0 kinds.0) kinds.1) l name.2 in
        let kinds = bind_some (counted_at (number_at 4294967295) (text.0).1) (λ kinds. ended (parse s (name.0).0 (text.0).0 kinds.0) kinds.1) l text.2 in
        let f = ended_found (parse s (name.0).0 (text.0).0 (kinds.0).0) l (kinds.0).1 kinds.2 in
        let g = (good_counted (good_number 4294967295)).found (text.0).1 kinds.0 kinds.1 in
        subst (Fine bytes) f.1 (
          (
            rest,
            (name.0).1,
            (text.0).1,
            at_letter 80 is,
            (good_text.found rest name.0 name.1).0,
            (good_text.found (name.0).1 text.0 text.1).0,
            subst (λ (xs : List ℕ). CountedOf NumberOf (kinds.0).0 (text.0).1 xs) f.0 g.0,
          ),
          g.1,
        )

    describe_found : letter ≡ 68 → describe_at s rest ≡ Some l → Fine bytes l
    unfolding describe_at
    describe_found is e =
        let target = bind_some (spaced_at target_at rest) (λ target. spaced_at string_at target.1 >>= λ name. ended (describe s target.0 name.0) name.1) l e in
        let name = bind_some (spaced_at string_at (target.0).1) (λ name. ended (describe s (target.0).0 name.0) name.1) l target.2 in
        let f = ended_found (describe s (target.0).0 (name.0).0) l (name.0).1 name.2 in
        let g = ((good_spaced good_target).found rest target.0 target.1).0 in
        subst (Fine bytes) f.1 ((g.0, (target.0).1, spaced_letter 68 is g.0 g.1, g.2, subst (λ (xs : List ℕ). Spaced StringOf (name.0).0 (target.0).1 xs) f.0 ((good_text.found (target.0).1 name.0 name.1).0)), tt)

    close_found : letter ≡ 67 → close_at s rest ≡ Some l → Fine bytes l
    unfolding close_at
    close_found is e =
        let target = bind_some (spaced_at target_at rest) (λ target. spaced_at string_at target.1 >>= λ name. ended (close s target.0 name.0) name.1) l e in
        let name = bind_some (spaced_at string_at (target.0).1) (λ name. ended (close s (target.0).0 name.0) name.1) l target.2 in
        let f = ended_found (close s (target.0).0 (name.0).0) l (name.0).1 name.2 in
        let g = ((good_spaced good_target).found rest target.0 target.1).0 in
        subst (Fine bytes) f.1 ((g.0, (target.0).1, spaced_letter 67 is g.0 g.1, g.2, subst (λ (xs : List ℕ). Spaced StringOf (name.0).0 (target.0).1 xs) f.0 ((good_text.found (target.0).1 name.0 name.1).0)), tt)

    execute_found : letter ≡ 69 → execute_at s rest ≡ Some l → Fine bytes l
    unfolding execute_at
    execute_found is e =
        let portal = bind_some (spaced_at string_at rest) (λ portal. spaced_at limit_at portal.1 >>= λ limit. ended (execute s portal.0 limit.0) limit.1) l e in
        let limit = bind_some (spaced_at limit_at (portal.0).1) (λ limit. ended (execute s (portal.0).0 limit.0) limit.1) l portal.2 in
        let f = ended_found (execute s (portal.0).0 (limit.0).0) l (limit.0).1 limit.2 in
        let g = ((good_spaced good_limit).found (portal.0).1 limit.0 limit.1).0 in
        subst (Fine bytes) f.1
        ((rest, (portal.0).1, at_letter 69 is, (good_text.found rest portal.0 portal.1).0, subst (λ (xs : List ℕ). Spaced LimitOf (limit.0).0 (portal.0).1 xs) f.0 g), tt)

    bind_found : letter ≡ 66 → bind_at s rest ≡ Some l → Fine bytes l
    unfolding bind_at
    bind_found is e =
        let portal = bind_some (spaced_at string_at rest) (λ portal. spaced_at string_at portal.1 >>= λ name. counted_at (number_at 65535) name.1 >>= λ formats. counted_at value_at formats.1 >>= λ values. counted_at (number_at 65535) values.1 >>= λ results. ended (bind s portal.0 name.0 formats.0 values.0 results.0) results.1) l e in
        let name = bind_some (spaced_at string_at (portal.0).1) (λ name. counted_at (number_at 65535) name.1 >>= λ formats. counted_at value_at formats.1 >>= λ values. counted_at (number_at 65535) values.1 >>= λ results. ended (bind s (portal.0).0 name.0 formats.0 values.0 results.0) results.1) l portal.2 in
        let formats = bind_some (counted_at (number_at 65535) (name.0).1) (λ formats. counted_at value_at formats.1 >>= λ values. counted_at (number_at 65535) values.1 >>= λ results. ended (bind s (portal.0).0 (name.0).0 formats.0 values.0 results.0) results.1) l name.2 in
        let values = bind_some (counted_at value_at (formats.0).1) (λ values. counted_at (number_at 65535) values.1 >>= λ results. ended (bind s (portal.0).0 (name.0).0 (formats.0).0 values.0 results.0) results.1) l formats.2 in
        let results = bind_some (counted_at (number_at 65535) (values.0).1) (λ results. ended (bind s (portal.0).0 (name.0).0 (formats.0).0 (values.0).0 results.0) results.1) l values.2 in
        let f = ended_found (bind s (portal.0).0 (name.0).0 (formats.0).0 (values.0).0 (results.0).0) l (results.0).1 results.2 in
        let g = (good_counted (good_number 65535)).found (name.0).1 formats.0 formats.1 in
        let v = (good_counted good_value).found (formats.0).1 values.0 values.1 in
        let h = (good_counted (good_number 65535)).found (values.0).1 results.0 results.1 in
        subst (Fine bytes) f.1 (
          (
            rest,
            (portal.0).1,
            (name.0).1,
            (formats.0).1,
            (values.0).1,
            at_letter 66 is,
            (good_text.found rest portal.0 portal.1).0,
            (good_text.found (portal.0).1 name.0 name.1).0,
            g.0,
            v.0,
            subst (λ (xs : List ℕ). CountedOf NumberOf (results.0).0 (values.0).1 xs) f.0 h.0,
          ),
          (g.1, (v.1).0, h.1),
        )

    by_letter : Founds bytes l (message_of_letter s letter rest)
    unfolding message_of_letter
    by_letter =
        under (Founds bytes l) (letter == 81) _ _ (λ e. query_found (is_at letter 81 e))
        (under (Founds bytes l) (letter == 80) _ _ (λ e. parse_found (is_at letter 80 e))
        (under (Founds bytes l) (letter == 66) _ _ (λ e. bind_found (is_at letter 66 e))
        (under (Founds bytes l) (letter == 68) _ _ (λ e. describe_found (is_at letter 68 e))
        (under (Founds bytes l) (letter == 69) _ _ (λ e. execute_found (is_at letter 69 e))
        (under (Founds bytes l) (letter == 67) _ _ (λ e. close_found (is_at letter 67 e))
        (under (Founds bytes l) (letter == 72) _ _ (λ e. done 72 (flush s) (is_at letter 72 e) (λ n. (n, tt)))
        (under (Founds bytes l) (letter == 83) _ _ (λ e. done 83 (sync s) (is_at letter 83 e) (λ n. (n, tt)))
        (under (Founds bytes l) (letter == 88) _ _ (λ e. done 88 (terminate s) (is_at letter 88 e) (λ n. (n, tt)))
        (λ e. absurd (cc))))))))))

  message_found : message_at s b ≡ Some l → Fine bytes l
  unfolding message_at
  message_found e =
      let r = bind_some (letter_at b) (λ x. message_of_letter s x.0 x.1) l e in
      by_letter (r.0).0 (r.0).1 (letter_found b r.0 r.1) r.2

  order_found : Founds bytes l (order_at s b)
  unfolding order_at
  order_found =
      either (Founds bytes l) (front b == 39) _ _ message_found
      (either (Founds bytes l) (front b == 104) _ _ (word_line (codes "hold") (hold s) (λ n. (n, tt)))
      (either (Founds bytes l) (front b == 103) _ _ (word_line (codes "go") (go s) (λ n. (n, tt)))
      (either (Founds bytes l) (front b == 117) _ _ until_found raw_found)))

numbered_found : (bytes : List ℕ) (l : Line) → numbered_at bytes ≡ Some l → Fine bytes l
unfolding numbered_at
numbered_found bytes l e =
    let s = bind_some (session_at bytes) (λ s. word_at (codes " ") s.1 >>= λ a. order_at s.0 a) l e in
    let a = bind_some (word_at (codes " ") (s.0).1) (λ a. order_at (s.0).0 a) l s.2 in
    order_found (s.0).0 bytes (s.0).1 a.0 ((good_session.found bytes s.0 s.1).0) (word_found (codes " ") (s.0).1 a.0 a.1) l a.2

pub line_found : (bytes : List ℕ) (l : Line) → line_at bytes ≡ Some l → Fine bytes l
unfolding line_at
line_found bytes l e =
    either (Founds bytes l) (front bytes == 115) _ _ (session_line_found bytes l)
    (either (Founds bytes l) (front bytes == 108) _ _ (lose_line_found bytes l)
    (either (Founds bytes l) (front bytes == 99) _ _ (cut_line_found bytes l)
    (either (Founds bytes l) (front bytes == 109) _ _ (moment_line_found bytes l) (numbered_found bytes l)))) e
