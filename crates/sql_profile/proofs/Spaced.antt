-- Lexemes, as they are written and spaced, are read back one after the other.
use Rattle.std.proofs.Common.{◌≡◌, ◌∙◌, ◌==◌, ◌||◌, ◌&&◌, ◌<◌, ◌≤◌, ◌+◌, ◌-◌, ◌^◌, not, ℕ, zero, suc, pos, Bool, true, false, List, [], ◌∷◌, ◌++◌, length, map, refl, sym, ap, subst, if◌then◌else◌, length-append, le_refl, arith}
use Rattle.std.specs.Prelude.{nat_lt, nat_le}
use Rattle.std.proofs.lemmas.Bool.{true≢false, not-true, ltb-false, eqb-false, eqb-true, cond-true, cond-false, ne_eqb, le-leb, and_parts}
use Rattle.std.specs.Fmt.{decimal}
use Rattle.std.specs.List.{list_all}
use Rattle.sql_tokens.specs.declared.bytes.Class.TheVariants as classes
use Rattle.sql_tokens.specs.declared.mark.Mark.{Mark}
use Rattle.sql_tokens.specs.declared.mark.Mark.TheVariants as marks
use Rattle.sql_tokens.specs.declared.piece.Piece.TheVariants.{Token}
use Rattle.sql_tokens.specs.declared.token.Placed.{Placed}
use Rattle.sql_tokens.specs.declared.token.Token.{Token as AnyToken}
use Rattle.sql_tokens.specs.declared.token.Token.TheVariants.{Name as NameToken, Number, Least, Param, Fault, Mark as MarkToken}
use Rattle.sql_tokens.specs.declared.token.TokenFault.TheVariants.{OutOfRange, Bad, LargeParam}
use Rattle.sql_tokens.specs.Bytes.{begins_with, begins_digit, has}
use Rattle.sql_tokens.specs.Pieces.{PieceOf, whole_token, param_token, quoted_name}
use Rattle.sql_tokens.specs.Tokens.{TokenOf, TokensFrom, TokensOf, read_behind}
use Rattle.sql_print.specs.Spelling.{Lexeme, word, mark, sign, name, function, command, whole, string, param, is_plain, is_reserved, begins_plain, goes_on_plain, in_quotes, mark_text, spelled, mark_holds, holds, clings, spaced, text_of}
use Rattle.sql_profile.specs.Lexemes.{token_of, HasNoZero, IsLexeme, AreLexemes}
use Rattle.sql_profile.proofs.Runs.{Stops, IsCalm, calm_name, calm_ordinary, calm_no_digit, begins_other, whole_piece, param_piece, decimal_apart}
use Rattle.sql_profile.proofs.NamesAgain.{word_piece, plain_piece, command_piece, short_name, plain_no_digit, word_apart, plain_apart, command_apart}
use Rattle.sql_profile.proofs.Quoted.{string_piece, quoted_piece}
use Rattle.sql_profile.proofs.Marks.{open_piece, minus_piece, dot_piece, mark_piece}

-- ---- what may stand behind a lexeme

abbrev pub first_is : (Lexeme → Bool) → List Lexeme → Bool
first_is test [] = false
first_is test (x ∷ xs) = test x

abbrev pub is_dot : Lexeme → Bool
is_dot (mark marks.Dot) = true
is_dot _ = false

abbrev pub is_open : Lexeme → Bool
is_open (mark marks.Open) = true
is_open _ = false

abbrev pub is_name : Lexeme → Bool
is_name (name text) = true
is_name _ = false

abbrev pub is_no_minus : Lexeme → Bool
is_no_minus (mark marks.Minus) = false
is_no_minus sign = false
is_no_minus _ = true

abbrev pub FollowsMark : Mark → List Lexeme → Type 0
FollowsMark marks.Dot xs = first_is is_name xs ≡ true
FollowsMark _ xs = Unit {0}

-- behind `.` stands a name, behind a function its `(`, behind a minus in front of its operand no
-- minus, behind a number no `.`
abbrev pub Follows : Lexeme → List Lexeme → Type 0
Follows (mark m) xs = FollowsMark m xs
Follows sign xs = first_is is_no_minus xs ≡ true
Follows (function text) xs = first_is is_open xs ≡ true
Follows (whole number) xs = first_is is_dot xs ≡ false
Follows _ xs = Unit {0}

abbrev pub Flows : List Lexeme → Type 0
Flows [] = Unit {0}
Flows (x ∷ xs) = Follows x xs × Flows xs

-- ---- the bytes behind a lexeme

calm_spaced : (xs : List Lexeme) → IsCalm (spaced false xs)
calm_spaced [] = tt
calm_spaced (mark marks.Close ∷ xs) = refl
calm_spaced (_ ∷ xs) = refl

no_point : (xs : List Lexeme) → first_is is_dot xs ≡ false → begins_with 46 (spaced false xs) ≡ false
no_point [] e = refl
no_point (mark marks.Dot ∷ xs) e = absurd (true≢false e)
no_point (_ ∷ xs) e = refl

open_stops : (xs : List Lexeme) → first_is is_open xs ≡ true → Stops classes.Name (spaced true xs)
open_stops [] e = absurd (true≢false (sym e))
open_stops (mark marks.Open ∷ xs) e = refl
open_stops (_ ∷ xs) e = absurd (true≢false (sym e))

apart : (bytes more : List ℕ) → begins_other 45 bytes ≡ true → begins_with 45 (bytes ++ more) ≡ false
apart [] more e = absurd (true≢false (sym e))
apart (b ∷ bytes) more e = not-true (b == 45) e

name_apart : (text : List ℕ) → begins_other 45 (spelled (name text)) ≡ true
name_apart text = go (is_plain text) refl
  where
    go : (t : Bool) → is_plain text ≡ t → begins_other 45 (if t then text else in_quotes 34 text) ≡ true
    go true e = plain_apart text e
    go false e = refl

mark_apart : (m : Mark) → is_no_minus (mark m) ≡ true → begins_other 45 (mark_text m) ≡ true
mark_apart marks.Minus e = absurd (true≢false (sym e))
mark_apart _ e = refl

-- what is no minus does not begin with its byte
lexeme_apart : (x : Lexeme) → IsLexeme x → is_no_minus x ≡ true → begins_other 45 (spelled x) ≡ true
lexeme_apart (word w) is e = word_apart w
lexeme_apart (mark m) is e = mark_apart m e
lexeme_apart sign is e = absurd (true≢false (sym e))
lexeme_apart (name text) is e = name_apart text
lexeme_apart (function text) is e = plain_apart text is.0
lexeme_apart (command text) is e = command_apart text is.0
lexeme_apart (whole n) is e = decimal_apart n (omega arith)
lexeme_apart (string text) is e = refl
lexeme_apart (param n) is e = refl

no_minus : (xs : List Lexeme) → AreLexemes xs → first_is is_no_minus xs ≡ true → begins_with 45 (spaced true xs) ≡ false
no_minus [] all e = absurd (true≢false (sym e))
no_minus (x ∷ xs) all e = apart (spelled x) (spaced (holds x) xs) (lexeme_apart x all.0 e)

name_no_digit : (text more : List ℕ) → begins_digit (spelled (name text) ++ more) ≡ false
name_no_digit text more = go (is_plain text) refl
  where
    plain : (text : List ℕ) → is_plain text ≡ true → begins_digit (text ++ more) ≡ false
    plain [] e = absurd (true≢false (sym e))
    plain (b ∷ bytes) e = plain_no_digit b (and_parts (begins_plain b) (list_all goes_on_plain bytes && not (is_reserved (b ∷ bytes))) e).0

    go : (t : Bool) → is_plain text ≡ t → begins_digit ((if t then text else in_quotes 34 text) ++ more) ≡ false
    go true e = plain text e
    go false e = refl

dot_no_digit : (xs : List Lexeme) → first_is is_name xs ≡ true → begins_digit (spaced true xs) ≡ false
dot_no_digit [] e = absurd (true≢false (sym e))
dot_no_digit (name text ∷ xs) e = name_no_digit text (spaced false xs)
dot_no_digit (_ ∷ xs) e = absurd (true≢false (sym e))

-- ---- one lexeme

name_piece : (text rest : List ℕ) → IsLexeme (name text) → IsCalm rest → PieceOf (spelled (name text) ++ rest) (Token (token_of (name text))) rest
name_piece text rest is calm = go (is_plain text) refl
  where
    quoted : (text : List ℕ) → IsLexeme (name text) → PieceOf (in_quotes 34 text ++ rest) (Token (NameToken (record { text = text; quoted = true }))) rest
    quoted [] is = absurd (omega arith)
    quoted (b ∷ bytes) is =
        subst (λ (t : AnyToken). PieceOf (in_quotes 34 (b ∷ bytes) ++ rest) (Token t) rest) (short_name (b ∷ bytes) true is.1)
        (quoted_piece (b ∷ bytes) rest is.2 (calm_ordinary rest calm).0)

    go : (t : Bool) → is_plain text ≡ t
        → PieceOf ((if t then text else in_quotes 34 text) ++ rest) (Token (NameToken (record { text = text; quoted = not t }))) rest
    go true e = plain_piece text rest e is.1 (calm_name rest calm)
    go false e = quoted text is

param_is : (n : ℕ) → 1 ≤ n → n ≤ 1000 → param_token n ≡ Param n
param_is n low high =
    cond-false (n == 0) (Fault Bad) (if nat_le n 1000 then Param n else Fault LargeParam) (ne_eqb n 0 (λ e. absurd (omega arith)))
    ∙ cond-true (nat_le n 1000) (Param n) (Fault LargeParam) (le-leb n 1000 high)

mark_at : (m : Mark) (xs : List Lexeme) → FollowsMark m xs
    → PieceOf (mark_text m ++ spaced (mark_holds m) xs) (Token (MarkToken m)) (spaced (mark_holds m) xs)
mark_at marks.Open xs follows = open_piece (spaced true xs)
mark_at marks.Dot xs follows = dot_piece (spaced true xs) (dot_no_digit xs follows)
mark_at m xs follows = mark_piece m (spaced false xs) (calm_spaced xs) (calm_no_digit (spaced false xs) (calm_spaced xs))

lexeme_piece : (x : Lexeme) (xs : List Lexeme) → IsLexeme x → AreLexemes xs → Follows x xs
    → PieceOf (spelled x ++ spaced (holds x) xs) (Token (token_of x)) (spaced (holds x) xs)
lexeme_piece (word w) xs is all follows = word_piece w (spaced false xs) (calm_name (spaced false xs) (calm_spaced xs))
lexeme_piece (mark m) xs is all follows = mark_at m xs follows
lexeme_piece sign xs is all follows = minus_piece (spaced true xs) (no_minus xs all follows)
lexeme_piece (name text) xs is all follows = name_piece text (spaced false xs) is (calm_spaced xs)
lexeme_piece (function text) xs is all follows = plain_piece text (spaced true xs) is.0 is.1 (open_stops xs follows)
lexeme_piece (command text) xs is all follows = command_piece text (spaced false xs) is.0 is.1 (calm_name (spaced false xs) (calm_spaced xs))
lexeme_piece (whole n) xs is all follows = whole_piece n (spaced false xs) (omega arith) (calm_spaced xs) (no_point xs follows)
lexeme_piece (string text) xs is all follows = string_piece text (spaced false xs) is (calm_ordinary (spaced false xs) (calm_spaced xs)).1
lexeme_piece (param n) xs is all follows =
    subst (λ (t : AnyToken). PieceOf (36 ∷ (decimal n ++ spaced false xs)) (Token t) (spaced false xs)) (param_is n is.0 is.1)
    (param_piece n (spaced false xs) (omega arith) (calm_spaced xs))

-- ---- all of them

spaced_token : (held : Bool) (x : Lexeme) (xs : List Lexeme) → IsLexeme x → AreLexemes xs → Follows x xs
    → TokenOf (spaced held (x ∷ xs)) (token_of x) (spelled x ++ spaced (holds x) xs) (spaced (holds x) xs)
spaced_token held x xs is all follows = go (held || clings x)
  where
    piece : PieceOf (spelled x ++ spaced (holds x) xs) (Token (token_of x)) (spaced (holds x) xs)
    piece = lexeme_piece x xs is all follows

    go : (t : Bool) → TokenOf ((if t then [] else 32 ∷ []) ++ (spelled x ++ spaced (holds x) xs)) (token_of x) (spelled x ++ spaced (holds x) xs) (spaced (holds x) xs)
    go true = (zero, refl, piece)
    go false = (suc zero, (spelled x ++ spaced (holds x) xs, (refl, refl), refl), piece)

-- no lexeme is a fault
goes_on : (x : Lexeme) → IsLexeme x → (after : List ℕ) → read_behind (token_of x) after ≡ after
goes_on (whole n) is after = go (nat_lt n (2 ^ 63)) (n == 2 ^ 63) refl refl
  where
    go : (t u : Bool) → nat_lt n (2 ^ 63) ≡ t → (n == 2 ^ 63) ≡ u
        → read_behind (if t then Number (pos n) else if u then Least else Fault OutOfRange) after ≡ after
    go true u e f = refl
    go false true e f = refl
    go false false e f = absurd (eqb-false n (2 ^ 63) f (let above = ltb-false n (2 ^ 63) e in omega arith))
goes_on _ is after = refl

start_short : (t : Bool) (start : List ℕ) → length start ≤ length ((if t then [] else 32 ∷ []) ++ start)
start_short true start = le_refl (length start)
start_short false start = omega arith

placed_tokens : (size room : ℕ) (held : Bool) (xs : List Lexeme) → AreLexemes xs → Flows xs → length (spaced held xs) ≤ size → length xs ≤ room
    → (placed : List Placed) × (map (λ (p : Placed). p.token) placed ≡ map token_of xs) × TokensFrom size room (spaced held xs) placed
placed_tokens size room held [] all flows short few = ([], refl, (zero, refl))
placed_tokens size zero held (x ∷ xs) all flows short few = absurd (omega arith)
placed_tokens size (suc room) held (x ∷ xs) all flows short few =
    let after = spaced (holds x) xs in
    let start = spelled x ++ after in
    let long = length-append (spelled x) after in
    let above = start_short (held || clings x) start in
    let others = placed_tokens size room (holds x) xs all.1 flows.1 (omega arith) (omega arith) in (
      record { token = token_of x; place = size - length start } ∷ others.0,
      ap (λ (ts : List AnyToken). token_of x ∷ ts) others.1,
      (
        start,
        after,
        spaced_token held x xs all.0 all.1 flows.0,
        omega arith,
        subst (λ (bytes : List ℕ). TokensFrom size room bytes others.0) (sym (goes_on x all.0 after)) others.2,
      ),
    )

-- the tokens of a text of lexemes
pub text_tokens : (xs : List Lexeme) → AreLexemes xs → Flows xs → length xs ≤ 65536
    → (placed : List Placed) × (map (λ (p : Placed). p.token) placed ≡ map token_of xs) × TokensOf (text_of xs) placed
unfolding TokensOf
text_tokens xs all flows few = placed_tokens (length (text_of xs)) 65536 true xs all flows (le_refl (length (text_of xs))) few
