-- Lexemes that may be written, as they are written and spaced: which token each is read as.
use Rattle.std.proofs.Common.{◌≡◌, ◌==◌, ◌&&◌, ◌||◌, not, ℕ, zero, suc, Bool, true, false, List, [], ◌∷◌, ◌++◌, length, refl, sym, if◌then◌else◌, arith}
use Rattle.std.proofs.lemmas.Bool.{true≢false, not-true, and_parts}
use Rattle.std.specs.List.{list_all}
use Rattle.sql_tokens.specs.declared.bytes.Class.TheVariants as classes
use Rattle.sql_tokens.specs.declared.mark.Mark.{Mark}
use Rattle.sql_tokens.specs.declared.mark.Mark.TheVariants as marks
use Rattle.sql_tokens.specs.declared.piece.Piece.TheVariants.{Token}
use Rattle.sql_tokens.specs.declared.token.Token.{Token as AnyToken}
use Rattle.sql_tokens.specs.declared.token.Token.TheVariants.{Mark as MarkToken}
use Rattle.sql_tokens.specs.Bytes.{begins_with, begins_digit}
use Rattle.sql_tokens.specs.Pieces.{PieceOf, name_token, param_token}
use Rattle.sql_tokens.specs.Tokens.{TokenOf}
use Rattle.sql_print.specs.Spelling.{Lexeme, word, mark, sign, name, function, command, whole, string, param, is_plain, is_reserved, begins_plain, goes_on_plain, in_quotes, mark_text, spelled, mark_holds, holds, clings, spaced}
use Rattle.sql_profile.specs.Lexemes.{token_of}
use Rattle.sql_profile.proofs.Runs.{Stops, IsCalm, calm_name, calm_ordinary, calm_no_digit, begins_other, whole_piece, param_piece, decimal_apart}
use Rattle.sql_profile.proofs.NamesAgain.{word_piece, plain_piece, command_piece, plain_no_digit, word_apart, plain_apart, command_apart}
use Rattle.sql_profile.proofs.Quoted.{string_piece, quoted_piece}
use Rattle.sql_profile.proofs.Marks.{open_piece, minus_piece, dot_piece, mark_piece}
use Rattle.sql_profile.proofs.Spaced.{first_is, is_dot, is_open, is_name, is_no_minus, FollowsMark, Follows}
use Rattle.sql_profile.specs.Writable.{IsWritable, AreWritable}
use Rattle.sql_profile.proofs.NamesWithin.{plain_written}

-- the token that it is read as: a fault where its length or its number passes a limit
abbrev pub written_token : Lexeme → AnyToken
written_token (name text) = name_token text (not (is_plain text))
written_token (param number) = param_token number
written_token x = token_of x

-- ---- the bytes behind a lexeme

calm_spaced : (xs : List Lexeme) → IsCalm (spaced false xs)
calm_spaced [] = tt
calm_spaced (mark marks.Close ∷ xs) = refl
calm_spaced (_ ∷ xs) = refl

no_point : (xs : List Lexeme) → first_is is_dot xs ≡ false → begins_with 46 (spaced false xs) ≡ false
no_point [] e = refl
no_point (mark marks.Dot ∷ xs) e = absurd (true≢false e)
no_point (_ ∷ xs) e = refl

open_stops : (xs : List Lexeme) → first_is is_open xs ≡ true → Stops classes.Name (spaced true xs)
open_stops [] e = absurd (true≢false (sym e))
open_stops (mark marks.Open ∷ xs) e = refl
open_stops (_ ∷ xs) e = absurd (true≢false (sym e))

apart : (bytes more : List ℕ) → begins_other 45 bytes ≡ true → begins_with 45 (bytes ++ more) ≡ false
apart [] more e = absurd (true≢false (sym e))
apart (b ∷ bytes) more e = not-true (b == 45) e

name_apart : (text : List ℕ) → begins_other 45 (spelled (name text)) ≡ true
name_apart text = go (is_plain text) refl
  where
    go : (t : Bool) → is_plain text ≡ t → begins_other 45 (if t then text else in_quotes 34 text) ≡ true
    go true e = plain_apart text e
    go false e = refl

mark_apart : (m : Mark) → is_no_minus (mark m) ≡ true → begins_other 45 (mark_text m) ≡ true
mark_apart marks.Minus e = absurd (true≢false (sym e))
mark_apart _ e = refl

-- what is no minus does not begin with its byte
lexeme_apart : (x : Lexeme) → IsWritable x → is_no_minus x ≡ true → begins_other 45 (spelled x) ≡ true
lexeme_apart (word w) is e = word_apart w
lexeme_apart (mark m) is e = mark_apart m e
lexeme_apart sign is e = absurd (true≢false (sym e))
lexeme_apart (name text) is e = name_apart text
lexeme_apart (function text) is e = plain_apart text is.0
lexeme_apart (command text) is e = command_apart text is.0
lexeme_apart (whole n) is e = decimal_apart n (omega arith)
lexeme_apart (string text) is e = refl
lexeme_apart (param n) is e = refl

no_minus : (xs : List Lexeme) → AreWritable xs → first_is is_no_minus xs ≡ true → begins_with 45 (spaced true xs) ≡ false
no_minus [] all e = absurd (true≢false (sym e))
no_minus (x ∷ xs) all e = apart (spelled x) (spaced (holds x) xs) (lexeme_apart x all.0 e)

name_no_digit : (text more : List ℕ) → begins_digit (spelled (name text) ++ more) ≡ false
name_no_digit text more = go (is_plain text) refl
  where
    plain : (text : List ℕ) → is_plain text ≡ true → begins_digit (text ++ more) ≡ false
    plain [] e = absurd (true≢false (sym e))
    plain (b ∷ bytes) e = plain_no_digit b (and_parts (begins_plain b) (list_all goes_on_plain bytes && not (is_reserved (b ∷ bytes))) e).0

    go : (t : Bool) → is_plain text ≡ t → begins_digit ((if t then text else in_quotes 34 text) ++ more) ≡ false
    go true e = plain text e
    go false e = refl

dot_no_digit : (xs : List Lexeme) → first_is is_name xs ≡ true → begins_digit (spaced true xs) ≡ false
dot_no_digit [] e = absurd (true≢false (sym e))
dot_no_digit (name text ∷ xs) e = name_no_digit text (spaced false xs)
dot_no_digit (_ ∷ xs) e = absurd (true≢false (sym e))

-- ---- one lexeme

name_written : (text rest : List ℕ) → IsWritable (name text) → IsCalm rest → PieceOf (spelled (name text) ++ rest) (Token (written_token (name text))) rest
name_written text rest is calm = go (is_plain text) refl
  where
    quoted : (text : List ℕ) → IsWritable (name text) → PieceOf (in_quotes 34 text ++ rest) (Token (name_token text true)) rest
    quoted [] is = absurd (omega (arith, is.0))
    quoted (b ∷ bytes) is = quoted_piece (b ∷ bytes) rest is.1 (calm_ordinary rest calm).0

    go : (t : Bool) → is_plain text ≡ t → PieceOf ((if t then text else in_quotes 34 text) ++ rest) (Token (name_token text (not t))) rest
    go true e = plain_written text rest e (calm_name rest calm)
    go false e = quoted text is

mark_at : (m : Mark) (xs : List Lexeme) → FollowsMark m xs
    → PieceOf (mark_text m ++ spaced (mark_holds m) xs) (Token (MarkToken m)) (spaced (mark_holds m) xs)
mark_at marks.Open xs follows = open_piece (spaced true xs)
mark_at marks.Dot xs follows = dot_piece (spaced true xs) (dot_no_digit xs follows)
mark_at m xs follows = mark_piece m (spaced false xs) (calm_spaced xs) (calm_no_digit (spaced false xs) (calm_spaced xs))

written_piece : (x : Lexeme) (xs : List Lexeme) → IsWritable x → AreWritable xs → Follows x xs
    → PieceOf (spelled x ++ spaced (holds x) xs) (Token (written_token x)) (spaced (holds x) xs)
written_piece (word w) xs is all follows = word_piece w (spaced false xs) (calm_name (spaced false xs) (calm_spaced xs))
written_piece (mark m) xs is all follows = mark_at m xs follows
written_piece sign xs is all follows = minus_piece (spaced true xs) (no_minus xs all follows)
written_piece (name text) xs is all follows = name_written text (spaced false xs) is (calm_spaced xs)
written_piece (function text) xs is all follows = plain_piece text (spaced true xs) is.0 is.1 (open_stops xs follows)
written_piece (command text) xs is all follows = command_piece text (spaced false xs) is.0 is.1 (calm_name (spaced false xs) (calm_spaced xs))
written_piece (whole n) xs is all follows = whole_piece n (spaced false xs) (omega arith) (calm_spaced xs) (no_point xs follows)
written_piece (string text) xs is all follows = string_piece text (spaced false xs) is (calm_ordinary (spaced false xs) (calm_spaced xs)).1
written_piece (param n) xs is all follows = param_piece n (spaced false xs) is.1 (calm_spaced xs)

-- behind the space before it
pub written_at : (held : Bool) (x : Lexeme) (xs : List Lexeme) → IsWritable x → AreWritable xs → Follows x xs
    → TokenOf (spaced held (x ∷ xs)) (written_token x) (spelled x ++ spaced (holds x) xs) (spaced (holds x) xs)
written_at held x xs is all follows = go (held || clings x)
  where
    piece : PieceOf (spelled x ++ spaced (holds x) xs) (Token (written_token x)) (spaced (holds x) xs)
    piece = written_piece x xs is all follows

    go : (t : Bool) → TokenOf ((if t then [] else 32 ∷ []) ++ (spelled x ++ spaced (holds x) xs)) (written_token x) (spelled x ++ spaced (holds x) xs) (spaced (holds x) xs)
    go true = (zero, refl, piece)
    go false = (suc zero, (spelled x ++ spaced (holds x) xs, (refl, refl), refl), piece)
