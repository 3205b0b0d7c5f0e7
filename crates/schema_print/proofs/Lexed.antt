-- Each part of a printed schema is read as its tokens, in front of what may follow it.
use Rattle.std.proofs.Common.{◌≡◌, ◌∙◌, ◌<◌, ◌≤◌, ◌^◌, ◌+◌, ◌-◌, not, ℕ, zero, suc, ℤ, pos, negsuc, Bool as Truth, true, false, List, [], ◌∷◌, ◌++◌, length, map, refl, sym, ap, subst, if◌then◌else◌, inl, inr, append_assoc, arith}
use Rattle.std.specs.Prelude.{codes, MatchBool}
use Rattle.std.specs.Fmt.{decimal}
use Rattle.std.specs.Char.{to_ascii_uppercase}
use Rattle.sql_tokens.specs.declared.bytes.Class.TheVariants as classes
use Rattle.sql_tokens.specs.declared.mark.Mark.{Mark as AnyMark}
use Rattle.sql_tokens.specs.declared.mark.Mark.TheVariants as marks
use Rattle.sql_tokens.specs.declared.piece.Piece.TheVariants.{Token}
use Rattle.sql_tokens.specs.declared.token.Token.{Token as AnyToken}
use Rattle.sql_tokens.specs.declared.token.Token.TheVariants as token
use Rattle.sql_tokens.specs.declared.word.Word.{Word as AnyWord}
use Rattle.sql_tokens.specs.declared.word.Word.TheVariants as words
use Rattle.sql_tokens.specs.Bytes.{begins_with, behind}
use Rattle.sql_tokens.specs.Pieces.{PieceOf, MinusOf, Reads, Skips}
use Rattle.sql_tokens.specs.Words.{spelling}
use Rattle.sql_print.specs.Spelling.{is_plain, in_quotes, spelled, name, string}
use Rattle.schema.specs.Allowed.{HasNoZero, IsName}
use Rattle.schema_print.proofs.Runs.{Stops, IsCalm, calm_name, calm_double, calm_quote, whole_piece, decimal_apart}
use Rattle.schema_print.proofs.Names.{word_piece, plain_piece, type_word_piece, short_name}
use Rattle.schema_print.proofs.Quoted.{string_piece, quoted_piece}
use Rattle.schema_print.proofs.Tokens.{AreRead, token_read, space_read}

-- a word in upper case
pub word_read : (w : AnyWord) (rest : List ℕ) (tokens : List AnyToken) → Stops classes.Name rest → AreRead rest tokens
    → AreRead (map to_ascii_uppercase (spelling w) ++ rest) (token.Word w ∷ tokens)
word_read w rest tokens stop others = token_read (map to_ascii_uppercase (spelling w)) rest (token.Word w) tokens (λ _. refl) (word_piece w rest stop) others

-- a space, and then a word
pub spaced_word : (w : AnyWord) (rest : List ℕ) (tokens : List AnyToken) → Stops classes.Name rest → AreRead rest tokens
    → AreRead (32 ∷ (map to_ascii_uppercase (spelling w) ++ rest)) (token.Word w ∷ tokens)
spaced_word w rest tokens stop others = space_read (map to_ascii_uppercase (spelling w) ++ rest) (token.Word w ∷ tokens) (word_read w rest tokens stop others)

-- TIMESTAMPTZ, in lower case
pub type_word_read : (rest : List ℕ) (tokens : List AnyToken) → Stops classes.Name rest → AreRead rest tokens
    → AreRead (codes "timestamptz" ++ rest) (token.Word words.Timestamptz ∷ tokens)
type_word_read rest tokens stop others = token_read (codes "timestamptz") rest (token.Word words.Timestamptz) tokens (λ _. refl) (type_word_piece rest stop) others

-- the token of a name
abbrev pub name_of : List ℕ → AnyToken
name_of text = token.Name (record { text = text; quoted = not (is_plain text) })

-- the token of a name that stands without quotes
abbrev pub bare_name : List ℕ → AnyToken
bare_name text = token.Name (record { text = text; quoted = false })

pub bare_read : (text rest : List ℕ) (tokens : List AnyToken) → is_plain text ≡ true → length text ≤ 63 → Stops classes.Name rest → AreRead rest tokens
    → AreRead (text ++ rest) (bare_name text ∷ tokens)
bare_read text rest tokens plain short stop others = token_read text rest (bare_name text) tokens (λ _. refl) (plain_piece text rest plain short stop) others

name_piece : (text rest : List ℕ) → IsName text → IsCalm rest → PieceOf (spelled (name text) ++ rest) (Token (name_of text)) rest
name_piece text rest is calm = go (is_plain text) refl
  where
    quoted : (text : List ℕ) → IsName text → PieceOf (in_quotes 34 text ++ rest) (Token (token.Name (record { text = text; quoted = true }))) rest
    quoted [] is = absurd (omega arith)
    quoted (b ∷ bytes) is =
        subst (λ (t : AnyToken). PieceOf (in_quotes 34 (b ∷ bytes) ++ rest) (Token t) rest) (short_name (b ∷ bytes) true is.1)
        (quoted_piece (b ∷ bytes) rest is.2 (calm_double rest calm))

    go : (t : Truth) → is_plain text ≡ t
        → PieceOf ((if t then text else in_quotes 34 text) ++ rest) (Token (token.Name (record { text = text; quoted = not t }))) rest
    go true e = plain_piece text rest e is.1 (calm_name rest calm)
    go false e = quoted text is

pub name_read : (text rest : List ℕ) (tokens : List AnyToken) → IsName text → IsCalm rest → AreRead rest tokens
    → AreRead (spelled (name text) ++ rest) (name_of text ∷ tokens)
name_read text rest tokens is calm others = token_read (spelled (name text)) rest (name_of text) tokens (λ _. refl) (name_piece text rest is calm) others

pub string_read : (text rest : List ℕ) (tokens : List AnyToken) → HasNoZero text → IsCalm rest → AreRead rest tokens
    → AreRead (spelled (string text) ++ rest) (token.Str text ∷ tokens)
string_read text rest tokens is calm others =
    token_read (spelled (string text)) rest (token.Str text) tokens (λ _. refl) (string_piece text rest is (calm_quote rest calm)) others

-- a mark that is one byte whatever follows it
pub open_read : (rest : List ℕ) (tokens : List AnyToken) → AreRead rest tokens → AreRead (40 ∷ rest) (token.Mark marks.Open ∷ tokens)
open_read rest tokens others = token_read (40 ∷ []) rest (token.Mark marks.Open) tokens (λ _. refl) (refl, refl) others

pub close_read : (rest : List ℕ) (tokens : List AnyToken) → AreRead rest tokens → AreRead (41 ∷ rest) (token.Mark marks.Close ∷ tokens)
close_read rest tokens others = token_read (41 ∷ []) rest (token.Mark marks.Close) tokens (λ _. refl) (refl, refl) others

pub comma_read : (rest : List ℕ) (tokens : List AnyToken) → AreRead rest tokens → AreRead (44 ∷ rest) (token.Mark marks.Comma ∷ tokens)
comma_read rest tokens others = token_read (44 ∷ []) rest (token.Mark marks.Comma) tokens (λ _. refl) (refl, refl) others

pub semicolon_read : (rest : List ℕ) (tokens : List AnyToken) → AreRead rest tokens → AreRead (59 ∷ rest) (token.Mark marks.Semicolon ∷ tokens)
semicolon_read rest tokens others = token_read (59 ∷ []) rest (token.Mark marks.Semicolon) tokens (λ _. refl) (refl, refl) others

-- a minus that no second follows
pub minus_read : (rest : List ℕ) (tokens : List AnyToken) → begins_with 45 rest ≡ false → AreRead rest tokens → AreRead (45 ∷ rest) (token.Mark marks.Minus ∷ tokens)
minus_read rest tokens apart others =
    token_read (45 ∷ []) rest (token.Mark marks.Minus) tokens (λ _. refl) (subst (λ t. MatchBool t (Skips (behind classes.Line rest) (Token (token.Mark marks.Minus)) rest) (Reads (token.Mark marks.Minus) rest (Token (token.Mark marks.Minus)) rest)) (sym apart) (refl, refl)) others
