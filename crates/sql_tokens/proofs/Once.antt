-- A text begins with one piece alone, and is the end of what follows the piece.
use Rattle.std.proofs.Common.{◌≡◌, ◌∙◌, ◌==◌, ◌||◌, inl, inr, ℕ, Bool, true, false, List, [], ◌∷◌, take, drop, Option, Some, None, if◌then◌else◌, refl, sym, ap}
use Rattle.std.specs.Prelude.{MatchBool, MatchOption, bytes_eq, codes, ◌&&◌}
use Rattle.std.specs.Char.{is_ascii_digit}
use Rattle.std.proofs.lemmas.Bool.{or_left}
use Rattle.sql_tokens.specs.declared.mark.Mark.{Mark as AnyMark}
use Rattle.sql_tokens.specs.declared.mark.Mark.TheVariants as marks
use Rattle.sql_tokens.specs.declared.token.TokenFault.TheVariants.{Bad, Run}
use Rattle.sql_tokens.specs.declared.token.Token.{Token as AnyToken}
use Rattle.sql_tokens.specs.declared.token.Token.TheVariants.{Str, Mark as MarkToken, Word as WordToken, Fault}
use Rattle.sql_tokens.specs.declared.piece.Piece.{Piece}
use Rattle.sql_tokens.specs.declared.piece.Piece.TheVariants.{Token}
use Rattle.sql_tokens.specs.declared.bytes.Class.{Class}
use Rattle.sql_tokens.specs.declared.bytes.Class.TheVariants as classes
use Rattle.sql_tokens.specs.declared.bytes.Kind.{Kind}
use Rattle.sql_tokens.specs.declared.bytes.Kind.TheVariants as kinds
use Rattle.sql_tokens.specs.Bytes.{front, behind, has, begins_with, begins_name, is_space, is_strange, kind_of, kind_of_sign, kind_of_mark}
use Rattle.sql_tokens.specs.Pieces.{Reads, Skips, IsCalled, NameOf, RunOf, QuotedOf, quoted_name, next, after_end, BlockOf, MinusOf, SlashOf, LessOf, GreaterOf, PieceBy, PieceOf, EndsWith}
use Rattle.sql_tokens.proofs.Words.{spelled_once}
use Rattle.sql_tokens.proofs.Quotes.{closes_once, closes_last}
use Rattle.sql_tokens.proofs.Ends.{ends_all, ends_none, ends_first, ends_run, ends_on, ends_same, ends_next, ends_comment}

-- at most one piece, and one rest
abbrev pub Once : (Piece → List ℕ → Type 0) → Type 0
Once P = (p q : Piece) (r s : List ℕ) → P p r → P q s → (p ≡ q) × (r ≡ s)

-- the rest is the end of the bytes
abbrev pub Ends : List ℕ → (Piece → List ℕ → Type 0) → Type 0
Ends bytes P = (p : Piece) (r : List ℕ) → P p r → EndsWith bytes r

reads_once : (token : AnyToken) (after : List ℕ) → Once (Reads token after)
reads_once token after p q r s x y = (x.0 ∙ sym y.0, x.1 ∙ sym y.1)

skips_once : (after : List ℕ) → Once (Skips after)
skips_once after p q r s x y = (x.0 ∙ sym y.0, x.1 ∙ sym y.1)

reads_ends : (bytes : List ℕ) (token : AnyToken) (after : List ℕ) → EndsWith bytes after → Ends bytes (Reads token after)
reads_ends bytes token after e p r x = ends_same bytes after r x.1 e

skips_ends : (bytes after : List ℕ) → EndsWith bytes after → Ends bytes (Skips after)
skips_ends bytes after e p r x = ends_same bytes after r x.1 e

either_once : (b : Bool) (P Q : Piece → List ℕ → Type 0) → Once P → Once Q → Once (λ p r. MatchBool b (P p r) (Q p r))
either_once true P Q x y = x
either_once false P Q x y = y

either_ends : (b : Bool) (bytes : List ℕ) (P Q : Piece → List ℕ → Type 0) → Ends bytes P → Ends bytes Q → Ends bytes (λ p r. MatchBool b (P p r) (Q p r))
either_ends true bytes P Q x y = x
either_ends false bytes P Q x y = y

called_once : (text : List ℕ) (t u : AnyToken) → IsCalled text t → IsCalled text u → t ≡ u
called_once text t u (inl x) (inl y) = x.2 ∙ (ap WordToken (spelled_once x.0 y.0 (x.1 ∙ sym y.1)) ∙ sym y.2)
called_once text t u (inl x) (inr y) = absurd (y.0 x.0 x.1)
called_once text t u (inr x) (inl y) = absurd (x.0 y.0 y.1)
called_once text t u (inr x) (inr y) = x.1 ∙ sym y.1

name_once : (bytes : List ℕ) → Once (NameOf bytes)
name_once bytes p q r s x y =
    (x.2.0 ∙ (ap Token (called_once _ x.0 y.0 x.1 y.1) ∙ sym y.2.0), x.2.1 ∙ sym y.2.1)

quoted_once : (q : ℕ) (made : List ℕ → AnyToken) (bytes : List ℕ) → Once (QuotedOf q made bytes)
quoted_once q made bytes p o r s (inl x) (inl y) =
    let same = closes_once q bytes x.0 y.0 x.1 y.1 x.2 y.2 in
    (x.3.0 ∙ (ap (λ (text : List ℕ). Token (made text)) same.0 ∙ sym y.3.0), x.3.1 ∙ (ap (next bytes) same.1 ∙ sym y.3.1))
quoted_once q made bytes p o r s (inl x) (inr y) = absurd (y.0 x.0 x.1 x.2)
quoted_once q made bytes p o r s (inr x) (inl y) = absurd (x.0 y.0 y.1 y.2)
quoted_once q made bytes p o r s (inr x) (inr y) = (x.1.0 ∙ sym y.1.0, x.1.1 ∙ sym y.1.1)

quoted_ends : (q : ℕ) (made : List ℕ → AnyToken) (bytes : List ℕ) → Ends bytes (QuotedOf q made bytes)
quoted_ends q made bytes p r (inl x) =
    ends_same bytes (next bytes x.1) r x.3.1 (ends_next bytes x.1 (closes_last q bytes x.0 x.1 x.2))
quoted_ends q made bytes p r (inr x) = ends_same bytes [] r x.1.1 (ends_none bytes)

block_once : (bytes : List ℕ) → Once (BlockOf bytes)
block_once bytes p q r s x y = go (after_end bytes) x y
  where
    go : (o : Option (List ℕ)) → MatchOption o (Reads (Fault Bad) [] p r) (λ after. Skips (next bytes after) p r)
        → MatchOption o (Reads (Fault Bad) [] q s) (λ after. Skips (next bytes after) q s) → (p ≡ q) × (r ≡ s)
    go None x y = (x.0 ∙ sym y.0, x.1 ∙ sym y.1)
    go (Some after) x y = (x.0 ∙ sym y.0, x.1 ∙ sym y.1)

block_ends : (bytes : List ℕ) → Ends bytes (BlockOf bytes)
block_ends bytes p r x = go (after_end bytes) refl x
  where
    go : (o : Option (List ℕ)) → o ≡ after_end bytes → MatchOption o (Reads (Fault Bad) [] p r) (λ after. Skips (next bytes after) p r) → EndsWith bytes r
    go None e x = ends_same bytes [] r x.1 (ends_none bytes)
    go (Some after) e x = ends_same bytes (next bytes after) r x.1 (ends_next bytes after (ends_comment bytes after e))

run_once : (run after : List ℕ) → Once (RunOf run after)
run_once run after =
    either_once (bytes_eq run (codes "||")) _ _ (reads_once (MarkToken marks.Bars) after)
    (either_once (bytes_eq run (codes "!") && begins_with 61 after) _ _ (reads_once (MarkToken marks.Unequal) (drop 1 after))
    (reads_once (Fault (Run (take 63 run))) after))

run_ends : (bytes run after : List ℕ) → EndsWith bytes after → Ends bytes (RunOf run after)
run_ends bytes run after e =
    either_ends (bytes_eq run (codes "||")) bytes _ _ (reads_ends bytes (MarkToken marks.Bars) after e)
    (either_ends (bytes_eq run (codes "!") && begins_with 61 after) bytes _ _
    (reads_ends bytes (MarkToken marks.Unequal) (drop 1 after) (ends_on bytes after (drop 1 after) e (ends_first after)))
    (reads_ends bytes (Fault (Run (take 63 run))) after e))

minus_once : (bytes : List ℕ) → Once (MinusOf bytes)
minus_once bytes =
    either_once (begins_with 45 bytes) _ _ (skips_once (behind classes.Line bytes)) (reads_once (MarkToken marks.Minus) bytes)

minus_ends : (bytes : List ℕ) → Ends bytes (MinusOf bytes)
minus_ends bytes =
    either_ends (begins_with 45 bytes) bytes _ _ (skips_ends bytes (behind classes.Line bytes) (ends_run classes.Line bytes))
    (reads_ends bytes (MarkToken marks.Minus) bytes (ends_all bytes))

slash_once : (bytes : List ℕ) → Once (SlashOf bytes)
slash_once bytes = either_once (begins_with 42 bytes) _ _ (block_once (drop 1 bytes)) (reads_once (MarkToken marks.Slash) bytes)

slash_ends : (bytes : List ℕ) → Ends bytes (SlashOf bytes)
slash_ends bytes =
    either_ends (begins_with 42 bytes) bytes _ _
    (λ p r x. ends_on bytes (drop 1 bytes) r (ends_first bytes) (block_ends (drop 1 bytes) p r x))
    (reads_ends bytes (MarkToken marks.Slash) bytes (ends_all bytes))

less_once : (bytes : List ℕ) → Once (LessOf bytes)
less_once bytes =
    either_once (begins_with 61 bytes) _ _ (reads_once (MarkToken marks.AtMost) (drop 1 bytes))
    (either_once (begins_with 62 bytes) _ _ (reads_once (MarkToken marks.Unequal) (drop 1 bytes)) (reads_once (MarkToken marks.Less) bytes))

less_ends : (bytes : List ℕ) → Ends bytes (LessOf bytes)
less_ends bytes =
    either_ends (begins_with 61 bytes) bytes _ _ (reads_ends bytes (MarkToken marks.AtMost) (drop 1 bytes) (ends_first bytes))
    (either_ends (begins_with 62 bytes) bytes _ _ (reads_ends bytes (MarkToken marks.Unequal) (drop 1 bytes) (ends_first bytes))
    (reads_ends bytes (MarkToken marks.Less) bytes (ends_all bytes)))

greater_once : (bytes : List ℕ) → Once (GreaterOf bytes)
greater_once bytes =
    either_once (begins_with 61 bytes) _ _ (reads_once (MarkToken marks.AtLeast) (drop 1 bytes)) (reads_once (MarkToken marks.Greater) bytes)

greater_ends : (bytes : List ℕ) → Ends bytes (GreaterOf bytes)
greater_ends bytes =
    either_ends (begins_with 61 bytes) bytes _ _ (reads_ends bytes (MarkToken marks.AtLeast) (drop 1 bytes) (ends_first bytes))
    (reads_ends bytes (MarkToken marks.Greater) bytes (ends_all bytes))

by_once : (kind : Kind) (bytes rest : List ℕ) → Once (PieceBy kind bytes rest)
by_once kinds.Letter bytes rest = name_once bytes
by_once kinds.Space bytes rest = skips_once rest
by_once kinds.Digit bytes rest = reads_once _ _
by_once kinds.Strange bytes rest = run_once (front classes.Strange bytes) (behind classes.Strange bytes)
by_once kinds.Quote bytes rest = quoted_once 39 Str rest
by_once kinds.DoubleQuote bytes rest = quoted_once 34 quoted_name rest
by_once kinds.Dollar bytes rest = reads_once _ _
by_once kinds.Dot bytes rest = reads_once _ _
by_once kinds.Minus bytes rest = minus_once rest
by_once kinds.Slash bytes rest = slash_once rest
by_once kinds.Less bytes rest = less_once rest
by_once kinds.Greater bytes rest = greater_once rest
by_once (kinds.Mark mark) bytes rest = reads_once (MarkToken mark) rest
by_once kinds.Other bytes rest = reads_once (Fault Bad) rest

pub piece_once : (bytes : List ℕ) → Once (PieceOf bytes)
piece_once [] p q r s x y = absurd x
piece_once (b ∷ bytes) p q r s x y = by_once (kind_of b) (b ∷ bytes) bytes p q r s x y

-- what follows a piece of this kind is the end of what stands behind its first byte
module _ (b : ℕ) (bytes : List ℕ) where
  abbrev Fits : Kind → Type 0
  Fits kind = Ends bytes (PieceBy kind (b ∷ bytes) bytes)

  run_on : (c : Class) → has c b ≡ true → EndsWith bytes (behind c (b ∷ bytes))
  run_on c e = ends_same bytes (behind c bytes) _ (ap (λ (t : Bool). if t then behind c bytes else b ∷ bytes) e) (ends_run c bytes)

  choice : (t : Bool) (k l : Kind) → (t ≡ true → Fits k) → Fits l → Fits (if t then k else l)
  choice true k l x y = x refl
  choice false k l x y = y

  letter : begins_name b ≡ true → Fits kinds.Letter
  letter e p r x = ends_same bytes _ r x.2.1 (run_on classes.Name (or_left (begins_name b) (is_ascii_digit b) e))

  space : Fits kinds.Space
  space = skips_ends bytes bytes (ends_all bytes)

  digit : is_ascii_digit b ≡ true → Fits kinds.Digit
  digit e p r x = ends_same bytes _ r x.1 (run_on classes.Digit e)

  strange : is_strange b ≡ true → Fits kinds.Strange
  strange e = run_ends bytes (front classes.Strange (b ∷ bytes)) (behind classes.Strange (b ∷ bytes)) (run_on classes.Strange e)

  mark : (m : AnyMark) → Fits (kinds.Mark m)
  mark m = reads_ends bytes (MarkToken m) bytes (ends_all bytes)

  other : Fits kinds.Other
  other = reads_ends bytes (Fault Bad) bytes (ends_all bytes)

  string : Fits kinds.Quote
  string = quoted_ends 39 Str bytes

  quoted : Fits kinds.DoubleQuote
  quoted = quoted_ends 34 quoted_name bytes

  dollar : Fits kinds.Dollar
  dollar p r x = ends_same bytes _ r x.1 (ends_run classes.Digit bytes)

  dot : Fits kinds.Dot
  dot p r x = ends_same bytes bytes r x.1 (ends_all bytes)

  minus : Fits kinds.Minus
  minus = minus_ends bytes

  slash : Fits kinds.Slash
  slash = slash_ends bytes

  less : Fits kinds.Less
  less = less_ends bytes

  greater : Fits kinds.Greater
  greater = greater_ends bytes

  marks_fit : Fits (kind_of_mark b)
  marks_fit =
      choice (b == 40) _ _ (λ _. mark marks.Open) (choice (b == 41) _ _ (λ _. mark marks.Close)
      (choice (b == 44) _ _ (λ _. mark marks.Comma) (choice (b == 59) _ _ (λ _. mark marks.Semicolon)
      (choice (b == 42) _ _ (λ _. mark marks.Star) (choice (b == 37) _ _ (λ _. mark marks.Percent)
      (choice (b == 43) _ _ (λ _. mark marks.Plus) (choice (b == 61) _ _ (λ _. mark marks.Equal) other)))))))

  signs_fit : Fits (kind_of_sign b)
  signs_fit =
      choice (b == 39) _ _ (λ _. string) (choice (b == 34) _ _ (λ _. quoted)
      (choice (b == 36) _ _ (λ _. dollar) (choice (b == 46) _ _ (λ _. dot)
      (choice (b == 45) _ _ (λ _. minus) (choice (b == 47) _ _ (λ _. slash)
      (choice (b == 60) _ _ (λ _. less) (choice (b == 62) _ _ (λ _. greater) marks_fit)))))))

  kinds_fit : Fits (kind_of b)
  kinds_fit =
      choice (begins_name b) _ _ letter (choice (is_space b) _ _ (λ _. space)
      (choice (is_ascii_digit b) _ _ digit (choice (is_strange b) _ _ strange signs_fit)))

  pub piece_ends : Ends bytes (PieceOf (b ∷ bytes))
  piece_ends = kinds_fit
