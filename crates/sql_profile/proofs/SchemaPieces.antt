-- A token's name has 1 to 63 bytes; neither it nor a string has a zero byte, or what is read next begins with one.
use Rattle.std.proofs.Common.{◌≡◌, ◌∙◌, ◌==◌, ◌<◌, ◌^◌, ◌||◌, ◌&&◌, ℕ, Bool, true, false, List, [], ◌∷◌, length, map, take, drop, refl, sym, subst, inl, inr, ◌⊎◌, if◌then◌else◌, Option, Some, None, arith}
use Rattle.std.specs.Prelude.{nat_le, nat_lt, bytes_eq, codes, MatchBool, MatchOption}
use Rattle.std.specs.Char.{is_ascii_digit, to_ascii_lowercase}
use Rattle.std.proofs.lemmas.Bool.{leb-true, true≢false}
use Rattle.sql_tokens.specs.declared.bytes.Class.TheVariants as classes
use Rattle.sql_tokens.specs.declared.bytes.Kind.{Kind}
use Rattle.sql_tokens.specs.declared.bytes.Kind.TheVariants as kinds
use Rattle.sql_tokens.specs.declared.piece.Piece.TheVariants.{Gap, Token}
use Rattle.sql_tokens.specs.declared.mark.Mark.TheVariants as marks
use Rattle.sql_tokens.specs.declared.token.TokenFault.TheVariants as fault
use Rattle.sql_tokens.specs.declared.token.Token.{Token as AnyToken}
use Rattle.sql_tokens.specs.declared.token.Token.TheVariants as token
use Rattle.sql_tokens.specs.Bytes.{front, behind, begins_name, is_space, is_strange, kind_of_sign, kind_of_mark, begins_with, begins_digit}
use Rattle.sql_tokens.specs.Pieces.{Reads, Skips, IsCalled, name_token, quoted_name, whole_token, param_token, QuotedOf, BlockOf, after_end, next, PieceBy, PieceOf, value_of, has_fraction}
use Rattle.schema.specs.Allowed.{HasNoZero, IsName}
use Rattle.sql_profile.proofs.Zeros.{BeginsZero, zero_next, no_zero_name}

-- a token's name is the name of a table or a column, and its string has no zero byte
abbrev pub IsClean : AnyToken → Type 0
IsClean (token.Name name) = IsName name.text
IsClean (token.Str text) = HasNoZero text
IsClean _ = Unit {0}

either : (t : Bool) (x y : AnyToken) → IsClean x → IsClean y → IsClean (if t then x else y)
either true x y a b = a
either false x y a b = b

clean_whole : (n : ℕ) → IsClean (whole_token n)
clean_whole n = either (nat_lt n (2 ^ 63)) _ _ tt (either (n == 2 ^ 63) _ _ tt tt)

clean_param : (n : ℕ) → IsClean (param_token n)
clean_param n = either (n == 0) _ _ tt (either (nat_le n 1000) _ _ tt tt)

clean_name : (text : List ℕ) (quoted : Bool) → 0 < length text → HasNoZero text → IsClean (name_token text quoted)
clean_name text quoted some all = go (nat_le (length text) 63) refl
  where
    go : (t : Bool) → nat_le (length text) 63 ≡ t → IsClean (if t then token.Name (record { text = text; quoted = quoted }) else token.Fault fault.LongName)
    go true e = (some, leb-true (length text) 63 e, all)
    go false e = tt

-- the token is clean, or what is read next begins with a zero byte
abbrev pub CleanOr : AnyToken → List ℕ → Type 0
CleanOr t rest = IsClean t ⊎ BeginsZero rest

module _ (t : AnyToken) (rest : List ℕ) where
  same : (other : AnyToken) → Token t ≡ Token other → t ≡ other
  same other e = cc

  no_gap : Token t ≡ Gap → ⊥
  no_gap e = absurd (cc)

  reads : (other : AnyToken) (after : List ℕ) → IsClean other → Reads other after (Token t) rest → CleanOr t rest
  reads other after clean is = inl (subst IsClean (sym (same other is.0)) clean)

  skips : (after : List ℕ) → Skips after (Token t) rest → CleanOr t rest
  skips after is = absurd (no_gap is.0)

  two : (b : Bool) (x y : AnyToken) (one other : List ℕ) → IsClean x → IsClean y → MatchBool b (Reads x one (Token t) rest) (Reads y other (Token t) rest) → CleanOr t rest
  two true x y one other clean_x clean_y is = reads x one clean_x is
  two false x y one other clean_x clean_y is = reads y other clean_y is

  called : (text : List ℕ) (other : AnyToken) → 0 < length text → HasNoZero text → IsCalled text other → IsClean other
  called text other some all (inl (reserved, spelled, is)) = subst IsClean (sym is) tt
  called text other some all (inr (none, is)) = subst IsClean (sym is) (clean_name text false some all)

  quoted : (q : ℕ) (made : List ℕ → AnyToken) (bytes : List ℕ) → ((text : List ℕ) → HasNoZero text → IsClean (made text)) → QuotedOf q made bytes (Token t) rest → CleanOr t rest
  quoted q made bytes clean (inl (text, after, closes, is)) = go (zero_next q bytes text after closes)
    where
      go : HasNoZero text ⊎ BeginsZero (next bytes after) → CleanOr t rest
      go (inl all) = reads (made text) (next bytes after) (clean text all) is
      go (inr (more, begins)) = inr (more, is.1 ∙ begins)
  quoted q made bytes clean (inr (never, is)) = reads (token.Fault fault.Bad) [] tt is

  clean_quoted : (text : List ℕ) → HasNoZero text → IsClean (quoted_name text)
  clean_quoted [] all = tt
  clean_quoted (b ∷ text) all = clean_name (b ∷ text) true (omega arith) all

  minus : (b : Bool) (one other : List ℕ) → MatchBool b (Skips one (Token t) rest) (Reads (token.Mark marks.Minus) other (Token t) rest) → CleanOr t rest
  minus true one other is = skips one is
  minus false one other is = reads (token.Mark marks.Minus) other tt is

  comment : (bytes : List ℕ) (found : Option (List ℕ)) → MatchOption found (Reads (token.Fault fault.Bad) [] (Token t) rest) (λ after. Skips (next bytes after) (Token t) rest) → CleanOr t rest
  comment bytes None is = reads (token.Fault fault.Bad) [] tt is
  comment bytes (Some after) is = skips (next bytes after) is

  slash : (b : Bool) (bytes other : List ℕ) → MatchBool b (BlockOf bytes (Token t) rest) (Reads (token.Mark marks.Slash) other (Token t) rest) → CleanOr t rest
  slash true bytes other is = comment bytes (after_end bytes) is
  slash false bytes other is = reads (token.Mark marks.Slash) other tt is

  strange : (b c : Bool) (run after : List ℕ) → MatchBool b (Reads (token.Mark marks.Bars) after (Token t) rest)
      (MatchBool c (Reads (token.Mark marks.Unequal) (drop 1 after) (Token t) rest) (Reads (token.Fault (fault.Run (take 63 run))) after (Token t) rest)) → CleanOr t rest
  strange true c run after is = reads (token.Mark marks.Bars) after tt is
  strange false c run after is = two c (token.Mark marks.Unequal) (token.Fault (fault.Run (take 63 run))) (drop 1 after) after tt tt is

  less : (b c : Bool) (bytes : List ℕ) → MatchBool b (Reads (token.Mark marks.AtMost) (drop 1 bytes) (Token t) rest)
      (MatchBool c (Reads (token.Mark marks.Unequal) (drop 1 bytes) (Token t) rest) (Reads (token.Mark marks.Less) bytes (Token t) rest)) → CleanOr t rest
  less true c bytes is = reads (token.Mark marks.AtMost) (drop 1 bytes) tt is
  less false c bytes is = two c (token.Mark marks.Unequal) (token.Mark marks.Less) (drop 1 bytes) bytes tt tt is

  -- a piece that begins with no letter
  abbrev NoLetter : Kind → Type 0
  NoLetter kinds.Letter = ⊥
  NoLetter _ = Unit {0}

  by_kind : (kind : Kind) (bytes more : List ℕ) → NoLetter kind → PieceBy kind bytes more (Token t) rest → CleanOr t rest
  by_kind kinds.Letter bytes more none is = absurd none
  by_kind kinds.Space bytes more none is = skips more is
  by_kind kinds.Digit bytes more none is =
      reads (if has_fraction (behind classes.Digit bytes) then token.Fault fault.Fraction else whole_token (value_of (front classes.Digit bytes)))
      (behind classes.Digit bytes)
      (either (has_fraction (behind classes.Digit bytes)) (token.Fault fault.Fraction) (whole_token (value_of (front classes.Digit bytes))) tt (clean_whole (value_of (front classes.Digit bytes))))
      is
  by_kind kinds.Strange bytes more none is =
      strange (bytes_eq (front classes.Strange bytes) (codes "||"))
      (bytes_eq (front classes.Strange bytes) (codes "!") && begins_with 61 (behind classes.Strange bytes))
      (front classes.Strange bytes) (behind classes.Strange bytes) is
  by_kind kinds.Quote bytes more none is = quoted 39 token.Str more (λ text all. all) is
  by_kind kinds.DoubleQuote bytes more none is = quoted 34 quoted_name more clean_quoted is
  by_kind kinds.Dollar bytes more none is = reads (param_token (value_of (front classes.Digit more))) (behind classes.Digit more) (clean_param (value_of (front classes.Digit more))) is
  by_kind kinds.Dot bytes more none is =
      reads (if begins_digit more then token.Fault fault.Fraction else token.Mark marks.Dot) more
      (either (begins_digit more) (token.Fault fault.Fraction) (token.Mark marks.Dot) tt tt) is
  by_kind kinds.Minus bytes more none is = minus (begins_with 45 more) (behind classes.Line more) more is
  by_kind kinds.Slash bytes more none is = slash (begins_with 42 more) (drop 1 more) more is
  by_kind kinds.Less bytes more none is = less (begins_with 61 more) (begins_with 62 more) more is
  by_kind kinds.Greater bytes more none is = two (begins_with 61 more) (token.Mark marks.AtLeast) (token.Mark marks.Greater) (drop 1 more) more tt tt is
  by_kind (kinds.Mark mark) bytes more none is = reads (token.Mark mark) more tt is
  by_kind kinds.Other bytes more none is = reads (token.Fault fault.Bad) more tt is

  chosen : (b : Bool) (k l : Kind) → NoLetter k → NoLetter l → NoLetter (if b then k else l)
  chosen true k l x y = x
  chosen false k l x y = y

  no_mark : (b : ℕ) → NoLetter (kind_of_mark b)
  no_mark b =
      chosen (b == 40) _ _ tt (chosen (b == 41) _ _ tt (chosen (b == 44) _ _ tt (chosen (b == 59) _ _ tt
      (chosen (b == 42) _ _ tt (chosen (b == 37) _ _ tt (chosen (b == 43) _ _ tt (chosen (b == 61) _ _ tt tt)))))))

  no_sign : (b : ℕ) → NoLetter (kind_of_sign b)
  no_sign b =
      chosen (b == 39) _ _ tt (chosen (b == 34) _ _ tt (chosen (b == 36) _ _ tt (chosen (b == 46) _ _ tt
      (chosen (b == 45) _ _ tt (chosen (b == 47) _ _ tt (chosen (b == 60) _ _ tt (chosen (b == 62) _ _ tt (no_mark b))))))))

  -- what a byte tells that begins no name
  abbrev no_name : ℕ → Kind
  no_name b = if is_space b then kinds.Space else if is_ascii_digit b then kinds.Digit else if is_strange b then kinds.Strange else kind_of_sign b

  no_letter : (b : ℕ) → NoLetter (no_name b)
  no_letter b = chosen (is_space b) _ _ tt (chosen (is_ascii_digit b) _ _ tt (chosen (is_strange b) _ _ tt (no_sign b)))

  -- a name begins with a letter, so it is not empty
  named : (b : ℕ) (bytes : List ℕ) → begins_name b ≡ true → 0 < length (map to_ascii_lowercase (front classes.Name (b ∷ bytes)))
  named b bytes e = go (begins_name b) e
    where
      go : (l : Bool) → l ≡ true → 0 < length (map to_ascii_lowercase (if l || is_ascii_digit b then b ∷ front classes.Name bytes else []))
      go true e = omega arith
      go false e = absurd (true≢false (sym e))

  pub clean_piece : (bytes : List ℕ) → PieceOf bytes (Token t) rest → CleanOr t rest
  clean_piece [] is = absurd is
  clean_piece (b ∷ bytes) is = go (begins_name b) refl is
    where
      go : (l : Bool) → begins_name b ≡ l
          → PieceBy (if l then kinds.Letter else no_name b) (b ∷ bytes) bytes (Token t) rest → CleanOr t rest
      go true e (other, of, is) =
          reads other (behind classes.Name (b ∷ bytes))
          (called (map to_ascii_lowercase (front classes.Name (b ∷ bytes))) other (named b bytes e) (no_zero_name (b ∷ bytes)) of) is
      go false e is = by_kind (no_name b) (b ∷ bytes) bytes (no_letter b) is
