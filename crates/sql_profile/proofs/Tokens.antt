-- The tokens of a text in which none is a fault: what they hold may stand in a tree.
use Rattle.std.proofs.Common.{◌≡◌, ◌≢◌, ◌∙◌, ◌<◌, ◌≤◌, ◌+◌, ◌-◌, ◌^◌, ◌==◌, ◌||◌, not, ℕ, zero, suc, ℤ, pos, Bool, true, false, List, [], ◌∷◌, ◌++◌, length, map, take, drop, cond, codes, ◌&&◌, Option, Some, None, refl, sym, ap, subst, inl, inr, ◌⊎◌, if◌then◌else◌, append_assoc, lit<, arith}
use Rattle.std.specs.Prelude.{T, nat_lt, nat_le, bytes_eq, All, MatchBool, MatchOption, ◌≤ℤ◌}
use Rattle.std.specs.Char.{is_ascii_digit, to_ascii_lowercase}
use Rattle.std.proofs.lemmas.Bool.{true≢false, le-leb, leb-true, ne_eqb, eqb-false}
use Rattle.sql_tokens.specs.declared.bytes.Class.TheVariants as classes
use Rattle.sql_tokens.specs.declared.bytes.Kind.{Kind}
use Rattle.sql_tokens.specs.declared.bytes.Kind.TheVariants as kinds
use Rattle.sql_tokens.specs.declared.mark.Mark.TheVariants as marks
use Rattle.sql_tokens.specs.declared.piece.Piece.{Piece}
use Rattle.sql_tokens.specs.declared.piece.Piece.TheVariants.{Gap, Token}
use Rattle.sql_tokens.specs.declared.token.Placed.{Placed}
use Rattle.sql_tokens.specs.declared.token.Token.{Token as AnyToken}
use Rattle.sql_tokens.specs.declared.token.Token.TheVariants as token
use Rattle.sql_tokens.specs.declared.token.TokenFault.{TokenFault}
use Rattle.sql_tokens.specs.declared.token.TokenFault.TheVariants.{Fraction, OutOfRange, Run, Bad, LongName, LargeParam}
use Rattle.sql_tokens.specs.Bytes.{begins_digit, begins_name, begins_with, behind, front, has, is_space, is_strange, kind_of, kind_of_mark, kind_of_sign}
use Rattle.sql_tokens.specs.Pieces.{Closes, IsCalled, PieceBy, PieceOf, Reads, after_end, doubled, has_fraction, name_token, next, param_token, quoted_name, value_of, whole_token}
use Rattle.sql_tokens.specs.Tokens.{Gaps, TokensFrom, TokensOf, past_limit, read_behind}
use Rattle.sql_tokens.proofs.Runs.{before_last}
use Rattle.sql_tree.specs.Trees.{IsName, IsString}
use Rattle.sql_profile.proofs.FormedClean.{Clean, is_fault}
use Rattle.sql_profile.proofs.Walk.{Goods, IsGood, IsShort}

abbrev pub tokens_alone : List Placed → List AnyToken
tokens_alone placed = map (λ p. p.token) placed

-- ---- a zero byte is of no token

zero_piece : (bytes : List ℕ) (piece : Piece) (rest : List ℕ) → PieceOf (0 ∷ bytes) piece rest → piece ≡ Token (token.Fault Bad)
zero_piece bytes piece rest h = h.0

zero_gaps : (count : ℕ) (bytes rest : List ℕ) → Gaps count (0 ∷ bytes) rest → rest ≡ 0 ∷ bytes
zero_gaps zero bytes rest h = h
zero_gaps (suc count) bytes rest h = let never : Gap ≡ Token (token.Fault Bad) = zero_piece bytes Gap h.0 h.1 in absurd (cc)

fault_past : (f : TokenFault) → is_fault (past_limit (token.Fault f)) ≡ true
fault_past Bad = refl
fault_past _ = refl

past_is : (t : AnyToken) → is_fault (past_limit t) ≡ true
past_is (token.Fault f) = fault_past f
past_is _ = refl

no_past : (t u : AnyToken) → t ≡ past_limit u → is_fault t ≡ false → ⊥
no_past t u is clean = true≢false (sym (past_is u) ∙ sym (ap is_fault is) ∙ clean)

zero_fault : (size room : ℕ) (bytes : List ℕ) (placed : List Placed) → TokensFrom size room (0 ∷ bytes) placed → Clean (tokens_alone placed) → ⊥
zero_fault size room bytes [] h clean = let never : [] ≡ 0 ∷ bytes = zero_gaps h.0 bytes [] h.1 in absurd (cc)
zero_fault size zero bytes (p ∷ more) h clean = no_past p.token h.0 h.4 clean.0
zero_fault size (suc room) bytes (p ∷ more) h clean =
    let start : h.0 ≡ 0 ∷ bytes = zero_gaps h.2.0 bytes h.0 h.2.1 in
    let piece : Token p.token ≡ Token (token.Fault Bad) = zero_piece bytes (Token p.token) h.1 (subst (λ (s : List ℕ). PieceOf s (Token p.token) h.1) start h.2.2) in
    let same : p.token ≡ token.Fault Bad = cc in
    true≢false (sym (ap is_fault same) ∙ clean.0)

-- ---- texts in quotes

abbrev Plain : List ℕ → Type 0
Plain [] = Unit {0}
Plain (b ∷ bytes) = (0 < b) × Plain bytes

plain_string : (text : List ℕ) → Plain text → IsString text
plain_string [] plain k d below = absurd (omega arith)
plain_string (b ∷ text) plain zero d below = plain.0
plain_string (b ∷ text) plain (suc k) d below = plain_string text plain.1 k d (omega arith)

skip : (x : ℕ) (xs : List ℕ) → 0 < x → behind (classes.But 0) (x ∷ xs) ≡ behind (classes.But 0) xs
skip x xs some = ap (λ (t : Bool). if not t then behind (classes.But 0) xs else x ∷ xs) (ne_eqb x 0 (λ e. absurd (omega arith)))

-- it has no zero byte, or one is read next
scan : (q : ℕ) → 0 < q → (text : List ℕ) → Plain text ⊎ ((more : List ℕ) × (behind (classes.But 0) (doubled q text ++ q ∷ []) ≡ 0 ∷ more))
scan q some [] = inl tt
scan q some (zero ∷ text) = inr (doubled q text ++ q ∷ [], ap (λ (t : Bool). behind (classes.But 0) (((if t then q ∷ q ∷ [] else 0 ∷ []) ++ doubled q text) ++ q ∷ [])) (ne_eqb 0 q (λ e. absurd (omega arith))))
scan q some (suc b ∷ text) = on (scan q some text)
  where
    rest : List ℕ
    rest = doubled q text ++ q ∷ []

    over : (t : Bool) → behind (classes.But 0) (((if t then q ∷ q ∷ [] else suc b ∷ []) ++ doubled q text) ++ q ∷ []) ≡ behind (classes.But 0) rest
    over true = skip q (q ∷ rest) some ∙ skip q rest some
    over false = skip (suc b) rest (omega arith)

    on : Plain text ⊎ ((more : List ℕ) × (behind (classes.But 0) rest ≡ 0 ∷ more)) → Plain (suc b ∷ text) ⊎ ((more : List ℕ) × (behind (classes.But 0) (doubled q (suc b ∷ text) ++ q ∷ []) ≡ 0 ∷ more))
    on (inl plain) = inl (omega arith, plain)
    on (inr (more, is)) = inr (more, over (suc b == q) ∙ is)

quoted : (q : ℕ) → 0 < q → (bytes text after : List ℕ) → Closes q bytes text after → Plain text ⊎ ((more : List ℕ) × (next bytes after ≡ 0 ∷ more))
quoted q some bytes text after closes = on (scan q some text)
  where
    whole : take (length bytes - length after) bytes ≡ doubled q text ++ q ∷ []
    whole = before_last (doubled q text ++ q ∷ []) after bytes (closes.0 ∙ sym (append_assoc (doubled q text) (q ∷ []) after))

    on : Plain text ⊎ ((more : List ℕ) × (behind (classes.But 0) (doubled q text ++ q ∷ []) ≡ 0 ∷ more)) → Plain text ⊎ ((more : List ℕ) × (next bytes after ≡ 0 ∷ more))
    on (inl plain) = inl plain
    on (inr (more, is)) = inr (more ++ after, ap (λ (xs : List ℕ). behind (classes.But 0) xs ++ after) whole ∙ ap (λ (xs : List ℕ). xs ++ after) is)

-- ---- names

short_token : (text : List ℕ) (q : Bool) → 0 < length text → IsString text → IsGood (name_token text q)
short_token text q some plain = go (nat_le (length text) 63) refl
  where
    go : (t : Bool) → nat_le (length text) 63 ≡ t → IsGood (if t then token.Name (record { text = text; quoted = q }) else token.Fault LongName)
    go true e = ((some, plain), leb-true (length text) 63 e)
    go false e = tt

name_byte : (b : ℕ) → has classes.Name b ≡ true → 0 < b
name_byte zero is = absurd (true≢false (sym is))
name_byte (suc b) is = omega arith

lower_some : (b : ℕ) → 0 < b → 0 < to_ascii_lowercase b
lower_some b some = go (nat_lt b 65) (nat_lt b 91)
  where
    go : (t u : Bool) → 0 < cond t b (cond u (b + 32) b)
    go true u = some
    go false true = omega arith
    go false false = some

run_plain : (bytes : List ℕ) → Plain (map to_ascii_lowercase (front classes.Name bytes))
run_plain [] = tt
run_plain (b ∷ bytes) = go (has classes.Name b) refl (run_plain bytes)
  where
    go : (t : Bool) → has classes.Name b ≡ t → Plain (map to_ascii_lowercase (front classes.Name bytes)) → Plain (map to_ascii_lowercase (if t then b ∷ front classes.Name bytes else []))
    go true e rest = (lower_some b (name_byte b e), rest)
    go false e rest = tt

run_some : (b : ℕ) (bytes : List ℕ) → begins_name b ≡ true → 0 < length (map to_ascii_lowercase (front classes.Name (b ∷ bytes)))
run_some b bytes is =
    subst (λ (t : Bool). 0 < length (map to_ascii_lowercase (if t || is_ascii_digit b then b ∷ front classes.Name bytes else []))) (sym is) (omega arith)

-- ---- which kind

abbrev is_letter : Kind → Bool
is_letter kinds.Letter = true
is_letter k = false

if_not : (t : Bool) (x y : Kind) → is_letter x ≡ false → is_letter y ≡ false → is_letter (if t then x else y) ≡ false
if_not true x y p q = p
if_not false x y p q = q

mark_not : (b : ℕ) → is_letter (kind_of_mark b) ≡ false
mark_not b =
    if_not (b == 40) (kinds.Mark marks.Open) _ refl (if_not (b == 41) (kinds.Mark marks.Close) _ refl (if_not (b == 44) (kinds.Mark marks.Comma) _ refl (if_not (b == 59) (kinds.Mark marks.Semicolon) _ refl
    (if_not (b == 42) (kinds.Mark marks.Star) _ refl (if_not (b == 37) (kinds.Mark marks.Percent) _ refl (if_not (b == 43) (kinds.Mark marks.Plus) _ refl (if_not (b == 61) (kinds.Mark marks.Equal) kinds.Other refl refl)))))))

sign_not : (b : ℕ) → is_letter (kind_of_sign b) ≡ false
sign_not b =
    if_not (b == 39) kinds.Quote _ refl (if_not (b == 34) kinds.DoubleQuote _ refl (if_not (b == 36) kinds.Dollar _ refl (if_not (b == 46) kinds.Dot _ refl (if_not (b == 45) kinds.Minus _ refl
    (if_not (b == 47) kinds.Slash _ refl (if_not (b == 60) kinds.Less _ refl (if_not (b == 62) kinds.Greater (kind_of_mark b) refl (mark_not b))))))))

abbrev other_kind : ℕ → Kind
other_kind b = if is_space b then kinds.Space else if is_ascii_digit b then kinds.Digit else if is_strange b then kinds.Strange else kind_of_sign b

other_not : (b : ℕ) → is_letter (other_kind b) ≡ false
other_not b = if_not (is_space b) kinds.Space _ refl (if_not (is_ascii_digit b) kinds.Digit _ refl (if_not (is_strange b) kinds.Strange (kind_of_sign b) refl (sign_not b)))

-- ---- one token

same_token : (t u : AnyToken) → Token t ≡ Token u → t ≡ u
same_token t u e = cc

by_good : (t u : AnyToken) → Token t ≡ Token u → IsGood u → IsGood t
by_good t u e good = subst IsGood (sym (same_token t u e)) good

-- good, or a zero byte is read next
abbrev Fine : AnyToken → List ℕ → Type 0
Fine t after = IsGood t ⊎ ((more : List ℕ) × (after ≡ 0 ∷ more))

whole_good : (n : ℕ) → IsGood (whole_token n)
whole_good n = go (nat_lt n (2 ^ 63)) (n == 2 ^ 63)
  where
    go : (t u : Bool) → IsGood (if t then token.Number (pos n) else if u then token.Least else token.Fault OutOfRange)
    go true u = record { le = subst T (sym (le-leb 0 n (omega arith))) tt }
    go false true = tt
    go false false = tt

param_good : (n : ℕ) → IsGood (param_token n)
param_good n = go (n == 0) (nat_le n 1000) refl
  where
    go : (t u : Bool) → (n == 0) ≡ t → IsGood (if t then token.Fault Bad else if u then token.Param n else token.Fault LargeParam)
    go true u e = tt
    go false true e = let other = eqb-false n 0 e in omega (arith, other)
    go false false e = tt

name_good : (b : ℕ) (bytes : List ℕ) → begins_name b ≡ true → (t : AnyToken) (after : List ℕ) → PieceBy kinds.Letter (b ∷ bytes) bytes (Token t) after → IsGood t
name_good b bytes is t after (u, called, reads) = by_good t u reads.0 (on called)
  where
    text : List ℕ
    text = map to_ascii_lowercase (front classes.Name (b ∷ bytes))

    on : IsCalled text u → IsGood u
    on (inl word) = subst IsGood (sym word.2) tt
    on (inr name) = subst IsGood (sym name.1) (short_token text false (run_some b bytes is) (plain_string text (run_plain (b ∷ bytes))))

quoted_good : (text : List ℕ) → Plain text → IsGood (quoted_name text)
quoted_good [] plain = tt
quoted_good (b ∷ text) plain = short_token (b ∷ text) true (omega arith) (plain_string (b ∷ text) plain)

two_good : (one two : Bool) (x y z : AnyToken) (a b c : List ℕ) (t : AnyToken) (after : List ℕ) → IsGood x → IsGood y → IsGood z
    → MatchBool one (Reads x a (Token t) after) (MatchBool two (Reads y b (Token t) after) (Reads z c (Token t) after)) → IsGood t
two_good true two x y z a b c t after p q r h = by_good t x h.0 p
two_good false true x y z a b c t after p q r h = by_good t y h.0 q
two_good false false x y z a b c t after p q r h = by_good t z h.0 r

if_good : (b : Bool) (x y : AnyToken) → IsGood x → IsGood y → IsGood (if b then x else y)
if_good true x y p q = p
if_good false x y p q = q

never_gap : (t : AnyToken) → Token t ≡ Gap → ⊥
never_gap t e = absurd (cc)

kind_good : (k : Kind) → is_letter k ≡ false → (bytes rest : List ℕ) (t : AnyToken) (after : List ℕ) → PieceBy k bytes rest (Token t) after → Fine t after
kind_good kinds.Letter other bytes rest t after h = absurd (true≢false other)
kind_good kinds.Space other bytes rest t after h = absurd (never_gap t h.0)
kind_good kinds.Digit other bytes rest t after h =
    inl (by_good t _ h.0 (if_good (has_fraction (behind classes.Digit bytes)) (token.Fault Fraction) (whole_token (value_of (front classes.Digit bytes))) tt (whole_good (value_of (front classes.Digit bytes)))))
kind_good kinds.Strange other bytes rest t after h =
    let run = front classes.Strange bytes in
    let left = behind classes.Strange bytes in
    inl (two_good (bytes_eq run (codes "||")) (bytes_eq run (codes "!") && begins_with 61 left) (token.Mark marks.Bars) (token.Mark marks.Unequal) (token.Fault (Run (take 63 run))) left (drop 1 left) left t after tt tt tt h)
kind_good kinds.Quote other bytes rest t after (inl (text, behind_it, closes, reads)) = on (quoted 39 (lit< tt) rest text behind_it closes)
  where
    on : Plain text ⊎ ((more : List ℕ) × (next rest behind_it ≡ 0 ∷ more)) → Fine t after
    on (inl plain) = inl (by_good t (token.Str text) reads.0 (plain_string text plain))
    on (inr (more, is)) = inr (more, reads.1 ∙ is)
kind_good kinds.Quote other bytes rest t after (inr (never, reads)) = inl (by_good t (token.Fault Bad) reads.0 tt)
kind_good kinds.DoubleQuote other bytes rest t after (inl (text, behind_it, closes, reads)) = on (quoted 34 (lit< tt) rest text behind_it closes)
  where
    on : Plain text ⊎ ((more : List ℕ) × (next rest behind_it ≡ 0 ∷ more)) → Fine t after
    on (inl plain) = inl (by_good t (quoted_name text) reads.0 (quoted_good text plain))
    on (inr (more, is)) = inr (more, reads.1 ∙ is)
kind_good kinds.DoubleQuote other bytes rest t after (inr (never, reads)) = inl (by_good t (token.Fault Bad) reads.0 tt)
kind_good kinds.Dollar other bytes rest t after h = inl (by_good t (param_token (value_of (front classes.Digit rest))) h.0 (param_good (value_of (front classes.Digit rest))))
kind_good kinds.Dot other bytes rest t after h = inl (by_good t _ h.0 (if_good (begins_digit rest) (token.Fault Fraction) (token.Mark marks.Dot) tt tt))
kind_good kinds.Minus other bytes rest t after h = go (begins_with 45 rest) h
  where
    go : (b : Bool) → MatchBool b ((Token t ≡ Gap) × (after ≡ behind classes.Line rest)) (Reads (token.Mark marks.Minus) rest (Token t) after) → Fine t after
    go true x = absurd (never_gap t x.0)
    go false x = inl (by_good t (token.Mark marks.Minus) x.0 tt)
kind_good kinds.Slash other bytes rest t after h = go (begins_with 42 rest) (after_end (drop 1 rest)) h
  where
    go : (b : Bool) (o : Option (List ℕ)) → MatchBool b (MatchOption o (Reads (token.Fault Bad) [] (Token t) after) (λ a. (Token t ≡ Gap) × (after ≡ next (drop 1 rest) a))) (Reads (token.Mark marks.Slash) rest (Token t) after) → Fine t after
    go true None x = inl (by_good t (token.Fault Bad) x.0 tt)
    go true (Some a) x = absurd (never_gap t x.0)
    go false o x = inl (by_good t (token.Mark marks.Slash) x.0 tt)
kind_good kinds.Less other bytes rest t after h =
    inl (two_good (begins_with 61 rest) (begins_with 62 rest) (token.Mark marks.AtMost) (token.Mark marks.Unequal) (token.Mark marks.Less) (drop 1 rest) (drop 1 rest) rest t after tt tt tt h)
kind_good kinds.Greater other bytes rest t after h = go (begins_with 61 rest) h
  where
    go : (b : Bool) → MatchBool b (Reads (token.Mark marks.AtLeast) (drop 1 rest) (Token t) after) (Reads (token.Mark marks.Greater) rest (Token t) after) → Fine t after
    go true x = inl (by_good t (token.Mark marks.AtLeast) x.0 tt)
    go false x = inl (by_good t (token.Mark marks.Greater) x.0 tt)
kind_good (kinds.Mark m) other bytes rest t after h = inl (by_good t (token.Mark m) h.0 tt)
kind_good kinds.Other other bytes rest t after h = inl (by_good t (token.Fault Bad) h.0 tt)

piece_good : (start : List ℕ) (t : AnyToken) (after : List ℕ) → PieceOf start (Token t) after → Fine t after
piece_good [] t after h = absurd h
piece_good (b ∷ bytes) t after h = go (begins_name b) refl h
  where
    go : (l : Bool) → begins_name b ≡ l → PieceBy (if l then kinds.Letter else other_kind b) (b ∷ bytes) bytes (Token t) after → Fine t after
    go true e x = inl (name_good b bytes e t after x)
    go false e x = kind_good (other_kind b) (other_not b) (b ∷ bytes) bytes t after x

-- ---- all tokens

behind_plain : (t : AnyToken) (after : List ℕ) → is_fault t ≡ false → read_behind t after ≡ after
behind_plain (token.Fault f) after clean = absurd (true≢false clean)
behind_plain _ after clean = refl

tokens_good : (size room : ℕ) (bytes : List ℕ) (placed : List Placed) → TokensFrom size room bytes placed → Clean (tokens_alone placed) → Goods (tokens_alone placed)
tokens_good size room bytes [] h clean = tt
tokens_good size zero bytes (p ∷ more) h clean = absurd (no_past p.token h.0 h.4 clean.0)
tokens_good size (suc room) bytes (p ∷ more) h clean = on (tokens_good size room (read_behind p.token h.1) more h.4 clean.1) (piece_good h.0 p.token h.1 h.2.2)
  where
    on : Goods (tokens_alone more) → Fine p.token h.1 → Goods (tokens_alone (p ∷ more))
    on others (inl good) = (good, others)
    on others (inr (left, is)) = absurd (zero_fault size room left more (subst (λ (bs : List ℕ). TokensFrom size room bs more) (behind_plain p.token h.1 clean.0 ∙ is) h.4) clean.1)

tokens_few : (size room : ℕ) (bytes : List ℕ) (placed : List Placed) → TokensFrom size room bytes placed → Clean (tokens_alone placed) → length (tokens_alone placed) ≤ room
tokens_few size room bytes [] h clean = omega arith
tokens_few size zero bytes (p ∷ more) h clean = absurd (no_past p.token h.0 h.4 clean.0)
tokens_few size (suc room) bytes (p ∷ more) h clean = let few = tokens_few size room (read_behind p.token h.1) more h.4 clean.1 in omega (arith, few)

pub text_good : (text : List ℕ) (placed : List Placed) → TokensOf text placed → Clean (tokens_alone placed) → Goods (tokens_alone placed) × (length (tokens_alone placed) ≤ 65536)
unfolding TokensOf
text_good text placed h clean = (tokens_good (length text) 65536 text placed h clean, tokens_few (length text) 65536 text placed h clean)
