-- The tokens of a text, where some may be faults: the names that they tell.
use Rattle.std.proofs.Common.{◌≡◌, ◌≢◌, ◌∙◌, ◌≤◌, ◌+◌, ◌-◌, ◌==◌, ◌&&◌, ◌^◌, not, ℕ, zero, suc, pos, List, [], ◌∷◌, ◌++◌, length, map, take, drop, cond, codes, Option, Some, None, IfSome, refl, sym, ap, subst, inl, inr, ◌⊎◌, if◌then◌else◌, append_assoc, arith}
use Rattle.std.specs.Prelude.{Bool as Truth, true, false, bytes_eq, nat_lt, nat_le, reverse, slice_get, unwrap_or, MatchBool, MatchOption}
use Rattle.std.specs.Char.{to_ascii_lowercase}
use Rattle.std.specs.List.{All, AllByRecursion}
use Rattle.std.proofs.lemmas.Bool.{false≢true, leb-true, ne_eqb}
use Rattle.std.proofs.lemmas.List.{reverse-append}
use Rattle.std.proofs.lemmas.List.Elements.{All-nil, All-cons}
use Rattle.std.proofs.lemmas.Option.{none-some}
use Rattle.sql_tokens.specs.declared.bytes.Class.TheVariants as classes
use Rattle.sql_tokens.specs.declared.bytes.Kind.{Kind}
use Rattle.sql_tokens.specs.declared.bytes.Kind.TheVariants as kinds
use Rattle.sql_tokens.specs.declared.mark.Mark.TheVariants as marks
use Rattle.sql_tokens.specs.declared.piece.Piece.{Piece}
use Rattle.sql_tokens.specs.declared.piece.Piece.TheVariants.{Gap, Token}
use Rattle.sql_tokens.specs.declared.token.Placed.{Placed}
use Rattle.sql_tokens.specs.declared.token.Token.{Token as AnyToken}
use Rattle.sql_tokens.specs.declared.token.Token.TheVariants as token
use Rattle.sql_tokens.specs.declared.token.TokenFault.{TokenFault}
use Rattle.sql_tokens.specs.declared.token.TokenFault.TheVariants.{Fraction, OutOfRange, Run, Bad, LongName, LargeParam}
use Rattle.sql_tokens.specs.Bytes.{begins_digit, begins_with, behind, front, has, kind_of}
use Rattle.sql_tokens.specs.Pieces.{Closes, IsCalled, PieceBy, PieceOf, Reads, after_end, doubled, has_fraction, name_token, next, param_token, quoted_name, value_of, whole_token}
use Rattle.sql_tokens.specs.Tokens.{Gaps, TokensFrom, TokensOf, past_limit, read_behind}
use Rattle.sql_tokens.proofs.Runs.{before_last}
use Rattle.sql_profile.proofs.FormedClean.{is_fault}
use Rattle.statement_laws.specs.Told.{IsTold}

abbrev pub tokens_alone : List Placed → List AnyToken
tokens_alone placed = map (λ p. p.token) placed

abbrev pub places_alone : List Placed → List ℕ
places_alone placed = map (λ p. p.place) placed

-- ---- names and runs of strange marks

-- no byte is 0
abbrev Plain : List ℕ → Type 0
Plain text = All (λ b. b ≢ 0) text

plain_none : Plain []
plain_none = All-nil (λ b. b ≢ 0)

plain_more : (b : ℕ) (text : List ℕ) → b ≢ 0 → Plain text → Plain (b ∷ text)
plain_more b text some plain = All-cons (λ b. b ≢ 0) b text some plain

-- the names that a token may tell
abbrev IsGood : AnyToken → Type 0
IsGood (token.Name n) = IsTold n.text
IsGood (token.Fault (Run run)) = IsTold run
IsGood t = Unit {0}

-- that of a fault alone
abbrev pub Own : AnyToken → Type 0
Own (token.Fault (Run run)) = IsTold run
Own t = Unit {0}

good_own : (t : AnyToken) → IsGood t → Own t
good_own (token.Fault (Run run)) good = good
good_own _ good = tt

strange_some : (b : ℕ) → has classes.Strange b ≡ true → b ≢ 0
strange_some zero is = absurd (false≢true is)
strange_some (suc b) is = λ never. absurd (cc)

front_some : (bytes : List ℕ) → Plain (front classes.Strange bytes)
front_some [] = plain_none
front_some (b ∷ bytes) = go (has classes.Strange b) refl (front_some bytes)
  where
    go : (t : Truth) → has classes.Strange b ≡ t → Plain (front classes.Strange bytes) → Plain (if t then b ∷ front classes.Strange bytes else [])
    go true e rest = plain_more b (front classes.Strange bytes) (strange_some b e) rest
    go false e rest = plain_none

take_told : (n : ℕ) (xs : List ℕ) → Plain xs → (length (take n xs) ≤ n) × Plain (take n xs)
take_told zero xs all = (omega arith, plain_none)
take_told (suc n) [] all = (omega arith, plain_none)
take_told (suc n) (x ∷ xs) all =
    let rest = take_told n xs (λ k d below. all (suc k) d (omega (arith, below))) in
    let le = rest.0 in
    (omega (arith, le), plain_more x (take n xs) (all zero zero (omega arith)) rest.1)

run_told : (bytes : List ℕ) → IsTold (take 63 (front classes.Strange bytes))
run_told bytes = take_told 63 (front classes.Strange bytes) (front_some bytes)

short_good : (text : List ℕ) (q : Truth) → Plain text → IsGood (name_token text q)
short_good text q plain = go (nat_le (length text) 63) refl
  where
    go : (t : Truth) → nat_le (length text) 63 ≡ t → IsGood (if t then token.Name (record { text = text; quoted = q }) else token.Fault LongName)
    go true e = (leb-true (length text) 63 e, plain)
    go false e = tt

name_some : (b : ℕ) → has classes.Name b ≡ true → b ≢ 0
name_some zero is = absurd (false≢true is)
name_some (suc b) is = λ never. absurd (cc)

lower_some : (b : ℕ) → b ≢ 0 → to_ascii_lowercase b ≢ 0
lower_some b some = go (nat_lt b 65) (nat_lt b 91)
  where
    go : (t u : Truth) → cond t b (cond u (b + 32) b) ≢ 0
    go true u = some
    go false true = λ none. absurd (omega (arith, none))
    go false false = some

name_plain : (bytes : List ℕ) → Plain (map to_ascii_lowercase (front classes.Name bytes))
name_plain [] = plain_none
name_plain (b ∷ bytes) = go (has classes.Name b) refl (name_plain bytes)
  where
    go : (t : Truth) → has classes.Name b ≡ t → Plain (map to_ascii_lowercase (front classes.Name bytes)) → Plain (map to_ascii_lowercase (if t then b ∷ front classes.Name bytes else []))
    go true e rest = plain_more (to_ascii_lowercase b) (map to_ascii_lowercase (front classes.Name bytes)) (lower_some b (name_some b e)) rest
    go false e rest = plain_none

called_good : (text : List ℕ) (t : AnyToken) → Plain text → IsCalled text t → IsGood t
called_good text t plain (inl word) = subst IsGood (sym word.2) tt
called_good text t plain (inr name) = subst IsGood (sym name.1) (short_good text false plain)

-- ---- names in quotes

skip : (x : ℕ) (xs : List ℕ) → x ≢ 0 → behind (classes.But 0) (x ∷ xs) ≡ behind (classes.But 0) xs
skip x xs some = ap (λ (t : Truth). if not t then behind (classes.But 0) xs else x ∷ xs) (ne_eqb x 0 some)

-- a name has no zero byte, or one is read next
scan : (text : List ℕ) → Plain text ⊎ ((more : List ℕ) × (behind (classes.But 0) (doubled 34 text ++ 34 ∷ []) ≡ 0 ∷ more))
scan [] = inl plain_none
scan (zero ∷ text) = inr (doubled 34 text ++ 34 ∷ [], refl)
scan (suc b ∷ text) = on (suc b == 34) (scan text)
  where
    rest : List ℕ
    rest = doubled 34 text ++ 34 ∷ []

    some : suc b ≢ 0
    some = λ none. absurd (cc)

    over : (t : Truth) → behind (classes.But 0) (((if t then 34 ∷ 34 ∷ [] else suc b ∷ []) ++ doubled 34 text) ++ 34 ∷ []) ≡ behind (classes.But 0) rest
    over true = refl
    over false = skip (suc b) rest some

    on : (t : Truth) → Plain text ⊎ ((more : List ℕ) × (behind (classes.But 0) rest ≡ 0 ∷ more))
        → Plain (suc b ∷ text) ⊎ ((more : List ℕ) × (behind (classes.But 0) (((if t then 34 ∷ 34 ∷ [] else suc b ∷ []) ++ doubled 34 text) ++ 34 ∷ []) ≡ 0 ∷ more))
    on t (inl plain) = inl (plain_more (suc b) text some plain)
    on t (inr (more, is)) = inr (more, over t ∙ is)

quoted : (bytes text after : List ℕ) → Closes 34 bytes text after → Plain text ⊎ ((more : List ℕ) × (next bytes after ≡ 0 ∷ more))
quoted bytes text after closes = on (scan text)
  where
    whole : take (length bytes - length after) bytes ≡ doubled 34 text ++ 34 ∷ []
    whole = before_last (doubled 34 text ++ 34 ∷ []) after bytes (closes.0 ∙ sym (append_assoc (doubled 34 text) (34 ∷ []) after))

    on : Plain text ⊎ ((more : List ℕ) × (behind (classes.But 0) (doubled 34 text ++ 34 ∷ []) ≡ 0 ∷ more)) → Plain text ⊎ ((more : List ℕ) × (next bytes after ≡ 0 ∷ more))
    on (inl plain) = inl plain
    on (inr (more, is)) = inr (more ++ after, ap (λ (xs : List ℕ). behind (classes.But 0) xs ++ after) whole ∙ ap (λ (xs : List ℕ). xs ++ after) is)

quoted_good : (text : List ℕ) → Plain text → IsGood (quoted_name text)
quoted_good [] plain = tt
quoted_good (b ∷ text) plain = short_good (b ∷ text) true plain

quoted_own : (text : List ℕ) → Own (quoted_name text)
quoted_own [] = tt
quoted_own (b ∷ text) = go (nat_le (length (b ∷ text)) 63)
  where
    go : (t : Truth) → Own (if t then token.Name (record { text = b ∷ text; quoted = true }) else token.Fault LongName)
    go true = tt
    go false = tt

-- ---- one token

-- good, or a zero byte is read next
abbrev Fine : AnyToken → List ℕ → Type 0
Fine t after = IsGood t ⊎ (Own t × ((more : List ℕ) × (after ≡ 0 ∷ more)))

same_token : (t u : AnyToken) → Token t ≡ Token u → t ≡ u
same_token t u e = cc

by_good : (t u : AnyToken) → Token t ≡ Token u → IsGood u → IsGood t
by_good t u e good = subst IsGood (sym (same_token t u e)) good

if_good : (b : Truth) (x y : AnyToken) → IsGood x → IsGood y → IsGood (if b then x else y)
if_good true x y p q = p
if_good false x y p q = q

two_good : (one two : Truth) (x y z : AnyToken) (a b c : List ℕ) (t : AnyToken) (after : List ℕ) → IsGood x → IsGood y → IsGood z
    → MatchBool one (Reads x a (Token t) after) (MatchBool two (Reads y b (Token t) after) (Reads z c (Token t) after)) → IsGood t
two_good true two x y z a b c t after p q r h = by_good t x h.0 p
two_good false true x y z a b c t after p q r h = by_good t y h.0 q
two_good false false x y z a b c t after p q r h = by_good t z h.0 r

whole_good : (n : ℕ) → IsGood (whole_token n)
whole_good n = go (nat_lt n (2 ^ 63)) (n == 2 ^ 63)
  where
    go : (t u : Truth) → IsGood (if t then token.Number (pos n) else if u then token.Least else token.Fault OutOfRange)
    go true u = tt
    go false true = tt
    go false false = tt

param_good : (n : ℕ) → IsGood (param_token n)
param_good n = go (n == 0) (nat_le n 1000)
  where
    go : (t u : Truth) → IsGood (if t then token.Fault Bad else if u then token.Param n else token.Fault LargeParam)
    go true u = tt
    go false true = tt
    go false false = tt

never_gap : (t : AnyToken) → Token t ≡ Gap → ⊥
never_gap t e = absurd (cc)

kind_good : (k : Kind) (bytes rest : List ℕ) (t : AnyToken) (after : List ℕ) → PieceBy k bytes rest (Token t) after → Fine t after
kind_good kinds.Letter bytes rest t after (u, called, reads) = inl (by_good t u reads.0 (called_good (map to_ascii_lowercase (front classes.Name bytes)) u (name_plain bytes) called))
kind_good kinds.Space bytes rest t after h = absurd (never_gap t h.0)
kind_good kinds.Digit bytes rest t after h =
    inl (by_good t _ h.0 (if_good (has_fraction (behind classes.Digit bytes)) (token.Fault Fraction) (whole_token (value_of (front classes.Digit bytes))) tt (whole_good (value_of (front classes.Digit bytes)))))
kind_good kinds.Strange bytes rest t after h =
    let run = front classes.Strange bytes in
    let left = behind classes.Strange bytes in
    inl (two_good (bytes_eq run (codes "||")) (bytes_eq run (codes "!") && begins_with 61 left) (token.Mark marks.Bars) (token.Mark marks.Unequal) (token.Fault (Run (take 63 run))) left (drop 1 left) left t after tt tt (run_told bytes) h)
kind_good kinds.Quote bytes rest t after (inl (text, behind_it, closes, reads)) = inl (by_good t (token.Str text) reads.0 tt)
kind_good kinds.Quote bytes rest t after (inr (never, reads)) = inl (by_good t (token.Fault Bad) reads.0 tt)
kind_good kinds.DoubleQuote bytes rest t after (inl (text, behind_it, closes, reads)) = on (quoted rest text behind_it closes)
  where
    on : Plain text ⊎ ((more : List ℕ) × (next rest behind_it ≡ 0 ∷ more)) → Fine t after
    on (inl plain) = inl (by_good t (quoted_name text) reads.0 (quoted_good text plain))
    on (inr (more, is)) = inr (subst Own (sym (same_token t (quoted_name text) reads.0)) (quoted_own text), (more, reads.1 ∙ is))
kind_good kinds.DoubleQuote bytes rest t after (inr (never, reads)) = inl (by_good t (token.Fault Bad) reads.0 tt)
kind_good kinds.Dollar bytes rest t after h = inl (by_good t (param_token (value_of (front classes.Digit rest))) h.0 (param_good (value_of (front classes.Digit rest))))
kind_good kinds.Dot bytes rest t after h = inl (by_good t _ h.0 (if_good (begins_digit rest) (token.Fault Fraction) (token.Mark marks.Dot) tt tt))
kind_good kinds.Minus bytes rest t after h = go (begins_with 45 rest) h
  where
    go : (b : Truth) → MatchBool b ((Token t ≡ Gap) × (after ≡ behind classes.Line rest)) (Reads (token.Mark marks.Minus) rest (Token t) after) → Fine t after
    go true x = absurd (never_gap t x.0)
    go false x = inl (by_good t (token.Mark marks.Minus) x.0 tt)
kind_good kinds.Slash bytes rest t after h = go (begins_with 42 rest) (after_end (drop 1 rest)) h
  where
    go : (b : Truth) (o : Option (List ℕ)) → MatchBool b (MatchOption o (Reads (token.Fault Bad) [] (Token t) after) (λ a. (Token t ≡ Gap) × (after ≡ next (drop 1 rest) a))) (Reads (token.Mark marks.Slash) rest (Token t) after) → Fine t after
    go true None x = inl (by_good t (token.Fault Bad) x.0 tt)
    go true (Some a) x = absurd (never_gap t x.0)
    go false o x = inl (by_good t (token.Mark marks.Slash) x.0 tt)
kind_good kinds.Less bytes rest t after h =
    inl (two_good (begins_with 61 rest) (begins_with 62 rest) (token.Mark marks.AtMost) (token.Mark marks.Unequal) (token.Mark marks.Less) (drop 1 rest) (drop 1 rest) rest t after tt tt tt h)
kind_good kinds.Greater bytes rest t after h = go (begins_with 61 rest) h
  where
    go : (b : Truth) → MatchBool b (Reads (token.Mark marks.AtLeast) (drop 1 rest) (Token t) after) (Reads (token.Mark marks.Greater) rest (Token t) after) → Fine t after
    go true x = inl (by_good t (token.Mark marks.AtLeast) x.0 tt)
    go false x = inl (by_good t (token.Mark marks.Greater) x.0 tt)
kind_good (kinds.Mark m) bytes rest t after h = inl (by_good t (token.Mark m) h.0 tt)
kind_good kinds.Other bytes rest t after h = inl (by_good t (token.Fault Bad) h.0 tt)

piece_good : (start : List ℕ) (t : AnyToken) (after : List ℕ) → PieceOf start (Token t) after → Fine t after
piece_good [] t after h = absurd h
piece_good (b ∷ bytes) t after h = kind_good (kind_of b) (b ∷ bytes) bytes t after h

piece_own : (t : AnyToken) (after : List ℕ) → Fine t after → Own t
piece_own t after (inl good) = good_own t good
piece_own t after (inr zero_next) = zero_next.0

-- ---- a zero byte is of no token

zero_piece : (bytes : List ℕ) (piece : Piece) (rest : List ℕ) → PieceOf (0 ∷ bytes) piece rest → piece ≡ Token (token.Fault Bad)
zero_piece bytes piece rest h = h.0

zero_gaps : (count : ℕ) (bytes rest : List ℕ) → Gaps count (0 ∷ bytes) rest → rest ≡ 0 ∷ bytes
zero_gaps zero bytes rest h = h
zero_gaps (suc count) bytes rest h = let never : Gap ≡ Token (token.Fault Bad) = zero_piece bytes Gap h.0 h.1 in absurd (cc)

fault_past : (f : TokenFault) → is_fault (past_limit (token.Fault f)) ≡ true
fault_past Bad = refl
fault_past _ = refl

past_is : (t : AnyToken) → is_fault (past_limit t) ≡ true
past_is (token.Fault f) = fault_past f
past_is _ = refl

-- there is a token, and the first is a fault
abbrev IsFaulty : List Placed → Type 0
IsFaulty [] = ⊥
IsFaulty (p ∷ more) = is_fault p.token ≡ true

zero_first : (size room : ℕ) (bytes : List ℕ) (placed : List Placed) → TokensFrom size room (0 ∷ bytes) placed → IsFaulty placed
zero_first size room bytes [] h = let never : [] ≡ 0 ∷ bytes = zero_gaps h.0 bytes [] h.1 in absurd (cc)
zero_first size zero bytes (p ∷ more) h = ap is_fault h.4 ∙ past_is h.0
zero_first size (suc room) bytes (p ∷ more) h =
    let start : h.0 ≡ 0 ∷ bytes = zero_gaps h.2.0 bytes h.0 h.2.1 in
    let piece : Token p.token ≡ Token (token.Fault Bad) = zero_piece bytes (Token p.token) h.1 (subst (λ (s : List ℕ). PieceOf s (Token p.token) h.1) start h.2.2) in
    ap is_fault (same_token p.token (token.Fault Bad) piece)

-- ---- a token and the next one: a name is told of, unless a fault follows it

abbrev pub Follows : AnyToken → AnyToken → Type 0
Follows (token.Name n) (token.Fault f) = Unit {0}
Follows (token.Name n) u = IsTold n.text
Follows t u = Unit {0}

follow_good : (t u : AnyToken) → IsGood t → Follows t u
follow_good (token.Name n) (token.Fault f) good = tt
follow_good (token.Name n) u good = good
follow_good t u good = tt

follow_fault : (t u : AnyToken) → is_fault u ≡ true → Follows t u
follow_fault (token.Name n) (token.Fault f) is = tt
follow_fault (token.Name n) u is = absurd (false≢true is)
follow_fault t u is = tt

abbrev pub Chain : List AnyToken → Type 0
Chain [] = Unit {0}
Chain (t ∷ []) = Unit {0}
Chain (t ∷ u ∷ ts) = Follows t u × Chain (u ∷ ts)

abbrev LinkOf : AnyToken → List Placed → Type 0
LinkOf t [] = Unit {0}
LinkOf t (q ∷ more) = Follows t q.token

link : (size room : ℕ) (t : AnyToken) (after : List ℕ) (more : List Placed) → Fine t after → TokensFrom size room (read_behind t after) more → LinkOf t more
link size room t after [] fine h = tt
link size room t after (q ∷ more) (inl good) h = follow_good t q.token good
link size room (token.Name n) after (q ∷ more) (inr (own, (left, is))) h =
    follow_fault (token.Name n) q.token (zero_first size room left (q ∷ more) (subst (λ (bs : List ℕ). TokensFrom size room bs (q ∷ more)) is h))
link size room t after (q ∷ more) (inr zero_follows) h = tt

chain_on : (p : Placed) (more : List Placed) → LinkOf p.token more → Chain (tokens_alone more) → Chain (tokens_alone (p ∷ more))
chain_on p [] first rest = tt
chain_on p (q ∷ more) first rest = (first, rest)

-- ---- all tokens

fault_own : (f : TokenFault) → Own (past_limit (token.Fault f))
fault_own Bad = tt
fault_own _ = tt

past_own : (t : AnyToken) → Own (past_limit t)
past_own (token.Fault f) = fault_own f
past_own _ = tt

-- the names that the tokens of a text of this size tell, and its places
abbrev pub AreTold : ℕ → List Placed → Type 0
AreTold size placed = Chain (tokens_alone placed) × (AllByRecursion Own (tokens_alone placed) × AllByRecursion (λ k. k ≤ size) (places_alone placed))

place_within : (place rest size : ℕ) → place + rest ≡ size → place ≤ size
place_within place rest size is = omega (arith, is)

tokens_told : (size room : ℕ) (bytes : List ℕ) (placed : List Placed) → TokensFrom size room bytes placed → AreTold size placed
tokens_told size room bytes [] h = (tt, (tt, tt))
tokens_told size zero bytes (p ∷ more) h =
    subst (λ (ps : List Placed). AreTold size (p ∷ ps)) (sym h.6)
    (tt, ((subst Own (sym h.4) (past_own h.0), tt), (place_within p.place (length h.1) size h.5, tt)))
tokens_told size (suc room) bytes (p ∷ more) h =
    let rest = tokens_told size room (read_behind p.token h.1) more h.4 in
    let fine = piece_good h.0 p.token h.1 h.2.2 in
    let first = link size room p.token h.1 more fine h.4 in
    (chain_on p more first rest.0, ((piece_own p.token h.1 fine, rest.1.0), (place_within p.place (length h.0) size h.3, rest.1.1)))

pub text_told : (text : List ℕ) (placed : List Placed) → TokensOf text placed → AreTold (length text) placed
unfolding TokensOf
text_told text placed h = tokens_told (length text) 65536 text placed h

-- ---- a token and those before it, the nearest first

abbrev pub Back : List AnyToken → Type 0
Back [] = Unit {0}
Back (u ∷ []) = Unit {0}
Back (u ∷ t ∷ ts) = Follows t u × Back (t ∷ ts)

back_on : (xs : List AnyToken) (u t : AnyToken) → Back (xs ++ u ∷ []) → Follows t u → Back ((xs ++ u ∷ []) ++ t ∷ [])
back_on [] u t back follows = (follows, tt)
back_on (x ∷ []) u t back follows = (back.0, (follows, tt))
back_on (x ∷ y ∷ xs) u t back follows = (back.0, back_on (y ∷ xs) u t back.1 follows)

reverse_on : (t : AnyToken) (ts : List AnyToken) → reverse (t ∷ ts) ≡ reverse ts ++ t ∷ []
reverse_on t ts = reverse-append (t ∷ []) ts

turned : (ts : List AnyToken) → Chain ts → Back (reverse ts)
turned [] chain = tt
turned (t ∷ []) chain = tt
turned (t ∷ u ∷ ts) chain =
    let others : Back (reverse ts ++ u ∷ []) = subst Back (reverse_on u ts) (turned (u ∷ ts) chain.1) in
    subst Back (sym (reverse_on t (u ∷ ts) ∙ ap (λ (z : List AnyToken). z ++ t ∷ []) (reverse_on u ts))) (back_on (reverse ts) u t others chain.0)

some_same : (a b : AnyToken) → Some a ≡ Some b → a ≡ b
some_same a b is = ap (λ (o : Option AnyToken). unwrap_or o a) is

reached : (ts : List AnyToken) (at : ℕ) (t : AnyToken) → slice_get ts at ≡ Some t → Chain ts → Chain (take at ts ++ t ∷ [])
reached [] at t is chain = absurd (none-some t is)
reached (u ∷ ts) zero t is chain = tt
reached (u ∷ []) (suc at) t is chain = absurd (none-some t is)
reached (u ∷ v ∷ ts) (suc zero) t is chain = (subst (Follows u) (some_same v t is) chain.0, tt)
reached (u ∷ v ∷ ts) (suc (suc at)) t is chain = (chain.0, reached (v ∷ ts) (suc at) t is chain.1)

own_at : (ts : List AnyToken) (at : ℕ) (t : AnyToken) → slice_get ts at ≡ Some t → AllByRecursion Own ts → Own t
own_at [] at t is all = absurd (none-some t is)
own_at (u ∷ ts) zero t is all = subst Own (some_same u t is) all.0
own_at (u ∷ ts) (suc at) t is all = own_at ts at t is all.1

-- the token at a place, if there is one
abbrev pub IsAt : List AnyToken → AnyToken → Type 0
IsAt before t = Own t × Back (t ∷ before)

pub at_told : (ts : List AnyToken) (at : ℕ) → Chain ts → AllByRecursion Own ts → IfSome (slice_get ts at) (IsAt (reverse (take at ts)))
at_told ts at chain all = go (slice_get ts at) refl
  where
    go : (o : Option AnyToken) → slice_get ts at ≡ o → IfSome o (IsAt (reverse (take at ts)))
    go None is = tt
    go (Some t) is = (own_at ts at t is all, subst Back (reverse-append (take at ts) (t ∷ [])) (turned (take at ts ++ t ∷ []) (reached ts at t is chain)))

pub place_at : (size : ℕ) (places : List ℕ) (i : ℕ) → AllByRecursion (λ k. k ≤ size) places → IfSome (slice_get places i) (λ k. k ≤ size)
place_at size [] i all = tt
place_at size (k ∷ places) zero all = all.0
place_at size (k ∷ places) (suc i) all = place_at size places i all.1
