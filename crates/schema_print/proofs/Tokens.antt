-- The tokens of bytes, one after the other.
use Rattle.std.proofs.Common.{◌≡◌, ◌∙◌, ◌≤◌, ◌+◌, ◌-◌, ℕ, zero, suc, List, [], ◌∷◌, ◌++◌, length, map, refl, sym, ap, subst, length-append, le_refl, arith}
use Rattle.sql_tokens.specs.declared.piece.Piece.TheVariants.{Token, Gap}
use Rattle.sql_tokens.specs.declared.token.Placed.{Placed}
use Rattle.sql_tokens.specs.declared.token.Token.{Token as AnyToken}
use Rattle.sql_tokens.specs.Pieces.{PieceOf}
use Rattle.sql_tokens.specs.Tokens.{Gaps, TokenOf, TokensFrom, TokensOf, read_behind}

-- the token is no fault
abbrev pub GoesOn : AnyToken → Type 0
GoesOn token = (after : List ℕ) → read_behind token after ≡ after

-- the first token of the bytes, and what is behind it
pub record First (bytes : List ℕ) (token : AnyToken) (after : List ℕ) : Type 0 where
  pub start : List ℕ
  pub is : TokenOf bytes token start after
  pub short : length start ≤ length bytes
  pub shorter : length after ≤ length start
  pub sound : GoesOn token

-- the bytes are these tokens, one after the other
abbrev pub AreRead : List ℕ → List AnyToken → Type 0
AreRead bytes [] = (count : ℕ) × Gaps count bytes []
AreRead bytes (token ∷ tokens) = (after : List ℕ) × First bytes token after × AreRead after tokens

pub none_read : AreRead [] []
none_read = (zero, refl)

-- a token in front of others
pub token_read : (text rest : List ℕ) (token : AnyToken) (tokens : List AnyToken) → GoesOn token → PieceOf (text ++ rest) (Token token) rest
    → AreRead rest tokens → AreRead (text ++ rest) (token ∷ tokens)
token_read text rest token tokens sound piece others =
    let long = length-append text rest in
    (rest, record { start = text ++ rest; is = (zero, refl, piece); short = le_refl (length (text ++ rest)); shorter = omega arith; sound = sound }, others)

-- a gap of one byte in front of them
pub gap_read : (b : ℕ) (bytes : List ℕ) (tokens : List AnyToken) → PieceOf (b ∷ bytes) Gap bytes → AreRead bytes tokens → AreRead (b ∷ bytes) tokens
gap_read b bytes [] gap (count, gaps) = (suc count, (bytes, gap, gaps))
gap_read b bytes (token ∷ tokens) gap (after, first, others) =
    let short = first.short in
    let is = first.is in
    (after, record { start = first.start; is = (suc is.0, (bytes, gap, is.1), is.2); short = omega (arith, short); shorter = first.shorter; sound = first.sound }, others)

pub space_read : (bytes : List ℕ) (tokens : List AnyToken) → AreRead bytes tokens → AreRead (32 ∷ bytes) tokens
space_read bytes tokens read = gap_read 32 bytes tokens (refl, refl) read

pub line_read : (bytes : List ℕ) (tokens : List AnyToken) → AreRead bytes tokens → AreRead (10 ∷ bytes) tokens
line_read bytes tokens read = gap_read 10 bytes tokens (refl, refl) read

-- with their places, where there is room for all
pub placed : (size room : ℕ) (bytes : List ℕ) (tokens : List AnyToken) → length bytes ≤ size → length tokens ≤ room → AreRead bytes tokens
    → (found : List Placed) × (map (λ (p : Placed). p.token) found ≡ tokens) × TokensFrom size room bytes found
placed size room bytes [] short few read = ([], refl, read)
placed size zero bytes (token ∷ tokens) short few read = absurd (omega arith)
placed size (suc room) bytes (token ∷ tokens) short few (after, first, others) =
    let f = first.short in
    let g = first.shorter in
    let more = placed size room after tokens (omega (arith, f, g)) (omega arith) others in (
      record { token = token; place = size - length first.start } ∷ more.0,
      ap (λ ts. token ∷ ts) more.1,
      (
        first.start,
        after,
        first.is,
        omega (arith, f),
        subst (λ bytes. TokensFrom size room bytes more.0) (sym (first.sound after)) more.2,
      ),
    )

-- the tokens of a text
pub tokens_of_text : (text : List ℕ) (tokens : List AnyToken) → length tokens ≤ 65536 → AreRead text tokens
    → (found : List Placed) × (map (λ (p : Placed). p.token) found ≡ tokens) × TokensOf text found
unfolding TokensOf
tokens_of_text text tokens few read = placed (length text) 65536 text tokens (le_refl (length text)) few read
