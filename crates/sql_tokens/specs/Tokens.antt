-- The tokens of a text.
use Rattle.std.specs.Prelude.{◌≡◌, ◌+◌, ℕ, zero, suc, List, [], ◌∷◌, length}
use Rattle.sql_tokens.specs.declared.token.Token.{Token as AnyToken}
use Rattle.sql_tokens.specs.declared.token.Token.TheVariants.{Fault}
use Rattle.sql_tokens.specs.declared.token.TokenFault.TheVariants.{Bad, TooMany}
use Rattle.sql_tokens.specs.declared.token.Placed.{Placed}
use Rattle.sql_tokens.specs.declared.piece.Piece.TheVariants.{Gap, Token}
use Rattle.sql_tokens.specs.Pieces.{PieceOf}

-- that many gaps at the front, one after the other, and then the rest
abbrev pub Gaps : ℕ → List ℕ → List ℕ → Type 0
Gaps zero bytes rest = rest ≡ bytes
Gaps (suc count) bytes rest = (mid : List ℕ) × PieceOf bytes Gap mid × Gaps count mid rest

-- gaps and then this token; where it begins, and what follows it
abbrev pub TokenOf : List ℕ → AnyToken → List ℕ → List ℕ → Type 0
TokenOf bytes token start after = (count : ℕ) × Gaps count bytes start × PieceOf start (Token token) after

-- what is read behind a token: nothing behind a fault
abbrev pub read_behind : AnyToken → List ℕ → List ℕ
read_behind (Fault fault) after = []
read_behind _ after = after

-- the token in place of one for which there is no room; what is no token stays
abbrev pub past_limit : AnyToken → AnyToken
past_limit (Fault Bad) = Fault Bad
past_limit _ = Fault TooMany

-- the tokens of the last bytes of a text of `size` bytes, where there is room for so many tokens
abbrev pub TokensFrom : ℕ → ℕ → List ℕ → List Placed → Type 0
TokensFrom size room bytes [] = (count : ℕ) × Gaps count bytes []
TokensFrom size zero bytes (placed ∷ more) = (token : AnyToken) × (start after : List ℕ)
    × TokenOf bytes token start after × (placed.token ≡ past_limit token)
    × (placed.place + length start ≡ size) × (more ≡ [])
TokensFrom size (suc room) bytes (placed ∷ more) = (start after : List ℕ)
    × TokenOf bytes placed.token start after × (placed.place + length start ≡ size)
    × TokensFrom size room (read_behind placed.token after) more

-- the tokens of a text with their places, up to its first fault
unfoldable pub TokensOf : List ℕ → List Placed → Type 0
TokensOf text tokens = TokensFrom (length text) 65536 text tokens
