-- The names and strings of a text, where no token is a fault.
use Rattle.std.proofs.Common.{◌≡◌, ◌∙◌, ℕ, zero, suc, List, [], ◌∷◌, length, refl, subst, inl, inr}
use Rattle.std.specs.List.{AllByRecursion}
use Rattle.sql_tokens.specs.declared.piece.Piece.TheVariants.{Gap, Token}
use Rattle.sql_tokens.specs.declared.token.Placed.{Placed}
use Rattle.sql_tokens.specs.declared.token.Token.{Token as AnyToken}
use Rattle.sql_tokens.specs.declared.token.Token.TheVariants as token
use Rattle.sql_tokens.specs.declared.token.TokenFault.TheVariants.{Bad}
use Rattle.sql_tokens.specs.Pieces.{PieceOf}
use Rattle.sql_tokens.specs.Tokens.{TokensFrom, TokensOf, read_behind, past_limit}
use Rattle.schema.specs.Reading.{tokens_of}
use Rattle.sql_profile.proofs.Faults.{IsSound, AreSound}
use Rattle.sql_profile.proofs.SchemaPieces.{IsClean, CleanOr, clean_piece}

abbrev pub AreClean : List AnyToken → Type 0
AreClean tokens = AllByRecursion IsClean tokens

behind_sound : (t : AnyToken) (after : List ℕ) → IsSound t → read_behind t after ≡ after
behind_sound (token.Fault fault) after sound = absurd sound
behind_sound _ after sound = refl

past : (t : AnyToken) → IsSound (past_limit t) → ⊥
past (token.Fault Bad) sound = sound
past _ sound = sound

-- no gap begins with a zero byte, and a token that does is a fault
no_gap : (rest after : List ℕ) → PieceOf (0 ∷ rest) Gap after → ⊥
no_gap rest after is = let e : Gap ≡ Token (token.Fault Bad) = is.0 in absurd (cc)

zero_token : (rest after : List ℕ) (t : AnyToken) → PieceOf (0 ∷ rest) (Token t) after → IsSound t → ⊥
zero_token rest after t is sound =
    let e : Token t ≡ Token (token.Fault Bad) = is.0 in
    let same : t ≡ token.Fault Bad = cc in
    subst IsSound same sound

zero_first : (size room : ℕ) (rest : List ℕ) (placed : List Placed) → TokensFrom size room (0 ∷ rest) placed → AreSound (tokens_of placed) → ⊥
zero_first size room rest [] (zero, ends) sound = absurd (cc)
zero_first size room rest [] (suc count, gaps) sound = no_gap rest gaps.0 gaps.1
zero_first size zero rest (p ∷ placed) (t, start, after, of, is, place, none) sound = past t (subst IsSound is sound.0)
zero_first size (suc room) rest (p ∷ placed) (start, after, (zero, begins, piece), place, others) sound =
    zero_token rest after p.token (subst (λ (xs : List ℕ). PieceOf xs (Token p.token) after) begins piece) sound.0
zero_first size (suc room) rest (p ∷ placed) (start, after, (suc count, gaps, piece), place, others) sound = no_gap rest gaps.0 gaps.1

all_from : (size room : ℕ) (bytes : List ℕ) (placed : List Placed) → TokensFrom size room bytes placed → AreSound (tokens_of placed) → AreClean (tokens_of placed)
all_from size room bytes [] from sound = tt
all_from size zero bytes (p ∷ placed) (t, start, after, of, is, place, none) sound = absurd (past t (subst IsSound is sound.0))
all_from size (suc room) bytes (p ∷ placed) (start, after, (count, gaps, piece), place, others) sound =
    (go (clean_piece p.token after start piece), all_from size room (read_behind p.token after) placed others sound.1)
  where
    go : CleanOr p.token after → IsClean p.token
    go (inl clean) = clean
    go (inr (rest, begins)) =
        absurd (zero_first size room rest placed
        (subst (λ (xs : List ℕ). TokensFrom size room xs placed) (behind_sound p.token after sound.0 ∙ begins) others) sound.1)

pub all_clean : (text : List ℕ) (placed : List Placed) → TokensOf text placed → AreSound (tokens_of placed) → AreClean (tokens_of placed)
unfolding TokensOf
all_clean text placed of sound = all_from (length text) 65536 text placed of sound
