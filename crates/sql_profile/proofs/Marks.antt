-- Marks, as they are written, are read back.
use Rattle.std.proofs.Common.{◌≡◌, ◌∙◌, ◌==◌, ◌&&◌, ℕ, Bool, true, false, List, [], ◌∷◌, ◌++◌, refl, sym, ap, subst, if◌then◌else◌}
use Rattle.std.specs.Prelude.{MatchBool, codes, bytes_eq}
use Rattle.sql_tokens.specs.declared.bytes.Class.TheVariants as classes
use Rattle.sql_tokens.specs.declared.mark.Mark.{Mark}
use Rattle.sql_tokens.specs.declared.mark.Mark.TheVariants as marks
use Rattle.sql_tokens.specs.declared.piece.Piece.{Piece}
use Rattle.sql_tokens.specs.declared.piece.Piece.TheVariants.{Token}
use Rattle.sql_tokens.specs.declared.token.Token.TheVariants.{Mark as MarkToken, Fault}
use Rattle.sql_tokens.specs.declared.token.TokenFault.TheVariants.{Fraction}
use Rattle.sql_tokens.specs.Bytes.{begins_with, begins_digit, front, behind}
use Rattle.sql_tokens.specs.Pieces.{Reads, RunOf, DotOf, MinusOf, SlashOf, LessOf, GreaterOf, PieceOf}
use Rattle.sql_print.specs.Spelling.{mark_text}
use Rattle.sql_profile.proofs.Runs.{Stops, run_front, run_behind, IsCalm, calm_strange, calm_ordinary}

-- where the test fails
other : (t : Bool) (P Q : Type 0) → t ≡ false → Q → MatchBool t P Q
other t P Q e y = subst (λ (t : Bool). MatchBool t P Q) (sym e) y

pub minus_piece : (rest : List ℕ) → begins_with 45 rest ≡ false → PieceOf (45 ∷ rest) (Token (MarkToken marks.Minus)) rest
minus_piece rest e = other (begins_with 45 rest) _ _ e (refl, refl)

pub dot_piece : (rest : List ℕ) → begins_digit rest ≡ false → PieceOf (46 ∷ rest) (Token (MarkToken marks.Dot)) rest
dot_piece rest e = (ap (λ (t : Bool). Token (if t then Fault Fraction else MarkToken marks.Dot)) (sym e), refl)

slash_piece : (rest : List ℕ) → begins_with 42 rest ≡ false → PieceOf (47 ∷ rest) (Token (MarkToken marks.Slash)) rest
slash_piece rest e = other (begins_with 42 rest) _ _ e (refl, refl)

less_piece : (rest : List ℕ) → begins_with 61 rest ≡ false → begins_with 62 rest ≡ false
    → PieceOf (60 ∷ rest) (Token (MarkToken marks.Less)) rest
less_piece rest e f = other (begins_with 61 rest) _ _ e (other (begins_with 62 rest) _ _ f (refl, refl))

greater_piece : (rest : List ℕ) → begins_with 61 rest ≡ false → PieceOf (62 ∷ rest) (Token (MarkToken marks.Greater)) rest
greater_piece rest e = other (begins_with 61 rest) _ _ e (refl, refl)

bars_piece : (rest : List ℕ) → Stops classes.Strange rest → PieceOf (codes "||" ++ rest) (Token (MarkToken marks.Bars)) rest
bars_piece rest stop =
    let f = run_front classes.Strange (codes "||") rest refl stop in
    let b = run_behind classes.Strange (codes "||") rest refl stop in
    subst (λ (xs : List ℕ). RunOf xs (behind classes.Strange (codes "||" ++ rest)) (Token (MarkToken marks.Bars)) rest) (sym f) (refl, sym b)

-- a mark other than `.`, in front of what may stand behind any token
pub mark_piece : (m : Mark) (rest : List ℕ) → IsCalm rest → begins_digit rest ≡ false → PieceOf (mark_text m ++ rest) (Token (MarkToken m)) rest
mark_piece marks.Open rest calm digit = (refl, refl)
mark_piece marks.Close rest calm digit = (refl, refl)
mark_piece marks.Comma rest calm digit = (refl, refl)
mark_piece marks.Semicolon rest calm digit = (refl, refl)
mark_piece marks.Dot rest calm digit = dot_piece rest digit
mark_piece marks.Star rest calm digit = (refl, refl)
mark_piece marks.Slash rest calm digit = slash_piece rest (calm_ordinary rest calm).2
mark_piece marks.Percent rest calm digit = (refl, refl)
mark_piece marks.Plus rest calm digit = (refl, refl)
mark_piece marks.Minus rest calm digit = minus_piece rest (calm_ordinary rest calm).3
mark_piece marks.Equal rest calm digit = (refl, refl)
mark_piece marks.Unequal rest calm digit = (refl, refl)
mark_piece marks.Less rest calm digit = less_piece rest (calm_ordinary rest calm).4 (calm_ordinary rest calm).5
mark_piece marks.AtMost rest calm digit = (refl, refl)
mark_piece marks.Greater rest calm digit = greater_piece rest (calm_ordinary rest calm).4
mark_piece marks.AtLeast rest calm digit = (refl, refl)
mark_piece marks.Bars rest calm digit = bars_piece rest (calm_strange rest calm)

pub open_piece : (rest : List ℕ) → PieceOf (40 ∷ rest) (Token (MarkToken marks.Open)) rest
open_piece rest = (refl, refl)
