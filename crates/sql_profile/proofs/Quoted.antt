-- Texts in quotes, as they are written, are read back.
use Rattle.std.proofs.Common.{◌≡◌, ◌∙◌, ◌==◌, ◌<◌, ◌-◌, not, ℕ, Bool, true, false, List, [], ◌∷◌, ◌++◌, length, take, refl, sym, ap, subst, inl, if◌then◌else◌, append_assoc, lit<, arith}
use Rattle.std.proofs.lemmas.Bool.{eqb-true, ne_eqb, cond-true, cond-false}
use Rattle.std.specs.List.{flat_map}
use Rattle.sql_tokens.specs.declared.bytes.Class.TheVariants.{But}
use Rattle.sql_tokens.specs.declared.piece.Piece.TheVariants.{Token}
use Rattle.sql_tokens.specs.declared.token.Token.{Token as AnyToken}
use Rattle.sql_tokens.specs.declared.token.Token.TheVariants.{Str, Name as NameToken}
use Rattle.sql_tokens.specs.Bytes.{begins_with, behind}
use Rattle.sql_tokens.specs.Pieces.{doubled, Closes, QuotedOf, PieceOf, next, quoted_name}
use Rattle.sql_tokens.proofs.Runs.{before_last}
use Rattle.sql_print.specs.Spelling.{inside, in_quotes}
use Rattle.sql_profile.specs.Lexemes.{HasNoZero}

no_zero_append : (xs ys : List ℕ) → HasNoZero xs → HasNoZero ys → HasNoZero (xs ++ ys)
no_zero_append [] ys x y = y
no_zero_append (b ∷ xs) ys x y = (x.0, no_zero_append xs ys x.1 y)

no_zero_inside : (q b : ℕ) → 0 < q → 0 < b → HasNoZero (inside q b)
no_zero_inside q b some more = go (b == q)
  where
    go : (t : Bool) → HasNoZero (if t then q ∷ q ∷ [] else b ∷ [])
    go true = (some, (some, tt))
    go false = (more, tt)

no_zero_doubled : (q : ℕ) (text : List ℕ) → 0 < q → HasNoZero text → HasNoZero (flat_map (inside q) text)
no_zero_doubled q [] some all = tt
no_zero_doubled q (b ∷ text) some all =
    no_zero_append (inside q b) (flat_map (inside q) text) (no_zero_inside q b some all.0) (no_zero_doubled q text some all.1)

none_behind : (bytes : List ℕ) → HasNoZero bytes → behind (But 0) bytes ≡ []
none_behind [] all = refl
none_behind (b ∷ bytes) all =
    let apart : (b == 0) ≡ false = ne_eqb b 0 (λ e. absurd (omega arith)) in
    ap (λ (t : Bool). if not t then behind (But 0) bytes else b ∷ bytes) apart ∙ none_behind bytes all.1

pub quoted_of : (q : ℕ) → 0 < q → (made : List ℕ → AnyToken) (text rest : List ℕ) → HasNoZero text → begins_with q rest ≡ false
    → QuotedOf q made ((flat_map (inside q) text ++ q ∷ []) ++ rest) (Token (made text)) rest
quoted_of q some made text rest all ends =
    let inner = flat_map (inside q) text ++ q ∷ [] in
    let closed : inner ++ rest ≡ doubled q text ++ q ∷ rest = append_assoc (flat_map (inside q) text) (q ∷ []) rest in
    let before : take (length (inner ++ rest) - length rest) (inner ++ rest) ≡ inner = before_last inner rest (inner ++ rest) refl in
    let clean : behind (But 0) inner ≡ [] =
    none_behind inner (no_zero_append (flat_map (inside q) text) (q ∷ []) (no_zero_doubled q text some all) (some, tt)) in
    let after : next (inner ++ rest) rest ≡ rest =
    ap (λ (xs : List ℕ). behind (But 0) xs ++ rest) before ∙ ap (λ (xs : List ℕ). xs ++ rest) clean in
    inl (text, rest, (closed, ends), (refl, sym after))

pub string_piece : (text rest : List ℕ) → HasNoZero text → begins_with 39 rest ≡ false
    → PieceOf (in_quotes 39 text ++ rest) (Token (Str text)) rest
string_piece text rest all ends = quoted_of 39 (lit< tt) Str text rest all ends

pub quoted_piece : (text rest : List ℕ) → HasNoZero text → begins_with 34 rest ≡ false
    → PieceOf (in_quotes 34 text ++ rest) (Token (quoted_name text)) rest
quoted_piece text rest all ends = quoted_of 34 (lit< tt) quoted_name text rest all ends
