-- A plain name, however long it is, is read as a name, or as one that is too long.
use Rattle.std.proofs.Common.{◌≡◌, ◌∙◌, ◌==◌, ◌||◌, ◌&&◌, ◌<◌, not, ℕ, Bool, true, false, List, [], ◌∷◌, ◌++◌, get_or, map, refl, sym, ap, ap₂, subst, inl, inr, arith}
use Rattle.std.specs.Prelude.{bytes_eq, ◌≢◌}
use Rattle.std.specs.List.{list_all}
use Rattle.std.specs.Char.{to_ascii_lowercase}
use Rattle.std.proofs.lemmas.Bool.{and_parts, and_from, or_cases, or_left, eqb-true, true≢false, not-true, agree_below_at}
use Rattle.std.proofs.lemmas.Bool.Decides.{nat_tests}
use Rattle.std.proofs.lemmas.List.Folds.{list_any_at}
use Rattle.std.proofs.lemmas.Slice.Eq.{bytes_eq-Decides}
use Rattle.sql_tokens.specs.declared.bytes.Class.TheVariants as classes
use Rattle.sql_tokens.specs.declared.piece.Piece.TheVariants.{Token}
use Rattle.sql_tokens.specs.declared.word.Word.{Word}
use Rattle.sql_tokens.specs.declared.word.TheConstants.{WORDS}
use Rattle.sql_tokens.specs.Words.{spelling}
use Rattle.sql_tokens.specs.Bytes.{has, begins_name}
use Rattle.sql_tokens.specs.Pieces.{IsCalled, PieceOf, name_token}
use Rattle.sql_tokens.proofs.Words.{every_word}
use Rattle.sql_print.specs.Spelling.{begins_plain, goes_on_plain, is_plain, is_reserved}
use Rattle.sql_profile.proofs.Runs.{Stops}
use Rattle.sql_profile.proofs.NamesAgain.{called_piece}

-- what a plain name's bytes are
abbrev plain_byte : ℕ → Bool
plain_byte b = not (goes_on_plain b) || (has classes.Name b && (to_ascii_lowercase b == b))

plain_low : (b : ℕ) → goes_on_plain b ≡ true → b < 128
plain_low b e = grind (arith, nat_tests)

plain_is : (b : ℕ) → goes_on_plain b ≡ true → (has classes.Name b ≡ true) × (to_ascii_lowercase b ≡ b)
plain_is b e =
    let shown : plain_byte b ≡ true = agree_below_at plain_byte (λ _. true) 128 b refl (plain_low b e) in
    elim (or_cases (not (goes_on_plain b)) (has classes.Name b && (to_ascii_lowercase b == b)) shown) [
      | inl fails ↦ absurd (true≢false (sym e ∙ not-true (goes_on_plain b) fails))
      | inr holds ↦ (let parts = and_parts (has classes.Name b) (to_ascii_lowercase b == b) holds in (parts.0, eqb-true (to_ascii_lowercase b) b parts.1))
    ]

abbrev first_byte : ℕ → Bool
first_byte b = not (begins_plain b) || begins_name b

plain_first : (b : ℕ) → begins_plain b ≡ true → begins_name b ≡ true
plain_first b e =
    let low = plain_low b (or_left (begins_plain b) _ e) in
    let shown : first_byte b ≡ true = agree_below_at first_byte (λ _. true) 128 b refl low in
    elim (or_cases (not (begins_plain b)) (begins_name b) shown) [
      | inl fails ↦ absurd (true≢false (sym e ∙ not-true (begins_plain b) fails))
      | inr holds ↦ holds
    ]

plain_run : (run : List ℕ) → list_all goes_on_plain run ≡ true
    → (list_all (has classes.Name) run ≡ true) × (map to_ascii_lowercase run ≡ run)
plain_run [] all = (refl, refl)
plain_run (b ∷ run) all =
    let parts = and_parts (goes_on_plain b) (list_all goes_on_plain run) all in
    let here = plain_is b parts.0 in
    let later = plain_run run parts.1 in (
      and_from (has classes.Name b) (list_all (has classes.Name) run) here.0 later.0,
      ap₂ (λ (x : ℕ) (xs : List ℕ). x ∷ xs) here.1 later.1,
    )

not_reserved : (text : List ℕ) → is_reserved text ≡ false → (word : Word) → spelling word ≢ text
not_reserved text free word e =
    let at = every_word word in
    let here : bytes_eq (spelling word) text ≡ true = (bytes_eq-Decides (spelling word) text).1 e in
    let there : bytes_eq (spelling (get_or WORDS at.0 word)) text ≡ true = ap (λ (w : Word). bytes_eq (spelling w) text) at.2 ∙ here in
    true≢false (sym (list_any_at (λ (w : Word). bytes_eq (spelling w) text) WORDS at.0 word at.1 there) ∙ free)

pub plain_written : (text rest : List ℕ) → is_plain text ≡ true → Stops classes.Name rest → PieceOf (text ++ rest) (Token (name_token text false)) rest
plain_written [] rest plain stop = absurd (true≢false (sym plain))
plain_written (b ∷ run) rest plain stop =
    let parts = and_parts (begins_plain b) (list_all goes_on_plain run && not (is_reserved (b ∷ run))) plain in
    let others = and_parts (list_all goes_on_plain run) (not (is_reserved (b ∷ run))) parts.1 in
    let lowered = plain_run run others.0 in
    let first = plain_is b (or_left (begins_plain b) _ parts.0) in
    let same : map to_ascii_lowercase (b ∷ run) ≡ b ∷ run = ap₂ (λ (x : ℕ) (xs : List ℕ). x ∷ xs) first.1 lowered.1 in
    called_piece b run rest (name_token (b ∷ run) false) (plain_first b parts.0) lowered.0 stop
    (subst (λ (xs : List ℕ). IsCalled xs (name_token (b ∷ run) false)) (sym same)
    (inr (not_reserved (b ∷ run) (not-true (is_reserved (b ∷ run)) others.1), refl)))
