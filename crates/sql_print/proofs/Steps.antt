-- Tokens behind tokens.
use Rattle.std.proofs.Common.{◌≡◌, ℕ, ◌+◌, ◌<◌, get_or, take, length, List, [], ◌∷◌, ◌++◌, ◌||◌, refl, ap, sym, ◌∙◌, append_assoc, if◌then◌else◌}
use Rattle.std.specs.Prelude.{Option, Some, None}
use Rattle.std.specs.List.{flat_map}
use Rattle.std.proofs.lemmas.List.{append-nil, flat_map_more, take_more}
use Rattle.sql_print.specs.declared.between.Between.{Between}
use Rattle.sql_print.specs.Between.{between_token, before_tokens}
use Rattle.sql_print.specs.Printed.{joined}
use Rattle.sql_print.specs.Spelling.{Lexeme, spaced, spelled, holds, clings}
use Rattle.sql_print.specs.Writing.{State, put, after}

-- some tokens, and then others
pub after_append : (s : State) (xs ys : List Lexeme) → after s (xs ++ ys) ≡ after (after s xs) ys
after_append s [] ys = refl
after_append s (x ∷ xs) ys = after_append (put s x) xs ys

-- one item more
pub after_more : {A : Type 0} (f : A → List Lexeme) (s : State) (xs : List A) (x : A)
    → after s (flat_map f (xs ++ x ∷ [])) ≡ after (after s (flat_map f xs)) (f x)
after_more f s xs x = ap (after s) (sym (flat_map_more f [] xs x)) ∙ after_append s (flat_map f xs) (f x)

-- what stands before the next item, behind these
abbrev pub standing : {A : Type 0} → Between → List A → Option Between
standing between [] = None
standing between (x ∷ xs) = Some between

pub standing_more : {A : Type 0} (between : Between) (xs : List A) (x : A) → standing between (xs ++ x ∷ []) ≡ Some between
standing_more between [] x = refl
standing_more between (y ∷ ys) x = refl

-- one item more in a list with a token between two
pub joined_more : {A : Type 0} (between : Between) (f : A → List Lexeme) (s : State) (xs : List A) (x : A)
    → after s (joined (between_token between) f (xs ++ x ∷ []))
    ≡ after (after (after s (joined (between_token between) f xs)) (before_tokens (standing between xs))) (f x)
joined_more between f s [] x = ap (after s) (append-nil (f x))
joined_more between f s (y ∷ ys) x =
    ap (after s) (sym (flat_map_more (λ z. between_token between ∷ f z) (f y) ys x))
    ∙ after_append s (f y ++ flat_map (λ z. between_token between ∷ f z) ys) (between_token between ∷ f x)

-- a step of a loop over items
pub after_next : {A : Type 0} (f : A → List Lexeme) (s mid new : State) (xs : List A) (i : ℕ) (x d : A) → i < length xs → x ≡ get_or xs i d
    → mid ≡ after s (flat_map f (take i xs)) → new ≡ after mid (f x) → new ≡ after s (flat_map f (take (i + 1) xs))
after_next f s mid new xs i x d below is so_far now =
    now ∙ ap (λ m. after m (f x)) so_far
    ∙ ap (λ y. after (after s (flat_map f (take i xs))) (f y)) is
    ∙ sym (after_more f s (take i xs) (get_or xs i d))
    ∙ ap (λ ys. after s (flat_map f ys)) (sym (take_more xs i d below))

-- a step of a loop over items with a token between two
pub joined_next : {A : Type 0} (between : Between) (f : A → List Lexeme) (s mid told new : State) (xs : List A) (i : ℕ) (x d : A) (before : Option Between)
    → i < length xs → x ≡ get_or xs i d
    → (mid ≡ after s (joined (between_token between) f (take i xs))) × (before ≡ standing between (take i xs))
    → told ≡ after mid (before_tokens before) → new ≡ after told (f x)
    → (new ≡ after s (joined (between_token between) f (take (i + 1) xs))) × (Some between ≡ standing between (take (i + 1) xs))
joined_next between f s mid told new xs i x d before below is so_far told_is now =
    let front = joined (between_token between) f (take i xs) in (
      now ∙ ap (λ t. after t (f x)) told_is
          ∙ ap (λ m. after (after m (before_tokens before)) (f x)) so_far.0
          ∙ ap (λ b. after (after (after s front) (before_tokens b)) (f x)) so_far.1
          ∙ ap (λ y. after (after (after s front) (before_tokens (standing between (take i xs)))) (f y)) is
          ∙ sym (joined_more between f s (take i xs) (get_or xs i d))
          ∙ ap (λ ys. after s (joined (between_token between) f ys)) (sym (take_more xs i d below)),
      sym (standing_more between (take i xs) (get_or xs i d)) ∙ ap (λ ys. standing between ys) (sym (take_more xs i d below)),
    )

-- what the tokens add to a text is their text
pub after_text : (s : State) (xs : List Lexeme) → (after s xs).text ≡ s.text ++ spaced s.held xs
after_text s [] = sym (append-nil s.text)
after_text s (x ∷ xs) = after_text (put s x) xs
    ∙ (append_assoc s.text ((if s.held || clings x then [] else 32 ∷ []) ++ spelled x) (spaced (holds x) xs)
    ∙ ap (λ more. s.text ++ more) (append_assoc (if s.held || clings x then [] else 32 ∷ []) (spelled x) (spaced (holds x) xs)))
