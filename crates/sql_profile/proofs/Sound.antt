-- Lexemes that may stand in front of any that a space or a mark may follow.
use Rattle.std.proofs.Common.{◌≡◌, ◌∙◌, ◌==◌, ◌&&◌, ◌≤◌, ◌<◌, ◌+◌, ◌^◌, not, ℕ, List, [], ◌∷◌, ◌++◌, length, Bool, true, false, Option, Some, None, refl, sym, ap, subst, append_assoc, lit<, arith, if◌then◌else◌}
use Rattle.std.specs.Prelude.{codes}
use Rattle.std.specs.List.{flat_map}
use Rattle.std.proofs.lemmas.Bool.{true≢false}
use Rattle.sql_tokens.specs.declared.mark.Mark.{Mark}
use Rattle.sql_tokens.specs.declared.mark.Mark.TheVariants as marks
use Rattle.sql_tokens.specs.declared.word.Word.{Word}
use Rattle.sql_tokens.specs.declared.word.Word.TheVariants as words
use Rattle.sql_tree.specs.declared.expr.Comparison.{Comparison}
use Rattle.sql_tree.specs.declared.expr.Comparison.TheVariants as comparison
use Rattle.sql_tree.specs.declared.expr.ProductSign.{ProductSign}
use Rattle.sql_tree.specs.declared.expr.ProductSign.TheVariants as product_sign
use Rattle.sql_print.specs.Spelling.{Lexeme, word, mark, sign, name, function, command, whole, string, param, is_plain, begins_plain, in_quotes, spelled}
use Rattle.sql_print.specs.Printed.{enclosed, joined, compares, multiplies, adds, test, truth, column, call}
use Rattle.sql_profile.proofs.Each.{Each}
use Rattle.sql_profile.proofs.Spaced.{first_is, is_dot, is_no_minus, Flows, Follows}

-- lexemes that may stand behind any
abbrev pub Ready : List Lexeme → Type 0
Ready xs = Flows xs × (first_is is_dot xs ≡ false)

-- before such there may stand these, and they are such
abbrev pub Sound : List Lexeme → Type 0
Sound xs = (ys : List Lexeme) → Ready ys → Ready (xs ++ ys)

pub ready_none : Ready []
ready_none = (tt, refl)

pub sound_none : Sound []
sound_none ys r = r

pub sound_append : (xs ys : List Lexeme) → Sound xs → Sound ys → Sound (xs ++ ys)
sound_append xs ys x y zs r = subst Ready (sym (append_assoc xs ys zs)) (x (ys ++ zs) (y zs r))

pub sound_word : (w : Word) (xs : List Lexeme) → Sound xs → Sound (word w ∷ xs)
sound_word w xs x ys r = let later = x ys r in ((tt, later.0), refl)

pub sound_name : (text : List ℕ) (xs : List Lexeme) → Sound xs → Sound (name text ∷ xs)
sound_name text xs x ys r = let later = x ys r in ((tt, later.0), refl)

pub sound_string : (text : List ℕ) (xs : List Lexeme) → Sound xs → Sound (string text ∷ xs)
sound_string text xs x ys r = let later = x ys r in ((tt, later.0), refl)

pub sound_param : (n : ℕ) (xs : List Lexeme) → Sound xs → Sound (param n ∷ xs)
sound_param n xs x ys r = let later = x ys r in ((tt, later.0), refl)

pub sound_command : (text : List ℕ) (xs : List Lexeme) → Sound xs → Sound (command text ∷ xs)
sound_command text xs x ys r = let later = x ys r in ((tt, later.0), refl)

pub sound_whole : (n : ℕ) (xs : List Lexeme) → Sound xs → Sound (whole n ∷ xs)
sound_whole n xs x ys r = let later = x ys r in ((later.1, later.0), refl)

-- any mark but `.`
pub sound_mark : (m : Mark) (xs : List Lexeme) → is_dot (mark m) ≡ false → Sound xs → Sound (mark m ∷ xs)
sound_mark marks.Dot xs e x ys r = absurd (true≢false e)
sound_mark m xs e x ys r = let later = x ys r in ((tt, later.0), refl)

pub sound_enclosed : (xs : List Lexeme) → Sound xs → Sound (enclosed xs)
sound_enclosed xs x =
    sound_mark marks.Open (xs ++ mark marks.Close ∷ []) refl (sound_append xs (mark marks.Close ∷ []) x (sound_mark marks.Close [] refl sound_none))

pub sound_call : (text : List ℕ) (xs : List Lexeme) → Sound xs → Sound (function text ∷ enclosed xs)
sound_call text xs x ys r = let later = sound_enclosed xs x ys r in ((refl, later.0), refl)

pub sound_column : (qualifier : Option (List ℕ)) (called : List ℕ) → Sound (column qualifier called)
sound_column None called ys r = sound_name called [] sound_none ys r
sound_column (Some table) called ys r = ((tt, (refl, (tt, r.0))), refl)

pub sound_truth : (given : Bool) → Sound (truth given ∷ [])
sound_truth true = sound_word words.True [] sound_none
sound_truth false = sound_word words.False [] sound_none

pub sound_test : (given : Bool) → Sound (test given)
sound_test true = sound_word words.Is (word words.Not ∷ word words.Null ∷ []) (sound_word words.Not (word words.Null ∷ []) (sound_word words.Null [] sound_none))
sound_test false = sound_word words.Is (word words.Null ∷ []) (sound_word words.Null [] sound_none)

pub sound_each : {X : Type 0} (f : X → List Lexeme) (xs : List X) → Each (λ x. Sound (f x)) xs → Sound (flat_map f xs)
sound_each f [] each = sound_none
sound_each f (x ∷ xs) each = sound_append (f x) (flat_map f xs) each.0 (sound_each f xs each.1)

-- the mark of a comparison, and of a sum or product
pub compares_no_dot : (how : Comparison) → is_dot (mark (compares how)) ≡ false
compares_no_dot comparison.Equal = refl
compares_no_dot comparison.Unequal = refl
compares_no_dot comparison.Less = refl
compares_no_dot comparison.AtMost = refl
compares_no_dot comparison.Greater = refl
compares_no_dot comparison.AtLeast = refl

pub multiplies_no_dot : (s : ProductSign) → is_dot (mark (multiplies s)) ≡ false
multiplies_no_dot product_sign.Times = refl
multiplies_no_dot product_sign.Over = refl
multiplies_no_dot product_sign.Rest = refl

pub adds_no_dot : (minus : Bool) → is_dot (mark (adds minus)) ≡ false
adds_no_dot true = refl
adds_no_dot false = refl

-- ---- what a minus may stand in front of

-- whatever follows, the first of these begins with no minus
abbrev pub NoMinus : List Lexeme → Type 0
NoMinus xs = (ys : List Lexeme) → first_is is_no_minus (xs ++ ys) ≡ true

pub sound_sign : (xs : List Lexeme) → NoMinus xs → Sound xs → Sound (sign ∷ xs)
sound_sign xs none x ys r = let later = x ys r in ((none ys, later.0), refl)

-- a lexeme that is no minus
pub no_minus_first : (x : Lexeme) (xs : List Lexeme) → is_no_minus x ≡ true → NoMinus (x ∷ xs)
no_minus_first x xs e ys = e

pub no_minus_column : (qualifier : Option (List ℕ)) (called : List ℕ) → NoMinus (column qualifier called)
no_minus_column None called ys = refl
no_minus_column (Some table) called ys = refl

pub no_minus_truth : (given : Bool) → NoMinus (truth given ∷ [])
no_minus_truth true ys = refl
no_minus_truth false ys = refl
