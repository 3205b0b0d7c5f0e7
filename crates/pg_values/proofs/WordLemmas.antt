-- Bools and whole numbers: what is read is of the grammar, and what is of the grammar is read.
use Rattle.std.proofs.Common.{◌≡◌, ℕ, ◌<◌, Bool, true, false, cond, eqb, not, ◌&&◌, ◌||◌, List, [], ◌∷◌, ◌++◌, length, map, Option, Some, None, refl, sym, ap, subst, ◌∙◌, inl, inr, arith, bytes_eq}
use Rattle.std.proofs.Common.{ℤ, min}
use Rattle.std.specs.Int.{w64}
use Rattle.std.proofs.lemmas.Int.{ints}
use Rattle.jiff_core.proofs.SignedLemmas.{signed_arith}
use Rattle.std.specs.Prelude.{◌⊎◌, codes, FitsSigned}
use Rattle.std.specs.Char.{is_ascii_digit, to_ascii_lowercase}
use Rattle.std.specs.List.{list_all}
use Rattle.std.specs.Prelude.{MatchOption}
use Rattle.std.proofs.lemmas.Bool.{eqb-true}
use Rattle.std.proofs.lemmas.List.{nil_from_length}
use Rattle.std.proofs.lemmas.Bool.Decides.{nat_tests}
use Rattle.pg_values.specs.Digits.{are_digits, number_of}
use Rattle.pg_values.specs.Text.{AreSpaces, IsTruthWord, IsBoolText, IsSign, IsSignedDigits, signed, IsNumberText}
use Rattle.pg_values.specs.Reading.{◌>>=◌, digits_front, digits_rest, after_spaces, sign_at, digits_at, signed_digits_at, word_front, word_rest}
use Rattle.pg_values.proofs.Runs.{digits_parts, word_parts}
use Rattle.pg_values.proofs.DigitLemmas.{both, some_is, are_digits_front}

-- what a step gave, where the steps after it gave something
pub bind_some : {A B : Type 0} (o : Option A) (f : A → Option B) (y : B) → (o >>= f) ≡ Some y → (x : A) × (o ≡ Some x) × (f x ≡ Some y)
bind_some (Some x) f y e = (x, refl, e)
bind_some None f y e = absurd (cc)

-- which way a test went
pub chosen : {A : Type 0} (t : Bool) (x y z : A) → cond t x y ≡ z → ((t ≡ true) × (x ≡ z)) ⊎ ((t ≡ false) × (y ≡ z))
chosen true x y z e = inl (refl, e)
chosen false x y z e = inr (refl, e)

pub no_items : (xs : List ℕ) → eqb (length xs) 0 ≡ true → xs ≡ []
no_items xs e = nil_from_length xs (eqb-true (length xs) 0 e)

-- ---- spaces

pub after_spaces_again : (spaces rest : List ℕ) → AreSpaces spaces → after_spaces (spaces ++ rest) ≡ after_spaces rest
after_spaces_again [] rest h = refl
after_spaces_again (b ∷ spaces) rest h = rw h.0 (after_spaces_again spaces rest h.1)

pub after_spaces_all : (spaces : List ℕ) → AreSpaces spaces → after_spaces spaces ≡ []
after_spaces_all [] h = refl
after_spaces_all (b ∷ spaces) h = rw h.0 (after_spaces_all spaces h.1)

-- the spaces at the front of a text
pub spaces_front : (text : List ℕ) → (before : List ℕ) × AreSpaces before × (text ≡ before ++ after_spaces text)
spaces_front [] = ([], tt, refl)
spaces_front (b ∷ rest) = front_of b rest (eqb b 32) refl (spaces_front rest)
  where
    front_of : (b : ℕ) (rest : List ℕ) (t : Bool) → eqb b 32 ≡ t → (before : List ℕ) × AreSpaces before × (rest ≡ before ++ after_spaces rest) → (before : List ℕ) × AreSpaces before × (b ∷ rest ≡ before ++ cond t (after_spaces rest) (b ∷ rest))
    front_of b rest true is f = (b ∷ f.0, (eqb-true b 32 is, f.1), ap (λ (x : List ℕ). b ∷ x) f.2)
    front_of b rest false is f = ([], tt, refl)

only_spaces : (text : List ℕ) → after_spaces text ≡ [] → AreSpaces text
only_spaces text e =
    let f = spaces_front text in
    let same : text ≡ f.0 ++ [] = f.2 ∙ ap (λ (x : List ℕ). f.0 ++ x) e in
    subst AreSpaces (sym (same ∙ nil_end f.0)) f.1
  where
    nil_end : (xs : List ℕ) → xs ++ [] ≡ xs
    nil_end [] = refl
    nil_end (x ∷ xs) = ap (λ (y : List ℕ). x ∷ y) (nil_end xs)

-- ---- words

abbrev no_space : ℕ → Bool
no_space b = not (eqb b 32)

-- some bytes, none of them a space
abbrev is_word : List ℕ → Bool
is_word [] = false
is_word (b ∷ rest) = no_space b && list_all no_space rest

keeps_no_space : (b : ℕ) → no_space (to_ascii_lowercase b) ≡ true → no_space b ≡ true
keeps_no_space b e = cases (eqb b 32) refl
  where
    cases : (t : Bool) → eqb b 32 ≡ t → not (eqb b 32) ≡ true
    cases false is = rw is refl
    cases true is = absurd (let same : b ≡ 32 = eqb-true b 32 is in let bad : no_space (to_ascii_lowercase 32) ≡ true = subst (λ (x : ℕ). no_space (to_ascii_lowercase x) ≡ true) same e in cc)

keeps_all : (word : List ℕ) → list_all no_space (map to_ascii_lowercase word) ≡ true → list_all no_space word ≡ true
keeps_all [] e = refl
keeps_all (b ∷ rest) e = let p = both _ _ e in rw (keeps_no_space b p.0) (keeps_all rest p.1)

keeps_word : (word : List ℕ) → is_word (map to_ascii_lowercase word) ≡ true → is_word word ≡ true
keeps_word [] e = e
keeps_word (b ∷ rest) e = let p = both _ _ e in rw (keeps_no_space b p.0) (keeps_all rest p.1)

truth_is_word : (truth : Bool) (word : List ℕ) → IsTruthWord truth word → is_word word ≡ true
truth_is_word true word (inl e) = ap is_word e
truth_is_word true word (inr (inl e)) = ap is_word e
truth_is_word true word (inr (inr (inl e))) = ap is_word e
truth_is_word true word (inr (inr (inr (inl e)))) = ap is_word e
truth_is_word true word (inr (inr (inr (inr e)))) = ap is_word e
truth_is_word false word (inl e) = ap is_word e
truth_is_word false word (inr (inl e)) = ap is_word e
truth_is_word false word (inr (inr (inl e))) = ap is_word e
truth_is_word false word (inr (inr (inr (inl e)))) = ap is_word e
truth_is_word false word (inr (inr (inr (inr e)))) = ap is_word e

-- whether it is one of the words for true
abbrev is_true_word : List ℕ → Bool
is_true_word word = bytes_eq word (codes "t") || bytes_eq word (codes "true") || bytes_eq word (codes "yes") || bytes_eq word (codes "on") || bytes_eq word (codes "1")

truth_of : (truth : Bool) (word : List ℕ) → IsTruthWord truth word → is_true_word word ≡ truth
truth_of true word (inl e) = ap is_true_word e
truth_of true word (inr (inl e)) = ap is_true_word e
truth_of true word (inr (inr (inl e))) = ap is_true_word e
truth_of true word (inr (inr (inr (inl e)))) = ap is_true_word e
truth_of true word (inr (inr (inr (inr e)))) = ap is_true_word e
truth_of false word (inl e) = ap is_true_word e
truth_of false word (inr (inl e)) = ap is_true_word e
truth_of false word (inr (inr (inl e))) = ap is_true_word e
truth_of false word (inr (inr (inr (inl e)))) = ap is_true_word e
truth_of false word (inr (inr (inr (inr e)))) = ap is_true_word e

starts : (word rest : List ℕ) → is_word word ≡ true → after_spaces (word ++ rest) ≡ word ++ rest
starts [] rest e = absurd (cc)
starts (b ∷ word) rest e = first (eqb b 32) (both _ _ e).0
  where
    first : (t : Bool) → not t ≡ true → cond t (after_spaces (word ++ rest)) (b ∷ (word ++ rest)) ≡ b ∷ (word ++ rest)
    first true n = absurd (cc)
    first false n = refl

word_ends : (after : List ℕ) → AreSpaces after → (word_front after ≡ []) × (word_rest after ≡ after)
word_ends [] h = (refl, refl)
word_ends (b ∷ rest) h = rw h.0 (refl, refl)

word_again : (word after : List ℕ) → list_all no_space word ≡ true → AreSpaces after → (word_front (word ++ after) ≡ word) × (word_rest (word ++ after) ≡ after)
word_again [] after e h = word_ends after h
word_again (b ∷ word) after e h = step (eqb b 32) (both _ _ e).0 (word_again word after (both _ _ e).1 h)
  where
    step : (t : Bool) → not t ≡ true → (word_front (word ++ after) ≡ word) × (word_rest (word ++ after) ≡ after) → (cond t [] (b ∷ word_front (word ++ after)) ≡ b ∷ word) × (cond t (b ∷ (word ++ after)) (word_rest (word ++ after)) ≡ after)
    step true n p = absurd (cc)
    step false n p = (ap (λ (x : List ℕ). b ∷ x) p.0, p.1)

word_all : (word : List ℕ) → is_word word ≡ true → list_all no_space word ≡ true
word_all [] e = refl
word_all (b ∷ word) e = e

-- what a reader finds behind the spaces of a text of the grammar
pub record FindsTruth (text : List ℕ) (truth : Bool) : Type 0 where
  pub ends : after_spaces (word_rest (after_spaces text)) ≡ []
  pub is_word : IsTruthWord truth (map to_ascii_lowercase (word_front (after_spaces text)))

pub bool_again : (text : List ℕ) (truth : Bool) → IsBoolText text truth → FindsTruth text truth
bool_again text truth b =
    let whole = keeps_word b.word (truth_is_word truth _ b.is_word) in
    let behind : after_spaces text ≡ b.word ++ b.after = ap after_spaces b.parts ∙ after_spaces_again b.before (b.word ++ b.after) b.spaces_before ∙ starts b.word b.after whole in
    let found = word_again b.word b.after (word_all b.word whole) b.spaces_after in
    record {
      ends = rw (behind, found.1) (after_spaces_all b.after b.spaces_after);
      is_word = rw (behind, found.0) b.is_word;
    }

pub bool_takes : (text : List ℕ) (truth : Bool) → FindsTruth text truth → IsBoolText text truth
bool_takes text truth f =
    let front = spaces_front text in
    let rest = after_spaces text in
    record {
      before = front.0;
      word = word_front rest;
      after = word_rest rest;
      spaces_before = front.1;
      is_word = f.is_word;
      spaces_after = only_spaces (word_rest rest) f.ends;
      parts = front.2 ∙ ap (λ (x : List ℕ). front.0 ++ x) (sym (word_parts rest));
    }

pub truth_told : (text front : List ℕ) (r : Option Bool) → front ≡ word_front (after_spaces text) → after_spaces (word_rest (after_spaces text)) ≡ []
    → MatchOption r ((truth : Bool) → ¬ (IsTruthWord truth (map to_ascii_lowercase front))) (λ truth. IsTruthWord truth (map to_ascii_lowercase front))
    → MatchOption r ((truth : Bool) → ¬ (IsBoolText text truth)) (λ truth. IsBoolText text truth)
truth_told text front None e ends told = λ truth spelled. told truth (rw e (bool_again text truth spelled).is_word)
truth_told text front (Some truth) e ends told = bool_takes text truth (record { ends = ends; is_word = subst (λ (x : List ℕ). IsTruthWord truth (map to_ascii_lowercase x)) e told })

pub one_truth : (text : List ℕ) (a b : Bool) → IsBoolText text a → IsBoolText text b → a ≡ b
one_truth text a b p q = sym (truth_of a _ (bool_again text a p).is_word) ∙ truth_of b _ (bool_again text b q).is_word

-- ---- whole numbers

pub digits_again : (ds after : List ℕ) → are_digits ds ≡ true → digits_front after ≡ [] → digits_rest after ≡ after → (digits_front (ds ++ after) ≡ ds) × (digits_rest (ds ++ after) ≡ after)
digits_again [] after e f r = (f, r)
digits_again (b ∷ ds) after e f r = step (is_ascii_digit b) (both _ _ e).0 (digits_again ds after (both _ _ e).1 f r)
  where
    step : (t : Bool) → t ≡ true → (digits_front (ds ++ after) ≡ ds) × (digits_rest (ds ++ after) ≡ after) → (cond t (b ∷ digits_front (ds ++ after)) [] ≡ b ∷ ds) × (cond t (digits_rest (ds ++ after)) (b ∷ (ds ++ after)) ≡ after)
    step true n p = (ap (λ (x : List ℕ). b ∷ x) p.0, p.1)
    step false n p = absurd (cc)

digits_end : (after : List ℕ) → AreSpaces after → (digits_front after ≡ []) × (digits_rest after ≡ after)
digits_end [] h = (refl, refl)
digits_end (b ∷ rest) h = rw h.0 (refl, refl)

not_mark : (b : ℕ) → is_ascii_digit b ≡ true → (eqb b 32 ≡ false) × (eqb b 43 ≡ false) × (eqb b 45 ≡ false)
not_mark b e = (grind (arith, nat_tests), grind (arith, nat_tests), grind (arith, nat_tests))

-- a text that begins with a digit has no spaces and no sign in front
no_front : (ds after : List ℕ) → are_digits ds ≡ true → 0 < length ds → (after_spaces (ds ++ after) ≡ ds ++ after) × (sign_at (ds ++ after) ≡ (false, ds ++ after))
no_front [] after e h = absurd (omega arith)
no_front (b ∷ ds) after e h = let n = not_mark b (both _ _ e).0 in (rw n.0 refl, rw (n.2, n.1) refl)

signed_front : (negative : Bool) (sign ds after : List ℕ) → IsSign sign negative → are_digits ds ≡ true → 0 < length ds → (after_spaces (sign ++ (ds ++ after)) ≡ sign ++ (ds ++ after)) × (sign_at (sign ++ (ds ++ after)) ≡ (negative, ds ++ after))
signed_front true sign ds after s e h = rw s (refl, refl)
signed_front false sign ds after (inl s) e h = rw s (no_front ds after e h)
signed_front false sign ds after (inr s) e h = rw s (refl, refl)

some_digits : (ds : List ℕ) → 0 < length ds → eqb (length ds) 0 ≡ false
some_digits ds h = grind (arith, nat_tests)

pub signed_again : (text : List ℕ) (negative : Bool) (ds : List ℕ) → IsSignedDigits text negative ds → signed_digits_at text ≡ Some (negative, ds)
unfolding signed_digits_at digits_at
signed_again text negative ds b =
    let front = signed_front negative b.sign ds b.after b.is_sign b.are_digits b.some in
    let behind : after_spaces text ≡ b.sign ++ (ds ++ b.after) = ap after_spaces b.parts ∙ after_spaces_again b.before (b.sign ++ (ds ++ b.after)) b.spaces_before ∙ front.0 in
    let stops = digits_end b.after b.spaces_after in
    let found = digits_again ds b.after b.are_digits stops.0 stops.1 in
    let sign : sign_at (after_spaces text) ≡ (negative, ds ++ b.after) = ap sign_at behind ∙ front.1 in
    rw (sign, found.0, found.1, some_digits ds b.some, after_spaces_all b.after b.spaces_after) refl

abbrev marked : Bool → List ℕ → Bool × List ℕ
marked negative rest = (negative, rest)

sign_step : (b : ℕ) (rest : List ℕ) (t u : Bool) → eqb b 45 ≡ t → eqb b 43 ≡ u → (sign : List ℕ) × IsSign sign (cond t (marked true rest) (cond u (marked false rest) (marked false (b ∷ rest)))).0 × (b ∷ rest ≡ sign ++ (cond t (marked true rest) (cond u (marked false rest) (marked false (b ∷ rest)))).1)
sign_step b rest true u m p = (b ∷ [], ap (λ (x : ℕ). x ∷ []) (eqb-true b 45 m), refl)
sign_step b rest false true m p = (b ∷ [], inr (ap (λ (x : ℕ). x ∷ []) (eqb-true b 43 p)), refl)
sign_step b rest false false m p = ([], inl refl, refl)

-- the sign at the front of a text
sign_front : (text : List ℕ) → (sign : List ℕ) × IsSign sign (sign_at text).0 × (text ≡ sign ++ (sign_at text).1)
sign_front [] = ([], inl refl, refl)
sign_front (b ∷ rest) = sign_step b rest (eqb b 45) (eqb b 43) refl refl

some_length : (ds : List ℕ) → eqb (length ds) 0 ≡ false → 0 < length ds
some_length ds h = grind (arith, nat_tests)

-- what digits_at found
record FindsDigits (text digits : List ℕ) : Type 0 where
  is : digits_front text ≡ digits
  some : 0 < length digits
  ends : after_spaces (digits_rest text) ≡ []

digits_found : (text digits : List ℕ) → digits_at text ≡ Some digits → FindsDigits text digits
unfolding digits_at
digits_found text digits e = elim (chosen (eqb (length (digits_front text)) 0) None (cond (eqb (length (after_spaces (digits_rest text))) 0) (Some (digits_front text)) None) (Some digits) e) [
  | inl p ↦ absurd (cc (p.1))
  | inr p ↦ elim (chosen (eqb (length (after_spaces (digits_rest text))) 0) (Some (digits_front text)) None (Some digits) p.1) [
    | inl q ↦ (let is : digits_front text ≡ digits = some_is _ _ q.1 in record { is = is; some = subst (λ (x : List ℕ). 0 < length x) is (some_length _ p.0); ends = no_items _ q.0 })
    | inr q ↦ absurd (cc (q.1))
  ]
]

pub signed_takes : (text : List ℕ) (negative : Bool) (ds : List ℕ) → signed_digits_at text ≡ Some (negative, ds) → IsSignedDigits text negative ds
unfolding signed_digits_at
signed_takes text negative ds e =
    let rest = sign_at (after_spaces text) in
    let step = bind_some (digits_at rest.1) (λ digits. Some (marked rest.0 digits)) (negative, ds) e in
    let both_is : marked rest.0 step.0 ≡ marked negative ds = some_is _ _ step.2 in
    let negative_is : rest.0 ≡ negative = ap (λ (x : Bool × List ℕ). x.0) both_is in
    let digits_is : step.0 ≡ ds = ap (λ (x : Bool × List ℕ). x.1) both_is in
    let found = digits_found rest.1 step.0 step.1 in
    let front = spaces_front text in
    let sign = sign_front (after_spaces text) in
    let is : digits_front rest.1 ≡ ds = found.is ∙ digits_is in
    record {
      before = front.0;
      sign = sign.0;
      after = digits_rest rest.1;
      spaces_before = front.1;
      is_sign = subst (IsSign sign.0) negative_is sign.1;
      are_digits = subst (λ (x : List ℕ). are_digits x ≡ true) is (are_digits_front rest.1);
      some = subst (λ (x : List ℕ). 0 < length x) digits_is found.some;
      spaces_after = only_spaces (digits_rest rest.1) found.ends;
      parts = front.2 ∙ ap (λ (x : List ℕ). front.0 ++ x) (sign.2 ∙ ap (λ (x : List ℕ). sign.0 ++ x) (sym (digits_parts rest.1) ∙ ap (λ (x : List ℕ). x ++ digits_rest rest.1) is));
    }

-- ---- what the reader of whole numbers answers

cap : ℕ
cap = 18_446_744_073_709_551_615

below_cap : (negative : Bool) (v : ℕ) → FitsSigned w64 (signed negative (min v cap)) → min v cap ≡ v
unfolding cap
below_cap true v h = omega (arith, ints, signed_arith, h)
below_cap false v h = omega (arith, ints, signed_arith, h)

above_cap : (negative : Bool) (v : ℕ) → FitsSigned w64 (signed negative v) → min v cap ≡ v
unfolding cap
above_cap true v h = omega (arith, ints, signed_arith, h)
above_cap false v h = omega (arith, ints, signed_arith, h)

pub number_fits : (text : List ℕ) (negative : Bool) (ds : List ℕ) (m : ℕ) (n : ℤ) → signed_digits_at text ≡ Some (negative, ds) → m ≡ min (number_of ds) 18_446_744_073_709_551_615 → FitsSigned w64 (signed negative m) × (n ≡ signed negative m) → IsNumberText text n × FitsSigned w64 n
unfolding cap
number_fits text negative ds m n e is h =
    let fits : FitsSigned w64 (signed negative (min (number_of ds) cap)) = subst (λ (k : ℕ). FitsSigned w64 (signed negative k)) is h.0 in
    let same : m ≡ number_of ds = is ∙ below_cap negative (number_of ds) fits in
    ((negative, ds, signed_takes text negative ds e, h.1 ∙ ap (signed negative) same), subst (FitsSigned w64) (sym h.1) h.0)

pub number_too_large : (text : List ℕ) (negative : Bool) (ds : List ℕ) (m : ℕ) → signed_digits_at text ≡ Some (negative, ds) → m ≡ min (number_of ds) 18_446_744_073_709_551_615 → (FitsSigned w64 (signed negative m) → ⊥) → (n : ℤ) × IsNumberText text n × ¬ (FitsSigned w64 n)
unfolding cap
number_too_large text negative ds m e is h = (
  signed negative (number_of ds),
  (negative, ds, signed_takes text negative ds e, refl),
  λ fits. h (subst (λ (k : ℕ). FitsSigned w64 (signed negative k)) (sym (is ∙ above_cap negative (number_of ds) fits)) fits),
)

pub no_number : (text : List ℕ) → signed_digits_at text ≡ None → (n : ℤ) → IsNumberText text n → ⊥
no_number text e n is = cc (e, signed_again text is.0 is.1 is.2)

pub one_number : (text : List ℕ) (a b : ℤ) → IsNumberText text a → IsNumberText text b → a ≡ b
one_number text a b p q =
    let same : marked p.0 p.1 ≡ marked q.0 q.1 = some_is _ _ (sym (signed_again text p.0 p.1 p.2) ∙ signed_again text q.0 q.1 q.2) in
    p.3 ∙ ap (λ (x : Bool × List ℕ). signed x.0 (number_of x.1)) same ∙ sym q.3
