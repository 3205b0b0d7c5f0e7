-- Places that are one, and a test that some of a list of places pass.
use Rattle.std.proofs.Common.{◌≡◌, ◌≤◌, ◌-◌, Bool, true, false, ◌||◌, List, [], ◌∷◌, length, map, take, drop, get_or, refl, sym, ap, ◌∙◌, arith, inl, inr}
use Rattle.std.specs.Prelude.{not}
use Rattle.std.specs.List.{list_any}
use Rattle.std.specs.declared.cmp.Ordering.{Ordering}
use Rattle.std.specs.declared.cmp.Ordering.TheVariants.{Less, Equal, Greater}
use Rattle.std.specs.Ordering.{is_eq}
use Rattle.std.proofs.lemmas.Cmp.{tied_itself}
use Rattle.std.proofs.lemmas.List.{take_all}
use Rattle.backend_trait.specs.Keys.{Place, place_order, is_place}
use Rattle.backend_trait.specs.Effect.{is_among}
use Rattle.backend_trait.proofs.KeyLaws.{place_total, place_antisymmetric}
use Rattle.outcomes.specs.declared.spot.Spot.{Spot}
use Rattle.outcomes.specs.Spots.{place_of}
use Rattle.plain_store.specs.Deciding.{share}
use Rattle.backend_trait.proofs.Telling.{Tells, or_true, or_left, or_right}

told : (o : Ordering) → is_eq o ≡ true → o ≡ Equal
told Less e = absurd (cc)
told Equal e = refl
told Greater e = absurd (cc)

-- places that are one
pub one_and_same : (p q : Place) → is_place p q ≡ true → p ≡ q
one_and_same p q e = place_antisymmetric p q (told (place_order p q) e)

pub is_itself : (p : Place) → is_place p p ≡ true
is_itself p = ap is_eq (tied_itself place_total p)

-- one of the places passes a test, and none of them does
abbrev pub OnePasses : (Place → Bool) → List Place → Type 0
OnePasses test places = (p : Place) × (is_among places p ≡ true) × (test p ≡ true)

abbrev pub NonePasses : (Place → Bool) → List Place → Type 0
NonePasses test places = (p : Place) → is_among places p ≡ true → test p ≡ false

one_passes : (test : Place → Bool) (places : List Place) → list_any test places ≡ true → OnePasses test places
one_passes test [] e = absurd (let f : false ≡ true = e in cc)
one_passes test (x ∷ xs) e = elim (or_true (test x) (list_any test xs) e) [
  | inl here ↦ (x, or_left (is_place x x) (is_among xs x) (is_itself x), here)
  | inr there ↦ let (p, among, passes) = one_passes test xs there in (p, or_right (is_place p x) (is_among xs p) among, passes)
]

passes_one : (test : Place → Bool) (places : List Place) (p : Place) → is_among places p ≡ true → test p ≡ true → list_any test places ≡ true
passes_one test [] p among e = absurd (let f : false ≡ true = among in cc)
passes_one test (x ∷ xs) p among e = elim (or_true (is_place p x) (is_among xs p) among) [
  | inl here ↦ or_left (test x) (list_any test xs) (ap test (sym (one_and_same p x here)) ∙ e)
  | inr there ↦ or_right (test x) (list_any test xs) (passes_one test xs p there e)
]

pub one_told : (test : Place → Bool) (places : List Place) → Tells (list_any test places) (OnePasses test places)
one_told test places = (one_passes test places, λ (p, among, passes). passes_one test places p among passes)

none_passes : (test : Place → Bool) (places : List Place) → not (list_any test places) ≡ true → NonePasses test places
none_passes test places e p among = go (test p) refl
  where
    go : (b : Bool) → test p ≡ b → b ≡ false
    go false is = refl
    go true is = absurd (let f : false ≡ true = sym (ap not (passes_one test places p among is)) ∙ e in cc)

passes_none : (test : Place → Bool) (places : List Place) → NonePasses test places → not (list_any test places) ≡ true
passes_none test places none = go (list_any test places) refl
  where
    go : (b : Bool) → list_any test places ≡ b → not b ≡ true
    go false is = refl
    go true is = let (p, among, passes) = one_passes test places is in absurd (let f : false ≡ true = sym (none p among) ∙ passes in cc)

pub none_told : (test : Place → Bool) (places : List Place) → Tells (not (list_any test places)) (NonePasses test places)
none_told test places = (none_passes test places, passes_none test places)

-- whose first place is not among others shares with them what those behind it do
pub share_more : (spots : List Spot) (others : List Place) (first : Spot) → 1 ≤ length spots → first ≡ get_or spots 0 first → is_among others (place_of first) ≡ false
    → share (map place_of spots) others ≡ share (map place_of (take (length spots - 1) (drop 1 spots))) others
share_more [] others first some is none = absurd (omega arith)
share_more (x ∷ xs) others first some is none =
    ap (λ b. b || share (map place_of xs) others) (ap (λ (s : Spot). is_among others (place_of s)) (sym is) ∙ none)
    ∙ ap (λ (spots : List Spot). share (map place_of spots) others) (sym (take_all (length (x ∷ xs) - 1) xs (omega arith)))
