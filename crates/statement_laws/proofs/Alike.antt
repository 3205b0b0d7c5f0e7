-- Types that stand for one another: one type, int4 and int8 counting as one.
use Rattle.std.proofs.Common.{◌≡◌, ◌∙◌, ◌⊎◌, inl, inr, List, [], ◌∷◌, refl, ap, sym, subst}
use Rattle.std.specs.Prelude.{Bool as Truth, true, false, Option, Some, None, if◌then◌else◌}
use Rattle.pg_values.specs.declared.col_type.ColType.{ColType}
use Rattle.pg_values.specs.declared.col_type.ColType.TheVariants.{Bool, Int4, Int8, Text, Moment}
use Rattle.typed_sql.specs.declared.asks.Takes.{Takes}
use Rattle.typed_sql.specs.declared.asks.Takes.TheVariants.{Any, Whole, Like}
use Rattle.typed_sql.specs.Places.{are_alike, is_whole, or_int8, same_kind, sum_kind, takes}
use Rattle.typed_sql.specs.Own.{chained_kind, joined_kind}
use Rattle.typed_sql.specs.Steps.{reached}
use Rattle.typed_sql.specs.Typing.{behind_part}

pub same_refl : (k : ColType) → same_kind k k ≡ true
same_refl Bool = refl
same_refl Int4 = refl
same_refl Int8 = refl
same_refl Text = refl
same_refl Moment = refl

pub same_is : (a b : ColType) → same_kind a b ≡ true → a ≡ b
same_is Bool Bool is = refl
same_is Int4 Int4 is = refl
same_is Int8 Int8 is = refl
same_is Text Text is = refl
same_is Moment Moment is = refl
same_is Bool Int4 is = absurd (let f : false ≡ true = is in cc)
same_is Bool Int8 is = absurd (let f : false ≡ true = is in cc)
same_is Bool Text is = absurd (let f : false ≡ true = is in cc)
same_is Bool Moment is = absurd (let f : false ≡ true = is in cc)
same_is Int4 Bool is = absurd (let f : false ≡ true = is in cc)
same_is Int4 Int8 is = absurd (let f : false ≡ true = is in cc)
same_is Int4 Text is = absurd (let f : false ≡ true = is in cc)
same_is Int4 Moment is = absurd (let f : false ≡ true = is in cc)
same_is Int8 Bool is = absurd (let f : false ≡ true = is in cc)
same_is Int8 Int4 is = absurd (let f : false ≡ true = is in cc)
same_is Int8 Text is = absurd (let f : false ≡ true = is in cc)
same_is Int8 Moment is = absurd (let f : false ≡ true = is in cc)
same_is Text Bool is = absurd (let f : false ≡ true = is in cc)
same_is Text Int4 is = absurd (let f : false ≡ true = is in cc)
same_is Text Int8 is = absurd (let f : false ≡ true = is in cc)
same_is Text Moment is = absurd (let f : false ≡ true = is in cc)
same_is Moment Bool is = absurd (let f : false ≡ true = is in cc)
same_is Moment Int4 is = absurd (let f : false ≡ true = is in cc)
same_is Moment Int8 is = absurd (let f : false ≡ true = is in cc)
same_is Moment Text is = absurd (let f : false ≡ true = is in cc)

pub alike_refl : (k : ColType) → are_alike k k ≡ true
alike_refl Bool = refl
alike_refl Int4 = refl
alike_refl Int8 = refl
alike_refl Text = refl
alike_refl Moment = refl

-- beside a whole number stands a whole number
pub beside_whole : (a b : ColType) → is_whole a ≡ true → are_alike a b ≡ is_whole b
beside_whole a b is = ap (λ (w : Truth). if w then is_whole b else same_kind a b) is

alike_by : (w : Truth) (a b : ColType) → is_whole a ≡ w → (if w then is_whole b else same_kind a b) ≡ true → ((is_whole a ≡ true) × (is_whole b ≡ true)) ⊎ (a ≡ b)
alike_by true a b is holds = inl (is, holds)
alike_by false a b is holds = inr (same_is a b holds)

pub alike_is : (a b : ColType) → are_alike a b ≡ true → ((is_whole a ≡ true) × (is_whole b ≡ true)) ⊎ (a ≡ b)
alike_is a b holds = alike_by (is_whole a) a b refl holds

pub alike_whole : (a b : ColType) → are_alike a b ≡ true → is_whole a ≡ true → is_whole b ≡ true
alike_whole a b holds is = sym (beside_whole a b is) ∙ holds

pub wholes_alike : (a b : ColType) → is_whole a ≡ true → is_whole b ≡ true → are_alike a b ≡ true
wholes_alike a b is other = beside_whole a b is ∙ other

sym_by : (a b : ColType) → ((is_whole a ≡ true) × (is_whole b ≡ true)) ⊎ (a ≡ b) → are_alike b a ≡ true
sym_by a b (inl both) = wholes_alike b a both.1 both.0
sym_by a b (inr same) = subst (λ (c : ColType). are_alike c a ≡ true) same (alike_refl a)

pub alike_sym : (a b : ColType) → are_alike a b ≡ true → are_alike b a ≡ true
alike_sym a b holds = sym_by a b (alike_is a b holds)

trans_by : (a b c : ColType) → ((is_whole a ≡ true) × (is_whole b ≡ true)) ⊎ (a ≡ b) → are_alike b c ≡ true → are_alike a c ≡ true
trans_by a b c (inl both) holds = wholes_alike a c both.0 (alike_whole b c holds both.1)
trans_by a b c (inr same) holds = subst (λ (d : ColType). are_alike d c ≡ true) (sym same) holds

pub alike_trans : (a b c : ColType) → are_alike a b ≡ true → are_alike b c ≡ true → are_alike a c ≡ true
alike_trans a b c first second = trans_by a b c (alike_is a b first) second

not_whole : (a : ColType) → a ≡ Text → is_whole a ≡ true → ⊥
not_whole a is whole = let f : false ≡ true = ap is_whole (sym is) ∙ whole in cc

text_by : (a b : ColType) → a ≡ Text → ((is_whole a ≡ true) × (is_whole b ≡ true)) ⊎ (a ≡ b) → b ≡ Text
text_by a b is (inl both) = absurd (not_whole a is both.0)
text_by a b is (inr same) = sym same ∙ is

-- beside a text stands a text
pub alike_text : (a b : ColType) → are_alike a b ≡ true → a ≡ Text → b ≡ Text
alike_text a b holds is = text_by a b is (alike_is a b holds)

-- where a type may stand, its like may
pub takes_alike : (t : Takes) (a b : ColType) → are_alike a b ≡ true → takes t a ≡ true → takes t b ≡ true
takes_alike Any a b holds is = refl
takes_alike Whole a b holds is = alike_whole a b holds is
takes_alike (Like o) a b holds is = alike_trans o a b is holds

-- ---- arithmetic

pub sum_whole : (a b : ColType) → is_whole (sum_kind a b) ≡ true
sum_whole Int4 Int4 = refl
sum_whole Int4 Bool = refl
sum_whole Int4 Int8 = refl
sum_whole Int4 Text = refl
sum_whole Int4 Moment = refl
sum_whole Bool b = refl
sum_whole Int8 b = refl
sum_whole Text b = refl
sum_whole Moment b = refl

pub joined_whole : (a b : Option ColType) → is_whole (joined_kind a b) ≡ true
joined_whole None b = sum_whole (or_int8 b) (or_int8 b)
joined_whole (Some a) None = sum_whole a (or_int8 (Some a))
joined_whole (Some a) (Some b) = sum_whole a b

int8_by : (w : Truth) (k : ColType) → is_whole k ≡ w → is_whole (if w then k else Int8) ≡ true
int8_by true k is = is
int8_by false k is = refl

pub int8_whole : (o : Option ColType) → is_whole (or_int8 o) ≡ true
int8_whole None = refl
int8_whole (Some k) = int8_by (is_whole k) k refl

-- the own type of a chain of two or more is a whole number
abbrev pub HasWhole : Option ColType → Type 0
HasWhole o = (k : ColType) × (o ≡ Some k) × (is_whole k ≡ true)

pub chained_some : (k : ColType) (os : List (Option ColType)) → is_whole k ≡ true → HasWhole (chained_kind (Some k) os)
chained_some k [] is = (k, refl, is)
chained_some k (o ∷ os) is = chained_some (joined_kind (Some k) o) os (joined_whole (Some k) o)

pub chained_whole : (first o : Option ColType) (os : List (Option ColType)) → HasWhole (chained_kind first (o ∷ os))
chained_whole first o os = chained_some (joined_kind first o) os (joined_whole first o)

-- the type of a chain is a whole number
pub reached_whole : {Q : Type 0} (kind_of : Q → ColType) (k : ColType) (qs : List Q) → is_whole k ≡ true → is_whole (reached (behind_part kind_of) k qs) ≡ true
reached_whole kind_of k [] is = is
reached_whole kind_of k (q ∷ qs) is = reached_whole kind_of (sum_kind k (kind_of q)) qs (sum_whole k (kind_of q))
