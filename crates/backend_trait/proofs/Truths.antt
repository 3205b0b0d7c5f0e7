-- Truths, types and lists of them.
use Rattle.std.proofs.Common.{◌≡◌, ℕ, zero, suc, List, [], ◌∷◌, map, ap, ◌∙◌, refl}
use Rattle.std.specs.Prelude.{◌&&◌, Bool as Truth, true, false, slice_get}
use Rattle.pg_values.specs.declared.col_type.ColType.{ColType}
use Rattle.pg_values.specs.declared.col_type.ColType.TheVariants.{Bool, Int4, Int8, Text, Moment}
use Rattle.pg_values.specs.declared.value.Value.{Value}
use Rattle.pg_values.specs.declared.value.Value.TheVariants as value
use Rattle.typed_sql.specs.Places.{same_kind}
use Rattle.checked_sql.specs.Sound.{are_fit, has_this, is_value}
use Rattle.sql_values.specs.Outcome.{or_null}

pub and_true : (s t : Truth) → (s && t) ≡ true → (s ≡ true) × (t ≡ true)
and_true true t e = (refl, e)
and_true false t e = absurd (let f : false ≡ true = e in cc)

pub both_true : (s t : Truth) → s ≡ true → t ≡ true → (s && t) ≡ true
both_true s t x y = ap (λ (b : Truth). b && t) x ∙ y

pub same_is : (a b : ColType) → same_kind a b ≡ true → a ≡ b
same_is Bool Bool e = refl
same_is Int4 Int4 e = refl
same_is Int8 Int8 e = refl
same_is Text Text e = refl
same_is Moment Moment e = refl
same_is a b e = absurd (let f : false ≡ true = e in cc)

pub null_fits : (kind : ColType) → is_value kind value.Null ≡ true
null_fits kind = refl

-- the value in a column of a row that fits
pub fit_or_null : (kinds : List ColType) (values : List Value) (at : ℕ) (kind : ColType) → are_fit kinds values ≡ true
    → has_this kind (slice_get kinds at) ≡ true → is_value kind (or_null (slice_get values at)) ≡ true
fit_or_null [] values at kind fit is = absurd (let f : false ≡ true = is in cc)
fit_or_null (k ∷ kinds) [] at kind fit is = absurd (let f : false ≡ true = fit in cc)
fit_or_null (k ∷ kinds) (v ∷ values) zero kind fit is =
    ap (λ (c : ColType). is_value c v) (same_is kind k is) ∙ (and_true (is_value k v) (are_fit kinds values) fit).0
fit_or_null (k ∷ kinds) (v ∷ values) (suc at) kind fit is =
    fit_or_null kinds values at kind (and_true (is_value k v) (are_fit kinds values) fit).1 is

-- what holds of each part
abbrev pub Each : {X : Type 0} → (X → Type 0) → List X → Type 0
Each P [] = Unit {0}
Each P (x ∷ xs) = P x × Each P xs

pub each_of : {X E : Type 0} (f : X → E) (P : E → Type 0) → ((x : X) → P (f x)) → (xs : List X) → Each P (map f xs)
each_of f P all [] = tt
each_of f P all (x ∷ xs) = (all x, each_of f P all xs)
