-- The types that are known of the parameters: no step forgets one.
use Rattle.std.proofs.Common.{◌≡◌, ◌∙◌, ℕ, zero, suc, ◌-◌, ◌+◌, ◌<◌, ◌≤◌, [], ◌∷◌, ◌++◌, length, map, refl, ap, sym, arith, length-append}
use Rattle.std.proofs.lemmas.List.{length-replicate}
use Rattle.std.proofs.lemmas.Option.{none-some, slice_get-map}
use Rattle.std.specs.Prelude.{Option, Some, None, replicate, set, slice_get, true}
use Rattle.std.specs.Option.{option_map}
use Rattle.pg_values.specs.declared.col_type.ColType.{ColType}
use Rattle.pg_values.specs.declared.col_type.ColType.TheVariants.{Bool, Int4, Int8, Text, Moment}
use Rattle.typed_sql.specs.Places.{same_kind, or_text}
use Rattle.typed_sql.specs.Steps.{Known, known_kind, or_none, with_kind}
use Rattle.checked_sql.specs.Sound.{has_this, is_parameter}

pub same_refl : (kind : ColType) → same_kind kind kind ≡ true
same_refl Bool = refl
same_refl Int4 = refl
same_refl Int8 = refl
same_refl Text = refl
same_refl Moment = refl

-- each type that was known is known
abbrev pub Extends : Known → Known → Type 0
Extends old new = (n : ℕ) (kind : ColType) → known_kind n old ≡ Some kind → known_kind n new ≡ Some kind

pub stays : (known : Known) → Extends known known
stays known n kind is = is

pub further : (a b c : Known) → Extends a b → Extends b c → Extends a c
further a b c x y n kind is = y n kind (x n kind is)

-- ---- a type more

none_at : (k at : ℕ) → or_none {A = ColType} (slice_get (replicate k None) at) ≡ None
none_at zero at = refl
none_at (suc k) zero = refl
none_at (suc k) (suc at) = none_at k at

filled_none : (xs : Known) (k at : ℕ) → or_none (slice_get xs at) ≡ None → or_none (slice_get (xs ++ replicate k None) at) ≡ None
filled_none [] k at none = none_at k at
filled_none (x ∷ xs) k zero none = none
filled_none (x ∷ xs) k (suc at) none = filled_none xs k at none

filled_some : (xs ys : Known) (at : ℕ) (kind : ColType) → or_none (slice_get xs at) ≡ Some kind → or_none (slice_get (xs ++ ys) at) ≡ Some kind
filled_some [] ys at kind is = absurd (none-some kind is)
filled_some (x ∷ xs) ys zero kind is = is
filled_some (x ∷ xs) ys (suc at) kind is = filled_some xs ys at kind is

set_keeps : (xs : Known) (at m : ℕ) (put kind : ColType) → or_none (slice_get xs at) ≡ None → or_none (slice_get xs m) ≡ Some kind
    → or_none (slice_get (set xs at (Some put)) m) ≡ Some kind
set_keeps [] at m put kind none is = absurd (none-some kind is)
set_keeps (x ∷ xs) zero zero put kind none is = absurd (none-some kind (sym none ∙ is))
set_keeps (x ∷ xs) zero (suc m) put kind none is = is
set_keeps (x ∷ xs) (suc at) zero put kind none is = is
set_keeps (x ∷ xs) (suc at) (suc m) put kind none is = set_keeps xs at m put kind none is

set_here : (xs : Known) (at : ℕ) (put : ColType) → at < length xs → or_none (slice_get (set xs at (Some put)) at) ≡ Some put
set_here [] at put below = absurd (omega arith)
set_here (x ∷ xs) zero put below = refl
set_here (x ∷ xs) (suc at) put below = set_here xs at put (omega arith)

grows_at : (at : ℕ) (leaf : ColType) (known : Known) → known_kind (suc at) known ≡ None → (n : ℕ) (kind : ColType) → known_kind n known ≡ Some kind
    → known_kind n (with_kind (suc at) leaf known) ≡ Some kind
grows_at at leaf known none zero kind is = absurd (none-some kind is)
grows_at at leaf known none (suc m) kind is =
    let missing = suc at - length known in
    set_keeps (known ++ replicate missing None) at m leaf kind (filled_none known missing at none) (filled_some known (replicate missing None) m kind is)

-- of a parameter of which nothing was known
pub grows : (n : ℕ) (leaf : ColType) (known : Known) → known_kind n known ≡ None → Extends known (with_kind n leaf known)
grows zero leaf known none = stays known
grows (suc at) leaf known none = grows_at at leaf known none

pub told_now : (n : ℕ) (leaf : ColType) (known : Known) → 1 ≤ n → known_kind n (with_kind n leaf known) ≡ Some leaf
told_now zero leaf known least = absurd (omega arith)
told_now (suc at) leaf known least =
    let missing = suc at - length known in
    let long : length (known ++ replicate missing None) ≡ length known + missing = length-append known (replicate missing None) ∙ ap (λ (n : ℕ). length known + n) (length-replicate missing None) in
    set_here (known ++ replicate missing None) at leaf (omega arith)

-- ---- the types of a statement

or_none_some : (o : Option (Option ColType)) (kind : ColType) → or_none o ≡ Some kind → o ≡ Some (Some kind)
or_none_some None kind is = absurd (none-some kind is)
or_none_some (Some x) kind is = ap Some is

-- a parameter whose type is known is one of the statement
pub parameter_there : (n : ℕ) (kind : ColType) (known : Known) → known_kind n known ≡ Some kind → is_parameter (map or_text known) n kind ≡ true
parameter_there zero kind known is = absurd (none-some kind is)
parameter_there (suc at) kind known is =
    ap (has_this kind) (slice_get-map or_text known at ∙ ap (option_map or_text) (or_none_some (slice_get known at) kind is)) ∙ same_refl kind
