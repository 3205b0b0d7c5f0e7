-- The next numbers of serial columns: the first ones, and one that is new.
use Rattle.std.proofs.Common.{◌≡◌, ℕ, zero, suc, ◌<◌, ◌≤◌, ◌+◌, List, [], ◌∷◌, length, get_or, set, refl, sym, ap, ◌∙◌, subst, arith, inl, inr}
use Rattle.std.specs.Prelude.{ℤ, pos, Option, Some, None, slice_get, if◌then◌else◌}
use Rattle.std.proofs.lemmas.Bool.{cases_lt}
use Rattle.std.proofs.lemmas.Bool.Decides.{eqb_tells}
use Rattle.std.proofs.lemmas.Int.{ints}
use Rattle.std.proofs.lemmas.List.{get_or-set_same, get_or-set_other, get_or_past, get_or_default, length-set}
use Rattle.schema.specs.declared.catalogue.TableDef.{TableDef}
use Rattle.catalogue.specs.declared.checked.Checked.{Checked}
use Rattle.backend_trait.specs.Effect.{IsPositive, draws_of, table_in}
use Rattle.backend_trait.specs.Rows.{with_at}
use Rattle.backend_trait.specs.Store.{first_of, first_number, numbered, with_draws, drawn_by, next_for}
use Rattle.outcomes.specs.Positive.{next_in, ArePositive}

-- past the last table there is none
past : (tables : List TableDef) (t : ℕ) → length tables ≤ t → slice_get tables t ≡ None
past [] t le = refl
past (x ∷ xs) zero le = absurd (omega (arith, le))
past (x ∷ xs) (suc t) le = past xs t (omega (arith, le))

-- those of the tables below a number
pub record AreFirst (tables : List TableDef) (all : List (Option ℤ)) (n : ℕ) : Type 0 where
  pub long : length all ≡ 256
  pub each : (t : ℕ) → t < n → next_in all t ≡ first_number (slice_get tables t)

pub none_first : (tables : List TableDef) (all : List (Option ℤ)) → length all ≡ 256 → AreFirst tables all 0
none_first tables all long = record { long = long; each = λ t below. absurd (omega (arith, below)) }

pub one_first : (tables : List TableDef) (all : List (Option ℤ)) (n : ℕ) (x : Option ℤ) → n < 256 → x ≡ first_number (slice_get tables n) → AreFirst tables all n → AreFirst tables (set all n x) (n + 1)
one_first tables all n x below is f = record {
  long = length-set all n x ∙ f.long;
  each = λ t less. elim (eqb_tells t n) [
    | inl p ↦ ap (λ j. get_or (set all n x) j None) p.1 ∙ (get_or-set_same all n x None (omega (arith, below, f.long)) ∙ (is ∙ sym (ap (λ j. first_number (slice_get tables j)) p.1)))
    | inr p ↦ get_or-set_other all n t x None p.1 ∙ f.each t (omega (arith, less, p.1))
  ];
}

pub all_first : (tables : List TableDef) (all : List (Option ℤ)) → length tables ≤ 256 → AreFirst tables all 256 → (t : ℕ) → next_in all t ≡ first_number (slice_get tables t)
all_first tables all few f t = elim (cases_lt t 256) [
  | inl less ↦ f.each t less
  | inr more ↦ get_or_past all t None (omega (arith, f.long, more)) ∙ sym (ap first_number (past tables t (omega (arith, few, more))))
]

-- the first is 1
one_positive : (serial : Option ℕ) → IsPositive (first_of serial)
one_positive None n is = absurd (cc)
one_positive (Some column) n is = let e : pos 1 ≡ n = cc in omega (arith, ints, e)

pub first_positive : (table : Option TableDef) → IsPositive (first_number table)
first_positive None n is = absurd (cc)
first_positive (Some table) n is = one_positive table.serial n is

pub firsts_positive : (tables : List TableDef) (all : List (Option ℤ)) → ((t : ℕ) → next_in all t ≡ first_number (slice_get tables t)) → ArePositive all
firsts_positive tables all first t = subst IsPositive (sym (first t)) (first_positive (slice_get tables t))

-- one is new
pub next_set : (all : List (Option ℤ)) (n : ℕ) (x : Option ℤ) → n < length all → (t : ℕ) → next_in (set all n x) t ≡ with_at (next_in all) n x t
next_set all n x below t = elim (eqb_tells t n) [
  | inl p ↦ ap (λ j. get_or (set all n x) j None) p.1 ∙ (get_or-set_same all n x None below ∙ sym (ap (λ b. if b then x else next_in all t) p.0))
  | inr p ↦ get_or-set_other all n t x None p.1 ∙ sym (ap (λ b. if b then x else next_in all t) p.0)
]

pub set_positive : (all : List (Option ℤ)) (n : ℕ) (x : Option ℤ) → n < length all → ArePositive all → IsPositive x → ArePositive (set all n x)
set_positive all n x below each here t = subst IsPositive (sym (next_set all n x below t)) (elim (eqb_tells t n) [
  | inl p ↦ subst (λ b. IsPositive (if b then x else next_in all t)) (sym p.0) here
  | inr p ↦ subst (λ b. IsPositive (if b then x else next_in all t)) (sym p.0) (each t)
])

-- the same, where it stands at that number in other words
pub next_set_at : (all : List (Option ℤ)) (at n : ℕ) (x : Option ℤ) → at ≡ n → n < length all → (t : ℕ) → next_in (set all at x) t ≡ with_at (next_in all) n x t
next_set_at all at n x same below t = ap (λ j. next_in (set all j x) t) same ∙ next_set all n x below t

pub set_positive_at : (all : List (Option ℤ)) (at n : ℕ) (x : Option ℤ) → at ≡ n → n < length all → ArePositive all → IsPositive x → ArePositive (set all at x)
set_positive_at all at n x same below each here = subst (λ j. ArePositive (set all j x)) (sym same) (set_positive all n x below each here)

-- what is read there
pub read_is : (all : List (Option ℤ)) (n at : ℕ) (x : Option ℤ) → at ≡ n → n < length all → x ≡ get_or all at x → x ≡ next_in all n
read_is all n at x same below is = is ∙ (ap (λ j. get_or all j x) same ∙ get_or_default all n x None below)

-- a statement draws: those behind its own are the next of its table
pub drawn_is : (tables : List TableDef) (checked : Checked) (next new : ℕ → Option ℤ) (told : Option ℕ) (t : ℕ) (x y : Option ℤ) → told ≡ table_in checked → told ≡ Some t → x ≡ next t → y ≡ numbered (draws_of tables checked x) x → new ≡ with_at next t y
    → new ≡ drawn_by tables checked next
drawn_is tables checked next new told t x y table some x_is y_is new_is =
    new_is
    ∙ (ap (with_at next t) (y_is ∙ ap (λ (z : Option ℤ). numbered (draws_of tables checked z) z) x_is)
    ∙ sym (ap (λ (o : Option ℕ). with_draws next o (draws_of tables checked (next_for next o))) (sym table ∙ some)))

pub undrawn_is : (tables : List TableDef) (checked : Checked) (next : ℕ → Option ℤ) (told : Option ℕ) → told ≡ table_in checked → told ≡ None → next ≡ drawn_by tables checked next
undrawn_is tables checked next told table none = sym (ap (λ (o : Option ℕ). with_draws next o (draws_of tables checked (next_for next o))) (sym table ∙ none))
