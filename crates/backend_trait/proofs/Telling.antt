-- Tests that tell facts.
use Rattle.std.proofs.Common.{◌≡◌, Bool, true, false, ◌||◌, refl, inl, inr}
use Rattle.std.specs.Prelude.{◌⊎◌, ◌&&◌, not}

-- a test tells a fact
abbrev pub Tells : Bool → Type 0 → Type 0
Tells t P = (t ≡ true → P) × (P → t ≡ true)

pub and_true : (s t : Bool) → (s && t) ≡ true → (s ≡ true) × (t ≡ true)
and_true true t e = (refl, e)
and_true false t e = absurd (cc)

pub both_true : (s t : Bool) → s ≡ true → t ≡ true → (s && t) ≡ true
both_true true t e f = f
both_true false t e f = absurd (cc)

pub or_true : (s t : Bool) → (s || t) ≡ true → (s ≡ true) ⊎ (t ≡ true)
or_true true t e = inl refl
or_true false t e = inr e

pub or_left : (s t : Bool) → s ≡ true → (s || t) ≡ true
or_left true t e = refl
or_left false t e = absurd (cc)

pub or_right : (s t : Bool) → t ≡ true → (s || t) ≡ true
or_right true t e = refl
or_right false t e = e

pub both_told : (s t : Bool) (P Q : Type 0) → Tells s P → Tells t Q → Tells (s && t) (P × Q)
both_told s t P Q f g =
    (λ e. let h = and_true s t e in (f.0 h.0, g.0 h.1), λ p. both_true s t (f.1 p.0) (g.1 p.1))

pub either_told : (s t : Bool) (P Q : Type 0) → Tells s P → Tells t Q → Tells (s || t) (P ⊎ Q)
either_told s t P Q f g = (
  λ e. elim (or_true s t e) [ inl h ↦ inl (f.0 h) | inr h ↦ inr (g.0 h) ],
  λ p. elim p [ inl h ↦ or_left s t (f.1 h) | inr h ↦ or_right s t (g.1 h) ],
)

pub not_told : (t : Bool) (P : Type 0) → Tells t P → Tells (not t) (¬ P)
not_told true P f = (λ e. absurd (cc), λ h. absurd (h (f.0 refl)))
not_told false P f = (λ e p. let h : false ≡ true = f.1 p in absurd (cc), λ h. refl)

-- the same fact in other words
pub told_as : (t : Bool) (P Q : Type 0) → Tells t P → (P → Q) → (Q → P) → Tells t Q
told_as t P Q f to from = (λ e. to (f.0 e), λ q. f.1 (from q))

pub itself : (t : Bool) → Tells t (t ≡ true)
itself t = (λ e. e, λ e. e)

pub never : (P : Type 0) → (P → ⊥) → Tells false P
never P none = (λ e. absurd (let f : false ≡ true = e in cc), λ p. absurd (none p))

pub is_false : (t : Bool) → Tells (not t) (t ≡ false)
is_false true = (λ e. absurd (cc), λ e. absurd (cc))
is_false false = (λ e. refl, λ e. refl)

-- two tests of one fact are the same
pub same_test : (s t : Bool) (P : Type 0) → Tells s P → Tells t P → s ≡ t
same_test true true P f g = refl
same_test true false P f g = absurd (let h : false ≡ true = g.1 (f.0 refl) in cc)
same_test false true P f g = absurd (let h : false ≡ true = f.1 (g.0 refl) in cc)
same_test false false P f g = refl
