-- Each text, and all bytes, have at most one value or one code, and never both.
use Rattle.std.proofs.Common.{◌≡◌, ℕ, ◌<◌, ◌^◌, not, eqb, List, [], ◌∷◌, length, Result, Ok, Err, sym, ap, subst, ◌∙◌, inl, inr, arith, ℤ, pos, negsuc}
use Rattle.std.specs.Prelude.{FitsSigned, IfOk}
use Rattle.std.specs.Int.{w32, w64, to_be_bytes, from_be_bytes, cast_unsigned, cast_signed}
use Rattle.std.proofs.lemmas.Int.{to_z-of_z}
use Rattle.std.proofs.lemmas.Nat.{from_be_bytes-to_be_bytes_4, from_be_bytes-to_be_bytes_8}
use Rattle.pg_values.specs.declared.col_type.ColType.{ColType}
use Rattle.pg_values.specs.declared.col_type.ColType.TheVariants as kind
use Rattle.pg_values.specs.declared.value.Value.{Value}
use Rattle.pg_values.specs.declared.value.Value.TheVariants as value
use Rattle.pg_values.specs.declared.value_fault.ValueFault.{ValueFault}
use Rattle.pg_values.specs.declared.value_fault.ValueFault.TheVariants.{Bad, NoMemory}
use Rattle.pg_values.specs.Range.{IsMoment, IsInRange}
use Rattle.pg_values.specs.Moments.{FieldsInRange, moment_of}
use Rattle.pg_values.specs.Text.{SpellsText, MisspellsText, RefusesNumber, IsNumberText}
use Rattle.pg_values.specs.Answers.{Tells, IfRefused, IsValueOr, IsCodeOr, IsRefusedFor, ReadsText, RefusesText, ReadsBinary, RefusesBinary, HasOtherLength}
use Rattle.pg_values.specs.declared.written.Written.{Written}
use Rattle.pg_values.proofs.WordLemmas.{one_truth, one_number}
use Rattle.pg_values.proofs.MomentLemmas.{one_written}

-- ---- from what was told to each clause

pub value_of : (r : Result Value ValueFault) (P : Value → Type 0) (Q : List ℕ → Type 0) (R : Type 0) → Tells r P Q R → IfOk r P
value_of (Ok v) P Q R t = t
value_of (Err (Bad code)) P Q R t = tt
value_of (Err NoMemory) P Q R t = tt

pub code_of : (r : Result Value ValueFault) (P : Value → Type 0) (Q : List ℕ → Type 0) (R : Type 0) → Tells r P Q R → IfRefused r Q
code_of (Ok v) P Q R t = tt
code_of (Err (Bad code)) P Q R t = t
code_of (Err NoMemory) P Q R t = tt

pub memory_of : (r : Result Value ValueFault) (P : Value → Type 0) (Q : List ℕ → Type 0) (R : Type 0) → Tells r P Q R → IsRefusedFor r R
memory_of (Ok v) P Q R t = tt
memory_of (Err (Bad code)) P Q R t = tt
memory_of (Err NoMemory) P Q R t = t

pub each_value : (r : Result Value ValueFault) (P : Value → Type 0) (Q : List ℕ → Type 0) (R : Type 0) → ((a b : Value) → P a → P b → a ≡ b) → ((a : Value) (c : List ℕ) → P a → Q c → ⊥) → Tells r P Q R → (v : Value) → P v → IsValueOr r v
each_value (Ok x) P Q R once never t v h = once x v t h
each_value (Err (Bad code)) P Q R once never t v h = never v code.bytes h t
each_value (Err NoMemory) P Q R once never t v h = tt

pub each_code : (r : Result Value ValueFault) (P : Value → Type 0) (Q : List ℕ → Type 0) (R : Type 0) → ((a b : List ℕ) → Q a → Q b → a ≡ b) → ((a : Value) (c : List ℕ) → P a → Q c → ⊥) → Tells r P Q R → (c : List ℕ) → Q c → IsCodeOr r c
each_code (Ok x) P Q R once never t c h = never x c t h
each_code (Err (Bad code)) P Q R once never t c h = once code.bytes c t h
each_code (Err NoMemory) P Q R once never t c h = tt

-- ---- text forms

spells_once : (kind : ColType) (text : List ℕ) (a b : Value) → SpellsText kind text a → SpellsText kind text b → a ≡ b
spells_once kind.Bool text a b p q = p.2 ∙ ap value.Bool (one_truth text p.0 q.0 p.1 q.1) ∙ sym q.2
spells_once kind.Int4 text a b p q = p.3 ∙ ap value.Int4 (one_number text p.0 q.0 p.1 q.1) ∙ sym q.3
spells_once kind.Int8 text a b p q = p.3 ∙ ap value.Int8 (one_number text p.0 q.0 p.1 q.1) ∙ sym q.3
spells_once kind.Text text a b p q = p ∙ sym q
spells_once kind.Moment text a b p q = p.4 ∙ ap (λ (w : Written). value.Moment (moment_of w)) (one_written text p.0 q.0 p.1 q.1) ∙ sym q.4

no_number_both : (Fits : ℤ → Type 0) (text code : List ℕ) (n : ℤ) → IsNumberText text n → Fits n → RefusesNumber Fits text code → ⊥
no_number_both Fits text code n is fits (inl r) = r.0 n is
no_number_both Fits text code n is fits (inr r) = r.2 (subst Fits (one_number text n r.0 is r.1) fits)

spells_never : (kind : ColType) (text : List ℕ) (a : Value) (c : List ℕ) → SpellsText kind text a → MisspellsText kind text c → ⊥
spells_never kind.Bool text a c p q = q.0 p.0 p.1
spells_never kind.Int4 text a c p q = no_number_both (FitsSigned w32) text c p.0 p.1 p.2 q
spells_never kind.Int8 text a c p q = no_number_both (FitsSigned w64) text c p.0 p.1 p.2 q
spells_never kind.Text text a c p q = q
spells_never kind.Moment text a c p (inl r) = r.0 p.0 p.1
spells_never kind.Moment text a c p (inr r) =
    let same = one_written text p.0 r.0 p.1 r.1 in
    let both : FieldsInRange p.0 × IsMoment (moment_of p.0) = (p.2, p.3) in
    r.2 (subst (λ (w : Written). FieldsInRange w × IsMoment (moment_of w)) same both)

one_number_code : (Fits : ℤ → Type 0) (text a b : List ℕ) → RefusesNumber Fits text a → RefusesNumber Fits text b → a ≡ b
one_number_code Fits text a b (inl p) (inl q) = p.1 ∙ sym q.1
one_number_code Fits text a b (inl p) (inr q) = absurd (p.0 q.0 q.1)
one_number_code Fits text a b (inr p) (inl q) = absurd (q.0 p.0 p.1)
one_number_code Fits text a b (inr p) (inr q) = p.3 ∙ sym q.3

misspells_once : (kind : ColType) (text : List ℕ) (a b : List ℕ) → MisspellsText kind text a → MisspellsText kind text b → a ≡ b
misspells_once kind.Bool text a b p q = p.1 ∙ sym q.1
misspells_once kind.Int4 text a b p q = one_number_code (FitsSigned w32) text a b p q
misspells_once kind.Int8 text a b p q = one_number_code (FitsSigned w64) text a b p q
misspells_once kind.Text text a b p q = absurd p
misspells_once kind.Moment text a b (inl p) (inl q) = p.1 ∙ sym q.1
misspells_once kind.Moment text a b (inl p) (inr q) = absurd (p.0 q.0 q.1)
misspells_once kind.Moment text a b (inr p) (inl q) = absurd (q.0 p.0 p.1)
misspells_once kind.Moment text a b (inr p) (inr q) = p.3 ∙ sym q.3

pub reads_once : (kind : ColType) (text : List ℕ) (a b : Value) → ReadsText kind text a → ReadsText kind text b → a ≡ b
reads_once kind text a b p q = spells_once kind text a b p.1 q.1

pub reads_never : (kind : ColType) (text : List ℕ) (a : Value) (c : List ℕ) → ReadsText kind text a → RefusesText kind text c → ⊥
reads_never kind text a c p (inl q) = q.0 p.0
reads_never kind text a c p (inr q) = spells_never kind text a c p.1 q.1

pub refuses_once : (kind : ColType) (text : List ℕ) (a b : List ℕ) → RefusesText kind text a → RefusesText kind text b → a ≡ b
refuses_once kind text a b (inl p) (inl q) = p.1 ∙ sym q.1
refuses_once kind text a b (inl p) (inr q) = absurd (p.0 q.0)
refuses_once kind text a b (inr p) (inl q) = absurd (q.0 p.0)
refuses_once kind text a b (inr p) (inr q) = misspells_once kind text a b p.1 q.1

-- ---- binary forms

below_32 : (n : ℤ) → FitsSigned w32 n → cast_unsigned w32 n < 2 ^ 32
below_32 (pos n) h = omega (arith, h.sfits)
below_32 (negsuc n) h = omega (arith, h.sfits)

below_64 : (n : ℤ) → FitsSigned w64 n → cast_unsigned w64 n < 2 ^ 64
below_64 (pos n) h = omega (arith, h.sfits)
below_64 (negsuc n) h = omega (arith, h.sfits)

back_32 : (n : ℤ) (bytes : List ℕ) → FitsSigned w32 n → bytes ≡ to_be_bytes w32 (cast_unsigned w32 n) → n ≡ cast_signed w32 (from_be_bytes w32 bytes)
back_32 n bytes h e = sym (to_z-of_z w32 n h) ∙ ap (cast_signed w32) (sym (from_be_bytes-to_be_bytes_4 (cast_unsigned w32 n) (below_32 n h)) ∙ ap (from_be_bytes w32) (sym e))

back_64 : (n : ℤ) (bytes : List ℕ) → FitsSigned w64 n → bytes ≡ to_be_bytes w64 (cast_unsigned w64 n) → n ≡ cast_signed w64 (from_be_bytes w64 bytes)
back_64 n bytes h e = sym (to_z-of_z w64 n h) ∙ ap (cast_signed w64) (sym (from_be_bytes-to_be_bytes_8 (cast_unsigned w64 n) (below_64 n h)) ∙ ap (from_be_bytes w64) (sym e))

one_byte : (a b : ℕ) (bytes : List ℕ) → bytes ≡ a ∷ [] → bytes ≡ b ∷ [] → a ≡ b
one_byte a b bytes p q = cc

pub binary_once : (kind : ColType) (bytes : List ℕ) (a b : Value) → ReadsBinary kind bytes a → ReadsBinary kind bytes b → a ≡ b
binary_once kind.Bool bytes a b p q = p.0.2 ∙ ap (λ (k : ℕ). value.Bool (not (eqb k 0))) (one_byte p.0.0 q.0.0 bytes p.0.1 q.0.1) ∙ sym q.0.2
binary_once kind.Int4 bytes a b p q = p.0.3 ∙ ap value.Int4 (back_32 p.0.0 bytes p.0.1 p.0.2 ∙ sym (back_32 q.0.0 bytes q.0.1 q.0.2)) ∙ sym q.0.3
binary_once kind.Int8 bytes a b p q = p.0.3 ∙ ap value.Int8 (back_64 p.0.0 bytes p.0.1 p.0.2 ∙ sym (back_64 q.0.0 bytes q.0.1 q.0.2)) ∙ sym q.0.3
binary_once kind.Text bytes a b p q = p.1 ∙ sym q.1
binary_once kind.Moment bytes a b p q = p.0.3 ∙ ap value.Moment (back_64 p.0.0 bytes p.0.1 p.0.2 ∙ sym (back_64 q.0.0 bytes q.0.1 q.0.2)) ∙ sym q.0.3

right_length : (width : ℕ) (bytes code : List ℕ) → length bytes ≡ width → HasOtherLength width bytes code → ⊥
right_length width bytes code e (inl h) = omega (arith, h.0, e)
right_length width bytes code e (inr h) = omega (arith, h.0, e)

pub binary_never : (kind : ColType) (bytes : List ℕ) (a : Value) (c : List ℕ) → ReadsBinary kind bytes a → RefusesBinary kind bytes c → ⊥
binary_never kind.Bool bytes a c p q = right_length 1 bytes c (ap length p.0.1) q
binary_never kind.Int4 bytes a c p q = right_length 4 bytes c (ap length p.0.2) q
binary_never kind.Int8 bytes a c p q = right_length 8 bytes c (ap length p.0.2) q
binary_never kind.Text bytes a c p q = q.0 p.0
binary_never kind.Moment bytes a c p (inl q) = right_length 8 bytes c (ap length p.0.2) q
binary_never kind.Moment bytes a c p (inr q) =
    let same : p.0.0 ≡ q.0 = back_64 p.0.0 bytes p.0.1 p.0.2 ∙ sym (back_64 q.0 bytes q.1 q.2) in
    let ranged : IsMoment p.0.0 = subst IsInRange p.0.3 p.1 in
    q.3 (subst IsMoment same ranged)

one_length_code : (width : ℕ) (bytes a b : List ℕ) → HasOtherLength width bytes a → HasOtherLength width bytes b → a ≡ b
one_length_code width bytes a b (inl p) (inl q) = p.1 ∙ sym q.1
one_length_code width bytes a b (inl p) (inr q) = absurd (omega (arith, p.0, q.0))
one_length_code width bytes a b (inr p) (inl q) = absurd (omega (arith, p.0, q.0))
one_length_code width bytes a b (inr p) (inr q) = p.1 ∙ sym q.1

pub binary_refuses_once : (kind : ColType) (bytes : List ℕ) (a b : List ℕ) → RefusesBinary kind bytes a → RefusesBinary kind bytes b → a ≡ b
binary_refuses_once kind.Bool bytes a b p q = one_length_code 1 bytes a b p q
binary_refuses_once kind.Int4 bytes a b p q = one_length_code 4 bytes a b p q
binary_refuses_once kind.Int8 bytes a b p q = one_length_code 8 bytes a b p q
binary_refuses_once kind.Text bytes a b p q = p.1 ∙ sym q.1
binary_refuses_once kind.Moment bytes a b (inl p) (inl q) = one_length_code 8 bytes a b p q
binary_refuses_once kind.Moment bytes a b (inl p) (inr q) = absurd (right_length 8 bytes a (ap length q.2) p)
binary_refuses_once kind.Moment bytes a b (inr p) (inl q) = absurd (right_length 8 bytes b (ap length p.2) q)
binary_refuses_once kind.Moment bytes a b (inr p) (inr q) = p.4 ∙ sym q.4
