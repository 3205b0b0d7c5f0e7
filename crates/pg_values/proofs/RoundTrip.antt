-- What is written of a value is read as that value.
use Rattle.std.proofs.Common.{◌≡◌, ℕ, suc, ◌<◌, ◌^◌, Bool, true, false, cond, not, eqb, List, [], ◌∷◌, length, Some, refl, sym, ap, subst, ◌∙◌, inl, arith, ℤ, pos, negsuc}
use Rattle.std.specs.Prelude.{codes, FitsSigned}
use Rattle.std.specs.Fmt.{decimal, signed_decimal}
use Rattle.std.specs.Int.{w32, w64}
use Rattle.std.proofs.lemmas.List.{append-nil}
use Rattle.std.proofs.lemmas.Fmt.{digits_decimal, digits_value-decimal, decimal_nonempty}
use Rattle.pg_values.specs.declared.col_type.ColType.{ColType}
use Rattle.pg_values.specs.declared.col_type.ColType.TheVariants as kind
use Rattle.pg_values.specs.declared.value.Value.{Value}
use Rattle.pg_values.specs.declared.value.Value.TheVariants as value
use Rattle.pg_values.specs.Digits.{are_digits, number_of}
use Rattle.pg_values.specs.Range.{IsMoment, IsInRange}
use Rattle.pg_values.specs.Moments.{moment_of, printed_text}
use Rattle.pg_values.specs.Text.{IsNumberText, signed, IsTextOf, IsOfType}
use Rattle.pg_values.specs.Binary.{binary_form}
use Rattle.pg_values.specs.Answers.{IsPlain, ReadsText, ReadsBinary}
use Rattle.pg_values.proofs.DigitLemmas.{own, some_is}
use Rattle.pg_values.proofs.PrintLemmas.{plain_of, plain_digits, plain_printed, printed_again}

bool_again : (truth : Bool) → ReadsText kind.Bool (cond truth (codes "t") (codes "f")) (value.Bool truth)
bool_again true = (plain_of (codes "t") refl, (true, record { before = []; word = codes "t"; after = []; spaces_before = tt; is_word = inl refl; spaces_after = tt; parts = refl }, refl))
bool_again false = (plain_of (codes "f") refl, (false, record { before = []; word = codes "f"; after = []; spaces_before = tt; is_word = inl refl; spaces_after = tt; parts = refl }, refl))

-- the digits of a number
record IsDecimal (n : ℕ) : Type 0 where
  digits : are_digits (decimal n) ≡ true
  number : number_of (decimal n) ≡ n
  some : 0 < length (decimal n)

is_decimal : (n : ℕ) → n < 2 ^ 64 → IsDecimal n
is_decimal n h = record { digits = digits_decimal own n h; number = digits_value-decimal own n h; some = decimal_nonempty n h }

number_again : (n : ℤ) → FitsSigned w64 n → IsPlain (signed_decimal n) × IsNumberText (signed_decimal n) n
number_again (pos k) h =
    let d = is_decimal k (omega (arith, h.sfits)) in (
      plain_of (decimal k) (plain_digits (decimal k) d.digits),
      (false, decimal k, record { before = []; sign = []; after = []; spaces_before = tt; is_sign = inl refl; are_digits = d.digits; some = d.some; spaces_after = tt; parts = sym (append-nil (decimal k)) }, ap pos (sym d.number)),
    )
number_again (negsuc k) h =
    let d = is_decimal (suc k) (omega (arith, h.sfits)) in (
      plain_of (45 ∷ decimal (suc k)) (plain_digits (decimal (suc k)) d.digits),
      (true, decimal (suc k), record { before = []; sign = codes "-"; after = []; spaces_before = tt; is_sign = refl; are_digits = d.digits; some = d.some; spaces_after = tt; parts = ap (λ (x : List ℕ). 45 ∷ x) (sym (append-nil (decimal (suc k)))) }, ap (signed true) (sym d.number)),
    )

wider : (n : ℤ) → FitsSigned w32 n → FitsSigned w64 n
wider n h = record { sfits = omega (arith, h.sfits) }

pub text_again : (kind : ColType) (v : Value) (text : List ℕ) → IsOfType kind v → IsInRange v → IsTextOf v (Some text) → ReadsText kind text v
text_again kind.Bool (value.Bool truth) text o r e = subst (λ (x : List ℕ). ReadsText kind.Bool x (value.Bool truth)) (sym (some_is _ _ e)) (bool_again truth)
text_again kind.Int4 (value.Int4 n) text o r e =
    let again = number_again n (wider n o) in
    subst (λ (x : List ℕ). ReadsText kind.Int4 x (value.Int4 n)) (sym (some_is _ _ e)) (again.0, (n, again.1, o, refl))
text_again kind.Int8 (value.Int8 n) text o r e =
    let again = number_again n o in
    subst (λ (x : List ℕ). ReadsText kind.Int8 x (value.Int8 n)) (sym (some_is _ _ e)) (again.0, (n, again.1, o, refl))
text_again kind.Text (value.Text t) text o r e =
    let same : text ≡ t = some_is _ _ e in
    subst (λ (x : List ℕ). ReadsText kind.Text x (value.Text t)) (sym same) ((o, r), refl)
text_again kind.Moment (value.Moment m) text o r e =
    let printed = e.2 in
    let reading = printed.0 in
    let again = printed_again reading printed.1 in
    let means : moment_of again.0 ≡ m = again.1.moment ∙ printed.2 in
    let same : printed_text reading ≡ text = sym (some_is _ _ e.1 ∙ printed.3) in
    subst (λ (x : List ℕ). ReadsText kind.Moment x (value.Moment m)) same
    (plain_of (printed_text reading) (plain_printed reading printed.1), (again.0, again.1.text, again.1.fields, subst IsMoment (sym means) r, ap value.Moment (sym means)))
text_again kind v text o r e = absurd o

truth_byte : (truth : Bool) → value.Bool truth ≡ value.Bool (not (eqb (cond truth 1 0) 0))
truth_byte true = refl
truth_byte false = refl

pub binary_again : (kind : ColType) (v : Value) (bytes : List ℕ) → IsOfType kind v → IsInRange v → binary_form v ≡ Some bytes → ReadsBinary kind bytes v
binary_again kind.Bool (value.Bool truth) bytes o r e = ((cond truth 1 0, sym (some_is _ _ e), truth_byte truth), tt)
binary_again kind.Int4 (value.Int4 n) bytes o r e = ((n, o, sym (some_is _ _ e), refl), tt)
binary_again kind.Int8 (value.Int8 n) bytes o r e = ((n, o, sym (some_is _ _ e), refl), tt)
binary_again kind.Text (value.Text t) bytes o r e =
    let same : t ≡ bytes = some_is _ _ e in
    (subst IsPlain same (o, r), ap value.Text same)
binary_again kind.Moment (value.Moment m) bytes o r e = ((m, o, sym (some_is _ _ e), refl), r)
binary_again kind v bytes o r e = absurd o
