-- A DEFAULT, as it is written, is read as the constant.
use Rattle.std.proofs.Common.{◌≡◌, ◌∙◌, ◌==◌, ◌&&◌, ◌<◌, ◌≤◌, ◌^◌, ◌+◌, ◌≤ℤ◌, ℕ, zero, suc, ℤ, pos, negsuc, neg_ℤ, Bool as Truth, true, false, cond, List, [], ◌∷◌, ◌++◌, length, map, refl, sym, ap, subst, if◌then◌else◌, inl, inr, append_assoc, lit<, lit≤, arith, Option, Some, None}
use Rattle.std.specs.Prelude.{codes, nat_lt, FitsSigned, ◌≢◌}
use Rattle.std.specs.List.{All}
use Rattle.std.specs.Fmt.{decimal, signed_decimal}
use Rattle.std.specs.Int.{w32, w64}
use Rattle.std.specs.Int.Signed.{le_z}
use Rattle.std.proofs.lemmas.Bool.{cond-true, cond-false, ltb-true, ltb-false, lt-ltb}
use Rattle.std.proofs.lemmas.Int.{ints}
use Rattle.std.proofs.lemmas.List.Elements.{All-head, All-tail}
use Rattle.sql_tokens.specs.declared.mark.Mark.TheVariants as marks
use Rattle.sql_tokens.specs.declared.token.Token.{Token as AnyToken}
use Rattle.sql_tokens.specs.declared.token.Token.TheVariants as token
use Rattle.sql_tokens.specs.declared.token.TokenFault.TheVariants.{OutOfRange}
use Rattle.sql_tokens.specs.declared.word.Word.TheVariants as words
use Rattle.sql_tokens.specs.declared.piece.Piece.TheVariants.{Token}
use Rattle.sql_tokens.specs.Pieces.{whole_token, PieceOf}
use Rattle.sql_print.specs.Spelling.{spelled, string}
use Rattle.pg_values.specs.declared.col_type.ColType.{ColType}
use Rattle.pg_values.specs.declared.col_type.ColType.TheVariants as kind
use Rattle.pg_values.specs.declared.value.Value.{Value}
use Rattle.pg_values.specs.declared.value.Value.TheVariants as value
use Rattle.pg_values.specs.Range.{IsMoment, IsInRange}
use Rattle.pg_values.specs.Range as range
use Rattle.pg_values.specs.Moments.{IsPrintedMoment}
use Rattle.pg_values.specs.Answers.{ReadsText}
use Rattle.pg_values.proofs.RoundTrip.{text_again}
use Rattle.schema.specs.declared.catalogue.Fill.{Fill}
use Rattle.schema.specs.declared.catalogue.Fill.TheVariants as fill
use Rattle.schema.specs.Values.{is_within, number_value}
use Rattle.schema.specs.Grammar.{FillOf, number, negative, least, string as string_fill, truth, falsehood, null, now}
use Rattle.schema_print.specs.Printed.{IsConstantText, IsFillText, truth_text}
use Rattle.schema.specs.Allowed.{HasNoZero, IsConstantOf}
use Rattle.schema_print.proofs.Runs.{IsCalm, calm_name, whole_piece, decimal_apart}
use Rattle.schema_print.proofs.Tokens.{AreRead, token_read}
use Rattle.schema_print.proofs.Lexed.{word_read, spaced_word, string_read, minus_read, open_read, close_read, bare_name, bare_read}

-- what a constant is read as: at most three tokens
abbrev pub ReadFill : ColType → Fill → List ℕ → List AnyToken → Type 0
ReadFill of f bytes tokens = (mid : List AnyToken) × AreRead bytes mid × (length mid ≤ 3 + length tokens) × FillOf of mid f tokens

-- ---- numbers

fits_int4 : (n : ℤ) → FitsSigned w32 n → is_within (neg_ℤ (pos 2147483648)) (pos 2147483647) n ≡ true
fits_int4 (pos n) f = let h = f.sfits in grind (arith, ints, h)
fits_int4 (negsuc n) f = let h = f.sfits in grind (arith, ints, h)

fits_int8 : (n : ℤ) → FitsSigned w64 n → is_within (neg_ℤ (pos 9223372036854775808)) (pos 9223372036854775807) n ≡ true
fits_int8 (pos n) f = let h = f.sfits in grind (arith, ints, h)
fits_int8 (negsuc n) f = let h = f.sfits in grind (arith, ints, h)

int4_value : (n : ℤ) → FitsSigned w32 n → number_value kind.Int4 n ≡ Some (value.Int4 n)
int4_value n f = cond-true _ (Some (value.Int4 n)) None (fits_int4 n f)

int8_value : (n : ℤ) → FitsSigned w64 n → number_value kind.Int8 n ≡ Some (value.Int8 n)
int8_value n f = cond-true _ (Some (value.Int8 n)) None (fits_int8 n f)

-- digits of a number that the tokens hold
whole_read : (n : ℕ) (rest : List ℕ) (tokens : List AnyToken) → n < 2 ^ 63 → IsCalm rest → AreRead rest tokens → AreRead (decimal n ++ rest) (token.Number (pos n) ∷ tokens)
whole_read n rest tokens low calm others =
    let is : whole_token n ≡ token.Number (pos n) = cond-true (nat_lt n (2 ^ 63)) _ _ (lt-ltb n (2 ^ 63) low) in
    token_read (decimal n) rest (token.Number (pos n)) tokens (λ _. refl)
    (subst (λ t. PieceOf (decimal n ++ rest) (Token t) rest) is (whole_piece n rest (omega arith) calm)) others

least_read : (rest : List ℕ) (tokens : List AnyToken) → IsCalm rest → AreRead rest tokens → AreRead (decimal (2 ^ 63) ++ rest) (token.Least ∷ tokens)
least_read rest tokens calm others = token_read (decimal (2 ^ 63)) rest token.Least tokens (λ _. refl) (whole_piece (2 ^ 63) rest (lit< tt) calm) others

low_of : (n : ℕ) → FitsSigned w64 (negsuc n) → suc n ≤ 2 ^ 63
low_of n f = let h = f.sfits in omega (arith, h)

-- a number with its minus
minus_number : (of : ColType) (v : Value) (n : ℕ) (rest : List ℕ) (tokens : List AnyToken) → suc n ≤ 2 ^ 63 → number_value of (negsuc n) ≡ Some v → IsCalm rest → AreRead rest tokens
    → (t : Truth) → nat_lt (suc n) (2 ^ 63) ≡ t → ReadFill of (fill.Constant v) (45 ∷ (decimal (suc n) ++ rest)) tokens
minus_number of v n rest tokens low is calm others true e = (
  token.Mark marks.Minus ∷ token.Number (pos (suc n)) ∷ tokens,
  minus_read (decimal (suc n) ++ rest) (token.Number (pos (suc n)) ∷ tokens) (decimal_apart (suc n) rest (omega (arith, low))) (whole_read (suc n) rest tokens (ltb-true (suc n) (2 ^ 63) e) calm others),
  omega arith,
  negative (pos (suc n)) v refl is refl,
)
minus_number of v n rest tokens low is calm others false e =
    let above = ltb-false (suc n) (2 ^ 63) e in
    let same : suc n ≡ 2 ^ 63 = omega (arith, low, above) in
    subst (λ k. ReadFill of (fill.Constant v) (45 ∷ (decimal k ++ rest)) tokens) (sym same) (
      token.Mark marks.Minus ∷ token.Least ∷ tokens,
      minus_read (decimal (2 ^ 63) ++ rest) (token.Least ∷ tokens) (decimal_apart (2 ^ 63) rest (lit< tt)) (least_read rest tokens calm others),
      omega arith,
      least v refl (subst (λ k. number_value of (neg_ℤ (pos k)) ≡ Some v) same is) refl,
    )

-- a number of the type: its value is v, and that of the least int8 too
number_read : (of : ColType) (v : Value) (n : ℤ) (rest : List ℕ) (tokens : List AnyToken) → FitsSigned w64 n → number_value of n ≡ Some v → IsCalm rest → AreRead rest tokens
    → ReadFill of (fill.Constant v) (signed_decimal n ++ rest) tokens
number_read of v (pos n) rest tokens f is calm others =
    let h = f.sfits in
    (token.Number (pos n) ∷ tokens, whole_read n rest tokens (omega (arith, h)) calm others, omega arith, number (pos n) v refl is refl)
number_read of v (negsuc n) rest tokens f is calm others = minus_number of v n rest tokens (low_of n f) is calm others (nat_lt (suc n) (2 ^ 63)) refl

-- ---- strings

no_zero : (text : List ℕ) → All (λ b. b ≢ 0) text → HasNoZero text
no_zero [] all = tt
no_zero (b ∷ text) all =
    let here : b ≢ 0 = All-head (λ b. b ≢ 0) b text all in
    (above b here, no_zero text (All-tail (λ b. b ≢ 0) b text all))
  where
    above : (b : ℕ) → b ≢ 0 → 0 < b
    above zero other = absurd (other refl)
    above (suc b) other = omega arith

moment_reads : (micros : ℤ) (printed : List ℕ) → IsMoment micros → FitsSigned w64 micros → IsPrintedMoment micros printed → ReadsText kind.Moment printed (value.Moment micros)
moment_reads micros printed is f shown = text_again kind.Moment (value.Moment micros) printed f is (printed, refl, shown)

-- ---- constants

truth_read : (b : Truth) (rest : List ℕ) (tokens : List AnyToken) → IsCalm rest → AreRead rest tokens
    → ReadFill kind.Bool (fill.Constant (value.Bool b)) (truth_text b ++ rest) tokens
truth_read true rest tokens calm others = (token.Word words.True ∷ tokens, word_read words.True rest tokens (calm_name rest calm) others, omega arith, truth (value.Bool true) refl refl refl)
truth_read false rest tokens calm others = (token.Word words.False ∷ tokens, word_read words.False rest tokens (calm_name rest calm) others, omega arith, falsehood (value.Bool false) refl refl refl)

-- as a constant of the type that it has
pub constant_read : (of : ColType) (v : Value) (text rest : List ℕ) (tokens : List AnyToken) → IsConstantText v text → IsConstantOf of v → IsCalm rest → AreRead rest tokens
    → ReadFill of (fill.Constant v) (text ++ rest) tokens
constant_read of value.Null text rest tokens is fits calm others =
    subst (λ t. ReadFill of (fill.Constant value.Null) (t ++ rest) tokens) (sym is)
    (token.Word words.Null ∷ tokens, word_read words.Null rest tokens (calm_name rest calm) others, omega arith, null refl refl)
constant_read of (value.Bool b) text rest tokens is fits calm others =
    subst (λ t. ReadFill of (fill.Constant (value.Bool b)) (t ++ rest) tokens) (sym is)
    (subst (λ k. ReadFill k (fill.Constant (value.Bool b)) (truth_text b ++ rest) tokens) (sym fits) (truth_read b rest tokens calm others))
constant_read of (value.Int4 n) text rest tokens is fits calm others =
    subst (λ t. ReadFill of (fill.Constant (value.Int4 n)) (t ++ rest) tokens) (sym is)
    (subst (λ k. ReadFill k (fill.Constant (value.Int4 n)) (signed_decimal n ++ rest) tokens) (sym fits.0)
    (number_read kind.Int4 (value.Int4 n) n rest tokens (wider n fits.1) (int4_value n fits.1) calm others))
  where
    wider : (n : ℤ) → FitsSigned w32 n → FitsSigned w64 n
    wider n h = let f = h.sfits in record { sfits = omega (arith, f) }
constant_read of (value.Int8 n) text rest tokens is fits calm others =
    subst (λ t. ReadFill of (fill.Constant (value.Int8 n)) (t ++ rest) tokens) (sym is)
    (subst (λ k. ReadFill k (fill.Constant (value.Int8 n)) (signed_decimal n ++ rest) tokens) (sym fits.0)
    (number_read kind.Int8 (value.Int8 n) n rest tokens fits.1 (int8_value n fits.1) calm others))
constant_read of (value.Text bytes) text rest tokens is fits calm others =
    subst (λ t. ReadFill of (fill.Constant (value.Text bytes)) (t ++ rest) tokens) (sym is)
    (subst (λ k. ReadFill k (fill.Constant (value.Text bytes)) (spelled (string bytes) ++ rest) tokens) (sym fits.0)
    (token.Str bytes ∷ tokens, string_read bytes rest tokens fits.1 calm others, omega arith, string_fill bytes (value.Text bytes) refl refl refl))
constant_read of (value.Moment micros) text rest tokens (printed, shown, is) fits calm others =
    let reads = moment_reads micros printed fits.1.0 fits.1.1 shown in
    subst (λ t. ReadFill of (fill.Constant (value.Moment micros)) (t ++ rest) tokens) (sym is)
    (subst (λ k. ReadFill k (fill.Constant (value.Moment micros)) (spelled (string printed) ++ rest) tokens) (sym fits.0)
    (token.Str printed ∷ tokens, string_read printed rest tokens (no_zero printed reads.0.1) calm others, omega arith, string_fill printed (value.Moment micros) refl reads refl))

-- now()
pub now_read : (rest : List ℕ) (tokens : List AnyToken) → AreRead rest tokens → ReadFill kind.Moment fill.Now (codes "now()" ++ rest) tokens
now_read rest tokens others = (
  bare_name (codes "now") ∷ token.Mark marks.Open ∷ token.Mark marks.Close ∷ tokens,
  bare_read (codes "now") (codes "()" ++ rest) (token.Mark marks.Open ∷ token.Mark marks.Close ∷ tokens) refl (lit≤ tt) refl
      (open_read (codes ")" ++ rest) (token.Mark marks.Close ∷ tokens) (close_read rest tokens others)),
  omega arith,
  now (record { text = codes "now"; quoted = false }) refl refl refl refl,
)
