-- The laws of a whole text.
use Rattle.std.proofs.Common.{◌≡◌, ℕ, List, Result, Ok, Err}
use Rattle.std.specs.Prelude.{IfOk}
use Rattle.sql_tokens.specs.declared.fault.Awaited.{Awaited}
use Rattle.sql_tokens.specs.declared.fault.Awaited.TheVariants.{End}
use Rattle.sql_tokens.specs.declared.fault.Fault.TheVariants.{Syntax, TooDeep}
use Rattle.sql_tokens.specs.declared.fault.ReadError.{ReadError}
use Rattle.sql_tokens.specs.declared.fault.ReadError.TheVariants as errors
use Rattle.sql_tokens.specs.Grammar.{IsPlace, IsTooDeep}
use Rattle.sql_tokens.specs.Reading.{Gives}
use Rattle.sql_tokens.proofs.Whole as whole
use Rattle.sql_tokens.specs.declared.token.Token.{Token}
use Rattle.sql_tree.specs.declared.expr.Expr.{Expr}
use Rattle.sql_expr.specs.Grammar.{OrOf, Behind, IsText, IsTextWithin}
use Rattle.sql_expr.specs.Reading.{or_with, behind, whole_at}
use Rattle.sql_expr.proofs.Ends.{EndsOr, end_stops}
use Rattle.sql_expr.proofs.Laws.{good_expr}
use Rattle.sql_expr.proofs.Places.{told_expr}
use Rattle.sql_expr.proofs.Same.{same_expr}

reads : (d : ℕ) → whole.Reads (OrOf (Behind d)) (or_with (behind d)) EndsOr
reads d = record { takes = (good_expr d).takes; again = (good_expr d).again }

pub is_found : (d : ℕ) (ts : List Token) (r : Result Expr ReadError) → Gives (λ x. x) r (whole_at d ts) → IfOk r (λ e. IsTextWithin d ts e)
is_found = whole.is_found (λ d. OrOf (Behind d)) (λ d. or_with (behind d)) EndsOr End reads told_expr same_expr end_stops

pub is_only : (d : ℕ) (ts : List Token) (r : Result Expr ReadError) → Gives (λ x. x) r (whole_at d ts) → (e : Expr) → IsTextWithin d ts e → Gives (λ x. x) r (Ok e)
is_only = whole.is_only (λ d. OrOf (Behind d)) (λ d. or_with (behind d)) EndsOr End reads told_expr same_expr end_stops

pub is_place : (d : ℕ) (ts : List Token) (r : Result Expr ReadError) (n : ℕ) (w : Awaited) → Gives (λ x. x) r (whole_at d ts) → r ≡ Err (errors.Fault (Syntax n w)) → IsPlace IsText ts n
is_place = whole.is_place (λ d. OrOf (Behind d)) (λ d. or_with (behind d)) EndsOr End reads told_expr same_expr end_stops

pub is_deep : (d : ℕ) (ts : List Token) (r : Result Expr ReadError) (n : ℕ) → Gives (λ x. x) r (whole_at d ts) → r ≡ Err (errors.Fault (TooDeep n)) → IsTooDeep IsText (IsTextWithin d) ts n
is_deep = whole.is_deep (λ d. OrOf (Behind d)) (λ d. or_with (behind d)) EndsOr End reads told_expr same_expr end_stops
