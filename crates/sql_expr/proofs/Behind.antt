-- What is read behind a token that begins a nesting.
use Rattle.std.proofs.Common.{◌≡◌, ◌≢◌, ℕ, zero, suc, ◌+◌, ◌-◌, List, length, Err, refl, ap, arith}
use Rattle.sql_tokens.specs.declared.fault.Fault.TheVariants.{TooDeep}
use Rattle.sql_tokens.specs.declared.token.Token.{Token}
use Rattle.sql_expr.specs.declared.opening.Function.{Function}
use Rattle.sql_expr.specs.declared.opening.Opening.{Opening}
use Rattle.sql_expr.specs.declared.opening.Opening.TheVariants as opening
use Rattle.sql_expr.specs.Reading.{called_at, minus_with, negated_with, or_with, behind}

pub behind_none : (d : ℕ) (o : Opening) (ts : List Token) → d ≡ 0 → behind d o ts ≡ Err (TooDeep (length ts + 1))
unfolding behind
behind_none zero o ts h = ap (λ (n : ℕ). Err (TooDeep n)) (omega arith)
behind_none (suc d) o ts h = absurd (omega arith)

one_less : (d : ℕ) → suc d - 1 ≡ d
one_less d = omega arith

pub behind_minus : (d : ℕ) (o : Opening) (ts : List Token) → d ≢ 0 → o ≡ opening.Minus → minus_with (behind (d - 1)) ts ≡ behind d o ts
unfolding behind
behind_minus zero o ts h e = absurd (h refl)
behind_minus (suc d) o ts h e = rw (one_less d, e) refl

pub behind_not : (d : ℕ) (o : Opening) (ts : List Token) → d ≢ 0 → o ≡ opening.Not → negated_with (behind (d - 1)) ts ≡ behind d o ts
unfolding behind
behind_not zero o ts h e = absurd (h refl)
behind_not (suc d) o ts h e = rw (one_less d, e) refl

pub behind_parenthesis : (d : ℕ) (o : Opening) (ts : List Token) → d ≢ 0 → o ≡ opening.Parenthesis → or_with (behind (d - 1)) ts ≡ behind d o ts
unfolding behind
behind_parenthesis zero o ts h e = absurd (h refl)
behind_parenthesis (suc d) o ts h e = rw (one_less d, e) refl

pub behind_call : (d : ℕ) (f : Function) (o : Opening) (ts : List Token) → d ≢ 0 → o ≡ opening.Call f → called_at f ts ≡ behind d o ts
unfolding behind
behind_call zero f o ts h e = absurd (h refl)
behind_call (suc d) f o ts h e = rw e refl
