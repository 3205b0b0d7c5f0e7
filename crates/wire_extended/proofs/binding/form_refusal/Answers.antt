use Rattle.std.proofs.Common.{◌≡◌, true, false, inr, refl}
use Rattle.wire_extended.proofs.binding.form_refusal.Goals as goal

pub returns-then-not-formats_fit : goal.returns-then-not-formats_fit
returns-then-not-formats_fit c = inr (
  c.if-not-counts_fit.ensures.0 refl,
  λ fit. let e : false ≡ true = c.if-not-formats_fit.ensures.1 fit in cc,
  c.in_ok-refused-2.ensures,
)
