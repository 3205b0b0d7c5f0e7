use Rattle.std.proofs.Common.{rules, ◌≡◌, ◌∙◌, sym, ap}
use Rattle.std.specs.Prelude.{◌&&◌, Bool as Truth, true}
use Rattle.std.specs.List.{list_all}
use Rattle.time_rewrite.specs.Timeless.{timeless_expr}
use Rattle.backend_trait.proofs.TimelessForms.{timeless_member, timeless_product, timeless_sum}
use Rattle.backend_trait.proofs.timeless.+timeless.Goals as goal

pub is_timeless_form-returns-then-is_timeless-2 : goal.is_timeless_form-returns-then-is_timeless-2
is_timeless_form-returns-then-is_timeless-2 t c =
    let first : timeless_expr c.in-Member.of ≡ true = search rules in
    let rest : c.are_timeless.result ≡ list_all timeless_expr c.in-Member.list = search rules in
    rest ∙ sym (timeless_member c.args.form.now c.in-Member.of c.in-Member.negated c.in-Member.list c.in-Member.is
    ∙ ap (λ (b : Truth). b && list_all timeless_expr c.in-Member.list) first)

pub is_timeless_form-returns-then-is_timeless-3 : goal.is_timeless_form-returns-then-is_timeless-3
is_timeless_form-returns-then-is_timeless-3 t c =
    let first : timeless_expr c.in-Sum.first ≡ true = search rules in
    let rest : c.are_timeless_summands.result ≡ list_all (λ s. timeless_expr s.part) c.in-Sum.parts = search rules in
    rest ∙ sym (timeless_sum c.args.form.now c.in-Sum.first c.in-Sum.parts c.in-Sum.is
    ∙ ap (λ (b : Truth). b && list_all (λ s. timeless_expr s.part) c.in-Sum.parts) first)

pub is_timeless_form-returns-then-is_timeless-4 : goal.is_timeless_form-returns-then-is_timeless-4
is_timeless_form-returns-then-is_timeless-4 t c =
    let first : timeless_expr c.in-Product.first ≡ true = search rules in
    let rest : c.are_timeless_factors.result ≡ list_all (λ f. timeless_expr f.part) c.in-Product.parts = search rules in
    rest ∙ sym (timeless_product c.args.form.now c.in-Product.first c.in-Product.parts c.in-Product.is
    ∙ ap (λ (b : Truth). b && list_all (λ f. timeless_expr f.part) c.in-Product.parts) first)
