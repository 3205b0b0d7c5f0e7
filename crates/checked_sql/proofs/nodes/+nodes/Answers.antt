use Rattle.std.proofs.Common.{◌≡◌, List, ap, sym, ◌∙◌}
use Rattle.std.specs.Prelude.{◌&&◌, Bool as Truth, true}
use Rattle.std.specs.List.{list_all}
use Rattle.typed_sql.specs.declared.asks.Takes.TheVariants.{Any, Whole, Like}
use Rattle.typed_sql.specs.declared.typed.TypedExpr.{TypedExpr}
use Rattle.typed_sql.specs.declared.typed.TypedSumPart.{TypedSumPart}
use Rattle.typed_sql.specs.declared.typed.TypedProductPart.{TypedProductPart}
use Rattle.checked_sql.specs.Sound.{has_one, names_of, stands}
use Rattle.checked_sql.proofs.Forms.{fits_member, fits_product, fits_sum}
use Rattle.checked_sql.proofs.nodes.+nodes.Goals as goal

-- where the first may stand, all depends on the others
behind_first : (told first rest others fits : Truth) → told ≡ true → told ≡ first → rest ≡ others → fits ≡ (first && others) → rest ≡ fits
behind_first told first rest others fits may is_first is_rest is = is_rest ∙ sym (is ∙ ap (λ (b : Truth). b && others) (sym is_first ∙ may))

pub fits-returns-then-stands-2 : goal.fits-returns-then-stands-2
fits-returns-then-stands-2 t c =
    let names = names_of c.args.names.now in
    behind_first c.stands-in-Member.result (stands names Any c.in-Member.of) c.are_listed.result
    (has_one c.in-Member.list && list_all (stands names (Like c.in-Member.of.kind)) c.in-Member.list) _ c.if-stands-2.true
    (c.stands-in-Member.ensures ∙ ap (stands names Any) c.get-in-Member-2.ensures)
    (c.are_listed.ensures
    ∙ ap (λ (e : TypedExpr). has_one c.in-Member.list && list_all (stands names (Like e.kind)) c.in-Member.list) c.get-in-Member.ensures)
    (fits_member names c.args.form.now c.in-Member.of c.in-Member.negated c.in-Member.list c.in-Member.is)

pub fits-returns-then-stands-3 : goal.fits-returns-then-stands-3
fits-returns-then-stands-3 t c =
    let names = names_of c.args.names.now in
    behind_first c.stands-in-Sum.result (stands names Whole c.in-Sum.first) c.are_summands.result
    (has_one c.in-Sum.parts && list_all (λ (s : TypedSumPart). stands names Whole s.part) c.in-Sum.parts) _ c.if-stands-3.true
    (c.stands-in-Sum.ensures ∙ ap (stands names Whole) c.get-in-Sum.ensures)
    c.are_summands.ensures
    (fits_sum names c.args.form.now c.in-Sum.first c.in-Sum.parts c.in-Sum.is)

pub fits-returns-then-stands-4 : goal.fits-returns-then-stands-4
fits-returns-then-stands-4 t c =
    let names = names_of c.args.names.now in
    behind_first c.stands-in-Product.result (stands names Whole c.in-Product.first) c.are_factors.result
    (has_one c.in-Product.parts && list_all (λ (f : TypedProductPart). stands names Whole f.part) c.in-Product.parts) _ c.if-stands-4.true
    (c.stands-in-Product.ensures ∙ ap (stands names Whole) c.get-in-Product.ensures)
    c.are_factors.ensures
    (fits_product names c.args.form.now c.in-Product.first c.in-Product.parts c.in-Product.is)
