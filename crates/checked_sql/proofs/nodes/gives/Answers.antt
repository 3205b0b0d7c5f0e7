use Rattle.std.proofs.Common.{List, map, ap, sym, ◌∙◌}
use Rattle.pg_values.specs.declared.col_type.ColType.{ColType}
use Rattle.typed_sql.specs.declared.typed.TypedExpr.{TypedExpr}
use Rattle.typed_sql.specs.declared.typed.TypedSumPart.{TypedSumPart}
use Rattle.typed_sql.specs.declared.typed.TypedProductPart.{TypedProductPart}
use Rattle.typed_sql.specs.Places.{same_kind}
use Rattle.checked_sql.specs.Sound.{chain_kind, names_of}
use Rattle.checked_sql.proofs.Forms.{gives_product, gives_sum}
use Rattle.checked_sql.proofs.nodes.gives.Goals as goal

pub returns-in-Sum : goal.returns-in-Sum
returns-in-Sum c =
    let kind = c.args.expr.now.kind in
    let parts = c.as_slice.result.now in
    c.same_kind-in-Sum.ensures
    ∙ (ap (λ (k : ColType). same_kind k kind)
    (c.kind_of_sum.ensures
    ∙ (ap (λ (e : TypedExpr). chain_kind e.kind (map (λ (s : TypedSumPart). s.part.kind) parts)) c.get.ensures
    ∙ ap (λ (ps : List TypedSumPart). chain_kind c.in-Sum.first.kind (map (λ (s : TypedSumPart). s.part.kind) ps)) c.as_slice.ensures))
    ∙ sym (gives_sum (names_of c.args.names.now) c.args.expr.now.form kind c.in-Sum.first c.in-Sum.parts c.in-Sum.is))

pub returns-in-Product : goal.returns-in-Product
returns-in-Product c =
    let kind = c.args.expr.now.kind in
    let parts = c.as_slice-in-Product.result.now in
    c.same_kind-in-Product.ensures
    ∙ (ap (λ (k : ColType). same_kind k kind)
    (c.kind_of_product.ensures
    ∙ (ap (λ (e : TypedExpr). chain_kind e.kind (map (λ (f : TypedProductPart). f.part.kind) parts)) c.get-in-Product.ensures
    ∙ ap (λ (ps : List TypedProductPart). chain_kind c.in-Product.first.kind (map (λ (f : TypedProductPart). f.part.kind) ps)) c.as_slice-in-Product.ensures))
    ∙ sym (gives_product (names_of c.args.names.now) c.args.expr.now.form kind c.in-Product.first c.in-Product.parts c.in-Product.is))
