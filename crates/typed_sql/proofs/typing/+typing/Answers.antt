use Rattle.std.proofs.Common.{◌≡◌, ℕ, List, ◌∷◌, map, ap, sym, ◌∙◌, refl, arith}
use Rattle.std.specs.Prelude.{Option, Result, Ok, Err, [], codes}
use Rattle.std.proofs.lemmas.Result.{err_from_is_err_and}
use Rattle.pg_values.specs.declared.col_type.ColType.{ColType}
use Rattle.pg_values.specs.declared.col_type.ColType.TheVariants as kind
use Rattle.sql_tree.specs.declared.expr.Expr.{Expr}
use Rattle.sql_tree.specs.declared.expr.Expr.TheVariants as forms
use Rattle.sql_tree.specs.declared.expr.Expr.TheOpen.{Expr-F}
use Rattle.sql_tree.specs.declared.expr.SumPart.{SumPart}
use Rattle.sql_tree.specs.declared.expr.ProductPart.{ProductPart}
use Rattle.typed_sql.specs.declared.asks.Asks.{Asks}
use Rattle.typed_sql.specs.declared.typed.TypedExpr.{TypedExpr}
use Rattle.typed_sql.specs.declared.typed.TypedForm.TheVariants as form
use Rattle.typed_sql.specs.declared.typed.TypedSumPart.{TypedSumPart}
use Rattle.typed_sql.specs.declared.typed.TypedProductPart.{TypedProductPart}
use Rattle.typed_sql.specs.Places.{asks_bool, asks_text, asks_nothing, asks_beside, asks_like, asks_number, asks_entry}
use Rattle.typed_sql.specs.Own.{own, own_kind, first_kind}
use Rattle.typed_sql.specs.Steps.{Known, Each, fault}
use Rattle.typed_sql.specs.Typing.{Typed, Compared, ComparedWith, Among, EntriesOf, Chain, Parts, Others, own_of_first, summand_of, factor_of, truth, typed}
use Rattle.typed_sql.specs.Meaning.{scope_of, FormOf}
use Rattle.typed_sql.proofs.Faults.{answers_fault}
use Rattle.typed_sql.proofs.Forms.{typed_fits, typed_misfits, typed_stops, formed_answers, formed_stops}
use Rattle.typed_sql.proofs.Layers.{by_layer, out_or, out_and, out_not, out_is_null, out_compare, out_member, out_concat, out_sum, out_product, out_minus, out_int, out_str, out_bool, out_null, out_param, out_column, out_current, out_now, out_transaction, out_moment}
use Rattle.typed_sql.proofs.Placed.{becomes_answers, placed_answers, least_gives, other_answers}
use Rattle.typed_sql.proofs.Chains.{each_next, each_stops, each_whole, parts_next, parts_stop, parts_whole}
use Rattle.typed_sql.proofs.typing.+typing.Goals as goal

-- ---- an expression at its place

pub typed_at-returns-in_err-made : goal.typed_at-returns-in_err-made
typed_at-returns-in_err-made t c =
    let p = err_from_is_err_and c.from_residual.result c.from_residual.ensures.1 in
    rw (p.1, p.2) (typed_stops (scope_of c.args.check.now.scope) c.args.expr.now c.args.asks c.args.known.now.items
    c.form.new.known.items c.form.new.known.items c.in_err-made.field-0.0 c.in_err-made.ensures)

pub typed_at-returns-then-takes : goal.typed_at-returns-then-takes
typed_at-returns-then-takes t c =
    typed_fits (scope_of c.args.check.now.scope) c.args.expr.now c.args.asks c.args.known.now.items c.form.new.known.items
    c.in_ok-made.made c.in_ok-made.ensures (sym c.takes.ensures ∙ c.if-takes.true)

pub typed_at-returns : goal.typed_at-returns
typed_at-returns t c =
    answers_fault (λ (e : TypedExpr). e) c.types_do_not_fit.result (fault (codes "42804") []) c.form.new.known.items
    (Typed (scope_of c.args.check.now.scope) c.args.expr.now c.args.asks c.args.known.now.items) c.types_do_not_fit.ensures
    (typed_misfits (scope_of c.args.check.now.scope) c.args.expr.now c.args.asks c.args.known.now.items c.form.new.known.items
    c.in_ok-made.made c.in_ok-made.ensures (sym c.takes.ensures ∙ c.if-takes.false))

-- ---- an expression by its form

pub form-returns-in-Or : goal.form-returns-in-Or
form-returns-in-Or t c =
    let scope = scope_of c.args.check.now.scope in
    let known = c.args.known.now.items in
    let found = c.as_slice.result.now in
    let new = c.all.new.known.items in
    by_layer scope c.args.leaf c.args.expr.now (forms.Or found) (Expr-F.Or found) c.alternatives.result known new
    (c.in-Or.is ∙ ap (λ (x : List Expr). forms.Or x) (sym c.as_slice.ensures)) (out_or found)
    (placed_answers (λ (es : List TypedExpr). truth (form.Or es)) (λ (q : Asks). Each (λ (part : Expr). Typed scope part q) found)
    c.asks_bool.result asks_bool known new c.all.result c.alternatives.result c.asks_bool.ensures c.all.ensures c.alternatives.ensures)

pub form-returns-in-And : goal.form-returns-in-And
form-returns-in-And t c =
    let scope = scope_of c.args.check.now.scope in
    let known = c.args.known.now.items in
    let found = c.as_slice-in-And.result.now in
    let new = c.all-in-And.new.known.items in
    by_layer scope c.args.leaf c.args.expr.now (forms.And found) (Expr-F.And found) c.conjunction.result known new
    (c.in-And.is ∙ ap (λ (x : List Expr). forms.And x) (sym c.as_slice-in-And.ensures)) (out_and found)
    (placed_answers (λ (es : List TypedExpr). truth (form.And es)) (λ (q : Asks). Each (λ (part : Expr). Typed scope part q) found)
    c.asks_bool-in-And.result asks_bool known new c.all-in-And.result c.conjunction.result c.asks_bool-in-And.ensures c.all-in-And.ensures c.conjunction.ensures)

pub form-returns-in-Not : goal.form-returns-in-Not
form-returns-in-Not t c =
    let scope = scope_of c.args.check.now.scope in
    let known = c.args.known.now.items in
    let found = c.get.result.now in
    let new = c.typed_at.new.known.items in
    by_layer scope c.args.leaf c.args.expr.now (forms.Not found) (Expr-F.Not found) c.negation.result known new
    (c.in-Not.is ∙ ap (λ (x : Expr). forms.Not x) (sym c.get.ensures)) (out_not found)
    (placed_answers (λ (e : TypedExpr). truth (form.Not e)) (Typed scope found)
    c.asks_bool-in-Not.result asks_bool known new c.typed_at.result c.negation.result c.asks_bool-in-Not.ensures c.typed_at.ensures c.negation.ensures)

pub form-returns-in-IsNull : goal.form-returns-in-IsNull
form-returns-in-IsNull t c =
    let scope = scope_of c.args.check.now.scope in
    let known = c.args.known.now.items in
    let found = c.get-in-IsNull.result.now in
    let new = c.typed_at-in-IsNull.new.known.items in
    by_layer scope c.args.leaf c.args.expr.now (forms.IsNull found c.in-IsNull.tests) (Expr-F.IsNull found c.in-IsNull.tests) c.tested.result known new
    (c.in-IsNull.is ∙ ap (λ (x : Expr). forms.IsNull x c.in-IsNull.tests) (sym c.get-in-IsNull.ensures)) (out_is_null found c.in-IsNull.tests)
    (placed_answers (λ (e : TypedExpr). truth (form.IsNull e c.in-IsNull.tests)) (Typed scope found)
    c.asks_nothing.result asks_nothing known new c.typed_at-in-IsNull.result c.tested.result c.asks_nothing.ensures c.typed_at-in-IsNull.ensures c.tested.ensures)

pub form-returns-in-Concat : goal.form-returns-in-Concat
form-returns-in-Concat t c =
    let scope = scope_of c.args.check.now.scope in
    let known = c.args.known.now.items in
    let found = c.as_slice-in-Concat.result.now in
    let new = c.all-in-Concat.new.known.items in
    by_layer scope c.args.leaf c.args.expr.now (forms.Concat found) (Expr-F.Concat found) c.concatenation.result known new
    (c.in-Concat.is ∙ ap (λ (x : List Expr). forms.Concat x) (sym c.as_slice-in-Concat.ensures)) (out_concat found)
    (placed_answers (λ (es : List TypedExpr). typed kind.Text (form.Concat es)) (λ (q : Asks). Each (λ (part : Expr). Typed scope part q) found)
    c.asks_text.result asks_text known new c.all-in-Concat.result c.concatenation.result c.asks_text.ensures c.all-in-Concat.ensures c.concatenation.ensures)

-- ---- operators of two operands

pub form-returns-in_err-first-in-Compare : goal.form-returns-in_err-first-in-Compare
form-returns-in_err-first-in-Compare t c =
    let scope = scope_of c.args.check.now.scope in
    let known = c.args.known.now.items in
    let left = c.get-in-Compare-2.result.now in
    let right = c.get-in-Compare.result.now in
    let mid = c.typed_at-in-Compare.new.known.items in
    let p = err_from_is_err_and c.from_residual.result c.from_residual.ensures.1 in
    rw (p.1, p.2) (by_layer scope c.args.leaf c.args.expr.now (forms.Compare c.in-Compare.how left right) (Expr-F.Compare c.in-Compare.how left right) (Err c.in_err-first-in-Compare.field-0.0) known mid
    (c.in-Compare.is ∙ (ap (λ (x : Expr). forms.Compare c.in-Compare.how x c.in-Compare.right) (sym c.get-in-Compare-2.ensures) ∙ ap (λ (x : Expr). forms.Compare c.in-Compare.how left x) (sym c.get-in-Compare.ensures))) (out_compare c.in-Compare.how left right)
    (formed_stops (Compared (own_kind scope) (Typed scope) c.in-Compare.how left right known) (Typed scope left) (ComparedWith (Typed scope) c.in-Compare.how right) c.asks_beside.result (asks_beside (own_kind scope known right))
    c.in_err-first-in-Compare.field-0.0 known mid mid refl (c.asks_beside.ensures ∙ ap asks_beside (c.own_kind-beside.ensures ∙ (ap (λ (k : Known). own_kind scope k c.get-in-Compare.result.now) c.as_slice-in-Compare.ensures.value))) c.in_err-first-in-Compare.ensures))

pub form-returns-in_ok-first-in-Compare : goal.form-returns-in_ok-first-in-Compare
form-returns-in_ok-first-in-Compare t c =
    let scope = scope_of c.args.check.now.scope in
    let known = c.args.known.now.items in
    let left = c.get-in-Compare-2.result.now in
    let right = c.get-in-Compare-3.result.now in
    let first = c.in_ok-first-in-Compare.first in
    let mid = c.typed_at-in-Compare.new.known.items in
    let new = c.typed_at-second.new.known.items in
    by_layer scope c.args.leaf c.args.expr.now (forms.Compare c.in-Compare.how left right) (Expr-F.Compare c.in-Compare.how left right) c.compared.result known new (c.in-Compare.is ∙ (ap (λ (x : Expr). forms.Compare c.in-Compare.how x c.in-Compare.right) (sym c.get-in-Compare-2.ensures) ∙ ap (λ (x : Expr). forms.Compare c.in-Compare.how left x) (sym c.get-in-Compare-3.ensures))) (out_compare c.in-Compare.how left right)
    (formed_answers (Compared (own_kind scope) (Typed scope) c.in-Compare.how left right known) (Typed scope left) (ComparedWith (Typed scope) c.in-Compare.how right) c.asks_beside.result (asks_beside (own_kind scope known right)) first c.compared.result known mid new
    refl (c.asks_beside.ensures ∙ ap asks_beside (c.own_kind-beside.ensures ∙ (ap (λ (k : Known). own_kind scope k c.get-in-Compare.result.now) c.as_slice-in-Compare.ensures.value ∙ ap (λ (x : Expr). own_kind scope known x) (c.get-in-Compare.ensures ∙ sym c.get-in-Compare-3.ensures)))) c.in_ok-first-in-Compare.ensures
    (placed_answers (λ (b : TypedExpr). truth (form.Compare c.in-Compare.how first b)) (Typed scope right) c.asks_like.result (asks_like first.kind) mid new
    c.typed_at-second.result c.compared.result c.asks_like.ensures c.typed_at-second.ensures c.compared.ensures))

pub form-returns-in_err-first-in-Member : goal.form-returns-in_err-first-in-Member
form-returns-in_err-first-in-Member t c =
    let scope = scope_of c.args.check.now.scope in
    let known = c.args.known.now.items in
    let of = c.get-in-Member-2.result.now in
    let entries = c.as_slice-in-Member-2.result.now in
    let beside : c.first_own-beside.result ≡ first_kind (own_kind scope known of ∷ map (own_kind scope known) entries) = c.first_own-beside.ensures ∙ (ap (λ (k : Known). first_kind (own_kind scope k c.get-in-Member.result.now ∷ map (own_kind scope k) c.as_slice-in-Member-2.result.now)) c.as_slice-in-Member.ensures.value ∙ ap (λ (x : Expr). first_kind (own_kind scope known x ∷ map (own_kind scope known) c.as_slice-in-Member-2.result.now)) (c.get-in-Member.ensures ∙ sym c.get-in-Member-2.ensures)) in
    let mid = c.typed_at-in-Member.new.known.items in
    let p = err_from_is_err_and c.from_residual-in_err-first-in-Member.result c.from_residual-in_err-first-in-Member.ensures.1 in
    rw (p.1, p.2) (by_layer scope c.args.leaf c.args.expr.now (forms.Member of c.in-Member.negated entries) (Expr-F.Member of c.in-Member.negated entries) (Err c.in_err-first-in-Member.field-0.0) known mid
    (c.in-Member.is ∙ (ap (λ (x : Expr). forms.Member x c.in-Member.negated c.in-Member.list) (sym c.get-in-Member-2.ensures) ∙ ap (λ (xs : List Expr). forms.Member of c.in-Member.negated xs) (sym c.as_slice-in-Member-2.ensures))) (out_member of c.in-Member.negated entries)
    (formed_stops (Among (own_kind scope) (Typed scope) c.in-Member.negated of entries known) (Typed scope of) (EntriesOf (Typed scope) c.in-Member.negated (first_kind (own_kind scope known of ∷ map (own_kind scope known) entries)) entries) c.asks_beside-in-Member.result (asks_beside (first_kind (own_kind scope known of ∷ map (own_kind scope known) entries)))
    c.in_err-first-in-Member.field-0.0 known mid mid refl (c.asks_beside-in-Member.ensures ∙ ap asks_beside beside) c.in_err-first-in-Member.ensures))

pub form-returns-in_ok-first-in-Member : goal.form-returns-in_ok-first-in-Member
form-returns-in_ok-first-in-Member t c =
    let scope = scope_of c.args.check.now.scope in
    let known = c.args.known.now.items in
    let of = c.get-in-Member-2.result.now in
    let entries = c.as_slice-in-Member-3.result.now in
    let beside : c.first_own-beside.result ≡ first_kind (own_kind scope known of ∷ map (own_kind scope known) entries) = c.first_own-beside.ensures ∙ (ap (λ (k : Known). first_kind (own_kind scope k c.get-in-Member.result.now ∷ map (own_kind scope k) c.as_slice-in-Member-2.result.now)) c.as_slice-in-Member.ensures.value ∙ ap (λ (x : Expr). first_kind (own_kind scope known x ∷ map (own_kind scope known) c.as_slice-in-Member-2.result.now)) (c.get-in-Member.ensures ∙ sym c.get-in-Member-2.ensures) ∙ ap (λ (xs : List Expr). first_kind (own_kind scope known of ∷ map (own_kind scope known) xs)) (c.as_slice-in-Member-2.ensures ∙ sym c.as_slice-in-Member-3.ensures)) in
    let first = c.in_ok-first-in-Member.first in
    let mid = c.typed_at-in-Member.new.known.items in
    let new = c.all-entries.new.known.items in
    by_layer scope c.args.leaf c.args.expr.now (forms.Member of c.in-Member.negated entries) (Expr-F.Member of c.in-Member.negated entries) c.among.result known new (c.in-Member.is ∙ (ap (λ (x : Expr). forms.Member x c.in-Member.negated c.in-Member.list) (sym c.get-in-Member-2.ensures) ∙ ap (λ (xs : List Expr). forms.Member of c.in-Member.negated xs) (sym c.as_slice-in-Member-3.ensures))) (out_member of c.in-Member.negated entries)
    (formed_answers (Among (own_kind scope) (Typed scope) c.in-Member.negated of entries known) (Typed scope of) (EntriesOf (Typed scope) c.in-Member.negated (first_kind (own_kind scope known of ∷ map (own_kind scope known) entries)) entries) c.asks_beside-in-Member.result (asks_beside (first_kind (own_kind scope known of ∷ map (own_kind scope known) entries))) first c.among.result known mid new
    refl (c.asks_beside-in-Member.ensures ∙ ap asks_beside beside) c.in_ok-first-in-Member.ensures
    (placed_answers (λ (bs : List TypedExpr). truth (form.Member first c.in-Member.negated bs)) (λ (q : Asks). Each (λ (entry : Expr). Typed scope entry q) entries)
    c.asks_entry.result (asks_entry (first_kind (own_kind scope known of ∷ map (own_kind scope known) entries)) first.kind) mid new c.all-entries.result c.among.result
    (c.asks_entry.ensures ∙ ap (λ (k : Option ColType). asks_entry k first.kind) beside) c.all-entries.ensures c.among.ensures))

pub form-returns-in_err-first-in-Sum : goal.form-returns-in_err-first-in-Sum
form-returns-in_err-first-in-Sum t c =
    let scope = scope_of c.args.check.now.scope in
    let known = c.args.known.now.items in
    let left = c.get-in-Sum.result.now in
    let parts = c.as_slice-in-Sum-2.result.now in
    let beside : c.first_summand-beside.result ≡ own_of_first (λ (s : SumPart). own_kind scope known s.part) parts = c.first_summand-beside.ensures ∙ (ap (λ (k : Known). own_of_first (λ (s : SumPart). own_kind scope k s.part) c.as_slice-in-Sum-2.result.now) c.as_slice-in-Sum.ensures.value) in
    let mid = c.typed_at-in-Sum.new.known.items in
    let p = err_from_is_err_and c.from_residual-in_err-first-in-Sum.result c.from_residual-in_err-first-in-Sum.ensures.1 in
    rw (p.1, p.2) (by_layer scope c.args.leaf c.args.expr.now (forms.Sum left parts) (Expr-F.Sum left parts) (Err c.in_err-first-in-Sum.field-0.0) known mid
    (c.in-Sum.is ∙ (ap (λ (x : Expr). forms.Sum x c.in-Sum.parts) (sym c.get-in-Sum.ensures) ∙ ap (λ (xs : List SumPart). forms.Sum left xs) (sym c.as_slice-in-Sum-2.ensures))) (out_sum left parts)
    (formed_stops (Chain (Typed scope) (λ (before : Known) (s : SumPart). own_kind scope before s.part) (λ (s : SumPart). Typed scope s.part) summand_of (λ (q : TypedSumPart). q.part.kind) (λ (e : TypedExpr) (qs : List TypedSumPart). form.Sum e qs) left parts known) (Typed scope left) (Parts (λ (s : SumPart). Typed scope s.part) summand_of (λ (q : TypedSumPart). q.part.kind) (λ (e : TypedExpr) (qs : List TypedSumPart). form.Sum e qs) parts) c.asks_number.result (asks_number (own_of_first (λ (s : SumPart). own_kind scope known s.part) parts))
    c.in_err-first-in-Sum.field-0.0 known mid mid refl (c.asks_number.ensures ∙ ap asks_number beside) c.in_err-first-in-Sum.ensures))

pub form-returns-in_ok-first-in-Sum : goal.form-returns-in_ok-first-in-Sum
form-returns-in_ok-first-in-Sum t c =
    let scope = scope_of c.args.check.now.scope in
    let known = c.args.known.now.items in
    let left = c.get-in-Sum.result.now in
    let parts = c.as_slice-in-Sum-3.result.now in
    let beside : c.first_summand-beside.result ≡ own_of_first (λ (s : SumPart). own_kind scope known s.part) parts = c.first_summand-beside.ensures ∙ (ap (λ (k : Known). own_of_first (λ (s : SumPart). own_kind scope k s.part) c.as_slice-in-Sum-2.result.now) c.as_slice-in-Sum.ensures.value ∙ ap (λ (xs : List SumPart). own_of_first (λ (s : SumPart). own_kind scope known s.part) xs) (c.as_slice-in-Sum-2.ensures ∙ sym c.as_slice-in-Sum-3.ensures)) in
    let first = c.in_ok-first-in-Sum.first in
    let mid = c.typed_at-in-Sum.new.known.items in
    let new = c.summands-others.new.known.items in
    by_layer scope c.args.leaf c.args.expr.now (forms.Sum left parts) (Expr-F.Sum left parts) c.summed.result known new (c.in-Sum.is ∙ (ap (λ (x : Expr). forms.Sum x c.in-Sum.parts) (sym c.get-in-Sum.ensures) ∙ ap (λ (xs : List SumPart). forms.Sum left xs) (sym c.as_slice-in-Sum-3.ensures))) (out_sum left parts)
    (formed_answers (Chain (Typed scope) (λ (before : Known) (s : SumPart). own_kind scope before s.part) (λ (s : SumPart). Typed scope s.part) summand_of (λ (q : TypedSumPart). q.part.kind) (λ (e : TypedExpr) (qs : List TypedSumPart). form.Sum e qs) left parts known) (Typed scope left) (Parts (λ (s : SumPart). Typed scope s.part) summand_of (λ (q : TypedSumPart). q.part.kind) (λ (e : TypedExpr) (qs : List TypedSumPart). form.Sum e qs) parts) c.asks_number.result (asks_number (own_of_first (λ (s : SumPart). own_kind scope known s.part) parts)) first c.summed.result known mid new
    refl (c.asks_number.ensures ∙ ap asks_number beside) c.in_ok-first-in-Sum.ensures
    (becomes_answers (λ (x : ColType × List TypedSumPart). typed x.0 (form.Sum first x.1)) (Others (λ (s : SumPart). Typed scope s.part) summand_of (λ (q : TypedSumPart). q.part.kind) first.kind parts) mid new
    c.summands-others.result c.summed.result c.summands-others.ensures c.summed.ensures))

pub form-returns-in_err-first-in-Product : goal.form-returns-in_err-first-in-Product
form-returns-in_err-first-in-Product t c =
    let scope = scope_of c.args.check.now.scope in
    let known = c.args.known.now.items in
    let left = c.get-in-Product.result.now in
    let parts = c.as_slice-in-Product-2.result.now in
    let beside : c.first_factor-beside.result ≡ own_of_first (λ (s : ProductPart). own_kind scope known s.part) parts = c.first_factor-beside.ensures ∙ (ap (λ (k : Known). own_of_first (λ (s : ProductPart). own_kind scope k s.part) c.as_slice-in-Product-2.result.now) c.as_slice-in-Product.ensures.value) in
    let mid = c.typed_at-in-Product.new.known.items in
    let p = err_from_is_err_and c.from_residual-in_err-first-in-Product.result c.from_residual-in_err-first-in-Product.ensures.1 in
    rw (p.1, p.2) (by_layer scope c.args.leaf c.args.expr.now (forms.Product left parts) (Expr-F.Product left parts) (Err c.in_err-first-in-Product.field-0.0) known mid
    (c.in-Product.is ∙ (ap (λ (x : Expr). forms.Product x c.in-Product.parts) (sym c.get-in-Product.ensures) ∙ ap (λ (xs : List ProductPart). forms.Product left xs) (sym c.as_slice-in-Product-2.ensures))) (out_product left parts)
    (formed_stops (Chain (Typed scope) (λ (before : Known) (s : ProductPart). own_kind scope before s.part) (λ (s : ProductPart). Typed scope s.part) factor_of (λ (q : TypedProductPart). q.part.kind) (λ (e : TypedExpr) (qs : List TypedProductPart). form.Product e qs) left parts known) (Typed scope left) (Parts (λ (s : ProductPart). Typed scope s.part) factor_of (λ (q : TypedProductPart). q.part.kind) (λ (e : TypedExpr) (qs : List TypedProductPart). form.Product e qs) parts) c.asks_number-in-Product.result (asks_number (own_of_first (λ (s : ProductPart). own_kind scope known s.part) parts))
    c.in_err-first-in-Product.field-0.0 known mid mid refl (c.asks_number-in-Product.ensures ∙ ap asks_number beside) c.in_err-first-in-Product.ensures))

pub form-returns-in_ok-first-in-Product : goal.form-returns-in_ok-first-in-Product
form-returns-in_ok-first-in-Product t c =
    let scope = scope_of c.args.check.now.scope in
    let known = c.args.known.now.items in
    let left = c.get-in-Product.result.now in
    let parts = c.as_slice-in-Product-3.result.now in
    let beside : c.first_factor-beside.result ≡ own_of_first (λ (s : ProductPart). own_kind scope known s.part) parts = c.first_factor-beside.ensures ∙ (ap (λ (k : Known). own_of_first (λ (s : ProductPart). own_kind scope k s.part) c.as_slice-in-Product-2.result.now) c.as_slice-in-Product.ensures.value ∙ ap (λ (xs : List ProductPart). own_of_first (λ (s : ProductPart). own_kind scope known s.part) xs) (c.as_slice-in-Product-2.ensures ∙ sym c.as_slice-in-Product-3.ensures)) in
    let first = c.in_ok-first-in-Product.first in
    let mid = c.typed_at-in-Product.new.known.items in
    let new = c.factors-others.new.known.items in
    by_layer scope c.args.leaf c.args.expr.now (forms.Product left parts) (Expr-F.Product left parts) c.multiplied.result known new (c.in-Product.is ∙ (ap (λ (x : Expr). forms.Product x c.in-Product.parts) (sym c.get-in-Product.ensures) ∙ ap (λ (xs : List ProductPart). forms.Product left xs) (sym c.as_slice-in-Product-3.ensures))) (out_product left parts)
    (formed_answers (Chain (Typed scope) (λ (before : Known) (s : ProductPart). own_kind scope before s.part) (λ (s : ProductPart). Typed scope s.part) factor_of (λ (q : TypedProductPart). q.part.kind) (λ (e : TypedExpr) (qs : List TypedProductPart). form.Product e qs) left parts known) (Typed scope left) (Parts (λ (s : ProductPart). Typed scope s.part) factor_of (λ (q : TypedProductPart). q.part.kind) (λ (e : TypedExpr) (qs : List TypedProductPart). form.Product e qs) parts) c.asks_number-in-Product.result (asks_number (own_of_first (λ (s : ProductPart). own_kind scope known s.part) parts)) first c.multiplied.result known mid new
    refl (c.asks_number-in-Product.ensures ∙ ap asks_number beside) c.in_ok-first-in-Product.ensures
    (becomes_answers (λ (x : ColType × List TypedProductPart). typed x.0 (form.Product first x.1)) (Others (λ (s : ProductPart). Typed scope s.part) factor_of (λ (q : TypedProductPart). q.part.kind) first.kind parts) mid new
    c.factors-others.result c.multiplied.result c.factors-others.ensures c.multiplied.ensures))

-- ---- a minus

pub negative-returns-then-is_least_int4 : goal.negative-returns-then-is_least_int4
negative-returns-then-is_least_int4 t c =
    let scope = scope_of c.args.check.now.scope in
    least_gives (Typed scope) c.args.of.now (own scope [] c.args.of.now).least_int4 c.args.known.now.items c.literal.result
    (sym c.if-is_least_int4.true ∙ c.is_least_int4.ensures scope []) c.literal.ensures

pub negative-returns : goal.negative-returns
negative-returns t c =
    let scope = scope_of c.args.check.now.scope in
    other_answers (Typed scope) c.args.of.now (own scope [] c.args.of.now).least_int4 c.args.known.now.items
    c.asks_number.result c.typed_at.new.known.items c.typed_at.result c.minus.result
    (sym c.if-is_least_int4.false ∙ c.is_least_int4.ensures scope []) c.asks_number.ensures c.typed_at.ensures c.minus.ensures

-- ---- loops over parts

pub all-loop-part-preserved : goal.all-loop-part-preserved
all-loop-part-preserved t c =
    each_next (λ (part : Expr). Typed (scope_of c.args.check.now.scope) part c.args.asks) c.args.parts.now c.loop-part.part-index c.args.known.now.items
    c.loop-part.known.items c.loop-part.made c.part-item.result c.push.new.self c.in_ok-typed.typed c.typed_at.new.known.items
    (omega arith) c.part-item.is c.loop-part.invariant c.in_ok-typed.ensures c.in_ok-push.ensures.ok

pub all-returns-in_err-typed : goal.all-returns-in_err-typed
all-returns-in_err-typed t c =
    let p = err_from_is_err_and c.from_residual.result c.from_residual.ensures.1 in
    rw (p.1, p.2) (each_stops (λ (part : Expr). Typed (scope_of c.args.check.now.scope) part c.args.asks) c.args.parts.now c.loop-part.part-index
    c.args.known.now.items c.loop-part.known.items c.loop-part.made (λ (e : TypedExpr). e) (λ (es : List TypedExpr). es) c.part-item.result
    c.typed_at.new.known.items c.typed_at.new.known.items c.in_err-typed.field-0.0
    (omega arith) c.part-item.is c.loop-part.invariant c.in_err-typed.ensures)

pub all-returns : goal.all-returns
all-returns t c =
    each_whole (λ (part : Expr). Typed (scope_of c.args.check.now.scope) part c.args.asks) c.args.parts.now c.loop-part.part-index
    c.args.known.now.items c.loop-part.known.items c.loop-part.made (omega arith) c.loop-part.invariant

pub summands-loop-part-preserved : goal.summands-loop-part-preserved
summands-loop-part-preserved t c =
    parts_next (λ (s : SumPart). Typed (scope_of c.args.check.now.scope) s.part) summand_of (λ (q : TypedSumPart). q.part.kind)
    c.args.first c.args.parts.now c.loop-part.part-index c.part-item.result c.loop-part.made c.push.new.self c.loop-part.kind c.sum_kind-kind.result
    c.asks_number.result c.in_ok-of.of c.args.known.now.items c.loop-part.known.items c.typed_at.new.known.items
    (omega arith) c.part-item.is c.loop-part.invariant c.asks_number.ensures c.in_ok-of.ensures c.in_ok-push.ensures.ok c.sum_kind-kind.ensures

pub summands-returns-in_err-of : goal.summands-returns-in_err-of
summands-returns-in_err-of t c =
    let p = err_from_is_err_and c.from_residual.result c.from_residual.ensures.1 in
    rw (p.1, p.2) (parts_stop (λ (s : SumPart). Typed (scope_of c.args.check.now.scope) s.part) summand_of (λ (q : TypedSumPart). q.part.kind)
    c.args.first c.args.parts.now c.loop-part.part-index c.part-item.result c.loop-part.made c.loop-part.kind c.asks_number.result
    c.args.known.now.items c.loop-part.known.items c.typed_at.new.known.items c.typed_at.new.known.items c.in_err-of.field-0.0
    (omega arith) c.part-item.is c.loop-part.invariant c.asks_number.ensures c.in_err-of.ensures)

pub summands-returns : goal.summands-returns
summands-returns t c =
    parts_whole (λ (s : SumPart). Typed (scope_of c.args.check.now.scope) s.part) summand_of (λ (q : TypedSumPart). q.part.kind) c.args.first c.args.parts.now c.loop-part.part-index c.loop-part.made c.loop-part.kind
    c.args.known.now.items c.loop-part.known.items (omega arith) c.loop-part.invariant

pub factors-loop-part-preserved : goal.factors-loop-part-preserved
factors-loop-part-preserved t c =
    parts_next (λ (s : ProductPart). Typed (scope_of c.args.check.now.scope) s.part) factor_of (λ (q : TypedProductPart). q.part.kind)
    c.args.first c.args.parts.now c.loop-part.part-index c.part-item.result c.loop-part.made c.push.new.self c.loop-part.kind c.sum_kind-kind.result
    c.asks_number.result c.in_ok-of.of c.args.known.now.items c.loop-part.known.items c.typed_at.new.known.items
    (omega arith) c.part-item.is c.loop-part.invariant c.asks_number.ensures c.in_ok-of.ensures c.in_ok-push.ensures.ok c.sum_kind-kind.ensures

pub factors-returns-in_err-of : goal.factors-returns-in_err-of
factors-returns-in_err-of t c =
    let p = err_from_is_err_and c.from_residual.result c.from_residual.ensures.1 in
    rw (p.1, p.2) (parts_stop (λ (s : ProductPart). Typed (scope_of c.args.check.now.scope) s.part) factor_of (λ (q : TypedProductPart). q.part.kind)
    c.args.first c.args.parts.now c.loop-part.part-index c.part-item.result c.loop-part.made c.loop-part.kind c.asks_number.result
    c.args.known.now.items c.loop-part.known.items c.typed_at.new.known.items c.typed_at.new.known.items c.in_err-of.field-0.0
    (omega arith) c.part-item.is c.loop-part.invariant c.asks_number.ensures c.in_err-of.ensures)

pub factors-returns : goal.factors-returns
factors-returns t c =
    parts_whole (λ (s : ProductPart). Typed (scope_of c.args.check.now.scope) s.part) factor_of (λ (q : TypedProductPart). q.part.kind) c.args.first c.args.parts.now c.loop-part.part-index c.loop-part.made c.loop-part.kind
    c.args.known.now.items c.loop-part.known.items (omega arith) c.loop-part.invariant
