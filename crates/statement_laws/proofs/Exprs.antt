-- Every expression whose nodes have the types that the rules give them is said by its spelling.
use Rattle.std.proofs.Common.{◌≡◌, ◌∙◌, ◌≤◌, ℕ, zero, suc, List, [], ◌∷◌, length, map, refl, ap, sym, subst, arith}
use Rattle.std.specs.Prelude.{◌&&◌, Bool as Truth, true, false, Option, Some, None, Ok, option_map, slice_get}
use Rattle.std.specs.List.{list_all}
use Rattle.std.proofs.lemmas.Option.{slice_get-map}
use Rattle.pg_values.specs.declared.col_type.ColType.{ColType}
use Rattle.pg_values.specs.declared.col_type.ColType.TheVariants as kind
use Rattle.pg_values.specs.declared.value.Value.{Value}
use Rattle.schema.specs.declared.catalogue.ColumnDef.{ColumnDef}
use Rattle.sql_tree.specs.declared.expr.Expr.{Expr}
use Rattle.sql_tree.specs.declared.expr.Expr.TheVariants as expr
use Rattle.typed_sql.specs.declared.asks.Takes.{Takes}
use Rattle.typed_sql.specs.declared.asks.Takes.TheVariants.{Any, Whole, Like}
use Rattle.typed_sql.specs.declared.typed.TypedExpr.{TypedExpr}
use Rattle.typed_sql.specs.declared.typed.TypedForm.{TypedForm, roll-TypedForm, map-TypedForm}
use Rattle.typed_sql.specs.declared.typed.TypedForm.TheOpen.{TypedForm-F, TypedExpr-F, TypedProductPart-F, TypedSumPart-F}
use Rattle.typed_sql.specs.declared.typed.TypedForm.TheFolds.{ind-TypedExpr}
use Rattle.typed_sql.specs.declared.typed.TypedForm.TheVariants as form
use Rattle.typed_sql.specs.declared.typed.TypedSumPart.{TypedSumPart}
use Rattle.typed_sql.specs.declared.typed.TypedProductPart.{TypedProductPart}
use Rattle.typed_sql.specs.Places.{is_whole, same_kind, sum_kind, takes as takes_kind}
use Rattle.typed_sql.specs.Own.{Own, Scope, column_meant, of_kind, own}
use Rattle.typed_sql.specs.Steps.{Known, known_kind, or_none}
use Rattle.typed_sql.proofs.OwnForms.{own_product, own_sum}
use Rattle.checked_sql.specs.Sound.{Names, chain_kind, form_in, has_column, has_one, has_this, has_two, is_parameter, is_sound, is_value, stands}
use Rattle.checked_sql.specs.OfCatalogue.{around}
use Rattle.checked_sql.proofs.Forms.{fits_and, fits_compare, fits_concat, fits_is_null, fits_member, fits_minus, fits_not, fits_or, fits_product, fits_sum, gives_and, gives_column, gives_compare, gives_concat, gives_current, gives_is_null, gives_literal, gives_member, gives_minus, gives_not, gives_now, gives_or, gives_param, gives_product, gives_sum, gives_transaction, sound_by_form}
use Rattle.checked_print.specs.Spelled.{Spelling, always, column_name, spelled, spelled_factor, spelled_negated, spelled_summand, spelled_whole, spelling}
use Rattle.checked_print.proofs.Forms.{and_is, column_is, compare_is, concat_is, current_is, is_null_is, literal_is, member_is, minus_is, not_is, now_is, or_is, param_is, product_is, sum_is, transaction_is}
use Rattle.checked_print.proofs.Held.{factor_by, factor_held, form_held, held_at, held_by_form, summand_by, summand_held}
use Rattle.checked_print.specs.Ranges.{held_layer, is_held_expr}
use Rattle.statement_laws.proofs.Claims.{Said}
use Rattle.statement_laws.proofs.Alike.{same_is, sum_whole}
use Rattle.statement_laws.proofs.Leaves.{column_said, current_said, minus_not_least, negated_by, now_said, param_said, transaction_said}
use Rattle.statement_laws.proofs.Literals.{IsWhole, literal_negated, literal_said, literal_whole, whole_as_part}
use Rattle.statement_laws.proofs.Nodes.{AreNumbers, AreSaid, IsNegated, and_said, compare_said, concat_said, is_null_said, member_said, minus_said, not_said, or_said, product_said, sum_said}
use Rattle.statement_laws.proofs.Numbers.{both_of}
use Rattle.statement_laws.proofs.Own.{own_and, own_column, own_compare, own_concat, own_current, own_is_null, own_member, own_not, own_now, own_or, own_param, own_transaction}

-- the types of the parameters, as they are known
abbrev pub known_of : List ColType → Known
known_of kinds = map (λ k. Some k) kinds

-- what a scope means by the names of columns, and whether parameters may stand, where one does
pub record Means (scope : Scope) (columns : List ColumnDef) (kinds : List ColType) : Type 0 where
  pub may_stand : (n : ℕ) (k : ColType) → is_parameter kinds n k ≡ true → scope.parameters ≡ true
  pub are_meant : (n : ℕ) (c : ColumnDef) → slice_get columns n ≡ Some c → column_meant scope None c.name ≡ Ok (n, c)

-- an expression at each of its places
abbrev pub Round : Scope → List ColumnDef → List ColType → TypedExpr → Type 0
Round scope columns kinds e = Said scope (known_of kinds) e (spelled columns e)
    × (is_whole e.kind ≡ true → IsNegated scope (known_of kinds) e (spelled_negated columns e))
    × IsWhole scope (known_of kinds) columns e (spelled_whole columns e)

-- ---- tests

pub one_long : {A : Type 0} (xs : List A) → has_one xs ≡ true → 1 ≤ length xs
one_long [] is = absurd (let f : false ≡ true = is in cc)
one_long (x ∷ xs) is = omega arith

pub two_long : {A : Type 0} (xs : List A) → has_two xs ≡ true → 2 ≤ length xs
two_long [] is = absurd (let f : false ≡ true = is in cc)
two_long (x ∷ []) is = absurd (let f : false ≡ true = is in cc)
two_long (x ∷ y ∷ xs) is = omega arith

chain_whole : (k : ColType) (ks : List ColType) → is_whole k ≡ true → is_whole (chain_kind k ks) ≡ true
chain_whole k [] is = is
chain_whole k (j ∷ ks) is = chain_whole (sum_kind k j) ks (sum_whole k j)

module _ (scope : Scope) (columns : List ColumnDef) (kinds : List ColType) (means : Means scope columns kinds) where
  abbrev known : Known
  known = known_of kinds

  abbrev names : Names
  names = around columns kinds

  abbrev Rounds : TypedExpr → Type 0
  Rounds e = Round scope columns kinds e

  -- an expression that is spelled in one way at each place
  alike : (e : TypedExpr) (x : Expr) → spelling columns e ≡ always x → (own scope [] x).least_int4 ≡ false → Said scope known e x → Rounds e
  alike e x is not said = (
    subst (Said scope known e) (sym (ap (λ (s : Spelling). s.part) is)) said,
    λ whole. subst (IsNegated scope known e) (sym (ap (λ (s : Spelling). s.negated) is)) (negated_by scope known e x not whole said),
    subst (IsWhole scope known columns e) (sym (ap (λ (s : Spelling). s.whole) is)) (whole_as_part scope known columns e x said),
  )

  abbrev GoodExpr : TypedExpr → Type 0
  GoodExpr e = is_held_expr e ≡ true → is_sound names e ≡ true → Rounds e

  abbrev GoodForm : TypedForm → Type 0
  GoodForm f = (e : TypedExpr) → e.form ≡ f → form_held f ≡ true → (form_in names f).gives e.kind ≡ true → (form_in names f).fits ≡ true → Rounds e

  least : (o : Own) (k : Option ColType) → o ≡ of_kind k → o.least_int4 ≡ false
  least o k is = ap (λ (x : Own). x.least_int4) is

  -- a part that stands where such types may
  stood : (t : Takes) (e : TypedExpr) → GoodExpr e → is_held_expr e ≡ true → stands names t e ≡ true → Said scope known e (spelled columns e) × (takes_kind t e.kind ≡ true)
  stood t e good formed is =
      let both = both_of (takes_kind t e.kind) (is_sound names e) is in
      ((good formed both.1).0, both.0)

  module _ {X Y Z W : Type 0} (f_of : X → TypedForm) (e_of : Y → TypedExpr) (p_of : Z → TypedProductPart) (s_of : W → TypedSumPart)
      (ey : (y : Y) → GoodExpr (e_of y)) (pz : (z : Z) → GoodExpr (p_of z).part) (sw : (w : W) → GoodExpr (s_of w).part) where
    parts : (k : ColType) (ys : List Y) → list_all (λ part. part) (map is_held_expr (map e_of ys)) ≡ true → list_all (stands names (Like k)) (map e_of ys) ≡ true
        → AreSaid scope known columns k (map e_of ys)
    parts k [] formed is = tt
    parts k (y ∷ ys) formed is =
        let all = both_of (is_held_expr (e_of y)) (list_all (λ part. part) (map is_held_expr (map e_of ys))) formed in
        let both = both_of (stands names (Like k) (e_of y)) (list_all (stands names (Like k)) (map e_of ys)) is in
        (stood (Like k) (e_of y) (ey y) all.0 both.0, parts k ys all.1 both.1)

    summands : (ws : List W) → list_all (λ part. part) (map summand_held (map s_of ws)) ≡ true → list_all (λ s. stands names Whole s.part) (map s_of ws) ≡ true
        → AreNumbers scope known columns (λ s. s.part) (map s_of ws)
    summands [] formed is = tt
    summands (w ∷ ws) formed is =
        let all = both_of (summand_held (s_of w)) (list_all (λ part. part) (map summand_held (map s_of ws))) formed in
        let both = both_of (stands names Whole (s_of w).part) (list_all (λ (s : TypedSumPart). stands names Whole s.part) (map s_of ws)) is in
        (stood Whole (s_of w).part (sw w) (sym (summand_by (s_of w)) ∙ all.0) both.0, summands ws all.1 both.1)

    factors : (zs : List Z) → list_all (λ part. part) (map factor_held (map p_of zs)) ≡ true → list_all (λ f. stands names Whole f.part) (map p_of zs) ≡ true
        → AreNumbers scope known columns (λ f. f.part) (map p_of zs)
    factors [] formed is = tt
    factors (z ∷ zs) formed is =
        let all = both_of (factor_held (p_of z)) (list_all (λ part. part) (map factor_held (map p_of zs))) formed in
        let both = both_of (stands names Whole (p_of z).part) (list_all (λ (f : TypedProductPart). stands names Whole f.part) (map p_of zs)) is in
        (stood Whole (p_of z).part (pz z) (sym (factor_by (p_of z)) ∙ all.0) both.0, factors zs all.1 both.1)

    abbrev layer : TypedForm-F X Y Z W → TypedForm-F TypedForm TypedExpr TypedProductPart TypedSumPart
    layer d = map-TypedForm X Y Z W TypedForm TypedExpr TypedProductPart TypedSumPart f_of e_of p_of s_of d

    -- by the tests of its parts
    abbrev Holds : TypedForm-F X Y Z W → Type 0
    Holds d = (e : TypedExpr) → e.form ≡ roll-TypedForm (layer d)
        → held_layer (map-TypedForm TypedForm TypedExpr TypedProductPart TypedSumPart Truth Truth Truth Truth form_held is_held_expr factor_held summand_held (layer d)) ≡ true
        → (form_in names (roll-TypedForm (layer d))).gives e.kind ≡ true → (form_in names (roll-TypedForm (layer d))).fits ≡ true → Rounds e

    bool_is : (e : TypedExpr) → same_kind kind.Bool e.kind ≡ true → e.kind ≡ kind.Bool
    bool_is e is = sym (same_is kind.Bool e.kind is)

    or_holds : (ys : List Y) → Holds (TypedForm-F.Or ys)
    or_holds ys e is well gives fits =
        let es = map e_of ys in
        let f = roll-TypedForm (TypedForm-F.Or es) in
        let xs = map (spelled columns) es in
        alike e (expr.Or xs) (or_is columns e es (is ∙ form.rolls-Or es)) (least (own scope [] (expr.Or xs)) (Some kind.Bool) (own_or scope [] xs))
        (or_said scope known columns e es (is ∙ form.rolls-Or es) (bool_is e (sym (gives_or names f e.kind es (form.rolls-Or es)) ∙ gives))
        (parts kind.Bool ys well (both_of (has_two es) (list_all (stands names (Like kind.Bool)) es) (sym (fits_or names f es (form.rolls-Or es)) ∙ fits)).1))

    and_holds : (ys : List Y) → Holds (TypedForm-F.And ys)
    and_holds ys e is well gives fits =
        let es = map e_of ys in
        let f = roll-TypedForm (TypedForm-F.And es) in
        let xs = map (spelled columns) es in
        alike e (expr.And xs) (and_is columns e es (is ∙ form.rolls-And es)) (least (own scope [] (expr.And xs)) (Some kind.Bool) (own_and scope [] xs))
        (and_said scope known columns e es (is ∙ form.rolls-And es) (bool_is e (sym (gives_and names f e.kind es (form.rolls-And es)) ∙ gives))
        (parts kind.Bool ys well (both_of (has_two es) (list_all (stands names (Like kind.Bool)) es) (sym (fits_and names f es (form.rolls-And es)) ∙ fits)).1))

    concat_holds : (ys : List Y) → Holds (TypedForm-F.Concat ys)
    concat_holds ys e is well gives fits =
        let es = map e_of ys in
        let f = roll-TypedForm (TypedForm-F.Concat es) in
        let xs = map (spelled columns) es in
        alike e (expr.Concat xs) (concat_is columns e es (is ∙ form.rolls-Concat es)) (least (own scope [] (expr.Concat xs)) (Some kind.Text) (own_concat scope [] xs))
        (concat_said scope known columns e es (is ∙ form.rolls-Concat es) (sym (same_is kind.Text e.kind (sym (gives_concat names f e.kind es (form.rolls-Concat es)) ∙ gives)))
        (parts kind.Text ys well (both_of (has_two es) (list_all (stands names (Like kind.Text)) es) (sym (fits_concat names f es (form.rolls-Concat es)) ∙ fits)).1))

    not_holds : (y : Y) → Holds (TypedForm-F.Not y)
    not_holds y e is well gives fits =
        let a = e_of y in
        let f = roll-TypedForm (TypedForm-F.Not a) in
        let x = spelled columns a in
        let part = stood (Like kind.Bool) a (ey y) well (sym (fits_not names f a (form.rolls-Not a)) ∙ fits) in
        alike e (expr.Not x) (not_is columns e a (is ∙ form.rolls-Not a)) (least (own scope [] (expr.Not x)) (Some kind.Bool) (own_not scope [] x))
        (not_said scope known columns e a (is ∙ form.rolls-Not a) (bool_is e (sym (gives_not names f e.kind a (form.rolls-Not a)) ∙ gives)) part.0 part.1)

    is_null_holds : (y : Y) (tests : List Truth) → Holds (TypedForm-F.IsNull y tests)
    is_null_holds y tests e is well gives fits =
        let a = e_of y in
        let f = roll-TypedForm (TypedForm-F.IsNull a tests) in
        let x = spelled columns a in
        let stands_there = (both_of (has_one tests) (stands names Any a) (sym (fits_is_null names f a tests (form.rolls-IsNull a tests)) ∙ fits)).1 in
        let part = stood Any a (ey y) well stands_there in
        alike e (expr.IsNull x tests) (is_null_is columns e a tests (is ∙ form.rolls-IsNull a tests)) (least (own scope [] (expr.IsNull x tests)) (Some kind.Bool) (own_is_null scope [] x tests))
        (is_null_said scope known columns e a tests (is ∙ form.rolls-IsNull a tests) (bool_is e (sym (gives_is_null names f e.kind a tests (form.rolls-IsNull a tests)) ∙ gives)) part.0)

    compare_holds : (how : _) (y z : Y) → Holds (TypedForm-F.Compare how y z)
    compare_holds how y z e is well gives fits =
        let a = e_of y in
        let b = e_of z in
        let f = roll-TypedForm (TypedForm-F.Compare how a b) in
        let eq = form.rolls-Compare how a b in
        let all = both_of (is_held_expr a) (is_held_expr b) well in
        let both = both_of (stands names Any a) (stands names (Like a.kind) b) (sym (fits_compare names f how a b eq) ∙ fits) in
        let first = stood Any a (ey y) all.0 both.0 in
        let second = stood (Like a.kind) b (ey z) all.1 both.1 in
        let x = expr.Compare how (spelled columns a) (spelled columns b) in
        alike e x (compare_is columns e how a b (is ∙ eq)) (least (own scope [] x) (Some kind.Bool) (own_compare scope [] how (spelled columns a) (spelled columns b)))
        (compare_said scope known columns e how a b (is ∙ eq) (bool_is e (sym (gives_compare names f e.kind how a b eq) ∙ gives)) first.0 second.0 second.1)

    member_holds : (y : Y) (negated : Truth) (ys : List Y) → Holds (TypedForm-F.Member y negated ys)
    member_holds y negated ys e is well gives fits =
        let a = e_of y in
        let es = map e_of ys in
        let f = roll-TypedForm (TypedForm-F.Member a negated es) in
        let eq = form.rolls-Member a negated es in
        let all = both_of (is_held_expr a) (list_all (λ part. part) (map is_held_expr es)) well in
        let both = both_of (stands names Any a) (has_one es && list_all (stands names (Like a.kind)) es) (sym (fits_member names f a negated es eq) ∙ fits) in
        let entries = both_of (has_one es) (list_all (stands names (Like a.kind)) es) both.1 in
        let first = stood Any a (ey y) all.0 both.0 in
        let x = expr.Member (spelled columns a) negated (map (spelled columns) es) in
        alike e x (member_is columns e a negated es (is ∙ eq)) (least (own scope [] x) (Some kind.Bool) (own_member scope [] (spelled columns a) negated (map (spelled columns) es)))
        (member_said scope known columns e a negated es (is ∙ eq) (bool_is e (sym (gives_member names f e.kind a negated es eq) ∙ gives)) first.0 (parts a.kind ys all.1 entries.1))

    sum_holds : (y : Y) (ws : List W) → Holds (TypedForm-F.Sum y ws)
    sum_holds y ws e is well gives fits =
        let a = e_of y in
        let ss = map s_of ws in
        let f = roll-TypedForm (TypedForm-F.Sum a ss) in
        let eq = form.rolls-Sum a ss in
        let all = both_of (is_held_expr a) (list_all (λ part. part) (map summand_held ss)) well in
        let both = both_of (stands names Whole a) (has_one ss && list_all (λ (s : TypedSumPart). stands names Whole s.part) ss) (sym (fits_sum names f a ss eq) ∙ fits) in
        let rest = both_of (has_one ss) (list_all (λ (s : TypedSumPart). stands names Whole s.part) ss) both.1 in
        let first = stood Whole a (ey y) all.0 both.0 in
        let x = spelled columns a in
        let xs = map (spelled_summand columns) ss in
        let whole : is_whole e.kind ≡ true =
        ap is_whole (sym (same_is (chain_kind a.kind (map (λ (s : TypedSumPart). s.part.kind) ss)) e.kind (sym (gives_sum names f e.kind a ss eq) ∙ gives)))
        ∙ chain_whole a.kind (map (λ (s : TypedSumPart). s.part.kind) ss) first.1 in
        alike e (expr.Sum x xs) (sum_is columns e a ss (is ∙ eq)) (ap (λ (o : Own). o.least_int4) (own_sum scope [] x xs))
        (sum_said scope known columns e a ss (is ∙ eq) (one_long ss rest.0) whole first.0 first.1 (summands ws all.1 rest.1))

    product_holds : (y : Y) (zs : List Z) → Holds (TypedForm-F.Product y zs)
    product_holds y zs e is well gives fits =
        let a = e_of y in
        let fs = map p_of zs in
        let f = roll-TypedForm (TypedForm-F.Product a fs) in
        let eq = form.rolls-Product a fs in
        let all = both_of (is_held_expr a) (list_all (λ part. part) (map factor_held fs)) well in
        let both = both_of (stands names Whole a) (has_one fs && list_all (λ (q : TypedProductPart). stands names Whole q.part) fs) (sym (fits_product names f a fs eq) ∙ fits) in
        let rest = both_of (has_one fs) (list_all (λ (q : TypedProductPart). stands names Whole q.part) fs) both.1 in
        let first = stood Whole a (ey y) all.0 both.0 in
        let x = spelled columns a in
        let xs = map (spelled_factor columns) fs in
        let whole : is_whole e.kind ≡ true =
        ap is_whole (sym (same_is (chain_kind a.kind (map (λ (q : TypedProductPart). q.part.kind) fs)) e.kind (sym (gives_product names f e.kind a fs eq) ∙ gives)))
        ∙ chain_whole a.kind (map (λ (q : TypedProductPart). q.part.kind) fs) first.1 in
        alike e (expr.Product x xs) (product_is columns e a fs (is ∙ eq)) (ap (λ (o : Own). o.least_int4) (own_product scope [] x xs))
        (product_said scope known columns e a fs (is ∙ eq) (one_long fs rest.0) whole first.0 first.1 (factors zs all.1 rest.1))

    minus_holds : (y : Y) → Holds (TypedForm-F.Minus y)
    minus_holds y e is well gives fits =
        let a = e_of y in
        let f = roll-TypedForm (TypedForm-F.Minus a) in
        let eq = form.rolls-Minus a in
        let both = both_of (takes_kind Whole a.kind) (is_sound names a) (sym (fits_minus names f a eq) ∙ fits) in
        let x = spelled_negated columns a in
        let kinds_same = same_is a.kind e.kind (sym (gives_minus names f e.kind a eq) ∙ gives) in
        alike e (expr.Minus x) (minus_is columns e a (is ∙ eq)) (minus_not_least scope known x)
        (minus_said scope known e a x (is ∙ eq) (ap is_whole (sym kinds_same) ∙ both.0) ((ey y well both.1).1 both.0))

    literal_holds : (v : Value) → Holds (TypedForm-F.Literal v)
    literal_holds v e is well gives fits =
        let eq = is ∙ form.rolls-Literal v in
        let of : is_value e.kind v ≡ true = sym (gives_literal names (roll-TypedForm (TypedForm-F.Literal v)) e.kind v (form.rolls-Literal v)) ∙ gives in
        let spells = literal_is columns e v eq in (
          subst (Said scope known e) (sym (ap (λ (s : Spelling). s.part) spells)) (literal_said scope known columns e v eq of well),
          λ whole. subst (IsNegated scope known e) (sym (ap (λ (s : Spelling). s.negated) spells)) (literal_negated scope known columns e v eq of well whole),
          subst (IsWhole scope known columns e) (sym (ap (λ (s : Spelling). s.whole) spells)) (literal_whole scope known columns e v eq of well),
        )

    some_kind : (o : Option ColType) (k : ColType) → has_this k o ≡ true → o ≡ Some k
    some_kind None k is = absurd (let f : false ≡ true = is in cc)
    some_kind (Some j) k is = ap (λ (i : ColType). Some i) (sym (same_is k j is))

    known_is : (n : ℕ) (k : ColType) → is_parameter kinds n k ≡ true → known_kind n known ≡ Some k
    known_is zero k is = absurd (let f : false ≡ true = is in cc)
    known_is (suc at) k is =
        ap (λ (o : Option (Option ColType)). or_none o) (slice_get-map (λ (j : ColType). Some j) kinds at)
        ∙ ap (λ (o : Option ColType). or_none (option_map (λ (j : ColType). Some j) o)) (some_kind (slice_get kinds at) k is)

    param_holds : (n : ℕ) → Holds (TypedForm-F.Param n)
    param_holds n e is well gives fits =
        let eq = is ∙ form.rolls-Param n in
        let there : is_parameter kinds n e.kind ≡ true = sym (gives_param names (roll-TypedForm (TypedForm-F.Param n)) e.kind n (form.rolls-Param n)) ∙ gives in
        alike e (expr.Param n) (param_is columns e n eq) (ap (λ (o : Own). o.least_int4) (own_param scope [] n))
        (param_said scope known e n eq (means.may_stand n e.kind there) (known_is n e.kind there))

    column_holds : (n : ℕ) → Holds (TypedForm-F.Column n)
    column_holds n e is well gives fits =
        by_column (slice_get columns n) refl (sym (gives_column names (roll-TypedForm (TypedForm-F.Column n)) e.kind n (form.rolls-Column n)) ∙ gives)
      where
        by_column : (o : Option ColumnDef) → slice_get columns n ≡ o → has_column e.kind o ≡ true → Rounds e
        by_column None at there = absurd (let f : false ≡ true = there in cc)
        by_column (Some c) at there =
            let eq = is ∙ form.rolls-Column n in
            let x = expr.Column None c.name in
            alike e x (column_is columns e n eq ∙ ap (λ (o : Option ColumnDef). always (expr.Column None (column_name o))) at) (ap (λ (o : Own). o.least_int4) (own_column scope [] None c.name))
            (column_said scope known e n c eq (same_is e.kind c.kind there) (means.are_meant n c at))

    moment_is : (e : TypedExpr) → same_kind kind.Moment e.kind ≡ true → e.kind ≡ kind.Moment
    moment_is e is = sym (same_is kind.Moment e.kind is)

    holds : (d : TypedForm-F X Y Z W) → Holds d
    holds (TypedForm-F.Or ys) = or_holds ys
    holds (TypedForm-F.And ys) = and_holds ys
    holds (TypedForm-F.Not y) = not_holds y
    holds (TypedForm-F.IsNull y tests) = is_null_holds y tests
    holds (TypedForm-F.Compare how y z) = compare_holds how y z
    holds (TypedForm-F.Member y negated ys) = member_holds y negated ys
    holds (TypedForm-F.Concat ys) = concat_holds ys
    holds (TypedForm-F.Sum y ws) = sum_holds y ws
    holds (TypedForm-F.Product y zs) = product_holds y zs
    holds (TypedForm-F.Minus y) = minus_holds y
    holds (TypedForm-F.Literal v) = literal_holds v
    holds (TypedForm-F.Param n) = param_holds n
    holds (TypedForm-F.Column n) = column_holds n
    holds TypedForm-F.CurrentTimestamp = λ e is well gives fits.
        alike e expr.CurrentTimestamp (current_is columns e (is ∙ form.rolls-CurrentTimestamp)) (least (own scope [] expr.CurrentTimestamp) (Some kind.Moment) (own_current scope []))
        (current_said scope known e (is ∙ form.rolls-CurrentTimestamp)
        (moment_is e (sym (gives_current names (roll-TypedForm TypedForm-F.CurrentTimestamp) e.kind form.rolls-CurrentTimestamp) ∙ gives)))
    holds TypedForm-F.Now = λ e is well gives fits.
        alike e expr.Now (now_is columns e (is ∙ form.rolls-Now)) (least (own scope [] expr.Now) (Some kind.Moment) (own_now scope []))
        (now_said scope known e (is ∙ form.rolls-Now) (moment_is e (sym (gives_now names (roll-TypedForm TypedForm-F.Now) e.kind form.rolls-Now) ∙ gives)))
    holds TypedForm-F.TransactionTimestamp = λ e is well gives fits.
        alike e expr.TransactionTimestamp (transaction_is columns e (is ∙ form.rolls-TransactionTimestamp)) (least (own scope [] expr.TransactionTimestamp) (Some kind.Moment) (own_transaction scope []))
        (transaction_said scope known e (is ∙ form.rolls-TransactionTimestamp)
        (moment_is e (sym (gives_transaction names (roll-TypedForm TypedForm-F.TransactionTimestamp) e.kind form.rolls-TransactionTimestamp) ∙ gives)))

    form_good : (d : TypedForm-F X Y Z W) → GoodForm (roll-TypedForm (layer d))
    form_good d e is well gives fits = holds d e is (sym (held_at (layer d)) ∙ well) gives fits

  expr_good : (e : TypedExpr) → GoodForm e.form → GoodExpr e
  expr_good e good well sound =
      let both = both_of ((form_in names e.form).gives e.kind) (form_in names e.form).fits (sym (sound_by_form names e) ∙ sound) in
      good e refl (sym (held_by_form e) ∙ well) both.0 both.1

  -- every expression
  pub round : (e : TypedExpr) → GoodExpr e
  round = ind-TypedExpr GoodForm GoodExpr (λ f. GoodExpr f.part) (λ s. GoodExpr s.part)
      (λ x y is. subst (λ (z : TypedForm-F TypedForm TypedExpr TypedProductPart TypedSumPart). GoodForm (roll-TypedForm z)) is
      (form_good (λ f. f.0) (λ e. e.0) (λ p. p.0) (λ s. s.0) (λ e. e.1) (λ p. p.1) (λ s. s.1) y))
      (λ x y is. expr_good _ (subst (λ (z : TypedExpr-F TypedForm TypedExpr TypedProductPart TypedSumPart). GoodForm z.form) is y.form.1))
      (λ x y is. subst (λ (z : TypedProductPart-F TypedForm TypedExpr TypedProductPart TypedSumPart). GoodExpr z.part) is y.part.1)
      (λ x y is. subst (λ (z : TypedSumPart-F TypedForm TypedExpr TypedProductPart TypedSumPart). GoodExpr z.part) is y.part.1)
