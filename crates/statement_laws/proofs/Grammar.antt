-- The spelling of an expression whose nodes are sound is of the grammar at each of its places.
use Rattle.std.proofs.Common.{◌≡◌, ◌∙◌, inl, inr, ℕ, zero, suc, ◌<◌, ◌≤◌, ◌≢◌, ℤ, pos, negsuc, List, [], ◌∷◌, length, map, refl, ap, sym, subst, arith}
use Rattle.std.specs.Prelude.{◌&&◌, ◌==◌, T, not, Bool as Truth, true, false, Option, Some, None, slice_get, if◌then◌else◌}
use Rattle.std.specs.List.{AllByRecursion, list_all}
use Rattle.std.specs.Int.Signed.{le_z_yes}
use Rattle.std.proofs.lemmas.Bool.{eqb-true, eqb-false, le-leb}
use Rattle.std.proofs.lemmas.List.{length-map}
use Rattle.pg_values.specs.declared.col_type.ColType.{ColType}
use Rattle.pg_values.specs.declared.col_type.ColType.TheVariants as kind
use Rattle.pg_values.specs.declared.value.Value.{Value}
use Rattle.pg_values.specs.declared.value.Value.TheVariants as value
use Rattle.schema.specs.declared.catalogue.ColumnDef.{ColumnDef}
use Rattle.schema.specs.Allowed.{HasNoZero, IsName as IsAllowedName}
use Rattle.sql_tree.specs.declared.expr.Comparison.{Comparison}
use Rattle.sql_tree.specs.declared.expr.Expr.{Expr}
use Rattle.sql_tree.specs.declared.expr.Expr.TheOpen.{Expr-F}
use Rattle.sql_tree.specs.declared.expr.Expr.TheVariants as expr
use Rattle.sql_tree.specs.declared.expr.SumPart.{SumPart}
use Rattle.sql_tree.specs.Trees.{IsName, IsString, IsTree}
use Rattle.typed_sql.specs.declared.typed.TypedExpr.{TypedExpr}
use Rattle.typed_sql.specs.declared.typed.TypedForm.{TypedForm, roll-TypedForm, map-TypedForm}
use Rattle.typed_sql.specs.declared.typed.TypedForm.TheOpen.{TypedForm-F, TypedExpr-F, TypedProductPart-F, TypedSumPart-F}
use Rattle.typed_sql.specs.declared.typed.TypedForm.TheFolds.{ind-TypedExpr}
use Rattle.typed_sql.specs.declared.typed.TypedForm.TheVariants as form
use Rattle.typed_sql.specs.declared.typed.TypedSumPart.{TypedSumPart}
use Rattle.typed_sql.specs.declared.typed.TypedProductPart.{TypedProductPart}
use Rattle.typed_sql.specs.declared.asks.Takes.{Takes}
use Rattle.typed_sql.specs.declared.asks.Takes.TheVariants.{Any, Whole, Like}
use Rattle.typed_sql.specs.Places.{same_kind, takes as takes_kind}
use Rattle.checked_sql.specs.Sound.{Names, form_in, has_column, has_no_zero, has_one, has_two, is_moment, is_parameter, is_some_byte, is_sound, is_value, stands}
use Rattle.checked_sql.specs.OfCatalogue.{around, is_empty, is_name}
use Rattle.checked_sql.proofs.Forms.{fits_and, fits_compare, fits_concat, fits_is_null, fits_member, fits_minus, fits_not, fits_or, fits_product, fits_sum, gives_column, gives_literal, gives_param, sound_by_form}
use Rattle.checked_print.specs.Moments.{moment_text}
use Rattle.checked_print.specs.Spelled.{Spelling, always, column_name, fits_int4, int8_part, is_least_int4, number, spelled, spelled_factor, spelled_negated, spelled_summand, spelled_value, spelling, summand, widened}
use Rattle.checked_print.proofs.Forms.{and_is, column_is, compare_is, concat_is, current_is, is_null_is, literal_is, member_is, minus_is, not_is, now_is, or_is, param_is, product_is, sum_is, transaction_is}
use Rattle.checked_print.specs.Ranges.{fits_int8, held_layer, is_held_expr, is_held}
use Rattle.statement_laws.proofs.Exprs.{one_long, two_long}
use Rattle.checked_print.proofs.Held.{factor_by, factor_held, form_held, held_at, held_by_form, summand_by, summand_held}
use Rattle.statement_laws.proofs.Leaves.{moment_again, moment_within}
use Rattle.statement_laws.proofs.Numbers.{both_of, int4_fits, number_least, number_negative, number_pos, strictly, wide_below}
use Rattle.statement_laws.proofs.Trees.{layer_tree}

-- ---- texts

positive : (b : ℕ) → b ≢ 0 → 0 < b
positive zero other = absurd (other refl)
positive (suc b) other = omega arith

some_byte : (b : ℕ) → is_some_byte b ≡ true → 0 < b
some_byte zero is = absurd (let f : false ≡ true = is in cc)
some_byte (suc b) is = omega arith

pub string : (text : List ℕ) → has_no_zero text ≡ true → IsString text
string [] is k d below = absurd (omega arith)
string (b ∷ text) is zero d below = some_byte b (both_of (is_some_byte b) (has_no_zero text) is).0
string (b ∷ text) is (suc k) d below = string text (both_of (is_some_byte b) (has_no_zero text) is).1 k d (omega arith)

allowed_string : (text : List ℕ) → HasNoZero text → IsString text
allowed_string [] is k d below = absurd (omega arith)
allowed_string (b ∷ text) is zero d below = is.0
allowed_string (b ∷ text) is (suc k) d below = allowed_string text is.1 k d (omega arith)

-- a name of a schema is a name of the grammar
pub allowed_name : (text : List ℕ) → IsAllowedName text → IsName text
allowed_name text is = (is.0, allowed_string text is.2)

pub told_name : (text : List ℕ) → is_name text ≡ true → IsName text
told_name [] is = absurd (let f : false ≡ true = is in cc)
told_name (b ∷ text) is = (omega arith, string (b ∷ text) (both_of (not (is_empty (b ∷ text))) (has_no_zero (b ∷ text)) is).1)

-- ---- numbers

natural : (k : ℕ) → IsTree (expr.Int (pos k))
natural k = layer_tree (Expr-F.Int (pos k)) (expr.Int (pos k)) (expr.rolls-Int (pos k)) (inl (le_z_yes (subst T (sym (le-leb 0 k (omega arith))) tt)))

minus_tree : (x : Expr) → IsTree x → IsTree (expr.Minus x)
minus_tree x tree = layer_tree (Expr-F.Minus x) (expr.Minus x) (expr.rolls-Minus x) tree

number_tree : (n : ℤ) → fits_int8 n ≡ true → IsTree (number n)
number_tree (pos k) fits = subst IsTree (sym (number_pos k)) (natural k)
number_tree (negsuc k) fits = by_least (k == 9223372036854775807) refl
  where
    by_least : (b : Truth) → (k == 9223372036854775807) ≡ b → IsTree (number (negsuc k))
    by_least true same =
        let last : k ≡ 9223372036854775807 = eqb-true k 9223372036854775807 same in
        subst IsTree (sym (number_least k (omega (arith, last))))
        (layer_tree (Expr-F.Int (negsuc k)) (expr.Int (negsuc k)) (expr.rolls-Int (negsuc k)) (inr (ap negsuc last)))
    by_least false same =
        let few = wide_below k fits in
        subst IsTree (sym (number_negative k (strictly k 9223372036854775807 few (eqb-false k 9223372036854775807 same))))
        (minus_tree (expr.Int (pos (suc k))) (natural (suc k)))

sum_tree : (x : Expr) (xs : List SumPart) → 1 ≤ length xs → IsTree x → AllByRecursion (λ s. IsTree s.part) xs → IsTree (expr.Sum x xs)
sum_tree x xs some tree all = layer_tree (Expr-F.Sum x xs) (expr.Sum x xs) (expr.rolls-Sum x xs) (tree, (some, all))

part_tree : (b : Truth) (n : ℤ) → fits_int8 n ≡ true → IsTree (if b then widened n else number n)
part_tree true n fits =
    sum_tree (number n) (summand false (expr.Int (pos 2147483648)) ∷ summand true (expr.Int (pos 2147483648)) ∷ []) (omega arith) (number_tree n fits)
    (natural 2147483648, (natural 2147483648, tt))
part_tree false n fits = number_tree n fits

negated_tree : (b : Truth) (n : ℤ) → is_least_int4 n ≡ b → fits_int8 n ≡ true → IsTree (if b then expr.Sum (expr.Int n) (summand false (expr.Int (pos 0)) ∷ []) else int8_part n)
negated_tree true (pos k) is fits = sum_tree (expr.Int (pos k)) (summand false (expr.Int (pos 0)) ∷ []) (omega arith) (natural k) (natural 0, tt)
negated_tree true (negsuc k) is fits = absurd (let f : false ≡ true = is in cc)
negated_tree false n is fits = part_tree (fits_int4 n) n fits

-- at each place
abbrev pub Trees : Spelling → Type 0
Trees s = IsTree s.part × IsTree s.negated × IsTree s.whole

one_way : (x : Expr) → IsTree x → Trees (always x)
one_way x tree = (tree, tree, tree)

value_trees : (k : ColType) (v : Value) → is_value k v ≡ true → is_held v ≡ true → Trees (spelled_value v)
value_trees k value.Null is held = one_way expr.Null (layer_tree Expr-F.Null expr.Null expr.rolls-Null tt)
value_trees k (value.Bool b) is held = one_way (expr.Bool b) (layer_tree (Expr-F.Bool b) (expr.Bool b) (expr.rolls-Bool b) tt)
value_trees k (value.Int4 n) is held = one_way (number n) (number_tree n (int4_fits n held))
value_trees k (value.Int8 n) is held = (part_tree (fits_int4 n) n held, negated_tree (is_least_int4 n) n refl held, number_tree n held)
value_trees k (value.Text text) is held =
    one_way (expr.Str text) (layer_tree (Expr-F.Str text) (expr.Str text) (expr.rolls-Str text) (string text (both_of (same_kind k kind.Text) (has_no_zero text) is).1))
value_trees k (value.Moment m) is held =
    let again = moment_again m (moment_within m (both_of (same_kind k kind.Moment) (is_moment m) is).1) in
    one_way (expr.Moment (moment_text m)) (layer_tree (Expr-F.Moment (moment_text m)) (expr.Moment (moment_text m)) (expr.rolls-Moment (moment_text m))
    (λ n d below. positive _ (again.0.1 n d below)))

-- ---- expressions

module _ (columns : List ColumnDef) (kinds : List ColType) (named : (n : ℕ) (c : ColumnDef) → slice_get columns n ≡ Some c → IsName c.name) where
  abbrev names : Names
  names = around columns kinds

  abbrev GoodExpr : TypedExpr → Type 0
  GoodExpr e = is_held_expr e ≡ true → is_sound names e ≡ true → Trees (spelling columns e)

  abbrev GoodForm : TypedForm → Type 0
  GoodForm f = (e : TypedExpr) → e.form ≡ f → form_held f ≡ true → (form_in names f).gives e.kind ≡ true → (form_in names f).fits ≡ true → Trees (spelling columns e)

  alike : (e : TypedExpr) (x : Expr) → spelling columns e ≡ always x → IsTree x → Trees (spelling columns e)
  alike e x is tree = subst Trees (sym is) (one_way x tree)

  stood : (t : Takes) (e : TypedExpr) → GoodExpr e → is_held_expr e ≡ true → stands names t e ≡ true → Trees (spelling columns e)
  stood t e good well is = good well (both_of (takes_kind t e.kind) (is_sound names e) is).1

  long : {A B : Type 0} (n : ℕ) (g : A → B) (xs : List A) → n ≤ length xs → n ≤ length (map g xs)
  long n g xs some = omega (arith, some, length-map xs g)

  module _ {X Y Z W : Type 0} (f_of : X → TypedForm) (e_of : Y → TypedExpr) (p_of : Z → TypedProductPart) (s_of : W → TypedSumPart)
      (ey : (y : Y) → GoodExpr (e_of y)) (pz : (z : Z) → GoodExpr (p_of z).part) (sw : (w : W) → GoodExpr (s_of w).part) where
    parts : (t : Takes) (ys : List Y) → list_all (λ part. part) (map is_held_expr (map e_of ys)) ≡ true → list_all (stands names t) (map e_of ys) ≡ true
        → AllByRecursion IsTree (map (spelled columns) (map e_of ys))
    parts t [] well is = tt
    parts t (y ∷ ys) well is =
        let all = both_of (is_held_expr (e_of y)) (list_all (λ part. part) (map is_held_expr (map e_of ys))) well in
        let both = both_of (stands names t (e_of y)) (list_all (stands names t) (map e_of ys)) is in
        ((stood t (e_of y) (ey y) all.0 both.0).0, parts t ys all.1 both.1)

    summands : (ws : List W) → list_all (λ part. part) (map summand_held (map s_of ws)) ≡ true → list_all (λ s. stands names Whole s.part) (map s_of ws) ≡ true
        → AllByRecursion (λ s. IsTree s.part) (map (spelled_summand columns) (map s_of ws))
    summands [] well is = tt
    summands (w ∷ ws) well is =
        let all = both_of (summand_held (s_of w)) (list_all (λ part. part) (map summand_held (map s_of ws))) well in
        let both = both_of (stands names Whole (s_of w).part) (list_all (λ (s : TypedSumPart). stands names Whole s.part) (map s_of ws)) is in
        ((stood Whole (s_of w).part (sw w) (sym (summand_by (s_of w)) ∙ all.0) both.0).0, summands ws all.1 both.1)

    factors : (zs : List Z) → list_all (λ part. part) (map factor_held (map p_of zs)) ≡ true → list_all (λ f. stands names Whole f.part) (map p_of zs) ≡ true
        → AllByRecursion (λ f. IsTree f.part) (map (spelled_factor columns) (map p_of zs))
    factors [] well is = tt
    factors (z ∷ zs) well is =
        let all = both_of (factor_held (p_of z)) (list_all (λ part. part) (map factor_held (map p_of zs))) well in
        let both = both_of (stands names Whole (p_of z).part) (list_all (λ (f : TypedProductPart). stands names Whole f.part) (map p_of zs)) is in
        ((stood Whole (p_of z).part (pz z) (sym (factor_by (p_of z)) ∙ all.0) both.0).0, factors zs all.1 both.1)

    abbrev layer : TypedForm-F X Y Z W → TypedForm-F TypedForm TypedExpr TypedProductPart TypedSumPart
    layer d = map-TypedForm X Y Z W TypedForm TypedExpr TypedProductPart TypedSumPart f_of e_of p_of s_of d

    abbrev Holds : TypedForm-F X Y Z W → Type 0
    Holds d = (e : TypedExpr) → e.form ≡ roll-TypedForm (layer d)
        → held_layer (map-TypedForm TypedForm TypedExpr TypedProductPart TypedSumPart Truth Truth Truth Truth form_held is_held_expr factor_held summand_held (layer d)) ≡ true
        → (form_in names (roll-TypedForm (layer d))).gives e.kind ≡ true → (form_in names (roll-TypedForm (layer d))).fits ≡ true → Trees (spelling columns e)

    or_holds : (ys : List Y) → Holds (TypedForm-F.Or ys)
    or_holds ys e is well gives fits =
        let es = map e_of ys in
        let xs = map (spelled columns) es in
        let both = both_of (has_two es) (list_all (stands names (Like kind.Bool)) es) (sym (fits_or names (roll-TypedForm (TypedForm-F.Or es)) es (form.rolls-Or es)) ∙ fits) in
        alike e (expr.Or xs) (or_is columns e es (is ∙ form.rolls-Or es)) (layer_tree (Expr-F.Or xs) (expr.Or xs) (expr.rolls-Or xs)
        (long 2 (spelled columns) es (two_long es both.0), parts (Like kind.Bool) ys well both.1))

    and_holds : (ys : List Y) → Holds (TypedForm-F.And ys)
    and_holds ys e is well gives fits =
        let es = map e_of ys in
        let xs = map (spelled columns) es in
        let both = both_of (has_two es) (list_all (stands names (Like kind.Bool)) es) (sym (fits_and names (roll-TypedForm (TypedForm-F.And es)) es (form.rolls-And es)) ∙ fits) in
        alike e (expr.And xs) (and_is columns e es (is ∙ form.rolls-And es)) (layer_tree (Expr-F.And xs) (expr.And xs) (expr.rolls-And xs)
        (long 2 (spelled columns) es (two_long es both.0), parts (Like kind.Bool) ys well both.1))

    concat_holds : (ys : List Y) → Holds (TypedForm-F.Concat ys)
    concat_holds ys e is well gives fits =
        let es = map e_of ys in
        let xs = map (spelled columns) es in
        let both = both_of (has_two es) (list_all (stands names (Like kind.Text)) es) (sym (fits_concat names (roll-TypedForm (TypedForm-F.Concat es)) es (form.rolls-Concat es)) ∙ fits) in
        alike e (expr.Concat xs) (concat_is columns e es (is ∙ form.rolls-Concat es)) (layer_tree (Expr-F.Concat xs) (expr.Concat xs) (expr.rolls-Concat xs)
        (long 2 (spelled columns) es (two_long es both.0), parts (Like kind.Text) ys well both.1))

    not_holds : (y : Y) → Holds (TypedForm-F.Not y)
    not_holds y e is well gives fits =
        let a = e_of y in
        let x = spelled columns a in
        alike e (expr.Not x) (not_is columns e a (is ∙ form.rolls-Not a)) (layer_tree (Expr-F.Not x) (expr.Not x) (expr.rolls-Not x)
        (stood (Like kind.Bool) a (ey y) well (sym (fits_not names (roll-TypedForm (TypedForm-F.Not a)) a (form.rolls-Not a)) ∙ fits)).0)

    is_null_holds : (y : Y) (tests : List Truth) → Holds (TypedForm-F.IsNull y tests)
    is_null_holds y tests e is well gives fits =
        let a = e_of y in
        let x = spelled columns a in
        let fits_there = sym (fits_is_null names (roll-TypedForm (TypedForm-F.IsNull a tests)) a tests (form.rolls-IsNull a tests)) ∙ fits in
        let both = both_of (has_one tests) (stands names Any a) fits_there in
        alike e (expr.IsNull x tests) (is_null_is columns e a tests (is ∙ form.rolls-IsNull a tests)) (layer_tree (Expr-F.IsNull x tests) (expr.IsNull x tests) (expr.rolls-IsNull x tests)
        ((stood Any a (ey y) well both.1).0, one_long tests both.0))

    compare_holds : (how : Comparison) (y z : Y) → Holds (TypedForm-F.Compare how y z)
    compare_holds how y z e is well gives fits =
        let a = e_of y in
        let b = e_of z in
        let eq = form.rolls-Compare how a b in
        let all = both_of (is_held_expr a) (is_held_expr b) well in
        let both = both_of (stands names Any a) (stands names (Like a.kind) b) (sym (fits_compare names (roll-TypedForm (TypedForm-F.Compare how a b)) how a b eq) ∙ fits) in
        let x = spelled columns a in
        let w = spelled columns b in
        alike e (expr.Compare how x w) (compare_is columns e how a b (is ∙ eq)) (layer_tree (Expr-F.Compare how x w) (expr.Compare how x w) (expr.rolls-Compare how x w)
        ((stood Any a (ey y) all.0 both.0).0, (stood (Like a.kind) b (ey z) all.1 both.1).0))

    member_holds : (y : Y) (negated : Truth) (ys : List Y) → Holds (TypedForm-F.Member y negated ys)
    member_holds y negated ys e is well gives fits =
        let a = e_of y in
        let es = map e_of ys in
        let eq = form.rolls-Member a negated es in
        let all = both_of (is_held_expr a) (list_all (λ part. part) (map is_held_expr es)) well in
        let both = both_of (stands names Any a) (has_one es && list_all (stands names (Like a.kind)) es) (sym (fits_member names (roll-TypedForm (TypedForm-F.Member a negated es)) a negated es eq) ∙ fits) in
        let entries = both_of (has_one es) (list_all (stands names (Like a.kind)) es) both.1 in
        let x = spelled columns a in
        let xs = map (spelled columns) es in
        alike e (expr.Member x negated xs) (member_is columns e a negated es (is ∙ eq)) (layer_tree (Expr-F.Member x negated xs) (expr.Member x negated xs) (expr.rolls-Member x negated xs)
        ((stood Any a (ey y) all.0 both.0).0, (long 1 (spelled columns) es (one_long es entries.0), parts (Like a.kind) ys all.1 entries.1)))

    sum_holds : (y : Y) (ws : List W) → Holds (TypedForm-F.Sum y ws)
    sum_holds y ws e is well gives fits =
        let a = e_of y in
        let ss = map s_of ws in
        let eq = form.rolls-Sum a ss in
        let all = both_of (is_held_expr a) (list_all (λ part. part) (map summand_held ss)) well in
        let both = both_of (stands names Whole a) (has_one ss && list_all (λ (s : TypedSumPart). stands names Whole s.part) ss) (sym (fits_sum names (roll-TypedForm (TypedForm-F.Sum a ss)) a ss eq) ∙ fits) in
        let rest = both_of (has_one ss) (list_all (λ (s : TypedSumPart). stands names Whole s.part) ss) both.1 in
        alike e (expr.Sum (spelled columns a) (map (spelled_summand columns) ss)) (sum_is columns e a ss (is ∙ eq))
        (sum_tree (spelled columns a) (map (spelled_summand columns) ss) (long 1 (spelled_summand columns) ss (one_long ss rest.0))
        (stood Whole a (ey y) all.0 both.0).0 (summands ws all.1 rest.1))

    product_holds : (y : Y) (zs : List Z) → Holds (TypedForm-F.Product y zs)
    product_holds y zs e is well gives fits =
        let a = e_of y in
        let fs = map p_of zs in
        let eq = form.rolls-Product a fs in
        let all = both_of (is_held_expr a) (list_all (λ part. part) (map factor_held fs)) well in
        let both = both_of (stands names Whole a) (has_one fs && list_all (λ (f : TypedProductPart). stands names Whole f.part) fs) (sym (fits_product names (roll-TypedForm (TypedForm-F.Product a fs)) a fs eq) ∙ fits) in
        let rest = both_of (has_one fs) (list_all (λ (f : TypedProductPart). stands names Whole f.part) fs) both.1 in
        let x = spelled columns a in
        let xs = map (spelled_factor columns) fs in
        alike e (expr.Product x xs) (product_is columns e a fs (is ∙ eq)) (layer_tree (Expr-F.Product x xs) (expr.Product x xs) (expr.rolls-Product x xs)
        ((stood Whole a (ey y) all.0 both.0).0, (long 1 (spelled_factor columns) fs (one_long fs rest.0), factors zs all.1 rest.1)))

    minus_holds : (y : Y) → Holds (TypedForm-F.Minus y)
    minus_holds y e is well gives fits =
        let a = e_of y in
        let eq = form.rolls-Minus a in
        alike e (expr.Minus (spelled_negated columns a)) (minus_is columns e a (is ∙ eq))
        (minus_tree (spelled_negated columns a) (stood Whole a (ey y) well (sym (fits_minus names (roll-TypedForm (TypedForm-F.Minus a)) a eq) ∙ fits)).1)

    literal_holds : (v : Value) → Holds (TypedForm-F.Literal v)
    literal_holds v e is well gives fits =
        subst Trees (sym (literal_is columns e v (is ∙ form.rolls-Literal v)))
        (value_trees e.kind v (sym (gives_literal names (roll-TypedForm (TypedForm-F.Literal v)) e.kind v (form.rolls-Literal v)) ∙ gives) well)

    above_zero : (n : ℕ) (k : ColType) → is_parameter kinds n k ≡ true → 1 ≤ n
    above_zero zero k is = absurd (let f : false ≡ true = is in cc)
    above_zero (suc n) k is = omega arith

    param_holds : (n : ℕ) → Holds (TypedForm-F.Param n)
    param_holds n e is well gives fits =
        alike e (expr.Param n) (param_is columns e n (is ∙ form.rolls-Param n)) (layer_tree (Expr-F.Param n) (expr.Param n) (expr.rolls-Param n)
        (above_zero n e.kind (sym (gives_param names (roll-TypedForm (TypedForm-F.Param n)) e.kind n (form.rolls-Param n)) ∙ gives)))

    column_holds : (n : ℕ) → Holds (TypedForm-F.Column n)
    column_holds n e is well gives fits =
        by_column (slice_get columns n) refl (sym (gives_column names (roll-TypedForm (TypedForm-F.Column n)) e.kind n (form.rolls-Column n)) ∙ gives)
      where
        by_column : (o : Option ColumnDef) → slice_get columns n ≡ o → has_column e.kind o ≡ true → Trees (spelling columns e)
        by_column None at there = absurd (let f : false ≡ true = there in cc)
        by_column (Some c) at there =
            alike e (expr.Column None c.name)
            (column_is columns e n (is ∙ form.rolls-Column n) ∙ ap (λ (o : Option ColumnDef). always (expr.Column None (column_name o))) at)
            (layer_tree (Expr-F.Column None c.name) (expr.Column None c.name) (expr.rolls-Column None c.name) (tt, named n c at))

    holds : (d : TypedForm-F X Y Z W) → Holds d
    holds (TypedForm-F.Or ys) = or_holds ys
    holds (TypedForm-F.And ys) = and_holds ys
    holds (TypedForm-F.Not y) = not_holds y
    holds (TypedForm-F.IsNull y tests) = is_null_holds y tests
    holds (TypedForm-F.Compare how y z) = compare_holds how y z
    holds (TypedForm-F.Member y negated ys) = member_holds y negated ys
    holds (TypedForm-F.Concat ys) = concat_holds ys
    holds (TypedForm-F.Sum y ws) = sum_holds y ws
    holds (TypedForm-F.Product y zs) = product_holds y zs
    holds (TypedForm-F.Minus y) = minus_holds y
    holds (TypedForm-F.Literal v) = literal_holds v
    holds (TypedForm-F.Param n) = param_holds n
    holds (TypedForm-F.Column n) = column_holds n
    holds TypedForm-F.CurrentTimestamp = λ e is well gives fits.
        alike e expr.CurrentTimestamp (current_is columns e (is ∙ form.rolls-CurrentTimestamp)) (layer_tree Expr-F.CurrentTimestamp expr.CurrentTimestamp expr.rolls-CurrentTimestamp tt)
    holds TypedForm-F.Now = λ e is well gives fits.
        alike e expr.Now (now_is columns e (is ∙ form.rolls-Now)) (layer_tree Expr-F.Now expr.Now expr.rolls-Now tt)
    holds TypedForm-F.TransactionTimestamp = λ e is well gives fits.
        alike e expr.TransactionTimestamp (transaction_is columns e (is ∙ form.rolls-TransactionTimestamp)) (layer_tree Expr-F.TransactionTimestamp expr.TransactionTimestamp expr.rolls-TransactionTimestamp tt)

    form_good : (d : TypedForm-F X Y Z W) → GoodForm (roll-TypedForm (layer d))
    form_good d e is well gives fits = holds d e is (sym (held_at (layer d)) ∙ well) gives fits

  expr_good : (e : TypedExpr) → GoodForm e.form → GoodExpr e
  expr_good e good well sound =
      let both = both_of ((form_in names e.form).gives e.kind) (form_in names e.form).fits (sym (sound_by_form names e) ∙ sound) in
      good e refl (sym (held_by_form e) ∙ well) both.0 both.1

  -- every expression
  pub trees : (e : TypedExpr) → GoodExpr e
  trees = ind-TypedExpr GoodForm GoodExpr (λ f. GoodExpr f.part) (λ s. GoodExpr s.part)
      (λ x y is. subst (λ (z : TypedForm-F TypedForm TypedExpr TypedProductPart TypedSumPart). GoodForm (roll-TypedForm z)) is
      (form_good (λ f. f.0) (λ e. e.0) (λ p. p.0) (λ s. s.0) (λ e. e.1) (λ p. p.1) (λ s. s.1) y))
      (λ x y is. expr_good _ (subst (λ (z : TypedExpr-F TypedForm TypedExpr TypedProductPart TypedSumPart). GoodForm z.form) is y.form.1))
      (λ x y is. subst (λ (z : TypedProductPart-F TypedForm TypedExpr TypedProductPart TypedSumPart). GoodExpr z.part) is y.part.1)
      (λ x y is. subst (λ (z : TypedSumPart-F TypedForm TypedExpr TypedProductPart TypedSumPart). GoodExpr z.part) is y.part.1)
