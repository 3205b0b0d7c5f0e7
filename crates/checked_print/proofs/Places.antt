-- What is made of the parts of an expression is the expression at its place.
use Rattle.std.proofs.Common.{◌≡◌, ◌∙◌, ℕ, ℤ, List, Bool, map, ap, sym, refl}
use Rattle.std.specs.Prelude.{None}
use Rattle.pg_values.specs.declared.value.Value.{Value}
use Rattle.pg_values.specs.declared.value.Value.TheVariants as value
use Rattle.schema.specs.declared.catalogue.ColumnDef.{ColumnDef}
use Rattle.sql_tree.specs.declared.expr.Comparison.{Comparison}
use Rattle.sql_tree.specs.declared.expr.Expr.{Expr}
use Rattle.sql_tree.specs.declared.expr.Expr.TheVariants as expr
use Rattle.sql_tree.specs.declared.expr.SumPart.{SumPart}
use Rattle.sql_tree.specs.declared.expr.ProductPart.{ProductPart}
use Rattle.typed_sql.specs.declared.typed.TypedExpr.{TypedExpr}
use Rattle.typed_sql.specs.declared.typed.TypedForm.TheVariants as form
use Rattle.typed_sql.specs.declared.typed.TypedSumPart.{TypedSumPart}
use Rattle.typed_sql.specs.declared.typed.TypedProductPart.{TypedProductPart}
use Rattle.checked_print.specs.declared.place.Place.{Place}
use Rattle.checked_print.specs.declared.place.Place.TheVariants as place
use Rattle.checked_print.specs.Spelled.{Spelling, always, at, name_at, spelled, spelled_factor, spelled_negated, spelled_summand, spelled_value, spelling}
use Rattle.checked_print.proofs.Forms.{and_is, column_is, compare_is, concat_is, current_is, is_null_is, literal_is, member_is, minus_is, not_is, now_is, or_is, param_is, product_is, sum_is, transaction_is}

pub always_at : (p : Place) (e : Expr) → e ≡ at p (always e)
always_at place.Part e = refl
always_at place.Negated e = refl
always_at place.Whole e = refl

-- at its place, where it is spelled in one way
in_place : (p : Place) (e : Expr) (s : Spelling) → s ≡ always e → e ≡ at p s
in_place p e s is = always_at p e ∙ ap (at p) (sym is)

-- values
pub null_at : (p : Place) (v : Value) → v ≡ value.Null → expr.Null ≡ at p (spelled_value v)
null_at p v is = in_place p expr.Null (spelled_value v) (ap spelled_value is)

pub bool_at : (p : Place) (v : Value) (b : Bool) → v ≡ value.Bool b → expr.Bool b ≡ at p (spelled_value v)
bool_at p v b is = in_place p (expr.Bool b) (spelled_value v) (ap spelled_value is)

pub int4_at : (p : Place) (v : Value) (n : ℤ) (made : Expr) → v ≡ value.Int4 n → made ≡ at place.Part (spelled_value (value.Int4 n)) → made ≡ at p (spelled_value v)
int4_at p v n made is same = same ∙ in_place p (at place.Part (spelled_value (value.Int4 n))) (spelled_value v) (ap spelled_value is)

pub text_at : (p : Place) (v : Value) (text copy : List ℕ) → v ≡ value.Text text → copy ≡ text → expr.Str copy ≡ at p (spelled_value v)
text_at p v text copy is same = ap expr.Str same ∙ in_place p (expr.Str text) (spelled_value v) (ap spelled_value is)

pub moment_at : (p : Place) (v : Value) (m : ℤ) (made : Expr) → v ≡ value.Moment m → made ≡ at place.Part (spelled_value (value.Moment m)) → made ≡ at p (spelled_value v)
moment_at p v m made is same = same ∙ in_place p (at place.Part (spelled_value (value.Moment m))) (spelled_value v) (ap spelled_value is)

pub int8_at : (p : Place) (v : Value) (n : ℤ) (made : Expr) → v ≡ value.Int8 n → made ≡ at p (spelled_value (value.Int8 n)) → made ≡ at p (spelled_value v)
int8_at p v n made is same = same ∙ ap (λ (w : Value). at p (spelled_value w)) (sym is)

pub ruleset one_way = (null_at, bool_at, int4_at, text_at, moment_at, int8_at)

-- forms
module _ (columns : List ColumnDef) (p : Place) (e : TypedExpr) where
  pub or_at : (es : List TypedExpr) (made : List Expr) → e.form ≡ form.Or es → made ≡ map (spelled columns) es → expr.Or made ≡ at p (spelling columns e)
  or_at es made is each = ap expr.Or each ∙ in_place p (expr.Or (map (spelled columns) es)) (spelling columns e) (or_is columns e es is)

  pub and_at : (es : List TypedExpr) (made : List Expr) → e.form ≡ form.And es → made ≡ map (spelled columns) es → expr.And made ≡ at p (spelling columns e)
  and_at es made is each = ap expr.And each ∙ in_place p (expr.And (map (spelled columns) es)) (spelling columns e) (and_is columns e es is)

  pub not_at : (a : TypedExpr) (made : Expr) → e.form ≡ form.Not a → made ≡ spelled columns a → expr.Not made ≡ at p (spelling columns e)
  not_at a made is same = ap expr.Not same ∙ in_place p (expr.Not (spelled columns a)) (spelling columns e) (not_is columns e a is)

  pub is_null_at : (a : TypedExpr) (made : Expr) (tests again : List Bool) → e.form ≡ form.IsNull a tests → made ≡ spelled columns a → again ≡ tests
      → expr.IsNull made again ≡ at p (spelling columns e)
  is_null_at a made tests again is same copied = ap (λ (x : Expr). expr.IsNull x again) same ∙ (ap (expr.IsNull (spelled columns a)) copied
      ∙ in_place p (expr.IsNull (spelled columns a) tests) (spelling columns e) (is_null_is columns e a tests is))

  pub compare_at : (how : Comparison) (a b : TypedExpr) (x y : Expr) → e.form ≡ form.Compare how a b → x ≡ spelled columns a → y ≡ spelled columns b
      → expr.Compare how x y ≡ at p (spelling columns e)
  compare_at how a b x y is same other = ap (λ (z : Expr). expr.Compare how z y) same ∙ (ap (expr.Compare how (spelled columns a)) other
      ∙ in_place p (expr.Compare how (spelled columns a) (spelled columns b)) (spelling columns e) (compare_is columns e how a b is))

  pub member_at : (a : TypedExpr) (made : Expr) (negated : Bool) (es : List TypedExpr) (each : List Expr) → e.form ≡ form.Member a negated es
      → made ≡ spelled columns a → each ≡ map (spelled columns) es → expr.Member made negated each ≡ at p (spelling columns e)
  member_at a made negated es each is same others = ap (λ (x : Expr). expr.Member x negated each) same ∙ (ap (expr.Member (spelled columns a) negated) others
      ∙ in_place p (expr.Member (spelled columns a) negated (map (spelled columns) es)) (spelling columns e) (member_is columns e a negated es is))

  pub concat_at : (es : List TypedExpr) (made : List Expr) → e.form ≡ form.Concat es → made ≡ map (spelled columns) es → expr.Concat made ≡ at p (spelling columns e)
  concat_at es made is each = ap expr.Concat each ∙ in_place p (expr.Concat (map (spelled columns) es)) (spelling columns e) (concat_is columns e es is)

  pub sum_at : (a : TypedExpr) (made : Expr) (ss : List TypedSumPart) (each : List SumPart) → e.form ≡ form.Sum a ss
      → made ≡ spelled columns a → each ≡ map (spelled_summand columns) ss → expr.Sum made each ≡ at p (spelling columns e)
  sum_at a made ss each is same others = ap (λ (x : Expr). expr.Sum x each) same ∙ (ap (expr.Sum (spelled columns a)) others
      ∙ in_place p (expr.Sum (spelled columns a) (map (spelled_summand columns) ss)) (spelling columns e) (sum_is columns e a ss is))

  pub product_at : (a : TypedExpr) (made : Expr) (fs : List TypedProductPart) (each : List ProductPart) → e.form ≡ form.Product a fs
      → made ≡ spelled columns a → each ≡ map (spelled_factor columns) fs → expr.Product made each ≡ at p (spelling columns e)
  product_at a made fs each is same others = ap (λ (x : Expr). expr.Product x each) same ∙ (ap (expr.Product (spelled columns a)) others
      ∙ in_place p (expr.Product (spelled columns a) (map (spelled_factor columns) fs)) (spelling columns e) (product_is columns e a fs is))

  pub minus_at : (a : TypedExpr) (made : Expr) → e.form ≡ form.Minus a → made ≡ spelled_negated columns a → expr.Minus made ≡ at p (spelling columns e)
  minus_at a made is same = ap expr.Minus same ∙ in_place p (expr.Minus (spelled_negated columns a)) (spelling columns e) (minus_is columns e a is)

  pub literal_at : (v : Value) (made : Expr) → e.form ≡ form.Literal v → made ≡ at p (spelled_value v) → made ≡ at p (spelling columns e)
  literal_at v made is same = same ∙ ap (at p) (sym (literal_is columns e v is))

  pub param_at : (n : ℕ) → e.form ≡ form.Param n → expr.Param n ≡ at p (spelling columns e)
  param_at n is = in_place p (expr.Param n) (spelling columns e) (param_is columns e n is)

  pub column_at : (n : ℕ) (name : List ℕ) → e.form ≡ form.Column n → name ≡ name_at columns n → expr.Column None name ≡ at p (spelling columns e)
  column_at n name is same = ap (expr.Column None) same ∙ in_place p (expr.Column None (name_at columns n)) (spelling columns e) (column_is columns e n is)

  pub current_at : e.form ≡ form.CurrentTimestamp → expr.CurrentTimestamp ≡ at p (spelling columns e)
  current_at is = in_place p expr.CurrentTimestamp (spelling columns e) (current_is columns e is)

  pub now_at : e.form ≡ form.Now → expr.Now ≡ at p (spelling columns e)
  now_at is = in_place p expr.Now (spelling columns e) (now_is columns e is)

  pub transaction_at : e.form ≡ form.TransactionTimestamp → expr.TransactionTimestamp ≡ at p (spelling columns e)
  transaction_at is = in_place p expr.TransactionTimestamp (spelling columns e) (transaction_is columns e is)

-- the forms
pub ruleset forms = (or_at, and_at, not_at, is_null_at, compare_at, member_at, concat_at, sum_at, product_at, minus_at, literal_at, param_at, column_at, current_at, now_at, transaction_at)
