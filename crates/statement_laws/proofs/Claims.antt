-- What is to be shown of the spelling of an expression: at each place that asks for its type, a check makes of it an
-- expression that comes to the same on every row.
use Rattle.std.proofs.Common.{◌≡◌, ◌∙◌, refl, ap, sym, subst}
use Rattle.std.specs.Prelude.{Bool as Truth, true, false, Option, Some, None}
use Rattle.pg_values.specs.declared.col_type.ColType.{ColType}
use Rattle.pg_values.specs.declared.col_type.ColType.TheVariants as kind
use Rattle.sql_tree.specs.declared.expr.Expr.{Expr, out-Expr}
use Rattle.sql_tree.specs.declared.expr.Expr.TheOpen.{Expr-F}
use Rattle.sql_tree.specs.declared.expr.SumPart.{SumPart}
use Rattle.sql_tree.specs.declared.expr.ProductPart.{ProductPart}
use Rattle.typed_sql.specs.declared.asks.Asks.{Asks}
use Rattle.typed_sql.specs.declared.asks.Takes.TheVariants.{Any, Like}
use Rattle.typed_sql.specs.declared.typed.TypedExpr.{TypedExpr}
use Rattle.typed_sql.specs.Places.{are_alike, asks_nothing, asks_number, is_whole, or_int8, takes}
use Rattle.typed_sql.specs.Own.{Scope, own, own_kind}
use Rattle.typed_sql.specs.Steps.{Known}
use Rattle.typed_sql.specs.Typing.{Fits, Form, Layer, Place, Typed, fitting}
use Rattle.typed_sql.specs.Meaning.{under}
use Rattle.typed_sql.proofs.Forms.{typed_is}
use Rattle.sql_values.specs.Meaning.{Around, value_in}
use Rattle.statement_laws.proofs.Alike.{alike_refl, alike_sym, alike_text, alike_trans, int8_whole, takes_alike}
use Rattle.statement_laws.proofs.Sure.{Sure, along, followed, told}

-- it comes to the same, whatever stands round it
abbrev pub SameValue : TypedExpr → TypedExpr → Type 0
SameValue e y = (around : Around) → value_in around y ≡ value_in around e

-- and its type may stand there
abbrev pub Again : (ColType → Type 0) → TypedExpr → TypedExpr → Type 0
Again Kind e y = Kind y.kind × SameValue e y

abbrev pub place : ColType → Asks
place k = record { leaf = k; takes = Like k }

module _ (scope : Scope) (known : Known) where
  -- of an expression whose spelling has this type of itself: without one it takes what the place asks
  abbrev pub Spoken : TypedExpr → Expr → Option ColType → Type 0
  Spoken e x None = (asks : Asks) → takes asks.takes asks.leaf ≡ true → (e.kind ≡ kind.Text → asks.leaf ≡ kind.Text)
      → Sure (Again (λ k. k ≡ asks.leaf) e) known (Typed scope x asks)
  Spoken e x (Some own) = (are_alike e.kind own ≡ true)
      × ((asks : Asks) → takes asks.takes e.kind ≡ true → Sure (Again (λ k. are_alike e.kind k ≡ true) e) known (Typed scope x asks))

  abbrev pub Said : TypedExpr → Expr → Type 0
  Said e x = Spoken e x (own_kind scope known x)

  -- ---- at places

  at_by : (o : Option ColType) (e : TypedExpr) (x : Expr) → Spoken e x o → (asks : Asks) → takes asks.takes asks.leaf ≡ true → takes asks.takes e.kind ≡ true
      → (e.kind ≡ kind.Text → asks.leaf ≡ kind.Text) → Sure (Again (λ k. takes asks.takes k ≡ true) e) known (Typed scope x asks)
  at_by None e x said asks leaf fits text =
      along (Again (λ k. k ≡ asks.leaf) e) (Again (λ k. takes asks.takes k ≡ true) e) known (Typed scope x asks) (said asks leaf text)
      (λ y is. (ap (takes asks.takes) is.0 ∙ leaf, is.1))
  at_by (Some own) e x said asks leaf fits text =
      along (Again (λ k. are_alike e.kind k ≡ true) e) (Again (λ k. takes asks.takes k ≡ true) e) known (Typed scope x asks) (said.1 asks fits)
      (λ y is. (takes_alike asks.takes e.kind y.kind is.0 fits, is.1))

  pub at_place : (e : TypedExpr) (x : Expr) → Said e x → (asks : Asks) → takes asks.takes asks.leaf ≡ true → takes asks.takes e.kind ≡ true
      → (e.kind ≡ kind.Text → asks.leaf ≡ kind.Text) → Sure (Again (λ k. takes asks.takes k ≡ true) e) known (Typed scope x asks)
  at_place e x said = at_by (own_kind scope known x) e x said

  -- where a type is asked
  pub like_place : (k : ColType) (e : TypedExpr) (x : Expr) → Said e x → are_alike k e.kind ≡ true → Sure (Again (λ j. are_alike k j ≡ true) e) known (Typed scope x (place k))
  like_place k e x said alike = at_place e x said (place k) (alike_refl k) alike (λ is. alike_text e.kind k (alike_sym k e.kind alike) is)

  whole_text : (e : TypedExpr) (k : ColType) → is_whole e.kind ≡ true → e.kind ≡ kind.Text → k ≡ kind.Text
  whole_text e k whole is = absurd (let f : false ≡ true = ap is_whole (sym is) ∙ whole in cc)

  -- where a whole number is asked
  pub number_place : (o : Option ColType) (e : TypedExpr) (x : Expr) → Said e x → is_whole e.kind ≡ true → Sure (Again (λ j. is_whole j ≡ true) e) known (Typed scope x (asks_number o))
  number_place o e x said whole = at_place e x said (asks_number o) (int8_whole o) whole (whole_text e (or_int8 o) whole)

  -- where anything may stand
  pub free_place : (e : TypedExpr) (x : Expr) → Said e x → Sure (SameValue e) known (Typed scope x asks_nothing)
  free_place e x said =
      along (Again (λ k. takes Any k ≡ true) e) (SameValue e) known (Typed scope x asks_nothing)
      (at_place e x said asks_nothing refl refl (λ is. refl)) (λ y is. is.1)

  -- ---- by forms

  -- at its place an expression is its form, whose type may stand there
  pub layer : (x : Expr) (d : Expr-F Expr ProductPart SumPart) (P : TypedExpr → Type 0) (asks : Asks) → out-Expr x ≡ d
      → Sure (λ y. P y × (takes asks.takes y.kind ≡ true)) known (Form scope (under scope) d asks.leaf) → Sure P known (Typed scope x asks)
  layer x d P asks out form =
      subst (λ (at : Place). Sure P known (at asks)) (sym (typed_is scope x ∙ ap (λ (z : Expr-F Expr ProductPart SumPart). Layer scope (under scope) z) out))
      (followed (λ y. P y × (takes asks.takes y.kind ≡ true)) P known (Form scope (under scope) d asks.leaf) (Fits asks) form
      (λ y is. told P known (fitting (takes asks.takes y.kind) y) y (ap (λ (b : Truth). fitting b y) is.1) is.0))

  -- a form whose type is that of the expression
  pub formed : (e : TypedExpr) (x : Expr) (d : Expr-F Expr ProductPart SumPart) (k : ColType) → own_kind scope known x ≡ Some k → out-Expr x ≡ d → are_alike e.kind k ≡ true
      → ((leaf : ColType) → Sure (Again (λ j. are_alike k j ≡ true) e) known (Form scope (under scope) d leaf)) → Said e x
  formed e x d k own_is out alike form =
      subst (Spoken e x) (sym own_is) (
        alike,
        λ asks fits. layer x d (Again (λ j. are_alike e.kind j ≡ true) e) asks out
            (along (Again (λ j. are_alike k j ≡ true) e) (λ y. Again (λ j. are_alike e.kind j ≡ true) e y × (takes asks.takes y.kind ≡ true)) known
            (Form scope (under scope) d asks.leaf) (form asks.leaf)
            (λ y is. let like = alike_trans e.kind k y.kind alike is.0 in ((like, is.1), takes_alike asks.takes e.kind y.kind like fits))),
      )

  -- a form without a type, which takes what the place asks
  pub leaf_formed : (e : TypedExpr) (x : Expr) (d : Expr-F Expr ProductPart SumPart) → own_kind scope known x ≡ None → out-Expr x ≡ d
      → ((leaf : ColType) → (e.kind ≡ kind.Text → leaf ≡ kind.Text) → Sure (Again (λ j. j ≡ leaf) e) known (Form scope (under scope) d leaf)) → Said e x
  leaf_formed e x d own_is out form =
      subst (Spoken e x) (sym own_is)
      (λ asks fits text. layer x d (Again (λ j. j ≡ asks.leaf) e) asks out
      (along (Again (λ j. j ≡ asks.leaf) e) (λ y. Again (λ j. j ≡ asks.leaf) e y × (takes asks.takes y.kind ≡ true)) known
      (Form scope (under scope) d asks.leaf) (form asks.leaf text)
      (λ y is. (is, ap (takes asks.takes) is.0 ∙ fits))))

  -- an expression of a like type that comes to the same is said by the same
  pub said_as : (e a : TypedExpr) (x : Expr) → e.kind ≡ a.kind → SameValue e a → Said a x → Said e x
  said_as e a x kinds values said = as_by (own_kind scope known x) said
    where
      as_by : (o : Option ColType) → Spoken a x o → Spoken e x o
      as_by None said = λ asks leaf text.
          along (Again (λ k. k ≡ asks.leaf) a) (Again (λ k. k ≡ asks.leaf) e) known (Typed scope x asks) (said asks leaf (λ is. text (kinds ∙ is)))
          (λ y is. (is.0, λ around. is.1 around ∙ values around))
      as_by (Some own) said = (
        ap (λ (k : ColType). are_alike k own) kinds ∙ said.0,
        λ asks fits. along (Again (λ k. are_alike a.kind k ≡ true) a) (Again (λ k. are_alike e.kind k ≡ true) e) known (Typed scope x asks)
            (said.1 asks (ap (takes asks.takes) (sym kinds) ∙ fits))
            (λ y is. (ap (λ (k : ColType). are_alike k y.kind) kinds ∙ is.0, λ around. is.1 around ∙ values around)),
      )
