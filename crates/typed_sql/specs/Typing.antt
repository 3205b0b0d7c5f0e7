-- Which typed expression an expression is at a place: from left to right, up to the first fault.
use Rattle.std.specs.Prelude.{◌≡◌, ◌⊎◌, ℕ, ℤ, Bool as Truth, true, false, List, [], ◌∷◌, map, Option, Some, None, Result, Ok, Err, if◌then◌else◌, codes, neg_ℤ, pos}
use Rattle.pg_values.specs.declared.col_type.ColType.{ColType}
use Rattle.pg_values.specs.declared.col_type.ColType.TheVariants as kind
use Rattle.pg_values.specs.declared.value.Value.{Value}
use Rattle.pg_values.specs.declared.value.Value.TheVariants as value
use Rattle.pg_values.specs.Answers.{ReadsText, RefusesText}
use Rattle.schema.specs.declared.catalogue.ColumnDef.{ColumnDef}
use Rattle.sql_tree.specs.declared.expr.Comparison.{Comparison}
use Rattle.sql_tree.specs.declared.expr.ProductSign.{ProductSign}
use Rattle.sql_tree.specs.declared.expr.Expr.{Expr}
use Rattle.sql_tree.specs.declared.expr.Expr.TheOpen.{Expr-F, SumPart-F, ProductPart-F}
use Rattle.sql_tree.specs.declared.expr.Expr.TheFolds.{rec-Expr}
use Rattle.sql_tree.specs.declared.expr.SumPart.{SumPart}
use Rattle.sql_tree.specs.declared.expr.ProductPart.{ProductPart}
use Rattle.typed_sql.specs.declared.asks.Asks.{Asks}
use Rattle.typed_sql.specs.declared.typed.TypedExpr.{TypedExpr}
use Rattle.typed_sql.specs.declared.typed.TypedForm.{TypedForm}
use Rattle.typed_sql.specs.declared.typed.TypedForm.TheVariants as form
use Rattle.typed_sql.specs.declared.typed.TypedSumPart.{TypedSumPart}
use Rattle.typed_sql.specs.declared.typed.TypedProductPart.{TypedProductPart}
use Rattle.typed_sql.specs.Places.{asks_bool, asks_text, asks_nothing, asks_number, asks_beside, asks_like, asks_entry, takes, sum_kind, number_kind}
use Rattle.typed_sql.specs.Own.{Scope, own, own_kind, joined_kind, first_kind, column_meant}
use Rattle.typed_sql.specs.Steps.{Known, Step, Gives, Then, Made, Walk, reached, Each, Told, Fault, fault, known_kind, with_kind}

abbrev pub typed : ColType → TypedForm → TypedExpr
typed kind form = record { kind = kind; form = form }

abbrev pub literal : ColType → Value → TypedExpr
literal kind value = typed kind (form.Literal value)

-- ---- leaves

abbrev pub number_of : ColType → ℤ → TypedExpr
number_of kind.Int4 n = literal kind.Int4 (value.Int4 n)
number_of _ n = literal kind.Int8 (value.Int8 n)

-- the text form of a value of the type
abbrev pub TextForm : ColType → List ℕ → Step TypedExpr
TextForm kind text known answer =
    ((read : Value) × ReadsText kind text read × (answer ≡ Ok (literal kind read, known)))
    ⊎ ((code : List ℕ) × RefusesText kind text code × (answer ≡ Err (fault code [])))

-- a string where a text is asked is that text, and else the text form of a value
abbrev pub String : ColType → List ℕ → Step TypedExpr
String kind.Text text = Gives (literal kind.Text (value.Text text))
String kind.Bool text = TextForm kind.Bool text
String kind.Int4 text = TextForm kind.Int4 text
String kind.Int8 text = TextForm kind.Int8 text
String kind.Moment text = TextForm kind.Moment text

abbrev pub parameter_of : ColType → ℕ → Option ColType → Step TypedExpr
parameter_of leaf n (Some kind) known answer = answer ≡ Ok (typed kind (form.Param n), known)
parameter_of leaf n None known answer = answer ≡ Ok (typed leaf (form.Param n), with_kind n leaf known)

-- a parameter has the type that is known of it, and else the one that the place asks for, which is then known
abbrev pub Parameter : Truth → ColType → ℕ → Step TypedExpr
Parameter true leaf n known answer = parameter_of leaf n (known_kind n known) known answer
Parameter false leaf n known answer = answer ≡ Err (fault (codes "42P02") [])

abbrev pub column_expr : ℕ × ColumnDef → TypedExpr
column_expr x = typed (x.1).kind (form.Column x.0)

-- ---- one layer of an expression

-- the parts of a layer: which expression each is, and what it is at a place
pub record Under (X P S : Type 0) : Type 1 where
  pub expr : X → Expr
  pub factor : P → ProductPart
  pub summand : S → SumPart
  pub at : X → Asks → Step TypedExpr
  pub factor_at : P → Asks → Step TypedExpr
  pub summand_at : S → Asks → Step TypedExpr

abbrev pub truth : TypedForm → TypedExpr
truth form = typed kind.Bool form

abbrev pub moment : TypedForm → TypedExpr
moment form = typed kind.Moment form

abbrev pub fitting : Truth → TypedExpr → Result TypedExpr Fault
fitting true e = Ok e
fitting false e = Err (fault (codes "42804") [])

-- at the end of an operand: its type may stand there
abbrev pub Fits : Asks → TypedExpr → Step TypedExpr
Fits asks e = Told (fitting (takes asks.takes e.kind) e)

-- the right operand of a comparison, of a type with the left one
abbrev pub ComparedWith : {X : Type 0} → (X → Asks → Step TypedExpr) → Comparison → X → TypedExpr → Step TypedExpr
ComparedWith at how right a = Made (λ b. truth (form.Compare how a b)) (at right (asks_like a.kind))

-- the left operand, and the right one of a type with it
abbrev pub Compared : {X : Type 0} → (Known → X → Option ColType) → (X → Asks → Step TypedExpr) → Comparison → X → X → Step TypedExpr
Compared own_of at how left right known = Then (at left (asks_beside (own_of known right))) (ComparedWith at how right) known

-- the entries behind an operand, each of a type with it: what has no type takes the first that there is
abbrev pub EntriesOf : {X : Type 0} → (X → Asks → Step TypedExpr) → Truth → Option ColType → List X → TypedExpr → Step TypedExpr
EntriesOf at negated first entries a =
    Made (λ bs. truth (form.Member a negated bs)) (Each (λ entry. at entry (asks_entry first a.kind)) entries)

abbrev pub AmongBeside : {X : Type 0} → (X → Asks → Step TypedExpr) → Truth → X → List X → Option ColType → Step TypedExpr
AmongBeside at negated of entries first = Then (at of (asks_beside first)) (EntriesOf at negated first entries)

-- the operand, and the entries
abbrev pub Among : {X : Type 0} → (Known → X → Option ColType) → (X → Asks → Step TypedExpr) → Truth → X → List X → Step TypedExpr
Among own_of at negated of entries known =
    AmongBeside at negated of entries (first_kind (own_of known of ∷ map (own_of known) entries)) known

-- a further part of a chain, beside what stands to the left of it
abbrev pub PartOf : {P Q : Type 0} → (P → Asks → Step TypedExpr) → (P → TypedExpr → Q) → ColType → P → Step Q
PartOf at make kind part = Made (make part) (at part (asks_number (Some kind)))

-- the type of what stands to the left of the next part
abbrev pub behind_part : {Q : Type 0} → (Q → ColType) → ColType → Q → ColType
behind_part kind_of kind made = sum_kind kind (kind_of made)

-- the parts behind what has this type, and the type of the whole chain
abbrev pub Others : {P Q : Type 0} → (P → Asks → Step TypedExpr) → (P → TypedExpr → Q) → (Q → ColType) → ColType → List P → Step (ColType × List Q)
Others at make kind_of kind parts =
    Made (λ qs. (reached (behind_part kind_of) kind qs, qs)) (Walk (PartOf at make) (behind_part kind_of) kind parts)

-- the parts behind the first operand of a chain
abbrev pub Parts : {P Q : Type 0} → (P → Asks → Step TypedExpr) → (P → TypedExpr → Q) → (Q → ColType) → (TypedExpr → List Q → TypedForm) → List P → TypedExpr → Step TypedExpr
Parts at make kind_of form parts a = Made (λ x. typed x.0 (form a x.1)) (Others at make kind_of a.kind parts)

abbrev pub own_of_first : {P : Type 0} → (P → Option ColType) → List P → Option ColType
own_of_first own_of [] = None
own_of_first own_of (part ∷ parts) = own_of part

abbrev pub ChainBeside : {X P Q : Type 0} → (X → Asks → Step TypedExpr) → (P → Asks → Step TypedExpr) → (P → TypedExpr → Q) → (Q → ColType) → (TypedExpr → List Q → TypedForm) → X → List P → Option ColType → Step TypedExpr
ChainBeside at part_at make kind_of form first parts beside = Then (at first (asks_number beside)) (Parts part_at make kind_of form parts)

-- the first operand of a chain beside the next one, and the others
abbrev pub Chain : {X P Q : Type 0} → (X → Asks → Step TypedExpr) → (Known → P → Option ColType) → (P → Asks → Step TypedExpr) → (P → TypedExpr → Q) → (Q → ColType) → (TypedExpr → List Q → TypedForm) → X → List P → Step TypedExpr
Chain at own_of part_at make kind_of form first parts known =
    ChainBeside at part_at make kind_of form first parts (own_of_first (own_of known) parts) known

abbrev pub summand_of : SumPart → TypedExpr → TypedSumPart
summand_of part e = record { minus = part.minus; part = e }

abbrev pub factor_of : ProductPart → TypedExpr → TypedProductPart
factor_of part e = record { sign = part.sign; part = e }

-- a number with a minus in front of it; with 2147483648 it is the least int4
abbrev pub Negative : {X : Type 0} → Truth → (X → Asks → Step TypedExpr) → X → Step TypedExpr
Negative true at of = Gives (literal kind.Int4 (value.Int4 (neg_ℤ (pos 2147483648))))
Negative false at of = Made (λ e. typed (joined_kind (Some e.kind) None) (form.Minus e)) (at of (asks_number None))

abbrev pub Form : {X P S : Type 0} → Scope → Under X P S → Expr-F X P S → ColType → Step TypedExpr
Form scope u (Expr-F.Or parts) leaf = Made (λ es. truth (form.Or es)) (Each (λ part. u.at part asks_bool) parts)
Form scope u (Expr-F.And parts) leaf = Made (λ es. truth (form.And es)) (Each (λ part. u.at part asks_bool) parts)
Form scope u (Expr-F.Not part) leaf = Made (λ e. truth (form.Not e)) (u.at part asks_bool)
Form scope u (Expr-F.IsNull part tests) leaf = Made (λ e. truth (form.IsNull e tests)) (u.at part asks_nothing)
Form scope u (Expr-F.Compare how left right) leaf = Compared (λ known x. own_kind scope known (u.expr x)) u.at how left right
Form scope u (Expr-F.Member part negated entries) leaf = Among (λ known x. own_kind scope known (u.expr x)) u.at negated part entries
Form scope u (Expr-F.Concat parts) leaf = Made (λ es. typed kind.Text (form.Concat es)) (Each (λ part. u.at part asks_text) parts)
Form scope u (Expr-F.Sum first summands) leaf = Chain u.at (λ known s. own_kind scope known (u.summand s).part) u.summand_at
    (λ s. summand_of (u.summand s)) (λ q. q.part.kind) (λ e qs. form.Sum e qs) first summands
Form scope u (Expr-F.Product first factors) leaf = Chain u.at (λ known f. own_kind scope known (u.factor f).part) u.factor_at
    (λ f. factor_of (u.factor f)) (λ q. q.part.kind) (λ e qs. form.Product e qs) first factors
Form scope u (Expr-F.Minus part) leaf = Negative (own scope [] (u.expr part)).least_int4 u.at part
Form scope u (Expr-F.Int n) leaf = Gives (number_of (number_kind n) n)
Form scope u (Expr-F.Str text) leaf = String leaf text
Form scope u (Expr-F.Bool given) leaf = Gives (literal kind.Bool (value.Bool given))
Form scope u Expr-F.Null leaf = Gives (literal leaf value.Null)
Form scope u (Expr-F.Param n) leaf = Parameter scope.parameters leaf n
Form scope u (Expr-F.Column qualifier name) leaf = Made column_expr (Told (column_meant scope qualifier name))
Form scope u Expr-F.CurrentTimestamp leaf = Gives (moment form.CurrentTimestamp)
Form scope u Expr-F.Now leaf = Gives (moment form.Now)
Form scope u Expr-F.TransactionTimestamp leaf = Gives (moment form.TransactionTimestamp)
Form scope u (Expr-F.Moment text) leaf = TextForm kind.Moment text

-- the expression by its form, whose type may stand at the place
abbrev pub Layer : {X P S : Type 0} → Scope → Under X P S → Expr-F X P S → Asks → Step TypedExpr
Layer scope u layer asks = Then (Form scope u layer asks.leaf) (Fits asks)

abbrev pub parts_of : {X P S : Type 0} → (X → Expr) → (P → ProductPart) → (S → SumPart) → (X → Asks → Step TypedExpr) → (P → Asks → Step TypedExpr) → (S → Asks → Step TypedExpr) → Under X P S
parts_of expr factor summand at factor_at summand_at =
    record { expr = expr; factor = factor; summand = summand; at = at; factor_at = factor_at; summand_at = summand_at }

-- what there is at each place
abbrev pub Place : Type 1
Place = Asks → Step TypedExpr

abbrev pub at_layer : Scope → (X P S : Type 0) → (X → Expr) → (P → ProductPart) → (S → SumPart) → (X → Place) → (P → Place) → (S → Place) → Expr-F X P S → Place
at_layer scope X P S expr factor summand at factor_at summand_at layer =
    Layer scope (parts_of expr factor summand at factor_at summand_at) layer

abbrev pub at_factor : (X P S : Type 0) → (X → Expr) → (P → ProductPart) → (S → SumPart) → (X → Place) → (P → Place) → (S → Place) → ProductPart-F X P S → Place
at_factor X P S expr factor summand at factor_at summand_at layer = at layer.part

abbrev pub at_summand : (X P S : Type 0) → (X → Expr) → (P → ProductPart) → (S → SumPart) → (X → Place) → (P → Place) → (S → Place) → SumPart-F X P S → Place
at_summand X P S expr factor summand at factor_at summand_at layer = at layer.part

-- what an expression is at a place
abbrev pub Typed : Scope → Expr → Place
Typed scope = rec-Expr Place Place Place (at_layer scope) at_factor at_summand
