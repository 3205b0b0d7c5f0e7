-- Expressions with short names: a check that goes through one tells no other name.
use Rattle.std.proofs.Common.{◌≡◌, ◌∙◌, ℕ, ℤ, List, [], ◌∷◌, map, sym, ap, subst, inl, inr, ◌⊎◌}
use Rattle.std.specs.Prelude.{Bool as Truth, true, false, Option, Some, None, IfSome, Result, Ok, Err, bytes_eq, if◌then◌else◌}
use Rattle.std.specs.List.{AllByRecursion}
use Rattle.pg_values.specs.declared.col_type.ColType.{ColType}
use Rattle.pg_values.specs.declared.col_type.ColType.TheVariants as kind
use Rattle.pg_values.specs.declared.value.Value.{Value}
use Rattle.pg_values.specs.declared.value.Value.TheVariants as value
use Rattle.pg_values.specs.Answers.{ReadsText, RefusesText}
use Rattle.schema.specs.declared.catalogue.ColumnDef.{ColumnDef}
use Rattle.schema.specs.declared.catalogue.TableDef.{TableDef}
use Rattle.sql_tree.specs.declared.expr.Comparison.{Comparison}
use Rattle.sql_tree.specs.declared.expr.Expr.{Expr, roll-Expr, out-roll-Expr}
use Rattle.sql_tree.specs.declared.expr.Expr.TheOpen.{Expr-F}
use Rattle.sql_tree.specs.declared.expr.Expr.TheVariants as expr
use Rattle.sql_tree.specs.declared.expr.SumPart.{SumPart}
use Rattle.sql_tree.specs.declared.expr.ProductPart.{ProductPart}
use Rattle.typed_sql.specs.declared.asks.Asks.{Asks}
use Rattle.typed_sql.specs.declared.typed.TypedExpr.{TypedExpr}
use Rattle.typed_sql.specs.declared.typed.TypedForm.{TypedForm}
use Rattle.typed_sql.specs.declared.typed.TypedForm.TheVariants as form
use Rattle.typed_sql.specs.declared.typed.TypedSumPart.{TypedSumPart}
use Rattle.typed_sql.specs.declared.typed.TypedProductPart.{TypedProductPart}
use Rattle.typed_sql.specs.Places.{asks_beside, asks_bool, asks_entry, asks_like, asks_nothing, asks_number, asks_text, number_kind, takes}
use Rattle.typed_sql.specs.Own.{Scope, column_meant, column_of, first_kind, no_column, no_table, own, own_kind, wrong_table}
use Rattle.typed_sql.specs.Steps.{Known, fault, Fault, Answer, Walk, Each, Told, known_kind}
use Rattle.typed_sql.specs.Typing.{Place, Typed, Layer, Form, Fits, ComparedWith, EntriesOf, Parts, Others, PartOf, behind_part, Negative, Parameter, parameter_of, String, TextForm, number_of, column_expr, literal, typed, truth, moment, own_of_first, summand_of, factor_of, fitting}
use Rattle.typed_sql.specs.Meaning.{under}
use Rattle.typed_sql.proofs.Forms.{typed_is}
use Rattle.statement_laws.specs.Told.{IsTold}
use Rattle.statement_laws.proofs.Steps.{Blames, Tells, Found, none_told, gives, told, goes_on, made, walk, every, each_step}

-- wherever it stands, its faults tell such names
abbrev pub Calm : Expr → Type 0
Calm e = (scope : Scope) (asks : Asks) → Tells (Typed scope e asks)

rolled : (scope : Scope) (d : Expr-F Expr ProductPart SumPart) → Typed scope (roll-Expr d) ≡ Layer scope (under scope) d
rolled scope d = typed_is scope (roll-Expr d) ∙ ap (λ (x : Expr-F Expr ProductPart SumPart). Layer scope (under scope) x) (out-roll-Expr d)

fits_found : (fits : Truth) (e : TypedExpr) → Found (fitting fits e)
fits_found true e = tt
fits_found false e = none_told

-- an expression by its layer
layer_calm : (d : Expr-F Expr ProductPart SumPart) (e : Expr) → roll-Expr d ≡ e → ((scope : Scope) (leaf : ColType) → Tells (Form scope (under scope) d leaf)) → Calm e
layer_calm d e is form =
    subst Calm is (λ scope asks.
    subst (λ (at : Place). Tells (at asks)) (sym (rolled scope d))
    (goes_on (Form scope (under scope) d asks.leaf) (Fits asks) (form scope asks.leaf) (λ e. told (fitting (takes asks.takes e.kind) e) (fits_found (takes asks.takes e.kind) e))))

-- ---- leaves

text_at : (k : ColType) (text : List ℕ) (known : Known) (answer : Answer TypedExpr)
    → ((read : Value) × ReadsText k text read × (answer ≡ Ok (literal k read, known))) ⊎ ((code : List ℕ) × RefusesText k text code × (answer ≡ Err (fault code [])))
    → Blames answer
text_at k text known answer (inl x) = subst Blames (sym x.2) tt
text_at k text known answer (inr x) = subst Blames (sym x.2) none_told

text_tells : (k : ColType) (text : List ℕ) → Tells (TextForm k text)
text_tells k text known answer is = text_at k text known answer is

string_tells : (leaf : ColType) (text : List ℕ) → Tells (String leaf text)
string_tells kind.Text text = gives (literal kind.Text (value.Text text))
string_tells kind.Bool text = text_tells kind.Bool text
string_tells kind.Int4 text = text_tells kind.Int4 text
string_tells kind.Int8 text = text_tells kind.Int8 text
string_tells kind.Moment text = text_tells kind.Moment text

parameter_at : (leaf : ColType) (n : ℕ) (known : Known) (answer : Answer TypedExpr) (found : Option ColType) → parameter_of leaf n found known answer → Blames answer
parameter_at leaf n known answer (Some k) is = subst Blames (sym is) tt
parameter_at leaf n known answer None is = subst Blames (sym is) tt

parameter_tells : (may : Truth) (leaf : ColType) (n : ℕ) → Tells (Parameter may leaf n)
parameter_tells true leaf n known answer is = parameter_at leaf n known answer (known_kind n known) is
parameter_tells false leaf n known answer is = subst Blames (sym is) none_told

-- a column that is looked for
there_found : (name : List ℕ) (column : Option (ℕ × ColumnDef)) → IsTold name → Found (no_column name column)
there_found name None short = short
there_found name (Some x) short = tt

wrong_told : (table : Option TableDef) (qualifier : Option (List ℕ)) → IfSome qualifier IsTold → IfSome (wrong_table table qualifier) IsTold
wrong_told table None short = tt
wrong_told None (Some qualifier) short = short
wrong_told (Some table) (Some qualifier) short = go (bytes_eq table.name qualifier)
  where
    go : (b : Truth) → IfSome (if b then None else Some qualifier) IsTold
    go true = tt
    go false = short

table_found : (column : Result (ℕ × ColumnDef) Fault) (wrong : Option (List ℕ)) → Found column → IfSome wrong IsTold → Found (no_table column wrong)
table_found column None found short = found
table_found column (Some qualifier) found short = short

pub meant_found : (scope : Scope) (qualifier : Option (List ℕ)) (name : List ℕ) → IfSome qualifier IsTold → IsTold name → Found (column_meant scope qualifier name)
meant_found scope qualifier name q n =
    table_found (no_column name (column_of scope.table scope.columns name)) (wrong_table scope.table qualifier) (there_found name (column_of scope.table scope.columns name) n) (wrong_told scope.table qualifier q)

pub int_calm : (n : ℤ) → Calm (expr.Int n)
int_calm n = layer_calm (Expr-F.Int n) (expr.Int n) (expr.rolls-Int n) (λ scope leaf. gives (number_of (number_kind n) n))

pub str_calm : (text : List ℕ) → Calm (expr.Str text)
str_calm text = layer_calm (Expr-F.Str text) (expr.Str text) (expr.rolls-Str text) (λ scope leaf. string_tells leaf text)

pub bool_calm : (b : Truth) → Calm (expr.Bool b)
bool_calm b = layer_calm (Expr-F.Bool b) (expr.Bool b) (expr.rolls-Bool b) (λ scope leaf. gives (literal kind.Bool (value.Bool b)))

pub null_calm : Calm expr.Null
null_calm = layer_calm Expr-F.Null expr.Null expr.rolls-Null (λ scope leaf. gives (literal leaf value.Null))

pub param_calm : (n : ℕ) → Calm (expr.Param n)
param_calm n = layer_calm (Expr-F.Param n) (expr.Param n) (expr.rolls-Param n) (λ scope leaf. parameter_tells scope.parameters leaf n)

pub column_calm : (qualifier : Option (List ℕ)) (name : List ℕ) → IfSome qualifier IsTold → IsTold name → Calm (expr.Column qualifier name)
column_calm qualifier name q n =
    layer_calm (Expr-F.Column qualifier name) (expr.Column qualifier name) (expr.rolls-Column qualifier name)
    (λ scope leaf. made column_expr (Told (column_meant scope qualifier name)) (told (column_meant scope qualifier name) (meant_found scope qualifier name q n)))

pub current_calm : Calm expr.CurrentTimestamp
current_calm = layer_calm Expr-F.CurrentTimestamp expr.CurrentTimestamp expr.rolls-CurrentTimestamp (λ scope leaf. gives (moment form.CurrentTimestamp))

pub now_calm : Calm expr.Now
now_calm = layer_calm Expr-F.Now expr.Now expr.rolls-Now (λ scope leaf. gives (moment form.Now))

pub transaction_calm : Calm expr.TransactionTimestamp
transaction_calm = layer_calm Expr-F.TransactionTimestamp expr.TransactionTimestamp expr.rolls-TransactionTimestamp (λ scope leaf. gives (moment form.TransactionTimestamp))

pub moment_calm : (text : List ℕ) → Calm (expr.Moment text)
moment_calm text = layer_calm (Expr-F.Moment text) (expr.Moment text) (expr.rolls-Moment text) (λ scope leaf. text_tells kind.Moment text)

-- ---- expressions with parts

each_calm : (scope : Scope) (asks : Asks) (xs : List Expr) → AllByRecursion Calm xs → Tells (Each (λ part. Typed scope part asks) xs)
each_calm scope asks xs all = each_step (λ part. Typed scope part asks) xs (every Calm (λ e. Tells (Typed scope e asks)) (λ e calm. calm scope asks) xs all)

pub or_calm : (parts : List Expr) → AllByRecursion Calm parts → Calm (expr.Or parts)
or_calm parts all = layer_calm (Expr-F.Or parts) (expr.Or parts) (expr.rolls-Or parts) (λ scope leaf. made _ (Each (λ part. Typed scope part asks_bool) parts) (each_calm scope asks_bool parts all))

pub and_calm : (parts : List Expr) → AllByRecursion Calm parts → Calm (expr.And parts)
and_calm parts all = layer_calm (Expr-F.And parts) (expr.And parts) (expr.rolls-And parts) (λ scope leaf. made _ (Each (λ part. Typed scope part asks_bool) parts) (each_calm scope asks_bool parts all))

pub concat_calm : (parts : List Expr) → AllByRecursion Calm parts → Calm (expr.Concat parts)
concat_calm parts all = layer_calm (Expr-F.Concat parts) (expr.Concat parts) (expr.rolls-Concat parts) (λ scope leaf. made _ (Each (λ part. Typed scope part asks_text) parts) (each_calm scope asks_text parts all))

pub not_calm : (e : Expr) → Calm e → Calm (expr.Not e)
not_calm e calm = layer_calm (Expr-F.Not e) (expr.Not e) (expr.rolls-Not e) (λ scope leaf. made _ (Typed scope e asks_bool) (calm scope asks_bool))

pub tests_calm : (e : Expr) (tests : List Truth) → Calm e → Calm (expr.IsNull e tests)
tests_calm e tests calm = layer_calm (Expr-F.IsNull e tests) (expr.IsNull e tests) (expr.rolls-IsNull e tests) (λ scope leaf. made _ (Typed scope e asks_nothing) (calm scope asks_nothing))

pub compare_calm : (how : Comparison) (left right : Expr) → Calm left → Calm right → Calm (expr.Compare how left right)
compare_calm how left right l r =
    layer_calm (Expr-F.Compare how left right) (expr.Compare how left right) (expr.rolls-Compare how left right) (λ scope leaf known.
    goes_on (Typed scope left (asks_beside (own_kind scope known right))) (ComparedWith (Typed scope) how right) (l scope (asks_beside (own_kind scope known right)))
    (λ a. made (λ b. truth (form.Compare how a b)) (Typed scope right (asks_like a.kind)) (r scope (asks_like a.kind))) known)

pub member_calm : (e : Expr) (negated : Truth) (entries : List Expr) → Calm e → AllByRecursion Calm entries → Calm (expr.Member e negated entries)
member_calm e negated entries calm all =
    layer_calm (Expr-F.Member e negated entries) (expr.Member e negated entries) (expr.rolls-Member e negated entries) (λ scope leaf known.
    let first = first_kind (own_kind scope known e ∷ map (own_kind scope known) entries) in
    goes_on (Typed scope e (asks_beside first)) (EntriesOf (Typed scope) negated first entries) (calm scope (asks_beside first))
    (λ a. made (λ bs. truth (form.Member a negated bs)) (Each (λ entry. Typed scope entry (asks_entry first a.kind)) entries) (each_calm scope (asks_entry first a.kind) entries all)) known)

parts_tell : {P Q : Type 0} (at : P → Place) (make : P → TypedExpr → Q) (kind_of : Q → ColType) (form : TypedExpr → List Q → TypedForm) (ps : List P) → AllByRecursion (λ p. (asks : Asks) → Tells (at p asks)) ps → (a : TypedExpr) → Tells (Parts at make kind_of form ps a)
parts_tell at make kind_of form ps all a =
    made (λ x. typed x.0 (form a x.1)) (Others at make kind_of a.kind ps)
    (made _ (Walk (PartOf at make) (behind_part kind_of) a.kind ps) (walk (PartOf at make) (behind_part kind_of) ps
    (every (λ p. (asks : Asks) → Tells (at p asks)) (λ p. (kind : ColType) → Tells (PartOf at make kind p)) (λ p tells kind. made (make p) (at p (asks_number (Some kind))) (tells (asks_number (Some kind)))) ps all) a.kind))

pub sum_calm : (e : Expr) (parts : List SumPart) → Calm e → AllByRecursion (λ s. Calm s.part) parts → Calm (expr.Sum e parts)
sum_calm e parts calm all =
    layer_calm (Expr-F.Sum e parts) (expr.Sum e parts) (expr.rolls-Sum e parts) (λ scope leaf known.
    let next = own_of_first (λ (s : SumPart). own_kind scope known s.part) parts in
    goes_on (Typed scope e (asks_number next)) (Parts (λ (s : SumPart). Typed scope s.part) summand_of (λ (q : TypedSumPart). q.part.kind) (λ e qs. form.Sum e qs) parts) (calm scope (asks_number next))
    (parts_tell (λ (s : SumPart). Typed scope s.part) summand_of (λ (q : TypedSumPart). q.part.kind) (λ e qs. form.Sum e qs) parts (every (λ s. Calm s.part) (λ (s : SumPart). (asks : Asks) → Tells (Typed scope s.part asks)) (λ s calm. calm scope) parts all)) known)

pub product_calm : (e : Expr) (parts : List ProductPart) → Calm e → AllByRecursion (λ p. Calm p.part) parts → Calm (expr.Product e parts)
product_calm e parts calm all =
    layer_calm (Expr-F.Product e parts) (expr.Product e parts) (expr.rolls-Product e parts) (λ scope leaf known.
    let next = own_of_first (λ (p : ProductPart). own_kind scope known p.part) parts in
    goes_on (Typed scope e (asks_number next)) (Parts (λ (p : ProductPart). Typed scope p.part) factor_of (λ (q : TypedProductPart). q.part.kind) (λ e qs. form.Product e qs) parts) (calm scope (asks_number next))
    (parts_tell (λ (p : ProductPart). Typed scope p.part) factor_of (λ (q : TypedProductPart). q.part.kind) (λ e qs. form.Product e qs) parts (every (λ p. Calm p.part) (λ (p : ProductPart). (asks : Asks) → Tells (Typed scope p.part asks)) (λ p calm. calm scope) parts all)) known)

negative_tells : (scope : Scope) (least : Truth) (e : Expr) → Calm e → Tells (Negative least (Typed scope) e)
negative_tells scope true e calm = gives _
negative_tells scope false e calm = made _ (Typed scope e (asks_number None)) (calm scope (asks_number None))

pub minus_calm : (e : Expr) → Calm e → Calm (expr.Minus e)
minus_calm e calm = layer_calm (Expr-F.Minus e) (expr.Minus e) (expr.rolls-Minus e) (λ scope leaf. negative_tells scope (own scope [] e).least_int4 e calm)
