-- What an expression is at its place is one.
use Rattle.std.proofs.Common.{◌≡◌, ◌∙◌, ℕ, List, [], ◌∷◌, map, true, false, ap, sym, subst, inl, inr}
use Rattle.std.specs.Prelude.{◌⊎◌, Bool as Truth, Option, Some, None, Ok, Err, pos, neg_ℤ}
use Rattle.std.specs.List.{AllByRecursion}
use Rattle.pg_values.specs.declared.col_type.ColType.{ColType}
use Rattle.pg_values.specs.declared.col_type.ColType.TheVariants as kind
use Rattle.pg_values.specs.declared.value.Value.{Value}
use Rattle.pg_values.specs.declared.value.Value.TheVariants as value
use Rattle.pg_values.specs.Answers.{ReadsText, RefusesText}
use Rattle.pg_values.proofs.Exactness.{reads_once, reads_never, refuses_once}
use Rattle.sql_tree.specs.declared.expr.Comparison.{Comparison}
use Rattle.sql_tree.specs.declared.expr.Expr.{Expr, roll-Expr, map-Expr, out-roll-Expr}
use Rattle.sql_tree.specs.declared.expr.Expr.TheOpen.{Expr-F, ProductPart-F, SumPart-F}
use Rattle.sql_tree.specs.declared.expr.Expr.TheFolds.{ind-Expr}
use Rattle.sql_tree.specs.declared.expr.SumPart.{SumPart}
use Rattle.sql_tree.specs.declared.expr.ProductPart.{ProductPart}
use Rattle.typed_sql.specs.declared.asks.Asks.{Asks}
use Rattle.typed_sql.specs.declared.typed.TypedExpr.{TypedExpr}
use Rattle.typed_sql.specs.declared.typed.TypedForm.{TypedForm}
use Rattle.typed_sql.specs.declared.typed.TypedForm.TheVariants as form
use Rattle.typed_sql.specs.declared.typed.TypedSumPart.{TypedSumPart}
use Rattle.typed_sql.specs.declared.typed.TypedProductPart.{TypedProductPart}
use Rattle.typed_sql.specs.Places.{number_kind, takes, asks_bool, asks_text, asks_nothing, asks_number, asks_beside, asks_like, asks_entry}
use Rattle.typed_sql.specs.Own.{Scope, own, own_kind, joined_kind, first_kind, column_meant}
use Rattle.typed_sql.specs.Steps.{Known, fault, Answer, Then, Walk, reached, Each, Told, known_kind}
use Rattle.typed_sql.specs.Typing.{Place, Typed, Layer, Form, Fits, fitting, Compared, ComparedWith, AmongBeside, EntriesOf, Parts, Others, PartOf, behind_part, Negative, Parameter, parameter_of, String, TextForm, number_of, column_expr, literal, typed, truth, moment, own_of_first, summand_of, factor_of}
use Rattle.typed_sql.specs.Meaning.{under}
use Rattle.typed_sql.proofs.Forms.{typed_is}
use Rattle.statement_laws.proofs.Singles.{Single, gives, told, followed, made, walk, every_of, for_each}

-- ---- leaves

abbrev read_as : ColType → Known → Value → Answer TypedExpr
read_as k known v = Ok (literal k v, known)

abbrev refused_by : List ℕ → Answer TypedExpr
refused_by code = Err (fault code [])

-- a text form is read as one value, or refused with one code
text_at : (k : ColType) (text : List ℕ) (known : Known) (a b : Answer TypedExpr)
    → ((read : Value) × ReadsText k text read × (a ≡ Ok (literal k read, known))) ⊎ ((code : List ℕ) × RefusesText k text code × (a ≡ Err (fault code [])))
    → ((read : Value) × ReadsText k text read × (b ≡ Ok (literal k read, known))) ⊎ ((code : List ℕ) × RefusesText k text code × (b ≡ Err (fault code [])))
    → a ≡ b
text_at k text known a b (inl x) (inl y) = x.2 ∙ ap (read_as k known) (reads_once k text x.0 y.0 x.1 y.1) ∙ sym y.2
text_at k text known a b (inl x) (inr y) = absurd (reads_never k text x.0 y.0 x.1 y.1)
text_at k text known a b (inr x) (inl y) = absurd (reads_never k text y.0 x.0 y.1 x.1)
text_at k text known a b (inr x) (inr y) = x.2 ∙ ap refused_by (refuses_once k text x.0 y.0 x.1 y.1) ∙ sym y.2

text_one : (k : ColType) (text : List ℕ) → Single (TextForm k text)
text_one k text known a b p q = text_at k text known a b p q

string_one : (leaf : ColType) (text : List ℕ) → Single (String leaf text)
string_one kind.Text text = gives (literal kind.Text (value.Text text))
string_one kind.Bool text = text_one kind.Bool text
string_one kind.Int4 text = text_one kind.Int4 text
string_one kind.Int8 text = text_one kind.Int8 text
string_one kind.Moment text = text_one kind.Moment text

given_one : (leaf : ColType) (n : ℕ) (k : Option ColType) → Single (parameter_of leaf n k)
given_one leaf n (Some k) known a b p q = p ∙ sym q
given_one leaf n None known a b p q = p ∙ sym q

parameter_one : (may : Truth) (leaf : ColType) (n : ℕ) → Single (Parameter may leaf n)
parameter_one true leaf n known a b p q = given_one leaf n (known_kind n known) known a b p q
parameter_one false leaf n known a b p q = p ∙ sym q

-- ---- chains

module _ {P Q : Type 0} (at : P → Place) (make : P → TypedExpr → Q) (kind_of : Q → ColType) where
  parts_one : (ps : List P) → AllByRecursion (λ p. (asks : Asks) → Single (at p asks)) ps → AllByRecursion (λ p. (k : ColType) → Single (PartOf at make k p)) ps
  parts_one [] all = tt
  parts_one (p ∷ ps) all = (λ k. made (make p) (at p (asks_number (Some k))) (all.0 (asks_number (Some k))), parts_one ps all.1)

  abbrev chained : ColType → List Q → ColType × List Q
  chained k qs = (reached (behind_part kind_of) k qs, qs)

  others_one : (ps : List P) → AllByRecursion (λ p. (asks : Asks) → Single (at p asks)) ps → (k : ColType) → Single (Others at make kind_of k ps)
  others_one ps all k =
      made (chained k) (Walk (PartOf at make) (behind_part kind_of) k ps) (walk (PartOf at make) (behind_part kind_of) ps (parts_one ps all) k)

  -- the first operand, and the others
  pub chain_one : (shape : TypedExpr → List Q → TypedForm) (first : Place) → ((asks : Asks) → Single (first asks))
      → (ps : List P) → AllByRecursion (λ p. (asks : Asks) → Single (at p asks)) ps → (beside : Option ColType)
      → Single (Then (first (asks_number beside)) (Parts at make kind_of shape ps))
  chain_one shape first one ps all beside =
      followed (first (asks_number beside)) (Parts at make kind_of shape ps) (one (asks_number beside))
      (λ a. made (λ (x : ColType × List Q). typed x.0 (shape a x.1)) (Others at make kind_of a.kind ps) (others_one ps all a.kind))

module _ (scope : Scope) where
  -- an expression, whatever its place asks
  abbrev pub IsOne : Expr → Type 0
  IsOne e = (asks : Asks) → Single (Typed scope e asks)

  rolled : (d : Expr-F Expr ProductPart SumPart) → Typed scope (roll-Expr d) ≡ Layer scope (under scope) d
  rolled d = typed_is scope (roll-Expr d) ∙ ap (λ (x : Expr-F Expr ProductPart SumPart). Layer scope (under scope) x) (out-roll-Expr d)

  layer_one : (d : Expr-F Expr ProductPart SumPart) → ((leaf : ColType) → Single (Form scope (under scope) d leaf)) → (asks : Asks) → Single (Typed scope (roll-Expr d) asks)
  layer_one d one asks =
      subst (λ (at : Place). Single (at asks)) (sym (rolled d))
      (followed (Form scope (under scope) d asks.leaf) (Fits asks) (one asks.leaf) (λ e. told (fitting (takes asks.takes e.kind) e)))

  -- ---- forms

  negative_one : (least : Truth) (e : Expr) → IsOne e → Single (Negative least (Typed scope) e)
  negative_one true e one = gives (literal kind.Int4 (value.Int4 (neg_ℤ (pos 2147483648))))
  negative_one false e one = made (λ x. typed (joined_kind (Some x.kind) None) (form.Minus x)) (Typed scope e (asks_number None)) (one (asks_number None))

  compared_one : (how : Comparison) (a b : Expr) → IsOne a → IsOne b → Single (Compared (λ known x. own_kind scope known x) (Typed scope) how a b)
  compared_one how a b left right known =
      followed (Typed scope a (asks_beside (own_kind scope known b))) (ComparedWith (Typed scope) how b) (left (asks_beside (own_kind scope known b)))
      (λ x. made (λ y. truth (form.Compare how x y)) (Typed scope b (asks_like x.kind)) (right (asks_like x.kind))) known

  among_one : (negated : Truth) (a : Expr) (es : List Expr) → IsOne a → ((asks : Asks) → AllByRecursion (λ e. Single (Typed scope e asks)) es)
      → (first : Option ColType) → Single (AmongBeside (Typed scope) negated a es first)
  among_one negated a es left others first =
      followed (Typed scope a (asks_beside first)) (EntriesOf (Typed scope) negated first es) (left (asks_beside first))
      (λ x. made (λ ts. truth (form.Member x negated ts)) (Each (λ entry. Typed scope entry (asks_entry first x.kind)) es)
      (for_each (λ entry. Typed scope entry (asks_entry first x.kind)) es (others (asks_entry first x.kind))))

  module _ {X P S : Type 0} (e_of : X → Expr) (p_of : P → ProductPart) (s_of : S → SumPart) (ex : (x : X) → IsOne (e_of x)) (py : (p : P) → IsOne (p_of p).part) (sz : (s : S) → IsOne (s_of s).part) where
    ones : (xs : List X) (asks : Asks) → AllByRecursion (λ e. Single (Typed scope e asks)) (map e_of xs)
    ones xs asks = every_of e_of (λ e. Single (Typed scope e asks)) (λ x. ex x asks) xs

    form_one : (y : Expr-F X P S) (leaf : ColType) → Single (Form scope (under scope) (map-Expr X P S Expr ProductPart SumPart e_of p_of s_of y) leaf)
    form_one (Expr-F.Or parts) leaf =
        made (λ ts. truth (form.Or ts)) (Each (λ part. Typed scope part asks_bool) (map e_of parts)) (for_each (λ part. Typed scope part asks_bool) (map e_of parts) (ones parts asks_bool))
    form_one (Expr-F.And parts) leaf =
        made (λ ts. truth (form.And ts)) (Each (λ part. Typed scope part asks_bool) (map e_of parts)) (for_each (λ part. Typed scope part asks_bool) (map e_of parts) (ones parts asks_bool))
    form_one (Expr-F.Not x) leaf = made (λ t. truth (form.Not t)) (Typed scope (e_of x) asks_bool) (ex x asks_bool)
    form_one (Expr-F.IsNull x tests) leaf = made (λ t. truth (form.IsNull t tests)) (Typed scope (e_of x) asks_nothing) (ex x asks_nothing)
    form_one (Expr-F.Compare how x y) leaf = compared_one how (e_of x) (e_of y) (ex x) (ex y)
    form_one (Expr-F.Member x negated parts) leaf = λ known.
        among_one negated (e_of x) (map e_of parts) (ex x) (ones parts) (first_kind (own_kind scope known (e_of x) ∷ map (own_kind scope known) (map e_of parts))) known
    form_one (Expr-F.Concat parts) leaf =
        made (λ ts. typed kind.Text (form.Concat ts)) (Each (λ part. Typed scope part asks_text) (map e_of parts)) (for_each (λ part. Typed scope part asks_text) (map e_of parts) (ones parts asks_text))
    form_one (Expr-F.Sum x parts) leaf = λ known.
        chain_one (λ (s : SumPart). Typed scope s.part) summand_of (λ (q : TypedSumPart). q.part.kind) (λ e qs. form.Sum e qs) (Typed scope (e_of x)) (ex x)
        (map s_of parts) (every_of s_of (λ (s : SumPart). IsOne s.part) sz parts) (own_of_first (λ (s : SumPart). own_kind scope known s.part) (map s_of parts)) known
    form_one (Expr-F.Product x parts) leaf = λ known.
        chain_one (λ (p : ProductPart). Typed scope p.part) factor_of (λ (q : TypedProductPart). q.part.kind) (λ e qs. form.Product e qs) (Typed scope (e_of x)) (ex x)
        (map p_of parts) (every_of p_of (λ (p : ProductPart). IsOne p.part) py parts) (own_of_first (λ (p : ProductPart). own_kind scope known p.part) (map p_of parts)) known
    form_one (Expr-F.Minus x) leaf = negative_one (own scope [] (e_of x)).least_int4 (e_of x) (ex x)
    form_one (Expr-F.Int n) leaf = gives (number_of (number_kind n) n)
    form_one (Expr-F.Str text) leaf = string_one leaf text
    form_one (Expr-F.Bool given) leaf = gives (literal kind.Bool (value.Bool given))
    form_one Expr-F.Null leaf = gives (literal leaf value.Null)
    form_one (Expr-F.Param n) leaf = parameter_one scope.parameters leaf n
    form_one (Expr-F.Column qualifier name) leaf = made column_expr (Told (column_meant scope qualifier name)) (told (column_meant scope qualifier name))
    form_one Expr-F.CurrentTimestamp leaf = gives (moment form.CurrentTimestamp)
    form_one Expr-F.Now leaf = gives (moment form.Now)
    form_one Expr-F.TransactionTimestamp leaf = gives (moment form.TransactionTimestamp)
    form_one (Expr-F.Moment text) leaf = text_one kind.Moment text

  from_layer : {X P S : Type 0} (y : Expr-F X P S) (e_of : X → Expr) (p_of : P → ProductPart) (s_of : S → SumPart)
      → ((x : X) → IsOne (e_of x)) → ((p : P) → IsOne (p_of p).part) → ((s : S) → IsOne (s_of s).part)
      → IsOne (roll-Expr (map-Expr X P S Expr ProductPart SumPart e_of p_of s_of y))
  from_layer {X} {P} {S} y e_of p_of s_of ex py sz =
      layer_one (map-Expr X P S Expr ProductPart SumPart e_of p_of s_of y) (form_one e_of p_of s_of ex py sz y)

  -- every expression
  pub one : (e : Expr) → IsOne e
  one = ind-Expr IsOne (λ p. IsOne p.part) (λ s. IsOne s.part)
      (λ x y is. subst (λ (z : Expr-F Expr ProductPart SumPart). IsOne (roll-Expr z)) is (from_layer y (λ e. e.0) (λ p. p.0) (λ s. s.0) (λ e. e.1) (λ p. p.1) (λ s. s.1)))
      (λ x y is. subst (λ (z : ProductPart-F Expr ProductPart SumPart). IsOne z.part) is y.part.1)
      (λ x y is. subst (λ (z : SumPart-F Expr ProductPart SumPart). IsOne z.part) is y.part.1)
