-- An expression whose parts are said is said by the form of their spellings.
use Rattle.std.proofs.Common.{◌≡◌, ◌∙◌, ◌≤◌, ◌⊎◌, inl, inr, List, [], ◌∷◌, length, map, refl, ap, sym, subst, arith}
use Rattle.std.specs.Prelude.{Bool as Truth, true, false, Option, Some, None, Ok, if◌then◌else◌}
use Rattle.std.proofs.lemmas.Option.{none-some}
use Rattle.pg_values.specs.declared.col_type.ColType.{ColType}
use Rattle.pg_values.specs.declared.col_type.ColType.TheVariants as kind
use Rattle.schema.specs.declared.catalogue.ColumnDef.{ColumnDef}
use Rattle.sql_tree.specs.declared.expr.Comparison.{Comparison}
use Rattle.sql_tree.specs.declared.expr.Expr.{Expr, out-Expr}
use Rattle.sql_tree.specs.declared.expr.Expr.TheOpen.{Expr-F}
use Rattle.sql_tree.specs.declared.expr.Expr.TheVariants as expr
use Rattle.sql_tree.specs.declared.expr.SumPart.{SumPart}
use Rattle.sql_tree.specs.declared.expr.ProductPart.{ProductPart}
use Rattle.typed_sql.specs.declared.asks.Asks.{Asks}
use Rattle.typed_sql.specs.declared.typed.TypedExpr.{TypedExpr}
use Rattle.typed_sql.specs.declared.typed.TypedForm.TheVariants as form
use Rattle.typed_sql.specs.declared.typed.TypedSumPart.{TypedSumPart}
use Rattle.typed_sql.specs.declared.typed.TypedProductPart.{TypedProductPart}
use Rattle.typed_sql.specs.Places.{are_alike, asks_beside, asks_bool, asks_entry, asks_like, asks_nothing, asks_number, asks_text, is_whole, or_text}
use Rattle.typed_sql.specs.Own.{Own, Scope, chained_kind, first_kind, joined_kind, minus_kind, of_kind, own, own_kind}
use Rattle.typed_sql.specs.Steps.{Known, Each, Walk, reached}
use Rattle.typed_sql.specs.Typing.{AmongBeside, ChainBeside, ComparedWith, EntriesOf, Form, Negative, Others, PartOf, Parts, Place, Typed, behind_part, factor_of, own_of_first, summand_of, truth, typed}
use Rattle.typed_sql.specs.Meaning.{under}
use Rattle.typed_sql.proofs.Layers.{out_and, out_compare, out_concat, out_is_null, out_member, out_minus, out_not, out_or, out_product, out_sum}
use Rattle.typed_sql.proofs.OwnForms.{own_minus, own_product, own_sum}
use Rattle.sql_values.specs.Arithmetic.{negative}
use Rattle.sql_values.specs.Logic.{junction, member, opposite, tested}
use Rattle.sql_values.specs.Meaning.{Around, product_of, sum_of, text_of, value_in}
use Rattle.sql_values.specs.Order.{compared}
use Rattle.sql_values.specs.Outcome.{Outcome, behind, made as made_of, of_both}
use Rattle.checked_print.specs.Spelled.{spelled, spelled_factor, spelled_summand}
use Rattle.statement_laws.proofs.Claims.{Again, Said, SameValue, Spoken, at_place, formed, free_place, like_place, number_place, place}
use Rattle.statement_laws.proofs.Alike.{HasWhole, alike_refl, alike_sym, alike_text, alike_trans, chained_whole, joined_whole, reached_whole, wholes_alike}
use Rattle.statement_laws.proofs.Own.{own_and, own_compare, own_concat, own_is_null, own_member, own_not, own_or}
use Rattle.statement_laws.proofs.Sure.{All, Pairs, Sure, all_map, along, each, followed, made, pairs_map, walk}
use Rattle.statement_laws.proofs.Values.{at_and, at_compare, at_concat, at_is_null, at_member, at_minus, at_not, at_or, at_product, at_sum, factor_in, summand_in}

pub values_same : (es ys : List TypedExpr) (around : Around) → Pairs SameValue es ys → map (value_in around) ys ≡ map (value_in around) es
values_same es ys around all = pairs_map SameValue (value_in around) (value_in around) (λ e y same. same around) es ys all

module _ (scope : Scope) (known : Known) where
  -- an expression whose spelling has a whole number's type of itself, and which is one
  pub chain_said : (e : TypedExpr) (x : Expr) (d : Expr-F Expr ProductPart SumPart) → HasWhole (own_kind scope known x) → out-Expr x ≡ d → is_whole e.kind ≡ true
      → ((leaf : ColType) → Sure (Again (λ j. is_whole j ≡ true) e) known (Form scope (under scope) d leaf)) → Said scope known e x
  chain_said e x d own out whole form =
      formed scope known e x d own.0 own.1 out (wholes_alike e.kind own.0 whole own.2)
      (λ leaf. along (Again (λ j. is_whole j ≡ true) e) (Again (λ j. are_alike own.0 j ≡ true) e) known (Form scope (under scope) d leaf) (form leaf)
      (λ y is. (wholes_alike own.0 y.kind own.2 is.0, is.1)))

  -- ---- minus

  -- an expression as it is spelled behind a minus
  abbrev pub IsNegated : TypedExpr → Expr → Type 0
  IsNegated a x = ((own scope [] x).least_int4 ≡ false) × Sure (Again (λ j. is_whole j ≡ true) a) known (Typed scope x (asks_number None))

  negative_by : (least : Truth) (e a : TypedExpr) (x : Expr) → least ≡ false → e.form ≡ form.Minus a → Sure (Again (λ j. is_whole j ≡ true) a) known (Typed scope x (asks_number None))
      → Sure (Again (λ j. is_whole j ≡ true) e) known (Negative least (Typed scope) x)
  negative_by true e a x not is sure = absurd (let f : true ≡ false = not in cc)
  negative_by false e a x not is sure =
      made (Again (λ j. is_whole j ≡ true) a) (Again (λ j. is_whole j ≡ true) e) known (Typed scope x (asks_number None))
      (λ y. typed (joined_kind (Some y.kind) None) (form.Minus y)) sure
      (λ y same. (
        joined_whole (Some y.kind) None,
        λ around.
            at_minus around (typed (joined_kind (Some y.kind) None) (form.Minus y)) y refl
            ∙ (ap (λ (o : Outcome). behind o negative) (same.1 around) ∙ sym (at_minus around e a is)),
      ))

  minus_whole : (o : Own) → is_whole (minus_kind o) ≡ true
  minus_whole o = by_least o.least_int4
    where
      by_least : (b : Truth) → is_whole (if b then kind.Int4 else joined_kind o.kind None) ≡ true
      by_least true = refl
      by_least false = joined_whole o.kind None

  pub minus_said : (e a : TypedExpr) (x : Expr) → e.form ≡ form.Minus a → is_whole e.kind ≡ true → IsNegated a x → Said scope known e (expr.Minus x)
  minus_said e a x is of negated =
      chain_said e (expr.Minus x) (Expr-F.Minus x)
      (minus_kind (own scope known x), ap (λ (o : Own). o.kind) (own_minus scope known x), minus_whole (own scope known x)) (out_minus x) of
      (λ leaf. negative_by (own scope [] x).least_int4 e a x negated.0 is negated.1)

own_whole : {o : Own} {p : Option ColType} → o ≡ of_kind p → HasWhole p → HasWhole o.kind
own_whole is whole = (whole.0, ap (λ (o : Own). o.kind) is ∙ whole.1, whole.2)

module _ (scope : Scope) (known : Known) (columns : List ColumnDef) where
  abbrev pub IsSaid : TypedExpr → Type 0
  IsSaid e = Said scope known e (spelled columns e)

  -- parts of one type
  abbrev pub AreSaid : ColType → List TypedExpr → Type 0
  AreSaid k es = All (λ e. IsSaid e × (are_alike k e.kind ≡ true)) es

  parts_sure : (k : ColType) (es : List TypedExpr) → AreSaid k es
      → Sure (λ ys. Pairs SameValue es ys) known (Each (λ part. Typed scope part (place k)) (map (spelled columns) es))
  parts_sure k es all =
      each SameValue (spelled columns) (λ part. Typed scope part (place k)) known es
      (all_map (λ e. IsSaid e × (are_alike k e.kind ≡ true)) (λ e. Sure (SameValue e) known (Typed scope (spelled columns e) (place k)))
      (λ e is. along (Again (λ j. are_alike k j ≡ true) e) (SameValue e) known (Typed scope (spelled columns e) (place k))
      (like_place scope known k e (spelled columns e) is.0 is.1) (λ y same. same.1)) es all)

  pub or_said : (e : TypedExpr) (es : List TypedExpr) → e.form ≡ form.Or es → e.kind ≡ kind.Bool → AreSaid kind.Bool es
      → Said scope known e (expr.Or (map (spelled columns) es))
  or_said e es is of all =
      formed scope known e (expr.Or (map (spelled columns) es)) (Expr-F.Or (map (spelled columns) es)) kind.Bool
      (ap (λ (o : Own). o.kind) (own_or scope known (map (spelled columns) es))) (out_or (map (spelled columns) es)) (ap (λ (k : ColType). are_alike k kind.Bool) of)
      (λ leaf. made (λ ys. Pairs SameValue es ys) (Again (λ j. are_alike kind.Bool j ≡ true) e) known
      (Each (λ part. Typed scope part asks_bool) (map (spelled columns) es)) (λ ys. truth (form.Or ys)) (parts_sure kind.Bool es all)
      (λ ys same. (
        refl,
        λ around.
            at_or around (truth (form.Or ys)) ys refl ∙ (ap (junction true) (values_same es ys around same) ∙ sym (at_or around e es is)),
      )))

  pub and_said : (e : TypedExpr) (es : List TypedExpr) → e.form ≡ form.And es → e.kind ≡ kind.Bool → AreSaid kind.Bool es
      → Said scope known e (expr.And (map (spelled columns) es))
  and_said e es is of all =
      formed scope known e (expr.And (map (spelled columns) es)) (Expr-F.And (map (spelled columns) es)) kind.Bool
      (ap (λ (o : Own). o.kind) (own_and scope known (map (spelled columns) es))) (out_and (map (spelled columns) es)) (ap (λ (k : ColType). are_alike k kind.Bool) of)
      (λ leaf. made (λ ys. Pairs SameValue es ys) (Again (λ j. are_alike kind.Bool j ≡ true) e) known
      (Each (λ part. Typed scope part asks_bool) (map (spelled columns) es)) (λ ys. truth (form.And ys)) (parts_sure kind.Bool es all)
      (λ ys same. (
        refl,
        λ around.
            at_and around (truth (form.And ys)) ys refl ∙ (ap (junction false) (values_same es ys around same) ∙ sym (at_and around e es is)),
      )))

  pub concat_said : (e : TypedExpr) (es : List TypedExpr) → e.form ≡ form.Concat es → e.kind ≡ kind.Text → AreSaid kind.Text es
      → Said scope known e (expr.Concat (map (spelled columns) es))
  concat_said e es is of all =
      formed scope known e (expr.Concat (map (spelled columns) es)) (Expr-F.Concat (map (spelled columns) es)) kind.Text
      (ap (λ (o : Own). o.kind) (own_concat scope known (map (spelled columns) es))) (out_concat (map (spelled columns) es)) (ap (λ (k : ColType). are_alike k kind.Text) of)
      (λ leaf. made (λ ys. Pairs SameValue es ys) (Again (λ j. are_alike kind.Text j ≡ true) e) known
      (Each (λ part. Typed scope part asks_text) (map (spelled columns) es)) (λ ys. typed kind.Text (form.Concat ys)) (parts_sure kind.Text es all)
      (λ ys same. (
        refl,
        λ around.
            at_concat around (typed kind.Text (form.Concat ys)) ys refl ∙ (ap text_of (values_same es ys around same) ∙ sym (at_concat around e es is)),
      )))

  pub not_said : (e a : TypedExpr) → e.form ≡ form.Not a → e.kind ≡ kind.Bool → IsSaid a → are_alike kind.Bool a.kind ≡ true
      → Said scope known e (expr.Not (spelled columns a))
  not_said e a is of said alike =
      formed scope known e (expr.Not (spelled columns a)) (Expr-F.Not (spelled columns a)) kind.Bool
      (ap (λ (o : Own). o.kind) (own_not scope known (spelled columns a))) (out_not (spelled columns a)) (ap (λ (k : ColType). are_alike k kind.Bool) of)
      (λ leaf. made (Again (λ j. are_alike kind.Bool j ≡ true) a) (Again (λ j. are_alike kind.Bool j ≡ true) e) known
      (Typed scope (spelled columns a) asks_bool) (λ y. truth (form.Not y)) (like_place scope known kind.Bool a (spelled columns a) said alike)
      (λ y same. (
        refl,
        λ around.
            at_not around (truth (form.Not y)) y refl ∙ (ap (made_of opposite) (same.1 around) ∙ sym (at_not around e a is)),
      )))

  pub is_null_said : (e a : TypedExpr) (tests : List Truth) → e.form ≡ form.IsNull a tests → e.kind ≡ kind.Bool → IsSaid a
      → Said scope known e (expr.IsNull (spelled columns a) tests)
  is_null_said e a tests is of said =
      formed scope known e (expr.IsNull (spelled columns a) tests) (Expr-F.IsNull (spelled columns a) tests) kind.Bool
      (ap (λ (o : Own). o.kind) (own_is_null scope known (spelled columns a) tests)) (out_is_null (spelled columns a) tests) (ap (λ (k : ColType). are_alike k kind.Bool) of)
      (λ leaf. made (SameValue a) (Again (λ j. are_alike kind.Bool j ≡ true) e) known
      (Typed scope (spelled columns a) asks_nothing) (λ y. truth (form.IsNull y tests)) (free_place scope known a (spelled columns a) said)
      (λ y same. (
        refl,
        λ around.
            at_is_null around (truth (form.IsNull y tests)) y tests refl ∙ (ap (made_of (λ v. tested v tests)) (same around) ∙ sym (at_is_null around e a tests is)),
      )))

  -- ---- comparison

  -- what the left operand becomes beside the right one
  left_by : (a b : TypedExpr) (x y : Expr) (o p : Option ColType) → Spoken scope known a x o → Spoken scope known b y p → are_alike a.kind b.kind ≡ true
      → Sure (Again (λ j. ((o ≡ None) × (j ≡ or_text p)) ⊎ (are_alike a.kind j ≡ true)) a) known (Typed scope x (asks_beside p))
  left_by a b x y None p first second alike =
      along (Again (λ j. j ≡ or_text p) a) (Again (λ j. ((None ≡ None) × (j ≡ or_text p)) ⊎ (are_alike a.kind j ≡ true)) a) known (Typed scope x (asks_beside p))
      (first (asks_beside p) refl (λ is. text_by p second (alike_text a.kind b.kind alike is)))
      (λ z same. (inl (refl, same.0), same.1))
    where
      text_by : (p : Option ColType) → Spoken scope known b y p → b.kind ≡ kind.Text → or_text p ≡ kind.Text
      text_by None second is = refl
      text_by (Some k) second is = alike_text b.kind k second.0 is
  left_by a b x y (Some k) p first second alike =
      along (Again (λ j. are_alike a.kind j ≡ true) a) (Again (λ j. ((Some k ≡ None) × (j ≡ or_text p)) ⊎ (are_alike a.kind j ≡ true)) a) known (Typed scope x (asks_beside p))
      (first.1 (asks_beside p) refl) (λ z same. (inr same.0, same.1))

  -- the right operand behind it
  right_by : (a b : TypedExpr) (y : Expr) (j : ColType) (p : Option ColType) → Spoken scope known b y p → are_alike a.kind b.kind ≡ true
      → (j ≡ or_text p) ⊎ (are_alike a.kind j ≡ true) → Sure (SameValue b) known (Typed scope y (asks_like j))
  right_by a b y j None second alike first =
      along (Again (λ i. i ≡ j) b) (SameValue b) known (Typed scope y (asks_like j))
      (second (asks_like j) (alike_refl j) (λ is. text_by first (alike_text b.kind a.kind (alike_sym a.kind b.kind alike) is))) (λ z same. same.1)
    where
      text_by : (j ≡ kind.Text) ⊎ (are_alike a.kind j ≡ true) → a.kind ≡ kind.Text → j ≡ kind.Text
      text_by (inl same) is = same
      text_by (inr like) is = alike_text a.kind j like is
  right_by a b y j (Some k) second alike first =
      along (Again (λ i. are_alike b.kind i ≡ true) b) (SameValue b) known (Typed scope y (asks_like j))
      (second.1 (asks_like j) (fits_by first)) (λ z same. same.1)
    where
      fits_by : (j ≡ k) ⊎ (are_alike a.kind j ≡ true) → are_alike j b.kind ≡ true
      fits_by (inl same) = ap (λ (i : ColType). are_alike i b.kind) same ∙ alike_sym b.kind k second.0
      fits_by (inr like) = alike_trans j a.kind b.kind (alike_sym a.kind j like) alike

  or_left : {A B C : Type 0} → (A × B) ⊎ C → B ⊎ C
  or_left (inl both) = inl both.1
  or_left (inr c) = inr c

  pub compare_said : (e : TypedExpr) (how : Comparison) (a b : TypedExpr) → e.form ≡ form.Compare how a b → e.kind ≡ kind.Bool → IsSaid a → IsSaid b
      → are_alike a.kind b.kind ≡ true → Said scope known e (expr.Compare how (spelled columns a) (spelled columns b))
  compare_said e how a b is of first second alike =
      let x = spelled columns a in
      let y = spelled columns b in
      formed scope known e (expr.Compare how x y) (Expr-F.Compare how x y) kind.Bool
      (ap (λ (o : Own). o.kind) (own_compare scope known how x y)) (out_compare how x y) (ap (λ (k : ColType). are_alike k kind.Bool) of)
      (λ leaf.
      followed (Again (λ j. ((own_kind scope known x ≡ None) × (j ≡ or_text (own_kind scope known y))) ⊎ (are_alike a.kind j ≡ true)) a)
      (Again (λ j. are_alike kind.Bool j ≡ true) e) known (Typed scope x (asks_beside (own_kind scope known y))) (ComparedWith (Typed scope) how y)
      (left_by a b x y (own_kind scope known x) (own_kind scope known y) first second alike)
      (λ l same. made (SameValue b) (Again (λ j. are_alike kind.Bool j ≡ true) e) known (Typed scope y (asks_like l.kind)) (λ r. truth (form.Compare how l r))
      (right_by a b y l.kind (own_kind scope known y) second alike (or_left same.0))
      (λ r other. (
        refl,
        λ around.
            at_compare around (truth (form.Compare how l r)) how l r refl
            ∙ (ap (λ (o : Outcome). of_both (λ v w. Ok (compared how v w)) o (value_in around r)) (same.1 around)
            ∙ (ap (of_both (λ v w. Ok (compared how v w)) (value_in around a)) (other around) ∙ sym (at_compare around e how a b is))),
      ))))

  -- ---- IN

  -- none has a type of itself, or the first that has one is like the others
  abbrev FirstIs : ColType → List TypedExpr → Option ColType → Type 0
  FirstIs k es None = All (λ e. own_kind scope known (spelled columns e) ≡ None) es
  FirstIs k es (Some j) = are_alike k j ≡ true

  first_by : (k : ColType) (e : TypedExpr) (es : List TypedExpr) (o : Option ColType) → own_kind scope known (spelled columns e) ≡ o
      → Spoken scope known e (spelled columns e) o → are_alike k e.kind ≡ true → FirstIs k es (first_kind (map (own_kind scope known) (map (spelled columns) es)))
      → FirstIs k (e ∷ es) (first_kind (o ∷ map (own_kind scope known) (map (spelled columns) es)))
  first_by k e es (Some j) is said alike others = alike_trans k e.kind j alike said.0
  first_by k e es None is said alike others = more (first_kind (map (own_kind scope known) (map (spelled columns) es))) others
    where
      more : (f : Option ColType) → FirstIs k es f → FirstIs k (e ∷ es) f
      more None all = (is, all)
      more (Some j) like = like

  first_is : (k : ColType) (es : List TypedExpr) → AreSaid k es → FirstIs k es (first_kind (map (own_kind scope known) (map (spelled columns) es)))
  first_is k [] all = tt
  first_is k (e ∷ es) all = first_by k e es (own_kind scope known (spelled columns e)) refl all.0.0 all.0.1 (first_is k es all.1)

  -- where no operand has a type of itself they are texts
  bare_entries : (es : List TypedExpr) → All (λ e. IsSaid e) es → All (λ e. own_kind scope known (spelled columns e) ≡ None) es → (j : ColType) → j ≡ kind.Text
      → Sure (λ ys. Pairs SameValue es ys) known (Each (λ entry. Typed scope entry (asks_entry None j)) (map (spelled columns) es))
  bare_entries es all none j text =
      each SameValue (spelled columns) (λ entry. Typed scope entry (asks_entry None j)) known es (bare es all none)
    where
      bare_one : (e : TypedExpr) (o : Option ColType) → o ≡ None → Spoken scope known e (spelled columns e) o → Sure (SameValue e) known (Typed scope (spelled columns e) (asks_entry None j))
      bare_one e None is said =
          along (Again (λ i. i ≡ kind.Text) e) (SameValue e) known (Typed scope (spelled columns e) (asks_entry None j))
          (said (asks_entry None j) (ap (λ (i : ColType). are_alike i kind.Text) text) (λ same. refl)) (λ y same. same.1)
      bare_one e (Some i) is said = absurd (none-some i (sym is))

      bare : (es : List TypedExpr) → All (λ e. IsSaid e) es → All (λ e. own_kind scope known (spelled columns e) ≡ None) es
          → All (λ e. Sure (SameValue e) known (Typed scope (spelled columns e) (asks_entry None j))) es
      bare [] all none = tt
      bare (e ∷ es) all none = (bare_one e (own_kind scope known (spelled columns e)) none.0 all.0, bare es all.1 none.1)

  like_left : (a : TypedExpr) (k : ColType) (o : Option ColType) → Spoken scope known a (spelled columns a) o → are_alike a.kind k ≡ true
      → Sure (Again (λ j. are_alike a.kind j ≡ true) a) known (Typed scope (spelled columns a) (asks_beside (Some k)))
  like_left a k None said like =
      along (Again (λ j. j ≡ k) a) (Again (λ j. are_alike a.kind j ≡ true) a) known (Typed scope (spelled columns a) (asks_beside (Some k)))
      (said (asks_beside (Some k)) refl (λ is. alike_text a.kind k like is)) (λ y same. (ap (are_alike a.kind) same.0 ∙ like, same.1))
  like_left a k (Some own) said like = said.1 (asks_beside (Some k)) refl

  like_entries : (k : ColType) (es : List TypedExpr) → AreSaid k es → (i j : ColType) → are_alike k i ≡ true → are_alike k j ≡ true
      → Sure (λ ys. Pairs SameValue es ys) known (Each (λ entry. Typed scope entry (asks_entry (Some i) j)) (map (spelled columns) es))
  like_entries k es all i j leaf like =
      each SameValue (spelled columns) (λ entry. Typed scope entry (asks_entry (Some i) j)) known es
      (all_map (λ e. IsSaid e × (are_alike k e.kind ≡ true)) (λ e. Sure (SameValue e) known (Typed scope (spelled columns e) (asks_entry (Some i) j)))
      (λ e is. along (Again (λ t. are_alike j t ≡ true) e) (SameValue e) known (Typed scope (spelled columns e) (asks_entry (Some i) j))
      (at_place scope known e (spelled columns e) is.0 (asks_entry (Some i) j) (alike_trans j k i (alike_sym k j like) leaf) (alike_trans j k e.kind (alike_sym k j like) is.1)
      (λ text. alike_text k i leaf (alike_text e.kind k (alike_sym k e.kind is.1) text))) (λ y same. same.1)) es all)

  only_said : (k : ColType) (es : List TypedExpr) → AreSaid k es → All (λ e. IsSaid e) es
  only_said k es all = all_map (λ e. IsSaid e × (are_alike k e.kind ≡ true)) (λ e. IsSaid e) (λ e is. is.0) es all

  bare_left : (a : TypedExpr) (o : Option ColType) → o ≡ None → Spoken scope known a (spelled columns a) o
      → Sure (Again (λ j. j ≡ kind.Text) a) known (Typed scope (spelled columns a) (asks_beside None))
  bare_left a None is said = said (asks_beside None) refl (λ same. refl)
  bare_left a (Some i) is said = absurd (none-some i (sym is))

  module _ (e : TypedExpr) (a : TypedExpr) (negated : Truth) (es : List TypedExpr) (is : e.form ≡ form.Member a negated es) where
    member_same : (l : TypedExpr) (ys : List TypedExpr) → SameValue a l → Pairs SameValue es ys → SameValue e (truth (form.Member l negated ys))
    member_same l ys left all around =
        at_member around (truth (form.Member l negated ys)) l negated ys refl
        ∙ (ap (λ (o : Outcome). member negated o (map (value_in around) ys)) (left around)
        ∙ (ap (member negated (value_in around a)) (values_same es ys around all) ∙ sym (at_member around e a negated es is)))

    among_by : (first : Option ColType) → FirstIs a.kind (a ∷ es) first → IsSaid a → AreSaid a.kind es
        → Sure (Again (λ j. are_alike kind.Bool j ≡ true) e) known (AmongBeside (Typed scope) negated (spelled columns a) (map (spelled columns) es) first)
    among_by None none said all =
        followed (Again (λ j. j ≡ kind.Text) a) (Again (λ j. are_alike kind.Bool j ≡ true) e) known
        (Typed scope (spelled columns a) (asks_beside None)) (EntriesOf (Typed scope) negated None (map (spelled columns) es))
        (bare_left a (own_kind scope known (spelled columns a)) none.0 said)
        (λ l left. made (λ ys. Pairs SameValue es ys) (Again (λ j. are_alike kind.Bool j ≡ true) e) known
        (Each (λ entry. Typed scope entry (asks_entry None l.kind)) (map (spelled columns) es)) (λ ys. truth (form.Member l negated ys))
        (bare_entries es (only_said a.kind es all) none.1 l.kind left.0) (λ ys same. (refl, member_same l ys left.1 same)))
    among_by (Some i) like said all =
        followed (Again (λ j. are_alike a.kind j ≡ true) a) (Again (λ j. are_alike kind.Bool j ≡ true) e) known
        (Typed scope (spelled columns a) (asks_beside (Some i))) (EntriesOf (Typed scope) negated (Some i) (map (spelled columns) es))
        (like_left a i (own_kind scope known (spelled columns a)) said like)
        (λ l left. made (λ ys. Pairs SameValue es ys) (Again (λ j. are_alike kind.Bool j ≡ true) e) known
        (Each (λ entry. Typed scope entry (asks_entry (Some i) l.kind)) (map (spelled columns) es)) (λ ys. truth (form.Member l negated ys))
        (like_entries a.kind es all i l.kind like left.0) (λ ys same. (refl, member_same l ys left.1 same)))

    pub member_said : e.kind ≡ kind.Bool → IsSaid a → AreSaid a.kind es → Said scope known e (expr.Member (spelled columns a) negated (map (spelled columns) es))
    member_said of said all =
        let x = spelled columns a in
        let xs = map (spelled columns) es in
        formed scope known e (expr.Member x negated xs) (Expr-F.Member x negated xs) kind.Bool
        (ap (λ (o : Own). o.kind) (own_member scope known x negated xs)) (out_member x negated xs) (ap (λ (k : ColType). are_alike k kind.Bool) of)
        (λ leaf. among_by (first_kind (own_kind scope known x ∷ map (own_kind scope known) xs))
        (first_by a.kind a es (own_kind scope known x) refl said (alike_refl a.kind) (first_is a.kind es all)) said all)

  -- ---- arithmetic

  abbrev pub AreNumbers : {Q : Type 0} → (Q → TypedExpr) → List Q → Type 0
  AreNumbers part_of qs = All (λ q. IsSaid (part_of q) × (is_whole (part_of q).kind ≡ true)) qs

  -- a chain's parts behind the first one
  module _ {P Q : Type 0} (part_of : Q → TypedExpr) (f : Q → P) (at : P → Place) (make : P → TypedExpr → Q) (R : Q → Q → Type 0)
      (spells : (q : Q) (asks : Asks) → at (f q) asks ≡ Typed scope (spelled columns (part_of q)) asks) (makes : (q : Q) (y : TypedExpr) → SameValue (part_of q) y → R q (make (f q) y)) where
    part_sure : (q : Q) → IsSaid (part_of q) × (is_whole (part_of q).kind ≡ true) → (k : ColType) → Sure (R q) known (PartOf at make k (f q))
    part_sure q is k =
        made (Again (λ j. is_whole j ≡ true) (part_of q)) (R q) known (at (f q) (asks_number (Some k))) (make (f q))
        (subst (Sure (Again (λ j. is_whole j ≡ true) (part_of q)) known) (sym (spells q (asks_number (Some k))))
        (number_place scope known (Some k) (part_of q) (spelled columns (part_of q)) is.0 is.1))
        (λ y same. makes q y same.1)

    others_sure : (kind_of : Q → ColType) (k : ColType) (qs : List Q) → is_whole k ≡ true → AreNumbers part_of qs
        → Sure (λ x. (is_whole x.0 ≡ true) × Pairs R qs x.1) known (Others at make kind_of k (map f qs))
    others_sure kind_of k qs whole all =
        made (λ ys. Pairs R qs ys) (λ (x : ColType × List Q). (is_whole x.0 ≡ true) × Pairs R qs x.1) known (Walk (PartOf at make) (behind_part kind_of) k (map f qs))
        (λ ys. (reached (behind_part kind_of) k ys, ys))
        (walk (λ (j : ColType) rest. AreNumbers part_of rest) R f (PartOf at make) (behind_part kind_of) known
        (λ j q rest good answer took. let given = part_sure q good.0 j answer took in (given.0, given.1, (given.2, good.1))) qs k all)
        (λ ys same. (reached_whole kind_of k ys whole, same))

  -- a list of one or more
  own_some : {Q : Type 0} (own_of : Q → Option ColType) (first : Option ColType) (qs : List Q) → 1 ≤ length qs → HasWhole (chained_kind first (map own_of qs))
  own_some own_of first [] some = absurd (omega arith)
  own_some own_of first (q ∷ qs) some = chained_whole first (own_of q) (map own_of qs)

  map_long : {P Q : Type 0} (f : Q → P) (qs : List Q) → 1 ≤ length qs → 1 ≤ length (map f qs)
  map_long f [] some = absurd (omega arith)
  map_long f (q ∷ qs) some = omega arith

  -- of what stands to the left and the others
  module _ (e a : TypedExpr) (ss : List TypedSumPart) (is : e.form ≡ form.Sum a ss) where
    summands_same : (l : TypedExpr) (qs : List TypedSumPart) → SameValue a l → Pairs (λ s q. (around : Around) → summand_in around q ≡ summand_in around s) ss qs
        → (k : ColType) → SameValue e (typed k (form.Sum l qs))
    summands_same l qs left all k around =
        at_sum around (typed k (form.Sum l qs)) l qs refl
        ∙ (ap (λ (o : Outcome). sum_of o (map (summand_in around) qs)) (left around)
        ∙ (ap (sum_of (value_in around a)) (pairs_map (λ (s q : TypedSumPart). (around : Around) → summand_in around q ≡ summand_in around s) (summand_in around) (summand_in around) (λ s q same. same around) ss qs all)
        ∙ sym (at_sum around e a ss is)))

    sum_sure : (beside : Option ColType) → IsSaid a → is_whole a.kind ≡ true → AreNumbers (λ s. s.part) ss
        → Sure (Again (λ j. is_whole j ≡ true) e) known
        (ChainBeside (Typed scope) (λ s. Typed scope s.part) summand_of (λ q. q.part.kind) (λ l qs. form.Sum l qs) (spelled columns a) (map (spelled_summand columns) ss) beside)
    sum_sure beside said whole all =
        followed (Again (λ j. is_whole j ≡ true) a) (Again (λ j. is_whole j ≡ true) e) known (Typed scope (spelled columns a) (asks_number beside))
        (Parts (λ s. Typed scope s.part) summand_of (λ q. q.part.kind) (λ l qs. form.Sum l qs) (map (spelled_summand columns) ss))
        (number_place scope known beside a (spelled columns a) said whole)
        (λ l left. made (λ (x : ColType × List TypedSumPart). (is_whole x.0 ≡ true) × Pairs (λ s q. (around : Around) → summand_in around q ≡ summand_in around s) ss x.1)
        (Again (λ j. is_whole j ≡ true) e) known (Others (λ s. Typed scope s.part) summand_of (λ q. q.part.kind) l.kind (map (spelled_summand columns) ss))
        (λ (x : ColType × List TypedSumPart). typed x.0 (form.Sum l x.1))
        (others_sure (λ (s : TypedSumPart). s.part) (spelled_summand columns) (λ (s : SumPart). Typed scope s.part) summand_of
        (λ (s q : TypedSumPart). (around : Around) → summand_in around q ≡ summand_in around s) (λ s asks. refl)
        (λ s y same around. ap (λ (o : Outcome). (s.minus, o)) (same around)) (λ q. q.part.kind) l.kind ss left.0 all)
        (λ x same. (same.0, summands_same l x.1 left.1 same.1 x.0)))

    pub sum_said : 1 ≤ length ss → is_whole e.kind ≡ true → IsSaid a → is_whole a.kind ≡ true → AreNumbers (λ s. s.part) ss
        → Said scope known e (expr.Sum (spelled columns a) (map (spelled_summand columns) ss))
    sum_said some of said whole all =
        let x = spelled columns a in
        let xs = map (spelled_summand columns) ss in
        chain_said scope known e (expr.Sum x xs) (Expr-F.Sum x xs)
        (own_whole (own_sum scope known x xs) (own_some (λ (s : SumPart). own_kind scope known s.part) (own_kind scope known x) xs (map_long (spelled_summand columns) ss some)))
        (out_sum x xs) of
        (λ leaf. sum_sure (own_of_first (λ s. own_kind scope known s.part) xs) said whole all)

  module _ (e a : TypedExpr) (ss : List TypedProductPart) (is : e.form ≡ form.Product a ss) where
    factors_same : (l : TypedExpr) (qs : List TypedProductPart) → SameValue a l → Pairs (λ s q. (around : Around) → factor_in around q ≡ factor_in around s) ss qs
        → (k : ColType) → SameValue e (typed k (form.Product l qs))
    factors_same l qs left all k around =
        at_product around (typed k (form.Product l qs)) l qs refl
        ∙ (ap (λ (o : Outcome). product_of o (map (factor_in around) qs)) (left around)
        ∙ (ap (product_of (value_in around a)) (pairs_map (λ (s q : TypedProductPart). (around : Around) → factor_in around q ≡ factor_in around s) (factor_in around) (factor_in around) (λ s q same. same around) ss qs all)
        ∙ sym (at_product around e a ss is)))

    product_sure : (beside : Option ColType) → IsSaid a → is_whole a.kind ≡ true → AreNumbers (λ s. s.part) ss
        → Sure (Again (λ j. is_whole j ≡ true) e) known
        (ChainBeside (Typed scope) (λ s. Typed scope s.part) factor_of (λ q. q.part.kind) (λ l qs. form.Product l qs) (spelled columns a) (map (spelled_factor columns) ss) beside)
    product_sure beside said whole all =
        followed (Again (λ j. is_whole j ≡ true) a) (Again (λ j. is_whole j ≡ true) e) known (Typed scope (spelled columns a) (asks_number beside))
        (Parts (λ s. Typed scope s.part) factor_of (λ q. q.part.kind) (λ l qs. form.Product l qs) (map (spelled_factor columns) ss))
        (number_place scope known beside a (spelled columns a) said whole)
        (λ l left. made (λ (x : ColType × List TypedProductPart). (is_whole x.0 ≡ true) × Pairs (λ s q. (around : Around) → factor_in around q ≡ factor_in around s) ss x.1)
        (Again (λ j. is_whole j ≡ true) e) known (Others (λ s. Typed scope s.part) factor_of (λ q. q.part.kind) l.kind (map (spelled_factor columns) ss))
        (λ (x : ColType × List TypedProductPart). typed x.0 (form.Product l x.1))
        (others_sure (λ (s : TypedProductPart). s.part) (spelled_factor columns) (λ (s : ProductPart). Typed scope s.part) factor_of
        (λ (s q : TypedProductPart). (around : Around) → factor_in around q ≡ factor_in around s) (λ s asks. refl)
        (λ s y same around. ap (λ (o : Outcome). (s.sign, o)) (same around)) (λ q. q.part.kind) l.kind ss left.0 all)
        (λ x same. (same.0, factors_same l x.1 left.1 same.1 x.0)))

    pub product_said : 1 ≤ length ss → is_whole e.kind ≡ true → IsSaid a → is_whole a.kind ≡ true → AreNumbers (λ s. s.part) ss
        → Said scope known e (expr.Product (spelled columns a) (map (spelled_factor columns) ss))
    product_said some of said whole all =
        let x = spelled columns a in
        let xs = map (spelled_factor columns) ss in
        chain_said scope known e (expr.Product x xs) (Expr-F.Product x xs)
        (own_whole (own_product scope known x xs) (own_some (λ (s : ProductPart). own_kind scope known s.part) (own_kind scope known x) xs (map_long (spelled_factor columns) ss some)))
        (out_product x xs) of
        (λ leaf. product_sure (own_of_first (λ s. own_kind scope known s.part) xs) said whole all)
