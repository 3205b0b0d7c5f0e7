-- The codes of effects are none of those with which a store refuses for its own sake.
use Rattle.std.proofs.Common.{rules, ◌≡◌, ◌∙◌, ℕ, ℤ, pos, negsuc, neg_ℤ, ◌+ℤ◌, List, [], ◌∷◌, ◌++◌, map, get_or, length, refl, ap, sym, subst, arith, codes}
use Rattle.std.specs.Prelude.{◌&&◌, nat_lt, int_div, int_rem, cond, if◌then◌else◌, unwrap_or, slice_get, Bool as Truth, true, false, Option, Some, None, Result, Ok, Err}
use Rattle.std.specs.List.{find}
use Rattle.pg_values.specs.declared.col_type.ColType.{ColType}
use Rattle.pg_values.specs.declared.col_type.ColType.TheVariants as kind
use Rattle.pg_values.specs.declared.value.Value.{Value}
use Rattle.pg_values.specs.declared.value.Value.TheVariants as value
use Rattle.schema.specs.declared.catalogue.ColumnDef.{ColumnDef}
use Rattle.schema.specs.declared.catalogue.TableDef.{TableDef}
use Rattle.sql_tree.specs.declared.expr.ProductSign.{ProductSign}
use Rattle.sql_tree.specs.declared.expr.ProductSign.TheVariants as sign
use Rattle.typed_sql.specs.declared.typed.TypedExpr.{TypedExpr}
use Rattle.typed_sql.specs.declared.typed.TypedForm.{TypedForm, roll-TypedForm, map-TypedForm, the_lemmas}
use Rattle.typed_sql.specs.declared.typed.TypedForm.TheOpen.{TypedForm-F, TypedExpr-F, TypedProductPart-F, TypedSumPart-F}
use Rattle.typed_sql.specs.declared.typed.TypedForm.TheFolds.{fold-TypedForm, fold-TypedProductPart, fold-TypedSumPart, fold-roll-TypedForm, ind-TypedExpr}
use Rattle.typed_sql.specs.declared.typed.TypedSumPart.{TypedSumPart}
use Rattle.typed_sql.specs.declared.typed.TypedProductPart.{TypedProductPart}
use Rattle.catalogue.specs.declared.checked.Checked.{Checked}
use Rattle.catalogue.specs.declared.checked.CheckedBody.{CheckedBody}
use Rattle.catalogue.specs.declared.checked.CheckedBody.TheVariants as body
use Rattle.catalogue.specs.declared.checked.CheckedChange.{CheckedChange}
use Rattle.catalogue.specs.declared.checked.CheckedInsert.{CheckedInsert}
use Rattle.catalogue.specs.declared.checked.CheckedRead.{CheckedRead}
use Rattle.catalogue.specs.declared.checked.CheckedRemove.{CheckedRemove}
use Rattle.catalogue.specs.declared.checked.TypedCell.{TypedCell}
use Rattle.catalogue.specs.declared.checked.TypedCell.TheVariants as cell
use Rattle.catalogue.specs.declared.checked.TypedSet.{TypedSet}
use Rattle.sql_values.specs.Outcome as operand
use Rattle.sql_values.specs.Outcome.{Outcome, out_of_range, by_zero, too_large, of_both, chained}
use Rattle.sql_values.specs.Meaning.{Around, Factor, Summand, outcome_of, product_of, sum_of, text_of, value_in}
use Rattle.sql_values.specs.Arithmetic.{as_int4, as_int8, calculated, is_between, is_int4, is_zero, multiplied, negative, of_numbers, sized, summed, whole}
use Rattle.sql_values.specs.Logic.{among, decides, is_truth, junction, member, opposite, opposite_if, tested, undecided}
use Rattle.sql_values.specs.Order.{compared, is_null, joined}
use Rattle.sql_tree.specs.declared.expr.Comparison.TheVariants as how
use Rattle.sql_eval.specs.declared.row.Row.{Row}
use Rattle.sql_eval.specs.declared.effect.Change.{Change}
use Rattle.sql_eval.specs.declared.effect.ReadEffect.{ReadEffect}
use Rattle.sql_eval.specs.Views.{View, Entry, cell_at, columns_of, entries_in, key_column}
use Rattle.sql_eval.specs.Walks.{Coded, all_of, behind, made, those_there, walked}
use Rattle.sql_eval.specs.Ordered.{ordered}
use Rattle.sql_eval.specs.Reads.{alone, at_row, counted, cut, entries_read, fitting, is_kept, kept, limit_in, limit_number, limit_of, listed, negative_limit, no_row, read_in, reading, result_row, row_of, row_size, shown, where_kept}
use Rattle.sql_eval.specs.Stored.{as_column, as_kind, cells_set, change_in, change_of, changed, kind_at, lacks, not_lacking, null_refused, put_sets, removal_of, remove_in, removed, set_value, updated, updated_row}
use Rattle.sql_eval.specs.Inserts.{all_draws, cell_value, cell_values, cells_given, draws_in, insert_in, is_spent, is_taken, key_refused, last_serial, row_draws, row_put_in, rows_given, serial_kind, spent, unless_taken}
use Rattle.sql_eval.specs.Effects as effects
use Rattle.sql_eval.specs.Effects.{Reads, Writes, given_by}
use Rattle.backend_trait.proofs.Truths.{Each, each_of}
use Rattle.backend_trait.specs.Rows.{Rows}
use Rattle.backend_trait.specs.Effect.{Fails, effect_of, given_as, number_from, table_in}
use Rattle.outcomes.proofs.Giving.{given_is}

-- neither that of want of memory nor that of a deadlock
abbrev pub IsCalm : List ℕ → Type 0
IsCalm code = (code ≡ codes "53200" → ⊥) × (code ≡ codes "40P01" → ⊥)

-- a code that begins with 2, and one that begins with 54
by_two : (code : List ℕ) → get_or code 0 0 ≡ 50 → IsCalm code
by_two code is = (
  λ e. let n : 50 ≡ 53 = sym is ∙ ap (λ (l : List ℕ). get_or l 0 0) e in absurd (omega (arith, n)),
  λ e. let n : 50 ≡ 52 = sym is ∙ ap (λ (l : List ℕ). get_or l 0 0) e in absurd (omega (arith, n)),
)

by_five : (code : List ℕ) → get_or code 0 0 ≡ 53 → get_or code 1 0 ≡ 52 → IsCalm code
by_five code first second = (
  λ e. let n : 52 ≡ 51 = sym second ∙ ap (λ (l : List ℕ). get_or l 1 0) e in absurd (omega (arith, n)),
  λ e. let n : 53 ≡ 52 = sym first ∙ ap (λ (l : List ℕ). get_or l 0 0) e in absurd (omega (arith, n)),
)

large_calm : IsCalm too_large
large_calm = by_five too_large refl refl

range_calm : IsCalm out_of_range
range_calm = by_two out_of_range refl

-- what is given, or such a code
abbrev pub IsFine : {A : Type 0} → Result A (List ℕ) → Type 0
IsFine (Ok a) = Unit {0}
IsFine (Err code) = IsCalm code

-- ---- walks

behind_fine : {A B : Type 0} (o : Coded A) (f : A → Coded B) → IsFine o → ((a : A) → IsFine (f a)) → IsFine (behind o f)
behind_fine (Ok a) f is each = each a
behind_fine (Err code) f is each = is

made_fine : {A B : Type 0} (f : A → B) (o : Coded A) → IsFine o → IsFine (made f o)
made_fine f (Ok a) is = tt
made_fine f (Err code) is = is

all_fine : {A : Type 0} (os : List (Coded A)) → Each (λ (o : Coded A). IsFine o) os → IsFine (all_of os)
all_fine [] each = tt
all_fine (o ∷ os) each =
    behind_fine o (λ a. made (λ others. a ∷ others) (all_of os)) each.0 (λ a. made_fine (λ others. a ∷ others) (all_of os) (all_fine os each.1))

each_fine : {A X : Type 0} (f : X → Coded A) (xs : List X) → ((x : X) → IsFine (f x)) → Each (λ (o : Coded A). IsFine o) (map f xs)
each_fine f [] each = tt
each_fine f (x ∷ xs) each = (each x, each_fine f xs each)

walked_fine : {A B : Type 0} (step : A → Coded (Option B)) (xs : List A) → ((a : A) → IsFine (step a)) → IsFine (walked step xs)
walked_fine step xs each = made_fine those_there (all_of (map step xs)) (all_fine (map step xs) (each_fine step xs each))

unless_fine : {A : Type 0} (b : Truth) (code : List ℕ) (a : A) → IsCalm code → IsFine {A = A} (if b then Err code else Ok a)
unless_fine true code a calm = calm
unless_fine false code a calm = tt

-- ---- operands

operand_fine : (o : Outcome) (next : Value → Outcome) → IsFine o → ((v : Value) → IsFine (next v)) → IsFine (operand.behind o next)
operand_fine (Ok v) next is each = each v
operand_fine (Err code) next is each = is

value_fine : (f : Value → Value) (o : Outcome) → IsFine o → IsFine (operand.made f o)
value_fine f (Ok v) is = tt
value_fine f (Err code) is = is

both_fine : (put : Value → Value → Outcome) (left right : Outcome) → ((a b : Value) → IsFine (put a b)) → IsFine left → IsFine right → IsFine (of_both put left right)
both_fine put (Err code) right each l r = l
both_fine put (Ok a) (Err code) each l r = r
both_fine put (Ok a) (Ok b) each l r = each a b

chain_fine : {P : Type 0} (part_of : P → Outcome) (put : P → Value → Value → Outcome) (left : Outcome) (parts : List P) → ((p : P) (a b : Value) → IsFine (put p a b)) → IsFine left
    → Each (λ (p : P). IsFine (part_of p)) parts → IsFine (chained part_of put left parts)
chain_fine part_of put left [] each l parts_are = l
chain_fine part_of put left (part ∷ parts) each l parts_are =
    chain_fine part_of put (of_both (put part) left (part_of part)) parts each (both_fine (put part) left (part_of part) (each part) l parts_are.0) parts_are.1

-- ---- numbers

in_range_fine : (b : Truth) (v : Value) → IsFine {A = Value} (if b then Ok v else Err out_of_range)
in_range_fine true v = tt
in_range_fine false v = range_calm

int4_fine : (n : ℤ) → IsFine (as_int4 n)
int4_fine n = in_range_fine (is_between (neg_ℤ (pos 2147483648)) (pos 2147483647) n) (value.Int4 n)

int8_fine : (n : ℤ) → IsFine (as_int8 n)
int8_fine n = in_range_fine (is_between (neg_ℤ (pos 9223372036854775808)) (pos 9223372036854775807) n) (value.Int8 n)

sized_fine : (narrow : Truth) (r : Result ℤ (List ℕ)) → IsFine r → IsFine (sized narrow r)
sized_fine narrow (Err code) is = is
sized_fine true (Ok n) is = int4_fine n
sized_fine false (Ok n) is = int8_fine n

numbers_fine : (narrow : Truth) (calc : ℤ → ℤ → Result ℤ (List ℕ)) (a b : Option ℤ) → ((m n : ℤ) → IsFine (calc m n)) → IsFine (of_numbers narrow calc a b)
numbers_fine narrow calc (Some a) (Some b) each = sized_fine narrow (calc a b) (each a b)
numbers_fine narrow calc (Some a) None each = tt
numbers_fine narrow calc None b each = tt

calculated_fine : (calc : ℤ → ℤ → Result ℤ (List ℕ)) → ((m n : ℤ) → IsFine (calc m n)) → (a b : Value) → IsFine (calculated calc a b)
calculated_fine calc each a b = numbers_fine (is_int4 a && is_int4 b) calc (whole a) (whole b) each

multiplied_fine : (s : ProductSign) (a b : ℤ) → IsFine (multiplied s a b)
multiplied_fine sign.Times a b = tt
multiplied_fine sign.Over a b = unless_fine (is_zero b) by_zero (int_div a b) (by_two by_zero refl)
multiplied_fine sign.Rest a b = unless_fine (is_zero b) by_zero (int_rem a b) (by_two by_zero refl)

negative_fine : (v : Value) → IsFine (negative v)
negative_fine (value.Int4 n) = int4_fine (neg_ℤ n)
negative_fine (value.Int8 n) = int8_fine (neg_ℤ n)
negative_fine v = tt

-- ---- texts and logic

joined_fine : (a b : Value) → IsFine (joined a b)
joined_fine (value.Text a) (value.Text b) = unless_fine (nat_lt 1000000 (length (a ++ b))) too_large (value.Text (a ++ b)) large_calm
joined_fine a b = tt

abbrev AreFine : List Outcome → Type 0
AreFine os = Each (λ (o : Outcome). IsFine o) os

text_fine : (parts : List Outcome) → AreFine parts → IsFine (text_of parts)
text_fine [] each = tt
text_fine (first ∷ parts) each = chain_fine (λ part. part) (λ part. joined) first parts (λ p. joined_fine) each.0 each.1

found_fine : (stop : Truth) (parts : List Outcome) (other : Outcome) → AreFine parts → IsFine other → IsFine (unwrap_or (find (decides stop) parts) other)
found_fine stop [] other each is = is
found_fine stop (o ∷ parts) other each is = go (found_fine stop parts other each.1 is) (decides stop o)
  where
    go : IsFine (unwrap_or (find (decides stop) parts) other) → (b : Truth) → IsFine (unwrap_or (cond b (Some o) (find (decides stop) parts)) other)
    go rest true = each.0
    go rest false = rest

junction_fine : (stop : Truth) (parts : List Outcome) → AreFine parts → IsFine (junction stop parts)
junction_fine stop parts each = found_fine stop parts (Ok (undecided stop parts)) each tt

made_each : (f : Value → Value) (parts : List Outcome) → AreFine parts → AreFine (map (operand.made f) parts)
made_each f [] each = tt
made_each f (o ∷ parts) each = (value_fine f o each.0, made_each f parts each.1)

if_null_fine : (b : Truth) (o : Outcome) → IsFine o → IsFine {A = Value} (if b then Ok value.Null else o)
if_null_fine true o is = tt
if_null_fine false o is = is

among_fine : (v : Value) (entries : List Outcome) → AreFine entries → IsFine (among v entries)
among_fine v entries each =
    if_null_fine (is_null v) (junction true (map (operand.made (compared how.Equal v)) entries))
    (junction_fine true (map (operand.made (compared how.Equal v)) entries) (made_each (compared how.Equal v) entries each))

member_fine : (negated : Truth) (o : Outcome) (entries : List Outcome) → IsFine o → AreFine entries → IsFine (member negated o entries)
member_fine negated o entries is each =
    value_fine (opposite_if negated) (operand.behind o (λ v. among v entries)) (operand_fine o (λ v. among v entries) is (λ v. among_fine v entries each))

-- ---- expressions

module _ (around : Around) where
  abbrev form_value : TypedForm → Outcome
  form_value = fold-TypedForm Outcome Outcome Factor Summand (outcome_of around) (λ e. e.form) (λ f. (f.sign, f.part)) (λ s. (s.minus, s.part))

  abbrev expr_value : TypedExpr → Outcome
  expr_value = value_in around

  abbrev factor_value : TypedProductPart → Factor
  factor_value = fold-TypedProductPart Outcome Outcome Factor Summand (outcome_of around) (λ e. e.form) (λ f. (f.sign, f.part)) (λ s. (s.minus, s.part))

  abbrev summand_value : TypedSumPart → Summand
  summand_value = fold-TypedSumPart Outcome Outcome Factor Summand (outcome_of around) (λ e. e.form) (λ f. (f.sign, f.part)) (λ s. (s.minus, s.part))

  value_by_form : (e : TypedExpr) → expr_value e ≡ form_value e.form
  value_by_form e = search (rules, the_lemmas)

  factor_value_is : (f : TypedProductPart) → factor_value f ≡ (f.sign, expr_value f.part)
  factor_value_is f = search (rules, the_lemmas)

  summand_value_is : (s : TypedSumPart) → summand_value s ≡ (s.minus, expr_value s.part)
  summand_value_is s = search (rules, the_lemmas)

  abbrev Layer : Type 0
  Layer = TypedForm-F TypedForm TypedExpr TypedProductPart TypedSumPart

  value_rolled : (x : Layer) → form_value (roll-TypedForm x)
      ≡ outcome_of around (map-TypedForm TypedForm TypedExpr TypedProductPart TypedSumPart Outcome Outcome Factor Summand form_value expr_value factor_value summand_value x)
  value_rolled x = fold-roll-TypedForm Outcome Outcome Factor Summand (outcome_of around) (λ e. e.form) (λ f. (f.sign, f.part)) (λ s. (s.minus, s.part)) x

  sums_are : (o : Outcome) (ss : List TypedSumPart) → sum_of o (map summand_value ss) ≡ chained (λ (s : TypedSumPart). expr_value s.part) (λ s. calculated (summed s.minus)) o ss
  sums_are o [] = refl
  sums_are o (s ∷ ss) =
      ap (λ (p : Summand). sum_of (of_both (calculated (summed p.0)) o p.1) (map summand_value ss)) (summand_value_is s)
      ∙ sums_are (of_both (calculated (summed s.minus)) o (expr_value s.part)) ss

  products_are : (o : Outcome) (fs : List TypedProductPart) → product_of o (map factor_value fs) ≡ chained (λ (f : TypedProductPart). expr_value f.part) (λ f. calculated (multiplied f.sign)) o fs
  products_are o [] = refl
  products_are o (f ∷ fs) =
      ap (λ (p : Factor). product_of (of_both (calculated (multiplied p.0)) o p.1) (map factor_value fs)) (factor_value_is f)
      ∙ products_are (of_both (calculated (multiplied f.sign)) o (expr_value f.part)) fs

  abbrev IsFineExpr : TypedExpr → Type 0
  IsFineExpr e = IsFine (expr_value e)

  abbrev IsFineForm : TypedForm → Type 0
  IsFineForm f = IsFine (form_value f)

  exprs_fine : (es : List TypedExpr) → Each IsFineExpr es → AreFine (map expr_value es)
  exprs_fine [] each = tt
  exprs_fine (e ∷ es) each = (each.0, exprs_fine es each.1)

  expr_fine : (e : TypedExpr) → IsFineForm e.form → IsFineExpr e
  expr_fine e is = subst (λ (o : Outcome). IsFine o) (sym (value_by_form e)) is

  -- what comes to a fine outcome
  comes_to : (x : Layer) (o : Outcome) → form_value (roll-TypedForm x) ≡ o → IsFine o → IsFineForm (roll-TypedForm x)
  comes_to x o is fine = subst (λ (p : Outcome). IsFine p) (sym is) fine

  module _ {F E P S : Type 0} (f_of : F → TypedForm) (e_of : E → TypedExpr) (p_of : P → TypedProductPart) (s_of : S → TypedSumPart) (ex : (x : E) → IsFineExpr (e_of x)) (py : (y : P) → IsFineExpr (p_of y).part) (sz : (z : S) → IsFineExpr (s_of z).part) where
    layer : (y : TypedForm-F F E P S) → IsFineForm (roll-TypedForm (map-TypedForm F E P S TypedForm TypedExpr TypedProductPart TypedSumPart f_of e_of p_of s_of y))
    layer (TypedForm-F.Or parts) =
        let es = map e_of parts in
        comes_to (TypedForm-F.Or es) (junction true (map expr_value es)) (value_rolled (TypedForm-F.Or es))
        (junction_fine true (map expr_value es) (exprs_fine es (each_of e_of IsFineExpr ex parts)))
    layer (TypedForm-F.And parts) =
        let es = map e_of parts in
        comes_to (TypedForm-F.And es) (junction false (map expr_value es)) (value_rolled (TypedForm-F.And es))
        (junction_fine false (map expr_value es) (exprs_fine es (each_of e_of IsFineExpr ex parts)))
    layer (TypedForm-F.Not x) =
        let e = e_of x in
        comes_to (TypedForm-F.Not e) (operand.made opposite (expr_value e)) (value_rolled (TypedForm-F.Not e)) (value_fine opposite (expr_value e) (ex x))
    layer (TypedForm-F.IsNull x ts) =
        let e = e_of x in
        comes_to (TypedForm-F.IsNull e ts) (operand.made (λ v. tested v ts) (expr_value e)) (value_rolled (TypedForm-F.IsNull e ts))
        (value_fine (λ v. tested v ts) (expr_value e) (ex x))
    layer (TypedForm-F.Compare h x y) =
        let a = e_of x in
        let b = e_of y in
        comes_to (TypedForm-F.Compare h a b) (of_both (λ u v. Ok (compared h u v)) (expr_value a) (expr_value b)) (value_rolled (TypedForm-F.Compare h a b))
        (both_fine (λ u v. Ok (compared h u v)) (expr_value a) (expr_value b) (λ u v. tt) (ex x) (ex y))
    layer (TypedForm-F.Member x negated parts) =
        let e = e_of x in
        let es = map e_of parts in
        comes_to (TypedForm-F.Member e negated es) (member negated (expr_value e) (map expr_value es)) (value_rolled (TypedForm-F.Member e negated es))
        (member_fine negated (expr_value e) (map expr_value es) (ex x) (exprs_fine es (each_of e_of IsFineExpr ex parts)))
    layer (TypedForm-F.Concat parts) =
        let es = map e_of parts in
        comes_to (TypedForm-F.Concat es) (text_of (map expr_value es)) (value_rolled (TypedForm-F.Concat es))
        (text_fine (map expr_value es) (exprs_fine es (each_of e_of IsFineExpr ex parts)))
    layer (TypedForm-F.Sum x parts) =
        let e = e_of x in
        let ss = map s_of parts in
        comes_to (TypedForm-F.Sum e ss) (chained (λ (s : TypedSumPart). expr_value s.part) (λ s. calculated (summed s.minus)) (expr_value e) ss)
        (value_rolled (TypedForm-F.Sum e ss) ∙ sums_are (expr_value e) ss)
        (chain_fine (λ (s : TypedSumPart). expr_value s.part) (λ s. calculated (summed s.minus)) (expr_value e) ss
        (λ s. calculated_fine (summed s.minus) (λ m n. tt)) (ex x) (each_of s_of (λ (s : TypedSumPart). IsFineExpr s.part) sz parts))
    layer (TypedForm-F.Product x parts) =
        let e = e_of x in
        let fs = map p_of parts in
        comes_to (TypedForm-F.Product e fs) (chained (λ (f : TypedProductPart). expr_value f.part) (λ f. calculated (multiplied f.sign)) (expr_value e) fs)
        (value_rolled (TypedForm-F.Product e fs) ∙ products_are (expr_value e) fs)
        (chain_fine (λ (f : TypedProductPart). expr_value f.part) (λ f. calculated (multiplied f.sign)) (expr_value e) fs
        (λ f. calculated_fine (multiplied f.sign) (multiplied_fine f.sign)) (ex x) (each_of p_of (λ (f : TypedProductPart). IsFineExpr f.part) py parts))
    layer (TypedForm-F.Minus x) =
        let e = e_of x in
        comes_to (TypedForm-F.Minus e) (operand.behind (expr_value e) negative) (value_rolled (TypedForm-F.Minus e)) (operand_fine (expr_value e) negative (ex x) negative_fine)
    layer (TypedForm-F.Literal v) = subst (λ (p : Outcome). IsFine p) (sym (value_rolled (TypedForm-F.Literal v))) tt
    layer (TypedForm-F.Param n) = subst (λ (p : Outcome). IsFine p) (sym (value_rolled (TypedForm-F.Param n))) tt
    layer (TypedForm-F.Column n) = subst (λ (p : Outcome). IsFine p) (sym (value_rolled (TypedForm-F.Column n))) tt
    layer TypedForm-F.CurrentTimestamp = subst (λ (p : Outcome). IsFine p) (sym (value_rolled TypedForm-F.CurrentTimestamp)) tt
    layer TypedForm-F.Now = subst (λ (p : Outcome). IsFine p) (sym (value_rolled TypedForm-F.Now)) tt
    layer TypedForm-F.TransactionTimestamp = subst (λ (p : Outcome). IsFine p) (sym (value_rolled TypedForm-F.TransactionTimestamp)) tt

  pub each_value : (e : TypedExpr) → IsFineExpr e
  each_value = ind-TypedExpr IsFineForm IsFineExpr (λ f. IsFineExpr f.part) (λ s. IsFineExpr s.part)
      (λ x y is. subst (λ (z : Layer). IsFineForm (roll-TypedForm z)) is
      (layer (λ f. f.0) (λ e. e.0) (λ p. p.0) (λ s. s.0) (λ e. e.1) (λ p. p.1) (λ s. s.1) y))
      (λ x y is. expr_fine _ (subst (λ (z : TypedExpr-F TypedForm TypedExpr TypedProductPart TypedSumPart). IsFineForm z.form) is y.form.1))
      (λ x y is. subst (λ (z : TypedProductPart-F TypedForm TypedExpr TypedProductPart TypedSumPart). IsFineExpr z.part) is y.part.1)
      (λ x y is. subst (λ (z : TypedSumPart-F TypedForm TypedExpr TypedProductPart TypedSumPart). IsFineExpr z.part) is y.part.1)

-- ---- statements

fitting_fine : (row : Row) → IsFine (fitting row)
fitting_fine row = unless_fine (nat_lt 1048000 (row_size row)) too_large row large_calm

kind_fine : (k : ColType) (v : Value) → IsFine (as_kind k v)
kind_fine kind.Int4 (value.Int8 n) = int4_fine n
kind_fine kind.Int8 (value.Int4 n) = tt
kind_fine k v = tt

column_fine : (k : Option ColType) (v : Value) → IsFine (as_column k v)
column_fine None v = tt
column_fine (Some k) v = kind_fine k v

lacking_fine : (columns : List ColumnDef) (cells : List Value) → IsFine (not_lacking columns cells)
lacking_fine columns cells = unless_fine (lacks columns cells) null_refused cells (by_two null_refused refl)

module _ (around : Around) where
  is_kept_fine : (filter : Option TypedExpr) (row : Row) → IsFine (is_kept around filter row)
  is_kept_fine None row = tt
  is_kept_fine (Some filter) row = made_fine (is_truth true) (value_in (at_row around row) filter) (each_value (at_row around row) filter)

  kept_fine : (filter : Option TypedExpr) (e : Entry) → IsFine (kept around filter e)
  kept_fine filter e = made_fine (where_kept e) (is_kept around filter e.row) (is_kept_fine filter e.row)

  -- SELECT
  number_fine : (n : ℤ) → IsFine (limit_number n)
  number_fine (pos n) = tt
  number_fine (negsuc n) = by_two negative_limit refl

  limit_of_fine : (v : Value) → IsFine (limit_of v)
  limit_of_fine (value.Int4 n) = number_fine n
  limit_of_fine (value.Int8 n) = number_fine n
  limit_of_fine v = tt

  limit_fine : (limit : Option TypedExpr) → IsFine (limit_in around limit)
  limit_fine None = tt
  limit_fine (Some limit) = behind_fine (value_in (at_row around no_row) limit) limit_of (each_value (at_row around no_row) limit) limit_of_fine

  result_fine : (list : List TypedExpr) (row : Row) → IsFine (result_row around list row)
  result_fine list row =
      behind_fine (all_of (map (value_in (at_row around row)) list)) (λ cells. fitting (row_of cells))
      (all_fine (map (value_in (at_row around row)) list) (each_fine (value_in (at_row around row)) list (each_value (at_row around row)))) (λ cells. fitting_fine (row_of cells))

  listed_fine : (read : CheckedRead) (es : List Entry) → IsFine (listed around read es)
  listed_fine read es =
      made_fine (reading read.for_update es) (all_of (map (λ e. result_row around read.list e.row) es))
      (all_fine (map (λ e. result_row around read.list e.row) es) (each_fine (λ e. result_row around read.list e.row) es (λ e. result_fine read.list e.row)))

  count_fine : (b : Truth) (given : ReadEffect) (o : Coded ReadEffect) → IsFine o → IsFine {A = ReadEffect} (if b then Ok given else o)
  count_fine true given o is = tt
  count_fine false given o is = is

  shown_fine : (read : CheckedRead) (es : List Entry) → IsFine (shown around read es)
  shown_fine read es =
      count_fine read.count (counted (length es)) (behind (limit_in around read.limit) (λ limit. listed around read (cut limit (ordered read.order es))))
      (behind_fine (limit_in around read.limit) (λ limit. listed around read (cut limit (ordered read.order es))) (limit_fine read.limit)
      (λ limit. listed_fine read (cut limit (ordered read.order es))))

  read_fine : (view : View) (read : CheckedRead) → IsFine (read_in around view read)
  read_fine view read =
      behind_fine (walked (kept around read.filter) (entries_read view read.table)) (shown around read)
      (walked_fine (kept around read.filter) (entries_read view read.table) (kept_fine read.filter)) (shown_fine read)

  -- INSERT
  cell_fine : (k : ColType) (next : ℤ) (c : TypedCell) → IsFine (cell_value around k next c)
  cell_fine k next cell.Serial = kind_fine k (value.Int8 next)
  cell_fine k next cell.Now = tt
  cell_fine k next (cell.Given e) = behind_fine (value_in (at_row around no_row) e) (as_kind k) (each_value (at_row around no_row) e) (kind_fine k)

  cells_fine : (columns : List ColumnDef) (next : ℤ) (cells : List TypedCell) → AreFine (cell_values around columns next cells)
  cells_fine [] next cells = tt
  cells_fine (column ∷ columns) next [] = tt
  cells_fine (column ∷ columns) next (c ∷ cells) = (cell_fine column.kind next c, cells_fine columns (next +ℤ pos (draws_in c)) cells)

  given_fine : (columns : List ColumnDef) (next : ℤ) (cells : List TypedCell) → IsFine (cells_given around columns next cells)
  given_fine columns next cells =
      behind_fine (all_of (cell_values around columns next cells)) (not_lacking columns)
      (all_fine (cell_values around columns next cells) (cells_fine columns next cells)) (lacking_fine columns)

  taken_fine : (taken : Truth) (row : Row) → IsFine (unless_taken taken row)
  taken_fine true row = by_two key_refused refl
  taken_fine false row = fitting_fine row

  module _ (view : View) (table : ℕ) (columns : List ColumnDef) (key : ℕ) where
    put_fine : (earlier : List Value) (next : ℤ) (cells : List TypedCell) → IsFine (row_put_in around view table columns key earlier next cells)
    put_fine earlier next cells =
        behind_fine (cells_given around columns next cells) (λ values.
        made (λ row. changed table (cell_at key row) (Some row)) (unless_taken (is_taken view table earlier (cell_at key (row_of values))) (row_of values)))
        (given_fine columns next cells)
        (λ values. made_fine (λ row. changed table (cell_at key row) (Some row)) (unless_taken (is_taken view table earlier (cell_at key (row_of values))) (row_of values))
        (taken_fine (is_taken view table earlier (cell_at key (row_of values))) (row_of values)))

    rows_fine : (rows : List (List TypedCell)) (earlier : List Value) (next : ℤ) → IsFine (rows_given around view table columns key earlier next rows)
    rows_fine [] earlier next = tt
    rows_fine (cells ∷ rows) earlier next =
        behind_fine (row_put_in around view table columns key earlier next cells) (λ change.
        made (λ others. change ∷ others) (rows_given around view table columns key (earlier ++ change.key ∷ []) (next +ℤ pos (row_draws cells)) rows))
        (put_fine earlier next cells)
        (λ change. made_fine (λ others. change ∷ others) (rows_given around view table columns key (earlier ++ change.key ∷ []) (next +ℤ pos (row_draws cells)) rows)
        (rows_fine rows (earlier ++ change.key ∷ []) (next +ℤ pos (row_draws cells))))

  spent_fine : (b : Truth) (o : Coded (List Change)) → IsFine o → IsFine {A = List Change} (if b then Err spent else o)
  spent_fine true o is = by_two spent refl
  spent_fine false o is = is

  insert_fine : (view : View) (table : Option TableDef) (next : ℤ) (insert : CheckedInsert) → IsFine (insert_in around view table next insert)
  insert_fine view table next insert =
      spent_fine (is_spent (last_serial (serial_kind table)) next (all_draws insert.rows)) (rows_given around view insert.table (columns_of table) (key_column table) [] next insert.rows)
      (rows_fine view insert.table (columns_of table) (key_column table) insert.rows [] next)

  -- UPDATE
  set_fine : (columns : List ColumnDef) (old : Row) (s : TypedSet) → IsFine (set_value around columns old s)
  set_fine columns old s =
      behind_fine (value_in (at_row around old) s.expr) (as_column (kind_at columns s.column)) (each_value (at_row around old) s.expr) (column_fine (kind_at columns s.column))

  sets_fine : (columns : List ColumnDef) (sets : List TypedSet) (old : Row) → IsFine (cells_set around columns sets old)
  sets_fine columns sets old =
      made_fine (λ values. put_sets sets values old.cells) (all_of (map (set_value around columns old) sets))
      (all_fine (map (set_value around columns old) sets) (each_fine (set_value around columns old) sets (set_fine columns old)))

  row_fine : (columns : List ColumnDef) (sets : List TypedSet) (old : Row) → IsFine (updated_row around columns sets old)
  row_fine columns sets old =
      behind_fine (cells_set around columns sets old) (λ cells. behind (not_lacking columns cells) (λ cells. fitting (row_of cells))) (sets_fine columns sets old)
      (λ cells. behind_fine (not_lacking columns cells) (λ cells. fitting (row_of cells)) (lacking_fine columns cells) (λ cells. fitting_fine (row_of cells)))

  updated_fine : (columns : List ColumnDef) (change : CheckedChange) (e : Option Entry) → IsFine (updated around columns change e)
  updated_fine columns change None = tt
  updated_fine columns change (Some e) =
      made_fine (λ row. Some (changed change.table e.key (Some row))) (updated_row around columns change.sets e.row) (row_fine columns change.sets e.row)

  change_fine : (view : View) (columns : List ColumnDef) (change : CheckedChange) → IsFine (change_in around view columns change)
  change_fine view columns change =
      walked_fine (change_of around columns change) (entries_in view change.table)
      (λ e. behind_fine (kept around change.filter e) (updated around columns change) (kept_fine change.filter e) (updated_fine columns change))

  -- DELETE
  remove_fine : (view : View) (remove : CheckedRemove) → IsFine (remove_in around view remove)
  remove_fine view remove =
      walked_fine (removal_of around remove) (entries_in view remove.table) (λ e. made_fine (removed remove.table) (kept around remove.filter e) (kept_fine remove.filter e))

  statement_fine : (tables : List TableDef) (b : CheckedBody) (view : View) (next : ℤ) → IsFine (given_by around tables b view next)
  statement_fine tables (body.Read read) view next = made_fine Reads (read_in around view read) (read_fine view read)
  statement_fine tables (body.Insert insert) view next =
      made_fine Writes (insert_in around view (slice_get tables insert.table) next insert) (insert_fine view (slice_get tables insert.table) next insert)
  statement_fine tables (body.Change change) view next =
      made_fine Writes (change_in around view (columns_of (slice_get tables change.table)) change) (change_fine view (columns_of (slice_get tables change.table)) change)
  statement_fine tables (body.Remove remove) view next = made_fine Writes (remove_in around view remove) (remove_fine view remove)

fails_calm : (table : Option ℕ) (given : Coded effects.Given) (code : List ℕ) → given_as table given ≡ Fails code → IsFine given → IsCalm code
fails_calm table (Err told) code is fine = let same : told ≡ code = cc in subst IsCalm same fine
fails_calm table (Ok (Reads read)) code is fine = absurd (cc)
fails_calm table (Ok (Writes changes)) code is fine = absurd (cc)

-- a statement's code is neither
pub code_calm : (tables : List TableDef) (statement : Checked) (view : Rows) (next : Option ℤ) (code : List ℕ) → (effect_of tables statement view next).given ≡ Fails code → IsCalm code
code_calm tables statement view next code is =
    let given = given_by alone tables statement.body view (number_from next) in
    fails_calm (table_in statement) given code (sym (given_is tables statement view next given refl) ∙ is) (statement_fine alone tables statement.body view (number_from next))
