-- The printed lexemes of an expression of the grammar are read as that expression.
use Rattle.std.proofs.Common.{◌≡◌, ◌<◌, ◌≤◌, ◌^◌, ℕ, ◌+◌, zero, suc, ℤ, pos, negsuc, List, [], ◌∷◌, ◌++◌, length, Bool, map, sym, subst, inl, inr, arith, rules}
use Rattle.std.specs.Prelude.{codes}
use Rattle.std.specs.List.{All, AllByRecursion, flat_map}
use Rattle.std.proofs.lemmas.Int.{ints}
use Rattle.sql_tokens.specs.declared.mark.Mark.TheVariants as marks
use Rattle.sql_tokens.specs.declared.word.Word.TheVariants as words
use Rattle.sql_tree.specs.declared.expr.Expr.{Expr, roll-Expr, map-Expr, the_lemmas}
use Rattle.sql_tree.specs.declared.expr.Expr.TheOpen.{Expr-F, ProductPart-F, SumPart-F}
use Rattle.sql_tree.specs.declared.expr.Expr.TheFolds.{ind-Expr, fold-roll-Expr}
use Rattle.sql_tree.specs.declared.expr.Expr.TheVariants as forms
use Rattle.sql_tree.specs.declared.expr.SumPart.{SumPart, fold-SumPart}
use Rattle.sql_tree.specs.declared.expr.ProductPart.{ProductPart, fold-ProductPart}
use Rattle.sql_tree.specs.Trees.{IsTree, AreParts, IsLiteral}
use Rattle.sql_expr.specs.declared.opening.Function.TheVariants as functions
use Rattle.sql_expr.specs.Grammar.{Behind}
use Rattle.sql_print.specs.Spelling.{Lexeme, word, mark, sign, whole, string, param}
use Rattle.sql_print.specs.Printed.{Printed, printed, part, part_tokens, compound, simple, enclosed, joined, test, truth, compares, negation, number, column, call, summand_tokens, factor_tokens}
use Rattle.sql_print.proofs.Forms.{printed_or, printed_and, printed_not, printed_is_null, printed_compare, printed_member, printed_concat, printed_sum, printed_product, printed_minus, printed_int, printed_str, printed_bool, printed_null, printed_param, printed_column, printed_current, printed_now, printed_transaction, printed_moment}
use Rattle.sql_profile.specs.Numbers.{greatest, number_layer, greatest_number}
use Rattle.sql_profile.proofs.Each.{Each}
use Rattle.sql_profile.proofs.RoundLayers.{tree_layer}
use Rattle.sql_profile.proofs.Levels.{onto, prim_or}
use Rattle.sql_profile.proofs.Wholes.{Operand, WholeOf, PrimitiveOf, or_whole, and_whole, concat_whole, sum_whole, product_whole, tests_whole, compare_whole, member_whole, not_whole, minus_whole, least_whole, parenthesis_part, int_part, column_part, truth_part, call_part, string_part, null_part, param_part, current_part, moment_part}

-- what is printed is read as the expression, alone and as a part, where enough nestings may be open
pub record IsRead (p : Printed) (e : Expr) : Type 0 where
  pub depth : ℕ
  pub alone : (d : ℕ) → depth ≤ d → WholeOf d p.tokens e
  pub as_part : (d : ℕ) → depth ≤ d → PrimitiveOf d (part p) e

read_compound : (tokens : List Lexeme) (depth : ℕ) (e : Expr) → ((d : ℕ) → depth ≤ d → WholeOf d tokens e) → IsRead (compound tokens) e
read_compound tokens depth e reads = record { depth = suc depth; alone = λ d above. reads d (omega arith); as_part = parts }
  where
    parts : (d : ℕ) → suc depth ≤ d → PrimitiveOf d (enclosed tokens) e
    parts zero above = absurd (omega arith)
    parts (suc d) above = parenthesis_part d tokens e (reads d (omega arith))

read_simple : (tokens : List Lexeme) (depth : ℕ) (e : Expr) → ((d : ℕ) → depth ≤ d → PrimitiveOf d tokens e) → IsRead (simple tokens) e
read_simple tokens depth e reads =
    record { depth = depth; alone = λ d above rest. prim_or (Behind d) (onto tokens rest) e rest (reads d above rest); as_part = reads }

-- an expression of the grammar, whose numbers are of int8, is read
abbrev pub Holds : Expr → Type 0
Holds e = IsTree e → greatest_number e < 2 ^ 63 → IsRead (printed e) e

settle : (form e : Expr) (p : Printed) → form ≡ e → printed e ≡ p → IsRead p e → IsRead (printed form) form
settle form e p same prints reads =
    subst (λ (f : Expr). IsRead (printed f) f) (sym same) (subst (λ (q : Printed). IsRead q e) (sym prints) reads)

abbrev pub Layer : Type 0
Layer = Expr-F Expr ProductPart SumPart

abbrev folded_summand : SumPart → ℕ
folded_summand = fold-SumPart ℕ ℕ ℕ number_layer (λ factor. factor.part) (λ summand. summand.part)

abbrev folded_factor : ProductPart → ℕ
folded_factor = fold-ProductPart ℕ ℕ ℕ number_layer (λ factor. factor.part) (λ summand. summand.part)

summand_number : (s : SumPart) → folded_summand s ≡ greatest_number s.part
summand_number s = search (rules, the_lemmas)

factor_number : (s : ProductPart) → folded_factor s ≡ greatest_number s.part
factor_number s = search (rules, the_lemmas)

-- the greatest number of a layer
pub reaches : (x : Layer) → greatest_number (roll-Expr x) ≡ number_layer (map-Expr Expr ProductPart SumPart ℕ ℕ ℕ greatest_number folded_factor folded_summand x)
reaches x = fold-roll-Expr ℕ ℕ ℕ number_layer (λ factor. factor.part) (λ summand. summand.part) x

pub each_from : {X : Type 0} (P : X → Type 0) (xs : List X) → AllByRecursion P xs → Each P xs
each_from P [] all = tt
each_from P (x ∷ xs) all = (all.0, each_from P xs all.1)

pub each_within : {X : Type 0} (P : X → Type 0) (xs : List X) → All P xs → Each P xs
each_within P [] all = tt
each_within P (x ∷ xs) all = (all zero x (omega arith), each_within P xs (λ k d below. all (suc k) d (omega arith)))

-- a number as a tree has it is read
literal_read : (n : ℤ) → IsLiteral n → number_layer (Expr-F.Int n) < 2 ^ 63 → IsRead (number n) (forms.Int n)
literal_read (pos n) literal low = read_simple (whole n ∷ []) 0 (forms.Int (pos n)) (λ d above. int_part d n low)
literal_read (negsuc n) (inl positive) low = absurd (omega (arith, ints))
literal_read (negsuc n) (inr is) low = read_compound (sign ∷ whole (suc n) ∷ []) 1 (forms.Int (negsuc n)) negative
  where
    negative : (d : ℕ) → 1 ≤ d → WholeOf d (sign ∷ whole (suc n) ∷ []) (forms.Int (negsuc n))
    negative zero above = absurd (omega arith)
    negative (suc d) above =
        let exact : negsuc n ≡ negsuc 9223372036854775807 = is in
        let same : n ≡ 9223372036854775807 = cc in
        subst (λ (k : ℕ). WholeOf (suc d) (sign ∷ whole (suc k) ∷ []) (forms.Int (negsuc k))) (sym same) (least_whole d)

-- several are read, where enough nestings may be open
pub record AreRead {A : Type 0} (e_of : A → Expr) (items : List A) : Type 0 where
  pub deepest : ℕ
  pub all : (d : ℕ) → deepest ≤ d → Each (λ a. Operand d (e_of a)) items

more_read : {A : Type 0} (e_of : A → Expr) (a : A) (items : List A) → IsRead (printed (e_of a)) (e_of a) → AreRead e_of items → AreRead e_of (a ∷ items)
more_read e_of a items one others =
    record { deepest = one.depth + others.deepest; all = λ d above. (one.as_part d (omega arith), others.all d (omega arith)) }

none_read : {A : Type 0} (e_of : A → Expr) → AreRead e_of []
none_read e_of = record { deepest = 0; all = λ d above. tt }

module _ {X Y Z : Type 0} (e_of : X → Expr) (p_of : Y → ProductPart) (s_of : Z → SumPart) (ex : (x : X) → Holds (e_of x)) (py : (y : Y) → Holds (p_of y).part) (sz : (z : Z) → Holds (s_of z).part) where
  operands : (xs : List X) → Each IsTree (map e_of xs) → greatest (map greatest_number (map e_of xs)) < 2 ^ 63 → AreRead (λ e. e) (map e_of xs)
  operands [] trees low = none_read (λ e. e)
  operands (x ∷ xs) trees low = more_read (λ e. e) (e_of x) (map e_of xs) (ex x trees.0 (omega arith)) (operands xs trees.1 (omega arith))

  summands : (zs : List Z) → Each (λ s. IsTree s.part) (map s_of zs) → greatest (map folded_summand (map s_of zs)) < 2 ^ 63 → AreRead (λ s. s.part) (map s_of zs)
  summands [] trees low = none_read (λ s. s.part)
  summands (z ∷ zs) trees low =
      let same = summand_number (s_of z) in
      more_read (λ s. s.part) (s_of z) (map s_of zs) (sz z trees.0 (omega arith)) (summands zs trees.1 (omega arith))

  factors : (ys : List Y) → Each (λ s. IsTree s.part) (map p_of ys) → greatest (map folded_factor (map p_of ys)) < 2 ^ 63 → AreRead (λ s. s.part) (map p_of ys)
  factors [] trees low = none_read (λ s. s.part)
  factors (y ∷ ys) trees low =
      let same = factor_number (p_of y) in
      more_read (λ s. s.part) (p_of y) (map p_of ys) (py y trees.0 (omega arith)) (factors ys trees.1 (omega arith))

  -- the number of a layer, by its parts
  low_layer : (x : Layer) → greatest_number (roll-Expr x) < 2 ^ 63
      → number_layer (map-Expr Expr ProductPart SumPart ℕ ℕ ℕ greatest_number folded_factor folded_summand x) < 2 ^ 63
  low_layer x low = subst (λ (n : ℕ). n < 2 ^ 63) (reaches x) low

  -- chains of two parts or more
  chain_read : (xs : List X) (tokens : List Lexeme) (e : Expr) → AreParts IsTree 2 (map e_of xs) → greatest (map greatest_number (map e_of xs)) < 2 ^ 63
      → ((d : ℕ) → Each (Operand d) (map e_of xs) → WholeOf d tokens e) → IsRead (compound tokens) e
  chain_read xs tokens e trees low reads =
      let parts = operands xs (each_from IsTree (map e_of xs) trees.1) low in
      read_compound tokens parts.deepest e (λ d above. reads d (parts.all d above))

  or_two : (d : ℕ) (es : List Expr) → 2 ≤ length es → Each (Operand d) es → WholeOf d (joined (word words.Or) part_tokens es) (forms.Or es)
  or_two d [] two each = absurd (omega arith)
  or_two d (e ∷ []) two each = absurd (omega arith)
  or_two d (e ∷ f ∷ es) two each = or_whole d e (f ∷ es) each.0 each.1

  and_two : (d : ℕ) (es : List Expr) → 2 ≤ length es → Each (Operand d) es → WholeOf d (joined (word words.And) part_tokens es) (forms.And es)
  and_two d [] two each = absurd (omega arith)
  and_two d (e ∷ []) two each = absurd (omega arith)
  and_two d (e ∷ f ∷ es) two each = and_whole d e (f ∷ es) each.0 each.1

  concat_two : (d : ℕ) (es : List Expr) → 2 ≤ length es → Each (Operand d) es → WholeOf d (joined (mark marks.Bars) part_tokens es) (forms.Concat es)
  concat_two d [] two each = absurd (omega arith)
  concat_two d (e ∷ []) two each = absurd (omega arith)
  concat_two d (e ∷ f ∷ es) two each = concat_whole d e (f ∷ es) each.0 each.1

  sum_one : (d : ℕ) (e : Expr) (ss : List SumPart) → 1 ≤ length ss → Operand d e → Each (λ s. Operand d s.part) ss → WholeOf d (part_tokens e ++ flat_map summand_tokens ss) (forms.Sum e ss)
  sum_one d e [] one x each = absurd (omega arith)
  sum_one d e (s ∷ ss) one x each = sum_whole d e (s ∷ ss) x each

  product_one : (d : ℕ) (e : Expr) (ss : List ProductPart) → 1 ≤ length ss → Operand d e → Each (λ s. Operand d s.part) ss → WholeOf d (part_tokens e ++ flat_map factor_tokens ss) (forms.Product e ss)
  product_one d e [] one x each = absurd (omega arith)
  product_one d e (s ∷ ss) one x each = product_whole d e (s ∷ ss) x each

  tests_one : (d : ℕ) (e : Expr) (tests : List Bool) → 1 ≤ length tests → Operand d e → WholeOf d (part_tokens e ++ flat_map test tests) (forms.IsNull e tests)
  tests_one d e [] one x = absurd (omega arith)
  tests_one d e (t ∷ tests) one x = tests_whole d e (t ∷ tests) x

  not_one : (d depth : ℕ) (e : Expr) → suc depth ≤ d → ((k : ℕ) → depth ≤ k → Operand k e) → WholeOf d (word words.Not ∷ part_tokens e) (forms.Not e)
  not_one zero depth e above x = absurd (omega arith)
  not_one (suc d) depth e above x = not_whole d e (x d (omega arith))

  minus_one : (d depth : ℕ) (e : Expr) → suc depth ≤ d → ((k : ℕ) → depth ≤ k → Operand k e) → WholeOf d (sign ∷ part_tokens e) (forms.Minus e)
  minus_one zero depth e above x = absurd (omega arith)
  minus_one (suc d) depth e above x = minus_whole d e (x d (omega arith))

  member_one : (d deep : ℕ) (negated : Bool) (e : Expr) (es : List Expr) → suc deep ≤ d → 1 ≤ length es → Operand d e → ((k : ℕ) → deep ≤ k → Each (Operand k) es)
      → WholeOf d (part_tokens e ++ (negation negated ++ word words.In ∷ enclosed (joined (mark marks.Comma) part_tokens es))) (forms.Member e negated es)
  member_one zero deep negated e es above one x each = absurd (omega arith)
  member_one (suc d) deep negated e [] above one x each = absurd (omega arith)
  member_one (suc d) deep negated e (f ∷ es) above one x each = let here = each d (omega arith) in member_whole d negated e f es x here.0 here.1

  call_one : (d : ℕ) (called : List ℕ) (e : Expr) → 1 ≤ d → ((k : ℕ) → PrimitiveOf (suc k) (call called) e) → PrimitiveOf d (call called) e
  call_one zero called e above x = absurd (omega arith)
  call_one (suc d) called e above x = x d

  -- the layer of an expression, whose parts are read
  read_layer : (y : Expr-F X Y Z) → Holds (roll-Expr (map-Expr X Y Z Expr ProductPart SumPart e_of p_of s_of y))
  read_layer (Expr-F.Or xs) tree low =
      let es = map e_of xs in
      let parts = tree_layer (Expr-F.Or es) tree in
      settle (roll-Expr (Expr-F.Or es)) (forms.Or es) _ (forms.rolls-Or es) (printed_or es)
      (chain_read xs (joined (word words.Or) part_tokens es) (forms.Or es) parts (low_layer (Expr-F.Or es) low) (λ d each. or_two d es parts.0 each))
  read_layer (Expr-F.And xs) tree low =
      let es = map e_of xs in
      let parts = tree_layer (Expr-F.And es) tree in
      settle (roll-Expr (Expr-F.And es)) (forms.And es) _ (forms.rolls-And es) (printed_and es)
      (chain_read xs (joined (word words.And) part_tokens es) (forms.And es) parts (low_layer (Expr-F.And es) low) (λ d each. and_two d es parts.0 each))
  read_layer (Expr-F.Not x) tree low =
      let e = e_of x in
      let here = ex x (tree_layer (Expr-F.Not e) tree) (low_layer (Expr-F.Not e) low) in
      settle (roll-Expr (Expr-F.Not e)) (forms.Not e) _ (forms.rolls-Not e) (printed_not e)
      (read_compound (word words.Not ∷ part_tokens e) (suc here.depth) (forms.Not e) (λ d above. not_one d here.depth e above here.as_part))
  read_layer (Expr-F.IsNull x tests) tree low =
      let e = e_of x in
      let parts = tree_layer (Expr-F.IsNull e tests) tree in
      let here = ex x parts.0 (low_layer (Expr-F.IsNull e tests) low) in
      settle (roll-Expr (Expr-F.IsNull e tests)) (forms.IsNull e tests) _ (forms.rolls-IsNull e tests) (printed_is_null e tests)
      (read_compound (part_tokens e ++ flat_map test tests) here.depth (forms.IsNull e tests) (λ d above. tests_one d e tests parts.1 (here.as_part d above)))
  read_layer (Expr-F.Compare how x y) tree low =
      let e = e_of x in
      let f = e_of y in
      let parts = tree_layer (Expr-F.Compare how e f) tree in
      let below = low_layer (Expr-F.Compare how e f) low in
      let left = ex x parts.0 (omega arith) in
      let right = ex y parts.1 (omega arith) in
      settle (roll-Expr (Expr-F.Compare how e f)) (forms.Compare how e f) _ (forms.rolls-Compare how e f) (printed_compare how e f)
      (read_compound (part_tokens e ++ mark (compares how) ∷ part_tokens f) (left.depth + right.depth) (forms.Compare how e f)
      (λ d above. compare_whole d how e f (left.as_part d (omega arith)) (right.as_part d (omega arith))))
  read_layer (Expr-F.Member x negated xs) tree low =
      let e = e_of x in
      let es = map e_of xs in
      let parts = tree_layer (Expr-F.Member e negated es) tree in
      let below = low_layer (Expr-F.Member e negated es) low in
      let left = ex x parts.0 (omega arith) in
      let entries = operands xs (each_from IsTree es parts.1.1) (omega arith) in
      settle (roll-Expr (Expr-F.Member e negated es)) (forms.Member e negated es) _ (forms.rolls-Member e negated es) (printed_member e negated es)
      (read_compound (part_tokens e ++ (negation negated ++ word words.In ∷ enclosed (joined (mark marks.Comma) part_tokens es)))
      (left.depth + suc entries.deepest) (forms.Member e negated es)
      (λ d above. member_one d entries.deepest negated e es (omega arith) parts.1.0 (left.as_part d (omega arith)) entries.all))
  read_layer (Expr-F.Concat xs) tree low =
      let es = map e_of xs in
      let parts = tree_layer (Expr-F.Concat es) tree in
      settle (roll-Expr (Expr-F.Concat es)) (forms.Concat es) _ (forms.rolls-Concat es) (printed_concat es)
      (chain_read xs (joined (mark marks.Bars) part_tokens es) (forms.Concat es) parts (low_layer (Expr-F.Concat es) low) (λ d each. concat_two d es parts.0 each))
  read_layer (Expr-F.Sum x zs) tree low =
      let e = e_of x in
      let ss = map s_of zs in
      let parts = tree_layer (Expr-F.Sum e ss) tree in
      let below = low_layer (Expr-F.Sum e ss) low in
      let left = ex x parts.0 (omega arith) in
      let others = summands zs (each_from (λ s. IsTree s.part) ss parts.1.1) (omega arith) in
      settle (roll-Expr (Expr-F.Sum e ss)) (forms.Sum e ss) _ (forms.rolls-Sum e ss) (printed_sum e ss)
      (read_compound (part_tokens e ++ flat_map summand_tokens ss) (left.depth + others.deepest) (forms.Sum e ss)
      (λ d above. sum_one d e ss parts.1.0 (left.as_part d (omega arith)) (others.all d (omega arith))))
  read_layer (Expr-F.Product x ys) tree low =
      let e = e_of x in
      let ss = map p_of ys in
      let parts = tree_layer (Expr-F.Product e ss) tree in
      let below = low_layer (Expr-F.Product e ss) low in
      let left = ex x parts.0 (omega arith) in
      let others = factors ys (each_from (λ s. IsTree s.part) ss parts.1.1) (omega arith) in
      settle (roll-Expr (Expr-F.Product e ss)) (forms.Product e ss) _ (forms.rolls-Product e ss) (printed_product e ss)
      (read_compound (part_tokens e ++ flat_map factor_tokens ss) (left.depth + others.deepest) (forms.Product e ss)
      (λ d above. product_one d e ss parts.1.0 (left.as_part d (omega arith)) (others.all d (omega arith))))
  read_layer (Expr-F.Minus x) tree low =
      let e = e_of x in
      let here = ex x (tree_layer (Expr-F.Minus e) tree) (low_layer (Expr-F.Minus e) low) in
      settle (roll-Expr (Expr-F.Minus e)) (forms.Minus e) _ (forms.rolls-Minus e) (printed_minus e)
      (read_compound (sign ∷ part_tokens e) (suc here.depth) (forms.Minus e) (λ d above. minus_one d here.depth e above here.as_part))
  read_layer (Expr-F.Int n) tree low =
      settle (roll-Expr (Expr-F.Int n)) (forms.Int n) (number n) (forms.rolls-Int n) (printed_int n)
      (literal_read n (tree_layer (Expr-F.Int n) tree) (low_layer (Expr-F.Int n) low))
  read_layer (Expr-F.Str text) tree low =
      settle (roll-Expr (Expr-F.Str text)) (forms.Str text) _ (forms.rolls-Str text) (printed_str text)
      (read_simple (string text ∷ []) 0 (forms.Str text) (λ d above. string_part d text))
  read_layer (Expr-F.Bool given) tree low =
      settle (roll-Expr (Expr-F.Bool given)) (forms.Bool given) _ (forms.rolls-Bool given) (printed_bool given)
      (read_simple (truth given ∷ []) 0 (forms.Bool given) (λ d above. truth_part d given))
  read_layer Expr-F.Null tree low =
      settle (roll-Expr Expr-F.Null) forms.Null _ forms.rolls-Null printed_null (read_simple (word words.Null ∷ []) 0 forms.Null (λ d above. null_part d))
  read_layer (Expr-F.Param n) tree low =
      settle (roll-Expr (Expr-F.Param n)) (forms.Param n) _ (forms.rolls-Param n) (printed_param n)
      (read_simple (param n ∷ []) 0 (forms.Param n) (λ d above. param_part d n))
  read_layer (Expr-F.Column qualifier called) tree low =
      settle (roll-Expr (Expr-F.Column qualifier called)) (forms.Column qualifier called) _ (forms.rolls-Column qualifier called) (printed_column qualifier called)
      (read_simple (column qualifier called) 0 (forms.Column qualifier called) (λ d above. column_part d qualifier called))
  read_layer Expr-F.CurrentTimestamp tree low =
      settle (roll-Expr Expr-F.CurrentTimestamp) forms.CurrentTimestamp _ forms.rolls-CurrentTimestamp printed_current
      (read_simple (word words.CurrentTimestamp ∷ []) 0 forms.CurrentTimestamp (λ d above. current_part d))
  read_layer Expr-F.Now tree low =
      settle (roll-Expr Expr-F.Now) forms.Now _ forms.rolls-Now printed_now
      (read_simple (call (codes "now")) 1 forms.Now (λ d above. call_one d (codes "now") forms.Now above (λ k. call_part k functions.Now)))
  read_layer Expr-F.TransactionTimestamp tree low =
      settle (roll-Expr Expr-F.TransactionTimestamp) forms.TransactionTimestamp _ forms.rolls-TransactionTimestamp printed_transaction
      (read_simple (call (codes "transaction_timestamp")) 1 forms.TransactionTimestamp
      (λ d above. call_one d (codes "transaction_timestamp") forms.TransactionTimestamp above (λ k. call_part k functions.TransactionTimestamp)))
  read_layer (Expr-F.Moment text) tree low =
      settle (roll-Expr (Expr-F.Moment text)) (forms.Moment text) _ (forms.rolls-Moment text) (printed_moment text)
      (read_simple (word words.Timestamptz ∷ string text ∷ []) 0 (forms.Moment text) (λ d above. moment_part d text))

from_layer : {X Y Z : Type 0} (y : Expr-F X Y Z) (e_of : X → Expr) (p_of : Y → ProductPart) (s_of : Z → SumPart)
    → ((x : X) → Holds (e_of x)) → ((y : Y) → Holds (p_of y).part) → ((z : Z) → Holds (s_of z).part)
    → Holds (roll-Expr (map-Expr X Y Z Expr ProductPart SumPart e_of p_of s_of y))
from_layer y e_of p_of s_of ex py sz = read_layer e_of p_of s_of ex py sz y

pub read_expr : (e : Expr) → Holds e
read_expr = ind-Expr Holds (λ p. Holds p.part) (λ s. Holds s.part)
    (λ x y is. subst (λ (z : Expr-F Expr ProductPart SumPart). Holds (roll-Expr z)) is (from_layer y (λ e. e.0) (λ p. p.0) (λ s. s.0) (λ e. e.1) (λ p. p.1) (λ s. s.1)))
    (λ x y is. subst (λ (z : ProductPart-F Expr ProductPart SumPart). Holds z.part) is y.part.1)
    (λ x y is. subst (λ (z : SumPart-F Expr ProductPart SumPart). Holds z.part) is y.part.1)
