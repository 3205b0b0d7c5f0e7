-- The tokens of each form of an expression, whose parts stand as operands, are of the grammar.
use Rattle.std.proofs.Common.{◌≡◌, ◌∙◌, ◌<◌, ℕ, suc, pos, ◌^◌, not, List, [], ◌∷◌, ◌++◌, Bool, true, false, Option, Some, None, refl, sym, ap, subst, inl, inr, lt-ltb}
use Rattle.std.specs.Prelude.{nat_lt, if◌then◌else◌, ◌==◌}
use Rattle.std.specs.List.{flat_map}
use Rattle.std.proofs.lemmas.Bool.{cond-true}
use Rattle.sql_tokens.specs.Grammar.{TailOf, ChainedOf, part}
use Rattle.sql_tokens.specs.declared.mark.Mark.TheVariants as mark
use Rattle.sql_tokens.specs.declared.token.Token.{Token}
use Rattle.sql_tokens.specs.declared.token.Token.TheVariants as token
use Rattle.sql_tokens.specs.declared.token.TokenFault.TheVariants.{OutOfRange}
use Rattle.sql_tokens.specs.declared.word.Word.TheVariants as word
use Rattle.sql_tokens.specs.Pieces.{whole_token}
use Rattle.sql_tree.specs.declared.expr.Comparison.{Comparison}
use Rattle.sql_tree.specs.declared.expr.Comparison.TheVariants as comparison
use Rattle.sql_tree.specs.declared.expr.Expr.{Expr, Not, Compare, Member, Minus, Int, Str, Null, Param, Column, CurrentTimestamp, Moment}
use Rattle.sql_tree.specs.declared.expr.Expr.{Bool as Truth}
use Rattle.sql_tree.specs.declared.expr.SumPart.{SumPart}
use Rattle.sql_tree.specs.declared.expr.ProductPart.{ProductPart}
use Rattle.sql_tree.specs.declared.expr.ProductSign.{ProductSign}
use Rattle.sql_tree.specs.declared.expr.ProductSign.TheVariants as product_sign
use Rattle.sql_expr.specs.declared.opening.Function.{Function}
use Rattle.sql_expr.specs.Grammar.{least, or_word, and_word, is_word, bars, comma, sign, factor_sign, comparison_mark, function_word, function_tree, or_of, and_of, tests_of, concat_of, sum_of, product_of, list_of, sum_part, product_part, PrimOf, number, string, truth, falsehood, null, parameter, column, qualified, parenthesis, current, call, moment, UnOf, negative, prim, ProductOf, SumOf, CatOf, ListOf, within, without, CmpOf, mem, compared, NullityOf, TestOf, NotOf, negated, test, AndOf, OrOf, Behind}
use Rattle.sql_print.specs.Spelling.{Lexeme, is_plain}
use Rattle.sql_print.specs.Spelling as lexeme
use Rattle.sql_print.specs.Printed.{enclosed, joined, compares, multiplies, adds, negation, part_tokens, summand_tokens, factor_tokens}
use Rattle.sql_print.specs.Printed.{test as null_test, truth as truth_word, column as column_tokens, call as call_tokens}
use Rattle.sql_profile.specs.Lexemes.{token_of}
use Rattle.sql_profile.proofs.Each.{Each, each_map}
use Rattle.sql_profile.proofs.Levels.{onto, onto_append, tail_of, chain_of, prim_product, prim_sum, prim_cat, prim_mem, prim_cmp, prim_not, prim_and, prim_or, not_or, cmp_or, cat_or, sum_or, product_or, un_or, and_or}

-- the expression's tokens stand as an operand, where so many nestings may begin
abbrev pub Operand : ℕ → Expr → Type 0
Operand d e = (rest : List Token) → PrimOf (Behind d) (onto (part_tokens e) rest) e rest

-- tokens are the expression's, where so many nestings may begin
abbrev pub WholeOf : ℕ → List Lexeme → Expr → Type 0
WholeOf d tokens e = (rest : List Token) → OrOf (Behind d) (onto tokens rest) e rest

-- ---- chains

pub or_whole : (d : ℕ) (e : Expr) (es : List Expr) → Operand d e → Each (Operand d) es → WholeOf d (joined (lexeme.word word.Or) part_tokens (e ∷ es)) (or_of e es)
unfolding OrOf
or_whole d e es one others =
    chain_of or_word part (AndOf (Behind d)) or_of (AndOf (Behind d)) (part_tokens e) (flat_map (λ y. lexeme.word word.Or ∷ part_tokens y) es) e es
    (λ rest. prim_and (Behind d) (onto (part_tokens e) rest) e rest (one rest))
    (tail_of or_word part (AndOf (Behind d)) (λ _. lexeme.word word.Or) part_tokens (λ _. tt) (λ x. x) (λ _. refl) (λ _. refl) es
    (each_map (λ x y rest. prim_and (Behind d) (onto (part_tokens x) rest) x rest (y rest)) es others))

and_chain : (d : ℕ) (e : Expr) (es : List Expr) → Operand d e → Each (Operand d) es → (rest : List Token)
    → AndOf (Behind d) (onto (joined (lexeme.word word.And) part_tokens (e ∷ es)) rest) (and_of e es) rest
unfolding AndOf
and_chain d e es one others =
    chain_of and_word part (NotOf (Behind d)) and_of (NotOf (Behind d)) (part_tokens e) (flat_map (λ y. lexeme.word word.And ∷ part_tokens y) es) e es
    (λ rest. prim_not (Behind d) (onto (part_tokens e) rest) e rest (one rest))
    (tail_of and_word part (NotOf (Behind d)) (λ _. lexeme.word word.And) part_tokens (λ _. tt) (λ x. x) (λ _. refl) (λ _. refl) es
    (each_map (λ x y rest. prim_not (Behind d) (onto (part_tokens x) rest) x rest (y rest)) es others))

pub and_whole : (d : ℕ) (e : Expr) (es : List Expr) → Operand d e → Each (Operand d) es → WholeOf d (joined (lexeme.word word.And) part_tokens (e ∷ es)) (and_of e es)
and_whole d e es one others rest = and_or (Behind d) (onto (joined (lexeme.word word.And) part_tokens (e ∷ es)) rest) (and_of e es) rest (and_chain d e es one others rest)

cat_chain : (d : ℕ) (e : Expr) (es : List Expr) → Operand d e → Each (Operand d) es → (rest : List Token)
    → CatOf (Behind d) (onto (joined (lexeme.mark mark.Bars) part_tokens (e ∷ es)) rest) (concat_of e es) rest
unfolding CatOf
cat_chain d e es one others =
    chain_of bars part (SumOf (Behind d)) concat_of (SumOf (Behind d)) (part_tokens e) (flat_map (λ y. lexeme.mark mark.Bars ∷ part_tokens y) es) e es
    (λ rest. prim_sum (Behind d) (onto (part_tokens e) rest) e rest (one rest))
    (tail_of bars part (SumOf (Behind d)) (λ _. lexeme.mark mark.Bars) part_tokens (λ _. tt) (λ x. x) (λ _. refl) (λ _. refl) es
    (each_map (λ x y rest. prim_sum (Behind d) (onto (part_tokens x) rest) x rest (y rest)) es others))

pub concat_whole : (d : ℕ) (e : Expr) (es : List Expr) → Operand d e → Each (Operand d) es → WholeOf d (joined (lexeme.mark mark.Bars) part_tokens (e ∷ es)) (concat_of e es)
concat_whole d e es one others rest = cat_or (Behind d) (onto (joined (lexeme.mark mark.Bars) part_tokens (e ∷ es)) rest) (concat_of e es) rest (cat_chain d e es one others rest)

adds_sign : (s : SumPart) → token_of (lexeme.mark (adds s.minus)) ≡ sign s.minus
adds_sign s = go s.minus
  where
    go : (minus : Bool) → token_of (lexeme.mark (adds minus)) ≡ sign minus
    go true = refl
    go false = refl

sum_chain : (d : ℕ) (e : Expr) (ss : List SumPart) → Operand d e → Each (λ s. Operand d s.part) ss → (rest : List Token)
    → SumOf (Behind d) (onto (part_tokens e ++ flat_map summand_tokens ss) rest) (sum_of e ss) rest
unfolding SumOf
sum_chain d e ss one others =
    chain_of sign sum_part (ProductOf (Behind d)) sum_of (ProductOf (Behind d)) (part_tokens e) (flat_map summand_tokens ss) e ss
    (λ rest. prim_product (Behind d) (onto (part_tokens e) rest) e rest (one rest))
    (tail_of sign sum_part (ProductOf (Behind d)) (λ s. lexeme.mark (adds s.minus)) (λ s. part_tokens s.part) (λ s. s.minus) (λ s. s.part) adds_sign (λ _. refl) ss
    (each_map (λ x y rest. prim_product (Behind d) (onto (part_tokens x.part) rest) x.part rest (y rest)) ss others))

pub sum_whole : (d : ℕ) (e : Expr) (ss : List SumPart) → Operand d e → Each (λ s. Operand d s.part) ss → WholeOf d (part_tokens e ++ flat_map summand_tokens ss) (sum_of e ss)
sum_whole d e ss one others rest = sum_or (Behind d) (onto (part_tokens e ++ flat_map summand_tokens ss) rest) (sum_of e ss) rest (sum_chain d e ss one others rest)

multiplies_sign : (s : ProductPart) → token_of (lexeme.mark (multiplies s.sign)) ≡ factor_sign s.sign
multiplies_sign s = go s.sign
  where
    go : (sign : ProductSign) → token_of (lexeme.mark (multiplies sign)) ≡ factor_sign sign
    go product_sign.Times = refl
    go product_sign.Over = refl
    go product_sign.Rest = refl

product_chain : (d : ℕ) (e : Expr) (ss : List ProductPart) → Operand d e → Each (λ s. Operand d s.part) ss → (rest : List Token)
    → ProductOf (Behind d) (onto (part_tokens e ++ flat_map factor_tokens ss) rest) (product_of e ss) rest
unfolding ProductOf
product_chain d e ss one others =
    chain_of factor_sign product_part (UnOf (Behind d)) product_of (UnOf (Behind d)) (part_tokens e) (flat_map factor_tokens ss) e ss
    (λ rest. prim (one rest))
    (tail_of factor_sign product_part (UnOf (Behind d)) (λ s. lexeme.mark (multiplies s.sign)) (λ s. part_tokens s.part) (λ s. s.sign) (λ s. s.part) multiplies_sign (λ _. refl) ss
    (each_map (λ x y rest. prim (y rest)) ss others))

pub product_whole : (d : ℕ) (e : Expr) (ss : List ProductPart) → Operand d e → Each (λ s. Operand d s.part) ss → WholeOf d (part_tokens e ++ flat_map factor_tokens ss) (product_of e ss)
product_whole d e ss one others rest = product_or (Behind d) (onto (part_tokens e ++ flat_map factor_tokens ss) rest) (product_of e ss) rest (product_chain d e ss one others rest)

tests_tail : (tests : List Bool) (rest : List Token) → TailOf is_word part NullityOf (onto (flat_map null_test tests) rest) tests rest
tests_tail [] rest = refl
tests_tail (true ∷ tests) rest =
    (tt, onto (lexeme.word word.Not ∷ lexeme.word word.Null ∷ flat_map null_test tests) rest, true, onto (flat_map null_test tests) rest, refl, inr (refl, refl), refl, tests_tail tests rest)
tests_tail (false ∷ tests) rest =
    (tt, onto (lexeme.word word.Null ∷ flat_map null_test tests) rest, false, onto (flat_map null_test tests) rest, refl, inl (refl, refl), refl, tests_tail tests rest)

tests_chain : (d : ℕ) (e : Expr) (tests : List Bool) → Operand d e → (rest : List Token)
    → TestOf (Behind d) (onto (part_tokens e ++ flat_map null_test tests) rest) (tests_of e tests) rest
unfolding TestOf
tests_chain d e tests one =
    chain_of is_word part NullityOf tests_of (CmpOf (Behind d)) (part_tokens e) (flat_map null_test tests) e tests
    (λ rest. prim_cmp (Behind d) (onto (part_tokens e) rest) e rest (one rest)) (tests_tail tests)

pub tests_whole : (d : ℕ) (e : Expr) (tests : List Bool) → Operand d e → WholeOf d (part_tokens e ++ flat_map null_test tests) (tests_of e tests)
tests_whole d e tests one rest = not_or (Behind d) (onto (part_tokens e ++ flat_map null_test tests) rest) (tests_of e tests) rest (test (tests_chain d e tests one rest))

-- ---- two operands, and lists

compares_mark : (how : Comparison) → token_of (lexeme.mark (compares how)) ≡ comparison_mark how
compares_mark comparison.Equal = refl
compares_mark comparison.Unequal = refl
compares_mark comparison.Less = refl
compares_mark comparison.AtMost = refl
compares_mark comparison.Greater = refl
compares_mark comparison.AtLeast = refl

pub compare_whole : (d : ℕ) (how : Comparison) (e f : Expr) → Operand d e → Operand d f → WholeOf d (part_tokens e ++ lexeme.mark (compares how) ∷ part_tokens f) (Compare how e f)
compare_whole d how e f one other rest =
    let mid = onto (part_tokens f) rest in
    let parts : onto (part_tokens e ++ lexeme.mark (compares how) ∷ part_tokens f) rest ≡ onto (part_tokens e) (comparison_mark how ∷ mid) =
    onto_append (part_tokens e) (lexeme.mark (compares how) ∷ part_tokens f) rest ∙ ap (λ (t : Token). onto (part_tokens e) (t ∷ mid)) (compares_mark how) in
    subst (λ (ts : List Token). OrOf (Behind d) ts (Compare how e f) rest) (sym parts)
    (cmp_or (Behind d) (onto (part_tokens e) (comparison_mark how ∷ mid)) (Compare how e f) rest
    (compared how e f mid (prim_mem (Behind d) (onto (part_tokens e) (comparison_mark how ∷ mid)) e (comparison_mark how ∷ mid) (one (comparison_mark how ∷ mid)))
    (prim_mem (Behind d) mid f rest (other rest)) refl))

list_whole : (d : ℕ) (e : Expr) (es : List Expr) → Operand d e → Each (Operand d) es → (rest : List Token)
    → ListOf (Behind (suc d)) (onto (enclosed (joined (lexeme.mark mark.Comma) part_tokens (e ∷ es))) rest) (e ∷ es) rest
unfolding ListOf Behind
list_whole d e es one others rest =
    let listed = joined (lexeme.mark mark.Comma) part_tokens (e ∷ es) in
    let closed = token.Mark mark.Close ∷ rest in (
      onto (listed ++ lexeme.mark mark.Close ∷ []) rest,
      refl,
      subst (λ (ts : List Token). ChainedOf comma part (OrOf (Behind d)) list_of (OrOf (Behind d)) ts (e ∷ es) closed)
          (sym (onto_append listed (lexeme.mark mark.Close ∷ []) rest))
          (chain_of comma part (OrOf (Behind d)) list_of (OrOf (Behind d)) (part_tokens e) (flat_map (λ y. lexeme.mark mark.Comma ∷ part_tokens y) es) e es
          (λ rest. prim_or (Behind d) (onto (part_tokens e) rest) e rest (one rest))
          (tail_of comma part (OrOf (Behind d)) (λ _. lexeme.mark mark.Comma) part_tokens (λ _. tt) (λ x. x) (λ _. refl) (λ _. refl) es
          (each_map (λ x y rest. prim_or (Behind d) (onto (part_tokens x) rest) x rest (y rest)) es others))
          closed),
    )

pub member_whole : (d : ℕ) (negated : Bool) (x e : Expr) (es : List Expr) → Operand (suc d) x → Operand d e → Each (Operand d) es
    → WholeOf (suc d) (part_tokens x ++ (negation negated ++ lexeme.word word.In ∷ enclosed (joined (lexeme.mark mark.Comma) part_tokens (e ∷ es)))) (Member x negated (e ∷ es))
member_whole d true x e es left one others rest =
    let listed = enclosed (joined (lexeme.mark mark.Comma) part_tokens (e ∷ es)) in
    let mid = onto listed rest in
    let here = token.Word word.Not ∷ token.Word word.In ∷ mid in
    subst (λ (ts : List Token). OrOf (Behind (suc d)) ts (Member x true (e ∷ es)) rest)
    (sym (onto_append (part_tokens x) (negation true ++ lexeme.word word.In ∷ listed) rest))
    (cmp_or (Behind (suc d)) (onto (part_tokens x) here) (Member x true (e ∷ es)) rest
    (mem (without x mid (e ∷ es) (prim_cat (Behind (suc d)) (onto (part_tokens x) here) x here (left here)) (list_whole d e es one others rest) refl)))
member_whole d false x e es left one others rest =
    let listed = enclosed (joined (lexeme.mark mark.Comma) part_tokens (e ∷ es)) in
    let mid = onto listed rest in
    let here = token.Word word.In ∷ mid in
    subst (λ (ts : List Token). OrOf (Behind (suc d)) ts (Member x false (e ∷ es)) rest)
    (sym (onto_append (part_tokens x) (negation false ++ lexeme.word word.In ∷ listed) rest))
    (cmp_or (Behind (suc d)) (onto (part_tokens x) here) (Member x false (e ∷ es)) rest
    (mem (within x mid (e ∷ es) (prim_cat (Behind (suc d)) (onto (part_tokens x) here) x here (left here)) (list_whole d e es one others rest) refl)))

-- ---- what begins a nesting

pub not_whole : (d : ℕ) (e : Expr) → Operand d e → WholeOf (suc d) (lexeme.word word.Not ∷ part_tokens e) (Not e)
unfolding Behind
not_whole d e one rest =
    not_or (Behind (suc d)) (onto (lexeme.word word.Not ∷ part_tokens e) rest) (Not e) rest
    (negated (onto (part_tokens e) rest) refl (e, prim_not (Behind d) (onto (part_tokens e) rest) e rest (one rest), refl))

pub minus_whole : (d : ℕ) (e : Expr) → Operand d e → WholeOf (suc d) (lexeme.sign ∷ part_tokens e) (Minus e)
unfolding Behind
minus_whole d e one rest =
    un_or (Behind (suc d)) (onto (lexeme.sign ∷ part_tokens e) rest) (Minus e) rest
    (negative (onto (part_tokens e) rest) refl (inr (e, prim (one rest), refl)))

pub least_whole : (d : ℕ) → WholeOf (suc d) (lexeme.sign ∷ lexeme.whole 9223372036854775808 ∷ []) (Int least)
unfolding Behind
least_whole d rest =
    un_or (Behind (suc d)) (token.Mark mark.Minus ∷ token.Least ∷ rest) (Int least) rest
    (negative (token.Least ∷ rest) refl (inl (refl, refl)))

pub parenthesis_part : (d : ℕ) (tokens : List Lexeme) (e : Expr) → WholeOf d tokens e → (rest : List Token) → PrimOf (Behind (suc d)) (onto (enclosed tokens) rest) e rest
unfolding Behind
parenthesis_part d tokens e whole rest =
    parenthesis (onto (tokens ++ lexeme.mark mark.Close ∷ []) rest) refl
    (subst (λ (ts : List Token). OrOf (Behind d) ts e (token.Mark mark.Close ∷ rest)) (sym (onto_append tokens (lexeme.mark mark.Close ∷ []) rest))
    (whole (token.Mark mark.Close ∷ rest)))

-- ---- operands

-- tokens stand as an operand
abbrev pub PrimitiveOf : ℕ → List Lexeme → Expr → Type 0
PrimitiveOf d tokens e = (rest : List Token) → PrimOf (Behind d) (onto tokens rest) e rest

pub number_token : (n : ℕ) → n < 2 ^ 63 → whole_token n ≡ token.Number (pos n)
number_token n low = cond-true (nat_lt n (2 ^ 63)) (token.Number (pos n)) (if n == 2 ^ 63 then token.Least else token.Fault OutOfRange) (lt-ltb n (2 ^ 63) low)

pub int_part : (d n : ℕ) → n < 2 ^ 63 → PrimitiveOf d (lexeme.whole n ∷ []) (Int (pos n))
int_part d n low rest = number (pos n) (ap (λ (t : Token). t ∷ rest) (number_token n low)) refl

pub column_part : (d : ℕ) (qualifier : Option (List ℕ)) (name : List ℕ) → PrimitiveOf d (column_tokens qualifier name) (Column qualifier name)
column_part d None name rest = column (record { text = name; quoted = not (is_plain name) }) refl refl
column_part d (Some table) name rest = qualified (record { text = table; quoted = not (is_plain table) }) (record { text = name; quoted = not (is_plain name) }) refl refl

pub truth_part : (d : ℕ) (given : Bool) → PrimitiveOf d (truth_word given ∷ []) (Truth given)
truth_part d true rest = truth refl refl
truth_part d false rest = falsehood refl refl

pub call_part : (d : ℕ) (f : Function) → PrimitiveOf (suc d) (call_tokens (function_word f)) (function_tree f)
unfolding Behind
call_part d f rest =
    call f (record { text = function_word f; quoted = false }) (token.Mark mark.Close ∷ rest) refl (refl, refl) (refl, refl)

pub string_part : (d : ℕ) (text : List ℕ) → PrimitiveOf d (lexeme.string text ∷ []) (Str text)
string_part d text rest = string text refl refl

pub null_part : (d : ℕ) → PrimitiveOf d (lexeme.word word.Null ∷ []) Null
null_part d rest = null refl refl

pub param_part : (d n : ℕ) → PrimitiveOf d (lexeme.param n ∷ []) (Param n)
param_part d n rest = parameter n refl refl

pub current_part : (d : ℕ) → PrimitiveOf d (lexeme.word word.CurrentTimestamp ∷ []) CurrentTimestamp
current_part d rest = current refl refl

pub moment_part : (d : ℕ) (text : List ℕ) → PrimitiveOf d (lexeme.word word.Timestamptz ∷ lexeme.string text ∷ []) (Moment text)
moment_part d text rest = moment text refl refl
