-- What each form of an expression prints.
use Rattle.std.proofs.Common.{rules, ◌≡◌, ℕ, ℤ, Bool, List, [], ◌∷◌, ◌++◌, map, Option, ap, sym, ◌∙◌, refl}
use Rattle.std.specs.Prelude.{codes}
use Rattle.std.specs.List.{flat_map}
use Rattle.sql_tokens.specs.declared.mark.Mark.TheVariants.{Comma, Bars}
use Rattle.sql_tokens.specs.declared.word.Word.TheVariants as words
use Rattle.sql_tree.specs.declared.expr.Comparison.{Comparison}
use Rattle.sql_tree.specs.declared.expr.SumPart.{SumPart, fold-SumPart}
use Rattle.sql_tree.specs.declared.expr.ProductPart.{ProductPart, fold-ProductPart}
use Rattle.sql_tree.specs.declared.expr.Expr.{Expr, the_lemmas}
use Rattle.sql_tree.specs.declared.expr.Expr.TheOpen.{Expr-F}
use Rattle.sql_tree.specs.declared.expr.Expr.TheFolds.{fold-roll-Expr}
use Rattle.sql_tree.specs.declared.expr.Expr.TheVariants as forms
use Rattle.sql_print.specs.Spelling.{Lexeme, word, mark, sign, string, param}
use Rattle.sql_print.specs.Printed.{Printed, printed, part, part_tokens, summand_tokens, factor_tokens, joined, compound, simple, truth, test, compares, negation, enclosed, number, column, call, print_layer, print_factor, print_summand}

flat_map_map : (between : Lexeme) (es : List Expr)
    → flat_map (λ p. between ∷ part p) (map printed es) ≡ flat_map (λ e. between ∷ part_tokens e) es
flat_map_map between [] = refl
flat_map_map between (e ∷ es) = ap (λ more. (between ∷ part_tokens e) ++ more) (flat_map_map between es)

joined_printed : (between : Lexeme) (es : List Expr)
    → joined between part (map printed es) ≡ joined between part_tokens es
joined_printed between [] = refl
joined_printed between (e ∷ es) = ap (λ more. part_tokens e ++ more) (flat_map_map between es)

-- the parts behind the first one of a sum, and of a product
abbrev folded_summand : SumPart → List Lexeme
folded_summand = fold-SumPart Printed (List Lexeme) (List Lexeme) print_layer print_factor print_summand

abbrev folded_factor : ProductPart → List Lexeme
folded_factor = fold-ProductPart Printed (List Lexeme) (List Lexeme) print_layer print_factor print_summand

summands_printed : (xs : List SumPart) → flat_map (λ summand. summand) (map folded_summand xs) ≡ flat_map summand_tokens xs
summands_printed [] = refl
summands_printed (x ∷ xs) =
    let same : folded_summand x ≡ summand_tokens x = search (rules, the_lemmas) in
    ap (λ more. folded_summand x ++ more) (summands_printed xs) ∙ ap (λ front. front ++ flat_map summand_tokens xs) same

factors_printed : (xs : List ProductPart) → flat_map (λ factor. factor) (map folded_factor xs) ≡ flat_map factor_tokens xs
factors_printed [] = refl
factors_printed (x ∷ xs) =
    let same : folded_factor x ≡ factor_tokens x = search (rules, the_lemmas) in
    ap (λ more. folded_factor x ++ more) (factors_printed xs) ∙ ap (λ front. front ++ flat_map factor_tokens xs) same

joined_map : (between : Lexeme) (es : List Expr)
    → compound (joined between part (map printed es)) ≡ compound (joined between part_tokens es)
joined_map between es = ap compound (joined_printed between es)

pub printed_or : (parts : List Expr) → printed (forms.Or parts)
    ≡ compound (joined (word words.Or) part_tokens parts)
printed_or parts = ap printed (sym (forms.rolls-Or parts))
    ∙ (fold-roll-Expr Printed (List Lexeme) (List Lexeme) print_layer print_factor print_summand (Expr-F.Or parts)
    ∙ joined_map (word words.Or) parts)

pub printed_and : (parts : List Expr) → printed (forms.And parts)
    ≡ compound (joined (word words.And) part_tokens parts)
printed_and parts = ap printed (sym (forms.rolls-And parts))
    ∙ (fold-roll-Expr Printed (List Lexeme) (List Lexeme) print_layer print_factor print_summand (Expr-F.And parts)
    ∙ joined_map (word words.And) parts)

pub printed_not : (of : Expr) → printed (forms.Not of)
    ≡ compound (word words.Not ∷ part_tokens of)
printed_not of = ap printed (sym (forms.rolls-Not of))
    ∙ fold-roll-Expr Printed (List Lexeme) (List Lexeme) print_layer print_factor print_summand (Expr-F.Not of)

pub printed_is_null : (of : Expr) (tests : List Bool) → printed (forms.IsNull of tests)
    ≡ compound (part_tokens of ++ flat_map test tests)
printed_is_null of tests = ap printed (sym (forms.rolls-IsNull of tests))
    ∙ fold-roll-Expr Printed (List Lexeme) (List Lexeme) print_layer print_factor print_summand (Expr-F.IsNull of tests)

pub printed_compare : (how : Comparison) (left right : Expr) → printed (forms.Compare how left right)
    ≡ compound (part_tokens left ++ mark (compares how) ∷ part_tokens right)
printed_compare how left right = ap printed (sym (forms.rolls-Compare how left right))
    ∙ fold-roll-Expr Printed (List Lexeme) (List Lexeme) print_layer print_factor print_summand (Expr-F.Compare how left right)

pub printed_member : (of : Expr) (negated : Bool) (entries : List Expr) → printed (forms.Member of negated entries)
    ≡ compound (part_tokens of ++ (negation negated ++ word words.In ∷ enclosed (joined (mark Comma) part_tokens entries)))
printed_member of negated entries = ap printed (sym (forms.rolls-Member of negated entries))
    ∙ (fold-roll-Expr Printed (List Lexeme) (List Lexeme) print_layer print_factor print_summand (Expr-F.Member of negated entries)
    ∙ ap (λ listed. compound (part_tokens of ++ (negation negated ++ word words.In ∷ enclosed listed))) (joined_printed (mark Comma) entries))

pub printed_concat : (parts : List Expr) → printed (forms.Concat parts)
    ≡ compound (joined (mark Bars) part_tokens parts)
printed_concat parts = ap printed (sym (forms.rolls-Concat parts))
    ∙ (fold-roll-Expr Printed (List Lexeme) (List Lexeme) print_layer print_factor print_summand (Expr-F.Concat parts)
    ∙ joined_map (mark Bars) parts)

pub printed_sum : (of : Expr) (summands : List SumPart) → printed (forms.Sum of summands)
    ≡ compound (part_tokens of ++ flat_map summand_tokens summands)
printed_sum of summands = ap printed (sym (forms.rolls-Sum of summands))
    ∙ (fold-roll-Expr Printed (List Lexeme) (List Lexeme) print_layer print_factor print_summand (Expr-F.Sum of summands)
    ∙ ap (λ behind. compound (part_tokens of ++ behind)) (summands_printed summands))

pub printed_product : (of : Expr) (factors : List ProductPart) → printed (forms.Product of factors)
    ≡ compound (part_tokens of ++ flat_map factor_tokens factors)
printed_product of factors = ap printed (sym (forms.rolls-Product of factors))
    ∙ (fold-roll-Expr Printed (List Lexeme) (List Lexeme) print_layer print_factor print_summand (Expr-F.Product of factors)
    ∙ ap (λ behind. compound (part_tokens of ++ behind)) (factors_printed factors))

pub printed_minus : (of : Expr) → printed (forms.Minus of)
    ≡ compound (sign ∷ part_tokens of)
printed_minus of = ap printed (sym (forms.rolls-Minus of))
    ∙ fold-roll-Expr Printed (List Lexeme) (List Lexeme) print_layer print_factor print_summand (Expr-F.Minus of)

pub printed_int : (n : ℤ) → printed (forms.Int n)
    ≡ number n
printed_int n = ap printed (sym (forms.rolls-Int n))
    ∙ fold-roll-Expr Printed (List Lexeme) (List Lexeme) print_layer print_factor print_summand (Expr-F.Int n)

pub printed_str : (text : List ℕ) → printed (forms.Str text)
    ≡ simple (string text ∷ [])
printed_str text = ap printed (sym (forms.rolls-Str text))
    ∙ fold-roll-Expr Printed (List Lexeme) (List Lexeme) print_layer print_factor print_summand (Expr-F.Str text)

pub printed_bool : (given : Bool) → printed (forms.Bool given)
    ≡ simple (truth given ∷ [])
printed_bool given = ap printed (sym (forms.rolls-Bool given))
    ∙ fold-roll-Expr Printed (List Lexeme) (List Lexeme) print_layer print_factor print_summand (Expr-F.Bool given)

pub printed_null : printed forms.Null
    ≡ simple (word words.Null ∷ [])
printed_null = ap printed (sym forms.rolls-Null)
    ∙ fold-roll-Expr Printed (List Lexeme) (List Lexeme) print_layer print_factor print_summand Expr-F.Null

pub printed_param : (n : ℕ) → printed (forms.Param n)
    ≡ simple (param n ∷ [])
printed_param n = ap printed (sym (forms.rolls-Param n))
    ∙ fold-roll-Expr Printed (List Lexeme) (List Lexeme) print_layer print_factor print_summand (Expr-F.Param n)

pub printed_column : (qualifier : Option (List ℕ)) (called : List ℕ) → printed (forms.Column qualifier called)
    ≡ simple (column qualifier called)
printed_column qualifier called = ap printed (sym (forms.rolls-Column qualifier called))
    ∙ fold-roll-Expr Printed (List Lexeme) (List Lexeme) print_layer print_factor print_summand (Expr-F.Column qualifier called)

pub printed_current : printed forms.CurrentTimestamp
    ≡ simple (word words.CurrentTimestamp ∷ [])
printed_current = ap printed (sym forms.rolls-CurrentTimestamp)
    ∙ fold-roll-Expr Printed (List Lexeme) (List Lexeme) print_layer print_factor print_summand Expr-F.CurrentTimestamp

pub printed_now : printed forms.Now
    ≡ simple (call (codes "now"))
printed_now = ap printed (sym forms.rolls-Now)
    ∙ fold-roll-Expr Printed (List Lexeme) (List Lexeme) print_layer print_factor print_summand Expr-F.Now

pub printed_transaction : printed forms.TransactionTimestamp
    ≡ simple (call (codes "transaction_timestamp"))
printed_transaction = ap printed (sym forms.rolls-TransactionTimestamp)
    ∙ fold-roll-Expr Printed (List Lexeme) (List Lexeme) print_layer print_factor print_summand Expr-F.TransactionTimestamp

pub printed_moment : (text : List ℕ) → printed (forms.Moment text)
    ≡ simple (word words.Timestamptz ∷ string text ∷ [])
printed_moment text = ap printed (sym (forms.rolls-Moment text))
    ∙ fold-roll-Expr Printed (List Lexeme) (List Lexeme) print_layer print_factor print_summand (Expr-F.Moment text)

-- each form
pub ruleset layers = (printed_or, printed_and, printed_not, printed_is_null, printed_compare, printed_member, printed_concat, printed_sum, printed_product, printed_minus, printed_int, printed_str, printed_bool, printed_null, printed_param, printed_column, printed_current, printed_now, printed_transaction, printed_moment)
