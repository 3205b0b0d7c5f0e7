-- Reading expressions from left to right, with the first fault that is met.
use Rattle.std.specs.Prelude.{ℕ, zero, suc, Bool as Boolean, true, false, cond, List, ◌∷◌, length, Option, Some, None, Result, Ok, Err, codes}
use Rattle.std.specs.Str.{bytes_eq}
use Rattle.sql_tokens.specs.declared.fault.Awaited.TheVariants.{Operand, Word, Arguments, Close, End}
use Rattle.sql_tokens.specs.declared.fault.Fault.{Fault}
use Rattle.sql_tokens.specs.declared.fault.Fault.TheVariants.{Syntax, TooDeep}
use Rattle.sql_tokens.specs.Grammar.{part}
use Rattle.sql_tokens.specs.Reading.{◌>>=◌, Parse, Marks, chained, whole_of}
use Rattle.sql_tokens.specs.declared.mark.Mark.TheVariants as mark
use Rattle.sql_tokens.specs.declared.token.Name.{Name}
use Rattle.sql_tokens.specs.declared.token.Token.{Token}
use Rattle.sql_tokens.specs.declared.token.Token.TheVariants as token
use Rattle.sql_tokens.specs.declared.word.Word.TheVariants as word
use Rattle.sql_tree.specs.declared.expr.Comparison.{Comparison}
use Rattle.sql_tree.specs.declared.expr.Comparison.TheVariants as comparison
use Rattle.sql_tree.specs.declared.expr.Expr.{Expr, Not, Compare, Member, Minus, Int, Str, Bool, Null, Param, Column, CurrentTimestamp, Moment}
use Rattle.sql_tree.specs.declared.expr.ProductSign.{ProductSign}
use Rattle.sql_tree.specs.declared.expr.ProductSign.TheVariants as product_sign
use Rattle.sql_expr.specs.declared.opening.Function.{Function}
use Rattle.sql_expr.specs.declared.opening.Function.TheVariants as function
use Rattle.sql_expr.specs.declared.opening.Opening.{Opening}
use Rattle.sql_expr.specs.declared.opening.Opening.TheVariants as opening
use Rattle.sql_expr.specs.Grammar.{least, or_of, and_of, tests_of, concat_of, sum_of, product_of, list_of, sum_part, product_part, function_tree}

-- ---- the marks of chains

abbrev pub after_or : Marks Token (Unit {0})
after_or (token.Word word.Or ∷ ts) = Some (tt, ts)
after_or _ = None

abbrev pub after_and : Marks Token (Unit {0})
after_and (token.Word word.And ∷ ts) = Some (tt, ts)
after_and _ = None

abbrev pub after_is : Marks Token (Unit {0})
after_is (token.Word word.Is ∷ ts) = Some (tt, ts)
after_is _ = None

abbrev pub after_comma : Marks Token (Unit {0})
after_comma (token.Mark mark.Comma ∷ ts) = Some (tt, ts)
after_comma _ = None

abbrev pub after_bars : Marks Token (Unit {0})
after_bars (token.Mark mark.Bars ∷ ts) = Some (tt, ts)
after_bars _ = None

abbrev pub after_sign : Marks Token Boolean
after_sign (token.Mark mark.Plus ∷ ts) = Some (false, ts)
after_sign (token.Mark mark.Minus ∷ ts) = Some (true, ts)
after_sign _ = None

abbrev pub after_factor_sign : Marks Token ProductSign
after_factor_sign (token.Mark mark.Star ∷ ts) = Some (product_sign.Times, ts)
after_factor_sign (token.Mark mark.Slash ∷ ts) = Some (product_sign.Over, ts)
after_factor_sign (token.Mark mark.Percent ∷ ts) = Some (product_sign.Rest, ts)
after_factor_sign _ = None

-- ---- one token

abbrev pub open_at : Parse Token (Unit {0})
open_at (token.Mark mark.Open ∷ ts) = Ok (tt, ts)
open_at ts = Err (Syntax (length ts) Word)

abbrev pub close_at : Parse Token (Unit {0})
close_at (token.Mark mark.Close ∷ ts) = Ok (tt, ts)
close_at ts = Err (Syntax (length ts) Close)

abbrev pub in_at : Parse Token (Unit {0})
in_at (token.Word word.In ∷ ts) = Ok (tt, ts)
in_at ts = Err (Syntax (length ts) Word)

abbrev pub null_at : Parse Token (Unit {0})
null_at (token.Word word.Null ∷ ts) = Ok (tt, ts)
null_at ts = Err (Syntax (length ts) Word)

abbrev pub name_at : Parse Token (List ℕ)
name_at (token.Name n ∷ ts) = Ok (n.text, ts)
name_at ts = Err (Syntax (length ts) Word)

abbrev pub string_at : Parse Token (List ℕ)
string_at (token.Str s ∷ ts) = Ok (s, ts)
string_at ts = Err (Syntax (length ts) Word)

abbrev pub nullity_at : Parse Token Boolean
nullity_at (token.Word word.Null ∷ ts) = Ok (false, ts)
nullity_at (token.Word word.Not ∷ ts) = null_at ts >>= λ x. Ok (true, x.1)
nullity_at ts = Err (Syntax (length ts) Word)

-- behind the "(" of a function
abbrev pub called_at : Function → Parse Token Expr
called_at f (token.Mark mark.Close ∷ ts) = Ok (function_tree f, ts)
called_at f ts = Err (Syntax (length ts) Arguments)

-- the function that a name calls
abbrev pub function_of : Name → Option Function
function_of n = cond n.quoted None (cond (bytes_eq n.text (codes "now")) (Some function.Now) (cond (bytes_eq n.text (codes "transaction_timestamp")) (Some function.TransactionTimestamp) None))

-- ---- the levels: behind reads what stands behind a token that begins a nesting

abbrev pub call_with : (Opening → Parse Token Expr) → Name → Option Function → Parse Token Expr
call_with behind n None ts = Ok (Column None n.text, token.Mark mark.Open ∷ ts)
call_with behind n (Some f) ts = behind (opening.Call f) ts

unfoldable pub named_with : (Opening → Parse Token Expr) → Name → Parse Token Expr
named_with behind n (token.Mark mark.Dot ∷ ts) = name_at ts >>= λ m. Ok (Column (Some n.text) m.0, m.1)
named_with behind n (token.Mark mark.Open ∷ ts) = call_with behind n (function_of n) ts
named_with behind n ts = Ok (Column None n.text, ts)

unfoldable pub prim_with : (Opening → Parse Token Expr) → Parse Token Expr
prim_with behind (token.Number n ∷ ts) = Ok (Int n, ts)
prim_with behind (token.Str s ∷ ts) = Ok (Str s, ts)
prim_with behind (token.Param n ∷ ts) = Ok (Param n, ts)
prim_with behind (token.Name n ∷ ts) = named_with behind n ts
prim_with behind (token.Mark mark.Open ∷ ts) = behind opening.Parenthesis ts >>= λ x. close_at x.1 >>= λ y. Ok (x.0, y.1)
prim_with behind (token.Word word.True ∷ ts) = Ok (Bool true, ts)
prim_with behind (token.Word word.False ∷ ts) = Ok (Bool false, ts)
prim_with behind (token.Word word.Null ∷ ts) = Ok (Null, ts)
prim_with behind (token.Word word.CurrentTimestamp ∷ ts) = Ok (CurrentTimestamp, ts)
prim_with behind (token.Word word.Timestamptz ∷ ts) = string_at ts >>= λ s. Ok (Moment s.0, s.1)
prim_with behind ts = Err (Syntax (length ts) Operand)

unfoldable pub un_with : (Opening → Parse Token Expr) → Parse Token Expr
un_with behind (token.Mark mark.Minus ∷ ts) = behind opening.Minus ts
un_with behind ts = prim_with behind ts

unfoldable pub product_with : (Opening → Parse Token Expr) → Parse Token Expr
product_with behind = chained after_factor_sign product_part (un_with behind) product_of (un_with behind)

unfoldable pub sum_with : (Opening → Parse Token Expr) → Parse Token Expr
sum_with behind = chained after_sign sum_part (product_with behind) sum_of (product_with behind)

unfoldable pub cat_with : (Opening → Parse Token Expr) → Parse Token Expr
cat_with behind = chained after_bars part (sum_with behind) concat_of (sum_with behind)

-- the list of IN, behind its "("
unfoldable pub items_with : (Opening → Parse Token Expr) → Parse Token (List Expr)
items_with behind = chained after_comma part (behind opening.Parenthesis) list_of (behind opening.Parenthesis)

unfoldable pub list_with : (Opening → Parse Token Expr) → Parse Token (List Expr)
list_with behind (token.Mark mark.Open ∷ ts) = items_with behind ts >>= λ y. close_at y.1 >>= λ z. Ok (y.0, z.1)
list_with behind ts = Err (Syntax (length ts) Word)

abbrev pub member_with : (Opening → Parse Token Expr) → Expr → Boolean → Parse Token Expr
member_with behind e negated ts = list_with behind ts >>= λ l. Ok (Member e negated l.0, l.1)

unfoldable pub mem_rest : (Opening → Parse Token Expr) → Expr → Parse Token Expr
mem_rest behind e (token.Word word.In ∷ ts) = member_with behind e false ts
mem_rest behind e (token.Word word.Not ∷ ts) = in_at ts >>= λ o. member_with behind e true o.1
mem_rest behind e ts = Ok (e, ts)

unfoldable pub mem_with : (Opening → Parse Token Expr) → Parse Token Expr
mem_with behind ts = cat_with behind ts >>= λ x. mem_rest behind x.0 x.1

abbrev pub compared_with : (Opening → Parse Token Expr) → Comparison → Expr → Parse Token Expr
compared_with behind c e ts = mem_with behind ts >>= λ y. Ok (Compare c e y.0, y.1)

unfoldable pub cmp_rest : (Opening → Parse Token Expr) → Expr → Parse Token Expr
cmp_rest behind e (token.Mark mark.Equal ∷ ts) = compared_with behind comparison.Equal e ts
cmp_rest behind e (token.Mark mark.Unequal ∷ ts) = compared_with behind comparison.Unequal e ts
cmp_rest behind e (token.Mark mark.Less ∷ ts) = compared_with behind comparison.Less e ts
cmp_rest behind e (token.Mark mark.AtMost ∷ ts) = compared_with behind comparison.AtMost e ts
cmp_rest behind e (token.Mark mark.Greater ∷ ts) = compared_with behind comparison.Greater e ts
cmp_rest behind e (token.Mark mark.AtLeast ∷ ts) = compared_with behind comparison.AtLeast e ts
cmp_rest behind e ts = Ok (e, ts)

unfoldable pub cmp_with : (Opening → Parse Token Expr) → Parse Token Expr
cmp_with behind ts = mem_with behind ts >>= λ x. cmp_rest behind x.0 x.1

unfoldable pub test_with : (Opening → Parse Token Expr) → Parse Token Expr
test_with behind = chained after_is part nullity_at tests_of (cmp_with behind)

unfoldable pub not_with : (Opening → Parse Token Expr) → Parse Token Expr
not_with behind (token.Word word.Not ∷ ts) = behind opening.Not ts
not_with behind ts = test_with behind ts

unfoldable pub and_with : (Opening → Parse Token Expr) → Parse Token Expr
and_with behind = chained after_and part (not_with behind) and_of (not_with behind)

unfoldable pub or_with : (Opening → Parse Token Expr) → Parse Token Expr
or_with behind = chained after_or part (and_with behind) or_of (and_with behind)

-- ---- what stands behind a token that begins a nesting

unfoldable pub minus_with : (Opening → Parse Token Expr) → Parse Token Expr
minus_with behind (token.Least ∷ ts) = Ok (Int least, ts)
minus_with behind ts = un_with behind ts >>= λ x. Ok (Minus x.0, x.1)

abbrev pub negated_with : (Opening → Parse Token Expr) → Parse Token Expr
negated_with behind ts = not_with behind ts >>= λ x. Ok (Not x.0, x.1)

abbrev pub step : (Opening → Parse Token Expr) → Opening → Parse Token Expr
step behind opening.Minus = minus_with behind
step behind opening.Not = negated_with behind
step behind opening.Parenthesis = or_with behind
step behind (opening.Call f) = called_at f

-- where this many nestings may still begin, this one included; too deep is the token that began it
unfoldable pub behind : ℕ → Opening → Parse Token Expr
behind zero begun ts = Err (TooDeep (suc (length ts)))
behind (suc d) begun ts = step (behind d) begun ts

-- an expression at the front, within so many nestings
abbrev pub expr_at : ℕ → Parse Token Expr
expr_at depth = or_with (behind depth)

-- all of the tokens
abbrev pub whole_at : ℕ → List Token → Result Expr Fault
whole_at depth ts = whole_of End (expr_at depth) ts
