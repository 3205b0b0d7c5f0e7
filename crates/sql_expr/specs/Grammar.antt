-- The grammar of expressions, by productions. R ts e rest says: ts is a text of e, and then rest.
use Rattle.std.specs.Prelude.{◌≡◌, ℕ, zero, suc, ℤ, pos, neg_ℤ, Bool as Boolean, true, false, List, [], ◌∷◌, Some, None, codes, ◌⊎◌}
use Rattle.sql_tokens.specs.Grammar.{Form, ChainedOf, part}
use Rattle.sql_tokens.specs.declared.mark.Mark.TheVariants as mark
use Rattle.sql_tokens.specs.declared.token.Name.{Name}
use Rattle.sql_tokens.specs.declared.token.Token.{Token}
use Rattle.sql_tokens.specs.declared.token.Token.TheVariants as token
use Rattle.sql_tokens.specs.declared.word.Word.TheVariants as word
use Rattle.sql_tree.specs.declared.expr.Comparison.{Comparison}
use Rattle.sql_tree.specs.declared.expr.Comparison.TheVariants as comparison
use Rattle.sql_tree.specs.declared.expr.Expr.{Expr, Or, And, Not, IsNull, Compare, Member, Concat, Sum, Product, Minus, Int, Str, Bool, Null, Param, Column, CurrentTimestamp, Now, TransactionTimestamp, Moment}
use Rattle.sql_tree.specs.declared.expr.ProductPart.{ProductPart}
use Rattle.sql_tree.specs.declared.expr.ProductSign.{ProductSign}
use Rattle.sql_tree.specs.declared.expr.ProductSign.TheVariants as product_sign
use Rattle.sql_tree.specs.declared.expr.SumPart.{SumPart}
use Rattle.sql_expr.specs.declared.opening.Function.{Function}
use Rattle.sql_expr.specs.declared.opening.Function.TheVariants as function
use Rattle.sql_expr.specs.declared.opening.Opening.{Opening}
use Rattle.sql_expr.specs.declared.opening.Opening.TheVariants as opening

-- the least int8
abbrev pub least : ℤ
least = neg_ℤ (pos 9223372036854775808)

-- ---- the trees that parts make: one part stands for itself

abbrev pub or_of : Expr → List Expr → Expr
or_of e [] = e
or_of e (x ∷ xs) = Or (e ∷ x ∷ xs)

abbrev pub and_of : Expr → List Expr → Expr
and_of e [] = e
and_of e (x ∷ xs) = And (e ∷ x ∷ xs)

abbrev pub tests_of : Expr → List Boolean → Expr
tests_of e [] = e
tests_of e (x ∷ xs) = IsNull e (x ∷ xs)

abbrev pub concat_of : Expr → List Expr → Expr
concat_of e [] = e
concat_of e (x ∷ xs) = Concat (e ∷ x ∷ xs)

abbrev pub sum_of : Expr → List SumPart → Expr
sum_of e [] = e
sum_of e (x ∷ xs) = Sum e (x ∷ xs)

abbrev pub product_of : Expr → List ProductPart → Expr
product_of e [] = e
product_of e (x ∷ xs) = Product e (x ∷ xs)

abbrev pub list_of : Expr → List Expr → List Expr
list_of e xs = e ∷ xs

abbrev pub sum_part : Boolean → Expr → SumPart
sum_part minus e = record { minus = minus; part = e }

abbrev pub product_part : ProductSign → Expr → ProductPart
product_part sign e = record { sign = sign; part = e }

-- ---- the tokens of operators and functions

abbrev pub sign : Boolean → Token
sign false = token.Mark mark.Plus
sign true = token.Mark mark.Minus

abbrev pub factor_sign : ProductSign → Token
factor_sign product_sign.Times = token.Mark mark.Star
factor_sign product_sign.Over = token.Mark mark.Slash
factor_sign product_sign.Rest = token.Mark mark.Percent

abbrev pub comparison_mark : Comparison → Token
comparison_mark comparison.Equal = token.Mark mark.Equal
comparison_mark comparison.Unequal = token.Mark mark.Unequal
comparison_mark comparison.Less = token.Mark mark.Less
comparison_mark comparison.AtMost = token.Mark mark.AtMost
comparison_mark comparison.Greater = token.Mark mark.Greater
comparison_mark comparison.AtLeast = token.Mark mark.AtLeast

-- the one token of a chain
abbrev pub or_word : Unit {0} → Token
or_word _ = token.Word word.Or

abbrev pub and_word : Unit {0} → Token
and_word _ = token.Word word.And

abbrev pub is_word : Unit {0} → Token
is_word _ = token.Word word.Is

abbrev pub comma : Unit {0} → Token
comma _ = token.Mark mark.Comma

abbrev pub bars : Unit {0} → Token
bars _ = token.Mark mark.Bars

-- the name stands without quotes, and is this word
abbrev pub IsPlain : List ℕ → Name → Type 0
IsPlain text n = (n.quoted ≡ false) × (n.text ≡ text)

abbrev pub function_word : Function → List ℕ
function_word function.Now = codes "now"
function_word function.TransactionTimestamp = codes "transaction_timestamp"

abbrev pub function_tree : Function → Expr
function_tree function.Now = Now
function_tree function.TransactionTimestamp = TransactionTimestamp

-- ---- the productions: behind is what may stand behind a token that begins a nesting

-- prim = int | string | TRUE | FALSE | NULL | param | [name "."] name | "(" expr ")"
--      | CURRENT_TIMESTAMP | now "(" ")" | transaction_timestamp "(" ")" | TIMESTAMPTZ string
pub data PrimOf (behind : Opening → Form Token Expr) (ts : List Token) (e : Expr) (rest : List Token) : Type 0 where
  number : (n : ℤ) → ts ≡ token.Number n ∷ rest → e ≡ Int n → PrimOf behind ts e rest
  string : (s : List ℕ) → ts ≡ token.Str s ∷ rest → e ≡ Str s → PrimOf behind ts e rest
  truth : ts ≡ token.Word word.True ∷ rest → e ≡ Bool true → PrimOf behind ts e rest
  falsehood : ts ≡ token.Word word.False ∷ rest → e ≡ Bool false → PrimOf behind ts e rest
  null : ts ≡ token.Word word.Null ∷ rest → e ≡ Null → PrimOf behind ts e rest
  parameter : (n : ℕ) → ts ≡ token.Param n ∷ rest → e ≡ Param n → PrimOf behind ts e rest
  column : (n : Name) → ts ≡ token.Name n ∷ rest → e ≡ Column None n.text → PrimOf behind ts e rest
  qualified : (q n : Name) → ts ≡ token.Name q ∷ token.Mark mark.Dot ∷ token.Name n ∷ rest → e ≡ Column (Some q.text) n.text → PrimOf behind ts e rest
  parenthesis : (mid : List Token) → ts ≡ token.Mark mark.Open ∷ mid → behind opening.Parenthesis mid e (token.Mark mark.Close ∷ rest) → PrimOf behind ts e rest
  current : ts ≡ token.Word word.CurrentTimestamp ∷ rest → e ≡ CurrentTimestamp → PrimOf behind ts e rest
  call : (f : Function) (n : Name) (mid : List Token) → ts ≡ token.Name n ∷ token.Mark mark.Open ∷ mid → IsPlain (function_word f) n → behind (opening.Call f) mid e rest → PrimOf behind ts e rest
  moment : (s : List ℕ) → ts ≡ token.Word word.Timestamptz ∷ token.Str s ∷ rest → e ≡ Moment s → PrimOf behind ts e rest

-- un = "-" un | prim
pub data UnOf (behind : Opening → Form Token Expr) (ts : List Token) (e : Expr) (rest : List Token) : Type 0 where
  negative : (mid : List Token) → ts ≡ token.Mark mark.Minus ∷ mid → behind opening.Minus mid e rest → UnOf behind ts e rest
  prim : PrimOf behind ts e rest → UnOf behind ts e rest

-- prod = un { ("*"|"/"|"%") un }
unfoldable pub ProductOf : (Opening → Form Token Expr) → List Token → Expr → List Token → Type 0
ProductOf behind = ChainedOf factor_sign product_part (UnOf behind) product_of (UnOf behind)

-- sum = prod { ("+"|"-") prod }
unfoldable pub SumOf : (Opening → Form Token Expr) → List Token → Expr → List Token → Type 0
SumOf behind = ChainedOf sign sum_part (ProductOf behind) sum_of (ProductOf behind)

-- cat = sum { "||" sum }
unfoldable pub CatOf : (Opening → Form Token Expr) → List Token → Expr → List Token → Type 0
CatOf behind = ChainedOf bars part (SumOf behind) concat_of (SumOf behind)

-- "(" expr {"," expr} ")"
unfoldable pub ListOf : (Opening → Form Token Expr) → List Token → List Expr → List Token → Type 0
ListOf behind ts xs rest = (mid : List Token) × (ts ≡ token.Mark mark.Open ∷ mid) × ChainedOf comma part (behind opening.Parenthesis) list_of (behind opening.Parenthesis) mid xs (token.Mark mark.Close ∷ rest)

-- mem = cat [ [NOT] IN "(" expr {"," expr} ")" ]
pub data MemOf (behind : Opening → Form Token Expr) (ts : List Token) (e : Expr) (rest : List Token) : Type 0 where
  cat : CatOf behind ts e rest → MemOf behind ts e rest
  within : (x : Expr) (mid : List Token) (xs : List Expr) → CatOf behind ts x (token.Word word.In ∷ mid) → ListOf behind mid xs rest → e ≡ Member x false xs → MemOf behind ts e rest
  without : (x : Expr) (mid : List Token) (xs : List Expr) → CatOf behind ts x (token.Word word.Not ∷ token.Word word.In ∷ mid) → ListOf behind mid xs rest → e ≡ Member x true xs → MemOf behind ts e rest

-- cmp = mem [ ("="|"<>"|"!="|"<"|"<="|">"|">=") mem ]
pub data CmpOf (behind : Opening → Form Token Expr) (ts : List Token) (e : Expr) (rest : List Token) : Type 0 where
  mem : MemOf behind ts e rest → CmpOf behind ts e rest
  compared : (c : Comparison) (x y : Expr) (mid : List Token) → MemOf behind ts x (comparison_mark c ∷ mid) → MemOf behind mid y rest → e ≡ Compare c x y → CmpOf behind ts e rest

-- [NOT] NULL
abbrev pub NullityOf : Form Token Boolean
NullityOf ts is_not rest = ((ts ≡ token.Word word.Null ∷ rest) × (is_not ≡ false)) ⊎ ((ts ≡ token.Word word.Not ∷ token.Word word.Null ∷ rest) × (is_not ≡ true))

-- test = cmp { IS [NOT] NULL }
unfoldable pub TestOf : (Opening → Form Token Expr) → List Token → Expr → List Token → Type 0
TestOf behind = ChainedOf is_word part NullityOf tests_of (CmpOf behind)

-- not = NOT not | test
pub data NotOf (behind : Opening → Form Token Expr) (ts : List Token) (e : Expr) (rest : List Token) : Type 0 where
  negated : (mid : List Token) → ts ≡ token.Word word.Not ∷ mid → behind opening.Not mid e rest → NotOf behind ts e rest
  test : TestOf behind ts e rest → NotOf behind ts e rest

-- and = not { AND not }
unfoldable pub AndOf : (Opening → Form Token Expr) → List Token → Expr → List Token → Type 0
AndOf behind = ChainedOf and_word part (NotOf behind) and_of (NotOf behind)

-- expr = and { OR and }
unfoldable pub OrOf : (Opening → Form Token Expr) → List Token → Expr → List Token → Type 0
OrOf behind = ChainedOf or_word part (AndOf behind) or_of (AndOf behind)

-- Behind a unary minus: the number that no int8 is the negative of but the least, or an operand.
abbrev pub MinusOf : (Opening → Form Token Expr) → Form Token Expr
MinusOf behind ts e rest = ((ts ≡ token.Least ∷ rest) × (e ≡ Int least)) ⊎ ((x : Expr) × UnOf behind ts x rest × (e ≡ Minus x))

-- Behind a token that begins a nesting, where this many nestings may still begin, that one included.
unfoldable pub Behind : ℕ → Opening → List Token → Expr → List Token → Type 0
Behind zero begun ts e rest = ⊥
Behind (suc d) opening.Minus ts e rest = MinusOf (Behind d) ts e rest
Behind (suc d) opening.Not ts e rest = (x : Expr) × NotOf (Behind d) ts x rest × (e ≡ Not x)
Behind (suc d) opening.Parenthesis ts e rest = OrOf (Behind d) ts e rest
Behind (suc d) (opening.Call f) ts e rest = (ts ≡ token.Mark mark.Close ∷ rest) × (e ≡ function_tree f)

-- ts is a text of e and then rest, in which at most this many nestings are open at once
abbrev pub ExprOf : ℕ → Form Token Expr
ExprOf depth = OrOf (Behind depth)

-- ts is a text of e, in which at most this many nestings are open at once
abbrev pub IsTextWithin : ℕ → List Token → Expr → Type 0
IsTextWithin depth ts e = ExprOf depth ts e []

-- ts is a text of e, however deep it nests
abbrev pub IsText : List Token → Expr → Type 0
IsText ts e = (depth : ℕ) × IsTextWithin depth ts e
