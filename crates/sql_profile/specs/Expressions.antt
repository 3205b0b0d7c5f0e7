-- What is due behind the beginning of an expression, by the productions of its grammar.
use Rattle.std.specs.Prelude.{◌≡◌, ℕ, zero, suc, List, ◌∷◌, ◌⊎◌}
use Rattle.sql_tokens.specs.declared.fault.Awaited.{Awaited}
use Rattle.sql_tokens.specs.declared.fault.Awaited.TheVariants.{Operand, Word, Arguments, Close}
use Rattle.sql_tokens.specs.Grammar.{Form, ChainedOf, part}
use Rattle.sql_tokens.specs.declared.mark.Mark.TheVariants as mark
use Rattle.sql_tokens.specs.declared.token.Name.{Name}
use Rattle.sql_tokens.specs.declared.token.Token.{Token}
use Rattle.sql_tokens.specs.declared.token.Token.TheVariants as token
use Rattle.sql_tokens.specs.declared.word.Word.TheVariants as word
use Rattle.sql_tree.specs.declared.expr.Expr.{Expr}
use Rattle.sql_expr.specs.declared.opening.Function.{Function}
use Rattle.sql_expr.specs.declared.opening.Opening.{Opening}
use Rattle.sql_expr.specs.declared.opening.Opening.TheVariants as opening
use Rattle.sql_expr.specs.Grammar.{and_word, bars, comma, is_word, or_word, list_of, sum_part, product_part, sign, factor_sign, comparison_mark, IsPlain, function_word, UnOf, ProductOf, SumOf, CatOf, MemOf, CmpOf, NullityOf, NotOf, AndOf, Behind}
use Rattle.sql_profile.specs.Beginnings.{Beginning, AtOnce, ThenBegun, MarkBegun, ChainBegun}

-- ---- the productions: B is what may stand behind a token that begins a nesting, D what begins there

-- an operand is due; behind a name and a point a name; behind `(` an expression and `)`; behind a function and `(` a `)`; behind
-- TIMESTAMPTZ a string
pub data PrimBegun (B : Opening → Form Token Expr) (D : Opening → Beginning Token) (w : Awaited) (ts : List Token) : Type 0 where
  operand : AtOnce Operand w ts → PrimBegun B D w ts
  point : (n : Name) (mid : List Token) → ts ≡ token.Name n ∷ token.Mark mark.Dot ∷ mid → AtOnce Word w mid → PrimBegun B D w ts
  inner : (mid : List Token) → ts ≡ token.Mark mark.Open ∷ mid → ThenBegun (B opening.Parenthesis) (D opening.Parenthesis) (AtOnce Close) w mid → PrimBegun B D w ts
  arguments : (f : Function) (n : Name) (mid : List Token) → ts ≡ token.Name n ∷ token.Mark mark.Open ∷ mid → IsPlain (function_word f) n → D (opening.Call f) w mid → PrimBegun B D w ts
  timestamp : (mid : List Token) → ts ≡ token.Word word.Timestamptz ∷ mid → AtOnce Word w mid → PrimBegun B D w ts

pub data UnBegun (B : Opening → Form Token Expr) (D : Opening → Beginning Token) (w : Awaited) (ts : List Token) : Type 0 where
  minus : (mid : List Token) → ts ≡ token.Mark mark.Minus ∷ mid → D opening.Minus w mid → UnBegun B D w ts
  unsigned : PrimBegun B D w ts → UnBegun B D w ts

unfoldable pub ProductBegun : (Opening → Form Token Expr) → (Opening → Beginning Token) → Awaited → List Token → Type 0
ProductBegun B D = ChainBegun factor_sign product_part (UnOf B) (UnBegun B D) (UnOf B) (UnBegun B D)

unfoldable pub SumBegun : (Opening → Form Token Expr) → (Opening → Beginning Token) → Awaited → List Token → Type 0
SumBegun B D = ChainBegun sign sum_part (ProductOf B) (ProductBegun B D) (ProductOf B) (ProductBegun B D)

unfoldable pub CatBegun : (Opening → Form Token Expr) → (Opening → Beginning Token) → Awaited → List Token → Type 0
CatBegun B D = ChainBegun bars part (SumOf B) (SumBegun B D) (SumOf B) (SumBegun B D)

-- expr {"," expr}
abbrev pub EntriesOf : (Opening → Form Token Expr) → Form Token (List Expr)
EntriesOf B = ChainedOf comma part (B opening.Parenthesis) list_of (B opening.Parenthesis)

abbrev pub EntriesBegun : (Opening → Form Token Expr) → (Opening → Beginning Token) → Beginning Token
EntriesBegun B D = ChainBegun comma part (B opening.Parenthesis) (D opening.Parenthesis) (B opening.Parenthesis) (D opening.Parenthesis)

-- "(" is due, or behind it the entries and ")"
unfoldable pub ListBegun : (Opening → Form Token Expr) → (Opening → Beginning Token) → Awaited → List Token → Type 0
ListBegun B D w ts = AtOnce Word w ts ⊎ ((mid : List Token) × (ts ≡ token.Mark mark.Open ∷ mid) × ThenBegun (EntriesOf B) (EntriesBegun B D) (AtOnce Close) w mid)

-- behind IN a list, and behind NOT the word IN and a list
pub data InBegun (B : Opening → Form Token Expr) (D : Opening → Beginning Token) (w : Awaited) (ts : List Token) : Type 0 where
  in_list : (mid : List Token) → ts ≡ token.Word word.In ∷ mid → ListBegun B D w mid → InBegun B D w ts
  not_alone : (mid : List Token) → ts ≡ token.Word word.Not ∷ mid → AtOnce Word w mid → InBegun B D w ts
  not_in_list : (mid : List Token) → ts ≡ token.Word word.Not ∷ token.Word word.In ∷ mid → ListBegun B D w mid → InBegun B D w ts

unfoldable pub MemBegun : (Opening → Form Token Expr) → (Opening → Beginning Token) → Awaited → List Token → Type 0
MemBegun B D = ThenBegun (CatOf B) (CatBegun B D) (InBegun B D)

unfoldable pub CmpBegun : (Opening → Form Token Expr) → (Opening → Beginning Token) → Awaited → List Token → Type 0
CmpBegun B D = ThenBegun (MemOf B) (MemBegun B D) (MarkBegun comparison_mark (λ _. MemBegun B D))

-- behind IS the words NOT and NULL
abbrev pub NullityBegun : Beginning Token
NullityBegun w ts = AtOnce Word w ts ⊎ ((mid : List Token) × (ts ≡ token.Word word.Not ∷ mid) × AtOnce Word w mid)

unfoldable pub TestBegun : (Opening → Form Token Expr) → (Opening → Beginning Token) → Awaited → List Token → Type 0
TestBegun B D = ChainBegun is_word part NullityOf NullityBegun (CmpOf B) (CmpBegun B D)

pub data NotBegun (B : Opening → Form Token Expr) (D : Opening → Beginning Token) (w : Awaited) (ts : List Token) : Type 0 where
  not_begun : (mid : List Token) → ts ≡ token.Word word.Not ∷ mid → D opening.Not w mid → NotBegun B D w ts
  test_begun : TestBegun B D w ts → NotBegun B D w ts

unfoldable pub AndBegun : (Opening → Form Token Expr) → (Opening → Beginning Token) → Awaited → List Token → Type 0
AndBegun B D = ChainBegun and_word part (NotOf B) (NotBegun B D) (NotOf B) (NotBegun B D)

unfoldable pub OrBegun : (Opening → Form Token Expr) → (Opening → Beginning Token) → Awaited → List Token → Type 0
OrBegun B D = ChainBegun or_word part (AndOf B) (AndBegun B D) (AndOf B) (AndBegun B D)

-- behind a token that begins a nesting, where this many nestings may still begin, that one included
unfoldable pub NestBegun : ℕ → Opening → Awaited → List Token → Type 0
NestBegun zero begun w ts = ⊥
NestBegun (suc d) opening.Minus w ts = UnBegun (Behind d) (NestBegun d) w ts
NestBegun (suc d) opening.Not w ts = NotBegun (Behind d) (NestBegun d) w ts
NestBegun (suc d) opening.Parenthesis w ts = OrBegun (Behind d) (NestBegun d) w ts
NestBegun (suc d) (opening.Call f) w ts = AtOnce Arguments w ts

-- ts begins an expression, in which at most this many nestings are open at once
abbrev pub ExprBegun : ℕ → Beginning Token
ExprBegun depth = OrBegun (Behind depth) (NestBegun depth)
