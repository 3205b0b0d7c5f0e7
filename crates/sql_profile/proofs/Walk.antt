-- What is read of good tokens is of the grammar.
use Rattle.std.proofs.Common.{◌≡◌, ◌∙◌, ◌≤◌, ◌+◌, ℕ, zero, suc, ℤ, pos, negsuc, List, [], ◌∷◌, ◌++◌, length, Option, Some, None, IfSome, refl, sym, ap, subst, inl, inr, ◌⊎◌, arith}
use Rattle.std.specs.Prelude.{Bool as Truth, true, false, codes, ◌≤ℤ◌}
use Rattle.std.specs.Prelude.{All as Each_of}
use Rattle.std.specs.List.{AllByRecursion}
use Rattle.sql_tokens.specs.Grammar.{Form, TailOf, ChainedOf, part}
use Rattle.sql_tokens.specs.declared.mark.Mark.TheVariants as mark
use Rattle.sql_tokens.specs.declared.token.Name.{Name}
use Rattle.sql_tokens.specs.declared.token.Token.{Token}
use Rattle.sql_tokens.specs.declared.token.Token.TheVariants as token
use Rattle.sql_tokens.specs.declared.word.Word.TheVariants as word
use Rattle.sql_tree.specs.declared.expr.Comparison.{Comparison}
use Rattle.sql_tree.specs.declared.expr.Expr.{Expr}
use Rattle.sql_tree.specs.declared.expr.Expr.TheOpen.{Expr-F}
use Rattle.sql_tree.specs.declared.expr.Expr.TheVariants as expr
use Rattle.sql_tree.specs.declared.expr.ProductPart.{ProductPart}
use Rattle.sql_tree.specs.declared.expr.ProductSign.{ProductSign}
use Rattle.sql_tree.specs.declared.expr.SumPart.{SumPart}
use Rattle.sql_tree.specs.Trees.{IsLayer, IsLiteral, IsName, IsString, IsTree}
use Rattle.sql_expr.specs.declared.opening.Function.{Function}
use Rattle.sql_expr.specs.declared.opening.Function.TheVariants as function
use Rattle.sql_expr.specs.declared.opening.Opening.{Opening}
use Rattle.sql_expr.specs.declared.opening.Opening.TheVariants as opening
use Rattle.sql_expr.specs.Grammar.{and_word, bars, comma, is_word, or_word, or_of, and_of, tests_of, concat_of, sum_of, product_of, list_of, sum_part, product_part, sign, factor_sign, comparison_mark, function_tree, least, PrimOf, number, string, truth, falsehood, null, parameter, column, qualified, parenthesis, current, call, moment, UnOf, negative, prim, ProductOf, SumOf, CatOf, ListOf, MemOf, cat, within, without, CmpOf, mem, compared, NullityOf, TestOf, NotOf, negated, test, AndOf, OrOf, MinusOf, Behind, ExprOf}
use Rattle.sql_reader.specs.Parts.{Done, Then, Made, OneOf, Maybe, Either, Listed, all_of}
use Rattle.sql_profile.proofs.FormedLayers.{layer_tree}

-- a name of at most 63 bytes
abbrev pub IsShort : List ℕ → Type 0
IsShort text = IsName text × (length text ≤ 63)

-- what a token holds may stand in a tree
abbrev pub IsGood : Token → Type 0
IsGood (token.Name n) = IsShort n.text
IsGood (token.Str s) = IsString s
IsGood (token.Number n) = pos 0 ≤ℤ n
IsGood (token.Param n) = 1 ≤ n
IsGood t = Unit {0}

abbrev pub Goods : List Token → Type 0
Goods [] = Unit {0}
Goods (t ∷ ts) = IsGood t × Goods ts

-- what is read of good tokens is so, and the tokens behind it are good, and no more than there were
abbrev pub Reads : {A : Type 0} → (A → Type 0) → Form Token A → Type 0
Reads {A} Is R = (ts : List Token) (a : A) (rest : List Token) → R ts a rest → Goods ts → Is a × Goods rest × (length rest ≤ length ts)

pub shift : (ts us : List Token) → ts ≡ us → Goods ts → Goods us
shift ts us is goods = subst Goods is goods

pub longer : (ts us : List Token) (n : ℕ) → ts ≡ us → n ≤ length us → n ≤ length ts
longer ts us n is le = subst (λ (k : ℕ). n ≤ k) (sym (ap length is)) le

-- ---- productions over any tokens

pub done : {A : Type 0} (Is : A → Type 0) (a : A) → Is a → Reads Is (Done a)
done Is a is ts b rest h goods = (subst Is (sym h.1) is, shift ts rest h.0 goods, longer ts rest (length rest) h.0 (omega arith))

pub then : {A B : Type 0} (Is : A → Type 0) (Has : B → Type 0) (R : Form Token A) (S : Form Token B) → Reads Is R → Reads Has S → Reads (λ x. Is x.0 × Has x.1) (Then R S)
then Is Has R S k l ts x rest h goods =
    let first = k ts x.0 h.0 h.1 goods in
    let second = l h.0 x.1 rest h.2 first.1 in
    ((first.0, second.0), second.1, omega (arith, first.2, second.2))

pub made : {A B : Type 0} (Is : A → Type 0) (Has : B → Type 0) (make : A → B) (R : Form Token A) → Reads Is R → ((a : A) → Is a → Has (make a)) → Reads Has (Made make R)
made Is Has make R k makes ts b rest h goods =
    let first = k ts h.0 rest h.1 goods in
    (subst Has (sym h.2) (makes h.0 first.0), first.1, first.2)

pub one : {S A : Type 0} (Is : A → Type 0) (mark : S → Token) (R : S → Form Token A) → ((s : S) → IsGood (mark s) → Reads Is (R s)) → Reads Is (OneOf mark R)
one Is mark R k ts a rest h goods =
    let all = shift ts (mark h.0 ∷ h.1) h.2 goods in
    let first = k h.0 all.0 h.1 a rest h.3 all.1 in
    let le = first.2 in
    (first.0, first.1, longer ts (mark h.0 ∷ h.1) (length rest) h.2 (omega (arith, le)))

pub maybe : {S A : Type 0} (Is : A → Type 0) (mark : S → Token) (R : S → Form Token A) → ((s : S) → IsGood (mark s) → Reads Is (R s)) → Reads (λ o. IfSome o Is) (Maybe mark R)
maybe Is mark R k ts o rest (inl h) goods = (subst (λ (x : Option _). IfSome x Is) (sym h.1) tt, shift ts rest h.0 goods, longer ts rest (length rest) h.0 (omega arith))
maybe Is mark R k ts o rest (inr h) goods =
    let first = one Is mark R k ts h.0 rest h.1 goods in
    (subst (λ (x : Option _). IfSome x Is) (sym h.2) first.0, first.1, first.2)

pub either : {S A : Type 0} (Is : A → Type 0) (mark : S → Token) (R : S → Form Token A) (Q : Form Token A) → ((s : S) → IsGood (mark s) → Reads Is (R s)) → Reads Is Q → Reads Is (Either mark R Q)
either Is mark R Q k l ts a rest (inl h) goods = one Is mark R k ts a rest h goods
either Is mark R Q k l ts a rest (inr h) goods = l ts a rest h goods

-- the parts of a chain; each has a token of its own
pub tail : {S A B : Type 0} (Is : A → Type 0) (Has : B → Type 0) (mark : S → Token) (make : S → A → B) (R : Form Token A) → Reads Is R → ((s : S) (a : A) → Is a → Has (make s a))
    → (bs : List B) (ts rest : List Token) → TailOf mark make R ts bs rest → Goods ts → AllByRecursion Has bs × Goods rest × (length bs + length rest ≤ length ts)
tail Is Has mark make R k makes [] ts rest h goods = (tt, shift ts rest h goods, longer ts rest (0 + length rest) h (omega arith))
tail Is Has mark make R k makes (b ∷ bs) ts rest h goods =
    let all = shift ts (mark h.0 ∷ h.1) h.4 goods in
    let first = k h.1 h.2 h.3 h.5 all.1 in
    let others = tail Is Has mark make R k makes bs h.3 rest h.7 first.1 in
    let a = first.2 in
    let b' = others.2 in
    ((subst Has (sym h.6) (makes h.0 h.2 first.0), others.0), others.1, longer ts (mark h.0 ∷ h.1) (suc (length bs) + length rest) h.4 (omega (arith, a, b')))

pub chained : {S A B C D : Type 0} (Is : A → Type 0) (Has : B → Type 0) (First : C → Type 0) (Whole : D → Type 0) (mark : S → Token) (make : S → A → B) (R : Form Token A) (whole : C → List B → D) (F : Form Token C)
    → Reads Is R → ((s : S) (a : A) → Is a → Has (make s a)) → Reads First F → ((c : C) (bs : List B) → First c → AllByRecursion Has bs → Whole (whole c bs)) → Reads Whole (ChainedOf mark make R whole F)
chained Is Has First Whole mark make R whole F k makes l joins ts d rest h goods =
    let first = l ts h.0 h.1 h.3 goods in
    let others = tail Is Has mark make R k makes h.2 h.1 rest h.4 first.1 in
    let a = first.2 in
    let b = others.2 in
    (subst Whole (sym h.5) (joins h.0 h.2 first.0 others.0), others.1, omega (arith, a, b))

-- one or more, and each is so
abbrev pub Some_of : {A : Type 0} → (A → Type 0) → List A → Type 0
Some_of Is xs = (1 ≤ length xs) × AllByRecursion Is xs

pub listed : {A : Type 0} (Is : A → Type 0) (mark : Unit {0} → Token) (R : Form Token A) → Reads Is R → Reads (Some_of Is) (Listed mark R)
listed Is mark R k = chained Is Is Is (Some_of Is) mark part R all_of R k (λ s a is. is) k (λ c bs is all. (omega arith, (is, all)))

-- ---- trees

abbrev IsSummand : SumPart → Type 0
IsSummand s = IsTree s.part

abbrev IsFactor : ProductPart → Type 0
IsFactor f = IsTree f.part

abbrev Layer : Expr-F Expr ProductPart SumPart → Type 0
Layer x = IsLayer IsTree IsFactor IsSummand x

pub int_tree : (n : ℤ) → IsLiteral n → IsTree (expr.Int n)
int_tree n is = layer_tree (Expr-F.Int n) (expr.Int n) (expr.rolls-Int n) is

or_tree : (e : Expr) (es : List Expr) → IsTree e → AllByRecursion IsTree es → IsTree (or_of e es)
or_tree e [] is all = is
or_tree e (x ∷ xs) is all = layer_tree (Expr-F.Or (e ∷ x ∷ xs)) (expr.Or (e ∷ x ∷ xs)) (expr.rolls-Or (e ∷ x ∷ xs)) (omega arith, (is, all))

and_tree : (e : Expr) (es : List Expr) → IsTree e → AllByRecursion IsTree es → IsTree (and_of e es)
and_tree e [] is all = is
and_tree e (x ∷ xs) is all = layer_tree (Expr-F.And (e ∷ x ∷ xs)) (expr.And (e ∷ x ∷ xs)) (expr.rolls-And (e ∷ x ∷ xs)) (omega arith, (is, all))

concat_tree : (e : Expr) (es : List Expr) → IsTree e → AllByRecursion IsTree es → IsTree (concat_of e es)
concat_tree e [] is all = is
concat_tree e (x ∷ xs) is all = layer_tree (Expr-F.Concat (e ∷ x ∷ xs)) (expr.Concat (e ∷ x ∷ xs)) (expr.rolls-Concat (e ∷ x ∷ xs)) (omega arith, (is, all))

tests_tree : (e : Expr) (tests : List Truth) → IsTree e → AllByRecursion (λ (t : Truth). Unit {0}) tests → IsTree (tests_of e tests)
tests_tree e [] is all = is
tests_tree e (x ∷ xs) is all = layer_tree (Expr-F.IsNull e (x ∷ xs)) (expr.IsNull e (x ∷ xs)) (expr.rolls-IsNull e (x ∷ xs)) (is, omega arith)

sum_tree : (e : Expr) (parts : List SumPart) → IsTree e → AllByRecursion IsSummand parts → IsTree (sum_of e parts)
sum_tree e [] is all = is
sum_tree e (x ∷ xs) is all = layer_tree (Expr-F.Sum e (x ∷ xs)) (expr.Sum e (x ∷ xs)) (expr.rolls-Sum e (x ∷ xs)) (is, (omega arith, all))

product_tree : (e : Expr) (parts : List ProductPart) → IsTree e → AllByRecursion IsFactor parts → IsTree (product_of e parts)
product_tree e [] is all = is
product_tree e (x ∷ xs) is all = layer_tree (Expr-F.Product e (x ∷ xs)) (expr.Product e (x ∷ xs)) (expr.rolls-Product e (x ∷ xs)) (is, (omega arith, all))

function_is : (f : Function) → IsTree (function_tree f)
function_is function.Now = layer_tree Expr-F.Now expr.Now expr.rolls-Now tt
function_is function.TransactionTimestamp = layer_tree Expr-F.TransactionTimestamp expr.TransactionTimestamp expr.rolls-TransactionTimestamp tt

bool_tree : (b : Truth) → IsTree (expr.Bool b)
bool_tree b = layer_tree (Expr-F.Bool b) (expr.Bool b) (expr.rolls-Bool b) tt

pub null_tree : IsTree expr.Null
null_tree = layer_tree Expr-F.Null expr.Null expr.rolls-Null tt

-- ---- expressions

-- the tokens behind some of the front are good
pub behind_1 : (ts : List Token) (t : Token) (rest : List Token) → ts ≡ t ∷ rest → Goods ts → IsGood t × Goods rest × (length rest ≤ length ts)
behind_1 ts t rest is goods =
    let all = shift ts (t ∷ rest) is goods in
    (all.0, all.1, longer ts (t ∷ rest) (length rest) is (omega arith))

module _ (B : Opening → Form Token Expr) (behind : (o : Opening) → Reads IsTree (B o)) where
  prim_read : Reads IsTree (PrimOf B)
  prim_read ts e rest (number n h k) goods = let r = behind_1 ts (token.Number n) rest h goods in (subst IsTree (sym k) (int_tree n (inl r.0)), r.1, r.2)
  prim_read ts e rest (string s h k) goods = let r = behind_1 ts (token.Str s) rest h goods in (subst IsTree (sym k) (layer_tree (Expr-F.Str s) (expr.Str s) (expr.rolls-Str s) r.0), r.1, r.2)
  prim_read ts e rest (truth h k) goods = let r = behind_1 ts (token.Word word.True) rest h goods in (subst IsTree (sym k) (bool_tree true), r.1, r.2)
  prim_read ts e rest (falsehood h k) goods = let r = behind_1 ts (token.Word word.False) rest h goods in (subst IsTree (sym k) (bool_tree false), r.1, r.2)
  prim_read ts e rest (null h k) goods = let r = behind_1 ts (token.Word word.Null) rest h goods in (subst IsTree (sym k) null_tree, r.1, r.2)
  prim_read ts e rest (parameter n h k) goods = let r = behind_1 ts (token.Param n) rest h goods in (subst IsTree (sym k) (layer_tree (Expr-F.Param n) (expr.Param n) (expr.rolls-Param n) r.0), r.1, r.2)
  prim_read ts e rest (column n h k) goods =
      let r = behind_1 ts (token.Name n) rest h goods in
      (subst IsTree (sym k) (layer_tree (Expr-F.Column None n.text) (expr.Column None n.text) (expr.rolls-Column None n.text) (tt, r.0.0)), r.1, r.2)
  prim_read ts e rest (qualified q n h k) goods =
      let r = shift ts (token.Name q ∷ token.Mark mark.Dot ∷ token.Name n ∷ rest) h goods in
      (subst IsTree (sym k) (layer_tree (Expr-F.Column (Some q.text) n.text) (expr.Column (Some q.text) n.text) (expr.rolls-Column (Some q.text) n.text) (r.0.0, r.1.1.0.0)), r.1.1.1, longer ts (token.Name q ∷ token.Mark mark.Dot ∷ token.Name n ∷ rest) (length rest) h (omega arith))
  prim_read ts e rest (parenthesis mid h d) goods =
      let r = behind_1 ts (token.Mark mark.Open) mid h goods in
      let s = behind opening.Parenthesis mid e (token.Mark mark.Close ∷ rest) d r.1 in
      let a = r.2 in
      let b = s.2 in
      (s.0, s.1.1, omega (arith, a, b))
  prim_read ts e rest (current h k) goods =
      let r = behind_1 ts (token.Word word.CurrentTimestamp) rest h goods in
      (subst IsTree (sym k) (layer_tree Expr-F.CurrentTimestamp expr.CurrentTimestamp expr.rolls-CurrentTimestamp tt), r.1, r.2)
  prim_read ts e rest (call f n mid h plain d) goods =
      let r = shift ts (token.Name n ∷ token.Mark mark.Open ∷ mid) h goods in
      let s = behind (opening.Call f) mid e rest d r.1.1 in
      let b = s.2 in
      (s.0, s.1, longer ts (token.Name n ∷ token.Mark mark.Open ∷ mid) (length rest) h (omega (arith, b)))
  prim_read ts e rest (moment s h k) goods =
      let r = shift ts (token.Word word.Timestamptz ∷ token.Str s ∷ rest) h goods in
      (subst IsTree (sym k) (layer_tree (Expr-F.Moment s) (expr.Moment s) (expr.rolls-Moment s) r.1.0), r.1.1, longer ts (token.Word word.Timestamptz ∷ token.Str s ∷ rest) (length rest) h (omega arith))

  un_read : Reads IsTree (UnOf B)
  un_read ts e rest (negative mid h d) goods =
      let r = behind_1 ts (token.Mark mark.Minus) mid h goods in
      let s = behind opening.Minus mid e rest d r.1 in
      let a = r.2 in
      let b = s.2 in
      (s.0, s.1, omega (arith, a, b))
  un_read ts e rest (prim h) goods = prim_read ts e rest h goods

  product_read : Reads IsTree (ProductOf B)
  unfolding ProductOf
  product_read = chained IsTree IsFactor IsTree IsTree factor_sign product_part (UnOf B) product_of (UnOf B) un_read (λ s a is. is) un_read product_tree

  sum_read : Reads IsTree (SumOf B)
  unfolding SumOf
  sum_read = chained IsTree IsSummand IsTree IsTree sign sum_part (ProductOf B) sum_of (ProductOf B) product_read (λ s a is. is) product_read sum_tree

  cat_read : Reads IsTree (CatOf B)
  unfolding CatOf
  cat_read = chained IsTree IsTree IsTree IsTree bars part (SumOf B) concat_of (SumOf B) sum_read (λ s a is. is) sum_read concat_tree

  list_read : Reads (Some_of IsTree) (ListOf B)
  unfolding ListOf
  list_read ts xs rest h goods =
      let r = behind_1 ts (token.Mark mark.Open) h.0 h.1 goods in
      let s = chained IsTree IsTree IsTree (Some_of IsTree) comma part (B opening.Parenthesis) list_of (B opening.Parenthesis) (behind opening.Parenthesis) (λ s a is. is) (behind opening.Parenthesis) (λ c bs is all. (omega arith, (is, all))) h.0 xs (token.Mark mark.Close ∷ rest) h.2 r.1 in
      let a = r.2 in
      let b = s.2 in
      (s.0, s.1.1, omega (arith, a, b))

  member_tree : (x : Expr) (other : Truth) (xs : List Expr) → IsTree x → Some_of IsTree xs → IsTree (expr.Member x other xs)
  member_tree x other xs is all = layer_tree (Expr-F.Member x other xs) (expr.Member x other xs) (expr.rolls-Member x other xs) (is, all)

  mem_read : Reads IsTree (MemOf B)
  mem_read ts e rest (cat h) goods = cat_read ts e rest h goods
  mem_read ts e rest (within x mid xs h k q) goods =
      let r = cat_read ts x (token.Word word.In ∷ mid) h goods in
      let s = list_read mid xs rest k r.1.1 in
      let a = r.2 in
      let b = s.2 in
      (subst IsTree (sym q) (member_tree x false xs r.0 s.0), s.1, omega (arith, a, b))
  mem_read ts e rest (without x mid xs h k q) goods =
      let r = cat_read ts x (token.Word word.Not ∷ token.Word word.In ∷ mid) h goods in
      let s = list_read mid xs rest k r.1.1.1 in
      let a = r.2 in
      let b = s.2 in
      (subst IsTree (sym q) (member_tree x true xs r.0 s.0), s.1, omega (arith, a, b))

  cmp_read : Reads IsTree (CmpOf B)
  cmp_read ts e rest (mem h) goods = mem_read ts e rest h goods
  cmp_read ts e rest (compared c x y mid h k q) goods =
      let r = mem_read ts x (comparison_mark c ∷ mid) h goods in
      let s = mem_read mid y rest k r.1.1 in
      let a = r.2 in
      let b = s.2 in
      (subst IsTree (sym q) (layer_tree (Expr-F.Compare c x y) (expr.Compare c x y) (expr.rolls-Compare c x y) (r.0, s.0)), s.1, omega (arith, a, b))

  nullity_read : Reads (λ (t : Truth). Unit {0}) NullityOf
  nullity_read ts is_not rest (inl h) goods = let r = behind_1 ts (token.Word word.Null) rest h.0 goods in (tt, r.1, r.2)
  nullity_read ts is_not rest (inr h) goods =
      let r = shift ts (token.Word word.Not ∷ token.Word word.Null ∷ rest) h.0 goods in
      (tt, r.1.1, longer ts (token.Word word.Not ∷ token.Word word.Null ∷ rest) (length rest) h.0 (omega arith))

  test_read : Reads IsTree (TestOf B)
  unfolding TestOf
  test_read = chained (λ (t : Truth). Unit {0}) (λ (t : Truth). Unit {0}) IsTree IsTree is_word part NullityOf tests_of (CmpOf B) nullity_read (λ s a is. is) cmp_read tests_tree

  not_read : Reads IsTree (NotOf B)
  not_read ts e rest (negated mid h d) goods =
      let r = behind_1 ts (token.Word word.Not) mid h goods in
      let s = behind opening.Not mid e rest d r.1 in
      let a = r.2 in
      let b = s.2 in
      (s.0, s.1, omega (arith, a, b))
  not_read ts e rest (test h) goods = test_read ts e rest h goods

  and_read : Reads IsTree (AndOf B)
  unfolding AndOf
  and_read = chained IsTree IsTree IsTree IsTree and_word part (NotOf B) and_of (NotOf B) not_read (λ s a is. is) not_read and_tree

  or_read : Reads IsTree (OrOf B)
  unfolding OrOf
  or_read = chained IsTree IsTree IsTree IsTree or_word part (AndOf B) or_of (AndOf B) and_read (λ s a is. is) and_read or_tree

  minus_read : Reads IsTree (MinusOf B)
  minus_read ts e rest (inl h) goods = let r = behind_1 ts token.Least rest h.0 goods in (subst IsTree (sym h.1) (int_tree least (inr refl)), r.1, r.2)
  minus_read ts e rest (inr h) goods =
      let r = un_read ts h.0 rest h.1 goods in
      (subst IsTree (sym h.2) (layer_tree (Expr-F.Minus h.0) (expr.Minus h.0) (expr.rolls-Minus h.0) r.0), r.1, r.2)

-- at each number of nestings
behind_read : (d : ℕ) (o : Opening) → Reads IsTree (Behind d o)
unfolding Behind
behind_read zero o ts e rest h goods = absurd h
behind_read (suc d) opening.Minus ts e rest h goods = minus_read (Behind d) (behind_read d) ts e rest h goods
behind_read (suc d) opening.Not ts e rest h goods =
    let r = not_read (Behind d) (behind_read d) ts h.0 rest h.1 goods in
    (subst IsTree (sym h.2) (layer_tree (Expr-F.Not h.0) (expr.Not h.0) (expr.rolls-Not h.0) r.0), r.1, r.2)
behind_read (suc d) opening.Parenthesis ts e rest h goods = or_read (Behind d) (behind_read d) ts e rest h goods
behind_read (suc d) (opening.Call f) ts e rest h goods =
    let r = behind_1 ts (token.Mark mark.Close) rest h.0 goods in
    (subst IsTree (sym h.1) (function_is f), r.1, r.2)

pub expr_read : (d : ℕ) → Reads IsTree (ExprOf d)
expr_read d = or_read (Behind d) (behind_read d)
