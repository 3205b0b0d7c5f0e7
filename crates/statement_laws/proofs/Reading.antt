-- What is read of good tokens has short names.
use Rattle.std.proofs.Common.{◌≢◌, ◌<◌, ℕ, zero, suc, pos, List, [], ◌∷◌, length, get_or, Option, Some, None, IfSome, sym, subst, inl, inr, arith}
use Rattle.std.specs.Prelude.{Bool as Truth, true, false, codes}
use Rattle.std.specs.List.{AllByRecursion}
use Rattle.sql_tokens.specs.Grammar.{Form, part}
use Rattle.sql_tokens.specs.declared.mark.Mark.TheVariants as mark
use Rattle.sql_tokens.specs.declared.token.Token.{Token}
use Rattle.sql_tokens.specs.declared.token.Token.TheVariants as token
use Rattle.sql_tokens.specs.declared.word.Word.TheVariants as word
use Rattle.sql_tree.specs.declared.expr.Expr.{Expr}
use Rattle.sql_tree.specs.declared.expr.Expr.TheVariants as expr
use Rattle.sql_tree.specs.declared.expr.ProductPart.{ProductPart}
use Rattle.sql_tree.specs.declared.expr.SumPart.{SumPart}
use Rattle.sql_tree.specs.declared.statement.Cell.{Cell}
use Rattle.sql_tree.specs.declared.statement.Cell.TheVariants.{Fill}
use Rattle.sql_tree.specs.declared.statement.OrderItem.{OrderItem}
use Rattle.sql_tree.specs.declared.statement.SelectList.{SelectList}
use Rattle.sql_tree.specs.declared.statement.SetItem.{SetItem}
use Rattle.sql_tree.specs.declared.statement.Statement.{Statement}
use Rattle.sql_tree.specs.declared.statement.Statement.TheVariants as statement
use Rattle.sql_expr.specs.declared.opening.Function.{Function}
use Rattle.sql_expr.specs.declared.opening.Function.TheVariants as function
use Rattle.sql_expr.specs.declared.opening.Opening.{Opening}
use Rattle.sql_expr.specs.declared.opening.Opening.TheVariants as opening
use Rattle.sql_expr.specs.Grammar.{and_word, bars, comma, is_word, or_word, or_of, and_of, tests_of, concat_of, sum_of, product_of, list_of, sum_part, product_part, sign, factor_sign, comparison_mark, function_tree, least, PrimOf, number, string, truth, falsehood, null, parameter, column, qualified, parenthesis, current, call, moment, UnOf, negative, prim, ProductOf, SumOf, CatOf, ListOf, MemOf, cat, within, without, CmpOf, mem, compared, NullityOf, TestOf, NotOf, negated, test, AndOf, OrOf, MinusOf, Behind, ExprOf}
use Rattle.sql_reader.specs.declared.verb.Verb.{Verb}
use Rattle.sql_reader.specs.declared.verb.Verb.TheVariants as verb
use Rattle.sql_reader.specs.Parts.{Done, Then, Made, Maybe, Listed}
use Rattle.sql_reader.specs.Parts.{Behind as BehindMark}
use Rattle.sql_reader.specs.Words.{from_word, where_word, into_word, values_word, set_word, by_word, update_word, level_word, repeatable_word, read_word, as_word, limit_word, order_word, for_word, isolation_word, transaction_word, default_word, open_mark, close_mark, equal_mark, dot_mark, work_word, direction_word, name_token, plain_name, semicolon_mark}
use Rattle.sql_reader.specs.Grammar.{NameOf, kept, Closed, FilterOf, delete_of, DeleteOf, set_item, SetOf, update_of, UpdateOf, WorkOf, IsolationOf, always, BeginOf, StartOf, EndingOf, ShowOf, BackendOf, recover_of, RecoverOf, given_cell, CellOf, RowOf, ColumnsOf, insert_of, InsertOf, select_item, ItemOf, order_item, OrderItemOf, OrderOf, LimitOf, SizeOf, LockOf, Source, SourceOf, order_of, select_of, SelectOf, verb_token, BehindVerb}
use Rattle.sql_reader.specs.Grammar as grammar
use Rattle.sql_reader.specs.TextGrammar.{PartOf, written, IsTextWithin}
use Rattle.sql_profile.proofs.Walk.{IsShort, Goods, Reads, shift, longer, done, then, made, one, maybe, either, chained, listed, behind_1}
use Rattle.statement_laws.specs.Told.{IsTold}
use Rattle.statement_laws.proofs.Expressions.{Calm, int_calm, str_calm, bool_calm, null_calm, param_calm, column_calm, current_calm, now_calm, transaction_calm, moment_calm, or_calm, and_calm, concat_calm, not_calm, tests_calm, compare_calm, member_calm, sum_calm, product_calm, minus_calm}
use Rattle.statement_laws.proofs.RefusedBodies.{IsCalm, IsCalmCell, IsCalmItem, IsCalmList, IsCalmOrder, IsCalmRow, IsCalmSet}

-- ---- names

some_byte : (b : ℕ) → 0 < b → b ≢ 0
some_byte b some none = absurd (omega (arith, some, none))

name_told : (name : List ℕ) → IsShort name → IsTold name
name_told name is = (is.1, λ k d below. some_byte (get_or name k d) (is.0.1 k d below))

-- ---- expressions

or_is : (e : Expr) (es : List Expr) → Calm e → AllByRecursion Calm es → Calm (or_of e es)
or_is e [] is all = is
or_is e (x ∷ xs) is all = or_calm (e ∷ x ∷ xs) (is, all)

and_is : (e : Expr) (es : List Expr) → Calm e → AllByRecursion Calm es → Calm (and_of e es)
and_is e [] is all = is
and_is e (x ∷ xs) is all = and_calm (e ∷ x ∷ xs) (is, all)

concat_is : (e : Expr) (es : List Expr) → Calm e → AllByRecursion Calm es → Calm (concat_of e es)
concat_is e [] is all = is
concat_is e (x ∷ xs) is all = concat_calm (e ∷ x ∷ xs) (is, all)

tests_are : (e : Expr) (tests : List Truth) → Calm e → AllByRecursion (λ (t : Truth). Unit {0}) tests → Calm (tests_of e tests)
tests_are e [] is all = is
tests_are e (x ∷ xs) is all = tests_calm e (x ∷ xs) is

abbrev IsSummand : SumPart → Type 0
IsSummand s = Calm s.part

abbrev IsFactor : ProductPart → Type 0
IsFactor f = Calm f.part

sum_is : (e : Expr) (parts : List SumPart) → Calm e → AllByRecursion IsSummand parts → Calm (sum_of e parts)
sum_is e [] is all = is
sum_is e (x ∷ xs) is all = sum_calm e (x ∷ xs) is all

product_is : (e : Expr) (parts : List ProductPart) → Calm e → AllByRecursion IsFactor parts → Calm (product_of e parts)
product_is e [] is all = is
product_is e (x ∷ xs) is all = product_calm e (x ∷ xs) is all

function_is : (f : Function) → Calm (function_tree f)
function_is function.Now = now_calm
function_is function.TransactionTimestamp = transaction_calm

module _ (B : Opening → Form Token Expr) (behind : (o : Opening) → Reads Calm (B o)) where
  prim_read : Reads Calm (PrimOf B)
  prim_read ts e rest (number n h k) goods = let r = behind_1 ts (token.Number n) rest h goods in (subst Calm (sym k) (int_calm n), r.1, r.2)
  prim_read ts e rest (string s h k) goods = let r = behind_1 ts (token.Str s) rest h goods in (subst Calm (sym k) (str_calm s), r.1, r.2)
  prim_read ts e rest (truth h k) goods = let r = behind_1 ts (token.Word word.True) rest h goods in (subst Calm (sym k) (bool_calm true), r.1, r.2)
  prim_read ts e rest (falsehood h k) goods = let r = behind_1 ts (token.Word word.False) rest h goods in (subst Calm (sym k) (bool_calm false), r.1, r.2)
  prim_read ts e rest (null h k) goods = let r = behind_1 ts (token.Word word.Null) rest h goods in (subst Calm (sym k) null_calm, r.1, r.2)
  prim_read ts e rest (parameter n h k) goods = let r = behind_1 ts (token.Param n) rest h goods in (subst Calm (sym k) (param_calm n), r.1, r.2)
  prim_read ts e rest (column n h k) goods =
      let r = behind_1 ts (token.Name n) rest h goods in
      (subst Calm (sym k) (column_calm None n.text tt (name_told n.text r.0)), r.1, r.2)
  prim_read ts e rest (qualified q n h k) goods =
      let r = shift ts (token.Name q ∷ token.Mark mark.Dot ∷ token.Name n ∷ rest) h goods in
      (subst Calm (sym k) (column_calm (Some q.text) n.text (name_told q.text r.0) (name_told n.text r.1.1.0)), r.1.1.1, longer ts (token.Name q ∷ token.Mark mark.Dot ∷ token.Name n ∷ rest) (length rest) h (omega arith))
  prim_read ts e rest (parenthesis mid h d) goods =
      let r = behind_1 ts (token.Mark mark.Open) mid h goods in
      let s = behind opening.Parenthesis mid e (token.Mark mark.Close ∷ rest) d r.1 in
      let a = r.2 in
      let b = s.2 in
      (s.0, s.1.1, omega (arith, a, b))
  prim_read ts e rest (current h k) goods = let r = behind_1 ts (token.Word word.CurrentTimestamp) rest h goods in (subst Calm (sym k) current_calm, r.1, r.2)
  prim_read ts e rest (call f n mid h plain d) goods =
      let r = shift ts (token.Name n ∷ token.Mark mark.Open ∷ mid) h goods in
      let s = behind (opening.Call f) mid e rest d r.1.1 in
      let b = s.2 in
      (s.0, s.1, longer ts (token.Name n ∷ token.Mark mark.Open ∷ mid) (length rest) h (omega (arith, b)))
  prim_read ts e rest (moment s h k) goods =
      let r = shift ts (token.Word word.Timestamptz ∷ token.Str s ∷ rest) h goods in
      (subst Calm (sym k) (moment_calm s), r.1.1, longer ts (token.Word word.Timestamptz ∷ token.Str s ∷ rest) (length rest) h (omega arith))

  un_read : Reads Calm (UnOf B)
  un_read ts e rest (negative mid h d) goods =
      let r = behind_1 ts (token.Mark mark.Minus) mid h goods in
      let s = behind opening.Minus mid e rest d r.1 in
      let a = r.2 in
      let b = s.2 in
      (s.0, s.1, omega (arith, a, b))
  un_read ts e rest (prim h) goods = prim_read ts e rest h goods

  product_read : Reads Calm (ProductOf B)
  unfolding ProductOf
  product_read = chained Calm IsFactor Calm Calm factor_sign product_part (UnOf B) product_of (UnOf B) un_read (λ s a is. is) un_read product_is

  sum_read : Reads Calm (SumOf B)
  unfolding SumOf
  sum_read = chained Calm IsSummand Calm Calm sign sum_part (ProductOf B) sum_of (ProductOf B) product_read (λ s a is. is) product_read sum_is

  cat_read : Reads Calm (CatOf B)
  unfolding CatOf
  cat_read = chained Calm Calm Calm Calm bars part (SumOf B) concat_of (SumOf B) sum_read (λ s a is. is) sum_read concat_is

  list_read : Reads (AllByRecursion Calm) (ListOf B)
  unfolding ListOf
  list_read ts xs rest h goods =
      let r = behind_1 ts (token.Mark mark.Open) h.0 h.1 goods in
      let s = chained Calm Calm Calm (AllByRecursion Calm) comma part (B opening.Parenthesis) list_of (B opening.Parenthesis) (behind opening.Parenthesis) (λ s a is. is) (behind opening.Parenthesis) (λ c bs is all. (is, all)) h.0 xs (token.Mark mark.Close ∷ rest) h.2 r.1 in
      let a = r.2 in
      let b = s.2 in
      (s.0, s.1.1, omega (arith, a, b))

  mem_read : Reads Calm (MemOf B)
  mem_read ts e rest (cat h) goods = cat_read ts e rest h goods
  mem_read ts e rest (within x mid xs h k q) goods =
      let r = cat_read ts x (token.Word word.In ∷ mid) h goods in
      let s = list_read mid xs rest k r.1.1 in
      let a = r.2 in
      let b = s.2 in
      (subst Calm (sym q) (member_calm x false xs r.0 s.0), s.1, omega (arith, a, b))
  mem_read ts e rest (without x mid xs h k q) goods =
      let r = cat_read ts x (token.Word word.Not ∷ token.Word word.In ∷ mid) h goods in
      let s = list_read mid xs rest k r.1.1.1 in
      let a = r.2 in
      let b = s.2 in
      (subst Calm (sym q) (member_calm x true xs r.0 s.0), s.1, omega (arith, a, b))

  cmp_read : Reads Calm (CmpOf B)
  cmp_read ts e rest (mem h) goods = mem_read ts e rest h goods
  cmp_read ts e rest (compared c x y mid h k q) goods =
      let r = mem_read ts x (comparison_mark c ∷ mid) h goods in
      let s = mem_read mid y rest k r.1.1 in
      let a = r.2 in
      let b = s.2 in
      (subst Calm (sym q) (compare_calm c x y r.0 s.0), s.1, omega (arith, a, b))

  nullity_read : Reads (λ (t : Truth). Unit {0}) NullityOf
  nullity_read ts is_not rest (inl h) goods = let r = behind_1 ts (token.Word word.Null) rest h.0 goods in (tt, r.1, r.2)
  nullity_read ts is_not rest (inr h) goods =
      let r = shift ts (token.Word word.Not ∷ token.Word word.Null ∷ rest) h.0 goods in
      (tt, r.1.1, longer ts (token.Word word.Not ∷ token.Word word.Null ∷ rest) (length rest) h.0 (omega arith))

  test_read : Reads Calm (TestOf B)
  unfolding TestOf
  test_read = chained (λ (t : Truth). Unit {0}) (λ (t : Truth). Unit {0}) Calm Calm is_word part NullityOf tests_of (CmpOf B) nullity_read (λ s a is. is) cmp_read tests_are

  not_read : Reads Calm (NotOf B)
  not_read ts e rest (negated mid h d) goods =
      let r = behind_1 ts (token.Word word.Not) mid h goods in
      let s = behind opening.Not mid e rest d r.1 in
      let a = r.2 in
      let b = s.2 in
      (s.0, s.1, omega (arith, a, b))
  not_read ts e rest (test h) goods = test_read ts e rest h goods

  and_read : Reads Calm (AndOf B)
  unfolding AndOf
  and_read = chained Calm Calm Calm Calm and_word part (NotOf B) and_of (NotOf B) not_read (λ s a is. is) not_read and_is

  or_read : Reads Calm (OrOf B)
  unfolding OrOf
  or_read = chained Calm Calm Calm Calm or_word part (AndOf B) or_of (AndOf B) and_read (λ s a is. is) and_read or_is

  minus_read : Reads Calm (MinusOf B)
  minus_read ts e rest (inl h) goods = let r = behind_1 ts token.Least rest h.0 goods in (subst Calm (sym h.1) (int_calm least), r.1, r.2)
  minus_read ts e rest (inr h) goods =
      let r = un_read ts h.0 rest h.1 goods in
      (subst Calm (sym h.2) (minus_calm h.0 r.0), r.1, r.2)

-- at each number of nestings
behind_read : (d : ℕ) (o : Opening) → Reads Calm (Behind d o)
unfolding Behind
behind_read zero o ts e rest h goods = absurd h
behind_read (suc d) opening.Minus ts e rest h goods = minus_read (Behind d) (behind_read d) ts e rest h goods
behind_read (suc d) opening.Not ts e rest h goods =
    let r = not_read (Behind d) (behind_read d) ts h.0 rest h.1 goods in
    (subst Calm (sym h.2) (not_calm h.0 r.0), r.1, r.2)
behind_read (suc d) opening.Parenthesis ts e rest h goods = or_read (Behind d) (behind_read d) ts e rest h goods
behind_read (suc d) (opening.Call f) ts e rest h goods =
    let r = behind_1 ts (token.Mark mark.Close) rest h.0 goods in
    (subst Calm (sym h.1) (function_is f), r.1, r.2)

expr_read : (d : ℕ) → Reads Calm (ExprOf d)
expr_read d = or_read (Behind d) (behind_read d)

-- ---- parts of statements

abbrev Any : {A : Type 0} → A → Type 0
Any a = Unit {0}

-- no token says nothing
abbrev here : Unit {0}
here = tt

name_read : Reads IsTold NameOf
name_read = one IsTold name_token (λ n. Done n.text) (λ n good. done IsTold n.text (name_told n.text good))

marked : {A : Type 0} (Is : A → Type 0) (mark : Unit {0} → Token) (R : Form Token A) → Reads Is R → Reads Is (BehindMark mark R)
marked Is mark R k = one Is mark (λ _. R) (λ s good. k)

nothing_read : Reads {A = Unit {0}} Any (Done here)
nothing_read = done {A = Unit {0}} Any here tt

closed : {A : Type 0} (Is : A → Type 0) (R : Form Token A) → Reads Is R → Reads Is (Closed R)
closed Is R k =
    made (λ x. Is x.0 × Any x.1) Is kept (Then R (BehindMark close_mark (Done here)))
    (then Is Any R (BehindMark close_mark (Done here)) k (marked Any close_mark (Done here) nothing_read)) (λ x is. is.0)

-- each of one or more
all_read : {A : Type 0} (Is : A → Type 0) (mark : Unit {0} → Token) (R : Form Token A) → Reads Is R → Reads (AllByRecursion Is) (Listed mark R)
all_read Is mark R k ts xs rest h goods = let r = listed Is mark R k ts xs rest h goods in (r.0.1, r.1, r.2)

filter_read : (d : ℕ) → Reads (λ o. IfSome o Calm) (FilterOf d)
filter_read d = maybe Calm where_word (λ _. ExprOf d) (λ s good. expr_read d)

delete_read : (d : ℕ) → Reads IsCalm (DeleteOf d)
delete_read d =
    let parts = Then NameOf (FilterOf d) in
    made (λ x. IsTold x.0 × IfSome x.1 Calm) IsCalm delete_of (BehindMark from_word parts)
    (marked (λ x. IsTold x.0 × IfSome x.1 Calm) from_word parts (then IsTold (λ o. IfSome o Calm) NameOf (FilterOf d) name_read (filter_read d)))
    (λ x is. record { table = is.0; filter = is.1 })

set_read : (d : ℕ) → Reads IsCalmSet (SetOf d)
set_read d =
    let value = BehindMark equal_mark (ExprOf d) in
    made (λ x. IsTold x.0 × Calm x.1) IsCalmSet set_item (Then NameOf value) (then IsTold Calm NameOf value name_read (marked Calm equal_mark (ExprOf d) (expr_read d))) (λ x is. (is.0, is.1))

update_read : (d : ℕ) → Reads IsCalm (UpdateOf d)
update_read d =
    let sets = Then (Listed comma (SetOf d)) (FilterOf d) in
    let Sets : List SetItem × Option Expr → Type 0 = λ x. AllByRecursion IsCalmSet x.0 × IfSome x.1 Calm in
    made (λ x. IsTold x.0 × Sets x.1) IsCalm update_of (Then NameOf (BehindMark set_word sets))
    (then IsTold Sets NameOf (BehindMark set_word sets) name_read (marked Sets set_word sets (then (AllByRecursion IsCalmSet) (λ o. IfSome o Calm) (Listed comma (SetOf d)) (FilterOf d) (all_read IsCalmSet comma (SetOf d) (set_read d)) (filter_read d))))
    (λ x is. record { table = is.0; sets = is.1.0; filter = is.1.1 })

-- ---- statements without names

work_read : Reads Any WorkOf
work_read ts o rest h goods = let r = maybe Any work_word (λ _. Done here) (λ s good. nothing_read) ts o rest h goods in (tt, r.1, r.2)

isolation_read : Reads Any IsolationOf
isolation_read ts o rest h goods =
    let read = BehindMark read_word (Done here) in
    let repeatable = BehindMark repeatable_word read in
    let r = maybe Any isolation_word (λ _. BehindMark level_word repeatable)
    (λ s good. marked Any level_word repeatable (marked Any repeatable_word read (marked Any read_word (Done here) nothing_read))) ts o rest h goods in
    (tt, r.1, r.2)

begin_read : Reads IsCalm BeginOf
begin_read = made (λ x. Any x.0 × Any x.1) IsCalm (always statement.Begin) (Then WorkOf IsolationOf) (then Any Any WorkOf IsolationOf work_read isolation_read) (λ x is. tt)

start_read : Reads IsCalm StartOf
start_read = made Any IsCalm (always statement.Begin) (BehindMark transaction_word IsolationOf) (marked Any transaction_word IsolationOf isolation_read) (λ x is. tt)

ending_read : (s : Statement) → IsCalm s → Reads IsCalm (EndingOf s)
ending_read s calm = made Any IsCalm (always s) WorkOf work_read (λ x is. calm)

show_read : Reads IsCalm ShowOf
show_read = marked IsCalm (plain_name (codes "pool_nodes")) (Done statement.ShowNodes) (done IsCalm statement.ShowNodes tt)

backend_read : Reads Any BackendOf
backend_read ts b rest h goods = let r = behind_1 ts (token.Number (pos b)) rest h.0 goods in (tt, r.1, r.2)

recover_read : Reads IsCalm RecoverOf
recover_read = made Any IsCalm recover_of (BehindMark (plain_name (codes "recover")) BackendOf) (marked Any (plain_name (codes "recover")) BackendOf backend_read) (λ x is. tt)

-- ---- INSERT

cell_read : (d : ℕ) → Reads IsCalmCell (CellOf d)
cell_read d = either IsCalmCell default_word (λ _. Done Fill) (Made given_cell (ExprOf d)) (λ s good. done IsCalmCell Fill tt) (made Calm IsCalmCell given_cell (ExprOf d) (expr_read d) (λ e is. is))

row_read : (d : ℕ) → Reads IsCalmRow (RowOf d)
row_read d = marked IsCalmRow open_mark (Closed (Listed comma (CellOf d))) (closed IsCalmRow (Listed comma (CellOf d)) (all_read IsCalmCell comma (CellOf d) (cell_read d)))

abbrev Names : Option (List (List ℕ)) → Type 0
Names o = IfSome o (AllByRecursion IsTold)

columns_read : Reads Names ColumnsOf
columns_read = maybe (AllByRecursion IsTold) open_mark (λ _. Closed (Listed comma NameOf)) (λ s good. closed (AllByRecursion IsTold) (Listed comma NameOf) (all_read IsTold comma NameOf name_read))

insert_read : (d : ℕ) → Reads IsCalm (InsertOf d)
insert_read d =
    let rows = BehindMark values_word (Listed comma (RowOf d)) in
    let columns = Then ColumnsOf rows in
    let Columns : Option (List (List ℕ)) × List (List Cell) → Type 0 = λ x. Names x.0 × AllByRecursion IsCalmRow x.1 in
    made (λ x. IsTold x.0 × Columns x.1) IsCalm insert_of (BehindMark into_word (Then NameOf columns))
    (marked (λ x. IsTold x.0 × Columns x.1) into_word (Then NameOf columns)
    (then IsTold Columns NameOf columns name_read (then Names (AllByRecursion IsCalmRow) ColumnsOf rows columns_read (marked (AllByRecursion IsCalmRow) values_word (Listed comma (RowOf d)) (all_read IsCalmRow comma (RowOf d) (row_read d))))))
    (λ x is. record { table = is.0; columns = is.1.0; rows = is.1.1 })

-- ---- SELECT

item_read : (d : ℕ) → Reads IsCalmItem (ItemOf d)
item_read d =
    let name = Maybe as_word (λ _. NameOf) in
    made (λ x. Calm x.0 × IfSome x.1 IsTold) IsCalmItem select_item (Then (ExprOf d) name)
    (then Calm (λ o. IfSome o IsTold) (ExprOf d) name (expr_read d) (maybe IsTold as_word (λ _. NameOf) (λ s good. name_read)))
    (λ x is. is.0)

list_is_read : (d : ℕ) → Reads IsCalmList (grammar.ListOf d)
list_is_read d ts l rest (grammar.star h k) goods = let r = behind_1 ts (token.Mark mark.Star) rest h goods in (subst IsCalmList (sym k) tt, r.1, r.2)
list_is_read d ts l rest (grammar.count h k) goods =
    let all = token.Mark mark.Open ∷ token.Mark mark.Star ∷ token.Mark mark.Close ∷ rest in
    let r = shift ts (plain_name (codes "count") tt ∷ all) h goods in
    (subst IsCalmList (sym k) tt, r.1.1.1.1, longer ts (plain_name (codes "count") tt ∷ all) (length rest) h (omega arith))
list_is_read d ts l rest (grammar.items xs h k) goods =
    let r = all_read IsCalmItem comma (ItemOf d) (item_read d) ts xs rest h goods in
    (subst IsCalmList (sym k) r.0, r.1, r.2)

order_is : (x : List ℕ × (Option (List ℕ) × Option Truth)) → IsTold x.0 → IfSome x.1.0 IsTold → IsCalmOrder (order_item x)
order_is (n, (None, None)) name qualifier = (tt, name)
order_is (n, (None, Some falling)) name qualifier = (tt, name)
order_is (q, (Some n, None)) name qualifier = (name, qualifier)
order_is (q, (Some n, Some falling)) name qualifier = (name, qualifier)

any_done : (b : Truth) → Reads {A = Truth} Any (Done b)
any_done b = done Any b tt

direction_read : Reads Any (Maybe direction_word Done)
direction_read ts o rest h goods = let r = maybe Any direction_word Done (λ b good. any_done b) ts o rest h goods in (tt, r.1, r.2)

order_item_read : Reads IsCalmOrder OrderItemOf
order_item_read =
    let direction = Maybe direction_word Done in
    let point = Maybe dot_mark (λ _. NameOf) in
    made (λ x. IsTold x.0 × (IfSome x.1.0 IsTold × Any x.1.1)) IsCalmOrder order_item (Then NameOf (Then point direction))
    (then IsTold (λ x. IfSome x.0 IsTold × Any x.1) NameOf (Then point direction) name_read
    (then (λ o. IfSome o IsTold) Any point direction (maybe IsTold dot_mark (λ _. NameOf) (λ s good. name_read)) direction_read))
    (λ x is. order_is x is.0 is.1.0)

abbrev Orders : Option (List OrderItem) → Type 0
Orders o = IfSome o (AllByRecursion IsCalmOrder)

order_read : Reads Orders OrderOf
order_read =
    maybe (AllByRecursion IsCalmOrder) order_word (λ _. BehindMark by_word (Listed comma OrderItemOf))
    (λ s good. marked (AllByRecursion IsCalmOrder) by_word (Listed comma OrderItemOf) (all_read IsCalmOrder comma OrderItemOf order_item_read))

limit_read : Reads Calm LimitOf
limit_read ts e rest (grammar.number n h k) goods = let r = behind_1 ts (token.Number n) rest h goods in (subst Calm (sym k) (int_calm n), r.1, r.2)
limit_read ts e rest (grammar.negative n h k) goods =
    let r = shift ts (token.Mark mark.Minus ∷ token.Number n ∷ rest) h goods in
    (subst Calm (sym k) (minus_calm (expr.Int n) (int_calm n)), r.1.1, longer ts (token.Mark mark.Minus ∷ token.Number n ∷ rest) (length rest) h (omega arith))
limit_read ts e rest (grammar.lowest h k) goods =
    let r = shift ts (token.Mark mark.Minus ∷ token.Least ∷ rest) h goods in
    (subst Calm (sym k) (int_calm least), r.1.1, longer ts (token.Mark mark.Minus ∷ token.Least ∷ rest) (length rest) h (omega arith))
limit_read ts e rest (grammar.null h k) goods = let r = behind_1 ts (token.Word word.Null) rest h goods in (subst Calm (sym k) null_calm, r.1, r.2)
limit_read ts e rest (grammar.parameter n h k) goods = let r = behind_1 ts (token.Param n) rest h goods in (subst Calm (sym k) (param_calm n), r.1, r.2)

size_read : Reads (λ o. IfSome o Calm) SizeOf
size_read = maybe Calm limit_word (λ _. LimitOf) (λ s good. limit_read)

lock_read : Reads Any LockOf
lock_read ts o rest h goods =
    let r = maybe Any for_word (λ _. BehindMark update_word (Done here)) (λ s good. marked Any update_word (Done here) nothing_read) ts o rest h goods in
    (tt, r.1, r.2)

abbrev SourceIs : Source → Type 0
SourceIs s = IsTold s.0 × (IfSome s.1.0 Calm × (Orders s.1.1.0 × (IfSome s.1.1.1.0 Calm × Any s.1.1.1.1)))

source_read : (d : ℕ) → Reads SourceIs (SourceOf d)
source_read d =
    let last = Then SizeOf LockOf in
    let order = Then OrderOf last in
    let filter = Then (FilterOf d) order in
    then IsTold (λ x. IfSome x.0 Calm × (Orders x.1.0 × (IfSome x.1.1.0 Calm × Any x.1.1.1))) NameOf filter name_read
    (then (λ o. IfSome o Calm) (λ x. Orders x.0 × (IfSome x.1.0 Calm × Any x.1.1)) (FilterOf d) order (filter_read d)
    (then Orders (λ x. IfSome x.0 Calm × Any x.1) OrderOf last order_read
    (then (λ o. IfSome o Calm) Any SizeOf LockOf size_read lock_read)))

orders_are : (o : Option (List OrderItem)) → Orders o → AllByRecursion IsCalmOrder (order_of o)
orders_are None is = tt
orders_are (Some xs) is = is

select_is : (x : SelectList × Option Source) → IsCalmList x.0 → IfSome x.1 SourceIs → IsCalm (select_of x)
select_is (l, None) items source = record { given = items; table = tt; filter = tt; order = tt; limit = tt }
select_is (l, Some s) items source = record {
  given = items;
  table = source.0;
  filter = source.1.0;
  order = orders_are s.1.1.0 source.1.1.0;
  limit = source.1.1.1.0;
}

select_read : (d : ℕ) → Reads IsCalm (SelectOf d)
select_read d =
    let from = Maybe from_word (λ _. SourceOf d) in
    made (λ x. IsCalmList x.0 × IfSome x.1 SourceIs) IsCalm select_of (Then (grammar.ListOf d) from)
    (then IsCalmList (λ o. IfSome o SourceIs) (grammar.ListOf d) from (list_is_read d) (maybe SourceIs from_word (λ _. SourceOf d) (λ s good. source_read d)))
    (λ x is. select_is x is.0 is.1)

-- ---- statements and texts

verb_read : (d : ℕ) (v : Verb) → Reads IsCalm (BehindVerb d v)
verb_read d verb.Select = select_read d
verb_read d verb.Insert = insert_read d
verb_read d verb.Update = update_read d
verb_read d verb.Delete = delete_read d
verb_read d verb.Begin = begin_read
verb_read d verb.Start = start_read
verb_read d verb.Commit = ending_read statement.Commit tt
verb_read d verb.End = ending_read statement.Commit tt
verb_read d verb.Rollback = ending_read statement.Rollback tt
verb_read d verb.Abort = ending_read statement.Rollback tt
verb_read d verb.Show = show_read
verb_read d verb.Pgpool = recover_read

part_read : (d : ℕ) → Reads (λ o. IfSome o IsCalm) (PartOf d)
part_read d = maybe IsCalm verb_token (BehindVerb d) (λ v good. verb_read d v)

written_are : (parts : List (Option Statement)) → AllByRecursion (λ o. IfSome o IsCalm) parts → AllByRecursion IsCalm (written parts)
written_are [] all = tt
written_are (None ∷ others) all = written_are others all.1
written_are (Some s ∷ others) all = (all.0, written_are others all.1)

-- the statements of good tokens
pub text_calm : (d : ℕ) (ts : List Token) (all : List Statement) → IsTextWithin d ts all → Goods ts → AllByRecursion IsCalm all
text_calm d ts all h goods =
    let r = all_read (λ o. IfSome o IsCalm) semicolon_mark (PartOf d) (part_read d) ts h.0 [] h.1 goods in
    subst (AllByRecursion IsCalm) (sym h.2) (written_are h.0 r.0)
