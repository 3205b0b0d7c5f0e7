-- Statements that are read of good tokens.
use Rattle.std.proofs.Common.{◌≡◌, ◌∙◌, ◌≤◌, ◌+◌, ℕ, zero, suc, ℤ, pos, List, [], ◌∷◌, ◌++◌, length, Option, Some, None, IfSome, refl, sym, ap, subst, inl, inr, ◌⊎◌, arith}
use Rattle.std.specs.Prelude.{Bool as Truth, true, false, codes, get_or}
use Rattle.std.specs.Prelude.{All as Each_of}
use Rattle.std.specs.List.{AllByRecursion}
use Rattle.std.proofs.lemmas.List.Elements.{All-nil, All-cons}
use Rattle.sql_tokens.specs.Grammar.{Form, TailOf, part}
use Rattle.sql_tokens.specs.declared.mark.Mark.TheVariants as mark
use Rattle.sql_tokens.specs.declared.token.Token.{Token}
use Rattle.sql_tokens.specs.declared.token.Token.TheVariants as token
use Rattle.sql_tokens.specs.declared.word.Word.TheVariants as word
use Rattle.sql_tree.specs.declared.expr.Expr.{Expr, Int, Minus, Null, Param}
use Rattle.sql_tree.specs.declared.statement.Cell.{Cell}
use Rattle.sql_tree.specs.declared.statement.Cell.TheVariants.{Fill, Given}
use Rattle.sql_tree.specs.declared.statement.Insert.{Insert}
use Rattle.sql_tree.specs.declared.statement.OrderItem.{OrderItem}
use Rattle.sql_tree.specs.declared.statement.SelectItem.{SelectItem}
use Rattle.sql_tree.specs.declared.statement.SelectList.{SelectList}
use Rattle.sql_tree.specs.declared.statement.SelectList.TheVariants as list
use Rattle.sql_tree.specs.declared.statement.SetItem.{SetItem}
use Rattle.sql_tree.specs.declared.statement.Statement.{Statement}
use Rattle.sql_tree.specs.declared.statement.Statement.TheVariants as statement
use Rattle.sql_tree.specs.Trees.{IsAlone, IsCell, IsDelete, IsInsert, IsItem, IsLimit, IsList, IsLiteral, IsName, IsOrder, IsRow, IsSelect, IsSet, IsStatement, IsTree, IsUpdate}
use Rattle.sql_expr.specs.Grammar.{ExprOf, comma, least}
use Rattle.sql_reader.specs.declared.verb.Verb.{Verb}
use Rattle.sql_reader.specs.declared.verb.Verb.TheVariants as verb
use Rattle.sql_reader.specs.Parts.{Done, Then, Made, OneOf, Maybe, Either, Listed, all_of}
use Rattle.sql_reader.specs.Parts.{Behind as BehindMark}
use Rattle.sql_reader.specs.Words.{from_word, where_word, into_word, values_word, set_word, by_word, update_word, level_word, repeatable_word, read_word, as_word, limit_word, order_word, for_word, isolation_word, transaction_word, default_word, open_mark, close_mark, equal_mark, dot_mark, work_word, direction_word, name_token, plain_name, semicolon_mark}
use Rattle.sql_reader.specs.Grammar.{NameOf, kept, Closed, FilterOf, delete_of, DeleteOf, set_item, SetOf, update_of, UpdateOf, WorkOf, IsolationOf, always, BeginOf, StartOf, EndingOf, ShowOf, BackendOf, recover_of, RecoverOf, given_cell, CellOf, RowOf, ColumnsOf, insert_of, InsertOf, select_item, ItemOf, items_of, order_item, OrderItemOf, OrderOf, LimitOf, SizeOf, LockOf, Source, SourceOf, order_of, is_there, select_of, SelectOf, verb_token, BehindVerb}
use Rattle.sql_reader.specs.Grammar as grammar
use Rattle.sql_reader.specs.TextGrammar.{PartOf, written, TextOf, IsTextWithin, is_bare, HaveFrom}
use Rattle.sql_profile.specs.Formed.{IsShortItem, IsShortList, HasShortNames, HasFewRows}
use Rattle.sql_profile.proofs.Walk.{IsShort, IsGood, Goods, Reads, Some_of, done, then, made, one, maybe, either, tail, listed, behind_1, int_tree, null_tree, expr_read, shift, longer}

-- of the grammar and with short names
abbrev Named : Statement → Type 0
Named s = IsStatement s × HasShortNames s

abbrev Any : {A : Type 0} → A → Type 0
Any a = Unit {0}

-- no token says nothing
abbrev here : Unit {0}
here = tt

-- ---- parts of statements

name_read : Reads IsShort NameOf
name_read = one IsShort name_token (λ n. Done n.text) (λ n good. done IsShort n.text good)

marked : {A : Type 0} (Is : A → Type 0) (mark : Unit {0} → Token) (R : Form Token A) → Reads Is R → Reads Is (BehindMark mark R)
marked Is mark R k = one Is mark (λ _. R) (λ s good. k)

nothing_read : Reads {A = Unit {0}} Any (Done here)
nothing_read = done {A = Unit {0}} Any here tt

closed : {A : Type 0} (Is : A → Type 0) (R : Form Token A) → Reads Is R → Reads Is (Closed R)
closed Is R k =
    made (λ x. Is x.0 × Any x.1) Is kept (Then R (BehindMark close_mark (Done here)))
    (then Is Any R (BehindMark close_mark (Done here)) k (marked Any close_mark (Done here) nothing_read)) (λ x is. is.0)

filter_read : (d : ℕ) → Reads (λ o. IfSome o IsTree) (FilterOf d)
filter_read d = maybe IsTree where_word (λ _. ExprOf d) (λ s good. expr_read d)

delete_read : (d : ℕ) → Reads Named (DeleteOf d)
delete_read d =
    let parts = Then NameOf (FilterOf d) in
    made (λ x. IsShort x.0 × IfSome x.1 IsTree) Named delete_of (BehindMark from_word parts)
    (marked (λ x. IsShort x.0 × IfSome x.1 IsTree) from_word parts (then IsShort (λ o. IfSome o IsTree) NameOf (FilterOf d) name_read (filter_read d)))
    (λ x is. (record { table = is.0.0; filter = is.1 }, tt))

set_read : (d : ℕ) → Reads IsSet (SetOf d)
set_read d =
    let value = BehindMark equal_mark (ExprOf d) in
    made (λ x. IsShort x.0 × IsTree x.1) IsSet set_item (Then NameOf value) (then IsShort IsTree NameOf value name_read (marked IsTree equal_mark (ExprOf d) (expr_read d))) (λ x is. (is.0.0, is.1))

update_read : (d : ℕ) → Reads Named (UpdateOf d)
update_read d =
    let sets = Then (Listed comma (SetOf d)) (FilterOf d) in
    let Sets : List SetItem × Option Expr → Type 0 = λ x. Some_of IsSet x.0 × IfSome x.1 IsTree in
    made (λ x. IsShort x.0 × Sets x.1) Named update_of (Then NameOf (BehindMark set_word sets))
    (then IsShort Sets NameOf (BehindMark set_word sets) name_read (marked Sets set_word sets (then (Some_of IsSet) (λ o. IfSome o IsTree) (Listed comma (SetOf d)) (FilterOf d) (listed IsSet comma (SetOf d) (set_read d)) (filter_read d))))
    (λ x is. (record { table = is.0.0; sets = is.1.0; filter = is.1.1 }, tt))

work_read : Reads Any WorkOf
work_read ts o rest h goods = let r = maybe Any work_word (λ _. Done here) (λ s good. nothing_read) ts o rest h goods in (tt, r.1, r.2)

isolation_read : Reads Any IsolationOf
isolation_read ts o rest h goods =
    let read = BehindMark read_word (Done here) in
    let repeatable = BehindMark repeatable_word read in
    let r = maybe Any isolation_word (λ _. BehindMark level_word repeatable)
    (λ s good. marked Any level_word repeatable (marked Any repeatable_word read (marked Any read_word (Done here) nothing_read))) ts o rest h goods in
    (tt, r.1, r.2)

begin_read : Reads Named BeginOf
begin_read = made (λ x. Any x.0 × Any x.1) Named (always statement.Begin) (Then WorkOf IsolationOf) (then Any Any WorkOf IsolationOf work_read isolation_read) (λ x is. (tt, tt))

start_read : Reads Named StartOf
start_read = made Any Named (always statement.Begin) (BehindMark transaction_word IsolationOf) (marked Any transaction_word IsolationOf isolation_read) (λ x is. (tt, tt))

ending_read : (s : Statement) → Named s → Reads Named (EndingOf s)
ending_read s named = made Any Named (always s) WorkOf work_read (λ x is. named)

show_read : Reads Named ShowOf
show_read = marked Named (plain_name (codes "pool_nodes")) (Done statement.ShowNodes) (done Named statement.ShowNodes (tt, tt))

backend_read : Reads Any BackendOf
backend_read ts b rest h goods = let r = behind_1 ts (token.Number (pos b)) rest h.0 goods in (tt, r.1, r.2)

recover_read : Reads Named RecoverOf
recover_read = made Any Named recover_of (BehindMark (plain_name (codes "recover")) BackendOf) (marked Any (plain_name (codes "recover")) BackendOf backend_read) (λ x is. (tt, tt))

-- ---- INSERT

cell_read : (d : ℕ) → Reads IsCell (CellOf d)
cell_read d = either IsCell default_word (λ _. Done Fill) (Made given_cell (ExprOf d)) (λ s good. done IsCell Fill tt) (made IsTree IsCell given_cell (ExprOf d) (expr_read d) (λ e is. is))

row_read : (d : ℕ) → Reads IsRow (RowOf d)
row_read d = marked IsRow open_mark (Closed (Listed comma (CellOf d))) (closed IsRow (Listed comma (CellOf d)) (listed IsCell comma (CellOf d) (cell_read d)))

columns_read : Reads (λ o. IfSome o (Some_of IsShort)) ColumnsOf
columns_read = maybe (Some_of IsShort) open_mark (λ _. Closed (Listed comma NameOf)) (λ s good. closed (Some_of IsShort) (Listed comma NameOf) (listed IsShort comma NameOf name_read))

names_only : (names : List (List ℕ)) → AllByRecursion IsShort names → AllByRecursion IsName names
names_only [] all = tt
names_only (name ∷ names) all = (all.0.0, names_only names all.1)

columns_only : (o : Option (List (List ℕ))) → IfSome o (Some_of IsShort) → IfSome o (λ names. (1 ≤ length names) × AllByRecursion IsName names)
columns_only None is = tt
columns_only (Some names) is = (is.0, names_only names is.1)

insert_read : (d : ℕ) → Reads Named (InsertOf d)
insert_read d =
    let rows = BehindMark values_word (Listed comma (RowOf d)) in
    let columns = Then ColumnsOf rows in
    let Columns : Option (List (List ℕ)) × List (List Cell) → Type 0 = λ x. IfSome x.0 (Some_of IsShort) × Some_of IsRow x.1 in
    made (λ x. IsShort x.0 × Columns x.1) Named insert_of (BehindMark into_word (Then NameOf columns))
    (marked (λ x. IsShort x.0 × Columns x.1) into_word (Then NameOf columns)
    (then IsShort Columns NameOf columns name_read (then (λ o. IfSome o (Some_of IsShort)) (Some_of IsRow) ColumnsOf rows columns_read (marked (Some_of IsRow) values_word (Listed comma (RowOf d)) (listed IsRow comma (RowOf d) (row_read d))))))
    (λ x is. (record { table = is.0.0; columns = columns_only x.1.0 is.1.0; rows = is.1.1 }, tt))

-- ---- SELECT

abbrev ItemIs : SelectItem → Type 0
ItemIs item = IsItem item × IsShortItem item

as_only : (o : Option (List ℕ)) → IfSome o IsShort → IfSome o IsName × IfSome o (λ name. length name ≤ 63)
as_only None is = (tt, tt)
as_only (Some name) is = (is.0, is.1)

item_read : (d : ℕ) → Reads ItemIs (ItemOf d)
item_read d =
    let name = Maybe as_word (λ _. NameOf) in
    made (λ x. IsTree x.0 × IfSome x.1 IsShort) ItemIs select_item (Then (ExprOf d) name)
    (then IsTree (λ o. IfSome o IsShort) (ExprOf d) name (expr_read d) (maybe IsShort as_word (λ _. NameOf) (λ s good. name_read)))
    (λ x is. ((is.0, (as_only x.1 is.1).0), (as_only x.1 is.1).1))

abbrev ListIs : SelectList → Type 0
ListIs l = IsList l × IsShortList l

both_parts : (items : List SelectItem) → AllByRecursion ItemIs items → AllByRecursion IsItem items × AllByRecursion IsShortItem items
both_parts [] all = (tt, tt)
both_parts (item ∷ items) all = let rest = both_parts items all.1 in ((all.0.0, rest.0), (all.0.1, rest.1))

list_is_read : (d : ℕ) → Reads ListIs (grammar.ListOf d)
list_is_read d ts l rest (grammar.star h k) goods = let r = behind_1 ts (token.Mark mark.Star) rest h goods in (subst ListIs (sym k) (tt, tt), r.1, r.2)
list_is_read d ts l rest (grammar.count h k) goods =
    let all = token.Mark mark.Open ∷ token.Mark mark.Star ∷ token.Mark mark.Close ∷ rest in
    let r = shift ts (plain_name (codes "count") tt ∷ all) h goods in
    (subst ListIs (sym k) (tt, tt), r.1.1.1.1, longer ts (plain_name (codes "count") tt ∷ all) (length rest) h (omega arith))
list_is_read d ts l rest (grammar.items xs h k) goods =
    let r = listed ItemIs comma (ItemOf d) (item_read d) ts xs rest h goods in
    let parts = both_parts xs r.0.1 in
    (subst ListIs (sym k) ((r.0.0, parts.0), parts.1), r.1, r.2)

order_is : (x : List ℕ × (Option (List ℕ) × Option Truth)) → IsShort x.0 → IfSome x.1.0 IsShort → IsOrder (order_item x)
order_is (n, (None, None)) name qualifier = (tt, name.0)
order_is (n, (None, Some falling)) name qualifier = (tt, name.0)
order_is (q, (Some n, None)) name qualifier = (name.0, qualifier.0)
order_is (q, (Some n, Some falling)) name qualifier = (name.0, qualifier.0)

any_done : (b : Truth) → Reads {A = Truth} Any (Done b)
any_done b = done Any b tt

direction_read : Reads Any (Maybe direction_word Done)
direction_read ts o rest h goods = let r = maybe Any direction_word Done (λ b good. any_done b) ts o rest h goods in (tt, r.1, r.2)

order_item_read : Reads IsOrder OrderItemOf
order_item_read =
    let direction = Maybe direction_word Done in
    let point = Maybe dot_mark (λ _. NameOf) in
    made (λ x. IsShort x.0 × (IfSome x.1.0 IsShort × Any x.1.1)) IsOrder order_item (Then NameOf (Then point direction))
    (then IsShort (λ x. IfSome x.0 IsShort × Any x.1) NameOf (Then point direction) name_read
    (then (λ o. IfSome o IsShort) Any point direction (maybe IsShort dot_mark (λ _. NameOf) (λ s good. name_read)) direction_read))
    (λ x is. order_is x is.0 is.1.0)

order_read : Reads (λ o. IfSome o (Some_of IsOrder)) OrderOf
order_read =
    maybe (Some_of IsOrder) order_word (λ _. BehindMark by_word (Listed comma OrderItemOf))
    (λ s good. marked (Some_of IsOrder) by_word (Listed comma OrderItemOf) (listed IsOrder comma OrderItemOf order_item_read))

limit_read : Reads IsLimit LimitOf
limit_read ts e rest (grammar.number n h k) goods = let r = behind_1 ts (token.Number n) rest h goods in (inl (n, (inl r.0, k)), r.1, r.2)
limit_read ts e rest (grammar.negative n h k) goods =
    let r = shift ts (token.Mark mark.Minus ∷ token.Number n ∷ rest) h goods in
    (inr (inl (n, (r.1.0, k))), r.1.1, longer ts (token.Mark mark.Minus ∷ token.Number n ∷ rest) (length rest) h (omega arith))
limit_read ts e rest (grammar.lowest h k) goods =
    let r = shift ts (token.Mark mark.Minus ∷ token.Least ∷ rest) h goods in
    (inl (least, (inr refl, k)), r.1.1, longer ts (token.Mark mark.Minus ∷ token.Least ∷ rest) (length rest) h (omega arith))
limit_read ts e rest (grammar.null h k) goods = let r = behind_1 ts (token.Word word.Null) rest h goods in (inr (inr (inl k)), r.1, r.2)
limit_read ts e rest (grammar.parameter n h k) goods = let r = behind_1 ts (token.Param n) rest h goods in (inr (inr (inr (n, (r.0, k)))), r.1, r.2)

size_read : Reads (λ o. IfSome o IsLimit) SizeOf
size_read = maybe IsLimit limit_word (λ _. LimitOf) (λ s good. limit_read)

lock_read : Reads Any LockOf
lock_read ts o rest h goods =
    let r = maybe Any for_word (λ _. BehindMark update_word (Done here)) (λ s good. marked Any update_word (Done here) nothing_read) ts o rest h goods in
    (tt, r.1, r.2)

abbrev SourceIs : Source → Type 0
SourceIs s = IsShort s.0 × (IfSome s.1.0 IsTree × (IfSome s.1.1.0 (Some_of IsOrder) × (IfSome s.1.1.1.0 IsLimit × Any s.1.1.1.1)))

source_read : (d : ℕ) → Reads SourceIs (SourceOf d)
source_read d =
    let last = Then SizeOf LockOf in
    let order = Then OrderOf last in
    let filter = Then (FilterOf d) order in
    then IsShort (λ x. IfSome x.0 IsTree × (IfSome x.1.0 (Some_of IsOrder) × (IfSome x.1.1.0 IsLimit × Any x.1.1.1))) NameOf filter name_read
    (then (λ o. IfSome o IsTree) (λ x. IfSome x.0 (Some_of IsOrder) × (IfSome x.1.0 IsLimit × Any x.1.1)) (FilterOf d) order (filter_read d)
    (then (λ o. IfSome o (Some_of IsOrder)) (λ x. IfSome x.0 IsLimit × Any x.1) OrderOf last order_read
    (then (λ o. IfSome o IsLimit) Any SizeOf LockOf size_read lock_read)))

orders_all : (xs : List OrderItem) → AllByRecursion IsOrder xs → Each_of IsOrder xs
orders_all [] all = All-nil IsOrder
orders_all (x ∷ xs) all = All-cons IsOrder x xs all.0 (orders_all xs all.1)

orders_are : (o : Option (List OrderItem)) → IfSome o (Some_of IsOrder) → Each_of IsOrder (order_of o)
orders_are None is = All-nil IsOrder
orders_are (Some xs) is = orders_all xs is.1

-- a list that has FROM, or stands alone where it is one of items
select_is : (x : SelectList × Option Source) → ListIs x.0 → IfSome x.1 SourceIs → is_bare (select_of x) ≡ false → Named (select_of x)
select_is (l, Some s) items source from = (
  record {
    given = items.0;
    table = source.0.0;
    filter = source.1.0;
    order = orders_are s.1.1.0 source.1.1.0;
    limit = source.1.1.1.0;
    alone = λ never. absurd (cc);
  },
  items.1,
)
select_is (list.Star, None) items source from = absurd (cc)
select_is (list.Count, None) items source from = absurd (cc)
select_is (list.Items xs, None) items source from = (
  record {
    given = items.0;
    table = tt;
    filter = tt;
    order = All-nil IsOrder;
    limit = tt;
    alone = λ is. record { items = (xs, refl); filter = refl; order = refl; limit = refl; for_update = refl };
  },
  items.1,
)

abbrev IfFrom : Statement → Type 0
IfFrom s = is_bare s ≡ false → Named s

select_read : (d : ℕ) → Reads IfFrom (SelectOf d)
select_read d =
    let from = Maybe from_word (λ _. SourceOf d) in
    made (λ x. ListIs x.0 × IfSome x.1 SourceIs) IfFrom select_of (Then (grammar.ListOf d) from)
    (then ListIs (λ o. IfSome o SourceIs) (grammar.ListOf d) from (list_is_read d) (maybe SourceIs from_word (λ _. SourceOf d) (λ s good. source_read d)))
    (λ x is. λ has. select_is x is.0 is.1 has)

-- ---- statements and texts

from_named : (R : Form Token Statement) → Reads Named R → Reads IfFrom R
from_named R k ts s rest h goods = let r = k ts s rest h goods in ((λ has. r.0), r.1, r.2)

verb_read : (d : ℕ) (v : Verb) → Reads IfFrom (BehindVerb d v)
verb_read d verb.Select = select_read d
verb_read d verb.Insert = from_named (InsertOf d) (insert_read d)
verb_read d verb.Update = from_named (UpdateOf d) (update_read d)
verb_read d verb.Delete = from_named (DeleteOf d) (delete_read d)
verb_read d verb.Begin = from_named BeginOf begin_read
verb_read d verb.Start = from_named StartOf start_read
verb_read d verb.Commit = from_named (EndingOf statement.Commit) (ending_read statement.Commit (tt, tt))
verb_read d verb.End = from_named (EndingOf statement.Commit) (ending_read statement.Commit (tt, tt))
verb_read d verb.Rollback = from_named (EndingOf statement.Rollback) (ending_read statement.Rollback (tt, tt))
verb_read d verb.Abort = from_named (EndingOf statement.Rollback) (ending_read statement.Rollback (tt, tt))
verb_read d verb.Show = from_named ShowOf show_read
verb_read d verb.Pgpool = from_named RecoverOf recover_read

part_read : (d : ℕ) → Reads (λ o. IfSome o IfFrom) (PartOf d)
part_read d = maybe IfFrom verb_token (BehindVerb d) (λ v good. verb_read d v)

-- the statements that are there
written_are : (parts : List (Option Statement)) → AllByRecursion (λ o. IfSome o IfFrom) parts → AllByRecursion IfFrom (written parts)
written_are [] all = tt
written_are (None ∷ others) all = written_are others all.1
written_are (Some s ∷ others) all = (all.0, written_are others all.1)

have_from : (all : List Statement) → HaveFrom all → AllByRecursion IfFrom all → AllByRecursion Named all
have_from [] have is = tt
have_from (s ∷ all) have is = (is.0 (have zero s (omega arith)), have_from all (λ k d below. have (suc k) d (omega arith)) is.1)

pub text_named : (d : ℕ) (ts : List Token) (all : List Statement) → IsTextWithin d ts all → Goods ts → HaveFrom all → AllByRecursion Named all
text_named d ts all h goods have =
    let r = listed (λ o. IfSome o IfFrom) semicolon_mark (PartOf d) (part_read d) ts h.0 [] h.1 goods in
    have_from all have (subst (AllByRecursion IfFrom) (sym h.2) (written_are h.0 r.0.1))

-- ---- rows

-- as many as tokens, and one
listed_few : {A : Type 0} (Is : A → Type 0) (R : Form Token A) → Reads Is R → (ts : List Token) (xs : List A) (rest : List Token) → Listed comma R ts xs rest → Goods ts → length xs ≤ suc (length ts)
listed_few Is R k ts xs rest h goods =
    let first = k ts h.0 h.1 h.3 goods in
    let others = tail Is Is comma part R k (λ s a is. is) h.2 h.1 rest h.4 first.1 in
    let a = first.2 in
    let b = others.2 in
    subst (λ (ys : List _). length ys ≤ suc (length ts)) (sym h.5) (omega (arith, a, b))

behind_mark : {A : Type 0} (mark : Unit {0} → Token) (R : Form Token A) (ts : List Token) (a : A) (rest : List Token) → BehindMark mark R ts a rest → Goods ts
    → (mid : List Token) × R mid a rest × Goods mid × (length mid ≤ length ts)
behind_mark mark R ts a rest h goods =
    let r = behind_1 ts (mark h.0) h.1 h.2 goods in
    (h.1, h.3, r.1, r.2)

rows_few : (d : ℕ) (ts : List Token) (s : Statement) (rest : List Token) → InsertOf d ts s rest → Goods ts → length ts ≤ 65536 → HasFewRows s
rows_few d ts s rest h goods few =
    let rows = BehindMark values_word (Listed comma (RowOf d)) in
    let columns = Then ColumnsOf rows in
    let (at, after, at_goods, at_few) = behind_mark into_word (Then NameOf columns) ts h.0 rest h.1 goods in
    let named = name_read at h.0.0 after.0 after.1 at_goods in
    let columned = columns_read after.0 h.0.1.0 after.2.0 after.2.1 named.1 in
    let (last, listed_here, last_goods, last_few) = behind_mark values_word (Listed comma (RowOf d)) after.2.0 h.0.1.1 rest after.2.2 columned.1 in
    let count = listed_few IsRow (RowOf d) (row_read d) last h.0.1.1 rest listed_here last_goods in
    let a = named.2 in
    let b = columned.2 in
    subst HasFewRows (sym h.2) (omega (arith, few, at_few, a, b, last_few, count))

few_verb : (d : ℕ) (v : Verb) (ts : List Token) (s : Statement) (rest : List Token) → BehindVerb d v ts s rest → Goods ts → length ts ≤ 65536 → HasFewRows s
few_verb d verb.Select ts s rest h goods few = subst HasFewRows (sym h.2) (select_few h.0)
  where
    select_few : (x : SelectList × Option Source) → HasFewRows (select_of x)
    select_few (l, None) = tt
    select_few (l, Some source) = tt
few_verb d verb.Insert ts s rest h goods few = rows_few d ts s rest h goods few
few_verb d verb.Update ts s rest h goods few = subst HasFewRows (sym h.2) tt
few_verb d verb.Delete ts s rest h goods few = subst HasFewRows (sym h.2) tt
few_verb d verb.Begin ts s rest h goods few = subst HasFewRows (sym h.2) tt
few_verb d verb.Start ts s rest h goods few = subst HasFewRows (sym h.2) tt
few_verb d verb.Commit ts s rest h goods few = subst HasFewRows (sym h.2) tt
few_verb d verb.End ts s rest h goods few = subst HasFewRows (sym h.2) tt
few_verb d verb.Rollback ts s rest h goods few = subst HasFewRows (sym h.2) tt
few_verb d verb.Abort ts s rest h goods few = subst HasFewRows (sym h.2) tt
few_verb d verb.Show ts s rest h goods few = subst HasFewRows (sym h.3.1) tt
few_verb d verb.Pgpool ts s rest h goods few = subst HasFewRows (sym h.2) tt

few_part : (d : ℕ) (ts : List Token) (o : Option Statement) (rest : List Token) → PartOf d ts o rest → Goods ts → length ts ≤ 65536 → IfSome o HasFewRows
few_part d ts o rest (inl h) goods few = subst (λ (x : Option Statement). IfSome x HasFewRows) (sym h.1) tt
few_part d ts o rest (inr h) goods few =
    let v = h.1.0 in
    let r = behind_1 ts (verb_token v) h.1.1 h.1.2 goods in
    let le = r.2 in
    subst (λ (x : Option Statement). IfSome x HasFewRows) (sym h.2) (few_verb d v h.1.1 h.0 rest h.1.3 r.1 (omega (arith, few, le)))

few_tail : (d : ℕ) (os : List (Option Statement)) (ts rest : List Token) → TailOf semicolon_mark part (PartOf d) ts os rest → Goods ts → length ts ≤ 65536 → AllByRecursion (λ o. IfSome o HasFewRows) os
few_tail d [] ts rest h goods few = tt
few_tail d (o ∷ os) ts rest h goods few =
    let r = behind_1 ts (semicolon_mark h.0) h.1 h.4 goods in
    let le = r.2 in
    let few' : length h.1 ≤ 65536 = omega (arith, few, le) in
    let s = part_read d h.1 h.2 h.3 h.5 r.1 in
    let le' = s.2 in
    (subst (λ (x : Option Statement). IfSome x HasFewRows) (sym h.6) (few_part d h.1 h.2 h.3 h.5 r.1 few'), few_tail d os h.3 rest h.7 s.1 (omega (arith, few', le')))

written_few : (parts : List (Option Statement)) → AllByRecursion (λ o. IfSome o HasFewRows) parts → AllByRecursion HasFewRows (written parts)
written_few [] all = tt
written_few (None ∷ others) all = written_few others all.1
written_few (Some s ∷ others) all = (all.0, written_few others all.1)

pub text_few : (d : ℕ) (ts : List Token) (all : List Statement) → IsTextWithin d ts all → Goods ts → length ts ≤ 65536 → AllByRecursion HasFewRows all
text_few d ts all h goods few =
    let l = h.1 in
    let s = part_read d ts l.0 l.1 l.3 goods in
    let le = s.2 in
    let parts : AllByRecursion (λ o. IfSome o HasFewRows) (l.0 ∷ l.2) = (few_part d ts l.0 l.1 l.3 goods few, few_tail d l.2 l.1 [] l.4 s.1 (omega (arith, few, le))) in
    subst (AllByRecursion HasFewRows) (sym h.2) (written_few h.0 (subst (AllByRecursion (λ o. IfSome o HasFewRows)) (sym l.5) parts))
