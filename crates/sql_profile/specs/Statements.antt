-- What is due behind the beginning of a statement, by the productions of its grammar.
use Rattle.std.specs.Prelude.{◌≡◌, ℕ, List, ◌∷◌, ◌⊎◌, codes}
use Rattle.sql_tokens.specs.declared.fault.Awaited.{Awaited}
use Rattle.sql_tokens.specs.declared.fault.Awaited.TheVariants.{End, Statement as Wanted, Values, Backend, Item, Star}
use Rattle.sql_tokens.specs.Grammar.{Form, part}
use Rattle.sql_tokens.specs.declared.mark.Mark.TheVariants as mark
use Rattle.sql_tokens.specs.declared.token.Token.{Token}
use Rattle.sql_tokens.specs.declared.token.Token.TheVariants as token
use Rattle.sql_expr.specs.Grammar.{ExprOf, comma}
use Rattle.sql_reader.specs.declared.verb.Verb.{Verb}
use Rattle.sql_reader.specs.declared.verb.Verb.TheVariants as verb
use Rattle.sql_reader.specs.Parts.{Listed}
use Rattle.sql_reader.specs.Words.{from_word, where_word, into_word, values_word, set_word, by_word, level_word, repeatable_word, as_word, limit_word, order_word, for_word, isolation_word, transaction_word, open_mark, equal_mark, dot_mark, star_mark, plain_name}
use Rattle.sql_reader.specs.Grammar.{NameOf, FilterOf, SetOf, WorkOf, CellOf, RowOf, ColumnsOf, ItemOf, ListOf, OrderItemOf, OrderOf, SizeOf}
use Rattle.sql_profile.specs.Beginnings.{Beginning, AtOnce, Nothing, ThenBegun, MarkBegun, BehindBegun, ChainBegun}
use Rattle.sql_profile.specs.Expressions.{ExprBegun}

-- a word, a name or a mark of a statement is due
abbrev pub Further : Beginning Token
Further = AtOnce Wanted

abbrev pub ListedBegun : {A : Type 0} → (Unit {0} → Token) → Form Token A → Beginning Token → Beginning Token
ListedBegun between R D = ChainBegun between part R D R D

-- R ")"
abbrev pub ClosedBegun : {A : Type 0} → Awaited → Form Token A → Beginning Token → Beginning Token
ClosedBegun v R D = ThenBegun R D (AtOnce v)

-- [WHERE expr]
abbrev pub FilterBegun : ℕ → Beginning Token
FilterBegun depth = MarkBegun where_word (λ _. ExprBegun depth)

-- ---- DELETE, UPDATE

abbrev pub DeleteBegun : ℕ → Beginning Token
DeleteBegun depth = BehindBegun Wanted from_word (ThenBegun NameOf Further (FilterBegun depth))

abbrev pub SetBegun : ℕ → Beginning Token
SetBegun depth = ThenBegun NameOf Further (BehindBegun Wanted equal_mark (ExprBegun depth))

abbrev pub UpdateBegun : ℕ → Beginning Token
UpdateBegun depth = ThenBegun NameOf Further (BehindBegun Wanted set_word
    (ThenBegun (Listed comma (SetOf depth)) (ListedBegun comma (SetOf depth) (SetBegun depth)) (FilterBegun depth)))

-- ---- control, SHOW, PGPOOL RECOVER

abbrev pub IsolationBegun : Beginning Token
IsolationBegun = MarkBegun isolation_word (λ _. BehindBegun Wanted level_word (BehindBegun Wanted repeatable_word Further))

abbrev pub BeginBegun : Beginning Token
BeginBegun = ThenBegun WorkOf Nothing IsolationBegun

abbrev pub StartBegun : Beginning Token
StartBegun = BehindBegun Wanted transaction_word IsolationBegun

-- the number of a backend is due behind RECOVER
abbrev pub RecoverBegun : Beginning Token
RecoverBegun = BehindBegun Wanted (plain_name (codes "recover")) (AtOnce Backend)

-- ---- INSERT

-- the parenthesis of a row is none of an expression: behind a cell its end is due
abbrev pub RowBegun : ℕ → Beginning Token
RowBegun depth = BehindBegun Wanted open_mark (ClosedBegun End (Listed comma (CellOf depth)) (ListedBegun comma (CellOf depth) (ExprBegun depth)))

abbrev pub ColumnsBegun : Beginning Token
ColumnsBegun = MarkBegun open_mark (λ _. ClosedBegun Wanted (Listed comma NameOf) (ListedBegun comma NameOf Further))

-- VALUES is due behind the table and its columns
abbrev pub InsertBegun : ℕ → Beginning Token
InsertBegun depth = BehindBegun Wanted into_word (ThenBegun NameOf Further
    (ThenBegun ColumnsOf ColumnsBegun (BehindBegun Values values_word (ListedBegun comma (RowOf depth) (RowBegun depth)))))

-- ---- SELECT

abbrev pub ItemBegun : ℕ → Beginning Token
ItemBegun depth = ThenBegun (ExprOf depth) (ExprBegun depth) (MarkBegun as_word (λ _. Further))

-- "*" and ")" are due behind `count (`
pub data SelectedBegun (depth : ℕ) (w : Awaited) (ts : List Token) : Type 0 where
  rows_counted : (mid : List Token) → ts ≡ plain_name (codes "count") tt ∷ token.Mark mark.Open ∷ mid → BehindBegun Star star_mark Further w mid → SelectedBegun depth w ts
  items_listed : ListedBegun comma (ItemOf depth) (ItemBegun depth) w ts → SelectedBegun depth w ts

-- a name is due where a column of an ORDER BY begins
abbrev pub OrderItemBegun : Beginning Token
OrderItemBegun = ThenBegun NameOf (AtOnce Item) (MarkBegun dot_mark (λ _. Further))

abbrev pub OrderBegun : Beginning Token
OrderBegun = MarkBegun order_word (λ _. BehindBegun Wanted by_word (ListedBegun comma OrderItemOf OrderItemBegun))

-- behind LIMIT, and behind its minus
abbrev pub SizeBegun : Beginning Token
SizeBegun w ts = Further w ts ⊎ ((mid : List Token) × (ts ≡ token.Mark mark.Minus ∷ mid) × Further w mid)

abbrev pub LimitBegun : Beginning Token
LimitBegun = MarkBegun limit_word (λ _. SizeBegun)

abbrev pub LockBegun : Beginning Token
LockBegun = MarkBegun for_word (λ _. Further)

abbrev pub SourceBegun : ℕ → Beginning Token
SourceBegun depth = ThenBegun NameOf Further (ThenBegun (FilterOf depth) (FilterBegun depth) (ThenBegun OrderOf OrderBegun (ThenBegun SizeOf LimitBegun LockBegun)))

abbrev pub SelectBegun : ℕ → Beginning Token
SelectBegun depth = ThenBegun (ListOf depth) (SelectedBegun depth) (MarkBegun from_word (λ _. SourceBegun depth))

-- ---- statements

-- behind the first word
abbrev pub VerbBegun : ℕ → Verb → Beginning Token
VerbBegun depth verb.Select = SelectBegun depth
VerbBegun depth verb.Insert = InsertBegun depth
VerbBegun depth verb.Update = UpdateBegun depth
VerbBegun depth verb.Delete = DeleteBegun depth
VerbBegun depth verb.Begin = BeginBegun
VerbBegun depth verb.Start = StartBegun
VerbBegun depth verb.Commit = Nothing
VerbBegun depth verb.End = Nothing
VerbBegun depth verb.Rollback = Nothing
VerbBegun depth verb.Abort = Nothing
VerbBegun depth verb.Show = Further
VerbBegun depth verb.Pgpool = RecoverBegun
