-- The grammar of statements, by productions. R ts a rest says: ts is a text of a, and then rest.
use Rattle.std.specs.Prelude.{◌≡◌, ◌≤◌, ℕ, ℤ, pos, Bool as Boolean, true, false, List, [], ◌∷◌, Option, Some, None, codes}
use Rattle.sql_tokens.specs.Grammar.{Form}
use Rattle.sql_tokens.specs.declared.mark.Mark.TheVariants as mark
use Rattle.sql_tokens.specs.declared.token.Token.{Token}
use Rattle.sql_tokens.specs.declared.token.Token.TheVariants as token
use Rattle.sql_tokens.specs.declared.word.Word.TheVariants as word
use Rattle.sql_tree.specs.declared.expr.Expr.{Expr, Minus, Int, Null, Param}
use Rattle.sql_tree.specs.declared.statement.Cell.{Cell}
use Rattle.sql_tree.specs.declared.statement.Cell.TheVariants.{Fill, Given}
use Rattle.sql_tree.specs.declared.statement.OrderItem.{OrderItem}
use Rattle.sql_tree.specs.declared.statement.SelectItem.{SelectItem}
use Rattle.sql_tree.specs.declared.statement.SelectList.{SelectList}
use Rattle.sql_tree.specs.declared.statement.SelectList.TheVariants as list
use Rattle.sql_tree.specs.declared.statement.SetItem.{SetItem}
use Rattle.sql_tree.specs.declared.statement.Statement.{Statement}
use Rattle.sql_tree.specs.declared.statement.Statement.TheVariants as statement
use Rattle.sql_expr.specs.Grammar.{ExprOf, comma, least}
use Rattle.sql_reader.specs.declared.verb.Verb.{Verb}
use Rattle.sql_reader.specs.declared.verb.Verb.TheVariants as verb
use Rattle.sql_reader.specs.Parts.{Done, Then, Made, OneOf, Maybe, Either, Behind, Listed}
use Rattle.sql_reader.specs.Words.{from_word, where_word, into_word, values_word, set_word, by_word, update_word, level_word, repeatable_word, read_word, as_word, limit_word, order_word, for_word, isolation_word, transaction_word, default_word, open_mark, close_mark, equal_mark, dot_mark, work_word, direction_word, name_token, plain_name}

-- ---- parts that several statements have

abbrev pub NameOf : Form Token (List ℕ)
NameOf = OneOf name_token (λ n. Done n.text)

-- what stands before a mark that says nothing more
abbrev pub kept : {A : Type 0} → A × Unit {0} → A
kept x = x.0

-- R ")"
abbrev pub Closed : {A : Type 0} → Form Token A → Form Token A
Closed R = Made kept (Then R (Behind close_mark (Done tt)))

-- [WHERE expr]
abbrev pub FilterOf : ℕ → Form Token (Option Expr)
FilterOf depth = Maybe where_word (λ _. ExprOf depth)

-- ---- delete = DELETE FROM name [WHERE expr], behind its first word

abbrev pub delete_of : List ℕ × Option Expr → Statement
delete_of x = statement.Delete (record { table = x.0; filter = x.1 })

abbrev pub DeleteOf : ℕ → Form Token Statement
DeleteOf depth = Made delete_of (Behind from_word (Then NameOf (FilterOf depth)))

-- ---- update = UPDATE name SET name "=" expr {"," name "=" expr} [WHERE expr]

abbrev pub set_item : List ℕ × Expr → SetItem
set_item x = record { column = x.0; expr = x.1 }

abbrev pub SetOf : ℕ → Form Token SetItem
SetOf depth = Made set_item (Then NameOf (Behind equal_mark (ExprOf depth)))

abbrev pub update_of : List ℕ × (List SetItem × Option Expr) → Statement
update_of x = statement.Update (record { table = x.0; sets = x.1.0; filter = x.1.1 })

abbrev pub UpdateOf : ℕ → Form Token Statement
UpdateOf depth = Made update_of (Then NameOf (Behind set_word (Then (Listed comma (SetOf depth)) (FilterOf depth))))

-- ---- control = ( BEGIN [WORK | TRANSACTION] | START TRANSACTION ) [ ISOLATION LEVEL REPEATABLE READ ]
--              | ( COMMIT | END | ROLLBACK | ABORT ) [WORK | TRANSACTION]

abbrev pub WorkOf : Form Token (Option (Unit {0}))
WorkOf = Maybe work_word (λ _. Done tt)

abbrev pub IsolationOf : Form Token (Option (Unit {0}))
IsolationOf = Maybe isolation_word (λ _. Behind level_word (Behind repeatable_word (Behind read_word (Done tt))))

-- a statement of which its text says nothing more
abbrev pub always : {A : Type 0} → Statement → A → Statement
always s _ = s

abbrev pub BeginOf : Form Token Statement
BeginOf = Made (always statement.Begin) (Then WorkOf IsolationOf)

abbrev pub StartOf : Form Token Statement
StartOf = Made (always statement.Begin) (Behind transaction_word IsolationOf)

abbrev pub EndingOf : Statement → Form Token Statement
EndingOf s = Made (always s) WorkOf

-- ---- SHOW pool_nodes, pgpool recover int

abbrev pub ShowOf : Form Token Statement
ShowOf = Behind (plain_name (codes "pool_nodes")) (Done statement.ShowNodes)

-- the number of a backend: 0 to 255
abbrev pub BackendOf : Form Token ℕ
BackendOf ts b rest = (ts ≡ token.Number (pos b) ∷ rest) × (b ≤ 255)

abbrev pub recover_of : ℕ → Statement
recover_of b = statement.Recover b

abbrev pub RecoverOf : Form Token Statement
RecoverOf = Made recover_of (Behind (plain_name (codes "recover")) BackendOf)

-- ---- insert = INSERT INTO name ["(" name {"," name} ")"] VALUES row {"," row}

abbrev pub given_cell : Expr → Cell
given_cell e = Given e

-- cell = expr | DEFAULT
abbrev pub CellOf : ℕ → Form Token Cell
CellOf depth = Either default_word (λ _. Done Fill) (Made given_cell (ExprOf depth))

-- row = "(" cell {"," cell} ")"
abbrev pub RowOf : ℕ → Form Token (List Cell)
RowOf depth = Behind open_mark (Closed (Listed comma (CellOf depth)))

abbrev pub ColumnsOf : Form Token (Option (List (List ℕ)))
ColumnsOf = Maybe open_mark (λ _. Closed (Listed comma NameOf))

abbrev pub insert_of : List ℕ × (Option (List (List ℕ)) × List (List Cell)) → Statement
insert_of x = statement.Insert (record { table = x.0; columns = x.1.0; rows = x.1.1 })

abbrev pub InsertOf : ℕ → Form Token Statement
InsertOf depth = Made insert_of (Behind into_word (Then NameOf (Then ColumnsOf (Behind values_word (Listed comma (RowOf depth))))))

-- ---- select = SELECT list [ FROM name [WHERE expr] [ORDER BY item {"," item}] [LIMIT lim] [FOR UPDATE] ]

abbrev pub select_item : Expr × Option (List ℕ) → SelectItem
select_item x = record { expr = x.0; name = x.1 }

-- expr [AS name]
abbrev pub ItemOf : ℕ → Form Token SelectItem
ItemOf depth = Made select_item (Then (ExprOf depth) (Maybe as_word (λ _. NameOf)))

abbrev pub items_of : List SelectItem → SelectList
items_of all = list.Items all

-- list = "*" | count "(" "*" ")" | expr [AS name] { "," expr [AS name] }
pub data ListOf (depth : ℕ) (ts : List Token) (l : SelectList) (rest : List Token) : Type 0 where
  star : ts ≡ token.Mark mark.Star ∷ rest → l ≡ list.Star → ListOf depth ts l rest
  count : ts ≡ plain_name (codes "count") tt ∷ token.Mark mark.Open ∷ token.Mark mark.Star ∷ token.Mark mark.Close ∷ rest → l ≡ list.Count → ListOf depth ts l rest
  items : (xs : List SelectItem) → Listed comma (ItemOf depth) ts xs rest → l ≡ items_of xs → ListOf depth ts l rest

-- a name, and what a point brings behind it
abbrev pub order_item : List ℕ × (Option (List ℕ) × Option Boolean) → OrderItem
order_item (n, (None, None)) = record { qualifier = None; column = n; falling = false }
order_item (n, (None, Some falling)) = record { qualifier = None; column = n; falling = falling }
order_item (q, (Some n, None)) = record { qualifier = Some q; column = n; falling = false }
order_item (q, (Some n, Some falling)) = record { qualifier = Some q; column = n; falling = falling }

-- item = [name "."] name [ASC | DESC]
abbrev pub OrderItemOf : Form Token OrderItem
OrderItemOf = Made order_item (Then NameOf (Then (Maybe dot_mark (λ _. NameOf)) (Maybe direction_word Done)))

-- [ORDER BY item {"," item}]
abbrev pub OrderOf : Form Token (Option (List OrderItem))
OrderOf = Maybe order_word (λ _. Behind by_word (Listed comma OrderItemOf))

-- lim = ["-"] int | NULL | param
pub data LimitOf (ts : List Token) (e : Expr) (rest : List Token) : Type 0 where
  number : (n : ℤ) → ts ≡ token.Number n ∷ rest → e ≡ Int n → LimitOf ts e rest
  negative : (n : ℤ) → ts ≡ token.Mark mark.Minus ∷ token.Number n ∷ rest → e ≡ Minus (Int n) → LimitOf ts e rest
  lowest : ts ≡ token.Mark mark.Minus ∷ token.Least ∷ rest → e ≡ Int least → LimitOf ts e rest
  null : ts ≡ token.Word word.Null ∷ rest → e ≡ Null → LimitOf ts e rest
  parameter : (n : ℕ) → ts ≡ token.Param n ∷ rest → e ≡ Param n → LimitOf ts e rest

-- [LIMIT lim]
abbrev pub SizeOf : Form Token (Option Expr)
SizeOf = Maybe limit_word (λ _. LimitOf)

-- [FOR UPDATE]
abbrev pub LockOf : Form Token (Option (Unit {0}))
LockOf = Maybe for_word (λ _. Behind update_word (Done tt))

-- what stands behind FROM
abbrev pub Source : Type 0
Source = List ℕ × (Option Expr × (Option (List OrderItem) × (Option Expr × Option (Unit {0}))))

abbrev pub SourceOf : ℕ → Form Token Source
SourceOf depth = Then NameOf (Then (FilterOf depth) (Then OrderOf (Then SizeOf LockOf)))

abbrev pub order_of : Option (List OrderItem) → List OrderItem
order_of None = []
order_of (Some all) = all

abbrev pub is_there : Option (Unit {0}) → Boolean
is_there None = false
is_there (Some _) = true

abbrev pub select_of : SelectList × Option Source → Statement
select_of (l, None) = statement.Select (record { list = l; table = None; filter = None; order = []; limit = None; for_update = false })
select_of (l, Some s) = statement.Select (record { list = l; table = Some s.0; filter = s.1.0; order = order_of s.1.1.0; limit = s.1.1.1.0; for_update = is_there s.1.1.1.1 })

abbrev pub SelectOf : ℕ → Form Token Statement
SelectOf depth = Made select_of (Then (ListOf depth) (Maybe from_word (λ _. SourceOf depth)))

-- ---- stmt = select | insert | update | delete | control | SHOW pool_nodes | pgpool recover int

abbrev pub verb_token : Verb → Token
verb_token verb.Select = token.Word word.Select
verb_token verb.Insert = token.Word word.Insert
verb_token verb.Update = token.Word word.Update
verb_token verb.Delete = token.Word word.Delete
verb_token verb.Begin = token.Word word.Begin
verb_token verb.Start = token.Word word.Start
verb_token verb.Commit = token.Word word.Commit
verb_token verb.End = token.Word word.End
verb_token verb.Rollback = token.Word word.Rollback
verb_token verb.Abort = token.Word word.Abort
verb_token verb.Show = token.Word word.Show
verb_token verb.Pgpool = plain_name (codes "pgpool") tt

-- what stands behind the first word
abbrev pub BehindVerb : ℕ → Verb → Form Token Statement
BehindVerb depth verb.Select = SelectOf depth
BehindVerb depth verb.Insert = InsertOf depth
BehindVerb depth verb.Update = UpdateOf depth
BehindVerb depth verb.Delete = DeleteOf depth
BehindVerb depth verb.Begin = BeginOf
BehindVerb depth verb.Start = StartOf
BehindVerb depth verb.Commit = EndingOf statement.Commit
BehindVerb depth verb.End = EndingOf statement.Commit
BehindVerb depth verb.Rollback = EndingOf statement.Rollback
BehindVerb depth verb.Abort = EndingOf statement.Rollback
BehindVerb depth verb.Show = ShowOf
BehindVerb depth verb.Pgpool = RecoverOf

-- a statement ends here: at `;` or at the end
abbrev pub Bound : List Token → Type 0
Bound [] = Unit {0}
Bound (token.Mark mark.Semicolon ∷ ts) = Unit {0}
Bound _ = ⊥
