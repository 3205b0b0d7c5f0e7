-- The tokens of a statement, whose expressions are of the grammar, are a text of it.
use Rattle.std.proofs.Common.{◌≡◌, ℕ, not, List, [], ◌∷◌, ◌++◌, Bool, true, false, Option, Some, None, refl, sym, ap, ap₂, subst, inl, inr}
use Rattle.std.specs.List.{flat_map}
use Rattle.sql_tokens.specs.Grammar.{Form, part}
use Rattle.sql_tokens.specs.declared.mark.Mark.TheVariants as mark
use Rattle.sql_tokens.specs.declared.token.Token.{Token}
use Rattle.sql_tokens.specs.declared.word.Word.TheVariants as word
use Rattle.sql_tree.specs.declared.expr.Expr.{Expr}
use Rattle.sql_tree.specs.declared.statement.Cell.{Cell}
use Rattle.sql_tree.specs.declared.statement.Cell.TheVariants.{Fill, Given}
use Rattle.sql_tree.specs.declared.statement.Delete.{Delete}
use Rattle.sql_tree.specs.declared.statement.OrderItem.{OrderItem}
use Rattle.sql_tree.specs.declared.statement.SelectItem.{SelectItem}
use Rattle.sql_tree.specs.declared.statement.SelectList.{SelectList}
use Rattle.sql_tree.specs.declared.statement.SelectList.TheVariants as list
use Rattle.sql_tree.specs.declared.statement.SetItem.{SetItem}
use Rattle.sql_tree.specs.declared.statement.Statement.TheVariants as statement
use Rattle.sql_expr.specs.Grammar.{ExprOf, comma}
use Rattle.sql_reader.specs.Parts.{Done, Then, Made, Maybe, Behind, Listed}
use Rattle.sql_reader.specs.Words.{from_word, into_word, values_word, set_word, by_word, as_word, open_mark, close_mark, equal_mark, direction_word}
use Rattle.sql_reader.specs.Grammar.{delete_of, set_item, update_of, insert_of, select_item, order_item, order_of, is_there, NameOf, Closed, FilterOf, DeleteOf, SetOf, UpdateOf, CellOf, RowOf, ColumnsOf, InsertOf, ItemOf, ListOf, star, count, items, OrderItemOf, OrderOf, LimitOf, SizeOf, LockOf, Source, SourceOf, SelectOf}
use Rattle.sql_print.specs.Spelling.{Lexeme, is_plain}
use Rattle.sql_print.specs.Spelling as lexeme
use Rattle.sql_print.specs.Printed.{joined, optional, expr_tokens, where_tokens, item_tokens, list_tokens, direction, order_item_tokens, order_tokens, update_lock, cell_tokens, row_tokens, columns_tokens, set_tokens}
use Rattle.sql_print.specs.Printed.{column as column_tokens}
use Rattle.sql_profile.specs.Lexemes.{token_of}
use Rattle.sql_profile.proofs.Each.{Each, each_map}
use Rattle.sql_profile.proofs.Levels.{onto, onto_append, tail_of, chain_of}

-- these lexemes are read so, whatever follows
abbrev pub Reads : {A : Type 0} → Form Token A → List Lexeme → A → Type 0
Reads form xs a = (rest : List Token) → form (onto xs rest) a rest

-- ---- pieces

pub then_of : {A B : Type 0} (R : Form Token A) (S : Form Token B) (xs ys : List Lexeme) (a : A) (b : B) → Reads R xs a → Reads S ys b → Reads (Then R S) (xs ++ ys) (a, b)
then_of R S xs ys a b x y rest = (onto ys rest, subst (λ (ts : List Token). R ts a (onto ys rest)) (sym (onto_append xs ys rest)) (x (onto ys rest)), y rest)

pub made_of : {A B : Type 0} (make : A → B) (R : Form Token A) (xs : List Lexeme) (a : A) → Reads R xs a → Reads (Made make R) xs (make a)
made_of make R xs a x rest = (a, x rest, refl)

pub behind_of : {A : Type 0} (m : Unit {0} → Token) (R : Form Token A) (between : Lexeme) (xs : List Lexeme) (a : A) → token_of between ≡ m tt → Reads R xs a → Reads (Behind m R) (between ∷ xs) a
behind_of m R between xs a e x rest = (tt, onto xs rest, ap (λ (t : Token). t ∷ onto xs rest) e, x rest)

pub name_of : (text : List ℕ) → Reads NameOf (lexeme.name text ∷ []) text
name_of text rest = (record { text = text; quoted = not (is_plain text) }, rest, refl, (refl, refl))

-- a name, and what follows it
pub name_then : {B : Type 0} (S : Form Token B) (text : List ℕ) (ys : List Lexeme) (b : B) → Reads S ys b → Reads (Then NameOf S) (lexeme.name text ∷ ys) (text, b)
name_then S text ys b y = then_of NameOf S (lexeme.name text ∷ []) ys text b (name_of text) y

pub closed_of : {A : Type 0} (R : Form Token A) (xs : List Lexeme) (a : A) → Reads R xs a → Reads (Closed R) (xs ++ lexeme.mark mark.Close ∷ []) a
closed_of R xs a x rest =
    ((a, tt), then_of R (Behind close_mark (Done tt)) xs (lexeme.mark mark.Close ∷ []) a tt x (λ rest. (tt, rest, refl, (refl, refl))) rest, refl)

pub listed_of : {A : Type 0} (R : Form Token A) (text : A → List Lexeme) (a : A) (others : List A) → Each (λ a. Reads R (text a) a) (a ∷ others)
    → Reads (Listed comma R) (joined (lexeme.mark mark.Comma) text (a ∷ others)) (a ∷ others)
listed_of R text a others each =
    chain_of comma part R (λ a others. a ∷ others) R (text a) (flat_map (λ y. lexeme.mark mark.Comma ∷ text y) others) a others each.0
    (tail_of comma part R (λ _. lexeme.mark mark.Comma) text (λ _. tt) (λ x. x) (λ _. refl) (λ _. refl) others each.1)

-- ---- parts that several statements have

abbrev pub IsReadExpr : ℕ → Expr → Type 0
IsReadExpr d e = Reads (ExprOf d) (expr_tokens e) e

-- of the one that is there
abbrev pub Of : {A : Type 0} → (A → Type 0) → Option A → Type 0
Of P None = Unit {0}
Of P (Some a) = P a

pub filter_of : (d : ℕ) (filter : Option Expr) → Of (IsReadExpr d) filter → Reads (FilterOf d) (where_tokens filter) filter
filter_of d None each rest = inl (refl, refl)
filter_of d (Some e) each rest = inr (e, (tt, onto (expr_tokens e) rest, refl, each rest), refl)

-- ---- DELETE, UPDATE

pub delete_reads : (d : ℕ) (delete : Delete) → Of (IsReadExpr d) delete.filter → (rest : List Token) → DeleteOf d (onto (lexeme.word word.From ∷ lexeme.name delete.table ∷ where_tokens delete.filter) rest) (statement.Delete delete) rest
delete_reads d delete filter =
    made_of delete_of (Behind from_word (Then NameOf (FilterOf d))) (lexeme.word word.From ∷ lexeme.name delete.table ∷ where_tokens delete.filter) (delete.table, delete.filter)
    (behind_of from_word (Then NameOf (FilterOf d)) (lexeme.word word.From) (lexeme.name delete.table ∷ where_tokens delete.filter) (delete.table, delete.filter) refl
    (name_then (FilterOf d) delete.table (where_tokens delete.filter) delete.filter (filter_of d delete.filter filter)))

pub set_of : (d : ℕ) (item : SetItem) → IsReadExpr d item.expr → Reads (SetOf d) (set_tokens item) item
set_of d item e =
    made_of set_item (Then NameOf (Behind equal_mark (ExprOf d))) (set_tokens item) (item.column, item.expr)
    (name_then (Behind equal_mark (ExprOf d)) item.column (lexeme.mark mark.Equal ∷ expr_tokens item.expr) item.expr
    (behind_of equal_mark (ExprOf d) (lexeme.mark mark.Equal) (expr_tokens item.expr) item.expr refl e))

pub update_reads : (d : ℕ) (table : List ℕ) (set : SetItem) (sets : List SetItem) (filter : Option Expr) → Each (λ s. IsReadExpr d s.expr) (set ∷ sets) → Of (IsReadExpr d) filter
    → Reads (UpdateOf d) (lexeme.name table ∷ lexeme.word word.Set ∷ (joined (lexeme.mark mark.Comma) set_tokens (set ∷ sets) ++ where_tokens filter)) (statement.Update (record { table = table; sets = set ∷ sets; filter = filter }))
update_reads d table set sets filter each is =
    made_of update_of (Then NameOf (Behind set_word (Then (Listed comma (SetOf d)) (FilterOf d))))
    (lexeme.name table ∷ lexeme.word word.Set ∷ (joined (lexeme.mark mark.Comma) set_tokens (set ∷ sets) ++ where_tokens filter)) (table, (set ∷ sets, filter))
    (name_then (Behind set_word (Then (Listed comma (SetOf d)) (FilterOf d))) table (lexeme.word word.Set ∷ (joined (lexeme.mark mark.Comma) set_tokens (set ∷ sets) ++ where_tokens filter)) (set ∷ sets, filter)
    (behind_of set_word (Then (Listed comma (SetOf d)) (FilterOf d)) (lexeme.word word.Set) (joined (lexeme.mark mark.Comma) set_tokens (set ∷ sets) ++ where_tokens filter) (set ∷ sets, filter) refl
    (then_of (Listed comma (SetOf d)) (FilterOf d) (joined (lexeme.mark mark.Comma) set_tokens (set ∷ sets)) (where_tokens filter) (set ∷ sets) filter
    (listed_of (SetOf d) set_tokens set sets (each_map (λ s e. set_of d s e) (set ∷ sets) each))
    (filter_of d filter is))))

-- ---- INSERT

abbrev pub IsReadCell : ℕ → Cell → Type 0
IsReadCell d Fill = Unit {0}
IsReadCell d (Given e) = IsReadExpr d e

-- a row has a cell
abbrev pub IsReadRow : ℕ → List Cell → Type 0
IsReadRow d [] = ⊥
IsReadRow d (cell ∷ cells) = Each (IsReadCell d) (cell ∷ cells)

-- there is one
abbrev pub HasOne : {A : Type 0} → List A → Type 0
HasOne [] = ⊥
HasOne (a ∷ others) = Unit {0}

pub cell_of : (d : ℕ) (cell : Cell) → IsReadCell d cell → Reads (CellOf d) (cell_tokens cell) cell
cell_of d Fill is rest = inl (tt, rest, refl, (refl, refl))
cell_of d (Given e) is rest = inr (e, is rest, refl)

pub row_of : (d : ℕ) (cell : Cell) (cells : List Cell) → Each (IsReadCell d) (cell ∷ cells) → Reads (RowOf d) (row_tokens (cell ∷ cells)) (cell ∷ cells)
row_of d cell cells each =
    behind_of open_mark (Closed (Listed comma (CellOf d))) (lexeme.mark mark.Open) (joined (lexeme.mark mark.Comma) cell_tokens (cell ∷ cells) ++ lexeme.mark mark.Close ∷ []) (cell ∷ cells) refl
    (closed_of (Listed comma (CellOf d)) (joined (lexeme.mark mark.Comma) cell_tokens (cell ∷ cells)) (cell ∷ cells)
    (listed_of (CellOf d) cell_tokens cell cells (each_map (λ c e. cell_of d c e) (cell ∷ cells) each)))

pub rows_of : (d : ℕ) (cells : List Cell) → IsReadRow d cells → Reads (RowOf d) (row_tokens cells) cells
rows_of d [] each = absurd each
rows_of d (cell ∷ cells) each = row_of d cell cells each

each_name : (names : List (List ℕ)) → Each (λ text. Reads NameOf (lexeme.name text ∷ []) text) names
each_name [] = tt
each_name (text ∷ names) = (name_of text, each_name names)

pub columns_of : (columns : Option (List (List ℕ))) → Of HasOne columns → Reads ColumnsOf (optional columns_tokens columns) columns
columns_of None is rest = inl (refl, refl)
columns_of (Some []) is rest = absurd is
columns_of (Some (text ∷ names)) is rest =
    inr (
      text ∷ names,
      (
        tt,
        onto (joined (lexeme.mark mark.Comma) (λ called. lexeme.name called ∷ []) (text ∷ names) ++ lexeme.mark mark.Close ∷ []) rest,
        refl,
        closed_of (Listed comma NameOf) (joined (lexeme.mark mark.Comma) (λ called. lexeme.name called ∷ []) (text ∷ names)) (text ∷ names)
            (listed_of NameOf (λ called. lexeme.name called ∷ []) text names (each_name (text ∷ names))) rest,
      ),
      refl,
    )

pub insert_reads : (d : ℕ) (table : List ℕ) (columns : Option (List (List ℕ))) (row : List Cell) (rows : List (List Cell)) → Of HasOne columns → Each (IsReadRow d) (row ∷ rows)
    → Reads (InsertOf d) (lexeme.word word.Into ∷ lexeme.name table ∷ (optional columns_tokens columns ++ lexeme.word word.Values ∷ joined (lexeme.mark mark.Comma) row_tokens (row ∷ rows)))
    (statement.Insert (record { table = table; columns = columns; rows = row ∷ rows }))
insert_reads d table columns row rows is each =
    let values = joined (lexeme.mark mark.Comma) row_tokens (row ∷ rows) in
    let valued = Behind values_word (Listed comma (RowOf d)) in
    made_of insert_of (Behind into_word (Then NameOf (Then ColumnsOf valued)))
    (lexeme.word word.Into ∷ lexeme.name table ∷ (optional columns_tokens columns ++ lexeme.word word.Values ∷ values)) (table, (columns, row ∷ rows))
    (behind_of into_word (Then NameOf (Then ColumnsOf valued)) (lexeme.word word.Into) (lexeme.name table ∷ (optional columns_tokens columns ++ lexeme.word word.Values ∷ values)) (table, (columns, row ∷ rows)) refl
    (name_then (Then ColumnsOf valued) table (optional columns_tokens columns ++ lexeme.word word.Values ∷ values) (columns, row ∷ rows)
    (then_of ColumnsOf valued (optional columns_tokens columns) (lexeme.word word.Values ∷ values) columns (row ∷ rows) (columns_of columns is)
    (behind_of values_word (Listed comma (RowOf d)) (lexeme.word word.Values) values (row ∷ rows) refl
    (listed_of (RowOf d) row_tokens row rows (each_map (λ r e. rows_of d r e) (row ∷ rows) each))))))

-- ---- SELECT

pub item_of : (d : ℕ) (item : SelectItem) → IsReadExpr d item.expr → Reads (ItemOf d) (item_tokens item) item
item_of d item e =
    let called = optional (λ called. lexeme.word word.As ∷ lexeme.name called ∷ []) item.name in
    made_of select_item (Then (ExprOf d) (Maybe as_word (λ _. NameOf))) (item_tokens item) (item.expr, item.name)
    (then_of (ExprOf d) (Maybe as_word (λ _. NameOf)) (expr_tokens item.expr) called item.expr item.name e (as_of item.name))
  where
    as_of : (name : Option (List ℕ)) → Reads (Maybe as_word (λ _. NameOf)) (optional (λ called. lexeme.word word.As ∷ lexeme.name called ∷ []) name) name
    as_of None rest = inl (refl, refl)
    as_of (Some text) rest = inr (text, (tt, onto (lexeme.name text ∷ []) rest, refl, name_of text rest), refl)

abbrev pub IsReadList : ℕ → SelectList → Type 0
IsReadList d list.Star = Unit {0}
IsReadList d list.Count = Unit {0}
IsReadList d (list.Items xs) = HasOne xs × Each (λ x. IsReadExpr d x.expr) xs

pub list_of : (d : ℕ) (l : SelectList) → IsReadList d l → Reads (ListOf d) (list_tokens l) l
list_of d list.Star is rest = star refl refl
list_of d list.Count is rest = count refl refl
list_of d (list.Items []) is rest = absurd is.0
list_of d (list.Items (x ∷ xs)) is rest =
    items (x ∷ xs) (listed_of (ItemOf d) item_tokens x xs (each_map (λ x e. item_of d x e) (x ∷ xs) is.1) rest) refl

pub direction_of : (falling : Bool) → (rest : List Token) → (given : Option Bool) × Maybe direction_word Done (onto (direction falling) rest) given rest × ((n : List ℕ) (m : Option (List ℕ)) → order_item (n, (m, given)) ≡ order_item (n, (m, Some falling)))
direction_of true rest = (Some true, inr (true, (true, rest, refl, (refl, refl)), refl), λ n m. refl)
direction_of false rest = (None, inl (refl, refl), same)
  where
    same : (n : List ℕ) (m : Option (List ℕ)) → order_item (n, (m, None)) ≡ order_item (n, (m, Some false))
    same n None = refl
    same n (Some q) = refl

order_item_none : (n : List ℕ) (falling : Bool) → Reads OrderItemOf (lexeme.name n ∷ direction falling) (record { qualifier = None; column = n; falling = falling })
order_item_none n falling rest =
    let last = direction_of falling rest in
    ((n, (None, last.0)), (onto (direction falling) rest, name_of n (onto (direction falling) rest), (onto (direction falling) rest, inl (refl, refl), last.1)), sym (last.2 n None))

order_item_some : (q n : List ℕ) (falling : Bool) → Reads OrderItemOf (lexeme.name q ∷ lexeme.mark mark.Dot ∷ lexeme.name n ∷ direction falling) (record { qualifier = Some q; column = n; falling = falling })
order_item_some q n falling rest =
    let last = direction_of falling rest in
    let after = onto (direction falling) rest in (
      (q, (Some n, last.0)),
      (
        onto (lexeme.mark mark.Dot ∷ lexeme.name n ∷ direction falling) rest,
        name_of q (onto (lexeme.mark mark.Dot ∷ lexeme.name n ∷ direction falling) rest),
        (after, inr (n, (tt, onto (lexeme.name n ∷ direction falling) rest, refl, name_of n after), refl), last.1),
      ),
      sym (last.2 q (Some n)),
    )

pub order_item_of : (item : OrderItem) → Reads OrderItemOf (order_item_tokens item) item
order_item_of item = go item.qualifier
  where
    go : (qualifier : Option (List ℕ)) → Reads OrderItemOf (column_tokens qualifier item.column ++ direction item.falling) (record { qualifier = qualifier; column = item.column; falling = item.falling })
    go None = order_item_none item.column item.falling
    go (Some q) = order_item_some q item.column item.falling

each_order : (order : List OrderItem) → Each (λ x. Reads OrderItemOf (order_item_tokens x) x) order
each_order [] = tt
each_order (x ∷ order) = (order_item_of x, each_order order)

-- an order, as what stands in the text
abbrev given_order : List OrderItem → Option (List OrderItem)
given_order [] = None
given_order (x ∷ order) = Some (x ∷ order)

order_given : (order : List OrderItem) → order_of (given_order order) ≡ order
order_given [] = refl
order_given (x ∷ order) = refl

order_reads : (order : List OrderItem) → Reads OrderOf (order_tokens order) (given_order order)
order_reads [] rest = inl (refl, refl)
order_reads (x ∷ order) rest =
    inr (
      x ∷ order,
      (
        tt,
        onto (lexeme.word word.By ∷ joined (lexeme.mark mark.Comma) order_item_tokens (x ∷ order)) rest,
        refl,
        behind_of by_word (Listed comma OrderItemOf) (lexeme.word word.By) (joined (lexeme.mark mark.Comma) order_item_tokens (x ∷ order)) (x ∷ order) refl
            (listed_of OrderItemOf order_item_tokens x order (each_order (x ∷ order))) rest,
      ),
      refl,
    )

abbrev limit_tokens : Option Expr → List Lexeme
limit_tokens limit = optional (λ limit. lexeme.word word.Limit ∷ expr_tokens limit) limit

size_reads : (limit : Option Expr) → Of (λ e. Reads LimitOf (expr_tokens e) e) limit → Reads SizeOf (limit_tokens limit) limit
size_reads None is rest = inl (refl, refl)
size_reads (Some e) is rest = inr (e, (tt, onto (expr_tokens e) rest, refl, is rest), refl)

abbrev given_lock : Bool → Option (Unit {0})
given_lock true = Some tt
given_lock false = None

lock_given : (lock : Bool) → is_there (given_lock lock) ≡ lock
lock_given true = refl
lock_given false = refl

lock_reads : (lock : Bool) → Reads LockOf (update_lock lock) (given_lock lock)
lock_reads true rest = inr (tt, (tt, onto (lexeme.word word.Update ∷ []) rest, refl, (tt, rest, refl, (refl, refl))), refl)
lock_reads false rest = inl (refl, refl)

-- what stands behind the table's name
abbrev pub behind_table : Option Expr → List OrderItem → Option Expr → Bool → List Lexeme
behind_table filter order limit lock = where_tokens filter ++ (order_tokens order ++ (limit_tokens limit ++ update_lock lock))

source_reads : (d : ℕ) (table : List ℕ) (filter : Option Expr) (order : List OrderItem) (limit : Option Expr) (lock : Bool)
    → Of (IsReadExpr d) filter → Of (λ e. Reads LimitOf (expr_tokens e) e) limit
    → Reads (SourceOf d) (lexeme.name table ∷ behind_table filter order limit lock) (table, (filter, (given_order order, (limit, given_lock lock))))
source_reads d table filter order limit lock f l =
    name_then (Then (FilterOf d) (Then OrderOf (Then SizeOf LockOf))) table (behind_table filter order limit lock) (filter, (given_order order, (limit, given_lock lock)))
    (then_of (FilterOf d) (Then OrderOf (Then SizeOf LockOf)) (where_tokens filter) (order_tokens order ++ (limit_tokens limit ++ update_lock lock)) filter (given_order order, (limit, given_lock lock)) (filter_of d filter f)
    (then_of OrderOf (Then SizeOf LockOf) (order_tokens order) (limit_tokens limit ++ update_lock lock) (given_order order) (limit, given_lock lock) (order_reads order)
    (then_of SizeOf LockOf (limit_tokens limit) (update_lock lock) limit (given_lock lock) (size_reads limit l) (lock_reads lock))))

pub select_from : (d : ℕ) (l : SelectList) (table : List ℕ) (filter : Option Expr) (order : List OrderItem) (limit : Option Expr) (lock : Bool)
    → IsReadList d l → Of (IsReadExpr d) filter → Of (λ e. Reads LimitOf (expr_tokens e) e) limit
    → Reads (SelectOf d) (list_tokens l ++ (lexeme.word word.From ∷ lexeme.name table ∷ behind_table filter order limit lock))
    (statement.Select (record { list = l; table = Some table; filter = filter; order = order; limit = limit; for_update = lock }))
select_from d l table filter order limit lock is f size rest =
    let source : Source = (table, (filter, (given_order order, (limit, given_lock lock)))) in
    let text = lexeme.name table ∷ behind_table filter order limit lock in (
      (l, Some source),
      then_of (ListOf d) (Maybe from_word (λ _. SourceOf d)) (list_tokens l) (lexeme.word word.From ∷ text) l (Some source) (list_of d l is)
          (λ rest. inr (source, (tt, onto text rest, refl, source_reads d table filter order limit lock f size rest), refl)) rest,
      ap₂ (λ (o : List OrderItem) (b : Bool). statement.Select (record { list = l; table = Some table; filter = filter; order = o; limit = limit; for_update = b })) (sym (order_given order)) (sym (lock_given lock)),
    )

pub select_alone : (d : ℕ) (l : SelectList) → IsReadList d l
    → Reads (SelectOf d) (list_tokens l ++ []) (statement.Select (record { list = l; table = None; filter = None; order = []; limit = None; for_update = false }))
select_alone d l is rest =
    ((l, None), then_of (ListOf d) (Maybe from_word (λ _. SourceOf d)) (list_tokens l) [] l None (list_of d l is) (λ rest. inl (refl, refl)) rest, refl)
