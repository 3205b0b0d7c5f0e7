-- A printed statement of the grammar is a text of that statement alone.
use Rattle.std.proofs.Common.{◌≡◌, ◌∙◌, ◌≤◌, ◌<◌, ◌^◌, ◌+◌, ℕ, suc, ℤ, pos, negsuc, List, [], ◌∷◌, ◌++◌, length, Bool, true, false, Option, Some, None, IfSome, ◌≤ℤ◌, map, refl, sym, ap, subst, inl, inr, arith}
use Rattle.std.specs.Prelude.{codes}
use Rattle.std.specs.List.{All, flat_map}
use Rattle.std.proofs.lemmas.Int.{ints}
use Rattle.sql_tokens.specs.declared.mark.Mark.TheVariants as mark
use Rattle.sql_tokens.specs.declared.token.Token.{Token}
use Rattle.sql_tokens.specs.declared.token.Token.TheVariants as token
use Rattle.sql_tokens.specs.declared.word.Word.TheVariants as word
use Rattle.sql_tree.specs.declared.expr.Expr.{Expr, Int, Minus, Null, Param}
use Rattle.sql_tree.specs.declared.expr.Expr.TheOpen.{Expr-F}
use Rattle.sql_tree.specs.declared.expr.Expr.TheVariants as forms
use Rattle.sql_tree.specs.declared.statement.Cell.{Cell}
use Rattle.sql_tree.specs.declared.statement.Cell.TheVariants.{Fill, Given}
use Rattle.sql_tree.specs.declared.statement.OrderItem.{OrderItem}
use Rattle.sql_tree.specs.declared.statement.SelectItem.{SelectItem}
use Rattle.sql_tree.specs.declared.statement.SelectList.{SelectList}
use Rattle.sql_tree.specs.declared.statement.SelectList.TheVariants as list
use Rattle.sql_tree.specs.declared.statement.SetItem.{SetItem}
use Rattle.sql_tree.specs.declared.statement.Statement.{Statement}
use Rattle.sql_tree.specs.declared.statement.Statement.TheVariants as statement
use Rattle.sql_tree.specs.Trees.{IsTree, IsItem, IsList, IsLimit, IsLiteral, IsSelect, IsRow, IsCell, IsName, IsSet, IsStatement, AreParts}
use Rattle.sql_reader.specs.declared.verb.Verb.{Verb}
use Rattle.sql_reader.specs.declared.verb.Verb.TheVariants as verb
use Rattle.sql_reader.specs.Grammar.{LimitOf, number, negative, lowest, null, parameter, BehindVerb, verb_token}
use Rattle.sql_print.specs.Spelling.{Lexeme}
use Rattle.sql_print.specs.Spelling as lexeme
use Rattle.sql_print.specs.Printed.{Printed, part, joined, optional, expr_tokens, where_tokens, list_tokens, columns_tokens, row_tokens, set_tokens, tokens_of}
use Rattle.sql_print.specs.Printed.{number as number_tokens}
use Rattle.sql_print.proofs.Forms.{printed_int, printed_minus, printed_null, printed_param}
use Rattle.sql_profile.specs.Lexemes.{token_of}
use Rattle.sql_profile.proofs.Each.{Each}
use Rattle.sql_profile.specs.Numbers.{of_option, of_list, of_cell, expressions, number_layer, greatest_number}
use Rattle.sql_profile.specs.Fits.{IsBackend}
use Rattle.sql_profile.proofs.Levels.{onto}
use Rattle.sql_profile.proofs.Trees.{read_expr, each_from, each_within, reaches}
use Rattle.sql_profile.proofs.Wholes.{number_token}
use Rattle.sql_profile.proofs.RoundStatements.{Reads, IsReadExpr, Of, IsReadCell, IsReadRow, HasOne, IsReadList, delete_reads, update_reads, insert_reads, select_from, select_alone, behind_table}

-- the expression's whole numbers are of int8
abbrev pub IsLow : Expr → Type 0
IsLow e = greatest_number e < 2 ^ 63

-- ---- lists of expressions

each_append : {A : Type 0} (P : A → Type 0) (xs ys : List A) → Each P xs → Each P ys → Each P (xs ++ ys)
each_append P [] ys x y = y
each_append P (a ∷ xs) ys x y = (x.0, each_append P xs ys x.1 y)

each_split : {A : Type 0} (P : A → Type 0) (xs ys : List A) → Each P (xs ++ ys) → Each P xs × Each P ys
each_split P [] ys all = (tt, all)
each_split P (a ∷ xs) ys all = let later = each_split P xs ys all.1 in ((all.0, later.0), later.1)

-- they are read, where enough nestings may be open
pub record AllRead (es : List Expr) : Type 0 where
  pub deepest : ℕ
  pub all : (d : ℕ) → deepest ≤ d → Each (IsReadExpr d) es

pub all_read : (es : List Expr) → Each IsTree es → Each IsLow es → AllRead es
all_read [] trees low = record { deepest = 0; all = λ d above. tt }
all_read (e ∷ es) trees low =
    let one = read_expr e trees.0 low.0 in
    let others = all_read es trees.1 low.1 in
    record { deepest = one.depth + others.deepest; all = λ d above. (one.alone d (omega arith), others.all d (omega arith)) }

option_trees : (o : Option Expr) → IfSome o IsTree → Each IsTree (of_option o)
option_trees None tree = tt
option_trees (Some e) tree = (tree, tt)

option_read : (d : ℕ) (o : Option Expr) → Each (IsReadExpr d) (of_option o) → Of (IsReadExpr d) o
option_read d None each = tt
option_read d (Some e) each = each.0

sets_trees : (sets : List SetItem) → Each IsSet sets → Each IsTree (map (λ (item : SetItem). item.expr) sets)
sets_trees [] each = tt
sets_trees (s ∷ sets) each = (each.0.1, sets_trees sets each.1)

sets_read : (d : ℕ) (sets : List SetItem) → Each (IsReadExpr d) (map (λ (item : SetItem). item.expr) sets) → Each (λ s. IsReadExpr d s.expr) sets
sets_read d [] each = tt
sets_read d (s ∷ sets) each = (each.0, sets_read d sets each.1)

items_trees : (items : List SelectItem) → Each IsItem items → Each IsTree (map (λ (item : SelectItem). item.expr) items)
items_trees [] each = tt
items_trees (x ∷ items) each = (each.0.0, items_trees items each.1)

items_read : (d : ℕ) (items : List SelectItem) → Each (IsReadExpr d) (map (λ (item : SelectItem). item.expr) items) → Each (λ x. IsReadExpr d x.expr) items
items_read d [] each = tt
items_read d (x ∷ items) each = (each.0, items_read d items each.1)

cells_trees : (cells : List Cell) → Each IsCell cells → Each IsTree (flat_map of_cell cells)
cells_trees [] each = tt
cells_trees (Fill ∷ cells) each = cells_trees cells each.1
cells_trees (Given e ∷ cells) each = (each.0, cells_trees cells each.1)

cells_read : (d : ℕ) (cells : List Cell) → Each (IsReadExpr d) (flat_map of_cell cells) → Each (IsReadCell d) cells
cells_read d [] each = tt
cells_read d (Fill ∷ cells) each = (tt, cells_read d cells each)
cells_read d (Given e ∷ cells) each = (each.0, cells_read d cells each.1)

abbrev of_row : List Cell → List Expr
of_row cells = flat_map of_cell cells

rows_trees : (rows : List (List Cell)) → Each IsRow rows → Each IsTree (flat_map of_row rows)
rows_trees [] each = tt
rows_trees (row ∷ rows) each =
    each_append IsTree (of_row row) (flat_map of_row rows) (cells_trees row (each_from IsCell row each.0.1)) (rows_trees rows each.1)

row_read : (d : ℕ) (cells : List Cell) → IsRow cells → Each (IsReadExpr d) (of_row cells) → IsReadRow d cells
row_read d [] row each = absurd (omega (arith, row.0))
row_read d (cell ∷ cells) row each = cells_read d (cell ∷ cells) each

rows_read : (d : ℕ) (rows : List (List Cell)) → Each IsRow rows → Each (IsReadExpr d) (flat_map of_row rows) → Each (IsReadRow d) rows
rows_read d [] trees each = tt
rows_read d (row ∷ rows) trees each =
    let both = each_split (IsReadExpr d) (of_row row) (flat_map of_row rows) each in
    (row_read d row trees.0 both.0, rows_read d rows trees.1 both.1)

has_one : {A : Type 0} (items : List A) → 1 ≤ length items → HasOne items
has_one [] one = absurd (omega arith)
has_one (a ∷ others) one = tt

columns_read : (columns : Option (List (List ℕ))) → IfSome columns (λ names. AreParts IsName 1 names) → Of HasOne columns
columns_read None are = tt
columns_read (Some names) are = has_one names are.0

list_trees : (l : SelectList) → IsList l → Each IsTree (of_list l)
list_trees list.Star is = tt
list_trees list.Count is = tt
list_trees (list.Items items) is = items_trees items (each_from IsItem items is.1)

list_read : (d : ℕ) (l : SelectList) → IsList l → Each (IsReadExpr d) (of_list l) → IsReadList d l
list_read d list.Star is each = tt
list_read d list.Count is each = tt
list_read d (list.Items items) is each = (has_one items is.0, items_read d items each)

-- ---- limits

number_limit : (n : ℕ) → n < 2 ^ 63 → (rest : List Token) → LimitOf (onto (lexeme.whole n ∷ []) rest) (Int (pos n)) rest
number_limit n low rest = number (pos n) (ap (λ (t : Token). t ∷ rest) (number_token n low)) refl

literal_limit : (n : ℤ) → IsLiteral n → number_layer (Expr-F.Int n) < 2 ^ 63 → (rest : List Token) → LimitOf (onto (number_tokens n).tokens rest) (Int n) rest
literal_limit (pos n) literal low rest = number_limit n low rest
literal_limit (negsuc n) (inl positive) low rest = absurd (omega (arith, ints))
literal_limit (negsuc n) (inr is) low rest =
    let exact : negsuc n ≡ negsuc 9223372036854775807 = is in
    let same : n ≡ 9223372036854775807 = cc in
    subst (λ (k : ℕ). LimitOf (onto (lexeme.sign ∷ lexeme.whole (suc k) ∷ []) rest) (Int (negsuc k)) rest) (sym same) (lowest refl refl)

int_greatest : (n : ℤ) → greatest_number (Int n) ≡ number_layer (Expr-F.Int n)
int_greatest n = ap greatest_number (sym (forms.rolls-Int n)) ∙ reaches (Expr-F.Int n)

minus_greatest : (e : Expr) → greatest_number (Minus e) ≡ greatest_number e
minus_greatest e = ap greatest_number (sym (forms.rolls-Minus e)) ∙ reaches (Expr-F.Minus e)

int_limit : (n : ℤ) → IsLiteral n → IsLow (Int n) → Reads LimitOf (expr_tokens (Int n)) (Int n)
int_limit n literal low rest =
    subst (λ (p : Printed). LimitOf (onto p.tokens rest) (Int n) rest) (sym (printed_int n))
    (literal_limit n literal (subst (λ (k : ℕ). k < 2 ^ 63) (int_greatest n) low) rest)

minus_limit : (n : ℤ) → pos 0 ≤ℤ n → IsLow (Minus (Int n)) → Reads LimitOf (expr_tokens (Minus (Int n))) (Minus (Int n))
minus_limit (negsuc n) positive low rest = absurd (omega (arith, ints))
minus_limit (pos n) positive low rest =
    let small : n < 2 ^ 63 = subst (λ (k : ℕ). k < 2 ^ 63) (minus_greatest (Int (pos n)) ∙ int_greatest (pos n)) low in
    subst (λ (p : Printed). LimitOf (onto p.tokens rest) (Minus (Int (pos n))) rest) (sym (printed_minus (Int (pos n))))
    (subst (λ (p : Printed). LimitOf (onto (lexeme.sign ∷ part p) rest) (Minus (Int (pos n))) rest) (sym (printed_int (pos n)))
    (negative (pos n) (ap (λ (t : Token). token.Mark mark.Minus ∷ t ∷ rest) (number_token n small)) refl))

limit_read : (e : Expr) → IsLimit e → IsLow e → Reads LimitOf (expr_tokens e) e
limit_read e (inl x) low =
    subst (λ (f : Expr). Reads LimitOf (expr_tokens f) f) (sym x.1.1) (int_limit x.0 x.1.0 (subst IsLow x.1.1 low))
limit_read e (inr (inl x)) low =
    subst (λ (f : Expr). Reads LimitOf (expr_tokens f) f) (sym x.1.1) (minus_limit x.0 x.1.0 (subst IsLow x.1.1 low))
limit_read e (inr (inr (inl is))) low =
    subst (λ (f : Expr). Reads LimitOf (expr_tokens f) f) (sym is)
    (λ rest. subst (λ (p : Printed). LimitOf (onto p.tokens rest) Null rest) (sym printed_null) (null refl refl))
limit_read e (inr (inr (inr x))) low =
    subst (λ (f : Expr). Reads LimitOf (expr_tokens f) f) (sym x.1.1)
    (λ rest. subst (λ (p : Printed). LimitOf (onto p.tokens rest) (Param x.0) rest) (sym (printed_param x.0)) (parameter x.0 refl refl))

limits_read : (o : Option Expr) → IfSome o IsLimit → Each IsLow (of_option o) → Of (λ e. Reads LimitOf (expr_tokens e) e) o
limits_read None is low = tt
limits_read (Some e) is low = limit_read e is low.0

-- ---- statements

-- what is printed begins with a verb, and what stands behind it is read as the statement, where enough nestings may be open
pub record IsWritten (s : Statement) : Type 0 where
  pub verb : Verb
  pub first : Lexeme
  pub others : List Lexeme
  pub parts : tokens_of s ≡ first ∷ others
  pub begins : token_of first ≡ verb_token verb
  pub depth : ℕ
  pub reads : (d : ℕ) → depth ≤ d → Reads (BehindVerb d verb) others s

update_written : (table : List ℕ) (sets : List SetItem) (filter : Option Expr) → AreParts IsSet 1 sets → IfSome filter IsTree
    → Each IsLow (map (λ (item : SetItem). item.expr) sets ++ of_option filter) → IsWritten (statement.Update (record { table = table; sets = sets; filter = filter }))
update_written table [] filter are is low = absurd (omega (arith, are.0))
update_written table (set ∷ sets) filter are is low =
    let es = map (λ (item : SetItem). item.expr) (set ∷ sets) in
    let read = all_read (es ++ of_option filter) (each_append IsTree es (of_option filter) (sets_trees (set ∷ sets) (each_from IsSet (set ∷ sets) are.1)) (option_trees filter is)) low in
    record {
      verb = verb.Update;
      first = lexeme.word word.Update;
      others = lexeme.name table ∷ lexeme.word word.Set ∷ (joined (lexeme.mark mark.Comma) set_tokens (set ∷ sets) ++ where_tokens filter);
      parts = refl;
      begins = refl;
      depth = read.deepest;
      reads = λ d above.
          let both = each_split (IsReadExpr d) es (of_option filter) (read.all d above) in
          update_reads d table set sets filter (sets_read d (set ∷ sets) both.0) (option_read d filter both.1);
    }

insert_written : (table : List ℕ) (columns : Option (List (List ℕ))) (rows : List (List Cell)) → IfSome columns (λ names. AreParts IsName 1 names) → AreParts IsRow 1 rows
    → Each IsLow (flat_map of_row rows) → IsWritten (statement.Insert (record { table = table; columns = columns; rows = rows }))
insert_written table columns [] named are low = absurd (omega (arith, are.0))
insert_written table columns (row ∷ rows) named are low =
    let each = each_from IsRow (row ∷ rows) are.1 in
    let read = all_read (flat_map of_row (row ∷ rows)) (rows_trees (row ∷ rows) each) low in
    record {
      verb = verb.Insert;
      first = lexeme.word word.Insert;
      others = lexeme.word word.Into ∷ lexeme.name table ∷ (optional columns_tokens columns ++ lexeme.word word.Values ∷ joined (lexeme.mark mark.Comma) row_tokens (row ∷ rows));
      parts = refl;
      begins = refl;
      depth = read.deepest;
      reads = λ d above. insert_reads d table columns row rows (columns_read columns named) (rows_read d (row ∷ rows) each (read.all d above));
    }

delete_written : (table : List ℕ) (filter : Option Expr) → IfSome filter IsTree → Each IsLow (of_option filter) → IsWritten (statement.Delete (record { table = table; filter = filter }))
delete_written table filter is low =
    let read = all_read (of_option filter) (option_trees filter is) low in
    record {
      verb = verb.Delete;
      first = lexeme.word word.Delete;
      others = lexeme.word word.From ∷ lexeme.name table ∷ where_tokens filter;
      parts = refl;
      begins = refl;
      depth = read.deepest;
      reads = λ d above. delete_reads d (record { table = table; filter = filter }) (option_read d filter (read.all d above));
    }

-- a SELECT with a table
from_written : (l : SelectList) (table : List ℕ) (filter : Option Expr) (order : List OrderItem) (limit : Option Expr) (lock : Bool)
    → IsList l → IfSome filter IsTree → IfSome limit IsLimit → Each IsLow (of_list l ++ (of_option filter ++ of_option limit))
    → IsWritten (statement.Select (record { list = l; table = Some table; filter = filter; order = order; limit = limit; for_update = lock }))
from_written l table filter order limit lock is filtered limited low =
    let lows = each_split IsLow (of_list l) (of_option filter ++ of_option limit) low in
    let behind = each_split IsLow (of_option filter) (of_option limit) lows.1 in
    let read = all_read (of_list l ++ of_option filter) (each_append IsTree (of_list l) (of_option filter) (list_trees l is) (option_trees filter filtered)) (each_append IsLow (of_list l) (of_option filter) lows.0 behind.0) in
    record {
      verb = verb.Select;
      first = lexeme.word word.Select;
      others = list_tokens l ++ (lexeme.word word.From ∷ lexeme.name table ∷ behind_table filter order limit lock);
      parts = refl;
      begins = refl;
      depth = read.deepest;
      reads = λ d above.
          let both = each_split (IsReadExpr d) (of_list l) (of_option filter) (read.all d above) in
          select_from d l table filter order limit lock (list_read d l is both.0) (option_read d filter both.1) (limits_read limit limited behind.1);
    }

-- a SELECT without one
alone_written : (l : SelectList) → IsList l → Each IsLow (of_list l ++ [])
    → IsWritten (statement.Select (record { list = l; table = None; filter = None; order = []; limit = None; for_update = false }))
alone_written l is low =
    let read = all_read (of_list l) (list_trees l is) (each_split IsLow (of_list l) [] low).0 in
    record {
      verb = verb.Select;
      first = lexeme.word word.Select;
      others = list_tokens l ++ [];
      parts = refl;
      begins = refl;
      depth = read.deepest;
      reads = λ d above. select_alone d l (list_read d l is (read.all d above));
    }

select_written : (l : SelectList) (table : Option (List ℕ)) (filter : Option Expr) (order : List OrderItem) (limit : Option Expr) (lock : Bool)
    → IsSelect (record { list = l; table = table; filter = filter; order = order; limit = limit; for_update = lock })
    → Each IsLow (of_list l ++ (of_option filter ++ of_option limit))
    → IsWritten (statement.Select (record { list = l; table = table; filter = filter; order = order; limit = limit; for_update = lock }))
select_written l (Some table) filter order limit lock is low = from_written l table filter order limit lock is.given is.filter is.limit low
select_written l None (Some e) order limit lock is low = absurd (let no_filter = (is.alone refl).filter in cc)
select_written l None None (x ∷ order) limit lock is low = absurd (let no_order = (is.alone refl).order in cc)
select_written l None None [] (Some e) lock is low = absurd (let no_limit = (is.alone refl).limit in cc)
select_written l None None [] None true is low = absurd (let no_lock = (is.alone refl).for_update in cc)
select_written l None None [] None false is low = alone_written l is.given low

-- a statement of which the text says no more
plain_written : (v : Verb) (first : Lexeme) (s : Statement) → tokens_of s ≡ first ∷ [] → token_of first ≡ verb_token v → ((d : ℕ) → Reads (BehindVerb d v) [] s) → IsWritten s
plain_written v first s parts begins reads = record {
  verb = v;
  first = first;
  others = [];
  parts = parts;
  begins = begins;
  depth = 0;
  reads = λ d above. reads d;
}

pub written : (s : Statement) → IsStatement s → All IsLow (expressions s) → IsBackend s → IsWritten s
written (statement.Select select) is low backend =
    select_written select.list select.table select.filter select.order select.limit select.for_update is (each_within IsLow (expressions (statement.Select select)) low)
written (statement.Insert insert) is low backend =
    insert_written insert.table insert.columns insert.rows is.columns is.rows (each_within IsLow (expressions (statement.Insert insert)) low)
written (statement.Update update) is low backend =
    update_written update.table update.sets update.filter is.sets is.filter (each_within IsLow (expressions (statement.Update update)) low)
written (statement.Delete delete) is low backend =
    delete_written delete.table delete.filter is.filter (each_within IsLow (expressions (statement.Delete delete)) low)
written statement.Begin is low backend =
    plain_written verb.Begin (lexeme.word word.Begin) statement.Begin refl refl (λ d rest. ((None, None), (rest, inl (refl, refl), inl (refl, refl)), refl))
written statement.Commit is low backend =
    plain_written verb.Commit (lexeme.word word.Commit) statement.Commit refl refl (λ d rest. (None, inl (refl, refl), refl))
written statement.Rollback is low backend =
    plain_written verb.Rollback (lexeme.word word.Rollback) statement.Rollback refl refl (λ d rest. (None, inl (refl, refl), refl))
written statement.ShowNodes is low backend = record {
  verb = verb.Show;
  first = lexeme.word word.Show;
  others = lexeme.name (codes "pool_nodes") ∷ [];
  parts = refl;
  begins = refl;
  depth = 0;
  reads = λ d above rest. (tt, rest, refl, (refl, refl));
}
written (statement.Recover b) is low backend = record {
  verb = verb.Pgpool;
  first = lexeme.command (codes "pgpool");
  others = lexeme.command (codes "recover") ∷ lexeme.whole b ∷ [];
  parts = refl;
  begins = refl;
  depth = 0;
  reads = λ d above rest. (b, (tt, onto (lexeme.whole b ∷ []) rest, refl, (ap (λ (t : Token). t ∷ rest) (number_token b (omega arith)), backend)), refl);
}
