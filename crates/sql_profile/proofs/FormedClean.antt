-- What holds of a text of statements that holds of what follows it: no token is a fault.
use Rattle.std.proofs.Common.{◌≡◌, ℕ, zero, suc, List, [], ◌∷◌, ◌++◌, Option, Some, None, refl, sym, subst, inl, inr, ◌⊎◌}
use Rattle.std.specs.Prelude.{Bool as Truth, true, false, codes}
use Rattle.sql_tokens.specs.Grammar.{Form, TailOf, ChainedOf, part}
use Rattle.sql_tokens.specs.declared.mark.Mark.TheVariants as mark
use Rattle.sql_tokens.specs.declared.token.Token.{Token}
use Rattle.sql_tokens.specs.declared.token.Token.TheVariants as token
use Rattle.sql_tokens.specs.declared.token.TokenFault.{TokenFault}
use Rattle.sql_tokens.specs.declared.word.Word.TheVariants as word
use Rattle.sql_tree.specs.declared.expr.Comparison.{Comparison}
use Rattle.sql_tree.specs.declared.expr.Comparison.TheVariants as comparison
use Rattle.sql_tree.specs.declared.expr.Expr.{Expr, Not}
use Rattle.sql_tree.specs.declared.expr.ProductSign.{ProductSign}
use Rattle.sql_tree.specs.declared.expr.ProductSign.TheVariants as product_sign
use Rattle.sql_tree.specs.declared.statement.SelectItem.{SelectItem}
use Rattle.sql_tree.specs.declared.statement.SelectList.{SelectList}
use Rattle.sql_tree.specs.declared.statement.Statement.{Statement}
use Rattle.sql_tree.specs.declared.statement.Statement.TheVariants as statement
use Rattle.sql_expr.specs.declared.opening.Opening.{Opening}
use Rattle.sql_expr.specs.declared.opening.Opening.TheVariants as opening
use Rattle.sql_expr.specs.Grammar.{and_word, bars, comma, is_word, or_word, or_of, and_of, tests_of, concat_of, sum_of, product_of, list_of, sum_part, product_part, sign, factor_sign, comparison_mark, PrimOf, number, string, truth, falsehood, null, parameter, column, qualified, parenthesis, current, call, moment, UnOf, negative, prim, ProductOf, SumOf, CatOf, ListOf, MemOf, cat, within, without, CmpOf, mem, compared, NullityOf, TestOf, NotOf, negated, test, AndOf, OrOf, MinusOf, Behind, ExprOf}
use Rattle.sql_reader.specs.declared.verb.Verb.{Verb}
use Rattle.sql_reader.specs.declared.verb.Verb.TheVariants as verb
use Rattle.sql_reader.specs.Parts.{Done, Then, Made, OneOf, Maybe, Either, Listed, all_of}
use Rattle.sql_reader.specs.Parts.{Behind as BehindMark}
use Rattle.sql_reader.specs.Words.{from_word, where_word, into_word, values_word, set_word, by_word, update_word, level_word, repeatable_word, read_word, as_word, limit_word, order_word, for_word, isolation_word, transaction_word, default_word, open_mark, close_mark, equal_mark, dot_mark, work_word, direction_word, name_token, plain_name, semicolon_mark}
use Rattle.sql_reader.specs.Grammar.{NameOf, kept, Closed, FilterOf, delete_of, DeleteOf, set_item, SetOf, update_of, UpdateOf, WorkOf, IsolationOf, always, BeginOf, StartOf, EndingOf, ShowOf, BackendOf, recover_of, RecoverOf, given_cell, CellOf, RowOf, ColumnsOf, insert_of, InsertOf, select_item, ItemOf, items_of, order_item, OrderItemOf, OrderOf, LimitOf, SizeOf, LockOf, SourceOf, select_of, SelectOf, verb_token, BehindVerb}
use Rattle.sql_reader.specs.Grammar as grammar
use Rattle.sql_reader.specs.TextGrammar.{PartOf, written, TextOf, IsTextWithin}

abbrev pub is_fault : Token → Truth
is_fault (token.Fault fault) = true
is_fault t = false

-- none of them is a fault
abbrev pub Clean : List Token → Type 0
Clean [] = Unit {0}
Clean (t ∷ ts) = (is_fault t ≡ false) × Clean ts

-- a fault at the end
pub clean_ends : (ts : List Token) (fault : TokenFault) → Clean (ts ++ token.Fault fault ∷ []) → ⊥
clean_ends [] fault clean = let f : true ≡ false = clean.0 in cc
clean_ends (t ∷ ts) fault clean = clean_ends ts fault clean.1

-- what holds of no token, and with each further one that is no fault, holds of all texts
module _ (P : List Token → Type 0) (on : (t : Token) (ts : List Token) → is_fault t ≡ false → P ts → P (t ∷ ts)) where
  -- what holds of what follows holds of all
  abbrev Keeps : {A : Type 0} → Form Token A → Type 0
  Keeps {A} R = (ts : List Token) (a : A) (rest : List Token) → R ts a rest → P rest → P ts

  more : {t : Token} {ts : List Token} → is_fault t ≡ false → P ts → P (t ∷ ts)
  more {t} {ts} plain holds = on t ts plain holds

  shift : (ts us : List Token) → ts ≡ us → P us → P ts
  shift ts us is holds = subst P (sym is) holds

  -- ---- productions over any tokens

  done : {A : Type 0} (a : A) → Keeps (Done a)
  done a ts b rest h clean = shift ts rest h.0 clean

  then : {A B : Type 0} (R : Form Token A) (S : Form Token B) → Keeps R → Keeps S → Keeps (Then R S)
  then R S k l ts x rest h clean = k ts x.0 h.0 h.1 (l h.0 x.1 rest h.2 clean)

  made : {A B : Type 0} (make : A → B) (R : Form Token A) → Keeps R → Keeps (Made make R)
  made make R k ts b rest h clean = k ts h.0 rest h.1 clean

  one : {S A : Type 0} (mark : S → Token) (R : S → Form Token A) → ((s : S) → is_fault (mark s) ≡ false) → ((s : S) → Keeps (R s)) → Keeps (OneOf mark R)
  one mark R plain k ts a rest h clean = shift ts (mark h.0 ∷ h.1) h.2 (more (plain h.0) (k h.0 h.1 a rest h.3 clean))

  maybe : {S A : Type 0} (mark : S → Token) (R : S → Form Token A) → ((s : S) → is_fault (mark s) ≡ false) → ((s : S) → Keeps (R s)) → Keeps (Maybe mark R)
  maybe mark R plain k ts o rest (inl h) clean = shift ts rest h.0 clean
  maybe mark R plain k ts o rest (inr h) clean = one mark R plain k ts h.0 rest h.1 clean

  either : {S A : Type 0} (mark : S → Token) (R : S → Form Token A) (Q : Form Token A) → ((s : S) → is_fault (mark s) ≡ false) → ((s : S) → Keeps (R s)) → Keeps Q → Keeps (Either mark R Q)
  either mark R Q plain k l ts a rest (inl h) clean = one mark R plain k ts a rest h clean
  either mark R Q plain k l ts a rest (inr h) clean = l ts a rest h clean

  tail : {S A B : Type 0} (mark : S → Token) (make : S → A → B) (R : Form Token A) → ((s : S) → is_fault (mark s) ≡ false) → Keeps R
      → (bs : List B) (ts rest : List Token) → TailOf mark make R ts bs rest → P rest → P ts
  tail mark make R plain k [] ts rest h clean = shift ts rest h clean
  tail mark make R plain k (b ∷ bs) ts rest h clean =
      shift ts (mark h.0 ∷ h.1) h.4 (more (plain h.0) (k h.1 h.2 h.3 h.5 (tail mark make R plain k bs h.3 rest h.7 clean)))

  chained : {S A B C D : Type 0} (mark : S → Token) (make : S → A → B) (R : Form Token A) (whole : C → List B → D) (F : Form Token C)
      → ((s : S) → is_fault (mark s) ≡ false) → Keeps R → Keeps F → Keeps (ChainedOf mark make R whole F)
  chained mark make R whole F plain k l ts e rest h clean = l ts h.0 h.1 h.3 (tail mark make R plain k h.2 h.1 rest h.4 clean)

  listed : {A : Type 0} (mark : Unit {0} → Token) (R : Form Token A) → ((s : Unit {0}) → is_fault (mark s) ≡ false) → Keeps R → Keeps (Listed mark R)
  listed mark R plain k = chained mark part R all_of R plain k k

  -- ---- marks

  sign_plain : (minus : Truth) → is_fault (sign minus) ≡ false
  sign_plain true = refl
  sign_plain false = refl

  factor_plain : (s : ProductSign) → is_fault (factor_sign s) ≡ false
  factor_plain product_sign.Times = refl
  factor_plain product_sign.Over = refl
  factor_plain product_sign.Rest = refl

  comparison_plain : (c : Comparison) → is_fault (comparison_mark c) ≡ false
  comparison_plain comparison.Equal = refl
  comparison_plain comparison.Unequal = refl
  comparison_plain comparison.Less = refl
  comparison_plain comparison.AtMost = refl
  comparison_plain comparison.Greater = refl
  comparison_plain comparison.AtLeast = refl

  work_plain : (b : Truth) → is_fault (work_word b) ≡ false
  work_plain true = refl
  work_plain false = refl

  direction_plain : (b : Truth) → is_fault (direction_word b) ≡ false
  direction_plain true = refl
  direction_plain false = refl

  verb_plain : (v : Verb) → is_fault (verb_token v) ≡ false
  verb_plain verb.Select = refl
  verb_plain verb.Insert = refl
  verb_plain verb.Update = refl
  verb_plain verb.Delete = refl
  verb_plain verb.Begin = refl
  verb_plain verb.Start = refl
  verb_plain verb.Commit = refl
  verb_plain verb.End = refl
  verb_plain verb.Rollback = refl
  verb_plain verb.Abort = refl
  verb_plain verb.Show = refl
  verb_plain verb.Pgpool = refl

  -- ---- expressions

  module _ (B : Opening → Form Token Expr) (behind : (o : Opening) → Keeps (B o)) where
    prim_kept : Keeps (PrimOf B)
    prim_kept ts e rest (number n h k) clean = shift ts (token.Number n ∷ rest) h (more refl clean)
    prim_kept ts e rest (string s h k) clean = shift ts (token.Str s ∷ rest) h (more refl clean)
    prim_kept ts e rest (truth h k) clean = shift ts (token.Word word.True ∷ rest) h (more refl clean)
    prim_kept ts e rest (falsehood h k) clean = shift ts (token.Word word.False ∷ rest) h (more refl clean)
    prim_kept ts e rest (null h k) clean = shift ts (token.Word word.Null ∷ rest) h (more refl clean)
    prim_kept ts e rest (parameter n h k) clean = shift ts (token.Param n ∷ rest) h (more refl clean)
    prim_kept ts e rest (column n h k) clean = shift ts (token.Name n ∷ rest) h (more refl clean)
    prim_kept ts e rest (qualified q n h k) clean = shift ts (token.Name q ∷ token.Mark mark.Dot ∷ token.Name n ∷ rest) h (more refl (more refl (more refl clean)))
    prim_kept ts e rest (parenthesis mid h d) clean =
        shift ts (token.Mark mark.Open ∷ mid) h (more refl (behind opening.Parenthesis mid e (token.Mark mark.Close ∷ rest) d (more refl clean)))
    prim_kept ts e rest (current h k) clean = shift ts (token.Word word.CurrentTimestamp ∷ rest) h (more refl clean)
    prim_kept ts e rest (call f n mid h plain d) clean =
        shift ts (token.Name n ∷ token.Mark mark.Open ∷ mid) h (more refl (more refl (behind (opening.Call f) mid e rest d clean)))
    prim_kept ts e rest (moment s h k) clean = shift ts (token.Word word.Timestamptz ∷ token.Str s ∷ rest) h (more refl (more refl clean))

    un_kept : Keeps (UnOf B)
    un_kept ts e rest (negative mid h d) clean = shift ts (token.Mark mark.Minus ∷ mid) h (more refl (behind opening.Minus mid e rest d clean))
    un_kept ts e rest (prim h) clean = prim_kept ts e rest h clean

    product_kept : Keeps (ProductOf B)
    unfolding ProductOf
    product_kept = chained factor_sign product_part (UnOf B) product_of (UnOf B) factor_plain un_kept un_kept

    sum_kept : Keeps (SumOf B)
    unfolding SumOf
    sum_kept = chained sign sum_part (ProductOf B) sum_of (ProductOf B) sign_plain product_kept product_kept

    cat_kept : Keeps (CatOf B)
    unfolding CatOf
    cat_kept = chained bars part (SumOf B) concat_of (SumOf B) (λ _. refl) sum_kept sum_kept

    list_kept : Keeps (ListOf B)
    unfolding ListOf
    list_kept ts xs rest h clean =
        shift ts (token.Mark mark.Open ∷ h.0) h.1 (more refl (chained comma part (B opening.Parenthesis) list_of (B opening.Parenthesis) (λ _. refl) (behind opening.Parenthesis) (behind opening.Parenthesis) h.0 xs (token.Mark mark.Close ∷ rest) h.2 (more refl clean)))

    mem_kept : Keeps (MemOf B)
    mem_kept ts e rest (cat h) clean = cat_kept ts e rest h clean
    mem_kept ts e rest (within x mid xs h k q) clean = cat_kept ts x (token.Word word.In ∷ mid) h (more refl (list_kept mid xs rest k clean))
    mem_kept ts e rest (without x mid xs h k q) clean = cat_kept ts x (token.Word word.Not ∷ token.Word word.In ∷ mid) h (more refl (more refl (list_kept mid xs rest k clean)))

    cmp_kept : Keeps (CmpOf B)
    cmp_kept ts e rest (mem h) clean = mem_kept ts e rest h clean
    cmp_kept ts e rest (compared c x y mid h k q) clean = mem_kept ts x (comparison_mark c ∷ mid) h (more (comparison_plain c) (mem_kept mid y rest k clean))

    nullity_kept : Keeps NullityOf
    nullity_kept ts is_not rest (inl h) clean = shift ts (token.Word word.Null ∷ rest) h.0 (more refl clean)
    nullity_kept ts is_not rest (inr h) clean = shift ts (token.Word word.Not ∷ token.Word word.Null ∷ rest) h.0 (more refl (more refl clean))

    test_kept : Keeps (TestOf B)
    unfolding TestOf
    test_kept = chained is_word part NullityOf tests_of (CmpOf B) (λ _. refl) nullity_kept cmp_kept

    not_kept : Keeps (NotOf B)
    not_kept ts e rest (negated mid h d) clean = shift ts (token.Word word.Not ∷ mid) h (more refl (behind opening.Not mid e rest d clean))
    not_kept ts e rest (test h) clean = test_kept ts e rest h clean

    and_kept : Keeps (AndOf B)
    unfolding AndOf
    and_kept = chained and_word part (NotOf B) and_of (NotOf B) (λ _. refl) not_kept not_kept

    or_kept : Keeps (OrOf B)
    unfolding OrOf
    or_kept = chained or_word part (AndOf B) or_of (AndOf B) (λ _. refl) and_kept and_kept

    minus_kept : Keeps (MinusOf B)
    minus_kept ts e rest (inl h) clean = shift ts (token.Least ∷ rest) h.0 (more refl clean)
    minus_kept ts e rest (inr h) clean = un_kept ts h.0 rest h.1 clean

  -- at each number of nestings
  behind_kept : (d : ℕ) (o : Opening) → Keeps (Behind d o)
  unfolding Behind
  behind_kept zero o ts e rest h clean = absurd h
  behind_kept (suc d) opening.Minus ts e rest h clean = minus_kept (Behind d) (behind_kept d) ts e rest h clean
  behind_kept (suc d) opening.Not ts e rest h clean = not_kept (Behind d) (behind_kept d) ts h.0 rest h.1 clean
  behind_kept (suc d) opening.Parenthesis ts e rest h clean = or_kept (Behind d) (behind_kept d) ts e rest h clean
  behind_kept (suc d) (opening.Call f) ts e rest h clean = shift ts (token.Mark mark.Close ∷ rest) h.0 (more refl clean)

  expr_kept : (d : ℕ) → Keeps (ExprOf d)
  expr_kept d = or_kept (Behind d) (behind_kept d)

  -- ---- parts of statements

  name_kept : Keeps NameOf
  name_kept = one name_token (λ n. Done n.text) (λ n. refl) (λ n. done n.text)

  -- a mark that stands alone
  marked : {A : Type 0} (mark : Unit {0} → Token) (R : Form Token A) → is_fault (mark tt) ≡ false → Keeps R → Keeps (BehindMark mark R)
  marked mark R plain k ts a rest h clean = one mark (λ _. R) (λ s. plain) (λ s. k) ts a rest h clean

  closed : {A : Type 0} (R : Form Token A) → Keeps R → Keeps (Closed R)
  closed R k = made kept (Then R (BehindMark close_mark (Done tt))) (then R (BehindMark close_mark (Done tt)) k (marked close_mark (Done tt) refl (done tt)))

  filter_kept : (d : ℕ) → Keeps (FilterOf d)
  filter_kept d = maybe where_word (λ _. ExprOf d) (λ _. refl) (λ _. expr_kept d)

  delete_kept : (d : ℕ) → Keeps (DeleteOf d)
  delete_kept d = made delete_of (BehindMark from_word (Then NameOf (FilterOf d))) (marked from_word (Then NameOf (FilterOf d)) refl (then NameOf (FilterOf d) name_kept (filter_kept d)))

  set_kept : (d : ℕ) → Keeps (SetOf d)
  set_kept d = made set_item (Then NameOf (BehindMark equal_mark (ExprOf d))) (then NameOf (BehindMark equal_mark (ExprOf d)) name_kept (marked equal_mark (ExprOf d) refl (expr_kept d)))

  update_kept : (d : ℕ) → Keeps (UpdateOf d)
  update_kept d =
      let sets = Then (Listed comma (SetOf d)) (FilterOf d) in
      made update_of (Then NameOf (BehindMark set_word sets))
      (then NameOf (BehindMark set_word sets) name_kept (marked set_word sets refl (then (Listed comma (SetOf d)) (FilterOf d) (listed comma (SetOf d) (λ _. refl) (set_kept d)) (filter_kept d))))

  work_kept : Keeps WorkOf
  work_kept = maybe work_word (λ _. Done tt) work_plain (λ _. done tt)

  isolation_kept : Keeps IsolationOf
  isolation_kept =
      let read = BehindMark read_word (Done tt) in
      let repeatable = BehindMark repeatable_word read in
      maybe isolation_word (λ _. BehindMark level_word repeatable) (λ _. refl)
      (λ _. marked level_word repeatable refl (marked repeatable_word read refl (marked read_word (Done tt) refl (done tt))))

  begin_kept : Keeps BeginOf
  begin_kept = made (always statement.Begin) (Then WorkOf IsolationOf) (then WorkOf IsolationOf work_kept isolation_kept)

  start_kept : Keeps StartOf
  start_kept = made (always statement.Begin) (BehindMark transaction_word IsolationOf) (marked transaction_word IsolationOf refl isolation_kept)

  ending_kept : (s : Statement) → Keeps (EndingOf s)
  ending_kept s = made (always s) WorkOf work_kept

  show_kept : Keeps ShowOf
  show_kept = marked (plain_name (codes "pool_nodes")) (Done statement.ShowNodes) refl (done statement.ShowNodes)

  backend_kept : Keeps BackendOf
  backend_kept ts b rest h clean = shift ts (token.Number _ ∷ rest) h.0 (more refl clean)

  recover_kept : Keeps RecoverOf
  recover_kept = made recover_of (BehindMark (plain_name (codes "recover")) BackendOf) (marked (plain_name (codes "recover")) BackendOf refl backend_kept)

  cell_kept : (d : ℕ) → Keeps (CellOf d)
  cell_kept d = either default_word (λ _. Done _) (Made given_cell (ExprOf d)) (λ _. refl) (λ _. done _) (made given_cell (ExprOf d) (expr_kept d))

  row_kept : (d : ℕ) → Keeps (RowOf d)
  row_kept d = marked open_mark (Closed (Listed comma (CellOf d))) refl (closed (Listed comma (CellOf d)) (listed comma (CellOf d) (λ _. refl) (cell_kept d)))

  columns_kept : Keeps ColumnsOf
  columns_kept = maybe open_mark (λ _. Closed (Listed comma NameOf)) (λ _. refl) (λ _. closed (Listed comma NameOf) (listed comma NameOf (λ _. refl) name_kept))

  insert_kept : (d : ℕ) → Keeps (InsertOf d)
  insert_kept d =
      let rows = BehindMark values_word (Listed comma (RowOf d)) in
      let columns = Then ColumnsOf rows in
      made insert_of (BehindMark into_word (Then NameOf columns))
      (marked into_word (Then NameOf columns) refl
      (then NameOf columns name_kept (then ColumnsOf rows columns_kept (marked values_word (Listed comma (RowOf d)) refl (listed comma (RowOf d) (λ _. refl) (row_kept d))))))

  -- ---- SELECT

  item_kept : (d : ℕ) → Keeps (ItemOf d)
  item_kept d =
      made select_item (Then (ExprOf d) (Maybe as_word (λ _. NameOf)))
      (then (ExprOf d) (Maybe as_word (λ _. NameOf)) (expr_kept d) (maybe as_word (λ _. NameOf) (λ _. refl) (λ _. name_kept)))

  list_of_kept : (d : ℕ) → Keeps (grammar.ListOf d)
  list_of_kept d ts l rest (grammar.star h k) clean = shift ts (token.Mark mark.Star ∷ rest) h (more refl clean)
  list_of_kept d ts l rest (grammar.count h k) clean =
      shift ts (plain_name (codes "count") tt ∷ token.Mark mark.Open ∷ token.Mark mark.Star ∷ token.Mark mark.Close ∷ rest) h (more refl (more refl (more refl (more refl clean))))
  list_of_kept d ts l rest (grammar.items xs h k) clean = listed comma (ItemOf d) (λ _. refl) (item_kept d) ts xs rest h clean

  order_item_kept : Keeps OrderItemOf
  order_item_kept =
      let direction = Maybe direction_word Done in
      let point = Maybe dot_mark (λ _. NameOf) in
      made order_item (Then NameOf (Then point direction))
      (then NameOf (Then point direction) name_kept
      (then point direction (maybe dot_mark (λ _. NameOf) (λ _. refl) (λ _. name_kept)) (maybe direction_word Done direction_plain done)))

  order_kept : Keeps OrderOf
  order_kept =
      maybe order_word (λ _. BehindMark by_word (Listed comma OrderItemOf)) (λ _. refl)
      (λ _. marked by_word (Listed comma OrderItemOf) refl (listed comma OrderItemOf (λ _. refl) order_item_kept))

  limit_kept : Keeps LimitOf
  limit_kept ts e rest (grammar.number n h k) clean = shift ts (token.Number n ∷ rest) h (more refl clean)
  limit_kept ts e rest (grammar.negative n h k) clean = shift ts (token.Mark mark.Minus ∷ token.Number n ∷ rest) h (more refl (more refl clean))
  limit_kept ts e rest (grammar.lowest h k) clean = shift ts (token.Mark mark.Minus ∷ token.Least ∷ rest) h (more refl (more refl clean))
  limit_kept ts e rest (grammar.null h k) clean = shift ts (token.Word word.Null ∷ rest) h (more refl clean)
  limit_kept ts e rest (grammar.parameter n h k) clean = shift ts (token.Param n ∷ rest) h (more refl clean)

  size_kept : Keeps SizeOf
  size_kept = maybe limit_word (λ _. LimitOf) (λ _. refl) (λ _. limit_kept)

  lock_kept : Keeps LockOf
  lock_kept = maybe for_word (λ _. BehindMark update_word (Done tt)) (λ _. refl) (λ _. marked update_word (Done tt) refl (done tt))

  source_kept : (d : ℕ) → Keeps (SourceOf d)
  source_kept d =
      let last = Then SizeOf LockOf in
      let order = Then OrderOf last in
      let filter = Then (FilterOf d) order in
      then NameOf filter name_kept (then (FilterOf d) order (filter_kept d) (then OrderOf last order_kept (then SizeOf LockOf size_kept lock_kept)))

  select_kept : (d : ℕ) → Keeps (SelectOf d)
  select_kept d =
      let from = Maybe from_word (λ _. SourceOf d) in
      made select_of (Then (grammar.ListOf d) from) (then (grammar.ListOf d) from (list_of_kept d) (maybe from_word (λ _. SourceOf d) (λ _. refl) (λ _. source_kept d)))

  -- ---- statements and texts

  verb_kept : (d : ℕ) (v : Verb) → Keeps (BehindVerb d v)
  verb_kept d verb.Select = select_kept d
  verb_kept d verb.Insert = insert_kept d
  verb_kept d verb.Update = update_kept d
  verb_kept d verb.Delete = delete_kept d
  verb_kept d verb.Begin = begin_kept
  verb_kept d verb.Start = start_kept
  verb_kept d verb.Commit = ending_kept statement.Commit
  verb_kept d verb.End = ending_kept statement.Commit
  verb_kept d verb.Rollback = ending_kept statement.Rollback
  verb_kept d verb.Abort = ending_kept statement.Rollback
  verb_kept d verb.Show = show_kept
  verb_kept d verb.Pgpool = recover_kept

  part_kept : (d : ℕ) → Keeps (PartOf d)
  part_kept d = maybe verb_token (BehindVerb d) verb_plain (verb_kept d)

  text_kept : (d : ℕ) → Keeps (TextOf d)
  text_kept d = made written (Listed semicolon_mark (PartOf d)) (listed semicolon_mark (PartOf d) (λ _. refl) (part_kept d))

-- no token of a text is a fault
pub text_clean : (d : ℕ) (ts : List Token) (all : List Statement) → IsTextWithin d ts all → Clean ts
text_clean d ts all text = text_kept Clean (λ t ts plain clean. (plain, clean)) d ts all [] text tt

-- a `;` is one of them
abbrev pub HasSemicolon : List Token → Type 0
HasSemicolon [] = ⊥
HasSemicolon (t ∷ ts) = (t ≡ token.Mark mark.Semicolon) ⊎ HasSemicolon ts

-- what stands before a `;` has it behind it
pub front_semicolon : (d : ℕ) (ts : List Token) (before : List Statement) (after : List Token) → TextOf d ts before (token.Mark mark.Semicolon ∷ after) → HasSemicolon ts
front_semicolon d ts before after text = text_kept HasSemicolon (λ t ts plain has. inr has) d ts before (token.Mark mark.Semicolon ∷ after) text (inl refl)
