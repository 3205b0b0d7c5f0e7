-- Tables, as they are written, are read as tables by the grammar.
use Rattle.std.proofs.Common.{◌≡◌, ◌∙◌, ◌==◌, ◌&&◌, ◌||◌, ◌<◌, ◌≤◌, ◌+◌, ◌*◌, not, ℕ, zero, suc, Bool as Truth, true, false, List, [], ◌∷◌, ◌++◌, length, refl, sym, ap, ap₂, subst, if◌then◌else◌, append_assoc, length-append, arith, Option, Some, None}
use Rattle.std.specs.Prelude.{codes, nat_lt}
use Rattle.std.specs.List.{All}
use Rattle.std.proofs.lemmas.Bool.{true≢false, cond-true, cond-false, lt-ltb, ltb-true, ltb-false, eqb-true, eqb-false, ne_eqb}
use Rattle.std.proofs.lemmas.List.{append-nil}
use Rattle.std.proofs.lemmas.List.Elements.{All-nil, All-cons}
use Rattle.sql_tokens.specs.declared.mark.Mark.TheVariants as marks
use Rattle.sql_tokens.specs.declared.token.Token.{Token as AnyToken}
use Rattle.sql_tokens.specs.declared.token.Token.TheVariants as token
use Rattle.sql_tokens.specs.declared.word.Word.TheVariants as words
use Rattle.sql_print.specs.Spelling.{spelled, name, is_plain}
use Rattle.schema.specs.declared.catalogue.ColumnDef.{ColumnDef}
use Rattle.schema.specs.declared.catalogue.TableDef.{TableDef}
use Rattle.schema.specs.declared.open.OpenTable.{OpenTable}
use Rattle.schema.specs.Types as types
use Rattle.schema.specs.Open.{has_column, empty_table, with_column, whole_column, whole_table, number_or}
use Rattle.schema.specs.Grammar.{ColumnOf, ColumnsOf, TableOf, TablesOf}
use Rattle.schema_print.specs.Printed.{comma, IsColumnText, AreColumnsText, IsTableText, IsSchemaText}
use Rattle.schema.specs.Allowed.{is_serial}
use Rattle.schema.specs.Allowed.{IsColumn, is_at, AreColumns, IsBelow, IsTable, AreTables}
use Rattle.schema_print.proofs.Runs.{IsCalm}
use Rattle.schema_print.proofs.Tokens.{AreRead, space_read, line_read, none_read}
use Rattle.schema_print.proofs.Lexed.{word_read, name_of, name_read, open_read, close_read, comma_read, semicolon_read}
use Rattle.schema_print.proofs.Columns.{opened, type_by, serial_is, whole_is, ReadColumn, column_read}

-- ---- a table whose first columns were read

-- the number, where it is one of the first so many
abbrev seen : ℕ → ℕ → Option ℕ
seen at count = if nat_lt at count then Some at else None

abbrev seen_option : Option ℕ → ℕ → Option ℕ
seen_option None count = None
seen_option (Some at) count = seen at count

abbrev state : List ℕ → ℕ → Option ℕ → List ColumnDef → OpenTable
state called key serial before = record { name = called; columns = before; key = seen key (length before); serial = seen_option serial (length before) }

not_seen : (at count : ℕ) → count ≤ at → seen at count ≡ None
not_seen at count low = go (nat_lt at count) refl
  where
    go : (t : Truth) → nat_lt at count ≡ t → (if t then Some at else None) ≡ None
    go true e = let below = ltb-true at count e in absurd (omega (arith, below, low))
    go false e = refl

is_seen : (at count : ℕ) → at < count → seen at count ≡ Some at
is_seen at count low = cond-true (nat_lt at count) (Some at) None (lt-ltb at count low)

-- no other number is one more
seen_other : (at count : ℕ) → (count ≡ at → ⊥) → (t : Truth) → nat_lt at count ≡ t → seen at count ≡ seen at (count + 1)
seen_other at count apart true l = let low = ltb-true at count l in is_seen at count low ∙ sym (is_seen at (count + 1) (omega (arith, low)))
seen_other at count apart false l = let high = ltb-false at count l in not_seen at count high ∙ sym (not_seen at (count + 1) (omega (arith, high, apart)))

seen_next : (at count : ℕ) → number_or (count == at) count (seen at count) ≡ seen at (count + 1)
seen_next at count = go (count == at) refl
  where
    go : (t : Truth) → (count == at) ≡ t → (if t then Some count else seen at count) ≡ seen at (count + 1)
    go true e = let same = eqb-true count at e in ap Some same ∙ sym (is_seen at (count + 1) (omega (arith, same)))
    go false e = seen_other at count (eqb-false count at e) (nat_lt at count) refl

seen_option_next : (at : Option ℕ) (count : ℕ) → number_or (is_at count at) count (seen_option at count) ≡ seen_option at (count + 1)
seen_option_next None count = refl
seen_option_next (Some at) count = seen_next at count

length_next : (before : List ColumnDef) (c : ColumnDef) → length (before ++ c ∷ []) ≡ length before + 1
length_next before c = length-append before (c ∷ [])

next_state : (called : List ℕ) (key : ℕ) (serial : Option ℕ) (before : List ColumnDef) (c : ColumnDef) → IsColumn (length before == key) (is_at (length before) serial) c
    → with_column (state called key serial before) (opened (length before == key) (length before) c) ≡ state called key serial (before ++ c ∷ [])
next_state called key serial before c is =
    let n = length before in
    let numbered : types.is_serial (type_by (is_serial c.fill) c.kind) ≡ is_at n serial = serial_is (is_serial c.fill) c.kind ∙ is.numbered in
    ap (λ w. record { name = called; columns = before ++ w ∷ []; key = number_or (n == key) n (seen key n); serial = number_or (types.is_serial (type_by (is_serial c.fill) c.kind)) n (seen_option serial n) })
    (whole_is (n == key) (is_at n serial) n c is)
    ∙ ap (λ k. record { name = called; columns = before ++ c ∷ []; key = k; serial = number_or (types.is_serial (type_by (is_serial c.fill) c.kind)) n (seen_option serial n) })
    (seen_next key n ∙ ap (seen key) (sym (length_next before c)))
    ∙ ap (λ s. record { name = called; columns = before ++ c ∷ []; key = seen key (length (before ++ c ∷ [])); serial = s })
    (ap (λ t. number_or t n (seen_option serial n)) numbered ∙ seen_option_next serial n ∙ ap (seen_option serial) (sym (length_next before c)))

free_key : (key count : ℕ) → (count == key) ≡ true → seen key count ≡ None
free_key key count e = let same = eqb-true count key e in not_seen key count (omega (arith, same))

free_serial : (serial : Option ℕ) (count : ℕ) → is_at count serial ≡ true → seen_option serial count ≡ None
free_serial None count e = absurd (true≢false (sym e))
free_serial (Some at) count e = free_key at count e

-- ---- columns

-- the bytes are columns that lead to that table, and then the tokens
abbrev ReadColumns : ℕ → OpenTable → List ℕ → OpenTable → List AnyToken → Type 0
ReadColumns most table bytes more tokens = (mid : List AnyToken) × AreRead bytes mid × (length mid ≤ most + length tokens)
    × ((count : ℕ) × ColumnsOf count table mid more tokens)

one_read : (called : List ℕ) (key : ℕ) (serial : Option ℕ) (before : List ColumnDef) (c : ColumnDef) (text rest : List ℕ) (tokens : List AnyToken)
    → IsColumnText (length before == key) c text → IsColumn (length before == key) (is_at (length before) serial) c → has_column c.name before ≡ false → IsCalm rest → AreRead rest tokens
    → ReadColumn (state called key serial before) (text ++ rest) (state called key serial (before ++ c ∷ [])) tokens
one_read called key serial before c text rest tokens shown is new calm others =
    subst (λ t. ReadColumn (state called key serial before) (text ++ rest) t tokens) (next_state called key serial before c is)
    (column_read (state called key serial before) (length before == key) (is_at (length before) serial) c text rest tokens shown is new
    (free_key key (length before)) (free_serial serial (length before)) calm others)

columns_read : (called : List ℕ) (key : ℕ) (serial : Option ℕ) (before : List ColumnDef) (c : ColumnDef) (columns : List ColumnDef) (one others rest : List ℕ) (tokens : List AnyToken)
    → IsColumnText (length before == key) c one → AreColumnsText key (length before + 1) columns others → AreColumns key serial before (c ∷ columns) → IsCalm rest → AreRead rest tokens
    → ReadColumns (9 * length (c ∷ columns)) (state called key serial before) (one ++ (others ++ rest)) (state called key serial (before ++ c ∷ columns)) tokens
columns_read called key serial before c [] one others rest tokens shown none (is, new, all) calm read =
    let first = one_read called key serial before c one rest tokens shown is new calm read in
    let few = first.2 in
    subst (λ o. ReadColumns 9 (state called key serial before) (one ++ (o ++ rest)) (state called key serial (before ++ c ∷ [])) tokens) (sym none)
    (first.0, first.1, omega (arith, few), (zero, first.3))
columns_read called key serial before c (d ∷ columns) one others rest tokens shown (next, behind, is_next, are_behind, flat) (is, new, all) calm read =
    let place = length_next before c in
    let later = columns_read called key serial (before ++ c ∷ []) d columns next behind rest tokens
    (subst (λ n. IsColumnText (n == key) d next) (sym place) is_next)
    (subst (λ n. AreColumnsText key (n + 1) columns behind) (sym place) are_behind) all calm read in
    let follow = 32 ∷ (next ++ (behind ++ rest)) in
    let tail = token.Mark marks.Comma ∷ later.0 in
    let first = one_read called key serial before c one (44 ∷ follow) tail shown is new refl (comma_read follow later.0 (space_read (next ++ (behind ++ rest)) later.0 later.1)) in
    let few = later.2 in
    let less = first.2 in
    let between : comma (length before + 1) ≡ codes ", " = cond-false (length before + 1 == 0) [] (codes ", ") (ne_eqb (length before + 1) 0 (λ e. absurd (omega (arith, e)))) in
    let bytes : others ++ rest ≡ 44 ∷ follow =
    ap (λ o. o ++ rest) (flat ∙ ap (λ k. k ++ (next ++ behind)) between)
    ∙ ap (λ o. 44 ∷ 32 ∷ o) (append_assoc next behind rest) in
    let whole : (before ++ c ∷ []) ++ d ∷ columns ≡ before ++ c ∷ d ∷ columns = append_assoc before (c ∷ []) (d ∷ columns) in
    subst (λ o. ReadColumns (9 * length (c ∷ d ∷ columns)) (state called key serial before) (one ++ o) (state called key serial (before ++ c ∷ d ∷ columns)) tokens) (sym bytes) (
      first.0,
      first.1,
      omega (arith, few, less),
      (
        suc later.3.0,
        (
          state called key serial (before ++ c ∷ []),
          later.0,
          first.3,
          subst (λ all. ColumnsOf later.3.0 (state called key serial (before ++ c ∷ [])) later.0 (state called key serial all) tokens) whole later.3.1,
        ),
      ),
    )

-- ---- a table

abbrev pub ReadTable : List TableDef → List ℕ → TableDef → List AnyToken → Type 0
ReadTable before bytes table tokens = (mid : List AnyToken) × AreRead bytes mid × (length mid ≤ 300 + length tokens) × TableOf before mid table tokens

begun_state : (called : List ℕ) (key : ℕ) (serial : Option ℕ) → state called key serial [] ≡ empty_table called
begun_state called key serial =
    ap₂ (λ k s. record { name = called; columns = []; key = k; serial = s }) (not_seen key 0 (omega arith)) (none serial)
  where
    none : (serial : Option ℕ) → seen_option serial 0 ≡ None
    none None = refl
    none (Some at) = not_seen at 0 (omega arith)

whole_state : (t : TableDef) → t.key < length t.columns → IsBelow (length t.columns) t.serial → whole_table (state t.name t.key t.serial t.columns) ≡ Some t
whole_state t low below =
    ap (λ k. whole_table (record { name = t.name; columns = t.columns; key = k; serial = seen_option t.serial (length t.columns) })) (is_seen t.key (length t.columns) low)
    ∙ ap (λ s. whole_table (record { name = t.name; columns = t.columns; key = Some t.key; serial = s })) (all t.serial below)
  where
    all : (serial : Option ℕ) → IsBelow (length t.columns) serial → seen_option serial (length t.columns) ≡ serial
    all None b = refl
    all (Some at) b = is_seen at (length t.columns) b

-- columns and the end of a table
inner_read : (t : TableDef) (columns : List ColumnDef) (text rest : List ℕ) (tokens : List AnyToken) → 0 < length columns → length columns ≤ 32 → AreColumnsText t.key 0 columns text → AreColumns t.key t.serial [] columns → AreRead rest tokens
    → ReadColumns 290 (empty_table t.name) (text ++ (41 ∷ 59 ∷ 10 ∷ rest)) (state t.name t.key t.serial columns) (token.Mark marks.Close ∷ token.Mark marks.Semicolon ∷ tokens)
inner_read t [] text rest tokens some few shown all read = absurd (omega (arith, some))
inner_read t (c ∷ columns) text rest tokens some few (one, others, is_one, are_others, flat) all read =
    let end = close_read (59 ∷ 10 ∷ rest) (token.Mark marks.Semicolon ∷ tokens) (semicolon_read (10 ∷ rest) tokens (line_read rest tokens read)) in
    let found = columns_read t.name t.key t.serial [] c columns one others (41 ∷ 59 ∷ 10 ∷ rest) (token.Mark marks.Close ∷ token.Mark marks.Semicolon ∷ tokens) is_one are_others all refl end in
    let count = found.2 in
    let bytes : text ++ (41 ∷ 59 ∷ 10 ∷ rest) ≡ one ++ (others ++ (41 ∷ 59 ∷ 10 ∷ rest)) = ap (λ b. b ++ (41 ∷ 59 ∷ 10 ∷ rest)) flat ∙ append_assoc one others (41 ∷ 59 ∷ 10 ∷ rest) in
    subst (λ b. ReadColumns 290 (empty_table t.name) b (state t.name t.key t.serial (c ∷ columns)) (token.Mark marks.Close ∷ token.Mark marks.Semicolon ∷ tokens)) (sym bytes)
    (subst (λ s. ReadColumns 290 s (one ++ (others ++ (41 ∷ 59 ∷ 10 ∷ rest))) (state t.name t.key t.serial (c ∷ columns)) (token.Mark marks.Close ∷ token.Mark marks.Semicolon ∷ tokens)) (begun_state t.name t.key t.serial)
    (found.0, found.1, omega (arith, count, few), found.3))

pub table_read : (before : List TableDef) (t : TableDef) (text rest : List ℕ) (tokens : List AnyToken) → IsTableText t text → IsTable before t → AreRead rest tokens
    → ReadTable before (text ++ rest) t tokens
table_read before t text rest tokens (columns, shown, is) allowed read =
    let low = allowed.has_key in
    let inner = inner_read t t.columns columns rest tokens (omega (arith, low)) allowed.few shown allowed.columns read in
    let few = inner.2 in
    let bytes = columns ++ (41 ∷ 59 ∷ 10 ∷ rest) in
    let flat : text ++ rest ≡ codes "CREATE TABLE " ++ (spelled (name t.name) ++ (32 ∷ 40 ∷ bytes)) =
    ap (λ b. b ++ rest) is
    ∙ ap (λ b. codes "CREATE TABLE " ++ b) (append_assoc (spelled (name t.name)) (32 ∷ 40 ∷ (columns ++ codes ");\n")) rest
    ∙ ap (λ b. spelled (name t.name) ++ (32 ∷ 40 ∷ b)) (append_assoc columns (codes ");\n") rest)) in
    let called = name_read t.name (32 ∷ 40 ∷ bytes) (token.Mark marks.Open ∷ inner.0) allowed.named refl (space_read (40 ∷ bytes) (token.Mark marks.Open ∷ inner.0) (open_read bytes inner.0 inner.1)) in
    let behind = spelled (name t.name) ++ (32 ∷ 40 ∷ bytes) in
    let front = word_read words.Create (32 ∷ (codes "TABLE" ++ (32 ∷ behind))) (token.Word words.Table ∷ name_of t.name ∷ token.Mark marks.Open ∷ inner.0) refl
    (space_read (codes "TABLE" ++ (32 ∷ behind)) (token.Word words.Table ∷ name_of t.name ∷ token.Mark marks.Open ∷ inner.0)
    (word_read words.Table (32 ∷ behind) (name_of t.name ∷ token.Mark marks.Open ∷ inner.0) refl (space_read behind (name_of t.name ∷ token.Mark marks.Open ∷ inner.0) called))) in
    subst (λ b. ReadTable before b t tokens) (sym flat) (
      token.Word words.Create ∷ token.Word words.Table ∷ name_of t.name ∷ token.Mark marks.Open ∷ inner.0,
      front,
      omega (arith, few),
      record {
        name = record { text = t.name; quoted = not (is_plain t.name) };
        inner = inner.0;
        count = inner.3.0;
        read = state t.name t.key t.serial t.columns;
        begun = refl;
        is_new = allowed.is_new;
        columns = inner.3.1;
        has_key = whole_state t allowed.has_key allowed.has_serial;
      },
    )

-- ---- all tables

pub tables_read : (before tables : List TableDef) (text : List ℕ) → IsSchemaText tables text → AreTables before tables
    → (mid : List AnyToken) × AreRead text mid × (length mid ≤ 300 * length tables) × TablesOf before mid tables []
tables_read before [] text is all = ([], subst (λ t. AreRead t []) (sym is) none_read, omega arith, refl)
tables_read before (t ∷ tables) text (one, others, is_one, are_others, flat) (is, all) =
    let later = tables_read (before ++ t ∷ []) tables others are_others all in
    let first = table_read before t one others later.0 is_one is later.1 in
    let few = later.2 in
    let less = first.2 in
    (first.0, subst (λ b. AreRead b first.0) (sym flat) first.1, omega (arith, few, less), (later.0, first.3, later.3))

pub all_few : (before tables : List TableDef) → AreTables before tables → All (λ t. length t.columns ≤ 32) tables
all_few before [] all = All-nil (λ (t : TableDef). length t.columns ≤ 32)
all_few before (t ∷ tables) (is, all) = All-cons (λ (t : TableDef). length t.columns ≤ 32) t tables is.few (all_few (before ++ t ∷ []) tables all)
