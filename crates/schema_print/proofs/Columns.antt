-- The columns of a table, as they are written, are read as columns by the grammar.
use Rattle.std.proofs.Common.{◌≡◌, ◌∙◌, ◌==◌, ◌&&◌, ◌||◌, ◌<◌, ◌≤◌, ◌+◌, ◌*◌, not, ℕ, zero, suc, Bool as Truth, true, false, List, [], ◌∷◌, ◌++◌, length, map, refl, sym, ap, subst, if◌then◌else◌, inl, inr, ◌⊎◌, append_assoc, length-append, lit≤, arith, Option, Some, None}
use Rattle.std.specs.Prelude.{codes, nat_lt, is_some, bytes_eq}
use Rattle.std.proofs.lemmas.Bool.{true≢false, cond-true, cond-false, lt-ltb, ltb-true, ltb-false, eqb-true, eqb-false, ne_eqb, and_parts}
use Rattle.sql_tokens.specs.declared.bytes.Class.TheVariants as classes
use Rattle.sql_tokens.specs.declared.mark.Mark.TheVariants as marks
use Rattle.sql_tokens.specs.declared.token.Token.{Token as AnyToken}
use Rattle.sql_tokens.specs.declared.token.Token.TheVariants as token
use Rattle.sql_tokens.specs.declared.word.Word.TheVariants as words
use Rattle.sql_print.specs.Spelling.{spelled, name, is_plain}
use Rattle.pg_values.specs.declared.col_type.ColType.{ColType}
use Rattle.pg_values.specs.declared.col_type.ColType.TheVariants as kind
use Rattle.schema.specs.declared.catalogue.ColumnDef.{ColumnDef}
use Rattle.schema.specs.declared.catalogue.Fill.{Fill}
use Rattle.schema.specs.declared.catalogue.Fill.TheVariants as fill
use Rattle.schema.specs.declared.column_type.ColumnType.{ColumnType}
use Rattle.schema.specs.declared.column_type.ColumnType.TheVariants as col
use Rattle.schema.specs.declared.open.OpenColumn.{OpenColumn}
use Rattle.schema.specs.declared.open.OpenTable.{OpenTable}
use Rattle.schema.specs.Types.{kind_of, may_be_key}
use Rattle.schema.specs.Types as types
use Rattle.schema.specs.Open.{has_column, bare_column, may_take_type, may_take_key, may_take_fill, with_not_null, with_key, with_fill, fill_by, fill_or_nothing, whole_column, with_column}
use Rattle.schema.specs.Grammar.{FillOf, PartOf, not_null, key, filled, PartsOf, TypeOf, ColumnOf}
use Rattle.schema_print.specs.Printed.{IsColumnText, IsFillText, kind_text, serial_text, rule_text}
use Rattle.schema.specs.Allowed.{is_serial}
use Rattle.schema.specs.Allowed.{IsColumn, IsFillOf, IsKeyIf, is_key_kind}
use Rattle.schema_print.proofs.Runs.{IsCalm, Stops, calm_name}
use Rattle.schema_print.proofs.Tokens.{AreRead, space_read}
use Rattle.schema_print.proofs.Lexed.{spaced_word, type_word_read, name_of, bare_name, bare_read, name_read}
use Rattle.schema_print.proofs.Values.{ReadFill, constant_read, now_read}

-- ---- types

abbrev pub type_by : Truth → ColType → ColumnType
type_by true kind.Int8 = col.BigSerial
type_by true _ = col.Serial
type_by false kind.Bool = col.Bool
type_by false kind.Int4 = col.Int4
type_by false kind.Int8 = col.Int8
type_by false kind.Text = col.Text
type_by false kind.Moment = col.Moment

abbrev type_by_text : Truth → ColType → List ℕ
type_by_text serial k = if serial then serial_text k else kind_text k

abbrev type_token : Truth → ColType → AnyToken
type_token true kind.Int8 = bare_name (codes "bigserial")
type_token true _ = bare_name (codes "serial")
type_token false kind.Bool = bare_name (codes "bool")
type_token false kind.Int4 = bare_name (codes "int4")
type_token false kind.Int8 = bare_name (codes "int8")
type_token false kind.Text = bare_name (codes "text")
type_token false kind.Moment = token.Word words.Timestamptz

bare_type : (text rest : List ℕ) (tokens : List AnyToken) → is_plain text ≡ true → length text ≤ 63 → IsCalm rest → AreRead rest tokens → AreRead (text ++ rest) (bare_name text ∷ tokens)
bare_type text rest tokens plain short calm others = bare_read text rest tokens plain short (calm_name rest calm) others

type_read : (serial : Truth) (k : ColType) (rest : List ℕ) (tokens : List AnyToken) → IsCalm rest → AreRead rest tokens → AreRead (type_by_text serial k ++ rest) (type_token serial k ∷ tokens)
type_read true kind.Bool rest tokens calm others = bare_type (codes "serial") rest tokens refl (lit≤ tt) calm others
type_read true kind.Int4 rest tokens calm others = bare_type (codes "serial") rest tokens refl (lit≤ tt) calm others
type_read true kind.Int8 rest tokens calm others = bare_type (codes "bigserial") rest tokens refl (lit≤ tt) calm others
type_read true kind.Text rest tokens calm others = bare_type (codes "serial") rest tokens refl (lit≤ tt) calm others
type_read true kind.Moment rest tokens calm others = bare_type (codes "serial") rest tokens refl (lit≤ tt) calm others
type_read false kind.Bool rest tokens calm others = bare_type (codes "bool") rest tokens refl (lit≤ tt) calm others
type_read false kind.Int4 rest tokens calm others = bare_type (codes "int4") rest tokens refl (lit≤ tt) calm others
type_read false kind.Int8 rest tokens calm others = bare_type (codes "int8") rest tokens refl (lit≤ tt) calm others
type_read false kind.Text rest tokens calm others = bare_type (codes "text") rest tokens refl (lit≤ tt) calm others
type_read false kind.Moment rest tokens calm others = type_word_read rest tokens (calm_name rest calm) others

typed : (serial : Truth) (k : ColType) (tokens : List AnyToken) → TypeOf (type_token serial k ∷ tokens) (type_by serial k) tokens
typed true kind.Bool tokens = inr (record { text = codes "serial"; quoted = false }, refl, refl, refl)
typed true kind.Int4 tokens = inr (record { text = codes "serial"; quoted = false }, refl, refl, refl)
typed true kind.Int8 tokens = inr (record { text = codes "bigserial"; quoted = false }, refl, refl, refl)
typed true kind.Text tokens = inr (record { text = codes "serial"; quoted = false }, refl, refl, refl)
typed true kind.Moment tokens = inr (record { text = codes "serial"; quoted = false }, refl, refl, refl)
typed false kind.Bool tokens = inr (record { text = codes "bool"; quoted = false }, refl, refl, refl)
typed false kind.Int4 tokens = inr (record { text = codes "int4"; quoted = false }, refl, refl, refl)
typed false kind.Int8 tokens = inr (record { text = codes "int8"; quoted = false }, refl, refl, refl)
typed false kind.Text tokens = inr (record { text = codes "text"; quoted = false }, refl, refl, refl)
typed false kind.Moment tokens = inl (refl, refl)

-- a serial column is of int4 or int8
abbrev IsSerialKind : Truth → ColType → Type 0
IsSerialKind true k = (k ≡ kind.Int4) ⊎ (k ≡ kind.Int8)
IsSerialKind false k = Unit {0}

kind_is : (serial : Truth) (k : ColType) → IsSerialKind serial k → kind_of (type_by serial k) ≡ k
kind_is true k (inl e) = subst (λ k. kind_of (type_by true k) ≡ k) (sym e) refl
kind_is true k (inr e) = subst (λ k. kind_of (type_by true k) ≡ k) (sym e) refl
kind_is false kind.Bool s = refl
kind_is false kind.Int4 s = refl
kind_is false kind.Int8 s = refl
kind_is false kind.Text s = refl
kind_is false kind.Moment s = refl

pub serial_is : (serial : Truth) (k : ColType) → types.is_serial (type_by serial k) ≡ serial
serial_is true kind.Bool = refl
serial_is true kind.Int4 = refl
serial_is true kind.Int8 = refl
serial_is true kind.Text = refl
serial_is true kind.Moment = refl
serial_is false kind.Bool = refl
serial_is false kind.Int4 = refl
serial_is false kind.Int8 = refl
serial_is false kind.Text = refl
serial_is false kind.Moment = refl

key_kind_is : (serial : Truth) (k : ColType) → IsSerialKind serial k → is_key_kind k ≡ true → may_be_key (type_by serial k) ≡ true
key_kind_is true k (inl e) is = subst (λ k. may_be_key (type_by true k) ≡ true) (sym e) refl
key_kind_is true k (inr e) is = subst (λ k. may_be_key (type_by true k) ≡ true) (sym e) refl
key_kind_is false kind.Bool s is = absurd (true≢false (sym is))
key_kind_is false kind.Int4 s is = refl
key_kind_is false kind.Int8 s is = refl
key_kind_is false kind.Text s is = refl
key_kind_is false kind.Moment s is = absurd (true≢false (sym is))

-- ---- the column that is read

abbrev open_fill : Fill → Option Fill
open_fill fill.Nothing = None
open_fill fill.Serial = None
open_fill fill.Now = Some fill.Now
open_fill (fill.Constant v) = Some (fill.Constant v)

-- NOT NULL is written
abbrev needs : Truth → Truth → Truth → Truth
needs is_key nn serial = if is_key then false else (nn && not serial)

abbrev pub opened : Truth → ℕ → ColumnDef → OpenColumn
opened is_key number c = record {
  number = number;
  name = c.name;
  kind = type_by (is_serial c.fill) c.kind;
  not_null = needs is_key c.not_null (is_serial c.fill);
  key = is_key;
  fill = open_fill c.fill;
}

serial_kind : (c : ColumnDef) → IsFillOf c c.fill → IsSerialKind (is_serial c.fill) c.kind
serial_kind c is = go c.fill is
  where
    go : (f : Fill) → IsFillOf c f → IsSerialKind (is_serial f) c.kind
    go fill.Nothing i = tt
    go fill.Serial i = i.0
    go fill.Now i = tt
    go (fill.Constant v) i = tt

serial_not_null : (c : ColumnDef) (f : Fill) → IsFillOf c f → is_serial f ≡ true → c.not_null ≡ true
serial_not_null c fill.Nothing i s = absurd (true≢false (sym s))
serial_not_null c fill.Serial i s = i.1
serial_not_null c fill.Now i s = absurd (true≢false (sym s))
serial_not_null c (fill.Constant v) i s = absurd (true≢false (sym s))

null_is : (is_key nn serial : Truth) → (is_key ≡ true → nn ≡ true) → (serial ≡ true → nn ≡ true) → (needs is_key nn serial || (is_key || serial)) ≡ nn
null_is true nn serial k s = sym (k refl)
null_is false true true k s = refl
null_is false true false k s = refl
null_is false false true k s = sym (s refl)
null_is false false false k s = refl

fill_is : (f : Fill) (k : ColType) → fill_by (type_by (is_serial f) k) (open_fill f) ≡ f
fill_is f k = ap (λ t. if t then fill.Serial else fill_or_nothing (open_fill f)) (serial_is (is_serial f) k) ∙ go f
  where
    go : (f : Fill) → (if is_serial f then fill.Serial else fill_or_nothing (open_fill f)) ≡ f
    go fill.Nothing = refl
    go fill.Serial = refl
    go fill.Now = refl
    go (fill.Constant v) = refl

key_not_null : (is_key : Truth) (c : ColumnDef) → IsKeyIf is_key c → is_key ≡ true → c.not_null ≡ true
key_not_null true c k e = k.1
key_not_null false c k e = absurd (true≢false (sym e))

-- it is the column that was written
pub whole_is : (is_key numbered : Truth) (number : ℕ) (c : ColumnDef) → IsColumn is_key numbered c → whole_column (opened is_key number c) ≡ c
whole_is is_key numbered number c is =
    let serial = is_serial c.fill in
    ap (λ k. record { name = c.name; kind = k; not_null = needs is_key c.not_null serial || (is_key || types.is_serial (type_by serial c.kind)); fill = fill_by (type_by serial c.kind) (open_fill c.fill) })
    (kind_is serial c.kind (serial_kind c is.filled))
    ∙ ap (λ t. record { name = c.name; kind = c.kind; not_null = needs is_key c.not_null serial || (is_key || t); fill = fill_by (type_by serial c.kind) (open_fill c.fill) })
    (serial_is serial c.kind)
    ∙ ap (λ n. record { name = c.name; kind = c.kind; not_null = n; fill = fill_by (type_by serial c.kind) (open_fill c.fill) })
    (null_is is_key c.not_null serial (key_not_null is_key c is.key) (serial_not_null c c.fill is.filled))
    ∙ ap (λ f. record { name = c.name; kind = c.kind; not_null = c.not_null; fill = f }) (fill_is c.fill c.kind)

-- ---- its parts

-- the bytes are parts that lead from this column to that, and then the tokens
abbrev ReadParts : ℕ → OpenTable → OpenColumn → List ℕ → OpenColumn → List AnyToken → Type 0
ReadParts most table column bytes more tokens = (mid : List AnyToken) × AreRead bytes mid × (length mid ≤ most + length tokens)
    × ((count : ℕ) × PartsOf count table column mid more tokens)

-- behind a type and its rule
abbrev ruled : ℕ → List ℕ → ColumnType → Truth → Truth → OpenColumn
ruled number called k nn is_key = record { number = number; name = called; kind = k; not_null = nn; key = is_key; fill = None }

module _ (table : OpenTable) (number : ℕ) (called : List ℕ) (k : ColumnType) (nn is_key : Truth) where
  nothing_filled : (text rest : List ℕ) (tokens : List AnyToken) → text ≡ [] → AreRead rest tokens → ReadParts 4 table (ruled number called k nn is_key) (text ++ rest) (ruled number called k nn is_key) tokens
  nothing_filled text rest tokens is others = subst (λ t. ReadParts 4 table (ruled number called k nn is_key) (t ++ rest) (ruled number called k nn is_key) tokens) (sym is) (tokens, others, omega arith, (zero, (refl, refl)))

  default_filled : (f : Fill) (bytes : List ℕ) (tokens : List AnyToken) → types.is_serial k ≡ false → ReadFill (kind_of k) f bytes tokens
      → ReadParts 4 table (ruled number called k nn is_key) (32 ∷ (codes "DEFAULT" ++ (32 ∷ bytes))) (with_fill (ruled number called k nn is_key) f) tokens
  default_filled f bytes tokens plain (mid, read, few, is) = (
    token.Word words.Default ∷ mid,
    spaced_word words.Default (32 ∷ bytes) mid refl (space_read bytes mid read),
    omega (arith, few),
    (1, (with_fill (ruled number called k nn is_key) f, tokens, filled mid f refl (ap (λ t. not (t || false)) plain) is refl, (refl, refl))),
  )

  fill_read : (c : ColumnDef) (f : Fill) (text rest : List ℕ) (tokens : List AnyToken) → IsFillText f text → IsFillOf c f → kind_of k ≡ c.kind → types.is_serial k ≡ is_serial f → IsCalm rest → AreRead rest tokens
      → ReadParts 4 table (ruled number called k nn is_key) (text ++ rest) (record { number = number; name = called; kind = k; not_null = nn; key = is_key; fill = open_fill f }) tokens
  fill_read c fill.Nothing text rest tokens is of same serial calm others = nothing_filled text rest tokens is others
  fill_read c fill.Serial text rest tokens is of same serial calm others = nothing_filled text rest tokens is others
  fill_read c fill.Now text rest tokens is of same serial calm others =
      subst (λ t. ReadParts 4 table (ruled number called k nn is_key) (t ++ rest) (with_fill (ruled number called k nn is_key) fill.Now) tokens) (sym is)
      (default_filled fill.Now (codes "now()" ++ rest) tokens serial (subst (λ q. ReadFill q fill.Now (codes "now()" ++ rest) tokens) (sym (same ∙ of)) (now_read rest tokens others)))
  fill_read c (fill.Constant v) text rest tokens (constant, shown, is) of same serial calm others =
      subst (λ t. ReadParts 4 table (ruled number called k nn is_key) (t ++ rest) (with_fill (ruled number called k nn is_key) (fill.Constant v)) tokens) (sym is)
      (default_filled (fill.Constant v) (constant ++ rest) tokens serial
      (subst (λ q. ReadFill q (fill.Constant v) (constant ++ rest) tokens) (sym same) (constant_read c.kind v constant rest tokens shown of calm others)))

calm_fill : (f : Fill) (text rest : List ℕ) → IsFillText f text → IsCalm rest → IsCalm (text ++ rest)
calm_fill fill.Nothing text rest is calm = subst (λ t. IsCalm (t ++ rest)) (sym is) calm
calm_fill fill.Serial text rest is calm = subst (λ t. IsCalm (t ++ rest)) (sym is) calm
calm_fill fill.Now text rest is calm = subst (λ t. IsCalm (t ++ rest)) (sym is) refl
calm_fill (fill.Constant v) text rest (constant, shown, is) calm = subst (λ t. IsCalm (t ++ rest)) (sym is) refl

abbrev rule_by : Truth → Truth → Truth → List ℕ
rule_by is_key nn serial = if is_key then codes " PRIMARY KEY" else if nn && not serial then codes " NOT NULL" else []

calm_rule : (is_key test : Truth) (rest : List ℕ) → IsCalm rest → IsCalm ((if is_key then codes " PRIMARY KEY" else if test then codes " NOT NULL" else []) ++ rest)
calm_rule true test rest calm = refl
calm_rule false true rest calm = refl
calm_rule false false rest calm = calm

-- PRIMARY KEY or NOT NULL, in front of other parts
rule_read : (table : OpenTable) (number : ℕ) (called : List ℕ) (k : ColumnType) (is_key test : Truth) (bytes : List ℕ) (more : OpenColumn) (tokens : List AnyToken)
    → (is_key ≡ true → may_be_key k ≡ true) → (is_key ≡ true → table.key ≡ None) → IsCalm bytes
    → ReadParts 4 table (ruled number called k (if is_key then false else test) is_key) bytes more tokens
    → ReadParts 6 table (bare_column number called k) ((if is_key then codes " PRIMARY KEY" else if test then codes " NOT NULL" else []) ++ bytes) more tokens
rule_read table number called k true test bytes more tokens may free calm (mid, read, few, (count, parts)) =
    let allowed : may_take_key table (bare_column number called k) ≡ true =
    ap (λ t. t && not (is_some table.key)) (may refl) ∙ ap (λ o. not (is_some o)) (free refl) in (
      token.Word words.Primary ∷ token.Word words.Key ∷ mid,
      spaced_word words.Primary (32 ∷ (codes "KEY" ++ bytes)) (token.Word words.Key ∷ mid) refl (spaced_word words.Key bytes mid (calm_name bytes calm) read),
      omega (arith, few),
      (suc count, (ruled number called k false true, mid, key refl allowed refl, parts)),
    )
rule_read table number called k false true bytes more tokens may free calm (mid, read, few, (count, parts)) = (
  token.Word words.Not ∷ token.Word words.Null ∷ mid,
  spaced_word words.Not (32 ∷ (codes "NULL" ++ bytes)) (token.Word words.Null ∷ mid) refl (spaced_word words.Null bytes mid (calm_name bytes calm) read),
  omega (arith, few),
  (suc count, (ruled number called k true false, mid, not_null refl refl refl, parts)),
)
rule_read table number called k false false bytes more tokens may free calm (mid, read, few, (count, parts)) = (mid, read, omega (arith, few), (count, parts))

-- ---- a column

-- the bytes are a column more, and then the tokens
abbrev pub ReadColumn : OpenTable → List ℕ → OpenTable → List AnyToken → Type 0
ReadColumn table bytes more tokens = (mid : List AnyToken) × AreRead bytes mid × (length mid ≤ 8 + length tokens) × ColumnOf table mid more tokens

key_kind_if : (is_key : Truth) (c : ColumnDef) → IsKeyIf is_key c → is_key ≡ true → is_key_kind c.kind ≡ true
key_kind_if true c k e = k.0
key_kind_if false c k e = absurd (true≢false (sym e))

may_type : (table : OpenTable) (k : ColumnType) (serial : Truth) → types.is_serial k ≡ serial → (serial ≡ true → table.serial ≡ None) → may_take_type table k ≡ true
may_type table k true is free = ap (λ t. not (t && is_some table.serial)) is ∙ ap (λ o. not (is_some o)) (free refl)
may_type table k false is free = ap (λ t. not (t && is_some table.serial)) is

pub column_read : (table : OpenTable) (is_key numbered : Truth) (c : ColumnDef) (text rest : List ℕ) (tokens : List AnyToken) → IsColumnText is_key c text → IsColumn is_key numbered c
    → has_column c.name table.columns ≡ false → (is_key ≡ true → table.key ≡ None) → (numbered ≡ true → table.serial ≡ None) → IsCalm rest → AreRead rest tokens
    → ReadColumn table (text ++ rest) (with_column table (opened is_key (length table.columns) c)) tokens
column_read table is_key numbered c text rest tokens (default, is_default, is) allowed new free numbers calm others =
    let serial = is_serial c.fill in
    let k = type_by serial c.kind in
    let n = length table.columns in
    let kinds = serial_kind c allowed.filled in
    let nn = needs is_key c.not_null serial in
    let after = calm_fill c.fill default rest is_default calm in
    let parts = rule_read table n c.name k is_key (c.not_null && not serial) (default ++ rest) (opened is_key n c) tokens
    (λ e. key_kind_is serial c.kind kinds (key_kind_if is_key c allowed.key e)) free after
    (fill_read table n c.name k nn is_key c c.fill default rest tokens is_default allowed.filled (kind_is serial c.kind kinds) (serial_is serial c.kind) calm others) in
    let ruled_bytes = rule_text is_key c ++ (default ++ rest) in
    let typed_read = type_read serial c.kind ruled_bytes parts.0 (calm_rule is_key (c.not_null && not serial) (default ++ rest) after) parts.1 in
    let read = name_read c.name (32 ∷ (type_by_text serial c.kind ++ ruled_bytes)) (type_token serial c.kind ∷ parts.0) allowed.named refl
    (space_read (type_by_text serial c.kind ++ ruled_bytes) (type_token serial c.kind ∷ parts.0) typed_read) in
    let few = parts.2 in
    let flat : text ++ rest ≡ spelled (name c.name) ++ (32 ∷ (type_by_text serial c.kind ++ ruled_bytes)) =
    ap (λ t. t ++ rest) is
    ∙ append_assoc (spelled (name c.name)) (32 ∷ (type_by_text serial c.kind ++ (rule_text is_key c ++ default))) rest
    ∙ ap (λ t. spelled (name c.name) ++ (32 ∷ t)) (append_assoc (type_by_text serial c.kind) (rule_text is_key c ++ default) rest
    ∙ ap (λ t. type_by_text serial c.kind ++ t) (append_assoc (rule_text is_key c) default rest)) in
    subst (λ bytes. ReadColumn table bytes (with_column table (opened is_key n c)) tokens) (sym flat) (
      name_of c.name ∷ type_token serial c.kind ∷ parts.0,
      read,
      omega (arith, few),
      record {
        name = record { text = c.name; quoted = not (is_plain c.name) };
        behind_name = type_token serial c.kind ∷ parts.0;
        kind = k;
        behind_type = parts.0;
        count = parts.3.0;
        column = opened is_key n c;
        named = refl;
        is_new = new;
        typed = typed serial c.kind parts.0;
        may = may_type table k serial (serial_is serial c.kind) (λ e. numbers (sym allowed.numbered ∙ e));
        parts = parts.3.1;
        made = refl;
      },
    )
