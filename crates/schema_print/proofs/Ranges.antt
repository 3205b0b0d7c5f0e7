-- What a text says has only moments in their range.
use Rattle.std.proofs.Common.{◌≡◌, ◌∙◌, ℕ, zero, suc, ℤ, Bool as Truth, true, false, List, [], ◌∷◌, ◌++◌, refl, sym, ap, subst, if◌then◌else◌, Option, Some, None}
use Rattle.std.specs.List.{AllByRecursion}
use Rattle.sql_tokens.specs.declared.token.Token.{Token as AnyToken}
use Rattle.pg_values.specs.declared.col_type.ColType.{ColType}
use Rattle.pg_values.specs.declared.col_type.ColType.TheVariants as kind
use Rattle.pg_values.specs.declared.value.Value.{Value}
use Rattle.pg_values.specs.declared.value.Value.TheVariants as value
use Rattle.pg_values.specs.Answers.{ReadsText}
use Rattle.schema.specs.declared.catalogue.ColumnDef.{ColumnDef}
use Rattle.schema.specs.declared.catalogue.Fill.{Fill}
use Rattle.schema.specs.declared.catalogue.Fill.TheVariants as fill
use Rattle.schema.specs.declared.catalogue.TableDef.{TableDef}
use Rattle.schema.specs.declared.open.OpenColumn.{OpenColumn}
use Rattle.schema.specs.declared.open.OpenTable.{OpenTable}
use Rattle.schema.specs.Types.{is_serial}
use Rattle.schema.specs.Values.{is_within, number_value, truth_value, StringValue}
use Rattle.schema.specs.Open.{with_column, whole_column, whole_table_with, fill_or_nothing}
use Rattle.schema.specs.Grammar.{FillOf, number, negative, least, string, truth, falsehood, null, now, current, PartOf, not_null, key, filled, PartsOf, ColumnOf, ColumnsOf, TableOf, TablesOf}
use Rattle.schema.specs.Ranges.{IsFillInRange, AreColumnsInRange, AreInRange}

abbrev InRange : Value → Type 0
InRange v = IsFillInRange (fill.Constant v)

some_of : {A : Type 0} (P : A → Type 0) (test : Truth) (x v : A) → (if test then Some x else None) ≡ Some v → P x → P v
some_of P true x v e p = let q : Some x ≡ Some v = e in let same : x ≡ v = cc in subst P same p
some_of P false x v e p = let never : None ≡ Some v = e in absurd (cc)

of_number : (of : ColType) (n : ℤ) (v : Value) → number_value of n ≡ Some v → InRange v
of_number kind.Int4 n v e = some_of InRange _ (value.Int4 n) v e tt
of_number kind.Int8 n v e = some_of InRange _ (value.Int8 n) v e tt
of_number kind.Bool n v e = let never : None ≡ Some v = e in absurd (cc)
of_number kind.Text n v e = let never : None ≡ Some v = e in absurd (cc)
of_number kind.Moment n v e = let never : None ≡ Some v = e in absurd (cc)

of_truth : (of : ColType) (t : Truth) (v : Value) → truth_value of t ≡ Some v → InRange v
of_truth kind.Bool t v e = some_of InRange true (value.Bool t) v e tt
of_truth kind.Int4 t v e = let never : None ≡ Some v = e in absurd (cc)
of_truth kind.Int8 t v e = let never : None ≡ Some v = e in absurd (cc)
of_truth kind.Text t v e = let never : None ≡ Some v = e in absurd (cc)
of_truth kind.Moment t v e = let never : None ≡ Some v = e in absurd (cc)

of_string : (of : ColType) (s : List ℕ) (v : Value) → StringValue of s (Some v) → InRange v
of_string kind.Text s v is = some_of InRange true (value.Text s) v (sym is) tt
of_string kind.Bool s v (plain, (t, spelled, is)) = subst InRange (sym is) tt
of_string kind.Int4 s v (plain, (n, spelled, fits, is)) = subst InRange (sym is) tt
of_string kind.Int8 s v (plain, (n, spelled, fits, is)) = subst InRange (sym is) tt
of_string kind.Moment s v (plain, (w, spelled, fields, moment, is)) = subst InRange (sym is) moment

fill_range : (of : ColType) (ts : List AnyToken) (f : Fill) (rest : List AnyToken) → FillOf of ts f rest → IsFillInRange f
fill_range of ts f rest (number n v t is e) = subst IsFillInRange (sym e) (of_number of n v is)
fill_range of ts f rest (negative n v t is e) = subst IsFillInRange (sym e) (of_number of _ v is)
fill_range of ts f rest (least v t is e) = subst IsFillInRange (sym e) (of_number of _ v is)
fill_range of ts f rest (string s v t is e) = subst IsFillInRange (sym e) (of_string of s v is)
fill_range of ts f rest (truth v t is e) = subst IsFillInRange (sym e) (of_truth of true v is)
fill_range of ts f rest (falsehood v t is e) = subst IsFillInRange (sym e) (of_truth of false v is)
fill_range of ts f rest (null t e) = subst IsFillInRange (sym e) tt
fill_range of ts f rest (now n t is k e) = subst IsFillInRange (sym e) tt
fill_range of ts f rest (current t k e) = subst IsFillInRange (sym e) tt

abbrev IsOpenInRange : Option Fill → Type 0
IsOpenInRange None = Unit {0}
IsOpenInRange (Some f) = IsFillInRange f

part_range : (table : OpenTable) (column : OpenColumn) (ts : List AnyToken) (more : OpenColumn) (rest : List AnyToken) → PartOf table column ts more rest → IsOpenInRange column.fill → IsOpenInRange more.fill
part_range table column ts more rest (not_null t n e) h = subst (λ (c : OpenColumn). IsOpenInRange c.fill) (sym e) h
part_range table column ts more rest (key t n e) h = subst (λ (c : OpenColumn). IsOpenInRange c.fill) (sym e) h
part_range table column ts more rest (filled mid f t n is e) h = subst (λ (c : OpenColumn). IsOpenInRange c.fill) (sym e) (fill_range _ mid f rest is)

parts_range : (count : ℕ) (table : OpenTable) (column : OpenColumn) (ts : List AnyToken) (more : OpenColumn) (rest : List AnyToken) → PartsOf count table column ts more rest → IsOpenInRange column.fill → IsOpenInRange more.fill
parts_range zero table column ts more rest (same, e) h = subst (λ (c : OpenColumn). IsOpenInRange c.fill) (sym e) h
parts_range (suc count) table column ts more rest (next, mid, part, parts) h = parts_range count table next mid more rest parts (part_range table column ts next mid part h)

whole_range : (column : OpenColumn) → IsOpenInRange column.fill → IsFillInRange (whole_column column).fill
whole_range column h = go (is_serial column.kind)
  where
    open_range : (o : Option Fill) → IsOpenInRange o → IsFillInRange (fill_or_nothing o)
    open_range None i = tt
    open_range (Some f) i = i

    go : (t : Truth) → IsFillInRange (if t then fill.Serial else fill_or_nothing column.fill)
    go true = tt
    go false = open_range column.fill h

all_push : {A : Type 0} (P : A → Type 0) (xs : List A) (x : A) → AllByRecursion P xs → P x → AllByRecursion P (xs ++ x ∷ [])
all_push P [] x all p = (p, tt)
all_push P (y ∷ xs) x all p = (all.0, all_push P xs x all.1 p)

column_range : (table : OpenTable) (ts : List AnyToken) (more : OpenTable) (rest : List AnyToken) → ColumnOf table ts more rest → AreColumnsInRange table.columns → AreColumnsInRange more.columns
column_range table ts more rest c h =
    subst (λ (t : OpenTable). AreColumnsInRange t.columns) (sym c.made)
    (all_push (λ (d : ColumnDef). IsFillInRange d.fill) table.columns (whole_column c.column) h
    (whole_range c.column (parts_range c.count table _ c.behind_type c.column rest c.parts tt)))

columns_range : (count : ℕ) (table : OpenTable) (ts : List AnyToken) (more : OpenTable) (rest : List AnyToken) → ColumnsOf count table ts more rest → AreColumnsInRange table.columns → AreColumnsInRange more.columns
columns_range zero table ts more rest c h = column_range table ts more rest c h
columns_range (suc count) table ts more rest (next, mid, c, others) h = columns_range count next mid more rest others (column_range table ts next _ c h)

ended : (table : OpenTable) (key : Option ℕ) (whole : TableDef) → whole_table_with table key ≡ Some whole → AreColumnsInRange table.columns → AreColumnsInRange whole.columns
ended table None whole e h = let never : None ≡ Some whole = e in absurd (cc)
ended table (Some k) whole e h = some_of (λ (t : TableDef). AreColumnsInRange t.columns) true (record { name = table.name; columns = table.columns; key = k; serial = table.serial }) whole e h

pub tables_range : (before : List TableDef) (ts : List AnyToken) (tables : List TableDef) (rest : List AnyToken) → TablesOf before ts tables rest → AreInRange tables
tables_range before ts [] rest t = tt
tables_range before ts (table ∷ tables) rest (mid, t, others) =
    (ended t.read t.read.key table t.has_key (columns_range t.count _ t.inner t.read _ t.columns tt), tables_range (before ++ table ∷ []) mid tables rest others)
