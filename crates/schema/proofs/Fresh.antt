-- A name that no table and no column has.
use Rattle.std.proofs.Common.{◌≡◌, ℕ, suc, ◌<◌, ◌+◌, Bool as Truth, true, false, ◌||◌, List, [], ◌∷◌, length, replicate, refl, ap, ◌∙◌, arith, bytes_eq}
use Rattle.std.proofs.lemmas.List.{length-replicate}
use Rattle.std.proofs.lemmas.Slice.Eq.{bytes_eq-Decides}
use Rattle.schema.specs.declared.catalogue.ColumnDef.{ColumnDef}
use Rattle.schema.specs.declared.catalogue.TableDef.{TableDef}
use Rattle.schema.specs.Open.{has_table, has_column}

clash : (a b : List ℕ) → length a < length b → bytes_eq a b ≡ false
clash a b h = by (bytes_eq a b) refl where
  by : (t : Truth) → bytes_eq a b ≡ t → bytes_eq a b ≡ false
  by false e = e
  by true e = let same : length a ≡ length b = ap length ((bytes_eq-Decides a b).0 e) in absurd (omega arith)

-- a name of so many bytes and one
pub long : ℕ → List ℕ
long n = replicate (suc n) 97

long_is : (n : ℕ) → length (long n) ≡ suc n
unfolding long
long_is n = length-replicate (suc n) 97

no_other : (a b : Truth) → a ≡ false → b ≡ false → (a || b) ≡ false
no_other a b e f = ap (λ (x : Truth). x || b) e ∙ f

pub column_bytes : List ColumnDef → ℕ
column_bytes [] = 0
column_bytes (c ∷ cs) = length c.name + column_bytes cs

no_column : (name : List ℕ) (cs : List ColumnDef) → column_bytes cs < length name → has_column name cs ≡ false
unfolding column_bytes
no_column name [] h = refl
no_column name (c ∷ cs) h = no_other (bytes_eq c.name name) (has_column name cs) (clash c.name name (omega arith)) (no_column name cs (omega arith))

pub new_column : (cs : List ColumnDef) → has_column (long (column_bytes cs)) cs ≡ false
new_column cs = let e : length (long (column_bytes cs)) ≡ suc (column_bytes cs) = long_is (column_bytes cs) in no_column (long (column_bytes cs)) cs (omega arith)

pub table_bytes : List TableDef → ℕ
table_bytes [] = 0
table_bytes (t ∷ ts) = length t.name + table_bytes ts

no_table : (name : List ℕ) (ts : List TableDef) → table_bytes ts < length name → has_table name ts ≡ false
unfolding table_bytes
no_table name [] h = refl
no_table name (t ∷ ts) h = no_other (bytes_eq t.name name) (has_table name ts) (clash t.name name (omega arith)) (no_table name ts (omega arith))

pub new_table : (ts : List TableDef) → has_table (long (table_bytes ts)) ts ≡ false
new_table ts = let e : length (long (table_bytes ts)) ≡ suc (table_bytes ts) = long_is (table_bytes ts) in no_table (long (table_bytes ts)) ts (omega arith)
