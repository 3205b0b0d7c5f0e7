-- Columns one after the other, of a table that grows by one.
use Rattle.std.proofs.Common.{◌≡◌, ◌<◌, ◌≤◌, ◌+◌, ℕ, Bool as Truth, true, false, List, [], ◌∷◌, ◌++◌, length, refl, sym, subst, Option, Some, None, append_assoc, length-append, arith}
use Rattle.std.specs.Prelude.{is_some}
use Rattle.std.proofs.lemmas.Bool.{ne_eqb, eq-eqb, true≢false}
use Rattle.std.proofs.lemmas.List.{append-nil}
use Rattle.schema.specs.declared.catalogue.ColumnDef.{ColumnDef}
use Rattle.schema.specs.Open.{has_column, number_or}
use Rattle.schema.specs.Allowed.{IsColumn, is_at, AreColumns, IsBelow}

-- behind these columns one may stand, of a table with this key and this serial column, if it has them yet
abbrev pub IsNext : Option ℕ → Option ℕ → List ColumnDef → ColumnDef → Type 0
IsNext key serial before column = IsColumn (is_at (length before) key) (is_at (length before) serial) column × (has_column column.name before ≡ false)

abbrev pub AreNext : Option ℕ → Option ℕ → List ColumnDef → List ColumnDef → Type 0
AreNext key serial before [] = Unit {0}
AreNext key serial before (column ∷ columns) = IsNext key serial before column × AreNext key serial (before ++ column ∷ []) columns

-- up to this number, both are the same column
abbrev pub Agree : ℕ → Option ℕ → Option ℕ → Type 0
Agree most one other = (i : ℕ) → i < most → is_at i one ≡ is_at i other

longer : (before columns : List ColumnDef) (column : ColumnDef) (one other : Option ℕ) → Agree (length (before ++ column ∷ columns)) one other → Agree (length ((before ++ column ∷ []) ++ columns)) one other
longer before columns column one other agree = subst (λ (cs : List ColumnDef). Agree (length cs) one other) (sym (append_assoc before (column ∷ []) columns)) agree

pub same_columns : (key new_key serial new_serial : Option ℕ) (before columns : List ColumnDef) → Agree (length (before ++ columns)) key new_key → Agree (length (before ++ columns)) serial new_serial
    → AreNext key serial before columns → AreNext new_key new_serial before columns
same_columns key new_key serial new_serial before [] keys serials all = tt
same_columns key new_key serial new_serial before (column ∷ columns) keys serials ((is, new), others) =
    let long = length-append before (column ∷ columns) in
    let low : length before < length (before ++ column ∷ columns) = omega (arith, long) in
    let with_key = subst (λ (t : Truth). IsColumn t (is_at (length before) serial) column) (keys (length before) low) is in (
      (subst (λ (t : Truth). IsColumn (is_at (length before) new_key) t column) (serials (length before) low) with_key, new),
      same_columns key new_key serial new_serial (before ++ column ∷ []) columns
          (longer before columns column key new_key keys) (longer before columns column serial new_serial serials) others,
    )

pub one_more : (key serial : Option ℕ) (before columns : List ColumnDef) (column : ColumnDef) → AreNext key serial before columns → IsNext key serial (before ++ columns) column
    → AreNext key serial before (columns ++ column ∷ [])
one_more key serial before [] column all next = (subst (λ (cs : List ColumnDef). IsNext key serial cs column) (append-nil before) next, tt)
one_more key serial before (first ∷ columns) column (is, others) next = (
  is,
  one_more key serial (before ++ first ∷ []) columns column others
      (subst (λ (cs : List ColumnDef). IsNext key serial cs column) (sym (append_assoc before (first ∷ []) columns)) next),
)

-- of a whole table
pub all_columns : (key : ℕ) (serial : Option ℕ) (before columns : List ColumnDef) → AreNext (Some key) serial before columns → AreColumns key serial before columns
all_columns key serial before [] all = tt
all_columns key serial before (column ∷ columns) ((is, new), others) = (is, new, all_columns key serial (before ++ column ∷ []) columns others)

-- ---- the number of the key, and of the serial column

other_number : (i n : ℕ) (o : Option ℕ) → IsBelow n o → n ≤ i → is_at i o ≡ false
other_number i n None below high = refl
other_number i n (Some k) below high = ne_eqb i k (λ e. absurd (omega (arith, below, high, e)))

-- it stays, where it was
pub stays : (test : Truth) (n : ℕ) (o : Option ℕ) → (test ≡ true → is_some o ≡ false) → Agree n o (number_or test n o)
stays false n o free i low = refl
stays true n None free i low = sym (ne_eqb i n (λ e. absurd (omega (arith, low, e))))
stays true n (Some k) free i low = absurd (true≢false (free refl))

-- it is the new column's, where the test holds
pub is_new : (test : Truth) (n : ℕ) (o : Option ℕ) → IsBelow n o → is_at n (number_or test n o) ≡ test
is_new true n o below = eq-eqb n n refl
is_new false n o below = other_number n n o below (omega arith)

pub below_next : (test : Truth) (n : ℕ) (o : Option ℕ) → IsBelow n o → IsBelow (n + 1) (number_or test n o)
below_next true n o below = let low : n < n + 1 = omega arith in low
below_next false n None below = tt
below_next false n (Some k) below = let low : k < n + 1 = omega (arith, below) in low
