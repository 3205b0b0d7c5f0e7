-- Rows and columns that a message has room for.
use Rattle.std.proofs.Common.{◌≡◌, ◌≢◌, ℕ, ◌+◌, ◌*◌, ◌/◌, ◌%◌, ◌^◌, ◌<◌, ◌≤◌, suc, zero, ℤ, pos, neg_ℤ, List, [], ◌∷◌, ◌++◌, length, map, take, get_or, refl, sym, ap, ◌∙◌, subst, arith, codes, lit≤}
use Rattle.std.specs.Prelude.{◌&&◌, ◌==◌, T, Bool as Truth, true, false, nat_le, if◌then◌else◌, Option, Some, sum, FitsSigned}
use Rattle.std.specs.Int.{w32, w64}
use Rattle.std.specs.Int.Signed.{le_z, le_z_yes}
use Rattle.std.specs.List.{All, AllZip, flat_map, list_all}
use Rattle.std.specs.Fmt.{signed_decimal}
use lib.Signed.{mag}
use Rattle.std.proofs.lemmas.List.{length-append, length-map, take_more, take_all}
use Rattle.std.proofs.lemmas.List.Elements.{All-nil, All-cons, All-head, All-tail}
use Rattle.std.proofs.lemmas.List.Sums.{AllPass-from_list_all, sum_by-cons}
use Rattle.std.proofs.lemmas.Slice.Zip.{AllZip-long}
use Rattle.std.proofs.lemmas.Fmt.{length_signed_le}
use Rattle.std.proofs.lemmas.Bool.{false≢true}
use borrow.Author.Tests.{leb-true}
use Rattle.pg_values.specs.declared.col_type.ColType.{ColType}
use Rattle.pg_values.specs.declared.value.Value.{Value}
use Rattle.pg_values.specs.declared.value.Value.TheVariants as values
use Rattle.pg_values.specs.Digits.{fixed, shortest}
use Rattle.pg_values.specs.Moments.{IsPrintedMoment, micros_text}
use Rattle.pg_values.specs.Range.{HasNoZero, IsInRange, IsMoment}
use Rattle.pg_values.specs.Text.{IsTextOf}
use Rattle.checked_sql.specs.Sound.{are_fit, has_no_zero, is_moment, is_some_byte, is_value}
use Rattle.catalogue.specs.declared.checked.ColumnDesc.{ColumnDesc}
use Rattle.sql_eval.specs.declared.row.Row.{Row}
use Rattle.sql_eval.specs.Reads.{cell_size, row_size}
use Rattle.backend_trait.specs.Typed.{has_columns}
use Rattle.pg_messages.specs.declared.server.ServerMessage.{ServerMessage}
use Rattle.pg_messages.specs.declared.server.ServerMessage.TheVariants.{RowDescription, DataRow}
use Rattle.pg_messages.specs.Fields.{FieldFits, field, int16, int32, value}
use Rattle.pg_messages.specs.Server.{Fits}
use Rattle.play.specs.Answering.{AreNamed, IsCellText, IsHeld, IsNamed, IsRowInRange}
use Rattle.play.specs.Replies.{IsRowMessage, Sent, field_of, fields_of}
use Rattle.play.proofs.SendingLemmas.{no_zero_is, sent_none, sent_on}

-- ---- tests

both_of : (a b : Truth) → (a && b) ≡ true → (a ≡ true) × (b ≡ true)
both_of true b is = (refl, is)
both_of false b is = absurd (false≢true is)

pub is_at : {A : Type 0} (test : A → Truth) (xs : List A) (i : ℕ) (x : A) → list_all test xs ≡ true → i < length xs → x ≡ get_or xs i x → test x ≡ true
is_at test xs i x all below is = subst (λ y. test y ≡ true) (sym is) (AllPass-from_list_all test xs all i x below)

-- ---- values in their ranges

some_byte : (b : ℕ) → is_some_byte b ≡ true → b ≢ 0
some_byte zero is = absurd (false≢true is)
some_byte (suc b) is = λ never. absurd (cc)

pub no_zero : (text : List ℕ) → has_no_zero text ≡ true → HasNoZero text
no_zero [] is = All-nil (λ b. b ≢ 0)
no_zero (b ∷ text) is =
    let both = both_of (is_some_byte b) (has_no_zero text) is in
    All-cons (λ b. b ≢ 0) b text (some_byte b both.0) (no_zero text both.1)

in_years : (m : ℤ) → is_moment m ≡ true → IsMoment m
in_years m is =
    let both = both_of (le_z (neg_ℤ (pos 63_082_281_600_000_000)) m) (le_z m (pos 252_455_615_999_999_999)) is in
    (le_z_yes (subst T (sym both.0) tt), le_z_yes (subst T (sym both.1) tt))

value_in_range : (kind : ColType) (v : Value) → is_value kind v ≡ true → IsInRange v
value_in_range kind values.Null is = tt
value_in_range kind (values.Bool truth) is = tt
value_in_range kind (values.Int4 number) is = tt
value_in_range kind (values.Int8 number) is = tt
value_in_range kind (values.Text text) is = no_zero text (both_of _ (has_no_zero text) is).1
value_in_range kind (values.Moment micros) is = in_years micros (both_of _ (is_moment micros) is).1

values_in_range : (kinds : List ColType) (vs : List Value) → are_fit kinds vs ≡ true → All IsInRange vs
values_in_range [] [] is = All-nil IsInRange
values_in_range [] (v ∷ vs) is = absurd (false≢true is)
values_in_range (kind ∷ kinds) [] is = absurd (false≢true is)
values_in_range (kind ∷ kinds) (v ∷ vs) is =
    let both = both_of (is_value kind v) (are_fit kinds vs) is in
    All-cons IsInRange v vs (value_in_range kind v both.0) (values_in_range kinds vs both.1)

as_many : (kinds : List ColType) (vs : List Value) → are_fit kinds vs ≡ true → length vs ≡ length kinds
as_many [] [] is = refl
as_many [] (v ∷ vs) is = absurd (false≢true is)
as_many (kind ∷ kinds) [] is = absurd (false≢true is)
as_many (kind ∷ kinds) (v ∷ vs) is = ap suc (as_many kinds vs (both_of (is_value kind v) (are_fit kinds vs) is).1)

abbrev kinds_in : List ColumnDesc → List ColType
kinds_in columns = map (λ c. c.kind) columns

pub row_in_range : (columns : List ColumnDesc) (row : Row) → has_columns columns row ≡ true → IsRowInRange row
row_in_range columns row is = values_in_range (kinds_in columns) row.cells (both_of (are_fit (kinds_in columns) row.cells) (nat_le (row_size row) 1048000) is).0

pub row_is_small : (columns : List ColumnDesc) (row : Row) → has_columns columns row ≡ true → row_size row ≤ 1048000
row_is_small columns row is = leb-true (row_size row) 1048000 (both_of (are_fit (kinds_in columns) row.cells) (nat_le (row_size row) 1048000) is).1

pub row_is_countable : (columns : List ColumnDesc) (row : Row) → has_columns columns row ≡ true → AreNamed columns → length row.cells ≤ 1664
row_is_countable columns row is named =
    let same : length row.cells ≡ length (kinds_in columns) = as_many (kinds_in columns) row.cells (both_of (are_fit (kinds_in columns) row.cells) (nat_le (row_size row) 1048000) is).0 in
    let few : length columns ≤ 1664 = named.0 in
    let kept : length (kinds_in columns) ≡ length columns = length-map columns (λ c. c.kind) in
    omega (arith, same, few, kept)

-- ---- the room that values take

number_short : (z : ℤ) → mag z < 2 ^ 63 → length (signed_decimal z) ≤ 21
number_short z small = let big : 2 ^ 63 + 1 ≤ 10 ^ 20 = lit≤ tt in length_signed_le 20 z (omega arith) small

number_room : (z : ℤ) → FitsSigned w64 z → length (signed_decimal z) ≤ 32
number_room z fits =
    let small : mag z < 2 ^ 63 = fits.sfits in
    let short : length (signed_decimal z) ≤ 21 = number_short z small in
    omega (arith, short)

fixed_long : (k n : ℕ) → length (fixed k n) ≡ k
fixed_long zero n = refl
fixed_long (suc k) n = ap suc (fixed_long k _)

shortest_long : (k n : ℕ) → length (shortest k n) ≤ k
shortest_long zero n = lit≤ tt
shortest_long (suc k) n = go (n == 0) (shortest_long k (n % 10 ^ k))
  where
    go : (b : Truth) → length (shortest k (n % 10 ^ k)) ≤ k → length (if b then [] else (48 + n / 10 ^ k) ∷ shortest k (n % 10 ^ k)) ≤ suc k
    go true h = omega arith
    go false h = omega (arith, h)

micros_long : (m : ℕ) → length (micros_text m) ≤ 7
micros_long m = go (m == 0)
  where
    go : (b : Truth) → length (if b then [] else 46 ∷ shortest 6 m) ≤ 7
    go true = lit≤ tt
    go false = let h : length (shortest 6 m) ≤ 6 = shortest_long 6 m in omega (arith, h)

moment_room : (m : ℤ) (text : List ℕ) → IsPrintedMoment m text → length text ≤ 32
moment_room m text (r, is, moment, printed) =
    let y : length (fixed 4 r.year) ≡ 4 = fixed_long 4 r.year in
    let a : length (fixed 2 r.month) ≡ 2 = fixed_long 2 r.month in
    let b : length (fixed 2 r.day) ≡ 2 = fixed_long 2 r.day in
    let c : length (fixed 2 r.hour) ≡ 2 = fixed_long 2 r.hour in
    let d : length (fixed 2 r.minute) ≡ 2 = fixed_long 2 r.minute in
    let e : length (fixed 2 r.second) ≡ 2 = fixed_long 2 r.second in
    let f : length (micros_text r.micros) ≤ 7 = micros_long r.micros in
    subst (λ (t : List ℕ). length t ≤ 32) (sym printed) (parts (fixed 4 r.year) (fixed 2 r.month) (fixed 2 r.day) (fixed 2 r.hour) (fixed 2 r.minute) (fixed 2 r.second) (micros_text r.micros) y a b c d e f)
  where
    parts : (y a b c d e f : List ℕ) → length y ≡ 4 → length a ≡ 2 → length b ≡ 2 → length c ≡ 2 → length d ≡ 2 → length e ≡ 2 → length f ≤ 7
        → length (y ++ (45 ∷ (a ++ (45 ∷ (b ++ (32 ∷ (c ++ (58 ∷ (d ++ (58 ∷ (e ++ (f ++ codes "+00")))))))))))) ≤ 32
    parts y a b c d e f p q r s t u v = simp length-append (omega arith)

two_bytes : (n : ℕ) → length (int16 n) ≡ 2
two_bytes n = refl

four_bytes : (n : ℕ) → length (int32 n) ≡ 4
four_bytes n = refl

some_room : (bytes : List ℕ) → length (value (Some bytes)) ≡ 4 + length bytes
some_room bytes = length-append (int32 (length bytes)) bytes ∙ ap (λ (k : ℕ). k + length bytes) (four_bytes (length bytes))

within_36 : (text : Option (List ℕ)) (bytes : List ℕ) → text ≡ Some bytes → length bytes ≤ 32 → length (value text) ≤ 36
within_36 text bytes is short = subst (λ (t : Option (List ℕ)). length (value t) ≤ 36) (sym is) (let e = some_room bytes in omega (arith, e, short))

truth_room : (truth : Truth) → length (if truth then codes "t" else codes "f") ≤ 32
truth_room true = lit≤ tt
truth_room false = lit≤ tt

int4_room : (z : ℤ) → FitsSigned w32 z → FitsSigned w64 z
int4_room z fits = let low : mag z < 2 ^ 31 = fits.sfits in record { sfits = omega (arith, low) }

room : (v : Value) (text : Option (List ℕ)) → IsHeld v → IsTextOf v text → length (value text) ≤ cell_size v
room values.Null text held is = subst (λ (t : Option (List ℕ)). length (value t) ≤ 36) (sym is) (let e = four_bytes 4294967295 in omega (arith, e))
room (values.Bool truth) text held is = within_36 text (if truth then codes "t" else codes "f") is (truth_room truth)
room (values.Int4 z) text held is = within_36 text (signed_decimal z) is (number_room z (int4_room z held))
room (values.Int8 z) text held is = within_36 text (signed_decimal z) is (number_room z held)
room (values.Text bytes) text held is = subst (λ (t : Option (List ℕ)). length (value t) ≤ length bytes + 4) (sym is) (let e = some_room bytes in omega (arith, e))
room (values.Moment m) text held (printed, is, moment) = within_36 text printed is (moment_room m printed moment)

pub cell_is : (v : Value) (text : Option (List ℕ)) → IsHeld v → IsTextOf v text → IsCellText v text
cell_is v text held is = (is, room v text held is)

-- ---- rows

pub zip_push : {A B : Type 0} (R : A → B → Type 0) (xs : List A) (ys : List B) (x : A) (y : B) → AllZip R xs ys → R x y → AllZip R (xs ++ x ∷ []) (ys ++ y ∷ [])
zip_push R [] [] x y all is = (is, tt)
zip_push R [] (b ∷ ys) x y all is = absurd all
zip_push R (a ∷ xs) [] x y all is = absurd all
zip_push R (a ∷ xs) (b ∷ ys) x y all is = (all.0, zip_push R xs ys x y all.1 is)

pub zip_more : {A B : Type 0} (R : A → B → Type 0) (xs : List A) (i : ℕ) (x : A) (ys : List B) (y : B) → i < length xs → x ≡ get_or xs i x → AllZip R (take i xs) ys → R x y → AllZip R (take (i + 1) xs) (ys ++ y ∷ [])
zip_more R xs i x ys y below is all one =
    let taken : take (i + 1) xs ≡ take i xs ++ x ∷ [] = take_more xs i x below ∙ ap (λ r. take i xs ++ r ∷ []) (sym is) in
    subst (λ zs. AllZip R zs (ys ++ y ∷ [])) (sym taken) (zip_push R (take i xs) ys x y all one)

texts_of : (vs : List Value) (texts : List (Option (List ℕ))) → AllZip IsCellText vs texts → AllZip IsTextOf vs texts
texts_of [] [] all = tt
texts_of [] (t ∷ texts) all = absurd all
texts_of (v ∷ vs) [] all = absurd all
texts_of (v ∷ vs) (t ∷ texts) all = (all.0.0, texts_of vs texts all.1)

cell_more : (whole one rest all cell cells : ℕ) → whole ≡ one + rest → all ≡ cell + cells → one ≤ cell → rest ≤ cells → whole ≤ all
cell_more whole one rest all cell cells e s p q = omega (arith, e, s, p, q)

cells_room : (vs : List Value) (texts : List (Option (List ℕ))) → AllZip IsCellText vs texts → length (flat_map value texts) ≤ sum (map cell_size vs)
cells_room [] [] all = lit≤ tt
cells_room [] (t ∷ texts) all = absurd all
cells_room (v ∷ vs) [] all = absurd all
cells_room (v ∷ vs) (t ∷ texts) all =
    cell_more (length (flat_map value (t ∷ texts))) (length (value t)) (length (flat_map value texts)) (sum (map cell_size (v ∷ vs))) (cell_size v) (sum (map cell_size vs))
    (length-append (value t) (flat_map value texts)) (sum_by-cons (λ n. n) (cell_size v) (map cell_size vs)) all.0.1 (cells_room vs texts all.1)

pub row_is : (row : Row) (texts : List (Option (List ℕ))) → AllZip IsCellText row.cells texts → IsRowMessage row (DataRow texts)
row_is row texts all = (texts, texts_of row.cells texts all, refl)

body_room : (a b : List ℕ) → length a ≡ 2 → length b ≤ 1048000 → length (a ++ b) + 4 ≤ 1048576
body_room a b p q = simp length-append (omega arith)

pub row_fits : (row : Row) (texts : List (Option (List ℕ))) → AllZip IsCellText row.cells texts → length row.cells ≤ 1664 → row_size row ≤ 1048000 → Fits (DataRow texts)
row_fits row texts all few small =
    let long : length texts ≡ length row.cells = AllZip-long IsCellText row.cells texts all in
    let below : length (flat_map value texts) ≤ row_size row = cells_room row.cells texts all in (
      omega (arith, long, few),
      tt,
      body_room (int16 (length texts)) (flat_map value texts) (two_bytes (length texts)) (omega (arith, below, small)),
    )

-- the rows so far
pub record RowsSent (rows : List Row) (old new : List ℕ) : Type 0 where
  pub sent : List ServerMessage
  pub each : AllZip IsRowMessage rows sent
  pub bytes : Sent old new sent

pub rows_none : (a : List ℕ) → RowsSent [] a a
rows_none a = record { sent = []; each = tt; bytes = sent_none a }

pub rows_more : (a b c : List ℕ) (rows : List Row) (i : ℕ) (row : Row) (message : ServerMessage) → i < length rows → row ≡ get_or rows i row → IsRowMessage row message
    → RowsSent (take i rows) a b → Sent b c (message ∷ []) → RowsSent (take (i + 1) rows) a c
rows_more a b c rows i row message below is made p q = record {
  sent = p.sent ++ message ∷ [];
  each = zip_more IsRowMessage rows i row p.sent message below is p.each made;
  bytes = sent_on a b c p.sent (message ∷ []) p.bytes q;
}

pub rows_all : (a b : List ℕ) (rows : List Row) (i : ℕ) → length rows ≤ i → RowsSent (take i rows) a b → RowsSent rows a b
rows_all a b rows i past p = subst (λ rs. RowsSent rs a b) (take_all i rows past) p

-- ---- columns

field_room : (column : ColumnDesc) → IsNamed column → length (field (field_of column)) ≤ 82
field_room column named = let short : length column.name ≤ 63 = named.0 in simp length-append (omega (arith, short))

fields_room : (columns : List ColumnDesc) → All IsNamed columns → length (flat_map field (fields_of columns)) ≤ length columns * 82
fields_room [] named = lit≤ tt
fields_room (c ∷ columns) named =
    let one : length (field (field_of c)) ≤ 82 = field_room c (All-head IsNamed c columns named) in
    let rest : length (flat_map field (fields_of columns)) ≤ length columns * 82 = fields_room columns (All-tail IsNamed c columns named) in
    let e : length (field (field_of c) ++ flat_map field (fields_of columns)) ≡ length (field (field_of c)) + length (flat_map field (fields_of columns)) = length-append (field (field_of c)) (flat_map field (fields_of columns)) in
    omega (arith, e, one, rest)

fields_fit : (columns : List ColumnDesc) → All IsNamed columns → All FieldFits (fields_of columns)
fields_fit [] named = All-nil FieldFits
fields_fit (c ∷ columns) named = All-cons FieldFits (field_of c) (fields_of columns) (no_zero_is c.name (All-head IsNamed c columns named).1) (fields_fit columns (All-tail IsNamed c columns named))

pub columns_fit : (columns : List ColumnDesc) → AreNamed columns → Fits (RowDescription (fields_of columns))
columns_fit columns named =
    let few : length columns ≤ 1664 = named.0 in
    let same : length (fields_of columns) ≡ length columns = length-map columns field_of in
    let below : length (flat_map field (fields_of columns)) ≤ length columns * 82 = fields_room columns named.1 in (
      (omega (arith, same, few), fields_fit columns named.1),
      tt,
      body_room (int16 (length (fields_of columns))) (flat_map field (fields_of columns)) (two_bytes (length (fields_of columns))) (omega (arith, below, few)),
    )
