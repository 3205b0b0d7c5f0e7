-- The first boxes of a shelf.
use Rattle.std.proofs.Common.{◌≡◌, ℕ, zero, suc, ◌<◌, ◌≤◌, Bool, true, List, [], ◌∷◌, ◌++◌, All, drop, length, map, take, get_or, refl, sym, ap, ◌∙◌, subst, arith}
use Rattle.std.specs.Prelude.{Some, slice_get, replicate}
use Rattle.std.specs.Option.{option_map}
use Rattle.std.proofs.lemmas.List.{length-map}
use Rattle.std.proofs.lemmas.List.Elements.{All-take, All-drop, All-get_or}
use Rattle.std.proofs.lemmas.Option.{slice_get-map, slice_get-get_or}
use Rattle.backend_trait.specs.Rows.{Rows, no_rows}
use Rattle.schema.specs.declared.catalogue.TableDef.{TableDef}
use Rattle.backend_trait.specs.Store.{Store, blank, prepared}
use Rattle.session_core.specs.Statements.{AreReady, IsReady, primary_rows, primary_tables}
use Rattle.session_core.proofs.Going.{there, within}
use Rattle.session_core.proofs.Stages.{prepared_ready}
use Rattle.pool_run.specs.Shelf.{AreFresh, ArePrepared, AreBackends, HaveRows}

-- ---- the first so many of a list
pub firsts_within : {A : Type 0} (xs : List A) (n : ℕ) → length (take n xs) ≡ n → n ≤ length xs
firsts_within xs zero is = omega arith
firsts_within [] (suc n) is = absurd (omega (arith, is))
firsts_within (x ∷ xs) (suc n) is = let r = firsts_within xs n (omega (arith, is)) in omega (arith, r)

pub firsts_length : {A : Type 0} (xs : List A) (n : ℕ) → n ≤ length xs → length (take n xs) ≡ n
firsts_length xs zero le = refl
firsts_length [] (suc n) le = absurd (omega (arith, le))
firsts_length (x ∷ xs) (suc n) le = let r = firsts_length xs n (omega (arith, le)) in omega (arith, r)

pub firsts_get : {A : Type 0} (xs : List A) (n b : ℕ) → b < n → slice_get (take n xs) b ≡ slice_get xs b
firsts_get xs zero b lt = absurd (omega (arith, lt))
firsts_get [] (suc n) b lt = refl
firsts_get (x ∷ xs) (suc n) zero lt = refl
firsts_get (x ∷ xs) (suc n) (suc b) lt = firsts_get xs n b (omega (arith, lt))

pub firsts_append : {A : Type 0} (ys zs : List A) (n : ℕ) → length ys ≡ n → take n (ys ++ zs) ≡ ys
firsts_append [] zs zero is = refl
firsts_append [] zs (suc n) is = absurd (omega (arith, is))
firsts_append (y ∷ ys) zs zero is = absurd (omega (arith, is))
firsts_append (y ∷ ys) zs (suc n) is = ap (λ l. y ∷ l) (firsts_append ys zs n (omega (arith, is)))

pub firsts_left : {A : Type 0} (ys zs : List A) (n : ℕ) → length ys ≡ n → drop n (ys ++ zs) ≡ zs
firsts_left [] zs zero is = refl
firsts_left [] zs (suc n) is = absurd (omega (arith, is))
firsts_left (y ∷ ys) zs zero is = absurd (omega (arith, is))
firsts_left (y ∷ ys) zs (suc n) is = firsts_left ys zs n (omega (arith, is))

-- ---- blank ones
pub blanks : {X : Type 0} (meaning : X → Store) (xs : List X) (n : ℕ) → All (λ x. meaning x ≡ blank) xs → length xs ≡ n → map meaning xs ≡ replicate n blank
blanks meaning [] zero all is = refl
blanks meaning [] (suc n) all is = absurd (omega (arith, is))
blanks meaning (x ∷ xs) zero all is = absurd (omega (arith, is))
blanks meaning (x ∷ xs) (suc n) all is =
    let first : meaning x ≡ blank = All-get_or (λ x. meaning x ≡ blank) (x ∷ xs) 0 x (omega arith) all in
    let rest : map meaning xs ≡ replicate n blank = blanks meaning xs n (All-drop (λ x. meaning x ≡ blank) 1 (x ∷ xs) all) (omega (arith, is)) in
    ap (λ (st : Store). st ∷ map meaning xs) first ∙ ap (λ (sts : List Store). blank ∷ sts) rest

-- ---- their tables and rows
pub tables_are : (tables : List TableDef) (rows : Rows) (stores : List Store) → 0 < length stores → AreReady tables rows stores → primary_tables stores ≡ tables
tables_are tables rows [] some ready = absurd (omega (arith, some))
tables_are tables rows (st ∷ stores) some ready = (ready 0 st refl).tables_are

pub primary_are : (tables : List TableDef) (rows : Rows) (stores : List Store) → 0 < length stores → AreReady tables rows stores → primary_rows stores ≡ rows
primary_are tables rows [] some ready = absurd (omega (arith, some))
primary_are tables rows (st ∷ stores) some ready = (ready 0 st refl).rows_are

-- all have those of the first
pub of_first : (tables : List TableDef) (rows : Rows) (stores : List Store) → 0 < length stores → AreReady tables rows stores → AreReady (primary_tables stores) (primary_rows stores) stores
of_first tables rows stores some ready =
    subst (λ (t : List TableDef). AreReady t (primary_rows stores) stores) (sym (tables_are tables rows stores some ready))
    (subst (λ (r : Rows). AreReady tables r stores) (sym (primary_are tables rows stores some ready)) ready)

-- prepared ones are at rest without rows
pub prepared_rest : {X : Type 0} (v : X → Store) (tables : List TableDef) (xs : List X) → All (λ b. v b ≡ prepared tables) xs → AreReady tables no_rows (map v xs)
prepared_rest v tables xs each b st is =
    let below : b < length xs = omega (arith, within (map v xs) b st is, length-map xs v) in
    let (x, x_there) = there xs b below in
    let same : st ≡ v (get_or xs b x) = (let e : Some st ≡ Some (v (get_or xs b x)) = sym is ∙ slice_get-map v xs b ∙ ap (option_map v) (slice_get-get_or xs b x below) in cc) in
    prepared_ready tables st (same ∙ All-get_or (λ b. v b ≡ prepared tables) xs b x below each)

-- ---- what a run begins with
module _ {X : Type 0} (meaning : X → Store) (is_honest is_prompt is_steady : X → Bool) (shelf : List X) (count : ℕ) where
  some_first : 0 < count → count ≤ length shelf → 0 < length (map meaning (take count shelf))
  some_first some le = omega (arith, some, length-map (take count shelf) meaning, firsts_length shelf count le)

  pub firsts_fresh : AreFresh meaning is_honest is_prompt is_steady shelf → AreFresh meaning is_honest is_prompt is_steady (take count shelf)
  firsts_fresh fresh = record {
    blank_each = All-take (λ b. meaning b ≡ blank) count shelf fresh.blank_each;
    honest = All-take (λ b. is_honest b ≡ true) count shelf fresh.honest;
    prompt = All-take (λ b. is_prompt b ≡ true) count shelf fresh.prompt;
    steady = All-take (λ b. is_steady b ≡ true) count shelf fresh.steady;
  }

  pub rest_fresh : AreFresh meaning is_honest is_prompt is_steady shelf → AreFresh meaning is_honest is_prompt is_steady (drop count shelf)
  rest_fresh fresh = record {
    blank_each = All-drop (λ b. meaning b ≡ blank) count shelf fresh.blank_each;
    honest = All-drop (λ b. is_honest b ≡ true) count shelf fresh.honest;
    prompt = All-drop (λ b. is_prompt b ≡ true) count shelf fresh.prompt;
    steady = All-drop (λ b. is_steady b ≡ true) count shelf fresh.steady;
  }

  pub backends_begin : (tables : List TableDef) → 0 < count → count ≤ 8 → count ≤ length shelf → ArePrepared meaning is_honest is_prompt is_steady tables (take count shelf) → AreBackends meaning is_honest is_prompt is_steady count (take count shelf)
  backends_begin tables some few le each = record {
    some = some;
    few = few;
    so_many = firsts_length shelf count le;
    ready = of_first tables no_rows (map meaning (take count shelf)) (some_first some le) (prepared_rest meaning tables (take count shelf) each.prepared_each);
    honest = each.honest;
    prompt = each.prompt;
    steady = each.steady;
  }

  pub tables_at_first : (tables : List TableDef) → 0 < count → count ≤ length shelf → ArePrepared meaning is_honest is_prompt is_steady tables (take count shelf) → primary_tables (map meaning (take count shelf)) ≡ tables
  tables_at_first tables some le each = tables_are tables no_rows (map meaning (take count shelf)) (some_first some le) (prepared_rest meaning tables (take count shelf) each.prepared_each)

  pub none_at_first : (tables : List TableDef) → 0 < count → count ≤ length shelf → ArePrepared meaning is_honest is_prompt is_steady tables (take count shelf) → primary_rows (map meaning (take count shelf)) ≡ no_rows
  none_at_first tables some le each = primary_are tables no_rows (map meaning (take count shelf)) (some_first some le) (prepared_rest meaning tables (take count shelf) each.prepared_each)

  -- ---- what it leaves
  pub have_rows : (tables : List TableDef) (rows : Rows) → AreBackends meaning is_honest is_prompt is_steady count (take count shelf) → primary_tables (map meaning (take count shelf)) ≡ tables → primary_rows (map meaning (take count shelf)) ≡ rows
      → HaveRows count tables rows (map meaning shelf)
  have_rows tables rows are of is b below =
      let le : b < length (take count shelf) = omega (arith, below, are.so_many) in
      let (x, x_there) = there (take count shelf) b le in
      let first : slice_get (map meaning (take count shelf)) b ≡ Some (meaning x) = slice_get-map meaning (take count shelf) b ∙ ap (option_map meaning) x_there in
      let whole : slice_get (map meaning shelf) b ≡ Some (meaning x) = slice_get-map meaning shelf b ∙ ap (option_map meaning) (sym (firsts_get shelf count b below) ∙ x_there) in
      (meaning x, whole, subst (λ (t : List TableDef). IsReady t rows (meaning x)) of (subst (λ (r : Rows). IsReady (primary_tables (map meaning (take count shelf))) r (meaning x)) is (are.ready b (meaning x) first)))

-- ---- the boxes behind the first stay fresh, where a slice of the shelf was written back
pub rest_after : {X : Type 0} (meaning : X → Store) (is_honest is_prompt is_steady : X → Bool) (n count : ℕ) (new old : List X) → length new ≡ n → drop count new ≡ drop count old → AreFresh meaning is_honest is_prompt is_steady old
    → AreFresh meaning is_honest is_prompt is_steady (drop count (take n (new ++ drop (length new) old)))
rest_after meaning is_honest is_prompt is_steady n count new old is same fresh =
    subst (λ l. AreFresh meaning is_honest is_prompt is_steady (drop count l)) (sym (firsts_append new (drop (length new) old) n is))
    (subst (AreFresh meaning is_honest is_prompt is_steady) (sym same) (rest_fresh meaning is_honest is_prompt is_steady old count fresh))

-- ---- after a statement: these in the place of the first
module _ {X : Type 0} (v : X → Store) (ys zs : List X) (n : ℕ) (tables : List TableDef) where
  pub rows_ran : (rows : Rows) → length ys ≡ n → 0 < n → AreReady tables rows (map v ys) → primary_rows (map v (take n (ys ++ zs))) ≡ rows
  rows_ran rows len some ready =
      ap (λ l. primary_rows (map v l)) (firsts_append ys zs n len) ∙ primary_are tables rows (map v ys) (omega (arith, some, len, length-map ys v)) ready

  pub tables_ran : (rows : Rows) → length ys ≡ n → 0 < n → AreReady tables rows (map v ys) → primary_tables (map v (take n (ys ++ zs))) ≡ tables
  tables_ran rows len some ready =
      ap (λ l. primary_tables (map v l)) (firsts_append ys zs n len) ∙ tables_are tables rows (map v ys) (omega (arith, some, len, length-map ys v)) ready

module _ {X : Type 0} (meaning : X → Store) (is_honest is_prompt is_steady : X → Bool) (ys zs : List X) (n : ℕ) (tables : List TableDef) (rows : Rows) where
  pub backends_ran : length ys ≡ n → 0 < n → n ≤ 8 → AreReady tables rows (map meaning ys) → All (λ b. is_honest b ≡ true) ys → All (λ b. is_prompt b ≡ true) ys → All (λ b. is_steady b ≡ true) ys
      → AreBackends meaning is_honest is_prompt is_steady n (take n (ys ++ zs))
  backends_ran len some few ready honest prompt steady =
      let at_least : 0 < length (map meaning ys) = omega (arith, some, len, length-map ys meaning) in
      subst (λ l. AreBackends meaning is_honest is_prompt is_steady n l) (sym (firsts_append ys zs n len))
      (record { some = some; few = few; so_many = len; ready = of_first tables rows (map meaning ys) at_least ready; honest = honest; prompt = prompt; steady = steady })
