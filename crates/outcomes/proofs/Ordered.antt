-- Changes in the order of their places leave what they leave in the order in which they were made.
use Rattle.std.proofs.Common.{◌≡◌, ℕ, zero, suc, ◌+◌, ◌<◌, ◌≤◌, List, [], ◌∷◌, ◌++◌, length, map, drop, get_or, add-one, append_assoc, refl, ap, sym, ◌∙◌, arith}
use Rattle.std.specs.Prelude.{◌&&◌, cond, filter, not, Bool as Truth, true, false, Option}
use Rattle.std.specs.List.Sorted.{IsStableBy, ties}
use Rattle.std.specs.FinMap as fin
use Rattle.std.specs.declared.cmp.Ordering.{Ordering}
use Rattle.std.specs.declared.cmp.Ordering.TheVariants.{Less, Equal, Greater}
use Rattle.std.specs.Ordering.{is_eq, is_lt, ordering_reverse}
use Rattle.sql_eval.specs.declared.row.Row.{Row}
use Rattle.sql_eval.specs.declared.effect.Change.{Change}
use Rattle.backend_trait.specs.Keys.{Place, place_order, is_place}
use Rattle.backend_trait.specs.Rows.{Rows, changed_at, laid_over}
use Rattle.backend_trait.specs.Effect.{changes_of, place_changed}
use Rattle.backend_trait.proofs.KeyLaws.{place_antisymmetric, place_total}
use Rattle.backend_trait.proofs.RowLaws.{get-changed_at, same_rows}
use Rattle.outcomes.specs.declared.change.ChangeSet.{ChangeSet}
use Rattle.outcomes.specs.Gathered.{changes_in}
use Rattle.outcomes.specs.Log.{rows_on}
use Rattle.outcomes.specs.Sights.{all_laid}
use Rattle.outcomes.proofs.Laid.{all_laid_is}

-- ---- filters

filter_same : {X : Type 0} (p r : X → Truth) → ((x : X) → p x ≡ r x) → (xs : List X) → filter p xs ≡ filter r xs
filter_same p r same [] = refl
filter_same {X = X} p r same (x ∷ xs) =
    ap (λ (b : Truth). cond b (x ∷ filter p xs) (filter p xs)) (same x) ∙ ap (λ (ys : List X). cond (r x) (x ∷ ys) ys) (filter_same p r same xs)

filter_mapped : {X Y : Type 0} (f : X → Y) (p : Y → Truth) (xs : List X) → filter p (map f xs) ≡ map f (filter (λ x. p (f x)) xs)
filter_mapped f p [] = refl
filter_mapped {Y = Y} f p (x ∷ xs) = ap (λ (ys : List Y). cond (p (f x)) (f x ∷ ys) ys) (filter_mapped f p xs) ∙ go (p (f x))
  where
    go : (b : Truth) → cond b (f x ∷ map f (filter (λ x. p (f x)) xs)) (map f (filter (λ x. p (f x)) xs)) ≡ map f (cond b (x ∷ filter (λ x. p (f x)) xs) (filter (λ x. p (f x)) xs))
    go true = refl
    go false = refl

-- what a filter leaves passes the test
passes : {X : Type 0} (p : X → Truth) (xs : List X) (x : X) (rest : List X) → filter p xs ≡ x ∷ rest → p x ≡ true
passes p [] x rest e = absurd (cc)
passes p (y ∷ ys) x rest e = go (p y) refl e (λ f. passes p ys x rest f)
  where
    go : (b : Truth) → p y ≡ b → cond b (y ∷ filter p ys) (filter p ys) ≡ x ∷ rest → (filter p ys ≡ x ∷ rest → p x ≡ true) → p x ≡ true
    go true is e later = let same : y ≡ x = cc in ap p (sym same) ∙ is
    go false is e later = later e

-- ---- what is at a place

pub one_place : (q p : Place) → is_place q p ≡ true → q ≡ p
one_place q p is = place_antisymmetric q p (go (place_order q p) is)
  where
    go : (o : Ordering) → is_eq o ≡ true → o ≡ Equal
    go Less e = absurd (let f : false ≡ true = e in cc)
    go Equal e = refl
    go Greater e = absurd (let f : false ≡ true = e in cc)

tied : (o : Ordering) → (not (is_lt o) && not (is_lt (ordering_reverse o))) ≡ is_eq o
tied Less = refl
tied Equal = refl
tied Greater = refl

module _ {X : Type 0} (place_of : X → Place) where
  abbrev before : X → X → Truth
  before x y = is_lt (place_order (place_of x) (place_of y))

  -- what ties with one at a place is at that place
  tied_at : (q : Place) (x : X) → is_place q (place_of x) ≡ true → (y : X) → ties before x y ≡ is_place q (place_of y)
  tied_at q x is y =
      ap (λ (o : Ordering). not (is_lt (place_order (place_of x) (place_of y))) && not (is_lt o)) (place_total.antisymm (place_of y) (place_of x))
      ∙ (tied (place_order (place_of x) (place_of y)) ∙ ap (λ (p : Place). is_place p (place_of y)) (sym (one_place q (place_of x) is)))

  module _ (xs ys : List X) (stable : IsStableBy before xs ys) (q : Place) where
    abbrev is_at : X → Truth
    is_at x = is_place q (place_of x)

    by_one : (x : X) → is_at x ≡ true → filter is_at ys ≡ filter is_at xs
    by_one x is = sym (filter_same (ties before x) is_at (tied_at q x is) ys) ∙ (stable x ∙ filter_same (ties before x) is_at (tied_at q x is) xs)

    at_each : (us vs : List X) → filter is_at xs ≡ us → filter is_at ys ≡ vs → filter is_at ys ≡ filter is_at xs
    at_each [] [] e f = f ∙ sym e
    at_each [] (y ∷ vs) e f = by_one y (passes is_at ys y vs f)
    at_each (x ∷ us) vs e f = by_one x (passes is_at xs x us e)

    -- a stable sort keeps those at a place in their order
    pub stable_at : filter is_at ys ≡ filter is_at xs
    stable_at = at_each (filter is_at xs) (filter is_at ys) refl refl

-- ---- what changes leave

-- the row that the last of some changes leaves
abbrev left_by : List Change → Option Row → Option Row
left_by [] row = row
left_by (c ∷ cs) row = left_by cs c.row

module _ (q : Place) where
  abbrev changes_here : Change → Truth
  changes_here c = is_place q (place_changed c)

  -- changes leave at a place what those at it leave
  left_at : (cs : List Change) (rows : Rows) → fin.get (all_laid rows cs) q ≡ left_by (filter changes_here cs) (fin.get rows q)
  left_at [] rows = refl
  left_at (c ∷ cs) rows =
      left_at cs (changed_at rows (place_changed c) c.row)
      ∙ (ap (left_by (filter changes_here cs)) (get-changed_at rows (place_changed c) c.row q) ∙ go (changes_here c))
    where
      go : (b : Truth) → left_by (filter changes_here cs) (cond b c.row (fin.get rows q)) ≡ left_by (cond b (c ∷ filter changes_here cs) (filter changes_here cs)) (fin.get rows q)
      go true = refl
      go false = refl

pub laid_in_order : {X : Type 0} (now : X → Change) (xs ys : List X) → IsStableBy (λ (x y : X). is_lt (place_order (place_changed (now x)) (place_changed (now y)))) xs ys
    → (rows : Rows) → all_laid rows (map now ys) ≡ all_laid rows (map now xs)
laid_in_order now xs ys stable rows =
    same_rows (all_laid rows (map now ys)) (all_laid rows (map now xs)) (λ q.
    left_at q (map now ys) rows
    ∙ (ap (λ (cs : List Change). left_by cs (fin.get rows q))
    (filter_mapped now (changes_here q) ys ∙ (ap (map now) (stable_at (λ x. place_changed (now x)) xs ys stable q) ∙ sym (filter_mapped now (changes_here q) xs)))
    ∙ sym (left_at q (map now xs) rows)))

-- ---- all changes of a log

pub laid_append : (rows : Rows) (cs ds : List Change) → all_laid rows (cs ++ ds) ≡ all_laid (all_laid rows cs) ds
laid_append rows [] ds = refl
laid_append rows (c ∷ cs) ds = laid_append (changed_at rows (place_changed c) c.row) cs ds

laid_sets : (log : List ChangeSet) (rows : Rows) (own : List Change) → all_laid rows (changes_in log ++ own) ≡ laid_over (changes_of own) (rows_on rows log)
laid_sets [] rows own = all_laid_is own rows
laid_sets (set ∷ log) rows own =
    ap (all_laid rows) (append_assoc set.changes.items (changes_in log) own)
    ∙ (laid_append rows set.changes.items (changes_in log ++ own)
    ∙ (laid_sets log (all_laid rows set.changes.items) own
    ∙ ap (λ (r : Rows). laid_over (changes_of own) (rows_on r log)) (all_laid_is set.changes.items rows)))

pub gathered_laid : (rows : Rows) (log : List ChangeSet) (own sets all ordered : List Change) → sets ≡ changes_in log → all ≡ sets ++ own → ((r : Rows) → all_laid r ordered ≡ all_laid r all)
    → all_laid rows ordered ≡ laid_over (changes_of own) (rows_on rows log)
gathered_laid rows log own sets all ordered sets_are all_are same =
    same rows ∙ (ap (all_laid rows) (all_are ∙ ap (λ (cs : List Change). cs ++ own) sets_are) ∙ laid_sets log rows own)

-- one set more
set_more : (log : List ChangeSet) (n : ℕ) (set : ChangeSet) → n < length log → set ≡ get_or log n set → changes_in (drop n log) ≡ set.changes.items ++ changes_in (drop (suc n) log)
set_more [] n set below is = absurd (omega arith)
set_more (s ∷ log) zero set below is = ap (λ (t : ChangeSet). t.changes.items ++ changes_in log) (sym is)
set_more (s ∷ log) (suc n) set below is = set_more log n set (omega arith) is

pub sets_more : (log : List ChangeSet) (n : ℕ) (set : ChangeSet) (front next read : List Change) → n < length log → set ≡ get_or log n set → front ++ changes_in (drop n log) ≡ changes_in log → next ≡ front ++ read
    → read ≡ set.changes.items → next ++ changes_in (drop (n + 1) log) ≡ changes_in log
sets_more log n set front next read below is so_far next_is read_is =
    ap (λ (m : ℕ). next ++ changes_in (drop m log)) (add-one n)
    ∙ (ap (λ (cs : List Change). cs ++ changes_in (drop (suc n) log)) (next_is ∙ ap (λ (cs : List Change). front ++ cs) read_is)
    ∙ (append_assoc front set.changes.items (changes_in (drop (suc n) log)) ∙ (ap (λ (cs : List Change). front ++ cs) (sym (set_more log n set below is)) ∙ so_far)))

-- one change more is laid
module _ {X : Type 0} (now : X → Change) where
  change_more : (xs : List X) (n : ℕ) (x : X) (rows : Rows) → n < length xs → x ≡ get_or xs n x
      → all_laid rows (map now (drop n xs)) ≡ all_laid (changed_at rows (place_changed (now x)) (now x).row) (map now (drop (suc n) xs))
  change_more [] n x rows below is = absurd (omega arith)
  change_more (y ∷ xs) zero x rows below is = ap (λ (z : X). all_laid (changed_at rows (place_changed (now z)) (now z).row) (map now xs)) (sym is)
  change_more (y ∷ xs) (suc n) x rows below is = change_more xs n x rows (omega arith) is

  pub laid_more : (xs : List X) (n : ℕ) (x : X) (rows next whole : Rows) → n < length xs → x ≡ get_or xs n x → all_laid rows (map now (drop n xs)) ≡ whole
      → next ≡ changed_at rows (place_changed (now x)) (now x).row → all_laid next (map now (drop (n + 1) xs)) ≡ whole
  laid_more xs n x rows next whole below is so_far next_is =
      ap (λ (m : ℕ). all_laid next (map now (drop m xs))) (add-one n)
      ∙ (ap (λ (r : Rows). all_laid r (map now (drop (suc n) xs))) next_is ∙ (sym (change_more xs n x rows below is) ∙ so_far))

  drop_past : (xs : List X) (n : ℕ) → length xs ≤ n → drop n xs ≡ []
  drop_past [] zero past = refl
  drop_past [] (suc n) past = refl
  drop_past (x ∷ xs) zero past = absurd (omega arith)
  drop_past (x ∷ xs) (suc n) past = drop_past xs n (omega arith)

  pub all_were_laid : (xs : List X) (n : ℕ) (rows whole : Rows) → length xs ≤ n → all_laid rows (map now (drop n xs)) ≡ whole → rows ≡ whole
  all_were_laid xs n rows whole past so_far = ap (λ (ys : List X). all_laid rows (map now ys)) (sym (drop_past xs n past)) ∙ so_far
