-- Changes laid over rows: over the list of what is seen, one after another, and all at once.
use Rattle.std.proofs.Common.{◌≡◌, ℕ, zero, suc, List, [], ◌∷◌, map, set, refl, ap, sym, ◌∙◌, subst}
use Rattle.std.specs.Prelude.{◌==◌, filter, cond, T, Bool as Truth, true, false, Option, Some, None}
use Rattle.std.specs.List.{insert, remove}
use Rattle.std.specs.FinMap as fin
use Rattle.std.specs.FinMap.{entries-from_sorted, find, from_sorted, get-from_sorted, is_sorted}
use Rattle.sql_eval.specs.declared.row.Row.{Row}
use Rattle.sql_eval.specs.declared.effect.Change.{Change}
use Rattle.backend_trait.specs.Keys.{Place, place_order, is_place}
use Rattle.backend_trait.specs.Rows.{Rows, Changes, changed_at, laid_over, no_changes, no_rows, rows_in}
use Rattle.backend_trait.specs.Effect.{changed_on, changes_of, place_changed}
use Rattle.backend_trait.proofs.KeyLaws.{place_antisymmetric, place_total}
use Rattle.backend_trait.proofs.RowLaws.{get-changed_at, get-laid_over, laid_over-none, row_over, same_rows}
use Rattle.outcomes.specs.Spread.{StandsAt, StandsBetween}
use Rattle.std.proofs.lemmas.List.{map-set}
use Rattle.outcomes.specs.declared.change.ChangeSet.{ChangeSet}
use Rattle.outcomes.specs.declared.sight.Seen.{Seen}
use Rattle.outcomes.specs.Log.{rows_of}
use Rattle.outcomes.specs.Sights.{all_laid, all_stood, rows_at, stood}
use Rattle.outcomes.proofs.Entries.{left_found, put_found, put_sorted, removed_found, removed_sorted, set_found, set_sorted}

-- a list in order that answers so is that of the changed rows
laid_as : (es fs : List (Place × Row)) (p : Place) (row : Option Row) → T (is_sorted place_order es) → T (is_sorted place_order fs)
    → ((q : Place) → find place_order q fs ≡ cond (is_place q p) row (find place_order q es))
    → from_sorted {R = place_order} fs ≡ changed_at (from_sorted es) p row
laid_as es fs p row was is found =
    same_rows (from_sorted fs) (changed_at (from_sorted es) p row) (λ q.
    get-from_sorted place_order fs q is
    ∙ (found q ∙ (ap (cond (is_place q p) row) (sym (get-from_sorted place_order es q was)) ∙ sym (get-changed_at (from_sorted es) p row q))))

-- what a change at a place leaves of a list
pub record Laid (es fs : List (Place × Row)) (p : Place) (row : Option Row) : Type 0 where
  pub sorted : T (is_sorted place_order fs)
  pub rows : from_sorted {R = place_order} fs ≡ changed_at (from_sorted es) p row

pub laid_set : (es : List (Place × Row)) (n : ℕ) (p : Place) (row : Row) → T (is_sorted place_order es) → StandsAt place_order p es n → Laid es (set es n (p, row)) p (Some row)
laid_set es n p row sorted at =
    let is = set_sorted place_order place_total place_antisymmetric p row es n sorted at in
    record { sorted = is; rows = laid_as es (set es n (p, row)) p (Some row) sorted is (λ q. set_found place_order place_total place_antisymmetric q p row es n sorted at) }

pub laid_removed : (es : List (Place × Row)) (n : ℕ) (p : Place) → T (is_sorted place_order es) → StandsAt place_order p es n → Laid es (remove es n) p None
laid_removed es n p sorted at =
    let is = removed_sorted place_order place_total place_antisymmetric es n sorted in
    record { sorted = is; rows = laid_as es (remove es n) p None sorted is (λ q. removed_found place_order place_total place_antisymmetric q p es n sorted at) }

pub laid_put : (es : List (Place × Row)) (n : ℕ) (p : Place) (row : Row) → T (is_sorted place_order es) → StandsBetween place_order p es n → Laid es (insert es n (p, row)) p (Some row)
laid_put es n p row sorted between =
    let is = put_sorted place_order place_total p row es n sorted between in
    record { sorted = is; rows = laid_as es (insert es n (p, row)) p (Some row) sorted is (λ q. put_found place_order place_total q p row es n between) }

pub laid_none : (es : List (Place × Row)) (n : ℕ) (p : Place) → T (is_sorted place_order es) → StandsBetween place_order p es n → Laid es es p None
laid_none es n p sorted between =
    record { sorted = sorted; rows = laid_as es es p None sorted sorted (λ q. left_found place_order place_total q p es n between) }

-- ---- one after another, and all at once

-- one change more over rows
over_one : (old : Changes) (p : Place) (row : Option Row) (rows : Rows) → changed_at (laid_over old rows) p row ≡ laid_over (fin.insert old p row) rows
over_one old p row rows =
    same_rows (changed_at (laid_over old rows) p row) (laid_over (fin.insert old p row) rows) (λ q.
    get-changed_at (laid_over old rows) p row q
    ∙ (ap (cond (is_place q p) row) (get-laid_over old rows q)
    ∙ (go q (is_place q p)
    ∙ (ap (λ (c : Option (Option Row)). row_over c (fin.get rows q)) (sym (fin.get-insert place_total old p row q)) ∙ sym (get-laid_over (fin.insert old p row) rows q)))))
  where
    go : (q : Place) (b : Truth) → cond b row (row_over (fin.get old q) (fin.get rows q)) ≡ row_over (cond b (Some row) (fin.get old q)) (fin.get rows q)
    go q true = refl
    go q false = refl

laid_on : (old : Changes) (cs : List Change) (rows : Rows) → all_laid (laid_over old rows) cs ≡ laid_over (changed_on old cs) rows
laid_on old [] rows = refl
laid_on old (c ∷ cs) rows =
    ap (λ (r : Rows). all_laid r cs) (over_one old (place_changed c) c.row rows) ∙ laid_on (fin.insert old (place_changed c) c.row) cs rows

pub all_laid_is : (cs : List Change) (rows : Rows) → all_laid rows cs ≡ laid_over (changes_of cs) rows
all_laid_is cs rows = ap (λ (r : Rows). all_laid r cs) (sym (laid_over-none rows)) ∙ laid_on no_changes cs rows

-- ---- the same of what is seen

stood_removed : (xs : List Seen) (n : ℕ) → all_stood (remove xs n) ≡ remove (all_stood xs) n
stood_removed [] zero = refl
stood_removed [] (suc n) = refl
stood_removed (x ∷ xs) zero = refl
stood_removed (x ∷ xs) (suc n) = ap (λ (es : List (Place × Row)). stood x ∷ es) (stood_removed xs n)

stood_put : (xs : List Seen) (n : ℕ) (x : Seen) → all_stood (insert xs n x) ≡ insert (all_stood xs) n (stood x)
stood_put xs zero x = refl
stood_put [] (suc n) x = refl
stood_put (y ∷ xs) (suc n) x = ap (λ (es : List (Place × Row)). stood y ∷ es) (stood_put xs n x)

abbrev pub IsLaid : List Seen → List Seen → Place → Option Row → Type 0
IsLaid xs ys p row = Laid (all_stood xs) (all_stood ys) p row

pub seen_set : (xs : List Seen) (n : ℕ) (x : Seen) → T (is_sorted place_order (all_stood xs)) → StandsAt place_order (stood x).0 (all_stood xs) n → IsLaid xs (set xs n x) (stood x).0 (Some (stood x).1)
seen_set xs n x sorted at =
    subst (λ (fs : List (Place × Row)). Laid (all_stood xs) fs (stood x).0 (Some (stood x).1)) (sym (map-set stood xs n x))
    (laid_set (all_stood xs) n (stood x).0 (stood x).1 sorted at)

pub seen_removed : (xs : List Seen) (n : ℕ) (p : Place) → T (is_sorted place_order (all_stood xs)) → StandsAt place_order p (all_stood xs) n → IsLaid xs (remove xs n) p None
seen_removed xs n p sorted at = subst (λ (fs : List (Place × Row)). Laid (all_stood xs) fs p None) (sym (stood_removed xs n)) (laid_removed (all_stood xs) n p sorted at)

pub seen_put : (xs : List Seen) (n : ℕ) (x : Seen) → T (is_sorted place_order (all_stood xs)) → StandsBetween place_order (stood x).0 (all_stood xs) n → IsLaid xs (insert xs n x) (stood x).0 (Some (stood x).1)
seen_put xs n x sorted between =
    subst (λ (fs : List (Place × Row)). Laid (all_stood xs) fs (stood x).0 (Some (stood x).1)) (sym (stood_put xs n x))
    (laid_put (all_stood xs) n (stood x).0 (stood x).1 sorted between)

-- ---- what calls leave

pub set_sorted_at : (xs : List Seen) (n : ℕ) (x : Seen) (p : Place) → (stood x).0 ≡ p → T (is_sorted place_order (all_stood xs)) → StandsAt place_order p (all_stood xs) n
    → T (is_sorted place_order (all_stood (set xs n x)))
set_sorted_at xs n x p place sorted at =
    let laid = seen_set xs n x sorted (subst (λ (q : Place). StandsAt place_order q (all_stood xs) n) (sym place) at) in laid.sorted

pub set_laid_at : (xs : List Seen) (n : ℕ) (x : Seen) (p : Place) (row : Option Row) → (stood x).0 ≡ p → row ≡ Some (stood x).1 → T (is_sorted place_order (all_stood xs))
    → StandsAt place_order p (all_stood xs) n → rows_at (set xs n x) ≡ changed_at (rows_at xs) p row
set_laid_at xs n x p row place is sorted at =
    let laid = seen_set xs n x sorted (subst (λ (q : Place). StandsAt place_order q (all_stood xs) n) (sym place) at) in
    laid.rows ∙ (ap (λ (q : Place). changed_at (rows_at xs) q (Some (stood x).1)) place ∙ ap (changed_at (rows_at xs) p) (sym is))

pub removed_sorted_at : (xs ys : List Seen) (n : ℕ) (p : Place) → ys ≡ remove xs n → T (is_sorted place_order (all_stood xs)) → StandsAt place_order p (all_stood xs) n
    → T (is_sorted place_order (all_stood ys))
removed_sorted_at xs ys n p left sorted at =
    let laid = seen_removed xs n p sorted at in subst (λ (zs : List Seen). T (is_sorted place_order (all_stood zs))) (sym left) laid.sorted

pub removed_laid_at : (xs ys : List Seen) (n : ℕ) (p : Place) (row : Option Row) → ys ≡ remove xs n → row ≡ None → T (is_sorted place_order (all_stood xs))
    → StandsAt place_order p (all_stood xs) n → rows_at ys ≡ changed_at (rows_at xs) p row
removed_laid_at xs ys n p row left is sorted at =
    let laid = seen_removed xs n p sorted at in ap rows_at left ∙ (laid.rows ∙ ap (changed_at (rows_at xs) p) (sym is))

pub put_sorted_at : (xs ys : List Seen) (n : ℕ) (x : Seen) (p : Place) → ys ≡ insert xs n x → (stood x).0 ≡ p → T (is_sorted place_order (all_stood xs))
    → StandsBetween place_order p (all_stood xs) n → T (is_sorted place_order (all_stood ys))
put_sorted_at xs ys n x p left place sorted between =
    let laid = seen_put xs n x sorted (subst (λ (q : Place). StandsBetween place_order q (all_stood xs) n) (sym place) between) in
    subst (λ (zs : List Seen). T (is_sorted place_order (all_stood zs))) (sym left) laid.sorted

pub put_laid_at : (xs ys : List Seen) (n : ℕ) (x : Seen) (p : Place) (row : Option Row) → ys ≡ insert xs n x → (stood x).0 ≡ p → row ≡ Some (stood x).1
    → T (is_sorted place_order (all_stood xs)) → StandsBetween place_order p (all_stood xs) n → rows_at ys ≡ changed_at (rows_at xs) p row
put_laid_at xs ys n x p row left place is sorted between =
    let laid = seen_put xs n x sorted (subst (λ (q : Place). StandsBetween place_order q (all_stood xs) n) (sym place) between) in
    ap rows_at left
    ∙ (laid.rows ∙ (ap (λ (q : Place). changed_at (rows_at xs) q (Some (stood x).1)) place ∙ ap (changed_at (rows_at xs) p) (sym is)))

pub none_laid_at : (xs : List Seen) (n : ℕ) (p : Place) (row : Option Row) → row ≡ None → T (is_sorted place_order (all_stood xs)) → StandsBetween place_order p (all_stood xs) n
    → rows_at xs ≡ changed_at (rows_at xs) p row
none_laid_at xs n p row is sorted between = let laid = laid_none (all_stood xs) n p sorted between in laid.rows ∙ ap (changed_at (rows_at xs) p) (sym is)

pub none_seen : (xs : List Seen) → xs ≡ [] → rows_at xs ≡ no_rows
none_seen xs is =
    ap rows_at is ∙ same_rows (rows_at []) no_rows (λ q. get-from_sorted place_order [] q tt ∙ sym (fin.get-empty place_order q))

-- the rows of a table, of those that are seen behind a log alone
pub rows_listed : (xs : List Seen) (log : List ChangeSet) (table : ℕ) → T (is_sorted place_order (all_stood xs)) → rows_at xs ≡ laid_over no_changes (rows_of log)
    → map (λ (e : Place × Row). e.1) (filter (λ (e : Place × Row). e.0.table == table) (all_stood xs)) ≡ rows_in (rows_of log) table
rows_listed xs log table sorted is =
    ap (λ (es : List (Place × Row)). map (λ (e : Place × Row). e.1) (filter (λ (e : Place × Row). e.0.table == table) es))
    (sym (entries-from_sorted place_order (all_stood xs) sorted))
    ∙ ap (λ (rows : Rows). rows_in rows table) (is ∙ laid_over-none (rows_of log))
