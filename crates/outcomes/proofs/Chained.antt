-- Chains of versions: what they show at a mark, and what a version more makes of them.
use Rattle.std.proofs.Common.{Bor, add-one, ◌≡◌, ℕ, zero, suc, ◌+◌, ◌-◌, ◌<◌, ◌≤◌, List, [], ◌∷◌, ◌++◌, map, set, take, drop, length, get_or, refl, ap, sym, ◌∙◌, subst, arith}
use Rattle.std.specs.Prelude.{◌==◌, ◌&&◌, cond, nat_lt, T, Bool as Truth, true, false, Option, Some, None, slice_get, slice_set, if◌then◌else◌}
use Rattle.std.specs.List.{find as first, insert}
use Rattle.std.specs.Option.{option_map}
use Rattle.std.specs.FinMap as fin
use Rattle.std.specs.FinMap.{entries-from_sorted, get-from_sorted}
use Rattle.std.specs.FinMap.Entries.{below_all, find, is_sorted}
use Rattle.std.specs.Ordering.{is_gt, is_lt}
use Rattle.std.proofs.lemmas.Bool.{eq-eqb, eqb-true, lt-ltb, ltb-false, ltb-true}
use Rattle.std.proofs.lemmas.Cmp.{tied_itself}
use Rattle.std.proofs.lemmas.List.{drop_all, length-append, length-map, length-take-le, take_all, take_more, take-append-le}
use Rattle.pg_values.specs.declared.value.Value.{Value}
use Rattle.sql_eval.specs.declared.row.Row.{Row}
use Rattle.sql_eval.specs.declared.effect.Change.{Change}
use Rattle.sql_eval.specs.Views.{Entry, entries_in, entry, is_behind, key_order}
use Rattle.backend_trait.specs.Keys.{Place, is_place, place, place_order}
use Rattle.backend_trait.specs.Rows.{Changes, Rows, changed_at, no_changes, no_rows}
use Rattle.backend_trait.specs.Effect.{changes_of, place_changed}
use Rattle.backend_trait.proofs.KeyLaws.{place_antisymmetric, place_total}
use Rattle.backend_trait.proofs.RowLaws.{get-changed_at, same_rows}
use Rattle.outcomes.specs.Spread.{IsParted, StandsAt, StandsBetween}
use Rattle.outcomes.specs.declared.change.ChangeSet.{ChangeSet}
use Rattle.outcomes.specs.declared.chain.Version.{Version}
use Rattle.outcomes.specs.declared.chain.Chain.{Chain}
use Rattle.outcomes.specs.Log.{rows_of}
use Rattle.outcomes.specs.Sights.{all_laid, is_before, is_passed, is_up_to}
use Rattle.outcomes.specs.Chains.{AreOfSets, ArePut, Chained, IsPut, all_chained, chained, entry_left, entry_or, first_entry, left_until, newer, put_shown, row_left, rows_until, shown, shown_at, shown_rows, versions_in}
use Rattle.outcomes.proofs.Entries.{both_hold, equal, found_at, hold_both, none_between, put_found, put_sorted, set_found, set_sorted, unfound}
use Rattle.outcomes.proofs.Laid.{all_laid_is}
use Rattle.outcomes.proofs.LogLaws.{changed_on-append, rows_on-snoc}
use Rattle.outcomes.proofs.Numbers.{first_found, found_in, none_found, none_later, other_table, passed_by, same_table, later_table, not_false, not_true, to_entry}
use Rattle.outcomes.proofs.Ordered.{laid_append, one_place}

-- ---- versions

newer_none : (a : Option (Option Row)) → newer a None ≡ a
newer_none None = refl
newer_none (Some row) = refl

newer_both : (a b c : Option (Option Row)) → newer (newer a b) c ≡ newer a (newer b c)
newer_both None b c = refl
newer_both (Some row) b c = refl

-- the versions up to one: that one counts before those that are older
shown_last : (mark : ℕ) (vs : List Version) (n : ℕ) (v : Version) → n < length vs → v ≡ get_or vs n v → shown mark (take (suc n) vs) ≡ newer (left_until mark v) (shown mark (take n vs))
shown_last mark [] n v below is = absurd (omega arith)
shown_last mark (x ∷ vs) zero v below is = ap (left_until mark) (sym is) ∙ sym (newer_none (left_until mark v))
shown_last mark (x ∷ vs) (suc n) v below is =
    ap (λ (o : Option (Option Row)). newer o (left_until mark x)) (shown_last mark vs n v (omega arith) is)
    ∙ newer_both (left_until mark v) (shown mark (take n vs)) (left_until mark x)

shown_snoc : (mark : ℕ) (vs : List Version) (v : Version) → shown mark (vs ++ v ∷ []) ≡ newer (left_until mark v) (shown mark vs)
shown_snoc mark [] v = sym (newer_none (left_until mark v))
shown_snoc mark (x ∷ vs) v =
    ap (λ (o : Option (Option Row)). newer o (left_until mark x)) (shown_snoc mark vs v) ∙ newer_both (left_until mark v) (shown mark vs) (left_until mark x)

counted : (v : Version) (mark : ℕ) → v.set < mark → left_until mark v ≡ Some v.row
counted v mark below = ap (λ (b : Truth). if b then Some v.row else None) (lt-ltb v.set mark below)

uncounted : (v : Version) (mark : ℕ) → mark ≤ v.set → left_until mark v ≡ None
uncounted v mark up = go (nat_lt v.set mark) refl
  where
    go : (b : Truth) → nat_lt v.set mark ≡ b → (if b then Some v.row else None) ≡ None
    go true is = absurd (let below : v.set < mark = ltb-true v.set mark is in omega arith)
    go false is = refl

-- a search from the newest on
module _ (mark : ℕ) (vs : List Version) (past n : ℕ) (v : Version) (within : past < length vs) (n_is : n ≡ length vs - 1 - past) (v_is : v ≡ get_or vs n v) (so_far : shown mark (take (length vs - past) vs) ≡ shown mark vs) where
  here : shown mark vs ≡ newer (left_until mark v) (shown mark (take n vs))
  here =
      let up : suc n ≡ length vs - past = omega (arith, n_is, within) in
      sym so_far ∙ (ap (λ (k : ℕ). shown mark (take k vs)) (sym up) ∙ shown_last mark vs n v (omega (arith, n_is, within)) v_is)

  pub row_counts : v.set < mark → Some v.row ≡ shown mark vs
  row_counts below = sym (here ∙ ap (λ (o : Option (Option Row)). newer o (shown mark (take n vs))) (counted v mark below))

  pub row_is_passed : mark ≤ v.set → shown mark (take (length vs - (past + 1)) vs) ≡ shown mark vs
  row_is_passed up =
      let same : length vs - (past + 1) ≡ n = omega (arith, n_is, within) in
      ap (λ (k : ℕ). shown mark (take k vs)) same
      ∙ sym (here ∙ ap (λ (o : Option (Option Row)). newer o (shown mark (take n vs))) (uncounted v mark up))

-- ---- what is shown of chains

module _ (mark : ℕ) where
  below_shown : (q : Place) (es : Chained) → T (below_all place_order q es) → T (below_all place_order q (shown_rows mark es))
  below_shown q [] below = tt
  below_shown q (e ∷ es) below = let parts = both_hold _ _ below in go parts.0 (below_shown q es parts.1) (row_left (shown mark e.1))
    where
      go : T (is_lt (place_order q e.0)) → T (below_all place_order q (shown_rows mark es)) → (o : Option Row) → T (below_all place_order q (put_shown e.0 o (shown_rows mark es)))
      go less rest None = rest
      go less rest (Some row) = hold_both (is_lt (place_order q e.0)) (below_all place_order q (shown_rows mark es)) less rest

  sorted_shown : (es : Chained) → T (is_sorted place_order es) → T (is_sorted place_order (shown_rows mark es))
  sorted_shown [] sorted = tt
  sorted_shown (e ∷ es) sorted = let parts = both_hold _ _ sorted in go (below_shown e.0 es parts.0) (sorted_shown es parts.1) (row_left (shown mark e.1))
    where
      go : T (below_all place_order e.0 (shown_rows mark es)) → T (is_sorted place_order (shown_rows mark es)) → (o : Option Row) → T (is_sorted place_order (put_shown e.0 o (shown_rows mark es)))
      go below rest None = rest
      go below rest (Some row) = hold_both (below_all place_order e.0 (shown_rows mark es)) (is_sorted place_order (shown_rows mark es)) below rest

abbrev row_at : ℕ → Option (List Version) → Option Row
row_at mark o = row_left (shown mark (versions_in o))

found_shown : (mark : ℕ) (q : Place) (es : Chained) → T (is_sorted place_order es) → find place_order q (shown_rows mark es) ≡ row_at mark (find place_order q es)
found_shown mark q [] sorted = refl
found_shown mark q (e ∷ es) sorted =
    let parts = both_hold _ _ sorted in
    go parts.0 (found_shown mark q es parts.1) (is_place q e.0) refl (row_left (shown mark e.1)) refl
  where
    go : T (below_all place_order e.0 es) → find place_order q (shown_rows mark es) ≡ row_at mark (find place_order q es) → (b : Truth) → is_place q e.0 ≡ b → (o : Option Row) → row_left (shown mark e.1) ≡ o
        → find place_order q (put_shown e.0 o (shown_rows mark es)) ≡ row_at mark (cond b (Some e.1) (find place_order q es))
    go below rest true is (Some row) left = ap (λ (b : Truth). cond b (Some row) (find place_order q (shown_rows mark es))) is ∙ sym left
    go below rest true is None left = unfound place_order place_total q e.0 (shown_rows mark es) (equal (place_order q e.0) is) (below_shown mark e.0 es below) ∙ sym left
    go below rest false is (Some row) left = ap (λ (b : Truth). cond b (Some row) (find place_order q (shown_rows mark es))) is ∙ rest
    go below rest false is None left = rest

get_until : (mark : ℕ) (es : Chained) (q : Place) → T (is_sorted place_order es) → fin.get (rows_until mark es) q ≡ row_at mark (find place_order q es)
get_until mark es q sorted = get-from_sorted place_order (shown_rows mark es) q (sorted_shown mark es sorted) ∙ found_shown mark q es sorted

-- ---- a version more

module _ (es fs : Chained) (p : Place) (v : Version) (was : T (is_sorted place_order es)) (is : T (is_sorted place_order fs)) (found : (q : Place) → find place_order q fs ≡ cond (is_place q p) (Some (versions_in (find place_order p es) ++ v ∷ [])) (find place_order q es)) where
  abbrev old : List Version
  old = versions_in (find place_order p es)

  shown_each : (mark : ℕ) (q : Place) → shown_at mark fs q ≡ cond (is_place q p) (newer (left_until mark v) (shown mark old)) (shown_at mark es q)
  shown_each mark q = ap (λ (o : Option (List Version)). shown mark (versions_in o)) (found q) ∙ go (is_place q p)
    where
      go : (b : Truth) → shown mark (versions_in (cond b (Some (old ++ v ∷ [])) (find place_order q es))) ≡ cond b (newer (left_until mark v) (shown mark old)) (shown_at mark es q)
      go true = shown_snoc mark old v
      go false = refl

  shown_newer : (mark : ℕ) → v.set < mark → (q : Place) → shown_at mark fs q ≡ cond (is_place q p) (Some v.row) (shown_at mark es q)
  shown_newer mark below q = shown_each mark q ∙ ap (λ (o : Option (Option Row)). cond (is_place q p) (newer o (shown mark old)) (shown_at mark es q)) (counted v mark below)

  at_each : (mark : ℕ) (q : Place) → fin.get (rows_until mark fs) q ≡ cond (is_place q p) (row_left (newer (left_until mark v) (shown mark old))) (row_at mark (find place_order q es))
  at_each mark q = get_until mark fs q is ∙ (ap (row_at mark) (found q) ∙ go (is_place q p))
    where
      go : (b : Truth) → row_at mark (cond b (Some (old ++ v ∷ [])) (find place_order q es)) ≡ cond b (row_left (newer (left_until mark v) (shown mark old))) (row_at mark (find place_order q es))
      go true = ap row_left (shown_snoc mark old v)
      go false = refl

  shown_later : (mark : ℕ) → v.set < mark → rows_until mark fs ≡ changed_at (rows_until mark es) p v.row
  shown_later mark below =
      same_rows (rows_until mark fs) (changed_at (rows_until mark es) p v.row) (λ q.
      at_each mark q
      ∙ (ap (λ (o : Option (Option Row)). cond (is_place q p) (row_left (newer o (shown mark old))) (row_at mark (find place_order q es))) (counted v mark below)
      ∙ (ap (cond (is_place q p) v.row) (sym (get_until mark es q was)) ∙ sym (get-changed_at (rows_until mark es) p v.row q))))

  shown_earlier : (mark : ℕ) → mark ≤ v.set → rows_until mark fs ≡ rows_until mark es
  shown_earlier mark up =
      same_rows (rows_until mark fs) (rows_until mark es) (λ q.
      at_each mark q
      ∙ (ap (λ (o : Option (Option Row)). cond (is_place q p) (row_left (newer o (shown mark old))) (row_at mark (find place_order q es))) (uncounted v mark up)
      ∙ (go q (is_place q p) refl ∙ sym (get_until mark es q was))))
    where
      go : (q : Place) (b : Truth) → is_place q p ≡ b → cond b (row_at mark (find place_order p es)) (row_at mark (find place_order q es)) ≡ row_at mark (find place_order q es)
      go q true same = ap (λ (x : Place). row_at mark (find place_order x es)) (sym (one_place q p same))
      go q false same = refl

  version_put : IsPut v.set p v.row es fs
  version_put = record { sorted = is; later = shown_later; earlier = shown_earlier; each = shown_newer }

-- where none was yet
pub put_first : (es : Chained) (n : ℕ) (p : Place) (v : Version) → T (is_sorted place_order es) → StandsBetween place_order p es n → IsPut v.set p v.row es (insert es n (p, v ∷ []))
put_first es n p v sorted between =
    version_put es (insert es n (p, v ∷ [])) p v sorted (put_sorted place_order place_total p (v ∷ []) es n sorted between) (λ q.
    put_found place_order place_total q p (v ∷ []) es n between
    ∙ ap (λ (o : Option (List Version)). cond (is_place q p) (Some (versions_in o ++ v ∷ [])) (find place_order q es))
    (sym (none_between place_order place_total p p es n between (tied_itself place_total p))))

-- behind others
pub put_behind : (es : Chained) (n : ℕ) (p : Place) (vs : List Version) (v : Version) → T (is_sorted place_order es) → StandsAt place_order p es n → slice_get es n ≡ Some (p, vs)
    → IsPut v.set p v.row es (set es n (p, vs ++ v ∷ []))
put_behind es n p vs v sorted at there =
    version_put es (set es n (p, vs ++ v ∷ [])) p v sorted (set_sorted place_order place_total place_antisymmetric p (vs ++ v ∷ []) es n sorted at) (λ q.
    set_found place_order place_total place_antisymmetric q p (vs ++ v ∷ []) es n sorted at
    ∙ ap (λ (o : Option (List Version)). cond (is_place q p) (Some (versions_in o ++ v ∷ [])) (find place_order q es))
    (sym (found_at place_order place_total place_antisymmetric p es n sorted at ∙ ap (option_map (λ (e : Place × List Version). e.1)) there)))

-- ---- what calls leave

chained_put : (xs : List Chain) (n : ℕ) (x : Chain) → all_chained (insert xs n x) ≡ insert (all_chained xs) n (chained x)
chained_put xs zero x = refl
chained_put [] (suc n) x = refl
chained_put (y ∷ xs) (suc n) x = ap (λ (es : Chained). chained y ∷ es) (chained_put xs n x)

chain_there : (xs : List Chain) (n : ℕ) (d : Chain) → n < length xs → slice_get (all_chained xs) n ≡ Some (chained (get_or xs n d))
chain_there [] n d below = absurd (omega arith)
chain_there (x ∷ xs) zero d below = refl
chain_there (x ∷ xs) (suc n) d below = chain_there xs n d (omega arith)

place_there : (p : Place) (xs : List Chain) (n : ℕ) (d : Chain) → StandsAt place_order p (all_chained xs) n → (chained (get_or xs n d)).0 ≡ p
place_there p [] n d at = absurd at
place_there p (x ∷ xs) zero d at = place_antisymmetric (chained x).0 p at
place_there p (x ∷ xs) (suc n) d at = place_there p xs n d at

pub begun_at : (xs ys : List Chain) (n : ℕ) (x : Chain) (p : Place) (v : Version) → ys ≡ insert xs n x → chained x ≡ (p, v ∷ []) → T (is_sorted place_order (all_chained xs))
    → StandsBetween place_order p (all_chained xs) n → IsPut v.set p v.row (all_chained xs) (all_chained ys)
begun_at xs ys n x p v left is sorted between =
    let there : all_chained ys ≡ insert (all_chained xs) n (p, v ∷ []) = ap all_chained left ∙ (chained_put xs n x ∙ ap (insert (all_chained xs) n) is) in
    subst (IsPut v.set p v.row (all_chained xs)) (sym there) (put_first (all_chained xs) n p v sorted between)

pub chain_is : (x : Chain) (c : Change) (v : Version) → x.table ≡ c.table → x.key ≡ c.key → x.versions.items ≡ v ∷ [] → chained x ≡ (place_changed c, v ∷ [])
chain_is x c v table key versions = λ i. (place (table i) (key i), versions i)

chained_set : (xs : List Chain) (n : ℕ) (y : Chain) → n < length xs → all_chained (slice_set xs n y) ≡ set (all_chained xs) n (chained y)
chained_set [] n y below = absurd (omega arith)
chained_set (x ∷ xs) zero y below = refl
chained_set (x ∷ xs) (suc n) y below = ap (λ (es : Chained). chained x ∷ es) (chained_set xs n y (omega arith))

pub went_on_at : (xs : List Chain) (n : ℕ) (x y : Chain) (p : Place) (v : Version) → n < length xs → x ≡ get_or xs n x → chained y ≡ ((chained x).0, (chained x).1 ++ v ∷ []) → T (is_sorted place_order (all_chained xs))
    → StandsAt place_order p (all_chained xs) n → IsPut v.set p v.row (all_chained xs) (all_chained (slice_set xs n y))
went_on_at xs n x y p v below x_is is sorted at =
    let own : (chained x).0 ≡ p = ap (λ (c : Chain). (chained c).0) x_is ∙ place_there p xs n x at in
    let there : slice_get (all_chained xs) n ≡ Some (p, (chained x).1) =
    chain_there xs n x below ∙ (ap (λ (c : Chain). Some (chained c)) (sym x_is) ∙ ap (λ (q : Place). Some (q, (chained x).1)) own) in
    let left : all_chained (slice_set xs n y) ≡ set (all_chained xs) n (p, (chained x).1 ++ v ∷ []) =
    chained_set xs n y below ∙ ap (set (all_chained xs) n) (is ∙ ap (λ (q : Place). (q, (chained x).1 ++ v ∷ [])) own) in
    subst (IsPut v.set p v.row (all_chained xs)) (sym left) (put_behind (all_chained xs) n p (chained x).1 v sorted at there)

-- ---- the changes of a set

pub none_put : (number : ℕ) (es : Chained) → T (is_sorted place_order es) → ArePut number [] es es
none_put number es sorted = record {
  sorted = sorted;
  later = λ mark below. refl;
  earlier = λ mark up. refl;
  each = λ mark below q. ap (λ (o : Option (Option Row)). newer o (shown_at mark es q)) (sym (fin.get-empty place_order q));
}

over_newer : (b : Truth) (row : Option Row) (o before : Option (Option Row)) → cond b (Some row) (newer o before) ≡ newer (cond b (Some row) o) before
over_newer true row o before = refl
over_newer false row o before = refl

taken_change : (changes : List Change) (n : ℕ) (c : Change) (q : Place) → n < length changes → c ≡ get_or changes n c
    → fin.get (changes_of (take (n + 1) changes)) q ≡ cond (is_place q (place_changed c)) (Some c.row) (fin.get (changes_of (take n changes)) q)
taken_change changes n c q below is =
    ap (λ (cs : List Change). fin.get (changes_of cs) q) (take_more changes n c below ∙ ap (λ (d : Change). take n changes ++ d ∷ []) (sym is))
    ∙ (ap (λ (m : Changes). fin.get m q) (changed_on-append no_changes (take n changes) (c ∷ []))
    ∙ fin.get-insert place_total (changes_of (take n changes)) (place_changed c) c.row q)

pub one_put_more : (number : ℕ) (changes : List Change) (n : ℕ) (c : Change) (es fs gs : Chained) → n < length changes → c ≡ get_or changes n c → ArePut number (take n changes) es fs
    → IsPut number (place_changed c) c.row fs gs → ArePut number (take (n + 1) changes) es gs
one_put_more number changes n c es fs gs below is before put = record {
  sorted = put.sorted;
  later = λ mark up.
      put.later mark up
      ∙ (ap (λ (rows : Rows). changed_at rows (place_changed c) c.row) (before.later mark up)
      ∙ sym (ap (all_laid (rows_until mark es)) (take_more changes n c below ∙ ap (λ (d : Change). take n changes ++ d ∷ []) (sym is))
      ∙ laid_append (rows_until mark es) (take n changes) (c ∷ [])));
  earlier = λ mark low. put.earlier mark low ∙ before.earlier mark low;
  each = λ mark up q.
      put.each mark up q
      ∙ (ap (cond (is_place q (place_changed c)) (Some c.row)) (before.each mark up q)
      ∙ (over_newer (is_place q (place_changed c)) c.row (fin.get (changes_of (take n changes)) q) (shown_at mark es q)
      ∙ ap (λ (o : Option (Option Row)). newer o (shown_at mark es q)) (sym (taken_change changes n c q below is))));
}

-- ---- the sets of a log

pub one_set_more : (sets : List ChangeSet) (one : ChangeSet) (es fs : Chained) → AreOfSets es sets → ArePut (length sets) one.changes.items es fs → AreOfSets fs (sets ++ one ∷ [])
one_set_more sets one es fs before put mark = go (nat_lt (length sets) mark) refl
  where
    go : (b : Truth) → nat_lt (length sets) mark ≡ b → rows_until mark fs ≡ rows_of (take mark (sets ++ one ∷ []))
    go true is =
        let up : length sets < mark = ltb-true (length sets) mark is in
        let long : length (sets ++ one ∷ []) ≡ length sets + 1 = length-append sets (one ∷ []) in
        put.later mark up
        ∙ (ap (λ (rows : Rows). all_laid rows one.changes.items) (before mark ∙ ap rows_of (take_all mark sets (omega arith)))
        ∙ (all_laid_is one.changes.items (rows_of sets)
        ∙ (sym (rows_on-snoc no_rows sets one) ∙ ap rows_of (sym (take_all mark (sets ++ one ∷ []) (omega (arith, long, up)))))))
    go false is =
        let low : mark ≤ length sets = ltb-false (length sets) mark is in
        put.earlier mark low ∙ (before mark ∙ ap rows_of (sym (take-append-le mark sets (one ∷ []) low)))

pub set_taken : (log : List ChangeSet) (n : ℕ) (one : ChangeSet) (read : List Change) (es fs : Chained) → n < length log → one ≡ get_or log n one → read ≡ one.changes.items → AreOfSets es (take n log)
    → ArePut n read es fs → AreOfSets fs (take (n + 1) log)
set_taken log n one read es fs below is read_is before put =
    let long : length (take n log) ≡ n = length-take-le n log (omega arith) in
    subst (AreOfSets fs) (sym (take_more log n one below ∙ ap (λ (d : ChangeSet). take n log ++ d ∷ []) (sym is)))
    (one_set_more (take n log) one es fs before
    (subst (λ (k : ℕ). ArePut k one.changes.items es fs) (sym long) (subst (λ (cs : List Change). ArePut n cs es fs) read_is put)))

pub none_chained : (xs : List Chain) (mark : ℕ) → xs ≡ [] → rows_until mark (all_chained xs) ≡ rows_of (take mark [])
none_chained xs mark is =
    ap (λ (ys : List Chain). rows_until mark (all_chained ys)) is
    ∙ (same_rows (rows_until mark []) no_rows (λ q. get-from_sorted place_order [] q tt ∙ sym (fin.get-empty place_order q))
    ∙ ap rows_of (sym (take_all mark [] (omega arith))))

-- ---- the row of a place

pub row_at_chain : (mark : ℕ) (p : Place) (xs : List Chain) (n : ℕ) (x : Chain) → T (is_sorted place_order (all_chained xs)) → n < length xs → x ≡ get_or xs n x → StandsAt place_order p (all_chained xs) n
    → row_left (shown mark x.versions.items) ≡ fin.get (rows_until mark (all_chained xs)) p
row_at_chain mark p xs n x sorted below is at =
    sym (get_until mark (all_chained xs) p sorted
    ∙ ap (row_at mark)
    (found_at place_order place_total place_antisymmetric p (all_chained xs) n sorted at
    ∙ (ap (option_map (λ (e : Place × List Version). e.1)) (chain_there xs n x below) ∙ ap (λ (c : Chain). Some c.versions.items) (sym is))))

pub none_at_chain : (mark : ℕ) (p : Place) (xs : List Chain) (n : ℕ) → T (is_sorted place_order (all_chained xs)) → StandsBetween place_order p (all_chained xs) n
    → None ≡ fin.get (rows_until mark (all_chained xs)) p
none_at_chain mark p xs n sorted between =
    sym (get_until mark (all_chained xs) p sorted ∙ ap (row_at mark) (none_between place_order place_total p p (all_chained xs) n between (tied_itself place_total p)))

-- ---- the first row of a table, and the row behind a key

first_next : (mark table : ℕ) (xs : List Chain) (n : ℕ) (x : Chain) → n < length xs → x ≡ get_or xs n x
    → first_entry mark table (drop n (all_chained xs)) ≡ (if x.table == table then entry_or (entry_left x.key (row_left (shown mark x.versions.items))) (first_entry mark table (drop (suc n) (all_chained xs))) else None)
first_next mark table [] n x below is = absurd (omega arith)
first_next mark table (y ∷ xs) zero x below is =
    ap (λ (c : Chain). if c.table == table then entry_or (entry_left c.key (row_left (shown mark c.versions.items))) (first_entry mark table (all_chained xs)) else None) (sym is)
first_next mark table (y ∷ xs) (suc n) x below is = first_next mark table xs n x (omega arith) is

-- a walk over chains: one of another table ends it, one that shows a row too, any other is passed
module _ (mark table : ℕ) (xs : List Chain) (n : ℕ) (x : Chain) (whole : Option Entry) (below : n < length xs) (is : x ≡ get_or xs n x) (so_far : first_entry mark table (drop n (all_chained xs)) ≡ whole) where
  chain_step : (b : Truth) (o : Option Row) → (x.table == table) ≡ b → row_left (shown mark x.versions.items) ≡ o
      → (if b then entry_or (entry_left x.key o) (first_entry mark table (drop (n + 1) (all_chained xs))) else None) ≡ whole
  chain_step b o b_is o_is =
      ap (λ (k : ℕ). if b then entry_or (entry_left x.key o) (first_entry mark table (drop k (all_chained xs))) else None) (add-one n)
      ∙ (ap (λ (c : Truth). if c then entry_or (entry_left x.key o) (first_entry mark table (drop (suc n) (all_chained xs))) else None) (sym b_is)
      ∙ (ap (λ (r : Option Row). if x.table == table then entry_or (entry_left x.key r) (first_entry mark table (drop (suc n) (all_chained xs))) else None) (sym o_is)
      ∙ (sym (first_next mark table xs n x below is) ∙ so_far)))

  pub table_ends : (x.table ≡ table → ⊥) → None ≡ whole
  table_ends other = go (x.table == table) refl
    where
      go : (b : Truth) → (x.table == table) ≡ b → None ≡ whole
      go true same = absurd (other (eqb-true x.table table same))
      go false apart = chain_step false (row_left (shown mark x.versions.items)) apart refl

  pub chain_shows : (row : Row) → x.table ≡ table → Some row ≡ row_left (shown mark x.versions.items) → Some (entry x.key row) ≡ whole
  chain_shows row same shows = chain_step true (Some row) (eq-eqb x.table table same) (sym shows)

  pub chain_passed : x.table ≡ table → None ≡ row_left (shown mark x.versions.items) → first_entry mark table (drop (n + 1) (all_chained xs)) ≡ whole
  chain_passed same shows = chain_step true None (eq-eqb x.table table same) (sym shows)

pub chains_end : (mark table : ℕ) (xs : List Chain) (n : ℕ) (whole : Option Entry) → length xs ≤ n → first_entry mark table (drop n (all_chained xs)) ≡ whole → None ≡ whole
chains_end mark table xs n whole past so_far =
    let long : length (all_chained xs) ≡ length xs = length-map xs chained in
    ap (first_entry mark table) (sym (drop_all n (all_chained xs) (omega (arith, long, past)))) ∙ so_far

module _ (table : ℕ) (after : Option Value) where
  skipped : (p : Place) (o : Option Row) (es : List (Place × Row)) → ((row : Row) → ((p.table == table) && is_behind after (entry p.key row)) ≡ false)
      → found_in table after (put_shown p o es) ≡ found_in table after es
  skipped p None es apart = refl
  skipped p (Some row) es apart = passed_by table after (p, row) es (p.table == table) (is_behind after (entry p.key row)) refl refl (apart row)

  module _ (mark : ℕ) (test : Place × List Version → Truth)
      (passes : (e : Place × List Version) → test e ≡ true → (e.0.table == table) ≡ true → (row : Row) → is_behind after (entry e.0.key row) ≡ false)
      (fails : (e : Place × List Version) → test e ≡ false → (e.0.table == table) ≡ true → (row : Row) → is_behind after (entry e.0.key row) ≡ true)
      (later : (e : Place × List Version) → test e ≡ false → (e.0.table == table) ≡ false → table < e.0.table) where
    behind_shown : (es : Chained) (n : ℕ) → T (is_sorted place_order es) → IsParted test es n → found_in table after (shown_rows mark es) ≡ first_entry mark table (drop n es)
    behind_shown [] zero sorted parted = refl
    behind_shown [] (suc n) sorted parted = absurd parted
    behind_shown (e ∷ es) zero sorted parted =
        let parts = both_hold _ _ sorted in
        go parts.0 (behind_shown es zero parts.1 parted.1) (e.0.table == table) refl (row_left (shown mark e.1))
      where
        go : T (below_all place_order e.0 es) → found_in table after (shown_rows mark es) ≡ first_entry mark table es → (b : Truth) → (e.0.table == table) ≡ b → (o : Option Row)
            → found_in table after (put_shown e.0 o (shown_rows mark es)) ≡ (if b then entry_or (entry_left e.0.key o) (first_entry mark table es) else None)
        go below rest true is (Some row) = first_found table after (e.0, row) (shown_rows mark es) is (fails e parted.0 is row)
        go below rest true is None = rest
        go below rest false is (Some row) = none_found table after (e.0, row) (shown_rows mark es) is (later e parted.0 is) (below_shown mark e.0 es below)
        go below rest false is None =
            ap (λ (fs : List (Place × Row)). first (is_behind after) (map to_entry fs)) (none_later table e.0 (shown_rows mark es) (later e parted.0 is) (below_shown mark e.0 es below))
    behind_shown (e ∷ es) (suc n) sorted parted =
        let parts = both_hold _ _ sorted in
        skipped e.0 (row_left (shown mark e.1)) (shown_rows mark es) (λ row. apart row (e.0.table == table) refl) ∙ behind_shown es n parts.1 parted.1
      where
        apart : (row : Row) (b : Truth) → (e.0.table == table) ≡ b → (b && is_behind after (entry e.0.key row)) ≡ false
        apart row true is = passes e parted.0 is row
        apart row false is = refl

first_chain : (mark table : ℕ) (es : Chained) (n : ℕ) → T (is_sorted place_order es) → IsParted (is_before table) es n → first (is_behind None) (entries_in (rows_until mark es) table) ≡ first_entry mark table (drop n es)
first_chain mark table es n sorted parted =
    ap (λ (fs : List (Place × Row)). found_in table None fs) (entries-from_sorted place_order (shown_rows mark es) (sorted_shown mark es sorted))
    ∙ behind_shown table None mark (is_before table) passes (λ e fails is row. refl) later es n sorted parted
  where
    passes : (e : Place × List Version) → is_before table e ≡ true → (e.0.table == table) ≡ true → (row : Row) → true ≡ false
    passes e is of row = absurd (let below : e.0.table < table = ltb-true e.0.table table is in let same : e.0.table ≡ table = eqb-true e.0.table table of in omega arith)

    later : (e : Place × List Version) → is_before table e ≡ false → (e.0.table == table) ≡ false → table < e.0.table
    later e is of = let up : table ≤ e.0.table = ltb-false e.0.table table is in let other = other_table table e.0.table of in omega arith

behind_chain : (mark table : ℕ) (key : Value) (es : Chained) (n : ℕ) → T (is_sorted place_order es) → IsParted (is_up_to (place table key)) es n
    → first (is_behind (Some key)) (entries_in (rows_until mark es) table) ≡ first_entry mark table (drop n es)
behind_chain mark table key es n sorted parted =
    ap (λ (fs : List (Place × Row)). found_in table (Some key) fs) (entries-from_sorted place_order (shown_rows mark es) (sorted_shown mark es sorted))
    ∙ behind_shown table (Some key) mark (is_up_to (place table key)) passes fails later es n sorted parted
  where
    passes : (e : Place × List Version) → is_up_to (place table key) e ≡ true → (e.0.table == table) ≡ true → (row : Row) → is_gt (key_order e.0.key key) ≡ false
    passes e is of row = ap is_gt (sym (same_table e.0 table key (eqb-true e.0.table table of))) ∙ not_true (is_gt (place_order e.0 (place table key))) is

    fails : (e : Place × List Version) → is_up_to (place table key) e ≡ false → (e.0.table == table) ≡ true → (row : Row) → is_gt (key_order e.0.key key) ≡ true
    fails e is of row = ap is_gt (sym (same_table e.0 table key (eqb-true e.0.table table of))) ∙ not_false (is_gt (place_order e.0 (place table key))) is

    later : (e : Place × List Version) → is_up_to (place table key) e ≡ false → (e.0.table == table) ≡ false → table < e.0.table
    later e is of = later_table e.0 table key (not_false (is_gt (place_order e.0 (place table key))) is) (other_table table e.0.table of)

-- the first row behind a key, or of all
pub chain_behind : (mark table : ℕ) (key : Option Value) (es : Chained) (n : ℕ) → T (is_sorted place_order es) → IsParted (is_passed table key) es n
    → first (is_behind key) (entries_in (rows_until mark es) table) ≡ first_entry mark table (drop n es)
chain_behind mark table None es n sorted parted = first_chain mark table es n sorted parted
chain_behind mark table (Some key) es n sorted parted = behind_chain mark table key es n sorted parted

-- ---- what calls answer of them

pub chain_found : (mark : ℕ) (p : Place) (xs ys : List Chain) (n : ℕ) (x : Chain) → ys ≡ xs → T (is_sorted place_order (all_chained xs)) → (n < length ys) × StandsAt place_order p (all_chained ys) n
    → x ≡ get_or ys n x → row_left (shown mark x.versions.items) ≡ fin.get (rows_until mark (all_chained xs)) p
chain_found mark p xs ys n x same sorted at is =
    subst (λ (zs : List Chain). row_left (shown mark x.versions.items) ≡ fin.get (rows_until mark (all_chained zs)) p) same
    (row_at_chain mark p ys n x (subst (λ (zs : List Chain). T (is_sorted place_order (all_chained zs))) (sym same) sorted) at.0 is at.1)

pub chain_unfound : (mark : ℕ) (p : Place) (xs ys : List Chain) (n : ℕ) → ys ≡ xs → T (is_sorted place_order (all_chained xs)) → (n ≤ length ys) × StandsBetween place_order p (all_chained ys) n
    → None ≡ fin.get (rows_until mark (all_chained xs)) p
chain_unfound mark p xs ys n same sorted between =
    none_at_chain mark p xs n sorted (subst (λ (zs : List Chain). StandsBetween place_order p (all_chained zs) n) same between.1)

pub chain_answered : (mark table : ℕ) (key : Option Value) (xs ys : List Chain) (n : ℕ) (r : Option Entry) → ys ≡ xs → T (is_sorted place_order (all_chained xs)) → IsParted (is_passed table key) (all_chained ys) n
    → r ≡ first_entry mark table (drop n (all_chained ys)) → r ≡ first (is_behind key) (entries_in (rows_until mark (all_chained xs)) table)
chain_answered mark table key xs ys n r same sorted parted is =
    is
    ∙ (ap (λ (zs : List Chain). first_entry mark table (drop n (all_chained zs))) same
    ∙ sym (chain_behind mark table key (all_chained xs) n sorted (subst (λ (zs : List Chain). IsParted (is_passed table key) (all_chained zs) n) same parted)))

pub passed_none : (table : ℕ) (k : Option (Bor Value)) (xs : List Chain) (n : ℕ) → k ≡ None → IsParted (is_before table) (all_chained xs) n
    → IsParted (is_passed table (option_map (λ (b : Bor Value). b.now) k)) (all_chained xs) n
passed_none table k xs n none parted = subst (λ (o : Option (Bor Value)). IsParted (is_passed table (option_map (λ (b : Bor Value). b.now) o)) (all_chained xs) n) (sym none) parted

pub passed_some : (table : ℕ) (k : Option (Bor Value)) (key : Bor Value) (xs : List Chain) (n : ℕ) → k ≡ Some key → IsParted (is_up_to (place table key.now)) (all_chained xs) n
    → IsParted (is_passed table (option_map (λ (b : Bor Value). b.now) k)) (all_chained xs) n
passed_some table k key xs n some parted = subst (λ (o : Option (Bor Value)). IsParted (is_passed table (option_map (λ (b : Bor Value). b.now) o)) (all_chained xs) n) (sym some) parted

pub made_new : (changes : List Change) (xs ys : List Chain) → xs ≡ [] → ArePut 0 changes (all_chained xs) (all_chained ys) → (p : Place) → shown_at 1 (all_chained ys) p ≡ fin.get (changes_of changes) p
made_new changes xs ys none put = λ p.
    put.each 1 (omega arith) p
    ∙ (ap (λ (zs : List Chain). newer (fin.get (changes_of changes) p) (shown_at 1 (all_chained zs) p)) none ∙ newer_none (fin.get (changes_of changes) p))

pub none_sorted : (xs : List Chain) → xs ≡ [] → T (is_sorted place_order (all_chained xs))
none_sorted xs none = subst (λ (zs : List Chain). T (is_sorted place_order (all_chained zs))) (sym none) tt
