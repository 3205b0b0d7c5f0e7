-- The first row behind a key: by the list of entries, and by what stands at each place.
use Rattle.std.proofs.Common.{◌≡◌, ℕ, List, [], ◌∷◌, refl, ap, sym, ◌∙◌, subst}
use Rattle.std.specs.Prelude.{◌==◌, ◌&&◌, cond, T, Bool as Truth, true, false, Option, Some, None}
use Rattle.std.specs.List.{find as first}
use Rattle.std.specs.Option.{option_map}
use Rattle.std.specs.FinMap as fin
use Rattle.std.specs.FinMap.Entries.{below_all, find, is_sorted}
use Rattle.std.specs.declared.cmp.Ordering.{Ordering}
use Rattle.std.specs.declared.cmp.Ordering.TheVariants.{Less}
use Rattle.std.specs.Ordering.{is_eq, is_lt}
use Rattle.std.proofs.lemmas.Bool.{eq-eqb, eqb-true}
use Rattle.std.proofs.lemmas.Cmp.{tied_itself}
use Rattle.pg_values.specs.declared.value.Value.{Value}
use Rattle.sql_eval.specs.declared.row.Row.{Row}
use Rattle.sql_eval.specs.Views.{Entry, entries_in, entry, is_behind, row_behind}
use Rattle.backend_trait.specs.Keys.{Place, is_place, key_order, place, place_order}
use Rattle.backend_trait.specs.Rows.{Rows}
use Rattle.backend_trait.proofs.KeyLaws.{place_total}
use Rattle.outcomes.specs.Behind.{IsFirst, IsNext, NoneBehind, is_after}
use Rattle.outcomes.proofs.Entries.{both_hold, is_less, passed, turned_greater}
use Rattle.outcomes.proofs.Numbers.{first_found, found_in, passed_by, row_of, same_table, to_entry}
use Rattle.outcomes.proofs.Ordered.{one_place}

pub behind_is : (after : Option Value) (e : Entry) → is_behind after e ≡ is_after after e.key
behind_is None e = refl
behind_is (Some key) e = refl

-- a place of that table is that of its key
own_place : (table : ℕ) (p : Place) → (p.table == table) ≡ true → place table p.key ≡ p
own_place table p of = let same : p.table ≡ table = eqb-true p.table table of in λ i. place (sym same i) p.key

-- what is at a place that is the first of a list
there_first : (e : Place × Row) (es : List (Place × Row)) (p : Place) → p ≡ e.0 → find place_order p (e ∷ es) ≡ Some e.1
there_first e es p same = ap (λ (q : Place). cond (is_place q e.0) (Some e.1) (find place_order q es)) same ∙ ap (λ (r : Ordering). cond (is_eq r) (Some e.1) (find place_order e.0 es)) (tied_itself place_total e.0)

-- what is at another place
there_else : (e : Place × Row) (es : List (Place × Row)) (p : Place) → is_place p e.0 ≡ false → find place_order p (e ∷ es) ≡ find place_order p es
there_else e es p apart = ap (λ (b : Truth). cond b (Some e.1) (find place_order p es)) apart

-- what is there stands behind what stands before all
found_below : (q p : Place) (row : Row) (es : List (Place × Row)) → T (below_all place_order q es) → find place_order p es ≡ Some row → place_order q p ≡ Less
found_below q p row [] below there = absurd (let f : None ≡ Some row = there in cc)
found_below q p row (e ∷ es) below there = let parts = both_hold _ _ below in go parts.0 (found_below q p row es parts.1) (is_place p e.0) refl there
  where
    go : T (is_lt (place_order q e.0)) → (find place_order p es ≡ Some row → place_order q p ≡ Less) → (b : Truth) → is_place p e.0 ≡ b → cond b (Some e.1) (find place_order p es) ≡ Some row → place_order q p ≡ Less
    go less rest true is there = ap (place_order q) (one_place p e.0 is) ∙ is_less (place_order q e.0) less
    go less rest false is there = rest there

pub none_below : (p q : Place) (es : List (Place × Row)) → place_order p q ≡ Less → T (below_all place_order q es) → find place_order p es ≡ None
none_below p q [] less below = refl
none_below p q (e ∷ es) less below =
    let parts = both_hold _ _ below in
    passed place_order place_total p Less e es (place_total.trans p q e.0 less (is_less (place_order q e.0) parts.0)) refl ∙ none_below p q es less parts.1

less_apart : (p q : Place) → place_order p q ≡ Less → is_place p q ≡ false
less_apart p q less = ap is_eq less

greater_apart : (p q : Place) → place_order q p ≡ Less → is_place p q ≡ false
greater_apart p q less = ap is_eq (turned_greater place_order place_total q p less)

module _ (table : ℕ) (after : Option Value) where
  abbrev at : Value → Place
  at k = place table k

  -- whether an entry is of the table and behind
  abbrev is_next : Place × Row → Truth
  is_next e = (e.0.table == table) && is_behind after (to_entry e)

  next_parts : (b c : Truth) → (b && c) ≡ true → (b ≡ true) × (c ≡ true)
  next_parts true c both = (refl, both)
  next_parts false c both = absurd (let f : false ≡ true = both in cc)

  next_skipped : (e : Place × Row) (es : List (Place × Row)) → is_next e ≡ false → found_in table after (e ∷ es) ≡ found_in table after es
  next_skipped e es skipped = passed_by table after e es (e.0.table == table) (is_behind after (to_entry e)) refl refl skipped

  next_found : (e : Place × Row) (es : List (Place × Row)) → is_next e ≡ true → found_in table after (e ∷ es) ≡ Some (to_entry e)
  next_found e es is = let parts = next_parts (e.0.table == table) (is_behind after (to_entry e)) is in first_found table after e es parts.0 parts.1

  next_own : (e : Place × Row) → is_next e ≡ true → at e.0.key ≡ e.0
  next_own e is = own_place table e.0 (next_parts (e.0.table == table) (is_behind after (to_entry e)) is).0

  next_behind : (e : Place × Row) → is_next e ≡ true → is_after after e.0.key ≡ true
  next_behind e is = sym (behind_is after (to_entry e)) ∙ (next_parts (e.0.table == table) (is_behind after (to_entry e)) is).1

  -- an entry at a key that is behind is the next one
  next_at : (e : Place × Row) (k : Value) → is_place (at k) e.0 ≡ true → is_after after k ≡ true → is_next e ≡ true
  next_at e k is behind =
      let same : at k ≡ e.0 = one_place (at k) e.0 is in
      let of : (e.0.table == table) ≡ true = eq-eqb e.0.table table (ap (λ (p : Place). p.table) (sym same)) in
      let later : is_behind after (to_entry e) ≡ true = behind_is after (to_entry e) ∙ (ap (λ (p : Place). is_after after p.key) (sym same) ∙ behind) in
      ap (λ (b : Truth). b && is_behind after (to_entry e)) of ∙ later

  not_next : (e : Place × Row) (k : Value) → is_next e ≡ false → is_after after k ≡ true → is_place (at k) e.0 ≡ false
  not_next e k skipped behind = go (is_place (at k) e.0) refl
    where
      go : (b : Truth) → is_place (at k) e.0 ≡ b → b ≡ false
      go true is = absurd (let f : true ≡ false = sym (next_at e k is behind) ∙ skipped in cc)
      go false is = refl

  -- ---- from the list to the places

  none_in : (es : List (Place × Row)) → found_in table after es ≡ None → (k : Value) → is_after after k ≡ true → find place_order (at k) es ≡ None
  none_in [] none k behind = refl
  none_in (e ∷ es) none k behind = go (none_in es) (is_next e) refl
    where
      go : (found_in table after es ≡ None → (k : Value) → is_after after k ≡ true → find place_order (at k) es ≡ None) → (b : Truth) → is_next e ≡ b → find place_order (at k) (e ∷ es) ≡ None
      go rest true is = absurd (let f : Some (to_entry e) ≡ None = sym (next_found e es is) ∙ none in cc)
      go rest false is = there_else e es (at k) (not_next e k is behind) ∙ rest (sym (next_skipped e es is) ∙ none) k behind

  record IsFirstIn (es : List (Place × Row)) (x : Entry) : Type 0 where
    pub there : find place_order (at x.key) es ≡ Some x.row
    pub behind : is_after after x.key ≡ true
    pub first : (k : Value) → is_after after k ≡ true → key_order k x.key ≡ Less → find place_order (at k) es ≡ None

  -- keys of the table stand as their places do
  places_less : (j k : Value) → key_order j k ≡ Less → place_order (at j) (at k) ≡ Less
  places_less j k less = same_table (at j) table k refl ∙ less

  some_in : (es : List (Place × Row)) (x : Entry) → T (is_sorted place_order es) → found_in table after es ≡ Some x → IsFirstIn es x
  some_in [] x sorted is = absurd (let f : None ≡ Some x = is in cc)
  some_in (e ∷ es) x sorted is = let parts = both_hold _ _ sorted in go parts.0 (some_in es x parts.1) (is_next e) refl
    where
      go : T (below_all place_order e.0 es) → (found_in table after es ≡ Some x → IsFirstIn es x) → (b : Truth) → is_next e ≡ b → IsFirstIn (e ∷ es) x
      go below rest true next =
          let found : Some (to_entry e) ≡ Some x = sym (next_found e es next) ∙ is in
          let same : to_entry e ≡ x = cc in
          subst (IsFirstIn (e ∷ es)) same (record {
            there = there_first e es (at e.0.key) (next_own e next);
            behind = next_behind e next;
            first = λ k behind less.
                let low : place_order (at k) e.0 ≡ Less = ap (place_order (at k)) (sym (next_own e next)) ∙ places_less k e.0.key less in
                there_else e es (at k) (less_apart (at k) e.0 low) ∙ none_below (at k) e.0 es low below;
          })
      go below rest false skipped =
          let tail = rest (sym (next_skipped e es skipped) ∙ is) in
          record {
            there = there_else e es (at x.key) (not_next e x.key skipped tail.behind) ∙ tail.there;
            behind = tail.behind;
            first = λ k behind less. there_else e es (at k) (not_next e k skipped behind) ∙ tail.first k behind less;
          }

  -- ---- from the places to the list

  tail_none : (e : Place × Row) (es : List (Place × Row)) (p : Place) → find place_order p (e ∷ es) ≡ None → find place_order p es ≡ None
  tail_none e es p none = go (is_place p e.0) none
    where
      go : (b : Truth) → cond b (Some e.1) (find place_order p es) ≡ None → find place_order p es ≡ None
      go true f = absurd (let g : Some e.1 ≡ None = f in cc)
      go false f = f

  none_listed : (es : List (Place × Row)) → ((k : Value) → is_after after k ≡ true → find place_order (at k) es ≡ None) → found_in table after es ≡ None
  none_listed [] none = refl
  none_listed (e ∷ es) none = go (none_listed es (λ k behind. tail_none e es (at k) (none k behind))) (is_next e) refl
    where
      go : found_in table after es ≡ None → (b : Truth) → is_next e ≡ b → found_in table after (e ∷ es) ≡ None
      go rest true is = absurd (let f : Some e.1 ≡ None = sym (there_first e es (at e.0.key) (next_own e is)) ∙ none e.0.key (next_behind e is) in cc)
      go rest false is = next_skipped e es is ∙ rest

  one_listed : (es : List (Place × Row)) (x : Entry) → T (is_sorted place_order es) → IsFirstIn es x → option_map row_of (found_in table after es) ≡ Some x.row
  one_listed [] x sorted one = absurd (let f : None ≡ Some x.row = one.there in cc)
  one_listed (e ∷ es) x sorted one = let parts = both_hold _ _ sorted in go parts.0 (one_listed es x parts.1) (is_place (at x.key) e.0) refl (is_next e) refl
    where
      go : T (below_all place_order e.0 es) → (IsFirstIn es x → option_map row_of (found_in table after es) ≡ Some x.row) → (t : Truth) → is_place (at x.key) e.0 ≡ t → (b : Truth) → is_next e ≡ b
          → option_map row_of (found_in table after (e ∷ es)) ≡ Some x.row
      go below rest true tie true is = ap (option_map row_of) (next_found e es is) ∙ (sym (there_first e es (at x.key) (one_place (at x.key) e.0 tie)) ∙ one.there)
      go below rest true tie false is = absurd (let f : true ≡ false = sym (next_at e x.key tie one.behind) ∙ is in cc)
      go below rest false apart true is =
          let there : find place_order (at x.key) es ≡ Some x.row = sym (there_else e es (at x.key) apart) ∙ one.there in
          let less : key_order e.0.key x.key ≡ Less =
          sym (same_table (at e.0.key) table x.key refl) ∙ (ap (λ (p : Place). place_order p (at x.key)) (next_own e is) ∙ found_below e.0 (at x.key) x.row es below there) in
          absurd (let f : Some e.1 ≡ None = sym (there_first e es (at e.0.key) (next_own e is)) ∙ one.first e.0.key (next_behind e is) less in cc)
      go below rest false apart false is =
          ap (option_map row_of) (next_skipped e es is)
          ∙ rest (record {
            there = sym (there_else e es (at x.key) apart) ∙ one.there;
            behind = one.behind;
            first = λ k behind less. tail_none e es (at k) (one.first k behind less);
          })

  -- ---- of rows

  module _ (rows : Rows) where
    there_is : (p : Place) → fin.get rows p ≡ find place_order p (fin.entries rows)
    there_is p = fin.get-entries rows p

    pub none_stands : first (is_behind after) (entries_in rows table) ≡ None → NoneBehind rows table after
    none_stands none = λ k behind. there_is (at k) ∙ none_in (fin.entries rows) none k behind

    pub first_stands : (x : Entry) → first (is_behind after) (entries_in rows table) ≡ Some x → IsFirst rows table after x.key x.row
    first_stands x is =
        let one = some_in (fin.entries rows) x (fin.entries_sorted rows) is in
        record { there = there_is (at x.key) ∙ one.there; behind = one.behind; first = λ k behind less. there_is (at k) ∙ one.first k behind less }

    pub next_row : (r : Option Row) → IsNext rows table after r → r ≡ row_behind rows table after
    next_row None none = sym (ap (option_map row_of) (none_listed (fin.entries rows) (λ k behind. sym (there_is (at k)) ∙ none k behind)))
    next_row (Some row) (key, one) =
        sym (one_listed (fin.entries rows) (entry key row) (fin.entries_sorted rows)
        (record { there = sym (there_is (at key)) ∙ one.there; behind = one.behind; first = λ k behind less. sym (there_is (at k)) ∙ one.first k behind less }))
