-- What is found of a name once an item stands behind the others, and how the numbers follow.
use Rattle.std.proofs.Common.{◌≡◌, ◌≤◌, ℕ, zero, suc, ◌+◌, Bool, true, false, cond, ◌||◌, if◌then◌else◌, List, [], ◌∷◌, ◌++◌, length, slice_get, Option, Some, None, is_some, option_map, String, string_bytes, string_eq, bytes_eq, Result, Ok, Err, IsOk, OnOk, refl, sym, ap, ◌∙◌, true≢false, arith}
use Rattle.std.proofs.lemmas.Option.{same_Some}
use Rattle.std.specs.Cmp.Lexicographic.{bytes_decides, nat_list_eq_equiv}
use Rattle.std.specs.List.{list_any}
use Rattle.std.specs.Map.{lookup}
use Rattle.indexmap.specs.IndexMap.{IndexMap, get_by_text, insert_entry}
use Rattle.indexmap.proofs.CallerLemmas.{insert_entry-new}
use Rattle.named_list.specs.Names.{found_from, AreNumbers}

-- the one, or where there is none the other
abbrev pub or_else : {A : Type 0} → Option A → Option A → Option A
or_else None other = other
or_else (Some a) other = Some a

-- what stands at the name once (key, n) is a last entry
pub lookup_push : {K V : Type 0} (test : K → Bool) (es : List (K × V)) (e : K × V)
    → lookup test (es ++ e ∷ []) ≡ or_else (lookup test es) (cond (test e.0) (Some e.1) None)
lookup_push test [] e = refl
lookup_push {K} {V} test (f ∷ fs) e = by (test f.0) (lookup_push test fs e)
  where
    by : (b : Bool) → lookup test (fs ++ e ∷ []) ≡ or_else (lookup test fs) (cond (test e.0) (Some e.1) None)
        → cond b (Some f.1) (lookup test (fs ++ e ∷ [])) ≡ or_else (cond b (Some f.1) (lookup test fs)) (cond (test e.0) (Some e.1) None)
    by true rest = refl
    by false rest = rest

none_is_some : {A : Type 0} {a : A} → Some a ≡ None → ⊥
none_is_some e = true≢false (ap is_some e)

none_from_test : {A : Type 0} (r : Option A) → is_some r ≡ false → r ≡ None
none_from_test None h = refl
none_from_test (Some a) h = absurd (true≢false h)

-- what holds of a call that succeeds, where it does
pub ok_gives : {A E : Type 0} (r : Result A E) (P : Type 0) → IsOk r → OnOk r P → P
ok_gives (Ok a) P ok p = p
ok_gives (Err e) P ok p = absurd (true≢false (sym ok))

module _ {X : Type 0} (name_of : X → List ℕ) where
  -- the item alone, with this number, where it has the name
  abbrev pub found_last : ℕ → List ℕ → X → Option (ℕ × X)
  found_last number name x = if bytes_eq (name_of x) name then Some (number, x) else None

  -- the last item is found where none before it has the name
  pub found_push : (number : ℕ) (name : List ℕ) (xs : List X) (x : X)
      → found_from name_of number name (xs ++ x ∷ []) ≡ or_else (found_from name_of number name xs) (found_last (number + length xs) name x)
  found_push number name [] x = ap (λ n. found_last n name x) (omega arith)
  found_push number name (y ∷ ys) x = by (bytes_eq (name_of y) name) (found_push (suc number) name ys x)
    where
      by : (b : Bool)
          → found_from name_of (suc number) name (ys ++ x ∷ []) ≡ or_else (found_from name_of (suc number) name ys) (found_last (suc number + length ys) name x)
          → (if b then Some (number, y) else found_from name_of (suc number) name (ys ++ x ∷ []))
          ≡ or_else (if b then Some (number, y) else found_from name_of (suc number) name ys) (found_last (number + length (y ∷ ys)) name x)
      by true rest = refl
      by false rest = rest ∙ ap (λ n. or_else (found_from name_of (suc number) name ys) (found_last n name x)) (omega arith)

  -- no number is below the first
  pub found_least : (number : ℕ) (name : List ℕ) (xs : List X) (n : ℕ) → Some n ≡ option_map (λ r. r.0) (found_from name_of number name xs) → number ≤ n
  found_least number name [] n e = absurd (none_is_some e)
  found_least number name (y ∷ ys) n e = by (bytes_eq (name_of y) name) (found_least (suc number) name ys n) e
    where
      by : (b : Bool) → (Some n ≡ option_map (λ r. r.0) (found_from name_of (suc number) name ys) → suc number ≤ n)
          → Some n ≡ option_map (λ r. r.0) (if b then Some (number, y) else found_from name_of (suc number) name ys) → number ≤ n
      by true rest e = let same : n ≡ number = same_Some _ _ e in omega (arith, same)
      by false rest e = omega (arith, rest e)

  -- the item at the number that is found is the one that is found
  pub found_item : (number : ℕ) (name : List ℕ) (xs : List X) (i : ℕ)
      → Some (number + i) ≡ option_map (λ r. r.0) (found_from name_of number name xs)
      → option_map (λ x. (number + i, x)) (slice_get xs i) ≡ found_from name_of number name xs
  found_item number name [] i e = refl
  found_item number name (y ∷ ys) zero e = by (bytes_eq (name_of y) name) e
    where
      by : (b : Bool) → Some (number + 0) ≡ option_map (λ r. r.0) (if b then Some (number, y) else found_from name_of (suc number) name ys)
          → Some (number + 0, y) ≡ (if b then Some (number, y) else found_from name_of (suc number) name ys)
      by true e = ap (λ n. Some (n, y)) (omega arith)
      by false e = absurd (omega (arith, found_least (suc number) name ys (number + 0) e))
  found_item number name (y ∷ ys) (suc j) e = by (bytes_eq (name_of y) name) (found_item (suc number) name ys j) e
    where
      by : (b : Bool)
          → (Some (suc number + j) ≡ option_map (λ r. r.0) (found_from name_of (suc number) name ys)
          → option_map (λ x. (suc number + j, x)) (slice_get ys j) ≡ found_from name_of (suc number) name ys)
          → Some (number + suc j) ≡ option_map (λ r. r.0) (if b then Some (number, y) else found_from name_of (suc number) name ys)
          → option_map (λ x. (number + suc j, x)) (slice_get ys j) ≡ (if b then Some (number, y) else found_from name_of (suc number) name ys)
      by true rest e = let same : number + suc j ≡ number = same_Some _ _ e in absurd (omega (arith, same))
      by false rest e =
          let same : suc number + j ≡ number + suc j = omega arith in
          ap (λ n. option_map (λ (x : X). (n, x)) (slice_get ys j)) (sym same) ∙ rest (ap (λ n. Some n) same ∙ e)

  -- so it is where the items are these
  pub found_at : (name : List ℕ) (items xs : List X) (n : ℕ) (r : Option X) → items ≡ xs
      → Some n ≡ option_map (λ found. found.0) (found_from name_of 0 name items) → r ≡ slice_get items n
      → option_map (λ x. (n, x)) r ≡ found_from name_of 0 name xs
  found_at name items xs n r same at read =
      let zero_first : 0 + n ≡ n = omega arith in
      ap (option_map (λ (x : X). (n, x))) read
      ∙ ap (λ m. option_map (λ (x : X). (m, x)) (slice_get items n)) (sym zero_first)
      ∙ found_item 0 name items n (ap (λ m. Some m) zero_first ∙ at)
      ∙ ap (found_from name_of 0 name) same

  -- one is found where an item has the name
  pub found_any : (number : ℕ) (name : List ℕ) (xs : List X)
      → is_some (option_map (λ r. r.0) (found_from name_of number name xs)) ≡ list_any (λ x. bytes_eq (name_of x) name) xs
  found_any number name [] = refl
  found_any number name (y ∷ ys) = by (bytes_eq (name_of y) name) (found_any (suc number) name ys)
    where
      by : (b : Bool)
          → is_some (option_map (λ r. r.0) (found_from name_of (suc number) name ys)) ≡ list_any (λ x. bytes_eq (name_of x) name) ys
          → is_some (option_map (λ r. r.0) (if b then Some (number, y) else found_from name_of (suc number) name ys)) ≡ (b || list_any (λ x. bytes_eq (name_of x) name) ys)
      by true rest = refl
      by false rest = rest

  -- a last item whose name stands already leaves the numbers as they are
  pub numbers_stay : {Y S : Type 0} (xs : List X) (x : X) (numbers : IndexMap (String Y) ℕ S)
      → AreNumbers name_of xs numbers → is_some (get_by_text numbers (name_of x)) ≡ true → AreNumbers name_of (xs ++ x ∷ []) numbers
  numbers_stay xs x numbers are there name =
      are name ∙ ap (option_map (λ r. r.0)) (by (found_from name_of 0 name xs) (bytes_eq (name_of x) name) (are name) refl ∙ sym (found_push 0 name xs x))
    where
      by : (r : Option (ℕ × X)) (b : Bool) → get_by_text numbers name ≡ option_map (λ r. r.0) r → bytes_eq (name_of x) name ≡ b
          → r ≡ or_else r (if b then Some (0 + length xs, x) else None)
      by (Some a) b at same = refl
      by None false at same = refl
      by None true at same =
          absurd (true≢false (sym there ∙ ap (λ n. is_some (get_by_text numbers n)) ((bytes_decides (name_of x) name).0 same) ∙ ap is_some at))

  -- a last item of a new name has its place as number
  pub numbers_grow : {Y S : Type 0} (xs : List X) (x : X) (numbers more : IndexMap (String Y) ℕ S) (key : String Y) (number : ℕ)
      → AreNumbers name_of xs numbers → string_bytes key ≡ name_of x → number ≡ length xs
      → more.entries ≡ numbers.entries ++ (key, number) ∷ [] → AreNumbers name_of (xs ++ x ∷ []) more
  numbers_grow xs x numbers more key number are named last put name =
      ap (lookup (λ k. bytes_eq name (string_bytes k))) put
      ∙ lookup_push (λ k. bytes_eq name (string_bytes k)) numbers.entries (key, number)
      ∙ (λ i. or_else (are name i) (cond (test i) (Some (at i)) None))
      ∙ by (found_from name_of 0 name xs) (bytes_eq (name_of x) name)
      ∙ ap (option_map (λ r. r.0)) (sym (found_push 0 name xs x))
    where
      test : bytes_eq name (string_bytes key) ≡ bytes_eq (name_of x) name
      test = ap (λ n. bytes_eq name n) named ∙ nat_list_eq_equiv.symm name (name_of x)

      at : number ≡ 0 + length xs
      at = omega (arith, last)

      by : (r : Option (ℕ × X)) (b : Bool)
          → or_else (option_map (λ r. r.0) r) (cond b (Some (0 + length xs)) None)
          ≡ option_map (λ r. r.0) (or_else r (if b then Some (0 + length xs, x) else None))
      by (Some a) b = refl
      by None true = refl
      by None false = refl

  -- so it is once a new name was put with its number into the index, which had room
  pub numbers_put : {Y S : Type 0} (xs : List X) (x : X) (numbers room more : IndexMap (String Y) ℕ S) (key : String Y) (number : ℕ)
      → AreNumbers name_of xs numbers → string_bytes key ≡ name_of x → number ≡ length xs
      → is_some (get_by_text numbers (name_of x)) ≡ false → room.entries ≡ numbers.entries
      → more.entries ≡ insert_entry string_eq room.entries key number → AreNumbers name_of (xs ++ x ∷ []) more
  numbers_put xs x numbers room more key number are named last new same put =
      numbers_grow xs x numbers more key number are named last
      (put ∙ insert_entry-new string_eq room key number none ∙ ap (λ es. es ++ (key, number) ∷ []) same)
    where
      none : lookup (λ k. bytes_eq (string_bytes key) (string_bytes k)) room.entries ≡ None
      none =
          ap (lookup (λ k. bytes_eq (string_bytes key) (string_bytes k))) same
          ∙ none_from_test (lookup (λ k. bytes_eq (string_bytes key) (string_bytes k)) numbers.entries)
          (ap (λ n. is_some (get_by_text numbers n)) named ∙ new)
