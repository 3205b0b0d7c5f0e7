-- The parts of a line: what is read is of the grammar, and what is of the grammar is read.
use Rattle.std.proofs.Common.{◌≡◌, ◌≢◌, ℕ, zero, suc, ◌+◌, ◌-◌, ◌*◌, ◌<◌, ◌≤◌, ◌⊎◌, inl, inr, List, [], ◌∷◌, ◌++◌, length, Option, Some, None, Bool, true, false, ◌&&◌, ◌==◌, nat_lt, nat_le, if◌then◌else◌, refl, sym, ap, ap₂, subst, ◌∙◌, append_assoc, arith}
use Rattle.std.specs.Prelude.{ℤ, pos, neg_ℤ, codes}
use Rattle.std.specs.List.{AllByRecursion}
use Rattle.std.proofs.lemmas.Bool.Decides.{nat_tests}
use Rattle.pgproto.specs.Words.{IsNumber, is_digit}
use Rattle.pgproto.specs.declared.line.ScriptValue.{ScriptValue}
use Rattle.pgproto.specs.declared.line.ScriptValue.TheVariants.{Null, Str, Hex}
use Rattle.pgproto.specs.Line.{BackendOf, CountedOf, HexOf, LimitOf, ListOf, NumberOf, SessionOf, Spaced, StringOf, TargetOf, ValueOf, Word}
use Rattle.pgproto.specs.Reading.{◌>>=◌, backend_at, counted_at, front, has_digit, has_minus, hex_at, items_at, limit_at, number_at, session_at, spaced_at, string_at, value_at, with_items, word_at}
use Rattle.pgproto.specs.LineReading.{letter_at, target_at}
use Rattle.pgproto.proofs.WordLaws.{chosen, taken, number_again, number_found, word_again, word_found}
use Rattle.pgproto.proofs.TextLaws.{bind_some, hex_again, hex_found, is_at, is_not, some_is, string_again, string_found}

-- no digit is in front
abbrev pub Stops : List ℕ → Type 0
Stops bytes = has_digit bytes ≡ false

-- a reader reads the texts of a form, where the values are small
pub record Good {A : Type 0} (form : A → List ℕ → List ℕ → Type 0) (at : List ℕ → Option (A × List ℕ)) (Small : A → Type 0) : Type 0 where
  pub found : (bytes : List ℕ) (x : A × List ℕ) → at bytes ≡ Some x → form x.0 bytes x.1 × Small x.0
  pub again : (x : A) (bytes rest : List ℕ) → form x bytes rest → Small x → Stops rest → at bytes ≡ Some (x, rest)

abbrev pub Any : {A : Type 0} → A → Type 0
Any x = Unit {0}

pub good_number : (most : ℕ) → Good NumberOf (number_at most) (λ n. n ≤ most)
good_number most = record {
  found = λ bytes x e. let f = number_found most bytes x e in (f.1, f.0);
  again = λ n bytes rest form small stops. number_again most n bytes rest form small stops;
}

pub good_string : Good StringOf string_at Any
good_string = record { found = λ bytes x e. (string_found bytes x e, tt); again = λ text bytes rest form small stops. string_again text bytes rest form }

pub good_hex : Good HexOf hex_at Any
good_hex = record { found = λ bytes x e. (hex_found bytes x e, tt); again = λ found bytes rest form small stops. hex_again found bytes rest form }

-- a test that let a value pass
pub passed : {A : Type 0} (t : Bool) (x y : A) → (if t then None else Some x) ≡ Some y → (t ≡ false) × (x ≡ y)
passed true x y e = absurd (cc)
passed false x y e = (refl, cc)

pub let_pass : {A : Type 0} (t : Bool) (x : A) → t ≡ false → (if t then None else Some x) ≡ Some x
let_pass true x e = absurd (cc)
let_pass false x e = refl

pub not_at : (a b : ℕ) → a ≢ b → (a == b) ≡ false
not_at a b h = go (a == b) refl
  where
    go : (t : Bool) → (a == b) ≡ t → t ≡ false
    go true e = absurd (h (is_at a b e))
    go false e = refl

pub good_session : Good SessionOf session_at Any
unfolding session_at
good_session = record { found = found; again = again }
  where
    found : (bytes : List ℕ) (x : ℕ × List ℕ) → (number_at 64 bytes >>= λ x. if x.0 == 0 then None else Some x) ≡ Some x → SessionOf x.0 bytes x.1 × Unit {0}
    found bytes x e =
        let r = bind_some (number_at 64 bytes) (λ x. if x.0 == 0 then None else Some x) x e in
        let p = passed ((r.0).0 == 0) r.0 x r.2 in
        let f = number_found 64 bytes x (r.1 ∙ ap (λ (y : ℕ × List ℕ). Some y) p.1) in
        let n = is_not (r.0).0 0 p.0 in
        let same : (r.0).0 ≡ x.0 = ap (λ (y : ℕ × List ℕ). y.0) p.1 in
        ((omega (arith, n), f.0, f.1), tt)

    again : (s : ℕ) (bytes rest : List ℕ) → SessionOf s bytes rest → Unit {0} → Stops rest → (number_at 64 bytes >>= λ x. if x.0 == 0 then None else Some x) ≡ Some (s, rest)
    again s bytes rest (low, high, form) small stops =
        ap (λ (w : Option (ℕ × List ℕ)). w >>= λ x. if x.0 == 0 then None else Some x) (number_again 64 s bytes rest form high stops)
        ∙ let_pass (s == 0) (s, rest) (not_at s 0 (λ e. omega arith))

pub good_backend : Good BackendOf backend_at Any
good_backend = record {
  found = λ bytes x e. let f = number_found 7 bytes x e in let small : x.0 < 8 = omega (arith, f.0) in ((small, f.1), tt);
  again = λ b bytes rest form small stops. number_again 7 b bytes rest form.1 (omega (arith, form.0)) stops;
}

pub good_spaced : {A : Type 0} {form : A → List ℕ → List ℕ → Type 0} {at : List ℕ → Option (A × List ℕ)} {Small : A → Type 0} → Good form at Small → Good (Spaced form) (spaced_at at) Small
unfolding spaced_at
good_spaced {A} {form} {at} {Small} good = record {
  found = λ bytes x e. let r = bind_some (word_at (32 ∷ []) bytes) at x e in let f = good.found r.0 x r.2 in ((r.0, word_found (32 ∷ []) bytes r.0 r.1, f.0), f.1);
  again = λ x bytes rest form small stops. ap (λ (w : Option (List ℕ)). w >>= at) (word_again (32 ∷ []) bytes form.0 form.1) ∙ good.again x form.0 rest form.2 small stops;
}

-- behind a value stands a space, or the end
pub space_stops : (bytes after : List ℕ) → Word (32 ∷ []) bytes after → Stops bytes
space_stops bytes after e = ap has_digit e

pub list_stops : {A : Type 0} (form : A → List ℕ → List ℕ → Type 0) (xs : List A) (bytes rest : List ℕ) → ListOf form xs bytes rest → Stops rest → Stops bytes
list_stops form [] bytes rest l stops = ap has_digit l ∙ stops
list_stops form (x ∷ xs) bytes rest (after, (inside, space, f), more) stops = space_stops bytes inside space

items_fronted : {A : Type 0} (b : A) (r : Option (List A × List ℕ)) (x : List A × List ℕ) → with_items (b ∷ []) r ≡ Some x → (y : List A × List ℕ) × (r ≡ Some y) × (x ≡ (b ∷ y.0, y.1))
items_fronted b (Some y) x e = (y, refl, sym cc)
items_fronted b None x e = absurd (cc)

pub record Listed {A : Type 0} (form : A → List ℕ → List ℕ → Type 0) (Small : A → Type 0) (n : ℕ) (xs : List A) (bytes rest : List ℕ) : Type 0 where
  pub texts : ListOf form xs bytes rest
  pub small : AllByRecursion Small xs
  pub count : length xs ≡ n

module _ {A : Type 0} {form : A → List ℕ → List ℕ → Type 0} {at : List ℕ → Option (A × List ℕ)} {Small : A → Type 0} (good : Good form at Small) where
  items_found : (n : ℕ) (bytes : List ℕ) (x : List A × List ℕ) → items_at at n bytes ≡ Some x → Listed form Small n x.0 bytes x.1
  unfolding items_at
  items_found zero bytes x e = subst (λ (y : List A × List ℕ). Listed form Small zero y.0 bytes y.1) {x = ([], bytes)} (some_is ([], bytes) x e) (record { texts = refl; small = tt; count = refl })
  items_found (suc n) bytes x e =
      let r = bind_some (spaced_at at bytes) (λ y. with_items (y.0 ∷ []) (items_at at n y.1)) x e in
      let f = (good_spaced good).found bytes r.0 r.1 in
      let m = items_fronted (r.0).0 (items_at at n (r.0).1) x r.2 in
      let l = items_found n (r.0).1 m.0 m.1 in
      subst (λ (y : List A × List ℕ). Listed form Small (suc n) y.0 bytes y.1) {x = ((r.0).0 ∷ (m.0).0, (m.0).1)} (sym m.2)
      (record { texts = ((r.0).1, f.0, l.texts); small = (f.1, l.small); count = ap suc l.count })

  items_again : (xs : List A) (bytes rest : List ℕ) → ListOf form xs bytes rest → AllByRecursion Small xs → Stops rest → items_at at (length xs) bytes ≡ Some (xs, rest)
  unfolding items_at
  items_again [] bytes rest l small stops = ap (λ (bs : List ℕ). Some ([], bs)) l
  items_again (x ∷ xs) bytes rest (after, f, more) small stops =
      ap (λ (w : Option (A × List ℕ)). w >>= λ y. with_items (y.0 ∷ []) (items_at at (length xs) y.1)) ((good_spaced good).again x bytes after f small.0 (list_stops form xs after rest more stops))
      ∙ ap (with_items (x ∷ [])) (items_again xs after rest more small.1 stops)

  pub good_counted : Good (CountedOf form) (counted_at at) (λ xs. (length xs ≤ 32767) × AllByRecursion Small xs)
  unfolding counted_at
  good_counted = record {
    found = λ bytes x e.
        let r = bind_some (spaced_at (number_at 32767) bytes) (λ n. items_at at n.0 n.1) x e in
        let f = (good_spaced (good_number 32767)).found bytes r.0 r.1 in
        let l = items_found (r.0).0 (r.0).1 x r.2 in
        (((r.0).1, subst (λ (n : ℕ). Spaced NumberOf n bytes (r.0).1) (sym l.count) f.0, l.texts), (omega (arith, l.count, f.1), l.small));
    again = λ xs bytes rest c small stops.
        ap (λ (w : Option (ℕ × List ℕ)). w >>= λ n. items_at at n.0 n.1) ((good_spaced (good_number 32767)).again (length xs) bytes c.0 c.1 small.0 (list_stops form xs c.0 rest c.2 stops))
        ∙ items_again xs c.0 rest c.2 small.1 stops;
  }
