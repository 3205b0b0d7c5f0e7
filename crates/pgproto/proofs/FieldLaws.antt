-- Limits, values, targets and marks: what is read is of the grammar, and what is of the grammar is read.
use Rattle.std.proofs.Common.{◌≡◌, ◌≢◌, ℕ, zero, suc, ◌+◌, ◌-◌, ◌*◌, ◌<◌, ◌≤◌, ◌⊎◌, inl, inr, List, [], ◌∷◌, ◌++◌, length, Option, Some, None, Bool, true, false, ◌&&◌, ◌==◌, nat_lt, nat_le, if◌then◌else◌, refl, sym, ap, ap₂, subst, ◌∙◌, append_assoc, arith}
use Rattle.std.specs.Prelude.{ℤ, pos, neg_ℤ, codes}
use Rattle.std.proofs.lemmas.Bool.Decides.{nat_tests}
use Rattle.pgproto.specs.Words.{IsNumber, is_digit}
use Rattle.pgproto.specs.declared.line.ScriptValue.{ScriptValue}
use Rattle.pgproto.specs.declared.line.ScriptValue.TheVariants.{Null, Str, Hex}
use Rattle.pgproto.specs.Line.{BackendOf, HexOf, LimitOf, NumberOf, Place, PlaceOf, SessionOf, StringOf, TargetOf, ValueOf, Word, order, snapshot, commit, post, answer, reply}
use Rattle.pgproto.specs.Reading.{◌>>=◌, backend_at, front, has_digit, has_minus, hex_at, limit_at, number_at, string_at, value_at, word_at}
use Rattle.pgproto.specs.LineReading.{answer_at, ended, letter_at, only_word, place_at, post_at, target_at}
use Rattle.pgproto.proofs.WordLaws.{number_again, number_found, word_again, word_found}
use Rattle.pgproto.proofs.TextLaws.{bind_some, hex_again, hex_found, is_at, is_not, some_is, string_again, string_found}
use Rattle.pgproto.proofs.PartLaws.{Any, Good, Stops, good_backend, not_at}

-- ---- numbers in front

first_digit : (ds rest : List ℕ) (n : ℕ) → IsNumber ds n → is_digit (front (ds ++ rest)) ≡ true
first_digit [] rest n is = let some : 0 < 0 = is.some in absurd (omega arith)
first_digit (d ∷ ds) rest n is = is.digits_are.0

pub number_front : (n : ℕ) (bytes rest : List ℕ) → NumberOf n bytes rest → is_digit (front bytes) ≡ true
number_front n bytes rest (ds, is, parts) = ap (λ (bs : List ℕ). is_digit (front bs)) parts ∙ first_digit ds rest n is

digit_bounds : (c : ℕ) → is_digit c ≡ true → (48 ≤ c) × (c ≤ 57)
digit_bounds c e = (grind (arith, nat_tests), grind (arith, nat_tests))

pub digit_not : (c k : ℕ) → is_digit c ≡ true → (57 < k) ⊎ (k < 48) → (c == k) ≡ false
digit_not c k e (inl high) = let b = digit_bounds c e in not_at c k (λ h. omega arith)
digit_not c k e (inr low) = let b = digit_bounds c e in not_at c k (λ h. omega arith)

minus_front : (bytes : List ℕ) → is_digit (front bytes) ≡ true → has_minus bytes ≡ false
minus_front [] e = refl
minus_front (b ∷ bytes) e = digit_not b 45 e (inr (omega arith))

-- ---- limits

abbrev limit_of_minus : List ℕ → Option (ℤ × List ℕ)
limit_of_minus bytes = word_at (codes "-") bytes >>= λ after. number_at 2147483648 after >>= λ x. Some (neg_ℤ (pos x.0), x.1)

abbrev limit_plain : List ℕ → Option (ℤ × List ℕ)
limit_plain bytes = number_at 2147483647 bytes >>= λ x. Some (pos x.0, x.1)

limit_found : (bytes : List ℕ) (x : ℤ × List ℕ) (t : Bool) → (if t then limit_of_minus bytes else limit_plain bytes) ≡ Some x → LimitOf x.0 bytes x.1
limit_found bytes x true e =
    let r = bind_some (word_at (codes "-") bytes) (λ after. number_at 2147483648 after >>= λ x. Some (neg_ℤ (pos x.0), x.1)) x e in
    let s = bind_some (number_at 2147483648 r.0) (λ x. Some (neg_ℤ (pos x.0), x.1)) x r.2 in
    let f = number_found 2147483648 r.0 s.0 s.1 in
    let is : ◌≡◌ {A = ℤ × List ℕ} (neg_ℤ (pos (s.0).0), (s.0).1) x = some_is _ _ s.2 in
    inr ((s.0).0, r.0, f.0, sym (ap (λ (y : ℤ × List ℕ). y.0) is), word_found (codes "-") bytes r.0 r.1, subst (λ (y : List ℕ). NumberOf (s.0).0 r.0 y) (ap (λ (y : ℤ × List ℕ). y.1) is) f.1)
limit_found bytes x false e =
    let s = bind_some (number_at 2147483647 bytes) (λ x. Some (pos x.0, x.1)) x e in
    let f = number_found 2147483647 bytes s.0 s.1 in
    let is : ◌≡◌ {A = ℤ × List ℕ} (pos (s.0).0, (s.0).1) x = some_is _ _ s.2 in
    let small : (s.0).0 < 2147483648 = omega (arith, f.0) in
    inl ((s.0).0, small, sym (ap (λ (y : ℤ × List ℕ). y.0) is), subst (λ (y : List ℕ). NumberOf (s.0).0 bytes y) (ap (λ (y : ℤ × List ℕ). y.1) is) f.1)

limit_again : (limit : ℤ) (bytes rest : List ℕ) → LimitOf limit bytes rest → Stops rest → (if has_minus bytes then limit_of_minus bytes else limit_plain bytes) ≡ Some (limit, rest)
limit_again limit bytes rest (inl (n, small, is, form)) stops =
    ap (λ (t : Bool). if t then limit_of_minus bytes else limit_plain bytes) (minus_front bytes (number_front n bytes rest form))
    ∙ ap (λ (w : Option (ℕ × List ℕ)). w >>= λ x. Some (pos x.0, x.1)) (number_again 2147483647 n bytes rest form (omega arith) stops)
    ∙ ap (λ (z : ℤ). Some (z, rest)) (sym is)
limit_again limit bytes rest (inr (n, after, small, is, word, form)) stops =
    ap (λ (t : Bool). if t then limit_of_minus bytes else limit_plain bytes) (ap has_minus word)
    ∙ ap (λ (w : Option (List ℕ)). w >>= λ after. number_at 2147483648 after >>= λ x. Some (neg_ℤ (pos x.0), x.1)) (word_again (codes "-") bytes after word)
    ∙ ap (λ (w : Option (ℕ × List ℕ)). w >>= λ x. Some (neg_ℤ (pos x.0), x.1)) (number_again 2147483648 n after rest form small stops)
    ∙ ap (λ (z : ℤ). Some (z, rest)) (sym is)

pub good_limit : Good LimitOf limit_at Any
unfolding limit_at
good_limit = record {
  found = λ bytes x e. (limit_found bytes x (has_minus bytes) e, tt);
  again = λ limit bytes rest form small stops. limit_again limit bytes rest form stops;
}

-- ---- values

abbrev str_at : List ℕ → Option (ScriptValue × List ℕ)
str_at bytes = string_at bytes >>= λ x. Some (Str x.0, x.1)

abbrev hex_value_at : List ℕ → Option (ScriptValue × List ℕ)
hex_value_at bytes = word_at (codes "x") bytes >>= λ after. hex_at after >>= λ x. Some (Hex x.0, x.1)

abbrev null_at : List ℕ → Option (ScriptValue × List ℕ)
null_at bytes = word_at (codes "null") bytes >>= λ after. Some (Null, after)

value_found : (bytes : List ℕ) (x : ScriptValue × List ℕ) (p q : Bool) → (if p then str_at bytes else if q then hex_value_at bytes else null_at bytes) ≡ Some x → ValueOf x.0 bytes x.1
value_found bytes x true q e =
    let r = bind_some (string_at bytes) (λ x. Some (Str x.0, x.1)) x e in
    let is : ◌≡◌ {A = ScriptValue × List ℕ} (Str (r.0).0, (r.0).1) x = some_is _ _ r.2 in
    subst (λ (y : ScriptValue × List ℕ). ValueOf y.0 bytes y.1) {x = (Str (r.0).0, (r.0).1)} is (string_found bytes r.0 r.1)
value_found bytes x false true e =
    let r = bind_some (word_at (codes "x") bytes) (λ after. hex_at after >>= λ x. Some (Hex x.0, x.1)) x e in
    let s = bind_some (hex_at r.0) (λ x. Some (Hex x.0, x.1)) x r.2 in
    let is : ◌≡◌ {A = ScriptValue × List ℕ} (Hex (s.0).0, (s.0).1) x = some_is _ _ s.2 in
    subst (λ (y : ScriptValue × List ℕ). ValueOf y.0 bytes y.1) {x = (Hex (s.0).0, (s.0).1)} is (r.0, word_found (codes "x") bytes r.0 r.1, hex_found r.0 s.0 s.1)
value_found bytes x false false e =
    let r = bind_some (word_at (codes "null") bytes) (λ after. Some (Null, after)) x e in
    let is : ◌≡◌ {A = ScriptValue × List ℕ} (Null, r.0) x = some_is _ _ r.2 in
    subst (λ (y : ScriptValue × List ℕ). ValueOf y.0 bytes y.1) {x = (Null, r.0)} is (word_found (codes "null") bytes r.0 r.1)

value_again : (v : ScriptValue) (bytes rest : List ℕ) → ValueOf v bytes rest → (if front bytes == 34 then str_at bytes else if front bytes == 120 then hex_value_at bytes else null_at bytes) ≡ Some (v, rest)
value_again Null bytes rest form =
    ap (λ (c : ℕ). if c == 34 then str_at bytes else if c == 120 then hex_value_at bytes else null_at bytes) (ap front form)
    ∙ ap (λ (w : Option (List ℕ)). w >>= λ after. Some (Null, after)) (word_again (codes "null") bytes rest form)
value_again (Str text) bytes rest form =
    ap (λ (c : ℕ). if c == 34 then str_at bytes else if c == 120 then hex_value_at bytes else null_at bytes) (ap front form.1)
    ∙ ap (λ (w : Option (List ℕ × List ℕ)). w >>= λ x. Some (Str x.0, x.1)) (string_again text bytes rest form)
value_again (Hex found) bytes rest (after, word, form) =
    ap (λ (c : ℕ). if c == 34 then str_at bytes else if c == 120 then hex_value_at bytes else null_at bytes) (ap front word)
    ∙ ap (λ (w : Option (List ℕ)). w >>= λ after. hex_at after >>= λ x. Some (Hex x.0, x.1)) (word_again (codes "x") bytes after word)
    ∙ ap (λ (w : Option (List ℕ × List ℕ)). w >>= λ x. Some (Hex x.0, x.1)) (hex_again found after rest form)

pub good_value : Good ValueOf value_at Any
unfolding value_at
good_value = record {
  found = λ bytes x e. (value_found bytes x (front bytes == 34) (front bytes == 120) e, tt);
  again = λ v bytes rest form small stops. value_again v bytes rest form;
}

-- ---- letters in quotes

pub letter_found : (bytes : List ℕ) (x : ℕ × List ℕ) → letter_at bytes ≡ Some x → bytes ≡ 39 ∷ x.0 ∷ 39 ∷ x.1
letter_found [] x e = absurd (cc)
letter_found (a ∷ []) x e = absurd (cc)
letter_found (a ∷ b ∷ []) x e = absurd (cc)
letter_found (a ∷ b ∷ c ∷ bytes) x e = go (a == 39) (c == 39) refl refl e
  where
    read : Option (ℕ × List ℕ)
    read = Some (b, bytes)

    go : (p q : Bool) → (a == 39) ≡ p → (c == 39) ≡ q → (if p then (if q then read else None) else None) ≡ Some x → a ∷ b ∷ c ∷ bytes ≡ 39 ∷ x.0 ∷ 39 ∷ x.1
    go true true p= q= e =
        let is : ◌≡◌ {A = ℕ × List ℕ} (b, bytes) x = some_is _ _ e in
        ap₂ (λ (i j : ℕ). i ∷ b ∷ j ∷ bytes) (is_at a 39 p=) (is_at c 39 q=) ∙ ap (λ (y : ℕ × List ℕ). 39 ∷ y.0 ∷ 39 ∷ y.1) is
    go true false p= q= e = absurd (cc)
    go false q p= q= e = absurd (cc)

abbrev target_of : ℕ × List ℕ → Option (Bool × List ℕ)
target_of x = if x.0 == 80 then Some (true, x.1) else if x.0 == 83 then Some (false, x.1) else None

target_found : (bytes : List ℕ) (y : ℕ × List ℕ) (x : Bool × List ℕ) → bytes ≡ 39 ∷ y.0 ∷ 39 ∷ y.1 → target_of y ≡ Some x → TargetOf x.0 bytes x.1
target_found bytes y x parts e = go (y.0 == 80) (y.0 == 83) refl refl e
  where
    portal : Option (Bool × List ℕ)
    portal = Some (true, y.1)

    statement : Option (Bool × List ℕ)
    statement = Some (false, y.1)

    go : (p q : Bool) → (y.0 == 80) ≡ p → (y.0 == 83) ≡ q → (if p then portal else if q then statement else None) ≡ Some x → TargetOf x.0 bytes x.1
    go true q p= q= e =
        let is : ◌≡◌ {A = Bool × List ℕ} (true, y.1) x = some_is _ _ e in
        subst (λ (z : Bool × List ℕ). TargetOf z.0 bytes z.1) {x = (true, y.1)} is (parts ∙ ap (λ (k : ℕ). 39 ∷ k ∷ 39 ∷ y.1) (is_at y.0 80 p=))
    go false true p= q= e =
        let is : ◌≡◌ {A = Bool × List ℕ} (false, y.1) x = some_is _ _ e in
        subst (λ (z : Bool × List ℕ). TargetOf z.0 bytes z.1) {x = (false, y.1)} is (parts ∙ ap (λ (k : ℕ). 39 ∷ k ∷ 39 ∷ y.1) (is_at y.0 83 q=))
    go false false p= q= e = absurd (cc)

target_again : (portal : Bool) (bytes rest : List ℕ) → TargetOf portal bytes rest → (letter_at bytes >>= target_of) ≡ Some (portal, rest)
target_again true bytes rest form = ap (λ (bs : List ℕ). letter_at bs >>= target_of) form
target_again false bytes rest form = ap (λ (bs : List ℕ). letter_at bs >>= target_of) form

pub good_target : Good TargetOf target_at Any
unfolding target_at
good_target = record {
  found = λ bytes x e. let r = bind_some (letter_at bytes) target_of x e in (target_found bytes r.0 x (letter_found bytes r.0 r.1) r.2, tt);
  again = λ portal bytes rest form small stops. target_again portal bytes rest form;
}

-- ---- the end of a line, and marks

pub ended_found : {A : Type 0} (x y : A) (rest : List ℕ) → ended x rest ≡ Some y → (rest ≡ []) × (x ≡ y)
ended_found x y [] e = (refl, cc)
ended_found x y (b ∷ rest) e = absurd (cc)

pub only_found : {A : Type 0} (word bytes : List ℕ) (x y : A) → only_word word x bytes ≡ Some y → Word word bytes [] × (x ≡ y)
only_found word bytes x y e =
    let r = bind_some (word_at word bytes) (λ rest. ended x rest) y e in
    let f = ended_found x y r.0 r.2 in
    (subst (λ (rest : List ℕ). Word word bytes rest) f.0 (word_found word bytes r.0 r.1), f.1)

pub only_again : {A : Type 0} (word bytes : List ℕ) (x : A) → Word word bytes [] → only_word word x bytes ≡ Some x
only_again word bytes x form = ap (λ (w : Option (List ℕ)). w >>= λ rest. ended x rest) (word_again word bytes [] form)

post_found : (bytes : List ℕ) (p : Place) → post_at bytes ≡ Some p → PlaceOf p bytes []
unfolding post_at
post_found bytes p e =
    let r = bind_some (word_at (codes "post ") bytes) (λ a. backend_at a >>= λ b. ended (post b.0) b.1) p e in
    let s = bind_some (backend_at r.0) (λ b. ended (post b.0) b.1) p r.2 in
    let f = ended_found (post (s.0).0) p (s.0).1 s.2 in
    let b = good_backend.found r.0 s.0 s.1 in
    subst (λ (q : Place). PlaceOf q bytes []) f.1 (r.0, word_found (codes "post ") bytes r.0 r.1, subst (λ (rest : List ℕ). BackendOf (s.0).0 r.0 rest) f.0 b.0)

answer_found : (bytes : List ℕ) (p : Place) → answer_at bytes ≡ Some p → PlaceOf p bytes []
unfolding answer_at
answer_found bytes p e =
    let r = bind_some (word_at (codes "answer ") bytes) (λ a. backend_at a >>= λ b. ended (answer b.0) b.1) p e in
    let s = bind_some (backend_at r.0) (λ b. ended (answer b.0) b.1) p r.2 in
    let f = ended_found (answer (s.0).0) p (s.0).1 s.2 in
    let b = good_backend.found r.0 s.0 s.1 in
    subst (λ (q : Place). PlaceOf q bytes []) f.1 (r.0, word_found (codes "answer ") bytes r.0 r.1, subst (λ (rest : List ℕ). BackendOf (s.0).0 r.0 rest) f.0 b.0)

post_again : (b : ℕ) (bytes after : List ℕ) → Word (codes "post ") bytes after → BackendOf b after [] → post_at bytes ≡ Some (post b)
unfolding post_at
post_again b bytes after word form =
    ap (λ (w : Option (List ℕ)). w >>= λ a. backend_at a >>= λ b. ended (post b.0) b.1) (word_again (codes "post ") bytes after word)
    ∙ ap (λ (w : Option (ℕ × List ℕ)). w >>= λ b. ended (post b.0) b.1) (good_backend.again b after [] form tt refl)

answer_again : (b : ℕ) (bytes after : List ℕ) → Word (codes "answer ") bytes after → BackendOf b after [] → answer_at bytes ≡ Some (answer b)
unfolding answer_at
answer_again b bytes after word form =
    ap (λ (w : Option (List ℕ)). w >>= λ a. backend_at a >>= λ b. ended (answer b.0) b.1) (word_again (codes "answer ") bytes after word)
    ∙ ap (λ (w : Option (ℕ × List ℕ)). w >>= λ b. ended (answer b.0) b.1) (good_backend.again b after [] form tt refl)

abbrev place_by : ℕ → List ℕ → Option Place
place_by c bytes =
    if c == 111 then only_word (codes "order") order bytes
    else if c == 115 then only_word (codes "snapshot") snapshot bytes
    else if c == 99 then only_word (codes "commit") commit bytes
    else if c == 112 then post_at bytes
    else if c == 97 then answer_at bytes
    else only_word (codes "reply") reply bytes

either : {A : Type 0} (P : Option A → Type 0) (t : Bool) (x y : Option A) → P x → P y → P (if t then x else y)
either P true x y p q = p
either P false x y p q = q

-- where it is this mark, the bytes are its
abbrev Fine : List ℕ → Place → Option Place → Type 0
Fine bytes p read = read ≡ Some p → PlaceOf p bytes []

word_fine : (bytes : List ℕ) (p : Place) (w : List ℕ) (q : Place) → (Word w bytes [] → PlaceOf q bytes []) → Fine bytes p (only_word w q bytes)
word_fine bytes p w q good e = let f = only_found w bytes q p e in subst (λ (z : Place). PlaceOf z bytes []) f.1 (good f.0)

pub place_found : (bytes : List ℕ) (p : Place) → place_at bytes ≡ Some p → PlaceOf p bytes []
unfolding place_at
place_found bytes p e =
    either (Fine bytes p) (front bytes == 111) (only_word (codes "order") order bytes) _ (word_fine bytes p (codes "order") order (λ w. w))
    (either (Fine bytes p) (front bytes == 115) (only_word (codes "snapshot") snapshot bytes) _ (word_fine bytes p (codes "snapshot") snapshot (λ w. w))
    (either (Fine bytes p) (front bytes == 99) (only_word (codes "commit") commit bytes) _ (word_fine bytes p (codes "commit") commit (λ w. w))
    (either (Fine bytes p) (front bytes == 112) (post_at bytes) _ (post_found bytes p)
    (either (Fine bytes p) (front bytes == 97) (answer_at bytes) _ (answer_found bytes p) (word_fine bytes p (codes "reply") reply (λ w. w)))))) e

pub place_again : (p : Place) (bytes : List ℕ) → PlaceOf p bytes [] → place_at bytes ≡ Some p
unfolding place_at
place_again order bytes form = ap (λ (c : ℕ). place_by c bytes) (ap front form) ∙ only_again (codes "order") bytes order form
place_again snapshot bytes form = ap (λ (c : ℕ). place_by c bytes) (ap front form) ∙ only_again (codes "snapshot") bytes snapshot form
place_again commit bytes form = ap (λ (c : ℕ). place_by c bytes) (ap front form) ∙ only_again (codes "commit") bytes commit form
place_again (post b) bytes (after, word, form) = ap (λ (c : ℕ). place_by c bytes) (ap front word) ∙ post_again b bytes after word form
place_again (answer b) bytes (after, word, form) = ap (λ (c : ℕ). place_by c bytes) (ap front word) ∙ answer_again b bytes after word form
place_again reply bytes form = ap (λ (c : ℕ). place_by c bytes) (ap front form) ∙ only_again (codes "reply") bytes reply form
