-- Strings and hexadecimal digits: what is read is of the grammar, and what is of the grammar is read.
use Rattle.std.proofs.Common.{◌≡◌, ℕ, zero, suc, ◌+◌, ◌-◌, ◌*◌, ◌<◌, ◌≤◌, ◌≢◌, List, [], ◌∷◌, ◌++◌, length, Option, Some, None, Bool, true, false, ◌&&◌, ◌||◌, ◌==◌, not, nat_lt, nat_le, if◌then◌else◌, refl, sym, ap, ap₂, subst, ◌∙◌, append_assoc, arith}
use Rattle.std.specs.List.{AllByRecursion, flat_map}
use Rattle.std.specs.Str.{IsUtf8, is_utf8}
use Rattle.std.proofs.lemmas.List.{length-append}
use Rattle.std.proofs.lemmas.Bool.Decides.{nat_tests}
use Rattle.std.proofs.lemmas.Str.{IsUtf8-from_is_utf8, is_utf8-from_IsUtf8}
use Rattle.pgproto.specs.Words.{AreHexOf, escaped, hex_digit, is_shown, quoted, IsString}
use Rattle.pgproto.specs.Line.{HexOf, StringOf, Word}
use Rattle.pgproto.specs.Reading.{◌>>=◌, behind, bytes_at, escape_at, hex_at, hex_byte, string_at, string_byte, with_front, word_at}
use Rattle.pgproto.proofs.WordLaws.{both_true, chosen, taken, word_again, word_found}

-- what a step before a value gave
pub bind_some : {A B : Type 0} (r : Option A) (f : A → Option B) (y : B) → (r >>= f) ≡ Some y → (x : A) × (r ≡ Some x) × (f x ≡ Some y)
bind_some (Some x) f y e = (x, refl, e)
bind_some None f y e = absurd (cc)

-- byte after byte, each in its form, and then a rest
abbrev pub Run : (ℕ → List ℕ → List ℕ → Type 0) → List ℕ → List ℕ → List ℕ → Type 0
Run form [] bytes rest = bytes ≡ rest
Run form (b ∷ found) bytes rest = (after : List ℕ) × form b bytes after × Run form found after rest

-- a step that reads a byte in a form, or the quote at the end
pub record Reads (step : List ℕ → Option (Option ℕ × List ℕ)) (form : ℕ → List ℕ → List ℕ → Type 0) : Type 0 where
  pub found : (bytes : List ℕ) (b : ℕ) (after : List ℕ) → step bytes ≡ Some (Some b, after) → form b bytes after
  pub end : (bytes after : List ℕ) → step bytes ≡ Some (None, after) → bytes ≡ 34 ∷ after
  pub again : (bytes : List ℕ) (b : ℕ) (after : List ℕ) → form b bytes after → step bytes ≡ Some (Some b, after)
  pub less : (bytes : List ℕ) (b : ℕ) (after : List ℕ) → form b bytes after → length after < length bytes
  pub quote : (rest : List ℕ) → step (34 ∷ rest) ≡ Some (None, rest)

fronted : (b : ℕ) (r : Option (List ℕ × List ℕ)) (x : List ℕ × List ℕ) → with_front (b ∷ []) r ≡ Some x → (y : List ℕ × List ℕ) × (r ≡ Some y) × (x ≡ (b ∷ y.0, y.1))
fronted b (Some y) x e = (y, refl, sym cc)
fronted b None x e = absurd (cc)

pub some_is : {A : Type 0} (x y : A) → Some x ≡ Some y → x ≡ y
some_is x y e = cc

module _ {step : List ℕ → Option (Option ℕ × List ℕ)} {form : ℕ → List ℕ → List ℕ → Type 0} (reads : Reads step form) where
  step_found : (n : ℕ) (bytes : List ℕ) (x : List ℕ × List ℕ) → ((after : List ℕ) (y : List ℕ × List ℕ) → bytes_at step n after ≡ Some y → Run form y.0 after (34 ∷ y.1)) → (z : Option ℕ × List ℕ) → step bytes ≡ Some z → behind (bytes_at step n) z.0 z.1 ≡ Some x → Run form x.0 bytes (34 ∷ x.1)
  step_found n bytes x ih (None, after) h d =
      subst (λ (z : List ℕ × List ℕ). Run form z.0 bytes (34 ∷ z.1)) {x = ([], after)} (some_is ([], after) x d) (reads.end bytes after h)
  step_found n bytes x ih (Some b, after) h d =
      let r = fronted b (bytes_at step n after) x d in
      subst (λ (z : List ℕ × List ℕ). Run form z.0 bytes (34 ∷ z.1)) {x = (b ∷ (r.0).0, (r.0).1)} (sym r.2) (after, reads.found bytes b after h, ih after r.0 r.1)

  run_found : (n : ℕ) (bytes : List ℕ) (x : List ℕ × List ℕ) → bytes_at step n bytes ≡ Some x → Run form x.0 bytes (34 ∷ x.1)
  unfolding bytes_at
  run_found zero bytes x e = absurd (cc)
  run_found (suc n) bytes x e =
      let r = bind_some (step bytes) (λ y. behind (bytes_at step n) y.0 y.1) x e in
      step_found n bytes x (λ after y h. run_found n after y h) r.0 r.1 r.2

  run_again : (found : List ℕ) (n : ℕ) (bytes rest : List ℕ) → Run form found bytes (34 ∷ rest) → length bytes < n → bytes_at step n bytes ≡ Some (found, rest)
  unfolding bytes_at
  run_again [] zero bytes rest r lt = absurd (omega arith)
  run_again (b ∷ found) zero bytes rest r lt = absurd (omega arith)
  run_again [] (suc n) bytes rest r lt =
      ap (λ (bs : List ℕ). step bs >>= λ x. behind (bytes_at step n) x.0 x.1) r
      ∙ ap (λ (s : Option (Option ℕ × List ℕ)). s >>= λ x. behind (bytes_at step n) x.0 x.1) (reads.quote rest)
  run_again (b ∷ found) (suc n) bytes rest (after, f, more) lt =
      ap (λ (s : Option (Option ℕ × List ℕ)). s >>= λ x. behind (bytes_at step n) x.0 x.1) (reads.again bytes b after f)
      ∙ ap (with_front (b ∷ [])) (run_again found n after rest more (omega (arith, reads.less bytes b after f)))

-- ---- strings

abbrev gave : Option ℕ → List ℕ → Option (Option ℕ × List ℕ)
gave byte bytes = Some (byte, bytes)

abbrev pub StringByte : ℕ → List ℕ → List ℕ → Type 0
StringByte b bytes after = (is_shown b ≡ true) × (bytes ≡ escaped b ++ after)

pub plain_escaped : (b : ℕ) → (b == 34) ≡ false → (b == 92) ≡ false → (b == 10) ≡ false → escaped b ≡ b ∷ []
plain_escaped b p q r =
    ap (λ (t : Bool). if t then 92 ∷ 34 ∷ [] else if b == 92 then 92 ∷ 92 ∷ [] else if b == 10 then 92 ∷ 110 ∷ [] else b ∷ []) p
    ∙ ap (λ (t : Bool). if t then 92 ∷ 92 ∷ [] else if b == 10 then 92 ∷ 110 ∷ [] else b ∷ []) q
    ∙ ap (λ (t : Bool). if t then 92 ∷ 110 ∷ [] else b ∷ []) r

pair_0 : {A B : Type 0} (x y : A × B) → x ≡ y → x.0 ≡ y.0
pair_0 x y e = ap (λ p. p.0) e

pair_1 : {A B : Type 0} (x y : A × B) → x ≡ y → x.1 ≡ y.1
pair_1 x y e = ap (λ p. p.1) e

some_byte : (b c : ℕ) (bytes after : List ℕ) → gave (Some c) bytes ≡ gave (Some b) after → (c ≡ b) × (bytes ≡ after)
some_byte b c bytes after e =
    let p : ◌≡◌ {A = Option ℕ × List ℕ} (Some c, bytes) (Some b, after) = some_is _ _ e in
    (some_is c b (pair_0 _ _ p), pair_1 _ _ p)

no_byte : (b : ℕ) (bytes after : List ℕ) → gave None bytes ≡ gave (Some b) after → ⊥
no_byte b bytes after e =
    let p : ◌≡◌ {A = Option ℕ × List ℕ} (None, bytes) (Some b, after) = some_is _ _ e in
    let q : None ≡ Some b = pair_0 _ _ p in absurd (cc)

quote_only : (c : ℕ) (bytes after : List ℕ) → gave (Some c) bytes ≡ gave None after → ⊥
quote_only c bytes after e =
    let p : ◌≡◌ {A = Option ℕ × List ℕ} (Some c, bytes) (None, after) = some_is _ _ e in
    let q : Some c ≡ None = pair_0 _ _ p in absurd (cc)

not_both : (a b : Bool) → (a && not b) ≡ true → (a ≡ true) × (b ≡ false)
not_both true false e = (refl, refl)
not_both true true e = absurd (cc)
not_both false b e = absurd (cc)

pub is_at : (a b : ℕ) → (a == b) ≡ true → a ≡ b
is_at a b e = grind (arith, nat_tests)

pub is_not : (a b : ℕ) → (a == b) ≡ false → a ≢ b
is_not a b e = grind (arith, nat_tests)

-- an escape stands for a quote, a backslash or LF
escape_found : (bytes : List ℕ) (b : ℕ) (after : List ℕ) → escape_at bytes ≡ Some (Some b, after) → (is_shown b ≡ true) × (92 ∷ bytes ≡ escaped b ++ after)
escape_found [] b after e = absurd (cc)
escape_found (c ∷ bytes) b after e = go (c == 34) (c == 92) (c == 110) refl refl refl e
  where
    go : (p q r : Bool) → (c == 34) ≡ p → (c == 92) ≡ q → (c == 110) ≡ r → (if p || q then gave (Some c) bytes else if r then gave (Some 10) bytes else None) ≡ Some (Some b, after) → (is_shown b ≡ true) × (92 ∷ c ∷ bytes ≡ escaped b ++ after)
    go true q r p= q= r= e =
        let s = some_byte b c bytes after e in
        let is : b ≡ 34 = sym s.0 ∙ is_at c 34 p= in
        (subst (λ (k : ℕ). is_shown k ≡ true) (sym is) refl, ap₂ (λ (k : ℕ) (xs : List ℕ). 92 ∷ k ∷ xs) (is_at c 34 p=) s.1 ∙ ap (λ (k : ℕ). escaped k ++ after) (sym is))
    go false true r p= q= r= e =
        let s = some_byte b c bytes after e in
        let is : b ≡ 92 = sym s.0 ∙ is_at c 92 q= in
        (subst (λ (k : ℕ). is_shown k ≡ true) (sym is) refl, ap₂ (λ (k : ℕ) (xs : List ℕ). 92 ∷ k ∷ xs) (is_at c 92 q=) s.1 ∙ ap (λ (k : ℕ). escaped k ++ after) (sym is))
    go false false true p= q= r= e =
        let s = some_byte b 10 bytes after e in
        (subst (λ (k : ℕ). is_shown k ≡ true) s.0 refl, ap₂ (λ (k : ℕ) (xs : List ℕ). 92 ∷ k ∷ xs) (is_at c 110 r=) s.1 ∙ ap (λ (k : ℕ). escaped k ++ after) s.0)
    go false false false p= q= r= e = absurd (cc)

string_byte_found : (bytes : List ℕ) (b : ℕ) (after : List ℕ) → string_byte bytes ≡ Some (Some b, after) → StringByte b bytes after
string_byte_found [] b after e = absurd (cc)
string_byte_found (c ∷ bytes) b after e = go (c == 34) (c == 92) (is_shown c && not (c == 10)) refl refl refl e
  where
    go : (p q r : Bool) → (c == 34) ≡ p → (c == 92) ≡ q → (is_shown c && not (c == 10)) ≡ r → (if p then gave None bytes else if q then escape_at bytes else if r then gave (Some c) bytes else None) ≡ Some (Some b, after) → StringByte b (c ∷ bytes) after
    go true q r p= q= r= e = absurd (no_byte b bytes after e)
    go false true r p= q= r= e =
        let f = escape_found bytes b after e in
        (f.0, ap (λ (k : ℕ). k ∷ bytes) (is_at c 92 q=) ∙ f.1)
    go false false true p= q= r= e =
        let s = some_byte b c bytes after e in
        let n = not_both (is_shown c) (c == 10) r= in (
          subst (λ (k : ℕ). is_shown k ≡ true) s.0 n.0,
          ap₂ (λ (k : ℕ) (xs : List ℕ). k ∷ xs) s.0 s.1 ∙ ap (λ (xs : List ℕ). xs ++ after) (sym (plain_escaped b (subst (λ (k : ℕ). (k == 34) ≡ false) s.0 p=) (subst (λ (k : ℕ). (k == 92) ≡ false) s.0 q=) (subst (λ (k : ℕ). (k == 10) ≡ false) s.0 n.1))),
        )
    go false false false p= q= r= e = absurd (cc)

escape_never_ends : (bytes after : List ℕ) → escape_at bytes ≡ Some (None, after) → ⊥
escape_never_ends [] after e = absurd (cc)
escape_never_ends (c ∷ bytes) after e = go (c == 34 || c == 92) (c == 110) e
  where
    go : (p r : Bool) → (if p then gave (Some c) bytes else if r then gave (Some 10) bytes else None) ≡ Some (None, after) → ⊥
    go true r e = quote_only c bytes after e
    go false true e = quote_only 10 bytes after e
    go false false e = absurd (cc)

string_end : (bytes after : List ℕ) → string_byte bytes ≡ Some (None, after) → bytes ≡ 34 ∷ after
string_end [] after e = absurd (cc)
string_end (c ∷ bytes) after e = go (c == 34) (c == 92) (is_shown c && not (c == 10)) refl e
  where
    go : (p q r : Bool) → (c == 34) ≡ p → (if p then gave None bytes else if q then escape_at bytes else if r then gave (Some c) bytes else None) ≡ Some (None, after) → c ∷ bytes ≡ 34 ∷ after
    go true q r p= e =
        let p : ◌≡◌ {A = Option ℕ × List ℕ} (None, bytes) (None, after) = some_is _ _ e in
        ap₂ (λ (k : ℕ) (xs : List ℕ). k ∷ xs) (is_at c 34 p=) (pair_1 _ _ p)
    go false true r p= e = absurd (escape_never_ends bytes after e)
    go false false true p= e = absurd (quote_only c bytes after e)
    go false false false p= e = absurd (cc)

string_byte_again : (bytes : List ℕ) (b : ℕ) (after : List ℕ) → StringByte b bytes after → string_byte bytes ≡ Some (Some b, after)
string_byte_again bytes b after (shown, parts) = ap string_byte parts ∙ go (b == 34) (b == 92) (b == 10) refl refl refl
  where
    go : (p q r : Bool) → (b == 34) ≡ p → (b == 92) ≡ q → (b == 10) ≡ r → string_byte (escaped b ++ after) ≡ Some (Some b, after)
    go true q r p= q= r= = subst (λ (k : ℕ). string_byte (escaped k ++ after) ≡ Some (Some k, after)) (sym (is_at b 34 p=)) refl
    go false true r p= q= r= = subst (λ (k : ℕ). string_byte (escaped k ++ after) ≡ Some (Some k, after)) (sym (is_at b 92 q=)) refl
    go false false true p= q= r= = subst (λ (k : ℕ). string_byte (escaped k ++ after) ≡ Some (Some k, after)) (sym (is_at b 10 r=)) refl
    go false false false p= q= r= =
        ap (λ (xs : List ℕ). string_byte (xs ++ after)) (plain_escaped b p= q= r=)
        ∙ ap (λ (t : Bool). if t then gave None after else if b == 92 then escape_at after else if is_shown b && not (b == 10) then gave (Some b) after else None) p=
        ∙ ap (λ (t : Bool). if t then escape_at after else if is_shown b && not (b == 10) then gave (Some b) after else None) q=
        ∙ ap₂ (λ (t u : Bool). if t && not u then gave (Some b) after else None) shown r=

escaped_some : (b : ℕ) → 0 < length (escaped b)
escaped_some b = go (b == 34) (b == 92) (b == 10)
  where
    go : (p q r : Bool) → 0 < length (if p then 92 ∷ 34 ∷ [] else if q then 92 ∷ 92 ∷ [] else if r then 92 ∷ 110 ∷ [] else b ∷ [])
    go true q r = omega arith
    go false true r = omega arith
    go false false true = omega arith
    go false false false = omega arith

string_less : (bytes : List ℕ) (b : ℕ) (after : List ℕ) → StringByte b bytes after → length after < length bytes
string_less bytes b after (shown, parts) = omega (arith, ap length parts, length-append {A = ℕ}, escaped_some b)

string_reads : Reads string_byte StringByte
string_reads = record { found = string_byte_found; end = string_end; again = string_byte_again; less = string_less; quote = λ rest. refl }

string_from_run : (text bytes rest : List ℕ) → Run StringByte text bytes rest → AllByRecursion (λ b. is_shown b ≡ true) text × (bytes ≡ flat_map escaped text ++ rest)
string_from_run [] bytes rest r = (tt, r)
string_from_run (b ∷ text) bytes rest (after, (shown, parts), more) =
    let m = string_from_run text after rest more in
    ((shown, m.0), parts ∙ ap (λ (xs : List ℕ). escaped b ++ xs) m.1 ∙ sym (append_assoc (escaped b) (flat_map escaped text) rest))

string_to_run : (text rest : List ℕ) → AllByRecursion (λ b. is_shown b ≡ true) text → Run StringByte text (flat_map escaped text ++ rest) rest
string_to_run [] rest all = refl
string_to_run (b ∷ text) rest all = (flat_map escaped text ++ rest, (all.0, append_assoc (escaped b) (flat_map escaped text) rest), string_to_run text rest all.1)

pub string_found : (bytes : List ℕ) (x : List ℕ × List ℕ) → string_at bytes ≡ Some x → StringOf x.0 bytes x.1
unfolding string_at
string_found bytes x e =
    let r = bind_some (word_at (34 ∷ []) bytes) (λ inside. bytes_at string_byte (suc (length inside)) inside >>= λ y. if is_utf8 y.0 then Some y else None) x e in
    let s = bind_some (bytes_at string_byte (suc (length r.0)) r.0) (λ y. if is_utf8 y.0 then Some y else None) x r.2 in
    let c = chosen (is_utf8 (s.0).0) s.0 x s.2 in
    let run = string_from_run (s.0).0 r.0 (34 ∷ (s.0).1) (run_found string_reads (suc (length r.0)) r.0 s.0 s.1) in
    subst (λ (y : List ℕ × List ℕ). StringOf y.0 bytes y.1) {x = s.0} c.1 (
      record { utf8 = IsUtf8-from_is_utf8 (s.0).0 c.0; shown = run.0 },
      word_found (34 ∷ []) bytes r.0 r.1 ∙ ap (λ (xs : List ℕ). 34 ∷ xs) (run.1 ∙ sym (append_assoc (flat_map escaped (s.0).0) (34 ∷ []) (s.0).1)),
    )

pub string_again : (text bytes rest : List ℕ) → StringOf text bytes rest → string_at bytes ≡ Some (text, rest)
unfolding string_at
string_again text bytes rest (is, parts) =
    let inside = flat_map escaped text ++ 34 ∷ rest in
    let begins : bytes ≡ 34 ∷ inside = parts ∙ ap (λ (xs : List ℕ). 34 ∷ xs) (append_assoc (flat_map escaped text) (34 ∷ []) rest) in
    let read : bytes_at string_byte (suc (length inside)) inside ≡ Some (text, rest) = run_again string_reads text (suc (length inside)) inside rest (string_to_run text (34 ∷ rest) is.shown) (omega arith) in
    ap (λ (w : Option (List ℕ)). w >>= λ inside. bytes_at string_byte (suc (length inside)) inside >>= λ y. if is_utf8 y.0 then Some y else None) (word_again (34 ∷ []) bytes inside begins)
    ∙ ap (λ (w : Option (List ℕ × List ℕ)). w >>= λ y. if is_utf8 y.0 then Some y else None) read
    ∙ taken (is_utf8 text) (text, rest) (is_utf8-from_IsUtf8 text is.utf8)

-- ---- hexadecimal digits

abbrev pub HexByte : ℕ → List ℕ → List ℕ → Type 0
HexByte b bytes after = (high low : ℕ) × (hex_digit high < 16) × (hex_digit low < 16) × (b ≡ hex_digit high * 16 + hex_digit low) × (bytes ≡ high ∷ low ∷ after)

below : (a b : ℕ) → nat_lt a b ≡ true → a < b
below a b e = grind (arith, nat_tests)

is_below : (a b : ℕ) → a < b → nat_lt a b ≡ true
is_below a b e = grind (arith, nat_tests)

-- a quote is no digit
quote_no_digit : (b : ℕ) → hex_digit b < 16 → (b == 34) ≡ false
quote_no_digit b small = go (b == 34) refl
  where
    go : (t : Bool) → (b == 34) ≡ t → t ≡ false
    go true e = let h : hex_digit 34 < 16 = subst (λ (k : ℕ). hex_digit k < 16) (is_at b 34 e) small in absurd (omega arith)
    go false e = refl

hex_byte_found : (bytes : List ℕ) (b : ℕ) (after : List ℕ) → hex_byte bytes ≡ Some (Some b, after) → HexByte b bytes after
hex_byte_found [] b after e = absurd (cc)
hex_byte_found (h ∷ []) b after e = go (h == 34) e
  where
    go : (p : Bool) → (if p then gave None [] else None) ≡ Some (Some b, after) → HexByte b (h ∷ []) after
    go true e = absurd (no_byte b [] after e)
    go false e = absurd (cc)
hex_byte_found (h ∷ l ∷ bytes) b after e = go (h == 34) (nat_lt (hex_digit h) 16 && nat_lt (hex_digit l) 16) refl e
  where
    go : (p q : Bool) → (nat_lt (hex_digit h) 16 && nat_lt (hex_digit l) 16) ≡ q → (if p then gave None (l ∷ bytes) else if q then gave (Some (hex_digit h * 16 + hex_digit l)) bytes else None) ≡ Some (Some b, after) → HexByte b (h ∷ l ∷ bytes) after
    go true q q= e = absurd (no_byte b (l ∷ bytes) after e)
    go false true q= e =
        let s = some_byte b (hex_digit h * 16 + hex_digit l) bytes after e in
        let t = both_true (nat_lt (hex_digit h) 16) (nat_lt (hex_digit l) 16) q= in
        (h, l, below _ _ t.0, below _ _ t.1, sym s.0, ap (λ (xs : List ℕ). h ∷ l ∷ xs) s.1)
    go false false q= e = absurd (cc)

hex_end : (bytes after : List ℕ) → hex_byte bytes ≡ Some (None, after) → bytes ≡ 34 ∷ after
hex_end [] after e = absurd (cc)
hex_end (h ∷ []) after e = go (h == 34) refl e
  where
    go : (p : Bool) → (h == 34) ≡ p → (if p then gave None [] else None) ≡ Some (None, after) → h ∷ [] ≡ 34 ∷ after
    go true p= e =
        let p : ◌≡◌ {A = Option ℕ × List ℕ} (None, []) (None, after) = some_is _ _ e in
        ap₂ (λ (k : ℕ) (xs : List ℕ). k ∷ xs) (is_at h 34 p=) (pair_1 _ _ p)
    go false p= e = absurd (cc)
hex_end (h ∷ l ∷ bytes) after e = go (h == 34) (nat_lt (hex_digit h) 16 && nat_lt (hex_digit l) 16) refl e
  where
    go : (p q : Bool) → (h == 34) ≡ p → (if p then gave None (l ∷ bytes) else if q then gave (Some (hex_digit h * 16 + hex_digit l)) bytes else None) ≡ Some (None, after) → h ∷ l ∷ bytes ≡ 34 ∷ after
    go true q p= e =
        let p : ◌≡◌ {A = Option ℕ × List ℕ} (None, l ∷ bytes) (None, after) = some_is _ _ e in
        ap₂ (λ (k : ℕ) (xs : List ℕ). k ∷ xs) (is_at h 34 p=) (pair_1 _ _ p)
    go false true p= e = absurd (quote_only (hex_digit h * 16 + hex_digit l) bytes after e)
    go false false p= e = absurd (cc)

hex_byte_again : (bytes : List ℕ) (b : ℕ) (after : List ℕ) → HexByte b bytes after → hex_byte bytes ≡ Some (Some b, after)
hex_byte_again bytes b after (h, l, hs, ls, is, parts) =
    ap hex_byte parts
    ∙ ap (λ (t : Bool). if t then gave None (l ∷ after) else if nat_lt (hex_digit h) 16 && nat_lt (hex_digit l) 16 then gave (Some (hex_digit h * 16 + hex_digit l)) after else None) (quote_no_digit h hs)
    ∙ ap₂ (λ (t u : Bool). if t && u then gave (Some (hex_digit h * 16 + hex_digit l)) after else None) (is_below _ _ hs) (is_below _ _ ls)
    ∙ ap (λ (k : ℕ). gave (Some k) after) (sym is)

hex_less : (bytes : List ℕ) (b : ℕ) (after : List ℕ) → HexByte b bytes after → length after < length bytes
hex_less bytes b after (h, l, hs, ls, is, parts) = omega (arith, ap length parts)

quote_ends : (rest : List ℕ) → hex_byte (34 ∷ rest) ≡ Some (None, rest)
quote_ends [] = refl
quote_ends (l ∷ rest) = refl

hex_reads : Reads hex_byte HexByte
hex_reads = record { found = hex_byte_found; end = hex_end; again = hex_byte_again; less = hex_less; quote = quote_ends }

hex_from_run : (found bytes rest : List ℕ) → Run HexByte found bytes rest → (digits : List ℕ) × AreHexOf digits found × (bytes ≡ digits ++ rest)
hex_from_run [] bytes rest r = ([], tt, r)
hex_from_run (b ∷ found) bytes rest (after, (h, l, hs, ls, is, parts), more) =
    let m = hex_from_run found after rest more in
    (h ∷ l ∷ m.0, (hs, ls, is, m.1), parts ∙ ap (λ (xs : List ℕ). h ∷ l ∷ xs) m.2)

hex_to_run : (digits found rest : List ℕ) → AreHexOf digits found → Run HexByte found (digits ++ rest) rest
hex_to_run [] [] rest are = refl
hex_to_run [] (b ∷ found) rest are = absurd are
hex_to_run (h ∷ []) found rest are = absurd are
hex_to_run (h ∷ l ∷ digits) [] rest are = absurd are
hex_to_run (h ∷ l ∷ digits) (b ∷ found) rest (hs, ls, is, more) = (digits ++ rest, (h, l, hs, ls, is, refl), hex_to_run digits found rest more)

pub hex_found : (bytes : List ℕ) (x : List ℕ × List ℕ) → hex_at bytes ≡ Some x → HexOf x.0 bytes x.1
unfolding hex_at
hex_found bytes x e =
    let r = bind_some (word_at (34 ∷ []) bytes) (λ inside. bytes_at hex_byte (suc (length inside)) inside) x e in
    let run = hex_from_run x.0 r.0 (34 ∷ x.1) (run_found hex_reads (suc (length r.0)) r.0 x r.2) in
    (run.0, run.1, word_found (34 ∷ []) bytes r.0 r.1 ∙ ap (λ (xs : List ℕ). 34 ∷ xs) run.2)

pub hex_again : (found bytes rest : List ℕ) → HexOf found bytes rest → hex_at bytes ≡ Some (found, rest)
unfolding hex_at
hex_again found bytes rest (digits, are, parts) =
    let inside = digits ++ 34 ∷ rest in
    ap (λ (w : Option (List ℕ)). w >>= λ inside. bytes_at hex_byte (suc (length inside)) inside) (word_again (34 ∷ []) bytes inside parts)
    ∙ run_again hex_reads found (suc (length inside)) inside rest (hex_to_run digits found (34 ∷ rest) are) (omega arith)
