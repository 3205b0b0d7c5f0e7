-- Texts with each quote doubled: read part by part, and closed at one place alone.
use Rattle.std.proofs.Common.{◌≡◌, ◌∙◌, ◌==◌, ◌<◌, ◌≤◌, ◌+◌, ℕ, Bool, true, false, not, List, [], ◌∷◌, ◌++◌, length, get_or, take, drop, Option, Some, None, if◌then◌else◌, refl, sym, ap, subst, arith, length-append, append_assoc}
use Rattle.std.specs.Prelude.{IsUtf8}
use Rattle.std.proofs.lemmas.Bool.{eqb-true, eq-eqb, true≢false}
use Rattle.std.proofs.lemmas.List.{append-nil, get_or_at, take_at, drop_at}
use Rattle.std.proofs.lemmas.List.Concat.{flat_map-append}
use Rattle.std.proofs.lemmas.Str.{IsUtf8-take, IsUtf8-drop, IsCharBoundary-before_ascii, IsCharBoundary-after_ascii}
use Rattle.sql_tokens.specs.declared.bytes.Class.TheVariants.{But}
use Rattle.sql_tokens.specs.Bytes.{front, behind, begins_with}
use Rattle.sql_tokens.specs.Pieces.{doubled, Closes, EndsWith}
use Rattle.sql_tokens.proofs.Runs.{run_parts}

pub doubled_append : (q : ℕ) (xs ys : List ℕ) → doubled q (xs ++ ys) ≡ doubled q xs ++ doubled q ys
doubled_append q xs ys = flat_map-append (λ b. if b == q then q ∷ q ∷ [] else b ∷ []) xs ys

-- a front with no quote in it
pub doubled_front : (q : ℕ) (bytes : List ℕ) → doubled q (front (But q) bytes) ≡ front (But q) bytes
doubled_front q [] = refl
doubled_front q (b ∷ rest) = go (b == q) refl (doubled_front q rest)
  where
    go : (t : Bool) → (b == q) ≡ t → doubled q (front (But q) rest) ≡ front (But q) rest
        → doubled q (if not t then b ∷ front (But q) rest else []) ≡ (if not t then b ∷ front (But q) rest else [])
    go true e same = refl
    go false e same =
        ap (λ (t : Bool). (if t then q ∷ q ∷ [] else b ∷ []) ++ doubled q (front (But q) rest)) e
        ∙ ap (λ (xs : List ℕ). b ∷ xs) same

doubled_quote : (q : ℕ) → doubled q (q ∷ []) ≡ q ∷ q ∷ []
doubled_quote q = ap (λ (t : Bool). (if t then q ∷ q ∷ [] else q ∷ []) ++ []) (eq-eqb q q refl)

pub behind_quote : (q : ℕ) (bytes : List ℕ) → 0 < length (behind (But q) bytes)
    → behind (But q) bytes ≡ q ∷ drop 1 (behind (But q) bytes)
behind_quote q [] some = absurd (omega arith)
behind_quote q (b ∷ rest) some = go (b == q) refl some (behind_quote q rest)
  where
    go : (t : Bool) → (b == q) ≡ t → 0 < length (if not t then behind (But q) rest else b ∷ rest)
        → (0 < length (behind (But q) rest) → behind (But q) rest ≡ q ∷ drop 1 (behind (But q) rest))
        → (if not t then behind (But q) rest else b ∷ rest) ≡ q ∷ drop 1 (if not t then behind (But q) rest else b ∷ rest)
    go true e some later = ap (λ (x : ℕ). x ∷ rest) (eqb-true b q e)
    go false e some later = later some

-- a text is cut at a byte of ASCII
cut_utf8 : (xs ys : List ℕ) (c : ℕ) → c < 128 → IsUtf8 (xs ++ c ∷ ys) → IsUtf8 xs × IsUtf8 (xs ++ c ∷ []) × IsUtf8 ys
cut_utf8 xs ys c low u =
    let at : get_or (xs ++ c ∷ ys) (length xs) 0 ≡ c = get_or_at xs c ys 0 (length xs) refl in
    let long = length-append xs (c ∷ ys) in
    let within : length xs < length (xs ++ c ∷ ys) = omega arith in
    let small : get_or (xs ++ c ∷ ys) (length xs) 0 < 128 = omega arith in
    let after = IsCharBoundary-after_ascii (xs ++ c ∷ ys) (length xs) u within small in
    let one = length-append xs (c ∷ []) in
    let size : length (xs ++ c ∷ []) ≡ length xs + 1 = omega arith in
    let parts : (xs ++ c ∷ []) ++ ys ≡ xs ++ c ∷ ys = append_assoc xs (c ∷ []) ys in (
      subst IsUtf8 (take_at xs (c ∷ ys) (length xs) refl)
          (IsUtf8-take (xs ++ c ∷ ys) (length xs) u (IsCharBoundary-before_ascii (xs ++ c ∷ ys) (length xs) within small)),
      subst IsUtf8 (ap (take (length xs + 1)) (sym parts) ∙ take_at (xs ++ c ∷ []) ys (length xs + 1) size)
          (IsUtf8-take (xs ++ c ∷ ys) (length xs + 1) u after),
      subst IsUtf8 (ap (drop (length xs + 1)) (sym parts) ∙ drop_at (xs ++ c ∷ []) ys (length xs + 1) size)
          (IsUtf8-drop (xs ++ c ∷ ys) (length xs + 1) u after),
    )

-- what stands behind a first byte of ASCII at the end of a text
pub text_behind : (before bytes : List ℕ) (c : ℕ) → c < 128 → IsUtf8 (before ++ c ∷ bytes) → IsUtf8 bytes
text_behind before bytes c low u = (cut_utf8 before bytes c low u).2

module _ (q : ℕ) (low : q < 128) (bytes part rest : List ℕ) (u : IsUtf8 bytes) (is : part ≡ front (But q) bytes) (is_rest : rest ≡ behind (But q) bytes) where
  parts : part ++ rest ≡ bytes
  parts = ap (λ (xs : List ℕ). xs ++ rest) is ∙ (ap (λ (xs : List ℕ). front (But q) bytes ++ xs) is_rest ∙ run_parts (But q) bytes)

  plain : doubled q part ≡ part
  plain = ap (doubled q) is ∙ (doubled_front q bytes ∙ sym is)

  pub chunk_none : length rest ≡ 0 → doubled q bytes ≡ bytes
  chunk_none none = go rest none parts
    where
      go : (xs : List ℕ) → length xs ≡ 0 → part ++ xs ≡ bytes → doubled q bytes ≡ bytes
      go [] e p = let same : part ≡ bytes = sym (append-nil part) ∙ p in subst (λ (xs : List ℕ). doubled q xs ≡ xs) same plain
      go (x ∷ xs) e p = absurd (omega arith)

  pub part_short : 0 < length rest → length part + 1 ≤ length bytes
  part_short some = let e = sym (length-append part rest) ∙ ap length parts in omega arith

  split : 0 < length rest → bytes ≡ part ++ q ∷ drop 1 rest
  split some =
      let some_behind : 0 < length (behind (But q) bytes) = (let e = ap length is_rest in omega arith) in
      let first : rest ≡ q ∷ drop 1 rest = is_rest ∙ (behind_quote q bytes some_behind ∙ ap (λ (xs : List ℕ). q ∷ drop 1 xs) (sym is_rest)) in
      sym parts ∙ ap (λ (xs : List ℕ). part ++ xs) first

  pub chunk_last : (after : List ℕ) → 0 < length rest → after ≡ drop 1 rest → begins_with q after ≡ false
      → Closes q bytes part after × IsUtf8 part
  chunk_last after some is_after ends =
      let here : bytes ≡ part ++ q ∷ after = split some ∙ ap (λ (xs : List ℕ). part ++ q ∷ xs) (sym is_after) in
      ((here ∙ ap (λ (xs : List ℕ). xs ++ q ∷ after) (sym plain), ends), (cut_utf8 part after q low (subst IsUtf8 here u)).0)

  pub chunk_part : (after text tail : List ℕ) → 0 < length rest → after ≡ drop 1 rest → begins_with q after ≡ true
      → text ≡ take (length part + 1) bytes → tail ≡ drop 1 after
      → (bytes ≡ doubled q text ++ tail) × (length tail < length bytes) × IsUtf8 text × IsUtf8 tail
  chunk_part after text tail some is_after goes is_text is_tail =
      let second : after ≡ q ∷ tail = begun after goes ∙ ap (λ (xs : List ℕ). q ∷ xs) (sym is_tail) in
      let here : bytes ≡ part ++ q ∷ q ∷ tail = split some ∙ ap (λ (xs : List ℕ). part ++ q ∷ xs) (sym is_after ∙ second) in
      let regrouped : (part ++ q ∷ []) ++ q ∷ tail ≡ part ++ q ∷ q ∷ tail = append_assoc part (q ∷ []) (q ∷ tail) in
      let one = length-append part (q ∷ []) in
      let size : length (part ++ q ∷ []) ≡ length part + 1 = omega arith in
      let whole : text ≡ part ++ q ∷ [] =
      is_text ∙ (ap (take (length part + 1)) (here ∙ sym regrouped) ∙ take_at (part ++ q ∷ []) (q ∷ tail) (length part + 1) size) in
      let twice : doubled q text ≡ part ++ q ∷ q ∷ [] =
      ap (doubled q) whole ∙ (doubled_append q part (q ∷ []) ∙ (ap (λ (xs : List ℕ). xs ++ doubled q (q ∷ [])) plain ∙ ap (λ (xs : List ℕ). part ++ xs) (doubled_quote q))) in
      let cut = cut_utf8 part (q ∷ tail) q low (subst IsUtf8 here u) in
      let e = ap length here ∙ length-append part (q ∷ q ∷ tail) in (
        here ∙ sym (ap (λ (xs : List ℕ). xs ++ tail) twice ∙ append_assoc part (q ∷ q ∷ []) tail),
        omega arith,
        subst IsUtf8 (sym whole) cut.1,
        text_behind [] tail q low cut.2,
      )
    where
      begun : (xs : List ℕ) → begins_with q xs ≡ true → xs ≡ q ∷ drop 1 xs
      begun [] e = absurd (true≢false (sym e))
      begun (x ∷ xs) e = ap (λ (y : ℕ). y ∷ xs) (eqb-true x q e)

-- one part more of the text
pub part_read : (q : ℕ) (bytes text left part rest : List ℕ) → bytes ≡ doubled q text ++ left
    → left ≡ doubled q part ++ rest → bytes ≡ doubled q (text ++ part) ++ rest
part_read q bytes text left part rest e f =
    e ∙ (ap (λ (xs : List ℕ). doubled q text ++ xs) f
    ∙ (sym (append_assoc (doubled q text) (doubled q part) rest) ∙ ap (λ (xs : List ℕ). xs ++ rest) (sym (doubled_append q text part))))

-- the last part of the text
pub last_read : (q : ℕ) (bytes text left part after : List ℕ) → bytes ≡ doubled q text ++ left
    → Closes q left part after → Closes q bytes (text ++ part) after
last_read q bytes text left part after e x = (part_read q bytes text left part (q ∷ after) e x.0, x.1)

-- a byte before what closes
put : ℕ → Option (List ℕ × List ℕ) → Option (List ℕ × List ℕ)
put b None = None
put b (Some x) = Some (b ∷ x.0, x.1)

-- the text that is closed and what follows it; the flag tells that a quote was just passed
closing : ℕ → Bool → List ℕ → Option (List ℕ × List ℕ)
closing q false [] = None
closing q true [] = Some ([], [])
closing q false (b ∷ bytes) = if b == q then closing q true bytes else put b (closing q false bytes)
closing q true (b ∷ bytes) = if b == q then put q (closing q false bytes) else Some ([], b ∷ bytes)

passed : (q : ℕ) (bytes : List ℕ) → closing q false (q ∷ bytes) ≡ closing q true bytes
unfolding closing
passed q bytes = ap (λ (t : Bool). if t then closing q true bytes else put q (closing q false bytes)) (eq-eqb q q refl)

twice_passed : (q : ℕ) (bytes : List ℕ) → closing q false (q ∷ q ∷ bytes) ≡ put q (closing q false bytes)
unfolding closing
twice_passed q bytes =
    passed q (q ∷ bytes) ∙ ap (λ (t : Bool). if t then put q (closing q false bytes) else Some ([], q ∷ bytes)) (eq-eqb q q refl)

other_passed : (q b : ℕ) (bytes : List ℕ) → (b == q) ≡ false → closing q false (b ∷ bytes) ≡ put b (closing q false bytes)
unfolding closing
other_passed q b bytes e = ap (λ (t : Bool). if t then closing q true bytes else put b (closing q false bytes)) e

end_passed : (q : ℕ) (after : List ℕ) → begins_with q after ≡ false → closing q true after ≡ Some ([], after)
unfolding closing
end_passed q [] e = refl
end_passed q (b ∷ after) e = ap (λ (t : Bool). if t then put q (closing q false after) else Some ([], b ∷ after)) e

text_passed : (q : ℕ) (text tail : List ℕ) (b : ℕ) → closing q false (doubled q (b ∷ text) ++ tail) ≡ put b (closing q false (doubled q text ++ tail))
text_passed q text tail b = go (b == q) refl
  where
    go : (t : Bool) → (b == q) ≡ t → closing q false (((if t then q ∷ q ∷ [] else b ∷ []) ++ doubled q text) ++ tail) ≡ put b (closing q false (doubled q text ++ tail))
    go true e = twice_passed q (doubled q text ++ tail) ∙ ap (λ (x : ℕ). put x (closing q false (doubled q text ++ tail))) (sym (eqb-true b q e))
    go false e = other_passed q b (doubled q text ++ tail) e

closed : (q : ℕ) (text after : List ℕ) → begins_with q after ≡ false → closing q false (doubled q text ++ q ∷ after) ≡ Some (text, after)
unfolding put
closed q [] after e = passed q after ∙ end_passed q after e
closed q (b ∷ text) after e = text_passed q text (q ∷ after) b ∙ ap (put b) (closed q text after e)

not_closed : (q : ℕ) (text : List ℕ) → closing q false (doubled q text ++ []) ≡ None
unfolding put closing
not_closed q [] = refl
not_closed q (b ∷ text) = text_passed q text [] b ∙ ap (put b) (not_closed q text)

-- a text is closed at one place alone
pub closes_once : (q : ℕ) (bytes text other after beyond : List ℕ) → Closes q bytes text after → Closes q bytes other beyond
    → (text ≡ other) × (after ≡ beyond)
closes_once q bytes text other after beyond x y =
    let one : ◌≡◌ {A = Option (List ℕ × List ℕ)} (Some (text, after)) (Some (other, beyond)) =
    sym (closed q text after x.1) ∙ (ap (closing q false) (sym x.0 ∙ y.0) ∙ closed q other beyond y.1) in
    let same : ◌≡◌ {A = List ℕ × List ℕ} (text, after) (other, beyond) = cc in
    (ap (λ (p : List ℕ × List ℕ). p.0) same, ap (λ (p : List ℕ × List ℕ). p.1) same)

-- a text with all its quotes doubled is not closed
pub never_closed : (q : ℕ) (bytes text left : List ℕ) → bytes ≡ doubled q text ++ left → doubled q left ≡ left
    → (found after : List ℕ) → Closes q bytes found after → ⊥
never_closed q bytes text left e f found after x =
    let all : bytes ≡ doubled q (text ++ left) ++ [] =
    e ∙ (ap (λ (xs : List ℕ). doubled q text ++ xs) (sym f) ∙ (sym (doubled_append q text left) ∙ sym (append-nil (doubled q (text ++ left))))) in
    let one : ◌≡◌ {A = Option (List ℕ × List ℕ)} (Some (found, after)) None = sym (closed q found after x.1) ∙ (ap (closing q false) (sym x.0 ∙ all) ∙ not_closed q (text ++ left)) in
    absurd (cc)

pub closes_last : (q : ℕ) (bytes text after : List ℕ) → Closes q bytes text after → EndsWith bytes after
closes_last q bytes text after x = (doubled q text ++ q ∷ [], x.0 ∙ sym (append_assoc (doubled q text) (q ∷ []) after))
