-- What reads a line by its runs finds just the forms of the grammar.
use Rattle.std.proofs.Common.{◌≡◌, ◌≢◌, ◌==◌, ◌||◌, ℕ, Bool, true, false, not, List, [], ◌∷◌, ◌++◌, Option, Some, None, refl, ap, sym, ◌∙◌, subst, if◌then◌else◌, append_assoc, arith}
use Rattle.std.proofs.lemmas.Bool.Decides.{nat_tests}
use Rattle.pool_config.specs.Bytes.{is_blank, has, AllOf, front, behind}
use Rattle.pool_config.specs.Form.{Spelling, quoted, bare, spelled, IsSpelling, IsComment, IsEnd, IsAssignment}
use Rattle.pool_config.specs.Reader.{starts_comment, is_end, closed_at, word_at, quoted_at, bare_at, spelling_at, ended, value_part, spelled_in, named, assignment_at, empty, assignment, formed, form_at}
use Rattle.pool_config.specs.declared.line.Class.{Class}
use Rattle.pool_config.specs.declared.line.Class.TheVariants.{Blank, Name, Word, Inner}
use Rattle.pool_config.proofs.Runs.{run_parts, run_all}

-- a run of the class ends here
abbrev Stops : Class → List ℕ → Type 0
Stops c [] = Unit {0}
Stops c (b ∷ rest) = has c b ≡ false

stop_front : (c : Class) (b : List ℕ) → Stops c b → front c b ≡ []
stop_front c [] h = refl
stop_front c (x ∷ rest) h = ap (λ (t : Bool). if t then x ∷ front c rest else []) h

stop_behind : (c : Class) (b : List ℕ) → Stops c b → behind c b ≡ b
stop_behind c [] h = refl
stop_behind c (x ∷ rest) h = ap (λ (t : Bool). if t then behind c rest else x ∷ rest) h

-- the run of a text that is a run and something that ends it
front_found : (c : Class) (a b : List ℕ) → AllOf c a → Stops c b → front c (a ++ b) ≡ a
front_found c [] b all h = stop_front c b h
front_found c (x ∷ a) b all h =
    ap (λ (t : Bool). if t then x ∷ front c (a ++ b) else []) all.0 ∙ ap (λ (xs : List ℕ). x ∷ xs) (front_found c a b all.1 h)

behind_found : (c : Class) (a b : List ℕ) → AllOf c a → Stops c b → behind c (a ++ b) ≡ b
behind_found c [] b all h = stop_behind c b h
behind_found c (x ∷ a) b all h =
    ap (λ (t : Bool). if t then behind c (a ++ b) else x ∷ (a ++ b)) all.0 ∙ behind_found c a b all.1 h

-- what is behind a run ends it
behind_stops : (c : Class) (bytes : List ℕ) → Stops c (behind c bytes)
behind_stops c [] = tt
behind_stops c (b ∷ rest) = go (has c b) refl (behind_stops c rest)
  where
    go : (t : Bool) → has c b ≡ t → Stops c (behind c rest) → Stops c (if t then behind c rest else b ∷ rest)
    go true e h = h
    go false e h = e

-- ---- bytes

no_word : (t u v w : Bool) → not (t || (u || v)) ≡ true → (t ≡ false) × (u ≡ false) × (v ≡ false)
no_word true u v w h = absurd (cc)
no_word false true v w h = absurd (cc)
no_word false false true w h = absurd (cc)
no_word false false false w h = (refl, refl, refl)

no_name : (t u v w : Bool) → not ((t || (u || v)) || w) ≡ true → (t ≡ false) × (u ≡ false) × (v ≡ false)
no_name true u v w h = absurd (cc)
no_name false true v w h = absurd (cc)
no_name false false true w h = absurd (cc)
no_name false false false w h = (refl, refl, refl)

word_plain : (b : ℕ) → has Word b ≡ true → (has Blank b ≡ false) × ((b == 39) ≡ false) × ((b == 35) ≡ false)
word_plain b h = no_word (is_blank b) (b == 39) (b == 35) true h

name_plain : (b : ℕ) → has Name b ≡ true → (has Blank b ≡ false) × ((b == 39) ≡ false) × ((b == 35) ≡ false)
name_plain b h = no_name (is_blank b) (b == 39) (b == 35) (b == 61) h

blank_no_name : (b : ℕ) → has Blank b ≡ true → has Name b ≡ false
blank_no_name b h = ap (λ (t : Bool). not ((t || (b == 39 || b == 35)) || b == 61)) h

blank_no_word : (b : ℕ) → has Blank b ≡ true → has Word b ≡ false
blank_no_word b h = ap (λ (t : Bool). not (t || (b == 39 || b == 35))) h

-- ---- ends

comment_starts : (c : List ℕ) → IsComment c → starts_comment c ≡ true
comment_starts [] h = refl
comment_starts (b ∷ rest) h = grind (arith, nat_tests)

starts_comment_is : (c : List ℕ) → starts_comment c ≡ true → IsComment c
starts_comment_is [] h = tt
starts_comment_is (b ∷ rest) h = let e : b ≡ 35 = grind (arith, nat_tests) in e

comment_stops : (c : List ℕ) → IsComment c → Stops Blank c
comment_stops [] h = tt
comment_stops (b ∷ rest) h = ap is_blank h

pub end_read : (bytes : List ℕ) → IsEnd bytes → is_end bytes ≡ true
end_read bytes h =
    ap (λ (xs : List ℕ). starts_comment (behind Blank xs)) h.parts
    ∙ (ap starts_comment (behind_found Blank h.blanks h.comment h.are_blank (comment_stops h.comment h.is_comment))
    ∙ comment_starts h.comment h.is_comment)

pub end_is : (bytes : List ℕ) → is_end bytes ≡ true → IsEnd bytes
end_is bytes h = record {
  blanks = front Blank bytes;
  comment = behind Blank bytes;
  parts = sym (run_parts Blank bytes);
  are_blank = run_all Blank bytes;
  is_comment = starts_comment_is (behind Blank bytes) h;
}

-- an end begins with no word
comment_no_word : (c : List ℕ) → IsComment c → Stops Word c
comment_no_word [] h = tt
comment_no_word (b ∷ rest) h = ap (has Word) h

end_no_word : (blanks comment : List ℕ) → AllOf Blank blanks → IsComment comment → Stops Word (blanks ++ comment)
end_no_word [] comment all h = comment_no_word comment h
end_no_word (b ∷ blanks) comment all h = blank_no_word b all.0

end_stops : (rest : List ℕ) → IsEnd rest → Stops Word rest
end_stops rest h = subst (Stops Word) (sym h.parts) (end_no_word h.blanks h.comment h.are_blank h.is_comment)

-- ---- a spelling

spelling_found : (w : Spelling) (rest : List ℕ) → IsSpelling w → IsEnd rest → spelling_at (spelled w ++ rest) ≡ Some (w, rest)
spelling_found (quoted inner) rest is end =
    ap quoted_at (append_assoc inner (39 ∷ []) rest)
    ∙ (ap (λ (xs : List ℕ). closed_at xs (behind Inner (inner ++ 39 ∷ rest))) (front_found Inner inner (39 ∷ rest) is refl)
    ∙ ap (closed_at inner) (behind_found Inner inner (39 ∷ rest) is refl))
spelling_found (bare []) rest is end = absurd (is.1 refl)
spelling_found (bare (b ∷ word)) rest is end =
    ap (λ (t : Bool). if t then quoted_at (word ++ rest) else bare_at (b ∷ (word ++ rest))) (word_plain b is.0.0).1
    ∙ (ap (λ (xs : List ℕ). word_at xs (behind Word ((b ∷ word) ++ rest))) (front_found Word (b ∷ word) rest is.0 (end_stops rest end))
    ∙ ap (word_at (b ∷ word)) (behind_found Word (b ∷ word) rest is.0 (end_stops rest end)))

spelling_starts : (w : Spelling) (rest : List ℕ) → IsSpelling w → Stops Blank (spelled w ++ rest)
spelling_starts (quoted inner) rest is = refl
spelling_starts (bare []) rest is = absurd (is.1 refl)
spelling_starts (bare (b ∷ word)) rest is = (word_plain b is.0.0).0

-- ---- `name = value`

equals_no_name : (blanks rest : List ℕ) → AllOf Blank blanks → Stops Name (blanks ++ 61 ∷ rest)
equals_no_name [] rest all = refl
equals_no_name (b ∷ blanks) rest all = blank_no_name b all.0

assignment_found : (name behind_name before_value rest : List ℕ) (w : Spelling) → AllOf Name name → name ≢ [] → AllOf Blank behind_name
    → AllOf Blank before_value → IsSpelling w → IsEnd rest
    → assignment_at (name ++ (behind_name ++ 61 ∷ (before_value ++ (spelled w ++ rest)))) ≡ Some (name, w)
assignment_found [] behind_name before_value rest w n some bn bv is end = absurd (some refl)
assignment_found (x ∷ name) behind_name before_value rest w n some bn bv is end =
    let tail : List ℕ = before_value ++ (spelled w ++ rest) in
    let after : List ℕ = behind_name ++ 61 ∷ tail in
    let stops : Stops Name after = equals_no_name behind_name tail bn in
    ap (λ (xs : List ℕ). named xs (behind Name ((x ∷ name) ++ after))) (front_found Name (x ∷ name) after n stops)
    ∙ (ap (λ (xs : List ℕ). named (x ∷ name) xs) (behind_found Name (x ∷ name) after n stops)
    ∙ (ap (λ (xs : List ℕ). ended (x ∷ name) (spelled_in (value_part xs))) (behind_found Blank behind_name (61 ∷ tail) bn refl)
    ∙ (ap (λ (xs : List ℕ). ended (x ∷ name) (spelling_at xs)) (behind_found Blank before_value (spelled w ++ rest) bv (spelling_starts w rest is))
    ∙ (ap (ended (x ∷ name)) (spelling_found w rest is end)
    ∙ ap (λ (t : Bool). if t then Some (x ∷ name, w) else None) (end_read rest end)))))

name_starts : (name rest : List ℕ) → AllOf Name name → name ≢ [] → (Stops Blank (name ++ rest)) × (starts_comment (name ++ rest) ≡ false)
name_starts [] rest n some = absurd (some refl)
name_starts (b ∷ name) rest n some = let p = name_plain b n.0 in (p.0, p.2)

-- a line of the form is read as it
pub assignment_read : (line name : List ℕ) (w : Spelling) → IsAssignment line name w → form_at line ≡ assignment name w
unfolding form_at
assignment_read line name w h =
    let after : List ℕ = h.behind_name ++ 61 ∷ (h.before_value ++ (spelled w ++ h.rest)) in
    let starts = name_starts name after h.name_is h.named in
    let skipped : behind Blank line ≡ name ++ after = ap (behind Blank) h.parts ∙ behind_found Blank h.before (name ++ after) h.before_is starts.0 in
    let not_end : is_end line ≡ false = ap starts_comment skipped ∙ starts.1 in
    ap (λ (t : Bool). if t then empty else formed (assignment_at (behind Blank line))) not_end
    ∙ (ap (λ (xs : List ℕ). formed (assignment_at xs)) skipped
    ∙ ap formed (assignment_found name h.behind_name h.before_value h.rest w h.name_is h.named h.behind_is h.before_value_is h.value_is h.rest_is))

pub end_form : (line : List ℕ) → IsEnd line → form_at line ≡ empty
unfolding form_at
end_form line h = ap (λ (t : Bool). if t then empty else formed (assignment_at (behind Blank line))) (end_read line h)

-- ---- what is read is of the form

-- a spelling with an end behind it
record Spelled (bytes : List ℕ) (w : Spelling) : Type 0 where
  rest : List ℕ
  parts : bytes ≡ spelled w ++ rest
  is : IsSpelling w
  is_end : IsEnd rest

abbrev name_in : List ℕ → Option (List ℕ × Spelling) → List ℕ
name_in d None = d
name_in d (Some p) = p.0

abbrev value_in : Spelling → Option (List ℕ × Spelling) → Spelling
value_in d None = d
value_in d (Some p) = p.1

-- a name with its value, where the test holds
abbrev found_if : Bool → List ℕ → Spelling → Option (List ℕ × Spelling)
found_if t name w = if◌then◌else◌ {A = Option (List ℕ × Spelling)} t (Some (name, w)) None

closed_is : (inner rest : List ℕ) (name n : List ℕ) (w : Spelling) → AllOf Inner inner → Stops Inner rest
    → ended name (closed_at inner rest) ≡ Some (n, w) → (name ≡ n) × Spelled (39 ∷ (inner ++ rest)) w
closed_is inner [] name n w all stops h = absurd (cc)
closed_is inner (q ∷ rest) name n w all stops h = go (is_end rest) refl h
  where
    go : (t : Bool) → is_end rest ≡ t → found_if t name (quoted inner) ≡ Some (n, w) → (name ≡ n) × Spelled (39 ∷ (inner ++ q ∷ rest)) w
    go false e k = absurd (cc)
    go true e k =
        let quote : q ≡ 39 = grind (arith, nat_tests) in
        let first : name ≡ n = ap (name_in name) k in
        let second : quoted inner ≡ w = ap (value_in (quoted inner)) k in (
          first,
          subst (Spelled (39 ∷ (inner ++ q ∷ rest))) second (record {
            rest = rest;
            parts = ap (λ (b : ℕ). 39 ∷ (inner ++ b ∷ rest)) quote ∙ ap (λ (xs : List ℕ). 39 ∷ xs) (sym (append_assoc inner (39 ∷ []) rest));
            is = all;
            is_end = end_is rest e;
          }),
        )

bare_is : (word rest : List ℕ) (name n : List ℕ) (w : Spelling) → AllOf Word word
    → ended name (word_at word rest) ≡ Some (n, w) → (name ≡ n) × Spelled (word ++ rest) w
bare_is [] rest name n w all h = absurd (cc)
bare_is (b ∷ word) rest name n w all h = go (is_end rest) refl h
  where
    go : (t : Bool) → is_end rest ≡ t → found_if t name (bare (b ∷ word)) ≡ Some (n, w) → (name ≡ n) × Spelled ((b ∷ word) ++ rest) w
    go false e k = absurd (cc)
    go true e k =
        let first : name ≡ n = ap (name_in name) k in
        let second : bare (b ∷ word) ≡ w = ap (value_in (bare (b ∷ word))) k in (
          first,
          subst (Spelled ((b ∷ word) ++ rest)) second (record {
            rest = rest;
            parts = refl;
            is = (all, λ e. absurd (cc));
            is_end = end_is rest e;
          }),
        )

spelling_is : (bytes name n : List ℕ) (w : Spelling) → ended name (spelling_at bytes) ≡ Some (n, w) → (name ≡ n) × Spelled bytes w
spelling_is [] name n w h = absurd (cc)
spelling_is (b ∷ rest) name n w h = go (b == 39) refl h
  where
    go : (t : Bool) → (b == 39) ≡ t → ended name (if t then quoted_at rest else bare_at (b ∷ rest)) ≡ Some (n, w) → (name ≡ n) × Spelled (b ∷ rest) w
    go true e k =
        let quote : b ≡ 39 = grind (arith, nat_tests) in
        let found = closed_is (front Inner rest) (behind Inner rest) name n w (run_all Inner rest) (behind_stops Inner rest) k in
        (found.0, subst (λ (xs : List ℕ). Spelled xs w) (ap (λ (xs : List ℕ). 39 ∷ xs) (run_parts Inner rest) ∙ ap (λ (x : ℕ). x ∷ rest) (sym quote)) found.1)
    go false e k =
        let found = bare_is (front Word (b ∷ rest)) (behind Word (b ∷ rest)) name n w (run_all Word (b ∷ rest)) k in
        (found.0, subst (λ (xs : List ℕ). Spelled xs w) (run_parts Word (b ∷ rest)) found.1)

-- `=`, blanks, and a spelling with an end behind it
record Valued (bytes : List ℕ) (w : Spelling) : Type 0 where
  blanks : List ℕ
  value : List ℕ
  parts : bytes ≡ 61 ∷ (blanks ++ value)
  are_blank : AllOf Blank blanks
  spells : Spelled value w

value_is : (bytes name n : List ℕ) (w : Spelling) → ended name (spelled_in (value_part bytes)) ≡ Some (n, w) → (name ≡ n) × Valued bytes w
value_is [] name n w h = absurd (cc)
value_is (b ∷ rest) name n w h = go (b == 61) refl h
  where
    go : (t : Bool) → (b == 61) ≡ t → ended name (spelled_in (if t then Some (behind Blank rest) else None)) ≡ Some (n, w) → (name ≡ n) × Valued (b ∷ rest) w
    go false e k = absurd (cc)
    go true e k =
        let sign : b ≡ 61 = grind (arith, nat_tests) in
        let found = spelling_is (behind Blank rest) name n w k in (
          found.0,
          record {
            blanks = front Blank rest;
            value = behind Blank rest;
            parts = ap (λ (x : ℕ). x ∷ rest) sign ∙ ap (λ (xs : List ℕ). 61 ∷ xs) (sym (run_parts Blank rest));
            are_blank = run_all Blank rest;
            spells = found.1;
          },
        )

joined_parts : (before name behind_name before_value value all rest end : List ℕ) (w : Spelling)
    → all ≡ before ++ (name ++ (behind_name ++ rest)) → rest ≡ 61 ∷ (before_value ++ value) → value ≡ spelled w ++ end
    → all ≡ before ++ (name ++ (behind_name ++ 61 ∷ (before_value ++ (spelled w ++ end))))
joined_parts before name behind_name before_value value all rest end w e f g =
    e ∙ (ap (λ (xs : List ℕ). before ++ (name ++ (behind_name ++ xs))) f
    ∙ ap (λ (xs : List ℕ). before ++ (name ++ (behind_name ++ 61 ∷ (before_value ++ xs)))) g)

named_is : (before found after n : List ℕ) (w : Spelling) (line : List ℕ) → line ≡ before ++ (found ++ after) → AllOf Blank before → AllOf Name found
    → named found after ≡ Some (n, w) → IsAssignment line n w
named_is before [] after n w line e b all h = absurd (cc)
named_is before (x ∷ found) after n w line e b all h =
    let r = value_is (behind Blank after) (x ∷ found) n w h in
    subst (λ (m : List ℕ). IsAssignment line m w) r.0 (record {
      before = before;
      behind_name = front Blank after;
      before_value = r.1.blanks;
      rest = r.1.spells.rest;
      parts = joined_parts before (x ∷ found) (front Blank after) r.1.blanks r.1.value line (behind Blank after) r.1.spells.rest w
          (e ∙ ap (λ (xs : List ℕ). before ++ ((x ∷ found) ++ xs)) (sym (run_parts Blank after))) r.1.parts r.1.spells.parts;
      before_is = b;
      name_is = all;
      named = λ e. absurd (cc);
      behind_is = run_all Blank after;
      before_value_is = r.1.are_blank;
      value_is = r.1.spells.is;
      rest_is = r.1.spells.is_end;
    })

-- what is read as the form is of it
pub form_is : (line n : List ℕ) (w : Spelling) → form_at line ≡ assignment n w → IsAssignment line n w
unfolding form_at
form_is line n w h = go (is_end line) (assignment_at (behind Blank line)) refl h
  where
    go : (t : Bool) (o : Option (List ℕ × Spelling)) → assignment_at (behind Blank line) ≡ o → (if t then empty else formed o) ≡ assignment n w → IsAssignment line n w
    go true o e k = absurd (cc)
    go false None e k = absurd (cc)
    go false (Some p) e k =
        let first : p.0 ≡ n = cc in
        let second : p.1 ≡ w = cc in
        let found : named (front Name (behind Blank line)) (behind Name (behind Blank line)) ≡ Some (n, w) =
        e ∙ (ap (λ (m : List ℕ). Some (m, p.1)) first ∙ ap (λ (v : Spelling). Some (n, v)) second) in
        named_is (front Blank line) (front Name (behind Blank line)) (behind Name (behind Blank line)) n w line
        (sym (run_parts Blank line) ∙ ap (λ (xs : List ℕ). front Blank line ++ xs) (sym (run_parts Name (behind Blank line))))
        (run_all Blank line) (run_all Name (behind Blank line)) found

pub empty_is : (line : List ℕ) → form_at line ≡ empty → IsEnd line
unfolding form_at
empty_is line h = go (is_end line) (assignment_at (behind Blank line)) refl h
  where
    go : (t : Bool) (o : Option (List ℕ × Spelling)) → is_end line ≡ t → (if t then empty else formed o) ≡ empty → IsEnd line
    go true o e k = end_is line e
    go false None e k = absurd (cc)
    go false (Some p) e k = absurd (cc)
