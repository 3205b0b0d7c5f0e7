-- What is answered of one statement, or of none.
use Rattle.std.proofs.Common.{◌≡◌, ℕ, suc, ◌≤◌, ◌<◌, ◌+◌, Bool as Boolean, true, false, cond, List, [], ◌∷◌, ◌++◌, length, Option, Some, None, Result, Ok, Err, refl, sym, ap, subst, ◌∙◌, arith, inl, inr, ◌⊎◌, length-append}
use Rattle.std.specs.Prelude.{nat_le, codes}
use Rattle.std.proofs.lemmas.Bool.{lt-leb, le-leb, leb-true, leb-false}
use Rattle.std.proofs.lemmas.List.{append-nil}
use Rattle.std.proofs.lemmas.List.Elements.{All-nil, All-cons, All-head}
use Rattle.sql_tokens.specs.declared.fault.Fault.{Fault}
use Rattle.sql_tokens.specs.declared.fault.Fault.TheVariants as one
use Rattle.sql_tokens.specs.declared.fault.ReadError.{ReadError}
use Rattle.sql_tokens.specs.declared.fault.ReadError.TheVariants as error
use Rattle.sql_tokens.specs.Reading.{◌>>=◌, Fails}
use Rattle.sql_tokens.proofs.Good.{Has, HasMark}
use Rattle.sql_tokens.specs.declared.mark.Mark.TheVariants as mark
use Rattle.sql_tokens.specs.declared.token.Token.{Token}
use Rattle.sql_tokens.specs.declared.token.Token.TheVariants as token
use Rattle.sql_tokens.specs.declared.word.Word.TheVariants as word
use Rattle.sql_tree.specs.declared.statement.SelectList.{SelectList}
use Rattle.sql_tree.specs.declared.statement.SelectList.TheVariants as list
use Rattle.sql_tree.specs.declared.statement.Statement.{Statement}
use Rattle.sql_reader.specs.declared.verb.Verb.{Verb}
use Rattle.sql_reader.specs.declared.verb.Verb.TheVariants as verb
use Rattle.sql_reader.specs.Parts.{Maybe}
use Rattle.sql_reader.specs.Steps.{maybe_step}
use Rattle.sql_reader.specs.Words.{after_verb, from_word, plain_name}
use Rattle.sql_reader.specs.Grammar.{verb_token, BehindVerb, Bound, ListOf, star, count, items, Source, SourceOf, select_of, SelectOf}
use Rattle.sql_reader.specs.Reading.{verb_at}
use Rattle.sql_reader.proofs.Verbs.{verb_keyed, verb_stage}
use Rattle.sql_reader.specs.declared.text_fault.TextFault.{TextFault}
use Rattle.sql_reader.specs.declared.text_fault.TextFault.TheVariants.{Syntax, WithoutFrom, TooDeep, TooMany}
use Rattle.sql_reader.specs.TextGrammar.{PartOf, is_bare, HaveFrom, IsRows}
use Rattle.sql_reader.specs.TextReading.{Refuses, error_of, lifted, is_bound, placed, add_step, add_at}
use Rattle.sql_reader.proofs.Texts.{part_at}

-- it is no SELECT of `*` or `count(*)` without FROM
abbrev pub IsFine : Statement → Type 0
IsFine s = is_bare s ≡ false

-- a statement, if it is there
abbrev pub there : Option Statement → List Statement
there None = []
there (Some s) = s ∷ []

-- SELECT, the `*` or `count(*)` from which on this many tokens are left, and `;` or the end
abbrev pub BareAt : List Token → ℕ → Type 0
BareAt ts left = (rows : List Token) × (after : List Token) × IsRows rows × Bound after × (ts ≡ token.Word word.Select ∷ (rows ++ after)) × (length (rows ++ after) ≡ left)

-- a word that begins a statement, from which on this many tokens are left
abbrev pub BeginsAt : List Token → ℕ → Type 0
BeginsAt ts left = (v : Verb) × (after : List Token) × (ts ≡ verb_token v ∷ after) × (suc (length after) ≡ left)

-- what is answered of the part at the front, and what the lines of the grammar say of it
abbrev pub Added : ℕ → List Statement → List Token → Result (List Statement × List Token) TextFault → Type 0
Added d before ts (Ok y) = (o : Option Statement) × PartOf d ts o y.1 × (part_at d ts ≡ Ok (o, y.1)) × (y.0 ≡ before ++ there o) × (Bound y.1 → HaveFrom (there o)) × (length y.0 ≤ 256)
Added d before ts (Err (Syntax n w)) = part_at d ts ≡ Err (one.Syntax n w)
Added d before ts (Err (TooDeep n)) = part_at d ts ≡ Err (one.TooDeep n)
Added d before ts (Err (WithoutFrom n)) = BareAt ts n × (length before < 256)
Added d before ts (Err (TooMany n)) = BeginsAt ts n × (256 ≤ length before)

pub bound_is : (ts : List Token) → Bound ts → is_bound ts ≡ true
bound_is [] h = refl
bound_is (token.Mark mark.Semicolon ∷ ts) h = refl
bound_is _ h = absurd h

pub is_bound_bound : (ts : List Token) → is_bound ts ≡ true → Bound ts
is_bound_bound [] e = tt
is_bound_bound (token.Mark mark.Semicolon ∷ ts) e = tt
is_bound_bound _ e = absurd cc

pub bound_verb : (ts : List Token) → Bound ts → after_verb ts ≡ None
bound_verb [] h = refl
bound_verb (token.Mark mark.Semicolon ∷ ts) h = refl
bound_verb _ h = absurd h

-- ---- a SELECT of `*` or `count(*)` without FROM

bare_select : (l : SelectList) (o : Option Source) → is_bare (select_of (l, o)) ≡ true → (o ≡ None) × ((l ≡ list.Star) ⊎ (l ≡ list.Count))
bare_select list.Star None e = (refl, inl refl)
bare_select list.Count None e = (refl, inr refl)
bare_select (list.Items xs) None e = absurd cc
bare_select list.Star (Some s) e = absurd cc
bare_select list.Count (Some s) e = absurd cc
bare_select (list.Items xs) (Some s) e = absurd cc

Rows : List Token → List Token → Type 0
Rows ts rest = (rows : List Token) × IsRows rows × (ts ≡ rows ++ rest)

rows_of : (d : ℕ) (ts : List Token) (l : SelectList) (rest : List Token) → ListOf d ts l rest → (l ≡ list.Star) ⊎ (l ≡ list.Count) → Rows ts rest
unfolding Rows
rows_of d ts l rest (star e k) h = (token.Mark mark.Star ∷ [], inl refl, e)
rows_of d ts l rest (count e k) h = (plain_name (codes "count") tt ∷ token.Mark mark.Open ∷ token.Mark mark.Star ∷ token.Mark mark.Close ∷ [], inr refl, e)
rows_of d ts l rest (items xs r q) (inl h) = let e : list.Star ≡ list.Items xs = sym h ∙ q in absurd cc
rows_of d ts l rest (items xs r q) (inr h) = let e : list.Count ≡ list.Items xs = sym h ∙ q in absurd cc

select_rows : (d : ℕ) (ts : List Token) (s : Statement) (rest : List Token) → SelectOf d ts s rest → is_bare s ≡ true → Rows ts rest
select_rows d ts s rest h e = by h.1.2 where
  told : (h.0.1 ≡ None) × ((h.0.0 ≡ list.Star) ⊎ (h.0.0 ≡ list.Count))
  told = bare_select h.0.0 h.0.1 (subst (λ (t : Statement). is_bare t ≡ true) h.2 e)

  by : Maybe from_word (λ _. SourceOf d) h.1.0 h.0.1 rest → Rows ts rest
  by (inl m) = subst (Rows ts) m.0 (rows_of d ts h.0.0 h.1.0 h.1.1 told.1)
  by (inr m) = let f : None ≡ Some m.0 = sym told.0 ∙ m.2 in absurd cc

no_bare : (s t : Statement) → s ≡ t → is_bare t ≡ false → is_bare s ≡ true → ⊥
no_bare s t h f e = let g : is_bare s ≡ false = ap is_bare h ∙ f in absurd cc

bare_verb : (d : ℕ) (v : Verb) (ts : List Token) (s : Statement) (rest : List Token) → BehindVerb d v ts s rest → is_bare s ≡ true → (v ≡ verb.Select) × Rows ts rest
bare_verb d verb.Select ts s rest h e = (refl, select_rows d ts s rest h e)
bare_verb d verb.Insert ts s rest h e = absurd (no_bare s _ h.2 refl e)
bare_verb d verb.Update ts s rest h e = absurd (no_bare s _ h.2 refl e)
bare_verb d verb.Delete ts s rest h e = absurd (no_bare s _ h.2 refl e)
bare_verb d verb.Begin ts s rest h e = absurd (no_bare s _ h.2 refl e)
bare_verb d verb.Start ts s rest h e = absurd (no_bare s _ h.2 refl e)
bare_verb d verb.Commit ts s rest h e = absurd (no_bare s _ h.2 refl e)
bare_verb d verb.End ts s rest h e = absurd (no_bare s _ h.2 refl e)
bare_verb d verb.Rollback ts s rest h e = absurd (no_bare s _ h.2 refl e)
bare_verb d verb.Abort ts s rest h e = absurd (no_bare s _ h.2 refl e)
bare_verb d verb.Show ts s rest h e = absurd (no_bare s _ h.3.1 refl e)
bare_verb d verb.Pgpool ts s rest h e = absurd (no_bare s _ h.2 refl e)

bare_at : (d : ℕ) (v : Verb) (ts after : List Token) (s : Statement) (rest : List Token) → ts ≡ verb_token v ∷ after → BehindVerb d v after s rest → is_bare s ≡ true → Bound rest → BareAt ts (length after)
unfolding Rows
bare_at d v ts after s rest is h e ends =
    let b = bare_verb d v after s rest h e in
    (b.1.0, rest, b.1.1, ends, is ∙ ap (λ (w : Verb). verb_token w ∷ after) b.0 ∙ ap (λ (l : List Token). token.Word word.Select ∷ l) b.1.2, sym (ap length b.1.2))

-- ---- from what is answered to the lines of the grammar

none_at : (d : ℕ) (ts : List Token) → after_verb ts ≡ None → part_at d ts ≡ Ok (None, ts)
none_at d ts is = ap (maybe_step (verb_at d) ts) is

some_at : (d : ℕ) (ts : List Token) (m : Verb × List Token) (r : Result (Statement × List Token) Fault) → after_verb ts ≡ Some m → verb_at d m.0 m.1 ≡ r → part_at d ts ≡ (r >>= λ x. Ok (Some x.0, x.1))
some_at d ts m r is e = ap (maybe_step (verb_at d) ts) is ∙ ap (λ (q : Result (Statement × List Token) Fault). q >>= λ x. Ok (Some x.0, x.1)) e

module _ (d : ℕ) (before : List Statement) (ts : List Token) (le : length before ≤ 256) where
  module _ (m : Verb × List Token) (is : after_verb ts ≡ Some m) (h : ts ≡ verb_token m.0 ∷ m.1) (room : length before < 256) where
    good : (x : Statement × List Token) → verb_at d m.0 m.1 ≡ Ok x → BehindVerb d m.0 m.1 x.0 x.1 → (Bound x.1 → is_bare x.0 ≡ false) → Added d before ts (Ok (before ++ x.0 ∷ [], x.1))
    good x e k b = (Some x.0, inr (x.0, (m.0, m.1, h, k), refl), some_at d ts m (Ok x) is e, refl, λ ends. All-cons IsFine x.0 [] (b ends) (All-nil IsFine), omega (arith, room, length-append before (x.0 ∷ [])))

    by_from : (x : Statement × List Token) → verb_at d m.0 m.1 ≡ Ok x → BehindVerb d m.0 m.1 x.0 x.1 → (b c : Boolean) → is_bare x.0 ≡ b → is_bound x.1 ≡ c
        → Added d before ts (cond (cond b c false) (Err (WithoutFrom (length m.1))) (Ok (before ++ x.0 ∷ [], x.1)))
    by_from x e k false c p q = good x e k (λ ends. p)
    by_from x e k true false p q = good x e k (λ ends. let f : true ≡ false = sym (bound_is x.1 ends) ∙ q in absurd cc)
    by_from x e k true true p q = (bare_at d m.0 ts m.1 x.0 x.1 h k p (is_bound_bound x.1 q), room)

    by_read : (r : Result (Statement × List Token) Fault) → verb_at d m.0 m.1 ≡ r → Has r (BehindVerb d m.0 m.1) → Added d before ts (lifted r (placed before m.1))
    by_read (Ok x) e k = by_from x e k (is_bare x.0) (is_bound x.1) refl refl
    by_read (Err (one.Syntax n w)) e k = some_at d ts m (Err (one.Syntax n w)) is e
    by_read (Err (one.TooDeep n)) e k = some_at d ts m (Err (one.TooDeep n)) is e

  by_room : (m : Verb × List Token) → after_verb ts ≡ Some m → ts ≡ verb_token m.0 ∷ m.1 → (b : Boolean) → nat_le 256 (length before) ≡ b
      → Added d before ts (cond b (Err (TooMany (length ts))) (lifted (verb_at d m.0 m.1) (placed before m.1)))
  by_room m is h true e = ((m.0, m.1, h, sym (ap length h)), leb-true 256 (length before) e)
  by_room m is h false e = by_read m is h (leb-false 256 (length before) e) (verb_at d m.0 m.1) refl ((verb_stage m.0).takes d m.1)

  by_verb : (o : Option (Verb × List Token)) → after_verb ts ≡ o → HasMark o (λ v after. ts ≡ verb_token v ∷ after) → Added d before ts (add_step d before ts o)
  by_verb None is h = (None, inl (refl, refl), none_at d ts is, sym (append-nil before), λ ends. All-nil IsFine, le)
  by_verb (Some m) is h = by_room m is h (nat_le 256 (length before)) refl

  pub added : Added d before ts (add_at d before ts)
  added = by_verb (after_verb ts) refl (verb_keyed.are.found ts)

-- ---- from the lines of the grammar to what is answered

add_some : (d : ℕ) (before : List Statement) (v : Verb) (after : List Token) (r : Result (Statement × List Token) Fault) → length before < 256 → verb_at d v after ≡ r
    → add_at d before (verb_token v ∷ after) ≡ lifted r (placed before after)
add_some d before v after r room e =
    ap (add_step d before (verb_token v ∷ after)) (verb_keyed.are.again v after)
    ∙ ap (λ (b : Boolean). cond b (Err (TooMany (suc (length after)))) (lifted (verb_at d v after) (placed before after))) (lt-leb 256 (length before) room)
    ∙ ap (λ (q : Result (Statement × List Token) Fault). lifted q (placed before after)) e

placed_fine : (before : List Statement) (after : List Token) (s : Statement) (rest : List Token) → is_bare s ≡ false → placed before after (s, rest) ≡ Ok (before ++ s ∷ [], rest)
placed_fine before after s rest e = ap (λ (b : Boolean). cond (cond b (is_bound rest) false) (Err (WithoutFrom (length after))) (Ok (before ++ s ∷ [], rest))) e

placed_bare : (before : List Statement) (after : List Token) (s : Statement) (rest : List Token) → is_bare s ≡ true → is_bound rest ≡ true → placed before after (s, rest) ≡ Err (WithoutFrom (length after))
placed_bare before after s rest e f =
    ap (λ (b : Boolean). cond (cond b (is_bound rest) false) (Err (WithoutFrom (length after))) (Ok (before ++ s ∷ [], rest))) e
    ∙ ap (λ (b : Boolean). cond b (Err (WithoutFrom (length after))) (Ok (before ++ s ∷ [], rest))) f

-- a statement that may stand is added
pub add_part : (d : ℕ) (before : List Statement) (ts : List Token) (o : Option Statement) (rest : List Token) → PartOf d ts o rest → Bound rest → HaveFrom (there o) → length before + length (there o) ≤ 256 → add_at d before ts ≡ Ok (before ++ there o, rest)
add_part d before ts o rest (inl h) ends have le = rw (h.0, h.1) (ap (add_step d before rest) (bound_verb rest ends) ∙ ap (λ (l : List Statement). Ok (l, rest)) (sym (append-nil before)))
add_part d before ts o rest (inr h) ends have le =
    let fine : is_bare h.0 ≡ false = All-head IsFine h.0 [] (subst (λ (p : Option Statement). HaveFrom (there p)) h.2 have) in
    let room : length before < 256 = omega (arith, le, ap (λ (p : Option Statement). length (there p)) h.2) in
    rw (h.1.2, h.2) (add_some d before h.1.0 h.1.1 (Ok (h.0, rest)) room ((verb_stage h.1.0).again d h.1.1 h.0 rest h.1.3 ends) ∙ placed_fine before h.1.1 h.0 rest fine)

-- one that lacks FROM is refused
pub add_bare : (d : ℕ) (before : List Statement) (rows after : List Token) → IsRows rows → Bound after → length before < 256 → add_at d before (token.Word word.Select ∷ (rows ++ after)) ≡ Err (WithoutFrom (length (rows ++ after)))
add_bare d before rows after (inl h) ends room =
    rw h (add_some d before verb.Select (token.Mark mark.Star ∷ after) (Ok (select_of (list.Star, None), after)) room
    ((verb_stage verb.Select).again d (token.Mark mark.Star ∷ after) (select_of (list.Star, None)) after ((list.Star, None), (after, star refl refl, inl (refl, refl)), refl) ends)
    ∙ placed_bare before (token.Mark mark.Star ∷ after) (select_of (list.Star, None)) after refl (bound_is after ends))
add_bare d before rows after (inr h) ends room =
    let counted : List Token = plain_name (codes "count") tt ∷ token.Mark mark.Open ∷ token.Mark mark.Star ∷ token.Mark mark.Close ∷ after in
    rw h (add_some d before verb.Select counted (Ok (select_of (list.Count, None), after)) room
    ((verb_stage verb.Select).again d counted (select_of (list.Count, None)) after ((list.Count, None), (after, count refl refl, inl (refl, refl)), refl) ends)
    ∙ placed_bare before counted (select_of (list.Count, None)) after refl (bound_is after ends))

-- one too many is refused
pub add_full : (d : ℕ) (before : List Statement) (v : Verb) (after : List Token) → length before ≡ 256 → add_at d before (verb_token v ∷ after) ≡ Err (TooMany (suc (length after)))
add_full d before v after full =
    ap (add_step d before (verb_token v ∷ after)) (verb_keyed.are.again v after)
    ∙ ap (λ (b : Boolean). cond b (Err (TooMany (suc (length after)))) (lifted (verb_at d v after) (placed before after))) (le-leb 256 (length before) (omega (arith, full)))

-- ---- as the code goes

-- what refuses the statement refuses its text
pub lifted_fails : {A B : Type 0} (x : ReadError) (r : Result A Fault) (f : A → Result B TextFault) → Fails x r → Refuses (error_of x) (lifted r f)
lifted_fails error.NoMemory r f h = tt
lifted_fails (error.Fault g) r f h = ap (λ (q : Result _ Fault). lifted q f) h

pub full_is : (d : ℕ) (before : List Statement) (ts : List Token) (m : Verb × List Token) → after_verb ts ≡ Some m → 256 ≤ length before → add_at d before ts ≡ Err (TooMany (length ts))
full_is d before ts m is full = ap (add_step d before ts) is ∙ ap (λ (b : Boolean). cond b (Err (TooMany (length ts))) (lifted (verb_at d m.0 m.1) (placed before m.1))) (le-leb 256 (length before) full)

pub added_is : (d : ℕ) (before : List Statement) (ts : List Token) (m : Verb × List Token) → after_verb ts ≡ Some m → length before < 256 → add_at d before ts ≡ lifted (verb_at d m.0 m.1) (placed before m.1)
added_is d before ts m is room = ap (add_step d before ts) is ∙ ap (λ (b : Boolean). cond b (Err (TooMany (length ts))) (lifted (verb_at d m.0 m.1) (placed before m.1))) (lt-leb 256 (length before) room)
