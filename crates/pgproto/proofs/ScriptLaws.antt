-- Scripts: one line more, the end, the first bad line; a text is one script at most.
use Rattle.std.proofs.Common.{◌≡◌, ◌≢◌, ℕ, zero, suc, ◌+◌, ◌<◌, ◌≤◌, ◌⊎◌, inl, inr, List, [], ◌∷◌, ◌++◌, length, map, Option, Some, None, Result, Ok, Err, refl, sym, ap, ap₂, subst, ◌∙◌, append_assoc, arith}
use Rattle.std.specs.List.{AllByRecursion, flat_map}
use Rattle.std.proofs.lemmas.List.{append-nil, length-append}
use Rattle.pgproto.specs.declared.line.ScriptLine.{ScriptLine}
use Rattle.pgproto.specs.declared.script.ScriptFault.{ScriptFault}
use Rattle.pgproto.specs.declared.script.ScriptFault.TheVariants as fault
use Rattle.pgproto.specs.Line.{IsLine, IsSmall, Line, line_of}
use Rattle.pgproto.specs.Script.{AreLines, IsBad, IsBadAt, IsNoLine, IsOneLine, IsScript, IsScriptLine, IsScriptOr, IsSkipped, Takes, text_of}
use Rattle.pgproto.specs.Reading.{◌>>=◌, number_at, session_at}
use Rattle.pgproto.specs.LineReading.{line_at, numbered_at}
use Rattle.pgproto.proofs.TextLaws.{some_is}
use Rattle.pgproto.proofs.LineAgain.{line_again}

abbrev pub AreOneEach : List (List ℕ) → Type 0
AreOneEach lines = AllByRecursion IsOneLine lines

-- the lines so far are read, and the rest is left
pub record Going (text rest : List ℕ) (found : List Line) (number : ℕ) : Type 0 where
  pub lines : List (List ℕ)
  pub one_each : AreOneEach lines
  pub parts : text ≡ text_of lines ++ rest
  pub are : AreLines lines found
  pub count : length lines ≡ number

pub starts : (text : List ℕ) → Going text text [] 0
starts text = record { lines = []; one_each = tt; parts = refl; are = refl; count = refl }

text_cons : (line : List ℕ) (lines : List (List ℕ)) → text_of (line ∷ lines) ≡ line ++ 10 ∷ text_of lines
text_cons line lines = append_assoc line (10 ∷ []) (text_of lines)

text_snoc : (lines : List (List ℕ)) (line rest : List ℕ) → text_of (lines ++ line ∷ []) ++ rest ≡ text_of lines ++ (line ++ 10 ∷ rest)
text_snoc [] line rest = simp append_assoc
text_snoc (first ∷ lines) line rest =
    append_assoc (first ++ 10 ∷ []) (text_of (lines ++ line ∷ [])) rest
    ∙ ap (λ (xs : List ℕ). (first ++ 10 ∷ []) ++ xs) (text_snoc lines line rest)
    ∙ sym (append_assoc (first ++ 10 ∷ []) (text_of lines) (line ++ 10 ∷ rest))

each_snoc : (lines : List (List ℕ)) (line : List ℕ) → AreOneEach lines → IsOneLine line → AreOneEach (lines ++ line ∷ [])
each_snoc [] line all one = (one, tt)
each_snoc (first ∷ lines) line all one = (all.0, each_snoc lines line all.1 one)

are_skip : (lines : List (List ℕ)) (line : List ℕ) (found : List Line) → AreLines lines found → IsSkipped line → AreLines (lines ++ line ∷ []) found
are_skip [] line found are skip = inl (skip, are)
are_skip (first ∷ lines) line found (inl (s, are)) skip = inl (s, are_skip lines line found are skip)
are_skip (first ∷ lines) line found (inr (l, more, is, parts, are)) skip = inr (l, more, is, parts, are_skip lines line more are skip)

are_keep : (lines : List (List ℕ)) (line : List ℕ) (found : List Line) (l : Line) → AreLines lines found → IsScriptLine l line → AreLines (lines ++ line ∷ []) (found ++ l ∷ [])
are_keep [] line found l are is = inr (l, [], is, ap (λ (xs : List Line). xs ++ l ∷ []) are, refl)
are_keep (first ∷ lines) line found l (inl (s, are)) is = inl (s, are_keep lines line found l are is)
are_keep (first ∷ lines) line found l (inr (k, more, has, parts, are)) is = inr (k, more ++ l ∷ [], has, ap (λ (xs : List Line). xs ++ l ∷ []) parts, are_keep lines line more l are is)

pub skips : (text rest line after : List ℕ) (found : List Line) (n : ℕ) → Going text rest found n → rest ≡ line ++ 10 ∷ after → IsOneLine line → IsSkipped line → Going text after found (n + 1)
skips text rest line after found n g parts one skip = record {
  lines = g.lines ++ line ∷ [];
  one_each = each_snoc g.lines line g.one_each one;
  parts = g.parts ∙ ap (λ (xs : List ℕ). text_of g.lines ++ xs) parts ∙ sym (text_snoc g.lines line after);
  are = are_skip g.lines line found g.are skip;
  count = length-append g.lines (line ∷ []) ∙ ap (λ (k : ℕ). k + 1) g.count;
}

pub keeps : (text rest line after : List ℕ) (found : List Line) (n : ℕ) (l : Line) → Going text rest found n → rest ≡ line ++ 10 ∷ after → IsOneLine line → IsScriptLine l line → Going text after (found ++ l ∷ []) (n + 1)
keeps text rest line after found n l g parts one is = record {
  lines = g.lines ++ line ∷ [];
  one_each = each_snoc g.lines line g.one_each one;
  parts = g.parts ∙ ap (λ (xs : List ℕ). text_of g.lines ++ xs) parts ∙ sym (text_snoc g.lines line after);
  are = are_keep g.lines line found l g.are is;
  count = length-append g.lines (line ∷ []) ∙ ap (λ (k : ℕ). k + 1) g.count;
}

pub goes_on : (text rest line after : List ℕ) (found new : List Line) (n : ℕ) → Going text rest found n → rest ≡ line ++ 10 ∷ after → IsOneLine line → Takes found new line → Going text after new (n + 1)
goes_on text rest line after found new n g parts one (inl (skip, same)) =
    subst (λ (xs : List Line). Going text after xs (n + 1)) (sym same) (skips text rest line after found n g parts one skip)
goes_on text rest line after found new n g parts one (inr (l, is, same)) =
    subst (λ (xs : List Line). Going text after xs (n + 1)) (sym same) (keeps text rest line after found n l g parts one is)

pub is_done : (text rest : List ℕ) (found : List Line) (n : ℕ) → Going text rest found n → rest ≡ [] → IsScript text found
is_done text rest found n g end = record {
  lines = g.lines;
  one_each = g.one_each;
  text_is = g.parts ∙ ap (λ (xs : List ℕ). text_of g.lines ++ xs) end ∙ append-nil (text_of g.lines);
  are = g.are;
}

pub bad_line : (text rest line after : List ℕ) (found : List Line) (n : ℕ) → Going text rest found n → rest ≡ line ++ 10 ∷ after → IsOneLine line → IsNoLine line → IsBadAt text (n + 1)
bad_line text rest line after found n g parts one none = record {
  before = g.lines;
  found = found;
  bad = line;
  behind = 10 ∷ after;
  one_each = g.one_each;
  one = one;
  are = g.are;
  text_is = g.parts ∙ ap (λ (xs : List ℕ). text_of g.lines ++ xs) parts;
  number = ap (λ (k : ℕ). k + 1) g.count;
  is_bad = inl (after, refl, none);
}

pub no_end : (text rest : List ℕ) (found : List Line) (n : ℕ) → Going text rest found n → IsOneLine rest → rest ≢ [] → IsBadAt text (n + 1)
no_end text rest found n g one some = record {
  before = g.lines;
  found = found;
  bad = rest;
  behind = [];
  one_each = g.one_each;
  one = one;
  are = g.are;
  text_is = g.parts ∙ ap (λ (xs : List ℕ). text_of g.lines ++ xs) (sym (append-nil rest));
  number = ap (λ (k : ℕ). k + 1) g.count;
  is_bad = inr (refl, some);
}

-- ---- a text is one script at most

pub no_lf : (a xs : List ℕ) → IsOneLine (a ++ 10 ∷ xs) → ⊥
no_lf [] xs one = one.0 refl
no_lf (b ∷ a) xs one = no_lf a xs one.1

tails : (b c : ℕ) (xs ys : List ℕ) → b ∷ xs ≡ c ∷ ys → (b ≡ c) × (xs ≡ ys)
tails b c xs ys e = (cc, cc)

one_split : (a b xs ys : List ℕ) → IsOneLine a → IsOneLine b → a ++ 10 ∷ xs ≡ b ++ 10 ∷ ys → (a ≡ b) × (xs ≡ ys)
one_split [] [] xs ys p q e = (refl, (tails 10 10 xs ys e).1)
one_split [] (c ∷ b) xs ys p q e = absurd (q.0 (sym (tails 10 c xs (b ++ 10 ∷ ys) e).0))
one_split (c ∷ a) [] xs ys p q e = absurd (p.0 ((tails c 10 (a ++ 10 ∷ xs) ys e).0))
one_split (c ∷ a) (d ∷ b) xs ys p q e =
    let t = tails c d (a ++ 10 ∷ xs) (b ++ 10 ∷ ys) e in
    let r = one_split a b xs ys p.1 q.1 t.1 in
    (ap₂ (λ (k : ℕ) (zs : List ℕ). k ∷ zs) t.0 r.0, r.1)

never_empty : (a xs : List ℕ) → a ++ 10 ∷ xs ≡ [] → ⊥
never_empty [] xs e = absurd (cc)
never_empty (b ∷ a) xs e = absurd (cc)

same_lines : (us vs : List (List ℕ)) → AreOneEach us → AreOneEach vs → text_of us ≡ text_of vs → us ≡ vs
same_lines [] [] p q e = refl
same_lines [] (b ∷ vs) p q e = absurd (never_empty b (text_of vs) (sym (text_cons b vs) ∙ sym e))
same_lines (a ∷ us) [] p q e = absurd (never_empty a (text_of us) (sym (text_cons a us) ∙ e))
same_lines (a ∷ us) (b ∷ vs) p q e =
    let r = one_split a b (text_of us) (text_of vs) p.0 q.0 (sym (text_cons a us) ∙ e ∙ text_cons b vs) in
    ap₂ (λ (x : List ℕ) (xs : List (List ℕ)). x ∷ xs) r.0 (same_lines us vs p.1 q.1 r.1)

none_at_all : (l : Line) → line_at [] ≡ Some l → ⊥
unfolding line_at numbered_at session_at number_at
none_at_all l e = absurd (cc)

none_in_comment : (l : Line) (comment : List ℕ) → line_at (35 ∷ comment) ≡ Some l → ⊥
unfolding line_at numbered_at session_at number_at
none_in_comment l comment e = absurd (cc)

skipped_is_none : (l : Line) (line : List ℕ) → IsSkipped line → IsScriptLine l line → ⊥
skipped_is_none l line (inl empty) is = none_at_all l (ap line_at (sym empty) ∙ line_again l line is.0 is.1)
skipped_is_none l line (inr (comment, begins)) is = none_in_comment l comment (ap line_at (sym begins) ∙ line_again l line is.0 is.1)

one_line : (k l : Line) (line : List ℕ) → IsScriptLine k line → IsScriptLine l line → k ≡ l
one_line k l line p q = some_is k l (sym (line_again k line p.0 p.1) ∙ line_again l line q.0 q.1)

same_found : (lines : List (List ℕ)) (xs ys : List Line) → AreLines lines xs → AreLines lines ys → xs ≡ ys
same_found [] xs ys p q = p ∙ sym q
same_found (line ∷ lines) xs ys (inl (s, p)) (inl (t, q)) = same_found lines xs ys p q
same_found (line ∷ lines) xs ys (inl (s, p)) (inr (l, more, is, parts, q)) = absurd (skipped_is_none l line s is)
same_found (line ∷ lines) xs ys (inr (k, more, is, parts, p)) (inl (t, q)) = absurd (skipped_is_none k line t is)
same_found (line ∷ lines) xs ys (inr (k, more, is, parts, p)) (inr (l, more', is', parts', q)) =
    parts ∙ ap₂ (λ (x : Line) (zs : List Line). x ∷ zs) (one_line k l line is is') (same_found lines more more' p q) ∙ sym parts'

pub one_script : (text : List ℕ) (xs ys : List Line) → IsScript text xs → IsScript text ys → xs ≡ ys
one_script text xs ys p q =
    let same = same_lines p.lines q.lines p.one_each q.one_each (sym p.text_is ∙ q.text_is) in
    same_found q.lines xs ys (subst (λ (lines : List (List ℕ)). AreLines lines xs) same p.are) q.are

clash_first : (lines : List (List ℕ)) (bad behind : List ℕ) (found : List Line) → AreOneEach lines → IsOneLine bad → bad ++ behind ≡ text_of lines → AreLines lines found → IsBad bad behind → ⊥
clash_first [] bad behind found each one e are (inl (rest, is, none)) = never_empty bad rest (ap (λ (xs : List ℕ). bad ++ xs) (sym is) ∙ e)
clash_first [] bad behind found each one e are (inr (is, some)) = some (sym (append-nil bad) ∙ ap (λ (xs : List ℕ). bad ++ xs) (sym is) ∙ e)
clash_first (line ∷ lines) bad behind found each one e are (inr (is, some)) =
    no_lf line (text_of lines) (subst IsOneLine (sym (append-nil bad) ∙ ap (λ (xs : List ℕ). bad ++ xs) (sym is) ∙ e ∙ text_cons line lines) one)
clash_first (line ∷ lines) bad behind found each one e (inl (skip, are)) (inl (rest, is, none)) =
    let r = one_split bad line rest (text_of lines) one each.0 (ap (λ (xs : List ℕ). bad ++ xs) (sym is) ∙ e ∙ text_cons line lines) in
    none.0 (subst IsSkipped (sym r.0) skip)
clash_first (line ∷ lines) bad behind found each one e (inr (l, more, has, parts, are)) (inl (rest, is, none)) =
    let r = one_split bad line rest (text_of lines) one each.0 (ap (λ (xs : List ℕ). bad ++ xs) (sym is) ∙ e ∙ text_cons line lines) in
    none.1 l (subst (IsScriptLine l) (sym r.0) has)

fewer : (line : List ℕ) (lines : List (List ℕ)) (found : List Line) → AreLines (line ∷ lines) found → (more : List Line) × AreLines lines more
fewer line lines found (inl (skip, are)) = (found, are)
fewer line lines found (inr (l, more, has, parts, are)) = (more, are)

clash : (before lines : List (List ℕ)) (bad behind : List ℕ) (found : List Line) → AreOneEach before → AreOneEach lines → IsOneLine bad → text_of before ++ (bad ++ behind) ≡ text_of lines → AreLines lines found → IsBad bad behind → ⊥
clash [] lines bad behind found p q one e are is = clash_first lines bad behind found q one e are is
clash (b ∷ before) [] bad behind found p q one e are is =
    never_empty b (text_of before ++ (bad ++ behind)) (sym (append_assoc b (10 ∷ text_of before) (bad ++ behind)) ∙ ap (λ (xs : List ℕ). xs ++ (bad ++ behind)) (sym (text_cons b before)) ∙ e)
clash (b ∷ before) (line ∷ lines) bad behind found p q one e are is =
    let f = fewer line lines found are in
    let r = one_split b line (text_of before ++ (bad ++ behind)) (text_of lines) p.0 q.0 (sym (append_assoc b (10 ∷ text_of before) (bad ++ behind)) ∙ ap (λ (xs : List ℕ). xs ++ (bad ++ behind)) (sym (text_cons b before)) ∙ e ∙ text_cons line lines) in
    clash before lines bad behind f.0 p.1 q.1 one r.1 f.1 is

pub bad_is_no_script : (text : List ℕ) (n : ℕ) (found : List Line) → IsBadAt text n → IsScript text found → ⊥
bad_is_no_script text n found b s = clash b.before s.lines b.bad b.behind found b.one_each s.one_each b.one (sym b.text_is ∙ s.text_is) s.are b.is_bad

pub empty_of : (xs : List ℕ) → length xs ≡ 0 → xs ≡ []
empty_of [] e = refl
empty_of (x ∷ xs) e = absurd (omega arith)
