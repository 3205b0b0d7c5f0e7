-- What is told of a refused text of a statement: a limit is passed, or memory was refused.
use Rattle.std.proofs.Common.{◌≡◌, ◌∙◌, ◌==◌, ◌<◌, ◌-◌, ◌^◌, ℕ, Bool, true, false, List, [], ◌∷◌, ◌++◌, length, map, Option, Some, None, Ok, refl, sym, ap, subst, inl, inr, ◌⊎◌, le_refl, append_assoc, length-append, arith, pos, Result, Err}
use Rattle.std.specs.Prelude.{All, nat_lt, reverse, take, slice_get, if◌then◌else◌}
use Rattle.std.proofs.lemmas.List.{append-nil, map-append}
use Rattle.sql_tokens.specs.declared.fault.Awaited.{Awaited}
use Rattle.sql_tokens.specs.declared.fault.Fault.{Fault}
use Rattle.sql_tokens.specs.Grammar.{IsPlace, NoneGoesOn}
use Rattle.sql_tokens.specs.declared.mark.Mark.{Mark}
use Rattle.sql_tokens.specs.declared.mark.Mark.TheVariants as mark
use Rattle.sql_tokens.specs.declared.token.Placed.{Placed}
use Rattle.sql_tokens.specs.declared.token.Token.{Token}
use Rattle.sql_tokens.specs.declared.token.Token.TheVariants as token
use Rattle.sql_tokens.specs.declared.token.TokenFault.{TokenFault}
use Rattle.sql_tokens.specs.declared.token.TokenFault.TheVariants.{LongName, LargeParam, TooMany, OutOfRange}
use Rattle.sql_tokens.specs.declared.word.Word.TheVariants as words
use Rattle.sql_tokens.proofs.Loop.{tokens_once}
use Rattle.sql_tree.specs.declared.statement.SelectItem.{SelectItem}
use Rattle.sql_tree.specs.declared.statement.SelectList.{SelectList}
use Rattle.sql_tree.specs.declared.statement.SelectList.TheVariants as list
use Rattle.sql_tree.specs.declared.statement.Statement.{Statement}
use Rattle.sql_tree.specs.declared.statement.Statement.TheVariants as statement
use Rattle.sql_tree.specs.Trees.{IsStatement}
use Rattle.sql_reader.specs.declared.verb.Verb.{Verb}
use Rattle.sql_reader.specs.declared.verb.Verb.TheVariants as verb
use Rattle.sql_reader.specs.Grammar.{BehindVerb, Bound, verb_token}
use Rattle.sql_reader.specs.Grammar as grammar
use Rattle.sql_reader.specs.Reading.{verb_at}
use Rattle.sql_reader.proofs.Verbs.{verb_stage}
use Rattle.sql_reader.specs.declared.text_fault.TextFault.{TextFault}
use Rattle.sql_reader.specs.declared.text_fault.TextFault.TheVariants as text_fault
use Rattle.sql_reader.specs.TextGrammar.{FrontOf, IsRows, IsText, IsTextWithin, IsWithoutFrom, is_bare, is_bare_list}
use Rattle.sql_reader.specs.declared.refusal.Refusal.TheVariants as refusal
use Rattle.sql_reader.specs.Refusal.{place_of, told}
use Rattle.sql_print.specs.Spelling.{Lexeme}
use Rattle.sql_print.specs.Spelling as lexeme
use Rattle.sql_print.specs.Printed.{statement_text, tokens_of}
use Rattle.sql_profile.specs.Lexemes.{token_of}
use Rattle.sql_reader.specs.declared.fault.SqlFault.{SqlFault}
use Rattle.sql_reader.specs.declared.fault.SqlFault.TheVariants as fault
use Rattle.sql_reader.specs.Text.{GoesWrong, IsRefusedBy, fault_of, places_of, told_of}
use Rattle.sql_profile.specs.Fits.{IsBackend}
use Rattle.sql_profile.specs.Numbers.{expressions, greatest_number}
use Rattle.sql_profile.proofs.RoundLaw.{IsWritten, written}
use Rattle.sql_profile.proofs.Reread.{starts}
use Rattle.sql_profile.specs.Writable.{AreWritable, IsWritable}
use Rattle.sql_profile.proofs.CleanWithin.{Clean, HasSemicolon, clean_ends, front_semicolon, text_clean}
use Rattle.sql_profile.proofs.Stopped.{Ends, IsPassed, IsStopped, statement_placed, tokens_alone}

-- ---- the text of a statement, were there no limits

-- the statement that was read
abbrev statement_of : Statement → Result (Statement × List Token) Fault → Statement
statement_of s (Ok x) = x.0
statement_of s (Err f) = s

module _ (s : Statement) (w : IsWritten s) where
  abbrev spoken : List Token
  spoken = map token_of (tokens_of s)

  behind_verb : BehindVerb w.depth w.verb (map token_of w.others) s []
  behind_verb = subst (λ (ts : List Token). BehindVerb w.depth w.verb ts s []) (append-nil (map token_of w.others)) (w.reads w.depth (le_refl w.depth) [])

  -- however deep it nests its tokens are a text of it
  is_text : IsText spoken (s ∷ [])
  is_text = (
    w.depth,
    subst (λ (ts : List Token). IsTextWithin w.depth ts (s ∷ [])) (sym (starts s w))
        (Some s ∷ [], (Some s, [], [], inr (s, (w.verb, map token_of w.others, refl, behind_verb), refl), refl, refl), refl),
  )

  -- a statement that its tokens are is the statement
  only_one : (v : Verb) (rows : List Token) (t : Statement) → spoken ≡ verb_token v ∷ rows → v ≡ w.verb → BehindVerb w.depth v rows t [] → t ≡ s
  only_one v rows t are same reads =
      let behind : map token_of w.others ≡ rows = tails (sym (starts s w) ∙ are) in
      let mine : verb_at w.depth w.verb (map token_of w.others) ≡ Ok (s, []) = (verb_stage w.verb).again w.depth (map token_of w.others) s [] behind_verb tt in
      let other : verb_at w.depth w.verb (map token_of w.others) ≡ Ok (t, []) =
      (verb_stage w.verb).again w.depth (map token_of w.others) t []
      (subst (λ (ts : List Token). BehindVerb w.depth w.verb ts t []) (sym behind) (subst (λ (u : Verb). BehindVerb w.depth u rows t []) same reads)) tt in
      ap (statement_of s) (sym other ∙ mine)
    where
      tails : {t u : Token} {ts us : List Token} → t ∷ ts ≡ u ∷ us → ts ≡ us
      tails is = cc

-- ---- lists of tokens

-- a list that goes on behind its end
goes_past : (a c : List Token) (t u z : Token) (rest : List Token) → a ++ t ∷ u ∷ rest ≡ c ++ z ∷ [] → (more : List Token) × (c ≡ (a ++ t ∷ []) ++ more)
goes_past [] [] t u z rest is = absurd (omega (arith, ap length is))
goes_past [] (c ∷ cs) t u z rest is = let first : c ≡ t = cc in (cs, ap (λ (x : Token). x ∷ cs) first)
goes_past (a ∷ xs) [] t u z rest is = absurd (omega (arith, ap length is, length-append xs (t ∷ u ∷ rest)))
goes_past (a ∷ xs) (c ∷ cs) t u z rest is =
    let first : c ≡ a = cc in
    let later : xs ++ t ∷ u ∷ rest ≡ cs ++ z ∷ [] = cc in
    let found = goes_past xs cs t u z rest later in
    (found.0, ap (λ (x : Token). x ∷ cs) first ∙ ap (λ (ys : List Token). a ∷ ys) found.1)

clean_front : (ts us : List Token) → Clean (ts ++ us) → Clean ts
clean_front [] us clean = tt
clean_front (t ∷ ts) us clean = (clean.0, clean_front ts us clean.1)

at_end : (ts : List Token) (t : Token) → slice_get (ts ++ t ∷ []) (length (ts ++ t ∷ []) - 1) ≡ Some t
at_end ts t =
    let long = length-append ts (t ∷ []) in
    let last : length (ts ++ t ∷ []) - 1 ≡ length ts = omega (arith, long) in
    ap (slice_get (ts ++ t ∷ [])) last ∙ found ts
  where
    found : (ts : List Token) → slice_get (ts ++ t ∷ []) (length ts) ≡ Some t
    found [] = refl
    found (x ∷ ts) = found ts

-- ---- no `;`

whole_mark : (n : ℕ) → token_of (lexeme.whole n) ≡ token.Mark mark.Semicolon → ⊥
whole_mark n is = go (nat_lt n (2 ^ 63)) (n == 2 ^ 63) is
  where
    go : (b c : Bool) → (if b then token.Number (pos n) else if c then token.Least else token.Fault OutOfRange) ≡ token.Mark mark.Semicolon → ⊥
    go true c is = cc
    go false true is = cc
    go false false is = cc

mark_other : (m : Mark) → IsWritable (lexeme.mark m) → token.Mark m ≡ token.Mark mark.Semicolon → ⊥
mark_other mark.Semicolon may is = may
mark_other m may is = cc

token_other : (x : Lexeme) → IsWritable x → token_of x ≡ token.Mark mark.Semicolon → ⊥
token_other (lexeme.word w) may is = cc
token_other (lexeme.mark m) may is = mark_other m may is
token_other lexeme.sign may is = cc
token_other (lexeme.name text) may is = cc
token_other (lexeme.function text) may is = cc
token_other (lexeme.command text) may is = cc
token_other (lexeme.whole n) may is = whole_mark n is
token_other (lexeme.string text) may is = cc
token_other (lexeme.param n) may is = cc

none_written : (xs : List Lexeme) → AreWritable xs → HasSemicolon (map token_of xs) → ⊥
none_written [] all has = has
none_written (x ∷ xs) all (inl is) = token_other x all.0 is
none_written (x ∷ xs) all (inr has) = none_written xs all.1 has

none_stopped : (xs : List Lexeme) (f : TokenFault) → AreWritable xs → HasSemicolon (map token_of xs ++ token.Fault f ∷ []) → ⊥
none_stopped [] f all (inl is) = cc
none_stopped [] f all (inr has) = has
none_stopped (x ∷ xs) f all (inl is) = token_other x all.0 is
none_stopped (x ∷ xs) f all (inr has) = none_stopped xs f all.1 has

writable_front : (xs ys : List Lexeme) → AreWritable (xs ++ ys) → AreWritable xs
writable_front [] ys all = tt
writable_front (x ∷ xs) ys all = (all.0, writable_front xs ys all.1)

-- ---- what is told

abbrev pub IsLong : SqlFault → Type 0
IsLong e = (e ≡ fault.NoMemory) ⊎ (e ≡ fault.TooLong)

has_table : (l : SelectList) (table : Option (List ℕ)) → (table ≡ None → (given : List SelectItem) × (l ≡ list.Items given)) → is_bare_list l table ≡ false
has_table list.Star (Some table) items = refl
has_table list.Count (Some table) items = refl
has_table (list.Items given) table items = refl
has_table list.Star None items = absurd (let same = (items refl).1 in cc)
has_table list.Count None items = absurd (let same = (items refl).1 in cc)

has_from : (s : Statement) → IsStatement s → is_bare s ≡ false
has_from (statement.Select select) is = has_table select.list select.table (λ none. (is.alone none).items)
has_from (statement.Insert insert) is = refl
has_from (statement.Update update) is = refl
has_from (statement.Delete delete) is = refl
has_from statement.Begin is = refl
has_from statement.Commit is = refl
has_from statement.Rollback is = refl
has_from statement.ShowNodes is = refl
has_from (statement.Recover backend) is = refl

abbrev bare : SelectList → Statement
bare l = statement.Select (record { list = l; table = None; filter = None; order = []; limit = None; for_update = false })

-- rows without a table, as they are read
rows_read : (d : ℕ) (rows : List Token) → IsRows rows → (l : SelectList) × BehindVerb d verb.Select rows (bare l) [] × (is_bare (bare l) ≡ true)
rows_read d rows (inl is) = (list.Star, ((list.Star, None), ([], grammar.star is refl, inl (refl, refl)), refl), refl)
rows_read d rows (inr is) = (list.Count, ((list.Count, None), ([], grammar.count is refl, inl (refl, refl)), refl), refl)

rows_clean : (rows : List Token) → IsRows rows → Clean rows
rows_clean rows (inl is) = subst Clean (sym is) (refl, tt)
rows_clean rows (inr is) = subst Clean (sym is) (refl, (refl, (refl, (refl, tt))))

semicolon_in : (rows after : List Token) → HasSemicolon (rows ++ token.Mark mark.Semicolon ∷ after)
semicolon_in [] after = inl refl
semicolon_in (t ∷ rows) after = inr (semicolon_in rows after)

module _ (s : Statement) (is : IsStatement s) (w : IsWritten s) (may : AreWritable (tokens_of s)) where
  select_first : (rows : List Token) → map token_of (tokens_of s) ≡ token.Word words.Select ∷ rows → verb.Select ≡ w.verb
  select_first rows are = by_verb w.verb (sym (starts s w) ∙ are)
    where
      by_verb : (v : Verb) → verb_token v ∷ map token_of w.others ≡ token.Word words.Select ∷ rows → verb.Select ≡ v
      by_verb verb.Select are = refl
      by_verb verb.Insert are = absurd (cc)
      by_verb verb.Update are = absurd (cc)
      by_verb verb.Delete are = absurd (cc)
      by_verb verb.Begin are = absurd (cc)
      by_verb verb.Start are = absurd (cc)
      by_verb verb.Commit are = absurd (cc)
      by_verb verb.End are = absurd (cc)
      by_verb verb.Rollback are = absurd (cc)
      by_verb verb.Abort are = absurd (cc)
      by_verb verb.Show are = absurd (cc)
      by_verb verb.Pgpool are = absurd (cc)

  -- its tokens alone are no rows without a table
  no_rows : (rows : List Token) → IsRows rows → map token_of (tokens_of s) ≡ token.Word words.Select ∷ rows → ⊥
  no_rows rows are same =
      let read = rows_read w.depth rows are in
      let one : bare read.0 ≡ s = only_one s w verb.Select rows (bare read.0) same (select_first rows same) read.1 in
      let f : true ≡ false = sym read.2 ∙ (ap is_bare one ∙ has_from s is) in cc

  -- rows without a table, and the end or `;`
  without : (ts : List Token) → (HasSemicolon ts → ⊥) → ((rows : List Token) → IsRows rows → ts ≡ token.Word words.Select ∷ rows → ⊥) → (left : ℕ) → IsWithoutFrom 64 ts left → ⊥
  without ts none alone left wrong = by_front wrong.front
    where
      by_after : (after : List Token) → Bound after → ts ≡ token.Word words.Select ∷ (wrong.rows ++ after) → ⊥
      by_after [] ends same = alone wrong.rows wrong.are (same ∙ ap (λ (xs : List Token). token.Word words.Select ∷ xs) (append-nil wrong.rows))
      by_after (token.Mark mark.Semicolon ∷ after) ends same = none (subst HasSemicolon (sym same) (inr (semicolon_in wrong.rows after)))
      by_after _ ends same = ends

      by_front : FrontOf 64 ts wrong.before (token.Word words.Select ∷ (wrong.rows ++ wrong.after)) → ⊥
      by_front (inl one) = by_after wrong.after wrong.ends one.0
      by_front (inr text) = none (front_semicolon 64 ts wrong.before (token.Word words.Select ∷ (wrong.rows ++ wrong.after)) text)

  -- ---- all of its tokens

  whole_place : (left : ℕ) → IsPlace IsText (map token_of (tokens_of s)) left → ⊥
  whole_place left place = by_rest place.rest place.parts place.here
    where
      by_rest : (rest : List Token) → map token_of (tokens_of s) ≡ place.front ++ rest → NoneGoesOn IsText place.front rest → ⊥
      by_rest [] parts here = here (s ∷ []) (subst (λ (ts : List Token). IsText ts (s ∷ [])) (parts ∙ append-nil place.front) (is_text s w))
      by_rest (t ∷ rest) parts here =
          here (rest, s ∷ [], subst (λ (ts : List Token). IsText ts (s ∷ [])) (parts ∙ sym (append_assoc place.front (t ∷ []) rest)) (is_text s w))

  -- ---- those up to one that passes a limit, and a fault

  module _ (ts : List Token) (stops : IsStopped (tokens_of s) ts) where
    abbrev front : List Token
    front = map token_of stops.front

    passed_told : (f : TokenFault) → IsPassed f → (awaited : Awaited) (before : List Token) (place : ℕ) → told awaited (Some (token.Fault f)) before place ≡ refusal.TooLong
    passed_told LongName may awaited before place = refl
    passed_told LargeParam may awaited before place = refl
    passed_told TooMany may awaited before place = refl
    passed_told _ may awaited before place = absurd may

    -- it goes wrong at the fault
    fault_told : (left : ℕ) (awaited : Awaited) (places : List ℕ) (size : ℕ) → left ≡ 1 → told_of ts places size (text_fault.Syntax left awaited) ≡ fault.TooLong
    fault_told left awaited places size one =
        let here : slice_get ts (length ts - left) ≡ Some (token.Fault stops.fault) =
        ap (λ (n : ℕ). slice_get ts (length ts - n)) one ∙ (ap (λ (us : List Token). slice_get us (length us - 1)) stops.are ∙ at_end front (token.Fault stops.fault)) in
        let before = reverse (take (length ts - left) ts) in
        let place = place_of places size left in
        ap fault_of (ap (λ (o : Option Token). told awaited o before place) here ∙ passed_told stops.fault stops.limit awaited before place)

    all_of_them : map token_of (tokens_of s) ≡ front ++ token_of stops.passes ∷ map token_of stops.others
    all_of_them = ap (map token_of) stops.parts ∙ map-append token_of stops.front (stops.passes ∷ stops.others)

    stopped_place : (left : ℕ) (awaited : Awaited) (places : List ℕ) (size : ℕ) → IsPlace IsText ts left → told_of ts places size (text_fault.Syntax left awaited) ≡ fault.TooLong
    stopped_place left awaited places size place = by_rest place.rest place.parts place.left_is place.here
      where
        by_rest : (rest : List Token) → ts ≡ place.front ++ rest → length rest ≡ left → NoneGoesOn IsText place.front rest → told_of ts places size (text_fault.Syntax left awaited) ≡ fault.TooLong
        by_rest [] parts long here =
            let before = place.before in
            let clean = clean_front place.front before.0 (text_clean before.2.0 (place.front ++ before.0) before.1 before.2.1) in
            absurd (clean_ends front stops.fault (subst Clean (sym (append-nil place.front) ∙ (sym parts ∙ stops.are)) clean))
        by_rest (t ∷ []) parts long here = fault_told left awaited places size (sym long)
        by_rest (t ∷ u ∷ rest) parts long here =
            let found = goes_past place.front front t u (token.Fault stops.fault) rest (sym parts ∙ stops.are) in
            let tail = token_of stops.passes ∷ map token_of stops.others in
            let all : map token_of (tokens_of s) ≡ (place.front ++ t ∷ []) ++ (found.0 ++ tail) =
            all_of_them ∙ (ap (λ (us : List Token). us ++ tail) found.1 ∙ append_assoc (place.front ++ t ∷ []) found.0 tail) in
            absurd (here (found.0 ++ tail, s ∷ [], subst (λ (us : List Token). IsText us (s ∷ [])) all (is_text s w)))

    stopped_without : (left : ℕ) → IsWithoutFrom 64 ts left → ⊥
    stopped_without left wrong =
        without ts
        (λ has. none_stopped stops.front stops.fault (writable_front stops.front (stops.passes ∷ stops.others) (subst AreWritable stops.parts may)) (subst HasSemicolon stops.are has))
        (λ rows are same. clean_ends front stops.fault (subst Clean (sym same ∙ stops.are) (refl, rows_clean rows are)))
        left wrong

  long_of : (ts : List Token) (places : List ℕ) (size : ℕ) (f : TextFault) → Ends 65536 (tokens_of s) ts → GoesWrong ts f → told_of ts places size f ≡ fault.TooLong
  long_of ts places size (text_fault.Syntax left awaited) (inl all) wrong = absurd (whole_place left (subst (λ (us : List Token). IsPlace IsText us left) all.2 wrong))
  long_of ts places size (text_fault.Syntax left awaited) (inr stops) wrong = stopped_place ts stops left awaited places size wrong
  long_of ts places size (text_fault.WithoutFrom left) (inl all) wrong =
      absurd (without (map token_of (tokens_of s)) (none_written (tokens_of s) may) no_rows left (subst (λ (us : List Token). IsWithoutFrom 64 us left) all.2 wrong))
  long_of ts places size (text_fault.WithoutFrom left) (inr stops) wrong = absurd (stopped_without ts stops left wrong)
  long_of ts places size (text_fault.TooDeep left) ends wrong = refl
  long_of ts places size (text_fault.TooMany left) ends wrong = refl

  refused_long : (e : SqlFault) (placed : List Placed) (size : ℕ) → placed ≡ (statement_placed s may).0 → (f : TextFault) → GoesWrong (tokens_alone placed) f
      → e ≡ told_of (tokens_alone placed) (places_of placed) size f → e ≡ fault.TooLong
  refused_long e placed size same f wrong is =
      let ends : Ends 65536 (tokens_of s) (tokens_alone placed) =
      subst (λ (ps : List Placed). Ends 65536 (tokens_of s) (tokens_alone ps)) (sym same) (statement_placed s may).2 in
      is ∙ long_of (tokens_alone placed) (places_of placed) size f ends wrong

  abbrev text : List ℕ
  text = statement_text s

  pub told_long : (e : SqlFault) → IsRefusedBy text e → IsLong e
  told_long fault.NoMemory refused = inl refl
  told_long (fault.Syntax place) refused =
      inr (refused_long (fault.Syntax place) refused.0 (length text) (tokens_once text refused.0 (statement_placed s may).0 refused.1 (statement_placed s may).1) refused.2.0 refused.2.1 refused.2.2)
  told_long (fault.Outside name place) refused =
      inr (refused_long (fault.Outside name place) refused.0 (length text) (tokens_once text refused.0 (statement_placed s may).0 refused.1 (statement_placed s may).1) refused.2.0 refused.2.1 refused.2.2)
  told_long fault.TooLong refused = inr refl

-- a refused text of a statement passes a limit
pub long : (s : Statement) (e : SqlFault) → IsStatement s → All (λ expr. greatest_number expr < 2 ^ 63) (expressions s) → IsBackend s → AreWritable (tokens_of s)
    → IsRefusedBy (statement_text s) e → IsLong e
long s e is low backend may refused = told_long s is (written s is low backend) may e refused
