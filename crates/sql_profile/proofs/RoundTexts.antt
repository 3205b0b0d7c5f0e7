-- What is read of the text of a statement is that statement alone, unless it nests too deep.
use Rattle.std.proofs.Common.{◌≡◌, ◌∙◌, ℕ, false, List, [], ◌∷◌, length, Option, Some, None, Result, Ok, Err, map, refl, sym, ap, subst, inl, inr, arith, ◌⊎◌}
use Rattle.std.specs.Prelude.{IfOk, IfErr}
use Rattle.std.proofs.lemmas.List.Elements.{All-nil, All-cons}
use Rattle.sql_tokens.specs.declared.fault.Fault.{Fault}
use Rattle.sql_tokens.specs.declared.fault.Fault.TheVariants as one
use Rattle.sql_tokens.proofs.Good.{Has}
use Rattle.sql_tokens.proofs.Depth.{IsDeep}
use Rattle.sql_tokens.specs.declared.token.Token.{Token}
use Rattle.sql_tokens.specs.declared.token.Placed.{Placed}
use Rattle.sql_tokens.specs.Tokens.{TokensOf}
use Rattle.sql_tree.specs.declared.statement.SelectItem.{SelectItem}
use Rattle.sql_tree.specs.declared.statement.SelectList.{SelectList}
use Rattle.sql_tree.specs.declared.statement.SelectList.TheVariants as list
use Rattle.sql_tree.specs.declared.statement.Statement.{Statement}
use Rattle.sql_tree.specs.declared.statement.Statement.TheVariants as statement
use Rattle.sql_tree.specs.Trees.{IsStatement}
use Rattle.sql_reader.specs.declared.verb.Verb.{Verb}
use Rattle.sql_reader.specs.Grammar.{BehindVerb, verb_token}
use Rattle.sql_reader.specs.Reading.{verb_at}
use Rattle.sql_reader.proofs.Verbs.{verb_keyed, verb_stage}
use Rattle.sql_reader.specs.declared.text_fault.TextFault.{TextFault}
use Rattle.sql_reader.specs.declared.text_fault.TextFault.TheVariants.{TooDeep}
use Rattle.sql_reader.specs.TextGrammar.{IsTextWithin, is_bare, is_bare_list}
use Rattle.sql_reader.specs.TextReading.{then_read, lifted, placed, add_step, further_at, ended, text_at}
use Rattle.sql_print.specs.Printed.{tokens_of, statement_text}
use Rattle.sql_profile.specs.Lexemes.{token_of}
use Rattle.sql_profile.proofs.RereadTokens.{printed_tokens}
use Rattle.sql_reader.specs.declared.fault.SqlFault.{SqlFault}
use Rattle.sql_reader.specs.declared.fault.SqlFault.TheVariants as fault
use Rattle.sql_reader.specs.Text.{IsTextOf, IsReadAs, IsToldAs, told_of, places_of}
use Rattle.sql_reader.specs.Text.{tokens_of as tokens_alone}
use Rattle.sql_profile.specs.Fits.{Fits}
use Rattle.sql_profile.proofs.RoundLaw.{IsWritten, written}
use Rattle.sql_profile.proofs.Reread.{starts, verb_read}

-- ---- a list of rows has FROM

has_table : (l : SelectList) (table : Option (List ℕ)) → (table ≡ None → (given : List SelectItem) × (l ≡ list.Items given)) → is_bare_list l table ≡ false
has_table list.Star (Some table) items = refl
has_table list.Count (Some table) items = refl
has_table (list.Items given) table items = refl
has_table list.Star None items = absurd (let same = (items refl).1 in cc)
has_table list.Count None items = absurd (let same = (items refl).1 in cc)

has_from : (s : Statement) → IsStatement s → is_bare s ≡ false
has_from (statement.Select select) is = has_table select.list select.table (λ none. (is.alone none).items)
has_from (statement.Insert insert) is = refl
has_from (statement.Update update) is = refl
has_from (statement.Delete delete) is = refl
has_from statement.Begin is = refl
has_from statement.Commit is = refl
has_from statement.Rollback is = refl
has_from statement.ShowNodes is = refl
has_from (statement.Recover backend) is = refl

-- ---- a text that begins with a verb

module _ (v : Verb) (others : List Token) where
  -- one statement is a text
  one_text : (s : Statement) → BehindVerb 64 v others s [] → IsTextWithin 64 (verb_token v ∷ others) (s ∷ [])
  one_text s reads = (Some s ∷ [], (Some s, [], [], inr (s, (v, others, refl, reads), refl), refl, refl), refl)

  -- what is read of the text where this is read behind the verb
  abbrev of_reading : Result (Statement × List Token) Fault → Result (List Statement) TextFault
  of_reading r = then_read (then_read (lifted r (placed [] others)) (λ x. further_at 64 x.0 x.1)) (λ x. ended x.0 x.1)

  text_is : text_at 64 (verb_token v ∷ others) ≡ of_reading (verb_at 64 v others)
  text_is = ap (λ (m : Option (Verb × List Token)). then_read (then_read (add_step 64 [] (verb_token v ∷ others) m) (λ x. further_at 64 x.0 x.1)) (λ x. ended x.0 x.1))
      (verb_keyed.are.again v others)

  deep_reading : (r : Result (Statement × List Token) Fault) → IsDeep r → (left : ℕ) × (of_reading r ≡ Err (TooDeep left))
  deep_reading (Ok x) deep = absurd deep
  deep_reading (Err (one.Syntax left awaited)) deep = absurd deep
  deep_reading (Err (one.TooDeep left)) deep = (left, refl)

-- the tokens are a text of the statement alone, or nest too deep
abbrev IsRead : List Token → Statement → Type 0
IsRead ts s = ((left : ℕ) × (text_at 64 ts ≡ Err (TooDeep left))) ⊎ IsTextWithin 64 ts (s ∷ [])

one_read : (s : Statement) → IsWritten s → IsRead (map token_of (tokens_of s)) s
one_read s w =
    let behind = map token_of w.others in
    subst (λ (ts : List Token). IsRead ts s) (sym (starts s w))
    (elim (verb_read 64 s w) [
      | inl deep ↦ (let too = deep_reading w.verb behind (verb_at 64 w.verb behind) deep in inl (too.0, text_is w.verb behind ∙ too.1))
      | inr e ↦ inr (one_text w.verb behind s (subst (λ (r : Result (Statement × List Token) Fault). Has r (BehindVerb 64 w.verb behind)) e ((verb_stage w.verb).takes 64 behind)))
    ])

-- ---- what was returned

-- what is within the limits is read as what it is
abbrev pub Only : List ℕ → Result (List Statement) SqlFault → Type 0
Only text r = (all : List Statement) → IsTextOf text all → IsReadAs r all

-- a fault of its tokens is told
abbrev pub Told : List ℕ → Result (List Statement) SqlFault → Type 0
Told text r = (placed : List Placed) (f : TextFault) → TokensOf text placed → text_at 64 (tokens_alone placed) ≡ Err f
    → IsToldAs r (told_of (tokens_alone placed) (places_of placed) (length text) f)

-- it is read as this statement alone, or it is told that a limit is passed
abbrev IsSettled : Result (List Statement) SqlFault → Statement → Type 0
IsSettled r s = IsReadAs r (s ∷ []) ⊎ IsToldAs r fault.TooLong

settled : (s : Statement) → IsStatement s → Fits s → (r : Result (List Statement) SqlFault) → Only (statement_text s) r → Told (statement_text s) r → IsSettled r s
settled s is fits r only told =
    let x = printed_tokens s fits.lexemes fits.count in
    elim (one_read s (written s is fits.numbers fits.backend)) [
      | inl deep ↦ inr (told x.0 (TooDeep deep.0) x.2 (ap (text_at 64) x.1 ∙ deep.1))
      | inr text ↦ inl (only (s ∷ []) (x.0, x.2, (subst (λ (ts : List Token). IsTextWithin 64 ts (s ∷ [])) (sym x.1) text, omega arith, All-cons (λ s. is_bare s ≡ false) s [] (has_from s is) (All-nil (λ s. is_bare s ≡ false)))))
    ]

is_alone : (s : Statement) (r : Result (List Statement) SqlFault) → IsSettled r s → IfOk r (λ all. all ≡ s ∷ [])
is_alone s (Ok all) (inl read) = read
is_alone s (Ok all) (inr told) = absurd told
is_alone s (Err e) h = tt

is_limit : (s : Statement) (r : Result (List Statement) SqlFault) → IsSettled r s → IfErr r (λ e. (e ≡ fault.NoMemory) ⊎ (e ≡ fault.TooLong))
is_limit s (Ok all) h = tt
is_limit s (Err fault.NoMemory) h = inl refl
is_limit s (Err (fault.Syntax place)) (inl read) = absurd read
is_limit s (Err (fault.Syntax place)) (inr told) = inr told
is_limit s (Err (fault.Outside name place)) (inl read) = absurd read
is_limit s (Err (fault.Outside name place)) (inr told) = inr told
is_limit s (Err fault.TooLong) h = inr refl

is_within : (s : Statement) (r : Result (List Statement) SqlFault) → IsSettled r s → Only (statement_text s) r → (all : List Statement) → IsTextOf (statement_text s) all → IsReadAs r (s ∷ [])
is_within s (Ok read) h only all text = is_alone s (Ok read) h
is_within s (Err fault.NoMemory) h only all text = tt
is_within s (Err (fault.Syntax place)) h only all text = absurd (only all text)
is_within s (Err (fault.Outside name place)) h only all text = absurd (only all text)
is_within s (Err fault.TooLong) h only all text = absurd (only all text)

module _ (s : Statement) (text : List ℕ) (same : text ≡ statement_text s) (r : Result (List Statement) SqlFault) (only : Only text r) (told : Told text r) where
  settled_text : IsStatement s → Fits s → IsSettled r s
  settled_text is fits = settled s is fits r (subst (λ (bytes : List ℕ). Only bytes r) same only) (subst (λ (bytes : List ℕ). Told bytes r) same told)

  pub alone_of : IsStatement s → Fits s → IfOk r (λ all. all ≡ s ∷ [])
  alone_of is fits = is_alone s r (settled_text is fits)

  pub limit_of : IsStatement s → Fits s → IfErr r (λ e. (e ≡ fault.NoMemory) ⊎ (e ≡ fault.TooLong))
  limit_of is fits = is_limit s r (settled_text is fits)

  -- a text within the limits is read
  pub within_of : IsStatement s → Fits s → (all : List Statement) → IsTextOf (statement_text s) all → IsReadAs r (s ∷ [])
  within_of is fits all given = is_within s r (settled_text is fits) (subst (λ (bytes : List ℕ). Only bytes r) same only) all given
