-- What is answered of the statements of a text, and what the lines of the grammar say of them.
use Rattle.std.proofs.Common.{◌≡◌, ℕ, zero, suc, ◌≤◌, ◌<◌, List, [], ◌∷◌, ◌++◌, length, Option, Some, None, Result, Ok, Err, refl, sym, ap, subst, ◌∙◌, append_assoc, arith, inl, inr}
use Rattle.std.proofs.lemmas.List.{append-nil}
use Rattle.std.proofs.lemmas.List.Elements.{All-nil, All-append}
use Rattle.sql_tokens.specs.declared.fault.Fault.{Fault}
use Rattle.sql_tokens.specs.declared.fault.Fault.TheVariants as one
use Rattle.sql_tokens.specs.Grammar.{TailOf, part}
use Rattle.sql_tokens.specs.Reading.{◌>>=◌, tail, tail_step, tails}
use Rattle.sql_tokens.proofs.Good.{HasMark}
use Rattle.sql_tokens.specs.declared.mark.Mark.TheVariants as mark
use Rattle.sql_tokens.specs.declared.token.Token.{Token}
use Rattle.sql_tokens.specs.declared.token.Token.TheVariants as token
use Rattle.sql_tree.specs.declared.statement.Statement.{Statement}
use Rattle.sql_reader.specs.Words.{semicolon_mark, after_semicolon}
use Rattle.sql_reader.specs.Grammar.{Bound}
use Rattle.sql_reader.proofs.Keyed.{semicolon_keyed}
use Rattle.sql_reader.specs.declared.text_fault.TextFault.{TextFault}
use Rattle.sql_reader.specs.declared.text_fault.TextFault.TheVariants.{Syntax, WithoutFrom, TooDeep, TooMany}
use Rattle.sql_reader.specs.TextGrammar.{PartOf, written, TextOf, HaveFrom, IsWithoutFrom, IsTooMany}
use Rattle.sql_reader.specs.TextReading.{then_read, add_at, more_step, more_at, further_at, lines_at}
use Rattle.sql_reader.proofs.Texts.{part_at, texts_at}
use Rattle.sql_reader.proofs.Added.{IsFine, there, BareAt, BeginsAt, Added, added}

abbrev pub Others : ℕ → List Token → List (Option Statement) → List Token → Type 0
Others d = TailOf semicolon_mark part (PartOf d)

abbrev pub others_at : ℕ → ℕ → List Token → Result (List (Option Statement) × List Token) Fault
others_at d = tail after_semicolon part (part_at d)

-- what is answered of { ";" [stmt] }, beside what the lines of the grammar alone would answer
abbrev pub Path : ℕ → List Statement → List Token → Result (List (Option Statement) × List Token) Fault → Result (List Statement × List Token) TextFault → Type 0
Path d before ts u (Ok y) = (ps : List (Option Statement)) × Others d ts ps y.1 × (u ≡ Ok (ps, y.1)) × (y.0 ≡ before ++ written ps) × (Bound y.1 → HaveFrom (written ps)) × (length y.0 ≤ 256)
Path d before ts u (Err (Syntax n w)) = u ≡ Err (one.Syntax n w)
Path d before ts u (Err (TooDeep n)) = u ≡ Err (one.TooDeep n)
Path d before ts u (Err (WithoutFrom n)) = (ps : List (Option Statement)) × (m : List Token) × Others d ts ps (token.Mark mark.Semicolon ∷ m) × HaveFrom (written ps) × BareAt m n × (length (before ++ written ps) < 256)
Path d before ts u (Err (TooMany n)) = (ps : List (Option Statement)) × (m : List Token) × Others d ts ps (token.Mark mark.Semicolon ∷ m) × HaveFrom (written ps) × BeginsAt m n × (length (before ++ written ps) ≡ 256)

pub written_first : (o : Option Statement) (os : List (Option Statement)) → written (o ∷ os) ≡ there o ++ written os
written_first None os = refl
written_first (Some s) os = refl

pub mid_bound : (d : ℕ) (ps : List (Option Statement)) (mid k : List Token) → Others d mid ps k → Bound k → Bound mid
mid_bound d [] mid k t e = subst Bound (sym t) e
mid_bound d (p ∷ ps) mid k t e = subst Bound (sym t.4) tt

-- those before, one, and others
regrouped : (before all : List Statement) (o : Option Statement) (ps : List (Option Statement)) → all ≡ before ++ there o → all ++ written ps ≡ before ++ written (o ∷ ps)
regrouped before all o ps e = ap (λ (l : List Statement). l ++ written ps) e ∙ append_assoc before (there o) (written ps) ∙ ap (λ (l : List Statement). before ++ l) (sym (written_first o ps))

both_have : (o : Option Statement) (ps : List (Option Statement)) → HaveFrom (there o) → HaveFrom (written ps) → HaveFrom (written (o ∷ ps))
both_have o ps h k = subst HaveFrom (sym (written_first o ps)) (All-append IsFine (there o) (written ps) h k)

module _ (d n : ℕ) (before : List Statement) (ts : List Token) (le : length before ≤ 256) (after : List Token) (is : ts ≡ token.Mark mark.Semicolon ∷ after) where
  -- the lines of the grammar, behind the `;`
  lines : Result (List (Option Statement) × List Token) Fault
  lines = part_at d after >>= λ x. others_at d n x.1 >>= λ y. Ok (x.0 ∷ y.0, y.1)

  module _ (y : List Statement × List Token) (o : Option Statement) (form : PartOf d after o y.1) (read : part_at d after ≡ Ok (o, y.1)) (all : y.0 ≡ before ++ there o) (have : Bound y.1 → HaveFrom (there o)) where
    on : (u : Result (List (Option Statement) × List Token) Fault) → others_at d n y.1 ≡ u → lines ≡ (u >>= λ z. Ok (o ∷ z.0, z.1))
    unfolding lines
    on u e = ap (λ (r : Result (Option Statement × List Token) Fault). r >>= λ x. others_at d n x.1 >>= λ z. Ok (x.0 ∷ z.0, z.1)) read ∙ ap (λ (r : Result (List (Option Statement) × List Token) Fault). r >>= λ z. Ok (o ∷ z.0, z.1)) e

    by_more : (c : Result (List Statement × List Token) TextFault) → Path d y.0 y.1 (others_at d n y.1) c → Path d before ts lines c
    by_more (Ok z) p = (o ∷ p.0, (tt, after, o, y.1, is, form, refl, p.1), on (Ok (p.0, z.1)) p.2, p.3 ∙ regrouped before y.0 o p.0 all, λ ends. both_have o p.0 (have (mid_bound d p.0 y.1 z.1 p.1 ends)) (p.4 ends), p.5)
    by_more (Err (Syntax l w)) p = on (Err (one.Syntax l w)) p
    by_more (Err (TooDeep l)) p = on (Err (one.TooDeep l)) p
    by_more (Err (WithoutFrom l)) p = (o ∷ p.0, p.1, (tt, after, o, y.1, is, form, refl, p.2), both_have o p.0 (have (mid_bound d p.0 y.1 (token.Mark mark.Semicolon ∷ p.1) p.2 tt)) p.3, p.4, subst (λ (l : List Statement). length l < 256) (regrouped before y.0 o p.0 all) p.5)
    by_more (Err (TooMany l)) p = (o ∷ p.0, p.1, (tt, after, o, y.1, is, form, refl, p.2), both_have o p.0 (have (mid_bound d p.0 y.1 (token.Mark mark.Semicolon ∷ p.1) p.2 tt)) p.3, p.4, subst (λ (l : List Statement). length l ≡ 256) (regrouped before y.0 o p.0 all) p.5)

  by_added : (r : Result (List Statement × List Token) TextFault) → Added d before after r → ((b : List Statement) (m : List Token) → length b ≤ 256 → Path d b m (others_at d n m) (more_at d n b m))
      → Path d before ts lines (then_read r (λ x. more_at d n x.0 x.1))
  unfolding lines
  by_added (Ok y) a k = by_more y a.0 a.1 a.2 a.3 a.4 (more_at d n y.0 y.1) (k y.0 y.1 a.5)
  by_added (Err (Syntax l w)) a k = ap (λ (r : Result (Option Statement × List Token) Fault). r >>= λ x. others_at d n x.1 >>= λ z. Ok (x.0 ∷ z.0, z.1)) a
  by_added (Err (TooDeep l)) a k = ap (λ (r : Result (Option Statement × List Token) Fault). r >>= λ x. others_at d n x.1 >>= λ z. Ok (x.0 ∷ z.0, z.1)) a
  by_added (Err (WithoutFrom l)) a k = ([], after, is, All-nil IsFine, a.0, subst (λ (l : List Statement). length l < 256) (sym (append-nil before)) a.1)
  by_added (Err (TooMany l)) a k = ([], after, is, All-nil IsFine, a.0, omega (arith, ap length (append-nil before), le, a.1))

by_semicolon : (d n : ℕ) (before : List Statement) (ts : List Token) → length before ≤ 256 → ((b : List Statement) (m : List Token) → length b ≤ 256 → Path d b m (others_at d n m) (more_at d n b m))
    → (o : Option (Unit {0} × List Token)) → HasMark o (λ m after. ts ≡ semicolon_mark m ∷ after) → Path d before ts (tail_step part (part_at d) (others_at d n) ts o) (more_step d (more_at d n) before ts o)
unfolding lines
by_semicolon d n before ts le k None h = ([], refl, refl, sym (append-nil before), λ ends. All-nil IsFine, le)
by_semicolon d n before ts le k (Some m) h = by_added d n before ts le m.1 h (add_at d before m.1) (added d before m.1 le) k

pub path : (d n : ℕ) (before : List Statement) (ts : List Token) → length before ≤ 256 → Path d before ts (others_at d n ts) (more_at d n before ts)
unfolding tail more_at
path d zero before ts le = ([], refl, refl, sym (append-nil before), λ ends. All-nil IsFine, le)
path d (suc n) before ts le = by_semicolon d n before ts le (λ b m h. path d n b m h) (after_semicolon ts) (semicolon_keyed.are.found ts)

-- ---- from the first statement on

-- what is answered of the statements at the front, beside what the lines of the grammar alone would answer
abbrev pub Lines : ℕ → List Token → Result (List Statement × List Token) TextFault → Type 0
Lines d ts (Ok y) = TextOf d ts y.0 y.1 × (texts_at d ts ≡ Ok (y.0, y.1)) × (Bound y.1 → HaveFrom y.0) × (length y.0 ≤ 256)
Lines d ts (Err (Syntax n w)) = texts_at d ts ≡ Err (one.Syntax n w)
Lines d ts (Err (TooDeep n)) = texts_at d ts ≡ Err (one.TooDeep n)
Lines d ts (Err (WithoutFrom n)) = IsWithoutFrom d ts n
Lines d ts (Err (TooMany n)) = IsTooMany d ts n

module _ (d : ℕ) (ts : List Token) where
  -- what the lines of the grammar answer, from what they answer of the parts
  text_from : Result (Option Statement × List Token) Fault → Result (List Statement × List Token) Fault
  text_from r =
      let parts : Result (List (Option Statement) × List Token) Fault = r >>= λ x. tails after_semicolon part (part_at d) x.1 >>= λ y. Ok (x.0 ∷ y.0, y.1) in
      parts >>= λ x. Ok (written x.0, x.1)

  text_on : Option Statement → Result (List (Option Statement) × List Token) Fault → Result (List Statement × List Token) Fault
  text_on o r =
      let parts : Result (List (Option Statement) × List Token) Fault = r >>= λ y. Ok (o ∷ y.0, y.1) in
      parts >>= λ x. Ok (written x.0, x.1)

  from_part : (r : Result (Option Statement × List Token) Fault) → part_at d ts ≡ r → texts_at d ts ≡ text_from r
  unfolding text_from
  from_part r e = ap text_from e

  module _ (y : List Statement × List Token) (o : Option Statement) (form : PartOf d ts o y.1) (read : part_at d ts ≡ Ok (o, y.1)) (all : y.0 ≡ there o) (have : Bound y.1 → HaveFrom (there o)) where
    text_is : (u : Result (List (Option Statement) × List Token) Fault) → others_at d (length y.1) y.1 ≡ u → texts_at d ts ≡ text_on o u
    unfolding text_from text_on
    text_is u e = from_part (Ok (o, y.1)) read ∙ ap (text_on o) e

    by_path : (c : Result (List Statement × List Token) TextFault) → Path d y.0 y.1 (others_at d (length y.1) y.1) c → Lines d ts c
    unfolding text_on
    by_path (Ok z) p =
        let same : z.0 ≡ written (o ∷ p.0) = p.3 ∙ regrouped [] y.0 o p.0 all in (
          (o ∷ p.0, (o, y.1, p.0, form, p.1, refl), same),
          text_is (Ok (p.0, z.1)) p.2 ∙ ap (λ (l : List Statement). Ok (l, z.1)) (sym same),
          λ ends. subst HaveFrom (sym same) (both_have o p.0 (have (mid_bound d p.0 y.1 z.1 p.1 ends)) (p.4 ends)),
          p.5,
        )
    by_path (Err (Syntax l w)) p = text_is (Err (one.Syntax l w)) p
    by_path (Err (TooDeep l)) p = text_is (Err (one.TooDeep l)) p
    by_path (Err (WithoutFrom l)) p =
        let same : y.0 ++ written p.0 ≡ written (o ∷ p.0) = regrouped [] y.0 o p.0 all in
        let b = p.4 in
        record {
          before = written (o ∷ p.0);
          rows = b.0;
          after = b.1;
          front = inr (o ∷ p.0, (o, y.1, p.0, form, subst (λ (m : List Token). Others d y.1 p.0 (token.Mark mark.Semicolon ∷ m)) b.4 p.2, refl), refl);
          have = both_have o p.0 (have (mid_bound d p.0 y.1 (token.Mark mark.Semicolon ∷ p.1) p.2 tt)) p.3;
          room = subst (λ (l : List Statement). length l < 256) same p.5;
          are = b.2;
          ends = b.3;
          left_is = b.5;
        }
    by_path (Err (TooMany l)) p =
        let same : y.0 ++ written p.0 ≡ written (o ∷ p.0) = regrouped [] y.0 o p.0 all in
        let b = p.4 in
        record {
          before = written (o ∷ p.0);
          verb = b.0;
          after = b.1;
          front = inr (o ∷ p.0, (o, y.1, p.0, form, subst (λ (m : List Token). Others d y.1 p.0 (token.Mark mark.Semicolon ∷ m)) b.2 p.2, refl), refl);
          have = both_have o p.0 (have (mid_bound d p.0 y.1 (token.Mark mark.Semicolon ∷ p.1) p.2 tt)) p.3;
          full = subst (λ (l : List Statement). length l ≡ 256) same p.5;
          left_is = b.3;
        }

  by_first : (r : Result (List Statement × List Token) TextFault) → Added d [] ts r → Lines d ts (then_read r (λ x. further_at d x.0 x.1))
  unfolding text_from
  by_first (Ok y) a = by_path y a.0 a.1 a.2 a.3 a.4 (further_at d y.0 y.1) (path d (length y.1) y.0 y.1 a.5)
  by_first (Err (Syntax l w)) a = from_part (Err (one.Syntax l w)) a
  by_first (Err (TooDeep l)) a = from_part (Err (one.TooDeep l)) a
  by_first (Err (WithoutFrom l)) a = let b = a.0 in record { before = []; rows = b.0; after = b.1; front = inl (b.4, refl); have = All-nil IsFine; room = a.1; are = b.2; ends = b.3; left_is = b.5 }
  by_first (Err (TooMany l)) a = absurd (omega (arith, a.1))

  pub lines_told : Lines d ts (lines_at d ts)
  lines_told = by_first (add_at d [] ts) (added d [] ts (omega arith))
