-- The laws of a whole text.
use Rattle.std.proofs.Common.{◌≡◌, ℕ, suc, ◌≤◌, List, [], ◌∷◌, length, Result, Ok, Err, refl, ap, subst}
use Rattle.std.specs.Prelude.{IfOk}
use Rattle.sql_tokens.specs.declared.fault.Awaited.{Awaited}
use Rattle.sql_tokens.specs.declared.fault.Awaited.TheVariants.{End}
use Rattle.sql_tokens.specs.declared.fault.Fault.{Fault}
use Rattle.sql_tokens.specs.declared.fault.Fault.TheVariants as one
use Rattle.sql_tokens.specs.Grammar.{IsPlace, IsTooDeep}
use Rattle.sql_tokens.specs.Reading.{◌>>=◌, end_at, whole_of}
use Rattle.sql_tokens.proofs.Whole as whole
use Rattle.sql_tokens.specs.declared.token.Token.{Token}
use Rattle.sql_tree.specs.declared.statement.Statement.{Statement}
use Rattle.sql_reader.specs.declared.text_fault.TextError.{TextError}
use Rattle.sql_reader.specs.declared.text_fault.TextError.TheVariants as errors
use Rattle.sql_reader.specs.declared.text_fault.TextFault.{TextFault}
use Rattle.sql_reader.specs.declared.text_fault.TextFault.TheVariants.{Syntax, WithoutFrom, TooDeep, TooMany}
use Rattle.sql_reader.specs.TextGrammar.{TextOf, IsText, IsTextWithin, HaveFrom, IsWithoutFrom, IsTooMany}
use Rattle.sql_reader.specs.TextReading.{Answers, then_read, lines_at, ended, text_at}
use Rattle.sql_reader.proofs.Texts.{texts_at, EndsText, text_stage}
use Rattle.sql_reader.proofs.Lines.{Lines, lines_told}
use Rattle.sql_reader.proofs.Reaches.{text_again, bare_told, many_told}

reads : (d : ℕ) → whole.Reads (TextOf d) (texts_at d) EndsText
reads d = record { takes = text_stage.takes d; again = text_stage.again d }

place_at : (d : ℕ) (ts : List Token) (n : ℕ) (w : Awaited) → whole_of End (texts_at d) ts ≡ Err (one.Syntax n w) → IsPlace IsText ts n
place_at = whole.whole_place TextOf texts_at EndsText End reads text_stage.told text_stage.same ((tt, refl), refl)

deep_at : (d : ℕ) (ts : List Token) (n : ℕ) → whole_of End (texts_at d) ts ≡ Err (one.TooDeep n) → IsTooDeep IsText (IsTextWithin d) ts n
deep_at = whole.whole_deep TextOf texts_at EndsText End reads text_stage.told text_stage.same ((tt, refl), refl)

finish : Result (List Statement × List Token) TextFault → Result (List Statement) TextFault
finish r = then_read r (λ x. ended x.0 x.1)

grammar_end : Result (List Statement × List Token) Fault → Result (List Statement) Fault
grammar_end r = r >>= λ x. end_at End x.0 x.1

module _ (d : ℕ) (ts : List Token) where
  -- ---- what was read

  Sound : List Statement → Type 0
  Sound all = IsTextWithin d ts all × (length all ≤ 256) × HaveFrom all

  sound : (all : List Statement) (c : Result (List Statement × List Token) TextFault) → Lines d ts c → finish c ≡ Ok all → Sound all
  unfolding finish Sound
  sound all (Ok (xs, [])) l e = let f : xs ≡ all = cc in subst (λ (l : List Statement). IsTextWithin d ts l × (length l ≤ 256) × HaveFrom l) f (l.0, l.3, l.2 tt)
  sound all (Ok (xs, t ∷ rest)) l e = absurd cc
  sound all (Err f) l e = absurd cc

  -- ---- what was refused

  Refused : TextFault → Type 0
  Refused (Syntax n w) = whole_of End (texts_at d) ts ≡ Err (one.Syntax n w)
  Refused (TooDeep n) = whole_of End (texts_at d) ts ≡ Err (one.TooDeep n)
  Refused (WithoutFrom n) = IsWithoutFrom d ts n
  Refused (TooMany n) = IsTooMany d ts n

  by_fault : (g : TextFault) → Lines d ts (Err g) → Refused g
  unfolding Refused grammar_end
  by_fault (Syntax n w) l = ap grammar_end l
  by_fault (TooDeep n) l = ap grammar_end l
  by_fault (WithoutFrom n) l = l
  by_fault (TooMany n) l = l

  by_end : (xs : List Statement) (t : Token) (rest : List Token) → texts_at d ts ≡ Ok (xs, t ∷ rest) → Refused (Syntax (suc (length rest)) End)
  unfolding Refused grammar_end
  by_end xs t rest e = ap grammar_end e

  refused : (f : TextFault) (c : Result (List Statement × List Token) TextFault) → Lines d ts c → finish c ≡ Err f → Refused f
  unfolding finish
  refused f (Ok (xs, [])) l e = absurd cc
  refused f (Ok (xs, t ∷ rest)) l e = let g : Syntax (suc (length rest)) End ≡ f = cc in subst Refused g (by_end xs t rest l.1)
  refused f (Err h) l e = let g : h ≡ f = cc in subst Refused g (by_fault h l)

  module _ (r : Result (List Statement) TextError) (answers : Answers (λ x. x) r (text_at d ts)) where
    ok : (all : List Statement) → r ≡ Ok all → Sound all
    unfolding finish
    ok all e = sound all (lines_at d ts) (lines_told d ts) (subst (λ (q : Result (List Statement) TextError). Answers (λ x. x) q (text_at d ts)) e answers)

    err : (f : TextFault) → r ≡ Err (errors.Fault f) → Refused f
    unfolding finish
    err f e = refused f (lines_at d ts) (lines_told d ts) (subst (λ (q : Result (List Statement) TextError). Answers (λ x. x) q (text_at d ts)) e answers)

    by_ok : (P : List Statement → Type 0) → ((all : List Statement) → Sound all → P all) → (q : Result (List Statement) TextError) → r ≡ q → IfOk q P
    by_ok P k (Ok all) e = k all (ok all e)
    by_ok P k (Err x) e = tt

    pub is_found : IfOk r (λ all. IsTextWithin d ts all)
    unfolding Sound
    is_found = by_ok (λ all. IsTextWithin d ts all) (λ all h. h.0) r refl

    pub is_few : IfOk r (λ all. length all ≤ 256)
    unfolding Sound
    is_few = by_ok (λ all. length all ≤ 256) (λ all h. h.1) r refl

    pub has_from : IfOk r HaveFrom
    unfolding Sound
    has_from = by_ok HaveFrom (λ all h. h.2) r refl

    pub is_only : (all : List Statement) → IsTextWithin d ts all → length all ≤ 256 → HaveFrom all → Answers (λ x. x) r (Ok all)
    is_only all h room have = subst (λ (o : Result (List Statement) TextFault). Answers (λ x. x) r o) (text_again d ts all h room have) answers

    pub is_place : (n : ℕ) (w : Awaited) → r ≡ Err (errors.Fault (Syntax n w)) → IsPlace IsText ts n
    unfolding Refused
    is_place n w e = place_at d ts n w (err (Syntax n w) e)

    pub is_deep : (n : ℕ) → r ≡ Err (errors.Fault (TooDeep n)) → IsTooDeep IsText (IsTextWithin d) ts n
    unfolding Refused
    is_deep n e = deep_at d ts n (err (TooDeep n) e)

    pub is_bare : (n : ℕ) → r ≡ Err (errors.Fault (WithoutFrom n)) → IsWithoutFrom d ts n
    unfolding Refused
    is_bare n e = err (WithoutFrom n) e

    pub is_bare_told : (n : ℕ) → IsWithoutFrom d ts n → Answers (λ x. x) r (Err (WithoutFrom n))
    is_bare_told n h = subst (λ (o : Result (List Statement) TextFault). Answers (λ x. x) r o) (bare_told d ts n h) answers

    pub is_many : (n : ℕ) → r ≡ Err (errors.Fault (TooMany n)) → IsTooMany d ts n
    unfolding Refused
    is_many n e = err (TooMany n) e

    pub is_many_told : (n : ℕ) → IsTooMany d ts n → Answers (λ x. x) r (Err (TooMany n))
    is_many_told n h = subst (λ (o : Result (List Statement) TextFault). Answers (λ x. x) r o) (many_told d ts n h) answers
