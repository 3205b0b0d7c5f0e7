-- What the reader of texts awaits where it fails is due there, and nothing else is.
use Rattle.std.proofs.Common.{◌≡◌, ℕ, suc, List, [], ◌∷◌, ◌++◌, length, Result, Ok, Err, refl, sym, ap, subst, ◌∙◌, arith, length-append, inl, inr}
use Rattle.sql_tokens.specs.declared.fault.Awaited.{Awaited}
use Rattle.sql_tokens.specs.declared.fault.Awaited.TheVariants.{End}
use Rattle.sql_tokens.specs.declared.fault.Fault.{Fault}
use Rattle.sql_tokens.specs.declared.fault.Fault.TheVariants as one
use Rattle.sql_tokens.specs.Reading.{◌>>=◌, end_at, whole_of}
use Rattle.sql_tokens.proofs.Good.{Any, Stops}
use Rattle.sql_tokens.specs.declared.mark.Mark.TheVariants as mark
use Rattle.sql_tokens.specs.declared.token.Token.{Token}
use Rattle.sql_tokens.specs.declared.token.Token.TheVariants as token
use Rattle.sql_tokens.specs.declared.token.TokenFault.TheVariants as fault
use Rattle.sql_tree.specs.declared.statement.Statement.{Statement}
use Rattle.sql_tree.specs.declared.statement.Statement.TheVariants as statement
use Rattle.sql_expr.specs.Reading.{after_comma}
use Rattle.sql_reader.specs.declared.verb.Verb.{Verb}
use Rattle.sql_reader.specs.declared.verb.Verb.TheVariants as verb
use Rattle.sql_reader.specs.Parts.{Listed}
use Rattle.sql_reader.specs.Steps.{listed}
use Rattle.sql_reader.specs.Words.{semicolon_mark, after_semicolon, after_verb}
use Rattle.sql_reader.specs.Grammar.{InsertOf, UpdateOf, DeleteOf, BeginOf, StartOf, EndingOf, ShowOf, RecoverOf, verb_token, BehindVerb}
use Rattle.sql_reader.specs.Reading.{insert_at, update_at, delete_at, begin_at, start_at, ending_at, show_at, recover_at, verb_at}
use Rattle.sql_reader.proofs.Ends.{EndsFilter, EndsUpdate, EndsWork, EndsIsolation, EndsBegin, bound_update, bound_work, bound_isolation, bound_begin}
use Rattle.sql_reader.proofs.Keyed.{semicolon_keyed}
use Rattle.sql_reader.proofs.Verbs.{verb_keyed}
use Rattle.sql_reader.specs.declared.text_fault.TextFault.{TextFault}
use Rattle.sql_reader.specs.declared.text_fault.TextFault.TheVariants.{Syntax, WithoutFrom, TooDeep, TooMany}
use Rattle.sql_reader.specs.TextGrammar.{PartOf, written, TextOf}
use Rattle.sql_reader.specs.TextReading.{then_read, lines_at, ended, text_at}
use Rattle.sql_reader.proofs.Texts.{part_at, texts_at}
use Rattle.sql_reader.proofs.Lines.{Lines, lines_told}
use Rattle.sql_profile.specs.Beginnings.{Beginning, AtOnce, Nothing}
use Rattle.sql_profile.specs.Statements.{Further, ListedBegun, DeleteBegun, UpdateBegun, BeginBegun, StartBegun, RecoverBegun, InsertBegun, VerbBegun}
use Rattle.sql_profile.specs.Texts.{PartBegun, TextBegun, IsDue}
use Rattle.sql_profile.proofs.Begins.{Stop, Halts, at_once, then_halts, Begins, passed, begins_narrow, begins_made, begins_maybe, begins_listed}
use Rattle.sql_profile.proofs.Expressions.{bad}
use Rattle.sql_profile.proofs.NamedStatements.{begins_delete, begins_update, begins_begin, begins_start, begins_ending, begins_show, begins_recover, begins_insert}
use Rattle.sql_profile.proofs.Selects.{Past, past_filter, begins_select}

past_update : (ts : List Token) → Past ts → EndsUpdate ts
past_update [] h = bound_update [] tt
past_update (token.Mark mark.Semicolon ∷ ts) h = bound_update (token.Mark mark.Semicolon ∷ ts) tt
past_update (token.Fault fault.Bad ∷ ts) h = (past_filter (token.Fault fault.Bad ∷ ts) tt, refl)
past_update _ h = absurd h

past_work : (ts : List Token) → Past ts → EndsWork ts
past_work [] h = bound_work [] tt
past_work (token.Mark mark.Semicolon ∷ ts) h = bound_work (token.Mark mark.Semicolon ∷ ts) tt
past_work (token.Fault fault.Bad ∷ ts) h = (tt, refl)
past_work _ h = absurd h

past_isolation : (ts : List Token) → Past ts → EndsIsolation ts
past_isolation [] h = bound_isolation [] tt
past_isolation (token.Mark mark.Semicolon ∷ ts) h = bound_isolation (token.Mark mark.Semicolon ∷ ts) tt
past_isolation (token.Fault fault.Bad ∷ ts) h = (tt, refl)
past_isolation _ h = absurd h

past_begin : (ts : List Token) → Past ts → EndsBegin ts
past_begin [] h = bound_begin [] tt
past_begin (token.Mark mark.Semicolon ∷ ts) h = bound_begin (token.Mark mark.Semicolon ∷ ts) tt
past_begin (token.Fault fault.Bad ∷ ts) h = ((tt, refl), refl)
past_begin _ h = absurd h

past_rows : (ts : List Token) → Past ts → Stops Any after_comma ts
past_rows [] h = (tt, refl)
past_rows (token.Mark mark.Semicolon ∷ ts) h = (tt, refl)
past_rows (token.Fault fault.Bad ∷ ts) h = (tt, refl)
past_rows _ h = absurd h

begins_verb : (d : ℕ) (v : Verb) → Begins bad (BehindVerb d v) (verb_at d v) Past (VerbBegun d v)
begins_verb d verb.Select = begins_select d
begins_verb d verb.Insert = begins_narrow bad (InsertOf d) (insert_at d) (Stops Any after_comma) (InsertBegun d) (begins_insert d) Past past_rows
begins_verb d verb.Update = begins_narrow bad (UpdateOf d) (update_at d) EndsUpdate (UpdateBegun d) (begins_update d) Past past_update
begins_verb d verb.Delete = begins_narrow bad (DeleteOf d) (delete_at d) EndsFilter (DeleteBegun d) (begins_delete d) Past past_filter
begins_verb d verb.Begin = begins_narrow bad BeginOf begin_at EndsBegin BeginBegun begins_begin Past past_begin
begins_verb d verb.Start = begins_narrow bad StartOf start_at EndsIsolation StartBegun begins_start Past past_isolation
begins_verb d verb.Commit = begins_narrow bad (EndingOf statement.Commit) (ending_at statement.Commit) EndsWork Nothing (begins_ending statement.Commit) Past past_work
begins_verb d verb.End = begins_narrow bad (EndingOf statement.Commit) (ending_at statement.Commit) EndsWork Nothing (begins_ending statement.Commit) Past past_work
begins_verb d verb.Rollback = begins_narrow bad (EndingOf statement.Rollback) (ending_at statement.Rollback) EndsWork Nothing (begins_ending statement.Rollback) Past past_work
begins_verb d verb.Abort = begins_narrow bad (EndingOf statement.Rollback) (ending_at statement.Rollback) EndsWork Nothing (begins_ending statement.Rollback) Past past_work
begins_verb d verb.Show = begins_narrow bad ShowOf show_at Any Further begins_show Past (λ k h. tt)
begins_verb d verb.Pgpool = begins_narrow bad RecoverOf recover_at Any RecoverBegun begins_recover Past (λ k h. tt)

abbrev Over : List Token → Type 0
Over = Stops (Stops Past after_verb) after_semicolon

module _ (d : ℕ) where
  abbrev Lasting : Beginning Token
  Lasting = ListedBegun semicolon_mark (PartOf d) (PartBegun d)

  begins_part : Begins bad (PartOf d) (part_at d) (Stops Past after_verb) (PartBegun d)
  begins_part = begins_maybe bad after_verb verb_token (BehindVerb d) (verb_at d) Past (VerbBegun d) verb_keyed.are (begins_verb d)

  begins_texts : Begins bad (TextOf d) (texts_at d) Over Lasting
  begins_texts = begins_made bad (Listed semicolon_mark (PartOf d)) (listed after_semicolon (part_at d)) Over Lasting
      (begins_listed bad after_semicolon semicolon_mark (PartOf d) (part_at d) (Stops Past after_verb) (PartBegun d) semicolon_keyed.are begins_part (λ m after. (tt, refl))) written

  end_halts : (all : List Statement) (ts : List Token) → Halts (AtOnce End) ts (end_at End all ts)
  end_halts all [] = tt
  end_halts all (t ∷ ts) = at_once End (t ∷ ts)

  whole_halts : (ts : List Token) → Halts (TextBegun d) ts (whole_of End (texts_at d) ts)
  whole_halts ts = then_halts (TextOf d) Lasting (AtOnce End) begins_texts.frames ts (texts_at d ts) (λ x. end_at End x.0 x.1) (begins_texts.takes ts) (begins_texts.halts ts) end_halts

  whole_met : (w : Awaited) (ts : List Token) → TextBegun d w ts → whole_of End (texts_at d) (ts ++ bad ∷ []) ≡ Err (one.Syntax 1 w)
  whole_met w ts (inl h) = rw (begins_texts.met w ts h) refl
  whole_met w ts (inr h) =
      let r : TextOf d ts h.0 [] = subst (λ (m : List Token). TextOf d ts h.0 m) h.3.0 h.2 in
      rw (passed bad (TextOf d) (texts_at d) Over Lasting begins_texts ts h.0 [] (bad ∷ []) r ((tt, refl), refl), h.3.1) refl

  -- ---- what is due

  pub is_due : (ts : List Token) (n : ℕ) (w : Awaited) → whole_of End (texts_at d) ts ≡ Err (one.Syntax n w) → IsDue d ts n w
  is_due ts n w is =
      let s : Stop (TextBegun d) ts n w = subst (Halts (TextBegun d) ts) is (whole_halts ts) in
      record { front = s.used; rest = s.rest; parts = s.parts; left_is = s.left_is; due = s.due }

  same_front : (a b r s : List Token) → a ++ r ≡ b ++ s → length r ≡ length s → a ≡ b
  same_front [] [] r s e l = refl
  same_front [] (y ∷ b) r s e l = absurd (omega (arith, ap length e, length-append b s, l))
  same_front (x ∷ a) [] r s e l = absurd (omega (arith, ap length e, length-append a r, l))
  same_front (x ∷ a) (y ∷ b) r s e l =
      let h : x ≡ y = cc in
      let t : a ++ r ≡ b ++ s = cc in
      ap (λ (z : Token). z ∷ a) h ∙ ap (λ (k : List Token). y ∷ k) (same_front a b r s t l)

  same_due : (r : Result (List Statement) Fault) (v w : Awaited) → r ≡ Err (one.Syntax 1 v) → r ≡ Err (one.Syntax 1 w) → v ≡ w
  same_due r v w h k = cc

  pub alone : (ts : List Token) (n : ℕ) (v w : Awaited) → IsDue d ts n v → IsDue d ts n w → v ≡ w
  alone ts n v w h k =
      let e : h.front ≡ k.front = same_front h.front k.front h.rest k.rest (sym h.parts ∙ k.parts) (h.left_is ∙ sym k.left_is) in
      same_due (whole_of End (texts_at d) (k.front ++ bad ∷ [])) v w (whole_met v k.front (subst (TextBegun d v) e h.due)) (whole_met w k.front k.due)

  -- ---- of a text as it is read

  module _ (ts : List Token) where
    Refused : TextFault → Type 0
    Refused (Syntax n w) = whole_of End (texts_at d) ts ≡ Err (one.Syntax n w)
    Refused (TooDeep n) = Unit {0}
    Refused (WithoutFrom n) = Unit {0}
    Refused (TooMany n) = Unit {0}

    grammar_end : Result (List Statement × List Token) Fault → Result (List Statement) Fault
    grammar_end r = r >>= λ x. end_at End x.0 x.1

    by_fault : (g : TextFault) → Lines d ts (Err g) → Refused g
    unfolding Refused grammar_end
    by_fault (Syntax n w) l = ap grammar_end l
    by_fault (TooDeep n) l = tt
    by_fault (WithoutFrom n) l = tt
    by_fault (TooMany n) l = tt

    by_end : (xs : List Statement) (t : Token) (rest : List Token) → texts_at d ts ≡ Ok (xs, t ∷ rest) → Refused (Syntax (suc (length rest)) End)
    unfolding Refused grammar_end
    by_end xs t rest e = ap grammar_end e

    refused : (f : TextFault) (c : Result (List Statement × List Token) TextFault) → Lines d ts c → then_read c (λ x. ended x.0 x.1) ≡ Err f → Refused f
    refused f (Ok (xs, [])) l e = absurd cc
    refused f (Ok (xs, t ∷ rest)) l e = let g : Syntax (suc (length rest)) End ≡ f = cc in subst Refused g (by_end xs t rest l.1)
    refused f (Err h) l e = let g : h ≡ f = cc in subst Refused g (by_fault h l)

    pub text_due : (n : ℕ) (w : Awaited) → text_at d ts ≡ Err (Syntax n w) → IsDue d ts n w
    unfolding Refused
    text_due n w e = is_due ts n w (refused (Syntax n w) (lines_at d ts) (lines_told d ts) e)
