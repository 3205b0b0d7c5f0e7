-- What is told of a refused text is what the rules say of what is due.
use Rattle.std.proofs.Common.{◌≡◌, ℕ, List, length, Result, Ok, Err, refl, sym, subst}
use Rattle.std.specs.Prelude.{IfErr}
use Rattle.sql_tokens.specs.declared.token.Placed.{Placed}
use Rattle.sql_tokens.specs.declared.token.Token.{Token}
use Rattle.sql_tokens.specs.Tokens.{TokensOf}
use Rattle.sql_tree.specs.declared.statement.Statement.{Statement}
use Rattle.sql_reader.specs.declared.text_fault.TextError.TheVariants as errors
use Rattle.sql_reader.specs.declared.text_fault.TextFault.{TextFault}
use Rattle.sql_reader.specs.declared.text_fault.TextFault.TheVariants as text_fault
use Rattle.sql_reader.specs.TextReading.{text_at}
use Rattle.sql_reader.proofs.Reaches.{bare_told, many_told}
use Rattle.sql_reader.proofs.Whole.{is_found, is_few, has_from, is_place, is_deep, is_bare, is_many}
use Rattle.sql_reader.specs.declared.fault.SqlFault.{SqlFault}
use Rattle.sql_reader.specs.declared.fault.SqlFault.TheVariants.{Syntax, Outside, TooLong, NoMemory}
use Rattle.sql_reader.specs.Text.{tokens_of, places_of, told_of, GoesWrong, AreRead, IsTextOf, IsReadAs, IsRefusedBy, IsToldAs}
use Rattle.sql_profile.specs.Named.{DueAt, IsNamedBy, LacksFromAt, HasTooMany}
use Rattle.sql_profile.proofs.NamedTexts.{text_due}

goes_wrong : (tokens : List Token) (fault : TextFault) → text_at 64 tokens ≡ Err fault → GoesWrong tokens fault
goes_wrong tokens (text_fault.Syntax n w) e = is_place 64 tokens (Err (errors.Fault (text_fault.Syntax n w))) e n w refl
goes_wrong tokens (text_fault.TooDeep n) e = is_deep 64 tokens (Err (errors.Fault (text_fault.TooDeep n))) e n refl
goes_wrong tokens (text_fault.WithoutFrom n) e = is_bare 64 tokens (Err (errors.Fault (text_fault.WithoutFrom n))) e n refl
goes_wrong tokens (text_fault.TooMany n) e = is_many 64 tokens (Err (errors.Fault (text_fault.TooMany n))) e n refl

due_at : (tokens : List Token) (fault : TextFault) → text_at 64 tokens ≡ Err fault → DueAt tokens fault
due_at tokens (text_fault.Syntax n w) e = text_due 64 tokens n w e
due_at tokens (text_fault.TooDeep n) e = tt
due_at tokens (text_fault.WithoutFrom n) e = tt
due_at tokens (text_fault.TooMany n) e = tt

are_read : (placed : List Placed) (all : List Statement) → text_at 64 (tokens_of placed) ≡ Ok all → AreRead placed all
are_read placed all e = (is_found 64 (tokens_of placed) (Ok all) e, is_few 64 (tokens_of placed) (Ok all) e, has_from 64 (tokens_of placed) (Ok all) e)

module _ (text : List ℕ) where
  abbrev Parts : SqlFault → Type 0
  Parts e = (placed : List Placed) × TokensOf text placed × (fault : TextFault) × GoesWrong (tokens_of placed) fault × DueAt (tokens_of placed) fault × (e ≡ told_of (tokens_of placed) (places_of placed) (length text) fault)

  by_text : (e : SqlFault) (placed : List Placed) → TokensOf text placed → ((all : List Statement) → IsTextOf text all → ⊥)
      → ((fault : TextFault) → text_at 64 (tokens_of placed) ≡ Err fault → e ≡ told_of (tokens_of placed) (places_of placed) (length text) fault)
      → (r : Result (List Statement) TextFault) → text_at 64 (tokens_of placed) ≡ r → Parts e
  by_text e placed tokens none told (Ok all) is = absurd (none all (placed, tokens, are_read placed all is))
  by_text e placed tokens none told (Err fault) is = (placed, tokens, fault, goes_wrong (tokens_of placed) fault is, due_at (tokens_of placed) fault is, told fault is)

  pub named_of : (r : Result (List Statement) SqlFault) → ((all : List Statement) → IsTextOf text all → IsReadAs r all) → IfErr r (IsRefusedBy text)
      → ((placed : List Placed) (fault : TextFault) → TokensOf text placed → text_at 64 (tokens_of placed) ≡ Err fault → IsToldAs r (told_of (tokens_of placed) (places_of placed) (length text) fault))
      → IfErr r (IsNamedBy text)
  named_of (Ok read) only refused told = tt
  named_of (Err NoMemory) only refused told = tt
  named_of (Err (Syntax place)) only refused told = by_text (Syntax place) refused.0 refused.1 only (λ fault is. told refused.0 fault refused.1 is) (text_at 64 (tokens_of refused.0)) refl
  named_of (Err (Outside name place)) only refused told = by_text (Outside name place) refused.0 refused.1 only (λ fault is. told refused.0 fault refused.1 is) (text_at 64 (tokens_of refused.0)) refl
  named_of (Err TooLong) only refused told = by_text TooLong refused.0 refused.1 only (λ fault is. told refused.0 fault refused.1 is) (text_at 64 (tokens_of refused.0)) refl

  module _ (r : Result (List Statement) SqlFault) (told : (placed : List Placed) (fault : TextFault) → TokensOf text placed → text_at 64 (tokens_of placed) ≡ Err fault → IsToldAs r (told_of (tokens_of placed) (places_of placed) (length text) fault)) where
    -- the first `*` or `count(*)` without FROM is told
    pub without_from_told : (place : ℕ) → LacksFromAt text place → IsToldAs r (Syntax place)
    without_from_told place h = subst (λ (p : ℕ). IsToldAs r (Syntax p)) (sym h.4) (told h.0 (text_fault.WithoutFrom h.2) h.1 (bare_told 64 (tokens_of h.0) h.2 h.3))

    -- so is the first statement too many
    pub too_many_told : HasTooMany text → IsToldAs r TooLong
    too_many_told h = told h.0 (text_fault.TooMany h.2) h.1 (many_told 64 (tokens_of h.0) h.2 h.3)
