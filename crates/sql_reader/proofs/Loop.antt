-- Reading statements one after the other, as a loop does.
use Rattle.std.proofs.Common.{◌≡◌, ℕ, zero, suc, ◌≤◌, ◌<◌, List, length, Some, None, Result, Ok, Err, refl, sym, ap, ◌∙◌, arith}
use Rattle.sql_tokens.specs.declared.token.Token.{Token}
use Rattle.sql_tree.specs.declared.statement.Statement.{Statement}
use Rattle.sql_reader.specs.Words.{after_semicolon}
use Rattle.sql_reader.specs.declared.text_fault.TextError.{TextError}
use Rattle.sql_reader.specs.declared.text_fault.TextError.TheVariants as errors
use Rattle.sql_reader.specs.declared.text_fault.TextFault.{TextFault}
use Rattle.sql_reader.specs.TextReading.{Refuses, then_read, add_at, more_step, more_at, further_at}

-- what was read so far, and what is still read, are all of it
pub record Going (d : ℕ) (before : List Statement) (rest : List Token) (total : Result (List Statement × List Token) TextFault) : Type 0 where
  pub turns : ℕ
  pub enough : length rest ≤ turns
  pub read : more_at d turns before rest ≡ total

pub starts : (d : ℕ) (before : List Statement) (ts : List Token) → Going d before ts (further_at d before ts)
starts d before ts = record { turns = length ts; enough = omega arith; read = refl }

a_turn : (d n : ℕ) (before : List Statement) (rest after : List Token) (r : Result (List Statement × List Token) TextFault) → after_semicolon rest ≡ Some (tt, after) → add_at d before after ≡ r → more_at d (suc n) before rest ≡ then_read r (λ x. more_at d n x.0 x.1)
unfolding more_at
a_turn d n before rest after r h e = ap (more_step d (more_at d n) before rest) h ∙ ap (λ (q : Result (List Statement × List Token) TextFault). then_read q (λ x. more_at d n x.0 x.1)) e

pub goes_on : (d : ℕ) (before all : List Statement) (rest after later : List Token) (total : Result (List Statement × List Token) TextFault)
    → Going d before rest total → after_semicolon rest ≡ Some (tt, after) → add_at d before after ≡ Ok (all, later) → length later < length rest → Going d all later total
goes_on d before all rest after later total g h e short = goes g.turns g.enough g.read where
  goes : (n : ℕ) → length rest ≤ n → more_at d n before rest ≡ total → Going d all later total
  goes zero le r = absurd (omega arith)
  goes (suc n) le r = record { turns = n; enough = omega arith; read = sym (a_turn d n before rest after (Ok (all, later)) h e) ∙ r }

pub fails : (x : TextError) (d : ℕ) (before : List Statement) (rest after : List Token) (total : Result (List Statement × List Token) TextFault)
    → Going d before rest total → after_semicolon rest ≡ Some (tt, after) → 0 < length rest → Refuses x (add_at d before after) → Refuses x total
fails errors.NoMemory d before rest after total g h some e = tt
fails (errors.Fault f) d before rest after total g h some e = goes g.turns g.enough g.read where
  goes : (n : ℕ) → length rest ≤ n → more_at d n before rest ≡ total → total ≡ Err f
  goes zero le r = absurd (omega arith)
  goes (suc n) le r = sym r ∙ a_turn d n before rest after (Err f) h e

no_turn : (d n : ℕ) (before : List Statement) (rest : List Token) → after_semicolon rest ≡ None → more_at d n before rest ≡ Ok (before, rest)
unfolding more_at
no_turn d zero before rest h = refl
no_turn d (suc n) before rest h = ap (more_step d (more_at d n) before rest) h

pub is_done : (d : ℕ) (before : List Statement) (rest : List Token) (total : Result (List Statement × List Token) TextFault) → Going d before rest total → after_semicolon rest ≡ None → total ≡ Ok (before, rest)
is_done d before rest total g h = sym g.read ∙ no_turn d g.turns before rest h
