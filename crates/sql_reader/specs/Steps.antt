-- Readers that are put together from smaller ones, over any tokens.
use Rattle.std.specs.Prelude.{List, length, Option, Some, None, Result, Ok, Err}
use Rattle.sql_tokens.specs.declared.fault.Awaited.{Awaited}
use Rattle.sql_tokens.specs.declared.fault.Fault.{Fault}
use Rattle.sql_tokens.specs.declared.fault.Fault.TheVariants.{Syntax}
use Rattle.sql_tokens.specs.Grammar.{part}
use Rattle.sql_tokens.specs.Reading.{◌>>=◌, Parse, Marks, chained}
use Rattle.sql_reader.specs.Parts.{all_of}

-- no token
abbrev pub done : {T A : Type 0} → A → Parse T A
done a ts = Ok (a, ts)

-- the one, and then the other
abbrev pub both : {T A B : Type 0} → Parse T A → Parse T B → Parse T (A × B)
both p q ts = p ts >>= λ x. q x.1 >>= λ y. Ok ((x.0, y.0), y.1)

-- the tree that is made of what was read
abbrev pub made : {T A B : Type 0} → (A → B) → Parse T A → Parse T B
made make p ts = p ts >>= λ x. Ok (make x.0, x.1)

abbrev pub needed_step : {T S : Type 0} → Awaited → List T → Option (S × List T) → Result (S × List T) Fault
needed_step awaited ts None = Err (Syntax (length ts) awaited)
needed_step awaited ts (Some m) = Ok m

-- one of the marks
abbrev pub needed : {T S : Type 0} → Marks T S → Awaited → Parse T S
needed marks awaited ts = needed_step awaited ts (marks ts)

-- one of the marks, and then what belongs behind it
abbrev pub one_of : {T S A : Type 0} → Marks T S → Awaited → (S → Parse T A) → Parse T A
one_of marks awaited p ts = needed marks awaited ts >>= λ m. p m.0 m.1

abbrev pub maybe_step : {T S A : Type 0} → (S → Parse T A) → List T → Option (S × List T) → Result (Option A × List T) Fault
maybe_step p ts None = Ok (None, ts)
maybe_step p ts (Some m) = p m.0 m.1 >>= λ x. Ok (Some x.0, x.1)

-- the same, or no token
abbrev pub maybe : {T S A : Type 0} → Marks T S → (S → Parse T A) → Parse T (Option A)
maybe marks p ts = maybe_step p ts (marks ts)

abbrev pub either_step : {T S A : Type 0} → (S → Parse T A) → Parse T A → List T → Option (S × List T) → Result (A × List T) Fault
either_step p q ts None = q ts
either_step p q ts (Some m) = p m.0 m.1

-- the same, or another reader
abbrev pub either : {T S A : Type 0} → Marks T S → (S → Parse T A) → Parse T A → Parse T A
either marks p q ts = either_step p q ts (marks ts)

-- a mark that stands alone, and what follows it
abbrev pub behind : {T A : Type 0} → Marks T (Unit {0}) → Awaited → Parse T A → Parse T A
behind marks awaited p = one_of marks awaited (λ _. p)

-- one { mark one }
abbrev pub listed : {T A : Type 0} → Marks T (Unit {0}) → Parse T A → Parse T (List A)
listed marks p = chained marks part p all_of p
