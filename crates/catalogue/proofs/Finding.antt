-- What a look-up finds, and what comes behind it.
use Rattle.std.proofs.Common.{◌≡◌, ◌∙◌, ap, sym, refl, subst}
use Rattle.std.specs.Prelude.{Result, Ok, Err}
use Rattle.typed_sql.specs.declared.fault.CheckFault.{CheckFault}
use Rattle.typed_sql.specs.declared.fault.CheckFault.TheVariants.{Refused, NoMemory}
use Rattle.typed_sql.specs.Steps.{Known, Fault, fault, Answer, Step, Then, Made, Told, Answers}
use Rattle.typed_sql.specs.Meaning.{IsFault, Finds}
use Rattle.typed_sql.proofs.Walking.{told_gives, then_answers, then_stops}
use Rattle.typed_sql.proofs.Faults.{found_answers}

-- the fault that a look-up has is answered
pub finds_fault : {A B : Type 0} (view : A → B) (f : CheckFault) (e : Fault) (told : Result B Fault)
    → IsFault f e → told ≡ Err e → Finds view (Err f) told
finds_fault view (Refused code name) e told is fails = fails ∙ ap (λ (x : Fault). Err x) is
finds_fault view NoMemory e told is fails = tt

-- the same answer of another look-up
pub finds_stops : {A B C D : Type 0} (view : A → B) (shown : C → D) (f : CheckFault) (told : Result B Fault) (other : Result D Fault)
    → ((e : Fault) → told ≡ Err e → other ≡ Err e) → Finds view (Err f) told → Finds shown (Err f) other
finds_stops view shown (Refused code name) told other stops is = stops (fault code.bytes name) is
finds_stops view shown NoMemory told other stops is = tt

module _ {A B C D : Type 0} (view : A → B) (next : B → Step C) (shown : D → C) (told : Result B Fault) (known new : Known) where
  pub told_then : (a : A) (result : Result D CheckFault) → Finds view (Ok a) told → Answers shown result new (next (view a) known)
      → Answers shown result new (Then (Told told) next known)
  told_then a result is goes = then_answers (Told told) next known shown (view a) known new result (told_gives told (view a) known is) goes

  pub told_stops : (f : CheckFault) → Finds view (Err f) told → Answers shown (Err f) new (Then (Told told) next known)
  told_stops f is = then_stops (Told told) next known view shown f known new (found_answers view (Err f) told known is)
