use Rattle.std.proofs.Common.{◌≡◌, ℕ, List, false, true, Err, sym, subst}
use Rattle.std.proofs.lemmas.Bool.{false≢true}
use Rattle.pg_values.specs.declared.col_type.ColType.TheVariants as kind
use Rattle.pg_values.specs.declared.value.Value.{Value}
use Rattle.pg_values.specs.declared.value_fault.ValueFault.{ValueFault}
use Rattle.pg_values.specs.declared.value_fault.ValueFault.TheVariants.{Bad, NoMemory}
use Rattle.pg_values.specs.Answers.{IsRefusedFor, IsValueOr, ReadsText}
use Rattle.pgproto.proofs.moments.is_clock.Goals as goal

-- what is read is not refused
never : (fault : ValueFault) (value : Value) → IsValueOr (Err fault) value → IsRefusedFor (Err fault) (kind.Moment ≡ kind.Text) → ⊥
never (Bad code) value is memory = is
never NoMemory value is memory = absurd (cc)

pub returns-in-Err : goal.returns-in-Err
returns-in-Err c = (
  λ is. absurd (false≢true is),
  λ clock. absurd (never c.in-Err.field-0 clock.0 (c.in-Err.ensures.each_value clock.0 (subst (λ (text : List ℕ). ReadsText kind.Moment text clock.0) (sym c.as_bytes.ensures) clock.1)) c.in-Err.ensures.memory),
)
