use Rattle.std.proofs.Common.{◌≡◌, Err}
use Rattle.pg_values.specs.declared.col_type.ColType.TheVariants as kind
use Rattle.pg_values.specs.declared.value.Value.{Value}
use Rattle.pg_values.specs.declared.value.Value.TheVariants.{Moment}
use Rattle.pg_values.specs.declared.value_fault.ValueFault.{ValueFault}
use Rattle.pg_values.specs.declared.value_fault.ValueFault.TheVariants.{Bad, NoMemory}
use Rattle.pg_values.specs.Answers.{IsRefusedFor, IsValueOr}
use Rattle.session_player.proofs.player.moment_of.Goals as goal

-- what is read is not refused
never : (fault : ValueFault) (value : Value) → IsValueOr (Err fault) value → IsRefusedFor (Err fault) (kind.Moment ≡ kind.Text) → ⊥
never (Bad code) value is memory = is
never NoMemory value is memory = absurd (cc)

pub returns-in-Err-Bad : goal.returns-in-Err-Bad
returns-in-Err-Bad c = λ micros is. never c.in-Err-Bad.field-0 (Moment micros) (c.in-Err-Bad.ensures.each_value (Moment micros) is) c.in-Err-Bad.ensures.memory
