-- A fault of a part as one of the statement.
use Rattle.std.proofs.Common.{◌≡◌, ℕ, List, ap, refl}
use Rattle.std.specs.Prelude.{Err}
use Rattle.sql_values.specs.declared.fault.ExprFault.{ExprFault}
use Rattle.sql_values.specs.declared.fault.ExprFault.TheVariants.{Refused, NoMemory}
use Rattle.sql_eval.specs.declared.effect.ReadEffect.{ReadEffect}
use Rattle.sql_eval.specs.declared.effect.Change.{Change}
use Rattle.sql_eval.specs.Walks.{Coded, GivesAs, made}
use Rattle.sql_eval.specs.Effects.{Reads, Writes, IsRead, IsWrite, with_draws}

pub read_refused : (fault : ExprFault) (told : Coded ReadEffect) → GivesAs (λ (e : ReadEffect). e) (Err fault) told
    → IsRead (Err (with_draws 0 fault)) (record { draws = 0; given = made Reads told })
read_refused (Refused code) told gives = (refl, ap (made Reads) gives)
read_refused NoMemory told gives = tt

pub write_refused : (draws : ℕ) (fault : ExprFault) (told : Coded (List Change)) → GivesAs (λ (cs : List Change). cs) (Err fault) told
    → IsWrite (Err (with_draws draws fault)) (record { draws = draws; given = made Writes told })
write_refused draws (Refused code) told gives = (refl, ap (made Writes) gives)
write_refused draws NoMemory told gives = tt
