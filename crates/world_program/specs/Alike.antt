-- Worlds that are the same but for the answers of chains that no session reads any more.
use Rattle.std.specs.Prelude.{◌≡◌}
use Rattle.session_engine.specs.Tidying.{tidied}
use Rattle.one_copy_model.specs.World.{World}

-- a world without them
abbrev pub tidy : World → World
tidy w = record { tables = w.tables; gate = w.gate; machine = λ s. tidied (w.machine s); store = w.store; mail = w.mail }

abbrev pub AreAlike : World → World → Type 0
AreAlike v w = tidy v ≡ tidy w
