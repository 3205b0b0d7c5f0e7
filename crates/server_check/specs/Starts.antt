-- What is attached at the start.
use Rattle.std.specs.Prelude.{◌≡◌, ◌<◌, ℕ, is_none}
use Rattle.pool_base.specs.Sets.{has}
use Rattle.server_check.specs.declared.checking.Start.{Start}
use Rattle.server_check.specs.Start.{out_of}

-- of the backends that were up those are attached for which there is no reason why not
pub record IsStart (before : ℕ) (start : Start) : Type 0 where
  pub up : start.findings.up.bits ≡ before
  pub attached : (b : ℕ) → b < 8 → has start.attached.bits b ≡ is_none (out_of start.findings b)
