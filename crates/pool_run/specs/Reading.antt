-- Why a text was not read.
use Rattle.std.specs.Prelude.{ℕ}
use Rattle.pool_base.specs.Outside.{Rose}
use Rattle.pool_run.specs.declared.status.Status.{Status}
use Rattle.pool_run.specs.declared.status.Status.TheVariants.{Done, NoCommand, Refused, ScriptRefused, FilesFailed, SinkFailed, NoMemory, NotBuilt, Stopped, NoneLeft}

-- the status of a read that failed, with its cause
abbrev pub IsFault : ℕ → ℕ → Status → Type 0
IsFault before after Done = ⊥
IsFault before after NoCommand = ⊥
IsFault before after Refused = ⊥
IsFault before after ScriptRefused = ⊥
IsFault before after FilesFailed = Rose before after
IsFault before after SinkFailed = ⊥
IsFault before after NoMemory = Unit {0}
IsFault before after NotBuilt = ⊥
IsFault before after Stopped = ⊥
IsFault before after NoneLeft = ⊥
