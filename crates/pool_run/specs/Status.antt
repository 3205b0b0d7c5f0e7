-- The number of each status.
use Rattle.std.specs.Prelude.{ℕ}
use Rattle.pool_run.specs.declared.status.Status.{Status}
use Rattle.pool_run.specs.declared.status.Status.TheVariants.{Done, NoCommand, Refused, ScriptRefused, FilesFailed, SinkFailed, NoMemory, NotBuilt, Stopped, NoneLeft}

abbrev pub code_of : Status → ℕ
code_of Done = 0
code_of NoCommand = 1
code_of Refused = 2
code_of ScriptRefused = 3
code_of FilesFailed = 4
code_of SinkFailed = 5
code_of NoMemory = 7
code_of NotBuilt = 9
code_of Stopped = 10
code_of NoneLeft = 6
