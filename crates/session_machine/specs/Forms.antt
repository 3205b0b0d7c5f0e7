-- The form of an answer to what a stage asks, as a test.
use Rattle.std.specs.Prelude.{Bool, true, false}
use Rattle.backend_trait.specs.Runnable.{is_of_run}
use Rattle.backend_trait.specs.declared.answer.Answer.{Answer}
use Rattle.backend_trait.specs.declared.answer.Answer.TheVariants as answers
use Rattle.session_machine.specs.declared.machine.Stage.{Stage}
use Rattle.session_machine.specs.declared.machine.Stage.TheVariants.{Opening, Reading, Running, Locking, Inserting, Committing, Closing, RollingBack}

abbrev pub is_of_opening : Answer → Bool
is_of_opening answers.Began = true
is_of_opening (answers.Rows rows) = false
is_of_opening (answers.Count n) = false
is_of_opening answers.Locked = false
is_of_opening answers.Done = false
is_of_opening (answers.Serial n) = false
is_of_opening (answers.Refused code) = true

abbrev pub is_of_lock : Answer → Bool
is_of_lock answers.Began = false
is_of_lock (answers.Rows rows) = false
is_of_lock (answers.Count n) = false
is_of_lock answers.Locked = true
is_of_lock answers.Done = false
is_of_lock (answers.Serial n) = false
is_of_lock (answers.Refused code) = true

abbrev pub is_of_end : Answer → Bool
is_of_end answers.Began = false
is_of_end (answers.Rows rows) = false
is_of_end (answers.Count n) = false
is_of_end answers.Locked = false
is_of_end answers.Done = true
is_of_end (answers.Serial n) = false
is_of_end (answers.Refused code) = false

abbrev pub is_of_stage : Stage → Answer → Bool
is_of_stage (Opening work) answer = is_of_opening answer
is_of_stage (Reading work ticket) answer = is_of_run work.statement answer
is_of_stage (Running work) answer = is_of_run work.statement answer
is_of_stage (Locking work table) answer = is_of_lock answer
is_of_stage (Inserting work posted) answer = is_of_run work.statement answer
is_of_stage Committing answer = is_of_end answer
is_of_stage Closing answer = is_of_end answer
is_of_stage (RollingBack ending) answer = is_of_end answer
