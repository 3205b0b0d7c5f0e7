-- What the program reads of a backend, as tests.
use Rattle.std.specs.Prelude.{ℕ, Bool, false, is_some, Option, Some, None, slice_get}
use Rattle.backend_trait.specs.declared.answer.Answer.{Answer}
use Rattle.plain_store.specs.Meaning.{request_at}
use Rattle.session_machine.specs.Answers.{is_same}
use Rattle.world_program.specs.declared.data.Replica.{Replica}
use Rattle.world_program.specs.Meaning.{answer_at}

-- whether a request of the session waits there, whether it is lost, and whether it has answered so
abbrev pub is_waiting : Option Replica → ℕ → Bool
is_waiting None s = false
is_waiting (Some r) s = is_some (request_at (slice_get r.store.requests.items s))

abbrev pub is_lost : Option Replica → Bool
is_lost None = false
is_lost (Some r) = r.store.is_lost

abbrev pub is_answer : Option Answer → Answer → Bool
is_answer None answer = false
is_answer (Some mailed) answer = is_same mailed answer

abbrev pub is_mailed : Option Replica → ℕ → Answer → Bool
is_mailed None s answer = false
is_mailed (Some r) s answer = is_answer (answer_at (slice_get r.mail.items s)) answer
