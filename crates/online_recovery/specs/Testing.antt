-- The tests by which a caller learns that an event may happen.
use Rattle.std.specs.Prelude.{ℕ, ℤ, pos, int_le, Bool, true, false, ◌&&◌, ◌||◌, ◌==◌, nat_lt, nat_le}
use Rattle.pool_base.specs.declared.backend_id.BackendId.{BackendId}
use Rattle.pool_base.specs.declared.gate_call.GateAnswer.{GateAnswer}
use Rattle.backend_trait.specs.Runnable.{is_of_run}
use Rattle.backend_trait.specs.declared.request.Request.{Request}
use Rattle.backend_trait.specs.declared.request.Request.TheVariants as requests
use Rattle.backend_trait.specs.declared.answer.Answer.{Answer}
use Rattle.backend_trait.specs.declared.answer.Answer.TheVariants as answers
use Rattle.session_machine.specs.Allowed.{is_seen_or_granted}
use Rattle.session_machine.specs.Forms.{is_of_opening, is_of_lock, is_of_end}
use Rattle.online_recovery.specs.declared.ask.RecoveryAsk.{RecoveryAsk}
use Rattle.online_recovery.specs.declared.ask.RecoveryAsk.TheVariants as asks
use Rattle.online_recovery.specs.declared.standing.Held.{Held}
use Rattle.online_recovery.specs.declared.standing.Due.{Due}
use Rattle.online_recovery.specs.declared.standing.Due.TheVariants.{Waiting, Undoing}
use Rattle.online_recovery.specs.State.{backend_at, side_of}
use Rattle.online_recovery.specs.Rules.{request_of}
use Rattle.online_recovery.specs.Allowed.{answers_call}

-- the gate's answer to what is due there
abbrev pub answers_ask : RecoveryAsk → GateAnswer → Bool
answers_ask asks.Rest answer = false
answers_ask (asks.Gate call) answer = answers_call call answer
answers_ask (asks.Swap b) answer = false
answers_ask (asks.Detach b) answer = is_seen_or_granted answer
answers_ask (asks.Post b) answer = false
answers_ask (asks.WaitFor b) answer = false
answers_ask asks.Reply answer = false
answers_ask asks.End answer = false

-- the form of an answer to a request
abbrev pub is_of_serial : Answer → Bool
is_of_serial answers.Began = false
is_of_serial (answers.Rows rows) = false
is_of_serial (answers.Count n) = false
is_of_serial answers.Locked = false
is_of_serial answers.Done = false
is_of_serial (answers.Serial n) = int_le (pos 1) n
is_of_serial (answers.Refused code) = false

abbrev pub is_of : Request → Answer → Bool
is_of requests.TakeSnapshot answer = is_of_opening answer
is_of (requests.Run checked) answer = is_of_run checked answer
is_of (requests.Lock table) answer = is_of_lock answer
is_of requests.Commit answer = is_of_end answer
is_of requests.Rollback answer = is_of_end answer
is_of (requests.ReadSerial table) answer = is_of_serial answer
is_of (requests.SetSerial table n) answer = is_of_end answer

-- an answer of the backend that is waited for, and: its loss
abbrev pub is_heard : Held → Due → BackendId → Answer → Bool
is_heard held (Waiting task) b answer = ((backend_at held (side_of task)).number == b.number) && is_of (request_of held.layout.tables task) answer
is_heard held (Undoing side ending) b answer = ((backend_at held side).number == b.number) && is_of requests.Rollback answer
is_heard held at b answer = false

abbrev pub rose : ℕ → ℕ → Bool
rose before after = nat_lt before after || nat_le 18446744073709551615 after

abbrev pub is_lost : Held → Due → BackendId → ℕ → ℕ → Bool
is_lost held (Waiting task) b before after = ((backend_at held (side_of task)).number == b.number) && rose before after
is_lost held (Undoing side ending) b before after = ((backend_at held side).number == b.number) && rose before after
is_lost held at b before after = false
