-- The tests by which a caller learns that an event may happen.
use Rattle.std.specs.Prelude.{ℕ, Bool, false, ◌&&◌, ◌||◌, ◌==◌, nat_lt, nat_le}
use Rattle.pool_base.specs.declared.backend_id.BackendId.{BackendId}
use Rattle.pool_base.specs.declared.gate_call.GateAnswer.{GateAnswer}
use Rattle.backend_trait.specs.declared.answer.Answer.{Answer}
use Rattle.session_machine.specs.declared.machine.Point.{Point}
use Rattle.session_machine.specs.declared.machine.Point.TheVariants.{Waiting}
use Rattle.session_machine.specs.Allowed.{answers_call, is_seen_or_granted}
use Rattle.session_machine.specs.Forms.{is_of_stage}
use Rattle.session_engine.specs.declared.ask.Ask.{Ask}
use Rattle.session_engine.specs.declared.ask.Ask.TheVariants as asks

-- the gate's answer to what is due there
abbrev pub answers_ask : Ask → GateAnswer → Bool
answers_ask asks.Rest answer = false
answers_ask (asks.Gate call) answer = answers_call call answer
answers_ask (asks.Post b) answer = false
answers_ask (asks.WaitFor b) answer = false
answers_ask (asks.Detach b) answer = is_seen_or_granted answer
answers_ask asks.Reply answer = false
answers_ask asks.End answer = false

-- an answer of the backend that is waited for, and: its loss
abbrev pub is_heard : Point → BackendId → Answer → Bool
is_heard (Waiting stage asked) b answer = (asked.number == b.number) && is_of_stage stage answer
is_heard point b answer = false

abbrev pub rose : ℕ → ℕ → Bool
rose before after = nat_lt before after || nat_le 18446744073709551615 after

abbrev pub is_lost : Point → BackendId → ℕ → ℕ → Bool
is_lost (Waiting stage asked) b before after = (asked.number == b.number) && rose before after
is_lost point b before after = false
