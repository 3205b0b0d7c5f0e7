-- What waits for its answer at a link, and its faults.
use Rattle.std.specs.Prelude.{ℕ, ◌+◌, min, ◌-◌, ◌^◌, Option, Some, None}
use Rattle.backend_trait.specs.declared.request.Request.{Request}
use Rattle.postgres_talk.specs.Forms.{IsSaid}
use Rattle.postgres_talk.specs.declared.talk.Said.{Said}
use Rattle.postgres_talk.specs.declared.talk.Said.TheVariants as said
use Rattle.tcp_link.specs.declared.patient.State.{State}
use Rattle.tcp_link.specs.declared.patient.State.TheVariants as state

-- the request that waits for its answer
abbrev pub pending_of : State → Option Request
pending_of state.Idle = None
pending_of (state.Sent talk) = Some talk.request
pending_of (state.Unsent request) = Some request
pending_of (state.Held request ending) = Some request

-- the wire's faults and the others, as far as a u64 counts
abbrev pub faults_of : ℕ → ℕ → ℕ
faults_of wire violations = min (wire + violations) (2 ^ 64 - 1)

abbrev pub IsNoAnswer : Said → Type 0
IsNoAnswer said.NotYet = Unit {0}
IsNoAnswer (said.Answer answer) = ⊥
IsNoAnswer said.Broken = Unit {0}

-- an answer to a request that was sent has its form; to no other is there one
abbrev pub Answers : State → Said → Type 0
Answers state.Idle told = IsNoAnswer told
Answers (state.Sent talk) told = IsSaid talk.request told
Answers (state.Unsent request) told = IsNoAnswer told
Answers (state.Held request ending) told = IsNoAnswer told
