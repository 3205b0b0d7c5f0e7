-- What an honest and prompt store may tell at a poll.
use Rattle.std.specs.Prelude.{◌≡◌, ℕ, true}
use Rattle.backend_trait.specs.declared.answer.Answer.{Answer}
use Rattle.backend_trait.specs.declared.answer.Polled.{Polled}
use Rattle.backend_trait.specs.declared.answer.Polled.TheVariants as polls
use Rattle.backend_trait.specs.Store.{Store}
use Rattle.backend_trait.specs.Acts.{IsPromptly}
use Rattle.backend_trait.specs.Acting.{MayAct}

-- an answer that the table allows, as a prompt store gives it
abbrev pub IsAnswer : Store → ℕ → Answer → Type 0
IsAnswer st s answer = MayAct st s answer × IsPromptly st s (polls.Answered answer)

-- a prompt store waits only here
abbrev pub IsWait : Store → ℕ → Type 0
IsWait st s = IsPromptly st s polls.NotYet

-- no want of memory, and a loss only of a store that is lost
abbrev pub IsRight : Store → ℕ → Polled → Type 0
IsRight st s (polls.Answered answer) = IsAnswer st s answer
IsRight st s polls.NotYet = IsWait st s
IsRight st s polls.Lost = st.lost ≡ true
IsRight st s polls.NoMemory = ⊥
