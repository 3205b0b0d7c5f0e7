-- What a post and a poll of a link leave.
use Rattle.std.specs.Prelude.{◌≡◌, ℕ, Option, Some, None}
use Rattle.pool_base.specs.Outside.{Rose}
use Rattle.backend_trait.specs.declared.request.Request.{Request}
use Rattle.backend_trait.specs.declared.request.Posted.{Posted}
use Rattle.backend_trait.specs.declared.request.Posted.TheVariants as posts
use Rattle.backend_trait.specs.declared.answer.Polled.{Polled}
use Rattle.backend_trait.specs.declared.answer.Polled.TheVariants as polls
use Rattle.backend_trait.specs.Acts.{IsOf}

-- the request is pending, or memory was refused and it came back
abbrev pub IsPosted : Posted → Request → Option Request → Type 0
IsPosted posts.Accepted asked pending = pending ≡ Some asked
IsPosted (posts.NoMemory back) asked pending = (back ≡ asked) × (pending ≡ None)

-- an answer has the form of the request that is pending, which is pending no more; Lost comes only where the count of faults rose
abbrev pub IsPolled : Polled → Option Request → Option Request → ℕ → ℕ → Type 0
IsPolled (polls.Answered answer) None new before after = ⊥
IsPolled (polls.Answered answer) (Some asked) new before after = IsOf asked answer × (new ≡ None)
IsPolled polls.NotYet old new before after = new ≡ old
IsPolled polls.Lost old new before after = (new ≡ old) × Rose before after
IsPolled polls.NoMemory old new before after = new ≡ old
