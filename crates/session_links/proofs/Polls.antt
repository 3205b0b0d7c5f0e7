-- What a poll leaves behind an answer.
use Rattle.std.proofs.Common.{◌≡◌, ℕ, Option, Some, None}
use Rattle.backend_trait.specs.declared.request.Request.{Request}
use Rattle.backend_trait.specs.declared.answer.Answer.{Answer}
use Rattle.backend_trait.specs.declared.answer.Polled.TheVariants as polls
use Rattle.backend_trait.specs.LinkForms.{IsPolled}
use Rattle.session_links.specs.Slots.{AnswersTo}

pub answered : (old new : Option Request) (answer : Answer) (before after : ℕ) → IsPolled (polls.Answered answer) old new before after → (new ≡ None) × AnswersTo old answer
answered (Some asked) new answer before after is = (is.1, is.0)
answered None new answer before after is = absurd is
